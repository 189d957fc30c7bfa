use Rattle.std.proofs.Common.{subst}
use Rattle.std.specs.Prelude.{IfOk}
use Rattle.sf_law.specs.Copies.{stands_under, CopiesCollection}
use Rattle.sf_law.proofs.members.plan_members.Goals as goal

pub returns-clause-same : goal.returns-clause-same
returns-clause-same c = subst (λ i. IfOk c.plan_collection.result (λ a. CopiesCollection (stands_under c.args.terms) i a.value)) c.collection.ensures c.plan_collection.ensures.same
