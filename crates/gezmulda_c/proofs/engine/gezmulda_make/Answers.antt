use Rattle.std.proofs.Common.{[], sym, subst}
use Rattle.sf_refusal.specs.Refusals.{no_memory, refusal_text}
use Rattle.gezmulda_c.specs.Holding.{MakesRun, started, refused}
use Rattle.gezmulda_c.proofs.Saying.{said_due}
use Rattle.gezmulda_c.proofs.engine.gezmulda_make.Goals as goal

pub returns-in-Ok-new : goal.returns-in-Ok-new
returns-in-Ok-new c = ([], rw c.put.ensures (rw c.in-Ok-new.ensures.ok (started c.in-Ok.ensures.started)), c.give.ensures)

pub returns-in-Ok : goal.returns-in-Ok
returns-in-Ok c =
    let said = c.refuse.ensures.given in
    (refusal_text said.0, subst (λ k. MakesRun c.args.probes c.args.net.now k (refusal_text said.0) c.args.handle.now.session) (sym c.refuse.ensures.status) (rw c.requires (refused (said_due no_memory said.1))), said.2)

pub returns : goal.returns
returns c =
    let said = c.refuse-in-Err.ensures.given in
    (refusal_text said.0, subst (λ k. MakesRun c.args.probes c.args.net.now k (refusal_text said.0) c.args.handle.now.session) (sym c.refuse-in-Err.ensures.status) (rw c.requires (refused (said_due c.in-Err.ensures.refused said.1))), said.2)
