use Rattle.std.proofs.lemmas.Result.{IfOk-weaker}
use Rattle.sf_coincidence.proofs.Same.{alike_itself}
use Rattle.sf_state.specs.Standing.{is_closure}
use Rattle.sf_state.specs.Machine.{machine}
use Rattle.sf_state.proofs.Fewer.{term_closed}
use Rattle.sf_state.proofs.env.Env.mentioned_in.Goals as goal

pub returns-in-None : goal.returns-in-None
returns-in-None c = IfOk-weaker c.share.result _ _ (λ names same φ e N. is_closure (alike_itself _) (same (machine φ c.args.plan.now) e N)) c.share.ensures

pub returns-in-None-2 : goal.returns-in-None-2
returns-in-None-2 c = IfOk-weaker c.share-in-None-2.result _ _ (λ names same φ e N. is_closure (alike_itself _) (same (machine φ c.args.plan.now) e N)) c.share-in-None-2.ensures

pub returns-in-Some-2 : goal.returns-in-Some-2
returns-in-Some-2 c = λ φ e N.
    term_closed (machine φ c.args.plan.now) c.args.term c.in-Some.ensures ((rw c.in-Some-2.is at c.in_ok-names.ensures) φ e N)
