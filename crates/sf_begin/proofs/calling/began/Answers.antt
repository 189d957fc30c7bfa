use Rattle.std.proofs.Common.{ap, subst}
use Rattle.std.specs.Option.{option_map}
use Rattle.sf_expr.specs.Arena.{name_at}
use Rattle.sf_law.specs.Arena.{plan_expressions}
use Rattle.sf_mean.specs.Lives.{process_of}
use Rattle.sf_state.specs.Standing.{IsFound}
use Rattle.sf_state.specs.Machine.{machine}
use Rattle.sf_begin.proofs.References.{when_ok, passing_base}
use Rattle.sf_begin.proofs.calling.began.Goals as goal

pub returns-in-Some : goal.returns-in-Some
returns-in-Some c = when_ok c.share.result (λ process shared φ e N under asked.
    let p = c.args.plan.now in
    let found = c.running.ensures φ e N in
    let k = name_at (plan_expressions p) c.args.name in
    shared (machine φ p) _ ((subst (λ r. IsFound (machine φ p) k (option_map (λ r. r.now) r) (process_of k e)) c.in-Some.is found).1 asked)) c.share.ensures

pub returns-in-None : goal.returns-in-None
returns-in-None c = λ φ e N under asked.
    let p = c.args.plan.now in
    let found = c.running.ensures φ e N in
    passing_base (machine φ p) (name_at (plan_expressions p) c.args.name) _ _ _ (ap (option_map (λ r. r.now)) c.in-None.is) c.passing-in-None.ensures found
