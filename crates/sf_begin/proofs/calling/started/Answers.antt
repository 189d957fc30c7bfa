use Rattle.std.proofs.Common.{[], ap, subst}
use Rattle.std.specs.Option.{option_map}
use Rattle.sf_expr.specs.Arena.{name_at}
use Rattle.sf_law.specs.Arena.{plan_expressions}
use Rattle.sf_mean.specs.Lives.{process_of}
use Rattle.sf_state.specs.Standing.{IsFound, itself, unborn}
use Rattle.sf_state.specs.Machine.{machine}
use Rattle.sf_begin.proofs.References.{when_ok, passing_process}
use Rattle.sf_begin.proofs.calling.started.Goals as goal

pub returns-in_ok-began-in-Fresh : goal.returns-in_ok-began-in-Fresh
returns-in_ok-began-in-Fresh c = λ φ e N. let asked = rw c.in-Fresh.is at c.requires in rw c.in-Fresh.is (itself (unborn (c.in_ok-began-in-Fresh.ensures φ e N asked asked)))

pub returns-in-Some : goal.returns-in-Some
returns-in-Some c = when_ok c.share.result (λ process shared φ e N.
    let p = c.args.plan.now in
    let found = c.running.ensures φ e N in
    let k = name_at (plan_expressions p) c.args.name in
    rw c.in-Run.is (shared (machine φ p) _ [] (subst (λ r. IsFound (machine φ p) k (option_map (λ r. r.now) r) (process_of k e)) c.in-Some.is found).0)) c.share.ensures

pub returns-in-None : goal.returns-in-None
returns-in-None c = λ φ e N.
    let p = c.args.plan.now in
    let found = c.running.ensures φ e N in
    rw c.in-Run.is (passing_process (machine φ p) (name_at (plan_expressions p) c.args.name) _ _ _ _ (ap (option_map (λ r. r.now)) c.in-None.is) c.passing.ensures (c.unborn.ensures (machine φ p)) found)
