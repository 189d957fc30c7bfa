use Rattle.std.proofs.Common.{◌∙◌, refl}
use Rattle.sf_engine.proofs.Going.{goes_first}
use Rattle.sf_engine.proofs.engine.Engine.new.Goals as goal
use Rattle.sf_state.specs.Machine.{machine}

pub returns-clause-runs : goal.returns-clause-runs
returns-clause-runs g c =
    let φ = g.F.Holds.answers c.args.functions in
    goes_first refl (c.in-Ok-planned.ensures φ) (c.in-Ok.ensures.same ∙ c.input.ensures) (rw c.main.ensures at c.unborn-state.ensures (machine φ c.in-Ok-planned.plan)) refl refl c.new.ensures.empty
