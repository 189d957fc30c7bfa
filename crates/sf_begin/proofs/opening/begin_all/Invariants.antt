use Rattle.std.proofs.Common.{take}
use Rattle.sf_mean.specs.Lives.{Environment}
use Rattle.sf_state.specs.Standing.{IsNames}
use Rattle.sf_state.specs.Machine.{Machine}
use Rattle.sf_begin.specs.Beginning.{AllBegin}
use Rattle.sf_begin.proofs.opening.begin_all.Given as goal

abbrev pub invariant-loop-stage : goal.invariant-loop-stage
invariant-loop-stage l = (μ : Machine) (e : Environment) → IsNames μ l.names e → AllBegin μ e (take l.stage-index l.stages) l.begun.items
