use Rattle.sf_engine.proofs.Acting.{acts_once, does_not_act}
use Rattle.sf_engine.proofs.react.React.react.Goals as goal

pub returns-in_err-sample-clause-running : goal.returns-in_err-sample-clause-running
returns-in_err-sample-clause-running g c = λ n m L S R. (c.step.result, c.step.ensures.running n m L S R, does_not_act _ c.in_err-sample.was c.from_residual.ensures.1)

pub returns-clause-running : goal.returns-clause-running
returns-clause-running g c = λ n m L S R. (c.step.result, c.step.ensures.running n m L S R, acts_once c.in_ok-sample.was c.act.ensures)
