use Rattle.sf_step.proofs.Exits.{sample_steps, sample_fails}
use Rattle.sf_step.proofs.sample.step.Goals as goal

pub returns-in-Err-clause-answers : goal.returns-in-Err-clause-answers
returns-in-Err-clause-answers g c =
    sample_fails _ c.args.state.now c.step_state.new.state _ _ c.fault.result c.fault.ensures c.reset.ensures.entered c.reset.ensures.height
    c.in-Err.ensures

pub returns-in-Ok-clause-answers : goal.returns-in-Ok-clause-answers
returns-in-Ok-clause-answers g c =
    sample_steps _ c.args.state.now c.step_state.new.state _ c.step_state.new.value c.take_readings.result c.reset.ensures.entered c.reset.ensures.height c.reset.ensures.readings
    c.in-Ok.ensures c.take_readings.ensures.taken c.take_readings.ensures.entered c.take_readings.ensures.height
