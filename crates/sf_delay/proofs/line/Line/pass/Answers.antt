use Rattle.sf_delay.proofs.line.Line.pass.Goals as goal

pub returns-in-None-clause-passes : goal.returns-in-None-clause-passes
returns-in-None-clause-passes c = c.pass_own.ensures.passes c.in-None.is
