use Rattle.sf_check.proofs.Types.{input_fits}
use Rattle.sf_check.proofs.Finding.{main_takes}
use Rattle.sf_check.proofs.checked.Checked.main.Goals as goal

pub returns-clause-typed : goal.returns-clause-typed
returns-clause-typed c = main_takes c.args.self.now

pub returns-clause-fits : goal.returns-clause-fits
returns-clause-fits c = input_fits (main_takes c.args.self.now)

pub returns-clause-stands : goal.returns-clause-stands
returns-clause-stands c = (c.main_template.result.now, c.main_template.ensures.stands, c.body.ensures)
