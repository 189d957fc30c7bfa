use Rattle.sf_check.proofs.Finding.{main_named, now_accepted, main_bare}
use Rattle.sf_check.proofs.checked.Checked.program.Goals as goal

pub returns-clause-accepted : goal.returns-clause-accepted
returns-clause-accepted c = now_accepted c.args.self.now

pub returns-clause-main : goal.returns-clause-main
returns-clause-main c = main_named c.args.self.now

pub returns-clause-bare : goal.returns-clause-bare
returns-clause-bare c = main_bare c.args.self.now
