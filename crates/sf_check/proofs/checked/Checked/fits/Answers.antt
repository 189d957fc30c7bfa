use Rattle.std.proofs.Common.{subst}
use Rattle.sf_check.specs.Accepting.{accepted_program, types_checked}
use Rattle.sf_check.specs.Calling.{AreCalledAlike}
use Rattle.sf_check.proofs.Finding.{now_accepted}
use Rattle.sf_check.proofs.Alike.{accepted_over}
use Rattle.sf_check.proofs.checked.Checked.fits.Goals as goal

pub returns-clause-accepted : goal.returns-clause-accepted
returns-clause-accepted g c = λ h.
    let k = c.args.self.now in
    let types = g.R.Holds.types c.args.functions.now in
    accepted_over (types_checked k) types (accepted_program k) (subst (λ x. AreCalledAlike x (types_checked k) types) c.expressions.ensures (c.are_called_alike.ensures.0 h)) (now_accepted k)
