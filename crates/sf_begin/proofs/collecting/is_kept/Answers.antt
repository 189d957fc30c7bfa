use Rattle.std.proofs.Common.{◌≡◌}
use Rattle.sf_value.specs.declared.fault.Fault.TheVariants.{Memory}
use Rattle.sf_mean.specs.Formulas.{is_high}
use Rattle.sf_begin.specs.Beginning.{makes, makes_nothing}
use Rattle.sf_begin.proofs.Arguments.{made_failure}
use Rattle.sf_begin.proofs.Collected.{not_told}
use Rattle.sf_begin.proofs.collecting.is_kept.Goals as goal

pub returns-in_err-value : goal.returns-in_err-value
returns-in_err-value g c = λ f s h C. made_failure _ _ _ Memory c.from_residual.ensures.1 makes_nothing

pub returns-in-Ok : goal.returns-in-Ok
returns-in-Ok g c = λ f s h C. makes (rw c.in_ok-value.ensures at (c.in-Ok.ensures s h f C)) c.is_high.ensures

pub returns : goal.returns
returns g c = λ f s h C. rw c.fault_of.ensures (not_told (λ b v. b ≡ is_high v) c.in-Err.fault (rw c.in_ok-value.ensures at (c.in-Err.ensures s h f C)))
