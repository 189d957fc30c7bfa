use Rattle.std.proofs.Common.{◌∙◌, refl, sym, true≢false}
use Rattle.sf_differ.specs.Differences.{tells}
use Rattle.sf_differ.proofs.Told.{room_on}
use Rattle.sf_differ.proofs.suiting.suited.Goals as goal

pub returns-in_err-clone_in-clause-err : goal.returns-in_err-clone_in-clause-err
returns-in_err-clone_in-clause-err c = room_on _ _ c.from_residual.ensures.1

pub returns-clause-err : goal.returns-clause-err
returns-clause-err c = tells (record { at = refl; found = c.in_ok-clone_in.ensures.same; wanted = c.in-Some.is; other = λ h. true≢false (sym (c.suits.ensures.1 h) ∙ c.if-suits.false) })
