use Rattle.sf_differ.proofs.Told.{room_on}
use Rattle.sf_check.proofs.blaming.suits_type.Goals as goal

pub returns-in_err-clone_in-clause-err : goal.returns-in_err-clone_in-clause-err
returns-in_err-clone_in-clause-err c = room_on _ _ c.from_residual.ensures.1
