use Rattle.sf_differ.proofs.Told.{told_on, room_on}
use Rattle.sf_check.proofs.Unlike.{untold}
use Rattle.sf_check.proofs.blaming.suits_members.Goals as goal

pub returns-in_err-wanted-clause-err : goal.returns-in_err-wanted-clause-err
returns-in_err-wanted-clause-err c = room_on _ _ c.from_residual.ensures.1

pub returns-in_err-table-clause-err : goal.returns-in_err-table-clause-err
returns-in_err-table-clause-err c = told_on _ _ c.from_residual-in_err-table.ensures.1 (untold c.in_err-table.ensures.err)

pub returns-in_err-other-clause-err : goal.returns-in_err-other-clause-err
returns-in_err-other-clause-err c = told_on _ _ c.from_residual-in_err-other.ensures.1 (untold c.in_err-other.ensures.err)
