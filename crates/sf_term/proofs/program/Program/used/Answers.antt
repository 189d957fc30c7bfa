use Rattle.std.proofs.Common.{refl, ap}
use Rattle.sf_term.specs.Trees.{used}
use Rattle.sf_term.specs.Arena.{program_expressions}
use Rattle.sf_term.proofs.Extended.{used_next}
use Rattle.sf_term.proofs.Refused.{builds_none, still_room, itself}
use Rattle.sf_term.proofs.program.Program.used.Goals as goal

pub returns-in_err-name : goal.returns-in_err-name
returns-in_err-name c = builds_none _ _ _ _ _ _ c.from_residual.result _ c.from_residual.ensures.1 c.in_err-name.ensures.refused refl refl itself c.in_err-name.ensures.same

pub returns : goal.returns
unfolding program_expressions
returns c =
    let put = c.in_ok-name.ensures in
    record {
      ok = record { is = used_next _ _ _ _ put.ok.next; whole = put.ok.within; made = ap used put.ok.is; same = put.same };
      refused = still_room _ _ _ _ _ _ put.refused refl refl itself tt;
      err = tt;
    }
