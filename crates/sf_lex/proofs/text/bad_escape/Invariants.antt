use Rattle.std.proofs.Common.{◌≡◌, false, drop}
use Rattle.sf_lex.specs.Scanning.{bad_escape}
use Rattle.sf_lex.proofs.text.bad_escape.Given as goal

abbrev pub invariant-loop-i : goal.invariant-loop-i
invariant-loop-i l = bad_escape l.i l.is_escaped (drop l.i l.body) ≡ bad_escape 0 false l.body
