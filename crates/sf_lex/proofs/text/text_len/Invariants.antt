use Rattle.std.proofs.Common.{◌≡◌, false, drop}
use Rattle.sf_lex.specs.Scanning.{text_len}
use Rattle.sf_lex.proofs.text.text_len.Given as goal

abbrev pub invariant-loop-i : goal.invariant-loop-i
invariant-loop-i l = text_len l.i l.is_escaped (drop l.i l.bytes) ≡ text_len 0 false l.bytes
