use Rattle.std.proofs.Common.{◌≡◌, ◌++◌, false, drop}
use Rattle.sf_lex.specs.Scanning.{unescaped}
use Rattle.sf_lex.proofs.text.unescaped.Given as goal

abbrev pub invariant-loop-b : goal.invariant-loop-b
invariant-loop-b l = l.chars.items ++ unescaped l.is_escaped (drop l.b-index l.body) ≡ unescaped false l.body
