use Rattle.std.proofs.Common.{◌≡◌, find, drop}
use Rattle.sf_lex.specs.Scanning.{begins_with}
use Rattle.sf_lex.proofs.symbol.symbol_among.Given as goal

abbrev pub invariant-loop-symbol : goal.invariant-loop-symbol
invariant-loop-symbol l = find (begins_with l.bytes) (drop l.symbol-index l.symbols) ≡ find (begins_with l.bytes) l.symbols
