use Rattle.std.proofs.Common.{◌≡◌, find, drop}
use Rattle.sf_lex.specs.Scanning.{is_keyword}
use Rattle.sf_lex.proofs.word.keyword_among.Given as goal

abbrev pub invariant-loop-keyword : goal.invariant-loop-keyword
invariant-loop-keyword l = find (is_keyword l.word) (drop l.keyword-index l.keywords) ≡ find (is_keyword l.word) l.keywords
