use Rattle.std.proofs.Common.{◌≡◌, ◌+◌, ◌-◌, ◌≤◌, length}
use Rattle.sf_lex.specs.Tokens.{offset_place}
use Rattle.sf_lex.specs.Cutting.{AreTokensTo}
use Rattle.sf_lex.proofs.lexer.cut.Given as goal

abbrev pub invariant-loop-at : goal.invariant-loop-at
invariant-loop-at l = record {
  tokens : AreTokensTo l.fn.bytes l.at l.found.items;
  valid : l.at ≤ l.fn.valid;
  place : l.place ≡ offset_place l.fn.bytes l.at;
  line : l.place.line ≤ l.at + 1;
  column : l.place.column ≤ l.at + 1;
}

abbrev pub decreases-loop-at : goal.decreases-loop-at
decreases-loop-at l = length l.fn.bytes - l.at
