use Rattle.std.proofs.Common.{◌≡◌, ◌+◌, ◌≤◌, fold, take}
use Rattle.sf_lex.specs.Tokens.{place_step}
use Rattle.sf_lex.proofs.place.after.Given as goal

abbrev pub invariant-loop-b : goal.invariant-loop-b
invariant-loop-b l = record {
  passed : l.place ≡ fold place_step l.fn.place (take l.b-index l.passed);
  line : l.place.line ≤ l.fn.place.line + l.b-index;
  column : l.place.column ≤ l.fn.place.column + l.b-index;
}
