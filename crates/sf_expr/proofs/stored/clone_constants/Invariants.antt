use Rattle.std.proofs.Common.{◌≡◌, take}
use Rattle.sf_expr.proofs.stored.clone_constants.Given as goal

abbrev pub invariant-loop-constant : goal.invariant-loop-constant
invariant-loop-constant l = l.copies.items ≡ take l.constant-index l.constants
