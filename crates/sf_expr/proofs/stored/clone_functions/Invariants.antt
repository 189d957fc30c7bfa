use Rattle.std.proofs.Common.{◌≡◌, take}
use Rattle.sf_expr.proofs.stored.clone_functions.Given as goal

abbrev pub invariant-loop-function : goal.invariant-loop-function
invariant-loop-function l = l.copies.items ≡ take l.function-index l.functions
