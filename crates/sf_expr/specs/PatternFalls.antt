-- Each pattern inside a pattern is made of fewer patterns.
use Rattle.std.specs.Prelude.{◌≤◌, max}
use Rattle.std.proofs.Common.{arith}
use Rattle.sf_expr.specs.Patterns.{pattern_size}
use Rattle.sf_expr.specs.PatternView.{pattern_placed}
use Rattle.sf_expr.specs.declared.pat.PatForm.{PatForm}
use Rattle.sf_expr.specs.declared.pat.PatForm.TheVariants.{Unnamed, Name, Both}
use Rattle.sf_expr.specs.declared.pat.Pat.TheDeep.{deep-PatForm}

pub deep_le-pattern_size : (f : PatForm) → max (deep-PatForm f) 0 ≤ pattern_size (pattern_placed f)
deep_le-pattern_size Unnamed = omega arith
deep_le-pattern_size (Name x s) = omega arith
deep_le-pattern_size (Both p q) = omega arith
