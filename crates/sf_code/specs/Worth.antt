-- What code is of.
use Rattle.std.specs.Prelude.{◌≡◌, Bool, true, List, [], ◌∷◌, Option, Some, None, option_to_list, Box}
use Rattle.std.specs.declared.alloc.Global.{Global}
use Rattle.sf_value.specs.Values.{Data, unit, pair}
use Rattle.sf_expr.specs.Expressions.{Pattern, unnamed, named, both, Expression, Function, function}
use Rattle.sf_expr.specs.declared.exprs.Exprs.{Exprs}
use Rattle.sf_expr.specs.Evaluation.{Scope, value_of, scope_functions, eval, apply}
use Rattle.sf_code.specs.declared.code.Code.{Code}
use Rattle.sf_code.specs.declared.open.OpenCode.{OpenCode}
use Rattle.sf_code.specs.declared.open.Closure.{Closure}
use Rattle.sf_code.specs.CodeView.{code_of}
use Rattle.sf_code.specs.Compiling.{is_closed}
use Rattle.sf_code.specs.declared.around.Around.{Around}
use Rattle.sf_code.specs.Around.{pattern_around, patterns_around}
use Rattle.sf_code.specs.Running.{run}

-- the values of a pattern's names in a scope, in the pattern's shape
abbrev pub pattern_values : Scope → Pattern → Data
pattern_values s unnamed = unit
pattern_values s (named x) = value_of x s
pattern_values s (both p q) = pair (pattern_values s p) (pattern_values s q)

-- the frame of the names around code, if it has any
abbrev pub frame_around : Exprs → Option (Box Around Global) → Scope → List Data
frame_around x None s = []
frame_around x (Some p) s = pattern_values s (pattern_around x p.value) ∷ []

-- Code over a frame of the names around it is that of an expression in a scope: it is worth the same.
pub record IsCodeOfIn (s : Scope) (e : Expression) (around : List Data) (c : Code) : Type 0 where
  pub worth : run (code_of c) around (scope_functions s) ≡ eval e s

-- Code over a frame of the names around it is that of a function in a scope: with its argument in a frame inside that one it
-- is worth what the function answers.
pub record AnswersAsFunction (s : Scope) (g : Function) (around : List Data) (c : Code) : Type 0 where
  pub worth : (d : Data) → run (code_of c) (d ∷ around) (scope_functions s) ≡ apply g d s

-- Code is that of an expression in every scope, over the values that its names have there: the names around it, which stand among these
-- expressions, are all of them.
pub record IsCodeOf (x : Exprs) (e : Expression) (c : OpenCode) : Type 0 where
  pub closed : is_closed (patterns_around x c.around) e ≡ true
  pub worth : (s : Scope) → run (code_of c.code) (frame_around x c.around s) (scope_functions s) ≡ eval e s

-- whether patterns bind each name of a function that its own doesn't
abbrev pub is_closed_within : List Pattern → Function → Bool
is_closed_within ps (function p e) = is_closed (p ∷ ps) e

-- Code is that of a function in every scope, likewise.
pub record IsCodeOfFunction (x : Exprs) (g : Function) (c : OpenCode) : Type 0 where
  pub closed : is_closed_within (patterns_around x c.around) g ≡ true
  pub worth : (s : Scope) (d : Data) → run (code_of c.code) (d ∷ frame_around x c.around s) (scope_functions s) ≡ apply g d s

-- A closure is that of a function in a scope: its code is, over the value that it has.
abbrev pub IsClosureOf : Scope → Function → Closure → Type 0
IsClosureOf s g c = AnswersAsFunction s g (option_to_list c.around) c.function.value.code
