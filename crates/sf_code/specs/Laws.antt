-- What holds of code.
use Rattle.std.specs.Prelude.{◌≡◌, true, List, [], ◌∷◌}
use Rattle.sf_value.specs.Values.{Name, Data}
use Rattle.sf_expr.specs.Expressions.{Pattern, Expression, function}
use Rattle.sf_expr.specs.Evaluation.{Scope, scope_functions, value_of, eval, apply}
use Rattle.sf_code.specs.Running.{run}
use Rattle.sf_code.specs.Compiling.{compiled, is_closed, frames_scope}

-- the code of each expression is worth over values what the expression is worth where the patterns' names have them, inside a scope
abbrev pub EachIsCompiled : Type 0
EachIsCompiled = (e : Expression) (s : Scope) (ps : List Pattern) (vs : List Data) → run (compiled (λ x. value_of x s) ps e) vs (scope_functions s) ≡ eval e (frames_scope ps vs s)

-- the code of each function, with its argument in the only frame, is worth what the function answers
abbrev pub EachFunctionIsCompiled : Type 0
EachFunctionIsCompiled = (p : Pattern) (e : Expression) (s : Scope) (d : Data) → run (compiled (λ x. value_of x s) (p ∷ []) e) (d ∷ []) (scope_functions s) ≡ apply (function p e) d s

-- where the patterns bind each name of an expression, its code is the same whatever the values around are
abbrev pub ClosedIsTheSame : Type 0
ClosedIsTheSame = (e : Expression) (w v : Name → Data) (ps : List Pattern) → is_closed ps e ≡ true → compiled w ps e ≡ compiled v ps e
