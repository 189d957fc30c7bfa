-- The code of expressions and functions in scopes.
use Rattle.std.proofs.Common.{◌≡◌, Bool, true, false, cond, List, [], ◌∷◌, refl, ap, sym, ◌∙◌}
use Rattle.std.specs.Prelude.{Option, Some, None, bytes_eq, Box}
use Rattle.std.specs.declared.alloc.Global.{Global}
use Rattle.std.proofs.lemmas.Slice.Eq.{bytes_eq-Decides}
use mathlib.Core.Path.{ap₂, fun_ext}
use Rattle.sf_value.specs.Values.{Name, Data}
use Rattle.sf_func.specs.Registries.{AnswersByName}
use Rattle.sf_operator.specs.Outcomes.{nonsense}
use Rattle.sf_expr.specs.declared.exprs.Exprs.{Exprs}
use Rattle.sf_expr.specs.Expressions.{Pattern, unnamed, named, both, Expression, function}
use Rattle.sf_expr.specs.Evaluation.{Scope, scope_functions, value_of, bound_in, eval}
use Rattle.sf_code.specs.declared.open.OpenCode.{OpenCode}
use Rattle.sf_code.specs.CodeView.{code_of}
use Rattle.sf_code.specs.Codes.{Code}
use Rattle.sf_code.specs.declared.around.Around.{Around}
use Rattle.sf_code.specs.Around.{pattern_around, patterns_around}
use Rattle.sf_code.specs.Running.{run}
use Rattle.sf_code.specs.Compiling.{path_of_name, compiled, is_closed, closed_code, frames_scope}
use Rattle.sf_code.specs.Worth.{pattern_values, frame_around, IsCodeOf, IsCodeOfFunction}
use Rattle.sf_code.proofs.Compiled.{part_or, part_inner, value_bound, functions_bound, functions_under, compiled_worth, closed_same}

-- the values of a pattern's names are found by it
part_there : (x : Name) (p : Pattern) (s : Scope) → part_or (path_of_name x p) (pattern_values s p) (value_of x s) ≡ value_of x s
part_there x unnamed s = refl
part_there x (named y) s = by (bytes_eq x y) refl
  where
    by : (b : Bool) → bytes_eq x y ≡ b → part_or (cond b (Some []) None) (value_of y s) (value_of x s) ≡ value_of x s
    by true same = ap (λ (z : Name). value_of z s) (sym ((bytes_eq-Decides x y).0 same))
    by false same = refl
part_there x (both p q) s =
    sym (part_inner (path_of_name x q) (path_of_name x p) (pattern_values s (both p q)) (value_of x s))
    ∙ ap (λ (d : Data). part_or (path_of_name x q) (pattern_values s q) d) (part_there x p s)
    ∙ part_there x q s

-- an expression is worth the same where its names have the same values
eval_same : (e : Expression) (s t : Scope) → ((x : Name) → value_of x s ≡ value_of x t) → scope_functions s ≡ scope_functions t → eval e s ≡ eval e t
eval_same e s t values functions =
    sym (compiled_worth s e [] []) ∙ ap₂ (λ (w : Name → Data) (f : AnswersByName). run (compiled w [] e) [] f) (fun_ext values) functions ∙ compiled_worth t e [] []

-- the code of an expression of which the patterns bind each name
closed_worth : (ps : List Pattern) (e : Expression) (vs : List Data) (s : Scope) → is_closed ps e ≡ true → run (closed_code ps e) vs (scope_functions s) ≡ eval e (frames_scope ps vs s)
closed_worth ps e vs s closed = ap (λ (k : Code). run k vs (scope_functions s)) (closed_same (λ x. nonsense) (λ x. value_of x s) e ps closed) ∙ compiled_worth s e ps vs

module _ (a : Exprs) (o : Option (Box Around Global)) (s : Scope) where
  -- the scope inside the frame of the names around
  abbrev within : Scope
  within = frames_scope (patterns_around a o) (frame_around a o s) s

  same_value : (x : Name) → value_of x within ≡ value_of x s
  same_value x = by o
    where
      by : (o : Option (Box Around Global)) → value_of x (frames_scope (patterns_around a o) (frame_around a o s) s) ≡ value_of x s
      by None = refl
      by (Some p) = value_bound x (pattern_around a p.value) (pattern_values s (pattern_around a p.value)) s ∙ part_there x (pattern_around a p.value) s

  same_functions : scope_functions within ≡ scope_functions s
  same_functions = functions_under s (patterns_around a o) (frame_around a o s)

  expression_worth : (e : Expression) → is_closed (patterns_around a o) e ≡ true → run (closed_code (patterns_around a o) e) (frame_around a o s) (scope_functions s) ≡ eval e s
  expression_worth e closed = closed_worth (patterns_around a o) e (frame_around a o s) s closed ∙ eval_same e within s same_value same_functions

  function_worth : (p : Pattern) (e : Expression) (d : Data) → is_closed (p ∷ patterns_around a o) e ≡ true → run (closed_code (p ∷ patterns_around a o) e) (d ∷ frame_around a o s) (scope_functions s) ≡ eval e (bound_in p d s)
  function_worth p e d closed =
      closed_worth (p ∷ patterns_around a o) e (d ∷ frame_around a o s) s closed
      ∙ eval_same e (bound_in p d within) (bound_in p d s)
      (λ x. value_bound x p d within ∙ ap (λ (v : Data). part_or (path_of_name x p) d v) (same_value x) ∙ sym (value_bound x p d s))
      (functions_bound p d within ∙ same_functions ∙ sym (functions_bound p d s))

-- code that is made with a frame of the names around it
pub is_code_of : (a : Exprs) (e : Expression) (c : OpenCode) (ps : List Pattern) → ps ≡ patterns_around a c.around → is_closed (patterns_around a c.around) e ≡ true → code_of c.code ≡ closed_code ps e → IsCodeOf a e c
is_code_of a e c ps only closed made = record {
  closed = closed;
  worth = λ s. ap (λ (k : Code). run k (frame_around a c.around s) (scope_functions s)) (made ∙ ap (λ (q : List Pattern). closed_code q e) only) ∙ expression_worth a c.around s e closed;
}

pub is_code_of_function : (a : Exprs) (p : Pattern) (e : Expression) (c : OpenCode) (ps : List Pattern) → ps ≡ p ∷ patterns_around a c.around → is_closed (p ∷ patterns_around a c.around) e ≡ true → code_of c.code ≡ closed_code ps e → IsCodeOfFunction a (function p e) c
is_code_of_function a p e c ps only closed made = record {
  closed = closed;
  worth = λ s d. ap (λ (k : Code). run k (d ∷ frame_around a c.around s) (scope_functions s)) (made ∙ ap (λ (q : List Pattern). closed_code q e) only) ∙ function_worth a c.around s p e d closed;
}
