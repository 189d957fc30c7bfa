-- The one type that expressions and terms can have, and its bound.
use Rattle.std.proofs.Common.{◌≡◌, sym, subst}
use Rattle.sf_value.specs.Values.{KeyKind, Kind, table_kind}
use Rattle.sf_expr.specs.declared.exprs.ExprId.{ExprId}
use Rattle.sf_expr.specs.declared.exprs.FunctionId.{FunctionId}
use Rattle.sf_expr.specs.Arena.{expression, function_at}
use Rattle.sf_expr.specs.Expressions.{Expression, Function}
use Rattle.sf_expr.specs.Typing.{Names, Fits, HasType, variable_has, literal_has, pair_has, applied_has, operation_has, conditional_has, mapped_has, folded_has, called_has, FunctionTakes, function_takes}
pub use Rattle.sf_expr.proofs.Judged.{one_type}
use Rattle.sf_term.specs.declared.program.Program.{Program}
use Rattle.sf_term.specs.Trees.{Primitive}
use Rattle.sf_term.specs.Arena.{program_expressions, program_expression, program_function}
use Rattle.sf_term.proofs.Extended.{expression_in, function_at_in}
use Rattle.sf_mean.specs.Contexts.{Context}
use Rattle.sf_mean.specs.Typing.{PrimitiveTakes, bare_takes, probe_takes, never_takes, value_takes, timed_takes, selected_takes, accumulated_takes, arrow_takes, fused_takes}
pub use Rattle.sf_mean.proofs.Inferred.{takes_one, input_fits, output_fits, form_of}

expression_fits : {R : Names} {e : Expression} {t : Kind} → HasType R e t → Fits t
expression_fits (variable_has h f) = f
expression_fits (literal_has h f) = f
expression_fits (pair_has h i f) = f
expression_fits (applied_has h e f) = f
expression_fits (operation_has h i e f) = f
expression_fits (conditional_has h i j e f) = f
expression_fits (mapped_has h a f b i e g) = g
expression_fits (folded_has h i a f b j e g) = g
expression_fits (called_has h e f) = f

-- a function takes a type that fits
pub argument_fits : {R : Names} {f : Function} {t u : Kind} → FunctionTakes R f t u → Fits t
argument_fits (function_takes fits binds h) = fits

function_fits : {R : Names} {f : Function} {t u : Kind} → FunctionTakes R f t u → Fits u
function_fits (function_takes fits binds h) = expression_fits h

pub primitive_fits : {Γ : Context} {q : Primitive} {a b : Kind} → Fits a → PrimitiveTakes Γ q a b → Fits b
primitive_fits f (bare_takes h g) = g
primitive_fits f (probe_takes g) = g
primitive_fits f (never_takes g) = g
primitive_fits f (value_takes v h g) = g
primitive_fits f (timed_takes v m w h g) = g
primitive_fits f (selected_takes h w g) = g
primitive_fits f (accumulated_takes v h k e g) = g
primitive_fits f (arrow_takes h) = function_fits h
primitive_fits f (fused_takes h g) = g

-- the two types in a type of tables
pub keys_of_table : {k l : KeyKind} {b c : Kind} → table_kind k b ≡ table_kind l c → k ≡ l
keys_of_table e = cc

pub values_of_table : {k l : KeyKind} {b c : Kind} → table_kind k b ≡ table_kind l c → b ≡ c
values_of_table e = cc

-- an expression and a function at an id
module _ (p : Program) {R : Names} where
  pub typed_in : (v : ExprId) {t : Kind} → HasType R (program_expression p v) t → HasType R (expression (program_expressions p) v) t
  typed_in v {t} h = subst (λ e. HasType R e t) (sym (expression_in p v)) h

  pub typed_under : (v : ExprId) {t : Kind} → HasType R (expression (program_expressions p) v) t → HasType R (program_expression p v) t
  typed_under v {t} h = subst (λ e. HasType R e t) (expression_in p v) h

  pub taken_in : (f : FunctionId) {t u : Kind} → FunctionTakes R (program_function p f) t u → FunctionTakes R (function_at (program_expressions p) f) t u
  taken_in f {t} {u} h = subst (λ f. FunctionTakes R f t u) (sym (function_at_in p f)) h

  pub taken_under : (f : FunctionId) {t u : Kind} → FunctionTakes R (function_at (program_expressions p) f) t u → FunctionTakes R (program_function p f) t u
  taken_under f {t} {u} h = subst (λ f. FunctionTakes R f t u) (function_at_in p f) h
