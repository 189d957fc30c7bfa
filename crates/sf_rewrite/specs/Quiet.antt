-- Quiet terms: by their text they give a value without readings at each step, whatever their input. What they would give
-- can be left out, and they can change places with a part that may fail.
use Rattle.std.specs.Prelude.{Bool, true, false, ◌&&◌}
use Rattle.sf_operator.specs.declared.operator.Unary.{Unary}
use Rattle.sf_operator.specs.declared.operator.Unary.TheVariants.{Size}
use Rattle.sf_operator.specs.declared.operator.Operator.{Operator}
use Rattle.sf_operator.specs.declared.operator.Operator.TheVariants.{Arithmetic, Merge}
use Rattle.sf_operator.specs.declared.operator.Merge.TheVariants.{Exclusive}
use Rattle.sf_expr.specs.Expressions.{Expression, variable, literal, paired, applied, operation, conditional, mapped, folded, called, Function, function}
use Rattle.sf_term.specs.declared.form.Bare.{Bare}
use Rattle.sf_term.specs.declared.form.Bare.TheVariants.{Identity, LocalTime, Integral, Edge, NotYet, Once, Count, Pre}
use Rattle.sf_term.specs.Trees.{Chain, lone, chained, on_side, on_both, fanned, Primitive, bare, probe, never, with_value, timed, selected, arrow, accumulated, fused, Term, primitive, reference, joined, sided, headed, transformed, switching, continuing, staged, gathered, releasing, editing}

-- an operator on a value that always makes one; a table may have more keys than there are numbers
abbrev pub is_quiet_unary : Unary → Bool
is_quiet_unary Size = false
is_quiet_unary o = true

-- an operator on two values that always makes one
abbrev pub is_quiet_operator : Operator → Bool
is_quiet_operator (Arithmetic o) = false
is_quiet_operator (Merge Exclusive) = false
is_quiet_operator op = true

-- an expression of quiet operators has a value; forms with a function make one of what it answers; a stored function may refuse
abbrev pub is_quiet_expression : Expression → Bool
is_quiet_expression (variable x) = true
is_quiet_expression (literal l) = true
is_quiet_expression (paired i j) = is_quiet_expression i && is_quiet_expression j
is_quiet_expression (applied o i) = is_quiet_unary o && is_quiet_expression i
is_quiet_expression (operation i op j) = is_quiet_operator op && (is_quiet_expression i && is_quiet_expression j)
is_quiet_expression (conditional i j k) = is_quiet_expression i && (is_quiet_expression j && is_quiet_expression k)
is_quiet_expression (mapped i m p j) = is_quiet_expression i && is_quiet_expression j
is_quiet_expression (folded i o j p k) = is_quiet_expression i && (is_quiet_expression j && is_quiet_expression k)
is_quiet_expression (called g i) = false

-- so has a function with such a body
abbrev pub is_quiet_function : Function → Bool
is_quiet_function (function p i) = is_quiet_expression i

-- so have functions made into one, if each of them is quiet
abbrev pub is_quiet_chain : Chain → Bool
is_quiet_chain (lone f) = is_quiet_function f
is_quiet_chain (chained f g) = is_quiet_chain f && is_quiet_chain g
is_quiet_chain (on_side d f) = is_quiet_chain f
is_quiet_chain (on_both f g) = is_quiet_chain f && is_quiet_chain g
is_quiet_chain (fanned f g) = is_quiet_chain f && is_quiet_chain g

-- a primitive without constants that always gives a value; a life may last longer, and have more events, than there are
-- numbers
abbrev pub is_quiet_bare : Bare → Bool
is_quiet_bare Identity = true
is_quiet_bare LocalTime = false
is_quiet_bare Integral = false
is_quiet_bare Edge = true
is_quiet_bare NotYet = true
is_quiet_bare Once = true
is_quiet_bare Count = false
is_quiet_bare Pre = true

-- such a primitive, or one of a quiet expression or function; a probe has readings
abbrev pub is_quiet_primitive : Primitive → Bool
is_quiet_primitive (bare k) = is_quiet_bare k
is_quiet_primitive (probe k) = false
is_quiet_primitive (never t) = true
is_quiet_primitive (with_value k i) = is_quiet_expression i
is_quiet_primitive (arrow f) = is_quiet_function f
is_quiet_primitive (timed k q i) = is_quiet_expression i
is_quiet_primitive (selected k n) = true
is_quiet_primitive (accumulated k i f) = is_quiet_expression i && is_quiet_function f
is_quiet_primitive (fused f) = is_quiet_chain f

-- a term whose constants, functions and parts are quiet; a switch isn't, nor is a named process, a call or a collection
abbrev pub is_quiet : Term → Bool
is_quiet (primitive p) = is_quiet_primitive p
is_quiet (reference r) = false
is_quiet (joined j f g) = is_quiet f && is_quiet g
is_quiet (sided d t) = is_quiet t
is_quiet (headed h i t) = is_quiet_expression i && is_quiet t
is_quiet (transformed f t) = is_quiet_function f && is_quiet t
is_quiet (switching w t p u) = false
is_quiet (continuing w t q k p u) = false
is_quiet (gathered i) = false
is_quiet (releasing w i q k p u) = false
is_quiet (editing w i k p u) = false
is_quiet (staged x f g) = is_quiet f && is_quiet g
