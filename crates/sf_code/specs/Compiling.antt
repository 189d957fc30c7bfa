-- The code of expressions.
use Rattle.std.specs.Prelude.{◌≡◌, Bool, true, ◌&&◌, cond, bytes_eq, List, [], ◌∷◌, map, Option, Some, None, is_some, option_map}
use Rattle.sf_value.specs.Values.{Name, Data}
use Rattle.sf_operator.specs.Outcomes.{nonsense}
use Rattle.sf_expr.specs.Expressions.{Pattern, unnamed, named, both, Expression, Function, function, variable, literal}
use Rattle.sf_expr.specs.Expressions
use Rattle.sf_expr.specs.Evaluation.{Scope, bound_in, literal_value}
use Rattle.sf_code.specs.declared.place.Half.{Half}
use Rattle.sf_code.specs.declared.place.Half.TheVariants.{First, Second}
use Rattle.sf_code.specs.Places.{Place, at_frame, one_out}
use Rattle.sf_code.specs.Codes.{Code, place, constant, paired, applied, operation, conditional, mapped, folded, called}

-- the halves to take where a name stands in the second of two patterns, and else where it stands in the first
abbrev pub inner_path : Option (List Half) → Option (List Half) → Option (List Half)
inner_path (Some hs) o = Some (Second ∷ hs)
inner_path None (Some hs) = Some (First ∷ hs)
inner_path None None = None

-- the halves to take for a name of a pattern: of the same names the last one counts
abbrev pub path_of_name : Name → Pattern → Option (List Half)
path_of_name x unnamed = None
path_of_name x (named y) = cond (bytes_eq x y) (Some []) None
path_of_name x (both p q) = inner_path (path_of_name x q) (path_of_name x p)

-- the place where a name stands in a pattern, and else where it stands in those around
abbrev pub place_or : Option (List Half) → Option Place → Option Place
place_or (Some hs) around = Some (at_frame 0 hs)
place_or None around = option_map one_out around

-- the place of a name among those of the frames' patterns, the innermost first
abbrev pub place_of_name : Name → List Pattern → Option Place
place_of_name x [] = None
place_of_name x (p ∷ ps) = place_or (path_of_name x p) (place_of_name x ps)

-- the code of a name: its place, and without one its value around the frames
abbrev pub code_of_name : Data → Option Place → Code
code_of_name d None = constant d
code_of_name d (Some p) = place p

-- the code of an expression, where the frames have these patterns; a name that none of them binds has a value around the frames
abbrev pub compiled : (Name → Data) → List Pattern → Expression → Code
compiled w ps (variable x) = code_of_name (w x) (place_of_name x ps)
compiled w ps (literal l) = constant (literal_value l)
compiled w ps (Expressions.paired i j) = paired (compiled w ps i) (compiled w ps j)
compiled w ps (Expressions.applied o i) = applied o (compiled w ps i)
compiled w ps (Expressions.operation i op j) = operation (compiled w ps i) op (compiled w ps j)
compiled w ps (Expressions.conditional i j k) = conditional (compiled w ps i) (compiled w ps j) (compiled w ps k)
compiled w ps (Expressions.mapped i m p j) = mapped (compiled w ps i) m (compiled w (p ∷ ps) j)
compiled w ps (Expressions.folded i o j p k) = folded (compiled w ps i) o (compiled w ps j) (compiled w (p ∷ ps) k)
compiled w ps (Expressions.called g i) = called g (compiled w ps i)

-- whether the frames' patterns bind each name of an expression, so that none has its value around the frames
abbrev pub is_closed : List Pattern → Expression → Bool
is_closed ps (variable x) = is_some (place_of_name x ps)
is_closed ps (literal l) = true
is_closed ps (Expressions.paired i j) = is_closed ps i && is_closed ps j
is_closed ps (Expressions.applied o i) = is_closed ps i
is_closed ps (Expressions.operation i op j) = is_closed ps i && is_closed ps j
is_closed ps (Expressions.conditional i j k) = is_closed ps i && (is_closed ps j && is_closed ps k)
is_closed ps (Expressions.mapped i m p j) = is_closed ps i && is_closed (p ∷ ps) j
is_closed ps (Expressions.folded i o j p k) = is_closed ps i && (is_closed ps j && is_closed (p ∷ ps) k)
is_closed ps (Expressions.called g i) = is_closed ps i

-- whether a function's own pattern binds each name of its expression
abbrev pub is_closed_function : Function → Bool
is_closed_function (function p e) = is_closed (p ∷ []) e

-- the code of an expression, where a name that none of the frames' patterns binds makes no sense
abbrev pub closed_code : List Pattern → Expression → Code
closed_code ps e = compiled (λ x. nonsense) ps e

-- patterns of names, each of one frame
abbrev pub named_each : List Name → List Pattern
named_each xs = map (λ x. named x) xs

-- the names that patterns bind, others bind too
abbrev pub BindAsMany : List Pattern → List Pattern → Type 0
BindAsMany qs ps = (x : Name) → is_some (place_of_name x qs) ≡ true → is_some (place_of_name x ps) ≡ true

-- the names that frames' patterns bind to the frames' values, the innermost first, inside the scope around the frames; a frame without a value has one
-- that makes no sense
abbrev pub frames_scope : List Pattern → List Data → Scope → Scope
frames_scope [] vs s = s
frames_scope (p ∷ ps) [] s = bound_in p nonsense (frames_scope ps [] s)
frames_scope (p ∷ ps) (v ∷ vs) s = bound_in p v (frames_scope ps vs s)
