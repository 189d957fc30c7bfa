-- The types of what operators make, by the types of their operands.
use Rattle.std.specs.Prelude.{ℕ, ◌≤◌, Bool, true, false, cond, map, Option, Some, None}
use Rattle.std.specs.Str.{bytes_eq}
use Rattle.sf_value.specs.Values.{KeyKind, int_keys, text_keys, Kind, bool_kind, int_kind, text_kind, pair_kind, event_kind, table_kind, nodes}
use Rattle.sf_value.specs.KindCodes.{KindMark, is_unit, is_bool, is_int, is_text, is_pair, is_event, is_int_table, is_text_table, kind_marks_of}
use Rattle.sf_operator.specs.declared.operator.Unary.{Unary}
use Rattle.sf_operator.specs.declared.operator.Unary.TheVariants.{Not, Event, First, Second, IsEvent, Size}
use Rattle.sf_operator.specs.declared.operator.Mapping.{Mapping}
use Rattle.sf_operator.specs.declared.operator.Mapping.TheVariants as mapping
use Rattle.sf_operator.specs.declared.operator.Folding.{Folding}
use Rattle.sf_operator.specs.declared.operator.Folding.TheVariants as folding
use Rattle.sf_operator.specs.declared.operator.Operator.{Operator}
use Rattle.sf_operator.specs.declared.operator.Operator.TheVariants.{Arithmetic, Equality, Comparison, Logic, Tag, Attach, FromEvent, Gate, Merge, Get}

-- a type that is met has at most 256 nodes
abbrev pub Fits : Kind → Type 0
Fits t = nodes t ≤ 256

-- what is done with what was found, if it was
abbrev pub found_then : {A B : Type 0} → Option A → (A → Option B) → Option B
found_then (Some a) f = f a
found_then None f = None

-- the number of a mark
abbrev pub mark_number : KindMark → ℕ
mark_number is_unit = 0
mark_number is_bool = 1
mark_number is_int = 2
mark_number is_text = 3
mark_number is_pair = 4
mark_number is_event = 5
mark_number is_int_table = 6
mark_number is_text_table = 7

-- whether two types are the same, by their marks
abbrev pub same_kind : Kind → Kind → Bool
same_kind t u = bytes_eq (map mark_number (kind_marks_of t)) (map mark_number (kind_marks_of u))

-- a type, where two are the same
abbrev pub only : Kind → Kind → Option Kind → Option Kind
only t u o = cond (same_kind t u) o None

-- the two parts of a type of pairs
abbrev pub parts_of : Kind → Option (Kind × Kind)
parts_of (pair_kind t u) = Some (t, u)
parts_of t = None

-- the payload of a type of events
abbrev pub payload_of : Kind → Option Kind
payload_of (event_kind t) = Some t
payload_of t = None

-- the keys and the values of a type of tables
abbrev pub columns_of : Kind → Option (KeyKind × Kind)
columns_of (table_kind k t) = Some (k, t)
columns_of t = None

-- the type of keys, as a type of values
abbrev pub kind_of_keys : KeyKind → Kind
kind_of_keys int_keys = int_kind
kind_of_keys text_keys = text_kind

-- whether values of a type have an order: numbers and texts
abbrev pub is_ordered : Kind → Bool
is_ordered int_kind = true
is_ordered text_kind = true
is_ordered t = false

-- the type of what an operator makes of a value of a type, if it is one on such values
abbrev pub unary_kind : Unary → Kind → Option Kind
unary_kind Not t = only t bool_kind (Some bool_kind)
unary_kind Event t = Some (event_kind t)
unary_kind First t = found_then (parts_of t) (λ p. Some p.0)
unary_kind Second t = found_then (parts_of t) (λ p. Some p.1)
unary_kind IsEvent t = found_then (payload_of t) (λ a. Some bool_kind)
unary_kind Size t = found_then (columns_of t) (λ c. Some int_kind)

-- the type of what an operator makes of values of two types, if it is one on such values
abbrev pub binary_kind : Operator → Kind → Kind → Option Kind
binary_kind (Arithmetic o) t u = only t int_kind (only u int_kind (Some int_kind))
binary_kind (Equality o) t u = only t u (Some bool_kind)
binary_kind (Comparison o) t u = only t u (cond (is_ordered t) (Some bool_kind) None)
binary_kind (Logic o) t u = only t bool_kind (only u bool_kind (Some bool_kind))
binary_kind Tag t u = found_then (payload_of t) (λ a. Some (event_kind u))
binary_kind Attach t u = found_then (payload_of t) (λ a. Some (event_kind (pair_kind a u)))
binary_kind FromEvent t u = found_then (payload_of t) (λ a. only a u (Some a))
binary_kind Gate t u = found_then (payload_of t) (λ a. only u bool_kind (Some t))
binary_kind (Merge m) t u = found_then (payload_of t) (λ a. only t u (Some t))
binary_kind Get t u = found_then (columns_of t) (λ c. only u (kind_of_keys c.0) (Some (event_kind c.1)))

-- the type of one of two values by a truth: a truth, and two of one type
abbrev pub conditional_kind : Kind → Kind → Kind → Option Kind
conditional_kind c t u = only c bool_kind (only t u (Some t))

-- the type of what the function of a form on a value of a type takes, if the form is one on such values
abbrev pub mapped_argument : Mapping → Kind → Option Kind
mapped_argument mapping.Let t = Some t
mapped_argument mapping.Filter t = payload_of t
mapped_argument mapping.Map t = payload_of t

-- the type of what such a form makes, where its function makes values of a type
abbrev pub mapped_kind : Mapping → Kind → Kind → Option Kind
mapped_kind mapping.Let t u = Some u
mapped_kind mapping.Filter t u = only u bool_kind (Some t)
mapped_kind mapping.Map t u = Some (event_kind u)

-- the type of what a function from one type to another makes of a value of a type, if it is one on such values
abbrev pub called_kind : Kind → Kind → Kind → Option Kind
called_kind from to t = only t from (Some to)

-- the type of what the function of a form on values of two types takes, if the form is one on such a first value
abbrev pub folded_argument : Folding → Kind → Kind → Option Kind
folded_argument folding.Match t u = payload_of t
folded_argument folding.Merge t u = found_then (payload_of t) (λ a. Some (pair_kind a a))
folded_argument folding.Fold t u = found_then (columns_of t) (λ c. Some (pair_kind u (pair_kind (kind_of_keys c.0) c.1)))

-- the type of what such a form makes, where its function makes values of a type
abbrev pub folded_kind : Folding → Kind → Kind → Kind → Option Kind
folded_kind folding.Match t u v = only u v (Some v)
folded_kind folding.Merge t u v = found_then (payload_of t) (λ a. only t u (only a v (Some t)))
folded_kind folding.Fold t u v = only u v (Some u)
