-- The names that terms mention, in lists.
use Rattle.std.specs.Prelude.{◌≡◌, ℕ, Bool, true, false, ◌||◌, IsTrue, ⊤, bytes_eq, List, slice_index_or, Option, Some, None}
use Rattle.std.specs.List.{list_any}
use Rattle.sf_value.specs.Values.{Name}
use Rattle.sf_expr.specs.declared.exprs.Exprs.{Exprs}
use Rattle.sf_expr.specs.declared.exprs.NameId.{NameId}
use Rattle.sf_expr.specs.Arena.{name_at, stored_pattern}
use Rattle.sf_expr.specs.Expressions.{Pattern, unnamed, named, both}
use Rattle.sf_expr.specs.Patterns.{pattern_of}
use Rattle.sf_term.specs.Trees.{Term}
use Rattle.sf_coincidence.specs.Mentions.{Mentions}
use Rattle.sf_law.specs.declared.node.PlanNode.{PlanNode}
use Rattle.sf_law.specs.declared.mentioned.Mentioned.{Mentioned}
use Rattle.sf_law.specs.declared.mentioned.Mentioned.TheVariants.{Names, Any}
use Rattle.sf_law.specs.declared.mentioned.Binder.{Binder}
use Rattle.sf_law.specs.declared.mentioned.Binder.TheVariants.{Pattern as OfPattern, Name as OfName, Both as OfBoth}
use Rattle.sf_law.specs.Entries.{plan_term}

-- whether a name is among names
abbrev pub has_name : Exprs → List NameId → Name → Bool
has_name e ks x = list_any (λ k. bytes_eq x (name_at e k)) ks

-- whether a name is one of those that are mentioned
abbrev pub is_mentioned : Exprs → Mentioned → Name → Bool
is_mentioned e (Names v) x = has_name e v.items x
is_mentioned e Any x = true

-- whether a pattern binds a name
abbrev pub binds_name : Pattern → Name → Bool
binds_name unnamed x = false
binds_name (named y) x = bytes_eq x y
binds_name (both p q) x = binds_name p x || binds_name q x

-- what binds names, as a pattern
abbrev pub bound_pattern : Exprs → Binder → Pattern
bound_pattern e (OfPattern q) = pattern_of (stored_pattern e q)
bound_pattern e (OfName k) = named (name_at e k)
bound_pattern e (OfBoth k q) = both (named (name_at e k)) (pattern_of (stored_pattern e q))

-- the names of a list are in another
abbrev pub HasAll : Exprs → Mentioned → Mentioned → Type 0
HasAll e old new = (x : Name) → IsTrue (is_mentioned e old x) → IsTrue (is_mentioned e new x)

-- a list has the names of another and at most one more; any name may be mentioned where it might before, or where they are too many
abbrev pub AddsOnly : Exprs → Mentioned → Name → Mentioned → Type 0
AddsOnly e (Names v) x (Names w) = (y : Name) → IsTrue (has_name e w.items y) → IsTrue (has_name e v.items y || bytes_eq y x)
AddsOnly e (Names v) x Any = ⊤
AddsOnly e Any x m = m ≡ Any

-- each name that a term mentions is in a list
abbrev pub Covers : Exprs → Mentioned → Term → Type 0
Covers e m t = (x : Name) → Mentions t x → IsTrue (is_mentioned e m x)

-- the list at a place; past the end any name may be mentioned
abbrev pub mentioned_at : List Mentioned → ℕ → Mentioned
mentioned_at ms i = slice_index_or ms i Any

-- each term has its list at its place, where one stands there
abbrev pub AreCovered : Exprs → List PlanNode → List Mentioned → Type 0
AreCovered x ns ms = (i : ℕ) → Covers x (mentioned_at ms i) (plan_term x ns i)

-- the same of a list that may be wanting
abbrev pub MayCover : Exprs → Option Mentioned → Term → Type 0
MayCover e (Some m) t = Covers e m t
MayCover e None t = Unit {0}
