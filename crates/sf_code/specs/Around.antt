-- Names around code.
use Rattle.std.specs.Prelude.{⊤, List, [], ◌∷◌, map, All, Option, Some, None, Box}
use Rattle.std.specs.declared.alloc.Global.{Global}
use Rattle.sf_value.specs.Values.{Name}
use Rattle.sf_expr.specs.declared.exprs.NameId.{NameId}
use Rattle.sf_expr.specs.declared.exprs.Exprs.{Exprs}
use Rattle.sf_expr.specs.Expressions.{Pattern, unnamed, named, both}
use Rattle.sf_expr.specs.Arena.{name_at, HoldsName}
use Rattle.sf_code.specs.declared.around.Around.{Around}
use Rattle.sf_code.specs.declared.around.Around.TheVariants.{Nothing, Name as OneName, Both'}

-- the names at ids
abbrev pub names_by_id : Exprs → List NameId → List Name
names_by_id x ks = map (λ k. name_at x k) ks

-- the pattern that binds names in their shape
abbrev pub pattern_around : Exprs → Around → Pattern
pattern_around x Nothing = unnamed
pattern_around x (OneName k) = named (name_at x k)
pattern_around x (Both' a p b q) = both (pattern_around x p) (pattern_around x q)

-- the pattern of one frame of names, if there are any
abbrev pub patterns_around : Exprs → Option (Box Around Global) → List Pattern
patterns_around x None = []
patterns_around x (Some p) = pattern_around x p.value ∷ []

-- an arena holds each of these names
abbrev pub HoldsEach : Exprs → List NameId → Type 0
HoldsEach x ks = All (HoldsName x) ks

-- an arena holds names in their shape
abbrev pub HoldsShape : Exprs → Around → Type 0
HoldsShape x Nothing = ⊤
HoldsShape x (OneName k) = HoldsName x k
HoldsShape x (Both' a p b q) = HoldsShape x p × HoldsShape x q

-- an arena holds the names of a frame, if there are any
abbrev pub HoldsFrame : Exprs → Option (Box Around Global) → Type 0
HoldsFrame x None = ⊤
HoldsFrame x (Some p) = HoldsShape x p.value
