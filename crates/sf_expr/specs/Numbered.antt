-- Names as numbers.
use Rattle.std.specs.Borrow.{Bor}
use Rattle.std.specs.Prelude.{◌≡◌, ℕ, ◌<◌, ⊤, nat_eq, List, length, slice_index_or, bytes_eq}
use Rattle.std.specs.List.{position_or_len}
use Rattle.sf_value.specs.Values.{Name}
use Rattle.sf_expr.specs.declared.exprs.Exprs.{Exprs}
use Rattle.sf_expr.specs.declared.exprs.NameId.{NameId}
use Rattle.sf_expr.specs.declared.exprs.PatternId.{PatternId}
use Rattle.sf_expr.specs.declared.exprs.numbers.Numbers.{Numbers}
use Rattle.sf_expr.specs.declared.exprs.numbers.NumberedPattern.{NumberedPattern}
use Rattle.sf_expr.specs.declared.exprs.numbers.NumberedPattern.TheVariants.{Unnamed, Name as Numbered, Both'}
use Rattle.sf_expr.specs.Expressions.{Pattern, unnamed, named, both}
use Rattle.sf_expr.specs.Patterns.{pattern_of}
use Rattle.sf_expr.specs.Arena.{name_at, stored_pattern}

-- the number of a name
unfoldable pub number_at : Numbers → NameId → ℕ
number_at n k = slice_index_or n.names.items k.0 n.empty

-- a pattern, of which each name is a number
unfoldable pub numbered_pattern : Numbers → PatternId → NumberedPattern
numbered_pattern n q = slice_index_or n.patterns.items q.0 n.unnamed

-- The number of a name tells where a pattern binds it.
abbrev pub TellsName : ℕ → Name → NumberedPattern → Pattern → Type 0
TellsName m x Unnamed unnamed = ⊤
TellsName m x Unnamed (named y) = ⊥
TellsName m x Unnamed (both p q) = ⊥
TellsName m x (Numbered k) unnamed = ⊥
TellsName m x (Numbered k) (named y) = nat_eq m k ≡ bytes_eq x y
TellsName m x (Numbered k) (both p q) = ⊥
TellsName m x (Both' a s b t) unnamed = ⊥
TellsName m x (Both' a s b t) (named y) = ⊥
TellsName m x (Both' a s b t) (both p q) = TellsName m x s p × TellsName m x t q

-- Numbers tell names apart, also those that patterns bind.
pub record AreNumbers (e : Exprs) (n : Numbers) : Type 0 where
  pub names : (j k : NameId) → nat_eq (number_at n j) (number_at n k) ≡ bytes_eq (name_at e j) (name_at e k)
  pub patterns : (k : NameId) (q : PatternId) → TellsName (number_at n k) (name_at e k) (numbered_pattern n q) (pattern_of (stored_pattern e q))

-- a number is the first place of a text among texts
abbrev pub IsNumber : List (Bor (List ℕ)) → Name → ℕ → Type 0
IsNumber ks x i = (position_or_len (λ (k : Bor (List ℕ)). bytes_eq x k.now) ks ≡ i) × (i < length ks)

-- numbers go on being so
abbrev pub ExtendsNumbers : List (Bor (List ℕ)) → List (Bor (List ℕ)) → Type 0
ExtendsNumbers old new = (x : Name) (i : ℕ) → IsNumber old x i → IsNumber new x i

-- the numbers of a pattern are those of its names
abbrev pub IsNumbered : List (Bor (List ℕ)) → Pattern → NumberedPattern → Type 0
IsNumbered ks unnamed Unnamed = ⊤
IsNumbered ks unnamed (Numbered k) = ⊥
IsNumbered ks unnamed (Both' a s b t) = ⊥
IsNumbered ks (named y) Unnamed = ⊥
IsNumbered ks (named y) (Numbered k) = IsNumber ks y k
IsNumbered ks (named y) (Both' a s b t) = ⊥
IsNumbered ks (both p q) Unnamed = ⊥
IsNumbered ks (both p q) (Numbered k) = ⊥
IsNumbered ks (both p q) (Both' a s b t) = IsNumbered ks p s × IsNumbered ks q t
