-- The places of parameters.
use Rattle.std.proofs.Common.{◌≡◌, ℕ, zero, suc, ◌+◌, ◌<◌, ◌≤◌, Bool, true, false, ◌&&◌, cond, bytes_eq, List, [], ◌∷◌, ◌++◌, length, map, take, get_or, Option, None, Some, refl, sym, ◌∙◌, ap, arith}
use Rattle.std.specs.BTreeMap.{BTreeMap, get, Updates}
use Rattle.std.specs.Ordering.{nat_cmp, is_eq, ordering_then}
use Rattle.std.specs.declared.cmp.Ordering.{Ordering}
use Rattle.std.specs.declared.cmp.Ordering.TheVariants.{Less, Equal, Greater}
use Rattle.std.specs.Prelude.{nat_eq, slice_index_or}
use Rattle.std.proofs.lemmas.Map.Text.{is_eq-slice_cmp}
use Rattle.std.proofs.lemmas.List.{map-append, length-map, length-take-le}
use Rattle.std.proofs.Math.Seq.{take-suc}
use Rattle.sf_value.specs.Values.{Name}
use Rattle.sf_expr.specs.declared.exprs.Exprs.{Exprs}
use Rattle.sf_expr.specs.declared.exprs.NameId.{NameId}
use Rattle.sf_expr.specs.declared.exprs.numbers.Numbers.{Numbers}
use Rattle.sf_expr.specs.Arena.{name_at}
use Rattle.sf_expr.specs.Numbered.{number_at, AreNumbers}
use Rattle.sf_expr.specs.Meanings.{place_behind}
use Rattle.sf_expr.proofs.Scoped.{same_both_ways}
use Rattle.sf_law.specs.declared.node.PlanId.{PlanId}
use Rattle.sf_law.specs.Headers.{ParameterHeader, PlanHeader, rebodied, no_header}
use Rattle.sf_law.specs.Places.{names_of_parameters, last_parameter, ArePlaces}

-- a name that is put behind others is the last of its name
last_put : (x : Name) (ys : List Name) (y : Name) → last_parameter x (ys ++ y ∷ []) ≡ cond (bytes_eq x y) (Some (length ys)) (last_parameter x ys)
last_put x [] y = refl
last_put x (z ∷ ys) y = ap (place_behind (bytes_eq x z)) (last_put x ys y) ∙ each (bytes_eq x y)
  where
    each : (b : Bool) → place_behind (bytes_eq x z) (cond b (Some (length ys)) (last_parameter x ys)) ≡ cond b (Some (length (z ∷ ys))) (place_behind (bytes_eq x z) (last_parameter x ys))
    each true = refl
    each false = refl

-- the names of the first parameters, and one more
names_next : (x : Exprs) (qs : List ParameterHeader) (i : ℕ) (q : ParameterHeader) → i < length qs → q ≡ get_or qs i q → names_of_parameters x (take (i + 1) qs) ≡ names_of_parameters x (take i qs) ++ name_at x q.name ∷ []
names_next x qs i q l at = ap (λ n. names_of_parameters x (take n qs)) next ∙ ap (names_of_parameters x) (take-suc qs i q l ∙ ap (λ r. take i qs ++ r ∷ []) (sym at)) ∙ map-append (λ (q : ParameterHeader). name_at x q.name) (take i qs) (q ∷ [])
  where
    next : i + 1 ≡ suc i
    next = omega arith

-- what found the places of the first names finds those of one more, once it has its place
place_more : (x : Exprs) (qs : List ParameterHeader) (i : ℕ) (q : ParameterHeader) (name : Name) (before after : Option ℕ) (y : Name) → i < length qs → q ≡ get_or qs i q → name ≡ name_at x q.name
    → before ≡ last_parameter y (names_of_parameters x (take i qs)) → after ≡ cond (bytes_eq name y) (Some i) before → after ≡ last_parameter y (names_of_parameters x (take (i + 1) qs))
place_more x qs i q name before after y l at is was put =
    put ∙ ap (λ b. cond b (Some i) before) (same_both_ways name y ∙ ap (bytes_eq y) is)
    ∙ ap (λ b. cond (bytes_eq y (name_at x q.name)) (Some i) b) was
    ∙ ap (λ n. cond (bytes_eq y (name_at x q.name)) (Some n) (last_parameter y (names_of_parameters x (take i qs)))) (sym counted)
    ∙ sym (last_put y (names_of_parameters x (take i qs)) (name_at x q.name))
    ∙ ap (last_parameter y) (sym (names_next x qs i q l at))
  where
    counted : length (names_of_parameters x (take i qs)) ≡ i
    counted = length-map (take i qs) (λ (q : ParameterHeader). name_at x q.name) ∙ length-take-le i qs (omega (arith, l))

-- numbers are compared as their order says
compared : (a b : ℕ) → is_eq (nat_cmp a b) ≡ nat_eq a b
compared a b = first (nat_cmp a b) ∙ is_eq-slice_cmp (a ∷ []) (b ∷ []) ∙ alone (nat_eq a b)
  where
    first : (o : Ordering) → is_eq o ≡ is_eq (ordering_then o Equal)
    first Less = refl
    first Equal = refl
    first Greater = refl

    alone : (b : Bool) → (b && true) ≡ b
    alone true = refl
    alone false = refl

-- what found the places of the first names by their numbers finds those of one more, once it has its place
pub number_more : (x : Exprs) (m : Numbers) (qs : List ParameterHeader) (i : ℕ) (q : ParameterHeader) (c : ℕ) (before after : BTreeMap ℕ ℕ) (k : NameId) → AreNumbers x m → i < length qs → q ≡ get_or qs i q → c ≡ number_at m q.name
    → get nat_cmp before (number_at m k) ≡ last_parameter (name_at x k) (names_of_parameters x (take i qs)) → Updates nat_cmp before after c (Some i)
    → get nat_cmp after (number_at m k) ≡ last_parameter (name_at x k) (names_of_parameters x (take (i + 1) qs))
number_more x m qs i q c before after k numbers l at is was put =
    place_more x qs i q (name_at x q.name) (get nat_cmp before (number_at m k)) (get nat_cmp after (number_at m k)) (name_at x k) l at refl was
    (put.0 (number_at m k) ∙ ap (λ b. cond b (Some i) (get nat_cmp before (number_at m k))) (compared c (number_at m k) ∙ ap (λ d. nat_eq d (number_at m k)) is ∙ numbers.names q.name k))

-- the template at a number finds its places
pub place_held : (x : Exprs) (m : Numbers) (hs : List PlanHeader) (ps : List (BTreeMap ℕ ℕ)) (i : ℕ) (p : BTreeMap ℕ ℕ) (k : NameId) → ArePlaces x m hs ps → i < length ps → p ≡ get_or ps i p → get nat_cmp p (number_at m k) ≡ last_parameter (name_at x k) (names_of_parameters x (slice_index_or hs i no_header).parameters)
place_held x m [] [] i p k a l h = absurd (omega (arith, l))
place_held x m [] (q ∷ ps) i p k a l h = absurd a
place_held x m (h ∷ hs) [] i p k a l is = absurd a
place_held x m (h ∷ hs) (q ∷ ps) zero p k a l is = ap (λ p. get nat_cmp p (number_at m k)) is ∙ a.0 k
place_held x m (h ∷ hs) (q ∷ ps) (suc i) p k a l is = place_held x m hs ps i p k a.1 (omega (arith, l)) is

-- at no other number stands a parameter
pub place_past : (x : Exprs) (m : Numbers) (hs : List PlanHeader) (ps : List (BTreeMap ℕ ℕ)) (i : ℕ) (y : Name) → ArePlaces x m hs ps → length ps ≤ i → last_parameter y (names_of_parameters x (slice_index_or hs i no_header).parameters) ≡ None
place_past x m [] [] i y a l = refl
place_past x m [] (q ∷ ps) i y a l = absurd a
place_past x m (h ∷ hs) [] i y a l = absurd a
place_past x m (h ∷ hs) (q ∷ ps) zero y a l = absurd (omega (arith, l))
place_past x m (h ∷ hs) (q ∷ ps) (suc i) y a l = place_past x m hs ps i y a.1 (omega (arith, l))

-- other bodies leave the places
pub places_kept : (ids : List PlanId) (n : ℕ) (x : Exprs) (m : Numbers) (hs : List PlanHeader) (ps : List (BTreeMap ℕ ℕ)) → ArePlaces x m hs ps → ArePlaces x m (map (rebodied ids n) hs) ps
places_kept ids n x m [] [] a = tt
places_kept ids n x m [] (p ∷ ps) a = absurd a
places_kept ids n x m (h ∷ hs) [] a = absurd a
places_kept ids n x m (h ∷ hs) (p ∷ ps) a = (a.0, places_kept ids n x m hs ps a.1)
