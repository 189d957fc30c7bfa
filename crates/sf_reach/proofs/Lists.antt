-- Items of lists, and the first with a property.
use Rattle.std.proofs.Common.{◌≡◌, ℕ, zero, suc, ◌+◌, ◌<◌, length, List, [], ◌∷◌, ◌++◌, All, Bool, true, false, not, cond, get_or, set, Option, Some, None, filter_map, ◌↔◌, ap, sym, refl, subst, arith, ◌⊎◌, inl, inr}
use Rattle.std.specs.List.{IsAmong, cons_option, count_by, sum_by}
use Rattle.std.proofs.lemmas.List.Sums.{sum_by-set}
use Rattle.std.proofs.lemmas.List.Elements.{All-nil, All-cons}
use Rattle.sf_reach.specs.Endless.{IsFirstWith, here, further}

-- An item is one of a list.
pub data In {X : Type 0} : List X → X → Type 0 where
  first : {x : X} {xs : List X} → In (x ∷ xs) x
  later : {x y : X} {xs : List X} → In xs x → In (y ∷ xs) x

module _ {X : Type 0} where
  pub among : {xs : List X} {x : X} → In xs x → IsAmong xs x
  among first = (0, (omega arith, refl))
  among (later h) = let k = among h in (suc k.0, (omega (arith, k.1.0), k.1.1))

  -- what holds of all, holds of each
  pub each : (P : X → Type 0) (xs : List X) (x : X) → All P xs → In xs x → P x
  each P xs x h k = let m = among k in subst P (sym m.1.1) (h m.0 x m.1.0)

  pub in_left : {xs : List X} {x : X} (ys : List X) → In xs x → In (xs ++ ys) x
  in_left ys first = first
  in_left ys (later h) = later (in_left ys h)

  pub in_right : (xs : List X) {ys : List X} {x : X} → In ys x → In (xs ++ ys) x
  in_right [] h = h
  in_right (y ∷ xs) h = later (in_right xs h)

  pub in_append : (xs : List X) {ys : List X} {x : X} → In (xs ++ ys) x → In xs x ⊎ In ys x
  in_append [] h = inr h
  in_append (y ∷ xs) first = inl first
  in_append (y ∷ xs) (later h) = elim (in_append xs h) [ inl k ↦ inl (later k) | inr k ↦ inr k ]

  pub in_last : (xs : List X) (x : X) → In (xs ++ x ∷ []) x
  in_last xs x = in_right xs first

  pub in_place : (xs : List X) (k : ℕ) (d : X) → k < length xs → In xs (get_or xs k d)
  in_place [] k d l = absurd (omega arith)
  in_place (x ∷ xs) zero d l = first
  in_place (x ∷ xs) (suc k) d l = later (in_place xs k d (omega arith))

  -- what holds of all with one more
  pub all_front : (P : X → Type 0) (xs : List X) (x : X) → All P (xs ++ x ∷ []) → All P xs
  all_front P xs x h = λ k d l. each P (xs ++ x ∷ []) _ h (in_left (x ∷ []) (in_place xs k d l))

  pub in_at : (xs : List X) (i : ℕ) (x : X) → i < length xs → x ≡ get_or xs i x → In xs x
  in_at [] i x h e = absurd (omega arith)
  in_at (y ∷ xs) zero x h e = subst (In (y ∷ xs)) (sym e) first
  in_at (y ∷ xs) (suc i) x h e = later (in_at xs i x (omega arith) e)

  pub among_in : {xs : List X} {x : X} → IsAmong xs x → In xs x
  among_in {xs} {x} h = in_at xs h.0 x h.1.0 h.1.1

  module _ (P : X → Type 0) where
    pub first_in : {xs : List X} {x : X} → IsFirstWith P xs x → In xs x
    first_in (here h) = first
    first_in (further n h) = later (first_in h)

    pub first_has : {xs : List X} {x : X} → IsFirstWith P xs x → P x
    first_has (here h) = h
    first_has (further n h) = first_has h

    pub first_once : {xs : List X} {x y : X} → IsFirstWith P xs x → IsFirstWith P xs y → x ≡ y
    first_once (here h) (here k) = refl
    first_once (here h) (further n k) = absurd (n h)
    first_once (further n h) (here k) = absurd (n k)
    first_once (further n h) (further m k) = first_once h k

    -- the first behind those without the property
    pub first_behind : (xs ys : List X) (x : X) → All (λ y. ¬ P y) xs → P x → IsFirstWith P (xs ++ x ∷ ys) x
    first_behind [] ys x none h = here h
    first_behind (y ∷ xs) ys x none h = further (none 0 y (omega arith)) (first_behind xs ys x (λ k d l. none (suc k) d (omega arith)) h)

    pub first_or_none : ((x : X) → P x ⊎ ¬ P x) → (xs : List X) → ((x : X) × IsFirstWith P xs x) ⊎ All (λ x. ¬ P x) xs
    first_or_none decide [] = inr (All-nil (λ x. ¬ P x))
    first_or_none decide (y ∷ xs) = by (decide y) (first_or_none decide xs)
      where
        by : P y ⊎ ¬ P y → ((x : X) × IsFirstWith P xs x) ⊎ All (λ x. ¬ P x) xs → ((x : X) × IsFirstWith P (y ∷ xs) x) ⊎ All (λ x. ¬ P x) (y ∷ xs)
        by (inl h) rest = inl (y, here h)
        by (inr n) (inl r) = inl (r.0, further n r.1)
        by (inr n) (inr none) = inr (All-cons (λ x. ¬ P x) y xs n none)

-- ## What is found of items

module _ {X Y : Type 0} (f : X → Option Y) where
  in_found : (o : Option Y) (ys : List Y) (y : Y) → o ≡ Some y → In (cons_option o ys) y
  in_found None ys y e = absurd cc
  in_found (Some z) ys y e = let same : z ≡ y = cc in subst (In (z ∷ ys)) same first

  past_found : (o : Option Y) (ys : List Y) (y : Y) → In ys y → In (cons_option o ys) y
  past_found None ys y h = h
  past_found (Some z) ys y h = later h

  pub found : {xs : List X} {x : X} {y : Y} → In xs x → f x ≡ Some y → In (filter_map f xs) y
  found (first {xs = xs}) e = in_found _ (filter_map f xs) _ e
  found (later {xs = xs} h) e = past_found _ (filter_map f xs) _ (found h e)

  pub found_of : (xs : List X) (y : Y) → In (filter_map f xs) y → (x : X) × In xs x × (f x ≡ Some y)
  found_of [] y h = elim h [ ]
  found_of (x ∷ xs) y h = by (f x) refl h (found_of xs y)
    where
      step : (z : X) × In xs z × (f z ≡ Some y) → (z : X) × In (x ∷ xs) z × (f z ≡ Some y)
      step k = (k.0, later k.1, k.2)

      at_first : (z : Y) (ys : List Y) → f x ≡ Some z → In (z ∷ ys) y → (In ys y → (v : X) × In xs v × (f v ≡ Some y)) → (v : X) × In (x ∷ xs) v × (f v ≡ Some y)
      at_first z ys e first rest = (x, first, e)
      at_first z ys e (later h) rest = step (rest h)

      by : (o : Option Y) → f x ≡ o → In (cons_option o (filter_map f xs)) y → (In (filter_map f xs) y → (v : X) × In xs v × (f v ≡ Some y)) → (v : X) × In (x ∷ xs) v × (f v ≡ Some y)
      by None e h rest = step (rest h)
      by (Some z) e h rest = at_first z (filter_map f xs) e h rest

  -- The first that is found with a property is that of the first with another.
  module _ (P : X → Type 0) (Q : Y → Type 0) (some : (x : X) (y : Y) → f x ≡ Some y → P x ↔ Q y) (none : (x : X) → f x ≡ None → ¬ P x) where
    pub first_found : (xs : List X) (y : Y) → IsFirstWith Q (filter_map f xs) y → (x : X) × IsFirstWith P xs x × (f x ≡ Some y)
    first_found [] y h = elim h [ ]
    first_found (x ∷ xs) y h = by (f x) refl h (first_found xs y)
      where
        step : ¬ P x → (z : X) × IsFirstWith P xs z × (f z ≡ Some y) → (z : X) × IsFirstWith P (x ∷ xs) z × (f z ≡ Some y)
        step n k = (k.0, further n k.1, k.2)

        at_first : (z : Y) (ys : List Y) → f x ≡ Some z → IsFirstWith Q (z ∷ ys) y → (IsFirstWith Q ys y → (v : X) × IsFirstWith P xs v × (f v ≡ Some y)) → (v : X) × IsFirstWith P (x ∷ xs) v × (f v ≡ Some y)
        at_first z ys e (here q) rest = (x, here ((some x z e).1 q), e)
        at_first z ys e (further n h) rest = step (λ p. n ((some x z e).0 p)) (rest h)

        by : (o : Option Y) → f x ≡ o → IsFirstWith Q (cons_option o (filter_map f xs)) y → (IsFirstWith Q (filter_map f xs) y → (z : X) × IsFirstWith P xs z × (f z ≡ Some y)) → (z : X) × IsFirstWith P (x ∷ xs) z × (f z ≡ Some y)
        by None e h rest = step (none x e) (rest h)
        by (Some z) e h rest = at_first z (filter_map f xs) e h rest

    pub none_found : (xs : List X) → All (λ y. ¬ Q y) (filter_map f xs) → All (λ x. ¬ P x) xs
    none_found xs h = λ k d l. by (get_or xs k d) (in_place xs k d l) (f (get_or xs k d)) refl
      where
        by : (x : X) → In xs x → (o : Option Y) → f x ≡ o → ¬ P x
        by x m None e = none x e
        by x m (Some y) e = λ p. each (λ y. ¬ Q y) (filter_map f xs) y h (found m e) ((some x y e).0 p)

-- ## Marks

pub count_marked : (bs : List Bool) (i : ℕ) → i < length bs → get_or bs i false ≡ false → count_by not (set bs i true) + 1 ≡ count_by not bs
count_marked bs i h e =
    let open_one : Bool → ℕ = λ b. cond (not b) 1 0 in
    let k : sum_by open_one (set bs i true) + open_one (get_or bs i false) ≡ sum_by open_one bs + 0 = sum_by-set open_one bs i true false h in
    let one : open_one (get_or bs i false) ≡ 1 = ap open_one e in
    omega arith
