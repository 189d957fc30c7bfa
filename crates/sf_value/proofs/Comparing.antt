-- Comparisons of lists, and of tables by their keys and their values.
use Rattle.std.proofs.Common.{◌≡◌, ◌<◌, ◌≤◌, ◌-◌, ◌+◌, ℕ, suc, Bool, true, false, IsTrue, true≢false, List, [], ◌∷◌, length, take, drop, get_or, map, refl, sym, ap, ◌∙◌, subst, arith}
use Rattle.std.proofs.lemmas.List.{length-map}
use Rattle.std.specs.List.{AllByRecursion}
use Rattle.sf_value.specs.Values.{KeyData, Data, table, no_rows, count, count_of_rows}
use Rattle.sf_value.specs.View.{keyed_rows}

abbrev pub Same : Type 0 → Type 0 → Type 0
Same A B = (A → B) × (B → A)

-- how many values some are made of, where each counts one more
abbrev pub count_of_values : List Data → ℕ
count_of_values [] = 0
count_of_values (d ∷ ds) = suc (count d + count_of_values ds)

pub values_below : (ks : List KeyData) (ds : List Data) → length ks ≡ length ds → count_of_values ds ≤ count_of_rows (keyed_rows ks ds)
values_below [] [] h = omega arith
values_below [] (d ∷ ds) h = absurd cc
values_below (k ∷ ks) [] h = omega arith
values_below (k ∷ ks) (d ∷ ds) h = let rest : length ks ≡ length ds = cc in omega (arith, values_below ks ds rest)

pub values_fewer : (ks : List KeyData) (ds : List Data) → length ks ≡ length ds → count_of_values ds < count (table (keyed_rows ks ds))
values_fewer ks ds h = omega (arith, values_below ks ds h)

-- ## Lists

pub empty_apart : {X Y : Type 0} (f : X → Y) (xs ys : List X) → length xs < 1 → 1 ≤ length ys → map f xs ≡ map f ys → ⊥
empty_apart f xs ys g h e = omega (arith, length-map xs f, length-map ys f, ap length e)

take_whole : {X : Type 0} (xs : List X) → take (length xs) xs ≡ xs
take_whole [] = refl
take_whole (x ∷ xs) = ap (λ ys. x ∷ ys) (take_whole xs)

module _ {X : Type 0} (P : X → Type 0) where
  -- the first of them and those after it
  pub all_of : (xs : List X) → 1 ≤ length xs → (x : X) (b : Bool) → x ≡ get_or xs 0 x → P x → Same (IsTrue b) (AllByRecursion P (take (length xs - 1) (drop 1 xs))) → Same (IsTrue b) (AllByRecursion P xs)
  all_of [] some x b is p h = absurd (omega arith)
  all_of (y ∷ xs) some x b is p h =
      let len : suc (length xs) - 1 ≡ length xs = omega arith in
      let all : take (suc (length xs) - 1) xs ≡ xs = rw len (take_whole xs) in
      let rest = subst (λ ys. Same (IsTrue b) (AllByRecursion P ys)) all h in
      (λ e. (subst P is p, rest.0 e), λ a. rest.1 a.1)

  pub not_first : (xs : List X) → 1 ≤ length xs → (x : X) (b : Bool) → x ≡ get_or xs 0 x → b ≡ false → Same (IsTrue b) (P x) → Same (IsTrue b) (AllByRecursion P xs)
  not_first [] some x b is isnt h = absurd (omega arith)
  not_first (y ∷ xs) some x b is isnt h = (λ e. absurd (true≢false (sym e ∙ isnt)), λ a. h.1 (subst P (sym is) a.0))

  pub all_of_none : (xs : List X) → length xs < 1 → Same (IsTrue true) (AllByRecursion P xs)
  all_of_none [] h = (λ _. tt, λ _. refl)
  all_of_none (x ∷ xs) h = absurd (omega arith)

module _ {X Y : Type 0} (f : X → Y) (P : Y → Type 0) where
  of_each : (xs : List X) → Same (AllByRecursion (λ x. P (f x)) xs) (AllByRecursion P (map f xs))
  of_each [] = (λ _. tt, λ _. tt)
  of_each (x ∷ xs) = let rest = of_each xs in (λ h. (h.0, rest.0 h.1), λ h. (h.0, rest.1 h.1))

  pub mapped : (xs : List X) (ys : List Y) (b : Bool) → map f xs ≡ ys → Same (IsTrue b) (AllByRecursion (λ x. P (f x)) xs) → Same (IsTrue b) (AllByRecursion P ys)
  mapped xs ys b is h = subst (λ zs. Same (IsTrue b) (AllByRecursion P zs)) is (λ e. (of_each xs).0 (h.0 e), λ a. h.1 ((of_each xs).1 a))

-- ## Tables

record Parts (ks ls : List KeyData) (ds es : List Data) : Type 0 where
  pub keys : ks ≡ ls
  pub values : ds ≡ es

parts_of : (ks ls : List KeyData) (ds es : List Data) → length ks ≡ length ds → length ls ≡ length es → keyed_rows ks ds ≡ keyed_rows ls es → Parts ks ls ds es
parts_of [] ls [] es g h e = none ls es h e
  where
    none : (ls : List KeyData) (es : List Data) → length ls ≡ length es → no_rows ≡ keyed_rows ls es → Parts [] ls [] es
    none [] [] h e = record { keys = refl; values = refl }
    none [] (y ∷ es) h e = absurd cc
    none (l ∷ ls) [] h e = absurd cc
    none (l ∷ ls) (y ∷ es) h e = absurd cc
parts_of [] ls (d ∷ ds) es g h e = absurd cc
parts_of (k ∷ ks) ls [] es g h e = absurd cc
parts_of (k ∷ ks) [] (d ∷ ds) es g h e = absurd cc
parts_of (k ∷ ks) (l ∷ ls) (d ∷ ds) [] g h e = absurd cc
parts_of (k ∷ ks) (l ∷ ls) (d ∷ ds) (y ∷ es) g h e =
    let few : length ks ≡ length ds = cc in
    let many : length ls ≡ length es = cc in
    let first : k ≡ l = cc in
    let value : d ≡ y = cc in
    let others : keyed_rows ks ds ≡ keyed_rows ls es = cc in
    let p = parts_of ks ls ds es few many others in
    record { keys = ap (λ x. x ∷ ks) first ∙ ap (λ xs. l ∷ xs) p.keys; values = ap (λ x. x ∷ ds) value ∙ ap (λ xs. y ∷ xs) p.values }

same_rows : (ks ls : List KeyData) (ds es : List Data) → table (keyed_rows ks ds) ≡ table (keyed_rows ls es) → keyed_rows ks ds ≡ keyed_rows ls es
same_rows ks ls ds es e = cc

pub same_tables : (ks ls : List KeyData) (ds es : List Data) (a b : Bool) → length ks ≡ length ds → length ls ≡ length es → a ≡ true → Same (IsTrue a) (ks ≡ ls) → Same (IsTrue b) (ds ≡ es)
    → Same (IsTrue b) (table (keyed_rows ks ds) ≡ table (keyed_rows ls es))
same_tables ks ls ds es a b g h is keys values = (
  λ t. ap (λ ks. table (keyed_rows ks ds)) (keys.0 is) ∙ ap (λ ds. table (keyed_rows ls ds)) (values.0 t),
  λ e. values.1 (parts_of ks ls ds es g h (same_rows ks ls ds es e)).values,
)

pub other_keys : (ks ls : List KeyData) (ds es : List Data) (a : Bool) → length ks ≡ length ds → length ls ≡ length es → a ≡ false → Same (IsTrue a) (ks ≡ ls) → Same (IsTrue a) (table (keyed_rows ks ds) ≡ table (keyed_rows ls es))
other_keys ks ls ds es a g h isnt keys = (λ t. absurd (true≢false (sym t ∙ isnt)), λ e. keys.1 (parts_of ks ls ds es g h (same_rows ks ls ds es e)).keys)
