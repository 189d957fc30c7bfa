-- An index without one of its keys.
use Rattle.std.proofs.Common.{◌≡◌, ◌<◌, ◌≤◌, ◌+◌, ◌-◌, ℕ, ℤ, zero, suc, Bool, true, false, cond, List, [], ◌∷◌, ◌++◌, length, map, Option, None, Some, refl, sym, ap, subst, ◌∙◌, inl, inr, arith}
use Rattle.std.specs.Prelude.{ltb, not, nat_eq, ⊤, ◌⊎◌}
use Rattle.std.specs.List.{AllByRecursion, remove}
use Rattle.std.specs.Map.Calls.{RetainsPairs}
use Rattle.std.specs.Option.{option_map}
use Rattle.std.specs.declared.rc.Rc.{Rc}
use Rattle.std.specs.declared.string.String.{String}
use Rattle.std.proofs.lemmas.Bool.Decides.{nat_tests}
use Rattle.sf_value.specs.Values.{KeyData, number_key, IsOneOf}
use Rattle.sf_value.specs.Keys.{equal_keys, key_index, AreNew, AreDifferentKeys}
use Rattle.sf_value.specs.Indexes.{put_by_place, by_place, keys_by_place, found_place, placed, moved_up, without_place, IsIndex}
use Rattle.sf_value.proofs.Under.{equal_keys-Decides}
use Rattle.sf_value.proofs.Indexes.{Placed, seen_as, bytes_key, length_keys, put_all, is_less}

-- ## What a map retains

module _ {F K : Type 0} (T : F → K → ℕ → Bool → ℕ → F → Type 0) (i : ℕ) (f : F)
    (told : (k : K) (v : ℕ) (b : Bool) (w : ℕ) (g : F) → T f k v b w g → (b ≡ not (nat_eq v i)) × (w ≡ moved_up i v) × (g ≡ f)) where
  pub retained : (es kept : List (K × ℕ)) → RetainsPairs T f es kept → kept ≡ without_place i es
  retained [] kept h = h
  retained (e ∷ es) kept h =
      let t = told e.0 e.1 h.0 h.1 h.2 h.4 in
      let rest : h.3 ≡ without_place i es = retained es h.3 (subst (λ g. RetainsPairs T g es h.3) t.2 h.5) in
      h.6 ∙ ap (λ b. cond b ((e.0, h.1) ∷ h.3) h.3) t.0 ∙ ap (λ w. cond (not (nat_eq e.1 i)) ((e.0, w) ∷ h.3) h.3) t.1
      ∙ ap (λ xs. cond (not (nat_eq e.1 i)) ((e.0, moved_up i e.1) ∷ xs) xs) rest

without_append : {K : Type 0} (i : ℕ) (xs ys : List (K × ℕ)) → without_place i (xs ++ ys) ≡ without_place i xs ++ without_place i ys
without_append i [] ys = refl
without_append i (x ∷ xs) ys = each (not (nat_eq x.1 i)) (without_append i xs ys)
  where
    each : (b : Bool) → without_place i (xs ++ ys) ≡ without_place i xs ++ without_place i ys
        → cond b ((x.0, moved_up i x.1) ∷ without_place i (xs ++ ys)) (without_place i (xs ++ ys)) ≡ cond b ((x.0, moved_up i x.1) ∷ without_place i xs) (without_place i xs) ++ without_place i ys
    each true later = ap (λ zs. (x.0, moved_up i x.1) ∷ zs) later
    each false later = later

without_seen : {K : Type 0} (f : K → KeyData) (i : ℕ) (es : List (K × ℕ)) → seen_as f (without_place i es) ≡ without_place i (seen_as f es)
without_seen f i [] = refl
without_seen f i (e ∷ es) = each (not (nat_eq e.1 i)) (without_seen f i es)
  where
    each : (b : Bool) → seen_as f (without_place i es) ≡ without_place i (seen_as f es)
        → seen_as f (cond b ((e.0, moved_up i e.1) ∷ without_place i es) (without_place i es)) ≡ cond b ((f e.0, moved_up i e.1) ∷ without_place i (seen_as f es)) (without_place i (seen_as f es))
    each true later = ap (λ zs. (f e.0, moved_up i e.1) ∷ zs) later
    each false later = later

placed_without : {A Y : Type 0} (i : ℕ) (ns : List (ℤ × ℕ)) (ts : List (Rc (String Y) A × ℕ)) → placed (without_place i ns) (without_place i ts) ≡ without_place i (placed ns ts)
placed_without i ns ts =
    ap (λ xs. xs ++ seen_as bytes_key (without_place i ts)) (without_seen number_key i ns) ∙ ap (λ ys. without_place i (seen_as number_key ns) ++ ys) (without_seen bytes_key i ts)
    ∙ sym (without_append i (seen_as number_key ns) (seen_as bytes_key ts))

-- where a place is taken out of both
pub both_without : {A Y : Type 0} (i : ℕ) (ns ms : List (ℤ × ℕ)) (ts us : List (Rc (String Y) A × ℕ)) → ms ≡ without_place i ns → us ≡ without_place i ts → placed ms us ≡ without_place i (placed ns ts)
both_without i ns ms ts us n t = ap (λ ms. placed ms us) n ∙ ap (λ us. placed (without_place i ns) us) t ∙ placed_without i ns ts

-- ## Places

test_less : (a b : ℕ) → ltb a b ≡ true → a < b
test_less a b h = grind (arith, nat_tests)

test_not_less : (a b : ℕ) → ltb a b ≡ false → b ≤ a
test_not_less a b h = grind (arith, nat_tests)

test_same : (a b : ℕ) → nat_eq a b ≡ true → a ≡ b
test_same a b h = grind (arith, nat_tests)

-- a place that stays
record Stays (i n : ℕ) : Type 0 where
  below : n < i
  is : moved_up i n ≡ n

-- a place behind moves
record Moves (i n : ℕ) : Type 0 where
  above : i < n
  is : suc (moved_up i n) ≡ n

below_stays : (i n : ℕ) → n ≤ i → moved_up i n ≡ n
below_stays i n h = let no : ltb i n ≡ false = grind (arith, nat_tests) in ap (λ b. cond b (n - 1) n) no

above_moves : (i n : ℕ) → i < n → suc (moved_up i n) ≡ n
above_moves i n h = ap (λ b. suc (cond b (n - 1) n)) (is_less i n h) ∙ omega arith

other_place : (i n : ℕ) → nat_eq n i ≡ false → Stays i n ⊎ Moves i n
other_place i n h = each (ltb n i) refl
  where
    each : (b : Bool) → ltb n i ≡ b → Stays i n ⊎ Moves i n
    each true e = let less = test_less n i e in inl (record { below = less; is = below_stays i n (omega (arith, less)) })
    each false e =
        let more = test_not_less n i e in
        let above : i < n = grind (arith, nat_tests) in
        inr (record { above = above; is = above_moves i n above })

less_then : (i a b : ℕ) → nat_eq a i ≡ false → nat_eq b i ≡ false → a < b → moved_up i a < moved_up i b
less_then i a b h k less = elim (other_place i a h) [
  | inl s ↦ elim (other_place i b k) [ inl t ↦ omega (arith, s.is, t.is, less) | inr t ↦ omega (arith, s.is, s.below, t.is, t.above, less) ]
  | inr s ↦ elim (other_place i b k) [ inl t ↦ omega (arith, s.is, s.above, t.is, t.below, less) | inr t ↦ omega (arith, s.is, t.is, less) ]
]

not_less_then : (i a b : ℕ) → nat_eq a i ≡ false → nat_eq b i ≡ false → b ≤ a → ltb (moved_up i a) (moved_up i b) ≡ false
not_less_then i a b h k less = from_le (moved_up i a) (moved_up i b) (elim (other_place i a h) [
  | inl s ↦ elim (other_place i b k) [ inl t ↦ omega (arith, s.is, t.is, less) | inr t ↦ omega (arith, s.is, s.below, t.is, t.above, less) ]
  | inr s ↦ elim (other_place i b k) [ inl t ↦ omega (arith, s.is, s.above, t.is, t.below, less) | inr t ↦ omega (arith, s.is, t.is, less) ]
])
  where
    from_le : (m n : ℕ) → n ≤ m → ltb m n ≡ false
    from_le m n h = grind (arith, nat_tests)

-- ## In order

-- places that don't fall
abbrev Rising : List Placed → Type 0
Rising [] = ⊤
Rising (x ∷ xs) = AllByRecursion (λ y. x.1 ≤ y.1) xs × Rising xs

all_from : (m n : ℕ) → m ≤ n → (xs : List Placed) → AllByRecursion (λ y. n ≤ y.1) xs → AllByRecursion (λ y. m ≤ y.1) xs
all_from m n h [] a = tt
all_from m n h (x ∷ xs) a = let le = a.0 in (omega (arith, h, le), all_from m n h xs a.1)

put_rising : (e : Placed) (xs : List Placed) → Rising xs → Rising (put_by_place e xs)
put_rising e [] r = (tt, tt)
put_rising e (x ∷ xs) r = each (ltb e.1 x.1) refl (put_rising e xs r.1)
  where
    each : (b : Bool) → ltb e.1 x.1 ≡ b → Rising (put_by_place e xs) → Rising (cond b (e ∷ x ∷ xs) (x ∷ put_by_place e xs))
    each true h later = let less = test_less e.1 x.1 h in let le : e.1 ≤ x.1 = omega (arith, less) in ((le, all_from e.1 x.1 le xs r.0), r)
    each false h later = (put_all (λ y. x.1 ≤ y.1) e xs (test_not_less e.1 x.1 h) r.0, later)

by_place_rising : (es : List Placed) → Rising (by_place es)
by_place_rising [] = tt
by_place_rising (e ∷ es) = put_rising e (by_place es) (by_place_rising es)

module _ (i : ℕ) where
  abbrev Up : Placed → Placed
  Up e = (e.0, moved_up i e.1)

  drops : (e : Placed) (es : List Placed) → nat_eq e.1 i ≡ true → without_place i (e ∷ es) ≡ without_place i es
  drops e es h = ap (λ b. cond (not b) (Up e ∷ without_place i es) (without_place i es)) h

  keeps : (e : Placed) (es : List Placed) → nat_eq e.1 i ≡ false → without_place i (e ∷ es) ≡ Up e ∷ without_place i es
  keeps e es h = ap (λ b. cond (not b) (Up e ∷ without_place i es) (without_place i es)) h

  put_first : (e : Placed) (ys : List Placed) → AllByRecursion (λ y. e.1 < y.1) ys → put_by_place e ys ≡ e ∷ ys
  put_first e [] a = refl
  put_first e (y ∷ ys) a = ap (λ b. cond b (e ∷ y ∷ ys) (y ∷ put_by_place e ys)) (is_less e.1 y.1 a.0)

  left_behind : (m : ℕ) → m < i → (xs : List Placed) → AllByRecursion (λ y. i ≤ y.1) xs → AllByRecursion (λ y. m < y.1) (without_place i xs)
  left_behind m h [] a = tt
  left_behind m h (x ∷ xs) a = each (nat_eq x.1 i) refl (left_behind m h xs a.1)
    where
      each : (b : Bool) → nat_eq x.1 i ≡ b → AllByRecursion (λ y. m < y.1) (without_place i xs) → AllByRecursion (λ y. m < y.1) (cond (not b) (Up x ∷ without_place i xs) (without_place i xs))
      each true same later = later
      each false other later =
          let le = a.0 in
          let up : suc (moved_up i x.1) ≡ x.1 = above_moves i x.1 (grind (arith, nat_tests)) in
          let above : i < x.1 = grind (arith, nat_tests) in
          (omega (arith, up, above, h), later)

  put_dropped : (e : Placed) → nat_eq e.1 i ≡ true → (xs : List Placed) → without_place i (put_by_place e xs) ≡ without_place i xs
  put_dropped e h [] = drops e [] h
  put_dropped e h (x ∷ xs) = each (ltb e.1 x.1) (put_dropped e h xs)
    where
      each : (b : Bool) → without_place i (put_by_place e xs) ≡ without_place i xs → without_place i (cond b (e ∷ x ∷ xs) (x ∷ put_by_place e xs)) ≡ without_place i (x ∷ xs)
      each true later = drops e (x ∷ xs) h
      each false later = ap (λ zs. cond (not (nat_eq x.1 i)) (Up x ∷ zs) zs) later

  put_kept : (e : Placed) → nat_eq e.1 i ≡ false → (xs : List Placed) → Rising xs → without_place i (put_by_place e xs) ≡ put_by_place (Up e) (without_place i xs)
  put_kept e h [] r = keeps e [] h
  put_kept e h (x ∷ xs) r = each (ltb e.1 x.1) (nat_eq x.1 i) refl refl (put_kept e h xs r.1)
    where
      each : (l g : Bool) → ltb e.1 x.1 ≡ l → nat_eq x.1 i ≡ g → without_place i (put_by_place e xs) ≡ put_by_place (Up e) (without_place i xs)
          → without_place i (cond l (e ∷ x ∷ xs) (x ∷ put_by_place e xs)) ≡ put_by_place (Up e) (without_place i (x ∷ xs))
      each true true l g later =
          let less = test_less e.1 x.1 l in
          let same = test_same x.1 i g in
          let below : e.1 < i = subst (λ n. e.1 < n) same less in
          let stays = below_stays i e.1 (omega (arith, below)) in
          let behind = left_behind (moved_up i e.1) (subst (λ n. n < i) (sym stays) below) xs (subst (λ n. AllByRecursion (λ y. n ≤ y.1) xs) same r.0) in
          keeps e (x ∷ xs) h ∙ ap (λ zs. Up e ∷ zs) (drops x xs g) ∙ sym (put_first (Up e) (without_place i xs) behind) ∙ ap (put_by_place (Up e)) (sym (drops x xs g))
      each true false l g later =
          keeps e (x ∷ xs) h ∙ ap (λ zs. Up e ∷ zs) (keeps x xs g)
          ∙ sym (ap (put_by_place (Up e)) (keeps x xs g) ∙ ap (λ b. cond b (Up e ∷ Up x ∷ without_place i xs) (Up x ∷ put_by_place (Up e) (without_place i xs))) (is_less (moved_up i e.1) (moved_up i x.1) (less_then i e.1 x.1 h g (test_less e.1 x.1 l))))
      each false true l g later = drops x (put_by_place e xs) g ∙ later ∙ ap (put_by_place (Up e)) (sym (drops x xs g))
      each false false l g later =
          keeps x (put_by_place e xs) g ∙ ap (λ zs. Up x ∷ zs) later
          ∙ sym (ap (put_by_place (Up e)) (keeps x xs g) ∙ ap (λ b. cond b (Up e ∷ Up x ∷ without_place i xs) (Up x ∷ put_by_place (Up e) (without_place i xs))) (not_less_then i e.1 x.1 h g (test_not_less e.1 x.1 l)))

  by_place_without : (es : List Placed) → by_place (without_place i es) ≡ without_place i (by_place es)
  by_place_without [] = refl
  by_place_without (e ∷ es) = each (nat_eq e.1 i) refl (by_place_without es)
    where
      each : (d : Bool) → nat_eq e.1 i ≡ d → by_place (without_place i es) ≡ without_place i (by_place es) → by_place (without_place i (e ∷ es)) ≡ without_place i (put_by_place e (by_place es))
      each true h later = ap by_place (drops e es h) ∙ later ∙ sym (put_dropped e h (by_place es))
      each false h later = ap by_place (keeps e es h) ∙ ap (put_by_place (Up e)) later ∙ sym (put_kept e h (by_place es) (by_place_rising es))

-- keys at the places from n on
abbrev numbered : ℕ → List KeyData → List Placed
numbered n [] = []
numbered n (k ∷ ks) = (k, n) ∷ numbered (suc n) ks

moved_numbered : (i n : ℕ) → i ≤ n → (ks : List KeyData) → without_place i (numbered (suc n) ks) ≡ numbered n ks
moved_numbered i n h [] = refl
moved_numbered i n h (k ∷ ks) =
    let other : nat_eq (suc n) i ≡ false = grind (arith, nat_tests) in
    let up : suc (moved_up i (suc n)) ≡ suc n = above_moves i (suc n) (omega (arith, h)) in
    let is : moved_up i (suc n) ≡ n = omega (arith, up) in
    keeps i (k, suc n) (numbered (suc (suc n)) ks) other ∙ ap (λ m. (k, m) ∷ without_place i (numbered (suc (suc n)) ks)) is ∙ ap (λ zs. (k, n) ∷ zs) (moved_numbered i (suc n) (omega (arith, h)) ks)

removed_numbered : (n j : ℕ) (ks : List KeyData) → without_place (n + j) (numbered n ks) ≡ numbered n (remove ks j)
removed_numbered n zero [] = refl
removed_numbered n (suc j) [] = refl
removed_numbered n zero (k ∷ ks) =
    let same : nat_eq n (n + 0) ≡ true = grind (arith, nat_tests) in
    drops (n + 0) (k, n) (numbered (suc n) ks) same ∙ moved_numbered (n + 0) n (omega arith) ks
removed_numbered n (suc j) (k ∷ ks) =
    let other : nat_eq n (n + suc j) ≡ false = grind (arith, nat_tests) in
    let is : moved_up (n + suc j) n ≡ n = below_stays (n + suc j) n (omega arith) in
    keeps (n + suc j) (k, n) (numbered (suc n) ks) other ∙ ap (λ m. (k, m) ∷ without_place (n + suc j) (numbered (suc n) ks)) is
    ∙ ap (λ i. (k, n) ∷ without_place i (numbered (suc n) ks)) (omega arith) ∙ ap (λ zs. (k, n) ∷ zs) (removed_numbered (suc n) j ks)

keys_numbered : (n : ℕ) (ks : List KeyData) → map (λ (e : Placed). e.0) (numbered n ks) ≡ ks
keys_numbered n [] = refl
keys_numbered n (k ∷ ks) = ap (λ xs. k ∷ xs) (keys_numbered (suc n) ks)

all_numbered : (n m : ℕ) (ks : List KeyData) → n + length ks ≤ m → AllByRecursion (λ e. e.1 < m) (numbered n ks)
all_numbered n m [] h = tt
all_numbered n m (k ∷ ks) h = (omega (arith, h), all_numbered (suc n) m ks (omega (arith, h)))

-- ## Different keys

abbrev keys_in : List Placed → List KeyData
keys_in xs = map (λ (e : Placed). e.0) xs

fewer_seen : (seen less ks : List KeyData) → ((l : KeyData) → IsOneOf l less → IsOneOf l seen) → AreNew seen ks → AreNew less ks
fewer_seen seen less [] f h = tt
fewer_seen seen less (k ∷ ks) f h = (λ m. h.0 (f k m), fewer_seen (k ∷ seen) (k ∷ less) ks both h.1)
  where
    both : (l : KeyData) → IsOneOf l (k ∷ less) → IsOneOf l (k ∷ seen)
    both l (inl e) = inl e
    both l (inr m) = inr (f l m)

not_seen : (seen : List KeyData) (k : KeyData) → IsOneOf k seen → (ks : List KeyData) → AreNew seen ks → IsOneOf k ks → ⊥
not_seen seen k s [] h m = m
not_seen seen k s (l ∷ ks) h (inl same) = h.0 (subst (λ q. IsOneOf q seen) same s)
not_seen seen k s (l ∷ ks) h (inr m) = not_seen (l ∷ seen) k (inr s) ks h.1 m

pub removed_new : (seen ks : List KeyData) (i : ℕ) → AreNew seen ks → AreNew seen (remove ks i)
removed_new seen [] zero h = tt
removed_new seen [] (suc i) h = tt
removed_new seen (k ∷ ks) zero h = fewer_seen (k ∷ seen) seen ks (λ l m. inr m) h.1
removed_new seen (k ∷ ks) (suc i) h = (h.0, removed_new (k ∷ seen) ks i h.1)

record New (seen : List KeyData) (e : Placed) (xs : List Placed) : Type 0 where
  others : AreNew seen (keys_in xs)
  unseen : IsOneOf e.0 seen → ⊥
  apart : IsOneOf e.0 (keys_in xs) → ⊥

put_new : (seen : List KeyData) (e : Placed) (xs : List Placed) → AreNew seen (keys_in (put_by_place e xs)) → New seen e xs
put_new seen e [] h = record { others = tt; unseen = h.0; apart = λ m. m }
put_new seen e (x ∷ xs) h = each (ltb e.1 x.1) h (put_new (x.0 ∷ seen) e xs)
  where
    each : (b : Bool) → AreNew seen (keys_in (cond b (e ∷ x ∷ xs) (x ∷ put_by_place e xs))) → (AreNew (x.0 ∷ seen) (keys_in (put_by_place e xs)) → New (x.0 ∷ seen) e xs) → New seen e (x ∷ xs)
    each true h later = record {
      others = fewer_seen (e.0 ∷ seen) seen (keys_in (x ∷ xs)) (λ l m. inr m) h.1;
      unseen = h.0;
      apart = not_seen (e.0 ∷ seen) e.0 (inl refl) (keys_in (x ∷ xs)) h.1;
    }
    each false h later = let r = later h.1 in record {
      others = (h.0, r.others);
      unseen = λ m. r.unseen (inr m);
      apart = λ m. elim m [ inl same ↦ r.unseen (inl same) | inr n ↦ r.apart n ];
    }

-- ## Looking up

found_put : (k : KeyData) (e : Placed) (xs : List Placed) → (IsOneOf e.0 (keys_in xs) → ⊥) → found_place k (put_by_place e xs) ≡ cond (equal_keys k e.0) (Some e.1) (found_place k xs)
found_put k e [] apart = refl
found_put k e (x ∷ xs) apart = each (ltb e.1 x.1) (found_put k e xs (λ m. apart (inr m)))
  where
    swap : (p q : Bool) → equal_keys k x.0 ≡ p → equal_keys k e.0 ≡ q → cond p (Some x.1) (cond q (Some e.1) (found_place k xs)) ≡ cond q (Some e.1) (cond p (Some x.1) (found_place k xs))
    swap true true h i = absurd (apart (inl (sym ((equal_keys-Decides k e.0).0 i) ∙ (equal_keys-Decides k x.0).0 h)))
    swap true false h i = refl
    swap false true h i = refl
    swap false false h i = refl

    each : (b : Bool) → found_place k (put_by_place e xs) ≡ cond (equal_keys k e.0) (Some e.1) (found_place k xs)
        → found_place k (cond b (e ∷ x ∷ xs) (x ∷ put_by_place e xs)) ≡ cond (equal_keys k e.0) (Some e.1) (cond (equal_keys k x.0) (Some x.1) (found_place k xs))
    each true later = refl
    each false later = ap (cond (equal_keys k x.0) (Some x.1)) later ∙ swap (equal_keys k x.0) (equal_keys k e.0) refl refl

found_by_place : (k : KeyData) (es : List Placed) → AreDifferentKeys (keys_by_place es) → found_place k (by_place es) ≡ found_place k es
found_by_place k [] d = refl
found_by_place k (e ∷ es) d =
    let r = put_new [] e (by_place es) d in
    found_put k e (by_place es) r.apart ∙ ap (cond (equal_keys k e.0) (Some e.1)) (found_by_place k es r.others)

record Absent (k : KeyData) (xs : List Placed) : Type 0 where
  found : found_place k xs ≡ None
  index : key_index k (keys_in xs) ≡ None

absent : (k : KeyData) (xs : List Placed) → (IsOneOf k (keys_in xs) → ⊥) → Absent k xs
absent k [] h = record { found = refl; index = refl }
absent k (x ∷ xs) h = each (equal_keys k x.0) refl (absent k xs (λ m. h (inr m)))
  where
    each : (b : Bool) → equal_keys k x.0 ≡ b → Absent k xs → Absent k (x ∷ xs)
    each true e later = absurd (h (inl ((equal_keys-Decides k x.0).0 e)))
    each false e later = record {
      found = ap (λ b. cond b (Some x.1) (found_place k xs)) e ∙ later.found;
      index = ap (λ b. cond b (Some 0) (option_map suc (key_index k (keys_in xs)))) e ∙ ap (option_map suc) later.index;
    }

abbrev more : ℕ → Option ℕ → Option ℕ
more n o = option_map (λ j. n + j) o

one_more : (n : ℕ) (o : Option ℕ) → more n (option_map suc o) ≡ more (suc n) o
one_more n None = refl
one_more n (Some j) = ap Some (omega arith)

none_more : (o : Option ℕ) → more 0 o ≡ o
none_more None = refl
none_more (Some j) = ap Some (omega arith)

first_more : (n : ℕ) → more n (Some 0) ≡ Some n
first_more n = ap Some (omega arith)

no_more : (n : ℕ) → more n None ≡ None
no_more n = refl

same_some : {m n : ℕ} → Some m ≡ Some n → m ≡ n
same_some e = cc

in_order : (n : ℕ) (seen : List KeyData) (xs : List Placed) → AreNew seen (keys_in xs) → ((k : KeyData) → found_place k xs ≡ more n (key_index k (keys_in xs))) → xs ≡ numbered n (keys_in xs)
in_order n seen [] d f = refl
in_order n seen (x ∷ xs) d f =
    let itself : equal_keys x.0 x.0 ≡ true = (equal_keys-Decides x.0 x.0).1 refl in
    let first : x.1 ≡ n = same_some (sym (ap (λ b. cond b (Some x.1) (found_place x.0 xs)) itself) ∙ f x.0 ∙ ap (λ b. more n (cond b (Some 0) (option_map suc (key_index x.0 (keys_in xs))))) itself ∙ first_more n) in
    ap (λ m. (x.0, m) ∷ xs) first ∙ ap (λ zs. (x.0, n) ∷ zs) (in_order (suc n) (x.0 ∷ seen) xs d.1 rest)
  where
    rest : (k : KeyData) → found_place k xs ≡ more (suc n) (key_index k (keys_in xs))
    rest k = each (equal_keys k x.0) refl
      where
        each : (b : Bool) → equal_keys k x.0 ≡ b → found_place k xs ≡ more (suc n) (key_index k (keys_in xs))
        each true e =
            let same = (equal_keys-Decides k x.0).0 e in
            let none = absent k xs (not_seen (x.0 ∷ seen) k (inl same) (keys_in xs) d.1) in
            none.found ∙ sym (ap (more (suc n)) none.index ∙ no_more (suc n))
        each false e =
            sym (ap (λ b. cond b (Some x.1) (found_place k xs)) e) ∙ f k ∙ ap (λ b. more n (cond b (Some 0) (option_map suc (key_index k (keys_in xs))))) e ∙ one_more n (key_index k (keys_in xs))

found_numbered : (k : KeyData) (n : ℕ) (ks : List KeyData) → found_place k (numbered n ks) ≡ more n (key_index k ks)
found_numbered k n [] = sym (no_more n)
found_numbered k n (l ∷ ks) = each (equal_keys k l) (found_numbered k (suc n) ks)
  where
    each : (b : Bool) → found_place k (numbered (suc n) ks) ≡ more (suc n) (key_index k ks) → cond b (Some n) (found_place k (numbered (suc n) ks)) ≡ more n (cond b (Some 0) (option_map suc (key_index k ks)))
    each true later = sym (first_more n)
    each false later = later ∙ sym (one_more n (key_index k ks))

-- what holds of the places in order holds of them
record Back (P : Placed → Type 0) (e : Placed) (xs : List Placed) : Type 0 where
  one : P e
  others : AllByRecursion P xs

put_back : (P : Placed → Type 0) (e : Placed) (xs : List Placed) → AllByRecursion P (put_by_place e xs) → Back P e xs
put_back P e [] a = record { one = a.0; others = tt }
put_back P e (x ∷ xs) a = each (ltb e.1 x.1) a (put_back P e xs)
  where
    each : (b : Bool) → AllByRecursion P (cond b (e ∷ x ∷ xs) (x ∷ put_by_place e xs)) → (AllByRecursion P (put_by_place e xs) → Back P e xs) → Back P e (x ∷ xs)
    each true a later = record { one = a.0; others = a.1 }
    each false a later = let r = later a.1 in record { one = r.one; others = (a.0, r.others) }

from_by_place : (P : Placed → Type 0) (es : List Placed) → AllByRecursion P (by_place es) → AllByRecursion P es
from_by_place P [] a = tt
from_by_place P (e ∷ es) a = let r = put_back P e (by_place es) a in (r.one, from_by_place P es r.others)

-- ## The index

module _ (i : ℕ) (es : List Placed) (index : IsIndex es) where
  order : by_place es ≡ numbered 0 (keys_by_place es)
  order = in_order 0 [] (by_place es) index.different (λ k. found_by_place k es index.different ∙ index.places k ∙ sym (none_more (key_index k (keys_by_place es))))

  then : by_place (without_place i es) ≡ numbered 0 (remove (keys_by_place es) i)
  then =
      by_place_without i es ∙ ap (without_place i) order ∙ ap (λ j. without_place j (numbered 0 (keys_by_place es))) (omega arith)
      ∙ removed_numbered 0 i (keys_by_place es)

  pub keys_without : keys_by_place (without_place i es) ≡ remove (keys_by_place es) i
  keys_without = ap keys_in then ∙ keys_numbered 0 (remove (keys_by_place es) i)

  different : AreDifferentKeys (keys_by_place (without_place i es))
  different = subst AreDifferentKeys (sym keys_without) (removed_new [] (keys_by_place es) i index.different)

  long : length (without_place i es) ≡ length (remove (keys_by_place es) i)
  long = sym (length_keys (without_place i es)) ∙ ap length keys_without

  pub index_without : IsIndex (without_place i es)
  index_without = record {
    below = from_by_place (λ e. e.1 < length (without_place i es)) (without_place i es) (subst (AllByRecursion (λ e. e.1 < length (without_place i es))) (sym then)
        (all_numbered 0 (length (without_place i es)) (remove (keys_by_place es) i) (omega (arith, long))));
    different = different;
    places = λ k. sym (found_by_place k (without_place i es) different) ∙ ap (found_place k) then ∙ found_numbered k 0 (remove (keys_by_place es) i)
        ∙ none_more (key_index k (remove (keys_by_place es) i)) ∙ ap (key_index k) (sym keys_without);
  }
