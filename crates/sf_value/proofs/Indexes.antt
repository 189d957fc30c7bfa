-- The index of a table's keys.
use Rattle.std.proofs.Common.{◌≡◌, ◌<◌, ◌+◌, ℕ, ℤ, suc, Bool, true, false, cond, List, [], ◌∷◌, ◌++◌, length, map, Option, None, Some, refl, sym, ap, subst, ◌∙◌, inl, inr, arith, append_assoc, length-append, rules}
use Rattle.std.specs.Prelude.{ltb, not, ◌||◌, is_some, if◌then◌else◌, string_bytes, nat_eq}
use Rattle.std.specs.List.{AllByRecursion, AllZip, list_any}
use Rattle.std.specs.List.Sorted.{IsStrictlySortedBy}
use Rattle.std.specs.Map.{lookup, keys_of}
use Rattle.std.specs.BTreeMap.{insert_entry, is_at}
use Rattle.std.specs.Option.{option_map, unwrap_or}
use Rattle.std.specs.Ordering.{match_ordering, is_eq, int_cmp}
use Rattle.std.specs.String.{string_cmp}
use Rattle.std.specs.Cmp.{IsTotalOrder}
use Rattle.std.specs.declared.cmp.Ordering.{Ordering}
use Rattle.std.specs.declared.cmp.Ordering.TheVariants.{Less, Equal, Greater}
use Rattle.std.specs.declared.rc.Rc.{Rc}
use Rattle.std.specs.declared.string.String.{String}
use Rattle.std.proofs.lemmas.Map.{lookup-none}
use Rattle.std.proofs.lemmas.Map.Entries.{entries_from_clone}
use Rattle.std.proofs.lemmas.Map.Keys.{sorted_head, sorted_tail}
use Rattle.std.proofs.lemmas.Map.Text.{is_eq-slice_cmp}
use Rattle.std.proofs.lemmas.Bool.Decides.{nat_tests}
use Rattle.std.proofs.lemmas.List.{map-append}
use Rattle.sf_value.specs.Values.{KeyData, number_key, text_key, IsOneOf}
use Rattle.sf_value.specs.Keys.{equal_keys, key_index, AreNew, AreDifferentKeys}
use Rattle.sf_value.specs.Indexes.{put_by_place, by_place, keys_by_place, found_place, placed, IsIndex}
use Rattle.sf_value.proofs.Under.{equal_keys-Decides}

abbrev pub Placed : Type 0
Placed = KeyData × ℕ

-- new is es with x somewhere
pub record Inserted {X : Type 0} (es : List X) (x : X) (new : List X) : Type 0 where
  pub front : List X
  pub back : List X
  pub cut : es ≡ front ++ back
  pub is : new ≡ front ++ x ∷ back

module _ {K : Type 0} (cmp : K → K → Ordering) where
  -- a key that isn't there is put somewhere
  pub inserted : (es : List (K × ℕ)) (k : K) (v : ℕ) → lookup (is_at (cmp k)) es ≡ None → Inserted es (k, v) (insert_entry cmp es k v)
  inserted [] k v h = record { front = []; back = []; cut = refl; is = refl }
  inserted (e ∷ es) k v h = each (cmp k e.0) (inserted es k v) h
    where
      each : (r : Ordering) → (lookup (is_at (cmp k)) es ≡ None → Inserted es (k, v) (insert_entry cmp es k v)) → cond (is_eq r) (Some e.1) (lookup (is_at (cmp k)) es) ≡ None
          → Inserted (e ∷ es) (k, v) (match_ordering r ((k, v) ∷ e ∷ es) ((e.0, v) ∷ es) (e ∷ insert_entry cmp es k v))
      each Less later h = record { front = []; back = e ∷ es; cut = refl; is = refl }
      each Equal later h = absurd cc
      each Greater later h = let i = later h in record { front = e ∷ i.front; back = i.back; cut = ap (λ xs. e ∷ xs) i.cut; is = ap (λ xs. e ∷ xs) i.is }

  -- a key that is there stays
  pub stays : IsTotalOrder cmp → (es : List (K × ℕ)) (k : K) (v : ℕ) → IsStrictlySortedBy cmp (keys_of es) → lookup (is_at (cmp k)) es ≡ Some v → insert_entry cmp es k v ≡ es
  stays o [] k v s h = absurd cc
  stays o (e ∷ es) k v s h = each (cmp k e.0) refl (stays o es k v (sorted_tail cmp e.0 (keys_of es) s)) h
    where
      above : cmp k e.0 ≡ Less → (xs : List (K × ℕ)) → AllByRecursion (λ y. cmp e.0 y ≡ Less) (keys_of xs) → AllByRecursion (λ x. is_at (cmp k) x.0 ≡ false) xs
      above less [] a = tt
      above less (x ∷ xs) a = (ap is_eq (o.trans k e.0 x.0 less a.0), above less xs a.1)

      each : (r : Ordering) → cmp k e.0 ≡ r → (lookup (is_at (cmp k)) es ≡ Some v → insert_entry cmp es k v ≡ es) → cond (is_eq r) (Some e.1) (lookup (is_at (cmp k)) es) ≡ Some v
          → match_ordering r ((k, v) ∷ e ∷ es) ((e.0, v) ∷ es) (e ∷ insert_entry cmp es k v) ≡ e ∷ es
      each Less is later h = absurd (let none = lookup-none (is_at (cmp k)) es (above is es (sorted_head cmp e.0 (keys_of es) s)) in cc)
      each Equal is later h = let value : e.1 ≡ v = cc in ap (λ w. (e.0, w) ∷ es) (sym value)
      each Greater is later h = ap (λ xs. e ∷ xs) (later h)

  pub put : IsTotalOrder cmp → (es new : List (K × ℕ)) (k : K) (v p : ℕ) → IsStrictlySortedBy cmp (keys_of es) → p ≡ unwrap_or (lookup (is_at (cmp k)) es) v → new ≡ insert_entry cmp es k p
      → new ≡ (if is_some (lookup (is_at (cmp k)) es) then es else insert_entry cmp es k v)
  put o es new k v p s e is = each (lookup (is_at (cmp k)) es) refl e
    where
      each : (r : Option ℕ) → lookup (is_at (cmp k)) es ≡ r → p ≡ unwrap_or r v → new ≡ (if is_some r then es else insert_entry cmp es k v)
      each None h e = is ∙ ap (insert_entry cmp es k) e
      each (Some w) h e = is ∙ ap (insert_entry cmp es k) e ∙ stays o es k w s h

-- what holds of the places holds of them in order
pub put_all : (P : Placed → Type 0) (e : Placed) (xs : List Placed) → P e → AllByRecursion P xs → AllByRecursion P (put_by_place e xs)
put_all P e [] p a = (p, tt)
put_all P e (x ∷ xs) p a = each (ltb e.1 x.1) (put_all P e xs p a.1)
  where
    each : (b : Bool) → AllByRecursion P (put_by_place e xs) → AllByRecursion P (cond b (e ∷ x ∷ xs) (x ∷ put_by_place e xs))
    each true later = (p, a)
    each false later = (a.0, later)

all_by_place : (P : Placed → Type 0) (es : List Placed) → AllByRecursion P es → AllByRecursion P (by_place es)
all_by_place P [] a = tt
all_by_place P (e ∷ es) a = put_all P e (by_place es) a.0 (all_by_place P es a.1)

put_length : (e : Placed) (xs : List Placed) → length (put_by_place e xs) ≡ suc (length xs)
put_length e [] = refl
put_length e (x ∷ xs) = each (ltb e.1 x.1) (put_length e xs)
  where
    each : (b : Bool) → length (put_by_place e xs) ≡ suc (length xs) → length (cond b (e ∷ x ∷ xs) (x ∷ put_by_place e xs)) ≡ suc (suc (length xs))
    each true later = refl
    each false later = ap suc later

length_by_place : (es : List Placed) → length (by_place es) ≡ length es
length_by_place [] = refl
length_by_place (e ∷ es) = put_length e (by_place es) ∙ ap suc (length_by_place es)

keys_length : (xs : List Placed) → length (map (λ (e : Placed). e.0) xs) ≡ length xs
keys_length [] = refl
keys_length (x ∷ xs) = ap suc (keys_length xs)

pub length_keys : (es : List Placed) → length (keys_by_place es) ≡ length es
length_keys es = keys_length (by_place es) ∙ length_by_place es

pub is_less : (a b : ℕ) → a < b → ltb a b ≡ true
is_less a b h = grind (arith, nat_tests)

pub is_not_less : (a b : ℕ) → b < a → ltb a b ≡ false
is_not_less a b h = grind (arith, nat_tests)

-- a key with the last place stands last
put_last : (x : Placed) (xs : List Placed) → AllByRecursion (λ e. e.1 < x.1) xs → put_by_place x xs ≡ xs ++ x ∷ []
put_last x [] a = refl
put_last x (y ∷ xs) a = ap (λ b. cond b (x ∷ y ∷ xs) (y ∷ put_by_place x xs)) (is_not_less x.1 y.1 a.0) ∙ ap (λ ys. y ∷ ys) (put_last x xs a.1)

put_before : (e x : Placed) (xs : List Placed) → e.1 < x.1 → put_by_place e (xs ++ x ∷ []) ≡ put_by_place e xs ++ x ∷ []
put_before e x [] h = ap (λ b. cond b (e ∷ x ∷ []) (x ∷ e ∷ [])) (is_less e.1 x.1 h)
put_before e x (y ∷ xs) h = each (ltb e.1 y.1) (put_before e x xs h)
  where
    each : (b : Bool) → put_by_place e (xs ++ x ∷ []) ≡ put_by_place e xs ++ x ∷ [] → cond b (e ∷ y ∷ xs ++ x ∷ []) (y ∷ put_by_place e (xs ++ x ∷ [])) ≡ cond b (e ∷ y ∷ xs) (y ∷ put_by_place e xs) ++ x ∷ []
    each true later = refl
    each false later = ap (λ ys. y ∷ ys) later

last_by_place : (x : Placed) (front back : List Placed) → AllByRecursion (λ e. e.1 < x.1) (front ++ back) → by_place (front ++ x ∷ back) ≡ by_place (front ++ back) ++ x ∷ []
last_by_place x [] back a = put_last x (by_place back) (all_by_place (λ e. e.1 < x.1) back a)
last_by_place x (f ∷ front) back a = ap (put_by_place f) (last_by_place x front back a.1) ∙ put_before f x (by_place (front ++ back)) a.0

-- looking up one more key
found_new : (k : KeyData) (x : Placed) (front back : List Placed) → found_place k (front ++ back) ≡ None → equal_keys k x.0 ≡ true → found_place k (front ++ x ∷ back) ≡ Some x.1
found_new k x [] back h e = ap (λ b. cond b (Some x.1) (found_place k back)) e
found_new k x (f ∷ front) back h e = each (equal_keys k f.0) h (found_new k x front back)
  where
    each : (b : Bool) → cond b (Some f.1) (found_place k (front ++ back)) ≡ None → (found_place k (front ++ back) ≡ None → equal_keys k x.0 ≡ true → found_place k (front ++ x ∷ back) ≡ Some x.1)
        → cond b (Some f.1) (found_place k (front ++ x ∷ back)) ≡ Some x.1
    each true h later = absurd cc
    each false h later = later h e

found_other : (k : KeyData) (x : Placed) (front back : List Placed) → equal_keys k x.0 ≡ false → found_place k (front ++ x ∷ back) ≡ found_place k (front ++ back)
found_other k x [] back e = ap (λ b. cond b (Some x.1) (found_place k back)) e
found_other k x (f ∷ front) back e = ap (cond (equal_keys k f.0) (Some f.1)) (found_other k x front back e)

place_new : (k l : KeyData) (ks : List KeyData) → key_index k ks ≡ None → equal_keys k l ≡ true → key_index k (ks ++ l ∷ []) ≡ Some (length ks)
place_new k l [] h e = ap (λ b. cond b (Some 0) None) e
place_new k l (x ∷ ks) h e = each (equal_keys k x) (key_index k ks) refl h (place_new k l ks)
  where
    each : (b : Bool) (o : Option ℕ) → key_index k ks ≡ o → cond b (Some 0) (option_map suc o) ≡ None → (key_index k ks ≡ None → equal_keys k l ≡ true → key_index k (ks ++ l ∷ []) ≡ Some (length ks))
        → cond b (Some 0) (option_map suc (key_index k (ks ++ l ∷ []))) ≡ Some (suc (length ks))
    each true o is h later = absurd cc
    each false None is h later = ap (option_map suc) (later is e)
    each false (Some i) is h later = absurd cc

place_other : (k l : KeyData) (ks : List KeyData) → equal_keys k l ≡ false → key_index k (ks ++ l ∷ []) ≡ key_index k ks
place_other k l [] e = ap (λ b. cond b (Some 0) None) e
place_other k l (x ∷ ks) e = ap (λ o. cond (equal_keys k x) (Some 0) (option_map suc o)) (place_other k l ks e)

-- a key has a place where it is one of them
pub any_place : (k : KeyData) (ks : List KeyData) → list_any (equal_keys k) ks ≡ is_some (key_index k ks)
any_place k [] = refl
any_place k (x ∷ ks) = each (equal_keys k x) (key_index k ks) (any_place k ks)
  where
    each : (b : Bool) (o : Option ℕ) → list_any (equal_keys k) ks ≡ is_some o → (b || list_any (equal_keys k) ks) ≡ is_some (cond b (Some 0) (option_map suc o))
    each true o h = refl
    each false None h = h
    each false (Some i) h = h

-- where the test finds a key, it is one of them
pub any_one : (k : KeyData) (ks : List KeyData) → list_any (equal_keys k) ks ≡ true → IsOneOf k ks
any_one k [] e = absurd cc
any_one k (x ∷ ks) e = each (any_one k ks) (equal_keys k x) refl e
  where
    each : (list_any (equal_keys k) ks ≡ true → IsOneOf k ks) → (b : Bool) → equal_keys k x ≡ b → (b || list_any (equal_keys k) ks) ≡ true → IsOneOf k (x ∷ ks)
    each later true is e = inl ((equal_keys-Decides k x).0 is)
    each later false is e = inr (later e)

pub no_place : (k : KeyData) (ks : List KeyData) → key_index k ks ≡ None → IsOneOf k ks → ⊥
no_place k [] h m = m
no_place k (x ∷ ks) h m = each (no_place k ks) (equal_keys k x) refl (key_index k ks) refl h m
  where
    each : (key_index k ks ≡ None → IsOneOf k ks → ⊥) → (b : Bool) → equal_keys k x ≡ b → (o : Option ℕ) → key_index k ks ≡ o → cond b (Some 0) (option_map suc o) ≡ None → IsOneOf k (x ∷ ks) → ⊥
    each later true e o is h m = absurd cc
    each later false e o is h (inl same) = let t = (equal_keys-Decides k x).1 same in absurd cc
    each later false e None is h (inr m) = later is m
    each later false e (Some i) is h (inr m) = absurd cc

pub some_place : (k : KeyData) (ks : List KeyData) (i : ℕ) → key_index k ks ≡ Some i → i < length ks
some_place k [] i h = absurd cc
some_place k (x ∷ ks) i h = each (some_place k ks) (equal_keys k x) (key_index k ks) refl h
  where
    each : ((j : ℕ) → key_index k ks ≡ Some j → j < length ks) → (b : Bool) (o : Option ℕ) → key_index k ks ≡ o → cond b (Some 0) (option_map suc o) ≡ Some i → i < suc (length ks)
    each later true o is h = let first : 0 ≡ i = cc in omega arith
    each later false None is h = absurd cc
    each later false (Some j) is h = let less = later j is in let next : suc j ≡ i = cc in omega arith

-- one more key that is none of them
pub push_new : (seen ks : List KeyData) (k : KeyData) → AreNew seen ks → (IsOneOf k seen → ⊥) → (IsOneOf k ks → ⊥) → AreNew seen (ks ++ k ∷ [])
push_new seen [] k h new absent = (new, tt)
push_new seen (x ∷ ks) k h new absent = (h.0, push_new (x ∷ seen) ks k h.1 fresh (λ m. absent (inr m)))
  where
    fresh : IsOneOf k (x ∷ seen) → ⊥
    fresh (inl same) = absent (inl same)
    fresh (inr m) = new m

all_less : (n : ℕ) (es : List Placed) → AllByRecursion (λ e. e.1 < n) es → AllByRecursion (λ e. e.1 < suc n) es
all_less n [] a = tt
all_less n (e ∷ es) a = let h = a.0 in (omega arith, all_less n es a.1)

all_inserted : (P : Placed → Type 0) (x : Placed) (front back : List Placed) → P x → AllByRecursion P (front ++ back) → AllByRecursion P (front ++ x ∷ back)
all_inserted P x [] back p a = (p, a)
all_inserted P x (f ∷ front) back p a = (a.0, all_inserted P x front back p a.1)

length_inserted : {X : Type 0} (x : X) (front back : List X) → length (front ++ x ∷ back) ≡ suc (length (front ++ back))
length_inserted x [] back = refl
length_inserted x (f ∷ front) back = ap suc (length_inserted x front back)

module _ (k : KeyData) (es new : List Placed) (index : IsIndex es) (absent : found_place k es ≡ None) (i : Inserted es (k, length es) new) where
  below_cut : AllByRecursion (λ e. e.1 < length es) (i.front ++ i.back)
  below_cut = subst (AllByRecursion (λ e. e.1 < length es)) i.cut index.below

  pub more_keys : keys_by_place new ≡ keys_by_place es ++ k ∷ []
  more_keys = ap keys_by_place i.is ∙ ap (map (λ (e : Placed). e.0)) (last_by_place (k, length es) i.front i.back below_cut)
      ∙ map-append (λ (e : Placed). e.0) (by_place (i.front ++ i.back)) ((k, length es) ∷ []) ∙ ap (λ xs. keys_by_place xs ++ k ∷ []) (sym i.cut)

  one_longer : length new ≡ suc (length es)
  one_longer = ap length i.is ∙ length_inserted (k, length es) i.front i.back ∙ ap (λ xs. suc (length xs)) (sym i.cut)

  nowhere : key_index k (keys_by_place es) ≡ None
  nowhere = sym (index.places k) ∙ absent

  places_then : (q : KeyData) → found_place q new ≡ key_index q (keys_by_place new)
  places_then q = each (equal_keys q k) refl
    where
      each : (b : Bool) → equal_keys q k ≡ b → found_place q new ≡ key_index q (keys_by_place new)
      each true e =
          let same = (equal_keys-Decides q k).0 e in
          ap (found_place q) i.is ∙ found_new q (k, length es) i.front i.back (ap (found_place q) (sym i.cut) ∙ ap (λ l. found_place l es) same ∙ absent) e
          ∙ ap Some (sym (length_keys es)) ∙ sym (ap (key_index q) more_keys ∙ place_new q k (keys_by_place es) (ap (λ l. key_index l (keys_by_place es)) same ∙ nowhere) e)
      each false e =
          ap (found_place q) i.is ∙ found_other q (k, length es) i.front i.back e ∙ ap (found_place q) (sym i.cut) ∙ index.places q
          ∙ sym (ap (key_index q) more_keys ∙ place_other q k (keys_by_place es) e)

  pub index_more : IsIndex new
  index_more = record {
    below = subst (λ n. AllByRecursion (λ e. e.1 < n) new) (sym one_longer) (subst (AllByRecursion (λ e. e.1 < suc (length es))) (sym i.is)
        (all_inserted (λ e. e.1 < suc (length es)) (k, length es) i.front i.back (omega arith) (all_less (length es) (i.front ++ i.back) below_cut)));
    different = subst AreDifferentKeys (sym more_keys) (push_new [] (keys_by_place es) k index.different (λ m. m) (no_place k (keys_by_place es) nowhere));
    places = places_then;
  }

-- the index after a key was put behind the others, where it is new
pub record Puts (k : KeyData) (es new : List Placed) (b : Bool) : Type 0 where
  pub index : IsIndex new
  pub added : b ≡ not (list_any (equal_keys k) (keys_by_place es))
  pub keys : keys_by_place new ≡ (if b then keys_by_place es ++ k ∷ [] else keys_by_place es)

-- as it is seen
pub seen_put : (k key : KeyData) (es new : List Placed) (b : Bool) (now : List KeyData) → Puts k es new b → k ≡ key → keys_by_place es ≡ now
    → (b ≡ not (list_any (equal_keys key) now)) × (keys_by_place new ≡ (if b then now ++ key ∷ [] else now))
seen_put k key es new b now p e is = (
  p.added ∙ ap (λ l. not (list_any (equal_keys l) (keys_by_place es))) e ∙ ap (λ ks. not (list_any (equal_keys key) ks)) is,
  p.keys ∙ ap (λ l. if b then keys_by_place es ++ l ∷ [] else keys_by_place es) e ∙ ap (λ ks. if b then ks ++ key ∷ [] else ks) is,
)

is_itself : (n : ℕ) → (nat_eq n n) ≡ true
is_itself n = grind (arith, nat_tests)

is_other : (m n : ℕ) → m < n → (nat_eq m n) ≡ false
is_other m n h = grind (arith, nat_tests)

module _ {K : Type 0} (cmp : K → K → Ordering) (f : K → KeyData) (whole : List (K × ℕ) → List Placed)
    (looked : (k : K) (es : List (K × ℕ)) → found_place (f k) (whole es) ≡ lookup (is_at (cmp k)) es)
    (grown : (es new : List (K × ℕ)) (k : K) (n : ℕ) → Inserted es (k, n) new → Inserted (whole es) (f k, n) (whole new)) where
  pub puts : (es new : List (K × ℕ)) (k : K) (n p : ℕ) → IsIndex (whole es) → n ≡ length (whole es) → p ≡ unwrap_or (lookup (is_at (cmp k)) es) n
      → new ≡ (if is_some (lookup (is_at (cmp k)) es) then es else insert_entry cmp es k n) → Puts (f k) (whole es) (whole new) (nat_eq p n)
  puts es new k n p index len is was = each (lookup (is_at (cmp k)) es) refl is was
    where
      each : (o : Option ℕ) → lookup (is_at (cmp k)) es ≡ o → p ≡ unwrap_or o n → new ≡ (if is_some o then es else insert_entry cmp es k n) → Puts (f k) (whole es) (whole new) (nat_eq p n)
      each None h is was =
          let absent = looked k es ∙ h in
          let into : Inserted (whole es) (f k, length (whole es)) (whole new) = subst (λ m. Inserted (whole es) (f k, m) (whole new)) len (grown es new k n (subst (Inserted es (k, n)) (sym was) (inserted cmp es k n h))) in
          let yes : (nat_eq p n) ≡ true = ap (λ m. nat_eq m n) is ∙ is_itself n in
          record {
            index = index_more (f k) (whole es) (whole new) index absent into;
            added = yes ∙ sym (ap not (any_place (f k) (keys_by_place (whole es)) ∙ ap is_some (sym (index.places (f k)) ∙ absent)));
            keys = rw yes (more_keys (f k) (whole es) (whole new) index absent into);
          }
      each (Some v) h is was =
          let there = sym (index.places (f k)) ∙ looked k es ∙ h in
          let less : v < length (keys_by_place (whole es)) = some_place (f k) (keys_by_place (whole es)) v there in
          let no : (nat_eq p n) ≡ false = ap (λ m. nat_eq m n) is ∙ is_other v n (subst (λ m. v < m) (length_keys (whole es) ∙ sym len) less) in
          record {
            index = subst (λ xs. IsIndex (whole xs)) (sym was) index;
            added = no ∙ sym (ap not (any_place (f k) (keys_by_place (whole es)) ∙ ap is_some there));
            keys = rw no (ap (λ xs. keys_by_place (whole xs)) was);
          }

-- one kind of keys among the others
abbrev pub seen_as : {K : Type 0} → (K → KeyData) → List (K × ℕ) → List Placed
seen_as {K} f es = map (λ (e : K × ℕ). (f e.0, e.1)) es

module _ {K : Type 0} (f : K → KeyData) where
  grown_as : (es new : List (K × ℕ)) (k : K) (n : ℕ) → Inserted es (k, n) new → Inserted (seen_as f es) (f k, n) (seen_as f new)
  grown_as es new k n i = record {
    front = seen_as f i.front;
    back = seen_as f i.back;
    cut = ap (seen_as f) i.cut ∙ map-append (λ (e : K × ℕ). (f e.0, e.1)) i.front i.back;
    is = ap (seen_as f) i.is ∙ map-append (λ (e : K × ℕ). (f e.0, e.1)) i.front ((k, n) ∷ i.back);
  }

  looked_as : (cmp : K → K → Ordering) → ((a b : K) → equal_keys (f a) (f b) ≡ is_at (cmp a) b) → (k : K) (es : List (K × ℕ)) → found_place (f k) (seen_as f es) ≡ lookup (is_at (cmp k)) es
  looked_as cmp same k [] = refl
  looked_as cmp same k (e ∷ es) = ap (λ b. cond b (Some e.1) (found_place (f k) (seen_as f es))) (same k e.0) ∙ ap (cond (is_at (cmp k) e.0) (Some e.1)) (looked_as cmp same k es)

  not_among : (k : KeyData) → ((a : K) → equal_keys k (f a) ≡ false) → (es : List (K × ℕ)) → found_place k (seen_as f es) ≡ None
  not_among k other [] = refl
  not_among k other (e ∷ es) = ap (λ b. cond b (Some e.1) (found_place k (seen_as f es))) (other e.0) ∙ not_among k other es

in_front : (k : KeyData) (xs ys : List Placed) → found_place k ys ≡ None → found_place k (xs ++ ys) ≡ found_place k xs
in_front k [] ys h = h
in_front k (x ∷ xs) ys h = ap (cond (equal_keys k x.0) (Some x.1)) (in_front k xs ys h)

behind : (k : KeyData) (xs ys : List Placed) → found_place k xs ≡ None → found_place k (xs ++ ys) ≡ found_place k ys
behind k [] ys h = refl
behind k (x ∷ xs) ys h = each (equal_keys k x.0) h (behind k xs ys)
  where
    each : (b : Bool) → cond b (Some x.1) (found_place k xs) ≡ None → (found_place k xs ≡ None → found_place k (xs ++ ys) ≡ found_place k ys) → cond b (Some x.1) (found_place k (xs ++ ys)) ≡ found_place k ys
    each true h later = absurd cc
    each false h later = later h

abbrev Texts : Type 0 → Type 0 → Type 0
Texts A Y = Rc (String Y) A

abbrev pub bytes_key : {A Y : Type 0} → Rc (String Y) A → KeyData
bytes_key t = text_key (string_bytes t.value)

same_numbers : (a b : ℤ) → equal_keys (number_key a) (number_key b) ≡ is_at (int_cmp a) b
same_numbers a b = search rules

same_texts : {A Y : Type 0} (s t : Rc (String Y) A) → equal_keys (bytes_key s) (bytes_key t) ≡ is_at (λ (u : Rc (String Y) A). string_cmp s.value u.value) t
same_texts s t = sym (is_eq-slice_cmp (string_bytes s.value) (string_bytes t.value))

length_as : {K : Type 0} (f : K → KeyData) (es : List (K × ℕ)) → length (seen_as f es) ≡ length es
length_as f [] = refl
length_as f (e ∷ es) = ap suc (length_as f es)

module _ {A Y : Type 0} where
  pub number_place : (z : ℤ) (ns : List (ℤ × ℕ)) (ts : List (Rc (String Y) A × ℕ)) → found_place (number_key z) (placed ns ts) ≡ lookup (is_at (int_cmp z)) ns
  number_place z ns ts = in_front (number_key z) (seen_as number_key ns) (seen_as bytes_key ts) (not_among bytes_key (number_key z) (λ a. refl) ts) ∙ looked_as number_key int_cmp same_numbers z ns

  pub text_place : (s : Rc (String Y) A) (ns : List (ℤ × ℕ)) (ts : List (Rc (String Y) A × ℕ)) → found_place (bytes_key s) (placed ns ts) ≡ lookup (is_at (λ (u : Rc (String Y) A). string_cmp s.value u.value)) ts
  text_place s ns ts = behind (bytes_key s) (seen_as number_key ns) (seen_as bytes_key ts) (not_among number_key (bytes_key s) (λ a. refl) ns) ∙ looked_as bytes_key (λ s u. string_cmp s.value u.value) same_texts s ts

  number_grown : (ts : List (Rc (String Y) A × ℕ)) (es new : List (ℤ × ℕ)) (k : ℤ) (n : ℕ) → Inserted es (k, n) new → Inserted (placed es ts) (number_key k, n) (placed new ts)
  number_grown ts es new k n i = let j = grown_as number_key es new k n i in record {
    front = j.front;
    back = j.back ++ seen_as bytes_key ts;
    cut = ap (λ xs. xs ++ seen_as bytes_key ts) j.cut ∙ append_assoc j.front j.back (seen_as bytes_key ts);
    is = ap (λ xs. xs ++ seen_as bytes_key ts) j.is ∙ append_assoc j.front ((number_key k, n) ∷ j.back) (seen_as bytes_key ts);
  }

  text_grown : (ns : List (ℤ × ℕ)) (es new : List (Rc (String Y) A × ℕ)) (k : Rc (String Y) A) (n : ℕ) → Inserted es (k, n) new → Inserted (placed ns es) (bytes_key k, n) (placed ns new)
  text_grown ns es new k n i = let j = grown_as bytes_key es new k n i in record {
    front = seen_as number_key ns ++ j.front;
    back = j.back;
    cut = ap (λ xs. seen_as number_key ns ++ xs) j.cut ∙ sym (append_assoc (seen_as number_key ns) j.front j.back);
    is = ap (λ xs. seen_as number_key ns ++ xs) j.is ∙ sym (append_assoc (seen_as number_key ns) j.front ((bytes_key k, n) ∷ j.back));
  }

  pub length_placed : (ns : List (ℤ × ℕ)) (ts : List (Rc (String Y) A × ℕ)) → length (placed ns ts) ≡ length ns + length ts
  length_placed ns ts = length-append (seen_as number_key ns) (seen_as bytes_key ts) ∙ ap (λ n. n + length (seen_as bytes_key ts)) (length_as number_key ns) ∙ ap (λ n. length ns + n) (length_as bytes_key ts)

  pub put_number : (ns new : List (ℤ × ℕ)) (ts : List (Rc (String Y) A × ℕ)) (z m : ℤ) (n p : ℕ) → m ≡ z → IsIndex (placed ns ts) → n ≡ length (placed ns ts) → p ≡ unwrap_or (lookup (is_at (int_cmp m)) ns) n
      → new ≡ (if is_some (lookup (is_at (int_cmp m)) ns) then ns else insert_entry int_cmp ns m n) → Puts (number_key z) (placed ns ts) (placed new ts) (nat_eq p n)
  put_number ns new ts z m n p same index len is was =
      subst (λ k. Puts (number_key k) (placed ns ts) (placed new ts) (nat_eq p n)) same
      (puts int_cmp number_key (λ es. placed es ts) (λ k es. number_place k es ts) (number_grown ts) ns new m n p index len is was)

  pub put_text : (ns : List (ℤ × ℕ)) (ts new : List (Rc (String Y) A × ℕ)) (s : Rc (String Y) A) (n p : ℕ) → IsIndex (placed ns ts) → n ≡ length (placed ns ts)
      → p ≡ unwrap_or (lookup (is_at (λ (u : Rc (String Y) A). string_cmp s.value u.value)) ts) n
      → new ≡ (if is_some (lookup (is_at (λ (u : Rc (String Y) A). string_cmp s.value u.value)) ts) then ts else insert_entry (λ (t u : Rc (String Y) A). string_cmp t.value u.value) ts s n)
      → Puts (bytes_key s) (placed ns ts) (placed ns new) (nat_eq p n)
  put_text ns ts new s n p index len is was = puts (λ (t u : Rc (String Y) A). string_cmp t.value u.value) bytes_key (placed ns) (λ k es. text_place k ns es) (text_grown ns) ts new s n p index len is was

  -- ## Copies

  copied_texts : (ts us : List (Rc (String Y) A × ℕ)) → AllZip (λ p q. (q.0.value ≡ p.0.value) × (q.1 ≡ p.1)) ts us → seen_as bytes_key us ≡ seen_as bytes_key ts
  copied_texts [] [] h = refl
  copied_texts [] (u ∷ us) h = absurd h
  copied_texts (t ∷ ts) [] h = absurd h
  copied_texts (t ∷ ts) (u ∷ us) h =
      ap (λ (s : String Y). (text_key (string_bytes s), u.1) ∷ seen_as bytes_key us) h.0.0 ∙ ap (λ n. (bytes_key t.0, n) ∷ seen_as bytes_key us) h.0.1 ∙ ap (λ xs. (bytes_key t.0, t.1) ∷ xs) (copied_texts ts us h.1)

  -- a copy has the same keys at the same places
  pub same_placed : (ns ms : List (ℤ × ℕ)) (ts us : List (Rc (String Y) A × ℕ)) → AllZip (λ p q. (q.0 ≡ p.0) × (q.1 ≡ p.1)) ns ms → AllZip (λ p q. (q.0.value ≡ p.0.value) × (q.1 ≡ p.1)) ts us → placed ms us ≡ placed ns ts
  same_placed ns ms ts us n t =
      ap (λ ks. placed ks us) (entries_from_clone (λ k l. l ≡ k) (λ v w. w ≡ v) (λ k l e. e) (λ v w e. e) ns ms n) ∙ ap (λ xs. seen_as number_key ns ++ xs) (copied_texts ts us t)
