-- Reading the rows of a table one after another.
use Rattle.std.proofs.Common.{◌≡◌, ◌≤◌, ◌<◌, zero, suc, Bool, true, false, cond, List, [], ◌∷◌, ◌++◌, length, Ok, Err, refl, sym, ap, subst, ◌∙◌, arith, ℕ, ◌+◌, ◌-◌, take, drop, get_or, length-append}
use Rattle.std.specs.Prelude.{◌==◌, ◌||◌, not}
use Rattle.std.specs.List.{list_any}
use Rattle.std.specs.Str.{bytes_eq}
use Rattle.std.proofs.lemmas.List.{map-append}
use Rattle.std.proofs.lemmas.Slice.Eq.{bytes_eq-Decides}
use Rattle.sf_value.specs.Values.{KeyKind, int_keys, text_keys, Kind, KeyData, Data, Rows, no_rows}
use Rattle.sf_value.specs.View.{keyed_rows}
use Rattle.sf_value.specs.Keys.{equal_keys}
use Rattle.sf_spelling.specs.Steps.{spellings}
use Rattle.sf_spelling.specs.Spelling.{key_spelling}
use Rattle.sf_spelling.specs.Scan.{Stop, bad, fault, Scanned, ◌>>=◌, byte_at, scanned_key, new_key_at, scanned_row, put_row, scanned_more, scanned_rows, scanned_value}
use Rattle.sf_spelling.specs.Gives.{Fails}
use Rattle.sf_spelling.specs.Reading.{again}
use Rattle.sf_spelling.specs.declared.read.Failure.{Failure}
use Rattle.sf_spelling.specs.declared.read.Failure.TheVariants.{Bad, Wide, Again, Memory}
use Rattle.sf_spelling.proofs.Unmixed.{one_key}
use Rattle.sf_value.proofs.Under.{equal_keys-Decides}
use Rattle.sf_spelling.proofs.EachKind.{reader}
use Rattle.sf_spelling.proofs.Tables.{row_left}
use Rattle.sf_spelling.proofs.Failing.{fails_then}
use Rattle.sf_spelling.proofs.PairSteps.{both}
use Rattle.sf_decimal.proofs.Runs.{take_whole}
use Rattle.std.proofs.lemmas.Bool.Decides.{nat_tests}

bool_same : (a b : Bool) → (a ≡ true → b ≡ true) → (b ≡ true → a ≡ true) → a ≡ b
bool_same true b f g = sym (f refl)
bool_same false true f g = g refl
bool_same false false f g = refl

-- a key is one of those seen where its spelling is
pub seen_is : (k : KeyData) (ks : List KeyData) → list_any (equal_keys k) ks ≡ list_any (bytes_eq (key_spelling k)) (spellings ks)
seen_is k [] = refl
seen_is k (x ∷ ks) = ap (λ b. b || list_any (equal_keys k) ks) one ∙ ap (λ b. bytes_eq (key_spelling k) (key_spelling x) || b) (seen_is k ks)
  where
    one : equal_keys k x ≡ bytes_eq (key_spelling k) (key_spelling x)
    one = bool_same (equal_keys k x) (bytes_eq (key_spelling k) (key_spelling x))
        (λ h. (bytes_eq-Decides (key_spelling k) (key_spelling x)).1 (ap key_spelling ((equal_keys-Decides k x).0 h)))
        (λ h. (equal_keys-Decides k x).1 (one_key k x ((bytes_eq-Decides (key_spelling k) (key_spelling x)).0 h)))

-- the same spellings are seen
abbrev pub SameSeen : List (List ℕ) → List (List ℕ) → Type 0
SameSeen a b = (s : List ℕ) → list_any (bytes_eq s) a ≡ list_any (bytes_eq s) b

or_last : (s x : List ℕ) (b : List (List ℕ)) → list_any (bytes_eq s) (b ++ x ∷ []) ≡ list_any (bytes_eq s) (x ∷ b)
or_last s x [] = refl
or_last s x (y ∷ b) = ap (λ c. bytes_eq s y || c) (or_last s x b) ∙ swap (bytes_eq s y) (bytes_eq s x) (list_any (bytes_eq s) b)
  where
    swap : (p q r : Bool) → (p || (q || r)) ≡ (q || (p || r))
    swap true true r = refl
    swap true false r = refl
    swap false true r = refl
    swap false false r = refl

-- a key and a value more are still as many
one_each : (ks : List KeyData) (ys : List Data) (r : KeyData × Data) → length ks ≡ length ys → length (ks ++ r.0 ∷ []) ≡ length (ys ++ r.1 ∷ [])
one_each ks ys r h = length-append ks (r.0 ∷ []) ∙ ap (λ n. n + 1) h ∙ sym (length-append ys (r.1 ∷ []))

one_more : (a b : List (List ℕ)) (x : List ℕ) → SameSeen a b → SameSeen (x ∷ a) (b ++ x ∷ [])
one_more a b x h s = ap (λ c. bytes_eq s x || c) (h s) ∙ sym (or_last s x b)

module _ (t : KeyKind) (inner : List ℕ → Scanned Data) where
  abbrev unseen : List (List ℕ) → List ℕ → KeyData × List ℕ → Scanned KeyData
  unseen seen s l = cond (list_any (bytes_eq (key_spelling l.0)) seen) (Err (fault again s)) (Ok l)

  abbrev paired : KeyData → Data × List ℕ → Scanned (KeyData × Data)
  paired l x = Ok ((l, x.0), x.1)

  abbrev value_for : KeyData × List ℕ → Scanned (KeyData × Data)
  value_for l = byte_at 58 l.1 >>= (λ e. inner e >>= paired l.0)

  not_seen : (b : Bool) → not b ≡ true → b ≡ false
  not_seen true e = cc
  not_seen false e = refl

  not_new : (b : Bool) → not b ≡ false → b ≡ true
  not_new true e = refl
  not_new false e = cc

  module _ (s : List ℕ) (l : KeyData) (rest : List ℕ) (ks : List KeyData) (added : Bool) (read : scanned_key t s ≡ Ok (l, rest)) (is : added ≡ not (list_any (equal_keys l) ks)) where
    looked : (b : Bool) → list_any (equal_keys l) ks ≡ b → new_key_at t (spellings ks) s ≡ cond b (Err (fault again s)) (Ok (l, rest))
    looked b e = ap (λ (o : Scanned KeyData). o >>= unseen (spellings ks) s) read ∙ ap (λ c. cond c (Err (fault again s)) (Ok (l, rest))) (sym (seen_is l ks) ∙ e)

    -- a key that the index has
    pub key_again : added ≡ false → new_key_at t (spellings ks) s ≡ Err (fault again s)
    key_again e = looked true (not_new (list_any (equal_keys l) ks) (sym is ∙ e))

    -- a key that it doesn't have
    pub key_new : added ≡ true → new_key_at t (spellings ks) s ≡ Ok (l, rest)
    key_new e = looked false (not_seen (list_any (equal_keys l) ks) (sym is ∙ e))

  module _ (seen : List (List ℕ)) (s : List ℕ) (k : KeyData) (rest : List ℕ) (key : new_key_at t seen s ≡ Ok (k, rest)) where
    value_left : scanned_row t inner seen s ≡ ((byte_at 58 rest >>= inner) >>= paired k)
    value_left = ap (λ (o : Scanned KeyData). o >>= value_for) key ∙ both (byte_at 58 rest) inner (paired k)

    -- a row whose value fails
    pub value_fails : (e : Failure) → Fails e (byte_at 58 rest >>= inner) → Fails e (scanned_row t inner seen s)
    value_fails e h = subst (λ o. Fails e o) (sym value_left) (fails_then e (byte_at 58 rest >>= inner) (paired k) h)

    -- a row is its key and the value behind it
    pub row_read : (y : Data) (more : List ℕ) → (byte_at 58 rest >>= inner) ≡ Ok (y, more) → scanned_row t inner seen s ≡ Ok ((k, y), more)
    row_read y more h = value_left ∙ ap (λ (o : Scanned Data). o >>= paired k) h

  row_same : (a b : List (List ℕ)) (s : List ℕ) → SameSeen a b → scanned_row t inner a s ≡ scanned_row t inner b s
  row_same a b s h = ap (λ (o : Scanned KeyData). o >>= value_for) (key_same (scanned_key t s))
    where
      key_same : (o : Scanned KeyData) → (o >>= unseen a s) ≡ (o >>= unseen b s)
      key_same (Ok l) = ap (λ c. cond c (Err (fault again s)) (Ok l)) (h (key_spelling l.0))
      key_same (Err e) = refl

  -- rows before what is read: each value under the key at its place
  abbrev pub behind_rows : List KeyData → List Data → Scanned Rows → Scanned Rows
  behind_rows [] ys o = o
  behind_rows (k ∷ ks) [] o = o
  behind_rows (k ∷ ks) (y ∷ ys) o = put_row (k, y) (behind_rows ks ys o)

  behind_one : (ks : List KeyData) (ys : List Data) (r : KeyData × Data) (o : Scanned Rows) → length ks ≡ length ys → behind_rows (ks ++ r.0 ∷ []) (ys ++ r.1 ∷ []) o ≡ behind_rows ks ys (put_row r o)
  behind_one [] [] r o h = refl
  behind_one [] (y ∷ ys) r o h = absurd (omega arith)
  behind_one (k ∷ ks) [] r o h = absurd (omega arith)
  behind_one (k ∷ ks) (y ∷ ys) r o h = let less : length ks ≡ length ys = omega arith in ap (put_row (k, y)) (behind_one ks ys r o less)

  behind_err : (ks : List KeyData) (ys : List Data) (f : Stop) → behind_rows ks ys (Err f) ≡ Err f
  behind_err [] ys f = refl
  behind_err (k ∷ ks) [] f = refl
  behind_err (k ∷ ks) (y ∷ ys) f = ap (put_row (k, y)) (behind_err ks ys f)

  behind_ok : (ks : List KeyData) (ys : List Data) (rest : List ℕ) → behind_rows ks ys (Ok (no_rows, rest)) ≡ Ok (keyed_rows ks ys, rest)
  behind_ok [] ys rest = refl
  behind_ok (k ∷ ks) [] rest = refl
  behind_ok (k ∷ ks) (y ∷ ys) rest = ap (put_row (k, y)) (behind_ok ks ys rest)

  -- a row, and more
  abbrev pub row_then : ℕ → List (List ℕ) → List ℕ → Scanned Rows
  row_then n seen s = scanned_row t inner seen s >>= (λ r. put_row r.0 (scanned_more n t inner (key_spelling r.0.0 ∷ seen) r.1))

  -- reading goes on with a row behind these values under their keys
  pub record Follows (bytes : List ℕ) (ks : List KeyData) (ys : List Data) (left : List ℕ) : Type 0 where
    pub room : ℕ
    pub seen : List (List ℕ)
    pub enough : length left ≤ room
    pub same : SameSeen seen (spellings ks)
    pub as_many : length ks ≡ length ys
    pub is : scanned_rows t inner bytes ≡ behind_rows ks ys (row_then room seen left)

  -- before the first row
  pub follows_none : (bytes : List ℕ) → (length bytes < 1) → Follows bytes [] [] bytes
  follows_none [] h = record { room = 0; seen = []; enough = omega arith; same = λ s. refl; as_many = refl; is = nothing_there t }
    where
      nothing_there : (t : KeyKind) → Err (bad []) ≡ (scanned_row t inner [] [] >>= (λ r. put_row r.0 (scanned_more 0 t inner (key_spelling r.0.0 ∷ []) r.1)))
      nothing_there int_keys = refl
      nothing_there text_keys = refl
  follows_none (c ∷ s) h = absurd (omega arith)

  pub follows_some : (c : ℕ) (s : List ℕ) → (c == 125) ≡ false → Follows (c ∷ s) [] [] (c ∷ s)
  follows_some c s h = record { room = length (c ∷ s); seen = []; enough = omega arith; same = λ s. refl; as_many = refl; is = rw h refl }

  module _ (bytes left : List ℕ) (ks : List KeyData) (ys : List Data) (f : Follows bytes ks ys left) where
    -- a row that fails
    pub row_fails : (e : Failure) → Fails e (scanned_row t inner (spellings ks) left) → Fails e (scanned_rows t inner bytes)
    row_fails e h = each e (subst (λ o. Fails e o) (sym (row_same f.seen (spellings ks) left f.same)) h)
      where
        stops : (g : Stop) → scanned_row t inner f.seen left ≡ Err g → scanned_rows t inner bytes ≡ Err g
        stops g h = f.is ∙ ap (λ o. behind_rows ks ys (o >>= (λ r. put_row r.0 (scanned_more f.room t inner (key_spelling r.0.0 ∷ f.seen) r.1)))) h ∙ behind_err ks ys g

        each : (e : Failure) → Fails e (scanned_row t inner f.seen left) → Fails e (scanned_rows t inner bytes)
        each (Bad n) h = (h.0, stops _ h.1, h.2)
        each (Wide n) h = (h.0, stops _ h.1, h.2)
        each (Again n) h = (h.0, stops _ h.1, h.2)
        each Memory h = tt

    module _ (r : KeyData × Data) (rest : List ℕ) (one : scanned_row t inner (spellings ks) left ≡ Ok (r, rest)) where
      abbrev with_row : Scanned Rows → Scanned Rows
      with_row o = behind_rows (ks ++ r.0 ∷ []) (ys ++ r.1 ∷ []) o

      abbrev seen_then : List (List ℕ)
      seen_then = key_spelling r.0 ∷ f.seen

      fails_with_row : (g : Stop) → with_row (Err g) ≡ Err g
      fails_with_row g = behind_err (ks ++ r.0 ∷ []) (ys ++ r.1 ∷ []) g

      behind_row : scanned_rows t inner bytes ≡ with_row (scanned_more f.room t inner seen_then rest)
      behind_row = f.is ∙ ap (λ o. behind_rows ks ys (o >>= (λ r. put_row r.0 (scanned_more f.room t inner (key_spelling r.0.0 ∷ f.seen) r.1)))) (row_same f.seen (spellings ks) left f.same ∙ one)
          ∙ sym (behind_one ks ys r (scanned_more f.room t inner seen_then rest) f.as_many)

      -- the bytes end behind a row
      pub row_ends : rest ≡ [] → scanned_rows t inner bytes ≡ Err (bad [])
      row_ends n = behind_row ∙ ap (λ s. with_row (scanned_more f.room t inner seen_then s)) n ∙ ap with_row (each f.room) ∙ fails_with_row (bad [])
        where
          each : (n : ℕ) → scanned_more n t inner seen_then [] ≡ Err (bad [])
          each zero = refl
          each (suc n) = refl

      module _ (c : ℕ) (more : List ℕ) (there : rest ≡ c ∷ more) (less : length rest ≤ length left) where
        abbrev go_on : ℕ → Scanned Rows
        go_on n = cond (c == 125) (Ok (no_rows, more)) (byte_at 44 (c ∷ more) >>= row_then n seen_then)

        some_room : (n : ℕ) → length left ≤ n → (m : ℕ) × (length more ≤ m) × (scanned_more n t inner seen_then (c ∷ more) ≡ go_on m)
        some_room zero h = absurd (omega (arith, ap length there))
        some_room (suc m) h = (m, omega (arith, ap length there), refl)

        behind_mark : (m : ℕ) × (length more ≤ m) × (scanned_rows t inner bytes ≡ with_row (go_on m))
        behind_mark = let room = some_room f.room f.enough in
            (room.0, room.1, behind_row ∙ ap (λ s. with_row (scanned_more f.room t inner seen_then s)) there ∙ ap with_row room.2)

        -- neither a brace nor a comma stands behind a row
        pub row_breaks : (c == 125) ≡ false → (c == 44) ≡ false → scanned_rows t inner bytes ≡ Err (bad (c ∷ more))
        row_breaks h k = let m = behind_mark in m.2
            ∙ ap (λ b. with_row (cond b (Ok (no_rows, more)) (byte_at 44 (c ∷ more) >>= row_then m.0 seen_then))) h
            ∙ ap (λ b. with_row (cond b (Ok more) (Err (bad (c ∷ more))) >>= row_then m.0 seen_then)) k
            ∙ fails_with_row (bad (c ∷ more))

        module _ (new_keys : List KeyData) (new_values : List Data) (keys_are : new_keys ≡ ks ++ r.0 ∷ []) (values_are : new_values ≡ ys ++ r.1 ∷ []) where
          -- a brace stands behind a row
          pub row_closes : (c == 125) ≡ true → scanned_rows t inner bytes ≡ Ok (keyed_rows new_keys new_values, more)
          row_closes h = let m = behind_mark in rw (keys_are, values_are)
              (m.2 ∙ ap (λ b. with_row (cond b (Ok (no_rows, more)) (byte_at 44 (c ∷ more) >>= row_then m.0 seen_then))) h ∙ behind_ok (ks ++ r.0 ∷ []) (ys ++ r.1 ∷ []) more)

          -- a comma stands behind a row
          pub row_follows : (c == 125) ≡ false → (c == 44) ≡ true → Follows bytes new_keys new_values more
          row_follows h k = let m = behind_mark in rw (keys_are, values_are) (record {
            room = m.0;
            seen = seen_then;
            enough = m.1;
            same = subst (SameSeen seen_then) (sym (map-append key_spelling ks (r.0 ∷ []))) (one_more f.seen (spellings ks) (key_spelling r.0) f.same);
            as_many = one_each ks ys r f.as_many;
            is = m.2 ∙ ap (λ b. with_row (cond b (Ok (no_rows, more)) (byte_at 44 (c ∷ more) >>= row_then m.0 seen_then))) h
                ∙ ap (λ b. with_row (cond b (Ok more) (Err (bad (c ∷ more))) >>= row_then m.0 seen_then)) k;
          })

-- what is left behind a row is no more than was there
pub row_less : (t : KeyKind) (u : Kind) (ks : List KeyData) (left : List ℕ) (r : KeyData × Data) (rest : List ℕ) → scanned_row t (scanned_value u) (spellings ks) left ≡ Ok (r, rest) → length rest ≤ length left
row_less t u ks left r rest e = row_left t u (scanned_value u) (reader u) ks left r rest e

first_of_list : (s : List ℕ) → 1 ≤ length s → s ≡ get_or s 0 0 ∷ take (length s - 1) (drop 1 s)
first_of_list [] h = absurd (omega arith)
first_of_list (c ∷ s) h = let len : suc (length s) - 1 ≡ length s = omega arith in ap (λ r. c ∷ r) (sym (rw len (take_whole s)))

is_yes : (c d : ℕ) → c ≡ d → (c == d) ≡ true
is_yes c d e = grind (arith, nat_tests)

is_no : (c d : ℕ) → (c ≡ d → ⊥) → (c == d) ≡ false
is_no c d e = grind (arith, nat_tests)

module _ (t : KeyKind) (u : Kind) (bytes : List ℕ) (ks : List KeyData) (ys : List Data) (no_keys : ks ≡ []) (no_values : ys ≡ []) where
  first : Follows t (scanned_value u) bytes [] [] bytes → Follows t (scanned_value u) bytes ks ys bytes
  first f = rw (no_keys, no_values) f

  pub kept_none : length bytes < 1 → Follows t (scanned_value u) bytes ks ys bytes
  kept_none h = first (follows_none t (scanned_value u) bytes h)

  pub kept_some : 1 ≤ length bytes → (get_or bytes 0 0 ≡ 125 → ⊥) → Follows t (scanned_value u) bytes ks ys bytes
  kept_some h k = first (subst (λ s. Follows t (scanned_value u) s [] [] s) (sym (first_of_list bytes h)) (follows_some t (scanned_value u) (get_or bytes 0 0) _ (is_no _ _ k)))

module _ (t : KeyKind) (u : Kind) (bytes : List ℕ) (ks : List KeyData) (ys : List Data) (left : List ℕ) (kept : Follows t (scanned_value u) bytes ks ys left) where
  pub fails : (e : Failure) → Fails e (scanned_row t (scanned_value u) (spellings ks) left) → Fails e (scanned_rows t (scanned_value u) bytes)
  fails e h = row_fails t (scanned_value u) bytes left ks ys kept e h

  module _ (r : KeyData × Data) (rest : List ℕ) (one : scanned_row t (scanned_value u) (spellings ks) left ≡ Ok (r, rest)) where
    pub ends : length rest < 1 → scanned_rows t (scanned_value u) bytes ≡ Err (bad [])
    ends h = row_ends t (scanned_value u) bytes left ks ys kept r rest one (nil rest h)
      where
        nil : (s : List ℕ) → length s < 1 → s ≡ []
        nil [] h = refl
        nil (c ∷ s) h = absurd (omega arith)

    module _ (some : 1 ≤ length rest) where
      less : length rest ≤ length left
      less = row_less t u ks left r rest one

      pub shorter : length (take (length rest - 1) (drop 1 rest)) < length left
      shorter = let len = ap length (first_of_list rest some) in omega (arith, less, len)

      pub breaks : (get_or rest 0 0 ≡ 125 → ⊥) → (get_or rest 0 0 ≡ 44 → ⊥) → scanned_rows t (scanned_value u) bytes ≡ Err (bad rest)
      breaks h k = row_breaks t (scanned_value u) bytes left ks ys kept r rest one _ _ (first_of_list rest some) less (is_no _ _ h) (is_no _ _ k) ∙ ap (λ s. Err (bad s)) (sym (first_of_list rest some))

      module _ (new_keys : List KeyData) (new_values : List Data) (keys_are : new_keys ≡ ks ++ r.0 ∷ []) (values_are : new_values ≡ ys ++ r.1 ∷ []) where
        pub closes : get_or rest 0 0 ≡ 125 → scanned_rows t (scanned_value u) bytes ≡ Ok (keyed_rows new_keys new_values, take (length rest - 1) (drop 1 rest))
        closes h = row_closes t (scanned_value u) bytes left ks ys kept r rest one _ _ (first_of_list rest some) less new_keys new_values keys_are values_are (is_yes _ _ h)

        pub as_many_closed : length new_keys ≡ length new_values
        as_many_closed = rw (keys_are, values_are) (one_each ks ys r kept.as_many)

        pub goes_on : (get_or rest 0 0 ≡ 125 → ⊥) → get_or rest 0 0 ≡ 44 → Follows t (scanned_value u) bytes new_keys new_values (take (length rest - 1) (drop 1 rest))
        goes_on h k = row_follows t (scanned_value u) bytes left ks ys kept r rest one _ _ (first_of_list rest some) less new_keys new_values keys_are values_are (is_no _ _ h) (is_yes _ _ k)
