-- Which values have which type.
use Rattle.std.proofs.Common.{◌≡◌, ℤ, ℕ, Bool, true, false, IsTrue, true≢false, List, [], ◌∷◌, length, sym, ◌∙◌}
use Rattle.std.specs.List.{AllByRecursion}
use Rattle.std.specs.Str.{IsUtf8}
use Rattle.sf_value.specs.Values.{KeyKind, int_keys, text_keys, Kind, int_kind, pair_kind, event_kind, table_kind, KeyData, number_key, text_key, Data, number, pair, event, table, Rows, row, is_narrow, HasKeyKind, has_int_key, has_text_key, HasKind, has_int, has_pair, has_event, has_table, HasRowKinds, has_no_rows, has_row, HasDifferentKeys}
use Rattle.sf_value.specs.View.{keyed_rows}
use Rattle.sf_value.proofs.Comparing.{Same}

-- a number within signed 64 bits has the type of whole numbers
pub number_typed : (z : ℤ) → IsTrue (is_narrow z) → HasKind (number z) int_kind
number_typed z h = has_int h

pub int_key_typed : (z : ℤ) → IsTrue (is_narrow z) → HasKeyKind (number_key z) int_keys
int_key_typed z h = has_int_key h

pub text_key_typed : (s : List ℕ) → IsUtf8 s → HasKeyKind (text_key s) text_keys
text_key_typed s h = has_text_key h

-- what has a type is what its parts have
pub pair_typed : (x y : Data) (t u : Kind) (a b : Bool) → IsTrue a → Same (IsTrue a) (HasKind x t) → Same (IsTrue b) (HasKind y u) → Same (IsTrue b) (HasKind (pair x y) (pair_kind t u))
pair_typed x y t u a b is h k = (λ e. has_pair (h.0 is) (k.0 e), λ p. k.1 (second p))
  where
    second : HasKind (pair x y) (pair_kind t u) → HasKind y u
    second (has_pair g i) = i

pub event_typed : (x : Data) (t : Kind) (b : Bool) → Same (IsTrue b) (HasKind x t) → Same (IsTrue b) (HasKind (event x) (event_kind t))
event_typed x t b h = (λ e. has_event (h.0 e), λ p. h.1 (part p))
  where
    part : HasKind (event x) (event_kind t) → HasKind x t
    part (has_event g) = g

row_parts : (l : KeyData) (x : Data) (rs : Rows) (k : KeyKind) (t : Kind) → HasRowKinds (row l x rs) k t → HasKeyKind l k × (HasKind x t × HasRowKinds rs k t)
row_parts l x rs k t h = part h
  where
    part : HasRowKinds (row l x rs) k t → HasKeyKind l k × (HasKind x t × HasRowKinds rs k t)
    part (has_row a b c) = (a, (b, c))

table_part : (rs : Rows) (k : KeyKind) (t : Kind) → HasKind (table rs) (table_kind k t) → HasRowKinds rs k t
table_part rs k t h = part h
  where
    part : HasKind (table rs) (table_kind k t) → HasRowKinds rs k t
    part (has_table g e) = g

module _ (k : KeyKind) (t : Kind) where
  rows_typed : (ks : List KeyData) (ds : List Data) → AllByRecursion (λ l. HasKeyKind l k) ks → AllByRecursion (λ x. HasKind x t) ds → HasRowKinds (keyed_rows ks ds) k t
  rows_typed [] ds g h = has_no_rows
  rows_typed (l ∷ ks) [] g h = has_no_rows
  rows_typed (l ∷ ks) (x ∷ ds) g h = has_row g.0 h.0 (rows_typed ks ds g.1 h.1)

  values_typed : (ks : List KeyData) (ds : List Data) → length ks ≡ length ds → HasRowKinds (keyed_rows ks ds) k t → AllByRecursion (λ x. HasKind x t) ds
  values_typed ks [] len h = tt
  values_typed [] (x ∷ ds) len h = absurd cc
  values_typed (l ∷ ks) (x ∷ ds) len h = let p = row_parts l x (keyed_rows ks ds) k t h in let rest : length ks ≡ length ds = cc in (p.1.0, values_typed ks ds rest p.1.1)

  keys_typed : (ks : List KeyData) (ds : List Data) → length ks ≡ length ds → HasRowKinds (keyed_rows ks ds) k t → AllByRecursion (λ l. HasKeyKind l k) ks
  keys_typed [] ds len h = tt
  keys_typed (l ∷ ks) [] len h = absurd cc
  keys_typed (l ∷ ks) (x ∷ ds) len h = let p = row_parts l x (keyed_rows ks ds) k t h in let rest : length ks ≡ length ds = cc in (p.0, keys_typed ks ds rest p.1.1)

  pub table_typed : (ks : List KeyData) (ds : List Data) (a b : Bool) → HasDifferentKeys (keyed_rows ks ds) → length ks ≡ length ds → a ≡ true → Same (IsTrue a) (AllByRecursion (λ l. HasKeyKind l k) ks)
      → Same (IsTrue b) (AllByRecursion (λ x. HasKind x t) ds) → Same (IsTrue b) (HasKind (table (keyed_rows ks ds)) (table_kind k t))
  table_typed ks ds a b different len is keys values = (
    λ e. has_table (rows_typed ks ds (keys.0 is) (values.0 e)) different,
    λ p. values.1 (values_typed ks ds len (table_part (keyed_rows ks ds) k t p)),
  )

  pub keys_untyped : (ks : List KeyData) (ds : List Data) (a : Bool) → length ks ≡ length ds → a ≡ false → Same (IsTrue a) (AllByRecursion (λ l. HasKeyKind l k) ks) → Same (IsTrue a) (HasKind (table (keyed_rows ks ds)) (table_kind k t))
  keys_untyped ks ds a len isnt keys = (λ e. absurd (true≢false (sym e ∙ isnt)), λ p. keys.1 (keys_typed ks ds len (table_part (keyed_rows ks ds) k t p)))
