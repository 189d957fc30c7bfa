-- What it is to read a value of a type from bytes.
use Rattle.std.specs.Prelude.{◌≡◌, ◌≢◌, ◌⊎◌, ℕ, ◌≤◌, ℤ, Bool, List, [], ◌∷◌, ◌++◌, length, Result, Ok, Err, IsFalse, ⊤, codes}
use Rattle.std.specs.Str.{IsUtf8}
use Rattle.sf_value.specs.Values.{KeyKind, int_keys, text_keys, Kind, unit_kind, bool_kind, int_kind, text_kind, pair_kind, event_kind, table_kind, KeyData, number_key, text_key, Data, unit, truth, number, text, pair, no_event, event, table, Rows, no_rows, row, is_narrow, IsOneOf, HasKind}
use Rattle.sf_decimal.specs.Decimals.{BeginsNoDigit}
use Rattle.sf_spelling.specs.Spelling.{spelling, key_spelling}

-- a key has the shape of a type, where numbers have any size
pub data HasKeyShape : KeyData → KeyKind → Type 0 where
  int_key_shape : {z : ℤ} → HasKeyShape (number_key z) int_keys
  text_key_shape : {s : List ℕ} → IsUtf8 s → HasKeyShape (text_key s) text_keys

-- a value has the shape of a type, where numbers have any size and keys may be repeated
mutual
  pub data HasShape : Data → Kind → Type 0 where
    unit_shape : HasShape unit unit_kind
    bool_shape : {b : Bool} → HasShape (truth b) bool_kind
    int_shape : {z : ℤ} → HasShape (number z) int_kind
    text_shape : {s : List ℕ} → IsUtf8 s → HasShape (text s) text_kind
    pair_shape : {x y : Data} {t u : Kind} → HasShape x t → HasShape y u → HasShape (pair x y) (pair_kind t u)
    no_event_shape : {t : Kind} → HasShape no_event (event_kind t)
    event_shape : {x : Data} {t : Kind} → HasShape x t → HasShape (event x) (event_kind t)
    table_shape : {rs : Rows} {k : KeyKind} {t : Kind} → HasRowShapes rs k t → HasShape (table rs) (table_kind k t)

  pub data HasRowShapes : Rows → KeyKind → Kind → Type 0 where
    no_rows_shape : {k : KeyKind} {t : Kind} → HasRowShapes no_rows k t
    row_shape : {l : KeyData} {x : Data} {rs : Rows} {k : KeyKind} {t : Kind} → HasKeyShape l k → HasShape x t → HasRowShapes rs k t → HasRowShapes (row l x rs) k t

-- What may be wrong with a number or a key: the number is outside signed 64 bits, the key stood in its table before.
pub data Cause : Type 0 where
  wide : Cause
  again : Cause

abbrev pub IsWide : KeyData → Type 0
IsWide (number_key z) = IsFalse (is_narrow z)
IsWide (text_key s) = ⊥

-- what is wrong with a key after these
abbrev pub IsWrongAfter : List KeyData → KeyData → Cause → Type 0
IsWrongAfter seen k wide = IsWide k
IsWrongAfter seen k again = IsOneOf k seen

-- In the spelling of the value, a number or key with this fault stands after these bytes.
abbrev mutual
  pub HasFault : Data → List ℕ → Cause → KeyData → Type 0
  HasFault (number n) before c k = (before ≡ []) × (c ≡ wide) × (k ≡ number_key n) × IsFalse (is_narrow n)
  HasFault (pair x y) before c k =
      ((inner : List ℕ) × (before ≡ 40 ∷ inner) × HasFault x inner c k) ⊎ ((inner : List ℕ) × (before ≡ (40 ∷ spelling x) ++ (44 ∷ inner)) × HasFault y inner c k)
  HasFault (event x) before c k = (inner : List ℕ) × (before ≡ codes "event " ++ inner) × HasFault x inner c k
  HasFault (table rs) before c k = (inner : List ℕ) × (before ≡ 123 ∷ inner) × HasRowFault [] rs inner c k
  HasFault unit before c k = ⊥
  HasFault (truth b) before c k = ⊥
  HasFault (text s) before c k = ⊥
  HasFault no_event before c k = ⊥

  -- likewise in the spelling of rows, after rows with the keys seen
  pub HasRowFault : List KeyData → Rows → List ℕ → Cause → KeyData → Type 0
  HasRowFault seen no_rows before c k = ⊥
  HasRowFault seen (row l x rs) before c k =
      ((before ≡ []) × (k ≡ l) × IsWrongAfter seen l c)
      ⊎ ((inner : List ℕ) × (before ≡ key_spelling l ++ (58 ∷ inner)) × HasFault x inner c k)
      ⊎ ((inner : List ℕ) × (before ≡ (key_spelling l ++ (58 ∷ spelling x)) ++ (44 ∷ inner)) × HasRowFault (l ∷ seen) rs inner c k)

-- a front of the spelling of some value of that shape
abbrev pub IsGood : Kind → List ℕ → Type 0
IsGood t front = (v : Data) × HasShape v t × (more : List ℕ) × (spelling v ≡ front ++ more)

-- the length of the longest front of the bytes that is good
pub record IsLongestGood (t : Kind) (bytes : List ℕ) (n : ℕ) : Type 0 where
  pub front : List ℕ
  pub more : List ℕ
  pub cut : bytes ≡ front ++ more
  pub len : length front ≡ n
  pub good : IsGood t front
  pub longest : (f m : List ℕ) → bytes ≡ f ++ m → IsGood t f → length f ≤ n

-- a number or key ends where these bytes follow: a number is its whole run of digits
abbrev pub EndsBefore : KeyData → List ℕ → Type 0
EndsBefore (number_key z) more = BeginsNoDigit more
EndsBefore (text_key s) more = ⊤

-- a number or key with this fault stands at the place
pub record IsFaultAt (t : Kind) (bytes : List ℕ) (c : Cause) (place : ℕ) : Type 0 where
  pub value : Data
  pub shape : HasShape value t
  pub before : List ℕ
  pub key : KeyData
  pub more : List ℕ
  pub fault : HasFault value before c key
  pub whole : bytes ≡ before ++ (key_spelling key ++ more)
  pub ends : EndsBefore key more
  pub len : length before ≡ place

-- why bytes are no spelling of a value of a type, with the place
pub data Refusal : Type 0 where
  bad_value : ℕ → Refusal
  out_of_range : ℕ → Refusal
  duplicate_key : ℕ → Refusal

abbrev pub refused_place : Refusal → ℕ
refused_place (bad_value n) = n
refused_place (out_of_range n) = n
refused_place (duplicate_key n) = n

-- the bytes are refused for this
abbrev pub IsRefused : Kind → List ℕ → Refusal → Type 0
IsRefused t bytes (bad_value n) = IsLongestGood t bytes n × ((v : Data) → HasShape v t → spelling v ≢ bytes)
IsRefused t bytes (out_of_range n) = IsFaultAt t bytes wide n
IsRefused t bytes (duplicate_key n) = IsFaultAt t bytes again n

-- the value whose spelling the bytes are, or the refusal with the least place
abbrev pub Reads : Kind → List ℕ → Result Data Refusal → Type 0
Reads t bytes (Ok v) = HasKind v t × (bytes ≡ spelling v)
Reads t bytes (Err r) = IsRefused t bytes r × ((other : Refusal) → IsRefused t bytes other → refused_place r ≤ refused_place other)
