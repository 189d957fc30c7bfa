-- Reading a value from the front of bytes.
use Rattle.std.specs.Prelude.{ℕ, zero, suc, ◌==◌, ℤ, pos, nat_lt, Bool, true, false, if◌then◌else◌, ◌&&◌, List, [], ◌∷◌, length, Result, Ok, Err, codes}
use Rattle.std.specs.Char.{is_ascii_digit}
use Rattle.std.specs.List.{list_any}
use Rattle.std.specs.Str.Parse.{digits_value}
use Rattle.std.specs.Str.{bytes_eq}
use Rattle.sf_value.specs.Values.{KeyKind, int_keys, text_keys, Kind, unit_kind, bool_kind, int_kind, text_kind, pair_kind, event_kind, table_kind, KeyData, number_key, text_key, Data, unit, truth, number, text, pair, no_event, event, table, Rows, no_rows, row, is_narrow}
use Rattle.sf_decimal.specs.Decimals.{digits_at, after_digits, signed}
use Rattle.sf_spelling.specs.Spelling.{key_spelling}
use Rattle.sf_spelling.specs.Reading.{Cause, wide, again}
pub use Rattle.sf_spelling.specs.declared.text.Point.{Point}
pub use Rattle.sf_spelling.specs.declared.text.Point.TheVariants.{Between as between, Behind as behind, Within as within}
pub use Rattle.sf_spelling.specs.declared.text.Move.{Move}
pub use Rattle.sf_spelling.specs.declared.text.Move.TheVariants.{Stops as stops, Ends as ends, Skips as skips, Puts as puts}

-- why reading stops, with the bytes from the place on
pub data Stop : Type 0 where
  bad : List ℕ → Stop
  fault : Cause → List ℕ → Stop

-- a value and the bytes after it
abbrev pub Scanned : Type 0 → Type 0
Scanned A = Result (A × List ℕ) Stop

infixl 10 ◌>>=◌
abbrev pub ◌>>=◌ : {A B : Type 0} → Result A Stop → (A → Result B Stop) → Result B Stop
(Ok x) >>= f = f x
(Err e) >>= f = Err e

-- the bytes after this one
abbrev pub byte_at : ℕ → List ℕ → Result (List ℕ) Stop
byte_at c [] = Err (bad [])
byte_at c (x ∷ s) = if x == c then Ok s else Err (bad (x ∷ s))

-- the bytes after these
abbrev pub word_at : List ℕ → List ℕ → Result (List ℕ) Stop
word_at [] s = Ok s
word_at (c ∷ cs) s = byte_at c s >>= word_at cs

-- a number that doesn't begin with 0
abbrev pub positive_at : List ℕ → Scanned ℕ
positive_at [] = Err (bad [])
positive_at (c ∷ s) = if nat_lt 48 c && is_ascii_digit c then Ok (digits_value 10 (digits_at (c ∷ s)), after_digits (c ∷ s)) else Err (bad (c ∷ s))

-- a number within signed 64 bits
abbrev pub narrow : List ℕ → ℤ → List ℕ → Scanned ℤ
narrow from z rest = if is_narrow z then Ok (z, rest) else Err (fault wide from)

-- a minus and a positive number, a zero, or a positive number
abbrev pub scanned_integer : List ℕ → Scanned ℤ
scanned_integer [] = Err (bad [])
scanned_integer (c ∷ s) = if c == 45 then (positive_at s >>= λ n. narrow (c ∷ s) (signed true n.0) n.1)
    else (if c == 48 then Ok (pos 0, s) else (positive_at (c ∷ s) >>= λ n. narrow (c ∷ s) (signed false n.0) n.1))

-- so many more bytes of a character
abbrev pub more_of : ℕ → Point
more_of zero = between
more_of (suc n) = within 128 191 n

-- a byte within a character
abbrev pub inside : ℕ → ℕ → ℕ → ℕ → Move
inside low high n b = if nat_lt b low then stops else (if nat_lt high b then stops else puts b (more_of n))

-- a byte that begins a character of two bytes or more, where one does
abbrev pub lead : ℕ → Move
lead b = if nat_lt b 194 then stops
    else (if nat_lt b 224 then puts b (within 128 191 0)
    else (if b == 224 then puts b (within 160 191 1)
    else (if b == 237 then puts b (within 128 159 1)
    else (if nat_lt b 240 then puts b (within 128 191 1)
    else (if b == 240 then puts b (within 144 191 2)
    else (if nat_lt b 244 then puts b (within 128 191 2)
    else (if b == 244 then puts b (within 128 143 2) else stops)))))))

-- a quote ends the text, a backslash waits for what it stands for, a line feed doesn't stand for itself
abbrev pub begun : ℕ → Move
begun b = if b == 34 then ends else (if b == 92 then skips behind else (if b == 10 then stops else (if nat_lt b 128 then puts b between else lead b)))

abbrev pub behind_slash : ℕ → Move
behind_slash b = if b == 34 then puts 34 between else (if b == 92 then puts 92 between else (if b == 110 then puts 10 between else stops))

abbrev pub moved : Point → ℕ → Move
moved between b = begun b
moved behind b = behind_slash b
moved (within low high n) b = inside low high n b

abbrev pub by_move {ℓ} : {R : Type ℓ} → Move → R → R → (Point → R) → (ℕ → Point → R) → R
by_move stops s e k p = s
by_move ends s e k p = e
by_move (skips q) s e k p = k q
by_move (puts b q) s e k p = p b q

-- what is read, with a byte before it
abbrev pub put_byte : ℕ → Scanned (List ℕ) → Scanned (List ℕ)
put_byte b (Ok r) = Ok (b ∷ r.0, r.1)
put_byte b (Err e) = Err e

-- the bytes of a text from a point up to its closing quote
unfoldable pub chars_at : Point → List ℕ → Scanned (List ℕ)
chars_at p [] = Err (bad [])
chars_at p (b ∷ s) = by_move (moved p b) (Err (bad (b ∷ s))) (Ok ([], s)) (λ q. chars_at q s) (λ c q. put_byte c (chars_at q s))

abbrev pub scanned_text : List ℕ → Scanned (List ℕ)
scanned_text s = byte_at 34 s >>= chars_at between

-- `true` or `false`
abbrev pub scanned_truth : List ℕ → Scanned Data
scanned_truth [] = Err (bad [])
scanned_truth (c ∷ s) = if c == 116 then (word_at (codes "true") (c ∷ s) >>= λ e. Ok (truth true, e)) else (word_at (codes "false") (c ∷ s) >>= λ e. Ok (truth false, e))

-- `none`, or `event `, a space and a value
abbrev pub scanned_event : (List ℕ → Scanned Data) → List ℕ → Scanned Data
scanned_event inner [] = Err (bad [])
scanned_event inner (c ∷ s) = if c == 110 then (word_at (codes "none") (c ∷ s) >>= λ e. Ok (no_event, e))
    else (word_at (codes "event ") (c ∷ s) >>= λ e. inner e >>= λ x. Ok (event x.0, x.1))

abbrev pub begins_digit : List ℕ → Bool
begins_digit [] = false
begins_digit (c ∷ s) = is_ascii_digit c

-- a number, where no digit follows it, or a text
abbrev pub scanned_key : KeyKind → List ℕ → Scanned KeyData
scanned_key int_keys s = scanned_integer s >>= λ n. (if begins_digit n.1 then Err (bad n.1) else Ok (number_key n.0, n.1))
scanned_key text_keys s = scanned_text s >>= λ t. Ok (text_key t.0, t.1)

-- a key whose spelling is none of those seen
abbrev pub new_key_at : KeyKind → List (List ℕ) → List ℕ → Scanned KeyData
new_key_at k seen s = scanned_key k s >>= λ l. (if list_any (bytes_eq (key_spelling l.0)) seen then Err (fault again s) else Ok l)

-- a key, a colon and a value
abbrev pub scanned_row : KeyKind → (List ℕ → Scanned Data) → List (List ℕ) → List ℕ → Scanned (KeyData × Data)
scanned_row k inner seen s = do
  l ← new_key_at k seen s
  e ← byte_at 58 l.1
  x ← inner e
  Ok ((l.0, x.0), x.1)

-- what is read, with a row before it
abbrev pub put_row : KeyData × Data → Scanned Rows → Scanned Rows
put_row r (Ok rs) = Ok (row r.0 r.1 rs.0, rs.1)
put_row r (Err e) = Err e

-- the closing brace, or a comma, a row and more; so many rows at most
abbrev pub scanned_more : ℕ → KeyKind → (List ℕ → Scanned Data) → List (List ℕ) → List ℕ → Scanned Rows
scanned_more zero k inner seen s = Err (bad s)
scanned_more (suc n) k inner seen [] = Err (bad [])
scanned_more (suc n) k inner seen (c ∷ s) = if c == 125 then Ok (no_rows, s)
    else (byte_at 44 (c ∷ s) >>= λ e. scanned_row k inner seen e >>= λ r. put_row r.0 (scanned_more n k inner (key_spelling r.0.0 ∷ seen) r.1))

-- the closing brace, or a row and more
abbrev pub scanned_rows : KeyKind → (List ℕ → Scanned Data) → List ℕ → Scanned Rows
scanned_rows k inner [] = Err (bad [])
scanned_rows k inner (c ∷ s) = if c == 125 then Ok (no_rows, s)
    else (scanned_row k inner [] (c ∷ s) >>= λ r. put_row r.0 (scanned_more (length (c ∷ s)) k inner (key_spelling r.0.0 ∷ []) r.1))

unfoldable pub scanned_value : Kind → List ℕ → Scanned Data
scanned_value unit_kind s = do
  e ← word_at (codes "()") s
  Ok (unit, e)
scanned_value bool_kind s = scanned_truth s
scanned_value int_kind s = do
  n ← scanned_integer s
  Ok (number n.0, n.1)
scanned_value text_kind s = do
  t ← scanned_text s
  Ok (text t.0, t.1)
scanned_value (pair_kind t u) s = do
  inside ← byte_at 40 s
  x ← scanned_value t inside
  after ← byte_at 44 x.1
  y ← scanned_value u after
  end ← byte_at 41 y.1
  Ok (pair x.0 y.0, end)
scanned_value (event_kind t) s = scanned_event (scanned_value t) s
scanned_value (table_kind k t) s = do
  inside ← byte_at 123 s
  rs ← scanned_rows k (scanned_value t) inside
  Ok (table rs.0, rs.1)
