-- How bytes are cut into tokens, and where they cannot be.
use Rattle.std.specs.Prelude.{◌≡◌, ◌≢◌, ◌⊎◌, ℕ, ◌+◌, ◌<◌, ◌≤◌, ℤ, pos, neg_ℤ, Bool, true, false, List, [], ◌∷◌, ◌++◌, length, take, drop, map, not, ◌&&◌, ◌||◌, ◌==◌, Option, Some, None, if◌then◌else◌}
use Rattle.std.specs.List.{list_all}
use Rattle.std.specs.Str.{IsUtf8, IsValidUpTo}
use Rattle.std.specs.Str.Parse.{digits_value}
use Rattle.sf_decimal.specs.Decimals.{is_narrow}
use Rattle.sf_lex.specs.Words.{is_digit, keyword_bytes, IsName}
use Rattle.sf_lex.specs.Symbols.{symbol_bytes}
use Rattle.sf_lex.specs.Tokens.{Tok, keyword, name, number, text, symbol, Located, is_in_line, seen, shown, offset_place}
use Rattle.sf_lex.specs.declared.token.PlacedToken.{PlacedToken}
use Rattle.sf_refusal.specs.declared.spot.Spot.{Spot}
use Rattle.sf_refusal.specs.declared.rule.Rule.{Rule}
use Rattle.sf_refusal.specs.declared.rule.Rule.TheVariants.{BadByte, NumberTooLarge, OpenText, TooLong}
use Rattle.sf_refusal.specs.Refusals.{first_spot, breach_of}
use Rattle.sf_refusal.specs.declared.refusal.Breach.{Breach}
use Rattle.sf_refusal.specs.declared.refusal.Refusal.{Refusal}
use Rattle.sf_refusal.specs.declared.refusal.Refusal.TheVariants.{Broken, Memory}

-- space, tab, line feed or carriage return
abbrev pub is_blank : ℕ → Bool
is_blank b = b == 32 || (b == 9 || (b == 10 || b == 13))

-- digits, of which there is one at least
pub record IsDigits (digits : List ℕ) : Type 0 where
  pub some : 0 < length digits
  pub all : list_all is_digit digits ≡ true

-- the bytes are this number in decimal; zeros may lead, and a minus may stand before any digits
pub data SpellsNumber : ℤ → List ℕ → Type 0 where
  unsigned : {digits : List ℕ} → IsDigits digits → SpellsNumber (pos (digits_value 10 digits)) digits
  negative : {digits : List ℕ} → IsDigits digits → SpellsNumber (neg_ℤ (pos (digits_value 10 digits))) (45 ∷ digits)

-- no line feed, quote or backslash
abbrev pub is_plain : ℕ → Bool
is_plain b = not (b == 10) && (not (b == 34) && not (b == 92))

-- what a character behind a backslash stands for
abbrev pub escape_of : ℕ → Option ℕ
escape_of c = if c == 34 then Some 34 else (if c == 92 then Some 92 else (if c == 110 then Some 10 else None))

-- what stands between the quotes of a text on one line, right or wrong behind a backslash
pub data IsBody : List ℕ → Type 0 where
  body_end : IsBody []
  body_plain : {b : ℕ} {rest : List ℕ} → is_plain b ≡ true → IsBody rest → IsBody (b ∷ rest)
  body_escaped : {c : ℕ} {rest : List ℕ} → c ≢ 10 → IsBody rest → IsBody (92 ∷ c ∷ rest)

-- what stands between the quotes of the text with these characters
pub data Quotes : List ℕ → List ℕ → Type 0 where
  quotes_end : Quotes [] []
  quotes_plain : {b : ℕ} {chars rest : List ℕ} → is_plain b ≡ true → Quotes chars rest → Quotes (b ∷ chars) (b ∷ rest)
  quotes_escaped : {b c : ℕ} {chars rest : List ℕ} → escape_of c ≡ Some b → Quotes chars rest → Quotes (b ∷ chars) (92 ∷ c ∷ rest)

-- the bytes spell the token
abbrev pub Spells : Tok → List ℕ → Type 0
Spells (keyword k) bytes = bytes ≡ keyword_bytes k
Spells (name n) bytes = (bytes ≡ n) × IsName n
Spells (number z) bytes = SpellsNumber z bytes
Spells (text chars) bytes = (body : List ℕ) × (bytes ≡ 34 ∷ (body ++ 34 ∷ [])) × Quotes chars body
Spells (symbol s) bytes = bytes ≡ symbol_bytes s

-- a blank, or a comment, from `#` on within its line
pub data IsGap : List ℕ → Type 0 where
  blank : {b : ℕ} → is_blank b ≡ true → IsGap (b ∷ [])
  comment : {line : List ℕ} → list_all is_in_line line ≡ true → IsGap (35 ∷ line)

-- what bytes are cut into
pub data Piece : Type 0 where
  gap : Piece
  token : Tok → Piece

abbrev pub IsPiece : Piece → List ℕ → Type 0
IsPiece gap bytes = IsGap bytes
IsPiece (token t) bytes = Spells t bytes

-- the longest front of the bytes that is a piece at all has n bytes, and is this piece
pub record IsLongest (bytes : List ℕ) (p : Piece) (n : ℕ) : Type 0 where
  pub within : n ≤ length bytes
  pub is : IsPiece p (take n bytes)
  pub longest : (q : Piece) (m : ℕ) → m ≤ length bytes → IsPiece q (take m bytes) → m ≤ n

-- a number is within signed 64 bits
abbrev pub fits : Piece → Bool
fits (token (number z)) = is_narrow z
fits _ = true

-- a token at its offset, and no gap
abbrev pub located : ℕ → Piece → List Located → List Located
located at gap found = found
located at (token t) found = record { offset = at; token = t } ∷ found

-- the bytes, of which the first is at the offset `at`, are cut into the longest pieces up to the offset `end`, where `rest` begins
pub data IsCutInto : ℕ → List ℕ → List Located → ℕ → List ℕ → Type 0 where
  here : {at : ℕ} {bytes : List ℕ} → IsCutInto at bytes [] at bytes
  more : {at n end : ℕ} {bytes rest : List ℕ} {p : Piece} {found : List Located} → IsLongest bytes p n → fits p ≡ true
      → IsCutInto (at + n) (drop n bytes) found end rest → IsCutInto at bytes (located at p found) end rest

abbrev pub byte_limit : ℕ
byte_limit = 1048576

-- the bytes are a text of the language's size, and these are its tokens
pub record Lexes (bytes : List ℕ) (found : List Located) : Type 0 where
  pub short : length bytes ≤ byte_limit
  pub utf8 : IsUtf8 bytes
  pub end : ℕ
  pub cut : IsCutInto 0 bytes found end []

-- what was found are the tokens of the bytes, the only ones, each at its place
pub record AreTokensOf (bytes : List ℕ) (found : List PlacedToken) : Type 0 where
  pub located : List Located
  pub cut : Lexes bytes located
  pub only : (other : List Located) → Lexes bytes other → other ≡ located
  pub shows : map seen found ≡ map (shown bytes) located

-- what is wrong at the front of the bytes, k bytes on
pub data IsWrong : List ℕ → ℕ → Rule → Type 0 where
  -- a number of any length, at its first byte
  large : {bytes : List ℕ} {n : ℕ} {z : ℤ} → IsLongest bytes (token (number z)) n → is_narrow z ≡ false → IsWrong bytes 0 NumberTooLarge
  -- a quote that no quote on its line closes
  open_text : {body : List ℕ} → ((inner rest : List ℕ) → IsBody inner → body ≢ inner ++ 34 ∷ rest) → IsWrong (34 ∷ body) 0 OpenText
  -- a character behind a backslash in a closed text
  escape : (inner before behind rest : List ℕ) (c : ℕ) → IsBody inner → inner ≡ before ++ 92 ∷ c ∷ behind → IsBody before → escape_of c ≡ None
      → IsWrong (34 ∷ (inner ++ 34 ∷ rest)) (length before + 2) BadByte
  -- a byte, but no quote, at which nothing begins
  nothing : {b : ℕ} {rest : List ℕ} → b ≢ 34 → ((p : Piece) (n : ℕ) → n ≤ length (b ∷ rest) → IsPiece p (take n (b ∷ rest)) → ⊥) → IsWrong (b ∷ rest) 0 BadByte

-- the bytes have this fault at this offset
pub data HasFaultAt : List ℕ → ℕ → Rule → Type 0 where
  -- the first byte that is no part of UTF-8
  no_text : {bytes : List ℕ} {offset : ℕ} → IsValidUpTo bytes offset → HasFaultAt bytes offset BadByte
  -- behind tokens
  wrong : {bytes rest : List ℕ} {at k : ℕ} {fault : Rule} {found : List Located} → IsCutInto 0 bytes found at rest → IsWrong rest k fault → HasFaultAt bytes (at + k) fault

-- the first fault is this one and no other, at this place, and there are no tokens
pub record IsFirstFault (bytes : List ℕ) (fault : Rule) (place : Spot) : Type 0 where
  pub short : length bytes ≤ byte_limit
  pub offset : ℕ
  pub breaks : HasFaultAt bytes offset fault
  pub least : (other : ℕ) (another : Rule) → HasFaultAt bytes other another → offset ≤ other
  pub only : (another : Rule) → HasFaultAt bytes offset another → another ≡ fault
  pub at : place ≡ offset_place bytes offset
  pub none : (found : List Located) → Lexes bytes found → ⊥

-- the first n bytes are UTF-8, and no more of them
abbrev pub IsValidLen : List ℕ → ℕ → Type 0
IsValidLen bytes n = (IsUtf8 bytes × (n ≡ length bytes)) ⊎ IsValidUpTo bytes n

-- the bytes are cut up to the offset
pub record IsCutTo (bytes : List ℕ) (at : ℕ) : Type 0 where
  pub found : List Located
  pub cut : IsCutInto 0 bytes found at (drop at bytes)

-- what was found so far are the tokens up to the offset
pub record AreTokensTo (bytes : List ℕ) (at : ℕ) (found : List PlacedToken) : Type 0 where
  pub cut : IsCutTo bytes at
  pub shows : map seen found ≡ map (shown bytes) cut.found

-- the characters of a text are UTF-8, and a name is one of the language
abbrev pub IsReadable : Tok → Type 0
IsReadable (text chars) = IsUtf8 chars
IsReadable (name n) = IsName n
IsReadable _ = Unit {0}

-- a rule of the content of bytes, and not of their number
abbrev pub IsContentRule : Rule → Type 0
IsContentRule TooLong = ⊥
IsContentRule _ = Unit {0}

-- a breach of such a rule
abbrev pub IsOfContent : Refusal → Type 0
IsOfContent (Broken b) = IsContentRule b.rule
IsOfContent Memory = Unit {0}

-- bytes break a rule of tokens at a place, and have none
pub data BreaksLexis (bytes : List ℕ) (b : Breach) : Type 0 where
  -- there are too many of them
  too_long : byte_limit < length bytes → b ≡ breach_of TooLong first_spot → BreaksLexis bytes b
  -- they have a fault, and this is the first
  at_fault : IsFirstFault bytes b.rule b.spot → BreaksLexis bytes b
