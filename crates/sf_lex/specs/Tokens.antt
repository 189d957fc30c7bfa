-- Tokens, and where they stand.
use Rattle.std.specs.Prelude.{ℕ, ◌+◌, ℤ, Bool, List, take, not, ◌==◌, count_by, if◌then◌else◌}
use Rattle.std.specs.List.{suffix_len}
use Rattle.std.specs.String.{string_bytes}
use Rattle.sf_lex.specs.declared.word.Keyword.{Keyword}
use Rattle.sf_lex.specs.declared.symbol.Symbol.{Symbol}
use Rattle.sf_lex.specs.declared.name.Name.{Name}
use Rattle.sf_lex.specs.declared.token.Token.{Token}
use Rattle.sf_lex.specs.declared.token.Token.TheVariants as variants
use Rattle.sf_refusal.specs.declared.spot.Spot.{Spot}
use Rattle.sf_lex.specs.declared.token.PlacedToken.{PlacedToken}

-- a token, whatever text it was read from
pub data Tok : Type 0 where
  keyword : Keyword → Tok
  name : List ℕ → Tok
  number : ℤ → Tok
  text : List ℕ → Tok
  symbol : Symbol → Tok

-- the bytes of a name
abbrev pub name_bytes : Name → List ℕ
name_bytes n = n.text.now

abbrev pub token_of : Token → Tok
token_of (variants.Keyword k) = keyword k
token_of (variants.Name n) = name (name_bytes n)
token_of (variants.Number z) = number z
token_of (variants.Text s) = text (string_bytes s)
token_of (variants.Symbol s) = symbol s

-- a token and the offset of its first byte
pub record Located : Type 0 where
  pub offset : ℕ
  pub token : Tok

abbrev pub is_line_feed : ℕ → Bool
is_line_feed b = b == 10

abbrev pub is_in_line : ℕ → Bool
is_in_line b = not (b == 10)

-- one more than the line feeds in front of the offset
unfoldable pub line_number : List ℕ → ℕ → ℕ
line_number bytes offset = count_by is_line_feed (take offset bytes) + 1

-- one more than the bytes between the last line feed in front of the offset and the offset
unfoldable pub column_at : List ℕ → ℕ → ℕ
column_at bytes offset = suffix_len is_in_line (take offset bytes) + 1

abbrev pub offset_place : List ℕ → ℕ → Spot
offset_place bytes offset = record { line = line_number bytes offset; column = column_at bytes offset }

-- the place one byte on
abbrev pub place_step : Spot → ℕ → Spot
place_step p b = if b == 10 then record { line = p.line + 1; column = 1 } else record { line = p.line; column = p.column + 1 }

-- a token with its place, as the code has it and as the bytes have it
abbrev pub seen : PlacedToken → Tok × Spot
seen p = (token_of p.token, p.spot)

abbrev pub shown : List ℕ → Located → Tok × Spot
shown bytes l = (l.token, offset_place bytes l.offset)
