-- What bytes begin with, as it is read from left to right.
use Rattle.std.specs.Prelude.{ℕ, suc, ◌+◌, pos, neg_ℤ, Bool, true, false, List, [], ◌∷◌, length, take, ◌&&◌, ◌==◌, nat_eq, nat_le, Option, Some, None, is_some, find, if◌then◌else◌}
use Rattle.std.specs.List.{prefix_len, starts_with}
use Rattle.std.specs.Str.{bytes_eq}
use Rattle.std.specs.Str.Parse.{digits_value}
use Rattle.sf_lex.specs.Words.{is_digit, is_letter, is_word_byte, keyword_bytes}
use Rattle.sf_lex.specs.Symbols.{symbol_bytes}
use Rattle.sf_lex.specs.Tokens.{Tok, keyword, name, number, text, symbol, is_in_line}
use Rattle.sf_lex.specs.Cutting.{Piece, gap, token, fits, is_blank, escape_of}
use Rattle.sf_lex.specs.declared.word.Keyword.{Keyword}
use Rattle.sf_lex.specs.declared.word.Keyword.TheVariants.{Underscore}
use Rattle.sf_lex.specs.declared.word.TheConstants.{KEYWORDS}
use Rattle.sf_lex.specs.declared.symbol.Symbol.{Symbol}
use Rattle.sf_lex.specs.declared.symbol.TheConstants.{SYMBOLS}
use Rattle.sf_refusal.specs.declared.rule.Rule.{Rule}
use Rattle.sf_refusal.specs.declared.rule.Rule.TheVariants.{BadByte, NumberTooLarge, OpenText}
use Rattle.sf_lex.specs.declared.piece.Start.{Start}
use Rattle.sf_lex.specs.declared.piece.Start.TheVariants as starts
use Rattle.sf_lex.specs.declared.piece.Lexeme.{Lexeme}
use Rattle.sf_lex.specs.declared.piece.Lexeme.TheVariants as lexemes
use Rattle.sf_lex.specs.declared.piece.Scanned.{Scanned}
use Rattle.sf_lex.specs.declared.piece.Scanned.TheVariants as scans

-- a piece and its length, or a fault and its offset
pub data NextPiece : Type 0 where
  piece : Piece → ℕ → NextPiece
  fail : Rule → ℕ → NextPiece

abbrev pub is_keyword : List ℕ → Keyword → Bool
is_keyword word k = bytes_eq (keyword_bytes k) word

unfoldable pub keyword_of : List ℕ → Option Keyword
keyword_of word = find (is_keyword word) KEYWORDS

abbrev pub begins_with : List ℕ → Symbol → Bool
begins_with bytes s = starts_with nat_eq bytes (symbol_bytes s)

unfoldable pub symbol_of : List ℕ → Option Symbol
symbol_of bytes = find (begins_with bytes) SYMBOLS

abbrev pub start_of : ℕ → Start
start_of b = if is_blank b then starts.Blank
    else (if b == 35 then starts.Comment
    else (if is_letter b then starts.Letter
    else (if b == 95 then starts.Underscore
    else (if is_digit b then starts.Digit
    else (if b == 34 then starts.Quote else starts.Other)))))

abbrev pub word_token : List ℕ → Option Keyword → Tok
word_token word (Some k) = keyword k
word_token word None = name word

-- n bytes are the word
abbrev pub word_next : ℕ → List ℕ → NextPiece
word_next n bytes = piece (token (word_token (take n bytes) (keyword_of (take n bytes)))) n

abbrev pub digits_next : ℕ → List ℕ → NextPiece
digits_next n bytes = piece (token (number (pos (digits_value 10 (take n bytes))))) n

abbrev pub minus_next : ℕ → List ℕ → NextPiece
minus_next n digits = piece (token (number (neg_ℤ (pos (digits_value 10 (take n digits)))))) (suc n)

-- where the text that goes on with these bytes is closed; i bytes and maybe a backslash stand before them
unfoldable pub text_len : ℕ → Bool → List ℕ → Option ℕ
text_len i escaped [] = None
text_len i true (b ∷ bytes) = if b == 10 then None else text_len (i + 1) false bytes
text_len i false (b ∷ bytes) = if b == 10 then None else (if b == 34 then Some i else text_len (i + 1) (b == 92) bytes)

-- where the first wrong character behind a backslash is
unfoldable pub bad_escape : ℕ → Bool → List ℕ → Option ℕ
bad_escape i escaped [] = None
bad_escape i true (b ∷ bytes) = if is_some (escape_of b) then bad_escape (i + 1) false bytes else Some i
bad_escape i false (b ∷ bytes) = bad_escape (i + 1) (b == 92) bytes

abbrev pub unescaped_byte : ℕ → ℕ
unescaped_byte c = if c == 110 then 10 else c

-- the characters that the bytes between quotes stand for
unfoldable pub unescaped : Bool → List ℕ → List ℕ
unescaped escaped [] = []
unescaped true (b ∷ bytes) = unescaped_byte b ∷ unescaped false bytes
unescaped false (b ∷ bytes) = if b == 92 then unescaped true bytes else b ∷ unescaped false bytes

abbrev pub body_next : List ℕ → Option ℕ → NextPiece
body_next body (Some k) = fail BadByte (k + 1)
body_next body None = piece (token (text (unescaped false body))) (length body + 2)

abbrev pub closed_next : List ℕ → Option ℕ → NextPiece
closed_next bytes (Some n) = body_next (take n bytes) (bad_escape 0 false (take n bytes))
closed_next bytes None = fail OpenText 0

abbrev pub text_next : List ℕ → NextPiece
text_next bytes = closed_next bytes (text_len 0 false bytes)

abbrev pub symbol_next : Option Symbol → NextPiece
symbol_next (Some s) = piece (token (symbol s)) (length (symbol_bytes s))
symbol_next None = fail BadByte 0

abbrev pub begins_with_digit : List ℕ → Bool
begins_with_digit [] = false
begins_with_digit (b ∷ bytes) = is_digit b

abbrev pub other_next : ℕ → List ℕ → NextPiece
other_next b bytes = if b == 45 && begins_with_digit bytes then minus_next (prefix_len is_digit bytes) bytes else symbol_next (symbol_of (b ∷ bytes))

abbrev pub next_by : Start → ℕ → List ℕ → NextPiece
next_by starts.Blank b bytes = piece gap 1
next_by starts.Comment b bytes = piece gap (suc (prefix_len is_in_line bytes))
next_by starts.Letter b bytes = word_next (suc (prefix_len is_word_byte bytes)) (b ∷ bytes)
next_by starts.Underscore b bytes = piece (token (keyword Underscore)) 1
next_by starts.Digit b bytes = digits_next (suc (prefix_len is_digit bytes)) (b ∷ bytes)
next_by starts.Quote b bytes = text_next bytes
next_by starts.Other b bytes = other_next b bytes

-- what the bytes begin with
unfoldable pub next : List ℕ → NextPiece
next [] = fail BadByte 0
next (b ∷ bytes) = next_by (start_of b) b bytes

-- a number outside 64 bits is a fault
abbrev pub in_range : NextPiece → NextPiece
in_range (piece p n) = if fits p then piece p n else fail NumberTooLarge 0
in_range (fail f k) = fail f k

-- after `room` bytes stands a byte that is no part of UTF-8
abbrev pub within : ℕ → NextPiece → NextPiece
within room (piece p n) = if nat_le n room then piece p n else fail BadByte room
within room (fail f k) = if nat_le k room then fail f k else fail BadByte room

-- what the code has found
abbrev pub lexeme_of : Lexeme → Tok
lexeme_of (lexemes.Keyword k) = keyword k
lexeme_of (lexemes.Name s) = name s.now
lexeme_of (lexemes.Number z) = number z
lexeme_of (lexemes.Text s) = text (unescaped false s.now)
lexeme_of (lexemes.Symbol s) = symbol s

abbrev pub next_piece : Scanned → NextPiece
next_piece (scans.Gap n) = piece gap n
next_piece (scans.Token l n) = piece (token (lexeme_of l)) n
next_piece (scans.Fault f k) = fail f k
