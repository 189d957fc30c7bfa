-- Fronts of texts, and tokens appended to them.
use Rattle.std.specs.Prelude.{ℕ, Bool, true, false, ◌||◌, not, if◌then◌else◌, List, [], ◌∷◌, ◌++◌}
use Rattle.sf_value.specs.Values.{Data, text}
use Rattle.sf_lex.specs.Tokens.{Tok}
use Rattle.sf_print.specs.declared.draft.Last.{Last}
use Rattle.sf_print.specs.declared.draft.Last.TheVariants as lasts
use Rattle.sf_print.specs.Canonical.{token_bytes, has_own_brackets, opens, closes, is_round, ends_line}

-- the bytes so far, and what the last token lets stand behind it
pub record Front : Type 0 where
  pub bytes : List ℕ
  pub last : Last

-- whether a value is a text
abbrev pub is_text : Data → Bool
is_text (text s) = true
is_text d = false

-- what a token lets stand behind it
abbrev pub as_last : Tok → Last
as_last t = if ends_line t || opens t then lasts.Opening else (if has_own_brackets t then lasts.Head else lasts.Other)

-- whether a space stands before a token that is no symbol
abbrev pub is_apart : Last → Bool
is_apart lasts.Opening = false
is_apart lasts.Head = true
is_apart lasts.Other = true

-- whether a space stands before a token
abbrev pub is_spaced : Last → Tok → Bool
is_spaced lasts.Opening t = false
is_spaced lasts.Head t = not (closes t || is_round t)
is_spaced lasts.Other t = not (closes t)

-- the space before a token
abbrev pub space : Bool → List ℕ
space spaced = if spaced then 32 ∷ [] else []

-- the line feed behind a token
abbrev pub line_end : Bool → List ℕ
line_end ends = if ends then 10 ∷ [] else []

-- a token behind what is there
unfoldable pub append_token : Front → Tok → Front
append_token d t = record { bytes = d.bytes ++ (space (is_spaced d.last t) ++ (token_bytes t ++ line_end (ends_line t))); last = as_last t }

-- tokens behind what is there
abbrev pub append_tokens : Front → List Tok → Front
append_tokens d [] = d
append_tokens d (t ∷ ts) = append_tokens (append_token d t) ts
