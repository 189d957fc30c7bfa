-- The canonical text of a network.
use Rattle.std.specs.Prelude.{ℕ, Bool, true, false, ◌||◌, ◌&&◌, if◌then◌else◌, List, [], ◌∷◌, ◌++◌, Option, Some}
use Rattle.sf_decimal.specs.Decimals.{integer}
use Rattle.sf_spelling.specs.Spelling.{quoted}
use Rattle.sf_lex.specs.declared.symbol.Symbol.TheVariants as symbols
use Rattle.sf_lex.specs.Words.{keyword_bytes}
use Rattle.sf_lex.specs.Symbols.{symbol_bytes}
use Rattle.sf_lex.specs.Tokens.{Tok, keyword, name, number, text, symbol}
use Rattle.sf_term.specs.Trees.{Templates}
use Rattle.sf_grammar.specs.declared.head.Head.{Head}
use Rattle.sf_grammar.specs.declared.head.Head.TheVariants as heads
use Rattle.sf_grammar.specs.declared.head.CollectionHead.{CollectionHead}
use Rattle.sf_grammar.specs.declared.head.CollectionHead.TheVariants as collection_heads
use Rattle.sf_grammar.specs.declared.head.ExpressionHead.{ExpressionHead}
use Rattle.sf_grammar.specs.declared.head.ExpressionHead.TheVariants as expression_heads
use Rattle.sf_grammar.specs.Reading.{head_of, collection_head, expression_head}
use Rattle.sf_grammar.specs.Spelling.{spell}
use Rattle.sf_print.specs.Versions.{version_of}

-- the bytes of a token: a number and a text are written as values are
abbrev pub token_bytes : Tok → List ℕ
token_bytes (keyword k) = keyword_bytes k
token_bytes (name n) = n
token_bytes (number z) = integer z
token_bytes (text s) = quoted s
token_bytes (symbol s) = symbol_bytes s

-- whether the parts of a term stand in brackets directly behind its first token
abbrev pub has_brackets : Option Head → Bool
has_brackets (Some (heads.Accumulated k)) = true
has_brackets (Some (heads.Headed h)) = true
has_brackets (Some heads.Transformed) = true
has_brackets (Some (heads.Switching w)) = true
has_brackets (Some (heads.Continuation w)) = true
has_brackets (Some heads.Call) = true
has_brackets (Some (heads.Releasing w)) = true
has_brackets (Some (heads.Editing w)) = true
has_brackets h = false

-- the same of a collection
abbrev pub collection_has_brackets : Option CollectionHead → Bool
collection_has_brackets (Some collection_heads.Added) = true
collection_has_brackets (Some collection_heads.Dropped) = true
collection_has_brackets (Some collection_heads.Kept) = true
collection_has_brackets h = false

-- the same of an expression
abbrev pub expression_has_brackets : Option ExpressionHead → Bool
expression_has_brackets (Some (expression_heads.OneInBrackets o)) = true
expression_has_brackets (Some (expression_heads.TwoInBrackets o)) = true
expression_has_brackets (Some (expression_heads.OneAndFunction m)) = true
expression_has_brackets (Some (expression_heads.TwoAndFunction o)) = true
expression_has_brackets h = false

-- a name, or the first token of a form whose brackets stand directly behind it
unfoldable pub has_own_brackets : Tok → Bool
has_own_brackets (keyword k) = has_brackets (head_of (keyword k)) || (collection_has_brackets (collection_head (keyword k)) || expression_has_brackets (expression_head k))
has_own_brackets t = has_brackets (head_of t)

-- an opening bracket
abbrev pub opens : Tok → Bool
opens (symbol symbols.Open) = true
opens (symbol symbols.OpenBracket) = true
opens t = false

-- a comma, a semicolon, a colon or a closing bracket
abbrev pub closes : Tok → Bool
closes (symbol symbols.Comma) = true
closes (symbol symbols.Semicolon) = true
closes (symbol symbols.Colon) = true
closes (symbol symbols.Close) = true
closes (symbol symbols.CloseBracket) = true
closes t = false

-- the bracket that a form in brackets has
abbrev pub is_round : Tok → Bool
is_round (symbol symbols.Open) = true
is_round t = false

-- a semicolon ends a line
abbrev pub ends_line : Tok → Bool
ends_line (symbol symbols.Semicolon) = true
ends_line t = false

-- nothing stands behind what opens, before what closes, and between the first token of a form and the form's own bracket
abbrev pub are_joined : Tok → Tok → Bool
are_joined t u = opens t || (closes u || (has_own_brackets t && is_round u))

-- what stands between a token and those behind it: a line feed behind the end of a line, else one space, or nothing
abbrev pub gap_before : Tok → List Tok → List ℕ
gap_before t [] = if ends_line t then 10 ∷ [] else []
gap_before t (u ∷ rest) = if ends_line t then 10 ∷ [] else (if are_joined t u then [] else 32 ∷ [])

-- the text of tokens
abbrev pub text_of : List Tok → List ℕ
text_of [] = []
text_of (t ∷ rest) = token_bytes t ++ (gap_before t rest ++ text_of rest)

-- the canonical text of a network: that of its tokens, in the first version that has it
abbrev pub canonical_text : Templates → List ℕ
canonical_text p = text_of (spell (version_of p) p)
