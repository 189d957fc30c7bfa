-- What stands behind a token ends it.
use Rattle.std.proofs.Common.{◌≡◌, ℕ, List, [], ◌∷◌, ◌++◌, Bool, true, false, ◌||◌, ◌&&◌, cond, refl, arith, inl, inr}
use Rattle.std.proofs.lemmas.Bool.{or_cases, and_parts}
use Rattle.std.proofs.lemmas.Bool.Decides.{nat_tests}
use Rattle.sf_lex.specs.Words.{is_digit, is_word_byte}
use Rattle.sf_lex.specs.declared.symbol.Symbol.TheVariants as symbols
use Rattle.sf_lex.specs.Tokens.{Tok, keyword, name, number, text, symbol}
use Rattle.sf_lex.proofs.Before.{is_break, Ends}
use Rattle.sf_print.specs.Canonical.{token_bytes, has_own_brackets, opens, closes, is_round, ends_line, are_joined, gap_before, text_of}

-- the bytes begin with a break, or not at all
abbrev pub Broken : List ℕ → Type 0
Broken [] = Unit {0}
Broken (b ∷ rest) = is_break b ≡ true

closing_breaks : (u : Tok) (rest : List ℕ) → closes u ≡ true → Broken (token_bytes u ++ rest)
closing_breaks (symbol symbols.Comma) rest e = refl
closing_breaks (symbol symbols.Semicolon) rest e = refl
closing_breaks (symbol symbols.Colon) rest e = refl
closing_breaks (symbol symbols.Close) rest e = refl
closing_breaks (symbol symbols.CloseBracket) rest e = refl
closing_breaks u rest e = cc

round_breaks : (u : Tok) (rest : List ℕ) → is_round u ≡ true → Broken (token_bytes u ++ rest)
round_breaks (symbol symbols.Open) rest e = refl
round_breaks u rest e = cc

-- a token that nothing parts from the one in front of it, which opens nothing, begins with a break
joined_breaks : (t u : Tok) (rest : List ℕ) → opens t ≡ false → are_joined t u ≡ true → Broken (token_bytes u ++ rest)
joined_breaks t u rest o j =
    elim (or_cases (opens t) (closes u || (has_own_brackets t && is_round u)) j) [
      | inl opening ↦ cc
      | inr rest_joined ↦ elim (or_cases (closes u) (has_own_brackets t && is_round u) rest_joined) [
        | inl closing ↦ closing_breaks u rest closing
        | inr bracket ↦ round_breaks u rest (and_parts (has_own_brackets t) (is_round u) bracket).1
      ]
    ]

breaks : (t : Tok) (rest : List Tok) → opens t ≡ false → Broken (gap_before t rest ++ text_of rest)
breaks t [] o = by_end (ends_line t)
  where
    by_end : (ends : Bool) → Broken (cond ends (10 ∷ []) [] ++ [])
    by_end true = refl
    by_end false = tt
breaks t (u ∷ us) o = by_gap (ends_line t) (are_joined t u) refl
  where
    more : List ℕ
    more = gap_before u us ++ text_of us

    by_gap : (ends joined : Bool) → are_joined t u ≡ joined → Broken (cond ends (10 ∷ []) (cond joined [] (32 ∷ [])) ++ (token_bytes u ++ (gap_before u us ++ text_of us)))
    by_gap true joined e = refl
    by_gap false true e = joined_breaks t u (gap_before u us ++ text_of us) o e
    by_gap false false e = refl

no_word_byte : (b : ℕ) → is_break b ≡ true → is_word_byte b ≡ false
no_word_byte b e = grind (arith, nat_tests)

no_digit : (b : ℕ) → is_break b ≡ true → is_digit b ≡ false
no_digit b e = grind (arith, nat_tests)

broken_ends : (t : Tok) (bytes : List ℕ) → Broken bytes → Ends t bytes
broken_ends (keyword k) [] b = tt
broken_ends (keyword k) (x ∷ xs) b = no_word_byte x b
broken_ends (name n) [] b = tt
broken_ends (name n) (x ∷ xs) b = no_word_byte x b
broken_ends (number z) [] b = tt
broken_ends (number z) (x ∷ xs) b = no_digit x b
broken_ends (text s) bytes b = tt
broken_ends (symbol s) [] b = inl tt
broken_ends (symbol s) (x ∷ xs) b = inl b

opening_ends : (t : Tok) (bytes : List ℕ) → opens t ≡ true → Ends t bytes
opening_ends (symbol symbols.Open) bytes e = inr refl
opening_ends (symbol symbols.OpenBracket) bytes e = inr refl
opening_ends t bytes e = cc

-- what stands behind a token in a text of tokens may follow it
pub text_ends : (t : Tok) (rest : List Tok) → Ends t (gap_before t rest ++ text_of rest)
text_ends t rest = by_opening (opens t) refl
  where
    by_opening : (b : Bool) → opens t ≡ b → Ends t (gap_before t rest ++ text_of rest)
    by_opening true e = opening_ends t (gap_before t rest ++ text_of rest) e
    by_opening false e = broken_ends t (gap_before t rest ++ text_of rest) (breaks t rest e)
