-- What holds of each keyword and each symbol, and the longest symbol.
use Rattle.std.proofs.Common.{◌≡◌, ℕ, ◌<◌, ◌≤◌, List, [], ◌∷◌, ◌++◌, length, take, get_or, Bool, true, false, not, ◌&&◌, ◌||◌, cond, find, Option, Some, nat_le, refl, sym, ◌∙◌, ap, subst, arith, ◌⊎◌, inl, inr}
use Rattle.std.specs.Prelude.{nat_eq}
use Rattle.std.specs.List.{list_all}
use Rattle.std.specs.Str.{bytes_eq}
use Rattle.std.proofs.lemmas.Bool.{and_parts, or_cases}
use Rattle.std.proofs.lemmas.Bool.Decides.{nat_tests}
use Rattle.std.proofs.lemmas.List.{take_at, get_or-take}
use Rattle.std.proofs.lemmas.Slice.Eq.{bytes_eq-Decides}
use Rattle.sf_lex.specs.declared.word.Keyword.{Keyword}
use Rattle.sf_lex.specs.declared.word.TheConstants.{KEYWORDS}
use Rattle.sf_lex.specs.declared.symbol.Symbol.{Symbol}
use Rattle.sf_lex.specs.declared.symbol.Symbol.TheVariants as symbols
use Rattle.sf_lex.specs.declared.symbol.TheConstants.{SYMBOLS}
use Rattle.sf_lex.specs.declared.piece.Start.{Start}
use Rattle.sf_lex.specs.declared.piece.Start.TheVariants as starts
use Rattle.sf_lex.specs.Words.{keyword_bytes, is_word}
use Rattle.sf_lex.specs.Symbols.{symbol_bytes}
use Rattle.sf_lex.specs.Scanning.{keyword_of, is_keyword, symbol_of, begins_with, start_of, begins_with_digit}
use Rattle.sf_lex.proofs.Words.{keyword_again, find_passes}

-- what passes for all passes for one that is found
pub found_has : {X : Type 0} (p q : X → Bool) (xs : List X) (x : X) → list_all p xs ≡ true → find q xs ≡ Some x → p x ≡ true
found_has p q [] x a e = cc
found_has p q (y ∷ ys) x a e =
    (elim (q y) as (λ b. cond b (Some y) (find q ys) ≡ Some x → p x ≡ true) [
      | true ↦ λ found. (let same : y ≡ x = cc in ap p (sym same) ∙ (and_parts _ _ a).0)
      | false ↦ λ found. found_has p q ys x (and_parts _ _ a).1 found
    ]) e

abbrev is_word_or_low_line : Keyword → Bool
is_word_or_low_line k = is_word (keyword_bytes k) || bytes_eq (keyword_bytes k) (95 ∷ [])

pub keyword_word : (k : Keyword) → (is_word (keyword_bytes k) ≡ true) ⊎ (keyword_bytes k ≡ 95 ∷ [])
unfolding keyword_of
keyword_word k =
    elim (or_cases _ _ (found_has is_word_or_low_line (is_keyword (keyword_bytes k)) KEYWORDS k refl (keyword_again k)))
    [ inl w ↦ inl w | inr e ↦ inr ((bytes_eq-Decides (keyword_bytes k) (95 ∷ [])).0 e) ]

-- the table has each symbol at its bytes
pub symbol_again : (s : Symbol) → symbol_of (symbol_bytes s) ≡ Some s
unfolding symbol_of
symbol_again symbols.Initially = refl
symbol_again symbols.OnFirstInput = refl
symbol_again symbols.MapsFirstInput = refl
symbol_again symbols.InSequence = refl
symbol_again symbols.InParallel = refl
symbol_again symbols.FannedOut = refl
symbol_again symbols.Leads = refl
symbol_again symbols.MapsTo = refl
symbol_again symbols.IsEqual = refl
symbol_again symbols.IsDifferent = refl
symbol_again symbols.AtMost = refl
symbol_again symbols.AtLeast = refl
symbol_again symbols.Less = refl
symbol_again symbols.Greater = refl
symbol_again symbols.Plus = refl
symbol_again symbols.Minus = refl
symbol_again symbols.Times = refl
symbol_again symbols.Open = refl
symbol_again symbols.Close = refl
symbol_again symbols.OpenBracket = refl
symbol_again symbols.CloseBracket = refl
symbol_again symbols.Comma = refl
symbol_again symbols.Colon = refl
symbol_again symbols.Semicolon = refl
symbol_again symbols.Equals = refl

abbrev pub is_other : Start → Bool
is_other starts.Other = true
is_other _ = false

abbrev pub begins_well : List ℕ → Bool
begins_well [] = false
begins_well (b ∷ bytes) = is_other (start_of b) && not (begins_with_digit bytes)

pub symbol_begins : (s : Symbol) → begins_well (symbol_bytes s) ≡ true
unfolding symbol_of
symbol_begins s = found_has (λ t. begins_well (symbol_bytes t)) (begins_with (symbol_bytes s)) SYMBOLS s refl (symbol_again s)

abbrev first_byte : Symbol → ℕ
first_byte s = get_or (symbol_bytes s) 0 0

abbrev no_longer : Symbol → Symbol → Bool
no_longer s t = not (nat_eq (first_byte s) (first_byte t)) || nat_le (length (symbol_bytes t)) (length (symbol_bytes s))

-- no symbol stands before a longer one of the same first byte
abbrev descends : List Symbol → Bool
descends [] = true
descends (s ∷ rest) = list_all (no_longer s) rest && descends rest

-- a symbol that is no shorter is found
pub record Longer (found : Option Symbol) (s : Symbol) : Type 0 where
  pub other : Symbol
  pub is : found ≡ Some other
  pub longer : length (symbol_bytes s) ≤ length (symbol_bytes other)

-- what passes begins with one byte
abbrev AllBegin : (Symbol → Bool) → ℕ → Type 0
AllBegin p b = (s : Symbol) → p s ≡ true → first_byte s ≡ b

no_longer_is : (a b m n : ℕ) → a ≡ b → (not (nat_eq a b) || nat_le m n) ≡ true → m ≤ n
no_longer_is a b m n same h = grind (arith, nat_tests)

find_longest : (p q : Symbol → Bool) (b : ℕ) (xs : List Symbol) (s : Symbol) → AllBegin p b → descends xs ≡ true → find q xs ≡ Some s → p s ≡ true → Longer (find p xs) s
find_longest p q b [] s begin d e h = cc
find_longest p q b (x ∷ xs) s begin d e h =
    (elim (q x) as (λ t. cond t (Some x) (find q xs) ≡ Some s → Longer (cond (p x) (Some x) (find p xs)) s) [
      | true ↦ λ f. (let same : x ≡ s = cc in let passes : p x ≡ true = ap p same ∙ h in
          rw passes (record { other = x; is = refl; longer = subst (λ (t : Symbol). length (symbol_bytes t) ≤ length (symbol_bytes x)) same (omega arith) }))
      | false ↦ λ f. (elim (p x) as (λ t. p x ≡ t → Longer (cond t (Some x) (find p xs)) s) [
        | true ↦ λ passes. record {
          other = x;
          is = refl;
          longer = no_longer_is (first_byte x) (first_byte s) _ _ (begin x passes ∙ sym (begin s h)) (found_has (no_longer x) q xs s (and_parts _ _ d).0 f);
        }
        | false ↦ λ passes. find_longest p q b xs s begin (and_parts _ _ d).1 f h
      ]) refl
    ]) e

pub begins_with_own : (s : Symbol) (rest : List ℕ) → begins_with (symbol_bytes s ++ rest) s ≡ true
begins_with_own s rest = (bytes_eq-Decides (symbol_bytes s) (take (length (symbol_bytes s)) (symbol_bytes s ++ rest))).1 (sym (take_at (symbol_bytes s) rest (length (symbol_bytes s)) refl))

begins_some : (bytes : List ℕ) → begins_well bytes ≡ true → 0 < length bytes
begins_some [] h = cc
begins_some (b ∷ bytes) h = omega arith

begins_so : (bytes : List ℕ) (s : Symbol) → begins_with bytes s ≡ true → first_byte s ≡ get_or bytes 0 0
begins_so bytes s h =
    ap (λ t. get_or t 0 0) ((bytes_eq-Decides (symbol_bytes s) (take (length (symbol_bytes s)) bytes)).0 h)
    ∙ get_or-take (length (symbol_bytes s)) bytes 0 0 (begins_some (symbol_bytes s) (symbol_begins s))

pub symbol_longest : (s : Symbol) (rest : List ℕ) → Longer (symbol_of (symbol_bytes s ++ rest)) s
unfolding symbol_of
symbol_longest s rest =
    let bytes = symbol_bytes s ++ rest in
    find_longest (begins_with bytes) (begins_with (symbol_bytes s)) (get_or bytes 0 0) SYMBOLS s (begins_so bytes) refl (symbol_again s) (begins_with_own s rest)

pub symbol_stands : (bytes : List ℕ) (s : Symbol) → symbol_of bytes ≡ Some s → symbol_bytes s ≡ take (length (symbol_bytes s)) bytes
unfolding symbol_of
symbol_stands bytes s e = (bytes_eq-Decides (symbol_bytes s) (take (length (symbol_bytes s)) bytes)).0 (find_passes (begins_with bytes) SYMBOLS s e)
