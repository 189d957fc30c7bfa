-- The bytes of a token spell it, and are UTF-8.
use Rattle.std.proofs.Common.{◌≡◌, ℕ, ℤ, pos, negsuc, neg_ℤ, zero, suc, ◌+◌, ◌<◌, List, [], ◌∷◌, ◌++◌, length, drop, get_or, Bool, true, false, ◌==◌, nat_lt, Some, refl, sym, ◌∙◌, ap, subst, arith, ◌⊎◌, inl, inr, append_assoc, length-append}
use Rattle.std.specs.List.{list_all, flat_map}
use Rattle.std.specs.Str.{IsUtf8}
use Rattle.std.specs.Char.{is_ascii_digit}
use Rattle.std.specs.Str.Parse.{digits_value}
use Rattle.std.proofs.lemmas.Bool.{and_parts}
use Rattle.std.proofs.lemmas.Bool.Decides.{nat_tests}
use Rattle.std.proofs.lemmas.List.{take_at, drop_at, get_or_at}
use Rattle.std.proofs.lemmas.Str.{IsUtf8-nil, IsUtf8-append, IsUtf8-take, IsUtf8-drop, IsCharBoundary-before_ascii, IsCharBoundary-after_ascii}
use Rattle.sf_decimal.specs.Decimals.{natural, integer}
use Rattle.sf_decimal.proofs.Digits.{AllDigits, numeral}
use Rattle.sf_spelling.specs.Spelling.{escaped}
use Rattle.sf_lex.specs.declared.word.Keyword.{Keyword}
use Rattle.sf_lex.specs.declared.symbol.Symbol.{Symbol}
use Rattle.sf_lex.specs.declared.symbol.Symbol.TheVariants as symbols
use Rattle.sf_lex.specs.Words.{is_digit, is_letter, is_word_byte, is_word, keyword_bytes}
use Rattle.sf_lex.specs.Symbols.{symbol_bytes}
use Rattle.sf_lex.specs.Tokens.{Tok, keyword, name, number, text, symbol}
use Rattle.sf_lex.specs.Cutting.{Spells, SpellsNumber, unsigned, negative, IsDigits, Quotes, quotes_end, quotes_plain, quotes_escaped, is_plain, escape_of}
use Rattle.sf_lex.proofs.Tables.{keyword_word}
use Rattle.sf_lex.proofs.Readable.{single_utf8, name_utf8}
use Rattle.sf_print.specs.Canonical.{token_bytes}
use Rattle.sf_print.specs.Laws.{CanStand}

digit_is : (c : ℕ) → is_ascii_digit c ≡ true → is_digit c ≡ true
digit_is c e = grind (arith, nat_tests)

digits_are : (ds : List ℕ) → AllDigits ds → list_all is_digit ds ≡ true
digits_are [] a = refl
digits_are (d ∷ ds) a = rw (digit_is d a.0) (digits_are ds a.1)

-- digits, of which there is one at least, and their number
pub record Digits (n : ℕ) : Type 0 where
  pub digits : IsDigits (natural n)
  pub value : digits_value 10 (natural n) ≡ n

digits_of_zero : Digits zero
unfolding natural
digits_of_zero = record { digits = record { some = omega arith; all = refl }; value = refl }

natural_digits : (n : ℕ) → Digits n
natural_digits zero = digits_of_zero
natural_digits (suc n) =
    let r = numeral (suc n) (omega arith) in
    record {
      digits = subst IsDigits (sym r.is) (record { some = omega arith; all = digits_are (r.head ∷ r.tail) r.digits });
      value = ap (digits_value 10) r.is ∙ r.value;
    }

integer_spells : (z : ℤ) → SpellsNumber z (integer z)
integer_spells (pos n) = let d = natural_digits n in subst (λ m. SpellsNumber (pos m) (natural n)) d.value (unsigned d.digits)
integer_spells (negsuc n) = let d = natural_digits (suc n) in subst (λ m. SpellsNumber (neg_ℤ (pos m)) (45 ∷ natural (suc n))) d.value (negative d.digits)

-- a byte is one of those that are escaped, or plain
pub record EscapedAs (b c : ℕ) : Type 0 where
  pub is : escaped b ≡ 92 ∷ c ∷ []
  pub stands : escape_of c ≡ Some b
  pub low : b < 128
  pub second : c < 128

pub record PlainByte (b : ℕ) : Type 0 where
  pub is : escaped b ≡ b ∷ []
  pub plain : is_plain b ≡ true

escapes : (b : ℕ) → ((c : ℕ) × EscapedAs b c) ⊎ PlainByte b
escapes b = by (b == 34) (b == 92) (b == 10) refl refl refl
  where
    by : (q s l : Bool) → (b == 34) ≡ q → (b == 92) ≡ s → (b == 10) ≡ l → ((c : ℕ) × EscapedAs b c) ⊎ PlainByte b
    by true s l e f g = let is : b ≡ 34 = grind (arith, nat_tests) in inl (34, record { is = rw is refl; stands = rw is refl; low = omega arith; second = omega arith })
    by false true l e f g = let is : b ≡ 92 = grind (arith, nat_tests) in inl (92, record { is = rw is refl; stands = rw is refl; low = omega arith; second = omega arith })
    by false false true e f g = let is : b ≡ 10 = grind (arith, nat_tests) in inl (110, record { is = rw is refl; stands = rw is refl; low = omega arith; second = omega arith })
    by false false false e f g = inr (record { is = rw (e, f, g) refl; plain = rw (g, e, f) refl })

quotes : (s : List ℕ) → Quotes s (flat_map escaped s)
quotes [] = quotes_end
quotes (b ∷ s) =
    elim (escapes b) [
      | inl r ↦ subst (λ e. Quotes (b ∷ s) (e ++ flat_map escaped s)) (sym r.1.is) (quotes_escaped r.1.stands (quotes s))
      | inr r ↦ subst (λ e. Quotes (b ∷ s) (e ++ flat_map escaped s)) (sym r.is) (quotes_plain r.plain (quotes s))
    ]

-- the bytes of a token spell it
pub bytes_spell : (t : Tok) → CanStand t → Spells t (token_bytes t)
bytes_spell (keyword k) c = refl
bytes_spell (name n) c = (refl, c)
bytes_spell (number z) c = integer_spells z
bytes_spell (text s) c = (flat_map escaped s, refl, quotes s)
bytes_spell (symbol s) c = refl

-- UTF-8 on both sides of an ASCII byte
apart_utf8 : (xs ys : List ℕ) (a : ℕ) → a < 128 → IsUtf8 (xs ++ a ∷ ys) → IsUtf8 xs × IsUtf8 ys
apart_utf8 xs ys a small u =
    let inside : length xs < length (xs ++ a ∷ ys) = omega (arith, length-append xs (a ∷ ys)) in
    let byte : get_or (xs ++ a ∷ ys) (length xs) 0 ≡ a = get_or_at xs a ys 0 (length xs) refl in
    let low : get_or (xs ++ a ∷ ys) (length xs) 0 < 128 = omega arith in
    let before = IsUtf8-take (xs ++ a ∷ ys) (length xs) u (IsCharBoundary-before_ascii (xs ++ a ∷ ys) (length xs) inside low) in
    let behind = IsUtf8-drop (xs ++ a ∷ ys) (length xs + 1) u (IsCharBoundary-after_ascii (xs ++ a ∷ ys) (length xs) u inside low) in
    let rest : drop (length xs + 1) (xs ++ a ∷ ys) ≡ ys = ap (drop (length xs + 1)) (sym (append_assoc xs (a ∷ []) ys)) ∙ drop_at (xs ++ a ∷ []) ys (length xs + 1) (length-append xs (a ∷ [])) in
    (subst (λ (x : List ℕ). IsUtf8 x) (take_at xs (a ∷ ys) (length xs) refl) before, subst (λ (x : List ℕ). IsUtf8 x) rest behind)

escaped_utf8 : (front s : List ℕ) → IsUtf8 (front ++ s) → IsUtf8 (front ++ flat_map escaped s)
escaped_utf8 front [] u = u
escaped_utf8 front (b ∷ s) u =
    elim (escapes b) [
      | inl r ↦ (
          let split = apart_utf8 front s b r.1.low u in
          let pair = IsUtf8-append (92 ∷ []) (r.0 ∷ []) (single_utf8 92 (omega arith)) (single_utf8 r.0 r.1.second) in
          IsUtf8-append front (escaped b ++ flat_map escaped s) split.0 (IsUtf8-append (escaped b) (flat_map escaped s) (subst IsUtf8 (sym r.1.is) pair) (escaped_utf8 [] s split.1)))
      | inr r ↦ subst (λ e. IsUtf8 (front ++ (e ++ flat_map escaped s))) (sym r.is)
          (subst IsUtf8 (append_assoc front (b ∷ []) (flat_map escaped s)) (escaped_utf8 (front ++ b ∷ []) s (subst IsUtf8 (sym (append_assoc front (b ∷ []) s)) u)))
    ]

abbrev is_low : ℕ → Bool
is_low b = nat_lt b 128

low_utf8 : (w : List ℕ) → list_all is_low w ≡ true → IsUtf8 w
low_utf8 [] a = IsUtf8-nil
low_utf8 (b ∷ w) a =
    let h = and_parts (is_low b) (list_all is_low w) a in
    let here = h.0 in
    let low : b < 128 = grind (arith, nat_tests) in
    IsUtf8-append (b ∷ []) w (single_utf8 b low) (low_utf8 w h.1)

word_low : (w : List ℕ) → list_all is_word_byte w ≡ true → list_all is_low w ≡ true
word_low [] a = refl
word_low (b ∷ w) a =
    let h = and_parts (is_word_byte b) (list_all is_word_byte w) a in
    let here = h.0 in
    let low : is_low b ≡ true = grind (arith, nat_tests) in
    rw low (word_low w h.1)

begun_low : (w : List ℕ) → is_word w ≡ true → list_all is_low w ≡ true
begun_low [] a = refl
begun_low (b ∷ w) a =
    let h = and_parts (is_letter b) (list_all is_word_byte w) a in
    let here = h.0 in
    let low : is_low b ≡ true = grind (arith, nat_tests) in
    rw low (word_low w h.1)

keyword_low : (k : Keyword) → list_all is_low (keyword_bytes k) ≡ true
keyword_low k = elim (keyword_word k) [ inl is ↦ begun_low (keyword_bytes k) is | inr is ↦ ap (list_all is_low) is ]

symbol_low : (s : Symbol) → list_all is_low (symbol_bytes s) ≡ true
symbol_low symbols.Initially = refl
symbol_low s = refl

digits_low : (ds : List ℕ) → list_all is_digit ds ≡ true → list_all is_low ds ≡ true
digits_low [] a = refl
digits_low (d ∷ ds) a =
    let h = and_parts (is_digit d) (list_all is_digit ds) a in
    let here = h.0 in
    let low : is_low d ≡ true = grind (arith, nat_tests) in
    rw low (digits_low ds h.1)

natural_utf8 : (n : ℕ) → IsUtf8 (natural n)
natural_utf8 n = low_utf8 (natural n) (digits_low (natural n) (natural_digits n).digits.all)

integer_utf8 : (z : ℤ) → IsUtf8 (integer z)
integer_utf8 (pos n) = natural_utf8 n
integer_utf8 (negsuc n) = IsUtf8-append (45 ∷ []) (natural (suc n)) (single_utf8 45 (omega arith)) (natural_utf8 (suc n))

-- the bytes of a token are UTF-8
pub bytes_utf8 : (t : Tok) → CanStand t → IsUtf8 (token_bytes t)
bytes_utf8 (keyword k) c = low_utf8 (keyword_bytes k) (keyword_low k)
bytes_utf8 (name n) c = name_utf8 n c
bytes_utf8 (number z) c = integer_utf8 z
bytes_utf8 (text s) c = IsUtf8-append (34 ∷ []) (flat_map escaped s ++ 34 ∷ []) (single_utf8 34 (omega arith)) (IsUtf8-append (flat_map escaped s) (34 ∷ []) (escaped_utf8 [] s c) (single_utf8 34 (omega arith)))
bytes_utf8 (symbol s) c = low_utf8 (symbol_bytes s) (symbol_low s)
