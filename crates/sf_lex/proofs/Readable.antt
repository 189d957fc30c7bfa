-- Names and the characters of texts are UTF-8.
use Rattle.std.proofs.Common.{◌≡◌, ℕ, zero, suc, ◌+◌, ◌-◌, ◌≤◌, ◌<◌, List, [], ◌∷◌, ◌++◌, length, take, drop, get_or, true, Some, refl, sym, ◌∙◌, ap, subst, arith, inl, inr, append_assoc, take-add, length-append}
use Rattle.std.specs.List.{list_all}
use Rattle.std.specs.Str.{IsUtf8, IsAscii}
use Rattle.std.proofs.lemmas.Bool.{and_parts}
use Rattle.std.proofs.lemmas.Bool.Decides.{nat_tests}
use Rattle.std.proofs.lemmas.List.{take_at, drop_at, get_or_at, take-take, take_all, take-append-drop}
use Rattle.std.proofs.lemmas.Str.{IsUtf8-append, IsUtf8-take, IsUtf8-drop, IsUtf8-from_ascii, IsCharBoundary-before_ascii, IsCharBoundary-after_ascii}
use Rattle.sf_lex.specs.Words.{is_letter, is_word_byte, is_word, IsName}
use Rattle.sf_lex.specs.Tokens.{Tok, keyword, name, number, text, symbol}
use Rattle.sf_lex.specs.Cutting.{token, IsLongest, Quotes, quotes_end, quotes_plain, quotes_escaped, escape_of, IsValidLen, IsReadable}

-- UTF-8 on both sides of an ASCII byte
split_utf8 : (xs ys : List ℕ) (a : ℕ) → a < 128 → IsUtf8 (xs ++ a ∷ ys) → IsUtf8 xs × IsUtf8 ys
split_utf8 xs ys a small u =
    let all = xs ++ a ∷ ys in
    let inside : length xs < length (xs ++ a ∷ ys) = omega (arith, length-append xs (a ∷ ys)) in
    let byte : get_or (xs ++ a ∷ ys) (length xs) 0 ≡ a = get_or_at xs a ys 0 (length xs) refl in
    let low : get_or (xs ++ a ∷ ys) (length xs) 0 < 128 = omega arith in
    let before = IsUtf8-take (xs ++ a ∷ ys) (length xs) u (IsCharBoundary-before_ascii (xs ++ a ∷ ys) (length xs) inside low) in
    let behind = IsUtf8-drop (xs ++ a ∷ ys) (length xs + 1) u (IsCharBoundary-after_ascii (xs ++ a ∷ ys) (length xs) u inside low) in
    let rest : drop (length xs + 1) (xs ++ a ∷ ys) ≡ ys = ap (drop (length xs + 1)) (sym (append_assoc xs (a ∷ []) ys)) ∙ drop_at (xs ++ a ∷ []) ys (length xs + 1) (length-append xs (a ∷ [])) in
    (subst (λ (x : List ℕ). IsUtf8 x) (take_at xs (a ∷ ys) (length xs) refl) before, subst (λ (x : List ℕ). IsUtf8 x) rest behind)

escape_small : (c b : ℕ) → escape_of c ≡ Some b → (c < 128) × (b < 128)
escape_small c b e = (grind (arith, nat_tests), grind (arith, nat_tests))

pub single_utf8 : (b : ℕ) → b < 128 → IsUtf8 (b ∷ [])
single_utf8 b small = IsUtf8-from_ascii (b ∷ []) at
  where
    at : IsAscii (b ∷ [])
    at zero = small
    at (suc i) = omega arith

quotes_utf8 : (front chars inner : List ℕ) → Quotes chars inner → IsUtf8 (front ++ inner) → IsUtf8 (front ++ chars)
quotes_utf8 front chars inner quotes_end u = u
quotes_utf8 front chars inner (quotes_plain {b = b} {chars = more} {rest = rest} p q) u =
    subst (λ (x : List ℕ). IsUtf8 x) (append_assoc front (b ∷ []) more)
    (quotes_utf8 (front ++ b ∷ []) more rest q (subst (λ (x : List ℕ). IsUtf8 x) (sym (append_assoc front (b ∷ []) rest)) u))
quotes_utf8 front chars inner (quotes_escaped {b = b} {c = c} {chars = more} {rest = rest} e q) u =
    let small = escape_small c b e in
    let s = split_utf8 front (c ∷ rest) 92 (omega arith) u in
    let t = split_utf8 [] rest c small.0 s.1 in
    IsUtf8-append front (b ∷ more) s.0 (IsUtf8-append (b ∷ []) more (single_utf8 b small.1) (quotes_utf8 [] more rest q t.1))

word_small : (w : List ℕ) → list_all is_word_byte w ≡ true → IsAscii w
word_small [] a i = omega arith
word_small (b ∷ w) a zero = let h = and_parts (is_word_byte b) (list_all is_word_byte w) a in let e = h.0 in grind (arith, nat_tests)
word_small (b ∷ w) a (suc i) = word_small w (and_parts (is_word_byte b) (list_all is_word_byte w) a).1 i

name_small : (w : List ℕ) → is_word w ≡ true → IsAscii w
name_small [] a i = omega arith
name_small (b ∷ w) a zero = let h = and_parts (is_letter b) (list_all is_word_byte w) a in let e = h.0 in grind (arith, nat_tests)
name_small (b ∷ w) a (suc i) = word_small w (and_parts (is_letter b) (list_all is_word_byte w) a).1 i

-- a name is ASCII
pub name_utf8 : (w : List ℕ) → IsName w → IsUtf8 w
name_utf8 w named = IsUtf8-from_ascii w (name_small w named.word)

valid_front : (bytes : List ℕ) (valid : ℕ) → IsValidLen bytes valid → IsUtf8 (take valid bytes)
valid_front bytes valid (inl u) = subst (λ (x : List ℕ). IsUtf8 x) (sym (take_all valid bytes (omega (arith, u.1)))) u.0
valid_front bytes valid (inr u) = u.front

text_utf8 : (bytes chars inner : List ℕ) (at valid n : ℕ) → at + n ≤ valid → IsValidLen bytes valid → take n (drop at bytes) ≡ 34 ∷ (inner ++ 34 ∷ []) → Quotes chars inner → IsUtf8 chars
text_utf8 bytes chars inner at valid n near v e q =
    let rest = drop at bytes in
    let room = valid - at in
    let behind = drop n (take room rest) in
    let whole : at + (valid - at) ≡ valid = omega arith in
    let parts : take valid bytes ≡ take at bytes ++ take room rest = ap (λ m. take m bytes) (sym whole) ∙ take-add at room bytes in
    let piece : take room rest ≡ 34 ∷ (inner ++ 34 ∷ []) ++ behind =
    sym (take-append-drop n (take room rest)) ∙ ap (λ x. x ++ behind) (take-take n room rest (omega arith) ∙ e) in
    let flat : 34 ∷ (inner ++ 34 ∷ []) ++ behind ≡ 34 ∷ (inner ++ 34 ∷ behind) = ap (λ x. 34 ∷ x) (append_assoc inner (34 ∷ []) behind) in
    let u : IsUtf8 (take at bytes ++ 34 ∷ (inner ++ 34 ∷ behind)) =
    subst (λ (x : List ℕ). IsUtf8 x) (parts ∙ ap (λ x. take at bytes ++ x) (piece ∙ flat)) (valid_front bytes valid v) in
    let s = split_utf8 (take at bytes) (inner ++ 34 ∷ behind) 34 (omega arith) u in
    let t = split_utf8 inner behind 34 (omega arith) s.1 in
    quotes_utf8 [] chars inner q t.0

pub readable : (bytes : List ℕ) (at valid n : ℕ) (t : Tok) → IsLongest (drop at bytes) (token t) n → at + n ≤ valid → IsValidLen bytes valid → IsReadable t
readable bytes at valid n (keyword k) l near v = tt
readable bytes at valid n (name x) l near v = l.is.1
readable bytes at valid n (number z) l near v = tt
readable bytes at valid n (text chars) l near v = text_utf8 bytes chars l.is.0 at valid n near v l.is.1 l.is.2
readable bytes at valid n (symbol s) l near v = tt
