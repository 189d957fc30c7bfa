-- What is scanned is the longest piece.
use Rattle.std.proofs.Common.{◌≡◌, ◌≢◌, ℕ, suc, ◌+◌, ◌≤◌, ◌<◌, ℤ, pos, neg_ℤ, List, [], ◌∷◌, ◌++◌, length, take, drop, Bool, true, false, not, ◌&&◌, ◌==◌, cond, Option, Some, None, refl, sym, ◌∙◌, ap, subst, arith, inl, inr, append_assoc, length-append}
use Rattle.std.specs.List.{list_all, prefix_len}
use Rattle.std.specs.Str.Parse.{digits_value}
use Rattle.std.proofs.lemmas.Bool.{eqb-true, eqb-false, and_parts, cond_both, and_right, not-true}
use Rattle.std.proofs.lemmas.Bool.Decides.{nat_tests}
use Rattle.std.proofs.lemmas.List.Folds.{length-prefix_len}
use Rattle.std.proofs.lemmas.List.{take_at, take_all, length-take, take-append-drop}
use Rattle.sf_lex.specs.declared.word.Keyword.{Keyword}
use Rattle.sf_lex.specs.declared.word.Keyword.TheVariants.{Underscore}
use Rattle.sf_lex.specs.declared.symbol.Symbol.{Symbol}
use Rattle.sf_lex.specs.declared.piece.Start.{Start}
use Rattle.sf_lex.specs.declared.piece.Start.TheVariants as starts
use Rattle.sf_lex.specs.Words.{is_digit, is_letter, is_word_byte, is_word, keyword_bytes}
use Rattle.sf_lex.specs.Symbols.{symbol_bytes}
use Rattle.sf_lex.specs.Tokens.{keyword, name, number, text, symbol, is_in_line}
use Rattle.sf_lex.specs.Cutting.{Piece, gap, token, IsPiece, IsGap, blank, comment, Spells, SpellsNumber, unsigned, negative, IsDigits, IsLongest, IsBody, Quotes, is_blank}
use Rattle.sf_lex.specs.Scanning.{NextPiece, piece, fail, next, next_by, start_of, word_next, word_token, keyword_of, digits_next, minus_next, text_next, closed_next, body_next, text_len, bad_escape, unescaped, symbol_next, symbol_of, other_next, begins_with_digit}
use Rattle.sf_lex.proofs.Words.{keyword_is, keyword_again, name_from, name_other}
use Rattle.sf_lex.proofs.Tables.{keyword_word, symbol_begins, symbol_again, symbol_longest, symbol_stands, Longer, is_other, begins_well}
use Rattle.sf_lex.proofs.Texts.{text_len_closes, text_len_body, quotes_from, quotes_body, quotes_good, quotes_unescaped}

-- fronts that pass a test
prefix_reaches : (p : ℕ → Bool) (w r : List ℕ) → list_all p w ≡ true → length w ≤ prefix_len p (w ++ r)
prefix_reaches p [] r a = omega arith
prefix_reaches p (x ∷ w) r a = let h = and_parts (p x) (list_all p w) a in rw h.0 (omega (arith, prefix_reaches p w r h.1))

prefix_whole : (p : ℕ → Bool) (w : List ℕ) → list_all p w ≡ true → prefix_len p w ≡ length w
prefix_whole p [] a = refl
prefix_whole p (x ∷ w) a = let h = and_parts (p x) (list_all p w) a in rw h.0 (omega (arith, prefix_whole p w h.1))

pub prefix_all : (p : ℕ → Bool) (xs : List ℕ) → list_all p (take (prefix_len p xs) xs) ≡ true
prefix_all p [] = refl
prefix_all p (x ∷ xs) =
    (elim (p x) as (λ b. p x ≡ b → list_all p (take (cond b (1 + prefix_len p xs) 0) (x ∷ xs)) ≡ true) [
      | true ↦ λ e. (let s : suc (prefix_len p xs) ≡ 1 + prefix_len p xs = omega arith in
          subst (λ (n : ℕ). list_all p (take n (x ∷ xs)) ≡ true) s (rw e (prefix_all p xs)))
      | false ↦ λ e. refl
    ]) refl

pub prefix_le : (p : ℕ → Bool) (xs : List ℕ) → prefix_len p xs ≤ length xs
prefix_le p [] = omega arith
prefix_le p (x ∷ xs) = cond_both (p x) (1 + prefix_len p xs) 0 (λ n. n ≤ suc (length xs)) (λ _. omega (arith, prefix_le p xs)) (λ _. omega arith)

-- what the first byte says
abbrev pub StartIs : Start → ℕ → Type 0
StartIs starts.Blank b = is_blank b ≡ true
StartIs starts.Comment b = b ≡ 35
StartIs starts.Letter b = is_letter b ≡ true
StartIs starts.Underscore b = b ≡ 95
StartIs starts.Digit b = is_digit b ≡ true
StartIs starts.Quote b = b ≡ 34
StartIs starts.Other b = b ≢ 34

pub start_is : (b : ℕ) → StartIs (start_of b) b
start_is b =
    cond_both (is_blank b) starts.Blank _ (λ s. StartIs s b) (λ e. e) (λ _.
    cond_both (b == 35) starts.Comment _ (λ s. StartIs s b) (λ e. eqb-true b 35 e) (λ _.
    cond_both (is_letter b) starts.Letter _ (λ s. StartIs s b) (λ e. e) (λ _.
    cond_both (b == 95) starts.Underscore _ (λ s. StartIs s b) (λ e. eqb-true b 95 e) (λ _.
    cond_both (is_digit b) starts.Digit _ (λ s. StartIs s b) (λ e. e) (λ _.
    cond_both (b == 34) starts.Quote starts.Other (λ s. StartIs s b) (λ e. eqb-true b 34 e) (λ e. eqb-false b 34 e))))))

pub start_blank : (b : ℕ) → is_blank b ≡ true → start_of b ≡ starts.Blank
start_blank b e = rw e refl

pub start_letter : (b : ℕ) → is_letter b ≡ true → start_of b ≡ starts.Letter
start_letter b e =
    let blank : is_blank b ≡ false = grind (arith, nat_tests) in
    let hash : b == 35 ≡ false = grind (arith, nat_tests) in
    rw (blank, hash, e) refl

pub start_digit : (b : ℕ) → is_digit b ≡ true → start_of b ≡ starts.Digit
start_digit b e =
    let blank : is_blank b ≡ false = grind (arith, nat_tests) in
    let hash : b == 35 ≡ false = grind (arith, nat_tests) in
    let letter : is_letter b ≡ false = grind (arith, nat_tests) in
    let line : b == 95 ≡ false = grind (arith, nat_tests) in
    rw (blank, hash, letter, line, e) refl

pub next_at : (b : ℕ) (bytes : List ℕ) (s : Start) → start_of b ≡ s → next (b ∷ bytes) ≡ next_by s b bytes
unfolding next
next_at b bytes s e = ap (λ x. next_by x b bytes) e

-- the first n bytes are the piece
pub record Stands (bytes : List ℕ) (p : Piece) (n : ℕ) : Type 0 where
  pub within : n ≤ length bytes
  pub is : IsPiece p (take n bytes)

stands_from : (bytes : List ℕ) (q p : Piece) (m n : ℕ) → piece q m ≡ piece p n → Stands bytes q m → Stands bytes p n
stands_from bytes q p m n e s =
    let same : q ≡ p = cc in let long : m ≡ n = cc in
    subst (λ (x : Piece). Stands bytes x n) same (subst (λ (x : ℕ). Stands bytes q x) long s)

word_spells : (w : List ℕ) → is_word w ≡ true → Spells (word_token w (keyword_of w)) w
word_spells w is =
    (elim (keyword_of w) as (λ o. keyword_of w ≡ o → Spells (word_token w o) w) [
      | None ↦ λ e. (refl, name_from w is e)
      | Some k ↦ λ e. sym (keyword_is w k e)
    ]) refl

closed_text : (inner rest : List ℕ) → take (length inner + 2) (34 ∷ (inner ++ 34 ∷ rest)) ≡ 34 ∷ (inner ++ 34 ∷ [])
closed_text inner rest =
    let parts : 34 ∷ (inner ++ 34 ∷ rest) ≡ (34 ∷ (inner ++ 34 ∷ [])) ++ rest = ap (λ x. 34 ∷ x) (sym (append_assoc inner (34 ∷ []) rest)) in
    ap (take (length inner + 2)) parts ∙ take_at (34 ∷ (inner ++ 34 ∷ [])) rest (length inner + 2) (simp length-append (omega arith))

closed_stands : (inner rest : List ℕ) (p : Piece) (n : ℕ) → IsBody inner → body_next inner (bad_escape 0 false inner) ≡ piece p n → Stands (34 ∷ (inner ++ 34 ∷ rest)) p n
closed_stands inner rest p n body e =
    (elim (bad_escape 0 false inner) as (λ o. bad_escape 0 false inner ≡ o → body_next inner o ≡ piece p n → Stands (34 ∷ (inner ++ 34 ∷ rest)) p n) [
      | Some k ↦ λ is f. cc
      | None ↦ λ is f. stands_from (34 ∷ (inner ++ 34 ∷ rest)) (token (text (unescaped false inner))) p (length inner + 2) n f
          (record { within = simp length-append (omega arith); is = (inner, closed_text inner rest, quotes_from 0 inner body is) })
    ]) refl e

text_stands : (bytes : List ℕ) (p : Piece) (n : ℕ) → text_next bytes ≡ piece p n → Stands (34 ∷ bytes) p n
text_stands bytes p n e =
    (elim (text_len 0 false bytes) as (λ o. text_len 0 false bytes ≡ o → closed_next bytes o ≡ piece p n → Stands (34 ∷ bytes) p n) [
      | None ↦ λ is f. cc
      | Some m ↦ λ is f.
          (let c = text_len_closes 0 false bytes m is in
          let front : take m bytes ≡ c.inner = ap (take m) c.is ∙ take_at c.inner (34 ∷ c.rest) m (omega (arith, c.at)) in
          let g : body_next c.inner (bad_escape 0 false c.inner) ≡ piece p n = rw front at f in
          subst (λ (x : List ℕ). Stands (34 ∷ x) p n) (sym c.is) (closed_stands c.inner c.rest p n c.body g))
    ]) refl e

symbol_stands_at : (bytes : List ℕ) (p : Piece) (n : ℕ) → symbol_next (symbol_of bytes) ≡ piece p n → Stands bytes p n
symbol_stands_at bytes p n e =
    (elim (symbol_of bytes) as (λ o. symbol_of bytes ≡ o → symbol_next o ≡ piece p n → Stands bytes p n) [
      | None ↦ λ is f. cc
      | Some s ↦ λ is f.
          (let stands = symbol_stands bytes s is in
          stands_from bytes (token (symbol s)) p (length (symbol_bytes s)) n f
          (record { within = (let h = ap length stands in omega (arith, length-take (length (symbol_bytes s)) bytes)); is = sym stands }))
    ]) refl e

some_digit : (bytes : List ℕ) → begins_with_digit bytes ≡ true → 0 < prefix_len is_digit bytes
some_digit [] e = cc
some_digit (b ∷ bytes) e = rw e (omega arith)

minus_stands : (b : ℕ) (bytes : List ℕ) (p : Piece) (n : ℕ) → (b == 45 && begins_with_digit bytes) ≡ true → minus_next (prefix_len is_digit bytes) bytes ≡ piece p n → Stands (b ∷ bytes) p n
minus_stands b bytes p n is e =
    let h = and_parts (b == 45) (begins_with_digit bytes) is in
    let m = prefix_len is_digit bytes in
    let digits : IsDigits (take m bytes) = record { some = omega (arith, some_digit bytes h.1, length-prefix_len is_digit bytes); all = prefix_all is_digit bytes } in
    stands_from (b ∷ bytes) _ p (suc m) n e (record {
      within = omega (arith, prefix_le is_digit bytes);
      is = subst (λ (x : ℕ). SpellsNumber (neg_ℤ (pos (digits_value 10 (take m bytes)))) (x ∷ take m bytes)) (sym (eqb-true b 45 h.0)) (negative digits);
    })

stands_by : (s : Start) (b : ℕ) (bytes : List ℕ) (p : Piece) (n : ℕ) → StartIs s b → next_by s b bytes ≡ piece p n → Stands (b ∷ bytes) p n
stands_by starts.Blank b bytes p n h e = stands_from (b ∷ bytes) gap p 1 n e (record { within = omega arith; is = blank h })
stands_by starts.Comment b bytes p n h e = stands_from (b ∷ bytes) gap p (suc (prefix_len is_in_line bytes)) n e (record {
  within = omega (arith, prefix_le is_in_line bytes);
  is = subst (λ (x : ℕ). IsGap (x ∷ take (prefix_len is_in_line bytes) bytes)) (sym h) (comment (prefix_all is_in_line bytes));
})
stands_by starts.Letter b bytes p n h e =
    let m = prefix_len is_word_byte bytes in
    stands_from (b ∷ bytes) _ p (suc m) n e (record {
      within = omega (arith, prefix_le is_word_byte bytes);
      is = word_spells (b ∷ take m bytes) (rw (h, prefix_all is_word_byte bytes) refl);
    })
stands_by starts.Underscore b bytes p n h e = stands_from (b ∷ bytes) (token (keyword Underscore)) p 1 n e (record { within = omega arith; is = ap (λ x. x ∷ []) h })
stands_by starts.Digit b bytes p n h e =
    let m = prefix_len is_digit bytes in
    stands_from (b ∷ bytes) _ p (suc m) n e (record {
      within = omega (arith, prefix_le is_digit bytes);
      is = unsigned (record { some = omega arith; all = rw (h, prefix_all is_digit bytes) refl });
    })
stands_by starts.Quote b bytes p n h e = subst (λ (x : ℕ). Stands (x ∷ bytes) p n) (sym h) (text_stands bytes p n e)
stands_by starts.Other b bytes p n h e =
    (elim (b == 45 && begins_with_digit bytes) as (λ t. (b == 45 && begins_with_digit bytes) ≡ t → cond t (minus_next (prefix_len is_digit bytes) bytes) (symbol_next (symbol_of (b ∷ bytes))) ≡ piece p n → Stands (b ∷ bytes) p n) [
      | true ↦ λ is f. minus_stands b bytes p n is f
      | false ↦ λ is f. symbol_stands_at (b ∷ bytes) p n f
    ]) refl e

pub next_stands : (bytes : List ℕ) (p : Piece) (n : ℕ) → next bytes ≡ piece p n → Stands bytes p n
unfolding next
next_stands [] p n e = cc
next_stands (b ∷ bytes) p n e = stands_by (start_of b) b bytes p n (start_is b) e

-- how long the piece is that bytes begin with
abbrev pub reach : NextPiece → ℕ
reach (piece p n) = n
reach (fail f k) = 0

gap_reaches : (w r : List ℕ) → IsGap w → length w ≤ reach (next (w ++ r))
gap_reaches w r (blank {b = b} h) = subst (λ (x : NextPiece). 1 ≤ reach x) (sym (next_at b r starts.Blank (start_blank b h))) (omega arith)
gap_reaches w r (comment {line = line} h) =
    subst (λ (x : NextPiece). suc (length line) ≤ reach x) (sym (next_at 35 (line ++ r) starts.Comment refl)) (omega (arith, prefix_reaches is_in_line line r h))

gap_exact : (w : List ℕ) → IsGap w → next w ≡ piece gap (length w)
gap_exact w (blank {b = b} h) = next_at b [] starts.Blank (start_blank b h)
gap_exact w (comment {line = line} h) = next_at 35 line starts.Comment refl ∙ ap (λ n. piece gap (suc n)) (prefix_whole is_in_line line h)

word_reaches : (w r : List ℕ) → is_word w ≡ true → length w ≤ reach (next (w ++ r))
word_reaches [] r e = cc
word_reaches (b ∷ tail) r e =
    let h = and_parts (is_letter b) (list_all is_word_byte tail) e in
    subst (λ (x : NextPiece). suc (length tail) ≤ reach x) (sym (next_at b (tail ++ r) starts.Letter (start_letter b h.0))) (omega (arith, prefix_reaches is_word_byte tail r h.1))

word_exact : (w : List ℕ) → is_word w ≡ true → next w ≡ piece (token (word_token w (keyword_of w))) (length w)
word_exact [] e = cc
word_exact (b ∷ tail) e =
    let h = and_parts (is_letter b) (list_all is_word_byte tail) e in
    let whole : take (length tail) tail ≡ tail = take_all (length tail) tail (omega arith) in
    next_at b tail starts.Letter (start_letter b h.0) ∙ ap (λ n. word_next (suc n) (b ∷ tail)) (prefix_whole is_word_byte tail h.1)
    ∙ ap (λ x. piece (token (word_token (b ∷ x) (keyword_of (b ∷ x)))) (suc (length tail))) whole

pub low_line_next : (r : List ℕ) → next (95 ∷ r) ≡ piece (token (keyword Underscore)) 1
low_line_next r = next_at 95 r starts.Underscore refl

unsigned_reaches : (ds r : List ℕ) → IsDigits ds → length ds ≤ reach (next (ds ++ r))
unsigned_reaches [] r d = omega arith
unsigned_reaches (x ∷ ds) r d =
    let h = and_parts (is_digit x) (list_all is_digit ds) d.all in
    subst (λ (y : NextPiece). suc (length ds) ≤ reach y) (sym (next_at x (ds ++ r) starts.Digit (start_digit x h.0))) (omega (arith, prefix_reaches is_digit ds r h.1))

pub minus_next_is : (x : ℕ) (rest : List ℕ) → is_digit x ≡ true → next (45 ∷ x ∷ rest) ≡ minus_next (prefix_len is_digit (x ∷ rest)) (x ∷ rest)
minus_next_is x rest e =
    next_at 45 (x ∷ rest) starts.Other refl ∙ ap (λ t. cond t (minus_next (prefix_len is_digit (x ∷ rest)) (x ∷ rest)) (symbol_next (symbol_of (45 ∷ x ∷ rest)))) e

negative_reaches : (ds r : List ℕ) → IsDigits ds → suc (length ds) ≤ reach (next (45 ∷ (ds ++ r)))
negative_reaches [] r d = absurd (omega (arith, d.some))
negative_reaches (x ∷ ds) r d =
    let h = and_parts (is_digit x) (list_all is_digit ds) d.all in
    subst (λ (y : NextPiece). suc (suc (length ds)) ≤ reach y) (sym (minus_next_is x (ds ++ r) h.0)) (omega (arith, prefix_reaches is_digit (x ∷ ds) r d.all))

number_reaches : (z : ℤ) (w r : List ℕ) → SpellsNumber z w → length w ≤ reach (next (w ++ r))
number_reaches z w r (unsigned {digits = digits} d) = unsigned_reaches digits r d
number_reaches z w r (negative {digits = digits} d) = negative_reaches digits r d

unsigned_exact : (ds : List ℕ) → IsDigits ds → next ds ≡ piece (token (number (pos (digits_value 10 ds)))) (length ds)
unsigned_exact [] d = absurd (omega (arith, d.some))
unsigned_exact (x ∷ ds) d =
    let h = and_parts (is_digit x) (list_all is_digit ds) d.all in
    let whole : take (length ds) ds ≡ ds = take_all (length ds) ds (omega arith) in
    next_at x ds starts.Digit (start_digit x h.0) ∙ ap (λ n. digits_next (suc n) (x ∷ ds)) (prefix_whole is_digit ds h.1)
    ∙ ap (λ y. piece (token (number (pos (digits_value 10 (x ∷ y))))) (suc (length ds))) whole

negative_exact : (ds : List ℕ) → IsDigits ds → next (45 ∷ ds) ≡ piece (token (number (neg_ℤ (pos (digits_value 10 ds))))) (suc (length ds))
negative_exact [] d = absurd (omega (arith, d.some))
negative_exact (x ∷ ds) d =
    let h = and_parts (is_digit x) (list_all is_digit ds) d.all in
    let whole : take (length (x ∷ ds)) (x ∷ ds) ≡ x ∷ ds = take_all (length (x ∷ ds)) (x ∷ ds) (omega arith) in
    minus_next_is x ds h.0 ∙ ap (λ n. minus_next n (x ∷ ds)) (prefix_whole is_digit (x ∷ ds) d.all)
    ∙ ap (λ y. piece (token (number (neg_ℤ (pos (digits_value 10 y))))) (suc (suc (length ds)))) whole

number_exact : (z : ℤ) (w : List ℕ) → SpellsNumber z w → next w ≡ piece (token (number z)) (length w)
number_exact z w (unsigned {digits = digits} d) = unsigned_exact digits d
number_exact z w (negative {digits = digits} d) = negative_exact digits d

pub text_next_is : (chars inner r : List ℕ) → Quotes chars inner → text_next (inner ++ 34 ∷ r) ≡ piece (token (text chars)) (length inner + 2)
text_next_is chars inner r q =
    let front : take (length inner) (inner ++ 34 ∷ r) ≡ inner = take_at inner (34 ∷ r) (length inner) refl in
    ap (closed_next (inner ++ 34 ∷ r)) (text_len_body 0 inner r (quotes_body chars inner q) ∙ ap Some (omega arith))
    ∙ ap (λ x. body_next x (bad_escape 0 false x)) front
    ∙ ap (body_next inner) (quotes_good 0 chars inner q)
    ∙ ap (λ x. piece (token (text x)) (length inner + 2)) (quotes_unescaped chars inner q)

text_reaches : (chars inner r : List ℕ) → Quotes chars inner → length inner + 2 ≤ reach (next ((34 ∷ (inner ++ 34 ∷ [])) ++ r))
text_reaches chars inner r q =
    subst (λ (x : NextPiece). length inner + 2 ≤ reach x) (sym (next_at 34 ((inner ++ 34 ∷ []) ++ r) starts.Quote refl ∙ ap text_next (append_assoc inner (34 ∷ []) r) ∙ text_next_is chars inner r q)) (omega arith)

text_exact : (chars inner : List ℕ) → Quotes chars inner → next (34 ∷ (inner ++ 34 ∷ [])) ≡ piece (token (text chars)) (length (34 ∷ (inner ++ 34 ∷ [])))
text_exact chars inner q =
    next_at 34 (inner ++ 34 ∷ []) starts.Quote refl ∙ text_next_is chars inner [] q ∙ ap (piece (token (text chars))) (simp length-append (omega arith))

pub other_start : (b : ℕ) → is_other (start_of b) ≡ true → start_of b ≡ starts.Other
other_start b e =
    (elim (start_of b) as (λ s. is_other s ≡ true → s ≡ starts.Other)
    [ starts.Blank ↦ λ h. cc | starts.Comment ↦ λ h. cc | starts.Letter ↦ λ h. cc | starts.Underscore ↦ λ h. cc | starts.Digit ↦ λ h. cc | starts.Quote ↦ λ h. cc | starts.Other ↦ λ h. refl ]) e

-- a symbol's second byte is no digit
other_reaches : (s : Symbol) (c : ℕ) (cs r : List ℕ) → c ∷ cs ≡ symbol_bytes s → begins_with_digit cs ≡ false → length (c ∷ cs) ≤ reach (other_next c (cs ++ r))
other_reaches s c cs r e d =
    (elim (c == 45 && begins_with_digit (cs ++ r)) as (λ t. (c == 45 && begins_with_digit (cs ++ r)) ≡ t → suc (length cs) ≤ reach (cond t (minus_next (prefix_len is_digit (cs ++ r)) (cs ++ r)) (symbol_next (symbol_of (c ∷ (cs ++ r)))))) [
      | true ↦ λ is. single cs d (and_parts (c == 45) (begins_with_digit (cs ++ r)) is).1
      | false ↦ λ is.
          (let l : Longer (symbol_of ((c ∷ cs) ++ r)) s = subst (λ (x : List ℕ). Longer (symbol_of (x ++ r)) s) (sym e) (symbol_longest s r) in
          let long : length (c ∷ cs) ≤ length (symbol_bytes l.other) = subst (λ (x : List ℕ). length x ≤ length (symbol_bytes l.other)) (sym e) l.longer in
          subst (λ (o : Option Symbol). suc (length cs) ≤ reach (symbol_next o)) (sym l.is) long)
    ]) refl
  where
    single : (ds : List ℕ) → begins_with_digit ds ≡ false → begins_with_digit (ds ++ r) ≡ true → suc (length ds) ≤ suc (prefix_len is_digit (ds ++ r))
    single [] f g = omega arith
    single (x ∷ ds) f g = cc

symbol_reaches : (s : Symbol) (w r : List ℕ) → w ≡ symbol_bytes s → begins_well w ≡ true → length w ≤ reach (next (w ++ r))
symbol_reaches s [] r e b = cc
symbol_reaches s (c ∷ cs) r e b =
    let h = and_parts (is_other (start_of c)) (not (begins_with_digit cs)) b in
    subst (λ (x : NextPiece). suc (length cs) ≤ reach x) (sym (next_at c (cs ++ r) starts.Other (other_start c h.0))) (other_reaches s c cs r e (not-true (begins_with_digit cs) h.1))

symbol_exact : (s : Symbol) (w : List ℕ) → w ≡ symbol_bytes s → begins_well w ≡ true → next w ≡ piece (token (symbol s)) (length w)
symbol_exact s [] e b = cc
symbol_exact s (c ∷ cs) e b =
    let h = and_parts (is_other (start_of c)) (not (begins_with_digit cs)) b in
    next_at c cs starts.Other (other_start c h.0)
    ∙ ap (λ t. cond t (minus_next (prefix_len is_digit cs) cs) (symbol_next (symbol_of (c ∷ cs)))) (and_right (c == 45) (begins_with_digit cs) (not-true (begins_with_digit cs) h.1))
    ∙ ap symbol_next (ap symbol_of e ∙ symbol_again s)
    ∙ ap (piece (token (symbol s))) (sym (ap length e))

-- no piece is longer than what is scanned
pub reaches : (q : Piece) (w r : List ℕ) → IsPiece q w → length w ≤ reach (next (w ++ r))
reaches gap w r i = gap_reaches w r i
reaches (token (keyword k)) w r i =
    elim (keyword_word k) [
      | inl is ↦ word_reaches w r (ap is_word i ∙ is)
      | inr is ↦ subst (λ (x : List ℕ). length x ≤ reach (next (x ++ r))) (sym (i ∙ is)) (subst (λ (x : NextPiece). 1 ≤ reach x) (sym (low_line_next r)) (omega arith))
    ]
reaches (token (name n)) w r i = word_reaches w r (ap is_word i.0 ∙ i.1.word)
reaches (token (number z)) w r i = number_reaches z w r i
reaches (token (text chars)) w r i =
    subst (λ (x : List ℕ). length x ≤ reach (next (x ++ r))) (sym i.1) (simp length-append (omega (arith, text_reaches chars i.0 r i.2)))
reaches (token (symbol s)) w r i = symbol_reaches s w r i (ap begins_well i ∙ symbol_begins s)

-- a piece alone is scanned as it is
pub exact : (q : Piece) (w : List ℕ) → IsPiece q w → next w ≡ piece q (length w)
exact gap w i = gap_exact w i
exact (token (keyword k)) w i =
    elim (keyword_word k) [
      | inl is ↦ word_exact w (ap is_word i ∙ is) ∙ ap (λ o. piece (token (word_token w o)) (length w)) (ap keyword_of i ∙ keyword_again k)
      | inr is ↦ (let same : k ≡ Underscore = (let f = keyword_again k in let g : keyword_of (keyword_bytes k) ≡ Some Underscore = ap keyword_of is ∙ keyword_again Underscore in cc) in
          subst (λ (x : List ℕ). next x ≡ piece (token (keyword k)) (length x)) (sym (i ∙ is)) (low_line_next [] ∙ ap (λ (x : Keyword). piece (token (keyword x)) 1) (sym same)))
    ]
exact (token (name n)) w i =
    word_exact w (ap is_word i.0 ∙ i.1.word) ∙ ap (λ o. piece (token (word_token w o)) (length w)) (ap keyword_of i.0 ∙ name_other n i.1)
    ∙ ap (λ x. piece (token (name x)) (length w)) i.0
exact (token (number z)) w i = number_exact z w i
exact (token (text chars)) w i = subst (λ (x : List ℕ). next x ≡ piece (token (text chars)) (length x)) (sym i.1) (text_exact chars i.0 i.2)
exact (token (symbol s)) w i = symbol_exact s w i (ap begins_well i ∙ symbol_begins s)

-- a piece has a byte
pub piece_some : (q : Piece) (w : List ℕ) → IsPiece q w → 0 < length w
unfolding next
piece_some q [] i = (let e : next [] ≡ piece q 0 = exact q [] i in cc)
piece_some q (b ∷ w) i = omega arith

-- equal bytes are equal pieces
pub piece_same : (p q : Piece) (w : List ℕ) → IsPiece p w → IsPiece q w → p ≡ q
piece_same p q w i j = let e = exact p w i in let f = exact q w j in cc

pub longest_from_next : (bytes : List ℕ) (p : Piece) (n : ℕ) → next bytes ≡ piece p n → IsLongest bytes p n
longest_from_next bytes p n e =
    let s = next_stands bytes p n e in
    record {
      within = s.within;
      is = s.is;
      longest = λ q m l i.
          (let far = reaches q (take m bytes) (drop m bytes) i in
          let at : reach (next (take m bytes ++ drop m bytes)) ≡ n = ap (λ x. reach (next x)) (take-append-drop m bytes) ∙ ap reach e in
          omega (arith, length-take m bytes));
    }

pub next_from_longest : (bytes : List ℕ) (p : Piece) (n : ℕ) → IsLongest bytes p n → next bytes ≡ piece p n
next_from_longest bytes p n l =
    (elim (next bytes) as (λ x. next bytes ≡ x → next bytes ≡ piece p n) [
      | piece q m ↦ λ e.
          (let k = longest_from_next bytes q m e in
          let long : m ≡ n = omega (arith, k.longest p n l.within l.is, l.longest q m k.within k.is) in
          let same : q ≡ p = piece_same q p (take n bytes) (subst (λ (x : ℕ). IsPiece q (take x bytes)) long k.is) l.is in
          cc)
      | fail f k ↦ λ e.
          (let far = reaches p (take n bytes) (drop n bytes) l.is in
          let at : reach (next (take n bytes ++ drop n bytes)) ≡ 0 = ap (λ x. reach (next x)) (take-append-drop n bytes) ∙ ap reach e in
          let some = piece_some p (take n bytes) l.is in
          absurd (omega arith))
    ]) refl
