-- Which bytes end the token before them, for texts that are written.
use Rattle.std.proofs.Common.{◌≡◌, ℕ, zero, suc, ◌≤◌, ◌<◌, ℤ, pos, neg_ℤ, List, [], ◌∷◌, ◌++◌, length, take, get_or, Bool, true, false, not, ◌&&◌, ◌||◌, ◌==◌, cond, Some, refl, sym, ◌∙◌, ap, subst, arith, ◌⊎◌, inl, inr, append_assoc, length-append}
use Rattle.std.specs.List.{list_all, prefix_len}
use Rattle.std.specs.Str.Parse.{digits_value}
use Rattle.std.proofs.lemmas.Bool.{and_parts, and_left, and_right, or_cases, not-true, eqb-true, cases_lt}
use Rattle.std.proofs.lemmas.Bool.Decides.{nat_tests}
use Rattle.std.proofs.lemmas.List.{take_at, get_or_at, get_or_append_left, get_or-take, length-take}
use Rattle.sf_lex.specs.declared.word.Keyword.{Keyword}
use Rattle.sf_lex.specs.declared.word.Keyword.TheVariants.{Underscore}
use Rattle.sf_lex.specs.declared.symbol.Symbol.{Symbol}
use Rattle.sf_lex.specs.declared.symbol.TheConstants.{SYMBOLS}
use Rattle.sf_lex.specs.declared.piece.Start.TheVariants as starts
use Rattle.sf_lex.specs.Words.{is_digit, is_letter, is_word_byte, is_word, keyword_bytes}
use Rattle.sf_lex.specs.Symbols.{symbol_bytes}
use Rattle.sf_lex.specs.Tokens.{Tok, keyword, name, number, text, symbol}
use Rattle.sf_lex.specs.Cutting.{token, Spells, SpellsNumber, unsigned, negative, IsDigits, Quotes, gap, is_blank, IsLongest}
use Rattle.sf_lex.specs.Scanning.{piece, next, start_of, word_next, word_token, keyword_of, digits_next, minus_next, text_next, symbol_next, symbol_of, begins_with, begins_with_digit}
use Rattle.sf_lex.proofs.Words.{keyword_again, name_other}
use Rattle.sf_lex.proofs.Tables.{keyword_word, symbol_begins, symbol_again, symbol_longest, symbol_stands, found_has, is_other, begins_well}
use Rattle.sf_lex.proofs.Pieces.{next_at, start_blank, start_letter, start_digit, minus_next_is, low_line_next, text_next_is, other_start, longest_from_next}

-- a byte that stands in no word and no number, and in a symbol at its front alone
abbrev pub is_break : ℕ → Bool
is_break b = is_blank b || (b == 44 || (b == 59 || (b == 58 || (b == 41 || (b == 93 || b == 40)))))

-- the bytes do not begin with one that passes
abbrev Stops : (ℕ → Bool) → List ℕ → Type 0
Stops p [] = Unit {0}
Stops p (b ∷ rest) = p b ≡ false

-- the bytes begin with one that passes, or not at all
abbrev BeginsWith : (ℕ → Bool) → List ℕ → Type 0
BeginsWith p [] = Unit {0}
BeginsWith p (b ∷ rest) = p b ≡ true

abbrev pub is_opening : ℕ → Bool
is_opening b = b == 40 || b == 91

-- these bytes may follow the token directly
abbrev pub Ends : Tok → List ℕ → Type 0
Ends (keyword k) rest = Stops is_word_byte rest
Ends (name n) rest = Stops is_word_byte rest
Ends (number z) rest = Stops is_digit rest
Ends (text chars) rest = Unit {0}
Ends (symbol s) rest = BeginsWith is_break rest ⊎ (is_opening (get_or (symbol_bytes s) 0 0) ≡ true)

prefix_stops : (p : ℕ → Bool) (w rest : List ℕ) → list_all p w ≡ true → Stops p rest → prefix_len p (w ++ rest) ≡ length w
prefix_stops p [] [] a s = refl
prefix_stops p [] (b ∷ rest) a s = rw s refl
prefix_stops p (x ∷ w) rest a s = let h = and_parts (p x) (list_all p w) a in rw h.0 (omega (arith, prefix_stops p w rest h.1 s))

word_before : (w rest : List ℕ) → is_word w ≡ true → Stops is_word_byte rest → next (w ++ rest) ≡ piece (token (word_token w (keyword_of w))) (length w)
word_before [] rest e s = cc
word_before (b ∷ tail) rest e s =
    let h = and_parts (is_letter b) (list_all is_word_byte tail) e in
    next_at b (tail ++ rest) starts.Letter (start_letter b h.0) ∙ ap (λ n. word_next (suc n) (b ∷ (tail ++ rest))) (prefix_stops is_word_byte tail rest h.1 s)
    ∙ ap (λ x. piece (token (word_token (b ∷ x) (keyword_of (b ∷ x)))) (suc (length tail))) (take_at tail rest (length tail) refl)

unsigned_before : (ds rest : List ℕ) → IsDigits ds → Stops is_digit rest → next (ds ++ rest) ≡ piece (token (number (pos (digits_value 10 ds)))) (length ds)
unsigned_before [] rest d s = absurd (omega (arith, d.some))
unsigned_before (x ∷ ds) rest d s =
    let h = and_parts (is_digit x) (list_all is_digit ds) d.all in
    next_at x (ds ++ rest) starts.Digit (start_digit x h.0) ∙ ap (λ n. digits_next (suc n) (x ∷ (ds ++ rest))) (prefix_stops is_digit ds rest h.1 s)
    ∙ ap (λ y. piece (token (number (pos (digits_value 10 (x ∷ y))))) (suc (length ds))) (take_at ds rest (length ds) refl)

negative_before : (ds rest : List ℕ) → IsDigits ds → Stops is_digit rest → next (45 ∷ (ds ++ rest)) ≡ piece (token (number (neg_ℤ (pos (digits_value 10 ds))))) (suc (length ds))
negative_before [] rest d s = absurd (omega (arith, d.some))
negative_before (x ∷ ds) rest d s =
    let h = and_parts (is_digit x) (list_all is_digit ds) d.all in
    minus_next_is x (ds ++ rest) h.0 ∙ ap (λ n. minus_next n (x ∷ (ds ++ rest))) (prefix_stops is_digit (x ∷ ds) rest d.all s)
    ∙ ap (λ y. piece (token (number (neg_ℤ (pos (digits_value 10 y))))) (suc (suc (length ds)))) (take_at (x ∷ ds) rest (length (x ∷ ds)) refl)

number_before : (z : ℤ) (w rest : List ℕ) → SpellsNumber z w → Stops is_digit rest → next (w ++ rest) ≡ piece (token (number z)) (length w)
number_before z w rest (unsigned {digits = digits} d) s = unsigned_before digits rest d s
number_before z w rest (negative {digits = digits} d) s = negative_before digits rest d s

text_before : (chars inner rest : List ℕ) → Quotes chars inner → next ((34 ∷ (inner ++ 34 ∷ [])) ++ rest) ≡ piece (token (text chars)) (length (34 ∷ (inner ++ 34 ∷ [])))
text_before chars inner rest q =
    next_at 34 ((inner ++ 34 ∷ []) ++ rest) starts.Quote refl ∙ ap text_next (append_assoc inner (34 ∷ []) rest) ∙ text_next_is chars inner rest q
    ∙ ap (piece (token (text chars))) (simp length-append (omega arith))

-- no symbol goes on with a break, and no other begins with an opening bracket
abbrev goes_well : List ℕ → Bool
goes_well [] = false
goes_well (b ∷ bytes) = list_all (λ c. not (is_break c)) bytes && (not (is_opening b) || length bytes == 0)

symbol_goes : (s : Symbol) → goes_well (symbol_bytes s) ≡ true
unfolding symbol_of
symbol_goes s = found_has (λ t. goes_well (symbol_bytes t)) (begins_with (symbol_bytes s)) SYMBOLS s refl (symbol_again s)

all_at : (p : ℕ → Bool) (xs : List ℕ) (i : ℕ) → list_all p xs ≡ true → i < length xs → p (get_or xs i 0) ≡ true
all_at p [] i a l = absurd (omega arith)
all_at p (x ∷ xs) zero a l = (and_parts (p x) (list_all p xs) a).0
all_at p (x ∷ xs) (suc i) a l = all_at p xs i (and_parts (p x) (list_all p xs) a).1 (omega arith)

-- a symbol that is as long as i, with a break there, or an opening bracket at its front, ends there
no_further : (w : List ℕ) (i : ℕ) → goes_well w ≡ true → 0 < i → (is_break (get_or w i 0) ≡ true) ⊎ (is_opening (get_or w 0 0) ≡ true) → length w ≤ i
no_further [] i g l e = cc
no_further (x ∷ xs) zero g l e = absurd (omega arith)
no_further (x ∷ xs) (suc i) g l (inl broken) =
    let h = and_parts (list_all (λ c. not (is_break c)) xs) (not (is_opening x) || length xs == 0) g in
    elim (cases_lt i (length xs)) [
      | inl inside ↦ (let whole = not-true (is_break (get_or xs i 0)) (all_at (λ c. not (is_break c)) xs i h.0 inside) in cc)
      | inr outside ↦ omega arith
    ]
no_further (x ∷ xs) (suc i) g l (inr opening) =
    let h = and_parts (list_all (λ c. not (is_break c)) xs) (not (is_opening x) || length xs == 0) g in
    elim (or_cases (not (is_opening x)) (length xs == 0) h.1) [
      | inl n ↦ (let closed = not-true (is_opening x) n in cc)
      | inr e ↦ (let none = eqb-true (length xs) 0 e in omega arith)
    ]

symbol_some : (s : Symbol) → 0 < length (symbol_bytes s)
symbol_some s = some (symbol_bytes s) (symbol_goes s)
  where
    some : (w : List ℕ) → goes_well w ≡ true → 0 < length w
    some [] g = cc
    some (x ∷ xs) g = omega arith

-- what stands behind a symbol, where a longer one would go on
goes_on : (s : Symbol) (rest w : List ℕ) → Ends (symbol s) rest → w ≡ take (length w) (symbol_bytes s ++ rest) → length (symbol_bytes s) < length w
    → (is_break (get_or w (length (symbol_bytes s)) 0) ≡ true) ⊎ (is_opening (get_or w 0 0) ≡ true)
goes_on s rest w (inr opening) e l =
    let first : get_or w 0 0 ≡ get_or (symbol_bytes s) 0 0 =
    ap (λ x. get_or x 0 0) e ∙ get_or-take (length w) (symbol_bytes s ++ rest) 0 0 (omega arith) ∙ get_or_append_left (symbol_bytes s) rest 0 0 (symbol_some s) in
    inr (ap is_opening first ∙ opening)
goes_on s [] w (inl broken) e l =
    let long = ap length e in
    absurd (omega (arith, length-take (length w) (symbol_bytes s ++ []), length-append (symbol_bytes s) []))
goes_on s (b ∷ rest) w (inl broken) e l =
    let next_byte : get_or w (length (symbol_bytes s)) 0 ≡ b =
    ap (λ x. get_or x (length (symbol_bytes s)) 0) e ∙ get_or-take (length w) (symbol_bytes s ++ b ∷ rest) (length (symbol_bytes s)) 0 l
    ∙ get_or_at (symbol_bytes s) b rest 0 (length (symbol_bytes s)) refl in
    inl (ap is_break next_byte ∙ broken)

symbol_found : (s : Symbol) (rest : List ℕ) → Ends (symbol s) rest → symbol_of (symbol_bytes s ++ rest) ≡ Some s
symbol_found s rest ends =
    let l = symbol_longest s rest in
    let stands = symbol_stands (symbol_bytes s ++ rest) l.other l.is in
    elim (cases_lt (length (symbol_bytes s)) (length (symbol_bytes l.other))) [
      | inl further ↦ absurd (let short = no_further (symbol_bytes l.other) (length (symbol_bytes s)) (symbol_goes l.other) (symbol_some s) (goes_on s rest (symbol_bytes l.other) ends stands further) in omega arith)
      | inr no_longer ↦
          (let long : length (symbol_bytes l.other) ≡ length (symbol_bytes s) = (let m = l.longer in omega arith) in
          let same : symbol_bytes l.other ≡ symbol_bytes s = stands ∙ ap (λ n. take n (symbol_bytes s ++ rest)) long ∙ take_at (symbol_bytes s) rest (length (symbol_bytes s)) refl in
          let e = symbol_again l.other in
          let f = symbol_again s in
          let g : symbol_of (symbol_bytes l.other) ≡ symbol_of (symbol_bytes s) = ap symbol_of same in
          l.is ∙ sym e ∙ g ∙ f)
    ]

-- no minus is read with the digits behind it
no_minus : (s : Symbol) (c : ℕ) (cs rest : List ℕ) → c ∷ cs ≡ symbol_bytes s → begins_with_digit cs ≡ false → Ends (symbol s) rest → (c == 45 && begins_with_digit (cs ++ rest)) ≡ false
no_minus s c (d ∷ cs) rest e h ends = and_right (c == 45) (is_digit d) h
no_minus s c [] [] e h ends = and_right (c == 45) false refl
no_minus s c [] (b ∷ rest) e h (inl broken) = and_right (c == 45) (is_digit b) (grind (arith, nat_tests))
no_minus s c [] (b ∷ rest) e h (inr opening) =
    let first : c ≡ get_or (symbol_bytes s) 0 0 = ap (λ x. get_or x 0 0) e in
    let opens : is_opening c ≡ true = ap is_opening first ∙ opening in
    and_left (c == 45) (is_digit b) (grind (arith, nat_tests))

symbol_before : (s : Symbol) (w rest : List ℕ) → w ≡ symbol_bytes s → begins_well w ≡ true → Ends (symbol s) rest → next (w ++ rest) ≡ piece (token (symbol s)) (length w)
symbol_before s [] rest e b ends = cc
symbol_before s (c ∷ cs) rest e b ends =
    let h = and_parts (is_other (start_of c)) (not (begins_with_digit cs)) b in
    next_at c (cs ++ rest) starts.Other (other_start c h.0)
    ∙ ap (λ t. cond t (minus_next (prefix_len is_digit (cs ++ rest)) (cs ++ rest)) (symbol_next (symbol_of (c ∷ (cs ++ rest))))) (no_minus s c cs rest e (not-true (begins_with_digit cs) h.1) ends)
    ∙ ap symbol_next (ap (λ x. symbol_of (x ++ rest)) e ∙ symbol_found s rest ends)
    ∙ ap (piece (token (symbol s))) (sym (ap length e))

-- a token in front of bytes that may follow it is scanned as it is
pub next_before : (t : Tok) (w rest : List ℕ) → Spells t w → Ends t rest → next (w ++ rest) ≡ piece (token t) (length w)
next_before (keyword k) w rest s ends =
    elim (keyword_word k) [
      | inl is ↦ word_before w rest (ap is_word s ∙ is) ends ∙ ap (λ o. piece (token (word_token w o)) (length w)) (ap keyword_of s ∙ keyword_again k)
      | inr is ↦ (let same : k ≡ Underscore = (let f = keyword_again k in let g : keyword_of (keyword_bytes k) ≡ Some Underscore = ap keyword_of is ∙ keyword_again Underscore in cc) in
          subst (λ (x : List ℕ). next (x ++ rest) ≡ piece (token (keyword k)) (length x)) (sym (s ∙ is)) (low_line_next rest ∙ ap (λ (x : Keyword). piece (token (keyword x)) 1) (sym same)))
    ]
next_before (name n) w rest s ends =
    word_before w rest (ap is_word s.0 ∙ s.1.word) ends ∙ ap (λ o. piece (token (word_token w o)) (length w)) (ap keyword_of s.0 ∙ name_other n s.1)
    ∙ ap (λ x. piece (token (name x)) (length w)) s.0
next_before (number z) w rest s ends = number_before z w rest s ends
next_before (text chars) w rest s ends = subst (λ (x : List ℕ). next (x ++ rest) ≡ piece (token (text chars)) (length x)) (sym s.1) (text_before chars s.0 rest s.2)
next_before (symbol s) w rest e ends = symbol_before s w rest e (ap begins_well e ∙ symbol_begins s) ends

-- so it is the longest piece there
pub longest_before : (t : Tok) (w rest : List ℕ) → Spells t w → Ends t rest → IsLongest (w ++ rest) (token t) (length w)
longest_before t w rest s ends = longest_from_next (w ++ rest) (token t) (length w) (next_before t w rest s ends)

-- a blank in front of anything
pub blank_before : (b : ℕ) (rest : List ℕ) → is_blank b ≡ true → IsLongest (b ∷ rest) gap 1
blank_before b rest e = longest_from_next (b ∷ rest) gap 1 (next_at b rest starts.Blank (start_blank b e))
