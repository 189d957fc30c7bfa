-- Reading the bytes of a text one by one.
use Rattle.std.proofs.Common.{◌≡◌, ℕ, zero, suc, ◌-◌, ◌≤◌, List, [], ◌∷◌, ◌++◌, length, take, drop, get_or, ◌<◌, Ok, Err, refl, sym, ap, subst, ◌∙◌, arith, append_assoc}
use Rattle.std.specs.Str.{IsUtf8}
use Rattle.sf_spelling.specs.Scan.{bad, Scanned, Point, between, within, more_of, stops, ends, skips, puts, moved, by_move, put_byte, chars_at, scanned_text}
use Rattle.sf_spelling.proofs.Readers.{Sound}
use Rattle.sf_decimal.proofs.Runs.{take_whole}
use Rattle.sf_spelling.proofs.Keys.{texts, texts_reader}

-- what is read, with bytes before it
abbrev pub put_all : List ℕ → Scanned (List ℕ) → Scanned (List ℕ)
put_all cs (Ok r) = Ok (cs ++ r.0, r.1)
put_all cs (Err e) = Err e

pub put_none : (o : Scanned (List ℕ)) → o ≡ put_all [] o
put_none (Ok r) = refl
put_none (Err e) = refl

put_more : (cs : List ℕ) (c : ℕ) (o : Scanned (List ℕ)) → put_all cs (put_byte c o) ≡ put_all (cs ++ c ∷ []) o
put_more cs c (Ok r) = ap (λ x. Ok (x, r.1)) (sym (append_assoc cs (c ∷ []) r.0))
put_more cs c (Err e) = refl

-- what the loop over a text's bytes keeps, of the bytes so far, the point and the bytes left
pub record Follows (bytes chars : List ℕ) (point : Point) (left : List ℕ) : Type 0 where
  pub is : chars_at between bytes ≡ put_all chars (chars_at point left)

pub follows_start : (bytes : List ℕ) → Follows bytes [] between bytes
follows_start bytes = record { is = put_none (chars_at between bytes) }

-- the bytes behind the first
abbrev behind_first : List ℕ → List ℕ
behind_first left = take (length left - 1) (drop 1 left)

step : (p : Point) (left : List ℕ) → 1 ≤ length left → chars_at p left ≡ by_move (moved p (get_or left 0 0)) (Err (bad left)) (Ok ([], behind_first left)) (λ q. chars_at q (behind_first left)) (λ c q. put_byte c (chars_at q (behind_first left)))
unfolding chars_at
step p [] h = absurd (omega arith)
step p (c ∷ rest) h =
    let len : suc (length rest) - 1 ≡ length rest = omega arith in
    let all : take (suc (length rest) - 1) rest ≡ rest = rw len (take_whole rest) in
    rw all refl

pub follows_stop : (bytes chars : List ℕ) (p : Point) (left : List ℕ) → 1 ≤ length left → moved p (get_or left 0 0) ≡ stops → Follows bytes chars p left → chars_at between bytes ≡ Err (bad left)
follows_stop bytes chars p left h e f = f.is ∙ ap (put_all chars) (step p left h ∙ ap (λ m. by_move m (Err (bad left)) (Ok ([], behind_first left)) (λ q. chars_at q (behind_first left)) (λ c q. put_byte c (chars_at q (behind_first left)))) e)

pub follows_end : (bytes chars : List ℕ) (p : Point) (left : List ℕ) → 1 ≤ length left → moved p (get_or left 0 0) ≡ ends → Follows bytes chars p left → chars_at between bytes ≡ Ok (chars, behind_first left)
follows_end bytes chars p left h e f = f.is ∙ ap (put_all chars) (step p left h ∙ ap (λ m. by_move m (Err (bad left)) (Ok ([], behind_first left)) (λ q. chars_at q (behind_first left)) (λ c q. put_byte c (chars_at q (behind_first left)))) e) ∙ ap (λ x. Ok (x, behind_first left)) (nil chars)
  where
    nil : (xs : List ℕ) → xs ++ [] ≡ xs
    nil [] = refl
    nil (x ∷ xs) = ap (λ ys. x ∷ ys) (nil xs)

pub follows_skip : (bytes chars : List ℕ) (p q : Point) (left : List ℕ) → 1 ≤ length left → moved p (get_or left 0 0) ≡ skips q → Follows bytes chars p left → Follows bytes chars q (behind_first left)
follows_skip bytes chars p q left h e f = record { is = f.is ∙ ap (put_all chars) (step p left h ∙ ap (λ m. by_move m (Err (bad left)) (Ok ([], behind_first left)) (λ q. chars_at q (behind_first left)) (λ c q. put_byte c (chars_at q (behind_first left)))) e) }

pub follows_put : (bytes chars : List ℕ) (p q : Point) (b : ℕ) (left : List ℕ) → 1 ≤ length left → moved p (get_or left 0 0) ≡ puts b q → Follows bytes chars p left → Follows bytes (chars ++ b ∷ []) q (behind_first left)
follows_put bytes chars p q b left h e f = record { is = f.is ∙ ap (put_all chars) (step p left h ∙ ap (λ m. by_move m (Err (bad left)) (Ok ([], behind_first left)) (λ q. chars_at q (behind_first left)) (λ c q. put_byte c (chars_at q (behind_first left)))) e) ∙ put_more chars b (chars_at q (behind_first left)) }

pub follows_none : (bytes chars : List ℕ) (p : Point) (left : List ℕ) → length left < 1 → Follows bytes chars p left → chars_at between bytes ≡ Err (bad [])
unfolding chars_at
follows_none bytes chars p [] h f = f.is
follows_none bytes chars p (c ∷ left) h f = absurd (omega arith)

-- what is read of a text is UTF-8
pub text_utf8 : (s : List ℕ) (v r : List ℕ) → scanned_text s ≡ Ok (v, r) → IsUtf8 v
text_utf8 s v r e = let w = subst (Sound texts s) e (texts_reader s).sound in w.fit

-- and so is what is read behind its opening quote
pub chars_utf8 : (s v r : List ℕ) → chars_at between s ≡ Ok (v, r) → IsUtf8 v
chars_utf8 s v r e = text_utf8 (34 ∷ s) v r e

-- more bytes of a character, where there are any
pub more_later : (n : ℕ) → 1 ≤ n → more_of n ≡ within 128 191 (n - 1)
more_later zero h = absurd (omega arith)
more_later (suc n) h = let same : suc n - 1 ≡ n = omega arith in rw same refl
