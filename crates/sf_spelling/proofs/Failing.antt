-- Steps that fail, and the code's readers of numbers.
use Rattle.std.proofs.Common.{◌≡◌, ℕ, suc, ◌-◌, ◌≤◌, ◌<◌, List, [], ◌∷◌, ◌++◌, ◌==◌, length, take, drop, get_or, Result, Ok, Err, true, refl, sym, ap, subst, ◌∙◌, arith}
use Rattle.std.specs.Prelude.{IsErrAnd, IfErr}
use Rattle.std.proofs.lemmas.Bool.Decides.{nat_tests}
use Rattle.sf_spelling.specs.declared.read.Failure.{Failure}
use Rattle.sf_spelling.specs.declared.read.Failure.TheVariants.{Bad, Wide, Again, Memory}
use Rattle.sf_spelling.specs.Scan.{Stop, ◌>>=◌, word_at, positive_at, scanned_integer, narrow}
use Rattle.sf_decimal.specs.Decimals.{signed}
use Rattle.sf_spelling.specs.Gives.{Fails, GivesRead}
use Rattle.sf_decimal.proofs.Runs.{take_whole}
use Rattle.sf_spelling.proofs.Integers.{PositiveSound, positive_sound}

-- behind a word is what follows it
pub word_front : (word rest : List ℕ) → word_at word (word ++ rest) ≡ Ok rest
word_front [] rest = refl
word_front (c ∷ cs) rest = rw (same_byte c) (word_front cs rest)
  where
    same_byte : (c : ℕ) → (c == c) ≡ true
    same_byte c = grind (arith, nat_tests)

-- what fails at the first step fails
pub fails_then : {X Y : Type 0} (e : Failure) (r : Result X Stop) (f : X → Result Y Stop) → Fails e r → Fails e (r >>= f)
fails_then (Bad n) r f h = (h.0, ap (λ x. x >>= f) h.1, h.2)
fails_then (Wide n) r f h = (h.0, ap (λ x. x >>= f) h.1, h.2)
fails_then (Again n) r f h = (h.0, ap (λ x. x >>= f) h.1, h.2)
fails_then Memory r f h = tt

-- and what fails after a step
pub goes_then : {X Y : Type 0} (e : Failure) (r : Result X Stop) (x : X) (f : X → Result Y Stop) → r ≡ Ok x → Fails e (f x) → Fails e (r >>= f)
goes_then e r x f is h = subst (λ r. Fails e (r >>= f)) (sym is) h

-- a reader that gives this failure on
pub fails_so : {X Y : Type 0} (view : X → Y) (e : Failure) (r : Result X Failure) (read : Result Y Stop) → IsErrAnd r (λ g. g ≡ e) → Fails e read → GivesRead view r read
fails_so view e (Ok x) read is h = absurd is
fails_so view e (Err g) read is h = subst (λ (g : Failure). Fails g read) (sym is) h

-- the same, where only the failure is spoken of
pub fails_on : {X Y : Type 0} (e : Failure) (r : Result X Failure) (read : Result Y Stop) → IsErrAnd r (λ g. g ≡ e) → Fails e read → IfErr r (λ g. Fails g read)
fails_on e (Ok x) read is h = absurd is
fails_on e (Err g) read is h = subst (λ (g : Failure). Fails g read) (sym is) h

positive_is : (s : List ℕ) (m : ℕ) (after : List ℕ) → positive_at s ≡ Ok (m, after) → 0 < m
positive_is s m after e = (subst (PositiveSound s) e (positive_sound s)).0

-- a minus and a number after it
pub minus_is : (s : List ℕ) (m : ℕ) (after : List ℕ) → 1 ≤ length s → get_or s 0 0 ≡ 45 → positive_at (take (length s - 1) (drop 1 s)) ≡ Ok (m, after)
    → (0 < m) × (scanned_integer s ≡ narrow s (signed true m) after)
minus_is [] m after h d e = absurd (omega arith)
minus_is (c ∷ rest) m after h d e =
    let len : suc (length rest) - 1 ≡ length rest = omega arith in
    let all : take (suc (length rest) - 1) rest ≡ rest = rw len (take_whole rest) in
    let e' : positive_at rest ≡ Ok (m, after) = ap positive_at (sym all) ∙ e in
    (positive_is rest m after e', subst (λ x. scanned_integer (x ∷ rest) ≡ narrow (x ∷ rest) (signed true m) after) (sym d) (ap (λ o. o >>= (λ n. narrow (45 ∷ rest) (signed true n.0) n.1)) e'))
