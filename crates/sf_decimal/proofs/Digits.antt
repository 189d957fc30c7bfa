-- The digits of a number, and the number of digits.
use Rattle.std.proofs.Common.{◌≡◌, ℕ, zero, suc, ◌+◌, ◌-◌, ◌*◌, ◌/◌, ◌%◌, ◌<◌, ◌≤◌, Bool, true, false, List, [], ◌∷◌, ◌++◌, length, refl, sym, ◌∙◌, ap, arith, append_assoc, append-nil, ⊎_elim}
use Rattle.std.specs.Prelude.{⊤}
use Rattle.std.proofs.lemmas.Bool.{cases_lt}
use Rattle.std.proofs.lemmas.Bool.Decides.{nat_tests}
use Rattle.std.specs.Char.{is_ascii_digit, digit_value}
use Rattle.std.specs.List.{prefix_len}
use Rattle.std.specs.Str.Parse.{digits_value, digits_value_after}
use Rattle.std.proofs.lemmas.Int.Digits.{digits_value_push}
use Rattle.sf_decimal.specs.Decimals.{natural, digits_at, after_digits, BeginsNoDigit}
use Rattle.sf_decimal.proofs.Numbers.{natural_small, natural_more}

-- all are digits
abbrev pub AllDigits : List ℕ → Type 0
AllDigits [] = ⊤
AllDigits (c ∷ cs) = (is_ascii_digit c ≡ true) × AllDigits cs

pub digit_low : (c : ℕ) → is_ascii_digit c ≡ true → 48 ≤ c
digit_low c h = grind (arith, nat_tests)

pub digit_high : (c : ℕ) → is_ascii_digit c ≡ true → c < 58
digit_high c h = grind (arith, nat_tests)

pub digit_from : (c : ℕ) → 48 ≤ c → c < 58 → is_ascii_digit c ≡ true
digit_from c l h = grind (arith, nat_tests)

pub digit_value_is : (c : ℕ) → is_ascii_digit c ≡ true → digit_value c ≡ c - 48
digit_value_is c d = grind (arith, nat_tests)

-- one more digit
natural_push : (n d : ℕ) → 0 < n → d < 10 → natural (n * 10 + d) ≡ natural n ++ (48 + d) ∷ []
natural_push n d h l =
    let q : (n * 10 + d) / 10 ≡ n = omega arith in
    let r : (n * 10 + d) % 10 ≡ d = omega arith in
    natural_more (n * 10 + d) (omega arith) ∙ rw (q, r) refl

pub natural_after : (n : ℕ) (ds : List ℕ) → 0 < n → AllDigits ds → natural (digits_value_after 10 n ds) ≡ natural n ++ ds
natural_after n [] h a = sym (append-nil (natural n))
natural_after n (c ∷ cs) h a =
    let low = digit_low c a.0 in
    let high = digit_high c a.0 in
    let worth = digit_value_is c a.0 in
    let same : 48 + digit_value c ≡ c = omega arith in
    natural_after (n * 10 + digit_value c) cs (omega arith) a.1
    ∙ rw (natural_push n (digit_value c) h (omega arith), same) (append_assoc (natural n) (c ∷ []) cs)

after_pos : (n : ℕ) (ds : List ℕ) → 0 < n → 0 < digits_value_after 10 n ds
after_pos n [] h = h
after_pos n (c ∷ cs) h = after_pos (n * 10 + digit_value c) cs (omega arith)

-- the digits of a number that isn't 0 begin with one that isn't 0
pub record Numeral (n : ℕ) : Type 0 where
  pub head : ℕ
  pub tail : List ℕ
  pub is : natural n ≡ head ∷ tail
  pub low : 49 ≤ head
  pub high : head < 58
  pub digits : AllDigits (head ∷ tail)
  pub value : digits_value 10 (head ∷ tail) ≡ n

AllDigits_push : (ds : List ℕ) (c : ℕ) → AllDigits ds → is_ascii_digit c ≡ true → AllDigits (ds ++ c ∷ [])
AllDigits_push [] c a h = (h, tt)
AllDigits_push (d ∷ ds) c a h = (a.0, AllDigits_push ds c a.1 h)

numeral_within : (fuel n : ℕ) → n ≤ fuel → 0 < n → Numeral n
numeral_within zero n h p = absurd (omega arith)
numeral_within (suc fuel) n h p = ⊎_elim
    (λ (small : n < 10).
    let digit = digit_from (48 + n) (omega arith) (omega arith) in
    record {
      head = 48 + n;
      tail = [];
      is = natural_small n small;
      low = omega arith;
      high = omega arith;
      digits = (digit, tt);
      value = omega (arith, digit_value_is (48 + n) digit);
    })
    (λ (large : 10 ≤ n).
    let r = numeral_within fuel (n / 10) (omega arith) (omega arith) in
    let digit = digit_from (48 + n % 10) (omega arith) (omega arith) in
    record {
      head = r.head;
      tail = r.tail ++ (48 + n % 10) ∷ [];
      is = natural_more n large ∙ ap (λ x. x ++ (48 + n % 10) ∷ []) r.is;
      low = r.low;
      high = r.high;
      digits = AllDigits_push (r.head ∷ r.tail) (48 + n % 10) r.digits digit;
      value = digits_value_push 10 (r.head ∷ r.tail) (48 + n % 10) ∙ omega (arith, r.value, digit_value_is (48 + n % 10) digit);
    })
    (cases_lt n 10)

pub numeral : (n : ℕ) → 0 < n → Numeral n
numeral n p = numeral_within n n (omega arith) p

pub digits_at-cons : (c : ℕ) (s : List ℕ) → is_ascii_digit c ≡ true → (digits_at (c ∷ s) ≡ c ∷ digits_at s) × (after_digits (c ∷ s) ≡ after_digits s)
digits_at-cons c s h = rw (h, one_more (prefix_len is_ascii_digit s)) (refl, refl)
  where
    one_more : (n : ℕ) → 1 + n ≡ suc n
    one_more n = omega arith

pub digits_at-none : (c : ℕ) (s : List ℕ) → is_ascii_digit c ≡ false → (digits_at (c ∷ s) ≡ []) × (after_digits (c ∷ s) ≡ c ∷ s)
digits_at-none c s h = rw h (refl, refl)

-- a run ends where no digit follows
pub digits_at-append : (ds more : List ℕ) → AllDigits ds → BeginsNoDigit more → (digits_at (ds ++ more) ≡ ds) × (after_digits (ds ++ more) ≡ more)
digits_at-append [] [] a b = (refl, refl)
digits_at-append [] (c ∷ more) a b = digits_at-none c more b
digits_at-append (d ∷ ds) more a b =
    let first = digits_at-cons d (ds ++ more) a.0 in
    let others = digits_at-append ds more a.1 b in
    (first.0 ∙ ap (λ x. d ∷ x) others.0, first.1 ∙ others.1)

-- the run and what stands after it
pub cut : (s : List ℕ) → AllDigits (digits_at s) × (s ≡ digits_at s ++ after_digits s) × BeginsNoDigit (after_digits s)
cut [] = (tt, refl, tt)
cut (c ∷ s) = cut_at (is_ascii_digit c) refl (cut s)
  where
    cut_at : (b : Bool) → is_ascii_digit c ≡ b → AllDigits (digits_at s) × (s ≡ digits_at s ++ after_digits s) × BeginsNoDigit (after_digits s)
        → AllDigits (digits_at (c ∷ s)) × (c ∷ s ≡ digits_at (c ∷ s) ++ after_digits (c ∷ s)) × BeginsNoDigit (after_digits (c ∷ s))
    cut_at true e k = let is = digits_at-cons c s e in rw (is.0, is.1) ((e, k.0), ap (λ x. c ∷ x) k.1, k.2)
    cut_at false e k = let is = digits_at-none c s e in rw (is.0, is.1) (tt, refl, e)

value_first : (c : ℕ) (ds : List ℕ) → is_ascii_digit c ≡ true → digits_value 10 (c ∷ ds) ≡ digits_value_after 10 (c - 48) ds
value_first c ds digit = ap (λ n. digits_value_after 10 n ds) (omega (arith, digit_value_is c digit))

-- a run that begins with another digit than 0 is the spelling of its number
pub numeral_at : (c : ℕ) (s : List ℕ) → 48 < c → is_ascii_digit c ≡ true
    → (0 < digits_value 10 (digits_at (c ∷ s))) × (c ∷ s ≡ natural (digits_value 10 (digits_at (c ∷ s))) ++ after_digits (c ∷ s)) × BeginsNoDigit (after_digits (c ∷ s))
numeral_at c s low digit =
    let k = cut (c ∷ s) in
    let is = digits_at-cons c s digit in
    let high = digit_high c digit in
    let worth : digits_value 10 (digits_at (c ∷ s)) ≡ digits_value_after 10 (c - 48) (digits_at s) = ap (digits_value 10) is.0 ∙ value_first c (digits_at s) digit in
    let same : 48 + (c - 48) ≡ c = omega arith in
    let one : natural (c - 48) ≡ c ∷ [] = natural_small (c - 48) (omega arith) ∙ rw same refl in
    let text : natural (digits_value 10 (digits_at (c ∷ s))) ≡ digits_at (c ∷ s) =
    ap natural worth ∙ natural_after (c - 48) (digits_at s) (omega arith) (cut s).0 ∙ ap (λ x. x ++ digits_at s) one ∙ sym is.0 in
    (omega (arith, worth, after_pos (c - 48) (digits_at s) (omega arith)), k.1 ∙ ap (λ x. x ++ after_digits (c ∷ s)) (sym text), k.2)

-- the spelling of a number that isn't 0 is the run in front of what follows
pub numeral_read : (n : ℕ) (more : List ℕ) → 0 < n → BeginsNoDigit more → (digits_value 10 (digits_at (natural n ++ more)) ≡ n) × (after_digits (natural n ++ more) ≡ more)
numeral_read n more h b =
    let r = numeral n h in
    let is = digits_at-append (r.head ∷ r.tail) more r.digits b in
    (ap (λ x. digits_value 10 (digits_at (x ++ more))) r.is ∙ ap (digits_value 10) is.0 ∙ r.value, ap (λ x. after_digits (x ++ more)) r.is ∙ is.1)

-- digits at the front are within the run
pub run_longest : (ds back : List ℕ) → AllDigits ds → length (after_digits (ds ++ back)) ≤ length back
run_longest [] [] a = omega arith
run_longest [] (c ∷ back) a = shorter (is_ascii_digit c) refl (run_longest [] back tt)
  where
    shorter : (b : Bool) → is_ascii_digit c ≡ b → length (after_digits back) ≤ length back → length (after_digits (c ∷ back)) ≤ length (c ∷ back)
    shorter true e more = let is = (digits_at-cons c back e).1 in rw is (omega arith)
    shorter false e more = let is = (digits_at-none c back e).1 in rw is (omega arith)
run_longest (d ∷ ds) back a = let is = (digits_at-cons d (ds ++ back) a.0).1 in rw is (run_longest ds back a.1)

zero_text : natural 0 ≡ 48 ∷ []
zero_text = natural_small 0 (omega arith)

-- what stands behind a number of which the last digit is known
abbrev pub Behind : ℕ → List ℕ → Type 0
Behind d rest = 0 < d → BeginsNoDigit rest

-- bytes begin with a number in one way
pub natural-cut : (d e : ℕ) (rest more : List ℕ) → Behind d rest → Behind e more → natural d ++ rest ≡ natural e ++ more → (d ≡ e) × (rest ≡ more)
natural-cut zero zero rest more p q h = (refl, tails (ap (λ x. x ++ rest) (sym zero_text) ∙ h ∙ ap (λ x. x ++ more) zero_text))
  where
    tails : 48 ∷ rest ≡ 48 ∷ more → rest ≡ more
    tails e = cc
natural-cut zero (suc e) rest more p q h =
    let n = numeral (suc e) (omega arith) in
    absurd (heads n.head n.tail n.low (ap (λ x. x ++ rest) (sym zero_text) ∙ h ∙ ap (λ x. x ++ more) n.is))
  where
    heads : (head : ℕ) (tail : List ℕ) → 49 ≤ head → 48 ∷ rest ≡ (head ∷ tail) ++ more → ⊥
    heads head tail low e = let same : 48 ≡ head = cc in omega arith
natural-cut (suc d) zero rest more p q h =
    let n = numeral (suc d) (omega arith) in
    absurd (heads n.head n.tail n.low (ap (λ x. x ++ more) (sym zero_text) ∙ sym h ∙ ap (λ x. x ++ rest) n.is))
  where
    heads : (head : ℕ) (tail : List ℕ) → 49 ≤ head → 48 ∷ more ≡ (head ∷ tail) ++ rest → ⊥
    heads head tail low e = let same : 48 ≡ head = cc in omega arith
natural-cut (suc d) (suc e) rest more p q h =
    let n = numeral_read (suc d) rest (omega arith) (p (omega arith)) in
    let m = numeral_read (suc e) more (omega arith) (q (omega arith)) in
    (sym n.0 ∙ ap (λ x. digits_value 10 (digits_at x)) h ∙ m.0, sym n.1 ∙ ap after_digits h ∙ m.1)

-- a number begins with a digit
pub record Begins (d : ℕ) : Type 0 where
  pub head : ℕ
  pub tail : List ℕ
  pub is : natural d ≡ head ∷ tail
  pub low : 48 ≤ head
  pub high : head < 58

pub natural-head : (d : ℕ) → Begins d
natural-head zero = record { head = 48; tail = []; is = zero_text; low = omega arith; high = omega arith }
natural-head (suc d) = let n = numeral (suc d) (omega arith) in record { head = n.head; tail = n.tail; is = n.is; low = omega (arith, n.low); high = n.high }
