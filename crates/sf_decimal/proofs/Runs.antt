-- The number of a run of digits.
use Rattle.std.proofs.Common.{◌≡◌, ℕ, suc, ◌+◌, ◌-◌, ◌*◌, ◌^◌, ◌<◌, ◌≤◌, min, List, [], ◌∷◌, refl, arith, true, length, take, drop, get_or, ap, ◌∙◌, sym, drop-cons, add-one, lit<}
use Rattle.std.proofs.Math.Nat.{pow-le-pow_right}
use Rattle.std.proofs.lemmas.Grind.{pow_more}
use Rattle.std.specs.Char.{is_ascii_digit, digit_value}
use Rattle.std.specs.List.{prefix_len}
use Rattle.std.specs.Str.Parse.{digits_value, digits_value_after}
use Rattle.sf_decimal.specs.Decimals.{digits_at, after_digits}
use Rattle.sf_decimal.proofs.Digits.{digit_value_is, digit_high, digits_at-cons}

-- as large as a number may be
abbrev pub top : ℕ
top = 2 ^ 64 - 1

same_above : (a b : ℕ) (ds : List ℕ) → min a top ≡ min b top → min (digits_value_after 10 a ds) top ≡ min (digits_value_after 10 b ds) top
same_above a b [] h = h
same_above a b (c ∷ cs) h = same_above (a * 10 + digit_value c) (b * 10 + digit_value c) cs (omega arith)

pub take_whole : (xs : List ℕ) → take (length xs) xs ≡ xs
take_whole [] = refl
take_whole (x ∷ xs) = ap (λ ys. x ∷ ys) (take_whole xs)

-- what the loop over digits that may be too many keeps, of the number before them, the number so far and the bytes left
pub record Extends (before : ℕ) (bytes : List ℕ) (n : ℕ) (left : List ℕ) : Type 0 where
  pub number : min (digits_value_after 10 n (digits_at left)) top ≡ min (digits_value_after 10 before (digits_at bytes)) top
  pub capped : n ≤ top
  pub rest : after_digits left ≡ after_digits bytes

pub keeps_more : (before : ℕ) (bytes : List ℕ) (n : ℕ) (left : List ℕ) (m : ℕ) → 1 ≤ length left → is_ascii_digit (get_or left 0 0) ≡ true
    → m ≡ min (min (n * 10) top + (get_or left 0 0 - 48)) top → Extends before bytes n left → Extends before bytes m (take (length left - 1) (drop 1 left))
keeps_more before bytes n [] m h d e k = absurd (omega arith)
keeps_more before bytes n (c ∷ rest) m h d e k =
    let len : suc (length rest) - 1 ≡ length rest = omega arith in
    let all : take (suc (length rest) - 1) rest ≡ rest = rw len (take_whole rest) in
    let is = digits_at-cons c rest d in
    let worth = digit_value_is c d in
    let number = rw is.0 at k.number in
    let same : min m top ≡ min (n * 10 + digit_value c) top = omega arith in
    rw all (record {
      number = same_above m (n * 10 + digit_value c) (digits_at rest) same ∙ number;
      capped = omega arith;
      rest = sym is.1 ∙ k.rest;
    })

-- what the loop over the first digits keeps, of the number so far and how many there are, up to an end
pub record ReadsShort (bytes : List ℕ) (n len end : ℕ) : Type 0 where
  pub number : digits_value_after 10 n (digits_at (drop len bytes)) ≡ digits_value 10 (digits_at bytes)
  pub small : n < 10 ^ len
  pub count : prefix_len is_ascii_digit (drop len bytes) + len ≡ prefix_len is_ascii_digit bytes
  pub rest : after_digits (drop len bytes) ≡ after_digits bytes
  pub within : len ≤ end
  pub bound : end ≡ min (length bytes) 18

short_power : (len : ℕ) → len < 18 → (10 ^ len * 10 ≡ 10 ^ (len + 1)) × (10 ^ (len + 1) ≤ 10 ^ 18)
short_power len h = (sym (pow_more 10 len), pow-le-pow_right {n = 10} (lit< tt) {i = len + 1} {j = 18} (omega arith))

-- one more digit has room
pub short_digit : (bytes : List ℕ) (n len end d : ℕ) → ReadsShort bytes n len end → len < end → d ≤ 9 → 10 * n + d < 10 ^ (len + 1) × (10 * n + d < 2 ^ 64)
short_digit bytes n len end d k h digit =
    let power = short_power len (omega (arith, k.within, k.bound)) in
    let small = k.small in
    let below : 10 * n + d < 10 ^ (len + 1) = omega (arith, power.0) in
    (below, omega (arith, power.1))

pub short_fits : (bytes : List ℕ) (n len end d : ℕ) → len < end → is_ascii_digit (get_or bytes len 0) ≡ true → d ≡ get_or bytes len 0 - 48
    → ReadsShort bytes n len end → 10 * n + d < 2 ^ 64
short_fits bytes n len end d h digit worth k = (short_digit bytes n len end d k h (omega (arith, digit_high (get_or bytes len 0) digit))).1

pub short_more : (bytes : List ℕ) (n len end d m : ℕ) → len < end → is_ascii_digit (get_or bytes len 0) ≡ true → d ≡ get_or bytes len 0 - 48 → m ≡ 10 * n + d
    → ReadsShort bytes n len end → ReadsShort bytes m (len + 1) end
short_more bytes n len end d m h digit worth is k =
    let b = get_or bytes len 0 in
    let cut : drop len bytes ≡ b ∷ drop (len + 1) bytes = rw add-one (drop-cons bytes len 0 (omega (arith, k.bound))) in
    let one = digits_at-cons b (drop (len + 1) bytes) digit in
    let value : digit_value b ≡ d = digit_value_is b digit ∙ sym worth in
    let next : n * 10 + digit_value b ≡ m = omega arith in
    let run = rw (cut, one.0) at k.number in
    let size = rw (cut, digit) at k.count in
    let rest = rw (cut, one.1) at k.rest in
    record {
      number = ap (λ x. digits_value_after 10 x (digits_at (drop (len + 1) bytes))) (sym next) ∙ run;
      small = rw is (short_digit bytes n len end d k h (omega (arith, digit_high b digit))).0;
      count = omega (arith, size);
      rest = rest;
      within = omega arith;
      bound = k.bound;
    }
