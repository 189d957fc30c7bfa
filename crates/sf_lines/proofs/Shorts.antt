-- Lines that are written from their end.
use Rattle.std.proofs.Common.{◌≡◌, ℕ, ◌+◌, ◌^◌, ◌<◌, ◌≤◌, List, ◌++◌, length, drop, length-drop, length-append, ap, ◌∙◌, arith, lit<}
use Rattle.std.specs.Fmt.{decimal}
use Rattle.std.proofs.lemmas.Fmt.{length-decimal-le}
use Rattle.sf_decimal.specs.Decimals.{natural}
use Rattle.sf_decimal.proofs.Numbers.{natural_is}

pub decimal_short : (n : ℕ) → n < 2 ^ 64 → length (decimal n) ≤ 20
decimal_short n h = length-decimal-le 20 n (lit< tt) (omega arith) h

-- the place before so many bytes
pub room_before : (bytes text : List ℕ) (start : ℕ) → drop start bytes ≡ text → length bytes ≡ 64 → start ≤ 64 → length text + 20 ≤ 64 → 20 ≤ start
room_before bytes text start is size within room = omega (arith, ap length is, length-drop start bytes)

-- digits before a text
pub digits_before : (n : ℕ) (new text before : List ℕ) → n < 2 ^ 64 → new ≡ decimal n ++ before → before ≡ text → new ≡ natural n ++ text
digits_before n new text before h is same = is ∙ ap (λ d. d ++ before) (natural_is n h) ∙ ap (λ t. natural n ++ t) same

pub size_before : (n : ℕ) (new text before : List ℕ) → n < 2 ^ 64 → new ≡ decimal n ++ before → before ≡ text → length new ≤ length text + 20
size_before n new text before h is same = omega (arith, ap length is ∙ length-append (decimal n) before, ap length same, decimal_short n h)
