-- What operators make of values.
use Rattle.std.specs.Prelude.{ℕ, zero, suc, Bool, true, false, not, ◌&&◌, cond, ◌/◌, ℤ, pos, negsuc, ◌+ℤ◌, ◌-ℤ◌, ◌*ℤ◌, Option, Some, None, option_map, is_some, bytes_eq}
use Rattle.std.specs.declared.cmp.Ordering.{Ordering}
use Rattle.std.specs.Ordering.{is_lt, is_le, is_gt, is_ge, nat_cmp, int_cmp, int_eq}
use Rattle.std.specs.Cmp.Lexicographic.{slice_cmp}
use Rattle.sf_value.specs.Values.{KeyData, number_key, text_key, Data, unit, truth, number, text, pair, no_event, event, table, Rows, no_rows, row}
use Rattle.sf_value.specs.Lookups.{equal_keys, row_value}
use Rattle.sf_value.specs.declared.fault.ValueFault.TheVariants.{DivideByZero, Clash}
use Rattle.sf_operator.specs.declared.operator.Unary.{Unary}
use Rattle.sf_operator.specs.declared.operator.Unary.TheVariants.{Not, Event, First, Second, IsEvent, Size}
use Rattle.sf_operator.specs.declared.operator.Operator.{Operator}
use Rattle.sf_operator.specs.declared.operator.Operator.TheVariants.{Arithmetic, Equality, Comparison, Logic, Tag, Attach, FromEvent, Gate, Merge, Get}
use Rattle.sf_operator.specs.declared.operator.Arithmetic as arithmetic
use Rattle.sf_operator.specs.declared.operator.Arithmetic.TheVariants.{Plus, Minus, Times, Divide, Modulo}
use Rattle.sf_operator.specs.declared.operator.Equality as equality
use Rattle.sf_operator.specs.declared.operator.Equality.TheVariants.{Equal, Unequal}
use Rattle.sf_operator.specs.declared.operator.Comparison as comparison
use Rattle.sf_operator.specs.declared.operator.Comparison.TheVariants.{Less, AtMost, Greater, AtLeast}
use Rattle.sf_operator.specs.declared.operator.Logic.TheVariants.{And, Or}
use Rattle.sf_operator.specs.declared.operator.Merge as merge
use Rattle.sf_operator.specs.declared.operator.Merge.TheVariants.{Left, Right, Exclusive}
use Rattle.sf_operator.specs.Outcomes.{Evaluated, answer, failed, known, tested}

-- The parts of values of each type.

abbrev pub truth_held : Data → Option Bool
truth_held (truth b) = Some b
truth_held d = None

abbrev pub number_held : Data → Option ℤ
number_held (number z) = Some z
number_held d = None

abbrev pub halves_held : Data → Option (Data × Data)
halves_held (pair a b) = Some (a, b)
halves_held d = None

-- the payload of an event that occurs, and none of one that doesn't
abbrev pub payload_held : Data → Option (Option Data)
payload_held no_event = Some None
payload_held (event x) = Some (Some x)
payload_held d = None

abbrev pub rows_held : Data → Option Rows
rows_held (table rs) = Some rs
rows_held d = None

abbrev pub key_held : Data → Option KeyData
key_held (number z) = Some (number_key z)
key_held (text s) = Some (text_key s)
key_held d = None

-- the event of a payload, if there is one
abbrev pub event_of : Option Data → Data
event_of None = no_event
event_of (Some x) = event x

-- the payload, or a value where there is none
abbrev pub payload_or : Option Data → Data → Data
payload_or None d = d
payload_or (Some x) d = x

-- how many keys rows have
abbrev pub row_count : Rows → ℕ
row_count no_rows = 0
row_count (row k x rs) = suc (row_count rs)

-- Arithmetic, on whole numbers of any size and tested at its end.

-- the quotient rounded towards minus infinity, by a divisor that isn't zero
abbrev pub quotient : ℤ → ℤ → ℤ
quotient (pos m) (pos n) = pos (m / n)
quotient (negsuc m) (pos n) = negsuc (m / n)
quotient (pos zero) (negsuc n) = pos 0
quotient (pos (suc m)) (negsuc n) = negsuc (m / suc n)
quotient (negsuc m) (negsuc n) = pos (suc m / suc n)

-- what the divisor leaves of a number, beside that quotient
abbrev pub remainder : ℤ → ℤ → ℤ
remainder a b = a -ℤ (b *ℤ quotient a b)

-- a division, where the divisor isn't zero
abbrev pub divide : (ℤ → ℤ → ℤ) → ℤ → ℤ → Evaluated Data
divide f a (pos zero) = failed DivideByZero
divide f a (pos (suc n)) = tested (f a (pos (suc n)))
divide f a (negsuc n) = tested (f a (negsuc n))

abbrev pub of_numbers : arithmetic.Arithmetic → ℤ → ℤ → Evaluated Data
of_numbers Plus a b = tested (a +ℤ b)
of_numbers Minus a b = tested (a -ℤ b)
of_numbers Times a b = tested (a *ℤ b)
of_numbers Divide a b = divide quotient a b
of_numbers Modulo a b = divide remainder a b

-- Sameness and order.

-- whether two values are the same; tables are where they have the same keys and values in the same order
abbrev mutual
  pub same_data : Data → Data → Bool
  same_data unit unit = true
  same_data (truth a) (truth b) = cond a b (not b)
  same_data (number a) (number b) = int_eq a b
  same_data (text s) (text t) = bytes_eq s t
  same_data (pair a b) (pair c d) = same_data a c && same_data b d
  same_data no_event no_event = true
  same_data (event a) (event b) = same_data a b
  same_data (table rs) (table qs) = same_rows rs qs
  same_data a b = false

  pub same_rows : Rows → Rows → Bool
  same_rows no_rows no_rows = true
  same_rows (row k x rs) (row l y qs) = equal_keys k l && (same_data x y && same_rows rs qs)
  same_rows rs qs = false

abbrev pub of_equality : equality.Equality → Bool → Bool
of_equality Equal b = b
of_equality Unequal b = not b

-- how two values stand in order, where both are numbers or texts; texts are compared by their bytes
abbrev pub order_of : Data → Data → Option Ordering
order_of (number a) (number b) = Some (int_cmp a b)
order_of (text s) (text t) = Some (slice_cmp nat_cmp s t)
order_of a b = None

abbrev pub of_comparison : comparison.Comparison → Ordering → Bool
of_comparison Less = is_lt
of_comparison AtMost = is_le
of_comparison Greater = is_gt
of_comparison AtLeast = is_ge

-- Two events made one.

abbrev pub merged : merge.Merge → Option Data → Option Data → Evaluated Data
merged m None f = answer (event_of f)
merged m e None = answer (event_of e)
merged Left (Some x) (Some y) = answer (event x)
merged Right (Some x) (Some y) = answer (event y)
merged Exclusive (Some x) (Some y) = failed Clash

-- an operator on a value
abbrev pub unary_value : Unary → Data → Evaluated Data
unary_value Not d = known (truth_held d) (λ b. answer (truth (not b)))
unary_value Event d = answer (event d)
unary_value First d = known (halves_held d) (λ h. answer h.0)
unary_value Second d = known (halves_held d) (λ h. answer h.1)
unary_value IsEvent d = known (payload_held d) (λ e. answer (truth (is_some e)))
unary_value Size d = known (rows_held d) (λ rs. tested (pos (row_count rs)))

-- what the first operand decides alone: false decides `and`, true `or`
abbrev pub decided : Operator → Data → Option Data
decided (Logic And) (truth false) = Some (truth false)
decided (Logic Or) (truth true) = Some (truth true)
decided op d = None

-- an operator on two values; the second is the answer where the first doesn't decide
abbrev pub operated : Operator → Data → Data → Evaluated Data
operated (Arithmetic o) a b = known (number_held a) (λ x. known (number_held b) (of_numbers o x))
operated (Equality o) a b = answer (truth (of_equality o (same_data a b)))
operated (Comparison o) a b = known (order_of a b) (λ r. answer (truth (of_comparison o r)))
operated (Logic o) a b = answer b
operated Tag a b = known (payload_held a) (λ e. answer (event_of (option_map (λ x. b) e)))
operated Attach a b = known (payload_held a) (λ e. answer (event_of (option_map (λ x. pair x b) e)))
operated FromEvent a b = known (payload_held a) (λ e. answer (payload_or e b))
operated Gate a b = known (truth_held b) (λ c. answer (cond c a no_event))
operated (Merge m) a b = known (payload_held a) (λ e. known (payload_held b) (merged m e))
operated Get a b = known (rows_held a) (λ rs. known (key_held b) (λ k. answer (event_of (row_value k rs))))
