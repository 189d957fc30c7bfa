-- The test of values tells whether they are the same.
use Rattle.std.proofs.Common.{◌≡◌, Bool, true, false, cond, not, ◌&&◌, refl, sym, ap, ◌∙◌}
use mathlib.Core.Path.{ap₂}
use Rattle.std.specs.Bool.{Decides, one_answer}
use Rattle.std.proofs.lemmas.Bool.Decides.{Decides-int_eq}
use Rattle.std.proofs.lemmas.Slice.Eq.{bytes_eq-Decides}
use Rattle.sf_value.specs.Values.{Data, unit, truth, number, text, pair, no_event, event, table, Rows, no_rows, row}
use Rattle.sf_value.specs.Lookups.{equal_keys}
use Rattle.sf_value.proofs.Under.{equal_keys-Decides}
use Rattle.sf_operator.specs.Operations.{same_data, same_rows}

both_true : (a b : Bool) → a && b ≡ true → (a ≡ true) × (b ≡ true)
both_true true b h = (refl, h)
both_true false b h = absurd cc

true_both : {a b : Bool} → a ≡ true → b ≡ true → a && b ≡ true
true_both h k = rw (h, k) refl

same_truths : (a b : Bool) → cond a b (not b) ≡ true → a ≡ b
same_truths true true h = refl
same_truths true false h = absurd cc
same_truths false true h = absurd cc
same_truths false false h = refl

truth_same : (a : Bool) → cond a a (not a) ≡ true
truth_same true = refl
truth_same false = refl

mutual
  same_is : (a b : Data) → same_data a b ≡ true → a ≡ b
  same_is unit unit h = refl
  same_is (truth a) (truth b) h = ap truth (same_truths a b h)
  same_is (number a) (number b) h = ap number ((Decides-int_eq a b).0 h)
  same_is (text s) (text t) h = ap text ((bytes_eq-Decides s t).0 h)
  same_is (pair a b) (pair c d) h = let k = both_true (same_data a c) (same_data b d) h in ap₂ pair (same_is a c k.0) (same_is b d k.1)
  same_is no_event no_event h = refl
  same_is (event a) (event b) h = ap event (same_is a b h)
  same_is (table rs) (table qs) h = ap table (same_rows_are rs qs h)
  same_is a b h = absurd cc

  same_rows_are : (rs qs : Rows) → same_rows rs qs ≡ true → rs ≡ qs
  same_rows_are no_rows no_rows h = refl
  same_rows_are (row k x rs) (row l y qs) h =
      let e = both_true (equal_keys k l) (same_data x y && same_rows rs qs) h in
      let f = both_true (same_data x y) (same_rows rs qs) e.1 in
      let keys : k ≡ l = (equal_keys-Decides k l).0 e.0 in
      let values : x ≡ y = same_is x y f.0 in
      let rest : rs ≡ qs = same_rows_are rs qs f.1 in
      cc
  same_rows_are rs qs h = absurd cc

mutual
  is_same : (a : Data) → same_data a a ≡ true
  is_same unit = refl
  is_same (truth b) = truth_same b
  is_same (number z) = (Decides-int_eq z z).1 refl
  is_same (text s) = (bytes_eq-Decides s s).1 refl
  is_same (pair a b) = true_both (is_same a) (is_same b)
  is_same no_event = refl
  is_same (event a) = is_same a
  is_same (table rs) = are_same_rows rs

  are_same_rows : (rs : Rows) → same_rows rs rs ≡ true
  are_same_rows no_rows = refl
  are_same_rows (row k x rs) = true_both ((equal_keys-Decides k k).1 refl) (true_both (is_same x) (are_same_rows rs))

same_data-Decides : (a b : Data) → Decides (same_data a b) (a ≡ b)
same_data-Decides a b = (same_is a b, λ e. ap (same_data a) (sym e) ∙ is_same a)

-- a test that tells whether two values are the same is this one
pub same_tested : (r : Bool) (a b : Data) → Decides r (a ≡ b) → r ≡ same_data a b
same_tested r a b h = one_answer r (same_data a b) h (same_data-Decides a b)
