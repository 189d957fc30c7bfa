-- Types that are the same, and what a type is of which a table finds something.
use Rattle.std.proofs.Common.{◌≡◌, ℕ, Bool, true, false, cond, List, [], ◌∷◌, Some, None, refl, sym, ap, ◌∙◌}
use Rattle.std.specs.Prelude.{Option, nat_le, map}
use Rattle.std.proofs.lemmas.Slice.Eq.{bytes_eq-Decides}
use mathlib.Core.Path.{ap₂}
use Rattle.sf_value.specs.Values.{KeyKind, Kind, unit_kind, bool_kind, int_kind, text_kind, pair_kind, event_kind, table_kind}
use Rattle.sf_value.specs.KindCodes.{KindMark, is_unit, is_bool, is_int, is_text, is_pair, is_event, is_int_table, is_text_table, kind_marks_of, decoded_kind, decoded_kind-kind_marks_of}
use Rattle.sf_operator.specs.Kinds.{mark_number, same_kind, found_then, only, parts_of, payload_of, columns_of, conditional_kind}

same_mark : (m n : KindMark) → mark_number m ≡ mark_number n → m ≡ n
same_mark m n h = sym (marked m) ∙ ap mark_at h ∙ marked n
  where
    mark_at : ℕ → KindMark
    mark_at i = cond (nat_le i 0) is_unit (cond (nat_le i 1) is_bool (cond (nat_le i 2) is_int (cond (nat_le i 3) is_text (cond (nat_le i 4) is_pair (cond (nat_le i 5) is_event (cond (nat_le i 6) is_int_table is_text_table))))))

    marked : (m : KindMark) → mark_at (mark_number m) ≡ m
    marked is_unit = refl
    marked is_bool = refl
    marked is_int = refl
    marked is_text = refl
    marked is_pair = refl
    marked is_event = refl
    marked is_int_table = refl
    marked is_text_table = refl

same_marks : (ms ns : List KindMark) → map mark_number ms ≡ map mark_number ns → ms ≡ ns
same_marks [] [] h = refl
same_marks [] (n ∷ ns) h = absurd cc
same_marks (m ∷ ms) [] h = absurd cc
same_marks (m ∷ ms) (n ∷ ns) h =
    let front : mark_number m ≡ mark_number n = cc in
    let rest : map mark_number ms ≡ map mark_number ns = cc in
    ap₂ (λ k ks. k ∷ ks) (same_mark m n front) (same_marks ms ns rest)

-- types with the same marks are the same
pub same_is : (t u : Kind) → same_kind t u ≡ true → t ≡ u
same_is t u h = sym (decoded_kind-kind_marks_of t) ∙ ap decoded_kind (same_marks (kind_marks_of t) (kind_marks_of u) ((bytes_eq-Decides (map mark_number (kind_marks_of t)) (map mark_number (kind_marks_of u))).0 h)) ∙ decoded_kind-kind_marks_of u

pub is_same : (t : Kind) → same_kind t t ≡ true
is_same t = let ns = map mark_number (kind_marks_of t) in (bytes_eq-Decides ns ns).1 refl

-- what was found where two types are the same
pub only_is : (t u : Kind) (o : Option Kind) {v : Kind} → only t u o ≡ Some v → (t ≡ u) × (o ≡ Some v)
only_is t u o {v} = each (same_kind t u) refl
  where
    each : (s : Bool) → same_kind t u ≡ s → cond s o None ≡ Some v → (t ≡ u) × (o ≡ Some v)
    each true h e = (same_is t u h, e)
    each false h e = absurd cc

-- what was found, with which it went on
pub found_is : {A B : Type 0} (o : Option A) (f : A → Option B) {v : B} → found_then o f ≡ Some v → (a : A) × (o ≡ Some a) × (f a ≡ Some v)
found_is (Some a) f h = (a, refl, h)
found_is None f h = absurd cc

-- a type with parts is one of pairs, with a payload one of events, with columns one of tables
pub parts_is : (t : Kind) {p : Kind × Kind} → parts_of t ≡ Some p → t ≡ pair_kind p.0 p.1
parts_is (pair_kind t u) h = cc
parts_is unit_kind h = absurd cc
parts_is bool_kind h = absurd cc
parts_is int_kind h = absurd cc
parts_is text_kind h = absurd cc
parts_is (event_kind t) h = absurd cc
parts_is (table_kind k t) h = absurd cc

pub payload_is : (t : Kind) {a : Kind} → payload_of t ≡ Some a → t ≡ event_kind a
payload_is (event_kind t) h = cc
payload_is unit_kind h = absurd cc
payload_is bool_kind h = absurd cc
payload_is int_kind h = absurd cc
payload_is text_kind h = absurd cc
payload_is (pair_kind t u) h = absurd cc
payload_is (table_kind k t) h = absurd cc

pub columns_is : (t : Kind) {c : KeyKind × Kind} → columns_of t ≡ Some c → t ≡ table_kind c.0 c.1
columns_is (table_kind k t) h = cc
columns_is unit_kind h = absurd cc
columns_is bool_kind h = absurd cc
columns_is int_kind h = absurd cc
columns_is text_kind h = absurd cc
columns_is (pair_kind t u) h = absurd cc
columns_is (event_kind t) h = absurd cc

-- the type of one of two values by a truth
pub conditional_is : (c t u v : Kind) → conditional_kind c t u ≡ Some v → (c ≡ bool_kind) × (t ≡ v) × (u ≡ v)
conditional_is c t u v h =
    let truth = only_is c bool_kind (only t u (Some t)) h in
    let same = only_is t u (Some t) truth.1 in
    let is : t ≡ v = cc in
    (truth.0, is, sym same.0 ∙ is)
