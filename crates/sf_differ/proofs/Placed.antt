-- What is said to be wanted is what can stand in the places of operators.
use Rattle.std.proofs.Common.{◌≡◌, Bool, true, false, cond, IsTrue, Option, Some, None, refl, sym, ap, ◌∙◌, subst}
use Rattle.std.specs.Prelude.{option_map}
use Rattle.sf_value.specs.Values.{KeyKind, Kind, bool_kind, int_kind, pair_kind, event_kind}
use Rattle.sf_operator.specs.declared.operator.Unary.{Unary}
use Rattle.sf_operator.specs.declared.operator.Unary.TheVariants as unary
use Rattle.sf_operator.specs.declared.operator.Mapping.{Mapping}
use Rattle.sf_operator.specs.declared.operator.Mapping.TheVariants as mapping
use Rattle.sf_operator.specs.declared.operator.Folding.{Folding}
use Rattle.sf_operator.specs.declared.operator.Folding.TheVariants as folding
use Rattle.sf_operator.specs.declared.operator.Operator.{Operator}
use Rattle.sf_operator.specs.declared.operator.Operator.TheVariants.{Arithmetic, Equality, Comparison, Logic, Tag, Attach, FromEvent, Gate, Merge, Get}
use Rattle.sf_operator.specs.Kinds.{found_then, same_kind, only, parts_of, payload_of, columns_of, kind_of_keys, is_ordered, unary_kind, binary_kind, conditional_kind, mapped_argument, mapped_kind, called_kind, folded_argument, folded_kind}
use Rattle.sf_operator.proofs.SameKinds.{is_same, only_is, found_is, parts_is, payload_is, columns_is}
use Rattle.sf_differ.specs.declared.difference.Wanted.{Wanted}
use Rattle.sf_differ.specs.declared.difference.Wanted.TheVariants as wanted
use Rattle.sf_differ.specs.Differences.{AreWanted, WantsAny}
use Rattle.sf_differ.specs.Wanting.{IsMade, operand_wants, left_wants, right_wants, mapping_wants, mapped_wants, folding_wants, second_wants, folded_wants}

pub made_by : {o : Option Kind} {v : Kind} → o ≡ Some v → IsMade o
made_by {v = v} e = record { made = v; is = e }

pub only_same : (t u : Kind) (o : Option Kind) → t ≡ u → only t u o ≡ o
only_same t u o e = ap (λ s. cond s o None) (ap (λ t. same_kind t u) e ∙ is_same u)

pub only_self : (t : Kind) (o : Option Kind) → only t t o ≡ o
only_self t o = only_same t t o refl

test_is : (x : Kind) {v : Kind} (b : Bool) → cond b (Some x) None ≡ Some v → IsTrue b
test_is x true h = refl
test_is x false h = absurd cc

-- ## One place

pub wants_as : {f g : Kind → Option Kind} {w : Wanted} → ((u : Kind) → f u ≡ g u) → AreWanted (λ u. IsMade (g u)) w → AreWanted (λ u. IsMade (f u)) w
wants_as {f} {g} same h = record {
  only = λ u m. h.only u (record { made = m.made; is = sym (same u) ∙ m.is });
  all = λ u k. let m = h.all u k in record { made = m.made; is = same u ∙ m.is };
}

pub exactly_first : (w : Kind) (o : Option Kind) → IsMade o → AreWanted (λ t. IsMade (only t w o)) (wanted.Exactly w)
exactly_first w o m = record {
  only = λ t h. (only_is t w o h.is).0;
  all = λ t e. made_by (only_same t w o e ∙ m.is);
}

pub exactly_second : (t : Kind) (f : Kind → Option Kind) → IsMade (f t) → AreWanted (λ u. IsMade (only t u (f u))) (wanted.Exactly t)
exactly_second t f m = record {
  only = λ u h. sym (only_is t u (f u) h.is).0;
  all = λ u e. subst (λ u. IsMade (only t u (f u))) (sym e) (made_by (only_self t (f t) ∙ m.is));
}

pair_wants : (f : Kind × Kind → Option Kind) → ((a b : Kind) → IsMade (f (a, b))) → AreWanted (λ t. IsMade (found_then (parts_of t) f)) wanted.Pair
pair_wants f m = record {
  only = λ t h. let k = found_is (parts_of t) f h.is in (k.0.0, k.0.1, parts_is t k.1);
  all = λ t k. subst (λ t. IsMade (found_then (parts_of t) f)) (sym k.2) (m k.0 k.1);
}

pub event_wants : (f : Kind → Option Kind) → ((a : Kind) → IsMade (f a)) → AreWanted (λ t. IsMade (found_then (payload_of t) f)) wanted.Event
event_wants f m = record {
  only = λ t h. let k = found_is (payload_of t) f h.is in (k.0, payload_is t k.1);
  all = λ t k. subst (λ t. IsMade (found_then (payload_of t) f)) (sym k.1) (m k.0);
}

table_wants : (f : KeyKind × Kind → Option Kind) → ((k : KeyKind) (a : Kind) → IsMade (f (k, a))) → AreWanted (λ t. IsMade (found_then (columns_of t) f)) wanted.Table
table_wants f m = record {
  only = λ t h. let k = found_is (columns_of t) f h.is in (k.0.0, k.0.1, columns_is t k.1);
  all = λ t k. subst (λ t. IsMade (found_then (columns_of t) f)) (sym k.2) (m k.0 k.1);
}

payload_wants : AreWanted (λ t. IsMade (payload_of t)) wanted.Event
payload_wants = record {
  only = λ t h. (h.made, payload_is t h.is);
  all = λ t k. subst (λ t. IsMade (payload_of t)) (sym k.1) (made_by refl);
}

-- ## The first of two places

exactly_left : (w : Kind) (f : Kind → Option Kind) (v : Kind) → IsMade (f v) → AreWanted (λ t. (u : Kind) × IsMade (only t w (f u))) (wanted.Exactly w)
exactly_left w f v m = record {
  only = λ t h. (only_is t w (f h.0) h.1.is).0;
  all = λ t e. (v, made_by (only_same t w (f v) e ∙ m.is));
}

event_left : (f : (t u a : Kind) → Option Kind) (v : Kind → Kind) → ((a : Kind) → IsMade (f (event_kind a) (v a) a)) → AreWanted (λ t. (u : Kind) × IsMade (found_then (payload_of t) (f t u))) wanted.Event
event_left f v m = record {
  only = λ t h. let k = found_is (payload_of t) (f t h.0) h.1.is in (k.0, payload_is t k.1);
  all = λ t k. subst (λ t. (u : Kind) × IsMade (found_then (payload_of t) (f t u))) (sym k.1) (v k.0, m k.0);
}

table_left : (f : Kind → KeyKind × Kind → Option Kind) (v : KeyKind → Kind → Kind) → ((k : KeyKind) (a : Kind) → IsMade (f (v k a) (k, a))) → AreWanted (λ t. (u : Kind) × IsMade (found_then (columns_of t) (f u))) wanted.Table
table_left f v m = record {
  only = λ t h. let k = found_is (columns_of t) (f h.0) h.1.is in (k.0.0, k.0.1, columns_is t k.1);
  all = λ t k. subst (λ t. (u : Kind) × IsMade (found_then (columns_of t) (f u))) (sym k.2) (v k.0 k.1, m k.0 k.1);
}

-- ## Operators

pub operand_any : (o : Unary) → WantsAny (λ t. IsMade (unary_kind o t)) (operand_wants o)
operand_any unary.Not = exactly_first bool_kind (Some bool_kind) (made_by refl)
operand_any unary.Event = λ t. made_by refl
operand_any unary.First = pair_wants (λ p. Some p.0) (λ a b. made_by refl)
operand_any unary.Second = pair_wants (λ p. Some p.1) (λ a b. made_by refl)
operand_any unary.IsEvent = event_wants (λ a. Some bool_kind) (λ a. made_by refl)
operand_any unary.Size = table_wants (λ c. Some int_kind) (λ k a. made_by refl)

pub left_any : (op : Operator) → WantsAny (λ t. (u : Kind) × IsMade (binary_kind op t u)) (left_wants op)
left_any (Arithmetic o) = exactly_left int_kind (λ u. only u int_kind (Some int_kind)) int_kind (made_by (only_self int_kind (Some int_kind)))
left_any (Equality o) = λ t. (t, made_by (only_self t (Some bool_kind)))
left_any (Comparison o) = record {
  only = λ t h. test_is bool_kind (is_ordered t) (only_is t h.0 (cond (is_ordered t) (Some bool_kind) None) h.1.is).1;
  all = λ t k. (t, made_by (only_self t (cond (is_ordered t) (Some bool_kind) None) ∙ ap (λ b. cond b (Some bool_kind) None) k));
}
left_any (Logic o) = exactly_left bool_kind (λ u. only u bool_kind (Some bool_kind)) bool_kind (made_by (only_self bool_kind (Some bool_kind)))
left_any Tag = event_left (λ t u a. Some (event_kind u)) (λ a. a) (λ a. made_by refl)
left_any Attach = event_left (λ t u a. Some (event_kind (pair_kind a u))) (λ a. a) (λ a. made_by refl)
left_any FromEvent = event_left (λ t u a. only a u (Some a)) (λ a. a) (λ a. made_by (only_self a (Some a)))
left_any Gate = event_left (λ t u a. only u bool_kind (Some t)) (λ a. bool_kind) (λ a. made_by (only_self bool_kind (Some (event_kind a))))
left_any (Merge m) = event_left (λ t u a. only t u (Some t)) (λ a. event_kind a) (λ a. made_by (only_self (event_kind a) (Some (event_kind a))))
left_any Get = table_left (λ u c. only u (kind_of_keys c.0) (Some (event_kind c.1))) (λ k a. kind_of_keys k) (λ k a. made_by (only_self (kind_of_keys k) (Some (event_kind a))))

from_any : {a : Kind} (o : Option Kind) → o ≡ Some a → WantsAny (λ u. IsMade (found_then o (λ a. only a u (Some a)))) (option_map (λ a. wanted.Exactly a) o)
from_any (Some b) e = exactly_second b (λ u. Some b) (made_by refl)
from_any None e = absurd cc

get_any : {c : KeyKind × Kind} (o : Option (KeyKind × Kind)) → o ≡ Some c → WantsAny (λ u. IsMade (found_then o (λ c. only u (kind_of_keys c.0) (Some (event_kind c.1))))) (option_map (λ c. wanted.Exactly (kind_of_keys c.0)) o)
get_any (Some c) e = exactly_first (kind_of_keys c.0) (Some (event_kind c.1)) (made_by refl)
get_any None e = absurd cc

pub right_any : (op : Operator) (t v : Kind) → IsMade (binary_kind op t v) → WantsAny (λ u. IsMade (binary_kind op t u)) (right_wants op t)
right_any (Arithmetic o) t v m =
    let e = (only_is t int_kind (only v int_kind (Some int_kind)) m.is).0 in
    wants_as (λ u. only_same t int_kind (only u int_kind (Some int_kind)) e) (exactly_first int_kind (Some int_kind) (made_by refl))
right_any (Equality o) t v m = exactly_second t (λ u. Some bool_kind) (made_by refl)
right_any (Comparison o) t v m = exactly_second t (λ u. cond (is_ordered t) (Some bool_kind) None) (made_by (only_is t v (cond (is_ordered t) (Some bool_kind) None) m.is).1)
right_any (Logic o) t v m =
    let e = (only_is t bool_kind (only v bool_kind (Some bool_kind)) m.is).0 in
    wants_as (λ u. only_same t bool_kind (only u bool_kind (Some bool_kind)) e) (exactly_first bool_kind (Some bool_kind) (made_by refl))
right_any Tag t v m = λ u. made_by (ap (λ o. found_then o (λ a. Some (event_kind u))) (found_is (payload_of t) (λ a. Some (event_kind v)) m.is).1)
right_any Attach t v m = λ u. made_by (ap (λ o. found_then o (λ a. Some (event_kind (pair_kind a u)))) (found_is (payload_of t) (λ a. Some (event_kind (pair_kind a v))) m.is).1)
right_any FromEvent t v m = from_any (payload_of t) (found_is (payload_of t) (λ a. only a v (Some a)) m.is).1
right_any Gate t v m =
    let e = (found_is (payload_of t) (λ a. only v bool_kind (Some t)) m.is).1 in
    wants_as (λ u. ap (λ o. found_then o (λ a. only u bool_kind (Some t))) e) (exactly_first bool_kind (Some t) (made_by refl))
right_any (Merge k) t v m =
    let e = (found_is (payload_of t) (λ a. only t v (Some t)) m.is).1 in
    wants_as (λ u. ap (λ o. found_then o (λ a. only t u (Some t))) e) (exactly_second t (λ u. Some t) (made_by refl))
right_any Get t v m = get_any (columns_of t) (found_is (columns_of t) (λ c. only v (kind_of_keys c.0) (Some (event_kind c.1))) m.is).1

pub condition_wants : AreWanted (λ c. (t : Kind) × (u : Kind) × IsMade (conditional_kind c t u)) (wanted.Exactly bool_kind)
condition_wants = record {
  only = λ c h. (only_is c bool_kind (only h.0 h.1 (Some h.0)) h.2.is).0;
  all = λ c e. (bool_kind, bool_kind, made_by (only_same c bool_kind (only bool_kind bool_kind (Some bool_kind)) e ∙ only_self bool_kind (Some bool_kind)));
}

pub other_wants : (c t : Kind) → c ≡ bool_kind → AreWanted (λ u. IsMade (conditional_kind c t u)) (wanted.Exactly t)
other_wants c t e = wants_as (λ u. only_same c bool_kind (only t u (Some t)) e) (exactly_second t (λ u. Some t) (made_by refl))

pub called_wants : (from to : Kind) → AreWanted (λ t. IsMade (called_kind from to t)) (wanted.Exactly from)
called_wants from to = exactly_first from (Some to) (made_by refl)

-- ## Forms with a function

pub mapping_any : (m : Mapping) → WantsAny (λ t. IsMade (mapped_argument m t)) (mapping_wants m)
mapping_any mapping.Let = λ t. made_by refl
mapping_any mapping.Filter = payload_wants
mapping_any mapping.Map = payload_wants

pub mapped_any : (m : Mapping) (t : Kind) → WantsAny (λ u. IsMade (mapped_kind m t u)) (mapped_wants m)
mapped_any mapping.Let t = λ u. made_by refl
mapped_any mapping.Filter t = exactly_first bool_kind (Some t) (made_by refl)
mapped_any mapping.Map t = λ u. made_by refl

pub folding_any : (o : Folding) → WantsAny (λ t. (u : Kind) × IsMade (folded_argument o t u)) (folding_wants o)
folding_any folding.Match = record {
  only = λ t h. (h.1.made, payload_is t h.1.is);
  all = λ t k. (t, payload_wants.all t k);
}
folding_any folding.Merge = event_left (λ t u a. Some (pair_kind a a)) (λ a. a) (λ a. made_by refl)
folding_any folding.Fold = table_left (λ u c. Some (pair_kind u (pair_kind (kind_of_keys c.0) c.1))) (λ k a. a) (λ k a. made_by refl)

pub second_any : (o : Folding) (t v : Kind) → IsMade (folded_argument o t v) → WantsAny (λ u. (w : Kind) × IsMade (folded_kind o t u w)) (second_wants o t)
second_any folding.Match t v m = λ u. (u, made_by (only_self u (Some u)))
second_any folding.Merge t v m =
    let k = found_is (payload_of t) (λ a. Some (pair_kind a a)) m.is in
    let merged = λ (u w : Kind). ap (λ o. found_then o (λ a. only t u (only a w (Some t)))) k.1 in
    record {
      only = λ u h. sym (only_is t u (only k.0 h.0 (Some t)) (sym (merged u h.0) ∙ h.1.is)).0;
      all = λ u e. (k.0, made_by (merged u k.0 ∙ only_same t u (only k.0 k.0 (Some t)) (sym e) ∙ only_self k.0 (Some t)));
    }
second_any folding.Fold t v m = λ u. (u, made_by (only_self u (Some u)))

merge_any : (t u : Kind) {a : Kind} (o : Option Kind) → o ≡ Some a → t ≡ u → WantsAny (λ w. IsMade (found_then o (λ a. only t u (only a w (Some t))))) (option_map (λ a. wanted.Exactly a) o)
merge_any t u (Some b) e same = wants_as (λ w. only_same t u (only b w (Some t)) same) (exactly_second b (λ w. Some t) (made_by refl))
merge_any t u None e same = absurd cc

pub folded_any : (o : Folding) (t u v : Kind) → IsMade (folded_kind o t u v) → WantsAny (λ w. IsMade (folded_kind o t u w)) (folded_wants o t u)
folded_any folding.Match t u v m = exactly_second u (λ w. Some w) (made_by refl)
folded_any folding.Merge t u v m =
    let k = found_is (payload_of t) (λ a. only t u (only a v (Some t))) m.is in
    merge_any t u (payload_of t) k.1 (only_is t u (only k.0 v (Some t)) k.2).0
folded_any folding.Fold t u v m = exactly_second u (λ w. Some u) (made_by refl)
