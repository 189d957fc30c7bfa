-- Operators make values of the types that the tables of types say, or faults.
use Rattle.std.proofs.Common.{◌≡◌, ℤ, pos, negsuc, zero, suc, Bool, true, false, cond, not, Some, None, refl, sym, ap, subst, ◌∙◌}
use Rattle.std.specs.Prelude.{Option, option_map, is_some, ◌+ℤ◌, ◌-ℤ◌, ◌*ℤ◌}
use Rattle.std.specs.declared.cmp.Ordering.{Ordering}
use Rattle.sf_value.specs.Values.{KeyKind, int_keys, text_keys, Kind, bool_kind, int_kind, pair_kind, event_kind, table_kind, KeyData, Data, truth, number, pair, no_event, Rows, is_narrow, HasKind, has_bool, has_int, has_text, has_pair, has_no_event, has_event, has_table, HasRowKinds, has_no_rows, has_row}
use Rattle.sf_value.specs.Lookups.{equal_keys, row_value}
use Rattle.sf_value.specs.declared.fault.ValueFault.TheVariants.{Overflow}
use Rattle.sf_operator.specs.declared.operator.Unary.TheVariants.{Not, Event, First, Second, IsEvent, Size}
use Rattle.sf_operator.specs.declared.operator.Operator.TheVariants.{Arithmetic, Equality, Comparison, Logic, Tag, Attach, FromEvent, Gate, Merge, Get}
use Rattle.sf_operator.specs.declared.operator.Arithmetic as arithmetic
use Rattle.sf_operator.specs.declared.operator.Arithmetic.TheVariants.{Plus, Minus, Times, Divide, Modulo}
use Rattle.sf_operator.specs.declared.operator.Logic as logic
use Rattle.sf_operator.specs.declared.operator.Logic.TheVariants.{And, Or}
use Rattle.sf_operator.specs.declared.operator.Merge as merge
use Rattle.sf_operator.specs.declared.operator.Merge.TheVariants.{Left, Right, Exclusive}
use Rattle.sf_operator.specs.Outcomes.{Evaluated, answer, failed, known, tested}
use Rattle.sf_operator.specs.Answers.{Yields, yields, fails}
use Rattle.sf_operator.specs.Kinds.{kind_of_keys, is_ordered, only, parts_of, payload_of, columns_of}
use Rattle.sf_operator.specs.Operations.{truth_held, number_held, halves_held, payload_held, rows_held, key_held, event_of, payload_or, row_count, quotient, remainder, divide, of_numbers, of_comparison, order_of, merged, decided, operated}
use Rattle.sf_operator.specs.Laws.{EachUnaryYields, EachOperatorYields, EachDecisionYields}
use Rattle.sf_operator.proofs.SameKinds.{only_is, found_is, parts_is, payload_is, columns_is}

-- what is of one type is of another that is the same
pub as_kind : {d : Data} {t u : Kind} → t ≡ u → HasKind d t → HasKind d u
as_kind {d} e h = subst (λ (t : Kind). HasKind d t) e h

pub yields_as : {o : Evaluated Data} {t u : Kind} → Some t ≡ Some u → Yields t o → Yields u o
yields_as {o} {t} {u} e h = let is : t ≡ u = cc in subst (λ (t : Kind). Yields t o) is h

-- ## What is made of the part of a value that its type has

pub of_truth : {d : Data} {t u : Kind} (f : Bool → Evaluated Data) → t ≡ bool_kind → HasKind d t → ((b : Bool) → Yields u (f b)) → Yields u (known (truth_held d) f)
of_truth {u = u} f e h = each (as_kind e h)
  where
    each : {d : Data} → HasKind d bool_kind → ((b : Bool) → Yields u (f b)) → Yields u (known (truth_held d) f)
    each (has_bool {b = b}) k = k b

of_number : {d : Data} {t u : Kind} (f : ℤ → Evaluated Data) → t ≡ int_kind → HasKind d t → ((z : ℤ) → Yields u (f z)) → Yields u (known (number_held d) f)
of_number {u = u} f e h = each (as_kind e h)
  where
    each : {d : Data} → HasKind d int_kind → ((z : ℤ) → Yields u (f z)) → Yields u (known (number_held d) f)
    each (has_int {z = z} n) k = k z

of_halves : {d : Data} {t a b u : Kind} (f : Data × Data → Evaluated Data) → t ≡ pair_kind a b → HasKind d t → ((x y : Data) → HasKind x a → HasKind y b → Yields u (f (x, y))) → Yields u (known (halves_held d) f)
of_halves {a = a} {b = b} {u = u} f e h = each (as_kind e h)
  where
    each : {d : Data} → HasKind d (pair_kind a b) → ((x y : Data) → HasKind x a → HasKind y b → Yields u (f (x, y))) → Yields u (known (halves_held d) f)
    each (has_pair {x = x} {y = y} h l) k = k x y h l

-- a payload has a type, where there is one
pub data HasPayload (a : Kind) : Option Data → Type 0 where
  has_none : HasPayload a None
  has_some : {x : Data} → HasKind x a → HasPayload a (Some x)

pub of_payload : {d : Data} {t a u : Kind} (f : Option Data → Evaluated Data) → t ≡ event_kind a → HasKind d t → ((e : Option Data) → HasPayload a e → Yields u (f e)) → Yields u (known (payload_held d) f)
of_payload {a = a} {u = u} f e h = each (as_kind e h)
  where
    each : {d : Data} → HasKind d (event_kind a) → ((e : Option Data) → HasPayload a e → Yields u (f e)) → Yields u (known (payload_held d) f)
    each has_no_event k = k None has_none
    each (has_event {x = x} h) k = k (Some x) (has_some h)

pub of_rows : {d : Data} {t a u : Kind} {k : KeyKind} (f : Rows → Evaluated Data) → t ≡ table_kind k a → HasKind d t → ((rs : Rows) → HasRowKinds rs k a → Yields u (f rs)) → Yields u (known (rows_held d) f)
of_rows {a = a} {u = u} {k = k} f e h = each (as_kind e h)
  where
    each : {d : Data} → HasKind d (table_kind k a) → ((rs : Rows) → HasRowKinds rs k a → Yields u (f rs)) → Yields u (known (rows_held d) f)
    each (has_table {rs = rs} h n) g = g rs h

of_key : {d : Data} {t u : Kind} (k : KeyKind) (f : KeyData → Evaluated Data) → t ≡ kind_of_keys k → HasKind d t → ((l : KeyData) → Yields u (f l)) → Yields u (known (key_held d) f)
of_key {u = u} k f e h = each k (as_kind e h)
  where
    each : {d : Data} (k : KeyKind) → HasKind d (kind_of_keys k) → ((l : KeyData) → Yields u (f l)) → Yields u (known (key_held d) f)
    each int_keys (has_int n) g = g _
    each text_keys (has_text n) g = g _

of_order : {d c : Data} {t u v : Kind} (f : Ordering → Evaluated Data) → t ≡ u → HasKind d t → HasKind c u → is_ordered t ≡ true → ((r : Ordering) → Yields v (f r)) → Yields v (known (order_of d c) f)
of_order {c = c} {v = v} f e h l = each h (as_kind (sym e) l)
  where
    each : {d c : Data} {t : Kind} → HasKind d t → HasKind c t → is_ordered t ≡ true → ((r : Ordering) → Yields v (f r)) → Yields v (known (order_of d c) f)
    each (has_int n) (has_int m) o g = g _
    each (has_text n) (has_text m) o g = g _
    each h l o g = absurd cc

-- ## What is made of it

pub tested_yields : (z : ℤ) → Yields int_kind (tested z)
tested_yields z = elim (is_narrow z) as (λ b. is_narrow z ≡ b → Yields int_kind (cond b (answer (number z)) (failed Overflow))) [
  | true ↦ λ e. yields (has_int e)
  | false ↦ λ e. fails
] refl

divide_yields : (f : ℤ → ℤ → ℤ) (a b : ℤ) → Yields int_kind (divide f a b)
divide_yields f a (pos zero) = fails
divide_yields f a (pos (suc n)) = tested_yields (f a (pos (suc n)))
divide_yields f a (negsuc n) = tested_yields (f a (negsuc n))

numbers_yield : (o : arithmetic.Arithmetic) (a b : ℤ) → Yields int_kind (of_numbers o a b)
numbers_yield Plus a b = tested_yields (a +ℤ b)
numbers_yield Minus a b = tested_yields (a -ℤ b)
numbers_yield Times a b = tested_yields (a *ℤ b)
numbers_yield Divide a b = divide_yields quotient a b
numbers_yield Modulo a b = divide_yields remainder a b

pub event_has : {a : Kind} {e : Option Data} → HasPayload a e → HasKind (event_of e) (event_kind a)
event_has has_none = has_no_event
event_has (has_some h) = has_event h

-- a payload of which another is made
mapped_has : {a b : Kind} {e : Option Data} (f : Data → Data) → HasPayload a e → ((x : Data) → HasKind x a → HasKind (f x) b) → HasPayload b (option_map f e)
mapped_has f has_none k = has_none
mapped_has f (has_some h) k = has_some (k _ h)

payload_or_has : {a : Kind} {e : Option Data} {d : Data} → HasPayload a e → HasKind d a → HasKind (payload_or e d) a
payload_or_has has_none k = k
payload_or_has (has_some h) k = h

merged_yields : (m : merge.Merge) {a : Kind} {e f : Option Data} → HasPayload a e → HasPayload a f → Yields (event_kind a) (merged m e f)
merged_yields m has_none h = yields (event_has h)
merged_yields m (has_some h) has_none = yields (has_event h)
merged_yields Left (has_some h) (has_some l) = yields (has_event h)
merged_yields Right (has_some h) (has_some l) = yields (has_event l)
merged_yields Exclusive (has_some h) (has_some l) = fails

pub gated_has : {d : Data} {a : Kind} (c : Bool) → HasKind d (event_kind a) → HasKind (cond c d no_event) (event_kind a)
gated_has true h = h
gated_has false h = has_no_event

found_has : (k : KeyData) {rs : Rows} {l : KeyKind} {a : Kind} → HasRowKinds rs l a → HasPayload a (row_value k rs)
found_has k has_no_rows = has_none
found_has k {a = a} (has_row {l = l} {x = x} {rs = rs} i h m) = each (equal_keys k l) (found_has k m)
  where
    each : (b : Bool) → HasPayload a (row_value k rs) → HasPayload a (cond b (Some x) (row_value k rs))
    each true later = has_some h
    each false later = later

-- ## The operators

pub unary_yields : EachUnaryYields
unary_yields Not t u d h e =
    let g = only_is t bool_kind (Some bool_kind) e in
    yields_as g.1 (of_truth (λ b. answer (truth (not b))) g.0 h (λ b. yields has_bool))
unary_yields Event t u d h e = yields_as e (yields (has_event h))
unary_yields First t u d h e =
    let g = found_is (parts_of t) (λ p. Some p.0) e in
    yields_as g.2 (of_halves (λ h. answer h.0) (parts_is t g.1) h (λ x y p q. yields p))
unary_yields Second t u d h e =
    let g = found_is (parts_of t) (λ p. Some p.1) e in
    yields_as g.2 (of_halves (λ h. answer h.1) (parts_is t g.1) h (λ x y p q. yields q))
unary_yields IsEvent t u d h e =
    let g = found_is (payload_of t) (λ a. Some bool_kind) e in
    yields_as g.2 (of_payload (λ e. answer (truth (is_some e))) (payload_is t g.1) h (λ x p. yields has_bool))
unary_yields Size t u d h e =
    let g = found_is (columns_of t) (λ c. Some int_kind) e in
    yields_as g.2 (of_rows (λ rs. tested (pos (row_count rs))) (columns_is t g.1) h (λ rs p. tested_yields (pos (row_count rs))))

pub operator_yields : EachOperatorYields
operator_yields (Arithmetic o) t u v d c h l e =
    let g = only_is t int_kind (only u int_kind (Some int_kind)) e in
    let k = only_is u int_kind (Some int_kind) g.1 in
    yields_as k.1 (of_number (λ x. known (number_held c) (of_numbers o x)) g.0 h (λ x. of_number (of_numbers o x) k.0 l (numbers_yield o x)))
operator_yields (Equality o) t u v d c h l e = yields_as (only_is t u (Some bool_kind) e).1 (yields has_bool)
operator_yields (Comparison o) t u v d c h l e =
    let g = only_is t u (cond (is_ordered t) (Some bool_kind) None) e in
    each (is_ordered t) refl g.0 g.1
  where
    each : (b : Bool) → is_ordered t ≡ b → t ≡ u → cond b (Some bool_kind) None ≡ Some v → Yields v (operated (Comparison o) d c)
    each true i s k = yields_as k (of_order (λ r. answer (truth (of_comparison o r))) s h l i (λ r. yields has_bool))
    each false i s k = absurd cc
operator_yields (Logic o) t u v d c h l e =
    let g = only_is t bool_kind (only u bool_kind (Some bool_kind)) e in
    let k = only_is u bool_kind (Some bool_kind) g.1 in
    yields_as k.1 (yields (as_kind k.0 l))
operator_yields Tag t u v d c h l e =
    let g = found_is (payload_of t) (λ a. Some (event_kind u)) e in
    yields_as g.2 (of_payload (λ e. answer (event_of (option_map (λ x. c) e))) (payload_is t g.1) h (λ x p. yields (event_has (mapped_has (λ x. c) p (λ x q. l)))))
operator_yields Attach t u v d c h l e =
    let g = found_is (payload_of t) (λ a. Some (event_kind (pair_kind a u))) e in
    yields_as g.2 (of_payload (λ e. answer (event_of (option_map (λ x. pair x c) e))) (payload_is t g.1) h (λ x p. yields (event_has (mapped_has (λ x. pair x c) p (λ x q. has_pair q l)))))
operator_yields FromEvent t u v d c h l e =
    let g = found_is (payload_of t) (λ a. only a u (Some a)) e in
    let k = only_is g.0 u (Some g.0) g.2 in
    yields_as k.1 (of_payload (λ e. answer (payload_or e c)) (payload_is t g.1) h (λ x p. yields (payload_or_has p (as_kind (sym k.0) l))))
operator_yields Gate t u v d c h l e =
    let g = found_is (payload_of t) (λ a. only u bool_kind (Some t)) e in
    let k = only_is u bool_kind (Some t) g.2 in
    let is = payload_is t g.1 in
    yields_as k.1 (of_truth (λ b. answer (cond b d no_event)) k.0 l (λ b. yields (as_kind (sym is) (gated_has b (as_kind is h)))))
operator_yields (Merge m) t u v d c h l e =
    let g = found_is (payload_of t) (λ a. only t u (Some t)) e in
    let k = only_is t u (Some t) g.2 in
    let is = payload_is t g.1 in
    yields_as (ap Some (sym is) ∙ k.1) (of_payload (λ e. known (payload_held c) (merged m e)) is h (λ x p. of_payload (merged m x) (sym k.0 ∙ is) l (λ y q. merged_yields m p q)))
operator_yields Get t u v d c h l e =
    let g = found_is (columns_of t) (λ k. only u (kind_of_keys k.0) (Some (event_kind k.1))) e in
    let k = only_is u (kind_of_keys g.0.0) (Some (event_kind g.0.1)) g.2 in
    yields_as k.1 (of_rows (λ rs. known (key_held c) (λ k. answer (event_of (row_value k rs)))) (columns_is t g.1) h (λ rs p. of_key g.0.0 (λ k. answer (event_of (row_value k rs))) k.0 l (λ i. yields (event_has (found_has i p)))))

decision_has : (o : logic.Logic) (d c : Data) → decided (Logic o) d ≡ Some c → HasKind c bool_kind
decision_has And (truth false) c e = let is : truth false ≡ c = cc in subst (λ (c : Data). HasKind c bool_kind) is has_bool
decision_has Or (truth true) c e = let is : truth true ≡ c = cc in subst (λ (c : Data). HasKind c bool_kind) is has_bool
decision_has o d c e = absurd cc

pub decision_yields : EachDecisionYields
decision_yields (Logic o) t u v d c h e k =
    let g = only_is t bool_kind (only u bool_kind (Some bool_kind)) e in
    let is : bool_kind ≡ v = let i = (only_is u bool_kind (Some bool_kind) g.1).1 in cc in
    as_kind is (decision_has o d c k)
decision_yields op t u v d c h e k = absurd cc
