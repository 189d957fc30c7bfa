-- What primitives give has the type that the tables of types say.
use Rattle.std.proofs.Common.{cond, ℤ, ◌≡◌, ℕ, pos, [], ◌∷◌, Bool, true, false, Option, Some, None, sym, ◌∙◌, subst}
use Rattle.std.proofs.lemmas.Option.{same_Some}
use Rattle.sf_value.specs.Values.{Kind, unit_kind, bool_kind, int_kind, event_kind, Data, no_event, event, HasKind, has_unit, has_no_event, has_event}
use Rattle.sf_operator.specs.Outcomes.{Evaluated, answer, ◌>>=◌}
use Rattle.sf_operator.specs.Answers.{Yields, yields, fails}
use Rattle.sf_operator.specs.Kinds.{only, payload_of}
use Rattle.sf_operator.specs.Operations.{payload_or}
use Rattle.sf_operator.proofs.SameKinds.{same_is, only_is, found_is, payload_is}
use Rattle.sf_operator.proofs.Yielding.{as_kind, yields_as, HasPayload, has_none, has_some, tested_yields}
use Rattle.sf_term.specs.declared.form.Bare.{Bare}
use Rattle.sf_term.specs.declared.form.Bare.TheVariants.{Identity, LocalTime, Integral, Edge, NotYet, Once, Count, Pre}
use Rattle.sf_term.specs.declared.form.WithValue.{WithValue}
use Rattle.sf_term.specs.declared.form.WithValue.TheVariants.{Constant, Initially, InitialPre, InitializedPre, Now, InitialEdge, EdgeTag, Hold, DelayedHold}
use Rattle.sf_term.specs.declared.form.Timing.{Timing}
use Rattle.sf_term.specs.declared.form.Timing.TheVariants.{After, Repeatedly, Delay}
use Rattle.sf_term.specs.declared.form.Selection.{Selection}
use Rattle.sf_term.specs.declared.form.Selection.TheVariants.{TakeEvents, DropEvents}
use Rattle.sf_mean.specs.Lives.{Step, input_of, Life, time}
use Rattle.sf_mean.specs.Formulas.{span, aged, timed_formula, has_occurred, selected_formula, event_where, before, at_first, area, event_if, occurring, occurrences, counted, last_payload, bare_formula, value_formula}
use Rattle.sf_mean.specs.Typing.{bare_kind, value_kind, takes_input, timed_kind, selected_kind}
use Rattle.sf_mean.specs.Soundness.{LifeHas, no_steps, more_steps}

pub before_has : {v : Data} {a : Kind} {L : Life} → HasKind v a → LifeHas L a → HasKind (before v L) a
before_has h no_steps = h
before_has h (more_steps i l) = i

pub first_has : {x y : Data} {a : Kind} (L : Life) → HasKind x a → HasKind y a → HasKind (at_first L x y) a
first_has [] h k = h
first_has (s ∷ L) h k = k

if_has : (b : Bool) → HasKind (event_if b) (event_kind unit_kind)
if_has true = has_event has_unit
if_has false = has_no_event

when_has : {v : Data} {t : Kind} (b : Bool) → HasKind v t → HasKind (cond b (event v) no_event) (event_kind t)
when_has true h = has_event h
when_has false h = has_no_event

either_has : {x y : Data} {a : Kind} (b : Bool) → HasKind x a → HasKind y a → HasKind (cond b x y) a
either_has true h k = h
either_has false h k = k

payload_has : {d : Data} {a p : Kind} → payload_of a ≡ Some p → HasKind d a → HasPayload p (occurring d)
payload_has {a = a} {p = p} e h = each (as_kind (payload_is a e) h)
  where
    each : {d : Data} → HasKind d (event_kind p) → HasPayload p (occurring d)
    each has_no_event = has_none
    each (has_event k) = has_some k

or_has : {p : Kind} {e : Option Data} {d : Data} → HasPayload p e → HasKind d p → HasKind (payload_or e d) p
or_has has_none k = k
or_has (has_some h) k = h

last_has : {v : Data} {a p : Kind} {L : Life} → payload_of a ≡ Some p → HasKind v p → LifeHas L a → HasKind (last_payload v L) p
last_has e h no_steps = h
last_has e h (more_steps i l) = or_has (payload_has e i) (last_has e h l)

wrapped : {o : Evaluated Data} {t : Kind} → Yields t o → Yields (event_kind t) (o >>= λ v. answer (event v))
wrapped (yields h) = yields (has_event h)
wrapped fails = fails

counted_yields : (e : Option Data) (n : ℕ) → Yields (event_kind int_kind) (counted e n)
counted_yields None n = yields has_no_event
counted_yields (Some x) n = wrapped (tested_yields (pos n))

pub selected_typed : (k : Selection) (n : ℤ) {a b : Kind} (s : Step) (L : Life) → selected_kind a ≡ Some b → HasKind (input_of s) a → HasKind (selected_formula k n s L) b
selected_typed k n {a = a} s L e h =
    let found = found_is (payload_of a) (λ p. Some a) e in
    as_kind (same_Some _ _ found.2) (each k (as_kind (sym (payload_is a found.1)) has_no_event))
  where
    each : (k : Selection) → HasKind no_event a → HasKind (selected_formula k n s L) a
    each TakeEvents none = either_has (has_occurred n L) none h
    each DropEvents none = either_has (has_occurred n L) h none

pub bare_typed : (k : Bare) {a b : Kind} (s : Step) (L : Life) → bare_kind k a ≡ Some b → HasKind (input_of s) a → LifeHas L a → Yields b (bare_formula k s L)
bare_typed Identity s L e h l = yields_as e (yields h)
bare_typed LocalTime s L e h l = yields_as e (tested_yields (pos (time (s ∷ L))))
bare_typed Integral {a = a} s L e h l = yields_as (only_is a int_kind (Some int_kind) e).1 (tested_yields (area (s ∷ L)))
bare_typed Edge {a = a} s L e h l = yields_as (only_is a bool_kind (Some (event_kind unit_kind)) e).1 (yields (if_has _))
bare_typed NotYet {a = a} s L e h l =
    let found = found_is (payload_of a) (λ p. Some a) e in
    yields_as found.2 (yields (first_has L (as_kind (sym (payload_is a found.1)) has_no_event) h))
bare_typed Once s L e h l = yields (selected_typed TakeEvents (pos 1) s L e h)
bare_typed Pre s L e h l = absurd cc
bare_typed Count {a = a} s L e h l =
    let found = found_is (payload_of a) (λ p. Some (event_kind int_kind)) e in
    yields_as found.2 (counted_yields (occurring (input_of s)) (occurrences (s ∷ L)))

pub value_typed : (k : WithValue) {v : Data} {t a b : Kind} (s : Step) (L : Life) → value_kind k t a ≡ Some b → HasKind v t → HasKind (input_of s) a → LifeHas L a → HasKind (value_formula k v s L) b
value_typed Constant s L e i h l = as_kind (same_Some _ _ e) i
value_typed Initially {t = t} {a = a} s L e i h l =
    let same = only_is a t (Some t) e in
    as_kind (same.0 ∙ same_Some _ _ same.1) (first_has L (as_kind (sym same.0) i) h)
value_typed InitialPre {t = t} {a = a} s L e i h l =
    let same = only_is a t (Some t) e in
    as_kind (same.0 ∙ same_Some _ _ same.1) (before_has (as_kind (sym same.0) i) l)
value_typed InitializedPre {t = t} {a = a} s L e i h l =
    let same = only_is a t (Some t) e in
    as_kind (same.0 ∙ same_Some _ _ same.1) (before_has (as_kind (sym same.0) i) l)
value_typed Now s L e i h l = as_kind (same_Some _ _ e) (first_has L (has_event i) has_no_event)
value_typed InitialEdge {t = t} {a = a} s L e i h l =
    let same = only_is a bool_kind (only t bool_kind (Some (event_kind unit_kind))) e in
    as_kind (same_Some _ _ (only_is t bool_kind (Some (event_kind unit_kind)) same.1).1) (if_has _)
value_typed EdgeTag {t = t} {a = a} s L e i h l = as_kind (same_Some _ _ (only_is a bool_kind (Some (event_kind t)) e).1) (when_has _ i)
value_typed Hold {t = t} {a = a} s L e i h l =
    let found = found_is (payload_of a) (λ p. only p t (Some t)) e in
    let same = only_is found.0 t (Some t) found.2 in
    as_kind (same.0 ∙ same_Some _ _ same.1) (last_has found.1 (as_kind (sym same.0) i) (more_steps {s = s} h l))
value_typed DelayedHold {t = t} {a = a} s L e i h l =
    let found = found_is (payload_of a) (λ p. only p t (Some t)) e in
    let same = only_is found.0 t (Some t) found.2 in
    as_kind (same.0 ∙ same_Some _ _ same.1) (last_has found.1 (as_kind (sym same.0) i) l)

chosen_has : {x y : Data} {t : Kind} (b : Bool) → HasKind x t → HasKind y t → HasKind (cond b x y) t
chosen_has true h k = h
chosen_has false h k = k

aged_has : (q : ℕ) {v : Data} (now : ℕ) {t : Kind} {L : Life} → HasKind v t → LifeHas L t → HasKind (aged q v now L) t
aged_has q now h no_steps = h
aged_has q now h (more_steps i l) = chosen_has _ i (aged_has q now h l)

pub timed_typed : (k : Timing) (q : ℤ) {v : Data} {t a b : Kind} (s : Step) (L : Life) → takes_input k t a ≡ true → timed_kind k t ≡ Some b → HasKind v t → HasKind (input_of s) a → LifeHas L a → HasKind (timed_formula k q v s L) b
timed_typed After q s L m e h i l = as_kind (same_Some _ _ e) (when_has _ h)
timed_typed Repeatedly q s L m e h i l = as_kind (same_Some _ _ e) (when_has _ h)
timed_typed Delay q {t = t} {a = a} s L m e h i l = as_kind (same_Some _ _ e) (aged_has (span q) (time (s ∷ L)) h (subst (λ a. LifeHas (s ∷ L) a) (same_is a t m) (more_steps {s = s} i l)))

-- what comes has a type, where something does
pub data Comes : Option Data → Kind → Type 0 where
  comes_none : {p : Kind} → Comes None p
  comes_some : {x : Data} {p : Kind} → HasKind x p → Comes (Some x) p

pub occurring_comes : {d : Data} {a p : Kind} → payload_of a ≡ Some p → HasKind d a → Comes (occurring d) p
occurring_comes e h = each (payload_has e h)
  where
    each : {o : Option Data} {p : Kind} → HasPayload p o → Comes o p
    each has_none = comes_none
    each (has_some k) = comes_some k

-- so does the payload of an event
pub event_comes : {d : Data} {p : Kind} → HasKind d (event_kind p) → Comes (occurring d) p
event_comes has_no_event = comes_none
event_comes (has_event h) = comes_some h

-- an event of a value where something comes
pub event_has : {w : Data} {v : Kind} (o : Option Data) → HasKind w v → HasKind (event_where o w) (event_kind v)
event_has None h = has_no_event
event_has (Some x) h = has_event h
