-- Typed lives, and outcomes made of typed parts.
use Rattle.std.proofs.Common.{ℕ, ◌≡◌, List, ◌∷◌, subst}
use Rattle.std.specs.Prelude.{⊤}
use Rattle.sf_value.specs.Values.{Kind, pair_kind, Data, pair, HasKind, has_pair, first_of, second_of}
use Rattle.sf_expr.specs.Evaluation.{Evaluated}
use Rattle.sf_expr.specs.Soundness.{Yields, yields, fails}
use Rattle.sf_mean.specs.Lives.{Step, step, wait_of, input_of, Life, after, with_inputs, relay, observed_life, fed_back, older, fed, first_input}
use Rattle.sf_mean.specs.Formulas.{at_first, first_replaced}
use Rattle.sf_mean.specs.Meaning.{Readings, Outcome, gave, faulted, changed, combined, outcome_value, as_outcome, answered_by, newest_or}
use Rattle.sf_mean.specs.Soundness.{Have, have_nothing, have_more, LifeHas, no_steps, more_steps, OutcomeHas}
use Rattle.sf_mean.proofs.TypedPrimitives.{first_has}

pub first_is : {v : Data} {a b : Kind} → HasKind v (pair_kind a b) → HasKind (first_of v) a
first_is (has_pair h k) = h

pub second_is : {v : Data} {a b : Kind} → HasKind v (pair_kind a b) → HasKind (second_of v) b
second_is (has_pair h k) = k

pub with_inputs_has : {a b : Kind} {L : Life} (f : Data → Data) → ((v : Data) → HasKind v a → HasKind (f v) b) → LifeHas L a → LifeHas (with_inputs f L) b
with_inputs_has f m no_steps = no_steps
with_inputs_has f m (more_steps {s = s} h l) = more_steps {s = step (wait_of s) (f (input_of s))} (m _ h) (with_inputs_has f m l)

pub with_first_has : {a : Kind} {v : Data} {L : Life} → HasKind v a → LifeHas L a → LifeHas (first_replaced v L) a
with_first_has i no_steps = no_steps
with_first_has {v = v} i (more_steps {s = s} {L = L} h l) = more_steps {s = step (wait_of s) (at_first L v (input_of s))} (first_has L i h) (with_first_has i l)

pub relay_has : {a b : Kind} {L : Life} {ys : List Data} → LifeHas L a → Have ys b → LifeHas (relay L ys) b
relay_has no_steps y = no_steps
relay_has (more_steps h l) have_nothing = no_steps
relay_has (more_steps {s = s} h l) (have_more {y = y} i k) = more_steps {s = step (wait_of s) y} i (relay_has l k)

pub beside_has : {a b : Kind} {L : Life} {ys : List Data} → LifeHas L a → Have ys b → LifeHas (observed_life L ys) (pair_kind a b)
beside_has no_steps y = no_steps
beside_has (more_steps h l) have_nothing = no_steps
beside_has (more_steps {s = s} h l) (have_more {y = y} i k) = more_steps {s = step (wait_of s) (pair (input_of s) y)} (has_pair h i) (beside_has l k)

pub after_has : {a : Kind} {h L : Life} (d : ℕ) → LifeHas h a → LifeHas L a → LifeHas (after h d L) a
after_has d H no_steps = H
after_has d H (more_steps {s = s} i no_steps) = more_steps {s = step d (input_of s)} i H
after_has d H (more_steps {s = s} i (more_steps {s = r} k l)) = more_steps {s = s} i (after_has d H (more_steps {s = r} k l))

fed_back_has : {b c : Kind} {v : Data} {zs : List Data} → HasKind v c → Have zs (pair_kind b c) → HasKind (fed_back v zs) c
fed_back_has h have_nothing = h
fed_back_has h (have_more i q) = second_is i

older_have : {t : Kind} {zs : List Data} → Have zs t → Have (older zs) t
older_have have_nothing = have_nothing
older_have (have_more i q) = q

pub fed_has : {a : Kind} (b : Kind) {c : Kind} {L : Life} {v : Data} {zs : List Data} → HasKind v c → LifeHas L a → Have zs (pair_kind b c) → LifeHas (fed v L zs) (pair_kind a c)
fed_has b h no_steps z = no_steps
fed_has b {v = v} {zs = zs} h (more_steps {s = s} k l) z = more_steps {s = step (wait_of s) (pair (input_of s) (fed_back v zs))} (has_pair k (fed_back_has h z)) (fed_has b h l (older_have z))

pub first_input_has : {a : Kind} (s : Step) {L : Life} → HasKind (input_of s) a → LifeHas L a → HasKind (first_input s L) a
first_input_has s h no_steps = h
first_input_has s h (more_steps {s = r} k l) = first_input_has r k l

-- ## Outcomes

pub outcome_is : {t : Kind} {q : Evaluated Data} (r : Readings) {o : Outcome} → Yields t q → as_outcome q r ≡ o → OutcomeHas o t
outcome_is {t} r (yields h) e = subst (λ o. OutcomeHas o t) e h
outcome_is {t} r fails e = subst (λ o. OutcomeHas o t) e tt

pub changed_has : {a b : Kind} {f : Data → Data} (o : Outcome) → ((v : Data) → HasKind v a → HasKind (f v) b) → OutcomeHas o a → OutcomeHas (changed f o) b
changed_has (gave y r) m h = m y h
changed_has (faulted x) m h = tt

pub combined_has : {a b c : Kind} {f : Data → Data → Data} (o q : Outcome) → ((v w : Data) → HasKind v a → HasKind w b → HasKind (f v w) c) → OutcomeHas o a → OutcomeHas q b → OutcomeHas (combined f o q) c
combined_has (gave y r) (gave z k) m h i = m y z h i
combined_has (gave y r) (faulted x) m h i = tt
combined_has (faulted x) q m h i = tt

-- what stands in the place of an outcome's value, where it is of the type or a fault
pub newest_is : {t : Kind} {q : Evaluated Data} {ys : List Data} → Yields t q → Have ys t → Yields t (newest_or q ys)
newest_is h have_nothing = h
newest_is h (have_more i k) = yields i

pub answered_has : {t : Kind} {q : Evaluated Data} (o : Outcome) → Yields t q → OutcomeHas (answered_by q o) t
answered_has (gave y r) (yields h) = h
answered_has (gave y r) fails = tt
answered_has (faulted x) h = tt

-- a life of this type, unless there was a fault before
abbrev pub LifeIf : Outcome → Life → Kind → Type 0
LifeIf (gave y r) L a = LifeHas L a
LifeIf (faulted x) L a = ⊤

pub life_if : {a : Kind} {L : Life} (o : Outcome) → LifeHas L a → LifeIf o L a
life_if (gave y r) l = l
life_if (faulted x) l = tt

pub beside_if : {a b : Kind} {L : Life} {ys : List Data} (o : Outcome) → OutcomeHas o b → LifeHas L a → Have ys b → LifeIf o (observed_life L (outcome_value o ∷ ys)) (pair_kind a b)
beside_if (gave y r) h l k = beside_has l (have_more h k)
beside_if (faulted x) h l k = tt

pub relay_if : {a b : Kind} {L : Life} {ys : List Data} (o : Outcome) → OutcomeHas o b → LifeHas L a → Have ys b → LifeIf o (relay L (outcome_value o ∷ ys)) b
relay_if (gave y r) h l k = relay_has l (have_more h k)
relay_if (faulted x) h l k = tt
