-- Terms whose parts are opened down to the forms that no law looks into.
use Rattle.std.proofs.Common.{◌≡◌, Bool, true, false, IsTrue, List, [], ◌∷◌, refl, sym, ap, ◌∙◌, subst}
use mathlib.Core.Path.{ap₂, subst₂}
use Rattle.sf_value.specs.Values.{Data, number, first_of, second_of}
use Rattle.std.specs.Prelude.{Option, Some, None, pos}
use Rattle.sf_value.specs.declared.fault.ValueFault.{ValueFault}
use Rattle.sf_func.specs.Registries.{AnswersByName}
use Rattle.sf_expr.specs.Expressions.{Pattern, Expression, Function}
use Rattle.sf_expr.specs.Evaluation.{Evaluated, answer, failed, eval, apply}
use Rattle.sf_term.specs.declared.form.Join.{Join}
use Rattle.sf_term.specs.declared.form.Join.TheVariants.{InSequence}
use Rattle.sf_term.specs.declared.form.Side.{Side}
use Rattle.sf_term.specs.declared.form.Heading.{Heading}
use Rattle.sf_term.specs.declared.form.Heading.TheVariants.{LoopPre, Initialized, Replaced, Followed}
use Rattle.sf_term.specs.declared.form.Observation.{Observation}
use Rattle.sf_term.specs.declared.form.Switching.TheVariants.{Basic, Recurring}
use Rattle.sf_term.specs.Trees.{Primitive, Extent, Term, primitive, reference, joined, sided, headed, transformed, switching, continuing, staged, gathered, releasing, editing}
use Rattle.sf_mean.specs.Lives.{Step, input_of, Life, Environment, scope_around, bind, with_inputs, relay, first_input, fed}
use Rattle.sf_mean.specs.Formulas.{at_first, first_replaced, occurring, side_of, side_replaced, formula}
use Rattle.sf_mean.specs.Meaning.{Readings, Outcome, gave, faulted, changed, combined, outcome_value, as_outcome, answered_by, newest_or, recorded, Cost, no_cost, both_costs, over, over_stages, one_term, text_cost, left_life, right_life, join_value, switched_value, event_beside, last_event, since_event, unless_faulted, without_event}

-- what stored functions answer, and what a form that no law looks into gives at a step
pub record Leaves : Type 1 where
  pub functions : AnswersByName
  pub leaf : Term → Environment → Step → Life → Outcome → Cost → Type 0

-- the forms that no law looks into
abbrev pub is_leaf : Term → Bool
is_leaf (primitive p) = false
is_leaf (reference r) = true
is_leaf (joined j f g) = false
is_leaf (sided d t) = false
is_leaf (headed h i t) = false
is_leaf (transformed f t) = false
is_leaf (switching w t p u) = false
is_leaf (continuing w t q k p u) = true
is_leaf (gathered i) = true
is_leaf (releasing w i q k p u) = true
is_leaf (editing w i k p u) = true
is_leaf (staged x f g) = false

-- whether the constant at a head comes before the part: all but that of `fby` do
abbrev pub stands_first : Heading → Bool
stands_first LoopPre = true
stands_first Initialized = true
stands_first Replaced = true
stands_first Followed = false

-- Where a switch stands after a life: it waits for an event, or it had one with this payload and its body has lived M since.
pub data Stand : Type 0 where
  waiting : Stand
  began : Data → (M : Life) → Stand

-- where a switch that waited stands after a step at which there was this payload, if there was one
abbrev pub stand_after : Step → Option Data → Stand
stand_after s None = waiting
stand_after s (Some v) = began v (s ∷ [])

mutual
  pub data Part (Q : Leaves) : Term → Environment → Life → Outcome → Cost → Type 0 where
    part : {t : Term} {e : Environment} {s : Step} {L : Life} {ys : List Data} {o : Outcome} {c : Cost}
        → Parts Q t e L ys → At Q t e s L o c → Part Q t e (s ∷ L) o c

  pub data Parts (Q : Leaves) : Term → Environment → Life → List Data → Type 0 where
    begins : {t : Term} {e : Environment} → Parts Q t e [] []
    then_gave : {t : Term} {e : Environment} {s : Step} {L : Life} {y : Data} {r : Readings} {ys : List Data} {c : Cost}
        → Parts Q t e L ys → At Q t e s L (gave y r) c → Parts Q t e (s ∷ L) (y ∷ ys)

  pub data At (Q : Leaves) : Term → Environment → Step → Life → Outcome → Cost → Type 0 where
    at_leaf : {t : Term} {e : Environment} {s : Step} {L : Life} {o : Outcome} {c : Cost} → IsTrue (is_leaf t) → Q.leaf t e s L o c → At Q t e s L o c
    at_primitive : {p : Primitive} {e : Environment} {s : Step} {L : Life}
        → At Q (primitive p) e s L (as_outcome (formula p (scope_around Q.functions e) s L) (recorded p s)) one_term
    at_join : {j : Join} {f g : Term} {e : Environment} {s : Step} {L : Life} {ys : List Data} {o o' : Outcome} {c c' : Cost}
        → Parts Q f e (left_life j L) ys
        → Part Q f e (left_life j (s ∷ L)) o c
        → Then Q o g e (right_life j (s ∷ L) (outcome_value o ∷ ys)) o' c'
        → At Q (joined j f g) e s L (combined (join_value j) o o') (over (both_costs c c'))
    at_stages : {x : Extent} {f g : Term} {e : Environment} {s : Step} {L : Life} {ys : List Data} {o o' : Outcome} {c c' : Cost}
        → Parts Q f e L ys
        → Part Q f e (s ∷ L) o c
        → Then Q o g e (relay (s ∷ L) (outcome_value o ∷ ys)) o' c'
        → At Q (staged x f g) e s L (combined (join_value InSequence) o o') (over_stages x (both_costs c c'))
    at_side : {d : Side} {t : Term} {e : Environment} {s : Step} {L : Life} {o : Outcome} {c : Cost}
        → Part Q t e (with_inputs (side_of d) (s ∷ L)) o c
        → At Q (sided d t) e s L (changed (side_replaced d (input_of s)) o) (over c)
    at_loop : {i : Expression} {t : Term} {e : Environment} {v : Data} {s : Step} {L : Life} {zs : List Data} {o : Outcome} {c : Cost}
        → eval i (scope_around Q.functions e) ≡ answer v
        → Rounds Q v t e L zs
        → Part Q t e (fed v (s ∷ L) zs) o c
        → At Q (headed LoopPre i t) e s L (changed first_of o) (over c)
    at_initialized : {i : Expression} {t : Term} {e : Environment} {v : Data} {s : Step} {L : Life} {o : Outcome} {c : Cost}
        → eval i (scope_around Q.functions e) ≡ answer v
        → Part Q t e (s ∷ L) o c
        → At Q (headed Initialized i t) e s L (changed (at_first L v) o) (over c)
    at_replaced : {i : Expression} {t : Term} {e : Environment} {v : Data} {s : Step} {L : Life} {o : Outcome} {c : Cost}
        → eval i (scope_around Q.functions e) ≡ answer v
        → Part Q t e (first_replaced v (s ∷ L)) o c
        → At Q (headed Replaced i t) e s L o (over c)
    at_followed : {i : Expression} {t : Term} {e : Environment} {s : Step} {L : Life} {ys : List Data} {o : Outcome} {c : Cost}
        → Parts Q t e L ys
        → Part Q t e (s ∷ L) o c
        → At Q (headed Followed i t) e s L (answered_by (newest_or (eval i (scope_around Q.functions e)) ys) o) (over c)
    at_constant : {h : Heading} {i : Expression} {t : Term} {e : Environment} {x : ValueFault} {s : Step}
        → IsTrue (stands_first h)
        → eval i (scope_around Q.functions e) ≡ failed x
        → At Q (headed h i t) e s [] (faulted x) (over (text_cost t))
    at_transformed : {f : Function} {t : Term} {e : Environment} {v : Data} {s : Step} {L : Life} {o : Outcome} {c : Cost}
        → apply f (first_input s L) (scope_around Q.functions e) ≡ answer v
        → Part Q t e (first_replaced v (s ∷ L)) o c
        → At Q (transformed f t) e s L o (over c)
    at_function : {f : Function} {t : Term} {e : Environment} {x : ValueFault} {s : Step}
        → apply f (input_of s) (scope_around Q.functions e) ≡ failed x
        → At Q (transformed f t) e s [] (faulted x) (over (text_cost t))
    at_switch : {w : Observation} {t u : Term} {p : Pattern} {e : Environment} {s : Step} {L : Life} {st : Stand} {o : Outcome} {c : Cost}
        → Watches Q t e L st
        → Turns Q w t p u e s L st o c
        → At Q (switching (Basic w) t p u) e s L o c
    at_recurring : {w : Observation} {t u : Term} {p : Pattern} {e : Environment} {s : Step} {L : Life} {o o' : Outcome} {c c' : Cost}
        → Runs Q t p u e (last_event L) (with_inputs first_of (s ∷ since_event L)) o c
        → Bodies Q w p u e (without_event s) o (unless_faulted o (event_beside s)) o' c'
        → At Q (switching (Recurring w) t p u) e s L o' (over (both_costs c c'))

  pub data Then (Q : Leaves) : Outcome → Term → Environment → Life → Outcome → Cost → Type 0 where
    then_part : {t : Term} {e : Environment} {L : Life} {y : Data} {r : Readings} {o : Outcome} {c : Cost}
        → Part Q t e L o c → Then Q (gave y r) t e L o c
    then_stops : {t : Term} {e : Environment} {L : Life} {x : ValueFault} → Then Q (faulted x) t e L (faulted x) (text_cost t)

  pub data Rounds (Q : Leaves) : Data → Term → Environment → Life → List Data → Type 0 where
    no_round : {v : Data} {t : Term} {e : Environment} → Rounds Q v t e [] []
    one_round : {v : Data} {t : Term} {e : Environment} {s : Step} {L : Life} {z : Data} {r : Readings} {zs : List Data} {c : Cost}
        → Rounds Q v t e L zs
        → Part Q t e (fed v (s ∷ L) zs) (gave z r) c
        → Rounds Q v t e (s ∷ L) (z ∷ zs)

  -- where a switch stands after a life of its source
  pub data Watches (Q : Leaves) : Term → Environment → Life → Stand → Type 0 where
    watch_begins : {t : Term} {e : Environment} → Watches Q t e [] waiting
    then_watched : {t : Term} {e : Environment} {s : Step} {L : Life} {y : Data} {r : Readings} {c : Cost} {st : Stand}
        → Watches Q t e L waiting
        → Part Q t e (s ∷ L) (gave y r) c
        → stand_after s (occurring (second_of y)) ≡ st
        → Watches Q t e (s ∷ L) st
    fired_before : {t : Term} {e : Environment} {s : Step} {L M : Life} {v : Data}
        → Watches Q t e L (began v M)
        → Watches Q t e (s ∷ L) (began v (s ∷ M))

  -- a switch's next step
  pub data Turns (Q : Leaves) : Observation → Term → Pattern → Term → Environment → Step → Life → Stand → Outcome → Cost → Type 0 where
    turn_waits : {w : Observation} {t u : Term} {p : Pattern} {e : Environment} {s : Step} {L : Life} {o o' : Outcome} {c c' : Cost}
        → Part Q t e (s ∷ L) o c
        → Switches Q w p u e s o o' c'
        → Turns Q w t p u e s L waiting o' (over (both_costs c c'))
    turn_body : {w : Observation} {t u : Term} {p : Pattern} {e : Environment} {s : Step} {L M : Life} {v : Data} {o : Outcome} {c : Cost}
        → Part Q u (bind p v e) (s ∷ M) o c
        → Turns Q w t p u e s L (began v M) o c

  -- what comes after the source
  pub data Switches (Q : Leaves) : Observation → Pattern → Term → Environment → Step → Outcome → Outcome → Cost → Type 0 where
    switch_stops : {w : Observation} {u : Term} {p : Pattern} {e : Environment} {s : Step} {x : ValueFault} → Switches Q w p u e s (faulted x) (faulted x) no_cost
    switch_goes : {w : Observation} {u : Term} {p : Pattern} {e : Environment} {s : Step} {y : Data} {r : Readings} {o : Outcome} {c : Cost}
        → Bodies Q w p u e s (gave (first_of y) r) (occurring (second_of y)) o c
        → Switches Q w p u e s (gave y r) o c

  -- what runs in a recurring switch, where the last event had this payload
  pub data Runs (Q : Leaves) : Term → Pattern → Term → Environment → Option Data → Life → Outcome → Cost → Type 0 where
    runs_first : {t u : Term} {p : Pattern} {e : Environment} {L : Life} {o : Outcome} {c : Cost} → Part Q t e L o c → Runs Q t p u e None L o c
    runs_body : {t u : Term} {p : Pattern} {e : Environment} {L : Life} {v : Data} {o : Outcome} {c : Cost} → Part Q u (bind p v e) L o c → Runs Q t p u e (Some v) L o c

  -- what comes of the payload, if there is one
  pub data Bodies (Q : Leaves) : Observation → Pattern → Term → Environment → Step → Outcome → Option Data → Outcome → Cost → Type 0 where
    no_body : {w : Observation} {u : Term} {p : Pattern} {e : Environment} {s : Step} {o : Outcome} → Bodies Q w p u e s o None o no_cost
    body_begins : {w : Observation} {u : Term} {p : Pattern} {e : Environment} {s : Step} {o o' : Outcome} {v : Data} {c : Cost}
        → Part Q u (bind p v e) (s ∷ []) o' c
        → Bodies Q w p u e s o (Some v) (combined (switched_value w) o o') c

abbrev pub Same : Outcome → Outcome → Cost → Cost → Type 0
Same a b c d = (a ≡ b) × (c ≡ d)

abbrev pub the_answer : Evaluated Data → Data
the_answer (answer v) = v
the_answer (failed x) = number (pos 0)

abbrev pub the_fault : ValueFault → Evaluated Data → ValueFault
the_fault y (answer v) = y
the_fault y (failed x) = x

pub no_truth : false ≡ true → ⊥
no_truth e = cc

-- a switch that had fired, one step later
abbrev pub later_stand : Step → Stand → Stand
later_stand s waiting = waiting
later_stand s (began v M) = began v (s ∷ M)

not_begun_yet : {v : Data} {M : Life} → waiting ≡ began v M → ⊥
not_begun_yet e = cc

pub no_fault : {v : Data} {x : ValueFault} → answer v ≡ failed x → ⊥
no_fault e = cc

-- leaves give one outcome at most
abbrev pub OneLeaf : Leaves → Type 0
OneLeaf Q = (t : Term) (e : Environment) (s : Step) (L : Life) (a b : Outcome) (c d : Cost) → Q.leaf t e s L a c → Q.leaf t e s L b d → Same a b c d

module _ (Q : Leaves) (one : OneLeaf Q) where
  mutual
    pub once : {t : Term} {e : Environment} {L : Life} {a b : Outcome} {c d : Cost} → Part Q t e L a c → Part Q t e L b d → Same a b c d
    once (part A B) (part A' B') = once_at B B'

    pub onces : {t : Term} {e : Environment} {L : Life} {ys zs : List Data} → Parts Q t e L ys → Parts Q t e L zs → ys ≡ zs
    onces begins begins = refl
    onces (then_gave A B) (then_gave A' B') = ap₂ (λ y ys. y ∷ ys) (ap outcome_value (once_at B B').0) (onces A A')

    pub once_at : {t : Term} {e : Environment} {s : Step} {L : Life} {a b : Outcome} {c d : Cost} → At Q t e s L a c → At Q t e s L b d → Same a b c d
    once_at (at_leaf h A) (at_leaf h' B) = one _ _ _ _ _ _ _ _ A B
    once_at (at_leaf h A) at_primitive = absurd (no_truth h)
    once_at (at_leaf h A) (at_join B C D) = absurd (no_truth h)
    once_at (at_leaf h A) (at_stages B C D) = absurd (no_truth h)
    once_at (at_leaf h A) (at_side B) = absurd (no_truth h)
    once_at (at_leaf h A) (at_loop B C D) = absurd (no_truth h)
    once_at (at_leaf h A) (at_initialized B C) = absurd (no_truth h)
    once_at (at_leaf h A) (at_replaced B C) = absurd (no_truth h)
    once_at (at_leaf h A) (at_followed B C) = absurd (no_truth h)
    once_at (at_leaf h A) (at_constant B C) = absurd (no_truth h)
    once_at (at_leaf h A) (at_transformed B C) = absurd (no_truth h)
    once_at (at_leaf h A) (at_function B) = absurd (no_truth h)
    once_at (at_leaf h A) (at_switch B C) = absurd (no_truth h)
    once_at (at_leaf h A) (at_recurring B C) = absurd (no_truth h)
    once_at at_primitive (at_leaf h A) = absurd (no_truth h)
    once_at (at_join B C D) (at_leaf h A) = absurd (no_truth h)
    once_at (at_stages B C D) (at_leaf h A) = absurd (no_truth h)
    once_at (at_side B) (at_leaf h A) = absurd (no_truth h)
    once_at (at_loop B C D) (at_leaf h A) = absurd (no_truth h)
    once_at (at_initialized B C) (at_leaf h A) = absurd (no_truth h)
    once_at (at_replaced B C) (at_leaf h A) = absurd (no_truth h)
    once_at (at_followed B C) (at_leaf h A) = absurd (no_truth h)
    once_at (at_constant B C) (at_leaf h A) = absurd (no_truth h)
    once_at (at_transformed B C) (at_leaf h A) = absurd (no_truth h)
    once_at (at_function B) (at_leaf h A) = absurd (no_truth h)
    once_at (at_switch B C) (at_leaf h A) = absurd (no_truth h)
    once_at (at_recurring B C) (at_leaf h A) = absurd (no_truth h)
    once_at at_primitive at_primitive = (refl, refl)
    once_at (at_join {j = j} {g = g} {e = e} {s = s} {L = L} A B C) (at_join {ys = zs} {o = q} {o' = b} {c' = d} A' B' C') =
        let e1 = onces A A' in
        let e2 = once B B' in
        let N : Outcome → List Data → Type 0 = λ q l. Then Q q g e (right_life j (s ∷ L) (outcome_value q ∷ l)) b d in
        let e3 = once_then C (subst₂ N (sym e2.0) (sym e1) C') in
        (ap₂ (combined (join_value j)) e2.0 e3.0, ap₂ (λ x y. over (both_costs x y)) e2.1 e3.1)
    once_at (at_stages {x = x} {g = g} {e = e} {s = s} {L = L} A B C) (at_stages {ys = zs} {o = q} {o' = b} {c' = d} A' B' C') =
        let e1 = onces A A' in
        let e2 = once B B' in
        let N : Outcome → List Data → Type 0 = λ q l. Then Q q g e (relay (s ∷ L) (outcome_value q ∷ l)) b d in
        let e3 = once_then C (subst₂ N (sym e2.0) (sym e1) C') in
        (ap₂ (combined (join_value InSequence)) e2.0 e3.0, ap₂ (λ a b. over_stages x (both_costs a b)) e2.1 e3.1)
    once_at (at_side {d = d} {s = s} A) (at_side B) = let r = once A B in (ap (changed (side_replaced d (input_of s))) r.0, ap over r.1)
    once_at (at_loop {t = t} {e = e} {v = v} {s = s} {L = L} h A B) (at_loop {v = w} {zs = zs} {o = b} {c = d} h' A' B') =
        let ev : w ≡ v = ap the_answer (sym h' ∙ h) in
        let R : Data → Type 0 = λ x. Rounds Q x t e L zs in
        let e1 = once_rounds A (subst R ev A') in
        let N : Data → List Data → Type 0 = λ x l. Part Q t e (fed x (s ∷ L) l) b d in
        let e2 = once B (subst₂ N ev (sym e1) B') in
        (ap (changed first_of) e2.0, ap over e2.1)
    once_at (at_initialized {L = L} h A) (at_initialized {o = b} h' B) =
        let q = once A B in
        (ap₂ (λ x o. changed (at_first L x) o) (ap the_answer (sym h ∙ h')) q.0, ap over q.1)
    once_at (at_initialized h A) (at_constant z h') = absurd (no_fault (sym h ∙ h'))
    once_at (at_constant z h) (at_initialized h' A) = absurd (no_fault (sym h' ∙ h))
    once_at (at_replaced {t = t} {e = e} {v = v} {s = s} {L = L} h A) (at_replaced {v = w} {o = b} {c = d} h' B) =
        let ev : w ≡ v = ap the_answer (sym h' ∙ h) in
        let N : Data → Type 0 = λ x. Part Q t e (first_replaced x (s ∷ L)) b d in
        let q = once A (subst N ev B) in
        (q.0, ap over q.1)
    once_at (at_replaced h A) (at_constant z h') = absurd (no_fault (sym h ∙ h'))
    once_at (at_constant z h) (at_replaced h' A) = absurd (no_fault (sym h' ∙ h))
    once_at (at_loop h A B) (at_constant z h') = absurd (no_fault (sym h ∙ h'))
    once_at (at_constant z h) (at_loop h' A B) = absurd (no_fault (sym h' ∙ h))
    once_at (at_followed {i = i} {e = e} A B) (at_followed A' B') =
        let q = once B B' in
        (ap₂ (λ ys o. answered_by (newest_or (eval i (scope_around Q.functions e)) ys) o) (onces A A') q.0, ap over q.1)
    once_at (at_followed A B) (at_constant z h) = absurd (no_truth z)
    once_at (at_constant z h) (at_followed A B) = absurd (no_truth z)
    once_at (at_constant {x = x} z h) (at_constant z' h') = (ap (λ v. faulted (the_fault x v)) (sym h ∙ h'), refl)
    once_at (at_transformed {t = t} {e = e} {v = v} {s = s} {L = L} h A) (at_transformed {v = w} {o = b} {c = d} h' B) =
        let ev : w ≡ v = ap the_answer (sym h' ∙ h) in
        let N : Data → Type 0 = λ x. Part Q t e (first_replaced x (s ∷ L)) b d in
        let q = once A (subst N ev B) in
        (q.0, ap over q.1)
    once_at (at_transformed h A) (at_function h') = absurd (no_fault (sym h ∙ h'))
    once_at (at_function h) (at_transformed h' A) = absurd (no_fault (sym h' ∙ h))
    once_at (at_function {x = x} h) (at_function h') = (ap (λ v. faulted (the_fault x v)) (sym h ∙ h'), refl)
    once_at (at_switch {w = w} {t = t} {u = u} {p = p} {e = e} {s = s} {L = L} A B) (at_switch {o = b} {c = d} A' B') =
        let N : Stand → Type 0 = λ st. Turns Q w t p u e s L st b d in
        once_turns B (subst N (sym (once_watches A A')) B')
    once_at (at_recurring {w = w} {u = u} {p = p} {e = e} {s = s} A B) (at_recurring {o' = b} {c' = d} A' B') =
        let e1 = once_runs A A' in
        let N : Outcome → Type 0 = λ o. Bodies Q w p u e (without_event s) o (unless_faulted o (event_beside s)) b d in
        let e2 = once_bodies B (subst N (sym e1.0) B') in
        (e2.0, ap₂ (λ x y. over (both_costs x y)) e1.1 e2.1)

    once_runs : {t u : Term} {p : Pattern} {e : Environment} {q : Option Data} {L : Life} {a b : Outcome} {c d : Cost} → Runs Q t p u e q L a c → Runs Q t p u e q L b d → Same a b c d
    once_runs (runs_first A) (runs_first B) = once A B
    once_runs (runs_body A) (runs_body B) = once A B

    pub once_then : {t : Term} {e : Environment} {L : Life} {o a b : Outcome} {c d : Cost} → Then Q o t e L a c → Then Q o t e L b d → Same a b c d
    once_then (then_part A) (then_part B) = once A B
    once_then then_stops then_stops = (refl, refl)

    pub once_rounds : {v : Data} {t : Term} {e : Environment} {L : Life} {ys zs : List Data} → Rounds Q v t e L ys → Rounds Q v t e L zs → ys ≡ zs
    once_rounds no_round no_round = refl
    once_rounds (one_round {v = v} {t = t} {e = e} {s = s} {L = L} A B) (one_round {z = z} {r = r} {c = d} A' B') =
        let e1 = once_rounds A A' in
        let N : List Data → Type 0 = λ l. Part Q t e (fed v (s ∷ L) l) (gave z r) d in
        let e2 = once B (subst N (sym e1) B') in
        ap₂ (λ y ys. y ∷ ys) (ap outcome_value e2.0) e1

    pub once_watches : {t : Term} {e : Environment} {L : Life} {a b : Stand} → Watches Q t e L a → Watches Q t e L b → a ≡ b
    once_watches watch_begins watch_begins = refl
    once_watches (then_watched {s = s} A B h) (then_watched A' B' h') = sym h ∙ ap (λ o. stand_after s (occurring (second_of (outcome_value o)))) (once B B').0 ∙ h'
    once_watches (then_watched A B h) (fired_before A') = absurd (not_begun_yet (once_watches A A'))
    once_watches (fired_before A) (then_watched A' B' h') = absurd (not_begun_yet (sym (once_watches A A')))
    once_watches (fired_before {s = s} A) (fired_before A') = ap (later_stand s) (once_watches A A')

    once_turns : {w : Observation} {t u : Term} {p : Pattern} {e : Environment} {s : Step} {L : Life} {st : Stand} {a b : Outcome} {c d : Cost} → Turns Q w t p u e s L st a c → Turns Q w t p u e s L st b d → Same a b c d
    once_turns (turn_waits {w = w} {u = u} {p = p} {e = e} {s = s} A C) (turn_waits {o' = b} {c' = d} A' C') =
        let e2 = once A A' in
        let N : Outcome → Type 0 = λ q. Switches Q w p u e s q b d in
        let e3 = once_switches C (subst N (sym e2.0) C') in
        (e3.0, ap₂ (λ x y. over (both_costs x y)) e2.1 e3.1)
    once_turns (turn_body A) (turn_body B) = once A B

    once_switches : {w : Observation} {u : Term} {p : Pattern} {e : Environment} {s : Step} {o a b : Outcome} {c d : Cost} → Switches Q w p u e s o a c → Switches Q w p u e s o b d → Same a b c d
    once_switches switch_stops switch_stops = (refl, refl)
    once_switches (switch_goes A) (switch_goes B) = once_bodies A B

    once_bodies : {w : Observation} {u : Term} {p : Pattern} {e : Environment} {s : Step} {o : Outcome} {q : Option Data} {a b : Outcome} {c d : Cost} → Bodies Q w p u e s o q a c → Bodies Q w p u e s o q b d → Same a b c d
    once_bodies no_body no_body = (refl, refl)
    once_bodies (body_begins {w = w} {o = o} A) (body_begins B) = let r = once A B in (ap (combined (switched_value w) o) r.0, r.1)
