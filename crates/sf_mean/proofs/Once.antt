-- One outcome at most.
use Rattle.std.proofs.Common.{◌≡◌, List, ◌∷◌, refl, sym, ap, ◌∙◌, subst, Option}
use mathlib.Core.Path.{ap₂, subst₂}
use Rattle.sf_value.specs.Values.{Data, pair, first_of, second_of}
use Rattle.sf_value.specs.declared.fault.ValueFault.{ValueFault}
use Rattle.sf_value.specs.declared.fault.ValueFault.TheVariants.{Overflow}
use Rattle.sf_expr.specs.Evaluation.{Evaluated, answer, failed, eval}
use Rattle.sf_term.specs.declared.form.Join.TheVariants.{InSequence}
use Rattle.sf_term.specs.declared.form.Observation.{Observation}
use Rattle.sf_term.specs.Trees.{Term}
use Rattle.sf_mean.specs.Lives.{Step, input_of, Life, Process, closure, Members, no_members, Environment, scope_around, relay, observed_life, fed}
use Rattle.sf_mean.specs.Collections.{leading_row}
use Rattle.std.specs.Prelude.{option_map}
use Rattle.sf_mean.specs.Formulas.{at_first, occurring, side_replaced}
use Rattle.sf_mean.specs.Meaning.{Network, Outcome, gave, faulted, changed, combined, outcome_value, answered_by, newest_or, Cost, both_costs, over, over_first, Made, nothing_made, right_life, join_value, Watched, itself, observed, Takeover, Standing, waits, fired, stands_after, switched_value, body_of, whenever, continuing_body, body_with_members, edit_of, since_edit, Gives, gives, Outputs, not_begun, and_gave, Sample, of_constants, of_form, of_resumed, Form, of_primitive, of_reference, of_join, of_side, of_loop, of_initialized, of_replaced, of_followed, of_transformed, of_switch, of_continuing, of_recurring, of_gathered, of_releasing, of_editing, of_stages, over_stages, event_beside, unless_faulted, without_event, Next, goes_on, stops, Loops, no_loop, and_looped, Sees, beside_values, by_observer, Since, at_start, watched, had_fired, SwitchTurn, while_waiting, as_body, Switched, after_fault, after_value, Fires, no_event_yet, event_now, Each, no_more, one_more, Others, others_go_on, others_stop, Edited, no_edit, edit_failed, edit_now, observed_members, by_members_observer, Tables, no_tables, and_table}

-- two outcomes are one, at one cost
abbrev pub Same : Outcome → Outcome → Cost → Cost → Type 0
Same a b c d = (a ≡ b) × (c ≡ d)

abbrev pub answered : {A : Type 0} → A → Evaluated A → A
answered x (answer a) = a
answered x (failed f) = x

abbrev pub fault_of : {A : Type 0} → Evaluated A → ValueFault
fault_of (answer a) = Overflow
fault_of (failed f) = f

-- a switch that had fired, one step later
abbrev later_standing : Step → Standing → Standing
later_standing s waits = waits
later_standing s (fired Q M) = fired Q (s ∷ M)

pub not_both : {Q : Process} {M : Life} → waits ≡ fired Q M → ⊥
not_both h = cc

module _ (n : Network) where
  mutual
    pub once : {P : Process} {L : Life} {a b : Outcome} {c d : Cost} → Gives n P L a c → Gives n P L b d → Same a b c d
    once (gives A B) (gives A' B') = once_sample B B'

    pub onces : {P : Process} {L : Life} {ys zs : List Data} → Outputs n P L ys → Outputs n P L zs → ys ≡ zs
    onces not_begun not_begun = refl
    onces (and_gave A B) (and_gave A' B') = ap₂ (λ y ys. y ∷ ys) (ap outcome_value (once_sample B B').0) (onces A A')

    pub once_sample : {P : Process} {s : Step} {L : Life} {a b : Outcome} {c d : Cost} → Sample n P s L a c → Sample n P s L b d → Same a b c d
    once_sample (of_constants h) (of_constants h') = (ap (λ q. faulted (fault_of q)) (sym h ∙ h'), refl)
    once_sample (of_constants h) (of_form h' F) = absurd cc
    once_sample (of_form h F) (of_constants h') = absurd cc
    once_sample (of_form {t = t} {e = e} {s = s} {L = L} {m = m} h F) (of_form {o = b} {c = d} h' F') =
        let N : Made → Type 0 = λ m. Form n t e m s L b d in
        once_form F (subst N (ap (answered nothing_made) (sym h' ∙ h)) F')
    once_sample (of_resumed A) (of_resumed B) = once A B

    pub once_form : {t : Term} {e : Environment} {m : Made} {s : Step} {L : Life} {a b : Outcome} {c d : Cost} → Form n t e m s L a c → Form n t e m s L b d → Same a b c d
    once_form (of_primitive h) (of_primitive h') = (sym h ∙ h', refl)
    once_form (of_reference {L = L} A) (of_reference B) = let q = once A B in (q.0, ap (over_first L) q.1)
    once_form (of_join {j = j} {g = g} {e = e} {s = s} {L = L} A B C) (of_join {ys = zs} {o = q} {o' = b} {c' = d} A' B' C') =
        let e1 = onces A A' in
        let e2 = once B B' in
        let N : Outcome → List Data → Type 0 = λ q l. Next n q g e (right_life j (s ∷ L) (outcome_value q ∷ l)) b d in
        let e3 = once_next C (subst₂ N (sym e2.0) (sym e1) C') in
        (ap₂ (combined (join_value j)) e2.0 e3.0, ap₂ (λ x y. over (both_costs x y)) e2.1 e3.1)
    once_form (of_side {d = d} {s = s} A) (of_side B) = let q = once A B in (ap (changed (side_replaced d (input_of s))) q.0, ap over q.1)
    once_form (of_loop {t = t} {e = e} {v = v} {s = s} {L = L} A B) (of_loop {o = b} {c = d} A' B') =
        let N : List Data → Type 0 = λ zs. Gives n (closure t e) (fed v (s ∷ L) zs) b d in
        let q = once B (subst N (sym (once_loops A A')) B') in
        (ap (changed first_of) q.0, ap over q.1)
    once_form (of_initialized {v = v} {L = L} A) (of_initialized B) = let q = once A B in (ap (changed (at_first L v)) q.0, ap over q.1)
    once_form (of_replaced A) (of_replaced B) = let q = once A B in (q.0, ap over q.1)
    once_form (of_followed {i = i} {e = e} A B) (of_followed A' B') =
        let q = once B B' in
        (ap₂ (λ ys o. answered_by (newest_or (eval i (scope_around n.functions e)) ys) o) (onces A A') q.0, ap over q.1)
    once_form (of_transformed A) (of_transformed B) = let q = once A B in (q.0, ap over q.1)
    once_form (of_switch {w = w} {t = t} {u = u} {p = p} {e = e} {s = s} {L = L} A B) (of_switch {o = b} {c = c} A' B') =
        let N : Standing → Type 0 = λ st. SwitchTurn n w (itself (closure t e)) (whenever (body_of p u e)) s L st b c in
        once_turn B (subst N (sym (once_since A A')) B')
    once_form (of_continuing {w = w} {t = t} {q = q} {u = u} {k = k} {p = p} {e = e} {s = s} {L = L} A B) (of_continuing {o = b} {c = c} A' B') =
        let N : Standing → Type 0 = λ st. SwitchTurn n w (observed (closure t e) q e) (continuing_body k (closure t e) p u e) s L st b c in
        once_turn B (subst N (sym (once_since A A')) B')
    once_form (of_recurring {w = w} {u = u} {p = p} {e = e} {s = s} A B) (of_recurring {o' = b} {c' = d} A' B') =
        let e1 = once A A' in
        let N : Outcome → Type 0 = λ o. Fires n w (body_of p u e) (without_event s) o (unless_faulted o (event_beside s)) b d in
        let e2 = once_fires B (subst N (sym e1.0) B') in
        (e2.0, ap₂ (λ x y. over (both_costs x y)) e1.1 e2.1)
    once_form (of_gathered A) (of_gathered B) = let q = once_each A B in (q.0, ap over q.1)
    once_form (of_releasing {w = w} {q = q} {u = u} {k = k} {p = p} {e = e} {ms = ms} {s = s} {L = L} A B) (of_releasing {o = b} {c = c} A' B') =
        let N : Standing → Type 0 = λ st. SwitchTurn n w (observed_members ms q e) (body_with_members k ms p u e) s L st b c in
        once_turn B (subst N (sym (once_since A A')) B')
    once_form (of_editing {w = w} {u = u} {k = k} {p = p} {e = e} {qs = qs} {s = s} {L = L} H A B) (of_editing {qs = rs} {o = a} {o' = b} {c = c} {c' = d} H' A' B') =
        let same : rs ≡ qs = ap (answered no_members) (sym H' ∙ H) in
        let M : Members → Type 0 = λ q. Each n q (without_event s) (since_edit L) a c in
        let e1 = once_each A (subst M same A') in
        let N : Members → Outcome → Type 0 = λ q o. Edited n w (option_map (edit_of n.functions k p u e (since_edit L) s q) (unless_faulted o (event_beside s))) (without_event s) o b d in
        let e2 = once_edited B (subst₂ N same (sym e1.0) B') in
        (e2.0, ap₂ (λ x y. over (both_costs x y)) e1.1 e2.1)
    once_form (of_stages {x = x} {g = g} {e = e} {s = s} {L = L} A B C) (of_stages {ys = zs} {o = q} {o' = b} {c' = d} A' B' C') =
        let e1 = onces A A' in
        let e2 = once B B' in
        let N : Outcome → List Data → Type 0 = λ q l. Next n q g e (relay (s ∷ L) (outcome_value q ∷ l)) b d in
        let e3 = once_next C (subst₂ N (sym e2.0) (sym e1) C') in
        (ap₂ (combined (join_value InSequence)) e2.0 e3.0, ap₂ (λ a b. over_stages x (both_costs a b)) e2.1 e3.1)

    pub once_next : {q : Outcome} {t : Term} {e : Environment} {L : Life} {a b : Outcome} {c d : Cost} → Next n q t e L a c → Next n q t e L b d → Same a b c d
    once_next (goes_on A) (goes_on B) = once A B
    once_next stops stops = (refl, refl)

    pub once_loops : {v : Data} {P : Process} {L : Life} {ys zs : List Data} → Loops n v P L ys → Loops n v P L zs → ys ≡ zs
    once_loops no_loop no_loop = refl
    once_loops (and_looped {v = v} {P = P} {s = s} {L = L} A B) (and_looped {z = z} {r = r} {c = d} A' B') =
        let N : List Data → Type 0 = λ zs. Gives n P (fed v (s ∷ L) zs) (gave z r) d in
        let e1 = once_loops A A' in
        let q = once B (subst N (sym e1) B') in
        ap₂ (λ y ys. y ∷ ys) (ap outcome_value q.0) e1

    pub once_sees : {W : Watched} {s : Step} {L : Life} {a b : Outcome} {c d : Cost} → Sees n W s L a c → Sees n W s L b d → Same a b c d
    once_sees (beside_values A) (beside_values B) = once A B
    once_sees (by_observer {q = t} {e = e} {s = s} {L = L} A B C) (by_observer {ys = zs} {o = q} {o' = b} {c' = d} A' B' C') =
        let e1 = onces A A' in
        let e2 = once B B' in
        let N : Outcome → List Data → Type 0 = λ q l. Next n q t e (observed_life (s ∷ L) (outcome_value q ∷ l)) b d in
        let e3 = once_next C (subst₂ N (sym e2.0) (sym e1) C') in
        (ap₂ (combined pair) e2.0 e3.0, ap₂ both_costs e2.1 e3.1)
    once_sees (by_members_observer {q = t} {e = e} {s = s} {L = L} A B C) (by_members_observer {ys = zs} {o = q} {o' = b} {c' = d} A' B' C') =
        let e1 = once_tables A A' in
        let e2 = once_each B B' in
        let N : Outcome → List Data → Type 0 = λ q l. Next n q t e (observed_life (s ∷ L) (outcome_value q ∷ l)) b d in
        let e3 = once_next C (subst₂ N (sym e2.0) (sym e1) C') in
        (ap₂ (combined pair) e2.0 e3.0, ap₂ both_costs e2.1 e3.1)

    pub once_since : {W : Watched} {B : Takeover} {L : Life} {a b : Standing} → Since n W B L a → Since n W B L b → a ≡ b
    once_since at_start at_start = refl
    once_since (watched {B = T} {s = s} {L = L} A B h) (watched A' B' h') = sym h ∙ ap (λ o. stands_after T s L (occurring (second_of (outcome_value o)))) (once_sees B B').0 ∙ h'
    once_since (watched A B h) (had_fired A') = absurd (not_both (once_since A A'))
    once_since (had_fired A) (watched A' B' h') = absurd (not_both (sym (once_since A A')))
    once_since (had_fired {s = s} A) (had_fired A') = ap (later_standing s) (once_since A A')

    pub once_turn : {w : Observation} {W : Watched} {B : Takeover} {s : Step} {L : Life} {st : Standing} {a b : Outcome} {c d : Cost} → SwitchTurn n w W B s L st a c → SwitchTurn n w W B s L st b d → Same a b c d
    once_turn (while_waiting {w = w} {B = B} {s = s} {L = L} A C) (while_waiting {o' = b} {c' = d} A' C') =
        let e2 = once_sees A A' in
        let N : Outcome → Type 0 = λ q. Switched n w (B s L) s q b d in
        let e3 = once_switched C (subst N (sym e2.0) C') in
        (e3.0, ap₂ (λ x y. over (both_costs x y)) e2.1 e3.1)
    once_turn (as_body A) (as_body B) = once A B

    pub once_switched : {w : Observation} {B : Data → Process} {s : Step} {o a b : Outcome} {c d : Cost} → Switched n w B s o a c → Switched n w B s o b d → Same a b c d
    once_switched after_fault after_fault = (refl, refl)
    once_switched (after_value A) (after_value B) = once_fires A B

    pub once_fires : {w : Observation} {B : Data → Process} {s : Step} {o : Outcome} {q : Option Data} {a b : Outcome} {c d : Cost} → Fires n w B s o q a c → Fires n w B s o q b d → Same a b c d
    once_fires no_event_yet no_event_yet = (refl, refl)
    once_fires (event_now {w = w} {o = o} A) (event_now B) = let q = once A B in (ap (combined (switched_value w) o) q.0, q.1)

    pub once_tables : {ms : Members} {L : Life} {ys zs : List Data} → Tables n ms L ys → Tables n ms L zs → ys ≡ zs
    once_tables no_tables no_tables = refl
    once_tables (and_table A B) (and_table A' B') = ap₂ (λ y ys. y ∷ ys) (ap outcome_value (once_each B B').0) (once_tables A A')

    pub once_each : {ms : Members} {s : Step} {L : Life} {a b : Outcome} {c d : Cost} → Each n ms s L a c → Each n ms s L b d → Same a b c d
    once_each no_more no_more = (refl, refl)
    once_each (one_more {k = k} {ms = ms} {s = s} {L = L} A B) (one_more {o' = b} {c' = d} A' B') =
        let e1 = once A A' in
        let N : Outcome → Type 0 = λ q. Others n q ms s L b d in
        let e2 = once_others B (subst N (sym e1.0) B') in
        (ap₂ (combined (leading_row k)) e1.0 e2.0, ap₂ both_costs e1.1 e2.1)

    pub once_others : {q : Outcome} {ms : Members} {s : Step} {L : Life} {a b : Outcome} {c d : Cost} → Others n q ms s L a c → Others n q ms s L b d → Same a b c d
    once_others (others_go_on A) (others_go_on B) = once_each A B
    once_others others_stop others_stop = (refl, refl)

    pub once_edited : {w : Observation} {q : Option (Evaluated Members)} {s : Step} {o a b : Outcome} {c d : Cost} → Edited n w q s o a c → Edited n w q s o b d → Same a b c d
    once_edited no_edit no_edit = (refl, refl)
    once_edited edit_failed edit_failed = (refl, refl)
    once_edited (edit_now {w = w} {o = o} A) (edit_now B) = let q = once_each A B in (ap (combined (switched_value w) o) q.0, q.1)
