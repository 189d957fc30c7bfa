-- Networks opened down to the forms that no law looks into, and closed again.
use Rattle.std.proofs.Common.{◌≡◌, IsTrue, List, refl, ap, ◌∙◌, Option, Some, None}
use Rattle.sf_value.specs.Values.{Data, second_of}
use Rattle.sf_value.specs.declared.fault.ValueFault.{ValueFault}
use Rattle.sf_expr.specs.Evaluation.{Evaluated, answer, failed, ◌>>=◌}
use Rattle.sf_expr.specs.Expressions.{Pattern}
use Rattle.sf_term.specs.declared.form.Heading.{Heading}
use Rattle.sf_term.specs.declared.form.Heading.TheVariants.{LoopPre, Initialized, Replaced, Followed}
use Rattle.sf_term.specs.declared.form.Observation.{Observation}
use Rattle.sf_term.specs.Trees.{Term}
use Rattle.sf_mean.specs.Formulas.{occurring}
use Rattle.sf_mean.specs.Lives.{Step, Life, Process, closure, Environment}
use Rattle.sf_mean.specs.Meaning.{Network, Outcome, Cost, Made, value_made, head_made, itself, Standing, waits, fired, stands_after, whenever, body_of, Gives, gives, Outputs, not_begun, and_gave, Sample, of_constants, of_form, of_primitive, of_join, of_side, of_loop, of_initialized, of_replaced, of_followed, of_transformed, of_switch, of_recurring, of_stages, what_runs, Next, goes_on, stops, Loops, no_loop, and_looped, beside_values, Since, at_start, watched, had_fired, SwitchTurn, while_waiting, as_body, Switched, after_fault, after_value, Fires, no_event_yet, event_now}
use Rattle.sf_mean.proofs.Once.{fault_of}
use Rattle.sf_mean.proofs.TypedProcesses.{made_in}
use Rattle.sf_rewrite.proofs.Parts.{Leaves, Stand, waiting, began, stand_after, Part, part, Parts, begins, then_gave, At, at_leaf, at_primitive, at_join, at_stages, at_side, at_loop, at_initialized, at_replaced, at_followed, at_constant, at_transformed, at_function, at_switch, at_recurring, Then, then_part, then_stops, Rounds, no_round, one_round, Watches, watch_begins, then_watched, fired_before, Turns, turn_waits, turn_body, Switches, switch_stops, switch_goes, Runs, runs_first, runs_body, Bodies, no_body, body_begins, stands_first, no_truth}

-- what a form is made with, from the value at its head
abbrev made : Evaluated Data → Evaluated Made
made v = v >>= λ v. answer (value_made v)

pub made_answer : (q : Evaluated Data) {v : Data} → made q ≡ answer (value_made v) → q ≡ answer v
made_answer (answer w) {v} h = ap (λ m. answer (made_in v m)) h
made_answer (failed x) h = absurd cc

pub made_fault : (q : Evaluated Data) {x : ValueFault} → made q ≡ failed x → q ≡ failed x
made_fault (answer w) h = absurd cc
made_fault (failed y) h = ap (λ m. failed (fault_of m)) h

-- the fault of a constant that comes before its part
fails_first : (h : Heading) {q : Evaluated Data} {x : ValueFault} → IsTrue (stands_first h) → q ≡ failed x → head_made h q ≡ failed x
fails_first LoopPre z h = ap made h
fails_first Initialized z h = ap made h
fails_first Replaced z h = ap made h
fails_first Followed z h = absurd (no_truth z)

-- where a switch stands whose body is the same at each event
abbrev pub standing_of : (Data → Process) → Stand → Standing
standing_of B waiting = waits
standing_of B (began v M) = fired (B v) M

pub stands_alike : (B : Data → Process) (s : Step) (L : Life) (o : Option Data) → stands_after (whenever B) s L o ≡ standing_of B (stand_after s o)
stands_alike B s L None = refl
stands_alike B s L (Some v) = refl

-- back to processes
module _ (n : Network) where
  abbrev pub Leaf : Leaves
  Leaf = record { functions = n.functions; leaf = λ t e s L o c. Sample n (closure t e) s L o c }

  mutual
    pub closed : {t : Term} {e : Environment} {s : Step} {L : Life} {o : Outcome} {c : Cost} → At Leaf t e s L o c → Sample n (closure t e) s L o c
    closed (at_leaf h A) = A
    closed at_primitive = of_form refl (of_primitive refl)
    closed (at_join A B C) = of_form refl (of_join (closed_all A) (closed_part B) (closed_then C))
    closed (at_stages A B C) = of_form refl (of_stages (closed_all A) (closed_part B) (closed_then C))
    closed (at_side A) = of_form refl (of_side (closed_part A))
    closed (at_loop h A B) = of_form (ap made h) (of_loop (closed_rounds A) (closed_part B))
    closed (at_initialized h A) = of_form (ap made h) (of_initialized (closed_part A))
    closed (at_replaced h A) = of_form (ap made h) (of_replaced (closed_part A))
    closed (at_followed A B) = of_form refl (of_followed (closed_all A) (closed_part B))
    closed (at_constant {h = k} z h) = of_constants (fails_first k z h)
    closed (at_transformed h A) = of_form (ap made h) (of_transformed (closed_part A))
    closed (at_function h) = of_constants (ap made h)
    closed (at_switch {u = u} {p = p} {e = e} A B) = of_form refl (of_switch (closed_watches (body_of p u e) A) (closed_turns B))
    closed (at_recurring A B) = of_form refl (of_recurring (closed_runs A) (closed_bodies B))

    pub closed_part : {t : Term} {e : Environment} {L : Life} {o : Outcome} {c : Cost} → Part Leaf t e L o c → Gives n (closure t e) L o c
    closed_part (part A B) = gives (closed_all A) (closed B)

    pub closed_all : {t : Term} {e : Environment} {L : Life} {ys : List Data} → Parts Leaf t e L ys → Outputs n (closure t e) L ys
    closed_all begins = not_begun
    closed_all (then_gave A B) = and_gave (closed_all A) (closed B)

    pub closed_then : {p : Outcome} {t : Term} {e : Environment} {L : Life} {o : Outcome} {c : Cost} → Then Leaf p t e L o c → Next n p t e L o c
    closed_then (then_part A) = goes_on (closed_part A)
    closed_then then_stops = stops

    closed_rounds : {v : Data} {t : Term} {e : Environment} {L : Life} {ys : List Data} → Rounds Leaf v t e L ys → Loops n v (closure t e) L ys
    closed_rounds no_round = no_loop
    closed_rounds (one_round A B) = and_looped (closed_rounds A) (closed_part B)

    closed_watches : (B : Data → Process) {t : Term} {e : Environment} {L : Life} {st : Stand} → Watches Leaf t e L st → Since n (itself (closure t e)) (whenever B) L (standing_of B st)
    closed_watches B watch_begins = at_start
    closed_watches B (then_watched {s = s} {L = L} {y = y} A P h) = watched (closed_watches B A) (beside_values (closed_part P)) (stands_alike B s L (occurring (second_of y)) ∙ ap (standing_of B) h)
    closed_watches B (fired_before A) = had_fired (closed_watches B A)

    closed_turns : {w : Observation} {t u : Term} {p : Pattern} {e : Environment} {s : Step} {L : Life} {st : Stand} {o : Outcome} {c : Cost} → Turns Leaf w t p u e s L st o c
        → SwitchTurn n w (itself (closure t e)) (whenever (body_of p u e)) s L (standing_of (body_of p u e) st) o c
    closed_turns (turn_waits A B) = while_waiting (beside_values (closed_part A)) (closed_switches B)
    closed_turns (turn_body A) = as_body (closed_part A)

    closed_switches : {w : Observation} {u : Term} {p : Pattern} {e : Environment} {s : Step} {o o' : Outcome} {c : Cost} → Switches Leaf w p u e s o o' c → Switched n w (body_of p u e) s o o' c
    closed_switches switch_stops = after_fault
    closed_switches (switch_goes A) = after_value (closed_bodies A)

    closed_runs : {t u : Term} {p : Pattern} {e : Environment} {q : Option Data} {L : Life} {o : Outcome} {c : Cost} → Runs Leaf t p u e q L o c → Gives n (what_runs (closure t e) (body_of p u e) q) L o c
    closed_runs (runs_first A) = closed_part A
    closed_runs (runs_body A) = closed_part A

    closed_bodies : {w : Observation} {u : Term} {p : Pattern} {e : Environment} {s : Step} {o : Outcome} {q : Option Data} {o' : Outcome} {c : Cost} → Bodies Leaf w p u e s o q o' c → Fires n w (body_of p u e) s o q o' c
    closed_bodies no_body = no_event_yet
    closed_bodies (body_begins A) = event_now (closed_part A)
