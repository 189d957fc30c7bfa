-- Switches that keep their source: the source is stepped, then the observer on the input beside its value, and at an event the
-- body, which knows the source as it was.
use Rattle.std.proofs.Common.{◌≡◌, ℕ, List, [], ◌∷◌, ◌++◌, Option, Some, None, Result, Ok, Err, refl, sym, ap, ◌∙◌, subst}
use Rattle.std.specs.Option.{option_map}
use Rattle.sf_value.specs.Values.{Name, Data, pair, first_of, second_of}
use Rattle.sf_value.specs.declared.fault.Fault.{Fault}
use Rattle.sf_expr.specs.Expressions.{Pattern}
use Rattle.sf_expr.specs.Patterns.{pattern_of}
use Rattle.sf_expr.specs.Arena.{stored_pattern, name_at}
use Rattle.sf_term.specs.declared.form.Observation.{Observation}
use Rattle.sf_term.specs.Trees.{Term, continuing}
use Rattle.sf_mean.specs.Lives.{Step, step, Life, Process, closure, base, frozen, running, bind, Environment, observed_life}
use Rattle.sf_mean.specs.Formulas.{occurring}
use Rattle.sf_mean.specs.Meaning.{Network, Outcome, gave, faulted, combined, outcome_value, Cost, no_cost, both_costs, over, text_cost, Made, nothing_made, observed, continuing_body, waits, stands_after, switched_value, Gives, gives, Outputs, and_gave, of_form, Form, of_continuing, Next, goes_on, stops, Sees, by_observer, Since, watched, while_waiting, after_value, Fires, no_event_yet, event_now}
use Rattle.sf_mean.proofs.Once.{once_since, once_sees, onces}
use Rattle.sf_law.specs.Arena.{plan_tree, plan_expressions}
use Rattle.sf_state.specs.declared.state.State.{State}
use Rattle.sf_state.specs.declared.state.Continuation.{Continuation}
use Rattle.sf_state.specs.declared.env.Env.{Env}
use Rattle.sf_state.specs.Standing.{IsNames, continued_to, Stands, took_over, WaitsContinuation, continues_so}
use Rattle.sf_state.specs.Machine.{Machine, machine_network}
use Rattle.sf_meter.specs.declared.meter.Meter.{Meter}
use Rattle.sf_meter.specs.Meters.{entered_of, meter_height, Ticks}
use Rattle.sf_step.specs.Answering.{Rel, Within, StopsFor, answers}
use Rattle.sf_step.specs.Sampling.{StateSteps, ContinuationSteps}
use Rattle.sf_step.proofs.Parts.{Single, single, Then, then_on, then_stop, Alike, over_spent, both_spent, alike_within, over_within, then_within, fails_alike, over_fails, then_fails, rest_fails, spent_within, answered, failed}
use Rattle.sf_step.proofs.Forms.{single_gives, gave_outputs, form_alike}
use Rattle.sf_step.proofs.Switches.{no_more_spent, Beside, way_alike, after_event, SeenRel, seen_alike, turn_to, turn_back}

-- what a payload's owner says of an event
pub some_occurs : {X : Type 0} (f : X → Data) (r : Option X) (x : X) (z : Data) → option_map f r ≡ occurring z → r ≡ Some x → occurring z ≡ Some (f x)
some_occurs f r x z h e = sym h ∙ ap (option_map f) e

pub none_occurs : {X : Type 0} (f : X → Data) (r : Option X) (z : Data) → option_map f r ≡ occurring z → r ≡ None → occurring z ≡ None
none_occurs f r z h e = sym h ∙ ap (option_map f) e

module _ (μ : Machine) where
  abbrev net : Network
  net = machine_network μ

  -- the source, and then the observer
  abbrev BothRel : Process → Term → Environment → Step → Life → List Data → Rel
  BothRel P r e s L ys = Then (Gives net P (s ∷ L)) pair (text_cost r) (λ y. Gives net (closure r e) (observed_life (s ∷ L) (y ∷ ys)))

  module _ {P : Process} {r : Term} {e : Environment} (s : Step) (L : Life) {ys : List Data} (O : Outputs net P L ys) where
    both_to : (o : Outcome) (k : Cost) → BothRel P r e s L ys o k → Sees net (observed P r e) s L o k
    both_to o k (then_on G H) = by_observer O G (goes_on H)
    both_to o k (then_stop G) = by_observer O G stops

    by_next : (q : Outcome) {o : Outcome} {k l : Cost} → Gives net P (s ∷ L) q k → Next net q r e (observed_life (s ∷ L) (outcome_value q ∷ ys)) o l → BothRel P r e s L ys (combined pair q o) (both_costs k l)
    by_next (gave y w) G (goes_on H) = then_on G H
    by_next (faulted x) G stops = then_stop G

    both_back : (o : Outcome) (k : Cost) → Sees net (observed P r e) s L o k → BothRel P r e s L ys o k
    both_back o k (by_observer {o = q} {o' = a} {c' = l} O' G N) =
        by_next q G (subst (λ zs. Next net q r e (observed_life (s ∷ L) (outcome_value q ∷ zs)) a l) (onces net O' O) N)

    pub both_alike : Alike (BothRel P r e s L ys) (Sees net (observed P r e) s L)
    both_alike = record { to = both_to; back = both_back }

    single_both : Single (BothRel P r e s L ys)
    single_both = single (λ a b j k G H. once_sees net (both_to _ _ G) (both_to _ _ H))

  module _ {w : Observation} {t r u : Term} {c : Name} {q : Pattern} {e : Environment} {m : Made} (s : Step) (L : Life) (S : Since net (observed (closure t e) r e) (continuing_body c (closure t e) q u e) L waits) where
    seen_to : (o : Outcome) (k : Cost) → SeenRel μ w (Sees net (observed (closure t e) r e) s L) (continuing_body c (closure t e) q u e s L) s o k → Form net (continuing w t r c q u) e m s L o k
    seen_to o k G = of_continuing S (turn_to μ G)

    seen_back : (o : Outcome) (k : Cost) → Form net (continuing w t r c q u) e m s L o k → SeenRel μ w (Sees net (observed (closure t e) r e) s L) (continuing_body c (closure t e) q u e s L) s o k
    seen_back o k (of_continuing S' T) = turn_back μ (once_since net S' S) T

    continuing_alike : Alike (SeenRel μ w (Sees net (observed (closure t e) r e) s L) (continuing_body c (closure t e) q u e s L) s) (Form net (continuing w t r c q u) e m s L)
    continuing_alike = record { to = seen_to; back = seen_back }

  -- a state steps as one that stands for all that it stands for
  pub runs_alike : {a b : State} {s : Step} {r : Result (State × Data) Fault} {m n : Meter} {depth : ℕ} → ((P : Process) (L : Life) → Stands μ a P L → Stands μ b P L) → StateSteps μ b s r m n depth → StateSteps μ a s r m n depth
  runs_alike f h P L A = h P L (f P L A)

  -- ## A step of a switch that keeps its source

  module _ (names : Env) (k : Continuation) (d : ℕ) (x : Data) (n n1 : Meter) (inside : ℕ) where
    -- what fails or is counted of its source and its observer is so of it
    part_fails : {t r u : Term} {c : Name} {q : Pattern} {e : Environment} {L : Life} {ys zs : List Data} {f : Fault} {m n' : Meter} {depth : ℕ} → Ticks m n depth inside
        → Since net (observed (closure t e) r e) (continuing_body c (closure t e) q u e) L waits → Outputs net (closure (continuing k.shown t r c q u) e) L zs → Outputs net (closure t e) L ys
        → StopsFor (Then (BothRel (closure t e) r e (step d x) L ys) (after_event μ k.shown) no_cost (λ y. Beside μ (continuing_body c (closure t e) q u e (step d x) L) (step d x) (first_of y) (occurring (second_of y)))) f n n' inside
        → StopsFor (Gives net (closure (continuing k.shown t r c q u) e) (step d x ∷ L)) f m n' depth
    part_fails {L = L} T S O OY h = fails_alike (form_alike net (step d x) L refl O) (fails_alike (continuing_alike (step d x) L S) (fails_alike (seen_alike μ k.shown (both_alike (step d x) L OY)) (over_fails T h)))

    part_within : {t r u : Term} {c : Name} {q : Pattern} {e : Environment} {L : Life} {ys zs : List Data} {m n' : Meter} {depth : ℕ} → Ticks m n depth inside
        → Since net (observed (closure t e) r e) (continuing_body c (closure t e) q u e) L waits → Outputs net (closure (continuing k.shown t r c q u) e) L zs → Outputs net (closure t e) L ys
        → Within (BothRel (closure t e) r e (step d x) L ys) n n' inside → Within (Gives net (closure (continuing k.shown t r c q u) e) (step d x ∷ L)) m n' depth
    part_within {L = L} T S O OY h = alike_within (form_alike net (step d x) L refl O) (alike_within (continuing_alike (step d x) L S) (alike_within (seen_alike μ k.shown (both_alike (step d x) L OY)) (over_within T (then_within h))))

    -- its source fails
    pub kept_fails : (f : Fault) → StateSteps μ k.source (step d x) (Err f) n n1 inside
        → (m : Meter) (depth : ℕ) → Ticks m n depth inside → (t : Term) (e : Environment) (L : Life) → IsNames μ names e → WaitsContinuation μ k (closure t e) L → StopsFor (Gives net (closure t e) (step d x ∷ L)) f m n1 depth
    kept_fails f hs m depth T t e L N (continues_so S O OY A B) = part_fails T S O OY (then_fails (then_fails (failed (hs _ _ A))))

    module _ (a : State) (y : Data) (hs : StateSteps μ k.source (step d x) (Ok (a, y)) n n1 inside) where
      module _ (v : Data) (ev : v ≡ pair x y) (n2 : Meter) where
        on_both : {r : Result (State × Data) Fault} → StateSteps μ k.observer (step d v) r n1 n2 inside → StateSteps μ k.observer (step d (pair x y)) r n1 n2 inside
        on_both {r} h = subst (λ v. StateSteps μ k.observer (step d v) r n1 n2 inside) ev h

        -- its observer fails
        pub observer_fails : (f : Fault) → StateSteps μ k.observer (step d v) (Err f) n1 n2 inside
            → (m : Meter) (depth : ℕ) → Ticks m n depth inside → (t : Term) (e : Environment) (L : Life) → IsNames μ names e → WaitsContinuation μ k (closure t e) L → StopsFor (Gives net (closure t e) (step d x ∷ L)) f m n2 depth
        observer_fails f ho m depth T t e L N (continues_so {r = r} {ys = ys} S O OY A B) =
            let one = answered (hs _ _ A) in
            part_fails T S O OY (then_fails (rest_fails (λ z. Gives net (closure r e) (observed_life (step d x ∷ L) (z ∷ ys))) (single_gives net _ _) one.given one.spent (failed (on_both ho _ _ B))))

        module _ (o : State) (z : Data) (ho : StateSteps μ k.observer (step d v) (Ok (o, z)) n1 n2 inside) where
          -- memory runs out after its observer was stepped
          pub observer_memory : (n3 : Meter) → entered_of n3 ≡ entered_of n2 → meter_height n3 ≡ meter_height n2
              → (m : Meter) (depth : ℕ) → Ticks m n depth inside → (t : Term) (e : Environment) (L : Life) → IsNames μ names e → WaitsContinuation μ k (closure t e) L → Within (Gives net (closure t e) (step d x ∷ L)) m n3 depth
          observer_memory n3 en hn m depth T t e L N (continues_so S O OY A B) =
              let one = answered (hs _ _ A) in
              let two = answered (on_both ho _ _ B) in
              part_within T S O OY (spent_within (single_both (step d x) L OY) (then_on one.given two.given) (both_spent one.spent two.spent) en hn)

          -- there is no event
          pub keeps_on : occurring z ≡ None → (x' : State) (k' : Continuation) → k' ≡ record { shown = k.shown; first = k.first; source = a; before = x'; observer = o; name = k.name; pattern = k.pattern; body = k.body }
              → ContinuationSteps μ names k (step d x) (Ok ((None, k'), y)) n n2 inside
          keeps_on none x' k' ek m depth T t e L N (continues_so {r = r} S O OY A B) =
              let source = plan_tree μ.plan k.first in
              let one = answered (hs _ _ A) in
              let two = answered (on_both ho _ _ B) in
              let c = name_at (plan_expressions μ.plan) k.name in
              let q = pattern_of (stored_pattern (plan_expressions μ.plan) k.pattern) in
              let u = plan_tree μ.plan k.body in
              let b = continuing_body c (closure source e) q u e in
              let seen : Sees net (observed (closure source e) r e) (step d x) L (gave (pair y z) (one.r ++ two.r)) (both_costs one.k two.k) = by_observer OY one.given (goes_on two.given) in
              let F : Form net (continuing k.shown source r c q u) e nothing_made (step d x) L (gave y (one.r ++ two.r)) (over (both_costs (both_costs one.k two.k) no_cost)) =
              of_continuing S (while_waiting seen (after_value (subst (λ i. Fires net k.shown (b (step d x) L) (step d x) (gave y (one.r ++ two.r)) i (gave y (one.r ++ two.r)) no_cost) (sym none) no_event_yet))) in
              let G = of_form refl F in
              answers (gives O G) (over_spent T (no_more_spent (both_spent one.spent two.spent)))
              (subst (λ (k' : Continuation). WaitsContinuation μ k' (closure (continuing k.shown source r c q u) e) (step d x ∷ L)) (sym ek)
              (continues_so (watched S seen (ap (stands_after b (step d x) L) none)) (and_gave O G) (gave_outputs net OY one.given) one.holds two.holds))

          module _ (i : Data) (some : occurring z ≡ Some i) (b0 : State)
              (ha : (e : Environment) (P : Process) (L : Life) → IsNames μ names e → Stands μ k.source P L → base P ≡ closure (plan_tree μ.plan k.first) e
              → Stands μ b0 (closure (plan_tree μ.plan k.body) (bind (pattern_of (stored_pattern (plan_expressions μ.plan) k.pattern)) i (running (name_at (plan_expressions μ.plan) k.name) (frozen P L d) e))) [])
              (j : Data) (ej : j ≡ x) (n3 : Meter) where
            on_input : {r : Result (State × Data) Fault} → StateSteps μ b0 (step d j) r n2 n3 inside → StateSteps μ b0 (step d x) r n2 n3 inside
            on_input {r} h = subst (λ j. StateSteps μ b0 (step d j) r n2 n3 inside) ej h

            -- the body fails
            pub kept_body_fails : (f : Fault) → StateSteps μ b0 (step d j) (Err f) n2 n3 inside
                → (m : Meter) (depth : ℕ) → Ticks m n depth inside → (t : Term) (e : Environment) (L : Life) → IsNames μ names e → WaitsContinuation μ k (closure t e) L → StopsFor (Gives net (closure t e) (step d x ∷ L)) f m n3 depth
            kept_body_fails f hb m depth T t e L N (continues_so S O OY A B) =
                let source = plan_tree μ.plan k.first in
                let one = answered (hs _ _ A) in
                let two = answered (on_both ho _ _ B) in
                let b = continuing_body (name_at (plan_expressions μ.plan) k.name) (closure source e) (pattern_of (stored_pattern (plan_expressions μ.plan) k.pattern)) (plan_tree μ.plan k.body) e (step d x) L in
                let H = fails_alike (way_alike μ b (step d x) y i (occurring z) some) (failed (on_input hb _ [] (ha e _ _ N A refl))) in
                part_fails T S O OY (rest_fails (λ y. Beside μ b (step d x) (first_of y) (occurring (second_of y))) (single_both (step d x) L OY) (then_on one.given two.given) (both_spent one.spent two.spent) H)

            -- the body takes over
            pub continuation_takes_over : (b : State) (w u : Data) → u ≡ switched_value k.shown y w → (k' : Continuation) → StateSteps μ b0 (step d j) (Ok (b, w)) n2 n3 inside
                → ContinuationSteps μ names k (step d x) (Ok ((Some b, k'), u)) n n3 inside
            continuation_takes_over b w g eg k' hb m depth T t e L N (continues_so {r = r} S O OY A B) =
                let source = plan_tree μ.plan k.first in
                let one = answered (hs _ _ A) in
                let two = answered (on_both ho _ _ B) in
                let three = answered (on_input hb _ [] (ha e _ _ N A refl)) in
                let c = name_at (plan_expressions μ.plan) k.name in
                let q = pattern_of (stored_pattern (plan_expressions μ.plan) k.pattern) in
                let u = plan_tree μ.plan k.body in
                let f = continuing_body c (closure source e) q u e in
                let seen : Sees net (observed (closure source e) r e) (step d x) L (gave (pair y z) (one.r ++ two.r)) (both_costs one.k two.k) = by_observer OY one.given (goes_on two.given) in
                let F : Form net (continuing k.shown source r c q u) e nothing_made (step d x) L (gave (switched_value k.shown y w) ((one.r ++ two.r) ++ three.r)) (over (both_costs (both_costs one.k two.k) three.k)) =
                of_continuing S (while_waiting seen (after_value (subst (λ i. Fires net k.shown (f (step d x) L) (step d x) (gave y (one.r ++ two.r)) i (gave (switched_value k.shown y w) ((one.r ++ two.r) ++ three.r)) three.k) (sym some) (event_now three.given)))) in
                let G = of_form refl (subst (λ v. Form net (continuing k.shown source r c q u) e nothing_made (step d x) L (gave v ((one.r ++ two.r) ++ three.r)) (over (both_costs (both_costs one.k two.k) three.k))) (sym eg) F) in
                answers (gives O G) (over_spent T (both_spent (both_spent one.spent two.spent) three.spent))
                (took_over (continued_to (watched S seen (ap (stands_after f (step d x) L) some)) (and_gave O G)) three.holds)
