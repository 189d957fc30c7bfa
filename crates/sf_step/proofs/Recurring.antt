-- Recurring switches: what runs is stepped on inputs without their events, and at an event the body takes its place.
use Rattle.std.proofs.Common.{◌≡◌, ℕ, [], ◌∷◌, ◌++◌, Some, None, Result, Ok, Err, refl, sym, ap, ◌∙◌, subst}
use Rattle.sf_value.specs.Values.{Data, first_of}
use Rattle.sf_value.specs.declared.fault.Fault.{Fault}
use Rattle.sf_expr.specs.Expressions.{Pattern}
use Rattle.sf_expr.specs.Patterns.{pattern_of}
use Rattle.sf_expr.specs.Arena.{stored_pattern}
use Rattle.sf_term.specs.declared.form.Observation.{Observation}
use Rattle.sf_term.specs.declared.form.Switching.TheVariants.{Recurring}
use Rattle.sf_term.specs.Trees.{Term, switching}
use Rattle.sf_mean.specs.Lives.{Step, step, Life, Process, closure, Environment, with_inputs}
use Rattle.sf_mean.specs.Meaning.{Network, Readings, Outcome, gave, faulted, Cost, no_cost, both_costs, over, Made, nothing_made, switched_value, body_of, event_beside, or_earlier, last_event, kept_before, since_event, what_runs, without_event, Gives, gives, and_gave, of_form, Form, of_recurring, Fires, no_event_yet, event_now}
use Rattle.sf_law.specs.Arena.{plan_tree, plan_expressions}
use Rattle.sf_state.specs.declared.state.State.{State}
use Rattle.sf_state.specs.declared.state.Switch.{Switch}
use Rattle.sf_state.specs.declared.env.Env.{Env}
use Rattle.sf_state.specs.Standing.{IsNames, Stands, Waits, waits_so, recurs_so}
use Rattle.sf_state.specs.Machine.{Machine, machine_network}
use Rattle.sf_meter.specs.declared.meter.Meter.{Meter}
use Rattle.sf_meter.specs.Meters.{entered_of, meter_height, Ticks, left_or}
use Rattle.sf_step.specs.Answering.{Rel, Within, StopsFor, answers, fails}
use Rattle.sf_step.specs.Sampling.{StateSteps, SwitchSteps}
use Rattle.sf_step.proofs.Parts.{Over, counted, Then, then_on, then_stop, Alike, over_spent, both_spent, alike_within, over_within, then_within, fails_alike, over_fails, then_fails, rest_fails, spent_within, answered, failed}
use Rattle.sf_step.proofs.Forms.{single_gives, form_alike}
use Rattle.sf_step.proofs.Switches.{not_recurring, same_recurring, no_more_spent, Beside, fires_to, FromFires, from_fires, fires_back, way_alike}

module _ (μ : Machine) where
  abbrev net : Network
  net = machine_network μ

  -- what runs is stepped, and then the body where there is an event
  abbrev RunRel : Observation → Process → (Data → Process) → Step → Life → Rel
  RunRel w P B s L = Over (Then (Gives net P (with_inputs first_of (s ∷ since_event L))) (switched_value w) no_cost (λ y. Beside μ B (without_event s) y (event_beside s)))

  run_from : {w : Observation} {P : Process} {B : Data → Process} (s : Step) (L : Life) {y : Data} {r : Readings} {o : Outcome} {k c : Cost} → Gives net P (with_inputs first_of (s ∷ since_event L)) (gave y r) k
      → FromFires μ w B (without_event s) y r (event_beside s) o c → RunRel w P B s L o (over (both_costs k c))
  run_from {w = w} {P = P} {B = B} s L {k = k} {c = c} G (from_fires H e) = subst (λ o. RunRel w P B s L o (over (both_costs k c))) e (counted (then_on G H))

  module _ {w : Observation} {t u : Term} {q : Pattern} {e : Environment} {m : Made} {s : Step} {L : Life} where
    recurring_to : (o : Outcome) (k : Cost) → RunRel w (what_runs (closure t e) (body_of q u e) (last_event L)) (body_of q u e) s L o k → Form net (switching (Recurring w) t q u) e m s L o k
    recurring_to o k (counted (then_on {r = r} G H)) = of_recurring G (fires_to μ r H)
    recurring_to o k (counted (then_stop G)) = of_recurring G no_event_yet

    recurring_back : (o : Outcome) (k : Cost) → Form net (switching (Recurring w) t q u) e m s L o k → RunRel w (what_runs (closure t e) (body_of q u e) (last_event L)) (body_of q u e) s L o k
    recurring_back o k (of_recurring {o = gave y r} G F) = run_from s L G (fires_back μ y r refl F)
    recurring_back o k (of_recurring {o = faulted x} G no_event_yet) = counted (then_stop G)

    recurring_alike : Alike (RunRel w (what_runs (closure t e) (body_of q u e) (last_event L)) (body_of q u e) s L) (Form net (switching (Recurring w) t q u) e m s L)
    recurring_alike = record { to = recurring_to; back = recurring_back }

  -- ## A step of a recurring switch

  module _ (names : Env) (k : Switch) (w : Observation) (form : k.form ≡ Recurring w) (d : ℕ) (x i : Data) (taken : i ≡ first_of x) (n n1 : Meter) (inside : ℕ) where
    -- a part steps on the first part of the input
    on_input : {a : State} {j : Data} {r : Result (State × Data) Fault} {m m' : Meter} → j ≡ i → StateSteps μ a (step d j) r m m' inside → StateSteps μ a (without_event (step d x)) r m m' inside
    on_input {a} {j} {r} {m} {m'} same h = subst (λ j. StateSteps μ a (step d j) r m m' inside) (same ∙ taken) h

    -- what runs fails
    pub run_fails : (f : Fault) → StateSteps μ k.running (step d i) (Err f) n n1 inside
        → (m : Meter) (depth : ℕ) → Ticks m n depth inside → (t : Term) (e : Environment) (L : Life) → IsNames μ names e → Waits μ k (closure t e) L → StopsFor (Gives net (closure t e) (step d x ∷ L)) f m n1 depth
    run_fails f hs m depth t T e L N (waits_so own S O A) = absurd (not_recurring own form)
    run_fails f hs m depth t T e L N (recurs_so own O A) = fails_alike (form_alike net (step d x) L refl O) (fails_alike recurring_alike (over_fails t (then_fails (failed (on_input refl hs _ _ A)))))

    module _ (a : State) (y : Data) (hs : StateSteps μ k.running (step d i) (Ok (a, y)) n n1 inside) where
      -- memory runs out after what runs was stepped
      pub run_memory : (n2 : Meter) → entered_of n2 ≡ entered_of n1 → meter_height n2 ≡ meter_height n1
          → (m : Meter) (depth : ℕ) → Ticks m n depth inside → (t : Term) (e : Environment) (L : Life) → IsNames μ names e → Waits μ k (closure t e) L → Within (Gives net (closure t e) (step d x ∷ L)) m n2 depth
      run_memory n2 en hn m depth t T e L N (waits_so own S O A) = absurd (not_recurring own form)
      run_memory n2 en hn m depth t T e L N (recurs_so own O A) =
          let one = answered (on_input refl hs _ _ A) in
          alike_within (form_alike net (step d x) L refl O) (alike_within recurring_alike (over_within t (then_within (spent_within (single_gives net _ _) one.given one.spent en hn))))

      -- there is no event
      pub runs_on : event_beside (step d x) ≡ None → (k' : Switch) → k' ≡ record { form = k.form; running = a; pattern = k.pattern; body = k.body }
          → SwitchSteps μ names k (step d x) (Ok ((None, k'), y)) n n1 inside
      runs_on none k' ek m depth t T e L N (waits_so own S O A) = absurd (not_recurring own form)
      runs_on none k' ek m depth t T e L N (recurs_so {w = h} {t = first} own O A) =
          let one = answered (on_input refl hs _ _ A) in
          let B = body_of (pattern_of (stored_pattern (plan_expressions μ.plan) k.pattern)) (plan_tree μ.plan k.body) e in
          let u = plan_tree μ.plan k.body in
          let F : Form net (switching (Recurring h) first (pattern_of (stored_pattern (plan_expressions μ.plan) k.pattern)) u) e nothing_made (step d x) L (gave y one.r) (over (both_costs one.k no_cost)) =
          of_recurring one.given (subst (λ q. Fires net h B (without_event (step d x)) (gave y one.r) q (gave y one.r) no_cost) (sym none) no_event_yet) in
          let G = of_form refl F in
          let lives = subst (λ q. Stands μ a (what_runs (closure first e) B (or_earlier q (last_event L))) (with_inputs first_of (step d x ∷ kept_before q (since_event L)))) (sym none) one.holds in
          answers (gives O G) (over_spent t (no_more_spent one.spent))
          (subst (λ (k' : Switch). Waits μ k' (closure (switching (Recurring h) first (pattern_of (stored_pattern (plan_expressions μ.plan) k.pattern)) u) e) (step d x ∷ L)) (sym ek) (recurs_so own (and_gave O G) lives))

      module _ (v : Data) (some : event_beside (step d x) ≡ Some v) (b0 : State) (j : Data) (again : j ≡ i)
          (ha : (e : Environment) → IsNames μ names e → Stands μ b0 (body_of (pattern_of (stored_pattern (plan_expressions μ.plan) k.pattern)) (plan_tree μ.plan k.body) e v) []) (n2 : Meter) where
        -- the body fails
        pub new_fails : (f : Fault) → StateSteps μ b0 (step d j) (Err f) n1 n2 inside
            → (m : Meter) (depth : ℕ) → Ticks m n depth inside → (t : Term) (e : Environment) (L : Life) → IsNames μ names e → Waits μ k (closure t e) L → StopsFor (Gives net (closure t e) (step d x ∷ L)) f m n2 depth
        new_fails f hb m depth t T e L N (waits_so own S O A) = absurd (not_recurring own form)
        new_fails f hb m depth t T e L N (recurs_so own O A) =
            let one = answered (on_input refl hs _ _ A) in
            let B = body_of (pattern_of (stored_pattern (plan_expressions μ.plan) k.pattern)) (plan_tree μ.plan k.body) e in
            let H = fails_alike (way_alike μ B (without_event (step d x)) y v (event_beside (step d x)) some) (failed (on_input again hb _ [] (ha e N))) in
            fails_alike (form_alike net (step d x) L refl O) (fails_alike recurring_alike (over_fails t (rest_fails (λ z. Beside μ B (without_event (step d x)) z (event_beside (step d x))) (single_gives net _ _) one.given one.spent H)))

        -- the body runs from now on
        pub new_runs : (b : State) (z u : Data) → u ≡ switched_value w y z → (k' : Switch) → k' ≡ record { form = k.form; running = b; pattern = k.pattern; body = k.body } → StateSteps μ b0 (step d j) (Ok (b, z)) n1 n2 inside
            → SwitchSteps μ names k (step d x) (Ok ((None, k'), u)) n n2 inside
        new_runs b z u eu k' ek hb m depth t T e L N (waits_so own S O A) = absurd (not_recurring own form)
        new_runs b z u eu k' ek hb m depth t T e L N (recurs_so {w = h} {t = first} own O A) =
            let one = answered (on_input refl hs _ _ A) in
            let two = answered (on_input again hb _ [] (ha e N)) in
            let q = pattern_of (stored_pattern (plan_expressions μ.plan) k.pattern) in
            let B = body_of q (plan_tree μ.plan k.body) e in
            let c = over (both_costs one.k two.k) in
            let r = one.r ++ two.r in
            let F : Form net (switching (Recurring h) first q (plan_tree μ.plan k.body)) e nothing_made (step d x) L (gave (switched_value h y z) r) c =
            of_recurring one.given (subst (λ o. Fires net h B (without_event (step d x)) (gave y one.r) o (gave (switched_value h y z) r) two.k) (sym some) (event_now two.given)) in
            let shown = ap (λ h. switched_value h y z) (same_recurring form own) ∙ sym eu in
            let G = of_form refl (subst (λ v. Form net (switching (Recurring h) first q (plan_tree μ.plan k.body)) e nothing_made (step d x) L (gave v r) c) shown F) in
            let lives = subst (λ o. Stands μ b (what_runs (closure first e) B (or_earlier o (last_event L))) (with_inputs first_of (step d x ∷ kept_before o (since_event L)))) (sym some) two.holds in
            answers (gives O G) (over_spent t (both_spent one.spent two.spent))
            (subst (λ (k' : Switch). Waits μ k' (closure (switching (Recurring h) first q (plan_tree μ.plan k.body)) e) (step d x ∷ L)) (sym ek) (recurs_so own (and_gave O G) lives))

    -- what a step without an event answers
    pub runs_alone : {A E : Type 0} (r : Result A E) (a : State) (y : Data) (f : Fault) → event_beside (step d x) ≡ None → (k' : Switch) → k' ≡ record { form = k.form; running = a; pattern = k.pattern; body = k.body }
        → StateSteps μ k.running (step d i) (left_or r (a, y) f) n n1 inside → SwitchSteps μ names k (step d x) (left_or r ((None, k'), y) f) n n1 inside
    runs_alone (Ok u) a y f none k' ek hs = runs_on a y hs none k' ek
    runs_alone (Err q) a y f none k' ek hs = λ m depth t T e L N W. fails (run_fails f hs m depth t T e L N W)
