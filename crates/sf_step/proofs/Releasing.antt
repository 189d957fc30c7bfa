-- Members under an observer: they are stepped, then the observer on the input beside their table, and at an event the body, which
-- knows the members as they were.
use Rattle.std.proofs.Common.{◌≡◌, ℕ, List, [], ◌∷◌, ◌++◌, Some, None, Result, Ok, Err, sym, ap, subst}
use Rattle.sf_value.specs.Values.{Name, Data, pair, first_of, second_of}
use Rattle.sf_value.specs.declared.fault.Fault.{Fault}
use Rattle.sf_expr.specs.Expressions.{Pattern}
use Rattle.sf_expr.specs.Evaluation.{answer}
use Rattle.sf_expr.specs.Patterns.{pattern_of}
use Rattle.sf_expr.specs.Arena.{stored_pattern, name_at}
use Rattle.sf_term.specs.declared.form.Observation.{Observation}
use Rattle.sf_term.specs.Trees.{Term, Collection, releasing}
use Rattle.sf_mean.specs.Lives.{Step, step, Life, closure, Members, each_frozen, collected, bind, Environment, observed_life}
use Rattle.sf_mean.specs.Formulas.{occurring}
use Rattle.sf_mean.specs.Collections.{collect}
use Rattle.sf_mean.specs.Meaning.{Network, Outcome, gave, faulted, combined, outcome_value, Cost, no_cost, both_costs, over, text_cost, members_made, observed_members, body_with_members, waits, stands_after, switched_value, Gives, gives, Outputs, and_gave, of_form, Form, of_releasing, Next, goes_on, stops, Sees, by_members_observer, Since, watched, while_waiting, after_value, Fires, no_event_yet, event_now, Tables, and_table, Each}
use Rattle.sf_mean.proofs.Once.{once_since, once_sees, once_tables, once_each}
use Rattle.sf_law.specs.Arena.{plan_tree, plan_expressions}
use Rattle.sf_state.specs.declared.state.State.{State}
use Rattle.sf_state.specs.declared.state.Live.{items_hidden-the_row-State-0 as states_are}
use Rattle.sf_state.specs.declared.state.Gathered.{Gathered}
use Rattle.sf_state.specs.Held.{gathered_holding}
use Rattle.sf_state.proofs.Copies.{held_shown, held_hidden}
use Rattle.sf_state.specs.declared.state.Gathering.{Gathering}
use Rattle.sf_state.specs.declared.state.Gathering.TheVariants.{Releasing}
use Rattle.sf_state.specs.declared.state.Releasing as releasing_nodes
use Rattle.sf_state.specs.declared.env.Env.{Env}
use Rattle.sf_state.specs.Standing.{IsNames, released_to, Stands, took_over, Gathers, WaitsGathered, releases_so}
use Rattle.sf_state.specs.Machine.{Machine, machine_network}
use Rattle.sf_meter.specs.declared.meter.Meter.{Meter}
use Rattle.sf_meter.specs.Meters.{entered_of, meter_height, Ticks}
use Rattle.sf_step.specs.Answering.{Rel, Within, StopsFor, answers}
use Rattle.sf_step.specs.Sampling.{StateSteps, MembersSteps, GatheringSteps}
use Rattle.sf_step.proofs.Parts.{Single, single, Then, then_on, then_stop, Alike, over_spent, both_spent, alike_within, over_within, then_within, fails_alike, over_fails, then_fails, rest_fails, spent_within, answered, failed}
use Rattle.sf_step.proofs.Forms.{form_alike}
use Rattle.sf_step.proofs.SwitchTurns.{as_members}
use Rattle.sf_step.proofs.Members.{ticked_low}
use Rattle.sf_step.proofs.Switches.{no_more_spent, Beside, way_alike, after_event, SeenRel, seen_alike, turn_to, turn_back}

module _ (μ : Machine) where
  abbrev net : Network
  net = machine_network μ

  -- the members, and then the observer
  abbrev BothRel : Members → Term → Environment → Step → Life → List Data → Rel
  BothRel ms r e s L ys = Then (Each net ms s L) pair (text_cost r) (λ y. Gives net (closure r e) (observed_life (s ∷ L) (y ∷ ys)))

  single_each : (ms : Members) (s : Step) (L : Life) → Single (Each net ms s L)
  single_each ms s L = single (λ a b j k G H. once_each net G H)

  module _ {ms : Members} {r : Term} {e : Environment} (s : Step) (L : Life) {ys : List Data} (Y : Tables net ms L ys) where
    both_to : (o : Outcome) (k : Cost) → BothRel ms r e s L ys o k → Sees net (observed_members ms r e) s L o k
    both_to o k (then_on G H) = by_members_observer Y G (goes_on H)
    both_to o k (then_stop G) = by_members_observer Y G stops

    by_next : (q : Outcome) {o : Outcome} {k l : Cost} → Each net ms s L q k → Next net q r e (observed_life (s ∷ L) (outcome_value q ∷ ys)) o l → BothRel ms r e s L ys (combined pair q o) (both_costs k l)
    by_next (gave y w) G (goes_on H) = then_on G H
    by_next (faulted x) G stops = then_stop G

    both_back : (o : Outcome) (k : Cost) → Sees net (observed_members ms r e) s L o k → BothRel ms r e s L ys o k
    both_back o k (by_members_observer {o = q} {o' = a} {c' = l} Y' G N) =
        by_next q G (subst (λ zs. Next net q r e (observed_life (s ∷ L) (outcome_value q ∷ zs)) a l) (once_tables net Y' Y) N)

    both_alike : Alike (BothRel ms r e s L ys) (Sees net (observed_members ms r e) s L)
    both_alike = record { to = both_to; back = both_back }

    single_both : Single (BothRel ms r e s L ys)
    single_both = single (λ a b j k G H. once_sees net (both_to _ _ G) (both_to _ _ H))

  module _ {w : Observation} {i : Collection} {r u : Term} {c : Name} {q : Pattern} {e : Environment} {ms : Members} (s : Step) (L : Life) (S : Since net (observed_members ms r e) (body_with_members c ms q u e) L waits) where
    seen_to : (o : Outcome) (k : Cost) → SeenRel μ w (Sees net (observed_members ms r e) s L) (body_with_members c ms q u e s L) s o k → Form net (releasing w i r c q u) e (members_made ms) s L o k
    seen_to o k G = of_releasing S (turn_to μ G)

    seen_back : (o : Outcome) (k : Cost) → Form net (releasing w i r c q u) e (members_made ms) s L o k → SeenRel μ w (Sees net (observed_members ms r e) s L) (body_with_members c ms q u e s L) s o k
    seen_back o k (of_releasing S' T) = turn_back μ (once_since net S' S) T

    releasing_alike : Alike (SeenRel μ w (Sees net (observed_members ms r e) s L) (body_with_members c ms q u e s L) s) (Form net (releasing w i r c q u) e (members_made ms) s L)
    releasing_alike = record { to = seen_to; back = seen_back }

  -- members step as those that stand for all that they stand for
  pub run_alike : (a b : Gathered) {s : Step} {r : Result (Gathered × Data) Fault} {m n : Meter} {inside : ℕ} → ((ms : Members) (L : Life) → Gathers μ (gathered_holding a) ms L → Gathers μ (gathered_holding b) ms L) → MembersSteps μ b s r m n inside → MembersSteps μ a s r m n inside
  run_alike a b f h low ms L G = h low ms L (f ms L G)

  -- ## A step of members that wait under an observer

  module _ (names : Env) (k : releasing_nodes.Releasing) (d : ℕ) (x : Data) (n n1 : Meter) (inside : ℕ) where
    -- what fails or is counted of its members and its observer is so of it
    part_fails : {i : Collection} {r u : Term} {c : Name} {q : Pattern} {e : Environment} {ms : Members} {L : Life} {ys zs : List Data} {f : Fault} {m n' : Meter} {depth : ℕ} → Ticks m n depth inside
        → collect μ.answers i e ≡ answer ms → Since net (observed_members ms r e) (body_with_members c ms q u e) L waits → Outputs net (closure (releasing k.shown i r c q u) e) L zs → Tables net ms L ys
        → StopsFor (Then (BothRel ms r e (step d x) L ys) (after_event μ k.shown) no_cost (λ y. Beside μ (body_with_members c ms q u e (step d x) L) (step d x) (first_of y) (occurring (second_of y)))) f n n' inside
        → StopsFor (Gives net (closure (releasing k.shown i r c q u) e) (step d x ∷ L)) f m n' depth
    part_fails {L = L} T j S O Y h = fails_alike (form_alike net (step d x) L (ap (as_members μ) j) O) (fails_alike (releasing_alike (step d x) L S) (fails_alike (seen_alike μ k.shown (both_alike (step d x) L Y)) (over_fails T h)))

    part_within : {i : Collection} {r u : Term} {c : Name} {q : Pattern} {e : Environment} {ms : Members} {L : Life} {ys zs : List Data} {m n' : Meter} {depth : ℕ} → Ticks m n depth inside
        → collect μ.answers i e ≡ answer ms → Since net (observed_members ms r e) (body_with_members c ms q u e) L waits → Outputs net (closure (releasing k.shown i r c q u) e) L zs → Tables net ms L ys
        → Within (BothRel ms r e (step d x) L ys) n n' inside → Within (Gives net (closure (releasing k.shown i r c q u) e) (step d x ∷ L)) m n' depth
    part_within {L = L} T j S O Y h = alike_within (form_alike net (step d x) L (ap (as_members μ) j) O) (alike_within (releasing_alike (step d x) L S) (alike_within (seen_alike μ k.shown (both_alike (step d x) L Y)) (over_within T (then_within h))))

    -- its members fail
    pub members_stop : (f : Fault) → MembersSteps μ k.members (step d x) (Err f) n n1 inside
        → (m : Meter) (depth : ℕ) → Ticks m n depth inside → (t : Term) (e : Environment) (L : Life) → IsNames μ names e → WaitsGathered μ (Releasing k) (closure t e) L → StopsFor (Gives net (closure t e) (step d x ∷ L)) f m n1 depth
    members_stop f hs m depth T t e L N (releases_so j S O Y G B) = part_fails T j S O Y (then_fails (then_fails (failed (hs (ticked_low μ T) _ _ (held_shown μ k.members (states_are k.members.states.value) G)))))

    module _ (a : Gathered) (y : Data) (hs : MembersSteps μ k.members (step d x) (Ok (a, y)) n n1 inside) where
      module _ (v : Data) (ev : v ≡ pair x y) (n2 : Meter) where
        on_both : {r : Result (State × Data) Fault} → StateSteps μ k.observer (step d v) r n1 n2 inside → StateSteps μ k.observer (step d (pair x y)) r n1 n2 inside
        on_both {r} h = subst (λ v. StateSteps μ k.observer (step d v) r n1 n2 inside) ev h

        -- its observer fails
        pub sight_fails : (f : Fault) → StateSteps μ k.observer (step d v) (Err f) n1 n2 inside
            → (m : Meter) (depth : ℕ) → Ticks m n depth inside → (t : Term) (e : Environment) (L : Life) → IsNames μ names e → WaitsGathered μ (Releasing k) (closure t e) L → StopsFor (Gives net (closure t e) (step d x ∷ L)) f m n2 depth
        sight_fails f ho m depth T t e L N (releases_so {r = r} {ms = ms} {ys = ys} j S O Y G B) =
            let one = answered (hs (ticked_low μ T) _ _ (held_shown μ k.members (states_are k.members.states.value) G)) in
            part_fails T j S O Y (then_fails (rest_fails (λ z. Gives net (closure r e) (observed_life (step d x ∷ L) (z ∷ ys))) (single_each ms _ _) one.given one.spent (failed (on_both ho _ _ B))))

        module _ (o : State) (z : Data) (ho : StateSteps μ k.observer (step d v) (Ok (o, z)) n1 n2 inside) where
          -- memory runs out after its observer was stepped
          pub sight_memory : (n3 : Meter) → entered_of n3 ≡ entered_of n2 → meter_height n3 ≡ meter_height n2
              → (m : Meter) (depth : ℕ) → Ticks m n depth inside → (t : Term) (e : Environment) (L : Life) → IsNames μ names e → WaitsGathered μ (Releasing k) (closure t e) L → Within (Gives net (closure t e) (step d x ∷ L)) m n3 depth
          sight_memory n3 en hn m depth T t e L N (releases_so j S O Y G B) =
              let one = answered (hs (ticked_low μ T) _ _ (held_shown μ k.members (states_are k.members.states.value) G)) in
              let two = answered (on_both ho _ _ B) in
              part_within T j S O Y (spent_within (single_both (step d x) L Y) (then_on one.given two.given) (both_spent one.spent two.spent) en hn)

          -- there is no event
          pub members_go_on : occurring z ≡ None → (held : Gathered) (k' : releasing_nodes.Releasing) → k' ≡ record { shown = k.shown; members = a; before = held; observer = o; name = k.name; pattern = k.pattern; body = k.body }
              → GatheringSteps μ names (Releasing k) (step d x) (Ok ((None, Releasing k'), y)) n n2 inside
          members_go_on none held k' ek m depth T t e L N (releases_so {i = i} {r = r} {ms = ms} j S O Y G B) =
              let one = answered (hs (ticked_low μ T) _ _ (held_shown μ k.members (states_are k.members.states.value) G)) in
              let two = answered (on_both ho _ _ B) in
              let c = name_at (plan_expressions μ.plan) k.name in
              let q = pattern_of (stored_pattern (plan_expressions μ.plan) k.pattern) in
              let u = plan_tree μ.plan k.body in
              let b = body_with_members c ms q u e in
              let seen : Sees net (observed_members ms r e) (step d x) L (gave (pair y z) (one.r ++ two.r)) (both_costs one.k two.k) = by_members_observer Y one.given (goes_on two.given) in
              let F : Form net (releasing k.shown i r c q u) e (members_made ms) (step d x) L (gave y (one.r ++ two.r)) (over (both_costs (both_costs one.k two.k) no_cost)) =
              of_releasing S (while_waiting seen (after_value (subst (λ i. Fires net k.shown (b (step d x) L) (step d x) (gave y (one.r ++ two.r)) i (gave y (one.r ++ two.r)) no_cost) (sym none) no_event_yet))) in
              let M = of_form (ap (as_members μ) j) F in
              answers (gives O M) (over_spent T (no_more_spent (both_spent one.spent two.spent)))
              (subst (λ (k' : releasing_nodes.Releasing). WaitsGathered μ (Releasing k') (closure (releasing k.shown i r c q u) e) (step d x ∷ L)) (sym ek)
              (releases_so j (watched S seen (ap (stands_after b (step d x) L) none)) (and_gave O M) (and_table Y one.given) (held_hidden μ a (states_are a.states.value) one.holds) two.holds))

          module _ (i : Data) (some : occurring z ≡ Some i) (b0 : State)
              (ha : (e : Environment) (ms : Members) (L : Life) → IsNames μ names e → Gathers μ (gathered_holding k.members) ms L
              → Stands μ b0 (closure (plan_tree μ.plan k.body) (bind (pattern_of (stored_pattern (plan_expressions μ.plan) k.pattern)) i (collected (name_at (plan_expressions μ.plan) k.name) (each_frozen ms L d) e))) [])
              (j0 : Data) (ej : j0 ≡ x) (n3 : Meter) where
            on_input : {r : Result (State × Data) Fault} → StateSteps μ b0 (step d j0) r n2 n3 inside → StateSteps μ b0 (step d x) r n2 n3 inside
            on_input {r} h = subst (λ j. StateSteps μ b0 (step d j) r n2 n3 inside) ej h

            -- the body fails
            pub released_body_fails : (f : Fault) → StateSteps μ b0 (step d j0) (Err f) n2 n3 inside
                → (m : Meter) (depth : ℕ) → Ticks m n depth inside → (t : Term) (e : Environment) (L : Life) → IsNames μ names e → WaitsGathered μ (Releasing k) (closure t e) L → StopsFor (Gives net (closure t e) (step d x ∷ L)) f m n3 depth
            released_body_fails f hb m depth T t e L N (releases_so {ms = ms} j S O Y G B) =
                let one = answered (hs (ticked_low μ T) _ _ (held_shown μ k.members (states_are k.members.states.value) G)) in
                let two = answered (on_both ho _ _ B) in
                let b = body_with_members (name_at (plan_expressions μ.plan) k.name) ms (pattern_of (stored_pattern (plan_expressions μ.plan) k.pattern)) (plan_tree μ.plan k.body) e (step d x) L in
                let H = fails_alike (way_alike μ b (step d x) y i (occurring z) some) (failed (on_input hb _ [] (ha e _ _ N (held_shown μ k.members (states_are k.members.states.value) G)))) in
                part_fails T j S O Y (rest_fails (λ y. Beside μ b (step d x) (first_of y) (occurring (second_of y))) (single_both (step d x) L Y) (then_on one.given two.given) (both_spent one.spent two.spent) H)

            -- the body takes over
            pub released_body_takes_over : (b : State) (w g : Data) → g ≡ switched_value k.shown y w → (k' : Gathering) → StateSteps μ b0 (step d j0) (Ok (b, w)) n2 n3 inside
                → GatheringSteps μ names (Releasing k) (step d x) (Ok ((Some b, k'), g)) n n3 inside
            released_body_takes_over b w g eg k' hb m depth T t e L N (releases_so {i = i0} {r = r} {ms = ms} j S O Y G B) =
                let one = answered (hs (ticked_low μ T) _ _ (held_shown μ k.members (states_are k.members.states.value) G)) in
                let two = answered (on_both ho _ _ B) in
                let three = answered (on_input hb _ [] (ha e _ _ N (held_shown μ k.members (states_are k.members.states.value) G))) in
                let c = name_at (plan_expressions μ.plan) k.name in
                let q = pattern_of (stored_pattern (plan_expressions μ.plan) k.pattern) in
                let u = plan_tree μ.plan k.body in
                let f = body_with_members c ms q u e in
                let seen : Sees net (observed_members ms r e) (step d x) L (gave (pair y z) (one.r ++ two.r)) (both_costs one.k two.k) = by_members_observer Y one.given (goes_on two.given) in
                let F : Form net (releasing k.shown i0 r c q u) e (members_made ms) (step d x) L (gave (switched_value k.shown y w) ((one.r ++ two.r) ++ three.r)) (over (both_costs (both_costs one.k two.k) three.k)) =
                of_releasing S (while_waiting seen (after_value (subst (λ i. Fires net k.shown (f (step d x) L) (step d x) (gave y (one.r ++ two.r)) i (gave (switched_value k.shown y w) ((one.r ++ two.r) ++ three.r)) three.k) (sym some) (event_now three.given)))) in
                let M = of_form (ap (as_members μ) j) (subst (λ v. Form net (releasing k.shown i0 r c q u) e (members_made ms) (step d x) L (gave v ((one.r ++ two.r) ++ three.r)) (over (both_costs (both_costs one.k two.k) three.k))) (sym eg) F) in
                answers (gives O M) (over_spent T (both_spent (both_spent one.spent two.spent) three.spent))
                (took_over (released_to j (watched S seen (ap (stands_after f (step d x) L) some)) (and_gave O M)) three.holds)
