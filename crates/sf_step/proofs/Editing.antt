-- Members that are edited: those that run are stepped on inputs without their events, and at an event those of the edit take
-- their place.
use Rattle.std.proofs.Common.{◌≡◌, ℕ, ◌≤◌, List, [], ◌∷◌, ◌++◌, Option, Some, None, Result, Ok, Err, refl, sym, ap, ◌∙◌, subst, arith, option_map}
use Rattle.std.proofs.lemmas.List.{append-nil}
use Rattle.sf_value.specs.Values.{Name, Data, first_of}
use Rattle.sf_value.specs.declared.fault.Fault.{Fault}
use Rattle.sf_expr.specs.Expressions.{Pattern}
use Rattle.sf_expr.specs.Evaluation.{Evaluated, answer, ◌>>=◌}
use Rattle.sf_expr.specs.Evaluation
use Rattle.sf_expr.specs.Patterns.{pattern_of}
use Rattle.sf_expr.specs.Arena.{stored_pattern, name_at}
use Rattle.sf_term.specs.declared.form.Observation.{Observation}
use Rattle.sf_term.specs.declared.form.Observation.TheVariants.{Immediate, Delayed}
use Rattle.sf_term.specs.Trees.{Term, Collection, editing}
use Rattle.sf_mean.specs.Lives.{Step, step, Life, closure, Members, Environment, with_inputs}
use Rattle.sf_mean.specs.Meaning.{Network, Readings, Outcome, gave, faulted, combined, Cost, no_cost, both_costs, over, members_made, edit_of, since_edit, since_event, kept_before, edited, which_run, switched_value, event_beside, unless_faulted, without_event, Gives, gives, and_gave, of_form, Form, of_editing, Edited, no_edit, edit_failed, edit_now, Tables, no_tables, and_table, Each}
use Rattle.sf_mean.proofs.Once.{once_each}
use Rattle.sf_law.specs.Arena.{plan_collection, plan_expressions}
use Rattle.sf_law.specs.Entries.{IsCodedCollection}
use Rattle.sf_state.specs.declared.state.Live.{items_hidden-the_row-State-0 as states_are}
use Rattle.sf_state.specs.declared.state.Gathered.{Gathered}
use Rattle.sf_state.specs.Held.{Holding, gathered_holding}
use Rattle.sf_state.proofs.Copies.{held_shown, held_hidden}
use Rattle.sf_state.specs.declared.state.Gathering.TheVariants.{Editing}
use Rattle.sf_state.specs.declared.state.Editing as editing_nodes
use Rattle.sf_state.specs.declared.env.Env.{Env}
use Rattle.sf_state.specs.Standing.{IsNames, Gathers, WaitsGathered, edits_so}
use Rattle.sf_state.specs.Machine.{Machine, machine_network}
use Rattle.sf_meter.specs.declared.meter.Meter.{Meter}
use Rattle.sf_meter.specs.Meters.{entered_of, meter_height, Ticks, left_or}
use Rattle.sf_step.specs.Answering.{Rel, Within, StopsFor, faults, memory, Answers, answers, fails}
use Rattle.sf_begin.specs.Beginning.{Makes, makes, makes_fault, makes_nothing}
use Rattle.sf_begin.specs.Collecting.{MakesMembers}
use Rattle.sf_step.proofs.Costs.{ticked_within}
use Rattle.sf_step.specs.Sampling.{MembersSteps, GatheringSteps}
use Rattle.sf_step.specs.Edits.{HeldSteps, HeldStepsAfter, EditSteps, no_memory_before, old_fails, no_memory_between, made_fails, new_fails, new_run, held_as_made}
use Rattle.sf_step.proofs.Turns.{as_held, held_fails}
use Rattle.sf_step.proofs.Parts.{Over, counted, Single, single, Then, then_on, then_stop, Alike, over_spent, both_spent, alike_within, over_within, then_within, fails_alike, over_fails, then_fails, rest_fails, spent_within, answered, failed}
use Rattle.sf_step.proofs.Forms.{form_alike}
use Rattle.sf_step.proofs.SwitchTurns.{as_members}
use Rattle.sf_step.proofs.Members.{ticked_low}
use Rattle.sf_step.proofs.Switches.{no_more_spent}

same_members : {a b : Members} → answer a ≡ answer b → a ≡ b
same_members e = cc

some_answer : {a b : Evaluated Members} → Some a ≡ Some b → a ≡ b
some_answer e = cc

-- a failure goes on as it is
pub stopped : {A : Type 0} {view : A → Data} {after : A → Type 0} {R : Rel} {m n : Meter} {depth : ℕ} {f g : Fault} → f ≡ g → StopsFor R g m n depth → Answers view after R (Err f) m n depth
stopped {A} {view} {after} {R} {m} {n} {depth} e h = subst (λ (f : Fault). Answers view after R (Err f) m n depth) (sym e) (fails h)

module _ (μ : Machine) where
  abbrev net : Network
  net = machine_network μ

  -- what comes beside a table: it stays, or the edit fails, or its members begin
  data Newly (s : Step) (y : Data) : Option (Evaluated Members) → Outcome → Cost → Type 0 where
    as_it_is : Newly s y None (gave y []) no_cost
    edit_fails : {x : _} → Newly s y (Some (Evaluation.failed x)) (faulted x) no_cost
    edit_steps : {ms : Members} {o : Outcome} {c : Cost} → Each net ms s [] o c → Newly s y (Some (answer ms)) o c

  shown_as : (w : Observation) (x : Data) (r : Readings) → combined (switched_value w) (gave x r) (gave x []) ≡ gave x r
  shown_as Immediate x r = ap (gave x) (append-nil r)
  shown_as Delayed x r = ap (gave x) (append-nil r)

  edited_to : {w : Observation} {s : Step} {x : Data} {q : Option (Evaluated Members)} {o : Outcome} {c : Cost} (r : Readings) → Newly s x q o c → Edited net w q s (gave x r) (combined (switched_value w) (gave x r) o) c
  edited_to {w} {s} {x} r as_it_is = subst (λ o. Edited net w None s (gave x r) o no_cost) (sym (shown_as w x r)) no_edit
  edited_to r edit_fails = edit_failed
  edited_to r (edit_steps E) = edit_now E

  data FromEdit (w : Observation) (s : Step) (x : Data) (r : Readings) (q : Option (Evaluated Members)) (o : Outcome) (c : Cost) : Type 0 where
    from_edit : {o' : Outcome} → Newly s x q o' c → combined (switched_value w) (gave x r) o' ≡ o → FromEdit w s x r q o c

  edited_back : {w : Observation} {s : Step} {q : Option (Evaluated Members)} {a o : Outcome} {c : Cost} (x : Data) (r : Readings) → a ≡ gave x r → Edited net w q s a o c → FromEdit w s x r q o c
  edited_back {w = w} x r e no_edit = from_edit as_it_is (shown_as w x r ∙ sym e)
  edited_back x r e edit_failed = from_edit edit_fails refl
  edited_back {w = w} x r e (edit_now {o' = o'} E) = from_edit (edit_steps E) (ap (λ a. combined (switched_value w) a o') (sym e))

  newly_back : {s : Step} {x : Data} {q : Option (Evaluated Members)} {rs : Members} {o : Outcome} {c : Cost} → q ≡ Some (answer rs) → Newly s x q o c → Each net rs s [] o c
  newly_back e as_it_is = absurd cc
  newly_back e edit_fails = absurd cc
  newly_back {s = s} {o = o} {c = c} e (edit_steps {ms = ms} E) = subst (λ ms. Each net ms s [] o c) (same_members (some_answer e)) E

  newly_alike : (s : Step) (x : Data) (q : Option (Evaluated Members)) (rs : Members) → q ≡ Some (answer rs) → Alike (Each net rs s []) (Newly s x q)
  newly_alike s x q rs e = record {
    to = λ o c E. subst (λ q. Newly s x q o c) (sym e) (edit_steps E);
    back = λ o c H. newly_back e H;
  }

  single_each : (ms : Members) (s : Step) (L : Life) → Single (Each net ms s L)
  single_each ms s L = single (λ a b j k G H. once_each net G H)

  -- those that run are stepped, and then those of the edit where there is an event
  abbrev EditRel : Observation → Members → (Data → Evaluated Members) → Step → Life → Rel
  EditRel w qs E s L = Over (Then (Each net qs (without_event s) (since_edit L)) (switched_value w) no_cost (λ y. Newly (without_event s) y (option_map E (event_beside s))))

  edit_from : {w : Observation} {qs : Members} (E : Data → Evaluated Members) (s : Step) (L : Life) {y : Data} {r : Readings} {o : Outcome} {k c : Cost} → Each net qs (without_event s) (since_edit L) (gave y r) k
      → FromEdit w (without_event s) y r (option_map E (event_beside s)) o c → EditRel w qs E s L o (over (both_costs k c))
  edit_from {w = w} {qs = qs} E s L {k = k} {c = c} G (from_edit H e) = subst (λ o. EditRel w qs E s L o (over (both_costs k c))) e (counted (then_on G H))

  edit_at : {w : Observation} (E : Members → Data → Evaluated Members) (qs : Members) (s : Step) (L : Life) (a : Outcome) {o : Outcome} {k c : Cost} → Each net qs (without_event s) (since_edit L) a k
      → Edited net w (option_map (E qs) (unless_faulted a (event_beside s))) (without_event s) a o c → EditRel w qs (E qs) s L o (over (both_costs k c))
  edit_at E qs s L (gave y r) G D = edit_from (E qs) s L G (edited_back y r refl D)
  edit_at E qs s L (faulted x) G no_edit = counted (then_stop G)

  module _ {w : Observation} {i u : Collection} {c : Name} {q : Pattern} {e : Environment} {ms qs : Members} (s : Step) (L : Life) (run : which_run (edit_of μ.answers c q u e) ms L ≡ answer qs) where
    editing_to : (o : Outcome) (k : Cost) → EditRel w qs (edit_of μ.answers c q u e (since_edit L) s qs) s L o k → Form net (editing w i c q u) e (members_made ms) s L o k
    editing_to o k (counted (then_on {r = r} G H)) = of_editing run G (edited_to r H)
    editing_to o k (counted (then_stop G)) = of_editing run G no_edit

    editing_back : (o : Outcome) (k : Cost) → Form net (editing w i c q u) e (members_made ms) s L o k → EditRel w qs (edit_of μ.answers c q u e (since_edit L) s qs) s L o k
    editing_back o k (of_editing {qs = rs} {o = a} run' G D) =
        let same : rs ≡ qs = same_members (sym run' ∙ run) in
        subst (λ qs. EditRel w qs (edit_of μ.answers c q u e (since_edit L) s qs) s L o k) same (edit_at (edit_of μ.answers c q u e (since_edit L) s) rs s L a G D)

    editing_alike : Alike (EditRel w qs (edit_of μ.answers c q u e (since_edit L) s qs) s L) (Form net (editing w i c q u) e (members_made ms) s L)
    editing_alike = record { to = editing_to; back = editing_back }

  tables_at : {ms : Members} {K M : Life} {ys : List Data} → K ≡ M → Tables net ms M ys → Tables net ms K ys
  tables_at {ms = ms} {ys = ys} e Y = subst (λ (K : Life). Tables net ms K ys) (sym e) Y

  gathers_at : (l : Gathered) {ms : Members} {K M : Life} → K ≡ M → Gathers μ (gathered_holding l) ms M → Gathers μ (gathered_holding l) ms K
  gathers_at l {ms = ms} e G = subst (λ (K : Life). Gathers μ (gathered_holding l) ms K) (sym e) G

  -- members that were made
  abbrev pub Made : Evaluated Members → Result Holding Fault → Type 0
  Made z r = Makes (λ (h : Holding) ms. Gathers μ h ms []) z r

  record IsAnswer (l : Holding) (z : Evaluated Members) : Type 0 where
    rs : Members
    is : z ≡ answer rs
    stand : Gathers μ l rs []

  made_is : {l : Holding} {z : Evaluated Members} → Made z (Ok l) → IsAnswer l z
  made_is (makes {b = rs} e G) = record { rs = rs; is = e; stand = G }

  pub as_made : (r : Result Gathered Fault) {z : Evaluated Members} → MakesMembers μ z r → Made z (held_as_made r)
  as_made (Ok g) (makes e G) = makes e G
  as_made (Err f) (makes_fault e) = makes_fault e
  as_made (Err f) makes_nothing = makes_nothing

  -- ## A step of members that are edited

  module _ (names : Env) (k : editing_nodes.Editing) (d : ℕ) (x i : Data) (taken : i ≡ first_of x) (n n1 : Meter) (inside : ℕ) where
    -- members step on the first part of the input
    on_input : (l : Holding) {r : Result (Holding × Data) Fault} {m m' : Meter} → HeldSteps μ l (step d i) r m m' inside → HeldSteps μ l (without_event (step d x)) r m m' inside
    on_input l {r} {m} {m'} h = subst (λ j. HeldSteps μ l (step d j) r m m' inside) taken h

    -- those that run fail
    pub old_fail : (f : Fault) → HeldSteps μ (gathered_holding k.members) (step d i) (Err f) n n1 inside
        → (m : Meter) (depth : ℕ) → Ticks m n depth inside → (t : Term) (e : Environment) (L : Life) → IsNames μ names e → WaitsGathered μ (Editing k) (closure t e) L → StopsFor (Gives net (closure t e) (step d x ∷ L)) f m n1 depth
    old_fail f hs m depth T t e L N (edits_so coded j run O Y G) =
        fails_alike (form_alike net (step d x) L (ap (as_members μ) j) O) (fails_alike (editing_alike (step d x) L run) (over_fails T (then_fails (failed (on_input (gathered_holding k.members) hs (ticked_low μ T) _ _ (held_shown μ k.members (states_are k.members.states.value) G))))))

    module _ (a : Holding) (y : Data) (hs : HeldSteps μ (gathered_holding k.members) (step d i) (Ok (a, y)) n n1 inside) where
      -- memory runs out after they were stepped
      pub old_memory : (n2 : Meter) → entered_of n2 ≡ entered_of n1 → meter_height n2 ≡ meter_height n1
          → (m : Meter) (depth : ℕ) → Ticks m n depth inside → (t : Term) (e : Environment) (L : Life) → IsNames μ names e → WaitsGathered μ (Editing k) (closure t e) L → Within (Gives net (closure t e) (step d x ∷ L)) m n2 depth
      old_memory n2 en hn m depth T t e L N (edits_so {qs = qs} coded j run O Y G) =
          let one = answered (on_input (gathered_holding k.members) hs (ticked_low μ T) _ _ (held_shown μ k.members (states_are k.members.states.value) G)) in
          alike_within (form_alike net (step d x) L (ap (as_members μ) j) O) (alike_within (editing_alike (step d x) L run) (over_within T (then_within (spent_within (single_each qs _ _) one.given one.spent en hn))))

      module _ (v : Data) (some : event_beside (step d x) ≡ Some v) where
        -- what the edit makes of the members that ran
        abbrev pub IsMade : Result Holding Fault → Type 0
        IsMade r = (e : Environment) (qs : Members) (K : Life) → IsNames μ names e → Gathers μ (gathered_holding k.members) qs K → IsCodedCollection (plan_expressions μ.plan) k.edit.value
            → Made (edit_of μ.answers (name_at (plan_expressions μ.plan) k.name) (pattern_of (stored_pattern (plan_expressions μ.plan) k.pattern)) (plan_collection μ.plan k.edit.value) e K (step d x) qs v) r

        -- the edit fails
        edit_stops : (f : Fault) (n2 : Meter) → entered_of n2 ≡ entered_of n1 → meter_height n2 ≡ meter_height n1 → {z : Evaluated Members} (s : Step) (E : Data → Evaluated Members) → E v ≡ z → event_beside s ≡ Some v
            → Made z (Err f) → StopsFor (Newly (without_event s) y (option_map E (event_beside s))) f n1 n2 inside
        edit_stops f n2 en hn s E ez some' (makes_fault {x = x} e) =
            let at : option_map E (event_beside s) ≡ Some (Evaluation.failed x) = ap (option_map E) some' ∙ ap Some (ez ∙ e) in
            faults (subst (λ q. Newly (without_event s) y q (faulted x) no_cost) (sym at) edit_fails) (record { entered = omega (arith, en); high = omega (arith, hn) })
        edit_stops f n2 en hn s E ez some' makes_nothing = memory (record { most = λ o k G. record { entered = omega (arith, en); high = omega (arith, hn) } })

        pub edit_stops_it : (f : Fault) → IsMade (Err f) → (n2 : Meter) → entered_of n2 ≡ entered_of n1 → meter_height n2 ≡ meter_height n1
            → (m : Meter) (depth : ℕ) → Ticks m n depth inside → (t : Term) (e : Environment) (L : Life) → IsNames μ names e → WaitsGathered μ (Editing k) (closure t e) L → StopsFor (Gives net (closure t e) (step d x ∷ L)) f m n2 depth
        edit_stops_it f hm n2 en hn m depth T t e L N (edits_so {i = i0} {ms = ms} {qs = qs} coded j run O Y G) =
            let one = answered (on_input (gathered_holding k.members) hs (ticked_low μ T) _ _ (held_shown μ k.members (states_are k.members.states.value) G)) in
            let s = step d x in
            let E = edit_of μ.answers (name_at (plan_expressions μ.plan) k.name) (pattern_of (stored_pattern (plan_expressions μ.plan) k.pattern)) (plan_collection μ.plan k.edit.value) e (since_edit L) s qs in
            let H = edit_stops f n2 en hn s E refl some (hm e qs (since_edit L) N (held_shown μ k.members (states_are k.members.states.value) G) coded) in
            fails_alike (form_alike net s L (ap (as_members μ) j) O) (fails_alike (editing_alike s L run) (over_fails T (rest_fails (λ z. Newly (without_event s) z (option_map E (event_beside s))) (single_each qs _ _) one.given one.spent H)))

        module _ (l0 : Holding) (hm : IsMade (Ok l0)) (n2 : Meter) where
          -- a member of the edit fails
          new_fail : (f : Fault) → HeldSteps μ l0 (step d i) (Err f) n1 n2 inside → {z : Evaluated Members} (s : Step) (E : Data → Evaluated Members) → E v ≡ z → s ≡ step d x → inside ≤ meter_height n1
              → Made z (Ok l0) → StopsFor (Newly (without_event s) y (option_map E (event_beside s))) f n1 n2 inside
          new_fail f hb s E ez es low (makes {b = rs} e G') =
              let at : option_map E (event_beside s) ≡ Some (answer rs) = ap (λ s. option_map E (event_beside s)) es ∙ ap (option_map E) some ∙ ap Some (ez ∙ e) in
              fails_alike (newly_alike (without_event s) y (option_map E (event_beside s)) rs at) (subst (λ s. StopsFor (Each net rs (without_event s) []) f n1 n2 inside) (sym es) (failed (on_input l0 hb low _ _ G')))

          pub new_stops : (f : Fault) → HeldStepsAfter μ (gathered_holding k.members) n l0 (step d i) (Err f) n1 n2 inside
              → (m : Meter) (depth : ℕ) → Ticks m n depth inside → (t : Term) (e : Environment) (L : Life) → IsNames μ names e → WaitsGathered μ (Editing k) (closure t e) L → StopsFor (Gives net (closure t e) (step d x ∷ L)) f m n2 depth
          new_stops f hb m depth T t e L N (edits_so {i = i0} {ms = ms} {qs = qs} coded j run O Y G) =
              let one = answered (on_input (gathered_holding k.members) hs (ticked_low μ T) _ _ (held_shown μ k.members (states_are k.members.states.value) G)) in
              let s = step d x in
              let E = edit_of μ.answers (name_at (plan_expressions μ.plan) k.name) (pattern_of (stored_pattern (plan_expressions μ.plan) k.pattern)) (plan_collection μ.plan k.edit.value) e (since_edit L) s qs in
              let low = ticked_low μ T in
              let H = new_fail f (hb low _ _ (held_shown μ k.members (states_are k.members.states.value) G)) s E refl refl (let i = one.spent.high in omega (arith, low)) (hm e qs (since_edit L) N (held_shown μ k.members (states_are k.members.states.value) G) coded) in
              fails_alike (form_alike net s L (ap (as_members μ) j) O) (fails_alike (editing_alike s L run) (over_fails T (rest_fails (λ z. Newly (without_event s) z (option_map E (event_beside s))) (single_each qs _ _) one.given one.spent H)))

          -- the members of the edit run from now on
          pub new_runs_on : (l : Gathered) (z g : Data) → g ≡ switched_value k.shown y z → (k' : editing_nodes.Editing) → k' ≡ record { shown = k.shown; members = l; name = k.name; pattern = k.pattern; edit = k.edit } → HeldStepsAfter μ (gathered_holding k.members) n l0 (step d i) (Ok (gathered_holding l, z)) n1 n2 inside
              → GatheringSteps μ names (Editing k) (step d x) (Ok ((None, Editing k'), g)) n n2 inside
          new_runs_on l z g eg k' ek hb m depth T t e L N (edits_so {i = i0} {ms = ms} {qs = qs} coded j run O Y G) =
              let one = answered (on_input (gathered_holding k.members) hs (ticked_low μ T) _ _ (held_shown μ k.members (states_are k.members.states.value) G)) in
              let s = step d x in
              let c = name_at (plan_expressions μ.plan) k.name in
              let q = pattern_of (stored_pattern (plan_expressions μ.plan) k.pattern) in
              let u = plan_collection μ.plan k.edit.value in
              let B = edit_of μ.answers c q u e in
              let E = B (since_edit L) s qs in
              let low = ticked_low μ T in
              let H : IsAnswer l0 (E v) = made_is (hm e qs (since_edit L) N (held_shown μ k.members (states_are k.members.states.value) G) coded) in
              let two = answered (on_input l0 (hb low _ _ (held_shown μ k.members (states_are k.members.states.value) G)) (let i = one.spent.high in omega (arith, low)) _ _ H.stand) in
              let at : option_map E (event_beside s) ≡ Some (answer H.rs) = ap (option_map E) some ∙ ap Some H.is in
              let r = one.r ++ two.r in
              let F : Form net (editing k.shown i0 c q u) e (members_made ms) s L (gave (switched_value k.shown y z) r) (over (both_costs one.k two.k)) =
              of_editing run one.given (subst (λ o. Edited net k.shown o (without_event s) (gave y one.r) (gave (switched_value k.shown y z) r) two.k) (sym at) (edit_now two.given)) in
              let M = of_form (ap (as_members μ) j) (subst (λ v. Form net (editing k.shown i0 c q u) e (members_made ms) s L (gave v r) (over (both_costs one.k two.k))) (sym eg) F) in
              let runs : which_run B ms (s ∷ L) ≡ answer H.rs = ap (λ w. w >>= λ qs. edited (B (since_edit L) s qs) qs (event_beside s)) run ∙ ap (edited E qs) some ∙ H.is in
              let since : since_edit (s ∷ L) ≡ without_event s ∷ [] = ap (λ v. with_inputs first_of (s ∷ kept_before v (since_event L))) some in
              answers (gives O M) (over_spent T (both_spent one.spent two.spent))
              (subst (λ (k' : editing_nodes.Editing). WaitsGathered μ (Editing k') (closure (editing k.shown i0 c q u) e) (s ∷ L)) (sym ek)
              (edits_so coded j runs (and_gave O M) (tables_at since (and_table no_tables two.given)) (held_hidden μ l (states_are l.states.value) (gathers_at l since two.holds))))

    -- there is no event
    members_run_on : (a : Gathered) (y : Data) → HeldSteps μ (gathered_holding k.members) (step d i) (Ok (gathered_holding a, y)) n n1 inside → event_beside (step d x) ≡ None → (k' : editing_nodes.Editing) → k' ≡ record { shown = k.shown; members = a; name = k.name; pattern = k.pattern; edit = k.edit }
        → GatheringSteps μ names (Editing k) (step d x) (Ok ((None, Editing k'), y)) n n1 inside
    members_run_on a y hs none k' ek m depth T t e L N (edits_so {i = i0} {ms = ms} {qs = qs} coded j run O Y G) =
        let one = answered (on_input (gathered_holding k.members) hs (ticked_low μ T) _ _ (held_shown μ k.members (states_are k.members.states.value) G)) in
        let s = step d x in
        let c = name_at (plan_expressions μ.plan) k.name in
        let q = pattern_of (stored_pattern (plan_expressions μ.plan) k.pattern) in
        let u = plan_collection μ.plan k.edit.value in
        let B = edit_of μ.answers c q u e in
        let F : Form net (editing k.shown i0 c q u) e (members_made ms) s L (gave y one.r) (over (both_costs one.k no_cost)) =
        of_editing run one.given (subst (λ v. Edited net k.shown (option_map (B (since_edit L) s qs) v) (without_event s) (gave y one.r) (gave y one.r) no_cost) (sym none) no_edit) in
        let M = of_form (ap (as_members μ) j) F in
        let runs : which_run B ms (s ∷ L) ≡ answer qs = ap (λ w. w >>= λ qs. edited (B (since_edit L) s qs) qs (event_beside s)) run ∙ ap (edited (B (since_edit L) s qs) qs) none in
        let since : since_edit (s ∷ L) ≡ without_event s ∷ since_edit L = ap (λ v. with_inputs first_of (s ∷ kept_before v (since_event L))) none in
        answers (gives O M) (over_spent T (no_more_spent one.spent))
        (subst (λ (k' : editing_nodes.Editing). WaitsGathered μ (Editing k') (closure (editing k.shown i0 c q u) e) (s ∷ L)) (sym ek)
        (edits_so coded j runs (and_gave O M) (tables_at since (and_table Y one.given)) (held_hidden μ a (states_are a.states.value) (gathers_at a since one.holds))))

    -- what a step without an event answers
    pub members_alone : {A E : Type 0} (r : Result A E) (a : Gathered) (y : Data) (f : Fault) → event_beside (step d x) ≡ None → (k' : editing_nodes.Editing) → k' ≡ record { shown = k.shown; members = a; name = k.name; pattern = k.pattern; edit = k.edit }
        → MembersSteps μ k.members (step d i) (left_or r (a, y) f) n n1 inside → GatheringSteps μ names (Editing k) (step d x) (left_or r ((None, Editing k'), y) f) n n1 inside
    members_alone (Ok u) a y f none k' ek hs = members_run_on a y (as_held μ k.members a hs) none k' ek
    members_alone (Err q) a y f none k' ek hs = λ m depth t T e L N W. fails (old_fail f (held_fails μ k.members hs) m depth t T e L N W)

  -- what an edit answers
  module _ (names : Env) (k : editing_nodes.Editing) (d : ℕ) (x i : Data) (taken : i ≡ first_of x) (v : Data) (some : event_beside (step d x) ≡ Some v) (made : Result Holding Fault) (inside : ℕ) where
    abbrev pub IsMadeAs : Result Holding Fault → Type 0
    IsMadeAs r = (e : Environment) (qs : Members) (K : Life) → IsNames μ names e → Gathers μ (gathered_holding k.members) qs K → IsCodedCollection (plan_expressions μ.plan) k.edit.value
        → Made (edit_of μ.answers (name_at (plan_expressions μ.plan) k.name) (pattern_of (stored_pattern (plan_expressions μ.plan) k.pattern)) (plan_collection μ.plan k.edit.value) e K (step d x) qs v) r

    made_so : {r : Result Holding Fault} → made ≡ r → IsMadeAs made → IsMadeAs r
    made_so same hm = subst IsMadeAs same hm

    fails_so : {f : Fault} {n n' : Meter} → IsMadeAs made → EditSteps μ (gathered_holding k.members) made k.shown (step d i) (Err f) n n' inside
        → (m : Meter) (depth : ℕ) → Ticks m n depth inside → (t : Term) (e : Environment) (L : Life) → IsNames μ names e → WaitsGathered μ (Editing k) (closure t e) L → StopsFor (Gives net (closure t e) (step d x ∷ L)) f m n' depth
    fails_so hm (no_memory_before en hn) m depth T t e L N W = memory (ticked_within μ T en hn)
    fails_so {f = f} {n = n} {n' = n'} hm (old_fails hs) m depth T t e L N W = old_fail names k d x i taken n n' inside f hs m depth T t e L N W
    fails_so {n = n} {n' = n'} hm (no_memory_between {a = a} {y = y} {n = n1} hs en hn) m depth T t e L N W = memory (old_memory names k d x i taken n n1 inside a y hs n' en hn m depth T t e L N W)
    fails_so {f = f} {n = n} {n' = n'} hm (made_fails {a = a} {y = y} {n = n1} hs same en hn) m depth T t e L N W =
        edit_stops_it names k d x i taken n n1 inside a y hs v some f (made_so same hm) n' en hn m depth T t e L N W
    fails_so {f = f} {n = n} {n' = n'} hm (new_fails {a = a} {h = h} {y = y} {n = n1} hs same hb) m depth T t e L N W =
        new_stops names k d x i taken n n1 inside a y hs v some h (made_so same hm) n' f hb m depth T t e L N W

    runs_so : {l : Gathered} {g : Data} {n n' : Meter} → IsMadeAs made → EditSteps μ (gathered_holding k.members) made k.shown (step d i) (Ok (gathered_holding l, g)) n n' inside → (k' : editing_nodes.Editing) → k' ≡ record { shown = k.shown; members = l; name = k.name; pattern = k.pattern; edit = k.edit }
        → GatheringSteps μ names (Editing k) (step d x) (Ok ((None, Editing k'), g)) n n' inside
    runs_so {l = l} {g = g} {n = n} {n' = n'} hm (new_run {a = a} {h = h} {y = y} {z = z} {n = n1} hs same hb shows) k' ek = new_runs_on names k d x i taken n n1 inside a y hs v some h (made_so same hm) n' l z g shows k' ek hb

    pub edit_answers : {A E : Type 0} (r : Result A E) (l : Gathered) (g : Data) (f : Fault) {n n' : Meter} → IsMadeAs made → (k' : editing_nodes.Editing) → k' ≡ record { shown = k.shown; members = l; name = k.name; pattern = k.pattern; edit = k.edit }
        → EditSteps μ (gathered_holding k.members) made k.shown (step d i) (left_or r (gathered_holding l, g) f) n n' inside → GatheringSteps μ names (Editing k) (step d x) (left_or r ((None, Editing k'), g) f) n n' inside
    edit_answers (Ok u) l g f hm k' ek h = runs_so hm h k' ek
    edit_answers (Err q) l g f hm k' ek h = λ m depth T t e L N W. fails (fails_so hm h m depth T t e L N W)
