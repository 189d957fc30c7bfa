-- What each function of a sample answers, from what it calls.
use Rattle.std.specs.declared.alloc.Global.{Global}
use Rattle.std.specs.declared.rc.Rc.{Rc}
use Rattle.std.specs.Option.{unwrap_or}
use Rattle.std.proofs.Common.{◌≡◌, ℕ, IsTrue, ◌+◌, ◌≤◌, List, [], ◌∷◌, ◌++◌, Option, Some, Result, Ok, Err, sym, ap, ◌∙◌, subst, arith}
use Rattle.sf_value.specs.Values.{Data}
use Rattle.sf_value.specs.declared.fault.Fault.{Fault}
use Rattle.sf_probe.specs.declared.reading.Readings as declared
use Rattle.sf_probe.specs.Readings.{probe_readings}
use Rattle.sf_value.specs.declared.fault.Fault.TheVariants.{Value, Memory}
use Rattle.sf_value.specs.declared.fault.ValueFault.{ValueFault}
use Rattle.sf_expr.specs.Evaluation.{Evaluated, answer}
use Rattle.sf_expr.specs.Evaluation
use Rattle.sf_term.specs.declared.form.Join.{Join}
use Rattle.sf_law.specs.declared.node.PlanId.{PlanId}
use Rattle.sf_law.specs.declared.node.ShortId.{ShortId}
use Rattle.sf_code.specs.declared.open.OpenCode.{OpenCode}
use Rattle.sf_term.specs.Trees.{Term}
use Rattle.sf_law.specs.Arena.{plan_tree, plan_node_at, full_id, node_arrow}
use Rattle.sf_mean.specs.Lives.{Step, step, Life, Process, closure, Environment, first_input}
use Rattle.sf_mean.specs.Meaning.{Network, Readings, Outcome, gave, faulted, as_outcome, Cost, count, height, both_costs, over, left_life, right_life, join_value, Gives, gives, Outputs, not_begun, and_gave, of_form, Form}
use Rattle.sf_prim.specs.declared.prim_state.PrimState.{PrimState}
use Rattle.sf_state.specs.declared.state.State.{State}
use Rattle.sf_state.specs.declared.state.State.TheVariants.{Unborn, Primitive as SPrimitive, Mapped as SMapped, Primitives as InTurn, Live' as Alive'}
use Rattle.sf_state.specs.declared.state.Primitives.{Primitives}
use Rattle.sf_state.specs.declared.state.Live.{Live}
use Rattle.sf_state.specs.declared.state.Live.TheVariants.{Join as LJoin, Wrap as LWrap}
use Rattle.sf_state.specs.declared.state.Wrap.{Wrap}
use Rattle.sf_state.specs.Standing.{in_sequence, behind_arrow, mapped, in_turn, gathering_on, was_frozen, closed_over, was_alike, Stands, itself, StandsItself, unborn, recalling, alive, watching, continuing_on, Settles, settles, Ready, ready, lives_join, lives_wrap, is_closure, IsNames, AreJoined}
use Rattle.sf_state.specs.declared.env.Env.{Env}
use Rattle.sf_state.specs.Machine.{Machine, machine_network}
use Rattle.sf_meter.specs.declared.meter.Meter.{Meter}
use Rattle.sf_meter.specs.Meters.{entered_of, meter_height, readings, Ticks, Ticked, ticked, refused, left_or}
use Rattle.sf_step.specs.Answering.{Rel, Spent, Within, StopsFor, faults, large, memory, Answers, answers, fails, PrimSteps, LiveSteps, TermSteps, FirstSteps}
use Rattle.sf_begin.proofs.Begins.{join_ready}
use Rattle.sf_begin.specs.Beginning.{is_awake, Prepared, primitive_prepared, mapped_prepared, primitives_prepared, live_prepared, switch_prepared, continuing_prepared, BeginsAs, begins_itself, gathering_prepared}
use Rattle.sf_step.proofs.Costs.{memory_exit, counts, begin_stops}
use Rattle.sf_step.proofs.First.{recalled}
use Rattle.sf_step.specs.Sampling.{PartSteps, StateSteps, CountedSteps, Waiting, WaitingSteps, GivesApart}
use Rattle.sf_step.proofs.Parts.{counted, then_on, with_change, over_spent, both_spent, fails_alike, over_fails, change_fails, then_fails, rest_fails, spent_within, answered, failed, apart_as}
use Rattle.sf_step.proofs.Forms.{left_and, right_and, single_gives, gave_outputs, form_alike, join_alike, wrap_alike, wraps_on}
use Rattle.sf_step.specs.Routing.{left_input, right_input, part_input, wrap_value, kept_after}
use Rattle.sf_step.specs.Stepping.{EachCostsAtLeast, Steps, stepped, faulted_so, too_large, no_memory}
use Rattle.sf_step.proofs.SwitchTurns.{lift_steps, took_answers}

-- a tick that went well
pub ticked_by : {m n : Meter} {depth inside : ℕ} → Ticked m n depth (Ok inside) → Ticks m n depth inside
ticked_by (ticked t) = t

-- the code that was found is the one that stands in the plan
pub same_code : {a b : Rc OpenCode Global} → Some a ≡ Some b → a ≡ b
same_code {a} {b} e = ap (λ (o : Option (Rc OpenCode Global)). unwrap_or o b) e

module _ (μ : Machine) where
  abbrev net : Network
  net = machine_network μ

  -- ## Ticks

  -- one node too many: no outcome fits
  pub tick_fails : {f : Fault} {m n : Meter} {depth : ℕ} (P : Process) (L : Life) → Ticked m n depth (Err f) → StopsFor (Gives net P L) f m n depth
  tick_fails {m = m} {depth = depth} P L (refused h en hn) = large go (record { most = λ o k G. record { entered = omega arith; high = omega arith } })
    where
      go : (o : Outcome) (k : Cost) → Gives net P L o k → entered_of m + count k ≤ 1000000 → depth + height k ≤ 1600 → ⊥
      go o k G a b = let c = counts net G in omega (arith, c.0, c.1, h, a, b)

  -- memory runs out before a node is counted
  pub first_memory : {a : State} {s : Step} {m n : Meter} {depth : ℕ} {f : Fault} → entered_of n ≡ entered_of m → meter_height n ≡ meter_height m → f ≡ Memory → StateSteps μ a s (Err f) m n depth
  first_memory en hn e P L A = memory_exit e (record { most = λ o k G. record { entered = omega (arith, en); high = omega (arith, hn) } })

  -- memory runs out after the parts have been stepped
  pub late_memory : {l l' : Live} {s : Step} {v : Data} {n n' n'' : Meter} {inside : ℕ} {f : Fault} → LiveSteps μ l s (Ok (l', v)) n n' inside → entered_of n'' ≡ entered_of n' → meter_height n'' ≡ meter_height n' → f ≡ Memory
      → LiveSteps μ l s (Err f) n n'' inside
  late_memory hs en hn e m depth t P L R = let w = answered (hs m depth t P L R) in memory_exit e (spent_within (single_gives net P _) w.given w.spent en hn)

  -- the same of a state
  pub late_part : {a a' : State} {s : Step} {v : Data} {m n n' : Meter} {depth : ℕ} {f : Fault} → StateSteps μ a s (Ok (a', v)) m n depth → entered_of n' ≡ entered_of n → meter_height n' ≡ meter_height n → f ≡ Memory
      → StateSteps μ a s (Err f) m n' depth
  late_part hs en hn e P L A = let w = answered (hs P L A) in memory_exit e (spent_within (single_gives net P _) w.given w.spent en hn)

  module _ {A : Type 0} (W : Waiting A) {names : Env} {k : A} {s : Step} {n n' : Meter} {inside : ℕ} where
    -- the same of a switch of some kind
    pub late_waiting : {o : Option State} {k' : A} {v : Data} {n'' : Meter} {f : Fault} → WaitingSteps μ W names k s (Ok ((o, k'), v)) n n' inside → entered_of n'' ≡ entered_of n' → meter_height n'' ≡ meter_height n' → f ≡ Memory
        → WaitingSteps μ W names k s (Err f) n n'' inside
    late_waiting hs en hn e m depth T t env L N S = let w = answered (hs m depth T t env L N S) in memory_exit e (spent_within (single_gives net (closure t env) _) w.given w.spent en hn)

    -- a switch steps as a copy of it
    pub waits_alike : {own : A} {r : Result ((Option State × A) × Data) Fault} → ((P : Process) (L : Life) → W k P L → W own P L) → WaitingSteps μ W names own s r n n' inside → WaitingSteps μ W names k s r n n' inside
    waits_alike f hs m depth T t env L N S = hs m depth T t env L N (f _ _ S)

  -- ## Joins

  module _ (j : Join) (a b : State) (n n' : Meter) (inside d : ℕ) (x u : Data) (eu : u ≡ left_input j x) where
    left_at : (L : Life) → step d u ∷ left_life j L ≡ left_life j (step d x ∷ L)
    left_at L = ap (λ (u : Data). step d u ∷ left_life j L) eu ∙ left_and j d x L

    pub join_left_fails : (f : Fault) → StateSteps μ a (step d u) (Err f) n n' inside
        → (m : Meter) (depth : ℕ) → Ticks m n depth inside → (P : Process) (L : Life) → Ready μ (LJoin j a b) P (first_input (step d x) L) L
        → StopsFor (Gives net P (step d x ∷ L)) f m n' depth
    join_left_fails q hs m depth t P L (ready {m = made} h O (lives_join {f = f} {g = g} {t = both} {e = e} {ys = ys} J OL A B)) =
        fails_alike (form_alike net (step d x) L h O) (fails_alike (join_alike net e made (step d x) L ys J OL)
        (over_fails t (then_fails (subst (λ (K : Life). StopsFor (Gives net (closure f e) K) q n n' inside) (left_at L) (failed (hs _ _ A))))))

    module _ (a' : State) (y w : Data) (ew : w ≡ right_input j x y) (hs : StateSteps μ a (step d u) (Ok (a', y)) n n' inside) where
      right_at : (L : Life) (ys : List Data) → step d w ∷ right_life j L ys ≡ right_life j (step d x ∷ L) (y ∷ ys)
      right_at L ys = ap (λ (w : Data). step d w ∷ right_life j L ys) ew ∙ right_and j d x y L ys

      pub join_right_fails : (n'' : Meter) (f : Fault) → StateSteps μ b (step d w) (Err f) n' n'' inside
          → (m : Meter) (depth : ℕ) → Ticks m n depth inside → (P : Process) (L : Life) → Ready μ (LJoin j a b) P (first_input (step d x) L) L
          → StopsFor (Gives net P (step d x ∷ L)) f m n'' depth
      join_right_fails n'' q hs2 m depth t P L (ready {m = made} h O (lives_join {f = f} {g = g} {t = both} {e = e} {ys = ys} J OL A B)) =
          let one = answered (hs _ _ A) in
          let G = subst (λ (K : Life). Gives net (closure f e) K (gave y one.r) one.k) (left_at L) one.given in
          let H = subst (λ (K : Life). StopsFor (Gives net (closure g e) K) q n' n'' inside) (right_at L ys) (failed (hs2 _ _ B)) in
          fails_alike (form_alike net (step d x) L h O) (fails_alike (join_alike net e made (step d x) L ys J OL)
          (over_fails t (rest_fails (λ z. Gives net (closure g e) (right_life j (step d x ∷ L) (z ∷ ys))) (single_gives net _ _) G one.spent H)))

      pub join_steps : (n'' : Meter) (b' : State) (z v : Data) → v ≡ join_value j y z → StateSteps μ b (step d w) (Ok (b', z)) n' n'' inside
          → LiveSteps μ (LJoin j a b) (step d x) (Ok (LJoin j a' b', v)) n n'' inside
      join_steps n'' b' z v ev hs2 m depth t P L (ready {m = made} h O (lives_join {f = f} {g = g} {t = both} {e = e} {ys = ys} J OL A B)) =
          let one = answered (hs _ _ A) in
          let G = subst (λ (K : Life). Gives net (closure f e) K (gave y one.r) one.k) (left_at L) one.given in
          let OL' = subst (λ (K : Life). Outputs net (closure f e) K (y ∷ ys)) (left_at L) (gave_outputs net OL one.given) in
          let A' = subst (λ (K : Life). Stands μ a' (closure f e) K) (left_at L) one.holds in
          let two = answered (hs2 _ _ B) in
          let H = subst (λ (K : Life). Gives net (closure g e) K (gave z two.r) two.k) (right_at L ys) two.given in
          let B' = subst (λ (K : Life). Stands μ b' (closure g e) K) (right_at L ys) two.holds in
          let F = (join_alike net e made (step d x) L ys J OL).to _ _ (counted (then_on G H)) in
          let F' = subst (λ (v : Data). Form net both e made (step d x) L (gave v (one.r ++ two.r)) (over (both_costs one.k two.k))) (sym ev) F in
          answers (gives O (of_form h F')) (over_spent t (both_spent one.spent two.spent)) (settles (ready h (and_gave O (of_form h F')) (lives_join J OL' A' B')))

      -- the second part's result is the join's
      pub join_last : {A E : Type 0} (n'' : Meter) (b' : State) (z v : Data) (r : Result A E) (f : Fault) → v ≡ join_value j y z → StateSteps μ b (step d w) (left_or r (b', z) f) n' n'' inside
          → LiveSteps μ (LJoin j a b) (step d x) (left_or r (LJoin j a' b', v) f) n n'' inside
      join_last n'' b' z v (Ok u) f ev hs2 = join_steps n'' b' z v ev hs2
      join_last n'' b' z v (Err e) f ev hs2 = λ m depth t P L R. fails (join_right_fails n'' f hs2 m depth t P L R)

  -- ## Forms with one part

  module _ (w : Wrap) (a : State) (n n' : Meter) (inside d : ℕ) (x u : Data) (eu : u ≡ part_input w x) where
    part_at : (K : Life) → step d u ∷ K ≡ step d (part_input w x) ∷ K
    part_at K = ap (λ (u : Data). step d u ∷ K) eu

    pub wrap_fails : (f : Fault) → StateSteps μ a (step d u) (Err f) n n' inside
        → (m : Meter) (depth : ℕ) → Ticks m n depth inside → (P : Process) (L : Life) → Ready μ (LWrap w a) P (first_input (step d x) L) L
        → StopsFor (Gives net P (step d x ∷ L)) f m n' depth
    wrap_fails q hs m depth t P L (ready h O (lives_wrap {u = v} {e = e} {K = K} W A)) =
        fails_alike (form_alike net (step d x) L h O) (fails_alike (wrap_alike net d x W)
        (over_fails t (change_fails (subst (λ (K : Life). StopsFor (Gives net (closure v e) K) q n n' inside) (part_at K) (failed (hs _ _ A))))))

    pub wrap_steps : (a' : State) (w' : Wrap) (y v : Data) → w' ≡ kept_after w y → answer v ≡ wrap_value w x y → StateSteps μ a (step d u) (Ok (a', y)) n n' inside
        → LiveSteps μ (LWrap w a) (step d x) (Ok (LWrap w' a', v)) n n' inside
    wrap_steps a' w' y v ew ev hs m depth t P L (ready {m = made} h O (lives_wrap {t = form} {u = part} {e = e} {K = K} W A)) =
        let one = answered (hs _ _ A) in
        let G = subst (λ (K : Life). Gives net (closure part e) K (gave y one.r) one.k) (part_at K) one.given in
        let A' = subst (λ (K : Life). Stands μ a' (closure part e) K) (part_at K) one.holds in
        let F = (wrap_alike net d x W).to (as_outcome (wrap_value w x y) one.r) (over one.k) (counted (with_change G)) in
        let F' = subst (λ (z : Evaluated Data). Form net form e made (step d x) L (as_outcome z one.r) (over one.k)) (sym ev) F in
        answers (gives O (of_form h F')) (over_spent t one.spent) (settles (ready h (and_gave O (of_form h F')) (lives_wrap (rw ew (wraps_on net d x W G)) A')))

    -- a fault comes after the part's value
    pub wrap_faults : (a' : State) (y : Data) (z : ValueFault) → Evaluation.failed z ≡ wrap_value w x y → StateSteps μ a (step d u) (Ok (a', y)) n n' inside
        → {n'' : Meter} {f : Fault} → entered_of n'' ≡ entered_of n' → meter_height n'' ≡ meter_height n' → f ≡ Value z → LiveSteps μ (LWrap w a) (step d x) (Err f) n n'' inside
    wrap_faults a' y z ez hs {n''} {f} en hn ef m depth t P L (ready {m = made} h O (lives_wrap {t = form} {u = part} {e = e} {K = K} W A)) =
        let one = answered (hs _ _ A) in
        let G = subst (λ (K : Life). Gives net (closure part e) K (gave y one.r) one.k) (part_at K) one.given in
        let F = (wrap_alike net d x W).to (as_outcome (wrap_value w x y) one.r) (over one.k) (counted (with_change G)) in
        let F' = subst (λ (z : Evaluated Data). Form net form e made (step d x) L (as_outcome z one.r) (over one.k)) (sym ez) F in
        let H : Gives net (closure form e) (step d x ∷ L) (faulted z) (over one.k) = gives O (of_form h F') in
        fails (subst (λ (f : Fault). StopsFor (Gives net (closure form e) (step d x ∷ L)) f m n'' depth) (sym ef)
        (faults H ((spent_within (single_gives net (closure form e) (step d x ∷ L)) H (over_spent t one.spent) en hn).most _ _ H)))

    -- the part's result is the form's
    pub wrap_last : {A E : Type 0} (a' : State) (w' : Wrap) (y v : Data) (r : Result A E) (f : Fault) → w' ≡ kept_after w y → answer v ≡ wrap_value w x y → StateSteps μ a (step d u) (left_or r (a', y) f) n n' inside
        → LiveSteps μ (LWrap w a) (step d x) (left_or r (LWrap w' a', v) f) n n' inside
    wrap_last a' w' y v (Ok u) f ew ev hs = wrap_steps a' w' y v ew ev hs
    wrap_last a' w' y v (Err e) f ew ev hs = λ m depth t P L R. fails (wrap_fails f hs m depth t P L R)

  -- one that has counted steps as its state does
  pub primitive_counted : {A E : Type 0} {n n' : Meter} {inside : ℕ} (i i' : PrimState) (s : Step) (v : Data) (r : Result A E) (f : Fault) → PrimSteps μ i s (left_or r (i', v) f) n n'
      → CountedSteps μ (SPrimitive i) s (left_or r (SPrimitive i', v) f) n n' inside
  primitive_counted {inside = inside} i i' s v r f h m depth t P L (primitive_prepared R) = recalled μ i' v r f (h m depth inside t P L R)

  -- ## States

  -- what a primitive on the values of `arr` answers is its state's
  mapped_held : {A E : Type 0} {P : Process} {s : Step} {L : Life} {R : Rel} {m n : Meter} {depth : ℕ} (a : ShortId) (c : Rc OpenCode Global) (i : PrimState) (v : Data) (q : Result A E) (f : Fault) → node_arrow (plan_node_at μ.plan (full_id a)) ≡ Some c
      → Answers {A = Live × Data} (λ y. y.1) (λ y. Settles μ y.0 P (s ∷ L)) R (left_or q (behind_arrow c i, v) f) m n depth
      → Answers {A = State × Data} (λ y. y.1) (λ y. Stands μ y.0 P (s ∷ L)) R (left_or q (SMapped a i, v) f) m n depth
  mapped_held a c i v (Ok u) f h g = let w = answered g in answers w.given w.spent (itself (mapped h w.holds))
  mapped_held a c i v (Err e) f h g = fails (failed g)

  pub mapped_counted : {A E : Type 0} {n n' : Meter} {inside : ℕ} (a : ShortId) (i i' : PrimState) (s : Step) (v : Data) (q : Result A E) (f : Fault)
      → ((c : Rc OpenCode Global) → node_arrow (plan_node_at μ.plan (full_id a)) ≡ Some c → LiveSteps μ (behind_arrow c i) s (left_or q (behind_arrow c i', v) f) n n' inside)
      → CountedSteps μ (SMapped a i) s (left_or q (SMapped a i', v) f) n n' inside
  mapped_counted a i i' s v q f hs m depth t P L (mapped_prepared {c = c} h R) = mapped_held a c i' v q f h (hs c h m depth t P L R)

  -- what two primitives in sequence answer is their state's
  both_held : {A E : Type 0} {P : Process} {s : Step} {L : Life} {R : Rel} {m n : Meter} {depth : ℕ} (r : Rc Primitives Global) (v : Data) (q : Result A E) (f : Fault)
      → Answers {A = Live × Data} (λ y. y.1) (λ y. Settles μ y.0 P (s ∷ L)) R (left_or q (in_sequence r.value, v) f) m n depth
      → Answers {A = State × Data} (λ y. y.1) (λ y. Stands μ y.0 P (s ∷ L)) R (left_or q (InTurn r, v) f) m n depth
  both_held r v (Ok u) f h = let w = answered h in answers w.given w.spent (itself (in_turn w.holds))
  both_held r v (Err e) f h = fails (failed h)

  pub primitives_counted : {A E : Type 0} {n n' : Meter} {inside : ℕ} (r r' : Rc Primitives Global) (s : Step) (v : Data) (q : Result A E) (f : Fault) → LiveSteps μ (in_sequence r.value) s (left_or q (in_sequence r'.value, v) f) n n' inside
      → CountedSteps μ (InTurn r) s (left_or q (InTurn r', v) f) n n' inside
  primitives_counted r r' s v q f h m depth t P L (primitives_prepared R) = both_held r' v q f (h m depth t P L R)

  -- a live part's answer is its state's
  held : {A E : Type 0} {t : Term} {e : Environment} {s : Step} {L : Life} {R : Rel} {m n : Meter} {depth : ℕ} (at : _) (names : Env) (l : Live) (v : Data) (r : Result A E) (f : Fault) → IsNames μ names e
      → Answers {A = Live × Data} (λ y. y.1) (λ y. Settles μ y.0 (closure t e) (s ∷ L)) R (left_or r (l, v) f) m n depth
      → Answers {A = State × Data} (λ y. y.1) (λ y. Stands μ y.0 (closure t e) (s ∷ L)) R (left_or r (Alive' names at l, v) f) m n depth
  held at names l v (Ok u) f N h = let w = answered h in answers w.given w.spent (itself (alive N w.holds))
  held at names l v (Err e) f N h = fails (failed h)

  pub live_counted : {A E : Type 0} {at : _} (at' : _) {n n' : Meter} {inside : ℕ} (names : Env) (l l' : Live) (s : Step) (v : Data) (r : Result A E) (f : Fault) → LiveSteps μ l s (left_or r (l', v) f) n n' inside
      → CountedSteps μ (Alive' names at l) s (left_or r (Alive' names at' l', v) f) n n' inside
  live_counted at' names l l' s v r f h m depth t P L (live_prepared N R) = held at' names l' v r f N (h m depth t P L R)

  -- the node that is stepped stands for all that the shared one stands for
  pub own_steps : (l own : Live) (s : Step) (r : Result (Live × Data) Fault) {n n' : Meter} {inside : ℕ} → ((P : Process) (x : Data) (L : Life) → Ready μ l P x L → Ready μ own P x L) → LiveSteps μ own s r n n' inside → LiveSteps μ l s r n n' inside
  own_steps l own s r f h m depth t P L R = h m depth t P L (f P _ L R)

  -- all that a state stands for itself, it is prepared for
  abbrev pub IsPrepared : State → Type 0
  IsPrepared a = (P : Process) (s : Step) (L : Life) → StandsItself μ a P L → Prepared μ a P (first_input s L) L

  pub primitive_is : (i : PrimState) → IsPrepared (SPrimitive i)
  primitive_is i P s L (recalling R) = primitive_prepared R

  pub mapped_is : (a : ShortId) (i : PrimState) → IsPrepared (SMapped a i)
  mapped_is a i P s L (mapped h (settles R)) = mapped_prepared h R

  pub primitives_are : (r : Rc Primitives Global) → IsPrepared (InTurn r)
  primitives_are r P s L (in_turn (settles R)) = primitives_prepared R

  pub live_is : {at : _} (names : Env) (l : Live) → IsPrepared (Alive' names at l)
  live_is names l P s L (alive N (settles R)) = live_prepared N R

  -- so is what is awake, whatever its form
  pub awake_is : (a : State) → IsTrue (is_awake a) → IsPrepared a
  awake_is a h P s L (unborn A) = absurd cc
  awake_is a h P s L (recalling R) = primitive_prepared R
  awake_is a h P s L (mapped j (settles R)) = mapped_prepared j R
  awake_is a h P s L (in_turn (settles R)) = primitives_prepared R
  awake_is a h P s L (alive N (settles R)) = live_prepared N R
  awake_is a h P s L (watching N W) = switch_prepared N W
  awake_is a h P s L (continuing_on N W) = continuing_prepared N W
  awake_is a h P s L (gathering_on N W) = gathering_prepared N W
  awake_is a h P s L (was_frozen A) = absurd cc

  -- such a state counts, and steps
  pub counted_steps : (a : State) (s : Step) (r : Result (State × Data) Fault) {m n n' : Meter} {depth inside : ℕ} → Ticks m n depth inside → IsPrepared a → CountedSteps μ a s r n n' inside → StateSteps μ a s r m n' depth
  counted_steps a s r {m = m} {n' = n'} {depth = depth} t f h = lift_steps μ a s r m n' depth (λ P L A. h m depth t P L (f P s L A))

  -- what a node gives that is taken apart, a state over it gives
  pub live_apart : {at at' : _} (names : Env) (l l' : Live) (s : Step) {m n n' : Meter} {depth inside : ℕ} {f : Fault} {r : _} → Ticks m n depth inside
      → GivesApart (λ g. LiveSteps μ l s g n n' inside) l' f r → GivesApart (λ g. StateSteps μ (Alive' names at l) s g m n' depth) (Alive' names at' l') f r
  live_apart {at' = at'} names l l' s t h = apart_as
      (λ y S. counted_steps _ s _ t (live_is names l) (live_counted {A = Step} {E = Step} at' names l l' s y (Ok s) Memory S))
      (λ S. counted_steps _ s _ t (live_is names l) (live_counted {A = Step} {E = Step} at' names l l' s (first_input s []) (Err s) _ S)) h

  -- ## The first sample

  begun_prepared : {a : State} {t : Term} {e : Environment} {x : Data} {u : Unit {0}} → BeginsAs μ t e x a (Ok u) → Prepared μ a (closure t e) x []
  begun_prepared (begins_itself A) = A

  module _ {m n : Meter} {depth inside : ℕ} (term : PlanId) (names : Env) (d : ℕ) (x : Data) (t : Ticks m n depth inside) where
    -- what a part that isn't born answers, from what its term answers on its first step
    starts : {n' : Meter} (r : Result (State × Data) Fault)
        → ((e : Environment) → IsNames μ names e → PartSteps μ (closure (plan_tree μ.plan term) e) [] (step d x) r m n' depth)
        → StateSteps μ (Unborn (closed_over term names)) (step d x) r m n' depth
    starts {n' = n'} r h = lift_steps μ (Unborn (closed_over term names)) (step d x) r m n' depth go
      where
        go : (P : Process) (L : Life) → StandsItself μ (Unborn (closed_over term names)) P L → PartSteps μ P L (step d x) r m n' depth
        go P L (unborn (is_closure {e = e} A N)) = took_answers μ (was_alike A not_begun) (h e N)

    -- a primitive steps as it begins
    pub first_counted : {n' : Meter} (r : Result (State × Data) Fault) → FirstSteps μ (plan_tree μ.plan term) names (step d x) r n n' → StateSteps μ (Unborn (closed_over term names)) (step d x) r m n' depth
    first_counted r hs = starts r (λ e N. hs inside m depth t e N)

    -- another term steps as its form does
    pub term_counted : {n' : Meter} (r : Result (State × Data) Fault) → TermSteps μ (plan_tree μ.plan term) names (step d x) r n n' inside → StateSteps μ (Unborn (closed_over term names)) (step d x) r m n' depth
    term_counted r hs = starts r (λ e N. hs m depth t e N)

  module _ (t : Term) (names : Env) (d : ℕ) (x : Data) {n n' : Meter} {inside : ℕ} where
    -- a term steps as it has begun
    pub begun_steps : {u : Unit {0}} (a : State) (r : Result (State × Data) Fault) → ((e : Environment) → IsNames μ names e → BeginsAs μ t e x a (Ok u)) → CountedSteps μ a (step d x) r n n' inside → TermSteps μ t names (step d x) r n n' inside
    begun_steps a r ho hs m depth T e N = hs m depth T _ [] (begun_prepared (ho e N))

    -- or has the fault of what has not begun
    pub begun_fails : entered_of n' ≡ entered_of n → meter_height n' ≡ meter_height n → (a : State) (f g : Fault) → g ≡ f → ((e : Environment) → IsNames μ names e → BeginsAs μ t e x a (Err f)) → TermSteps μ t names (step d x) (Err g) n n' inside
    begun_fails en hn a f g eg ho m depth T e N = fails (subst (λ (g : Fault). StopsFor (Gives net (closure t e) (step d x ∷ [])) g m n' depth) (sym eg) (begin_stops μ T en hn _ (ho e N)))

    -- memory runs out after it was stepped
    pub late_term : {n'' : Meter} {a : State} {v : Data} {f : Fault} → TermSteps μ t names (step d x) (Ok (a, v)) n n' inside → entered_of n'' ≡ entered_of n' → meter_height n'' ≡ meter_height n' → f ≡ Memory → TermSteps μ t names (step d x) (Err f) n n'' inside
    late_term hs en hn ef m depth T e N = let w = answered (hs m depth T e N) in memory_exit ef (spent_within (single_gives net (closure t e) _) w.given w.spent en hn)

  -- two parts that are joined, before their first sample, in one node
  abbrev both_unborn : Join → PlanId → PlanId → Env → Live
  both_unborn j left right names = LJoin j (Unborn (closed_over left names)) (Unborn (closed_over right names))

  both_ready : (j : Join) (left right : PlanId) (names : Env) (t : Term) → AreJoined j (plan_tree μ.plan left) (plan_tree μ.plan right) t → (x : Data) (e : Environment) → IsNames μ names e → Ready μ (both_unborn j left right names) (closure t e) x []
  both_ready j left right names t = join_ready μ j left right t names names names (λ e N. N) (λ e N. N)

  module _ (j : Join) (left right : PlanId) (names : Env) (t : Term) (J : AreJoined j (plan_tree μ.plan left) (plan_tree μ.plan right) t) (d : ℕ) (x : Data) {n n' : Meter} {inside : ℕ} where
    pub joined_fails : (f : Fault) → ((m : Meter) (depth : ℕ) → Ticks m n depth inside → (P : Process) (L : Life) → Ready μ (both_unborn j left right names) P (first_input (step d x) L) L → StopsFor (Gives net P (step d x ∷ L)) f m n' depth)
        → (m : Meter) (depth : ℕ) → Ticks m n depth inside → (e : Environment) → IsNames μ names e → StopsFor (Gives net (closure t e) (step d x ∷ [])) f m n' depth
    joined_fails f h m depth T e N = h m depth T (closure t e) [] (both_ready j left right names t J x e N)

    pub joined_late : {l : Live} {v : Data} {n'' : Meter} {f : Fault} → LiveSteps μ (both_unborn j left right names) (step d x) (Ok (l, v)) n n' inside → entered_of n'' ≡ entered_of n' → meter_height n'' ≡ meter_height n' → f ≡ Memory → TermSteps μ t names (step d x) (Err f) n n'' inside
    joined_late hs en hn ef m depth T e N = fails (failed (late_memory hs en hn ef m depth T (closure t e) [] (both_ready j left right names t J x e N)))

    pub joined_steps : (l : Live) (a : State) (v : Data) → ((e : Environment) → IsNames μ names e → Settles μ l (closure t e) (step d x ∷ []) → Stands μ a (closure t e) (step d x ∷ []))
        → LiveSteps μ (both_unborn j left right names) (step d x) (Ok (l, v)) n n' inside → TermSteps μ t names (step d x) (Ok (a, v)) n n' inside
    joined_steps l a v h hs m depth T e N = let w = answered (hs m depth T (closure t e) [] (both_ready j left right names t J x e N)) in answers w.given w.spent (h e N w.holds)

  -- ## A sample

  all_recorded : {m n : Meter} {k : Cost} {r : Readings} → readings m ≡ [] → Spent m n 0 k r → r ≡ readings n
  all_recorded {r = r} h s = sym (s.recorded ∙ ap (λ l. l ++ r) h)

  -- a value, with what the meter had recorded
  pub sample_steps : {m n n' : Meter} (a a' : State) (s : Step) (v : Data) (q : declared.Readings) → entered_of m ≡ 0 → meter_height m ≡ 0 → readings m ≡ [] → StateSteps μ a s (Ok (a', v)) m n 0
      → probe_readings q ≡ readings n → entered_of n' ≡ entered_of n → meter_height n' ≡ meter_height n
      → (P : Process) (L : Life) → Stands μ a P L → Steps μ P (s ∷ L) (Ok (v, q)) a' n'
  sample_steps {n' = n'} a a' s v q em hm rm hs taken en hn P L A =
      let w = answered (hs P L A) in
      let G = subst (λ (r : Readings). Gives net P (s ∷ L) (gave v r) w.k) (all_recorded rm w.spent ∙ sym taken) w.given in
      stepped {m = n'} G (let c = w.spent.entered in omega arith) (let c = w.spent.high in omega arith) w.holds

  each_costs : {m n : Meter} {P : Process} {L : Life} → entered_of m ≡ 0 → meter_height m ≡ 0 → Within (Gives net P L) m n 0 → EachCostsAtLeast μ P L n
  each_costs em hm w = record { few = λ o k G. let a = (w.most o k G).entered in omega arith; low = λ o k G. let a = (w.most o k G).high in omega arith }

  fails_so : {m n : Meter} {P : Process} {L : Life} (a : State) (f : Fault) → entered_of m ≡ 0 → meter_height m ≡ 0 → StopsFor (Gives net P L) f m n 0 → Steps μ P L (Err f) a n
  fails_so a f em hm (faults G s) = faulted_so G (let a = s.entered in omega arith) (let a = s.high in omega arith)
  fails_so a f em hm (large h w) = too_large (λ o k G c d. h o k G (omega arith) (omega arith)) (each_costs em hm w)
  fails_so a f em hm (memory w) = no_memory (each_costs em hm w)

  pub sample_fails : {m n : Meter} (a a' : State) (s : Step) (f g : Fault) → g ≡ f → entered_of m ≡ 0 → meter_height m ≡ 0 → StateSteps μ a s (Err f) m n 0
      → (P : Process) (L : Life) → Stands μ a P L → Steps μ P (s ∷ L) (Err g) a' n
  sample_fails {n = n} a a' s f g e em hm hs P L A = subst (λ (f : Fault). Steps μ P (s ∷ L) (Err f) a' n) (sym e) (fails_so a' f em hm (failed (hs P L A)))
