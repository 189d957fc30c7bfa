-- What a process gives that gives way to another one, and what is left waiting by a switch.
use Rattle.std.proofs.Common.{◌≡◌, ℕ, [], ◌∷◌, Option, Some, None, Result, Ok, Err, refl, sym, ap, subst}
use Rattle.std.specs.Prelude.{IsErr, unwrap_or}
use Rattle.sf_coincidence.proofs.Same.{alike_back}
use Rattle.sf_coincidence.proofs.Main.{same}
use Rattle.sf_value.specs.Values.{Name, Data}
use Rattle.sf_value.specs.declared.fault.Fault.{Fault}
use Rattle.sf_expr.specs.Expressions.{Pattern}
use Rattle.sf_expr.specs.Evaluation.{Evaluated, answer, ◌>>=◌}
use Rattle.sf_term.specs.declared.form.Observation.{Observation}
use Rattle.sf_term.specs.declared.form.Switching.TheVariants.{Basic}
use Rattle.sf_term.specs.Trees.{Term, Reference, reference, switching, continuing, releasing, Collection}
use Rattle.sf_mean.specs.Lives.{Step, step, Life, Process, closure, resumed, Environment, after, Members}
use Rattle.sf_mean.specs.Meaning.{Network, Readings, Outcome, gave, Cost, Made, process_made, referred, Watched, observed, Takeover, whenever, body_of, continuing_body, Standing, waits, fired, Since, Gives, gives, not_begun, and_gave, of_form, of_resumed, Form, of_reference, of_switch, of_continuing, had_fired, SwitchTurn, while_waiting, as_body, members_made, body_with_members, of_releasing, observed_members}
use Rattle.sf_mean.specs.Meaning
use Rattle.sf_mean.proofs.Once.{once_since}
use Rattle.sf_state.specs.declared.state.State.{State}
use Rattle.sf_state.specs.declared.state.State.TheVariants.{Switch' as Watching', Continuation', Frozen', Gathering'}
use Rattle.sf_state.specs.declared.state.Switch.{Switch}
use Rattle.sf_state.specs.declared.state.Continuation.{Continuation}
use Rattle.sf_state.specs.declared.state.Gathering.{Gathering}
use Rattle.sf_state.specs.declared.state.FrozenNode.{FrozenNode}
use Rattle.sf_state.specs.declared.env.Env.{Env}
use Rattle.sf_state.specs.Standing.{IsNames, Turned, fired_to, continued_to, released_to, ran, went_on, was_alike, Stands, itself, took_over, StandsItself, watching, continuing_on, gathering_on, was_frozen, frozen_state, Waits, WaitsContinuation, WaitsGathered}
use Rattle.sf_state.specs.Machine.{Machine, machine_network}
use Rattle.sf_meter.specs.declared.meter.Meter.{Meter}
use Rattle.sf_meter.specs.Meters.{Ticks}
use Rattle.sf_step.specs.Answering.{Rel, StopsFor, Answers, answers, fails}
use Rattle.sf_begin.specs.Beginning.{Prepared, switch_prepared, continuing_prepared, gathering_prepared}
use Rattle.sf_step.specs.Sampling.{CountedSteps, PartSteps, StateSteps, Waiting, StandsFor, WaitingSteps, left_beside}
use Rattle.sf_step.proofs.Parts.{Over, counted, Alike, over_spent, fails_alike, over_fails, answered, failed}
use Rattle.sf_step.proofs.Forms.{gave_outputs, gives_form}

not_waiting : {Q : Process} {M : Life} → waits ≡ fired Q M → ⊥
not_waiting h = cc

-- what took over from a switch, and its life
abbrev process_at : Process → Standing → Process
process_at P waits = P
process_at P (fired Q M) = Q

abbrev life_at : Life → Standing → Life
life_at K waits = K
life_at K (fired Q M) = M

module _ (μ : Machine) where
  abbrev net : Network
  net = machine_network μ

  -- ## Once another process has taken over

  from_fired : {w : Observation} {W : Watched} {B : Takeover} {s : Step} {L M : Life} {Q : Process} {st : Standing} {o : Outcome} {k : Cost} → st ≡ fired Q M → SwitchTurn net w W B s L st o k → Gives net Q (s ∷ M) o k
  from_fired e (while_waiting G C) = absurd (not_waiting e)
  from_fired {s = s} {o = o} {k = k} e (as_body {M = K} {Q = R} G) =
      let N : Standing → Type 0 = λ st. Gives net (process_at R st) (s ∷ life_at K st) o k in
      subst N e G

  from_resumed : {P : Process} {h : Life} {d : ℕ} {s : Step} {L : Life} {o : Outcome} {k : Cost} → Gives net (resumed P h d) (s ∷ L) o k → Gives net P (after h d (s ∷ L)) o k
  from_resumed (gives O (of_resumed G)) = G

  -- what a reference is made with, from what it refers to
  abbrev as_made : Evaluated Process → Evaluated Made
  as_made q = q >>= λ P. answer (process_made P)

  from_reference : {c : Reference} {e : Environment} {Q : Process} {s r : Step} {L : Life} {o : Outcome} {k : Cost} → Form net (reference c) e (process_made Q) s (r ∷ L) o k → Gives net Q (s ∷ r ∷ L) o k
  from_reference (of_reference G) = G

  from_switch : {w : Observation} {t u : Term} {q : Pattern} {e : Environment} {m : Made} {s : Step} {L M : Life} {Q : Process} {o : Outcome} {k : Cost} → Since net (Meaning.itself (closure t e)) (whenever (body_of q u e)) L (fired Q M)
      → Form net (switching (Basic w) t q u) e m s L o k → Gives net Q (s ∷ M) o k
  from_switch S (of_switch S' T) = from_fired (once_since net S' S) T

  from_continuing : {w : Observation} {t r u : Term} {c : Name} {q : Pattern} {e : Environment} {m : Made} {s : Step} {L M : Life} {Q : Process} {o : Outcome} {k : Cost} → Since net (observed (closure t e) r e) (continuing_body c (closure t e) q u e) L (fired Q M)
      → Form net (continuing w t r c q u) e m s L o k → Gives net Q (s ∷ M) o k
  from_continuing S (of_continuing S' T) = from_fired (once_since net S' S) T

  -- what members are made with, from what they are collected as
  abbrev pub as_members : Evaluated Members → Evaluated Made
  as_members q = q >>= λ ms. answer (members_made ms)

  from_releasing : {w : Observation} {i : Collection} {r u : Term} {c : Name} {q : Pattern} {e : Environment} {ms : Members} {s : Step} {L M : Life} {Q : Process} {o : Outcome} {k : Cost} → Since net (observed_members ms r e) (body_with_members c ms q u e) L (fired Q M)
      → Form net (releasing w i r c q u) e (members_made ms) s L o k → Gives net Q (s ∷ M) o k
  from_releasing S (of_releasing S' T) = from_fired (once_since net S' S) T

  turned_to : {P Q : Process} {L M : Life} → Turned net P L Q M → (s : Step) (o : Outcome) (k : Cost) → Gives net Q (s ∷ M) o k → Gives net P (s ∷ L) o k
  turned_to (fired_to S O) s o k G = gives O (of_form refl (of_switch S (as_body G)))
  turned_to (continued_to S O) s o k G = gives O (of_form refl (of_continuing S (as_body G)))
  turned_to (released_to j S O) s o k G = gives O (of_form (ap as_members j) (of_releasing S (as_body G)))
  turned_to (ran h O) s o k G = gives O (of_form (ap as_made h) (of_reference G))
  turned_to (went_on O) s o k G = gives O (of_resumed G)
  turned_to (was_alike A O) s o k G = same net (alike_back A) G

  turned_back : {P Q : Process} {L M : Life} → Turned net P L Q M → (s : Step) (o : Outcome) (k : Cost) → Gives net P (s ∷ L) o k → Gives net Q (s ∷ M) o k
  turned_back (fired_to {L = L} S O) s o k G = from_switch S (gives_form net s L refl G)
  turned_back (continued_to {L = L} S O) s o k G = from_continuing S (gives_form net s L refl G)
  turned_back (released_to {L = L} j S O) s o k G = from_releasing S (gives_form net s L (ap as_members j) G)
  turned_back (ran {s = r} {L = L} h O) s o k G = from_reference (gives_form net s (r ∷ L) (ap as_made h) G)
  turned_back (went_on O) s o k G = from_resumed G
  turned_back (was_alike A O) s o k G = same net A G

  turned_on : {P Q : Process} {L M : Life} {s : Step} {y : Data} {r : Readings} {k : Cost} → Turned net P L Q M → Gives net P (s ∷ L) (gave y r) k → Turned net P (s ∷ L) Q (s ∷ M)
  turned_on (fired_to S O) G = fired_to (had_fired S) (gave_outputs net O G)
  turned_on (continued_to S O) G = continued_to (had_fired S) (gave_outputs net O G)
  turned_on (released_to j S O) G = released_to j (had_fired S) (gave_outputs net O G)
  turned_on (ran h O) G = ran h (gave_outputs net O G)
  turned_on (went_on O) G = went_on (gave_outputs net O G)
  turned_on (was_alike A O) G = was_alike A (gave_outputs net O G)

  pub took_answers : {P Q : Process} {L M : Life} {s : Step} {r : Result (State × Data) Fault} {m n : Meter} {depth : ℕ} → Turned net P L Q M → PartSteps μ Q M s r m n depth → PartSteps μ P L s r m n depth
  took_answers {s = s} T (answers G sp A) = let H = turned_to T s _ _ G in answers H sp (took_over (turned_on T H) A)
  took_answers {s = s} T (fails h) = fails (fails_alike (record { to = turned_to T s; back = turned_back T s }) h)

  -- a state steps for all that it stands for where it does for what it stands for itself
  pub lift_steps : (a : State) (s : Step) (r : Result (State × Data) Fault) (m n : Meter) (depth : ℕ)
      → ((P : Process) (L : Life) → StandsItself μ a P L → PartSteps μ P L s r m n depth) → StateSteps μ a s r m n depth
  lift_steps a s r m n depth f P L (itself A) = f P L A
  lift_steps a s r m n depth f P L (took_over T A) = took_answers T (lift_steps a s r m n depth f _ _ A)

  -- ## What was frozen goes on

  pub gone_on : {Q : Process} {r0 : Step} {h : Life} {d w : ℕ} {x : Data} {r : Result (State × Data) Fault} {m n : Meter} {depth : ℕ} → PartSteps μ Q (r0 ∷ h) (step d x) r m n depth → PartSteps μ (resumed Q (r0 ∷ h) d) [] (step w x) r m n depth
  gone_on (answers G sp A) = answers (gives not_begun (of_resumed G)) sp (took_over (went_on (and_gave not_begun (of_resumed G))) A)
  gone_on (fails h) = fails (fails_alike (record { to = λ o k G. gives not_begun (of_resumed G); back = λ o k G. from_resumed G }) h)

  -- its first step is that of what it was, in its own time
  pub frozen_steps : (at : _) (d : ℕ) (names : Env) (k : FrozenNode) (a : State) (w : ℕ) (x : Data) (r : Result (State × Data) Fault) (m n : Meter) (depth : ℕ) → ((P : Process) (L : Life) → Stands μ (frozen_state names k) P L → Stands μ a P L)
      → StateSteps μ a (step d x) r m n depth → StateSteps μ (Frozen' at d names k) (step w x) r m n depth
  frozen_steps at d names k a w x r m n depth f h = lift_steps (Frozen' at d names k) (step w x) r m n depth go
    where
      go : (P : Process) (L : Life) → StandsItself μ (Frozen' at d names k) P L → PartSteps μ P L (step w x) r m n depth
      go P L (was_frozen A) = gone_on (h _ _ (f _ _ A))

  -- ## What is referred to

  referred_from : {c : Reference} {e : Environment} {Q : Process} {s : Step} {o : Outcome} {k : Cost} → Form net (reference c) e (process_made Q) s [] o k → Over (Gives net Q (s ∷ [])) o k
  referred_from (of_reference G) = counted G

  module _ {c : Reference} {e : Environment} {P : Process} (is : referred net c e ≡ answer P) where
    referred_to : {s : Step} {o : Outcome} {k : Cost} → Over (Gives net P (s ∷ [])) o k → Gives net (closure (reference c) e) (s ∷ []) o k
    referred_to (counted G) = gives not_begun (of_form (ap as_made is) (of_reference G))

    referred_alike : (s : Step) → Alike (Over (Gives net P (s ∷ []))) (Gives net (closure (reference c) e) (s ∷ []))
    referred_alike s = record { to = λ o k G. referred_to G; back = λ o k G. referred_from (gives_form net s [] (ap as_made is) G) }

    -- a reference steps as what it refers to
    pub referred_steps : {s : Step} {r : Result (State × Data) Fault} {m n n' : Meter} {depth inside : ℕ} → Ticks m n depth inside → PartSteps μ P [] s r n n' inside → PartSteps μ (closure (reference c) e) [] s r m n' depth
    referred_steps t (answers G sp A) = let H = referred_to (counted G) in answers H (over_spent t sp) (took_over (ran is (gave_outputs net not_begun H)) A)
    referred_steps {s = s} t (fails h) = fails (fails_alike (referred_alike s) (over_fails t h))

  -- ## A switch that waits

  -- a `?` that passes a failure on
  pub pass_beside : {A E : Type 0} {view : (Option State × A) × Data → Data} {after : (Option State × A) × Data → Type 0} {R : Rel} {m n : Meter} {depth : ℕ} {f : Fault} (r : Result (Option State) E) (k : A) (v : Data) → IsErr r
      → StopsFor R f m n depth → Answers view after R (left_beside r k v f) m n depth
  pass_beside (Ok o) k v e h = absurd cc
  pass_beside (Err q) k v e h = fails h

  module _ {A : Type 0} (W : Waiting A) where
    -- what takes over, or the switch that waits on
    taken : {P : Process} {K : Life} {R : Rel} {o : Option State} {b : State} {k : A} {v : Data} {m n : Meter} {depth : ℕ} → o ≡ Some b
        → Answers {A = (Option State × A) × Data} (λ y. y.1) (λ y. StandsFor μ W y.0.0 y.0.1 P K) R (Ok ((o, k), v)) m n depth → Answers {A = State × Data} (λ y. y.1) (λ y. Stands μ y.0 P K) R (Ok (b, v)) m n depth
    taken {P = P} {K = K} {k = k} e h = let w = answered h in answers w.given w.spent (subst (λ o. StandsFor μ W o k P K) e w.holds)

    -- a state is a switch of this kind that waits with these names
    abbrev pub IsWaiting : Env → A → State → Type 0
    IsWaiting names k b = (t : Term) (e : Environment) (s : Step) (L : Life) → IsNames μ names e → W k (closure t e) (s ∷ L) → StandsItself μ b (closure t e) (s ∷ L)

    waiting_on : {t : Term} {e : Environment} {s : Step} {L : Life} {R : Rel} {o : Option State} {k : A} {b : State} {v : Data} {m n : Meter} {depth : ℕ} (names : Env) → o ≡ None → IsWaiting names k b → IsNames μ names e
        → Answers {A = (Option State × A) × Data} (λ y. y.1) (λ y. StandsFor μ W y.0.0 y.0.1 (closure t e) (s ∷ L)) R (Ok ((o, k), v)) m n depth
        → Answers {A = State × Data} (λ y. y.1) (λ y. Stands μ y.0 (closure t e) (s ∷ L)) R (Ok (b, v)) m n depth
    waiting_on {t = t} {e = e} {s = s} {L = L} {k = k} names none is N h =
        let w = answered h in
        answers w.given w.spent (itself (is t e s L N (subst (λ o. StandsFor μ W o k (closure t e) (s ∷ L)) none w.holds)))

    -- what a state is prepared for that is such a switch
    pub data WaitsAt (names : Env) (k : A) : Process → Life → Type 0 where
      waits_at : {t : Term} {e : Environment} {L : Life} → IsNames μ names e → W k (closure t e) L → WaitsAt names k (closure t e) L

    -- the node that is stepped waits for all that the shared one waits for
    module _ (names : Env) (k own : A) (follows : (P : Process) (L : Life) → W k P L → W own P L) (a : State) (s : Step) (n n' : Meter) (inside : ℕ) (sees : (P : Process) (x : Data) (L : Life) → Prepared μ a P x L → WaitsAt names k P L) where
      -- a state steps as the switch does
      as_waiting : (r : Result (State × Data) Fault)
          → ((m : Meter) (depth : ℕ) → Ticks m n depth inside → (t : Term) (e : Environment) (L : Life) → IsNames μ names e → W own (closure t e) L → PartSteps μ (closure t e) L s r m n' depth) → CountedSteps μ a s r n n' inside
      as_waiting r h m depth t P L R = by_names (sees P _ L R)
        where
          by_names : {P : Process} {L : Life} → WaitsAt names k P L → PartSteps μ P L s r m n' depth
          by_names (waits_at N S) = h m depth t _ _ _ N (follows _ _ S)

      pub goes_over : (o : Option State) (b : State) (k' : A) (v : Data) → o ≡ Some b → WaitingSteps μ W names own s (Ok ((o, k'), v)) n n' inside → CountedSteps μ a s (Ok (b, v)) n n' inside
      goes_over o b k' v is h = as_waiting (Ok (b, v)) (λ m depth t T e L N S. taken is (h m depth t T e L N S))

      pub stays_on : (o : Option State) (b : State) (k' : A) (v : Data) → o ≡ None → IsWaiting names k' b → WaitingSteps μ W names own s (Ok ((o, k'), v)) n n' inside → CountedSteps μ a s (Ok (b, v)) n n' inside
      stays_on o b k' v none is h = as_waiting (Ok (b, v)) (λ m depth t T e L N S. waiting_on names none is N (h m depth t T e L N S))

      pub waiting_fails : (f : Fault) → WaitingSteps μ W names own s (Err f) n n' inside → CountedSteps μ a s (Err f) n n' inside
      waiting_fails f h = as_waiting (Err f) (λ m depth t T e L N S. fails (failed (h m depth t T e L N S)))

  -- ## Of both kinds

  is_watching : {at : _} (names : Env) (k : Switch) → IsWaiting (Waits μ) names k (Watching' names at k.form k.running k.pattern k.body)
  is_watching names k t e s L N S = watching N S

  is_continuing : {at : _} (names : Env) (k : Continuation) → IsWaiting (WaitsContinuation μ) names k (Continuation' names at k.shown k.first k.source k.before k.observer k.name k.pattern k.body)
  is_continuing names k t e s L N S = continuing_on N S

  is_gathering : {at : _} (names : Env) (k : Gathering) → IsWaiting (WaitsGathered μ) names k (Gathering' names at k)
  is_gathering names k t e s L N S = gathering_on N S

  seen_gathering : {at : _} (names : Env) (k : Gathering) (P : Process) (x : Data) (L : Life) → Prepared μ (Gathering' names at k) P x L → WaitsAt (WaitsGathered μ) names k P L
  seen_gathering names k P x L (gathering_prepared N S) = waits_at N S

  seen_watching : {at : _} (names : Env) (k : Switch) (P : Process) (x : Data) (L : Life) → Prepared μ (Watching' names at k.form k.running k.pattern k.body) P x L → WaitsAt (Waits μ) names k P L
  seen_watching names k P x L (switch_prepared N S) = waits_at N S

  seen_continuing : {at : _} (names : Env) (k : Continuation) (P : Process) (x : Data) (L : Life) → Prepared μ (Continuation' names at k.shown k.first k.source k.before k.observer k.name k.pattern k.body) P x L → WaitsAt (WaitsContinuation μ) names k P L
  seen_continuing names k P x L (continuing_prepared N S) = waits_at N S

  module _ (at : _) (names : Env) (k own : Switch) (follows : (P : Process) (L : Life) → Waits μ k P L → Waits μ own P L) (s : Step) (n n' : Meter) (inside : ℕ) where
    watching_goes : (o : Option State) (b : State) (k' : Switch) (v : Data) → o ≡ Some b → WaitingSteps μ (Waits μ) names own s (Ok ((o, k'), v)) n n' inside → CountedSteps μ (Watching' names at k.form k.running k.pattern k.body) s (Ok (b, v)) n n' inside
    watching_goes o b k' v is h = goes_over (Waits μ) names k own follows _ s n n' inside (seen_watching names k) o b k' v is h

    watching_stays : (at' : _) (o : Option State) (k' : Switch) (v : Data) → o ≡ None → WaitingSteps μ (Waits μ) names own s (Ok ((o, k'), v)) n n' inside
        → CountedSteps μ (Watching' names at k.form k.running k.pattern k.body) s (Ok (Watching' names at' k'.form k'.running k'.pattern k'.body, v)) n n' inside
    watching_stays at' o k' v none h = stays_on (Waits μ) names k own follows _ s n n' inside (seen_watching names k) o _ k' v none (is_watching names k') h

    -- what takes over, if anything does, and the switch that waits on
    pub watching_turns : (at' : _) (o : Option State) (k' : Switch) (v : Data) (b : State) → b ≡ unwrap_or o (Watching' names at' k'.form k'.running k'.pattern k'.body) → WaitingSteps μ (Waits μ) names own s (Ok ((o, k'), v)) n n' inside
        → CountedSteps μ (Watching' names at k.form k.running k.pattern k.body) s (Ok (b, v)) n n' inside
    watching_turns at' (Some a) k' v b same h = subst (λ (b : State). CountedSteps μ (Watching' names at k.form k.running k.pattern k.body) s (Ok (b, v)) n n' inside) (sym same) (watching_goes (Some a) a k' v refl h)
    watching_turns at' None k' v b same h = subst (λ (b : State). CountedSteps μ (Watching' names at k.form k.running k.pattern k.body) s (Ok (b, v)) n n' inside) (sym same) (watching_stays at' None k' v refl h)

    pub watching_fails : (f : Fault) → WaitingSteps μ (Waits μ) names own s (Err f) n n' inside → CountedSteps μ (Watching' names at k.form k.running k.pattern k.body) s (Err f) n n' inside
    watching_fails f h = waiting_fails (Waits μ) names k own follows _ s n n' inside (seen_watching names k) f h

  module _ (at : _) (names : Env) (k own : Continuation) (follows : (P : Process) (L : Life) → WaitsContinuation μ k P L → WaitsContinuation μ own P L) (s : Step) (n n' : Meter) (inside : ℕ) where
    continuing_goes : (o : Option State) (b : State) (k' : Continuation) (v : Data) → o ≡ Some b → WaitingSteps μ (WaitsContinuation μ) names own s (Ok ((o, k'), v)) n n' inside
        → CountedSteps μ (Continuation' names at k.shown k.first k.source k.before k.observer k.name k.pattern k.body) s (Ok (b, v)) n n' inside
    continuing_goes o b k' v is h = goes_over (WaitsContinuation μ) names k own follows _ s n n' inside (seen_continuing names k) o b k' v is h

    continuing_stays : (at' : _) (o : Option State) (k' : Continuation) (v : Data) → o ≡ None → WaitingSteps μ (WaitsContinuation μ) names own s (Ok ((o, k'), v)) n n' inside
        → CountedSteps μ (Continuation' names at k.shown k.first k.source k.before k.observer k.name k.pattern k.body) s (Ok (Continuation' names at' k'.shown k'.first k'.source k'.before k'.observer k'.name k'.pattern k'.body, v)) n n' inside
    continuing_stays at' o k' v none h = stays_on (WaitsContinuation μ) names k own follows _ s n n' inside (seen_continuing names k) o _ k' v none (is_continuing names k') h

    pub continuing_turns : (at' : _) (o : Option State) (k' : Continuation) (v : Data) (b : State) → b ≡ unwrap_or o (Continuation' names at' k'.shown k'.first k'.source k'.before k'.observer k'.name k'.pattern k'.body) → WaitingSteps μ (WaitsContinuation μ) names own s (Ok ((o, k'), v)) n n' inside
        → CountedSteps μ (Continuation' names at k.shown k.first k.source k.before k.observer k.name k.pattern k.body) s (Ok (b, v)) n n' inside
    continuing_turns at' (Some a) k' v b same h = subst (λ (b : State). CountedSteps μ (Continuation' names at k.shown k.first k.source k.before k.observer k.name k.pattern k.body) s (Ok (b, v)) n n' inside) (sym same) (continuing_goes (Some a) a k' v refl h)
    continuing_turns at' None k' v b same h = subst (λ (b : State). CountedSteps μ (Continuation' names at k.shown k.first k.source k.before k.observer k.name k.pattern k.body) s (Ok (b, v)) n n' inside) (sym same) (continuing_stays at' None k' v refl h)

    pub continuing_fails : (f : Fault) → WaitingSteps μ (WaitsContinuation μ) names own s (Err f) n n' inside → CountedSteps μ (Continuation' names at k.shown k.first k.source k.before k.observer k.name k.pattern k.body) s (Err f) n n' inside
    continuing_fails f h = waiting_fails (WaitsContinuation μ) names k own follows _ s n n' inside (seen_continuing names k) f h

  module _ (at : _) (names : Env) (k own : Gathering) (follows : (P : Process) (L : Life) → WaitsGathered μ k P L → WaitsGathered μ own P L) (s : Step) (n n' : Meter) (inside : ℕ) where
    gathering_goes : (o : Option State) (b : State) (k' : Gathering) (v : Data) → o ≡ Some b → WaitingSteps μ (WaitsGathered μ) names own s (Ok ((o, k'), v)) n n' inside → CountedSteps μ (Gathering' names at k) s (Ok (b, v)) n n' inside
    gathering_goes o b k' v is h = goes_over (WaitsGathered μ) names k own follows _ s n n' inside (seen_gathering names k) o b k' v is h

    gathering_stays : (at' : _) (o : Option State) (k' : Gathering) (v : Data) → o ≡ None → WaitingSteps μ (WaitsGathered μ) names own s (Ok ((o, k'), v)) n n' inside → CountedSteps μ (Gathering' names at k) s (Ok (Gathering' names at' k', v)) n n' inside
    gathering_stays at' o k' v none h = stays_on (WaitsGathered μ) names k own follows _ s n n' inside (seen_gathering names k) o _ k' v none (is_gathering names k') h

    pub gathering_turns : (at' : _) (o : Option State) (k' : Gathering) (v : Data) (b : State) → b ≡ unwrap_or o (Gathering' names at' k') → WaitingSteps μ (WaitsGathered μ) names own s (Ok ((o, k'), v)) n n' inside → CountedSteps μ (Gathering' names at k) s (Ok (b, v)) n n' inside
    gathering_turns at' (Some a) k' v b same h = subst (λ (b : State). CountedSteps μ (Gathering' names at k) s (Ok (b, v)) n n' inside) (sym same) (gathering_goes (Some a) a k' v refl h)
    gathering_turns at' None k' v b same h = subst (λ (b : State). CountedSteps μ (Gathering' names at k) s (Ok (b, v)) n n' inside) (sym same) (gathering_stays at' None k' v refl h)

    pub gathering_fails : (f : Fault) → WaitingSteps μ (WaitsGathered μ) names own s (Err f) n n' inside → CountedSteps μ (Gathering' names at k) s (Err f) n n' inside
    gathering_fails f h = waiting_fails (WaitsGathered μ) names k own follows _ s n n' inside (seen_gathering names k) f h
