-- Stages that are stepped one after another.
use Rattle.std.proofs.Common.{◌≡◌, ℕ, ◌+◌, ◌<◌, suc, List, [], ◌∷◌, ◌++◌, length, get_or, set, take, drop, Vec, Result, Ok, Err, refl, sym, ap, ◌∙◌, subst, append_assoc, arith, drop-cons}
use Rattle.std.specs.declared.alloc.Global.{Global}
use Rattle.std.proofs.lemmas.List.{drop-set-lt, take_more_set, append-nil}
use Rattle.std.proofs.Math.Seq.{take-length, drop-length}
use Rattle.sf_value.specs.Values.{Data}
use Rattle.sf_value.specs.declared.fault.Fault.{Fault}
use Rattle.sf_term.specs.declared.form.Join.TheVariants.{InSequence}
use Rattle.sf_term.specs.Trees.{whole, rest, Term, staged}
use Rattle.sf_mean.specs.Lives.{Step, step, Life, Process, closure, Environment, first_input, relay}
use Rattle.sf_mean.specs.Meaning.{Network, Outcome, gave, faulted, combined, outcome_value, Cost, both_costs, over, text_cost, Made, nothing_made, join_value, Gives, gives, Outputs, not_begun, and_gave, of_form, Form, of_stages, Next, goes_on, stops}
use Rattle.sf_mean.proofs.Once.{onces}
use Rattle.sf_state.specs.declared.state.State.{State}
use Rattle.sf_state.specs.declared.state.Live.{items_hidden-the_row-State-0}
use Rattle.sf_state.specs.declared.state.Live.TheVariants.{Pipeline as LPipeline}
use Rattle.sf_state.specs.Standing.{Stands, itself, took_over, unborn, recalling, mapped, in_turn, recalls, alive, watching, waits_so, recurs_so, continuing_on, continues_so, gathering_on, releases_so, edits_so, was_frozen, Turned, fired_to, continued_to, released_to, ran, went_on, was_alike, settles, Ready, ready, lives_pipeline, StagesStand, last_stands, stage_stands}
use Rattle.sf_state.specs.Machine.{Machine, machine_network}
use Rattle.sf_state.proofs.Copies.{pipeline_lives}
use Rattle.sf_meter.specs.declared.meter.Meter.{Meter}
use Rattle.sf_meter.specs.Meters.{Ticks}
use Rattle.sf_step.specs.Answering.{Rel, StopsFor, Answers, answers, fails, LiveSteps}
use Rattle.sf_step.specs.Sampling.{StateSteps}
use Rattle.sf_step.proofs.Parts.{Over, counted, Then, then_on, then_stop, Alike, over_spent, both_spent, fails_alike, over_fails, then_fails, rest_fails, answered, failed}
use Rattle.sf_step.proofs.Forms.{single_gives, gave_outputs, form_alike, gives_form}

-- the answer of stages, behind those that have been stepped
abbrev pub behind : List State → Result (List State × Data) Fault → Result (List State × Data) Fault
behind done (Ok y) = Ok (done ++ y.0, y.1)
behind done (Err f) = Err f

module _ (n : Network) where
  -- ## The rest of a pipeline is its first stage, and then the others

  abbrev RestRel : Term → Term → Environment → Step → Life → List Data → Rel
  RestRel f g e s L ys = Then (Gives n (closure f e) (s ∷ L)) (join_value InSequence) (text_cost g) (λ y. Gives n (closure g e) (relay (s ∷ L) (y ∷ ys)))

  module _ (f g : Term) (e : Environment) (m : Made) (s : Step) (L : Life) (ys : List Data) (O : Outputs n (closure f e) L ys) where
    rest_to : (o : Outcome) (k : Cost) → RestRel f g e s L ys o k → Form n (staged rest f g) e m s L o k
    rest_to o k (then_on G H) = of_stages O G (goes_on H)
    rest_to o k (then_stop G) = of_stages O G stops

    rest_next : (q : Outcome) {o : Outcome} {k l : Cost} → Gives n (closure f e) (s ∷ L) q k → Next n q g e (relay (s ∷ L) (outcome_value q ∷ ys)) o l → RestRel f g e s L ys (combined (join_value InSequence) q o) (both_costs k l)
    rest_next (gave y r) G (goes_on H) = then_on G H
    rest_next (faulted x) G stops = then_stop G

    rest_back : (o : Outcome) (k : Cost) → Form n (staged rest f g) e m s L o k → RestRel f g e s L ys o k
    rest_back o k (of_stages {ys = zs} {o = q} {o' = q'} {c' = l} O' G N) =
        rest_next q G (subst (λ (ys : List Data). Next n q g e (relay (s ∷ L) (outcome_value q ∷ ys)) q' l) (onces n O' O) N)

    rest_form_alike : Alike (RestRel f g e s L ys) (Form n (staged rest f g) e m s L)
    rest_form_alike = record { to = rest_to; back = rest_back }

  pub rest_alike : (f g : Term) (e : Environment) (s : Step) (L : Life) (ys zs : List Data) → Outputs n (closure f e) L ys → Outputs n (closure (staged rest f g) e) L zs
      → Alike (RestRel f g e s L ys) (Gives n (closure (staged rest f g) e) (s ∷ L))
  rest_alike f g e s L ys zs O Z =
      let a = rest_form_alike f g e nothing_made s L ys O in
      let b = form_alike n s L refl Z in
      record { to = λ o k R. b.to o k (a.to o k R); back = λ o k G. a.back o k (b.back o k G) }

  -- ## A pipeline counts, over its stages

  whole_form : {f g : Term} {e : Environment} {m m' : Made} {s : Step} {L : Life} {o : Outcome} {k : Cost} → Form n (staged rest f g) e m s L o k → Form n (staged whole f g) e m' s L o (over k)
  whole_form (of_stages O G N) = of_stages O G N

  pipeline_to : {f g : Term} {e : Environment} {m : Made} (s : Step) (L : Life) {o : Outcome} {k : Cost} → Over (Gives n (closure (staged rest f g) e) (s ∷ L)) o k → Form n (staged whole f g) e m s L o k
  pipeline_to s L (counted G) = whole_form (gives_form n s L refl G)

  pipeline_back : {f g : Term} {e : Environment} {m : Made} (s : Step) (L : Life) {zs : List Data} {o : Outcome} {k : Cost} → Outputs n (closure (staged rest f g) e) L zs → Form n (staged whole f g) e m s L o k → Over (Gives n (closure (staged rest f g) e) (s ∷ L)) o k
  pipeline_back s L Z (of_stages O G N) = counted (gives Z (of_form {m = nothing_made} refl (of_stages O G N)))

  pub pipeline_alike : {f g : Term} {e : Environment} {m : Made} (s : Step) (L : Life) {zs : List Data} → Outputs n (closure (staged rest f g) e) L zs → Alike (Over (Gives n (closure (staged rest f g) e) (s ∷ L))) (Form n (staged whole f g) e m s L)
  pipeline_alike s L Z = record { to = λ o k R. pipeline_to s L R; back = λ o k F. pipeline_back s L Z F }

  -- the outputs of stages are those of the last one
  staged_outputs : {f g : Term} {e : Environment} {L : Life} {ys zs : List Data} → Outputs n (closure f e) L ys → Outputs n (closure g e) (relay L ys) zs → Outputs n (closure (staged rest f g) e) L zs
  staged_outputs not_begun not_begun = not_begun
  staged_outputs (and_gave O S) (and_gave O' S') = and_gave (staged_outputs O O') (of_form {m = nothing_made} refl (of_stages O (gives O S) (goes_on (gives O' S'))))

module _ (μ : Machine) where
  abbrev net : Network
  net = machine_network μ

  -- what a process gave so far
  abbrev Gave : Process → Life → Type 0
  Gave P L = (ys : List Data) × Outputs net P L ys

  turned_gave : {P Q : Process} {L M : Life} → Turned net P L Q M → Gave P L
  turned_gave (fired_to S O) = (_, O)
  turned_gave (continued_to S O) = (_, O)
  turned_gave (released_to j S O) = (_, O)
  turned_gave (ran h O) = (_, O)
  turned_gave (went_on O) = (_, O)
  turned_gave (was_alike A O) = (_, O)

  state_gave : {a : State} {P : Process} {L : Life} → Stands μ a P L → Gave P L
  state_gave (itself (unborn Q)) = ([], not_begun)
  state_gave (itself (recalling (recalls O K))) = (_, O)
  state_gave (itself (mapped j (settles (ready h O K)))) = (_, O)
  state_gave (itself (in_turn (settles (ready h O K)))) = (_, O)
  state_gave (itself (alive N (settles (ready h O K)))) = (_, O)
  state_gave (itself (watching N (waits_so own S O A))) = (_, O)
  state_gave (itself (watching N (recurs_so own O A))) = (_, O)
  state_gave (itself (continuing_on N (continues_so S O OY A B))) = (_, O)
  state_gave (itself (gathering_on N (releases_so j S O Y G A))) = (_, O)
  state_gave (itself (gathering_on N (edits_so t j R O Y G))) = (_, O)
  state_gave (itself (was_frozen A)) = ([], not_begun)
  state_gave (took_over T A) = turned_gave T

  stages_gave : {bs : List State} {u : Term} {e : Environment} {L : Life} → StagesStand μ bs u e L → Gave (closure u e) L
  stages_gave (last_stands A) = state_gave A
  stages_gave (stage_stands O A S) = let r = stages_gave S in (r.0, staged_outputs net O r.1)

  -- ## Steps

  -- Stages step to the outcome of the rest of a pipeline; without stages the value stays.
  abbrev pub StagesStep : List State → ℕ → Data → Result (List State × Data) Fault → Meter → Meter → ℕ → Type 0
  StagesStep [] d x r m n inside = (r ≡ Ok ([], x)) × (n ≡ m)
  StagesStep (a ∷ bs) d x r m n inside = (u : Term) (e : Environment) (L : Life) → StagesStand μ (a ∷ bs) u e L
      → Answers (λ y. y.1) (λ y. StagesStand μ y.0 u e (step d x ∷ L)) (Gives net (closure u e) (step d x ∷ L)) r m n inside

  module _ (a : State) (d : ℕ) (x : Data) (m n : Meter) (inside : ℕ) where
    -- a stage fails
    pub stage_fails : (bs : List State) (f : Fault) → StateSteps μ a (step d x) (Err f) m n inside → StagesStep (a ∷ bs) d x (Err f) m n inside
    stage_fails bs f hs u e L (last_stands A) = fails (failed (hs _ _ A))
    stage_fails bs f hs u e L (stage_stands {f = t} {g = g} {ys = ys} O A S) =
        let Z = staged_outputs net O (stages_gave S).1 in
        fails (fails_alike (rest_alike net t g e (step d x) L ys _ O Z) (then_fails (failed (hs _ _ A))))

    module _ (a' : State) (y : Data) (hs : StateSteps μ a (step d x) (Ok (a', y)) m n inside) where
      last_steps : (u : Term) (e : Environment) (L : Life) → StagesStand μ (a ∷ []) u e L
          → Answers {A = List State × Data} (λ y. y.1) (λ y. StagesStand μ y.0 u e (step d x ∷ L)) (Gives net (closure u e) (step d x ∷ L)) (Ok (a' ∷ [], y)) m n inside
      last_steps u e L (last_stands A) = let w = answered (hs _ _ A) in answers w.given w.spent (last_stands w.holds)
      last_steps u e L (stage_stands O A S) = elim S [ ]

      stage_and : (n' : Meter) (b : State) (bs : List State) (r : Result (List State × Data) Fault) (u : Term) (e : Environment) (L : Life) → StagesStep (b ∷ bs) d y r n n' inside → StagesStand μ (a ∷ b ∷ bs) u e L
          → Answers {A = List State × Data} (λ y. y.1) (λ y. StagesStand μ y.0 u e (step d x ∷ L)) (Gives net (closure u e) (step d x ∷ L)) (behind (a' ∷ []) r) m n' inside
      stage_and n' b bs (Ok z) u e L h (stage_stands {f = t} {g = g} {ys = ys} O A S) =
          let one = answered (hs _ _ A) in
          let two = answered (h g e (relay L ys) S) in
          let Z = staged_outputs net O (stages_gave S).1 in
          answers ((rest_alike net t g e (step d x) L ys _ O Z).to _ _ (then_on one.given two.given)) (both_spent one.spent two.spent) (stage_stands (gave_outputs net O one.given) one.holds two.holds)
      stage_and n' b bs (Err q) u e L h (stage_stands {f = t} {g = g} {ys = ys} O A S) =
          let one = answered (hs _ _ A) in
          let Z = staged_outputs net O (stages_gave S).1 in
          fails (fails_alike (rest_alike net t g e (step d x) L ys _ O Z)
          (rest_fails (λ z. Gives net (closure g e) (relay (step d x ∷ L) (z ∷ ys))) (single_gives net _ _) one.given one.spent (failed (h g e (relay L ys) S))))

      -- a stage steps, and the others on its value
      pub stage_steps : (n' : Meter) (bs : List State) (r : Result (List State × Data) Fault) → StagesStep bs d y r n n' inside → StagesStep (a ∷ bs) d x (behind (a' ∷ []) r) m n' inside
      stage_steps n' [] r h u e L S =
          subst (λ (k : Meter). Answers (λ y. y.1) (λ y. StagesStand μ y.0 u e (step d x ∷ L)) (Gives net (closure u e) (step d x ∷ L)) (behind (a' ∷ []) r) m k inside) (sym h.1)
          (subst (λ r. Answers (λ y. y.1) (λ y. StagesStand μ y.0 u e (step d x ∷ L)) (Gives net (closure u e) (step d x ∷ L)) (behind (a' ∷ []) r) m n inside) (sym h.0) (last_steps u e L S))
      stage_steps n' (b ∷ bs) r h u e L S = stage_and n' b bs r u e L h S

  -- the answer of stages that stand
  stages_answer : (bs : List State) (d : ℕ) (x : Data) (r : Result (List State × Data) Fault) (m n : Meter) (inside : ℕ) (u : Term) (e : Environment) (L : Life) → StagesStep bs d x r m n inside → StagesStand μ bs u e L
      → Answers (λ y. y.1) (λ y. StagesStand μ y.0 u e (step d x ∷ L)) (Gives net (closure u e) (step d x ∷ L)) r m n inside
  stages_answer [] d x r m n inside u e L h S = elim S [ ]
  stages_answer (a ∷ bs) d x r m n inside u e L h S = h u e L S

  stands_at : (v : Vec State Global) {u : Term} {e : Environment} {L : Life} {bs : List State} → bs ≡ v.items → StagesStand μ bs u e L → StagesStand μ v.items u e L
  stands_at v {u = u} {e = e} {L = L} h S = subst (λ (bs : List State). StagesStand μ bs u e L) h S

  module _ (v : Vec State Global) (d : ℕ) (x : Data) (n n' : Meter) (inside : ℕ) where
    -- a pipeline steps as its stages do
    pub pipeline_steps : (w : Vec State Global) (y : Data) → StagesStep v.items d x (Ok (w.items, y)) n n' inside → LiveSteps μ (LPipeline v) (step d x) (Ok (LPipeline w, y)) n n' inside
    pipeline_steps w y hs m depth t P L (ready {m = made} h O (lives_pipeline {f = f} {g = g} {e = e} S)) =
        let T = stands_at v (items_hidden-the_row-State-0 v) S in
        let one = answered (stages_answer v.items d x _ n n' inside (staged rest f g) e L hs T) in
        let F = (pipeline_alike net {m = made} (step d x) L (stages_gave T).1).to _ _ (counted one.given) in
        answers (gives O (of_form h F)) (over_spent t one.spent) (settles (ready h (and_gave O (of_form h F)) (pipeline_lives μ w one.holds)))

    pub pipeline_fails : (f : Fault) → StagesStep v.items d x (Err f) n n' inside
        → (m : Meter) (depth : ℕ) → Ticks m n depth inside → (P : Process) (L : Life) → Ready μ (LPipeline v) P (first_input (step d x) L) L → StopsFor (Gives net P (step d x ∷ L)) f m n' depth
    pipeline_fails q hs m depth t P L (ready {m = made} h O (lives_pipeline {f = f} {g = g} {e = e} S)) =
        let T = stands_at v (items_hidden-the_row-State-0 v) S in
        fails_alike (form_alike net (step d x) L h O) (fails_alike (pipeline_alike net {m = made} (step d x) L (stages_gave T).1)
        (over_fails t (failed (stages_answer v.items d x _ n n' inside (staged rest f g) e L hs T))))

  -- ## The loop

  -- the stage at an index, before those that are left after it
  left_from : (now : List State) (i : ℕ) (any : State) → i < length now → drop i now ≡ get_or now i any ∷ drop (i + 1) now
  left_from now i any short = let more : suc i ≡ i + 1 = omega arith in drop-cons now i any short ∙ ap (λ k. get_or now i any ∷ drop k now) more

  -- what the stages that are left answer is the answer of all, behind those that are done
  abbrev pub Continues : List State → ℕ → Data → Meter → List State → List State → Data → Meter → ℕ → Type 0
  Continues all d x m done left y n inside = (r : Result (List State × Data) Fault) (n' : Meter) → StagesStep left d y r n n' inside → StagesStep all d x (behind done r) m n' inside

  pub continues_first : (bs : List State) (d : ℕ) (x : Data) (m : Meter) (inside : ℕ) → Continues bs d x m [] bs x m inside
  continues_first bs d x m inside (Ok y) n' h = h
  continues_first bs d x m inside (Err f) n' h = h

  behind_one : (done : List State) (a : State) (r : Result (List State × Data) Fault) → behind done (behind (a ∷ []) r) ≡ behind (done ++ a ∷ []) r
  behind_one done a (Ok y) = ap (λ (bs : List State). Ok (bs, y.1)) (sym (append_assoc done (a ∷ []) y.0))
  behind_one done a (Err f) = refl

  module _ (all : List State) (d : ℕ) (x : Data) (m : Meter) (now : List State) (i : ℕ) (y : Data) (n : Meter) (inside : ℕ) (any : State) (short : i < length now) (c : Continues all d x m (take i now) (drop i now) y n inside) where
    abbrev a : State
    a = get_or now i any

    left_is : drop i now ≡ a ∷ drop (i + 1) now
    left_is = left_from now i any short

    pub continues_next : (a' : State) (z : Data) (n' : Meter) → StateSteps μ a (step d y) (Ok (a', z)) n n' inside
        → Continues all d x m (take (i + 1) (set now i a')) (drop (i + 1) (set now i a')) z n' inside
    continues_next a' z n' hs r k h =
        let rest_same = drop-set-lt (i + 1) now i a' (omega arith) in
        let one = stage_steps a d y n n' inside a' z hs k (drop (i + 1) now) r (subst (λ (bs : List State). StagesStep bs d z r n' k inside) rest_same h) in
        let two = c (behind (a' ∷ []) r) k (subst (λ (bs : List State). StagesStep bs d y (behind (a' ∷ []) r) n k inside) (sym left_is) one) in
        subst (λ r. StagesStep all d x r m k inside) (behind_one (take i now) a' r ∙ ap (λ (bs : List State). behind bs r) (sym (take_more_set now i a' short))) two

    pub continues_fails : (f : Fault) (n' : Meter) → StateSteps μ a (step d y) (Err f) n n' inside → StagesStep all d x (Err f) m n' inside
    continues_fails f n' hs = c (Err f) n' (subst (λ (bs : List State). StagesStep bs d y (Err f) n n' inside) (sym left_is) (stage_fails a d y n n' inside (drop (i + 1) now) f hs))

  -- all stages are done
  pub continues_last : (all : List State) (d : ℕ) (x : Data) (m : Meter) (now : List State) (i : ℕ) (y : Data) (n : Meter) (inside : ℕ) → i ≡ length now → Continues all d x m (take i now) (drop i now) y n inside → StagesStep all d x (Ok (now, y)) m n inside
  continues_last all d x m now i y n inside e c =
      let none : drop i now ≡ [] = ap (λ k. drop k now) e ∙ drop-length now in
      let done : take i now ≡ now = ap (λ k. take k now) e ∙ take-length now in
      let last = c (Ok ([], y)) n (subst (λ (bs : List State). StagesStep bs d y (Ok ([], y)) n n inside) (sym none) (refl, refl)) in
      subst (λ (bs : List State). StagesStep all d x (Ok (bs, y)) m n inside) (append-nil (take i now) ∙ done) last
