-- Members of a collection are stepped one after another, each on the same input.
use Rattle.std.proofs.Common.{◌≡◌, ℕ, suc, ◌+◌, ◌≤◌, ◌<◌, List, [], ◌∷◌, ◌++◌, length, take, drop, get_or, set, true, false, Option, Some, None, Vec, Result, Ok, Err, refl, sym, ap, ◌∙◌, subst, append_assoc, arith, drop-cons}
use mathlib.Core.Path.{ap₂}
use Rattle.std.proofs.lemmas.List.{drop-set-lt, take_more_set, append-nil}
use Rattle.std.proofs.Math.Seq.{take-length, drop-length}
use Rattle.std.specs.Prelude.{IsErr}
use Rattle.std.specs.declared.alloc.Global.{Global}
use Rattle.sf_value.specs.declared.value.Value.{Value}
use Rattle.sf_value.specs.Values.{KeyData, Data, table}
use Rattle.sf_value.specs.View.{keyed_rows}
use Rattle.sf_value.specs.declared.fault.Fault.{Fault}
use Rattle.sf_value.specs.declared.fault.Fault.TheVariants.{Memory}
use Rattle.sf_term.specs.Trees.{Collection, gathered}
use Rattle.sf_mean.specs.Collections.{leading_row}
use Rattle.sf_mean.specs.Lives.{Step, step, Life, Process, frozen, Environment, Members, member, first_input}
use Rattle.sf_mean.specs.Meaning.{Network, Outcome, gave, faulted, combined, Cost, no_cost, both_costs, members_made, Gives, gives, and_gave, of_form, Form, of_gathered, Each, no_more, one_more, Others, others_go_on, others_stop, and_table}
use Rattle.sf_mean.proofs.Once.{once_each}
use Rattle.sf_state.specs.declared.state.State.{State}
use Rattle.sf_state.specs.declared.state.State.TheVariants.{Unborn', Primitive as SPrimitive, Mapped as SMapped, Primitives as InTurn, Live' as Alive', Switch' as Watching', Continuation', Gathering', Frozen'}
use Rattle.sf_begin.specs.Beginning.{is_awake}
use Rattle.sf_state.specs.declared.state.Live.{items_hidden-the_row-State-0 as states_are}
use Rattle.sf_state.specs.declared.state.Live.TheVariants.{Gathered as LGathered}
use Rattle.sf_state.specs.declared.state.Gathered.{Gathered}
use Rattle.sf_state.specs.Held.{gathered_holding}
use Rattle.sf_state.specs.Standing.{Stands, Ready, ready, lives_gathered, gathers, settles, Gathers, EachStands, none_stands, one_stands, as_it_stands, as_it_stood, AllFollow, keys_in}
use Rattle.sf_state.specs.Machine.{Machine, machine_network}
use Rattle.sf_state.proofs.Copies.{each_follows, held_shown, members_live, IsFresh, HasLived, primitive_lived, mapped_lived, in_turn_lived, alive_lived, watching_lived, continuing_lived, gathering_lived, unborn_fresh, frozen_fresh}
use Rattle.sf_meter.specs.declared.meter.Meter.{Meter}
use Rattle.sf_meter.specs.Meters.{entered_of, meter_height, Ticks, left_or}
use Rattle.sf_step.specs.Answering.{Rel, StopsFor, memory, answers, fails, LiveSteps}
use Rattle.sf_step.specs.Sampling.{PartSteps, StateSteps, MemberSteps, EachSteps, MembersSteps, left_with}
use Rattle.sf_step.proofs.SwitchTurns.{gone_on}
use Rattle.sf_step.proofs.Parts.{Over, counted, single, spent_within, Then, then_on, then_stop, Alike, over_spent, both_spent, fails_alike, over_fails, then_fails, rest_fails, answered, failed}
use Rattle.sf_step.proofs.Forms.{single_gives, form_alike}

module _ (n : Network) where
  -- ## Members are the first of them, and then the others

  abbrev MembersRel : KeyData → Process → Members → Step → Life → Rel
  MembersRel k P ms s L = Then (Gives n P (s ∷ L)) (leading_row k) no_cost (λ y. Each n ms s L)

  module _ (k : KeyData) (P : Process) (ms : Members) (s : Step) (L : Life) where
    members_to : (o : Outcome) (c : Cost) → MembersRel k P ms s L o c → Each n (member k P ms) s L o c
    members_to o c (then_on G H) = one_more G (others_go_on H)
    members_to o c (then_stop G) = one_more G others_stop

    then_others : (q : Outcome) {o : Outcome} {c l : Cost} → Gives n P (s ∷ L) q c → Others n q ms s L o l → MembersRel k P ms s L (combined (leading_row k) q o) (both_costs c l)
    then_others (gave y r) G (others_go_on H) = then_on G H
    then_others (faulted x) G others_stop = then_stop G

    members_back : (o : Outcome) (c : Cost) → Each n (member k P ms) s L o c → MembersRel k P ms s L o c
    members_back o c (one_more {o = q} G N) = then_others q G N

    members_alike : Alike (MembersRel k P ms s L) (Each n (member k P ms) s L)
    members_alike = record { to = members_to; back = members_back }

  gathered_to : {i : Collection} {e : Environment} {ms : Members} {s : Step} {L : Life} (o : Outcome) (c : Cost) → Over (Each n ms s L) o c → Form n (gathered i) e (members_made ms) s L o c
  gathered_to o c (counted E) = of_gathered E

  gathered_back : {i : Collection} {e : Environment} {ms : Members} {s : Step} {L : Life} (o : Outcome) (c : Cost) → Form n (gathered i) e (members_made ms) s L o c → Over (Each n ms s L) o c
  gathered_back o c (of_gathered E) = counted E

  gathered_alike : {i : Collection} {e : Environment} {ms : Members} {s : Step} {L : Life} → Alike (Over (Each n ms s L)) (Form n (gathered i) e (members_made ms) s L)
  gathered_alike = record { to = gathered_to; back = gathered_back }

module _ (μ : Machine) (w : Option ℕ) where
  abbrev net : Network
  net = machine_network μ

  -- states, which run or wait so long, step as the members do for which they stand, to values in their order
  abbrev EachAt : List State → ℕ → Data → Result (List State × List Data) Fault → Meter → Meter → ℕ → Type 0
  EachAt bs d x r m n inside = EachSteps μ w bs (step d x) r m n inside

  -- what those that are left answer, behind those that are done
  abbrev pub behind : List State → List Data → Result (List State × List Data) Fault → Result (List State × List Data) Fault
  behind done ys (Ok y) = Ok (done ++ y.0, ys ++ y.1)
  behind done ys (Err f) = Err f

  -- none are left
  pub nobody_steps : (d : ℕ) (x : Data) (n : Meter) (inside : ℕ) → EachAt [] d x (Ok ([], [])) n n inside
  nobody_steps d x n inside low ms L none_stands = answers no_more (record { entered = omega arith; high = omega (arith, low); recorded = sym (append-nil _) }) none_stands

  -- memory runs out before the next one
  pub memory_now : (bs : List State) (d : ℕ) (x : Data) (n n2 : Meter) (inside : ℕ) → entered_of n2 ≡ entered_of n → meter_height n2 ≡ meter_height n → EachAt bs d x (Err Memory) n n2 inside
  memory_now bs d x n n2 inside en hn low ms L S = fails (memory (record { most = λ o k G. record { entered = omega (arith, en); high = omega (arith, hn) } }))

  -- a want of memory is the fault, in the list that was stepped
  pub stopped_at : {bs cs : List State} {d : ℕ} {x : Data} {f : Fault} {m n : Meter} {inside : ℕ} → bs ≡ cs → f ≡ Memory → EachAt bs d x (Err Memory) m n inside → EachAt cs d x (Err f) m n inside
  stopped_at {bs} {cs} {d} {x} {f} {m} {n} {inside} same e h =
      subst (λ (f : Fault). EachAt cs d x (Err f) m n inside) (sym e) (subst (λ (bs : List State). EachAt bs d x (Err Memory) m n inside) same h)

  module _ (a : State) (d : ℕ) (x : Data) (m n : Meter) (inside : ℕ) where
    -- the next one fails
    pub one_fails : (bs : List State) (f : Fault) → MemberSteps μ w a (step d x) (Err f) m n inside → EachAt (a ∷ bs) d x (Err f) m n inside
    one_fails bs f hs low ms L (one_stands {k = k} {P = P} {ms = qs} A S) = fails (fails_alike (members_alike net k P qs (step d x) L) (then_fails (failed (hs _ _ A))))

    -- it steps, and then the others
    pub one_steps : (a' : State) (y : Data) → MemberSteps μ w a (step d x) (Ok (a', y)) m n inside → (n' : Meter) (bs : List State) (r : Result (List State × List Data) Fault)
        → EachAt bs d x r n n' inside → EachAt (a ∷ bs) d x (behind (a' ∷ []) (y ∷ []) r) m n' inside
    one_steps a' y hs n' bs (Ok z) h low ms L (one_stands {k = k} {P = P} {ms = qs} A S) =
        let one = answered (hs _ _ A) in
        let two = answered (h (let i = one.spent.high in omega (arith, low)) _ _ S) in
        answers (members_to net k P qs (step d x) L _ _ (then_on one.given two.given)) (both_spent one.spent two.spent) (one_stands (as_it_stands one.holds) two.holds)
    one_steps a' y hs n' bs (Err f) h low ms L (one_stands {k = k} {P = P} {ms = qs} A S) =
        let one = answered (hs _ _ A) in
        fails (fails_alike (members_alike net k P qs (step d x) L)
        (rest_fails (λ z. Each net qs (step d x) L) (single_gives net _ _) one.given one.spent (failed (h (let i = one.spent.high in omega (arith, low)) _ _ S))))

  -- ## The loop

  -- what those that are left answer is the answer of all, behind those that are done
  abbrev pub Continues : List State → ℕ → Data → Meter → List State → List Data → List State → Meter → ℕ → Type 0
  Continues all d x m done ys left n inside = (r : Result (List State × List Data) Fault) (n' : Meter) → EachAt left d x r n n' inside → EachAt all d x (behind done ys r) m n' inside

  pub each_first : (bs : List State) (d : ℕ) (x : Data) (m : Meter) (inside : ℕ) → Continues bs d x m [] [] bs m inside
  each_first bs d x m inside (Ok y) n' h = h
  each_first bs d x m inside (Err f) n' h = h

  behind_one : (done : List State) (ys : List Data) (a : State) (y : Data) (r : Result (List State × List Data) Fault) → behind done ys (behind (a ∷ []) (y ∷ []) r) ≡ behind (done ++ a ∷ []) (ys ++ y ∷ []) r
  behind_one done ys a y (Ok z) = ap₂ (λ (bs : List State) (ws : List Data). Ok (bs, ws)) (sym (append_assoc done (a ∷ []) z.0)) (sym (append_assoc ys (y ∷ []) z.1))
  behind_one done ys a y (Err f) = refl

  pub left_from : (now : List State) (i : ℕ) (any : State) → i < length now → drop i now ≡ get_or now i any ∷ drop (i + 1) now
  left_from now i any short = let more : suc i ≡ i + 1 = omega arith in drop-cons now i any short ∙ ap (λ k. get_or now i any ∷ drop k now) more

  module _ (all : List State) (d : ℕ) (x : Data) (m : Meter) (now : List State) (i : ℕ) (ys : List Data) (n : Meter) (inside : ℕ) (any : State) (short : i < length now) (c : Continues all d x m (take i now) ys (drop i now) n inside) where
    abbrev a : State
    a = get_or now i any

    left_is : drop i now ≡ a ∷ drop (i + 1) now
    left_is = left_from now i any short

    pub each_next : (a' : State) (z : Data) (n' : Meter) → MemberSteps μ w a (step d x) (Ok (a', z)) n n' inside
        → Continues all d x m (take (i + 1) (set now i a')) (ys ++ z ∷ []) (drop (i + 1) (set now i a')) n' inside
    each_next a' z n' hs r k h =
        let rest_same = drop-set-lt (i + 1) now i a' (omega arith) in
        let one = one_steps a d x n n' inside a' z hs k (drop (i + 1) now) r (subst (λ (bs : List State). EachAt bs d x r n' k inside) rest_same h) in
        let two = c (behind (a' ∷ []) (z ∷ []) r) k (subst (λ (bs : List State). EachAt bs d x (behind (a' ∷ []) (z ∷ []) r) n k inside) (sym left_is) one) in
        subst (λ r. EachAt all d x r m k inside) (behind_one (take i now) ys a' z r ∙ ap (λ (bs : List State). behind bs (ys ++ z ∷ []) r) (sym (take_more_set now i a' short))) two

    pub each_fails : (f : Fault) (n' : Meter) → MemberSteps μ w a (step d x) (Err f) n n' inside → EachAt all d x (Err f) m n' inside
    each_fails f n' hs = c (Err f) n' (subst (λ (bs : List State). EachAt bs d x (Err f) n n' inside) (sym left_is) (one_fails a d x n n' inside (drop (i + 1) now) f hs))

  -- memory runs out between members, or after them
  pub each_memory : (all : List State) (d : ℕ) (x : Data) (m : Meter) (done : List State) (ys : List Data) (left : List State) (n n2 : Meter) (inside : ℕ) → Continues all d x m done ys left n inside
      → entered_of n2 ≡ entered_of n → meter_height n2 ≡ meter_height n → EachAt all d x (Err Memory) m n2 inside
  each_memory all d x m done ys left n n2 inside c en hn = c (Err Memory) n2 (memory_now left d x n n2 inside en hn)

  -- all are done
  pub each_last : (all : List State) (d : ℕ) (x : Data) (m : Meter) (now : List State) (i : ℕ) (ys : List Data) (n : Meter) (inside : ℕ) → i ≡ length now → Continues all d x m (take i now) ys (drop i now) n inside → EachAt all d x (Ok (now, ys)) m n inside
  each_last all d x m now i ys n inside e c =
      let none : drop i now ≡ [] = ap (λ k. drop k now) e ∙ drop-length now in
      let done : take i now ≡ now = ap (λ k. take k now) e ∙ take-length now in
      let last = c (Ok ([], [])) n (subst (λ (bs : List State). EachAt bs d x (Ok ([], [])) n n inside) (sym none) (nobody_steps d x n inside)) in
      subst (λ (r : List State × List Data). EachAt all d x (Ok r) m n inside) (ap₂ (λ (bs : List State) (ws : List Data). (bs, ws)) (append-nil (take i now) ∙ done) (append-nil ys)) last

-- ## Members that run, or wait

-- a `?` that passes a failure on
pub pass_with : {μ : Machine} {w : Option ℕ} {bs : List State} {s : Step} {E : Type 0} {m n : Meter} {inside : ℕ} {f : Fault} (r : Result (Vec Value Global) E) (cs : List State) → IsErr r
    → EachSteps μ w bs s (Err f) m n inside → EachSteps μ w bs s (left_with r cs f) m n inside
pass_with (Ok ys) cs e h = absurd cc
pass_with (Err q) cs e h = h

module _ (μ : Machine) where
  -- states step as those that stand for all that they stand for
  pub list_alike : {w : Option ℕ} {bs cs : List State} {s : Step} {r : Result (List State × List Data) Fault} {m n : Meter} {inside : ℕ} → AllFollow μ bs cs → EachSteps μ w cs s r m n inside → EachSteps μ w bs s r m n inside
  list_alike fs h low ms L S = h low ms L (each_follows μ fs S)

  -- memory runs out after they have been stepped
  pub late_list : {w : Option ℕ} {bs cs : List State} {ys : List Data} {s : Step} {f : Fault} {m n n2 : Meter} {inside : ℕ} → EachSteps μ w bs s (Ok (cs, ys)) m n inside → entered_of n2 ≡ entered_of n → meter_height n2 ≡ meter_height n → f ≡ Memory
      → EachSteps μ w bs s (Err f) m n2 inside
  late_list {s = s} {m = m} {n2 = n2} {inside = inside} hs en hn e low ms L S =
      let one = answered (hs low ms L S) in
      let single_each = single (λ a b j k G H. once_each (machine_network μ) G H) in
      fails (subst (λ (f : Fault). StopsFor (Each (machine_network μ) ms s L) f m n2 inside) (sym e) (memory (spent_within single_each one.given one.spent en hn)))

  -- what is awake has lived, and what isn't hasn't
  pub awake_lived : (a : State) → is_awake a ≡ true → HasLived μ a
  awake_lived (Unborn' t names) e = absurd cc
  awake_lived (SPrimitive i) e = primitive_lived μ i
  awake_lived (SMapped m i) e = mapped_lived μ m i
  awake_lived (InTurn r) e = in_turn_lived μ r
  awake_lived (Alive' names at l) e = alive_lived μ names l
  awake_lived (Watching' names at w a q b) e = watching_lived μ names (record { form = w; running = a; pattern = q; body = b })
  awake_lived (Continuation' names at w f a x o k q b) e = continuing_lived μ names (record { shown = w; first = f; source = a; before = x; observer = o; name = k; pattern = q; body = b })
  awake_lived (Gathering' names at g) e = gathering_lived μ names g
  awake_lived (Frozen' at d names k) e = absurd cc

  pub asleep_fresh : (a : State) → is_awake a ≡ false → IsFresh μ a
  asleep_fresh (Unborn' t names) e = unborn_fresh μ (record { term = t; names = names })
  asleep_fresh (SPrimitive i) e = absurd cc
  asleep_fresh (SMapped m i) e = absurd cc
  asleep_fresh (InTurn r) e = absurd cc
  asleep_fresh (Alive' names at l) e = absurd cc
  asleep_fresh (Watching' names at w a q b) e = absurd cc
  asleep_fresh (Continuation' names at w f a x o k q b) e = absurd cc
  asleep_fresh (Gathering' names at g) e = absurd cc
  asleep_fresh (Frozen' at d names k) e = frozen_fresh μ d names k

  -- one that runs steps as a state
  pub runs_among : (a : State) (s : Step) (r : Result (State × Data) Fault) (m n : Meter) (inside : ℕ) → StateSteps μ a s r m n inside → MemberSteps μ None a s r m n inside
  runs_among a s r m n inside h P L (as_it_stands A) = h P L A

  -- one that waits and hadn't lived begins
  pub begins_among : (a : State) (wait d : ℕ) (x : Data) (r : Result (State × Data) Fault) (m n : Meter) (inside : ℕ) → IsFresh μ a → StateSteps μ a (step d x) r m n inside → MemberSteps μ (Some wait) a (step d x) r m n inside
  begins_among a wait d x r m n inside fresh h P L (as_it_stood {Q = Q} {M = M} A e) = by M A e
    where
      by : (M : Life) → Stands μ a Q M → P ≡ frozen Q M wait → PartSteps μ P [] (step d x) r m n inside
      by [] A e = subst (λ P. PartSteps μ P [] (step d x) r m n inside) (sym e) (h Q [] A)
      by (s ∷ M) A e = let none = fresh Q (s ∷ M) A in absurd cc

  -- one that waits and had lived goes on in its own time
  pub goes_on_among : (a : State) (wait d : ℕ) (x : Data) (r : Result (State × Data) Fault) (m n : Meter) (inside : ℕ) → HasLived μ a → StateSteps μ a (step wait x) r m n inside → MemberSteps μ (Some wait) a (step d x) r m n inside
  goes_on_among a wait d x r m n inside lived h P L (as_it_stood {Q = Q} {M = M} A e) = by M A e
    where
      by : (M : Life) → Stands μ a Q M → P ≡ frozen Q M wait → PartSteps μ P [] (step d x) r m n inside
      by [] A e = let one = lived Q [] A in absurd cc
      by (s ∷ M) A e = subst (λ P. PartSteps μ P [] (step d x) r m n inside) (sym e) (gone_on μ (h Q (s ∷ M) A))

  -- a collection steps as its states do
  pub members_step : (g h : Gathered) (d : ℕ) (x : Data) (m n : Meter) (inside : ℕ) (ys : List Data) (y : Data) → y ≡ table (keyed_rows g.keys.value ys) → h.keys.value ≡ g.keys.value → h.wait ≡ None
      → EachSteps μ g.wait g.states.value.items (step d x) (Ok (h.states.value.items, ys)) m n inside → MembersSteps μ g (step d x) (Ok (h, y)) m n inside
  members_step g h d x m n inside ys y same keys runs hs low ms L (gathers K S) =
      let one = answered (hs low ms L S) in
      let value : y ≡ table (keyed_rows (keys_in ms) ys) = same ∙ ap (λ ks. table (keyed_rows ks ys)) K in
      answers (subst (λ v. Each (machine_network μ) ms (step d x) L (gave v one.r) one.k) (sym value) one.given) one.spent
      (gathers (keys ∙ K) (subst (λ v. EachStands μ v h.states.value.items ms (step d x ∷ L)) (sym runs) one.holds))

  pub members_fail : (g : Gathered) (d : ℕ) (x : Data) (m n : Meter) (inside : ℕ) (f : Fault) → EachSteps μ g.wait g.states.value.items (step d x) (Err f) m n inside
      → inside ≤ meter_height m → (ms : Members) (L : Life) → Gathers μ (gathered_holding g) ms L → StopsFor (Each (machine_network μ) ms (step d x) L) f m n inside
  members_fail g d x m n inside f hs low ms L (gathers K S) = failed (hs low ms L S)

  -- memory runs out for their table
  pub members_end : (g : Gathered) (d : ℕ) (x : Data) (m n n2 : Meter) (inside : ℕ) (cs : List State) (ys : List Data) {f : Fault} → f ≡ Memory → entered_of n2 ≡ entered_of n → meter_height n2 ≡ meter_height n
      → EachSteps μ g.wait g.states.value.items (step d x) (Ok (cs, ys)) m n inside → MembersSteps μ g (step d x) (Err f) m n2 inside
  members_end g d x m n n2 inside cs ys e en hn hs low ms L (gathers K S) =
      let one = answered (hs low ms L S) in
      let single_each = single (λ a b j k G H. once_each (machine_network μ) G H) in
      fails (subst (λ (f : Fault). StopsFor (Each (machine_network μ) ms (step d x) L) f m n2 inside) (sym e) (memory (spent_within single_each one.given one.spent en hn)))

  -- the height counts the nodes around
  pub ticked_low : {m n : Meter} {depth inside : ℕ} → Ticks m n depth inside → inside ≤ meter_height n
  ticked_low T = let h = T.high in omega (arith, h)

  module _ (g : Gathered) (d : ℕ) (x : Data) (n n' : Meter) (inside : ℕ) where
    -- `parB` steps as its members do
    pub gathered_steps : (h : Gathered) (y : Data) → MembersSteps μ g (step d x) (Ok (h, y)) n n' inside → LiveSteps μ (LGathered g) (step d x) (Ok (LGathered h, y)) n n' inside
    gathered_steps h y hs m depth T P L (ready r O (lives_gathered {ms = ms} Y G)) =
        let one = answered (hs (ticked_low T) ms L (held_shown μ g (states_are g.states.value) G)) in
        let E : Each (machine_network μ) ms (step d x) L (gave y one.r) one.k = one.given in
        answers (gives O (of_form r (of_gathered E))) (over_spent T one.spent) (settles (ready r (and_gave O (of_form r (of_gathered E))) (members_live μ h (and_table Y E) one.holds)))

    pub gathered_fails : (f : Fault) → MembersSteps μ g (step d x) (Err f) n n' inside
        → (m : Meter) (depth : ℕ) → Ticks m n depth inside → (P : Process) (L : Life) → Ready μ (LGathered g) P (first_input (step d x) L) L → StopsFor (Gives (machine_network μ) P (step d x ∷ L)) f m n' depth
    gathered_fails f hs m depth T P L (ready r O (lives_gathered {ms = ms} Y G)) =
        fails_alike (form_alike (machine_network μ) (step d x) L r O) (fails_alike (gathered_alike (machine_network μ)) (over_fails T (failed (hs (ticked_low T) ms L (held_shown μ g (states_are g.states.value) G)))))

    pub gathered_so : {A E : Type 0} (r : Result A E) (h : Gathered) (y : Data) (f : Fault) → MembersSteps μ g (step d x) (left_or r (h, y) f) n n' inside → LiveSteps μ (LGathered g) (step d x) (left_or r (LGathered h, y) f) n n' inside
    gathered_so (Ok a) h y f hs = gathered_steps h y hs
    gathered_so (Err q) h y f hs = λ m depth T P L R. fails (gathered_fails f hs m depth T P L R)
