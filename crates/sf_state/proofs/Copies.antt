-- A copy of a node stands for the same.
use Rattle.std.proofs.Common.{◌≡◌, ℕ, suc, ◌+◌, ◌<◌, Bool, true, false, List, [], ◌∷◌, ◌++◌, length, get_or, set, take, String, string_bytes, Vec, Option, Some, None, Result, Ok, Err, IfOk, refl, subst, sym, ◌∙◌, ap, arith}
use Rattle.std.specs.Option.{unwrap_or}
use Rattle.std.proofs.Math.Seq.{take-suc}
use Rattle.std.proofs.lemmas.List.{take_more_set}
use Rattle.std.specs.declared.alloc.Global.{Global}
use Rattle.std.specs.declared.rc.Rc.{Rc}
use Rattle.sf_term.specs.declared.form.Join.{Join}
use Rattle.sf_term.specs.declared.form.Join.TheVariants.{InSequence}
use Rattle.sf_law.specs.declared.node.ShortId.{ShortId}
use Rattle.sf_law.specs.declared.node.PlanCollection.{PlanCollection}
use Rattle.sf_law.specs.Entries.{IsCodedCollection}
use Rattle.sf_law.specs.Arena.{plan_collection, plan_expressions}
use Rattle.sf_expr.specs.Expressions.{Pattern}
use Rattle.sf_expr.specs.Patterns.{pattern_of}
use Rattle.sf_expr.specs.Arena.{stored_pattern, name_at}
use Rattle.sf_term.specs.Trees.{whole, rest, Term, Primitive, primitive, probe, staged, gathered, editing, Collection}
use Rattle.sf_expr.specs.Evaluation.{Scope, answer}
use Rattle.sf_value.specs.Values.{KeyData, Name, Data}
use Rattle.sf_mean.specs.Lives.{Step, Life, Process, closure, resumed, Environment, after, frozen, Members, no_members, member, each_frozen}
use Rattle.sf_mean.specs.Meaning.{Network, Made, members_made, Tables, edit_of, which_run, Outputs, Watched, Takeover, fired, stands_after, Since, had_fired, watched}
use Rattle.sf_prim.specs.declared.prim_state.PrimState.{PrimState}
use Rattle.sf_prim.specs.declared.prim_state.PrimState.TheVariants.{Arrow}
use Rattle.sf_prim.specs.Remembering.{Remembers}
use Rattle.sf_state.specs.declared.state.State.{State}
use Rattle.sf_state.specs.declared.state.State.TheVariants.{Unborn, Primitive as SPrimitive, Mapped as SMapped, Primitives as InTurn, Live' as Alive', Switch' as Watching', Continuation', Gathering', Frozen'}
use Rattle.sf_state.specs.declared.state.Primitives.{Primitives}
use Rattle.sf_state.specs.declared.state.Live.{Live}
use Rattle.sf_state.specs.declared.state.Live.{items_hidden-the_row-State-0 as states_are}
use Rattle.sf_state.specs.declared.state.Gathered.{Gathered}
use Rattle.sf_state.specs.declared.state.Live.TheVariants.{Probe as LProbe, Join as LJoin, Pipeline as LPipeline, Wrap as LWrap, Gathered as LGathered}
use Rattle.sf_state.specs.declared.state.Wrap.{Wrap}
use Rattle.sf_state.specs.declared.state.Process as process_states
use Rattle.sf_state.specs.declared.state.Switch.{Switch}
use Rattle.sf_state.specs.declared.state.Continuation.{Continuation}
use Rattle.sf_state.specs.declared.state.Gathering.{Gathering}
use Rattle.sf_state.specs.declared.state.Gathering.TheVariants.{Releasing as GReleasing, Editing as GEditing}
use Rattle.sf_state.specs.declared.state.Releasing.{Releasing}
use Rattle.sf_state.specs.declared.state.Editing.{Editing}
use Rattle.sf_state.specs.declared.state.Frozen.{Frozen}
use Rattle.sf_state.specs.declared.state.FrozenNode.{FrozenNode}
use Rattle.sf_state.specs.declared.state.FrozenNode.TheVariants.{Primitive as KPrimitive, Mapped as KMapped, Primitives as KPrimitives, Live' as KLive', Switch' as KSwitch', Continuation' as KContinuation', Gathering' as KGathering'}
use Rattle.sf_state.specs.declared.env.Env.{Env}
use Rattle.sf_state.specs.Held.{Holding, held_as, gathered_holding}
use Rattle.sf_state.specs.Standing.{Wraps, in_sequence, frozen_state, Turned, fired_to, continued_to, released_to, ran, went_on, was_alike, Stands, itself, took_over, StandsItself, unborn, recalling, recalls, mapped, in_turn, alive, watching, continuing_on, gathering_on, was_frozen, Waits, waits_so, recurs_so, WaitsContinuation, continues_so, WaitsGathered, releases_so, edits_so, Settles, settles, Ready, ready, Lives, lives_probe, lives_join, lives_pipeline, lives_wrap, lives_gathered, keys_in, Gathers, gathers, EachStands, none_stands, one_stands, StandsAmong, as_it_stands, as_it_stood, StagesStand, last_stands, stage_stands, IsProcess, is_closure, IsNames, AllFollow, none_follow, more_follow}
use Rattle.sf_state.specs.Machine.{Machine, machine_network}

-- whether a life has a step
abbrev pub has_step : Life → Bool
has_step [] = false
has_step (s ∷ L) = true

-- what a switch gave way to has lived the step of the event
begun_at : (B : Takeover) (s : Step) (L : Life) {M : Life} {Q : Process} (o : Option Data) → stands_after B s L o ≡ fired Q M → has_step M ≡ true
begun_at B s L None e = absurd cc
begun_at B s L {M} (Some v) e = let one : s ∷ [] ≡ M = cc in sym (ap has_step one)

since_begun : {n : Network} {W : Watched} {B : Takeover} {L M : Life} {Q : Process} → Since n W B L (fired Q M) → has_step L ≡ has_step M
since_begun (watched {B = B} {s = s} {L = L} S A e) = sym (begun_at B s L _ e)
since_begun (had_fired S) = refl

after_begun : (h : Life) (d : ℕ) (s : Step) (L : Life) → has_step (after h d (s ∷ L)) ≡ true
after_begun h d s [] = refl
after_begun h d s (r ∷ L) = refl

-- one gives way to another where both have lived a step, or neither
turned_begun : {n : Network} {P Q : Process} {L M : Life} → Turned n P L Q M → has_step L ≡ has_step M
turned_begun (fired_to S O) = since_begun S
turned_begun (continued_to S O) = since_begun S
turned_begun (released_to h S O) = since_begun S
turned_begun (ran h O) = refl
turned_begun (went_on {h = h} {d = d} {s = s} {L = L} O) = sym (after_begun h d s L)
turned_begun (was_alike A O) = refl

module _ (μ : Machine) where
  -- names stand for all that others stand for
  abbrev pub NamesFollow : Env → Env → Type 0
  NamesFollow names around = (e : Environment) → IsNames μ names e → IsNames μ around e

  -- a process with the same names, shared
  pub process_follows : (q : process_states.Process) (names : Env) → NamesFollow q.names names → (P : Process) → IsProcess μ q P → IsProcess μ (record { term = q.term; names = names }) P
  process_follows q names f P (is_closure A N) = is_closure A (f _ N)

  -- b stands for all that a stands for
  abbrev pub Follows : State → State → Type 0
  Follows a b = (P : Process) (L : Life) → Stands μ a P L → Stands μ b P L

  -- the same of nodes, before their first sample too
  abbrev pub NodeFollows : Live → Live → Type 0
  NodeFollows l m = (P : Process) (x : Data) (L : Life) → Ready μ l P x L → Ready μ m P x L

  settled_follows : {l m : Live} {P : Process} {L : Life} → NodeFollows l m → Settles μ l P L → Settles μ m P L
  settled_follows f (settles R) = settles (f _ _ _ R)

  -- where one stands itself for all that the other does, it stands for all that the other does
  itself_follows : (a b : State) → ((P : Process) (L : Life) → StandsItself μ a P L → StandsItself μ b P L) → Follows a b
  itself_follows a b f P L (itself A) = itself (f P L A)
  itself_follows a b f P L (took_over T A) = took_over T (itself_follows a b f _ _ A)

  pub same_follows : (l m : Live) → m ≡ l → NodeFollows l m
  same_follows l m e P x L R = subst (λ (l : Live). Ready μ l P x L) (sym e) R

  pub unborn_follows : (q r : process_states.Process) → ((P : Process) → IsProcess μ q P → IsProcess μ r P) → Follows (Unborn q) (Unborn r)
  unborn_follows q r h = itself_follows (Unborn q) (Unborn r) step
    where
      step : (P : Process) (L : Life) → StandsItself μ (Unborn q) P L → StandsItself μ (Unborn r) P L
      step P L (unborn Q) = unborn (h P Q)

  pub alive_follows : {at at' : _} (names around : Env) (l m : Live) → NamesFollow names around → NodeFollows l m → Follows (Alive' names at l) (Alive' around at' m)
  alive_follows {at} {at'} names around l m h f = itself_follows (Alive' names at l) (Alive' around at' m) step
    where
      step : (P : Process) (L : Life) → StandsItself μ (Alive' names at l) P L → StandsItself μ (Alive' around at' m) P L
      step P L (alive N S) = alive (h _ N) (settled_follows f S)

  -- the same of switches that wait
  abbrev pub SwitchFollows : Switch → Switch → Type 0
  SwitchFollows s r = (P : Process) (L : Life) → Waits μ s P L → Waits μ r P L

  pub same_waits : (s r : Switch) → r ≡ s → SwitchFollows s r
  same_waits s r e P L S = subst (λ (s : Switch). Waits μ s P L) (sym e) S

  pub watching_follows : {at at' : _} (names around : Env) (s r : Switch) → NamesFollow names around → SwitchFollows s r → Follows (Watching' names at s.form s.running s.pattern s.body) (Watching' around at' r.form r.running r.pattern r.body)
  watching_follows {at} {at'} names around s r h f = itself_follows (Watching' names at s.form s.running s.pattern s.body) (Watching' around at' r.form r.running r.pattern r.body) step
    where
      step : (P : Process) (L : Life) → StandsItself μ (Watching' names at s.form s.running s.pattern s.body) P L → StandsItself μ (Watching' around at' r.form r.running r.pattern r.body) P L
      step P L (watching N W) = watching (h _ N) (f _ _ W)

  -- the same of switches that keep their sources
  abbrev pub ContinuationFollows : Continuation → Continuation → Type 0
  ContinuationFollows s r = (P : Process) (L : Life) → WaitsContinuation μ s P L → WaitsContinuation μ r P L

  pub same_keeps : (s r : Continuation) → r ≡ s → ContinuationFollows s r
  same_keeps s r e P L S = subst (λ (s : Continuation). WaitsContinuation μ s P L) (sym e) S

  pub continuing_follows : {at at' : _} (names around : Env) (s r : Continuation) → NamesFollow names around → ContinuationFollows s r → Follows (Continuation' names at s.shown s.first s.source s.before s.observer s.name s.pattern s.body) (Continuation' around at' r.shown r.first r.source r.before r.observer r.name r.pattern r.body)
  continuing_follows {at} {at'} names around s r h f = itself_follows (Continuation' names at s.shown s.first s.source s.before s.observer s.name s.pattern s.body) (Continuation' around at' r.shown r.first r.source r.before r.observer r.name r.pattern r.body) step
    where
      step : (P : Process) (L : Life) → StandsItself μ (Continuation' names at s.shown s.first s.source s.before s.observer s.name s.pattern s.body) P L → StandsItself μ (Continuation' around at' r.shown r.first r.source r.before r.observer r.name r.pattern r.body) P L
      step P L (continuing_on N K) = continuing_on (h _ N) (f _ _ K)

  -- the same of members that wait
  abbrev pub GatheringFollows : Gathering → Gathering → Type 0
  GatheringFollows g h = (P : Process) (L : Life) → WaitsGathered μ g P L → WaitsGathered μ h P L

  pub same_gathers : (g h : Gathering) → h ≡ g → GatheringFollows g h
  same_gathers g h e P L S = subst (λ (g : Gathering). WaitsGathered μ g P L) (sym e) S

  pub gathering_follows : {at at' : _} (names around : Env) (g h : Gathering) → NamesFollow names around → GatheringFollows g h → Follows (Gathering' names at g) (Gathering' around at' h)
  gathering_follows {at} {at'} names around g h n f = itself_follows (Gathering' names at g) (Gathering' around at' h) step
    where
      step : (P : Process) (L : Life) → StandsItself μ (Gathering' names at g) P L → StandsItself μ (Gathering' around at' h) P L
      step P L (gathering_on N W) = gathering_on (n _ N) (f _ _ W)

  -- the same members in other nodes
  abbrev pub MembersFollow : Holding → Holding → Type 0
  MembersFollow g h = (ms : Members) (L : Life) → Gathers μ g ms L → Gathers μ h ms L

  -- the states of a node's members, as they are matched and as a list
  pub held_shown : (g : Gathered) {bs : List State} → bs ≡ g.states.value.items → {ms : Members} {L : Life} → Gathers μ (held_as g.keys bs g.wait) ms L → Gathers μ (gathered_holding g) ms L
  held_shown g e {ms} {L} G = subst (λ (bs : List State). Gathers μ (held_as g.keys bs g.wait) ms L) e G

  pub held_hidden : (g : Gathered) {bs : List State} → bs ≡ g.states.value.items → {ms : Members} {L : Life} → Gathers μ (gathered_holding g) ms L → Gathers μ (held_as g.keys bs g.wait) ms L
  held_hidden g e {ms} {L} G = subst (λ (bs : List State). Gathers μ (held_as g.keys bs g.wait) ms L) (sym e) G

  pub releasing_follows : (s : Releasing) (l x : Gathered) (o : State) → MembersFollow (gathered_holding s.members) (gathered_holding l) → Follows s.observer o
      → GatheringFollows (GReleasing s) (GReleasing (record { shown = s.shown; members = l; before = x; observer = o; name = s.name; pattern = s.pattern; body = s.body }))
  releasing_follows s l x o f g P L (releases_so h S Z Y G A) =
      releases_so h S Z Y (held_hidden l (states_are l.states.value) (f _ _ (held_shown s.members (states_are s.members.states.value) G))) (g _ _ A)

  -- the edit may stand under another pointer
  pub editing_follows : (s : Editing) (l : Gathered) (c : Rc PlanCollection Global) → c.value ≡ s.edit.value → MembersFollow (gathered_holding s.members) (gathered_holding l)
      → GatheringFollows (GEditing s) (GEditing (record { shown = s.shown; members = l; name = s.name; pattern = s.pattern; edit = c }))
  editing_follows s l c same f P L (edits_so {i = i} {e = e} {ms = ms} {qs = qs} {L = K} {zs = zs} C h R Z Y G) =
      let k : Name = name_at (plan_expressions μ.plan) s.name in
      let q : Pattern = pattern_of (stored_pattern (plan_expressions μ.plan) s.pattern) in
      let edited : PlanCollection → Process = λ v. closure (editing s.shown i k q (plan_collection μ.plan v)) e in
      let waits : PlanCollection → Type 0 = λ v. IsCodedCollection (plan_expressions μ.plan) v → which_run (edit_of μ.answers k q (plan_collection μ.plan v) e) ms K ≡ answer qs → Outputs (machine_network μ) (edited v) K zs
      → WaitsGathered μ (GEditing (record { shown = s.shown; members = l; name = s.name; pattern = s.pattern; edit = c })) (edited v) K in
      let H = held_hidden l (states_are l.states.value) (f _ _ (held_shown s.members (states_are s.members.states.value) G)) in
      subst waits same (λ C R Z. edits_so C h R Z Y H) C R Z

  -- the same frozen part under another pointer
  pub frozen_follows : {at at' : _} (f g : Frozen) → g ≡ f → Follows (Frozen' at f.wait f.names f.node) (Frozen' at' g.wait g.names g.node)
  frozen_follows {at} {at'} f g same = subst (λ (g : Frozen). Follows (Frozen' at f.wait f.names f.node) (Frozen' at' g.wait g.names g.node)) (sym same)
      (itself_follows (Frozen' at f.wait f.names f.node) (Frozen' at' f.wait f.names f.node) step)
    where
      step : (P : Process) (L : Life) → StandsItself μ (Frozen' at f.wait f.names f.node) P L → StandsItself μ (Frozen' at' f.wait f.names f.node) P L
      step P L (was_frozen A) = was_frozen A

  pub keep_follows : (s : Continuation) (a x o : State) → Follows s.source a → Follows s.observer o → ContinuationFollows s (record { shown = s.shown; first = s.first; source = a; before = x; observer = o; name = s.name; pattern = s.pattern; body = s.body })
  keep_follows s a x o f g P L (continues_so S Z Y A B) = continues_so S Z Y (f _ _ A) (g _ _ B)

  pub switch_follows : (s : Switch) (a : State) → Follows s.running a → SwitchFollows s (record { form = s.form; running = a; pattern = s.pattern; body = s.body })
  switch_follows s a f P L (waits_so k S O A) = waits_so k S O (f _ _ A)
  switch_follows s a f P L (recurs_so k O A) = recurs_so k O (f _ _ A)

  pub primitive_follows : (i i' : PrimState) → ((q : Primitive) (scope : Scope) (L : Life) → Remembers i q scope L → Remembers i' q scope L) → Follows (SPrimitive i) (SPrimitive i')
  primitive_follows i i' f = itself_follows (SPrimitive i) (SPrimitive i') step
    where
      step : (P : Process) (L : Life) → StandsItself μ (SPrimitive i) P L → StandsItself μ (SPrimitive i') P L
      step P L (recalling (recalls O K)) = recalling (recalls O (f _ _ _ K))

  pub probe_follows : (r r' : Rc (String Global) Global) → r'.value ≡ r.value → NodeFollows (LProbe r) (LProbe r')
  probe_follows r r' same P x L (ready h O (lives_probe {e = e} {m = m} {L = K})) =
      let name : string_bytes r'.value ≡ string_bytes r.value = ap (λ (s : String Global). string_bytes s) same in
      ready h O (subst (λ n. Lives μ (LProbe r') (primitive (probe n)) e m K) name lives_probe)

  pub join_follows : (j : Join) (a a' b b' : State) → Follows a a' → Follows b b' → NodeFollows (LJoin j a b) (LJoin j a' b')
  join_follows j a a' b b' f g P x L (ready h O (lives_join J OL A B)) = ready h O (lives_join J OL (f _ _ A) (g _ _ B))

  -- the same of primitives in sequence
  abbrev pub PrimFollows : PrimState → PrimState → Type 0
  PrimFollows i i' = (q : Primitive) (scope : Scope) (L : Life) → Remembers i q scope L → Remembers i' q scope L

  pub both_follow : (i i' j j' : PrimState) → PrimFollows i i' → PrimFollows j j' → NodeFollows (in_sequence (record { first = i; second = j })) (in_sequence (record { first = i'; second = j' }))
  both_follow i i' j j' f g = join_follows InSequence (SPrimitive i) (SPrimitive i') (SPrimitive j) (SPrimitive j') (primitive_follows i i' f) (primitive_follows j j' g)

  pub mapped_follows : (m : ShortId) (i i' : PrimState) → PrimFollows i i' → Follows (SMapped m i) (SMapped m i')
  mapped_follows m i i' f = itself_follows (SMapped m i) (SMapped m i') step
    where
      step : (P : Process) (L : Life) → StandsItself μ (SMapped m i) P L → StandsItself μ (SMapped m i') P L
      step P L (mapped {c = c} h S) = mapped h (settled_follows (both_follow (Arrow c) (Arrow c) i i' (λ q scope L R. R) f) S)

  pub in_turn_follows : (r r' : Rc Primitives Global) → NodeFollows (in_sequence r.value) (in_sequence r'.value) → Follows (InTurn r) (InTurn r')
  in_turn_follows r r' f = itself_follows (InTurn r) (InTurn r') step
    where
      step : (P : Process) (L : Life) → StandsItself μ (InTurn r) P L → StandsItself μ (InTurn r') P L
      step P L (in_turn S) = in_turn (settled_follows f S)

  -- the same ones under another pointer
  pub same_in_turn : (r r' : Rc Primitives Global) → r'.value ≡ r.value → Follows (InTurn r) (InTurn r')
  same_in_turn r r' e = in_turn_follows r r' (subst (λ (both : Primitives). NodeFollows (in_sequence r.value) (in_sequence both)) (sym e) (λ P x L R. R))

  pub wrap_follows : (w w' : Wrap) (a a' : State) → ((n : Network) (t : Term) (e : Environment) (m : Made) (L : Life) (u : Term) (K : Life) → Wraps n w t e m L u K → Wraps n w' t e m L u K)
      → Follows a a' → NodeFollows (LWrap w a) (LWrap w' a')
  wrap_follows w w' a a' f g P x L (ready h O (lives_wrap W A)) = ready h O (lives_wrap (f _ _ _ _ _ _ _ W) (g _ _ A))

  -- a pipeline lives where its stages stand
  pub pipeline_lives : (v : Vec State Global) {f g : Term} {e : Environment} {m : Made} {L : Life} → StagesStand μ v.items (staged rest f g) e L → Lives μ (LPipeline v) (staged whole f g) e m L
  pipeline_lives v {f = f} {g = g} {e = e} {L = L} S = lives_pipeline (subst (λ (bs : List State). StagesStand μ bs (staged rest f g) e L) (sym (states_are v)) S)

  stages_follow : {bs cs : List State} {u : Term} {e : Environment} {L : Life} → AllFollow μ bs cs → StagesStand μ bs u e L → StagesStand μ cs u e L
  stages_follow none_follow S = elim S [ ]
  stages_follow (more_follow f none_follow) (last_stands A) = last_stands (f _ _ A)
  stages_follow (more_follow f fs) (stage_stands O A S) = stage_stands O (f _ _ A) (stages_follow fs S)

  pub pipeline_follows : (v w : Vec State Global) → AllFollow μ v.items w.items → NodeFollows (LPipeline v) (LPipeline w)
  pipeline_follows v w fs P x L (ready h O (lives_pipeline {f = f} {g = g} {e = e} {L = K} S)) =
      ready h O (pipeline_lives w (stages_follow fs (subst (λ (bs : List State). StagesStand μ bs (staged rest f g) e K) (states_are v) S)))

  -- ## Members

  among_follows : {w : Option ℕ} {a b : State} {P : Process} {L : Life} → Follows a b → StandsAmong μ w a P L → StandsAmong μ w b P L
  among_follows f (as_it_stands A) = as_it_stands (f _ _ A)
  among_follows f (as_it_stood A e) = as_it_stood (f _ _ A) e

  pub each_follows : {w : Option ℕ} {bs cs : List State} {ms : Members} {L : Life} → AllFollow μ bs cs → EachStands μ w bs ms L → EachStands μ w cs ms L
  each_follows none_follow none_stands = none_stands
  each_follows (more_follow f fs) (one_stands A S) = one_stands (among_follows f A) (each_follows fs S)

  -- members of which each follows have the same keys
  pub held_follow : (g h : Gathered) → h.keys.value ≡ g.keys.value → AllFollow μ g.states.value.items h.states.value.items → h.wait ≡ g.wait → MembersFollow (gathered_holding g) (gathered_holding h)
  held_follow g h same fs wait ms L (gathers K S) = gathers (same ∙ K) (subst (λ w. EachStands μ w h.states.value.items ms L) (sym wait) (each_follows fs S))

  -- members that are held as others are these
  pub same_held : (g h : Holding) → h ≡ g → MembersFollow g h
  same_held g h e ms L G = subst (λ (h : Holding). Gathers μ h ms L) (sym e) G

  -- no keys and no states
  pub none_held : (g : Gathered) {L : Life} → g.keys.value ≡ [] → g.states.value.items ≡ [] → Gathers μ (gathered_holding g) no_members L
  none_held g {L} no_key no_state = gathers no_key (subst (λ (bs : List State). EachStands μ g.wait bs no_members L) (sym no_state) none_stands)

  -- a node with the same members is the same part
  pub members_live : (g : Gathered) {i : Collection} {e : Environment} {ms : Members} {L : Life} {ys : List Data} → Tables (machine_network μ) ms L ys → Gathers μ (gathered_holding g) ms L → Lives μ (LGathered g) (gathered i) e (members_made ms) L
  members_live g Y G = lives_gathered Y (held_hidden g (states_are g.states.value) G)

  pub gathered_follows : (g h : Gathered) → MembersFollow (gathered_holding g) (gathered_holding h) → NodeFollows (LGathered g) (LGathered h)
  gathered_follows g h f P x L (ready m O (lives_gathered Y G)) = ready m O (members_live h Y (f _ _ (held_shown g (states_are g.states.value) G)))

  frozen_keys : (ms : Members) (L : Life) (d : ℕ) → keys_in (each_frozen ms L d) ≡ keys_in ms
  frozen_keys no_members L d = refl
  frozen_keys (member k P ms) L d = ap (λ ks. k ∷ ks) (frozen_keys ms L d)

  -- one that goes on waits from here on, and one that waits goes on waiting
  among_freezes : {a : State} {P : Process} {L : Life} (d : ℕ) → StandsAmong μ None a P L → StandsAmong μ (Some d) a (frozen P L d) []
  among_freezes d (as_it_stands A) = as_it_stood A refl

  among_stays : {c : ℕ} {a : State} {P : Process} {L : Life} (d : ℕ) → StandsAmong μ (Some c) a P L → StandsAmong μ (Some c) a (frozen P L d) []
  among_stays d (as_it_stood A e) = as_it_stood A e

  each_freezes : (w : Option ℕ) (d : ℕ) {bs : List State} {ms : Members} {L : Life} → EachStands μ w bs ms L → EachStands μ (Some (unwrap_or w d)) bs (each_frozen ms L d) []
  each_freezes w d none_stands = none_stands
  each_freezes None d (one_stands A S) = one_stands (among_freezes d A) (each_freezes None d S)
  each_freezes (Some c) d (one_stands A S) = one_stands (among_stays d A) (each_freezes (Some c) d S)

  pub held_freeze : (d : ℕ) (g h : Gathered) → h.keys.value ≡ g.keys.value → h.states.value ≡ g.states.value → h.wait ≡ Some (unwrap_or g.wait d) → (ms : Members) (L : Life) → Gathers μ (gathered_holding g) ms L → Gathers μ (gathered_holding h) (each_frozen ms L d) []
  held_freeze d g h same list wait ms L (gathers K S) =
      let all : EachStands μ (Some (unwrap_or g.wait d)) h.states.value.items (each_frozen ms L d) [] = subst (λ (v : Vec State Global). EachStands μ (Some (unwrap_or g.wait d)) v.items (each_frozen ms L d) []) (sym list) (each_freezes g.wait d S) in
      gathers (same ∙ K ∙ sym (frozen_keys ms L d)) (subst (λ w. EachStands μ w h.states.value.items (each_frozen ms L d) []) (sym wait) all)

  -- ## States one after another

  all_themselves : (bs : List State) → AllFollow μ bs bs
  all_themselves [] = none_follow
  all_themselves (b ∷ bs) = more_follow (λ P L A. A) (all_themselves bs)

  -- the same list
  pub list_follows : (v w : Vec State Global) → w ≡ v → AllFollow μ v.items w.items
  list_follows v w e = subst (λ (w : Vec State Global). AllFollow μ v.items w.items) (sym e) (all_themselves v.items)

  follow_push : {bs cs : List State} (a b : State) → AllFollow μ bs cs → Follows a b → AllFollow μ (bs ++ a ∷ []) (cs ++ b ∷ [])
  follow_push a b none_follow f = more_follow f none_follow
  follow_push a b (more_follow g fs) f = more_follow g (follow_push a b fs f)

  -- one more state follows
  pub follow_next : (bs cs ds : List State) (i : ℕ) (a b : State) → AllFollow μ (take i bs) cs → i < length bs → a ≡ get_or bs i a → Follows a b → ds ≡ cs ++ b ∷ [] → AllFollow μ (take (i + 1) bs) ds
  follow_next bs cs ds i a b fs h e f ed =
      let n : take (i + 1) bs ≡ take i bs ++ a ∷ [] = let more : i + 1 ≡ suc i = omega arith in ap (λ k. take k bs) more ∙ take-suc bs i a h ∙ ap (λ x. take i bs ++ x ∷ []) (sym e) in
      rw (n, ed) (follow_push a b fs f)

  -- a state in the place of one follows
  pub follow_set : (bs cs ds : List State) (i : ℕ) (a b : State) → AllFollow μ (take i bs) (take i cs) → i < length bs → i < length cs → a ≡ get_or bs i a → Follows a b → ds ≡ set cs i b → AllFollow μ (take (i + 1) bs) (take (i + 1) ds)
  follow_set bs cs ds i a b fs h k e f ed = follow_next bs (take i cs) (take (i + 1) ds) i a b fs h e f (ap (λ (xs : List State). take (i + 1) xs) ed ∙ take_more_set cs i b k)

  -- ## Freezing

  -- a state stands for lives without a step alone
  abbrev pub IsFresh : State → Type 0
  IsFresh a = (P : Process) (L : Life) → Stands μ a P L → has_step L ≡ false

  -- a state stands for lives with a step alone
  abbrev pub HasLived : State → Type 0
  HasLived a = (P : Process) (L : Life) → Stands μ a P L → has_step L ≡ true

  -- where it does so itself, it does
  itself_fresh : (a : State) → ((P : Process) (L : Life) → StandsItself μ a P L → has_step L ≡ false) → IsFresh a
  itself_fresh a f P L (itself A) = f P L A
  itself_fresh a f P L (took_over T A) = turned_begun T ∙ itself_fresh a f _ _ A

  itself_lived : (a : State) → ((P : Process) (L : Life) → StandsItself μ a P L → has_step L ≡ true) → HasLived a
  itself_lived a f P L (itself A) = f P L A
  itself_lived a f P L (took_over T A) = turned_begun T ∙ itself_lived a f _ _ A

  pub unborn_fresh : (q : process_states.Process) → IsFresh (Unborn q)
  unborn_fresh q = itself_fresh (Unborn q) step
    where
      step : (P : Process) (L : Life) → StandsItself μ (Unborn q) P L → has_step L ≡ false
      step P L (unborn Q) = refl

  pub frozen_fresh : {at : _} (d : ℕ) (names : Env) (k : FrozenNode) → IsFresh (Frozen' at d names k)
  frozen_fresh {at} d names k = itself_fresh (Frozen' at d names k) step
    where
      step : (P : Process) (L : Life) → StandsItself μ (Frozen' at d names k) P L → has_step L ≡ false
      step P L (was_frozen A) = refl

  pub alive_lived : {at : _} (names : Env) (l : Live) → HasLived (Alive' names at l)
  alive_lived {at} names l = itself_lived (Alive' names at l) step
    where
      step : (P : Process) (L : Life) → StandsItself μ (Alive' names at l) P L → has_step L ≡ true
      step P L (alive N (settles R)) = refl

  pub primitive_lived : (i : PrimState) → HasLived (SPrimitive i)
  primitive_lived i = itself_lived (SPrimitive i) step
    where
      step : (P : Process) (L : Life) → StandsItself μ (SPrimitive i) P L → has_step L ≡ true
      step P L (recalling R) = refl

  pub mapped_lived : (m : ShortId) (i : PrimState) → HasLived (SMapped m i)
  mapped_lived m i = itself_lived (SMapped m i) step
    where
      step : (P : Process) (L : Life) → StandsItself μ (SMapped m i) P L → has_step L ≡ true
      step P L (mapped h (settles R)) = refl

  pub in_turn_lived : (r : Rc Primitives Global) → HasLived (InTurn r)
  in_turn_lived r = itself_lived (InTurn r) step
    where
      step : (P : Process) (L : Life) → StandsItself μ (InTurn r) P L → has_step L ≡ true
      step P L (in_turn (settles R)) = refl

  pub watching_lived : {at : _} (names : Env) (s : Switch) → HasLived (Watching' names at s.form s.running s.pattern s.body)
  watching_lived {at} names s = itself_lived (Watching' names at s.form s.running s.pattern s.body) step
    where
      step : (P : Process) (L : Life) → StandsItself μ (Watching' names at s.form s.running s.pattern s.body) P L → has_step L ≡ true
      step P L (watching N W) = refl

  pub continuing_lived : {at : _} (names : Env) (s : Continuation) → HasLived (Continuation' names at s.shown s.first s.source s.before s.observer s.name s.pattern s.body)
  continuing_lived {at} names s = itself_lived (Continuation' names at s.shown s.first s.source s.before s.observer s.name s.pattern s.body) step
    where
      step : (P : Process) (L : Life) → StandsItself μ (Continuation' names at s.shown s.first s.source s.before s.observer s.name s.pattern s.body) P L → has_step L ≡ true
      step P L (continuing_on N K) = refl

  pub gathering_lived : {at : _} (names : Env) (g : Gathering) → HasLived (Gathering' names at g)
  gathering_lived {at} names g = itself_lived (Gathering' names at g) step
    where
      step : (P : Process) (L : Life) → StandsItself μ (Gathering' names at g) P L → has_step L ≡ true
      step P L (gathering_on N W) = refl

  -- b stands for what a stands for, frozen
  abbrev pub Freezes : State → State → ℕ → Type 0
  Freezes a b d = (P : Process) (L : Life) → Stands μ a P L → Stands μ b (frozen P L d) []

  -- what hasn't lived a step stays as it was
  pub same_freezes : (a b : State) → IsFresh a → Follows a b → (d : ℕ) → Freezes a b d
  same_freezes a b f g d P [] A = g P [] A
  same_freezes a b f g d P (s ∷ L) A = let none = f P (s ∷ L) A in absurd cc

  -- what has lived is frozen after its life
  pub lived_freezes : (a b : State) → HasLived a → (d : ℕ) → ((P : Process) (s : Step) (h : Life) → Stands μ a P (s ∷ h) → Stands μ b (resumed P (s ∷ h) d) []) → Freezes a b d
  lived_freezes a b f d g P [] A = let one = f P [] A in absurd cc
  lived_freezes a b f d g P (s ∷ L) A = g P s L A

  -- what was kept, with the same names around it
  pub kept_around : (names around : Env) (k : FrozenNode) → NamesFollow names around → Follows (frozen_state names k) (frozen_state around k)
  kept_around names around (KPrimitive i) N = λ P L A. A
  kept_around names around (KMapped m i) N = λ P L A. A
  kept_around names around (KPrimitives r) N = λ P L A. A
  kept_around names around (KLive' at l) N = alive_follows names around l l N (λ P x L R. R)
  kept_around names around (KSwitch' at w a q b) N = let s : Switch = record { form = w; running = a; pattern = q; body = b } in watching_follows names around s s N (λ P L S. S)
  kept_around names around (KContinuation' at w f a x o i q b) N = let s : Continuation = record { shown = w; first = f; source = a; before = x; observer = o; name = i; pattern = q; body = b } in continuing_follows names around s s N (λ P L S. S)
  kept_around names around (KGathering' at g) N = gathering_follows names around g g N (λ P L S. S)

  -- a frozen node with the same names
  pub node_freezes : {at : _} (d : ℕ) (names around : Env) (k : FrozenNode) (f : Frozen) → NamesFollow names around → f ≡ record { wait = d; names = around; node = k }
      → (P : Process) (s : Step) (h : Life) → Stands μ (frozen_state names k) P (s ∷ h) → Stands μ (Frozen' at f.wait f.names f.node) (resumed P (s ∷ h) d) []
  node_freezes {at} d names around k f N same P s h A = subst (λ (f : Frozen). Stands μ (Frozen' at f.wait f.names f.node) (resumed P (s ∷ h) d) []) (sym same) (itself (was_frozen (kept_around names around k N P (s ∷ h) A)))

-- a state that lived, frozen through one that follows it
pub lived_frozen : {E : Type 0} (a b : State) (d : ℕ) (r : Result State E) → ((μ : Machine) → HasLived μ a) → ((μ : Machine) → Follows μ a b)
    → IfOk r (λ c. (μ : Machine) (P : Process) (s : Step) (h : Life) → Stands μ b P (s ∷ h) → Stands μ c (resumed P (s ∷ h) d) [])
    → IfOk r (λ c. (μ : Machine) → Freezes μ a c d)
lived_frozen a b d (Ok c) l f g = λ μ. lived_freezes μ a c (l μ) d (λ P s h A. g μ P s h (f μ P (s ∷ h) A))
lived_frozen a b d (Err e) l f g = tt

-- a state that hasn't lived, shared
pub fresh_frozen : {E : Type 0} (a : State) (d : ℕ) (r : Result State E) → ((μ : Machine) → IsFresh μ a) → IfOk r (λ c. (μ : Machine) → Follows μ a c) → IfOk r (λ c. (μ : Machine) → Freezes μ a c d)
fresh_frozen a d (Ok c) l f = λ μ. same_freezes μ a c (l μ) (f μ) d
fresh_frozen a d (Err e) l f = tt

-- members that share all are held the same
pub held_same : (g h : Gathered) → h.keys.value ≡ g.keys.value → h.states.value ≡ g.states.value → h.wait ≡ g.wait → gathered_holding h ≡ gathered_holding g
held_same g h keys list wait =
    let holding : List KeyData → List State → Option ℕ → Holding = λ ks bs w. record { keys = ks; states = bs; wait = w } in
    ap (λ ks. holding ks h.states.value.items h.wait) keys ∙ ap (λ (v : Vec State Global). holding g.keys.value v.items h.wait) list ∙ ap (λ w. holding g.keys.value g.states.value.items w) wait
