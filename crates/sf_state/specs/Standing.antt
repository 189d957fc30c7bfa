-- What states stand for.
use Rattle.std.specs.Prelude.{◌≡◌, ℕ, Bool, true, false, IsTrue, List, [], ◌∷◌, Option, Some, None, Result, Ok, Err, String, string_bytes}
use Rattle.std.specs.declared.alloc.Global.{Global}
use Rattle.std.specs.declared.rc.Rc.{Rc}
use Rattle.sf_value.specs.Values.{Name, KeyData, Data, first_of}
use Rattle.sf_value.specs.declared.fault.ValueFault.{ValueFault}
use Rattle.sf_expr.specs.Expressions.{Pattern, Expression, Function}
use Rattle.sf_expr.specs.Patterns.{pattern_of}
use Rattle.sf_expr.specs.declared.exprs.NameId.{NameId}
use Rattle.sf_expr.specs.declared.exprs.PatternId.{PatternId}
use Rattle.sf_expr.specs.Arena.{stored_pattern, name_at}
use Rattle.sf_expr.specs.Evaluation.{Evaluated, answer, failed, eval}
use Rattle.sf_term.specs.declared.form.Join.{Join}
use Rattle.sf_term.specs.declared.form.Join.TheVariants.{InSequence}
use Rattle.sf_term.specs.declared.form.Side.TheVariants.{First as OnFirst, Second as OnSecond}
use Rattle.sf_term.specs.declared.form.Heading.TheVariants.{LoopPre, Initialized as WithInitial, Replaced as WithReplaced, Followed as WithFollowed}
use Rattle.sf_term.specs.declared.form.Observation.{Observation}
use Rattle.sf_term.specs.declared.form.Switching.{Switching}
use Rattle.sf_term.specs.declared.form.Switching.TheVariants.{Basic, Recurring}
use Rattle.sf_term.specs.Trees.{Primitive, probe, whole, rest, Term, primitive, Reference, reference, joined, sided, headed, transformed, switching, continuing, gathered, releasing, editing, staged, Collection}
use Rattle.sf_mean.specs.Lives.{Step, Life, Process, closure, resumed, frozen, Environment, empty, known, running, collected, Members, no_members, member, base, bind, passing, scope_around, first_input, with_inputs, relay, observed_life, after, fed_back, older, fed}
use Rattle.sf_mean.specs.Formulas.{at_first, first_replaced, side_of}
use Rattle.sf_mean.specs.Collections.{collect}
use Rattle.sf_mean.specs.Meaning.{Network, Made, value_made, members_made, newest_or, referred, make, left_life, right_life, observed, observed_members, waits, fired, body_of, continuing_body, body_with_members, whenever, last_event, since_event, since_edit, edit_of, what_runs, which_run, Outputs, Tables, Loops, Since}
use Rattle.sf_mean.specs.Meaning
use Rattle.sf_coincidence.specs.Alike.{Alike, AlikeName}
use Rattle.sf_law.specs.declared.node.PlanId.{PlanId}
use Rattle.sf_law.specs.declared.node.ShortId.{ShortId}
use Rattle.sf_law.specs.declared.node.PlanCollection.{PlanCollection}
use Rattle.sf_law.specs.declared.node.TemplateId.{TemplateId}
use Rattle.sf_law.specs.declared.mentioned.Mentioned.{Mentioned}
use Rattle.sf_law.specs.Mentioned.{is_mentioned}
use Rattle.sf_law.specs.Places.{names_of_parameters}
use Rattle.sf_law.specs.Entries.{IsCodedCollection}
use Rattle.sf_law.specs.Arena.{plan_tree, plan_node_at, full_id, node_arrow, plan_collection, plan_expressions, plan_asks, header_at}
use Rattle.sf_code.specs.declared.open.OpenCode.{OpenCode}
use Rattle.sf_prim.specs.declared.prim_state.PrimState.{PrimState}
use Rattle.sf_prim.specs.declared.prim_state.PrimState.TheVariants.{Arrow}
use Rattle.sf_prim.specs.Remembering.{Remembers}
use Rattle.sf_state.specs.declared.state.State.{State}
use Rattle.sf_state.specs.declared.state.State.TheVariants.{Unborn, Unborn', Primitive as SPrimitive, Mapped as SMapped, Primitives as InTurn, Live' as Alive', Switch' as Watching', Continuation', Gathering', Frozen'}
use Rattle.sf_state.specs.declared.state.Primitives.{Primitives}
use Rattle.sf_state.specs.declared.state.Live.{Live}
use Rattle.sf_state.specs.declared.state.Live.TheVariants.{Probe as LProbe, Join as LJoin, Pipeline' as LPipeline', Wrap as LWrap, Gathered' as LGathered'}
use Rattle.sf_state.specs.declared.state.Live.{items-the_row-State}
use Rattle.sf_state.specs.declared.state.Wrap.{Wrap}
use Rattle.sf_state.specs.declared.state.Wrap.TheVariants.{First, Second, Loop, Initialized, Replaced, Followed}
use Rattle.sf_state.specs.declared.state.Process as process_states
use Rattle.sf_state.specs.declared.state.Switch.{Switch}
use Rattle.sf_state.specs.declared.state.Continuation.{Continuation}
use Rattle.sf_state.specs.declared.state.Gathering.{Gathering}
use Rattle.sf_state.specs.declared.state.Gathering.TheVariants.{Releasing' as GReleasing', Editing' as GEditing'}
use Rattle.sf_state.specs.declared.state.FrozenNode.{FrozenNode}
use Rattle.sf_state.specs.declared.state.FrozenNode.TheVariants.{Primitive as KPrimitive, Mapped as KMapped, Primitives as KPrimitives, Live' as KLive', Switch' as KSwitch', Continuation' as KContinuation', Gathering' as KGathering'}
use Rattle.sf_state.specs.declared.env.Env.{Env}
use Rattle.sf_state.specs.declared.env.Handed.{Handed}
use Rattle.sf_state.specs.declared.env.Given.{Given}
use Rattle.sf_state.specs.declared.env.Given.TheVariants.{Value as GValue, Process' as GProcess', Members' as GMembers'}
use Rattle.sf_state.specs.declared.env.Call.{items-the_row-Given}
use Rattle.sf_state.specs.declared.env.Env.TheVariants.{Empty as SEmpty, Bound', Running', Collected', Called'}
use Rattle.sf_value.specs.declared.keys.Keys.{Keys}
use Rattle.sf_state.specs.Held.{Holding, held_as}
use Rattle.sf_state.specs.Machine.{Machine, machine_network}

-- a value or a fault, as what an expression is worth
abbrev pub worth_given : Result Data ValueFault → Evaluated Data
worth_given (Ok v) = answer v
worth_given (Err x) = failed x

-- What a form with one part keeps after a life; the part, and the life that the part has led.
pub data Wraps (n : Network) : Wrap → Term → Environment → Made → Life → Term → Life → Type 0 where
  wraps_first : {t : Term} {e : Environment} {m : Made} {L : Life}
      → Wraps n First (sided OnFirst t) e m L t (with_inputs (side_of OnFirst) L)
  wraps_second : {t : Term} {e : Environment} {m : Made} {L : Life}
      → Wraps n Second (sided OnSecond t) e m L t (with_inputs (side_of OnSecond) L)
  -- it keeps what the part is fed with next
  wraps_loop : {i : Expression} {t : Term} {e : Environment} {v : Data} {L : Life} {zs : List Data}
      → Loops n v (closure t e) L zs
      → Wraps n (Loop (fed_back v zs)) (headed LoopPre i t) e (value_made v) L t (fed v L (older zs))
  -- it keeps the value before the first step alone
  wraps_initialized : {i : Expression} {t : Term} {e : Environment} {v : Data} {L : Life}
      → Wraps n (Initialized (at_first L (Some v) None)) (headed WithInitial i t) e (value_made v) L t L
  wraps_replaced : {i : Expression} {t : Term} {e : Environment} {v : Data} {L : Life}
      → Wraps n (Replaced (at_first L (Some v) None)) (headed WithReplaced i t) e (value_made v) L t (first_replaced v L)
  wraps_transformed : {f : Function} {t : Term} {e : Environment} {v : Data} {L : Life}
      → Wraps n (Replaced (at_first L (Some v) None)) (transformed f t) e (value_made v) L t (first_replaced v L)
  -- it keeps what it gives next: the newest value of the part, or before the first step the constant or its fault
  wraps_followed : {i : Expression} {t : Term} {e : Environment} {m : Made} {L : Life} {ys : List Data} {last : Result Data ValueFault}
      → Outputs n (closure t e) L ys
      → newest_or (eval i (scope_around n.functions e)) ys ≡ worth_given last
      → Wraps n (Followed last) (headed WithFollowed i t) e m L t L

-- What two terms are as one that goes by a join: that join, or a pipeline of the two, which goes by `>>>`.
pub data AreJoined : Join → (left right both : Term) → Type 0 where
  as_join : {j : Join} {f g : Term} → AreJoined j f g (joined j f g)
  as_pipeline : {f g : Term} → AreJoined InSequence f g (staged whole f g)

-- a term with the names around it
abbrev pub closed_over : PlanId → Env → process_states.Process
closed_over t names = record { term = t; names = names }

-- two primitives in sequence, as a live part
abbrev pub in_sequence : Primitives → Live
in_sequence both = LJoin InSequence (SPrimitive both.first) (SPrimitive both.second)

-- a primitive on the values of `arr`, of which the state is this code, as a live part
abbrev pub behind_arrow : Rc OpenCode Global → PrimState → Live
behind_arrow c i = LJoin InSequence (SPrimitive (Arrow c)) (SPrimitive i)

-- what was kept of a part, as a state
abbrev pub frozen_state : Env → FrozenNode → State
frozen_state names (KPrimitive i) = SPrimitive i
frozen_state names (KMapped m i) = SMapped m i
frozen_state names (KPrimitives r) = InTurn r
frozen_state names (KLive' at l) = Alive' names at l
frozen_state names (KSwitch' at w a q b) = Watching' names at w a q b
frozen_state names (KContinuation' at w t a x o k q b) = Continuation' names at w t a x o k q b
frozen_state names (KGathering' at g) = Gathering' names at g

-- whether a state that shares what another one has is a copy: of primitives without a node
abbrev pub is_copied : State → Bool
is_copied (Unborn' t names) = false
is_copied (SPrimitive i) = true
is_copied (SMapped m i) = true
is_copied (InTurn r) = false
is_copied (Alive' names at l) = false
is_copied (Watching' names at w a q b) = false
is_copied (Continuation' names at w t a x o k q b) = false
is_copied (Gathering' names at g) = false
is_copied (Frozen' at d names k) = false

-- whether a state is frozen
abbrev pub is_frozen : State → Bool
is_frozen (Unborn' t names) = false
is_frozen (SPrimitive i) = false
is_frozen (SMapped m i) = false
is_frozen (InTurn r) = false
is_frozen (Alive' names at l) = false
is_frozen (Watching' names at w a q b) = false
is_frozen (Continuation' names at w t a x o k q b) = false
is_frozen (Gathering' names at g) = false
is_frozen (Frozen' at d names k) = true

-- A primitive recalls what it needs of a life.
pub data Recalls (μ : Machine) : PrimState → Process → Life → Type 0 where
  recalls : {i : PrimState} {q : Primitive} {e : Environment} {L : Life} {ys : List Data}
      → Outputs (machine_network μ) (closure (primitive q) e) L ys → Remembers i q (scope_around μ.answers e) L → Recalls μ i (closure (primitive q) e) L

-- From here on a process gives what another one gives that has led another life, and counts nothing beside it.
pub data Turned (n : Network) : Process → Life → Process → Life → Type 0 where
  -- a basic switch that has fired, and its body
  fired_to : {w : Observation} {t u : Term} {q : Pattern} {e : Environment} {B : Process} {L M : Life} {ys : List Data}
      → Since n (Meaning.itself (closure t e)) (whenever (body_of q u e)) L (fired B M) → Outputs n (closure (switching (Basic w) t q u) e) L ys
      → Turned n (closure (switching (Basic w) t q u) e) L B M
  -- a switch that keeps its source and has fired, and its body
  continued_to : {w : Observation} {t r u : Term} {k : Name} {q : Pattern} {e : Environment} {B : Process} {L M : Life} {ys : List Data}
      → Since n (observed (closure t e) r e) (continuing_body k (closure t e) q u e) L (fired B M) → Outputs n (closure (continuing w t r k q u) e) L ys
      → Turned n (closure (continuing w t r k q u) e) L B M
  -- members that have given way, and the body
  released_to : {w : Observation} {i : Collection} {r u : Term} {k : Name} {q : Pattern} {e : Environment} {ms : Members} {B : Process} {L M : Life} {ys : List Data}
      → collect n.functions i e ≡ answer ms
      → Since n (observed_members ms r e) (body_with_members k ms q u e) L (fired B M) → Outputs n (closure (releasing w i r k q u) e) L ys
      → Turned n (closure (releasing w i r k q u) e) L B M
  -- what is referred to, once it has begun
  ran : {r : Reference} {e : Environment} {P : Process} {s : Step} {L : Life} {ys : List Data}
      → referred n r e ≡ answer P → Outputs n (closure (reference r) e) (s ∷ L) ys → Turned n (closure (reference r) e) (s ∷ L) P (s ∷ L)
  -- a frozen process, once it has gone on
  went_on : {P : Process} {h : Life} {d : ℕ} {s : Step} {L : Life} {ys : List Data}
      → Outputs n (resumed P h d) (s ∷ L) ys → Turned n (resumed P h d) (s ∷ L) P (after h d (s ∷ L))
  -- a process that is alike, whatever the other names around it stand for
  was_alike : {P Q : Process} {L : Life} {ys : List Data} → Alike P Q → Outputs n P L ys → Turned n P L Q L

-- the keys of members, in order
abbrev pub keys_in : Members → List KeyData
keys_in no_members = []
keys_in (member k P ms) = k ∷ keys_in ms

mutual
  -- Where functions answer this, names stand for these values and processes.
  pub data IsNames (μ : Machine) : Env → Environment → Type 0 where
    is_empty : IsNames μ SEmpty empty
    is_bound : {at : _} {q : PatternId} {v : Data} {names : Env} {e : Environment}
        → IsNames μ names e → IsNames μ (Bound' at q v names) (bind (pattern_of (stored_pattern (plan_expressions μ.plan) q)) v e)
    -- a process that has lived no step, beside what it began as, where that is asked of its name
    is_running : {at : _} {k : NameId} {a : State} {b : PlanId} {inner names : Env} {P : Process} {e : Environment}
        → Stands μ a P [] → (IsTrue (plan_asks μ.plan (name_at (plan_expressions μ.plan) k)) → IsProcess μ (closed_over b inner) (base P)) → IsNames μ names e → IsNames μ (Running' at k a b inner names) (running (name_at (plan_expressions μ.plan) k) P e)
    -- members that have lived no step
    is_collected : {at list : _} {k : NameId} {keys : Rc Keys Global} {shape row : _} {w : Option ℕ} {names : Env} {ms : Members} {e : Environment}
        → Gathers μ (held_as keys (items-the_row-State _ row) w) ms [] → IsNames μ names e
        → IsNames μ (Collected' at k keys list shape row w names) (collected (name_at (plan_expressions μ.plan) k) ms e)
    -- what is given for the parameters of a template
    is_called : {at : _} {g : TemplateId} {shape row : _} {e : Environment}
        → AreGiven μ (names_of_parameters (plan_expressions μ.plan) (header_at μ.plan g).parameters) (items-the_row-Given _ row) empty e → IsNames μ (Called' at g shape row) e

  -- Names stand for what is given, each inside the names before it, the first inside an environment.
  pub data AreGiven (μ : Machine) : List Name → List Given → Environment → Environment → Type 0 where
    nothing_given : {d : Environment} → AreGiven μ [] [] d d
    value_is_given : {x : Name} {xs : List Name} {v : Data} {gs : List Given} {d e : Environment} → AreGiven μ xs gs (known x v d) e → AreGiven μ (x ∷ xs) (GValue v ∷ gs) d e
    process_is_given : {x : Name} {xs : List Name} {a : State} {b : PlanId} {inner : Env} {gs : List Given} {P : Process} {d e : Environment}
        → Stands μ a P [] → (IsTrue (plan_asks μ.plan x) → IsProcess μ (closed_over b inner) (base P)) → AreGiven μ xs gs (running x P d) e → AreGiven μ (x ∷ xs) (GProcess' a b inner ∷ gs) d e
    members_are_given : {x : Name} {xs : List Name} {keys : Rc Keys Global} {list shape row : _} {w : Option ℕ} {gs : List Given} {ms : Members} {d e : Environment}
        → Gathers μ (held_as keys (items-the_row-State _ row) w) ms [] → AreGiven μ xs gs (collected x ms d) e → AreGiven μ (x ∷ xs) (GMembers' keys list shape row w ∷ gs) d e

  -- what can be run
  pub data IsProcess (μ : Machine) : process_states.Process → Process → Type 0 where
    is_closure : {q : process_states.Process} {P : Process} {e : Environment} → Alike P (closure (plan_tree μ.plan q.term) e) → IsNames μ q.names e → IsProcess μ q P

  -- Where functions answer this, a part of a network stands for a process and the life that it has led. No state stores
  -- the life.
  pub data Stands (μ : Machine) : State → Process → Life → Type 0 where
    itself : {a : State} {P : Process} {L : Life} → StandsItself μ a P L → Stands μ a P L
    -- what stands for the one that a process gives way to stands for it
    took_over : {a : State} {P Q : Process} {L M : Life} → Turned (machine_network μ) P L Q M → Stands μ a Q M → Stands μ a P L

  -- a part stands for the process that it was made of
  pub data StandsItself (μ : Machine) : State → Process → Life → Type 0 where
    unborn : {q : process_states.Process} {P : Process} → IsProcess μ q P → StandsItself μ (Unborn q) P []
    -- a primitive, which has what it needs of the names around it
    recalling : {i : PrimState} {P : Process} {s : Step} {L : Life} → Recalls μ i P (s ∷ L) → StandsItself μ (SPrimitive i) P (s ∷ L)
    -- one on the values of an `arr` of the plan
    mapped : {m : ShortId} {c : Rc OpenCode Global} {i : PrimState} {P : Process} {L : Life}
        → node_arrow (plan_node_at μ.plan (full_id m)) ≡ Some c → Settles μ (behind_arrow c i) P L → StandsItself μ (SMapped m i) P L
    -- two of them, each on its own life
    in_turn : {r : Rc Primitives Global} {P : Process} {L : Life} → Settles μ (in_sequence r.value) P L → StandsItself μ (InTurn r) P L
    -- with the names that are around its term
    alive : {at : _} {names : Env} {l : Live} {t : Term} {e : Environment} {L : Life}
        → IsNames μ names e → Settles μ l (closure t e) L → StandsItself μ (Alive' names at l) (closure t e) L
    watching : {at : _} {names : Env} {w : Switching} {a : State} {q : PatternId} {b : PlanId} {t : Term} {e : Environment} {s : Step} {L : Life}
        → IsNames μ names e → Waits μ (record { form = w; running = a; pattern = q; body = b }) (closure t e) (s ∷ L)
        → StandsItself μ (Watching' names at w a q b) (closure t e) (s ∷ L)
    continuing_on : {at : _} {names : Env} {w : Observation} {f : PlanId} {a x o : State} {k : NameId} {q : PatternId} {b : PlanId} {t : Term} {e : Environment} {s : Step} {L : Life}
        → IsNames μ names e → WaitsContinuation μ (record { shown = w; first = f; source = a; before = x; observer = o; name = k; pattern = q; body = b }) (closure t e) (s ∷ L)
        → StandsItself μ (Continuation' names at w f a x o k q b) (closure t e) (s ∷ L)
    gathering_on : {at : _} {names : Env} {g : Gathering} {t : Term} {e : Environment} {s : Step} {L : Life}
        → IsNames μ names e → WaitsGathered μ g (closure t e) (s ∷ L) → StandsItself μ (Gathering' names at g) (closure t e) (s ∷ L)
    -- frozen after a life, and not stepped since
    was_frozen : {at : _} {d : ℕ} {names : Env} {k : FrozenNode} {P : Process} {s : Step} {h : Life}
        → Stands μ (frozen_state names k) P (s ∷ h) → StandsItself μ (Frozen' at d names k) (resumed P (s ∷ h) d) []

  -- a switch waits for an event after a life
  pub data Waits (μ : Machine) : Switch → Process → Life → Type 0 where
    -- its first term has led the life
    waits_so : {s : Switch} {w : Observation} {t : Term} {e : Environment} {L : Life} {ys : List Data}
        → s.form ≡ Basic w
        → Since (machine_network μ) (Meaning.itself (closure t e)) (whenever (body_of (pattern_of (stored_pattern (plan_expressions μ.plan) s.pattern)) (plan_tree μ.plan s.body) e)) L waits
        → Outputs (machine_network μ) (closure (switching (Basic w) t (pattern_of (stored_pattern (plan_expressions μ.plan) s.pattern)) (plan_tree μ.plan s.body)) e) L ys
        → Stands μ s.running (closure t e) L
        → Waits μ s (closure (switching (Basic w) t (pattern_of (stored_pattern (plan_expressions μ.plan) s.pattern)) (plan_tree μ.plan s.body)) e) L
    -- what runs has led the life since the last event
    recurs_so : {s : Switch} {w : Observation} {t : Term} {e : Environment} {L : Life} {ys : List Data}
        → s.form ≡ Recurring w
        → Outputs (machine_network μ) (closure (switching (Recurring w) t (pattern_of (stored_pattern (plan_expressions μ.plan) s.pattern)) (plan_tree μ.plan s.body)) e) L ys
        → Stands μ s.running (what_runs (closure t e) (body_of (pattern_of (stored_pattern (plan_expressions μ.plan) s.pattern)) (plan_tree μ.plan s.body) e) (last_event L)) (with_inputs first_of (since_event L))
        → Waits μ s (closure (switching (Recurring w) t (pattern_of (stored_pattern (plan_expressions μ.plan) s.pattern)) (plan_tree μ.plan s.body)) e) L

  -- A switch that keeps its source waits for an event after a life: the source has led that life, and the observer the
  -- same with the source's values beside the inputs.
  pub data WaitsContinuation (μ : Machine) : Continuation → Process → Life → Type 0 where
    continues_so : {s : Continuation} {r : Term} {e : Environment} {L : Life} {ys zs : List Data}
        → Since (machine_network μ) (observed (closure (plan_tree μ.plan s.first) e) r e) (continuing_body (name_at (plan_expressions μ.plan) s.name) (closure (plan_tree μ.plan s.first) e) (pattern_of (stored_pattern (plan_expressions μ.plan) s.pattern)) (plan_tree μ.plan s.body) e) L waits
        → Outputs (machine_network μ) (closure (continuing s.shown (plan_tree μ.plan s.first) r (name_at (plan_expressions μ.plan) s.name) (pattern_of (stored_pattern (plan_expressions μ.plan) s.pattern)) (plan_tree μ.plan s.body)) e) L zs
        → Outputs (machine_network μ) (closure (plan_tree μ.plan s.first) e) L ys
        → Stands μ s.source (closure (plan_tree μ.plan s.first) e) L
        → Stands μ s.observer (closure r e) (observed_life L ys)
        → WaitsContinuation μ s (closure (continuing s.shown (plan_tree μ.plan s.first) r (name_at (plan_expressions μ.plan) s.name) (pattern_of (stored_pattern (plan_expressions μ.plan) s.pattern)) (plan_tree μ.plan s.body)) e) L

  -- Members wait for an event after a life.
  pub data WaitsGathered (μ : Machine) : Gathering → Process → Life → Type 0 where
    -- those of a collection have led that life, and the observer the same with their tables beside the inputs
    releases_so : {w : Observation} {keys keys_before : Rc Keys Global} {list shape row list_before shape_before row_before : _} {wait wait_before : Option ℕ} {o : State} {k : NameId} {q : PatternId} {b : PlanId}
        {i : Collection} {r : Term} {e : Environment} {ms : Members} {L : Life} {ys zs : List Data}
        → collect μ.answers i e ≡ answer ms
        → Since (machine_network μ) (observed_members ms r e) (body_with_members (name_at (plan_expressions μ.plan) k) ms (pattern_of (stored_pattern (plan_expressions μ.plan) q)) (plan_tree μ.plan b) e) L waits
        → Outputs (machine_network μ) (closure (releasing w i r (name_at (plan_expressions μ.plan) k) (pattern_of (stored_pattern (plan_expressions μ.plan) q)) (plan_tree μ.plan b)) e) L zs
        → Tables (machine_network μ) ms L ys
        → Gathers μ (held_as keys (items-the_row-State _ row) wait) ms L
        → Stands μ o (closure r e) (observed_life L ys)
        → WaitsGathered μ (GReleasing' w keys list shape row wait keys_before list_before shape_before row_before wait_before o k q b)
        (closure (releasing w i r (name_at (plan_expressions μ.plan) k) (pattern_of (stored_pattern (plan_expressions μ.plan) q)) (plan_tree μ.plan b)) e) L
    -- those of the last edit have led the life since then
    edits_so : {w : Observation} {keys : Rc Keys Global} {list shape row : _} {wait : Option ℕ} {k : NameId} {q : PatternId} {c : Rc PlanCollection Global} {i : Collection} {e : Environment} {ms qs : Members} {L : Life} {ys zs : List Data}
        → IsCodedCollection (plan_expressions μ.plan) c.value
        → collect μ.answers i e ≡ answer ms
        → which_run (edit_of μ.answers (name_at (plan_expressions μ.plan) k) (pattern_of (stored_pattern (plan_expressions μ.plan) q)) (plan_collection μ.plan c.value) e) ms L ≡ answer qs
        → Outputs (machine_network μ) (closure (editing w i (name_at (plan_expressions μ.plan) k) (pattern_of (stored_pattern (plan_expressions μ.plan) q)) (plan_collection μ.plan c.value)) e) L zs
        → Tables (machine_network μ) qs (since_edit L) ys
        → Gathers μ (held_as keys (items-the_row-State _ row) wait) qs (since_edit L)
        → WaitsGathered μ (GEditing' w keys list shape row wait k q c) (closure (editing w i (name_at (plan_expressions μ.plan) k) (pattern_of (stored_pattern (plan_expressions μ.plan) q)) (plan_collection μ.plan c.value)) e) L

  -- a live part stands for a process and a life that has begun
  pub data Settles (μ : Machine) : Live → Process → Life → Type 0 where
    settles : {l : Live} {P : Process} {s : Step} {L : Life} → Ready μ l P (first_input s L) (s ∷ L) → Settles μ l P (s ∷ L)

  -- A live part, with what its form was made with; x is the input of its first step, past or to come.
  pub data Ready (μ : Machine) : Live → Process → Data → Life → Type 0 where
    ready : {l : Live} {t : Term} {e : Environment} {m : Made} {x : Data} {L : Life} {ys : List Data}
        → make (machine_network μ) t e x ≡ answer m → Outputs (machine_network μ) (closure t e) L ys → Lives μ l t e m L
        → Ready μ l (closure t e) x L

  -- The same by the forms.
  pub data Lives (μ : Machine) : Live → Term → Environment → Made → Life → Type 0 where
    lives_probe : {r : Rc (String Global) Global} {e : Environment} {m : Made} {L : Life}
        → Lives μ (LProbe r) (primitive (probe (string_bytes r.value))) e m L
    -- each part on its own life
    lives_join : {j : Join} {a b : State} {f g t : Term} {e : Environment} {m : Made} {L : Life} {ys : List Data}
        → AreJoined j f g t
        → Outputs (machine_network μ) (closure f e) (left_life j L) ys
        → Stands μ a (closure f e) (left_life j L)
        → Stands μ b (closure g e) (right_life j L ys)
        → Lives μ (LJoin j a b) t e m L
    lives_pipeline : {shape row : _} {f g : Term} {e : Environment} {m : Made} {L : Life}
        → StagesStand μ (items-the_row-State _ row) (staged rest f g) e L
        → Lives μ (LPipeline' shape row) (staged whole f g) e m L
    -- one part on its own life
    lives_wrap : {w : Wrap} {a : State} {t u : Term} {e : Environment} {m : Made} {L K : Life}
        → Wraps (machine_network μ) w t e m L u K
        → Stands μ a (closure u e) K
        → Lives μ (LWrap w a) t e m L
    -- members, which have all led the life
    lives_gathered : {keys : Rc Keys Global} {list shape row : _} {wait : Option ℕ} {i : Collection} {e : Environment} {ms : Members} {L : Life} {ys : List Data}
        → Tables (machine_network μ) ms L ys
        → Gathers μ (held_as keys (items-the_row-State _ row) wait) ms L
        → Lives μ (LGathered' keys list shape row wait) (gathered i) e (members_made ms) L

  -- These are held under their keys, and each has led this life.
  pub data Gathers (μ : Machine) : Holding → Members → Life → Type 0 where
    gathers : {h : Holding} {ms : Members} {L : Life} → h.keys ≡ keys_in ms → EachStands μ h.wait h.states ms L → Gathers μ h ms L

  -- Each state stands for the member at its place, after this life.
  pub data EachStands (μ : Machine) : Option ℕ → List State → Members → Life → Type 0 where
    none_stands : {w : Option ℕ} {L : Life} → EachStands μ w [] no_members L
    one_stands : {w : Option ℕ} {a : State} {bs : List State} {k : KeyData} {P : Process} {ms : Members} {L : Life}
        → StandsAmong μ w a P L → EachStands μ w bs ms L → EachStands μ w (a ∷ bs) (member k P ms) L

  -- A state among members stands for one of them: where they wait, for what it was, frozen.
  pub data StandsAmong (μ : Machine) : Option ℕ → State → Process → Life → Type 0 where
    as_it_stands : {a : State} {P : Process} {L : Life} → Stands μ a P L → StandsAmong μ None a P L
    as_it_stood : {d : ℕ} {a : State} {P Q : Process} {M : Life} → Stands μ a Q M → P ≡ frozen Q M d → StandsAmong μ (Some d) a P []

  -- Stages, each on the values of the one before it: two or more, or the last one alone.
  pub data StagesStand (μ : Machine) : List State → Term → Environment → Life → Type 0 where
    last_stands : {a : State} {t : Term} {e : Environment} {L : Life}
        → Stands μ a (closure t e) L → StagesStand μ (a ∷ []) t e L
    stage_stands : {a : State} {bs : List State} {f g : Term} {e : Environment} {L : Life} {ys : List Data}
        → Outputs (machine_network μ) (closure f e) L ys → Stands μ a (closure f e) L → StagesStand μ bs g e (relay L ys)
        → StagesStand μ (a ∷ bs) (staged rest f g) e L

-- names for an environment in which each name that is mentioned stands for alike
pub data HasMentioned (μ : Machine) : Mentioned → Env → Environment → Type 0 where
  has_mentioned : {m : Mentioned} {names : Env} {d e : Environment} → IsNames μ names d → ((x : Name) → IsTrue (is_mentioned (plan_expressions μ.plan) m x) → AlikeName x d e) → HasMentioned μ m names e

-- what stands under a name for a process, beside what that began as, where that is asked of the name
abbrev pub IsHanded : Machine → Name → Handed → Process → Type 0
IsHanded μ x h P = Stands μ h.process P [] × (IsTrue (plan_asks μ.plan x) → IsProcess μ h.base (base P))

-- the process that was found under a name; where none was, inputs pass
abbrev pub IsFound : Machine → Name → Option Handed → Process → Type 0
IsFound μ x (Some h) P = IsHanded μ x h P
IsFound μ x None P = P ≡ passing

-- the members that were found under a name; where none were, there are none
abbrev pub AreFound : Machine → Option Holding → Members → Type 0
AreFound μ (Some h) ms = Gathers μ h ms []
AreFound μ None ms = ms ≡ no_members

-- Each state stands for all that the one at its place stands for.
pub data AllFollow (μ : Machine) : List State → List State → Type 0 where
  none_follow : AllFollow μ [] []
  more_follow : {a b : State} {cs bs : List State}
      → ((P : Process) (L : Life) → Stands μ a P L → Stands μ b P L) → AllFollow μ cs bs → AllFollow μ (a ∷ cs) (b ∷ bs)
