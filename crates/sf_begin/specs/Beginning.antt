-- What a part is before its first sample, and when a state is prepared for a sample.
use Rattle.std.specs.Prelude.{◌≡◌, ◌≢◌, ℕ, Bool, true, false, List, [], ◌∷◌, length, Some, Result, Ok, Err}
use Rattle.std.specs.declared.rc.Rc.{Rc}
use Rattle.std.specs.declared.alloc.Global.{Global}
use Rattle.sf_value.specs.Values.{Data}
use Rattle.sf_value.specs.declared.fault.ValueFault.{ValueFault}
use Rattle.sf_value.specs.declared.fault.Fault.{Fault}
use Rattle.sf_value.specs.declared.fault.Fault.TheVariants.{Value, Memory}
use Rattle.sf_expr.specs.declared.exprs.NameId.{NameId}
use Rattle.sf_expr.specs.declared.exprs.PatternId.{PatternId}
use Rattle.sf_expr.specs.Arena.{name_at}
use Rattle.sf_expr.specs.Evaluation.{Evaluated, answer, failed}
use Rattle.sf_term.specs.declared.form.Join.TheVariants.{InParallel}
use Rattle.sf_term.specs.declared.form.Observation.{Observation}
use Rattle.sf_term.specs.declared.form.Switching.{Switching}
use Rattle.sf_term.specs.Trees.{Term}
use Rattle.sf_mean.specs.Lives.{step, Life, Process, closure, Environment}
use Rattle.sf_mean.specs.Meaning.{Network, faulted, entered_cost, argued, make, Gives}
use Rattle.sf_law.specs.declared.node.PlanId.{PlanId}
use Rattle.sf_law.specs.declared.node.ShortId.{ShortId}
use Rattle.sf_law.specs.declared.node.PlanArgument.{PlanArgument}
use Rattle.sf_law.specs.declared.node.PlanNode.{PlanNode}
use Rattle.sf_law.specs.declared.node.PlanNode.TheVariants as nodes
use Rattle.sf_law.specs.Headers.{ParameterHeader}
use Rattle.sf_law.specs.Arena.{plan_tree, plan_node_at, full_id, node_arrow, plan_expressions, plan_binding, plan_arguments}
use Rattle.sf_code.specs.declared.open.OpenCode.{OpenCode}
use Rattle.sf_prim.specs.declared.prim_state.PrimState.{PrimState}
use Rattle.sf_state.specs.declared.state.State.{State}
use Rattle.sf_state.specs.declared.state.State.TheVariants.{Unborn', Primitive as SPrimitive, Mapped as SMapped, Primitives as InTurn, Live' as Alive', Switch' as Watching', Continuation', Gathering', Frozen'}
use Rattle.sf_state.specs.declared.state.Primitives.{Primitives}
use Rattle.sf_state.specs.declared.state.Live.{Live}
use Rattle.sf_state.specs.declared.state.Gathering.{Gathering}
use Rattle.sf_state.specs.declared.env.Env.{Env}
use Rattle.sf_state.specs.declared.state.Wrap.{Wrap}
use Rattle.sf_state.specs.declared.env.Given.{Given}
use Rattle.sf_state.specs.Standing.{in_sequence, behind_arrow, IsNames, AreGiven, Recalls, Stands, Waits, WaitsContinuation, WaitsGathered, Ready, Wraps}
use Rattle.sf_state.specs.Machine.{Machine, machine_network}
use Rattle.sf_begin.specs.declared.opening.Opened.{Opened}
use Rattle.sf_begin.specs.declared.opening.Opened.TheVariants as opened

-- a node has no first sample of its own, so it begins as itself: no primitive, call, process of a name or switch, and no two
-- parts in a row or on one input
abbrev pub OpensItself : PlanNode → Type 0
OpensItself (nodes.Primitive q) = ⊥
OpensItself (nodes.Joined j a b) = j ≡ InParallel
OpensItself (nodes.Pipeline v) = length v.items ≢ 2
OpensItself (nodes.Call k g v) = ⊥
OpensItself (nodes.Started w k) = ⊥
OpensItself (nodes.Switching s) = ⊥
OpensItself (nodes.Continuation s) = ⊥
OpensItself _ = Unit {0}

-- A state is prepared for the next step of a process after a life, before its first sample too: the process that it was made
-- of, and not one that it took over from; x is the input of the first step, past or to come.
pub data Prepared (μ : Machine) : State → Process → (x : Data) → Life → Type 0 where
  primitive_prepared : {i : PrimState} {P : Process} {x : Data} {L : Life} → Recalls μ i P L → Prepared μ (SPrimitive i) P x L
  mapped_prepared : {m : ShortId} {c : Rc OpenCode Global} {i : PrimState} {P : Process} {x : Data} {L : Life}
      → node_arrow (plan_node_at μ.plan (full_id m)) ≡ Some c → Ready μ (behind_arrow c i) P x L → Prepared μ (SMapped m i) P x L
  primitives_prepared : {r : Rc Primitives Global} {P : Process} {x : Data} {L : Life} → Ready μ (in_sequence r.value) P x L → Prepared μ (InTurn r) P x L
  live_prepared : {at : _} {names : Env} {l : Live} {t : Term} {e : Environment} {x : Data} {L : Life}
      → IsNames μ names e → Ready μ l (closure t e) x L → Prepared μ (Alive' names at l) (closure t e) x L
  switch_prepared : {at : _} {names : Env} {w : Switching} {a : State} {q : PatternId} {b : PlanId} {t : Term} {e : Environment} {x : Data} {L : Life}
      → IsNames μ names e → Waits μ (record { form = w; running = a; pattern = q; body = b }) (closure t e) L → Prepared μ (Watching' names at w a q b) (closure t e) x L
  continuing_prepared : {at : _} {names : Env} {w : Observation} {f : PlanId} {a c o : State} {k : NameId} {q : PatternId} {b : PlanId} {t : Term} {e : Environment} {x : Data} {L : Life}
      → IsNames μ names e → WaitsContinuation μ (record { shown = w; first = f; source = a; before = c; observer = o; name = k; pattern = q; body = b }) (closure t e) L
      → Prepared μ (Continuation' names at w f a c o k q b) (closure t e) x L
  gathering_prepared : {at : _} {names : Env} {g : Gathering} {t : Term} {e : Environment} {x : Data} {L : Life}
      → IsNames μ names e → WaitsGathered μ g (closure t e) L → Prepared μ (Gathering' names at g) (closure t e) x L

-- whether a state has begun and is awake: a sample counts it, and then steps it
abbrev pub is_awake : State → Bool
is_awake (Unborn' t names) = false
is_awake (SPrimitive i) = true
is_awake (SMapped m i) = true
is_awake (InTurn r) = true
is_awake (Alive' names at l) = true
is_awake (Watching' names at w a q b) = true
is_awake (Continuation' names at w t a x o k q b) = true
is_awake (Gathering' names at g) = true
is_awake (Frozen' at d names k) = false

-- What is made of something that is evaluated: it stands for the answer, or is its fault. Want of memory says nothing of it.
pub data Makes {A B : Type 0} (stands : A → B → Type 0) (w : Evaluated B) : Result A Fault → Type 0 where
  makes : {a : A} {b : B} → w ≡ answer b → stands a b → Makes stands w (Ok a)
  makes_fault : {x : ValueFault} → w ≡ failed x → Makes stands w (Err (Value x))
  makes_nothing : Makes stands w (Err Memory)

-- what an argument gives to a parameter where a call with these names around it binds it, or the fault of the argument
abbrev pub GivesOne : Machine → ParameterHeader → PlanArgument → Env → Result Given Fault → Type 0
GivesOne μ q v names r = (e d : Environment) → IsNames μ names e
    → Makes (λ g b. AreGiven μ (name_at (plan_expressions μ.plan) q.name ∷ []) (g ∷ []) d b) (argued μ.answers (plan_binding μ.plan q ∷ []) (plan_arguments μ.plan (v ∷ [])) e d) r

-- what a form with one part keeps before its first sample, which has the input x; or the fault of what stands before its part
abbrev pub WrapsAtFirst : Network → Term → Environment → (x : Data) → (part : Term) → Result Wrap Fault → Type 0
WrapsAtFirst n t e x part r = Makes (λ w m. Wraps n w t e m [] part []) (make n t e x) r

-- a part before its first sample, which has the input x; or the fault of its constants
pub data Opens (μ : Machine) (t : Term) (e : Environment) (x : Data) : Result Opened Fault → Type 0 where
  opens : {r : Rc Live Global} {l : Live} → r.value ≡ l → Ready μ l (closure t e) x [] → Opens μ t e x (Ok (opened.Live r))
  opens_gathering : {r : Rc Gathering Global} {g : Gathering} → r.value ≡ g → WaitsGathered μ g (closure t e) [] → Opens μ t e x (Ok (opened.Gathering r))
  opens_with_fault : {f : ValueFault} → ((d : ℕ) → Gives (machine_network μ) (closure t e) (step d x ∷ []) (faulted f) (entered_cost t)) → Opens μ t e x (Err (Value f))
  opens_without_memory : Opens μ t e x (Err Memory)

-- a state of a term that has begun at a first sample with the input x, or why it hasn't
pub data BeginsAs (μ : Machine) (t : Term) (e : Environment) (x : Data) (a : State) : Result (Unit {0}) Fault → Type 0 where
  begins_itself : {u : Unit {0}} → Prepared μ a (closure t e) x [] → BeginsAs μ t e x a (Ok u)
  begins_not : {f : Fault} → Opens μ t e x (Err f) → BeginsAs μ t e x a (Err f)

-- States of terms before their first sample.
pub data AllBegin (μ : Machine) (e : Environment) : List PlanId → List State → Type 0 where
  none_begin : AllBegin μ e [] []
  more_begin : {i : PlanId} {ids : List PlanId} {a : State} {bs : List State}
      → Stands μ a (closure (plan_tree μ.plan i) e) [] → AllBegin μ e ids bs → AllBegin μ e (i ∷ ids) (a ∷ bs)
