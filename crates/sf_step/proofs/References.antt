-- What a call and the process of a name step as.
use Rattle.std.proofs.Common.{◌≡◌, ℕ, [], ◌∷◌, map, Result, Ok, Err, refl, sym, ap, ◌∙◌, subst}
use Rattle.std.specs.Prelude.{Vec, All}
use Rattle.std.specs.declared.alloc.Global.{Global}
use Rattle.sf_coincidence.proofs.Same.{alike_itself}
use Rattle.sf_value.specs.Values.{Data}
use Rattle.sf_value.specs.declared.fault.Fault.{Fault}
use Rattle.sf_expr.specs.declared.exprs.NameId.{NameId}
use Rattle.sf_expr.specs.Arena.{name_at}
use Rattle.sf_expr.specs.Evaluation.{Evaluated, answer, ◌>>=◌}
use Rattle.sf_term.specs.declared.form.Start.{Start}
use Rattle.sf_term.specs.Trees.{Term, Reference, reference, call}
use Rattle.sf_mean.specs.Lives.{step, Process, closure, empty, Environment, process_started}
use Rattle.sf_mean.specs.Meaning.{Network, argued, referred, process_made, Gives, gives, not_begun, of_constants}
use Rattle.sf_law.specs.declared.node.PlanId.{PlanId}
use Rattle.sf_law.specs.declared.node.TemplateId.{TemplateId}
use Rattle.sf_law.specs.declared.node.PlanArgument.{PlanArgument}
use Rattle.sf_law.specs.declared.node.PlanNode.TheVariants.{Call as NCall, Started as NStarted}
use Rattle.sf_law.specs.Entries.{IsCodedArgument}
use Rattle.sf_law.specs.Arena.{plan_tree, plan_expressions, plan_binding, plan_arguments, header_at, IsCalled, BuildsPlan, builds_call, builds_started}
use Rattle.sf_law.proofs.Called.{called}
use Rattle.sf_state.specs.declared.state.State.{State}
use Rattle.sf_state.specs.declared.state.State.TheVariants.{Unborn}
use Rattle.sf_state.specs.declared.env.Env.{Env}
use Rattle.sf_state.specs.Standing.{Stands, itself, unborn, is_closure, closed_over, IsNames}
use Rattle.sf_state.specs.Machine.{Machine, machine_network}
use Rattle.sf_meter.specs.declared.meter.Meter.{Meter}
use Rattle.sf_meter.specs.Meters.{entered_of, meter_height}
use Rattle.sf_begin.specs.Beginning.{Makes, makes, makes_fault, makes_nothing, Opens, opens_with_fault, opens_without_memory}
use Rattle.sf_step.specs.Answering.{StopsFor, fails, TermSteps}
use Rattle.sf_step.specs.Sampling.{PartSteps, StateSteps}
use Rattle.sf_step.proofs.Costs.{open_stops}
use Rattle.sf_step.proofs.SwitchTurns.{referred_steps}

module _ (μ : Machine) where
  abbrev net : Network
  net = machine_network μ

  -- what stands in the place of a reference, or why nothing does
  abbrev StandsReferred : Reference → Environment → Result State Fault → Type 0
  StandsReferred c e r = Makes (λ a P. Stands μ a P []) (referred net c e) r

  opens_not : {x : Data} (c : Reference) (e : Environment) (f : Fault) → StandsReferred c e (Err f) → Opens μ (reference c) e x (Err f)
  opens_not c e f (makes_fault is) = opens_with_fault (λ d. gives not_begun (of_constants (ap (λ w. w >>= λ P. answer (process_made P)) is)))
  opens_not c e f makes_nothing = opens_without_memory

  module _ (c : Reference) (names : Env) (d : ℕ) (x : Data) {n n' : Meter} {inside : ℕ} where
    -- a reference steps as that
    reference_steps : (a : State) (r : Result (State × Data) Fault) → ((e : Environment) → IsNames μ names e → StandsReferred c e (Ok a)) → StateSteps μ a (step d x) r n n' inside → TermSteps μ (reference c) names (step d x) r n n' inside
    reference_steps a r h hs m depth T e N = by (h e N)
      where
        by : StandsReferred c e (Ok a) → PartSteps μ (closure (reference c) e) [] (step d x) r m n' depth
        by (makes is A) = referred_steps μ is T (hs _ _ A)

    -- or has the fault for which nothing does
    reference_fails : entered_of n' ≡ entered_of n → meter_height n' ≡ meter_height n → (f g : Fault) → g ≡ f → ((e : Environment) → IsNames μ names e → StandsReferred c e (Err f)) → TermSteps μ (reference c) names (step d x) (Err g) n n' inside
    reference_fails en hn f g eg h m depth T e N =
        fails (subst (λ (g : Fault). StopsFor (Gives net (closure (reference c) e) (step d x ∷ [])) g m n' depth) (sym eg) (open_stops μ T en hn d (opens_not {x = x} c e f (h e N))))

  -- ## Calls

  pub coded_arguments : {k : NameId} {g : TemplateId} {v : Vec PlanArgument Global} {t : Term} → BuildsPlan μ.plan (NCall k g v) t → All (IsCodedArgument (plan_expressions μ.plan)) v.items
  coded_arguments (builds_call is C) = C

  -- the names of a call's parameters among these, or the fault of its arguments
  abbrev pub AreArgued : TemplateId → Vec PlanArgument Global → Environment → Result Env Fault → Type 0
  AreArgued g v e r = Makes (IsNames μ) (argued μ.answers (map (plan_binding μ.plan) (header_at μ.plan g).parameters) (plan_arguments μ.plan v.items) e empty) r

  module _ (k : NameId) (g : TemplateId) (v : Vec PlanArgument Global) where
    abbrev called_by : Reference
    called_by = call (name_at (plan_expressions μ.plan) k) (plan_arguments μ.plan v.items)

    abbrev body_in : Environment → Evaluated Process
    body_in d = answer (closure (plan_tree μ.plan (header_at μ.plan g).body) d)

    module _ (is : IsCalled μ.plan (name_at (plan_expressions μ.plan) k) (header_at μ.plan g)) (e : Environment) where
      called_as : referred net called_by e ≡ (argued μ.answers (map (plan_binding μ.plan) (header_at μ.plan g).parameters) (plan_arguments μ.plan v.items) e empty >>= body_in)
      called_as = called μ.answers μ.plan (name_at (plan_expressions μ.plan) k) (header_at μ.plan g) is (plan_arguments μ.plan v.items) e

      -- the body of its template stands in its place, among the names of its parameters
      body_stands : (body : PlanId) (bound : Env) → body ≡ (header_at μ.plan g).body → AreArgued g v e (Ok bound) → StandsReferred called_by e (Ok (Unborn (closed_over body bound)))
      body_stands body bound same (makes {b = d} w N) =
          makes (called_as ∙ ap (λ w. w >>= body_in) w)
          (subst (λ t. Stands μ (Unborn (closed_over t bound)) (closure (plan_tree μ.plan (header_at μ.plan g).body) d) []) (sym same) (itself (unborn (is_closure (alike_itself _) N))))

      none_stands : (f : Fault) → AreArgued g v e (Err f) → StandsReferred called_by e (Err f)
      none_stands f (makes_fault w) = makes_fault (called_as ∙ ap (λ w. w >>= body_in) w)
      none_stands f makes_nothing = makes_nothing

    pub call_steps : {n n' : Meter} {inside : ℕ} (t : Term) (names : Env) → BuildsPlan μ.plan (NCall k g v) t → (d : ℕ) (x : Data) (bound : Env) (body : PlanId) (r : Result (State × Data) Fault)
        → body ≡ (header_at μ.plan g).body → ((e : Environment) → IsNames μ names e → AreArgued g v e (Ok bound)) → StateSteps μ (Unborn (closed_over body bound)) (step d x) r n n' inside → TermSteps μ t names (step d x) r n n' inside
    call_steps t names (builds_call is C) d x bound body r same made = reference_steps called_by names d x (Unborn (closed_over body bound)) r (λ e N. body_stands is e body bound same (made e N))

    pub call_fails : {n n' : Meter} {inside : ℕ} (t : Term) (names : Env) → BuildsPlan μ.plan (NCall k g v) t → (d : ℕ) (x : Data) → entered_of n' ≡ entered_of n → meter_height n' ≡ meter_height n
        → (f h : Fault) → h ≡ f → ((e : Environment) → IsNames μ names e → AreArgued g v e (Err f)) → TermSteps μ t names (step d x) (Err h) n n' inside
    call_fails t names (builds_call is C) d x en hn f h eh made = reference_fails called_by names d x en hn f h eh (λ e N. none_stands is e f (made e N))

  -- ## Processes of names

  pub process_steps : {n n' : Meter} {inside : ℕ} (w : Start) (k : NameId) (t : Term) (names : Env) → BuildsPlan μ.plan (NStarted w k) t → (d : ℕ) (x : Data) (a : State) (r : Result (State × Data) Fault)
      → ((e : Environment) → IsNames μ names e → Stands μ a (process_started w (name_at (plan_expressions μ.plan) k) e) []) → StateSteps μ a (step d x) r n n' inside → TermSteps μ t names (step d x) r n n' inside
  process_steps w k t names builds_started d x a r h = reference_steps _ names d x a r (λ e N. makes refl (h e N))
