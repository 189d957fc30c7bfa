-- What terms are before their first sample, and what stands in their states.
use Rattle.std.proofs.Common.{◌≡◌, ℕ, ◌+◌, ◌<◌, suc, List, [], ◌∷◌, ◌++◌, length, get_or, take, map, Some, Result, Ok, Err, refl, sym, ap, ◌∙◌, subst, arith, IsTrue}
use Rattle.std.specs.Prelude.{nat_le, IsErrAnd, Vec, String, string_bytes}
use Rattle.std.specs.declared.rc.Rc.{Rc}
use Rattle.std.specs.declared.alloc.Global.{Global}
use Rattle.std.proofs.Math.Seq.{take-suc}
use Rattle.sf_coincidence.proofs.Same.{alike_itself}
use Rattle.sf_value.specs.Values.{Data}
use Rattle.sf_value.specs.declared.fault.Fault.{Fault}
use Rattle.sf_value.specs.declared.fault.Fault.TheVariants.{Memory}
use Rattle.sf_operator.specs.Answers.{Evaluates}
use Rattle.sf_operator.specs.declared.fault.EvalFault.{EvalFault}
use Rattle.sf_operator.specs.declared.fault.EvalFault.TheVariants.{Value as EValue, Memory as EMemory}
use Rattle.sf_expr.specs.Expressions.{Expression, Function}
use Rattle.sf_expr.specs.Evaluation.{Scope, answer, ◌>>=◌, eval, apply}
use Rattle.sf_expr.specs.Arena.{function_at, name_at, stored_pattern}
use Rattle.sf_expr.specs.Patterns.{pattern_of}
use Rattle.sf_expr.specs.declared.exprs.ExprId.{ExprId}
use Rattle.sf_expr.specs.declared.exprs.FunctionId.{FunctionId}
use Rattle.sf_code.specs.declared.open.OpenCode.{OpenCode}
use Rattle.sf_code.specs.Names.{scope_with}
use Rattle.sf_code.specs.Worth.{IsCodeOfFunction}
use Rattle.sf_term.specs.declared.form.Join.{Join}
use Rattle.sf_term.specs.declared.form.Join.TheVariants.{InSequence, InParallel, FannedOut}
use Rattle.sf_term.specs.declared.form.Side.{Side}
use Rattle.sf_term.specs.declared.form.Heading.{Heading}
use Rattle.sf_term.specs.Trees.{rest, Primitive, probe, Term, primitive, sided, headed, transformed, gathered, releasing, editing}
use Rattle.sf_mean.specs.Lives.{step, Life, closure, Environment, scope_around}
use Rattle.sf_mean.specs.Collections.{collect}
use Rattle.sf_mean.specs.Meaning.{Network, recorded, as_outcome, Made, nothing_made, value_made, members_made, make, left_life, right_life, gives, Outputs, not_begun, of_constants, of_form, of_primitive, at_start, no_tables}
use Rattle.sf_law.specs.declared.node.PlanId.{PlanId}
use Rattle.sf_law.specs.declared.node.PlanPrimitive.{PlanPrimitive}
use Rattle.sf_law.specs.declared.node.PlanCollection.{PlanCollection}
use Rattle.sf_law.specs.declared.node.PlanReleasing.{PlanReleasing}
use Rattle.sf_law.specs.declared.node.PlanEditing.{PlanEditing}
use Rattle.sf_law.specs.declared.node.PlanNode.TheVariants.{Primitive as NPrimitive, Joined as NJoined, Sided as NSided, Headed as NHeaded, Transformed as NTransformed, Probe as NProbe, Pipeline as NPipeline, Gathered as NGathered, Releasing as NReleasing, Editing as NEditing}
use Rattle.sf_law.specs.Entries.{primitive_over, IsCodedPrimitive, IsCodedExpression, IsCodedCollection, stages, pipeline}
use Rattle.sf_law.specs.Arena.{plan_tree, plan_collection, plan_expressions, plan_expression_at, BuildsPlan, builds_primitive, builds_joined, builds_sided, builds_headed, builds_transformed, builds_probe, builds_pipeline, builds_gathered, builds_releasing, builds_editing}
use Rattle.sf_prim.specs.declared.prim_state.PrimState.{PrimState}
use Rattle.sf_prim.specs.Remembering.{Begins, begins, begins_with_fault}
use Rattle.sf_state.specs.declared.state.State.{State}
use Rattle.sf_state.specs.declared.state.State.TheVariants.{Unborn, Live' as Alive', Gathering'}
use Rattle.sf_state.specs.declared.state.Live.{Live, items_hidden-the_row-State-0 as states_are}
use Rattle.sf_state.specs.declared.state.Live.TheVariants.{Probe as LProbe, Join as LJoin, Wrap as LWrap, Pipeline as LPipeline, Gathered as LGathered}
use Rattle.sf_state.specs.declared.state.Gathered.{Gathered}
use Rattle.sf_state.specs.declared.state.Gathering.{Gathering}
use Rattle.sf_state.specs.declared.state.Gathering.TheVariants.{Releasing as GReleasing, Editing as GEditing}
use Rattle.sf_state.specs.declared.state.Wrap.{Wrap}
use Rattle.sf_state.specs.declared.state.Wrap.TheVariants.{Replaced}
use Rattle.sf_state.specs.declared.env.Env.{Env}
use Rattle.sf_state.specs.Names.{values_around}
use Rattle.sf_state.specs.Standing.{Ready, Stands, Recalls, itself, unborn, recalls, releases_so, edits_so, ready, AreJoined, as_join, as_pipeline, lives_probe, lives_join, lives_wrap, Wraps, wraps_transformed, StagesStand, last_stands, stage_stands, is_closure, IsNames, closed_over}
use Rattle.sf_state.specs.Machine.{Machine, machine_network}
use Rattle.sf_state.proofs.Scopes.{scope_is}
use Rattle.sf_state.proofs.Copies.{pipeline_lives, members_live, held_hidden}
use Rattle.sf_begin.specs.Collecting.{MakesMembers}
use Rattle.sf_begin.specs.declared.opening.Opened.{Opened}
use Rattle.sf_begin.specs.declared.opening.Opened.TheVariants as opened
use Rattle.sf_begin.specs.Contexts.{sample_fault}
use Rattle.sf_begin.specs.Beginning.{Prepared, live_prepared, gathering_prepared, makes, makes_fault, makes_nothing, WrapsAtFirst, Opens, opens, opens_gathering, opens_with_fault, opens_without_memory, AllBegin, none_begin, more_begin}

-- before the first step
left_none : (j : Join) → left_life j [] ≡ []
left_none InSequence = refl
left_none InParallel = refl
left_none FannedOut = refl

right_none : (j : Join) → right_life j [] [] ≡ []
right_none InSequence = refl
right_none InParallel = refl
right_none FannedOut = refl

module _ (μ : Machine) where
  abbrev net : Network
  net = machine_network μ

  -- ## Terms

  prim_opens_with_fault : {x : Data} (q : Primitive) (e : Environment) (f : EvalFault) → Begins (scope_around μ.answers e) q (Err f) → Opens μ (primitive q) e x (Err (sample_fault f))
  prim_opens_with_fault {x} q e (EValue y) (begins_with_fault h) = opens_with_fault (λ d. gives not_begun (of_form refl (of_primitive (ap (λ o. as_outcome o (recorded q (step d x))) (h (step d x))))))
  prim_opens_with_fault q e EMemory h = opens_without_memory

  pub open_failure : {x : Data} (t : Term) (e : Environment) (r : Result Opened Fault) (f : Fault) → IsErrAnd r (λ e. e ≡ f) → Opens μ t e x (Err f) → Opens μ t e x r
  open_failure t e (Ok l) f h O = absurd h
  open_failure {x} t e (Err g) f h O = subst (λ (f : Fault). Opens μ t e x (Err f)) (sym h) O

  pub open_exit : {x : Data} (t : Term) (e : Environment) (r : Result Opened Fault) → IsErrAnd r (λ e. e ≡ Memory) → Opens μ t e x r
  open_exit t e r h = open_failure t e r Memory h opens_without_memory

  -- the scope around a part, as its names have it
  abbrev scope_in : Env → Scope
  scope_in names = scope_with (values_around μ.plan names) μ.answers

  pub open_prim_fails : (q : PlanPrimitive) (t : Term) (names : Env) (f : EvalFault) → BuildsPlan μ.plan (NPrimitive q) t → (IsCodedPrimitive (plan_expressions μ.plan) q → Begins (scope_in names) (primitive_over (plan_expressions μ.plan) q) (Err f))
      → (x : Data) (e : Environment) → IsNames μ names e → Opens μ t e x (Err (sample_fault f))
  open_prim_fails q t names f (builds_primitive C) h x e N = prim_opens_with_fault _ e f (subst (λ (s : Scope). Begins s (primitive_over (plan_expressions μ.plan) q) (Err f)) (scope_is μ names e N) (h C))

  -- a primitive that begins has lived no sample
  pub first_recalls : (q : PlanPrimitive) (t : Term) (names : Env) (i : PrimState) → BuildsPlan μ.plan (NPrimitive q) t → (IsCodedPrimitive (plan_expressions μ.plan) q → Begins (scope_in names) (primitive_over (plan_expressions μ.plan) q) (Ok i))
      → (e : Environment) → IsNames μ names e → Recalls μ i (closure t e) []
  first_recalls q t names i (builds_primitive C) h e N = by (subst (λ (s : Scope). Begins s (primitive_over (plan_expressions μ.plan) q) (Ok i)) (scope_is μ names e N) (h C))
    where
      by : Begins (scope_around μ.answers e) (primitive_over (plan_expressions μ.plan) q) (Ok i) → Recalls μ i (closure (primitive (primitive_over (plan_expressions μ.plan) q)) e) []
      by (begins K) = recalls not_begun K

  join_makes : {j : Join} {f g t : Term} (e : Environment) (x : Data) → AreJoined j f g t → make net t e x ≡ answer nothing_made
  join_makes e x as_join = refl
  join_makes e x as_pipeline = refl

  -- two parts before their first sample, in one node
  pub join_ready : (j : Join) (a b : PlanId) (t : Term) (names one two : Env)
      → ((e : Environment) → IsNames μ names e → IsNames μ one e) → ((e : Environment) → IsNames μ names e → IsNames μ two e)
      → AreJoined j (plan_tree μ.plan a) (plan_tree μ.plan b) t → (x : Data) (e : Environment) → IsNames μ names e → Ready μ (LJoin j (Unborn (closed_over a one)) (Unborn (closed_over b two))) (closure t e) x []
  join_ready j a b t names one two h g J x e N =
      let A = subst (λ (K : Life). Stands μ (Unborn (closed_over a one)) (closure (plan_tree μ.plan a) e) K) (sym (left_none j)) (itself (unborn (is_closure (alike_itself _) (h e N)))) in
      let B = subst (λ (K : Life). Stands μ (Unborn (closed_over b two)) (closure (plan_tree μ.plan b) e) K) (sym (right_none j)) (itself (unborn (is_closure (alike_itself _) (g e N)))) in
      let O = subst (λ (K : Life). Outputs net (closure (plan_tree μ.plan a) e) K []) (sym (left_none j)) not_begun in
      ready (join_makes e x J) not_begun (lives_join J O A B)

  pub open_parallel : (a b : PlanId) (t : Term) (names one two : Env) (l : Rc Live Global) → l.value ≡ LJoin InParallel (Unborn (closed_over a one)) (Unborn (closed_over b two))
      → ((e : Environment) → IsNames μ names e → IsNames μ one e) → ((e : Environment) → IsNames μ names e → IsNames μ two e)
      → AreJoined InParallel (plan_tree μ.plan a) (plan_tree μ.plan b) t → (x : Data) (e : Environment) → IsNames μ names e → Opens μ t e x (Ok (opened.Live l))
  open_parallel a b t names one two l same h g J x e N = opens same (join_ready InParallel a b t names one two h g J x e N)

  -- two stages go by `>>>`
  pub two_joined : (i j : PlanId) (v : Vec PlanId Global) (t : Term) → v.items ≡ i ∷ j ∷ [] → BuildsPlan μ.plan (NPipeline v) t → AreJoined InSequence (plan_tree μ.plan i) (plan_tree μ.plan j) t
  two_joined i j v t same (builds_pipeline two) = subst (λ (ids : List PlanId). AreJoined InSequence (plan_tree μ.plan i) (plan_tree μ.plan j) (pipeline (map (λ k. plan_tree μ.plan k) ids))) (sym same) as_pipeline

  -- the two parts of a node are joined in it
  pub parts_joined : (j : Join) (a b : PlanId) (t : Term) → BuildsPlan μ.plan (NJoined j a b) t → AreJoined j (plan_tree μ.plan a) (plan_tree μ.plan b) t
  parts_joined j a b t builds_joined = as_join

  pub open_wrap : (w : Wrap) (a : PlanId) (names inner : Env) (l : Rc Live Global) → l.value ≡ LWrap w (Unborn (closed_over a inner)) → ((e : Environment) → IsNames μ names e → IsNames μ inner e)
      → (t : Term) (x : Data) (e : Environment) → IsNames μ names e → WrapsAtFirst net t e x (plan_tree μ.plan a) (Ok w) → Opens μ t e x (Ok (opened.Live l))
  open_wrap w a names inner l same g t x e N (makes h W) = opens same (ready h not_begun (lives_wrap W (itself (unborn (is_closure (alike_itself _) (g e N))))))

  -- what stands before the part has a fault
  pub open_wrap_fails : (t u : Term) (x : Data) (e : Environment) (f : Fault) → WrapsAtFirst net t e x u (Err f) → Opens μ t e x (Err f)
  open_wrap_fails t u x e f (makes_fault h) = opens_with_fault (λ d. gives not_begun (of_constants h))
  open_wrap_fails t u x e f makes_nothing = opens_without_memory

  pub open_sided : (d : Side) (a : PlanId) (t : Term) (names : Env) (w : Wrap) (r : Result Opened Fault) → BuildsPlan μ.plan (NSided d a) t
      → ((n : Network) (t : Term) (e : Environment) (m : Made) → Wraps n w (sided d t) e m [] t [])
      → ((μ : Machine) (t : Term) (x : Data) (e : Environment) → IsNames μ names e → WrapsAtFirst (machine_network μ) t e x (plan_tree μ.plan a) (Ok w) → Opens μ t e x r)
      → (x : Data) (e : Environment) → IsNames μ names e → Opens μ t e x r
  open_sided d a t names w r builds_sided W h x e N = h μ _ x e N (makes refl (W net (plan_tree μ.plan a) e nothing_made))

  -- a part with a head opens as it does where its head's code is the head's
  pub open_builds_headed : {x : Data} (i : Heading) (j : ExprId) (c : OpenCode) (a : PlanId) (t : Term) (names : Env) (r : Result Opened Fault) → BuildsPlan μ.plan (NHeaded i j c a) t
      → ((e : Environment) → IsCodedExpression (plan_expressions μ.plan) j c → IsNames μ names e → Opens μ (headed i (plan_expression_at μ.plan j) (plan_tree μ.plan a)) e x r)
      → (e : Environment) → IsNames μ names e → Opens μ t e x r
  open_builds_headed i j c a t names r (builds_headed C) h e N = h e C N

  pub open_builds_transformed : {x : Data} (i : FunctionId) (c : OpenCode) (a : PlanId) (t : Term) (names : Env) (r : Result Opened Fault) → BuildsPlan μ.plan (NTransformed i c a) t
      → ((e : Environment) → IsCodeOfFunction (plan_expressions μ.plan) (function_at (plan_expressions μ.plan) i) c → IsNames μ names e → Opens μ (transformed (function_at (plan_expressions μ.plan) i) (plan_tree μ.plan a)) e x r)
      → (e : Environment) → IsNames μ names e → Opens μ t e x r
  open_builds_transformed i c a t names r (builds_transformed C) h e N = h e C N

  -- what it keeps at first, by what its head is worth among the names around it
  pub headed_at_first : (i : Heading) (j : ExprId) (c : OpenCode) (u : Term) (names : Env) (o : Result Data EvalFault) (w : Result Wrap Fault)
      → (IsCodedExpression (plan_expressions μ.plan) j c → Evaluates o (eval (plan_expression_at μ.plan j) (scope_in names)))
      → ((n : Network) (j : Expression) (t : Term) (e : Environment) (x : Data) → Evaluates o (eval j (scope_around n.functions e)) → WrapsAtFirst n (headed i j t) e x t w)
      → (x : Data) (e : Environment) → IsCodedExpression (plan_expressions μ.plan) j c → IsNames μ names e → WrapsAtFirst net (headed i (plan_expression_at μ.plan j) u) e x u w
  headed_at_first i j c u names o w g W x e C N = W net _ u e x (subst (λ (s : Scope). Evaluates o (eval (plan_expression_at μ.plan j) s)) (scope_is μ names e N) (g C))

  -- the same by what a function makes of the first input
  module _ (f : Function) (u : Term) (names : Env) (x : Data) (e : Environment) (N : IsNames μ names e) where
    made_around : make net (transformed f u) e x ≡ (apply f x (scope_in names) >>= λ v. answer (value_made v))
    made_around = ap (λ s. apply f x s >>= λ v. answer (value_made v)) (sym (scope_is μ names e N))

    pub transformed_at_first : (v : Data) → Evaluates (Ok v) (apply f x (scope_in names)) → WrapsAtFirst net (transformed f u) e x u (Ok (Replaced (Some v)))
    transformed_at_first v h = makes (made_around ∙ ap (λ o. o >>= λ v. answer (value_made v)) h) wraps_transformed

    pub transformed_fails : (g : EvalFault) → Evaluates (Err g) (apply f x (scope_in names)) → WrapsAtFirst net (transformed f u) e x u (Err (sample_fault g))
    transformed_fails (EValue y) h = makes_fault (made_around ∙ ap (λ o. o >>= λ v. answer (value_made v)) h)
    transformed_fails EMemory h = makes_nothing

  -- ## Members

  -- what a collection makes among names
  abbrev AreMade : PlanCollection → Environment → Result Gathered Fault → Type 0
  AreMade i e r = MakesMembers μ (collect μ.answers (plan_collection μ.plan i) e) r

  pub open_gathered : (i : PlanCollection) (g : Gathered) (l : Rc Live Global) → l.value ≡ LGathered g → (x : Data) (e : Environment) → AreMade i e (Ok g) → Opens μ (gathered (plan_collection μ.plan i)) e x (Ok (opened.Live l))
  open_gathered i g l same x e (makes h G) = opens same (ready (ap (λ w. w >>= λ ms. answer (members_made ms)) h) not_begun (members_live μ g no_tables G))

  -- a form whose members are not made
  open_members_fails : (t : Term) (i : PlanCollection) (x : Data) (e : Environment) (f : Fault) → make net t e x ≡ (collect μ.answers (plan_collection μ.plan i) e >>= λ ms. answer (members_made ms)) → AreMade i e (Err f) → Opens μ t e x (Err f)
  open_members_fails t i x e f is (makes_fault h) = opens_with_fault (λ d. gives not_begun (of_constants (is ∙ ap (λ w. w >>= λ ms. answer (members_made ms)) h)))
  open_members_fails t i x e f is makes_nothing = opens_without_memory

  pub open_gathered_fails : (i : PlanCollection) (x : Data) (e : Environment) (f : Fault) → AreMade i e (Err f) → Opens μ (gathered (plan_collection μ.plan i)) e x (Err f)
  open_gathered_fails i x e f h = open_members_fails (gathered (plan_collection μ.plan i)) i x e f refl h

  pub open_builds_gathered : (i : Rc PlanCollection Global) (t : Term) (names : Env) (r : Result Opened Fault) → BuildsPlan μ.plan (NGathered i) t
      → ((x : Data) (e : Environment) → IsCodedCollection (plan_expressions μ.plan) i.value → IsNames μ names e → Opens μ (gathered (plan_collection μ.plan i.value)) e x r) → (x : Data) (e : Environment) → IsNames μ names e → Opens μ t e x r
  open_builds_gathered i t names r (builds_gathered C) h x e N = h x e C N

  module _ (s : PlanReleasing) where
    abbrev ReleasedMade : Environment → Result Gathered Fault → Type 0
    ReleasedMade e r = IsCodedCollection (plan_expressions μ.plan) s.members.value → AreMade s.members.value e r

    pub open_releasing : (t : Term) (members before : Gathered) (around : Env) (l : Rc Gathering Global) → l.value ≡ GReleasing (record { shown = s.shown; members = members; before = before; observer = Unborn (closed_over s.observer around); name = s.name; pattern = s.pattern; body = s.body }) → BuildsPlan μ.plan (NReleasing s) t
        → (x : Data) (e : Environment) → ReleasedMade e (Ok members) → IsNames μ around e → Opens μ t e x (Ok (opened.Gathering l))
    open_releasing t members before around l same (builds_releasing C) x e f N = by (f C)
      where
        by : AreMade s.members.value e (Ok members) → Opens μ (releasing s.shown (plan_collection μ.plan s.members.value) (plan_tree μ.plan s.observer) (name_at (plan_expressions μ.plan) s.name) (pattern_of (stored_pattern (plan_expressions μ.plan) s.pattern)) (plan_tree μ.plan s.body)) e x (Ok (opened.Gathering l))
        by (makes h G) = opens_gathering same (releases_so h at_start not_begun no_tables (held_hidden μ members (states_are members.states.value) G) (itself (unborn (is_closure (alike_itself _) N))))

    pub open_releasing_fails : (t : Term) (f : Fault) → BuildsPlan μ.plan (NReleasing s) t → (x : Data) (e : Environment) → ReleasedMade e (Err f) → Opens μ t e x (Err f)
    open_releasing_fails t f (builds_releasing C) x e h = open_members_fails _ s.members.value x e f refl (h C)

  module _ (s : PlanEditing) where
    abbrev EditedMade : Environment → Result Gathered Fault → Type 0
    EditedMade e r = IsCodedCollection (plan_expressions μ.plan) s.members.value → AreMade s.members.value e r

    abbrev edited_by : PlanCollection → Term
    edited_by i = editing s.shown (plan_collection μ.plan s.members.value) (name_at (plan_expressions μ.plan) s.name) (pattern_of (stored_pattern (plan_expressions μ.plan) s.pattern)) (plan_collection μ.plan i)

    pub open_editing : (t : Term) (members : Gathered) (edit : Rc PlanCollection Global) (l : Rc Gathering Global) → edit.value ≡ s.edit.value → l.value ≡ GEditing (record { shown = s.shown; members = members; name = s.name; pattern = s.pattern; edit = edit }) → BuildsPlan μ.plan (NEditing s) t
        → (x : Data) (e : Environment) → EditedMade e (Ok members) → Opens μ t e x (Ok (opened.Gathering l))
    open_editing t members edit l shared same (builds_editing C) x e f = by (f C.0)
      where
        by : AreMade s.members.value e (Ok members) → Opens μ (edited_by s.edit.value) e x (Ok (opened.Gathering l))
        by (makes h G) = subst (λ i. Opens μ (edited_by i) e x (Ok (opened.Gathering l))) shared (opens_gathering same (edits_so (subst (λ i. IsCodedCollection (plan_expressions μ.plan) i) (sym shared) C.1) h refl not_begun no_tables (held_hidden μ members (states_are members.states.value) G)))

    pub open_editing_fails : (t : Term) (f : Fault) → BuildsPlan μ.plan (NEditing s) t → (x : Data) (e : Environment) → EditedMade e (Err f) → Opens μ t e x (Err f)
    open_editing_fails t f (builds_editing C) x e h = open_members_fails _ s.members.value x e f refl (h C.0)

  -- a probe keeps nothing
  pub open_probe : (r r' : Rc (String Global) Global) (t : Term) (l : Rc Live Global) → l.value ≡ LProbe r' → BuildsPlan μ.plan (NProbe r) t → r'.value ≡ r.value → (x : Data) (e : Environment) → Opens μ t e x (Ok (opened.Live l))
  open_probe r r' t l there builds_probe same x e =
      let name : string_bytes r'.value ≡ string_bytes r.value = ap (λ (s : String Global). string_bytes s) same in
      subst (λ n. Opens μ (primitive (probe n)) e x (Ok (opened.Live l))) name (opens there (ready refl not_begun lives_probe))

  -- what a term opens to stands in its state
  pub begin_live : {at : _} {t : Term} {e : Environment} {x : Data} (l : Rc Live Global) (names : Env) → IsNames μ names e → Opens μ t e x (Ok (opened.Live l)) → Prepared μ (Alive' names at l.value) (closure t e) x []
  begin_live {at} {t} {e} {x} l names N (opens same R) = subst (λ (v : Live). Prepared μ (Alive' names at v) (closure t e) x []) (sym same) (live_prepared N R)

  pub begin_gathering : {at : _} {t : Term} {e : Environment} {x : Data} (k : Rc Gathering Global) (names : Env) → IsNames μ names e → Opens μ t e x (Ok (opened.Gathering k)) → Prepared μ (Gathering' names at k.value) (closure t e) x []
  begin_gathering {at} {t} {e} {x} k names N (opens_gathering same W) = subst (λ (g : Gathering). Prepared μ (Gathering' names at g) (closure t e) x []) (sym same) (gathering_prepared N W)

  -- ## Stages

  begin_stand : (i : PlanId) (ids : List PlanId) (bs : List State) (e : Environment) → AllBegin μ e (i ∷ ids) bs → StagesStand μ bs (stages rest (plan_tree μ.plan i) (map (λ j. plan_tree μ.plan j) ids)) e []
  begin_stand i [] bs e (more_begin A none_begin) = last_stands A
  begin_stand i (j ∷ ids) bs e (more_begin A B) = stage_stands not_begun A (begin_stand j ids _ e B)

  open_pipeline : {x : Data} (ids : List PlanId) (w : Vec State Global) (l : Rc Live Global) → l.value ≡ LPipeline w → (e : Environment) → IsTrue (nat_le 2 (length ids)) → AllBegin μ e ids w.items → Opens μ (pipeline (map (λ j. plan_tree μ.plan j) ids)) e x (Ok (opened.Live l))
  open_pipeline [] w l same e two B = absurd cc
  open_pipeline (i ∷ []) w l same e two B = absurd cc
  open_pipeline (i ∷ j ∷ ids) w l same e two B = opens same (ready refl not_begun (pipeline_lives μ w (begin_stand i (j ∷ ids) w.items e B)))

  pub open_staged : {x : Data} (v : Vec PlanId Global) (t : Term) (w : Vec State Global) (l : Rc Live Global) → l.value ≡ LPipeline w → (e : Environment) → BuildsPlan μ.plan (NPipeline v) t → AllBegin μ e v.items w.items → Opens μ t e x (Ok (opened.Live l))
  open_staged v t w l same e (builds_pipeline two) B = open_pipeline v.items w l same e two B

  -- one more stage begins
  begin_push : (i : PlanId) (ids : List PlanId) (a : State) (bs : List State) (e : Environment) → AllBegin μ e ids bs → Stands μ a (closure (plan_tree μ.plan i) e) [] → AllBegin μ e (ids ++ i ∷ []) (bs ++ a ∷ [])
  begin_push i [] a bs e none_begin A = more_begin A none_begin
  begin_push i (j ∷ ids) a bs e (more_begin B C) A = more_begin B (begin_push i ids a _ e C A)

  pub begin_next : (ids : List PlanId) (k : ℕ) (names : Env) (bs cs : List State) (e : Environment) (d : PlanId) → AllBegin μ e (take k ids) bs → k < length ids → IsNames μ names e → cs ≡ bs ++ Unborn (closed_over (get_or ids k d) names) ∷ [] → AllBegin μ e (take (k + 1) ids) cs
  begin_next ids k names bs cs e d B short N same =
      let more : k + 1 ≡ suc k = omega arith in
      rw (ap (λ j. take j ids) more ∙ take-suc ids k d short, same) (begin_push _ _ _ _ e B (itself (unborn (is_closure (alike_itself _) N))))
