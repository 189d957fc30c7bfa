-- The arguments of a call, bound one after another.
use Rattle.std.proofs.Common.{◌≡◌, Bool, true, false, ◌&&◌, IsTrue, List, [], ◌∷◌, ◌++◌, map, length, append_assoc, Result, Ok, Err, refl, sym, ap, ◌∙◌, subst, arith, ◌⊎◌, inl, inr}
use Rattle.std.specs.Prelude.{IsErrAnd}
use Rattle.std.specs.declared.alloc.Global.{Global}
use Rattle.std.specs.declared.rc.Rc.{Rc}
use Rattle.std.proofs.lemmas.List.{append-nil}
use Rattle.sf_value.specs.Values.{Name, Data}
use Rattle.sf_value.specs.declared.fault.ValueFault.{ValueFault}
use Rattle.sf_value.specs.declared.fault.Fault.{Fault}
use Rattle.sf_operator.specs.declared.fault.EvalFault.{EvalFault}
use Rattle.sf_operator.specs.declared.fault.EvalFault.TheVariants.{Value as EValue, Memory as EMemory}
use Rattle.sf_operator.specs.Answers.{Evaluates}
use Rattle.sf_expr.specs.declared.exprs.ExprId.{ExprId}
use Rattle.sf_expr.specs.declared.exprs.Exprs.{Exprs}
use Rattle.sf_expr.specs.declared.exprs.NameId.{NameId}
use Rattle.sf_expr.specs.Evaluation.{Evaluated, Scope, answer, failed, ◌>>=◌, eval}
use Rattle.sf_expr.specs.Arena.{expression, name_at}
use Rattle.sf_code.specs.declared.open.OpenCode.{OpenCode}
use Rattle.sf_code.specs.Names.{scope_with}
use Rattle.sf_term.specs.declared.form.Start.{Start}
use Rattle.sf_term.specs.Parameters.{NameKind, Bindings}
use Rattle.sf_term.specs.Trees.{no_arguments}
use Rattle.sf_mean.specs.Lives.{Process, closure, Environment, empty, known, running, collected, Members, process_started, scope_around}
use Rattle.sf_mean.specs.Collections.{collect}
use Rattle.sf_mean.specs.Meaning.{argued}
use Rattle.sf_law.specs.declared.node.PlanId.{PlanId}
use Rattle.sf_law.specs.declared.node.PlanArgument.{PlanArgument}
use Rattle.sf_law.specs.declared.node.PlanArgument.TheVariants.{Value, Started, Closed, Collected}
use Rattle.sf_law.specs.declared.node.PlanCollection.{PlanCollection}
use Rattle.sf_law.specs.Headers.{ParameterHeader}
use Rattle.sf_law.specs.Places.{names_of_parameters}
use Rattle.sf_law.specs.Asking.{argument_asked, arguments_asked}
use Rattle.sf_law.specs.Arena.{plan_tree, plan_collection, plan_expressions, plan_binding, plan_arguments}
use Rattle.sf_law.proofs.Called.{argued_closed}
use Rattle.sf_state.specs.declared.state.Live.{items_hidden-the_row-State-0 as states_are}
use Rattle.sf_state.specs.declared.state.Gathered.{Gathered}
use Rattle.sf_state.proofs.Copies.{held_shown, held_hidden}
use Rattle.sf_begin.specs.Collecting.{HasMembers, MakesMembers}
use Rattle.sf_state.specs.declared.env.Env.{Env}
use Rattle.sf_state.specs.Names.{values_around}
use Rattle.sf_state.specs.declared.env.Handed.{Handed}
use Rattle.sf_state.specs.declared.env.Given.{Given}
use Rattle.sf_state.specs.declared.env.Given.TheVariants.{Value as GValue, Process as GProcess, Members as GMembers}
use Rattle.sf_state.specs.Standing.{IsNames, AreGiven, nothing_given, value_is_given, process_is_given, members_are_given, IsHanded}
use Rattle.sf_state.specs.Machine.{Machine}
use Rattle.sf_state.proofs.Scopes.{scope_is}
use Rattle.sf_begin.specs.Contexts.{sample_fault}
use Rattle.sf_begin.specs.Beginning.{Makes, makes, makes_fault, makes_nothing, GivesOne}

-- ## What goes on after an evaluation

after_answer : {A B C : Type 0} (w : Evaluated A) (f : A → B) (g : B → Evaluated C) (b : B) → (w >>= λ a. answer (f a)) ≡ answer b → (w >>= λ a. g (f a)) ≡ g b
after_answer (answer a) f g b h = let same : f a ≡ b = cc in ap g same
after_answer (failed x) f g b h = absurd cc

after_fault : {A B C : Type 0} (w : Evaluated A) (f : A → B) (g : B → Evaluated C) (x : ValueFault) → (w >>= λ a. answer (f a)) ≡ failed x → (w >>= λ a. g (f a)) ≡ failed x
after_fault (answer a) f g x h = absurd cc
after_fault (failed y) f g x h = let same : y ≡ x = cc in ap failed same

-- a `?` that passes a failure on
pub made_failure : {A B : Type 0} (stands : A → B → Type 0) (w : Evaluated B) (r : Result A Fault) (f : Fault) → IsErrAnd r (λ e. e ≡ f) → Makes stands w (Err f) → Makes stands w r
made_failure stands w (Ok a) f h m = absurd h
made_failure stands w (Err e) f h m = subst (λ (e : Fault). Makes stands w (Err e)) (sym h) m

-- what holds of two holds of each
both_true : (a b : Bool) → IsTrue (a && b) → IsTrue a × IsTrue b
both_true true b h = (refl, h)
both_true false b h = absurd cc

-- what arguments ask for, the first asks for, and those behind it
pub first_asked : (x : Exprs) (asks : Name → Bool) (q : ParameterHeader) (qs ps : List ParameterHeader) (v : PlanArgument) (vs us : List PlanArgument) → ps ≡ q ∷ qs → us ≡ v ∷ vs
    → IsTrue (arguments_asked x asks ps us) → IsTrue (argument_asked x asks (name_at x q.name) v) × IsTrue (arguments_asked x asks qs vs)
first_asked x asks q qs ps v vs us parameters arguments h =
    let both = subst (λ us. IsTrue (arguments_asked x asks (q ∷ qs) us)) arguments (subst (λ ps. IsTrue (arguments_asked x asks ps us)) parameters h) in
    both_true (argument_asked x asks (name_at x q.name) v) (arguments_asked x asks qs vs) both

module _ (μ : Machine) where
  -- ## One argument

  module _ (q : Name × NameKind) (qs : Bindings) (vs : List PlanArgument) (e d : Environment) where
    one_answer : (v : PlanArgument) (b : Environment) → argued μ.answers (q ∷ []) (plan_arguments μ.plan (v ∷ [])) e d ≡ answer b → argued μ.answers (q ∷ qs) (plan_arguments μ.plan (v ∷ vs)) e d ≡ argued μ.answers qs (plan_arguments μ.plan vs) e b
    one_answer (Value i c) b h = after_answer (eval (expression (plan_expressions μ.plan) i) (scope_around μ.answers e)) (λ v. known q.0 v d) (λ b. argued μ.answers qs (plan_arguments μ.plan vs) e b) b h
    one_answer (Started w k) b h = let same : running q.0 (process_started w (name_at (plan_expressions μ.plan) k) e) d ≡ b = cc in ap (λ b. argued μ.answers qs (plan_arguments μ.plan vs) e b) same
    one_answer (Closed a) b h =
        let is : answer (running q.0 (closure (plan_tree μ.plan a) e) d) ≡ answer b = sym (argued_closed μ.answers q [] (plan_tree μ.plan a) no_arguments e d) ∙ h in
        let same : running q.0 (closure (plan_tree μ.plan a) e) d ≡ b = cc in
        argued_closed μ.answers q qs (plan_tree μ.plan a) (plan_arguments μ.plan vs) e d ∙ ap (λ b. argued μ.answers qs (plan_arguments μ.plan vs) e b) same
    one_answer (Collected r) b h = after_answer (collect μ.answers (plan_collection μ.plan r.value) e) (λ ms. collected q.0 ms d) (λ b. argued μ.answers qs (plan_arguments μ.plan vs) e b) b h

    one_fault : (v : PlanArgument) (x : ValueFault) → argued μ.answers (q ∷ []) (plan_arguments μ.plan (v ∷ [])) e d ≡ failed x → argued μ.answers (q ∷ qs) (plan_arguments μ.plan (v ∷ vs)) e d ≡ failed x
    one_fault (Value i c) x h = after_fault (eval (expression (plan_expressions μ.plan) i) (scope_around μ.answers e)) (λ v. known q.0 v d) (λ b. argued μ.answers qs (plan_arguments μ.plan vs) e b) x h
    one_fault (Started w k) x h = absurd cc
    one_fault (Closed a) x h = let is : answer (running q.0 (closure (plan_tree μ.plan a) e) d) ≡ failed x = sym (argued_closed μ.answers q [] (plan_tree μ.plan a) no_arguments e d) ∙ h in absurd cc
    one_fault (Collected r) x h = after_fault (collect μ.answers (plan_collection μ.plan r.value) e) (λ ms. collected q.0 ms d) (λ b. argued μ.answers qs (plan_arguments μ.plan vs) e b) x h

  -- the scope around a call, as its names have it
  abbrev scope_in : Env → Scope
  scope_in names = scope_with (values_around μ.plan names) μ.answers

  module _ (q : ParameterHeader) (names : Env) where
    abbrev name : Name
    name = name_at (plan_expressions μ.plan) q.name

    pub value_given : (i : ExprId) (c : OpenCode) (v w : Data) → eval (expression (plan_expressions μ.plan) i) (scope_in names) ≡ answer v → w ≡ v → GivesOne μ q (Value i c) names (Ok (GValue w))
    value_given i c v w h same e d N =
        makes (ap (λ s. eval (expression (plan_expressions μ.plan) i) s >>= λ v. answer (known name v d)) (sym (scope_is μ names e N)) ∙ ap (λ o. o >>= λ v. answer (known name v d)) h)
        (subst (λ v. AreGiven μ (name ∷ []) (GValue w ∷ []) d (known name v d)) same (value_is_given nothing_given))

    pub value_fails : (i : ExprId) (c : OpenCode) (f : EvalFault) → Evaluates (Err f) (eval (expression (plan_expressions μ.plan) i) (scope_in names)) → GivesOne μ q (Value i c) names (Err (sample_fault f))
    value_fails i c (EValue x) h e d N =
        makes_fault (ap (λ s. eval (expression (plan_expressions μ.plan) i) s >>= λ v. answer (known name v d)) (sym (scope_is μ names e N)) ∙ ap (λ o. o >>= λ v. answer (known name v d)) h)
    value_fails i c EMemory h e d N = makes_nothing

    pub started_given : (w : Start) (k : NameId) (h : Handed) → ((e : Environment) → IsNames μ names e → IsHanded μ name h (process_started w (name_at (plan_expressions μ.plan) k) e)) → GivesOne μ q (Started w k) names (Ok (GProcess h))
    started_given w k h f e d N = let g = f e N in makes refl (process_is_given g.0 g.1 nothing_given)

    pub closed_given : (a : PlanId) (h : Handed) → ((e : Environment) → IsNames μ names e → IsHanded μ name h (closure (plan_tree μ.plan a) e)) → GivesOne μ q (Closed a) names (Ok (GProcess h))
    closed_given a h f e d N = let g = f e N in makes (argued_closed μ.answers (plan_binding μ.plan q) [] (plan_tree μ.plan a) no_arguments e d) (process_is_given g.0 g.1 nothing_given)

    module _ (r : Rc PlanCollection Global) where
      -- what its collection makes
      abbrev AreMade : Environment → Result Gathered Fault → Type 0
      AreMade e o = MakesMembers μ (collect μ.answers (plan_collection μ.plan r.value) e) o

      members_made : (l : Gathered) (e d : Environment) → AreMade e (Ok l) → Makes (λ g b. AreGiven μ (name ∷ []) (g ∷ []) d b) (argued μ.answers (plan_binding μ.plan q ∷ []) (plan_arguments μ.plan (Collected r ∷ [])) e d) (Ok (GMembers l))
      members_made l e d (makes h G) = makes (ap (λ w. w >>= λ ms. answer (collected name ms d)) h) (members_are_given (held_hidden μ l (states_are l.states.value) G) nothing_given)

      members_fail : (x : Fault) (e d : Environment) → AreMade e (Err x) → Makes (λ g b. AreGiven μ (name ∷ []) (g ∷ []) d b) (argued μ.answers (plan_binding μ.plan q ∷ []) (plan_arguments μ.plan (Collected r ∷ [])) e d) (Err x)
      members_fail x e d (makes_fault h) = makes_fault (ap (λ w. w >>= λ ms. answer (collected name ms d)) h)
      members_fail x e d makes_nothing = makes_nothing

      pub collected_given : (l : Gathered) → ((e : Environment) → IsNames μ names e → AreMade e (Ok l)) → GivesOne μ q (Collected r) names (Ok (GMembers l))
      collected_given l f e d N = members_made l e d (f e N)

      pub collected_fails : (x : Fault) → ((e : Environment) → IsNames μ names e → AreMade e (Err x)) → GivesOne μ q (Collected r) names (Err x)
      collected_fails x f e d N = members_fail x e d (f e N)

  -- a parameter that stands for what is given, inside other names
  module _ (x : Name) (bound inner : Env) where
    pub value_inside : (v : Data) → ((d : Environment) → IsNames μ bound d → IsNames μ inner (known x v d)) → (d e : Environment) → IsNames μ bound d → AreGiven μ (x ∷ []) (GValue v ∷ []) d e → IsNames μ inner e
    value_inside v f d e M (value_is_given nothing_given) = f d M

    pub process_inside : (h : Handed) → ((d : Environment) (P : Process) → IsNames μ bound d → IsHanded μ x h P → IsNames μ inner (running x P d)) → (d e : Environment) → IsNames μ bound d → AreGiven μ (x ∷ []) (GProcess h ∷ []) d e → IsNames μ inner e
    process_inside h f d e M (process_is_given {P = P} A B nothing_given) = f d P M (A, B)

    pub members_inside : (l : Gathered) → ((d : Environment) (ms : Members) → IsNames μ bound d → HasMembers μ l ms → IsNames μ inner (collected x ms d)) → (d e : Environment) → IsNames μ bound d → AreGiven μ (x ∷ []) (GMembers l ∷ []) d e → IsNames μ inner e
    members_inside l f d e M (members_are_given {ms = ms} G nothing_given) = f d ms M (held_shown μ l (states_are l.states.value) G)

  -- what is given stands before what is given after it
  given_before : (x : Name) (g : Given) (xs : List Name) (gs : List Given) (d b e : Environment) → AreGiven μ (x ∷ []) (g ∷ []) d b → AreGiven μ xs gs b e → AreGiven μ (x ∷ xs) (g ∷ gs) d e
  given_before x g xs gs d b e (value_is_given nothing_given) G = value_is_given G
  given_before x g xs gs d b e (process_is_given A B nothing_given) G = process_is_given A B G
  given_before x g xs gs d b e (members_are_given A nothing_given) G = members_are_given A G

-- The first arguments are bound: those that are left go on from the names that these stand for.
pub record Binds (μ : Machine) (qs : List ParameterHeader) (vs : List PlanArgument) (e : Environment) (ps : List ParameterHeader) (us : List PlanArgument) (bound : Env) : Type 0 where
  pub inner : Environment
  pub stand : IsNames μ bound inner
  pub rest : argued μ.answers (map (plan_binding μ.plan) qs) (plan_arguments μ.plan vs) e empty ≡ argued μ.answers (map (plan_binding μ.plan) ps) (plan_arguments μ.plan us) e inner

-- an argument that fails fails the call
given_fails : (μ : Machine) (qs : List ParameterHeader) (vs : List PlanArgument) (e : Environment) (ps ps' : List ParameterHeader) (us us' : List PlanArgument) (d : Environment) (q : ParameterHeader) (v : PlanArgument)
    → argued μ.answers (map (plan_binding μ.plan) qs) (plan_arguments μ.plan vs) e empty ≡ argued μ.answers (plan_binding μ.plan q ∷ map (plan_binding μ.plan) ps') (plan_arguments μ.plan (v ∷ us')) e d
    → (names : Env) (f : Fault) → IsNames μ names e → GivesOne μ q v names (Err f) → Makes (IsNames μ) (argued μ.answers (map (plan_binding μ.plan) qs) (plan_arguments μ.plan vs) e empty) (Err f)
given_fails μ qs vs e ps ps' us us' d q v next_is names f N g = by f (g e d N)
  where
    by : (f : Fault) → Makes (λ g b. AreGiven μ (name_at (plan_expressions μ.plan) q.name ∷ []) (g ∷ []) d b) (argued μ.answers (plan_binding μ.plan q ∷ []) (plan_arguments μ.plan (v ∷ [])) e d) (Err f)
        → Makes (IsNames μ) (argued μ.answers (map (plan_binding μ.plan) qs) (plan_arguments μ.plan vs) e empty) (Err f)
    by f (makes_fault {x = x} h) = makes_fault (next_is ∙ one_fault μ (plan_binding μ.plan q) (map (plan_binding μ.plan) ps') us' e d v x h)
    by f makes_nothing = makes_nothing

-- The same of what is given side by side.
pub record Gives (μ : Machine) (qs : List ParameterHeader) (vs : List PlanArgument) (e : Environment) (ps : List ParameterHeader) (us : List PlanArgument) (given : List Given) : Type 0 where
  pub inner : Environment
  pub long : length us ≡ length ps
  pub stand : (gs : List Given) (b : Environment) → AreGiven μ (names_of_parameters (plan_expressions μ.plan) ps) gs inner b → AreGiven μ (names_of_parameters (plan_expressions μ.plan) qs) (given ++ gs) empty b
  pub rest : argued μ.answers (map (plan_binding μ.plan) qs) (plan_arguments μ.plan vs) e empty ≡ argued μ.answers (map (plan_binding μ.plan) ps) (plan_arguments μ.plan us) e inner

module _ (μ : Machine) (qs : List ParameterHeader) (vs : List PlanArgument) (e : Environment) where
  -- ## The arguments of a call

  abbrev all_argued : Evaluated Environment
  all_argued = argued μ.answers (map (plan_binding μ.plan) qs) (plan_arguments μ.plan vs) e empty

  pub none_bound : (ps : List ParameterHeader) (us : List PlanArgument) (bound : Env) → ps ≡ qs → us ≡ vs → IsNames μ bound empty → Binds μ qs vs e ps us bound
  none_bound ps us bound parameters arguments N = record {
    inner = empty;
    stand = N;
    rest = ap (λ qs. argued μ.answers (map (plan_binding μ.plan) qs) (plan_arguments μ.plan vs) e empty) (sym parameters) ∙ ap (λ vs. argued μ.answers (map (plan_binding μ.plan) ps) (plan_arguments μ.plan vs) e empty) (sym arguments);
  }

  module _ (ps ps' : List ParameterHeader) (us us' : List PlanArgument) (bound : Env) (q : ParameterHeader) (v : PlanArgument) (parameters : ps ≡ q ∷ ps') (arguments : us ≡ v ∷ us') (B : Binds μ qs vs e ps us bound) where
    next_is : all_argued ≡ argued μ.answers (plan_binding μ.plan q ∷ map (plan_binding μ.plan) ps') (plan_arguments μ.plan (v ∷ us')) e B.inner
    next_is =
        B.rest ∙ ap (λ qs. argued μ.answers (map (plan_binding μ.plan) qs) (plan_arguments μ.plan us) e B.inner) parameters
        ∙ ap (λ vs. argued μ.answers (plan_binding μ.plan q ∷ map (plan_binding μ.plan) ps') (plan_arguments μ.plan vs) e B.inner) arguments

    pub next_bound : (names : Env) (g : Given) (inner : Env) → IsNames μ names e → GivesOne μ q v names (Ok g)
        → ((d b : Environment) → IsNames μ bound d → AreGiven μ (name_at (plan_expressions μ.plan) q.name ∷ []) (g ∷ []) d b → IsNames μ inner b) → Binds μ qs vs e ps' us' inner
    next_bound names g inner N f inside = by (f e B.inner N)
      where
        by : Makes (λ g b. AreGiven μ (name_at (plan_expressions μ.plan) q.name ∷ []) (g ∷ []) B.inner b) (argued μ.answers (plan_binding μ.plan q ∷ []) (plan_arguments μ.plan (v ∷ [])) e B.inner) (Ok g) → Binds μ qs vs e ps' us' inner
        by (makes {b = b} h G) = record { inner = b; stand = inside B.inner b B.stand G; rest = next_is ∙ one_answer μ (plan_binding μ.plan q) (map (plan_binding μ.plan) ps') us' e B.inner v b h }

    pub next_fails : (names : Env) (f : Fault) → IsNames μ names e → GivesOne μ q v names (Err f) → Makes (IsNames μ) all_argued (Err f)
    next_fails names f N g = given_fails μ qs vs e ps ps' us us' B.inner q v next_is names f N g

  -- no parameter is left, or no argument
  none_left : (ps : List ParameterHeader) (us : List PlanArgument) (d : Environment) → (length ps ≡ 0) ⊎ (length us ≡ 0) → argued μ.answers (map (plan_binding μ.plan) ps) (plan_arguments μ.plan us) e d ≡ answer d
  none_left [] us d h = refl
  none_left (q ∷ ps) [] d h = refl
  none_left (q ∷ ps) (v ∷ us) d (inl h) = absurd (omega arith)
  none_left (q ∷ ps) (v ∷ us) d (inr h) = absurd (omega arith)

  pub all_bound : (ps : List ParameterHeader) (us : List PlanArgument) (bound : Env) → Binds μ qs vs e ps us bound → (length ps ≡ 0) ⊎ (length us ≡ 0) → Makes (IsNames μ) all_argued (Ok bound)
  all_bound ps us bound B left = makes (B.rest ∙ none_left ps us B.inner left) B.stand

  -- ## The same, side by side

  pub none_given : (ps : List ParameterHeader) (us : List PlanArgument) (given : List Given) → ps ≡ qs → us ≡ vs → length vs ≡ length qs → given ≡ [] → Gives μ qs vs e ps us given
  none_given ps us given parameters arguments long nothing = record {
    inner = empty;
    long = ap length arguments ∙ long ∙ ap length (sym parameters);
    stand = λ gs b G. subst (λ hs. AreGiven μ (names_of_parameters (plan_expressions μ.plan) qs) (hs ++ gs) empty b) (sym nothing) (subst (λ qs. AreGiven μ (names_of_parameters (plan_expressions μ.plan) qs) gs empty b) parameters G);
    rest = ap (λ qs. argued μ.answers (map (plan_binding μ.plan) qs) (plan_arguments μ.plan vs) e empty) (sym parameters) ∙ ap (λ vs. argued μ.answers (map (plan_binding μ.plan) ps) (plan_arguments μ.plan vs) e empty) (sym arguments);
  }

  module _ (ps ps' : List ParameterHeader) (us us' : List PlanArgument) (given : List Given) (q : ParameterHeader) (v : PlanArgument) (parameters : ps ≡ q ∷ ps') (arguments : us ≡ v ∷ us') (B : Gives μ qs vs e ps us given) where
    given_next : all_argued ≡ argued μ.answers (plan_binding μ.plan q ∷ map (plan_binding μ.plan) ps') (plan_arguments μ.plan (v ∷ us')) e B.inner
    given_next =
        B.rest ∙ ap (λ qs. argued μ.answers (map (plan_binding μ.plan) qs) (plan_arguments μ.plan us) e B.inner) parameters
        ∙ ap (λ vs. argued μ.answers (plan_binding μ.plan q ∷ map (plan_binding μ.plan) ps') (plan_arguments μ.plan vs) e B.inner) arguments

    pub next_given : (names : Env) (g : Given) (more : List Given) → IsNames μ names e → GivesOne μ q v names (Ok g) → more ≡ given ++ g ∷ [] → Gives μ qs vs e ps' us' more
    next_given names g more N f put = by (f e B.inner N)
      where
        by : Makes (λ g b. AreGiven μ (name_at (plan_expressions μ.plan) q.name ∷ []) (g ∷ []) B.inner b) (argued μ.answers (plan_binding μ.plan q ∷ []) (plan_arguments μ.plan (v ∷ [])) e B.inner) (Ok g) → Gives μ qs vs e ps' us' more
        by (makes {b = b} h G) = record {
          inner = b;
          long = let here : length (v ∷ us') ≡ length (q ∷ ps') = ap length (sym arguments) ∙ B.long ∙ ap length parameters in omega (arith, here);
          stand = λ gs a H.
              let first = subst (λ ps. AreGiven μ (names_of_parameters (plan_expressions μ.plan) ps) (g ∷ gs) B.inner a) (sym parameters) (given_before μ (name_at (plan_expressions μ.plan) q.name) g (names_of_parameters (plan_expressions μ.plan) ps') gs B.inner b a G H) in
              subst (λ hs. AreGiven μ (names_of_parameters (plan_expressions μ.plan) qs) hs empty a) (sym (ap (λ hs. hs ++ gs) put ∙ append_assoc given (g ∷ []) gs)) (B.stand (g ∷ gs) a first);
          rest = given_next ∙ one_answer μ (plan_binding μ.plan q) (map (plan_binding μ.plan) ps') us' e B.inner v b h;
        }

    pub next_not_given : (names : Env) (f : Fault) → IsNames μ names e → GivesOne μ q v names (Err f) → Makes (IsNames μ) all_argued (Err f)
    next_not_given names f N g = given_fails μ qs vs e ps ps' us us' B.inner q v given_next names f N g

  pub all_given : (ps : List ParameterHeader) (us : List PlanArgument) (given : List Given) (bound : Env) → Gives μ qs vs e ps us given → (length ps ≡ 0) ⊎ (length us ≡ 0)
      → ((b : Environment) → AreGiven μ (names_of_parameters (plan_expressions μ.plan) qs) given empty b → IsNames μ bound b) → Makes (IsNames μ) all_argued (Ok bound)
  all_given [] [] given bound B left stands = makes (B.rest) (stands B.inner (subst (λ hs. AreGiven μ (names_of_parameters (plan_expressions μ.plan) qs) hs empty B.inner) (append-nil given) (B.stand [] B.inner nothing_given)))
  all_given [] (v ∷ us) given bound B left stands = let long = B.long in absurd (omega (arith, long))
  all_given (q ∷ ps) [] given bound B left stands = let long = B.long in absurd (omega (arith, long))
  all_given (q ∷ ps) (v ∷ us) given bound B (inl h) stands = absurd (omega arith)
  all_given (q ∷ ps) (v ∷ us) given bound B (inr h) stands = absurd (omega arith)
