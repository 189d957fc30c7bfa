-- The names around a part are those of its environment.
use Rattle.std.proofs.Common.{◌≡◌, ℕ, suc, Bool, true, false, cond, List, [], ◌∷◌, Option, Some, None, IsTrue, refl, ap, sym, ◌∙◌, subst}
use Rattle.std.specs.Prelude.{bytes_eq}
use Rattle.std.specs.List.{slice_get}
use Rattle.std.proofs.lemmas.Slice.Eq.{bytes_eq-Decides}
use Rattle.std.specs.declared.alloc.Global.{Global}
use Rattle.std.specs.declared.rc.Rc.{Rc}
use Rattle.sf_value.specs.Values.{Name, Data, first_of, second_of}
use Rattle.sf_func.specs.Registries.{AnswersByName}
use Rattle.sf_expr.specs.Expressions.{Pattern, unnamed, named, both}
use Rattle.sf_expr.specs.Evaluation.{scope_functions, value_name, other_name, bound_in}
use Rattle.sf_expr.specs.Meanings.{place_behind}
use Rattle.sf_expr.specs.Numbered.{TellsName}
use Rattle.sf_expr.specs.declared.exprs.numbers.NumberedPattern.TheVariants.{Unnamed}
use Rattle.sf_expr.specs.Patterns.{pattern_of}
use Rattle.sf_expr.specs.declared.exprs.NameId.{NameId}
use Rattle.sf_expr.specs.declared.exprs.PatternId.{PatternId}
use Rattle.sf_expr.specs.Arena.{name_at, stored_pattern}
use Rattle.sf_code.specs.Names.{ValuesByName, value_named, scope_with}
use Rattle.sf_mean.specs.Lives.{Process, base, Environment, empty, known, running, collected, Members, no_members, bind, passing, process_of, members_of, scope_around}
use Rattle.sf_law.specs.declared.node.PlanId.{PlanId}
use Rattle.sf_law.specs.declared.plan.Plan.{Plan}
use Rattle.sf_law.specs.Arena.{plan_expressions, plan_asks, header_at}
use Rattle.sf_law.specs.Places.{names_of_parameters, last_parameter}
use Rattle.sf_state.specs.declared.state.State.{State}
use Rattle.sf_state.specs.declared.state.Live.{items-the_row-State, items_hidden-the_row-State-0 as states_are}
use Rattle.sf_state.specs.declared.state.Gathered.{Gathered}
use Rattle.sf_value.specs.declared.keys.Keys.{Keys}
use Rattle.sf_state.specs.Held.{Holding, held_as, gathered_holding}
use Rattle.sf_state.proofs.Copies.{held_shown, held_hidden}
use Rattle.sf_state.specs.declared.env.Env.{Env}
use Rattle.sf_state.specs.declared.env.Env.TheVariants.{Bound', Running', Collected as ECollected, Called as ECalled}
use Rattle.sf_state.specs.declared.env.Call.{Call, items-the_row-Given, items_hidden-the_row-Given-1}
use Rattle.sf_state.specs.declared.env.Handed.{Handed}
use Rattle.sf_state.specs.declared.env.Given.{Given}
use Rattle.sf_state.specs.declared.env.Given.TheVariants.{Value as GValue, Process' as GProcess', Members as GMembers, Members' as GMembers'}
use Rattle.sf_state.specs.declared.env.Binding.{Binding}
use Rattle.sf_state.specs.declared.env.Running.{Running}
use Rattle.sf_state.specs.declared.env.Collected.{Collected}
use Rattle.sf_state.specs.declared.state.Process as process_states
use Rattle.sf_state.specs.Names.{given_value, handed_of, given_members, given_at, values_given, values_inside, values_around}
use Rattle.sf_state.specs.Standing.{IsNames, is_empty, is_bound, is_running, is_collected, is_called, closed_over, IsProcess, Stands, AreGiven, nothing_given, value_is_given, process_is_given, members_are_given, Gathers, AreFound, IsHanded, IsFound}
use Rattle.sf_state.specs.Machine.{Machine}

-- a pattern that its numbers show to bind nothing is the one that binds nothing
pub nothing_told : (m : ℕ) (x : Name) (p : Pattern) → TellsName m x Unnamed p → p ≡ unnamed
nothing_told m x unnamed h = refl
nothing_told m x (named y) h = absurd h
nothing_told m x (both p q) h = absurd h

pub functions_around : (φ : AnswersByName) (e : Environment) → scope_functions (scope_around φ e) ≡ φ
functions_around φ empty = refl
functions_around φ (known x d e) = functions_around φ e
functions_around φ (running x P e) = functions_around φ e
functions_around φ (collected x ms e) = functions_around φ e

-- the scope inside a pattern
values_bound : (φ : AnswersByName) (q : Pattern) (d : Data) (vs : ValuesByName) → scope_with (values_inside q d vs) φ ≡ bound_in q d (scope_with vs φ)
values_bound φ unnamed d vs = refl
values_bound φ (named x) d vs = refl
values_bound φ (both p q) d vs = values_bound φ q (second_of d) (values_inside p (first_of d) vs) ∙ ap (bound_in q (second_of d)) (values_bound φ p (first_of d) vs)

environment_bound : (φ : AnswersByName) (q : Pattern) (d : Data) (e : Environment) → scope_around φ (bind q d e) ≡ bound_in q d (scope_around φ e)
environment_bound φ unnamed d e = refl
environment_bound φ (named x) d e = refl
environment_bound φ (both p q) d e = environment_bound φ q (second_of d) (bind p (first_of d) e) ∙ ap (bound_in q (second_of d)) (environment_bound φ p (first_of d) e)

-- the scope of the values that are given
scope_given : (μ : Machine) (xs : List Name) (gs : List Given) (d e : Environment) → AreGiven μ xs gs d e → (vs : ValuesByName) → scope_with vs μ.answers ≡ scope_around μ.answers d → scope_with (values_given xs gs vs) μ.answers ≡ scope_around μ.answers e
scope_given μ xs gs d e nothing_given vs h = h
scope_given μ xs gs d e (value_is_given {x = x} {xs = ys} {v = v} {gs = hs} {d = b} G) vs h = scope_given μ ys hs (known x v b) e G ((x, Some v) ∷ vs) (ap (value_name x v) h)
scope_given μ xs gs d e (process_is_given {x = x} {xs = ys} {gs = hs} {P = P} {d = b} A B G) vs h = scope_given μ ys hs (running x P b) e G ((x, None) ∷ vs) (ap (other_name x) h)
scope_given μ xs gs d e (members_are_given {x = x} {xs = ys} {gs = hs} {ms = ms} {d = b} A G) vs h = scope_given μ ys hs (collected x ms b) e G ((x, None) ∷ vs) (ap (other_name x) h)

-- the scope of the values is that of the environment
pub scope_is : (μ : Machine) (names : Env) (e : Environment) → IsNames μ names e → scope_with (values_around μ.plan names) μ.answers ≡ scope_around μ.answers e
scope_is μ names e is_empty = refl
scope_is μ names e (is_bound {q = i} {v = v} {names = outer} {e = around} N) =
    let q = pattern_of (stored_pattern (plan_expressions μ.plan) i) in
    values_bound μ.answers q v (values_around μ.plan outer)
    ∙ ap (bound_in q v) (scope_is μ outer around N)
    ∙ sym (environment_bound μ.answers q v around)
scope_is μ names e (is_running {k = k} {names = outer} {e = around} A B N) = ap (other_name (name_at (plan_expressions μ.plan) k)) (scope_is μ outer around N)
scope_is μ names e (is_collected {k = k} {names = outer} {e = around} G N) = ap (other_name (name_at (plan_expressions μ.plan) k)) (scope_is μ outer around N)
scope_is μ names e (is_called {g = g} {row = row} G) = scope_given μ (names_of_parameters (plan_expressions μ.plan) (header_at μ.plan g).parameters) (items-the_row-Given _ row) empty e G [] refl

-- what stands behind a value under the same name
hidden_by : {A : Type 0} → A → Option Data → A → A
hidden_by none (Some d) a = none
hidden_by none None a = a

-- What stands under a name, as a process or as members, which a value of the same name hides.
module _ {A : Type 0} (none : A) (x : Name) (under : Environment → A) (hides : (y : Name) (d : Data) (e : Environment) → under (known y d e) ≡ cond (bytes_eq x y) none (under e)) where
  -- a value of a pattern hides it
  under_bound : (q : Pattern) (d : Data) (vs : ValuesByName) (e : Environment) (a : A) → under e ≡ hidden_by none (value_named vs x) a → under (bind q d e) ≡ hidden_by none (value_named (values_inside q d vs) x) a
  unfolding hidden_by
  under_bound unnamed d vs e a h = h
  under_bound (named y) d vs e a h = hides y d e ∙ by_test (bytes_eq x y)
    where
      by_test : (b : Bool) → cond b none (under e) ≡ hidden_by none (cond b (Some d) (value_named vs x)) a
      by_test true = refl
      by_test false = h
  under_bound (both p q) d vs e a h = under_bound q (second_of d) (values_inside p (first_of d) vs) (bind p (first_of d) e) a (under_bound p (first_of d) vs e a h)

  under_inside : (q : Pattern) (d : Data) (e : Environment) → under (bind q d e) ≡ hidden_by none (value_named (values_inside q d []) x) (under e)
  unfolding hidden_by
  under_inside q d e = under_bound q d [] e (under e) refl

  module _ (μ : Machine) where
    -- none stands under a name of a pattern
    under_value : {at : _} (i : PatternId) (v : Data) (names : Env) (d : Data) (e : Environment) → value_named (values_inside (pattern_of (stored_pattern (plan_expressions μ.plan) i)) v []) x ≡ Some d
        → IsNames μ (Bound' at i v names) e → under e ≡ none
    unfolding hidden_by
    under_value i v names d e h (is_bound {e = around} N) = under_inside (pattern_of (stored_pattern (plan_expressions μ.plan) i)) v around ∙ ap (λ o. hidden_by none o (under around)) h

    -- behind a pattern without the name stands what stands around it
    under_pattern : {at : _} (C : A → Type 0) (i : PatternId) (v : Data) (names : Env) (e : Environment) → value_named (values_inside (pattern_of (stored_pattern (plan_expressions μ.plan) i)) v []) x ≡ None
        → ((e : Environment) → IsNames μ names e → C (under e)) → IsNames μ (Bound' at i v names) e → C (under e)
    unfolding hidden_by
    under_pattern C i v names e h outside (is_bound {e = around} N) =
        subst C (sym (under_inside (pattern_of (stored_pattern (plan_expressions μ.plan) i)) v around ∙ ap (λ o. hidden_by none o (under around)) h)) (outside around N)

module _ (μ : Machine) where
  -- the part of a value under a name of a pattern, if there is one
  abbrev pub part_of : PatternId → Data → Name → Option Data
  part_of i d x = value_named (values_inside (pattern_of (stored_pattern (plan_expressions μ.plan) i)) d []) x

  -- no process and no members stand under a name of a pattern
  pub found_value : {at : _} (x : Name) (i : PatternId) (v : Data) (names : Env) (d : Data) (e : Environment) → part_of i v x ≡ Some d → IsNames μ (Bound' at i v names) e → process_of x e ≡ passing
  found_value x = under_value passing x (process_of x) (λ y d e. refl) μ

  pub members_value : {at : _} (x : Name) (i : PatternId) (v : Data) (names : Env) (d : Data) (e : Environment) → part_of i v x ≡ Some d → IsNames μ (Bound' at i v names) e → members_of x e ≡ no_members
  members_value x = under_value no_members x (members_of x) (λ y d e. refl) μ

  -- behind a pattern without a name stands what stands around it
  pub found_outside : {at : _} (x : Name) (i : PatternId) (v : Data) (names : Env) (found : Option Handed) (e : Environment) → part_of i v x ≡ None
      → ((e : Environment) → IsNames μ names e → IsFound μ x found (process_of x e)) → IsNames μ (Bound' at i v names) e → IsFound μ x found (process_of x e)
  found_outside x i v names found = under_pattern passing x (process_of x) (λ y d e. refl) μ (IsFound μ x found) i v names

  pub members_outside : {at : _} (x : Name) (i : PatternId) (v : Data) (names : Env) (found : Option Holding) (e : Environment) → part_of i v x ≡ None
      → ((e : Environment) → IsNames μ names e → AreFound μ found (members_of x e)) → IsNames μ (Bound' at i v names) e → AreFound μ found (members_of x e)
  members_outside x i v names found = under_pattern no_members x (members_of x) (λ y d e. refl) μ (AreFound μ found) i v names

  -- under its name stands a process
  pub found_there : {at : _} (x : Name) (r : Running) (e : Environment) → bytes_eq x (name_at (plan_expressions μ.plan) r.name) ≡ true
      → IsNames μ (Running' at r.name r.handed.process r.handed.base.term r.handed.base.names r.around) e → IsFound μ x (Some r.handed) (process_of x e)
  found_there x r e h (is_running {P = P} {e = around} A B N) =
      let same : x ≡ name_at (plan_expressions μ.plan) r.name = (bytes_eq-Decides x (name_at (plan_expressions μ.plan) r.name)).0 h in
      subst (λ c. IsFound μ x (Some r.handed) (cond c P (process_of x around))) (sym h) (A, λ asked. B (subst (λ y. IsTrue (plan_asks μ.plan y)) same asked))

  -- behind a process of another name
  pub found_further : {at : _} (x : Name) (k : NameId) (a : State) (b : process_states.Process) (names : Env) (found : Option Handed) (e : Environment) → bytes_eq x (name_at (plan_expressions μ.plan) k) ≡ false
      → ((e : Environment) → IsNames μ names e → IsFound μ x found (process_of x e)) → IsNames μ (Running' at k a b.term b.names names) e → IsFound μ x found (process_of x e)
  found_further x k a b names found e h outside (is_running {P = P} {e = around} A B N) = subst (λ c. IsFound μ x found (cond c P (process_of x around))) (sym h) (outside around N)

  -- ## Under the name of members

  pub collected_is : (r : Rc Collected Global) {ms : Members} {e : Environment} → Gathers μ (gathered_holding r.value.members) ms [] → IsNames μ r.value.around e → IsNames μ (ECollected r) (collected (name_at (plan_expressions μ.plan) r.value.name) ms e)
  collected_is r G N = is_collected (held_hidden μ r.value.members (states_are r.value.members.states.value) G) N

  -- what holds of all environments with such members holds of theirs
  pub collected_holds : (r : Rc Collected Global) (C : Environment → Type 0) → ((e : Environment) (ms : Members) → Gathers μ (gathered_holding r.value.members) ms [] → IsNames μ r.value.around e → C (collected (name_at (plan_expressions μ.plan) r.value.name) ms e))
      → (e : Environment) → IsNames μ (ECollected r) e → C e
  collected_holds r C h e (is_collected {ms = ms} {e = around} G N) = h around ms (held_shown μ r.value.members (states_are r.value.members.states.value) G) N

  -- no process stands there
  pub found_members : (x : Name) (r : Rc Collected Global) (e : Environment) → bytes_eq x (name_at (plan_expressions μ.plan) r.value.name) ≡ true → IsNames μ (ECollected r) e → process_of x e ≡ passing
  found_members x r e h N = collected_holds r (λ e. process_of x e ≡ passing) (λ d ms G M. ap (λ c. cond c passing (process_of x d)) h) e N

  -- behind members of another name
  pub found_behind : (x : Name) (r : Rc Collected Global) (found : Option Handed) (e : Environment) → bytes_eq x (name_at (plan_expressions μ.plan) r.value.name) ≡ false
      → ((e : Environment) → IsNames μ r.value.around e → IsFound μ x found (process_of x e)) → IsNames μ (ECollected r) e → IsFound μ x found (process_of x e)
  found_behind x r found e h outside N =
      collected_holds r (λ e. IsFound μ x found (process_of x e)) (λ d ms G M. subst (λ c. IsFound μ x found (cond c passing (process_of x d))) (sym h) (outside d M)) e N

  -- under their name stand members
  pub members_there : (x : Name) (r : Rc Collected Global) (e : Environment) → bytes_eq x (name_at (plan_expressions μ.plan) r.value.name) ≡ true
      → IsNames μ (ECollected r) e → AreFound μ (Some (gathered_holding r.value.members)) (members_of x e)
  members_there x r e h N =
      let found : Option Holding = Some (gathered_holding r.value.members) in
      collected_holds r (λ e. AreFound μ found (members_of x e)) (λ d ms G M. subst (λ b. AreFound μ found (cond b ms (members_of x d))) (sym h) G) e N

  -- behind members of another name
  pub members_further : (x : Name) (r : Rc Collected Global) (found : Option Holding) (e : Environment) → bytes_eq x (name_at (plan_expressions μ.plan) r.value.name) ≡ false
      → ((e : Environment) → IsNames μ r.value.around e → AreFound μ found (members_of x e)) → IsNames μ (ECollected r) e → AreFound μ found (members_of x e)
  members_further x r found e h outside N =
      collected_holds r (λ e. AreFound μ found (members_of x e)) (λ d ms G M. subst (λ c. AreFound μ found (cond c ms (members_of x d))) (sym h) (outside d M)) e N

  -- under the name of a process stand no members
  pub members_process : {at : _} (x : Name) (k : NameId) (a : State) (b : process_states.Process) (names : Env) (e : Environment) → bytes_eq x (name_at (plan_expressions μ.plan) k) ≡ true → IsNames μ (Running' at k a b.term b.names names) e → members_of x e ≡ no_members
  members_process x k a b names e h (is_running {e = around} A B N) = ap (λ c. cond c no_members (members_of x around)) h

  -- behind a process of another name
  pub members_behind : {at : _} (x : Name) (k : NameId) (a : State) (b : process_states.Process) (names : Env) (found : Option Holding) (e : Environment) → bytes_eq x (name_at (plan_expressions μ.plan) k) ≡ false
      → ((e : Environment) → IsNames μ names e → AreFound μ found (members_of x e)) → IsNames μ (Running' at k a b.term b.names names) e → AreFound μ found (members_of x e)
  members_behind x k a b names found e h outside (is_running {e = around} A B N) = subst (λ c. AreFound μ found (cond c no_members (members_of x around))) (sym h) (outside around N)

  -- the same names under another pointer
  names_moved : {at at' : _} {b : Binding} {e : Environment} → IsNames μ (Bound' at b.pattern b.value b.around) e → IsNames μ (Bound' at' b.pattern b.value b.around) e
  names_moved (is_bound N) = is_bound N

  pub names_follow : {at at' : _} (b c : Binding) → c ≡ b → (e : Environment) → IsNames μ (Bound' at b.pattern b.value b.around) e → IsNames μ (Bound' at' c.pattern c.value c.around) e
  names_follow {at' = at'} b c same e N = subst (λ (c : Binding). IsNames μ (Bound' at' c.pattern c.value c.around) e) (sym same) (names_moved N)

  running_moved : {at at' : _} {b : Running} {e : Environment} → IsNames μ (Running' at b.name b.handed.process b.handed.base.term b.handed.base.names b.around) e → IsNames μ (Running' at' b.name b.handed.process b.handed.base.term b.handed.base.names b.around) e
  running_moved (is_running A B N) = is_running A B N

  pub running_follows : {at at' : _} (b c : Running) → c ≡ b → (e : Environment) → IsNames μ (Running' at b.name b.handed.process b.handed.base.term b.handed.base.names b.around) e → IsNames μ (Running' at' c.name c.handed.process c.handed.base.term c.handed.base.names c.around) e
  running_follows {at' = at'} b c same e N = subst (λ (c : Running). IsNames μ (Running' at' c.name c.handed.process c.handed.base.term c.handed.base.names c.around) e) (sym same) (running_moved N)

  -- and of members
  pub names_collected_inside : (b : Collected) (c : Rc Collected Global) → c.value ≡ b → (e : Environment) (ms : Members) → IsNames μ b.around e → Gathers μ (gathered_holding b.members) ms [] → IsNames μ (ECollected c) (collected (name_at (plan_expressions μ.plan) b.name) ms e)
  names_collected_inside b c same e ms =
      let C : Collected → Type 0 = λ b. IsNames μ b.around e → Gathers μ (gathered_holding b.members) ms [] → IsNames μ (ECollected c) (collected (name_at (plan_expressions μ.plan) b.name) ms e) in
      subst C same (λ N G. collected_is c G N)

  pub collected_follows : (b c : Rc Collected Global) → c.value ≡ b.value → (e : Environment) → IsNames μ (ECollected b) e → IsNames μ (ECollected c) e
  collected_follows b c same e N = collected_holds b (λ e. IsNames μ (ECollected c) e) (λ d ms G M. names_collected_inside b.value c same d ms M G) e N

  -- a pattern's names around a part, once they are bound
  pub names_bound_inside : {at : _} (b c : Binding) → c ≡ b → (d : Data) → b.value ≡ d → (e : Environment) → IsNames μ b.around e → IsNames μ (Bound' at c.pattern c.value c.around) (bind (pattern_of (stored_pattern (plan_expressions μ.plan) b.pattern)) d e)
  names_bound_inside {at} b c same d value e N =
      let q = pattern_of (stored_pattern (plan_expressions μ.plan) b.pattern) in
      subst (λ (d : Data). IsNames μ (Bound' at c.pattern c.value c.around) (bind q d e)) value
      (subst (λ (c : Binding). IsNames μ (Bound' at c.pattern c.value c.around) (bind q b.value e)) (sym same) (is_bound N))

  -- the same of a process under its name
  pub names_running_inside : {at : _} (b c : Running) → c ≡ b → (e : Environment) (P : Process) → IsNames μ b.around e → IsHanded μ (name_at (plan_expressions μ.plan) b.name) b.handed P → IsNames μ (Running' at c.name c.handed.process c.handed.base.term c.handed.base.names c.around) (running (name_at (plan_expressions μ.plan) b.name) P e)
  names_running_inside {at} b c same e P N H = subst (λ (c : Running). IsNames μ (Running' at c.name c.handed.process c.handed.base.term c.handed.base.names c.around) (running (name_at (plan_expressions μ.plan) b.name) P e)) (sym same) (is_running H.0 H.1 N)

-- ## What is given side by side

module _ (x : Name) where
  -- what the value of a name is, that of its last place or else another
  abbrev value_found : Option ℕ → List Given → Option Data → Option Data
  value_found None gs o = o
  value_found (Some i) gs o = given_value (slice_get gs i)

  value_placed : (xs : List Name) (gs : List Given) (vs : ValuesByName) → value_named (values_given xs gs vs) x ≡ value_found (last_parameter x xs) gs (value_named vs x)
  value_placed [] gs vs = refl
  value_placed (y ∷ ys) [] vs = value_placed ys [] ((y, None) ∷ vs) ∙ each (bytes_eq x y) (last_parameter x ys)
    where
      each : (b : Bool) (o : Option ℕ) → value_found o [] (cond b None (value_named vs x)) ≡ value_found (place_behind b o) [] (value_named vs x)
      each true None = refl
      each false None = refl
      each b (Some i) = refl
  value_placed (y ∷ ys) (g ∷ gs) vs = value_placed ys gs ((y, given_value (Some g)) ∷ vs) ∙ each (bytes_eq x y) (last_parameter x ys)
    where
      each : (b : Bool) (o : Option ℕ) → value_found o gs (cond b (given_value (Some g)) (value_named vs x)) ≡ value_found (place_behind b o) (g ∷ gs) (value_named vs x)
      each true None = refl
      each false None = refl
      each b (Some i) = refl

  -- the value of a name is what is given at its last place
  pub value_of_place : (xs : List Name) (gs : List Given) → given_value (given_at (last_parameter x xs) gs) ≡ value_named (values_given xs gs []) x
  value_of_place xs gs = each (last_parameter x xs) ∙ sym (value_placed xs gs [])
    where
      each : (o : Option ℕ) → given_value (given_at o gs) ≡ value_found o gs None
      each None = refl
      each (Some i) = refl

-- what stands under a name after one that is given: where it is given further, the same as before
given_past : {A : Type 0} (c : Bool) (o : Option ℕ) (own around last : A) → place_behind c o ≡ None → (o ≡ None → last ≡ cond c own around) → last ≡ around
given_past true None own around last h past = absurd cc
given_past false None own around last h past = past refl
given_past c (Some i) own around last h past = absurd cc

-- at the last place of the name stands what is given there
given_there : {A : Type 0} (C : Option Given → A → Type 0) (g : Given) (gs : List Given) (c : Bool) (o : Option ℕ) (i : ℕ) (own around last : A) → place_behind c o ≡ Some i → (c ≡ true → C (Some g) own)
    → (o ≡ None → last ≡ cond c own around) → ((j : ℕ) → o ≡ Some j → C (slice_get gs j) last) → C (slice_get (g ∷ gs) i) last
given_there C g gs true None i own around last h there past rest = let z : 0 ≡ i = cc in subst (λ k. C (slice_get (g ∷ gs) k) last) z (subst (C (Some g)) (sym (past refl)) (there refl))
given_there C g gs false None i own around last h there past rest = absurd cc
given_there C g gs c (Some j) i own around last h there past rest = let z : suc j ≡ i = cc in subst (λ k. C (slice_get (g ∷ gs) k) last) z (rest j refl)

-- What stands under a name inside what is given, as a process or as members: a process stands there as one thing, members as
-- another, a value as none.
module _ (μ : Machine) (x : Name) {A : Type 0} (none : A) (of_process : Process → A) (of_members : Members → A) (under : Environment → A)
    (C : Option Given → A → Type 0)
    (at_value : (y : Name) (d : Data) (e : Environment) → under (known y d e) ≡ cond (bytes_eq x y) none (under e))
    (at_process : (y : Name) (P : Process) (e : Environment) → under (running y P e) ≡ cond (bytes_eq x y) (of_process P) (under e))
    (at_members : (y : Name) (ms : Members) (e : Environment) → under (collected y ms e) ≡ cond (bytes_eq x y) (of_members ms) (under e)) where
  -- a name that has no place stands for what it stood for
  under_past : (xs : List Name) (gs : List Given) (d e : Environment) → AreGiven μ xs gs d e → last_parameter x xs ≡ None → under e ≡ under d
  under_past xs gs d e nothing_given h = refl
  under_past xs gs d e (value_is_given {x = y} {xs = ys} {v = v} {gs = hs} {d = b} G) h =
      given_past (bytes_eq x y) (last_parameter x ys) none (under b) (under e) h (λ n. under_past ys hs (known y v b) e G n ∙ at_value y v b)
  under_past xs gs d e (process_is_given {x = y} {xs = ys} {gs = hs} {P = P} {d = b} A B G) h =
      given_past (bytes_eq x y) (last_parameter x ys) (of_process P) (under b) (under e) h (λ n. under_past ys hs (running y P b) e G n ∙ at_process y P b)
  under_past xs gs d e (members_are_given {x = y} {xs = ys} {gs = hs} {ms = ms} {d = b} M G) h =
      given_past (bytes_eq x y) (last_parameter x ys) (of_members ms) (under b) (under e) h (λ n. under_past ys hs (collected y ms b) e G n ∙ at_members y ms b)

  module _ (value_is : (v : Data) → C (Some (GValue v)) none)
      (process_is : (y : Name) (a : State) (b : PlanId) (inner : Env) (P : Process) → x ≡ y → Stands μ a P [] → (IsTrue (plan_asks μ.plan y) → IsProcess μ (closed_over b inner) (base P)) → C (Some (GProcess' a b inner)) (of_process P))
      (members_are : (keys : Rc Keys Global) (list shape row : _) (w : Option ℕ) (ms : Members) → Gathers μ (held_as keys (items-the_row-State _ row) w) ms [] → C (Some (GMembers' keys list shape row w)) (of_members ms)) where
    -- one that has stands for what is given there
    under_placed : (xs : List Name) (gs : List Given) (d e : Environment) (i : ℕ) → AreGiven μ xs gs d e → last_parameter x xs ≡ Some i → C (slice_get gs i) (under e)
    under_placed xs gs d e i nothing_given h = absurd cc
    under_placed xs gs d e i (value_is_given {x = y} {xs = ys} {v = v} {gs = hs} {d = b} G) h =
        given_there C (GValue v) hs (bytes_eq x y) (last_parameter x ys) i none (under b) (under e) h (λ same. value_is v)
        (λ n. under_past ys hs (known y v b) e G n ∙ at_value y v b) (λ j. under_placed ys hs (known y v b) e j G)
    under_placed xs gs d e i (process_is_given {x = y} {xs = ys} {a = a} {b = t} {inner = inner} {gs = hs} {P = P} {d = b} A B G) h =
        given_there C (GProcess' a t inner) hs (bytes_eq x y) (last_parameter x ys) i (of_process P) (under b) (under e) h (λ same. process_is y a t inner P ((bytes_eq-Decides x y).0 same) A B)
        (λ n. under_past ys hs (running y P b) e G n ∙ at_process y P b) (λ j. under_placed ys hs (running y P b) e j G)
    under_placed xs gs d e i (members_are_given {x = y} {xs = ys} {keys = keys} {list = list} {shape = shape} {row = row} {w = w} {gs = hs} {ms = ms} {d = b} M G) h =
        given_there C (GMembers' keys list shape row w) hs (bytes_eq x y) (last_parameter x ys) i (of_members ms) (under b) (under e) h (λ same. members_are keys list shape row w ms M)
        (λ n. under_past ys hs (collected y ms b) e G n ∙ at_members y ms b) (λ j. under_placed ys hs (collected y ms b) e j G)

    -- a name stands for what is given at its last place
    under_place : (xs : List Name) (gs : List Given) (e : Environment) → C None (under empty) → AreGiven μ xs gs empty e → C (given_at (last_parameter x xs) gs) (under e)
    under_place xs gs e without G = each (last_parameter x xs) (under_past xs gs empty e G) (λ i. under_placed xs gs empty e i G)
      where
        each : (o : Option ℕ) → (o ≡ None → under e ≡ under empty) → ((i : ℕ) → o ≡ Some i → C (slice_get gs i) (under e)) → C (given_at o gs) (under e)
        each None past there = subst (C None) (sym (past refl)) without
        each (Some i) past there = there i refl

module _ (μ : Machine) (x : Name) where
  -- the process of a name is the one that is given at its last place
  pub process_of_place : (xs : List Name) (gs : List Given) (e : Environment) → AreGiven μ xs gs empty e → IsFound μ x (handed_of (given_at (last_parameter x xs) gs)) (process_of x e)
  process_of_place xs gs e G =
      under_place μ x passing (λ P. P) (λ ms. passing) (process_of x) (λ o P. IsFound μ x (handed_of o) P) (λ y d e. refl) (λ y P e. refl) (λ y ms e. refl)
      (λ v. refl) (λ y a b inner P same A B. (A, λ asked. B (subst (λ k. IsTrue (plan_asks μ.plan k)) same asked))) (λ keys list shape row w ms M. refl) xs gs e refl G

  -- and its members
  pub members_of_place : (xs : List Name) (gs : List Given) (e : Environment) → AreGiven μ xs gs empty e → AreFound μ (given_members (given_at (last_parameter x xs) gs)) (members_of x e)
  members_of_place xs gs e G =
      under_place μ x no_members (λ P. no_members) (λ ms. ms) (members_of x) (λ o ms. AreFound μ (given_members o) ms) (λ y d e. refl) (λ y P e. refl) (λ y ms e. refl)
      (λ v. refl) (λ y a b inner P same A B. refl) (λ keys list shape row w ms M. M) xs gs e refl G

-- the names of a call
abbrev pub names_called : Plan → Call → List Name
names_called p c = names_of_parameters (plan_expressions p) (header_at p c.template).parameters

-- what is given in a call
module _ (μ : Machine) where
  pub called_is : (r : Rc Call Global) (e : Environment) → AreGiven μ (names_called μ.plan r.value) r.value.arguments.items empty e → IsNames μ (ECalled r) e
  called_is r e G = is_called (subst (λ (gs : List Given). AreGiven μ (names_called μ.plan r.value) gs empty e) (sym (items_hidden-the_row-Given-1 r.value.arguments)) G)

  called_gives : (r : Rc Call Global) (e : Environment) → IsNames μ (ECalled r) e → AreGiven μ (names_called μ.plan r.value) r.value.arguments.items empty e
  called_gives r e (is_called G) = subst (λ (gs : List Given). AreGiven μ (names_called μ.plan r.value) gs empty e) (items_hidden-the_row-Given-1 r.value.arguments) G

  pub called_of : (c : Call) (r : Rc Call Global) → r.value ≡ c → (e : Environment) → AreGiven μ (names_called μ.plan c) c.arguments.items empty e → IsNames μ (ECalled r) e
  called_of c r same e G = called_is r e (subst (λ (c : Call). AreGiven μ (names_called μ.plan c) c.arguments.items empty e) (sym same) G)

  pub called_follows : (r s : Rc Call Global) → s.value ≡ r.value → (e : Environment) → IsNames μ (ECalled r) e → IsNames μ (ECalled s) e
  called_follows r s same e N = called_of r.value s same e (called_gives r e N)

  pub found_called : (x : Name) (r : Rc Call Global) (e : Environment) → IsNames μ (ECalled r) e → IsFound μ x (handed_of (given_at (last_parameter x (names_called μ.plan r.value)) r.value.arguments.items)) (process_of x e)
  found_called x r e N = process_of_place μ x (names_called μ.plan r.value) r.value.arguments.items e (called_gives r e N)

  pub members_called : (x : Name) (r : Rc Call Global) (e : Environment) → IsNames μ (ECalled r) e → AreFound μ (given_members (given_at (last_parameter x (names_called μ.plan r.value)) r.value.arguments.items)) (members_of x e)
  members_called x r e N = members_of_place μ x (names_called μ.plan r.value) r.value.arguments.items e (called_gives r e N)

pub value_called : (p : Plan) (x : Name) (r : Rc Call Global) → given_value (given_at (last_parameter x (names_called p r.value)) r.value.arguments.items) ≡ value_named (values_around p (ECalled r)) x
value_called p x r = ap (λ (gs : List Given). given_value (given_at (last_parameter x (names_called p r.value)) gs)) (sym (items_hidden-the_row-Given-1 r.value.arguments)) ∙ value_of_place x (names_called p r.value) _

-- what is given as members is found as they are held
pub members_given : (g : Gathered) → given_members (Some (GMembers g)) ≡ Some (gathered_holding g)
members_given g = ap (λ (bs : List State). Some (held_as g.keys bs g.wait)) (states_are g.states.value)
