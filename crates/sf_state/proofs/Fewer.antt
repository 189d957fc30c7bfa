-- Names of which only some are kept.
use Rattle.std.proofs.Common.{◌≡◌, false, [], Option, Some, None, IsTrue, sym, subst}
use Rattle.std.specs.Prelude.{IfSome}
use Rattle.sf_value.specs.Values.{Name, Data, first_of, second_of}
use Rattle.sf_expr.specs.Expressions.{Pattern, unnamed, named, both}
use Rattle.sf_mean.specs.Lives.{Process, closure, Environment, bind, running, collected, Members}
use Rattle.sf_coincidence.specs.Mentions.{BindsOthers}
use Rattle.sf_coincidence.specs.Alike.{AlikeName, of_closures}
use Rattle.sf_coincidence.proofs.Same.{alike_itself, members_themselves, alike_back, at_itself, at_bound, at_running, at_collected, at_other_value, at_other_process, at_other_members}
use Rattle.sf_law.specs.declared.node.PlanId.{PlanId}
use Rattle.sf_law.specs.declared.mentioned.Mentioned.{Mentioned}
use Rattle.sf_law.specs.Arena.{plan_tree, plan_expressions}
use Rattle.sf_law.specs.Mentioned.{is_mentioned, Covers}
use Rattle.sf_law.proofs.Naming.{not_bound, others}
use Rattle.sf_expr.specs.Arena.{stored_pattern, name_at}
use Rattle.sf_expr.specs.Patterns.{pattern_of}
use Rattle.sf_state.specs.declared.env.Env.{Env}
use Rattle.sf_state.specs.declared.env.Binding.{Binding}
use Rattle.sf_state.specs.declared.env.Running.{Running}
use Rattle.sf_state.specs.declared.env.Collected.{Collected}
use Rattle.std.specs.declared.alloc.Global.{Global}
use Rattle.std.specs.declared.rc.Rc.{Rc}
use Rattle.sf_state.specs.declared.env.Env.TheVariants.{Empty as SEmpty, Bound', Running', Collected as ECollected}
use Rattle.sf_state.specs.Held.{gathered_holding}
use Rattle.sf_state.proofs.Scopes.{collected_is}
use Rattle.sf_state.specs.Standing.{closed_over, HasMentioned, has_mentioned, IsNames, is_empty, is_bound, is_running, Gathers, IsHanded, IsProcess, is_closure}
use Rattle.sf_state.specs.Machine.{Machine}

-- a name that a pattern doesn't bind stands for alike inside it and around it
outside : {x : Name} {d e : Environment} (q : Pattern) (v : Data) → BindsOthers q x → AlikeName x d e → AlikeName x d (bind q v e)
outside unnamed v h A = A
outside {x} (named y) v h A = at_other_value x y v (not_bound (named y) x h) A
outside (both p q) v h A = outside q (second_of v) h.1 (outside p (first_of v) h.0 A)

module _ (μ : Machine) where
  -- the same names have all that is mentioned
  pub all_kept : {m : Mentioned} {names : Env} {e : Environment} → IsNames μ names e → HasMentioned μ m names e
  all_kept {e = e} N = has_mentioned N (λ x h. at_itself x e)

  -- no names have nothing
  pub none_kept : {m : Mentioned} {e : Environment} → ((x : Name) → is_mentioned (plan_expressions μ.plan) m x ≡ false) → HasMentioned μ m SEmpty e
  none_kept h = has_mentioned is_empty (λ x k. absurd (let none = h x in cc))

  -- a pattern none of whose names is mentioned falls away
  pub pattern_falls : {m : Mentioned} {names : Env} {e : Environment} (q : Pattern) (v : Data) → ((x : Name) → IsTrue (is_mentioned (plan_expressions μ.plan) m x) → BindsOthers q x) → HasMentioned μ m names e → HasMentioned μ m names (bind q v e)
  pattern_falls q v h (has_mentioned N A) = has_mentioned N (λ x k. outside q v (h x k) (A x k))

  -- a process that isn't mentioned falls away
  pub process_falls : {m : Mentioned} {names : Env} {e : Environment} (k : Name) (P : Process) → ((x : Name) → IsTrue (is_mentioned (plan_expressions μ.plan) m x) → BindsOthers (named k) x) → HasMentioned μ m names e → HasMentioned μ m names (running k P e)
  process_falls k P h (has_mentioned N A) = has_mentioned N (λ x j. at_other_process x k P (not_bound (named k) x (h x j)) (A x j))

  -- so do members
  pub members_fall : {m : Mentioned} {names : Env} {e : Environment} (k : Name) (ms : Members) → ((x : Name) → IsTrue (is_mentioned (plan_expressions μ.plan) m x) → BindsOthers (named k) x) → HasMentioned μ m names e → HasMentioned μ m names (collected k ms e)
  members_fall k ms h (has_mentioned N A) = has_mentioned N (λ x j. at_other_members x k ms (not_bound (named k) x (h x j)) (A x j))

  -- a term has what it mentions
  pub term_closed : {m : Mentioned} {names : Env} {e : Environment} (a : PlanId) → Covers (plan_expressions μ.plan) m (plan_tree μ.plan a) → HasMentioned μ m names e → IsProcess μ (closed_over a names) (closure (plan_tree μ.plan a) e)
  term_closed a C (has_mentioned N A) = is_closure (alike_back (of_closures (λ x h. A x (C x h)))) N

  -- what follows inside a pattern
  pub inside_pattern : {at : _} (b : Binding) (C : Environment → Type 0) → ((e : Environment) → IsNames μ b.around e → C (bind (pattern_of (stored_pattern (plan_expressions μ.plan) b.pattern)) b.value e))
      → (e : Environment) → IsNames μ (Bound' at b.pattern b.value b.around) e → C e
  inside_pattern b C h e (is_bound {e = around} N) = h around N

  -- and inside a process under its name
  pub inside_process : {at : _} (r : Running) (C : Environment → Type 0) → ((e : Environment) (P : Process) → IsHanded μ (name_at (plan_expressions μ.plan) r.name) r.handed P → IsNames μ r.around e → C (running (name_at (plan_expressions μ.plan) r.name) P e))
      → (e : Environment) → IsNames μ (Running' at r.name r.handed.process r.handed.base.term r.handed.base.names r.around) e → C e
  inside_process r C h e (is_running {P = P} {e = around} A B N) = h around P (A, B) N

  -- a pattern over fewer names
  pub over_fewer : {at : _} {m l : Mentioned} {e : Environment} (b : Binding) → ((x : Name) → IsTrue (is_mentioned (plan_expressions μ.plan) m x) → BindsOthers (pattern_of (stored_pattern (plan_expressions μ.plan) b.pattern)) x → IsTrue (is_mentioned (plan_expressions μ.plan) l x))
      → HasMentioned μ l b.around e → HasMentioned μ m (Bound' at b.pattern b.value b.around) (bind (pattern_of (stored_pattern (plan_expressions μ.plan) b.pattern)) b.value e)
  over_fewer b h (has_mentioned N A) = has_mentioned (is_bound N) (λ x k. at_bound (pattern_of (stored_pattern (plan_expressions μ.plan) b.pattern)) b.value (λ free. A x (h x k free)))

  -- a process over fewer names
  pub process_over_fewer : {at : _} {m l : Mentioned} {e : Environment} {P : Process} (r : Running) → ((x : Name) → IsTrue (is_mentioned (plan_expressions μ.plan) m x) → BindsOthers (named (name_at (plan_expressions μ.plan) r.name)) x → IsTrue (is_mentioned (plan_expressions μ.plan) l x))
      → IsHanded μ (name_at (plan_expressions μ.plan) r.name) r.handed P → HasMentioned μ l r.around e
      → HasMentioned μ m (Running' at r.name r.handed.process r.handed.base.term r.handed.base.names r.around) (running (name_at (plan_expressions μ.plan) r.name) P e)
  process_over_fewer {P = P} r h H (has_mentioned N A) =
      let k = name_at (plan_expressions μ.plan) r.name in
      has_mentioned (is_running H.0 H.1 N) (λ x w. at_running k (alike_itself P) (λ free. A x (h x w (others (named k) x free))))

  -- members over fewer names
  pub members_over_fewer : {m l : Mentioned} {e : Environment} {ms : Members} (r : Rc Collected Global) → ((x : Name) → IsTrue (is_mentioned (plan_expressions μ.plan) m x) → BindsOthers (named (name_at (plan_expressions μ.plan) r.value.name)) x → IsTrue (is_mentioned (plan_expressions μ.plan) l x))
      → Gathers μ (gathered_holding r.value.members) ms [] → HasMentioned μ l r.value.around e → HasMentioned μ m (ECollected r) (collected (name_at (plan_expressions μ.plan) r.value.name) ms e)
  members_over_fewer {ms = ms} r h G (has_mentioned N A) =
      let k = name_at (plan_expressions μ.plan) r.value.name in
      has_mentioned (collected_is μ r G N) (λ x w. at_collected k (members_themselves ms) (λ free. A x (h x w (others (named k) x free))))

  -- a binding that was made over fewer names
  pub over_made : {at : _} {m l : Mentioned} {e : Environment} (b c : Binding) → c ≡ b → (d : Data) → b.value ≡ d
      → ((x : Name) → IsTrue (is_mentioned (plan_expressions μ.plan) m x) → BindsOthers (pattern_of (stored_pattern (plan_expressions μ.plan) b.pattern)) x → IsTrue (is_mentioned (plan_expressions μ.plan) l x))
      → HasMentioned μ l b.around e → HasMentioned μ m (Bound' at c.pattern c.value c.around) (bind (pattern_of (stored_pattern (plan_expressions μ.plan) b.pattern)) d e)
  over_made {at} {m} {e = e} b c same d value h H =
      let q = pattern_of (stored_pattern (plan_expressions μ.plan) b.pattern) in
      subst (λ (v : Data). HasMentioned μ m (Bound' at c.pattern c.value c.around) (bind q v e)) value
      (subst (λ (c : Binding). HasMentioned μ m (Bound' at c.pattern c.value c.around) (bind q b.value e)) (sym same) (over_fewer b h H))

  -- the same of a process under its name
  pub process_made : {at : _} {m l : Mentioned} {e : Environment} {P : Process} (r c : Running) → c ≡ r
      → ((x : Name) → IsTrue (is_mentioned (plan_expressions μ.plan) m x) → BindsOthers (named (name_at (plan_expressions μ.plan) r.name)) x → IsTrue (is_mentioned (plan_expressions μ.plan) l x)) → IsHanded μ (name_at (plan_expressions μ.plan) r.name) r.handed P → HasMentioned μ l r.around e
      → HasMentioned μ m (Running' at c.name c.handed.process c.handed.base.term c.handed.base.names c.around) (running (name_at (plan_expressions μ.plan) r.name) P e)
  process_made {at} {m} {e = e} {P = P} r c same h H K =
      subst (λ (c : Running). HasMentioned μ m (Running' at c.name c.handed.process c.handed.base.term c.handed.base.names c.around) (running (name_at (plan_expressions μ.plan) r.name) P e)) (sym same) (process_over_fewer r h H K)

  -- and of members under theirs
  pub members_made : {m l : Mentioned} {e : Environment} {ms : Members} (b : Collected) (r : Rc Collected Global) → r.value ≡ b
      → ((x : Name) → IsTrue (is_mentioned (plan_expressions μ.plan) m x) → BindsOthers (named (name_at (plan_expressions μ.plan) b.name)) x → IsTrue (is_mentioned (plan_expressions μ.plan) l x)) → Gathers μ (gathered_holding b.members) ms [] → HasMentioned μ l b.around e
      → HasMentioned μ m (ECollected r) (collected (name_at (plan_expressions μ.plan) b.name) ms e)
  members_made {m} {l} {e} {ms} b r same =
      let C : Collected → Type 0 = λ c. ((x : Name) → IsTrue (is_mentioned (plan_expressions μ.plan) m x) → BindsOthers (named (name_at (plan_expressions μ.plan) c.name)) x → IsTrue (is_mentioned (plan_expressions μ.plan) l x)) → Gathers μ (gathered_holding c.members) ms [] → HasMentioned μ l c.around e
      → HasMentioned μ m (ECollected r) (collected (name_at (plan_expressions μ.plan) c.name) ms e) in
      subst C same (members_over_fewer r)

  -- what is left, where it is less, is so inside what falls away
  pub pattern_fell : (m : Mentioned) (e : Environment) (q : Pattern) (v : Data) (left : Option Env) → ((x : Name) → IsTrue (is_mentioned (plan_expressions μ.plan) m x) → BindsOthers q x) → IfSome left (λ names. HasMentioned μ m names e) → IfSome left (λ names. HasMentioned μ m names (bind q v e))
  pattern_fell m e q v (Some names) h H = pattern_falls q v h H
  pattern_fell m e q v None h H = tt

  pub process_fell : (m : Mentioned) (e : Environment) (k : Name) (P : Process) (left : Option Env) → ((x : Name) → IsTrue (is_mentioned (plan_expressions μ.plan) m x) → BindsOthers (named k) x) → IfSome left (λ names. HasMentioned μ m names e) → IfSome left (λ names. HasMentioned μ m names (running k P e))
  process_fell m e k P (Some names) h H = process_falls k P h H
  process_fell m e k P None h H = tt

  pub members_fell : (m : Mentioned) (e : Environment) (k : Name) (ms : Members) (left : Option Env) → ((x : Name) → IsTrue (is_mentioned (plan_expressions μ.plan) m x) → BindsOthers (named k) x) → IfSome left (λ names. HasMentioned μ m names e) → IfSome left (λ names. HasMentioned μ m names (collected k ms e))
  members_fell m e k ms (Some names) h H = members_fall k ms h H
  members_fell m e k ms None h H = tt

  -- no names are left, where nothing is mentioned
  pub emptied_kept : (m : Mentioned) (e : Environment) (left : Option Env) → ((x : Name) → is_mentioned (plan_expressions μ.plan) m x ≡ false) → IfSome left (λ names. names ≡ SEmpty) → IfSome left (λ names. HasMentioned μ m names e)
  emptied_kept m e (Some names) h same = subst (λ (n : Env). HasMentioned μ m n e) (sym same) (none_kept h)
  emptied_kept m e None h same = tt
