-- The names for which a plan asks what their processes began as.
use Rattle.std.proofs.Common.{◌≡◌, ℕ, ◌+◌, ◌<◌, ◌≤◌, Bool, true, false, not, ◌||◌, ◌&&◌, cond, List, [], ◌∷◌, length, slice_index_or, IsTrue, refl, sym, subst, arith, ◌⊎◌, inl, inr, ⊎_elim}
use Rattle.std.specs.Prelude.{bytes_eq, Option, Some, None, is_some}
use Rattle.std.proofs.lemmas.Slice.Eq.{bytes_eq-Decides}
use Rattle.std.proofs.lemmas.List.{get_or_past}
use Rattle.std.proofs.lemmas.Bool.{cases_lt}
use Rattle.sf_value.specs.Values.{Name}
use Rattle.sf_expr.specs.declared.exprs.Exprs.{Exprs}
use Rattle.sf_expr.specs.Arena.{name_at}
use Rattle.sf_expr.specs.declared.exprs.NameId.{NameId}
use Rattle.sf_term.specs.declared.form.Start.{Start}
use Rattle.sf_term.specs.declared.form.Start.TheVariants.{Run, Fresh}
use Rattle.sf_law.specs.declared.node.PlanId.{PlanId}
use Rattle.sf_law.specs.declared.node.PlanArgument.{PlanArgument}
use Rattle.sf_law.specs.declared.node.PlanArgument.TheVariants as arguments
use Rattle.sf_law.specs.declared.node.PlanNode.{PlanNode}
use Rattle.sf_law.specs.declared.node.PlanNode.TheVariants as nodes
use Rattle.sf_law.specs.declared.mentioned.Mentioned.{Mentioned}
use Rattle.sf_law.specs.declared.mentioned.Mentioned.TheVariants.{Names, Any}
use Rattle.sf_law.specs.declared.plan.Plan.{Plan}
use Rattle.sf_law.specs.Headers.{ParameterHeader, PlanHeader, no_header}
use Rattle.sf_law.specs.Entries.{identity_node}
use Rattle.sf_law.specs.Mentioned.{has_name, is_mentioned, AddsOnly}
use Rattle.sf_law.specs.Asking.{start_asked, argument_asked, arguments_asked, is_asked, AreAsked, AreAmong, IsLack}
use Rattle.sf_law.specs.Arena.{plan_expressions, plan_headers, plan_node_at, node_count, IsEnough, IsAsked, AsksOnly}
use Rattle.sf_law.proofs.Naming.{right_or}

-- ## Any name

any_of_arguments : (x : Exprs) (qs : List ParameterHeader) (vs : List PlanArgument) → IsTrue (arguments_asked x (is_mentioned x Any) qs vs)
any_of_arguments x [] vs = refl
any_of_arguments x (q ∷ qs) [] = refl
any_of_arguments x (q ∷ qs) (arguments.Value e c ∷ vs) = any_of_arguments x qs vs
any_of_arguments x (q ∷ qs) (arguments.Started Run k ∷ vs) = any_of_arguments x qs vs
any_of_arguments x (q ∷ qs) (arguments.Started Fresh k ∷ vs) = any_of_arguments x qs vs
any_of_arguments x (q ∷ qs) (arguments.Closed a ∷ vs) = any_of_arguments x qs vs
any_of_arguments x (q ∷ qs) (arguments.Collected r ∷ vs) = any_of_arguments x qs vs

-- where any name is asked for, that is enough
pub any_asked : (x : Exprs) (hs : List PlanHeader) (n : PlanNode) → IsTrue (is_asked x hs (is_mentioned x Any) n)
any_asked x hs (nodes.Primitive q) = refl
any_asked x hs (nodes.Started Run k) = refl
any_asked x hs (nodes.Started Fresh k) = refl
any_asked x hs (nodes.Probe r) = refl
any_asked x hs (nodes.Call k g v) = any_of_arguments x (slice_index_or hs g.0 no_header).parameters v.items
any_asked x hs (nodes.Joined j a b) = refl
any_asked x hs (nodes.Sided d a) = refl
any_asked x hs (nodes.Headed h e c a) = refl
any_asked x hs (nodes.Transformed f c a) = refl
any_asked x hs (nodes.Switching n) = refl
any_asked x hs (nodes.Continuation n) = refl
any_asked x hs (nodes.Gathered r) = refl
any_asked x hs (nodes.Releasing s) = refl
any_asked x hs (nodes.Editing s) = refl
any_asked x hs (nodes.Pipeline v) = refl

-- ## Arguments

module _ (x : Exprs) (asks : Name → Bool) where
  -- the same over the same parameters and arguments
  pub arguments_same : (qs ps : List ParameterHeader) (vs us : List PlanArgument) → qs ≡ ps → vs ≡ us → IsTrue (arguments_asked x asks qs vs) → IsTrue (arguments_asked x asks ps us)
  arguments_same qs ps vs us parameters arguments h = subst (λ us. IsTrue (arguments_asked x asks ps us)) arguments (subst (λ ps. IsTrue (arguments_asked x asks ps vs)) parameters h)

  both : (a b : Bool) → IsTrue a → IsTrue b → IsTrue (a && b)
  both true b h k = k
  both false b h k = absurd cc

  -- one more argument
  pub next_asked : (q : ParameterHeader) (qs ps : List ParameterHeader) (v : PlanArgument) (vs us : List PlanArgument) → ps ≡ q ∷ qs → us ≡ v ∷ vs
      → IsTrue (argument_asked x asks (name_at x q.name) v) → IsTrue (arguments_asked x asks qs vs) → IsTrue (arguments_asked x asks ps us)
  next_asked q qs ps v vs us parameters arguments here more =
      arguments_same (q ∷ qs) ps (v ∷ vs) us (sym parameters) (sym arguments) (both (argument_asked x asks (name_at x q.name) v) (arguments_asked x asks qs vs) here more)

  both_parts : (a b : Bool) → IsTrue (a && b) → IsTrue a × IsTrue b
  both_parts true b h = (refl, h)
  both_parts false b h = absurd cc

  -- the same the other way round
  pub parts_asked : (q : ParameterHeader) (qs ps : List ParameterHeader) (v : PlanArgument) (vs us : List PlanArgument) → ps ≡ q ∷ qs → us ≡ v ∷ vs
      → IsTrue (arguments_asked x asks ps us) → IsTrue (argument_asked x asks (name_at x q.name) v) × IsTrue (arguments_asked x asks qs vs)
  parts_asked q qs ps v vs us parameters arguments h =
      both_parts (argument_asked x asks (name_at x q.name) v) (arguments_asked x asks qs vs) (arguments_same ps (q ∷ qs) us (v ∷ vs) parameters arguments h)

  -- no parameter is left, or no argument
  pub none_asked : (qs : List ParameterHeader) (vs : List PlanArgument) → (length qs ≡ 0) ⊎ (length vs ≡ 0) → IsTrue (arguments_asked x asks qs vs)
  none_asked [] vs h = refl
  none_asked (q ∷ qs) [] h = refl
  none_asked (q ∷ qs) (v ∷ vs) (inl h) = absurd (omega arith)
  none_asked (q ∷ qs) (v ∷ vs) (inr h) = absurd (omega arith)

-- ## Nodes

module _ (p : Plan) (m : Mentioned) where
  -- what a node of the plan asks for is among the names
  abbrev IsEnoughFor : PlanNode → Type 0
  IsEnoughFor n = IsTrue (is_asked (plan_expressions p) (plan_headers p) (is_mentioned (plan_expressions p) m) n)

  -- the same of the nodes below a number
  abbrev pub EnoughBelow : ℕ → Type 0
  EnoughBelow i = (a : PlanId) → a.0 < i → IsEnoughFor (plan_node_at p a)

  pub next_enough : (i : ℕ) → EnoughBelow i → IsEnoughFor (plan_node_at p (record { 0 = i })) → EnoughBelow (i + 1)
  next_enough i before here a below = ⊎_elim (λ l. before a l) at_end (cases_lt a.0 i)
    where
      at_end : i ≤ a.0 → IsEnoughFor (plan_node_at p a)
      at_end l = let same : i ≡ a.0 = omega arith in subst (λ (k : ℕ). IsEnoughFor (plan_node_at p (record { 0 = k }))) same here

  pub all_enough : (i : ℕ) → node_count p ≤ i → EnoughBelow i → IsEnough p (is_mentioned (plan_expressions p) m)
  unfolding plan_node_at
  all_enough i all before a = ⊎_elim (λ l. before a l) past (cases_lt a.0 i)
    where
      past : i ≤ a.0 → IsEnoughFor (plan_node_at p a)
      past l = subst (λ (n : PlanNode). IsEnoughFor n) (sym (get_or_past p.nodes.items a.0 identity_node (omega (arith, l, all)))) refl

  -- by their places
  pub enough_all : IsEnough p (is_mentioned (plan_expressions p) m) → AreAsked p.expressions p.templates.items m p.nodes.items
  unfolding plan_node_at
  enough_all h i = h (record { 0 = i })

-- ## What is lacking

module _ (x : Exprs) (m : Mentioned) where
  -- what a process of a name asks for, where a test says whether it is handed on under a name that is asked for
  pub start_lack : (w : Start) (k : NameId) (given : (Name → Bool) → Bool) (handed : Bool) → given (is_mentioned x m) ≡ handed → ((asks : Name → Bool) → AreAmong x m asks → IsTrue handed → IsTrue (given asks))
      → IsLack x (λ asks. IsTrue (start_asked (given asks) (asks (name_at x k)) w)) m (cond (start_asked handed (is_mentioned x m (name_at x k)) w) None (Some k))
  start_lack Fresh k given handed same grows = by (is_mentioned x m (name_at x k)) refl
    where
      by : (own : Bool) → is_mentioned x m (name_at x k) ≡ own → IsLack x (λ asks. IsTrue (asks (name_at x k))) m (cond own None (Some k))
      by true e = e
      by false e = λ asks among h. h
  start_lack Run k given true same grows = by (is_mentioned x m (name_at x k)) refl
    where
      by : (own : Bool) → is_mentioned x m (name_at x k) ≡ own → IsLack x (λ asks. IsTrue (not (given asks) || asks (name_at x k))) m (cond own None (Some k))
      by true e = right_or (not (given (is_mentioned x m))) (is_mentioned x m (name_at x k)) e
      by false e = λ asks among h. subst (λ g. IsTrue (not g || asks (name_at x k))) (grows asks among refl) h
  start_lack Run k given false same grows = subst (λ g. IsTrue (not g || is_mentioned x m (name_at x k))) (sym same) refl

  module _ (E F : (Name → Bool) → Type 0) where
    -- what one lacks the whole lacks
    pub lack_within : (o : Option NameId) → is_some o ≡ true → ((asks : Name → Bool) → F asks → E asks) → IsLack x E m o → IsLack x F m o
    lack_within None some part l = absurd cc
    lack_within (Some k) some part l = λ asks among h. l asks among (part asks h)

  -- nothing is lacking
  pub no_lack : (E : (Name → Bool) → Type 0) (o : Option NameId) → is_some o ≡ false → IsLack x E m o → E (is_mentioned x m)
  no_lack E None none l = l
  no_lack E (Some k) none l = absurd cc

module _ (p : Plan) where
  -- a plan asks for each of no names
  pub none_only : (m : Mentioned) → ((x : Name) → is_mentioned (plan_expressions p) m x ≡ false) → AsksOnly p m
  none_only (Names v) h = λ x k. absurd (let not : has_name (plan_expressions p) v.items x ≡ false = h x in cc)
  none_only Any h = absurd (let not : true ≡ false = h [] in cc)

  -- once a name that is lacking is added
  pub next_only : (old new : Mentioned) (k : NameId) → AsksOnly p old → IsLack (plan_expressions p) (IsEnough p) old (Some k) → AddsOnly (plan_expressions p) old (name_at (plan_expressions p) k) new
      → AsksOnly p new × ((x : Name) × IsAsked p x)
  next_only (Names v) new k only lack adds = (by new adds, (y, asked))
    where
      y : Name
      y = name_at (plan_expressions p) k

      asked : IsAsked p y
      asked asks enough = lack asks (λ z h. only z h asks enough) enough

      by : (new : Mentioned) → AddsOnly (plan_expressions p) (Names v) y new → AsksOnly p new
      by Any a = (y, asked)
      by (Names w) a = λ z h. each z (has_name (plan_expressions p) v.items z) refl (bytes_eq z y) refl (a z h)
        where
          each : (z : Name) (b : Bool) → has_name (plan_expressions p) v.items z ≡ b → (c : Bool) → bytes_eq z y ≡ c → IsTrue (b || c) → IsAsked p z
          each z true e c f h = only z e
          each z false e true f h = subst (λ z. IsAsked p z) (sym ((bytes_eq-Decides z y).0 f)) asked
          each z false e false f h = absurd cc
  next_only Any new k only lack adds = (subst (λ m. AsksOnly p m) (sym adds) only, only)

-- no name is listed where none is asked for
pub nothing_listed : (p : Plan) (m : Mentioned) → AsksOnly p m → IsEnough p (λ x. false) → (x : Name) → is_mentioned (plan_expressions p) m x ≡ false
nothing_listed p (Names v) only none x = by (has_name (plan_expressions p) v.items x) refl
  where
    by : (b : Bool) → has_name (plan_expressions p) v.items x ≡ b → b ≡ false
    by false e = refl
    by true e = absurd (let not : false ≡ true = only x e (λ x. false) none in cc)
nothing_listed p Any only none x = absurd (let not : false ≡ true = only.1 (λ x. false) none in cc)
