-- Lists of names, beside the nodes of a plan.
use Rattle.std.proofs.Common.{◌≡◌, ℕ, suc, ◌<◌, ◌≤◌, get_or, ◌∙◌, List, [], ◌∷◌, ◌++◌, length, Bool, true, false, cond, IsTrue, All, refl, length-append, sym, ap, subst, arith, ◌⊎◌, inl, inr, ⊎_elim}
use Rattle.std.proofs.lemmas.List.{get_or_past, get_or_default}
use Rattle.std.proofs.lemmas.Bool.{cases_lt}
use Rattle.sf_arena.specs.Items.{Added}
use Rattle.sf_arena.proofs.Grown.{tree_kept, each_item}
use Rattle.std.specs.Prelude.{Result, OnOk, is_some, Vec, String, ◌≢◌}
use Rattle.std.specs.declared.rc.Rc.{Rc}
use Rattle.std.specs.declared.alloc.Global.{Global}
use Rattle.sf_expr.specs.declared.exprs.ExprId.{ExprId}
use Rattle.sf_expr.specs.declared.exprs.FunctionId.{FunctionId}
use Rattle.sf_expr.specs.declared.exprs.PatternId.{PatternId}
use Rattle.sf_expr.specs.Expressions.{Pattern, named}
use Rattle.sf_expr.specs.Expressions
use Rattle.sf_expr.specs.Patterns.{pattern_of}
use Rattle.sf_term.specs.declared.form.Start.{Start}
use Rattle.sf_term.specs.declared.form.Join.{Join}
use Rattle.sf_term.specs.declared.form.Side.{Side}
use Rattle.sf_term.specs.declared.form.Heading.{Heading}
use Rattle.sf_code.specs.declared.open.OpenCode.{OpenCode}
use Rattle.sf_code.specs.Compiling.{place_of_name}
use Rattle.sf_code.specs.Around.{patterns_around}
use Rattle.sf_law.specs.declared.node.TemplateId.{TemplateId}
use Rattle.sf_law.specs.declared.node.PlanPrimitive.{PlanPrimitive}
use Rattle.sf_law.specs.declared.node.PlanNode.TheVariants as nodes
use Rattle.sf_law.proofs.Naming.{closed_mentions, function_mentions}
use Rattle.sf_value.specs.Values.{Name}
use Rattle.sf_expr.specs.declared.exprs.Exprs.{Exprs}
use Rattle.sf_expr.specs.declared.exprs.NameId.{NameId}
use Rattle.sf_expr.specs.Arena.{function_at, name_at, stored_pattern}
use Rattle.sf_term.specs.Entries.{identity_term}
use Rattle.sf_term.specs.Trees.{Term, primitive, reference, started, call, joined, sided, headed, transformed, switching, continuing, gathered, releasing, editing, staged, whole, rest}
use Rattle.sf_coincidence.specs.Mentions.{BindsOthers, ExpressionMentions, FunctionMentions, PrimitiveMentions, Mentions, CollectionMentions, ArgumentsMention}
use Rattle.sf_law.specs.declared.node.PlanId.{PlanId}
use Rattle.sf_law.specs.declared.node.PlanArgument.{PlanArgument}
use Rattle.sf_law.specs.declared.node.PlanArgument.TheVariants as arguments
use Rattle.sf_law.specs.declared.node.PlanCollection.{PlanCollection}
use Rattle.sf_law.specs.declared.node.PlanSwitch.{PlanSwitch}
use Rattle.sf_law.specs.declared.node.PlanContinuation.{PlanContinuation}
use Rattle.sf_law.specs.declared.node.PlanReleasing.{PlanReleasing}
use Rattle.sf_law.specs.declared.node.PlanEditing.{PlanEditing}
use Rattle.sf_law.specs.declared.node.PlanNode.{PlanNode}
use Rattle.sf_law.specs.declared.mentioned.Mentioned.{Mentioned}
use Rattle.sf_law.specs.declared.mentioned.Mentioned.TheVariants.{Any}
use Rattle.sf_law.specs.declared.plan.Plan.{Plan}
use Rattle.sf_law.specs.Entries.{IsCodedPrimitive, IsCodedArgument, IsCodedCollection, primitive_over, plan_over, plan_term, stages, pipeline, closed_before}
use Rattle.sf_law.specs.Arena.{plan_tree, plan_expressions, plan_expression_at, plan_arguments, plan_collection, plan_trees, BuildsPlan, builds_primitive, builds_started, builds_probe, builds_call, builds_joined, builds_sided, builds_headed, builds_transformed, builds_switching, builds_continuing, builds_gathered, builds_releasing, builds_editing, builds_pipeline}
use Rattle.sf_law.specs.Mentioned.{is_mentioned, HasAll, Covers, mentioned_at, AreCovered}
use Rattle.sf_law.specs.Mentioning.{ArgumentMentions}

-- past the end of the lists any name may be mentioned
pub any_past : (e : Exprs) (ms : List Mentioned) (i : ℕ) (t : Term) → length ms ≤ i → Covers e (mentioned_at ms i) t
any_past e ms i t past x h = subst (λ m. IsTrue (is_mentioned e m x)) (sym (get_or_past ms i Any past)) refl

-- lists go on being those of terms, where it may be that a node was put behind
pub covered_put : (x : Exprs) (old new : List PlanNode) (n : PlanNode) (put : Bool) (ms : List Mentioned) → new ≡ cond put (old ++ n ∷ []) old → length ms ≤ length old → AreCovered x old ms → AreCovered x new ms
covered_put x old new n true ms e few h i = ⊎_elim there (any_past x ms i (plan_term x new i)) (cases_lt i (length ms))
  where
    added : Added old new n (length old)
    added = record { next = refl; grown = e }

    there : suc i ≤ length ms → Covers x (mentioned_at ms i) (plan_term x new i)
    there l = subst (λ t. Covers x (mentioned_at ms i) t) (sym (tree_kept old new n (length old) added (plan_over x) identity_term i (omega (arith, few)))) (h i)
covered_put x old new n false ms e few h i = subst (λ ns. AreCovered x ns ms) (sym e) h i

pub few_put : (old new : List PlanNode) (n : PlanNode) (put : Bool) (ms : List Mentioned) → new ≡ cond put (old ++ n ∷ []) old → length ms ≤ length old → length ms ≤ length new
few_put old new n true ms e few = let l : length new ≡ length (old ++ n ∷ []) = ap length e in omega (arith, length-append old (n ∷ []))
few_put old new n false ms e few = let l : length new ≡ length old = ap length e in omega arith

-- the terms at the ids of a plan
abbrev pub EachIsCovered : Plan → List Mentioned → Type 0
EachIsCovered p ms = (a : PlanId) → Covers (plan_expressions p) (mentioned_at ms a.0) (plan_tree p a)

pub each_next : (p : Plan) (ms : List Mentioned) (m : Mentioned) (a : PlanId) → a.0 ≡ length ms → EachIsCovered p ms → Covers (plan_expressions p) m (plan_tree p a) → EachIsCovered p (ms ++ m ∷ [])
each_next p ms m a same h here b =
    let added : Added ms (ms ++ m ∷ []) m a.0 = record { next = same; grown = refl } in
    each_item ms (ms ++ m ∷ []) m a.0 added (λ i k. Covers (plan_expressions p) k (plan_tree p (record { 0 = i }))) Any (λ i. h (record { 0 = i })) here b.0

-- a list covers all of a plan's terms, by their numbers
pub covered_all : (p : Plan) (ms : List Mentioned) → EachIsCovered p ms → AreCovered p.expressions p.nodes.items ms
unfolding plan_tree
covered_all p ms h i = h (record { 0 = i })

-- ## Stages

module _ (p : Plan) where
  -- stages mention what one of them does
  abbrev pub StagesMention : List PlanId → Name → Type 0
  StagesMention [] x = ⊥
  StagesMention (a ∷ ids) x = Mentions (plan_tree p a) x ⊎ StagesMention ids x

  staged_mention : (a : PlanId) (ids : List PlanId) (w : _) (x : Name) → Mentions (stages w (plan_tree p a) (plan_trees p ids)) x → StagesMention (a ∷ ids) x
  staged_mention a [] w x h = inl h
  staged_mention a (b ∷ ids) w x (inl h) = inl h
  staged_mention a (b ∷ ids) w x (inr h) = inr (staged_mention b ids rest x h)

  pub stages_mention : (ids : List PlanId) (x : Name) → Mentions (pipeline (plan_trees p ids)) x → StagesMention ids x
  stages_mention [] x h = absurd h
  stages_mention (a ∷ ids) x h = staged_mention a ids whole x h

  pub no_stages : (ids : List PlanId) (x : Name) → length ids < 1 → StagesMention ids x → ⊥
  no_stages [] x l h = h
  no_stages (a ∷ ids) x l h = omega (arith, l)

  -- one stage more was looked at
  pub stages_step : (m n : Mentioned) (all xs ys : List PlanId) (f : PlanId) → xs ≡ f ∷ ys → HasAll (plan_expressions p) m n → Covers (plan_expressions p) n (plan_tree p f) → ((x : Name) → StagesMention all x → IsTrue (is_mentioned (plan_expressions p) m x) ⊎ StagesMention xs x)
      → (x : Name) → StagesMention all x → IsTrue (is_mentioned (plan_expressions p) n x) ⊎ StagesMention ys x
  stages_step m n all xs ys f e kept here so_far x h = ⊎_elim (λ k. inl (kept x k)) (λ k. ⊎_elim (λ j. inl (here x j)) inr (subst (λ zs. StagesMention zs x) e k)) (so_far x h)

  -- ## Arguments

  closed_mention : (t : Term) (vs : _) (x : Name) → ArgumentsMention (closed_before t vs) x → Mentions t x ⊎ ArgumentsMention vs x
  closed_mention (primitive q) vs x h = h
  closed_mention (reference (started w k)) vs x h = h
  closed_mention (reference (call g ws)) vs x h = h
  closed_mention (joined j f g) vs x h = h
  closed_mention (sided d t) vs x h = h
  closed_mention (headed k i t) vs x h = h
  closed_mention (transformed f t) vs x h = h
  closed_mention (switching w t q u) vs x h = h
  closed_mention (continuing w t q k r u) vs x h = h
  closed_mention (gathered i) vs x h = h
  closed_mention (releasing w i q k r u) vs x h = h
  closed_mention (editing w i k r u) vs x h = h
  closed_mention (staged e f g) vs x h = h

  pub argument_mention : (v : PlanArgument) (vs : List PlanArgument) (x : Name) → ArgumentsMention (plan_arguments p (v ∷ vs)) x → ArgumentMentions p v x ⊎ ArgumentsMention (plan_arguments p vs) x
  argument_mention (arguments.Value e c) vs x h = h
  argument_mention (arguments.Started w k) vs x h = h
  argument_mention (arguments.Closed a) vs x h = closed_mention (plan_tree p a) (plan_arguments p vs) x h
  argument_mention (arguments.Collected r) vs x h = h

pub no_arguments_left : (p : Plan) (vs : List PlanArgument) (x : Name) → length vs < 1 → ArgumentsMention (plan_arguments p vs) x → ⊥
no_arguments_left p [] x l h = h
no_arguments_left p (v ∷ vs) x l h = omega (arith, l)

-- one argument more was looked at
pub arguments_step : (p : Plan) (m n : Mentioned) (all xs ys : List PlanArgument) (v : PlanArgument) → xs ≡ v ∷ ys → HasAll (plan_expressions p) m n → ((x : Name) → ArgumentMentions p v x → IsTrue (is_mentioned (plan_expressions p) n x))
    → ((x : Name) → ArgumentsMention (plan_arguments p all) x → IsTrue (is_mentioned (plan_expressions p) m x) ⊎ ArgumentsMention (plan_arguments p xs) x)
    → (x : Name) → ArgumentsMention (plan_arguments p all) x → IsTrue (is_mentioned (plan_expressions p) n x) ⊎ ArgumentsMention (plan_arguments p ys) x
arguments_step p m n all xs ys v e kept here so_far x h =
    ⊎_elim (λ k. inl (kept x k)) (λ k. ⊎_elim (λ j. inl (here x j)) inr (argument_mention p v ys x (subst (λ zs. ArgumentsMention (plan_arguments p zs) x) e k))) (so_far x h)

-- the list at the place of a term
pub covered_at : (p : Plan) (a : PlanId) (m : Mentioned) → a.0 < length p.mentions.items → m ≡ get_or p.mentions.items a.0 m → Covers (plan_expressions p) m (plan_tree p a)
unfolding plan_tree
covered_at p a m h e = subst (λ k. Covers (plan_expressions p) k (plan_term p.expressions p.nodes.items a.0)) (get_or_default p.mentions.items a.0 Any m h ∙ sym e) (p.covered a.0)

-- ## Nodes

module _ (p : Plan) where
  -- what binds names inside a name and a pattern
  abbrev pub inside : NameId → PatternId → Pattern
  inside k q = Expressions.both (named (name_at (plan_expressions p) k)) (pattern_of (stored_pattern (plan_expressions p) q))

  -- all that a collection mentions is in a list, where its code is that of the collection
  abbrev pub CoversCollection : Mentioned → PlanCollection → Type 0
  CoversCollection m i = IsCodedCollection (plan_expressions p) i → (x : Name) → CollectionMentions (plan_collection p i) x → IsTrue (is_mentioned (plan_expressions p) m x)

  pub covers_primitive : {T E : Type 0} (r : Result T E) (m : Mentioned) {q : PlanPrimitive} {t : Term} → BuildsPlan p (nodes.Primitive q) t
      → (IsCodedPrimitive (plan_expressions p) q → OnOk r ((y : Name) → PrimitiveMentions (primitive_over (plan_expressions p) q) y → IsTrue (is_mentioned (plan_expressions p) m y))) → OnOk r (Covers (plan_expressions p) m t)
  covers_primitive r m (builds_primitive k) h = h k

  pub covers_started : (m : Mentioned) {w : Start} {k : NameId} {t : Term} → BuildsPlan p (nodes.Started w k) t → IsTrue (is_mentioned (plan_expressions p) m (name_at (plan_expressions p) k)) → Covers (plan_expressions p) m t
  covers_started m builds_started h = λ x same. subst (λ y. IsTrue (is_mentioned (plan_expressions p) m y)) same h

  pub covers_probe : (m : Mentioned) {r : Rc (String Global) Global} {t : Term} → BuildsPlan p (nodes.Probe r) t → Covers (plan_expressions p) m t
  covers_probe m builds_probe = λ x h. absurd h

  pub covers_call : (m : Mentioned) {k : NameId} {g : TemplateId} {v : Vec PlanArgument Global} {t : Term} → BuildsPlan p (nodes.Call k g v) t
      → (All (IsCodedArgument (plan_expressions p)) v.items → (x : Name) → ArgumentsMention (plan_arguments p v.items) x → IsTrue (is_mentioned (plan_expressions p) m x)) → Covers (plan_expressions p) m t
  covers_call m (builds_call is k) h = h k

  pub covers_joined : (m : Mentioned) {j : Join} {a b : PlanId} {t : Term} → BuildsPlan p (nodes.Joined j a b) t → Covers (plan_expressions p) m (plan_tree p a) → Covers (plan_expressions p) m (plan_tree p b) → Covers (plan_expressions p) m t
  covers_joined m {a = a} {b = b} builds_joined A B = both
    where
      both : (x : Name) → Mentions (plan_tree p a) x ⊎ Mentions (plan_tree p b) x → IsTrue (is_mentioned (plan_expressions p) m x)
      both x (inl h) = A x h
      both x (inr h) = B x h

  pub covers_sided : (m : Mentioned) {d : Side} {a : PlanId} {t : Term} → BuildsPlan p (nodes.Sided d a) t → Covers (plan_expressions p) m (plan_tree p a) → Covers (plan_expressions p) m t
  covers_sided m builds_sided A = A

  pub covers_headed : (m : Mentioned) {h : Heading} {e : ExprId} {c : OpenCode} {a : PlanId} {t : Term} → BuildsPlan p (nodes.Headed h e c a) t
      → ((x : Name) → is_some (place_of_name x (patterns_around (plan_expressions p) c.around)) ≡ true → IsTrue (is_mentioned (plan_expressions p) m x)) → Covers (plan_expressions p) m (plan_tree p a) → Covers (plan_expressions p) m t
  covers_headed m {e = e} {c = c} {a = a} (builds_headed k) C A = both
    where
      both : (x : Name) → ExpressionMentions (plan_expression_at p e) x ⊎ Mentions (plan_tree p a) x → IsTrue (is_mentioned (plan_expressions p) m x)
      both x (inl h) = C x (closed_mentions (patterns_around (plan_expressions p) c.around) (plan_expression_at p e) x k.closed h)
      both x (inr h) = A x h

  pub covers_transformed : (m : Mentioned) {f : FunctionId} {c : OpenCode} {a : PlanId} {t : Term} → BuildsPlan p (nodes.Transformed f c a) t
      → ((x : Name) → is_some (place_of_name x (patterns_around (plan_expressions p) c.around)) ≡ true → IsTrue (is_mentioned (plan_expressions p) m x)) → Covers (plan_expressions p) m (plan_tree p a) → Covers (plan_expressions p) m t
  covers_transformed m {f = f} {c = c} {a = a} (builds_transformed k) C A = both
    where
      both : (x : Name) → FunctionMentions (function_at (plan_expressions p) f) x ⊎ Mentions (plan_tree p a) x → IsTrue (is_mentioned (plan_expressions p) m x)
      both x (inl h) = C x (function_mentions (patterns_around (plan_expressions p) c.around) (function_at (plan_expressions p) f) x k.closed h)
      both x (inr h) = A x h

  pub covers_switching : (m : Mentioned) {s : PlanSwitch} {t : Term} → BuildsPlan p (nodes.Switching s) t → Covers (plan_expressions p) m (plan_tree p s.source)
      → ((x : Name) → Mentions (plan_tree p s.body) x → BindsOthers (pattern_of (stored_pattern (plan_expressions p) s.pattern)) x → IsTrue (is_mentioned (plan_expressions p) m x)) → Covers (plan_expressions p) m t
  covers_switching m {s = s} builds_switching A B = both
    where
      both : (x : Name) → Mentions (plan_tree p s.source) x ⊎ (Mentions (plan_tree p s.body) x × BindsOthers (pattern_of (stored_pattern (plan_expressions p) s.pattern)) x) → IsTrue (is_mentioned (plan_expressions p) m x)
      both x (inl h) = A x h
      both x (inr h) = B x h.0 h.1

  pub covers_continuing : (m : Mentioned) {s : PlanContinuation} {t : Term} → BuildsPlan p (nodes.Continuation s) t → Covers (plan_expressions p) m (plan_tree p s.source) → Covers (plan_expressions p) m (plan_tree p s.observer)
      → ((x : Name) → Mentions (plan_tree p s.body) x → BindsOthers (inside s.name s.pattern) x → IsTrue (is_mentioned (plan_expressions p) m x)) → Covers (plan_expressions p) m t
  covers_continuing m {s = s} builds_continuing A O B = all
    where
      all : (x : Name) → Mentions (plan_tree p s.source) x
          ⊎ (Mentions (plan_tree p s.observer) x ⊎ (Mentions (plan_tree p s.body) x × BindsOthers (pattern_of (stored_pattern (plan_expressions p) s.pattern)) x × name_at (plan_expressions p) s.name ≢ x))
          → IsTrue (is_mentioned (plan_expressions p) m x)
      all x (inl h) = A x h
      all x (inr (inl h)) = O x h
      all x (inr (inr h)) = B x h.0 (h.2, h.1)

  pub covers_gathered : {T E : Type 0} (a : Result T E) (m : Mentioned) {r : Rc PlanCollection Global} {t : Term} → BuildsPlan p (nodes.Gathered r) t
      → (IsCodedCollection (plan_expressions p) r.value → OnOk a ((x : Name) → CollectionMentions (plan_collection p r.value) x → IsTrue (is_mentioned (plan_expressions p) m x))) → OnOk a (Covers (plan_expressions p) m t)
  covers_gathered a m (builds_gathered k) h = h k

  pub covers_releasing : (m : Mentioned) {s : PlanReleasing} {t : Term} → BuildsPlan p (nodes.Releasing s) t → CoversCollection m s.members.value → Covers (plan_expressions p) m (plan_tree p s.observer)
      → ((x : Name) → Mentions (plan_tree p s.body) x → BindsOthers (inside s.name s.pattern) x → IsTrue (is_mentioned (plan_expressions p) m x)) → Covers (plan_expressions p) m t
  covers_releasing m {s = s} (builds_releasing k) I O B = all
    where
      all : (x : Name) → CollectionMentions (plan_collection p s.members.value) x
          ⊎ (Mentions (plan_tree p s.observer) x ⊎ (Mentions (plan_tree p s.body) x × BindsOthers (pattern_of (stored_pattern (plan_expressions p) s.pattern)) x × name_at (plan_expressions p) s.name ≢ x))
          → IsTrue (is_mentioned (plan_expressions p) m x)
      all x (inl h) = I k x h
      all x (inr (inl h)) = O x h
      all x (inr (inr h)) = B x h.0 (h.2, h.1)

  pub covers_editing : (m : Mentioned) {s : PlanEditing} {t : Term} → BuildsPlan p (nodes.Editing s) t → CoversCollection m s.members.value
      → (IsCodedCollection (plan_expressions p) s.edit.value → (x : Name) → CollectionMentions (plan_collection p s.edit.value) x → BindsOthers (inside s.name s.pattern) x → IsTrue (is_mentioned (plan_expressions p) m x))
      → Covers (plan_expressions p) m t
  covers_editing m {s = s} (builds_editing k) I B = both
    where
      both : (x : Name) → CollectionMentions (plan_collection p s.members.value) x
          ⊎ (CollectionMentions (plan_collection p s.edit.value) x × BindsOthers (pattern_of (stored_pattern (plan_expressions p) s.pattern)) x × name_at (plan_expressions p) s.name ≢ x)
          → IsTrue (is_mentioned (plan_expressions p) m x)
      both x (inl h) = I k.0 x h
      both x (inr h) = B k.1 x h.0 (h.2, h.1)

  pub covers_pipeline : (m : Mentioned) {v : Vec PlanId Global} {t : Term} → BuildsPlan p (nodes.Pipeline v) t → Covers (plan_expressions p) m (pipeline (plan_trees p v.items)) → Covers (plan_expressions p) m t
  covers_pipeline m (builds_pipeline w) h = h
