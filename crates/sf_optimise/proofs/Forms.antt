-- Terms of plans by their nodes.
use Rattle.std.proofs.Common.{◌≡◌, ◌<◌, List, [], ◌∷◌, length, Bool, true, false, true≢false, nat_le, IsTrue, Option, Some, Result, Ok, Err, Vec, inl, inr, refl, sym, ◌∙◌, ap, subst}
use Rattle.std.specs.Prelude.{IfOk}
use Rattle.std.specs.declared.rc.Rc.{Rc}
use Rattle.std.specs.declared.alloc.Global.{Global}
use Rattle.sf_code.specs.declared.open.OpenCode.{OpenCode}
use Rattle.sf_expr.specs.declared.exprs.FunctionId.{FunctionId}
use Rattle.sf_expr.specs.declared.exprs.Exprs.{Exprs}
use Rattle.sf_expr.specs.Arena.{function_at}
use Rattle.sf_term.specs.declared.form.Join.{Join}
use Rattle.sf_term.specs.declared.form.Side.{Side}
use Rattle.sf_term.specs.Trees.{Extent, whole, rest, bare, arrow, Term, primitive, reference, joined, sided, headed, transformed, switching, continuing, gathered, releasing, editing, staged}
use Rattle.sf_term.specs.declared.form.Bare.{Bare}
use Rattle.sf_term.specs.declared.form.Bare.TheVariants.{Identity, LocalTime, Integral, Edge, NotYet, Once, Count, Pre}
use Rattle.sf_law.specs.declared.node.PlanId.{PlanId}
use Rattle.sf_law.specs.declared.node.PlanNode.{PlanNode}
use Rattle.sf_law.specs.declared.node.PlanNode.TheVariants as nodes
use Rattle.sf_law.specs.declared.node.PlanPrimitive.{PlanPrimitive}
use Rattle.sf_law.specs.declared.node.PlanPrimitive.TheVariants as primitives
use Rattle.sf_law.specs.declared.node.PlanChain.{PlanChain}
use Rattle.sf_law.specs.declared.node.PlanChain.TheVariants as chains
use Rattle.sf_law.specs.declared.plan.Plan.{Plan}
use Rattle.sf_law.specs.Entries.{stages, pipeline, chain_over, primitive_over, IsCodedPrimitive, IsCodedChain}
use Rattle.sf_law.specs.Held.{HoldsChain, HoldsPlanned}
use Rattle.sf_law.specs.Arena.{plan_tree, plan_expressions, plan_trees, BuildsPlan, builds_primitive, builds_started, builds_probe, builds_call, builds_joined, builds_sided, builds_headed, builds_transformed, builds_switching, builds_continuing, builds_gathered, builds_releasing, builds_editing, builds_pipeline}
use Rattle.sf_law.proofs.Extended.{builds}
use Rattle.sf_rewrite.specs.Laws.{Laws, arr, unchanged, arr_as_chain}
use Rattle.sf_rewrite.specs.Normal.{is_arr, is_stage, may_meet, IsPlan, plan_join, plan_pipeline, IsRest, last_stage}
use Rattle.sf_rewrite.specs.Normal
use Rattle.sf_optimise.specs.Lists.{is_identity_form, is_identity_term, AreStages, one_stage, more_stages}
use Rattle.sf_optimise.specs.Making.{TermChain, chain_in, MeetsAs, on_one_side, in_exchange}
use Rattle.sf_optimise.specs.declared.sequence.Meeting.TheVariants as meetings
use Rattle.sf_rewrite.specs.Quiet.{is_quiet}
use Rattle.sf_term.specs.declared.form.Join.TheVariants.{InParallel}

-- what is so of what a call answers
pub ok_then : {A E : Type 0} {P Q : A → Type 0} (r : Result A E) → ((a : A) → P a → Q a) → IfOk r P → IfOk r Q
ok_then (Ok a) f h = f a h
ok_then (Err e) f h = h

-- the same, where it is so under each of some premises
pub ok_when : {A E X : Type 0} {H : X → Type 0} {P : X → A → Type 0} {Q : A → Type 0} (r : Result A E) → ((a : A) → ((x : X) → H x → P x a) → Q a) → ((x : X) → H x → IfOk r (P x)) → IfOk r Q
ok_when (Ok a) f h = f a h
ok_when (Err e) f h = tt

pub built_as : {p : Plan} {n m : PlanNode} {t : Term} → n ≡ m → BuildsPlan p n t → BuildsPlan p m t
built_as {p} {t = t} is h = subst (λ n. BuildsPlan p n t) is h

pub sided_built : {p : Plan} {d : Side} {a : PlanId} {t : Term} → BuildsPlan p (nodes.Sided d a) t → t ≡ sided d (plan_tree p a)
sided_built builds_sided = refl

pub joined_built : {p : Plan} {j : Join} {a b : PlanId} {t : Term} → BuildsPlan p (nodes.Joined j a b) t → t ≡ joined j (plan_tree p a) (plan_tree p b)
joined_built builds_joined = refl

-- a pipeline has two stages, and may have more
pub record IsPipeline (p : Plan) (v : Vec PlanId Global) (t : Term) : Type 0 where
  pub first : PlanId
  pub second : PlanId
  pub others : List PlanId
  pub ids : v.items ≡ first ∷ second ∷ others
  pub term : t ≡ staged whole (plan_tree p first) (stages rest (plan_tree p second) (plan_trees p others))

pub pipeline_built : {p : Plan} {v : Vec PlanId Global} {t : Term} → BuildsPlan p (nodes.Pipeline v) t → IsPipeline p v t
pipeline_built {p = p} {v = v} (builds_pipeline h) = by v.items refl h
  where
    by : (ids : List PlanId) → v.items ≡ ids → IsTrue (nat_le 2 (length ids)) → IsPipeline p v (pipeline (plan_trees p v.items))
    by [] is h = absurd cc
    by (a ∷ []) is h = absurd cc
    by (a ∷ b ∷ ids) is h = record { first = a; second = b; others = ids; ids = is; term = ap (λ ids. pipeline (plan_trees p ids)) is }

pub pipeline_no_arr : {p : Plan} {v : Vec PlanId Global} {t : Term} → BuildsPlan p (nodes.Pipeline v) t → is_arr t ≡ false
pipeline_no_arr B = ap is_arr (pipeline_built B).term

pub pipeline_no_identity : {p : Plan} {v : Vec PlanId Global} {t : Term} → BuildsPlan p (nodes.Pipeline v) t → is_identity_term t ≡ false
pipeline_no_identity B = ap is_identity_term (pipeline_built B).term

-- the node of the identity stands for it
pub identity_built : {p : Plan} {n : PlanNode} {q : PlanPrimitive} {k : Bare} {t : Term} → n ≡ nodes.Primitive q → q ≡ primitives.Bare k → k ≡ Identity → BuildsPlan p n t → true ≡ is_identity_term t
identity_built {p} node form is B = built (built_as (node ∙ ap nodes.Primitive (form ∙ ap primitives.Bare is)) B)
  where
    built : {t : Term} → BuildsPlan p (nodes.Primitive (primitives.Bare Identity)) t → true ≡ is_identity_term t
    built (builds_primitive k) = refl

-- `arr` of one function
pub arrow_chain : {x : Exprs} {f : FunctionId} (code : Rc OpenCode Global) {shared : Rc OpenCode Global} {c : Rc PlanChain Global} → c.value ≡ chains.Lone f shared
    → shared.value ≡ code.value → IsCodedPrimitive x (primitives.Arrow f code) → HoldsPlanned x (primitives.Arrow f code)
    → TermChain x (primitive (primitive_over x (primitives.Arrow f code))) (Some c)
arrow_chain {x} {f} code {shared} {c} is same k held = chain_in (record {
  held = subst (HoldsChain x) (sym is) held;
  coded = subst (IsCodedChain x) (sym is) (rw same k);
  law = subst (λ (d : PlanChain). Laws (primitive (arrow (function_at x f))) (arr (chain_over x d))) (sym is) arr_as_chain;
  is = refl;
})

pub fused_chain : {x : Exprs} (r : Rc PlanChain Global) {c : Rc PlanChain Global} → c.value ≡ r.value → IsCodedPrimitive x (primitives.Fused r) → HoldsPlanned x (primitives.Fused r) → TermChain x (primitive (primitive_over x (primitives.Fused r))) (Some c)
fused_chain {x} r {c} is k held = chain_in (record {
  held = subst (HoldsChain x) (sym is) held;
  coded = subst (IsCodedChain x) (sym is) k;
  law = subst (λ (d : PlanChain). Laws (arr (chain_over x r.value)) (arr (chain_over x d))) (sym is) unchanged;
  is = refl;
})

-- what a primitive's functions are, those of its term are
pub primitive_chain : {p : Plan} {q : PlanPrimitive} {t : Term} {o : Option (Rc PlanChain Global)} → BuildsPlan p (nodes.Primitive q) t → HoldsPlanned (plan_expressions p) q → ((x : Exprs) → IsCodedPrimitive x q → HoldsPlanned x q → TermChain x (primitive (primitive_over x q)) o) → TermChain (plan_expressions p) t o
primitive_chain {p = p} (builds_primitive k) held h = h (plan_expressions p) k held

-- ## The stages of a plan

abbrev is_rest_extent : Extent → Bool
is_rest_extent whole = false
is_rest_extent rest = true

-- the rest of a pipeline
abbrev is_rest : Term → Bool
is_rest (primitive p) = false
is_rest (reference r) = false
is_rest (joined j f g) = false
is_rest (sided d t) = false
is_rest (headed h i t) = false
is_rest (transformed f t) = false
is_rest (switching w t p u) = false
is_rest (continuing w t q k p u) = false
is_rest (gathered i) = false
is_rest (releasing w i q k p u) = false
is_rest (editing w i k p u) = false
is_rest (staged x f g) = is_rest_extent x

never_rest : {p : Plan} {n : PlanNode} {t : Term} → BuildsPlan p n t → is_rest t ≡ false
never_rest (builds_primitive k) = refl
never_rest builds_started = refl
never_rest builds_probe = refl
never_rest (builds_call c k) = refl
never_rest builds_joined = refl
never_rest builds_sided = refl
never_rest (builds_headed k) = refl
never_rest (builds_transformed k) = refl
never_rest builds_switching = refl
never_rest builds_continuing = refl
never_rest (builds_gathered k) = refl
never_rest (builds_releasing k) = refl
never_rest (builds_editing k) = refl
never_rest (builds_pipeline {v = v} h) = ap is_rest (pipeline_built (builds_pipeline {v = v} h)).term

-- the last stage of a pipeline
last_of : {f t : Term} → is_rest t ≡ false → IsRest f t → IsTrue (may_meet (is_arr f) (is_arr t)) × IsPlan t × IsTrue (is_stage t)
last_of h (last_stage P S m) = (m, P, S)
last_of h (Normal.more_stages P S m R) = absurd (true≢false h)

rest_stages : (p : Plan) (f : Term) (b : PlanId) (ids : List PlanId) → IsRest f (stages rest (plan_tree p b) (plan_trees p ids)) → IsTrue (may_meet (is_arr f) (is_arr (plan_tree p b))) × AreStages (plan_trees p (b ∷ ids))
rest_stages p f b [] R = let l = last_of (never_rest (builds p b)) R in (l.0, one_stage l.1 l.2)
rest_stages p f b (c ∷ ids) (last_stage P S m) = absurd cc
rest_stages p f b (c ∷ ids) (Normal.more_stages P S m R) = let l = rest_stages p (plan_tree p b) c ids R in (m, more_stages P S l.0 l.1)

pub pipeline_stages : {p : Plan} {v : Vec PlanId Global} {t : Term} → BuildsPlan p (nodes.Pipeline v) t → IsPlan t → AreStages (plan_trees p v.items)
pipeline_stages {p} {v} {t} B P =
    let k = pipeline_built B in
    subst (λ ids. AreStages (plan_trees p ids)) (sym k.ids) (by k.first k.second k.others (subst IsPlan k.term P))
  where
    by : (a b : PlanId) (ids : List PlanId) → IsPlan (staged whole (plan_tree p a) (stages rest (plan_tree p b) (plan_trees p ids))) → AreStages (plan_trees p (a ∷ b ∷ ids))
    by a b ids (plan_pipeline P S R) = let l = rest_stages p (plan_tree p a) b ids R in more_stages P S l.0 l.1

-- the two stages of a pipeline that has no more
pub two_normal : (p : Plan) (a b : PlanId) → IsPlan (staged whole (plan_tree p a) (plan_tree p b)) → IsPlan (plan_tree p a) × IsPlan (plan_tree p b) × IsTrue (is_stage (plan_tree p b))
two_normal p a b (plan_pipeline P S R) = let l = last_of (never_rest (builds p b)) R in (P, l.1, l.2)

-- a term that is no pipeline is a stage, but for the identity
form_stage : (k : Bare) → is_identity_form k ≡ false → IsTrue (is_stage (primitive (bare k)))
form_stage Identity h = absurd (true≢false h)
form_stage LocalTime h = refl
form_stage Integral h = refl
form_stage Edge h = refl
form_stage NotYet h = refl
form_stage Once h = refl
form_stage Count h = refl
form_stage Pre h = refl

pub primitive_stage : {p : Plan} {q : PlanPrimitive} {t : Term} → BuildsPlan p (nodes.Primitive q) t → is_identity_term t ≡ false → IsTrue (is_stage t)
primitive_stage (builds_primitive {q = primitives.Bare k} c) h = form_stage k h
primitive_stage (builds_primitive {q = primitives.Never n} c) h = refl
primitive_stage (builds_primitive {q = primitives.WithValue k e d} c) h = refl
primitive_stage (builds_primitive {q = primitives.Timed k q e d} c) h = refl
primitive_stage (builds_primitive {q = primitives.Selected k n} c) h = refl
primitive_stage (builds_primitive {q = primitives.Arrow f d} c) h = refl
primitive_stage (builds_primitive {q = primitives.Fused r} c) h = refl
primitive_stage (builds_primitive {q = primitives.Accumulated k e d f g} c) h = refl

pub joined_stage : {p : Plan} {j : Join} {a b : PlanId} {t : Term} → BuildsPlan p (nodes.Joined j a b) t → IsPlan t → IsTrue (is_stage t)
joined_stage builds_joined (plan_join h P Q) = h

-- ## How two terms meet

pub on_same_side : {p : Plan} {a b f g : PlanId} {d e : Side} → (plan_tree p a ≡ sided d (plan_tree p f)) × (f.0 < a.0) → (plan_tree p b ≡ sided e (plan_tree p g)) × (g.0 < b.0) → d ≡ e → MeetsAs p a b (meetings.Sides d f g)
on_same_side {p} {g = g} F G same = on_one_side F.0 (G.0 ∙ ap (λ d. sided d (plan_tree p g)) (sym same)) F.1 G.1

abbrev Parallel : Plan → PlanId → PlanId → PlanId → Type 0
Parallel p a f g = (plan_tree p a ≡ joined InParallel (plan_tree p f) (plan_tree p g)) × (f.0 < a.0) × (g.0 < a.0)

pub first_quiet : {p : Plan} {a b f g h k : PlanId} → Parallel p a f g → Parallel p b h k → IsTrue (is_quiet (plan_tree p g)) → MeetsAs p a b (meetings.Exchange f g h k)
first_quiet F H q = in_exchange F.0 H.0 F.1 F.2 H.1 H.2 (inl q)

pub second_quiet : {p : Plan} {a b f g h k : PlanId} → Parallel p a f g → Parallel p b h k → IsTrue (is_quiet (plan_tree p h)) → MeetsAs p a b (meetings.Exchange f g h k)
second_quiet F H q = in_exchange F.0 H.0 F.1 F.2 H.1 H.2 (inr q)

-- a term that is neither a pipeline nor the identity is a stage
pub single_stage : {p : Plan} {n : PlanNode} {t : Term} → BuildsPlan p n t → ((v : Vec PlanId Global) → n ≡ nodes.Pipeline v → ⊥) → is_identity_term t ≡ false → IsPlan t → IsTrue (is_stage t)
single_stage {p = p} (builds_primitive k) other h P = primitive_stage {p = p} (builds_primitive k) h
single_stage builds_started other h P = refl
single_stage builds_probe other h P = refl
single_stage (builds_call c k) other h P = refl
single_stage {p = p} builds_joined other h P = joined_stage {p = p} builds_joined P
single_stage builds_sided other h P = refl
single_stage (builds_headed k) other h P = refl
single_stage (builds_transformed k) other h P = refl
single_stage builds_switching other h P = refl
single_stage builds_continuing other h P = refl
single_stage (builds_gathered k) other h P = refl
single_stage (builds_releasing k) other h P = refl
single_stage (builds_editing k) other h P = refl
single_stage (builds_pipeline {v = v} h) other g P = absurd (other v refl)

-- the only stage of a term
pub alone : (p : Plan) {ids : List PlanId} {a : PlanId} → ids ≡ a ∷ [] → IsPlan (plan_tree p a) → IsTrue (is_stage (plan_tree p a)) → AreStages (plan_trees p ids)
alone p is P S = subst (λ ids. AreStages (plan_trees p ids)) (sym is) (one_stage P S)
