-- Terms that are made of others.
use Rattle.std.proofs.Common.{◌≡◌, ◌<◌, IsTrue, Some, None, refl, sym, ◌∙◌, ap, subst, arith}
use Rattle.std.specs.declared.rc.Rc.{Rc}
use Rattle.std.specs.declared.alloc.Global.{Global}
use Rattle.sf_expr.specs.declared.exprs.Exprs.{Exprs}
use Rattle.sf_term.specs.declared.form.Join.{Join}
use Rattle.sf_term.specs.declared.form.Join.TheVariants.{InParallel, FannedOut}
use Rattle.sf_term.specs.declared.form.Side.{Side}
use Rattle.sf_term.specs.Trees.{Term, on_side, on_both, fanned, chained, joined, sided, staged}
use Rattle.sf_law.specs.declared.node.PlanId.{PlanId}
use Rattle.sf_law.specs.declared.node.PlanChain.{PlanChain}
use Rattle.sf_law.specs.declared.node.PlanNode.{PlanNode}
use Rattle.sf_law.specs.declared.node.PlanNode.TheVariants as nodes
use Rattle.sf_law.specs.declared.plan.Plan.{Plan}
use Rattle.sf_law.specs.Entries.{chain_over}
use Rattle.sf_law.specs.Arena.{plan_number, node_count, plan_tree, AddsNode}
use Rattle.sf_rewrite.specs.Laws.{Laws, arr, constant, constant_after, unchanged, in_turn, in_join, in_side, in_stages, arr_on_side, arr_in_parallel, arr_fanned_out, arr_composed}
use Rattle.sf_rewrite.specs.Normal.{is_arr, is_stage, is_left, IsPlan, plan_primitive, plan_join, plan_side}
use Rattle.sf_optimise.specs.Making.{HoldsTree, IsNormal, MakesPlan, TermChain, chain_in, ChainsIn, chains_in, not_both, IsConstant, Merges, merges, stays}
use Rattle.sf_rewrite.specs.Quiet.{is_quiet}
use Rattle.sf_optimise.proofs.Forms.{sided_built, joined_built}

-- a term that is held, as what laws make
pub makes_held : {s t : Term} {p : Plan} {a : PlanId} → IsPlan s → Laws t s → HoldsTree s p a → MakesPlan t p a
makes_held {t = t} P law h = record { held = h.held; normal = subst IsPlan (sym h.is) P; law = subst (Laws t) (sym h.is) law }

-- a node that was added
pub held_new : {old new : Plan} {a : PlanId} {n : PlanNode} → AddsNode old new a n → plan_number a < node_count new
held_new A = omega (arith, A.next, A.counted)

pub side_fused : {x : Exprs} {t : Term} {c : Rc PlanChain Global} {d : Side} {p : Plan} {a : PlanId} → TermChain x t (Some c) → HoldsTree (arr (on_side d (chain_over x c.value))) p a → MakesPlan (sided d t) p a
side_fused (chain_in C) h = makes_held plan_primitive (in_turn (in_side C.law) arr_on_side) h

pub side_added : {old new : Plan} {d : Side} {t a : PlanId} → IsNormal old t → AddsNode old new a (nodes.Sided d t) → MakesPlan (sided d (plan_tree old t)) new a
side_added N A = makes_held (plan_side N.normal) unchanged (record { held = held_new A; is = sided_built A.builds })

pub parallel_fused : {x : Exprs} {t u : Term} {c e : Rc PlanChain Global} {p : Plan} {a : PlanId} → ChainsIn x t u (Some (c, e)) → HoldsTree (arr (on_both (chain_over x c.value) (chain_over x e.value))) p a → MakesPlan (joined InParallel t u) p a
parallel_fused (chains_in C E) h = makes_held plan_primitive (in_turn (in_join C.law E.law) arr_in_parallel) h

pub fan_fused : {x : Exprs} {t u : Term} {c e : Rc PlanChain Global} {p : Plan} {a : PlanId} → ChainsIn x t u (Some (c, e)) → HoldsTree (arr (fanned (chain_over x c.value) (chain_over x e.value))) p a → MakesPlan (joined FannedOut t u) p a
fan_fused (chains_in C E) h = makes_held plan_primitive (in_turn (in_join C.law E.law) arr_fanned_out) h

join_added : {old new : Plan} {j : Join} {t u a : PlanId} → IsTrue (is_left j) → IsNormal old t → IsNormal old u → AddsNode old new a (nodes.Joined j t u) → MakesPlan (joined j (plan_tree old t) (plan_tree old u)) new a
join_added left N M A = makes_held (plan_join left N.normal M.normal) unchanged (record { held = held_new A; is = joined_built A.builds })

pub parallel_added : {old new : Plan} {t u a : PlanId} → IsNormal old t → IsNormal old u → AddsNode old new a (nodes.Joined InParallel t u) → MakesPlan (joined InParallel (plan_tree old t) (plan_tree old u)) new a
parallel_added N M A = join_added refl N M A

pub fan_added : {old new : Plan} {t u a : PlanId} → IsNormal old t → IsNormal old u → AddsNode old new a (nodes.Joined FannedOut t u) → MakesPlan (joined FannedOut (plan_tree old t) (plan_tree old u)) new a
fan_added N M A = join_added refl N M A

-- ## Neighbours

pub drops : {t u : Term} {p : Plan} {a : PlanId} → plan_tree p a ≡ u → IsNormal p a → IsConstant u → IsTrue (is_quiet t) → Merges t u p (Some a)
drops {t} {u} {p} {a} is N (i, c) q =
    let e : plan_tree p a ≡ constant i = is ∙ c in
    merges N (subst (λ v. IsTrue (is_stage v)) (sym e) refl) (ap is_arr is) (λ x. subst (λ v. Laws (staged x t u) v) (sym e) (subst (λ v. Laws (staged x t v) (constant i)) (sym c) (constant_after q)))

pub composes : {x : Exprs} {t u : Term} {c e : Rc PlanChain Global} {p : Plan} {a : PlanId} → ChainsIn x t u (Some (c, e)) → HoldsTree (arr (chained (chain_over x c.value) (chain_over x e.value))) p a → Merges t u p (Some a)
composes {t = t} {u = u} {p = p} {a = a} (chains_in C E) h = merges
    (record { held = h.held; normal = subst IsPlan (sym h.is) plan_primitive })
    (subst (λ v. IsTrue (is_stage v)) (sym h.is) refl)
    (ap is_arr h.is ∙ sym E.is)
    (λ x. subst (λ v. Laws (staged x t u) v) (sym h.is) (in_turn (in_stages C.law E.law) arr_composed))

pub no_merge : {x : Exprs} {t u : Term} {p : Plan} → ChainsIn x t u None → Merges t u p None
no_merge (not_both m) = stays m
