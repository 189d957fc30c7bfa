-- Quiet pipelines, and ids of stages.
use Rattle.std.proofs.Common.{◌≡◌, ℕ, zero, suc, ◌<◌, List, [], ◌∷◌, length, slice_index_or, Bool, true, false, ◌&&◌, refl, sym, ap, arith}
use Rattle.sf_term.specs.Trees.{Extent, whole, rest, Term}
use Rattle.sf_law.specs.declared.node.PlanId.{PlanId}
use Rattle.sf_law.specs.declared.node.PlanNode.TheVariants as nodes
use Rattle.sf_law.specs.declared.plan.Plan.{Plan}
use Rattle.sf_law.specs.Entries.{stages, pipeline, ids_end}
use Rattle.sf_law.specs.Arena.{plan_tree, plan_trees, BuildsPlan, builds_pipeline}
use Rattle.std.specs.Prelude.{Vec}
use Rattle.std.specs.declared.alloc.Global.{Global}
use Rattle.sf_rewrite.specs.Quiet.{is_quiet}
use Rattle.sf_optimise.specs.Lists.{all_quiet}

-- an id among ids is below their end
pub below_end : (ids : List PlanId) (i : ℕ) (d : PlanId) → i < length ids → (slice_index_or ids i d).0 < ids_end ids
below_end [] i d h = let no : ⊥ = omega arith in absurd no
below_end (a ∷ ids) zero d h = omega arith
below_end (a ∷ ids) (suc i) d h = let below = below_end ids i d (omega arith) in omega (arith, below)

and_true : (b : Bool) → b ≡ (b && true)
and_true true = refl
and_true false = refl

stages_quiet : (x : Extent) (t : Term) (ts : List Term) → is_quiet (stages x t ts) ≡ (is_quiet t && all_quiet ts)
stages_quiet x t [] = and_true (is_quiet t)
stages_quiet x t (u ∷ us) = ap (λ b. is_quiet t && b) (stages_quiet rest u us)

-- a pipeline is quiet where all stages are
pub pipeline_quiet : {p : Plan} {v : Vec PlanId Global} {t : Term} → BuildsPlan p (nodes.Pipeline v) t → all_quiet (plan_trees p v.items) ≡ is_quiet t
pipeline_quiet {p = p} {v = v} (builds_pipeline h) = by v.items
  where
    by : (ids : List PlanId) → all_quiet (plan_trees p ids) ≡ is_quiet (pipeline (plan_trees p ids))
    by [] = refl
    by (a ∷ ids) = sym (stages_quiet whole (plan_tree p a) (plan_trees p ids))
