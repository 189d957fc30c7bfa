-- What plans get by laws.
use Rattle.std.specs.Prelude.{◌≡◌, ◌<◌, ◌⊎◌, List, ◌∷◌, ◌++◌, true, false, IsTrue, Option, Some, None}
use Rattle.std.specs.declared.rc.Rc.{Rc}
use Rattle.std.specs.declared.alloc.Global.{Global}
use Rattle.sf_expr.specs.Expressions.{Expression}
use Rattle.sf_expr.specs.declared.exprs.Exprs.{Exprs}
use Rattle.sf_term.specs.declared.form.Join.TheVariants.{InParallel}
use Rattle.sf_term.specs.declared.form.Side.{Side}
use Rattle.sf_term.specs.Trees.{Extent, Term, joined, sided, staged}
use Rattle.sf_law.specs.declared.node.PlanId.{PlanId}
use Rattle.sf_law.specs.declared.node.PlanChain.{PlanChain}
use Rattle.sf_law.specs.declared.plan.Plan.{Plan}
use Rattle.sf_law.specs.Entries.{chain_over, IsCodedChain, pipeline}
use Rattle.sf_law.specs.Held.{HoldsChain}
use Rattle.sf_law.specs.Arena.{plan_number, node_count, plan_tree, plan_headers, plan_main, ExtendsPlan}
use Rattle.sf_rewrite.specs.Quiet.{is_quiet_expression, is_quiet}
use Rattle.sf_rewrite.specs.Laws.{Laws, arr, constant}
use Rattle.sf_rewrite.specs.Normal.{IsPlan, is_stage, is_arr, may_meet}
use Rattle.sf_optimise.specs.declared.sequence.Meeting.{Meeting}
use Rattle.sf_optimise.specs.declared.sequence.Meeting.TheVariants as meetings
use Rattle.sf_optimise.specs.Lists.{AreStages}

-- a plan keeps its terms, and may have more of them
pub record GrowsPlan (old new : Plan) : Type 0 where
  pub keeps : ExtendsPlan old new
  pub templates : plan_headers new ≡ plan_headers old
  pub main : plan_main new ≡ plan_main old

-- under an id stands this term
pub record HoldsTree (t : Term) (p : Plan) (a : PlanId) : Type 0 where
  pub held : plan_number a < node_count p
  pub is : plan_tree p a ≡ t

-- under an id stands a plan
pub record IsNormal (p : Plan) (a : PlanId) : Type 0 where
  pub held : plan_number a < node_count p
  pub normal : IsPlan (plan_tree p a)

-- under an id stands a plan that laws make of a term
pub record MakesPlan (t : Term) (p : Plan) (a : PlanId) : Type 0 where
  pub held : plan_number a < node_count p
  pub normal : IsPlan (plan_tree p a)
  pub law : Laws t (plan_tree p a)

-- a term is `arr` of these functions
pub record IsChain (x : Exprs) (t : Term) (c : Rc PlanChain Global) : Type 0 where
  pub coded : IsCodedChain x c.value
  pub held : HoldsChain x c.value
  pub law : Laws t (arr (chain_over x c.value))
  pub is : is_arr t ≡ true

-- The functions of a term, where it is `arr`.
pub data TermChain (x : Exprs) (t : Term) : Option (Rc PlanChain Global) → Type 0 where
  chain_in : {c : Rc PlanChain Global} → IsChain x t c → TermChain x t (Some c)
  no_chain : is_arr t ≡ false → TermChain x t None

-- The functions of two neighbours, where both are `arr`.
pub data ChainsIn (x : Exprs) (t u : Term) : Option (Rc PlanChain Global × Rc PlanChain Global) → Type 0 where
  chains_in : {c d : Rc PlanChain Global} → IsChain x t c → IsChain x u d → ChainsIn x t u (Some (c, d))
  not_both : IsTrue (may_meet (is_arr t) (is_arr u)) → ChainsIn x t u None

-- a term is `constant` of an expression
abbrev pub IsConstant : Term → Type 0
IsConstant t = (i : Expression) × (t ≡ constant i)

-- Two neighbours become one stage, which is `arr` where the second was; or they stay.
pub data Merges (t u : Term) (p : Plan) : Option PlanId → Type 0 where
  merges : {a : PlanId} → IsNormal p a → IsTrue (is_stage (plan_tree p a)) → is_arr (plan_tree p a) ≡ is_arr u → ((x : Extent) → Laws (staged x t u) (plan_tree p a)) → Merges t u p (Some a)
  stays : IsTrue (may_meet (is_arr t) (is_arr u)) → Merges t u p None

-- Stages before another one that is followed by any: of its neighbours before it those became one with it that could.
pub record Meets (ts : List Term) (t : Term) (us : List Term) (u : Term) : Type 0 where
  pub law : (rs : List Term) → Laws (pipeline (ts ++ t ∷ rs)) (pipeline (us ++ u ∷ rs))
  pub stages : (rs : List Term) → AreStages ts → AreStages (t ∷ rs) → AreStages (us ++ u ∷ rs)

-- What laws say of two terms, one after the other, by the parts of both; the parts stand before the first term.
pub data MeetsAs (p : Plan) (a b : PlanId) : Meeting → Type 0 where
  on_one_side : {d : Side} {f g : PlanId} → plan_tree p a ≡ sided d (plan_tree p f) → plan_tree p b ≡ sided d (plan_tree p g) → plan_number f < plan_number a → plan_number g < plan_number b
      → MeetsAs p a b (meetings.Sides d f g)
  in_exchange : {f g h k : PlanId} → plan_tree p a ≡ joined InParallel (plan_tree p f) (plan_tree p g) → plan_tree p b ≡ joined InParallel (plan_tree p h) (plan_tree p k)
      → plan_number f < plan_number a → plan_number g < plan_number a → plan_number h < plan_number b → plan_number k < plan_number b
      → IsTrue (is_quiet (plan_tree p g)) ⊎ IsTrue (is_quiet (plan_tree p h)) → MeetsAs p a b (meetings.Exchange f g h k)
  as_neighbours : MeetsAs p a b meetings.Neighbours

-- a constant and a part of which one is quiet
abbrev pub MovesOut : Expression → Term → Type 0
MovesOut i t = IsTrue (is_quiet_expression i) ⊎ IsTrue (is_quiet t)
