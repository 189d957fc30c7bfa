-- Functions of `arr`.
use Rattle.std.proofs.Common.{◌≡◌, Bool, true, false, true≢false, IsTrue, Some, None, refl}
use Rattle.std.specs.declared.rc.Rc.{Rc}
use Rattle.std.specs.declared.alloc.Global.{Global}
use Rattle.sf_expr.specs.declared.exprs.Exprs.{Exprs}
use Rattle.sf_term.specs.Trees.{Term}
use Rattle.sf_law.specs.declared.node.PlanChain.{PlanChain}
use Rattle.sf_rewrite.specs.Normal.{is_arr, may_meet}
use Rattle.sf_optimise.specs.Making.{TermChain, chain_in, no_chain, ChainsIn, chains_in, not_both}

pub meets_left : (a b : Bool) → a ≡ false → IsTrue (may_meet a b)
meets_left true b h = absurd (true≢false h)
meets_left false b h = refl

pub meets_right : (a b : Bool) → b ≡ false → IsTrue (may_meet a b)
meets_right true true h = absurd (true≢false h)
meets_right true false h = refl
meets_right false b h = refl

-- where one of two neighbours is no `arr`
pub first_no_arr : {x : Exprs} {t u : Term} → TermChain x t None → ChainsIn x t u None
first_no_arr {x} {t} {u} (no_chain h) = not_both (meets_left (is_arr t) (is_arr u) h)

pub second_no_arr : {x : Exprs} {t u : Term} → TermChain x u None → ChainsIn x t u None
second_no_arr {x} {t} {u} (no_chain h) = not_both (meets_right (is_arr t) (is_arr u) h)

pub both_arr : {x : Exprs} {t u : Term} {c d : Rc PlanChain Global} → TermChain x t (Some c) → TermChain x u (Some d) → ChainsIn x t u (Some (c, d))
both_arr (chain_in C) (chain_in D) = chains_in C D
