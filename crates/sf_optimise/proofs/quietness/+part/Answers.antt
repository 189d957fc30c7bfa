use Rattle.std.proofs.Common.{◌∙◌, ap, subst, arith}
use Rattle.sf_law.specs.Arena.{plan_trees, BuildsPlan, plan_tree}
use Rattle.sf_optimise.specs.Lists.{all_quiet}
use Rattle.sf_optimise.proofs.Quieted.{below_end, pipeline_quiet}
use Rattle.sf_optimise.proofs.quietness.+part.Goals as goal

pub are_quiet-is_quiet-requires : goal.are_quiet-is_quiet-requires
are_quiet-is_quiet-requires t c = (omega (arith, below_end c.args.stages.now c.loop-stage.stage-index (record { 0 = 0 }) c.loop-stage-test.true), tt)

pub is_quiet-returns-in-Pipeline : goal.is_quiet-returns-in-Pipeline
is_quiet-returns-in-Pipeline t c =
    let p = c.args.plan.now in
    let built = subst (λ n. BuildsPlan p n (plan_tree p c.args.id)) c.in-Pipeline.is c.node.ensures.builds in
    c.are_quiet.ensures ∙ ap (λ ids. all_quiet (plan_trees p ids)) c.deref.ensures.value ∙ pipeline_quiet built
