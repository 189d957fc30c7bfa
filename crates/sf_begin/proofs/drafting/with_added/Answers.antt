use Rattle.sf_law.specs.Arena.{plan_tree}
use Rattle.sf_mean.specs.Lives.{closure}
use Rattle.sf_state.specs.Standing.{itself, unborn}
use Rattle.sf_begin.specs.Contexts.{context_machine}
use Rattle.sf_begin.proofs.Drafts.{laid_added}
use Rattle.sf_begin.proofs.drafting.with_added.Goals as goal

pub returns-in_ok-more-in-Ok : goal.returns-in_ok-more-in-Ok
returns-in_ok-more-in-Ok g c = λ j e bs w ms C N G.
    let μ = context_machine g.R.Holds.answers c.args.context.now in
    let t = plan_tree μ.plan c.args.term in
    laid_added μ bs w c.args.names.now e N j c.in-Ok.value _ c.in_ok-more-in-Ok.more ms (c.in-Ok.ensures j C) c.as_key.ensures t (c.in_ok-more-in-Ok.ensures μ bs w ms (closure t e) G (itself (unborn (c.in_ok-process-in-Ok.ensures μ.answers e N))))
