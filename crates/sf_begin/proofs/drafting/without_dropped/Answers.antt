use Rattle.sf_begin.proofs.Drafts.{laid_dropped}
use Rattle.sf_begin.proofs.drafting.without_dropped.Goals as goal
use Rattle.sf_begin.specs.Contexts.{context_machine}

pub returns-in_ok-left-in-Ok : goal.returns-in_ok-left-in-Ok
returns-in_ok-left-in-Ok g c = λ j e bs w ms C N G.
    let μ = context_machine g.R.Holds.answers c.args.context.now in
    laid_dropped μ bs w c.args.names.now e N j c.in-Ok.value _ c.in_ok-left-in-Ok.left ms (c.in-Ok.ensures j C) c.as_key.ensures (c.in_ok-left-in-Ok.ensures μ bs w ms G)
