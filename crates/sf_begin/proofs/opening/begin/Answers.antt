use Rattle.sf_begin.specs.Beginning.{begins_itself, begins_not}
use Rattle.sf_begin.specs.Contexts.{context_machine}
use Rattle.sf_begin.proofs.opening.begin.Goals as goal

pub returns-in-Ok-clause-begins : goal.returns-in-Ok-clause-begins
returns-in-Ok-clause-begins g c = λ t e B N.
    let μ = context_machine g.R.Holds.answers c.args.context.now in
    rw c.put.ensures (begins_itself (c.prepared.ensures.begins μ t e c.args.input.now N (c.in-Ok.ensures t B e N)))

pub returns-in-Err-clause-begins : goal.returns-in-Err-clause-begins
returns-in-Err-clause-begins g c = λ t e B N. begins_not (c.in-Err.ensures t B e N)
