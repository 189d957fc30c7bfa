use Rattle.std.proofs.Common.{⊎_elim}
use Rattle.sf_law.proofs.Covering.{stages_mention, no_stages}
use Rattle.sf_law.proofs.mentioned.Mentioned.add_parts.Goals as goal

pub returns : goal.returns
returns c = λ x h.
    let p = c.args.plan.now in
    ⊎_elim (λ k. k) (λ k. absurd (no_stages p c.loop-rest.rest.now x c.in_default.len_below k)) (c.loop-rest.invariant.mentioned x (stages_mention p c.args.stages.now x h))
