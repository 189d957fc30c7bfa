use Rattle.sf_law.specs.Arena.{plan_node_at}
use Rattle.sf_law.proofs.Enough.{enough_all}
use Rattle.sf_law.proofs.Covering.{covered_all}
use Rattle.sf_law.proofs.plan.Plan.with_mentions.Goals as goal

pub invariant_of-plan : goal.invariant_of-plan
invariant_of-plan c =
    let p = c.args.self in
    record {
      told = p.told;
      arena = p.arena;
      enough = enough_all p c.in_ok-asked.asked c.in_ok-asked.ensures.enough;
      few = c.in_ok-mentions.ensures.count;
      covered = covered_all p c.in_ok-mentions.mentions.items c.in_ok-mentions.ensures.covered;
      bound = p.bound;
      numbered = p.numbered;
      placed = p.placed;
      same = p.same;
      nothing = p.nothing;
    }

pub returns-clause-asked : goal.returns-clause-asked
unfolding plan_node_at
returns-clause-asked c = c.in_ok-asked.ensures.only
