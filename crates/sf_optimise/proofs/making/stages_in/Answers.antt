use Rattle.std.proofs.Common.{◌≡◌, ◌∷◌, [], ap, arith}
use Rattle.sf_law.specs.Arena.{plan_trees}
use Rattle.sf_law.specs.Entries.{pipeline}
use Rattle.sf_optimise.proofs.Forms.{built_as, pipeline_stages, single_stage, alone}
use Rattle.sf_optimise.proofs.making.stages_in.Goals as goal

pub returns-in-Pipeline-clause-stages : goal.returns-in-Pipeline-clause-stages
returns-in-Pipeline-clause-stages c = λ P.
    let stages = pipeline_stages (built_as c.in-Pipeline.is c.node.ensures.builds) P in
    rw (c.in_ok-extend_from_slice.ensures.items, c.new-stages.ensures.items, c.deref.ensures.value) stages

pub returns : goal.returns
returns c =
    let items : c.push.new.self.items ≡ c.args.id ∷ [] = rw c.new-stages.ensures.items at c.in_ok-push.ensures.items in
    let p = c.args.plan.now in
    record {
      is = ap (λ ids. pipeline (plan_trees p ids)) items;
      held = λ h. rw items (omega arith);
      some = omega (arith, c.in_ok-push.ensures.len);
      stages = λ P. alone p items P (single_stage c.node.ensures.builds c.in_default.not-Pipeline c.requires P);
    }
