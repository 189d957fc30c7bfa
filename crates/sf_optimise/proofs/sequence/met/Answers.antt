use Rattle.std.proofs.Common.{◌≡◌, [], ◌∙◌, sym, subst, arith}
use Rattle.sf_optimise.proofs.Boundary.{met_nothing, met_one, met_all, met_every, no_items}
use Rattle.sf_optimise.specs.Making.{Meets}
use Rattle.sf_law.specs.Arena.{plan_tree, plan_trees}
use Rattle.sf_optimise.proofs.sequence.met.Goals as goal

pub loop-last-init : goal.loop-last-init
loop-last-init c = record { met = met_nothing c.requires.stages c.requires.held c.requires.stage c.requires.is_stage }

pub loop-last-preserved : goal.loop-last-preserved
loop-last-preserved c = record {
  met = met_one c.pop.new.self.items c.in-Some.last c.loop-last.invariant.met c.in-Some.ensures.items c.merged.ensures.grows (rw c.in-Some-2.is at c.in_ok-both.ensures.ok);
}

pub returns-in-None-clause-ok : goal.returns-in-None-clause-ok
returns-in-None-clause-ok c =
    met_all c.pop.new.self.items c.in-Some.last c.loop-last.invariant.met c.in-Some.ensures.items c.merged.ensures.grows (rw c.in-None.is at c.in_ok-both.ensures.ok) c.in_ok-push-in-None.ensures.items

pub returns-clause-ok : goal.returns-clause-ok
returns-clause-ok c =
    let q = c.loop-last.plan in
    let before : c.loop-last.stages.items ≡ [] = no_items c.loop-last.stages.items (omega (arith, c.in_default.ensures.cases.0, c.loop-last.stages.ok.0, c.loop-last.stages.ok.1, c.loop-last.stages.small)) in
    let after : c.pop.new.self.items ≡ [] = no_items c.pop.new.self.items (omega (arith, c.in_default.ensures.cases.1, c.pop.new.self.ok.0, c.pop.new.self.ok.1, c.pop.new.self.small)) in
    subst (λ ids. Meets (plan_trees c.args.plan.now c.args.stages.now.items) (plan_tree c.args.plan.now c.args.stage) (plan_trees q ids) (plan_tree q c.loop-last.head)) (before ∙ sym after) (met_every c.loop-last.invariant.met before)
