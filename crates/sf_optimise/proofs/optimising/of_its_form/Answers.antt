use Rattle.std.proofs.Common.{length}
use Rattle.sf_law.specs.Arena.{node_count}
use Rattle.sf_law.proofs.Copied.{parts_fit, no_pipeline}
use Rattle.sf_optimise.specs.Optimised.{id_of_term}
use Rattle.sf_optimise.proofs.Forms.{ok_then}
use Rattle.sf_optimise.proofs.Rewritten.{are_held, form_kept}
use Rattle.sf_optimise.proofs.optimising.of_its_form.Goals as goal

pub add-requires-clause-held : goal.add-requires-clause-held
add-requires-clause-held c =
    let p = c.args.program.now in
    let q = c.args.plan.now in
    let ids = c.args.plans.now in
    parts_fit (id_of_term ids) (length ids) (node_count q) (are_held p q ids c.requires.plans) p c.args.node c.in_ok-copy.copy c.in_ok-copy.ensures.same c.requires.below

pub add-requires-clause-whole : goal.add-requires-clause-whole
add-requires-clause-whole c = no_pipeline c.args.program.now (id_of_term c.args.plans.now) c.args.node c.in_ok-copy.copy c.in_ok-copy.ensures.same

pub returns-clause-ok : goal.returns-clause-ok
returns-clause-ok c =
    let p = c.args.program.now in
    let q = c.args.plan.now in
    let ids = c.args.plans.now in
    let node = c.args.node in
    ok_then c.add.result (λ a h. form_kept p q ids c.requires.kept c.requires.plans c.add.new.self node c.in_ok-copy.copy c.requires.keeps c.requires.held c.requires.below c.in_ok-copy.ensures.same h) c.add.ensures.ok
