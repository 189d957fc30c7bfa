use Rattle.std.proofs.Common.{◌∙◌, sym, subst, arith}
use Rattle.sf_expr.specs.Arena.{Extends}
use Rattle.sf_term.specs.Arena.{program_expressions, TermPartsBelow}
use Rattle.sf_law.specs.Copies.{plan_id}
use Rattle.sf_law.proofs.Copied.{shows_next, shows_all, stand_same, parts_fit, no_pipeline}
use Rattle.sf_law.proofs.plain.copy_terms.Goals as goal

pub add-requires-clause-held : goal.add-requires-clause-held
add-requires-clause-held c =
    let p = c.args.program.now in
    let node = c.node-node.result in
    let below = subst (λ k. TermPartsBelow p node k) c.term.ensures.number c.node-node.ensures.below in
    rw c.loop-number.invariant.count (parts_fit plan_id c.loop-number.number c.loop-number.number (stand_same c.loop-number.number) p node c.in_ok-copy.copy c.in_ok-copy.ensures.same below)

pub add-requires-clause-whole : goal.add-requires-clause-whole
add-requires-clause-whole c = no_pipeline c.args.program.now plan_id c.node-node.result c.in_ok-copy.copy c.in_ok-copy.ensures.same

pub loop-number-preserved : goal.loop-number-preserved
loop-number-preserved c =
    let p = c.args.program.now in
    let old = c.loop-number.plan in
    let i = c.loop-number in
    let node = c.node-node.result in
    let kept = subst (λ x. Extends (program_expressions p) x) (sym i.invariant.expressions) c.requires.kept in
    let below = subst (λ k. TermPartsBelow p node k) c.term.ensures.number c.node-node.ensures.below in
    let added = c.in_ok-add.ensures.ok in
    record {
      expressions = c.add.ensures.kept.expressions ∙ i.invariant.expressions;
      count = omega (arith, added.counted, i.invariant.count);
      headers = c.add.ensures.templates ∙ i.invariant.headers;
      shows = shows_next p old c.add.new.self node c.in_ok-copy.copy c.term.result c.in_ok-add.field-0 i.number kept i.invariant.count c.term.ensures.number i.invariant.shows c.node-node.ensures.builds below c.node-node.ensures.held c.in_ok-copy.ensures.same added c.add.ensures.kept;
    }

pub returns-clause-terms : goal.returns-clause-terms
returns-clause-terms c = shows_all c.args.program.now c.loop-number.plan c.loop-number.number (omega (arith, c.len-number-end.ensures, c.loop-number-test.false)) c.loop-number.invariant.count c.loop-number.invariant.shows
