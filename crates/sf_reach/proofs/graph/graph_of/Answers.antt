use Rattle.std.proofs.Common.{◌+◌, [], length, subst, sym, ap, arith}
use Rattle.sf_reach.specs.Graphs.{AddsCalls, IsGraphOf}
use Rattle.sf_reach.proofs.Named.{header_at}
use Rattle.sf_reach.proofs.Gathered.{IsGraphOfFirst, no_template, one_template_more, all_templates, graph_within}
use Rattle.sf_reach.proofs.graph.graph_of.Goals as goal
use Rattle.sf_reach.proofs.graph.graph_of.Goals.{After-loop-template}

pub loop-template-init : goal.loop-template-init
loop-template-init c = subst (λ g. IsGraphOfFirst c.args.program.now g 0) (sym c.new-graph.ensures.items) (no_template c.args.program.now)

pub loop-template-preserved : goal.loop-template-preserved
loop-template-preserved c =
    let p = c.args.program.now in
    let h = c.template-item.result in
    let n = c.loop-template.template-index in
    let here = header_at p c.templates-template-items.result.now n h c.templates-template-items.ensures.templates c.loop-template-test.true c.template-item.is in
    let calls = c.gather.new.calls.items in
    let own : AddsCalls p h.body [] calls = subst (λ t. AddsCalls p t [] calls) c.body.ensures (subst (λ old. AddsCalls p c.body.result old calls) c.new-items.ensures.items c.in_ok-gather.ensures) in
    subst (λ g. IsGraphOfFirst p g (n + 1)) (sym c.in_ok-push.ensures.items) (one_template_more p c.loop-template.graph.items n h calls here own c.loop-template.invariant)

whole : (c : After-loop-template) → IsGraphOf c.args.program.now c.loop-template.graph.items
whole c =
    let p = c.args.program.now in
    let same = ap length c.templates-template-items.ensures.templates in
    let end = c.loop-template.auto.template-index-end in
    all_templates p c.loop-template.graph.items c.loop-template.template-index (omega (arith, same, end, c.loop-template-test.false)) c.loop-template.invariant

pub returns-clause-graph : goal.returns-clause-graph
returns-clause-graph c = whole (goal.at.returns-clause-graph c).After-loop-template

pub returns-clause-within : goal.returns-clause-within
returns-clause-within c = graph_within c.args.program.now c.loop-template.graph.items (whole (goal.at.returns-clause-within c).After-loop-template)
