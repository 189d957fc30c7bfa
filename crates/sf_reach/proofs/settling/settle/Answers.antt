use Rattle.std.proofs.Common.{◌≡◌, ◌<◌, length, All, true, subst, sym, ◌∙◌}
use Rattle.sf_reach.specs.declared.graph.Call.{Call}
use Rattle.sf_reach.specs.Graphs.{marked}
use Rattle.sf_reach.proofs.Gathered.{row_at}
use Rattle.sf_reach.proofs.Led.{one_settled}
use Rattle.sf_reach.proofs.settling.settle.Goals as goal
use Rattle.sf_reach.proofs.settling.settle.Goals.{then-not-settled-template, else-not-settled-template}

pub are_settled-more-requires : goal.are_settled-more-requires
are_settled-more-requires c =
    let g = c.args.graph.now in
    let is = c.items.ensures ∙ row_at g c.args.template c.index-graph-template.result c.requires.here c.index-graph-template.is in
    subst (λ n. All (λ (d : Call). d.callee < n) c.items.result.now) (sym c.requires.long) (subst (All (λ (d : Call). d.callee < length g)) (sym is) (c.requires.within c.args.template))

pub returns-then-more : goal.returns-then-more
returns-then-more c =
    let g = c.args.graph.now in
    elim c.if-not-settled-template.branch [
      | then-not-settled-template w ↦
          let is = w.items.ensures ∙ row_at g c.args.template w.index-graph-template.result c.requires.here w.index-graph-template.is in
          let all = w.are_settled-more.ensures.0 (sym w.more-is ∙ c.if-more.true) in
          one_settled g c.args.settled.now c.args.template c.requires.settled (subst (All (λ (d : Call). marked c.args.settled.now d.callee ≡ true)) is all)
      | else-not-settled-template w ↦ let e = w.more-is in let k = c.if-more.true in absurd cc
    ]
