use Rattle.std.proofs.Common.{subst, sym, slice_set, true}
use Rattle.sf_reach.specs.Graphs.{Enters, known, entered}
use Rattle.sf_reach.proofs.leading.enter.Goals as goal

pub returns-in_ok-push : goal.returns-in_ok-push
returns-in_ok-push c =
    let bs = c.args.seen.now in
    subst (λ ls. Enters c.args.template bs (slice_set bs c.args.template true) c.args.left.now.items ls) (sym c.in_ok-push.ensures.items) (entered c.if-not-seen-template.true)

pub returns-else-not-seen-template : goal.returns-else-not-seen-template
returns-else-not-seen-template c = known c.if-not-seen-template.false
