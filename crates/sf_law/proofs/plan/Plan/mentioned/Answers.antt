use Rattle.std.proofs.Common.{◌≡◌, ◌<◌, length, get_or, subst}
use Rattle.sf_law.proofs.Covering.{covered_at}
use Rattle.sf_law.proofs.plan.Plan.mentioned.Goals as goal

pub returns-in-Some : goal.returns-in-Some
returns-in-Some c =
    let p = c.args.self.now in
    let m = c.in-Some.mentioned.now in
    let here = subst (λ ms. m ≡ get_or ms c.args.term.0 m) c.deref.ensures.value c.in-Some.ensures.lookup.1 in
    let within = subst (λ ms. c.args.term.0 < length ms) c.deref.ensures.value c.in-Some.ensures.lookup.3.0 in
    covered_at p c.args.term m within here
