use Rattle.std.proofs.Common.{IsTrue, sym, ◌∙◌, ap, subst}
use Rattle.sf_expr.specs.Arena.{name_at}
use Rattle.sf_law.specs.Arena.{plan_expressions}
use Rattle.sf_law.specs.Mentioned.{is_mentioned}
use Rattle.sf_law.specs.Asking.{start_asked, argument_asked, IsLack}
use Rattle.sf_law.proofs.Enough.{start_lack}
use Rattle.sf_law.proofs.mentioned.Mentioned.lack_of_argument.Goals as goal

pub returns-in-Started : goal.returns-in-Started
returns-in-Started c =
    let m = c.args.self.now in
    let x = plan_expressions c.args.plan.now in
    let y = name_at x c.args.parameter.now.name in
    let k = c.in-Started.name in
    let w = c.in-Started.start in
    let handed = c.has-handed.ensures ∙ ap (λ k. is_mentioned x m (name_at x k)) c.name.ensures in
    let found = start_lack x m w k (λ asks. asks y) c.has-handed.result (sym handed) (λ asks among h. among y (sym handed ∙ h)) in
    subst (λ v. IsLack x (λ asks. IsTrue (argument_asked x asks y v)) m c.lack_of_start.result) (sym c.in-Started.is) (subst (λ o. IsLack x (λ asks. IsTrue (start_asked (asks y) (asks (name_at x k)) w)) m o) (sym c.lack_of_start.ensures) found)
