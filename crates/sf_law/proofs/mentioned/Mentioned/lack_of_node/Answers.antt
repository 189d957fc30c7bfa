use Rattle.std.proofs.Common.{false, IsTrue, refl, sym, ◌∙◌, ap, subst}
use Rattle.std.specs.Prelude.{slice_index_or}
use Rattle.sf_expr.specs.Arena.{name_at}
use Rattle.sf_law.specs.Headers.{PlanHeader, no_header}
use Rattle.sf_law.specs.Asking.{start_asked, arguments_asked, is_asked, IsLack}
use Rattle.sf_law.specs.Arena.{plan_expressions, plan_headers}
use Rattle.sf_law.proofs.Enough.{start_lack}
use Rattle.sf_law.proofs.mentioned.Mentioned.lack_of_node.Goals as goal

pub returns-in-Started : goal.returns-in-Started
returns-in-Started c =
    let p = c.args.plan.now in
    let m = c.args.self.now in
    let x = plan_expressions p in
    let k = c.in-Started.name in
    let w = c.in-Started.start in
    let found = start_lack x m w k (λ asks. false) false refl (λ asks among h. h) in
    subst (λ n. IsLack x (λ asks. IsTrue (is_asked x (plan_headers p) asks n)) m c.lack_of_start.result) (sym c.in-Started.is) (subst (λ o. IsLack x (λ asks. IsTrue (start_asked false (asks (name_at x k)) w)) m o) (sym c.lack_of_start.ensures) found)

pub returns-in-Call : goal.returns-in-Call
returns-in-Call c =
    let p = c.args.plan.now in
    let m = c.args.self.now in
    let parameters = c.parameters.ensures ∙ ap (λ (h : PlanHeader). h.parameters) c.template.ensures.value in
    let r = c.lack_of_arguments.result in
    let x = plan_expressions p in
    let found = c.lack_of_arguments.ensures in
    let over = subst (λ qs. IsLack x (λ asks. IsTrue (arguments_asked x asks qs c.deref.result.now)) m r) parameters found in
    let all = subst (λ vs. IsLack x (λ asks. IsTrue (arguments_asked x asks (slice_index_or (plan_headers p) c.in-Call.template.0 no_header).parameters vs)) m r) c.deref.ensures.value over in
    subst (λ n. IsLack x (λ asks. IsTrue (is_asked x (plan_headers p) asks n)) m r) (sym c.in-Call.is) all
