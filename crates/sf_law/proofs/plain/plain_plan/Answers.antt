use Rattle.std.proofs.Common.{◌∙◌, ap, sym, subst}
use Rattle.std.specs.List.{AllZip}
use Rattle.sf_term.specs.Arena.{headers_of}
use Rattle.sf_law.specs.Arena.{plan_tree, plan_expressions, plan_headers}
use Rattle.sf_law.specs.Copies.{plan_id, CopiesTemplate, ShowsTerms}
use Rattle.sf_law.proofs.Copied.{same_network}
use Rattle.sf_law.proofs.plain.plain_plan.Goals as goal

pub returns : goal.returns
returns c =
    let q = c.in_ok-listed.listed in
    let p = c.args.program.now in
    let shows : ShowsTerms p q = λ t. c.in_ok-listed.ensures.trees (plan_id t) ∙ c.with_main.ensures.trees (plan_id t) ∙ c.in_ok-plan.ensures.terms t in
    let headers = c.in_ok-listed.ensures.templates ∙ c.with_main.ensures.templates ∙ c.in_ok-plan.ensures.templates in
    let expressions = c.in_ok-listed.ensures.expressions ∙ c.with_main.ensures.expressions ∙ c.in_ok-plan.ensures.expressions in
    let held = subst (λ ms. AllZip (CopiesTemplate (plan_expressions c.in_ok-empty.empty)) (headers_of p) ms) (sym headers) c.in_ok-empty.ensures.copied in
    let copied = subst (λ y. AllZip (CopiesTemplate y) (headers_of p) (plan_headers q)) (sym expressions) held in
    record {
      network = λ f. same_network f p q shows copied;
      main = ap (λ a. plan_tree q a) (c.in_ok-listed.ensures.main ∙ c.with_main.ensures.main ∙ c.plan_id.ensures) ∙ shows c.args.main;
    }
