use Rattle.std.proofs.Common.{◌≡◌, ◌∙◌, List, map, All, refl, ap, sym, subst}
use Rattle.std.specs.List.{AllZip}
use Rattle.sf_expr.specs.declared.exprs.Exprs.{Exprs}
use Rattle.sf_term.specs.declared.program.Program.{Program}
use Rattle.sf_term.specs.Trees.{Template}
use Rattle.sf_term.specs.Arena.{tree, headers_of, templates_of}
use Rattle.sf_law.specs.Headers.{PlanHeader, rebodied}
use Rattle.sf_law.specs.Arena.{node_count, plan_tree, plan_expressions, plan_headers, plan_template, plan_templates}
use Rattle.sf_check.specs.Accepting.{checked_main}
use Rattle.sf_law.specs.declared.node.PlanId.{PlanId}
use Rattle.sf_law.specs.Copies.{CopiesTemplate}
use Rattle.sf_rewrite.specs.Plans.{Plans, PlansAll}
use Rattle.sf_rewrite.specs.Normal.{IsPlan}
use Rattle.sf_optimise.proofs.Whole.{anywhere, templates_planned}
use Rattle.sf_optimise.proofs.optimising.optimise.Goals as goal

pub returns : goal.returns
returns c =
    let p = c.program-program.result.now in
    let e = c.in_ok-plan.plan in
    let q = c.rewritten_terms.new.plan in
    let r = c.in_ok-listed.listed in
    let ids = c.in_ok-plans.plans.items in
    let holds = c.in_ok-plans.ensures.plans in
    let all = c.in_ok-plans.ensures.all in
    let grows = c.rewritten_terms.ensures.grows in
    let trees : (a : PlanId) → plan_tree r a ≡ plan_tree q a = λ a. c.in_ok-listed.ensures.trees a ∙ c.with_main-whole.ensures.trees a ∙ c.with_bodies.ensures.trees a in
    let expressions : plan_expressions r ≡ plan_expressions e = c.in_ok-listed.ensures.expressions ∙ c.with_main-whole.ensures.expressions ∙ c.with_bodies.ensures.expressions ∙ grows.keeps.expressions in
    let headers : plan_headers r ≡ map (rebodied ids (node_count q)) (plan_headers e) =
    c.in_ok-listed.ensures.templates ∙ c.with_main-whole.ensures.templates ∙ (rw c.deref-2.ensures.value at c.with_bodies.ensures.templates) ∙ ap (map (rebodied ids (node_count q))) grows.templates in
    let copied : AllZip (CopiesTemplate (plan_expressions r)) (headers_of p) (plan_headers e) = subst (λ (x : Exprs). AllZip (CopiesTemplate x) (headers_of p) (plan_headers e)) (sym expressions) c.in_ok-plan.ensures.copied in
    let both = templates_planned p q ids holds all r trees (headers_of p) (plan_headers e) copied in
    let main = anywhere p q ids holds all c.main.result c.plan_or_passing-main.result (rw c.deref.ensures.value at c.plan_or_passing-main.ensures.found) (rw c.deref.ensures.value at c.plan_or_passing-main.ensures.none) in
    let is : plan_tree r r.main ≡ plan_tree q c.plan_or_passing-main.result = ap (plan_tree r) (c.in_ok-listed.ensures.main ∙ c.with_main-whole.ensures.main) ∙ trees c.plan_or_passing-main.result in
    let term : tree p c.main.result ≡ (checked_main c.args.checked.now).body = ap (λ (p : Program). tree p c.main.result) c.program-program.ensures.program ∙ c.main.ensures.term in
    let templates = subst (λ (hs : List PlanHeader). PlansAll (templates_of p) (map (plan_template r) hs)) (sym headers) both.0 in
    record {
      network = λ f. record { templates = subst (λ (p : Program). PlansAll (templates_of p) (plan_templates r)) c.program-program.ensures.program templates; functions = refl };
      main = subst (λ t. Plans t (plan_tree r r.main)) term (subst (Plans (tree p c.main.result)) (sym is) main.0);
      normal_main = subst IsPlan (sym is) main.1;
      normal_templates = subst (λ (hs : List PlanHeader). All (λ (t : Template). IsPlan t.body) (map (plan_template r) hs)) (sym headers) both.1;
    }
