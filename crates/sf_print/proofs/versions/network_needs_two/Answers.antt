use Rattle.std.proofs.Common.{◌≡◌, true, length, List, map, sym, ap, ◌∙◌, arith}
use Rattle.std.proofs.lemmas.List.Folds.{list_any_at}
use Rattle.sf_term.specs.Headers.{Header}
use Rattle.sf_term.specs.Arena.{term_template}
use Rattle.sf_print.specs.Versions.{template_needs_two, network_needs_two}
use Rattle.sf_print.proofs.Needing.{none_found, templates_need}
use Rattle.sf_print.proofs.versions.network_needs_two.Goals as goal

pub returns-then-template_needs_two : goal.returns-then-template_needs_two
returns-then-template_needs_two c =
    let p = c.args.program.now in
    let hs = c.templates-template-items.result.now in
    let needs = λ (h : Header). template_needs_two (term_template p h) in
    let here : needs c.template-item.result ≡ true = sym c.template_needs_two.ensures ∙ c.if-template_needs_two.true in
    sym (list_any_at needs hs c.loop-template.template-index c.template-item.result c.loop-template-test.true (ap needs (sym c.template-item.is) ∙ here)) ∙ sym (templates_need p hs)
    ∙ ap (λ (ys : List Header). network_needs_two (map (term_template p) ys)) c.templates-template-items.ensures.templates

pub returns : goal.returns
returns c =
    let p = c.args.program.now in
    let hs = c.templates-template-items.result.now in
    let needs = λ (h : Header). template_needs_two (term_template p h) in
    let all : length hs ≡ c.loop-template.template-index = omega arith in
    none_found needs hs c.loop-template.template-index all c.loop-template.invariant ∙ sym (templates_need p hs)
    ∙ ap (λ (ys : List Header). network_needs_two (map (term_template p) ys)) c.templates-template-items.ensures.templates
