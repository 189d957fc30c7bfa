use Rattle.std.proofs.Common.{◌≡◌, length, List, map, ap, ◌∙◌, arith}
use Rattle.sf_term.specs.Headers.{Header}
use Rattle.sf_term.specs.Arena.{term_template}
use Rattle.sf_grammar.specs.Spelling.{spell_template, spell_templates}
use Rattle.sf_print.specs.Drafts.{append_tokens}
use Rattle.sf_print.proofs.Listing.{template_more, templates_end}
use Rattle.sf_print.proofs.network.write_templates.Goals as goal

pub loop-template-preserved : goal.loop-template-preserved
loop-template-preserved c =
    let f = λ (h : Header). spell_template c.args.version (term_template c.args.program.now h) in
    template_more f c.templates-template-items.result.now c.loop-template.template-index c.template-item.result c.args.draft.now c.loop-template.draft c.write_template.new.draft
    c.loop-template-test.true c.loop-template.invariant (c.in_ok-write_template.ensures ∙ ap (λ h. append_tokens c.loop-template.draft (f h)) c.template-item.is)

pub returns : goal.returns
returns c =
    let v = c.args.version in
    let p = c.args.program.now in
    let hs = c.templates-template-items.result.now in
    let all : length hs ≡ c.loop-template.template-index = omega arith in
    templates_end v p hs c.loop-template.template-index c.args.draft.now c.loop-template.draft all c.loop-template.invariant
    ∙ ap (λ (ys : List Header). append_tokens c.args.draft.now (spell_templates v (map (term_template p) ys))) c.templates-template-items.ensures.templates
