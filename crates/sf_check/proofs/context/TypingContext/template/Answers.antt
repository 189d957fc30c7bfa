use Rattle.std.proofs.Common.{◌≡◌, ◌∙◌, None, Some, sym, ap, subst, arith, length, map}
use Rattle.sf_value.specs.Values.{Name}
use Rattle.sf_expr.specs.Arena.{name_at}
use Rattle.sf_term.specs.Arena.{term_template, templates_of}
use Rattle.sf_mean.specs.Contexts.{signature_of, signature_named}
use Rattle.sf_check.specs.Names.{program_names}
use Rattle.sf_check.proofs.Templates.{header_at}
use Rattle.sf_check.proofs.Places.{place_in, none_named, named_within, named_is, signature_is}
use Rattle.sf_check.proofs.context.TypingContext.template.Goals as goal

pub returns-in_err-place-clause-absent : goal.returns-in_err-place-clause-absent
returns-in_err-place-clause-absent c =
    let p = c.args.self.now.program.now in
    let x = c.name_of-name.result.now in
    let name = c.name_of-name.ensures ∙ ap (λ x. name_at x c.args.name) c.expressions.ensures in
    let place = sym (place_in c.args.self.now.templates.now x (program_names p) c.args.self.now.listed) ∙ sym c.in_err-place.ensures.index in
    let none = signature_is x (templates_of p) (sym (none_named x (templates_of p) place)) in
    rw c.from_residual.ensures (subst (λ (x : Name). signature_named x (map signature_of (templates_of p)) ≡ None) name none)

pub returns-clause-found : goal.returns-clause-found
returns-clause-found c =
    let p = c.args.self.now.program.now in
    let x = c.name_of-name.result.now in
    let name = c.name_of-name.ensures ∙ ap (λ x. name_at x c.args.name) c.expressions.ensures in
    let place = sym (place_in c.args.self.now.templates.now x (program_names p) c.args.self.now.listed) ∙ sym c.in_ok-place.ensures.index in
    let within = named_within p x c.in_ok-place.place place in
    let same = ap length c.templates.ensures.templates in
    let h = c.index-templates-place.result in
    let found = signature_is x (templates_of p) (named_is p x c.in_ok-place.place place h (header_at p _ _ _ c.templates.ensures.templates (omega arith) c.index-templates-place.is)) in
    subst (λ (x : Name). signature_named x (map signature_of (templates_of p)) ≡ Some (signature_of (term_template p h))) name found
