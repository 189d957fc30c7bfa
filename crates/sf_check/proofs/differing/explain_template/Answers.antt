use Rattle.std.proofs.Common.{List, refl, ap, ◌∙◌}
use Rattle.sf_func.specs.Signatures.{signatures_in}
use Rattle.sf_term.specs.Parameters.{PlacedParameter, parameters_of}
use Rattle.sf_term.specs.Arena.{term_spot_at, templates_of}
use Rattle.sf_mean.specs.Contexts.{Bindings, outer_context, template_context}
use Rattle.sf_expr.proofs.Bound.{on_err}
use Rattle.sf_differ.proofs.Told.{told_as, told_on, room_on}
use Rattle.sf_check.proofs.Apart.{exactly_as, within_template, of_header}
use Rattle.sf_check.proofs.differing.explain_template.Goals as goal

pub returns-in_err-parameters : goal.returns-in_err-parameters
returns-in_err-parameters c = room_on _ _ c.from_residual.ensures.1

pub returns-in_err-output : goal.returns-in_err-output
returns-in_err-output c =
    let p = c.args.program.now in
    let fs = signatures_in c.args.functions.now in
    let under = ap (λ (bs : Bindings). outer_context fs bs (templates_of p)) c.in_ok-parameters.ensures.bound ∙ ap (λ (qs : List PlacedParameter). template_context fs (parameters_of qs) (templates_of p)) c.parameters.ensures in
    told_on _ _ c.from_residual-in_err-output.ensures.1 (told_as (λ d k. within_template fs p c.args.template.now under refl refl k) c.in_err-output.ensures.err)

pub returns-in_err-clone_in : goal.returns-in_err-clone_in
returns-in_err-clone_in c = room_on _ _ c.from_residual-in_err-clone_in.ensures.1

pub returns : goal.returns
returns c =
    let p = c.args.program.now in
    let fs = signatures_in c.args.functions.now in
    let under = ap (λ (bs : Bindings). outer_context fs bs (templates_of p)) c.in_ok-parameters.ensures.bound ∙ ap (λ (qs : List PlacedParameter). template_context fs (parameters_of qs) (templates_of p)) c.parameters.ensures in
    on_err c.suited.result
    (λ b h. told_as (λ d k. of_header fs p c.args.template.now under refl refl c.in_ok-output.ensures.ok (c.spot.ensures ∙ ap (term_spot_at p) c.body-body.ensures) (exactly_as (c.in_ok-clone_in.ensures.same ∙ c.output.ensures) k)) h) c.suited.ensures.err
