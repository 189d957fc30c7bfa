use Rattle.std.proofs.Common.{List, Ok, Err, refl, ap, sym, ◌∙◌, true≢false}
use Rattle.std.proofs.lemmas.Result.{err_from_is_err_and}
use Rattle.sf_refusal.proofs.Explained.{memory_on}
use Rattle.sf_func.specs.Signatures.{signatures_in}
use Rattle.sf_term.specs.Parameters.{PlacedParameter, parameters_of}
use Rattle.sf_term.specs.Arena.{term_spot_at, templates_of}
use Rattle.sf_mean.specs.Contexts.{Bindings, outer_context, template_context}
use Rattle.sf_check.proofs.Judged.{template_refused, header_refused}
use Rattle.sf_check.proofs.Terms.{answers_under}
use Rattle.sf_check.proofs.typing.check_template.Goals as goal

pub returns-in_err-parameters-clause-err : goal.returns-in_err-parameters-clause-err
returns-in_err-parameters-clause-err c = memory_on _ _ c.from_residual.ensures.1

pub returns-in_err-output-clause-err : goal.returns-in_err-output-clause-err
returns-in_err-output-clause-err c =
    let p = c.args.program.now in
    let fs = signatures_in c.args.functions.now in
    let under = ap (λ (bs : Bindings). outer_context fs bs (templates_of p)) c.in_ok-parameters.ensures.bound ∙ ap (λ (qs : List PlacedParameter). template_context fs (parameters_of qs) (templates_of p)) c.parameters.ensures in
    let e = err_from_is_err_and c.from_residual-in_err-output.result c.from_residual-in_err-output.ensures.1 in
    rw (e.1, e.2) (template_refused fs p c.args.template.now c.args.template.now.body c.args.template.now.input _ refl refl (answers_under _ p _ _ _ _ (Err _) refl under c.in_err-output.ensures))

pub returns-clause-err : goal.returns-clause-err
returns-clause-err c =
    let p = c.args.program.now in
    let fs = signatures_in c.args.functions.now in
    let under = ap (λ (bs : Bindings). outer_context fs bs (templates_of p)) c.in_ok-parameters.ensures.bound ∙ ap (λ (qs : List PlacedParameter). template_context fs (parameters_of qs) (templates_of p)) c.parameters.ensures in
    header_refused fs p c.args.template.now c.args.template.now.body c.spot.result c.args.template.now.input _ _ _ refl (c.spot.ensures ∙ ap (term_spot_at p) c.body-body.ensures) refl c.output.ensures
    (answers_under _ p _ _ _ _ (Ok _) refl under c.in_ok-output.ensures) (λ e. true≢false (sym (c.if-same_type.ensures.1 e))) c.broken.ensures
