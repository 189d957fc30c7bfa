use mathlib.Core.Path.{subst₂}
use Rattle.sf_value.specs.Values.{Kind}
use Rattle.sf_term.specs.declared.node.TermId.{TermId}
use Rattle.sf_check.specs.Contexts.{program_in, context_in}
use Rattle.sf_check.specs.Answering.{AnswersTerm}
use Rattle.sf_check.proofs.Terms.{answers_under, memory_answers}
use Rattle.sf_check.proofs.typing.template_output.Goals as goal

pub returns-in_err-context : goal.returns-in_err-context
returns-in_err-context c = memory_answers _ _ c.args.template.now.body _ _ c.from_residual.ensures.1

pub returns : goal.returns
returns c =
    let context = c.in_ok-context.context in
    answers_under (program_in context) _ (context_in context) _ _ _ c.output_of.result c.in_ok-context.ensures.program c.in_ok-context.ensures.context
    (subst₂ (λ (t : TermId) (a : Kind). AnswersTerm (program_in context) (context_in context) t a c.output_of.result) c.body.ensures c.input-input.ensures c.output_of.ensures)
