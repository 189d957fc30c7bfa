use Rattle.std.proofs.Common.{ap, subst}
use Rattle.sf_expr.specs.Refusals.{Judges}
use Rattle.sf_expr.proofs.Bound.{on_err}
use Rattle.sf_term.specs.ParameterView.{kind_of_form}
use Rattle.sf_term.specs.Arena.{program_expressions, collection_node}
use Rattle.sf_mean.specs.Contexts.{names_of_values}
use Rattle.sf_differ.specs.Differences.{Explains, tells_nothing}
use Rattle.sf_differ.proofs.Told.{told_as, told_on}
use Rattle.sf_check.specs.Contexts.{program_in, context_in}
use Rattle.sf_check.specs.Answering.{AnswersTerm, AnswersMembers}
use Rattle.sf_check.specs.Differing.{ArgumentDiffers, value_argument, process_argument, members_argument}
use Rattle.sf_check.proofs.Unlike.{untold, argument_as}
use Rattle.sf_check.proofs.call_differing.argument_suits.Goals as goal

pub returns-in_err-given-in-Value-Value-clause-err : goal.returns-in_err-given-in-Value-Value-clause-err
returns-in_err-given-in-Value-Value-clause-err c = told_on _ _ c.from_residual.ensures.1 (untold c.in_err-given-in-Value-Value.ensures.err)

pub returns-in_ok-given-in-Value-Value-clause-err : goal.returns-in_ok-given-in-Value-Value-clause-err
returns-in_ok-given-in-Value-Value-clause-err c =
    let given = subst (Judges (program_expressions (program_in c.args.context.now)) (names_of_values (context_in c.args.context.now)) c.in-Value-Value.value) c.in_ok-given-in-Value-Value.ensures.ok c.constant_type.ensures in
    on_err c.suits_type.result
    (λ b h. argument_as (λ v k. Explains (ArgumentDiffers (program_in c.args.context.now) (context_in c.args.context.now) c.args.spot v k) b) c.in-Value-Value.is-0 (ap kind_of_form c.in-Value-Value.is-1) (told_as (λ d k. value_argument given k) h)) c.suits_type.ensures.err

pub returns-in_err-given-in-Process-Process-clause-err : goal.returns-in_err-given-in-Process-Process-clause-err
returns-in_err-given-in-Process-Process-clause-err c = told_on _ _ c.from_residual-in_err-given-in-Process-Process.ensures.1 (untold c.in_err-given-in-Process-Process.ensures.err)

pub returns-in_ok-given-in-Process-Process-clause-err : goal.returns-in_ok-given-in-Process-Process-clause-err
returns-in_ok-given-in-Process-Process-clause-err c =
    let given = subst (AnswersTerm (program_in c.args.context.now) (context_in c.args.context.now) c.in-Process-Process.part c.in-Process-Process.from) c.in_ok-given-in-Process-Process.ensures.ok c.output_of.ensures in
    on_err c.suits_type-in-Process-Process.result
    (λ b h. argument_as (λ v k. Explains (ArgumentDiffers (program_in c.args.context.now) (context_in c.args.context.now) c.args.spot v k) b) c.in-Process-Process.is-0 (ap kind_of_form c.in-Process-Process.is-1) (told_as (λ d k. process_argument given k) h)) c.suits_type-in-Process-Process.ensures.err

pub returns-in_err-given-in-Collection-Collection-clause-err : goal.returns-in_err-given-in-Collection-Collection-clause-err
returns-in_err-given-in-Collection-Collection-clause-err c = told_on _ _ c.from_residual-in_err-given-in-Collection-Collection.ensures.1 (untold c.in_err-given-in-Collection-Collection.ensures.err)

pub returns-in_ok-given-in-Collection-Collection-clause-err : goal.returns-in_ok-given-in-Collection-Collection-clause-err
returns-in_ok-given-in-Collection-Collection-clause-err c =
    let given = subst (AnswersMembers (program_in c.args.context.now) (context_in c.args.context.now) (collection_node (program_in c.args.context.now) c.in-Collection-Collection.members) c.in-Collection-Collection.from) c.in_ok-given-in-Collection-Collection.ensures.ok c.members_at.ensures in
    on_err c.suits_members.result
    (λ b h. argument_as (λ v k. Explains (ArgumentDiffers (program_in c.args.context.now) (context_in c.args.context.now) c.args.spot v k) b) c.in-Collection-Collection.is-0 (ap kind_of_form c.in-Collection-Collection.is-1) (told_as (λ d k. members_argument given k) h)) c.suits_members.ensures.err

pub returns-in-Value-Process-clause-err : goal.returns-in-Value-Process-clause-err
returns-in-Value-Process-clause-err c = tells_nothing

pub returns-in-Value-Collection-clause-err : goal.returns-in-Value-Collection-clause-err
returns-in-Value-Collection-clause-err c = tells_nothing

pub returns-in-Process-Value-clause-err : goal.returns-in-Process-Value-clause-err
returns-in-Process-Value-clause-err c = tells_nothing

pub returns-in-Process-Collection-clause-err : goal.returns-in-Process-Collection-clause-err
returns-in-Process-Collection-clause-err c = tells_nothing

pub returns-in-Collection-Value-clause-err : goal.returns-in-Collection-Value-clause-err
returns-in-Collection-Value-clause-err c = tells_nothing

pub returns-in-Collection-Process-clause-err : goal.returns-in-Collection-Process-clause-err
returns-in-Collection-Process-clause-err c = tells_nothing
