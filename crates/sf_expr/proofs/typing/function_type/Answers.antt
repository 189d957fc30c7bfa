use Rattle.sf_expr.specs.Contexts.{exprs_in}
use Rattle.sf_expr.proofs.Judged.{answers_function, answers_judge_function, judged_types_function}
use Rattle.sf_expr.proofs.typing.function_type.Goals as goal

pub returns-clause-judged : goal.returns-clause-judged
returns-clause-judged c = answers_function (exprs_in c.args.context.now) c.args.function c.args.at c.args.from.now _ c.judge_part.result c.pattern-pattern.ensures c.body.ensures.value c.judge_part.ensures.judged

pub returns-clause-first : goal.returns-clause-first
returns-clause-first c = answers_judge_function (exprs_in c.args.context.now) _ c.args.function c.args.from.now c.args.at c.judge_part.result c.judge_part.ensures.fits (returns-clause-judged c)

pub returns-clause-typed : goal.returns-clause-typed
returns-clause-typed c = judged_types_function (exprs_in c.args.context.now) _ c.args.function c.args.from.now c.args.at c.judge_part.result (returns-clause-first c)
