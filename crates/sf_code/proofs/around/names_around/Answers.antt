use Rattle.std.proofs.Common.{ap, ◌∙◌}
use Rattle.std.proofs.lemmas.Result.{IfOk-weaker}
use Rattle.sf_expr.specs.Arena.{expression}
use Rattle.sf_code.specs.Around.{names_by_id, patterns_around}
use Rattle.sf_code.specs.Compiling.{named_each}
use Rattle.sf_code.specs.PlaceView.{frame_patterns}
use Rattle.sf_code.proofs.Outside.{closed_more}
use Rattle.sf_code.proofs.around.names_around.Goals as goal

pub returns-clause-closed : goal.returns-clause-closed
returns-clause-closed c =
    let x = c.args.exprs.now in
    let own = rw c.deref.ensures.value at c.in_ok-own.ensures.bound in
    IfOk-weaker c.around_of.result _ _
    (λ around more. closed_more (named_each (names_by_id x c.gather.new.names.items)) (patterns_around x around) (λ y h. more y (rw c.deref-2.ensures.value (own y h))) (expression x c.args.id) (frame_patterns c.args.patterns.now) c.in_ok-gather.ensures.closed)
    (c.around_of.ensures.bound x)

pub returns-clause-fewest : goal.returns-clause-fewest
returns-clause-fewest c = λ h. c.around_of.ensures.fewest (c.deref-2.ensures.value ∙ c.in_ok-own.ensures.fewest (c.deref.ensures.value ∙ c.in_ok-gather.ensures.fewest h ∙ c.new-names.ensures.items))
