use Rattle.std.proofs.Common.{ap, sym, ◌∙◌}
use Rattle.std.specs.Prelude.{is_some}
use Rattle.sf_expr.specs.Arena.{name_at}
use Rattle.sf_code.specs.Around.{names_by_id}
use Rattle.sf_code.specs.Compiling.{named_each, place_of_name}
use Rattle.sf_code.specs.PlaceView.{frame_patterns}
use Rattle.sf_code.proofs.Outside.{binds_before, binds_behind, pushed_kept, pushed_there}
use Rattle.sf_code.proofs.around.note.Goals as goal

pub returns-in_ok-push-clause-kept : goal.returns-in_ok-push-clause-kept
returns-in_ok-push-clause-kept c = pushed_kept c.args.exprs.now c.args.names.now.items _ c.args.name c.in_ok-push.ensures.items

pub returns-in_ok-push-clause-bound : goal.returns-in_ok-push-clause-bound
returns-in_ok-push-clause-bound c =
    let x = c.args.exprs.now in
    binds_behind (name_at x c.args.name) (frame_patterns c.args.patterns.now) (named_each (names_by_id x c.push.new.self.items)) (pushed_there x c.args.names.now.items _ c.args.name c.in_ok-push.ensures.items)

pub returns-else-not-binds-clause-bound : goal.returns-else-not-binds-clause-bound
returns-else-not-binds-clause-bound c =
    let x = c.args.exprs.now in
    binds_before (name_at x c.args.name) (frame_patterns c.args.patterns.now) _ (ap (λ y. is_some (place_of_name y (frame_patterns c.args.patterns.now))) (sym c.name_of.ensures) ∙ sym c.binds.ensures ∙ c.if-not-binds.false)
