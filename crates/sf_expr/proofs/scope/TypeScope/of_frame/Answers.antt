use Rattle.std.proofs.Common.{◌∙◌, ◌++◌, ◌∷◌, [], List, Option, Some, Bor, ap}
use Rattle.sf_expr.specs.declared.frame.Frame.{Frame}
use Rattle.sf_expr.proofs.Scoped.{entries_one}
use Rattle.sf_expr.proofs.scope.TypeScope.of_frame.Goals as goal

pub returns : goal.returns
returns c = entries_one _ c.args.frame (c.in_ok-push.ensures.ok ∙ ap (λ (fs : List (Option (Bor Frame))). fs ++ Some c.args.frame ∷ []) c.new-frames.ensures.items)
