use Rattle.std.proofs.Common.{◌∙◌, ◌++◌, ap}
use Rattle.sf_expr.specs.declared.scope.TypeScope as scoped
use Rattle.sf_expr.specs.Scopes.{frame_entries}
use Rattle.sf_expr.proofs.Scoped.{entries_pushed}
use Rattle.sf_expr.proofs.scope.TypeScope.within.Goals as goal

pub returns : goal.returns
returns c =
    let grown : scoped.TypeScope = record { frames = c.push.new.self } in
    entries_pushed c.in_ok-names.names grown _ c.in_ok-push.ensures.ok ∙ ap (λ es. frame_entries c.args.frame.now ++ es) c.in_ok-names.ensures
