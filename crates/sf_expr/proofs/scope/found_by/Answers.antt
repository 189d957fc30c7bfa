use Rattle.sf_expr.proofs.Scoped.{frame_hides, frame_shows}
use Rattle.sf_expr.proofs.scope.found_by.Goals as goal

pub returns-clause-found : goal.returns-clause-found
returns-clause-found c = frame_hides c.args.name.now c.args.frame c.in_ok-frame.field-0 c.in_ok-frame.was c.find.result c.find.ensures.found

pub returns-clause-absent : goal.returns-clause-absent
returns-clause-absent c = frame_shows c.args.name.now c.args.frame c.in_ok-frame.field-0 c.in_ok-frame.was c.find.result c.find.ensures.absent
