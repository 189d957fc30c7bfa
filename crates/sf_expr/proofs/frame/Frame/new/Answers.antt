use Rattle.sf_expr.proofs.Scoped.{frame_empty}
use Rattle.sf_expr.proofs.frame.Frame.new.Goals as goal

pub returns : goal.returns
returns c = frame_empty _ c.new.ensures.items
