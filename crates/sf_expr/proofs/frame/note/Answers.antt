use Rattle.std.proofs.Common.{◌∙◌, ap, not}
use Rattle.sf_expr.proofs.Apart.{seen_among}
use Rattle.sf_expr.proofs.frame.note.Goals as goal

pub returns-clause-new : goal.returns-clause-new
returns-clause-new c = c.in_ok-insert.ensures.added ∙ ap not (seen_among c.args.seen.now.keys c.args.name.now)
