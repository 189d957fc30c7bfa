use Rattle.sf_lines.proofs.Feeds.{feed_found}
use Rattle.sf_lines.proofs.cutter.feed_in.Goals as goal

pub returns : goal.returns
returns c = feed_found _ _ c.memchr.ensures
