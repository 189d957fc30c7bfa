use Rattle.sf_player.specs.Telling.{refuses}
use Rattle.sf_player.proofs.Known.{Keeps-same}
use Rattle.sf_player.proofs.session.play.Goals as goal

pub returns-in-Err-clause-told : goal.returns-in-Err-clause-told
returns-in-Err-clause-told g c = refuses c.in-Err.ensures.refused (Keeps-same _) (Keeps-same _)

pub play_accepted-requires-clause-fits : goal.play_accepted-requires-clause-fits
play_accepted-requires-clause-fits g c = c.in-Ok.ensures.accepted.accepted

pub returns-in-Ok-clause-told : goal.returns-in-Ok-clause-told
returns-in-Ok-clause-told g c = c.play_accepted.ensures.told c.args.net.now c.in-Ok.ensures.accepted.text
