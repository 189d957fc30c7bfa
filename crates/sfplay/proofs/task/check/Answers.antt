use Rattle.std.proofs.Common.{refl}
use Rattle.sf_player.proofs.Known.{Keeps-same}
use Rattle.sfplay.specs.Tasks.{refuses, says}
use Rattle.sfplay.proofs.task.check.Goals as goal

pub returns-in-Ok-clause-checked : goal.returns-in-Ok-clause-checked
returns-in-Ok-clause-checked g c = says (c.in-Ok.ensures.accepted, refl) c.say.ensures.written

pub returns-in-Err-clause-checked : goal.returns-in-Err-clause-checked
returns-in-Err-clause-checked g c = refuses c.in-Err.ensures.refused (Keeps-same _)
