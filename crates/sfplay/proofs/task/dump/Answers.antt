use Rattle.sf_player.proofs.Known.{Keeps-same}
use Rattle.sfplay.specs.Tasks.{refuses, says}
use Rattle.sfplay.proofs.task.dump.Goals as goal

pub returns-in-Ok-clause-dumped : goal.returns-in-Ok-clause-dumped
returns-in-Ok-clause-dumped g c = says c.in-Ok.ensures.dumped (rw c.deref.ensures.value at c.say.ensures.written)

pub returns-in-Err-clause-dumped : goal.returns-in-Err-clause-dumped
returns-in-Err-clause-dumped g c = refuses c.in-Err.ensures.refused (Keeps-same _)
