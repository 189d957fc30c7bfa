use Rattle.sfplay.specs.Tasks.{in_full, in_part}
use Rattle.sfplay.proofs.task.say.Goals as goal

pub returns-then-put-clause-written : goal.returns-then-put-clause-written
returns-then-put-clause-written g c = in_full c.if-put.ensures.written

pub returns-else-put-clause-written : goal.returns-else-put-clause-written
returns-else-put-clause-written g c = in_part c.if-put.ensures.front
