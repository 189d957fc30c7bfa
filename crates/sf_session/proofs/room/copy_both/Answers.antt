use Rattle.std.proofs.Common.{arith}
use Rattle.sf_session.proofs.Taking.{written}
use Rattle.sf_session.proofs.room.copy_both.Goals as goal

pub returns-clause-front : goal.returns-clause-front
returns-clause-front c = written c.copy_front-of_first.result c.copy_front-of_second.result c.args.first.now c.args.second.now c.copy_front-of_first.new.room c.copy_front-of_second.new.room _ c.copy_front-of_first.ensures.count c.copy_front-of_second.ensures.count (omega arith) c.copy_front-of_first.ensures.front c.copy_front-of_second.ensures.front
