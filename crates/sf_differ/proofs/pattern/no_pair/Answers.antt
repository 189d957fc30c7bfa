use Rattle.std.proofs.Common.{refl}
use Rattle.sf_differ.specs.Differences.{tells, lacks_room}
use Rattle.sf_differ.proofs.pattern.no_pair.Goals as goal

pub returns-in-Ok : goal.returns-in-Ok
returns-in-Ok c = tells (refl, c.in-Ok.ensures.same, refl)

pub returns-in-Err : goal.returns-in-Err
returns-in-Err c = lacks_room
