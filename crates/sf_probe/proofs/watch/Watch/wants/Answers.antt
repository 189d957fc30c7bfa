use Rattle.sf_probe.proofs.Watching.{is_watched}
use Rattle.sf_probe.proofs.watch.Watch.wants.Goals as goal

pub returns-in-Some : goal.returns-in-Some
returns-in-Some c = rw c.in-Some.is (is_watched c.args.name.now c.in-Some.names.items c.is_among.result (rw c.deref.ensures.value at c.is_among.ensures))
