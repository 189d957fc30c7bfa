use Rattle.sf_value.proofs.Sought.{index_grown}
use Rattle.sf_value.proofs.keys.indexed.Goals as goal

pub loop-key-preserved : goal.loop-key-preserved
loop-key-preserved c =
    index_grown c.args.keys.now c.loop-key.key-index c.key-item.result c.loop-key-test.true c.key-item.is c.requires c.loop-key.index c.insert.new.self c.in_ok-insert.field-0 c.loop-key.invariant c.in_ok-insert.ensures.added c.in_ok-insert.ensures.keys
