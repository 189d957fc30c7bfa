use Rattle.sfmeter.proofs.Abreast.{rewritten_means}
use Rattle.sfmeter.proofs.meters.Meters.new.Goals as goal
use Rattle.sf_state.specs.Machine.{machine}

pub returns : goal.returns
returns g c = record {
  same = rewritten_means c.args.checked.now c.in_ok-written.written c.in_ok-rewritten.rewritten c.in_ok-written.ensures c.in_ok-rewritten.ensures _;
  lived = record {
    plain = rw c.main.ensures at c.unborn.ensures (machine _ c.in_ok-written.written);
    rewritten = rw c.main-2.ensures at c.unborn-2.ensures (machine _ c.in_ok-rewritten.rewritten);
  };
}
