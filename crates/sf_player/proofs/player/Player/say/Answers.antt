use Rattle.std.proofs.Common.{refl}
use Rattle.sf_player.proofs.Samples.{value_said, stop_halts, memory_halts}
use Rattle.sf_player.proofs.player.Player.say.Goals as goal

pub returns-in-Ok-gather : goal.returns-in-Ok-gather
returns-in-Ok-gather g c = λ n m now line a asked sample S at slow saves taken probes.
    value_said c.args.sample_time asked sample (rw c.in-Ok.is at S) at slow saves taken probes refl refl refl refl c.in-Ok-gather.ensures.ok

pub returns-in-Err-gather : goal.returns-in-Err-gather
returns-in-Err-gather g c = λ n m now line a asked sample S at slow saves taken probes. record {
  halts = memory_halts c.args.sample_time asked sample at;
  said = c.in-Err-gather.ensures.err;
}

pub returns-in-Err : goal.returns-in-Err
returns-in-Err g c = λ n m now line a asked sample S at slow saves taken probes. record {
  halts = stop_halts c.args.sample_time asked sample (rw c.in-Err.is at S) at;
  said = refl;
}
