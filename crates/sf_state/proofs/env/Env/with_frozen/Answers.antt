use Rattle.std.proofs.lemmas.Result.{IfOk-weaker}
use Rattle.sf_mean.specs.Lives.{each_frozen}
use Rattle.sf_state.proofs.env.Env.with_frozen.Goals as goal

pub returns : goal.returns
returns c = IfOk-weaker c.with_members.result _ _ (λ names h μ e ms L N G. h μ e (each_frozen ms L c.args.wait) N (c.in_ok-frozen.ensures μ ms L G)) c.with_members.ensures
