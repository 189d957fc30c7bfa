use Rattle.std.proofs.Common.{refl, sym, ◌∙◌, subst}
use Rattle.sf_engine.specs.Histories.{save_kept}
use Rattle.sf_engine.specs.Running.{AreSavesOf}
use Rattle.sf_engine.proofs.Going.{runs_on}
use Rattle.sf_engine.proofs.Saving.{kept_alike}
use Rattle.sf_engine.proofs.engine.Engine.keep.Goals as goal
use Rattle.sf_state.specs.Machine.{machine}

pub returns-clause-kept : goal.returns-clause-kept
returns-clause-kept g c = λ n m L S R. runs_on R refl refl refl refl R.state R.time R.last R.history
    (subst (λ vs. AreSavesOf (machine (g.F.Holds.answers c.args.self.now.functions) c.args.self.now.plan) m vs (save_kept c.args.name.now L S)) (sym c.in_ok-insert.ensures.entries)
    (kept_alike (machine (g.F.Holds.answers c.args.self.now.functions) c.args.self.now.plan) m c.args.name.now c.in_ok-key.key _ L c.args.self.now.saves.entries S c.in_ok-key.ensures.ok
    (record { state = c.in_ok-share.ensures _ _ _ R.state; time = R.time; last = sym R.last ∙ c.in_ok-repeated.ensures; history = R.history }) R.saves))
