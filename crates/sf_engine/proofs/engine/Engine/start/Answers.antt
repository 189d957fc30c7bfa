use Rattle.std.proofs.Common.{◌≡◌, [], sym, subst}
use Rattle.sf_value.specs.Values.{HasKind}
use Rattle.sf_mean.specs.Lives.{Life}
use Rattle.sf_engine.specs.Running.{Runs}
use Rattle.sf_engine.specs.Sampling.{Starts, starts}
use Rattle.sf_engine.proofs.Going.{fresh_history, answered}
use Rattle.sf_engine.proofs.engine.Engine.start.Goals as goal

pub returns-clause-running : goal.returns-clause-running
returns-clause-running g c = λ n m L S R.
    let none : L ≡ [] = fresh_history R c.in_ok-look_at_start.ensures.may in
    let typed : HasKind c.args.value m.input = subst (λ k. HasKind c.args.value k) R.input c.in_ok-look_at_start.ensures.may.typed in
    subst (λ r. Starts n m L S c.args.value r c.first_sample.new.self) (sym (answered c.first_sample.result _ c.map_err.ensures.cases))
    (starts none typed (c.first_sample.ensures n m S (subst (λ (l : Life). Runs c.args.self.now n m l S) none R)))
