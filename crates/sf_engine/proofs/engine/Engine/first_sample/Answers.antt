use Rattle.sf_engine.proofs.Going.{IsHistory-start}
use Rattle.sf_engine.proofs.engine.Engine.first_sample.Goals as goal

pub returns : goal.returns
returns g c = λ n m S R. c.sample.ensures n m _ S R (IsHistory-start m.input c.args.value (rw R.input at c.requires.typed))
