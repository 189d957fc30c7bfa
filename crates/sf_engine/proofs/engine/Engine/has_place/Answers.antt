use Rattle.std.proofs.Common.{refl, sym, subst, IsTrue}
use Rattle.sf_engine.proofs.Saving.{has_place_there, has_place_behind}
use Rattle.sf_engine.proofs.engine.Engine.has_place.Goals as goal

pub returns-then-contains_key : goal.returns-then-contains_key
returns-then-contains_key g c = λ n m L S R.
    (λ t. has_place_there R c.args.name.now _ c.contains_key.ensures c.if-contains_key.true, λ may. subst IsTrue (sym c.if-contains_key.true) refl)

pub returns-else-contains_key : goal.returns-else-contains_key
returns-else-contains_key g c = λ n m L S R.
    has_place_behind R c.args.name.now _ c.len.result c.contains_key.ensures c.if-contains_key.false c.len.ensures.len
