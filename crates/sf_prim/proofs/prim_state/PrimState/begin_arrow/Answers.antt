use Rattle.sf_prim.specs.Remembering.{remembers_function}
use Rattle.sf_prim.proofs.Primitives.{bare_function}
use Rattle.sf_prim.proofs.prim_state.PrimState.begin_arrow.Goals as goal

pub returns-in_ok-own-in-None-clause-kept : goal.returns-in_ok-own-in-None-clause-kept
returns-in_ok-own-in-None-clause-kept g c = λ φ f is. remembers_function (bare_function c.in_ok-own-in-None.own c.args.code.now c.in_ok-own-in-None.ensures.cases (rw c.deref.ensures at c.in-None.is) is)
