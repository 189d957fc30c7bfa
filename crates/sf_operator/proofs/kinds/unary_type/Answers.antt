use Rattle.sf_value.specs.Values.{bool_kind}
use Rattle.sf_operator.proofs.Answering.{mismatched, lacks_memory, none_only, none_found}
use Rattle.sf_operator.proofs.kinds.unary_type.Goals as goal

pub returns-in_err-same-in-Not : goal.returns-in_err-same-in-Not
returns-in_err-same-in-Not c = mismatched _ _ _ c.from_residual.ensures.1 c.in_err-same-in-Not.ensures.err.1 (rw c.in-Not.is (none_only c.args.part.now bool_kind _ _ c.bool.ensures c.in_err-same-in-Not.ensures.err.0))

pub returns-in_err-parts-in-First : goal.returns-in_err-parts-in-First
returns-in_err-parts-in-First c = mismatched _ _ _ c.from_residual-in_err-parts-in-First.ensures.1 c.in_err-parts-in-First.ensures.err.1 (rw c.in-First.is (none_found _ c.in_err-parts-in-First.ensures.err.0))

pub returns-in_err-clone_in-in-First : goal.returns-in_err-clone_in-in-First
returns-in_err-clone_in-in-First c = lacks_memory _ _ _ c.from_residual-in_err-clone_in-in-First.ensures.1

pub returns-in_err-parts-in-Second : goal.returns-in_err-parts-in-Second
returns-in_err-parts-in-Second c = mismatched _ _ _ c.from_residual-in_err-parts-in-Second.ensures.1 c.in_err-parts-in-Second.ensures.err.1 (rw c.in-Second.is (none_found _ c.in_err-parts-in-Second.ensures.err.0))

pub returns-in_err-clone_in-in-Second : goal.returns-in_err-clone_in-in-Second
returns-in_err-clone_in-in-Second c = lacks_memory _ _ _ c.from_residual-in_err-clone_in-in-Second.ensures.1

pub returns-in_err-payload-in-IsEvent : goal.returns-in_err-payload-in-IsEvent
returns-in_err-payload-in-IsEvent c = mismatched _ _ _ c.from_residual-in_err-payload-in-IsEvent.ensures.1 c.in_err-payload-in-IsEvent.ensures.err.1 (rw c.in-IsEvent.is (none_found _ c.in_err-payload-in-IsEvent.ensures.err.0))

pub returns-in_err-columns-in-Size : goal.returns-in_err-columns-in-Size
returns-in_err-columns-in-Size c = mismatched _ _ _ c.from_residual-in_err-columns-in-Size.ensures.1 c.in_err-columns-in-Size.ensures.err.1 (rw c.in-Size.is (none_found _ c.in_err-columns-in-Size.ensures.err.0))
