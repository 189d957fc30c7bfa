use Rattle.sf_value.specs.Values.{bool_kind, int_kind}
use Rattle.sf_operator.proofs.Answering.{mismatched, lacks_memory, none_only, none_found}
use Rattle.sf_check.proofs.typing.bare_output.Goals as goal

pub returns-in_err-clone_in-in-Identity : goal.returns-in_err-clone_in-in-Identity
returns-in_err-clone_in-in-Identity c = rw c.in-Identity.is (lacks_memory _ _ _ c.from_residual.ensures.1)

pub returns-in_err-clone_in-in-NotYet : goal.returns-in_err-clone_in-in-NotYet
returns-in_err-clone_in-in-NotYet c = rw c.in-NotYet.is (lacks_memory _ _ _ c.from_residual-in_err-clone_in-in-NotYet.ensures.1)

pub returns-in_err-clone_in-in-Once : goal.returns-in_err-clone_in-in-Once
returns-in_err-clone_in-in-Once c = rw c.in-Once.is (lacks_memory _ _ _ c.from_residual-in_err-clone_in-in-Once.ensures.1)

pub returns-in_err-same-in-Integral : goal.returns-in_err-same-in-Integral
returns-in_err-same-in-Integral c = rw c.in-Integral.is (mismatched _ _ _ c.from_residual-in_err-same-in-Integral.ensures.1 c.in_err-same-in-Integral.ensures.err.1 (none_only c.args.input.now int_kind _ _ c.int-in-Integral.ensures c.in_err-same-in-Integral.ensures.err.0))

pub returns-in_err-same-in-Edge : goal.returns-in_err-same-in-Edge
returns-in_err-same-in-Edge c = rw c.in-Edge.is (mismatched _ _ _ c.from_residual-in_err-same-in-Edge.ensures.1 c.in_err-same-in-Edge.ensures.err.1 (none_only c.args.input.now bool_kind _ _ c.bool.ensures c.in_err-same-in-Edge.ensures.err.0))

pub returns-in_err-payload-in-NotYet : goal.returns-in_err-payload-in-NotYet
returns-in_err-payload-in-NotYet c = rw c.in-NotYet.is (mismatched _ _ _ c.from_residual-in_err-payload-in-NotYet.ensures.1 c.in_err-payload-in-NotYet.ensures.err.1 (none_found _ c.in_err-payload-in-NotYet.ensures.err.0))

pub returns-in_err-payload-in-Once : goal.returns-in_err-payload-in-Once
returns-in_err-payload-in-Once c = rw c.in-Once.is (mismatched _ _ _ c.from_residual-in_err-payload-in-Once.ensures.1 c.in_err-payload-in-Once.ensures.err.1 (none_found _ c.in_err-payload-in-Once.ensures.err.0))

pub returns-in_err-payload-in-Count : goal.returns-in_err-payload-in-Count
returns-in_err-payload-in-Count c = rw c.in-Count.is (mismatched _ _ _ c.from_residual-in_err-payload-in-Count.ensures.1 c.in_err-payload-in-Count.ensures.err.1 (none_found _ c.in_err-payload-in-Count.ensures.err.0))
