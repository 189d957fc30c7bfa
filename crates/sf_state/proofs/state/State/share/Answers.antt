use Rattle.sf_state.proofs.Copies.{primitive_follows, mapped_follows}
use Rattle.sf_state.proofs.state.State.share.Goals as goal

pub returns-in_ok-copy-in-Primitive : goal.returns-in_ok-copy-in-Primitive
returns-in_ok-copy-in-Primitive c = λ μ P L A.
    primitive_follows μ c.in-Primitive.primitive c.in_ok-copy-in-Primitive.copy c.in_ok-copy-in-Primitive.ensures P L (rw c.in-Primitive.is at A)

pub returns-in_ok-next-in-Mapped : goal.returns-in_ok-next-in-Mapped
returns-in_ok-next-in-Mapped c = λ μ P L A.
    mapped_follows μ c.in-Mapped.arrow c.in-Mapped.mapped c.in_ok-next-in-Mapped.next c.in_ok-next-in-Mapped.ensures P L (rw c.in-Mapped.is at A)
