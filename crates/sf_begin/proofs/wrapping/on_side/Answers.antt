use Rattle.sf_state.specs.Standing.{wraps_first, wraps_second}
use Rattle.sf_begin.proofs.wrapping.on_side.Goals as goal

pub returns-in-First : goal.returns-in-First
returns-in-First c = λ n t e m. rw c.in-First.is wraps_first

pub returns-in-Second : goal.returns-in-Second
returns-in-Second c = λ n t e m. rw c.in-Second.is wraps_second
