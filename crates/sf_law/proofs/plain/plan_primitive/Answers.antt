use Rattle.std.proofs.Common.{w64}
use Rattle.std.proofs.lemmas.Int.{to_z-of_z}
use Rattle.sf_law.specs.Copies.{copies_bare, copies_never, copies_with_value, copies_arrow, copies_accumulated}
use Rattle.sf_law.proofs.Copied.{timed_copied, selected_copied}
use Rattle.sf_law.proofs.plain.plan_primitive.Goals as goal

pub returns-in-Bare-clause-same : goal.returns-in-Bare-clause-same
returns-in-Bare-clause-same c = rw c.in-Bare.is copies_bare

pub returns-in-Never-clause-same : goal.returns-in-Never-clause-same
returns-in-Never-clause-same c = rw c.in-Never.is copies_never

pub returns-in_ok-code-in-WithValue-clause-same : goal.returns-in_ok-code-in-WithValue-clause-same
returns-in_ok-code-in-WithValue-clause-same c = rw c.in-WithValue.is copies_with_value

pub returns-in_ok-code-in-Arrow-clause-same : goal.returns-in_ok-code-in-Arrow-clause-same
returns-in_ok-code-in-Arrow-clause-same c = rw c.in-Arrow.is copies_arrow

pub returns-in_ok-code-in-Accumulated-clause-same : goal.returns-in_ok-code-in-Accumulated-clause-same
returns-in_ok-code-in-Accumulated-clause-same c = rw c.in-Accumulated.is copies_accumulated

pub returns-in_ok-code-in-Timed-clause-same : goal.returns-in_ok-code-in-Timed-clause-same
returns-in_ok-code-in-Timed-clause-same c = rw c.in-Timed.is (timed_copied (to_z-of_z w64 c.in-Timed.time search))

pub returns-in-Selected-clause-same : goal.returns-in-Selected-clause-same
returns-in-Selected-clause-same c = rw c.in-Selected.is (selected_copied (to_z-of_z w64 c.in-Selected.count search))
