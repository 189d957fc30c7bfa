use Rattle.std.proofs.Common.{◌∙◌, ap, sym}
use Rattle.sf_law.specs.Copies.{named_process, copies_value, copies_started, copies_closed, copies_members}
use Rattle.sf_law.proofs.plain.plan_argument.Goals as goal

pub returns-in_ok-code-in-Value-clause-same : goal.returns-in_ok-code-in-Value-clause-same
returns-in_ok-code-in-Value-clause-same c = rw c.in-Value.is copies_value

pub returns-in-Some-clause-same : goal.returns-in-Some-clause-same
returns-in-Some-clause-same c = rw c.in-Process.is (copies_started (ap named_process (sym c.node.ensures.value) ∙ sym c.started.ensures ∙ c.in-Some.is))

pub returns-in-None-clause-same : goal.returns-in-None-clause-same
returns-in-None-clause-same c = rw (c.in-Process.is, c.id.ensures) (copies_closed (ap named_process (sym c.node.ensures.value) ∙ sym c.started.ensures ∙ c.in-None.is))

pub returns-in_ok-members-in-Collection-clause-same : goal.returns-in_ok-members-in-Collection-clause-same
returns-in_ok-members-in-Collection-clause-same c = rw c.in-Collection.is (copies_members c.in_ok-members-in-Collection.ensures.same)
