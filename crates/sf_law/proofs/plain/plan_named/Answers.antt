use Rattle.std.proofs.Common.{◌∙◌, ap}
use Rattle.std.specs.declared.alloc.Global.{Global}
use Rattle.std.specs.Prelude.{String, string_bytes}
use Rattle.sf_law.specs.Copies.{copies_process, copies_probe}
use Rattle.sf_law.proofs.plain.plan_named.Goals as goal

pub returns-in-Process-clause-same : goal.returns-in-Process-clause-same
returns-in-Process-clause-same c = λ m place. rw c.in-Process.is copies_process

pub returns-in_ok-shared-in-Probe-clause-same : goal.returns-in_ok-shared-in-Probe-clause-same
returns-in_ok-shared-in-Probe-clause-same c = λ m place.
    rw c.in-Probe.is (copies_probe (ap (λ (s : String Global). string_bytes s) c.in_ok-shared-in-Probe.ensures.ok ∙ c.in_ok-text-in-Probe.ensures.ok ∙ rw c.expressions.ensures at c.name_of.ensures))
