use Rattle.std.proofs.Common.{ap, sym, ◌∙◌, Ok}
use Rattle.sf_expr.proofs.Judged.{fits_at}
use Rattle.sf_check.proofs.typing.named_output.Goals as goal

pub returns-in-Process : goal.returns-in-Process
returns-in-Process c = rw c.in-Process.is (c.process_output.ensures c.in-Process.field-0)

pub returns-in_ok-clone_in-in-Probe : goal.returns-in_ok-clone_in-in-Probe
returns-in_ok-clone_in-in-Probe c =
    rw c.in-Probe.is (fits_at _ _ c.in_ok-clone_in-in-Probe.ensures.small ∙ ap Ok (sym c.in_ok-clone_in-in-Probe.ensures.same))
