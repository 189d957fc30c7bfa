use Rattle.sf_begin.proofs.wrapping.with_head.Goals as goal

pub returns-in-Ok : goal.returns-in-Ok
returns-in-Ok c = λ n i t e x h. c.with_value.ensures n i t e x (rw c.in-Ok.is at h)

pub returns-in-Err : goal.returns-in-Err
returns-in-Err c = λ n i t e x h. c.with_fault.ensures n i t e x (rw c.in-Err.is at h)
