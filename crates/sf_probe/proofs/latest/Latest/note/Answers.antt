use Rattle.std.proofs.Common.{arith, subst}
use Rattle.std.proofs.lemmas.Result.{err_from_is_err_and}
use Rattle.sf_probe.specs.Readings.{reading_of}
use Rattle.sf_probe.specs.Latest.{HasNotedFront}
use Rattle.sf_probe.proofs.Noting.{front_noted}
use Rattle.sf_probe.proofs.latest.Latest.note.Goals as goal

pub returns-in_err-put-clause-err : goal.returns-in_err-put-clause-err
returns-in_err-put-clause-err c =
    let p = err_from_is_err_and c.from_residual.result c.from_residual.ensures.1 in
    rw (p.1)
    (subst (HasNotedFront c.args.self.now c.put.new.self) c.as_slice-reading-items.ensures
    (front_noted c.args.self.now c.put.new.self reading_of c.as_slice-reading-items.result.now c.loop-reading.reading-index (omega arith) (λ noted h. c.in_err-put.ensures.err _ (c.loop-reading.invariant noted h))))
