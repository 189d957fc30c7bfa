use Rattle.std.proofs.Common.{arith}
use Rattle.sf_engine.specs.Planned.{main_of_plan}
use Rattle.sfmeter.proofs.Abreast.{enters_no_more, stands_after}
use Rattle.sfmeter.proofs.meters.Meters.sample.Goals as goal

pub returns : goal.returns
returns g c = λ L A.
    let written = c.in_ok-step.ensures.answers (main_of_plan c.args.self.now.plain) L A.lived.plain in
    let rewritten = rw c.in_ok-again.ensures at (c.in_ok-step-2.ensures.answers (main_of_plan c.args.self.now.rewritten) L A.lived.rewritten) in (
      omega (arith, c.entered-plain.ensures.count, c.entered-rewritten.ensures.count, enters_no_more A.same written rewritten),
      record { same = A.same; lived = record { plain = stands_after written; rewritten = stands_after rewritten } },
    )
