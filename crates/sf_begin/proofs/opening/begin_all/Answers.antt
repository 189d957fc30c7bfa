use Rattle.std.proofs.Common.{◌≡◌, [], take, length, sym, ap, ◌∙◌, subst, arith}
use Rattle.std.proofs.Math.Seq.{take-length}
use Rattle.sf_begin.specs.Beginning.{AllBegin, none_begin}
use Rattle.sf_begin.proofs.Begins.{begin_next}
use Rattle.sf_begin.proofs.opening.begin_all.Goals as goal

pub loop-stage-init : goal.loop-stage-init
loop-stage-init c = λ μ e N. subst (λ bs. AllBegin μ e [] bs) (sym c.in_ok-begun.ensures.items) none_begin

pub loop-stage-preserved : goal.loop-stage-preserved
loop-stage-preserved c = λ μ e N.
    begin_next μ c.args.stages.now c.loop-stage.stage-index c.in_ok-around.around c.loop-stage.begun.items c.push.new.self.items e _
    (c.loop-stage.invariant μ e N) c.loop-stage-test.true (c.in_ok-around.ensures μ e N) c.in_ok-push.ensures.items

pub returns : goal.returns
returns c = λ μ e N.
    let ids = c.args.stages.now in
    let last : c.loop-stage.stage-index ≡ length ids = omega (arith, c.loop-stage.auto.stage-index-end, c.loop-stage-test.false) in
    subst (λ ids. AllBegin μ e ids c.loop-stage.begun.items) (ap (λ k. take k ids) last ∙ take-length ids) (c.loop-stage.invariant μ e N)
