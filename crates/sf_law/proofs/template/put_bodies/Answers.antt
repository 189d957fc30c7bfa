use Rattle.std.proofs.Common.{◌<◌, length, slice_set, ◌∙◌, ap, arith}
use Rattle.std.proofs.lemmas.List.Edits.{map_over_more}
use Rattle.sf_law.specs.Headers.{rebodied}
use Rattle.sf_law.proofs.template.put_bodies.Goals as goal

pub loop-number-preserved : goal.loop-number-preserved
loop-number-preserved c =
    let f = rebodied c.args.bodies.now c.args.passing.0 in
    let i = c.loop-number.number in
    let below : i < length c.args.templates.now.items = omega (arith, c.loop-number-test.true, c.len-number-end.ensures) in
    record {
      put = ap (λ h. slice_set c.loop-number.templates.items i h) c.put_body.ensures ∙ map_over_more f c.args.templates.now.items c.loop-number.templates.items i c.index_mut.result.now below c.loop-number.invariant.put c.index_mut.ensures.value;
    }
