use Rattle.std.proofs.lemmas.List.Elements.{All-push}
use Rattle.sf_law.specs.Entries.{IsCodedArgument}
use Rattle.sf_law.specs.Copies.{stands_under, CopiesArgument}
use Rattle.sf_law.proofs.Among.{zip_next}
use Rattle.sf_law.proofs.plain.plan_arguments.Goals as goal

pub loop-argument-preserved : goal.loop-argument-preserved
loop-argument-preserved c =
    let i = c.loop-argument in
    let same = c.in_ok-plan_argument.ensures.same in
    let coded = c.in_ok-plan_argument.ensures.coded in
    record {
      same = rw c.in_ok-push.ensures.items (zip_next (CopiesArgument c.args.program.now (stands_under c.args.terms)) c.args.arguments.now i.copies.items i.argument-index _ _ c.loop-argument-test.true i.invariant.same same);
      coded = rw c.in_ok-push.ensures.items (All-push (IsCodedArgument c.args.exprs.now) i.copies.items _ i.invariant.coded coded);
    }
