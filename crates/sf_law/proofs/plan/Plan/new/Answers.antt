use Rattle.std.proofs.Common.{◌≤◌, length, arith, refl, sym, subst}
use Rattle.sf_law.specs.Headers.{NumbersFirst}
use Rattle.sf_law.specs.Places.{ArePlaces}
use Rattle.sf_law.specs.Entries.{ArePlanNodes, node_among}
use Rattle.sf_law.specs.Mentioned.{AreCovered}
use Rattle.sf_law.proofs.Placed.{arena_empty}
use Rattle.sf_law.proofs.Enough.{any_asked}
use Rattle.sf_law.proofs.plan.Plan.new.Goals as goal

pub invariant_of-result : goal.invariant_of-result
invariant_of-result c = record {
  told = c.in_ok-numbering.ensures;
  arena = subst (λ ns. ArePlanNodes c.args.expressions c.args.templates.items ns) (sym c.new.ensures.items) (arena_empty c.args.expressions c.args.templates.items);
  enough = λ i. any_asked c.args.expressions c.args.templates.items (node_among c.new.result.items i);
  few = subst (λ ms. length ms ≤ length c.new.result.items) (sym c.new-2.ensures.items) (omega arith);
  covered = subst (λ ms. AreCovered c.args.expressions c.new.result.items ms) (sym c.new-2.ensures.items) (λ i x h. refl);
  bound = c.requires;
  numbered = subst (λ hs. NumbersFirst c.in_ok-numbers.numbers hs) c.deref.ensures.value c.in_ok-numbers.ensures;
  placed = subst (λ hs. ArePlaces c.args.expressions c.in_ok-numbering.numbering hs c.in_ok-places.places.items) c.deref-2.ensures.value (c.in_ok-places.ensures c.args.expressions c.in_ok-numbering.ensures);
  same = refl;
  nothing = c.absent.ensures;
}
