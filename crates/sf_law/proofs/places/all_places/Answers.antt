use Rattle.std.proofs.Common.{◌≡◌, List, length, take, ap, ◌∙◌, subst, arith}
use Rattle.std.proofs.Math.Seq.{take-length}
use Rattle.sf_law.specs.Headers.{ParameterHeader}
use Rattle.sf_law.specs.Places.{names_of_parameters, last_parameter, PlacesLast, ArePlaces}
use Rattle.std.specs.BTreeMap.{get}
use Rattle.std.specs.Ordering.{nat_cmp}
use Rattle.sf_expr.specs.declared.exprs.NameId.{NameId}
use Rattle.sf_expr.specs.Arena.{name_at}
use Rattle.sf_expr.specs.Numbered.{number_at}
use Rattle.sf_law.proofs.Among.{zip_more}
use Rattle.sf_law.proofs.places.all_places.Goals as goal

pub loop-template-init : goal.loop-template-init
loop-template-init c = record { placed = λ e numbers. rw c.in_ok-places.ensures.items tt }

pub loop-template-preserved : goal.loop-template-preserved
loop-template-preserved c = record {
  placed = λ e numbers. rw c.in_ok-push.ensures.items (zip_more (PlacesLast e c.args.numbers.now) c.args.templates.now c.loop-template.places.items c.loop-template.template-index c.template-item.result c.in_ok-places_of.field-0 c.loop-template-test.true c.template-item.is (c.loop-template.invariant.placed e numbers)
      (subst (λ (qs : List ParameterHeader). (k : NameId) → get nat_cmp c.in_ok-places_of.field-0 (number_at c.args.numbers.now k) ≡ last_parameter (name_at e k) (names_of_parameters e qs)) c.parameters.ensures (c.in_ok-places_of.ensures e numbers)));
}

pub returns : goal.returns
returns c = λ e numbers.
    let all : c.loop-template.template-index ≡ length c.args.templates.now = omega (arith, c.loop-template-test.false, c.loop-template.auto.template-index-end) in
    subst (λ hs. ArePlaces e c.args.numbers.now hs c.loop-template.places.items) (ap (λ k. take k c.args.templates.now) all ∙ take-length c.args.templates.now) (c.loop-template.invariant.placed e numbers)
