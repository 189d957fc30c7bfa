use Rattle.std.proofs.Common.{◌≡◌, length, take, ap, ◌∙◌, arith}
use Rattle.std.proofs.Math.Seq.{take-length}
use Rattle.sf_expr.specs.Arena.{name_at}
use Rattle.sf_expr.specs.Numbered.{number_at}
use Rattle.sf_law.specs.Places.{names_of_parameters, last_parameter}
use Rattle.sf_law.proofs.Located.{number_more}
use Rattle.sf_law.proofs.places.places_of.Goals as goal

pub loop-place-preserved : goal.loop-place-preserved
loop-place-preserved c = record {
  placed = λ e numbers k. number_more e c.args.numbers.now c.args.parameters.now c.loop-place.place _ _ c.loop-place.places c.insert.new.self k numbers c.loop-place-test.true c.index-parameters-place.is (c.number.ensures ∙ ap (number_at c.args.numbers.now) c.name.ensures) (c.loop-place.invariant.placed e numbers k) c.in_ok-insert.ensures.updates;
}

pub returns : goal.returns
returns c = λ e numbers k.
    let all : c.loop-place.place ≡ length c.args.parameters.now = omega (arith, c.loop-place-test.false, c.loop-place.auto.place-end) in
    c.loop-place.invariant.placed e numbers k ∙ ap (λ qs. last_parameter (name_at e k) (names_of_parameters e qs)) (ap (λ k. take k c.args.parameters.now) all ∙ take-length c.args.parameters.now)
