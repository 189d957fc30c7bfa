use Rattle.std.proofs.Common.{◌≡◌, ◌∙◌, sym, ap, arith, Some}
use Rattle.sf_expr.specs.Meanings.{meant, last_place}
use Rattle.sf_expr.specs.declared.meaning.Named.{Named}
use Rattle.sf_expr.proofs.Scoped.{place_within, frame_found, frame_absent}
use Rattle.sf_expr.proofs.frame.Frame.find.Goals as goal

pub returns-in_err-place-clause-absent : goal.returns-in_err-place-clause-absent
returns-in_err-place-clause-absent c =
    rw c.from_residual.ensures (frame_absent c.args.self.now c.args.name.now (sym (c.args.self.now.placed c.args.name.now) ∙ sym c.in_err-place.ensures.value))

pub index-requires : goal.index-requires
index-requires c = omega (arith, c.args.self.now.names.ok, place_within c.args.name.now c.args.self.now.names.items c.in_ok-place.field-0.now (sym (c.args.self.now.placed c.args.name.now) ∙ sym c.in_ok-place.ensures.value))

pub returns-clause-found : goal.returns-clause-found
returns-clause-found c =
    let placed : last_place c.args.name.now c.args.self.now.names.items ≡ Some c.in_ok-place.field-0.now = sym (c.args.self.now.placed c.args.name.now) ∙ sym c.in_ok-place.ensures.value in
    frame_found c.args.self.now c.args.name.now c.in_ok-place.field-0.now c.index.result.now placed ∙ ap (λ (n : Named). Some (meant n.meaning)) (sym c.index.ensures)
