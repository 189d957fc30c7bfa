use Rattle.std.proofs.Common.{◌≡◌, ◌<◌, ◌≤◌, length, get_or, sym, ap, ◌∙◌, subst}
use Rattle.std.specs.BTreeMap.{get}
use Rattle.std.specs.Ordering.{nat_cmp}
use Rattle.sf_expr.specs.Arena.{name_at}
use Rattle.sf_law.proofs.Located.{place_held, place_past}
use Rattle.sf_law.proofs.plan.Plan.place.Goals as goal

pub returns-in-Some : goal.returns-in-Some
returns-in-Some c =
    let p = c.args.self.now in
    let here = subst (λ ms. c.in-Some.places.now ≡ get_or ms c.args.id.0 c.in-Some.places.now) c.deref.ensures.value c.in-Some.ensures.lookup.1 in
    let within = subst (λ ms. c.args.id.0 < length ms) c.deref.ensures.value c.in-Some.ensures.lookup.3.0 in
    c.place_in.ensures ∙ ap (get nat_cmp c.in-Some.places.now) c.number.ensures ∙ place_held p.expressions p.numbering p.templates.items p.places.items c.args.id.0 c.in-Some.places.now c.args.name p.placed within here

pub returns-in-None : goal.returns-in-None
returns-in-None c =
    let p = c.args.self.now in
    sym (place_past p.expressions p.numbering p.templates.items p.places.items c.args.id.0 (name_at p.expressions c.args.name) p.placed (subst (λ ms. length ms ≤ c.args.id.0) c.deref.ensures.value c.in-None.ensures.lookup.3))
