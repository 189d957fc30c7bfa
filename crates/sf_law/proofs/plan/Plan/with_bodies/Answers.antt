use Rattle.std.proofs.Common.{List, All, sym, subst}
use Rattle.std.proofs.lemmas.List.Elements.{All-map}
use Rattle.sf_law.specs.Headers.{PlanHeader, rebodied, NumbersFirst}
use Rattle.sf_law.specs.Places.{ArePlaces}
use Rattle.sf_law.specs.Entries.{ArePlanNodes, BindsNames}
use Rattle.sf_law.specs.Asking.{AreAsked}
use Rattle.sf_law.proofs.Located.{places_kept}
use Rattle.sf_law.proofs.Rebodied.{arena_kept, numbers_kept, enough_kept}
use Rattle.sf_law.proofs.plan.Plan.with_bodies.Goals as goal

pub invariant_of-plan : goal.invariant_of-plan
invariant_of-plan c =
    let p = c.args.self in
    let ids = c.args.bodies.now in
    let n = c.len.result in
    let same = sym c.put_bodies.ensures in
    record {
      told = p.told;
      arena = subst (λ (hs : List PlanHeader). ArePlanNodes p.expressions hs p.nodes.items) same (arena_kept ids n p.expressions p.templates.items p.nodes.items p.arena);
      enough = subst (λ (hs : List PlanHeader). AreAsked p.expressions hs p.asked p.nodes.items) same (enough_kept ids n p.expressions p.templates.items p.asked p.nodes.items p.enough);
      few = p.few;
      covered = p.covered;
      bound = subst (λ (hs : List PlanHeader). All (BindsNames p.expressions) hs) same (All-map (BindsNames p.expressions) (rebodied ids n) p.templates.items p.bound);
      numbered = subst (λ (hs : List PlanHeader). NumbersFirst p.numbers hs) same (numbers_kept ids n p.numbers p.templates.items p.numbered);
      placed = subst (λ (hs : List PlanHeader). ArePlaces p.expressions p.numbering hs p.places.items) same (places_kept ids n p.expressions p.numbering p.templates.items p.places.items p.placed);
      same = p.same;
      nothing = p.nothing;
    }
