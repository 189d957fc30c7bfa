use Rattle.std.proofs.Common.{◌≡◌, [], subst, sym}
use Rattle.std.specs.Option.{option_map}
use Rattle.sf_expr.specs.Arena.{name_at}
use Rattle.sf_law.specs.Arena.{plan_expressions}
use Rattle.sf_mean.specs.Lives.{members_of, no_members}
use Rattle.sf_state.specs.Held.{gathered_holding}
use Rattle.sf_state.specs.Standing.{AreFound}
use Rattle.sf_state.specs.Machine.{machine}
use Rattle.sf_state.proofs.Copies.{same_held}
use Rattle.sf_begin.specs.Collecting.{HasMembers}
use Rattle.sf_begin.proofs.References.{when_ok}
use Rattle.sf_begin.proofs.collecting.of_name.Goals as goal

pub returns-in-Some : goal.returns-in-Some
returns-in-Some c = when_ok c.share.result (λ same shared φ e N.
    let p = c.args.plan.now in
    let found = c.members.ensures φ e N in
    let x = name_at (plan_expressions p) c.args.name in
    same_held (machine φ p) _ _ shared (members_of x e) [] (subst (λ r. AreFound (machine φ p) (option_map (λ l. gathered_holding l.now) r) (members_of x e)) c.in-Some.is found)) c.share.ensures

pub returns-in-None : goal.returns-in-None
returns-in-None c = when_ok c.none.result (λ none nothing φ e N.
    let p = c.args.plan.now in
    let found = c.members.ensures φ e N in
    let x = name_at (plan_expressions p) c.args.name in
    let is : members_of x e ≡ no_members = subst (λ r. AreFound (machine φ p) (option_map (λ l. gathered_holding l.now) r) (members_of x e)) c.in-None.is found in
    subst (λ ms. HasMembers (machine φ p) none ms) (sym is) (nothing (machine φ p) [])) c.none.ensures
