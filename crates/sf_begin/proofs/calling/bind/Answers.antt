use Rattle.std.proofs.Common.{sym, subst, ap, ◌∙◌}
use Rattle.sf_expr.specs.Arena.{name_at, stored_pattern}
use Rattle.sf_expr.specs.Patterns.{pattern_of}
use Rattle.sf_law.specs.Arena.{plan_expressions}
use Rattle.sf_mean.specs.Lives.{bind, collected}
use Rattle.sf_state.specs.Standing.{IsNames, IsHanded}
use Rattle.sf_state.specs.Machine.{machine}
use Rattle.sf_begin.proofs.Arguments.{value_inside, process_inside, members_inside}
use Rattle.sf_begin.proofs.References.{when_ok}
use Rattle.sf_begin.proofs.calling.bind.Goals as goal

pub returns-in-Value : goal.returns-in-Value
returns-in-Value g c = when_ok c.inside.result (λ inner h φ d e M G.
    let p = c.args.context.now.plan.now in
    let x = plan_expressions p in
    let w = c.in-Value.value in
    value_inside (machine φ p) (name_at x c.args.parameter.now.name) c.args.bound.now inner w (λ d M.
    subst (λ b. IsNames (machine φ p) inner b) (ap (λ i. bind (pattern_of (stored_pattern x i)) w d) c.pattern.ensures ∙ ap (λ r. bind r w d) c.requires) (h φ d M)) d e M (rw c.in-Value.is at G)) c.inside.ensures

pub returns-in-Process : goal.returns-in-Process
returns-in-Process g c = when_ok c.with_process.result (λ inner h φ d e M G.
    let p = c.args.context.now.plan.now in
    process_inside (machine φ p) (name_at (plan_expressions p) c.args.parameter.now.name) c.args.bound.now inner c.in-Process.handed
    (λ d P M H. rw c.name.ensures at (h (machine φ p) d P M (subst (λ k. IsHanded (machine φ p) (name_at (plan_expressions p) k) c.in-Process.handed P) (sym c.name.ensures) H))) d e M (rw c.in-Process.is at G)) c.with_process.ensures

pub returns-in-Members : goal.returns-in-Members
returns-in-Members g c = when_ok c.with_members.result (λ inner h φ d e M G.
    let p = c.args.context.now.plan.now in
    members_inside (machine φ p) (name_at (plan_expressions p) c.args.parameter.now.name) c.args.bound.now inner c.in-Members.members
    (λ d ms M H. subst (λ k. IsNames (machine φ p) inner (collected (name_at (plan_expressions p) k) ms d)) c.name-in-Members.ensures (h (machine φ p) d ms M H)) d e M (rw c.in-Members.is at G)) c.with_members.ensures
