use Rattle.std.proofs.Common.{cond, sym, ap, ◌∙◌}
use Rattle.sf_expr.specs.Arena.{stored_pattern, name_at}
use Rattle.sf_expr.specs.Patterns.{pattern_of}
use Rattle.sf_mean.specs.Lives.{members_of, collected}
use Rattle.sf_law.specs.Arena.{plan_expressions}
use Rattle.sf_law.proofs.Naming.{others}
use Rattle.sf_begin.proofs.Drafts.{found_outside}
use Rattle.sf_begin.proofs.drafting.is_own.Goals as goal

pub returns-then-not-binds : goal.returns-then-not-binds
returns-then-not-binds c = λ same v ms e.
    let x = plan_expressions c.args.plan.now in
    let p = pattern_of (stored_pattern x c.args.pattern) in
    let asked = name_at x c.args.name in
    found_outside p asked v (collected (name_at x c.args.own) ms e) (others p asked (sym c.binds.ensures ∙ c.if-not-binds.true))
    ∙ ap (λ b. cond b ms (members_of asked e)) (sym c.same_name.ensures ∙ same)
