use Rattle.std.proofs.Common.{sym, subst}
use Rattle.sf_expr.specs.Arena.{name_at, stored_pattern}
use Rattle.sf_expr.specs.Patterns.{pattern_of}
use Rattle.sf_expr.specs.Numbered.{number_at, TellsName}
use Rattle.sf_law.specs.Arena.{plan_expressions, plan_numbers}
use Rattle.sf_law.proofs.plan.Plan.numbered.Goals as goal

pub returns : goal.returns
returns c = λ k.
    let p = c.args.self.now in
    let e = plan_expressions p in
    subst (λ s. TellsName (number_at (plan_numbers p) k) (name_at e k) s (pattern_of (stored_pattern e c.args.pattern))) (sym c.pattern.ensures) (p.told.patterns k c.args.pattern)
