-- What arguments of plans mention.
use Rattle.std.specs.Prelude.{◌≡◌}
use Rattle.sf_value.specs.Values.{Name}
use Rattle.sf_expr.specs.Arena.{name_at}
use Rattle.sf_coincidence.specs.Mentions.{ExpressionMentions, Mentions, CollectionMentions}
use Rattle.sf_law.specs.declared.node.PlanArgument.{PlanArgument}
use Rattle.sf_law.specs.declared.node.PlanArgument.TheVariants as arguments
use Rattle.sf_law.specs.declared.plan.Plan.{Plan}
use Rattle.sf_law.specs.Arena.{plan_expressions, plan_expression_at, plan_tree, plan_collection}

-- an argument mentions a name, in its expression, in its term or in its collection
abbrev pub ArgumentMentions : Plan → PlanArgument → Name → Type 0
ArgumentMentions p (arguments.Value e c) x = ExpressionMentions (plan_expression_at p e) x
ArgumentMentions p (arguments.Started w k) x = name_at (plan_expressions p) k ≡ x
ArgumentMentions p (arguments.Closed a) x = Mentions (plan_tree p a) x
ArgumentMentions p (arguments.Collected r) x = CollectionMentions (plan_collection p r.value) x
