use Rattle.sf_optimise.proofs.quietness.+is_quiet_expression.Given as goal

abbrev pub decreases-is_quiet_expression : goal.decreases-is_quiet_expression
decreases-is_quiet_expression l = l.id.0
