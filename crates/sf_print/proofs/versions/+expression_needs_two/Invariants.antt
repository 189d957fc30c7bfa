use Rattle.sf_print.proofs.versions.+expression_needs_two.Given as goal

abbrev pub decreases-expression_needs_two : goal.decreases-expression_needs_two
decreases-expression_needs_two l = l.id.0
