use Rattle.sf_optimise.proofs.quietness.+quiet.Given as goal

abbrev pub decreases-quiet : goal.decreases-quiet
decreases-quiet l = l.id.0
