use Rattle.sf_optimise.proofs.sequence.+in_sequence.Given as goal

abbrev pub decreases-in_sequence : goal.decreases-in_sequence
decreases-in_sequence l = l.first.0
