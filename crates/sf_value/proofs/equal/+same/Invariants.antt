use Rattle.sf_value.specs.Values.{count}
use Rattle.sf_value.proofs.Comparing.{count_of_values}
use Rattle.sf_value.proofs.equal.+same.Given as goal

abbrev pub decreases-same : goal.decreases-same
decreases-same l = count l.a.now

abbrev pub decreases-same_values : goal.decreases-same_values
decreases-same_values l = count_of_values l.a.now
