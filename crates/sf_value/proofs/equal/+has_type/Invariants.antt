use Rattle.sf_value.specs.Values.{count}
use Rattle.sf_value.proofs.Comparing.{count_of_values}
use Rattle.sf_value.proofs.equal.+has_type.Given as goal

abbrev pub decreases-has_type : goal.decreases-has_type
decreases-has_type l = count l.value.now

abbrev pub decreases-have_type : goal.decreases-have_type
decreases-have_type l = count_of_values l.values.now
