use Rattle.sf_player.proofs.Once.{script_once}
use Rattle.sf_player.proofs.laws.one_script.Goals as goal

pub returns : goal.returns
returns c = λ n m now lines x y d e S T. script_once S T
