use Rattle.sf_player.proofs.Once.{scripts_agree}
use Rattle.sf_player.proofs.laws.prefix_law.Goals as goal

pub returns : goal.returns
returns c = λ n m now front others more x y d e S T. scripts_agree front others more S T
