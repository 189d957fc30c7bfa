use Rattle.std.proofs.Common.{refl}
use Rattle.sf_player.proofs.Steps.{starts_played}
use Rattle.sf_player.proofs.player.Player.new.Goals as goal

pub returns : goal.returns
returns g c = λ n m runs. (starts_played _ c.in_ok-cutter.ensures.0 runs refl refl c.new-2.ensures.items, c.new-2.ensures.items)
