use Rattle.std.proofs.Common.{ℕ, Bool, length, List, ◌-◌, ◌≤◌, take}
use Rattle.sf_term.specs.Trees.{Template}
use Rattle.sf_mean.specs.Meaning.{Network}
use Rattle.sf_player.specs.Playing.{Played, PlayedMore}
use Rattle.sf_player.proofs.player.Player.feed.Given as goal

abbrev pub invariant-loop-at : goal.invariant-loop-at
invariant-loop-at g l = record {
  within : l.at ≤ length l.piece;
  more : (probes : Bool) (n : Network) (m : Template) (read written : List ℕ) → Played probes n m read written l.fn.self → PlayedMore probes n m read written l.fn.self (take l.at l.piece) l.self;
}

abbrev pub decreases-loop-at : goal.decreases-loop-at
decreases-loop-at g l = length l.piece - l.at
