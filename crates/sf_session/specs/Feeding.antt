-- What a session has come to.
use Rattle.std.specs.Prelude.{◌≡◌, ◌≢◌, ℕ, Bool, List, [], ◌++◌, length, take, drop, min, Option, Some, None}
use Rattle.sf_term.specs.Trees.{Template, Templates}
use Rattle.sf_mean.specs.Meaning.{Network}
use Rattle.sf_mean.specs.Networks.{main_of}
use Rattle.sf_accept.specs.Refusals.{IsAcceptedText}
use Rattle.sf_lines.specs.Lines.{Splits, lines_of}
use Rattle.sf_player.specs.Scripts.{Moment, at_start, LeadsTo}
use Rattle.sf_player.specs.Telling.{RunGives}
use Rattle.sf_player.specs.Statuses.{status_of}
use Rattle.sf_player.specs.Playing.{Played, IsPlaying, gathered}
use Rattle.sf_player.specs.declared.end.PlayEnd.{PlayEnd}
use Rattle.sf_session.specs.Alone.{alone}
use Rattle.sf_session.specs.Phases.{phase_end, phase_line}
use Rattle.sf_session.specs.declared.phase.Phase.TheVariants.{Running}
use Rattle.sf_session.specs.declared.session.Session.{Session}

-- what waits to be taken
abbrev pub session_waiting : Session → List ℕ
session_waiting s = drop s.handed (gathered s.player) ++ drop s.told (phase_line s.phase)

-- the status of a run that goes on or has ended
abbrev pub status_by : Option PlayEnd → ℕ
status_by None = 0
status_by (Some e) = status_of e

abbrev pub session_status : Session → ℕ
session_status s = status_by (phase_end s.phase)

abbrev pub HasEnded : Session → Type 0
HasEnded s = s.phase ≢ Running

-- A session that goes on plays a network.
abbrev pub IsLive : Session → Type 0
IsLive s = s.phase ≡ Running → IsPlaying s.player

module _ (probes : Bool) (n : Network) (m : Template) where
  -- What a run has said that was fed so much: while it goes on, what the complete lines give; once it has ended, all that
  -- it gives, whatever follows.
  pub data HasSaid (fed said : List ℕ) : Option PlayEnd → Type 0 where
    so_far : {complete : List (List ℕ)} {unfinished : List ℕ} {later : Moment}
        → Splits fed complete unfinished → LeadsTo n m (at_start probes) complete said later → HasSaid fed said None
    in_all : {e : PlayEnd}
        → ((left : List ℕ) → RunGives probes n m (lines_of (fed ++ left)) said e) → HasSaid fed said (Some e)

  -- The player of a session has played what was fed, and has still gathered the last of what was taken.
  pub record HandsOn (fed given : List ℕ) (s : Session) : Type 0 where
    pub written : List ℕ
    pub taken : given ≡ written ++ take s.handed (gathered s.player)
    pub played : Played probes n m fed written s.player

  -- So much was fed to a session and so much was taken from it, and it goes on from there.
  pub record IsFed (fed given : List ℕ) (s : Session) : Type 0 where
    pub said : HasSaid fed (given ++ session_waiting s) (phase_end s.phase)
    pub plays : s.phase ≡ Running → HandsOn fed given s

  -- This was the whole input of a session, and so much was taken from it. With what waits that is all that its lines give.
  pub record IsPlayed (whole given : List ℕ) (s : Session) : Type 0 where
    pub e : PlayEnd
    pub ends : phase_end s.phase ≡ Some e
    pub gives : RunGives probes n m (lines_of whole) (given ++ session_waiting s) e

-- A session was fed nothing. Its network is that of this text.
pub record IsStarted (probes : Bool) (net : List ℕ) (s : Session) : Type 0 where
  pub templates : Templates
  pub main : Template
  pub accepted : IsAcceptedText [] net templates
  pub runs : main_of templates ≡ Some main
  pub fresh : IsFed probes (alone templates) main [] [] s

-- As much of what waits as a room takes was written there, and the rest waits.
pub record IsTaken (old : Session) (count : ℕ) (room : List ℕ) (new : Session) : Type 0 where
  pub most : count ≡ min (length (session_waiting old)) (length room)
  pub written : take count room ≡ take count (session_waiting old)
  pub left : session_waiting new ≡ drop count (session_waiting old)
  pub phase : new.phase ≡ old.phase
