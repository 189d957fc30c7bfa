-- How a session is fed, how its input ends, and how it hands out.
use Rattle.std.proofs.Common.{◌≡◌, ◌≢◌, ℕ, ◌+◌, ◌-◌, ◌≤◌, Bool, List, [], ◌++◌, length, take, drop, min, Option, Some, None, refl, sym, ap, ◌∙◌, subst, append_assoc, arith, length-drop}
use Rattle.std.proofs.lemmas.List.{append-nil, take-append-drop, drop-drop}
use Rattle.std.proofs.Math.Seq.{drop-nil, take-add}
use Rattle.sf_term.specs.Trees.{Template}
use Rattle.sf_mean.specs.Meaning.{Network}
use Rattle.sf_lines.specs.Lines.{lines_of}
use Rattle.sf_player.specs.Scripts.{at_start, LeadsTo}
use Rattle.sf_player.specs.Telling.{RunGives}
use Rattle.sf_player.specs.Stops.{stop_end, stop_line}
use Rattle.sf_player.specs.Playing.{Played, IsPlaying, Feeds, EndsInput, gathered, IsForgotten}
use Rattle.sf_player.specs.declared.end.PlayEnd.{PlayEnd}
use Rattle.sf_player.specs.declared.end.PlayEnd.TheVariants.{Done}
use Rattle.sf_player.specs.declared.player.Player.{Player}
use Rattle.sf_player.specs.declared.stop.Stop.{Stop}
use Rattle.sf_session.proofs.Taking.{backs}
use Rattle.sf_session.specs.Phases.{phase_end, phase_line}
use Rattle.sf_session.specs.Feeding.{session_waiting, HasSaid, so_far, in_all, HandsOn, IsFed, IsPlayed, IsTaken}
use Rattle.sf_session.specs.declared.phase.Phase.{Phase}
use Rattle.sf_session.specs.declared.phase.Phase.TheVariants.{Running, Stopped, Finished}
use Rattle.sf_session.specs.declared.session.Session.{Session}

-- bytes that a player has forgotten count as written
pub forgotten_played : {F : Type 0} {H : _} {probes : Bool} {n : Network} {m : Template} {read written : List ℕ} (k : ℕ) {old new : Player F H} → IsForgotten k old new → Played probes n m read written old → Played probes n m read (written ++ take k (gathered old)) new
forgotten_played {probes = probes} {n = n} {m = m} {written = written} k {old = old} {new = new} G P = record {
  lines = P.lines;
  now = P.now;
  stands = rw G.cutter P.stands;
  reaches =
      let text : written ++ gathered old ≡ (written ++ take k (gathered old)) ++ gathered new =
      ap (λ x. written ++ x) (sym (take-append-drop k (gathered old))) ∙ sym (append_assoc written (take k (gathered old)) (drop k (gathered old)))
      ∙ ap (λ x. (written ++ take k (gathered old)) ++ x) (sym G.left) in
      subst (λ (x : List ℕ). LeadsTo n m (at_start probes) P.lines x P.now) text P.reaches;
  at = record {
    runs = rw G.engine P.at.runs;
    slow = P.at.slow;
    slow_saves = P.at.slow_saves;
    taken = G.taken ∙ P.at.taken;
    probes = G.probes ∙ P.at.probes;
  };
}

-- a player that has forgotten something plays on
pub forgotten_plays : {F : Type 0} {H : _} (k : ℕ) {old new : Player F H} → IsForgotten k old new → IsPlaying old → IsPlaying new
forgotten_plays k {old = old} G P = record { probes = P.probes; n = P.n; m = P.m; read = P.read; written = P.written ++ take k (gathered old); played = forgotten_played k G P.played }

-- a session whose player has forgotten what was taken: all that was taken counts as written
pub all_written : {probes : Bool} {n : Network} {m : Template} {fed given : List ℕ} {old : Session} (new : Session) → IsForgotten old.handed old.player new.player → HandsOn probes n m fed given old → Played probes n m fed given new.player
all_written {probes = probes} {n = n} {m = m} {fed = fed} {old = old} new G H =
    subst (λ (x : List ℕ). Played probes n m fed x new.player) (sym H.taken) (forgotten_played old.handed G H.played)

-- what waits while a run goes on
pub waiting_alone : (s : Session) → phase_line s.phase ≡ [] → session_waiting s ≡ drop s.handed (gathered s.player)
waiting_alone s none =
    ap (λ x. drop s.handed (gathered s.player) ++ drop s.told x) none ∙ ap (λ x. drop s.handed (gathered s.player) ++ x) (drop-nil s.told) ∙ append-nil (drop s.handed (gathered s.player))

-- a run that goes on
pub fed_on : {probes : Bool} {n : Network} {m : Template} {fed given : List ℕ} (s : Session) → s.phase ≡ Running → HandsOn probes n m fed given s → IsFed probes n m fed given s
fed_on {probes = probes} {n = n} {m = m} {fed = fed} {given = given} s runs H =
    let g = gathered s.player in
    let text : H.written ++ g ≡ given ++ session_waiting s =
    ap (λ x. H.written ++ x) (sym (take-append-drop s.handed g)) ∙ sym (append_assoc H.written (take s.handed g) (drop s.handed g))
    ∙ ap (λ x. x ++ drop s.handed g) (sym H.taken) ∙ ap (λ x. given ++ x) (sym (waiting_alone s (ap phase_line runs))) in
    record {
      said = subst (λ o. HasSaid probes n m fed (given ++ session_waiting s) (phase_end o)) (sym runs)
          (subst (λ (x : List ℕ). HasSaid probes n m fed x None) text (so_far H.played.stands.splits H.played.reaches));
      plays = λ same. H;
    }

-- a player that has forgotten nothing hands on
pub hands_all : {probes : Bool} {n : Network} {m : Template} {fed given : List ℕ} (s : Session) → s.handed ≡ 0 → Played probes n m fed given s.player → HandsOn probes n m fed given s
hands_all {given = given} s none P = record { written = given; taken = sym (ap (λ k. given ++ take k (gathered s.player)) none ∙ append-nil given); played = P }

-- what waits behind a stop, where nothing of it was taken
waiting_all : (given : List ℕ) (s : Session) → s.handed ≡ 0 → s.told ≡ 0 → (given ++ gathered s.player) ++ phase_line s.phase ≡ given ++ session_waiting s
waiting_all given s handed told =
    append_assoc given (gathered s.player) (phase_line s.phase)
    ∙ ap (λ l. given ++ l) (ap (λ k. drop k (gathered s.player) ++ phase_line s.phase) (sym handed) ∙ ap (λ k. drop s.handed (gathered s.player) ++ drop k (phase_line s.phase)) (sym told))

-- a piece was fed to a run that went on
pub feeds_fed : {probes : Bool} {n : Network} {m : Template} {given : List ℕ} (fed piece : List ℕ) (between : Player _ _) (new : Session) → new.phase ≡ Running → new.handed ≡ 0 → Feeds probes n m fed given between piece None new.player → IsFed probes n m (fed ++ piece) given new
feeds_fed fed piece between new runs handed F = fed_on new runs (hands_all new handed F.played)

-- and it has stopped
pub feeds_stopped : {probes : Bool} {n : Network} {m : Template} {given : List ℕ} (fed piece : List ℕ) (x : Stop) (between : Player _ _) (new : Session) → new.phase ≡ Stopped x → new.handed ≡ 0 → new.told ≡ 0 → Feeds probes n m fed given between piece (Some x) new.player → IsFed probes n m (fed ++ piece) given new
feeds_stopped {probes = probes} {n = n} {m = m} {given = given} fed piece x between new stopped handed told F =
    let text : (given ++ gathered new.player) ++ stop_line x ≡ given ++ session_waiting new = ap (λ p. (given ++ gathered new.player) ++ phase_line p) (sym stopped) ∙ waiting_all given new handed told in
    record {
      said = subst (λ p. HasSaid probes n m (fed ++ piece) (given ++ session_waiting new) (phase_end p)) (sym stopped)
          (in_all (λ left. subst (λ (t : List ℕ). RunGives probes n m (lines_of ((fed ++ piece) ++ left)) t (stop_end x)) text (F left)));
      plays = λ runs. absurd cc;
    }

-- what a run that has ended has said is all, whatever follows
said_further : {probes : Bool} {n : Network} {m : Template} {fed said : List ℕ} (piece : List ℕ) (p : Phase) → p ≢ Running → HasSaid probes n m fed said (phase_end p) → HasSaid probes n m (fed ++ piece) said (phase_end p)
said_further piece Running ended h = absurd (ended refl)
said_further {probes = probes} {n = n} {m = m} {fed = fed} {said = said} piece (Stopped x) ended (in_all gives) =
    in_all (λ left. subst (λ (t : List ℕ). RunGives probes n m (lines_of t) said (stop_end x)) (sym (append_assoc fed piece left)) (gives (piece ++ left)))
said_further {probes = probes} {n = n} {m = m} {fed = fed} {said = said} piece Finished ended (in_all gives) =
    in_all (λ left. subst (λ (t : List ℕ). RunGives probes n m (lines_of t) said Done) (sym (append_assoc fed piece left)) (gives (piece ++ left)))

-- a piece is fed to a run that has ended
pub feeds_ended : {probes : Bool} {n : Network} {m : Template} {fed given : List ℕ} (s : Session) (piece : List ℕ) → s.phase ≢ Running → IsFed probes n m fed given s → IsFed probes n m (fed ++ piece) given s
feeds_ended s piece ended F = record {
  said = said_further piece s.phase ended F.said;
  plays = λ runs. absurd (ended runs);
}

-- what a run has said that has ended
record SaidAll (probes : Bool) (n : Network) (m : Template) (fed said : List ℕ) (p : Phase) : Type 0 where
  pub e : PlayEnd
  pub ends : phase_end p ≡ Some e
  pub gives : RunGives probes n m (lines_of fed) said e

said_all : {probes : Bool} {n : Network} {m : Template} {fed said : List ℕ} (p : Phase) → p ≢ Running → HasSaid probes n m fed said (phase_end p) → SaidAll probes n m fed said p
said_all Running ended h = absurd (ended refl)
said_all {probes = probes} {n = n} {m = m} {fed = fed} {said = said} (Stopped x) ended (in_all gives) =
    record { e = stop_end x; ends = refl; gives = subst (λ (t : List ℕ). RunGives probes n m (lines_of t) said (stop_end x)) (append-nil fed) (gives []) }
said_all {probes = probes} {n = n} {m = m} {fed = fed} {said = said} Finished ended (in_all gives) =
    record { e = Done; ends = refl; gives = subst (λ (t : List ℕ). RunGives probes n m (lines_of t) said Done) (append-nil fed) (gives []) }

-- the input of a run that has ended ends
pub finishes_ended : {probes : Bool} {n : Network} {m : Template} {fed given : List ℕ} (s : Session) → s.phase ≢ Running → IsFed probes n m fed given s → IsPlayed probes n m fed given s
finishes_ended s ended F = let all = said_all s.phase ended F.said in record { e = all.e; ends = all.ends; gives = all.gives }

-- the input of a run that goes on ends, and all of it was played
pub finishes : {probes : Bool} {n : Network} {m : Template} {fed given : List ℕ} (new : Session) → new.phase ≡ Finished → new.handed ≡ 0 → new.told ≡ 0 → EndsInput probes n m fed given None new.player → IsPlayed probes n m fed given new
finishes {probes = probes} {n = n} {m = m} {fed = fed} {given = given} new finished handed told E =
    let text : given ++ gathered new.player ≡ given ++ session_waiting new =
    sym (append-nil (given ++ gathered new.player)) ∙ ap (λ p. (given ++ gathered new.player) ++ phase_line p) (sym finished) ∙ waiting_all given new handed told in
    record { e = _; ends = ap phase_end finished; gives = subst (λ (t : List ℕ). RunGives probes n m (lines_of fed) t Done) text E }

-- or it stops at its last line
pub finishes_stopped : {probes : Bool} {n : Network} {m : Template} {fed given : List ℕ} (x : Stop) (new : Session) → new.phase ≡ Stopped x → new.handed ≡ 0 → new.told ≡ 0 → EndsInput probes n m fed given (Some x) new.player → IsPlayed probes n m fed given new
finishes_stopped {probes = probes} {n = n} {m = m} {fed = fed} {given = given} x new stopped handed told E =
    let text : (given ++ gathered new.player) ++ stop_line x ≡ given ++ session_waiting new = ap (λ p. (given ++ gathered new.player) ++ phase_line p) (sym stopped) ∙ waiting_all given new handed told in
    record { e = _; ends = ap phase_end stopped; gives = subst (λ (t : List ℕ). RunGives probes n m (lines_of fed) t (stop_end x)) text E }

-- how much of what was gathered is taken
pub least : (k count handed : ℕ) (g x : List ℕ) → x ≡ g → k ≡ min count (length x - handed) → k ≡ min count (length (drop handed g))
least k count handed g x same e = e ∙ ap (λ (y : List ℕ). min count (length y - handed)) same ∙ ap (min count) (sym (length-drop handed g))

-- what waits behind what is taken
pub left_behind : (k count handed told : ℕ) (g l : List ℕ) → k ≡ min count (length (drop handed g)) → drop (handed + k) g ++ drop (told + (count - k)) l ≡ drop count (drop handed g ++ drop told l)
left_behind k count handed told g l least =
    let apart : count ≡ k + (count - k) = omega arith in
    ap (λ x. x ++ drop (told + (count - k)) l) (sym (drop-drop k handed g)) ∙ ap (λ x. drop k (drop handed g) ++ x) (sym (drop-drop (count - k) told l))
    ∙ backs k (count - k) (drop handed g) (drop told l) (omega arith) (grind arith) ∙ ap (λ i. drop i (drop handed g ++ drop told l)) (sym apart)

-- what is taken goes from what waits
takes_text : {room : List ℕ} {old new : Session} {count : ℕ} (given : List ℕ) → IsTaken old count room new → given ++ session_waiting old ≡ (given ++ take count room) ++ session_waiting new
takes_text {room = room} {old = old} {new = new} {count = count} given T =
    ap (λ x. given ++ x) (sym (take-append-drop count (session_waiting old))) ∙ sym (append_assoc given (take count (session_waiting old)) (drop count (session_waiting old)))
    ∙ ap (λ x. (given ++ x) ++ drop count (session_waiting old)) (sym T.written) ∙ ap (λ x. (given ++ take count room) ++ x) (sym T.left)

-- what waits is taken from a run that goes on or has ended
pub takes_fed : {probes : Bool} {n : Network} {m : Template} {fed given room : List ℕ} {old new : Session} {count k : ℕ} → IsFed probes n m fed given old → IsTaken old count room new → k ≡ min count (length (drop old.handed (gathered old.player))) → new.player ≡ old.player → new.handed ≡ old.handed + k → IsFed probes n m fed (given ++ take count room) new
takes_fed {probes = probes} {n = n} {m = m} {fed = fed} {given = given} {room = room} {old = old} {new = new} {count = count} {k = k} F T same player handed = record {
  said = subst (λ p. HasSaid probes n m fed ((given ++ take count room) ++ session_waiting new) (phase_end p)) (sym T.phase)
      (subst (λ (x : List ℕ). HasSaid probes n m fed x (phase_end old.phase)) (takes_text given T) F.said);
  plays = λ runs.
      let before : old.phase ≡ Running = sym T.phase ∙ runs in
      let H = F.plays before in
      let g = gathered old.player in
      let all : session_waiting old ≡ drop old.handed g = waiting_alone old (ap phase_line before) in
      let few : count ≤ length (drop old.handed g) = subst (λ (x : List ℕ). count ≤ length x) all (omega (arith, T.most)) in
      let whole : count ≡ k = omega arith in
      let front : take count room ≡ take k (drop old.handed g) = T.written ∙ ap (take count) all ∙ ap (λ i. take i (drop old.handed g)) whole in
      let later : take new.handed (gathered new.player) ≡ take (old.handed + k) g = ap (λ i. take i (gathered new.player)) handed ∙ ap (λ p. take (old.handed + k) (gathered p)) player in
      record {
        written = H.written;
        taken =
            ap (λ x. given ++ x) front ∙ ap (λ x. x ++ take k (drop old.handed g)) H.taken ∙ append_assoc H.written (take old.handed g) (take k (drop old.handed g))
            ∙ ap (λ x. H.written ++ x) (sym (take-add old.handed k g) ∙ sym later);
        played = rw player H.played;
      };
}

-- and from one whose input has ended
pub takes_played : {probes : Bool} {n : Network} {m : Template} {whole given room : List ℕ} {old new : Session} {count : ℕ} → IsPlayed probes n m whole given old → IsTaken old count room new → IsPlayed probes n m whole (given ++ take count room) new
takes_played {probes = probes} {n = n} {m = m} {whole = whole} {given = given} P T = record {
  e = P.e;
  ends = ap phase_end T.phase ∙ P.ends;
  gives = subst (λ (x : List ℕ). RunGives probes n m (lines_of whole) x P.e) (takes_text given T) P.gives;
}
