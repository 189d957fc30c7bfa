-- A player's steps over its input.
use Rattle.std.proofs.Common.{◌≡◌, ℕ, ◌+◌, ◌-◌, ◌*◌, ◌<◌, ◌≤◌, Bool, List, [], ◌∷◌, ◌++◌, length, take, drop, length-take-le, Option, Some, None, refl, sym, ap, ◌∙◌, subst, append_assoc, arith}
use Rattle.std.proofs.lemmas.List.{append-nil, take-append-drop, length-append}
use Rattle.sf_player.proofs.Known.{take-next, slice_from}
use Rattle.sf_term.specs.Trees.{Template}
use Rattle.sf_mean.specs.Meaning.{Network}
use Rattle.sf_engine.specs.Histories.{save_kept}
use Rattle.sf_engine.specs.Running.{Runs}
use Rattle.sf_lines.specs.Lines.{lines_of}
use Rattle.sf_lines.specs.Limits.{limit_refusal, RefusesNext}
use Rattle.sf_lines.specs.Cutting.{pending, line_of}
use Rattle.sf_lines.specs.Standing.{CutterStands, CompletesLine, PassesLine, GrowsBy}
use Rattle.sf_lines.specs.Written.{refusal_line}
use Rattle.sf_lines.specs.declared.cutter.Cutter.{Cutter}
use Rattle.sf_lines.specs.declared.refusal.LineRefusal.{LineRefusal}
use Rattle.sf_lines.proofs.Splitting.{lines_of-splits}
use Rattle.sf_lines.proofs.CutterSteps.{line_of-short, lines_taken-few, pending-short, limit_refusal-none}
use Rattle.sf_player.specs.Scripts.{Moment, at_start, Turn, goes_on, Replies, past_limits, refused, quiet, keeps, keeps_no_more, returns, returns_nowhere, gives_value, gives_fault, gives_none, LeadsTo, no_line, one_more, to_the_end, up_to}
use Rattle.sf_player.specs.Telling.{RunGives, with_the_input, at_a_fault, at_a_refusal, without_memory, too_large, without_memory_for_a_value, without_memory_for_a_copy}
use Rattle.sf_player.specs.Playing.{Halts, faults, refuses, lacks_memory, is_too_large, lacks_memory_for_its_value, lacks_memory_for_a_copy, PlaysOn, EndsRun, PlaysLine, EndsInput, weight, Played, PlayedMore, Halted}
use Rattle.sf_player.specs.declared.end.PlayEnd.{PlayEnd}
use Rattle.sf_player.specs.declared.end.PlayEnd.TheVariants.{Done, BadLine}
use Rattle.sf_player.specs.declared.player.Player.{Player}
use Rattle.sf_player.specs.declared.stop.Stop.{Stop}
use Rattle.sf_player.specs.declared.stop.Stop.TheVariants.{Refused}
use Rattle.sf_player.specs.Stops.{stop_end, stop_line}

-- a line is counted
Replies-taken : {n : Network} {m : Template} {now later : Moment} {line text : List ℕ} {t : Turn} → Replies n m now line text t → t ≡ goes_on later → later.taken ≡ now.taken + 1
Replies-taken {now = now} {later = later} (past_limits e) h = absurd cc
Replies-taken {now = now} {later = later} (refused e s) h = absurd cc
Replies-taken {now = now} {later = later} (quiet a) h = let e : record now { taken = now.taken + 1 } ≡ later = cc in sym (ap (λ k. k.taken) e)
Replies-taken {now = now} {later = later} (keeps {name = name} a may) h = let e : record now { taken = now.taken + 1; saved = save_kept name now.lived now.saved } ≡ later = cc in sym (ap (λ k. k.taken) e)
Replies-taken {now = now} {later = later} (keeps_no_more a full) h = absurd cc
Replies-taken {now = now} {later = later} (returns {K = K} a found) h = let e : record now { taken = now.taken + 1; lived = K } ≡ later = cc in sym (ap (λ k. k.taken) e)
Replies-taken {now = now} {later = later} (returns_nowhere a absent) h = absurd cc
Replies-taken {now = now} {later = later} (gives_value {L = L} a s q G) h = let same : record now { taken = now.taken + 1; lived = L } ≡ later = cc in sym (ap (λ k. k.taken) same)
Replies-taken {now = now} {later = later} (gives_fault a s q G) h = absurd cc
Replies-taken {now = now} {later = later} (gives_none a s q none) h = absurd cc

-- each line is counted
pub LeadsTo-taken : {n : Network} {m : Template} {now later : Moment} {lines : List (List ℕ)} {said : List ℕ} → LeadsTo n m now lines said later → now.taken + length lines ≡ later.taken
LeadsTo-taken no_line = omega arith
LeadsTo-taken {now = now} (one_more {lines = lines} {line = line} R r) =
    let before = LeadsTo-taken R in
    let more = Replies-taken r refl in
    simp length-append (omega arith)

-- a line that the cutter completed is within the limits
pub line_within : {F : Type 0} {H : _} {probes : Bool} {n : Network} {m : Template} {read written : List ℕ} {p : Player F H} {size : ℕ} {c : Cutter} → (P : Played probes n m read written p) → CompletesLine p.cutter size c → limit_refusal P.now.taken (line_of c) ≡ None
line_within {c = c} P done =
    let taken = LeadsTo-taken P.reaches in
    let counted = P.stands.counted in
    let more = done.counted in
    limit_refusal-none P.now.taken (line_of c) (let few = lines_taken-few c in omega arith) (line_of-short c)

-- and so is one that stands whole in its piece
pub whole_within : {F : Type 0} {H : _} {probes : Bool} {n : Network} {m : Template} {read written : List ℕ} {p : Player F H} {c : Cutter} (line : List ℕ) → (P : Played probes n m read written p) → PassesLine p.cutter line c → limit_refusal P.now.taken line ≡ None
whole_within {c = c} line P done =
    let taken = LeadsTo-taken P.reaches in
    let counted = P.stands.counted in
    let more = done.counted in
    limit_refusal-none P.now.taken line (let few = lines_taken-few c in omega arith) done.short

-- a line that goes on
pub plays_line : {F : Type 0} {H : _} {probes : Bool} {n : Network} {m : Template} {read written line : List ℕ} {p mid new : Player F H} (bytes : List ℕ) (P : Played probes n m read written p) → CutterStands mid.cutter (read ++ bytes) (P.lines ++ line ∷ []) → PlaysOn n m P.now line mid new → mid.out.items ≡ p.out.items → Played probes n m (read ++ bytes) written new
plays_line {probes = probes} {n = n} {m = m} {read = read} {written = written} {line = line} {p = p} {new = new} bytes P S G out = record {
  lines = P.lines ++ line ∷ [];
  now = G.later;
  stands = subst (λ c. CutterStands c (read ++ bytes) (P.lines ++ line ∷ [])) (sym G.cutter) S;
  reaches =
      let text : (written ++ p.out.items) ++ G.text ≡ written ++ new.out.items =
      append_assoc written p.out.items G.text ∙ ap (λ x. written ++ (x ++ G.text)) (sym out) ∙ ap (λ x. written ++ x) (sym G.said) in
      subst (λ (x : List ℕ). LeadsTo n m (at_start probes) (P.lines ++ line ∷ []) x G.later) text (one_more P.reaches G.replies);
  at = G.at;
}

-- a line that ends the run
pub stops_by : {probes : Bool} {n : Network} {m : Template} {front lines : List (List ℕ)} {line said : List ℕ} {between : Moment} {text : List ℕ} {e : PlayEnd} (others : List (List ℕ)) → LeadsTo n m (at_start probes) front said between → Halts n m between line text e → lines ≡ front ++ line ∷ others → RunGives probes n m lines (said ++ text) e
stops_by others R (faults r) q = at_a_fault (up_to others R r q)
stops_by others R (refuses r) q = at_a_refusal (up_to others R r q)
stops_by others R (lacks_memory a s) q = without_memory others R q a s
stops_by others R (is_too_large a s l) q = too_large others R q a s l
stops_by others R (lacks_memory_for_its_value within value) q = without_memory_for_a_value others R q within value
stops_by others R (lacks_memory_for_a_copy a c) q = without_memory_for_a_copy others R q a c

said_so : {probes : Bool} {n : Network} {m : Template} {lines : List (List ℕ)} {e : PlayEnd} (written line a b : List ℕ) → RunGives probes n m lines ((written ++ a) ++ line) e → b ≡ a → RunGives probes n m lines ((written ++ b) ++ line) e
said_so {probes = probes} {n = n} {m = m} {lines = lines} {e = e} written line a b S same = subst (λ (x : List ℕ). RunGives probes n m lines ((written ++ x) ++ line) e) (sym same) S

pub line_halts : {F : Type 0} {H : _} {probes : Bool} {n : Network} {m : Template} {read written line : List ℕ} {p mid new : Player F H} {s : Stop} (piece : List ℕ) (used : ℕ) (P : Played probes n m read written p) → CutterStands mid.cutter (read ++ take used piece) (P.lines ++ line ∷ []) → EndsRun n m P.now line mid s new → mid.out.items ≡ p.out.items → Halted probes n m (read ++ piece) (written ++ new.out.items) s
line_halts {read = read} {written = written} {line = line} {p = p} {mid = mid} {new = new} {s = s} piece used P S E out = λ left.
    let more : List ℕ = drop used piece ++ left in
    let regroup : (read ++ (take used piece ++ drop used piece)) ++ left ≡ (read ++ take used piece) ++ more = simp append_assoc in
    let cut : lines_of ((read ++ piece) ++ left) ≡ P.lines ++ line ∷ lines_of (pending mid.cutter ++ more) =
    ap (λ x. lines_of ((read ++ x) ++ left)) (sym (take-append-drop used piece))
    ∙ ap lines_of regroup
    ∙ lines_of-splits (read ++ take used piece) (P.lines ++ line ∷ []) (pending mid.cutter) more S.splits
    ∙ append_assoc P.lines (line ∷ []) (lines_of (pending mid.cutter ++ more)) in
    said_so written (stop_line s) p.out.items new.out.items (stops_by (lines_of (pending mid.cutter ++ more)) P.reaches E.halts cut) (E.said ∙ out)

-- a line that the cutter refuses
pub refusal_halts : {F : Type 0} {H : _} {probes : Bool} {n : Network} {m : Template} {read written : List ℕ} {p : Player F H} {r : LineRefusal} (s : Stop) (piece : List ℕ) (P : Played probes n m read written p) → RefusesNext (read ++ piece) P.lines r → s ≡ Refused (p.taken + 1) r → Halted probes n m (read ++ piece) (written ++ p.out.items) s
refusal_halts {n = n} {m = m} {read = read} {written = written} {p = p} {r = r} s piece P next_refused is = λ left.
    let next = next_refused left in
    let taken = LeadsTo-taken P.reaches in
    let late : limit_refusal P.now.taken next.0 ≡ Some r = ap (λ k. limit_refusal k next.0) (let e : P.now.taken ≡ length P.lines = omega arith in e) ∙ next.3 in
    let halts : Halts n m P.now next.0 (stop_line s) (stop_end s) =
    subst (λ (s : Stop). Halts n m P.now next.0 (stop_line s) (stop_end s)) (sym is) (subst (λ k. Halts n m P.now next.0 (refusal_line (k + 1) r) BadLine) (sym P.at.taken) (refuses (past_limits late))) in
    stops_by next.1 P.reaches halts next.2

-- the last line
pub ends_played : {F : Type 0} {H : _} {probes : Bool} {n : Network} {m : Template} {read written : List ℕ} {p : Player F H} (P : Played probes n m read written p) → lines_of read ≡ P.lines → RunGives probes n m (lines_of read) (written ++ p.out.items) Done
ends_played {probes = probes} {n = n} {m = m} {written = written} {p = p} P all =
    subst (λ (ls : List (List ℕ)). RunGives probes n m ls (written ++ p.out.items) Done) (sym all) (with_the_input (to_the_end P.reaches))

last_line_ends : {F : Type 0} {H : _} {probes : Bool} {n : Network} {m : Template} {read written line : List ℕ} {p mid new : Player F H} (P : Played probes n m read written p) → lines_of read ≡ P.lines ++ line ∷ [] → PlaysOn n m P.now line mid new → mid.out.items ≡ p.out.items → RunGives probes n m (lines_of read) (written ++ new.out.items) Done
last_line_ends {probes = probes} {n = n} {m = m} {read = read} {written = written} {line = line} {p = p} {new = new} P all G out =
    let text : (written ++ p.out.items) ++ G.text ≡ written ++ new.out.items =
    append_assoc written p.out.items G.text ∙ ap (λ x. written ++ (x ++ G.text)) (sym out) ∙ ap (λ x. written ++ x) (sym G.said) in
    subst (λ (ls : List (List ℕ)). RunGives probes n m ls (written ++ new.out.items) Done) (sym all)
    (subst (λ (x : List ℕ). RunGives probes n m (P.lines ++ line ∷ []) x Done) text (with_the_input (to_the_end (one_more P.reaches G.replies))))

last_line_halts : {F : Type 0} {H : _} {probes : Bool} {n : Network} {m : Template} {read written line : List ℕ} {p mid new : Player F H} {s : Stop} (P : Played probes n m read written p) → lines_of read ≡ P.lines ++ line ∷ [] → EndsRun n m P.now line mid s new → mid.out.items ≡ p.out.items → RunGives probes n m (lines_of read) ((written ++ new.out.items) ++ stop_line s) (stop_end s)
last_line_halts {written = written} {p = p} {new = new} {s = s} P all E out = said_so written (stop_line s) p.out.items new.out.items (stops_by [] P.reaches E.halts all) (E.said ∙ out)

pub last_line : {F : Type 0} {H : _} (probes : Bool) (n : Network) (m : Template) (read written line : List ℕ) {p : Player F H} (mid new : Player F H) (r : Option Stop) (P : Played probes n m read written p) → lines_of read ≡ P.lines ++ line ∷ [] → mid.out.items ≡ p.out.items → PlaysLine n m P.now line mid r new → EndsInput probes n m read written r new
last_line probes n m read written line mid new None P all out G = last_line_ends P all G out
last_line probes n m read written line mid new (Some s) P all out E = last_line_halts P all E out

-- how far a line brings a cutter
pub line_further : {old mid new : Cutter} {used : ℕ} (piece : List ℕ) → CompletesLine old used mid → used ≤ length piece → new ≡ mid → weight old + length (take used piece) ≤ weight new
line_further {mid = mid} {used = used} piece done within same =
    let size = done.size in
    let counted = done.counted in
    let short = line_of-short mid in
    let none : length (pending mid) ≡ 0 = ap length done.fresh in
    rw same (rw (length-take-le used piece within) (omega arith))

pub whole_further : {old mid new : Cutter} (piece line : List ℕ) → PassesLine old line mid → length line < length piece → new ≡ mid → weight old + length (take (length line + 1) piece) ≤ weight new
whole_further {old = old} {mid = mid} piece line done within same =
    let counted = done.counted in
    let short = done.short in
    let before : length (pending old) ≡ 0 = ap length done.none in
    let none : length (pending mid) ≡ 0 = ap length done.still in
    rw same (rw (length-take-le (length line + 1) piece (omega arith)) (omega arith))

-- how far bytes of an unfinished line bring it
pub part_further : {old new : Cutter} (piece : List ℕ) → GrowsBy old (length piece) new → weight old + length piece ≤ weight new
part_further piece grows =
    let grown = grows.grown in
    let counted = grows.counted in
    omega arith

-- no cutter comes further
pub weight_bound : (c : Cutter) → weight c < 65537 * 1000001
weight_bound c =
    let few = lines_taken-few c in
    let short = pending-short c in
    omega arith

-- nothing and then more
pub PlayedMore-none : {F : Type 0} {H : _} {probes : Bool} {n : Network} {m : Template} {read written : List ℕ} {p : Player F H} → Played probes n m read written p → PlayedMore probes n m read written p [] p
PlayedMore-none {probes = probes} {n = n} {m = m} {read = read} {written = written} {p = p} P = record {
  played = subst (λ (x : List ℕ). Played probes n m x written p) (sym (append-nil read)) P;
  further = omega arith;
}

pub PlayedMore-more : {F : Type 0} {H : _} {probes : Bool} {n : Network} {m : Template} {written : List ℕ} {p q r : Player F H} (read piece : List ℕ) (at used : ℕ) → PlayedMore probes n m read written p (take at piece) q
    → PlayedMore probes n m (read ++ take at piece) written q (take used (take (length piece - at) (drop at piece))) r → PlayedMore probes n m read written p (take (at + used) piece) r
PlayedMore-more {probes = probes} {n = n} {m = m} {written = written} {r = r} read piece at used a b =
    let rest : List ℕ = take used (take (length piece - at) (drop at piece)) in
    let whole : (read ++ take at piece) ++ rest ≡ read ++ take (at + used) piece = append_assoc read (take at piece) rest ∙ ap (λ x. read ++ x) (sym (take-next at used piece)) in
    let sizes : length (take (at + used) piece) ≡ length (take at piece) + length rest = ap length (take-next at used piece) ∙ length-append (take at piece) rest in
    let first = a.further in
    let second = b.further in
    record {
      played = subst (λ (x : List ℕ). Played probes n m x written r) whole b.played;
      further = omega arith;
    }

pub Halted-more : {probes : Bool} {n : Network} {m : Template} (s : Stop) (said read piece : List ℕ) (at : ℕ) → Halted probes n m ((read ++ take at piece) ++ take (length piece - at) (drop at piece)) said s → Halted probes n m (read ++ piece) said s
Halted-more {probes = probes} {n = n} {m = m} s said read piece at h =
    let whole : (read ++ take at piece) ++ take (length piece - at) (drop at piece) ≡ read ++ piece =
    append_assoc read (take at piece) (take (length piece - at) (drop at piece)) ∙ ap (λ x. read ++ (take at piece ++ x)) (slice_from at piece) ∙ ap (λ x. read ++ x) (take-append-drop at piece) in
    λ left. subst (λ (x : List ℕ). RunGives probes n m (lines_of (x ++ left)) (said ++ stop_line s) (stop_end s)) whole (h left)

-- a player at its start
pub starts_played : {F : Type 0} {H : _} {probes : Bool} {n : Network} {m : Template} (p : Player F H) → CutterStands p.cutter [] [] → Runs p.engine n m [] [] → p.taken ≡ 0 → p.probes ≡ probes → p.out.items ≡ [] → Played probes n m [] [] p
starts_played {probes = probes} {n = n} {m = m} p stands runs count as_asked out = record {
  lines = [];
  now = at_start probes;
  stands = stands;
  reaches = subst (λ (x : List ℕ). LeadsTo n m (at_start probes) [] x (at_start probes)) (sym out) no_line;
  at = record { runs = runs; slow = omega arith; slow_saves = λ k d h. absurd (omega arith); taken = count; probes = as_asked };
}
