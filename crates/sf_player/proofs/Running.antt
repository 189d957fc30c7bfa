-- How a run goes on and ends.
use Rattle.std.proofs.Common.{◌≡◌, ◌≢◌, ℕ, ◌+◌, ◌≤◌, Bool, List, [], ◌++◌, length, Option, Some, None, refl, sym, ap, ◌∙◌, subst, append_assoc}
use Rattle.std.proofs.lemmas.List.{append-nil}
use Rattle.std.specs.Io.KnownBytes.{Keeps, Consumes, Appends, IsAtEnd}
use Rattle.sf_term.specs.Trees.{Template}
use Rattle.sf_mean.specs.Meaning.{Network}
use Rattle.sf_lines.specs.Lines.{lines_of}
use Rattle.sf_lines.specs.Cutting.{pending}
use Rattle.sf_lines.specs.Written.{refusal_line}
use Rattle.sf_lines.specs.declared.refusal.LineRefusal.TheVariants.{Memory as MemoryRefusal}
use Rattle.sf_lines.proofs.Splitting.{lines_of-splits}
use Rattle.sf_player.specs.Scripts.{at_start, LeadsTo}
use Rattle.sf_player.specs.Telling.{RunGives, CanBeGiven, so_far, in_all, by_its_end, by_a_read_fault, by_a_write_fault, before_any_line, by_a_write_fault_before_any_line, Told}
use Rattle.sf_player.specs.Stops.{stop_end, stop_line}
use Rattle.sf_player.specs.declared.stop.Stop.TheVariants.{Faulted, Refused}
use Rattle.sf_player.specs.Counting.{WritesFront, CountsReads}
use Rattle.sf_player.specs.Playing.{Played, Feeds, EndsInput, weight, line_of_stop, IsCleared, WritesOut, runs_on, ended, failed}
use Rattle.sf_player.specs.declared.end.PlayEnd.{PlayEnd}
use Rattle.sf_player.specs.declared.end.PlayEnd.TheVariants.{Done, Fault, BadLine, ReadFault, WriteFault}
use Rattle.sf_player.specs.declared.player.Player.{Player}
use Rattle.sf_player.specs.declared.stop.Stop.{Stop}
use Rattle.sf_player.proofs.Known.{Consumes-none, Consumes-more, Consumes-kept, Appends-none, Appends-more, nothing_left}

-- What was read and written so far, and what the player has played. Nothing is gathered.
pub record Running {F : Type 0} {H : _} (probes : Bool) (n : Network) (m : Template) (before after held holds : Option (List ℕ)) (p : Player F H) : Type 0 where
  pub read : List ℕ
  pub written : List ℕ
  pub consumed : Consumes before after read
  pub appended : Appends held holds written
  pub played : Played probes n m read written p
  pub empty : p.out.items ≡ []

pub starts_running : {F : Type 0} {H : _} {probes : Bool} {n : Network} {m : Template} {p : Player F H} (before held : Option (List ℕ)) → Played probes n m [] [] p → p.out.items ≡ [] → Running probes n m before before held held p
starts_running before held P empty = record { read = []; written = []; consumed = Consumes-none before; appended = Appends-none held; played = P; empty = empty }

cleared_at : {F : Type 0} {H : _} {probes : Bool} {n : Network} {m : Template} {read written : List ℕ} {mid new : Player F H} → Played probes n m read written mid → IsCleared mid new → Played probes n m read (written ++ mid.out.items) new
cleared_at {probes = probes} {n = n} {m = m} {read = read} {written = written} {mid = mid} {new = new} P C = record {
  lines = P.lines;
  now = P.now;
  stands = rw C.cutter P.stands;
  reaches =
      let same : (written ++ mid.out.items) ++ new.out.items ≡ written ++ mid.out.items = ap (λ x. (written ++ mid.out.items) ++ x) C.empty ∙ append-nil (written ++ mid.out.items) in
      subst (λ (x : List ℕ). LeadsTo n m (at_start probes) P.lines x P.now) (sym same) P.reaches;
  at = record {
    runs = rw C.engine P.at.runs;
    slow = P.at.slow;
    slow_saves = P.at.slow_saves;
    taken = C.taken ∙ P.at.taken;
    probes = C.probes ∙ P.at.probes;
  };
}

-- a piece was played and written
pub runs_further : {F : Type 0} {H : _} {probes : Bool} {n : Network} {m : Template} {before mid_read after held mid_held holds : Option (List ℕ)} {p mid new : Player F H} {r : Option PlayEnd} (piece : List ℕ) (stop : Option Stop) (R : Running probes n m before mid_read held mid_held p) → Consumes mid_read after piece
    → Feeds probes n m R.read R.written p piece stop mid → WritesOut mid mid_held holds stop r new → r ≡ None → Running probes n m before after held holds new
runs_further {before = before} {mid_read = b} {after = after} {held = held} {mid_held = i} {holds = holds} {mid = mid} piece None R took P (runs_on wrote clear) e = record {
  read = R.read ++ piece;
  written = R.written ++ mid.out.items;
  consumed = Consumes-more before b after R.read piece R.consumed took;
  appended = Appends-more held i holds R.written mid.out.items R.appended wrote;
  played = cleared_at P.played clear;
  empty = clear.empty;
}
runs_further piece stop R took F (failed w) e = cc
runs_further piece (Some s) R took F (ended w) e = cc

-- how far it came
pub comes_further : {F : Type 0} {H : _} (probes : Bool) (n : Network) (m : Template) (read written : List ℕ) {h i : Option (List ℕ)} (p : Player F H) {mid new : Player F H} (piece : List ℕ) {r : Option PlayEnd} (stop : Option Stop) → Feeds probes n m read written p piece stop mid → WritesOut mid h i stop r new → r ≡ None → weight p.cutter + length piece ≤ weight new.cutter
comes_further probes n m read written p piece None P (runs_on wrote clear) e = rw clear.cutter P.further
comes_further probes n m read written p piece stop F (failed w) e = cc
comes_further probes n m read written p piece (Some s) F (ended w) e = cc

-- what was to be written, where a piece was played
feeds_give : {F : Type 0} {H : _} (probes : Bool) (n : Network) (m : Template) (written : List ℕ) (p mid : Player F H) (read piece : List ℕ) (stop : Option Stop) → Feeds probes n m read written p piece stop mid → (left : List ℕ) → CanBeGiven probes n m (lines_of ((read ++ piece) ++ left)) (written ++ (mid.out.items ++ line_of_stop stop))
feeds_give probes n m written p mid read piece None P left =
    subst (λ (x : List ℕ). CanBeGiven probes n m (lines_of ((read ++ piece) ++ left)) (written ++ x)) (sym (append-nil mid.out.items))
    (so_far (lines_of (pending mid.cutter ++ left)) P.played.reaches (lines_of-splits (read ++ piece) P.played.lines (pending mid.cutter) left P.played.stands.splits))
feeds_give probes n m written p mid read piece (Some s) halted left =
    subst (λ (x : List ℕ). CanBeGiven probes n m (lines_of ((read ++ piece) ++ left)) x) (append_assoc written mid.out.items (stop_line s)) (in_all (halted left))

finish_gives : {F : Type 0} {H : _} (probes : Bool) (n : Network) (m : Template) (read written : List ℕ) (mid : Player F H) (stop : Option Stop) → EndsInput probes n m read written stop mid → CanBeGiven probes n m (lines_of read) (written ++ (mid.out.items ++ line_of_stop stop))
finish_gives probes n m read written mid None S =
    subst (λ (x : List ℕ). CanBeGiven probes n m (lines_of read) (written ++ x)) (sym (append-nil mid.out.items)) (in_all S)
finish_gives probes n m read written mid (Some s) S =
    subst (λ (x : List ℕ). CanBeGiven probes n m (lines_of read) x) (append_assoc written mid.out.items (stop_line s)) (in_all S)

-- a front of what was to be written
front_gives : {probes : Bool} {n : Network} {m : Template} {lines : List (List ℕ)} {text : List ℕ} (written front more : List ℕ) → CanBeGiven probes n m lines (written ++ text) → text ≡ front ++ more → CanBeGiven probes n m lines ((written ++ front) ++ more)
front_gives {probes = probes} {n = n} {m = m} {lines = lines} written front more G e = subst (λ (x : List ℕ). CanBeGiven probes n m lines x) (ap (λ x. written ++ x) e ∙ sym (append_assoc written front more)) G

-- a piece ends the run
pub told_midway : {F : Type 0} {H : _} {probes : Bool} {n : Network} {m : Template} {before mid_read after held mid_held holds : Option (List ℕ)} {p mid new : Player F H} {r : Option PlayEnd} (piece : List ℕ) (stop : Option Stop) (e : PlayEnd) (R : Running probes n m before mid_read held mid_held p) → Consumes mid_read after piece
    → Feeds probes n m R.read R.written p piece stop mid → WritesOut mid mid_held holds stop r new → r ≡ Some e → Told probes n m before after held holds e
told_midway piece None e R took F (runs_on wrote clear) q = cc
told_midway {probes = probes} {n = n} {m = m} {before = before} {mid_read = b} {after = after} {held = held} {mid_held = i} {holds = holds} {p = p} {mid = mid} piece stop e R took F (failed w) q =
    let same : WriteFault ≡ e = cc in
    rw (sym same) (record {
      read = R.read ++ piece;
      said = R.written ++ w.0;
      consumed = Consumes-more before b after R.read piece R.consumed took;
      written = Appends-more held i holds R.written w.0 R.appended w.2;
      tells = λ left h. by_a_write_fault w.1 (front_gives R.written w.0 w.1 (feeds_give probes n m R.written p mid R.read piece stop F left) w.3);
    })
told_midway {probes = probes} {n = n} {m = m} {before = before} {mid_read = b} {after = after} {held = held} {mid_held = i} {holds = holds} {mid = mid} piece (Some s) e R took F (ended wrote) q =
    let same : stop_end s ≡ e = cc in
    rw (sym same) (record {
      read = R.read ++ piece;
      said = R.written ++ (mid.out.items ++ stop_line s);
      consumed = Consumes-more before b after R.read piece R.consumed took;
      written = Appends-more held i holds R.written (mid.out.items ++ stop_line s) R.appended wrote;
      tells = λ left h. by_its_end (subst (λ (x : List ℕ). RunGives probes n m (lines_of ((R.read ++ piece) ++ left)) x (stop_end s)) (append_assoc R.written mid.out.items (stop_line s)) (F left));
    })

-- how a run ended, by what writing answered
abbrev pub end_by : Option PlayEnd → PlayEnd
end_by None = Done
end_by (Some e) = e

at_end : {probes : Bool} {n : Network} {m : Template} {c : Option (List ℕ)} {said left : List ℕ} {e : PlayEnd} (read : List ℕ) → IsAtEnd c → c ≡ Some left → RunGives probes n m (lines_of read) said e → RunGives probes n m (lines_of (read ++ left)) said e
at_end {probes = probes} {n = n} {m = m} {c = c} {said = said} {left = left} {e = e} read ends h S =
    subst (λ (x : List ℕ). RunGives probes n m (lines_of x) said e) (sym (ap (λ x. read ++ x) (nothing_left c left h ends) ∙ append-nil read)) S

-- the input ends the run
pub told_at_end : {F : Type 0} {H : _} {probes : Bool} {n : Network} {m : Template} {before mid_read after held mid_held holds : Option (List ℕ)} {p mid new : Player F H} {r : Option PlayEnd} (stop : Option Stop) (R : Running probes n m before mid_read held mid_held p) → Consumes mid_read after [] → IsAtEnd after
    → EndsInput probes n m R.read R.written stop mid → WritesOut mid mid_held holds stop r new → Told probes n m before after held holds (end_by r)
told_at_end {before = before} {mid_read = b} {after = after} {held = held} {mid_held = i} {holds = holds} {mid = mid} None R took ends F (runs_on wrote clear) = record {
  read = R.read;
  said = R.written ++ mid.out.items;
  consumed = rw (sym (append-nil R.read)) (Consumes-more before b after R.read [] R.consumed took);
  written = Appends-more held i holds R.written mid.out.items R.appended wrote;
  tells = λ left h. by_its_end (at_end R.read ends h F);
}
told_at_end {probes = probes} {n = n} {m = m} {before = before} {mid_read = b} {after = after} {held = held} {mid_held = i} {holds = holds} {mid = mid} stop R took ends F (failed w) = record {
  read = R.read;
  said = R.written ++ w.0;
  consumed = rw (sym (append-nil R.read)) (Consumes-more before b after R.read [] R.consumed took);
  written = Appends-more held i holds R.written w.0 R.appended w.2;
  tells = λ left h. by_a_write_fault w.1
      (subst (λ (x : List ℕ). CanBeGiven probes n m (lines_of x) ((R.written ++ w.0) ++ w.1)) (sym (ap (λ x. R.read ++ x) (nothing_left after left h ends) ∙ append-nil R.read)) (front_gives R.written w.0 w.1 (finish_gives probes n m R.read R.written mid stop F) w.3));
}
told_at_end {probes = probes} {n = n} {m = m} {before = before} {mid_read = b} {after = after} {held = held} {mid_held = i} {holds = holds} {mid = mid} (Some s) R took ends F (ended wrote) = record {
  read = R.read;
  said = R.written ++ (mid.out.items ++ stop_line s);
  consumed = rw (sym (append-nil R.read)) (Consumes-more before b after R.read [] R.consumed took);
  written = Appends-more held i holds R.written (mid.out.items ++ stop_line s) R.appended wrote;
  tells = λ left h. by_its_end (at_end R.read ends h (subst (λ (x : List ℕ). RunGives probes n m (lines_of R.read) x (stop_end s)) (append_assoc R.written mid.out.items (stop_line s)) F));
}

pub told_at_end_by : {F : Type 0} {H : _} {probes : Bool} {n : Network} {m : Template} {before mid_read after held mid_held holds : Option (List ℕ)} {p mid new : Player F H} {r : Option PlayEnd} (stop : Option Stop) (e : PlayEnd) (R : Running probes n m before mid_read held mid_held p) → Consumes mid_read after [] → IsAtEnd after
    → EndsInput probes n m R.read R.written stop mid → WritesOut mid mid_held holds stop r new → end_by r ≡ e → Told probes n m before after held holds e
told_at_end_by {probes = probes} {n = n} {m = m} {before = before} {after = after} {held = held} {holds = holds} stop e R took ends F W same = subst (λ x. Told probes n m before after held holds x) same (told_at_end stop R took ends F W)

-- a read fault ends the run
pub told_read_fault : {F : Type 0} {H : _} {probes : Bool} {n : Network} {m : Template} {before mid_read after held holds : Option (List ℕ)} {p : Player F H} → Running probes n m before mid_read held holds p → Keeps mid_read after → Told probes n m before after held holds ReadFault
told_read_fault {probes = probes} {n = n} {m = m} {before = before} {mid_read = b} {after = after} R kept = record {
  read = R.read;
  said = R.written;
  consumed = Consumes-kept before b after R.read R.consumed kept;
  written = R.appended;
  tells = λ left h. by_a_read_fault R.played.stands.splits
      (subst (λ (x : List ℕ). LeadsTo n m (at_start probes) R.played.lines x R.played.now) (ap (λ x. R.written ++ x) R.empty ∙ append-nil R.written) R.played.reaches);
}

-- there is no memory for lines
pub told_no_memory : (probes : Bool) (n : Network) (m : Template) (input held holds : Option (List ℕ)) → Appends held holds (refusal_line 1 MemoryRefusal) → Told probes n m input input held holds BadLine
told_no_memory probes n m input held holds wrote = record {
  read = [];
  said = refusal_line 1 MemoryRefusal;
  consumed = Consumes-none input;
  written = wrote;
  tells = λ left h. before_any_line refl refl;
}

pub told_no_memory_front : (probes : Bool) (n : Network) (m : Template) (input held holds : Option (List ℕ)) → WritesFront held holds (refusal_line 1 MemoryRefusal) → Told probes n m input input held holds WriteFault
told_no_memory_front probes n m input held holds w = record {
  read = [];
  said = w.0;
  consumed = Consumes-none input;
  written = w.2;
  tells = λ left h. by_a_write_fault_before_any_line w.1 refl (sym w.3);
}

-- writing ends a run by a line or by a write fault
pub data EndsAhead : PlayEnd → Type 0 where
  by_a_fault : EndsAhead Fault
  by_a_refusal : EndsAhead BadLine
  by_the_writer : EndsAhead WriteFault

ends_by : (s : Stop) → EndsAhead (stop_end s)
ends_by (Faulted t f) = by_a_fault
ends_by (Refused n r) = by_a_refusal

pub ends_ahead : {F : Type 0} {H : _} {old new : Player F H} {a b : Option (List ℕ)} {stop : Option Stop} {r : Option PlayEnd} {e : PlayEnd} → WritesOut old a b stop r new → r ≡ Some e → EndsAhead e
ends_ahead (runs_on wrote clear) q = absurd cc
ends_ahead {e = e} (ended {s = s} wrote) q = let same : stop_end s ≡ e = cc in subst EndsAhead same (ends_by s)
ends_ahead {e = e} (failed w) q = let same : WriteFault ≡ e = cc in subst EndsAhead same by_the_writer

pub not_done : {e : PlayEnd} → EndsAhead e → e ≢ Done
not_done by_a_fault q = cc
not_done by_a_refusal q = cc
not_done by_the_writer q = cc

pub reads_kept : {e : PlayEnd} (before after : ℕ) → EndsAhead e → after ≡ before → CountsReads e before after
reads_kept before after by_a_fault q = q
reads_kept before after by_a_refusal q = q
reads_kept before after by_the_writer q = q
