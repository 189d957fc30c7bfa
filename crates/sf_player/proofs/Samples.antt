-- Samples and what they write.
use Rattle.std.proofs.Common.{◌≡◌, ◌≢◌, ℕ, ◌+◌, ◌*◌, ◌<◌, ◌≤◌, Bool, List, [], ◌∷◌, ◌++◌, Option, Some, None, IfSome, Result, Ok, Err, refl, sym, ap, ◌∙◌, subst, arith}
use Rattle.std.proofs.lemmas.Bool.Decides.{nat_tests}
use Rattle.std.proofs.lemmas.List.{append-nil}
use Rattle.sf_value.specs.Values.{Kind, Data, HasKind}
use Rattle.sf_value.specs.declared.fault.Fault.{Fault}
use Rattle.sf_value.specs.declared.fault.Fault.TheVariants.{Memory as NoMemory}
use Rattle.sf_probe.specs.Readings.{probe_readings}
use Rattle.sf_term.specs.Trees.{Template}
use Rattle.sf_mean.specs.Lives.{Life, time, input_of}
use Rattle.sf_mean.specs.Meaning.{Network}
use Rattle.sf_engine.specs.declared.engine.Engine.{Engine}
use Rattle.sf_engine.specs.declared.engine.Sample.{Sample}
use Rattle.sf_engine.specs.Histories.{newest_input, after_start, after_step, CanWait, Saves}
use Rattle.sf_engine.specs.Running.{Runs, MayStart, MayStep}
use Rattle.sf_engine.specs.Sampling.{Sampled, gave_value, had_fault, was_large, had_no_memory}
use Rattle.sf_lines.specs.Limits.{limit_refusal}
use Rattle.sf_lines.specs.Asking.{Asked, nothing, start, advance, Says, HasTimelyValue}
use Rattle.sf_lines.specs.declared.refusal.LineRefusal.{LineRefusal}
use Rattle.sf_lines.specs.declared.refusal.LineRefusal.TheVariants.{Memory as MemoryRefusal}
use Rattle.sf_lines.specs.Written.{fault_line, refusal_line}
use Rattle.sf_player.specs.Scripts.{Moment, has_begun, life_after, IsSample, sample_lines, Asks, refused, quiet, gives_value, gives_fault}
use Rattle.sf_player.specs.Playing.{SavesLastAtMost, IsAt, PlaysOn, PlaysLine, Halts, faults, refuses, lacks_memory, is_too_large, lacks_memory_for_its_value}
use Rattle.sf_player.proofs.Asked.{advance_asked, start_asked, begun, not_begun, can_wait}
use Rattle.sf_player.proofs.Saving.{later_saves}
use Rattle.sf_player.specs.declared.end.PlayEnd.TheVariants.{Fault as PlayFault, BadLine}
use Rattle.sf_player.specs.declared.player.Player.{Player}
use Rattle.sf_player.specs.declared.stop.Stop.{Stop}

-- the time after a step
pub time-after_step : (L : Life) (d : ℕ) (x : Option Data) → L ≢ [] → time (after_step L d x) ≡ time L + d
time-after_step [] d x some = absurd (some refl)
time-after_step (s ∷ L) d x some = refl

-- a life that has begun has an input
some_input : {o : Option Data} (L : Life) → o ≡ newest_input L → L ≢ [] → o ≢ None
some_input [] last some = absurd (some refl)
some_input (s ∷ L) last some = λ none. let e : Some (input_of s) ≡ None = sym last ∙ none in cc

-- readings and a value were gathered
pub value_said : {F : Type 0} {H : _} {n : Network} {m : Template} {now : Moment} {line : List ℕ} {a : Asked} {s : Sample} {o e : Player F H} (t : ℕ) → Asks n m now line a → IsSample a
    → Sampled n m (life_after a now.lived) now.saved (Ok s) o.engine → t ≡ time (life_after a now.lived) → t ≤ 3600000 * (now.taken + 1)
    → SavesLastAtMost now.taken now.saved → o.taken ≡ now.taken → o.probes ≡ now.probes
    → e.engine ≡ o.engine → e.cutter ≡ o.cutter → e.taken ≡ o.taken + 1 → e.probes ≡ o.probes
    → e.out.items ≡ o.out.items ++ sample_lines o.probes s.time s.value (probe_readings s.readings)
    → PlaysOn n m now line o e
value_said {n = n} {m = m} {now = now} {a = a} {s = s} {o = o} t asked sample (gave_value G at R) later slow saves taken probes engine cutter count kept out =
    let L : Life = life_after a now.lived in
    record {
      text = sample_lines now.probes (time L) s.value (probe_readings s.readings);
      later = record now { taken = now.taken + 1; lived = L };
      replies = gives_value asked sample refl G;
      at = record {
        runs = subst (λ x. Runs x n m L now.saved) (sym engine) R;
        slow = subst (λ u. u ≤ 3600000 * (now.taken + 1)) later slow;
        slow_saves = later_saves now.taken now.saved saves;
        taken = count ∙ ap (λ t. t + 1) taken;
        probes = kept ∙ probes;
      };
      said = out ∙ ap (λ t. o.out.items ++ sample_lines o.probes t s.value (probe_readings s.readings)) at ∙ ap (λ b. o.out.items ++ sample_lines b (time L) s.value (probe_readings s.readings)) probes;
      cutter = cutter;
    }

-- a fault ends the run
pub fault_halts : {F : Type 0} {H : _} {n : Network} {m : Template} {now : Moment} {line : List ℕ} {a : Asked} {f : Fault} {e : Engine F H} → Asks n m now line a → IsSample a
    → Sampled n m (life_after a now.lived) now.saved (Err f) e
    → Halts n m now line (fault_line (time (life_after a now.lived)) f) PlayFault
fault_halts asked sample (had_fault G s) = faults (gives_fault asked sample refl G)
fault_halts asked sample (was_large none s) = is_too_large asked sample none
fault_halts asked sample (had_no_memory s) = lacks_memory asked sample

-- the same at that time
pub stop_halts : {F : Type 0} {H : _} {n : Network} {m : Template} {now : Moment} {line : List ℕ} {a : Asked} {f : Fault} {e : Engine F H} (t : ℕ) → Asks n m now line a → IsSample a
    → Sampled n m (life_after a now.lived) now.saved (Err f) e → t ≡ time (life_after a now.lived)
    → Halts n m now line (fault_line t f) PlayFault
stop_halts t asked sample S at = rw at (fault_halts asked sample S)

-- a stop for want of memory
pub memory_halts : {n : Network} {m : Template} {now : Moment} {line : List ℕ} {a : Asked} (t : ℕ) → Asks n m now line a → IsSample a
    → t ≡ time (life_after a now.lived) → Halts n m now line (fault_line t NoMemory) PlayFault
memory_halts t asked sample at = rw at (lacks_memory asked sample)

-- few lines stand before a line within the limits
pub few_lines : (before : ℕ) (line : List ℕ) → limit_refusal before line ≡ None → before < 1000000
few_lines before line e = grind (arith, nat_tests)

-- a step that a line asks for ends in time
pub slow_step : (t d taken : ℕ) → d ≤ 3600000 → t ≤ 3600000 * taken → t + d ≤ 3600000 * (taken + 1)
slow_step t d taken short slow = omega arith

-- What a line asks of an engine may be done, and leads to the sample of its life.
module _ {F : Type 0} {H : _} {e : Engine F H} {n : Network} {m : Template} {L : Life} {S : Saves} {b : Bool} {k : Kind} {line : List ℕ} where
  -- a start
  pub may_start : {x : Data} → Runs e n m L S → b ≡ has_begun L → k ≡ m.input → Says b k line (Ok (start x)) → MayStart e x
  may_start {x = x} R same input says =
      let asked = start_asked says refl in
      record {
        goes_on = R.goes_on;
        fresh = R.last ∙ ap newest_input (not_begun b L same asked.0);
        typed = subst (λ k. HasKind x k) (input ∙ sym R.input) asked.1;
      }

  pub starts_at : {x : Data} {r : Result Sample Fault} {f : Engine F H} → Runs e n m L S → b ≡ has_begun L → Says b k line (Ok (start x))
      → (Runs e n m [] S → Sampled n m (after_start x) S r f) → Sampled n m (after_start x) S r f
  starts_at R same says sampled = sampled (subst (λ l. Runs e n m l S) (not_begun b L same (start_asked says refl).0) R)

  -- a step
  pub may_step : {d : ℕ} {x : Option Data} (taken : ℕ) → Runs e n m L S → b ≡ has_begun L → k ≡ m.input → time L ≤ 3600000 * taken → taken < 1000000 → Says b k line (Ok (advance d x)) → MayStep e d x
  may_step {d = d} {x = x} taken R same input slow few says =
      let asked = advance_asked says refl in
      record {
        goes_on = R.goes_on;
        begun = some_input L R.last (begun b L same asked.started);
        wait = subst (λ t. CanWait t d) (sym R.time) (can_wait (time L) d taken asked.some asked.short slow few);
        typed = subst (λ k. IfSome x (λ v. HasKind v k)) (input ∙ sym R.input) asked.typed;
      }

-- its time
pub time_at : {b : Bool} {k : Kind} {line : List ℕ} {t d : ℕ} {x : Option Data} (L : Life) → b ≡ has_begun L → t ≡ time L → Says b k line (Ok (advance d x)) → t + d ≡ time (after_step L d x)
time_at {b = b} {d = d} {x = x} L same at says =
    let asked = advance_asked says refl in
    ap (λ t. t + d) at ∙ sym (time-after_step L d x (begun b L same asked.started))

-- a line that asks for nothing
pub nothing_said : {F : Type 0} {H : _} {n : Network} {m : Template} {now : Moment} {line : List ℕ} {o e : Player F H} → Asks n m now line nothing → IsAt n m o now
    → e.engine ≡ o.engine → e.cutter ≡ o.cutter → e.taken ≡ o.taken + 1 → e.probes ≡ o.probes → e.out.items ≡ o.out.items
    → PlaysOn n m now line o e
nothing_said {n = n} {m = m} {now = now} {o = o} asked at engine cutter count kept out = record {
  text = [];
  later = record now { taken = now.taken + 1 };
  replies = quiet asked;
  at = record {
    runs = subst (λ x. Runs x n m now.lived now.saved) (sym engine) at.runs;
    slow = let slow = at.slow in omega arith;
    slow_saves = later_saves now.taken now.saved at.slow_saves;
    taken = count ∙ ap (λ t. t + 1) at.taken;
    probes = kept ∙ at.probes;
  };
  said = out ∙ sym (append-nil o.out.items);
  cutter = cutter;
}

-- a line that is refused
pub refusal_said : {F : Type 0} {H : _} {n : Network} {m : Template} {now : Moment} (line : List ℕ) (b : Bool) (k : Kind) (p : Player F H) (r : LineRefusal) → k ≡ m.input → p.taken ≡ now.taken → limit_refusal now.taken line ≡ None → b ≡ has_begun now.lived
    → (r ≢ MemoryRefusal → Says b k line (Err r)) → (r ≡ MemoryRefusal → HasTimelyValue b line)
    → Halts n m now line (refusal_line (p.taken + 1) r) BadLine
refusal_said {n = n} {m = m} {now = now} line b k p r input taken within begun says lacks = subst (λ k. Halts n m now line (refusal_line (k + 1) r) BadLine) (sym taken) (halts r says lacks)
  where
    refused_so : (r : LineRefusal) → Says b k line (Err r) → Halts n m now line (refusal_line (now.taken + 1) r) BadLine
    refused_so r says = refuses (refused within (subst (λ x. Says x m.input line (Err r)) begun (subst (λ x. Says b x line (Err r)) input says)))

    halts : (r : LineRefusal) → (r ≢ MemoryRefusal → Says b k line (Err r)) → (r ≡ MemoryRefusal → HasTimelyValue b line) → Halts n m now line (refusal_line (now.taken + 1) r) BadLine
    halts MemoryRefusal says lacks = lacks_memory_for_its_value within (subst (λ x. HasTimelyValue x line) begun (lacks refl))
    halts r says lacks = refused_so r (says (λ q. cc))

-- what was said of a line by a player with the same output and cutter
pub same_answers : {F : Type 0} {H : _} (n : Network) (m : Template) (now : Moment) (line : List ℕ) (mid old : Player F H) (r : Option Stop) (new : Player F H) → mid.out.items ≡ old.out.items → mid.cutter ≡ old.cutter → PlaysLine n m now line mid r new → PlaysLine n m now line old r new
same_answers n m now line mid old None new out cut G = record { text = G.text; later = G.later; replies = G.replies; at = G.at; said = G.said ∙ ap (λ x. x ++ G.text) out; cutter = G.cutter ∙ cut }
same_answers n m now line mid old (Some s) new out cut E = record { halts = E.halts; said = E.said ∙ out }
