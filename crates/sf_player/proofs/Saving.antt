-- Lines that keep a life, and lines that return to one.
use Rattle.std.proofs.Common.{◌≡◌, ◌≢◌, ℕ, ◌+◌, true, false, cond, List, [], ◌∷◌, Some, None, Result, Ok, Err, refl, sym, ap, ◌∙◌, subst, arith}
use Rattle.std.specs.Str.{bytes_eq}
use Rattle.std.proofs.lemmas.List.{append-nil}
use Rattle.std.proofs.lemmas.List.Elements.{All-cons, All-tail}
use Rattle.sf_value.specs.Values.{Name}
use Rattle.sf_term.specs.Trees.{Template}
use Rattle.sf_mean.specs.Lives.{Life}
use Rattle.sf_mean.specs.Meaning.{Network}
use Rattle.sf_engine.specs.Histories.{Saves, saved_under, save_kept}
use Rattle.sf_engine.specs.Running.{Runs}
use Rattle.sf_engine.specs.Saving.{Saved, saved_nothing, has_no_place, saved_no_memory, saves, Returned, returned_nowhere, has_no_save, returned_no_memory, returns_to}
use Rattle.sf_engine.specs.declared.engine.Engine.{Engine}
use Rattle.sf_engine.specs.declared.engine.EngineError.{EngineError}
use Rattle.sf_engine.specs.declared.engine.EngineError.TheVariants as error
use Rattle.sf_lines.specs.Asking.{save, back}
use Rattle.sf_lines.specs.declared.refusal.LineRefusal.{LineRefusal}
use Rattle.sf_lines.specs.declared.refusal.LineRefusal.TheVariants.{NoSave, TooManySaves, Memory}
use Rattle.sf_lines.specs.Written.{refusal_line}
use Rattle.sf_player.specs.Scripts.{Moment, Asks, keeps, keeps_no_more, returns, returns_nowhere}
use Rattle.sf_player.specs.Telling.{CopiesLife}
use Rattle.sf_player.specs.Playing.{saving_refusal, LastsAtMost, SavesLastAtMost, IsAt, PlaysOn, Halts, refuses, lacks_memory_for_a_copy}
use Rattle.sf_player.specs.declared.end.PlayEnd.TheVariants.{BadLine}
use Rattle.sf_player.specs.declared.player.Player.{Player}

-- one line more can take what is kept too
pub later_saves : (taken : ℕ) (S : Saves) → SavesLastAtMost taken S → SavesLastAtMost (taken + 1) S
later_saves taken S slow = λ k d h. let here = slow k d h in omega arith

-- so it is where one life more is kept
pub kept_saves : (taken : ℕ) (name : Name) (L : Life) (S : Saves) → LastsAtMost taken L → SavesLastAtMost taken S → SavesLastAtMost taken (save_kept name L S)
kept_saves taken name L [] slow others = All-cons (λ (s : Name × Life). LastsAtMost taken s.1) (name, L) [] slow others
kept_saves taken name L (s ∷ S) slow others =
    let P : Name × Life → Type 0 = λ k. LastsAtMost taken k.1 in
    elim (bytes_eq name s.0) as (λ b. SavesLastAtMost taken (cond b ((s.0, L) ∷ S) (s ∷ save_kept name L S))) [
      | true ↦ All-cons P (s.0, L) S slow (All-tail P s S others)
      | false ↦ All-cons P s (save_kept name L S) (others 0 s (omega arith)) (kept_saves taken name L S slow (All-tail P s S others))
    ]

-- and each life that is kept
pub saved_lasts : (taken : ℕ) (name : Name) (S : Saves) (K : Life) → SavesLastAtMost taken S → saved_under name S ≡ Some K → LastsAtMost taken K
saved_lasts taken name [] K slow e = cc
saved_lasts taken name (s ∷ S) K slow e =
    (elim (bytes_eq name s.0) as (λ b. cond b (Some s.1) (saved_under name S) ≡ Some K → LastsAtMost taken K) [
      | true ↦ λ found. (let same : s.1 ≡ K = cc in subst (LastsAtMost taken) same (slow 0 s (omega arith)))
      | false ↦ λ found. saved_lasts taken name S K (All-tail (λ (k : Name × Life). LastsAtMost taken k.1) s S slow) found
    ]) e

-- What a player has done that goes on behind a line without a text.
pub record GoesOnFrom {F : Type 0} {H : _} (o : Player F H) (mid : Engine F H) (e : Player F H) : Type 0 where
  pub engine : e.engine ≡ mid
  pub cutter : e.cutter ≡ o.cutter
  pub count : e.taken ≡ o.taken + 1
  pub out : e.out.items ≡ o.out.items
  pub probes : e.probes ≡ o.probes

-- Players of engines over functions that are held by name.
module _ {F : Type 0} {H : _} {n : Network} {m : Template} {now : Moment} {name : Name} {o e : Player F H} {mid : Engine F H} where
  -- a life was kept
  pub save_goes_on : (line : List ℕ) (r : Result (Unit {0}) EngineError) → Asks n m now line (save name) → IsAt n m o now → Saved n m now.lived now.saved name r mid → r ≡ Ok tt → GoesOnFrom o mid e → PlaysOn n m now line o e
  save_goes_on line _ asked at (saved_nothing none R) is goes = cc
  save_goes_on line _ asked at (has_no_place some full R) is goes = cc
  save_goes_on line _ asked at (saved_no_memory some may R) is goes = cc
  save_goes_on line _ asked at (saves some may R) is goes = record {
    text = [];
    later = record now { taken = now.taken + 1; saved = save_kept name now.lived now.saved };
    replies = keeps asked may;
    at = record {
      runs = subst (λ x. Runs x n m now.lived (save_kept name now.lived now.saved)) (sym goes.engine) R;
      slow = let slow = at.slow in omega arith;
      slow_saves = later_saves now.taken (save_kept name now.lived now.saved) (kept_saves now.taken name now.lived now.saved at.slow at.slow_saves);
      taken = goes.count ∙ ap (λ t. t + 1) at.taken;
      probes = goes.probes ∙ at.probes;
    };
    said = goes.out ∙ sym (append-nil o.out.items);
    cutter = goes.cutter;
  }

  -- a life was returned to
  pub back_goes_on : (line : List ℕ) (r : Result (Unit {0}) EngineError) → Asks n m now line (back name) → IsAt n m o now → Returned n m now.lived now.saved name r mid → r ≡ Ok tt → GoesOnFrom o mid e → PlaysOn n m now line o e
  back_goes_on line _ asked at (returned_nowhere none R) is goes = cc
  back_goes_on line _ asked at (has_no_save some absent R) is goes = cc
  back_goes_on line _ asked at (returned_no_memory some found R) is goes = cc
  back_goes_on line _ asked at (returns_to {K = K} some found R) is goes = record {
    text = [];
    later = record now { taken = now.taken + 1; lived = K };
    replies = returns asked found;
    at = record {
      runs = subst (λ x. Runs x n m K now.saved) (sym goes.engine) R;
      slow = let slow = saved_lasts now.taken name now.saved K at.slow_saves found in omega arith;
      slow_saves = later_saves now.taken now.saved at.slow_saves;
      taken = goes.count ∙ ap (λ t. t + 1) at.taken;
      probes = goes.probes ∙ at.probes;
    };
    said = goes.out ∙ sym (append-nil o.out.items);
    cutter = goes.cutter;
  }

-- the same refusal, by the same error
halts_as : {n : Network} {m : Template} {now : Moment} {e f : EngineError} {why is : LineRefusal} (line : List ℕ) → e ≡ f → saving_refusal e ≡ Some is → saving_refusal f ≡ Some why → Halts n m now line (refusal_line (now.taken + 1) is) BadLine → Halts n m now line (refusal_line (now.taken + 1) why) BadLine
halts_as {n = n} {m = m} {now = now} {why = why} {is = is} line same p q h =
    let o : Some is ≡ Some why = sym p ∙ ap saving_refusal same ∙ q in
    let whys : is ≡ why = cc in
    subst (λ x. Halts n m now line (refusal_line (now.taken + 1) x) BadLine) whys h

-- What an engine that has begun refuses, a line is refused for.
module _ {F : Type 0} {H : _} {n : Network} {m : Template} {L : Life} {S : Saves} {name : Name} {mid : Engine F H} where
  pub save_error : (r : Result (Unit {0}) EngineError) {e : EngineError} → L ≢ [] → Saved n m L S name r mid → r ≡ Err e → saving_refusal e ≢ None
  save_error _ some (saved_nothing none R) is = absurd (some none)
  save_error _ {e = e} some (has_no_place begun full R) is = λ none. let same : error.TooManySaves ≡ e = cc in let o : Some TooManySaves ≡ None = ap saving_refusal same ∙ none in cc
  save_error _ {e = e} some (saved_no_memory begun may R) is = λ none. let same : error.Memory ≡ e = cc in let o : Some Memory ≡ None = ap saving_refusal same ∙ none in cc
  save_error _ some (saves begun may R) is = absurd cc

  pub back_error : (r : Result (Unit {0}) EngineError) {e : EngineError} → L ≢ [] → Returned n m L S name r mid → r ≡ Err e → saving_refusal e ≢ None
  back_error _ some (returned_nowhere none R) is = absurd (some none)
  back_error _ {e = e} some (has_no_save begun absent R) is = λ none. let same : error.NoSave ≡ e = cc in let o : Some NoSave ≡ None = ap saving_refusal same ∙ none in cc
  back_error _ {e = e} some (returned_no_memory begun found R) is = λ none. let same : error.Memory ≡ e = cc in let o : Some Memory ≡ None = ap saving_refusal same ∙ none in cc
  back_error _ some (returns_to begun found R) is = absurd cc

-- A line is refused as the engine refuses what it asks for.
module _ {F : Type 0} {H : _} {n : Network} {m : Template} {now : Moment} {name : Name} {mid : Engine F H} where
  pub save_halts : (line : List ℕ) (r : Result (Unit {0}) EngineError) {e : EngineError} {why : LineRefusal} → Asks n m now line (save name) → now.lived ≢ [] → Saved n m now.lived now.saved name r mid → r ≡ Err e → saving_refusal e ≡ Some why → Halts n m now line (refusal_line (now.taken + 1) why) BadLine
  save_halts line _ asked some (saved_nothing none R) is q = absurd (some none)
  save_halts line _ {e = e} asked some (has_no_place begun full R) is q = let same : error.TooManySaves ≡ e = cc in halts_as line same refl q (refuses (keeps_no_more asked full))
  save_halts line _ {e = e} asked some (saved_no_memory begun may R) is q = let same : error.Memory ≡ e = cc in halts_as line same refl q (lacks_memory_for_a_copy asked may)
  save_halts line _ asked some (saves begun may R) is q = absurd cc

  pub back_halts : (line : List ℕ) (r : Result (Unit {0}) EngineError) {e : EngineError} {why : LineRefusal} → Asks n m now line (back name) → now.lived ≢ [] → Returned n m now.lived now.saved name r mid → r ≡ Err e → saving_refusal e ≡ Some why → Halts n m now line (refusal_line (now.taken + 1) why) BadLine
  back_halts line _ asked some (returned_nowhere none R) is q = absurd (some none)
  back_halts line _ {e = e} asked some (has_no_save begun absent R) is q = let same : error.NoSave ≡ e = cc in halts_as line same refl q (refuses (returns_nowhere asked absent))
  back_halts line _ {e = e} asked some (returned_no_memory {K = K} begun found R) is q =
      let same : error.Memory ≡ e = cc in
      let there : CopiesLife (back name) now.saved = λ none. let o : Some K ≡ None = sym found ∙ none in cc in
      halts_as line same refl q (lacks_memory_for_a_copy asked there)
  back_halts line _ asked some (returns_to begun found R) is q = absurd cc

-- the refusal of a player's next line
pub stops_at : {F : Type 0} {H : _} {n : Network} {m : Template} {now : Moment} {line : List ℕ} (why : LineRefusal) (p : Player F H) → Halts n m now line (refusal_line (now.taken + 1) why) BadLine → p.taken ≡ now.taken → Halts n m now line (refusal_line (p.taken + 1) why) BadLine
stops_at {n = n} {m = m} {now = now} {line = line} why p halts taken = subst (λ k. Halts n m now line (refusal_line (k + 1) why) BadLine) (sym taken) halts
