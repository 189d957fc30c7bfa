-- How an engine goes through a list of steps.
use Rattle.std.proofs.Common.{arith, ◌≡◌, ◌≢◌, ◌+◌, ◌≤◌, ◌<◌, ℕ, suc, List, [], ◌∷◌, ◌++◌, length, Option, Some, None, IfSome, Result, Ok, Err, refl, sym, ap, ◌∙◌, subst, append_assoc}
use Rattle.std.proofs.lemmas.List.{append-nil}
use Rattle.sf_value.specs.Values.{Data, HasKind}
use Rattle.sf_value.specs.declared.fault.Fault.{Fault}
use Rattle.sf_term.specs.Trees.{Template}
use Rattle.sf_mean.specs.Lives.{Life, time}
use Rattle.sf_mean.specs.Meaning.{Network}
use Rattle.sf_engine.specs.declared.engine.Engine.{Engine}
use Rattle.sf_engine.specs.declared.engine.Sample.{Sample}
use Rattle.sf_engine.specs.declared.engine.EngineError.{EngineError}
use Rattle.sf_engine.specs.Histories.{after_step, CanWait, Saves}
use Rattle.sf_engine.specs.Running.{Runs}
use Rattle.sf_engine.specs.Sampling.{Sampled, gave_value, had_fault, was_large, had_no_memory, answer_of, Starts, Advances, was_not_started, has_bad_wait, has_wrong_type, advances}
use Rattle.std.specs.Result.{IsErrAnd}
use Rattle.sf_engine.specs.declared.engine.embed.Embedded.{Embedded}
use Rattle.sf_engine.specs.Embedding.{Embeds, embeds_nothing, IsLastSample, Follows, followed, stopped_at, follows}

-- a list without items
pub nothing_left : {X : Type 0} (xs : List X) → length xs ≡ 0 → xs ≡ []
nothing_left [] none = refl
nothing_left (x ∷ xs) none = absurd cc

-- an answer that is a sample was one
answer_ok : {s : Sample} (r : Result Sample Fault) → answer_of r ≡ Ok s → r ≡ Ok s
answer_ok {s = s} (Ok z) is = let same : z ≡ s = cc in subst (λ y. ◌≡◌ {A = Result Sample Fault} (Ok z) (Ok y)) same refl
answer_ok (Err f) is = absurd cc

-- Engines over functions that are held by name.
module _ {F : Type 0} {h : _} (n : Network) (m : Template) (S : Saves) where
  -- A sample was given, at the end of a history, and the engine goes on from there.
  pub record Gave (L : Life) (s : Sample) (e : Engine F h) : Type 0 where
    pub sample : IsLastSample n m L s
    pub runs : Runs e n m L S

  -- a step that gave a sample
  pub record Went (L : Life) (d : ℕ) (x : Option Data) (s : Sample) (e : Engine F h) : Type 0 where
    pub some : L ≢ []
    pub wait : CanWait (time L) d
    pub typed : IfSome x (λ v. HasKind v m.input)
    pub gave : Gave (after_step L d x) s e

  -- Some steps are taken: the engine is at a history, and what it gives from there on follows what was given.
  pub record Halfway (L : Life) (steps rest : List (ℕ × Option Data)) (given : List Sample) (e : Engine F h) : Type 0 where
    pub life : Life
    pub runs : Runs e n m life S
    pub goes_on : (ss : List Sample) (end : Option EngineError) (o : Engine F h) → Follows n m S life rest ss end o → Follows n m S L steps (given ++ ss) end o

-- The same, from what is known of them.
module _ {F : Type 0} {h : _} {n : Network} {m : Template} {S : Saves} where
  pub gave_sample : {L : Life} {r : Result Sample Fault} {s : Sample} {e : Engine F h} → Sampled n m L S r e → r ≡ Ok s → Gave n m S L s e
  gave_sample {L = L} {s = s} {e = e} (gave_value {s = z} {k = k} G at R) is =
      let same : z ≡ s = cc in
      subst (λ r. Gave n m S L r e) same (record { sample = record { cost = k; given = G; at = at }; runs = R })
  gave_sample (had_fault G stopped) is = absurd cc
  gave_sample (was_large none stopped) is = absurd cc
  gave_sample (had_no_memory stopped) is = absurd cc

  pub went : {L : Life} {d : ℕ} {x : Option Data} {r : Result Sample EngineError} {s : Sample} {e : Engine F h} → Advances n m L S d x r e → r ≡ Ok s → Went n m S L d x s e
  went (was_not_started none R) is = absurd cc
  went (has_bad_wait some bad R) is = absurd cc
  went (has_wrong_type some wait bad R) is = absurd cc
  went (advances {r = r} some wait typed sampled) is = record { some = some; wait = wait; typed = typed; gave = gave_sample sampled (answer_ok r is) }

  -- before the first step
  pub at_first : {L : Life} (steps : List (ℕ × Option Data)) {e : Engine F h} → Runs e n m L S → Halfway n m S L steps steps [] e
  at_first {L = L} steps R = record { life = L; runs = R; goes_on = λ ss end o rest. rest }

  -- one step further
  pub one_further : {L : Life} {steps rest left : List (ℕ × Option Data)} {given : List Sample} {d : ℕ} {x : Option Data} {r : Result Sample EngineError} {s : Sample} {o e : Engine F h} (at : Halfway n m S L steps rest given o)
      → rest ≡ (d, x) ∷ left → Advances n m at.life S d x r e → r ≡ Ok s → Halfway n m S L steps left (given ++ s ∷ []) e
  one_further {L = L} {steps = steps} {left = left} {given = given} {d = d} {x = x} {s = s} at is stepped answered =
      let W = went stepped answered in
      record {
        life = after_step at.life d x;
        runs = W.gave.runs;
        goes_on = λ ss end o rest.
            subst (λ (all : List Sample). Follows n m S L steps all end o) (sym (append_assoc given (s ∷ []) ss))
            (at.goes_on (s ∷ ss) end o
            (subst (λ (r : List (ℕ × Option Data)). Follows n m S at.life r (s ∷ ss) end o) (sym is) (follows W.some W.wait W.typed W.gave.sample rest)));
      }

  -- the end, at an error
  pub ends_at : {L : Life} {steps rest left : List (ℕ × Option Data)} {given : List Sample} {d : ℕ} {x : Option Data} {r : Result Sample EngineError} {f : EngineError} {o e : Engine F h} (at : Halfway n m S L steps rest given o)
      → rest ≡ (d, x) ∷ left → Advances n m at.life S d x r e → r ≡ Err f → Follows n m S L steps given (Some f) e
  ends_at {L = L} {steps = steps} {given = given} {d = d} {x = x} {f = f} {e = e} at is stepped answered =
      subst (λ (all : List Sample). Follows n m S L steps all (Some f) e) (append-nil given)
      (at.goes_on [] (Some f) e
      (subst (λ (r : List (ℕ × Option Data)). Follows n m S at.life r [] (Some f) e) (sym is)
      (stopped_at (subst (λ a. Advances n m at.life S d x a e) answered stepped))))

  -- the end, where no step is left
  pub ends_with : {L : Life} {steps rest : List (ℕ × Option Data)} {given : List Sample} {e : Engine F h} → Halfway n m S L steps rest given e → rest ≡ [] → Follows n m S L steps given None e
  ends_with {L = L} {steps = steps} {given = given} {e = e} at none =
      subst (λ (all : List Sample). Follows n m S L steps all None e) (append-nil given)
      (at.goes_on [] None e (subst (λ (r : List (ℕ × Option Data)). Follows n m S at.life r [] None e) (sym none) (followed at.runs)))

-- Engines over functions that are held by name.
module _ {F : Type 0} {h : _} where
  -- what was given since some samples were there, and how far the steps are taken
  pub record Since (n : Network) (m : Template) (S : Saves) (L : Life) (steps rest : List (ℕ × Option Data)) (old new : List Sample) (e : Engine F h) : Type 0 where
    pub given : List Sample
    pub is : new ≡ old ++ given
    pub halfway : Halfway n m S L steps rest given e

  -- An engine has gone from one to the other through the steps that are no longer left.
  pub record Goes (o e : Engine F h) (steps rest : List (ℕ × Option Data)) (old new : List Sample) : Type 0 where
    pub at : (n : Network) (m : Template) (L : Life) (S : Saves) → Runs o n m L S → Since n m S L steps rest old new e

  pub going_first : (o : Engine F h) (steps rest : List (ℕ × Option Data)) (old : List Sample) → rest ≡ steps → Goes o o steps rest old old
  going_first o steps rest old is = record {
    at = λ n m L S R. record { given = []; is = sym (append-nil old); halfway = subst (λ (r : List (ℕ × Option Data)). Halfway n m S L steps r [] o) (sym is) (at_first steps R) };
  }

  pub going_on : {o e f : Engine F h} {steps rest left : List (ℕ × Option Data)} {old new next : List Sample} {d : ℕ} {x : Option Data} {r : Result Sample EngineError} {s : Sample} → Goes o e steps rest old new
      → rest ≡ (d, x) ∷ left → ((n : Network) (m : Template) (L : Life) (S : Saves) → Runs e n m L S → Advances n m L S d x r f) → r ≡ Ok s → next ≡ new ++ s ∷ [] → Goes o f steps left old next
  going_on {old = old} {s = s} G is stepped answered longer = record {
    at = λ n m L S R.
        let at = G.at n m L S R in
        record {
          given = at.given ++ s ∷ [];
          is = longer ∙ ap (λ xs. xs ++ s ∷ []) at.is ∙ append_assoc old at.given (s ∷ []);
          halfway = one_further at.halfway is (stepped n m at.halfway.life S at.halfway.runs) answered;
        };
  }

  -- what an engine has gone through in the end
  abbrev pub Gone : (o e : Engine F h) (steps : List (ℕ × Option Data)) (old new : List Sample) (end : Option EngineError) → Type 0
  Gone o e steps old new end = (n : Network) (m : Template) (L : Life) (S : Saves) → Runs o n m L S → (given : List Sample) × (new ≡ old ++ given) × Follows n m S L steps given end e

  pub gone : {o e : Engine F h} {steps rest : List (ℕ × Option Data)} {old new : List Sample} → Goes o e steps rest old new → rest ≡ [] → Gone o e steps old new None
  gone G none n m L S R = let at = G.at n m L S R in (at.given, at.is, ends_with at.halfway none)

  pub gone_wrong : {o e f : Engine F h} {steps rest left : List (ℕ × Option Data)} {old new : List Sample} {d : ℕ} {x : Option Data} {r : Result Sample EngineError} {w : EngineError} → Goes o e steps rest old new
      → rest ≡ (d, x) ∷ left → ((n : Network) (m : Template) (L : Life) (S : Saves) → Runs e n m L S → Advances n m L S d x r f) → r ≡ Err w → Gone o f steps old new (Some w)
  gone_wrong G is stepped answered n m L S R =
      let at = G.at n m L S R in (at.given, at.is, ends_at at.halfway is (stepped n m at.halfway.life S at.halfway.runs) answered)

-- room for as many as are left
pub has_room : {X : Type 0} (k c : ℕ) (x : X) (xs left : List X) → xs ≡ x ∷ left → k + length xs ≤ c → k < c
has_room k c x xs left is fits = let f : k + suc (length left) ≤ c = subst (λ l. k + length l ≤ c) is fits in omega arith

pub room_left : {X : Type 0} (k c j b : ℕ) (x : X) (xs left : List X) → xs ≡ x ∷ left → k + length xs ≤ c → j ≡ k + 1 → b ≡ c → j + length left ≤ b
room_left k c j b x xs left is fits longer same = let f : k + suc (length left) ≤ c = subst (λ l. k + length l ≤ c) is fits in omega arith

-- a start that is refused
pub refused_embeds : {F : Type 0} {h : _} {n : Network} {m : Template} {L : Life} {S : Saves} {x : Data} {steps : List (ℕ × Option Data)} {e : Engine F h} (q : Result Embedded EngineError) {f : EngineError}
    → IsErrAnd q (λ e. e ≡ f) → Starts n m L S x (Err f) e → Embeds n m L S x steps q e
refused_embeds (Ok r) same refused = absurd same
refused_embeds {n = n} {m = m} {L = L} {S = S} {x = x} {steps = steps} {e = e} (Err w) same refused = subst (λ w. Embeds n m L S x steps (Err w) e) (sym same) (embeds_nothing refused)
