-- How histories go on.
use Rattle.std.proofs.Common.{◌≡◌, ◌≢◌, ℕ, ◌+◌, Bool, true, false, [], ◌∷◌, Option, Some, None, Result, Ok, Err, unwrap_or, pos, IsTrue, IfSome, IsErrAnd, MatchResult, ◌↔◌, refl, sym, ap, ◌∙◌, subst, arith, zero-add}
use Rattle.std.proofs.lemmas.List.Elements.{All-nil, All-cons, All-head}
use Rattle.sf_value.specs.Values.{Kind, Data, HasKind, number}
use Rattle.sf_value.specs.declared.fault.Fault.{Fault}
use Rattle.sf_term.specs.Trees.{Template}
use Rattle.sf_mean.specs.Lives.{Step, step, input_of, Life, time, closure, empty}
use Rattle.sf_mean.specs.Meaning.{Network, gave, faulted, Gives}
use Rattle.sf_state.specs.declared.state.State.{State}
use Rattle.sf_state.specs.Standing.{Stands}
use Rattle.sf_state.specs.Machine.{Machine, machine}
use Rattle.sf_meter.specs.declared.meter.Meter.{Meter}
use Rattle.sf_probe.specs.declared.reading.Readings.{Readings}
use Rattle.sf_probe.specs.Readings.{probe_readings}
use Rattle.sf_step.specs.Stepping.{Steps, stepped, faulted_so, too_large, no_memory}
use Rattle.sf_engine.specs.declared.engine.Engine.{Engine}
use Rattle.sf_engine.specs.declared.engine.Sample.{Sample}
use Rattle.sf_engine.specs.declared.engine.EngineError.{EngineError}
use Rattle.sf_engine.specs.declared.engine.EngineError.TheVariants.{Fault as Faulted}
use Rattle.sf_engine.specs.Histories.{newest_input, last_input, after_start, after_step, BeginsAtZero, IsHistory, CanWait, Saves}
use Rattle.sf_engine.specs.Planned.{main_of_plan, IsRunFor}
use Rattle.sf_engine.specs.Running.{AreSavesOf, Runs, IsStopped, engine_time, input_kind, last_of, MayStart, MayStep}
use Rattle.sf_engine.specs.Sampling.{Sampled, gave_value, had_fault, was_large, had_no_memory, answer_of}

time-step : (d : ℕ) (x : Data) (L : Life) → BeginsAtZero (step d x ∷ L) → time (step d x ∷ L) ≡ time L + d
time-step d x [] h = sym h ∙ sym (zero-add d)
time-step d x (r ∷ L) h = refl

-- an engine goes on at a history, with what it keeps
pub runs_on : {F : Type 0} {h : _} {o e : Engine F h} {n : Network} {m : Template} {L K : Life} {S T : Saves} → Runs o n m L S
    → e.stopped ≡ o.stopped → e.plan ≡ o.plan → e.functions ≡ o.functions → e.input ≡ o.input
    → Stands (machine (h.answers o.functions) o.plan) e.state (main_of_plan o.plan) K → e.time ≡ time K → e.last ≡ newest_input K → IsHistory m.input K
    → AreSavesOf (machine (h.answers o.functions) o.plan) m e.saves.entries T → Runs e n m K T
runs_on {h = h} {o = o} {e = e} {n = n} {m = m} {K = K} {T = T} R stopped plan functions input stands at last H kept = record {
  goes_on = stopped ∙ R.goes_on;
  plan = subst (λ f. IsRunFor (machine (h.answers f) e.plan) n m) (sym functions) (subst (λ p. IsRunFor (machine (h.answers o.functions) p) n m) (sym plan) R.plan);
  input = input ∙ R.input;
  state =
      subst (λ f. Stands (machine (h.answers f) e.plan) e.state (main_of_plan e.plan) K) (sym functions)
      (subst (λ p. Stands (machine (h.answers o.functions) p) e.state (main_of_plan p) K) (sym plan) stands);
  time = at;
  last = last;
  history = H;
  saves =
      subst (λ f. AreSavesOf (machine (h.answers f) e.plan) m e.saves.entries T) (sym functions)
      (subst (λ p. AreSavesOf (machine (h.answers o.functions) p) m e.saves.entries T) (sym plan) kept);
}

-- an engine goes on to the end of a longer history
pub goes_to : {F : Type 0} {h : _} {o e : Engine F h} {n : Network} {m : Template} {L : Life} {S : Saves} {d : ℕ} {x : Data} → Runs o n m L S → IsHistory m.input (step d x ∷ L)
    → e.plan ≡ o.plan → e.functions ≡ o.functions → e.input ≡ o.input → e.stopped ≡ o.stopped → e.saves ≡ o.saves → e.time ≡ o.time + d → e.last ≡ Some x
    → Stands (machine (h.answers o.functions) o.plan) e.state (main_of_plan o.plan) (step d x ∷ L)
    → Runs e n m (step d x ∷ L) S
goes_to {h = h} {o = o} {m = m} {L = L} {S = S} {d = d} {x = x} R H plan functions input stopped saves later last stands =
    runs_on R stopped plan functions input stands
    (later ∙ ap (λ t. t + d) R.time ∙ sym (time-step d x L H.begins))
    last
    H
    (subst (λ s. AreSavesOf (machine (h.answers o.functions) o.plan) m s.entries S) (sym saves) R.saves)

-- a value and readings are the sample's
pub sampled_value : {F : Type 0} {h : _} {μ : Machine} {n : Network} {m : Template} {L : Life} {S : Saves} {y : Data} {r : Readings} {s : State} {t : Meter} {e : Engine F h} {z : Sample}
    → IsRunFor μ n m → Steps μ (main_of_plan μ.plan) L (Ok (y, r)) s t
    → (Stands μ s (main_of_plan μ.plan) L → Runs e n m L S)
    → z.time ≡ e.time → z.value ≡ y → z.readings ≡ r → Sampled n m L S (Ok z) e
sampled_value {n = n} {m = m} {L = L} {y = y} {r = r} {z = z} q (stepped {k = k} G entered high stands) f at value read =
    let c = q.no_more L (gave y (probe_readings r)) k G in
    gave_value
    (subst (λ (r : Readings). Gives n (closure m.body empty) L (gave z.value (probe_readings r)) c.0) (sym read)
    (subst (λ v. Gives n (closure m.body empty) L (gave v (probe_readings r)) c.0) (sym value) c.1))
    (at ∙ (f stands).time)
    (f stands)

-- a fault stops the engine
pub sampled_fault : {F : Type 0} {h : _} {μ : Machine} {n : Network} {m : Template} {L : Life} {S : Saves} {f : Fault} {s : State} {t : Meter} {e : Engine F h}
    → IsRunFor μ n m → Steps μ (main_of_plan μ.plan) L (Err f) s t → IsStopped e f → Sampled n m L S (Err f) e
sampled_fault {L = L} q (faulted_so {x = x} {k = k} G entered high) stopped = had_fault (q.no_more L (faulted x) k G).1 stopped
sampled_fault {L = L} q (too_large none within) stopped =
    was_large (λ o k G few low. let d = q.gives L o k G in none o d.0 d.1 (omega (arith, d.2, few)) (omega (arith, d.3, low))) stopped
sampled_fault q (no_memory within) stopped = had_no_memory stopped

-- an engine that hasn't started has no history
pub no_history : (b : Bool) (L : Life) → b ≡ false → (IsTrue b ↔ (L ≢ [])) → L ≡ []
no_history b [] h started = refl
no_history b (s ∷ L) h started = absurd (let t : b ≡ true = started.1 (λ q. cc) in cc)

-- the history before a start
IsHistory-none : (k : Kind) → IsHistory k []
IsHistory-none k = record {
  life = record { waits = tt; lasts = omega arith };
  begins = tt;
  inputs = All-nil (λ (s : Step). HasKind (input_of s) k);
}

-- an engine before its start
pub goes_first : {F : Type 0} {h : _} {e : Engine F h} {n : Network} {m : Template} → e.stopped ≡ None → IsRunFor (machine (h.answers e.functions) e.plan) n m → e.input ≡ m.input
    → Stands (machine (h.answers e.functions) e.plan) e.state (main_of_plan e.plan) [] → e.time ≡ 0 → e.last ≡ None → e.saves.entries ≡ []
    → Runs e n m [] []
goes_first {h = h} {e = e} {m = m} going plan input S at last saves = record {
  goes_on = going;
  plan = plan;
  input = input;
  state = S;
  time = at;
  last = last;
  history = IsHistory-none m.input;
  saves = subst (λ vs. AreSavesOf (machine (h.answers e.functions) e.plan) m vs []) (sym saves) tt;
}

-- the history after a start
pub IsHistory-start : (k : Kind) (x : Data) → HasKind x k → IsHistory k (after_start x)
IsHistory-start k x typed = record {
  life = record { waits = tt; lasts = omega arith };
  begins = refl;
  inputs = All-cons (λ (s : Step). HasKind (input_of s) k) (step 0 x) [] typed (All-nil (λ (s : Step). HasKind (input_of s) k));
}

-- the history after a step
pub IsHistory-step : (k : Kind) (d : ℕ) (x : Data) (L : Life) → L ≢ [] → CanWait (time L) d → HasKind x k → IsHistory k L → IsHistory k (step d x ∷ L)
IsHistory-step k d x [] some wait typed H = absurd (some refl)
IsHistory-step k d x (r ∷ L) some wait typed H = record {
  life = record { waits = (wait.some, wait.short, H.life.waits); lasts = wait.lasts };
  begins = H.begins;
  inputs = All-cons (λ (s : Step). HasKind (input_of s) k) (step d x) (r ∷ L) typed H.inputs;
}

-- the input of a step, and its type
pub newest_typed : (k : Kind) (L : Life) (x : Data) → newest_input L ≡ Some x → IsHistory k L → HasKind x k
newest_typed k [] x h H = absurd cc
newest_typed k (s ∷ L) x h H = subst (λ y. HasKind y k) (ap (λ o. unwrap_or o x) h) (All-head (λ (s : Step). HasKind (input_of s) k) s L H.inputs)

-- an engine without a last input, and one with it
pub no_last : (b : Bool) (o : Option Data) → b ≡ false → (IsTrue b ↔ (o ≢ None)) → o ≡ None
no_last b None h given = refl
no_last b (Some x) h given = absurd (let t : b ≡ true = given.1 (λ q. cc) in cc)

pub some_last : (b : Bool) (o : Option Data) → b ≡ true → (IsTrue b ↔ (o ≢ None)) → o ≢ None
some_last b o h given = given.0 h

-- a test of a type, failed
pub has_no_type : {v : Data} {a k : Kind} (b : Bool) → a ≡ k → b ≡ false → (IsTrue b ↔ HasKind v a) → ¬ HasKind v k
has_no_type {v = v} b same h tested typed = absurd (let t : b ≡ true = tested.1 (subst (λ k. HasKind v k) (sym same) typed) in cc)

-- a test of an input, if there is one
pub takes_some : (v : Option Data) {a k : Kind} (b : Bool) → a ≡ k → b ≡ true → (IsTrue b ↔ IfSome v (λ y. HasKind y a)) → IfSome v (λ y. HasKind y k)
takes_some v b same h tested = subst (λ k. IfSome v (λ y. HasKind y k)) same (tested.0 h)

pub takes_none : (v : Option Data) {a k : Kind} (b : Bool) → a ≡ k → b ≡ false → (IsTrue b ↔ IfSome v (λ y. HasKind y a)) → ¬ IfSome v (λ y. HasKind y k)
takes_none v b same h tested typed = absurd (let t : b ≡ true = tested.1 (subst (λ k. IfSome v (λ y. HasKind y k)) (sym same) typed) in cc)

-- the time that an engine may wait at is its history's
pub wait_at : {F : Type 0} {h : _} {e : Engine F h} {n : Network} {m : Template} {L : Life} {S : Saves} {d : ℕ} → Runs e n m L S → CanWait (engine_time e) d → CanWait (time L) d
wait_at {d = d} R wait = subst (λ t. CanWait t d) R.time wait

-- a test of a wait, failed
pub no_wait_at : {F : Type 0} {h : _} {e : Engine F h} {n : Network} {m : Template} {L : Life} {S : Saves} {d : ℕ} (b : Bool) → Runs e n m L S → b ≡ false → (IsTrue b ↔ CanWait (engine_time e) d) → ¬ CanWait (time L) d
no_wait_at {d = d} b R h tested wait = absurd (let t : b ≡ true = tested.1 (subst (λ t. CanWait t d) (sym R.time) wait) in cc)

-- an engine that may step has a history
some_lived : {F : Type 0} {h : _} {o : Engine F h} {n : Network} {m : Template} {L : Life} {S : Saves} {d : ℕ} {v : Option Data} → Runs o n m L S → MayStep o d v → L ≢ []
some_lived {L = []} R may none = may.begun R.last
some_lived {L = s ∷ L} R may none = cc

-- the history after a step with a new input
pub next_given : {F : Type 0} {h : _} {o : Engine F h} {n : Network} {m : Template} {L : Life} {S : Saves} {d : ℕ} {v : Option Data} {x y : Data} {r : Result Sample Fault} {e : Engine F h} → Runs o n m L S → MayStep o d v
    → v ≡ Some y → x ≡ y
    → (IsHistory m.input (step d x ∷ L) → Sampled n m (step d x ∷ L) S r e)
    → Sampled n m (after_step L d v) S r e
next_given {o = o} {n = n} {m = m} {L = L} {S = S} {d = d} {v = v} {x = x} {y = y} {r = r} {e = e} R may is same f =
    let typed : HasKind y m.input = subst (λ k. HasKind y k) R.input (subst (λ v. IfSome v (λ z. HasKind z (input_kind o))) is may.typed) in
    let input : x ≡ unwrap_or v (last_input L) = same ∙ ap (λ v. unwrap_or v (last_input L)) (sym is) in
    subst (λ z. Sampled n m (step d z ∷ L) S r e) input
    (f (IsHistory-step m.input d x L (some_lived R may) (wait_at R may.wait) (subst (λ z. HasKind z m.input) (sym same) typed) R.history))

-- the history after a step with an unchanged input
pub next_unchanged : {F : Type 0} {h : _} {o : Engine F h} {n : Network} {m : Template} {L : Life} {S : Saves} {d : ℕ} {v : Option Data} {x : Data} {r : Result Sample Fault} {e : Engine F h} → Runs o n m L S → MayStep o d v
    → v ≡ None → last_of o ≡ Some x
    → (IsHistory m.input (step d x ∷ L) → Sampled n m (step d x ∷ L) S r e)
    → Sampled n m (after_step L d v) S r e
next_unchanged {n = n} {m = m} {L = L} {S = S} {d = d} {v = v} {x = x} {r = r} {e = e} R may is last f =
    let newest : newest_input L ≡ Some x = sym R.last ∙ last in
    let input : x ≡ unwrap_or v (last_input L) = ap (λ o. unwrap_or o (number (pos 0))) (sym newest) ∙ ap (λ v. unwrap_or v (last_input L)) (sym is) in
    subst (λ z. Sampled n m (step d z ∷ L) S r e) input
    (f (IsHistory-step m.input d x L (some_lived R may) (wait_at R may.wait) (newest_typed m.input L x newest R.history) R.history))

-- a sample or its fault, as an engine answers it
pub answered : (r : Result Sample Fault) (a : Result Sample EngineError) → MatchResult r (λ s. a ≡ Ok s) (λ f. IsErrAnd a (λ e. e ≡ Faulted f)) → a ≡ answer_of r
answered (Ok s) a h = h
answered (Err f) (Ok s) h = absurd h
answered (Err f) (Err e) h = ap (λ x. Err x) h

-- an engine that has started has a history
pub some_started : (b : Bool) (L : Life) → b ≡ true → (IsTrue b ↔ (L ≢ [])) → L ≢ []
some_started b L h started = started.0 h

-- an engine that may start has no history
fresh_life : (L : Life) → newest_input L ≡ None → L ≡ []
fresh_life [] none = refl
fresh_life (s ∷ L) none = absurd cc

pub fresh_history : {F : Type 0} {h : _} {e : Engine F h} {n : Network} {m : Template} {L : Life} {S : Saves} {x : Data} → Runs e n m L S → MayStart e x → L ≡ []
fresh_history {L = L} R may = fresh_life L (sym R.last ∙ may.fresh)

-- what an engine that may start with it takes
pub fresh_type : {F : Type 0} {h : _} {e : Engine F h} {n : Network} {m : Template} {L : Life} {S : Saves} {x : Data} → Runs e n m L S → MayStart e x → HasKind x m.input
fresh_type {x = x} R may = subst (λ k. HasKind x k) R.input may.typed
