-- What the steps of members that are edited answer.
use Rattle.std.specs.Prelude.{◌≡◌, ℕ, ◌-◌, ◌≤◌, List, [], ◌∷◌, Option, Some, Result, Ok, Err, length}
use Rattle.std.specs.Option.{unwrap_or}
use Rattle.std.specs.declared.alloc.Global.{Global}
use Rattle.std.specs.declared.rc.Rc.{Rc}
use Rattle.sf_value.specs.Values.{Data}
use Rattle.sf_value.specs.declared.keys.Keys.{Keys}
use Rattle.sf_value.specs.declared.fault.Fault.{Fault}
use Rattle.sf_value.specs.declared.fault.Fault.TheVariants.{Memory}
use Rattle.sf_term.specs.declared.form.Observation.{Observation}
use Rattle.sf_mean.specs.Lives.{Step, step, Life, Members}
use Rattle.sf_mean.specs.Meaning.{switched_value, Each}
use Rattle.sf_state.specs.declared.state.State.{State}
use Rattle.sf_state.specs.declared.state.Gathered.{Gathered}
use Rattle.sf_state.specs.Held.{Holding, held_as, gathered_holding}
use Rattle.sf_state.specs.Standing.{Gathers}
use Rattle.sf_state.specs.Machine.{Machine, machine_network}
use Rattle.sf_meter.specs.declared.meter.Meter.{Meter}
use Rattle.sf_meter.specs.declared.meter.Spent.{Spent}
use Rattle.sf_step.specs.declared.turning.Turn.{Turn}
use Rattle.sf_step.specs.declared.turning.Turn.TheVariants.{Stays, Begins}
use Rattle.sf_step.specs.declared.turning.Noted.{Noted}
use Rattle.sf_begin.specs.Drafting.{laid_over}
use Rattle.sf_meter.specs.Meters.{entered_of, meter_height, readings, CountsAgain}
use Rattle.sf_step.specs.Answering.{Answers}
use Rattle.sf_step.specs.declared.sample.Edit.{Edit}
use Rattle.sf_step.specs.Sampling.{MemberSteps}

-- ## Members that run, at an edit

-- what a meter counted and recorded from one place to another
pub record IsBetween (m n : Meter) (g : Spent) : Type 0 where
  pub entered : g.entered ≡ entered_of n - entered_of m
  pub first : g.first ≡ length (readings m)
  pub behind : g.behind ≡ length (readings n)

-- states, with what they gave and how they take their turns
abbrev pub InTurn : Type 0
InTurn = List State × (List Data × List Turn)

-- what a step of members left in place, with what they gave, or the fault that stands in the meter
abbrev pub left_noted : {E : Type 0} → Result Noted E → List State → Fault → Result InTurn Fault
left_noted (Ok x) bs f = Ok (bs, (x.outputs.items, x.turns.items))
left_noted (Err e) bs f = Err f

-- States step one after another, and of each it is noted what it spent; or one of them fails, or memory.
pub data HaveStepped (μ : Machine) (w : Option ℕ) (s : Step) (inside : ℕ) : Meter → List State → Result InTurn Fault → Meter → Type 0 where
  all_stepped : {m : Meter} → HaveStepped μ w s inside m [] (Ok ([], ([], []))) m
  one_stepped : {m n l : Meter} {g : Spent} {a b : State} {y : Data} {cs ds : List State} {ys : List Data} {gs : List Turn}
      → MemberSteps μ w a s (Ok (b, y)) m n inside → IsBetween m n g → HaveStepped μ w s inside n cs (Ok (ds, (ys, gs))) l
      → HaveStepped μ w s inside m (a ∷ cs) (Ok (b ∷ ds, (y ∷ ys, Stays g ∷ gs))) l
  later_stopped : {m n l : Meter} {a b : State} {y : Data} {cs : List State} {f : Fault}
      → MemberSteps μ w a s (Ok (b, y)) m n inside → HaveStepped μ w s inside n cs (Err f) l → HaveStepped μ w s inside m (a ∷ cs) (Err f) l
  one_stopped : {m n : Meter} {a : State} {cs : List State} {f : Fault} → MemberSteps μ w a s (Err f) m n inside → HaveStepped μ w s inside m (a ∷ cs) (Err f) n
  no_memory_noted : {m n : Meter} {cs : List State} → entered_of n ≡ entered_of m → meter_height n ≡ meter_height m → HaveStepped μ w s inside m cs (Err Memory) n

-- ## Members of an edit

-- States take their turns: one that stays has stepped, and its cost counts again; one that begins steps on its input.
pub data HaveTurned (μ : Machine) (w : ℕ) (d : ℕ) (inside : ℕ) : Meter → List State → List Data → List Turn → Result (List State × List Data) Fault → Meter → Type 0 where
  all_turned : {m : Meter} → HaveTurned μ w d inside m [] [] [] (Ok ([], [])) m
  stays_on : {m n l : Meter} {g : Spent} {b : State} {y : Data} {cs ds : List State} {ys zs : List Data} {gs : List Turn}
      → CountsAgain m g n (Ok g) → HaveTurned μ w d inside n cs ys gs (Ok (ds, zs)) l → HaveTurned μ w d inside m (b ∷ cs) (y ∷ ys) (Stays g ∷ gs) (Ok (b ∷ ds, y ∷ zs)) l
  stays_before : {m n l : Meter} {g : Spent} {b : State} {y : Data} {cs : List State} {ys : List Data} {gs : List Turn} {f : Fault}
      → CountsAgain m g n (Ok g) → HaveTurned μ w d inside n cs ys gs (Err f) l → HaveTurned μ w d inside m (b ∷ cs) (y ∷ ys) (Stays g ∷ gs) (Err f) l
  stays_not : {m n : Meter} {g : Spent} {b : State} {y : Data} {cs : List State} {ys : List Data} {gs : List Turn} {f : Fault}
      → CountsAgain m g n (Err f) → HaveTurned μ w d inside m (b ∷ cs) (y ∷ ys) (Stays g ∷ gs) (Err f) n
  begins_on : {m n l : Meter} {a b : State} {x z : Data} {cs ds : List State} {ys zs : List Data} {gs : List Turn}
      → MemberSteps μ (Some w) a (step d x) (Ok (b, z)) m n inside → HaveTurned μ w d inside n cs ys gs (Ok (ds, zs)) l → HaveTurned μ w d inside m (a ∷ cs) (x ∷ ys) (Begins ∷ gs) (Ok (b ∷ ds, z ∷ zs)) l
  begins_before : {m n l : Meter} {a b : State} {x z : Data} {cs : List State} {ys : List Data} {gs : List Turn} {f : Fault}
      → MemberSteps μ (Some w) a (step d x) (Ok (b, z)) m n inside → HaveTurned μ w d inside n cs ys gs (Err f) l → HaveTurned μ w d inside m (a ∷ cs) (x ∷ ys) (Begins ∷ gs) (Err f) l
  begins_not : {m n : Meter} {a : State} {x : Data} {cs : List State} {ys : List Data} {gs : List Turn} {f : Fault}
      → MemberSteps μ (Some w) a (step d x) (Err f) m n inside → HaveTurned μ w d inside m (a ∷ cs) (x ∷ ys) (Begins ∷ gs) (Err f) n

-- ## Both

-- members that are held step to a table, or the first fault, inside nodes that are counted
abbrev pub HeldSteps : Machine → Holding → Step → Result (Holding × Data) Fault → Meter → Meter → ℕ → Type 0
HeldSteps μ h s result m n inside = inside ≤ meter_height m → (ms : Members) (L : Life) → Gathers μ h ms L
    → Answers (λ y. y.1) (λ y. Gathers μ y.0 ms (s ∷ L)) (Each (machine_network μ) ms s L) result m n inside

-- so they do after those that ran, from where the meter stood before these
abbrev pub HeldStepsAfter : Machine → Holding → Meter → Holding → Step → Result (Holding × Data) Fault → Meter → Meter → ℕ → Type 0
HeldStepsAfter μ g m h s result n n' inside = inside ≤ meter_height m → (ms : Members) (L : Life) → Gathers μ g ms L → HeldSteps μ h s result n n' inside

-- what an edit made, as it is held
abbrev pub held_as_made : Result Gathered Fault → Result Holding Fault
held_as_made (Ok g) = Ok (gathered_holding g)
held_as_made (Err f) = Err f

-- Members step to a table, and those that an edit made after them; one of the two tables shows.
pub data EditSteps (μ : Machine) (g : Holding) (made : Result Holding Fault) (w : Observation) (s : Step) : Result (Holding × Data) Fault → Meter → Meter → ℕ → Type 0 where
  no_memory_before : {m n : Meter} {inside : ℕ} → entered_of n ≡ entered_of m → meter_height n ≡ meter_height m → EditSteps μ g made w s (Err Memory) m n inside
  old_fails : {f : Fault} {m n : Meter} {inside : ℕ} → HeldSteps μ g s (Err f) m n inside → EditSteps μ g made w s (Err f) m n inside
  no_memory_between : {a : Holding} {y : Data} {m n n' : Meter} {inside : ℕ} → HeldSteps μ g s (Ok (a, y)) m n inside → entered_of n' ≡ entered_of n → meter_height n' ≡ meter_height n → EditSteps μ g made w s (Err Memory) m n' inside
  made_fails : {a : Holding} {y : Data} {f : Fault} {m n n' : Meter} {inside : ℕ} → HeldSteps μ g s (Ok (a, y)) m n inside → made ≡ Err f → entered_of n' ≡ entered_of n → meter_height n' ≡ meter_height n → EditSteps μ g made w s (Err f) m n' inside
  new_fails : {a h : Holding} {y : Data} {f : Fault} {m n n' : Meter} {inside : ℕ} → HeldSteps μ g s (Ok (a, y)) m n inside → made ≡ Ok h → HeldStepsAfter μ g m h s (Err f) n n' inside → EditSteps μ g made w s (Err f) m n' inside
  new_run : {a h : Holding} {l : Holding} {y z v : Data} {m n n' : Meter} {inside : ℕ}
      → HeldSteps μ g s (Ok (a, y)) m n inside → made ≡ Ok h → HeldStepsAfter μ g m h s (Ok (l, z)) n n' inside → v ≡ switched_value w y z
      → EditSteps μ g made w s (Ok (l, v)) m n' inside

-- so they do where the edit is over copies of those that run
abbrev pub DraftSteps : Machine → Edit → ℕ → Rc Keys Global → List State → Data → Result (Holding × Data) Fault → Meter → Meter → Type 0
DraftSteps μ e d keys bs x result m n = EditSteps μ (held_as keys bs e.wait) (Ok (laid_over bs (Some (unwrap_or e.wait d)) e.draft)) e.shown (step d x) result m n e.inside
