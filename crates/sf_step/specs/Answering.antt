-- What the parts of a sample answer, and what the meter counts for them.
use Rattle.std.specs.Prelude.{◌≡◌, ℕ, ◌+◌, ◌≤◌, max, [], ◌∷◌, ◌++◌, Option, Some, None, Result, Ok, Err}
use Rattle.sf_value.specs.Values.{Data, pair}
use Rattle.sf_value.specs.declared.fault.ValueFault.{ValueFault}
use Rattle.sf_value.specs.declared.fault.Fault.{Fault}
use Rattle.sf_value.specs.declared.fault.Fault.TheVariants.{Value, Large, Memory}
use Rattle.sf_term.specs.Trees.{Term}
use Rattle.sf_mean.specs.Lives.{Step, Life, Process, closure, Environment, first_input}
use Rattle.sf_mean.specs.Meaning.{Readings, Outcome, gave, faulted, Cost, count, height, Gives}
use Rattle.sf_prim.specs.declared.prim_state.PrimState.{PrimState}
use Rattle.sf_state.specs.declared.state.Live.{Live}
use Rattle.sf_state.specs.declared.state.State.{State}
use Rattle.sf_state.specs.declared.env.Env.{Env}
use Rattle.sf_state.specs.Standing.{IsNames, Recalls, Stands, Settles, Ready}
use Rattle.sf_state.specs.Machine.{Machine, machine_network}
use Rattle.sf_meter.specs.declared.meter.Meter.{Meter}
use Rattle.sf_meter.specs.Meters.{Ticks, entered_of, meter_height, readings}

-- which outcomes at which cost
abbrev pub Rel : Type 1
Rel = Outcome → Cost → Type 0

-- the meter counted this cost of a part that stands inside depth nodes
pub record Spent (m n : Meter) (depth : ℕ) (k : Cost) (r : Readings) : Type 0 where
  pub entered : entered_of n ≡ entered_of m + count k
  pub high : meter_height n ≡ max (meter_height m) (depth + height k)
  pub recorded : readings n ≡ readings m ++ r

-- the meter counted no more than this cost of a part that stands inside depth nodes
pub record AtMost (m n : Meter) (depth : ℕ) (k : Cost) : Type 0 where
  pub entered : entered_of n ≤ entered_of m + count k
  pub high : meter_height n ≤ max (meter_height m) (depth + height k)

-- the meter counted no more than what any outcome costs
pub record Within (R : Rel) (m n : Meter) (depth : ℕ) : Type 0 where
  pub most : (o : Outcome) (k : Cost) → R o k → AtMost m n depth k

-- Why a part has no value: a fault of the meaning, more nodes than are allowed, or memory.
pub data StopsFor (R : Rel) : Fault → Meter → Meter → ℕ → Type 0 where
  faults : {x : ValueFault} {k : Cost} {m n : Meter} {depth : ℕ}
      → R (faulted x) k → AtMost m n depth k → StopsFor R (Value x) m n depth
  large : {m n : Meter} {depth : ℕ}
      → ((o : Outcome) (k : Cost) → R o k → entered_of m + count k ≤ 1000000 → depth + height k ≤ 1600 → ⊥)
      → Within R m n depth → StopsFor R Large m n depth
  memory : {m n : Meter} {depth : ℕ} → Within R m n depth → StopsFor R Memory m n depth

-- What a part answers: a value at its cost, with what holds after it; or why there is none.
pub data Answers {A : Type 0} (view : A → Data) (after : A → Type 0) (R : Rel) : Result A Fault → Meter → Meter → ℕ → Type 0 where
  answers : {a : A} {k : Cost} {r : Readings} {m n : Meter} {depth : ℕ}
      → R (gave (view a) r) k → Spent m n depth k r → after a → Answers view after R (Ok a) m n depth
  fails : {f : Fault} {m n : Meter} {depth : ℕ} → StopsFor R f m n depth → Answers view after R (Err f) m n depth

-- a primitive that counted between m and n steps to the outcome of its process on the longer life
abbrev pub PrimSteps : Machine → PrimState → Step → Result (PrimState × Data) Fault → Meter → Meter → Type 0
PrimSteps μ i s result n n' = (m : Meter) (depth inside : ℕ) → Ticks m n depth inside → (P : Process) (L : Life) → Recalls μ i P L
    → Answers (λ y. y.1) (λ y. Recalls μ y.0 P (s ∷ L)) (Gives (machine_network μ) P (s ∷ L)) result m n' depth

-- a live part that counted between m and n steps likewise, where its parts stand inside so many nodes
abbrev pub LiveSteps : Machine → Live → Step → Result (Live × Data) Fault → Meter → Meter → ℕ → Type 0
LiveSteps μ l s result n n' inside = (m : Meter) (depth : ℕ) → Ticks m n depth inside → (P : Process) (L : Life) → Ready μ l P (first_input s L) L
    → Answers (λ y. y.1) (λ y. Settles μ y.0 P (s ∷ L)) (Gives (machine_network μ) P (s ∷ L)) result m n' depth

-- a term with names around it, which counted between m and n, steps likewise at its first sample, where its parts stand inside so
-- many nodes
abbrev pub TermSteps : Machine → Term → Env → Step → Result (State × Data) Fault → Meter → Meter → ℕ → Type 0
TermSteps μ t names s result n n' inside = (m : Meter) (depth : ℕ) → Ticks m n depth inside → (e : Environment) → IsNames μ names e
    → Answers (λ y. y.1) (λ y. Stands μ y.0 (closure t e) (s ∷ [])) (Gives (machine_network μ) (closure t e) (s ∷ [])) result m n' depth

-- the same of one without parts
abbrev pub FirstSteps : Machine → Term → Env → Step → Result (State × Data) Fault → Meter → Meter → Type 0
FirstSteps μ t names s result n n' = (inside : ℕ) → TermSteps μ t names s result n n' inside

-- what a step of two parts on one input left, whose values are not yet a pair, or the fault that stands in the meter
abbrev pub left_apart : {A E : Type 0} → Result Data E → A → Data → Fault → Result (A × Data) Fault
left_apart (Ok x) a y f = Ok (a, pair x y)
left_apart (Err e) a y f = Err f

-- a value of which the first half may stand apart
abbrev pub whole_of : Option Data → Data → Data
whole_of None y = y
whole_of (Some x) y = pair x y

-- what a step left whose value may stand apart, or the fault that stands in the meter
abbrev pub left_split : {A E : Type 0} → Result (Option Data) E → A → Data → Fault → Result (A × Data) Fault
left_split (Ok o) a y f = Ok (a, whole_of o y)
left_split (Err e) a y f = Err f

-- what a step left in place, beside the value that it handed back, or the fault that stands in the meter
abbrev pub left_valued : {A E : Type 0} → Result Data E → A → Fault → Result (A × Data) Fault
left_valued (Ok y) a f = Ok (a, y)
left_valued (Err e) a f = Err f
