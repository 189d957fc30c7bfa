-- What the steps of a cycle answer: of states, of members, and of what waits for an event.
use Rattle.std.specs.Prelude.{◌≡◌, ℕ, ◌≤◌, List, ◌∷◌, Option, Some, None, Result, Ok, Err, Vec}
use Rattle.std.specs.Option.{option_map}
use Rattle.std.specs.declared.alloc.Global.{Global}
use Rattle.sf_value.specs.declared.value.Value.{Value}
use Rattle.sf_value.specs.Values.{Data, table, first_of, second_of}
use Rattle.sf_value.specs.View.{keyed_rows}
use Rattle.sf_value.specs.declared.fault.Fault.{Fault}
use Rattle.sf_value.specs.declared.fault.Fault.TheVariants.{Memory}
use Rattle.sf_term.specs.Trees.{Term}
use Rattle.sf_mean.specs.Lives.{Step, Life, Process, closure, Environment, Members, first_input}
use Rattle.sf_mean.specs.Formulas.{occurring}
use Rattle.sf_mean.specs.Meaning.{Gives, Each}
use Rattle.sf_state.specs.declared.state.State.{State}
use Rattle.sf_state.specs.declared.state.Gathered.{Gathered}
use Rattle.sf_state.specs.declared.state.Gathering.{Gathering}
use Rattle.sf_state.specs.declared.state.Switch.{Switch}
use Rattle.sf_state.specs.declared.state.Continuation.{Continuation}
use Rattle.sf_state.specs.declared.env.Env.{Env}
use Rattle.sf_state.specs.declared.env.Payload.{Payload}
use Rattle.sf_state.specs.Names.{bound_value}
use Rattle.sf_state.specs.Held.{gathered_holding}
use Rattle.sf_state.specs.Standing.{IsNames, Stands, Waits, WaitsContinuation, WaitsGathered, Gathers, EachStands, StandsAmong, keys_in}
use Rattle.sf_state.specs.Machine.{Machine, machine_network}
use Rattle.sf_meter.specs.declared.meter.Meter.{Meter}
use Rattle.sf_meter.specs.declared.meter.Stop.{Stop}
use Rattle.sf_meter.specs.Meters.{entered_of, meter_height, meter_fault, Ticks}
use Rattle.sf_step.specs.Answering.{Answers}
use Rattle.sf_begin.specs.Beginning.{Prepared}

-- what a process gives after a life is answered, and what is left stands for it
abbrev pub PartSteps : Machine → Process → Life → Step → Result (State × Data) Fault → Meter → Meter → ℕ → Type 0
PartSteps μ P L s result m n depth = Answers (λ y. y.1) (λ y. Stands μ y.0 P (s ∷ L)) (Gives (machine_network μ) P (s ∷ L)) result m n depth

-- a part steps to the outcome of its process on the longer life
abbrev pub StateSteps : Machine → State → Step → Result (State × Data) Fault → Meter → Meter → ℕ → Type 0
StateSteps μ a s result m n depth = (P : Process) (L : Life) → Stands μ a P L → PartSteps μ P L s result m n depth

-- what a step of a switch left in place, beside what takes over from it, or the fault that stands in the meter
abbrev pub left_beside : {A E : Type 0} → Result (Option State) E → A → Data → Fault → Result ((Option State × A) × Data) Fault
left_beside (Ok o) s d f = Ok ((o, s), d)
left_beside (Err e) s d f = Err f

-- What a step gives whose value is taken apart: the first part of that, and the payload of the event beside it, if it occurs; or
-- the fault that stands in the meter.
pub data GivesApart {A : Type 0} (Steps : Result (A × Data) Fault → Type 0) (a : A) (f : Fault) : Result (Value × Option Payload) Stop → Type 0 where
  apart : {x y : Data} {o : Option Payload} → Steps (Ok (a, y)) → x ≡ first_of y → option_map bound_value o ≡ occurring (second_of y) → GivesApart Steps a f (Ok (x, o))
  stopped : {e : Stop} → Steps (Err f) → GivesApart Steps a f (Err e)

-- How a value is taken apart that was given whole: nothing is counted, and what stops is a want of memory.
pub data TakenApart (y : Data) (n n' : Meter) : Result (Value × Option Payload) Stop → Type 0 where
  halved : {x : Data} {o : Option Payload} → n' ≡ n → x ≡ first_of y → option_map bound_value o ≡ occurring (second_of y) → TakenApart y n n' (Ok (x, o))
  not_granted : {e : Stop} → entered_of n' ≡ entered_of n → meter_height n' ≡ meter_height n → meter_fault n' ≡ Memory → TakenApart y n n' (Err e)

-- what switches of a kind wait for, and the lives that they have led
abbrev pub Waiting : Type 0 → Type 1
Waiting A = A → Process → Life → Type 0

-- what takes over from a switch stands for it; without that, it waits
abbrev pub StandsFor : {A : Type 0} → Machine → Waiting A → Option State → A → Process → Life → Type 0
StandsFor μ W (Some a) s P L = Stands μ a P L
StandsFor μ W None s P L = W s P L

-- a switch with names around it, which counted between m and n, steps to the outcome of its process on the longer life, where
-- its parts stand inside so many nodes
abbrev pub WaitingSteps : {A : Type 0} → Machine → Waiting A → Env → A → Step → Result ((Option State × A) × Data) Fault → Meter → Meter → ℕ → Type 0
WaitingSteps μ W names w s result n n' inside = (m : Meter) (depth : ℕ) → Ticks m n depth inside → (t : Term) (e : Environment) (L : Life) → IsNames μ names e → W w (closure t e) L
    → Answers (λ y. y.1) (λ y. StandsFor μ W y.0.0 y.0.1 (closure t e) (s ∷ L)) (Gives (machine_network μ) (closure t e) (s ∷ L)) result m n' depth

-- the same of switches that drop what runs, or keep it
abbrev pub SwitchSteps : Machine → Env → Switch → Step → Result ((Option State × Switch) × Data) Fault → Meter → Meter → ℕ → Type 0
SwitchSteps μ = WaitingSteps μ (Waits μ)

abbrev pub ContinuationSteps : Machine → Env → Continuation → Step → Result ((Option State × Continuation) × Data) Fault → Meter → Meter → ℕ → Type 0
ContinuationSteps μ = WaitingSteps μ (WaitsContinuation μ)

-- the same of members that wait
abbrev pub GatheringSteps : Machine → Env → Gathering → Step → Result ((Option State × Gathering) × Data) Fault → Meter → Meter → ℕ → Type 0
GatheringSteps μ = WaitingSteps μ (WaitsGathered μ)

-- members step to a table, or the first fault, inside nodes that are counted
abbrev pub MembersSteps : Machine → Gathered → Step → Result (Gathered × Data) Fault → Meter → Meter → ℕ → Type 0
MembersSteps μ g s result m n inside = inside ≤ meter_height m → (ms : Members) (L : Life) → Gathers μ (gathered_holding g) ms L
    → Answers (λ y. y.1) (λ y. Gathers μ (gathered_holding y.0) ms (s ∷ L)) (Each (machine_network μ) ms s L) result m n inside

-- their states, which run or wait so long, step as they do, to values in their order; from then on they run
abbrev pub EachSteps : Machine → Option ℕ → List State → Step → Result (List State × List Data) Fault → Meter → Meter → ℕ → Type 0
EachSteps μ w bs s result m n inside = inside ≤ meter_height m → (ms : Members) (L : Life) → EachStands μ w bs ms L
    → Answers (λ y. table (keyed_rows (keys_in ms) y.1)) (λ y. EachStands μ None y.0 ms (s ∷ L)) (Each (machine_network μ) ms s L) result m n inside

-- what a step of states left in place, beside their values, or the fault that stands in the meter
abbrev pub left_with : {E : Type 0} → Result (Vec Value Global) E → List State → Fault → Result (List State × List Data) Fault
left_with (Ok ys) bs f = Ok (bs, ys.items)
left_with (Err e) bs f = Err f

-- one among those that run or wait so long steps to the outcome of its process on the longer life
abbrev pub MemberSteps : Machine → Option ℕ → State → Step → Result (State × Data) Fault → Meter → Meter → ℕ → Type 0
MemberSteps μ w a s result m n inside = (P : Process) (L : Life) → StandsAmong μ w a P L → PartSteps μ P L s result m n inside

-- a state that counted between m and n steps to the outcome of its process on the longer life, where its parts stand inside so
-- many nodes
abbrev pub CountedSteps : Machine → State → Step → Result (State × Data) Fault → Meter → Meter → ℕ → Type 0
CountedSteps μ a s result n n' inside = (m : Meter) (depth : ℕ) → Ticks m n depth inside → (P : Process) (L : Life) → Prepared μ a P (first_input s L) L → PartSteps μ P L s result m n' depth
