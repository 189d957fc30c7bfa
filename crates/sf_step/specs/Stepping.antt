-- What one sample answers.
use Rattle.std.specs.Prelude.{◌≡◌, ◌≤◌, Result, Ok, Err}
use Rattle.sf_probe.specs.declared.reading.Readings.{Readings}
use Rattle.sf_probe.specs.Readings.{probe_readings}
use Rattle.sf_value.specs.Values.{Data}
use Rattle.sf_value.specs.declared.fault.ValueFault.{ValueFault}
use Rattle.sf_value.specs.declared.fault.Fault.{Fault}
use Rattle.sf_value.specs.declared.fault.Fault.TheVariants.{Value, Large, Memory}
use Rattle.sf_mean.specs.Lives.{Life, Process}
use Rattle.sf_mean.specs.Meaning.{Outcome, gave, faulted, Cost, count, height, Gives}
use Rattle.sf_state.specs.declared.state.State.{State}
use Rattle.sf_state.specs.Standing.{Stands}
use Rattle.sf_state.specs.Machine.{Machine, machine_network}
use Rattle.sf_meter.specs.declared.meter.Meter.{Meter}
use Rattle.sf_meter.specs.Meters.{entered_of, meter_height}

-- each outcome of P on L costs what the meter counted, or more
pub record EachCostsAtLeast (μ : Machine) (P : Process) (L : Life) (m : Meter) : Type 0 where
  pub few : (o : Outcome) (k : Cost) → Gives (machine_network μ) P L o k → entered_of m ≤ count k
  pub low : (o : Outcome) (k : Cost) → Gives (machine_network μ) P L o k → meter_height m ≤ height k

-- A sample answers what P gives on L, its value with its readings. The new state stands for P on L, and the meter counted exactly
-- the meaning's terms; without a value it counted no more. Large is answered only where P gives nothing within the numbers of nodes
-- that are allowed.
pub data Steps (μ : Machine) (P : Process) (L : Life) : Result (Data × Readings) Fault → State → Meter → Type 0 where
  stepped : {v : Data} {r : Readings} {k : Cost} {s : State} {m : Meter}
      → Gives (machine_network μ) P L (gave v (probe_readings r)) k → entered_of m ≡ count k → meter_height m ≡ height k → Stands μ s P L
      → Steps μ P L (Ok (v, r)) s m
  faulted_so : {x : ValueFault} {k : Cost} {s : State} {m : Meter}
      → Gives (machine_network μ) P L (faulted x) k → entered_of m ≤ count k → meter_height m ≤ height k
      → Steps μ P L (Err (Value x)) s m
  too_large : {s : State} {m : Meter}
      → ((o : Outcome) (k : Cost) → Gives (machine_network μ) P L o k → count k ≤ 1000000 → height k ≤ 1600 → ⊥)
      → EachCostsAtLeast μ P L m
      → Steps μ P L (Err Large) s m
  no_memory : {s : State} {m : Meter} → EachCostsAtLeast μ P L m → Steps μ P L (Err Memory) s m
