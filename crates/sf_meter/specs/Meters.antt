-- What meters count and record.
use Rattle.std.specs.Prelude.{◌≡◌, ℕ, ◌+◌, ◌-◌, ◌≤◌, ◌<◌, max, ◌++◌, ◌⊎◌, List, length, slice_range, Result, Ok, Err}
use Rattle.sf_value.specs.Values.{Name, Data}
use Rattle.sf_probe.specs.Readings.{probe_readings}
use Rattle.sf_value.specs.declared.fault.Fault.{Fault}
use Rattle.sf_value.specs.declared.fault.Fault.TheVariants.{Large, Memory}
use Rattle.sf_meter.specs.declared.meter.Meter.{Meter}
use Rattle.sf_meter.specs.declared.meter.Mark.{Mark}
use Rattle.sf_meter.specs.declared.meter.Spent as spent_amounts

-- how many nodes
abbrev pub entered_of : Meter → ℕ
entered_of m = m.entered

-- how many nodes one inside another
abbrev pub meter_height : Meter → ℕ
meter_height m = m.height

-- why the sample has no value
abbrev pub meter_fault : Meter → Fault
meter_fault m = m.fault

-- what the probes recorded, in order: names with values
unfoldable pub readings : Meter → List (Name × Data)
readings m = probe_readings m.readings

-- one more node counts, inside depth others; its parts stand inside one more, and nothing is recorded
pub record Ticks (m n : Meter) (depth inside : ℕ) : Type 0 where
  pub entered : entered_of n ≡ entered_of m + 1
  pub high : max (meter_height m) inside ≡ meter_height n
  pub below : inside ≡ depth + 1
  pub recorded : readings n ≡ readings m

-- a result, with the fault that stands in the meter
abbrev pub kept : {A E : Type 0} → Result A E → Fault → Result A Fault
kept (Ok a) f = Ok a
kept (Err e) f = Err f

-- one more node, unless that is too many, and then none
pub data Ticked : Meter → Meter → ℕ → Result ℕ Fault → Type 0 where
  ticked : {m n : Meter} {depth inside : ℕ} → Ticks m n depth inside → Ticked m n depth (Ok inside)
  refused : {m n : Meter} {depth : ℕ} → (1000000 ≤ entered_of m) ⊎ (1600 ≤ depth) → entered_of n ≡ entered_of m → meter_height n ≡ meter_height m → Ticked m n depth (Err Large)

-- what a meter counted and recorded since it stood there
pub record IsSince (k : Mark) (n : Meter) (g : spent_amounts.Spent) : Type 0 where
  pub entered : g.entered ≡ entered_of n - k.entered
  pub first : g.first ≡ k.recorded
  pub behind : g.behind ≡ length (readings n)

-- A meter counts and records once more what it did before; or why it doesn't.
pub data CountsAgain (m : Meter) (g : spent_amounts.Spent) (n : Meter) : Result spent_amounts.Spent Fault → Type 0 where
  repeated : entered_of n ≡ entered_of m + g.entered → meter_height n ≡ meter_height m
      → (g.first ≤ g.behind → g.behind ≤ length (readings m) → readings n ≡ readings m ++ slice_range (readings m) g.first g.behind) → CountsAgain m g n (Ok g)
  too_often : 1000000 < entered_of m + g.entered → entered_of n ≡ entered_of m → meter_height n ≡ meter_height m → CountsAgain m g n (Err Large)
  not_repeated : entered_of n ≡ entered_of m → meter_height n ≡ meter_height m → CountsAgain m g n (Err Memory)

-- what a step left in place, or the fault that stands in the meter
abbrev pub left_or : {A B E : Type 0} → Result A E → B → Fault → Result B Fault
left_or (Ok a) b f = Ok b
left_or (Err e) b f = Err f
