-- Nodes that count.
use Rattle.std.proofs.Common.{◌≡◌, ℕ, ◌+◌, Ok, refl, ap}
use Rattle.std.specs.Prelude.{max}
use Rattle.sf_probe.specs.Readings.{probe_readings}
use Rattle.sf_meter.specs.declared.meter.Meter.{Meter}
use Rattle.sf_meter.specs.Meters.{entered_of, meter_height, readings, Ticked, ticked}

-- a meter counts one more node, and records nothing
pub ticks_so : (m n : Meter) (depth : ℕ) → entered_of n ≡ entered_of m + 1 → max (meter_height m) (depth + 1) ≡ meter_height n → n.readings ≡ m.readings → Ticked m n depth (Ok (depth + 1))
unfolding readings
ticks_so m n depth e h r = ticked (record { entered = e; high = h; below = refl; recorded = ap probe_readings r })
