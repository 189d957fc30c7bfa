-- What a plan is run for.
use Rattle.std.specs.Prelude.{◌≤◌}
use Rattle.sf_func.specs.Registries.{AnswersByName}
use Rattle.sf_term.specs.Trees.{Template}
use Rattle.sf_mean.specs.Lives.{Life, Process, closure, empty}
use Rattle.sf_mean.specs.Meaning.{Network, Outcome, Cost, count, height, Gives}
use Rattle.sf_mean.specs.Networks.{network_of}
use Rattle.sf_check.specs.declared.checked.Checked.{Checked}
use Rattle.sf_check.specs.Accepting.{accepted_program, checked_main}
use Rattle.sf_meter.specs.declared.meter.Meter.{Meter}
use Rattle.sf_meter.specs.Meters.{entered_of, meter_height}
use Rattle.sf_law.specs.declared.plan.Plan.{Plan}
use Rattle.sf_law.specs.Arena.{plan_tree, plan_main}
use Rattle.sf_state.specs.Machine.{Machine, machine_network}

-- the process that a plan runs
abbrev pub main_of_plan : Plan → Process
main_of_plan p = closure (plan_tree p (plan_main p)) empty

-- A process of a network means what one of another network means, and that one costs no more: on every life it gives the same
-- outcome, or none where that one gives none.
pub record MeansTheSame (n : Network) (P : Process) (q : Network) (Q : Process) : Type 0 where
  pub gives : (L : Life) (o : Outcome) (c : Cost) → Gives n P L o c → (d : Cost) × Gives q Q L o d × (count d ≤ count c) × (height d ≤ height c)
  pub no_more : (L : Life) (o : Outcome) (d : Cost) → Gives q Q L o d → (c : Cost) × Gives n P L o c

-- a plan is run for a network whose `main` is a template, where functions answer this
abbrev pub IsRunFor : Machine → Network → Template → Type 0
IsRunFor μ n m = MeansTheSame n (closure m.body empty) (machine_network μ) (main_of_plan μ.plan)

-- by its meter, a sample of a network took no more than the network's meaning counts, where that has an outcome
pub record TakesNoMore (φ : AnswersByName) (c : Checked) (L : Life) (m : Meter) : Type 0 where
  pub few : (o : Outcome) (k : Cost) → Gives (network_of φ (accepted_program c)) (closure (checked_main c).body empty) L o k → entered_of m ≤ count k
  pub low : (o : Outcome) (k : Cost) → Gives (network_of φ (accepted_program c)) (closure (checked_main c).body empty) L o k → meter_height m ≤ height k
