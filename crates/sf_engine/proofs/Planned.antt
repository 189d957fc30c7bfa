-- Plans that are run for a network.
use Rattle.std.proofs.Common.{Result, ◌≤◌, ap, sym, subst, arith}
use Rattle.sf_value.specs.Values.{Data}
use Rattle.sf_value.specs.declared.fault.Fault.{Fault}
use Rattle.sf_func.specs.Registries.{AnswersByName}
use Rattle.sf_term.specs.Trees.{Term}
use Rattle.sf_mean.specs.Lives.{Life, Process, closure, empty}
use Rattle.sf_mean.specs.Meaning.{Network, Outcome, Cost, count, height, Gives}
use Rattle.sf_mean.proofs.Once.{once}
use Rattle.sf_mean.specs.Networks.{network_of}
use Rattle.sf_check.specs.declared.checked.Checked.{Checked}
use Rattle.sf_check.specs.Accepting.{accepted_program, checked_main}
use Rattle.sf_law.specs.declared.plan.Plan.{Plan}
use Rattle.sf_law.specs.Arena.{plan_tree, plan_main, network_of_plan}
use Rattle.sf_optimise.specs.Plans.{IsPlainPlan}
use Rattle.sf_rewrite.specs.Plans.{of_closure, of_nothing}
use Rattle.sf_rewrite.proofs.Theorem.{plan_gives, plan_no_more}
use Rattle.sf_optimise.specs.Optimised.{IsOptimisedPlan}
use Rattle.sf_state.specs.declared.state.State.{State}
use Rattle.sf_state.specs.Machine.{Machine, machine, machine_network}
use Rattle.sf_probe.specs.declared.reading.Readings.{Readings}
use Rattle.sf_meter.specs.declared.meter.Meter.{Meter}
use Rattle.sf_meter.specs.Meters.{entered_of, meter_height}
use Rattle.sf_step.specs.Stepping.{Steps, stepped, faulted_so, too_large, no_memory}
use Rattle.sf_engine.specs.Planned.{main_of_plan, MeansTheSame, IsRunFor, TakesNoMore}

-- a process means what it means itself
same_meaning : (n : Network) (t : Term) → MeansTheSame n (closure t empty) n (closure t empty)
same_meaning n t = record {
  gives = λ L o c G. (c, G, omega arith, omega arith);
  no_more = λ L o c G. (c, G);
}

-- the plan that is the network itself
pub plain_runs : (c : Checked) (p : Plan) → IsPlainPlan c p → (φ : AnswersByName) → IsRunFor (machine φ p) (network_of φ (accepted_program c)) (checked_main c)
plain_runs c p P φ =
    subst (λ t. MeansTheSame (network_of φ (accepted_program c)) (closure (checked_main c).body empty) (network_of_plan φ p) (closure t empty)) (sym P.main)
    (subst (λ n. MeansTheSame (network_of φ (accepted_program c)) (closure (checked_main c).body empty) n (closure (checked_main c).body empty)) (sym (P.network φ)) (same_meaning (network_of φ (accepted_program c)) (checked_main c).body))

-- the plan that laws make of it
pub optimised_runs : (c : Checked) (p : Plan) → IsOptimisedPlan c p → (φ : AnswersByName) → IsRunFor (machine φ p) (network_of φ (accepted_program c)) (checked_main c)
optimised_runs c p P φ = record {
  gives = λ L o k G. plan_gives (network_of φ (accepted_program c)) (network_of_plan φ p) (closure (checked_main c).body empty) (closure (plan_tree p (plan_main p)) empty) L o k (P.network φ) (of_closure P.main of_nothing) G;
  no_more = λ L o d G. plan_no_more (network_of φ (accepted_program c)) (network_of_plan φ p) (closure (checked_main c).body empty) (closure (plan_tree p (plan_main p)) empty) L o d (P.network φ) (of_closure P.main of_nothing) G;
}

-- what a sample of a plan took, by the cost of its outcome in the plan
step_takes : (μ : Machine) (P : Process) (L : Life) (r : Result (Data × Readings) Fault) (s : State) (m : Meter) → Steps μ P L r s m → (o : Outcome) (d : Cost) → Gives (machine_network μ) P L o d → (entered_of m ≤ count d) × (meter_height m ≤ height d)
step_takes μ P L r s m (stepped G entered high S) o d given = let same = (once (machine_network μ) G given).1 in (omega (arith, entered, ap count same), omega (arith, high, ap height same))
step_takes μ P L r s m (faulted_so G entered high) o d given = let same = (once (machine_network μ) G given).1 in (omega (arith, entered, ap count same), omega (arith, high, ap height same))
step_takes μ P L r s m (too_large none costs) o d given = (costs.few o d given, costs.low o d given)
step_takes μ P L r s m (no_memory costs) o d given = (costs.few o d given, costs.low o d given)

-- a plan that is run for a network takes no more than that
pub run_takes : (φ : AnswersByName) (c : Checked) (p : Plan) → IsRunFor (machine φ p) (network_of φ (accepted_program c)) (checked_main c) → (L : Life) (r : Result (Data × Readings) Fault) (s : State) (m : Meter) → Steps (machine φ p) (main_of_plan p) L r s m → TakesNoMore φ c L m
run_takes φ c p runs L r s m steps = record {
  few = λ o k G.
      let there = runs.gives L o k G in
      let took = step_takes (machine φ p) (main_of_plan p) L r s m steps o there.0 there.1 in
      omega (arith, took.0, there.2);
  low = λ o k G.
      let there = runs.gives L o k G in
      let took = step_takes (machine φ p) (main_of_plan p) L r s m steps o there.0 there.1 in
      omega (arith, took.1, there.3);
}
