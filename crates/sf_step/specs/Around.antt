-- What is around a term at its first sample.
use Rattle.std.specs.Prelude.{ℕ}
use Rattle.sf_func.specs.Registries.{AnswersByName}
use Rattle.sf_law.specs.declared.plan.Plan.{Plan}
use Rattle.sf_state.specs.Machine.{Machine}
use Rattle.sf_begin.specs.Contexts.{context_machine, plan_in, dt_in}
use Rattle.sf_step.specs.declared.sample.Around.{Around}

-- what the network runs on
abbrev pub machine_around : {R : Type 0} → (R → AnswersByName) → Around R → Machine
machine_around answers a = context_machine answers a.context.now

-- the plan of the terms that are stepped
abbrev pub plan_around : {R : Type 0} → Around R → Plan
plan_around a = plan_in a.context.now

-- how long the step is
abbrev pub dt_around : {R : Type 0} → Around R → ℕ
dt_around a = dt_in a.context.now
