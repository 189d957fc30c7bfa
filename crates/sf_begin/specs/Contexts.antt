-- What the parts of a sample share.
use Rattle.std.specs.Prelude.{ℕ}
use Rattle.sf_func.specs.Registries.{AnswersByName}
use Rattle.sf_law.specs.declared.plan.Plan.{Plan}
use Rattle.sf_state.specs.Machine.{Machine, machine}
use Rattle.sf_begin.specs.declared.context.SampleContext.{SampleContext}
use Rattle.sf_operator.specs.declared.fault.EvalFault.{EvalFault}
use Rattle.sf_operator.specs.declared.fault.EvalFault.TheVariants.{Value as EValue, Memory as EMemory}
use Rattle.sf_value.specs.declared.fault.Fault.{Fault}
use Rattle.sf_value.specs.declared.fault.Fault.TheVariants.{Value, Memory}

-- the plan of the terms that are stepped
abbrev pub plan_in : {R : Type 0} → SampleContext R → Plan
plan_in c = c.plan.now

-- what the network runs on
abbrev pub context_machine : {R : Type 0} → (R → AnswersByName) → SampleContext R → Machine
context_machine answers c = machine (answers c.functions.now) c.plan.now

-- how long the step is
abbrev pub dt_in : {R : Type 0} → SampleContext R → ℕ
dt_in c = c.dt

-- the fault of an expression, as that of the sample
abbrev pub sample_fault : EvalFault → Fault
sample_fault (EValue x) = Value x
sample_fault EMemory = Memory
