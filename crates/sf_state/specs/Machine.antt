-- What a network runs on.
use Rattle.sf_func.specs.Registries.{AnswersByName}
use Rattle.sf_law.specs.declared.plan.Plan.{Plan}
use Rattle.sf_law.specs.Arena.{network_of_plan}
use Rattle.sf_mean.specs.Meaning.{Network}

-- what stored functions answer, and the plan of its terms
pub record Machine : Type 0 where
  pub answers : AnswersByName
  pub plan : Plan

abbrev pub machine : AnswersByName → Plan → Machine
machine φ p = record { answers = φ; plan = p }

-- its network, as the meaning has it
abbrev pub machine_network : Machine → Network
machine_network μ = network_of_plan μ.answers μ.plan
