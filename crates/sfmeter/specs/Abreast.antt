-- Two plans that have come through the same samples.
use Rattle.sf_func.specs.Registries.{AnswersByName}
use Rattle.sf_law.specs.declared.plan.Plan.{Plan}
use Rattle.sf_law.specs.Arena.{network_of_plan}
use Rattle.sf_mean.specs.Lives.{Life}
use Rattle.sf_state.specs.Standing.{Stands}
use Rattle.sf_state.specs.Machine.{machine}
use Rattle.sf_engine.specs.Planned.{main_of_plan, MeansTheSame}
use Rattle.sfmeter.specs.declared.meters.Moment.{Moment}
use Rattle.sfmeter.specs.declared.meters.Meters.{Meters}

-- both states stand for one life, each in its plan
pub record HaveComeTo (φ : AnswersByName) (p q : Plan) (m : Moment) (L : Life) : Type 0 where
  pub plain : Stands (machine φ p) m.plain (main_of_plan p) L
  pub rewritten : Stands (machine φ q) m.rewritten (main_of_plan q) L

-- The rewritten plan means what the plain one means, and costs no more; and both have come to this life.
pub record AreAbreast {A B C : Type 0} {F : A → Type 0} {G : B → Type 0} {H : C → Type 0} (φ : AnswersByName) (m : Meters A B C F G H) (L : Life) : Type 0 where
  pub same : MeansTheSame (network_of_plan φ m.plain) (main_of_plan m.plain) (network_of_plan φ m.rewritten) (main_of_plan m.rewritten)
  pub lived : HaveComeTo φ m.plain m.rewritten m.now L
