-- Two plans of one network.
use Rattle.std.proofs.Common.{◌≡◌, ◌≤◌, Ok, sym, ap, subst, arith}
use Rattle.sf_func.specs.Registries.{AnswersByName}
use Rattle.sf_check.specs.declared.checked.Checked.{Checked}
use Rattle.sf_check.specs.Accepting.{checked_main}
use Rattle.sf_law.specs.declared.plan.Plan.{Plan}
use Rattle.sf_law.specs.Arena.{network_of_plan}
use Rattle.sf_optimise.specs.Plans.{IsPlainPlan}
use Rattle.sf_mean.specs.Lives.{Life, closure, empty}
use Rattle.sf_mean.specs.Meaning.{count}
use Rattle.sf_mean.proofs.Once.{once}
use Rattle.sf_optimise.specs.Optimised.{IsOptimisedPlan}
use Rattle.sf_state.specs.declared.state.State.{State}
use Rattle.sf_state.specs.Standing.{Stands}
use Rattle.sf_state.specs.Machine.{Machine, machine}
use Rattle.sf_meter.specs.declared.meter.Meter.{Meter}
use Rattle.sf_meter.specs.Meters.{entered_of}
use Rattle.sf_step.specs.Stepping.{Steps, stepped}
use Rattle.sf_engine.specs.Planned.{main_of_plan, MeansTheSame}
use Rattle.sf_engine.proofs.Planned.{optimised_runs}

-- the rewritten plan means what the plan means that is the network itself
pub rewritten_means : (c : Checked) (p q : Plan) → IsPlainPlan c p → IsOptimisedPlan c q → (φ : AnswersByName) → MeansTheSame (network_of_plan φ p) (main_of_plan p) (network_of_plan φ q) (main_of_plan q)
rewritten_means c p q P Q φ =
    subst (λ t. MeansTheSame (network_of_plan φ p) (closure t empty) (network_of_plan φ q) (main_of_plan q)) (sym P.main)
    (subst (λ n. MeansTheSame n (closure (checked_main c).body empty) (network_of_plan φ q) (main_of_plan q)) (sym (P.network φ)) (optimised_runs c q Q φ))

-- a sample that both plans give enters no more nodes in the rewritten one
pub enters_no_more : {φ : AnswersByName} {p q : Plan} {L : Life} {x y : _} {s t : State} {m k : Meter}
    → MeansTheSame (network_of_plan φ p) (main_of_plan p) (network_of_plan φ q) (main_of_plan q)
    → Steps (machine φ p) (main_of_plan p) L (Ok x) s m → Steps (machine φ q) (main_of_plan q) L (Ok y) t k → entered_of k ≤ entered_of m
enters_no_more {φ = φ} {q = q} {L = L} M (stepped {k = c} G entered high stands) (stepped {k = d} H entered' high' stands') =
    let less = M.gives L _ c G in
    let same = once (network_of_plan φ q) H less.1 in
    let cost : count d ≡ count less.0 = ap count same.1 in
    omega (arith, entered, entered', less.2, cost)

-- the state that a sample leaves
pub stands_after : {μ : Machine} {L : Life} {x : _} {s : State} {m : Meter} → Steps μ (main_of_plan μ.plan) L (Ok x) s m → Stands μ s (main_of_plan μ.plan) L
stands_after (stepped G entered high stands) = stands
