use Rattle.std.proofs.Common.{inl, inr, refl}
use Rattle.sf_optimise.proofs.Forms.{ok_then}
use Rattle.sf_optimise.proofs.Rewritten.{part_of, side_rewritten, join_rewritten, heading_rewritten}
use Rattle.sf_optimise.proofs.optimising.rewritten.Goals as goal

pub of_its_form-requires-clause-keeps : goal.of_its_form-requires-clause-keeps
of_its_form-requires-clause-keeps c = elim c.in-Primitive.is [
  | inl k ↦ rw k.1 refl
  | inr j ↦ elim j [
    | inl k ↦ rw k.3 refl
    | inr k ↦ rw k.2 refl
  ]
]

pub of_its_form-requires-in-Transformed-clause-keeps : goal.of_its_form-requires-in-Transformed-clause-keeps
of_its_form-requires-in-Transformed-clause-keeps c = elim c.in-Transformed.is [
  | inl k ↦ rw k.2 refl
  | inr j ↦ elim j [
    | inl k ↦ rw k.1 refl
    | inr k ↦ rw k.1 refl
  ]
]

pub of_its_form-requires-in-Gathered-clause-keeps : goal.of_its_form-requires-in-Gathered-clause-keeps
of_its_form-requires-in-Gathered-clause-keeps c = elim c.in-Gathered.is [
  | inl k ↦ rw k.1 refl
  | inr j ↦ elim j [
    | inl k ↦ rw k.1 refl
    | inr k ↦ rw k.1 refl
  ]
]

pub returns-in-Joined-clause-ok : goal.returns-in-Joined-clause-ok
returns-in-Joined-clause-ok c =
    let below = rw c.in-Joined.is at c.requires.below in
    let first = part_of c.args.program.now c.args.plan.now c.args.plans.now c.requires.plans c.in-Joined.first below.0 c.plan_of.ensures in
    let second = part_of c.args.program.now c.args.plan.now c.args.plans.now c.requires.plans c.in-Joined.second below.1 c.plan_of-in-Joined.ensures in
    rw c.in-Joined.is (ok_then c.joined.result (λ a h. join_rewritten first second h) c.joined.ensures.ok)

pub returns-in-Sided-clause-ok : goal.returns-in-Sided-clause-ok
returns-in-Sided-clause-ok c =
    let below = rw c.in-Sided.is at c.requires.below in
    let part = part_of c.args.program.now c.args.plan.now c.args.plans.now c.requires.plans c.in-Sided.part below c.plan_of-in-Sided.ensures in
    rw c.in-Sided.is (ok_then c.on_a_side.result (λ a h. side_rewritten part h) c.on_a_side.ensures.ok)

pub returns-in-Headed-clause-ok : goal.returns-in-Headed-clause-ok
returns-in-Headed-clause-ok c =
    let below = rw c.in-Headed.is at c.requires.below in
    let held = rw c.in-Headed.is at c.requires.held in
    let part = part_of c.args.program.now c.args.plan.now c.args.plans.now c.requires.plans c.in-Headed.part below c.plan_of-in-Headed.ensures in
    rw c.in-Headed.is (ok_then c.with_head.result (λ a h. heading_rewritten c.args.program.now c.args.plan.now c.with_head.new.plan c.in-Headed.value c.requires.kept held.0 part h) c.with_head.ensures.ok)

pub with_head-requires-clause-value : goal.with_head-requires-clause-value
with_head-requires-clause-value c =
    let held = rw c.in-Headed.is at c.requires.held in
    c.requires.kept.holds c.in-Headed.value held.0
