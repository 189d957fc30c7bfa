-- Laws on parts, by what was made of the parts.
use Rattle.std.proofs.Common.{◌≡◌, ◌<◌, IsTrue, ◌⊎◌, inl, inr, sym, ◌∙◌, ap, subst, arith}
use mathlib.Core.Path.{ap₂}
use Rattle.sf_expr.specs.Expressions.{Expression}
use Rattle.sf_term.specs.declared.form.Join.TheVariants.{InParallel}
use Rattle.sf_term.specs.declared.form.Side.{Side}
use Rattle.sf_term.specs.declared.form.Side.TheVariants.{First}
use Rattle.sf_term.specs.declared.form.Heading.TheVariants.{LoopPre}
use Rattle.sf_term.specs.Trees.{whole, Term, joined, sided, headed, staged}
use Rattle.sf_law.specs.declared.node.PlanId.{PlanId}
use Rattle.sf_law.specs.declared.plan.Plan.{Plan}
use Rattle.sf_law.specs.Arena.{plan_number, plan_tree}
use Rattle.sf_rewrite.specs.Quiet.{is_quiet_expression, is_quiet}
use Rattle.sf_rewrite.specs.Laws.{Laws, loop_pre, unchanged, in_turn, in_side, in_join, sides_composed, exchanged, left_tightened, right_tightened}
use Rattle.sf_rewrite.specs.Normal.{IsPlan, plan_side, plan_join, plan_heading}
use Rattle.sf_optimise.specs.declared.sequence.Meeting.TheVariants as meetings
use Rattle.sf_optimise.specs.Making.{GrowsPlan, HoldsTree, IsNormal, MakesPlan, MeetsAs, on_one_side, in_exchange, MovesOut}
use Rattle.sf_optimise.proofs.Made.{makes_held}
use Rattle.sf_optimise.proofs.Forms.{two_normal}
use Rattle.sf_optimise.proofs.Boundary.{tree_still}

pub value_moves : (i : Expression) (t : Term) → IsTrue (is_quiet_expression i) → MovesOut i t
value_moves i t h = inl h

pub part_moves : (i : Expression) (t : Term) → IsTrue (is_quiet t) → MovesOut i t
part_moves i t h = inr h

-- ## Parts are plans

side_part : {d : Side} {t : Term} → IsPlan (sided d t) → IsPlan t
side_part (plan_side P) = P

join_parts : {f g : Term} → IsPlan (joined InParallel f g) → IsPlan f × IsPlan g
join_parts (plan_join h P Q) = (P, Q)

pub side_normal : {p : Plan} {d : Side} (a f : PlanId) → plan_tree p a ≡ sided d (plan_tree p f) → plan_number f < plan_number a → IsNormal p a → IsNormal p f
side_normal a f is below N = record { held = omega (arith, below, N.held); normal = side_part (subst IsPlan is N.normal) }

first_normal : {p : Plan} (a f g : PlanId) → plan_tree p a ≡ joined InParallel (plan_tree p f) (plan_tree p g) → plan_number f < plan_number a → IsNormal p a → IsNormal p f
first_normal a f g is below N = record { held = omega (arith, below, N.held); normal = (join_parts (subst IsPlan is N.normal)).0 }

second_normal : {p : Plan} (a f g : PlanId) → plan_tree p a ≡ joined InParallel (plan_tree p f) (plan_tree p g) → plan_number g < plan_number a → IsNormal p a → IsNormal p g
second_normal a f g is below N = record { held = omega (arith, below, N.held); normal = (join_parts (subst IsPlan is N.normal)).1 }

-- ## Both on one side

pub record SidesMeet (p : Plan) (a b f g : PlanId) (d : Side) : Type 0 where
  pub first : plan_tree p a ≡ sided d (plan_tree p f)
  pub second : plan_tree p b ≡ sided d (plan_tree p g)
  pub below : plan_number f < plan_number a
  pub first_part : IsNormal p f
  pub second_part : IsNormal p g

pub sides_meet : (p : Plan) (a b f g : PlanId) {d : Side} → MeetsAs p a b (meetings.Sides d f g) → IsNormal p a → IsNormal p b → SidesMeet p a b f g d
sides_meet p a b f g (on_one_side F G k l) N M = record { first = F; second = G; below = k; first_part = side_normal a f F k N; second_part = side_normal b g G l M }

pub sides_made : (p q r : Plan) (a b f g c e : PlanId) {d : Side} → SidesMeet p a b f g d → MakesPlan (staged whole (plan_tree p f) (plan_tree p g)) q c → MakesPlan (sided d (plan_tree q c)) r e → MakesPlan (staged whole (plan_tree p a) (plan_tree p b)) r e
sides_made p q r a b f g c e {d} S M N = record {
  held = N.held;
  normal = N.normal;
  law = subst (λ t. Laws t (plan_tree r e)) (sym (ap₂ (λ t u. staged whole t u) S.first S.second)) (in_turn sides_composed (in_turn (in_side M.law) N.law));
}

-- ## Exchange

pub record ExchangeMeets (p : Plan) (a b f g h k : PlanId) : Type 0 where
  pub first : plan_tree p a ≡ joined InParallel (plan_tree p f) (plan_tree p g)
  pub second : plan_tree p b ≡ joined InParallel (plan_tree p h) (plan_tree p k)
  pub first_below : plan_number f < plan_number a
  pub second_below : plan_number g < plan_number a
  pub one : IsNormal p f
  pub two : IsNormal p g
  pub three : IsNormal p h
  pub four : IsNormal p k
  pub quiet : IsTrue (is_quiet (plan_tree p g)) ⊎ IsTrue (is_quiet (plan_tree p h))

pub exchange_meets : (p : Plan) (a b f g h k : PlanId) → MeetsAs p a b (meetings.Exchange f g h k) → IsNormal p a → IsNormal p b → ExchangeMeets p a b f g h k
exchange_meets p a b f g h k (in_exchange F H i j l m q) N M = record {
  first = F;
  second = H;
  first_below = i;
  second_below = j;
  one = first_normal a f g F i N;
  two = second_normal a f g F j N;
  three = first_normal b h k H l M;
  four = second_normal b h k H m M;
  quiet = q;
}

pub exchange_made : (p q r s : Plan) (a b f g h k c d e : PlanId) → ExchangeMeets p a b f g h k → GrowsPlan p q → GrowsPlan q r → MakesPlan (staged whole (plan_tree p f) (plan_tree p h)) q c → MakesPlan (staged whole (plan_tree q g) (plan_tree q k)) r d
    → MakesPlan (joined InParallel (plan_tree r c) (plan_tree r d)) s e → MakesPlan (staged whole (plan_tree p a) (plan_tree p b)) s e
exchange_made p q r s a b f g h k c d e X G K M N O =
    let left : Laws (staged whole (plan_tree p f) (plan_tree p h)) (plan_tree r c) = subst (Laws (staged whole (plan_tree p f) (plan_tree p h))) (sym (tree_still K M.held)) M.law in
    let right : Laws (staged whole (plan_tree p g) (plan_tree p k)) (plan_tree r d) =
    subst (λ t. Laws t (plan_tree r d)) (ap₂ (λ t u. staged whole t u) (tree_still G X.two.held) (tree_still G X.four.held)) N.law in
    record {
      held = O.held;
      normal = O.normal;
      law = subst (λ t. Laws t (plan_tree s e)) (sym (ap₂ (λ t u. staged whole t u) X.first X.second)) (in_turn (exchanged X.quiet) (in_turn (in_join left right) O.law));
    }

-- ## Loops

pub loop_held : {p q : Plan} {i : Expression} {a c : PlanId} → IsNormal p a → HoldsTree (headed LoopPre i (plan_tree p a)) q c → MakesPlan (loop_pre i (plan_tree p a)) q c
loop_held N h = makes_held (plan_heading N.normal) unchanged h

pub loop_normal : (p : Plan) {q : Plan} {i : Expression} (a c : PlanId) → IsPlan (plan_tree p a) → HoldsTree (headed LoopPre i (plan_tree p a)) q c → IsNormal q c
loop_normal p a c P h = record { held = h.held; normal = subst IsPlan (sym h.is) (plan_heading P) }

-- two stages, one of which comes before or behind the loop as well
module _ (p : Plan) (a before behind : PlanId) (N : IsNormal p a)
    (two : (plan_tree p a ≡ staged whole (plan_tree p before) (plan_tree p behind)) × (plan_number before < plan_number a) × (plan_number behind < plan_number a)) where
  pub before_plan : IsPlan (plan_tree p before)
  before_plan = (two_normal p before behind (subst IsPlan two.0 N.normal)).0

  pub behind_plan : IsPlan (plan_tree p behind)
  behind_plan = (two_normal p before behind (subst IsPlan two.0 N.normal)).1

  pub before_normal : IsNormal p before
  before_normal = record { held = omega (arith, two.1, N.held); normal = before_plan }

  pub behind_normal : IsNormal p behind
  behind_normal = record { held = omega (arith, two.2, N.held); normal = behind_plan }

  module _ (q r : Plan) (G : GrowsPlan p q) (i : Expression) (out inner e : PlanId) where
    pub out_behind : (plan_tree p behind ≡ sided First (plan_tree p out)) × (plan_number out < plan_number behind) → HoldsTree (headed LoopPre i (plan_tree p before)) q inner → MakesPlan (staged whole (plan_tree q inner) (plan_tree q out)) r e
        → MakesPlan (loop_pre i (plan_tree p a)) r e
    out_behind side h M =
        let is : plan_tree p a ≡ staged whole (plan_tree p before) (sided First (plan_tree p out)) = two.0 ∙ ap (λ t. staged whole (plan_tree p before) t) side.0 in
        let kept : plan_tree q out ≡ plan_tree p out = tree_still G (omega (arith, side.1, two.2, N.held)) in
        record {
          held = M.held;
          normal = M.normal;
          law = subst (λ t. Laws (loop_pre i t) (plan_tree r e)) (sym is) (in_turn right_tightened (subst (λ t. Laws t (plan_tree r e)) (ap₂ (λ t u. staged whole t u) h.is kept) M.law));
        }

    pub out_before : (plan_tree p before ≡ sided First (plan_tree p out)) × (plan_number out < plan_number before) → MovesOut i (plan_tree p out) → HoldsTree (headed LoopPre i (plan_tree p behind)) q inner
        → MakesPlan (staged whole (plan_tree q out) (plan_tree q inner)) r e → MakesPlan (loop_pre i (plan_tree p a)) r e
    out_before side quiet h M =
        let is : plan_tree p a ≡ staged whole (sided First (plan_tree p out)) (plan_tree p behind) = two.0 ∙ ap (λ t. staged whole t (plan_tree p behind)) side.0 in
        let kept : plan_tree q out ≡ plan_tree p out = tree_still G (omega (arith, side.1, two.1, N.held)) in
        record {
          held = M.held;
          normal = M.normal;
          law = subst (λ t. Laws (loop_pre i t) (plan_tree r e)) (sym is) (in_turn (left_tightened quiet) (subst (λ t. Laws t (plan_tree r e)) (ap₂ (λ t u. staged whole t u) kept h.is) M.law));
        }
