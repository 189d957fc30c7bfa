-- Each network has a plan: an optimiser on trees, with what its laws make and the form of it.
use Rattle.std.proofs.Common.{pos, ◌≡◌, [], Bool, true, false, ◌&&◌, IsTrue, refl, sym, subst, ◌⊎◌, inl, inr}
use Rattle.sf_operator.specs.declared.operator.Operator.TheVariants.{Arithmetic}
use Rattle.sf_operator.specs.declared.operator.Arithmetic.TheVariants.{Divide}
use Rattle.sf_expr.specs.Expressions.{Expression, unnamed, literal, int_literal, operation, Function, function}
use Rattle.sf_term.specs.declared.form.Bare.TheVariants.{Identity, LocalTime, Integral, Edge, NotYet, Once, Count, Pre}
use Rattle.sf_term.specs.declared.form.WithValue.TheVariants.{Constant, Initially, InitialPre, InitializedPre, Now, InitialEdge, EdgeTag, Hold, DelayedHold}
use Rattle.sf_term.specs.declared.form.Join.TheVariants.{InSequence, InParallel, FannedOut}
use Rattle.sf_term.specs.declared.form.Side.{Side}
use Rattle.sf_term.specs.declared.form.Side.TheVariants.{First, Second}
use Rattle.sf_term.specs.declared.form.Heading.TheVariants.{LoopPre, Initialized, Replaced, Followed}
use Rattle.sf_term.specs.declared.form.Switching.TheVariants.{Basic, Recurring}
use Rattle.sf_term.specs.Trees.{Chain, lone, chained, on_side, on_both, fanned, bare, probe, never, with_value, timed, selected, arrow, accumulated, fused, Extent, whole, rest, Term, primitive, reference, started, call, Arguments, no_arguments, value_argument, process_argument, closed_argument, joined, sided, headed, transformed, switching, continuing, staged, collection_argument, gathered, releasing, editing, Collection, without_members, used, added, dropped, kept, chosen}
use Rattle.sf_term.specs.declared.form.Observation.TheVariants.{Immediate, Delayed}
use Rattle.sf_term.specs.declared.form.Start.TheVariants.{Run, Fresh}
use Rattle.sf_rewrite.specs.Quiet.{is_quiet_expression, is_quiet}
use Rattle.sf_rewrite.specs.Laws.{identity, constant, arr, loop_pre, Laws, unchanged, in_turn, in_join, in_stages, in_side, as_pipeline, within_pipeline, associate_right, associate_left, identity_before, identity_after, arr_as_chain, arr_composed, arr_on_side, arr_in_parallel, arr_fanned_out, sides_composed, exchanged, constant_after, left_tightened, right_tightened}
use Rattle.sf_rewrite.specs.Plans.{Plans, plans, of_primitive, of_started, of_call, PlansArguments, of_no_arguments, of_value_argument, of_named_argument, of_closed_argument, is_started, of_join, of_side, of_heading, of_transformed, of_switch, of_continuing, of_gathered, of_releasing, of_editing, PlansCollection, of_without, of_used, of_added, of_dropped, of_kept, of_chosen, of_collection_argument}
use Rattle.sf_rewrite.specs.Normal.{is_arr, is_stage, may_meet, are_written, IsPlan, plan_primitive, plan_started, plan_call, ArePlans, plan_no_arguments, plan_value_argument, plan_term_argument, plan_closed_argument, plan_join, plan_side, plan_heading, plan_transformed, plan_switch, plan_continuing, plan_pipeline, IsRest, last_stage, more_stages, is_written, plan_gathered, plan_releasing, plan_editing, IsPlanned, planned_without, planned_used, planned_added, planned_dropped, planned_kept, planned_chosen, plan_collection_argument, collects_written}
use Rattle.sf_rewrite.proofs.Parts.{no_truth}
use Rattle.sf_rewrite.proofs.Quiet.{both_true}

-- what laws make of a term: a plan
pub record Planned (t : Term) : Type 0 where
  pub term : Term
  pub is : IsPlan term
  pub law : Laws t term

pub decided : (b : Bool) → IsTrue b ⊎ (b ≡ false)
decided true = inl refl
decided false = inr refl

-- ## What is `arr`

data Arr (t : Term) : Type 0 where
  an_arr : (f : Chain) → Laws t (arr f) → is_arr t ≡ true → Arr t
  no_arr : is_arr t ≡ false → Arr t

arr_view : (t : Term) → Arr t
arr_view (primitive (bare k)) = no_arr refl
arr_view (primitive (probe k)) = no_arr refl
arr_view (primitive (never t)) = no_arr refl
arr_view (primitive (with_value k i)) = no_arr refl
arr_view (primitive (arrow f)) = an_arr (lone f) arr_as_chain refl
arr_view (primitive (timed k q i)) = no_arr refl
arr_view (primitive (selected k n)) = no_arr refl
arr_view (primitive (accumulated k i f)) = no_arr refl
arr_view (primitive (fused f)) = an_arr f unchanged refl
arr_view (reference r) = no_arr refl
arr_view (joined j f g) = no_arr refl
arr_view (sided d t) = no_arr refl
arr_view (headed h i t) = no_arr refl
arr_view (transformed f t) = no_arr refl
arr_view (switching w t p u) = no_arr refl
arr_view (continuing w t q k p u) = no_arr refl
arr_view (gathered i) = no_arr refl
arr_view (releasing w i q k p u) = no_arr refl
arr_view (editing w i k p u) = no_arr refl
arr_view (staged x f g) = no_arr refl

data IsConstant (t : Term) : Type 0 where
  a_constant : (i : Expression) → t ≡ constant i → IsConstant t
  no_constant : IsConstant t

constant_view : (t : Term) → IsConstant t
constant_view (primitive (bare k)) = no_constant
constant_view (primitive (probe k)) = no_constant
constant_view (primitive (never t)) = no_constant
constant_view (primitive (with_value Constant i)) = a_constant i refl
constant_view (primitive (with_value Initially i)) = no_constant
constant_view (primitive (with_value InitialPre i)) = no_constant
constant_view (primitive (with_value InitializedPre i)) = no_constant
constant_view (primitive (with_value Now i)) = no_constant
constant_view (primitive (with_value InitialEdge i)) = no_constant
constant_view (primitive (with_value EdgeTag i)) = no_constant
constant_view (primitive (with_value Hold i)) = no_constant
constant_view (primitive (with_value DelayedHold i)) = no_constant
constant_view (primitive (arrow f)) = no_constant
constant_view (primitive (timed k q i)) = no_constant
constant_view (primitive (selected k n)) = no_constant
constant_view (primitive (accumulated k i f)) = no_constant
constant_view (primitive (fused f)) = no_constant
constant_view (reference r) = no_constant
constant_view (joined j f g) = no_constant
constant_view (sided d t) = no_constant
constant_view (headed h i t) = no_constant
constant_view (transformed f t) = no_constant
constant_view (switching w t p u) = no_constant
constant_view (continuing w t q k p u) = no_constant
constant_view (gathered i) = no_constant
constant_view (releasing w i q k p u) = no_constant
constant_view (editing w i k p u) = no_constant
constant_view (staged x f g) = no_constant

-- ## Neighbours

meets_left : (a b : Bool) → a ≡ false → IsTrue (may_meet a b)
meets_left true b h = absurd (no_truth (sym h))
meets_left false b h = refl

meets_right : (a b : Bool) → b ≡ false → IsTrue (may_meet a b)
meets_right true true h = absurd (no_truth (sym h))
meets_right true false h = refl
meets_right false b h = refl

-- two neighbours become one, which is `arr` where the second was; or they stay
data Merged (a b : Term) : Type 0 where
  into : (c : Term) → IsPlan c → IsTrue (is_stage c) → is_arr c ≡ is_arr b → ((x : Extent) → Laws (staged x a b) c) → Merged a b
  apart : IsTrue (may_meet (is_arr a) (is_arr b)) → Merged a b

-- a quiet stage before a constant is dropped
before_constant : (a : Term) (i : Expression) → Merged a (constant i)
before_constant a i = elim (decided (is_quiet a)) [
  | inl h ↦ into (constant i) plan_primitive refl refl (λ x. constant_after h)
  | inr h ↦ apart (meets_right (is_arr a) false refl)
]

-- two functions become one
arrs : (a b : Term) → Arr a → Arr b → Merged a b
arrs a b (an_arr f F k) (an_arr g G l) = into (arr (chained f g)) plan_primitive refl (sym l) (λ x. in_turn (in_stages F G) arr_composed)
arrs a b (an_arr f F k) (no_arr l) = apart (meets_right (is_arr a) (is_arr b) l)
arrs a b (no_arr k) B = apart (meets_left (is_arr a) (is_arr b) k)

merged : (a b : Term) → Merged a b
merged a b = elim (constant_view b) [
  | a_constant i h ↦ subst (Merged a) (sym h) (before_constant a i)
  | no_constant ↦ arrs a b (arr_view a) (arr_view b)
]

-- ## The rest of a pipeline

rest_after : {a c r : Term} → is_arr c ≡ is_arr a → IsRest a r → IsRest c r
rest_after e (last_stage {t = t} P S M) = last_stage P S (subst (λ b. IsTrue (may_meet b (is_arr t))) (sym e) M)
rest_after e (more_stages {t = t} P S M R) = more_stages P S (subst (λ b. IsTrue (may_meet b (is_arr t))) (sym e) M) R

-- stages that stand after none
abbrev IsTail : Term → Type 0
IsTail r = IsRest identity r

record Tail (t : Term) : Type 0 where
  term : Term
  is : IsTail term
  law : Laws t term

-- a stage before others
pushed : (a : Term) → IsPlan a → IsTrue (is_stage a) → {r : Term} → IsTail r → Tail (staged rest a r)
pushed a P S (last_stage {t = b} Q T M) = elim (merged a b) [
  | into c C D e law ↦ record { term = c; is = last_stage C D refl; law = law rest }
  | apart h ↦ record { term = staged rest a b; is = more_stages P S refl (last_stage Q T h); law = unchanged }
]
pushed a P S (more_stages {t = b} {r = r} Q T M R) = elim (merged a b) [
  | into c C D e law ↦ record { term = staged rest c r; is = more_stages C D refl (rest_after e R); law = in_turn associate_left (in_stages (law rest) unchanged) }
  | apart h ↦ record { term = staged rest a (staged rest b r); is = more_stages P S refl (more_stages Q T h R); law = unchanged }
]

-- the same at the head of a pipeline
headed_by : (a : Term) → IsPlan a → IsTrue (is_stage a) → {r : Term} → IsTail r → Planned (staged whole a r)
headed_by a P S (last_stage {t = b} Q T M) = elim (merged a b) [
  | into c C D e law ↦ record { term = c; is = C; law = law whole }
  | apart h ↦ record { term = staged whole a b; is = plan_pipeline P S (last_stage Q T h); law = unchanged }
]
headed_by a P S (more_stages {t = b} {r = r} Q T M R) = elim (merged a b) [
  | into c C D e law ↦ record { term = staged whole c r; is = plan_pipeline C D (rest_after e R); law = in_turn associate_left (in_stages (law rest) unchanged) }
  | apart h ↦ record { term = staged whole a (staged rest b r); is = plan_pipeline P S (more_stages Q T h R); law = unchanged }
]

-- stages before others
appended : {a r g : Term} → IsRest a r → IsTail g → Tail (staged rest r g)
appended (last_stage {t = t} P S M) G = pushed t P S G
appended (more_stages {t = t} P S M R) G =
    let k = appended R G in
    let l = pushed t P S k.is in
    record { term = l.term; is = l.is; law = in_turn associate_right (in_turn (in_stages unchanged k.law) l.law) }

-- ## Pipelines

-- a plan by its stages
data Staged (t : Term) : Type 0 where
  no_stage : t ≡ identity → Staged t
  one_stage : IsTrue (is_stage t) → Staged t
  some_stages : (a r : Term) → t ≡ staged whole a r → IsPlan a → IsTrue (is_stage a) → IsRest a r → Staged t

stages : {t : Term} → IsPlan t → Staged t
stages (plan_primitive {p = bare Identity}) = no_stage refl
stages (plan_primitive {p = bare LocalTime}) = one_stage refl
stages (plan_primitive {p = bare Integral}) = one_stage refl
stages (plan_primitive {p = bare Edge}) = one_stage refl
stages (plan_primitive {p = bare NotYet}) = one_stage refl
stages (plan_primitive {p = bare Once}) = one_stage refl
stages (plan_primitive {p = bare Count}) = one_stage refl
stages (plan_primitive {p = bare Pre}) = one_stage refl
stages (plan_primitive {p = probe k}) = one_stage refl
stages (plan_primitive {p = with_value k i}) = one_stage refl
stages (plan_primitive {p = arrow f}) = one_stage refl
stages (plan_primitive {p = timed k q i}) = one_stage refl
stages (plan_primitive {p = selected k n}) = one_stage refl
stages (plan_primitive {p = never t}) = one_stage refl
stages (plan_primitive {p = accumulated k i f}) = one_stage refl
stages (plan_primitive {p = fused f}) = one_stage refl
stages plan_started = one_stage refl
stages (plan_call A) = one_stage refl
stages (plan_join h P Q) = one_stage h
stages (plan_side P) = one_stage refl
stages (plan_heading P) = one_stage refl
stages (plan_transformed P) = one_stage refl
stages (plan_switch P Q) = one_stage refl
stages (plan_continuing P Q R) = one_stage refl
stages (plan_gathered I) = one_stage refl
stages (plan_releasing I Q R) = one_stage refl
stages (plan_editing I J) = one_stage refl
stages (plan_pipeline P S R) = some_stages _ _ refl P S R

-- what stands after others, as stages
tail : {g : Term} → IsPlan g → Staged g → (g ≡ identity) ⊎ Tail g
tail G (no_stage h) = inl h
tail G (one_stage S) = inr (record { term = _; is = last_stage G S refl; law = unchanged })
tail {g} G (some_stages b r h P S R) = inr (subst Tail (sym h) (record { term = staged rest b r; is = more_stages P S refl R; law = within_pipeline }))

before_tail : {f g : Term} → IsPlan f → Staged f → IsPlan g → Tail g → Planned (staged whole f g)
before_tail {f} {g} F (no_stage h) G k = subst (λ f. Planned (staged whole f g)) (sym h) (record { term = g; is = G; law = identity_before })
before_tail {f} {g} F (one_stage S) G k = let l = headed_by f F S k.is in record { term = l.term; is = l.is; law = in_turn (in_stages unchanged k.law) l.law }
before_tail {f} {g} F (some_stages a r h P S R) G k =
    let m = appended R k.is in
    let l = headed_by a P S m.is in
    subst (λ f. Planned (staged whole f g)) (sym h) (record {
      term = l.term;
      is = l.is;
      law = in_turn (in_stages within_pipeline k.law) (in_turn associate_right (in_turn (in_stages unchanged m.law) l.law));
    })

one_after_another : {f g : Term} → IsPlan f → IsPlan g → Planned (staged whole f g)
one_after_another {f} {g} F G = elim (tail G (stages G)) [
  | inl h ↦ subst (λ g. Planned (staged whole f g)) (sym h) (record { term = f; is = F; law = identity_after })
  | inr k ↦ before_tail F (stages F) G k
]

-- ## Forms with parts

in_planned : {t u : Term} → Laws t u → Planned u → Planned t
in_planned A k = record { term = k.term; is = k.is; law = in_turn A k.law }

on_a_side : (d : Side) {t : Term} → IsPlan t → Planned (sided d t)
on_a_side d {t} P = elim (arr_view t) [
  | an_arr f F h ↦ record { term = arr (on_side d f); is = plan_primitive; law = in_turn (in_side F) arr_on_side }
  | no_arr h ↦ record { term = sided d t; is = plan_side P; law = unchanged }
]

side_by_side : {f g : Term} → IsPlan f → IsPlan g → Arr f → Arr g → Planned (joined InParallel f g)
side_by_side F G (an_arr f k h) (an_arr g l i) = record { term = arr (on_both f g); is = plan_primitive; law = in_turn (in_join k l) arr_in_parallel }
side_by_side F G (an_arr f k h) (no_arr i) = record { term = _; is = plan_join refl F G; law = unchanged }
side_by_side F G (no_arr h) B = record { term = _; is = plan_join refl F G; law = unchanged }

in_parallel : {f g : Term} → IsPlan f → IsPlan g → Planned (joined InParallel f g)
in_parallel {f} {g} F G = side_by_side F G (arr_view f) (arr_view g)

both_on : {f g : Term} → IsPlan f → IsPlan g → Arr f → Arr g → Planned (joined FannedOut f g)
both_on F G (an_arr f k h) (an_arr g l i) = record { term = arr (fanned f g); is = plan_primitive; law = in_turn (in_join k l) arr_fanned_out }
both_on F G (an_arr f k h) (no_arr i) = record { term = _; is = plan_join refl F G; law = unchanged }
both_on F G (no_arr h) B = record { term = _; is = plan_join refl F G; law = unchanged }

fanned_out : {f g : Term} → IsPlan f → IsPlan g → Planned (joined FannedOut f g)
fanned_out {f} {g} F G = both_on F G (arr_view f) (arr_view g)

-- ## `>>>`

compose_sides : (d : Side) {f g : Term} → Planned (staged whole f g) → Planned (staged whole (sided d f) (sided d g))
compose_sides d k = in_planned (in_turn sides_composed (in_side k.law)) (on_a_side d k.is)

exchange : {f g h k : Term} → Laws (staged whole (joined InParallel f g) (joined InParallel h k)) (joined InParallel (staged whole f h) (staged whole g k)) → Planned (staged whole f h) → Planned (staged whole g k)
    → Planned (staged whole (joined InParallel f g) (joined InParallel h k))
exchange law p q = in_planned (in_turn law (in_join p.law q.law)) (in_parallel p.is q.is)

pub in_sequence : {f g : Term} → IsPlan f → IsPlan g → Planned (staged whole f g)
in_sequence (plan_side {d = First} F) (plan_side {d = First} G) = compose_sides First (in_sequence F G)
in_sequence (plan_side {d = Second} F) (plan_side {d = Second} G) = compose_sides Second (in_sequence F G)
in_sequence (plan_join {j = InParallel} {f = f} {g = g} x F G) (plan_join {j = InParallel} {f = h} {g = k} y H K) = elim (decided (is_quiet g)) [
  | inl q ↦ exchange (exchanged (inl q)) (in_sequence F H) (in_sequence G K)
  | inr q ↦ elim (decided (is_quiet h)) [
    | inl q ↦ exchange (exchanged (inr q)) (in_sequence F H) (in_sequence G K)
    | inr q ↦ one_after_another (plan_join x F G) (plan_join y H K)
  ]
]
in_sequence F G = one_after_another F G

-- ## Loops

looped : {i : Expression} {t : Term} → IsPlan t → Planned (loop_pre i t)
looped P = record { term = _; is = plan_heading P; law = unchanged }

-- what comes before and isn't fed back
before_loop : {i : Expression} {f g : Term} → IsPlan f → IsPlan g → IsTrue (is_stage g) → Planned (loop_pre i (staged whole (sided First f) g))
before_loop {i} {f} {g} F G S = elim (decided (is_quiet_expression i)) [
  | inl q ↦ in_planned (left_tightened (inl q)) (in_sequence F (plan_heading {h = LoopPre} {i = i} G))
  | inr q ↦ elim (decided (is_quiet f)) [
    | inl q ↦ in_planned (left_tightened (inr q)) (in_sequence F (plan_heading {h = LoopPre} {i = i} G))
    | inr q ↦ looped (plan_pipeline (plan_side F) refl (last_stage G S refl))
  ]
]

pub in_loop : {i : Expression} {t : Term} → IsPlan t → Planned (loop_pre i t)
in_loop {i = i} (plan_pipeline P S (last_stage (plan_side {d = First} Q) T M)) = in_planned right_tightened (in_sequence (plan_heading {h = LoopPre} {i = i} P) Q)
in_loop (plan_pipeline (plan_side {d = First} P) S (last_stage Q T M)) = before_loop P Q T
in_loop P = looped P

-- ## Networks

pub record Optimised (t : Term) : Type 0 where
  pub term : Term
  pub plans : Plans t term
  pub is : IsPlan term

-- a collection with plans of its terms
record OptimisedCollection (i : Collection) : Type 0 where
  collection : Collection
  plans : PlansCollection i collection
  is : IsPlanned collection

-- arguments with plans of their terms
record OptimisedArguments (vs : Arguments) : Type 0 where
  arguments : Arguments
  plans : PlansArguments vs arguments
  are : ArePlans arguments

-- a term that stays closed before other arguments
closing : {t : Term} {vs : Arguments} → is_started t ≡ false → Optimised t → OptimisedArguments vs → OptimisedArguments (process_argument t vs)
closing h o a = record { arguments = closed_argument o.term a.arguments; plans = of_closed_argument h o.plans a.plans; are = plan_closed_argument o.is a.are }

-- a term before other arguments
with_argument : (t : Term) {vs : Arguments} → Optimised t → OptimisedArguments vs → OptimisedArguments (process_argument t vs)
with_argument (primitive p) o a = closing refl o a
with_argument (reference (started w k)) o a = record { arguments = process_argument (reference (started w k)) a.arguments; plans = of_named_argument a.plans; are = plan_term_argument plan_started a.are }
with_argument (reference (call g us)) o a = closing refl o a
with_argument (joined j f g) o a = closing refl o a
with_argument (sided d t) o a = closing refl o a
with_argument (headed k i t) o a = closing refl o a
with_argument (transformed f t) o a = closing refl o a
with_argument (switching w t p u) o a = closing refl o a
with_argument (continuing w t q k p u) o a = closing refl o a
with_argument (gathered i) o a = closing refl o a
with_argument (releasing w i q k p u) o a = closing refl o a
with_argument (editing w i k p u) o a = closing refl o a
with_argument (staged x f g) o a = closing refl o a

mutual
  pub optimised : (t : Term) → IsTrue (is_written t) → Optimised t
  optimised (primitive p) h = record { term = primitive p; plans = plans of_primitive unchanged; is = plan_primitive }
  optimised (joined InSequence f g) h =
      let w = both_true (is_written f) (is_written g) h in
      let p = optimised f w.0 in
      let q = optimised g w.1 in
      let k = in_sequence p.is q.is in
      record { term = k.term; plans = plans (of_join p.plans q.plans) (in_turn as_pipeline k.law); is = k.is }
  optimised (joined InParallel f g) h =
      let w = both_true (is_written f) (is_written g) h in
      let p = optimised f w.0 in
      let q = optimised g w.1 in
      let k = in_parallel p.is q.is in
      record { term = k.term; plans = plans (of_join p.plans q.plans) k.law; is = k.is }
  optimised (joined FannedOut f g) h =
      let w = both_true (is_written f) (is_written g) h in
      let p = optimised f w.0 in
      let q = optimised g w.1 in
      let k = fanned_out p.is q.is in
      record { term = k.term; plans = plans (of_join p.plans q.plans) k.law; is = k.is }
  optimised (sided d t) h =
      let p = optimised t h in
      let k = on_a_side d p.is in
      record { term = k.term; plans = plans (of_side p.plans) k.law; is = k.is }
  optimised (headed LoopPre i t) h =
      let p = optimised t h in
      let k = in_loop p.is in
      record { term = k.term; plans = plans (of_heading p.plans) k.law; is = k.is }
  optimised (headed Initialized i t) h =
      let p = optimised t h in
      record { term = headed Initialized i p.term; plans = plans (of_heading p.plans) unchanged; is = plan_heading p.is }
  optimised (headed Replaced i t) h =
      let p = optimised t h in
      record { term = headed Replaced i p.term; plans = plans (of_heading p.plans) unchanged; is = plan_heading p.is }
  optimised (headed Followed i t) h =
      let p = optimised t h in
      record { term = headed Followed i p.term; plans = plans (of_heading p.plans) unchanged; is = plan_heading p.is }
  optimised (transformed f t) h =
      let p = optimised t h in
      record { term = transformed f p.term; plans = plans (of_transformed p.plans) unchanged; is = plan_transformed p.is }
  optimised (switching w t p u) h =
      let k = both_true (is_written t) (is_written u) h in
      let a = optimised t k.0 in
      let b = optimised u k.1 in
      record { term = switching w a.term p b.term; plans = plans (of_switch a.plans b.plans) unchanged; is = plan_switch a.is b.is }
  optimised (reference (started w k)) h = record { term = reference (started w k); plans = plans of_started unchanged; is = plan_started }
  optimised (reference (call g vs)) h =
      let a = optimised_arguments vs h in
      record { term = reference (call g a.arguments); plans = plans (of_call a.plans) unchanged; is = plan_call a.are }
  optimised (continuing w t o k p u) h =
      let l = both_true (is_written t) (is_written o && is_written u) h in
      let r = both_true (is_written o) (is_written u) l.1 in
      let a = optimised t l.0 in
      let b = optimised o r.0 in
      let c = optimised u r.1 in
      record { term = continuing w a.term b.term k p c.term; plans = plans (of_continuing a.plans b.plans c.plans) unchanged; is = plan_continuing a.is b.is c.is }
  optimised (gathered i) h = let a = optimised_collection i h in record { term = gathered a.collection; plans = plans (of_gathered a.plans) unchanged; is = plan_gathered a.is }
  optimised (releasing w i o k p u) h =
      let l = both_true (collects_written i) (is_written o && is_written u) h in
      let r = both_true (is_written o) (is_written u) l.1 in
      let a = optimised_collection i l.0 in
      let b = optimised o r.0 in
      let c = optimised u r.1 in
      record { term = releasing w a.collection b.term k p c.term; plans = plans (of_releasing a.plans b.plans c.plans) unchanged; is = plan_releasing a.is b.is c.is }
  optimised (editing w i k p u) h =
      let l = both_true (collects_written i) (collects_written u) h in
      let a = optimised_collection i l.0 in
      let b = optimised_collection u l.1 in
      record { term = editing w a.collection k p b.collection; plans = plans (of_editing a.plans b.plans) unchanged; is = plan_editing a.is b.is }
  optimised (staged x f g) h = absurd (no_truth h)

  optimised_collection : (i : Collection) → IsTrue (collects_written i) → OptimisedCollection i
  optimised_collection (without_members k t) h = record { collection = without_members k t; plans = of_without; is = planned_without }
  optimised_collection (used x) h = record { collection = used x; plans = of_used; is = planned_used }
  optimised_collection (added i j t) h =
      let w = both_true (collects_written i) (is_written t) h in
      let a = optimised_collection i w.0 in
      let b = optimised t w.1 in
      record { collection = added a.collection j b.term; plans = of_added a.plans b.plans; is = planned_added a.is b.is }
  optimised_collection (dropped i j) h = let a = optimised_collection i h in record { collection = dropped a.collection j; plans = of_dropped a.plans; is = planned_dropped a.is }
  optimised_collection (kept i f) h = let a = optimised_collection i h in record { collection = kept a.collection f; plans = of_kept a.plans; is = planned_kept a.is }
  optimised_collection (chosen j k l) h =
      let w = both_true (collects_written k) (collects_written l) h in
      let a = optimised_collection k w.0 in
      let b = optimised_collection l w.1 in
      record { collection = chosen j a.collection b.collection; plans = of_chosen a.plans b.plans; is = planned_chosen a.is b.is }

  optimised_arguments : (vs : Arguments) → IsTrue (are_written vs) → OptimisedArguments vs
  optimised_arguments no_arguments h = record { arguments = no_arguments; plans = of_no_arguments; are = plan_no_arguments }
  optimised_arguments (value_argument i vs) h = let a = optimised_arguments vs h in record { arguments = value_argument i a.arguments; plans = of_value_argument a.plans; are = plan_value_argument a.are }
  optimised_arguments (process_argument t vs) h = let k = both_true (is_written t) (are_written vs) h in with_argument t (optimised t k.0) (optimised_arguments vs k.1)
  optimised_arguments (collection_argument i vs) h =
      let k = both_true (collects_written i) (are_written vs) h in
      let c = optimised_collection i k.0 in
      let a = optimised_arguments vs k.1 in
      record { arguments = collection_argument c.collection a.arguments; plans = of_collection_argument c.plans a.plans; are = plan_collection_argument c.is a.are }
  optimised_arguments (closed_argument t vs) h = absurd (no_truth h)

-- ## Each law is applied where its left side stands alone

abbrev one : Expression
one = literal (int_literal (pos 1))

abbrev two : Expression
two = operation one (Arithmetic Divide) one

-- a quiet part, and parts that may fail
abbrev q : Term
q = primitive (with_value InitialPre one)

abbrev f : Term
f = primitive (with_value InitialPre two)

abbrev g : Term
g = joined InParallel f f

abbrev x : Function
x = function unnamed one

abbrev y : Function
y = function unnamed two

abbrev on : Function → Term
on k = primitive (arrow k)

identity_before_applied : (optimised (joined InSequence identity f) refl).term ≡ f
unfolding optimised in_sequence one_after_another before_tail tail stages headed_by pushed appended merged arrs before_constant arr_view constant_view in_parallel side_by_side fanned_out both_on on_a_side in_loop before_loop looped compose_sides exchange in_planned decided
identity_before_applied = refl

identity_after_applied : (optimised (joined InSequence f identity) refl).term ≡ f
unfolding optimised in_sequence one_after_another before_tail tail stages headed_by pushed appended merged arrs before_constant arr_view constant_view in_parallel side_by_side fanned_out both_on on_a_side in_loop before_loop looped compose_sides exchange in_planned decided
identity_after_applied = refl

brackets_dropped : (optimised (joined InSequence (joined InSequence f g) (joined InSequence f g)) refl).term ≡ staged whole f (staged rest g (staged rest f g))
unfolding optimised in_sequence one_after_another before_tail tail stages headed_by pushed appended merged arrs before_constant arr_view constant_view in_parallel side_by_side fanned_out both_on on_a_side in_loop before_loop looped compose_sides exchange in_planned decided
brackets_dropped = refl

arr_composed_applied : (optimised (joined InSequence (joined InSequence f (on x)) (joined InSequence (on y) g)) refl).term ≡ staged whole f (staged rest (arr (chained (lone x) (lone y))) g)
unfolding optimised in_sequence one_after_another before_tail tail stages headed_by pushed appended merged arrs before_constant arr_view constant_view in_parallel side_by_side fanned_out both_on on_a_side in_loop before_loop looped compose_sides exchange in_planned decided
arr_composed_applied = refl

arr_on_first_applied : (optimised (sided First (on x)) refl).term ≡ arr (on_side First (lone x))
unfolding optimised in_sequence one_after_another before_tail tail stages headed_by pushed appended merged arrs before_constant arr_view constant_view in_parallel side_by_side fanned_out both_on on_a_side in_loop before_loop looped compose_sides exchange in_planned decided
arr_on_first_applied = refl

arr_on_second_applied : (optimised (sided Second (on x)) refl).term ≡ arr (on_side Second (lone x))
unfolding optimised in_sequence one_after_another before_tail tail stages headed_by pushed appended merged arrs before_constant arr_view constant_view in_parallel side_by_side fanned_out both_on on_a_side in_loop before_loop looped compose_sides exchange in_planned decided
arr_on_second_applied = refl

arr_in_parallel_applied : (optimised (joined InParallel (on x) (on y)) refl).term ≡ arr (on_both (lone x) (lone y))
unfolding optimised in_sequence one_after_another before_tail tail stages headed_by pushed appended merged arrs before_constant arr_view constant_view in_parallel side_by_side fanned_out both_on on_a_side in_loop before_loop looped compose_sides exchange in_planned decided
arr_in_parallel_applied = refl

arr_fanned_out_applied : (optimised (joined FannedOut (on x) (on y)) refl).term ≡ arr (fanned (lone x) (lone y))
unfolding optimised in_sequence one_after_another before_tail tail stages headed_by pushed appended merged arrs before_constant arr_view constant_view in_parallel side_by_side fanned_out both_on on_a_side in_loop before_loop looped compose_sides exchange in_planned decided
arr_fanned_out_applied = refl

first_composed : (optimised (joined InSequence (sided First f) (sided First g)) refl).term ≡ sided First (staged whole f g)
unfolding optimised in_sequence one_after_another before_tail tail stages headed_by pushed appended merged arrs before_constant arr_view constant_view in_parallel side_by_side fanned_out both_on on_a_side in_loop before_loop looped compose_sides exchange in_planned decided
first_composed = refl

second_composed : (optimised (joined InSequence (sided Second f) (sided Second g)) refl).term ≡ sided Second (staged whole f g)
unfolding optimised in_sequence one_after_another before_tail tail stages headed_by pushed appended merged arrs before_constant arr_view constant_view in_parallel side_by_side fanned_out both_on on_a_side in_loop before_loop looped compose_sides exchange in_planned decided
second_composed = refl

exchanged_left_quiet : (optimised (joined InSequence (joined InParallel f q) (joined InParallel g f)) refl).term ≡ joined InParallel (staged whole f g) (staged whole q f)
unfolding optimised in_sequence one_after_another before_tail tail stages headed_by pushed appended merged arrs before_constant arr_view constant_view in_parallel side_by_side fanned_out both_on on_a_side in_loop before_loop looped compose_sides exchange in_planned decided
exchanged_left_quiet = refl

exchanged_right_quiet : (optimised (joined InSequence (joined InParallel f g) (joined InParallel q f)) refl).term ≡ joined InParallel (staged whole f q) (staged whole g f)
unfolding optimised in_sequence one_after_another before_tail tail stages headed_by pushed appended merged arrs before_constant arr_view constant_view in_parallel side_by_side fanned_out both_on on_a_side in_loop before_loop looped compose_sides exchange in_planned decided
exchanged_right_quiet = refl

-- together with both identities
exchanged_with_identities : (optimised (joined InSequence (joined InParallel f identity) (joined InParallel identity g)) refl).term ≡ joined InParallel f g
unfolding optimised in_sequence one_after_another before_tail tail stages headed_by pushed appended merged arrs before_constant arr_view constant_view in_parallel side_by_side fanned_out both_on on_a_side in_loop before_loop looped compose_sides exchange in_planned decided
exchanged_with_identities = refl

-- without a quiet part it isn't applied
not_exchanged : (optimised (joined InSequence (joined InParallel f g) (joined InParallel f g)) refl).term ≡ staged whole (joined InParallel f g) (joined InParallel f g)
unfolding optimised in_sequence one_after_another before_tail tail stages headed_by pushed appended merged arrs before_constant arr_view constant_view in_parallel side_by_side fanned_out both_on on_a_side in_loop before_loop looped compose_sides exchange in_planned decided
not_exchanged = refl

constant_after_applied : (optimised (joined InSequence q (primitive (with_value Constant two))) refl).term ≡ constant two
unfolding optimised in_sequence one_after_another before_tail tail stages headed_by pushed appended merged arrs before_constant arr_view constant_view in_parallel side_by_side fanned_out both_on on_a_side in_loop before_loop looped compose_sides exchange in_planned decided
constant_after_applied = refl

not_forgotten : (optimised (joined InSequence (on y) (primitive (with_value Constant one))) refl).term ≡ staged whole (on y) (constant one)
unfolding optimised in_sequence one_after_another before_tail tail stages headed_by pushed appended merged arrs before_constant arr_view constant_view in_parallel side_by_side fanned_out both_on on_a_side in_loop before_loop looped compose_sides exchange in_planned decided
not_forgotten = refl

-- what a probe records isn't forgotten
probe_not_forgotten : (optimised (joined InSequence (primitive (probe [])) (primitive (with_value Constant one))) refl).term ≡ staged whole (primitive (probe [])) (constant one)
unfolding optimised in_sequence one_after_another before_tail tail stages headed_by pushed appended merged arrs before_constant arr_view constant_view in_parallel side_by_side fanned_out both_on on_a_side in_loop before_loop looped compose_sides exchange in_planned decided
probe_not_forgotten = refl

left_tightened_quiet_value : (optimised (headed LoopPre one (joined InSequence (sided First f) g)) refl).term ≡ staged whole f (loop_pre one g)
unfolding optimised in_sequence one_after_another before_tail tail stages headed_by pushed appended merged arrs before_constant arr_view constant_view in_parallel side_by_side fanned_out both_on on_a_side in_loop before_loop looped compose_sides exchange in_planned decided
left_tightened_quiet_value = refl

left_tightened_quiet_part : (optimised (headed LoopPre two (joined InSequence (sided First q) g)) refl).term ≡ staged whole q (loop_pre two g)
unfolding optimised in_sequence one_after_another before_tail tail stages headed_by pushed appended merged arrs before_constant arr_view constant_view in_parallel side_by_side fanned_out both_on on_a_side in_loop before_loop looped compose_sides exchange in_planned decided
left_tightened_quiet_part = refl

not_left_tightened : (optimised (headed LoopPre two (joined InSequence (sided First f) g)) refl).term ≡ loop_pre two (staged whole (sided First f) g)
unfolding optimised in_sequence one_after_another before_tail tail stages headed_by pushed appended merged arrs before_constant arr_view constant_view in_parallel side_by_side fanned_out both_on on_a_side in_loop before_loop looped compose_sides exchange in_planned decided
not_left_tightened = refl

pub right_tightened_applied : (optimised (headed LoopPre two (joined InSequence g (sided First f))) refl).term ≡ staged whole (loop_pre two g) f
unfolding optimised in_sequence one_after_another before_tail tail stages headed_by pushed appended merged arrs before_constant arr_view constant_view in_parallel side_by_side fanned_out both_on on_a_side in_loop before_loop looped compose_sides exchange in_planned decided
right_tightened_applied = refl

-- in the source of a switch, and in its body
in_switch_applied : (optimised (switching (Basic Immediate) (joined InSequence identity f) unnamed (joined InSequence g identity)) refl).term ≡ switching (Basic Immediate) f unnamed g
unfolding optimised in_sequence one_after_another before_tail tail stages headed_by pushed appended merged arrs before_constant arr_view constant_view in_parallel side_by_side fanned_out both_on on_a_side in_loop before_loop looped compose_sides exchange in_planned decided
in_switch_applied = refl

in_recurring_applied : (optimised (switching (Recurring Delayed) (joined InSequence identity f) unnamed (joined InSequence g identity)) refl).term ≡ switching (Recurring Delayed) f unnamed g
unfolding optimised in_sequence one_after_another before_tail tail stages headed_by pushed appended merged arrs before_constant arr_view constant_view in_parallel side_by_side fanned_out both_on on_a_side in_loop before_loop looped compose_sides exchange in_planned decided
in_recurring_applied = refl

-- in the part of a term with a function at its head
in_transformed_applied : (optimised (transformed x (joined InSequence identity f)) refl).term ≡ transformed x f
unfolding optimised in_sequence one_after_another before_tail tail stages headed_by pushed appended merged arrs before_constant arr_view constant_view in_parallel side_by_side fanned_out both_on on_a_side in_loop before_loop looped compose_sides exchange in_planned decided
in_transformed_applied = refl

-- and in the source and the observer of one that keeps its source
in_continuing_applied : (optimised (continuing Immediate (joined InSequence identity f) (joined InSequence f identity) [] unnamed (joined InSequence g identity)) refl).term ≡ continuing Immediate f f [] unnamed g
unfolding optimised in_sequence one_after_another before_tail tail stages headed_by pushed appended merged arrs before_constant arr_view constant_view in_parallel side_by_side fanned_out both_on on_a_side in_loop before_loop looped compose_sides exchange in_planned decided
in_continuing_applied = refl

-- and in the terms of collections and of edits
in_collections_applied : (optimised (editing Immediate (added (used []) one (joined InSequence identity f)) [] unnamed (added (used []) one (joined InSequence g identity))) refl).term
    ≡ editing Immediate (added (used []) one f) [] unnamed (added (used []) one g)
unfolding optimised optimised_collection in_sequence one_after_another before_tail tail stages headed_by pushed appended merged arrs before_constant arr_view constant_view in_parallel side_by_side fanned_out both_on on_a_side in_loop before_loop looped compose_sides exchange in_planned decided
in_collections_applied = refl

-- and in the term of an argument, which stays closed where a named process is left of it
in_argument_applied : (optimised (reference (call [] (process_argument (joined InSequence identity (reference (started Run []))) (process_argument (reference (started Fresh [])) no_arguments)))) refl).term
    ≡ reference (call [] (closed_argument (reference (started Run [])) (process_argument (reference (started Fresh [])) no_arguments)))
unfolding optimised optimised_arguments with_argument closing in_sequence one_after_another before_tail tail stages headed_by pushed appended merged arrs before_constant arr_view constant_view in_parallel side_by_side fanned_out both_on on_a_side in_loop before_loop looped compose_sides exchange in_planned decided
in_argument_applied = refl
