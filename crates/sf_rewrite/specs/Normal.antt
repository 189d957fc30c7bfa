-- The form of a plan: no `>>>` is left, no stage of a pipeline is a pipeline or the identity, and no two neighbours are `arr`.
use Rattle.std.specs.Prelude.{Bool, true, false, ◌&&◌, IsTrue}
use Rattle.sf_value.specs.Values.{Name, KeyKind, Kind}
use Rattle.sf_expr.specs.Expressions.{Pattern, Expression, Function}
use Rattle.sf_term.specs.declared.form.Bare.TheVariants.{Identity, LocalTime, Integral, Edge, NotYet, Once, Count, Pre}
use Rattle.sf_term.specs.declared.form.Join.{Join}
use Rattle.sf_term.specs.declared.form.Join.TheVariants.{InSequence, InParallel, FannedOut}
use Rattle.sf_term.specs.declared.form.Side.{Side}
use Rattle.sf_term.specs.declared.form.Heading.{Heading}
use Rattle.sf_term.specs.declared.form.Observation.{Observation}
use Rattle.sf_term.specs.declared.form.Start.{Start}
use Rattle.sf_term.specs.declared.form.Switching.{Switching}
use Rattle.sf_term.specs.Trees.{Primitive, bare, probe, never, with_value, timed, selected, arrow, accumulated, fused, whole, rest, Term, primitive, Reference, reference, started, call, Arguments, no_arguments, value_argument, process_argument, closed_argument, joined, sided, headed, transformed, switching, continuing, staged, collection_argument, gathered, releasing, editing, Collection, without_members, used, added, dropped, kept, chosen}

-- `arr`, of one function or of functions made into one
abbrev pub is_arr : Term → Bool
is_arr (primitive (bare k)) = false
is_arr (primitive (probe k)) = false
is_arr (primitive (never t)) = false
is_arr (primitive (with_value k i)) = false
is_arr (primitive (arrow f)) = true
is_arr (primitive (timed k q i)) = false
is_arr (primitive (selected k n)) = false
is_arr (primitive (accumulated k i f)) = false
is_arr (primitive (fused f)) = true
is_arr (reference r) = false
is_arr (joined j f g) = false
is_arr (sided d t) = false
is_arr (headed h i t) = false
is_arr (transformed f t) = false
is_arr (switching w t p u) = false
is_arr (continuing w t q k p u) = false
is_arr (gathered i) = false
is_arr (releasing w i q k p u) = false
is_arr (editing w i k p u) = false
is_arr (staged x f g) = false

-- the joins that stay as they are: all but `>>>`
abbrev pub is_left : Join → Bool
is_left InSequence = false
is_left InParallel = true
is_left FannedOut = true

-- a stage is neither a pipeline nor the identity
abbrev pub is_stage : Term → Bool
is_stage (primitive (bare Identity)) = false
is_stage (primitive (bare LocalTime)) = true
is_stage (primitive (bare Integral)) = true
is_stage (primitive (bare Edge)) = true
is_stage (primitive (bare NotYet)) = true
is_stage (primitive (bare Once)) = true
is_stage (primitive (bare Count)) = true
is_stage (primitive (bare Pre)) = true
is_stage (primitive (probe k)) = true
is_stage (primitive (never t)) = true
is_stage (primitive (with_value k i)) = true
is_stage (primitive (arrow f)) = true
is_stage (primitive (timed k q i)) = true
is_stage (primitive (selected k n)) = true
is_stage (primitive (accumulated k i f)) = true
is_stage (primitive (fused f)) = true
is_stage (reference r) = true
is_stage (joined j f g) = is_left j
is_stage (sided d t) = true
is_stage (headed h i t) = true
is_stage (transformed f t) = true
is_stage (switching w t p u) = true
is_stage (continuing w t q k p u) = true
is_stage (gathered i) = true
is_stage (releasing w i q k p u) = true
is_stage (editing w i k p u) = true
is_stage (staged x f g) = false

-- two neighbours, where it is said of each whether it is `arr`
abbrev pub may_meet : Bool → Bool → Bool
may_meet true true = false
may_meet true false = true
may_meet false b = true

mutual
  -- A plan has no `>>>`, and the bodies and the terms of arguments and collections in it are plans. Its pipelines have two stages
  -- or more.
  pub data IsPlan : Term → Type 0 where
    plan_primitive : {p : Primitive} → IsPlan (primitive p)
    plan_started : {w : Start} {k : Name} → IsPlan (reference (started w k))
    plan_call : {g : Name} {vs : Arguments} → ArePlans vs → IsPlan (reference (call g vs))
    plan_join : {j : Join} {f g : Term} → IsTrue (is_left j) → IsPlan f → IsPlan g → IsPlan (joined j f g)
    plan_side : {d : Side} {t : Term} → IsPlan t → IsPlan (sided d t)
    plan_heading : {h : Heading} {i : Expression} {t : Term} → IsPlan t → IsPlan (headed h i t)
    plan_transformed : {f : Function} {t : Term} → IsPlan t → IsPlan (transformed f t)
    plan_switch : {w : Switching} {t u : Term} {p : Pattern} → IsPlan t → IsPlan u → IsPlan (switching w t p u)
    plan_continuing : {w : Observation} {t q u : Term} {k : Name} {p : Pattern} → IsPlan t → IsPlan q → IsPlan u → IsPlan (continuing w t q k p u)
    plan_gathered : {i : Collection} → IsPlanned i → IsPlan (gathered i)
    plan_releasing : {w : Observation} {i : Collection} {q u : Term} {k : Name} {p : Pattern} → IsPlanned i → IsPlan q → IsPlan u → IsPlan (releasing w i q k p u)
    plan_editing : {w : Observation} {i u : Collection} {k : Name} {p : Pattern} → IsPlanned i → IsPlanned u → IsPlan (editing w i k p u)
    plan_pipeline : {f r : Term} → IsPlan f → IsTrue (is_stage f) → IsRest f r → IsPlan (staged whole f r)

  -- the terms of a collection
  pub data IsPlanned : Collection → Type 0 where
    planned_without : {k : KeyKind} {t : Kind} → IsPlanned (without_members k t)
    planned_used : {x : Name} → IsPlanned (used x)
    planned_added : {i : Collection} {j : Expression} {t : Term} → IsPlanned i → IsPlan t → IsPlanned (added i j t)
    planned_dropped : {i : Collection} {j : Expression} → IsPlanned i → IsPlanned (dropped i j)
    planned_kept : {i : Collection} {f : Function} → IsPlanned i → IsPlanned (kept i f)
    planned_chosen : {j : Expression} {a b : Collection} → IsPlanned a → IsPlanned b → IsPlanned (chosen j a b)

  -- the terms of arguments
  pub data ArePlans : Arguments → Type 0 where
    plan_no_arguments : ArePlans no_arguments
    plan_value_argument : {i : Expression} {vs : Arguments} → ArePlans vs → ArePlans (value_argument i vs)
    plan_term_argument : {t : Term} {vs : Arguments} → IsPlan t → ArePlans vs → ArePlans (process_argument t vs)
    plan_collection_argument : {i : Collection} {vs : Arguments} → IsPlanned i → ArePlans vs → ArePlans (collection_argument i vs)
    plan_closed_argument : {t : Term} {vs : Arguments} → IsPlan t → ArePlans vs → ArePlans (closed_argument t vs)

  -- the rest of a pipeline after a stage: no two neighbours are `arr`
  pub data IsRest : Term → Term → Type 0 where
    last_stage : {f t : Term} → IsPlan t → IsTrue (is_stage t) → IsTrue (may_meet (is_arr f) (is_arr t)) → IsRest f t
    more_stages : {f t r : Term} → IsPlan t → IsTrue (is_stage t) → IsTrue (may_meet (is_arr f) (is_arr t)) → IsRest t r → IsRest f (staged rest t r)

-- a primitive of a network
abbrev pub is_written_primitive : Primitive → Bool
is_written_primitive (bare k) = true
is_written_primitive (probe k) = true
is_written_primitive (never t) = true
is_written_primitive (with_value k i) = true
is_written_primitive (arrow f) = true
is_written_primitive (timed k q i) = true
is_written_primitive (selected k n) = true
is_written_primitive (accumulated k i f) = true
is_written_primitive (fused f) = false

abbrev mutual
  -- a term of a network: no form of plans stands in it
  pub is_written : Term → Bool
  is_written (primitive p) = is_written_primitive p
  is_written (reference r) = is_written_reference r
  is_written (joined j f g) = is_written f && is_written g
  is_written (sided d t) = is_written t
  is_written (headed h i t) = is_written t
  is_written (transformed f t) = is_written t
  is_written (switching w t p u) = is_written t && is_written u
  is_written (continuing w t q k p u) = is_written t && (is_written q && is_written u)
  is_written (gathered i) = collects_written i
  is_written (releasing w i q k p u) = collects_written i && (is_written q && is_written u)
  is_written (editing w i k p u) = collects_written i && collects_written u
  is_written (staged x f g) = false

  -- the same of the terms of a collection
  pub collects_written : Collection → Bool
  collects_written (without_members k t) = true
  collects_written (used x) = true
  collects_written (added i j t) = collects_written i && is_written t
  collects_written (dropped i j) = collects_written i
  collects_written (kept i f) = collects_written i
  collects_written (chosen j a b) = collects_written a && collects_written b

  -- the same of what is referred to
  pub is_written_reference : Reference → Bool
  is_written_reference (started w k) = true
  is_written_reference (call g vs) = are_written vs

  -- the same of the terms of arguments
  pub are_written : Arguments → Bool
  are_written no_arguments = true
  are_written (value_argument i vs) = are_written vs
  are_written (process_argument t vs) = is_written t && are_written vs
  are_written (collection_argument i vs) = collects_written i && are_written vs
  are_written (closed_argument t vs) = false
