-- What is told of what differs.
use Rattle.std.proofs.Common.{◌≡◌, Option, Some, None, Result, Ok, Err, IfOk, IfErr, IsErrAnd, sym, subst}
use Rattle.sf_value.specs.Values.{Kind}
use Rattle.sf_refusal.specs.declared.spot.Spot.{Spot}
use Rattle.sf_refusal.specs.declared.refusal.Refusal.{Refusal}
use Rattle.sf_refusal.specs.declared.refusal.Refusal.TheVariants as refusals
use Rattle.sf_expr.specs.declared.exprs.ExprId.{ExprId}
use Rattle.sf_expr.specs.declared.exprs.ExprNode.{ExprNode}
use Rattle.sf_expr.specs.declared.exprs.Exprs.{Exprs}
use Rattle.sf_expr.specs.Arena.{node_at, spot_at}
use Rattle.sf_expr.specs.Expressions.{Pattern, Expression, function}
use Rattle.sf_expr.specs.Patterns.{PlacedPattern, pattern_of}
use Rattle.sf_expr.specs.Typing.{Names, Binds, HasType, FunctionTakes, function_takes}
use Rattle.sf_differ.specs.declared.difference.Wanted.{Wanted}
use Rattle.sf_differ.specs.declared.difference.Difference.{Difference}
use Rattle.sf_differ.specs.declared.blame.Blame.{Blame}
use Rattle.sf_differ.specs.declared.blame.Blame.TheVariants.{Differs, Silent, Memory}
use Rattle.sf_differ.specs.Differences.{SuitsAny, WantsAny, IsOther, DiffersAt, Explains, tells, tells_nothing, lacks_room, left_unsaid}
use Rattle.sf_differ.specs.Differing.{PatternDiffers, NodeDiffers, ReachesPart, ExpressionDiffers, differs_itself, differs_within, BoundDiffers, bound_pattern, bound_body}

-- what follows from what is told
pub told_as : {P Q : Difference → Type 0} {b : Blame} → ((d : Difference) → P d → Q d) → Explains P b → Explains Q b
told_as f (tells {d = d} h) = tells (f d h)
told_as f tells_nothing = tells_nothing
told_as f lacks_room = lacks_room

-- what is told to differ does so
pub told_so : {P : Difference → Type 0} {b : Blame} {d : Difference} → b ≡ Differs d → Explains P b → P d
told_so {P} {d = d} is h = each (subst (Explains P) is h)
  where
    each : {d : Difference} → Explains P (Differs d) → P d
    each (tells k) = k

-- what a `?` returns
pub told_on : {A : Type 0} {P : Difference → Type 0} (answer : Result A Blame) (b : Blame) → IsErrAnd answer (λ e. e ≡ b) → Explains P b → IfErr answer (λ e. Explains P e)
told_on (Ok x) b is h = tt
told_on {P = P} (Err e) b is h = subst (Explains P) (sym is) h

-- what a `?` returns where memory was wanting
pub room_on : {A : Type 0} (P : Difference → Type 0) (answer : Result A Blame) → IsErrAnd answer (λ e. e ≡ Memory) → IfErr answer (λ e. Explains P e)
room_on P answer is = told_on answer Memory is lacks_room

-- what it returns where typing is refused
pub unsaid_on : {A : Type 0} (P : Difference → Type 0) (answer : Result A Blame) (r : Refusal) → IsErrAnd answer (λ e. e ≡ left_unsaid r) → IfErr answer (λ e. Explains P e)
unsaid_on P answer (refusals.Broken b) is = told_on answer Silent is tells_nothing
unsaid_on P answer refusals.Memory is = told_on answer Memory is lacks_room

module _ (can : Kind → Type 0) (o : Option Wanted) (wants : WantsAny can o) where
  -- a type differs where it is none of those that are wanted
  pub differs_from : {s : Spot} {t : Kind} {d : Difference} → IsOther o s t d → DiffersAt can s t d
  differs_from h = record { at = h.at; found = h.found; wants = subst (WantsAny can) h.wanted wants; other = h.other }

  -- so it does where these are the same
  pub differs_with : (q : Option Wanted) → q ≡ o → {s : Spot} {t : Kind} {d : Difference} → IsOther q s t d → DiffersAt can s t d
  differs_with q same {s} {t} {d} h = differs_from (subst (λ q. IsOther q s t d) same h)

-- a type can stand where it is one of those
pub suited_can : (can : Kind → Type 0) (o q : Option Wanted) (t : Kind) → WantsAny can o → q ≡ o → SuitsAny q t → can t
suited_can can o q t wants same suits = each o wants (subst (λ o. SuitsAny o t) same suits)
  where
    each : (o : Option Wanted) → WantsAny can o → SuitsAny o t → can t
    each None wants suits = wants t
    each (Some w) wants suits = wants.all t suits

-- what is said of an answer
pub ok_as : {A E : Type 0} {P Q : A → Type 0} (r : Result A E) → ((a : A) → P a → Q a) → IfOk r P → IfOk r Q
ok_as (Ok x) f h = f x h
ok_as (Err e) f h = tt

-- an expression behind a pattern, of a function that takes values
pub function_behind : {R : Names} {p q : PlacedPattern} {i : Expression} {a u : Kind} → p ≡ q → FunctionTakes R (function (pattern_of p) i) a u → (S : Names) × Binds (pattern_of q) a R S × HasType S i u
function_behind {R} {i = i} {a = a} {u = u} same h = each (subst (λ p. FunctionTakes R (function (pattern_of p) i) a u) same h)
  where
    each : {p : Pattern} {i : Expression} {a u : Kind} → FunctionTakes R (function p i) a u → (S : Names) × Binds p a R S × HasType S i u
    each (function_takes {S = S} fits binds h) = (S, binds, h)

module _ (x : Exprs) (R : Names) (i : ExprId) (n : ExprNode) (is : node_at x i ≡ n) where
  -- a part differs
  pub part_told : {S : Names} {j : ExprId} {b : Blame} → ReachesPart x R n S j → Explains (ExpressionDiffers x S j) b → Explains (ExpressionDiffers x R i) b
  part_told {S} {j} reached h = told_as (λ d k. differs_within (subst (λ m. ReachesPart x R m S j) (sym is) reached) k) h

  -- the form itself differs
  pub form_told : {Q : Difference → Type 0} {b : Blame} (s : Spot) → s ≡ spot_at x i → ((d : Difference) → Q d → NodeDiffers x R s n d) → Explains Q b → Explains (ExpressionDiffers x R i) b
  form_told s at f h = told_as (λ d k. differs_itself (subst (λ m. NodeDiffers x R (spot_at x i) m d) (sym is) (subst (λ s. NodeDiffers x R s n d) at (f d k)))) h

  -- a type in a place of the form differs
  module _ (can : Kind → Type 0) (o q : Option Wanted) (wants : WantsAny can o) (same : q ≡ o) (s : Spot) (at : s ≡ spot_at x i) (t : Kind) (differs : (d : Difference) → DiffersAt can s t d → NodeDiffers x R s n d) where
    pub suited_told : {b : Blame} → Explains (IsOther q s t) b → Explains (ExpressionDiffers x R i) b
    suited_told h = form_told s at (λ d k. differs d (differs_from can o wants (subst (λ q. IsOther q s t d) same k))) h

    pub suited_last : {A : Type 0} (r : Result A Blame) → IfErr r (λ b. Explains (IsOther q s t) b) → IfErr r (λ b. Explains (ExpressionDiffers x R i) b)
    suited_last (Ok y) h = tt
    suited_last (Err b) h = suited_told h

  -- what stands behind a pattern differs
  pub bound_told : {b : Blame} (s : Spot) → s ≡ spot_at x i → (p q : PlacedPattern) → p ≡ q → (j : ExprId) (a : Kind)
      → ((d : Difference) → PatternDiffers q a s d → NodeDiffers x R s n d) → ((S : Names) → Binds (pattern_of q) a R S → ReachesPart x R n S j)
      → Explains (BoundDiffers x R p j a s) b → Explains (ExpressionDiffers x R i) b
  bound_told s at p q same j a differs reached h = told_as (λ d k. each d (subst (λ p. BoundDiffers x R p j a s d) same k)) h
    where
      each : (d : Difference) → BoundDiffers x R q j a s d → ExpressionDiffers x R i d
      each d (bound_pattern k) = differs_itself (subst (λ m. NodeDiffers x R (spot_at x i) m d) (sym is) (subst (λ s. NodeDiffers x R s n d) at (differs d k)))
      each d (bound_body {S = S} binds k) = differs_within (subst (λ m. ReachesPart x R m S j) (sym is) (reached S binds)) k
