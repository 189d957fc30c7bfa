-- The laws of rewriting, as a relation on terms.
use Rattle.std.specs.Prelude.{◌⊎◌, IsTrue}
use Rattle.sf_expr.specs.Expressions.{Pattern, Expression, Function}
use Rattle.sf_term.specs.declared.form.Bare.TheVariants.{Identity}
use Rattle.sf_term.specs.declared.form.WithValue.TheVariants.{Constant}
use Rattle.sf_term.specs.declared.form.Join.{Join}
use Rattle.sf_term.specs.declared.form.Join.TheVariants.{InSequence, InParallel, FannedOut}
use Rattle.sf_term.specs.declared.form.Side.{Side}
use Rattle.sf_term.specs.declared.form.Side.TheVariants.{First}
use Rattle.sf_term.specs.declared.form.Heading.{Heading}
use Rattle.sf_term.specs.declared.form.Heading.TheVariants.{LoopPre}
use Rattle.sf_term.specs.declared.form.Switching.{Switching}
use Rattle.sf_term.specs.Trees.{Chain, lone, chained, on_side, on_both, fanned, bare, with_value, arrow, fused, Extent, whole, rest, Term, primitive, joined, sided, headed, transformed, switching, staged}
use Rattle.sf_rewrite.specs.Quiet.{is_quiet_expression, is_quiet}

-- `identity`
abbrev pub identity : Term
identity = primitive (bare Identity)

-- `constant` of an expression
abbrev pub constant : Expression → Term
constant i = primitive (with_value Constant i)

-- `arr` of functions made into one
abbrev pub arr : Chain → Term
arr f = primitive (fused f)

-- `loopPre` with an expression for the first value that is fed back
abbrev pub loop_pre : Expression → Term → Term
loop_pre i t = headed LoopPre i t

-- A term is made into another by laws, in its text and in bodies. Both mean the same, and the second costs no more.
pub data Laws : Term → Term → Type 0 where
  -- no law, one after another, and in the parts of a form
  unchanged : {t : Term} → Laws t t
  in_turn : {t u v : Term} → Laws t u → Laws u v → Laws t v
  in_join : {j : Join} {f f' g g' : Term} → Laws f f' → Laws g g' → Laws (joined j f g) (joined j f' g')
  in_stages : {x : Extent} {f f' g g' : Term} → Laws f f' → Laws g g' → Laws (staged x f g) (staged x f' g')
  in_side : {d : Side} {t t' : Term} → Laws t t' → Laws (sided d t) (sided d t')
  in_heading : {h : Heading} {i : Expression} {t t' : Term} → Laws t t' → Laws (headed h i t) (headed h i t')
  in_transformed : {f : Function} {t t' : Term} → Laws t t' → Laws (transformed f t) (transformed f t')
  in_switch : {w : Switching} {t t' u u' : Term} {p : Pattern} → Laws t t' → Laws u u' → Laws (switching w t p u) (switching w t' p u')
  -- `>>>` is a pipeline of two stages; a pipeline that is a stage of another is written as the rest of one
  as_pipeline : {f g : Term} → Laws (joined InSequence f g) (staged whole f g)
  within_pipeline : {f g : Term} → Laws (staged whole f g) (staged rest f g)
  -- a function is written as a chain of one
  arr_as_chain : {f : Function} → Laws (primitive (arrow f)) (arr (lone f))
  chain_as_arr : {f : Function} → Laws (arr (lone f)) (primitive (arrow f))
  -- ## The twelve laws. A pipeline of f and g is written `f >>> g`.

  -- left identity: `identity >>> f` is `f`
  identity_before : {x : Extent} {f : Term} → Laws (staged x identity f) f
  -- right identity: `f >>> identity` is `f`
  identity_after : {x : Extent} {f : Term} → Laws (staged x f identity) f
  -- associativity: `(f >>> g) >>> h` is `f >>> (g >>> h)`
  associate_right : {x : Extent} {f g h : Term} → Laws (staged x (staged rest f g) h) (staged x f (staged rest g h))
  associate_left : {x : Extent} {f g h : Term} → Laws (staged x f (staged rest g h)) (staged x (staged rest f g) h)
  -- composition: `arr f >>> arr g` is `arr` of g after f
  arr_composed : {x : Extent} {f g : Chain} → Laws (staged x (arr f) (arr g)) (arr (chained f g))
  -- extension, a law for `first` and one for `second`: `first (arr f)` is `arr` of f on the first part of a pair
  arr_on_side : {d : Side} {f : Chain} → Laws (sided d (arr f)) (arr (on_side d f))
  -- `arr f *** arr g` is `arr` of f and g, each on its part of a pair
  arr_in_parallel : {f g : Chain} → Laws (joined InParallel (arr f) (arr g)) (arr (on_both f g))
  -- `arr f &&& arr g` is `arr` of f and g, both on the input
  arr_fanned_out : {f g : Chain} → Laws (joined FannedOut (arr f) (arr g)) (arr (fanned f g))
  -- functor: `first f >>> first g` is `first (f >>> g)`, and likewise for `second`
  sides_composed : {d : Side} {f g : Term} → Laws (staged whole (sided d f) (sided d g)) (sided d (staged whole f g))
  -- exchange: `(f *** g) >>> (h *** k)` is `(f >>> h) *** (g >>> k)`, where one of the two that change places, g and h, is quiet
  exchanged : {f g h k : Term} → IsTrue (is_quiet g) ⊎ IsTrue (is_quiet h)
      → Laws (staged whole (joined InParallel f g) (joined InParallel h k)) (joined InParallel (staged whole f h) (staged whole g k))
  -- a constant forgets its input: `f >>> constant v` is `constant v`, where f is quiet
  constant_after : {x : Extent} {f : Term} {i : Expression} → IsTrue (is_quiet f) → Laws (staged x f (constant i)) (constant i)
  -- left tightening: `loopPre v (first f >>> g)` is `f >>> loopPre v g`, where one of the two that change places, v and f, is quiet
  left_tightened : {i : Expression} {f g : Term} → IsTrue (is_quiet_expression i) ⊎ IsTrue (is_quiet f)
      → Laws (loop_pre i (staged whole (sided First f) g)) (staged whole f (loop_pre i g))
  -- right tightening: `loopPre v (g >>> first h)` is `loopPre v g >>> h`
  right_tightened : {i : Expression} {g h : Term} → Laws (loop_pre i (staged whole g (sided First h))) (staged whole (loop_pre i g) h)
