-- Which of the names around it a term mentions, for values or for processes: those that stand in its text outside of what binds
-- them.
use Rattle.std.specs.Prelude.{◌≡◌, ◌≢◌, ◌⊎◌, ⊤}
use Rattle.sf_value.specs.Values.{Name}
use Rattle.sf_expr.specs.Expressions.{Pattern, unnamed, named, both, Expression, variable, literal, paired, applied, operation, conditional, mapped, folded, called, Function, function}
use Rattle.sf_term.specs.Trees.{Chain, lone, chained, on_side, on_both, fanned, Primitive, bare, probe, never, with_value, timed, selected, arrow, accumulated, fused, Term, primitive, Reference, reference, started, call, Arguments, no_arguments, value_argument, process_argument, collection_argument, closed_argument, joined, sided, headed, transformed, switching, continuing, gathered, releasing, editing, staged, Collection, without_members, used, added, dropped, kept, chosen}

-- a pattern binds other names than this one
abbrev pub BindsOthers : Pattern → Name → Type 0
BindsOthers unnamed x = ⊤
BindsOthers (named y) x = y ≢ x
BindsOthers (both p q) x = BindsOthers p x × BindsOthers q x

-- An expression mentions a name: as a variable, and in a function inside it where the function's pattern binds others.
abbrev pub ExpressionMentions : Expression → Name → Type 0
ExpressionMentions (variable y) x = y ≡ x
ExpressionMentions (literal l) x = ⊥
ExpressionMentions (paired i j) x = ExpressionMentions i x ⊎ ExpressionMentions j x
ExpressionMentions (applied o i) x = ExpressionMentions i x
ExpressionMentions (operation i o j) x = ExpressionMentions i x ⊎ ExpressionMentions j x
ExpressionMentions (conditional i j k) x = ExpressionMentions i x ⊎ (ExpressionMentions j x ⊎ ExpressionMentions k x)
ExpressionMentions (mapped i m p j) x = ExpressionMentions i x ⊎ (ExpressionMentions j x × BindsOthers p x)
ExpressionMentions (folded i o j p k) x = ExpressionMentions i x ⊎ (ExpressionMentions j x ⊎ (ExpressionMentions k x × BindsOthers p x))
ExpressionMentions (called g i) x = ExpressionMentions i x

-- so does a function
abbrev pub FunctionMentions : Function → Name → Type 0
FunctionMentions (function p i) x = ExpressionMentions i x × BindsOthers p x

-- so do functions made into one
abbrev pub ChainMentions : Chain → Name → Type 0
ChainMentions (lone f) x = FunctionMentions f x
ChainMentions (chained f g) x = ChainMentions f x ⊎ ChainMentions g x
ChainMentions (on_side d f) x = ChainMentions f x
ChainMentions (on_both f g) x = ChainMentions f x ⊎ ChainMentions g x
ChainMentions (fanned f g) x = ChainMentions f x ⊎ ChainMentions g x

-- A primitive mentions the names of its expression and its function. What a probe is called stands for nothing.
abbrev pub PrimitiveMentions : Primitive → Name → Type 0
PrimitiveMentions (bare k) x = ⊥
PrimitiveMentions (probe k) x = ⊥
PrimitiveMentions (never t) x = ⊥
PrimitiveMentions (with_value k i) x = ExpressionMentions i x
PrimitiveMentions (timed k q i) x = ExpressionMentions i x
PrimitiveMentions (selected k n) x = ⊥
PrimitiveMentions (arrow f) x = FunctionMentions f x
PrimitiveMentions (accumulated k i f) x = ExpressionMentions i x ⊎ FunctionMentions f x
PrimitiveMentions (fused f) x = ChainMentions f x

abbrev mutual
  -- A term mentions a name, in the body of a switch and in an edit where neither the pattern nor the name of what is kept is
  -- this one.
  pub Mentions : Term → Name → Type 0
  Mentions (primitive p) x = PrimitiveMentions p x
  Mentions (reference r) x = ReferenceMentions r x
  Mentions (joined j f g) x = Mentions f x ⊎ Mentions g x
  Mentions (sided d t) x = Mentions t x
  Mentions (headed h i t) x = ExpressionMentions i x ⊎ Mentions t x
  Mentions (transformed f t) x = FunctionMentions f x ⊎ Mentions t x
  Mentions (switching w t p u) x = Mentions t x ⊎ (Mentions u x × BindsOthers p x)
  Mentions (continuing w t q k p u) x = Mentions t x ⊎ (Mentions q x ⊎ (Mentions u x × BindsOthers p x × k ≢ x))
  Mentions (gathered i) x = CollectionMentions i x
  Mentions (releasing w i q k p u) x = CollectionMentions i x ⊎ (Mentions q x ⊎ (Mentions u x × BindsOthers p x × k ≢ x))
  Mentions (editing w i k p u) x = CollectionMentions i x ⊎ (CollectionMentions u x × BindsOthers p x × k ≢ x)
  Mentions (staged e f g) x = Mentions f x ⊎ Mentions g x

  -- a collection mentions the name whose members it takes, and what its keys, its conditions, its functions and its terms do
  pub CollectionMentions : Collection → Name → Type 0
  CollectionMentions (without_members k t) x = ⊥
  CollectionMentions (used y) x = y ≡ x
  CollectionMentions (added i j t) x = CollectionMentions i x ⊎ (ExpressionMentions j x ⊎ Mentions t x)
  CollectionMentions (dropped i j) x = CollectionMentions i x ⊎ ExpressionMentions j x
  CollectionMentions (kept i f) x = CollectionMentions i x ⊎ FunctionMentions f x
  CollectionMentions (chosen j a b) x = ExpressionMentions j x ⊎ (CollectionMentions a x ⊎ CollectionMentions b x)

  -- `run k` and `fresh k` mention k; a call mentions what its arguments mention, since the template has names of its own
  pub ReferenceMentions : Reference → Name → Type 0
  ReferenceMentions (started w k) x = k ≡ x
  ReferenceMentions (call g vs) x = ArgumentsMention vs x

  pub ArgumentsMention : Arguments → Name → Type 0
  ArgumentsMention no_arguments x = ⊥
  ArgumentsMention (value_argument i vs) x = ExpressionMentions i x ⊎ ArgumentsMention vs x
  ArgumentsMention (process_argument t vs) x = Mentions t x ⊎ ArgumentsMention vs x
  ArgumentsMention (collection_argument i vs) x = CollectionMentions i x ⊎ ArgumentsMention vs x
  ArgumentsMention (closed_argument t vs) x = Mentions t x ⊎ ArgumentsMention vs x
