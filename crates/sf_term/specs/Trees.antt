-- Networks as trees.
use Rattle.std.specs.Prelude.{ℕ, suc, ◌+◌, max, ℤ, List, [], ◌∷◌, cond, Option, Some, None, bytes_eq}
use Rattle.sf_value.specs.Values.{Name, KeyKind, Kind}
use Rattle.sf_expr.specs.Expressions.{Pattern, Expression, Function, pattern_depth, function_depth, function_size, depth, size}
use Rattle.sf_term.specs.declared.form.Bare.{Bare}
use Rattle.sf_term.specs.declared.form.WithValue.{WithValue}
use Rattle.sf_term.specs.declared.form.WithValue.TheVariants.{Constant, Initially, InitialPre, InitializedPre, Now, InitialEdge, EdgeTag, Hold, DelayedHold}
use Rattle.sf_term.specs.declared.form.Accumulation.{Accumulation}
use Rattle.sf_term.specs.declared.form.Timing.{Timing}
use Rattle.sf_term.specs.declared.form.Selection.{Selection}
use Rattle.sf_term.specs.declared.form.Join.{Join}
use Rattle.sf_term.specs.declared.form.Side.{Side}
use Rattle.sf_term.specs.declared.form.Heading.{Heading}
use Rattle.sf_term.specs.declared.form.Observation.{Observation}
use Rattle.sf_term.specs.declared.form.Start.{Start}
use Rattle.sf_term.specs.declared.form.Naming.{Naming}
use Rattle.sf_term.specs.declared.form.Naming.TheVariants.{Process, Probe}
use Rattle.sf_term.specs.declared.form.Switching.{Switching}
use Rattle.sf_term.specs.Parameters.{Bindings}

-- Functions made into one: one after another, on one part of a pair, each on its part of a pair, both on the input.
pub data Chain : Type 0 where
  lone : Function → Chain
  chained : Chain → Chain → Chain
  on_side : Side → Chain → Chain
  on_both : Chain → Chain → Chain
  fanned : Chain → Chain → Chain

-- primitives: without constants, with a name, with a type, with a value, with a time and a value, with a function, or with a value and a function; and, in plans alone, with functions made into one
pub data Primitive : Type 0 where
  bare : Bare → Primitive
  probe : Name → Primitive
  never : Kind → Primitive
  with_value : WithValue → Expression → Primitive
  timed : Timing → ℤ → Expression → Primitive
  selected : Selection → ℤ → Primitive
  arrow : Function → Primitive
  accumulated : Accumulation → Expression → Function → Primitive
  fused : Chain → Primitive

-- a whole pipeline, or the rest of one after some of its stages
pub data Extent : Type 0 where
  whole : Extent
  rest : Extent

mutual
  -- terms: primitives, a process in whose place a name stands, two terms joined, a term on one side of a pair, a term with an
  -- expression or a function at its head, a term that gives way to another inside a pattern, and one that does so at the event of a second
  -- term and is then known by a name; the members of a collection, members that give way to a term and are then known by a
  -- name, and members that are known by a name to what edits them;
  -- and, in plans alone, a stage before the rest of its pipeline
  pub data Term : Type 0 where
    primitive : Primitive → Term
    reference : Reference → Term
    joined : Join → Term → Term → Term
    sided : Side → Term → Term
    headed : Heading → Expression → Term → Term
    transformed : Function → Term → Term
    switching : Switching → Term → Pattern → Term → Term
    continuing : Observation → (source observer : Term) → Name → Pattern → Term → Term
    gathered : Collection → Term
    releasing : Observation → Collection → (observer : Term) → Name → Pattern → Term → Term
    editing : Observation → Collection → Name → Pattern → (edit : Collection) → Term
    staged : Extent → Term → Term → Term

  -- Collections: one without members, of processes with outputs of a type under keys of a type; that of a name; one with a term
  -- added under a key; one without what stands under a key; one with those whose keys a function keeps; one of two.
  pub data Collection : Type 0 where
    without_members : KeyKind → Kind → Collection
    used : Name → Collection
    added : Collection → (key : Expression) → Term → Collection
    dropped : Collection → (key : Expression) → Collection
    kept : Collection → Function → Collection
    chosen : Expression → Collection → Collection → Collection

  -- what stands in the place of a process: its name, with where it begins, or a call of a template with arguments
  pub data Reference : Type 0 where
    started : Start → Name → Reference
    call : Name → Arguments → Reference

  -- the arguments of a call, first to last: values, terms that are processes, or collections;
  -- and, in plans alone, a term that is closed in the environment of its call, whatever it is
  pub data Arguments : Type 0 where
    no_arguments : Arguments
    value_argument : Expression → Arguments → Arguments
    process_argument : Term → Arguments → Arguments
    collection_argument : Collection → Arguments → Arguments
    closed_argument : Term → Arguments → Arguments

-- a form that is a name alone
abbrev pub named_term : Naming → Name → Term
named_term (Process w) k = reference (started w k)
named_term Probe k = primitive (probe k)

-- a template: its name, the names of its parameters with what they stand for, the types of its header and its term
pub record Template : Type 0 where
  pub name : Name
  pub parameters : Bindings
  pub input : Kind
  pub output : Kind
  pub body : Term

-- the templates of a network, in the order of its text
abbrev pub Templates : Type 0
Templates = List Template

-- the first template of a name
abbrev pub template_named : Name → Templates → Option Template
template_named x [] = None
template_named x (t ∷ ts) = cond (bytes_eq x t.name) (Some t) (template_named x ts)

-- how many expressions and patterns stand one inside another in a primitive; the forms of plans are deeper than each text
abbrev pub primitive_depth : Primitive → ℕ
primitive_depth (bare k) = 0
primitive_depth (probe k) = 0
primitive_depth (never t) = 0
primitive_depth (with_value k e) = depth e
primitive_depth (timed k q e) = depth e
primitive_depth (selected k n) = 0
primitive_depth (arrow f) = function_depth f
primitive_depth (accumulated k e f) = max (depth e) (function_depth f)
primitive_depth (fused f) = 64

abbrev mutual
  -- how many terms and expressions stand one inside another; the forms of plans are deeper than each text
  pub term_depth : Term → ℕ
  term_depth (primitive p) = suc (primitive_depth p)
  term_depth (reference r) = suc (reference_depth r)
  term_depth (joined j f g) = suc (max (term_depth f) (term_depth g))
  term_depth (sided d t) = suc (term_depth t)
  term_depth (headed h e t) = suc (max (depth e) (term_depth t))
  term_depth (transformed f t) = suc (max (function_depth f) (term_depth t))
  term_depth (switching w t p u) = suc (max (max (term_depth t) (term_depth u)) (pattern_depth p))
  term_depth (continuing w t q k p u) = suc (max (max (max (term_depth t) (term_depth q)) (term_depth u)) (pattern_depth p))
  term_depth (gathered i) = suc (collection_depth i)
  term_depth (releasing w i q k p u) = suc (max (max (max (collection_depth i) (term_depth q)) (term_depth u)) (pattern_depth p))
  term_depth (editing w i k p u) = suc (max (max (collection_depth i) (collection_depth u)) (pattern_depth p))
  term_depth (staged x f g) = 65

  -- the same of a collection
  pub collection_depth : Collection → ℕ
  collection_depth (without_members k t) = 1
  collection_depth (used x) = 1
  collection_depth (added i j t) = suc (max (max (collection_depth i) (depth j)) (term_depth t))
  collection_depth (dropped i j) = suc (max (collection_depth i) (depth j))
  collection_depth (kept i f) = suc (max (collection_depth i) (function_depth f))
  collection_depth (chosen j a b) = suc (max (max (depth j) (collection_depth a)) (collection_depth b))

  -- the same within a reference
  pub reference_depth : Reference → ℕ
  reference_depth (started w k) = 0
  reference_depth (call g vs) = arguments_depth vs

  -- the same in arguments
  pub arguments_depth : Arguments → ℕ
  arguments_depth no_arguments = 0
  arguments_depth (value_argument e vs) = max (depth e) (arguments_depth vs)
  arguments_depth (process_argument t vs) = max (term_depth t) (arguments_depth vs)
  arguments_depth (collection_argument i vs) = max (collection_depth i) (arguments_depth vs)
  arguments_depth (closed_argument t vs) = 64

-- how many terms a primitive with a value is made of: in `-->(e, pre)`, `pre` is one too
abbrev pub terms_with_value : WithValue → ℕ
terms_with_value Constant = 1
terms_with_value Initially = 1
terms_with_value InitialPre = 1
terms_with_value InitializedPre = 2
terms_with_value Now = 1
terms_with_value InitialEdge = 1
terms_with_value EdgeTag = 1
terms_with_value Hold = 1
terms_with_value DelayedHold = 1

-- how many terms a primitive is made of
abbrev pub terms_in_primitive : Primitive → ℕ
terms_in_primitive (bare k) = 1
terms_in_primitive (probe k) = 1
terms_in_primitive (never t) = 1
terms_in_primitive (with_value k e) = terms_with_value k
terms_in_primitive (timed k q e) = 1
terms_in_primitive (selected k n) = 1
terms_in_primitive (arrow f) = 1
terms_in_primitive (accumulated k e f) = 1
terms_in_primitive (fused f) = 1

abbrev mutual
  -- how many terms a term is made of
  pub terms_in : Term → ℕ
  terms_in (primitive p) = terms_in_primitive p
  terms_in (reference r) = suc (terms_referred r)
  terms_in (joined j f g) = suc (terms_in f + terms_in g)
  terms_in (sided d t) = suc (terms_in t)
  terms_in (headed h e t) = suc (terms_in t)
  terms_in (transformed f t) = suc (terms_in t)
  terms_in (switching w t p u) = suc (terms_in t + terms_in u)
  terms_in (continuing w t q k p u) = suc (terms_in t + terms_in q + terms_in u)
  terms_in (gathered i) = suc (terms_collected i)
  terms_in (releasing w i q k p u) = suc (terms_collected i + terms_in q + terms_in u)
  terms_in (editing w i k p u) = suc (terms_collected i + terms_collected u)
  terms_in (staged x f g) = suc (terms_in f + terms_in g)

  -- how many terms stand in a collection
  pub terms_collected : Collection → ℕ
  terms_collected (without_members k t) = 0
  terms_collected (used x) = 0
  terms_collected (added i j t) = terms_collected i + terms_in t
  terms_collected (dropped i j) = terms_collected i
  terms_collected (kept i f) = terms_collected i
  terms_collected (chosen j a b) = terms_collected a + terms_collected b

  -- how many terms stand within a reference
  pub terms_referred : Reference → ℕ
  terms_referred (started w k) = 0
  terms_referred (call g vs) = terms_in_arguments vs

  -- how many terms stand in arguments
  pub terms_in_arguments : Arguments → ℕ
  terms_in_arguments no_arguments = 0
  terms_in_arguments (value_argument e vs) = terms_in_arguments vs
  terms_in_arguments (process_argument t vs) = terms_in t + terms_in_arguments vs
  terms_in_arguments (collection_argument i vs) = terms_collected i + terms_in_arguments vs
  terms_in_arguments (closed_argument t vs) = terms_in t + terms_in_arguments vs

-- how many expressions stand in a primitive
abbrev pub expressions_in_primitive : Primitive → ℕ
expressions_in_primitive (bare k) = 0
expressions_in_primitive (probe k) = 0
expressions_in_primitive (never t) = 0
expressions_in_primitive (with_value k e) = size e
expressions_in_primitive (timed k q e) = size e
expressions_in_primitive (selected k n) = 0
expressions_in_primitive (arrow f) = function_size f
expressions_in_primitive (accumulated k e f) = size e + function_size f
expressions_in_primitive (fused f) = 0

abbrev mutual
  -- how many expressions stand in a term
  pub expressions_in : Term → ℕ
  expressions_in (primitive p) = expressions_in_primitive p
  expressions_in (reference r) = expressions_referred r
  expressions_in (joined j f g) = expressions_in f + expressions_in g
  expressions_in (sided d t) = expressions_in t
  expressions_in (headed h e t) = size e + expressions_in t
  expressions_in (transformed f t) = function_size f + expressions_in t
  expressions_in (switching w t p u) = expressions_in t + expressions_in u
  expressions_in (continuing w t q k p u) = expressions_in t + expressions_in q + expressions_in u
  expressions_in (gathered i) = expressions_collected i
  expressions_in (releasing w i q k p u) = expressions_collected i + expressions_in q + expressions_in u
  expressions_in (editing w i k p u) = expressions_collected i + expressions_collected u
  expressions_in (staged x f g) = expressions_in f + expressions_in g

  -- how many expressions stand in a collection
  pub expressions_collected : Collection → ℕ
  expressions_collected (without_members k t) = 0
  expressions_collected (used x) = 0
  expressions_collected (added i j t) = expressions_collected i + size j + expressions_in t
  expressions_collected (dropped i j) = expressions_collected i + size j
  expressions_collected (kept i f) = expressions_collected i + function_size f
  expressions_collected (chosen j a b) = size j + expressions_collected a + expressions_collected b

  -- how many expressions stand within a reference
  pub expressions_referred : Reference → ℕ
  expressions_referred (started w k) = 0
  expressions_referred (call g vs) = expressions_in_arguments vs

  -- how many expressions stand in arguments
  pub expressions_in_arguments : Arguments → ℕ
  expressions_in_arguments no_arguments = 0
  expressions_in_arguments (value_argument e vs) = size e + expressions_in_arguments vs
  expressions_in_arguments (process_argument t vs) = expressions_in t + expressions_in_arguments vs
  expressions_in_arguments (collection_argument i vs) = expressions_collected i + expressions_in_arguments vs
  expressions_in_arguments (closed_argument t vs) = expressions_in t + expressions_in_arguments vs
