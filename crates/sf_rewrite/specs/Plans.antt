-- The plans of networks.
use Rattle.std.specs.Prelude.{ℕ, ◌≡◌, [], ◌∷◌, Bool, true, false}
use Rattle.sf_value.specs.Values.{Name, Data, KeyKind, Kind, KeyData}
use Rattle.sf_expr.specs.Expressions.{Pattern, Expression, Function}
use Rattle.sf_term.specs.declared.form.Join.{Join}
use Rattle.sf_term.specs.declared.form.Side.{Side}
use Rattle.sf_term.specs.declared.form.Heading.{Heading}
use Rattle.sf_term.specs.declared.form.Observation.{Observation}
use Rattle.sf_term.specs.declared.form.Start.{Start}
use Rattle.sf_term.specs.declared.form.Switching.{Switching}
use Rattle.sf_term.specs.Trees.{Primitive, Term, primitive, reference, started, call, Arguments, no_arguments, value_argument, process_argument, closed_argument, joined, sided, headed, transformed, switching, continuing, staged, Template, Templates, collection_argument, gathered, releasing, editing, Collection, without_members, used, added, dropped, kept, chosen}
use Rattle.sf_mean.specs.Lives.{Life, Process, closure, resumed, Environment, empty, known, running, collected, Members, no_members, member}
use Rattle.sf_mean.specs.Meaning.{Network}
use Rattle.sf_rewrite.specs.Laws.{Laws}

-- a named process: as an argument it is the process itself, or what it began as
abbrev pub is_started : Term → Bool
is_started (primitive p) = false
is_started (reference (started w k)) = true
is_started (reference (call g vs)) = false
is_started (joined j f g) = false
is_started (sided d t) = false
is_started (headed h i t) = false
is_started (transformed f t) = false
is_started (switching w t p u) = false
is_started (continuing w t q k p u) = false
is_started (gathered i) = false
is_started (releasing w i q k p u) = false
is_started (editing w i k p u) = false
is_started (staged x f g) = false

mutual
  -- A plan of a term: its parts, its bodies and the terms of its arguments and collections are plans, then laws are applied.
  pub data Plans : Term → Term → Type 0 where
    plans : {t u v : Term} → PlansParts t u → Laws u v → Plans t v

  pub data PlansParts : Term → Term → Type 0 where
    of_primitive : {p : Primitive} → PlansParts (primitive p) (primitive p)
    of_started : {w : Start} {k : Name} → PlansParts (reference (started w k)) (reference (started w k))
    of_call : {g : Name} {vs vs' : Arguments} → PlansArguments vs vs' → PlansParts (reference (call g vs)) (reference (call g vs'))
    of_join : {j : Join} {f f' g g' : Term} → Plans f f' → Plans g g' → PlansParts (joined j f g) (joined j f' g')
    of_side : {d : Side} {t t' : Term} → Plans t t' → PlansParts (sided d t) (sided d t')
    of_heading : {h : Heading} {i : Expression} {t t' : Term} → Plans t t' → PlansParts (headed h i t) (headed h i t')
    of_transformed : {f : Function} {t t' : Term} → Plans t t' → PlansParts (transformed f t) (transformed f t')
    of_switch : {w : Switching} {t t' u u' : Term} {p : Pattern} → Plans t t' → Plans u u' → PlansParts (switching w t p u) (switching w t' p u')
    of_continuing : {w : Observation} {t t' q q' u u' : Term} {k : Name} {p : Pattern} → Plans t t' → Plans q q' → Plans u u' → PlansParts (continuing w t q k p u) (continuing w t' q' k p u')
    of_gathered : {i i' : Collection} → PlansCollection i i' → PlansParts (gathered i) (gathered i')
    of_releasing : {w : Observation} {i i' : Collection} {q q' u u' : Term} {k : Name} {p : Pattern} → PlansCollection i i' → Plans q q' → Plans u u' → PlansParts (releasing w i q k p u) (releasing w i' q' k p u')
    of_editing : {w : Observation} {i i' u u' : Collection} {k : Name} {p : Pattern} → PlansCollection i i' → PlansCollection u u' → PlansParts (editing w i k p u) (editing w i' k p u')

  -- A collection with plans of its terms.
  pub data PlansCollection : Collection → Collection → Type 0 where
    of_without : {k : KeyKind} {t : Kind} → PlansCollection (without_members k t) (without_members k t)
    of_used : {x : Name} → PlansCollection (used x) (used x)
    of_added : {i i' : Collection} {j : Expression} {t t' : Term} → PlansCollection i i' → Plans t t' → PlansCollection (added i j t) (added i' j t')
    of_dropped : {i i' : Collection} {j : Expression} → PlansCollection i i' → PlansCollection (dropped i j) (dropped i' j)
    of_kept : {i i' : Collection} {f : Function} → PlansCollection i i' → PlansCollection (kept i f) (kept i' f)
    of_chosen : {j : Expression} {a a' b b' : Collection} → PlansCollection a a' → PlansCollection b b' → PlansCollection (chosen j a b) (chosen j a' b')

  -- Arguments with plans of their terms, which stay closed in the environment of the call: where laws leave a named process of
  -- a term, it is written as a closed one. A named process stays as it is.
  pub data PlansArguments : Arguments → Arguments → Type 0 where
    of_no_arguments : PlansArguments no_arguments no_arguments
    of_value_argument : {i : Expression} {vs vs' : Arguments} → PlansArguments vs vs' → PlansArguments (value_argument i vs) (value_argument i vs')
    of_named_argument : {w : Start} {k : Name} {vs vs' : Arguments} → PlansArguments vs vs' → PlansArguments (process_argument (reference (started w k)) vs) (process_argument (reference (started w k)) vs')
    of_collection_argument : {i i' : Collection} {vs vs' : Arguments} → PlansCollection i i' → PlansArguments vs vs' → PlansArguments (collection_argument i vs) (collection_argument i' vs')
    of_closed_argument : {t t' : Term} {vs vs' : Arguments} → is_started t ≡ false → Plans t t' → PlansArguments vs vs' → PlansArguments (process_argument t vs) (closed_argument t' vs')
    of_term_argument : {t t' : Term} {vs vs' : Arguments} → is_started t ≡ false → is_started t' ≡ false → Plans t t' → PlansArguments vs vs' → PlansArguments (process_argument t vs) (process_argument t' vs')

mutual
  -- A process with plans of its terms; what was frozen has lived the same.
  pub data PlansProcess : Process → Process → Type 0 where
    of_closure : {t t' : Term} {e e' : Environment} → Plans t t' → PlansNames e e' → PlansProcess (closure t e) (closure t' e')
    of_frozen : {P P' : Process} {h : Life} {d : ℕ} → PlansProcess P P' → PlansProcess (resumed P h d) (resumed P' h d)

  -- the same of each member, under the same keys
  pub data PlansMembers : Members → Members → Type 0 where
    of_no_member : PlansMembers no_members no_members
    of_member : {k : KeyData} {P P' : Process} {ms ms' : Members} → PlansProcess P P' → PlansMembers ms ms' → PlansMembers (member k P ms) (member k P' ms')

  -- the same of each process of an environment, with the same values
  pub data PlansNames : Environment → Environment → Type 0 where
    of_nothing : PlansNames empty empty
    of_value : {x : Name} {v : Data} {e e' : Environment} → PlansNames e e' → PlansNames (known x v e) (known x v e')
    of_process : {x : Name} {P P' : Process} {e e' : Environment} → PlansProcess P P' → PlansNames e e' → PlansNames (running x P e) (running x P' e')
    of_collected : {x : Name} {ms ms' : Members} {e e' : Environment} → PlansMembers ms ms' → PlansNames e e' → PlansNames (collected x ms e) (collected x ms' e')

-- a template with the plan of its term
pub record PlansTemplate (s t : Template) : Type 0 where
  pub name : t.name ≡ s.name
  pub parameters : t.parameters ≡ s.parameters
  pub input : t.input ≡ s.input
  pub output : t.output ≡ s.output
  pub body : Plans s.body t.body

-- each template's term has its plan
pub data PlansAll : Templates → Templates → Type 0 where
  no_templates : PlansAll [] []
  one_more : {s t : Template} {ss ts : Templates} → PlansTemplate s t → PlansAll ss ts → PlansAll (s ∷ ss) (t ∷ ts)

-- each template's term has its plan, and stored functions answer the same
pub record PlansNetwork (n m : Network) : Type 0 where
  pub templates : PlansAll n.templates m.templates
  pub functions : m.functions ≡ n.functions
