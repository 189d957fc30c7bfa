-- Which templates a term calls, and which templates reach which.
use Rattle.std.specs.Prelude.{◌≡◌, Some}
use Rattle.sf_value.specs.Values.{Name}
use Rattle.sf_expr.specs.Expressions.{Pattern, Expression, Function}
use Rattle.sf_term.specs.declared.form.Join.{Join}
use Rattle.sf_term.specs.declared.form.Side.{Side}
use Rattle.sf_term.specs.declared.form.Heading.{Heading}
use Rattle.sf_term.specs.declared.form.Observation.{Observation}
use Rattle.sf_term.specs.declared.form.Switching.{Switching}
use Rattle.sf_term.specs.Trees.{Extent, Term, reference, call, Arguments, value_argument, process_argument, collection_argument, closed_argument, joined, sided, headed, transformed, switching, continuing, gathered, releasing, editing, staged, Collection, added, dropped, kept, chosen, Template, Templates, template_named}

mutual
  -- A term calls the template of a name, outside the bodies of switches and of edits; the terms of arguments and of collections
  -- count.
  pub data Calls : Term → Name → Type 0 where
    calls_it : {g : Name} {vs : Arguments} → Calls (reference (call g vs)) g
    calls_within : {g h : Name} {vs : Arguments} → ArgumentsCall vs h → Calls (reference (call g vs)) h
    left_calls : {j : Join} {f g : Term} {h : Name} → Calls f h → Calls (joined j f g) h
    right_calls : {j : Join} {f g : Term} {h : Name} → Calls g h → Calls (joined j f g) h
    side_calls : {d : Side} {t : Term} {h : Name} → Calls t h → Calls (sided d t) h
    headed_calls : {w : Heading} {i : Expression} {t : Term} {h : Name} → Calls t h → Calls (headed w i t) h
    transformed_calls : {f : Function} {t : Term} {h : Name} → Calls t h → Calls (transformed f t) h
    switch_calls : {w : Switching} {t u : Term} {p : Pattern} {h : Name} → Calls t h → Calls (switching w t p u) h
    source_calls : {w : Observation} {t q u : Term} {k : Name} {p : Pattern} {h : Name} → Calls t h → Calls (continuing w t q k p u) h
    observer_calls : {w : Observation} {t q u : Term} {k : Name} {p : Pattern} {h : Name} → Calls q h → Calls (continuing w t q k p u) h
    gathered_calls : {i : Collection} {h : Name} → CollectionCalls i h → Calls (gathered i) h
    members_call : {w : Observation} {i : Collection} {q u : Term} {k : Name} {p : Pattern} {h : Name} → CollectionCalls i h → Calls (releasing w i q k p u) h
    their_observer_calls : {w : Observation} {i : Collection} {q u : Term} {k : Name} {p : Pattern} {h : Name} → Calls q h → Calls (releasing w i q k p u) h
    editing_calls : {w : Observation} {i u : Collection} {k : Name} {p : Pattern} {h : Name} → CollectionCalls i h → Calls (editing w i k p u) h
    stage_calls : {x : Extent} {f g : Term} {h : Name} → Calls f h → Calls (staged x f g) h
    stages_call : {x : Extent} {f g : Term} {h : Name} → Calls g h → Calls (staged x f g) h

  -- A term of a collection does.
  pub data CollectionCalls : Collection → Name → Type 0 where
    added_calls : {i : Collection} {j : Expression} {t : Term} {h : Name} → Calls t h → CollectionCalls (added i j t) h
    past_added_calls : {i : Collection} {j : Expression} {t : Term} {h : Name} → CollectionCalls i h → CollectionCalls (added i j t) h
    past_dropped_calls : {i : Collection} {j : Expression} {h : Name} → CollectionCalls i h → CollectionCalls (dropped i j) h
    past_kept_calls : {i : Collection} {f : Function} {h : Name} → CollectionCalls i h → CollectionCalls (kept i f) h
    one_calls : {j : Expression} {a b : Collection} {h : Name} → CollectionCalls a h → CollectionCalls (chosen j a b) h
    other_calls : {j : Expression} {a b : Collection} {h : Name} → CollectionCalls b h → CollectionCalls (chosen j a b) h

  -- The term of an argument does.
  pub data ArgumentsCall : Arguments → Name → Type 0 where
    process_calls : {t : Term} {vs : Arguments} {h : Name} → Calls t h → ArgumentsCall (process_argument t vs) h
    collection_calls : {i : Collection} {vs : Arguments} {h : Name} → CollectionCalls i h → ArgumentsCall (collection_argument i vs) h
    closed_calls : {t : Term} {vs : Arguments} {h : Name} → Calls t h → ArgumentsCall (closed_argument t vs) h
    past_value_calls : {i : Expression} {vs : Arguments} {h : Name} → ArgumentsCall vs h → ArgumentsCall (value_argument i vs) h
    past_process_calls : {t : Term} {vs : Arguments} {h : Name} → ArgumentsCall vs h → ArgumentsCall (process_argument t vs) h
    past_collection_calls : {i : Collection} {vs : Arguments} {h : Name} → ArgumentsCall vs h → ArgumentsCall (collection_argument i vs) h
    past_closed_calls : {t : Term} {vs : Arguments} {h : Name} → ArgumentsCall vs h → ArgumentsCall (closed_argument t vs) h

-- By such calls, one after another, the template of a name reaches that of another.
pub data ReachesTemplate (ts : Templates) : Name → Name → Type 0 where
  reaches : {g h : Name} {t : Template} → template_named g ts ≡ Some t → Calls t.body h → ReachesTemplate ts g h
  reaches_on : {g h k : Name} {t : Template} → template_named g ts ≡ Some t → Calls t.body h → ReachesTemplate ts h k → ReachesTemplate ts g k
