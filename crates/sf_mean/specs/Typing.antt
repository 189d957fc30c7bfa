-- The types of terms under a context, and the networks that are accepted.
use Rattle.std.specs.Prelude.{◌≡◌, ◌≢◌, ℕ, ◌<◌, [], ◌∷◌, All, Bool, true, ◌&&◌, IsTrue, ℤ, pos, int_le, Option, Some, None, slice_get}
use Rattle.sf_value.specs.Values.{Name, KeyKind, Kind, unit_kind, bool_kind, int_kind, pair_kind, event_kind, table_kind}
use Rattle.sf_operator.specs.Kinds.{found_then, only, same_kind, payload_of, kind_of_keys}
use Rattle.sf_func.specs.Registries.{TypesByName}
use Rattle.sf_expr.specs.Expressions.{Pattern, Expression, Function}
use Rattle.sf_expr.specs.Typing.{Fits, Binds, HasType, FunctionTakes}
use Rattle.sf_term.specs.declared.form.Bare.{Bare}
use Rattle.sf_term.specs.declared.form.Bare.TheVariants.{Identity, LocalTime, Integral, Edge, NotYet, Once, Count, Pre}
use Rattle.sf_term.specs.declared.form.WithValue.{WithValue}
use Rattle.sf_term.specs.declared.form.WithValue.TheVariants.{Constant, Initially, InitialPre, InitializedPre, Now, InitialEdge, EdgeTag, Hold, DelayedHold}
use Rattle.sf_term.specs.declared.form.Timing.{Timing}
use Rattle.sf_term.specs.declared.form.Timing.TheVariants.{After, Repeatedly, Delay}
use Rattle.sf_term.specs.declared.form.Selection.{Selection}
use Rattle.sf_term.specs.declared.form.Accumulation.{Accumulation}
use Rattle.sf_term.specs.declared.form.Accumulation.TheVariants.{EdgeBy, AccumBy, AccumHoldBy, Scan}
use Rattle.sf_term.specs.declared.form.Join.TheVariants.{InSequence, InParallel, FannedOut}
use Rattle.sf_term.specs.declared.form.Side.TheVariants.{First, Second}
use Rattle.sf_term.specs.declared.form.Heading.TheVariants.{LoopPre, Initialized, Replaced, Followed}
use Rattle.sf_term.specs.Trees.{Chain, lone, chained, on_side, on_both, fanned, Primitive, bare, probe, never, with_value, timed, selected, arrow, accumulated, fused, Extent, Term, primitive, reference, started, call, Arguments, no_arguments, value_argument, process_argument, collection_argument, closed_argument, joined, sided, headed, transformed, switching, continuing, gathered, releasing, editing, staged, Collection, without_members, used, added, dropped, kept, chosen, Template, Templates}
use Rattle.sf_term.specs.Parameters.{NameKind, value, process, collection, Bindings}
use Rattle.sf_term.specs.declared.form.Observation.{Observation}
use Rattle.sf_term.specs.declared.form.Start.{Start}
use Rattle.sf_term.specs.declared.form.Switching.TheVariants.{Basic, Recurring}
use Rattle.sf_mean.specs.Networks.{main_of}
use Rattle.sf_mean.specs.Contexts.{Context, Signature, signature_named, names_of_values, template_context, inside_pattern, inside_process, inside_collection, process_named, collection_named}
use Rattle.sf_mean.specs.Calls.{ReachesTemplate}

-- Functions made into one take inputs of one type to outputs of another.
pub data ChainTakes (Γ : Context) : Chain → Kind → Kind → Type 0 where
  lone_takes : {f : Function} {a b : Kind} → FunctionTakes (names_of_values Γ) f a b → ChainTakes Γ (lone f) a b
  chained_takes : {f g : Chain} {a b c : Kind} → ChainTakes Γ f a b → ChainTakes Γ g b c → ChainTakes Γ (chained f g) a c
  on_first_takes : {f : Chain} {a b c : Kind} → ChainTakes Γ f a b → ChainTakes Γ (on_side First f) (pair_kind a c) (pair_kind b c)
  on_second_takes : {f : Chain} {a b c : Kind} → ChainTakes Γ f a b → ChainTakes Γ (on_side Second f) (pair_kind c a) (pair_kind c b)
  on_both_takes : {f g : Chain} {a b c d : Kind} → ChainTakes Γ f a b → ChainTakes Γ g c d → ChainTakes Γ (on_both f g) (pair_kind a c) (pair_kind b d)
  fanned_takes : {f g : Chain} {a b c : Kind} → ChainTakes Γ f a b → ChainTakes Γ g a c → ChainTakes Γ (fanned f g) a (pair_kind b c)

-- the type of the outputs of a primitive without constants on inputs of a type, if it is one on such inputs; `pre` alone is
-- one on none
abbrev pub bare_kind : Bare → Kind → Option Kind
bare_kind Identity a = Some a
bare_kind LocalTime a = Some int_kind
bare_kind Integral a = only a int_kind (Some int_kind)
bare_kind Edge a = only a bool_kind (Some (event_kind unit_kind))
bare_kind NotYet a = found_then (payload_of a) (λ p. Some a)
bare_kind Once a = found_then (payload_of a) (λ p. Some a)
bare_kind Count a = found_then (payload_of a) (λ p. Some (event_kind int_kind))
bare_kind Pre a = None

-- the type of the outputs of a primitive with a value of a type on inputs of a type, if it is one on such inputs
abbrev pub value_kind : WithValue → Kind → Kind → Option Kind
value_kind Constant v a = Some v
value_kind Initially v a = only a v (Some v)
value_kind InitialPre v a = only a v (Some v)
value_kind InitializedPre v a = only a v (Some v)
value_kind Now v a = Some (event_kind v)
value_kind InitialEdge v a = only a bool_kind (only v bool_kind (Some (event_kind unit_kind)))
value_kind EdgeTag v a = only a bool_kind (Some (event_kind v))
value_kind Hold v a = found_then (payload_of a) (λ p. only p v (Some v))
value_kind DelayedHold v a = found_then (payload_of a) (λ p. only p v (Some v))

-- whether a form takes a time, in milliseconds
abbrev pub takes_time : Timing → ℤ → Bool
takes_time After q = int_le (pos 0) q && int_le q (pos 1000000000000)
takes_time Repeatedly q = int_le (pos 1) q && int_le q (pos 1000000000000)
takes_time Delay q = int_le (pos 1) q && int_le q (pos 1000000000000)

-- whether a form with a value of a type takes inputs of a type
abbrev pub takes_input : Timing → (value input : Kind) → Bool
takes_input After v a = true
takes_input Repeatedly v a = true
takes_input Delay v a = same_kind a v

-- the type of the outputs of a primitive with a time and a value of a type
abbrev pub timed_kind : Timing → Kind → Option Kind
timed_kind After v = Some (event_kind v)
timed_kind Repeatedly v = Some (event_kind v)
timed_kind Delay v = Some v

-- whether this is a number of events that a form takes
abbrev pub takes_number : ℤ → Bool
takes_number n = int_le (pos 0) n && int_le n (pos 1000000000)

-- the type of the outputs of a primitive with a number of events on inputs of a type, if it is one on such inputs
abbrev pub selected_kind : Kind → Option Kind
selected_kind a = found_then (payload_of a) (λ p. Some a)

-- the type of what the function of an accumulation takes, with a value of a type, on inputs of a type: pairs of two inputs,
-- or of the value so far and what comes
abbrev pub accumulated_argument : Accumulation → (value input : Kind) → Option Kind
accumulated_argument EdgeBy v a = Some (pair_kind a a)
accumulated_argument AccumBy v a = found_then (payload_of a) (λ p. Some (pair_kind v p))
accumulated_argument AccumHoldBy v a = found_then (payload_of a) (λ p. Some (pair_kind v p))
accumulated_argument Scan v a = Some (pair_kind v a)

-- the type of the outputs of an accumulation, where its function makes values of a type
abbrev pub accumulated_kind : Accumulation → (value input made : Kind) → Option Kind
accumulated_kind EdgeBy v a u = only a v (found_then (payload_of u) (λ p. Some u))
accumulated_kind AccumBy v a u = only u v (Some (event_kind v))
accumulated_kind AccumHoldBy v a u = only u v (Some v)
accumulated_kind Scan v a u = only u v (Some v)

-- A primitive takes inputs of one type to outputs of another.
pub data PrimitiveTakes (Γ : Context) : Primitive → Kind → Kind → Type 0 where
  bare_takes : {k : Bare} {a b : Kind} → bare_kind k a ≡ Some b → Fits b → PrimitiveTakes Γ (bare k) a b
  probe_takes : {k : Name} {a : Kind} → Fits a → PrimitiveTakes Γ (probe k) a a
  never_takes : {t a : Kind} → Fits (event_kind t) → PrimitiveTakes Γ (never t) a (event_kind t)
  value_takes : {k : WithValue} {e : Expression} {v a b : Kind} → HasType (names_of_values Γ) e v → value_kind k v a ≡ Some b → Fits b → PrimitiveTakes Γ (with_value k e) a b
  arrow_takes : {f : Function} {a b : Kind} → FunctionTakes (names_of_values Γ) f a b → PrimitiveTakes Γ (arrow f) a b
  timed_takes : {k : Timing} {q : ℤ} {e : Expression} {v a b : Kind} → HasType (names_of_values Γ) e v → IsTrue (takes_input k v a) → IsTrue (takes_time k q) → timed_kind k v ≡ Some b → Fits b → PrimitiveTakes Γ (timed k q e) a b
  selected_takes : {k : Selection} {n : ℤ} {a b : Kind} → selected_kind a ≡ Some b → IsTrue (takes_number n) → Fits b → PrimitiveTakes Γ (selected k n) a b
  accumulated_takes : {k : Accumulation} {e : Expression} {f : Function} {v a c u b : Kind}
      → HasType (names_of_values Γ) e v → accumulated_argument k v a ≡ Some c → FunctionTakes (names_of_values Γ) f c u → accumulated_kind k v a u ≡ Some b → Fits b → PrimitiveTakes Γ (accumulated k e f) a b
  fused_takes : {f : Chain} {a b : Kind} → ChainTakes Γ f a b → Fits b → PrimitiveTakes Γ (fused f) a b

mutual
  -- A term takes inputs of one type to outputs of another. Both have at most 256 nodes.
  pub data Takes : Context → Term → Kind → Kind → Type 0 where
    takes : {Γ : Context} {t : Term} {a b : Kind} → Fits a → Fits b → FormTakes Γ t a b → Takes Γ t a b

  -- the types of each form of terms
  pub data FormTakes : Context → Term → Kind → Kind → Type 0 where
    primitive_takes : {Γ : Context} {p : Primitive} {a b : Kind} → PrimitiveTakes Γ p a b → FormTakes Γ (primitive p) a b
    started_takes : {Γ : Context} {w : Start} {k : Name} {a b : Kind} → process_named k Γ.bindings ≡ Some (a, b) → FormTakes Γ (reference (started w k)) a b
    call_takes : {Γ : Context} {g : Name} {vs : Arguments} {s : Signature} → signature_named g Γ.signatures ≡ Some s → ArgumentsFit Γ vs s.parameters → FormTakes Γ (reference (call g vs)) s.input s.output
    sequence_takes : {Γ : Context} {f g : Term} {a b c : Kind} → Takes Γ f a b → Takes Γ g b c → FormTakes Γ (joined InSequence f g) a c
    parallel_takes : {Γ : Context} {f g : Term} {a b c d : Kind} → Takes Γ f a b → Takes Γ g c d → FormTakes Γ (joined InParallel f g) (pair_kind a c) (pair_kind b d)
    fan_takes : {Γ : Context} {f g : Term} {a b c : Kind} → Takes Γ f a b → Takes Γ g a c → FormTakes Γ (joined FannedOut f g) a (pair_kind b c)
    first_takes : {Γ : Context} {t : Term} {a b c : Kind} → Takes Γ t a b → FormTakes Γ (sided First t) (pair_kind a c) (pair_kind b c)
    second_takes : {Γ : Context} {t : Term} {a b c : Kind} → Takes Γ t a b → FormTakes Γ (sided Second t) (pair_kind c a) (pair_kind c b)
    loop_takes : {Γ : Context} {e : Expression} {t : Term} {a b c : Kind} → HasType (names_of_values Γ) e c → Takes Γ t (pair_kind a c) (pair_kind b c) → FormTakes Γ (headed LoopPre e t) a b
    initialized_takes : {Γ : Context} {e : Expression} {t : Term} {a b : Kind} → HasType (names_of_values Γ) e b → Takes Γ t a b → FormTakes Γ (headed Initialized e t) a b
    replaced_takes : {Γ : Context} {e : Expression} {t : Term} {a b : Kind} → HasType (names_of_values Γ) e a → Takes Γ t a b → FormTakes Γ (headed Replaced e t) a b
    followed_takes : {Γ : Context} {e : Expression} {t : Term} {a b : Kind} → HasType (names_of_values Γ) e b → Takes Γ t a b → FormTakes Γ (headed Followed e t) a b
    transformed_takes : {Γ : Context} {f : Function} {t : Term} {a b : Kind} → FunctionTakes (names_of_values Γ) f a a → Takes Γ t a b → FormTakes Γ (transformed f t) a b
    switch_takes : {Γ : Context} {w : Observation} {t u : Term} {p : Pattern} {a b c : Kind}
        → Takes Γ t a (pair_kind b (event_kind c)) → Binds p c (names_of_values Γ) (names_of_values (inside_pattern p c Γ)) → Takes (inside_pattern p c Γ) u a b → FormTakes Γ (switching (Basic w) t p u) a b
    recurring_takes : {Γ : Context} {w : Observation} {t u : Term} {p : Pattern} {a b c : Kind}
        → Takes Γ t a b → Binds p c (names_of_values Γ) (names_of_values (inside_pattern p c Γ)) → Takes (inside_pattern p c Γ) u a b → FormTakes Γ (switching (Recurring w) t p u) (pair_kind a (event_kind c)) b
    continuing_takes : {Γ : Context} {w : Observation} {t q u : Term} {k : Name} {p : Pattern} {a b c : Kind}
        → Takes Γ t a b → Takes Γ q (pair_kind a b) (event_kind c)
        → Binds p c (names_of_values (inside_process k a b Γ)) (names_of_values (inside_pattern p c (inside_process k a b Γ)))
        → Takes (inside_pattern p c (inside_process k a b Γ)) u a b → FormTakes Γ (continuing w t q k p u) a b
    gathered_takes : {Γ : Context} {i : Collection} {k : KeyKind} {a b : Kind} → Collects Γ i k a b → FormTakes Γ (gathered i) a (table_kind k b)
    releasing_takes : {Γ : Context} {w : Observation} {i : Collection} {q u : Term} {x : Name} {p : Pattern} {k : KeyKind} {a b c : Kind}
        → Collects Γ i k a b → Takes Γ q (pair_kind a (table_kind k b)) (event_kind c)
        → Binds p c (names_of_values (inside_collection x k a b Γ)) (names_of_values (inside_pattern p c (inside_collection x k a b Γ)))
        → Takes (inside_pattern p c (inside_collection x k a b Γ)) u a (table_kind k b) → FormTakes Γ (releasing w i q x p u) a (table_kind k b)
    editing_takes : {Γ : Context} {w : Observation} {i u : Collection} {x : Name} {p : Pattern} {k : KeyKind} {a b c : Kind}
        → Collects Γ i k a b
        → Binds p c (names_of_values (inside_collection x k a b Γ)) (names_of_values (inside_pattern p c (inside_collection x k a b Γ)))
        → Collects (inside_pattern p c (inside_collection x k a b Γ)) u k a b → FormTakes Γ (editing w i x p u) (pair_kind a (event_kind c)) (table_kind k b)
    stages_take : {Γ : Context} {x : Extent} {f g : Term} {a b c : Kind} → Takes Γ f a b → Takes Γ g b c → FormTakes Γ (staged x f g) a c

  -- The members of a collection have keys of a type, and take inputs of one type to outputs of another.
  pub data Collects : Context → Collection → KeyKind → Kind → Kind → Type 0 where
    collects_none : {Γ : Context} {k : KeyKind} {a b : Kind} → Collects Γ (without_members k b) k a b
    collects_used : {Γ : Context} {x : Name} {k : KeyKind} {a b : Kind} → collection_named x Γ.bindings ≡ Some (k, a, b) → Collects Γ (used x) k a b
    collects_added : {Γ : Context} {i : Collection} {j : Expression} {t : Term} {k : KeyKind} {a b : Kind}
        → Collects Γ i k a b → HasType (names_of_values Γ) j (kind_of_keys k) → Takes Γ t a b → Collects Γ (added i j t) k a b
    collects_dropped : {Γ : Context} {i : Collection} {j : Expression} {k : KeyKind} {a b : Kind}
        → Collects Γ i k a b → HasType (names_of_values Γ) j (kind_of_keys k) → Collects Γ (dropped i j) k a b
    collects_kept : {Γ : Context} {i : Collection} {f : Function} {k : KeyKind} {a b : Kind}
        → Collects Γ i k a b → FunctionTakes (names_of_values Γ) f (kind_of_keys k) bool_kind → Collects Γ (kept i f) k a b
    collects_chosen : {Γ : Context} {j : Expression} {i h : Collection} {k : KeyKind} {a b : Kind}
        → HasType (names_of_values Γ) j bool_kind → Collects Γ i k a b → Collects Γ h k a b → Collects Γ (chosen j i h) k a b

  -- Arguments are as many as parameters, and each is of its parameter's type or types.
  pub data ArgumentsFit : Context → Arguments → Bindings → Type 0 where
    no_argument_fits : {Γ : Context} → ArgumentsFit Γ no_arguments []
    value_fits : {Γ : Context} {i : Expression} {vs : Arguments} {x : Name} {t : Kind} {qs : Bindings}
        → HasType (names_of_values Γ) i t → ArgumentsFit Γ vs qs → ArgumentsFit Γ (value_argument i vs) ((x, value t) ∷ qs)
    process_fits : {Γ : Context} {t : Term} {vs : Arguments} {x : Name} {a b : Kind} {qs : Bindings}
        → Takes Γ t a b → ArgumentsFit Γ vs qs → ArgumentsFit Γ (process_argument t vs) ((x, process a b) ∷ qs)
    collection_fits : {Γ : Context} {i : Collection} {vs : Arguments} {x : Name} {k : KeyKind} {a b : Kind} {qs : Bindings}
        → Collects Γ i k a b → ArgumentsFit Γ vs qs → ArgumentsFit Γ (collection_argument i vs) ((x, collection k a b) ∷ qs)
    closed_fits : {Γ : Context} {t : Term} {vs : Arguments} {x : Name} {a b : Kind} {qs : Bindings}
        → Takes Γ t a b → ArgumentsFit Γ vs qs → ArgumentsFit Γ (closed_argument t vs) ((x, process a b) ∷ qs)

-- the types of a parameter have at most 256 nodes
abbrev pub ParameterFits : NameKind → Type 0
ParameterFits (value t) = Fits t
ParameterFits (process a b) = Fits a × Fits b
ParameterFits (collection k a b) = Fits a × Fits b

-- With functions of these types and under the headers of all templates, a template has parameters of types within the bound,
-- and its term takes its header's input to its header's output.
pub record IsTyped (fs : TypesByName) (ts : Templates) (t : Template) : Type 0 where
  pub parameters : All (λ (q : Name × NameKind). ParameterFits q.1) t.parameters
  pub body : Takes (template_context fs t.parameters ts) t.body t.input t.output

-- With stored functions of these types, a network is accepted where its templates have different names, each has different
-- names of its parameters and a term of its header's types, one is `main` and has no parameters, and none reaches itself by
-- calls outside the bodies of switches.
pub record Accepted (fs : TypesByName) (ts : Templates) : Type 0 where
  pub different : (i j : ℕ) (s t : Template) → i < j → slice_get ts i ≡ Some s → slice_get ts j ≡ Some t → s.name ≢ t.name
  pub different_parameters : (k i j : ℕ) (t : Template) (q r : Name × NameKind) → slice_get ts k ≡ Some t → i < j → slice_get t.parameters i ≡ Some q → slice_get t.parameters j ≡ Some r → q.0 ≢ r.0
  pub typed : (i : ℕ) (t : Template) → slice_get ts i ≡ Some t → IsTyped fs ts t
  pub endless : (g : Name) → ¬ ReachesTemplate ts g g
  pub has_main : (t : Template) × (main_of ts ≡ Some t) × (t.parameters ≡ [])
