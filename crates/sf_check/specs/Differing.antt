-- Which types differ in a network that is refused, and where.
use Rattle.std.specs.Prelude.{◌≡◌, ◌≢◌, ◌<◌, ◌⊎◌, ℕ, ℤ, IsTrue, List, [], ◌∷◌, Option, Some, None, slice_get}
use Rattle.sf_value.specs.Values.{Name, KeyKind, Kind, bool_kind, int_kind, pair_kind, event_kind, table_kind}
use Rattle.sf_value.specs.KindView.{key_kind_of}
use Rattle.sf_refusal.specs.declared.spot.Spot.{Spot}
use Rattle.sf_func.specs.Registries.{TypesByName}
use Rattle.sf_operator.specs.Kinds.{kind_of_keys}
use Rattle.sf_expr.specs.declared.exprs.ExprId.{ExprId}
use Rattle.sf_expr.specs.declared.exprs.NameId.{NameId}
use Rattle.sf_expr.specs.declared.exprs.PatternId.{PatternId}
use Rattle.sf_expr.specs.declared.exprs.FunctionId.{FunctionId}
use Rattle.sf_expr.specs.declared.exprs.Exprs.{Exprs}
use Rattle.sf_expr.specs.Arena.{expression, function_at, stored_pattern}
use Rattle.sf_expr.specs.Typing.{Fits, HasType, FunctionTakes}
use Rattle.sf_differ.specs.declared.difference.Wanted.{Wanted}
use Rattle.sf_differ.specs.declared.difference.Wanted.TheVariants.{Exactly, Pair, PairWith, Event, EventBeside}
use Rattle.sf_differ.specs.declared.difference.Difference.{Difference}
use Rattle.sf_differ.specs.Differences.{IsOther, DiffersAt}
use Rattle.sf_differ.specs.Wanting.{IsMade}
use Rattle.sf_differ.specs.Differing.{PatternDiffers, ExpressionDiffers, FunctionDiffers}
use Rattle.sf_term.specs.declared.form.Bare.{Bare}
use Rattle.sf_term.specs.declared.form.Bare.TheVariants as bare
use Rattle.sf_term.specs.declared.form.WithValue.{WithValue}
use Rattle.sf_term.specs.declared.form.WithValue.TheVariants as given
use Rattle.sf_term.specs.declared.form.Timing.{Timing}
use Rattle.sf_term.specs.declared.form.Timing.TheVariants as timing
use Rattle.sf_term.specs.declared.form.Selection.{Selection}
use Rattle.sf_term.specs.declared.form.Accumulation.{Accumulation}
use Rattle.sf_term.specs.declared.form.Accumulation.TheVariants as accumulation
use Rattle.sf_term.specs.declared.form.Join.TheVariants.{InParallel}
use Rattle.sf_term.specs.declared.form.Side.{Side}
use Rattle.sf_term.specs.declared.form.Heading.{Heading}
use Rattle.sf_term.specs.declared.form.Heading.TheVariants.{LoopPre, Initialized, Replaced, Followed}
use Rattle.sf_term.specs.declared.form.Start.{Start}
use Rattle.sf_term.specs.declared.form.Naming.TheVariants.{Process}
use Rattle.sf_term.specs.declared.form.Observation.{Observation}
use Rattle.sf_term.specs.declared.form.Switching.{Switching}
use Rattle.sf_term.specs.declared.form.Switching.TheVariants.{Basic, Recurring}
use Rattle.sf_term.specs.declared.node.TermId.{TermId}
use Rattle.sf_term.specs.declared.node.ArgumentsId.{ArgumentsId}
use Rattle.sf_term.specs.declared.node.Argument.{Argument}
use Rattle.sf_term.specs.declared.node.Argument.TheVariants as arguments
use Rattle.sf_term.specs.declared.node.Primitive.{Primitive}
use Rattle.sf_term.specs.declared.node.Primitive.TheVariants as primitives
use Rattle.sf_term.specs.declared.node.Releasing.{Releasing}
use Rattle.sf_term.specs.declared.node.Editing.{Editing}
use Rattle.sf_term.specs.declared.node.Node.{Node}
use Rattle.sf_term.specs.declared.node.Node.TheVariants as nodes
use Rattle.sf_term.specs.declared.collection.CollectionId.{CollectionId}
use Rattle.sf_term.specs.declared.collection.CollExpr.{CollExpr}
use Rattle.sf_term.specs.declared.collection.CollExpr.TheVariants as collections
use Rattle.sf_term.specs.declared.program.Program.{Program}
use Rattle.sf_term.specs.Headers.{Header}
use Rattle.sf_term.specs.Parameters.{parameters_of}
use Rattle.sf_term.specs.Trees.{Template}
use Rattle.sf_term.specs.Arena.{tree, term_node_at, term_spot_at, program_expressions, argument_nodes, arguments_of, collection_node, collection_of, collection_tree, headers_of, templates_of}
use Rattle.sf_mean.specs.Contexts.{NameKind, value, process, collection, Bindings, Signature, signature_named, Context, names_of_values, template_context, inside_pattern}
use Rattle.sf_mean.specs.Typing.{bare_kind, value_kind, takes_input, selected_kind, accumulated_argument, accumulated_kind, Takes, Collects, ArgumentsFit, IsTyped}
use Rattle.sf_check.specs.declared.body.Body.{Body}
use Rattle.sf_check.specs.declared.body.Edit.{Edit}
use Rattle.sf_check.specs.Names.{NamesDiffer}
use Rattle.sf_check.specs.Breaking.{kind_named, program_pattern, program_name, continuing_inside, members_inside, BindsInside, BodyWanted, ArgumentsLeft, Reaches, ReachesMembers}
use Rattle.sf_check.specs.Answering.{ArgumentFits}

-- which inputs a primitive without constants wants
abbrev pub bare_wants : Bare → Option Wanted
bare_wants bare.Identity = None
bare_wants bare.LocalTime = None
bare_wants bare.Integral = Some (Exactly int_kind)
bare_wants bare.Edge = Some (Exactly bool_kind)
bare_wants bare.NotYet = Some Event
bare_wants bare.Once = Some Event
bare_wants bare.Count = Some Event
bare_wants bare.Pre = None

-- which values a primitive with a value wants
abbrev pub value_wants : WithValue → Option Wanted
value_wants given.Constant = None
value_wants given.Initially = None
value_wants given.InitialPre = None
value_wants given.InitializedPre = None
value_wants given.Now = None
value_wants given.InitialEdge = Some (Exactly bool_kind)
value_wants given.EdgeTag = None
value_wants given.Hold = None
value_wants given.DelayedHold = None

-- which inputs it wants beside a value of a type
abbrev pub input_wants : WithValue → Kind → Option Wanted
input_wants given.Constant t = None
input_wants given.Initially t = Some (Exactly t)
input_wants given.InitialPre t = Some (Exactly t)
input_wants given.InitializedPre t = Some (Exactly t)
input_wants given.Now t = None
input_wants given.InitialEdge t = Some (Exactly bool_kind)
input_wants given.EdgeTag t = Some (Exactly bool_kind)
input_wants given.Hold t = Some (Exactly (event_kind t))
input_wants given.DelayedHold t = Some (Exactly (event_kind t))

-- which inputs a form with a time wants beside a value of a type
abbrev pub timed_wants : Timing → Kind → Option Wanted
timed_wants timing.After t = None
timed_wants timing.Repeatedly t = None
timed_wants timing.Delay t = Some (Exactly t)

-- which values an accumulation wants to begin with, on inputs of a type
abbrev pub start_wants : Accumulation → Kind → Option Wanted
start_wants accumulation.EdgeBy a = Some (Exactly a)
start_wants accumulation.AccumBy a = None
start_wants accumulation.AccumHoldBy a = None
start_wants accumulation.Scan a = None

-- which inputs it wants
abbrev pub accumulated_wants : Accumulation → Option Wanted
accumulated_wants accumulation.EdgeBy = None
accumulated_wants accumulation.AccumBy = Some Event
accumulated_wants accumulation.AccumHoldBy = Some Event
accumulated_wants accumulation.Scan = None

-- which values it wants its function to make, with a value of a type
abbrev pub made_wants : Accumulation → Kind → Option Wanted
made_wants accumulation.EdgeBy t = Some Event
made_wants accumulation.AccumBy t = Some (Exactly t)
made_wants accumulation.AccumHoldBy t = Some (Exactly t)
made_wants accumulation.Scan t = Some (Exactly t)

-- On inputs of a type, in a primitive at a spot, a type differs: of an expression within, of the value, of the inputs, or of what
-- its function makes.
pub data PrimitiveDiffers (x : Exprs) (Γ : Context) (s : Spot) : Primitive → Kind → Difference → Type 0 where
  bare_differs : {k : Bare} {a : Kind} {d : Difference} → k ≢ bare.Pre → DiffersAt (λ b. IsMade (bare_kind k b)) s a d → PrimitiveDiffers x Γ s (primitives.Bare k) a d
  value_differs_within : {k : WithValue} {v : ExprId} {a : Kind} {d : Difference} → ExpressionDiffers x (names_of_values Γ) v d → PrimitiveDiffers x Γ s (primitives.WithValue k v) a d
  value_differs : {k : WithValue} {v : ExprId} {t a : Kind} {d : Difference}
      → HasType (names_of_values Γ) (expression x v) t → DiffersAt (λ u. (b : Kind) × IsMade (value_kind k u b)) s t d → PrimitiveDiffers x Γ s (primitives.WithValue k v) a d
  input_differs : {k : WithValue} {v : ExprId} {t a : Kind} {d : Difference}
      → HasType (names_of_values Γ) (expression x v) t → DiffersAt (λ b. IsMade (value_kind k t b)) s a d → PrimitiveDiffers x Γ s (primitives.WithValue k v) a d
  timed_differs_within : {k : Timing} {q : ℤ} {v : ExprId} {a : Kind} {d : Difference} → ExpressionDiffers x (names_of_values Γ) v d → PrimitiveDiffers x Γ s (primitives.Timed k q v) a d
  timed_differs : {k : Timing} {q : ℤ} {v : ExprId} {t a : Kind} {d : Difference}
      → HasType (names_of_values Γ) (expression x v) t → DiffersAt (λ b. IsTrue (takes_input k t b)) s a d → PrimitiveDiffers x Γ s (primitives.Timed k q v) a d
  selected_differs : {k : Selection} {n : ℤ} {a : Kind} {d : Difference} → DiffersAt (λ b. IsMade (selected_kind b)) s a d → PrimitiveDiffers x Γ s (primitives.Selected k n) a d
  start_differs_within : {k : Accumulation} {v : ExprId} {f : FunctionId} {a : Kind} {d : Difference}
      → ExpressionDiffers x (names_of_values Γ) v d → PrimitiveDiffers x Γ s (primitives.Accumulated k v f) a d
  accumulated_differs : {k : Accumulation} {v : ExprId} {f : FunctionId} {t a : Kind} {d : Difference}
      → HasType (names_of_values Γ) (expression x v) t → DiffersAt (λ b. IsMade (accumulated_argument k t b)) s a d → PrimitiveDiffers x Γ s (primitives.Accumulated k v f) a d
  accumulator_differs : {k : Accumulation} {v : ExprId} {f : FunctionId} {t a c : Kind} {d : Difference}
      → HasType (names_of_values Γ) (expression x v) t → accumulated_argument k t a ≡ Some c → Fits c → FunctionDiffers x (names_of_values Γ) f c s d
      → PrimitiveDiffers x Γ s (primitives.Accumulated k v f) a d
  start_differs : {k : Accumulation} {v : ExprId} {f : FunctionId} {t a c u : Kind} {d : Difference}
      → HasType (names_of_values Γ) (expression x v) t → accumulated_argument k t a ≡ Some c → FunctionTakes (names_of_values Γ) (function_at x f) c u
      → DiffersAt (λ w. (b : Kind) × IsMade (accumulated_kind k w a b)) s t d → PrimitiveDiffers x Γ s (primitives.Accumulated k v f) a d
  made_differs : {k : Accumulation} {v : ExprId} {f : FunctionId} {t a c u : Kind} {d : Difference}
      → HasType (names_of_values Γ) (expression x v) t → accumulated_argument k t a ≡ Some c → FunctionTakes (names_of_values Γ) (function_at x f) c u
      → DiffersAt (λ b. IsMade (accumulated_kind k t a b)) s u d → PrimitiveDiffers x Γ s (primitives.Accumulated k v f) a d
  function_differs : {f : FunctionId} {a : Kind} {d : Difference} → FunctionDiffers x (names_of_values Γ) f a s d → PrimitiveDiffers x Γ s (primitives.Arrow f) a d

-- Of the body of a form at a spot, which is to take inputs of a type to outputs of another inside a pattern for payloads of a
-- third, the pattern differs, or the outputs do.
pub data BodyDiffers (p : Program) (Δ : Context) (s : Spot) (q : PatternId) (u : TermId) (a b c : Kind) : Difference → Type 0 where
  body_pattern : {d : Difference} → PatternDiffers (stored_pattern (program_expressions p) q) c s d → BodyDiffers p Δ s q u a b c d
  body_output : {v : Kind} {d : Difference}
      → BindsInside (program_pattern p q) c Δ → Takes (inside_pattern (program_pattern p q) c Δ) (tree p u) a v → IsOther (Some (Exactly b)) s v d → BodyDiffers p Δ s q u a b c d

-- Of the edit of a form at a spot, which is to have members with keys of a type, from a type to a type, inside a pattern for
-- payloads of a third, the pattern differs, or the tables that its members give do.
pub data EditDiffers (p : Program) (Δ : Context) (s : Spot) (q : PatternId) (u : CollectionId) (k : KeyKind) (a b c : Kind) : Difference → Type 0 where
  edit_pattern : {d : Difference} → PatternDiffers (stored_pattern (program_expressions p) q) c s d → EditDiffers p Δ s q u k a b c d
  edit_tables : {l : KeyKind} {e : Kind} {d : Difference}
      → BindsInside (program_pattern p q) c Δ → Collects (inside_pattern (program_pattern p q) c Δ) (collection_tree p u) l a e → IsOther (Some (Exactly (table_kind k b))) s (table_kind l e) d → EditDiffers p Δ s q u k a b c d

-- An argument of a call at a spot differs from a parameter of a kind: a value is of another type, a process gives outputs of
-- another, or the members of a collection give tables of another.
pub data ArgumentDiffers (p : Program) (Γ : Context) (s : Spot) : Argument → NameKind → Difference → Type 0 where
  value_argument : {e : ExprId} {t u : Kind} {d : Difference} → HasType (names_of_values Γ) (expression (program_expressions p) e) t → IsOther (Some (Exactly u)) s t d → ArgumentDiffers p Γ s (arguments.Value e) (value u) d
  process_argument : {t : TermId} {a b c : Kind} {d : Difference} → Takes Γ (tree p t) a c → IsOther (Some (Exactly b)) s c d → ArgumentDiffers p Γ s (arguments.Process t) (process a b) d
  members_argument : {i : CollectionId} {k l : KeyKind} {a b c : Kind} {d : Difference}
      → Collects Γ (collection_tree p i) l a c → IsOther (Some (Exactly (table_kind k b))) s (table_kind l c) d → ArgumentDiffers p Γ s (arguments.Collection i) (collection k a b) d

-- So does the first argument that doesn't fit its parameter.
pub data ArgumentsDiffer (p : Program) (Γ : Context) (s : Spot) : List Argument → Bindings → Difference → Type 0 where
  this_differs : {v : Argument} {x : Name} {k : NameKind} {vs : List Argument} {qs : Bindings} {d : Difference} → ArgumentDiffers p Γ s v k d → ArgumentsDiffer p Γ s (v ∷ vs) ((x, k) ∷ qs) d
  later_differs : {v : Argument} {x : Name} {k : NameKind} {vs : List Argument} {qs : Bindings} {d : Difference}
      → ArgumentFits p Γ v k → ArgumentsDiffer p Γ s vs qs d → ArgumentsDiffer p Γ s (v ∷ vs) ((x, k) ∷ qs) d

-- On inputs of a type, in a call at a spot on these arguments, whose template has a signature, a type differs: within the first
-- of them that isn't typed, where it is an expression; where all are typed, in the first that doesn't fit; where all fit, in the
-- inputs.
pub data CallDiffers (p : Program) (Γ : Context) (s : Spot) (vs : List Argument) (a : Kind) (g : Signature) : Difference → Type 0 where
  argument_within : {e : ExprId} {x : Name} {k : NameKind} {ws : List Argument} {qs : Bindings} {d : Difference}
      → ArgumentsLeft p Γ vs g.parameters (arguments.Value e ∷ ws) ((x, k) ∷ qs) → ExpressionDiffers (program_expressions p) (names_of_values Γ) e d → CallDiffers p Γ s vs a g d
  argument_differs : {d : Difference} → ArgumentsLeft p Γ vs g.parameters [] [] → ArgumentsDiffer p Γ s vs g.parameters d → CallDiffers p Γ s vs a g d
  call_input : {d : Difference} → ArgumentsFit Γ (arguments_of p vs) g.parameters → IsOther (Some (Exactly g.input)) s a d → CallDiffers p Γ s vs a g d

-- On inputs of a type, in the form of a node at a spot, a type differs: what was found is none of those that are wanted in its
-- place.
pub data FormDiffers (p : Program) (Γ : Context) (s : Spot) : Node → Kind → Difference → Type 0 where
  primitive_differs : {q : Primitive} {a : Kind} {d : Difference} → PrimitiveDiffers (program_expressions p) Γ s q a d → FormDiffers p Γ s (nodes.Primitive q) a d
  process_input : {w : Start} {k : NameId} {n : Spot} {a b c : Kind} {d : Difference}
      → kind_named (program_name p k) Γ.bindings ≡ Some (process b c) → IsOther (Some (Exactly b)) s a d → FormDiffers p Γ s (nodes.Named (Process w) k n) a d
  call_itself : {k : NameId} {vs : ArgumentsId} {g : Signature} {a : Kind} {d : Difference}
      → signature_named (program_name p k) Γ.signatures ≡ Some g → CallDiffers p Γ s (argument_nodes p vs) a g d → FormDiffers p Γ s (nodes.Call k vs) a d
  both_inputs : {f g : TermId} {a : Kind} {d : Difference} → IsOther (Some Pair) s a d → FormDiffers p Γ s (nodes.Joined InParallel f g) a d
  side_inputs : {w : Side} {t : TermId} {a : Kind} {d : Difference} → IsOther (Some Pair) s a d → FormDiffers p Γ s (nodes.Sided w t) a d
  head_within : {h : Heading} {v : ExprId} {t : TermId} {a : Kind} {d : Difference} → ExpressionDiffers (program_expressions p) (names_of_values Γ) v d → FormDiffers p Γ s (nodes.Headed h v t) a d
  fed_output : {v : ExprId} {t : TermId} {a c e : Kind} {d : Difference}
      → HasType (names_of_values Γ) (expression (program_expressions p) v) c → Takes Γ (tree p t) (pair_kind a c) e → IsOther (Some (PairWith c)) s e d → FormDiffers p Γ s (nodes.Headed LoopPre v t) a d
  initial_output : {v : ExprId} {t : TermId} {a c e : Kind} {d : Difference}
      → HasType (names_of_values Γ) (expression (program_expressions p) v) c → Takes Γ (tree p t) a e → IsOther (Some (Exactly c)) s e d → FormDiffers p Γ s (nodes.Headed Initialized v t) a d
  followed_output : {v : ExprId} {t : TermId} {a c e : Kind} {d : Difference}
      → HasType (names_of_values Γ) (expression (program_expressions p) v) c → Takes Γ (tree p t) a e → IsOther (Some (Exactly c)) s e d → FormDiffers p Γ s (nodes.Headed Followed v t) a d
  replaced_input : {v : ExprId} {t : TermId} {a c e : Kind} {d : Difference}
      → HasType (names_of_values Γ) (expression (program_expressions p) v) c → Takes Γ (tree p t) a e → IsOther (Some (Exactly a)) s c d → FormDiffers p Γ s (nodes.Headed Replaced v t) a d
  transform_within : {f : FunctionId} {t : TermId} {a : Kind} {d : Difference} → FunctionDiffers (program_expressions p) (names_of_values Γ) f a s d → FormDiffers p Γ s (nodes.Transformed f t) a d
  transformed_input : {f : FunctionId} {t : TermId} {a c e : Kind} {d : Difference}
      → FunctionTakes (names_of_values Γ) (function_at (program_expressions p) f) a c → Takes Γ (tree p t) a e → IsOther (Some (Exactly a)) s c d → FormDiffers p Γ s (nodes.Transformed f t) a d
  source_output : {w : Observation} {t u : TermId} {q : PatternId} {a e : Kind} {d : Difference}
      → Takes Γ (tree p t) a e → IsOther (Some EventBeside) s e d → FormDiffers p Γ s (nodes.Switching (record { form = Basic w; source = t; pattern = q; body = u })) a d
  event_beside : {w : Observation} {t u : TermId} {q : PatternId} {a : Kind} {d : Difference} → IsOther (Some EventBeside) s a d → FormDiffers p Γ s (nodes.Switching (record { form = Recurring w; source = t; pattern = q; body = u })) a d
  switch_body_differs : {w : Switching} {t u : TermId} {q : PatternId} {x a b c : Kind} {d : Difference}
      → BodyWanted p Γ w t x a b c → BodyDiffers p Γ s q u a b c d → FormDiffers p Γ s (nodes.Switching (record { form = w; source = t; pattern = q; body = u })) x d
  observer_output : {w : Observation} {t o u : TermId} {k : NameId} {n : Spot} {q : PatternId} {a b e : Kind} {d : Difference}
      → Takes Γ (tree p t) a b → Takes Γ (tree p o) (pair_kind a b) e → IsOther (Some Event) s e d → FormDiffers p Γ s (nodes.Continuation (record { shown = w; source = t; observer = o; name = k; place = n; pattern = q; body = u })) a d
  continuing_body_differs : {w : Observation} {t o u : TermId} {k : NameId} {n : Spot} {q : PatternId} {a b c : Kind} {d : Difference}
      → Takes Γ (tree p t) a b → Takes Γ (tree p o) (pair_kind a b) (event_kind c) → BodyDiffers p (continuing_inside p k a b Γ) s q u a b c d → FormDiffers p Γ s (nodes.Continuation (record { shown = w; source = t; observer = o; name = k; place = n; pattern = q; body = u })) a d
  their_observer_output : {n : Releasing} {k : KeyKind} {a b e : Kind} {d : Difference}
      → Collects Γ (collection_tree p n.members) k a b → Takes Γ (tree p n.observer) (pair_kind a (table_kind k b)) e → IsOther (Some Event) s e d → FormDiffers p Γ s (nodes.Releasing n) a d
  released_body_differs : {n : Releasing} {k : KeyKind} {a b c : Kind} {d : Difference}
      → Collects Γ (collection_tree p n.members) k a b → Takes Γ (tree p n.observer) (pair_kind a (table_kind k b)) (event_kind c)
      → BodyDiffers p (members_inside p n.name k a b Γ) s n.pattern n.body a (table_kind k b) c d → FormDiffers p Γ s (nodes.Releasing n) a d
  event_beside_members : {n : Editing} {a : Kind} {d : Difference} → IsOther (Some EventBeside) s a d → FormDiffers p Γ s (nodes.Editing n) a d
  members_edit_differs : {n : Editing} {k : KeyKind} {a b c : Kind} {d : Difference}
      → Collects Γ (collection_tree p n.members) k a b → EditDiffers p (members_inside p n.name k a b Γ) s n.pattern n.edit k a b c d → FormDiffers p Γ s (nodes.Editing n) (pair_kind a (event_kind c)) d

mutual
  -- In the term at an id, on inputs of a type, the first rule that is broken is that types fit, and these differ: in the form at
  -- the id itself, or within the part or the collection that is typed next.
  pub data TermDiffers (p : Program) : Context → TermId → Kind → Difference → Type 0 where
    term_itself : {Γ : Context} {i : TermId} {a : Kind} {d : Difference} → FormDiffers p Γ (term_spot_at p i) (term_node_at p i) a d → TermDiffers p Γ i a d
    term_within : {Γ Δ : Context} {i j : TermId} {a b : Kind} {d : Difference} → Reaches p Γ (term_node_at p i) a Δ j b → TermDiffers p Δ j b d → TermDiffers p Γ i a d
    term_members : {Γ Δ : Context} {i : TermId} {c : CollectionId} {a b : Kind} {d : Difference} → ReachesMembers p Γ (term_node_at p i) a Δ c b → CollectionDiffers p Δ (collection_node p c) b d → TermDiffers p Γ i a d

  -- So they do in a collection, on inputs of a type. A key, a member or a condition is looked at behind its parts, at the place of
  -- the collection.
  pub data CollectionDiffers (p : Program) : Context → CollExpr → Kind → Difference → Type 0 where
    used_inputs : {Γ : Context} {x : NameId} {n s : Spot} {k : KeyKind} {a b c : Kind} {d : Difference}
        → kind_named (program_name p x) Γ.bindings ≡ Some (collection k b c) → IsOther (Some (Exactly b)) s a d → CollectionDiffers p Γ (collections.Used x n s) a d
    added_members : {Γ : Context} {o : _} {c : CollExpr} {v : ExprId} {t : TermId} {s : Spot} {a : Kind} {d : Difference} → CollectionDiffers p Γ c a d → CollectionDiffers p Γ (collections.Added' o c v t s) a d
    added_key_within : {Γ : Context} {o : _} {c : CollExpr} {v : ExprId} {t : TermId} {s : Spot} {k : KeyKind} {a b : Kind} {d : Difference}
        → Collects Γ (collection_of p c) k a b → ExpressionDiffers (program_expressions p) (names_of_values Γ) v d → CollectionDiffers p Γ (collections.Added' o c v t s) a d
    member_within : {Γ : Context} {o : _} {c : CollExpr} {v : ExprId} {t : TermId} {s : Spot} {k : KeyKind} {a b u : Kind} {d : Difference}
        → Collects Γ (collection_of p c) k a b → HasType (names_of_values Γ) (expression (program_expressions p) v) u → TermDiffers p Γ t a d → CollectionDiffers p Γ (collections.Added' o c v t s) a d
    added_key : {Γ : Context} {o : _} {c : CollExpr} {v : ExprId} {t : TermId} {s : Spot} {k : KeyKind} {a b u e : Kind} {d : Difference}
        → Collects Γ (collection_of p c) k a b → HasType (names_of_values Γ) (expression (program_expressions p) v) u → Takes Γ (tree p t) a e → IsOther (Some (Exactly (kind_of_keys k))) s u d
        → CollectionDiffers p Γ (collections.Added' o c v t s) a d
    member_output : {Γ : Context} {o : _} {c : CollExpr} {v : ExprId} {t : TermId} {s : Spot} {k : KeyKind} {a b e : Kind} {d : Difference}
        → Collects Γ (collection_of p c) k a b → HasType (names_of_values Γ) (expression (program_expressions p) v) (kind_of_keys k) → Takes Γ (tree p t) a e → IsOther (Some (Exactly b)) s e d
        → CollectionDiffers p Γ (collections.Added' o c v t s) a d
    dropped_members : {Γ : Context} {o : _} {c : CollExpr} {v : ExprId} {s : Spot} {a : Kind} {d : Difference} → CollectionDiffers p Γ c a d → CollectionDiffers p Γ (collections.Dropped' o c v s) a d
    dropped_key_within : {Γ : Context} {o : _} {c : CollExpr} {v : ExprId} {s : Spot} {k : KeyKind} {a b : Kind} {d : Difference}
        → Collects Γ (collection_of p c) k a b → ExpressionDiffers (program_expressions p) (names_of_values Γ) v d → CollectionDiffers p Γ (collections.Dropped' o c v s) a d
    dropped_key : {Γ : Context} {o : _} {c : CollExpr} {v : ExprId} {s : Spot} {k : KeyKind} {a b u : Kind} {d : Difference}
        → Collects Γ (collection_of p c) k a b → HasType (names_of_values Γ) (expression (program_expressions p) v) u → IsOther (Some (Exactly (kind_of_keys k))) s u d → CollectionDiffers p Γ (collections.Dropped' o c v s) a d
    kept_members : {Γ : Context} {o : _} {c : CollExpr} {f : FunctionId} {s : Spot} {a : Kind} {d : Difference} → CollectionDiffers p Γ c a d → CollectionDiffers p Γ (collections.Kept' o c f s) a d
    kept_within : {Γ : Context} {o : _} {c : CollExpr} {f : FunctionId} {s : Spot} {k : KeyKind} {a b : Kind} {d : Difference}
        → Collects Γ (collection_of p c) k a b → FunctionDiffers (program_expressions p) (names_of_values Γ) f (kind_of_keys k) s d → CollectionDiffers p Γ (collections.Kept' o c f s) a d
    kept_truth : {Γ : Context} {o : _} {c : CollExpr} {f : FunctionId} {s : Spot} {k : KeyKind} {a b u : Kind} {d : Difference}
        → Collects Γ (collection_of p c) k a b → FunctionTakes (names_of_values Γ) (function_at (program_expressions p) f) (kind_of_keys k) u → IsOther (Some (Exactly bool_kind)) s u d
        → CollectionDiffers p Γ (collections.Kept' o c f s) a d
    choice_within : {Γ : Context} {o r : _} {v : ExprId} {c e : CollExpr} {s : Spot} {a : Kind} {d : Difference} → ExpressionDiffers (program_expressions p) (names_of_values Γ) v d → CollectionDiffers p Γ (collections.Chosen' v o c r e s) a d
    one_members : {Γ : Context} {o r : _} {v : ExprId} {c e : CollExpr} {s : Spot} {a u : Kind} {d : Difference}
        → HasType (names_of_values Γ) (expression (program_expressions p) v) u → CollectionDiffers p Γ c a d → CollectionDiffers p Γ (collections.Chosen' v o c r e s) a d
    other_members : {Γ : Context} {o r : _} {v : ExprId} {c e : CollExpr} {s : Spot} {k : KeyKind} {a b u : Kind} {d : Difference}
        → HasType (names_of_values Γ) (expression (program_expressions p) v) u → Collects Γ (collection_of p c) k a b → CollectionDiffers p Γ e a d → CollectionDiffers p Γ (collections.Chosen' v o c r e s) a d
    choice_truth : {Γ : Context} {o r : _} {v : ExprId} {c e : CollExpr} {s : Spot} {k l : KeyKind} {a b h u : Kind} {d : Difference}
        → HasType (names_of_values Γ) (expression (program_expressions p) v) u → Collects Γ (collection_of p c) k a b → Collects Γ (collection_of p e) l a h → IsOther (Some (Exactly bool_kind)) s u d
        → CollectionDiffers p Γ (collections.Chosen' v o c r e s) a d
    choice_tables : {Γ : Context} {o r : _} {v : ExprId} {c e : CollExpr} {s : Spot} {k l : KeyKind} {a b h : Kind} {d : Difference}
        → HasType (names_of_values Γ) (expression (program_expressions p) v) bool_kind → Collects Γ (collection_of p c) k a b → Collects Γ (collection_of p e) l a h
        → IsOther (Some (Exactly (table_kind k b))) s (table_kind l h) d → CollectionDiffers p Γ (collections.Chosen' v o c r e s) a d

-- Within an argument of a call, for a parameter of a kind, a type differs.
pub data ArgumentDiffersWithin (p : Program) (Γ : Context) : Argument → NameKind → Difference → Type 0 where
  within_value : {e : ExprId} {k : NameKind} {d : Difference} → ExpressionDiffers (program_expressions p) (names_of_values Γ) e d → ArgumentDiffersWithin p Γ (arguments.Value e) k d
  within_process : {t : TermId} {a b : Kind} {d : Difference} → TermDiffers p Γ t a d → ArgumentDiffersWithin p Γ (arguments.Process t) (process a b) d
  within_members : {i : CollectionId} {k : KeyKind} {a b : Kind} {d : Difference} → CollectionDiffers p Γ (collection_node p i) a d → ArgumentDiffersWithin p Γ (arguments.Collection i) (collection k a b) d

-- what differs in a body or within it
abbrev pub BodyStops : Program → Context → Spot → PatternId → TermId → (a b c : Kind) → Difference → Type 0
BodyStops p Δ s q u a b c d = BodyDiffers p Δ s q u a b c d ⊎ (BindsInside (program_pattern p q) c Δ × TermDiffers p (inside_pattern (program_pattern p q) c Δ) u a d)

-- what differs in an edit or within it
abbrev pub EditUnfit : Program → Context → Spot → PatternId → CollectionId → KeyKind → (a b c : Kind) → Difference → Type 0
EditUnfit p Δ s q u k a b c d = EditDiffers p Δ s q u k a b c d ⊎ (BindsInside (program_pattern p q) c Δ × CollectionDiffers p (inside_pattern (program_pattern p q) c Δ) (collection_node p u) a d)

-- the same by what a body or an edit is typed by
abbrev pub StopsBody : Program → Context → Body → Difference → Type 0
StopsBody p Δ b d = BodyStops p Δ b.spot b.pattern b.term b.input.now b.wanted.now b.payload.now d

abbrev pub StopsEdit : Program → Context → Edit → Difference → Type 0
StopsEdit p Δ e d = EditUnfit p Δ e.spot e.form.pattern e.form.edit (key_kind_of e.wanted.now.keys) e.input.now e.wanted.now.output e.payload.now d

-- With functions of these types, so it is in a template, or its term gives outputs of another type than its header says.
pub data TemplateDiffers (fs : TypesByName) (p : Program) (h : Header) : Difference → Type 0 where
  template_within : {d : Difference} → TermDiffers p (template_context fs (parameters_of h.parameters) (templates_of p)) h.body h.input d → TemplateDiffers fs p h d
  header_output : {b : Kind} {d : Difference}
      → Takes (template_context fs (parameters_of h.parameters) (templates_of p)) (tree p h.body) h.input b → IsOther (Some (Exactly h.output)) (term_spot_at p h.body) b d → TemplateDiffers fs p h d

-- So it is in the first template that isn't typed, of a network whose names differ.
pub record NetworkDiffers (fs : TypesByName) (p : Program) (d : Difference) : Type 0 where
  pub names : NamesDiffer p
  pub place : ℕ
  pub header : Header
  pub at : slice_get (headers_of p) place ≡ Some header
  pub typed : (i : ℕ) (t : Template) → i < place → slice_get (templates_of p) i ≡ Some t → IsTyped fs (templates_of p) t
  pub differs : TemplateDiffers fs p header d
