-- Where the first rule of types is broken, under a context, and which part of a form is typed next.
use Rattle.std.specs.Prelude.{◌≡◌, ◌≢◌, ℕ, ◌<◌, List, ◌∷◌, length, Some, Err, slice_get}
use Rattle.sf_value.specs.Values.{Name, KeyKind, Kind, pair_kind, event_kind, table_kind}
use Rattle.sf_refusal.specs.declared.spot.Spot.{Spot}
use Rattle.sf_refusal.specs.declared.refusal.Breach.{Breach}
use Rattle.sf_func.specs.Registries.{TypesByName}
use Rattle.sf_expr.specs.declared.exprs.ExprId.{ExprId}
use Rattle.sf_expr.specs.declared.exprs.NameId.{NameId}
use Rattle.sf_expr.specs.declared.exprs.PatternId.{PatternId}
use Rattle.sf_expr.specs.declared.exprs.FunctionId.{FunctionId}
use Rattle.sf_expr.specs.Arena.{expression, function_at}
use Rattle.sf_expr.specs.Typing.{Fits, HasType, FunctionTakes}
use Rattle.sf_term.specs.declared.form.Join.TheVariants.{InSequence, InParallel, FannedOut}
use Rattle.sf_term.specs.declared.form.Side.TheVariants.{First, Second}
use Rattle.sf_term.specs.declared.form.Heading.{Heading}
use Rattle.sf_term.specs.declared.form.Heading.TheVariants.{LoopPre}
use Rattle.sf_term.specs.declared.form.Observation.{Observation}
use Rattle.sf_term.specs.declared.form.Switching.{Switching}
use Rattle.sf_term.specs.declared.form.Switching.TheVariants.{Basic, Recurring}
use Rattle.sf_term.specs.declared.node.TermId.{TermId}
use Rattle.sf_term.specs.declared.node.ArgumentsId.{ArgumentsId}
use Rattle.sf_term.specs.declared.node.Argument.{Argument}
use Rattle.sf_term.specs.declared.node.Argument.TheVariants as arguments
use Rattle.sf_term.specs.declared.node.Releasing.{Releasing}
use Rattle.sf_term.specs.declared.node.Editing.{Editing}
use Rattle.sf_term.specs.declared.node.Node.{Node}
use Rattle.sf_term.specs.declared.node.Node.TheVariants as nodes
use Rattle.sf_term.specs.declared.collection.CollectionId.{CollectionId}
use Rattle.sf_term.specs.declared.collection.CollExpr.{CollExpr}
use Rattle.sf_term.specs.declared.program.Program.{Program}
use Rattle.sf_term.specs.Headers.{Header}
use Rattle.sf_term.specs.Trees.{Template}
use Rattle.sf_term.specs.Arena.{tree, program_expressions, argument_nodes, collection_tree, headers_of, templates_of}
use Rattle.sf_mean.specs.Contexts.{NameKind, process, collection, Bindings, Signature, signature_named, Context, names_of_values, inside_pattern}
use Rattle.sf_mean.specs.Typing.{Takes, Collects, IsTyped}
pub use Rattle.sf_check.specs.Standing.{kind_named, program_pattern, program_name, continuing_inside, members_inside, BindsInside}
use Rattle.sf_check.specs.Judging.{members_judged, term_judged, template_judged}

-- a type is none of pairs of a value and an event
abbrev pub IsNoEventBeside : Kind → Type 0
IsNoEventBeside d = (b c : Kind) → d ≢ pair_kind b (event_kind c)

-- the type of the inputs of a part with a value of a type at its head, on inputs of a type: what is fed back stands beside them
abbrev pub under_head : Heading → (given input : Kind) → Kind
under_head LoopPre c a = pair_kind a c
under_head h c a = a

-- On inputs of a type, the first term of a switch keeps its rules. Its body then has inputs of a type, and is to give outputs of
-- another, inside a pattern for payloads of a third.
pub data BodyWanted (p : Program) (Γ : Context) : Switching → TermId → (whole input output payload : Kind) → Type 0 where
  -- the event stands beside the first term's value
  after_source : {w : Observation} {t : TermId} {a b c : Kind} → Takes Γ (tree p t) a (pair_kind b (event_kind c)) → BodyWanted p Γ (Basic w) t a a b c
  -- the event stands beside the input
  beside_input : {w : Observation} {t : TermId} {a b c : Kind} → Takes Γ (tree p t) a b → BodyWanted p Γ (Recurring w) t (pair_kind a (event_kind c)) a b c

-- An argument keeps its rules so far, for a parameter of a kind: an expression has a type, whichever it is, a term stands for a
-- process and takes its inputs, and so does a collection for a collection.
pub data ArgumentKeeps (p : Program) (Γ : Context) : Argument → NameKind → Type 0 where
  value_keeps : {e : ExprId} {k : NameKind} {t : Kind} → HasType (names_of_values Γ) (expression (program_expressions p) e) t → ArgumentKeeps p Γ (arguments.Value e) k
  process_keeps : {t : TermId} {a b c : Kind} → Takes Γ (tree p t) a c → ArgumentKeeps p Γ (arguments.Process t) (process a b)
  collection_keeps : {i : CollectionId} {k l : KeyKind} {a b c : Kind} → Collects Γ (collection_tree p i) l a c → ArgumentKeeps p Γ (arguments.Collection i) (collection k a b)

-- Of arguments, which are as many as parameters, these are left with theirs: those before them keep their rules so far.
pub data ArgumentsLeft (p : Program) (Γ : Context) : List Argument → Bindings → (left : List Argument) (parameters : Bindings) → Type 0 where
  all_left : {vs : List Argument} {qs : Bindings} → length vs ≡ length qs → ArgumentsLeft p Γ vs qs vs qs
  after_one : {v : Argument} {x : Name} {k : NameKind} {vs ws : List Argument} {qs rs : Bindings} → ArgumentKeeps p Γ v k → ArgumentsLeft p Γ vs qs ws rs → ArgumentsLeft p Γ (v ∷ vs) ((x, k) ∷ qs) ws rs

-- In a form on inputs of a type, a part is typed next, under a context and on inputs of its own: what stands before it in the
-- text keeps its rules.
pub data Reaches (p : Program) (Γ : Context) : Node → Kind → Context → TermId → Kind → Type 0 where
  call_argument : {k : NameId} {vs : ArgumentsId} {g : Signature} {t : TermId} {x : Name} {a b c : Kind} {ws : List Argument} {qs : Bindings}
      → signature_named (program_name p k) Γ.signatures ≡ Some g → ArgumentsLeft p Γ (argument_nodes p vs) g.parameters (arguments.Process t ∷ ws) ((x, process b c) ∷ qs) → Reaches p Γ (nodes.Call k vs) a Γ t b
  sequence_left : {f g : TermId} {a : Kind} → Reaches p Γ (nodes.Joined InSequence f g) a Γ f a
  sequence_right : {f g : TermId} {a b : Kind} → Takes Γ (tree p f) a b → Reaches p Γ (nodes.Joined InSequence f g) a Γ g b
  parallel_left : {f g : TermId} {a c : Kind} → Reaches p Γ (nodes.Joined InParallel f g) (pair_kind a c) Γ f a
  parallel_right : {f g : TermId} {a b c : Kind} → Takes Γ (tree p f) a b → Reaches p Γ (nodes.Joined InParallel f g) (pair_kind a c) Γ g c
  fan_left : {f g : TermId} {a : Kind} → Reaches p Γ (nodes.Joined FannedOut f g) a Γ f a
  fan_right : {f g : TermId} {a b : Kind} → Takes Γ (tree p f) a b → Reaches p Γ (nodes.Joined FannedOut f g) a Γ g a
  first_part : {t : TermId} {a c : Kind} → Reaches p Γ (nodes.Sided First t) (pair_kind a c) Γ t a
  second_part : {t : TermId} {a c : Kind} → Reaches p Γ (nodes.Sided Second t) (pair_kind c a) Γ t a
  head_part : {h : Heading} {v : ExprId} {t : TermId} {a c : Kind}
      → HasType (names_of_values Γ) (expression (program_expressions p) v) c → Fits (under_head h c a) → Reaches p Γ (nodes.Headed h v t) a Γ t (under_head h c a)
  transformed_part : {f : FunctionId} {t : TermId} {a c : Kind} → FunctionTakes (names_of_values Γ) (function_at (program_expressions p) f) a c → Reaches p Γ (nodes.Transformed f t) a Γ t a
  switch_source : {w : Observation} {t u : TermId} {q : PatternId} {a : Kind} → Reaches p Γ (nodes.Switching (record { form = Basic w; source = t; pattern = q; body = u })) a Γ t a
  recurring_first : {w : Observation} {t u : TermId} {q : PatternId} {a c : Kind} → Reaches p Γ (nodes.Switching (record { form = Recurring w; source = t; pattern = q; body = u })) (pair_kind a (event_kind c)) Γ t a
  switch_body : {w : Switching} {t u : TermId} {q : PatternId} {x a b c : Kind}
      → BodyWanted p Γ w t x a b c → BindsInside (program_pattern p q) c Γ → Reaches p Γ (nodes.Switching (record { form = w; source = t; pattern = q; body = u })) x (inside_pattern (program_pattern p q) c Γ) u a
  continuing_source : {w : Observation} {t o u : TermId} {k : NameId} {n : Spot} {q : PatternId} {a : Kind} → Reaches p Γ (nodes.Continuation (record { shown = w; source = t; observer = o; name = k; place = n; pattern = q; body = u })) a Γ t a
  continuing_observer : {w : Observation} {t o u : TermId} {k : NameId} {n : Spot} {q : PatternId} {a b : Kind}
      → Takes Γ (tree p t) a b → Fits (pair_kind a b) → Reaches p Γ (nodes.Continuation (record { shown = w; source = t; observer = o; name = k; place = n; pattern = q; body = u })) a Γ o (pair_kind a b)
  continuing_body : {w : Observation} {t o u : TermId} {k : NameId} {n : Spot} {q : PatternId} {a b c : Kind}
      → Takes Γ (tree p t) a b → Takes Γ (tree p o) (pair_kind a b) (event_kind c) → BindsInside (program_pattern p q) c (continuing_inside p k a b Γ)
      → Reaches p Γ (nodes.Continuation (record { shown = w; source = t; observer = o; name = k; place = n; pattern = q; body = u })) a (inside_pattern (program_pattern p q) c (continuing_inside p k a b Γ)) u a
  their_observer : {n : Releasing} {k : KeyKind} {a b : Kind}
      → Collects Γ (collection_tree p n.members) k a b → Fits (pair_kind a (table_kind k b)) → Reaches p Γ (nodes.Releasing n) a Γ n.observer (pair_kind a (table_kind k b))
  releasing_body : {n : Releasing} {k : KeyKind} {a b c : Kind}
      → Collects Γ (collection_tree p n.members) k a b → Takes Γ (tree p n.observer) (pair_kind a (table_kind k b)) (event_kind c) → BindsInside (program_pattern p n.pattern) c (members_inside p n.name k a b Γ)
      → Reaches p Γ (nodes.Releasing n) a (inside_pattern (program_pattern p n.pattern) c (members_inside p n.name k a b Γ)) n.body a

-- In a form on inputs of a type, a collection is typed next, under a context and on inputs of its own.
pub data ReachesMembers (p : Program) (Γ : Context) : Node → Kind → Context → CollectionId → Kind → Type 0 where
  argument_members : {f : NameId} {vs : ArgumentsId} {g : Signature} {i : CollectionId} {x : Name} {k : KeyKind} {a b c : Kind} {ws : List Argument} {qs : Bindings}
      → signature_named (program_name p f) Γ.signatures ≡ Some g → ArgumentsLeft p Γ (argument_nodes p vs) g.parameters (arguments.Collection i ∷ ws) ((x, collection k b c) ∷ qs) → ReachesMembers p Γ (nodes.Call f vs) a Γ i b
  gathered_members : {i : CollectionId} {a : Kind} → ReachesMembers p Γ (nodes.Gathered i) a Γ i a
  releasing_members : {n : Releasing} {a : Kind} → ReachesMembers p Γ (nodes.Releasing n) a Γ n.members a
  editing_members : {n : Editing} {a c : Kind} → ReachesMembers p Γ (nodes.Editing n) (pair_kind a (event_kind c)) Γ n.members a
  their_edit : {n : Editing} {k : KeyKind} {a b c : Kind}
      → Collects Γ (collection_tree p n.members) k a b → BindsInside (program_pattern p n.pattern) c (members_inside p n.name k a b Γ)
      → ReachesMembers p Γ (nodes.Editing n) (pair_kind a (event_kind c)) (inside_pattern (program_pattern p n.pattern) c (members_inside p n.name k a b Γ)) n.edit a

-- In the term at an id, on inputs of a type, this is the first rule, in the order of the text, that is broken.
pub record TermBreaks (p : Program) (Γ : Context) (t : TermId) (a : Kind) (e : Breach) : Type 0 where
  pub first : term_judged p t Γ a ≡ Err e

-- So it is in a collection.
pub record CollectionBreaks (p : Program) (Γ : Context) (c : CollExpr) (a : Kind) (e : Breach) : Type 0 where
  pub first : members_judged p (term_judged p) c Γ a ≡ Err e

-- With functions of these types, this is the first rule that is broken in a template, or that the whole term doesn't give its
-- header's output.
pub record TemplateBreaks (fs : TypesByName) (p : Program) (h : Header) (e : Breach) : Type 0 where
  pub first : template_judged fs p h ≡ Err e

-- each template has parameters within the bound, and its term takes its header's input to its header's output
abbrev pub AreTyped : TypesByName → Program → Type 0
AreTyped fs p = (i : ℕ) (t : Template) → slice_get (templates_of p) i ≡ Some t → IsTyped fs (templates_of p) t

-- In the first template that isn't typed, this is the first rule that is broken.
pub record IsFirstBreak (fs : TypesByName) (p : Program) (e : Breach) : Type 0 where
  pub place : ℕ
  pub header : Header
  pub at : slice_get (headers_of p) place ≡ Some header
  pub typed : (i : ℕ) (t : Template) → i < place → slice_get (templates_of p) i ≡ Some t → IsTyped fs (templates_of p) t
  pub broken : TemplateBreaks fs p header e
