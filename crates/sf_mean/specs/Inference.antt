-- The output types of terms under a context, found by a function.
use Rattle.std.specs.Prelude.{[], ◌∷◌, nat_le, Bool, true, false, ◌&&◌, cond, Option, Some, None}
use Rattle.sf_expr.specs.Expressions.{Pattern}
use Rattle.sf_value.specs.Values.{Name, KeyKind, Kind, bool_kind, pair_kind, nodes, event_kind, table_kind}
use Rattle.sf_operator.specs.Kinds.{same_kind, only, parts_of, payload_of, columns_of, kind_of_keys}
use Rattle.sf_expr.specs.Inference.{found_then, fitting, names_bound, expression_type, function_output}
use Rattle.sf_term.specs.declared.form.Join.{Join}
use Rattle.sf_term.specs.declared.form.Join.TheVariants.{InSequence, InParallel, FannedOut}
use Rattle.sf_term.specs.declared.form.Side.{Side}
use Rattle.sf_term.specs.declared.form.Side.TheVariants.{First, Second}
use Rattle.sf_term.specs.declared.form.Heading.{Heading}
use Rattle.sf_term.specs.declared.form.Heading.TheVariants.{LoopPre, Initialized, Replaced, Followed}
use Rattle.sf_term.specs.Trees.{Chain, lone, chained, on_side, on_both, fanned, Primitive, bare, probe, never, with_value, timed, selected, arrow, accumulated, fused, Term, primitive, Reference, reference, started, call, Arguments, no_arguments, value_argument, process_argument, collection_argument, closed_argument, joined, sided, headed, transformed, switching, continuing, gathered, releasing, editing, staged, Collection, without_members, used, added, dropped, kept, chosen}
use Rattle.sf_term.specs.declared.form.Switching.{Switching}
use Rattle.sf_term.specs.declared.form.Switching.TheVariants.{Basic, Recurring}
use Rattle.sf_term.specs.Parameters.{NameKind, value, process, collection, Bindings}
use Rattle.sf_mean.specs.Contexts.{Context, Signature, signature_named, names_of_values, inside_pattern, inside_process, inside_collection, process_named, collection_named}
use Rattle.sf_mean.specs.Typing.{bare_kind, value_kind, takes_input, takes_time, timed_kind, takes_number, selected_kind, accumulated_argument, accumulated_kind}

-- What finds an output type for an input type, if inputs of that type are taken.
abbrev pub Finds : Type 0
Finds = Kind → Option Kind

-- the type of pairs of two outputs
abbrev pub both_outputs : Option Kind → Option Kind → Option Kind
both_outputs (Some t) (Some u) = Some (pair_kind t u)
both_outputs (Some t) None = None
both_outputs None u = None

-- the output of two parts that are joined
abbrev pub join_output : Join → Finds → Finds → Finds
join_output InSequence f g a = found_then (f a) g
join_output InParallel f g a = found_then (parts_of a) (λ p. both_outputs (f p.0) (g p.1))
join_output FannedOut f g a = both_outputs (f a) (g a)

-- the output of a part on one side of a pair
abbrev pub side_output : Side → Finds → Finds
side_output First f a = found_then (parts_of a) (λ p. both_outputs (f p.0) (Some p.1))
side_output Second f a = found_then (parts_of a) (λ p. both_outputs (Some p.0) (f p.1))

-- the first part of a type of pairs whose second part is this type
abbrev pub first_beside : Kind → Finds
first_beside c a = found_then (parts_of a) (λ p. cond (same_kind c p.1) (Some p.0) None)

-- the output of a part with a value of the type that was found: of one whose second output is fed back, of one whose first
-- value this one replaces, of one whose first input it replaces, or of one whose values it stands before
abbrev pub heading_output : Heading → Option Kind → Finds → Finds
heading_output LoopPre None f a = None
heading_output LoopPre (Some c) f a = found_then (f (pair_kind a c)) (first_beside c)
heading_output Initialized None f a = None
heading_output Initialized (Some c) f a = found_then (f a) (λ b. only b c (Some b))
heading_output Replaced None f a = None
heading_output Replaced (Some c) f a = only c a (f a)
heading_output Followed None f a = None
heading_output Followed (Some c) f a = found_then (f a) (λ b. only b c (Some b))

-- the output of a part whose first input is made by a function with an output of the type that was found
abbrev pub transformed_output : Option Kind → Finds → Finds
transformed_output None f a = None
transformed_output (Some c) f a = only c a (f a)

-- the output of a switch's body, which is found under what its pattern binds for a payload, and has to be this one
abbrev pub body_output : Context → Pattern → (Context → Finds) → (payload input output : Kind) → Option Kind
body_output Γ p body c a b = found_then (names_bound p c (names_of_values Γ)) (λ R. found_then (body (inside_pattern p c Γ) a) (λ d. only d b (Some d)))

-- the output of a switch: its event stands beside the value of its first term, or, where it recurs, beside the input
abbrev pub switch_output : Context → Switching → Pattern → Finds → (Context → Finds) → Finds
switch_output Γ (Basic w) p source body a = found_then (found_then (source a) parts_of) (λ k. found_then (payload_of k.1) (λ c. body_output Γ p body c a k.0))
switch_output Γ (Recurring w) p source body x = found_then (parts_of x) (λ k. found_then (payload_of k.1) (λ c. found_then (source k.0) (λ b. body_output Γ p body c k.0 b)))

-- the output of a switch that keeps its source under a name: its event is what the observer gives to inputs beside the source's values
abbrev pub continuing_output : Context → Name → Pattern → Finds → Finds → (Context → Finds) → Finds
continuing_output Γ k p source observer body a =
    found_then (source a) (λ b. found_then (observer (pair_kind a b)) (λ e. found_then (payload_of e) (λ c. body_output (inside_process k a b Γ) p body c a b)))

-- What finds what a collection gives for inputs of a type, if its members take them: a type of tables.
-- The collection of these types, if there is one.
abbrev pub used_output : Option (KeyKind × Kind × Kind) → Finds
used_output o a = found_then o (λ c. only a c.1 (Some (table_kind c.0 c.2)))

-- a type of tables, where this is the type of its keys
abbrev pub keyed_table : Option Kind → Kind → Option Kind
keyed_table key t = found_then (columns_of t) (λ c. found_then key (λ k. only k (kind_of_keys c.0) (Some t)))

-- the same where a member has this output
abbrev pub with_member : (key output : Option Kind) → Kind → Option Kind
with_member key output t = found_then (columns_of t) (λ c. found_then key (λ k. only k (kind_of_keys c.0) (found_then output (λ b. only b c.1 (Some t)))))

-- the same where a function takes its keys to truths
abbrev pub finds_kept : Finds → Kind → Option Kind
finds_kept f t = found_then (columns_of t) (λ c. found_then (f (kind_of_keys c.0)) (λ b. only b bool_kind (Some t)))

-- the same for both of two, of which a truth chooses
abbrev pub one_of_both : Option Kind → Option Kind → Option Kind → Option Kind
one_of_both o t u = found_then o (λ b. only b bool_kind (found_then t (λ t. found_then u (λ u. only u t (Some t)))))

-- what a body is found under inside the name of members that give tables of a type
abbrev pub inside_members : Name → Kind → Kind → Context → Option Context
inside_members x a t Γ = found_then (columns_of t) (λ c. Some (inside_collection x c.0 a c.1 Γ))

-- the output of members that give way at the event of an observer, which is given inputs beside their tables
abbrev pub releasing_output : Context → Name → Pattern → Finds → Finds → (Context → Finds) → Finds
releasing_output Γ x p members observer body a =
    found_then (members a) (λ t. found_then (observer (pair_kind a t)) (λ e. found_then (payload_of e) (λ c. found_then (inside_members x a t Γ) (λ Δ. body_output Δ p body c a t))))

-- the output of members that are edited at the event beside an input
abbrev pub editing_output : Context → Name → Pattern → Finds → (Context → Finds) → Finds
editing_output Γ x p members edit y =
    found_then (parts_of y) (λ k. found_then (payload_of k.1) (λ c. found_then (members k.0) (λ t. found_then (inside_members x k.0 t Γ) (λ Δ. body_output Δ p edit c k.0 t))))

-- the output of a process of these types, if there is one
abbrev pub process_output : Option (Kind × Kind) → Finds
process_output o a = found_then o (λ k. only a k.0 (Some k.1))

-- the output of functions made into one
abbrev pub chain_output : Context → Chain → Finds
chain_output Γ (lone f) a = function_output (names_of_values Γ) f a
chain_output Γ (chained f g) a = join_output InSequence (chain_output Γ f) (chain_output Γ g) a
chain_output Γ (on_side d f) a = side_output d (chain_output Γ f) a
chain_output Γ (on_both f g) a = join_output InParallel (chain_output Γ f) (chain_output Γ g) a
chain_output Γ (fanned f g) a = join_output FannedOut (chain_output Γ f) (chain_output Γ g) a

-- the output of a primitive
abbrev pub primitive_output : Context → Primitive → Finds
primitive_output Γ (bare k) a = found_then (bare_kind k a) fitting
primitive_output Γ (probe k) a = fitting a
primitive_output Γ (never t) a = fitting (event_kind t)
primitive_output Γ (with_value k e) a = found_then (found_then (expression_type (names_of_values Γ) e) (λ v. value_kind k v a)) fitting
primitive_output Γ (arrow f) a = function_output (names_of_values Γ) f a
primitive_output Γ (timed k q e) a = found_then (expression_type (names_of_values Γ) e) (λ v. cond (takes_input k v a && takes_time k q) (found_then (timed_kind k v) fitting) None)
primitive_output Γ (selected k n) a = found_then (selected_kind a) (λ b. cond (takes_number n) (fitting b) None)
primitive_output Γ (accumulated k e f) a =
    found_then (expression_type (names_of_values Γ) e) (λ v. found_then (accumulated_argument k v a) (λ c. found_then (function_output (names_of_values Γ) f c) (λ u. found_then (accumulated_kind k v a u) fitting)))
primitive_output Γ (fused f) a = found_then (chain_output Γ f a) fitting

-- inputs and outputs have types of at most 256 nodes
abbrev pub finds_fitting : Finds → Finds
finds_fitting f a = cond (nat_le (nodes a) 256) (found_then (f a) fitting) None

-- a type was found, and it is this one
abbrev pub is_found : Option Kind → Kind → Bool
is_found None t = false
is_found (Some u) t = same_kind u t

-- a value of the type that was found is an argument for a parameter
abbrev pub value_is_argument : Option Kind → NameKind → Bool
value_is_argument o (value t) = is_found o t
value_is_argument o (process a b) = false
value_is_argument o (collection k a b) = false

-- a term is an argument for a parameter
abbrev pub process_is_argument : Finds → NameKind → Bool
process_is_argument f (value t) = false
process_is_argument f (process a b) = is_found (f a) b
process_is_argument f (collection k a b) = false

-- a collection is an argument for a parameter
abbrev pub collection_is_argument : Finds → NameKind → Bool
collection_is_argument f (value t) = false
collection_is_argument f (process a b) = false
collection_is_argument f (collection k a b) = is_found (f a) (table_kind k b)

-- the output of a call of a template with this header, if there is one, where it is known what its arguments fit
abbrev pub call_output : Option Signature → (Bindings → Bool) → Finds
call_output None f a = None
call_output (Some s) f a = cond (f s.parameters) (only a s.input (Some s.output)) None

abbrev mutual
  -- the output of each form of terms, where the types of its parts have at most 256 nodes
  pub form_output : Context → Term → Finds
  form_output Γ (primitive p) a = primitive_output Γ p a
  form_output Γ (reference r) a = reference_output Γ r a
  form_output Γ (joined j f g) a = join_output j (finds_fitting (form_output Γ f)) (finds_fitting (form_output Γ g)) a
  form_output Γ (sided d t) a = side_output d (finds_fitting (form_output Γ t)) a
  form_output Γ (headed h e t) a = heading_output h (expression_type (names_of_values Γ) e) (finds_fitting (form_output Γ t)) a
  form_output Γ (transformed f t) a = transformed_output (function_output (names_of_values Γ) f a) (finds_fitting (form_output Γ t)) a
  form_output Γ (switching w t p u) a = switch_output Γ w p (finds_fitting (form_output Γ t)) (λ Δ. finds_fitting (form_output Δ u)) a
  form_output Γ (continuing w t q k p u) a = continuing_output Γ k p (finds_fitting (form_output Γ t)) (finds_fitting (form_output Γ q)) (λ Δ. finds_fitting (form_output Δ u)) a
  form_output Γ (gathered i) a = collection_output Γ i a
  form_output Γ (releasing w i q k p u) a = releasing_output Γ k p (collection_output Γ i) (finds_fitting (form_output Γ q)) (λ Δ. finds_fitting (form_output Δ u)) a
  form_output Γ (editing w i k p u) a = editing_output Γ k p (collection_output Γ i) (λ Δ. collection_output Δ u) a
  form_output Γ (staged x f g) a = join_output InSequence (finds_fitting (form_output Γ f)) (finds_fitting (form_output Γ g)) a

  -- the output of what is referred to
  pub reference_output : Context → Reference → Finds
  reference_output Γ (started w k) a = process_output (process_named k Γ.bindings) a
  reference_output Γ (call g vs) a = call_output (signature_named g Γ.signatures) (arguments_fit Γ vs) a

  -- what a collection gives
  pub collection_output : Context → Collection → Finds
  collection_output Γ (without_members k b) a = Some (table_kind k b)
  collection_output Γ (used x) a = used_output (collection_named x Γ.bindings) a
  collection_output Γ (added i j t) a = found_then (collection_output Γ i a) (with_member (expression_type (names_of_values Γ) j) (finds_fitting (form_output Γ t) a))
  collection_output Γ (dropped i j) a = found_then (collection_output Γ i a) (keyed_table (expression_type (names_of_values Γ) j))
  collection_output Γ (kept i f) a = found_then (collection_output Γ i a) (finds_kept (function_output (names_of_values Γ) f))
  collection_output Γ (chosen j i h) a = one_of_both (expression_type (names_of_values Γ) j) (collection_output Γ i a) (collection_output Γ h a)

  -- arguments are as many as parameters, and each is one for its parameter
  pub arguments_fit : Context → Arguments → Bindings → Bool
  arguments_fit Γ no_arguments [] = true
  arguments_fit Γ no_arguments (q ∷ qs) = false
  arguments_fit Γ (value_argument i vs) [] = false
  arguments_fit Γ (value_argument i vs) (q ∷ qs) = value_is_argument (expression_type (names_of_values Γ) i) q.1 && arguments_fit Γ vs qs
  arguments_fit Γ (process_argument t vs) [] = false
  arguments_fit Γ (process_argument t vs) (q ∷ qs) = process_is_argument (finds_fitting (form_output Γ t)) q.1 && arguments_fit Γ vs qs
  arguments_fit Γ (collection_argument i vs) [] = false
  arguments_fit Γ (collection_argument i vs) (q ∷ qs) = collection_is_argument (collection_output Γ i) q.1 && arguments_fit Γ vs qs
  arguments_fit Γ (closed_argument t vs) [] = false
  arguments_fit Γ (closed_argument t vs) (q ∷ qs) = process_is_argument (finds_fitting (form_output Γ t)) q.1 && arguments_fit Γ vs qs

-- the type of the outputs of a term for inputs of a type, if it takes them
abbrev pub term_output : Context → Term → Finds
term_output Γ t = finds_fitting (form_output Γ t)
