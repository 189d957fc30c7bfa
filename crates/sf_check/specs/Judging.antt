-- The types that terms take inputs to, or the first rule that each breaks: its parts are looked at in the order of the text, and then the form itself.
use Rattle.std.specs.Prelude.{◌≡◌, ℕ, suc, zero, nat_eq, nat_le, Bool, true, false, ◌&&◌, List, [], ◌∷◌, length, Option, Some, None, Result, Ok, Err}
use Rattle.sf_value.specs.Values.{KeyKind, Kind, bool_kind, pair_kind, event_kind, table_kind}
use Rattle.sf_value.specs.Values
use Rattle.sf_value.specs.KindView.{key_kind_of}
use Rattle.sf_refusal.specs.declared.spot.Spot.{Spot}
use Rattle.sf_refusal.specs.declared.rule.Rule.{Rule}
use Rattle.sf_refusal.specs.declared.rule.Rule.TheVariants.{UnknownName, Arity, Mismatch, BarePre, BadConstant}
use Rattle.sf_refusal.specs.declared.refusal.Breach.{Breach}
use Rattle.sf_refusal.specs.declared.refusal.Refusal.{Refusal}
use Rattle.sf_refusal.specs.Refusals.{breach_of}
use Rattle.sf_func.specs.Registries.{TypesByName}
use Rattle.sf_operator.specs.Kinds.{same_kind, parts_of, payload_of, kind_of_keys}
use Rattle.sf_expr.specs.declared.exprs.PatternId.{PatternId}
use Rattle.sf_expr.specs.declared.exprs.Exprs.{Exprs}
use Rattle.sf_expr.specs.Arena.{literal_at, stored_pattern}
use Rattle.sf_expr.specs.Judging.{◌>>=◌, matching_at, judged_fitting, judged_binding, judged, function_judged, Stops}
use Rattle.sf_term.specs.declared.form.Bare.{Bare}
use Rattle.sf_term.specs.declared.form.Bare.TheVariants.{Pre}
use Rattle.sf_term.specs.declared.form.Join.TheVariants.{InSequence, InParallel, FannedOut}
use Rattle.sf_term.specs.declared.form.Side.TheVariants.{First, Second}
use Rattle.sf_term.specs.declared.form.Heading.TheVariants.{LoopPre, Replaced, Initialized, Followed}
use Rattle.sf_term.specs.declared.form.Naming.TheVariants.{Process, Probe}
use Rattle.sf_term.specs.declared.form.Switching.{Switching}
use Rattle.sf_term.specs.declared.form.Switching.TheVariants.{Basic, Recurring}
use Rattle.sf_term.specs.declared.node.TermId.{TermId}
use Rattle.sf_term.specs.declared.node.Argument.{Argument}
use Rattle.sf_term.specs.declared.node.Argument.TheVariants as arguments
use Rattle.sf_term.specs.declared.node.Primitive.{Primitive}
use Rattle.sf_term.specs.declared.node.Primitive.TheVariants as primitives
use Rattle.sf_term.specs.declared.node.Switch.{Switch}
use Rattle.sf_term.specs.declared.node.Node.{Node}
use Rattle.sf_term.specs.declared.node.Node.TheVariants as nodes
use Rattle.sf_term.specs.declared.collection.CollExpr.{CollExpr}
use Rattle.sf_term.specs.declared.collection.CollExpr.TheVariants as collections
use Rattle.sf_term.specs.declared.program.Program.{Program}
use Rattle.sf_term.specs.Entries.{absent_payload}
use Rattle.sf_term.specs.Headers.{Header}
use Rattle.sf_term.specs.Parameters.{parameters_of}
use Rattle.sf_term.specs.Arena.{term_number, term_node_at, term_spot_at, program_expressions, argument_nodes, collection_node, templates_of}
use Rattle.sf_mean.specs.Contexts.{NameKind, value, process, collection, Bindings, Signature, signature_named, Context, names_of_values, template_context, inside_pattern}
use Rattle.sf_mean.specs.Typing.{bare_kind, value_kind, takes_input, takes_time, timed_kind, takes_number, selected_kind, accumulated_argument, accumulated_kind}
use Rattle.sf_mean.specs.Inference.{value_is_argument}
use Rattle.sf_check.specs.Standing.{kind_named, program_pattern, program_name, continuing_inside, members_inside}
use Rattle.sf_check.specs.declared.body.Body.{Body}
use Rattle.sf_check.specs.declared.body.Edit.{Edit}
use Rattle.sf_check.specs.declared.member_types.MemberTypes.{MemberTypes}

-- whether a type has at most 256 nodes, as those of inputs have
abbrev pub is_bounded : Kind → Bool
is_bounded t = nat_le (Values.nodes t) 256

-- nothing where a test holds, else the rule that is broken at a place
abbrev pub asked : Rule → Spot → Bool → Result (Unit {0}) Breach
asked r s true = Ok tt
asked r s false = Err (breach_of r s)

-- what was found, else the rule that is broken at a place
abbrev pub found_or_broken : {A : Type 0} → Rule → Spot → Option A → Result A Breach
found_or_broken r s None = Err (breach_of r s)
found_or_broken r s (Some x) = Ok x

-- the type of a value and that of the payload of the event beside it, of a type of pairs of both
abbrev pub judged_beside : Spot → Kind → Result (Kind × Kind) Breach
judged_beside s a = do
  k ← matching_at s (parts_of a)
  c ← matching_at s (payload_of k.1)
  Ok (k.0, c)

-- a type of outputs, where it is the one that is wanted
abbrev pub wanted_at : Spot → (found wanted : Kind) → Result Kind Breach
wanted_at s d b = do
  _ ← asked Mismatch s (same_kind d b)
  Ok d

-- the first part of a type of pairs whose second part is the one that is fed back
abbrev pub judged_fed : Spot → (found fed : Kind) → Result Kind Breach
judged_fed s d c = do
  k ← matching_at s (parts_of d)
  _ ← asked Mismatch s (same_kind k.1 c)
  Ok k.0

-- the types of the process that a name stands for, at its place
abbrev pub judged_process : Spot → Option NameKind → Result (Kind × Kind) Breach
judged_process n None = Err (breach_of UnknownName n)
judged_process n (Some (value t)) = Err (breach_of Mismatch n)
judged_process n (Some (process a b)) = Ok (a, b)
judged_process n (Some (collection k a b)) = Err (breach_of Mismatch n)

-- the types of the collection that a name stands for, at its place: of its keys, and of its members' inputs and outputs
abbrev pub judged_collection : Spot → Option NameKind → Result (KeyKind × Kind × Kind) Breach
judged_collection n None = Err (breach_of UnknownName n)
judged_collection n (Some (value t)) = Err (breach_of Mismatch n)
judged_collection n (Some (process a b)) = Err (breach_of Mismatch n)
judged_collection n (Some (collection k a b)) = Ok (k, a, b)

-- under a context, what inputs of a type are taken to, or the first rule that is broken
abbrev pub Answer : Type 0 → Type 0
Answer A = Context → Kind → Result A Breach

-- the type that a term takes inputs of a type to
abbrev pub TermJudge : Type 0
TermJudge = Answer Kind

-- the types of a collection whose members take inputs of a type: of its keys and of their outputs
abbrev pub MembersJudge : Type 0
MembersJudge = Answer (KeyKind × Kind)

-- `pre` stands behind `-->` alone
abbrev pub bare_judged : Spot → Bare → Kind → Result Kind Breach
bare_judged s Pre a = Err (breach_of BarePre s)
bare_judged s k a = judged_fitting s (bare_kind k a)

-- the type that a primitive takes inputs of a type to
abbrev pub primitive_judged : Exprs → Spot → Primitive → TermJudge
primitive_judged x s (primitives.Bare k) Γ a = bare_judged s k a
primitive_judged x s (primitives.Never n) Γ a = judged_fitting s (Some (event_kind (absent_payload (literal_at x n))))
primitive_judged x s (primitives.WithValue k v) Γ a = do
  t ← judged x v (names_of_values Γ)
  judged_fitting s (value_kind k t a)
primitive_judged x s (primitives.Timed k q v) Γ a = do
  t ← judged x v (names_of_values Γ)
  _ ← asked Mismatch s (takes_input k t a)
  _ ← asked BadConstant s (takes_time k q)
  judged_fitting s (timed_kind k t)
primitive_judged x s (primitives.Selected k n) Γ a = do
  b ← judged_fitting s (selected_kind a)
  _ ← asked BadConstant s (takes_number n)
  Ok b
primitive_judged x s (primitives.Arrow f) Γ a = function_judged x f s a (names_of_values Γ)
primitive_judged x s (primitives.Accumulated k v f) Γ a = do
  t ← judged x v (names_of_values Γ)
  c ← judged_fitting s (accumulated_argument k t a)
  u ← function_judged x f s c (names_of_values Γ)
  judged_fitting s (accumulated_kind k t a u)

-- The type of the outputs of a body on inputs of a type, which is the one that is wanted of it inside a pattern for payloads
-- of a type.
abbrev pub body_judged : Program → Spot → PatternId → TermJudge → (input output payload : Kind) → Context → Result Kind Breach
body_judged p s q body a b c Γ = do
  _ ← judged_binding s (stored_pattern (program_expressions p) q) c (names_of_values Γ)
  d ← body (inside_pattern (program_pattern p q) c Γ) a
  wanted_at s d b

-- the same of the types of an edit
abbrev pub edit_judged : Program → Spot → PatternId → MembersJudge → Kind → KeyKind × Kind → (payload : Kind) → Context → Result (KeyKind × Kind) Breach
edit_judged p s q edit a m c Γ = do
  _ ← judged_binding s (stored_pattern (program_expressions p) q) c (names_of_values Γ)
  e ← edit (inside_pattern (program_pattern p q) c Γ) a
  _ ← asked Mismatch s (same_kind (table_kind e.0 e.1) (table_kind m.0 m.1))
  Ok e

module _ (p : Program) (part : TermId → TermJudge) where
  -- the types of a collection, by those of its terms
  abbrev pub members_judged : CollExpr → MembersJudge
  members_judged (collections.Empty k t s) Γ a = Ok (key_kind_of k, t)
  members_judged (collections.Used x n s) Γ a = do
    m ← judged_collection n (kind_named (program_name p x) Γ.bindings)
    _ ← asked Mismatch s (same_kind a m.1)
    Ok (m.0, m.2)
  members_judged (collections.Added' o c v t s) Γ a = do
    m ← members_judged c Γ a
    u ← judged (program_expressions p) v (names_of_values Γ)
    d ← part t Γ a
    _ ← asked Mismatch s (same_kind u (kind_of_keys m.0))
    _ ← asked Mismatch s (is_bounded a && same_kind d m.1)
    Ok m
  members_judged (collections.Dropped' o c v s) Γ a = do
    m ← members_judged c Γ a
    u ← judged (program_expressions p) v (names_of_values Γ)
    _ ← asked Mismatch s (same_kind u (kind_of_keys m.0))
    Ok m
  members_judged (collections.Kept' o c f s) Γ a = do
    m ← members_judged c Γ a
    u ← function_judged (program_expressions p) f s (kind_of_keys m.0) (names_of_values Γ)
    _ ← asked Mismatch s (same_kind u bool_kind)
    Ok m
  members_judged (collections.Chosen' v o c r d s) Γ a = do
    u ← judged (program_expressions p) v (names_of_values Γ)
    m ← members_judged c Γ a
    l ← members_judged d Γ a
    _ ← asked Mismatch s (same_kind u bool_kind)
    _ ← asked Mismatch s (same_kind (table_kind l.0 l.1) (table_kind m.0 m.1))
    Ok m

  -- whether an argument of a call at a place is of the type or types of its parameter, or the first rule that it breaks: a
  -- term stands for no value and no collection, and a collection for no value and no process
  abbrev pub argument_judged : Spot → Context → Argument → NameKind → Result Bool Breach
  argument_judged s Γ (arguments.Value v) k = do
    t ← judged (program_expressions p) v (names_of_values Γ)
    Ok (value_is_argument (Some t) k)
  argument_judged s Γ (arguments.Process t) (value u) = Err (breach_of Mismatch s)
  argument_judged s Γ (arguments.Process t) (process a b) = do
    c ← part t Γ a
    Ok (is_bounded a && same_kind c b)
  argument_judged s Γ (arguments.Process t) (collection k a b) = Err (breach_of Mismatch s)
  argument_judged s Γ (arguments.Collection i) (value u) = Err (breach_of Mismatch s)
  argument_judged s Γ (arguments.Collection i) (process a b) = Err (breach_of Mismatch s)
  argument_judged s Γ (arguments.Collection i) (collection k a b) = do
    m ← members_judged (collection_node p i) Γ a
    Ok (same_kind (table_kind m.0 m.1) (table_kind k b))

  -- whether each of the arguments is, one after another
  abbrev pub arguments_judged : Spot → Context → List Argument → Bindings → Result Bool Breach
  arguments_judged s Γ [] qs = Ok true
  arguments_judged s Γ (v ∷ vs) [] = Ok true
  arguments_judged s Γ (v ∷ vs) (q ∷ qs) = do
    fits ← argument_judged s Γ v q.1
    rest ← arguments_judged s Γ vs qs
    Ok (fits && rest)

  -- The type that a call takes inputs of a type to: its template is there and takes as many arguments, before these are looked
  -- at; that they fit its parameters, and the inputs its header, is looked at last.
  abbrev pub call_judged : Spot → Context → Option Signature → List Argument → Kind → Result Kind Breach
  call_judged s Γ o vs a = do
    g ← found_or_broken UnknownName s o
    _ ← asked Arity s (nat_eq (length vs) (length g.parameters))
    fit ← arguments_judged s Γ vs g.parameters
    _ ← asked Mismatch s (fit && same_kind a g.input)
    judged_fitting s (Some g.output)

  -- The type that a switch of a form at a place takes inputs of a type to: the event stands beside the value of its first term,
  -- or beside the input.
  abbrev pub switch_judged : Spot → Switch → Switching → TermJudge
  switch_judged s n (Basic w) Γ a = do
    d ← part n.source Γ a
    k ← judged_beside s d
    body_judged p s n.pattern (part n.body) a k.0 k.1 Γ
  switch_judged s n (Recurring w) Γ a = do
    k ← judged_beside s a
    b ← part n.source Γ k.0
    body_judged p s n.pattern (part n.body) k.0 b k.1 Γ

  -- the type that a form at a place takes inputs of a type to, by those of its parts
  abbrev pub node_judged : Spot → Node → TermJudge
  node_judged s (nodes.Primitive q) Γ a = primitive_judged (program_expressions p) s q Γ a
  node_judged s (nodes.Named (Process w) x n) Γ a = do
    k ← judged_process n (kind_named (program_name p x) Γ.bindings)
    _ ← asked Mismatch s (same_kind a k.0)
    judged_fitting s (Some k.1)
  node_judged s (nodes.Named Probe x n) Γ a = judged_fitting s (Some a)
  node_judged s (nodes.Call x vs) Γ a = call_judged s Γ (signature_named (program_name p x) Γ.signatures) (argument_nodes p vs) a
  node_judged s (nodes.Joined InSequence f g) Γ a = do
    b ← part f Γ a
    part g Γ b
  node_judged s (nodes.Joined InParallel f g) Γ a = do
    k ← matching_at s (parts_of a)
    b ← part f Γ k.0
    c ← part g Γ k.1
    judged_fitting s (Some (pair_kind b c))
  node_judged s (nodes.Joined FannedOut f g) Γ a = do
    b ← part f Γ a
    c ← part g Γ a
    judged_fitting s (Some (pair_kind b c))
  node_judged s (nodes.Sided First f) Γ a = do
    k ← matching_at s (parts_of a)
    b ← part f Γ k.0
    judged_fitting s (Some (pair_kind b k.1))
  node_judged s (nodes.Sided Second f) Γ a = do
    k ← matching_at s (parts_of a)
    b ← part f Γ k.1
    judged_fitting s (Some (pair_kind k.0 b))
  node_judged s (nodes.Headed LoopPre v f) Γ a = do
    c ← judged (program_expressions p) v (names_of_values Γ)
    fed ← judged_fitting s (Some (pair_kind a c))
    d ← part f Γ fed
    judged_fed s d c
  node_judged s (nodes.Headed Replaced v f) Γ a = do
    c ← judged (program_expressions p) v (names_of_values Γ)
    d ← part f Γ a
    _ ← asked Mismatch s (same_kind c a)
    Ok d
  node_judged s (nodes.Headed Initialized v f) Γ a = do
    c ← judged (program_expressions p) v (names_of_values Γ)
    d ← part f Γ a
    wanted_at s d c
  node_judged s (nodes.Headed Followed v f) Γ a = do
    c ← judged (program_expressions p) v (names_of_values Γ)
    d ← part f Γ a
    wanted_at s d c
  node_judged s (nodes.Transformed h f) Γ a = do
    c ← function_judged (program_expressions p) h s a (names_of_values Γ)
    d ← part f Γ a
    _ ← asked Mismatch s (same_kind c a)
    Ok d
  node_judged s (nodes.Switching n) Γ a = switch_judged s n n.form Γ a
  node_judged s (nodes.Continuation n) Γ a = do
    b ← part n.source Γ a
    both ← judged_fitting s (Some (pair_kind a b))
    d ← part n.observer Γ both
    c ← matching_at s (payload_of d)
    body_judged p s n.pattern (part n.body) a b c (continuing_inside p n.name a b Γ)
  node_judged s (nodes.Gathered i) Γ a = do
    m ← members_judged (collection_node p i) Γ a
    judged_fitting s (Some (table_kind m.0 m.1))
  node_judged s (nodes.Releasing n) Γ a = do
    m ← members_judged (collection_node p n.members) Γ a
    t ← judged_fitting s (Some (table_kind m.0 m.1))
    both ← judged_fitting s (Some (pair_kind a t))
    d ← part n.observer Γ both
    c ← matching_at s (payload_of d)
    body_judged p s n.pattern (part n.body) a t c (members_inside p n.name m.0 a m.1 Γ)
  node_judged s (nodes.Editing n) Γ a = do
    k ← judged_beside s a
    m ← members_judged (collection_node p n.members) Γ k.0
    _ ← edit_judged p s n.pattern (members_judged (collection_node p n.edit)) k.0 m k.1 (members_inside p n.name m.0 k.0 m.1 Γ)
    judged_fitting s (Some (table_kind m.0 m.1))

-- the same by the terms with numbers below one
abbrev pub judged_below : Program → ℕ → TermId → TermJudge
judged_below p zero t Γ a = Ok a
judged_below p (suc n) t Γ a = node_judged p (judged_below p n) (term_spot_at p t) (term_node_at p t) Γ a

-- The type that the term at an id takes inputs of a type to, or the first rule that it breaks, and where: `node_judged` of its
-- node.
unfoldable pub term_judged : Program → TermId → TermJudge
term_judged p t = judged_below p (suc (term_number t)) t

-- the same, where this is its node
abbrev pub judged_as : Program → TermId → Node → TermJudge
judged_as p t n = node_judged p (term_judged p) (term_spot_at p t) n

-- the type of a body's outputs, by what it is typed by
abbrev pub judged_body : Program → Body → Context → Result Kind Breach
judged_body p b Γ = body_judged p b.spot b.pattern (term_judged p b.term) b.input.now b.wanted.now b.payload.now Γ

-- the same of the types of an edit
abbrev pub judged_edit : Program → Edit → Context → Result (KeyKind × Kind) Breach
judged_edit p e Γ = edit_judged p e.spot e.form.pattern (members_judged p (term_judged p) (collection_node p e.form.edit)) e.input.now (key_kind_of e.wanted.now.keys, e.wanted.now.output) e.payload.now Γ

-- with functions of these types, the type that a template's term takes its header's inputs to: that of its header's outputs
unfoldable pub template_judged : TypesByName → Program → Header → Result Kind Breach
template_judged fs p h = do
  b ← term_judged p h.body (template_context fs (parameters_of h.parameters) (templates_of p)) h.input
  wanted_at (term_spot_at p h.body) b h.output

-- what is answered of a collection is what is found
abbrev pub GivesMembers : Result MemberTypes Refusal → Result (KeyKind × Kind) Breach → Type 0
GivesMembers (Ok m) found = found ≡ Ok (key_kind_of m.keys, m.output)
GivesMembers (Err r) found = Stops r found
