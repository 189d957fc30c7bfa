-- What is answered for terms and collections.
use Rattle.std.specs.Prelude.{◌≡◌, Result, Ok, Err}
use Rattle.sf_value.specs.Values.{Kind}
use Rattle.sf_value.specs.KindView.{key_kind_of}
use Rattle.sf_refusal.specs.declared.spot.Spot.{Spot}
use Rattle.sf_refusal.specs.declared.rule.Rule.TheVariants.{BarePre}
use Rattle.sf_refusal.specs.declared.refusal.Refusal.{Refusal}
use Rattle.sf_refusal.specs.Refusals.{broken, OrMemory}
use Rattle.sf_expr.specs.declared.exprs.Exprs.{Exprs}
use Rattle.sf_expr.specs.Arena.{expression, function_at, literal_at}
use Rattle.sf_expr.specs.Typing.{HasType}
use Rattle.sf_operator.specs.Breaches.{AnswersKind}
use Rattle.sf_term.specs.declared.form.Bare.{Bare}
use Rattle.sf_term.specs.declared.form.Bare.TheVariants.{Pre}
use Rattle.sf_term.specs.declared.node.TermId.{TermId}
use Rattle.sf_term.specs.declared.node.Argument.{Argument}
use Rattle.sf_term.specs.declared.node.Argument.TheVariants as arguments
use Rattle.sf_term.specs.declared.node.Primitive as primitive_nodes
use Rattle.sf_term.specs.declared.node.Primitive.TheVariants as nodes
use Rattle.sf_term.specs.declared.collection.CollExpr.{CollExpr}
use Rattle.sf_term.specs.declared.program.Program.{Program}
use Rattle.sf_term.specs.Trees.{Primitive, bare, never, with_value, timed, selected, arrow, accumulated}
use Rattle.sf_term.specs.Entries.{absent_payload}
use Rattle.sf_term.specs.Arena.{tree, program_expressions, collection_of, collection_tree}
use Rattle.sf_mean.specs.Contexts.{NameKind, value, process, collection, Context, names_of_values}
use Rattle.sf_mean.specs.Typing.{bare_kind, Takes, Collects}
use Rattle.sf_check.specs.Breaking.{TermBreaks, CollectionBreaks}
use Rattle.sf_check.specs.declared.member_types.MemberTypes.{MemberTypes}

-- the primitive that a node stands for
abbrev pub primitive_in : Exprs → primitive_nodes.Primitive → Primitive
primitive_in x (nodes.Bare k) = bare k
primitive_in x (nodes.Never n) = never (absent_payload (literal_at x n))
primitive_in x (nodes.WithValue k e) = with_value k (expression x e)
primitive_in x (nodes.Timed k q e) = timed k q (expression x e)
primitive_in x (nodes.Selected k n) = selected k n
primitive_in x (nodes.Arrow f) = arrow (function_at x f)
primitive_in x (nodes.Accumulated k e f) = accumulated k (expression x e) (function_at x f)

-- the answer for a primitive without constants on inputs of a type, at a spot: `pre` is refused, whatever the type
abbrev pub AnswersBare : Bare → Kind → Spot → Result Kind Refusal → Type 0
AnswersBare Pre a s r = r ≡ Err (broken BarePre s)
AnswersBare k a s r = AnswersKind (bare_kind k a) s r

-- the answer for the term at an id, under a context: the type that it takes inputs of a type to, or the first rule that is broken
abbrev pub AnswersTerm : Program → Context → TermId → Kind → Result Kind Refusal → Type 0
AnswersTerm p Γ t a (Ok b) = Takes Γ (tree p t) a b
AnswersTerm p Γ t a (Err e) = OrMemory (TermBreaks p Γ t a) e

-- the answer for a collection, under a context: the types of its members on inputs of a type, or the first rule that is broken
abbrev pub AnswersMembers : Program → Context → CollExpr → Kind → Result MemberTypes Refusal → Type 0
AnswersMembers p Γ c a (Ok m) = Collects Γ (collection_of p c) (key_kind_of m.keys) a m.output
AnswersMembers p Γ c a (Err e) = OrMemory (CollectionBreaks p Γ c a) e

-- an argument is of the type or the types of a parameter of a kind
abbrev pub ArgumentFits : Program → Context → Argument → NameKind → Type 0
ArgumentFits p Γ (arguments.Value e) (value t) = HasType (names_of_values Γ) (expression (program_expressions p) e) t
ArgumentFits p Γ (arguments.Value e) (process a b) = ⊥
ArgumentFits p Γ (arguments.Value e) (collection k a b) = ⊥
ArgumentFits p Γ (arguments.Process t) (value u) = ⊥
ArgumentFits p Γ (arguments.Process t) (process a b) = Takes Γ (tree p t) a b
ArgumentFits p Γ (arguments.Process t) (collection k a b) = ⊥
ArgumentFits p Γ (arguments.Collection i) (value u) = ⊥
ArgumentFits p Γ (arguments.Collection i) (process a b) = ⊥
ArgumentFits p Γ (arguments.Collection i) (collection k a b) = Collects Γ (collection_tree p i) k a b
