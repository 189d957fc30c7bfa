-- Programs, seen by their trees.
use Rattle.std.specs.Prelude.{◌≡◌, ℕ, ◌+◌, ◌<◌, ◌≤◌, List, [], ◌∷◌, ◌++◌, length, slice_index_or, map, All}
use Rattle.sf_refusal.specs.declared.spot.Spot.{Spot}
use Rattle.sf_arena.specs.declared.entry.Entry.{Entry}
use Rattle.sf_arena.specs.Arenas.{entries_of}
use Rattle.sf_expr.specs.declared.exprs.ExprId.{ExprId}
use Rattle.sf_expr.specs.declared.exprs.FunctionId.{FunctionId}
use Rattle.sf_expr.specs.declared.exprs.NameId.{NameId}
use Rattle.sf_expr.specs.declared.exprs.PatternId.{PatternId}
use Rattle.sf_expr.specs.declared.exprs.ExprNode.{ExprNode}
use Rattle.sf_expr.specs.declared.exprs.Exprs.{Exprs}
use Rattle.sf_value.specs.Values.{Name}
use Rattle.sf_expr.specs.Expressions.{Expression, Function, function}
use Rattle.sf_expr.specs.Patterns.{PlacedPattern, pattern_of}
use Rattle.sf_expr.specs.Arena.{expression, arena_count, name_at, HoldsName, next_name, literal_at, HoldsConstant, Holds, HoldsPattern, stored_pattern, HoldsFunction, argument_pattern, body_id, node_at, spot_at}
use Rattle.sf_term.specs.declared.node.TermId.{TermId}
use Rattle.sf_term.specs.declared.node.ArgumentsId.{ArgumentsId}
use Rattle.sf_term.specs.declared.node.Argument.{Argument}
use Rattle.sf_term.specs.declared.node.Argument.TheVariants as arguments
use Rattle.sf_term.specs.declared.node.Primitive.TheVariants as primitives
use Rattle.sf_term.specs.declared.collection.CollectionId.{CollectionId}
use Rattle.sf_term.specs.declared.collection.CollExpr.{CollExpr}
use Rattle.sf_term.specs.declared.collection.CollExpr.TheVariants as collections
use Rattle.sf_term.specs.declared.node.Node.{Node}
use Rattle.sf_term.specs.declared.node.Node.TheVariants as nodes
use Rattle.sf_term.specs.declared.program.Program.{Program}
use Rattle.sf_term.specs.Trees.{Term, primitive, reference, call, Collection, without_members, used, added, dropped, kept, chosen, Arguments, no_arguments, value_argument, process_argument, collection_argument, joined, sided, headed, transformed, switching, continuing, gathered, releasing, editing, bare, never, with_value, timed, selected, arrow, accumulated, named_term, term_depth, Template, Templates}
use Rattle.sf_term.specs.Parameters.{parameters_of}
use Rattle.sf_term.specs.Headers.{Header}
use Rattle.sf_value.specs.KindView.{key_kind_of}
use Rattle.sf_term.specs.Entries.{StoredLists, TermBase, absent_payload, absent_collection, collections_in, term_entry, term_entered}

-- the number of an id
abbrev pub term_number : TermId → ℕ
term_number id = id.0

-- the expressions of a program
unfoldable pub program_expressions : Program → Exprs
program_expressions p = p.expressions

-- the arguments of the calls of a program, and its collections
abbrev pub lists_of : Program → StoredLists
lists_of p = record { arguments = p.arguments.items; collections = collections_in p.collections.items }

-- what the terms of a program are made over beside terms
abbrev pub term_base : Program → TermBase
term_base p = record { expressions = p.expressions; lists = lists_of p }

-- how many terms a program holds
unfoldable pub term_count : Program → ℕ
term_count p = length (entries_of p.terms)

-- how many expressions a program holds
unfoldable pub expression_count : Program → ℕ
expression_count p = arena_count p.expressions

-- a program holds a term under an id
unfoldable pub HoldsTerm : Program → TermId → Type 0
HoldsTerm p t = t.0 < length (entries_of p.terms)

-- a program holds an expression under an id
abbrev pub HoldsExpression : Program → ExprId → Type 0
HoldsExpression p e = Holds (program_expressions p) e

-- a program holds a function under an id
abbrev pub ProgramHoldsFunction : Program → FunctionId → Type 0
ProgramHoldsFunction p f = HoldsFunction (program_expressions p) f

-- a program holds a pattern under an id, beside its functions
abbrev pub ProgramHoldsPattern : Program → PatternId → Type 0
ProgramHoldsPattern p q = HoldsPattern (program_expressions p) q

-- a program holds arguments under an id
unfoldable pub HoldsArguments : Program → ArgumentsId → Type 0
HoldsArguments p a = a.0 < length p.arguments.items

-- the arguments at an id, as ids; none where the program holds none
unfoldable pub argument_nodes : Program → ArgumentsId → List Argument
argument_nodes p a = slice_index_or p.arguments.items a.0 []

-- the id of the next arguments
unfoldable pub next_arguments : Program → ArgumentsId
next_arguments p = record { 0 = length p.arguments.items }

-- a program holds a collection under an id
unfoldable pub HoldsCollection : Program → CollectionId → Type 0
HoldsCollection p c = c.0 < length (collections_in p.collections.items)

-- the collection at an id, as ids; one without members where the program holds none
unfoldable pub collection_node : Program → CollectionId → CollExpr
collection_node p c = slice_index_or (collections_in p.collections.items) c.0 absent_collection

-- the id of the next collection
unfoldable pub next_collection : Program → CollectionId
next_collection p = record { 0 = length (collections_in p.collections.items) }

-- the term at an id; the identity where the program holds none
unfoldable pub tree : Program → TermId → Term
tree p t = term_entered (term_base p) (entries_of p.terms) t.0

-- the expression at an id; the number 0 where the program holds none
unfoldable pub program_expression : Program → ExprId → Expression
program_expression p e = expression p.expressions e

-- the pattern of the function at an id; the one that binds nothing where the program holds none
unfoldable pub function_pattern_at : Program → FunctionId → PlacedPattern
function_pattern_at p f = argument_pattern p.expressions f

-- the id of the body of the function at an id
unfoldable pub function_body_at : Program → FunctionId → ExprId
function_body_at p f = body_id p.expressions f

-- the pattern at an id; the one that binds nothing where the program holds none
unfoldable pub placed_pattern : Program → PatternId → PlacedPattern
placed_pattern p q = stored_pattern p.expressions q

-- the function at an id
abbrev pub program_function : Program → FunctionId → Function
program_function p f = function (pattern_of (function_pattern_at p f)) (program_expression p (function_body_at p f))

-- the entry at an id
unfoldable pub program_entry : Program → TermId → Entry Node
program_entry p t = term_entry (entries_of p.terms) t.0

-- the node at an id, with the ids of its parts; the identity where the program holds none
unfoldable pub term_node_at : Program → TermId → Node
term_node_at p t = (term_entry (entries_of p.terms) t.0).node

-- the node of the expression at an id, with the ids of its parts; the number 0 where the program holds none
unfoldable pub expression_node_at : Program → ExprId → ExprNode
expression_node_at p e = node_at p.expressions e

-- what a collection with ids stands for
abbrev pub collection_of : Program → CollExpr → Collection
collection_of p (collections.Empty k t s) = without_members (key_kind_of k) t
collection_of p (collections.Used k r s) = used (name_at (program_expressions p) k)
collection_of p (collections.Added' a c e t s) = added (collection_of p c) (program_expression p e) (tree p t)
collection_of p (collections.Dropped' a c e s) = dropped (collection_of p c) (program_expression p e)
collection_of p (collections.Kept' a c f s) = kept (collection_of p c) (program_function p f)
collection_of p (collections.Chosen' e a c b d s) = chosen (program_expression p e) (collection_of p c) (collection_of p d)

-- the collection at an id; one without members where the program holds none
abbrev pub collection_tree : Program → CollectionId → Collection
collection_tree p c = collection_of p (collection_node p c)

-- what arguments with ids stand for
abbrev pub arguments_of : Program → List Argument → Arguments
arguments_of p [] = no_arguments
arguments_of p (arguments.Value e ∷ vs) = value_argument (program_expression p e) (arguments_of p vs)
arguments_of p (arguments.Process t ∷ vs) = process_argument (tree p t) (arguments_of p vs)
arguments_of p (arguments.Collection c ∷ vs) = collection_argument (collection_tree p c) (arguments_of p vs)

-- the term that a node with the ids of its parts stands for
abbrev pub term_of : Program → Node → Term
term_of p (nodes.Primitive (primitives.Bare k)) = primitive (bare k)
term_of p (nodes.Primitive (primitives.Never n)) = primitive (never (absent_payload (literal_at (program_expressions p) n)))
term_of p (nodes.Primitive (primitives.WithValue k e)) = primitive (with_value k (program_expression p e))
term_of p (nodes.Primitive (primitives.Timed k q e)) = primitive (timed k q (program_expression p e))
term_of p (nodes.Primitive (primitives.Selected k n)) = primitive (selected k n)
term_of p (nodes.Primitive (primitives.Arrow f)) = primitive (arrow (program_function p f))
term_of p (nodes.Primitive (primitives.Accumulated k e f)) = primitive (accumulated k (program_expression p e) (program_function p f))
term_of p (nodes.Named w k s) = named_term w (name_at (program_expressions p) k)
term_of p (nodes.Call k a) = reference (call (name_at (program_expressions p) k) (arguments_of p (argument_nodes p a)))
term_of p (nodes.Joined j a b) = joined j (tree p a) (tree p b)
term_of p (nodes.Sided d a) = sided d (tree p a)
term_of p (nodes.Headed h e a) = headed h (program_expression p e) (tree p a)
term_of p (nodes.Transformed f a) = transformed (program_function p f) (tree p a)
term_of p (nodes.Switching n) = switching n.form (tree p n.source) (pattern_of (placed_pattern p n.pattern)) (tree p n.body)
term_of p (nodes.Continuation n) = continuing n.shown (tree p n.source) (tree p n.observer) (name_at (program_expressions p) n.name) (pattern_of (placed_pattern p n.pattern)) (tree p n.body)
term_of p (nodes.Gathered c) = gathered (collection_tree p c)
term_of p (nodes.Releasing n) = releasing n.shown (collection_tree p n.members) (tree p n.observer) (name_at (program_expressions p) n.name) (pattern_of (placed_pattern p n.pattern)) (tree p n.body)
term_of p (nodes.Editing n) = editing n.shown (collection_tree p n.members) (name_at (program_expressions p) n.name) (pattern_of (placed_pattern p n.pattern)) (collection_tree p n.edit)

-- where the term at an id stands in the text
unfoldable pub term_spot_at : Program → TermId → Spot
term_spot_at p t = (term_entry (entries_of p.terms) t.0).spot

-- where the expression at an id stands in the text
unfoldable pub expression_spot_at : Program → ExprId → Spot
expression_spot_at p e = spot_at p.expressions e

-- the templates of a program, whose bodies are ids, in order
unfoldable pub headers_of : Program → List Header
headers_of p = p.templates.items

-- a template with the tree of its body
abbrev pub term_template : Program → Header → Template
term_template p h = record { name = h.name; parameters = parameters_of h.parameters; input = h.input; output = h.output; body = tree p h.body }

-- the templates of a program, in order
abbrev pub templates_of : Program → Templates
templates_of p = map (term_template p) (headers_of p)

-- where the names of the templates stand in the text, in order
abbrev pub template_spots : Program → List Spot
template_spots p = map (λ (h : Header). h.spot) (headers_of p)

-- the ids of a collection's terms, as numbers, are below a number
abbrev pub CollectionBelow : ℕ → CollExpr → Type 0
CollectionBelow n (collections.Empty k t s) = Unit {0}
CollectionBelow n (collections.Used k r s) = Unit {0}
CollectionBelow n (collections.Added' a c e t s) = CollectionBelow n c × (term_number t < n)
CollectionBelow n (collections.Dropped' a c e s) = CollectionBelow n c
CollectionBelow n (collections.Kept' a c f s) = CollectionBelow n c
CollectionBelow n (collections.Chosen' e a c b d s) = CollectionBelow n c × CollectionBelow n d

-- the ids of the terms of an argument, as numbers, are below a number
abbrev pub ArgumentBelow : Program → ℕ → Argument → Type 0
ArgumentBelow p n (arguments.Value e) = Unit {0}
ArgumentBelow p n (arguments.Process t) = term_number t < n
ArgumentBelow p n (arguments.Collection c) = CollectionBelow n (collection_node p c)

-- the ids of a node's parts, as numbers, are below a number
abbrev pub TermPartsBelow : Program → Node → ℕ → Type 0
TermPartsBelow p (nodes.Primitive q) n = Unit {0}
TermPartsBelow p (nodes.Named w k s) n = Unit {0}
TermPartsBelow p (nodes.Call k a) n = All (ArgumentBelow p n) (argument_nodes p a)
TermPartsBelow p (nodes.Joined j a b) n = (term_number a < n) × (term_number b < n)
TermPartsBelow p (nodes.Sided d a) n = term_number a < n
TermPartsBelow p (nodes.Headed h e a) n = term_number a < n
TermPartsBelow p (nodes.Transformed f a) n = term_number a < n
TermPartsBelow p (nodes.Switching node) n = (term_number node.source < n) × (term_number node.body < n)
TermPartsBelow p (nodes.Continuation node) n = (term_number node.source < n) × (term_number node.observer < n) × (term_number node.body < n)
TermPartsBelow p (nodes.Gathered c) n = CollectionBelow n (collection_node p c)
TermPartsBelow p (nodes.Releasing r) n = CollectionBelow n (collection_node p r.members) × (term_number r.observer < n) × (term_number r.body < n)
TermPartsBelow p (nodes.Editing r) n = CollectionBelow n (collection_node p r.members) × CollectionBelow n (collection_node p r.edit)

-- what a collection names is held
abbrev pub HoldsMembers : Program → CollExpr → Type 0
HoldsMembers p (collections.Empty k t s) = Unit {0}
HoldsMembers p (collections.Used k r s) = HoldsName (program_expressions p) k
HoldsMembers p (collections.Added' a c e t s) = HoldsMembers p c × HoldsExpression p e × HoldsTerm p t
HoldsMembers p (collections.Dropped' a c e s) = HoldsMembers p c × HoldsExpression p e
HoldsMembers p (collections.Kept' a c f s) = HoldsMembers p c × ProgramHoldsFunction p f
HoldsMembers p (collections.Chosen' e a c b d s) = HoldsExpression p e × HoldsMembers p c × HoldsMembers p d

-- a collection is held, and what it names
abbrev pub HoldsWhole : Program → CollectionId → Type 0
HoldsWhole p c = HoldsCollection p c × HoldsMembers p (collection_node p c)

-- what an argument names is held
abbrev pub HoldsArgument : Program → Argument → Type 0
HoldsArgument p (arguments.Value e) = HoldsExpression p e
HoldsArgument p (arguments.Process t) = HoldsTerm p t
HoldsArgument p (arguments.Collection c) = HoldsWhole p c

-- the parts of a node are held
abbrev pub HoldsTermParts : Program → Node → Type 0
HoldsTermParts p (nodes.Primitive (primitives.Bare k)) = Unit {0}
HoldsTermParts p (nodes.Primitive (primitives.Never n)) = HoldsConstant (program_expressions p) n
HoldsTermParts p (nodes.Primitive (primitives.WithValue k e)) = HoldsExpression p e
HoldsTermParts p (nodes.Primitive (primitives.Timed k q e)) = HoldsExpression p e
HoldsTermParts p (nodes.Primitive (primitives.Selected k n)) = Unit {0}
HoldsTermParts p (nodes.Primitive (primitives.Arrow f)) = ProgramHoldsFunction p f
HoldsTermParts p (nodes.Primitive (primitives.Accumulated k e f)) = HoldsExpression p e × ProgramHoldsFunction p f
HoldsTermParts p (nodes.Named w k s) = HoldsName (program_expressions p) k
HoldsTermParts p (nodes.Call k a) = HoldsName (program_expressions p) k × HoldsArguments p a × All (HoldsArgument p) (argument_nodes p a)
HoldsTermParts p (nodes.Joined j a b) = HoldsTerm p a × HoldsTerm p b
HoldsTermParts p (nodes.Sided d a) = HoldsTerm p a
HoldsTermParts p (nodes.Headed h e a) = HoldsExpression p e × HoldsTerm p a
HoldsTermParts p (nodes.Transformed f a) = ProgramHoldsFunction p f × HoldsTerm p a
HoldsTermParts p (nodes.Switching n) = HoldsTerm p n.source × ProgramHoldsPattern p n.pattern × HoldsTerm p n.body
HoldsTermParts p (nodes.Continuation n) = HoldsTerm p n.source × HoldsTerm p n.observer × HoldsName (program_expressions p) n.name × ProgramHoldsPattern p n.pattern × HoldsTerm p n.body
HoldsTermParts p (nodes.Gathered c) = HoldsWhole p c
HoldsTermParts p (nodes.Releasing n) = HoldsWhole p n.members × HoldsTerm p n.observer × HoldsName (program_expressions p) n.name × ProgramHoldsPattern p n.pattern × HoldsTerm p n.body
HoldsTermParts p (nodes.Editing n) = HoldsWhole p n.members × HoldsName (program_expressions p) n.name × ProgramHoldsPattern p n.pattern × HoldsWhole p n.edit

-- Terms, expressions, functions, names, patterns, arguments and collections that a program held are there as they were.
pub record ExtendsTrees (old new : Program) : Type 0 where
  pub terms : (t : TermId) → HoldsTerm old t → HoldsTerm new t
  pub nodes : (t : TermId) → HoldsTerm old t → term_node_at new t ≡ term_node_at old t
  pub trees : (t : TermId) → HoldsTerm old t → tree new t ≡ tree old t
  pub spots : (t : TermId) → HoldsTerm old t → term_spot_at new t ≡ term_spot_at old t
  pub expressions : (e : ExprId) → HoldsExpression old e → HoldsExpression new e
  pub value_nodes : (e : ExprId) → HoldsExpression old e → expression_node_at new e ≡ expression_node_at old e
  pub values : (e : ExprId) → HoldsExpression old e → program_expression new e ≡ program_expression old e
  pub value_spots : (e : ExprId) → HoldsExpression old e → expression_spot_at new e ≡ expression_spot_at old e
  pub functions : (f : FunctionId) → ProgramHoldsFunction old f → ProgramHoldsFunction new f
  pub patterns : (f : FunctionId) → ProgramHoldsFunction old f → function_pattern_at new f ≡ function_pattern_at old f
  pub bodies : (f : FunctionId) → ProgramHoldsFunction old f → function_body_at new f ≡ function_body_at old f
  pub meanings : (f : FunctionId) → ProgramHoldsFunction old f → program_function new f ≡ program_function old f
  pub holds_patterns : (q : PatternId) → ProgramHoldsPattern old q → ProgramHoldsPattern new q
  pub placed : (q : PatternId) → ProgramHoldsPattern old q → placed_pattern new q ≡ placed_pattern old q
  pub holds_names : (n : NameId) → HoldsName (program_expressions old) n → HoldsName (program_expressions new) n
  pub names : (n : NameId) → HoldsName (program_expressions old) n → name_at (program_expressions new) n ≡ name_at (program_expressions old) n
  pub holds_arguments : (a : ArgumentsId) → HoldsArguments old a → HoldsArguments new a
  pub arguments : (a : ArgumentsId) → HoldsArguments old a → argument_nodes new a ≡ argument_nodes old a
  pub holds_collections : (c : CollectionId) → HoldsCollection old c → HoldsCollection new c
  pub collections : (c : CollectionId) → HoldsCollection old c → collection_node new c ≡ collection_node old c

-- All that a program held is there as it was, and it has the same templates.
pub record ExtendsProgram (old new : Program) : Type 0 where
  pub trees : ExtendsTrees old new
  pub headers : headers_of new ≡ headers_of old
  pub templates : templates_of new ≡ templates_of old
  pub spots : template_spots new ≡ template_spots old

-- a term was added under a new id, with the parts that its node names
pub record AddsTerm (old new : Program) (id : TermId) (n : Node) (t : Term) (s : Spot) : Type 0 where
  pub within : HoldsTerm new id
  pub fresh : ¬ HoldsTerm old id
  pub node : term_node_at new id ≡ n
  pub is : tree new id ≡ t
  pub spotted : term_spot_at new id ≡ s
  pub shallow : term_depth t ≤ 64
  pub kept : ExtendsProgram old new
  pub term_counted : term_count new ≡ term_count old + 1
  pub expression_counted : expression_count new ≡ expression_count old

-- an expression was added under a new id, with the parts that its node names
pub record AddsExpression (old new : Program) (id : ExprId) (n : ExprNode) (e : Expression) (s : Spot) : Type 0 where
  pub within : HoldsExpression new id
  pub fresh : ¬ HoldsExpression old id
  pub node : expression_node_at new id ≡ n
  pub is : program_expression new id ≡ e
  pub spotted : expression_spot_at new id ≡ s
  pub kept : ExtendsProgram old new
  pub term_counted : term_count new ≡ term_count old
  pub expression_counted : expression_count new ≡ expression_count old + 1

-- a function was added under a new id
pub record AddsProgramFunction (old new : Program) (f : FunctionId) (q : PlacedPattern) (b : ExprId) : Type 0 where
  pub within : ProgramHoldsFunction new f
  pub fresh : ¬ ProgramHoldsFunction old f
  pub pattern : function_pattern_at new f ≡ q
  pub body : function_body_at new f ≡ b
  pub is : program_function new f ≡ function (pattern_of q) (program_expression old b)
  pub kept : ExtendsProgram old new
  pub term_counted : term_count new ≡ term_count old
  pub expression_counted : expression_count new ≡ expression_count old

-- two programs show the same, but that there may be more patterns, arguments and collections
pub record IsSameProgram (old new : Program) : Type 0 where
  pub term_counted : term_count new ≡ term_count old
  pub expression_counted : expression_count new ≡ expression_count old
  pub nodes : (t : TermId) → term_node_at new t ≡ term_node_at old t
  pub trees : (t : TermId) → tree new t ≡ tree old t
  pub spots : (t : TermId) → term_spot_at new t ≡ term_spot_at old t
  pub value_nodes : (e : ExprId) → expression_node_at new e ≡ expression_node_at old e
  pub values : (e : ExprId) → program_expression new e ≡ program_expression old e
  pub value_spots : (e : ExprId) → expression_spot_at new e ≡ expression_spot_at old e
  pub holds_functions : (f : FunctionId) → ProgramHoldsFunction old f → ProgramHoldsFunction new f
  pub patterns : (f : FunctionId) → function_pattern_at new f ≡ function_pattern_at old f
  pub bodies : (f : FunctionId) → function_body_at new f ≡ function_body_at old f
  pub holds_patterns : (q : PatternId) → ProgramHoldsPattern old q → ProgramHoldsPattern new q
  pub placed : (q : PatternId) → ProgramHoldsPattern old q → placed_pattern new q ≡ placed_pattern old q
  pub holds_names : (n : NameId) → HoldsName (program_expressions old) n → HoldsName (program_expressions new) n
  pub names : (n : NameId) → HoldsName (program_expressions old) n → name_at (program_expressions new) n ≡ name_at (program_expressions old) n
  pub holds_arguments : (a : ArgumentsId) → HoldsArguments old a → HoldsArguments new a
  pub arguments : (a : ArgumentsId) → HoldsArguments old a → argument_nodes new a ≡ argument_nodes old a
  pub holds_collections : (c : CollectionId) → HoldsCollection old c → HoldsCollection new c
  pub collections : (c : CollectionId) → HoldsCollection old c → collection_node new c ≡ collection_node old c
  pub headers : headers_of new ≡ headers_of old

-- a collection was added under a new id
pub record AddsCollection (old new : Program) (id : CollectionId) (c : CollExpr) : Type 0 where
  pub within : HoldsCollection new id
  pub next : id ≡ next_collection old
  pub is : collection_node new id ≡ c
  pub whole : HoldsMembers new c
  pub made : collection_of new c ≡ collection_of old c
  pub same : IsSameProgram old new

-- the members of a name, which was put beside the others
pub record AddsUsed (old new : Program) (c : CollExpr) (n : Name) (r s : Spot) : Type 0 where
  pub is : c ≡ collections.Used (next_name (program_expressions old)) r s
  pub whole : HoldsMembers new c
  pub made : collection_of new c ≡ used n
  pub same : IsSameProgram old new

-- a template was added behind the others
pub record AddsTemplate (old new : Program) (h : Header) : Type 0 where
  pub headers : headers_of new ≡ headers_of old ++ h ∷ []
  pub templates : templates_of new ≡ templates_of old ++ term_template old h ∷ []
  pub spots : template_spots new ≡ template_spots old ++ h.spot ∷ []
  pub kept : ExtendsTrees old new
  pub term_counted : term_count new ≡ term_count old
  pub expression_counted : expression_count new ≡ expression_count old

-- a program is a copy of another: it shows the same
abbrev pub IsProgramCopy : Program → Program → Type 0
IsProgramCopy p copy = IsSameProgram p copy
