-- The entries of an arena of terms.
use Rattle.std.specs.Prelude.{◌≡◌, ℕ, suc, ◌≤◌, max, List, [], ◌∷◌, length, map, slice_index_or}
use Rattle.std.specs.declared.rc.Rc.{Rc}
use Rattle.std.specs.declared.alloc.Global.{Global}
use Rattle.sf_arena.specs.declared.entry.Entry.{Entry}
use Rattle.sf_arena.specs.Folded.{trees, folded_tree}
use Rattle.sf_expr.specs.declared.exprs.Exprs.{Exprs}
use Rattle.sf_expr.specs.Patterns.{pattern_of}
use Rattle.sf_expr.specs.Arena.{expression, function_at, name_at, literal_at, stored_pattern, arena_count, function_count, name_count, constant_count, pattern_count, id_number}
use Rattle.sf_refusal.specs.declared.spot.Spot.{Spot}
use Rattle.sf_value.specs.Values.{Kind, unit_kind}
use Rattle.sf_value.specs.declared.ty.KeyType.TheVariants.{Int as IntKeys}
use Rattle.sf_value.specs.KindView.{key_kind_of}
use Rattle.sf_expr.specs.Expressions.{Literal, unit_literal, truth_literal, int_literal, text_literal, none_literal}
use Rattle.sf_term.specs.declared.form.Bare.TheVariants.{Identity}
use Rattle.sf_term.specs.declared.node.Primitive.TheVariants as primitives
use Rattle.sf_term.specs.declared.node.ArgumentsId.{ArgumentsId}
use Rattle.sf_term.specs.declared.node.Argument.{Argument}
use Rattle.sf_term.specs.declared.node.Argument.TheVariants as arguments
use Rattle.sf_term.specs.declared.collection.CollectionId.{CollectionId}
use Rattle.sf_term.specs.declared.collection.CollExpr.{CollExpr}
use Rattle.sf_term.specs.declared.collection.CollExpr.TheVariants as collections
use Rattle.sf_term.specs.declared.node.Node.{Node}
use Rattle.sf_term.specs.declared.node.Node.TheVariants as nodes
use Rattle.sf_term.specs.Trees.{Term, primitive, reference, call, Collection, without_members, used, added, dropped, kept, chosen, Arguments, no_arguments, value_argument, process_argument, collection_argument, joined, sided, headed, transformed, switching, continuing, gathered, releasing, editing, bare, never, with_value, timed, selected, arrow, accumulated, named_term, term_depth}

-- What nodes name by ids beside expressions: the arguments of calls, and collections.
pub record StoredLists : Type 0 where
  pub arguments : List (List Argument)
  pub collections : List CollExpr

-- What terms are made over beside terms.
pub record TermBase : Type 0 where
  pub expressions : Exprs
  pub lists : StoredLists

-- the identity
abbrev pub identity_term : Term
identity_term = primitive (bare Identity)

-- the term at a place; the identity past the end
abbrev pub term_among : List Term → ℕ → Term
term_among ts i = slice_index_or ts i identity_term

-- the type of the payloads of a literal that is no event; the type with one value for any other
abbrev pub absent_payload : Literal → Kind
absent_payload unit_literal = unit_kind
absent_payload (truth_literal b) = unit_kind
absent_payload (int_literal z) = unit_kind
absent_payload (text_literal bs) = unit_kind
absent_payload (none_literal t) = t

-- the arguments at an id; none past the end
abbrev pub arguments_listed : TermBase → ArgumentsId → List Argument
arguments_listed b a = slice_index_or b.lists.arguments a.0 []

-- where a collection stands in the text
abbrev pub collection_spot : CollExpr → Spot
collection_spot (collections.Empty k t s) = s
collection_spot (collections.Used k r s) = s
collection_spot (collections.Added' a c e t s) = s
collection_spot (collections.Dropped' a c e s) = s
collection_spot (collections.Kept' a c f s) = s
collection_spot (collections.Chosen' e a c b d s) = s

-- collections, whatever shares them
abbrev pub collections_in : List (Rc CollExpr Global) → List CollExpr
collections_in rs = map (λ (r : Rc CollExpr Global). r.value) rs

-- a collection without members, at no place
abbrev pub absent_collection : CollExpr
absent_collection = collections.Empty IntKeys unit_kind (record { line = 0; column = 0 })

-- the collection at an id; one without members past the end
abbrev pub collection_listed : TermBase → CollectionId → CollExpr
collection_listed b c = slice_index_or b.lists.collections c.0 absent_collection

-- a collection, over the terms before it
abbrev pub stored_over : Exprs → List Term → CollExpr → Collection
stored_over x ts (collections.Empty k t s) = without_members (key_kind_of k) t
stored_over x ts (collections.Used k r s) = used (name_at x k)
stored_over x ts (collections.Added' a c e t s) = added (stored_over x ts c) (expression x e) (term_among ts t.0)
stored_over x ts (collections.Dropped' a c e s) = dropped (stored_over x ts c) (expression x e)
stored_over x ts (collections.Kept' a c f s) = kept (stored_over x ts c) (function_at x f)
stored_over x ts (collections.Chosen' e a c b d s) = chosen (expression x e) (stored_over x ts c) (stored_over x ts d)

-- how many terms have to stand before a collection
abbrev pub stored_terms : CollExpr → ℕ
stored_terms (collections.Empty k t s) = 0
stored_terms (collections.Used k r s) = 0
stored_terms (collections.Added' a c e t s) = max (suc t.0) (stored_terms c)
stored_terms (collections.Dropped' a c e s) = stored_terms c
stored_terms (collections.Kept' a c f s) = stored_terms c
stored_terms (collections.Chosen' e a c b d s) = max (stored_terms c) (stored_terms d)

-- how many expressions have to be there for a collection
abbrev pub stored_expressions : CollExpr → ℕ
stored_expressions (collections.Empty k t s) = 0
stored_expressions (collections.Used k r s) = 0
stored_expressions (collections.Added' a c e t s) = max (suc (id_number e)) (stored_expressions c)
stored_expressions (collections.Dropped' a c e s) = max (suc (id_number e)) (stored_expressions c)
stored_expressions (collections.Kept' a c f s) = stored_expressions c
stored_expressions (collections.Chosen' e a c b d s) = max (suc (id_number e)) (max (stored_expressions c) (stored_expressions d))

-- how many functions have to be there for a collection
abbrev pub stored_functions : CollExpr → ℕ
stored_functions (collections.Empty k t s) = 0
stored_functions (collections.Used k r s) = 0
stored_functions (collections.Added' a c e t s) = stored_functions c
stored_functions (collections.Dropped' a c e s) = stored_functions c
stored_functions (collections.Kept' a c f s) = max (suc f.0) (stored_functions c)
stored_functions (collections.Chosen' e a c b d s) = max (stored_functions c) (stored_functions d)

-- how many names have to be there for a collection
abbrev pub stored_names : CollExpr → ℕ
stored_names (collections.Empty k t s) = 0
stored_names (collections.Used k r s) = suc k.0
stored_names (collections.Added' a c e t s) = stored_names c
stored_names (collections.Dropped' a c e s) = stored_names c
stored_names (collections.Kept' a c f s) = stored_names c
stored_names (collections.Chosen' e a c b d s) = max (stored_names c) (stored_names d)

-- arguments, over the terms before them
abbrev pub arguments_over : TermBase → List Term → List Argument → Arguments
arguments_over b ts [] = no_arguments
arguments_over b ts (arguments.Value e ∷ vs) = value_argument (expression b.expressions e) (arguments_over b ts vs)
arguments_over b ts (arguments.Process t ∷ vs) = process_argument (term_among ts t.0) (arguments_over b ts vs)
arguments_over b ts (arguments.Collection c ∷ vs) = collection_argument (stored_over b.expressions ts (collection_listed b c)) (arguments_over b ts vs)

-- the term of a node, over the terms before it
abbrev pub term_over : TermBase → List Term → Node → Term
term_over b ts (nodes.Primitive (primitives.Bare k)) = primitive (bare k)
term_over b ts (nodes.Primitive (primitives.Never n)) = primitive (never (absent_payload (literal_at b.expressions n)))
term_over b ts (nodes.Primitive (primitives.WithValue k e)) = primitive (with_value k (expression b.expressions e))
term_over b ts (nodes.Primitive (primitives.Timed k q e)) = primitive (timed k q (expression b.expressions e))
term_over b ts (nodes.Primitive (primitives.Selected k n)) = primitive (selected k n)
term_over b ts (nodes.Primitive (primitives.Arrow f)) = primitive (arrow (function_at b.expressions f))
term_over b ts (nodes.Primitive (primitives.Accumulated k e f)) = primitive (accumulated k (expression b.expressions e) (function_at b.expressions f))
term_over b ts (nodes.Named w k s) = named_term w (name_at b.expressions k)
term_over b ts (nodes.Call k c) = reference (call (name_at b.expressions k) (arguments_over b ts (arguments_listed b c)))
term_over b ts (nodes.Joined j c d) = joined j (term_among ts c.0) (term_among ts d.0)
term_over b ts (nodes.Sided d a) = sided d (term_among ts a.0)
term_over b ts (nodes.Headed h e a) = headed h (expression b.expressions e) (term_among ts a.0)
term_over b ts (nodes.Transformed f a) = transformed (function_at b.expressions f) (term_among ts a.0)
term_over b ts (nodes.Switching n) = switching n.form (term_among ts n.source.0) (pattern_of (stored_pattern b.expressions n.pattern)) (term_among ts n.body.0)
term_over b ts (nodes.Continuation n) = continuing n.shown (term_among ts n.source.0) (term_among ts n.observer.0) (name_at b.expressions n.name) (pattern_of (stored_pattern b.expressions n.pattern)) (term_among ts n.body.0)
term_over b ts (nodes.Gathered c) = gathered (stored_over b.expressions ts (collection_listed b c))
term_over b ts (nodes.Releasing n) =
    releasing n.shown (stored_over b.expressions ts (collection_listed b n.members)) (term_among ts n.observer.0) (name_at b.expressions n.name) (pattern_of (stored_pattern b.expressions n.pattern)) (term_among ts n.body.0)
term_over b ts (nodes.Editing n) =
    editing n.shown (stored_over b.expressions ts (collection_listed b n.members)) (name_at b.expressions n.name) (pattern_of (stored_pattern b.expressions n.pattern)) (stored_over b.expressions ts (collection_listed b n.edit))

-- how many terms have to stand before arguments
abbrev pub terms_end : TermBase → List Argument → ℕ
terms_end b [] = 0
terms_end b (arguments.Value e ∷ vs) = terms_end b vs
terms_end b (arguments.Process t ∷ vs) = max (suc t.0) (terms_end b vs)
terms_end b (arguments.Collection c ∷ vs) = max (stored_terms (collection_listed b c)) (terms_end b vs)

-- how many expressions have to be there for arguments
abbrev pub expressions_end : List Argument → ℕ
expressions_end [] = 0
expressions_end (arguments.Value e ∷ vs) = max (suc (id_number e)) (expressions_end vs)
expressions_end (arguments.Process t ∷ vs) = expressions_end vs
expressions_end (arguments.Collection c ∷ vs) = expressions_end vs

-- how many collections have to be there for arguments
abbrev pub collections_end : List Argument → ℕ
collections_end [] = 0
collections_end (arguments.Value e ∷ vs) = collections_end vs
collections_end (arguments.Process t ∷ vs) = collections_end vs
collections_end (arguments.Collection c ∷ vs) = max (suc c.0) (collections_end vs)

-- how many terms have to stand before a node
abbrev pub needs_terms : TermBase → Node → ℕ
needs_terms b (nodes.Primitive p) = 0
needs_terms b (nodes.Named w k s) = 0
needs_terms b (nodes.Call k a) = terms_end b (arguments_listed b a)
needs_terms b (nodes.Joined j a c) = suc (max a.0 c.0)
needs_terms b (nodes.Sided d a) = suc a.0
needs_terms b (nodes.Headed h e a) = suc a.0
needs_terms b (nodes.Transformed f a) = suc a.0
needs_terms b (nodes.Switching n) = suc (max n.source.0 n.body.0)
needs_terms b (nodes.Continuation n) = suc (max (max n.source.0 n.observer.0) n.body.0)
needs_terms b (nodes.Gathered c) = stored_terms (collection_listed b c)
needs_terms b (nodes.Releasing n) = max (stored_terms (collection_listed b n.members)) (suc (max n.observer.0 n.body.0))
needs_terms b (nodes.Editing n) = max (stored_terms (collection_listed b n.members)) (stored_terms (collection_listed b n.edit))

-- how many expressions have to be there for a node
abbrev pub needs_expressions : TermBase → Node → ℕ
needs_expressions b (nodes.Primitive (primitives.Bare k)) = 0
needs_expressions b (nodes.Primitive (primitives.Never n)) = 0
needs_expressions b (nodes.Primitive (primitives.WithValue k e)) = suc (id_number e)
needs_expressions b (nodes.Primitive (primitives.Timed k q e)) = suc (id_number e)
needs_expressions b (nodes.Primitive (primitives.Selected k n)) = 0
needs_expressions b (nodes.Primitive (primitives.Arrow f)) = 0
needs_expressions b (nodes.Primitive (primitives.Accumulated k e f)) = suc (id_number e)
needs_expressions b (nodes.Named w k s) = 0
needs_expressions b (nodes.Call k a) = expressions_end (arguments_listed b a)
needs_expressions b (nodes.Joined j a c) = 0
needs_expressions b (nodes.Sided d a) = 0
needs_expressions b (nodes.Headed h e a) = suc (id_number e)
needs_expressions b (nodes.Transformed f a) = 0
needs_expressions b (nodes.Switching n) = 0
needs_expressions b (nodes.Continuation n) = 0
needs_expressions b (nodes.Gathered c) = 0
needs_expressions b (nodes.Releasing n) = 0
needs_expressions b (nodes.Editing n) = 0

-- how many functions have to be there for a node
abbrev pub needs_functions : Node → ℕ
needs_functions (nodes.Primitive (primitives.Bare k)) = 0
needs_functions (nodes.Primitive (primitives.Never n)) = 0
needs_functions (nodes.Primitive (primitives.WithValue k e)) = 0
needs_functions (nodes.Primitive (primitives.Timed k q e)) = 0
needs_functions (nodes.Primitive (primitives.Selected k n)) = 0
needs_functions (nodes.Primitive (primitives.Arrow f)) = suc f.0
needs_functions (nodes.Primitive (primitives.Accumulated k e f)) = suc f.0
needs_functions (nodes.Named w k s) = 0
needs_functions (nodes.Call k a) = 0
needs_functions (nodes.Joined j a b) = 0
needs_functions (nodes.Sided d a) = 0
needs_functions (nodes.Headed h e a) = 0
needs_functions (nodes.Transformed f a) = suc f.0
needs_functions (nodes.Switching n) = 0
needs_functions (nodes.Continuation n) = 0
needs_functions (nodes.Gathered c) = 0
needs_functions (nodes.Releasing n) = 0
needs_functions (nodes.Editing n) = 0

-- how many patterns have to be there for a node
abbrev pub patterns_needed : Node → ℕ
patterns_needed (nodes.Primitive q) = 0
patterns_needed (nodes.Named w k s) = 0
patterns_needed (nodes.Call k a) = 0
patterns_needed (nodes.Joined j a b) = 0
patterns_needed (nodes.Sided d a) = 0
patterns_needed (nodes.Headed h e a) = 0
patterns_needed (nodes.Transformed f a) = 0
patterns_needed (nodes.Switching n) = suc n.pattern.0
patterns_needed (nodes.Continuation n) = suc n.pattern.0
patterns_needed (nodes.Gathered c) = 0
patterns_needed (nodes.Releasing n) = suc n.pattern.0
patterns_needed (nodes.Editing n) = suc n.pattern.0

-- how many names have to be there for a node
abbrev pub names_needed : Node → ℕ
names_needed (nodes.Primitive q) = 0
names_needed (nodes.Named w k s) = suc k.0
names_needed (nodes.Call k a) = suc k.0
names_needed (nodes.Joined j a b) = 0
names_needed (nodes.Sided d a) = 0
names_needed (nodes.Headed h e a) = 0
names_needed (nodes.Transformed f a) = 0
names_needed (nodes.Switching n) = 0
names_needed (nodes.Continuation n) = suc n.name.0
names_needed (nodes.Gathered c) = 0
names_needed (nodes.Releasing n) = suc n.name.0
names_needed (nodes.Editing n) = suc n.name.0

-- how many constants have to be there for a node
abbrev pub constants_needed : Node → ℕ
constants_needed (nodes.Primitive (primitives.Bare k)) = 0
constants_needed (nodes.Primitive (primitives.Never n)) = suc n.0
constants_needed (nodes.Primitive (primitives.WithValue k e)) = 0
constants_needed (nodes.Primitive (primitives.Timed k q e)) = 0
constants_needed (nodes.Primitive (primitives.Selected k n)) = 0
constants_needed (nodes.Primitive (primitives.Arrow f)) = 0
constants_needed (nodes.Primitive (primitives.Accumulated k e f)) = 0
constants_needed (nodes.Named w k s) = 0
constants_needed (nodes.Call k a) = 0
constants_needed (nodes.Joined j a b) = 0
constants_needed (nodes.Sided d a) = 0
constants_needed (nodes.Headed h e a) = 0
constants_needed (nodes.Transformed f a) = 0
constants_needed (nodes.Switching n) = 0
constants_needed (nodes.Continuation n) = 0
constants_needed (nodes.Gathered c) = 0
constants_needed (nodes.Releasing n) = 0
constants_needed (nodes.Editing n) = 0

-- how many lists of arguments have to be there for a node
abbrev pub arguments_needed : Node → ℕ
arguments_needed (nodes.Primitive q) = 0
arguments_needed (nodes.Named w k s) = 0
arguments_needed (nodes.Call k a) = suc a.0
arguments_needed (nodes.Joined j a b) = 0
arguments_needed (nodes.Sided d a) = 0
arguments_needed (nodes.Headed h e a) = 0
arguments_needed (nodes.Transformed f a) = 0
arguments_needed (nodes.Switching n) = 0
arguments_needed (nodes.Continuation n) = 0
arguments_needed (nodes.Gathered c) = 0
arguments_needed (nodes.Releasing n) = 0
arguments_needed (nodes.Editing n) = 0

-- the identity, without a text
abbrev pub identity_entry : Entry Node
identity_entry = record { node = nodes.Primitive (primitives.Bare Identity); depth = 1; spot = record { line = 0; column = 0 } }

-- the entry at a place; the identity past the end
abbrev pub term_entry : List (Entry Node) → ℕ → Entry Node
term_entry entries i = slice_index_or entries i identity_entry

-- the term of an entry, over the terms before it
abbrev pub term_made : TermBase → List Term → Entry Node → Term
term_made b ts entry = term_over b ts entry.node

-- the terms of entries
abbrev pub terms_made : TermBase → List (Entry Node) → List Term
terms_made b entries = trees (term_made b) entries

-- the term at a place; the identity past the end
abbrev pub term_entered : TermBase → List (Entry Node) → ℕ → Term
term_entered b entries i = folded_tree (term_made b) identity_term entries i

-- how many collections have to be there for a node
abbrev pub collections_needed : TermBase → Node → ℕ
collections_needed b (nodes.Primitive q) = 0
collections_needed b (nodes.Named w k s) = 0
collections_needed b (nodes.Call k a) = collections_end (arguments_listed b a)
collections_needed b (nodes.Joined j a c) = 0
collections_needed b (nodes.Sided d a) = 0
collections_needed b (nodes.Headed h e a) = 0
collections_needed b (nodes.Transformed f a) = 0
collections_needed b (nodes.Switching n) = 0
collections_needed b (nodes.Continuation n) = 0
collections_needed b (nodes.Gathered c) = suc c.0
collections_needed b (nodes.Releasing n) = suc n.members.0
collections_needed b (nodes.Editing n) = suc (max n.members.0 n.edit.0)

-- What holds of the entries of an arena of terms, beside what they are made over.
pub record AreTerms (b : TermBase) (entries : List (Entry Node)) : Type 0 where
  pub in_order : (i : ℕ) → needs_terms b (term_entry entries i).node ≤ i
  pub closed : (i : ℕ) → needs_expressions b (term_entry entries i).node ≤ arena_count b.expressions
  pub functions_closed : (i : ℕ) → needs_functions (term_entry entries i).node ≤ function_count b.expressions
  pub patterns_closed : (i : ℕ) → patterns_needed (term_entry entries i).node ≤ pattern_count b.expressions
  pub names_closed : (i : ℕ) → names_needed (term_entry entries i).node ≤ name_count b.expressions
  pub constants_closed : (i : ℕ) → constants_needed (term_entry entries i).node ≤ constant_count b.expressions
  pub arguments_closed : (i : ℕ) → arguments_needed (term_entry entries i).node ≤ length b.lists.arguments
  pub collections_closed : (i : ℕ) → collections_needed b (term_entry entries i).node ≤ length b.lists.collections
  pub stored_expressions_closed : (c : CollectionId) → stored_expressions (collection_listed b c) ≤ arena_count b.expressions
  pub stored_functions_closed : (c : CollectionId) → stored_functions (collection_listed b c) ≤ function_count b.expressions
  pub stored_names_closed : (c : CollectionId) → stored_names (collection_listed b c) ≤ name_count b.expressions
  pub measured : (i : ℕ) → (term_entry entries i).depth ≡ term_depth (term_entered b entries i)
