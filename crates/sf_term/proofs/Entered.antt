-- The entries of an arena of terms, of which one more is added, or whose expressions grow.
use Rattle.std.proofs.Common.{min, ◌^◌, ◌-◌, max, ◌≡◌, Bool, true, false, cond, ℕ, suc, ◌<◌, ◌≤◌, List, [], ◌∷◌, ◌++◌, length, length-append, refl, sym, ◌∙◌, ap, subst, arith, ⊎_elim, ◌⊎◌, inl, inr, Result, Ok, Err, IfOk, OnErr}
use Rattle.std.specs.Prelude.{slice_index_or}
use mathlib.Core.Path.{ap₂}
use Rattle.std.proofs.lemmas.List.{get_or_append_left, get_or_at, get_or_past, map-append}
use Rattle.std.proofs.lemmas.Bool.{cases_order}
use Rattle.std.specs.declared.rc.Rc.{Rc}
use Rattle.std.specs.declared.alloc.Global.{Global}
use Rattle.sf_arena.specs.declared.arena.ArenaRefusal.{ArenaRefusal}
use Rattle.sf_arena.specs.declared.entry.Entry.{Entry}
use Rattle.sf_arena.specs.Folded.{trees, folded_tree}
use Rattle.sf_arena.specs.Items.{Added}
use Rattle.sf_arena.proofs.Grown.{each_item, each_tree, tree_made, trees-same, added_or_same}
use Rattle.sf_expr.specs.declared.exprs.Exprs.{Exprs}
use Rattle.sf_expr.specs.declared.exprs.ExprId.{ExprId}
use Rattle.sf_value.specs.Values.{Name}
use Rattle.sf_expr.specs.declared.exprs.NameId.{NameId}
use Rattle.sf_expr.specs.declared.exprs.ConstantId.{ConstantId}
use Rattle.sf_expr.specs.declared.exprs.FunctionId.{FunctionId}
use Rattle.sf_expr.specs.declared.exprs.PatternId.{PatternId}
use Rattle.sf_expr.specs.declared.exprs.ExprNode.{ExprNode}
use Rattle.sf_refusal.specs.declared.spot.Spot.{Spot}
use Rattle.sf_expr.specs.Expressions.{Literal, Expression}
use Rattle.sf_expr.specs.Patterns.{PlacedPattern, pattern_of}
use Rattle.sf_expr.specs.Arena.{expression, function_at, name_at, arena_count, function_count, name_count, constant_count, pattern_count, stored_pattern, Adds, AddsName, AddsConstant, AddsPattern, AddsFunction, IsUnchanged, Extends}
use Rattle.sf_expr.proofs.Entered.{below_holds, below_function, below_name, below_constant, below_pattern, unchanged_keeps, keeps_trans}
use Rattle.sf_term.specs.declared.node.Primitive.TheVariants as primitives
use Rattle.sf_term.specs.declared.node.Node.{Node}
use Rattle.sf_term.specs.declared.node.Node.TheVariants as nodes
use Rattle.sf_term.specs.declared.node.Argument.{Argument}
use Rattle.sf_term.specs.declared.node.Argument.TheVariants as arguments
use Rattle.sf_term.specs.declared.node.ArgumentsId.{ArgumentsId}
use Rattle.sf_term.specs.declared.collection.CollectionId.{CollectionId}
use Rattle.sf_term.specs.declared.collection.CollExpr.{CollExpr}
use Rattle.sf_term.specs.declared.collection.CollExpr.TheVariants as collections
use Rattle.sf_term.specs.Trees as forms
use Rattle.sf_term.specs.Trees.{Term, primitive, reference, call, Collection, value_argument, process_argument, collection_argument, joined, sided, headed, transformed, never, switching, continuing, gathered, releasing, editing, with_value, timed, arrow, accumulated, named_term, term_depth}
use Rattle.sf_term.specs.Entries.{StoredLists, TermBase, absent_collection, collections_in, collection_listed, stored_over, stored_terms, stored_expressions, stored_functions, stored_names, collections_end, collections_needed, arguments_listed, arguments_over, terms_end, expressions_end, identity_term, term_among, term_over, absent_payload, needs_terms, needs_expressions, needs_functions, constants_needed, patterns_needed, names_needed, arguments_needed, identity_entry, term_entry, term_made, terms_made, term_entered, AreTerms}

-- a collection depends on its terms alone
pub stored-local : (x : Exprs) (ts more : List Term) (c : CollExpr) → stored_terms c ≤ length ts → stored_over x (ts ++ more) c ≡ stored_over x ts c
stored-local x ts more (collections.Empty k t s) h = refl
stored-local x ts more (collections.Used k n s) h = refl
stored-local x ts more (collections.Added' a c e t s) h = ap₂ (λ i u. forms.added i (expression x e) u) (stored-local x ts more c (omega arith)) (get_or_append_left ts more identity_term t.0 (omega arith))
stored-local x ts more (collections.Dropped' a c e s) h = ap (λ i. forms.dropped i (expression x e)) (stored-local x ts more c h)
stored-local x ts more (collections.Kept' a c f s) h = ap (λ i. forms.kept i (function_at x f)) (stored-local x ts more c h)
stored-local x ts more (collections.Chosen' e a c b d s) h = ap₂ (λ i j. forms.chosen (expression x e) i j) (stored-local x ts more c (omega arith)) (stored-local x ts more d (omega arith))

-- a node's term depends on its parts alone
local : (b : TermBase) (ts more : List Term) (entry : Entry Node) → needs_terms b entry.node ≤ length ts → term_made b (ts ++ more) entry ≡ term_made b ts entry
local b ts more entry h = at_node entry.node h
  where
    part : (i : ℕ) → suc i ≤ length ts → term_among (ts ++ more) i ≡ term_among ts i
    part i q = get_or_append_left ts more identity_term i (omega arith)

    members : (c : CollExpr) → stored_terms c ≤ length ts → stored_over b.expressions (ts ++ more) c ≡ stored_over b.expressions ts c
    members c h = stored-local b.expressions ts more c h

    at_arguments : (vs : List Argument) → terms_end b vs ≤ length ts → arguments_over b (ts ++ more) vs ≡ arguments_over b ts vs
    at_arguments [] h = refl
    at_arguments (arguments.Value e ∷ vs) h = ap (value_argument (expression b.expressions e)) (at_arguments vs h)
    at_arguments (arguments.Process t ∷ vs) h = ap₂ process_argument (part t.0 (omega arith)) (at_arguments vs (omega arith))
    at_arguments (arguments.Collection c ∷ vs) h = ap₂ collection_argument (members (collection_listed b c) (omega arith)) (at_arguments vs (omega arith))

    at_node : (n : Node) → needs_terms b n ≤ length ts → term_over b (ts ++ more) n ≡ term_over b ts n
    at_node (nodes.Primitive (primitives.Bare k)) h = refl
    at_node (nodes.Primitive (primitives.Never n)) h = refl
    at_node (nodes.Primitive (primitives.WithValue k e)) h = refl
    at_node (nodes.Primitive (primitives.Timed k q e)) h = refl
    at_node (nodes.Primitive (primitives.Selected k n)) h = refl
    at_node (nodes.Primitive (primitives.Arrow f)) h = refl
    at_node (nodes.Primitive (primitives.Accumulated k e f)) h = refl
    at_node (nodes.Named w k s) h = refl
    at_node (nodes.Call k a) h = ap (λ vs. reference (call (name_at b.expressions k) vs)) (at_arguments (arguments_listed b a) h)
    at_node (nodes.Joined j a c) h = ap₂ (λ s t. joined j s t) (part a.0 (omega arith)) (part c.0 (omega arith))
    at_node (nodes.Sided d a) h = ap (λ t. sided d t) (part a.0 h)
    at_node (nodes.Headed k e a) h = ap (λ t. headed k (expression b.expressions e) t) (part a.0 h)
    at_node (nodes.Transformed f a) h = ap (λ t. transformed (function_at b.expressions f) t) (part a.0 h)
    at_node (nodes.Switching n) h = ap₂ (λ s t. switching n.form s (pattern_of (stored_pattern b.expressions n.pattern)) t) (part n.source.0 (omega arith)) (part n.body.0 (omega arith))
    at_node (nodes.Continuation n) h = rw (part n.source.0 (omega arith), part n.observer.0 (omega arith), part n.body.0 (omega arith)) refl
    at_node (nodes.Gathered c) h = ap gathered (members (collection_listed b c) h)
    at_node (nodes.Releasing n) h = rw (members (collection_listed b n.members) (omega arith), part n.observer.0 (omega arith), part n.body.0 (omega arith)) refl
    at_node (nodes.Editing n) h =
        ap₂ (λ i j. editing n.shown i (name_at b.expressions n.name) (pattern_of (stored_pattern b.expressions n.pattern)) j) (members (collection_listed b n.members) (omega arith)) (members (collection_listed b n.edit) (omega arith))

-- nothing is an arena
pub arena_empty : (x : Exprs) → AreTerms (record { expressions = x; lists = record { arguments = []; collections = [] } }) []
unfolding folded_tree trees
arena_empty x = record {
  in_order = λ i. omega arith;
  closed = λ i. omega arith;
  functions_closed = λ i. omega arith;
  patterns_closed = λ i. omega arith;
  names_closed = λ i. omega arith;
  constants_closed = λ i. omega arith;
  arguments_closed = λ i. omega arith;
  collections_closed = λ i. omega arith;
  stored_expressions_closed = λ c. omega arith;
  stored_functions_closed = λ c. omega arith;
  stored_names_closed = λ c. omega arith;
  measured = λ i. refl;
}

-- What a node needs is there.
pub record NeedsAreThere (b : TermBase) (entries : List (Entry Node)) (n : Node) : Type 0 where
  pub terms : needs_terms b n ≤ length entries
  pub expressions : needs_expressions b n ≤ arena_count b.expressions
  pub functions : needs_functions n ≤ function_count b.expressions
  pub patterns : patterns_needed n ≤ pattern_count b.expressions
  pub names : names_needed n ≤ name_count b.expressions
  pub constants : constants_needed n ≤ constant_count b.expressions
  pub arguments : arguments_needed n ≤ length b.lists.arguments
  pub collections : collections_needed b n ≤ length b.lists.collections

-- the arena once an entry is added
arena_added : (b : TermBase) (old new : List (Entry Node)) (entry : Entry Node) (n : ℕ) → Added old new entry n → AreTerms b old → NeedsAreThere b old entry.node → entry.depth ≡ term_depth (term_made b (terms_made b old) entry) → AreTerms b new
arena_added b old new entry n added a needed measured = record {
  in_order = each_item old new entry n added (λ i e. needs_terms b e.node ≤ i) identity_entry a.in_order (omega (arith, added.next, needed.terms));
  closed = each_item old new entry n added (λ i e. needs_expressions b e.node ≤ arena_count b.expressions) identity_entry a.closed needed.expressions;
  functions_closed = each_item old new entry n added (λ i e. needs_functions e.node ≤ function_count b.expressions) identity_entry a.functions_closed needed.functions;
  patterns_closed = each_item old new entry n added (λ i e. patterns_needed e.node ≤ pattern_count b.expressions) identity_entry a.patterns_closed needed.patterns;
  names_closed = each_item old new entry n added (λ i e. names_needed e.node ≤ name_count b.expressions) identity_entry a.names_closed needed.names;
  constants_closed = each_item old new entry n added (λ i e. constants_needed e.node ≤ constant_count b.expressions) identity_entry a.constants_closed needed.constants;
  arguments_closed = each_item old new entry n added (λ i e. arguments_needed e.node ≤ length b.lists.arguments) identity_entry a.arguments_closed needed.arguments;
  collections_closed = each_item old new entry n added (λ i e. collections_needed b e.node ≤ length b.lists.collections) identity_entry a.collections_closed needed.collections;
  stored_expressions_closed = a.stored_expressions_closed;
  stored_functions_closed = a.stored_functions_closed;
  stored_names_closed = a.stored_names_closed;
  measured = each_tree old new entry n added (term_made b) identity_term (λ i e t. e.depth ≡ term_depth t) identity_entry a.measured measured;
}

-- the arena after a call that adds, whatever it answers
pub arena_put : (b : TermBase) (old new : List (Entry Node)) (entry : Entry Node) (r : Result ℕ ArenaRefusal) → IfOk r (Added old new entry) → OnErr r (new ≡ old) → ((n : ℕ) → Added old new entry n → entry.depth ≤ 64) → AreTerms b old → NeedsAreThere b old entry.node → entry.depth ≡ min (term_depth (term_made b (terms_made b old) entry)) (2 ^ 32 - 1) → AreTerms b new
arena_put b old new entry r ok err shallow a needed measured =
    ⊎_elim (λ added. arena_added b old new entry _ added a needed (omega (arith, measured, shallow _ added))) (λ e. subst (λ es. AreTerms b es) (sym e) a) (added_or_same old new entry r ok err)

-- the term at a place is made over all terms
pub term-built : (b : TermBase) (entries : List (Entry Node)) (i : ℕ) → AreTerms b entries → term_entered b entries i ≡ term_over b (terms_made b entries) (term_entry entries i).node
term-built b entries i a = tree_made (term_made b) (λ n. needs_terms b n.node) identity_entry (local b) entries identity_term (λ ts. refl) a.in_order i

-- A list that grew: what was there is kept, and there is no less.
pub record MoreItems {A : Type 0} (d : A) (vs us : List A) : Type 0 where
  pub kept : (i : ℕ) → i < length vs → slice_index_or us i d ≡ slice_index_or vs i d
  pub more : length vs ≤ length us

pub same_items : {A : Type 0} (d : A) (vs us : List A) → us ≡ vs → MoreItems d vs us
same_items {A} d vs us e = subst (λ (ws : List A). MoreItems d vs ws) (sym e) (record { kept = λ i h. refl; more = omega arith })

-- one item more
pub items_pushed : {A : Type 0} (d : A) (vs us : List A) (l : A) → us ≡ vs ++ l ∷ [] → MoreItems d vs us
items_pushed {A} d vs us l e = record {
  kept = λ i h. ap (λ (ws : List A). slice_index_or ws i d) e ∙ get_or_append_left vs (l ∷ []) d i h;
  more = omega (arith, ap (λ (ws : List A). length ws) e, length-append vs (l ∷ []));
}

-- the item that was put behind is there
pub pushed_at : {A : Type 0} (d : A) (vs us : List A) (l : A) (n : ℕ) → us ≡ vs ++ l ∷ [] → n ≡ length vs → (n < length us) × (slice_index_or us n d ≡ l)
pushed_at {A} d vs us l n e k = (
  omega (arith, ap (λ (ws : List A). length ws) e, length-append vs (l ∷ [])),
  ap (λ (ws : List A). slice_index_or ws n d) e ∙ get_or_at vs l [] d n (sym k),
)

-- one item more, or none
pub items_put : {A : Type 0} (d : A) (vs us : List A) (l : A) (put : Bool) → us ≡ cond put (vs ++ l ∷ []) vs → MoreItems d vs us
items_put d vs us l true e = items_pushed d vs us l e
items_put d vs us l false e = same_items d vs us e

-- Arguments and collections that grew.
pub record MoreLists (f g : StoredLists) : Type 0 where
  pub arguments : MoreItems [] f.arguments g.arguments
  pub collections : MoreItems absent_collection f.collections g.collections

pub same_lists : (f : StoredLists) → MoreLists f f
same_lists f = record { arguments = same_items _ _ _ refl; collections = same_items _ _ _ refl }

-- lists of which each is the same
pub lists_copied : (f g : StoredLists) → g.arguments ≡ f.arguments → g.collections ≡ f.collections → MoreLists f g
lists_copied f g e k = record { arguments = same_items _ _ _ e; collections = same_items _ _ _ k }

-- the arguments at an id that is there stay
listed-same : (b c : TermBase) (a : ArgumentsId) → MoreLists b.lists c.lists → a.0 < length b.lists.arguments → arguments_listed c a ≡ arguments_listed b a
listed-same b c a m h = m.arguments.kept a.0 h

-- and so does the collection
collection-same : (b c : TermBase) (i : CollectionId) → MoreLists b.lists c.lists → i.0 < length b.lists.collections → collection_listed c i ≡ collection_listed b i
collection-same b c i m h = m.collections.kept i.0 h

-- a collection stays where the expressions grow
pub stored-same : (x y : Exprs) (ts : List Term) (c : CollExpr) → Extends x y → stored_expressions c ≤ arena_count x → stored_functions c ≤ function_count x → stored_names c ≤ name_count x → stored_over y ts c ≡ stored_over x ts c
stored-same x y ts (collections.Empty w t s) k h g n = refl
stored-same x y ts (collections.Used w r s) k h g n = ap forms.used (k.names w (below_name x w (omega arith)))
stored-same x y ts (collections.Added' a c e t s) k h g n = ap₂ (λ i u. forms.added i u (term_among ts t.0)) (stored-same x y ts c k (omega arith) g n) (k.trees e (below_holds x e (omega arith)))
stored-same x y ts (collections.Dropped' a c e s) k h g n = ap₂ (λ i u. forms.dropped i u) (stored-same x y ts c k (omega arith) g n) (k.trees e (below_holds x e (omega arith)))
stored-same x y ts (collections.Kept' a c f s) k h g n = ap₂ (λ i u. forms.kept i u) (stored-same x y ts c k h (omega arith) n) (k.meanings f (below_function x f (omega arith)))
stored-same x y ts (collections.Chosen' e a c b d s) k h g n =
    ap₂ (λ u (ij : Collection × Collection). forms.chosen u ij.0 ij.1) (k.trees e (below_holds x e (omega arith)))
    (ap₂ (λ i j. (i, j)) (stored-same x y ts c k (omega arith) (omega arith) (omega arith)) (stored-same x y ts d k (omega arith) (omega arith) (omega arith)))

-- the terms stay where the expressions and the arguments grow
pub term-same : (b c : TermBase) (entries : List (Entry Node)) (i : ℕ) → Extends b.expressions c.expressions → MoreLists b.lists c.lists → AreTerms b entries → term_entered c entries i ≡ term_entered b entries i
unfolding folded_tree
term-same b c entries i k m a =
    ap (λ ts. term_among ts i) (trees-same (term_made c) (term_made b) identity_entry entries (λ j us h. at_node us (term_entry entries j).node (a.closed j) (a.functions_closed j) (a.patterns_closed j) (a.names_closed j) (a.constants_closed j) (a.arguments_closed j) (a.collections_closed j)))
  where
    members : (ts : List Term) (i : CollectionId) → i.0 < length b.lists.collections → stored_over c.expressions ts (collection_listed c i) ≡ stored_over b.expressions ts (collection_listed b i)
    members ts i h =
        ap (stored_over c.expressions ts) (collection-same b c i m h)
        ∙ stored-same b.expressions c.expressions ts (collection_listed b i) k (a.stored_expressions_closed i) (a.stored_functions_closed i) (a.stored_names_closed i)

    at_arguments : (ts : List Term) (vs : List Argument) → expressions_end vs ≤ arena_count b.expressions → collections_end vs ≤ length b.lists.collections → arguments_over c ts vs ≡ arguments_over b ts vs
    at_arguments ts [] h g = refl
    at_arguments ts (arguments.Value e ∷ vs) h g = ap₂ value_argument (k.trees e (below_holds b.expressions e (omega arith))) (at_arguments ts vs (omega arith) g)
    at_arguments ts (arguments.Process t ∷ vs) h g = ap (process_argument (term_among ts t.0)) (at_arguments ts vs h g)
    at_arguments ts (arguments.Collection i ∷ vs) h g = ap₂ collection_argument (members ts i (omega arith)) (at_arguments ts vs h (omega arith))

    at_node : (ts : List Term) (n : Node) → needs_expressions b n ≤ arena_count b.expressions → needs_functions n ≤ function_count b.expressions → patterns_needed n ≤ pattern_count b.expressions → names_needed n ≤ name_count b.expressions → constants_needed n ≤ constant_count b.expressions → arguments_needed n ≤ length b.lists.arguments → collections_needed b n ≤ length b.lists.collections
        → term_over c ts n ≡ term_over b ts n
    at_node ts (nodes.Primitive (primitives.Bare k)) h g q m l v i = refl
    at_node ts (nodes.Primitive (primitives.Never n)) h g q m l v i = ap (λ l. primitive (never (absent_payload l))) (k.constants n (below_constant b.expressions n (omega arith)))
    at_node ts (nodes.Primitive (primitives.WithValue w e)) h g q m l v i = ap (λ v. primitive (with_value w v)) (k.trees e (below_holds b.expressions e (omega arith)))
    at_node ts (nodes.Primitive (primitives.Timed w t e)) h g q m l v i = ap (λ v. primitive (timed w t v)) (k.trees e (below_holds b.expressions e (omega arith)))
    at_node ts (nodes.Primitive (primitives.Selected w n)) h g q m l v i = refl
    at_node ts (nodes.Primitive (primitives.Arrow f)) h g q m l v i = ap (λ v. primitive (arrow v)) (k.meanings f (below_function b.expressions f (omega arith)))
    at_node ts (nodes.Primitive (primitives.Accumulated w e f)) h g q m l v i = ap₂ (λ v g. primitive (accumulated w v g)) (k.trees e (below_holds b.expressions e (omega arith))) (k.meanings f (below_function b.expressions f (omega arith)))
    at_node ts (nodes.Named w n s) h g q m l v i = ap (named_term w) (k.names n (below_name b.expressions n (omega arith)))
    at_node ts (nodes.Call w a) h g q n l v i =
        ap₂ (λ n vs. reference (call n vs)) (k.names w (below_name b.expressions w (omega arith)))
        (ap (λ vs. arguments_over c ts vs) (listed-same b c a m (omega arith)) ∙ at_arguments ts (arguments_listed b a) h i)
    at_node ts (nodes.Joined j d e) h g q m l v i = refl
    at_node ts (nodes.Sided d a) h g q m l v i = refl
    at_node ts (nodes.Headed w e a) h g q m l v i = ap (λ v. headed w v (term_among ts a.0)) (k.trees e (below_holds b.expressions e (omega arith)))
    at_node ts (nodes.Transformed f a) h g q m l v i = ap (λ v. transformed v (term_among ts a.0)) (k.meanings f (below_function b.expressions f (omega arith)))
    at_node ts (nodes.Switching n) h g q m l v i = ap (λ v. switching n.form (term_among ts n.source.0) (pattern_of v) (term_among ts n.body.0)) (k.placed n.pattern (below_pattern b.expressions n.pattern (omega arith)))
    at_node ts (nodes.Continuation n) h g q m l v i = ap₂ (λ u v. continuing n.shown (term_among ts n.source.0) (term_among ts n.observer.0) u (pattern_of v) (term_among ts n.body.0)) (k.names n.name (below_name b.expressions n.name (omega arith))) (k.placed n.pattern (below_pattern b.expressions n.pattern (omega arith)))
    at_node ts (nodes.Gathered d) h g q m l v i = ap gathered (members ts d (omega arith))
    at_node ts (nodes.Releasing n) h g q m l v i =
        rw (members ts n.members (omega arith), k.names n.name (below_name b.expressions n.name (omega arith)), k.placed n.pattern (below_pattern b.expressions n.pattern (omega arith))) refl
    at_node ts (nodes.Editing n) h g q m l v i =
        rw (members ts n.members (omega arith), members ts n.edit (omega arith), k.names n.name (below_name b.expressions n.name (omega arith)), k.placed n.pattern (below_pattern b.expressions n.pattern (omega arith))) refl

-- what arguments need of terms stays where the collections grow
arguments-need : (b c : TermBase) (vs : List Argument) → MoreLists b.lists c.lists → collections_end vs ≤ length b.lists.collections → terms_end c vs ≡ terms_end b vs
arguments-need b c [] m h = refl
arguments-need b c (arguments.Value e ∷ vs) m h = arguments-need b c vs m h
arguments-need b c (arguments.Process t ∷ vs) m h = ap (λ n. max (suc t.0) n) (arguments-need b c vs m h)
arguments-need b c (arguments.Collection i ∷ vs) m h = ap₂ (λ j n. max (stored_terms j) n) (collection-same b c i m (omega arith)) (arguments-need b c vs m (omega arith))

-- what a node needs stays where the arguments grow
needs-same : (b c : TermBase) (n : Node) → MoreLists b.lists c.lists → arguments_needed n ≤ length b.lists.arguments → collections_needed b n ≤ length b.lists.collections
    → (needs_terms c n ≡ needs_terms b n) × (needs_expressions c n ≡ needs_expressions b n) × (collections_needed c n ≡ collections_needed b n)
needs-same b c (nodes.Primitive (primitives.Bare k)) m h g = (refl, refl, refl)
needs-same b c (nodes.Primitive (primitives.Never n)) m h g = (refl, refl, refl)
needs-same b c (nodes.Primitive (primitives.WithValue k e)) m h g = (refl, refl, refl)
needs-same b c (nodes.Primitive (primitives.Timed k q e)) m h g = (refl, refl, refl)
needs-same b c (nodes.Primitive (primitives.Selected k n)) m h g = (refl, refl, refl)
needs-same b c (nodes.Primitive (primitives.Arrow f)) m h g = (refl, refl, refl)
needs-same b c (nodes.Primitive (primitives.Accumulated k e f)) m h g = (refl, refl, refl)
needs-same b c (nodes.Named w k s) m h g = (refl, refl, refl)
needs-same b c (nodes.Call k a) m h g =
    let e = listed-same b c a m (omega arith) in
    (ap (terms_end c) e ∙ arguments-need b c (arguments_listed b a) m g, ap expressions_end e, ap collections_end e)
needs-same b c (nodes.Joined j a d) m h g = (refl, refl, refl)
needs-same b c (nodes.Sided d a) m h g = (refl, refl, refl)
needs-same b c (nodes.Headed q e a) m h g = (refl, refl, refl)
needs-same b c (nodes.Transformed f a) m h g = (refl, refl, refl)
needs-same b c (nodes.Switching n) m h g = (refl, refl, refl)
needs-same b c (nodes.Continuation n) m h g = (refl, refl, refl)
needs-same b c (nodes.Gathered d) m h g = (ap stored_terms (collection-same b c d m (omega arith)), refl, refl)
needs-same b c (nodes.Releasing n) m h g = (ap (λ i. max (stored_terms i) (suc (max n.observer.0 n.body.0))) (collection-same b c n.members m (omega arith)), refl, refl)
needs-same b c (nodes.Editing n) m h g =
    (ap₂ (λ i j. max (stored_terms i) (stored_terms j)) (collection-same b c n.members m (omega arith)) (collection-same b c n.edit m (omega arith)), refl, refl)

-- Expressions that grew: what was there is kept, and there are no fewer.
pub record IsGrown (x y : Exprs) : Type 0 where
  pub kept : Extends x y
  pub more : arena_count x ≤ arena_count y
  pub more_functions : function_count x ≤ function_count y
  pub more_patterns : pattern_count x ≤ pattern_count y
  pub more_names : name_count x ≤ name_count y
  pub more_constants : constant_count x ≤ constant_count y

-- What collections name beside terms is there.
pub record AreStored (c : TermBase) : Type 0 where
  pub expressions : (i : CollectionId) → stored_expressions (collection_listed c i) ≤ arena_count c.expressions
  pub functions : (i : CollectionId) → stored_functions (collection_listed c i) ≤ function_count c.expressions
  pub names : (i : CollectionId) → stored_names (collection_listed c i) ≤ name_count c.expressions

-- the arena where the expressions, the arguments and the collections grow
pub arena_grown : (b c : TermBase) (entries : List (Entry Node)) → IsGrown b.expressions c.expressions → MoreLists b.lists c.lists → AreStored c → AreTerms b entries → AreTerms c entries
arena_grown b c entries g m stored a = record {
  in_order = λ i. omega (arith, a.in_order i, (needs-same b c (term_entry entries i).node m (a.arguments_closed i) (a.collections_closed i)).0);
  closed = λ i. omega (arith, a.closed i, g.more, (needs-same b c (term_entry entries i).node m (a.arguments_closed i) (a.collections_closed i)).1);
  functions_closed = λ i. omega (arith, a.functions_closed i, g.more_functions);
  patterns_closed = λ i. omega (arith, a.patterns_closed i, g.more_patterns);
  names_closed = λ i. omega (arith, a.names_closed i, g.more_names);
  constants_closed = λ i. omega (arith, a.constants_closed i, g.more_constants);
  arguments_closed = λ i. omega (arith, a.arguments_closed i, m.arguments.more);
  collections_closed = λ i. omega (arith, a.collections_closed i, m.collections.more, (needs-same b c (term_entry entries i).node m (a.arguments_closed i) (a.collections_closed i)).2);
  stored_expressions_closed = stored.expressions;
  stored_functions_closed = stored.functions;
  stored_names_closed = stored.names;
  measured = λ i. a.measured i ∙ ap term_depth (sym (term-same b c entries i g.kept m a));
}

-- what the same collections name is there where expressions grow
pub still_stored : (b c : TermBase) (entries : List (Entry Node)) → IsGrown b.expressions c.expressions → c.lists.collections ≡ b.lists.collections → AreTerms b entries → AreStored c
still_stored b c entries g e a = record {
  expressions = λ i. omega (arith, a.stored_expressions_closed i, g.more, ap (λ (cs : List CollExpr). stored_expressions (slice_index_or cs i.0 absent_collection)) e);
  functions = λ i. omega (arith, a.stored_functions_closed i, g.more_functions, ap (λ (cs : List CollExpr). stored_functions (slice_index_or cs i.0 absent_collection)) e);
  names = λ i. omega (arith, a.stored_names_closed i, g.more_names, ap (λ (cs : List CollExpr). stored_names (slice_index_or cs i.0 absent_collection)) e);
}

-- a collection at each place is stored, where it may be that one more was put behind
each_stored : (P : CollExpr → Type 0) (vs us : List CollExpr) (l : CollExpr) (put : Bool) → us ≡ cond put (vs ++ l ∷ []) vs → ((i : CollectionId) → P (slice_index_or vs i.0 absent_collection)) → P l → P absent_collection → (i : CollectionId) → P (slice_index_or us i.0 absent_collection)
each_stored P vs us l false e a p q i = subst (λ (ws : List CollExpr). P (slice_index_or ws i.0 absent_collection)) (sym e) (a i)
each_stored P vs us l true e a p q i = subst (λ (ws : List CollExpr). P (slice_index_or ws i.0 absent_collection)) (sym e) (here (cases_order i.0 (length vs)))
  where
    here : (i.0 ≡ length vs) ⊎ ((i.0 < length vs) ⊎ (length vs < i.0)) → P (slice_index_or (vs ++ l ∷ []) i.0 absent_collection)
    here (inl h) = subst P (sym (get_or_at vs l [] absent_collection i.0 (sym h))) p
    here (inr (inl h)) = subst P (sym (get_or_append_left vs (l ∷ []) absent_collection i.0 h)) (a i)
    here (inr (inr h)) = subst P (sym (get_or_past (vs ++ l ∷ []) i.0 absent_collection (omega (arith, length-append vs (l ∷ []))))) q

-- a shared collection behind others, or none
pub collections_put : (vs us : List (Rc CollExpr Global)) (r : Rc CollExpr Global) (put : Bool) → us ≡ cond put (vs ++ r ∷ []) vs → collections_in us ≡ cond put (collections_in vs ++ r.value ∷ []) (collections_in vs)
collections_put vs us r true e = ap collections_in e ∙ map-append (λ (r : Rc CollExpr Global). r.value) vs (r ∷ [])
collections_put vs us r false e = ap collections_in e

pub collections_counted : (vs : List (Rc CollExpr Global)) → length (collections_in vs) ≡ length vs
collections_counted [] = refl
collections_counted (r ∷ vs) = ap suc (collections_counted vs)

-- what collections name is there, also where one more was put behind
pub stored_put : (b : TermBase) (us : List CollExpr) (entries : List (Entry Node)) (l : CollExpr) (put : Bool) → us ≡ cond put (b.lists.collections ++ l ∷ []) b.lists.collections
    → (stored_expressions l ≤ arena_count b.expressions) × (stored_functions l ≤ function_count b.expressions) × (stored_names l ≤ name_count b.expressions)
    → AreTerms b entries → AreStored (record { expressions = b.expressions; lists = record { arguments = b.lists.arguments; collections = us } })
stored_put b us entries l put e h a = record {
  expressions = each_stored (λ c. stored_expressions c ≤ arena_count b.expressions) b.lists.collections us l put e a.stored_expressions_closed h.0 (omega arith);
  functions = each_stored (λ c. stored_functions c ≤ function_count b.expressions) b.lists.collections us l put e a.stored_functions_closed h.1 (omega arith);
  names = each_stored (λ c. stored_names c ≤ name_count b.expressions) b.lists.collections us l put e a.stored_names_closed h.2 (omega arith);
}

-- the same where the expressions alone grow
pub arena_with : (x y : Exprs) (f : StoredLists) (entries : List (Entry Node)) → IsGrown x y → AreTerms (record { expressions = x; lists = f }) entries → AreTerms (record { expressions = y; lists = f }) entries
arena_with x y f entries g a =
    let b : TermBase = record { expressions = x; lists = f } in
    let c : TermBase = record { expressions = y; lists = f } in
    arena_grown b c entries g (same_lists f) (still_stored b c entries g refl a) a

pub unchanged_grown : (x y : Exprs) → IsUnchanged x y → IsGrown x y
unchanged_grown x y u = record { kept = unchanged_keeps x y u; more = omega (arith, u.count); more_functions = omega (arith, u.functions); more_patterns = omega (arith, u.pattern_counted); more_names = omega (arith, u.name_counted); more_constants = omega (arith, u.constant_counted) }

pub grown_trans : (x y z : Exprs) → IsGrown x y → IsGrown y z → IsGrown x z
grown_trans x y z f g = record { kept = keeps_trans x y z f.kept g.kept; more = omega (arith, f.more, g.more); more_functions = omega (arith, f.more_functions, g.more_functions); more_patterns = omega (arith, f.more_patterns, g.more_patterns); more_names = omega (arith, f.more_names, g.more_names); more_constants = omega (arith, f.more_constants, g.more_constants) }

-- what builders of expressions leave has grown, whatever they answer
pub grown_by : (x y : Exprs) (r : Result ExprId ArenaRefusal) (n : ExprNode) (e : Expression) (s : Spot) → IfOk r (λ id. Adds x y id n e s) → OnErr r (IsUnchanged x y) → IsGrown x y
grown_by x y (Ok id) n e s a u = record { kept = a.kept; more = omega (arith, a.count); more_functions = omega (arith, a.functions); more_patterns = omega (arith, a.pattern_counted); more_names = omega (arith, a.names); more_constants = omega (arith, a.constants) }
grown_by x y (Err f) n e s a u = unchanged_grown x y u

pub name_grown_by : {E : Type 0} (x y : Exprs) (r : Result NameId E) (n : Name) → IfOk r (λ id. AddsName x y id n) → OnErr r (IsUnchanged x y) → IsGrown x y
name_grown_by x y (Ok id) n a u = record { kept = a.kept; more = omega (arith, a.count); more_functions = omega (arith, a.functions); more_patterns = omega (arith, a.pattern_counted); more_names = omega (arith, a.names); more_constants = omega (arith, a.constants) }
name_grown_by x y (Err e) n a u = unchanged_grown x y u

pub constant_grown_by : {E : Type 0} (x y : Exprs) (r : Result ConstantId E) (l : Literal) → IfOk r (λ id. AddsConstant x y id l) → OnErr r (IsUnchanged x y) → IsGrown x y
constant_grown_by x y (Ok id) l a u = record { kept = a.kept; more = omega (arith, a.count); more_functions = omega (arith, a.functions); more_patterns = omega (arith, a.pattern_counted); more_names = omega (arith, a.names); more_constants = omega (arith, a.constants) }
constant_grown_by x y (Err e) l a u = unchanged_grown x y u

pub pattern_grown_by : (x y : Exprs) (r : Result PatternId ArenaRefusal) (p : PlacedPattern) → IfOk r (λ id. AddsPattern x y id p) → OnErr r (IsUnchanged x y) → IsGrown x y
pattern_grown_by x y (Ok id) p a u = record { kept = a.kept; more = omega (arith, a.count); more_functions = omega (arith, a.functions); more_patterns = omega (arith, a.pattern_counted); more_names = omega (arith, a.names); more_constants = omega (arith, a.constants) }
pattern_grown_by x y (Err e) p a u = unchanged_grown x y u

pub function_grown_by : (x y : Exprs) (r : Result FunctionId ArenaRefusal) (p : PlacedPattern) (b : ExprId) → IfOk r (λ f. AddsFunction x y f p b) → OnErr r (IsUnchanged x y) → IsGrown x y
function_grown_by x y (Ok f) p b a u = record { kept = a.kept; more = omega (arith, a.count); more_functions = omega (arith, a.functions); more_patterns = omega (arith, a.pattern_counted); more_names = omega (arith, a.names); more_constants = omega (arith, a.constants) }
function_grown_by x y (Err e) p b a u = unchanged_grown x y u
