-- What builders keep of a program.
use Rattle.std.specs.Prelude.{slice_index_or}
use Rattle.std.proofs.Common.{◌≡◌, ℕ, zero, suc, ◌^◌, ◌-◌, max, min, ◌<◌, ◌≤◌, List, [], ◌∷◌, ◌++◌, length, get_or, map, Bool, true, false, cond, Result, Ok, Err, IfOk, OnOk, refl, sym, ◌∙◌, ap, subst, arith, ◌⊎◌, inl, inr, All}
use mathlib.Core.Path.{ap₂}
use Rattle.std.proofs.lemmas.List.{map-append, get_or_past}
use Rattle.std.proofs.lemmas.List.Elements.{All-nil, All-cons, All-head, All-tail, All-weaker}
use Rattle.std.proofs.lemmas.Bool.{cases_lt}
use Rattle.sf_refusal.specs.declared.spot.Spot.{Spot}
use Rattle.sf_arena.specs.declared.entry.Entry.{Entry}
use Rattle.sf_arena.specs.Arenas.{entries_of}
use Rattle.sf_arena.specs.Folded.{folded_tree}
use Rattle.sf_arena.specs.Items.{Added}
use Rattle.sf_arena.proofs.Grown.{trees-length, added_counted, added_within, added_fresh, added_item, item_kept, tree_kept, tree_added, shallow_at, few_entries, shallow_entries}
use Rattle.sf_expr.specs.declared.exprs.ExprId.{ExprId}
use Rattle.sf_expr.specs.declared.exprs.FunctionId.{FunctionId}
use Rattle.sf_expr.specs.declared.exprs.PatternId.{PatternId}
use Rattle.sf_expr.specs.declared.exprs.NameId.{NameId}
use Rattle.sf_expr.specs.declared.exprs.ConstantId.{ConstantId}
use Rattle.sf_value.specs.Values.{Name}
use Rattle.sf_expr.specs.declared.exprs.ExprNode.{ExprNode}
use Rattle.sf_expr.specs.declared.exprs.Exprs.{Exprs}
use Rattle.sf_expr.specs.Patterns.{PlacedPattern, pattern_of}
use Rattle.sf_expr.specs.Expressions.{Literal, Expression}
use Rattle.sf_expr.specs.Expressions
use Rattle.sf_expr.specs.Arena.{expression, name_at, HoldsName, next_name, arena_count, function_count, name_count, pattern_count, Holds, function_at, AddsName, AddsConstant, HoldsPattern, stored_pattern, next_pattern, AddsPattern, node_expression, HoldsFunction, argument_pattern, body_id, node_at, spot_at, Extends, Adds, AddsFunction, IsUnchanged}
use Rattle.sf_expr.proofs.Entered.{below_holds, holds_below, below_function, function_below, name_below, below_name, constant_below, below_constant, pattern_below, below_pattern, few_expressions, adds_keeps}
use Rattle.sf_expr.proofs.Entered
use Rattle.sf_term.specs.declared.refusal.BuildRefusal.{BuildRefusal}
use Rattle.sf_term.specs.declared.node.TermId.{TermId}
use Rattle.sf_term.specs.declared.node.ArgumentsId.{ArgumentsId}
use Rattle.sf_term.specs.declared.node.Argument.{Argument}
use Rattle.sf_term.specs.declared.node.Argument.TheVariants as arguments
use Rattle.sf_term.specs.declared.node.Primitive.TheVariants as primitives
use Rattle.sf_term.specs.declared.collection.CollectionId.{CollectionId}
use Rattle.sf_term.specs.declared.collection.CollExpr.{CollExpr}
use Rattle.sf_term.specs.declared.collection.CollExpr.TheVariants as collections
use Rattle.sf_term.specs.declared.node.Node.{Node}
use Rattle.sf_term.specs.declared.node.Node.TheVariants as nodes
use Rattle.sf_term.specs.declared.program.Program.{Program}
use Rattle.sf_term.specs.declared.form.Observation.{Observation}
use Rattle.sf_term.specs.declared.form.Switching.{Switching}
use Rattle.sf_term.specs.declared.form.Naming.{Naming}
use Rattle.sf_term.specs.declared.form.Naming.TheVariants.{Process, Probe}
use Rattle.sf_term.specs.Parameters.{parameters_of}
use Rattle.sf_term.specs.Trees as forms
use Rattle.sf_term.specs.Trees.{named_term, Term, reference, call, value_argument, process_argument, collection_argument, switching, continuing, gathered, releasing, editing, Template, term_depth}
use Rattle.sf_term.specs.Headers.{Header, bodies_end}
use Rattle.sf_term.specs.Entries.{StoredLists, absent_collection, collections_in, collection_listed, stored_over, stored_terms, stored_expressions, stored_functions, stored_names, collections_end, arguments_over, terms_end, expressions_end, identity_term, term_over, needs_terms, identity_entry, term_entry, term_made, terms_made, term_entered}
use Rattle.sf_term.specs.Arena.{term_number, program_expressions, term_base, lists_of, HoldsCollection, HoldsMembers, HoldsWhole, collection_node, collection_of, collection_tree, CollectionBelow, HoldsArguments, HoldsArgument, ArgumentBelow, argument_nodes, arguments_of, next_arguments, term_count, expression_count, HoldsTerm, HoldsExpression, ProgramHoldsFunction, ProgramHoldsPattern, function_pattern_at, function_body_at, placed_pattern, program_function, tree, program_expression, program_entry, term_node_at, expression_node_at, term_spot_at, expression_spot_at, term_of, headers_of, term_template, TermPartsBelow, HoldsTermParts, ExtendsTrees, ExtendsProgram, AddsTerm, AddsExpression, AddsProgramFunction, AddsTemplate, IsSameProgram}
use Rattle.sf_term.specs.Building.{IsBuilt, BuildsTerm, BuildsExpression, NoNames, HasPattern, PutsBoth}
use Rattle.sf_term.proofs.Refused.{room_as, due_as}
use Rattle.sf_term.proofs.Entered.{term-built, term-same, NeedsAreThere, MoreLists, same_lists}

-- what a collection needs is there where what it names is held
pub members_end : (p : Program) (c : CollExpr) → HoldsMembers p c
    → (stored_terms c ≤ length (entries_of p.terms)) × (stored_expressions c ≤ arena_count p.expressions) × (stored_functions c ≤ function_count p.expressions) × (stored_names c ≤ name_count p.expressions)
unfolding program_expressions HoldsTerm
members_end p (collections.Empty k t s) h = (omega arith, omega arith, omega arith, omega arith)
members_end p (collections.Used k r s) h = (omega arith, omega arith, omega arith, omega (arith, name_below p.expressions k h))
members_end p (collections.Added' a c e t s) h = let k = members_end p c h.0 in (omega (arith, k.0, h.2), omega (arith, k.1, holds_below p.expressions e h.1), k.2, k.3)
members_end p (collections.Dropped' a c e s) h = let k = members_end p c h.0 in (k.0, omega (arith, k.1, holds_below p.expressions e h.1), k.2, k.3)
members_end p (collections.Kept' a c f s) h = let k = members_end p c h.0 in (k.0, k.1, omega (arith, k.2, function_below p.expressions f h.1), k.3)
members_end p (collections.Chosen' e a c b d s) h =
    let k = members_end p c h.1 in
    let l = members_end p d h.2 in
    (omega (arith, k.0, l.0), omega (arith, k.1, l.1, holds_below p.expressions e h.0), omega (arith, k.2, l.2), omega (arith, k.3, l.3))

-- what arguments need is there where they are held
arguments_end : (p : Program) (vs : List Argument) → All (HoldsArgument p) vs → (terms_end (term_base p) vs ≤ length (entries_of p.terms)) × (expressions_end vs ≤ arena_count p.expressions) × (collections_end vs ≤ length (collections_in p.collections.items))
unfolding program_expressions HoldsTerm HoldsCollection collection_node
arguments_end p [] h = (omega arith, omega arith, omega arith)
arguments_end p (arguments.Value e ∷ vs) h =
    let k = arguments_end p vs (All-tail (HoldsArgument p) _ vs h) in
    (k.0, omega (arith, k.1, holds_below p.expressions e (All-head (HoldsArgument p) _ vs h)), k.2)
arguments_end p (arguments.Process t ∷ vs) h =
    let k = arguments_end p vs (All-tail (HoldsArgument p) _ vs h) in
    let held : t.0 < length (entries_of p.terms) = All-head (HoldsArgument p) _ vs h in
    (omega (arith, k.0), k.1, k.2)
arguments_end p (arguments.Collection c ∷ vs) h =
    let k = arguments_end p vs (All-tail (HoldsArgument p) _ vs h) in
    let held : HoldsWhole p c = All-head (HoldsArgument p) _ vs h in
    (omega (arith, k.0, (members_end p (collection_node p c) held.1).0), k.1, omega (arith, k.2, held.0))

-- what a node needs is there where its parts are held
pub parts_needed : (p : Program) (n : Node) → HoldsTermParts p n → NeedsAreThere (term_base p) (entries_of p.terms) n
unfolding program_expressions HoldsTerm HoldsArguments argument_nodes HoldsCollection collection_node
parts_needed p (nodes.Primitive (primitives.Bare k)) h = record { terms = omega arith; expressions = omega arith; functions = omega arith; patterns = omega arith; names = omega arith; constants = omega arith; arguments = omega arith; collections = omega arith }
parts_needed p (nodes.Primitive (primitives.Never n)) h = record { terms = omega arith; expressions = omega arith; functions = omega arith; patterns = omega arith; names = omega arith; constants = omega (arith, constant_below p.expressions n h); arguments = omega arith; collections = omega arith }
parts_needed p (nodes.Primitive (primitives.WithValue k e)) h = record { terms = omega arith; expressions = omega (arith, holds_below p.expressions e h); functions = omega arith; patterns = omega arith; names = omega arith; constants = omega arith; arguments = omega arith; collections = omega arith }
parts_needed p (nodes.Primitive (primitives.Timed k q e)) h = record { terms = omega arith; expressions = omega (arith, holds_below p.expressions e h); functions = omega arith; patterns = omega arith; names = omega arith; constants = omega arith; arguments = omega arith; collections = omega arith }
parts_needed p (nodes.Primitive (primitives.Selected k n)) h = record { terms = omega arith; expressions = omega arith; functions = omega arith; patterns = omega arith; names = omega arith; constants = omega arith; arguments = omega arith; collections = omega arith }
parts_needed p (nodes.Primitive (primitives.Arrow f)) h = record { terms = omega arith; expressions = omega arith; functions = omega (arith, function_below p.expressions f h); patterns = omega arith; names = omega arith; constants = omega arith; arguments = omega arith; collections = omega arith }
parts_needed p (nodes.Primitive (primitives.Accumulated k e f)) h = record { terms = omega arith; expressions = omega (arith, holds_below p.expressions e h.0); functions = omega (arith, function_below p.expressions f h.1); patterns = omega arith; names = omega arith; constants = omega arith; arguments = omega arith; collections = omega arith }
parts_needed p (nodes.Named w k s) h = record { terms = omega arith; expressions = omega arith; functions = omega arith; patterns = omega arith; names = omega (arith, name_below p.expressions k h); constants = omega arith; arguments = omega arith; collections = omega arith }
parts_needed p (nodes.Call k a) h =
    let within = arguments_end p (argument_nodes p a) h.2 in
    record { terms = within.0; expressions = within.1; functions = omega arith; patterns = omega arith; names = omega (arith, name_below p.expressions k h.0); constants = omega arith; arguments = omega (arith, h.1); collections = within.2 }
parts_needed p (nodes.Joined j a b) h = record { terms = omega arith; expressions = omega arith; functions = omega arith; patterns = omega arith; names = omega arith; constants = omega arith; arguments = omega arith; collections = omega arith }
parts_needed p (nodes.Sided d a) h = record { terms = omega arith; expressions = omega arith; functions = omega arith; patterns = omega arith; names = omega arith; constants = omega arith; arguments = omega arith; collections = omega arith }
parts_needed p (nodes.Headed q e a) h = record { terms = omega arith; expressions = omega (arith, holds_below p.expressions e h.0); functions = omega arith; patterns = omega arith; names = omega arith; constants = omega arith; arguments = omega arith; collections = omega arith }
parts_needed p (nodes.Transformed f a) h = record { terms = omega arith; expressions = omega arith; functions = omega (arith, function_below p.expressions f h.0); patterns = omega arith; names = omega arith; constants = omega arith; arguments = omega arith; collections = omega arith }
parts_needed p (nodes.Switching n) h = record { terms = omega (arith, h.0, h.2); expressions = omega arith; functions = omega arith; patterns = omega (arith, pattern_below p.expressions n.pattern h.1); names = omega arith; constants = omega arith; arguments = omega arith; collections = omega arith }
parts_needed p (nodes.Continuation n) h = record {
  terms = omega (arith, h.0, h.1, h.4);
  expressions = omega arith;
  functions = omega arith;
  patterns = omega (arith, pattern_below p.expressions n.pattern h.3);
  names = omega (arith, name_below p.expressions n.name h.2);
  constants = omega arith;
  arguments = omega arith;
  collections = omega arith;
}
parts_needed p (nodes.Gathered c) h = record { terms = (members_end p (collection_node p c) h.1).0; expressions = omega arith; functions = omega arith; patterns = omega arith; names = omega arith; constants = omega arith; arguments = omega arith; collections = omega (arith, h.0) }
parts_needed p (nodes.Releasing n) h = record {
  terms = omega (arith, (members_end p (collection_node p n.members) h.0.1).0, h.1, h.4);
  expressions = omega arith;
  functions = omega arith;
  patterns = omega (arith, pattern_below p.expressions n.pattern h.3);
  names = omega (arith, name_below p.expressions n.name h.2);
  constants = omega arith;
  arguments = omega arith;
  collections = omega (arith, h.0.0);
}
parts_needed p (nodes.Editing n) h = record {
  terms = omega (arith, (members_end p (collection_node p n.members) h.0.1).0, (members_end p (collection_node p n.edit) h.3.1).0);
  expressions = omega arith;
  functions = omega arith;
  patterns = omega (arith, pattern_below p.expressions n.pattern h.2);
  names = omega (arith, name_below p.expressions n.name h.1);
  constants = omega arith;
  arguments = omega arith;
  collections = omega (arith, h.0.0, h.3.0);
}

-- a form that is a name alone has no depth of its own
pub named_depth : (w : Naming) (k : Name) → term_depth (named_term w k) ≡ 1
named_depth (Process w) k = refl
named_depth Probe k = refl

-- a collection is made over the terms before it
collection-made : (p : Program) (c : CollExpr) → collection_of p c ≡ stored_over p.expressions (terms_made (term_base p) (entries_of p.terms)) c
unfolding program_expressions tree program_expression function_pattern_at function_body_at folded_tree
collection-made p (collections.Empty k t s) = refl
collection-made p (collections.Used k r s) = refl
collection-made p (collections.Added' a c e t s) = ap (λ i. forms.added i (expression p.expressions e) (tree p t)) (collection-made p c)
collection-made p (collections.Dropped' a c e s) = ap (λ i. forms.dropped i (expression p.expressions e)) (collection-made p c)
collection-made p (collections.Kept' a c f s) = ap (λ i. forms.kept i (function_at p.expressions f)) (collection-made p c)
collection-made p (collections.Chosen' e a c b d s) = ap₂ (λ i j. forms.chosen (expression p.expressions e) i j) (collection-made p c) (collection-made p d)

-- arguments are made over the terms before them
arguments-made : (p : Program) (vs : List Argument) → arguments_of p vs ≡ arguments_over (term_base p) (terms_made (term_base p) (entries_of p.terms)) vs
unfolding program_expressions tree program_expression folded_tree collection_node
arguments-made p [] = refl
arguments-made p (arguments.Value e ∷ vs) = ap (value_argument (expression p.expressions e)) (arguments-made p vs)
arguments-made p (arguments.Process t ∷ vs) = ap (process_argument (tree p t)) (arguments-made p vs)
arguments-made p (arguments.Collection c ∷ vs) = ap₂ collection_argument (collection-made p (collection_node p c)) (arguments-made p vs)

-- a node stands for the term that is made over the terms before it
pub node-made : (p : Program) (n : Node) → term_of p n ≡ term_over (term_base p) (terms_made (term_base p) (entries_of p.terms)) n
unfolding program_expressions tree program_expression function_pattern_at function_body_at placed_pattern argument_nodes collection_node folded_tree
node-made p (nodes.Primitive (primitives.Bare k)) = refl
node-made p (nodes.Primitive (primitives.Never n)) = refl
node-made p (nodes.Primitive (primitives.WithValue k e)) = refl
node-made p (nodes.Primitive (primitives.Timed k q e)) = refl
node-made p (nodes.Primitive (primitives.Selected k n)) = refl
node-made p (nodes.Primitive (primitives.Arrow f)) = refl
node-made p (nodes.Primitive (primitives.Accumulated k e f)) = refl
node-made p (nodes.Named w k s) = refl
node-made p (nodes.Call k a) = ap (λ vs. reference (call (name_at p.expressions k) vs)) (arguments-made p (argument_nodes p a))
node-made p (nodes.Joined j a b) = refl
node-made p (nodes.Sided d a) = refl
node-made p (nodes.Headed h e a) = refl
node-made p (nodes.Transformed f a) = refl
node-made p (nodes.Switching n) = refl
node-made p (nodes.Continuation n) = refl
node-made p (nodes.Gathered c) = ap gathered (collection-made p (collection_node p c))
node-made p (nodes.Releasing n) = ap (λ i. releasing n.shown i (tree p n.observer) (name_at p.expressions n.name) (pattern_of (placed_pattern p n.pattern)) (tree p n.body)) (collection-made p (collection_node p n.members))
node-made p (nodes.Editing n) =
    ap₂ (λ i j. editing n.shown i (name_at p.expressions n.name) (pattern_of (placed_pattern p n.pattern)) j) (collection-made p (collection_node p n.members)) (collection-made p (collection_node p n.edit))

-- a node stands for the term at its id
pub builds : (p : Program) (t : TermId) → tree p t ≡ term_of p (program_entry p t).node
unfolding program_entry tree
builds p t = term-built (term_base p) (entries_of p.terms) t.0 p.arena ∙ sym (node-made p (term_entry (entries_of p.terms) t.0).node)

-- what a node stands for
pub node_builds : (p : Program) (t : TermId) (n : Node) → term_node_at p t ≡ n → tree p t ≡ term_of p n
unfolding term_node_at program_entry
node_builds p t n e = builds p t ∙ ap (λ n. term_of p n) e

-- a collection stands before what it is below
members_below : (m : ℕ) (c : CollExpr) → stored_terms c ≤ m → CollectionBelow m c
members_below m (collections.Empty k t s) h = tt
members_below m (collections.Used k r s) h = tt
members_below m (collections.Added' a c e t s) h = (members_below m c (omega arith), omega arith)
members_below m (collections.Dropped' a c e s) h = members_below m c h
members_below m (collections.Kept' a c f s) h = members_below m c h
members_below m (collections.Chosen' e a c b d s) h = (members_below m c (omega arith), members_below m d (omega arith))

-- arguments stand before what they are below
arguments_below : (p : Program) (m : ℕ) (vs : List Argument) → terms_end (term_base p) vs ≤ m → All (ArgumentBelow p m) vs
unfolding collection_node
arguments_below p m [] h = All-nil (ArgumentBelow p m)
arguments_below p m (arguments.Value e ∷ vs) h = All-cons (ArgumentBelow p m) _ vs tt (arguments_below p m vs h)
arguments_below p m (arguments.Process t ∷ vs) h = All-cons (ArgumentBelow p m) _ vs (omega arith) (arguments_below p m vs (omega arith))
arguments_below p m (arguments.Collection c ∷ vs) h = All-cons (ArgumentBelow p m) _ vs (members_below m (collection_node p c) (omega arith)) (arguments_below p m vs (omega arith))

-- the parts of a node stand before it
pub parts_below : (p : Program) (t : TermId) → TermPartsBelow p (program_entry p t).node (term_number t)
unfolding program_entry argument_nodes collection_node
parts_below p t = of_node (term_entry (entries_of p.terms) t.0).node (p.arena.in_order t.0)
  where
    of_node : (n : Node) → needs_terms (term_base p) n ≤ t.0 → TermPartsBelow p n t.0
    of_node (nodes.Primitive q) h = tt
    of_node (nodes.Named w k s) h = tt
    of_node (nodes.Call k a) h = arguments_below p t.0 (argument_nodes p a) h
    of_node (nodes.Joined j a b) h = (omega arith, omega arith)
    of_node (nodes.Sided d a) h = omega arith
    of_node (nodes.Headed q e a) h = omega arith
    of_node (nodes.Transformed f a) h = omega arith
    of_node (nodes.Switching n) h = (omega arith, omega arith)
    of_node (nodes.Continuation n) h = (omega arith, omega arith, omega arith)
    of_node (nodes.Gathered c) h = members_below t.0 (collection_node p c) h
    of_node (nodes.Releasing n) h = (members_below t.0 (collection_node p n.members) (omega arith), omega arith, omega arith)
    of_node (nodes.Editing n) h = (members_below t.0 (collection_node p n.members) (omega arith), members_below t.0 (collection_node p n.edit) (omega arith))

-- the templates are the same where the trees are
templates-same : (old new : Program) (hs : List Header) → bodies_end hs ≤ length (entries_of old.terms) → ExtendsTrees old new → map (term_template new) hs ≡ map (term_template old) hs
unfolding HoldsTerm
templates-same old new [] h k = refl
templates-same old new (t ∷ ts) h k =
    ap₂ (λ (b : Term) (us : List Template). record { name = t.name; parameters = parameters_of t.parameters; input = t.input; output = t.output; body = b } ∷ us) (k.trees t.body (omega arith)) (templates-same old new ts (omega arith) k)

keeps_of : (old new : Program) → ExtendsTrees old new → headers_of new ≡ headers_of old → ExtendsProgram old new
unfolding headers_of
keeps_of old new k e = record {
  trees = k;
  headers = e;
  templates = ap (λ hs. map (term_template new) hs) e ∙ templates-same old new old.templates.items old.bodies k;
  spots = ap (λ hs. map (λ (h : Header). h.spot) hs) e;
}

-- the same expressions, arguments and collections
same_base : (old new : Program) → new.expressions ≡ old.expressions → lists_of new ≡ lists_of old → term_base new ≡ term_base old
same_base old new e f = ap₂ (λ (x : Exprs) (ls : StoredLists). record { expressions = x; lists = ls }) e f

-- the trees stay where an entry is added
added_keeps : (old new : Program) (entry : Entry Node) (n : ℕ) → new.expressions ≡ old.expressions → lists_of new ≡ lists_of old → Added (entries_of old.terms) (entries_of new.terms) entry n → ExtendsTrees old new
unfolding HoldsTerm HoldsArguments HoldsCollection program_expressions tree term_node_at term_spot_at program_expression expression_node_at expression_spot_at function_pattern_at function_body_at placed_pattern argument_nodes collection_node
added_keeps old new entry n same lists added = record {
  terms = λ t h. omega (arith, added_counted _ _ _ _ added);
  nodes = λ t h. ap (λ (e : Entry Node). e.node) (other t h);
  trees = λ t h. ap (λ b. term_entered b (entries_of new.terms) t.0) (same_base old new same lists) ∙ tree_kept _ _ _ _ added (term_made (term_base old)) identity_term t.0 h;
  spots = λ t h. ap (λ (e : Entry Node). e.spot) (other t h);
  expressions = λ e h. subst (λ x. Holds x e) (sym same) h;
  value_nodes = λ e h. ap (λ x. node_at x e) same;
  values = λ e h. ap (λ x. expression x e) same;
  value_spots = λ e h. ap (λ x. spot_at x e) same;
  functions = λ f h. subst (λ x. HoldsFunction x f) (sym same) h;
  patterns = λ f h. ap (λ x. argument_pattern x f) same;
  bodies = λ f h. ap (λ x. body_id x f) same;
  meanings = λ f h. ap (λ x. function_at x f) same;
  holds_patterns = λ q h. subst (λ x. HoldsPattern x q) (sym same) h;
  placed = λ q h. ap (λ x. stored_pattern x q) same;
  holds_names = λ i h. subst (λ x. HoldsName x i) (sym same) h;
  names = λ i h. ap (λ x. name_at x i) same;
  holds_arguments = λ a h. omega (arith, ap (λ (ls : StoredLists). length ls.arguments) lists);
  arguments = λ a h. ap (λ (ls : StoredLists). slice_index_or ls.arguments a.0 []) lists;
  holds_collections = λ c h. omega (arith, ap (λ (ls : StoredLists). length ls.collections) lists);
  collections = λ c h. ap (λ (ls : StoredLists). slice_index_or ls.collections c.0 absent_collection) lists;
}
  where
    other : (t : TermId) → HoldsTerm old t → term_entry (entries_of new.terms) t.0 ≡ term_entry (entries_of old.terms) t.0
    other t h = item_kept _ _ _ _ added t.0 identity_entry h

-- an entry that is added adds its term
pub adds_added : (old new : Program) (n : Node) (d : ℕ) (s : Spot) (id : TermId) → new.expressions ≡ old.expressions → lists_of new ≡ lists_of old → Added (entries_of old.terms) (entries_of new.terms) (record { node = n; depth = d; spot = s }) id.0 → headers_of new ≡ headers_of old → d ≡ min (term_depth (term_of old n)) (2 ^ 32 - 1) → AddsTerm old new id n (term_of old n) s
unfolding HoldsTerm tree term_node_at term_spot_at term_count expression_count
adds_added old new n d s id same lists added headers measured = record {
  within = added_within _ _ _ _ added;
  fresh = added_fresh _ _ _ _ added;
  node = ap (λ (e : Entry Node). e.node) here;
  is = ap (λ b. term_entered b (entries_of new.terms) id.0) (same_base old new same lists) ∙ tree_added _ _ _ _ added (term_made (term_base old)) identity_term ∙ sym (node-made old n);
  spotted = ap (λ (e : Entry Node). e.spot) here;
  shallow = omega (arith, measured, ap (λ (e : Entry Node). e.depth) here, shallow_at (entries_of new.terms) identity_entry id.0 (shallow_entries new.terms) (omega arith));
  kept = keeps_of old new (added_keeps old new _ _ same lists added) headers;
  term_counted = added_counted _ _ _ _ added;
  expression_counted = ap arena_count same;
}
  where
    here : term_entry (entries_of new.terms) id.0 ≡ record { node = n; depth = d; spot = s }
    here = added_item _ _ _ _ added identity_entry

-- the trees stay where the expressions grow
grown_keeps : (old new : Program) → Extends old.expressions new.expressions → MoreLists (lists_of old) (lists_of new) → entries_of new.terms ≡ entries_of old.terms → ExtendsTrees old new
unfolding HoldsTerm HoldsArguments HoldsCollection program_expressions tree term_node_at term_spot_at program_expression expression_node_at expression_spot_at function_pattern_at function_body_at placed_pattern argument_nodes collection_node
grown_keeps old new k m e = record {
  terms = λ t h. omega (arith, ap length e);
  nodes = λ t h. ap (λ es. (term_entry es t.0).node) e;
  trees = λ t h. ap (λ es. term_entered (term_base new) es t.0) e ∙ term-same (term_base old) (term_base new) (entries_of old.terms) t.0 k m old.arena;
  spots = λ t h. ap (λ es. (term_entry es t.0).spot) e;
  expressions = λ x h. k.holds x h;
  value_nodes = λ x h. k.nodes x h;
  values = λ x h. k.trees x h;
  value_spots = λ x h. k.spots x h;
  functions = λ f h. k.functions f h;
  patterns = λ f h. k.patterns f h;
  bodies = λ f h. k.bodies f h;
  meanings = λ f h. k.meanings f h;
  holds_patterns = λ q h. k.holds_patterns q h;
  placed = λ q h. k.placed q h;
  holds_names = λ n h. k.holds_names n h;
  names = λ n h. k.names n h;
  holds_arguments = λ a h. omega (arith, m.arguments.more);
  arguments = λ a h. m.arguments.kept a.0 h;
  holds_collections = λ c h. omega (arith, m.collections.more);
  collections = λ c h. m.collections.kept c.0 h;
}

-- what is added to the expressions is added to the program
pub adds_expression : (old new : Program) (id : ExprId) (n : ExprNode) (e : Expression) (s : Spot) → Adds old.expressions new.expressions id n e s → MoreLists (lists_of old) (lists_of new) → entries_of new.terms ≡ entries_of old.terms → headers_of new ≡ headers_of old → AddsExpression old new id n e s
unfolding program_expressions program_expression expression_node_at expression_spot_at term_count expression_count
adds_expression old new id n e s a m same headers = record {
  within = a.within;
  fresh = a.fresh;
  node = a.node;
  is = a.is;
  spotted = a.spotted;
  kept = keeps_of old new (grown_keeps old new (adds_keeps old.expressions new.expressions id n e s a) m same) headers;
  term_counted = ap length same;
  expression_counted = a.count;
}

-- a function that is added to the expressions is added to the program
pub adds_function : (old new : Program) (f : FunctionId) (q : PlacedPattern) (b : ExprId) → AddsFunction old.expressions new.expressions f q b → MoreLists (lists_of old) (lists_of new) → entries_of new.terms ≡ entries_of old.terms → headers_of new ≡ headers_of old → AddsProgramFunction old new f q b
unfolding program_expressions program_expression function_pattern_at function_body_at term_count expression_count
adds_function old new f q b a m same headers = record {
  within = a.within;
  fresh = a.fresh;
  pattern = a.pattern;
  body = a.body;
  is = a.is;
  kept = keeps_of old new (grown_keeps old new a.kept m same) headers;
  term_counted = ap length same;
  expression_counted = a.count;
}

-- the same expressions are kept
same_kept : (x y : Exprs) → y ≡ x → Extends x y
same_kept x y e = subst (λ z. Extends x z) (sym e) (record { holds = λ i h. h; nodes = λ i h. refl; trees = λ i h. refl; spots = λ i h. refl; functions = λ f h. h; patterns = λ f h. refl; bodies = λ f h. refl; meanings = λ f h. refl; holds_names = λ n h. h; names = λ n h. refl; holds_constants = λ n h. h; constants = λ n h. refl; holds_patterns = λ q h. h; placed = λ q h. refl })

pub bodies_end-append : (hs : List Header) (h : Header) → bodies_end (hs ++ h ∷ []) ≡ max (bodies_end hs) (suc h.body.0)
bodies_end-append [] h = omega arith
bodies_end-append (t ∷ ts) h = omega (arith, bodies_end-append ts h)

-- the bodies of templates, of which it may be that one more was put behind
pub bodies_put : (old new : List Header) (h : Header) (put : Bool) (n : ℕ) → new ≡ cond put (old ++ h ∷ []) old → bodies_end old ≤ n → h.body.0 < n → bodies_end new ≤ n
bodies_put old new h true n e a b = omega (arith, ap bodies_end e, bodies_end-append old h)
bodies_put old new h false n e a b = omega (arith, ap bodies_end e)

-- a template put behind
pub adds_template : (old new : Program) (h : Header) → new.expressions ≡ old.expressions → MoreLists (lists_of old) (lists_of new) → entries_of new.terms ≡ entries_of old.terms → headers_of new ≡ headers_of old ++ h ∷ [] → HoldsTerm old h.body → AddsTemplate old new h
unfolding term_count expression_count headers_of HoldsTerm
adds_template old new h same m terms headers held = record {
  headers = headers;
  templates =
      ap (λ hs. map (term_template new) hs) headers
      ∙ templates-same old new (old.templates.items ++ h ∷ []) (omega (arith, bodies_end-append old.templates.items h, old.bodies)) kept
      ∙ map-append (term_template old) old.templates.items (h ∷ []);
  spots = ap (λ hs. map (λ (h : Header). h.spot) hs) headers ∙ map-append (λ (h : Header). h.spot) old.templates.items (h ∷ []);
  kept = kept;
  term_counted = ap length terms;
  expression_counted = ap arena_count same;
}
  where
    kept : ExtendsTrees old new
    kept = grown_keeps old new (same_kept old.expressions new.expressions same) m terms

-- what shows the same
pub unchanged : (old new : Program) → IsUnchanged old.expressions new.expressions → MoreLists (lists_of old) (lists_of new) → entries_of new.terms ≡ entries_of old.terms → headers_of new ≡ headers_of old → IsSameProgram old new
unfolding term_count expression_count tree term_node_at term_spot_at program_expression expression_node_at expression_spot_at HoldsArguments HoldsCollection program_expressions function_pattern_at function_body_at placed_pattern argument_nodes collection_node
unchanged old new x m terms headers = record {
  term_counted = ap length terms;
  expression_counted = x.count;
  nodes = λ t. ap (λ es. (term_entry es t.0).node) terms;
  trees = λ t. ap (λ es. term_entered (term_base new) es t.0) terms ∙ term-same (term_base old) (term_base new) (entries_of old.terms) t.0 (Entered.unchanged_keeps old.expressions new.expressions x) m old.arena;
  spots = λ t. ap (λ es. (term_entry es t.0).spot) terms;
  value_nodes = λ e. x.nodes e;
  values = λ e. x.trees e;
  value_spots = λ e. x.spots e;
  holds_functions = λ f h. below_function new.expressions f (omega (arith, function_below old.expressions f h, x.functions));
  patterns = λ f. x.patterns f;
  bodies = λ f. x.bodies f;
  holds_patterns = λ q h. below_pattern new.expressions q (omega (arith, pattern_below old.expressions q h, x.pattern_counted));
  placed = λ q h. x.placed q;
  holds_names = λ n h. below_name new.expressions n (omega (arith, name_below old.expressions n h, x.name_counted));
  names = λ n h. x.names n;
  holds_arguments = λ a h. omega (arith, m.arguments.more);
  arguments = λ a h. m.arguments.kept a.0 h;
  holds_collections = λ c h. omega (arith, m.collections.more);
  collections = λ c h. m.collections.kept c.0 h;
  headers = headers;
}

pub same_expressions : (x : Exprs) → IsUnchanged x x
same_expressions x = record { count = refl; functions = refl; name_counted = refl; constant_counted = refl; pattern_counted = refl; nodes = λ i. refl; trees = λ i. refl; spots = λ i. refl; patterns = λ f. refl; bodies = λ f. refl; names = λ n. refl; constants = λ n. refl; placed = λ q. refl }

-- Beside the nodes something was added: what an arena shows of its expressions and functions is the same.
pub record AddsBeside (x y : Exprs) : Type 0 where
  pub kept : Extends x y
  pub nodes : (i : ExprId) → node_at y i ≡ node_at x i
  pub trees : (i : ExprId) → expression y i ≡ expression x i
  pub spots : (i : ExprId) → spot_at y i ≡ spot_at x i
  pub patterns : (f : FunctionId) → argument_pattern y f ≡ argument_pattern x f
  pub bodies : (f : FunctionId) → body_id y f ≡ body_id x f
  pub count : arena_count y ≡ arena_count x

pub name_beside : (x y : Exprs) (n : NameId) (z : Name) → AddsName x y n z → AddsBeside x y
name_beside x y n z a = record { kept = a.kept; nodes = a.nodes; trees = a.trees; spots = a.spots; patterns = a.patterns; bodies = a.bodies; count = a.count }

pub constant_beside : (x y : Exprs) (n : ConstantId) (l : Literal) → AddsConstant x y n l → AddsBeside x y
constant_beside x y n l a = record { kept = a.kept; nodes = a.nodes; trees = a.trees; spots = a.spots; patterns = a.patterns; bodies = a.bodies; count = a.count }

pub pattern_beside : (x y : Exprs) (q : PatternId) (p : PlacedPattern) → AddsPattern x y q p → AddsBeside x y
pattern_beside x y q p a = record { kept = a.kept; nodes = a.nodes; trees = a.trees; spots = a.spots; patterns = a.patterns; bodies = a.bodies; count = a.count }

pub beside_trans : (x y z : Exprs) → AddsBeside x y → AddsBeside y z → AddsBeside x z
beside_trans x y z a b = record {
  kept = Entered.keeps_trans x y z a.kept b.kept;
  nodes = λ i. b.nodes i ∙ a.nodes i;
  trees = λ i. b.trees i ∙ a.trees i;
  spots = λ i. b.spots i ∙ a.spots i;
  patterns = λ f. b.patterns f ∙ a.patterns f;
  bodies = λ f. b.bodies f ∙ a.bodies f;
  count = b.count ∙ a.count;
}

pub unchanged_beside : (x y : Exprs) → IsUnchanged x y → AddsBeside x y
unchanged_beside x y u = record { kept = Entered.unchanged_keeps x y u; nodes = u.nodes; trees = u.trees; spots = u.spots; patterns = u.patterns; bodies = u.bodies; count = u.count }

-- a program shows the same where something is added beside its nodes
pub put_beside : (old new : Program) → AddsBeside old.expressions new.expressions → MoreLists (lists_of old) (lists_of new) → entries_of new.terms ≡ entries_of old.terms → headers_of new ≡ headers_of old → IsSameProgram old new
unfolding term_count expression_count tree term_node_at term_spot_at program_expression expression_node_at expression_spot_at HoldsArguments HoldsCollection program_expressions function_pattern_at function_body_at placed_pattern argument_nodes collection_node
put_beside old new x m terms headers = record {
  term_counted = ap length terms;
  expression_counted = x.count;
  nodes = λ t. ap (λ es. (term_entry es t.0).node) terms;
  trees = λ t. ap (λ es. term_entered (term_base new) es t.0) terms ∙ term-same (term_base old) (term_base new) (entries_of old.terms) t.0 x.kept m old.arena;
  spots = λ t. ap (λ es. (term_entry es t.0).spot) terms;
  value_nodes = λ e. x.nodes e;
  values = λ e. x.trees e;
  value_spots = λ e. x.spots e;
  holds_functions = λ f h. x.kept.functions f h;
  patterns = λ f. x.patterns f;
  bodies = λ f. x.bodies f;
  holds_patterns = λ q h. x.kept.holds_patterns q h;
  placed = λ q h. x.kept.placed q h;
  holds_names = λ n h. x.kept.holds_names n h;
  names = λ n h. x.kept.names n h;
  holds_arguments = λ a h. omega (arith, m.arguments.more);
  arguments = λ a h. m.arguments.kept a.0 h;
  holds_collections = λ c h. omega (arith, m.collections.more);
  collections = λ c h. m.collections.kept c.0 h;
  headers = headers;
}

-- an unchanged program keeps what it held
pub unchanged_keeps : (old new : Program) → IsSameProgram old new → ExtendsProgram old new
unfolding program_expressions HoldsTerm term_count expression_count
unchanged_keeps old new u = keeps_of old new (record {
  terms = λ t h. omega (arith, u.term_counted);
  nodes = λ t h. u.nodes t;
  trees = λ t h. u.trees t;
  spots = λ t h. u.spots t;
  expressions = λ e h. below_holds new.expressions e (omega (arith, holds_below old.expressions e h, u.expression_counted));
  value_nodes = λ e h. u.value_nodes e;
  values = λ e h. u.values e;
  value_spots = λ e h. u.value_spots e;
  functions = λ f h. u.holds_functions f h;
  patterns = λ f h. u.patterns f;
  bodies = λ f h. u.bodies f;
  meanings = λ f h. rw (u.patterns f, u.bodies f, u.values (function_body_at old f)) refl;
  holds_patterns = λ q h. u.holds_patterns q h;
  placed = λ q h. u.placed q h;
  holds_names = λ n h. u.holds_names n h;
  names = λ n h. u.names n h;
  holds_arguments = λ a h. u.holds_arguments a h;
  arguments = λ a h. u.arguments a h;
  holds_collections = λ c h. u.holds_collections c h;
  collections = λ c h. u.collections c h;
}) u.headers

pub keeps_trees_trans : (a b c : Program) → ExtendsTrees a b → ExtendsTrees b c → ExtendsTrees a c
keeps_trees_trans a b c f g = record {
  terms = λ t h. g.terms t (f.terms t h);
  nodes = λ t h. g.nodes t (f.terms t h) ∙ f.nodes t h;
  trees = λ t h. g.trees t (f.terms t h) ∙ f.trees t h;
  spots = λ t h. g.spots t (f.terms t h) ∙ f.spots t h;
  expressions = λ e h. g.expressions e (f.expressions e h);
  value_nodes = λ e h. g.value_nodes e (f.expressions e h) ∙ f.value_nodes e h;
  values = λ e h. g.values e (f.expressions e h) ∙ f.values e h;
  value_spots = λ e h. g.value_spots e (f.expressions e h) ∙ f.value_spots e h;
  functions = λ i h. g.functions i (f.functions i h);
  patterns = λ i h. g.patterns i (f.functions i h) ∙ f.patterns i h;
  bodies = λ i h. g.bodies i (f.functions i h) ∙ f.bodies i h;
  meanings = λ i h. g.meanings i (f.functions i h) ∙ f.meanings i h;
  holds_patterns = λ i h. g.holds_patterns i (f.holds_patterns i h);
  placed = λ i h. g.placed i (f.holds_patterns i h) ∙ f.placed i h;
  holds_names = λ n h. g.holds_names n (f.holds_names n h);
  names = λ n h. g.names n (f.holds_names n h) ∙ f.names n h;
  holds_arguments = λ a h. g.holds_arguments a (f.holds_arguments a h);
  arguments = λ a h. g.arguments a (f.holds_arguments a h) ∙ f.arguments a h;
  holds_collections = λ c h. g.holds_collections c (f.holds_collections c h);
  collections = λ c h. g.collections c (f.holds_collections c h) ∙ f.collections c h;
}

pub keeps_trans : (a b c : Program) → ExtendsProgram a b → ExtendsProgram b c → ExtendsProgram a c
keeps_trans a b c f g = record {
  trees = keeps_trees_trans a b c f.trees g.trees;
  headers = g.headers ∙ f.headers;
  templates = g.templates ∙ f.templates;
  spots = g.spots ∙ f.spots;
}

-- no program has more than 100,000 terms or 100,000 expressions
pub few_terms : (p : Program) → term_count p ≤ 100000
unfolding term_count
few_terms p = few_entries p.terms

pub few_program_expressions : (p : Program) → expression_count p ≤ 100000
unfolding expression_count
few_program_expressions p = few_expressions p.expressions

-- no more than 64 terms and expressions stand one inside another
pub tree_shallow : (p : Program) (t : TermId) → term_depth (tree p t) ≤ 64
unfolding tree
tree_shallow p t = omega (arith, p.arena.measured t.0, shallow_at (entries_of p.terms) identity_entry t.0 (shallow_entries p.terms) (omega arith))

-- past the terms of a program stands the identity
pub term_past : (p : Program) (t : TermId) → term_count p ≤ term_number t → tree p t ≡ identity_term
unfolding term_count tree folded_tree
term_past p t h = get_or_past (terms_made (term_base p) (entries_of p.terms)) t.0 identity_term (omega (arith, trees-length (term_made (term_base p)) (entries_of p.terms)))

-- a program holds what stands below its count
pub holds_below_count : (p : Program) (t : TermId) → HoldsTerm p t → term_number t < term_count p
unfolding HoldsTerm term_count
holds_below_count p t h = h

pub below_count_holds : (p : Program) (t : TermId) → term_number t < term_count p → HoldsTerm p t
unfolding HoldsTerm term_count
below_count_holds p t h = h

-- what a collection names is held where it is there
members_held : (p : Program) (c : CollExpr) → stored_terms c ≤ length (entries_of p.terms) → stored_expressions c ≤ arena_count p.expressions → stored_functions c ≤ function_count p.expressions → stored_names c ≤ name_count p.expressions → HoldsMembers p c
unfolding program_expressions HoldsTerm
members_held p (collections.Empty k t s) h e f n = tt
members_held p (collections.Used k r s) h e f n = below_name p.expressions k (omega arith)
members_held p (collections.Added' a c j t s) h e f n = (members_held p c (omega arith) (omega arith) f n, below_holds p.expressions j (omega arith), omega arith)
members_held p (collections.Dropped' a c j s) h e f n = (members_held p c h (omega arith) f n, below_holds p.expressions j (omega arith))
members_held p (collections.Kept' a c g s) h e f n = (members_held p c h e (omega arith) n, below_function p.expressions g (omega arith))
members_held p (collections.Chosen' j a c b d s) h e f n =
    (below_holds p.expressions j (omega arith), members_held p c (omega arith) (omega arith) (omega arith) (omega arith), members_held p d (omega arith) (omega arith) (omega arith) (omega arith))

-- a collection at an id is held with what it names
whole_held : (p : Program) (c : CollectionId) → c.0 < length (collections_in p.collections.items) → stored_terms (collection_listed (term_base p) c) ≤ length (entries_of p.terms) → HoldsWhole p c
unfolding HoldsCollection collection_node
whole_held p c h k = (h, members_held p (collection_node p c) k (p.arena.stored_expressions_closed c) (p.arena.stored_functions_closed c) (p.arena.stored_names_closed c))

-- arguments are held where what they need is there
arguments_held : (p : Program) (vs : List Argument) → terms_end (term_base p) vs ≤ length (entries_of p.terms) → expressions_end vs ≤ arena_count p.expressions → collections_end vs ≤ length (collections_in p.collections.items) → All (HoldsArgument p) vs
unfolding program_expressions HoldsTerm
arguments_held p [] h k l = All-nil (HoldsArgument p)
arguments_held p (arguments.Value e ∷ vs) h k l = All-cons (HoldsArgument p) _ vs (below_holds p.expressions e (omega arith)) (arguments_held p vs h (omega arith) l)
arguments_held p (arguments.Process t ∷ vs) h k l = All-cons (HoldsArgument p) _ vs (omega arith) (arguments_held p vs (omega arith) k l)
arguments_held p (arguments.Collection c ∷ vs) h k l = All-cons (HoldsArgument p) _ vs (whole_held p c (omega arith) (omega arith)) (arguments_held p vs (omega arith) k (omega arith))

-- the parts of a node are held
pub parts_held : (p : Program) (t : TermId) → HoldsTermParts p (program_entry p t).node
unfolding program_expressions program_entry HoldsTerm HoldsArguments argument_nodes
parts_held p t = of_node (term_entry (entries_of p.terms) t.0).node needed
  where
    entry_needs : (t.0 < length (entries_of p.terms)) ⊎ (length (entries_of p.terms) ≤ t.0) → needs_terms (term_base p) (term_entry (entries_of p.terms) t.0).node ≤ length (entries_of p.terms)
    entry_needs (inl h) = omega (arith, p.arena.in_order t.0)
    entry_needs (inr h) = omega (arith, ap (λ (n : Entry Node). needs_terms (term_base p) n.node) (get_or_past (entries_of p.terms) t.0 identity_entry h))

    needed : NeedsAreThere (term_base p) (entries_of p.terms) (term_entry (entries_of p.terms) t.0).node
    needed = record {
      terms = entry_needs (cases_lt t.0 (length (entries_of p.terms)));
      expressions = p.arena.closed t.0;
      functions = p.arena.functions_closed t.0;
      patterns = p.arena.patterns_closed t.0;
      names = p.arena.names_closed t.0;
      constants = p.arena.constants_closed t.0;
      arguments = p.arena.arguments_closed t.0;
      collections = p.arena.collections_closed t.0;
    }

    of_node : (n : Node) → NeedsAreThere (term_base p) (entries_of p.terms) n → HoldsTermParts p n
    of_node (nodes.Primitive (primitives.Bare k)) h = tt
    of_node (nodes.Primitive (primitives.Never n)) h = below_constant p.expressions n (omega (arith, h.constants))
    of_node (nodes.Primitive (primitives.WithValue k e)) h = below_holds p.expressions e (omega (arith, h.expressions))
    of_node (nodes.Primitive (primitives.Timed k q e)) h = below_holds p.expressions e (omega (arith, h.expressions))
    of_node (nodes.Primitive (primitives.Selected k n)) h = tt
    of_node (nodes.Primitive (primitives.Arrow g)) h = below_function p.expressions g (omega (arith, h.functions))
    of_node (nodes.Primitive (primitives.Accumulated k e g)) h = (below_holds p.expressions e (omega (arith, h.expressions)), below_function p.expressions g (omega (arith, h.functions)))
    of_node (nodes.Named w k s) h = below_name p.expressions k (omega (arith, h.names))
    of_node (nodes.Call k a) h = (below_name p.expressions k (omega (arith, h.names)), omega (arith, h.arguments), arguments_held p (argument_nodes p a) h.terms h.expressions h.collections)
    of_node (nodes.Joined j a c) h = (omega (arith, h.terms), omega (arith, h.terms))
    of_node (nodes.Sided d a) h = omega (arith, h.terms)
    of_node (nodes.Headed q e a) h = (below_holds p.expressions e (omega (arith, h.expressions)), omega (arith, h.terms))
    of_node (nodes.Transformed f a) h = (below_function p.expressions f (omega (arith, h.functions)), omega (arith, h.terms))
    of_node (nodes.Switching n) h = (omega (arith, h.terms), below_pattern p.expressions n.pattern (omega (arith, h.patterns)), omega (arith, h.terms))
    of_node (nodes.Continuation n) h = (omega (arith, h.terms), omega (arith, h.terms), below_name p.expressions n.name (omega (arith, h.names)), below_pattern p.expressions n.pattern (omega (arith, h.patterns)), omega (arith, h.terms))
    of_node (nodes.Gathered c) h = whole_held p c (omega (arith, h.collections)) h.terms
    of_node (nodes.Releasing n) h =
        (whole_held p n.members (omega (arith, h.collections)) (omega (arith, h.terms)), omega (arith, h.terms), below_name p.expressions n.name (omega (arith, h.names)), below_pattern p.expressions n.pattern (omega (arith, h.patterns)), omega (arith, h.terms))
    of_node (nodes.Editing n) h =
        (whole_held p n.members (omega (arith, h.collections)) (omega (arith, h.terms)), below_name p.expressions n.name (omega (arith, h.names)), below_pattern p.expressions n.pattern (omega (arith, h.patterns)), whole_held p n.edit (omega (arith, h.collections)) (omega (arith, h.terms)))

bodies_within : (p : Program) (hs : List Header) → bodies_end hs ≤ length (entries_of p.terms) → (k : ℕ) (d : Header) → k < length hs → HoldsTerm p (get_or hs k d).body
unfolding HoldsTerm
bodies_within p [] b k d h = absurd (omega arith)
bodies_within p (h ∷ hs) b zero d q = omega arith
bodies_within p (h ∷ hs) b (suc k) d q = bodies_within p hs (omega arith) k d (omega arith)

-- the bodies of the templates are held
pub bodies_held : (p : Program) → All (λ (h : Header). HoldsTerm p h.body) (headers_of p)
unfolding headers_of
bodies_held p = bodies_within p p.templates.items p.bodies

-- the expressions of a program, seen by themselves
pub expression_in : (p : Program) (e : ExprId) → expression (program_expressions p) e ≡ program_expression p e
unfolding program_expressions program_expression
expression_in p e = refl

pub expression_spot_in : (p : Program) (e : ExprId) → spot_at (program_expressions p) e ≡ expression_spot_at p e
unfolding program_expressions expression_spot_at
expression_spot_in p e = refl

pub count_in : (p : Program) → arena_count (program_expressions p) ≡ expression_count p
unfolding program_expressions expression_count
count_in p = refl

pub holds_in : (p : Program) (e : ExprId) → HoldsExpression p e → Holds (program_expressions p) e
unfolding program_expressions
holds_in p e h = h

pub in_holds : (p : Program) (e : ExprId) → Holds (program_expressions p) e → HoldsExpression p e
unfolding program_expressions
in_holds p e h = h

pub function_at_in : (p : Program) (f : FunctionId) → function_at (program_expressions p) f ≡ program_function p f
unfolding program_expressions function_pattern_at function_body_at program_expression
function_at_in p f = refl

pub pattern_in : (p : Program) (f : FunctionId) → argument_pattern (program_expressions p) f ≡ function_pattern_at p f
unfolding program_expressions function_pattern_at
pattern_in p f = refl

pub body_in : (p : Program) (f : FunctionId) → body_id (program_expressions p) f ≡ function_body_at p f
unfolding program_expressions function_body_at
body_in p f = refl

pub function_holds_in : (p : Program) (f : FunctionId) → ProgramHoldsFunction p f → HoldsFunction (program_expressions p) f
unfolding program_expressions
function_holds_in p f h = h

pub in_holds_function : (p : Program) (f : FunctionId) → HoldsFunction (program_expressions p) f → ProgramHoldsFunction p f
unfolding program_expressions
in_holds_function p f h = h

pub pattern_under_in : (p : Program) (q : PatternId) → stored_pattern (program_expressions p) q ≡ placed_pattern p q
unfolding program_expressions placed_pattern
pattern_under_in p q = refl

pub pattern_holds_in : (p : Program) (q : PatternId) → ProgramHoldsPattern p q → HoldsPattern (program_expressions p) q
unfolding program_expressions
pattern_holds_in p q h = h

pub in_holds_pattern : (p : Program) (q : PatternId) → HoldsPattern (program_expressions p) q → ProgramHoldsPattern p q
unfolding program_expressions
in_holds_pattern p q h = h

pub unchanged_trans : (a b c : Program) → IsSameProgram a b → IsSameProgram b c → IsSameProgram a c
unchanged_trans a b c f g = record {
  term_counted = g.term_counted ∙ f.term_counted;
  expression_counted = g.expression_counted ∙ f.expression_counted;
  nodes = λ t. g.nodes t ∙ f.nodes t;
  trees = λ t. g.trees t ∙ f.trees t;
  spots = λ t. g.spots t ∙ f.spots t;
  value_nodes = λ e. g.value_nodes e ∙ f.value_nodes e;
  values = λ e. g.values e ∙ f.values e;
  value_spots = λ e. g.value_spots e ∙ f.value_spots e;
  holds_functions = λ i h. g.holds_functions i (f.holds_functions i h);
  patterns = λ i. g.patterns i ∙ f.patterns i;
  bodies = λ i. g.bodies i ∙ f.bodies i;
  holds_patterns = λ i h. g.holds_patterns i (f.holds_patterns i h);
  placed = λ i h. g.placed i (f.holds_patterns i h) ∙ f.placed i h;
  holds_names = λ n h. g.holds_names n (f.holds_names n h);
  names = λ n h. g.names n (f.holds_names n h) ∙ f.names n h;
  holds_arguments = λ a h. g.holds_arguments a (f.holds_arguments a h);
  arguments = λ a h. g.arguments a (f.holds_arguments a h) ∙ f.arguments a h;
  holds_collections = λ c h. g.holds_collections c (f.holds_collections c h);
  collections = λ c h. g.collections c (f.holds_collections c h) ∙ f.collections c h;
  headers = g.headers ∙ f.headers;
}

-- an expression that is added where the program shows the same
adds_after : (a b c : Program) (id : ExprId) (n : ExprNode) (e : Expression) (s : Spot) → IsSameProgram a b → AddsExpression b c id n e s → AddsExpression a c id n e s
adds_after a b c id n e s u adds = record {
  within = adds.within;
  fresh = λ h. adds.fresh ((unchanged_keeps a b u).trees.expressions id h);
  node = adds.node;
  is = adds.is;
  spotted = adds.spotted;
  kept = keeps_trans a b c (unchanged_keeps a b u) adds.kept;
  term_counted = adds.term_counted ∙ u.term_counted;
  expression_counted = omega (arith, adds.expression_counted, u.expression_counted);
}

-- a term that is added where the program shows the same
term_after : (a b c : Program) (id : TermId) (n : Node) (t : Term) (s : Spot) → IsSameProgram a b → AddsTerm b c id n t s → AddsTerm a c id n t s
term_after a b c id n t s u adds = record {
  within = adds.within;
  fresh = λ h. adds.fresh ((unchanged_keeps a b u).trees.terms id h);
  node = adds.node;
  is = adds.is;
  spotted = adds.spotted;
  shallow = adds.shallow;
  kept = keeps_trans a b c (unchanged_keeps a b u) adds.kept;
  term_counted = omega (arith, adds.term_counted, u.term_counted);
  expression_counted = adds.expression_counted ∙ u.expression_counted;
}

-- something that is put beside the expressions, and then the term of a node that names it
pub term_with : {I : Type 0} (a b c : Program) (r : Result TermId BuildRefusal) (m next : I) (n : I → Node) (t : Term) (s : Spot) → m ≡ next → IsSameProgram a b → term_of b (n m) ≡ t → IfOk r (λ id. AddsTerm b c id (n m) (term_of b (n m)) s) → IfOk r (λ id. AddsTerm a c id (n next) t s)
term_with {I} a b c (Ok id) m next n t s there u is adds =
    subst (λ (k : I). AddsTerm a c id (n k) t s) there
    (subst (λ (w : Term). AddsTerm a c id (n m) w s) is (term_after a b c id _ _ s u adds))
term_with {I} a b c (Err f) m next n t s there u is adds = tt

-- something that is put beside the expressions, and then the expression of a node that names it
pub adds_with : {I : Type 0} (a b c : Program) (r : Result ExprId BuildRefusal) (m next : I) (n : I → ExprNode) (e : Expression) (s : Spot) → m ≡ next → IsSameProgram a b → node_expression b.expressions (n m) ≡ e → IfOk r (λ id. AddsExpression b c id (n m) (node_expression b.expressions (n m)) s) → IfOk r (λ id. AddsExpression a c id (n next) e s)
adds_with {I} a b c (Ok id) m next n e s there u is adds =
    subst (λ (k : I). AddsExpression a c id (n k) e s) there
    (subst (λ (w : Expression). AddsExpression a c id (n m) w s) is (adds_after a b c id _ _ s u adds))
adds_with {I} a b c (Err f) m next n e s there u is adds = tt

-- and the pattern is there
pub pattern_there : (a b c : Program) (r : Result ExprId BuildRefusal) (q : PatternId) (p : PlacedPattern) (n : ExprNode) (e : Expression) (s : Spot) → AddsPattern a.expressions b.expressions q p → IfOk r (λ id. AddsExpression b c id n e s) → OnOk r (ProgramHoldsPattern c (next_pattern a.expressions) × (placed_pattern c (next_pattern a.expressions) ≡ p))
unfolding program_expressions placed_pattern
pattern_there a b c (Ok id) q p n e s put adds =
    subst (λ (k : PatternId). HoldsPattern c.expressions k × (stored_pattern c.expressions k ≡ p)) put.next
    (adds.kept.trees.holds_patterns q put.within, adds.kept.trees.placed q put.within ∙ put.is)
pattern_there a b c (Err f) q p n e s put adds = tt

-- and the pattern is there
pub term_pattern_there : (a b c : Program) (r : Result TermId BuildRefusal) (q : PatternId) (p : PlacedPattern) (n : Node) (t : Term) (s : Spot) → q ≡ next_pattern a.expressions → HoldsPattern b.expressions q → stored_pattern b.expressions q ≡ p
    → IfOk r (λ id. AddsTerm b c id n t s) → OnOk r (ProgramHoldsPattern c (next_pattern a.expressions) × (placed_pattern c (next_pattern a.expressions) ≡ p))
unfolding program_expressions placed_pattern
term_pattern_there a b c (Ok id) q p n t s next within is adds =
    subst (λ (k : PatternId). HoldsPattern c.expressions k × (stored_pattern c.expressions k ≡ p)) next
    (adds.kept.trees.holds_patterns q within, adds.kept.trees.placed q within ∙ is)
term_pattern_there a b c (Err f) q p n t s next within is adds = tt

-- what is built behind what was put there is built, if its names are names
pub follows : {A Named : Type 0} {M N : A → Type 0} (a b c : Program) (r : Result A BuildRefusal) (others inner count whole : ℕ) → Named → others ≡ count → min inner 65 ≡ min whole 65 → IsSameProgram a b → IfOk r N → IsBuilt b c r M others inner NoNames → IsBuilt a c r N count whole Named
follows {A} {Named} a b c (Ok x) others inner count whole named counted deep same made built = record {
  ok = made;
  refused = record { room = room_as others inner count whole NoNames Named counted deep (λ u. named, λ n. tt) built.refused.room; due = tt };
  err = tt;
}
follows {A} {Named} a b c (Err f) others inner count whole named counted deep same made built = record {
  ok = tt;
  refused = record { room = tt; due = due_as others inner count whole NoNames Named f counted deep (λ u. named, λ n. tt) built.refused.due };
  err = unchanged_trans a b c same built.err;
}

pub term_follows : {I Named : Type 0} (a b c : Program) (r : Result TermId BuildRefusal) (m next : I) (n : I → Node) (t : Term) (s : Spot) → Named → m ≡ next → IsSameProgram a b → term_of b (n m) ≡ t → BuildsTerm b c r (n m) (term_of b (n m)) s NoNames → BuildsTerm a c r (n next) t s Named
term_follows a b c r m next n t s named there same is built =
    follows a b c r (term_count b) (term_depth (term_of b (n m))) (term_count a) (term_depth t) named same.term_counted (ap (λ (t : Term). min (term_depth t) 65) is) same (term_with a b c r m next n t s there same is built.ok) built

pub expression_follows : {I Named : Type 0} (a b c : Program) (r : Result ExprId BuildRefusal) (m next : I) (n : I → ExprNode) (e : Expression) (s : Spot) → Named → m ≡ next → IsSameProgram a b → node_expression b.expressions (n m) ≡ e → BuildsExpression b c r (n m) (node_expression b.expressions (n m)) s NoNames → BuildsExpression a c r (n next) e s Named
expression_follows a b c r m next n e s named there same is built =
    follows a b c r (expression_count b) (Expressions.depth (node_expression b.expressions (n m))) (expression_count a) (Expressions.depth e) named same.expression_counted (ap (λ (e : Expression). min (Expressions.depth e) 65) is) same (adds_with a b c r m next n e s there same is built.ok) built

-- a program shows the same as itself
pub same_self : (p : Program) → IsSameProgram p p
same_self p = unchanged p p (same_expressions p.expressions) (same_lists _) refl refl

-- the term of a switch, whose pattern is put beside the expressions
pub switch_made : (a b : Program) (q : PatternId) (p : PlacedPattern) (w : Switching) (i j : TermId) → AddsPattern a.expressions b.expressions q p → IsSameProgram a b
    → term_of b (nodes.Switching (record { form = w; source = i; pattern = q; body = j })) ≡ switching w (tree a i) (pattern_of p) (tree a j)
unfolding placed_pattern
switch_made a b q p w i j added same = rw (same.trees i, same.trees j, added.is) refl

-- a name was put beside the expressions, and a pattern behind it
pub name_and_pattern : (x y z : Exprs) (n : NameId) (g : Name) (q : PatternId) (p : PlacedPattern) → AddsName x y n g → AddsPattern y z q p → PutsBoth x z (n, q) g p
unfolding next_pattern pattern_count
name_and_pattern x y z n g q p a b = record {
  next = ap₂ (λ (i : NameId) (j : PatternId). (i, j)) a.next (b.next ∙ ap (λ k. record { 0 = k }) a.pattern_counted);
  holds_name = b.kept.holds_names n a.within;
  holds_pattern = b.within;
  name_is = b.kept.names n a.within ∙ a.is;
  pattern_is = b.is;
}

-- and that pattern is there
pub both_there : (a b c : Program) (r : Result TermId BuildRefusal) (ids : NameId × PatternId) (g : Name) (p : PlacedPattern) (n : Node) (t : Term) (s : Spot) → PutsBoth a.expressions b.expressions ids g p → IfOk r (λ id. AddsTerm b c id n t s) → OnOk r (HasPattern c (next_pattern a.expressions) p)
both_there a b c r ids g p n t s put adds = term_pattern_there a b c r ids.1 p n t s (ap (λ (k : NameId × PatternId). k.1) put.next) put.holds_pattern put.pattern_is adds

-- the members of a name that was put there
pub used_next : (n k : NameId) (r s : Spot) → n ≡ k → ◌≡◌ {A = CollExpr} (collections.Used n r s) (collections.Used k r s)
used_next n k r s e = ap (λ i. collections.Used i r s) e

-- a collection stands for the same where a program keeps what it held
pub collection_kept : (a b : Program) (c : CollExpr) → ExtendsTrees a b → HoldsMembers a c → (collection_of b c ≡ collection_of a c) × HoldsMembers b c
collection_kept a b (collections.Empty k t s) u h = (refl, tt)
collection_kept a b (collections.Used k r s) u h = (ap forms.used (u.names k h), u.holds_names k h)
collection_kept a b (collections.Added' x c e t s) u h =
    let k = collection_kept a b c u h.0 in
    (rw (k.0, u.values e h.1, u.trees t h.2) refl, (k.1, u.expressions e h.1, u.terms t h.2))
collection_kept a b (collections.Dropped' x c e s) u h =
    let k = collection_kept a b c u h.0 in
    (ap₂ forms.dropped k.0 (u.values e h.1), (k.1, u.expressions e h.1))
collection_kept a b (collections.Kept' x c f s) u h =
    let k = collection_kept a b c u h.0 in
    (ap₂ forms.kept k.0 (u.meanings f h.1), (k.1, u.functions f h.1))
collection_kept a b (collections.Chosen' e x c y d s) u h =
    let k = collection_kept a b c u h.1 in
    let l = collection_kept a b d u h.2 in
    (rw (u.values e h.0, k.0, l.0) refl, (u.expressions e h.0, k.1, l.1))

-- the same of the collection at an id
pub collection_at_kept : (a b : Program) (i : CollectionId) → ExtendsTrees a b → HoldsWhole a i → (collection_tree b i ≡ collection_tree a i) × HoldsWhole b i
collection_at_kept a b i u h =
    let k = collection_kept a b (collection_node a i) u h.1 in
    let same = u.collections i h.0 in
    (ap (collection_of b) same ∙ k.0, (u.holds_collections i h.0, subst (λ (c : CollExpr). HoldsMembers b c) (sym same) k.1))

collection_at_after : (a b : Program) (i : CollectionId) → IsSameProgram a b → HoldsWhole a i → collection_tree b i ≡ collection_tree a i
collection_at_after a b i same h = (collection_at_kept a b i (unchanged_keeps a b same).trees h).0

-- the term of a switch that knows its source by a name, whose name and pattern are put beside the expressions
pub continuing_made : (a b : Program) (ids : NameId × PatternId) (g : Name) (p : PlacedPattern) (w : Observation) (i o j : TermId) (at : Spot) → PutsBoth a.expressions b.expressions ids g p → IsSameProgram a b
    → term_of b (nodes.Continuation (record { shown = w; source = i; observer = o; name = ids.0; place = at; pattern = ids.1; body = j })) ≡ continuing w (tree a i) (tree a o) g (pattern_of p) (tree a j)
unfolding placed_pattern program_expressions
continuing_made a b ids g p w i o j at put same = rw (same.trees i, same.trees o, same.trees j, put.name_is, put.pattern_is) refl

-- members that give way, likewise
pub releasing_made : (a b : Program) (ids : NameId × PatternId) (g : Name) (p : PlacedPattern) (w : Observation) (i : CollectionId) (o j : TermId) (at : Spot) → HoldsWhole a i → PutsBoth a.expressions b.expressions ids g p → IsSameProgram a b
    → term_of b (nodes.Releasing (record { shown = w; members = i; observer = o; name = ids.0; place = at; pattern = ids.1; body = j })) ≡ releasing w (collection_tree a i) (tree a o) g (pattern_of p) (tree a j)
unfolding placed_pattern program_expressions
releasing_made a b ids g p w i o j at held put same = rw (collection_at_after a b i same held, same.trees o, same.trees j, put.name_is, put.pattern_is) refl

-- members that are edited, likewise
pub editing_made : (a b : Program) (ids : NameId × PatternId) (g : Name) (p : PlacedPattern) (w : Observation) (i j : CollectionId) (at : Spot) → HoldsWhole a i → HoldsWhole a j → PutsBoth a.expressions b.expressions ids g p → IsSameProgram a b
    → term_of b (nodes.Editing (record { shown = w; members = i; name = ids.0; place = at; pattern = ids.1; edit = j })) ≡ editing w (collection_tree a i) g (pattern_of p) (collection_tree a j)
unfolding placed_pattern program_expressions
editing_made a b ids g p w i j at held edit put same = rw (collection_at_after a b i same held, collection_at_after a b j same edit, put.name_is, put.pattern_is) refl

-- arguments stand for the same where a program shows the same
arguments_after : (a b : Program) (vs : List Argument) → IsSameProgram a b → All (HoldsArgument a) vs → arguments_of b vs ≡ arguments_of a vs
arguments_after a b [] same h = refl
arguments_after a b (arguments.Value e ∷ vs) same h = ap₂ value_argument (same.values e) (arguments_after a b vs same (All-tail (HoldsArgument a) _ vs h))
arguments_after a b (arguments.Process t ∷ vs) same h = ap₂ process_argument (same.trees t) (arguments_after a b vs same (All-tail (HoldsArgument a) _ vs h))
arguments_after a b (arguments.Collection c ∷ vs) same h =
    ap₂ collection_argument (collection_at_after a b c same (All-head (HoldsArgument a) (arguments.Collection c) vs h)) (arguments_after a b vs same (All-tail (HoldsArgument a) _ vs h))

-- they are held there too
pub held_after : (a b : Program) (vs : List Argument) → IsSameProgram a b → All (HoldsArgument a) vs → All (HoldsArgument b) vs
held_after a b vs same h = All-weaker (HoldsArgument a) (HoldsArgument b) each vs h
  where
    each : (v : Argument) → HoldsArgument a v → HoldsArgument b v
    each (arguments.Value e) k = (unchanged_keeps a b same).trees.expressions e k
    each (arguments.Process t) k = (unchanged_keeps a b same).trees.terms t k
    each (arguments.Collection c) k = (collection_at_kept a b c (unchanged_keeps a b same).trees k).1

-- A name was put beside the expressions, and then arguments beside the terms.
pub record PutsCall (a b : Program) (n : NameId) (g : Name) (l : ArgumentsId) (vs : List Argument) : Type 0 where
  pub held : All (HoldsArgument a) vs
  pub same : IsSameProgram a b
  pub name_next : n ≡ next_name (program_expressions a)
  pub arguments_next : l ≡ next_arguments a
  pub name_within : HoldsName (program_expressions b) n
  pub name_is : name_at (program_expressions b) n ≡ g
  pub arguments_within : HoldsArguments b l
  pub arguments_are : argument_nodes b l ≡ vs

pub puts_call : (a m b : Program) (n : NameId) (g : Name) (l : ArgumentsId) (vs : List Argument) → All (HoldsArgument a) vs → AddsName a.expressions m.expressions n g → IsSameProgram a m → next_arguments m ≡ next_arguments a
    → l ≡ next_arguments m → HoldsArguments b l → argument_nodes b l ≡ vs → IsSameProgram m b → program_expressions b ≡ program_expressions m → PutsCall a b n g l vs
unfolding program_expressions
puts_call a m b n g l vs held added first lists next within are same expressions = record {
  held = held;
  same = unchanged_trans a m b first same;
  name_next = added.next;
  arguments_next = next ∙ lists;
  name_within = subst (λ x. HoldsName x n) (sym expressions) added.within;
  name_is = ap (λ x. name_at x n) expressions ∙ added.is;
  arguments_within = within;
  arguments_are = are;
}

-- the term of a call whose name and arguments are put there
pub call_made : (a b : Program) (n : NameId) (g : Name) (l : ArgumentsId) (vs : List Argument) → PutsCall a b n g l vs → term_of b (nodes.Call n l) ≡ reference (call g (arguments_of a vs))
call_made a b n g l vs p = ap₂ (λ k us. reference (call k us)) p.name_is (ap (arguments_of b) p.arguments_are ∙ arguments_after a b vs p.same p.held)

pub call_follows : {Named : Type 0} (a b c : Program) (r : Result TermId BuildRefusal) (n : NameId) (g : Name) (l : ArgumentsId) (vs : List Argument) (s : Spot) → Named → PutsCall a b n g l vs → BuildsTerm b c r (nodes.Call n l) (term_of b (nodes.Call n l)) s NoNames
    → BuildsTerm a c r (nodes.Call (next_name (program_expressions a)) (next_arguments a)) (reference (call g (arguments_of a vs))) s Named
call_follows a b c r n g l vs s named p built =
    let ids : ◌≡◌ {A = NameId × ArgumentsId} (n, l) (next_name (program_expressions a), next_arguments a) = ap₂ (λ (x : NameId) (y : ArgumentsId). (x, y)) p.name_next p.arguments_next in
    term_follows {I = NameId × ArgumentsId} a b c r (n, l) (next_name (program_expressions a), next_arguments a) (λ (k : NameId × ArgumentsId). nodes.Call k.0 k.1) _ s named ids p.same (call_made a b n g l vs p) built

-- and the arguments are there
pub arguments_there : (a b c : Program) (r : Result TermId BuildRefusal) (n : NameId) (g : Name) (l : ArgumentsId) (vs : List Argument) (t : Term) (s : Spot) → PutsCall a b n g l vs
    → IfOk r (λ id. AddsTerm b c id (nodes.Call n l) t s) → OnOk r (HoldsArguments c (next_arguments a) × (argument_nodes c (next_arguments a) ≡ vs))
arguments_there a b c (Ok id) n g l vs t s p adds =
    subst (λ (k : ArgumentsId). HoldsArguments c k × (argument_nodes c k ≡ vs)) p.arguments_next
    (adds.kept.trees.holds_arguments l p.arguments_within, adds.kept.trees.arguments l p.arguments_within ∙ p.arguments_are)
arguments_there a b c (Err f) n g l vs t s p adds = tt
