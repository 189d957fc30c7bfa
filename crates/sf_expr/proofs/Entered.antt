-- An arena of expressions, to which more is added.
use Rattle.std.specs.Prelude.{slice_index_or}
use Rattle.std.proofs.Common.{◌≡◌, ℕ, ◌<◌, ◌≤◌, List, [], ◌∷◌, ◌++◌, length, Bool, true, false, cond, refl, sym, ◌∙◌, ap, subst, arith, ◌↔◌, ◌⊎◌, inl, inr, ⊎_elim, IsTrue, Result, Ok, Err, IfOk, OnErr}
use mathlib.Core.Path.{ap₂}
use Rattle.std.proofs.lemmas.Bool.{cases_lt}
use Rattle.std.proofs.lemmas.List.Elements.{All-nil, All-push, All-weaker, All-get_or}
use Rattle.std.proofs.lemmas.List.{get_or_append_left, get_or_past}
use Rattle.sf_value.specs.Values.{Name}
use Rattle.sf_refusal.specs.declared.spot.Spot.{Spot}
use Rattle.sf_arena.specs.declared.arena.ArenaRefusal.{ArenaRefusal}
use Rattle.sf_arena.specs.declared.arena.ArenaRefusal.TheVariants.{TooMany, TooDeep, Memory}
use Rattle.sf_arena.specs.declared.entry.Entry.{Entry}
use Rattle.sf_arena.specs.Arenas.{entries_of}
use Rattle.sf_arena.specs.Folded.{trees, folded_tree}
use Rattle.sf_arena.specs.Items.{Added}
use Rattle.sf_arena.proofs.Grown.{added_counted, added_within, added_fresh, added_item, each_item, tree_kept, tree_added, each_tree, tree_made, trees-same, added_or_same, Grows, grows_same, grows_added, shallow_at, few_entries, shallow_entries}
use Rattle.sf_expr.specs.declared.exprs.ExprNode.{ExprNode}
use Rattle.sf_expr.specs.declared.exprs.ExprNode.TheVariants as nodes
use Rattle.sf_expr.specs.declared.exprs.ExprId.{ExprId}
use Rattle.sf_expr.specs.declared.exprs.NameId.{NameId}
use Rattle.sf_expr.specs.declared.exprs.ConstantId.{ConstantId}
use Rattle.sf_expr.specs.declared.exprs.PatternId.{PatternId}
use Rattle.sf_expr.specs.declared.exprs.FunctionId.{FunctionId}
use Rattle.sf_expr.specs.declared.exprs.Exprs.{Exprs}
use Rattle.sf_expr.specs.declared.stored.StoredFunction.{StoredFunction}
use Rattle.sf_expr.specs.Expressions.{Literal, Expression, variable, literal, paired, applied, operation, conditional, mapped, folded, called, function, depth, pattern_depth, function_depth}
use Rattle.sf_expr.specs.Patterns.{PlacedPattern, placed_unnamed, pattern_of}
use Rattle.sf_expr.specs.Inference.{is_valued}
use Rattle.sf_expr.specs.Entries.{Beside, IsArena, AreValued, IsShallow, AreShallowPatterns, IsClosed, AreFunctions, zero_expression, among, name_among, none_of_unit, literal_among, placed_among, made_over, entry_made, needs, needs_names, needs_constants, needs_patterns, has_narrow, zero_entry, listed_entry, expressions, entry_expression, no_function, function_entry}
use Rattle.sf_expr.specs.Arena.{arena_count, function_count, name_count, constant_count, pattern_count, next_name, next_constant, next_pattern, Holds, HoldsFunction, HoldsName, HoldsConstant, HoldsPattern, beside, expression, entry_of, node_at, name_at, literal_at, stored_pattern, spot_at, argument_pattern, body_id, function_at, node_expression, Builds, builds_unit, builds_truth, builds_constant, builds_int, builds_name, builds_pair, builds_applied, builds_operation, builds_conditional, builds_mapped, builds_folded, builds_called, PartsBelow, HoldsParts, Extends, Adds, AddsName, AddsConstant, AddsPattern, AddsFunction, IsUnchanged, id_number}

-- what an expression is made over are its parts alone
local : (b : Beside) (es more : List Expression) (entry : Entry ExprNode) → needs entry.node ≤ length es → entry_made b (es ++ more) entry ≡ entry_made b es entry
local b es more entry h = at_node entry.node h
  where
    part : (i : ℕ) → i < length es → among (es ++ more) i ≡ among es i
    part i q = get_or_append_left es more zero_expression i q

    at_node : (n : ExprNode) → needs n ≤ length es → made_over b (es ++ more) n ≡ made_over b es n
    at_node nodes.Unit h = refl
    at_node (nodes.Truth t) h = refl
    at_node (nodes.Int z) h = refl
    at_node (nodes.Constant n) h = refl
    at_node (nodes.Name n) h = refl
    at_node (nodes.Pair a c) h = ap₂ (λ i j. paired i j) (part a.0 (omega arith)) (part c.0 (omega arith))
    at_node (nodes.Applied o a) h = ap (λ i. applied o i) (part a.0 (omega arith))
    at_node (nodes.Operation a op c) h = ap₂ (λ i j. operation i op j) (part a.0 (omega arith)) (part c.0 (omega arith))
    at_node (nodes.Conditional a c d) h = ap₂ (λ (i : Expression) (p : Expression × Expression). conditional i p.0 p.1) (part a.0 (omega arith)) (ap₂ (λ (j k : Expression). (j, k)) (part c.0 (omega arith)) (part d.0 (omega arith)))
    at_node (nodes.Mapped n) h = ap₂ (λ i j. mapped i n.mapping (pattern_of (placed_among b.patterns n.pattern.0)) j) (part n.part.0 (omega arith)) (part n.body.0 (omega arith))
    at_node (nodes.Folded n) h = ap₂ (λ (i : Expression) (q : Expression × Expression). folded i n.folding q.0 (pattern_of (placed_among b.patterns n.pattern.0)) q.1) (part n.first.0 (omega arith)) (ap₂ (λ (j k : Expression). (j, k)) (part n.second.0 (omega arith)) (part n.body.0 (omega arith)))
    at_node (nodes.Called g s a) h = ap (λ i. called (name_among b.names g.0) i) (part a.0 (omega arith))

-- Names, literals and patterns of which there are more.
pub record IsMore (b c : Beside) : Type 0 where
  pub names : Grows b.names c.names
  pub literals : Grows b.literals c.literals
  pub patterns : Grows b.patterns c.patterns

-- an expression is the same where there is more beside it
same_beside : (b c : Beside) (es : List Expression) (n : ExprNode) → IsMore b c → needs_names n ≤ length b.names → needs_constants n ≤ length b.literals → needs_patterns n ≤ length b.patterns → made_over c es n ≡ made_over b es n
same_beside b c es nodes.Unit m h k l = refl
same_beside b c es (nodes.Truth t) m h k l = refl
same_beside b c es (nodes.Int z) m h k l = refl
same_beside b c es (nodes.Constant n) m h k l = ap literal (m.literals.same n.0 none_of_unit (omega arith))
same_beside b c es (nodes.Name n) m h k l = ap variable (m.names.same n.0 [] (omega arith))
same_beside b c es (nodes.Pair i j) m h k l = refl
same_beside b c es (nodes.Applied o i) m h k l = refl
same_beside b c es (nodes.Operation i op j) m h k l = refl
same_beside b c es (nodes.Conditional i j d) m h k l = refl
same_beside b c es (nodes.Mapped n) m h k l = ap (λ q. mapped (among es n.part.0) n.mapping (pattern_of q) (among es n.body.0)) (m.patterns.same n.pattern.0 placed_unnamed (omega arith))
same_beside b c es (nodes.Folded n) m h k l = ap (λ q. folded (among es n.first.0) n.folding (among es n.second.0) (pattern_of q) (among es n.body.0)) (m.patterns.same n.pattern.0 placed_unnamed (omega arith))
same_beside b c es (nodes.Called g s i) m h k l = ap (λ n. called n (among es i.0)) (m.names.same g.0 [] (omega arith))

expressions_beside : (b c : Beside) (entries : List (Entry ExprNode)) → IsMore b c → IsArena b entries → (i : ℕ) → entry_expression c entries i ≡ entry_expression b entries i
unfolding folded_tree
expressions_beside b c entries m a i =
    ap (λ es. among es i) (trees-same (entry_made c) (entry_made b) zero_entry entries (λ j es h. same_beside b c es (listed_entry entries j).node m (a.named j) (a.constants j) (a.patterned j)))

-- nothing is an arena
pub arena_empty : (b : Beside) → IsArena b []
unfolding folded_tree trees
arena_empty b = record {
  in_order = λ i. omega arith;
  named = λ i. omega arith;
  constants = λ i. omega arith;
  patterned = λ i. omega arith;
  measured = λ i. refl;
  narrow = λ i. refl;
}

-- the arena once an entry is added
arena_added : (b : Beside) (old new : List (Entry ExprNode)) (entry : Entry ExprNode) (n : ℕ) → Added old new entry n → IsArena b old → needs entry.node ≤ length old → needs_names entry.node ≤ length b.names → needs_constants entry.node ≤ length b.literals → needs_patterns entry.node ≤ length b.patterns → entry.depth ≡ depth (entry_made b (expressions b old) entry) → IsTrue (has_narrow entry.node) → IsArena b new
arena_added b old new entry n added a in_order named constants patterned measured narrow = record {
  in_order = each_item old new entry n added (λ i e. needs e.node ≤ i) zero_entry a.in_order (omega (arith, added.next));
  named = each_item old new entry n added (λ i e. needs_names e.node ≤ length b.names) zero_entry a.named named;
  constants = each_item old new entry n added (λ i e. needs_constants e.node ≤ length b.literals) zero_entry a.constants constants;
  patterned = each_item old new entry n added (λ i e. needs_patterns e.node ≤ length b.patterns) zero_entry a.patterned patterned;
  measured = each_tree old new entry n added (entry_made b) zero_expression (λ i e t. e.depth ≡ depth t) zero_entry a.measured measured;
  narrow = each_item old new entry n added (λ i e. IsTrue (has_narrow e.node)) zero_entry a.narrow narrow;
}

-- the arena once there is more beside it
arena_beside : (b c : Beside) (entries : List (Entry ExprNode)) → IsMore b c → IsArena b entries → IsArena c entries
arena_beside b c entries m a = record {
  in_order = a.in_order;
  named = λ i. omega (arith, a.named i, m.names.longer);
  constants = λ i. omega (arith, a.constants i, m.literals.longer);
  patterned = λ i. omega (arith, a.patterned i, m.patterns.longer);
  measured = λ i. a.measured i ∙ ap depth (sym (expressions_beside b c entries m a i));
  narrow = a.narrow;
}

-- a list that something may have been put behind has grown
grows_put : {A : Type 0} (old new : List A) (x : A) (put : Bool) → new ≡ cond put (old ++ x ∷ []) old → Grows old new
grows_put old new x true e = grows_added old new x (length old) (record { next = refl; grown = e })
grows_put old new x false e = grows_same old new e

pub arena_put_name : (old new : List Name) (name : Name) (literals : List Literal) (patterns : List PlacedPattern) (entries : List (Entry ExprNode)) (put : Bool) → new ≡ cond put (old ++ name ∷ []) old → IsArena (record { names = old; literals = literals; patterns = patterns }) entries → IsArena (record { names = new; literals = literals; patterns = patterns }) entries
arena_put_name old new name literals patterns entries put e a = arena_beside _ _ entries (record { names = grows_put old new name put e; literals = grows_same literals literals refl; patterns = grows_same patterns patterns refl }) a

pub arena_put_constant : (names : List Name) (old new : List Literal) (l : Literal) (patterns : List PlacedPattern) (entries : List (Entry ExprNode)) (put : Bool) → new ≡ cond put (old ++ l ∷ []) old → IsArena (record { names = names; literals = old; patterns = patterns }) entries → IsArena (record { names = names; literals = new; patterns = patterns }) entries
arena_put_constant names old new l patterns entries put e a = arena_beside _ _ entries (record { names = grows_same names names refl; literals = grows_put old new l put e; patterns = grows_same patterns patterns refl }) a

pub arena_put_pattern : (names : List Name) (literals : List Literal) (old new : List PlacedPattern) (p : PlacedPattern) (entries : List (Entry ExprNode)) (put : Bool) → new ≡ cond put (old ++ p ∷ []) old → IsArena (record { names = names; literals = literals; patterns = old }) entries → IsArena (record { names = names; literals = literals; patterns = new }) entries
arena_put_pattern names literals old new p entries put e a = arena_beside _ _ entries (record { names = grows_same names names refl; literals = grows_same literals literals refl; patterns = grows_put old new p put e }) a

-- no patterns
pub patterns_empty : AreShallowPatterns []
patterns_empty = All-nil IsShallow

pub patterns_put : (old new : List PlacedPattern) (p : PlacedPattern) (put : Bool) → new ≡ cond put (old ++ p ∷ []) old → AreShallowPatterns old → pattern_depth (pattern_of p) ≤ 64 → AreShallowPatterns new
patterns_put old new p true e a h = subst (λ ps. AreShallowPatterns ps) (sym e) (All-push IsShallow old p a h)
patterns_put old new p false e a h = subst (λ ps. AreShallowPatterns ps) (sym e) a

-- no literals
pub literals_empty : AreValued []
literals_empty = All-nil (λ l. IsTrue (is_valued l))

pub literals_put : (old new : List Literal) (l : Literal) (put : Bool) → new ≡ cond put (old ++ l ∷ []) old → AreValued old → IsTrue (is_valued l) → AreValued new
literals_put old new l true e a h = subst (λ ls. AreValued ls) (sym e) (All-push (λ l. IsTrue (is_valued l)) old l a h)
literals_put old new l false e a h = subst (λ ls. AreValued ls) (sym e) a

-- the expression of a node, as the entries make it
made_expression : (x : Exprs) (n : ExprNode) → made_over (beside x) (expressions (beside x) (entries_of x.arena)) n ≡ node_expression x n
unfolding expression name_at literal_at stored_pattern folded_tree
made_expression x nodes.Unit = refl
made_expression x (nodes.Truth t) = refl
made_expression x (nodes.Int z) = refl
made_expression x (nodes.Constant n) = refl
made_expression x (nodes.Name n) = refl
made_expression x (nodes.Pair a b) = refl
made_expression x (nodes.Applied o a) = refl
made_expression x (nodes.Operation a op b) = refl
made_expression x (nodes.Conditional a b c) = refl
made_expression x (nodes.Mapped n) = refl
made_expression x (nodes.Folded n) = refl
made_expression x (nodes.Called g s a) = refl

-- What a node needs of an arena.
record HasNeeded (x : Exprs) (n : ExprNode) : Type 0 where
  parts : needs n ≤ length (entries_of x.arena)
  names : needs_names n ≤ length x.names.items
  constants : needs_constants n ≤ length x.constants.items
  patterns : needs_patterns n ≤ length x.patterns.items

-- what a node of which the parts are held needs
needed : (x : Exprs) (n : ExprNode) → HoldsParts x n → HasNeeded x n
unfolding Holds HoldsName HoldsConstant HoldsPattern
needed x nodes.Unit h = record { parts = omega arith; names = omega arith; constants = omega arith; patterns = omega arith }
needed x (nodes.Truth t) h = record { parts = omega arith; names = omega arith; constants = omega arith; patterns = omega arith }
needed x (nodes.Int z) h = record { parts = omega arith; names = omega arith; constants = omega arith; patterns = omega arith }
needed x (nodes.Constant n) h = record { parts = omega arith; names = omega arith; constants = h; patterns = omega arith }
needed x (nodes.Name n) h = record { parts = omega arith; names = h; constants = omega arith; patterns = omega arith }
needed x (nodes.Pair a b) h = record { parts = omega (arith, h.0, h.1); names = omega arith; constants = omega arith; patterns = omega arith }
needed x (nodes.Applied o a) h = record { parts = omega (arith, h); names = omega arith; constants = omega arith; patterns = omega arith }
needed x (nodes.Operation a op b) h = record { parts = omega (arith, h.0, h.1); names = omega arith; constants = omega arith; patterns = omega arith }
needed x (nodes.Conditional a b c) h = record { parts = omega (arith, h.0, h.1, h.2); names = omega arith; constants = omega arith; patterns = omega arith }
needed x (nodes.Mapped n) h = record { parts = omega (arith, h.0, h.2); names = omega arith; constants = omega arith; patterns = h.1 }
needed x (nodes.Folded n) h = record { parts = omega (arith, h.0, h.1, h.3); names = omega arith; constants = omega arith; patterns = h.2 }
needed x (nodes.Called g s a) h = record { parts = omega (arith, h.1); names = h.0; constants = omega arith; patterns = omega arith }

-- the entries after a call that adds, whatever it answers
pub arena_put : (x : Exprs) (new : List (Entry ExprNode)) (n : ExprNode) (d : ℕ) (s : Spot) (r : Result ℕ ArenaRefusal) → IfOk r (Added (entries_of x.arena) new (record { node = n; depth = d; spot = s })) → OnErr r (new ≡ entries_of x.arena) → HoldsParts x n → d ≡ depth (node_expression x n) → IsTrue (has_narrow n) → IsArena (beside x) new
arena_put x new n d s r ok err held measured narrow = ⊎_elim added same (added_or_same (entries_of x.arena) new (record { node = n; depth = d; spot = s }) r ok err)
  where
    added : Added (entries_of x.arena) new (record { node = n; depth = d; spot = s }) (length (entries_of x.arena)) → IsArena (beside x) new
    added a =
        let parts = needed x n held in
        arena_added (beside x) (entries_of x.arena) new _ _ a x.ordered parts.parts parts.names parts.constants parts.patterns (measured ∙ ap depth (sym (made_expression x n))) narrow

    same : new ≡ entries_of x.arena → IsArena (beside x) new
    same e = subst (λ es. IsArena (beside x) es) (sym e) x.ordered

-- no functions, of an arena with any number of expressions
pub functions_empty : (n : ℕ) → AreFunctions n []
functions_empty n = All-nil (IsClosed n)

-- the functions where there are more expressions
pub functions_grown : (m n : ℕ) (fs : List StoredFunction) → m ≤ n → AreFunctions m fs → AreFunctions n fs
functions_grown m n fs h a = All-weaker (IsClosed m) (IsClosed n) (λ f q. (omega (arith, q.0), q.1)) fs a

pub functions_put : (n : ℕ) (old new : List StoredFunction) (f : StoredFunction) (put : Bool) → new ≡ cond put (old ++ f ∷ []) old → AreFunctions n old → f.body.0 < n → pattern_depth (pattern_of f.pattern) ≤ 64 → AreFunctions n new
functions_put n old new f true e a body shallow = subst (λ fs. AreFunctions n fs) (sym e) (All-push (IsClosed n) old f a (body, shallow))
functions_put n old new f false e a body shallow = subst (λ fs. AreFunctions n fs) (sym e) a

-- an arena of which each list has grown keeps what it held, where the expressions stay
keeps : (old new : Exprs) → Grows (entries_of old.arena) (entries_of new.arena) → Grows old.names.items new.names.items → Grows old.constants.items new.constants.items → Grows old.patterns.items new.patterns.items → Grows old.functions.items new.functions.items → ((i : ExprId) → Holds old i → expression new i ≡ expression old i) → Extends old new
unfolding Holds HoldsName HoldsConstant HoldsPattern HoldsFunction node_at spot_at name_at literal_at stored_pattern argument_pattern body_id
keeps old new e n l p f trees = record {
  holds = λ i h. omega (arith, e.longer);
  nodes = λ i h. ap (λ (k : Entry ExprNode). k.node) (e.same i.0 zero_entry h);
  trees = trees;
  spots = λ i h. ap (λ (k : Entry ExprNode). k.spot) (e.same i.0 zero_entry h);
  functions = λ g h. omega (arith, f.longer);
  patterns = λ g h. ap (λ (k : StoredFunction). k.pattern) (f.same g.0 no_function h);
  bodies = λ g h. ap (λ (k : StoredFunction). k.body) (f.same g.0 no_function h);
  meanings = λ g h. ap₂ (λ p b. function (pattern_of p) b)
      (ap (λ (k : StoredFunction). k.pattern) (f.same g.0 no_function h))
      (ap (λ (k : StoredFunction). expression new k.body) (f.same g.0 no_function h) ∙ trees (function_entry old.functions.items g.0).body (All-get_or (IsClosed (length (entries_of old.arena))) old.functions.items g.0 no_function h old.closed).0);
  holds_names = λ m h. omega (arith, n.longer);
  names = λ m h. n.same m.0 [] h;
  holds_constants = λ m h. omega (arith, l.longer);
  constants = λ m h. l.same m.0 none_of_unit h;
  holds_patterns = λ m h. omega (arith, p.longer);
  placed = λ m h. p.same m.0 placed_unnamed h;
}

-- the same lists beside nodes
pub same_sides : (ns ms : List Name) (ls ks : List Literal) (ps qs : List PlacedPattern) → ns ≡ ms → ls ≡ ks → ps ≡ qs → ◌≡◌ {A = Beside} (record { names = ns; literals = ls; patterns = ps }) (record { names = ms; literals = ks; patterns = qs })
same_sides ns ms ls ks ps qs n l p = ap₂ (λ (ns : List Name) (s : List Literal × List PlacedPattern). record { names = ns; literals = s.0; patterns = s.1 }) n (ap₂ (λ (ls : List Literal) (ps : List PlacedPattern). (ls, ps)) l p)

-- an entry that is added adds its expression
pub adds_added : (old new : Exprs) (id : ExprId) (n : ExprNode) (d : ℕ) (s : Spot) → Added (entries_of old.arena) (entries_of new.arena) (record { node = n; depth = d; spot = s }) id.0 → new.names.items ≡ old.names.items → new.constants.items ≡ old.constants.items → new.patterns.items ≡ old.patterns.items → new.functions.items ≡ old.functions.items → Adds old new id n (node_expression old n) s
unfolding arena_count function_count name_count constant_count pattern_count Holds expression node_at spot_at
adds_added old new id n d s added same_names same_constants same_patterns same_functions = record {
  within = added_within _ _ _ _ added;
  fresh = added_fresh _ _ _ _ added;
  node = ap (λ (k : Entry ExprNode). k.node) here;
  is = ap (λ b. entry_expression b (entries_of new.arena) id.0) same ∙ tree_added _ _ _ _ added (entry_made (beside old)) zero_expression ∙ made_expression old n;
  spotted = ap (λ (k : Entry ExprNode). k.spot) here;
  kept = keeps old new (grows_added _ _ _ _ added) (grows_same _ _ same_names) (grows_same _ _ same_constants) (grows_same _ _ same_patterns) (grows_same _ _ same_functions)
      (λ i h. ap (λ b. entry_expression b (entries_of new.arena) i.0) same ∙ tree_kept _ _ _ _ added (entry_made (beside old)) zero_expression i.0 h);
  count = added_counted _ _ _ _ added;
  functions = ap length same_functions;
  names = ap length same_names;
  constants = ap length same_constants;
  pattern_counted = ap length same_patterns;
}
  where
    same : beside new ≡ beside old
    same = same_sides _ _ _ _ _ _ same_names same_constants same_patterns

    here : listed_entry (entries_of new.arena) id.0 ≡ record { node = n; depth = d; spot = s }
    here = added_item _ _ _ _ added zero_entry

-- a name that is put behind is added
pub adds_name_put : (old new : Exprs) (n : NameId) (x : Name) → Added old.names.items new.names.items x n.0 → entries_of new.arena ≡ entries_of old.arena → new.constants.items ≡ old.constants.items → new.patterns.items ≡ old.patterns.items → new.functions.items ≡ old.functions.items → AddsName old new n x
unfolding arena_count function_count name_count constant_count pattern_count next_name next_constant Holds HoldsName HoldsConstant expression node_at spot_at name_at literal_at argument_pattern body_id
adds_name_put old new n x added same_entries same_other same_patterns same_functions = record {
  next = ap (λ (i : ℕ). record { 0 = i }) added.next;
  within = added_within _ _ _ _ added;
  is = added_item _ _ _ _ added [];
  kept = keeps old new (grows_same _ _ same_entries) (grows_added _ _ _ _ added) (grows_same _ _ same_other) (grows_same _ _ same_patterns) (grows_same _ _ same_functions) (λ i h. trees i);
  nodes = λ i. ap (λ es. (listed_entry es i.0).node) same_entries;
  trees = trees;
  spots = λ i. ap (λ es. (listed_entry es i.0).spot) same_entries;
  patterns = λ f. ap (λ fs. (function_entry fs f.0).pattern) same_functions;
  bodies = λ f. ap (λ fs. (function_entry fs f.0).body) same_functions;
  count = ap length same_entries;
  functions = ap length same_functions;
  names = added_counted _ _ _ _ added;
  constants = ap length same_other;
  pattern_counted = ap length same_patterns;
}
  where
    trees : (i : ExprId) → expression new i ≡ expression old i
    trees i = ap (λ es. entry_expression (beside new) es i.0) same_entries ∙ expressions_beside (beside old) (beside new) (entries_of old.arena) (record { names = grows_added _ _ _ _ added; literals = grows_same _ _ same_other; patterns = grows_same _ _ same_patterns }) old.ordered i.0

-- a constant that is put behind is added
pub adds_constant_put : (old new : Exprs) (n : ConstantId) (x : Literal) → Added old.constants.items new.constants.items x n.0 → entries_of new.arena ≡ entries_of old.arena → new.names.items ≡ old.names.items → new.patterns.items ≡ old.patterns.items → new.functions.items ≡ old.functions.items → AddsConstant old new n x
unfolding arena_count function_count name_count constant_count pattern_count next_name next_constant Holds HoldsName HoldsConstant expression node_at spot_at name_at literal_at argument_pattern body_id
adds_constant_put old new n x added same_entries same_other same_patterns same_functions = record {
  next = ap (λ (i : ℕ). record { 0 = i }) added.next;
  within = added_within _ _ _ _ added;
  is = added_item _ _ _ _ added none_of_unit;
  kept = keeps old new (grows_same _ _ same_entries) (grows_same _ _ same_other) (grows_added _ _ _ _ added) (grows_same _ _ same_patterns) (grows_same _ _ same_functions) (λ i h. trees i);
  nodes = λ i. ap (λ es. (listed_entry es i.0).node) same_entries;
  trees = trees;
  spots = λ i. ap (λ es. (listed_entry es i.0).spot) same_entries;
  patterns = λ f. ap (λ fs. (function_entry fs f.0).pattern) same_functions;
  bodies = λ f. ap (λ fs. (function_entry fs f.0).body) same_functions;
  count = ap length same_entries;
  functions = ap length same_functions;
  names = ap length same_other;
  constants = added_counted _ _ _ _ added;
  pattern_counted = ap length same_patterns;
}
  where
    trees : (i : ExprId) → expression new i ≡ expression old i
    trees i = ap (λ es. entry_expression (beside new) es i.0) same_entries ∙ expressions_beside (beside old) (beside new) (entries_of old.arena) (record { names = grows_same _ _ same_other; literals = grows_added _ _ _ _ added; patterns = grows_same _ _ same_patterns }) old.ordered i.0

-- a pattern that is put behind is added
pub adds_pattern_put : (old new : Exprs) (p : PatternId) (x : PlacedPattern) → Added old.patterns.items new.patterns.items x p.0 → entries_of new.arena ≡ entries_of old.arena → new.names.items ≡ old.names.items → new.constants.items ≡ old.constants.items → new.functions.items ≡ old.functions.items → AddsPattern old new p x
unfolding arena_count function_count name_count constant_count pattern_count next_pattern Holds HoldsPattern expression node_at spot_at stored_pattern argument_pattern body_id
adds_pattern_put old new p x added same_entries same_names same_constants same_functions = record {
  next = ap (λ (i : ℕ). record { 0 = i }) added.next;
  within = added_within _ _ _ _ added;
  is = added_item _ _ _ _ added placed_unnamed;
  kept = keeps old new (grows_same _ _ same_entries) (grows_same _ _ same_names) (grows_same _ _ same_constants) (grows_added _ _ _ _ added) (grows_same _ _ same_functions) (λ i h. trees i);
  nodes = λ i. ap (λ es. (listed_entry es i.0).node) same_entries;
  trees = trees;
  spots = λ i. ap (λ es. (listed_entry es i.0).spot) same_entries;
  patterns = λ f. ap (λ fs. (function_entry fs f.0).pattern) same_functions;
  bodies = λ f. ap (λ fs. (function_entry fs f.0).body) same_functions;
  count = ap length same_entries;
  functions = ap length same_functions;
  names = ap length same_names;
  constants = ap length same_constants;
  pattern_counted = added_counted _ _ _ _ added;
}
  where
    trees : (i : ExprId) → expression new i ≡ expression old i
    trees i = ap (λ es. entry_expression (beside new) es i.0) same_entries ∙ expressions_beside (beside old) (beside new) (entries_of old.arena) (record { names = grows_same _ _ same_names; literals = grows_same _ _ same_constants; patterns = grows_added _ _ _ _ added }) old.ordered i.0

-- a function that is put behind is added
pub adds_function_put : (old new : Exprs) (f : StoredFunction) (id : FunctionId) → Added old.functions.items new.functions.items f id.0 → entries_of new.arena ≡ entries_of old.arena → new.names.items ≡ old.names.items → new.constants.items ≡ old.constants.items → new.patterns.items ≡ old.patterns.items → AddsFunction old new id f.pattern f.body
unfolding arena_count function_count name_count constant_count pattern_count Holds HoldsFunction expression argument_pattern body_id
adds_function_put old new f id added same_entries same_names same_constants same_patterns = record {
  within = added_within _ _ _ _ added;
  fresh = added_fresh _ _ _ _ added;
  pattern = ap (λ (k : StoredFunction). k.pattern) here;
  body = ap (λ (k : StoredFunction). k.body) here;
  is = ap₂ (λ q e. function q e) (ap (λ (k : StoredFunction). pattern_of k.pattern) here) (ap (λ (k : StoredFunction). expression new k.body) here ∙ trees f.body);
  kept = keeps old new (grows_same _ _ same_entries) (grows_same _ _ same_names) (grows_same _ _ same_constants) (grows_same _ _ same_patterns) (grows_added _ _ _ _ added) (λ i h. trees i);
  count = ap length same_entries;
  functions = added_counted _ _ _ _ added;
  names = ap length same_names;
  constants = ap length same_constants;
  pattern_counted = ap length same_patterns;
}
  where
    here : function_entry new.functions.items id.0 ≡ f
    here = added_item _ _ _ _ added no_function

    trees : (i : ExprId) → expression new i ≡ expression old i
    trees i = ap₂ (λ b es. entry_expression b es i.0) (same_sides _ _ _ _ _ _ same_names same_constants same_patterns) same_entries

-- the same entries, names, constants and functions show the same
pub unchanged : (old new : Exprs) → entries_of new.arena ≡ entries_of old.arena → new.names.items ≡ old.names.items → new.constants.items ≡ old.constants.items → new.patterns.items ≡ old.patterns.items → new.functions.items ≡ old.functions.items → IsUnchanged old new
unfolding arena_count function_count name_count constant_count pattern_count expression node_at spot_at name_at literal_at stored_pattern argument_pattern body_id
unchanged old new e n l p f = record {
  count = ap length e;
  functions = ap length f;
  name_counted = ap length n;
  constant_counted = ap length l;
  pattern_counted = ap length p;
  nodes = λ i. ap (λ es. (listed_entry es i.0).node) e;
  trees = λ i. ap₂ (λ b es. entry_expression b es i.0) (same_sides _ _ _ _ _ _ n l p) e;
  spots = λ i. ap (λ es. (listed_entry es i.0).spot) e;
  patterns = λ i. ap (λ fs. (function_entry fs i.0).pattern) f;
  bodies = λ i. ap (λ fs. (function_entry fs i.0).body) f;
  names = λ i. ap (λ names. name_among names i.0) n;
  constants = λ i. ap (λ ls. literal_among ls i.0) l;
  placed = λ i. ap (λ ps. placed_among ps i.0) p;
}

-- the same lists make an arena
pub arena_same : (x : Exprs) (b : Beside) (entries : List (Entry ExprNode)) (fs : List StoredFunction) → b ≡ beside x → entries ≡ entries_of x.arena → fs ≡ x.functions.items → IsArena b entries × AreFunctions (length entries) fs
arena_same x b entries fs s e f = (
  subst (λ c. IsArena c entries) (sym s) (subst (λ es. IsArena (beside x) es) (sym e) x.ordered),
  subst (λ gs. AreFunctions (length entries) gs) (sym f) (subst (λ (es : List (Entry ExprNode)). AreFunctions (length es) x.functions.items) (sym e) x.closed),
)

-- the expression at an id is that of its node
pub expression_node : (x : Exprs) (id : ExprId) → expression x id ≡ node_expression x (node_at x id)
unfolding expression node_at
expression_node x id =
    tree_made (entry_made (beside x)) (λ n. needs n.node) zero_entry (local (beside x)) (entries_of x.arena) zero_expression (λ ts. refl) x.ordered.in_order id.0
    ∙ made_expression x (listed_entry (entries_of x.arena) id.0).node

-- a node stands for the expression at its id
pub builds : (x : Exprs) (id : ExprId) → Builds x (entry_of x id).node (expression x id)
unfolding entry_of node_at
builds x id = subst (λ e. Builds x (entry_of x id).node e) (sym (expression_node x id)) (of_node (entry_of x id).node)
  where
    of_node : (n : ExprNode) → Builds x n (node_expression x n)
    of_node nodes.Unit = builds_unit
    of_node (nodes.Truth t) = builds_truth
    of_node (nodes.Int z) = builds_int
    of_node (nodes.Constant n) = builds_constant
    of_node (nodes.Name n) = builds_name
    of_node (nodes.Pair a b) = builds_pair
    of_node (nodes.Applied o a) = builds_applied
    of_node (nodes.Operation a op b) = builds_operation
    of_node (nodes.Conditional a b c) = builds_conditional
    of_node (nodes.Mapped n) = builds_mapped
    of_node (nodes.Folded n) = builds_folded
    of_node (nodes.Called g s a) = builds_called

-- what a node stands for
pub node_builds : (x : Exprs) (id : ExprId) (n : ExprNode) → node_at x id ≡ n → Builds x n (expression x id)
unfolding node_at entry_of
node_builds x id n e = subst (λ (n : ExprNode). Builds x n (expression x id)) e (builds x id)

-- the name that a name's node shows
pub name_shown : (x : Exprs) (id : ExprId) (n : NameId) (y : Name) → node_at x id ≡ nodes.Name n → expression x id ≡ variable y → name_at x n ≡ y
name_shown x id n y e f = let b : Builds x (nodes.Name n) (variable y) = subst (λ e. Builds x (nodes.Name n) e) f (node_builds x id (nodes.Name n) e) in shown b refl
  where
    shown : {e : Expression} → Builds x (nodes.Name n) e → e ≡ variable y → name_at x n ≡ y
    shown builds_name e = cc

-- the parts of a node stand before it
pub parts_below : (x : Exprs) (id : ExprId) → PartsBelow (entry_of x id).node (id_number id)
unfolding entry_of
parts_below x id = of_node (listed_entry (entries_of x.arena) id.0).node (x.ordered.in_order id.0)
  where
    of_node : (n : ExprNode) → needs n ≤ id.0 → PartsBelow n id.0
    of_node nodes.Unit h = tt
    of_node (nodes.Truth t) h = tt
    of_node (nodes.Int z) h = tt
    of_node (nodes.Constant n) h = tt
    of_node (nodes.Name n) h = tt
    of_node (nodes.Pair a b) h = (omega arith, omega arith)
    of_node (nodes.Applied o a) h = omega arith
    of_node (nodes.Operation a op b) h = (omega arith, omega arith)
    of_node (nodes.Conditional a b c) h = (omega arith, omega arith, omega arith)
    of_node (nodes.Mapped n) h = (omega arith, omega arith)
    of_node (nodes.Folded n) h = (omega arith, omega arith, omega arith)
    of_node (nodes.Called g s a) h = omega arith

-- the parts of a node are held
pub parts_held : (x : Exprs) (id : ExprId) → HoldsParts x (entry_of x id).node
unfolding entry_of Holds HoldsName HoldsConstant HoldsPattern
parts_held x id = of_node (listed_entry (entries_of x.arena) id.0).node (x.ordered.in_order id.0) (x.ordered.named id.0) (x.ordered.constants id.0) (x.ordered.patterned id.0) within
  where
    within : (needs (listed_entry (entries_of x.arena) id.0).node ≡ 0) ⊎ (id.0 < length (entries_of x.arena))
    within = elim (cases_lt id.0 (length (entries_of x.arena))) [ inl h ↦ inr h | inr h ↦ inl (ap (λ (n : Entry ExprNode). needs n.node) (get_or_past (entries_of x.arena) id.0 zero_entry h)) ]

    of_node : (n : ExprNode) → needs n ≤ id.0 → needs_names n ≤ length x.names.items → needs_constants n ≤ length x.constants.items → needs_patterns n ≤ length x.patterns.items → (needs n ≡ 0) ⊎ (id.0 < length (entries_of x.arena)) → HoldsParts x n
    of_node nodes.Unit b k l q w = tt
    of_node (nodes.Truth t) b k l q w = tt
    of_node (nodes.Int z) b k l q w = tt
    of_node (nodes.Constant n) b k l q w = l
    of_node (nodes.Name n) b k l q w = k
    of_node (nodes.Pair a c) b k l q (inl z) = absurd (omega arith)
    of_node (nodes.Pair a c) b k l q (inr h) = (omega arith, omega arith)
    of_node (nodes.Applied o a) b k l q (inl z) = absurd (omega arith)
    of_node (nodes.Applied o a) b k l q (inr h) = omega arith
    of_node (nodes.Operation a op c) b k l q (inl z) = absurd (omega arith)
    of_node (nodes.Operation a op c) b k l q (inr h) = (omega arith, omega arith)
    of_node (nodes.Conditional a c d) b k l q (inl z) = absurd (omega arith)
    of_node (nodes.Conditional a c d) b k l q (inr h) = (omega arith, omega arith, omega arith)
    of_node (nodes.Mapped n) b k l q (inl z) = absurd (omega arith)
    of_node (nodes.Mapped n) b k l q (inr h) = (omega arith, q, omega arith)
    of_node (nodes.Folded n) b k l q (inl z) = absurd (omega arith)
    of_node (nodes.Folded n) b k l q (inr h) = (omega arith, omega arith, q, omega arith)
    of_node (nodes.Called g s a) b k l q (inl z) = absurd (omega arith)
    of_node (nodes.Called g s a) b k l q (inr h) = (k, omega arith)

-- the literal of a constant stands for a value
pub literal_valued : (x : Exprs) (n : ConstantId) → IsTrue (is_valued (literal_at x n))
unfolding literal_at
literal_valued x n = ⊎_elim
    (λ h. All-get_or (λ l. IsTrue (is_valued l)) x.constants.items n.0 none_of_unit h x.valued)
    (λ h. ap (λ l. is_valued l) (get_or_past x.constants.items n.0 none_of_unit h))
    (cases_lt n.0 (length x.constants.items))

-- the numbers of a node are narrow
pub narrow_node : (x : Exprs) (id : ExprId) → IsTrue (has_narrow (entry_of x id).node)
unfolding entry_of
narrow_node x id = x.ordered.narrow id.0

-- the body of a function that is held is held
pub body_at : (x : Exprs) (f : FunctionId) (g : StoredFunction) → HoldsFunction x f → g ≡ slice_index_or x.functions.items f.0 g → Holds x g.body
unfolding HoldsFunction Holds
body_at x f g h e = subst (λ (k : StoredFunction). k.body.0 < length (entries_of x.arena)) (sym e) (All-get_or (IsClosed (length (entries_of x.arena))) x.functions.items f.0 g h x.closed).0

-- an arena holds what stands below its count
pub holds_below : (x : Exprs) (id : ExprId) → Holds x id → id_number id < arena_count x
unfolding Holds arena_count
holds_below x id h = h

pub below_holds : (x : Exprs) (id : ExprId) → id_number id < arena_count x → Holds x id
unfolding Holds arena_count
below_holds x id h = h

pub function_below : (x : Exprs) (f : FunctionId) → HoldsFunction x f → f.0 < function_count x
unfolding HoldsFunction function_count
function_below x f h = h

pub below_function : (x : Exprs) (f : FunctionId) → f.0 < function_count x → HoldsFunction x f
unfolding HoldsFunction function_count
below_function x f h = h

pub name_below : (x : Exprs) (n : NameId) → HoldsName x n → n.0 < name_count x
unfolding HoldsName name_count
name_below x n h = h

pub below_name : (x : Exprs) (n : NameId) → n.0 < name_count x → HoldsName x n
unfolding HoldsName name_count
below_name x n h = h

pub constant_below : (x : Exprs) (n : ConstantId) → HoldsConstant x n → n.0 < constant_count x
unfolding HoldsConstant constant_count
constant_below x n h = h

pub below_constant : (x : Exprs) (n : ConstantId) → n.0 < constant_count x → HoldsConstant x n
unfolding HoldsConstant constant_count
below_constant x n h = h

pub pattern_below : (x : Exprs) (p : PatternId) → HoldsPattern x p → p.0 < pattern_count x
unfolding HoldsPattern pattern_count
pattern_below x p h = h

pub below_pattern : (x : Exprs) (p : PatternId) → p.0 < pattern_count x → HoldsPattern x p
unfolding HoldsPattern pattern_count
below_pattern x p h = h

-- what adding keeps
pub adds_keeps : (old new : Exprs) (id : ExprId) (n : ExprNode) (e : Expression) (s : Spot) → Adds old new id n e s → Extends old new
adds_keeps old new id n e s a = a.kept

pub adds_function_keeps : (old new : Exprs) (f : FunctionId) (p : PlacedPattern) (b : ExprId) → AddsFunction old new f p b → Extends old new
adds_function_keeps old new f p b a = a.kept

-- an unchanged arena keeps what it held
pub unchanged_keeps : (old new : Exprs) → IsUnchanged old new → Extends old new
unchanged_keeps old new u = record {
  holds = λ i h. below_holds new i (omega (arith, holds_below old i h, u.count));
  nodes = λ i h. u.nodes i;
  trees = λ i h. u.trees i;
  spots = λ i h. u.spots i;
  functions = λ f h. below_function new f (omega (arith, function_below old f h, u.functions));
  patterns = λ f h. u.patterns f;
  bodies = λ f h. u.bodies f;
  meanings = λ f h. rw (u.patterns f, u.bodies f, u.trees (body_id old f)) refl;
  holds_names = λ n h. below_name new n (omega (arith, name_below old n h, u.name_counted));
  names = λ n h. u.names n;
  holds_constants = λ n h. below_constant new n (omega (arith, constant_below old n h, u.constant_counted));
  constants = λ n h. u.constants n;
  holds_patterns = λ p h. below_pattern new p (omega (arith, pattern_below old p h, u.pattern_counted));
  placed = λ p h. u.placed p;
}

pub keeps_trans : (a b c : Exprs) → Extends a b → Extends b c → Extends a c
keeps_trans a b c f g = record {
  holds = λ i h. g.holds i (f.holds i h);
  nodes = λ i h. g.nodes i (f.holds i h) ∙ f.nodes i h;
  trees = λ i h. g.trees i (f.holds i h) ∙ f.trees i h;
  spots = λ i h. g.spots i (f.holds i h) ∙ f.spots i h;
  functions = λ i h. g.functions i (f.functions i h);
  patterns = λ i h. g.patterns i (f.functions i h) ∙ f.patterns i h;
  bodies = λ i h. g.bodies i (f.functions i h) ∙ f.bodies i h;
  meanings = λ i h. g.meanings i (f.functions i h) ∙ f.meanings i h;
  holds_names = λ i h. g.holds_names i (f.holds_names i h);
  names = λ i h. g.names i (f.holds_names i h) ∙ f.names i h;
  holds_constants = λ i h. g.holds_constants i (f.holds_constants i h);
  constants = λ i h. g.constants i (f.holds_constants i h) ∙ f.constants i h;
  holds_patterns = λ i h. g.holds_patterns i (f.holds_patterns i h);
  placed = λ i h. g.placed i (f.holds_patterns i h) ∙ f.placed i h;
}

-- no arena holds more than 100,000 expressions
pub few_expressions : (x : Exprs) → arena_count x ≤ 100000
unfolding arena_count
few_expressions x = few_entries x.arena

-- no more than 64 expressions stand one inside another
pub expression_shallow : (x : Exprs) (id : ExprId) → depth (expression x id) ≤ 64
unfolding expression
expression_shallow x id = omega (arith, x.ordered.measured id.0, shallow_at (entries_of x.arena) zero_entry id.0 (shallow_entries x.arena) (omega arith))

-- no more than 64 patterns stand one inside another
pub placed_shallow : (x : Exprs) (p : PatternId) → pattern_depth (pattern_of (stored_pattern x p)) ≤ 64
unfolding stored_pattern
placed_shallow x p = ⊎_elim
    (λ h. All-get_or IsShallow x.patterns.items p.0 placed_unnamed h x.shallow)
    (λ h. subst (λ (q : PlacedPattern). pattern_depth (pattern_of q) ≤ 64) (sym (get_or_past x.patterns.items p.0 placed_unnamed h)) (omega arith))
    (cases_lt p.0 (length x.patterns.items))

-- no more than 64 patterns or expressions stand one inside another in a function
pub pattern_shallow : (x : Exprs) (f : FunctionId) → pattern_depth (pattern_of (argument_pattern x f)) ≤ 64
unfolding argument_pattern
pattern_shallow x f = ⊎_elim
    (λ h. (All-get_or (IsClosed (length (entries_of x.arena))) x.functions.items f.0 no_function h x.closed).1)
    (λ h. subst (λ (g : StoredFunction). pattern_depth (pattern_of g.pattern) ≤ 64) (sym (get_or_past x.functions.items f.0 no_function h)) (omega arith))
    (cases_lt f.0 (length x.functions.items))

pub function_shallow : (x : Exprs) (f : FunctionId) → function_depth (function_at x f) ≤ 64
function_shallow x f = omega (arith, expression_shallow x (body_id x f), pattern_shallow x f)

-- what a builder leaves keeps what was there, whatever it answers
pub kept_by : (x y : Exprs) (r : Result ExprId ArenaRefusal) (n : ExprNode) (e : Expression) (s : Spot) → IfOk r (λ id. Adds x y id n e s) → OnErr r (IsUnchanged x y) → Extends x y
kept_by x y (Ok id) n e s a u = a.kept
kept_by x y (Err f) n e s a u = unchanged_keeps x y u

pub more_by : (x y : Exprs) (r : Result ExprId ArenaRefusal) (n : ExprNode) (e : Expression) (s : Spot) → IfOk r (λ id. Adds x y id n e s) → OnErr r (IsUnchanged x y) → arena_count x ≤ arena_count y
more_by x y (Ok id) n e s a u = omega (arith, a.count)
more_by x y (Err f) n e s a u = omega (arith, u.count)

pub name_kept_by : {E : Type 0} (x y : Exprs) (r : Result NameId E) (n : Name) → IfOk r (λ id. AddsName x y id n) → OnErr r (IsUnchanged x y) → Extends x y
name_kept_by x y (Ok id) n a u = a.kept
name_kept_by x y (Err e) n a u = unchanged_keeps x y u

pub constant_kept_by : {E : Type 0} (x y : Exprs) (r : Result ConstantId E) (l : Literal) → IfOk r (λ n. AddsConstant x y n l) → OnErr r (IsUnchanged x y) → Extends x y
constant_kept_by x y (Ok n) l a u = a.kept
constant_kept_by x y (Err e) l a u = unchanged_keeps x y u

pub pattern_kept_by : (x y : Exprs) (r : Result PatternId ArenaRefusal) (p : PlacedPattern) → IfOk r (λ n. AddsPattern x y n p) → OnErr r (IsUnchanged x y) → Extends x y
pattern_kept_by x y (Ok n) p a u = a.kept
pattern_kept_by x y (Err e) p a u = unchanged_keeps x y u

pub function_kept_by : (x y : Exprs) (r : Result FunctionId ArenaRefusal) (p : PlacedPattern) (b : ExprId) → IfOk r (λ f. AddsFunction x y f p b) → OnErr r (IsUnchanged x y) → Extends x y
function_kept_by x y (Ok f) p b a u = a.kept
function_kept_by x y (Err e) p b a u = unchanged_keeps x y u

-- what holds in any case holds where there is an error
pub on_any_err : {A E P : Type 0} (r : Result A E) → P → OnErr r P
on_any_err (Ok x) p = tt
on_any_err (Err e) p = p

-- a refusal says the same of calls that answer other things
pub many_still : {A B : Type 0} (P : Type 0) (f : ArenaRefusal) → (◌≡◌ {A = Result A ArenaRefusal} (Err f) (Err TooMany) ↔ P) → ◌≡◌ {A = Result B ArenaRefusal} (Err f) (Err TooMany) ↔ P
many_still P TooMany h = (λ q. h.0 refl, λ p. refl)
many_still P TooDeep h = (λ q. cc, λ p. let q = h.1 p in cc)
many_still P Memory h = (λ q. cc, λ p. let q = h.1 p in cc)

pub deep_still : {A B : Type 0} (P : Type 0) (f : ArenaRefusal) → (◌≡◌ {A = Result A ArenaRefusal} (Err f) (Err TooDeep) ↔ P) → ◌≡◌ {A = Result B ArenaRefusal} (Err f) (Err TooDeep) ↔ P
deep_still P TooDeep h = (λ q. h.0 refl, λ p. refl)
deep_still P TooMany h = (λ q. cc, λ p. let q = h.1 p in cc)
deep_still P Memory h = (λ q. cc, λ p. let q = h.1 p in cc)
