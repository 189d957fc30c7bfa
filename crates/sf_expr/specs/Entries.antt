-- The nodes of an arena of expressions.
use Rattle.std.specs.Prelude.{◌≡◌, ℕ, suc, ◌≤◌, ◌<◌, max, pos, List, [], length, slice_index_or, Bool, true, IsTrue, All}
use Rattle.sf_value.specs.Values.{Name, unit_kind, is_narrow}
use Rattle.sf_arena.specs.declared.entry.Entry.{Entry}
use Rattle.sf_arena.specs.Folded.{trees, folded_tree}
use Rattle.sf_expr.specs.declared.exprs.ExprNode.{ExprNode}
use Rattle.sf_expr.specs.declared.exprs.ExprNode.TheVariants as nodes
use Rattle.sf_expr.specs.declared.stored.StoredFunction.{StoredFunction}
use Rattle.sf_expr.specs.Expressions.{Literal, unit_literal, truth_literal, int_literal, none_literal, Expression, variable, literal, paired, applied, operation, conditional, mapped, folded, called, depth, pattern_depth}
use Rattle.sf_expr.specs.Patterns.{PlacedPattern, placed_unnamed, pattern_of}
use Rattle.sf_expr.specs.Inference.{is_valued}

-- the number 0
abbrev pub zero_expression : Expression
zero_expression = literal (int_literal (pos 0))

-- the expression at a place; the number 0 past the end
abbrev pub among : List Expression → ℕ → Expression
among es i = slice_index_or es i zero_expression

-- the name at a place; the empty one past the end
abbrev pub name_among : List Name → ℕ → Name
name_among names i = slice_index_or names i []

-- no event of the type with one value
abbrev pub none_of_unit : Literal
none_of_unit = none_literal unit_kind

-- the literal at a place; no event of the type with one value past the end
abbrev pub literal_among : List Literal → ℕ → Literal
literal_among ls i = slice_index_or ls i none_of_unit

-- the pattern at a place; the one that binds nothing past the end
abbrev pub placed_among : List PlacedPattern → ℕ → PlacedPattern
placed_among ps i = slice_index_or ps i placed_unnamed

-- What stands beside the nodes of an arena: their names, the literals that are no part of a node, and their patterns.
pub record Beside : Type 0 where
  pub names : List Name
  pub literals : List Literal
  pub patterns : List PlacedPattern

-- the expression of a node, over the expressions before it
abbrev pub made_over : Beside → List Expression → ExprNode → Expression
made_over b es nodes.Unit = literal unit_literal
made_over b es (nodes.Truth t) = literal (truth_literal t)
made_over b es (nodes.Int z) = literal (int_literal z)
made_over b es (nodes.Constant n) = literal (literal_among b.literals n.0)
made_over b es (nodes.Name n) = variable (name_among b.names n.0)
made_over b es (nodes.Pair i j) = paired (among es i.0) (among es j.0)
made_over b es (nodes.Applied o i) = applied o (among es i.0)
made_over b es (nodes.Operation i op j) = operation (among es i.0) op (among es j.0)
made_over b es (nodes.Conditional i j k) = conditional (among es i.0) (among es j.0) (among es k.0)
made_over b es (nodes.Mapped n) = mapped (among es n.part.0) n.mapping (pattern_of (placed_among b.patterns n.pattern.0)) (among es n.body.0)
made_over b es (nodes.Folded n) = folded (among es n.first.0) n.folding (among es n.second.0) (pattern_of (placed_among b.patterns n.pattern.0)) (among es n.body.0)
made_over b es (nodes.Called g s i) = called (name_among b.names g.0) (among es i.0)

-- how many expressions have to stand before a node
abbrev pub needs : ExprNode → ℕ
needs nodes.Unit = 0
needs (nodes.Truth t) = 0
needs (nodes.Int z) = 0
needs (nodes.Constant n) = 0
needs (nodes.Name n) = 0
needs (nodes.Pair a b) = suc (max a.0 b.0)
needs (nodes.Applied o a) = suc a.0
needs (nodes.Operation a op b) = suc (max a.0 b.0)
needs (nodes.Conditional a b c) = suc (max a.0 (max b.0 c.0))
needs (nodes.Mapped n) = suc (max n.part.0 n.body.0)
needs (nodes.Folded n) = suc (max n.first.0 (max n.second.0 n.body.0))
needs (nodes.Called g s a) = suc a.0

-- how many names have to be there for a node
abbrev pub needs_names : ExprNode → ℕ
needs_names (nodes.Name n) = suc n.0
needs_names (nodes.Called g s a) = suc g.0
needs_names n = 0

-- how many literals have to be there for a node
abbrev pub needs_constants : ExprNode → ℕ
needs_constants (nodes.Constant n) = suc n.0
needs_constants n = 0

-- how many patterns have to be there for a node
abbrev pub needs_patterns : ExprNode → ℕ
needs_patterns (nodes.Mapped n) = suc n.pattern.0
needs_patterns (nodes.Folded n) = suc n.pattern.0
needs_patterns n = 0

-- whether the numbers of a node are within signed 64 bits
abbrev pub has_narrow : ExprNode → Bool
has_narrow (nodes.Int z) = is_narrow z
has_narrow n = true

-- the number 0, without a text
abbrev pub zero_entry : Entry ExprNode
zero_entry = record { node = nodes.Int (pos 0); depth = 1; spot = record { line = 0; column = 0 } }

-- the entry at a place; the number 0 past the end
abbrev pub listed_entry : List (Entry ExprNode) → ℕ → Entry ExprNode
listed_entry entries i = slice_index_or entries i zero_entry

-- the expression of an entry, over the expressions before it
abbrev pub entry_made : Beside → List Expression → Entry ExprNode → Expression
entry_made b es entry = made_over b es entry.node

-- the expressions of entries
abbrev pub expressions : Beside → List (Entry ExprNode) → List Expression
expressions b entries = trees (entry_made b) entries

-- the expression at a place; the number 0 past the end
abbrev pub entry_expression : Beside → List (Entry ExprNode) → ℕ → Expression
entry_expression b entries i = folded_tree (entry_made b) zero_expression entries i

-- all literals stand for values
abbrev pub AreValued : List Literal → Type 0
AreValued ls = All (λ l. IsTrue (is_valued l)) ls

-- no more than 64 patterns stand one inside another
abbrev pub IsShallow : PlacedPattern → Type 0
IsShallow p = pattern_depth (pattern_of p) ≤ 64

abbrev pub AreShallowPatterns : List PlacedPattern → Type 0
AreShallowPatterns ps = All IsShallow ps

-- What holds of the entries of an arena, with what stands beside them.
pub record IsArena (b : Beside) (entries : List (Entry ExprNode)) : Type 0 where
  pub in_order : (i : ℕ) → needs (listed_entry entries i).node ≤ i
  pub named : (i : ℕ) → needs_names (listed_entry entries i).node ≤ length b.names
  pub constants : (i : ℕ) → needs_constants (listed_entry entries i).node ≤ length b.literals
  pub patterned : (i : ℕ) → needs_patterns (listed_entry entries i).node ≤ length b.patterns
  pub measured : (i : ℕ) → (listed_entry entries i).depth ≡ depth (entry_expression b entries i)
  pub narrow : (i : ℕ) → IsTrue (has_narrow (listed_entry entries i).node)

-- a function that binds nothing, with a body that no arena holds
abbrev pub no_function : StoredFunction
no_function = record { pattern = placed_unnamed; body = record { 0 = 4294967295 } }

-- the function at a place; the one without a body past the end
abbrev pub function_entry : List StoredFunction → ℕ → StoredFunction
function_entry fs i = slice_index_or fs i no_function

-- a function has a body among so many expressions, and a pattern of at most 64 patterns, one inside another
abbrev pub IsClosed : ℕ → StoredFunction → Type 0
IsClosed count f = (f.body.0 < count) × IsShallow f.pattern

-- what holds of the functions of an arena with so many expressions
abbrev pub AreFunctions : ℕ → List StoredFunction → Type 0
AreFunctions count fs = All (IsClosed count) fs
