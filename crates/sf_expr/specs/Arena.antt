-- Arenas of expressions, seen by their trees.
use Rattle.std.specs.Prelude.{◌≡◌, ℕ, ◌+◌, ◌<◌, length}
use Rattle.sf_value.specs.Values.{Name}
use Rattle.sf_refusal.specs.declared.spot.Spot.{Spot}
use Rattle.sf_arena.specs.declared.entry.Entry.{Entry}
use Rattle.sf_arena.specs.Arenas.{entries_of}
use Rattle.sf_operator.specs.declared.operator.Operator.{Operator}
use Rattle.sf_operator.specs.declared.operator.Unary.{Unary}
use Rattle.sf_expr.specs.declared.exprs.ExprId.{ExprId}
use Rattle.sf_expr.specs.declared.exprs.NameId.{NameId}
use Rattle.sf_expr.specs.declared.exprs.ConstantId.{ConstantId}
use Rattle.sf_expr.specs.declared.exprs.PatternId.{PatternId}
use Rattle.sf_expr.specs.declared.exprs.FunctionId.{FunctionId}
use Rattle.sf_expr.specs.declared.exprs.Mapped.{Mapped}
use Rattle.sf_expr.specs.declared.exprs.Folded.{Folded}
use Rattle.sf_expr.specs.declared.exprs.ExprNode.{ExprNode}
use Rattle.sf_expr.specs.declared.exprs.ExprNode.TheVariants as nodes
use Rattle.sf_expr.specs.declared.exprs.Exprs.{Exprs}
use Rattle.sf_expr.specs.Expressions.{Literal, unit_literal, truth_literal, int_literal, Expression, variable, literal, paired, applied, operation, conditional, mapped, folded, called, Function, function}
use Rattle.sf_expr.specs.Patterns.{PlacedPattern, pattern_of}
use Rattle.sf_expr.specs.Entries.{name_among, literal_among, placed_among, Beside, listed_entry, entry_expression, function_entry}

-- the number of an id
abbrev pub id_number : ExprId → ℕ
id_number id = id.0

-- how many expressions an arena holds
unfoldable pub arena_count : Exprs → ℕ
arena_count x = length (entries_of x.arena)

-- how many functions an arena holds
unfoldable pub function_count : Exprs → ℕ
function_count x = length x.functions.items

-- how many names an arena holds
unfoldable pub name_count : Exprs → ℕ
name_count x = length x.names.items

-- how many constants an arena holds
unfoldable pub constant_count : Exprs → ℕ
constant_count x = length x.constants.items

-- how many patterns an arena holds beside its functions
unfoldable pub pattern_count : Exprs → ℕ
pattern_count x = length x.patterns.items

-- the id of the next name
unfoldable pub next_name : Exprs → NameId
next_name x = record { 0 = length x.names.items }

-- the id of the next constant
unfoldable pub next_constant : Exprs → ConstantId
next_constant x = record { 0 = length x.constants.items }

-- the id of the next pattern
unfoldable pub next_pattern : Exprs → PatternId
next_pattern x = record { 0 = length x.patterns.items }

-- an arena holds an expression under an id
unfoldable pub Holds : Exprs → ExprId → Type 0
Holds x id = id.0 < length (entries_of x.arena)

-- an arena holds a function under an id
unfoldable pub HoldsFunction : Exprs → FunctionId → Type 0
HoldsFunction x f = f.0 < length x.functions.items

-- an arena holds a name under an id
unfoldable pub HoldsName : Exprs → NameId → Type 0
HoldsName x n = n.0 < length x.names.items

-- an arena holds a constant under an id
unfoldable pub HoldsConstant : Exprs → ConstantId → Type 0
HoldsConstant x n = n.0 < length x.constants.items

-- an arena holds a pattern under an id
unfoldable pub HoldsPattern : Exprs → PatternId → Type 0
HoldsPattern x p = p.0 < length x.patterns.items

-- what stands beside the nodes of an arena
abbrev pub beside : Exprs → Beside
beside x = record { names = x.names.items; literals = x.constants.items; patterns = x.patterns.items }

-- the expression at an id; the number 0 where the arena holds none
unfoldable pub expression : Exprs → ExprId → Expression
expression x id = entry_expression (beside x) (entries_of x.arena) id.0

-- the entry at an id
unfoldable pub entry_of : Exprs → ExprId → Entry ExprNode
entry_of x id = listed_entry (entries_of x.arena) id.0

-- the node at an id, with the ids of its parts; the number 0 where the arena holds none
unfoldable pub node_at : Exprs → ExprId → ExprNode
node_at x id = (listed_entry (entries_of x.arena) id.0).node

-- the name at an id of names; the empty one where the arena holds none
unfoldable pub name_at : Exprs → NameId → Name
name_at x n = name_among x.names.items n.0

-- the literal at an id of constants; no event of the type with one value where the arena holds none
unfoldable pub literal_at : Exprs → ConstantId → Literal
literal_at x n = literal_among x.constants.items n.0

-- the pattern at an id of patterns; the one that binds nothing where the arena holds none
unfoldable pub stored_pattern : Exprs → PatternId → PlacedPattern
stored_pattern x p = placed_among x.patterns.items p.0

-- where the expression at an id stands in the text
unfoldable pub spot_at : Exprs → ExprId → Spot
spot_at x id = (listed_entry (entries_of x.arena) id.0).spot

-- the pattern of the function at an id; the one that binds nothing where the arena holds none
unfoldable pub argument_pattern : Exprs → FunctionId → PlacedPattern
argument_pattern x f = (function_entry x.functions.items f.0).pattern

-- the id of the body of the function at an id
unfoldable pub body_id : Exprs → FunctionId → ExprId
body_id x f = (function_entry x.functions.items f.0).body

-- the function at an id
abbrev pub function_at : Exprs → FunctionId → Function
function_at x f = function (pattern_of (argument_pattern x f)) (expression x (body_id x f))

-- the function of the pattern at an id and an expression
abbrev pub pattern_function : Exprs → PatternId → ExprId → Function
pattern_function x p i = function (pattern_of (stored_pattern x p)) (expression x i)

-- the expression that a node stands for in an arena
abbrev pub node_expression : Exprs → ExprNode → Expression
node_expression x nodes.Unit = literal unit_literal
node_expression x (nodes.Truth t) = literal (truth_literal t)
node_expression x (nodes.Int z) = literal (int_literal z)
node_expression x (nodes.Constant n) = literal (literal_at x n)
node_expression x (nodes.Name n) = variable (name_at x n)
node_expression x (nodes.Pair a b) = paired (expression x a) (expression x b)
node_expression x (nodes.Applied o a) = applied o (expression x a)
node_expression x (nodes.Operation a op b) = operation (expression x a) op (expression x b)
node_expression x (nodes.Conditional a b c) = conditional (expression x a) (expression x b) (expression x c)
node_expression x (nodes.Mapped n) = mapped (expression x n.part) n.mapping (pattern_of (stored_pattern x n.pattern)) (expression x n.body)
node_expression x (nodes.Folded n) = folded (expression x n.first) n.folding (expression x n.second) (pattern_of (stored_pattern x n.pattern)) (expression x n.body)
node_expression x (nodes.Called g s a) = called (name_at x g) (expression x a)

-- A node with the ids of its parts stands for an expression with their trees.
pub data Builds (x : Exprs) : ExprNode → Expression → Type 0 where
  builds_unit : Builds x nodes.Unit (literal unit_literal)
  builds_truth : {t : _} → Builds x (nodes.Truth t) (literal (truth_literal t))
  builds_constant : {n : ConstantId} → Builds x (nodes.Constant n) (literal (literal_at x n))
  builds_int : {z : _} → Builds x (nodes.Int z) (literal (int_literal z))
  builds_name : {n : NameId} → Builds x (nodes.Name n) (variable (name_at x n))
  builds_pair : {a b : ExprId} → Builds x (nodes.Pair a b) (paired (expression x a) (expression x b))
  builds_applied : {o : Unary} {a : ExprId} → Builds x (nodes.Applied o a) (applied o (expression x a))
  builds_operation : {op : Operator} {a b : ExprId} → Builds x (nodes.Operation a op b) (operation (expression x a) op (expression x b))
  builds_conditional : {a b c : ExprId} → Builds x (nodes.Conditional a b c) (conditional (expression x a) (expression x b) (expression x c))
  builds_mapped : {n : Mapped} → Builds x (nodes.Mapped n) (mapped (expression x n.part) n.mapping (pattern_of (stored_pattern x n.pattern)) (expression x n.body))
  builds_folded : {n : Folded} → Builds x (nodes.Folded n) (folded (expression x n.first) n.folding (expression x n.second) (pattern_of (stored_pattern x n.pattern)) (expression x n.body))
  builds_called : {g : NameId} {s : Spot} {a : ExprId} → Builds x (nodes.Called g s a) (called (name_at x g) (expression x a))

-- the ids of a node's parts, as numbers, are below a number
abbrev pub PartsBelow : ExprNode → ℕ → Type 0
PartsBelow (nodes.Pair a b) n = (id_number a < n) × (id_number b < n)
PartsBelow (nodes.Applied o a) n = id_number a < n
PartsBelow (nodes.Operation a op b) n = (id_number a < n) × (id_number b < n)
PartsBelow (nodes.Conditional a b c) n = (id_number a < n) × (id_number b < n) × (id_number c < n)
PartsBelow (nodes.Mapped node) n = (id_number node.part < n) × (id_number node.body < n)
PartsBelow (nodes.Folded node) n = (id_number node.first < n) × (id_number node.second < n) × (id_number node.body < n)
PartsBelow (nodes.Called g s a) n = id_number a < n
PartsBelow k n = Unit {0}

-- the parts of a node are held
abbrev pub HoldsParts : Exprs → ExprNode → Type 0
HoldsParts x (nodes.Constant n) = HoldsConstant x n
HoldsParts x (nodes.Name n) = HoldsName x n
HoldsParts x (nodes.Pair a b) = Holds x a × Holds x b
HoldsParts x (nodes.Applied o a) = Holds x a
HoldsParts x (nodes.Operation a op b) = Holds x a × Holds x b
HoldsParts x (nodes.Conditional a b c) = Holds x a × Holds x b × Holds x c
HoldsParts x (nodes.Mapped n) = Holds x n.part × HoldsPattern x n.pattern × Holds x n.body
HoldsParts x (nodes.Folded n) = Holds x n.first × Holds x n.second × HoldsPattern x n.pattern × Holds x n.body
HoldsParts x (nodes.Called g s a) = HoldsName x g × Holds x a
HoldsParts x n = Unit {0}

-- What an arena held is there as it was.
pub record Extends (old new : Exprs) : Type 0 where
  pub holds : (i : ExprId) → Holds old i → Holds new i
  pub nodes : (i : ExprId) → Holds old i → node_at new i ≡ node_at old i
  pub trees : (i : ExprId) → Holds old i → expression new i ≡ expression old i
  pub spots : (i : ExprId) → Holds old i → spot_at new i ≡ spot_at old i
  pub functions : (f : FunctionId) → HoldsFunction old f → HoldsFunction new f
  pub patterns : (f : FunctionId) → HoldsFunction old f → argument_pattern new f ≡ argument_pattern old f
  pub bodies : (f : FunctionId) → HoldsFunction old f → body_id new f ≡ body_id old f
  pub meanings : (f : FunctionId) → HoldsFunction old f → function_at new f ≡ function_at old f
  pub holds_names : (n : NameId) → HoldsName old n → HoldsName new n
  pub names : (n : NameId) → HoldsName old n → name_at new n ≡ name_at old n
  pub holds_constants : (n : ConstantId) → HoldsConstant old n → HoldsConstant new n
  pub constants : (n : ConstantId) → HoldsConstant old n → literal_at new n ≡ literal_at old n
  pub holds_patterns : (p : PatternId) → HoldsPattern old p → HoldsPattern new p
  pub placed : (p : PatternId) → HoldsPattern old p → stored_pattern new p ≡ stored_pattern old p

-- an expression was added under a new id, with the parts that its node names, and what was there stands
pub record Adds (old new : Exprs) (id : ExprId) (n : ExprNode) (e : Expression) (s : Spot) : Type 0 where
  pub within : Holds new id
  pub fresh : ¬ Holds old id
  pub node : node_at new id ≡ n
  pub is : expression new id ≡ e
  pub spotted : spot_at new id ≡ s
  pub kept : Extends old new
  pub count : arena_count new ≡ arena_count old + 1
  pub functions : function_count new ≡ function_count old
  pub names : name_count new ≡ name_count old
  pub constants : constant_count new ≡ constant_count old
  pub pattern_counted : pattern_count new ≡ pattern_count old

-- a name was added under the next id, and what was there stands: at each id the same expressions and functions are shown
pub record AddsName (old new : Exprs) (n : NameId) (x : Name) : Type 0 where
  pub next : n ≡ next_name old
  pub within : HoldsName new n
  pub is : name_at new n ≡ x
  pub kept : Extends old new
  pub nodes : (i : ExprId) → node_at new i ≡ node_at old i
  pub trees : (i : ExprId) → expression new i ≡ expression old i
  pub spots : (i : ExprId) → spot_at new i ≡ spot_at old i
  pub patterns : (f : FunctionId) → argument_pattern new f ≡ argument_pattern old f
  pub bodies : (f : FunctionId) → body_id new f ≡ body_id old f
  pub count : arena_count new ≡ arena_count old
  pub functions : function_count new ≡ function_count old
  pub names : name_count new ≡ name_count old + 1
  pub constants : constant_count new ≡ constant_count old
  pub pattern_counted : pattern_count new ≡ pattern_count old

-- a constant was added under the next id, and what was there stands: at each id the same expressions and functions are shown
pub record AddsConstant (old new : Exprs) (n : ConstantId) (l : Literal) : Type 0 where
  pub next : n ≡ next_constant old
  pub within : HoldsConstant new n
  pub is : literal_at new n ≡ l
  pub kept : Extends old new
  pub nodes : (i : ExprId) → node_at new i ≡ node_at old i
  pub trees : (i : ExprId) → expression new i ≡ expression old i
  pub spots : (i : ExprId) → spot_at new i ≡ spot_at old i
  pub patterns : (f : FunctionId) → argument_pattern new f ≡ argument_pattern old f
  pub bodies : (f : FunctionId) → body_id new f ≡ body_id old f
  pub count : arena_count new ≡ arena_count old
  pub functions : function_count new ≡ function_count old
  pub names : name_count new ≡ name_count old
  pub constants : constant_count new ≡ constant_count old + 1
  pub pattern_counted : pattern_count new ≡ pattern_count old

-- a pattern was added under the next id, and what was there stands: at each id the same expressions and functions are shown
pub record AddsPattern (old new : Exprs) (p : PatternId) (q : PlacedPattern) : Type 0 where
  pub next : p ≡ next_pattern old
  pub within : HoldsPattern new p
  pub is : stored_pattern new p ≡ q
  pub kept : Extends old new
  pub nodes : (i : ExprId) → node_at new i ≡ node_at old i
  pub trees : (i : ExprId) → expression new i ≡ expression old i
  pub spots : (i : ExprId) → spot_at new i ≡ spot_at old i
  pub patterns : (f : FunctionId) → argument_pattern new f ≡ argument_pattern old f
  pub bodies : (f : FunctionId) → body_id new f ≡ body_id old f
  pub count : arena_count new ≡ arena_count old
  pub functions : function_count new ≡ function_count old
  pub names : name_count new ≡ name_count old
  pub constants : constant_count new ≡ constant_count old
  pub pattern_counted : pattern_count new ≡ pattern_count old + 1

-- a function was added under a new id, and what was there stands
pub record AddsFunction (old new : Exprs) (f : FunctionId) (p : PlacedPattern) (b : ExprId) : Type 0 where
  pub within : HoldsFunction new f
  pub fresh : ¬ HoldsFunction old f
  pub pattern : argument_pattern new f ≡ p
  pub body : body_id new f ≡ b
  pub is : function_at new f ≡ function (pattern_of p) (expression old b)
  pub kept : Extends old new
  pub count : arena_count new ≡ arena_count old
  pub functions : function_count new ≡ function_count old + 1
  pub names : name_count new ≡ name_count old
  pub constants : constant_count new ≡ constant_count old
  pub pattern_counted : pattern_count new ≡ pattern_count old

-- two arenas show the same at each id
pub record IsUnchanged (old new : Exprs) : Type 0 where
  pub count : arena_count new ≡ arena_count old
  pub functions : function_count new ≡ function_count old
  pub name_counted : name_count new ≡ name_count old
  pub constant_counted : constant_count new ≡ constant_count old
  pub pattern_counted : pattern_count new ≡ pattern_count old
  pub nodes : (i : ExprId) → node_at new i ≡ node_at old i
  pub trees : (i : ExprId) → expression new i ≡ expression old i
  pub spots : (i : ExprId) → spot_at new i ≡ spot_at old i
  pub patterns : (f : FunctionId) → argument_pattern new f ≡ argument_pattern old f
  pub bodies : (f : FunctionId) → body_id new f ≡ body_id old f
  pub names : (n : NameId) → name_at new n ≡ name_at old n
  pub constants : (n : ConstantId) → literal_at new n ≡ literal_at old n
  pub placed : (p : PatternId) → stored_pattern new p ≡ stored_pattern old p

-- an arena is a copy of another: it shows the same at each id
abbrev pub IsCopy : Exprs → Exprs → Type 0
IsCopy x copy = IsUnchanged x copy
