-- The types of expressions, or the first rule that each breaks: its parts are looked at from left to right, and then the form itself.
use Rattle.std.specs.Prelude.{◌≡◌, nat_le, cond, List, [], ◌∷◌, ◌++◌, slice_index_or, Option, Some, None, Result, Ok, Err, ⊤}
use Rattle.sf_value.specs.Values.{Name, Kind, unit_kind, bool_kind, int_kind, pair_kind}
use Rattle.sf_value.specs.Values
use Rattle.sf_refusal.specs.declared.spot.Spot.{Spot}
use Rattle.sf_refusal.specs.declared.rule.Rule.TheVariants.{UnknownName, DuplicateName, Mismatch, TypeTooLarge}
use Rattle.sf_refusal.specs.declared.refusal.Breach.{Breach}
use Rattle.sf_refusal.specs.declared.refusal.Refusal.{Refusal}
use Rattle.sf_refusal.specs.declared.refusal.Refusal.TheVariants.{Broken, Memory}
use Rattle.sf_refusal.specs.Refusals.{breach_of}
use Rattle.sf_arena.specs.declared.entry.Entry.{Entry}
use Rattle.sf_arena.specs.Arenas.{entries_of}
use Rattle.sf_arena.specs.Folded.{folded_tree}
use Rattle.sf_operator.specs.Kinds.{unary_kind, binary_kind, conditional_kind, mapped_argument, mapped_kind, called_kind, folded_argument, folded_kind}
use Rattle.sf_func.specs.Registries.{FunctionTypes, types_named}
use Rattle.sf_expr.specs.declared.exprs.ExprId.{ExprId}
use Rattle.sf_expr.specs.declared.exprs.FunctionId.{FunctionId}
use Rattle.sf_expr.specs.declared.exprs.ExprNode.{ExprNode}
use Rattle.sf_expr.specs.declared.exprs.ExprNode.TheVariants as nodes
use Rattle.sf_expr.specs.declared.exprs.Exprs.{Exprs}
use Rattle.sf_expr.specs.Patterns.{PlacedPattern, placed_unnamed, placed_name, placed_both, pattern_of}
use Rattle.sf_expr.specs.Arena.{name_at, literal_at, stored_pattern, argument_pattern, body_id}
use Rattle.sf_expr.specs.Typing.{Names, named_in, functions_of, literal_kind}
use Rattle.sf_expr.specs.Inference.{is_among, names_matched}

infixl 10 ◌>>=◌
abbrev pub ◌>>=◌ : {A B : Type 0} → Result A Breach → (A → Result B Breach) → Result B Breach
(Ok x) >>= f = f x
(Err b) >>= f = Err b

-- what was found, or a mismatch at a place
abbrev pub matching_at : {A : Type 0} → Spot → Option A → Result A Breach
matching_at at None = Err (breach_of Mismatch at)
matching_at at (Some x) = Ok x

-- a type that was found, of at most 256 nodes
abbrev pub judged_fitting : Spot → Option Kind → Result Kind Breach
judged_fitting at None = Err (breach_of Mismatch at)
judged_fitting at (Some t) = cond (nat_le (Values.nodes t) 256) (Ok t) (Err (breach_of TypeTooLarge at))

-- the type of what a name stands for: it is there, and stands for a value
abbrev pub naming_at : Spot → Option (Option Kind) → Result Kind Breach
naming_at at None = Err (breach_of UnknownName at)
naming_at at (Some o) = judged_fitting at o

-- the type of a call, at the places of its name and of its first token: there is such a function, and it is one on such values
abbrev pub calling_at : Spot → Spot → Option FunctionTypes → Kind → Result Kind Breach
calling_at name at None t = Err (breach_of UnknownName name)
calling_at name at (Some fs) t = judged_fitting at (called_kind fs.from fs.to t)

-- the names that were seen and those of a pattern behind them, of which none stands before itself
abbrev pub judged_seen : List Name → PlacedPattern → Result (List Name) Breach
judged_seen seen placed_unnamed = Ok seen
judged_seen seen (placed_name x s) = cond (is_among x seen) (Err (breach_of DuplicateName s)) (Ok (seen ++ x ∷ []))
judged_seen seen (placed_both p q) = judged_seen seen p >>= λ more. judged_seen more q

-- the names with those of a pattern for a type before them: they are different, and the pattern fits the type
unfoldable pub judged_binding : Spot → PlacedPattern → Kind → Names → Result Names Breach
judged_binding at p t R = do
  seen ← judged_seen [] p
  matching_at at (names_matched (pattern_of p) t R)

-- the type that an expression has where names have types, or the first rule that it breaks
abbrev pub Judge : Type 0
Judge = Names → Result Kind Breach

-- the type of what stands behind a pattern for a type, where the names of the pattern are put before those around
abbrev pub bound_judged : Spot → PlacedPattern → Kind → Judge → Names → Result Kind Breach
bound_judged at p t body R = judged_binding at p t R >>= body

-- the type of a form at a place, by those of its parts
abbrev pub form_judged : Exprs → (ExprId → Judge) → Spot → ExprNode → Names → Result Kind Breach
form_judged x part at nodes.Unit R = Ok unit_kind
form_judged x part at (nodes.Truth b) R = Ok bool_kind
form_judged x part at (nodes.Int z) R = Ok int_kind
form_judged x part at (nodes.Constant n) R = judged_fitting at (Some (literal_kind (literal_at x n)))
form_judged x part at (nodes.Name n) R = naming_at at (named_in (name_at x n) R)
form_judged x part at (nodes.Pair i j) R = do
  t ← part i R
  u ← part j R
  judged_fitting at (Some (pair_kind t u))
form_judged x part at (nodes.Applied o i) R = do
  t ← part i R
  judged_fitting at (unary_kind o t)
form_judged x part at (nodes.Operation i op j) R = do
  t ← part i R
  u ← part j R
  judged_fitting at (binary_kind op t u)
form_judged x part at (nodes.Conditional i j k) R = do
  c ← part i R
  t ← part j R
  u ← part k R
  judged_fitting at (conditional_kind c t u)
form_judged x part at (nodes.Mapped n) R = do
  t ← part n.part R
  a ← judged_fitting at (mapped_argument n.mapping t)
  u ← bound_judged at (stored_pattern x n.pattern) a (part n.body) R
  judged_fitting at (mapped_kind n.mapping t u)
form_judged x part at (nodes.Folded n) R = do
  t ← part n.first R
  u ← part n.second R
  a ← judged_fitting at (folded_argument n.folding t u)
  v ← bound_judged at (stored_pattern x n.pattern) a (part n.body) R
  judged_fitting at (folded_kind n.folding t u v)
form_judged x part at (nodes.Called g s i) R = do
  t ← part i R
  calling_at s at (types_named (name_at x g) (functions_of R)) t

-- that of the number 0
abbrev pub zero_judged : Names → Result Kind Breach
zero_judged R = Ok int_kind

-- the type of an entry's expression, by those of the expressions before it
abbrev pub entry_judged : Exprs → List Judge → Entry ExprNode → Judge
entry_judged x js entry = form_judged x (λ i. slice_index_or js i.0 zero_judged) entry.spot entry.node

-- the type of the expression at an id, or the first rule that it breaks, and where: `form_judged` of its node
unfoldable pub judged : Exprs → ExprId → Judge
judged x i = folded_tree (entry_judged x) zero_judged (entries_of x.arena) i.0

-- The type that a function takes values of a type to, or the first rule that it breaks, and where: the names of its
-- pattern, then the pattern, then the body.
unfoldable pub function_judged : Exprs → FunctionId → Spot → Kind → Names → Result Kind Breach
function_judged x f at t R = bound_judged at (argument_pattern x f) t (judged x (body_id x f)) R

-- nothing is found for the reason that a refusal names; want of memory says nothing
abbrev pub Stops : {A : Type 0} → Refusal → Result A Breach → Type 0
Stops (Broken b) found = found ≡ Err b
Stops Memory found = ⊤

-- what is answered is what is found
abbrev pub GivesFound : {A : Type 0} → Result A Refusal → Result A Breach → Type 0
GivesFound (Ok x) found = found ≡ Ok x
GivesFound (Err r) found = Stops r found
