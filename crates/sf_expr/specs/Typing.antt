-- The types of expressions.
use Rattle.std.specs.Prelude.{◌≡◌, ◌≢◌, List, [], ◌∷◌, Option, Some, None, cond, bytes_eq, All, ⊤}
use Rattle.sf_value.specs.Values.{Name, Kind, unit_kind, bool_kind, int_kind, text_kind, pair_kind, event_kind, HasKind}
use Rattle.sf_operator.specs.declared.operator.Operator.{Operator}
use Rattle.sf_operator.specs.declared.operator.Unary.{Unary}
use Rattle.sf_operator.specs.declared.operator.Mapping.{Mapping}
use Rattle.sf_operator.specs.declared.operator.Folding.{Folding}
use Rattle.sf_func.specs.Registries.{FunctionTypes, TypesByName, types_named}
pub use Rattle.sf_operator.specs.Kinds.{Fits}
use Rattle.sf_operator.specs.Kinds.{found_then, unary_kind, binary_kind, conditional_kind, mapped_argument, mapped_kind, called_kind, folded_argument, folded_kind}
use Rattle.sf_expr.specs.Expressions.{Pattern, unnamed, named, both, names_of_pattern, Literal, unit_literal, truth_literal, int_literal, text_literal, none_literal, Expression, variable, literal, paired, applied, operation, conditional, mapped, folded, called, Function, function}
use Rattle.sf_expr.specs.Evaluation.{literal_value}

-- The names around an expression, the innermost first: those that it may use with their types, and others, which stand for
-- no value; and last the types of the functions that it may call.
pub data Names : Type 0 where
  only_functions : TypesByName → Names
  typed_name : Name → Kind → Names → Names
  untyped_name : Name → Names → Names

-- the type of a name
abbrev pub type_of_name : Name → Names → Option Kind
type_of_name x (only_functions fs) = None
type_of_name x (typed_name y t R) = cond (bytes_eq x y) (Some t) (type_of_name x R)
type_of_name x (untyped_name y R) = cond (bytes_eq x y) None (type_of_name x R)

-- what a name stands for, if it is there: a value of a type, or none
abbrev pub named_in : Name → Names → Option (Option Kind)
named_in x (only_functions fs) = None
named_in x (typed_name y t R) = cond (bytes_eq x y) (Some (Some t)) (named_in x R)
named_in x (untyped_name y R) = cond (bytes_eq x y) (Some None) (named_in x R)

-- the types of the functions
abbrev pub functions_of : Names → TypesByName
functions_of (only_functions fs) = fs
functions_of (typed_name x t R) = functions_of R
functions_of (untyped_name x R) = functions_of R

-- the names with their types, with functions of these types
abbrev pub names_and_functions : TypesByName → Names → Names
names_and_functions fs (only_functions gs) = only_functions fs
names_and_functions fs (typed_name x t R) = typed_name x t (names_and_functions fs R)
names_and_functions fs (untyped_name x R) = untyped_name x (names_and_functions fs R)

-- the type of what a function makes of a value of a type, if it is there and takes such values
abbrev pub call_kind : Option FunctionTypes → Kind → Option Kind
call_kind o t = found_then o (λ fs. called_kind fs.from fs.to t)

-- a literal's type
abbrev pub literal_kind : Literal → Kind
literal_kind unit_literal = unit_kind
literal_kind (truth_literal b) = bool_kind
literal_kind (int_literal z) = int_kind
literal_kind (text_literal s) = text_kind
literal_kind (none_literal t) = event_kind t

-- all names are different
abbrev pub AllDifferent : List Name → Type 0
AllDifferent [] = ⊤
AllDifferent (x ∷ xs) = All (λ y. x ≢ y) xs × AllDifferent xs

-- A pattern for a type adds names to those around it.
pub data AddsNames : Pattern → Kind → Names → Names → Type 0 where
  adds_nothing : {t : Kind} {R : Names} → AddsNames unnamed t R R
  adds_name : {x : Name} {t : Kind} {R : Names} → AddsNames (named x) t R (typed_name x t R)
  adds_both : {p q : Pattern} {t u : Kind} {R S T : Names} → AddsNames p t R S → AddsNames q u S T → AddsNames (both p q) (pair_kind t u) R T

-- A pattern is bound: it adds its names, which are different.
pub record Binds (p : Pattern) (t : Kind) (R S : Names) : Type 0 where
  pub adds : AddsNames p t R S
  pub apart : AllDifferent (names_of_pattern p)

-- An expression has a type, where the names have types. Each type has at most 256 nodes.
pub data HasType : Names → Expression → Kind → Type 0 where
  variable_has : {R : Names} {x : Name} {t : Kind} → type_of_name x R ≡ Some t → Fits t → HasType R (variable x) t
  literal_has : {R : Names} {l : Literal} → HasKind (literal_value l) (literal_kind l) → Fits (literal_kind l) → HasType R (literal l) (literal_kind l)
  pair_has : {R : Names} {i j : Expression} {t u : Kind} → HasType R i t → HasType R j u → Fits (pair_kind t u) → HasType R (paired i j) (pair_kind t u)
  applied_has : {R : Names} {i : Expression} {o : Unary} {t u : Kind} → HasType R i t → unary_kind o t ≡ Some u → Fits u → HasType R (applied o i) u
  operation_has : {R : Names} {i j : Expression} {op : Operator} {t u v : Kind} → HasType R i t → HasType R j u → binary_kind op t u ≡ Some v → Fits v → HasType R (operation i op j) v
  conditional_has : {R : Names} {i j k : Expression} {c t u v : Kind} → HasType R i c → HasType R j t → HasType R k u → conditional_kind c t u ≡ Some v → Fits v → HasType R (conditional i j k) v
  mapped_has : {R S : Names} {i j : Expression} {m : Mapping} {p : Pattern} {t a u v : Kind}
      → HasType R i t → mapped_argument m t ≡ Some a → Fits a → Binds p a R S → HasType S j u → mapped_kind m t u ≡ Some v → Fits v → HasType R (mapped i m p j) v
  folded_has : {R S : Names} {i j k : Expression} {o : Folding} {p : Pattern} {t u a v w : Kind}
      → HasType R i t → HasType R j u → folded_argument o t u ≡ Some a → Fits a → Binds p a R S → HasType S k v → folded_kind o t u v ≡ Some w → Fits w → HasType R (folded i o j p k) w
  called_has : {R : Names} {g : Name} {i : Expression} {t u : Kind} → HasType R i t → call_kind (types_named g (functions_of R)) t ≡ Some u → Fits u → HasType R (called g i) u

-- A function takes one type to another.
pub data FunctionTakes (R : Names) : Function → Kind → Kind → Type 0 where
  function_takes : {S : Names} {p : Pattern} {i : Expression} {t u : Kind}
      → Fits t → Binds p t R S → HasType S i u → FunctionTakes R (function p i) t u
