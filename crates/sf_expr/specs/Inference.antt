-- The types of expressions, found by a function.
use Rattle.std.specs.Prelude.{◌≡◌, ◌≤◌, Bool, true, false, not, ◌||◌, ◌&&◌, nat_le, cond, List, [], ◌∷◌, Option, Some, None, bytes_eq}
use Rattle.std.specs.Str.{is_utf8}
use Rattle.sf_value.specs.Values.{Name, Kind, pair_kind, nodes, is_narrow}
use Rattle.sf_operator.specs.declared.operator.Operator.{Operator}
use Rattle.sf_operator.specs.declared.operator.Unary.{Unary}
use Rattle.sf_func.specs.Registries.{types_named}
pub use Rattle.sf_operator.specs.Kinds.{found_then}
use Rattle.sf_operator.specs.Kinds.{unary_kind, binary_kind, conditional_kind, mapped_argument, mapped_kind, folded_argument, folded_kind}
use Rattle.sf_expr.specs.Expressions.{Pattern, unnamed, named, both, names_of_pattern, Literal, int_literal, text_literal, Expression, variable, literal, paired, applied, operation, conditional, mapped, folded, called, Function, function}
use Rattle.sf_expr.specs.Typing.{Names, typed_name, type_of_name, functions_of, call_kind, literal_kind}

-- a type, if it has at most 256 nodes
abbrev pub fitting : Kind → Option Kind
fitting t = cond (nat_le (nodes t) 256) (Some t) None

-- whether a literal stands for a value: a number within signed 64 bits, a text in UTF-8
abbrev pub is_valued : Literal → Bool
is_valued (int_literal z) = is_narrow z
is_valued (text_literal s) = is_utf8 s
is_valued l = true

-- the type of a literal
abbrev pub literal_type : Literal → Option Kind
literal_type l = cond (is_valued l) (fitting (literal_kind l)) None

-- the type of a pair of two parts
abbrev pub pair_type : Option Kind → Option Kind → Option Kind
pair_type (Some t) (Some u) = fitting (pair_kind t u)
pair_type (Some t) None = None
pair_type None u = None

-- the type of what an operator makes
abbrev pub applied_type : Unary → Option Kind → Option Kind
applied_type o (Some t) = found_then (unary_kind o t) fitting
applied_type o None = None

-- the type of what an operator between two makes
abbrev pub operation_type : Operator → Option Kind → Option Kind → Option Kind
operation_type op (Some t) (Some u) = found_then (binary_kind op t u) fitting
operation_type op (Some t) None = None
operation_type op None u = None

-- the type of one of two
abbrev pub conditional_type : Option Kind → Option Kind → Option Kind → Option Kind
conditional_type (Some c) (Some t) (Some u) = found_then (conditional_kind c t u) fitting
conditional_type (Some c) (Some t) None = None
conditional_type (Some c) None u = None
conditional_type None t u = None

-- the names with a pattern's names before them, if the pattern fits the type
abbrev pub names_matched : Pattern → Kind → Names → Option Names
names_matched unnamed t R = Some R
names_matched (named x) t R = Some (typed_name x t R)
names_matched (both p q) (pair_kind t u) R = found_then (names_matched p t R) (names_matched q u)
names_matched (both p q) t R = None

-- whether a name is one of these
abbrev pub is_among : Name → List Name → Bool
is_among x [] = false
is_among x (y ∷ ys) = bytes_eq x y || is_among x ys

-- whether all names are different
abbrev pub are_different : List Name → Bool
are_different [] = true
are_different (x ∷ xs) = not (is_among x xs) && are_different xs

-- the names that a pattern adds for a type of at most 256 nodes, if it fits the type and its names are different
abbrev pub names_bound : Pattern → Kind → Names → Option Names
names_bound p t R = cond (nat_le (nodes t) 256 && are_different (names_of_pattern p)) (names_matched p t R) None

-- the type of an expression where the names have types, if it has one
abbrev pub expression_type : Names → Expression → Option Kind
expression_type R (variable x) = found_then (type_of_name x R) fitting
expression_type R (literal l) = literal_type l
expression_type R (paired i j) = pair_type (expression_type R i) (expression_type R j)
expression_type R (applied o i) = applied_type o (expression_type R i)
expression_type R (operation i op j) = operation_type op (expression_type R i) (expression_type R j)
expression_type R (conditional i j k) = conditional_type (expression_type R i) (expression_type R j) (expression_type R k)
expression_type R (mapped i m p j) =
    found_then (expression_type R i) (λ t. found_then (mapped_argument m t) (λ a. found_then (names_bound p a R) (λ S. found_then (expression_type S j) (λ u.
    found_then (mapped_kind m t u) fitting))))
expression_type R (folded i o j p k) =
    found_then (expression_type R i) (λ t. found_then (expression_type R j) (λ u. found_then (folded_argument o t u) (λ a. found_then (names_bound p a R) (λ S.
    found_then (expression_type S k) (λ v. found_then (folded_kind o t u v) fitting)))))
expression_type R (called g i) =
    found_then (expression_type R i) (λ t. found_then (call_kind (types_named g (functions_of R)) t) fitting)

-- the type that a function takes values of a type to, if it takes them
abbrev pub function_output : Names → Function → Kind → Option Kind
function_output R (function p i) t =
    cond (nat_le (nodes t) 256 && are_different (names_of_pattern p)) (found_then (names_matched p t R) (λ S. expression_type S i)) None

-- each type that names have has at most 256 nodes
abbrev pub NamesFit : Names → Type 0
NamesFit R = (x : Name) (t : Kind) → type_of_name x R ≡ Some t → nodes t ≤ 256
