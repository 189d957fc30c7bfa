-- What terms are typed under.
use Rattle.std.specs.Prelude.{List, [], ◌∷◌, map, cond, Option, Some, None, bytes_eq}
use Rattle.sf_value.specs.Values.{Name, KeyKind, Kind, pair_kind}
use Rattle.sf_expr.specs.Expressions.{Pattern, unnamed, named, both}
use Rattle.sf_func.specs.Registries.{TypesByName}
use Rattle.sf_expr.specs.Typing.{Names, only_functions, typed_name, untyped_name}
use Rattle.sf_term.specs.Trees.{Template, Templates}
pub use Rattle.sf_term.specs.Parameters.{NameKind, value, process, collection, Bindings}

-- What calls know of a template: its name, its parameters, and the types of its inputs and outputs.
pub record Signature : Type 0 where
  pub name : Name
  pub parameters : Bindings
  pub input : Kind
  pub output : Kind

-- the signature in a template's header
abbrev pub signature_of : Template → Signature
signature_of t = record { name = t.name; parameters = t.parameters; input = t.input; output = t.output }

-- the first signature of a name
abbrev pub signature_named : Name → List Signature → Option Signature
signature_named x [] = None
signature_named x (s ∷ ss) = cond (bytes_eq x s.name) (Some s) (signature_named x ss)

-- What a term is typed under: the names that are bound around it, the innermost first, the signatures of the templates, and
-- the types of the stored functions.
pub record Context : Type 0 where
  pub bindings : Bindings
  pub signatures : List Signature
  pub functions : TypesByName

-- the names that are bound, over the signatures of templates and functions of these types
abbrev pub outer_context : TypesByName → Bindings → Templates → Context
outer_context fs bs ts = record { bindings = bs; signatures = map signature_of ts; functions = fs }

-- parameters inside other names, the last one innermost
abbrev pub parameters_inside : (parameters around : Bindings) → Bindings
parameters_inside [] bs = bs
parameters_inside (q ∷ qs) bs = parameters_inside qs (q ∷ bs)

-- what the body of a template with these parameters is typed under
abbrev pub template_context : TypesByName → Bindings → Templates → Context
template_context fs qs ts = outer_context fs (parameters_inside qs []) ts

-- the names of a pattern before others, each with the type of its part of a type; none for what doesn't fit the type
abbrev pub bindings_inside : Pattern → Kind → Bindings → Bindings
bindings_inside unnamed t bs = bs
bindings_inside (named x) t bs = (x, value t) ∷ bs
bindings_inside (both p q) (pair_kind t u) bs = bindings_inside q u (bindings_inside p t bs)
bindings_inside (both p q) t bs = bs

-- what a term is typed under inside a pattern for a type
abbrev pub inside_pattern : Pattern → Kind → Context → Context
inside_pattern p t Γ = record { bindings = bindings_inside p t Γ.bindings; signatures = Γ.signatures; functions = Γ.functions }

-- what a term is typed under inside the name of a process from a type to a type
abbrev pub inside_process : Name → (from to : Kind) → Context → Context
inside_process x a b Γ = record { bindings = (x, process a b) ∷ Γ.bindings; signatures = Γ.signatures; functions = Γ.functions }

-- what a term is typed under inside the name of the members of a collection, with keys of a type, from a type to a type
abbrev pub inside_collection : Name → KeyKind → (from to : Kind) → Context → Context
inside_collection x k a b Γ = record { bindings = (x, collection k a b) ∷ Γ.bindings; signatures = Γ.signatures; functions = Γ.functions }

-- the types of a process
abbrev pub types_of_process : NameKind → Option (Kind × Kind)
types_of_process (value t) = None
types_of_process (process a b) = Some (a, b)
types_of_process (collection k a b) = None

-- the types of the process of a name, if it stands for one
abbrev pub process_named : Name → Bindings → Option (Kind × Kind)
process_named x [] = None
process_named x (b ∷ bs) = cond (bytes_eq x b.0) (types_of_process b.1) (process_named x bs)

-- the types of a collection: of its keys, and of the inputs and the outputs of its members
abbrev pub types_of_collection : NameKind → Option (KeyKind × Kind × Kind)
types_of_collection (value t) = None
types_of_collection (process a b) = None
types_of_collection (collection k a b) = Some (k, a, b)

-- the types of the collection of a name, if it stands for one
abbrev pub collection_named : Name → Bindings → Option (KeyKind × Kind × Kind)
collection_named x [] = None
collection_named x (b ∷ bs) = cond (bytes_eq x b.0) (types_of_collection b.1) (collection_named x bs)

-- names with one more, with its type if it stands for a value
abbrev pub with_name_of : Name → NameKind → Names → Names
with_name_of x (value t) R = typed_name x t R
with_name_of x (process a b) R = untyped_name x R
with_name_of x (collection k a b) R = untyped_name x R

-- the names that are bound, those that stand for values with their types, and functions of these types
abbrev pub bound_values : TypesByName → Bindings → Names
bound_values fs [] = only_functions fs
bound_values fs (b ∷ bs) = with_name_of b.0 b.1 (bound_values fs bs)

-- what expressions are typed under
abbrev pub names_of_values : Context → Names
names_of_values Γ = bound_values Γ.functions Γ.bindings
