-- What registries hold.
use Rattle.std.specs.Prelude.{◌≡◌, ◌≢◌, ◌≤◌, ◌<◌, List, map, length, Option, Some, None, string_bytes}
use Rattle.std.specs.Map.{lookup}
use Rattle.std.specs.Option.{option_and_then}
use Rattle.std.specs.Str.{bytes_eq}
use Rattle.sf_value.specs.Values.{Name, Kind, Data, HasKind}
use Rattle.sf_func.specs.declared.registry.Entry.{Entry}
use Rattle.sf_func.specs.declared.registry.Registry.{Registry}
use Rattle.sf_func.specs.declared.stored.Stored.{Stored}
use Rattle.sf_func.specs.declared.registry.AddRefusal.{AddRefusal}
use Rattle.sf_func.specs.declared.registry.AddRefusal.TheVariants.{DuplicateName, Full, Memory}

-- the types of a function
pub record FunctionTypes : Type 0 where
  pub from : Kind
  pub to : Kind

abbrev pub types_shown : Kind → Kind → FunctionTypes
types_shown from to = record { from = from; to = to }

-- the types of functions by name, in the order in which they were added
abbrev pub TypesByName : Type 0
TypesByName = List (Name × FunctionTypes)

-- what functions answer, by name: a value, or none where there is no function of the name or it refuses the argument
abbrev pub AnswersByName : Type 0
AnswersByName = Name → Data → Option Data

-- the types of the function of that name
abbrev pub types_named : Name → TypesByName → Option FunctionTypes
types_named name ts = lookup (bytes_eq name) ts

-- on a value of the one type, only a value of the other is answered
abbrev pub KeepsTypes : Kind → Kind → (Data → Option Data) → Type 0
KeepsTypes from to answers = (d a : Data) → HasKind d from → answers d ≡ Some a → HasKind a to

-- each function keeps its types
abbrev pub KeepTheirTypes : TypesByName → AnswersByName → Type 0
KeepTheirTypes ts answers = (name : Name) (t : FunctionTypes) → types_named name ts ≡ Some t → KeepsTypes t.from t.to (answers name)

module _ {A B C : Type 0} {F : A → Type 0} {G : B → Type 0} {H : C → Type 0} where
  -- the types of an entry
  abbrev pub types_of : Entry A B C F G H → FunctionTypes
  types_of e = types_shown e.from e.to

  -- the types of the functions of a registry
  abbrev pub registered_types : Registry A B C F G H → TypesByName
  registered_types r = map (λ e. (string_bytes e.0, types_of e.1)) r.entries.entries

  -- what the functions of a registry answer, where this is what each stored one answers
  abbrev pub answers_in : (Stored A B C F G H → Data → Option Data) → Registry A B C F G H → AnswersByName
  answers_in answers r name d = option_and_then (λ e. answers e.function d) (lookup (λ k. bytes_eq name (string_bytes k)) r.entries.entries)

-- a function of this name may be added
abbrev pub HasRoomFor : Name → TypesByName → Type 0
HasRoomFor name ts = (types_named name ts ≡ None) × (length ts < 256)

-- the first cause that there is to refuse a name
abbrev pub IsCause : AddRefusal → Name → TypesByName → Type 0
IsCause DuplicateName name ts = types_named name ts ≢ None
IsCause Full name ts = (types_named name ts ≡ None) × (256 ≤ length ts)
IsCause Memory name ts = HasRoomFor name ts
