-- What names stand for, and the parameters of templates.
use Rattle.std.specs.Prelude.{List, map}
use Rattle.sf_value.specs.Values.{Name, KeyKind, Kind}
use Rattle.sf_refusal.specs.declared.spot.Spot.{Spot}

-- What a name stands for: a value of a type, a process from a type to a type, or under keys of a type several such processes.
pub data NameKind : Type 0 where
  value : Kind → NameKind
  process : (from to : Kind) → NameKind
  collection : KeyKind → (from to : Kind) → NameKind

-- Names, each with what it stands for.
abbrev pub Bindings : Type 0
Bindings = List (Name × NameKind)

-- a parameter in the header of a template: its name with the place of it, and what it stands for
pub record PlacedParameter : Type 0 where
  pub name : Name
  pub spot : Spot
  pub kind : NameKind

-- the name of a parameter, with what it stands for
abbrev pub binding_of : PlacedParameter → Name × NameKind
binding_of q = (q.name, q.kind)

-- parameters without their places
abbrev pub parameters_of : List PlacedParameter → Bindings
parameters_of qs = map binding_of qs
