-- The type that a `Ty` stands for.
use Rattle.sf_value.specs.Values.{KeyKind, int_keys, text_keys, Kind, unit_kind, bool_kind, int_kind, text_kind, pair_kind, event_kind, table_kind}
use Rattle.sf_value.specs.declared.ty.KeyType.{KeyType}
use Rattle.sf_value.specs.declared.ty.KeyType.TheVariants.{Int as IntKeys, Text as TextKeys}
use Rattle.sf_value.specs.declared.ty.TyForm.{TyForm}
use Rattle.sf_value.specs.declared.ty.TyForm.TheVariants.{Unit, Bool, Int, Text, Pair, Event, Table}

-- what a type of keys means
abbrev pub key_kind_of : KeyType → KeyKind
key_kind_of IntKeys = int_keys
key_kind_of TextKeys = text_keys

-- what a form means
abbrev pub kind_of : TyForm → Kind
kind_of Unit = unit_kind
kind_of Bool = bool_kind
kind_of Int = int_kind
kind_of Text = text_kind
kind_of (Pair t u) = pair_kind t.value u.value
kind_of (Event t) = event_kind t.value
kind_of (Table k t) = table_kind (key_kind_of k) t.value
