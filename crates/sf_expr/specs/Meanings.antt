-- Names with what they stand for.
use Rattle.std.specs.Borrow.{Bor}
use Rattle.std.specs.Prelude.{ℕ, suc, map, Bool, cond, List, [], ◌∷◌, fold, Option, Some, None, bytes_eq}
use Rattle.sf_value.specs.Values.{Name, KeyKind, Kind}
use Rattle.sf_value.specs.KindView.{key_kind_of}
use Rattle.sf_expr.specs.declared.meaning.Meaning.{Meaning}
use Rattle.sf_expr.specs.declared.meaning.Meaning.TheVariants.{Value, Process, Collection}
use Rattle.sf_expr.specs.declared.meaning.Named.{Named}
use Rattle.sf_expr.specs.Typing.{Names, only_functions, typed_name, untyped_name}

-- What a name stands for.
pub data Meant : Type 0 where
  of_value : Kind → Meant
  of_process : (from to : Kind) → Meant
  of_collection : KeyKind → (from to : Kind) → Meant

abbrev pub meant : Meaning → Meant
meant (Value t) = of_value t.now
meant (Process a b) = of_process a.now b.now
meant (Collection k a b) = of_collection (key_kind_of k) a.now b.now

-- names with what they stand for, the innermost first
abbrev pub Entries : Type 0
Entries = List (Name × Meant)

-- what the innermost of a name stands for
abbrev pub found_in : Name → Entries → Option Meant
found_in x [] = None
found_in x (e ∷ es) = cond (bytes_eq x e.0) (Some e.1) (found_in x es)

-- a name before others
abbrev pub entry_before : Name → Meant → Names → Names
entry_before x (of_value t) R = typed_name x t R
entry_before x (of_process a b) R = untyped_name x R
entry_before x (of_collection k a b) R = untyped_name x R

-- the names with the types of those that stand for values, without functions
abbrev pub value_names : Entries → Names
value_names [] = only_functions []
value_names (e ∷ es) = entry_before e.0 e.1 (value_names es)

-- the names with one more
abbrev pub entry_added : Entries → Named → Entries
entry_added es n = (n.name.now, meant n.meaning) ∷ es

-- names, of which the innermost stands last, the innermost first
abbrev pub named_entries : List Named → Entries
named_entries ns = fold entry_added [] ns

-- the place of the last of a name behind one more, which is of the name or not
abbrev pub place_behind : Bool → Option ℕ → Option ℕ
place_behind b None = cond b (Some 0) None
place_behind b (Some i) = Some (suc i)

-- the place of the last of a name
abbrev pub last_place : Name → List Named → Option ℕ
last_place x [] = None
last_place x (n ∷ ns) = place_behind (bytes_eq x n.name.now) (last_place x ns)

-- the names that were seen, in order
abbrev pub names_seen : List (Bor (List ℕ)) → List Name
names_seen seen = map (λ (n : Bor (List ℕ)). n.now) seen
