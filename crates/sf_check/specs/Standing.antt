-- What names stand for, in a context.
use Rattle.std.specs.Prelude.{◌++◌, [], ◌∷◌, cond, map, Option, Some, None, bytes_eq}
use Rattle.sf_value.specs.Values.{Name, KeyKind, Kind}
use Rattle.sf_expr.specs.declared.exprs.NameId.{NameId}
use Rattle.sf_expr.specs.declared.exprs.PatternId.{PatternId}
use Rattle.sf_expr.specs.declared.frame.Frame.{Frame}
use Rattle.sf_expr.specs.Expressions.{Pattern}
use Rattle.sf_expr.specs.Patterns.{pattern_of}
use Rattle.sf_expr.specs.Arena.{name_at, stored_pattern}
use Rattle.sf_expr.specs.Meanings.{Meant, of_value, of_process, of_collection, Entries}
use Rattle.sf_expr.specs.Scopes.{frame_entries}
use Rattle.sf_expr.specs.Typing.{Binds}
use Rattle.sf_term.specs.declared.program.Program.{Program}
use Rattle.sf_term.specs.Arena.{program_expressions}
use Rattle.sf_mean.specs.Contexts.{NameKind, value, process, collection, Bindings, Context, names_of_values, inside_pattern, inside_process, inside_collection}

abbrev pub kind_meant : Meant → NameKind
kind_meant (of_value t) = value t
kind_meant (of_process a b) = process a b
kind_meant (of_collection k a b) = collection k a b

-- names with what they stand for
abbrev pub bindings_from : Entries → Bindings
bindings_from es = map (λ (e : Name × Meant). (e.0, kind_meant e.1)) es

-- a context inside names
abbrev pub inside_names : Frame → Context → Context
inside_names names Γ = record { bindings = bindings_from (frame_entries names) ++ Γ.bindings; signatures = Γ.signatures; functions = Γ.functions }

-- what a name stands for, if it is bound
abbrev pub kind_named : Name → Bindings → Option NameKind
kind_named x [] = None
kind_named x (b ∷ bs) = cond (bytes_eq x b.0) (Some b.1) (kind_named x bs)

-- the pattern at an id
abbrev pub program_pattern : Program → PatternId → Pattern
program_pattern p q = pattern_of (stored_pattern (program_expressions p) q)

-- the name at an id
abbrev pub program_name : Program → NameId → Name
program_name p k = name_at (program_expressions p) k

-- inside a term that keeps a process from a type to a type under a name
abbrev pub continuing_inside : Program → NameId → (from to : Kind) → Context → Context
continuing_inside p k a b Γ = inside_process (program_name p k) a b Γ

-- inside a term that keeps members, with keys of a type, from a type to a type under a name
abbrev pub members_inside : Program → NameId → KeyKind → (from to : Kind) → Context → Context
members_inside p x k a b Γ = inside_collection (program_name p x) k a b Γ

-- a pattern binds its names inside, for a type
abbrev pub BindsInside : Pattern → Kind → Context → Type 0
BindsInside q c Γ = Binds q c (names_of_values Γ) (names_of_values (inside_pattern q c Γ))
