-- The names that a scope has, with what they stand for.
use Rattle.std.specs.Borrow.{Bor}
use Rattle.std.specs.Prelude.{List, [], ◌++◌, fold, Option, Some, None}
use Rattle.sf_expr.specs.declared.frame.Frame as framed
use Rattle.sf_expr.specs.declared.scope.TypeScope as scoped
use Rattle.sf_expr.specs.Typing.{Names}
use Rattle.sf_expr.specs.Meanings.{Entries, named_entries, value_names}

-- the names of a frame, the innermost first
unfoldable pub frame_entries : framed.Frame → Entries
frame_entries f = named_entries f.names.items

-- the names with those of one more frame
abbrev pub with_frame : Entries → Option (Bor framed.Frame) → Entries
with_frame es None = es
with_frame es (Some f) = frame_entries f.now ++ es

-- the names of frames, of which the innermost stands last, the innermost first
abbrev pub entries_along : List (Option (Bor framed.Frame)) → Entries
entries_along fs = fold with_frame [] fs

-- the names of a scope, the innermost first
unfoldable pub entries_around : scoped.TypeScope → Entries
entries_around s = entries_along s.frames.items

-- those with types
abbrev pub scope_names : scoped.TypeScope → Names
scope_names s = value_names (entries_around s)
