use Rattle.std.proofs.Common.{ap, ◌∙◌, string_bytes}
use Rattle.std.specs.Map.{lookup}
use Rattle.std.specs.Option.{option_and_then}
use Rattle.sf_func.specs.Registries.{types_of}
use Rattle.sf_func.proofs.Lookups.{last_of, last_found, found_still, is_named, is_named_otherwise, added_seen, none_seen}
use Rattle.sf_func.proofs.Typed.{typed_still}
use Rattle.sf_func.proofs.registry.Registry.insert.Goals as goal

pub returns-in-Ok-insert-clause-types : goal.returns-in-Ok-insert-clause-types
returns-in-Ok-insert-clause-types g c =
    let absent = none_seen string_bytes types_of c.args.name.now c.args.self.now.entries.entries c.requires.room.0 in
    let last = last_of c.args.self.now.entries c.insert.new.self.entries c.in-Ok.key _ c.args.name.now c.in-Ok.ensures.ok absent c.in-Ok-insert.ensures.entries in
    added_seen string_bytes _ c.args.self.now.entries.entries _ c.in-Ok.key _ c.args.name.now c.in-Ok.ensures.ok last

pub returns-in-Ok-insert-clause-answers : goal.returns-in-Ok-insert-clause-answers
returns-in-Ok-insert-clause-answers g c = λ d.
    let absent = none_seen string_bytes types_of c.args.name.now c.args.self.now.entries.entries c.requires.room.0 in
    let last = last_of c.args.self.now.entries c.insert.new.self.entries c.in-Ok.key _ c.args.name.now c.in-Ok.ensures.ok absent c.in-Ok-insert.ensures.entries in
    ap (option_and_then _) (ap (lookup _) last ∙ last_found _ c.args.self.now.entries.entries _ absent (is_named c.in-Ok.key c.args.name.now c.in-Ok.ensures.ok))

pub returns-in-Ok-insert-clause-others : goal.returns-in-Ok-insert-clause-others
returns-in-Ok-insert-clause-others g c = λ n d other.
    let absent = none_seen string_bytes types_of c.args.name.now c.args.self.now.entries.entries c.requires.room.0 in
    let last = last_of c.args.self.now.entries c.insert.new.self.entries c.in-Ok.key _ c.args.name.now c.in-Ok.ensures.ok absent c.in-Ok-insert.ensures.entries in
    ap (option_and_then _) (ap (lookup _) last ∙ found_still _ c.args.self.now.entries.entries _ (is_named_otherwise c.in-Ok.key c.args.name.now n c.in-Ok.ensures.ok other))

pub returns-in-Ok-insert-clause-typed : goal.returns-in-Ok-insert-clause-typed
returns-in-Ok-insert-clause-typed g c =
    typed_still _ _ _ _ c.args.name.now _ _ c.requires.room.0 (returns-in-Ok-insert-clause-types g c) (returns-in-Ok-insert-clause-answers g c) (returns-in-Ok-insert-clause-others g c) c.requires.keeps
