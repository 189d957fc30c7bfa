use Rattle.std.proofs.Common.{ap, sym, ◌∙◌, string_bytes}
use Rattle.std.specs.Option.{option_map}
use Rattle.sf_func.proofs.Lookups.{lookup_seen, option_map_copied}
use Rattle.sf_func.proofs.registry.Registry.find.Goals as goal

pub returns-clause-types : goal.returns-clause-types
returns-clause-types g c =
    option_map_copied _ c.get.result ∙ ap (option_map _) c.get.ensures.value ∙ sym (lookup_seen string_bytes _ c.args.name.now c.args.self.now.entries.entries)
