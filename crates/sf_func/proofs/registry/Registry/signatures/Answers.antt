use Rattle.std.proofs.Common.{◌≡◌, ◌∙◌, ◌++◌, map, ap, string_bytes}
use Rattle.sf_func.specs.Registries.{types_of}
use Rattle.sf_func.specs.Signatures.{named_types}
use Rattle.sf_func.proofs.registry.Registry.signatures.Goals as goal

pub loop-name-init : goal.loop-name-init
loop-name-init g c =
    let all : c.into_iter-name-iterator.result ≡ c.args.self.now.entries.entries = c.into_iter-name-iterator.ensures.into_iter_gives.0 in
    ap (λ ss. map named_types ss ++ map (λ e. (string_bytes e.0, types_of e.1)) c.into_iter-name-iterator.result) c.new-entries.ensures.items
    ∙ ap (map (λ e. (string_bytes e.0, types_of e.1))) all
