use Rattle.std.proofs.Common.{ap, ◌∙◌}
use Rattle.sf_func.proofs.registry.Registry.add.Goals as goal

pub into_function-requires : goal.into_function-requires
into_function-requires g c = (c.args.function, c.into_stored.ensures ∙ ap (λ e. e.function) c.in-Err.ensures.refused)
