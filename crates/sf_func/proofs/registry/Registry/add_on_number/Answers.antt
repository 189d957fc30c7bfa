use Rattle.std.proofs.Common.{ap, ◌∙◌}
use Rattle.sf_func.proofs.Adapters.{int1_keeps}
use Rattle.sf_func.proofs.Typed.{keeps_as}
use Rattle.sf_func.proofs.registry.Registry.add_on_number.Goals as goal

pub insert-requires-clause-keeps : goal.insert-requires-clause-keeps
insert-requires-clause-keeps g c = keeps_as _ c.int.ensures c.int-2.ensures (int1_keeps _)

pub into_on_number-requires : goal.into_on_number-requires
into_on_number-requires g c = (c.args.function, c.into_stored.ensures ∙ ap (λ e. e.function) c.in-Err.ensures.refused)
