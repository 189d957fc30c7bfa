use Rattle.std.proofs.Common.{ap, ◌∙◌}
use Rattle.sf_value.specs.Values.{int_kind, pair_kind}
use Rattle.sf_func.proofs.Adapters.{int2_keeps}
use Rattle.sf_func.proofs.Typed.{keeps_as}
use Rattle.sf_func.proofs.registry.Registry.add_on_numbers.Goals as goal

pub insert-requires-clause-keeps : goal.insert-requires-clause-keeps
insert-requires-clause-keeps g c =
    keeps_as _ (c.in-Ok.ensures.ok ∙ ap (λ k. pair_kind k c.int-2.result) c.int.ensures ∙ ap (pair_kind int_kind) c.int-2.ensures) c.int-3.ensures (int2_keeps _)

pub into_on_numbers-requires : goal.into_on_numbers-requires
into_on_numbers-requires g c = (c.args.function, c.into_stored.ensures ∙ ap (λ e. e.function) c.in-Err.ensures.refused)
