use Rattle.std.proofs.Common.{refl}
use Rattle.sf_value.specs.Values.{has_unit}
use Rattle.sf_value.proofs.equal.is_unit_type.Goals as goal

pub returns-in-Unit : goal.returns-in-Unit
returns-in-Unit c =
    let kind = rw c.in-Unit.is at c.ty.view_is in
    rw (← kind) (λ _. has_unit, λ _. refl)
