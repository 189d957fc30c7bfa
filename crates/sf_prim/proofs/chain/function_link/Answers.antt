use Rattle.std.proofs.Common.{refl}
use Rattle.sf_prim.proofs.chain.function_link.Goals as goal

pub returns-then-is_arithmetic-clause-number : goal.returns-then-is_arithmetic-clause-number
returns-then-is_arithmetic-clause-number c = λ h. (_, refl)
