use Rattle.std.proofs.Common.{◌∷◌}
use Rattle.std.specs.Prelude.{option_to_list}
use Rattle.std.specs.Int.{w64}
use Rattle.std.proofs.lemmas.Int.{to_z-of_z}
use Rattle.sf_value.specs.Values.{number}
use Rattle.sf_code.specs.CodeView.{code_of}
use Rattle.sf_code.proofs.Operands.{computes_operation}
use Rattle.sf_code.proofs.arithmetic.+calculated.Goals as goal

pub operation-returns : goal.operation-returns
operation-returns t c = rw c.in-Arithmetic.is (λ f.
    let own = to_z-of_z w64 c.args.number c.ranges.number in
    computes_operation c.in-Arithmetic.operator (code_of c.args.left.now) (code_of c.args.right.now) (number c.args.number ∷ option_to_list c.args.around.now) f c.in_ok-left.left c.in_ok-right.right c.calculate.result (rw own at (c.in_ok-left.ensures f))
    (rw own at (c.in_ok-right.ensures f)) (rw (to_z-of_z w64 c.in_ok-left.left search, to_z-of_z w64 c.in_ok-right.right search) at c.calculate.ensures))
