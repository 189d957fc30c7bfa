use Rattle.std.proofs.Common.{subst, w64}
use Rattle.std.specs.Prelude.{ℤ}
use Rattle.std.proofs.lemmas.Int.{to_z-of_z}
use Rattle.sf_term.specs.declared.node.Primitive.TheVariants.{Selected}
use Rattle.sf_term.specs.Arena.{program_expressions}
use Rattle.sf_expr.specs.Judging.{GivesFound}
use Rattle.sf_check.specs.Contexts.{context_in}
use Rattle.sf_check.specs.Judging.{primitive_judged}
use Rattle.sf_check.proofs.Judging.{bare_answers}
use Rattle.sf_check.proofs.typing.primitive_output.Goals as goal

pub returns-in-Bare : goal.returns-in-Bare
returns-in-Bare c = rw c.in-Bare.is (bare_answers c.args.spot c.in-Bare.kind c.args.input.now _ c.bare_output.ensures)

pub returns-in-Selected : goal.returns-in-Selected
returns-in-Selected c =
    let x = program_expressions c.args.context.now.program.now in
    let Γ = context_in c.args.context.now in
    rw c.in-Selected.is (subst (λ (n : ℤ). GivesFound c.selected_output.result (primitive_judged x c.args.spot (Selected c.in-Selected.field-0 n) Γ c.args.input.now)) (to_z-of_z w64 c.in-Selected.count search) (c.selected_output.ensures x Γ c.in-Selected.field-0))
