use Rattle.std.proofs.Common.{refl, ap, ◌∙◌}
use Rattle.sf_expr.specs.declared.exprs.ConstantId.{ConstantId}
use Rattle.sf_term.specs.declared.node.Node.TheVariants as nodes
use Rattle.sf_term.specs.declared.node.Primitive.TheVariants as primitives
use Rattle.sf_term.specs.Trees.{primitive, never}
use Rattle.sf_term.specs.Entries.{absent_payload}
use Rattle.sf_term.specs.Arena.{program_expressions, term_count}
use Rattle.sf_term.proofs.Extended.{term_follows}
use Rattle.sf_term.proofs.Refused.{builds_none, itself}
use Rattle.sf_term.proofs.program.Program.never.Goals as goal

pub add-requires : goal.add-requires
unfolding program_expressions
add-requires c = c.in_ok-constant.ensures.ok.within

pub returns-in_err-constant : goal.returns-in_err-constant
unfolding term_count
returns-in_err-constant c = builds_none _ _ _ _ _ _ c.from_residual.result _ c.from_residual.ensures.1 c.in_err-constant.ensures.refused c.len-count.ensures refl itself c.in_err-constant.ensures.same

pub returns : goal.returns
unfolding program_expressions
returns c =
    let put = c.in_ok-constant.ensures in
    term_follows c.args.self.now _ _ c.add.result _ _ (λ (n : ConstantId). nodes.Primitive (primitives.Never n)) _ c.args.spot tt put.ok.next put.same (ap (λ l. primitive (never (absent_payload l))) (put.ok.is ∙ c.no_event.ensures)) c.add.ensures
