use Rattle.std.proofs.Common.{ap, arith, string_bytes}
use Rattle.sf_expr.specs.declared.exprs.NameId.{NameId}
use Rattle.sf_term.specs.declared.node.Node.TheVariants as nodes
use Rattle.sf_term.specs.Trees.{named_term}
use Rattle.sf_term.specs.Arena.{program_expressions, term_count}
use Rattle.sf_term.proofs.Extended.{term_follows, named_depth}
use Rattle.sf_term.proofs.Refused.{builds_none, itself}
use Rattle.sf_term.proofs.program.Program.named.Goals as goal

pub add-requires : goal.add-requires
unfolding program_expressions
add-requires c = c.in_ok-name.ensures.ok.within

pub returns-in_err-name : goal.returns-in_err-name
unfolding term_count
returns-in_err-name c = builds_none _ _ _ _ _ _ c.from_residual.result _ c.from_residual.ensures.1 c.in_err-name.ensures.refused c.len-count.ensures (omega (arith, named_depth c.args.form (string_bytes c.args.name))) itself c.in_err-name.ensures.same

pub returns : goal.returns
unfolding program_expressions
returns c =
    let put = c.in_ok-name.ensures in
    term_follows c.args.self.now _ _ c.add.result _ _ (λ (n : NameId). nodes.Named c.args.form n c.args.place) _ c.args.spot put.refused.room.2 put.ok.next put.same (ap (named_term c.args.form) put.ok.is) c.add.ensures
