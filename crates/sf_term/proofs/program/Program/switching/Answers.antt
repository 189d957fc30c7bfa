use Rattle.std.proofs.Common.{arith}
use Rattle.sf_expr.specs.declared.exprs.PatternId.{PatternId}
use Rattle.sf_term.specs.declared.node.Node.TheVariants as nodes
use Rattle.sf_term.specs.Arena.{program_expressions, term_count}
use Rattle.sf_term.proofs.Extended.{switch_made, term_follows, term_pattern_there, unchanged_keeps}
use Rattle.sf_term.proofs.Refused.{builds_none, itself}
use Rattle.sf_term.proofs.program.Program.switching.Goals as goal

pub add-requires : goal.add-requires
unfolding program_expressions
add-requires c =
    let kept = (unchanged_keeps _ _ c.in_ok-pattern.ensures.same).trees in
    (kept.terms c.args.source c.requires.source_held, c.in_ok-pattern.ensures.ok.within, kept.terms c.args.body c.requires.body_held)

pub returns-in_err-pattern-clause-builds : goal.returns-in_err-pattern-clause-builds
unfolding term_count
returns-in_err-pattern-clause-builds c = builds_none _ _ _ _ _ _ c.from_residual.result _ c.from_residual.ensures.1 c.in_err-pattern.ensures.refused c.len-count.ensures (omega (arith, c.max-parts.ensures, c.depth.ensures.value, c.depth-2.ensures.value)) itself c.in_err-pattern.ensures.same

pub returns-clause-builds : goal.returns-clause-builds
unfolding program_expressions
returns-clause-builds c =
    let put = c.in_ok-pattern.ensures in
    term_follows c.args.self.now _ _ c.add.result _ _ (λ (q : PatternId). nodes.Switching (record { form = c.args.form; source = c.args.source; pattern = q; body = c.args.body })) _ c.args.spot put.refused.room.2 put.ok.next put.same
    (switch_made _ _ _ _ c.args.form c.args.source c.args.body put.ok put.same) c.add.ensures

pub returns-clause-placed : goal.returns-clause-placed
unfolding program_expressions
returns-clause-placed c = let put = c.in_ok-pattern.ensures.ok in term_pattern_there c.args.self.now _ _ c.add.result _ _ _ _ _ put.next put.within put.is c.add.ensures.ok
