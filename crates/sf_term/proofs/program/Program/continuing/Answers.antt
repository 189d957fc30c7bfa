use Rattle.std.proofs.Common.{arith}
use Rattle.sf_expr.specs.declared.exprs.NameId.{NameId}
use Rattle.sf_expr.specs.declared.exprs.PatternId.{PatternId}
use Rattle.sf_term.specs.declared.node.Node.TheVariants as nodes
use Rattle.sf_term.specs.Arena.{program_expressions, term_count}
use Rattle.sf_term.proofs.Extended.{continuing_made, term_follows, both_there, unchanged_keeps}
use Rattle.sf_term.proofs.Refused.{builds_none, itself}
use Rattle.sf_term.proofs.program.Program.continuing.Goals as goal

pub add-requires : goal.add-requires
unfolding program_expressions
add-requires c =
    let put = c.in_ok-name.ensures.ok in
    let kept = (unchanged_keeps c.args.self.now _ c.in_ok-name.ensures.same).trees in
    (kept.terms c.args.source c.requires.source_held, kept.terms c.args.observer c.requires.observer_held, put.holds_name, put.holds_pattern, kept.terms c.args.body c.requires.body_held)

pub returns-in_err-name-clause-builds : goal.returns-in_err-name-clause-builds
unfolding term_count
returns-in_err-name-clause-builds c = builds_none _ _ _ _ _ _ c.from_residual.result _ c.from_residual.ensures.1 c.in_err-name.ensures.refused c.len-count.ensures (omega (arith, c.max-parts.ensures, c.max-watched.ensures, c.depth.ensures.value, c.depth-2.ensures.value, c.depth-3.ensures.value)) itself c.in_err-name.ensures.same

pub returns-clause-builds : goal.returns-clause-builds
unfolding program_expressions
returns-clause-builds c =
    let put = c.in_ok-name.ensures in
    term_follows {I = NameId × PatternId} c.args.self.now _ _ c.add.result _ _ (λ (k : NameId × PatternId). nodes.Continuation (record { shown = c.args.form; source = c.args.source; observer = c.args.observer; name = k.0; place = c.args.place; pattern = k.1; body = c.args.body })) _ c.args.spot put.refused.room.2 put.ok.next put.same
    (continuing_made _ _ _ _ _ c.args.form c.args.source c.args.observer c.args.body c.args.place put.ok put.same) c.add.ensures

pub returns-clause-placed : goal.returns-clause-placed
unfolding program_expressions
returns-clause-placed c = both_there c.args.self.now _ _ c.add.result _ _ _ _ _ _ c.in_ok-name.ensures.ok c.add.ensures.ok
