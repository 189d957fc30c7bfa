use Rattle.std.proofs.Common.{arith}
use Rattle.sf_expr.specs.declared.exprs.NameId.{NameId}
use Rattle.sf_expr.specs.declared.exprs.PatternId.{PatternId}
use Rattle.sf_term.specs.declared.node.Node.TheVariants as nodes
use Rattle.sf_term.specs.Arena.{program_expressions, term_count}
use Rattle.sf_term.proofs.Extended.{editing_made, term_follows, both_there, unchanged_keeps, collection_at_kept}
use Rattle.sf_term.proofs.Refused.{builds_none, itself}
use Rattle.sf_term.proofs.program.Program.editing.Goals as goal

pub add-requires : goal.add-requires
unfolding program_expressions
add-requires c =
    let put = c.in_ok-name.ensures.ok in
    let kept = (unchanged_keeps c.args.self.now _ c.in_ok-name.ensures.same).trees in
    ((collection_at_kept c.args.self.now _ c.args.members kept c.requires.members_held).1, put.holds_name, put.holds_pattern, (collection_at_kept c.args.self.now _ c.args.edit kept c.requires.edit_held).1)

pub returns-in_err-name-clause-builds : goal.returns-in_err-name-clause-builds
unfolding term_count
returns-in_err-name-clause-builds c = builds_none _ _ _ _ _ _ c.from_residual.result _ c.from_residual.ensures.1 c.in_err-name.ensures.refused c.len-count.ensures (omega (arith, c.max-parts.ensures, c.depth_under.ensures, c.depth_under-2.ensures)) itself c.in_err-name.ensures.same

pub returns-clause-builds : goal.returns-clause-builds
unfolding program_expressions
returns-clause-builds c =
    let put = c.in_ok-name.ensures in
    term_follows {I = NameId × PatternId} c.args.self.now _ _ c.add.result _ _ (λ (k : NameId × PatternId). nodes.Editing (record { shown = c.args.shown; members = c.args.members; name = k.0; place = c.args.place; pattern = k.1; edit = c.args.edit })) _ c.args.spot put.refused.room.2 put.ok.next put.same
    (editing_made _ _ _ _ _ c.args.shown c.args.members c.args.edit c.args.place c.requires.members_held c.requires.edit_held put.ok put.same) c.add.ensures

pub returns-clause-placed : goal.returns-clause-placed
unfolding program_expressions
returns-clause-placed c = both_there c.args.self.now _ _ c.add.result _ _ _ _ _ _ c.in_ok-name.ensures.ok c.add.ensures.ok
