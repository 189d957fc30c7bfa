use Rattle.std.proofs.Common.{List, All, ap, sym, subst, arith}
use Rattle.sf_term.specs.declared.node.Argument.{Argument}
use Rattle.sf_term.specs.Trees.{arguments_depth}
use Rattle.sf_term.specs.Arena.{program_expressions, term_count, HoldsArgument, arguments_of}
use Rattle.sf_term.proofs.Extended.{puts_call, call_follows, arguments_there, held_after, unchanged_trans}
use Rattle.sf_term.proofs.Refused.{builds_none, builds_starved, itself}
use Rattle.sf_term.proofs.program.Program.call.Goals as goal

pub add-requires : goal.add-requires
unfolding program_expressions
add-requires c =
    let put = puts_call c.args.self.now _ _ _ _ _ _ c.requires c.in_ok-name.ensures.ok c.in_ok-name.ensures.same c.in_ok-name.ensures.arguments c.in_ok-arguments.ensures.next c.in_ok-arguments.ensures.within c.in_ok-arguments.ensures.is c.in_ok-arguments.ensures.same c.in_ok-arguments.ensures.expressions in
    (put.name_within, put.arguments_within, subst (λ (vs : List Argument). All (HoldsArgument c.place_arguments.new.self) vs) (sym put.arguments_are) (held_after c.args.self.now _ _ put.same c.requires))

pub returns-in_err-name-clause-builds : goal.returns-in_err-name-clause-builds
unfolding term_count
returns-in_err-name-clause-builds c = builds_none _ _ _ _ _ _ c.from_residual.result _ c.from_residual.ensures.1 c.in_err-name.ensures.refused c.len-count.ensures (omega (arith, c.depth_in-parts.ensures, ap (λ (vs : List Argument). arguments_depth (arguments_of c.args.self.now vs)) c.deref.ensures.value)) itself c.in_err-name.ensures.same

pub returns-in_err-arguments-clause-builds : goal.returns-in_err-arguments-clause-builds
unfolding term_count
returns-in_err-arguments-clause-builds c =
    builds_starved _ _ _ _ _ _ _ c.from_residual-in_err-arguments.result _ c.from_residual-in_err-arguments.ensures.1 c.in_err-arguments.ensures.memory c.in_ok-name.ensures.refused c.len-count.ensures (omega (arith, c.depth_in-parts.ensures, ap (λ (vs : List Argument). arguments_depth (arguments_of c.args.self.now vs)) c.deref.ensures.value)) itself
    (unchanged_trans _ _ _ c.in_ok-name.ensures.same c.in_err-arguments.ensures.same)

pub returns-clause-builds : goal.returns-clause-builds
unfolding program_expressions
returns-clause-builds c =
    call_follows c.args.self.now _ _ c.add.result _ _ _ _ c.args.spot c.in_ok-name.ensures.refused.room.2 (puts_call c.args.self.now _ _ _ _ _ _ c.requires c.in_ok-name.ensures.ok c.in_ok-name.ensures.same c.in_ok-name.ensures.arguments c.in_ok-arguments.ensures.next c.in_ok-arguments.ensures.within c.in_ok-arguments.ensures.is c.in_ok-arguments.ensures.same c.in_ok-arguments.ensures.expressions) c.add.ensures

pub returns-clause-placed : goal.returns-clause-placed
unfolding program_expressions
returns-clause-placed c =
    arguments_there c.args.self.now _ _ c.add.result _ _ _ _ _ _ (puts_call c.args.self.now _ _ _ _ _ _ c.requires c.in_ok-name.ensures.ok c.in_ok-name.ensures.same c.in_ok-name.ensures.arguments c.in_ok-arguments.ensures.next c.in_ok-arguments.ensures.within c.in_ok-arguments.ensures.is c.in_ok-arguments.ensures.same c.in_ok-arguments.ensures.expressions) c.add.ensures.ok
