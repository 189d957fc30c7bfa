use Rattle.std.proofs.Common.{refl}
use Rattle.sf_arena.specs.Arenas.{entries_of}
use Rattle.sf_expr.specs.Arena.{node_expression}
use Rattle.sf_term.specs.Arena.{lists_of, headers_of, program_expressions, expression_count}
use Rattle.sf_term.proofs.Entered.{arena_with, grown_by, same_lists}
use Rattle.sf_term.proofs.Extended.{adds_expression, unchanged}
use Rattle.sf_term.proofs.Refused.{arena_took, arena_refused}
use Rattle.sf_term.proofs.program.Program.add_expression.Goals as goal

pub invariant_of-self : goal.invariant_of-self
invariant_of-self c =
    let p = c.args.self.now in
    let x = p.expressions in
    record {
      arena = arena_with x c.add.new.self (lists_of p) (entries_of p.terms) (grown_by x c.add.new.self c.add.result c.args.node (node_expression x c.args.node) c.args.spot c.add.ensures.ok c.add.ensures.err) p.arena;
      bodies = p.bodies;
    }

pub add-requires : goal.add-requires
unfolding program_expressions
add-requires c = c.requires

pub returns-in-Ok : goal.returns-in-Ok
unfolding headers_of program_expressions expression_count
returns-in-Ok c = record {
  ok = adds_expression c.args.self.now _ _ _ _ _ c.in-Ok.ensures.ok (same_lists _) refl refl;
  refused = arena_took _ _ _ _ _ c.in-Ok.ensures.many c.in-Ok.ensures.deep refl;
  err = tt;
}

pub returns-in-Err : goal.returns-in-Err
unfolding headers_of program_expressions expression_count
returns-in-Err c = record {
  ok = tt;
  refused = arena_refused _ _ _ _ _ c.from.ensures c.in-Err.ensures.many c.in-Err.ensures.deep refl;
  err = unchanged c.args.self.now _ c.in-Err.ensures.err (same_lists _) refl refl;
}
