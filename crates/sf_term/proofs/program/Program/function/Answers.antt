use Rattle.std.proofs.Common.{refl, arith}
use Rattle.sf_arena.specs.Arenas.{entries_of}
use Rattle.sf_term.specs.Arena.{lists_of, headers_of, program_expression, program_expressions}
use Rattle.sf_term.proofs.Entered.{arena_with, function_grown_by, same_lists}
use Rattle.sf_term.proofs.Extended.{adds_function, unchanged, same_self}
use Rattle.sf_term.proofs.Refused.{builds_none, still_room}
use Rattle.sf_term.proofs.program.Program.function.Goals as goal

pub returns-in_err-room : goal.returns-in_err-room
unfolding program_expression
returns-in_err-room c = builds_none _ _ _ _ _ _ c.from_residual.result _ c.from_residual.ensures.1 c.in_err-room.ensures refl (omega (arith, c.max-depth.ensures, c.depth.ensures, c.depth-2.ensures.value)) c.has_names.ensures (same_self c.args.self.now)

pub function-requires : goal.function-requires
unfolding program_expressions
function-requires c = c.requires

pub invariant_of-self : goal.invariant_of-self
invariant_of-self c =
    let p = c.args.self.now in
    let x = p.expressions in
    record {
      arena = arena_with x c.function.new.self (lists_of p) (entries_of p.terms) (function_grown_by x c.function.new.self c.function.result c.args.pattern c.args.body c.function.ensures.ok c.function.ensures.err) p.arena;
      bodies = p.bodies;
    }

pub returns-in-Ok : goal.returns-in-Ok
unfolding headers_of program_expression
returns-in-Ok c = record {
  ok = adds_function c.args.self.now _ _ _ _ c.in-Ok.ensures.ok (same_lists _) refl refl;
  refused = still_room _ _ _ _ _ _ c.in_ok-room.ensures refl (omega (arith, c.max-depth.ensures, c.depth.ensures, c.depth-2.ensures.value)) c.has_names.ensures tt;
  err = tt;
}

pub returns-in-Err : goal.returns-in-Err
unfolding headers_of program_expression
returns-in-Err c = record {
  ok = tt;
  refused = still_room _ _ _ _ _ _ c.in_ok-room.ensures refl (omega (arith, c.max-depth.ensures, c.depth.ensures, c.depth-2.ensures.value)) c.has_names.ensures refl;
  err = unchanged c.args.self.now _ c.in-Err.ensures.err (same_lists _) refl refl;
}
