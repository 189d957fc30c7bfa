use Rattle.std.proofs.Common.{refl, arith}
use Rattle.sf_arena.specs.Arenas.{entries_of}
use Rattle.sf_term.specs.Arena.{lists_of, headers_of}
use Rattle.sf_term.proofs.Entered.{arena_with, pattern_grown_by, same_lists}
use Rattle.sf_term.proofs.Extended.{pattern_beside, put_beside, unchanged, same_self}
use Rattle.sf_term.proofs.Refused.{hands_on, still_room}
use Rattle.sf_term.proofs.program.Program.put_pattern.Goals as goal

pub invariant_of-self : goal.invariant_of-self
invariant_of-self c =
    let p = c.args.self.now in
    let x = p.expressions in
    record {
      arena = arena_with x c.pattern_in.new.self (lists_of p) (entries_of p.terms) (pattern_grown_by x c.pattern_in.new.self c.pattern_in.result c.args.pattern c.pattern_in.ensures.ok c.pattern_in.ensures.err) p.arena;
      bodies = p.bodies;
    }

pub returns-in_err-room-clause-refused : goal.returns-in_err-room-clause-refused
returns-in_err-room-clause-refused c = hands_on _ _ _ _ c.from_residual.result _ c.from_residual.ensures.1 c.in_err-room.ensures refl (omega (arith, c.saturating_add-depth.ensures, c.max.ensures, c.depth.ensures)) c.has_names.ensures

pub returns-in_err-room-clause-same : goal.returns-in_err-room-clause-same
returns-in_err-room-clause-same c = same_self c.args.self.now

pub returns-in-Ok-clause-refused : goal.returns-in-Ok-clause-refused
returns-in-Ok-clause-refused c = still_room _ _ _ _ _ _ c.in_ok-room.ensures refl (omega (arith, c.saturating_add-depth.ensures, c.max.ensures, c.depth.ensures)) c.has_names.ensures tt

pub returns-in-Ok-clause-same : goal.returns-in-Ok-clause-same
unfolding headers_of
returns-in-Ok-clause-same c = put_beside c.args.self.now _ (pattern_beside _ _ _ _ c.in-Ok.ensures.ok) (same_lists _) refl refl

pub returns-in-Err-clause-refused : goal.returns-in-Err-clause-refused
returns-in-Err-clause-refused c = still_room _ _ _ _ _ _ c.in_ok-room.ensures refl (omega (arith, c.saturating_add-depth.ensures, c.max.ensures, c.depth.ensures)) c.has_names.ensures refl

pub returns-in-Err-clause-same : goal.returns-in-Err-clause-same
unfolding headers_of
returns-in-Err-clause-same c = unchanged c.args.self.now _ c.in-Err.ensures.err (same_lists _) refl refl
