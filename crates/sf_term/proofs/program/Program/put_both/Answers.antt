use Rattle.std.proofs.Common.{◌↔◌, List, ℕ, refl, subst, arith, IsTrue, string_bytes}
use Rattle.sf_arena.specs.Arenas.{entries_of}
use Rattle.sf_lex.specs.Words.{IsName}
use Rattle.sf_expr.specs.Patterns.{pattern_of}
use Rattle.sf_term.specs.Names.{HasNames}
use Rattle.sf_term.specs.Arena.{lists_of, headers_of, program_expressions}
use Rattle.sf_term.proofs.Entered.{arena_with, grown_trans, name_grown_by, pattern_grown_by, unchanged_grown, same_lists}
use Rattle.sf_term.proofs.Extended.{name_and_pattern, name_beside, pattern_beside, beside_trans, unchanged_beside, put_beside, unchanged, same_self}
use Rattle.sf_term.proofs.Refused.{hands_on, still_room}
use Rattle.sf_term.proofs.program.Program.put_both.Goals as goal

pub invariant_of-self : goal.invariant_of-self
invariant_of-self c =
    let p = c.args.self.now in
    let x = p.expressions in
    let y = c.name.new.self in
    let z = c.pattern_in.new.self in
    record {
      arena = arena_with x z (lists_of p) (entries_of p.terms) (grown_trans x y z (name_grown_by x y c.name.result (string_bytes c.args.name) c.name.ensures.ok c.name.ensures.err) (pattern_grown_by y z c.pattern_in.result c.args.pattern c.pattern_in.ensures.ok c.pattern_in.ensures.err)) p.arena;
      bodies = p.bodies;
    }

pub invariant_of-self-in-Err : goal.invariant_of-self-in-Err
invariant_of-self-in-Err c =
    let p = c.args.self.now in
    record {
      arena = arena_with p.expressions c.name.new.self (lists_of p) (entries_of p.terms) (unchanged_grown p.expressions c.name.new.self c.in-Err.ensures.err) p.arena;
      bodies = p.bodies;
    }

pub returns-in_err-room-clause-refused : goal.returns-in_err-room-clause-refused
returns-in_err-room-clause-refused c = hands_on _ _ _ _ c.from_residual.result _ c.from_residual.ensures.1 c.in_err-room.ensures refl (omega (arith, c.saturating_add-depth.ensures, c.max.ensures, c.depth.ensures)) (subst (λ (w : List ℕ). IsTrue c.are_both_named.result ↔ IsName w × HasNames (pattern_of c.args.pattern)) c.as_bytes.ensures.value c.are_both_named.ensures)

pub returns-in_err-room-clause-same : goal.returns-in_err-room-clause-same
returns-in_err-room-clause-same c = same_self c.args.self.now

pub returns-in-Ok-pattern_in-clause-ok : goal.returns-in-Ok-pattern_in-clause-ok
unfolding program_expressions
returns-in-Ok-pattern_in-clause-ok c = name_and_pattern _ _ _ _ _ _ _ c.in-Ok.ensures.ok c.in-Ok-pattern_in.ensures.ok

pub returns-in-Ok-pattern_in-clause-refused : goal.returns-in-Ok-pattern_in-clause-refused
returns-in-Ok-pattern_in-clause-refused c = still_room _ _ _ _ _ _ c.in_ok-room.ensures refl (omega (arith, c.saturating_add-depth.ensures, c.max.ensures, c.depth.ensures)) (subst (λ (w : List ℕ). IsTrue c.are_both_named.result ↔ IsName w × HasNames (pattern_of c.args.pattern)) c.as_bytes.ensures.value c.are_both_named.ensures) tt

pub returns-in-Ok-pattern_in-clause-same : goal.returns-in-Ok-pattern_in-clause-same
unfolding headers_of
returns-in-Ok-pattern_in-clause-same c = put_beside c.args.self.now _ (beside_trans _ _ _ (name_beside _ _ _ _ c.in-Ok.ensures.ok) (pattern_beside _ _ _ _ c.in-Ok-pattern_in.ensures.ok)) (same_lists _) refl refl

pub returns-in-Err-pattern_in-clause-refused : goal.returns-in-Err-pattern_in-clause-refused
returns-in-Err-pattern_in-clause-refused c = still_room _ _ _ _ _ _ c.in_ok-room.ensures refl (omega (arith, c.saturating_add-depth.ensures, c.max.ensures, c.depth.ensures)) (subst (λ (w : List ℕ). IsTrue c.are_both_named.result ↔ IsName w × HasNames (pattern_of c.args.pattern)) c.as_bytes.ensures.value c.are_both_named.ensures) refl

pub returns-in-Err-pattern_in-clause-same : goal.returns-in-Err-pattern_in-clause-same
unfolding headers_of
returns-in-Err-pattern_in-clause-same c = put_beside c.args.self.now _ (beside_trans _ _ _ (name_beside _ _ _ _ c.in-Ok.ensures.ok) (unchanged_beside _ _ c.in-Err-pattern_in.ensures.err)) (same_lists _) refl refl

pub returns-in-Err-clause-refused : goal.returns-in-Err-clause-refused
returns-in-Err-clause-refused c = still_room _ _ _ _ _ _ c.in_ok-room.ensures refl (omega (arith, c.saturating_add-depth.ensures, c.max.ensures, c.depth.ensures)) (subst (λ (w : List ℕ). IsTrue c.are_both_named.result ↔ IsName w × HasNames (pattern_of c.args.pattern)) c.as_bytes.ensures.value c.are_both_named.ensures) refl

pub returns-in-Err-clause-same : goal.returns-in-Err-clause-same
unfolding headers_of
returns-in-Err-clause-same c = unchanged c.args.self.now _ c.in-Err.ensures.err (same_lists _) refl refl
