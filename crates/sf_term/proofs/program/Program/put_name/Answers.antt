use Rattle.std.proofs.Common.{◌↔◌, List, ℕ, refl, subst, arith, IsTrue, string_bytes}
use Rattle.sf_arena.specs.Arenas.{entries_of}
use Rattle.sf_lex.specs.Words.{IsName}
use Rattle.sf_term.specs.Arena.{lists_of, headers_of, next_arguments}
use Rattle.sf_term.proofs.Entered.{arena_with, name_grown_by, same_lists}
use Rattle.sf_term.proofs.Extended.{name_beside, put_beside, unchanged, same_self}
use Rattle.sf_term.proofs.Refused.{hands_on, still_room}
use Rattle.sf_term.proofs.program.Program.put_name.Goals as goal

pub invariant_of-self : goal.invariant_of-self
invariant_of-self c =
    let p = c.args.self.now in
    let x = p.expressions in
    record {
      arena = arena_with x c.name.new.self (lists_of p) (entries_of p.terms) (name_grown_by x c.name.new.self c.name.result (string_bytes c.args.name) c.name.ensures.ok c.name.ensures.err) p.arena;
      bodies = p.bodies;
    }

pub returns-in_err-room-clause-refused : goal.returns-in_err-room-clause-refused
returns-in_err-room-clause-refused c = hands_on _ _ _ _ c.from_residual.result _ c.from_residual.ensures.1 c.in_err-room.ensures refl (omega (arith, c.saturating_add.ensures)) (subst (λ (w : List ℕ). IsTrue c.is_name.result ↔ IsName w) c.as_bytes.ensures.value c.is_name.ensures)

pub returns-in_err-room-clause-same : goal.returns-in_err-room-clause-same
returns-in_err-room-clause-same c = same_self c.args.self.now

pub returns-in-Ok-clause-refused : goal.returns-in-Ok-clause-refused
returns-in-Ok-clause-refused c = still_room _ _ _ _ _ _ c.in_ok-room.ensures refl (omega (arith, c.saturating_add.ensures)) (subst (λ (w : List ℕ). IsTrue c.is_name.result ↔ IsName w) c.as_bytes.ensures.value c.is_name.ensures) tt

pub returns-in-Ok-clause-same : goal.returns-in-Ok-clause-same
unfolding headers_of
returns-in-Ok-clause-same c = put_beside c.args.self.now _ (name_beside _ _ _ _ c.in-Ok.ensures.ok) (same_lists _) refl refl

pub returns-in-Err-clause-refused : goal.returns-in-Err-clause-refused
returns-in-Err-clause-refused c = still_room _ _ _ _ _ _ c.in_ok-room.ensures refl (omega (arith, c.saturating_add.ensures)) (subst (λ (w : List ℕ). IsTrue c.is_name.result ↔ IsName w) c.as_bytes.ensures.value c.is_name.ensures) refl

pub returns-in-Err-clause-same : goal.returns-in-Err-clause-same
unfolding headers_of
returns-in-Err-clause-same c = unchanged c.args.self.now _ c.in-Err.ensures.err (same_lists _) refl refl

pub returns-in-Ok-clause-arguments : goal.returns-in-Ok-clause-arguments
unfolding next_arguments
returns-in-Ok-clause-arguments c = refl

pub returns-in-Err-clause-arguments : goal.returns-in-Err-clause-arguments
unfolding next_arguments
returns-in-Err-clause-arguments c = refl
