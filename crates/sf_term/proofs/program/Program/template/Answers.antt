use Rattle.std.proofs.Common.{◌↔◌, ℕ, IsTrue, subst, List, ◌∙◌, ◌++◌, ◌∷◌, [], ap, refl, arith, string_bytes}
use Rattle.sf_lex.specs.Words.{IsName}
use Rattle.sf_term.specs.declared.refusal.BuildRefusal.TheVariants.{Memory}
use Rattle.sf_term.specs.Names.{AreNamed}
use Rattle.sf_term.specs.Parameters.{PlacedParameter}
use Rattle.sf_term.specs.Headers.{Header}
use Rattle.sf_term.specs.Arena.{headers_of, HoldsTerm}
use Rattle.sf_term.proofs.Entered.{same_lists}
use Rattle.sf_term.proofs.Extended.{bodies_put, adds_template, unchanged, same_expressions, same_self}
use Rattle.sf_term.proofs.Refused.{builds_none, builds_starved, still_room}
use Rattle.sf_term.proofs.program.Program.template.Goals as goal

pub invariant_of-self : goal.invariant_of-self
unfolding HoldsTerm
invariant_of-self c =
    let p = c.args.self.now in
    let body = ap (λ (h : Header). h.body.0) c.new.ensures in
    record {
      arena = p.arena;
      bodies = bodies_put p.templates.items c.push.new.self.items c.new.result _ _ c.push.ensures.items p.bodies (omega (arith, body, c.requires));
    }

pub returns-in_err-room : goal.returns-in_err-room
returns-in_err-room c = builds_none _ _ _ _ _ _ c.from_residual.result _ c.from_residual.ensures.1 c.in_err-room.ensures refl refl (subst (λ (w : List ℕ). IsTrue c.are_all_named.result ↔ IsName w × AreNamed c.args.parameters.items) c.as_bytes.ensures.value (subst (λ (qs : List PlacedParameter). IsTrue c.are_all_named.result ↔ IsName c.as_bytes.result.now × AreNamed qs) c.deref.ensures.value c.are_all_named.ensures)) (same_self c.args.self.now)

pub returns-in_err-push : goal.returns-in_err-push
unfolding headers_of
returns-in_err-push c =
    let p = c.args.self.now in
    builds_starved _ _ _ _ _ _ _ c.from_residual-in_err-push.result Memory c.from_residual-in_err-push.ensures.1 refl c.in_ok-room.ensures refl refl (subst (λ (w : List ℕ). IsTrue c.are_all_named.result ↔ IsName w × AreNamed c.args.parameters.items) c.as_bytes.ensures.value (subst (λ (qs : List PlacedParameter). IsTrue c.are_all_named.result ↔ IsName c.as_bytes.result.now × AreNamed qs) c.deref.ensures.value c.are_all_named.ensures))
    (unchanged p _ (same_expressions p.expressions) (same_lists _) refl c.in_err-push.ensures.items)

pub returns : goal.returns
unfolding headers_of
returns c =
    let p = c.args.self.now in
    let h : Header = record { name = string_bytes c.args.name; spot = c.args.spot; parameters = c.args.parameters.items; input = c.args.input; output = c.args.output; body = c.args.body } in
    record {
      ok = adds_template p _ h refl (same_lists _) refl (◌∙◌ {A = List Header} c.in_ok-push.ensures.items (ap (λ (t : Header). p.templates.items ++ t ∷ []) c.new.ensures)) c.requires;
      refused = still_room _ _ _ _ _ _ c.in_ok-room.ensures refl refl (subst (λ (w : List ℕ). IsTrue c.are_all_named.result ↔ IsName w × AreNamed c.args.parameters.items) c.as_bytes.ensures.value (subst (λ (qs : List PlacedParameter). IsTrue c.are_all_named.result ↔ IsName c.as_bytes.result.now × AreNamed qs) c.deref.ensures.value c.are_all_named.ensures)) tt;
      err = tt;
    }
