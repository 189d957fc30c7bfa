use Rattle.std.proofs.Common.{◌∙◌, List, subst, sym}
use Rattle.sf_expr.specs.Expressions.{Literal}
use Rattle.sf_expr.specs.Entries.{AreValued, AreShallowPatterns}
use Rattle.sf_expr.specs.Patterns.{PlacedPattern}
use Rattle.sf_expr.proofs.Entered.{unchanged, arena_same, same_sides}
use Rattle.sf_expr.proofs.exprs.Exprs.clone_in.Goals as goal

pub invariant_of-result : goal.invariant_of-result
invariant_of-result c =
    let x = c.args.self.now in
    let names = c.in_ok-names.ensures ∙ c.deref.ensures.value in
    let constants = c.in_ok-constants.ensures ∙ c.deref-2.ensures.value in
    let patterns = c.in_ok-patterns.ensures ∙ c.deref-3.ensures.value in
    let same = arena_same x _ _ _ (same_sides _ _ _ _ _ _ names constants patterns) c.in_ok-arena.ensures (c.in_ok-functions.ensures ∙ c.deref-4.ensures.value) in
    record {
      ordered = same.0;
      valued = subst (λ (ls : List Literal). AreValued ls) (sym constants) x.valued;
      shallow = subst (λ (ps : List PlacedPattern). AreShallowPatterns ps) (sym patterns) x.shallow;
      closed = same.1;
    }

pub returns : goal.returns
returns c = unchanged _ _ c.in_ok-arena.ensures (c.in_ok-names.ensures ∙ c.deref.ensures.value) (c.in_ok-constants.ensures ∙ c.deref-2.ensures.value) (c.in_ok-patterns.ensures ∙ c.deref-3.ensures.value) (c.in_ok-functions.ensures ∙ c.deref-4.ensures.value)
