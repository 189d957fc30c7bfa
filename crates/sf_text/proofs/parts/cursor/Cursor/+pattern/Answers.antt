use Rattle.std.proofs.Common.{[], ◌∷◌, sym, subst}
use Rattle.sf_expr.specs.Patterns.{PlacedPattern}
use Rattle.sf_grammar.specs.Placing.{around, PatternPlaced, unnamed_placed, name_placed, both_placed}
use Rattle.sf_text.proofs.Parsing.Placed.{first_alone, in_brackets_read}
use Rattle.sf_text.proofs.parts.cursor.Cursor.+pattern.Goals as goal

pub pattern_form-returns-in-Keyword-Underscore-clause-placed : goal.pattern_form-returns-in-Keyword-Underscore-clause-placed
pattern_form-returns-in-Keyword-Underscore-clause-placed t c =
    first_alone c.in_ok-token.ensures.placed (subst (λ (p : PlacedPattern). PatternPlaced p (c.in_ok-token.field-0.start.spot ∷ [])) (sym c.unnamed.ensures) unnamed_placed)

pub pattern_form-returns-in_ok-name-in-Name-clause-placed : goal.pattern_form-returns-in_ok-name-in-Name-clause-placed
pattern_form-returns-in_ok-name-in-Name-clause-placed t c =
    first_alone c.in_ok-token.ensures.placed (subst (λ (p : PlacedPattern). PatternPlaced p (c.in_ok-token.field-0.start.spot ∷ [])) (sym c.name.ensures) name_placed)

pub pattern_pair-returns-clause-placed : goal.pattern_pair-returns-clause-placed
pattern_pair-returns-clause-placed t c = λ at.
    in_brackets_read c.in_ok-first.ensures.placed c.in_ok-symbol.ensures.behind c.in_ok-second.ensures.placed c.in_ok-symbol-2.ensures.behind (λ comma closing xs ys p q.
    subst (λ (r : PlacedPattern). PatternPlaced r (around at xs comma ys closing)) (sym c.in_ok-both.ensures) (both_placed at comma closing p q))
