use Rattle.std.proofs.lemmas.List.{take-append-drop}
use Rattle.std.proofs.Common.{List, ◌++◌, ap, sym, subst, ◌∙◌, [], ◌∷◌}
use mathlib.Core.Path.{ap₂}
use Rattle.sf_expr.specs.declared.exprs.NameId.{NameId}
use Rattle.sf_expr.specs.Expressions.{both}
use Rattle.sf_code.specs.declared.around.Around.{Around}
use Rattle.sf_code.specs.Compiling.{named_each, BindAsMany}
use Rattle.sf_code.specs.Around.{names_by_id, pattern_around, HoldsShape}
use Rattle.std.specs.List.{All}
use Rattle.std.proofs.lemmas.List.Elements.{All-take, All-drop}
use Rattle.sf_expr.specs.Arena.{HoldsName}
use Rattle.sf_code.proofs.Outside.{both_bind, at_both}
use Rattle.sf_code.proofs.around.+balanced.Goals as goal

pub returns-in_ok-new-in_default-2-clause-bound : goal.returns-in_ok-new-in_default-2-clause-bound
returns-in_ok-new-in_default-2-clause-bound t c = λ x.
    let left = c.split_at.result.0.now in
    let right = c.split_at.result.1.now in
    let p = pattern_around x c.in_ok-first-in_default.first in
    let q = pattern_around x c.in_ok-second-in_default.second in
    let whole = ap₂ (λ (a b : List NameId). a ++ b) c.split_at.ensures.front c.split_at.ensures.back ∙ take-append-drop _ c.args.names.now in
    let names = sym (at_both x left right) ∙ ap (names_by_id x) whole in
    let made = both_bind p q (names_by_id x left) (names_by_id x right) (c.in_ok-first-in_default.ensures.bound x) (c.in_ok-second-in_default.ensures.bound x) in
    let shape = ap₂ (λ (a b : Around). both (pattern_around x a) (pattern_around x b)) (sym c.in_ok-new-in_default.ensures.ok) (sym c.in_ok-new-in_default-2.ensures.ok) in
    subst (λ r. BindAsMany (named_each (names_by_id x c.args.names.now)) (r ∷ [])) shape (subst (λ ns. BindAsMany (named_each ns) (both p q ∷ [])) names made)

pub returns-in_ok-new-in_default-2-clause-held : goal.returns-in_ok-new-in_default-2-clause-held
returns-in_ok-new-in_default-2-clause-held t c = λ x h.
    let left = subst (All (HoldsName x)) (sym c.split_at.ensures.front) (All-take (HoldsName x) _ c.args.names.now h) in
    let right = subst (All (HoldsName x)) (sym c.split_at.ensures.back) (All-drop (HoldsName x) _ c.args.names.now h) in
    (subst (HoldsShape x) (sym c.in_ok-new-in_default.ensures.ok) (c.in_ok-first-in_default.ensures.held x left), subst (HoldsShape x) (sym c.in_ok-new-in_default-2.ensures.ok) (c.in_ok-second-in_default.ensures.held x right))
