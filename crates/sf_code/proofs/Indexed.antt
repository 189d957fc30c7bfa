-- The names of a pattern in an index.
use Rattle.std.proofs.Common.{◌≡◌, ◌∙◌, ◌||◌, Bool, true, false, cond, List, [], Option, Some, None, is_some, refl, ap, bytes_eq}
use Rattle.sf_value.specs.Values.{Name}
use Rattle.sf_expr.specs.Expressions.{named}
use Rattle.sf_expr.proofs.Scoped.{same_both_ways}
use Rattle.sf_code.specs.declared.place.Half.{Half}
use Rattle.sf_code.specs.Compiling.{path_of_name}

-- with a name among others, these are those and the name
pub name_added : {X : Type 0} (before after : Option X) (v : X) (x y : Name) → after ≡ cond (bytes_eq y x) (Some v) before → is_some after ≡ is_some (path_of_name x (named y)) || is_some before
name_added {X} before after v x y put = ap is_some put ∙ ap (λ b. is_some (cond b (Some v) before)) (same_both_ways y x) ∙ decided (bytes_eq x y)
  where
    whole : Option (List Half)
    whole = Some []

    decided : (b : Bool) → is_some (cond b (Some v) before) ≡ is_some (cond b whole None) || is_some before
    decided true = refl
    decided false = refl
