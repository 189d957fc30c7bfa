-- How many keys rows have.
use Rattle.std.proofs.Common.{◌≡◌, suc, List, [], ◌∷◌, map, length, refl, ap, arith}
use Rattle.sf_value.specs.Values.{Data}
use Rattle.sf_value.specs.View.{key_of, keyed_rows}
use Rattle.sf_value.specs.declared.value.Key.{Key}
use Rattle.sf_operator.specs.Operations.{row_count}

-- as many as there are values, where each key has one
pub rows_counted : (ks : List Key) (ys : List Data) → length ks ≡ length ys → row_count (keyed_rows (map key_of ks) ys) ≡ length ys
rows_counted [] [] h = refl
rows_counted [] (y ∷ ys) h = absurd (omega arith)
rows_counted (k ∷ ks) [] h = absurd (omega arith)
rows_counted (k ∷ ks) (y ∷ ys) h = let less : length ks ≡ length ys = omega arith in ap suc (rows_counted ks ys less)
