-- Each value inside a value is made of fewer values.
use Rattle.std.specs.Prelude.{◌≡◌, ◌+◌, ◌≤◌, max, List, [], ◌∷◌, length}
use Rattle.std.proofs.Common.{arith}
use denote.Param.Weighed.{most}
use Rattle.sf_value.specs.Values.{KeyData, Data, count, count_of_rows}
use Rattle.sf_value.specs.View.{data_of, keyed_rows, IsFilled}
use Rattle.sf_value.specs.declared.value.Form.{Form}
use Rattle.sf_value.specs.declared.value.Form.TheVariants.{Unit, Bool, Int, Text, Pair, NoEvent, UnitEvent, Event, Table}
use Rattle.sf_value.specs.declared.value.Value.TheDeep.{deep-Form}

values_fit : (ks : List KeyData) (ds : List Data) → length ks ≡ length ds → most (λ d. count d + 1) ds ≤ count_of_rows (keyed_rows ks ds) + 1
values_fit [] [] h = omega arith
values_fit [] (d ∷ ds) h = absurd cc
values_fit (k ∷ ks) [] h = omega arith
values_fit (k ∷ ks) (d ∷ ds) h = let rest : length ks ≡ length ds = cc in omega (arith, values_fit ks ds rest)

pub deep_le-count : (f : Form) → IsFilled f → max (deep-Form f) 0 ≤ count (data_of f)
deep_le-count Unit h = omega arith
deep_le-count (Bool b) h = omega arith
deep_le-count (Int z) h = omega arith
deep_le-count (Text s) h = omega arith
deep_le-count (Pair x) h = omega arith
deep_le-count NoEvent h = omega arith
deep_le-count UnitEvent h = omega arith
deep_le-count (Event x) h = omega arith
deep_le-count (Table t) h = omega (arith, values_fit t.value.keys.value t.value.values.items h)
