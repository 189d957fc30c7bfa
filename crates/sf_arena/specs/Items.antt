-- Lists that only grow, behind. Items are known by their numbers, from 0.
-- An owner of such a list (an arena, or a plain vector of nodes, names, functions) states of a call that adds
-- `Added old new item number` where it is Ok, and `new ≡ old` where it is Err. All else follows by proofs/Growing.antt:
-- `added_within`, `added_fresh`, `added_counted`, `added_item`, `item_kept`, and `each_kept` for what holds of each item.
use Rattle.std.specs.Prelude.{◌≡◌, ℕ, List, [], ◌∷◌, ◌++◌, length}

-- An item stands behind the others, under the next number, and the others stand as they did.
pub record Added {A : Type 0} (old new : List A) (item : A) (number : ℕ) : Type 0 where
  pub next : number ≡ length old
  pub grown : new ≡ old ++ item ∷ []
