-- What is given to a caller.
use Rattle.std.specs.Prelude.{◌≡◌, ℕ, List, [], length, min, take, ◌⊎◌}
use Rattle.sf_refusal.specs.Refusals.{OrMemory, refusal_text}
use Rattle.sf_refusal.specs.declared.refusal.Refusal.{Refusal}
use Rattle.sf_refusal.specs.declared.refusal.Refusal.TheVariants.{Memory}
use Rattle.sf_term.specs.Trees.{Templates}
use Rattle.sf_accept.specs.Refusals.{IsAcceptedText, IsRefusedFor}

-- As much of what is said lies in a room as it takes, and the count is that of all of it.
pub record IsGiven (said : List ℕ) (given : ℕ) (room : List ℕ) : Type 0 where
  pub count : given ≡ length said
  pub front : take (min given (length room)) room ≡ take (min given (length room)) said

-- what is said of a refusal: what it is, or that memory is wanting
abbrev pub MaySay : Refusal → Refusal → Type 0
MaySay refusal r = (r ≡ refusal) ⊎ (r ≡ Memory)

-- What is said of a network's text, with a status, where there are no stored functions: nothing where it is accepted, else
-- what it is refused for.
pub data IsAnswered (net : List ℕ) : ℕ → List ℕ → Type 0 where
  accepted : {p : Templates} → IsAcceptedText [] net p → IsAnswered net 0 []
  refused : {r : Refusal} → OrMemory (IsRefusedFor [] net) r → IsAnswered net 5 (refusal_text r)
