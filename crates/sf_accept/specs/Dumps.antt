-- Networks that are read and written again.
use Rattle.std.specs.Prelude.{◌≡◌, ℕ, ◌≤◌, List, length}
use Rattle.sf_lex.specs.Cutting.{byte_limit}
use Rattle.sf_term.specs.Trees.{Templates}
use Rattle.sf_text.specs.Spelling.{IsNetworkText}
use Rattle.sf_print.specs.Canonical.{canonical_text}

-- The bytes are the text of this network, and the others its canonical text.
pub record IsDump (net : List ℕ) (p : Templates) (dumped : List ℕ) : Type 0 where
  pub text : IsNetworkText net p
  pub canonical : dumped ≡ canonical_text p

-- what was dumped is a text of the same network, where it is not too long
abbrev pub DumpIsRead : Type 0
DumpIsRead = (net dumped : List ℕ) (p : Templates) → IsDump net p dumped → length dumped ≤ byte_limit → IsNetworkText dumped p

-- what is dumped of what was dumped is the same network, and the same bytes
abbrev pub DumpedAgain : Type 0
DumpedAgain = (net dumped again : List ℕ) (p q : Templates) → IsDump net p dumped → IsDump dumped q again → (q ≡ p) × (again ≡ dumped)
