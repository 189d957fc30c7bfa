-- The keywords of one first byte.
use Rattle.std.proofs.Common.{◌≡◌, ◌≢◌, ℕ, ◌≤◌, List, [], ◌∷◌, length, get_or, Option, false, find, slice_range, refl, sym, ◌∙◌, subst, arith}
use Rattle.std.specs.Prelude.{nat_eq}
use Rattle.std.proofs.lemmas.Bool.Decides.{nat_tests}
use Rattle.sf_lex.specs.declared.word.Keyword.{Keyword}
use Rattle.sf_lex.specs.declared.word.TheConstants.{KEYWORDS}
use Rattle.sf_lex.specs.Scanning.{keyword_of, is_keyword}

-- the keywords from one place up to another are all that begin with this byte
abbrev pub Stands : ℕ → ℕ → ℕ → Type 0
Stands first from to = (rest : List ℕ) → find (is_keyword (first ∷ rest)) (slice_range KEYWORDS from to) ≡ keyword_of (first ∷ rest)

pub along : (first letter from to : ℕ) → first ≡ letter → Stands letter from to → Stands first from to
along first letter from to is stands = subst (λ b. Stands b from to) (sym is) stands

pub other : (letter first : ℕ) → first ≢ letter → nat_eq letter first ≡ false
other letter first h = grind (arith, nat_tests)

-- no keyword begins with another byte
pub no_group : (first : ℕ)
    → first ≢ 66 → first ≢ 69 → first ≢ 73 → first ≢ 84 → first ≢ 85 → first ≢ 95 → first ≢ 97 → first ≢ 99 → first ≢ 100 → first ≢ 101 → first ≢ 102 → first ≢ 103 → first ≢ 104 → first ≢ 105 → first ≢ 107 → first ≢ 108 → first ≢ 109 → first ≢ 110 → first ≢ 111 → first ≢ 112 → first ≢ 114 → first ≢ 115 → first ≢ 116 → first ≢ 117 → Stands first 0 0
unfolding keyword_of
no_group first h66 h69 h73 h84 h85 h95 h97 h99 h100 h101 h102 h103 h104 h105 h107 h108 h109 h110 h111 h112 h114 h115 h116 h117 rest =
    rw (other 66 first h66, other 69 first h69, other 73 first h73, other 84 first h84, other 85 first h85, other 95 first h95, other 97 first h97, other 99 first h99, other 100 first h100, other 101 first h101, other 102 first h102, other 103 first h103, other 104 first h104, other 105 first h105, other 107 first h107, other 108 first h108, other 109 first h109, other 110 first h110, other 111 first h111, other 112 first h112, other 114 first h114, other 115 first h115, other 116 first h116, other 117 first h117) refl

-- a word is looked for among those that begin with its first byte
pub found_in : (word : List ℕ) (from to : ℕ) (found : Option Keyword) → 1 ≤ length word → Stands (get_or word 0 0) from to
    → found ≡ find (is_keyword word) (slice_range KEYWORDS from to) → found ≡ keyword_of word
found_in [] from to found some stands is = absurd (omega arith)
found_in (b ∷ rest) from to found some stands is = is ∙ stands rest
