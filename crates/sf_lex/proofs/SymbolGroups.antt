-- The symbols of one first byte.
use Rattle.std.proofs.Common.{◌≡◌, ◌≢◌, ℕ, ◌≤◌, List, [], ◌∷◌, length, get_or, Option, find, slice_range, refl, sym, ◌∙◌, subst, arith}
use Rattle.sf_lex.specs.declared.symbol.Symbol.{Symbol}
use Rattle.sf_lex.specs.declared.symbol.TheConstants.{SYMBOLS}
use Rattle.sf_lex.specs.Scanning.{symbol_of, begins_with}
use Rattle.sf_lex.proofs.Groups.{other}

-- the symbols from one place up to another are all that begin with this byte
abbrev pub Stands : ℕ → ℕ → ℕ → Type 0
Stands first from to = (rest : List ℕ) → find (begins_with (first ∷ rest)) (slice_range SYMBOLS from to) ≡ symbol_of (first ∷ rest)

pub along : (first byte from to : ℕ) → first ≡ byte → Stands byte from to → Stands first from to
along first byte from to is stands = subst (λ b. Stands b from to) (sym is) stands

-- no symbol begins with another byte
pub no_group : (first : ℕ)
    → first ≢ 33 → first ≢ 38 → first ≢ 40 → first ≢ 41 → first ≢ 42 → first ≢ 43 → first ≢ 44 → first ≢ 45 → first ≢ 58 → first ≢ 59 → first ≢ 60 → first ≢ 61 → first ≢ 62 → first ≢ 91 → first ≢ 93 → first ≢ 126 → Stands first 0 0
unfolding symbol_of
no_group first h33 h38 h40 h41 h42 h43 h44 h45 h58 h59 h60 h61 h62 h91 h93 h126 rest =
    rw (other 33 first h33, other 38 first h38, other 40 first h40, other 41 first h41, other 42 first h42, other 43 first h43, other 44 first h44, other 45 first h45, other 58 first h58, other 59 first h59, other 60 first h60, other 61 first h61, other 62 first h62, other 91 first h91, other 93 first h93, other 126 first h126) refl

-- the symbol is looked for among those that begin with the first byte
pub found_in : (bytes : List ℕ) (from to : ℕ) (found : Option Symbol) → 1 ≤ length bytes → Stands (get_or bytes 0 0) from to
    → found ≡ find (begins_with bytes) (slice_range SYMBOLS from to) → found ≡ symbol_of bytes
found_in [] from to found some stands is = absurd (omega arith)
found_in (b ∷ rest) from to found some stands is = is ∙ stands rest
