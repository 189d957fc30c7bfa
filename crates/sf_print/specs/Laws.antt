-- What holds of canonical texts.
use Rattle.std.specs.Prelude.{◌≡◌, ℕ, ◌≤◌, true, List, length}
use Rattle.std.specs.List.{All}
use Rattle.std.specs.Str.{IsUtf8}
use Rattle.sf_decimal.specs.Decimals.{is_narrow}
use Rattle.sf_lex.specs.Words.{IsName}
use Rattle.sf_lex.specs.Tokens.{Tok, keyword, name, number, text, symbol}
use Rattle.sf_lex.specs.Cutting.{byte_limit}
use Rattle.sf_term.specs.Trees.{Templates}
use Rattle.sf_grammar.specs.Spelling.{spell, IsWithinLimits, IsNetworkText}
use Rattle.sf_print.specs.Versions.{version_of}
use Rattle.sf_print.specs.Canonical.{canonical_text}

-- a token that stands in a text: a name is one of the language, a number is within signed 64 bits, and characters are UTF-8
abbrev pub CanStand : Tok → Type 0
CanStand (keyword k) = Unit {0}
CanStand (name n) = IsName n
CanStand (number z) = is_narrow z ≡ true
CanStand (text s) = IsUtf8 s
CanStand (symbol s) = Unit {0}

-- the canonical text of a network is no longer than a text may be
abbrev pub IsShort : Templates → Type 0
IsShort p = length (canonical_text p) ≤ byte_limit

-- the bytes are the canonical text of a network, and a text of it
pub record IsCanonicalText (bytes : List ℕ) (p : Templates) : Type 0 where
  pub canonical : bytes ≡ canonical_text p
  pub text : IsNetworkText bytes p

-- a network that was read from a text has a canonical text, where that is not too long
abbrev pub ReadAgain : Type 0
ReadAgain = (bytes : List ℕ) (p : Templates) → IsNetworkText bytes p → IsShort p → IsCanonicalText (canonical_text p) p

-- so has one that was built, where its tokens can stand in texts and it is within the limits
abbrev pub BuiltAndRead : Type 0
BuiltAndRead = (p : Templates) → All CanStand (spell (version_of p) p) → IsWithinLimits (version_of p) p → IsShort p → IsCanonicalText (canonical_text p) p

-- a network has one canonical text
abbrev pub OneCanonicalText : Type 0
OneCanonicalText = (a b : List ℕ) (p : Templates) → IsCanonicalText a p → IsCanonicalText b p → a ≡ b

-- a canonical text is that of one network
abbrev pub OneNetwork : Type 0
OneNetwork = (bytes : List ℕ) (p q : Templates) → IsCanonicalText bytes p → IsCanonicalText bytes q → p ≡ q
