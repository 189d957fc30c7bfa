-- Where reading the text of a network stops, and what it breaks there.
use Rattle.std.specs.Prelude.{◌≡◌, ◌≢◌, ℕ, ◌-◌, List, [], ◌∷◌, ◌++◌, length, map, drop}
use Rattle.sf_refusal.specs.declared.spot.Spot.{Spot}
use Rattle.sf_refusal.specs.declared.rule.Rule.{Rule}
use Rattle.sf_refusal.specs.declared.refusal.Breach.{Breach}
use Rattle.sf_lex.specs.Tokens.{Tok, Located, offset_place}
use Rattle.sf_lex.specs.Cutting.{Lexes, BreaksLexis}
use Rattle.sf_term.specs.Trees.{Templates}
use Rattle.sf_grammar.specs.declared.ty.Version.{Version}
use Rattle.sf_grammar.specs.Spelling.{spell, spell_templates, term_total, expression_total, IsWithinLimits}
use Rattle.sf_grammar.specs.Reading.{Read, stop, Counts, parse_opening, parse_template}

-- reading stopped at this rule, so many tokens before the end
pub record Stopped {A : Type 0} (fault : Rule) (left : ℕ) (read : Read A) : Type 0 where
  pub at : List Tok
  pub is : read ≡ stop fault at
  pub counted : left ≡ length at

-- how many terms and expressions templates have
abbrev pub template_counts : Templates → Counts
template_counts p = record { terms = term_total p; expressions = expression_total p }

-- reading stops behind whole templates, within a further one, so many tokens before the end
pub record StopsBehind (v : Version) (tokens : List Tok) (fault : Rule) (left : ℕ) : Type 0 where
  pub read : Templates
  pub rest : List Tok
  pub spelled : tokens ≡ spell_templates v read ++ rest
  pub limited : IsWithinLimits v read
  pub more : rest ≢ []
  pub stopped : Stopped fault left (parse_template v (template_counts read) rest)

-- reading a network stops so many tokens before the end
pub data NetworkStops : List Tok → Rule → ℕ → Type 0 where
  in_opening : {tokens : List Tok} {fault : Rule} {left : ℕ} → Stopped fault left (parse_opening tokens) → NetworkStops tokens fault left
  in_template : {tokens rest : List Tok} {fault : Rule} {left : ℕ} (v : Version) → tokens ≡ spell v [] ++ rest → StopsBehind v rest fault left → NetworkStops tokens fault left

-- the offset of the first of these tokens, or where they end
abbrev pub offset_of : ℕ → List Located → ℕ
offset_of end [] = end
offset_of end (l ∷ more) = l.offset

-- the place of the token that stands so many tokens before the end, or of the end
abbrev pub place_before : List ℕ → List Located → ℕ → Spot
place_before bytes located left = offset_place bytes (offset_of (length bytes) (drop (length located - left) located))

-- the bytes have tokens, and reading them stops at this place
pub record ReadingStops (bytes : List ℕ) (fault : Rule) (place : Spot) : Type 0 where
  pub located : List Located
  pub cut : Lexes bytes located
  pub left : ℕ
  pub stops : NetworkStops (map (λ (l : Located). l.token) located) fault left
  pub at : place ≡ place_before bytes located left

-- bytes break a rule of texts at a place: they have no tokens, or reading their tokens stops there
pub data BreaksText (bytes : List ℕ) (b : Breach) : Type 0 where
  no_tokens : BreaksLexis bytes b → BreaksText bytes b
  no_network : ReadingStops bytes b.rule b.spot → BreaksText bytes b
