-- How far the text of a network was read.
use Rattle.std.specs.Prelude.{◌≡◌, ℕ, ◌-◌, List, [], ◌∷◌, ◌++◌, length, drop, Result, Ok, Err}
use Rattle.sf_refusal.specs.Refusals.{broken}
use Rattle.sf_refusal.specs.declared.spot.Spot.{Spot}
use Rattle.sf_refusal.specs.declared.refusal.Refusal.{Refusal}
use Rattle.sf_refusal.specs.declared.refusal.Refusal.TheVariants.{Memory}
use Rattle.sf_lex.specs.Tokens.{Tok, offset_place}
use Rattle.sf_lex.specs.declared.token.PlacedToken.{PlacedToken}
use Rattle.sf_term.specs.declared.program.Program.{Program}
use Rattle.sf_term.specs.Arena.{templates_of}
use Rattle.sf_grammar.specs.declared.ty.Version.{Version}
use Rattle.sf_grammar.specs.Spelling.{spell, spell_templates, IsWithinLimits}
use Rattle.sf_grammar.specs.Stopping.{template_counts, StopsBehind, NetworkStops}
use Rattle.sf_text.specs.declared.parts.stop.Stop.{Stop}
use Rattle.sf_text.specs.declared.parts.stop.Stop.TheVariants as stops
use Rattle.sf_text.specs.Parsing.Answers.{counts_of}

-- the templates of a program were read in front of these tokens, and nothing else was
pub record Behind (v : Version) (tokens : List Tok) (p : Program) (rest : List Tok) : Type 0 where
  pub spelled : tokens ≡ spell_templates v (templates_of p) ++ rest
  pub counted : counts_of p ≡ template_counts (templates_of p)
  pub limited : IsWithinLimits v (templates_of p)

-- nothing is in the program
pub record IsBlankProgram (p : Program) : Type 0 where
  pub templates : templates_of p ≡ []
  pub counted : counts_of p ≡ template_counts []

-- reading templates stopped, where it was not for want of memory
abbrev pub StopsAfter : Version → Stop → List Tok → Type 0
StopsAfter v (stops.At fault left) tokens = StopsBehind v tokens fault left
StopsAfter v stops.Memory tokens = Unit {0}

abbrev pub ReadsTemplates : Version → Result (Unit {0}) Stop → List Tok → Program → Type 0
ReadsTemplates v (Ok u) tokens p = Behind v tokens p []
ReadsTemplates v (Err e) tokens p = StopsAfter v e tokens

abbrev pub StopsNetwork : Stop → List Tok → Type 0
StopsNetwork (stops.At fault left) tokens = NetworkStops tokens fault left
StopsNetwork stops.Memory tokens = Unit {0}

-- the tokens spell the templates of the program in the version
pub record IsSpelled (v : Version) (tokens : List Tok) (p : Program) : Type 0 where
  pub spelled : tokens ≡ spell v (templates_of p)
  pub limited : IsWithinLimits v (templates_of p)

abbrev pub ReadsNetwork : Result (Version × Program) Stop → List Tok → Type 0
ReadsNetwork (Ok r) tokens = IsSpelled r.0 tokens r.1
ReadsNetwork (Err e) tokens = StopsNetwork e tokens

-- the place of the first of these tokens, or where they end
abbrev pub first_place : Spot → List PlacedToken → Spot
first_place end [] = end
first_place end (t ∷ more) = t.spot

-- why bytes with these tokens are refused
abbrev pub stop_refusal : List ℕ → List PlacedToken → Stop → Refusal
stop_refusal bytes tokens (stops.At rule left) = broken rule (first_place (offset_place bytes (length bytes)) (drop (length tokens - left) tokens))
stop_refusal bytes tokens stops.Memory = Memory
