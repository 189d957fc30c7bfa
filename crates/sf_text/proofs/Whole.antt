-- Reading a network, and the texts that it is read from.
use Rattle.std.proofs.Common.{◌≡◌, ℕ, ◌-◌, List, [], ◌∷◌, ◌++◌, length, drop, map, refl, sym, ◌∙◌, ap, subst}
use mathlib.Core.Path.{ap₂}
use Rattle.std.proofs.lemmas.List.{append-nil, length-map, drop-map}
use Rattle.sf_term.specs.declared.program.Program.{Program}
use Rattle.sf_term.specs.Arena.{templates_of}
use Rattle.sf_refusal.specs.declared.spot.Spot.{Spot}
use Rattle.sf_lex.specs.declared.token.PlacedToken.{PlacedToken}
use Rattle.sf_lex.specs.Tokens.{Tok, Located, seen, shown, offset_place}
use Rattle.sf_lex.specs.Cutting.{AreTokensOf, BreaksLexis}
use Rattle.sf_refusal.specs.declared.rule.Rule.{Rule}
use Rattle.sf_refusal.specs.declared.refusal.Refusal.{Refusal}
use Rattle.sf_refusal.specs.Refusals.{OrMemory, because, no_memory}
use Rattle.sf_refusal.proofs.Explained.{or_memory}
use Rattle.sf_text.specs.declared.parts.stop.Stop.{Stop}
use Rattle.sf_text.specs.declared.parts.stop.Stop.TheVariants.{At, Memory}
use Rattle.sf_grammar.specs.declared.ty.Version.{Version}
use Rattle.sf_grammar.specs.Spelling.{spell, spell_templates, IsNetworkText}
use Rattle.sf_grammar.specs.Reading.{got, parse_opening}
use Rattle.sf_text.specs.Parsing.Answers.{StopsReading, toks}
use Rattle.sf_text.specs.Progress.{Behind, StopsAfter, StopsNetwork, IsSpelled, first_place, stop_refusal}
use Rattle.sf_grammar.specs.Stopping.{NetworkStops, in_opening, in_template, ReadingStops, offset_of, place_before, BreaksText, no_tokens, no_network}
use Rattle.sf_grammar.proofs.Takes.{opening_takes}

pub stops_opening : (e : Stop) (tokens : List Tok) → StopsReading e (parse_opening tokens) → StopsNetwork e tokens
stops_opening (At fault left) tokens stopped = in_opening stopped
stops_opening Memory tokens stopped = tt

opened : (tokens rest : List Tok) (v : Version) → parse_opening tokens ≡ got v rest → tokens ≡ spell v [] ++ rest
opened tokens rest v is = opening_takes tokens v rest is

pub network_spelled : (tokens rest : List Tok) (v : Version) (p : Program) → parse_opening tokens ≡ got v rest → Behind v rest p [] → IsSpelled v tokens p
network_spelled tokens rest v p is behind = record {
  spelled = opened tokens rest v is ∙ ap (λ r. spell v [] ++ r) (behind.spelled ∙ append-nil (spell_templates v (templates_of p)));
  limited = behind.limited;
}

pub network_stops : (e : Stop) (tokens rest : List Tok) (v : Version) → parse_opening tokens ≡ got v rest → StopsAfter v e rest → StopsNetwork e tokens
network_stops (At fault left) tokens rest v is stops = in_template v (opened tokens rest v is) stops
network_stops Memory tokens rest v is stops = tt

-- the first tokens, as the code has them and as the bytes have them
first_same : (bytes : List ℕ) (found : List PlacedToken) (ls : List Located) → map seen found ≡ map (shown bytes) ls
    → first_place (offset_place bytes (length bytes)) found ≡ offset_place bytes (offset_of (length bytes) ls)
first_same bytes [] [] same = refl
first_same bytes [] (l ∷ ls) same = cc
first_same bytes (p ∷ found) [] same = cc
first_same bytes (p ∷ found) (l ∷ ls) same = let one : seen p ≡ shown bytes l = cc in ap (λ (x : Tok × Spot). x.1) one

pub place_same : (bytes : List ℕ) (found : List PlacedToken) (ls : List Located) (left : ℕ) → map seen found ≡ map (shown bytes) ls
    → first_place (offset_place bytes (length bytes)) (drop (length found - left) found) ≡ place_before bytes ls left
place_same bytes found ls left same =
    let long : length found ≡ length ls = simp length-map at (ap length same) in
    ap (λ n. first_place (offset_place bytes (length bytes)) (drop (n - left) found)) long
    ∙ first_same bytes (drop (length ls - left) found) (drop (length ls - left) ls)
    (sym (drop-map seen (length ls - left) found) ∙ ap (drop (length ls - left)) same ∙ drop-map (shown bytes) (length ls - left) ls)

pub toks_same : (bytes : List ℕ) (found : List PlacedToken) (ls : List Located) → map seen found ≡ map (shown bytes) ls → toks found ≡ map (λ (l : Located). l.token) ls
toks_same bytes [] [] same = refl
toks_same bytes [] (l ∷ ls) same = cc
toks_same bytes (p ∷ found) [] same = cc
toks_same bytes (p ∷ found) (l ∷ ls) same =
    let one : seen p ≡ shown bytes l = cc in
    let others : map seen found ≡ map (shown bytes) ls = cc in
    ap₂ (λ (t : Tok) (ts : List Tok). t ∷ ts) (ap (λ (x : Tok × Spot). x.0) one) (toks_same bytes found ls others)

pub network_text : (bytes : List ℕ) (found : List PlacedToken) (v : Version) (p : Program) → AreTokensOf bytes found → IsSpelled v (toks found) p → IsNetworkText bytes (templates_of p)
network_text bytes found v p a s = record {
  version = v;
  located = a.located;
  cut = a.cut;
  spelled = sym (toks_same bytes found a.located a.shows) ∙ s.spelled;
  limited = s.limited;
}

stopped_at : (bytes : List ℕ) (found : List PlacedToken) (fault : Rule) (left : ℕ) → AreTokensOf bytes found → NetworkStops (toks found) fault left
    → ReadingStops bytes fault (first_place (offset_place bytes (length bytes)) (drop (length found - left) found))
stopped_at bytes found fault left a s = record {
  located = a.located;
  cut = a.cut;
  left = left;
  stops = subst (λ (ts : List Tok). NetworkStops ts fault left) (toks_same bytes found a.located a.shows) s;
  at = place_same bytes found a.located left a.shows;
}

pub text_stops : (bytes : List ℕ) (found : List PlacedToken) (e : Stop) → AreTokensOf bytes found → StopsNetwork e (toks found) → OrMemory (BreaksText bytes) (stop_refusal bytes found e)
text_stops bytes found (At rule left) a s = because (no_network (stopped_at bytes found rule left a s))
text_stops bytes found Memory a s = no_memory

pub bytes_refused : (bytes : List ℕ) (e : Refusal) → OrMemory (BreaksLexis bytes) e → OrMemory (BreaksText bytes) e
bytes_refused bytes e r = or_memory (λ b breaks. no_tokens breaks) r
