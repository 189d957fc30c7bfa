-- The place at which bytes are refused for a token.
use Rattle.std.proofs.Common.{◌≡◌, ◌≢◌, ℕ, ◌-◌, ◌≤◌, List, [], ◌++◌, length, take, drop, sym, ◌∙◌, ap, subst, arith, length-drop}
use Rattle.std.proofs.lemmas.List.{length-append, length-map, map-append, take-append-drop}
use Rattle.sf_refusal.specs.declared.spot.Spot.{Spot}
use Rattle.sf_refusal.specs.declared.rule.Rule.{Rule}
use Rattle.sf_refusal.specs.declared.rule.Rule.TheVariants.{Unexpected}
use Rattle.sf_refusal.specs.declared.refusal.Breach.{Breach}
use Rattle.sf_lex.specs.Tokens.{Tok, Located}
use Rattle.sf_lex.specs.Cutting.{Lexes, IsWrong, large, open_text, escape, nothing, HasFaultAt, no_text, wrong, BreaksLexis, too_long, at_fault}
use Rattle.sf_grammar.specs.Spelling.{spell, spell_templates}
use Rattle.sf_grammar.specs.Stopping.{template_counts, NetworkStops, in_opening, in_template, ReadingStops, BreaksText, no_tokens, no_network}
use Rattle.sf_place.specs.Places.{IsRefusedToken, tokens_of, NoNetworkFrom}
use Rattle.sf_place.proofs.Local.{opening_local, template_local}
use Rattle.sf_place.proofs.Stops.{stop_short}
use Rattle.sf_place.proofs.Networks.{refused_leads, goes_no_further}

-- reading stops no later than the tokens end
stops_within : (tokens : List Tok) (left : ℕ) → NetworkStops tokens Unexpected left → left ≤ length tokens
stops_within tokens left (in_opening s) = omega (arith, stop_short s.at (opening_local.gone (length tokens) tokens (omega arith)) s.is, s.counted)
stops_within tokens left (in_template {rest = behind} v opened s) =
    let short : length s.stopped.at ≤ length s.rest = stop_short s.stopped.at ((template_local v (template_counts s.read)).gone (length s.rest) s.rest (omega arith)) s.stopped.is in
    omega (arith, short, s.stopped.counted, ap length opened, length-append (spell v []) behind, ap length s.spelled, length-append (spell_templates v s.read) s.rest)

as_many : (ls : List Located) → length (tokens_of ls) ≡ length ls
as_many ls = simp length-map

stopped_from : (bytes : List ℕ) (place : Spot) → ReadingStops bytes Unexpected place → NoNetworkFrom bytes place
stopped_from bytes place s =
    let n : ℕ = length s.located - s.left in
    let front : List Located = take n s.located in
    let at : List Located = drop n s.located in
    let whole : front ++ at ≡ s.located = take-append-drop n s.located in
    let within : s.left ≤ length s.located = omega (arith, stops_within (tokens_of s.located) s.left s.stops, as_many s.located) in
    let counted : length (tokens_of at) ≡ s.left = as_many at ∙ omega (arith, length-drop n s.located, within) in
    let tokens : tokens_of s.located ≡ tokens_of front ++ tokens_of at = ap tokens_of (sym whole) ∙ map-append (λ (l : Located). l.token) front at in
    let refused : IsRefusedToken (tokens_of front) (tokens_of at) = subst (λ (n : ℕ). NetworkStops (tokens_of front ++ tokens_of at) Unexpected n) (sym counted) (subst (λ (ts : List Tok). NetworkStops ts Unexpected s.left) tokens s.stops) in
    record {
      front = front;
      at = at;
      cut = subst (λ (ls : List Located). Lexes bytes ls) (sym whole) s.cut;
      leads = refused_leads (tokens_of front) (tokens_of at) refused;
      no_further = goes_no_further (tokens_of front) (tokens_of at) refused;
      is = s.at;
    }

-- faults of tokens break other rules
wrong_is : {bytes : List ℕ} {k : ℕ} {fault : Rule} → IsWrong bytes k fault → fault ≢ Unexpected
wrong_is (large longest wide) = λ same. cc
wrong_is (open_text none) = λ same. cc
wrong_is (escape inner before behind rest c body split front none) = λ same. cc
wrong_is (nothing other none) = λ same. cc

fault_is : {bytes : List ℕ} {offset : ℕ} {fault : Rule} → HasFaultAt bytes offset fault → fault ≢ Unexpected
fault_is (no_text valid) = λ same. cc
fault_is (wrong cut w) = wrong_is w

lexis_is : (bytes : List ℕ) (b : Breach) → BreaksLexis bytes b → b.rule ≢ Unexpected
lexis_is bytes b (too_long long is) = λ same. cc
lexis_is bytes b (at_fault first) = fault_is first.breaks

pub refused_from : (bytes : List ℕ) (b : Breach) → BreaksText bytes b → b.rule ≡ Unexpected → NoNetworkFrom bytes b.spot
refused_from bytes b (no_tokens breaks) is = absurd (lexis_is bytes b breaks is)
refused_from bytes b (no_network s) is = stopped_from bytes b.spot (subst (λ (rule : Rule). ReadingStops bytes rule b.spot) is s)
