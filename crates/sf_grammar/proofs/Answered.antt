-- Each bytes are the text of a network, or break a rule.
use Rattle.std.proofs.Common.{◌≡◌, ◌⊎◌, ℕ, zero, suc, ◌+◌, ◌<◌, ◌≤◌, pos, List, [], ◌∷◌, ◌++◌, length, map, refl, sym, ◌∙◌, ap, append_assoc, arith, inl, inr}
use Rattle.std.proofs.lemmas.List.{length-append, flat_map_more, append-nil}
use Rattle.std.proofs.lemmas.List.Elements.{All-append, All-cons, All-nil}
use Rattle.std.proofs.lemmas.List.Sums.{sum_by_push}
use Rattle.sf_refusal.specs.Refusals.{breach_of}
use Rattle.sf_refusal.specs.declared.rule.Rule.{Rule}
use Rattle.sf_refusal.specs.declared.refusal.Breach.{Breach}
use Rattle.sf_lex.specs.Tokens.{Tok, keyword, number, symbol, Located}
use Rattle.sf_lex.specs.declared.word.Keyword.TheVariants as words
use Rattle.sf_lex.specs.declared.symbol.Symbol.TheVariants as symbols
use Rattle.sf_lex.specs.Cutting.{Lexes}
use Rattle.sf_lex.proofs.Answered
use Rattle.sf_term.specs.Trees.{Template, Templates, term_depth, terms_in, expressions_in}
use Rattle.sf_grammar.specs.declared.ty.Version.{Version}
use Rattle.sf_grammar.specs.Spelling.{version_number, spell_template, spell_templates, term_total, expression_total, HasWrittenTypes, IsWithinLimits, IsNetworkText}
use Rattle.sf_grammar.specs.Reading.{got, stop, parse_opening, parse_template}
use Rattle.sf_grammar.specs.Stopping.{template_counts, StopsBehind, NetworkStops, in_opening, in_template, place_before, BreaksText, no_tokens, no_network}
use Rattle.sf_grammar.proofs.Takes.{TookTemplate, template_takes, opening_takes}

-- one template more is within the limits
limits_more : (v : Version) (ps : Templates) (rest behind : List Tok) (t : Template) → IsWithinLimits v ps → TookTemplate v (template_counts ps) rest t behind → IsWithinLimits v (ps ++ t ∷ [])
limits_more v ps rest behind t limits took =
    let terms : term_total (ps ++ t ∷ []) ≡ term_total ps + terms_in t.body = sum_by_push (λ (t : Template). terms_in t.body) ps t in
    let expressions : expression_total (ps ++ t ∷ []) ≡ expression_total ps + expressions_in t.body = sum_by_push (λ (t : Template). expressions_in t.body) ps t in
    let shallow : Template → Type 0 = λ t. term_depth t.body ≤ 64 in
    record {
      shallow = All-append shallow ps (t ∷ []) limits.shallow (All-cons shallow t [] took.shallow (All-nil shallow));
      typed = All-append (HasWrittenTypes v) ps (t ∷ []) limits.typed (All-cons (HasWrittenTypes v) t [] took.typed (All-nil (HasWrittenTypes v)));
      few_terms = omega (arith, took.few_terms);
      few_expressions = omega (arith, took.few_expressions);
    }

no_limits : (v : Version) → IsWithinLimits v []
no_limits v =
    let shallow : Template → Type 0 = λ t. term_depth t.body ≤ 64 in
    record { shallow = All-nil shallow; typed = All-nil (HasWrittenTypes v); few_terms = omega arith; few_expressions = omega arith }

-- tokens spell templates, or reading stops in one
data Ends (v : Version) (tokens : List Tok) : Type 0 where
  whole : (p : Templates) → IsWithinLimits v p → tokens ≡ spell_templates v p → Ends v tokens
  stopped : (rule : Rule) (left : ℕ) → StopsBehind v tokens rule left → Ends v tokens

ends_from : (v : Version) (fuel : ℕ) (tokens rest : List Tok) (ps : Templates) → IsWithinLimits v ps → tokens ≡ spell_templates v ps ++ rest → length rest ≤ fuel → Ends v tokens
ends_from v fuel tokens [] ps limits same short = whole ps limits (same ∙ append-nil (spell_templates v ps))
ends_from v zero tokens (t ∷ ts) ps limits same short = absurd (omega arith)
ends_from v (suc fuel) tokens (t ∷ ts) ps limits same short =
    (elim (parse_template v (template_counts ps) (t ∷ ts)) as (λ r. parse_template v (template_counts ps) (t ∷ ts) ≡ r → Ends v tokens) [
      | got u behind ↦ λ is.
          (let took : TookTemplate v (template_counts ps) (t ∷ ts) u behind = template_takes v (template_counts ps) (t ∷ ts) u behind limits.few_expressions is in
          let shorter : length behind < length (t ∷ ts) = omega (arith, simp length-append at (ap length took.spelled)) in
          let further : tokens ≡ spell_templates v (ps ++ u ∷ []) ++ behind =
          same ∙ ap (λ r. spell_templates v ps ++ r) took.spelled ∙ sym (append_assoc (spell_templates v ps) (spell_template v u) behind) ∙ ap (λ xs. xs ++ behind) (flat_map_more (spell_template v) [] ps u) in
          ends_from v fuel tokens behind (ps ++ u ∷ []) (limits_more v ps (t ∷ ts) behind u limits took) further (omega (arith, shorter)))
      | stop rule at ↦ λ is. stopped rule (length at) (record { read = ps; rest = t ∷ ts; spelled = same; limited = limits; more = λ nil. cc; stopped = record { at = at; is = is; counted = refl } })
    ]) refl

abbrev pub HasReading : List ℕ → Type 0
HasReading bytes = ((p : Templates) × IsNetworkText bytes p) ⊎ ((b : Breach) × BreaksText bytes b)

abbrev token_list : List Located → List Tok
token_list located = map (λ (l : Located). l.token) located

stops_there : (bytes : List ℕ) (found : List Located) → Lexes bytes found → (rule : Rule) (left : ℕ) → NetworkStops (token_list found) rule left → HasReading bytes
stops_there bytes found cut rule left stops =
    inr (breach_of rule (place_before bytes found left), no_network (record { located = found; cut = cut; left = left; stops = stops; at = refl }))

behind_opening : (v : Version) (bytes : List ℕ) (found : List Located) (rest : List Tok) → Lexes bytes found
    → token_list found ≡ keyword words.Network ∷ number (pos (version_number v)) ∷ symbol symbols.Semicolon ∷ rest → Ends v rest → HasReading bytes
behind_opening v bytes found rest cut opened (whole p limits same) =
    inl (p, record { version = v; located = found; cut = cut; spelled = opened ∙ ap (λ r. keyword words.Network ∷ number (pos (version_number v)) ∷ symbol symbols.Semicolon ∷ r) same; limited = limits })
behind_opening v bytes found rest cut opened (stopped rule left stops) = stops_there bytes found cut rule left (in_template v opened stops)

tokens_answered : (bytes : List ℕ) (found : List Located) → Lexes bytes found → HasReading bytes
tokens_answered bytes found cut =
    (elim (parse_opening (token_list found)) as (λ r. parse_opening (token_list found) ≡ r → HasReading bytes) [
      | got v rest ↦ λ is. behind_opening v bytes found rest cut (opening_takes (token_list found) v rest is) (ends_from v (length rest) rest rest [] (no_limits v) refl (omega arith))
      | stop rule at ↦ λ is. stops_there bytes found cut rule (length at) (in_opening (record { at = at; is = is; counted = refl }))
    ]) refl

-- each bytes are the text of a network, or break a rule
pub answered : (bytes : List ℕ) → HasReading bytes
answered bytes =
    elim (Answered.answered bytes) [
      | inl found ↦ tokens_answered bytes found.0 found.1
      | inr b ↦ inr (b.0, no_tokens b.1)
    ]
