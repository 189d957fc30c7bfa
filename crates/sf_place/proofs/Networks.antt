-- The place where a text is refused for a token is the first behind which no network goes on.
use Rattle.std.proofs.Common.{◌≡◌, ℕ, zero, pos, List, [], ◌∷◌, ◌++◌, length, refl, sym, ◌∙◌, ap, subst, append_assoc, arith}
use Rattle.std.specs.List.{All}
use Rattle.std.proofs.lemmas.List.{length-append}
use Rattle.std.proofs.lemmas.Grind.{flat_map-append}
use Rattle.std.proofs.lemmas.List.{append-nil}
use Rattle.std.proofs.lemmas.List.Elements.{All-append, All-cons, All-head, All-nil, All-tail}
use Rattle.sf_refusal.specs.declared.rule.Rule.TheVariants.{Unexpected}
use Rattle.sf_lex.specs.declared.word.Keyword.TheVariants as words
use Rattle.sf_lex.specs.declared.symbol.Symbol.TheVariants as symbols
use Rattle.sf_lex.specs.Tokens.{Tok, keyword, number, symbol}
use Rattle.sf_term.specs.Trees.{Template, Templates}
use Rattle.sf_grammar.specs.declared.ty.Version.{Version}
use Rattle.sf_grammar.specs.declared.ty.Version.TheVariants as versions
use Rattle.sf_grammar.specs.Spelling.{version_number, spell, spell_template, spell_templates, IsWithinLimits}
use Rattle.sf_grammar.specs.Reading.{Read, got, stop, Counts, parse_opening, parse_template}
use Rattle.sf_grammar.specs.Stopping.{template_counts, NetworkStops, in_opening, in_template}
use Rattle.sf_grammar.proofs.Again.{template_again}
use Rattle.sf_grammar.proofs.Unique.{Splits, limits_split}
use Rattle.sf_place.specs.Places.{IsRefusedToken, TemplateInTexts, SpellsNetwork, LeadsToNetwork, GoesNoFurther}
use Rattle.sf_place.proofs.Spells.{Begun, Fine, fine_got, fine_stop}
use Rattle.sf_place.proofs.Headers.{TemplateText, template_reads, OpeningText, opening_reads}
use Rattle.sf_place.proofs.Limits.{limits_stand}
use Rattle.sf_place.proofs.Stops.{stays}

-- ## Some network has the front

-- tokens in front of others that are as many are the same
same_front : (xs ys before at : List Tok) → xs ++ ys ≡ before ++ at → length ys ≡ length at → xs ≡ before
same_front [] ys [] at same counted = refl
same_front [] ys (b ∷ before) at same counted = absurd (omega (arith, ap length same, length-append before at))
same_front (x ∷ xs) ys [] at same counted = absurd (omega (arith, ap length same, length-append xs ys))
same_front (x ∷ xs) ys (b ∷ before) at same counted =
    let head : x ≡ b = cc in
    let tail : xs ++ ys ≡ before ++ at = cc in
    let others : xs ≡ before = same_front xs ys before at tail counted in
    cc

opening_leads : (front : List Tok) (at : List Tok) → Begun OpeningText front at → (before : List Tok) (there : List Tok) → front ≡ before ++ there → length at ≡ length there → LeadsToNetwork before
opening_leads front at begun before there is counted =
    let same : begun.front ≡ before = same_front begun.front at before there (sym begun.split ∙ is) counted in
    let v : Version = begun.whole.second.first.value in
    let spelled : begun.front ++ begun.more ≡ spell v [] = cc in
    record { more = begun.more; plain = begun.plain; network = record { version = v; network = []; spelled = ap (λ u. u ++ begun.more) (sym same) ∙ spelled; stands = All-nil (TemplateInTexts v) } }

template_leads : (v : Version) (read : Templates) (rest at : List Tok) → All (TemplateInTexts v) read → Begun (TemplateText v) rest at → (before there : List Tok) → spell v [] ++ (spell_templates v read ++ rest) ≡ before ++ there → length at ≡ length there
    → LeadsToNetwork before
template_leads v read rest at stand begun before there is counted =
    let t : Template = begun.whole.value in
    let front : List Tok = spell v [] ++ (spell_templates v read ++ begun.front) in
    let split : front ++ at ≡ spell v [] ++ (spell_templates v read ++ rest) =
    append_assoc (spell v []) (spell_templates v read ++ begun.front) at ∙ ap (λ u. spell v [] ++ u) (append_assoc (spell_templates v read) begun.front at ∙ ap (λ u. spell_templates v read ++ u) (sym begun.split)) in
    let same : front ≡ before = same_front front at before there (split ∙ is) counted in
    let last : spell_templates v (t ∷ []) ≡ spell_template v t = append-nil (spell_template v t) in
    let network : front ++ begun.more ≡ spell v (read ++ (t ∷ [])) =
    append_assoc (spell v []) (spell_templates v read ++ begun.front) begun.more
    ∙ ap (λ u. spell v [] ++ u) (append_assoc (spell_templates v read) begun.front begun.more ∙ ap (λ u. spell_templates v read ++ u) (begun.whole.spelled ∙ sym last) ∙ sym (flat_map-append (spell_template v) read (t ∷ []))) in
    record {
      more = begun.more;
      plain = begun.plain;
      network = record {
        version = v;
        network = read ++ (t ∷ []);
        spelled = ap (λ u. u ++ begun.more) (sym same) ∙ network;
        stands = All-append (TemplateInTexts v) read (t ∷ []) stand (All-cons (TemplateInTexts v) t [] begun.whole.stands (All-nil (TemplateInTexts v)));
      };
    }

leads_from : (tokens : List Tok) (left : ℕ) → NetworkStops tokens Unexpected left → (before there : List Tok) → tokens ≡ before ++ there → left ≡ length there → LeadsToNetwork before
leads_from tokens left (in_opening s) before there is counted = opening_leads tokens s.at ((opening_reads.takes tokens).begun s.at s.is) before there is (sym s.counted ∙ counted)
leads_from tokens left (in_template {rest = behind} v opened s) before there is counted =
    template_leads v s.read s.rest s.stopped.at (limits_stand v s.read s.limited) (((template_reads v (template_counts s.read)).takes s.rest).begun s.stopped.at s.stopped.is) before there
    (sym (opened ∙ ap (λ u. spell v [] ++ u) s.spelled) ∙ is) (sym s.stopped.counted ∙ counted)

pub refused_leads : (before at : List Tok) → IsRefusedToken before at → LeadsToNetwork before
refused_leads before at stops = leads_from (before ++ at) (length at) stops before at refl refl

-- ## No network is refused for a token

fine_goes_on : {A : Type 0} {more : List Tok} {r : Read A} (at : List Tok) → Fine more r → r ≡ stop Unexpected at → ⊥
fine_goes_on at (fine_got a) is = cc
fine_goes_on at (fine_stop fault there other) is = other (cc)

-- what was got was got up to this point
fine_behind : {A : Type 0} {more : List Tok} {r : Read A} (a : A) (rest : List Tok) → Fine more r → r ≡ got a rest → more ≡ rest
fine_behind a rest (fine_got b) is = cc
fine_behind a rest (fine_stop fault there other) is = cc

same_number : (v w : Version) → version_number v ≡ version_number w → v ≡ w
same_number versions.One versions.One same = refl
same_number versions.One versions.Two same = absurd (omega (arith, same))
same_number versions.Two versions.One same = absurd (omega (arith, same))
same_number versions.Two versions.Two same = refl

opening_is : (v : Version) → OpeningText (spell v [])
opening_is v = record {
  one = keyword words.Network ∷ [];
  two = number (pos (version_number v)) ∷ symbol symbols.Semicolon ∷ [];
  split = refl;
  first = record { is = refl };
  second = record { one = number (pos (version_number v)) ∷ []; two = symbol symbols.Semicolon ∷ []; split = refl; first = record { value = v; spelled = refl }; second = record { is = refl } };
}

template_fine : (v : Version) (c : Counts) (t : Template) (more : List Tok) → TemplateInTexts v t → Fine more (parse_template v c (spell_template v t ++ more))
template_fine v c t more stands = (template_reads v c).fine (spell_template v t) more (record { value = t; spelled = refl; stands = stands }) tt

no_counts : Counts
no_counts = record { terms = 0; expressions = 0 }

-- behind templates that were read, the tokens of templates are those of templates
behind_goes_on : (v : Version) (read : Templates) (rest : List Tok) (p : Templates) (c : Counts) (at : List Tok) → IsWithinLimits v read → All (TemplateInTexts v) p → (rest ≡ [] → ⊥) → spell_templates v read ++ rest ≡ spell_templates v p
    → parse_template v c rest ≡ stop Unexpected at → ⊥
unfolding no_counts
behind_goes_on v [] rest [] c at limits stand more same stops = more same
behind_goes_on v [] rest (t ∷ p) c at limits stand more same stops =
    fine_goes_on at (template_fine v c t (spell_templates v p) (All-head (TemplateInTexts v) t p stand)) (ap (parse_template v c) (sym same) ∙ stops)
behind_goes_on v (r ∷ read) rest [] c at limits stand more same stops = cc
behind_goes_on v (r ∷ read) rest (t ∷ p) c at limits stand more same stops =
    let split : Splits v r read = limits_split v r read limits in
    let behind : List Tok = spell_templates v read ++ rest in
    let front : spell_template v t ++ spell_templates v p ≡ spell_template v r ++ behind = sym same ∙ append_assoc (spell_template v r) (spell_templates v read) rest in
    let again : parse_template v no_counts (spell_template v r ++ behind) ≡ got r behind = template_again v r no_counts behind split.typed split.shallow (omega (arith, split.few_terms)) (omega (arith, split.few_expressions)) in
    let others : spell_templates v p ≡ behind =
    fine_behind r behind (template_fine v no_counts t (spell_templates v p) (All-head (TemplateInTexts v) t p stand)) (ap (parse_template v no_counts) front ∙ again) in
    behind_goes_on v read rest p c at split.others (All-tail (TemplateInTexts v) t p stand) more (sym others) stops

stands_goes_on : (tokens : List Tok) (left : ℕ) → NetworkStops tokens Unexpected left → (v : Version) (p : Templates) → All (TemplateInTexts v) p → tokens ≡ spell v p → ⊥
stands_goes_on tokens left (in_opening s) v p stand spelled =
    fine_goes_on s.at (opening_reads.fine (spell v []) (spell_templates v p) (opening_is v) tt) (ap parse_opening (sym spelled) ∙ s.is)
stands_goes_on tokens left (in_template {rest = behind} w opened s) v p stand spelled =
    let both : spell w [] ++ behind ≡ spell v p = sym opened ∙ spelled in
    let numbers : version_number w ≡ version_number v = cc in
    let version : v ≡ w = sym (same_number w v numbers) in
    let tail : behind ≡ spell_templates v p = cc in
    behind_goes_on w s.read s.rest p (template_counts s.read) s.stopped.at s.limited (subst (λ (v : Version). All (TemplateInTexts v) p) version stand) s.more (sym s.spelled ∙ tail ∙ ap (λ v. spell_templates v p) version) s.stopped.is

pub goes_no_further : (before at : List Tok) → IsRefusedToken before at → GoesNoFurther before at
goes_no_further before (t ∷ rest) stops =
    λ more is. stands_goes_on (before ++ (t ∷ more)) (length (t ∷ more)) (stays before rest t stops more) is.version is.network is.stands is.spelled
goes_no_further before [] stops = λ is. stands_goes_on (before ++ []) zero stops is.version is.network is.stands (append-nil before ∙ is.spelled)

pub limits_spell : (v : Version) (p : Templates) → IsWithinLimits v p → SpellsNetwork (spell v p)
limits_spell v p limits = record { version = v; network = p; spelled = refl; stands = limits_stand v p limits }
