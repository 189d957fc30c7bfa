-- Tokens spell at most one network, and none where reading stops.
use Rattle.std.proofs.Common.{◌≡◌, ℕ, ◌+◌, ◌≤◌, List, [], ◌∷◌, ◌++◌, refl, sym, ◌∙◌, ap, append_assoc, subst, arith}
use mathlib.Core.Path.{ap₂}
use Rattle.std.specs.List.{All}
use Rattle.std.proofs.lemmas.List.{append-nil}
use Rattle.std.proofs.lemmas.List.Elements.{All-head, All-tail}
use Rattle.std.proofs.lemmas.List.Sums.{sum_by-cons, sum_by-append}
use Rattle.sf_term.specs.Trees.{Template, Templates, term_depth, terms_in, expressions_in}
use Rattle.sf_lex.specs.Tokens.{Tok}
use Rattle.sf_refusal.specs.declared.rule.Rule.{Rule}
use Rattle.sf_grammar.specs.declared.ty.Version.{Version}
use Rattle.sf_grammar.specs.declared.ty.Version.TheVariants as versions
use Rattle.sf_grammar.specs.Spelling.{version_number, spell, spell_template, spell_templates, term_total, expression_total, HasWrittenTypes, IsWithinLimits}
use Rattle.sf_grammar.specs.Reading.{got, stop, Counts, parse_opening, parse_template}
use Rattle.sf_grammar.specs.Stopping.{template_counts, StopsBehind, NetworkStops, in_opening, in_template}
use Rattle.sf_grammar.proofs.Parts.{Same, got_same}
use Rattle.sf_grammar.proofs.Again.{template_again}

-- the first template is within the limits, and so are the others
pub record Splits (v : Version) (t : Template) (p : Templates) : Type 0 where
  pub typed : HasWrittenTypes v t
  pub shallow : term_depth t.body ≤ 64
  pub few_terms : terms_in t.body + term_total p ≤ 100000
  pub few_expressions : expressions_in t.body + expression_total p ≤ 100000
  pub others : IsWithinLimits v p

pub limits_split : (v : Version) (t : Template) (p : Templates) → IsWithinLimits v (t ∷ p) → Splits v t p
limits_split v t p limits =
    let terms : term_total (t ∷ p) ≡ terms_in t.body + term_total p = sum_by-cons (λ (t : Template). terms_in t.body) t p in
    let expressions : expression_total (t ∷ p) ≡ expressions_in t.body + expression_total p = sum_by-cons (λ (t : Template). expressions_in t.body) t p in
    record {
      typed = All-head (HasWrittenTypes v) t p limits.typed;
      shallow = All-head (λ (t : Template). term_depth t.body ≤ 64) t p limits.shallow;
      few_terms = omega (arith, limits.few_terms);
      few_expressions = omega (arith, limits.few_expressions);
      others = record {
        shallow = All-tail (λ (t : Template). term_depth t.body ≤ 64) t p limits.shallow;
        typed = All-tail (HasWrittenTypes v) t p limits.typed;
        few_terms = omega (arith, limits.few_terms);
        few_expressions = omega (arith, limits.few_expressions);
      };
    }

none : Counts
none = record { terms = 0; expressions = 0 }

-- what whole templates are followed by in the tokens of templates
pub record Follows (v : Version) (ps qs : Templates) (rest : List Tok) : Type 0 where
  pub more : Templates
  pub templates : qs ≡ ps ++ more
  pub spelled : rest ≡ spell_templates v more

pub templates_follow : (v : Version) (ps qs : Templates) (rest : List Tok) → IsWithinLimits v ps → IsWithinLimits v qs → spell_templates v ps ++ rest ≡ spell_templates v qs → Follows v ps qs rest
unfolding none
templates_follow v [] qs rest limited limits same = record { more = qs; templates = refl; spelled = same }
templates_follow v (t ∷ ps) [] rest limited limits same = cc
templates_follow v (t ∷ ps) (u ∷ qs) rest limited limits same =
    let one = limits_split v t ps limited in
    let two = limits_split v u qs limits in
    let same' : spell_template v t ++ (spell_templates v ps ++ rest) ≡ spell_template v u ++ spell_templates v qs = sym (append_assoc (spell_template v t) (spell_templates v ps) rest) ∙ same in
    let first : parse_template v none (spell_template v t ++ (spell_templates v ps ++ rest)) ≡ got t (spell_templates v ps ++ rest) = template_again v t none (spell_templates v ps ++ rest) one.typed one.shallow (omega (arith, one.few_terms)) (omega (arith, one.few_expressions)) in
    let second : parse_template v none (spell_template v u ++ spell_templates v qs) ≡ got u (spell_templates v qs) = template_again v u none (spell_templates v qs) two.typed two.shallow (omega (arith, two.few_terms)) (omega (arith, two.few_expressions)) in
    let both : Same t u (spell_templates v ps ++ rest) (spell_templates v qs) = got_same t u (spell_templates v ps ++ rest) (spell_templates v qs) (sym first ∙ ap (parse_template v none) same' ∙ second) in
    let others = templates_follow v ps qs rest one.others two.others both.rest in
    record { more = others.more; templates = ap₂ (λ (t : Template) (ts : Templates). t ∷ ts) (sym both.value) others.templates; spelled = others.spelled }

nothing_spelled : (v : Version) (p : Templates) → [] ≡ spell_templates v p → p ≡ []
nothing_spelled v [] same = refl
nothing_spelled v (t ∷ p) same = cc

same_number : (v w : Version) → version_number v ≡ version_number w → v ≡ w
same_number versions.One versions.One same = refl
same_number versions.One versions.Two same = absurd (omega (arith, same))
same_number versions.Two versions.One same = absurd (omega (arith, same))
same_number versions.Two versions.Two same = refl

-- what tokens say in front of templates
record Opens (v w : Version) (xs ys : List Tok) : Type 0 where
  pub version : v ≡ w
  pub behind : xs ≡ ys

opens_same : (v w : Version) (p q : Templates) (rest : List Tok) → spell v p ++ rest ≡ spell w q → Opens v w (spell_templates v p ++ rest) (spell_templates w q)
opens_same v w p q rest same =
    let numbers : version_number v ≡ version_number w = cc in
    record { version = same_number v w numbers; behind = cc }

-- tokens spell one network at most
pub spelled_once : (v w : Version) (p q : Templates) → IsWithinLimits v p → IsWithinLimits w q → spell v p ≡ spell w q → p ≡ q
spelled_once v w p q one two same =
    let opens = opens_same v w p q [] (append-nil (spell v p) ∙ same) in
    let limits : IsWithinLimits v q = subst (λ (w : Version). IsWithinLimits w q) (sym opens.version) two in
    let behind : spell_templates v p ++ [] ≡ spell_templates v q = opens.behind ∙ ap (λ (w : Version). spell_templates w q) (sym opens.version) in
    let follows = templates_follow v p q [] one limits behind in
    sym (follows.templates ∙ ap (λ ts. p ++ ts) (nothing_spelled v follows.more follows.spelled) ∙ append-nil p)

among : (P : Template → Type 0) (ps : Templates) (t : Template) (more : Templates) → All P (ps ++ (t ∷ more)) → P t
among P [] t more all = All-head P t more all
among P (u ∷ ps) t more all = among P ps t more (All-tail P u (ps ++ (t ∷ more)) all)

-- a template is read again behind others
next_again : (v : Version) (ps : Templates) (t : Template) (more : Templates) → IsWithinLimits v (ps ++ (t ∷ more)) → parse_template v (template_counts ps) (spell_templates v (t ∷ more)) ≡ got t (spell_templates v more)
next_again v ps t more limits =
    let terms : term_total (ps ++ (t ∷ more)) ≡ term_total ps + term_total (t ∷ more) = sum_by-append (λ (t : Template). terms_in t.body) ps (t ∷ more) in
    let expressions : expression_total (ps ++ (t ∷ more)) ≡ expression_total ps + expression_total (t ∷ more) = sum_by-append (λ (t : Template). expressions_in t.body) ps (t ∷ more) in
    let more_terms : term_total (t ∷ more) ≡ terms_in t.body + term_total more = sum_by-cons (λ (t : Template). terms_in t.body) t more in
    let more_expressions : expression_total (t ∷ more) ≡ expressions_in t.body + expression_total more = sum_by-cons (λ (t : Template). expressions_in t.body) t more in
    template_again v t (template_counts ps) (spell_templates v more) (among (HasWrittenTypes v) ps t more limits.typed) (among (λ (t : Template). term_depth t.body ≤ 64) ps t more limits.shallow) (omega (arith, limits.few_terms)) (omega (arith, limits.few_expressions))

pub behind_none : (v : Version) (tokens : List Tok) (fault : Rule) (left : ℕ) → StopsBehind v tokens fault left → (p : Templates) → IsWithinLimits v p → tokens ≡ spell_templates v p → ⊥
behind_none v tokens fault left stops p limits spelled = stops_among (templates_follow v stops.read p stops.rest stops.limited limits (sym stops.spelled ∙ spelled))
  where
    stops_among : Follows v stops.read p stops.rest → ⊥
    stops_among follows = elim follows.more as (λ ms. p ≡ stops.read ++ ms → stops.rest ≡ spell_templates v ms → ⊥) [
      | [] ↦ λ same rest. stops.more rest
      | t ∷ more ↦ λ same rest.
          let again = next_again v stops.read t more (subst (IsWithinLimits v) same limits) in
          let both : stop fault stops.stopped.at ≡ got t (spell_templates v more) = sym stops.stopped.is ∙ ap (parse_template v (template_counts stops.read)) rest ∙ again in cc
    ] follows.templates follows.spelled

opening_again : (v : Version) (p : Templates) → parse_opening (spell v p) ≡ got v (spell_templates v p)
unfolding parse_opening
opening_again versions.One p = refl
opening_again versions.Two p = refl

-- where reading stops, the tokens spell no network within the limits
pub stops_none : (tokens : List Tok) (fault : Rule) (left : ℕ) → NetworkStops tokens fault left → (v : Version) (p : Templates) → IsWithinLimits v p → tokens ≡ spell v p → ⊥
stops_none tokens fault left (in_opening stopped) v p limits spelled =
    let both : stop fault stopped.at ≡ got v (spell_templates v p) = sym stopped.is ∙ ap parse_opening spelled ∙ opening_again v p in cc
stops_none tokens fault left (in_template {rest = rest} w opened stops) v p limits spelled =
    let opens = opens_same w v [] p rest (sym opened ∙ spelled) in
    behind_none v rest fault left (subst (λ (w : Version). StopsBehind w rest fault left) opens.version stops) p limits opens.behind
