-- A front that is refused at its end, and that no network within the limits has.
use Rattle.std.proofs.Common.{◌≡◌, ℕ, zero, suc, ◌<◌, ◌≤◌, List, [], ◌∷◌, ◌++◌, map, refl, sym, ◌∙◌, ap, append_assoc, arith}
use Rattle.std.specs.Prelude.{codes, replicate}
use Rattle.std.proofs.lemmas.List.Elements.{All-nil}
use Rattle.sf_value.specs.Values.{Kind, unit_kind, bool_kind, int_kind, text_kind, pair_kind, event_kind, table_kind}
use Rattle.sf_refusal.specs.declared.rule.Rule.TheVariants.{Unexpected}
use Rattle.sf_lex.specs.declared.word.Keyword.TheVariants as words
use Rattle.sf_lex.specs.declared.symbol.Symbol.TheVariants as symbols
use Rattle.sf_lex.specs.Tokens.{Tok, keyword, name, symbol}
use Rattle.sf_term.specs.Parameters.{Bindings}
use Rattle.sf_term.specs.Trees.{Template, Templates, term_depth}
use Rattle.sf_grammar.specs.declared.ty.Version.{Version}
use Rattle.sf_grammar.specs.declared.ty.Version.TheVariants as versions
use Rattle.sf_grammar.specs.Spelling.{spell, spell_type, spell_term, spell_listed, spell_parameter, spell_template, spell_templates, type_depth, HasWrittenTypes, IsWithinLimits}
use Rattle.sf_grammar.specs.Reading.{Counts, parse_heading, parse_signature, parse_inner_type, parse_outer_type, parse_template, stop}
use Rattle.sf_grammar.specs.Stopping.{template_counts, in_template}
use Rattle.sf_grammar.proofs.Unique.{Splits, limits_split}
use Rattle.sf_place.specs.Places.{IsRefusedToken}

-- the tokens of a template up to a type of so many others, one inside another
deep_front : ℕ → List Tok
deep_front n = keyword words.Template ∷ name (codes "a") ∷ symbol symbols.Open ∷ symbol symbols.Close ∷ symbol symbols.Colon ∷ replicate n (keyword words.Event)

-- the tokens of such a network
pub beyond : List Tok
unfolding deep_front
beyond = spell versions.One [] ++ deep_front 64

deep_stops : (c : Counts) → parse_template versions.One c (deep_front 64 ++ []) ≡ stop Unexpected []
unfolding deep_front parse_template parse_heading parse_signature parse_inner_type parse_outer_type
deep_stops c = refl

nothing_limited : IsWithinLimits versions.One []
nothing_limited =
    let shallow : Template → Type 0 = λ t. term_depth t.body ≤ 64 in
    record { shallow = All-nil shallow; typed = All-nil (HasWrittenTypes versions.One); few_terms = omega arith; few_expressions = omega arith }

not_empty : (n : ℕ) → deep_front n ++ [] ≡ [] → ⊥
unfolding deep_front
not_empty n is = cc

pub beyond_refused : IsRefusedToken beyond []
unfolding beyond
beyond_refused = in_template {rest = deep_front 64 ++ []} versions.One refl (record {
  read = [];
  rest = deep_front 64 ++ [];
  spelled = refl;
  limited = nothing_limited;
  more = not_empty 64;
  stopped = record { at = []; is = deep_stops (template_counts []); counted = refl };
})

-- a type that begins with so many others is deeper
deeper : (v : Version) (n : ℕ) (k : Kind) (rest more : List Tok) → spell_type v k ++ rest ≡ replicate n (keyword words.Event) ++ more → n < type_depth k
deeper v zero unit_kind rest more is = omega arith
deeper v zero bool_kind rest more is = omega arith
deeper v zero int_kind rest more is = omega arith
deeper v zero text_kind rest more is = omega arith
deeper v zero (pair_kind t u) rest more is = omega arith
deeper v zero (event_kind t) rest more is = omega arith
deeper v zero (table_kind k t) rest more is = omega arith
deeper v (suc n) (event_kind t) rest more is = omega (arith, deeper v n t rest more (cc))
deeper v (suc n) _ rest more is = cc

-- a template that begins so has a deep type
deep_input : (v : Version) (n : ℕ) (qs : Bindings) (x : List ℕ) (input : Kind) (r s u more : List Tok)
    → (keyword words.Template ∷ name x ∷ symbol symbols.Open ∷ ((spell_listed (map (spell_parameter v) qs) ++ ((symbol symbols.Colon ∷ (spell_type v input ++ r)) ++ s)) ++ u)) ≡ deep_front n ++ more → n < type_depth input
unfolding deep_front
deep_input v n [] x input r s u more is =
    let behind : ((spell_type v input ++ r) ++ s) ++ u ≡ replicate n (keyword words.Event) ++ more = cc in
    deeper v n input (r ++ (s ++ u)) more (sym (append_assoc (spell_type v input) r (s ++ u)) ∙ sym (append_assoc (spell_type v input ++ r) s u) ∙ behind)
deep_input v n (q ∷ qs) x input r s u more is = cc

no_template : (v : Version) (t : Template) (u more : List Tok) → HasWrittenTypes v t → spell_template v t ++ u ≡ deep_front 64 ++ more → ⊥
no_template v t u more typed is =
    let deep : 64 < type_depth t.input =
    deep_input v 64 t.parameters t.name t.input (symbol symbols.Leads ∷ (spell_type v t.output ++ (symbol symbols.Equals ∷ []))) (spell_term v t.body ++ (symbol symbols.Semicolon ∷ [])) u more is in
    omega (arith, deep, typed.input.shallow)

-- tokens behind the first three
behind_three : List Tok → List Tok
behind_three (a ∷ b ∷ c ∷ ts) = ts
behind_three _ = []

not_deep : (n : ℕ) (more : List Tok) → [] ≡ deep_front n ++ more → ⊥
unfolding deep_front
not_deep n more is = cc

pub beyond_limits : (more : List Tok) (v : Version) (p : Templates) → IsWithinLimits v p → beyond ++ more ≡ spell v p → ⊥
unfolding beyond behind_three
beyond_limits more v [] limits is = not_deep 64 more (sym (ap behind_three is))
beyond_limits more v (t ∷ p) limits is =
    let split : Splits v t p = limits_split v t p limits in
    no_template v t (spell_templates v p) more split.typed (sym (ap behind_three is))
