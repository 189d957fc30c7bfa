-- What is read is spelled so, within the limits.
use Rattle.std.proofs.Common.{◌≡◌, ℕ, zero, suc, ◌+◌, ◌<◌, ◌≤◌, true, false, pos, List, [], ◌∷◌, ◌++◌, Option, Some, None, refl, sym, ◌∙◌, ap, subst, append_assoc, arith, ℤ, Bool, if◌then◌else◌, length, map}
use Rattle.std.specs.List.{All}
use Rattle.std.proofs.lemmas.List.Elements.{All-cons, All-nil}
use Rattle.sf_value.specs.Values.{Name, KeyKind, int_keys, Kind, pair_kind, event_kind, table_kind, nodes}
use Rattle.sf_expr.specs.Expressions.{Pattern, unnamed, named, both, pattern_depth, unit_literal, truth_literal, int_literal, text_literal, none_literal, Expression, variable, literal, applied, operation, conditional, mapped, called, size, Function, function, function_depth, function_size}
use Rattle.sf_expr.specs.Expressions
use Rattle.sf_operator.specs.declared.operator.Unary.{Unary}
use Rattle.sf_operator.specs.declared.operator.Operator.{Operator}
use Rattle.sf_operator.specs.declared.operator.Mapping.{Mapping}
use Rattle.sf_operator.specs.declared.operator.Mapping.TheVariants as mappings
use Rattle.sf_operator.specs.declared.operator.Folding.{Folding}
use Rattle.sf_term.specs.declared.form.Bare.TheVariants as bares
use Rattle.sf_term.specs.declared.form.WithValue.{WithValue}
use Rattle.sf_term.specs.declared.form.WithValue.TheVariants as values
use Rattle.sf_term.specs.declared.form.Timing.{Timing}
use Rattle.sf_term.specs.declared.form.Selection.{Selection}
use Rattle.sf_term.specs.declared.form.Accumulation.{Accumulation}
use Rattle.sf_term.specs.declared.form.Join.{Join}
use Rattle.sf_term.specs.declared.form.Side.{Side}
use Rattle.sf_term.specs.declared.form.Heading.{Heading}
use Rattle.sf_term.specs.declared.form.Heading.TheVariants as headings
use Rattle.sf_term.specs.declared.form.Observation.{Observation}
use Rattle.sf_term.specs.declared.form.Switching.{Switching}
use Rattle.sf_term.specs.declared.form.Start.TheVariants as starts
use Rattle.sf_term.specs.declared.form.Naming.{Naming}
use Rattle.sf_term.specs.declared.form.Naming.TheVariants as namings
use Rattle.sf_term.specs.Parameters.{NameKind, Bindings}
use Rattle.sf_term.specs.Parameters
use Rattle.sf_term.specs.Trees.{Collection, without_members, used, added, dropped, kept, chosen, gathered, releasing, editing, collection_depth, terms_collected, expressions_collected, Primitive, terms_with_value, bare, never, with_value, timed, selected, arrow, accumulated, Term, primitive, reference, joined, sided, headed, transformed, switching, continuing, call, named_term, Arguments, no_arguments, Template, term_depth, arguments_depth, terms_in, expressions_in, expressions_in_arguments}
use Rattle.sf_lex.specs.declared.word.Keyword.{Keyword}
use Rattle.sf_lex.specs.declared.word.Keyword.TheVariants as words
use Rattle.sf_lex.specs.declared.symbol.Symbol.{Symbol}
use Rattle.sf_lex.specs.declared.symbol.Symbol.TheVariants as symbols
use Rattle.sf_lex.specs.Tokens.{Tok, keyword, name, number, text, symbol}
use Rattle.sf_grammar.specs.declared.ty.Version.{Version}
use Rattle.sf_grammar.specs.declared.ty.TypeHead.{TypeHead}
use Rattle.sf_grammar.specs.declared.ty.TypeHead.TheVariants as type_heads
use Rattle.sf_grammar.specs.declared.ty.Version.TheVariants as versions
use Rattle.sf_grammar.specs.declared.head.Head.{Head}
use Rattle.sf_grammar.specs.declared.head.Head.TheVariants as heads
use Rattle.sf_grammar.specs.declared.head.CollectionHead.{CollectionHead}
use Rattle.sf_grammar.specs.declared.head.CollectionHead.TheVariants as collection_heads
use Rattle.sf_grammar.specs.declared.head.ExpressionHead.{ExpressionHead}
use Rattle.sf_grammar.specs.declared.head.ExpressionHead.TheVariants as expression_heads
use Rattle.sf_grammar.specs.declared.head.Link.{Link}
use Rattle.sf_grammar.specs.declared.head.Link.TheVariants as links
use Rattle.sf_grammar.specs.Spelling.{releasing_word, editing_word, spell_collection, spell_key_kind, WritesKeys, WritesCollection, stands_initially, spell_value, head_makes, in_brackets, version_number, mapping_word, folding_word, spell_keys, spell_type, spell_mapping, spell_pattern, spell_expression, spell_function, spell_further, spell_listed, spell_term, spell_arguments, spell_name_kind, spell_parameter, spell_heading, spell_signature, spell_template, value_word, side_word, heading_token, timing_word, selection_word, accumulation_word, switching_word, continuing_word, naming_token, join_symbol, type_depth, WritesType, IsWrittenType, WritesExpression, WritesFunction, WritesTerm, WritesArguments, WritesNameKind, HasWrittenTypes}
use Rattle.sf_grammar.specs.Reading.{parse_number, parse_never, parse_timed, parse_selected, Read, got, ◌and_then◌, Counts, counted_term, counts_with_expression, counts_with_function, begins_type, begins_pattern, begins_expression, begins_term, type_head, word_kind, parse_keys, parse_outer_type, parse_headed_type, type_from, parse_inner_type, parse_pair_type, parse_pattern, parse_pattern_pair, link_of, link_read, parse_link, linked, parse_linked, behind_close, bracketed_from, parse_none, expression_head, parse_prefixed, parse_one_in_brackets, parse_two_in_brackets, parse_conditional, parse_mapping, parse_let, mapped_by, folded_by, parse_one_and_function, parse_two_and_function, parse_called, parse_worded_expression, parse_expression, expression_read, parse_function, parse_term, parse_joined, parse_value, parse_arrow, parse_accumulated, parse_sided, parse_headed, parse_transformed, parse_body, parse_switching, parse_named, parse_continuing, Actual, actual_value, actual_process, leading_actual, counts_with_actual, behind_first, behind_list, ArgumentWord, no_word, process_word, collection_word, argument_word, parse_shallow, parse_collection, parse_gathered, parse_releasing, parse_editing, parse_edit, parse_empty, parse_used, parse_added, parse_dropped, parse_kept, parse_chosen, parse_form, parse_collection_form, parse_behind_collection_head, collection_head, begins_collection, parse_key_kind, parse_collection_kind, parse_kind_from, counts_with_collection, actual_collection, argument_from, parse_argument, parse_arguments, parse_call, behind_leads, further_from, parse_further, listed_read, parse_listed, parameter_kind_from, parse_name_kind, parse_parameter, parse_parameters, parse_separator, parse_behind_head, begins_fresh, head_of, join_of, parse_join, join_read, term_read, parse_parts, parse_opening, parse_heading, parse_signature, parse_template, template_of, parse_symbol, parse_name, parse_type, parse_keyword, parse_version}
use Rattle.sf_grammar.proofs.Words.{IsHeadToken, head_takes, IsFresh, fresh_takes, IsLone, named_alone, keyword_written, join_takes, link_token, LinksBetween, IsLinkToken, link_takes, BeginsWith, expression_head_takes, type_word, type_token, type_head_takes, IsWordKind, word_kind_is, close_takes, leads_takes, process_word_takes, collection_word_takes, list_takes, collection_takes}
use Rattle.sf_grammar.proofs.Parts.{spell_actual, separator_token, separator_takes, Same, bind_got, got_same, within_takes, deep_takes, met_takes, parts_takes, brackets_took, three_behind, symbol_takes, keyword_takes, name_takes, version_takes, TookKeys, keys_takes}

pub record TookType (v : Version) (d met : ℕ) (tokens : List Tok) (k : Kind) (rest : List Tok) : Type 0 where
  pub spelled : tokens ≡ spell_type v k ++ rest
  pub shallow : type_depth k ≤ d
  pub few : met + nodes k ≤ 256
  pub known : WritesType v k

took_type_as : (v : Version) (d met : ℕ) (tokens : List Tok) (j k : Kind) (r u : List Tok) → got j r ≡ got k u → TookType v d met tokens j r → TookType v d met tokens k u
took_type_as v d met tokens j k r u is took =
    let same : Same j k r u = got_same j k r u is in
    subst (λ (k : Kind). TookType v d met tokens k u) same.value (subst (λ (r : List Tok). TookType v d met tokens j r) same.rest took)

-- each type that is read with so much depth, within the whole type that begins at `start`, was taken
abbrev TakesTypes : Version → ℕ → List Tok → Type 0
TakesTypes v d start = (met : ℕ) (tokens : List Tok) (k : Kind) (rest : List Tok) → parse_inner_type d v start met tokens ≡ got k rest → TookType v d met tokens k rest

pair_type_takes : (v : Version) (d : ℕ) (start : List Tok) (met : ℕ) (tokens : List Tok) (k : Kind) (rest : List Tok) → TakesTypes v d start
    → parse_pair_type (parse_inner_type d v start) met tokens ≡ got k rest → TookType v (suc d) met (symbol symbols.Open ∷ tokens) k rest
unfolding parse_pair_type
pair_type_takes v d start met tokens k rest part is =
    parts_takes (parse_inner_type d v start (met + 1)) (parse_symbol symbols.Comma) (λ t. parse_inner_type d v start (met + 1 + nodes t)) (λ t _ u rest. got (pair_kind t u) rest) tokens k rest is
    (λ t m u r1 r2 r3 r4 at_t at_m at_u closed is_k.
    let one : TookType v d (met + 1) tokens t r1 = part (met + 1) tokens t r1 at_t in
    let two : TookType v d (met + 1 + nodes t) r2 u r3 = part (met + 1 + nodes t) r2 u r3 at_u in
    took_type_as v (suc d) met (symbol symbols.Open ∷ tokens) (pair_kind t u) k r4 rest is_k (record {
      spelled = brackets_took (spell_type v t) (spell_type v u) tokens r1 r2 r3 r4 (symbol symbols.Comma) one.spelled (symbol_takes symbols.Comma r1 m r2 at_m) two.spelled closed;
      shallow = omega (arith, one.shallow, two.shallow);
      few = omega (arith, two.few);
      known = (one.known, two.known);
    }))

-- a type that is made of one part, behind `front`
outer_type_takes : (v : Version) (d : ℕ) (start : List Tok) (whole : Kind → Kind) (met : ℕ) (front tokens : List Tok) (k : Kind) (rest : List Tok) → TakesTypes v d start
    → ((t : Kind) (behind : List Tok) → TookType v d (met + 1) tokens t behind → TookType v (suc d) met (front ++ tokens) (whole t) behind)
    → parse_outer_type (parse_inner_type d v start) whole met tokens ≡ got k rest → TookType v (suc d) met (front ++ tokens) k rest
unfolding parse_outer_type
outer_type_takes v d start whole met front tokens k rest part around is =
    bind_got (λ t r. got (whole t) r) (parse_inner_type d v start (met + 1) tokens) k rest is (λ t behind at_t is_k.
    took_type_as v (suc d) met (front ++ tokens) (whole t) k behind rest is_k (around t behind (part (met + 1) tokens t behind at_t)))

headed_type_takes : (v : Version) (d : ℕ) (start : List Tok) (h : TypeHead) (met : ℕ) (tokens : List Tok) (k : Kind) (rest : List Tok) → met < 256 → TakesTypes v d start
    → parse_headed_type (parse_inner_type d v start) v h met tokens ≡ got k rest → TookType v (suc d) met (type_token h ∷ tokens) k rest
headed_type_takes v d start (type_heads.Word w) met tokens k rest few part is =
    let word : IsWordKind v w = word_kind_is v w in
    took_type_as v (suc d) met (keyword (type_word w) ∷ tokens) (word_kind w) k tokens rest is
    (record { spelled = rw word.spelled refl; shallow = omega (arith, word.depth); few = omega (arith, word.one); known = word.known })
headed_type_takes v d start type_heads.Event met tokens k rest few part is =
    outer_type_takes v d start event_kind met (keyword words.Event ∷ []) tokens k rest part (λ t behind one. record {
      spelled = ap (λ r. keyword words.Event ∷ r) one.spelled;
      shallow = omega (arith, one.shallow);
      few = omega (arith, one.few);
      known = one.known;
    }) is
headed_type_takes v d start type_heads.Table met tokens k rest few part is =
    bind_got (λ j r. parse_outer_type (parse_inner_type d v start) (table_kind j) met r) (parse_keys v tokens) k rest is (λ j r1 at_j is_k.
    let keys : TookKeys v tokens j r1 = keys_takes v tokens j r1 at_j in
    subst (λ (ts : List Tok). TookType v (suc d) met (keyword words.Table ∷ ts) k rest) (sym keys.spelled)
    (outer_type_takes v d start (table_kind j) met (keyword words.Table ∷ spell_keys v j) r1 k rest part (λ t behind one. record {
      spelled = ap (λ r. keyword words.Table ∷ r) (ap (λ r. spell_keys v j ++ r) one.spelled ∙ sym (append_assoc (spell_keys v j) (spell_type v t) behind));
      shallow = omega (arith, one.shallow);
      few = omega (arith, one.few);
      known = (keys.known, one.known);
    }) is_k))
headed_type_takes v d start type_heads.Pair met tokens k rest few part is = pair_type_takes v d start met tokens k rest part is

type_from_takes : (v : Version) (d : ℕ) (start : List Tok) (met : ℕ) (h : Option TypeHead) (t : Tok) (tokens : List Tok) (k : Kind) (rest : List Tok) → TakesTypes v d start → type_head t ≡ h
    → type_from (parse_inner_type d v start) v start met h (t ∷ tokens) tokens ≡ got k rest → TookType v (suc d) met (t ∷ tokens) k rest
type_from_takes v d start met (Some h) t tokens k rest part found is =
    met_takes met start (parse_headed_type (parse_inner_type d v start) v h met tokens) k rest is (λ few same.
    subst (λ (t : Tok). TookType v (suc d) met (t ∷ tokens) k rest) (sym (type_head_takes t h found)) (headed_type_takes v d start h met tokens k rest few part same))
type_from_takes v d start met None t tokens k rest part found is = cc

pub inner_type_takes : (v : Version) (d : ℕ) (start : List Tok) → TakesTypes v d start
unfolding parse_inner_type
inner_type_takes v zero start met tokens k rest is = deep_takes begins_type tokens k rest is
inner_type_takes v (suc d) start met (t ∷ tokens) k rest is = type_from_takes v d start met (type_head t) t tokens k rest (inner_type_takes v d start) refl is
inner_type_takes v (suc d) start met [] k rest is = cc

pub written_type : (v : Version) (d : ℕ) (tokens : List Tok) (k : Kind) (rest : List Tok) → TookType v d 0 tokens k rest → IsWrittenType v d k
written_type v d tokens k rest took = record { shallow = took.shallow; few = omega (arith, took.few); known = took.known }

pub record TookPattern (d : ℕ) (tokens : List Tok) (p : Pattern) (rest : List Tok) : Type 0 where
  pub spelled : tokens ≡ spell_pattern p ++ rest
  pub shallow : pattern_depth p ≤ d

took_pattern_as : (d : ℕ) (tokens : List Tok) (p q : Pattern) (r u : List Tok) → got p r ≡ got q u → TookPattern d tokens p r → TookPattern d tokens q u
took_pattern_as d tokens p q r u is took =
    let same : Same p q r u = got_same p q r u is in
    subst (λ (q : Pattern). TookPattern d tokens q u) same.value (subst (λ (r : List Tok). TookPattern d tokens p r) same.rest took)

pattern_pair_takes : (d : ℕ) (tokens : List Tok) (p : Pattern) (rest : List Tok) → ((tokens : List Tok) (p : Pattern) (rest : List Tok) → parse_pattern d tokens ≡ got p rest → TookPattern d tokens p rest)
    → parse_pattern_pair (parse_pattern d) tokens ≡ got p rest → TookPattern (suc d) (symbol symbols.Open ∷ tokens) p rest
unfolding parse_pattern_pair
pattern_pair_takes d tokens p rest part is =
    parts_takes (parse_pattern d) (parse_symbol symbols.Comma) (λ _. parse_pattern d) (λ p _ q rest. got (both p q) rest) tokens p rest is
    (λ a m b r1 r2 r3 r4 at_a at_m at_b closed is_p.
    let one : TookPattern d tokens a r1 = part tokens a r1 at_a in
    let two : TookPattern d r2 b r3 = part r2 b r3 at_b in
    took_pattern_as (suc d) (symbol symbols.Open ∷ tokens) (both a b) p r4 rest is_p (record {
      spelled = brackets_took (spell_pattern a) (spell_pattern b) tokens r1 r2 r3 r4 (symbol symbols.Comma) one.spelled (symbol_takes symbols.Comma r1 m r2 at_m) two.spelled closed;
      shallow = omega (arith, one.shallow, two.shallow);
    }))

pub pattern_takes : (d : ℕ) (tokens : List Tok) (p : Pattern) (rest : List Tok) → parse_pattern d tokens ≡ got p rest → TookPattern d tokens p rest
unfolding parse_pattern
pattern_takes zero tokens p rest is = deep_takes begins_pattern tokens p rest is
pattern_takes (suc d) (keyword words.Underscore ∷ tokens) p rest is =
    took_pattern_as (suc d) (keyword words.Underscore ∷ tokens) unnamed p tokens rest is (record { spelled = refl; shallow = omega arith })
pattern_takes (suc d) (name n ∷ tokens) p rest is =
    took_pattern_as (suc d) (name n ∷ tokens) (named n) p tokens rest is (record { spelled = refl; shallow = omega arith })
pattern_takes (suc d) (symbol symbols.Open ∷ tokens) p rest is = pattern_pair_takes d tokens p rest (pattern_takes d) is
pattern_takes (suc d) _ p rest is = cc

pub record TookExpression (v : Version) (d : ℕ) (c : Counts) (tokens : List Tok) (e : Expression) (rest : List Tok) : Type 0 where
  pub spelled : tokens ≡ spell_expression v e ++ rest
  pub shallow : Expressions.depth e ≤ d
  pub few : c.expressions + size e ≤ 100000
  pub known : WritesExpression v d e

took_expression_as : (v : Version) (d : ℕ) (c : Counts) (tokens : List Tok) (e f : Expression) (r u : List Tok) → Same e f r u → TookExpression v d c tokens e r → TookExpression v d c tokens f u
took_expression_as v d c tokens e f r u same took =
    subst (λ (e : Expression). TookExpression v d c tokens e u) same.value (subst (λ (r : List Tok). TookExpression v d c tokens e r) same.rest took)

-- what stands between two expressions was taken
pub record TookLink (tokens : List Tok) (l : Link) (rest : List Tok) : Type 0 where
  pub spelled : tokens ≡ link_token l ∷ rest
  pub between : LinksBetween l

link_from_takes : (o : Option Link) (t : Tok) (tokens : List Tok) (l : Link) (rest : List Tok) → link_of t ≡ o → link_read o (t ∷ tokens) tokens ≡ got l rest → TookLink (t ∷ tokens) l rest
link_from_takes (Some k) t tokens l rest found is =
    let same : Same k l tokens rest = got_same k l tokens rest is in
    let link : IsLinkToken t k = link_takes t k found in
    subst (λ (l : Link). TookLink (t ∷ tokens) l rest) same.value (record { spelled = rw (← link.token, same.rest) refl; between = link.between })
link_from_takes None t tokens l rest found is = cc

pub link_at_takes : (tokens : List Tok) (l : Link) (rest : List Tok) → parse_link tokens ≡ got l rest → TookLink tokens l rest
link_at_takes (t ∷ tokens) l rest is = link_from_takes (link_of t) t tokens l rest refl is
link_at_takes [] l rest is = cc

-- two expressions in brackets
linked_took : (v : Version) (l : Link) (e f : Expression) (d : ℕ) (c : Counts) (tokens r1 r2 r3 rest : List Tok) → TookExpression v d c tokens e r1 → TookLink r1 l r2
    → TookExpression v d (counts_with_expression c e) r2 f r3 → r3 ≡ symbol symbols.Close ∷ rest → c.expressions + size (linked l e f) ≤ 100000
    → TookExpression v (suc d) c (symbol symbols.Open ∷ tokens) (linked l e f) rest
linked_took v links.Pair e f d c tokens r1 r2 r3 rest one between two closed few = record {
  spelled = brackets_took (spell_expression v e) (spell_expression v f) tokens r1 r2 r3 rest (link_token links.Pair) one.spelled between.spelled two.spelled closed;
  shallow = omega (arith, one.shallow, two.shallow);
  few = few;
  known = (one.known, two.known);
}
linked_took v (links.Operation o) e f d c tokens r1 r2 r3 rest one between two closed few = record {
  spelled = rw between.between (brackets_took (spell_expression v e) (spell_expression v f) tokens r1 r2 r3 rest (link_token (links.Operation o)) one.spelled between.spelled two.spelled closed);
  shallow = omega (arith, one.shallow, two.shallow);
  few = few;
  known = (one.known, two.known);
}

-- each expression that is read with so much depth was taken
abbrev TakesExpressions : Version → ℕ → Type 0
TakesExpressions v d = (c : Counts) (tokens : List Tok) (e : Expression) (rest : List Tok) → parse_expression d v c tokens ≡ got e rest → TookExpression v d c tokens e rest

linked_takes : (v : Version) (d : ℕ) (c : Counts) (tokens : List Tok) (e : Expression) (rest : List Tok) → TakesExpressions v d
    → parse_linked (parse_expression d v) c (symbol symbols.Open ∷ tokens) tokens ≡ got e rest → TookExpression v (suc d) c (symbol symbols.Open ∷ tokens) e rest
unfolding parse_linked
linked_takes v d c tokens e rest part is =
    let start : List Tok = symbol symbols.Open ∷ tokens in
    parts_takes (parse_expression d v c) parse_link (λ e. parse_expression d v (counts_with_expression c e)) (λ e l f rest. expression_read c (linked l e f) start rest) tokens e rest is
    (λ a l b r1 r2 r3 r4 at_a at_l at_b closed is_e.
    within_takes (c.expressions + size (linked l a b)) (linked l a b) e start r4 rest is_e (λ few same.
    took_expression_as v (suc d) c start (linked l a b) e r4 rest same
    (linked_took v l a b d c tokens r1 r2 r3 r4 (part c tokens a r1 at_a) (link_at_takes r1 l r2 at_l) (part (counts_with_expression c a) r2 b r3 at_b) closed few)))

bracketed_takes : (v : Version) (d : ℕ) (c : Counts) (o : Option (List Tok)) (tokens : List Tok) (e : Expression) (rest : List Tok) → TakesExpressions v d → behind_close tokens ≡ o
    → bracketed_from (parse_expression d v) c o (symbol symbols.Open ∷ tokens) tokens ≡ got e rest → TookExpression v (suc d) c (symbol symbols.Open ∷ tokens) e rest
bracketed_takes v d c (Some behind) tokens e rest part found is =
    let start : List Tok = symbol symbols.Open ∷ tokens in
    within_takes (c.expressions + 1) (literal unit_literal) e start behind rest is (λ few same.
    took_expression_as v (suc d) c start (literal unit_literal) e behind rest same
    (record { spelled = ap (λ r. symbol symbols.Open ∷ r) (close_takes tokens behind found); shallow = omega arith; few = few; known = tt }))
bracketed_takes v d c None tokens e rest part found is = linked_takes v d c tokens e rest part is

none_takes : (v : Version) (d : ℕ) (c : Counts) (k : Keyword) (tokens : List Tok) (e : Expression) (rest : List Tok) → k ≡ words.NoEvent
    → parse_none d v c (keyword k ∷ tokens) tokens ≡ got e rest → TookExpression v (suc d) c (keyword k ∷ tokens) e rest
unfolding parse_none
none_takes v d c k tokens e rest word is =
    let start : List Tok = keyword k ∷ tokens in
    bind_got (λ t r. expression_read c (literal (none_literal t)) start r) (parse_inner_type d v tokens 0 tokens) e rest is (λ t behind at_t is_e.
    let took : TookType v d 0 tokens t behind = inner_type_takes v d tokens 0 tokens t behind at_t in
    within_takes (c.expressions + 1) (literal (none_literal t)) e start behind rest is_e (λ few same.
    took_expression_as v (suc d) c start (literal (none_literal t)) e behind rest same
    (record { spelled = rw (word, took.spelled) refl; shallow = omega arith; few = few; known = written_type v d tokens t behind took })))

-- an operator on what was taken behind its word
prefixed_takes : (v : Version) (d : ℕ) (c : Counts) (o : Unary) (k : Keyword) (tokens : List Tok) (e : Expression) (rest : List Tok) → TakesExpressions v d → BeginsWith (expression_heads.Prefixed o) k
    → parse_prefixed (parse_expression d v) c o (keyword k ∷ tokens) tokens ≡ got e rest → TookExpression v (suc d) c (keyword k ∷ tokens) e rest
unfolding parse_prefixed
prefixed_takes v d c o k tokens e rest part begins is =
    let start : List Tok = keyword k ∷ tokens in
    bind_got (λ f r. expression_read c (applied o f) start r) (parse_expression d v c tokens) e rest is (λ f r1 at_f is_f.
    within_takes (c.expressions + size (applied o f)) (applied o f) e start r1 rest is_f (λ few same.
    let one : TookExpression v d c tokens f r1 = part c tokens f r1 at_f in
    took_expression_as v (suc d) c start (applied o f) e r1 rest same
    (record { spelled = rw (begins.0, begins.1, one.spelled) refl; shallow = omega (arith, one.shallow); few = few; known = one.known })))

-- an operator on what was taken in brackets behind its word
one_in_brackets_takes : (v : Version) (d : ℕ) (c : Counts) (o : Unary) (k : Keyword) (tokens : List Tok) (e : Expression) (rest : List Tok) → TakesExpressions v d → BeginsWith (expression_heads.OneInBrackets o) k
    → parse_one_in_brackets (parse_expression d v) c o (keyword k ∷ tokens) tokens ≡ got e rest → TookExpression v (suc d) c (keyword k ∷ tokens) e rest
unfolding parse_one_in_brackets
one_in_brackets_takes v d c o k tokens e rest part begins is =
    let start : List Tok = keyword k ∷ tokens in
    bind_got (λ _ r. parse_expression d v c r and_then λ f r. parse_symbol symbols.Close r and_then λ _ r. expression_read c (applied o f) start r) (parse_symbol symbols.Open tokens) e rest is (λ u r0 opened is_u.
    bind_got (λ f r. parse_symbol symbols.Close r and_then λ _ r. expression_read c (applied o f) start r) (parse_expression d v c r0) e rest is_u (λ f r1 at_f is_f.
    bind_got (λ _ r. expression_read c (applied o f) start r) (parse_symbol symbols.Close r1) e rest is_f (λ w r2 closed is_w.
    within_takes (c.expressions + size (applied o f)) (applied o f) e start r2 rest is_w (λ few same.
    let one : TookExpression v d c r0 f r1 = part c r0 f r1 at_f in
    took_expression_as v (suc d) c start (applied o f) e r2 rest same (record {
      spelled = rw (
        begins.0,
        begins.1,
        symbol_takes symbols.Open tokens u r0 opened,
        one.spelled,
        symbol_takes symbols.Close r1 w r2 closed,
        append_assoc (spell_expression v f) (symbol symbols.Close ∷ []) r2,
      ) refl;
      shallow = omega (arith, one.shallow);
      few = few;
      known = one.known;
    })))))

-- an operator on the two that were taken in brackets behind its word
two_in_brackets_takes : (v : Version) (d : ℕ) (c : Counts) (o : Operator) (k : Keyword) (tokens : List Tok) (e : Expression) (rest : List Tok) → TakesExpressions v d → BeginsWith (expression_heads.TwoInBrackets o) k
    → parse_two_in_brackets (parse_expression d v) c o (keyword k ∷ tokens) tokens ≡ got e rest → TookExpression v (suc d) c (keyword k ∷ tokens) e rest
unfolding parse_two_in_brackets
two_in_brackets_takes v d c o k tokens e rest part begins is =
    let start : List Tok = keyword k ∷ tokens in
    bind_got (λ _ r. parse_parts (parse_expression d v c) (parse_symbol symbols.Comma) (λ f. parse_expression d v (counts_with_expression c f)) (λ f _ g rest. expression_read c (operation f o g) start rest) r)
    (parse_symbol symbols.Open tokens) e rest is (λ u r0 opened is_u.
    parts_takes (parse_expression d v c) (parse_symbol symbols.Comma) (λ f. parse_expression d v (counts_with_expression c f)) (λ f _ g rest. expression_read c (operation f o g) start rest) r0 e rest is_u
    (λ f m g r1 r2 r3 r4 at_f at_m at_g closed is_e.
    within_takes (c.expressions + size (operation f o g)) (operation f o g) e start r4 rest is_e (λ few same.
    let one : TookExpression v d c r0 f r1 = part c r0 f r1 at_f in
    let two : TookExpression v d (counts_with_expression c f) r2 g r3 = part (counts_with_expression c f) r2 g r3 at_g in
    took_expression_as v (suc d) c start (operation f o g) e r4 rest same (record {
      spelled = rw (begins.1, ← begins.0) (ap (λ r. keyword k ∷ r) (symbol_takes symbols.Open tokens u r0 opened
          ∙ brackets_took (spell_expression v f) (spell_expression v g) r0 r1 r2 r3 r4 (symbol symbols.Comma) one.spelled (symbol_takes symbols.Comma r1 m r2 at_m) two.spelled closed));
      shallow = omega (arith, one.shallow, two.shallow);
      few = few;
      known = (one.known, two.known);
    }))))

-- three parts, with words between them
conditional_takes : (v : Version) (d : ℕ) (c : Counts) (k : Keyword) (tokens : List Tok) (e : Expression) (rest : List Tok) → TakesExpressions v d → k ≡ words.If
    → parse_conditional (parse_expression d v) c (keyword k ∷ tokens) tokens ≡ got e rest → TookExpression v (suc d) c (keyword k ∷ tokens) e rest
unfolding parse_conditional
conditional_takes v d c k tokens e rest part word is =
    let start : List Tok = keyword k ∷ tokens in
    let last : Expression → Expression → List Tok → Read Expression = λ f g r. parse_expression d v (counts_with_expression (counts_with_expression c f) g) r and_then λ h r. expression_read c (conditional f g h) start r in
    let second : Expression → List Tok → Read Expression = λ f r. parse_expression d v (counts_with_expression c f) r and_then λ g r. parse_keyword words.Else r and_then λ _ r. last f g r in
    bind_got (λ f r. parse_keyword words.Then r and_then λ _ r. second f r) (parse_expression d v c tokens) e rest is (λ f r1 at_f is_f.
    bind_got (λ _ r. second f r) (parse_keyword words.Then r1) e rest is_f (λ u r2 then_word is_u.
    bind_got (λ g r. parse_keyword words.Else r and_then λ _ r. last f g r) (parse_expression d v (counts_with_expression c f) r2) e rest is_u (λ g r3 at_g is_g.
    bind_got (λ _ r. last f g r) (parse_keyword words.Else r3) e rest is_g (λ w r4 else_word is_w.
    bind_got (λ h r. expression_read c (conditional f g h) start r) (parse_expression d v (counts_with_expression (counts_with_expression c f) g) r4) e rest is_w (λ h r5 at_h is_h.
    within_takes (c.expressions + size (conditional f g h)) (conditional f g h) e start r5 rest is_h (λ few same.
    let one : TookExpression v d c tokens f r1 = part c tokens f r1 at_f in
    let two : TookExpression v d (counts_with_expression c f) r2 g r3 = part (counts_with_expression c f) r2 g r3 at_g in
    let three : TookExpression v d (counts_with_expression (counts_with_expression c f) g) r4 h r5 = part (counts_with_expression (counts_with_expression c f) g) r4 h r5 at_h in
    took_expression_as v (suc d) c start (conditional f g h) e r5 rest same (record {
      spelled = rw (
        word,
        one.spelled,
        keyword_takes words.Then r1 u r2 then_word,
        two.spelled,
        keyword_takes words.Else r3 w r4 else_word,
        three.spelled,
        three_behind (spell_expression v f) (spell_expression v g) (spell_expression v h) r5 (keyword words.Then) (keyword words.Else),
      ) refl;
      shallow = omega (arith, one.shallow, two.shallow, three.shallow);
      few = few;
      known = (one.known, two.known, three.known);
    })))))))

pub record TookFunction (v : Version) (d : ℕ) (c : Counts) (tokens : List Tok) (f : Function) (rest : List Tok) : Type 0 where
  pub spelled : tokens ≡ spell_function v f ++ rest
  pub shallow : function_depth f ≤ d
  pub few : c.expressions + function_size f ≤ 100000
  pub known : WritesFunction v d f

mapping_takes : (v : Version) (d : ℕ) (c : Counts) (tokens : List Tok) (f : Function) (rest : List Tok) → TakesExpressions v d → parse_mapping d (parse_expression d v) c tokens ≡ got f rest → TookFunction v d c tokens f rest
mapping_takes v d c tokens f rest part is =
    bind_got (λ p r. parse_symbol symbols.MapsTo r and_then λ _ r. parse_expression d v c r and_then λ e r. got (function p e) r) (parse_pattern d tokens) f rest is (λ p r1 at_p is_p.
    bind_got (λ _ r. parse_expression d v c r and_then λ e r. got (function p e) r) (parse_symbol symbols.MapsTo r1) f rest is_p (λ u r2 leads is_u.
    bind_got (λ e r. got (function p e) r) (parse_expression d v c r2) f rest is_u (λ e r3 at_e is_e.
    let one : TookPattern d tokens p r1 = pattern_takes d tokens p r1 at_p in
    let two : TookExpression v d c r2 e r3 = part c r2 e r3 at_e in
    let same : Same (function p e) f r3 rest = got_same (function p e) f r3 rest is_e in
    let took : TookFunction v d c tokens (function p e) r3 = record {
      spelled = rw (one.spelled, symbol_takes symbols.MapsTo r1 u r2 leads, two.spelled, append_assoc (spell_pattern p) (symbol symbols.MapsTo ∷ spell_expression v e) r3) refl;
      shallow = omega (arith, one.shallow, two.shallow);
      few = two.few;
      known = two.known;
    } in
    subst (λ (f : Function). TookFunction v d c tokens f rest) same.value (subst (λ (r : List Tok). TookFunction v d c tokens (function p e) r) same.rest took))))

-- a pattern, the value that it names, and a body
let_takes : (v : Version) (d : ℕ) (c : Counts) (k : Keyword) (tokens : List Tok) (e : Expression) (rest : List Tok) → TakesExpressions v d → k ≡ words.Let
    → parse_let d (parse_expression d v) c (keyword k ∷ tokens) tokens ≡ got e rest → TookExpression v (suc d) c (keyword k ∷ tokens) e rest
unfolding parse_let
let_takes v d c k tokens e rest part word is =
    let start : List Tok = keyword k ∷ tokens in
    let last : Pattern → Expression → List Tok → Read Expression = λ p f r. parse_expression d v (counts_with_expression c f) r and_then λ g r. expression_read c (mapped f mappings.Let p g) start r in
    let value : Pattern → List Tok → Read Expression = λ p r. parse_expression d v c r and_then λ f r. parse_keyword words.In r and_then λ _ r. last p f r in
    bind_got (λ p r. parse_symbol symbols.Equals r and_then λ _ r. value p r) (parse_pattern d tokens) e rest is (λ p r1 at_p is_p.
    bind_got (λ _ r. value p r) (parse_symbol symbols.Equals r1) e rest is_p (λ u r2 equals is_u.
    bind_got (λ f r. parse_keyword words.In r and_then λ _ r. last p f r) (parse_expression d v c r2) e rest is_u (λ f r3 at_f is_f.
    bind_got (λ _ r. last p f r) (parse_keyword words.In r3) e rest is_f (λ w r4 in_word is_w.
    bind_got (λ g r. expression_read c (mapped f mappings.Let p g) start r) (parse_expression d v (counts_with_expression c f) r4) e rest is_w (λ g r5 at_g is_g.
    within_takes (c.expressions + size (mapped f mappings.Let p g)) (mapped f mappings.Let p g) e start r5 rest is_g (λ few same.
    let pattern : TookPattern d tokens p r1 = pattern_takes d tokens p r1 at_p in
    let one : TookExpression v d c r2 f r3 = part c r2 f r3 at_f in
    let two : TookExpression v d (counts_with_expression c f) r4 g r5 = part (counts_with_expression c f) r4 g r5 at_g in
    took_expression_as v (suc d) c start (mapped f mappings.Let p g) e r5 rest same (record {
      spelled = rw (
        word,
        pattern.spelled,
        symbol_takes symbols.Equals r1 u r2 equals,
        one.spelled,
        keyword_takes words.In r3 w r4 in_word,
        two.spelled,
        three_behind (spell_pattern p) (spell_expression v f) (spell_expression v g) r5 (symbol symbols.Equals) (keyword words.In),
      ) refl;
      shallow = omega (arith, pattern.shallow, one.shallow, two.shallow);
      few = few;
      known = (one.known, two.known);
    })))))))

-- a value and a function in brackets behind a word
mapped_took : (v : Version) (m : Mapping) (f : Expression) (g : Function) (d : ℕ) (c : Counts) (k : Keyword) (tokens r0 r1 r2 r3 rest : List Tok) → BeginsWith (expression_heads.OneAndFunction m) k → tokens ≡ symbol symbols.Open ∷ r0
    → TookExpression v d c r0 f r1 → r1 ≡ symbol symbols.Comma ∷ r2 → TookFunction v d (counts_with_expression c f) r2 g r3 → r3 ≡ symbol symbols.Close ∷ rest
    → c.expressions + size (mapped_by f m g) ≤ 100000 → TookExpression v (suc d) c (keyword k ∷ tokens) (mapped_by f m g) rest
mapped_took v m f (function p g) d c k tokens r0 r1 r2 r3 rest begins opened one comma two closed few = record {
  spelled = rw (begins.0, begins.1) (ap (λ r. keyword (mapping_word m) ∷ r) (opened ∙ brackets_took (spell_expression v f) (spell_function v (function p g)) r0 r1 r2 r3 rest (symbol symbols.Comma) one.spelled comma two.spelled closed));
  shallow = omega (arith, one.shallow, two.shallow);
  few = few;
  known = (one.known, two.known);
}

one_and_function_takes : (v : Version) (d : ℕ) (c : Counts) (m : Mapping) (k : Keyword) (tokens : List Tok) (e : Expression) (rest : List Tok) → TakesExpressions v d → BeginsWith (expression_heads.OneAndFunction m) k
    → parse_one_and_function d (parse_expression d v) c m (keyword k ∷ tokens) tokens ≡ got e rest → TookExpression v (suc d) c (keyword k ∷ tokens) e rest
unfolding parse_one_and_function
one_and_function_takes v d c m k tokens e rest part begins is =
    let start : List Tok = keyword k ∷ tokens in
    let behind : Expression → List Tok → Read Function = λ f. parse_mapping d (parse_expression d v) (counts_with_expression c f) in
    bind_got (λ _ r. parse_parts (parse_expression d v c) (parse_symbol symbols.Comma) behind (λ f _ g rest. expression_read c (mapped_by f m g) start rest) r) (parse_symbol symbols.Open tokens) e rest is (λ u r0 opened is_u.
    parts_takes (parse_expression d v c) (parse_symbol symbols.Comma) behind (λ f _ g rest. expression_read c (mapped_by f m g) start rest) r0 e rest is_u
    (λ f w g r1 r2 r3 r4 at_f at_w at_g closed is_e.
    within_takes (c.expressions + size (mapped_by f m g)) (mapped_by f m g) e start r4 rest is_e (λ few same.
    took_expression_as v (suc d) c start (mapped_by f m g) e r4 rest same
    (mapped_took v m f g d c k tokens r0 r1 r2 r3 r4 begins (symbol_takes symbols.Open tokens u r0 opened) (part c r0 f r1 at_f) (symbol_takes symbols.Comma r1 w r2 at_w)
    (mapping_takes v d (counts_with_expression c f) r2 g r3 part at_g) closed few))))

-- two values and a function in brackets behind a word
folded_took : (v : Version) (o : Folding) (f g : Expression) (h : Function) (d : ℕ) (c : Counts) (k : Keyword) (tokens r0 r1 r2 r3 r4 r5 rest : List Tok) → k ≡ folding_word o → tokens ≡ symbol symbols.Open ∷ r0
    → TookExpression v d c r0 f r1 → r1 ≡ symbol symbols.Comma ∷ r2 → TookExpression v d (counts_with_expression c f) r2 g r3 → r3 ≡ symbol symbols.Comma ∷ r4
    → TookFunction v d (counts_with_expression (counts_with_expression c f) g) r4 h r5 → r5 ≡ symbol symbols.Close ∷ rest
    → c.expressions + size (folded_by f o g h) ≤ 100000 → TookExpression v (suc d) c (keyword k ∷ tokens) (folded_by f o g h) rest
folded_took v o f g (function p h) d c k tokens r0 r1 r2 r3 r4 r5 rest word opened one comma two second three closed few =
    let function_tokens : List Tok = spell_function v (function p h) in
    let behind : r2 ≡ (spell_expression v g ++ (symbol symbols.Comma ∷ function_tokens)) ++ r5 = rw (two.spelled, second, three.spelled, append_assoc (spell_expression v g) (symbol symbols.Comma ∷ function_tokens) r5) refl in
    record {
      spelled = rw word (ap (λ r. keyword (folding_word o) ∷ r) (opened ∙ brackets_took (spell_expression v f) (spell_expression v g ++ (symbol symbols.Comma ∷ function_tokens)) r0 r1 r2 r5 rest (symbol symbols.Comma) one.spelled comma behind closed));
      shallow = omega (arith, one.shallow, two.shallow, three.shallow);
      few = few;
      known = (one.known, two.known, three.known);
    }

two_and_function_takes : (v : Version) (d : ℕ) (c : Counts) (o : Folding) (k : Keyword) (tokens : List Tok) (e : Expression) (rest : List Tok) → TakesExpressions v d → k ≡ folding_word o
    → parse_two_and_function d (parse_expression d v) c o (keyword k ∷ tokens) tokens ≡ got e rest → TookExpression v (suc d) c (keyword k ∷ tokens) e rest
unfolding parse_two_and_function
two_and_function_takes v d c o k tokens e rest part word is =
    let start : List Tok = keyword k ∷ tokens in
    let behind : Expression → Expression → List Tok → Read Function = λ f g. parse_mapping d (parse_expression d v) (counts_with_expression (counts_with_expression c f) g) in
    let others : Expression → List Tok → Read Expression = λ f r. parse_parts (parse_expression d v (counts_with_expression c f)) (parse_symbol symbols.Comma) (behind f) (λ g _ h rest. expression_read c (folded_by f o g h) start rest) r in
    bind_got (λ _ r. parse_expression d v c r and_then λ f r. parse_symbol symbols.Comma r and_then λ _ r. others f r) (parse_symbol symbols.Open tokens) e rest is (λ u r0 opened is_u.
    bind_got (λ f r. parse_symbol symbols.Comma r and_then λ _ r. others f r) (parse_expression d v c r0) e rest is_u (λ f r1 at_f is_f.
    bind_got (λ _ r. others f r) (parse_symbol symbols.Comma r1) e rest is_f (λ w r2 at_w is_w.
    parts_takes (parse_expression d v (counts_with_expression c f)) (parse_symbol symbols.Comma) (behind f) (λ g _ h rest. expression_read c (folded_by f o g h) start rest) r2 e rest is_w
    (λ g x h r3 r4 r5 r6 at_g at_x at_h closed is_e.
    within_takes (c.expressions + size (folded_by f o g h)) (folded_by f o g h) e start r6 rest is_e (λ few same.
    took_expression_as v (suc d) c start (folded_by f o g h) e r6 rest same
    (folded_took v o f g h d c k tokens r0 r1 r2 r3 r4 r5 r6 word (symbol_takes symbols.Open tokens u r0 opened) (part c r0 f r1 at_f) (symbol_takes symbols.Comma r1 w r2 at_w)
    (part (counts_with_expression c f) r2 g r3 at_g) (symbol_takes symbols.Comma r3 x r4 at_x) (mapping_takes v d (counts_with_expression (counts_with_expression c f) g) r4 h r5 part at_h) closed few))))))

-- a name and an argument in brackets
called_takes : (v : Version) (d : ℕ) (c : Counts) (k : Keyword) (tokens : List Tok) (e : Expression) (rest : List Tok) → TakesExpressions v d → k ≡ words.Call
    → parse_called (parse_expression d v) c (keyword k ∷ tokens) tokens ≡ got e rest → TookExpression v (suc d) c (keyword k ∷ tokens) e rest
unfolding parse_called
called_takes v d c k tokens e rest part word is =
    let start : List Tok = keyword k ∷ tokens in
    let argument : Name → List Tok → Read Expression = λ g r. parse_expression d v c r and_then λ f r. parse_symbol symbols.Close r and_then λ _ r. expression_read c (called g f) start r in
    bind_got (λ g r. parse_symbol symbols.Open r and_then λ _ r. argument g r) (parse_name tokens) e rest is (λ g r0 at_g is_g.
    bind_got (λ _ r. argument g r) (parse_symbol symbols.Open r0) e rest is_g (λ u r1 opened is_u.
    bind_got (λ f r. parse_symbol symbols.Close r and_then λ _ r. expression_read c (called g f) start r) (parse_expression d v c r1) e rest is_u (λ f r2 at_f is_f.
    bind_got (λ _ r. expression_read c (called g f) start r) (parse_symbol symbols.Close r2) e rest is_f (λ w r3 closed is_w.
    within_takes (c.expressions + size (called g f)) (called g f) e start r3 rest is_w (λ few same.
    let one : TookExpression v d c r1 f r2 = part c r1 f r2 at_f in
    took_expression_as v (suc d) c start (called g f) e r3 rest same (record {
      spelled = rw (
        word,
        name_takes tokens g r0 at_g,
        symbol_takes symbols.Open r0 u r1 opened,
        one.spelled,
        symbol_takes symbols.Close r2 w r3 closed,
        append_assoc (spell_expression v f) (symbol symbols.Close ∷ []) r3,
      ) refl;
      shallow = omega (arith, one.shallow);
      few = few;
      known = one.known;
    }))))))

-- a form that is a token alone
alone_takes : (v : Version) (d : ℕ) (c : Counts) (t : Tok) (f : Expression) (tokens : List Tok) (e : Expression) (rest : List Tok) → t ∷ [] ≡ spell_expression v f → Expressions.depth f ≡ 1 → size f ≡ 1 → WritesExpression v (suc d) f
    → expression_read c f (t ∷ tokens) tokens ≡ got e rest → TookExpression v (suc d) c (t ∷ tokens) e rest
alone_takes v d c t f tokens e rest spelled depth one known is =
    within_takes (c.expressions + size f) f e (t ∷ tokens) tokens rest is (λ few same.
    took_expression_as v (suc d) c (t ∷ tokens) f e tokens rest same
    (record { spelled = ap (λ (front : List Tok). front ++ tokens) spelled; shallow = omega (arith, depth); few = few; known = known }))

worded_expression_takes : (v : Version) (d : ℕ) (c : Counts) (h : Option ExpressionHead) (k : Keyword) (tokens : List Tok) (e : Expression) (rest : List Tok) → TakesExpressions v d → expression_head k ≡ h
    → parse_worded_expression d v (parse_expression d v) c h (keyword k ∷ tokens) tokens ≡ got e rest → TookExpression v (suc d) c (keyword k ∷ tokens) e rest
worded_expression_takes v d c (Some (expression_heads.Truth true)) k tokens e rest part found is =
    alone_takes v d c (keyword k) (literal (truth_literal true)) tokens e rest (ap (λ w. keyword w ∷ []) (expression_head_takes k (expression_heads.Truth true) found)) refl refl tt is
worded_expression_takes v d c (Some (expression_heads.Truth false)) k tokens e rest part found is =
    alone_takes v d c (keyword k) (literal (truth_literal false)) tokens e rest (ap (λ w. keyword w ∷ []) (expression_head_takes k (expression_heads.Truth false) found)) refl refl tt is
worded_expression_takes v d c (Some expression_heads.NoEvent) k tokens e rest part found is =
    none_takes v d c k tokens e rest (expression_head_takes k expression_heads.NoEvent found) is
worded_expression_takes v d c (Some (expression_heads.Prefixed o)) k tokens e rest part found is = prefixed_takes v d c o k tokens e rest part (expression_head_takes k (expression_heads.Prefixed o) found) is
worded_expression_takes v d c (Some (expression_heads.OneInBrackets o)) k tokens e rest part found is = one_in_brackets_takes v d c o k tokens e rest part (expression_head_takes k (expression_heads.OneInBrackets o) found) is
worded_expression_takes v d c (Some (expression_heads.TwoInBrackets o)) k tokens e rest part found is = two_in_brackets_takes v d c o k tokens e rest part (expression_head_takes k (expression_heads.TwoInBrackets o) found) is
worded_expression_takes v d c (Some expression_heads.Conditional) k tokens e rest part found is =
    conditional_takes v d c k tokens e rest part (expression_head_takes k expression_heads.Conditional found) is
worded_expression_takes v d c (Some expression_heads.Let) k tokens e rest part found is =
    let_takes v d c k tokens e rest part (expression_head_takes k expression_heads.Let found) is
worded_expression_takes v d c (Some (expression_heads.OneAndFunction m)) k tokens e rest part found is = one_and_function_takes v d c m k tokens e rest part (expression_head_takes k (expression_heads.OneAndFunction m) found) is
worded_expression_takes v d c (Some (expression_heads.TwoAndFunction o)) k tokens e rest part found is = two_and_function_takes v d c o k tokens e rest part (expression_head_takes k (expression_heads.TwoAndFunction o) found) is
worded_expression_takes v d c (Some expression_heads.Called) k tokens e rest part found is =
    called_takes v d c k tokens e rest part (expression_head_takes k expression_heads.Called found) is
worded_expression_takes v d c None k tokens e rest part found is = cc

pub expression_takes : (v : Version) (d : ℕ) → TakesExpressions v d
unfolding parse_expression
expression_takes v zero c tokens e rest is = deep_takes begins_expression tokens e rest is
expression_takes v (suc d) c (name n ∷ tokens) e rest is = alone_takes v d c (name n) (variable n) tokens e rest refl refl refl tt is
expression_takes v (suc d) c (number z ∷ tokens) e rest is = alone_takes v d c (number z) (literal (int_literal z)) tokens e rest refl refl refl tt is
expression_takes v (suc d) c (text x ∷ tokens) e rest is = alone_takes v d c (text x) (literal (text_literal x)) tokens e rest refl refl refl tt is
expression_takes v (suc d) c (keyword k ∷ tokens) e rest is = worded_expression_takes v d c (expression_head k) k tokens e rest (expression_takes v d) refl is
expression_takes v (suc d) c (symbol symbols.Open ∷ tokens) e rest is = bracketed_takes v d c (behind_close tokens) tokens e rest (expression_takes v d) refl is
expression_takes v (suc d) c _ e rest is = cc

pub function_takes : (v : Version) (d : ℕ) (c : Counts) (tokens : List Tok) (f : Function) (rest : List Tok) → parse_function d v c tokens ≡ got f rest → TookFunction v d c tokens f rest
unfolding parse_function
function_takes v d c tokens f rest is = mapping_takes v d c tokens f rest (expression_takes v d) is

pub record Took (v : Version) (d : ℕ) (c : Counts) (tokens : List Tok) (t : Term) (rest : List Tok) : Type 0 where
  pub spelled : tokens ≡ spell_term v t ++ rest
  pub shallow : term_depth t ≤ d
  pub few_terms : c.terms + terms_in t ≤ 100000
  pub few_expressions : c.expressions + expressions_in t ≤ 100000
  pub known : WritesTerm v d t

took_as : (v : Version) (d : ℕ) (c : Counts) (tokens : List Tok) (s t : Term) (r u : List Tok) → Same s t r u → Took v d c tokens s r → Took v d c tokens t u
took_as v d c tokens s t r u same took =
    subst (λ (t : Term). Took v d c tokens t u) same.value (subst (λ (r : List Tok). Took v d c tokens s r) same.rest took)

-- each term that is read with so much depth was taken
abbrev Takes : Version → ℕ → Type 0
Takes v d = (c : Counts) (tokens : List Tok) (t : Term) (rest : List Tok) → c.expressions ≤ 100000 → parse_term d v c tokens ≡ got t rest → Took v d c tokens t rest

-- a value behind its word is spelled so
value_spelled : (k : WithValue) (value : List Tok) → stands_initially k ≡ false → spell_value (stands_initially k) (value_word k) value ≡ keyword (value_word k) ∷ value
value_spelled k value behind = rw behind refl

value_takes : (v : Version) (d : ℕ) (c : Counts) (k : WithValue) (tokens : List Tok) (t : Term) (rest : List Tok) → stands_initially k ≡ false
    → parse_value d v c k (keyword (value_word k) ∷ tokens) tokens ≡ got t rest → Took v (suc d) c (keyword (value_word k) ∷ tokens) t rest
unfolding parse_value
value_takes v d c k tokens t rest so is =
    let start : List Tok = keyword (value_word k) ∷ tokens in
    bind_got (λ e behind. term_read c (primitive (with_value k e)) start behind) (parse_expression d v c tokens) t rest is (λ e behind at_e is_e.
    within_takes (c.terms + terms_with_value k) (primitive (with_value k e)) t start behind rest is_e (λ few_terms same.
    let took : TookExpression v d c tokens e behind = expression_takes v d c tokens e behind at_e in
    took_as v (suc d) c start (primitive (with_value k e)) t behind rest same
    (record { spelled = ap (λ r. keyword (value_word k) ∷ r) took.spelled ∙ ap (λ r. r ++ behind) (sym (value_spelled k (spell_expression v e) so)); shallow = omega (arith, took.shallow); few_terms = few_terms; few_expressions = took.few; known = took.known })))

never_takes : (v : Version) (d : ℕ) (c : Counts) (tokens : List Tok) (t : Term) (rest : List Tok) → c.expressions ≤ 100000
    → parse_never d v c (keyword words.Never ∷ tokens) tokens ≡ got t rest → Took v (suc d) c (keyword words.Never ∷ tokens) t rest
unfolding parse_never
never_takes v d c tokens t rest few is =
    let start : List Tok = keyword words.Never ∷ tokens in
    bind_got (λ u r. term_read c (primitive (never u)) start r) (parse_inner_type d v tokens 0 tokens) t rest is (λ u behind at_u is_u.
    let took : TookType v d 0 tokens u behind = inner_type_takes v d tokens 0 tokens u behind at_u in
    within_takes (c.terms + 1) (primitive (never u)) t start behind rest is_u (λ few_terms same.
    took_as v (suc d) c start (primitive (never u)) t behind rest same
    (record { spelled = ap (λ r. keyword words.Never ∷ r) took.spelled; shallow = omega arith; few_terms = few_terms; few_expressions = omega arith; known = written_type v d tokens u behind took })))

number_takes : (tokens : List Tok) (q : ℤ) (rest : List Tok) → parse_number tokens ≡ got q rest → tokens ≡ number q ∷ rest
number_takes (number z ∷ tokens) q rest is = let same = got_same z q tokens rest is in let e : z ≡ q = same.value in let r : tokens ≡ rest = same.rest in cc
number_takes _ q rest is = cc

timed_takes : (v : Version) (d : ℕ) (c : Counts) (k : Timing) (tokens : List Tok) (t : Term) (rest : List Tok)
    → parse_timed d v c k (keyword (timing_word k) ∷ tokens) tokens ≡ got t rest → Took v (suc d) c (keyword (timing_word k) ∷ tokens) t rest
unfolding parse_timed
timed_takes v d c k tokens t rest is =
    let start : List Tok = keyword (timing_word k) ∷ tokens in
    bind_got (λ q r. parse_expression d v c r and_then λ e behind. term_read c (primitive (timed k q e)) start behind) (parse_number tokens) t rest is (λ q r at_q is_q.
    bind_got (λ e behind. term_read c (primitive (timed k q e)) start behind) (parse_expression d v c r) t rest is_q (λ e behind at_e is_e.
    within_takes (c.terms + 1) (primitive (timed k q e)) t start behind rest is_e (λ few_terms same.
    let took : TookExpression v d c r e behind = expression_takes v d c r e behind at_e in
    took_as v (suc d) c start (primitive (timed k q e)) t behind rest same
    (record { spelled = ap (λ r. keyword (timing_word k) ∷ r) (number_takes tokens q r at_q ∙ ap (λ r. number q ∷ r) took.spelled); shallow = omega (arith, took.shallow); few_terms = few_terms; few_expressions = took.few; known = took.known }))))

selected_takes : (v : Version) (d : ℕ) (c : Counts) (k : Selection) (tokens : List Tok) (t : Term) (rest : List Tok) → c.expressions ≤ 100000
    → parse_selected c k (keyword (selection_word k) ∷ tokens) tokens ≡ got t rest → Took v (suc d) c (keyword (selection_word k) ∷ tokens) t rest
unfolding parse_selected
selected_takes v d c k tokens t rest few is =
    let start : List Tok = keyword (selection_word k) ∷ tokens in
    bind_got (λ n r. term_read c (primitive (selected k n)) start r) (parse_number tokens) t rest is (λ n behind at_n is_n.
    within_takes (c.terms + 1) (primitive (selected k n)) t start behind rest is_n (λ few_terms same.
    took_as v (suc d) c start (primitive (selected k n)) t behind rest same
    (record { spelled = ap (λ r. keyword (selection_word k) ∷ r) (number_takes tokens n behind at_n); shallow = omega arith; few_terms = few_terms; few_expressions = omega arith; known = tt })))

arrow_takes : (v : Version) (d : ℕ) (c : Counts) (tokens : List Tok) (t : Term) (rest : List Tok)
    → parse_arrow d v c (keyword words.Arr ∷ tokens) tokens ≡ got t rest → Took v (suc d) c (keyword words.Arr ∷ tokens) t rest
unfolding parse_arrow
arrow_takes v d c tokens t rest is =
    let start : List Tok = keyword words.Arr ∷ tokens in
    bind_got (λ f behind. term_read c (primitive (arrow f)) start behind) (parse_function d v c tokens) t rest is (λ f behind at_f is_f.
    within_takes (c.terms + 1) (primitive (arrow f)) t start behind rest is_f (λ few_terms same.
    let took : TookFunction v d c tokens f behind = function_takes v d c tokens f behind at_f in
    took_as v (suc d) c start (primitive (arrow f)) t behind rest same
    (record { spelled = ap (λ r. keyword words.Arr ∷ r) took.spelled; shallow = omega (arith, took.shallow); few_terms = few_terms; few_expressions = took.few; known = took.known })))

accumulated_takes : (v : Version) (d : ℕ) (c : Counts) (k : Accumulation) (tokens : List Tok) (t : Term) (rest : List Tok)
    → parse_accumulated d v c k (keyword (accumulation_word k) ∷ tokens) tokens ≡ got t rest → Took v (suc d) c (keyword (accumulation_word k) ∷ tokens) t rest
unfolding parse_accumulated
accumulated_takes v d c k tokens t rest is =
    let start : List Tok = keyword (accumulation_word k) ∷ tokens in
    bind_got (λ _ r. parse_parts (parse_expression d v c) (parse_symbol symbols.Comma) (λ e. parse_function d v (counts_with_expression c e)) (λ e _ f rest. term_read c (primitive (accumulated k e f)) start rest) r)
    (parse_symbol symbols.Open tokens) t rest is (λ u r0 opened is_u.
    parts_takes (parse_expression d v c) (parse_symbol symbols.Comma) (λ e. parse_function d v (counts_with_expression c e)) (λ e _ f rest. term_read c (primitive (accumulated k e f)) start rest) r0 t rest is_u
    (λ e m f r1 r2 r3 r4 at_e at_m at_f closed is_t.
    within_takes (c.terms + 1) (primitive (accumulated k e f)) t start r4 rest is_t (λ few_terms same.
    let one : TookExpression v d c r0 e r1 = expression_takes v d c r0 e r1 at_e in
    let two : TookFunction v d (counts_with_expression c e) r2 f r3 = function_takes v d (counts_with_expression c e) r2 f r3 at_f in
    took_as v (suc d) c start (primitive (accumulated k e f)) t r4 rest same (record {
      spelled = ap (λ r. keyword (accumulation_word k) ∷ r) (symbol_takes symbols.Open tokens u r0 opened
          ∙ brackets_took (spell_expression v e) (spell_function v f) r0 r1 r2 r3 r4 (symbol symbols.Comma) one.spelled (symbol_takes symbols.Comma r1 m r2 at_m) two.spelled closed);
      shallow = omega (arith, one.shallow, two.shallow);
      few_terms = few_terms;
      few_expressions = omega (arith, two.few);
      known = (one.known, two.known);
    }))))

sided_takes : (v : Version) (d : ℕ) (c : Counts) (s : Side) (tokens : List Tok) (t : Term) (rest : List Tok) → Takes v d → c.expressions ≤ 100000
    → parse_sided (parse_term d v) c s (keyword (side_word s) ∷ tokens) tokens ≡ got t rest → Took v (suc d) c (keyword (side_word s) ∷ tokens) t rest
unfolding parse_sided
sided_takes v d c s tokens t rest part few is =
    let start : List Tok = keyword (side_word s) ∷ tokens in
    bind_got (λ f behind. term_read c (sided s f) start behind) (parse_term d v c tokens) t rest is (λ f behind at_f is_f.
    within_takes (c.terms + terms_in (sided s f)) (sided s f) t start behind rest is_f (λ few_terms same.
    let took : Took v d c tokens f behind = part c tokens f behind few at_f in
    took_as v (suc d) c start (sided s f) t behind rest same
    (record { spelled = ap (λ r. keyword (side_word s) ∷ r) took.spelled; shallow = omega (arith, took.shallow); few_terms = few_terms; few_expressions = took.few_expressions; known = took.known })))

-- what a head makes: one primitive, or a term with the head
pub data HeadMakes : Heading → Expression → Term → Term → Type 0 where
  with_pre : {e : Expression} → HeadMakes headings.Initialized e (primitive (bare bares.Pre)) (primitive (with_value values.InitializedPre e))
  stays_headed : {h : Heading} {e : Expression} {f : Term} → head_makes h e f ≡ headed h e f → HeadMakes h e f (headed h e f)

initialized_view : (e : Expression) (p : Primitive) → HeadMakes headings.Initialized e (primitive p) (head_makes headings.Initialized e (primitive p))
initialized_view e (bare bares.Pre) = with_pre
initialized_view e _ = stays_headed refl

pub head_view : (h : Heading) (e : Expression) (f : Term) → HeadMakes h e f (head_makes h e f)
head_view headings.Initialized e (primitive p) = initialized_view e p
head_view _ e f = stays_headed refl

headed_took : (v : Version) (d : ℕ) (c : Counts) {h : Heading} {e : Expression} {f t : Term} {start r0 r1 r2 r3 rest : List Tok} → HeadMakes h e f t
    → start ≡ (heading_token h ∷ in_brackets (spell_expression v e) (symbol symbols.Comma) (spell_term v f)) ++ rest → TookExpression v d c r0 e r1 → Took v d (counts_with_expression c e) r2 f r3 → c.terms + terms_in t ≤ 100000 → Took v (suc d) c start t rest
headed_took v d c with_pre spelled one two few = record { spelled = spelled; shallow = omega (arith, one.shallow); few_terms = few; few_expressions = one.few; known = one.known }
headed_took v d c (stays_headed k) spelled one two few =
    record { spelled = spelled; shallow = omega (arith, one.shallow, two.shallow); few_terms = few; few_expressions = omega (arith, two.few_expressions); known = (k, one.known, two.known) }

headed_takes : (v : Version) (d : ℕ) (c : Counts) (h : Heading) (tokens : List Tok) (t : Term) (rest : List Tok) → Takes v d
    → parse_headed d v (parse_term d v) c h (heading_token h ∷ tokens) tokens ≡ got t rest → Took v (suc d) c (heading_token h ∷ tokens) t rest
unfolding parse_headed
headed_takes v d c h tokens t rest part is =
    let start : List Tok = heading_token h ∷ tokens in
    bind_got (λ _ r. parse_parts (parse_expression d v c) (parse_symbol symbols.Comma) (λ e. parse_term d v (counts_with_expression c e)) (λ e _ f rest. term_read c (head_makes h e f) start rest) r)
    (parse_symbol symbols.Open tokens) t rest is (λ u r0 opened is_u.
    parts_takes (parse_expression d v c) (parse_symbol symbols.Comma) (λ e. parse_term d v (counts_with_expression c e)) (λ e _ f rest. term_read c (head_makes h e f) start rest) r0 t rest is_u
    (λ e m f r1 r2 r3 r4 at_e at_m at_f closed is_t.
    within_takes (c.terms + terms_in (head_makes h e f)) (head_makes h e f) t start r4 rest is_t (λ few_terms same.
    let one : TookExpression v d c r0 e r1 = expression_takes v d c r0 e r1 at_e in
    let two : Took v d (counts_with_expression c e) r2 f r3 = part (counts_with_expression c e) r2 f r3 one.few at_f in
    took_as v (suc d) c start (head_makes h e f) t r4 rest same
    (headed_took v d c (head_view h e f) (ap (λ r. heading_token h ∷ r) (symbol_takes symbols.Open tokens u r0 opened
    ∙ brackets_took (spell_expression v e) (spell_term v f) r0 r1 r2 r3 r4 (symbol symbols.Comma) one.spelled (symbol_takes symbols.Comma r1 m r2 at_m) two.spelled closed)) one two few_terms))))

transformed_takes : (v : Version) (d : ℕ) (c : Counts) (tokens : List Tok) (t : Term) (rest : List Tok) → Takes v d
    → parse_transformed d v (parse_term d v) c (symbol symbols.MapsFirstInput ∷ tokens) tokens ≡ got t rest → Took v (suc d) c (symbol symbols.MapsFirstInput ∷ tokens) t rest
unfolding parse_transformed
transformed_takes v d c tokens t rest part is =
    let start : List Tok = symbol symbols.MapsFirstInput ∷ tokens in
    bind_got (λ _ r. parse_parts (parse_function d v c) (parse_symbol symbols.Comma) (λ h. parse_term d v (counts_with_function c h)) (λ h _ f rest. term_read c (transformed h f) start rest) r)
    (parse_symbol symbols.Open tokens) t rest is (λ u r0 opened is_u.
    parts_takes (parse_function d v c) (parse_symbol symbols.Comma) (λ h. parse_term d v (counts_with_function c h)) (λ h _ f rest. term_read c (transformed h f) start rest) r0 t rest is_u
    (λ h m f r1 r2 r3 r4 at_h at_m at_f closed is_t.
    within_takes (c.terms + terms_in (transformed h f)) (transformed h f) t start r4 rest is_t (λ few_terms same.
    let one : TookFunction v d c r0 h r1 = function_takes v d c r0 h r1 at_h in
    let two : Took v d (counts_with_function c h) r2 f r3 = part (counts_with_function c h) r2 f r3 one.few at_f in
    took_as v (suc d) c start (transformed h f) t r4 rest same (record {
      spelled = ap (λ r. symbol symbols.MapsFirstInput ∷ r) (symbol_takes symbols.Open tokens u r0 opened
          ∙ brackets_took (spell_function v h) (spell_term v f) r0 r1 r2 r3 r4 (symbol symbols.Comma) one.spelled (symbol_takes symbols.Comma r1 m r2 at_m) two.spelled closed);
      shallow = omega (arith, one.shallow, two.shallow);
      few_terms = few_terms;
      few_expressions = omega (arith, two.few_expressions);
      known = (one.known, two.known);
    }))))

-- what was taken of the body of a switch
pub record TookBody (v : Version) (d : ℕ) (c : Counts) (tokens : List Tok) (b : Pattern × Term) (rest : List Tok) : Type 0 where
  pub spelled : tokens ≡ spell_mapping (spell_pattern b.0) (spell_term v b.1) ++ rest
  pub pattern : pattern_depth b.0 ≤ d
  pub shallow : term_depth b.1 ≤ d
  pub few_terms : c.terms + terms_in b.1 ≤ 100000
  pub few_expressions : c.expressions + expressions_in b.1 ≤ 100000
  pub known : WritesTerm v d b.1

pub body_takes : (v : Version) (d : ℕ) (c : Counts) (tokens : List Tok) (b : Pattern × Term) (rest : List Tok) → Takes v d → c.expressions ≤ 100000
    → parse_body d (parse_term d v) c tokens ≡ got b rest → TookBody v d c tokens b rest
body_takes v d c tokens b rest part few is =
    bind_got (λ p r. parse_symbol symbols.MapsTo r and_then λ _ r. parse_term d v c r and_then λ f r. got (p, f) r) (parse_pattern d tokens) b rest is (λ p r1 at_p is_p.
    bind_got (λ _ r. parse_term d v c r and_then λ f r. got (p, f) r) (parse_symbol symbols.MapsTo r1) b rest is_p (λ u r2 leads is_u.
    bind_got (λ f r. got (p, f) r) (parse_term d v c r2) b rest is_u (λ f r3 at_f is_f.
    let one : TookPattern d tokens p r1 = pattern_takes d tokens p r1 at_p in
    let two : Took v d c r2 f r3 = part c r2 f r3 few at_f in
    let same : Same (p, f) b r3 rest = got_same (p, f) b r3 rest is_f in
    let took : TookBody v d c tokens (p, f) r3 = record {
      spelled = rw (one.spelled, symbol_takes symbols.MapsTo r1 u r2 leads, two.spelled, append_assoc (spell_pattern p) (symbol symbols.MapsTo ∷ spell_term v f) r3) refl;
      pattern = one.shallow;
      shallow = two.shallow;
      few_terms = two.few_terms;
      few_expressions = two.few_expressions;
      known = two.known;
    } in
    subst (λ (b : Pattern × Term). TookBody v d c tokens b rest) same.value (subst (λ (r : List Tok). TookBody v d c tokens (p, f) r) same.rest took))))

switching_takes : (v : Version) (d : ℕ) (c : Counts) (w : Switching) (tokens : List Tok) (t : Term) (rest : List Tok) → Takes v d → c.expressions ≤ 100000
    → parse_switching d (parse_term d v) c w (keyword (switching_word w) ∷ tokens) tokens ≡ got t rest → Took v (suc d) c (keyword (switching_word w) ∷ tokens) t rest
unfolding parse_switching
switching_takes v d c w tokens t rest part few is =
    let start : List Tok = keyword (switching_word w) ∷ tokens in
    let body : Term → List Tok → Read (Pattern × Term) = λ f. parse_body d (parse_term d v) (counted_term c f) in
    bind_got (λ _ r. parse_parts (parse_term d v c) (parse_symbol symbols.Comma) body (λ f _ b rest. term_read c (switching w f b.0 b.1) start rest) r) (parse_symbol symbols.Open tokens) t rest is (λ u r0 opened is_u.
    parts_takes (parse_term d v c) (parse_symbol symbols.Comma) body (λ f _ b rest. term_read c (switching w f b.0 b.1) start rest) r0 t rest is_u
    (λ f m b r1 r2 r3 r4 at_f at_m at_b closed is_t.
    within_takes (c.terms + terms_in (switching w f b.0 b.1)) (switching w f b.0 b.1) t start r4 rest is_t (λ few_terms same.
    let one : Took v d c r0 f r1 = part c r0 f r1 few at_f in
    let two : TookBody v d (counted_term c f) r2 b r3 = body_takes v d (counted_term c f) r2 b r3 part one.few_expressions at_b in
    took_as v (suc d) c start (switching w f b.0 b.1) t r4 rest same (record {
      spelled = ap (λ r. keyword (switching_word w) ∷ r) (symbol_takes symbols.Open tokens u r0 opened
          ∙ brackets_took (spell_term v f) (spell_mapping (spell_pattern b.0) (spell_term v b.1)) r0 r1 r2 r3 r4 (symbol symbols.Comma) one.spelled (symbol_takes symbols.Comma r1 m r2 at_m) two.spelled closed);
      shallow = omega (arith, one.shallow, two.pattern, two.shallow);
      few_terms = few_terms;
      few_expressions = omega (arith, two.few_expressions);
      known = (one.known, two.known);
    }))))

-- a form that is a name alone
named_takes : (v : Version) (d : ℕ) (c : Counts) (w : Naming) (tokens : List Tok) (t : Term) (rest : List Tok) → c.expressions ≤ 100000 → ((k : Name) → WritesTerm v (suc d) (named_term w k))
    → parse_named w c (naming_token w ∷ tokens) tokens ≡ got t rest → Took v (suc d) c (naming_token w ∷ tokens) t rest
unfolding parse_named
named_takes v d c w tokens t rest few known is =
    let start : List Tok = naming_token w ∷ tokens in
    bind_got (λ k r. term_read c (named_term w k) start r) (parse_name tokens) t rest is (λ k behind at_k is_k.
    within_takes (c.terms + terms_in (named_term w k)) (named_term w k) t start behind rest is_k (λ few_terms same.
    let lone : IsLone v w k = named_alone v w k in
    took_as v (suc d) c start (named_term w k) t behind rest same (record {
      spelled = ap (λ r. naming_token w ∷ r) (name_takes tokens k behind at_k) ∙ ap (λ r. r ++ behind) (sym lone.spelled);
      shallow = omega (arith, lone.depth);
      few_terms = few_terms;
      few_expressions = omega (arith, lone.expressions);
      known = known k;
    })))

-- two terms, a name and the body that knows the first by it, in brackets
continuing_takes : (v : Version) (d : ℕ) (c : Counts) (w : Observation) (tokens : List Tok) (t : Term) (rest : List Tok) → Takes v d → c.expressions ≤ 100000
    → parse_continuing d (parse_term d v) c w (keyword (continuing_word w) ∷ tokens) tokens ≡ got t rest → Took v (suc d) c (keyword (continuing_word w) ∷ tokens) t rest
unfolding parse_continuing
continuing_takes v d c w tokens t rest part few is =
    let start : List Tok = keyword (continuing_word w) ∷ tokens in
    let body : Term → Term → List Tok → Read (Pattern × Term) = λ f g. parse_body d (parse_term d v) (counted_term (counted_term c f) g) in
    let whole : Term → Term → List Tok → Read Term = λ f g r. parse_parts parse_name (parse_symbol symbols.Comma) (λ _. body f g) (λ k _ b rest. term_read c (continuing w f g k b.0 b.1) start rest) r in
    let others : Term → List Tok → Read Term = λ f r. parse_term d v (counted_term c f) r and_then λ g r. parse_symbol symbols.Comma r and_then λ _ r. whole f g r in
    bind_got (λ _ r. parse_term d v c r and_then λ f r. parse_symbol symbols.Comma r and_then λ _ r. others f r) (parse_symbol symbols.Open tokens) t rest is (λ u r0 opened is_u.
    bind_got (λ f r. parse_symbol symbols.Comma r and_then λ _ r. others f r) (parse_term d v c r0) t rest is_u (λ f r1 at_f is_f.
    bind_got (λ _ r. others f r) (parse_symbol symbols.Comma r1) t rest is_f (λ m r2 at_m is_m.
    bind_got (λ g r. parse_symbol symbols.Comma r and_then λ _ r. whole f g r) (parse_term d v (counted_term c f) r2) t rest is_m (λ g r3 at_g is_g.
    bind_got (λ _ r. whole f g r) (parse_symbol symbols.Comma r3) t rest is_g (λ n r4 at_n is_n.
    parts_takes parse_name (parse_symbol symbols.Comma) (λ _. body f g) (λ k _ b rest. term_read c (continuing w f g k b.0 b.1) start rest) r4 t rest is_n
    (λ k x b r5 r6 r7 r8 at_k at_x at_b closed is_t.
    within_takes (c.terms + terms_in (continuing w f g k b.0 b.1)) (continuing w f g k b.0 b.1) t start r8 rest is_t (λ few_terms same.
    let one : Took v d c r0 f r1 = part c r0 f r1 few at_f in
    let two : Took v d (counted_term c f) r2 g r3 = part (counted_term c f) r2 g r3 one.few_expressions at_g in
    let three : TookBody v d (counted_term (counted_term c f) g) r6 b r7 = body_takes v d (counted_term (counted_term c f) g) r6 b r7 part two.few_expressions at_b in
    let mapping : List Tok = symbol symbols.Comma ∷ name k ∷ symbol symbols.Comma ∷ spell_mapping (spell_pattern b.0) (spell_term v b.1) in
    let behind : r2 ≡ (spell_term v g ++ mapping) ++ r7 =
    rw (two.spelled, symbol_takes symbols.Comma r3 n r4 at_n, name_takes r4 k r5 at_k, symbol_takes symbols.Comma r5 x r6 at_x, three.spelled, append_assoc (spell_term v g) mapping r7) refl in
    took_as v (suc d) c start (continuing w f g k b.0 b.1) t r8 rest same (record {
      spelled = ap (λ r. keyword (continuing_word w) ∷ r) (symbol_takes symbols.Open tokens u r0 opened
          ∙ brackets_took (spell_term v f) (spell_term v g ++ mapping) r0 r1 r2 r7 r8 (symbol symbols.Comma) one.spelled (symbol_takes symbols.Comma r1 m r2 at_m) behind closed);
      shallow = omega (arith, one.shallow, two.shallow, three.pattern, three.shallow);
      few_terms = few_terms;
      few_expressions = omega (arith, three.few_expressions);
      known = (one.known, two.known, three.known);
    }))))))))

-- ## Collections

-- a collection was taken
pub record TookCollection (v : Version) (d : ℕ) (c : Counts) (tokens : List Tok) (i : Collection) (rest : List Tok) : Type 0 where
  pub spelled : tokens ≡ spell_collection v i ++ rest
  pub shallow : collection_depth i ≤ d
  pub few : c.expressions + expressions_collected i ≤ 100000
  pub known : WritesCollection v d i

took_collection_as : (v : Version) (d : ℕ) (c : Counts) (tokens : List Tok) (i j : Collection) (r u : List Tok) → got i r ≡ got j u → TookCollection v d c tokens i r → TookCollection v d c tokens j u
took_collection_as v d c tokens i j r u is took =
    let same : Same i j r u = got_same i j r u is in
    subst (λ (j : Collection). TookCollection v d c tokens j u) same.value (subst (λ (r : List Tok). TookCollection v d c tokens i r) same.rest took)

-- collections that are read are taken
abbrev pub TakesMembers : Version → ℕ → Type 0
TakesMembers v d = (c : Counts) (tokens : List Tok) (i : Collection) (rest : List Tok) → c.expressions ≤ 100000 → parse_collection d v c tokens ≡ got i rest → TookCollection v d c tokens i rest

-- Terms and collections that are read are taken.
pub record TakesParts (v : Version) (d : ℕ) : Type 0 where
  pub term : Takes v d
  pub members : TakesMembers v d

empty_takes : (v : Version) (d : ℕ) (c : Counts) (tokens : List Tok) (i : Collection) (rest : List Tok) → c.expressions ≤ 100000 → parse_empty d v tokens ≡ got i rest → TookCollection v (suc d) c (keyword words.Empty ∷ tokens) i rest
unfolding parse_empty
empty_takes v d c tokens i rest few is =
    bind_got (λ k r. parse_inner_type d v r 0 r and_then λ t b. got (without_members k t) b) (parse_keys v tokens) i rest is (λ k r1 at_k is_k.
    bind_got (λ t b. got (without_members k t) b) (parse_inner_type d v r1 0 r1) i rest is_k (λ t r2 at_t is_t.
    let one : TookKeys v tokens k r1 = keys_takes v tokens k r1 at_k in
    let two : TookType v d 0 r1 t r2 = inner_type_takes v d r1 0 r1 t r2 at_t in
    took_collection_as v (suc d) c (keyword words.Empty ∷ tokens) (without_members k t) i r2 rest is_t (record {
      spelled = ap (λ r. keyword words.Empty ∷ r) (one.spelled ∙ ap (λ r. spell_keys v k ++ r) two.spelled ∙ sym (append_assoc (spell_keys v k) (spell_type v t) r2));
      shallow = omega arith;
      few = omega (arith, few);
      known = (one.known, written_type v d r1 t r2 two);
    })))

used_takes : (v : Version) (d : ℕ) (c : Counts) (tokens : List Tok) (i : Collection) (rest : List Tok) → c.expressions ≤ 100000 → parse_used tokens ≡ got i rest → TookCollection v (suc d) c (keyword words.Use ∷ tokens) i rest
unfolding parse_used
used_takes v d c tokens i rest few is =
    bind_got (λ k r. got (used k) r) (parse_name tokens) i rest is (λ k r1 at_k is_k.
    took_collection_as v (suc d) c (keyword words.Use ∷ tokens) (used k) i r1 rest is_k
    (record { spelled = ap (λ r. keyword words.Use ∷ r) (name_takes tokens k r1 at_k); shallow = omega arith; few = omega (arith, few); known = tt }))

added_takes : (v : Version) (d : ℕ) (c : Counts) (tokens : List Tok) (i : Collection) (rest : List Tok) → TakesParts v d → c.expressions ≤ 100000
    → parse_added d v (parse_term d v) (parse_collection d v) c tokens ≡ got i rest → TookCollection v (suc d) c (keyword words.Add ∷ tokens) i rest
unfolding parse_added
added_takes v d c tokens i rest part few is =
    let behind : Collection → List Tok → Read Collection = λ j r. parse_parts (parse_expression d v (counts_with_collection c j)) (parse_symbol symbols.Comma) (λ e. parse_term d v (counts_with_expression (counts_with_collection c j) e)) (λ e _ t rest. got (added j e t) rest) r in
    bind_got (λ _ r. parse_collection d v c r and_then λ j r. parse_symbol symbols.Comma r and_then λ _ r. behind j r) (parse_symbol symbols.Open tokens) i rest is (λ u r0 opened is_u.
    bind_got (λ j r. parse_symbol symbols.Comma r and_then λ _ r. behind j r) (parse_collection d v c r0) i rest is_u (λ j r1 at_j is_j.
    bind_got (λ _ r. behind j r) (parse_symbol symbols.Comma r1) i rest is_j (λ m r2 at_m is_m.
    parts_takes (parse_expression d v (counts_with_collection c j)) (parse_symbol symbols.Comma) (λ e. parse_term d v (counts_with_expression (counts_with_collection c j) e)) (λ e _ t rest. got (added j e t) rest) r2 i rest is_m
    (λ e n t r3 r4 r5 r6 at_e at_n at_t closed is_t.
    let one : TookCollection v d c r0 j r1 = part.members c r0 j r1 few at_j in
    let two : TookExpression v d (counts_with_collection c j) r2 e r3 = expression_takes v d (counts_with_collection c j) r2 e r3 at_e in
    let three : Took v d (counts_with_expression (counts_with_collection c j) e) r4 t r5 = part.term (counts_with_expression (counts_with_collection c j) e) r4 t r5 two.few at_t in
    let member : List Tok = symbol symbols.Comma ∷ spell_term v t in
    let behind : r2 ≡ (spell_expression v e ++ member) ++ r5 = rw (two.spelled, symbol_takes symbols.Comma r3 n r4 at_n, three.spelled, append_assoc (spell_expression v e) member r5) refl in
    took_collection_as v (suc d) c (keyword words.Add ∷ tokens) (added j e t) i r6 rest is_t (record {
      spelled = ap (λ r. keyword words.Add ∷ r) (symbol_takes symbols.Open tokens u r0 opened
          ∙ brackets_took (spell_collection v j) (spell_expression v e ++ member) r0 r1 r2 r5 r6 (symbol symbols.Comma) one.spelled (symbol_takes symbols.Comma r1 m r2 at_m) behind closed);
      shallow = omega (arith, one.shallow, two.shallow, three.shallow);
      few = omega (arith, three.few_expressions);
      known = (one.known, two.known, three.known);
    })))))

dropped_takes : (v : Version) (d : ℕ) (c : Counts) (tokens : List Tok) (i : Collection) (rest : List Tok) → TakesParts v d → c.expressions ≤ 100000
    → parse_dropped d v (parse_collection d v) c tokens ≡ got i rest → TookCollection v (suc d) c (keyword words.Drop ∷ tokens) i rest
unfolding parse_dropped
dropped_takes v d c tokens i rest part few is =
    bind_got (λ _ r. parse_parts (parse_collection d v c) (parse_symbol symbols.Comma) (λ j. parse_expression d v (counts_with_collection c j)) (λ j _ e rest. got (dropped j e) rest) r) (parse_symbol symbols.Open tokens) i rest is (λ u r0 opened is_u.
    parts_takes (parse_collection d v c) (parse_symbol symbols.Comma) (λ j. parse_expression d v (counts_with_collection c j)) (λ j _ e rest. got (dropped j e) rest) r0 i rest is_u
    (λ j m e r1 r2 r3 r4 at_j at_m at_e closed is_e.
    let one : TookCollection v d c r0 j r1 = part.members c r0 j r1 few at_j in
    let two : TookExpression v d (counts_with_collection c j) r2 e r3 = expression_takes v d (counts_with_collection c j) r2 e r3 at_e in
    took_collection_as v (suc d) c (keyword words.Drop ∷ tokens) (dropped j e) i r4 rest is_e (record {
      spelled = ap (λ r. keyword words.Drop ∷ r) (symbol_takes symbols.Open tokens u r0 opened
          ∙ brackets_took (spell_collection v j) (spell_expression v e) r0 r1 r2 r3 r4 (symbol symbols.Comma) one.spelled (symbol_takes symbols.Comma r1 m r2 at_m) two.spelled closed);
      shallow = omega (arith, one.shallow, two.shallow);
      few = omega (arith, two.few);
      known = (one.known, two.known);
    })))

kept_takes : (v : Version) (d : ℕ) (c : Counts) (tokens : List Tok) (i : Collection) (rest : List Tok) → TakesParts v d → c.expressions ≤ 100000
    → parse_kept d v (parse_collection d v) c tokens ≡ got i rest → TookCollection v (suc d) c (keyword words.Keep ∷ tokens) i rest
unfolding parse_kept
kept_takes v d c tokens i rest part few is =
    bind_got (λ _ r. parse_parts (parse_collection d v c) (parse_symbol symbols.Comma) (λ j. parse_function d v (counts_with_collection c j)) (λ j _ f rest. got (kept j f) rest) r) (parse_symbol symbols.Open tokens) i rest is (λ u r0 opened is_u.
    parts_takes (parse_collection d v c) (parse_symbol symbols.Comma) (λ j. parse_function d v (counts_with_collection c j)) (λ j _ f rest. got (kept j f) rest) r0 i rest is_u
    (λ j m f r1 r2 r3 r4 at_j at_m at_f closed is_f.
    let one : TookCollection v d c r0 j r1 = part.members c r0 j r1 few at_j in
    let two : TookFunction v d (counts_with_collection c j) r2 f r3 = function_takes v d (counts_with_collection c j) r2 f r3 at_f in
    took_collection_as v (suc d) c (keyword words.Keep ∷ tokens) (kept j f) i r4 rest is_f (record {
      spelled = ap (λ r. keyword words.Keep ∷ r) (symbol_takes symbols.Open tokens u r0 opened
          ∙ brackets_took (spell_collection v j) (spell_function v f) r0 r1 r2 r3 r4 (symbol symbols.Comma) one.spelled (symbol_takes symbols.Comma r1 m r2 at_m) two.spelled closed);
      shallow = omega (arith, one.shallow, two.shallow);
      few = omega (arith, two.few);
      known = (one.known, two.known);
    })))

chosen_takes : (v : Version) (d : ℕ) (c : Counts) (tokens : List Tok) (i : Collection) (rest : List Tok) → TakesParts v d → c.expressions ≤ 100000
    → parse_chosen d v (parse_collection d v) c tokens ≡ got i rest → TookCollection v (suc d) c (keyword words.If ∷ tokens) i rest
unfolding parse_chosen
chosen_takes v d c tokens i rest part few is =
    let last : Expression → Collection → List Tok → Read Collection = λ e j r. parse_collection d v (counts_with_collection (counts_with_expression c e) j) r and_then λ k r. got (chosen e j k) r in
    let middle : Expression → List Tok → Read Collection = λ e r. parse_collection d v (counts_with_expression c e) r and_then λ j r. parse_keyword words.Else r and_then λ _ r. last e j r in
    bind_got (λ e r. parse_keyword words.Then r and_then λ _ r. middle e r) (parse_expression d v c tokens) i rest is (λ e r0 at_e is_e.
    bind_got (λ _ r. middle e r) (parse_keyword words.Then r0) i rest is_e (λ u r1 at_then is_u.
    bind_got (λ j r. parse_keyword words.Else r and_then λ _ r. last e j r) (parse_collection d v (counts_with_expression c e) r1) i rest is_u (λ j r2 at_j is_j.
    bind_got (λ _ r. last e j r) (parse_keyword words.Else r2) i rest is_j (λ w r3 at_else is_w.
    bind_got (λ k r. got (chosen e j k) r) (parse_collection d v (counts_with_collection (counts_with_expression c e) j) r3) i rest is_w (λ k r4 at_k is_k.
    let one : TookExpression v d c tokens e r0 = expression_takes v d c tokens e r0 at_e in
    let two : TookCollection v d (counts_with_expression c e) r1 j r2 = part.members (counts_with_expression c e) r1 j r2 one.few at_j in
    let three : TookCollection v d (counts_with_collection (counts_with_expression c e) j) r3 k r4 = part.members (counts_with_collection (counts_with_expression c e) j) r3 k r4 two.few at_k in
    took_collection_as v (suc d) c (keyword words.If ∷ tokens) (chosen e j k) i r4 rest is_k (record {
      spelled = ap (λ r. keyword words.If ∷ r) (rw (one.spelled, keyword_takes words.Then r0 u r1 at_then, two.spelled, keyword_takes words.Else r2 w r3 at_else, three.spelled)
          (sym (three_behind (spell_expression v e) (spell_collection v j) (spell_collection v k) r4 (keyword words.Then) (keyword words.Else))));
      shallow = omega (arith, one.shallow, two.shallow, three.shallow);
      few = omega (arith, three.few);
      known = (one.known, two.known, three.known);
    }))))))

-- what begins with a token begins with the collection's own
collection_behind_takes : (v : Version) (d : ℕ) (c : Counts) (o : Option CollectionHead) (k : Tok) (tokens : List Tok) (i : Collection) (rest : List Tok) → TakesParts v d → collection_head k ≡ o → c.expressions ≤ 100000
    → parse_behind_collection_head d v (parse_term d v) (parse_collection d v) c o (k ∷ tokens) tokens ≡ got i rest → TookCollection v (suc d) c (k ∷ tokens) i rest
collection_behind_takes v d c (Some collection_heads.Empty) k tokens i rest part found few is = rw (collection_takes k collection_heads.Empty found) (empty_takes v d c tokens i rest few is)
collection_behind_takes v d c (Some collection_heads.Used) k tokens i rest part found few is = rw (collection_takes k collection_heads.Used found) (used_takes v d c tokens i rest few is)
collection_behind_takes v d c (Some collection_heads.Added) k tokens i rest part found few is = rw (collection_takes k collection_heads.Added found) (added_takes v d c tokens i rest part few is)
collection_behind_takes v d c (Some collection_heads.Dropped) k tokens i rest part found few is = rw (collection_takes k collection_heads.Dropped found) (dropped_takes v d c tokens i rest part few is)
collection_behind_takes v d c (Some collection_heads.Kept) k tokens i rest part found few is = rw (collection_takes k collection_heads.Kept found) (kept_takes v d c tokens i rest part few is)
collection_behind_takes v d c (Some collection_heads.Chosen) k tokens i rest part found few is = rw (collection_takes k collection_heads.Chosen found) (chosen_takes v d c tokens i rest part few is)
collection_behind_takes v d c None k tokens i rest part found few is = cc

collection_form_takes : (v : Version) (d : ℕ) (c : Counts) (tokens : List Tok) (i : Collection) (rest : List Tok) → TakesParts v d → c.expressions ≤ 100000 → parse_collection_form d v (parse_term d v) (parse_collection d v) c tokens ≡ got i rest → TookCollection v (suc d) c tokens i rest
collection_form_takes v d c (k ∷ tokens) i rest part few is = collection_behind_takes v d c (collection_head k) k tokens i rest part refl few is
collection_form_takes v d c [] i rest part few is = cc

gathered_takes : (v : Version) (d : ℕ) (c : Counts) (tokens : List Tok) (t : Term) (rest : List Tok) → TakesParts v d → c.expressions ≤ 100000
    → parse_gathered (parse_collection d v) c (keyword words.ParB ∷ tokens) tokens ≡ got t rest → Took v (suc d) c (keyword words.ParB ∷ tokens) t rest
unfolding parse_gathered
gathered_takes v d c tokens t rest part few is =
    let start : List Tok = keyword words.ParB ∷ tokens in
    bind_got (λ i r. term_read c (gathered i) start r) (parse_collection d v c tokens) t rest is (λ i r1 at_i is_i.
    within_takes (c.terms + terms_in (gathered i)) (gathered i) t start r1 rest is_i (λ few_terms same.
    let one : TookCollection v d c tokens i r1 = part.members c tokens i r1 few at_i in
    took_as v (suc d) c start (gathered i) t r1 rest same
    (record { spelled = ap (λ r. keyword words.ParB ∷ r) one.spelled; shallow = omega (arith, one.shallow); few_terms = few_terms; few_expressions = one.few; known = one.known })))

releasing_takes : (v : Version) (d : ℕ) (c : Counts) (w : Observation) (tokens : List Tok) (t : Term) (rest : List Tok) → TakesParts v d → c.expressions ≤ 100000
    → parse_releasing d (parse_term d v) (parse_collection d v) c w (keyword (releasing_word w) ∷ tokens) tokens ≡ got t rest → Took v (suc d) c (keyword (releasing_word w) ∷ tokens) t rest
unfolding parse_releasing
releasing_takes v d c w tokens t rest part few is =
    let start : List Tok = keyword (releasing_word w) ∷ tokens in
    let body : Collection → Term → List Tok → Read (Pattern × Term) = λ i g. parse_body d (parse_term d v) (counted_term (counts_with_collection c i) g) in
    let whole : Collection → Term → List Tok → Read Term = λ i g r. parse_parts parse_name (parse_symbol symbols.Comma) (λ _. body i g) (λ k _ b rest. term_read c (releasing w i g k b.0 b.1) start rest) r in
    let others : Collection → List Tok → Read Term = λ i r. parse_term d v (counts_with_collection c i) r and_then λ g r. parse_symbol symbols.Comma r and_then λ _ r. whole i g r in
    bind_got (λ _ r. parse_collection d v c r and_then λ i r. parse_symbol symbols.Comma r and_then λ _ r. others i r) (parse_symbol symbols.Open tokens) t rest is (λ u r0 opened is_u.
    bind_got (λ i r. parse_symbol symbols.Comma r and_then λ _ r. others i r) (parse_collection d v c r0) t rest is_u (λ i r1 at_i is_i.
    bind_got (λ _ r. others i r) (parse_symbol symbols.Comma r1) t rest is_i (λ m r2 at_m is_m.
    bind_got (λ g r. parse_symbol symbols.Comma r and_then λ _ r. whole i g r) (parse_term d v (counts_with_collection c i) r2) t rest is_m (λ g r3 at_g is_g.
    bind_got (λ _ r. whole i g r) (parse_symbol symbols.Comma r3) t rest is_g (λ n r4 at_n is_n.
    parts_takes parse_name (parse_symbol symbols.Comma) (λ _. body i g) (λ k _ b rest. term_read c (releasing w i g k b.0 b.1) start rest) r4 t rest is_n
    (λ k x b r5 r6 r7 r8 at_k at_x at_b closed is_t.
    within_takes (c.terms + terms_in (releasing w i g k b.0 b.1)) (releasing w i g k b.0 b.1) t start r8 rest is_t (λ few_terms same.
    let one : TookCollection v d c r0 i r1 = part.members c r0 i r1 few at_i in
    let two : Took v d (counts_with_collection c i) r2 g r3 = part.term (counts_with_collection c i) r2 g r3 one.few at_g in
    let three : TookBody v d (counted_term (counts_with_collection c i) g) r6 b r7 = body_takes v d (counted_term (counts_with_collection c i) g) r6 b r7 part.term two.few_expressions at_b in
    let mapping : List Tok = symbol symbols.Comma ∷ name k ∷ symbol symbols.Comma ∷ spell_mapping (spell_pattern b.0) (spell_term v b.1) in
    let behind : r2 ≡ (spell_term v g ++ mapping) ++ r7 =
    rw (two.spelled, symbol_takes symbols.Comma r3 n r4 at_n, name_takes r4 k r5 at_k, symbol_takes symbols.Comma r5 x r6 at_x, three.spelled, append_assoc (spell_term v g) mapping r7) refl in
    took_as v (suc d) c start (releasing w i g k b.0 b.1) t r8 rest same (record {
      spelled = ap (λ r. keyword (releasing_word w) ∷ r) (symbol_takes symbols.Open tokens u r0 opened
          ∙ brackets_took (spell_collection v i) (spell_term v g ++ mapping) r0 r1 r2 r7 r8 (symbol symbols.Comma) one.spelled (symbol_takes symbols.Comma r1 m r2 at_m) behind closed);
      shallow = omega (arith, one.shallow, two.shallow, three.pattern, three.shallow);
      few_terms = few_terms;
      few_expressions = omega (arith, three.few_expressions);
      known = (one.known, two.known, three.known);
    }))))))))

-- an edit was taken
pub record TookEdit (v : Version) (d : ℕ) (c : Counts) (tokens : List Tok) (b : Pattern × Collection) (rest : List Tok) : Type 0 where
  pub spelled : tokens ≡ spell_mapping (spell_pattern b.0) (spell_collection v b.1) ++ rest
  pub pattern : pattern_depth b.0 ≤ d
  pub shallow : collection_depth b.1 ≤ d
  pub few : c.expressions + expressions_collected b.1 ≤ 100000
  pub known : WritesCollection v d b.1

edit_takes : (v : Version) (d : ℕ) (c : Counts) (tokens : List Tok) (b : Pattern × Collection) (rest : List Tok) → TakesMembers v d → c.expressions ≤ 100000
    → parse_edit d (parse_collection d v) c tokens ≡ got b rest → TookEdit v d c tokens b rest
edit_takes v d c tokens b rest part few is =
    bind_got (λ p r. parse_symbol symbols.MapsTo r and_then λ _ r. parse_collection d v c r and_then λ i r. got (p, i) r) (parse_pattern d tokens) b rest is (λ p r1 at_p is_p.
    bind_got (λ _ r. parse_collection d v c r and_then λ i r. got (p, i) r) (parse_symbol symbols.MapsTo r1) b rest is_p (λ m r2 at_m is_m.
    bind_got (λ i r. got (p, i) r) (parse_collection d v c r2) b rest is_m (λ i r3 at_i is_i.
    let one : TookPattern d tokens p r1 = pattern_takes d tokens p r1 at_p in
    let two : TookCollection v d c r2 i r3 = part c r2 i r3 few at_i in
    let same : Same (p, i) b r3 rest = got_same (p, i) b r3 rest is_i in
    let took : TookEdit v d c tokens (p, i) r3 = record {
      spelled = rw (one.spelled, symbol_takes symbols.MapsTo r1 m r2 at_m, two.spelled, append_assoc (spell_pattern p) (symbol symbols.MapsTo ∷ spell_collection v i) r3) refl;
      pattern = one.shallow;
      shallow = two.shallow;
      few = two.few;
      known = two.known;
    } in
    subst (λ (b : Pattern × Collection). TookEdit v d c tokens b rest) same.value (subst (λ (r : List Tok). TookEdit v d c tokens (p, i) r) same.rest took))))

editing_takes : (v : Version) (d : ℕ) (c : Counts) (w : Observation) (tokens : List Tok) (t : Term) (rest : List Tok) → TakesParts v d → c.expressions ≤ 100000
    → parse_editing d (parse_collection d v) c w (keyword (editing_word w) ∷ tokens) tokens ≡ got t rest → Took v (suc d) c (keyword (editing_word w) ∷ tokens) t rest
unfolding parse_editing
editing_takes v d c w tokens t rest part few is =
    let start : List Tok = keyword (editing_word w) ∷ tokens in
    let edit : Collection → List Tok → Read (Pattern × Collection) = λ i. parse_edit d (parse_collection d v) (counts_with_collection c i) in
    let whole : Collection → List Tok → Read Term = λ i r. parse_parts parse_name (parse_symbol symbols.Comma) (λ _. edit i) (λ k _ b rest. term_read c (editing w i k b.0 b.1) start rest) r in
    bind_got (λ _ r. parse_collection d v c r and_then λ i r. parse_symbol symbols.Comma r and_then λ _ r. whole i r) (parse_symbol symbols.Open tokens) t rest is (λ u r0 opened is_u.
    bind_got (λ i r. parse_symbol symbols.Comma r and_then λ _ r. whole i r) (parse_collection d v c r0) t rest is_u (λ i r1 at_i is_i.
    bind_got (λ _ r. whole i r) (parse_symbol symbols.Comma r1) t rest is_i (λ m r2 at_m is_m.
    parts_takes parse_name (parse_symbol symbols.Comma) (λ _. edit i) (λ k _ b rest. term_read c (editing w i k b.0 b.1) start rest) r2 t rest is_m
    (λ k x b r3 r4 r5 r6 at_k at_x at_b closed is_t.
    within_takes (c.terms + terms_in (editing w i k b.0 b.1)) (editing w i k b.0 b.1) t start r6 rest is_t (λ few_terms same.
    let one : TookCollection v d c r0 i r1 = part.members c r0 i r1 few at_i in
    let two : TookEdit v d (counts_with_collection c i) r4 b r5 = edit_takes v d (counts_with_collection c i) r4 b r5 part.members one.few at_b in
    let mapping : List Tok = name k ∷ symbol symbols.Comma ∷ spell_mapping (spell_pattern b.0) (spell_collection v b.1) in
    let behind : r2 ≡ mapping ++ r5 = rw (name_takes r2 k r3 at_k, symbol_takes symbols.Comma r3 x r4 at_x, two.spelled) refl in
    took_as v (suc d) c start (editing w i k b.0 b.1) t r6 rest same (record {
      spelled = ap (λ r. keyword (editing_word w) ∷ r) (symbol_takes symbols.Open tokens u r0 opened
          ∙ brackets_took (spell_collection v i) mapping r0 r1 r2 r5 r6 (symbol symbols.Comma) one.spelled (symbol_takes symbols.Comma r1 m r2 at_m) behind closed);
      shallow = omega (arith, one.shallow, two.pattern, two.shallow);
      few_terms = few_terms;
      few_expressions = omega (arith, two.few);
      known = (one.known, two.known);
    }))))))

join_from_takes : (o : Option Join) (s : Symbol) (tokens : List Tok) (j : Join) (rest : List Tok) → join_of s ≡ o → join_read o s tokens ≡ got j rest → symbol s ∷ tokens ≡ symbol (join_symbol j) ∷ rest
join_from_takes (Some i) s tokens j rest found is =
    let same = got_same i j tokens rest is in
    let q : s ≡ join_symbol j = join_takes s i found ∙ ap join_symbol same.value in
    let r : tokens ≡ rest = same.rest in cc
join_from_takes None s tokens j rest found is = cc

pub join_at_takes : (tokens : List Tok) (j : Join) (rest : List Tok) → parse_join tokens ≡ got j rest → tokens ≡ symbol (join_symbol j) ∷ rest
join_at_takes (symbol s ∷ tokens) j rest is = join_from_takes (join_of s) s tokens j rest refl is
join_at_takes _ j rest is = cc

joined_takes : (v : Version) (d : ℕ) (c : Counts) (tokens : List Tok) (t : Term) (rest : List Tok) → Takes v d → c.expressions ≤ 100000
    → parse_joined (parse_term d v) c (symbol symbols.Open ∷ tokens) tokens ≡ got t rest → Took v (suc d) c (symbol symbols.Open ∷ tokens) t rest
unfolding parse_joined
joined_takes v d c tokens t rest part few is =
    let start : List Tok = symbol symbols.Open ∷ tokens in
    parts_takes (parse_term d v c) parse_join (λ f. parse_term d v (counted_term c f)) (λ f j g rest. term_read c (joined j f g) start rest) tokens t rest is
    (λ f j g r1 r2 r3 r4 at_f at_j at_g closed is_t.
    within_takes (c.terms + terms_in (joined j f g)) (joined j f g) t start r4 rest is_t (λ few_terms same.
    let one : Took v d c tokens f r1 = part c tokens f r1 few at_f in
    let two : Took v d (counted_term c f) r2 g r3 = part (counted_term c f) r2 g r3 one.few_expressions at_g in
    took_as v (suc d) c start (joined j f g) t r4 rest same (record {
      spelled = brackets_took (spell_term v f) (spell_term v g) tokens r1 r2 r3 r4 (symbol (join_symbol j)) one.spelled (join_at_takes r1 j r2 at_j) two.spelled closed;
      shallow = omega (arith, one.shallow, two.shallow);
      few_terms = few_terms;
      few_expressions = omega (arith, two.few_expressions);
      known = (one.known, two.known);
    })))

-- what begins with a token begins with the form's own
by_token : (v : Version) (d : ℕ) (c : Counts) (k w : Tok) (tokens : List Tok) (t : Term) (rest : List Tok) (read : List Tok → Read Term) → k ≡ w → read (k ∷ tokens) ≡ got t rest
    → (read (w ∷ tokens) ≡ got t rest → Took v (suc d) c (w ∷ tokens) t rest) → Took v (suc d) c (k ∷ tokens) t rest
by_token v d c k w tokens t rest read is reads takes =
    subst (λ (u : Tok). Took v (suc d) c (u ∷ tokens) t rest) (sym is) (takes (subst (λ (u : Tok). read (u ∷ tokens) ≡ got t rest) is reads))

-- an argument was taken
record TookActual (v : Version) (d : ℕ) (c : Counts) (tokens : List Tok) (a : Actual) (rest : List Tok) : Type 0 where
  pub spelled : tokens ≡ spell_actual v a ++ rest
  pub shallow : arguments_depth (leading_actual a no_arguments) ≤ d
  pub few : (counts_with_actual c a).expressions ≤ 100000
  pub known : WritesArguments v d (leading_actual a no_arguments)

took_actual_as : (v : Version) (d : ℕ) (c : Counts) (tokens : List Tok) (a b : Actual) (r u : List Tok) → got a r ≡ got b u → TookActual v d c tokens a r → TookActual v d c tokens b u
took_actual_as v d c tokens a b r u is took =
    let same : Same a b r u = got_same a b r u is in
    subst (λ (b : Actual). TookActual v d c tokens b u) same.value (subst (λ (r : List Tok). TookActual v d c tokens a r) same.rest took)

argument_from_takes : (v : Version) (d : ℕ) (c : Counts) (w : ArgumentWord) (tokens : List Tok) (a : Actual) (rest : List Tok) → TakesParts v d → c.expressions ≤ 100000 → argument_word tokens ≡ w
    → argument_from d v (parse_term d v) (parse_collection d v) c w tokens ≡ got a rest → TookActual v d c tokens a rest
argument_from_takes v d c process_word tokens a rest part few found is =
    let r0 : List Tok = behind_first tokens in
    bind_got (λ t r. got (actual_process t) r) (parse_term d v c r0) a rest is (λ t r1 at_t is_t.
    let one : Took v d c r0 t r1 = part.term c r0 t r1 few at_t in
    took_actual_as v d c tokens (actual_process t) a r1 rest is_t (record {
      spelled = process_word_takes tokens found ∙ ap (λ r. keyword words.SignalFunction ∷ r) one.spelled;
      shallow = omega (arith, one.shallow);
      few = one.few_expressions;
      known = (one.known, tt);
    }))
argument_from_takes v d c collection_word tokens a rest part few found is =
    let r0 : List Tok = behind_first tokens in
    bind_got (λ i r. got (actual_collection i) r) (parse_collection d v c r0) a rest is (λ i r1 at_i is_i.
    let one : TookCollection v d c r0 i r1 = part.members c r0 i r1 few at_i in
    took_actual_as v d c tokens (actual_collection i) a r1 rest is_i (record {
      spelled = collection_word_takes tokens found ∙ ap (λ r. keyword words.Collection ∷ r) one.spelled;
      shallow = omega (arith, one.shallow);
      few = one.few;
      known = (one.known, tt);
    }))
argument_from_takes v d c no_word tokens a rest part few found is =
    bind_got (λ e r. got (actual_value e) r) (parse_expression d v c tokens) a rest is (λ e r1 at_e is_e.
    let one : TookExpression v d c tokens e r1 = expression_takes v d c tokens e r1 at_e in
    took_actual_as v d c tokens (actual_value e) a r1 rest is_e (record { spelled = one.spelled; shallow = omega (arith, one.shallow); few = one.few; known = (one.known, tt) }))

argument_takes : (v : Version) (d : ℕ) (c : Counts) (tokens : List Tok) (a : Actual) (rest : List Tok) → TakesParts v d → c.expressions ≤ 100000
    → parse_argument d v (parse_term d v) (parse_collection d v) c tokens ≡ got a rest → TookActual v d c tokens a rest
unfolding parse_argument
argument_takes v d c tokens a rest part few is = argument_from_takes v d c (argument_word tokens) tokens a rest part few refl is

-- arguments were taken that are spelled so
pub record TookArguments (v : Version) (d : ℕ) (c : Counts) (spelled : List Tok) (tokens : List Tok) (vs : Arguments) (rest : List Tok) : Type 0 where
  pub split : tokens ≡ spelled ++ rest
  pub shallow : arguments_depth vs ≤ d
  pub few : c.expressions + expressions_in_arguments vs ≤ 100000
  pub known : WritesArguments v d vs

-- the arguments of a call
abbrev pub TookListed : Version → ℕ → Counts → List Tok → Arguments → List Tok → Type 0
TookListed v d c tokens vs rest = TookArguments v d c (spell_listed (spell_arguments v vs)) tokens vs rest

-- further arguments
abbrev TookFurther : Version → ℕ → Counts → List Tok → Arguments → List Tok → Type 0
TookFurther v d c tokens vs rest = TookArguments v d c (spell_further (spell_arguments v vs)) tokens vs rest

-- arguments, of which there is one at least
record TookSome (v : Version) (d : ℕ) (c : Counts) (tokens : List Tok) (vs : Arguments) (rest : List Tok) : Type 0 where
  pub listed : TookListed v d c tokens vs rest
  pub further : spell_further (spell_arguments v vs) ≡ symbol symbols.Comma ∷ spell_listed (spell_arguments v vs)

-- an argument in front of further ones
some_took : (v : Version) (d : ℕ) (c : Counts) (a : Actual) (vs : Arguments) (tokens r1 rest : List Tok) → TookActual v d c tokens a r1 → TookFurther v d (counts_with_actual c a) r1 vs rest → TookSome v d c tokens (leading_actual a vs) rest
some_took v d c (actual_value e) vs tokens r1 rest one others = record {
  listed = record {
    split = one.spelled ∙ ap (λ r. spell_expression v e ++ r) others.split ∙ sym (append_assoc (spell_expression v e) (spell_further (spell_arguments v vs)) rest);
    shallow = omega (arith, one.shallow, others.shallow);
    few = omega (arith, others.few);
    known = (one.known.0, others.known);
  };
  further = refl;
}
some_took v d c (actual_collection i) vs tokens r1 rest one others =
    let front : List Tok = keyword words.Collection ∷ spell_collection v i in
    record {
      listed = record {
        split = one.spelled ∙ ap (λ r. front ++ r) others.split ∙ sym (append_assoc front (spell_further (spell_arguments v vs)) rest);
        shallow = omega (arith, one.shallow, others.shallow);
        few = omega (arith, others.few);
        known = (one.known.0, others.known);
      };
      further = refl;
    }
some_took v d c (actual_process t) vs tokens r1 rest one others =
    let front : List Tok = keyword words.SignalFunction ∷ spell_term v t in
    record {
      listed = record {
        split = one.spelled ∙ ap (λ r. front ++ r) others.split ∙ sym (append_assoc front (spell_further (spell_arguments v vs)) rest);
        shallow = omega (arith, one.shallow, others.shallow);
        few = omega (arith, others.few);
        known = (one.known.0, others.known);
      };
      further = refl;
    }

no_arguments_took : (v : Version) (d : ℕ) (c : Counts) (tokens rest : List Tok) → c.expressions ≤ 100000 → tokens ≡ symbol symbols.Close ∷ rest → TookArguments v d c (symbol symbols.Close ∷ []) tokens no_arguments rest
no_arguments_took v d c tokens rest few closed = record { split = closed; shallow = omega arith; few = omega (arith, few); known = tt }

took_some_as : (v : Version) (d : ℕ) (c : Counts) (tokens : List Tok) (vs ws : Arguments) (r u : List Tok) → got vs r ≡ got ws u → TookSome v d c tokens vs r → TookSome v d c tokens ws u
took_some_as v d c tokens vs ws r u is took =
    let same : Same vs ws r u = got_same vs ws r u is in
    subst (λ (ws : Arguments). TookSome v d c tokens ws u) same.value (subst (λ (r : List Tok). TookSome v d c tokens vs r) same.rest took)

took_further_as : (v : Version) (d : ℕ) (c : Counts) (tokens : List Tok) (vs ws : Arguments) (r u : List Tok) → got vs r ≡ got ws u → TookFurther v d c tokens vs r → TookFurther v d c tokens ws u
took_further_as v d c tokens vs ws r u is took =
    let same : Same vs ws r u = got_same vs ws r u is in
    subst (λ (ws : Arguments). TookFurther v d c tokens ws u) same.value (subst (λ (r : List Tok). TookFurther v d c tokens vs r) same.rest took)

took_listed_as : (v : Version) (d : ℕ) (c : Counts) (tokens : List Tok) (vs ws : Arguments) (r u : List Tok) → got vs r ≡ got ws u → TookListed v d c tokens vs r → TookListed v d c tokens ws u
took_listed_as v d c tokens vs ws r u is took =
    let same : Same vs ws r u = got_same vs ws r u is in
    subst (λ (ws : Arguments). TookListed v d c tokens ws u) same.value (subst (λ (r : List Tok). TookListed v d c tokens vs r) same.rest took)

-- each arguments that are read, so many at most, were taken
abbrev TakesSome : Version → ℕ → ℕ → Type 0
TakesSome v d n = (c : Counts) (tokens : List Tok) (vs : Arguments) (rest : List Tok) → c.expressions ≤ 100000 → parse_arguments n d v (parse_term d v) (parse_collection d v) c tokens ≡ got vs rest → TookSome v d c tokens vs rest

further_from_takes : (v : Version) (d n : ℕ) (c : Counts) (more : Bool) (tokens r0 : List Tok) (vs : Arguments) (rest : List Tok) → TakesSome v d n → c.expressions ≤ 100000 → tokens ≡ separator_token more ∷ r0
    → further_from no_arguments (parse_arguments n d v (parse_term d v) (parse_collection d v) c) more r0 ≡ got vs rest → TookFurther v d c tokens vs rest
further_from_takes v d n c true tokens r0 vs rest takes few comma is =
    let some : TookSome v d c r0 vs rest = takes c r0 vs rest few is in
    record {
      split = comma ∙ ap (λ r. symbol symbols.Comma ∷ r) some.listed.split ∙ ap (λ r. r ++ rest) (sym some.further);
      shallow = some.listed.shallow;
      few = some.listed.few;
      known = some.listed.known;
    }
further_from_takes v d n c false tokens r0 vs rest takes few closed is = took_further_as v d c tokens no_arguments vs r0 rest is (no_arguments_took v d c tokens r0 few closed)

further_takes : (v : Version) (d n : ℕ) (c : Counts) (tokens : List Tok) (vs : Arguments) (rest : List Tok) → TakesSome v d n → c.expressions ≤ 100000
    → parse_further no_arguments (parse_arguments n d v (parse_term d v) (parse_collection d v) c) tokens ≡ got vs rest → TookFurther v d c tokens vs rest
further_takes v d n c tokens vs rest takes few is =
    bind_got (λ more r. further_from no_arguments (parse_arguments n d v (parse_term d v) (parse_collection d v) c) more r) (parse_separator tokens) vs rest is (λ more r0 at is_more.
    further_from_takes v d n c more tokens r0 vs rest takes few (separator_takes tokens more r0 at) is_more)

some_takes : (v : Version) (d n : ℕ) → TakesParts v d → TakesSome v d n
unfolding parse_arguments
some_takes v d zero part c tokens vs rest few is = cc
some_takes v d (suc n) part c tokens vs rest few is =
    bind_got (λ a r. parse_further no_arguments (parse_arguments n d v (parse_term d v) (parse_collection d v) (counts_with_actual c a)) r and_then λ ws r. got (leading_actual a ws) r) (parse_argument d v (parse_term d v) (parse_collection d v) c tokens) vs rest is (λ a r1 at_a is_a.
    bind_got (λ ws r. got (leading_actual a ws) r) (parse_further no_arguments (parse_arguments n d v (parse_term d v) (parse_collection d v) (counts_with_actual c a)) r1) vs rest is_a (λ ws r2 at_ws is_ws.
    let one : TookActual v d c tokens a r1 = argument_takes v d c tokens a r1 part few at_a in
    let others : TookFurther v d (counts_with_actual c a) r1 ws r2 = further_takes v d n (counts_with_actual c a) r1 ws r2 (some_takes v d n part) one.few at_ws in
    took_some_as v d c tokens (leading_actual a ws) vs r2 rest is_ws (some_took v d c a ws tokens r1 r2 one others)))

listed_takes : (v : Version) (d : ℕ) (c : Counts) (o : Option (List Tok)) (tokens : List Tok) (vs : Arguments) (rest : List Tok) → TakesParts v d → c.expressions ≤ 100000 → behind_close tokens ≡ o
    → listed_read no_arguments (λ tokens. parse_arguments (suc (length tokens)) d v (parse_term d v) (parse_collection d v) c tokens) o tokens ≡ got vs rest → TookListed v d c tokens vs rest
listed_takes v d c (Some r0) tokens vs rest part few found is = took_listed_as v d c tokens no_arguments vs r0 rest is (no_arguments_took v d c tokens r0 few (close_takes tokens r0 found))
listed_takes v d c None tokens vs rest part few found is = (some_takes v d (suc (length tokens)) part c tokens vs rest few is).listed

-- the arguments of a call were taken
pub arguments_take : (v : Version) (d : ℕ) (c : Counts) (tokens : List Tok) (vs : Arguments) (rest : List Tok) → TakesParts v d → c.expressions ≤ 100000
    → parse_listed no_arguments (λ tokens. parse_arguments (suc (length tokens)) d v (parse_term d v) (parse_collection d v) c tokens) tokens ≡ got vs rest → TookListed v d c tokens vs rest
arguments_take v d c tokens vs rest part few is = listed_takes v d c (behind_close tokens) tokens vs rest part few refl is

-- a name and arguments in brackets
call_takes : (v : Version) (d : ℕ) (c : Counts) (start : List Tok) (t : Term) (rest : List Tok) → TakesParts v d → c.expressions ≤ 100000 → parse_call d v (parse_term d v) (parse_collection d v) c start ≡ got t rest → Took v (suc d) c start t rest
unfolding parse_call
call_takes v d c start t rest part few is =
    let arguments : List Tok → Read Arguments = λ r. parse_listed no_arguments (λ tokens. parse_arguments (suc (length tokens)) d v (parse_term d v) (parse_collection d v) c tokens) r in
    bind_got (λ g r. parse_symbol symbols.Open r and_then λ _ r. arguments r and_then λ vs r. term_read c (reference (call g vs)) start r) (parse_name start) t rest is (λ g r0 at_g is_g.
    bind_got (λ _ r. arguments r and_then λ vs r. term_read c (reference (call g vs)) start r) (parse_symbol symbols.Open r0) t rest is_g (λ u r1 opened is_u.
    bind_got (λ vs r. term_read c (reference (call g vs)) start r) (arguments r1) t rest is_u (λ vs r2 at_vs is_vs.
    within_takes (c.terms + terms_in (reference (call g vs))) (reference (call g vs)) t start r2 rest is_vs (λ few_terms same.
    let took : TookListed v d c r1 vs r2 = arguments_take v d c r1 vs r2 part few at_vs in
    took_as v (suc d) c start (reference (call g vs)) t r2 rest same (record {
      spelled = rw (name_takes start g r0 at_g, symbol_takes symbols.Open r0 u r1 opened, took.split) refl;
      shallow = omega (arith, took.shallow);
      few_terms = few_terms;
      few_expressions = took.few;
      known = took.known;
    })))))

behind_head_takes : (v : Version) (d : ℕ) (c : Counts) (h : Option Head) (k : Tok) (tokens : List Tok) (t : Term) (rest : List Tok) → TakesParts v d → head_of k ≡ h → c.expressions ≤ 100000
    → parse_behind_head d v (parse_term d v) (parse_collection d v) c h (k ∷ tokens) tokens ≡ got t rest → Took v (suc d) c (k ∷ tokens) t rest
behind_head_takes v d c (Some (heads.Bare b)) k tokens t rest part found few is =
    let head : IsHeadToken k (heads.Bare b) = head_takes k (heads.Bare b) tt found in
    within_takes (c.terms + 1) (primitive (bare b)) t (k ∷ tokens) tokens rest is (λ few_terms same.
    took_as v (suc d) c (k ∷ tokens) (primitive (bare b)) t tokens rest same
    (record { spelled = ap (λ w. w ∷ tokens) head.token; shallow = omega arith; few_terms = few_terms; few_expressions = omega arith; known = tt }))
behind_head_takes v d c (Some (heads.WithValue w)) k tokens t rest part found few is =
    let head : IsHeadToken k (heads.WithValue w) = head_takes k (heads.WithValue w) tt found in
    by_token v d c k (keyword (value_word w)) tokens t rest (λ start. parse_value d v c w start tokens) head.token is (value_takes v d c w tokens t rest head.begins)
behind_head_takes v d c (Some (heads.Timed w)) k tokens t rest part found few is =
    by_token v d c k (keyword (timing_word w)) tokens t rest (λ start. parse_timed d v c w start tokens) (head_takes k (heads.Timed w) tt found).token is (timed_takes v d c w tokens t rest)
behind_head_takes v d c (Some (heads.Selected w)) k tokens t rest part found few is =
    by_token v d c k (keyword (selection_word w)) tokens t rest (λ start. parse_selected c w start tokens) (head_takes k (heads.Selected w) tt found).token is (selected_takes v d c w tokens t rest few)
behind_head_takes v d c (Some heads.Never) k tokens t rest part found few is =
    by_token v d c k (keyword words.Never) tokens t rest (λ start. parse_never d v c start tokens) (head_takes k heads.Never tt found).token is (never_takes v d c tokens t rest few)
behind_head_takes v d c (Some heads.Arrow) k tokens t rest part found few is =
    by_token v d c k (keyword words.Arr) tokens t rest (λ start. parse_arrow d v c start tokens) (head_takes k heads.Arrow tt found).token is (arrow_takes v d c tokens t rest)
behind_head_takes v d c (Some (heads.Accumulated a)) k tokens t rest part found few is =
    by_token v d c k (keyword (accumulation_word a)) tokens t rest (λ start. parse_accumulated d v c a start tokens) (head_takes k (heads.Accumulated a) tt found).token is (accumulated_takes v d c a tokens t rest)
behind_head_takes v d c (Some heads.Joined) k tokens t rest part found few is =
    by_token v d c k (symbol symbols.Open) tokens t rest (λ start. parse_joined (parse_term d v) c start tokens) (head_takes k heads.Joined tt found).token is (joined_takes v d c tokens t rest part.term few)
behind_head_takes v d c (Some (heads.Sided s)) k tokens t rest part found few is =
    by_token v d c k (keyword (side_word s)) tokens t rest (λ start. parse_sided (parse_term d v) c s start tokens) (head_takes k (heads.Sided s) tt found).token is (sided_takes v d c s tokens t rest part.term few)
behind_head_takes v d c (Some (heads.Headed h)) k tokens t rest part found few is =
    by_token v d c k (heading_token h) tokens t rest (λ start. parse_headed d v (parse_term d v) c h start tokens) (head_takes k (heads.Headed h) tt found).token is (headed_takes v d c h tokens t rest part.term)
behind_head_takes v d c (Some heads.Transformed) k tokens t rest part found few is =
    by_token v d c k (symbol symbols.MapsFirstInput) tokens t rest (λ start. parse_transformed d v (parse_term d v) c start tokens) (head_takes k heads.Transformed tt found).token is (transformed_takes v d c tokens t rest part.term)
behind_head_takes v d c (Some (heads.Switching w)) k tokens t rest part found few is =
    by_token v d c k (keyword (switching_word w)) tokens t rest (λ start. parse_switching d (parse_term d v) c w start tokens) (head_takes k (heads.Switching w) tt found).token is (switching_takes v d c w tokens t rest part.term few)
behind_head_takes v d c (Some (heads.Named w)) k tokens t rest part found few is =
    let head : IsHeadToken k (heads.Named w) = head_takes k (heads.Named w) tt found in
    by_token v d c k (naming_token w) tokens t rest (λ start. parse_named w c start tokens) head.token is (named_takes v d c w tokens t rest few (λ n. keyword_written v w d n head.begins))
behind_head_takes v d c (Some (heads.Continuation w)) k tokens t rest part found few is =
    by_token v d c k (keyword (continuing_word w)) tokens t rest (λ start. parse_continuing d (parse_term d v) c w start tokens) (head_takes k (heads.Continuation w) tt found).token is (continuing_takes v d c w tokens t rest part.term few)
behind_head_takes v d c (Some heads.Gathered) k tokens t rest part found few is =
    by_token v d c k (keyword words.ParB) tokens t rest (λ start. parse_gathered (parse_collection d v) c start tokens) (head_takes k heads.Gathered tt found).token is (gathered_takes v d c tokens t rest part few)
behind_head_takes v d c (Some (heads.Releasing w)) k tokens t rest part found few is =
    by_token v d c k (keyword (releasing_word w)) tokens t rest (λ start. parse_releasing d (parse_term d v) (parse_collection d v) c w start tokens) (head_takes k (heads.Releasing w) tt found).token is (releasing_takes v d c w tokens t rest part few)
behind_head_takes v d c (Some (heads.Editing w)) k tokens t rest part found few is =
    by_token v d c k (keyword (editing_word w)) tokens t rest (λ start. parse_editing d (parse_collection d v) c w start tokens) (head_takes k (heads.Editing w) tt found).token is (editing_takes v d c w tokens t rest part few)
behind_head_takes v d c (Some heads.Call) k tokens t rest part found few is = call_takes v d c (k ∷ tokens) t rest part few is
behind_head_takes v d c None k tokens t rest part found few is = cc

-- a form that begins a process anew, or that its first token begins
head_at_takes : (v : Version) (d : ℕ) (c : Counts) (fresh : Bool) (k : Tok) (tokens : List Tok) (t : Term) (rest : List Tok) → TakesParts v d → begins_fresh v (k ∷ tokens) ≡ fresh → c.expressions ≤ 100000
    → parse_behind_head d v (parse_term d v) (parse_collection d v) c (if fresh then Some (heads.Named (namings.Process starts.Fresh)) else head_of k) (k ∷ tokens) tokens ≡ got t rest → Took v (suc d) c (k ∷ tokens) t rest
head_at_takes v d c true k tokens t rest part found few is =
    let first : IsFresh v k = fresh_takes v k tokens found in
    by_token v d c k (naming_token (namings.Process starts.Fresh)) tokens t rest (λ start. parse_named (namings.Process starts.Fresh) c start tokens) first.token is
    (named_takes v d c (namings.Process starts.Fresh) tokens t rest few (λ n. first.written))
head_at_takes v d c false k tokens t rest part found few is = behind_head_takes v d c (head_of k) k tokens t rest part refl few is

form_takes : (v : Version) (d : ℕ) (c : Counts) (tokens : List Tok) (t : Term) (rest : List Tok) → TakesParts v d → c.expressions ≤ 100000 → parse_form d v (parse_term d v) (parse_collection d v) c tokens ≡ got t rest → Took v (suc d) c tokens t rest
form_takes v d c (k ∷ tokens) t rest part few is = head_at_takes v d c (begins_fresh v (k ∷ tokens)) k tokens t rest part refl few is
form_takes v d c [] t rest part few is = cc

pub parts_taken : (v : Version) (d : ℕ) → TakesParts v d
unfolding parse_shallow
parts_taken v zero = record { term = λ c tokens t rest few is. deep_takes begins_term tokens t rest is; members = λ c tokens i rest few is. deep_takes begins_collection tokens i rest is }
parts_taken v (suc d) = record {
  term = λ c tokens t rest few is. form_takes v d c tokens t rest (parts_taken v d) few is;
  members = λ c tokens i rest few is. collection_form_takes v d c tokens i rest (parts_taken v d) few is;
}

pub term_takes : (v : Version) (d : ℕ) → Takes v d
term_takes v d = (parts_taken v d).term

-- what was read in front of a header's types and between them and behind
pub record TookSignature (v : Version) (tokens : List Tok) (s : Kind × Kind) (rest : List Tok) : Type 0 where
  pub spelled : tokens ≡ (symbol symbols.Colon ∷ (spell_type v s.0 ++ (symbol symbols.Leads ∷ (spell_type v s.1 ++ (symbol symbols.Equals ∷ []))))) ++ rest
  pub input : IsWrittenType v 64 s.0
  pub output : IsWrittenType v 64 s.1

pub signature_takes : (v : Version) (tokens : List Tok) (s : Kind × Kind) (rest : List Tok) → parse_signature v tokens ≡ got s rest → TookSignature v tokens s rest
unfolding parse_signature
signature_takes v tokens s rest is =
    bind_got (λ _ r. parse_type v r and_then λ a r. parse_symbol symbols.Leads r and_then λ _ r. parse_type v r and_then λ b r. parse_symbol symbols.Equals r and_then λ _ r. got (a, b) r) (parse_symbol symbols.Colon tokens) s rest is (λ u r1 colon is_colon.
    bind_got (λ a r. parse_symbol symbols.Leads r and_then λ _ r. parse_type v r and_then λ b r. parse_symbol symbols.Equals r and_then λ _ r. got (a, b) r) (parse_type v r1) s rest is_colon (λ a r2 input is_input.
    bind_got (λ _ r. parse_type v r and_then λ b r. parse_symbol symbols.Equals r and_then λ _ r. got (a, b) r) (parse_symbol symbols.Leads r2) s rest is_input (λ m r3 leads is_leads.
    bind_got (λ b r. parse_symbol symbols.Equals r and_then λ _ r. got (a, b) r) (parse_type v r3) s rest is_leads (λ b r4 output is_output.
    bind_got (λ _ r. got (a, b) r) (parse_symbol symbols.Equals r4) s rest is_output (λ w r5 equals is_equals.
    let one : TookType v 64 0 r1 a r2 = inner_type_takes v 64 r1 0 r1 a r2 input in
    let two : TookType v 64 0 r3 b r4 = inner_type_takes v 64 r3 0 r3 b r4 output in
    let same : Same (a, b) s r5 rest = got_same (a, b) s r5 rest is_equals in
    let took : TookSignature v tokens (a, b) r5 = record {
      spelled = rw (
        symbol_takes symbols.Colon tokens u r1 colon,
        one.spelled,
        symbol_takes symbols.Leads r2 m r3 leads,
        two.spelled,
        symbol_takes symbols.Equals r4 w r5 equals,
        append_assoc (spell_type v a) (symbol symbols.Leads ∷ (spell_type v b ++ (symbol symbols.Equals ∷ []))) r5,
        append_assoc (spell_type v b) (symbol symbols.Equals ∷ []) r5,
      ) refl;
      input = written_type v 64 r1 a r2 one;
      output = written_type v 64 r3 b r4 two;
    } in
    subst (λ (s : Kind × Kind). TookSignature v tokens s rest) same.value (subst (λ (r : List Tok). TookSignature v tokens (a, b) r) same.rest took))))))

-- what a name stands for was taken
record TookNameKind (v : Version) (tokens : List Tok) (k : NameKind) (rest : List Tok) : Type 0 where
  pub spelled : tokens ≡ spell_name_kind v k ++ rest
  pub known : WritesNameKind v k

took_name_kind_as : (v : Version) (tokens : List Tok) (j k : NameKind) (r u : List Tok) → got j r ≡ got k u → TookNameKind v tokens j r → TookNameKind v tokens k u
took_name_kind_as v tokens j k r u is took =
    let same : Same j k r u = got_same j k r u is in
    subst (λ (k : NameKind). TookNameKind v tokens k u) same.value (subst (λ (r : List Tok). TookNameKind v tokens j r) same.rest took)

parameter_kind_from_takes : (v : Version) (t : Kind) (o : Option (List Tok)) (tokens r1 : List Tok) (k : NameKind) (rest : List Tok) → TookType v 64 0 tokens t r1 → behind_leads r1 ≡ o
    → parameter_kind_from v t o r1 ≡ got k rest → TookNameKind v tokens k rest
parameter_kind_from_takes v t (Some r2) tokens r1 k rest one found is =
    bind_got (λ u r. got (Parameters.process t u) r) (parse_type v r2) k rest is (λ u r3 at_u is_u.
    let two : TookType v 64 0 r2 u r3 = inner_type_takes v 64 r2 0 r2 u r3 at_u in
    took_name_kind_as v tokens (Parameters.process t u) k r3 rest is_u (record {
      spelled = rw (one.spelled, leads_takes r1 r2 found, two.spelled, append_assoc (spell_type v t) (symbol symbols.Leads ∷ spell_type v u) r3) refl;
      known = (written_type v 64 tokens t r1 one, written_type v 64 r2 u r3 two);
    }))
parameter_kind_from_takes v t None tokens r1 k rest one found is =
    took_name_kind_as v tokens (Parameters.value t) k r1 rest is (record { spelled = one.spelled; known = written_type v 64 tokens t r1 one })

-- the types of a collection's keys were taken
record TookKeyKind (v : Version) (tokens : List Tok) (k : KeyKind) (rest : List Tok) : Type 0 where
  pub spelled : tokens ≡ spell_key_kind v k ++ rest
  pub known : WritesKeys v k

took_key_kind_as : (v : Version) (tokens : List Tok) (j k : KeyKind) (r u : List Tok) → got j r ≡ got k u → TookKeyKind v tokens j r → TookKeyKind v tokens k u
took_key_kind_as v tokens j k r u is took =
    let same : Same j k r u = got_same j k r u is in
    subst (λ (k : KeyKind). TookKeyKind v tokens k u) same.value (subst (λ (r : List Tok). TookKeyKind v tokens j r) same.rest took)

key_kind_takes : (v : Version) (tokens : List Tok) (k : KeyKind) (rest : List Tok) → parse_key_kind v tokens ≡ got k rest → TookKeyKind v tokens k rest
key_kind_takes versions.One tokens k rest is = took_key_kind_as versions.One tokens int_keys k tokens rest is (record { spelled = refl; known = tt })
key_kind_takes versions.Two tokens k rest is =
    bind_got (λ j r. parse_symbol symbols.Colon r and_then λ _ r. got j r) (parse_keys versions.Two tokens) k rest is (λ j r1 at_j is_j.
    bind_got (λ _ r. got j r) (parse_symbol symbols.Colon r1) k rest is_j (λ u r2 colon is_u.
    let one : TookKeys versions.Two tokens j r1 = keys_takes versions.Two tokens j r1 at_j in
    took_key_kind_as versions.Two tokens j k r2 rest is_u (record {
      spelled = one.spelled ∙ ap (λ r. spell_keys versions.Two j ++ r) (symbol_takes symbols.Colon r1 u r2 colon) ∙ sym (append_assoc (spell_keys versions.Two j) (symbol symbols.Colon ∷ []) r2);
      known = one.known;
    })))

-- the types of a collection were taken, behind their opening bracket
collection_kind_takes : (v : Version) (tokens : List Tok) (k : NameKind) (rest : List Tok) → parse_collection_kind v tokens ≡ got k rest → TookNameKind v (symbol symbols.OpenBracket ∷ tokens) k rest
unfolding parse_collection_kind
collection_kind_takes v tokens k rest is =
    bind_got (λ j r. parse_type v r and_then λ t r. parse_symbol symbols.Leads r and_then λ _ r. parse_type v r and_then λ u r. parse_symbol symbols.CloseBracket r and_then λ _ r. got (Parameters.collection j t u) r) (parse_key_kind v tokens) k rest is (λ j r1 at_j is_j.
    bind_got (λ t r. parse_symbol symbols.Leads r and_then λ _ r. parse_type v r and_then λ u r. parse_symbol symbols.CloseBracket r and_then λ _ r. got (Parameters.collection j t u) r) (parse_type v r1) k rest is_j (λ t r2 at_t is_t.
    bind_got (λ _ r. parse_type v r and_then λ u r. parse_symbol symbols.CloseBracket r and_then λ _ r. got (Parameters.collection j t u) r) (parse_symbol symbols.Leads r2) k rest is_t (λ m r3 leads is_m.
    bind_got (λ u r. parse_symbol symbols.CloseBracket r and_then λ _ r. got (Parameters.collection j t u) r) (parse_type v r3) k rest is_m (λ u r4 at_u is_u.
    bind_got (λ _ r. got (Parameters.collection j t u) r) (parse_symbol symbols.CloseBracket r4) k rest is_u (λ w r5 closed is_w.
    let one : TookKeyKind v tokens j r1 = key_kind_takes v tokens j r1 at_j in
    let two : TookType v 64 0 r1 t r2 = inner_type_takes v 64 r1 0 r1 t r2 at_t in
    let three : TookType v 64 0 r3 u r4 = inner_type_takes v 64 r3 0 r3 u r4 at_u in
    took_name_kind_as v (symbol symbols.OpenBracket ∷ tokens) (Parameters.collection j t u) k r5 rest is_w (record {
      spelled = ap (λ r. symbol symbols.OpenBracket ∷ r) (rw (
        one.spelled,
        two.spelled,
        symbol_takes symbols.Leads r2 m r3 leads,
        three.spelled,
        symbol_takes symbols.CloseBracket r4 w r5 closed,
        append_assoc (spell_key_kind v j) (spell_type v t ++ (symbol symbols.Leads ∷ (spell_type v u ++ (symbol symbols.CloseBracket ∷ [])))) r5,
        append_assoc (spell_type v t) (symbol symbols.Leads ∷ (spell_type v u ++ (symbol symbols.CloseBracket ∷ []))) r5,
        append_assoc (spell_type v u) (symbol symbols.CloseBracket ∷ []) r5,
      ) refl);
      known = (one.known, written_type v 64 r1 t r2 two, written_type v 64 r3 u r4 three);
    }))))))

kind_from_takes : (v : Version) (o : Option (List Tok)) (tokens : List Tok) (k : NameKind) (rest : List Tok) → behind_list tokens ≡ o → parse_kind_from v o tokens ≡ got k rest → TookNameKind v tokens k rest
kind_from_takes v (Some r0) tokens k rest found is = rw (list_takes tokens r0 found) (collection_kind_takes v r0 k rest is)
kind_from_takes v None tokens k rest found is =
    bind_got (λ t r. parameter_kind_from v t (behind_leads r) r) (parse_type v tokens) k rest is (λ t r1 at_t is_t.
    parameter_kind_from_takes v t (behind_leads r1) tokens r1 k rest (inner_type_takes v 64 tokens 0 tokens t r1 at_t) refl is_t)

name_kind_takes : (v : Version) (tokens : List Tok) (k : NameKind) (rest : List Tok) → parse_name_kind v tokens ≡ got k rest → TookNameKind v tokens k rest
unfolding parse_name_kind
name_kind_takes v tokens k rest is = kind_from_takes v (behind_list tokens) tokens k rest refl is

pub record TookParameter (v : Version) (tokens : List Tok) (q : Name × NameKind) (rest : List Tok) : Type 0 where
  pub spelled : tokens ≡ spell_parameter v q ++ rest
  pub known : WritesNameKind v q.1

pub parameter_takes : (v : Version) (tokens : List Tok) (q : Name × NameKind) (rest : List Tok) → parse_parameter v tokens ≡ got q rest → TookParameter v tokens q rest
unfolding parse_parameter
parameter_takes v tokens q rest is =
    bind_got (λ x r. parse_symbol symbols.Colon r and_then λ _ r. parse_name_kind v r and_then λ k r. got (x, k) r) (parse_name tokens) q rest is (λ x r0 at_x is_x.
    bind_got (λ _ r. parse_name_kind v r and_then λ k r. got (x, k) r) (parse_symbol symbols.Colon r0) q rest is_x (λ u r1 colon is_u.
    bind_got (λ k r. got (x, k) r) (parse_name_kind v r1) q rest is_u (λ k r2 at_k is_k.
    let one : TookNameKind v r1 k r2 = name_kind_takes v r1 k r2 at_k in
    let same : Same (x, k) q r2 rest = got_same (x, k) q r2 rest is_k in
    let took : TookParameter v tokens (x, k) r2 = record { spelled = rw (name_takes tokens x r0 at_x, symbol_takes symbols.Colon r0 u r1 colon, one.spelled) refl; known = one.known } in
    subst (λ (q : Name × NameKind). TookParameter v tokens q rest) same.value (subst (λ (r : List Tok). TookParameter v tokens (x, k) r) same.rest took))))

abbrev AreWritten : Version → Bindings → Type 0
AreWritten v qs = All (λ (q : Name × NameKind). WritesNameKind v q.1) qs

-- parameters were taken that are spelled so
record TookBindings (v : Version) (spelled : List Tok) (tokens : List Tok) (qs : Bindings) (rest : List Tok) : Type 0 where
  pub split : tokens ≡ spelled ++ rest
  pub known : AreWritten v qs

-- the parameters of a template
abbrev TookParameters : Version → List Tok → Bindings → List Tok → Type 0
TookParameters v tokens qs rest = TookBindings v (spell_listed (map (spell_parameter v) qs)) tokens qs rest

-- further parameters
abbrev TookMore : Version → List Tok → Bindings → List Tok → Type 0
TookMore v tokens qs rest = TookBindings v (spell_further (map (spell_parameter v) qs)) tokens qs rest

-- parameters, of which there is one at least
record TookAny (v : Version) (tokens : List Tok) (qs : Bindings) (rest : List Tok) : Type 0 where
  pub listed : TookParameters v tokens qs rest
  pub further : spell_further (map (spell_parameter v) qs) ≡ symbol symbols.Comma ∷ spell_listed (map (spell_parameter v) qs)

took_any_as : (v : Version) (tokens : List Tok) (ps qs : Bindings) (r u : List Tok) → got ps r ≡ got qs u → TookAny v tokens ps r → TookAny v tokens qs u
took_any_as v tokens ps qs r u is took =
    let same : Same ps qs r u = got_same ps qs r u is in
    subst (λ (qs : Bindings). TookAny v tokens qs u) same.value (subst (λ (r : List Tok). TookAny v tokens ps r) same.rest took)

took_more_as : (v : Version) (tokens : List Tok) (ps qs : Bindings) (r u : List Tok) → got ps r ≡ got qs u → TookMore v tokens ps r → TookMore v tokens qs u
took_more_as v tokens ps qs r u is took =
    let same : Same ps qs r u = got_same ps qs r u is in
    subst (λ (qs : Bindings). TookMore v tokens qs u) same.value (subst (λ (r : List Tok). TookMore v tokens ps r) same.rest took)

took_parameters_as : (v : Version) (tokens : List Tok) (ps qs : Bindings) (r u : List Tok) → got ps r ≡ got qs u → TookParameters v tokens ps r → TookParameters v tokens qs u
took_parameters_as v tokens ps qs r u is took =
    let same : Same ps qs r u = got_same ps qs r u is in
    subst (λ (qs : Bindings). TookParameters v tokens qs u) same.value (subst (λ (r : List Tok). TookParameters v tokens ps r) same.rest took)

no_parameters_took : (v : Version) (tokens rest : List Tok) → tokens ≡ symbol symbols.Close ∷ rest → TookBindings v (symbol symbols.Close ∷ []) tokens [] rest
no_parameters_took v tokens rest closed = record { split = closed; known = All-nil (λ (q : Name × NameKind). WritesNameKind v q.1) }

-- each parameters that are read, so many at most, were taken
abbrev TakesAny : Version → ℕ → Type 0
TakesAny v n = (tokens : List Tok) (qs : Bindings) (rest : List Tok) → parse_parameters n v tokens ≡ got qs rest → TookAny v tokens qs rest

more_from_takes : (v : Version) (n : ℕ) (more : Bool) (tokens r0 : List Tok) (qs : Bindings) (rest : List Tok) → TakesAny v n → tokens ≡ separator_token more ∷ r0
    → further_from [] (parse_parameters n v) more r0 ≡ got qs rest → TookMore v tokens qs rest
more_from_takes v n true tokens r0 qs rest takes comma is =
    let any : TookAny v r0 qs rest = takes r0 qs rest is in
    record { split = comma ∙ ap (λ r. symbol symbols.Comma ∷ r) any.listed.split ∙ ap (λ r. r ++ rest) (sym any.further); known = any.listed.known }
more_from_takes v n false tokens r0 qs rest takes closed is = took_more_as v tokens [] qs r0 rest is (no_parameters_took v tokens r0 closed)

any_takes : (v : Version) (n : ℕ) → TakesAny v n
unfolding parse_parameters
any_takes v zero tokens qs rest is = cc
any_takes v (suc n) tokens qs rest is =
    bind_got (λ q r. parse_further [] (parse_parameters n v) r and_then λ ps r. got (q ∷ ps) r) (parse_parameter v tokens) qs rest is (λ q r1 at_q is_q.
    bind_got (λ ps r. got (q ∷ ps) r) (parse_further [] (parse_parameters n v) r1) qs rest is_q (λ ps r2 at_ps is_ps.
    bind_got (λ more r. further_from [] (parse_parameters n v) more r) (parse_separator r1) ps r2 at_ps (λ more r0 at is_more.
    let one : TookParameter v tokens q r1 = parameter_takes v tokens q r1 at_q in
    let others : TookMore v r1 ps r2 = more_from_takes v n more r1 r0 ps r2 (any_takes v n) (separator_takes r1 more r0 at) is_more in
    took_any_as v tokens (q ∷ ps) qs r2 rest is_ps (record {
      listed = record {
        split = one.spelled ∙ ap (λ r. spell_parameter v q ++ r) others.split ∙ sym (append_assoc (spell_parameter v q) (spell_further (map (spell_parameter v) ps)) r2);
        known = All-cons (λ (q : Name × NameKind). WritesNameKind v q.1) q ps one.known others.known;
      };
      further = refl;
    }))))

parameters_from_takes : (v : Version) (o : Option (List Tok)) (tokens : List Tok) (qs : Bindings) (rest : List Tok) → behind_close tokens ≡ o
    → listed_read [] (λ tokens. parse_parameters (suc (length tokens)) v tokens) o tokens ≡ got qs rest → TookParameters v tokens qs rest
parameters_from_takes v (Some r0) tokens qs rest found is = took_parameters_as v tokens [] qs r0 rest is (no_parameters_took v tokens r0 (close_takes tokens r0 found))
parameters_from_takes v None tokens qs rest found is = (any_takes v (suc (length tokens)) tokens qs rest is).listed

-- a template's name and its parameters were taken
pub record TookHeading (v : Version) (tokens : List Tok) (h : Name × Bindings) (rest : List Tok) : Type 0 where
  pub spelled : tokens ≡ keyword words.Template ∷ name h.0 ∷ symbol symbols.Open ∷ (spell_listed (map (spell_parameter v) h.1) ++ rest)
  pub known : AreWritten v h.1

pub heading_takes : (v : Version) (tokens : List Tok) (h : Name × Bindings) (rest : List Tok) → parse_heading v tokens ≡ got h rest → TookHeading v tokens h rest
unfolding parse_heading
heading_takes v tokens h rest is =
    let parameters : List Tok → Read Bindings = λ r. parse_listed [] (λ tokens. parse_parameters (suc (length tokens)) v tokens) r in
    bind_got (λ _ r. parse_name r and_then λ n r. parse_symbol symbols.Open r and_then λ _ r. parameters r and_then λ qs r. got (n, qs) r) (parse_keyword words.Template tokens) h rest is (λ u r1 word is_word.
    bind_got (λ n r. parse_symbol symbols.Open r and_then λ _ r. parameters r and_then λ qs r. got (n, qs) r) (parse_name r1) h rest is_word (λ n r2 named is_named.
    bind_got (λ _ r. parameters r and_then λ qs r. got (n, qs) r) (parse_symbol symbols.Open r2) h rest is_named (λ w r3 opened is_opened.
    bind_got (λ qs r. got (n, qs) r) (parameters r3) h rest is_opened (λ qs r4 at_qs is_qs.
    let took : TookParameters v r3 qs r4 = parameters_from_takes v (behind_close r3) r3 qs r4 refl at_qs in
    let same : Same (n, qs) h r4 rest = got_same (n, qs) h r4 rest is_qs in
    let heading : TookHeading v tokens (n, qs) r4 = record {
      spelled = rw (keyword_takes words.Template tokens u r1 word, name_takes r1 n r2 named, symbol_takes symbols.Open r2 w r3 opened, took.split) refl;
      known = took.known;
    } in
    subst (λ (h : Name × Bindings). TookHeading v tokens h rest) same.value (subst (λ (r : List Tok). TookHeading v tokens (n, qs) r) same.rest heading)))))

pub record TookTemplate (v : Version) (c : Counts) (tokens : List Tok) (t : Template) (rest : List Tok) : Type 0 where
  pub spelled : tokens ≡ spell_template v t ++ rest
  pub typed : HasWrittenTypes v t
  pub shallow : term_depth t.body ≤ 64
  pub few_terms : c.terms + terms_in t.body ≤ 100000
  pub few_expressions : c.expressions + expressions_in t.body ≤ 100000

-- the parts of a template, one behind the other
template_took : (v : Version) (c : Counts) (tokens r1 r2 r3 rest : List Tok) (h : Name × Bindings) (s : Kind × Kind) (t : Term)
    → TookHeading v tokens h r1 → TookSignature v r1 s r2 → Took v 64 c r2 t r3 → r3 ≡ symbol symbols.Semicolon ∷ rest → TookTemplate v c tokens (template_of h s t) rest
template_took v c tokens r1 r2 r3 rest h s t titled signed took closed =
    let heading : List Tok = spell_heading v (template_of h s t) in
    let signature : List Tok = spell_signature v (template_of h s t) in
    let ending : List Tok = spell_term v t ++ (symbol symbols.Semicolon ∷ []) in
    let behind : r1 ≡ (signature ++ ending) ++ rest = rw (signed.spelled, took.spelled, closed, append_assoc signature ending rest, append_assoc (spell_term v t) (symbol symbols.Semicolon ∷ []) rest) refl in
    record {
      spelled = titled.spelled ∙ ap (λ r. heading ++ r) behind ∙ sym (append_assoc heading (signature ++ ending) rest);
      typed = record { parameters = titled.known; input = signed.input; output = signed.output; body = took.known };
      shallow = took.shallow;
      few_terms = took.few_terms;
      few_expressions = took.few_expressions;
    }

pub template_takes : (v : Version) (c : Counts) (tokens : List Tok) (t : Template) (rest : List Tok) → c.expressions ≤ 100000 → parse_template v c tokens ≡ got t rest → TookTemplate v c tokens t rest
unfolding parse_template
template_takes v c tokens t rest few is =
    bind_got (λ h r. parse_signature v r and_then λ s r. parse_term 64 v c r and_then λ b r. parse_symbol symbols.Semicolon r and_then λ _ r. got (template_of h s b) r) (parse_heading v tokens) t rest is (λ h r1 heading is_heading.
    bind_got (λ s r. parse_term 64 v c r and_then λ b r. parse_symbol symbols.Semicolon r and_then λ _ r. got (template_of h s b) r) (parse_signature v r1) t rest is_heading (λ s r2 signed is_signed.
    bind_got (λ b r. parse_symbol symbols.Semicolon r and_then λ _ r. got (template_of h s b) r) (parse_term 64 v c r2) t rest is_signed (λ b r3 at_b is_b.
    bind_got (λ _ r. got (template_of h s b) r) (parse_symbol symbols.Semicolon r3) t rest is_b (λ u r4 closed is_closed.
    let same : Same (template_of h s b) t r4 rest = got_same (template_of h s b) t r4 rest is_closed in
    let took : TookTemplate v c tokens (template_of h s b) r4 = template_took v c tokens r1 r2 r3 r4 h s b (heading_takes v tokens h r1 heading) (signature_takes v r1 s r2 signed) (term_takes v 64 c r2 b r3 few at_b) (symbol_takes symbols.Semicolon r3 u r4 closed) in
    subst (λ (r : List Tok). TookTemplate v c tokens t r) same.rest (subst (λ (t : Template). TookTemplate v c tokens t r4) same.value took)))))

pub opening_takes : (tokens : List Tok) (v : Version) (rest : List Tok) → parse_opening tokens ≡ got v rest → tokens ≡ keyword words.Network ∷ number (pos (version_number v)) ∷ symbol symbols.Semicolon ∷ rest
unfolding parse_opening
opening_takes tokens v rest is =
    bind_got (λ _ r. parse_version r and_then λ v r. parse_symbol symbols.Semicolon r and_then λ _ r. got v r) (parse_keyword words.Network tokens) v rest is (λ u r1 word is_word.
    bind_got (λ v r. parse_symbol symbols.Semicolon r and_then λ _ r. got v r) (parse_version r1) v rest is_word (λ w r2 version is_version.
    bind_got (λ _ r. got w r) (parse_symbol symbols.Semicolon r2) v rest is_version (λ u' r3 semicolon is_semicolon.
    let same : Same w v r3 rest = got_same w v r3 rest is_semicolon in
    rw (keyword_takes words.Network tokens u r1 word, version_takes r1 w r2 version, symbol_takes symbols.Semicolon r2 u' r3 semicolon, same.value, same.rest) refl)))
