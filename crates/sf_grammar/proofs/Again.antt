-- What is spelled within the limits is read again, whatever follows.
use Rattle.std.proofs.Common.{◌≡◌, ℕ, zero, suc, ◌+◌, ◌≤◌, Bool, true, false, Option, Some, None, List, [], ◌∷◌, ◌++◌, length, map, refl, ◌∙◌, ap, append_assoc, arith}
use Rattle.std.specs.List.{All}
use Rattle.std.proofs.lemmas.List.{length-append, length-map}
use Rattle.std.proofs.lemmas.List.Elements.{All-head, All-tail}
use Rattle.sf_value.specs.Values.{Name, KeyKind, int_keys, text_keys, Kind, unit_kind, bool_kind, int_kind, text_kind, pair_kind, event_kind, table_kind, nodes}
use Rattle.sf_expr.specs.Expressions.{Pattern, unnamed, named, both, pattern_depth, Literal, unit_literal, truth_literal, int_literal, text_literal, none_literal, Expression, variable, literal, paired, applied, operation, conditional, mapped, folded, called, size, Function, function, function_depth, function_size}
use Rattle.sf_expr.specs.Expressions
use Rattle.sf_operator.specs.declared.operator.Unary.{Unary}
use Rattle.sf_operator.specs.declared.operator.Operator.{Operator}
use Rattle.sf_operator.specs.declared.operator.Mapping.{Mapping}
use Rattle.sf_operator.specs.declared.operator.Mapping.TheVariants as mappings
use Rattle.sf_operator.specs.declared.operator.Folding.{Folding}
use Rattle.sf_term.specs.declared.form.Bare.TheVariants as bares
use Rattle.sf_term.specs.declared.form.WithValue.{WithValue}
use Rattle.sf_term.specs.declared.form.WithValue.TheVariants as values
use Rattle.sf_term.specs.declared.form.Heading.TheVariants as headings
use Rattle.sf_term.specs.declared.form.Naming.{Naming}
use Rattle.sf_term.specs.declared.form.Naming.TheVariants as namings
use Rattle.sf_term.specs.Parameters.{NameKind, Bindings, process}
use Rattle.sf_term.specs.Parameters
use Rattle.sf_term.specs.Trees.{terms_with_value, bare, probe, never, with_value, timed, selected, arrow, accumulated, fused, Term, primitive, reference, joined, sided, headed, transformed, switching, continuing, gathered, releasing, editing, staged, Collection, without_members, used, added, dropped, kept, chosen, started, call, named_term, Arguments, no_arguments, value_argument, process_argument, collection_argument, closed_argument, Template, term_depth, collection_depth, arguments_depth, terms_in, terms_collected, terms_in_arguments, expressions_in, expressions_collected, expressions_in_arguments}
use Rattle.sf_lex.specs.declared.word.Keyword.TheVariants as words
use Rattle.sf_lex.specs.declared.symbol.Symbol.TheVariants as symbols
use Rattle.sf_lex.specs.Tokens.{Tok, keyword, name, number, text, symbol}
use Rattle.sf_grammar.specs.declared.ty.Version.{Version}
use Rattle.sf_grammar.specs.declared.ty.Version.TheVariants as versions
use Rattle.sf_grammar.specs.declared.head.Head.TheVariants as heads
use Rattle.sf_grammar.specs.declared.head.ExpressionHead.TheVariants as expression_heads
use Rattle.sf_grammar.specs.declared.head.Link.{Link}
use Rattle.sf_grammar.specs.declared.head.Link.TheVariants as links
use Rattle.sf_grammar.specs.Spelling.{releasing_word, editing_word, spell_collection, spell_key_kind, WritesKeys, WritesCollection, IsWrittenType, stands_initially, head_makes, unary_word, takes_brackets, operator_token, stands_between, mapping_word, maps_in_brackets, folding_word, spell_operand, spell_operands, spell_choice, spell_mapped, spell_folded, spell_called, spell_mapping, spell_keys, spell_type, spell_pattern, spell_literal, spell_expression, spell_function, spell_further, spell_listed, spell_term, spell_arguments, spell_parameter, spell_heading, spell_signature, spell_template, bare_word, value_word, side_word, heading_token, timing_word, selection_word, accumulation_word, switching_word, continuing_word, naming_token, join_symbol, in_brackets, type_depth, WritesType, WritesExpression, WritesFunction, WritesTerm, WritesArguments, WritesNameKind, HasWrittenTypes}
use Rattle.sf_grammar.specs.Reading.{parse_shallow, parse_collection, parse_gathered, parse_releasing, parse_editing, parse_edit, parse_empty, parse_used, parse_added, parse_dropped, parse_kept, parse_chosen, parse_collection_kind, parse_key_kind, counts_with_collection, actual_collection, parse_never, parse_timed, parse_selected, Read, got, ◌and_then◌, Counts, counted_term, counts_with_expression, counts_with_function, parse_symbol, parse_keys, parse_outer_type, parse_inner_type, parse_pair_type, parse_pattern, parse_pattern_pair, parse_link, linked, parse_linked, bracketed_from, parse_none, parse_prefixed, parse_one_in_brackets, parse_two_in_brackets, parse_conditional, parse_mapping, parse_let, parse_one_and_function, parse_two_and_function, parse_called, expression_head, parse_expression, expression_read, parse_function, parse_join, parse_term, term_read, parse_joined, parse_value, parse_arrow, parse_accumulated, parse_sided, parse_headed, parse_transformed, parse_body, parse_switching, tokens_head, parse_named, parse_continuing, Actual, actual_value, actual_process, leading_actual, counts_with_actual, parse_argument, parse_arguments, parse_call, behind_leads, parse_further, parse_listed, parse_name_kind, parse_parameter, parse_parameters, parse_heading, parse_signature, parse_template}
use Rattle.sf_grammar.proofs.Words.{head_again, heading_begins, start_again, join_again, link_again, link_token, LinksBetween, unary_again, IsInFront, operator_again, folding_again, keys_again, no_close, no_argument_word, no_list}
use Rattle.sf_grammar.proofs.Parts.{spell_actual, within, type_within, brackets_behind, three_behind, parts_again, no_leads, further_long}

-- a type that is made of one part
outer_type_again : (v : Version) (t : Kind) (d : ℕ) (start : List Tok) (whole : Kind → Kind) (met : ℕ) (rest : List Tok) → parse_inner_type d v start (met + 1) (spell_type v t ++ rest) ≡ got t rest
    → parse_outer_type (parse_inner_type d v start) whole met (spell_type v t ++ rest) ≡ got (whole t) rest
unfolding parse_outer_type
outer_type_again v t d start whole met rest part = rw part refl

pub inner_type_again : (v : Version) (k : Kind) (d : ℕ) (start : List Tok) (met : ℕ) (rest : List Tok) → type_depth k ≤ d → met + nodes k ≤ 256 → WritesType v k
    → parse_inner_type d v start met (spell_type v k ++ rest) ≡ got k rest
unfolding parse_inner_type parse_pair_type
inner_type_again v unit_kind zero start met rest deep few known = absurd (omega arith)
inner_type_again v bool_kind zero start met rest deep few known = absurd (omega arith)
inner_type_again v int_kind zero start met rest deep few known = absurd (omega arith)
inner_type_again v text_kind zero start met rest deep few known = absurd (omega arith)
inner_type_again v (pair_kind t u) zero start met rest deep few known = absurd (omega arith)
inner_type_again v (event_kind t) zero start met rest deep few known = absurd (omega arith)
inner_type_again v (table_kind k t) zero start met rest deep few known = absurd (omega arith)
inner_type_again v unit_kind (suc d) start met rest deep few known = type_within met start (got unit_kind rest) (omega arith)
inner_type_again v bool_kind (suc d) start met rest deep few known = type_within met start (got bool_kind rest) (omega arith)
inner_type_again v int_kind (suc d) start met rest deep few known = type_within met start (got int_kind rest) (omega arith)
inner_type_again v text_kind (suc d) start met rest deep few known = type_within met start (got text_kind rest) (omega arith)
inner_type_again v (pair_kind t u) (suc d) start met rest deep few known =
    let behind : List Tok = spell_type v u ++ (symbol symbols.Close ∷ rest) in
    ap (λ (r : List Tok). parse_inner_type (suc d) v start met (symbol symbols.Open ∷ r)) (brackets_behind (spell_type v t) (spell_type v u) rest (symbol symbols.Comma))
    ∙ type_within met start (parse_pair_type (parse_inner_type d v start) met (spell_type v t ++ (symbol symbols.Comma ∷ behind))) (omega arith)
    ∙ parts_again (parse_inner_type d v start (met + 1)) (parse_symbol symbols.Comma) (λ t. parse_inner_type d v start (met + 1 + nodes t)) (λ t _ u rest. got (pair_kind t u) rest) t tt u
    (spell_type v t ++ (symbol symbols.Comma ∷ behind)) (symbol symbols.Comma ∷ behind) behind rest
    (inner_type_again v t d start (met + 1) (symbol symbols.Comma ∷ behind) (omega arith) (omega arith) known.0) refl
    (inner_type_again v u d start (met + 1 + nodes t) (symbol symbols.Close ∷ rest) (omega arith) (omega arith) known.1)
inner_type_again v (event_kind t) (suc d) start met rest deep few known =
    type_within met start (parse_outer_type (parse_inner_type d v start) event_kind met (spell_type v t ++ rest)) (omega arith)
    ∙ outer_type_again v t d start event_kind met rest (inner_type_again v t d start (met + 1) rest (omega arith) (omega arith) known)
inner_type_again v (table_kind k t) (suc d) start met rest deep few known =
    let keyed : List Tok → Read Kind = λ r. parse_keys v r and_then λ k r. parse_outer_type (parse_inner_type d v start) (table_kind k) met r in
    type_within met start (keyed ((spell_keys v k ++ spell_type v t) ++ rest)) (omega arith)
    ∙ ap keyed (append_assoc (spell_keys v k) (spell_type v t) rest)
    ∙ ap (λ (read : Read KeyKind). read and_then λ k r. parse_outer_type (parse_inner_type d v start) (table_kind k) met r) (keys_again v k (spell_type v t ++ rest) known.0)
    ∙ outer_type_again v t d start (table_kind k) met rest (inner_type_again v t d start (met + 1) rest (omega arith) (omega arith) known.1)

pub pattern_again : (p : Pattern) (d : ℕ) (rest : List Tok) → pattern_depth p ≤ d → parse_pattern d (spell_pattern p ++ rest) ≡ got p rest
unfolding parse_pattern parse_pattern_pair
pattern_again unnamed zero rest deep = absurd (omega arith)
pattern_again (named x) zero rest deep = absurd (omega arith)
pattern_again (both p q) zero rest deep = absurd (omega arith)
pattern_again unnamed (suc d) rest deep = refl
pattern_again (named x) (suc d) rest deep = refl
pattern_again (both p q) (suc d) rest deep =
    let behind : List Tok = spell_pattern q ++ (symbol symbols.Close ∷ rest) in
    ap (λ (r : List Tok). parse_pattern (suc d) (symbol symbols.Open ∷ r)) (brackets_behind (spell_pattern p) (spell_pattern q) rest (symbol symbols.Comma))
    ∙ parts_again (parse_pattern d) (parse_symbol symbols.Comma) (λ _. parse_pattern d) (λ p _ q rest. got (both p q) rest) p tt q
    (spell_pattern p ++ (symbol symbols.Comma ∷ behind)) (symbol symbols.Comma ∷ behind) behind rest
    (pattern_again p d (symbol symbols.Comma ∷ behind) (omega arith)) refl (pattern_again q d (symbol symbols.Close ∷ rest) (omega arith))

link_at_again : (l : Link) (rest : List Tok) → LinksBetween l → parse_link (link_token l ∷ rest) ≡ got l rest
link_at_again l rest between = rw (link_again l between) refl

-- two expressions in brackets
linked_again : (v : Version) (l : Link) (e f : Expression) (d : ℕ) (c : Counts) (rest : List Tok) → LinksBetween l
    → ((rest : List Tok) → parse_expression d v c (spell_expression v e ++ rest) ≡ got e rest)
    → ((rest : List Tok) → parse_expression d v (counts_with_expression c e) (spell_expression v f ++ rest) ≡ got f rest)
    → c.expressions + size (linked l e f) ≤ 100000
    → parse_expression (suc d) v c (in_brackets (spell_expression v e) (link_token l) (spell_expression v f) ++ rest) ≡ got (linked l e f) rest
unfolding parse_expression parse_linked
linked_again v l e f d c rest between one two few =
    let behind : List Tok = spell_expression v f ++ (symbol symbols.Close ∷ rest) in
    let tokens : List Tok = spell_expression v e ++ (link_token l ∷ behind) in
    let start : List Tok = symbol symbols.Open ∷ tokens in
    ap (λ (r : List Tok). parse_expression (suc d) v c (symbol symbols.Open ∷ r)) (brackets_behind (spell_expression v e) (spell_expression v f) rest (link_token l))
    ∙ ap (λ (o : Option (List Tok)). bracketed_from (parse_expression d v) c o start tokens) (no_close v e (link_token l ∷ behind))
    ∙ parts_again (parse_expression d v c) parse_link (λ e. parse_expression d v (counts_with_expression c e)) (λ e l f rest. expression_read c (linked l e f) start rest) e l f
    tokens (link_token l ∷ behind) behind rest
    (one (link_token l ∷ behind)) (link_at_again l behind between) (two (symbol symbols.Close ∷ rest))
    ∙ within (c.expressions + size (linked l e f)) (linked l e f) start rest few

-- an operator on an expression, by how that stands
applied_again : (v : Version) (o : Unary) (brackets : Bool) (e : Expression) (d : ℕ) (c : Counts) (rest : List Tok) → takes_brackets o ≡ brackets
    → ((rest : List Tok) → parse_expression d v c (spell_expression v e ++ rest) ≡ got e rest) → c.expressions + size (applied o e) ≤ 100000
    → parse_expression (suc d) v c ((keyword (unary_word o) ∷ spell_operand brackets (spell_expression v e)) ++ rest) ≡ got (applied o e) rest
unfolding parse_expression parse_prefixed parse_one_in_brackets
applied_again v o false e d c rest is part few =
    rw (unary_again o, is, part rest) (within (c.expressions + size (applied o e)) (applied o e) (keyword (unary_word o) ∷ (spell_expression v e ++ rest)) rest few)
applied_again v o true e d c rest is part few =
    let tokens : List Tok = symbol symbols.Open ∷ (spell_expression v e ++ (symbol symbols.Close ∷ rest)) in
    rw (append_assoc (spell_expression v e) (symbol symbols.Close ∷ []) rest, unary_again o, is, part (symbol symbols.Close ∷ rest))
    (within (c.expressions + size (applied o e)) (applied o e) (keyword (unary_word o) ∷ tokens) rest few)

-- an operator on two expressions, by where its token stands
operation_again : (v : Version) (between : Bool) (e : Expression) (o : Operator) (f : Expression) (d : ℕ) (c : Counts) (rest : List Tok) → stands_between o ≡ between
    → ((rest : List Tok) → parse_expression d v c (spell_expression v e ++ rest) ≡ got e rest)
    → ((rest : List Tok) → parse_expression d v (counts_with_expression c e) (spell_expression v f ++ rest) ≡ got f rest)
    → c.expressions + size (operation e o f) ≤ 100000
    → parse_expression (suc d) v c (spell_operands between (operator_token o) (spell_expression v e) (spell_expression v f) ++ rest) ≡ got (operation e o f) rest
unfolding parse_expression parse_two_in_brackets
operation_again v true e o f d c rest is one two few = linked_again v (links.Operation o) e f d c rest is one two few
operation_again v false e o f d c rest is one two few =
    let front : IsInFront o = operator_again o is in
    let behind : List Tok = spell_expression v f ++ (symbol symbols.Close ∷ rest) in
    let tokens : List Tok = spell_expression v e ++ (symbol symbols.Comma ∷ behind) in
    let start : List Tok = keyword front.word ∷ symbol symbols.Open ∷ tokens in
    ap (λ (t : Tok). parse_expression (suc d) v c (t ∷ (in_brackets (spell_expression v e) (symbol symbols.Comma) (spell_expression v f) ++ rest))) front.token
    ∙ ap (λ (r : List Tok). parse_expression (suc d) v c (keyword front.word ∷ symbol symbols.Open ∷ r)) (brackets_behind (spell_expression v e) (spell_expression v f) rest (symbol symbols.Comma))
    ∙ rw front.head (parts_again (parse_expression d v c) (parse_symbol symbols.Comma) (λ e. parse_expression d v (counts_with_expression c e)) (λ e _ f rest. expression_read c (operation e o f) start rest) e tt f
    tokens (symbol symbols.Comma ∷ behind) behind rest (one (symbol symbols.Comma ∷ behind)) refl (two (symbol symbols.Close ∷ rest)))
    ∙ within (c.expressions + size (operation e o f)) (operation e o f) start rest few

-- three parts with words between them
conditional_again : (v : Version) (e f g : Expression) (d : ℕ) (c : Counts) (rest : List Tok)
    → ((rest : List Tok) → parse_expression d v c (spell_expression v e ++ rest) ≡ got e rest)
    → ((rest : List Tok) → parse_expression d v (counts_with_expression c e) (spell_expression v f ++ rest) ≡ got f rest)
    → ((rest : List Tok) → parse_expression d v (counts_with_expression (counts_with_expression c e) f) (spell_expression v g ++ rest) ≡ got g rest)
    → c.expressions + size (conditional e f g) ≤ 100000
    → parse_expression (suc d) v c (spell_choice (spell_expression v e) (spell_expression v f) (spell_expression v g) ++ rest) ≡ got (conditional e f g) rest
unfolding parse_expression parse_conditional
conditional_again v e f g d c rest one two three few =
    let third : List Tok = keyword words.Else ∷ (spell_expression v g ++ rest) in
    let second : List Tok = keyword words.Then ∷ (spell_expression v f ++ third) in
    ap (λ (r : List Tok). parse_expression (suc d) v c (keyword words.If ∷ r)) (three_behind (spell_expression v e) (spell_expression v f) (spell_expression v g) rest (keyword words.Then) (keyword words.Else))
    ∙ rw (one second, two third, three rest)
    (within (c.expressions + size (conditional e f g)) (conditional e f g) (keyword words.If ∷ (spell_expression v e ++ second)) rest few)

-- a function whose body is read again
mapping_again : (v : Version) (p : Pattern) (e : Expression) (d : ℕ) (c : Counts) (rest : List Tok) → pattern_depth p ≤ d → ((rest : List Tok) → parse_expression d v c (spell_expression v e ++ rest) ≡ got e rest)
    → parse_mapping d (parse_expression d v) c (spell_function v (function p e) ++ rest) ≡ got (function p e) rest
mapping_again v p e d c rest deep part =
    rw (append_assoc (spell_pattern p) (symbol symbols.MapsTo ∷ spell_expression v e) rest, pattern_again p d (symbol symbols.MapsTo ∷ (spell_expression v e ++ rest)) deep, part rest) refl

-- a value and a function in brackets
one_and_function_again : (v : Version) (m : Mapping) (e : Expression) (p : Pattern) (f : Expression) (d : ℕ) (c : Counts) (rest : List Tok)
    → expression_head (mapping_word m) ≡ Some (expression_heads.OneAndFunction m) → maps_in_brackets m ≡ true → pattern_depth p ≤ d
    → ((rest : List Tok) → parse_expression d v c (spell_expression v e ++ rest) ≡ got e rest)
    → ((rest : List Tok) → parse_expression d v (counts_with_expression c e) (spell_expression v f ++ rest) ≡ got f rest)
    → c.expressions + size (mapped e m p f) ≤ 100000
    → parse_expression (suc d) v c (spell_mapped m (spell_expression v e) (spell_pattern p) (spell_expression v f) ++ rest) ≡ got (mapped e m p f) rest
unfolding parse_expression parse_one_and_function
one_and_function_again v m e p f d c rest head is deep one two few =
    let function_tokens : List Tok = spell_function v (function p f) in
    let behind : List Tok = symbol symbols.Comma ∷ (function_tokens ++ (symbol symbols.Close ∷ rest)) in
    rw (is, brackets_behind (spell_expression v e) function_tokens rest (symbol symbols.Comma), head, one behind, mapping_again v p f d (counts_with_expression c e) (symbol symbols.Close ∷ rest) deep two)
    (within (c.expressions + size (mapped e m p f)) (mapped e m p f) (keyword (mapping_word m) ∷ symbol symbols.Open ∷ (spell_expression v e ++ behind)) rest few)

-- a value and a function, by the form's word
mapped_again : (v : Version) (m : Mapping) (e : Expression) (p : Pattern) (f : Expression) (d : ℕ) (c : Counts) (rest : List Tok) → pattern_depth p ≤ d
    → ((rest : List Tok) → parse_expression d v c (spell_expression v e ++ rest) ≡ got e rest)
    → ((rest : List Tok) → parse_expression d v (counts_with_expression c e) (spell_expression v f ++ rest) ≡ got f rest)
    → c.expressions + size (mapped e m p f) ≤ 100000
    → parse_expression (suc d) v c (spell_mapped m (spell_expression v e) (spell_pattern p) (spell_expression v f) ++ rest) ≡ got (mapped e m p f) rest
unfolding parse_expression parse_let
mapped_again v mappings.Let e p f d c rest deep one two few =
    let second : List Tok = keyword words.In ∷ (spell_expression v f ++ rest) in
    let first : List Tok = symbol symbols.Equals ∷ (spell_expression v e ++ second) in
    ap (λ (r : List Tok). parse_expression (suc d) v c (keyword words.Let ∷ r)) (three_behind (spell_pattern p) (spell_expression v e) (spell_expression v f) rest (symbol symbols.Equals) (keyword words.In))
    ∙ rw (pattern_again p d first deep, one second, two rest) (within (c.expressions + size (mapped e mappings.Let p f)) (mapped e mappings.Let p f) (keyword words.Let ∷ (spell_pattern p ++ first)) rest few)
mapped_again v mappings.Filter e p f d c rest deep one two few = one_and_function_again v mappings.Filter e p f d c rest refl refl deep one two few
mapped_again v mappings.Map e p f d c rest deep one two few = one_and_function_again v mappings.Map e p f d c rest refl refl deep one two few

-- two values and a function in brackets
folded_again : (v : Version) (o : Folding) (e f : Expression) (p : Pattern) (g : Expression) (d : ℕ) (c : Counts) (rest : List Tok) → pattern_depth p ≤ d
    → ((rest : List Tok) → parse_expression d v c (spell_expression v e ++ rest) ≡ got e rest)
    → ((rest : List Tok) → parse_expression d v (counts_with_expression c e) (spell_expression v f ++ rest) ≡ got f rest)
    → ((rest : List Tok) → parse_expression d v (counts_with_expression (counts_with_expression c e) f) (spell_expression v g ++ rest) ≡ got g rest)
    → c.expressions + size (folded e o f p g) ≤ 100000
    → parse_expression (suc d) v c (spell_folded o (spell_expression v e) (spell_expression v f) (spell_pattern p) (spell_expression v g) ++ rest) ≡ got (folded e o f p g) rest
unfolding parse_expression parse_two_and_function
folded_again v o e f p g d c rest deep one two three few =
    let function_tokens : List Tok = spell_function v (function p g) in
    let closing : List Tok = symbol symbols.Close ∷ rest in
    let second : List Tok = symbol symbols.Comma ∷ (function_tokens ++ closing) in
    let first : List Tok = symbol symbols.Comma ∷ (spell_expression v f ++ second) in
    rw (
      brackets_behind (spell_expression v e) (spell_expression v f ++ (symbol symbols.Comma ∷ function_tokens)) rest (symbol symbols.Comma),
      append_assoc (spell_expression v f) (symbol symbols.Comma ∷ function_tokens) closing,
      folding_again o,
      one first,
      two second,
      mapping_again v p g d (counts_with_expression (counts_with_expression c e) f) closing deep three,
    ) (within (c.expressions + size (folded e o f p g)) (folded e o f p g) (keyword (folding_word o) ∷ symbol symbols.Open ∷ (spell_expression v e ++ first)) rest few)

-- a call of a stored function
called_again : (v : Version) (g : Name) (e : Expression) (d : ℕ) (c : Counts) (rest : List Tok)
    → ((rest : List Tok) → parse_expression d v c (spell_expression v e ++ rest) ≡ got e rest) → c.expressions + size (called g e) ≤ 100000
    → parse_expression (suc d) v c (spell_called g (spell_expression v e) ++ rest) ≡ got (called g e) rest
unfolding parse_expression parse_called
called_again v g e d c rest part few =
    let tokens : List Tok = symbol symbols.Open ∷ (spell_expression v e ++ (symbol symbols.Close ∷ rest)) in
    rw (append_assoc (spell_expression v e) (symbol symbols.Close ∷ []) rest, part (symbol symbols.Close ∷ rest))
    (within (c.expressions + size (called g e)) (called g e) (keyword words.Call ∷ name g ∷ tokens) rest few)

-- a literal
literal_again : (v : Version) (l : Literal) (d : ℕ) (c : Counts) (rest : List Tok) → c.expressions + 1 ≤ 100000 → WritesExpression v (suc d) (literal l)
    → parse_expression (suc d) v c (spell_literal v l ++ rest) ≡ got (literal l) rest
unfolding parse_expression parse_none
literal_again v unit_literal d c rest few known = within (c.expressions + 1) (literal unit_literal) (symbol symbols.Open ∷ symbol symbols.Close ∷ rest) rest few
literal_again v (truth_literal true) d c rest few known = within (c.expressions + 1) (literal (truth_literal true)) (keyword words.True ∷ rest) rest few
literal_again v (truth_literal false) d c rest few known = within (c.expressions + 1) (literal (truth_literal false)) (keyword words.False ∷ rest) rest few
literal_again v (int_literal z) d c rest few known = within (c.expressions + 1) (literal (int_literal z)) (number z ∷ rest) rest few
literal_again v (text_literal s) d c rest few known = within (c.expressions + 1) (literal (text_literal s)) (text s ∷ rest) rest few
literal_again v (none_literal t) d c rest few known =
    rw (inner_type_again v t d (spell_type v t ++ rest) 0 rest known.shallow (omega (arith, known.few)) known.known)
    (within (c.expressions + 1) (literal (none_literal t)) (keyword words.NoEvent ∷ (spell_type v t ++ rest)) rest few)

pub expression_again : (v : Version) (e : Expression) (d : ℕ) (c : Counts) (rest : List Tok) → Expressions.depth e ≤ d → c.expressions + size e ≤ 100000 → WritesExpression v d e
    → parse_expression d v c (spell_expression v e ++ rest) ≡ got e rest
unfolding parse_expression
expression_again v (variable n) zero c rest deep few known = absurd (omega arith)
expression_again v (literal l) zero c rest deep few known = absurd (omega arith)
expression_again v (paired e f) zero c rest deep few known = absurd (omega arith)
expression_again v (applied o e) zero c rest deep few known = absurd (omega arith)
expression_again v (operation e o f) zero c rest deep few known = absurd (omega arith)
expression_again v (conditional e f g) zero c rest deep few known = absurd (omega arith)
expression_again v (mapped e m p f) zero c rest deep few known = absurd (omega arith)
expression_again v (folded e o f p g) zero c rest deep few known = absurd (omega arith)
expression_again v (called g e) zero c rest deep few known = absurd (omega arith)
expression_again v (variable n) (suc d) c rest deep few known = within (c.expressions + 1) (variable n) (name n ∷ rest) rest few
expression_again v (literal l) (suc d) c rest deep few known = literal_again v l d c rest few known
expression_again v (paired e f) (suc d) c rest deep few known =
    linked_again v links.Pair e f d c rest tt (λ rest. expression_again v e d c rest (omega arith) (omega arith) known.0)
    (λ rest. expression_again v f d (counts_with_expression c e) rest (omega arith) (omega arith) known.1) few
expression_again v (applied o e) (suc d) c rest deep few known =
    applied_again v o (takes_brackets o) e d c rest refl (λ rest. expression_again v e d c rest (omega arith) (omega arith) known) few
expression_again v (operation e o f) (suc d) c rest deep few known =
    operation_again v (stands_between o) e o f d c rest refl (λ rest. expression_again v e d c rest (omega arith) (omega arith) known.0)
    (λ rest. expression_again v f d (counts_with_expression c e) rest (omega arith) (omega arith) known.1) few
expression_again v (conditional e f g) (suc d) c rest deep few known =
    conditional_again v e f g d c rest (λ rest. expression_again v e d c rest (omega arith) (omega arith) known.0)
    (λ rest. expression_again v f d (counts_with_expression c e) rest (omega arith) (omega arith) known.1)
    (λ rest. expression_again v g d (counts_with_expression (counts_with_expression c e) f) rest (omega arith) (omega arith) known.2) few
expression_again v (mapped e m p f) (suc d) c rest deep few known =
    mapped_again v m e p f d c rest (omega arith) (λ rest. expression_again v e d c rest (omega arith) (omega arith) known.0)
    (λ rest. expression_again v f d (counts_with_expression c e) rest (omega arith) (omega arith) known.1) few
expression_again v (folded e o f p g) (suc d) c rest deep few known =
    folded_again v o e f p g d c rest (omega arith) (λ rest. expression_again v e d c rest (omega arith) (omega arith) known.0)
    (λ rest. expression_again v f d (counts_with_expression c e) rest (omega arith) (omega arith) known.1)
    (λ rest. expression_again v g d (counts_with_expression (counts_with_expression c e) f) rest (omega arith) (omega arith) known.2) few
expression_again v (called g e) (suc d) c rest deep few known = called_again v g e d c rest (λ rest. expression_again v e d c rest (omega arith) (omega arith) known) few

pub function_again : (v : Version) (f : Function) (d : ℕ) (c : Counts) (rest : List Tok) → function_depth f ≤ d → c.expressions + function_size f ≤ 100000 → WritesFunction v d f
    → parse_function d v c (spell_function v f ++ rest) ≡ got f rest
unfolding parse_function
function_again v (function p e) d c rest deep few known = mapping_again v p e d c rest (omega arith) (λ rest. expression_again v e d c rest (omega arith) few known)

-- the body of a switch whose term is read again
body_again : (v : Version) (p : Pattern) (f : Term) (d : ℕ) (c : Counts) (rest : List Tok) → pattern_depth p ≤ d → ((rest : List Tok) → parse_term d v c (spell_term v f ++ rest) ≡ got f rest)
    → parse_body d (parse_term d v) c (spell_mapping (spell_pattern p) (spell_term v f) ++ rest) ≡ got (p, f) rest
body_again v p f d c rest deep part =
    rw (append_assoc (spell_pattern p) (symbol symbols.MapsTo ∷ spell_term v f) rest, pattern_again p d (symbol symbols.MapsTo ∷ (spell_term v f ++ rest)) deep, part rest) refl

-- an edit
edit_again : (v : Version) (p : Pattern) (i : Collection) (d : ℕ) (c : Counts) (rest : List Tok) → pattern_depth p ≤ d → ((rest : List Tok) → parse_collection d v c (spell_collection v i ++ rest) ≡ got i rest)
    → parse_edit d (parse_collection d v) c (spell_mapping (spell_pattern p) (spell_collection v i) ++ rest) ≡ got (p, i) rest
edit_again v p i d c rest deep part =
    rw (append_assoc (spell_pattern p) (symbol symbols.MapsTo ∷ spell_collection v i) rest, pattern_again p d (symbol symbols.MapsTo ∷ (spell_collection v i ++ rest)) deep, part rest) refl

-- an expression has a depth
stands_deep : (e : Expression) → 1 ≤ Expressions.depth e
stands_deep (variable x) = omega arith
stands_deep (literal l) = omega arith
stands_deep (paired e f) = omega arith
stands_deep (applied o e) = omega arith
stands_deep (operation e o f) = omega arith
stands_deep (conditional e f g) = omega arith
stands_deep (mapped e m p f) = omega arith
stands_deep (folded e o f p g) = omega arith
stands_deep (called g e) = omega arith

-- a value behind its word
value_again : (v : Version) (k : WithValue) (e : Expression) (d : ℕ) (c : Counts) (rest : List Tok) → stands_initially k ≡ false → parse_expression d v c (spell_expression v e ++ rest) ≡ got e rest → c.terms + terms_with_value k ≤ 100000
    → parse_term (suc d) v c (keyword (value_word k) ∷ (spell_expression v e ++ rest)) ≡ got (primitive (with_value k e)) rest
unfolding parse_shallow parse_value
value_again v k e d c rest behind value few =
    rw (head_again (heads.WithValue k) behind, value)
    (within (c.terms + terms_with_value k) (primitive (with_value k e)) (keyword (value_word k) ∷ (spell_expression v e ++ rest)) rest few)

pre_again : (v : Version) (d : ℕ) (c : Counts) (rest : List Tok) → 1 ≤ d → c.terms + 1 ≤ 100000 → parse_term d v c (keyword words.Pre ∷ rest) ≡ got (primitive (bare bares.Pre)) rest
unfolding parse_shallow
pre_again v zero c rest deep few = absurd (omega arith)
pre_again v (suc d) c rest deep few = within (c.terms + 1) (primitive (bare bares.Pre)) (keyword words.Pre ∷ rest) rest few

-- a value behind `-->`, in front of `pre`
initialized_again : (v : Version) (e : Expression) (d : ℕ) (c : Counts) (rest : List Tok) → ((rest : List Tok) → parse_expression d v c (spell_expression v e ++ rest) ≡ got e rest) → 1 ≤ d → c.terms + 2 ≤ 100000
    → parse_term (suc d) v c ((symbol symbols.Initially ∷ in_brackets (spell_expression v e) (symbol symbols.Comma) (keyword words.Pre ∷ [])) ++ rest) ≡ got (primitive (with_value values.InitializedPre e)) rest
unfolding parse_shallow parse_headed
initialized_again v e d c rest value deep few =
    let behind : List Tok = keyword words.Pre ∷ symbol symbols.Close ∷ rest in
    let start : List Tok = symbol symbols.Initially ∷ symbol symbols.Open ∷ (spell_expression v e ++ (symbol symbols.Comma ∷ behind)) in
    ap (λ (r : List Tok). parse_term (suc d) v c (symbol symbols.Initially ∷ symbol symbols.Open ∷ r)) (brackets_behind (spell_expression v e) (keyword words.Pre ∷ []) rest (symbol symbols.Comma))
    ∙ parts_again (parse_expression d v c) (parse_symbol symbols.Comma) (λ e. parse_term d v (counts_with_expression c e)) (λ e _ f rest. term_read c (head_makes headings.Initialized e f) start rest) e tt (primitive (bare bares.Pre))
    (spell_expression v e ++ (symbol symbols.Comma ∷ behind)) (symbol symbols.Comma ∷ behind) behind rest (value (symbol symbols.Comma ∷ behind)) refl
    (pre_again v d (counts_with_expression c e) (symbol symbols.Close ∷ rest) deep (omega (arith, few)))
    ∙ within (c.terms + 2) (primitive (with_value values.InitializedPre e)) start rest few

-- a form that is a name alone
named_again : (v : Version) (w : Naming) (k : Name) (d : ℕ) (c : Counts) (rest : List Tok) → tokens_head v (naming_token w ∷ name k ∷ rest) ≡ Some (heads.Named w) → c.terms + terms_in (named_term w k) ≤ 100000
    → parse_term (suc d) v c (naming_token w ∷ name k ∷ rest) ≡ got (named_term w k) rest
unfolding parse_shallow parse_named
named_again v w k d c rest head few = rw head (within (c.terms + terms_in (named_term w k)) (named_term w k) (naming_token w ∷ name k ∷ rest) rest few)

-- an argument that is an expression
value_argument_again : (v : Version) (e : Expression) (d : ℕ) (c : Counts) (rest : List Tok) → parse_expression d v c (spell_expression v e ++ rest) ≡ got e rest
    → parse_argument d v (parse_term d v) (parse_collection d v) c (spell_expression v e ++ rest) ≡ got (actual_value e) rest
unfolding parse_argument
value_argument_again v e d c rest part = rw (no_argument_word v e rest, part) refl

-- an argument that is a term behind `sf`
process_argument_again : (v : Version) (t : Term) (d : ℕ) (c : Counts) (rest : List Tok) → parse_term d v c (spell_term v t ++ rest) ≡ got t rest
    → parse_argument d v (parse_term d v) (parse_collection d v) c (keyword words.SignalFunction ∷ (spell_term v t ++ rest)) ≡ got (actual_process t) rest
unfolding parse_argument
process_argument_again v t d c rest part = rw part refl

-- an argument that is a collection behind `col`
collection_argument_again : (v : Version) (i : Collection) (d : ℕ) (c : Counts) (rest : List Tok) → parse_collection d v c (spell_collection v i ++ rest) ≡ got i rest
    → parse_argument d v (parse_term d v) (parse_collection d v) c (keyword words.Collection ∷ (spell_collection v i ++ rest)) ≡ got (actual_collection i) rest
unfolding parse_argument
collection_argument_again v i d c rest part = rw part refl

-- an argument in front of further ones
arguments_step : (v : Version) (a : Actual) (vs : Arguments) (d : ℕ) (c : Counts) (n : ℕ) (rest : List Tok)
    → parse_argument d v (parse_term d v) (parse_collection d v) c (spell_actual v a ++ (spell_further (spell_arguments v vs) ++ rest)) ≡ got a (spell_further (spell_arguments v vs) ++ rest)
    → parse_further no_arguments (parse_arguments n d v (parse_term d v) (parse_collection d v) (counts_with_actual c a)) (spell_further (spell_arguments v vs) ++ rest) ≡ got vs rest
    → parse_arguments (suc n) d v (parse_term d v) (parse_collection d v) c ((spell_actual v a ++ spell_further (spell_arguments v vs)) ++ rest) ≡ got (leading_actual a vs) rest
unfolding parse_arguments
arguments_step v a vs d c n rest one others = rw (append_assoc (spell_actual v a) (spell_further (spell_arguments v vs)) rest, one, others) refl

-- the tokens of a list are at least as many as its further parts
long_enough : (front : List Tok) (xs : List (List Tok)) (rest : List Tok) → length xs ≤ length ((front ++ spell_further xs) ++ rest)
long_enough front xs rest = omega (arith, further_long xs, length-append (front ++ spell_further xs) rest, length-append front (spell_further xs))

mutual
  unfolding parse_shallow parse_joined parse_never parse_value parse_timed parse_selected parse_arrow parse_accumulated parse_sided parse_headed parse_transformed parse_switching parse_continuing parse_call parse_gathered parse_releasing parse_editing parse_empty parse_used parse_added parse_dropped parse_kept parse_chosen

  pub term_again : (v : Version) (t : Term) (d : ℕ) (c : Counts) (rest : List Tok) → d ≤ 64 → term_depth t ≤ d → c.terms + terms_in t ≤ 100000 → c.expressions + expressions_in t ≤ 100000 → WritesTerm v d t
      → parse_term d v c (spell_term v t ++ rest) ≡ got t rest
  term_again v (primitive (bare b)) zero c rest small deep few_terms few_expressions known = absurd (omega arith)
  term_again v (primitive (probe k)) zero c rest small deep few_terms few_expressions known = absurd (omega arith)
  term_again v (primitive (never t)) zero c rest small deep few_terms few_expressions known = absurd (omega arith)
  term_again v (primitive (with_value k e)) zero c rest small deep few_terms few_expressions known = absurd (omega arith)
  term_again v (primitive (timed k q e)) zero c rest small deep few_terms few_expressions known = absurd (omega arith)
  term_again v (primitive (selected k n)) zero c rest small deep few_terms few_expressions known = absurd (omega arith)
  term_again v (primitive (arrow f)) zero c rest small deep few_terms few_expressions known = absurd (omega arith)
  term_again v (primitive (accumulated k e f)) zero c rest small deep few_terms few_expressions known = absurd (omega arith)
  term_again v (primitive (fused f)) d c rest small deep few_terms few_expressions known = absurd (omega (arith, small, deep))
  term_again v (staged x f g) d c rest small deep few_terms few_expressions known = absurd (omega (arith, small, deep))
  term_again v (gathered i) zero c rest small deep few_terms few_expressions known = absurd (omega arith)
  term_again v (releasing w i q k p u) zero c rest small deep few_terms few_expressions known = absurd (omega arith)
  term_again v (editing w i k p u) zero c rest small deep few_terms few_expressions known = absurd (omega arith)
  term_again v (joined j f g) zero c rest small deep few_terms few_expressions known = absurd (omega arith)
  term_again v (sided s f) zero c rest small deep few_terms few_expressions known = absurd (omega arith)
  term_again v (headed h e f) zero c rest small deep few_terms few_expressions known = absurd (omega arith)
  term_again v (transformed h f) zero c rest small deep few_terms few_expressions known = absurd (omega arith)
  term_again v (reference r) zero c rest small deep few_terms few_expressions known = absurd (omega arith)
  term_again v (switching w f p g) zero c rest small deep few_terms few_expressions known = absurd (omega arith)
  term_again v (continuing w f g k p u) zero c rest small deep few_terms few_expressions known = absurd (omega arith)
  term_again v (primitive (bare b)) (suc d) c rest small deep few_terms few_expressions known =
      rw (head_again (heads.Bare b) tt) (within (c.terms + 1) (primitive (bare b)) (keyword (bare_word b) ∷ rest) rest few_terms)
  term_again v (primitive (probe k)) (suc d) c rest small deep few_terms few_expressions known = named_again v namings.Probe k d c rest refl few_terms
  term_again v (primitive (never t)) (suc d) c rest small deep few_terms few_expressions known =
      rw (inner_type_again v t d (spell_type v t ++ rest) 0 rest known.shallow (omega (arith, known.few)) known.known)
      (within (c.terms + 1) (primitive (never t)) (keyword words.Never ∷ (spell_type v t ++ rest)) rest few_terms)
  term_again v (primitive (with_value values.Constant e)) (suc d) c rest small deep few_terms few_expressions known =
      value_again v values.Constant e d c rest refl (expression_again v e d c rest (omega arith) few_expressions known) few_terms
  term_again v (primitive (with_value values.Initially e)) (suc d) c rest small deep few_terms few_expressions known =
      value_again v values.Initially e d c rest refl (expression_again v e d c rest (omega arith) few_expressions known) few_terms
  term_again v (primitive (with_value values.InitialPre e)) (suc d) c rest small deep few_terms few_expressions known =
      value_again v values.InitialPre e d c rest refl (expression_again v e d c rest (omega arith) few_expressions known) few_terms
  term_again v (primitive (with_value values.Now e)) (suc d) c rest small deep few_terms few_expressions known =
      value_again v values.Now e d c rest refl (expression_again v e d c rest (omega arith) few_expressions known) few_terms
  term_again v (primitive (with_value values.InitialEdge e)) (suc d) c rest small deep few_terms few_expressions known =
      value_again v values.InitialEdge e d c rest refl (expression_again v e d c rest (omega arith) few_expressions known) few_terms
  term_again v (primitive (with_value values.EdgeTag e)) (suc d) c rest small deep few_terms few_expressions known =
      value_again v values.EdgeTag e d c rest refl (expression_again v e d c rest (omega arith) few_expressions known) few_terms
  term_again v (primitive (with_value values.Hold e)) (suc d) c rest small deep few_terms few_expressions known =
      value_again v values.Hold e d c rest refl (expression_again v e d c rest (omega arith) few_expressions known) few_terms
  term_again v (primitive (with_value values.DelayedHold e)) (suc d) c rest small deep few_terms few_expressions known =
      value_again v values.DelayedHold e d c rest refl (expression_again v e d c rest (omega arith) few_expressions known) few_terms
  term_again v (primitive (with_value values.InitializedPre e)) (suc d) c rest small deep few_terms few_expressions known =
      initialized_again v e d c rest (λ rest. expression_again v e d c rest (omega arith) few_expressions known) (omega (arith, stands_deep e, deep)) few_terms
  term_again v (primitive (timed k q e)) (suc d) c rest small deep few_terms few_expressions known =
      rw (head_again (heads.Timed k) tt, expression_again v e d c rest (omega arith) few_expressions known)
      (within (c.terms + 1) (primitive (timed k q e)) (keyword (timing_word k) ∷ number q ∷ (spell_expression v e ++ rest)) rest few_terms)
  term_again v (primitive (selected k n)) (suc d) c rest small deep few_terms few_expressions known =
      rw (head_again (heads.Selected k) tt) (within (c.terms + 1) (primitive (selected k n)) (keyword (selection_word k) ∷ number n ∷ rest) rest few_terms)
  term_again v (primitive (arrow f)) (suc d) c rest small deep few_terms few_expressions known =
      rw (function_again v f d c rest (omega arith) few_expressions known)
      (within (c.terms + 1) (primitive (arrow f)) (keyword words.Arr ∷ (spell_function v f ++ rest)) rest few_terms)
  term_again v (primitive (accumulated k e f)) (suc d) c rest small deep few_terms few_expressions known =
      let behind : List Tok = spell_function v f ++ (symbol symbols.Close ∷ rest) in
      let start : List Tok = keyword (accumulation_word k) ∷ symbol symbols.Open ∷ (spell_expression v e ++ (symbol symbols.Comma ∷ behind)) in
      ap (λ (r : List Tok). parse_term (suc d) v c (keyword (accumulation_word k) ∷ symbol symbols.Open ∷ r)) (brackets_behind (spell_expression v e) (spell_function v f) rest (symbol symbols.Comma))
      ∙ rw (head_again (heads.Accumulated k) tt) (parts_again (parse_expression d v c) (parse_symbol symbols.Comma) (λ e. parse_function d v (counts_with_expression c e)) (λ e _ f rest. term_read c (primitive (accumulated k e f)) start rest) e tt f
      (spell_expression v e ++ (symbol symbols.Comma ∷ behind)) (symbol symbols.Comma ∷ behind) behind rest
      (expression_again v e d c (symbol symbols.Comma ∷ behind) (omega arith) (omega arith) known.0) refl
      (function_again v f d (counts_with_expression c e) (symbol symbols.Close ∷ rest) (omega arith) (omega arith) known.1))
      ∙ within (c.terms + 1) (primitive (accumulated k e f)) start rest few_terms
  term_again v (joined j f g) (suc d) c rest small deep few_terms few_expressions known =
      let behind : List Tok = spell_term v g ++ (symbol symbols.Close ∷ rest) in
      let start : List Tok = symbol symbols.Open ∷ (spell_term v f ++ (symbol (join_symbol j) ∷ behind)) in
      ap (λ (r : List Tok). parse_term (suc d) v c (symbol symbols.Open ∷ r)) (brackets_behind (spell_term v f) (spell_term v g) rest (symbol (join_symbol j)))
      ∙ parts_again (parse_term d v c) parse_join (λ f. parse_term d v (counted_term c f)) (λ f j g rest. term_read c (joined j f g) start rest) f j g
      (spell_term v f ++ (symbol (join_symbol j) ∷ behind)) (symbol (join_symbol j) ∷ behind) behind rest
      (term_again v f d c (symbol (join_symbol j) ∷ behind) (omega arith) (omega arith) (omega arith) (omega arith) known.0) (rw (join_again j) refl)
      (term_again v g d (counted_term c f) (symbol symbols.Close ∷ rest) (omega arith) (omega arith) (omega arith) (omega arith) known.1)
      ∙ within (c.terms + terms_in (joined j f g)) (joined j f g) start rest few_terms
  term_again v (sided s f) (suc d) c rest small deep few_terms few_expressions known =
      rw (head_again (heads.Sided s) tt, term_again v f d c rest (omega arith) (omega arith) (omega arith) (omega arith) known)
      (within (c.terms + terms_in (sided s f)) (sided s f) (keyword (side_word s) ∷ (spell_term v f ++ rest)) rest few_terms)
  term_again v (headed h e f) (suc d) c rest small deep few_terms few_expressions known =
      let behind : List Tok = spell_term v f ++ (symbol symbols.Close ∷ rest) in
      let start : List Tok = heading_token h ∷ symbol symbols.Open ∷ (spell_expression v e ++ (symbol symbols.Comma ∷ behind)) in
      ap (λ (r : List Tok). parse_term (suc d) v c (heading_token h ∷ symbol symbols.Open ∷ r)) (brackets_behind (spell_expression v e) (spell_term v f) rest (symbol symbols.Comma))
      ∙ rw (heading_begins v h (symbol symbols.Open ∷ (spell_expression v e ++ (symbol symbols.Comma ∷ behind)))) (parts_again (parse_expression d v c) (parse_symbol symbols.Comma) (λ e. parse_term d v (counts_with_expression c e)) (λ e _ f rest. term_read c (head_makes h e f) start rest) e tt f
      (spell_expression v e ++ (symbol symbols.Comma ∷ behind)) (symbol symbols.Comma ∷ behind) behind rest
      (expression_again v e d c (symbol symbols.Comma ∷ behind) (omega arith) (omega arith) known.1) refl
      (term_again v f d (counts_with_expression c e) (symbol symbols.Close ∷ rest) (omega arith) (omega arith) (omega arith) (omega arith) known.2))
      ∙ ap (λ (t : Term). term_read c t start rest) known.0
      ∙ within (c.terms + terms_in (headed h e f)) (headed h e f) start rest few_terms
  term_again v (transformed h f) (suc d) c rest small deep few_terms few_expressions known =
      let behind : List Tok = spell_term v f ++ (symbol symbols.Close ∷ rest) in
      let start : List Tok = symbol symbols.MapsFirstInput ∷ symbol symbols.Open ∷ (spell_function v h ++ (symbol symbols.Comma ∷ behind)) in
      ap (λ (r : List Tok). parse_term (suc d) v c (symbol symbols.MapsFirstInput ∷ symbol symbols.Open ∷ r)) (brackets_behind (spell_function v h) (spell_term v f) rest (symbol symbols.Comma))
      ∙ parts_again (parse_function d v c) (parse_symbol symbols.Comma) (λ h. parse_term d v (counts_with_function c h)) (λ h _ f rest. term_read c (transformed h f) start rest) h tt f
      (spell_function v h ++ (symbol symbols.Comma ∷ behind)) (symbol symbols.Comma ∷ behind) behind rest
      (function_again v h d c (symbol symbols.Comma ∷ behind) (omega arith) (omega arith) known.0) refl
      (term_again v f d (counts_with_function c h) (symbol symbols.Close ∷ rest) (omega arith) (omega arith) (omega arith) (omega arith) known.1)
      ∙ within (c.terms + terms_in (transformed h f)) (transformed h f) start rest few_terms
  term_again v (switching w f p g) (suc d) c rest small deep few_terms few_expressions known =
      let body : List Tok = spell_mapping (spell_pattern p) (spell_term v g) in
      let behind : List Tok = body ++ (symbol symbols.Close ∷ rest) in
      let start : List Tok = keyword (switching_word w) ∷ symbol symbols.Open ∷ (spell_term v f ++ (symbol symbols.Comma ∷ behind)) in
      ap (λ (r : List Tok). parse_term (suc d) v c (keyword (switching_word w) ∷ symbol symbols.Open ∷ r)) (brackets_behind (spell_term v f) body rest (symbol symbols.Comma))
      ∙ rw (head_again (heads.Switching w) tt) (parts_again (parse_term d v c) (parse_symbol symbols.Comma) (λ f. parse_body d (parse_term d v) (counted_term c f)) (λ f _ b rest. term_read c (switching w f b.0 b.1) start rest) f tt (p, g)
      (spell_term v f ++ (symbol symbols.Comma ∷ behind)) (symbol symbols.Comma ∷ behind) behind rest
      (term_again v f d c (symbol symbols.Comma ∷ behind) (omega arith) (omega arith) (omega arith) (omega arith) known.0) refl
      (body_again v p g d (counted_term c f) (symbol symbols.Close ∷ rest) (omega arith) (λ rest. term_again v g d (counted_term c f) rest (omega arith) (omega arith) (omega arith) (omega arith) known.1)))
      ∙ within (c.terms + terms_in (switching w f p g)) (switching w f p g) start rest few_terms
  term_again v (reference (started w k)) (suc d) c rest small deep few_terms few_expressions known = named_again v (namings.Process w) k d c rest (start_again v w k rest known) few_terms
  term_again v (reference (call g vs)) (suc d) c rest small deep few_terms few_expressions known =
      rw (listed_arguments_again v vs d c rest (omega arith) (omega arith) (omega arith) few_expressions known)
      (within (c.terms + terms_in (reference (call g vs))) (reference (call g vs)) (name g ∷ symbol symbols.Open ∷ (spell_listed (spell_arguments v vs) ++ rest)) rest few_terms)
  term_again v (continuing w f g k p u) (suc d) c rest small deep few_terms few_expressions known =
      let mapping : List Tok = spell_mapping (spell_pattern p) (spell_term v u) in
      let closing : List Tok = symbol symbols.Close ∷ rest in
      let third : List Tok = symbol symbols.Comma ∷ (mapping ++ closing) in
      let second : List Tok = symbol symbols.Comma ∷ name k ∷ third in
      let first : List Tok = symbol symbols.Comma ∷ (spell_term v g ++ second) in
      rw (
        brackets_behind (spell_term v f) (spell_term v g ++ (symbol symbols.Comma ∷ name k ∷ symbol symbols.Comma ∷ mapping)) rest (symbol symbols.Comma),
        append_assoc (spell_term v g) (symbol symbols.Comma ∷ name k ∷ symbol symbols.Comma ∷ mapping) closing,
        head_again (heads.Continuation w) tt,
        term_again v f d c first (omega arith) (omega arith) (omega arith) (omega arith) known.0,
        term_again v g d (counted_term c f) second (omega arith) (omega arith) (omega arith) (omega arith) known.1,
        body_again v p u d (counted_term (counted_term c f) g) closing (omega arith) (λ rest. term_again v u d (counted_term (counted_term c f) g) rest (omega arith) (omega arith) (omega arith) (omega arith) known.2),
      ) (within (c.terms + terms_in (continuing w f g k p u)) (continuing w f g k p u) (keyword (continuing_word w) ∷ symbol symbols.Open ∷ (spell_term v f ++ first)) rest few_terms)
  term_again v (gathered i) (suc d) c rest small deep few_terms few_expressions known =
      rw (collection_again v i d c rest (omega arith) (omega arith) (omega arith) (omega arith) known)
      (within (c.terms + terms_in (gathered i)) (gathered i) (keyword words.ParB ∷ (spell_collection v i ++ rest)) rest few_terms)
  term_again v (releasing w i g k p u) (suc d) c rest small deep few_terms few_expressions known =
      let mapping : List Tok = spell_mapping (spell_pattern p) (spell_term v u) in
      let closing : List Tok = symbol symbols.Close ∷ rest in
      let third : List Tok = symbol symbols.Comma ∷ (mapping ++ closing) in
      let second : List Tok = symbol symbols.Comma ∷ name k ∷ third in
      let first : List Tok = symbol symbols.Comma ∷ (spell_term v g ++ second) in
      rw (
        brackets_behind (spell_collection v i) (spell_term v g ++ (symbol symbols.Comma ∷ name k ∷ symbol symbols.Comma ∷ mapping)) rest (symbol symbols.Comma),
        append_assoc (spell_term v g) (symbol symbols.Comma ∷ name k ∷ symbol symbols.Comma ∷ mapping) closing,
        head_again (heads.Releasing w) tt,
        collection_again v i d c first (omega arith) (omega arith) (omega arith) (omega arith) known.0,
        term_again v g d (counts_with_collection c i) second (omega arith) (omega arith) (omega arith) (omega arith) known.1,
        body_again v p u d (counted_term (counts_with_collection c i) g) closing (omega arith) (λ rest. term_again v u d (counted_term (counts_with_collection c i) g) rest (omega arith) (omega arith) (omega arith) (omega arith) known.2),
      ) (within (c.terms + terms_in (releasing w i g k p u)) (releasing w i g k p u) (keyword (releasing_word w) ∷ symbol symbols.Open ∷ (spell_collection v i ++ first)) rest few_terms)
  term_again v (editing w i k p u) (suc d) c rest small deep few_terms few_expressions known =
      let mapping : List Tok = spell_mapping (spell_pattern p) (spell_collection v u) in
      let closing : List Tok = symbol symbols.Close ∷ rest in
      let first : List Tok = symbol symbols.Comma ∷ name k ∷ symbol symbols.Comma ∷ (mapping ++ closing) in
      rw (
        brackets_behind (spell_collection v i) (name k ∷ symbol symbols.Comma ∷ mapping) rest (symbol symbols.Comma),
        head_again (heads.Editing w) tt,
        collection_again v i d c first (omega arith) (omega arith) (omega arith) (omega arith) known.0,
        edit_again v p u d (counts_with_collection c i) closing (omega arith) (λ rest. collection_again v u d (counts_with_collection c i) rest (omega arith) (omega arith) (omega arith) (omega arith) known.1),
      ) (within (c.terms + terms_in (editing w i k p u)) (editing w i k p u) (keyword (editing_word w) ∷ symbol symbols.Open ∷ (spell_collection v i ++ first)) rest few_terms)

  -- a collection
  collection_again : (v : Version) (i : Collection) (d : ℕ) (c : Counts) (rest : List Tok) → d ≤ 64 → collection_depth i ≤ d → c.terms + terms_collected i ≤ 100000 → c.expressions + expressions_collected i ≤ 100000 → WritesCollection v d i
      → parse_collection d v c (spell_collection v i ++ rest) ≡ got i rest
  collection_again v (without_members k t) zero c rest small deep few_terms few_expressions known = absurd (omega arith)
  collection_again v (used x) zero c rest small deep few_terms few_expressions known = absurd (omega arith)
  collection_again v (added i e t) zero c rest small deep few_terms few_expressions known = absurd (omega arith)
  collection_again v (dropped i e) zero c rest small deep few_terms few_expressions known = absurd (omega arith)
  collection_again v (kept i f) zero c rest small deep few_terms few_expressions known = absurd (omega arith)
  collection_again v (chosen e i j) zero c rest small deep few_terms few_expressions known = absurd (omega arith)
  collection_again v (without_members k t) (suc d) c rest small deep few_terms few_expressions known =
      rw (
        append_assoc (spell_keys v k) (spell_type v t) rest,
        keys_again v k (spell_type v t ++ rest) known.0,
        inner_type_again v t d (spell_type v t ++ rest) 0 rest known.1.shallow (omega (arith, known.1.few)) known.1.known,
      ) refl
  collection_again v (used x) (suc d) c rest small deep few_terms few_expressions known = refl
  collection_again v (added i e t) (suc d) c rest small deep few_terms few_expressions known =
      let closing : List Tok = symbol symbols.Close ∷ rest in
      let second : List Tok = symbol symbols.Comma ∷ (spell_term v t ++ closing) in
      let first : List Tok = symbol symbols.Comma ∷ (spell_expression v e ++ second) in
      rw (
        brackets_behind (spell_collection v i) (spell_expression v e ++ (symbol symbols.Comma ∷ spell_term v t)) rest (symbol symbols.Comma),
        append_assoc (spell_expression v e) (symbol symbols.Comma ∷ spell_term v t) closing,
        collection_again v i d c first (omega arith) (omega arith) (omega arith) (omega arith) known.0,
        expression_again v e d (counts_with_collection c i) second (omega arith) (omega arith) known.1,
        term_again v t d (counts_with_expression (counts_with_collection c i) e) closing (omega arith) (omega arith) (omega arith) (omega arith) known.2,
      ) refl
  collection_again v (dropped i e) (suc d) c rest small deep few_terms few_expressions known =
      let closing : List Tok = symbol symbols.Close ∷ rest in
      let first : List Tok = symbol symbols.Comma ∷ (spell_expression v e ++ closing) in
      rw (
        brackets_behind (spell_collection v i) (spell_expression v e) rest (symbol symbols.Comma),
        collection_again v i d c first (omega arith) (omega arith) (omega arith) (omega arith) known.0,
        expression_again v e d (counts_with_collection c i) closing (omega arith) (omega arith) known.1,
      ) refl
  collection_again v (kept i f) (suc d) c rest small deep few_terms few_expressions known =
      let closing : List Tok = symbol symbols.Close ∷ rest in
      let first : List Tok = symbol symbols.Comma ∷ (spell_function v f ++ closing) in
      rw (
        brackets_behind (spell_collection v i) (spell_function v f) rest (symbol symbols.Comma),
        collection_again v i d c first (omega arith) (omega arith) (omega arith) (omega arith) known.0,
        function_again v f d (counts_with_collection c i) closing (omega arith) (omega arith) known.1,
      ) refl
  collection_again v (chosen e i j) (suc d) c rest small deep few_terms few_expressions known =
      let third : List Tok = keyword words.Else ∷ (spell_collection v j ++ rest) in
      let second : List Tok = keyword words.Then ∷ (spell_collection v i ++ third) in
      ap (λ (r : List Tok). parse_collection (suc d) v c (keyword words.If ∷ r)) (three_behind (spell_expression v e) (spell_collection v i) (spell_collection v j) rest (keyword words.Then) (keyword words.Else))
      ∙ rw (
        expression_again v e d c second (omega arith) (omega arith) known.0,
        collection_again v i d (counts_with_expression c e) third (omega arith) (omega arith) (omega arith) (omega arith) known.1,
        collection_again v j d (counts_with_collection (counts_with_expression c e) i) rest (omega arith) (omega arith) (omega arith) (omega arith) known.2,
      ) refl

  -- the arguments of a call, behind its opening bracket
  listed_arguments_again : (v : Version) (vs : Arguments) (d : ℕ) (c : Counts) (rest : List Tok) → d ≤ 63 → arguments_depth vs ≤ d → c.terms + terms_in_arguments vs ≤ 100000 → c.expressions + expressions_in_arguments vs ≤ 100000 → WritesArguments v d vs
      → parse_listed no_arguments (λ tokens. parse_arguments (suc (length tokens)) d v (parse_term d v) (parse_collection d v) c tokens) (spell_listed (spell_arguments v vs) ++ rest) ≡ got vs rest
  listed_arguments_again v no_arguments d c rest small deep few_terms few_expressions known = refl
  listed_arguments_again v (collection_argument i vs) d c rest small deep few_terms few_expressions known =
      let further : List Tok = spell_further (spell_arguments v vs) in
      let front : List Tok = keyword words.Collection ∷ spell_collection v i in
      arguments_step v (actual_collection i) vs d c (length ((front ++ further) ++ rest)) rest (collection_argument_again v i d c (further ++ rest) (collection_again v i d c (further ++ rest) (omega (arith, small)) (omega arith) (omega arith) (omega arith) known.0))
      (further_arguments_again v vs d (length ((front ++ further) ++ rest)) (counts_with_collection c i) rest small (long_enough front (spell_arguments v vs) rest) (omega arith) (omega arith) (omega arith) known.1)
  listed_arguments_again v (closed_argument t vs) d c rest small deep few_terms few_expressions known = absurd (omega (arith, small, deep))
  listed_arguments_again v (value_argument e vs) d c rest small deep few_terms few_expressions known =
      let further : List Tok = spell_further (spell_arguments v vs) in
      let tokens : List Tok = (spell_expression v e ++ further) ++ rest in
      rw (append_assoc (spell_expression v e) further rest, no_close v e (further ++ rest)) refl
      ∙ arguments_step v (actual_value e) vs d c (length tokens) rest (value_argument_again v e d c (further ++ rest) (expression_again v e d c (further ++ rest) (omega arith) (omega arith) known.0))
      (further_arguments_again v vs d (length tokens) (counts_with_expression c e) rest small (long_enough (spell_expression v e) (spell_arguments v vs) rest) (omega arith) few_terms (omega arith) known.1)
  listed_arguments_again v (process_argument t vs) d c rest small deep few_terms few_expressions known =
      let further : List Tok = spell_further (spell_arguments v vs) in
      let front : List Tok = keyword words.SignalFunction ∷ spell_term v t in
      arguments_step v (actual_process t) vs d c (length ((front ++ further) ++ rest)) rest (process_argument_again v t d c (further ++ rest) (term_again v t d c (further ++ rest) (omega (arith, small)) (omega arith) (omega arith) (omega arith) known.0))
      (further_arguments_again v vs d (length ((front ++ further) ++ rest)) (counted_term c t) rest small (long_enough front (spell_arguments v vs) rest) (omega arith) (omega arith) (omega arith) known.1)

  -- further arguments
  further_arguments_again : (v : Version) (vs : Arguments) (d n : ℕ) (c : Counts) (rest : List Tok) → d ≤ 63 → length (spell_arguments v vs) ≤ n → arguments_depth vs ≤ d → c.terms + terms_in_arguments vs ≤ 100000 → c.expressions + expressions_in_arguments vs ≤ 100000 → WritesArguments v d vs
      → parse_further no_arguments (parse_arguments n d v (parse_term d v) (parse_collection d v) c) (spell_further (spell_arguments v vs) ++ rest) ≡ got vs rest
  further_arguments_again v no_arguments d n c rest small enough deep few_terms few_expressions known = refl
  further_arguments_again v (collection_argument i vs) d zero c rest small enough deep few_terms few_expressions known = absurd (omega arith)
  further_arguments_again v (collection_argument i vs) d (suc n) c rest small enough deep few_terms few_expressions known =
      let behind : List Tok = spell_further (spell_arguments v vs) ++ rest in
      arguments_step v (actual_collection i) vs d c n rest (collection_argument_again v i d c behind (collection_again v i d c behind (omega (arith, small)) (omega arith) (omega arith) (omega arith) known.0))
      (further_arguments_again v vs d n (counts_with_collection c i) rest small (omega arith) (omega arith) (omega arith) (omega arith) known.1)
  further_arguments_again v (closed_argument t vs) d n c rest small enough deep few_terms few_expressions known = absurd (omega (arith, small, deep))
  further_arguments_again v (value_argument e vs) d zero c rest small enough deep few_terms few_expressions known = absurd (omega arith)
  further_arguments_again v (process_argument t vs) d zero c rest small enough deep few_terms few_expressions known = absurd (omega arith)
  further_arguments_again v (value_argument e vs) d (suc n) c rest small enough deep few_terms few_expressions known =
      let behind : List Tok = spell_further (spell_arguments v vs) ++ rest in
      arguments_step v (actual_value e) vs d c n rest (value_argument_again v e d c behind (expression_again v e d c behind (omega arith) (omega arith) known.0))
      (further_arguments_again v vs d n (counts_with_expression c e) rest small (omega arith) (omega arith) few_terms (omega arith) known.1)
  further_arguments_again v (process_argument t vs) d (suc n) c rest small enough deep few_terms few_expressions known =
      let behind : List Tok = spell_further (spell_arguments v vs) ++ rest in
      arguments_step v (actual_process t) vs d c n rest (process_argument_again v t d c behind (term_again v t d c behind (omega (arith, small)) (omega arith) (omega arith) (omega arith) known.0))
      (further_arguments_again v vs d n (counted_term c t) rest small (omega arith) (omega arith) (omega arith) (omega arith) known.1)

-- the types of a collection's keys
key_kind_again : (v : Version) (k : KeyKind) (rest : List Tok) → WritesKeys v k → parse_key_kind v (spell_key_kind v k ++ rest) ≡ got k rest
key_kind_again versions.One int_keys rest known = refl
key_kind_again versions.One text_keys rest known = absurd known
key_kind_again versions.Two int_keys rest known = refl
key_kind_again versions.Two text_keys rest known = refl

-- a parameter that is a collection
collection_kind_again : (v : Version) {x : Name} (k : KeyKind) (t u : Kind) (rest : List Tok) → WritesKeys v k × IsWrittenType v 64 t × IsWrittenType v 64 u
    → parse_parameter v (spell_parameter v (x, Parameters.collection k t u) ++ rest) ≡ got (x, Parameters.collection k t u) rest
unfolding parse_parameter parse_name_kind parse_collection_kind
collection_kind_again v k t u rest known =
    let closing : List Tok = symbol symbols.CloseBracket ∷ rest in
    let behind : List Tok = symbol symbols.Leads ∷ (spell_type v u ++ closing) in
    rw (
      append_assoc (spell_key_kind v k) (spell_type v t ++ (symbol symbols.Leads ∷ (spell_type v u ++ (symbol symbols.CloseBracket ∷ [])))) rest,
      append_assoc (spell_type v t) (symbol symbols.Leads ∷ (spell_type v u ++ (symbol symbols.CloseBracket ∷ []))) rest,
      append_assoc (spell_type v u) (symbol symbols.CloseBracket ∷ []) rest,
      key_kind_again v k (spell_type v t ++ behind) known.0,
      inner_type_again v t 64 (spell_type v t ++ behind) 0 behind known.1.shallow (omega (arith, known.1.few)) known.1.known,
      inner_type_again v u 64 (spell_type v u ++ closing) 0 closing known.2.shallow (omega (arith, known.2.few)) known.2.known,
    ) refl

-- a parameter
parameter_again : (v : Version) (q : Name × NameKind) (rest : List Tok) → behind_leads rest ≡ None → WritesNameKind v q.1 → parse_parameter v (spell_parameter v q ++ rest) ≡ got q rest
unfolding parse_parameter parse_name_kind
parameter_again v (x, Parameters.value t) rest next known = rw (no_list v t rest, inner_type_again v t 64 (spell_type v t ++ rest) 0 rest known.shallow (omega (arith, known.few)) known.known, next) refl
parameter_again v (x, Parameters.collection k t u) rest next known = collection_kind_again v k t u rest known
parameter_again v (x, process t u) rest next known =
    let behind : List Tok = symbol symbols.Leads ∷ (spell_type v u ++ rest) in
    rw (
      append_assoc (spell_type v t) (symbol symbols.Leads ∷ spell_type v u) rest,
      no_list v t behind,
      inner_type_again v t 64 (spell_type v t ++ behind) 0 behind known.0.shallow (omega (arith, known.0.few)) known.0.known,
      inner_type_again v u 64 (spell_type v u ++ rest) 0 rest known.1.shallow (omega (arith, known.1.few)) known.1.known,
    ) refl

-- a parameter in front of further ones
parameters_step : (v : Version) (q : Name × NameKind) (qs : Bindings) (n : ℕ) (rest : List Tok) → WritesNameKind v q.1
    → parse_further [] (parse_parameters n v) (spell_further (map (spell_parameter v) qs) ++ rest) ≡ got qs rest
    → parse_parameters (suc n) v ((spell_parameter v q ++ spell_further (map (spell_parameter v) qs)) ++ rest) ≡ got (q ∷ qs) rest
unfolding parse_parameters
parameters_step v q qs n rest known others =
    let xs : List (List Tok) = map (spell_parameter v) qs in
    rw (append_assoc (spell_parameter v q) (spell_further xs) rest, parameter_again v q (spell_further xs ++ rest) (no_leads xs rest) known, others) refl

abbrev AreWritten : Version → Bindings → Type 0
AreWritten v qs = All (λ (q : Name × NameKind). WritesNameKind v q.1) qs

-- further parameters
further_parameters_again : (v : Version) (qs : Bindings) (n : ℕ) (rest : List Tok) → length qs ≤ n → AreWritten v qs
    → parse_further [] (parse_parameters n v) (spell_further (map (spell_parameter v) qs) ++ rest) ≡ got qs rest
further_parameters_again v [] n rest enough known = refl
further_parameters_again v (q ∷ qs) zero rest enough known = absurd (omega arith)
further_parameters_again v (q ∷ qs) (suc n) rest enough known =
    parameters_step v q qs n rest (All-head (λ (q : Name × NameKind). WritesNameKind v q.1) q qs known)
    (further_parameters_again v qs n rest (omega arith) (All-tail (λ (q : Name × NameKind). WritesNameKind v q.1) q qs known))

-- the parameters of a template, behind the opening bracket
listed_parameters_again : (v : Version) (qs : Bindings) (rest : List Tok) → AreWritten v qs
    → parse_listed [] (λ tokens. parse_parameters (suc (length tokens)) v tokens) (spell_listed (map (spell_parameter v) qs) ++ rest) ≡ got qs rest
listed_parameters_again v [] rest known = refl
listed_parameters_again v (q ∷ qs) rest known =
    let xs : List (List Tok) = map (spell_parameter v) qs in
    let tokens : List Tok = (spell_parameter v q ++ spell_further xs) ++ rest in
    let counted : length xs ≡ length qs = simp length-map in
    parameters_step v q qs (length tokens) rest (All-head (λ (q : Name × NameKind). WritesNameKind v q.1) q qs known)
    (further_parameters_again v qs (length tokens) rest (omega (arith, long_enough (spell_parameter v q) xs rest)) (All-tail (λ (q : Name × NameKind). WritesNameKind v q.1) q qs known))

heading_again : (v : Version) (t : Template) (rest : List Tok) → HasWrittenTypes v t → parse_heading v (spell_heading v t ++ rest) ≡ got (t.name, t.parameters) rest
unfolding parse_heading
heading_again v t rest typed = rw (listed_parameters_again v t.parameters rest typed.parameters) refl

pub signature_again : (v : Version) (t : Template) (rest : List Tok) → HasWrittenTypes v t → parse_signature v (spell_signature v t ++ rest) ≡ got (t.input, t.output) rest
unfolding parse_signature
signature_again v t rest typed =
    let behind : List Tok = symbol symbols.Leads ∷ (spell_type v t.output ++ (symbol symbols.Equals ∷ rest)) in
    rw (
      append_assoc (spell_type v t.input) (symbol symbols.Leads ∷ (spell_type v t.output ++ (symbol symbols.Equals ∷ []))) rest,
      append_assoc (spell_type v t.output) (symbol symbols.Equals ∷ []) rest,
      inner_type_again v t.input 64 (spell_type v t.input ++ behind) 0 behind typed.input.shallow (omega (arith, typed.input.few)) typed.input.known,
      inner_type_again v t.output 64 (spell_type v t.output ++ (symbol symbols.Equals ∷ rest)) 0 (symbol symbols.Equals ∷ rest) typed.output.shallow (omega (arith, typed.output.few)) typed.output.known,
    ) refl

pub template_again : (v : Version) (t : Template) (c : Counts) (rest : List Tok) → HasWrittenTypes v t → term_depth t.body ≤ 64 → c.terms + terms_in t.body ≤ 100000 → c.expressions + expressions_in t.body ≤ 100000
    → parse_template v c (spell_template v t ++ rest) ≡ got t rest
unfolding parse_template
template_again v t c rest typed deep few_terms few_expressions =
    let closing : List Tok = spell_term v t.body ++ (symbol symbols.Semicolon ∷ []) in
    rw (
      append_assoc (spell_heading v t) (spell_signature v t ++ closing) rest,
      heading_again v t ((spell_signature v t ++ closing) ++ rest) typed,
      append_assoc (spell_signature v t) closing rest,
      signature_again v t (closing ++ rest) typed,
      append_assoc (spell_term v t.body) (symbol symbols.Semicolon ∷ []) rest,
      term_again v t.body 64 c (symbol symbols.Semicolon ∷ rest) (omega arith) deep few_terms few_expressions typed.body,
    ) refl
