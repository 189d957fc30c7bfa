-- Each function that reads tokens reads alike up to a point where the tokens are the same up to that point.
use Rattle.std.proofs.Common.{◌≡◌, ℕ, zero, suc, ◌+◌, ◌<◌, ◌≤◌, Bool, true, false, ℤ, pos, List, [], ◌∷◌, Option, Some, None, length, if◌then◌else◌, refl, ap, arith}
use Rattle.std.specs.Ordering.{int_eq}
use denote.Enum.Bare.{sameb}
use Rattle.sf_value.specs.Values.{Name, int_keys, text_keys, Kind, pair_kind, event_kind, table_kind, nodes}
use Rattle.sf_operator.specs.declared.operator.Unary.{Unary}
use Rattle.sf_operator.specs.declared.operator.Operator.{Operator}
use Rattle.sf_operator.specs.declared.operator.Mapping.{Mapping}
use Rattle.sf_operator.specs.declared.operator.Mapping.TheVariants as mappings
use Rattle.sf_operator.specs.declared.operator.Folding.{Folding}
use Rattle.sf_expr.specs.Expressions.{Pattern, unnamed, named, both, unit_literal, truth_literal, int_literal, text_literal, none_literal, Expression, variable, literal, applied, operation, conditional, mapped, called, size, function}
use Rattle.sf_term.specs.declared.form.WithValue.{WithValue}
use Rattle.sf_term.specs.declared.form.Timing.{Timing}
use Rattle.sf_term.specs.declared.form.Selection.{Selection}
use Rattle.sf_term.specs.declared.form.Accumulation.{Accumulation}
use Rattle.sf_term.specs.declared.form.Join.{Join}
use Rattle.sf_term.specs.declared.form.Side.{Side}
use Rattle.sf_term.specs.declared.form.Heading.{Heading}
use Rattle.sf_term.specs.declared.form.Switching.{Switching}
use Rattle.sf_term.specs.declared.form.Observation.{Observation}
use Rattle.sf_term.specs.declared.form.Naming.{Naming}
use Rattle.sf_term.specs.declared.form.Naming.TheVariants as namings
use Rattle.sf_term.specs.declared.form.Start.TheVariants as starts
use Rattle.sf_term.specs.Parameters.{value, collection}
use Rattle.sf_term.specs.Parameters
use Rattle.sf_term.specs.Trees.{Term, primitive, reference, joined, sided, transformed, switching, continuing, gathered, releasing, editing, Collection, without_members, used, added, dropped, kept, chosen, call, named_term, no_arguments, bare, never, with_value, timed, selected, arrow, accumulated, terms_in}
use Rattle.sf_lex.specs.declared.word.Keyword.{Keyword}
use Rattle.sf_lex.specs.declared.word.Keyword.TheVariants as words
use Rattle.sf_lex.specs.declared.symbol.Symbol.{Symbol}
use Rattle.sf_lex.specs.declared.symbol.Symbol.TheVariants as symbols
use Rattle.sf_lex.specs.contracts.Symbol as symbol_type
use Rattle.sf_lex.specs.contracts.Keyword as keyword_type
use Rattle.sf_lex.specs.Tokens.{Tok, keyword, name, number, text, symbol}
use Rattle.sf_refusal.specs.declared.rule.Rule.TheVariants.{Unexpected, TooDeep, Version as NoVersion}
use Rattle.sf_grammar.specs.declared.ty.Version.{Version}
use Rattle.sf_grammar.specs.declared.ty.Version.TheVariants as versions
use Rattle.sf_grammar.specs.declared.ty.TypeHead.{TypeHead}
use Rattle.sf_grammar.specs.declared.ty.TypeHead.TheVariants as type_heads
use Rattle.sf_grammar.specs.declared.head.Head.{Head}
use Rattle.sf_grammar.specs.declared.head.Head.TheVariants as heads
use Rattle.sf_grammar.specs.declared.head.CollectionHead.{CollectionHead}
use Rattle.sf_grammar.specs.declared.head.CollectionHead.TheVariants as collection_heads
use Rattle.sf_grammar.specs.declared.head.ExpressionHead.{ExpressionHead}
use Rattle.sf_grammar.specs.declared.head.ExpressionHead.TheVariants as expression_heads
use Rattle.sf_grammar.specs.declared.head.Link.{Link}
use Rattle.sf_grammar.specs.Spelling.{head_makes}
use Rattle.sf_grammar.specs.Reading.{Read, got, stop, ◌and_then◌, parse_symbol, parse_keyword, parse_name, parse_version, too_deep, parse_parts, parse_pair_type, type_head, word_kind, parse_keys, parse_outer_type, parse_headed_type, type_from, parse_type_form, begins_type, parse_inner_type, parse_type, parse_opening, behind_close, behind_leads, parse_separator, further_from, parse_further, listed_read, parse_listed, parameter_kind_from, parse_key_kind, parse_collection_kind, behind_list, parse_kind_from, parse_name_kind, parse_parameter, parse_parameters, parse_heading, parse_signature, parse_pattern_pair, parse_pattern_form, begins_pattern, parse_pattern, Counts, counts_with_expression, counts_with_function, counted_term, counts_with_collection, expression_read, link_of, link_read, parse_link, linked, parse_linked, bracketed_from, parse_none, expression_head, parse_prefixed, parse_one_in_brackets, parse_two_in_brackets, parse_conditional, parse_mapping, parse_let, mapped_by, folded_by, parse_one_and_function, parse_two_and_function, parse_called, parse_worded_expression, parse_expression_form, begins_expression, parse_expression, parse_function, term_read, head_of, begins_fresh, tokens_head, join_of, parse_value, parse_number, parse_never, parse_timed, parse_selected, parse_arrow, parse_accumulated, parse_sided, parse_headed, parse_transformed, parse_body, parse_switching, parse_named, collection_head, parse_empty, parse_used, parse_added, parse_dropped, parse_kept, parse_chosen, parse_behind_collection_head, parse_collection_form, begins_collection, parse_gathered, parse_releasing, parse_edit, parse_editing, actual_value, actual_process, actual_collection, leading_actual, counts_with_actual, no_word, argument_word, argument_from, parse_argument, parse_arguments, parse_call, parse_continuing, join_read, parse_join, parse_joined, parse_behind_head, parse_form, begins_term, parse_shallow, parse_term, parse_collection, template_of, parse_template}
use Rattle.sf_grammar.proofs.Parts.{separator_takes}
use Rattle.sf_place.proofs.Onward.{Onward, edge, next, Common, front, Past, stop_past, Alike, beyond, Local, bind, got_local, stop_local, Behind, behind, anew, behind_stop, AtToken, by_token, takes, stops, counted_local, met_behind, from_start, Peek, there, absent, peek_local, got_short, then_same}

-- ## One token

symbol_if : (wanted s : Symbol) (test : Bool) → sameb symbol_type.the_type s wanted ≡ test → AtToken (parse_symbol wanted) (parse_symbol wanted) (symbol s)
symbol_if wanted s true is = takes tt (λ u. ap (λ b. if b then got tt u else stop Unexpected (symbol s ∷ u)) is)
symbol_if wanted s false is = stops Unexpected (λ u. ap (λ b. if b then got tt u else stop Unexpected (symbol s ∷ u)) is)

symbol_at : (wanted : Symbol) (t : Tok) → AtToken (parse_symbol wanted) (parse_symbol wanted) t
symbol_at wanted (symbol s) = symbol_if wanted s (sameb symbol_type.the_type s wanted) refl
symbol_at wanted (keyword k) = stops Unexpected (λ u. refl)
symbol_at wanted (name n) = stops Unexpected (λ u. refl)
symbol_at wanted (number z) = stops Unexpected (λ u. refl)
symbol_at wanted (text s) = stops Unexpected (λ u. refl)

symbol_local : (wanted : Symbol) → Local (parse_symbol wanted) (parse_symbol wanted)
symbol_local wanted = by_token (parse_symbol wanted) (parse_symbol wanted) Unexpected refl (symbol_at wanted)

keyword_if : (wanted k : Keyword) (test : Bool) → sameb keyword_type.the_type k wanted ≡ test → AtToken (parse_keyword wanted) (parse_keyword wanted) (keyword k)
keyword_if wanted k true is = takes tt (λ u. ap (λ b. if b then got tt u else stop Unexpected (keyword k ∷ u)) is)
keyword_if wanted k false is = stops Unexpected (λ u. ap (λ b. if b then got tt u else stop Unexpected (keyword k ∷ u)) is)

keyword_at : (wanted : Keyword) (t : Tok) → AtToken (parse_keyword wanted) (parse_keyword wanted) t
keyword_at wanted (keyword k) = keyword_if wanted k (sameb keyword_type.the_type k wanted) refl
keyword_at wanted (symbol s) = stops Unexpected (λ u. refl)
keyword_at wanted (name n) = stops Unexpected (λ u. refl)
keyword_at wanted (number z) = stops Unexpected (λ u. refl)
keyword_at wanted (text s) = stops Unexpected (λ u. refl)

keyword_local : (wanted : Keyword) → Local (parse_keyword wanted) (parse_keyword wanted)
keyword_local wanted = by_token (parse_keyword wanted) (parse_keyword wanted) Unexpected refl (keyword_at wanted)

name_at : (t : Tok) → AtToken parse_name parse_name t
name_at (name n) = takes n (λ u. refl)
name_at _ = stops Unexpected (λ u. refl)

name_local : Local parse_name parse_name
name_local = by_token parse_name parse_name Unexpected refl name_at

number_at : (t : Tok) → AtToken parse_number parse_number t
number_at (number z) = takes z (λ u. refl)
number_at _ = stops Unexpected (λ u. refl)

number_local : Local parse_number parse_number
number_local = by_token parse_number parse_number Unexpected refl number_at

version_if : (z : ℤ) (one two : Bool) → int_eq z (pos 1) ≡ one → int_eq z (pos 2) ≡ two → AtToken parse_version parse_version (number z)
version_if z true two is_one is_two = takes versions.One (λ u. rw is_one refl)
version_if z false true is_one is_two = takes versions.Two (λ u. rw (is_one, is_two) refl)
version_if z false false is_one is_two = stops NoVersion (λ u. rw (is_one, is_two) refl)

version_at : (t : Tok) → AtToken parse_version parse_version t
version_at (number z) = version_if z (int_eq z (pos 1)) (int_eq z (pos 2)) refl refl
version_at _ = stops Unexpected (λ u. refl)

version_local : Local parse_version parse_version
version_local = by_token parse_version parse_version Unexpected refl version_at

separator_at : (t : Tok) → AtToken parse_separator parse_separator t
separator_at (symbol symbols.Comma) = takes true (λ u. refl)
separator_at (symbol symbols.Close) = takes false (λ u. refl)
separator_at _ = stops Unexpected (λ u. refl)

separator_local : Local parse_separator parse_separator
separator_local = by_token parse_separator parse_separator Unexpected refl separator_at

link_if : (t : Tok) (o : Option Link) → link_of t ≡ o → AtToken parse_link parse_link t
link_if t (Some l) is = takes l (λ u. ap (λ o. link_read o (t ∷ u) u) is)
link_if t None is = stops Unexpected (λ u. ap (λ o. link_read o (t ∷ u) u) is)

link_local : Local parse_link parse_link
link_local = by_token parse_link parse_link Unexpected refl (λ t. link_if t (link_of t) refl)

join_if : (s : Symbol) (o : Option Join) → join_of s ≡ o → AtToken parse_join parse_join (symbol s)
join_if s (Some j) is = takes j (λ u. ap (λ o. join_read o s u) is)
join_if s None is = stops Unexpected (λ u. ap (λ o. join_read o s u) is)

join_at : (t : Tok) → AtToken parse_join parse_join t
join_at (symbol s) = join_if s (join_of s) refl
join_at (keyword k) = stops Unexpected (λ u. refl)
join_at (name n) = stops Unexpected (λ u. refl)
join_at (number z) = stops Unexpected (λ u. refl)
join_at (text s) = stops Unexpected (λ u. refl)

join_local : Local parse_join parse_join
join_local = by_token parse_join parse_join Unexpected refl join_at

deep_if : {A : Type 0} (begins : Tok → Bool) (t : Tok) (test : Bool) → begins t ≡ test → AtToken {A = A} (too_deep begins) (too_deep begins) t
deep_if begins t true is = stops TooDeep (λ u. ap (λ b. if b then stop TooDeep (t ∷ u) else stop Unexpected (t ∷ u)) is)
deep_if begins t false is = stops Unexpected (λ u. ap (λ b. if b then stop TooDeep (t ∷ u) else stop Unexpected (t ∷ u)) is)

deep_local : {A : Type 0} (begins : Tok → Bool) → Local {A = A} (too_deep begins) (too_deep begins)
deep_local begins = by_token (too_deep begins) (too_deep begins) Unexpected refl (λ t. deep_if begins t (begins t) refl)

-- two parts in brackets
parts : {A M B C : Type 0} {one one' : List Tok → Read A} {between between' : List Tok → Read M} {two two' : A → List Tok → Read B} {whole whole' : A → M → B → List Tok → Read C}
    → Local one one' → Local between between' → ((a : A) → Local (two a) (two' a)) → ((a : A) (m : M) (b : B) → Local (whole a m b) (whole' a m b)) → Local (parse_parts one between two whole) (parse_parts one' between' two' whole')
parts l m n k = bind l (λ a. bind m (λ i. bind (n a) (λ b. bind (symbol_local symbols.Close) (λ u. k a i b))))

-- ## Types

keys_at : (t : Tok) → AtToken (parse_keys versions.Two) (parse_keys versions.Two) t
keys_at (keyword words.Int) = takes int_keys (λ u. refl)
keys_at (keyword words.Text) = takes text_keys (λ u. refl)
keys_at _ = stops Unexpected (λ u. refl)

keys_local : (v : Version) → Local (parse_keys v) (parse_keys v)
keys_local versions.One = got_local int_keys
keys_local versions.Two = by_token (parse_keys versions.Two) (parse_keys versions.Two) Unexpected refl keys_at

abbrev TypesLocal : (one two : ℕ → List Tok → Read Kind) → Type 0
TypesLocal one two = (met : ℕ) → Local (one met) (two met)

pair_type_local : {one two : ℕ → List Tok → Read Kind} (met : ℕ) → TypesLocal one two → Local (parse_pair_type one met) (parse_pair_type two met)
unfolding parse_pair_type
pair_type_local met l = parts (l (met + 1)) (symbol_local symbols.Comma) (λ t. l (met + 1 + nodes t)) (λ t _ u. got_local (pair_kind t u))

outer_type_local : {one two : ℕ → List Tok → Read Kind} (whole : Kind → Kind) (met : ℕ) → TypesLocal one two → Local (parse_outer_type one whole met) (parse_outer_type two whole met)
unfolding parse_outer_type
outer_type_local whole met l = bind (l (met + 1)) (λ t. got_local (whole t))

headed_type_local : {one two : ℕ → List Tok → Read Kind} (v : Version) (h : TypeHead) (met : ℕ) → TypesLocal one two → Local (parse_headed_type one v h met) (parse_headed_type two v h met)
headed_type_local v (type_heads.Word w) met l = got_local (word_kind w)
headed_type_local v type_heads.Event met l = outer_type_local event_kind met l
headed_type_local v type_heads.Table met l = bind (keys_local v) (λ k. outer_type_local (table_kind k) met l)
headed_type_local v type_heads.Pair met l = pair_type_local met l

type_from_behind : {one two : ℕ → List Tok → Read Kind} (v : Version) (start start' : List Tok) (met : ℕ) (h : Option TypeHead) → TypesLocal one two → Behind (type_from one v start met h) (type_from two v start' met h)
type_from_behind v start start' met (Some h) l = met_behind met start start' (behind (λ whole whole'. headed_type_local v h met l))
type_from_behind v start start' met None l = behind_stop Unexpected

type_form_local : (one two : ℕ → List Tok → Read Kind) (v : Version) (start start' : List Tok) (met : ℕ) → TypesLocal one two → Local (parse_type_form one v start met) (parse_type_form two v start' met)
type_form_local one two v start start' met l = by_token (parse_type_form one v start met) (parse_type_form two v start' met) Unexpected refl (λ t. record {
  one = type_from one v start met (type_head t);
  two = type_from two v start' met (type_head t);
  local = type_from_behind v start start' met (type_head t) l;
  first = λ u. refl;
  second = λ u. refl;
})

inner_type_local : (d : ℕ) (v : Version) (start start' : List Tok) → TypesLocal (parse_inner_type d v start) (parse_inner_type d v start')
unfolding parse_inner_type
inner_type_local zero v start start' met = deep_local begins_type
inner_type_local (suc d) v start start' met = type_form_local (parse_inner_type d v start) (parse_inner_type d v start') v start start' met (inner_type_local d v start start')

whole_type_local : (d : ℕ) (v : Version) → Local (λ u. parse_inner_type d v u 0 u) (λ u. parse_inner_type d v u 0 u)
whole_type_local d v = from_start (λ start start'. inner_type_local d v start start' 0)

type_local : (v : Version) → Local (parse_type v) (parse_type v)
type_local v = whole_type_local 64 v

pub opening_local : Local parse_opening parse_opening
unfolding parse_opening
opening_local = bind (keyword_local words.Network) (λ _. bind version_local (λ v. bind (symbol_local symbols.Semicolon) (λ _. got_local v)))

-- ## Lists

close_peek : (t : Tok) → Peek behind_close t
close_peek (symbol symbols.Close) = there (λ u. refl)
close_peek _ = absent (λ u. refl)

leads_peek : (t : Tok) → Peek behind_leads t
leads_peek (symbol symbols.Leads) = there (λ u. refl)
leads_peek _ = absent (λ u. refl)

list_peek : (t : Tok) → Peek behind_list t
list_peek (symbol symbols.OpenBracket) = there (λ u. refl)
list_peek _ = absent (λ u. refl)

further_from_local : {A : Type 0} (none : A) {one two : List Tok → Read A} (more : Bool) → Local one two → Local (further_from none one more) (further_from none two more)
further_from_local none true l = l
further_from_local none false l = got_local none

further_local : {A : Type 0} (none : A) {one two : List Tok → Read A} → Local one two → Local (parse_further none one) (parse_further none two)
further_local none l = bind separator_local (λ more. further_from_local none more l)

listed_local : {A : Type 0} (none : A) {one two : List Tok → Read A} → Local one two → Local (parse_listed none one) (parse_listed none two)
listed_local none {one} {two} l = peek_local behind_close {f = listed_read none one} {g = listed_read none two} refl close_peek (record { some = λ r u. refl; none = λ u. refl }) (record { some = λ r u. refl; none = λ u. refl }) (got_local none) l

-- ## Headers

parameter_kind_local : (v : Version) (t : Kind) → Local (λ u. parameter_kind_from v t (behind_leads u) u) (λ u. parameter_kind_from v t (behind_leads u) u)
parameter_kind_local v t =
    peek_local behind_leads {f = parameter_kind_from v t} {g = parameter_kind_from v t} refl leads_peek (record { some = λ r u. refl; none = λ u. refl }) (record { some = λ r u. refl; none = λ u. refl })
    (bind (type_local v) (λ u. got_local (Parameters.process t u))) (got_local (value t))

key_kind_local : (v : Version) → Local (parse_key_kind v) (parse_key_kind v)
key_kind_local versions.One = got_local int_keys
key_kind_local versions.Two = bind (keys_local versions.Two) (λ k. bind (symbol_local symbols.Colon) (λ _. got_local k))

collection_kind_local : (v : Version) → Local (parse_collection_kind v) (parse_collection_kind v)
unfolding parse_collection_kind
collection_kind_local v =
    bind (key_kind_local v) (λ k. bind (type_local v) (λ t. bind (symbol_local symbols.Leads) (λ _. bind (type_local v) (λ u. bind (symbol_local symbols.CloseBracket) (λ _. got_local (collection k t u))))))

name_kind_local : (v : Version) → Local (parse_name_kind v) (parse_name_kind v)
unfolding parse_name_kind
name_kind_local v =
    peek_local behind_list {f = parse_kind_from v} {g = parse_kind_from v} refl list_peek (record { some = λ r u. refl; none = λ u. refl }) (record { some = λ r u. refl; none = λ u. refl })
    (collection_kind_local v) (bind (type_local v) (λ t. parameter_kind_local v t))

parameter_local : (v : Version) → Local (parse_parameter v) (parse_parameter v)
unfolding parse_parameter
parameter_local v = bind name_local (λ x. bind (symbol_local symbols.Colon) (λ _. bind (name_kind_local v) (λ k. got_local (x, k))))

parameters_local : (n : ℕ) (v : Version) → Local (parse_parameters n v) (parse_parameters n v)
unfolding parse_parameters
parameters_local zero v = stop_local Unexpected
parameters_local (suc n) v = bind (parameter_local v) (λ q. bind (further_local [] (parameters_local n v)) (λ qs. got_local (q ∷ qs)))

-- what stands behind a part of a list is shorter by a token
separator_short : (tokens : List Tok) (more : Bool) (rest : List Tok) → parse_separator tokens ≡ got more rest → suc (length rest) ≤ length tokens
separator_short tokens more rest is = omega (arith, ap length (separator_takes tokens more rest is))

further_same : {A : Type 0} (none : A) (one two : List Tok → Read A) (n : ℕ) (tokens : List Tok) → length tokens ≤ n → ((rest : List Tok) → length rest < n → one rest ≡ two rest) → parse_further none one tokens ≡ parse_further none two tokens
further_same none one two n tokens short same =
    then_same (parse_separator tokens) (λ more rest. further_from none one more rest) (λ more rest. further_from none two more rest) (λ more rest is. from more rest (omega (arith, separator_short tokens more rest is)))
  where
    from : (more : Bool) (rest : List Tok) → length rest < n → further_from none one more rest ≡ further_from none two more rest
    from true rest shorter = same rest shorter
    from false rest shorter = refl

-- as many parameters as there are tokens are enough
parameters_same : (n m : ℕ) (v : Version) (tokens : List Tok) → length tokens < n → length tokens < m → parse_parameters n v tokens ≡ parse_parameters m v tokens
unfolding parse_parameters
parameters_same zero m v tokens a b = absurd (omega arith)
parameters_same (suc n) zero v tokens a b = absurd (omega arith)
parameters_same (suc n) (suc m) v tokens a b =
    then_same (parse_parameter v tokens) (λ q rest. parse_further [] (parse_parameters n v) rest and_then λ qs rest. got (q ∷ qs) rest) (λ q rest. parse_further [] (parse_parameters m v) rest and_then λ qs rest. got (q ∷ qs) rest) (λ q rest is.
    let short : length rest ≤ length tokens = got_short q rest ((parameter_local v).gone (length tokens) tokens (omega arith)) is in
    ap (λ r. r and_then λ qs rest. got (q ∷ qs) rest) (further_same [] (parse_parameters n v) (parse_parameters m v) (length tokens) rest short (λ rest shorter. parameters_same n m v rest (omega (arith, shorter)) (omega (arith, shorter)))))

-- a reader whose bound is the number of tokens
bounded_local : {A : Type 0} (parts : ℕ → List Tok → Read A) → ((n : ℕ) → Local (parts n) (parts n)) → ((n m : ℕ) (u : List Tok) → length u < n → length u < m → parts n u ≡ parts m u)
    → Local (λ u. parts (suc (length u)) u) (λ u. parts (suc (length u)) u)
bounded_local parts l same = record {
  near = λ rest other u w c.
      let n : ℕ = suc (length u + length w) in
      rw (same (suc (length u)) n u (omega arith) (omega arith), same (suc (length w)) n w (omega arith) (omega arith)) ((l n).near rest other u w c);
  gone = λ n u short. (l (suc (length u))).gone n u short;
}

heading_local : (v : Version) → Local (parse_heading v) (parse_heading v)
unfolding parse_heading
heading_local v =
    bind (keyword_local words.Template) (λ _. bind name_local (λ n. bind (symbol_local symbols.Open) (λ _.
    bind (listed_local [] (bounded_local (λ n. parse_parameters n v) (λ n. parameters_local n v) (λ n m u. parameters_same n m v u))) (λ qs. got_local (n, qs)))))

signature_local : (v : Version) → Local (parse_signature v) (parse_signature v)
unfolding parse_signature
signature_local v =
    bind (symbol_local symbols.Colon) (λ _. bind (type_local v) (λ input. bind (symbol_local symbols.Leads) (λ _. bind (type_local v) (λ output. bind (symbol_local symbols.Equals) (λ _. got_local (input, output))))))

-- ## Patterns

pattern_pair_local : {part : List Tok → Read Pattern} → Local part part → Local (parse_pattern_pair part) (parse_pattern_pair part)
unfolding parse_pattern_pair
pattern_pair_local l = parts l (symbol_local symbols.Comma) (λ _. l) (λ p _ q. got_local (both p q))

pattern_at : (part : List Tok → Read Pattern) → Local part part → (t : Tok) → AtToken (parse_pattern_form part) (parse_pattern_form part) t
pattern_at part l (keyword words.Underscore) = takes unnamed (λ u. refl)
pattern_at part l (name n) = takes (named n) (λ u. refl)
pattern_at part l (symbol symbols.Open) = record {
  one = λ start tokens. parse_pattern_pair part tokens;
  two = λ start tokens. parse_pattern_pair part tokens;
  local = behind (λ start start'. pattern_pair_local l);
  first = λ u. refl;
  second = λ u. refl;
}
pattern_at part l _ = stops Unexpected (λ u. refl)

pattern_local : (d : ℕ) → Local (parse_pattern d) (parse_pattern d)
unfolding parse_pattern
pattern_local zero = deep_local begins_pattern
pattern_local (suc d) = by_token (parse_pattern_form (parse_pattern d)) (parse_pattern_form (parse_pattern d)) Unexpected refl (pattern_at (parse_pattern d) (pattern_local d))

-- ## Expressions

expression_read_local : (c : Counts) (e : Expression) (start start' : List Tok) → Local (expression_read c e start) (expression_read c e start')
expression_read_local c e start start' = counted_local e (c.expressions + size e) start start'

abbrev ExpressionsLocal : (Counts → List Tok → Read Expression) → Type 0
ExpressionsLocal part = (c : Counts) → Local (part c) (part c)

linked_local : {part : Counts → List Tok → Read Expression} (c : Counts) (start start' : List Tok) → ExpressionsLocal part → Local (parse_linked part c start) (parse_linked part c start')
unfolding parse_linked
linked_local c start start' l = parts (l c) link_local (λ e. l (counts_with_expression c e)) (λ e k f. expression_read_local c (linked k e f) start start')

bracketed_local : (part : Counts → List Tok → Read Expression) (c : Counts) (start start' : List Tok) → ExpressionsLocal part → Local (λ u. bracketed_from part c (behind_close u) start u) (λ u. bracketed_from part c (behind_close u) start' u)
bracketed_local part c start start' l =
    peek_local behind_close {f = λ o u. bracketed_from part c o start u} {g = λ o u. bracketed_from part c o start' u} refl close_peek (record { some = λ r u. refl; none = λ u. refl }) (record { some = λ r u. refl; none = λ u. refl })
    (expression_read_local c (literal unit_literal) start start') (linked_local c start start' l)

none_local : (d : ℕ) (v : Version) (c : Counts) (start start' : List Tok) → Local (parse_none d v c start) (parse_none d v c start')
unfolding parse_none
none_local d v c start start' = bind (whole_type_local d v) (λ t. expression_read_local c (literal (none_literal t)) start start')

prefixed_local : {part : Counts → List Tok → Read Expression} (c : Counts) (o : Unary) (start start' : List Tok) → ExpressionsLocal part → Local (parse_prefixed part c o start) (parse_prefixed part c o start')
unfolding parse_prefixed
prefixed_local c o start start' l = bind (l c) (λ e. expression_read_local c (applied o e) start start')

one_in_brackets_local : {part : Counts → List Tok → Read Expression} (c : Counts) (o : Unary) (start start' : List Tok) → ExpressionsLocal part → Local (parse_one_in_brackets part c o start) (parse_one_in_brackets part c o start')
unfolding parse_one_in_brackets
one_in_brackets_local c o start start' l =
    bind (symbol_local symbols.Open) (λ _. bind (l c) (λ e. bind (symbol_local symbols.Close) (λ _. expression_read_local c (applied o e) start start')))

two_in_brackets_local : {part : Counts → List Tok → Read Expression} (c : Counts) (o : Operator) (start start' : List Tok) → ExpressionsLocal part → Local (parse_two_in_brackets part c o start) (parse_two_in_brackets part c o start')
unfolding parse_two_in_brackets
two_in_brackets_local c o start start' l =
    bind (symbol_local symbols.Open) (λ _. parts (l c) (symbol_local symbols.Comma) (λ e. l (counts_with_expression c e)) (λ e _ f. expression_read_local c (operation e o f) start start'))

conditional_local : {part : Counts → List Tok → Read Expression} (c : Counts) (start start' : List Tok) → ExpressionsLocal part → Local (parse_conditional part c start) (parse_conditional part c start')
unfolding parse_conditional
conditional_local c start start' l =
    bind (l c) (λ e. bind (keyword_local words.Then) (λ _. bind (l (counts_with_expression c e)) (λ f. bind (keyword_local words.Else) (λ _.
    bind (l (counts_with_expression (counts_with_expression c e) f)) (λ g. expression_read_local c (conditional e f g) start start')))))

mapping_local : {part : Counts → List Tok → Read Expression} (d : ℕ) (c : Counts) → ExpressionsLocal part → Local (parse_mapping d part c) (parse_mapping d part c)
mapping_local d c l = bind (pattern_local d) (λ p. bind (symbol_local symbols.MapsTo) (λ _. bind (l c) (λ e. got_local (function p e))))

let_local : {part : Counts → List Tok → Read Expression} (d : ℕ) (c : Counts) (start start' : List Tok) → ExpressionsLocal part → Local (parse_let d part c start) (parse_let d part c start')
unfolding parse_let
let_local d c start start' l =
    bind (pattern_local d) (λ p. bind (symbol_local symbols.Equals) (λ _. bind (l c) (λ e. bind (keyword_local words.In) (λ _.
    bind (l (counts_with_expression c e)) (λ f. expression_read_local c (mapped e mappings.Let p f) start start')))))

one_and_function_local : {part : Counts → List Tok → Read Expression} (d : ℕ) (c : Counts) (m : Mapping) (start start' : List Tok) → ExpressionsLocal part → Local (parse_one_and_function d part c m start) (parse_one_and_function d part c m start')
unfolding parse_one_and_function
one_and_function_local d c m start start' l =
    bind (symbol_local symbols.Open) (λ _. parts (l c) (symbol_local symbols.Comma) (λ e. mapping_local d (counts_with_expression c e) l) (λ e _ f. expression_read_local c (mapped_by e m f) start start'))

two_and_function_local : {part : Counts → List Tok → Read Expression} (d : ℕ) (c : Counts) (o : Folding) (start start' : List Tok) → ExpressionsLocal part → Local (parse_two_and_function d part c o start) (parse_two_and_function d part c o start')
unfolding parse_two_and_function
two_and_function_local d c o start start' l =
    bind (symbol_local symbols.Open) (λ _. bind (l c) (λ e. bind (symbol_local symbols.Comma) (λ _.
    parts (l (counts_with_expression c e)) (symbol_local symbols.Comma) (λ f. mapping_local d (counts_with_expression (counts_with_expression c e) f) l) (λ f _ g. expression_read_local c (folded_by e o f g) start start'))))

called_local : {part : Counts → List Tok → Read Expression} (c : Counts) (start start' : List Tok) → ExpressionsLocal part → Local (parse_called part c start) (parse_called part c start')
unfolding parse_called
called_local c start start' l =
    bind name_local (λ g. bind (symbol_local symbols.Open) (λ _. bind (l c) (λ e. bind (symbol_local symbols.Close) (λ _. expression_read_local c (called g e) start start'))))

worded_behind : {part : Counts → List Tok → Read Expression} (d : ℕ) (v : Version) (c : Counts) (h : Option ExpressionHead) → ExpressionsLocal part → Behind (parse_worded_expression d v part c h) (parse_worded_expression d v part c h)
worded_behind d v c (Some (expression_heads.Truth b)) l = behind (expression_read_local c (literal (truth_literal b)))
worded_behind d v c (Some expression_heads.NoEvent) l = behind (none_local d v c)
worded_behind d v c (Some (expression_heads.Prefixed o)) l = behind (λ start start'. prefixed_local c o start start' l)
worded_behind d v c (Some (expression_heads.OneInBrackets o)) l = behind (λ start start'. one_in_brackets_local c o start start' l)
worded_behind d v c (Some (expression_heads.TwoInBrackets o)) l = behind (λ start start'. two_in_brackets_local c o start start' l)
worded_behind d v c (Some expression_heads.Conditional) l = behind (λ start start'. conditional_local c start start' l)
worded_behind d v c (Some expression_heads.Let) l = behind (λ start start'. let_local d c start start' l)
worded_behind d v c (Some (expression_heads.OneAndFunction m)) l = behind (λ start start'. one_and_function_local d c m start start' l)
worded_behind d v c (Some (expression_heads.TwoAndFunction o)) l = behind (λ start start'. two_and_function_local d c o start start' l)
worded_behind d v c (Some expression_heads.Called) l = behind (λ start start'. called_local c start start' l)
worded_behind d v c None l = behind_stop Unexpected

-- a form of one token
alone_at : (f : List Tok → Read Expression) (c : Counts) (e : Expression) (t : Tok) → ((u : List Tok) → f (t ∷ u) ≡ expression_read c e (t ∷ u) u) → AtToken f f t
alone_at f c e t is = record { one = expression_read c e; two = expression_read c e; local = behind (expression_read_local c e); first = is; second = is }

expression_at : (d : ℕ) (v : Version) (part : Counts → List Tok → Read Expression) (c : Counts) → ExpressionsLocal part → (t : Tok) → AtToken (parse_expression_form d v part c) (parse_expression_form d v part c) t
expression_at d v part c l (name n) = alone_at (parse_expression_form d v part c) c (variable n) (name n) (λ u. refl)
expression_at d v part c l (number z) = alone_at (parse_expression_form d v part c) c (literal (int_literal z)) (number z) (λ u. refl)
expression_at d v part c l (text s) = alone_at (parse_expression_form d v part c) c (literal (text_literal s)) (text s) (λ u. refl)
expression_at d v part c l (keyword k) = record {
  one = parse_worded_expression d v part c (expression_head k);
  two = parse_worded_expression d v part c (expression_head k);
  local = worded_behind d v c (expression_head k) l;
  first = λ u. refl;
  second = λ u. refl;
}
expression_at d v part c l (symbol symbols.Open) = record {
  one = λ start u. bracketed_from part c (behind_close u) start u;
  two = λ start u. bracketed_from part c (behind_close u) start u;
  local = behind (λ start start'. bracketed_local part c start start' l);
  first = λ u. refl;
  second = λ u. refl;
}
expression_at d v part c l _ = stops Unexpected (λ u. refl)

expression_local : (d : ℕ) (v : Version) → ExpressionsLocal (parse_expression d v)
unfolding parse_expression
expression_local zero v c = deep_local begins_expression
expression_local (suc d) v c =
    by_token (parse_expression_form d v (parse_expression d v) c) (parse_expression_form d v (parse_expression d v) c) Unexpected refl (expression_at d v (parse_expression d v) c (expression_local d v))

function_local : (d : ℕ) (v : Version) (c : Counts) → Local (parse_function d v c) (parse_function d v c)
unfolding parse_function
function_local d v c = mapping_local d c (expression_local d v)

-- ## Terms

term_read_local : (c : Counts) (t : Term) (start start' : List Tok) → Local (term_read c t start) (term_read c t start')
term_read_local c t start start' = counted_local t (c.terms + terms_in t) start start'

value_local : (d : ℕ) (v : Version) (c : Counts) (k : WithValue) (start start' : List Tok) → Local (parse_value d v c k start) (parse_value d v c k start')
unfolding parse_value
value_local d v c k start start' = bind (expression_local d v c) (λ e. term_read_local c (primitive (with_value k e)) start start')

never_local : (d : ℕ) (v : Version) (c : Counts) (start start' : List Tok) → Local (parse_never d v c start) (parse_never d v c start')
unfolding parse_never
never_local d v c start start' = bind (whole_type_local d v) (λ t. term_read_local c (primitive (never t)) start start')

timed_local : (d : ℕ) (v : Version) (c : Counts) (k : Timing) (start start' : List Tok) → Local (parse_timed d v c k start) (parse_timed d v c k start')
unfolding parse_timed
timed_local d v c k start start' = bind number_local (λ q. bind (expression_local d v c) (λ e. term_read_local c (primitive (timed k q e)) start start'))

selected_local : (c : Counts) (k : Selection) (start start' : List Tok) → Local (parse_selected c k start) (parse_selected c k start')
unfolding parse_selected
selected_local c k start start' = bind number_local (λ n. term_read_local c (primitive (selected k n)) start start')

arrow_local : (d : ℕ) (v : Version) (c : Counts) (start start' : List Tok) → Local (parse_arrow d v c start) (parse_arrow d v c start')
unfolding parse_arrow
arrow_local d v c start start' = bind (function_local d v c) (λ f. term_read_local c (primitive (arrow f)) start start')

accumulated_local : (d : ℕ) (v : Version) (c : Counts) (k : Accumulation) (start start' : List Tok) → Local (parse_accumulated d v c k start) (parse_accumulated d v c k start')
unfolding parse_accumulated
accumulated_local d v c k start start' =
    bind (symbol_local symbols.Open) (λ _. parts (expression_local d v c) (symbol_local symbols.Comma) (λ e. function_local d v (counts_with_expression c e)) (λ e _ f. term_read_local c (primitive (accumulated k e f)) start start'))

abbrev TermsLocal : (Counts → List Tok → Read Term) → Type 0
TermsLocal part = (c : Counts) → Local (part c) (part c)

abbrev MembersLocal : (Counts → List Tok → Read Collection) → Type 0
MembersLocal members = (c : Counts) → Local (members c) (members c)

sided_local : {part : Counts → List Tok → Read Term} (c : Counts) (s : Side) (start start' : List Tok) → TermsLocal part → Local (parse_sided part c s start) (parse_sided part c s start')
unfolding parse_sided
sided_local c s start start' l = bind (l c) (λ f. term_read_local c (sided s f) start start')

headed_local : {part : Counts → List Tok → Read Term} (d : ℕ) (v : Version) (c : Counts) (h : Heading) (start start' : List Tok) → TermsLocal part → Local (parse_headed d v part c h start) (parse_headed d v part c h start')
unfolding parse_headed
headed_local d v c h start start' l =
    bind (symbol_local symbols.Open) (λ _. parts (expression_local d v c) (symbol_local symbols.Comma) (λ e. l (counts_with_expression c e)) (λ e _ f. term_read_local c (head_makes h e f) start start'))

transformed_local : {part : Counts → List Tok → Read Term} (d : ℕ) (v : Version) (c : Counts) (start start' : List Tok) → TermsLocal part → Local (parse_transformed d v part c start) (parse_transformed d v part c start')
unfolding parse_transformed
transformed_local d v c start start' l =
    bind (symbol_local symbols.Open) (λ _. parts (function_local d v c) (symbol_local symbols.Comma) (λ h. l (counts_with_function c h)) (λ h _ f. term_read_local c (transformed h f) start start'))

body_local : {part : Counts → List Tok → Read Term} (d : ℕ) (c : Counts) → TermsLocal part → Local (parse_body d part c) (parse_body d part c)
body_local d c l = bind (pattern_local d) (λ p. bind (symbol_local symbols.MapsTo) (λ _. bind (l c) (λ f. got_local (p, f))))

switching_local : {part : Counts → List Tok → Read Term} (d : ℕ) (c : Counts) (w : Switching) (start start' : List Tok) → TermsLocal part → Local (parse_switching d part c w start) (parse_switching d part c w start')
unfolding parse_switching
switching_local d c w start start' l =
    bind (symbol_local symbols.Open) (λ _. parts (l c) (symbol_local symbols.Comma) (λ f. body_local d (counted_term c f) l) (λ f _ b. term_read_local c (switching w f b.0 b.1) start start'))

named_local : (w : Naming) (c : Counts) (start start' : List Tok) → Local (parse_named w c start) (parse_named w c start')
unfolding parse_named
named_local w c start start' = bind name_local (λ k. term_read_local c (named_term w k) start start')

continuing_local : {part : Counts → List Tok → Read Term} (d : ℕ) (c : Counts) (w : Observation) (start start' : List Tok) → TermsLocal part → Local (parse_continuing d part c w start) (parse_continuing d part c w start')
unfolding parse_continuing
continuing_local d c w start start' l =
    bind (symbol_local symbols.Open) (λ _. bind (l c) (λ f. bind (symbol_local symbols.Comma) (λ _. bind (l (counted_term c f)) (λ g. bind (symbol_local symbols.Comma) (λ _.
    parts name_local (symbol_local symbols.Comma) (λ _. body_local d (counted_term (counted_term c f) g) l) (λ k _ b. term_read_local c (continuing w f g k b.0 b.1) start start'))))))

joined_local : {part : Counts → List Tok → Read Term} (c : Counts) (start start' : List Tok) → TermsLocal part → Local (parse_joined part c start) (parse_joined part c start')
unfolding parse_joined
joined_local c start start' l = parts (l c) join_local (λ f. l (counted_term c f)) (λ f j g. term_read_local c (joined j f g) start start')

-- ## Collections

empty_local : (d : ℕ) (v : Version) → Local (parse_empty d v) (parse_empty d v)
unfolding parse_empty
empty_local d v = bind (keys_local v) (λ k. bind (whole_type_local d v) (λ t. got_local (without_members k t)))

used_local : Local parse_used parse_used
unfolding parse_used
used_local = bind name_local (λ k. got_local (used k))

added_local : {part : Counts → List Tok → Read Term} {members : Counts → List Tok → Read Collection} (d : ℕ) (v : Version) (c : Counts) → TermsLocal part → MembersLocal members → Local (parse_added d v part members c) (parse_added d v part members c)
unfolding parse_added
added_local d v c l m =
    bind (symbol_local symbols.Open) (λ _. bind (m c) (λ i. bind (symbol_local symbols.Comma) (λ _.
    parts (expression_local d v (counts_with_collection c i)) (symbol_local symbols.Comma) (λ e. l (counts_with_expression (counts_with_collection c i) e)) (λ e _ t. got_local (added i e t)))))

dropped_local : {members : Counts → List Tok → Read Collection} (d : ℕ) (v : Version) (c : Counts) → MembersLocal members → Local (parse_dropped d v members c) (parse_dropped d v members c)
unfolding parse_dropped
dropped_local d v c m =
    bind (symbol_local symbols.Open) (λ _. parts (m c) (symbol_local symbols.Comma) (λ i. expression_local d v (counts_with_collection c i)) (λ i _ e. got_local (dropped i e)))

kept_local : {members : Counts → List Tok → Read Collection} (d : ℕ) (v : Version) (c : Counts) → MembersLocal members → Local (parse_kept d v members c) (parse_kept d v members c)
unfolding parse_kept
kept_local d v c m =
    bind (symbol_local symbols.Open) (λ _. parts (m c) (symbol_local symbols.Comma) (λ i. function_local d v (counts_with_collection c i)) (λ i _ f. got_local (kept i f)))

chosen_local : {members : Counts → List Tok → Read Collection} (d : ℕ) (v : Version) (c : Counts) → MembersLocal members → Local (parse_chosen d v members c) (parse_chosen d v members c)
unfolding parse_chosen
chosen_local d v c m =
    bind (expression_local d v c) (λ e. bind (keyword_local words.Then) (λ _. bind (m (counts_with_expression c e)) (λ i. bind (keyword_local words.Else) (λ _.
    bind (m (counts_with_collection (counts_with_expression c e) i)) (λ j. got_local (chosen e i j))))))

collection_behind : {part : Counts → List Tok → Read Term} {members : Counts → List Tok → Read Collection} (d : ℕ) (v : Version) (c : Counts) (h : Option CollectionHead) → TermsLocal part → MembersLocal members
    → Behind (parse_behind_collection_head d v part members c h) (parse_behind_collection_head d v part members c h)
collection_behind d v c (Some collection_heads.Empty) l m = behind (λ start start'. empty_local d v)
collection_behind d v c (Some collection_heads.Used) l m = behind (λ start start'. used_local)
collection_behind d v c (Some collection_heads.Added) l m = behind (λ start start'. added_local d v c l m)
collection_behind d v c (Some collection_heads.Dropped) l m = behind (λ start start'. dropped_local d v c m)
collection_behind d v c (Some collection_heads.Kept) l m = behind (λ start start'. kept_local d v c m)
collection_behind d v c (Some collection_heads.Chosen) l m = behind (λ start start'. chosen_local d v c m)
collection_behind d v c None l m = behind_stop Unexpected

collection_form_local : (d : ℕ) (v : Version) (part : Counts → List Tok → Read Term) (members : Counts → List Tok → Read Collection) (c : Counts) → TermsLocal part → MembersLocal members
    → Local (parse_collection_form d v part members c) (parse_collection_form d v part members c)
collection_form_local d v part members c l m = by_token (parse_collection_form d v part members c) (parse_collection_form d v part members c) Unexpected refl (λ t. record {
  one = parse_behind_collection_head d v part members c (collection_head t);
  two = parse_behind_collection_head d v part members c (collection_head t);
  local = collection_behind d v c (collection_head t) l m;
  first = λ u. refl;
  second = λ u. refl;
})

gathered_local : {members : Counts → List Tok → Read Collection} (c : Counts) (start start' : List Tok) → MembersLocal members → Local (parse_gathered members c start) (parse_gathered members c start')
unfolding parse_gathered
gathered_local c start start' m = bind (m c) (λ i. term_read_local c (gathered i) start start')

releasing_local : {part : Counts → List Tok → Read Term} {members : Counts → List Tok → Read Collection} (d : ℕ) (c : Counts) (w : Observation) (start start' : List Tok) → TermsLocal part → MembersLocal members
    → Local (parse_releasing d part members c w start) (parse_releasing d part members c w start')
unfolding parse_releasing
releasing_local d c w start start' l m =
    bind (symbol_local symbols.Open) (λ _. bind (m c) (λ i. bind (symbol_local symbols.Comma) (λ _. bind (l (counts_with_collection c i)) (λ q. bind (symbol_local symbols.Comma) (λ _.
    parts name_local (symbol_local symbols.Comma) (λ _. body_local d (counted_term (counts_with_collection c i) q) l) (λ k _ b. term_read_local c (releasing w i q k b.0 b.1) start start'))))))

edit_local : {members : Counts → List Tok → Read Collection} (d : ℕ) (c : Counts) → MembersLocal members → Local (parse_edit d members c) (parse_edit d members c)
edit_local d c m = bind (pattern_local d) (λ p. bind (symbol_local symbols.MapsTo) (λ _. bind (m c) (λ i. got_local (p, i))))

editing_local : {members : Counts → List Tok → Read Collection} (d : ℕ) (c : Counts) (w : Observation) (start start' : List Tok) → MembersLocal members → Local (parse_editing d members c w start) (parse_editing d members c w start')
unfolding parse_editing
editing_local d c w start start' m =
    bind (symbol_local symbols.Open) (λ _. bind (m c) (λ i. bind (symbol_local symbols.Comma) (λ _.
    parts name_local (symbol_local symbols.Comma) (λ _. edit_local d (counts_with_collection c i) m) (λ k _ b. term_read_local c (editing w i k b.0 b.1) start start'))))

-- ## Calls

expression_argument : (d : ℕ) (v : Version) (c : Counts) → Local (λ u. parse_expression d v c u and_then λ e rest. got (actual_value e) rest) (λ u. parse_expression d v c u and_then λ e rest. got (actual_value e) rest)
expression_argument d v c = bind (expression_local d v c) (λ e. got_local (actual_value e))

value_argument_at : (d : ℕ) (v : Version) (part : Counts → List Tok → Read Term) (members : Counts → List Tok → Read Collection) (c : Counts) (t : Tok) → ((u : List Tok) → argument_word (t ∷ u) ≡ no_word)
    → AtToken (parse_argument d v part members c) (parse_argument d v part members c) t
unfolding parse_argument
value_argument_at d v part members c t is = record {
  one = λ start tokens. argument_from d v part members c no_word start;
  two = λ start tokens. argument_from d v part members c no_word start;
  local = anew (expression_argument d v c);
  first = λ u. ap (λ w. argument_from d v part members c w (t ∷ u)) (is u);
  second = λ u. ap (λ w. argument_from d v part members c w (t ∷ u)) (is u);
}

argument_at : (d : ℕ) (v : Version) (part : Counts → List Tok → Read Term) (members : Counts → List Tok → Read Collection) (c : Counts) → TermsLocal part → MembersLocal members → (t : Tok)
    → AtToken (parse_argument d v part members c) (parse_argument d v part members c) t
unfolding parse_argument
argument_at d v part members c l m (keyword words.SignalFunction) = record {
  one = λ start tokens. part c tokens and_then λ t rest. got (actual_process t) rest;
  two = λ start tokens. part c tokens and_then λ t rest. got (actual_process t) rest;
  local = behind (λ start start'. bind (l c) (λ t. got_local (actual_process t)));
  first = λ u. refl;
  second = λ u. refl;
}
argument_at d v part members c l m (keyword words.Collection) = record {
  one = λ start tokens. members c tokens and_then λ i rest. got (actual_collection i) rest;
  two = λ start tokens. members c tokens and_then λ i rest. got (actual_collection i) rest;
  local = behind (λ start start'. bind (m c) (λ i. got_local (actual_collection i)));
  first = λ u. refl;
  second = λ u. refl;
}
argument_at d v part members c l m t = value_argument_at d v part members c t (λ u. refl)

empty_argument : (d : ℕ) (v : Version) (part : Counts → List Tok → Read Term) (members : Counts → List Tok → Read Collection) (c : Counts) → parse_argument d v part members c [] ≡ stop Unexpected []
unfolding parse_argument parse_expression
empty_argument zero v part members c = refl
empty_argument (suc d) v part members c = refl

argument_local : (d : ℕ) (v : Version) (part : Counts → List Tok → Read Term) (members : Counts → List Tok → Read Collection) (c : Counts) → TermsLocal part → MembersLocal members
    → Local (parse_argument d v part members c) (parse_argument d v part members c)
argument_local d v part members c l m = by_token (parse_argument d v part members c) (parse_argument d v part members c) Unexpected (empty_argument d v part members c) (argument_at d v part members c l m)

arguments_local : (n d : ℕ) (v : Version) (part : Counts → List Tok → Read Term) (members : Counts → List Tok → Read Collection) (c : Counts) → TermsLocal part → MembersLocal members
    → Local (parse_arguments n d v part members c) (parse_arguments n d v part members c)
unfolding parse_arguments
arguments_local zero d v part members c l m = stop_local Unexpected
arguments_local (suc n) d v part members c l m =
    bind (argument_local d v part members c l m) (λ a. bind (further_local no_arguments (arguments_local n d v part members (counts_with_actual c a) l m)) (λ vs. got_local (leading_actual a vs)))

-- as many arguments as there are tokens are enough
arguments_same : (n m d : ℕ) (v : Version) (part : Counts → List Tok → Read Term) (members : Counts → List Tok → Read Collection) (c : Counts) → TermsLocal part → MembersLocal members
    → (tokens : List Tok) → length tokens < n → length tokens < m → parse_arguments n d v part members c tokens ≡ parse_arguments m d v part members c tokens
unfolding parse_arguments
arguments_same zero m d v part members c l k tokens a b = absurd (omega arith)
arguments_same (suc n) zero d v part members c l k tokens a b = absurd (omega arith)
arguments_same (suc n) (suc m) d v part members c l k tokens a b =
    then_same (parse_argument d v part members c tokens) (λ x rest. parse_further no_arguments (parse_arguments n d v part members (counts_with_actual c x)) rest and_then λ vs rest. got (leading_actual x vs) rest)
    (λ x rest. parse_further no_arguments (parse_arguments m d v part members (counts_with_actual c x)) rest and_then λ vs rest. got (leading_actual x vs) rest) (λ x rest is.
    let short : length rest ≤ length tokens = got_short x rest ((argument_local d v part members c l k).gone (length tokens) tokens (omega arith)) is in
    ap (λ r. r and_then λ vs rest. got (leading_actual x vs) rest) (further_same no_arguments (parse_arguments n d v part members (counts_with_actual c x)) (parse_arguments m d v part members (counts_with_actual c x)) (length tokens) rest short
    (λ rest shorter. arguments_same n m d v part members (counts_with_actual c x) l k rest (omega (arith, shorter)) (omega (arith, shorter)))))

-- behind a call's name; `start` begins with that name
abbrev behind_call : ℕ → Version → (Counts → List Tok → Read Term) → (Counts → List Tok → Read Collection) → Counts → Name → List Tok → List Tok → Read Term
behind_call d v part members c g start rest =
    parse_symbol symbols.Open rest and_then λ _ rest.
    parse_listed no_arguments (λ tokens. parse_arguments (suc (length tokens)) d v part members c tokens) rest and_then λ vs rest.
    term_read c (reference (call g vs)) start rest

behind_call_local : (d : ℕ) (v : Version) (part : Counts → List Tok → Read Term) (members : Counts → List Tok → Read Collection) (c : Counts) (g : Name) (start start' : List Tok) → TermsLocal part → MembersLocal members
    → Local (behind_call d v part members c g start) (behind_call d v part members c g start')
behind_call_local d v part members c g start start' l m =
    bind (symbol_local symbols.Open) (λ _.
    bind (listed_local no_arguments (bounded_local (λ n. parse_arguments n d v part members c) (λ n. arguments_local n d v part members c l m) (λ n k. arguments_same n k d v part members c l m))) (λ vs.
    term_read_local c (reference (call g vs)) start start'))

-- the form of a call is read from its first token on, which is a name
call_at : (d : ℕ) (v : Version) (part : Counts → List Tok → Read Term) (members : Counts → List Tok → Read Collection) (c : Counts) → TermsLocal part → MembersLocal members → (t : Tok)
    → AtToken (parse_call d v part members c) (parse_call d v part members c) t
unfolding parse_call
call_at d v part members c l m (name g) = record {
  one = behind_call d v part members c g;
  two = behind_call d v part members c g;
  local = behind (λ start start'. behind_call_local d v part members c g start start' l m);
  first = λ u. refl;
  second = λ u. refl;
}
call_at d v part members c l m _ = stops Unexpected (λ u. refl)

empty_call : (d : ℕ) (v : Version) (part : Counts → List Tok → Read Term) (members : Counts → List Tok → Read Collection) (c : Counts) → parse_call d v part members c [] ≡ stop Unexpected []
unfolding parse_call
empty_call d v part members c = refl

call_local : (d : ℕ) (v : Version) (part : Counts → List Tok → Read Term) (members : Counts → List Tok → Read Collection) (c : Counts) → TermsLocal part → MembersLocal members
    → Local (parse_call d v part members c) (parse_call d v part members c)
call_local d v part members c l m = by_token (parse_call d v part members c) (parse_call d v part members c) Unexpected (empty_call d v part members c) (call_at d v part members c l m)

-- ## Forms

head_behind : (d : ℕ) (v : Version) (part : Counts → List Tok → Read Term) (members : Counts → List Tok → Read Collection) (c : Counts) (h : Option Head) → TermsLocal part → MembersLocal members
    → Behind (parse_behind_head d v part members c h) (parse_behind_head d v part members c h)
head_behind d v part members c (Some (heads.Bare b)) l m = behind (term_read_local c (primitive (bare b)))
head_behind d v part members c (Some (heads.WithValue k)) l m = behind (value_local d v c k)
head_behind d v part members c (Some (heads.Timed k)) l m = behind (timed_local d v c k)
head_behind d v part members c (Some (heads.Selected k)) l m = behind (selected_local c k)
head_behind d v part members c (Some heads.Never) l m = behind (never_local d v c)
head_behind d v part members c (Some heads.Arrow) l m = behind (arrow_local d v c)
head_behind d v part members c (Some (heads.Accumulated k)) l m = behind (accumulated_local d v c k)
head_behind d v part members c (Some heads.Joined) l m = behind (λ start start'. joined_local c start start' l)
head_behind d v part members c (Some (heads.Sided s)) l m = behind (λ start start'. sided_local c s start start' l)
head_behind d v part members c (Some (heads.Headed h)) l m = behind (λ start start'. headed_local d v c h start start' l)
head_behind d v part members c (Some heads.Transformed) l m = behind (λ start start'. transformed_local d v c start start' l)
head_behind d v part members c (Some (heads.Switching w)) l m = behind (λ start start'. switching_local d c w start start' l)
head_behind d v part members c (Some (heads.Named w)) l m = behind (named_local w c)
head_behind d v part members c (Some (heads.Continuation w)) l m = behind (λ start start'. continuing_local d c w start start' l)
head_behind d v part members c (Some heads.Call) l m = anew (call_local d v part members c l m)
head_behind d v part members c (Some heads.Gathered) l m = behind (λ start start'. gathered_local c start start' m)
head_behind d v part members c (Some (heads.Releasing w)) l m = behind (λ start start'. releasing_local d c w start start' l m)
head_behind d v part members c (Some (heads.Editing w)) l m = behind (λ start start'. editing_local d c w start start' m)
head_behind d v part members c None l m = behind_stop Unexpected

-- what a name begins is told by the token behind it
abbrev named_form : ℕ → Version → (Counts → List Tok → Read Term) → (Counts → List Tok → Read Collection) → Counts → List Tok → List Tok → Read Term
named_form d v part members c start tokens = parse_behind_head d v part members c (tokens_head v start) start tokens

-- it is a call, or begins a process anew, and neither stops at the name
name_past : (d : ℕ) (v : Version) (part : Counts → List Tok → Read Term) (members : Counts → List Tok → Read Collection) (c : Counts) → TermsLocal part → MembersLocal members
    → (fresh : Bool) (g : Name) (n : ℕ) (u : List Tok) → length u ≤ n → Past n (parse_behind_head d v part members c (if fresh then Some (heads.Named (namings.Process starts.Fresh)) else Some heads.Call) (name g ∷ u) u)
unfolding parse_call
name_past d v part members c l m true g n u short = (named_local (namings.Process starts.Fresh) c (name g ∷ u) (name g ∷ u)).gone n u short
name_past d v part members c l m false g n u short = (behind_call_local d v part members c g (name g ∷ u) (name g ∷ u) l m).gone n u short

name_near : (d : ℕ) (v : Version) (part : Counts → List Tok → Read Term) (members : Counts → List Tok → Read Collection) (c : Counts) → TermsLocal part → MembersLocal members
    → (g : Name) (rest other : List Tok) (u w : List Tok) → Onward rest other u w → Alike rest other (named_form d v part members c (name g ∷ u) u) (named_form d v part members c (name g ∷ w) w)
name_near d v part members c l m g rest other _ _ edge = beyond (name_past d v part members c l m (begins_fresh v (name g ∷ rest)) g (length rest) rest (omega arith))
name_near d v part members c l m g rest other _ _ (next (name k) {u} {w} o) = (head_behind d v part members c (tokens_head v (name g ∷ name k ∷ u)) l m).near rest other (name g) (name k ∷ u) (name k ∷ w) (next (name k) o)
name_near d v part members c l m g rest other _ _ (next (keyword k) {u} {w} o) = (head_behind d v part members c (Some heads.Call) l m).near rest other (name g) (keyword k ∷ u) (keyword k ∷ w) (next (keyword k) o)
name_near d v part members c l m g rest other _ _ (next (number z) {u} {w} o) = (head_behind d v part members c (Some heads.Call) l m).near rest other (name g) (number z ∷ u) (number z ∷ w) (next (number z) o)
name_near d v part members c l m g rest other _ _ (next (text s) {u} {w} o) = (head_behind d v part members c (Some heads.Call) l m).near rest other (name g) (text s ∷ u) (text s ∷ w) (next (text s) o)
name_near d v part members c l m g rest other _ _ (next (symbol s) {u} {w} o) = (head_behind d v part members c (Some heads.Call) l m).near rest other (name g) (symbol s ∷ u) (symbol s ∷ w) (next (symbol s) o)

form_near : (d : ℕ) (v : Version) (part : Counts → List Tok → Read Term) (members : Counts → List Tok → Read Collection) (c : Counts) → TermsLocal part → MembersLocal members
    → (rest other u w : List Tok) → Common rest other u w → Alike rest other (parse_form d v part members c u) (parse_form d v part members c w)
form_near d v part members c l m rest other _ _ (front (name g) {u} {w} o) = name_near d v part members c l m g rest other u w o
form_near d v part members c l m rest other _ _ (front (keyword k) {u} {w} o) = (head_behind d v part members c (head_of (keyword k)) l m).near rest other (keyword k) u w o
form_near d v part members c l m rest other _ _ (front (number z) {u} {w} o) = (head_behind d v part members c None l m).near rest other (number z) u w o
form_near d v part members c l m rest other _ _ (front (text s) {u} {w} o) = (head_behind d v part members c None l m).near rest other (text s) u w o
form_near d v part members c l m rest other _ _ (front (symbol s) {u} {w} o) = (head_behind d v part members c (head_of (symbol s)) l m).near rest other (symbol s) u w o

form_gone : (d : ℕ) (v : Version) (part : Counts → List Tok → Read Term) (members : Counts → List Tok → Read Collection) (c : Counts) → TermsLocal part → MembersLocal members
    → (n : ℕ) (u : List Tok) → length u ≤ n → Past n (parse_form d v part members c u)
form_gone d v part members c l m n [] short = stop_past Unexpected [] short
form_gone d v part members c l m n (s ∷ u) short = (head_behind d v part members c (tokens_head v (s ∷ u)) l m).gone n s u short

form_local : (d : ℕ) (v : Version) (part : Counts → List Tok → Read Term) (members : Counts → List Tok → Read Collection) (c : Counts) → TermsLocal part → MembersLocal members
    → Local (parse_form d v part members c) (parse_form d v part members c)
form_local d v part members c l m = record { near = form_near d v part members c l m; gone = form_gone d v part members c l m }

record PartsLocal (d : ℕ) (v : Version) : Type 0 where
  term : TermsLocal (parse_term d v)
  members : MembersLocal (parse_collection d v)

shallow_local : (d : ℕ) (v : Version) → PartsLocal d v
unfolding parse_shallow
shallow_local zero v = record { term = λ c. deep_local begins_term; members = λ c. deep_local begins_collection }
shallow_local (suc d) v =
    let l : PartsLocal d v = shallow_local d v in
    record { term = λ c. form_local d v (parse_term d v) (parse_collection d v) c l.term l.members; members = λ c. collection_form_local d v (parse_term d v) (parse_collection d v) c l.term l.members }

pub template_local : (v : Version) (c : Counts) → Local (parse_template v c) (parse_template v c)
unfolding parse_template
template_local v c =
    bind (heading_local v) (λ h. bind (signature_local v) (λ s. bind ((shallow_local 64 v).term c) (λ t. bind (symbol_local symbols.Semicolon) (λ _. got_local (template_of h s t)))))
