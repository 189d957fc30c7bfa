-- A text of version 1 has the tokens of one of version 2, but for the types of keys.
use Rattle.std.proofs.Common.{◌≡◌, ℕ, pos, Bool, true, false, List, [], ◌∷◌, ◌++◌, map, refl}
use Rattle.std.specs.List.{All}
use Rattle.std.proofs.lemmas.List.Elements.{All-nil, All-cons, All-head, All-tail}
use Rattle.sf_value.specs.Values.{Name, KeyKind, int_keys, text_keys, Kind, unit_kind, bool_kind, int_kind, text_kind, pair_kind, event_kind, table_kind}
use Rattle.sf_expr.specs.Expressions.{Literal, unit_literal, truth_literal, int_literal, text_literal, none_literal, Expression, variable, literal, paired, applied, operation, conditional, mapped, folded, called, Function, function}
use Rattle.sf_term.specs.Parameters.{NameKind, value, process, collection}
use Rattle.sf_term.specs.Trees.{Primitive, bare, probe, never, with_value, timed, selected, arrow, accumulated, fused, Term, primitive, reference, joined, sided, headed, transformed, switching, continuing, gathered, releasing, editing, staged, Collection, without_members, used, added, dropped, kept, chosen, Reference, started, call, Arguments, no_arguments, value_argument, process_argument, collection_argument, closed_argument, Template, Templates}
use Rattle.sf_lex.specs.declared.word.Keyword.{Keyword}
use Rattle.sf_lex.specs.declared.word.Keyword.TheVariants as words
use Rattle.sf_lex.specs.declared.symbol.Symbol.{Symbol}
use Rattle.sf_lex.specs.declared.symbol.Symbol.TheVariants as symbols
use Rattle.sf_lex.specs.Tokens.{Tok, keyword, number, symbol}
use Rattle.sf_decimal.specs.Decimals.{is_narrow}
use Rattle.sf_grammar.specs.declared.ty.Version.{Version}
use Rattle.sf_grammar.specs.declared.ty.Version.TheVariants as versions
use Rattle.sf_grammar.specs.Spelling.{spell, in_brackets, spell_operand, spell_operands, spell_choice, spell_mapping, spell_mapped_so, spell_further, spell_listed, spell_type, spell_pattern, spell_literal, spell_expression, spell_function, spell_value, spell_term, spell_collection, spell_reference, spell_arguments, spell_key_kind, spell_name_kind, spell_parameter, spell_template, spell_templates, takes_brackets, stands_between, maps_in_brackets, stands_initially, operator_token, value_word}
use Rattle.sf_print.specs.Laws.{CanStand}

-- the second are the first, but for keywords and symbols that are left out
data Shortens : List Tok → List Tok → Type 0 where
  none : Shortens [] []
  keeps : {t : Tok} {xs ys : List Tok} → Shortens xs ys → Shortens (t ∷ xs) (t ∷ ys)
  leaves : {k : Keyword} {xs ys : List Tok} → Shortens xs ys → Shortens (keyword k ∷ xs) ys
  passes : {w : Symbol} {xs ys : List Tok} → Shortens xs ys → Shortens (symbol w ∷ xs) ys

same : (xs : List Tok) → Shortens xs xs
same [] = none
same (x ∷ xs) = keeps (same xs)

-- one behind another
then : (a b c d : List Tok) → Shortens a b → Shortens c d → Shortens (a ++ c) (b ++ d)
then a b c d none s = s
then a b c d (keeps {xs = xs} {ys = ys} r) s = keeps (then xs ys c d r s)
then a b c d (leaves {xs = xs} r) s = leaves (then xs b c d r s)
then a b c d (passes {xs = xs} r) s = passes (then xs b c d r s)

-- the tokens that are left can stand in texts
shorter_stands : (a b : List Tok) → Shortens a b → All CanStand a → All CanStand b
shorter_stands a b none h = All-nil CanStand
shorter_stands a b (keeps {t = t} {xs = xs} {ys = ys} r) h = All-cons CanStand t ys (All-head CanStand t xs h) (shorter_stands xs ys r (All-tail CanStand t xs h))
shorter_stands a b (leaves {k = k} {xs = xs} r) h = shorter_stands xs b r (All-tail CanStand (keyword k) xs h)
shorter_stands a b (passes {w = w} {xs = xs} r) h = shorter_stands xs b r (All-tail CanStand (symbol w) xs h)

-- and so can the others, which are keywords and symbols
longer_stands : (a b : List Tok) → Shortens a b → All CanStand b → All CanStand a
longer_stands a b none h = All-nil CanStand
longer_stands a b (keeps {t = t} {xs = xs} {ys = ys} r) h = All-cons CanStand t xs (All-head CanStand t ys h) (longer_stands xs ys r (All-tail CanStand t ys h))
longer_stands a b (leaves {k = k} {xs = xs} r) h = All-cons CanStand (keyword k) xs tt (longer_stands xs b r h)
longer_stands a b (passes {w = w} {xs = xs} r) h = All-cons CanStand (symbol w) xs tt (longer_stands xs b r h)

brackets : (a b c d : List Tok) (t : Tok) → Shortens a b → Shortens c d → Shortens (in_brackets a t c) (in_brackets b t d)
brackets a b c d t r s = keeps (then a b _ _ r (keeps (then c d _ _ s (same _))))

operand : (w : Bool) (a b : List Tok) → Shortens a b → Shortens (spell_operand w a) (spell_operand w b)
operand false a b r = r
operand true a b r = keeps (then a b _ _ r (same _))

operands : (w : Bool) (t : Tok) (a b c d : List Tok) → Shortens a b → Shortens c d → Shortens (spell_operands w t a c) (spell_operands w t b d)
operands true t a b c d r s = brackets a b c d t r s
operands false t a b c d r s = keeps (brackets a b c d _ r s)

choice : (a b c d e f : List Tok) → Shortens a b → Shortens c d → Shortens e f → Shortens (spell_choice a c e) (spell_choice b d f)
choice a b c d e f r s u = keeps (then a b _ _ r (keeps (then c d _ _ s (keeps u))))

mapping : (p a b : List Tok) → Shortens a b → Shortens (spell_mapping p a) (spell_mapping p b)
mapping p a b r = then p p _ _ (same p) (keeps r)

mapped_so : (w : Bool) (p a b c d : List Tok) → Shortens a b → Shortens c d → Shortens (spell_mapped_so w a p c) (spell_mapped_so w b p d)
mapped_so false p a b c d r s = then p p _ _ (same p) (keeps (then a b _ _ r (keeps s)))
mapped_so true p a b c d r s = brackets a b _ _ _ r (mapping p c d s)

with_word : (w : Bool) (k : Keyword) (a b : List Tok) → Shortens a b → Shortens (spell_value w k a) (spell_value w k b)
with_word false k a b r = keeps r
with_word true k a b r = keeps (brackets a b (keyword k ∷ []) (keyword k ∷ []) _ r (same (keyword k ∷ [])))

type_shorter : (t : Kind) → Shortens (spell_type versions.Two t) (spell_type versions.One t)
type_shorter unit_kind = same _
type_shorter bool_kind = same _
type_shorter int_kind = same _
type_shorter text_kind = same _
type_shorter (pair_kind t u) = brackets _ _ _ _ _ (type_shorter t) (type_shorter u)
type_shorter (event_kind t) = keeps (type_shorter t)
type_shorter (table_kind int_keys t) = keeps (leaves (type_shorter t))
type_shorter (table_kind text_keys t) = keeps (leaves (type_shorter t))

literal_shorter : (l : Literal) → Shortens (spell_literal versions.Two l) (spell_literal versions.One l)
literal_shorter unit_literal = same _
literal_shorter (truth_literal true) = same _
literal_shorter (truth_literal false) = same _
literal_shorter (int_literal z) = same _
literal_shorter (text_literal s) = same _
literal_shorter (none_literal t) = keeps (type_shorter t)

expression_shorter : (e : Expression) → Shortens (spell_expression versions.Two e) (spell_expression versions.One e)
expression_shorter (variable x) = same _
expression_shorter (literal l) = literal_shorter l
expression_shorter (paired e f) = brackets _ _ _ _ _ (expression_shorter e) (expression_shorter f)
expression_shorter (applied o e) = keeps (operand (takes_brackets o) _ _ (expression_shorter e))
expression_shorter (operation e o f) = operands (stands_between o) (operator_token o) _ _ _ _ (expression_shorter e) (expression_shorter f)
expression_shorter (conditional e f g) = choice _ _ _ _ _ _ (expression_shorter e) (expression_shorter f) (expression_shorter g)
expression_shorter (mapped e m p f) = keeps (mapped_so (maps_in_brackets m) (spell_pattern p) _ _ _ _ (expression_shorter e) (expression_shorter f))
expression_shorter (folded e o f p g) = keeps (brackets _ _ _ _ _ (expression_shorter e) (then _ _ _ _ (expression_shorter f) (keeps (mapping (spell_pattern p) _ _ (expression_shorter g)))))
expression_shorter (called g e) = keeps (keeps (operand true _ _ (expression_shorter e)))

function_shorter : (f : Function) → Shortens (spell_function versions.Two f) (spell_function versions.One f)
function_shorter (function p e) = mapping (spell_pattern p) _ _ (expression_shorter e)

primitive_shorter : (k : Primitive) → Shortens (spell_term versions.Two (primitive k)) (spell_term versions.One (primitive k))
primitive_shorter (bare k) = same _
primitive_shorter (probe k) = same _
primitive_shorter (never t) = keeps (type_shorter t)
primitive_shorter (with_value k e) = with_word (stands_initially k) (value_word k) _ _ (expression_shorter e)
primitive_shorter (timed k q e) = keeps (keeps (expression_shorter e))
primitive_shorter (selected k n) = same _
primitive_shorter (arrow f) = keeps (function_shorter f)
primitive_shorter (accumulated k e f) = keeps (brackets _ _ _ _ _ (expression_shorter e) (function_shorter f))
primitive_shorter (fused f) = none

mutual
  term_shorter : (t : Term) → Shortens (spell_term versions.Two t) (spell_term versions.One t)
  term_shorter (primitive k) = primitive_shorter k
  term_shorter (reference r) = reference_shorter r
  term_shorter (joined j f g) = brackets _ _ _ _ _ (term_shorter f) (term_shorter g)
  term_shorter (sided s f) = keeps (term_shorter f)
  term_shorter (headed h e f) = keeps (brackets _ _ _ _ _ (expression_shorter e) (term_shorter f))
  term_shorter (transformed h f) = keeps (brackets _ _ _ _ _ (function_shorter h) (term_shorter f))
  term_shorter (switching w f p g) = keeps (brackets _ _ _ _ _ (term_shorter f) (mapping (spell_pattern p) _ _ (term_shorter g)))
  term_shorter (continuing w f g k p u) = keeps (brackets _ _ _ _ _ (term_shorter f) (then _ _ _ _ (term_shorter g) (keeps (keeps (keeps (mapping (spell_pattern p) _ _ (term_shorter u)))))))
  term_shorter (gathered i) = keeps (collection_shorter i)
  term_shorter (releasing w i q k p u) = keeps (brackets _ _ _ _ _ (collection_shorter i) (then _ _ _ _ (term_shorter q) (keeps (keeps (keeps (mapping (spell_pattern p) _ _ (term_shorter u)))))))
  term_shorter (editing w i k p u) = keeps (brackets _ _ _ _ _ (collection_shorter i) (keeps (keeps (mapping (spell_pattern p) _ _ (collection_shorter u)))))
  term_shorter (staged x f g) = none

  collection_shorter : (i : Collection) → Shortens (spell_collection versions.Two i) (spell_collection versions.One i)
  collection_shorter (without_members int_keys t) = keeps (leaves (type_shorter t))
  collection_shorter (without_members text_keys t) = keeps (leaves (type_shorter t))
  collection_shorter (used x) = same _
  collection_shorter (added i e t) = keeps (brackets _ _ _ _ _ (collection_shorter i) (then _ _ _ _ (expression_shorter e) (keeps (term_shorter t))))
  collection_shorter (dropped i e) = keeps (brackets _ _ _ _ _ (collection_shorter i) (expression_shorter e))
  collection_shorter (kept i f) = keeps (brackets _ _ _ _ _ (collection_shorter i) (function_shorter f))
  collection_shorter (chosen e i j) = choice _ _ _ _ _ _ (expression_shorter e) (collection_shorter i) (collection_shorter j)

  reference_shorter : (r : Reference) → Shortens (spell_reference versions.Two r) (spell_reference versions.One r)
  reference_shorter (started w k) = same _
  reference_shorter (call g vs) = keeps (keeps (arguments_shorter vs))

  arguments_shorter : (vs : Arguments) → Shortens (spell_listed (spell_arguments versions.Two vs)) (spell_listed (spell_arguments versions.One vs))
  arguments_shorter no_arguments = same _
  arguments_shorter (value_argument e vs) = then _ _ _ _ (expression_shorter e) (further_shorter vs)
  arguments_shorter (process_argument t vs) = keeps (then _ _ _ _ (term_shorter t) (further_shorter vs))
  arguments_shorter (collection_argument i vs) = keeps (then _ _ _ _ (collection_shorter i) (further_shorter vs))
  arguments_shorter (closed_argument t vs) = further_shorter vs

  further_shorter : (vs : Arguments) → Shortens (spell_further (spell_arguments versions.Two vs)) (spell_further (spell_arguments versions.One vs))
  further_shorter no_arguments = same _
  further_shorter (value_argument e vs) = keeps (then _ _ _ _ (expression_shorter e) (further_shorter vs))
  further_shorter (process_argument t vs) = keeps (keeps (then _ _ _ _ (term_shorter t) (further_shorter vs)))
  further_shorter (collection_argument i vs) = keeps (keeps (then _ _ _ _ (collection_shorter i) (further_shorter vs)))
  further_shorter (closed_argument t vs) = keeps (further_shorter vs)

key_kind_shorter : (k : KeyKind) → Shortens (spell_key_kind versions.Two k) (spell_key_kind versions.One k)
key_kind_shorter int_keys = leaves (passes none)
key_kind_shorter text_keys = leaves (passes none)

name_kind_shorter : (k : NameKind) → Shortens (spell_name_kind versions.Two k) (spell_name_kind versions.One k)
name_kind_shorter (value t) = type_shorter t
name_kind_shorter (collection k t u) = keeps (then _ _ _ _ (key_kind_shorter k) (then _ _ _ _ (type_shorter t) (keeps (then _ _ _ _ (type_shorter u) (same _)))))
name_kind_shorter (process t u) = then _ _ _ _ (type_shorter t) (keeps (type_shorter u))

parameter_shorter : (q : Name × NameKind) → Shortens (spell_parameter versions.Two q) (spell_parameter versions.One q)
parameter_shorter q = keeps (keeps (name_kind_shorter q.1))

further_parameters_shorter : (qs : List (Name × NameKind)) → Shortens (spell_further (map (spell_parameter versions.Two) qs)) (spell_further (map (spell_parameter versions.One) qs))
further_parameters_shorter [] = same _
further_parameters_shorter (q ∷ qs) = keeps (then _ _ _ _ (parameter_shorter q) (further_parameters_shorter qs))

parameters_shorter : (qs : List (Name × NameKind)) → Shortens (spell_listed (map (spell_parameter versions.Two) qs)) (spell_listed (map (spell_parameter versions.One) qs))
parameters_shorter [] = same _
parameters_shorter (q ∷ qs) = then _ _ _ _ (parameter_shorter q) (further_parameters_shorter qs)

template_shorter : (t : Template) → Shortens (spell_template versions.Two t) (spell_template versions.One t)
template_shorter t =
    then _ _ _ _ (keeps (keeps (keeps (parameters_shorter t.parameters))))
    (then _ _ _ _ (keeps (then _ _ _ _ (type_shorter t.input) (keeps (then _ _ _ _ (type_shorter t.output) (same _))))) (then _ _ _ _ (term_shorter t.body) (same _)))

templates_shorter : (p : Templates) → Shortens (spell_templates versions.Two p) (spell_templates versions.One p)
templates_shorter [] = none
templates_shorter (t ∷ ts) = then _ _ _ _ (template_shorter t) (templates_shorter ts)

-- behind what stands in front of the templates
opened : (n : ℕ) (ts : List Tok) → is_narrow (pos n) ≡ true → All CanStand ts → All CanStand (keyword words.Network ∷ number (pos n) ∷ symbol symbols.Semicolon ∷ ts)
opened n ts e h =
    All-cons CanStand (keyword words.Network) (number (pos n) ∷ symbol symbols.Semicolon ∷ ts) tt
    (All-cons CanStand (number (pos n)) (symbol symbols.Semicolon ∷ ts) e (All-cons CanStand (symbol symbols.Semicolon) ts tt h))

behind_opening : (n : ℕ) (ts : List Tok) → All CanStand (keyword words.Network ∷ number (pos n) ∷ symbol symbols.Semicolon ∷ ts) → All CanStand ts
behind_opening n ts h =
    All-tail CanStand (symbol symbols.Semicolon) ts (All-tail CanStand (number (pos n)) (symbol symbols.Semicolon ∷ ts) (All-tail CanStand (keyword words.Network) (number (pos n) ∷ symbol symbols.Semicolon ∷ ts) h))

-- the tokens of a network can stand in texts of all versions, or of none
pub version_stands : (v w : Version) (p : Templates) → All CanStand (spell v p) → All CanStand (spell w p)
version_stands versions.One versions.One p h = h
version_stands versions.One versions.Two p h = opened 2 (spell_templates versions.Two p) refl (longer_stands (spell_templates versions.Two p) (spell_templates versions.One p) (templates_shorter p) (behind_opening 1 (spell_templates versions.One p) h))
version_stands versions.Two versions.One p h = opened 1 (spell_templates versions.One p) refl (shorter_stands (spell_templates versions.Two p) (spell_templates versions.One p) (templates_shorter p) (behind_opening 2 (spell_templates versions.Two p) h))
version_stands versions.Two versions.Two p h = h
