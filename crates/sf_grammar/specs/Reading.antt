-- What reading a list of tokens from left to right gives.
use Rattle.std.specs.Prelude.{ℕ, zero, suc, ◌+◌, nat_le, nat_lt, Bool, true, false, pos, List, [], ◌∷◌, length, Option, Some, None, is_some, option_map, if◌then◌else◌, ◌&&◌, bytes_eq, codes, ℤ}
use Rattle.std.specs.Ordering.{int_eq}
use denote.Enum.Bare.{sameb}
use Rattle.sf_value.specs.Values.{Name, KeyKind, int_keys, text_keys, Kind, unit_kind, bool_kind, int_kind, text_kind, pair_kind, event_kind, table_kind, nodes}
use Rattle.sf_operator.specs.declared.operator.Unary.{Unary}
use Rattle.sf_operator.specs.declared.operator.Unary.TheVariants as unaries
use Rattle.sf_operator.specs.declared.operator.Operator.{Operator}
use Rattle.sf_operator.specs.declared.operator.Operator.TheVariants as operators
use Rattle.sf_operator.specs.declared.operator.Arithmetic.TheVariants as arithmetics
use Rattle.sf_operator.specs.declared.operator.Equality.TheVariants as equalities
use Rattle.sf_operator.specs.declared.operator.Comparison.TheVariants as comparisons
use Rattle.sf_operator.specs.declared.operator.Logic.TheVariants as logics
use Rattle.sf_operator.specs.declared.operator.Merge.TheVariants as merges
use Rattle.sf_operator.specs.declared.operator.Mapping.{Mapping}
use Rattle.sf_operator.specs.declared.operator.Mapping.TheVariants as mappings
use Rattle.sf_operator.specs.declared.operator.Folding.{Folding}
use Rattle.sf_operator.specs.declared.operator.Folding.TheVariants as foldings
use Rattle.sf_expr.specs.Expressions.{Pattern, unnamed, named, both, unit_literal, truth_literal, int_literal, text_literal, none_literal, Expression, variable, literal, paired, applied, operation, conditional, mapped, folded, called, size, Function, function, function_size}
use Rattle.sf_term.specs.declared.form.Bare.TheVariants as bares
use Rattle.sf_term.specs.declared.form.WithValue.{WithValue}
use Rattle.sf_term.specs.declared.form.WithValue.TheVariants as values
use Rattle.sf_term.specs.declared.form.Timing.{Timing}
use Rattle.sf_term.specs.declared.form.Timing.TheVariants as timings
use Rattle.sf_term.specs.declared.form.Selection.{Selection}
use Rattle.sf_term.specs.declared.form.Selection.TheVariants as selections
use Rattle.sf_term.specs.declared.form.Accumulation.{Accumulation}
use Rattle.sf_term.specs.declared.form.Accumulation.TheVariants as accumulations
use Rattle.sf_term.specs.declared.form.Join.{Join}
use Rattle.sf_term.specs.declared.form.Join.TheVariants as joins
use Rattle.sf_term.specs.declared.form.Side.{Side}
use Rattle.sf_term.specs.declared.form.Side.TheVariants as sides
use Rattle.sf_term.specs.declared.form.Heading.{Heading}
use Rattle.sf_term.specs.declared.form.Heading.TheVariants as headings
use Rattle.sf_term.specs.declared.form.Switching.{Switching}
use Rattle.sf_term.specs.declared.form.Observation.{Observation}
use Rattle.sf_term.specs.declared.form.Observation.TheVariants as observations
use Rattle.sf_term.specs.declared.form.Switching.TheVariants as switches
use Rattle.sf_term.specs.declared.form.Start.TheVariants as starts
use Rattle.sf_term.specs.declared.form.Naming.{Naming}
use Rattle.sf_term.specs.declared.form.Naming.TheVariants as namings
use Rattle.sf_term.specs.Parameters.{NameKind, Bindings}
use Rattle.sf_term.specs.Parameters
use Rattle.sf_term.specs.Trees.{Term, primitive, reference, joined, sided, transformed, switching, continuing, gathered, releasing, editing, Collection, without_members, used, added, dropped, kept, chosen, call, named_term, Arguments, no_arguments, value_argument, process_argument, collection_argument, bare, never, with_value, timed, selected, arrow, accumulated, Template, terms_in, terms_collected, expressions_in, expressions_collected}
use Rattle.sf_lex.specs.declared.word.Keyword.{Keyword}
use Rattle.sf_lex.specs.declared.word.Keyword.TheVariants as words
use Rattle.sf_lex.specs.declared.symbol.Symbol.{Symbol}
use Rattle.sf_lex.specs.declared.symbol.Symbol.TheVariants as symbols
use Rattle.sf_lex.specs.contracts.Symbol as symbol_type
use Rattle.sf_lex.specs.contracts.Keyword as keyword_type
use Rattle.sf_lex.specs.Tokens.{Tok, keyword, name, number, text, symbol}
use Rattle.sf_refusal.specs.declared.rule.Rule.{Rule}
use Rattle.sf_refusal.specs.declared.rule.Rule.TheVariants.{Unexpected, TooDeep, Version as NoVersion, WrittenTypeTooLarge, TooMany}
use Rattle.sf_grammar.specs.declared.ty.Version.{Version}
use Rattle.sf_grammar.specs.Spelling.{has_fresh, head_makes}
use Rattle.sf_grammar.specs.declared.ty.Version.TheVariants as versions
use Rattle.sf_grammar.specs.declared.ty.WordType.{WordType}
use Rattle.sf_grammar.specs.declared.ty.WordType.TheVariants as word_types
use Rattle.sf_grammar.specs.declared.ty.TypeHead.{TypeHead}
use Rattle.sf_grammar.specs.declared.ty.TypeHead.TheVariants as type_heads
use Rattle.sf_grammar.specs.declared.head.Head.{Head}
use Rattle.sf_grammar.specs.declared.head.Head.TheVariants as heads
use Rattle.sf_grammar.specs.declared.head.CollectionHead.{CollectionHead}
use Rattle.sf_grammar.specs.declared.head.CollectionHead.TheVariants as collection_heads
use Rattle.sf_grammar.specs.declared.head.ExpressionHead.{ExpressionHead}
use Rattle.sf_grammar.specs.declared.head.ExpressionHead.TheVariants as expression_heads
use Rattle.sf_grammar.specs.declared.head.Link.{Link}
use Rattle.sf_grammar.specs.declared.head.Link.TheVariants as links

-- what was read and the tokens behind it, or a fault and the tokens from there on
pub data Read (A : Type 0) : Type 0 where
  got : A → List Tok → Read A
  stop : Rule → List Tok → Read A

infixl 10 ◌and_then◌
abbrev pub ◌and_then◌ : {A B : Type 0} → Read A → (A → List Tok → Read B) → Read B
(got a rest) and_then f = f a rest
(stop fault at) and_then f = stop fault at

abbrev pub parse_symbol : Symbol → List Tok → Read (Unit {0})
parse_symbol wanted (symbol s ∷ rest) = if sameb symbol_type.the_type s wanted then got tt rest else stop Unexpected (symbol s ∷ rest)
parse_symbol wanted tokens = stop Unexpected tokens

abbrev pub parse_keyword : Keyword → List Tok → Read (Unit {0})
parse_keyword wanted (keyword k ∷ rest) = if sameb keyword_type.the_type k wanted then got tt rest else stop Unexpected (keyword k ∷ rest)
parse_keyword wanted tokens = stop Unexpected tokens

abbrev pub parse_name : List Tok → Read Name
parse_name (name n ∷ rest) = got n rest
parse_name tokens = stop Unexpected tokens

-- the versions are 1 and 2
abbrev pub parse_version : List Tok → Read Version
parse_version (number z ∷ rest) = if int_eq z (pos 1) then got versions.One rest else if int_eq z (pos 2) then got versions.Two rest else stop NoVersion (number z ∷ rest)
parse_version tokens = stop Unexpected tokens

-- a form is 65 deep at its first token
abbrev pub too_deep : {A : Type 0} → (Tok → Bool) → List Tok → Read A
too_deep begins [] = stop Unexpected []
too_deep begins (t ∷ rest) = if begins t then stop TooDeep (t ∷ rest) else stop Unexpected (t ∷ rest)

-- behind an opening bracket: a part, what stands between, a second part and the closing bracket, of which a whole is made
abbrev pub parse_parts : {A M B C : Type 0} → (List Tok → Read A) → (List Tok → Read M) → (A → List Tok → Read B) → (A → M → B → List Tok → Read C) → List Tok → Read C
parse_parts one between two whole tokens =
    one tokens and_then λ a rest.
    between rest and_then λ m rest.
    two a rest and_then λ b rest.
    parse_symbol symbols.Close rest and_then λ _ rest.
    whole a m b rest

-- a type is met at its first token, behind so many others: it may be one too many for the whole type, which begins at `start`
abbrev pub type_met : ℕ → List Tok → Read Kind → Read Kind
type_met met start read = if nat_lt met 256 then read else stop WrittenTypeTooLarge start

-- behind the opening bracket of a pair's type, which stands behind so many others, where the parts are read so
unfoldable pub parse_pair_type : (ℕ → List Tok → Read Kind) → ℕ → List Tok → Read Kind
parse_pair_type part met tokens = parse_parts (part (met + 1)) (parse_symbol symbols.Comma) (λ t. part (met + 1 + nodes t)) (λ t _ u rest. got (pair_kind t u) rest) tokens

-- what begins with a token within types
abbrev pub type_head : Tok → Option TypeHead
type_head (keyword words.Unit) = Some (type_heads.Word word_types.Unit)
type_head (keyword words.Bool) = Some (type_heads.Word word_types.Bool)
type_head (keyword words.Int) = Some (type_heads.Word word_types.Int)
type_head (keyword words.Text) = Some (type_heads.Word word_types.Text)
type_head (keyword words.Event) = Some type_heads.Event
type_head (keyword words.Table) = Some type_heads.Table
type_head (symbol symbols.Open) = Some type_heads.Pair
type_head _ = None

-- the type that is a word alone
abbrev pub word_kind : WordType → Kind
word_kind word_types.Unit = unit_kind
word_kind word_types.Bool = bool_kind
word_kind word_types.Int = int_kind
word_kind word_types.Text = text_kind

-- what stands of the keys behind the word of a table
abbrev pub parse_keys : Version → List Tok → Read KeyKind
parse_keys versions.One tokens = got int_keys tokens
parse_keys versions.Two (keyword words.Int ∷ rest) = got int_keys rest
parse_keys versions.Two (keyword words.Text ∷ rest) = got text_keys rest
parse_keys versions.Two tokens = stop Unexpected tokens

-- the part of a type that is made of one part, which stands behind so many others, where it is read so
unfoldable pub parse_outer_type : (ℕ → List Tok → Read Kind) → (Kind → Kind) → ℕ → List Tok → Read Kind
parse_outer_type part whole met tokens = part (met + 1) tokens and_then λ t rest. got (whole t) rest

-- behind the first token of a type, which stands behind so many others, where its parts are read so
abbrev pub parse_headed_type : (ℕ → List Tok → Read Kind) → Version → TypeHead → ℕ → List Tok → Read Kind
parse_headed_type part v (type_heads.Word w) met tokens = got (word_kind w) tokens
parse_headed_type part v type_heads.Event met tokens = parse_outer_type part event_kind met tokens
parse_headed_type part v type_heads.Table met tokens = parse_keys v tokens and_then λ k rest. parse_outer_type part (table_kind k) met rest
parse_headed_type part v type_heads.Pair met tokens = parse_pair_type part met tokens

abbrev pub type_from : (ℕ → List Tok → Read Kind) → Version → List Tok → ℕ → Option TypeHead → List Tok → List Tok → Read Kind
type_from part v start met (Some h) tokens rest = type_met met start (parse_headed_type part v h met rest)
type_from part v start met None tokens rest = stop Unexpected tokens

-- a type by its first token
abbrev pub parse_type_form : (ℕ → List Tok → Read Kind) → Version → List Tok → ℕ → List Tok → Read Kind
parse_type_form part v start met (t ∷ rest) = type_from part v start met (type_head t) (t ∷ rest) rest
parse_type_form part v start met [] = stop Unexpected []

abbrev pub begins_type : Tok → Bool
begins_type t = is_some (type_head t)

-- a type of so much depth at most, behind so many others, within the whole type that begins at `start`
unfoldable pub parse_inner_type : ℕ → Version → List Tok → ℕ → List Tok → Read Kind
parse_inner_type zero v start met tokens = too_deep begins_type tokens
parse_inner_type (suc left) v start met tokens = parse_type_form (parse_inner_type left v start) v start met tokens

-- a whole type
abbrev pub parse_type : Version → List Tok → Read Kind
parse_type v tokens = parse_inner_type 64 v tokens 0 tokens

-- what stands in front of the templates
unfoldable pub parse_opening : List Tok → Read Version
parse_opening tokens = parse_keyword words.Network tokens and_then λ _ rest. parse_version rest and_then λ v rest. parse_symbol symbols.Semicolon rest and_then λ _ rest. got v rest

-- behind a closing bracket, if it stands in front
abbrev pub behind_close : List Tok → Option (List Tok)
behind_close (symbol symbols.Close ∷ rest) = Some rest
behind_close _ = None

-- behind the symbol between two types of a process, if it stands in front
abbrev pub behind_leads : List Tok → Option (List Tok)
behind_leads (symbol symbols.Leads ∷ rest) = Some rest
behind_leads _ = None

-- what stands behind a part of a list: a comma, and so a further part, or the closing bracket
abbrev pub parse_separator : List Tok → Read Bool
parse_separator (symbol symbols.Comma ∷ rest) = got true rest
parse_separator (symbol symbols.Close ∷ rest) = got false rest
parse_separator tokens = stop Unexpected tokens

-- further parts, where they are read so, if there are any; else none
abbrev pub further_from : {A : Type 0} → A → (List Tok → Read A) → Bool → List Tok → Read A
further_from none parts true tokens = parts tokens
further_from none parts false tokens = got none tokens

-- what stands behind a part of a list
abbrev pub parse_further : {A : Type 0} → A → (List Tok → Read A) → List Tok → Read A
parse_further none parts tokens = parse_separator tokens and_then λ more rest. further_from none parts more rest

abbrev pub listed_read : {A : Type 0} → A → (List Tok → Read A) → Option (List Tok) → List Tok → Read A
listed_read none parts (Some rest) tokens = got none rest
listed_read none parts None tokens = parts tokens

-- behind the opening bracket of a list: the closing one, or parts, where they are read so
abbrev pub parse_listed : {A : Type 0} → A → (List Tok → Read A) → List Tok → Read A
parse_listed none parts tokens = listed_read none parts (behind_close tokens) tokens

abbrev pub parameter_kind_from : Version → Kind → Option (List Tok) → List Tok → Read NameKind
parameter_kind_from v t (Some rest) tokens = parse_type v rest and_then λ u rest. got (Parameters.process t u) rest
parameter_kind_from v t None tokens = got (Parameters.value t) tokens

-- what stands of the keys behind the bracket of a collection's types
abbrev pub parse_key_kind : Version → List Tok → Read KeyKind
parse_key_kind versions.One tokens = got int_keys tokens
parse_key_kind versions.Two tokens = parse_keys versions.Two tokens and_then λ k rest. parse_symbol symbols.Colon rest and_then λ _ rest. got k rest

-- behind the opening bracket of a collection's types: those of its keys, and of its members' inputs and outputs
unfoldable pub parse_collection_kind : Version → List Tok → Read NameKind
parse_collection_kind v tokens =
    parse_key_kind v tokens and_then λ k rest.
    parse_type v rest and_then λ t rest.
    parse_symbol symbols.Leads rest and_then λ _ rest.
    parse_type v rest and_then λ u rest.
    parse_symbol symbols.CloseBracket rest and_then λ _ rest.
    got (Parameters.collection k t u) rest

-- behind the bracket that begins a collection's types, if it stands in front
abbrev pub behind_list : List Tok → Option (List Tok)
behind_list (symbol symbols.OpenBracket ∷ rest) = Some rest
behind_list _ = None

abbrev pub parse_kind_from : Version → Option (List Tok) → List Tok → Read NameKind
parse_kind_from v (Some rest) tokens = parse_collection_kind v rest
parse_kind_from v None tokens = parse_type v tokens and_then λ t rest. parameter_kind_from v t (behind_leads rest) rest

-- what a parameter stands for: a value of a type, a process from a type to a type, or a collection of such processes
unfoldable pub parse_name_kind : Version → List Tok → Read NameKind
parse_name_kind v tokens = parse_kind_from v (behind_list tokens) tokens

unfoldable pub parse_parameter : Version → List Tok → Read (Name × NameKind)
parse_parameter v tokens = parse_name tokens and_then λ x rest. parse_symbol symbols.Colon rest and_then λ _ rest. parse_name_kind v rest and_then λ k rest. got (x, k) rest

-- parameters, so many at most, and the closing bracket behind them
unfoldable pub parse_parameters : ℕ → Version → List Tok → Read Bindings
parse_parameters zero v tokens = stop Unexpected tokens
parse_parameters (suc n) v tokens =
    parse_parameter v tokens and_then λ q rest.
    parse_further [] (parse_parameters n v) rest and_then λ qs rest.
    got (q ∷ qs) rest

-- a template's name and its parameters, which are fewer than the tokens
unfoldable pub parse_heading : Version → List Tok → Read (Name × Bindings)
parse_heading v tokens =
    parse_keyword words.Template tokens and_then λ _ rest.
    parse_name rest and_then λ n rest.
    parse_symbol symbols.Open rest and_then λ _ rest.
    parse_listed [] (λ tokens. parse_parameters (suc (length tokens)) v tokens) rest and_then λ qs rest.
    got (n, qs) rest

-- the types of a template's inputs and outputs
unfoldable pub parse_signature : Version → List Tok → Read (Kind × Kind)
parse_signature v tokens = parse_symbol symbols.Colon tokens and_then λ _ rest. parse_type v rest and_then λ input rest. parse_symbol symbols.Leads rest and_then λ _ rest. parse_type v rest and_then λ output rest. parse_symbol symbols.Equals rest and_then λ _ rest. got (input, output) rest

-- behind the opening bracket of a pattern for a pair
unfoldable pub parse_pattern_pair : (List Tok → Read Pattern) → List Tok → Read Pattern
parse_pattern_pair part tokens = parse_parts part (parse_symbol symbols.Comma) (λ _. part) (λ p _ q rest. got (both p q) rest) tokens

abbrev pub parse_pattern_form : (List Tok → Read Pattern) → List Tok → Read Pattern
parse_pattern_form part (keyword words.Underscore ∷ rest) = got unnamed rest
parse_pattern_form part (name n ∷ rest) = got (named n) rest
parse_pattern_form part (symbol symbols.Open ∷ rest) = parse_pattern_pair part rest
parse_pattern_form part tokens = stop Unexpected tokens

abbrev pub begins_pattern : Tok → Bool
begins_pattern (keyword words.Underscore) = true
begins_pattern (name n) = true
begins_pattern (symbol symbols.Open) = true
begins_pattern _ = false

-- a pattern of so much depth at most
unfoldable pub parse_pattern : ℕ → List Tok → Read Pattern
parse_pattern zero tokens = too_deep begins_pattern tokens
parse_pattern (suc left) tokens = parse_pattern_form (parse_pattern left) tokens

-- how many terms and expressions a program has already
pub record Counts : Type 0 where
  pub terms : ℕ
  pub expressions : ℕ

-- how many it has with an expression
abbrev pub counts_with_expression : Counts → Expression → Counts
counts_with_expression c e = record { terms = c.terms; expressions = c.expressions + size e }

-- how many it has with a function
abbrev pub counts_with_function : Counts → Function → Counts
counts_with_function c f = record { terms = c.terms; expressions = c.expressions + function_size f }

-- how many it has with a term
abbrev pub counted_term : Counts → Term → Counts
counted_term c t = record { terms = c.terms + terms_in t; expressions = c.expressions + expressions_in t }

-- how many it has with a collection
abbrev pub counts_with_collection : Counts → Collection → Counts
counts_with_collection c i = record { terms = c.terms + terms_collected i; expressions = c.expressions + expressions_collected i }

-- an expression was read to its end: it may be one too many
abbrev pub expression_read : Counts → Expression → List Tok → List Tok → Read Expression
expression_read c e start rest = if nat_le (c.expressions + size e) 100000 then got e rest else stop TooMany start

-- the operator that a token between two operands is
abbrev pub operator_of : Tok → Option Operator
operator_of (symbol symbols.Plus) = Some (operators.Arithmetic arithmetics.Plus)
operator_of (symbol symbols.Minus) = Some (operators.Arithmetic arithmetics.Minus)
operator_of (symbol symbols.Times) = Some (operators.Arithmetic arithmetics.Times)
operator_of (keyword words.Div) = Some (operators.Arithmetic arithmetics.Divide)
operator_of (keyword words.Mod) = Some (operators.Arithmetic arithmetics.Modulo)
operator_of (symbol symbols.IsEqual) = Some (operators.Equality equalities.Equal)
operator_of (symbol symbols.IsDifferent) = Some (operators.Equality equalities.Unequal)
operator_of (symbol symbols.Less) = Some (operators.Comparison comparisons.Less)
operator_of (symbol symbols.AtMost) = Some (operators.Comparison comparisons.AtMost)
operator_of (symbol symbols.Greater) = Some (operators.Comparison comparisons.Greater)
operator_of (symbol symbols.AtLeast) = Some (operators.Comparison comparisons.AtLeast)
operator_of (keyword words.And) = Some (operators.Logic logics.And)
operator_of (keyword words.Or) = Some (operators.Logic logics.Or)
operator_of _ = None

-- what makes one expression of the two in front of a token and behind it
abbrev pub link_of : Tok → Option Link
link_of (symbol symbols.Comma) = Some links.Pair
link_of t = option_map links.Operation (operator_of t)

abbrev pub link_read : Option Link → List Tok → List Tok → Read Link
link_read (Some l) start rest = got l rest
link_read None start rest = stop Unexpected start

abbrev pub parse_link : List Tok → Read Link
parse_link (t ∷ rest) = link_read (link_of t) (t ∷ rest) rest
parse_link [] = stop Unexpected []

-- the one expression of two
abbrev pub linked : Link → Expression → Expression → Expression
linked links.Pair e f = paired e f
linked (links.Operation o) e f = operation e o f

-- behind an opening bracket, with which `start` begins, where the parts are read so
unfoldable pub parse_linked : (Counts → List Tok → Read Expression) → Counts → List Tok → List Tok → Read Expression
parse_linked part c start tokens = parse_parts (part c) parse_link (λ e. part (counts_with_expression c e)) (λ e l f rest. expression_read c (linked l e f) start rest) tokens

-- behind an opening bracket, with which `start` begins: the closing one makes the only value of its type
abbrev pub bracketed_from : (Counts → List Tok → Read Expression) → Counts → Option (List Tok) → List Tok → List Tok → Read Expression
bracketed_from part c (Some rest) start tokens = expression_read c (literal unit_literal) start rest
bracketed_from part c None start tokens = parse_linked part c start tokens

-- behind `none`, with which `start` begins, where so much depth is left
unfoldable pub parse_none : ℕ → Version → Counts → List Tok → List Tok → Read Expression
parse_none left v c start tokens = parse_inner_type left v tokens 0 tokens and_then λ t rest. expression_read c (literal (none_literal t)) start rest

-- what a word begins within expressions
abbrev pub expression_head : Keyword → Option ExpressionHead
expression_head words.True = Some (expression_heads.Truth true)
expression_head words.False = Some (expression_heads.Truth false)
expression_head words.NoEvent = Some expression_heads.NoEvent
expression_head words.Not = Some (expression_heads.Prefixed unaries.Not)
expression_head words.EventOf = Some (expression_heads.Prefixed unaries.Event)
expression_head words.Fst = Some (expression_heads.OneInBrackets unaries.First)
expression_head words.Snd = Some (expression_heads.OneInBrackets unaries.Second)
expression_head words.IsEvent = Some (expression_heads.OneInBrackets unaries.IsEvent)
expression_head words.Size = Some (expression_heads.OneInBrackets unaries.Size)
expression_head words.Tag = Some (expression_heads.TwoInBrackets operators.Tag)
expression_head words.Attach = Some (expression_heads.TwoInBrackets operators.Attach)
expression_head words.FromEvent = Some (expression_heads.TwoInBrackets operators.FromEvent)
expression_head words.Gate = Some (expression_heads.TwoInBrackets operators.Gate)
expression_head words.LMerge = Some (expression_heads.TwoInBrackets (operators.Merge merges.Left))
expression_head words.RMerge = Some (expression_heads.TwoInBrackets (operators.Merge merges.Right))
expression_head words.Merge = Some (expression_heads.TwoInBrackets (operators.Merge merges.Exclusive))
expression_head words.Get = Some (expression_heads.TwoInBrackets operators.Get)
expression_head words.If = Some expression_heads.Conditional
expression_head words.Let = Some expression_heads.Let
expression_head words.FilterE = Some (expression_heads.OneAndFunction mappings.Filter)
expression_head words.MapE = Some (expression_heads.OneAndFunction mappings.Map)
expression_head words.Match = Some (expression_heads.TwoAndFunction foldings.Match)
expression_head words.MergeBy = Some (expression_heads.TwoAndFunction foldings.Merge)
expression_head words.Fold = Some (expression_heads.TwoAndFunction foldings.Fold)
expression_head words.Call = Some expression_heads.Called
expression_head _ = None

-- behind the word of an operator, with which `start` begins: the operand, where it is read so
unfoldable pub parse_prefixed : (Counts → List Tok → Read Expression) → Counts → Unary → List Tok → List Tok → Read Expression
parse_prefixed part c o start tokens = part c tokens and_then λ e rest. expression_read c (applied o e) start rest

-- behind the word of an operator, with which `start` begins: the operand in brackets
unfoldable pub parse_one_in_brackets : (Counts → List Tok → Read Expression) → Counts → Unary → List Tok → List Tok → Read Expression
parse_one_in_brackets part c o start tokens =
    parse_symbol symbols.Open tokens and_then λ _ rest.
    part c rest and_then λ e rest.
    parse_symbol symbols.Close rest and_then λ _ rest.
    expression_read c (applied o e) start rest

-- behind the word of an operator, with which `start` begins: the two operands in brackets
unfoldable pub parse_two_in_brackets : (Counts → List Tok → Read Expression) → Counts → Operator → List Tok → List Tok → Read Expression
parse_two_in_brackets part c o start tokens =
    parse_symbol symbols.Open tokens and_then λ _ rest.
    parse_parts (part c) (parse_symbol symbols.Comma) (λ e. part (counts_with_expression c e)) (λ e _ f rest. expression_read c (operation e o f) start rest) rest

-- behind `if`, with which `start` begins
unfoldable pub parse_conditional : (Counts → List Tok → Read Expression) → Counts → List Tok → List Tok → Read Expression
parse_conditional part c start tokens =
    part c tokens and_then λ e rest.
    parse_keyword words.Then rest and_then λ _ rest.
    part (counts_with_expression c e) rest and_then λ f rest.
    parse_keyword words.Else rest and_then λ _ rest.
    part (counts_with_expression (counts_with_expression c e) f) rest and_then λ g rest.
    expression_read c (conditional e f g) start rest

-- a function, whose pattern is of so much depth at most and whose body is read so
abbrev pub parse_mapping : ℕ → (Counts → List Tok → Read Expression) → Counts → List Tok → Read Function
parse_mapping left part c tokens =
    parse_pattern left tokens and_then λ p rest.
    parse_symbol symbols.MapsTo rest and_then λ _ rest.
    part c rest and_then λ e rest.
    got (function p e) rest

-- behind `let`, with which `start` begins, where the pattern is of so much depth at most
unfoldable pub parse_let : ℕ → (Counts → List Tok → Read Expression) → Counts → List Tok → List Tok → Read Expression
parse_let left part c start tokens =
    parse_pattern left tokens and_then λ p rest.
    parse_symbol symbols.Equals rest and_then λ _ rest.
    part c rest and_then λ e rest.
    parse_keyword words.In rest and_then λ _ rest.
    part (counts_with_expression c e) rest and_then λ f rest.
    expression_read c (mapped e mappings.Let p f) start rest

-- a form of a value and a function
abbrev pub mapped_by : Expression → Mapping → Function → Expression
mapped_by e m (function p f) = mapped e m p f

-- a form of two values and a function
abbrev pub folded_by : Expression → Folding → Expression → Function → Expression
folded_by e o f (function p g) = folded e o f p g

-- behind the word of a form, with which `start` begins: a value and a function in brackets
unfoldable pub parse_one_and_function : ℕ → (Counts → List Tok → Read Expression) → Counts → Mapping → List Tok → List Tok → Read Expression
parse_one_and_function left part c m start tokens =
    parse_symbol symbols.Open tokens and_then λ _ rest.
    parse_parts (part c) (parse_symbol symbols.Comma) (λ e. parse_mapping left part (counts_with_expression c e)) (λ e _ f rest. expression_read c (mapped_by e m f) start rest) rest

-- behind the word of a form, with which `start` begins: two values and a function in brackets
unfoldable pub parse_two_and_function : ℕ → (Counts → List Tok → Read Expression) → Counts → Folding → List Tok → List Tok → Read Expression
parse_two_and_function left part c o start tokens =
    parse_symbol symbols.Open tokens and_then λ _ rest.
    part c rest and_then λ e rest.
    parse_symbol symbols.Comma rest and_then λ _ rest.
    parse_parts (part (counts_with_expression c e)) (parse_symbol symbols.Comma) (λ f. parse_mapping left part (counts_with_expression (counts_with_expression c e) f)) (λ f _ g rest. expression_read c (folded_by e o f g) start rest) rest

-- behind `call`, with which `start` begins: a name and the argument in brackets
unfoldable pub parse_called : (Counts → List Tok → Read Expression) → Counts → List Tok → List Tok → Read Expression
parse_called part c start tokens =
    parse_name tokens and_then λ g rest.
    parse_symbol symbols.Open rest and_then λ _ rest.
    part c rest and_then λ e rest.
    parse_symbol symbols.Close rest and_then λ _ rest.
    expression_read c (called g e) start rest

-- behind the word of an expression, with which `start` begins
abbrev pub parse_worded_expression : ℕ → Version → (Counts → List Tok → Read Expression) → Counts → Option ExpressionHead → List Tok → List Tok → Read Expression
parse_worded_expression left v part c (Some (expression_heads.Truth b)) start tokens = expression_read c (literal (truth_literal b)) start tokens
parse_worded_expression left v part c (Some expression_heads.NoEvent) start tokens = parse_none left v c start tokens
parse_worded_expression left v part c (Some (expression_heads.Prefixed o)) start tokens = parse_prefixed part c o start tokens
parse_worded_expression left v part c (Some (expression_heads.OneInBrackets o)) start tokens = parse_one_in_brackets part c o start tokens
parse_worded_expression left v part c (Some (expression_heads.TwoInBrackets o)) start tokens = parse_two_in_brackets part c o start tokens
parse_worded_expression left v part c (Some expression_heads.Conditional) start tokens = parse_conditional part c start tokens
parse_worded_expression left v part c (Some expression_heads.Let) start tokens = parse_let left part c start tokens
parse_worded_expression left v part c (Some (expression_heads.OneAndFunction m)) start tokens = parse_one_and_function left part c m start tokens
parse_worded_expression left v part c (Some (expression_heads.TwoAndFunction o)) start tokens = parse_two_and_function left part c o start tokens
parse_worded_expression left v part c (Some expression_heads.Called) start tokens = parse_called part c start tokens
parse_worded_expression left v part c None start tokens = stop Unexpected start

-- an expression by its first token
abbrev pub parse_expression_form : ℕ → Version → (Counts → List Tok → Read Expression) → Counts → List Tok → Read Expression
parse_expression_form left v part c (name n ∷ rest) = expression_read c (variable n) (name n ∷ rest) rest
parse_expression_form left v part c (number z ∷ rest) = expression_read c (literal (int_literal z)) (number z ∷ rest) rest
parse_expression_form left v part c (text s ∷ rest) = expression_read c (literal (text_literal s)) (text s ∷ rest) rest
parse_expression_form left v part c (keyword k ∷ rest) = parse_worded_expression left v part c (expression_head k) (keyword k ∷ rest) rest
parse_expression_form left v part c (symbol symbols.Open ∷ rest) = bracketed_from part c (behind_close rest) (symbol symbols.Open ∷ rest) rest
parse_expression_form left v part c tokens = stop Unexpected tokens

abbrev pub begins_expression : Tok → Bool
begins_expression (name n) = true
begins_expression (number z) = true
begins_expression (text s) = true
begins_expression (keyword k) = is_some (expression_head k)
begins_expression (symbol symbols.Open) = true
begins_expression _ = false

-- an expression of so much depth at most
unfoldable pub parse_expression : ℕ → Version → Counts → List Tok → Read Expression
parse_expression zero v c tokens = too_deep begins_expression tokens
parse_expression (suc left) v c tokens = parse_expression_form left v (parse_expression left v) c tokens

-- a function, whose pattern and expression are of so much depth at most
unfoldable pub parse_function : ℕ → Version → Counts → List Tok → Read Function
parse_function left v c tokens = parse_mapping left (parse_expression left v) c tokens

-- a term was read to its end: it may be one too many
abbrev pub term_read : Counts → Term → List Tok → List Tok → Read Term
term_read c t start rest = if nat_le (c.terms + terms_in t) 100000 then got t rest else stop TooMany start

-- the form that a token begins
abbrev pub head_of : Tok → Option Head
head_of (keyword words.Identity) = Some (heads.Bare bares.Identity)
head_of (keyword words.LocalTime) = Some (heads.Bare bares.LocalTime)
head_of (keyword words.Integral) = Some (heads.Bare bares.Integral)
head_of (keyword words.Edge) = Some (heads.Bare bares.Edge)
head_of (keyword words.NotYet) = Some (heads.Bare bares.NotYet)
head_of (keyword words.Once) = Some (heads.Bare bares.Once)
head_of (keyword words.Count) = Some (heads.Bare bares.Count)
head_of (keyword words.Pre) = Some (heads.Bare bares.Pre)
head_of (keyword words.Constant) = Some (heads.WithValue values.Constant)
head_of (keyword words.Initially) = Some (heads.WithValue values.Initially)
head_of (keyword words.IPre) = Some (heads.WithValue values.InitialPre)
head_of (keyword words.Now) = Some (heads.WithValue values.Now)
head_of (keyword words.IEdge) = Some (heads.WithValue values.InitialEdge)
head_of (keyword words.EdgeTag) = Some (heads.WithValue values.EdgeTag)
head_of (keyword words.Hold) = Some (heads.WithValue values.Hold)
head_of (keyword words.DHold) = Some (heads.WithValue values.DelayedHold)
head_of (keyword words.After) = Some (heads.Timed timings.After)
head_of (keyword words.Repeatedly) = Some (heads.Timed timings.Repeatedly)
head_of (keyword words.Delay) = Some (heads.Timed timings.Delay)
head_of (keyword words.TakeEvents) = Some (heads.Selected selections.TakeEvents)
head_of (keyword words.DropEvents) = Some (heads.Selected selections.DropEvents)
head_of (keyword words.Never) = Some heads.Never
head_of (keyword words.Arr) = Some heads.Arrow
head_of (keyword words.EdgeBy) = Some (heads.Accumulated accumulations.EdgeBy)
head_of (keyword words.AccumBy) = Some (heads.Accumulated accumulations.AccumBy)
head_of (keyword words.AccumHoldBy) = Some (heads.Accumulated accumulations.AccumHoldBy)
head_of (keyword words.Sscan) = Some (heads.Accumulated accumulations.Scan)
head_of (keyword words.First) = Some (heads.Sided sides.First)
head_of (keyword words.Second) = Some (heads.Sided sides.Second)
head_of (keyword words.LoopPre) = Some (heads.Headed headings.LoopPre)
head_of (keyword words.Fby) = Some (heads.Headed headings.Followed)
head_of (symbol symbols.Open) = Some heads.Joined
head_of (symbol symbols.Initially) = Some (heads.Headed headings.Initialized)
head_of (symbol symbols.OnFirstInput) = Some (heads.Headed headings.Replaced)
head_of (symbol symbols.MapsFirstInput) = Some heads.Transformed
head_of (keyword words.Switch) = Some (heads.Switching (switches.Basic observations.Immediate))
head_of (keyword words.DSwitch) = Some (heads.Switching (switches.Basic observations.Delayed))
head_of (keyword words.RSwitch) = Some (heads.Switching (switches.Recurring observations.Immediate))
head_of (keyword words.DrSwitch) = Some (heads.Switching (switches.Recurring observations.Delayed))
head_of (keyword words.Run) = Some (heads.Named (namings.Process starts.Run))
head_of (keyword words.Probe) = Some (heads.Named namings.Probe)
head_of (keyword words.KSwitch) = Some (heads.Continuation observations.Immediate)
head_of (keyword words.DkSwitch) = Some (heads.Continuation observations.Delayed)
head_of (keyword words.ParB) = Some heads.Gathered
head_of (keyword words.PSwitchB) = Some (heads.Releasing observations.Immediate)
head_of (keyword words.DpSwitchB) = Some (heads.Releasing observations.Delayed)
head_of (keyword words.RpSwitchB) = Some (heads.Editing observations.Immediate)
head_of (keyword words.DrpSwitchB) = Some (heads.Editing observations.Delayed)
head_of (name n) = Some heads.Call
head_of _ = None

-- `fresh` in front of a name begins a process anew, in a text of a version that has it
abbrev pub begins_fresh : Version → List Tok → Bool
begins_fresh v (name w ∷ name k ∷ rest) = has_fresh v && bytes_eq w (codes "fresh")
begins_fresh v tokens = false

-- the form that tokens begin
abbrev pub tokens_head : Version → List Tok → Option Head
tokens_head v (t ∷ rest) = if begins_fresh v (t ∷ rest) then Some (heads.Named (namings.Process starts.Fresh)) else head_of t
tokens_head v [] = None

abbrev pub join_of : Symbol → Option Join
join_of symbols.InSequence = Some joins.InSequence
join_of symbols.InParallel = Some joins.InParallel
join_of symbols.FannedOut = Some joins.FannedOut
join_of _ = None

-- behind the word of a primitive with a value; `start` begins with that word
unfoldable pub parse_value : ℕ → Version → Counts → WithValue → List Tok → List Tok → Read Term
parse_value left v c k start tokens = parse_expression left v c tokens and_then λ e rest. term_read c (primitive (with_value k e)) start rest

-- a number
abbrev pub parse_number : List Tok → Read ℤ
parse_number (number z ∷ rest) = got z rest
parse_number tokens = stop Unexpected tokens

-- behind `never`, with which `start` begins, where so much depth is left
unfoldable pub parse_never : ℕ → Version → Counts → List Tok → List Tok → Read Term
parse_never left v c start tokens = parse_inner_type left v tokens 0 tokens and_then λ t rest. term_read c (primitive (never t)) start rest

-- behind the word of a primitive with a time and a value
unfoldable pub parse_timed : ℕ → Version → Counts → Timing → List Tok → List Tok → Read Term
parse_timed left v c k start tokens = parse_number tokens and_then λ q rest. parse_expression left v c rest and_then λ e behind. term_read c (primitive (timed k q e)) start behind

-- behind the word of a primitive with a number of events
unfoldable pub parse_selected : Counts → Selection → List Tok → List Tok → Read Term
parse_selected c k start tokens = parse_number tokens and_then λ n rest. term_read c (primitive (selected k n)) start rest

-- behind `arr`
unfoldable pub parse_arrow : ℕ → Version → Counts → List Tok → List Tok → Read Term
parse_arrow left v c start tokens = parse_function left v c tokens and_then λ f rest. term_read c (primitive (arrow f)) start rest

-- behind the word of a primitive with a value and a function
unfoldable pub parse_accumulated : ℕ → Version → Counts → Accumulation → List Tok → List Tok → Read Term
parse_accumulated left v c k start tokens =
    parse_symbol symbols.Open tokens and_then λ _ rest.
    parse_parts (parse_expression left v c) (parse_symbol symbols.Comma) (λ e. parse_function left v (counts_with_expression c e)) (λ e _ f rest. term_read c (primitive (accumulated k e f)) start rest) rest

-- behind the word of a term on one part of a pair, where that term is read so
unfoldable pub parse_sided : (Counts → List Tok → Read Term) → Counts → Side → List Tok → List Tok → Read Term
parse_sided part c s start tokens = part c tokens and_then λ f rest. term_read c (sided s f) start rest

-- behind the first token of a term with an expression at its head, where the expression and the term are read so
unfoldable pub parse_headed : ℕ → Version → (Counts → List Tok → Read Term) → Counts → Heading → List Tok → List Tok → Read Term
parse_headed left v part c h start tokens =
    parse_symbol symbols.Open tokens and_then λ _ rest.
    parse_parts (parse_expression left v c) (parse_symbol symbols.Comma) (λ e. part (counts_with_expression c e)) (λ e _ f rest. term_read c (head_makes h e f) start rest) rest

-- behind `>=-`, with which `start` begins: a function and a term in brackets, where the term is read so
unfoldable pub parse_transformed : ℕ → Version → (Counts → List Tok → Read Term) → Counts → List Tok → List Tok → Read Term
parse_transformed left v part c start tokens =
    parse_symbol symbols.Open tokens and_then λ _ rest.
    parse_parts (parse_function left v c) (parse_symbol symbols.Comma) (λ h. part (counts_with_function c h)) (λ h _ f rest. term_read c (transformed h f) start rest) rest

-- the body of a switch: a pattern of so much depth at most, and a term, where that is read so
abbrev pub parse_body : ℕ → (Counts → List Tok → Read Term) → Counts → List Tok → Read (Pattern × Term)
parse_body left part c tokens =
    parse_pattern left tokens and_then λ p rest.
    parse_symbol symbols.MapsTo rest and_then λ _ rest.
    part c rest and_then λ f rest.
    got (p, f) rest

-- behind the word of a term that gives way to another, where both are read so
unfoldable pub parse_switching : ℕ → (Counts → List Tok → Read Term) → Counts → Switching → List Tok → List Tok → Read Term
parse_switching left part c w start tokens =
    parse_symbol symbols.Open tokens and_then λ _ rest.
    parse_parts (part c) (parse_symbol symbols.Comma) (λ f. parse_body left part (counted_term c f)) (λ f _ b rest. term_read c (switching w f b.0 b.1) start rest) rest

-- behind the first token of a form that is a name alone
unfoldable pub parse_named : Naming → Counts → List Tok → List Tok → Read Term
parse_named w c start tokens = parse_name tokens and_then λ k rest. term_read c (named_term w k) start rest

-- the form of a collection that a token begins
abbrev pub collection_head : Tok → Option CollectionHead
collection_head (keyword words.Empty) = Some collection_heads.Empty
collection_head (keyword words.Use) = Some collection_heads.Used
collection_head (keyword words.Add) = Some collection_heads.Added
collection_head (keyword words.Drop) = Some collection_heads.Dropped
collection_head (keyword words.Keep) = Some collection_heads.Kept
collection_head (keyword words.If) = Some collection_heads.Chosen
collection_head _ = None

-- behind `empty`: the type of the values, in version 2 behind that of the keys, where so much depth is left
unfoldable pub parse_empty : ℕ → Version → List Tok → Read Collection
parse_empty left v tokens = parse_keys v tokens and_then λ k rest. parse_inner_type left v rest 0 rest and_then λ t behind. got (without_members k t) behind

-- behind `use`
unfoldable pub parse_used : List Tok → Read Collection
parse_used tokens = parse_name tokens and_then λ k rest. got (used k) rest

-- behind `add`: a collection, the key and the term that are added, where both are read so
unfoldable pub parse_added : ℕ → Version → (Counts → List Tok → Read Term) → (Counts → List Tok → Read Collection) → Counts → List Tok → Read Collection
parse_added left v part members c tokens =
    parse_symbol symbols.Open tokens and_then λ _ rest.
    members c rest and_then λ i rest.
    parse_symbol symbols.Comma rest and_then λ _ rest.
    parse_parts (parse_expression left v (counts_with_collection c i)) (parse_symbol symbols.Comma) (λ e. part (counts_with_expression (counts_with_collection c i) e)) (λ e _ t rest. got (added i e t) rest) rest

-- behind `drop`: a collection and a key
unfoldable pub parse_dropped : ℕ → Version → (Counts → List Tok → Read Collection) → Counts → List Tok → Read Collection
parse_dropped left v members c tokens =
    parse_symbol symbols.Open tokens and_then λ _ rest.
    parse_parts (members c) (parse_symbol symbols.Comma) (λ i. parse_expression left v (counts_with_collection c i)) (λ i _ e rest. got (dropped i e) rest) rest

-- behind `keep`: a collection and a function
unfoldable pub parse_kept : ℕ → Version → (Counts → List Tok → Read Collection) → Counts → List Tok → Read Collection
parse_kept left v members c tokens =
    parse_symbol symbols.Open tokens and_then λ _ rest.
    parse_parts (members c) (parse_symbol symbols.Comma) (λ i. parse_function left v (counts_with_collection c i)) (λ i _ f rest. got (kept i f) rest) rest

-- behind `if`: a condition, and a collection behind each of two words
unfoldable pub parse_chosen : ℕ → Version → (Counts → List Tok → Read Collection) → Counts → List Tok → Read Collection
parse_chosen left v members c tokens =
    parse_expression left v c tokens and_then λ e rest.
    parse_keyword words.Then rest and_then λ _ rest.
    members (counts_with_expression c e) rest and_then λ i rest.
    parse_keyword words.Else rest and_then λ _ rest.
    members (counts_with_collection (counts_with_expression c e) i) rest and_then λ j rest.
    got (chosen e i j) rest

-- behind the first token of a collection
abbrev pub parse_behind_collection_head : ℕ → Version → (Counts → List Tok → Read Term) → (Counts → List Tok → Read Collection) → Counts → Option CollectionHead → List Tok → List Tok → Read Collection
parse_behind_collection_head left v part members c (Some collection_heads.Empty) start tokens = parse_empty left v tokens
parse_behind_collection_head left v part members c (Some collection_heads.Used) start tokens = parse_used tokens
parse_behind_collection_head left v part members c (Some collection_heads.Added) start tokens = parse_added left v part members c tokens
parse_behind_collection_head left v part members c (Some collection_heads.Dropped) start tokens = parse_dropped left v members c tokens
parse_behind_collection_head left v part members c (Some collection_heads.Kept) start tokens = parse_kept left v members c tokens
parse_behind_collection_head left v part members c (Some collection_heads.Chosen) start tokens = parse_chosen left v members c tokens
parse_behind_collection_head left v part members c None start tokens = stop Unexpected start

-- a collection by its first token
abbrev pub parse_collection_form : ℕ → Version → (Counts → List Tok → Read Term) → (Counts → List Tok → Read Collection) → Counts → List Tok → Read Collection
parse_collection_form left v part members c (t ∷ rest) = parse_behind_collection_head left v part members c (collection_head t) (t ∷ rest) rest
parse_collection_form left v part members c [] = stop Unexpected []

abbrev pub begins_collection : Tok → Bool
begins_collection t = is_some (collection_head t)

-- behind `parB`, with which `start` begins, where the collection is read so
unfoldable pub parse_gathered : (Counts → List Tok → Read Collection) → Counts → List Tok → List Tok → Read Term
parse_gathered members c start tokens = members c tokens and_then λ i rest. term_read c (gathered i) start rest

-- behind the word of members that give way to a term, which knows them by a name, where all are read so
unfoldable pub parse_releasing : ℕ → (Counts → List Tok → Read Term) → (Counts → List Tok → Read Collection) → Counts → Observation → List Tok → List Tok → Read Term
parse_releasing left part members c w start tokens =
    parse_symbol symbols.Open tokens and_then λ _ rest.
    members c rest and_then λ i rest.
    parse_symbol symbols.Comma rest and_then λ _ rest.
    part (counts_with_collection c i) rest and_then λ q rest.
    parse_symbol symbols.Comma rest and_then λ _ rest.
    parse_parts parse_name (parse_symbol symbols.Comma) (λ _. parse_body left part (counted_term (counts_with_collection c i) q)) (λ k _ b rest. term_read c (releasing w i q k b.0 b.1) start rest) rest

-- an edit: a pattern of so much depth at most, and a collection, where that is read so
abbrev pub parse_edit : ℕ → (Counts → List Tok → Read Collection) → Counts → List Tok → Read (Pattern × Collection)
parse_edit left members c tokens =
    parse_pattern left tokens and_then λ p rest.
    parse_symbol symbols.MapsTo rest and_then λ _ rest.
    members c rest and_then λ i rest.
    got (p, i) rest

-- behind the word of members that are edited, where all are read so
unfoldable pub parse_editing : ℕ → (Counts → List Tok → Read Collection) → Counts → Observation → List Tok → List Tok → Read Term
parse_editing left members c w start tokens =
    parse_symbol symbols.Open tokens and_then λ _ rest.
    members c rest and_then λ i rest.
    parse_symbol symbols.Comma rest and_then λ _ rest.
    parse_parts parse_name (parse_symbol symbols.Comma) (λ _. parse_edit left members (counts_with_collection c i)) (λ k _ b rest. term_read c (editing w i k b.0 b.1) start rest) rest

-- an argument of a call: a value, a term that is a process, or a collection
pub data Actual : Type 0 where
  actual_value : Expression → Actual
  actual_process : Term → Actual
  actual_collection : Collection → Actual

-- arguments with one in front of them
abbrev pub leading_actual : Actual → Arguments → Arguments
leading_actual (actual_value e) vs = value_argument e vs
leading_actual (actual_process t) vs = process_argument t vs
leading_actual (actual_collection i) vs = collection_argument i vs

-- how many terms and expressions a program has with an argument
abbrev pub counts_with_actual : Counts → Actual → Counts
counts_with_actual c (actual_value e) = counts_with_expression c e
counts_with_actual c (actual_process t) = counted_term c t
counts_with_actual c (actual_collection i) = counts_with_collection c i

-- the word in front of an argument that is no value
pub data ArgumentWord : Type 0 where
  no_word : ArgumentWord
  process_word : ArgumentWord
  collection_word : ArgumentWord

-- the word that stands in front of an argument
abbrev pub argument_word : List Tok → ArgumentWord
argument_word (keyword words.SignalFunction ∷ rest) = process_word
argument_word (keyword words.Collection ∷ rest) = collection_word
argument_word _ = no_word

-- the tokens behind the first
abbrev pub behind_first : List Tok → List Tok
behind_first [] = []
behind_first (t ∷ rest) = rest

abbrev pub argument_from : ℕ → Version → (Counts → List Tok → Read Term) → (Counts → List Tok → Read Collection) → Counts → ArgumentWord → List Tok → Read Actual
argument_from left v part members c no_word tokens = parse_expression left v c tokens and_then λ e rest. got (actual_value e) rest
argument_from left v part members c process_word tokens = part c (behind_first tokens) and_then λ t rest. got (actual_process t) rest
argument_from left v part members c collection_word tokens = members c (behind_first tokens) and_then λ i rest. got (actual_collection i) rest

-- an argument, whose expression is of so much depth at most, and whose term or collection is read so
unfoldable pub parse_argument : ℕ → Version → (Counts → List Tok → Read Term) → (Counts → List Tok → Read Collection) → Counts → List Tok → Read Actual
parse_argument left v part members c tokens = argument_from left v part members c (argument_word tokens) tokens

-- arguments, so many at most, and the closing bracket behind them
unfoldable pub parse_arguments : ℕ → ℕ → Version → (Counts → List Tok → Read Term) → (Counts → List Tok → Read Collection) → Counts → List Tok → Read Arguments
parse_arguments zero left v part members c tokens = stop Unexpected tokens
parse_arguments (suc n) left v part members c tokens =
    parse_argument left v part members c tokens and_then λ a rest.
    parse_further no_arguments (parse_arguments n left v part members (counts_with_actual c a)) rest and_then λ vs rest.
    got (leading_actual a vs) rest

-- a call: a template's name and arguments, which are fewer than the tokens
unfoldable pub parse_call : ℕ → Version → (Counts → List Tok → Read Term) → (Counts → List Tok → Read Collection) → Counts → List Tok → Read Term
parse_call left v part members c start =
    parse_name start and_then λ g rest.
    parse_symbol symbols.Open rest and_then λ _ rest.
    parse_listed no_arguments (λ tokens. parse_arguments (suc (length tokens)) left v part members c tokens) rest and_then λ vs rest.
    term_read c (reference (call g vs)) start rest

-- behind the word of a term that gives way to another, which knows it by a name, where all are read so
unfoldable pub parse_continuing : ℕ → (Counts → List Tok → Read Term) → Counts → Observation → List Tok → List Tok → Read Term
parse_continuing left part c w start tokens =
    parse_symbol symbols.Open tokens and_then λ _ rest.
    part c rest and_then λ f rest.
    parse_symbol symbols.Comma rest and_then λ _ rest.
    part (counted_term c f) rest and_then λ g rest.
    parse_symbol symbols.Comma rest and_then λ _ rest.
    parse_parts parse_name (parse_symbol symbols.Comma) (λ _. parse_body left part (counted_term (counted_term c f) g)) (λ k _ b rest. term_read c (continuing w f g k b.0 b.1) start rest) rest

abbrev pub join_read : Option Join → Symbol → List Tok → Read Join
join_read (Some j) s rest = got j rest
join_read None s rest = stop Unexpected (symbol s ∷ rest)

abbrev pub parse_join : List Tok → Read Join
parse_join (symbol s ∷ rest) = join_read (join_of s) s rest
parse_join tokens = stop Unexpected tokens

-- behind an opening bracket, with which `start` begins, where the parts are read so
unfoldable pub parse_joined : (Counts → List Tok → Read Term) → Counts → List Tok → List Tok → Read Term
parse_joined part c start tokens = parse_parts (part c) parse_join (λ f. part (counted_term c f)) (λ f j g rest. term_read c (joined j f g) start rest) tokens

-- behind the first token of a form
abbrev pub parse_behind_head : ℕ → Version → (Counts → List Tok → Read Term) → (Counts → List Tok → Read Collection) → Counts → Option Head → List Tok → List Tok → Read Term
parse_behind_head left v part members c (Some (heads.Bare b)) start tokens = term_read c (primitive (bare b)) start tokens
parse_behind_head left v part members c (Some (heads.WithValue k)) start tokens = parse_value left v c k start tokens
parse_behind_head left v part members c (Some (heads.Timed k)) start tokens = parse_timed left v c k start tokens
parse_behind_head left v part members c (Some (heads.Selected k)) start tokens = parse_selected c k start tokens
parse_behind_head left v part members c (Some heads.Never) start tokens = parse_never left v c start tokens
parse_behind_head left v part members c (Some heads.Arrow) start tokens = parse_arrow left v c start tokens
parse_behind_head left v part members c (Some (heads.Accumulated k)) start tokens = parse_accumulated left v c k start tokens
parse_behind_head left v part members c (Some heads.Joined) start tokens = parse_joined part c start tokens
parse_behind_head left v part members c (Some (heads.Sided s)) start tokens = parse_sided part c s start tokens
parse_behind_head left v part members c (Some (heads.Headed h)) start tokens = parse_headed left v part c h start tokens
parse_behind_head left v part members c (Some heads.Transformed) start tokens = parse_transformed left v part c start tokens
parse_behind_head left v part members c (Some (heads.Switching w)) start tokens = parse_switching left part c w start tokens
parse_behind_head left v part members c (Some (heads.Named w)) start tokens = parse_named w c start tokens
parse_behind_head left v part members c (Some (heads.Continuation w)) start tokens = parse_continuing left part c w start tokens
parse_behind_head left v part members c (Some heads.Call) start tokens = parse_call left v part members c start
parse_behind_head left v part members c (Some heads.Gathered) start tokens = parse_gathered members c start tokens
parse_behind_head left v part members c (Some (heads.Releasing w)) start tokens = parse_releasing left part members c w start tokens
parse_behind_head left v part members c (Some (heads.Editing w)) start tokens = parse_editing left members c w start tokens
parse_behind_head left v part members c None start tokens = stop Unexpected start

-- a term by its first tokens
abbrev pub parse_form : ℕ → Version → (Counts → List Tok → Read Term) → (Counts → List Tok → Read Collection) → Counts → List Tok → Read Term
parse_form left v part members c (t ∷ rest) = parse_behind_head left v part members c (tokens_head v (t ∷ rest)) (t ∷ rest) rest
parse_form left v part members c [] = stop Unexpected []

abbrev pub begins_term : Tok → Bool
begins_term t = is_some (head_of t)

-- How terms and collections are read.
pub record PartReaders : Type 0 where
  pub term : Counts → List Tok → Read Term
  pub members : Counts → List Tok → Read Collection

-- those of so much depth at most
unfoldable pub parse_shallow : ℕ → Version → PartReaders
parse_shallow zero v = record { term = λ c tokens. too_deep begins_term tokens; members = λ c tokens. too_deep begins_collection tokens }
parse_shallow (suc left) v =
    let inner = parse_shallow left v in
    record { term = parse_form left v inner.term inner.members; members = parse_collection_form left v inner.term inner.members }

-- a term of so much depth at most
abbrev pub parse_term : ℕ → Version → Counts → List Tok → Read Term
parse_term left v = (parse_shallow left v).term

-- a collection of so much depth at most
abbrev pub parse_collection : ℕ → Version → Counts → List Tok → Read Collection
parse_collection left v = (parse_shallow left v).members

abbrev pub template_of : Name × Bindings → Kind × Kind → Term → Template
template_of h s t = record { name = h.0; parameters = h.1; input = s.0; output = s.1; body = t }

unfoldable pub parse_template : Version → Counts → List Tok → Read Template
parse_template v c tokens =
    parse_heading v tokens and_then λ h rest.
    parse_signature v rest and_then λ s rest.
    parse_term 64 v c rest and_then λ t rest.
    parse_symbol symbols.Semicolon rest and_then λ _ rest.
    got (template_of h s t) rest
