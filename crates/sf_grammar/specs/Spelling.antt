-- Networks, and the tokens that spell them.
use Rattle.std.specs.Prelude.{◌≡◌, ℕ, suc, max, Bool, true, false, IsTrue, ◌≤◌, pos, List, [], ◌∷◌, ◌++◌, map, ⊤, codes}
use Rattle.std.specs.List.{All, flat_map, sum_by}
use Rattle.sf_value.specs.Values.{Name, KeyKind, int_keys, text_keys, Kind, unit_kind, bool_kind, int_kind, text_kind, pair_kind, event_kind, table_kind, nodes}
use Rattle.sf_operator.specs.declared.operator.Unary.{Unary}
use Rattle.sf_operator.specs.declared.operator.Unary.TheVariants as unaries
use Rattle.sf_operator.specs.declared.operator.Operator.{Operator}
use Rattle.sf_operator.specs.declared.operator.Operator.TheVariants as operators
use Rattle.sf_operator.specs.declared.operator.Arithmetic.TheVariants as arithmetics
use Rattle.sf_operator.specs.declared.operator.Equality.TheVariants as equalities
use Rattle.sf_operator.specs.declared.operator.Comparison.TheVariants as comparisons
use Rattle.sf_operator.specs.declared.operator.Logic.TheVariants as logics
use Rattle.sf_operator.specs.declared.operator.Merge.TheVariants as merges
use Rattle.sf_operator.specs.declared.operator.Mapping.{Mapping}
use Rattle.sf_operator.specs.declared.operator.Mapping.TheVariants as mappings
use Rattle.sf_operator.specs.declared.operator.Folding.{Folding}
use Rattle.sf_operator.specs.declared.operator.Folding.TheVariants as foldings
use Rattle.sf_expr.specs.Expressions.{Pattern, unnamed, named, both, Literal, unit_literal, truth_literal, int_literal, text_literal, none_literal, Expression, variable, literal, paired, applied, operation, conditional, mapped, folded, called, Function, function}
use Rattle.sf_term.specs.declared.form.Bare.{Bare}
use Rattle.sf_term.specs.declared.form.Bare.TheVariants as bares
use Rattle.sf_term.specs.declared.form.WithValue.{WithValue}
use Rattle.sf_term.specs.declared.form.WithValue.TheVariants as values
use Rattle.sf_term.specs.declared.form.Timing.{Timing}
use Rattle.sf_term.specs.declared.form.Timing.TheVariants as timings
use Rattle.sf_term.specs.declared.form.Selection.{Selection}
use Rattle.sf_term.specs.declared.form.Selection.TheVariants as selections
use Rattle.sf_term.specs.declared.form.Accumulation.{Accumulation}
use Rattle.sf_term.specs.declared.form.Accumulation.TheVariants as accumulations
use Rattle.sf_term.specs.declared.form.Join.{Join}
use Rattle.sf_term.specs.declared.form.Join.TheVariants as joins
use Rattle.sf_term.specs.declared.form.Side.{Side}
use Rattle.sf_term.specs.declared.form.Side.TheVariants as sides
use Rattle.sf_term.specs.declared.form.Heading.{Heading}
use Rattle.sf_term.specs.declared.form.Heading.TheVariants as headings
use Rattle.sf_term.specs.declared.form.Switching.{Switching}
use Rattle.sf_term.specs.declared.form.Observation.{Observation}
use Rattle.sf_term.specs.declared.form.Observation.TheVariants as observations
use Rattle.sf_term.specs.declared.form.Switching.TheVariants as switches
use Rattle.sf_term.specs.declared.form.Start.{Start}
use Rattle.sf_term.specs.declared.form.Start.TheVariants as starts
use Rattle.sf_term.specs.declared.form.Naming.{Naming}
use Rattle.sf_term.specs.declared.form.Naming.TheVariants as namings
use Rattle.sf_term.specs.Parameters.{NameKind}
use Rattle.sf_term.specs.Parameters
use Rattle.sf_term.specs.Trees.{bare, probe, never, with_value, timed, selected, arrow, accumulated, fused, Term, primitive, reference, joined, sided, headed, transformed, switching, continuing, gathered, releasing, editing, staged, Collection, without_members, used, added, dropped, kept, chosen, Reference, started, call, Arguments, no_arguments, value_argument, process_argument, collection_argument, closed_argument, Template, Templates, term_depth, terms_in, expressions_in}
use Rattle.sf_lex.specs.declared.word.Keyword.{Keyword}
use Rattle.sf_lex.specs.declared.word.Keyword.TheVariants as words
use Rattle.sf_lex.specs.declared.symbol.Symbol.{Symbol}
use Rattle.sf_lex.specs.declared.symbol.Symbol.TheVariants as symbols
use Rattle.sf_lex.specs.Tokens.{Tok, keyword, name, number, text, symbol, Located}
use Rattle.sf_lex.specs.Cutting.{Lexes}
use Rattle.sf_grammar.specs.declared.ty.Version.{Version}
use Rattle.sf_grammar.specs.declared.ty.Version.TheVariants as versions

-- the word of a primitive without constants
abbrev pub bare_word : Bare → Keyword
bare_word bares.Identity = words.Identity
bare_word bares.LocalTime = words.LocalTime
bare_word bares.Integral = words.Integral
bare_word bares.Edge = words.Edge
bare_word bares.NotYet = words.NotYet
bare_word bares.Once = words.Once
bare_word bares.Count = words.Count
bare_word bares.Pre = words.Pre

-- the word of a primitive with a value
abbrev pub value_word : WithValue → Keyword
value_word values.Constant = words.Constant
value_word values.Initially = words.Initially
value_word values.InitialPre = words.IPre
value_word values.InitializedPre = words.Pre
value_word values.Now = words.Now
value_word values.InitialEdge = words.IEdge
value_word values.EdgeTag = words.EdgeTag
value_word values.Hold = words.Hold
value_word values.DelayedHold = words.DHold

-- whether the value stands in front of that word, in brackets behind `-->`; else it stands behind the word
abbrev pub stands_initially : WithValue → Bool
stands_initially values.Constant = false
stands_initially values.Initially = false
stands_initially values.InitialPre = false
stands_initially values.InitializedPre = true
stands_initially values.Now = false
stands_initially values.InitialEdge = false
stands_initially values.EdgeTag = false
stands_initially values.Hold = false
stands_initially values.DelayedHold = false

-- the word of a primitive with a time and a value
abbrev pub timing_word : Timing → Keyword
timing_word timings.After = words.After
timing_word timings.Repeatedly = words.Repeatedly
timing_word timings.Delay = words.Delay

-- the word of a primitive with a number of events
abbrev pub selection_word : Selection → Keyword
selection_word selections.TakeEvents = words.TakeEvents
selection_word selections.DropEvents = words.DropEvents

-- the word of a primitive with a value and a function
abbrev pub accumulation_word : Accumulation → Keyword
accumulation_word accumulations.EdgeBy = words.EdgeBy
accumulation_word accumulations.AccumBy = words.AccumBy
accumulation_word accumulations.AccumHoldBy = words.AccumHoldBy
accumulation_word accumulations.Scan = words.Sscan

-- the symbol between two terms that are joined
abbrev pub join_symbol : Join → Symbol
join_symbol joins.InSequence = symbols.InSequence
join_symbol joins.InParallel = symbols.InParallel
join_symbol joins.FannedOut = symbols.FannedOut

-- the word of a term on one part of a pair
abbrev pub side_word : Side → Keyword
side_word sides.First = words.First
side_word sides.Second = words.Second

-- the first token of a term with an expression at its head
abbrev pub heading_token : Heading → Tok
heading_token headings.LoopPre = keyword words.LoopPre
heading_token headings.Initialized = symbol symbols.Initially
heading_token headings.Replaced = symbol symbols.OnFirstInput
heading_token headings.Followed = keyword words.Fby

-- the word of a term that gives way to another
abbrev pub switching_word : Switching → Keyword
switching_word (switches.Basic observations.Immediate) = words.Switch
switching_word (switches.Basic observations.Delayed) = words.DSwitch
switching_word (switches.Recurring observations.Immediate) = words.RSwitch
switching_word (switches.Recurring observations.Delayed) = words.DrSwitch

-- the word of a term that gives way to another, which knows it by a name
abbrev pub continuing_word : Observation → Keyword
continuing_word observations.Immediate = words.KSwitch
continuing_word observations.Delayed = words.DkSwitch

-- the first token of a form that is a name alone: `fresh` is no keyword
abbrev pub naming_token : Naming → Tok
naming_token (namings.Process starts.Run) = keyword words.Run
naming_token (namings.Process starts.Fresh) = name (codes "fresh")
naming_token namings.Probe = keyword words.Probe

-- the word of an operator on one value
abbrev pub unary_word : Unary → Keyword
unary_word unaries.Not = words.Not
unary_word unaries.Event = words.EventOf
unary_word unaries.First = words.Fst
unary_word unaries.Second = words.Snd
unary_word unaries.IsEvent = words.IsEvent
unary_word unaries.Size = words.Size

-- whether the operand stands in brackets behind that word
abbrev pub takes_brackets : Unary → Bool
takes_brackets unaries.Not = false
takes_brackets unaries.Event = false
takes_brackets unaries.First = true
takes_brackets unaries.Second = true
takes_brackets unaries.IsEvent = true
takes_brackets unaries.Size = true

-- the token of an operator on two values
abbrev pub operator_token : Operator → Tok
operator_token (operators.Arithmetic arithmetics.Plus) = symbol symbols.Plus
operator_token (operators.Arithmetic arithmetics.Minus) = symbol symbols.Minus
operator_token (operators.Arithmetic arithmetics.Times) = symbol symbols.Times
operator_token (operators.Arithmetic arithmetics.Divide) = keyword words.Div
operator_token (operators.Arithmetic arithmetics.Modulo) = keyword words.Mod
operator_token (operators.Equality equalities.Equal) = symbol symbols.IsEqual
operator_token (operators.Equality equalities.Unequal) = symbol symbols.IsDifferent
operator_token (operators.Comparison comparisons.Less) = symbol symbols.Less
operator_token (operators.Comparison comparisons.AtMost) = symbol symbols.AtMost
operator_token (operators.Comparison comparisons.Greater) = symbol symbols.Greater
operator_token (operators.Comparison comparisons.AtLeast) = symbol symbols.AtLeast
operator_token (operators.Logic logics.And) = keyword words.And
operator_token (operators.Logic logics.Or) = keyword words.Or
operator_token operators.Tag = keyword words.Tag
operator_token operators.Attach = keyword words.Attach
operator_token operators.FromEvent = keyword words.FromEvent
operator_token operators.Gate = keyword words.Gate
operator_token (operators.Merge merges.Left) = keyword words.LMerge
operator_token (operators.Merge merges.Right) = keyword words.RMerge
operator_token (operators.Merge merges.Exclusive) = keyword words.Merge
operator_token operators.Get = keyword words.Get

-- whether that token stands between the operands; else it stands in front of them
abbrev pub stands_between : Operator → Bool
stands_between (operators.Arithmetic o) = true
stands_between (operators.Equality o) = true
stands_between (operators.Comparison o) = true
stands_between (operators.Logic o) = true
stands_between operators.Tag = false
stands_between operators.Attach = false
stands_between operators.FromEvent = false
stands_between operators.Gate = false
stands_between (operators.Merge m) = false
stands_between operators.Get = false

-- the word of a form with a value and a function
abbrev pub mapping_word : Mapping → Keyword
mapping_word mappings.Let = words.Let
mapping_word mappings.Filter = words.FilterE
mapping_word mappings.Map = words.MapE

-- whether the value and the function stand in brackets behind that word; else the pattern stands in front of the value
abbrev pub maps_in_brackets : Mapping → Bool
maps_in_brackets mappings.Let = false
maps_in_brackets mappings.Filter = true
maps_in_brackets mappings.Map = true

-- the word of a form with two values and a function
abbrev pub folding_word : Folding → Keyword
folding_word foldings.Match = words.Match
folding_word foldings.Merge = words.MergeBy
folding_word foldings.Fold = words.Fold

-- two parts in brackets, with a token between them
abbrev pub in_brackets : List Tok → Tok → List Tok → List Tok
in_brackets one between two = symbol symbols.Open ∷ (one ++ (between ∷ (two ++ (symbol symbols.Close ∷ []))))

-- a part, in brackets or not
abbrev pub spell_operand : Bool → List Tok → List Tok
spell_operand false part = part
spell_operand true part = symbol symbols.Open ∷ (part ++ (symbol symbols.Close ∷ []))

-- two operands in brackets with a token, which stands between them or in front
abbrev pub spell_operands : Bool → Tok → List Tok → List Tok → List Tok
spell_operands true t one two = in_brackets one t two
spell_operands false t one two = t ∷ in_brackets one (symbol symbols.Comma) two

-- a condition and two parts behind it
abbrev pub spell_choice : List Tok → List Tok → List Tok → List Tok
spell_choice condition one two = keyword words.If ∷ (condition ++ (keyword words.Then ∷ (one ++ (keyword words.Else ∷ two))))

-- a pattern and a body behind it
abbrev pub spell_mapping : List Tok → List Tok → List Tok
spell_mapping pattern body = pattern ++ (symbol symbols.MapsTo ∷ body)

-- a value, and the pattern and the body of a function, in brackets or not
abbrev pub spell_mapped_so : Bool → List Tok → List Tok → List Tok → List Tok
spell_mapped_so false value pattern body = pattern ++ (symbol symbols.Equals ∷ (value ++ (keyword words.In ∷ body)))
spell_mapped_so true value pattern body = in_brackets value (symbol symbols.Comma) (spell_mapping pattern body)

-- a form with a value, and the pattern and the body of its function
abbrev pub spell_mapped : Mapping → List Tok → List Tok → List Tok → List Tok
spell_mapped m value pattern body = keyword (mapping_word m) ∷ spell_mapped_so (maps_in_brackets m) value pattern body

-- a form with two values, and the pattern and the body of its function
abbrev pub spell_folded : Folding → List Tok → List Tok → List Tok → List Tok → List Tok
spell_folded o first second pattern body = keyword (folding_word o) ∷ in_brackets first (symbol symbols.Comma) (second ++ (symbol symbols.Comma ∷ spell_mapping pattern body))

-- two terms in brackets, a name, and the pattern and the body that knows the first by that name
abbrev pub spell_continuing : Observation → List Tok → List Tok → Name → List Tok → List Tok → List Tok
spell_continuing w source observer k pattern body = keyword (continuing_word w) ∷ in_brackets source (symbol symbols.Comma) (observer ++ (symbol symbols.Comma ∷ name k ∷ symbol symbols.Comma ∷ spell_mapping pattern body))

-- the word of members that give way to a term, and of members that are edited
abbrev pub releasing_word : Observation → Keyword
releasing_word observations.Immediate = words.PSwitchB
releasing_word observations.Delayed = words.DpSwitchB

abbrev pub editing_word : Observation → Keyword
editing_word observations.Immediate = words.RpSwitchB
editing_word observations.Delayed = words.DrpSwitchB

-- a call of a stored function by its name, and its argument
abbrev pub spell_called : Name → List Tok → List Tok
spell_called g argument = keyword words.Call ∷ name g ∷ spell_operand true argument

-- further parts of a list, each behind a comma, and the closing bracket
abbrev pub spell_further : List (List Tok) → List Tok
spell_further [] = symbol symbols.Close ∷ []
spell_further (x ∷ xs) = symbol symbols.Comma ∷ (x ++ spell_further xs)

-- the parts of a list with commas between them, and the closing bracket
abbrev pub spell_listed : List (List Tok) → List Tok
spell_listed [] = symbol symbols.Close ∷ []
spell_listed (x ∷ xs) = x ++ spell_further xs

-- only version 2 writes the type of the keys of a table
abbrev pub spell_keys : Version → KeyKind → List Tok
spell_keys versions.One k = []
spell_keys versions.Two int_keys = keyword words.Int ∷ []
spell_keys versions.Two text_keys = keyword words.Text ∷ []

abbrev pub spell_type : Version → Kind → List Tok
spell_type v unit_kind = keyword words.Unit ∷ []
spell_type v bool_kind = keyword words.Bool ∷ []
spell_type v int_kind = keyword words.Int ∷ []
spell_type v text_kind = keyword words.Text ∷ []
spell_type v (pair_kind t u) = in_brackets (spell_type v t) (symbol symbols.Comma) (spell_type v u)
spell_type v (event_kind t) = keyword words.Event ∷ spell_type v t
spell_type v (table_kind k t) = keyword words.Table ∷ (spell_keys v k ++ spell_type v t)

abbrev pub spell_pattern : Pattern → List Tok
spell_pattern unnamed = keyword words.Underscore ∷ []
spell_pattern (named x) = name x ∷ []
spell_pattern (both p q) = in_brackets (spell_pattern p) (symbol symbols.Comma) (spell_pattern q)

-- of no event, the type of the payload is written
abbrev pub spell_literal : Version → Literal → List Tok
spell_literal v unit_literal = symbol symbols.Open ∷ symbol symbols.Close ∷ []
spell_literal v (truth_literal true) = keyword words.True ∷ []
spell_literal v (truth_literal false) = keyword words.False ∷ []
spell_literal v (int_literal z) = number z ∷ []
spell_literal v (text_literal s) = text s ∷ []
spell_literal v (none_literal t) = keyword words.NoEvent ∷ spell_type v t

abbrev pub spell_expression : Version → Expression → List Tok
spell_expression v (variable x) = name x ∷ []
spell_expression v (literal l) = spell_literal v l
spell_expression v (paired e f) = in_brackets (spell_expression v e) (symbol symbols.Comma) (spell_expression v f)
spell_expression v (applied o e) = keyword (unary_word o) ∷ spell_operand (takes_brackets o) (spell_expression v e)
spell_expression v (operation e o f) = spell_operands (stands_between o) (operator_token o) (spell_expression v e) (spell_expression v f)
spell_expression v (conditional e f g) = spell_choice (spell_expression v e) (spell_expression v f) (spell_expression v g)
spell_expression v (mapped e m p f) = spell_mapped m (spell_expression v e) (spell_pattern p) (spell_expression v f)
spell_expression v (folded e o f p g) = spell_folded o (spell_expression v e) (spell_expression v f) (spell_pattern p) (spell_expression v g)
spell_expression v (called g e) = spell_called g (spell_expression v e)

abbrev pub spell_function : Version → Function → List Tok
spell_function v (function p e) = spell_mapping (spell_pattern p) (spell_expression v e)

-- a value, in front of a word or behind it
abbrev pub spell_value : Bool → Keyword → List Tok → List Tok
spell_value false word value = keyword word ∷ value
spell_value true word value = symbol symbols.Initially ∷ in_brackets value (symbol symbols.Comma) (keyword word ∷ [])

abbrev mutual
  -- the forms of plans stand in no text
  pub spell_term : Version → Term → List Tok
  spell_term v (primitive (bare k)) = keyword (bare_word k) ∷ []
  spell_term v (primitive (probe k)) = naming_token namings.Probe ∷ name k ∷ []
  spell_term v (primitive (never t)) = keyword words.Never ∷ spell_type v t
  spell_term v (primitive (with_value k e)) = spell_value (stands_initially k) (value_word k) (spell_expression v e)
  spell_term v (primitive (timed k q e)) = keyword (timing_word k) ∷ number q ∷ spell_expression v e
  spell_term v (primitive (selected k n)) = keyword (selection_word k) ∷ number n ∷ []
  spell_term v (primitive (arrow f)) = keyword words.Arr ∷ spell_function v f
  spell_term v (primitive (accumulated k e f)) = keyword (accumulation_word k) ∷ in_brackets (spell_expression v e) (symbol symbols.Comma) (spell_function v f)
  spell_term v (primitive (fused f)) = []
  spell_term v (reference r) = spell_reference v r
  spell_term v (joined j f g) = in_brackets (spell_term v f) (symbol (join_symbol j)) (spell_term v g)
  spell_term v (sided s f) = keyword (side_word s) ∷ spell_term v f
  spell_term v (headed h e f) = heading_token h ∷ in_brackets (spell_expression v e) (symbol symbols.Comma) (spell_term v f)
  spell_term v (transformed h f) = symbol symbols.MapsFirstInput ∷ in_brackets (spell_function v h) (symbol symbols.Comma) (spell_term v f)
  spell_term v (switching w f p g) = keyword (switching_word w) ∷ in_brackets (spell_term v f) (symbol symbols.Comma) (spell_mapping (spell_pattern p) (spell_term v g))
  spell_term v (continuing w f g k p u) = spell_continuing w (spell_term v f) (spell_term v g) k (spell_pattern p) (spell_term v u)
  spell_term v (gathered i) = keyword words.ParB ∷ spell_collection v i
  spell_term v (releasing w i q k p u) =
      keyword (releasing_word w) ∷ in_brackets (spell_collection v i) (symbol symbols.Comma) (spell_term v q ++ (symbol symbols.Comma ∷ name k ∷ symbol symbols.Comma ∷ spell_mapping (spell_pattern p) (spell_term v u)))
  spell_term v (editing w i k p u) =
      keyword (editing_word w) ∷ in_brackets (spell_collection v i) (symbol symbols.Comma) (name k ∷ symbol symbols.Comma ∷ spell_mapping (spell_pattern p) (spell_collection v u))
  spell_term v (staged x f g) = []

  -- a collection
  pub spell_collection : Version → Collection → List Tok
  spell_collection v (without_members k t) = keyword words.Empty ∷ (spell_keys v k ++ spell_type v t)
  spell_collection v (used x) = keyword words.Use ∷ name x ∷ []
  spell_collection v (added i e t) = keyword words.Add ∷ in_brackets (spell_collection v i) (symbol symbols.Comma) (spell_expression v e ++ (symbol symbols.Comma ∷ spell_term v t))
  spell_collection v (dropped i e) = keyword words.Drop ∷ in_brackets (spell_collection v i) (symbol symbols.Comma) (spell_expression v e)
  spell_collection v (kept i f) = keyword words.Keep ∷ in_brackets (spell_collection v i) (symbol symbols.Comma) (spell_function v f)
  spell_collection v (chosen e i j) = spell_choice (spell_expression v e) (spell_collection v i) (spell_collection v j)

  -- the name of a process behind where it begins, or that of a template with arguments in brackets
  pub spell_reference : Version → Reference → List Tok
  spell_reference v (started w k) = naming_token (namings.Process w) ∷ name k ∷ []
  spell_reference v (call g vs) = name g ∷ symbol symbols.Open ∷ spell_listed (spell_arguments v vs)

  -- arguments, one by one: an expression, a term behind `sf`, or a collection behind `col`
  pub spell_arguments : Version → Arguments → List (List Tok)
  spell_arguments v no_arguments = []
  spell_arguments v (value_argument e vs) = spell_expression v e ∷ spell_arguments v vs
  spell_arguments v (process_argument t vs) = (keyword words.SignalFunction ∷ spell_term v t) ∷ spell_arguments v vs
  spell_arguments v (collection_argument i vs) = (keyword words.Collection ∷ spell_collection v i) ∷ spell_arguments v vs
  spell_arguments v (closed_argument t vs) = [] ∷ spell_arguments v vs

-- only version 2 writes the type of a collection's keys
abbrev pub spell_key_kind : Version → KeyKind → List Tok
spell_key_kind versions.One k = []
spell_key_kind versions.Two k = spell_keys versions.Two k ++ (symbol symbols.Colon ∷ [])

-- what a name stands for: the type of a value, both types of a process, or those of a collection in brackets
abbrev pub spell_name_kind : Version → NameKind → List Tok
spell_name_kind v (Parameters.value t) = spell_type v t
spell_name_kind v (Parameters.process t u) = spell_type v t ++ (symbol symbols.Leads ∷ spell_type v u)
spell_name_kind v (Parameters.collection k t u) = symbol symbols.OpenBracket ∷ (spell_key_kind v k ++ (spell_type v t ++ (symbol symbols.Leads ∷ (spell_type v u ++ (symbol symbols.CloseBracket ∷ [])))))

-- a parameter of a template
abbrev pub spell_parameter : Version → Name × NameKind → List Tok
spell_parameter v q = name q.0 ∷ symbol symbols.Colon ∷ spell_name_kind v q.1

abbrev pub spell_heading : Version → Template → List Tok
spell_heading v t = keyword words.Template ∷ name t.name ∷ symbol symbols.Open ∷ spell_listed (map (spell_parameter v) t.parameters)

abbrev pub spell_signature : Version → Template → List Tok
spell_signature v t = symbol symbols.Colon ∷ (spell_type v t.input ++ (symbol symbols.Leads ∷ (spell_type v t.output ++ (symbol symbols.Equals ∷ []))))

abbrev pub spell_template : Version → Template → List Tok
spell_template v t = spell_heading v t ++ (spell_signature v t ++ (spell_term v t.body ++ (symbol symbols.Semicolon ∷ [])))

abbrev pub spell_templates : Version → Templates → List Tok
spell_templates v p = flat_map (spell_template v) p

-- the number of a version
abbrev pub version_number : Version → ℕ
version_number versions.One = 1
version_number versions.Two = 2

-- the tokens of a network
abbrev pub spell : Version → Templates → List Tok
spell v p = keyword words.Network ∷ number (pos (version_number v)) ∷ symbol symbols.Semicolon ∷ spell_templates v p

abbrev pub term_total : Templates → ℕ
term_total p = sum_by (λ (t : Template). terms_in t.body) p

abbrev pub expression_total : Templates → ℕ
expression_total p = sum_by (λ (t : Template). expressions_in t.body) p

-- how many types stand one inside another
abbrev pub type_depth : Kind → ℕ
type_depth unit_kind = 1
type_depth bool_kind = 1
type_depth int_kind = 1
type_depth text_kind = 1
type_depth (pair_kind t u) = suc (max (type_depth t) (type_depth u))
type_depth (event_kind t) = suc (type_depth t)
type_depth (table_kind k t) = suc (type_depth t)

-- a text of version 1 has tables with keys of type Int alone
abbrev pub WritesKeys : Version → KeyKind → Type 0
WritesKeys versions.One text_keys = ⊥
WritesKeys v k = ⊤

-- a text of the version has the tables of the type
abbrev pub WritesType : Version → Kind → Type 0
WritesType v (pair_kind t u) = WritesType v t × WritesType v u
WritesType v (event_kind t) = WritesType v t
WritesType v (table_kind k t) = WritesKeys v k × WritesType v t
WritesType v k = ⊤

-- a type that a text of the version has where so much depth is left: it is of at most 256 nodes
pub record IsWrittenType (v : Version) (d : ℕ) (k : Kind) : Type 0 where
  pub shallow : type_depth k ≤ d
  pub few : nodes k ≤ 256
  pub known : WritesType v k

-- a text of the version has the types in an expression, where so much depth is left
abbrev pub WritesExpression : Version → ℕ → Expression → Type 0
WritesExpression v (suc d) (literal (none_literal t)) = IsWrittenType v d t
WritesExpression v (suc d) (paired e f) = WritesExpression v d e × WritesExpression v d f
WritesExpression v (suc d) (applied o e) = WritesExpression v d e
WritesExpression v (suc d) (operation e o f) = WritesExpression v d e × WritesExpression v d f
WritesExpression v (suc d) (conditional e f g) = WritesExpression v d e × WritesExpression v d f × WritesExpression v d g
WritesExpression v (suc d) (mapped e m p f) = WritesExpression v d e × WritesExpression v d f
WritesExpression v (suc d) (folded e o f p g) = WritesExpression v d e × WritesExpression v d f × WritesExpression v d g
WritesExpression v (suc d) (called g e) = WritesExpression v d e
WritesExpression v d e = ⊤

abbrev pub WritesFunction : Version → ℕ → Function → Type 0
WritesFunction v d (function p e) = WritesExpression v d e

-- texts of version 2 alone have `fresh`
abbrev pub has_fresh : Version → Bool
has_fresh versions.One = false
has_fresh versions.Two = true

-- a text of the version has where a process begins
abbrev pub WritesStart : Version → Start → Type 0
WritesStart v starts.Run = ⊤
WritesStart v starts.Fresh = IsTrue (has_fresh v)

-- what a head makes with an expression and a term: behind `-->`, `pre` and the expression are one primitive
abbrev pub head_makes : Heading → Expression → Term → Term
head_makes headings.Initialized e (primitive (bare bares.Pre)) = primitive (with_value values.InitializedPre e)
head_makes h e f = headed h e f

abbrev mutual
  -- a text of the version has a term and the types in it, where so much depth is left
  pub WritesTerm : Version → ℕ → Term → Type 0
  WritesTerm v (suc d) (primitive (never t)) = IsWrittenType v d t
  WritesTerm v (suc d) (primitive (with_value k e)) = WritesExpression v d e
  WritesTerm v (suc d) (primitive (timed k q e)) = WritesExpression v d e
  WritesTerm v (suc d) (primitive (arrow f)) = WritesFunction v d f
  WritesTerm v (suc d) (primitive (accumulated k e f)) = WritesExpression v d e × WritesFunction v d f
  WritesTerm v (suc d) (reference r) = WritesReference v d r
  WritesTerm v (suc d) (joined j f g) = WritesTerm v d f × WritesTerm v d g
  WritesTerm v (suc d) (sided s f) = WritesTerm v d f
  WritesTerm v (suc d) (headed h e f) = (head_makes h e f ≡ headed h e f) × WritesExpression v d e × WritesTerm v d f
  WritesTerm v (suc d) (transformed h f) = WritesFunction v d h × WritesTerm v d f
  WritesTerm v (suc d) (switching w f p g) = WritesTerm v d f × WritesTerm v d g
  WritesTerm v (suc d) (continuing w f g k p u) = WritesTerm v d f × WritesTerm v d g × WritesTerm v d u
  WritesTerm v (suc d) (gathered i) = WritesCollection v d i
  WritesTerm v (suc d) (releasing w i q k p u) = WritesCollection v d i × WritesTerm v d q × WritesTerm v d u
  WritesTerm v (suc d) (editing w i k p u) = WritesCollection v d i × WritesCollection v d u
  WritesTerm v d t = ⊤

  -- the same of a collection
  pub WritesCollection : Version → ℕ → Collection → Type 0
  WritesCollection v (suc d) (without_members k t) = WritesKeys v k × IsWrittenType v d t
  WritesCollection v (suc d) (added i e t) = WritesCollection v d i × WritesExpression v d e × WritesTerm v d t
  WritesCollection v (suc d) (dropped i e) = WritesCollection v d i × WritesExpression v d e
  WritesCollection v (suc d) (kept i f) = WritesCollection v d i × WritesFunction v d f
  WritesCollection v (suc d) (chosen e i j) = WritesExpression v d e × WritesCollection v d i × WritesCollection v d j
  WritesCollection v d i = ⊤

  -- the same of what stands within a reference
  pub WritesReference : Version → ℕ → Reference → Type 0
  WritesReference v d (started w k) = WritesStart v w
  WritesReference v d (call g vs) = WritesArguments v d vs

  -- the same of arguments
  pub WritesArguments : Version → ℕ → Arguments → Type 0
  WritesArguments v d no_arguments = ⊤
  WritesArguments v d (value_argument e vs) = WritesExpression v d e × WritesArguments v d vs
  WritesArguments v d (process_argument t vs) = WritesTerm v d t × WritesArguments v d vs
  WritesArguments v d (collection_argument i vs) = WritesCollection v d i × WritesArguments v d vs
  WritesArguments v d (closed_argument t vs) = WritesArguments v d vs

-- a text of the version has the types of what a name stands for
abbrev pub WritesNameKind : Version → NameKind → Type 0
WritesNameKind v (Parameters.value t) = IsWrittenType v 64 t
WritesNameKind v (Parameters.process t u) = IsWrittenType v 64 t × IsWrittenType v 64 u
WritesNameKind v (Parameters.collection k t u) = WritesKeys v k × IsWrittenType v 64 t × IsWrittenType v 64 u

-- a text of the version has the types of a template
pub record HasWrittenTypes (v : Version) (t : Template) : Type 0 where
  pub parameters : All (λ (q : Name × NameKind). WritesNameKind v q.1) t.parameters
  pub input : IsWrittenType v 64 t.input
  pub output : IsWrittenType v 64 t.output
  pub body : WritesTerm v 64 t.body

-- at most 64 terms, expressions and patterns stand one inside another, there are at most 100,000 terms and 100,000 expressions, and a text of the version has the terms and the types that are written
pub record IsWithinLimits (v : Version) (p : Templates) : Type 0 where
  pub shallow : All (λ (t : Template). term_depth t.body ≤ 64) p
  pub typed : All (HasWrittenTypes v) p
  pub few_terms : term_total p ≤ 100000
  pub few_expressions : expression_total p ≤ 100000

-- the bytes are a text, of one of the versions, of the network with these templates
pub record IsNetworkText (bytes : List ℕ) (p : Templates) : Type 0 where
  pub version : Version
  pub located : List Located
  pub cut : Lexes bytes located
  pub spelled : map (λ (l : Located). l.token) located ≡ spell version p
  pub limited : IsWithinLimits version p
