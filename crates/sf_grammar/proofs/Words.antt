-- Words and symbols, and the forms that they stand for.
use Rattle.std.proofs.Common.{◌≡◌, ℕ, suc, Bool, true, false, List, [], ◌∷◌, ◌++◌, Option, Some, None, option_map, refl, sym, ap, subst}
use Rattle.std.specs.Prelude.{◌&&◌, bytes_eq, codes}
use Rattle.std.proofs.lemmas.Slice.Eq.{bytes_eq-Decides}
use Rattle.sf_term.specs.declared.form.Bare.TheVariants as bares
use Rattle.sf_term.specs.declared.form.WithValue.TheVariants as values
use Rattle.sf_term.specs.declared.form.Timing.TheVariants as timings
use Rattle.sf_term.specs.declared.form.Selection.TheVariants as selections
use Rattle.sf_term.specs.declared.form.Accumulation.TheVariants as accumulations
use Rattle.sf_term.specs.declared.form.Join.{Join}
use Rattle.sf_term.specs.declared.form.Join.TheVariants as joins
use Rattle.sf_term.specs.declared.form.Side.TheVariants as sides
use Rattle.sf_term.specs.declared.form.Heading.{Heading}
use Rattle.sf_term.specs.declared.form.Heading.TheVariants as headings
use Rattle.sf_term.specs.declared.form.Observation.TheVariants as observations
use Rattle.sf_term.specs.declared.form.Switching.TheVariants as switches
use Rattle.sf_term.specs.declared.form.Start.{Start}
use Rattle.sf_term.specs.declared.form.Start.TheVariants as starts
use Rattle.sf_term.specs.declared.form.Naming.{Naming}
use Rattle.sf_term.specs.declared.form.Naming.TheVariants as namings
use Rattle.sf_term.specs.Trees.{named_term, term_depth, terms_in, expressions_in}
use Rattle.sf_operator.specs.declared.operator.Unary.{Unary}
use Rattle.sf_operator.specs.declared.operator.Unary.TheVariants as unaries
use Rattle.sf_operator.specs.declared.operator.Operator.{Operator}
use Rattle.sf_operator.specs.declared.operator.Operator.TheVariants as operators
use Rattle.sf_operator.specs.declared.operator.Arithmetic.TheVariants as arithmetics
use Rattle.sf_operator.specs.declared.operator.Equality.TheVariants as equalities
use Rattle.sf_operator.specs.declared.operator.Comparison.TheVariants as comparisons
use Rattle.sf_operator.specs.declared.operator.Logic.TheVariants as logics
use Rattle.sf_operator.specs.declared.operator.Merge.TheVariants as merges
use Rattle.sf_operator.specs.declared.operator.Mapping.{Mapping}
use Rattle.sf_operator.specs.declared.operator.Mapping.TheVariants as mappings
use Rattle.sf_operator.specs.declared.operator.Folding.{Folding}
use Rattle.sf_operator.specs.declared.operator.Folding.TheVariants as foldings
use Rattle.sf_expr.specs.Expressions.{unit_literal, truth_literal, int_literal, text_literal, none_literal, Expression, variable, literal, paired, applied, operation, conditional, mapped, folded, called}
use Rattle.sf_lex.specs.declared.word.Keyword.{Keyword}
use Rattle.sf_lex.specs.declared.word.Keyword.TheVariants as words
use Rattle.sf_lex.specs.declared.symbol.Symbol.{Symbol}
use Rattle.sf_lex.specs.declared.symbol.Symbol.TheVariants as symbols
use Rattle.sf_lex.specs.Tokens.{Tok, keyword, name, symbol}
use Rattle.sf_value.specs.Values.{Name, KeyKind, int_keys, text_keys, Kind, unit_kind, bool_kind, int_kind, text_kind, pair_kind, event_kind, table_kind, nodes}
use Rattle.sf_grammar.specs.declared.ty.Version.{Version}
use Rattle.sf_grammar.specs.declared.ty.Version.TheVariants as versions
use Rattle.sf_grammar.specs.declared.ty.WordType.{WordType}
use Rattle.sf_grammar.specs.declared.ty.WordType.TheVariants as word_types
use Rattle.sf_grammar.specs.declared.ty.TypeHead.{TypeHead}
use Rattle.sf_grammar.specs.declared.ty.TypeHead.TheVariants as type_heads
use Rattle.sf_grammar.specs.declared.head.Head.{Head}
use Rattle.sf_grammar.specs.declared.head.Head.TheVariants as heads
use Rattle.sf_grammar.specs.declared.head.ExpressionHead.{ExpressionHead}
use Rattle.sf_grammar.specs.declared.head.ExpressionHead.TheVariants as expression_heads
use Rattle.sf_grammar.specs.declared.head.Link.{Link}
use Rattle.sf_grammar.specs.declared.head.Link.TheVariants as links
use Rattle.sf_grammar.specs.declared.head.CollectionHead.{CollectionHead}
use Rattle.sf_grammar.specs.declared.head.CollectionHead.TheVariants as collection_heads
use Rattle.sf_grammar.specs.Spelling.{bare_word, value_word, stands_initially, timing_word, selection_word, accumulation_word, side_word, heading_token, switching_word, continuing_word, releasing_word, editing_word, naming_token, spell_term, has_fresh, WritesStart, WritesTerm, join_symbol, unary_word, takes_brackets, operator_token, stands_between, mapping_word, maps_in_brackets, folding_word, in_brackets, spell_operand, spell_operands, spell_mapping, spell_mapped_so, spell_pattern, spell_type, spell_keys, type_depth, WritesKeys, WritesType, spell_expression}
use Rattle.sf_grammar.specs.Reading.{head_of, begins_fresh, tokens_head, join_of, operator_of, link_of, expression_head, type_head, word_kind, got, parse_keys, behind_close, behind_leads, behind_list, behind_first, ArgumentWord, no_word, process_word, collection_word, argument_word, collection_head}

-- the first token of a form; a call begins with any name, of which this is one
abbrev pub head_token : Head → Tok
head_token (heads.Bare b) = keyword (bare_word b)
head_token (heads.WithValue v) = keyword (value_word v)
head_token (heads.Timed k) = keyword (timing_word k)
head_token (heads.Selected k) = keyword (selection_word k)
head_token heads.Never = keyword words.Never
head_token heads.Arrow = keyword words.Arr
head_token (heads.Accumulated k) = keyword (accumulation_word k)
head_token heads.Joined = symbol symbols.Open
head_token (heads.Sided s) = keyword (side_word s)
head_token (heads.Headed h) = heading_token h
head_token heads.Transformed = symbol symbols.MapsFirstInput
head_token (heads.Switching w) = keyword (switching_word w)
head_token (heads.Named w) = naming_token w
head_token (heads.Continuation w) = keyword (continuing_word w)
head_token heads.Gathered = keyword words.ParB
head_token (heads.Releasing w) = keyword (releasing_word w)
head_token (heads.Editing w) = keyword (editing_word w)
head_token heads.Call = name []

-- a form that is a name alone begins with a keyword
abbrev pub HasKeyword : Naming → Type 0
HasKeyword (namings.Process starts.Fresh) = ⊥
HasKeyword w = Unit {0}

-- the form begins with that token: a value stands behind its word, and `fresh` is none
abbrev pub BeginsSo : Head → Type 0
BeginsSo (heads.WithValue k) = stands_initially k ≡ false
BeginsSo (heads.Named w) = HasKeyword w
BeginsSo h = Unit {0}

pub head_again : (h : Head) → BeginsSo h → head_of (head_token h) ≡ Some h
head_again (heads.Bare bares.Identity) begins = refl
head_again (heads.Bare bares.LocalTime) begins = refl
head_again (heads.Bare bares.Integral) begins = refl
head_again (heads.Bare bares.Edge) begins = refl
head_again (heads.Bare bares.NotYet) begins = refl
head_again (heads.Bare bares.Once) begins = refl
head_again (heads.Bare bares.Count) begins = refl
head_again (heads.Bare bares.Pre) begins = refl
head_again (heads.WithValue values.Constant) begins = refl
head_again (heads.WithValue values.Initially) begins = refl
head_again (heads.WithValue values.InitialPre) begins = refl
head_again (heads.WithValue values.InitializedPre) begins = cc
head_again (heads.WithValue values.Now) begins = refl
head_again (heads.WithValue values.InitialEdge) begins = refl
head_again (heads.WithValue values.EdgeTag) begins = refl
head_again (heads.WithValue values.Hold) begins = refl
head_again (heads.WithValue values.DelayedHold) begins = refl
head_again (heads.Timed timings.After) begins = refl
head_again (heads.Timed timings.Repeatedly) begins = refl
head_again (heads.Timed timings.Delay) begins = refl
head_again (heads.Selected selections.TakeEvents) begins = refl
head_again (heads.Selected selections.DropEvents) begins = refl
head_again heads.Never begins = refl
head_again heads.Arrow begins = refl
head_again (heads.Accumulated accumulations.EdgeBy) begins = refl
head_again (heads.Accumulated accumulations.AccumBy) begins = refl
head_again (heads.Accumulated accumulations.AccumHoldBy) begins = refl
head_again (heads.Accumulated accumulations.Scan) begins = refl
head_again heads.Joined begins = refl
head_again (heads.Sided sides.First) begins = refl
head_again (heads.Sided sides.Second) begins = refl
head_again (heads.Headed headings.LoopPre) begins = refl
head_again (heads.Headed headings.Initialized) begins = refl
head_again (heads.Headed headings.Replaced) begins = refl
head_again (heads.Headed headings.Followed) begins = refl
head_again heads.Transformed begins = refl
head_again (heads.Switching (switches.Basic observations.Immediate)) begins = refl
head_again (heads.Switching (switches.Basic observations.Delayed)) begins = refl
head_again (heads.Switching (switches.Recurring observations.Immediate)) begins = refl
head_again (heads.Switching (switches.Recurring observations.Delayed)) begins = refl
head_again (heads.Named (namings.Process starts.Run)) begins = refl
head_again (heads.Named (namings.Process starts.Fresh)) begins = absurd begins
head_again (heads.Named namings.Probe) begins = refl
head_again (heads.Continuation observations.Immediate) begins = refl
head_again (heads.Continuation observations.Delayed) begins = refl
head_again heads.Gathered begins = refl
head_again (heads.Releasing observations.Immediate) begins = refl
head_again (heads.Releasing observations.Delayed) begins = refl
head_again (heads.Editing observations.Immediate) begins = refl
head_again (heads.Editing observations.Delayed) begins = refl
head_again heads.Call begins = refl

-- each form but a call has its own first token
abbrev pub HasOwnToken : Head → Type 0
HasOwnToken heads.Call = ⊥
HasOwnToken h = Unit {0}

-- a token is the first one of a form
pub record IsHeadToken (t : Tok) (h : Head) : Type 0 where
  pub token : t ≡ head_token h
  pub begins : BeginsSo h

head_as : (t : Tok) (g h : Head) → Some g ≡ Some h → t ≡ head_token g → BeginsSo g → IsHeadToken t h
head_as t g h same token begins = let p : g ≡ h = cc in subst (IsHeadToken t) p (record { token = token; begins = begins })

pub head_takes : (t : Tok) (h : Head) → HasOwnToken h → head_of t ≡ Some h → IsHeadToken t h
head_takes (keyword words.Identity) h own e = head_as (keyword words.Identity) (heads.Bare bares.Identity) h e refl tt
head_takes (keyword words.LocalTime) h own e = head_as (keyword words.LocalTime) (heads.Bare bares.LocalTime) h e refl tt
head_takes (keyword words.Integral) h own e = head_as (keyword words.Integral) (heads.Bare bares.Integral) h e refl tt
head_takes (keyword words.Edge) h own e = head_as (keyword words.Edge) (heads.Bare bares.Edge) h e refl tt
head_takes (keyword words.NotYet) h own e = head_as (keyword words.NotYet) (heads.Bare bares.NotYet) h e refl tt
head_takes (keyword words.Once) h own e = head_as (keyword words.Once) (heads.Bare bares.Once) h e refl tt
head_takes (keyword words.Count) h own e = head_as (keyword words.Count) (heads.Bare bares.Count) h e refl tt
head_takes (keyword words.Pre) h own e = head_as (keyword words.Pre) (heads.Bare bares.Pre) h e refl tt
head_takes (keyword words.Constant) h own e = head_as (keyword words.Constant) (heads.WithValue values.Constant) h e refl refl
head_takes (keyword words.Initially) h own e = head_as (keyword words.Initially) (heads.WithValue values.Initially) h e refl refl
head_takes (keyword words.IPre) h own e = head_as (keyword words.IPre) (heads.WithValue values.InitialPre) h e refl refl
head_takes (keyword words.Now) h own e = head_as (keyword words.Now) (heads.WithValue values.Now) h e refl refl
head_takes (keyword words.IEdge) h own e = head_as (keyword words.IEdge) (heads.WithValue values.InitialEdge) h e refl refl
head_takes (keyword words.EdgeTag) h own e = head_as (keyword words.EdgeTag) (heads.WithValue values.EdgeTag) h e refl refl
head_takes (keyword words.Hold) h own e = head_as (keyword words.Hold) (heads.WithValue values.Hold) h e refl refl
head_takes (keyword words.DHold) h own e = head_as (keyword words.DHold) (heads.WithValue values.DelayedHold) h e refl refl
head_takes (keyword words.After) h own e = head_as (keyword words.After) (heads.Timed timings.After) h e refl tt
head_takes (keyword words.Repeatedly) h own e = head_as (keyword words.Repeatedly) (heads.Timed timings.Repeatedly) h e refl tt
head_takes (keyword words.Delay) h own e = head_as (keyword words.Delay) (heads.Timed timings.Delay) h e refl tt
head_takes (keyword words.TakeEvents) h own e = head_as (keyword words.TakeEvents) (heads.Selected selections.TakeEvents) h e refl tt
head_takes (keyword words.DropEvents) h own e = head_as (keyword words.DropEvents) (heads.Selected selections.DropEvents) h e refl tt
head_takes (keyword words.Never) h own e = head_as (keyword words.Never) heads.Never h e refl tt
head_takes (keyword words.Arr) h own e = head_as (keyword words.Arr) heads.Arrow h e refl tt
head_takes (keyword words.EdgeBy) h own e = head_as (keyword words.EdgeBy) (heads.Accumulated accumulations.EdgeBy) h e refl tt
head_takes (keyword words.AccumBy) h own e = head_as (keyword words.AccumBy) (heads.Accumulated accumulations.AccumBy) h e refl tt
head_takes (keyword words.AccumHoldBy) h own e = head_as (keyword words.AccumHoldBy) (heads.Accumulated accumulations.AccumHoldBy) h e refl tt
head_takes (keyword words.Sscan) h own e = head_as (keyword words.Sscan) (heads.Accumulated accumulations.Scan) h e refl tt
head_takes (symbol symbols.Open) h own e = head_as (symbol symbols.Open) heads.Joined h e refl tt
head_takes (keyword words.First) h own e = head_as (keyword words.First) (heads.Sided sides.First) h e refl tt
head_takes (keyword words.Second) h own e = head_as (keyword words.Second) (heads.Sided sides.Second) h e refl tt
head_takes (keyword words.LoopPre) h own e = head_as (keyword words.LoopPre) (heads.Headed headings.LoopPre) h e refl tt
head_takes (symbol symbols.Initially) h own e = head_as (symbol symbols.Initially) (heads.Headed headings.Initialized) h e refl tt
head_takes (symbol symbols.OnFirstInput) h own e = head_as (symbol symbols.OnFirstInput) (heads.Headed headings.Replaced) h e refl tt
head_takes (keyword words.Fby) h own e = head_as (keyword words.Fby) (heads.Headed headings.Followed) h e refl tt
head_takes (symbol symbols.MapsFirstInput) h own e = head_as (symbol symbols.MapsFirstInput) heads.Transformed h e refl tt
head_takes (keyword words.Switch) h own e = head_as (keyword words.Switch) (heads.Switching (switches.Basic observations.Immediate)) h e refl tt
head_takes (keyword words.DSwitch) h own e = head_as (keyword words.DSwitch) (heads.Switching (switches.Basic observations.Delayed)) h e refl tt
head_takes (keyword words.RSwitch) h own e = head_as (keyword words.RSwitch) (heads.Switching (switches.Recurring observations.Immediate)) h e refl tt
head_takes (keyword words.DrSwitch) h own e = head_as (keyword words.DrSwitch) (heads.Switching (switches.Recurring observations.Delayed)) h e refl tt
head_takes (keyword words.Run) h own e = head_as (keyword words.Run) (heads.Named (namings.Process starts.Run)) h e refl tt
head_takes (keyword words.Probe) h own e = head_as (keyword words.Probe) (heads.Named namings.Probe) h e refl tt
head_takes (keyword words.KSwitch) h own e = head_as (keyword words.KSwitch) (heads.Continuation observations.Immediate) h e refl tt
head_takes (keyword words.DkSwitch) h own e = head_as (keyword words.DkSwitch) (heads.Continuation observations.Delayed) h e refl tt
head_takes (keyword words.ParB) h own e = head_as (keyword words.ParB) heads.Gathered h e refl tt
head_takes (keyword words.PSwitchB) h own e = head_as (keyword words.PSwitchB) (heads.Releasing observations.Immediate) h e refl tt
head_takes (keyword words.DpSwitchB) h own e = head_as (keyword words.DpSwitchB) (heads.Releasing observations.Delayed) h e refl tt
head_takes (keyword words.RpSwitchB) h own e = head_as (keyword words.RpSwitchB) (heads.Editing observations.Immediate) h e refl tt
head_takes (keyword words.DrpSwitchB) h own e = head_as (keyword words.DrpSwitchB) (heads.Editing observations.Delayed) h e refl tt
head_takes (name n) h own e = absurd (let p : heads.Call ≡ h = cc in subst HasOwnToken (sym p) own)
head_takes _ h own e = cc

-- the form with an expression at its head begins again, whatever follows
pub heading_begins : (v : Version) (h : Heading) (rest : List Tok) → tokens_head v (heading_token h ∷ rest) ≡ Some (heads.Headed h)
heading_begins v headings.LoopPre rest = refl
heading_begins v headings.Initialized rest = refl
heading_begins v headings.Replaced rest = refl
heading_begins v headings.Followed rest = refl

-- a process begins again where it is written to begin
pub start_again : (v : Version) (w : Start) (k : Name) (rest : List Tok) → WritesStart v w → tokens_head v (naming_token (namings.Process w) ∷ name k ∷ rest) ≡ Some (heads.Named (namings.Process w))
start_again v starts.Run k rest written = refl
start_again versions.One starts.Fresh k rest written = absurd cc
start_again versions.Two starts.Fresh k rest written = refl

-- `fresh` in front of a name, in a text that has it
pub record IsFresh (v : Version) (t : Tok) : Type 0 where
  pub token : t ≡ naming_token (namings.Process starts.Fresh)
  pub written : WritesStart v starts.Fresh

fresh_name : (v : Version) (w : Name) (has same : Bool) → has_fresh v ≡ has → bytes_eq w (codes "fresh") ≡ same → has && same ≡ true → IsFresh v (name w)
fresh_name v w true true has same e = record { token = ap name ((bytes_eq-Decides w (codes "fresh")).0 same); written = has }
fresh_name v w true false has same e = cc
fresh_name v w false _ has same e = cc

pub fresh_takes : (v : Version) (t : Tok) (rest : List Tok) → begins_fresh v (t ∷ rest) ≡ true → IsFresh v t
fresh_takes v (name w) (name k ∷ rest) e = fresh_name v w (has_fresh v) (bytes_eq w (codes "fresh")) refl refl e
fresh_takes v _ _ e = cc

-- a form that is a name alone is one term, of its first token and its name
pub record IsLone (v : Version) (w : Naming) (k : Name) : Type 0 where
  pub spelled : spell_term v (named_term w k) ≡ naming_token w ∷ name k ∷ []
  pub depth : term_depth (named_term w k) ≡ 1
  pub terms : terms_in (named_term w k) ≡ 1
  pub expressions : expressions_in (named_term w k) ≡ 0

pub named_alone : (v : Version) (w : Naming) (k : Name) → IsLone v w k
named_alone v (namings.Process w) k = record { spelled = refl; depth = refl; terms = refl; expressions = refl }
named_alone v namings.Probe k = record { spelled = refl; depth = refl; terms = refl; expressions = refl }

-- each version has the forms that begin with a keyword
pub keyword_written : (v : Version) (w : Naming) (d : ℕ) (k : Name) → HasKeyword w → WritesTerm v (suc d) (named_term w k)
keyword_written v (namings.Process starts.Run) d k begins = tt
keyword_written v (namings.Process starts.Fresh) d k begins = absurd begins
keyword_written v namings.Probe d k begins = tt

pub join_again : (j : Join) → join_of (join_symbol j) ≡ Some j
join_again joins.InSequence = refl
join_again joins.InParallel = refl
join_again joins.FannedOut = refl

pub join_takes : (s : Symbol) (j : Join) → join_of s ≡ Some j → s ≡ join_symbol j
join_takes symbols.InSequence j e = let p : joins.InSequence ≡ j = cc in rw (← p) refl
join_takes symbols.InParallel j e = let p : joins.InParallel ≡ j = cc in rw (← p) refl
join_takes symbols.FannedOut j e = let p : joins.FannedOut ≡ j = cc in rw (← p) refl
join_takes _ j e = cc

-- the token between two expressions
abbrev pub link_token : Link → Tok
link_token links.Pair = symbol symbols.Comma
link_token (links.Operation o) = operator_token o

-- it stands there, in a text
abbrev pub LinksBetween : Link → Type 0
LinksBetween links.Pair = Unit {0}
LinksBetween (links.Operation o) = stands_between o ≡ true

pub link_again : (l : Link) → LinksBetween l → link_of (link_token l) ≡ Some l
link_again links.Pair between = refl
link_again (links.Operation (operators.Arithmetic arithmetics.Plus)) between = refl
link_again (links.Operation (operators.Arithmetic arithmetics.Minus)) between = refl
link_again (links.Operation (operators.Arithmetic arithmetics.Times)) between = refl
link_again (links.Operation (operators.Arithmetic arithmetics.Divide)) between = refl
link_again (links.Operation (operators.Arithmetic arithmetics.Modulo)) between = refl
link_again (links.Operation (operators.Equality equalities.Equal)) between = refl
link_again (links.Operation (operators.Equality equalities.Unequal)) between = refl
link_again (links.Operation (operators.Comparison comparisons.Less)) between = refl
link_again (links.Operation (operators.Comparison comparisons.AtMost)) between = refl
link_again (links.Operation (operators.Comparison comparisons.Greater)) between = refl
link_again (links.Operation (operators.Comparison comparisons.AtLeast)) between = refl
link_again (links.Operation (operators.Logic logics.And)) between = refl
link_again (links.Operation (operators.Logic logics.Or)) between = refl
link_again (links.Operation _) between = cc

-- a token between two expressions is that of a link
pub record IsLinkToken (t : Tok) (l : Link) : Type 0 where
  pub token : t ≡ link_token l
  pub between : LinksBetween l

operator_as : (t : Tok) (o p : Operator) → Some o ≡ Some p → t ≡ operator_token o → stands_between o ≡ true → IsLinkToken t (links.Operation p)
operator_as t o p same token between = let q : o ≡ p = cc in subst (λ (p : Operator). IsLinkToken t (links.Operation p)) q (record { token = token; between = between })

operator_takes : (t : Tok) (o : Operator) → operator_of t ≡ Some o → IsLinkToken t (links.Operation o)
operator_takes (symbol symbols.Plus) o e = operator_as (symbol symbols.Plus) (operators.Arithmetic arithmetics.Plus) o e refl refl
operator_takes (symbol symbols.Minus) o e = operator_as (symbol symbols.Minus) (operators.Arithmetic arithmetics.Minus) o e refl refl
operator_takes (symbol symbols.Times) o e = operator_as (symbol symbols.Times) (operators.Arithmetic arithmetics.Times) o e refl refl
operator_takes (keyword words.Div) o e = operator_as (keyword words.Div) (operators.Arithmetic arithmetics.Divide) o e refl refl
operator_takes (keyword words.Mod) o e = operator_as (keyword words.Mod) (operators.Arithmetic arithmetics.Modulo) o e refl refl
operator_takes (symbol symbols.IsEqual) o e = operator_as (symbol symbols.IsEqual) (operators.Equality equalities.Equal) o e refl refl
operator_takes (symbol symbols.IsDifferent) o e = operator_as (symbol symbols.IsDifferent) (operators.Equality equalities.Unequal) o e refl refl
operator_takes (symbol symbols.Less) o e = operator_as (symbol symbols.Less) (operators.Comparison comparisons.Less) o e refl refl
operator_takes (symbol symbols.AtMost) o e = operator_as (symbol symbols.AtMost) (operators.Comparison comparisons.AtMost) o e refl refl
operator_takes (symbol symbols.Greater) o e = operator_as (symbol symbols.Greater) (operators.Comparison comparisons.Greater) o e refl refl
operator_takes (symbol symbols.AtLeast) o e = operator_as (symbol symbols.AtLeast) (operators.Comparison comparisons.AtLeast) o e refl refl
operator_takes (keyword words.And) o e = operator_as (keyword words.And) (operators.Logic logics.And) o e refl refl
operator_takes (keyword words.Or) o e = operator_as (keyword words.Or) (operators.Logic logics.Or) o e refl refl
operator_takes _ o e = cc

operator_link : (found : Option Operator) (t : Tok) (l : Link) → operator_of t ≡ found → option_map links.Operation found ≡ Some l → IsLinkToken t l
operator_link (Some o) t l found e = let p : links.Operation o ≡ l = cc in subst (IsLinkToken t) p (operator_takes t o found)
operator_link None t l found e = cc

pub link_takes : (t : Tok) (l : Link) → link_of t ≡ Some l → IsLinkToken t l
link_takes (symbol symbols.Comma) l e = let p : links.Pair ≡ l = cc in subst (IsLinkToken (symbol symbols.Comma)) p (record { token = refl; between = tt })
link_takes t l e = operator_link (operator_of t) t l refl e

-- a word is that of a form of expressions, whose operands stand so
abbrev pub BeginsWith : ExpressionHead → Keyword → Type 0
BeginsWith (expression_heads.Truth true) k = k ≡ words.True
BeginsWith (expression_heads.Truth false) k = k ≡ words.False
BeginsWith expression_heads.NoEvent k = k ≡ words.NoEvent
BeginsWith (expression_heads.Prefixed o) k = (k ≡ unary_word o) × (takes_brackets o ≡ false)
BeginsWith (expression_heads.OneInBrackets o) k = (k ≡ unary_word o) × (takes_brackets o ≡ true)
BeginsWith (expression_heads.TwoInBrackets o) k = (keyword k ≡ operator_token o) × (stands_between o ≡ false)
BeginsWith expression_heads.Conditional k = k ≡ words.If
BeginsWith expression_heads.Let k = k ≡ words.Let
BeginsWith (expression_heads.OneAndFunction m) k = (k ≡ mapping_word m) × (maps_in_brackets m ≡ true)
BeginsWith (expression_heads.TwoAndFunction o) k = k ≡ folding_word o
BeginsWith expression_heads.Called k = k ≡ words.Call

begins_as : (k : Keyword) (g h : ExpressionHead) → Some g ≡ Some h → BeginsWith g k → BeginsWith h k
begins_as k g h same begins = let p : g ≡ h = cc in subst (λ (h : ExpressionHead). BeginsWith h k) p begins

pub expression_head_takes : (k : Keyword) (h : ExpressionHead) → expression_head k ≡ Some h → BeginsWith h k
expression_head_takes words.True h e = begins_as words.True (expression_heads.Truth true) h e refl
expression_head_takes words.False h e = begins_as words.False (expression_heads.Truth false) h e refl
expression_head_takes words.NoEvent h e = begins_as words.NoEvent expression_heads.NoEvent h e refl
expression_head_takes words.Not h e = begins_as words.Not (expression_heads.Prefixed unaries.Not) h e (refl, refl)
expression_head_takes words.EventOf h e = begins_as words.EventOf (expression_heads.Prefixed unaries.Event) h e (refl, refl)
expression_head_takes words.Fst h e = begins_as words.Fst (expression_heads.OneInBrackets unaries.First) h e (refl, refl)
expression_head_takes words.Snd h e = begins_as words.Snd (expression_heads.OneInBrackets unaries.Second) h e (refl, refl)
expression_head_takes words.IsEvent h e = begins_as words.IsEvent (expression_heads.OneInBrackets unaries.IsEvent) h e (refl, refl)
expression_head_takes words.Size h e = begins_as words.Size (expression_heads.OneInBrackets unaries.Size) h e (refl, refl)
expression_head_takes words.Tag h e = begins_as words.Tag (expression_heads.TwoInBrackets operators.Tag) h e (refl, refl)
expression_head_takes words.Attach h e = begins_as words.Attach (expression_heads.TwoInBrackets operators.Attach) h e (refl, refl)
expression_head_takes words.FromEvent h e = begins_as words.FromEvent (expression_heads.TwoInBrackets operators.FromEvent) h e (refl, refl)
expression_head_takes words.Gate h e = begins_as words.Gate (expression_heads.TwoInBrackets operators.Gate) h e (refl, refl)
expression_head_takes words.LMerge h e = begins_as words.LMerge (expression_heads.TwoInBrackets (operators.Merge merges.Left)) h e (refl, refl)
expression_head_takes words.RMerge h e = begins_as words.RMerge (expression_heads.TwoInBrackets (operators.Merge merges.Right)) h e (refl, refl)
expression_head_takes words.Merge h e = begins_as words.Merge (expression_heads.TwoInBrackets (operators.Merge merges.Exclusive)) h e (refl, refl)
expression_head_takes words.Get h e = begins_as words.Get (expression_heads.TwoInBrackets operators.Get) h e (refl, refl)
expression_head_takes words.If h e = begins_as words.If expression_heads.Conditional h e refl
expression_head_takes words.Let h e = begins_as words.Let expression_heads.Let h e refl
expression_head_takes words.FilterE h e = begins_as words.FilterE (expression_heads.OneAndFunction mappings.Filter) h e (refl, refl)
expression_head_takes words.MapE h e = begins_as words.MapE (expression_heads.OneAndFunction mappings.Map) h e (refl, refl)
expression_head_takes words.Match h e = begins_as words.Match (expression_heads.TwoAndFunction foldings.Match) h e refl
expression_head_takes words.MergeBy h e = begins_as words.MergeBy (expression_heads.TwoAndFunction foldings.Merge) h e refl
expression_head_takes words.Fold h e = begins_as words.Fold (expression_heads.TwoAndFunction foldings.Fold) h e refl
expression_head_takes words.Call h e = begins_as words.Call expression_heads.Called h e refl
expression_head_takes _ h e = cc

-- what the word of an operator on one value begins, by how its operand stands
abbrev pub unary_head : Bool → Unary → ExpressionHead
unary_head false o = expression_heads.Prefixed o
unary_head true o = expression_heads.OneInBrackets o

pub unary_again : (o : Unary) → expression_head (unary_word o) ≡ Some (unary_head (takes_brackets o) o)
unary_again unaries.Not = refl
unary_again unaries.Event = refl
unary_again unaries.First = refl
unary_again unaries.Second = refl
unary_again unaries.IsEvent = refl
unary_again unaries.Size = refl

-- the token of an operator in front of its operands is a word, which begins it
pub record IsInFront (o : Operator) : Type 0 where
  pub word : Keyword
  pub token : operator_token o ≡ keyword word
  pub head : expression_head word ≡ Some (expression_heads.TwoInBrackets o)

pub operator_again : (o : Operator) → stands_between o ≡ false → IsInFront o
operator_again operators.Tag front = record { word = words.Tag; token = refl; head = refl }
operator_again operators.Attach front = record { word = words.Attach; token = refl; head = refl }
operator_again operators.FromEvent front = record { word = words.FromEvent; token = refl; head = refl }
operator_again operators.Gate front = record { word = words.Gate; token = refl; head = refl }
operator_again (operators.Merge merges.Left) front = record { word = words.LMerge; token = refl; head = refl }
operator_again (operators.Merge merges.Right) front = record { word = words.RMerge; token = refl; head = refl }
operator_again (operators.Merge merges.Exclusive) front = record { word = words.Merge; token = refl; head = refl }
operator_again operators.Get front = record { word = words.Get; token = refl; head = refl }
operator_again _ front = cc

pub folding_again : (o : Folding) → expression_head (folding_word o) ≡ Some (expression_heads.TwoAndFunction o)
folding_again foldings.Match = refl
folding_again foldings.Merge = refl
folding_again foldings.Fold = refl

-- the word of a type that is a word alone
abbrev pub type_word : WordType → Keyword
type_word word_types.Unit = words.Unit
type_word word_types.Bool = words.Bool
type_word word_types.Int = words.Int
type_word word_types.Text = words.Text

-- the first token of a type
abbrev pub type_token : TypeHead → Tok
type_token (type_heads.Word w) = keyword (type_word w)
type_token type_heads.Event = keyword words.Event
type_token type_heads.Table = keyword words.Table
type_token type_heads.Pair = symbol symbols.Open

pub type_head_takes : (t : Tok) (h : TypeHead) → type_head t ≡ Some h → t ≡ type_token h
type_head_takes (keyword words.Unit) h e = let p : type_heads.Word word_types.Unit ≡ h = cc in rw (← p) refl
type_head_takes (keyword words.Bool) h e = let p : type_heads.Word word_types.Bool ≡ h = cc in rw (← p) refl
type_head_takes (keyword words.Int) h e = let p : type_heads.Word word_types.Int ≡ h = cc in rw (← p) refl
type_head_takes (keyword words.Text) h e = let p : type_heads.Word word_types.Text ≡ h = cc in rw (← p) refl
type_head_takes (keyword words.Event) h e = let p : type_heads.Event ≡ h = cc in rw (← p) refl
type_head_takes (keyword words.Table) h e = let p : type_heads.Table ≡ h = cc in rw (← p) refl
type_head_takes (symbol symbols.Open) h e = let p : type_heads.Pair ≡ h = cc in rw (← p) refl
type_head_takes _ h e = cc

-- what is so of each type that is a word alone
pub record IsWordKind (v : Version) (w : WordType) : Type 0 where
  pub spelled : spell_type v (word_kind w) ≡ keyword (type_word w) ∷ []
  pub depth : type_depth (word_kind w) ≡ 1
  pub one : nodes (word_kind w) ≡ 1
  pub known : WritesType v (word_kind w)

pub word_kind_is : (v : Version) (w : WordType) → IsWordKind v w
word_kind_is v word_types.Unit = record { spelled = refl; depth = refl; one = refl; known = tt }
word_kind_is v word_types.Bool = record { spelled = refl; depth = refl; one = refl; known = tt }
word_kind_is v word_types.Int = record { spelled = refl; depth = refl; one = refl; known = tt }
word_kind_is v word_types.Text = record { spelled = refl; depth = refl; one = refl; known = tt }

pub keys_again : (v : Version) (k : KeyKind) (rest : List Tok) → WritesKeys v k → parse_keys v (spell_keys v k ++ rest) ≡ got k rest
keys_again versions.One int_keys rest known = refl
keys_again versions.One text_keys rest known = absurd known
keys_again versions.Two int_keys rest known = refl
keys_again versions.Two text_keys rest known = refl

pub close_takes : (tokens rest : List Tok) → behind_close tokens ≡ Some rest → tokens ≡ symbol symbols.Close ∷ rest
close_takes (symbol symbols.Close ∷ tokens) rest e = let p : tokens ≡ rest = cc in rw p refl
close_takes _ rest e = cc

pub leads_takes : (tokens rest : List Tok) → behind_leads tokens ≡ Some rest → tokens ≡ symbol symbols.Leads ∷ rest
leads_takes (symbol symbols.Leads ∷ tokens) rest e = let p : tokens ≡ rest = cc in rw p refl
leads_takes _ rest e = cc

-- the tokens of a word in front of an argument
abbrev pub word_tokens : ArgumentWord → List Tok
word_tokens no_word = []
word_tokens process_word = keyword words.SignalFunction ∷ []
word_tokens collection_word = keyword words.Collection ∷ []

pub process_word_takes : (tokens : List Tok) → argument_word tokens ≡ process_word → tokens ≡ keyword words.SignalFunction ∷ behind_first tokens
process_word_takes (keyword words.SignalFunction ∷ tokens) e = refl
process_word_takes _ e = cc

pub collection_word_takes : (tokens : List Tok) → argument_word tokens ≡ collection_word → tokens ≡ keyword words.Collection ∷ behind_first tokens
collection_word_takes (keyword words.Collection ∷ tokens) e = refl
collection_word_takes _ e = cc

pub list_takes : (tokens rest : List Tok) → behind_list tokens ≡ Some rest → tokens ≡ symbol symbols.OpenBracket ∷ rest
list_takes (symbol symbols.OpenBracket ∷ tokens) rest e = let p : tokens ≡ rest = cc in rw p refl
list_takes _ rest e = cc

-- no type begins with the bracket of a collection's types
pub no_list : (v : Version) (t : Kind) (rest : List Tok) → behind_list (spell_type v t ++ rest) ≡ None
no_list v unit_kind rest = refl
no_list v bool_kind rest = refl
no_list v int_kind rest = refl
no_list v text_kind rest = refl
no_list v (pair_kind t u) rest = refl
no_list v (event_kind t) rest = refl
no_list v (table_kind k t) rest = refl

-- the first token of a collection
abbrev pub collection_token : CollectionHead → Tok
collection_token collection_heads.Empty = keyword words.Empty
collection_token collection_heads.Used = keyword words.Use
collection_token collection_heads.Added = keyword words.Add
collection_token collection_heads.Dropped = keyword words.Drop
collection_token collection_heads.Kept = keyword words.Keep
collection_token collection_heads.Chosen = keyword words.If

collection_as : (t : Tok) (g h : CollectionHead) → Some g ≡ Some h → t ≡ collection_token g → t ≡ collection_token h
collection_as t g h same token = let p : g ≡ h = cc in subst (λ h. t ≡ collection_token h) p token

pub collection_takes : (t : Tok) (h : CollectionHead) → collection_head t ≡ Some h → t ≡ collection_token h
collection_takes (keyword words.Empty) h e = collection_as (keyword words.Empty) collection_heads.Empty h e refl
collection_takes (keyword words.Use) h e = collection_as (keyword words.Use) collection_heads.Used h e refl
collection_takes (keyword words.Add) h e = collection_as (keyword words.Add) collection_heads.Added h e refl
collection_takes (keyword words.Drop) h e = collection_as (keyword words.Drop) collection_heads.Dropped h e refl
collection_takes (keyword words.Keep) h e = collection_as (keyword words.Keep) collection_heads.Kept h e refl
collection_takes (keyword words.If) h e = collection_as (keyword words.If) collection_heads.Chosen h e refl
collection_takes _ h e = cc

operands_open : (between : Bool) (o : Operator) (xs ys rest : List Tok) → stands_between o ≡ between → behind_close (spell_operands between (operator_token o) xs ys ++ rest) ≡ None
operands_open true o xs ys rest is = refl
operands_open false o xs ys rest is = let front = operator_again o is in rw front.token refl

-- no expression begins with a closing bracket
pub no_close : (v : Version) (e : Expression) (rest : List Tok) → behind_close (spell_expression v e ++ rest) ≡ None
no_close v (variable x) rest = refl
no_close v (literal unit_literal) rest = refl
no_close v (literal (truth_literal true)) rest = refl
no_close v (literal (truth_literal false)) rest = refl
no_close v (literal (int_literal z)) rest = refl
no_close v (literal (text_literal s)) rest = refl
no_close v (literal (none_literal t)) rest = refl
no_close v (paired e f) rest = refl
no_close v (applied o e) rest = refl
no_close v (operation e o f) rest = operands_open (stands_between o) o (spell_expression v e) (spell_expression v f) rest refl
no_close v (conditional e f g) rest = refl
no_close v (mapped e m p f) rest = refl
no_close v (folded e o f p g) rest = refl
no_close v (called g e) rest = refl

unary_no_argument_word : (o : Unary) (rest : List Tok) → argument_word (keyword (unary_word o) ∷ rest) ≡ no_word
unary_no_argument_word unaries.Not rest = refl
unary_no_argument_word unaries.Event rest = refl
unary_no_argument_word unaries.First rest = refl
unary_no_argument_word unaries.Second rest = refl
unary_no_argument_word unaries.IsEvent rest = refl
unary_no_argument_word unaries.Size rest = refl

mapping_no_argument_word : (m : Mapping) (rest : List Tok) → argument_word (keyword (mapping_word m) ∷ rest) ≡ no_word
mapping_no_argument_word mappings.Let rest = refl
mapping_no_argument_word mappings.Filter rest = refl
mapping_no_argument_word mappings.Map rest = refl

folding_no_argument_word : (o : Folding) (rest : List Tok) → argument_word (keyword (folding_word o) ∷ rest) ≡ no_word
folding_no_argument_word foldings.Match rest = refl
folding_no_argument_word foldings.Merge rest = refl
folding_no_argument_word foldings.Fold rest = refl

operands_no_argument_word : (o : Operator) (xs ys rest : List Tok) → argument_word (spell_operands (stands_between o) (operator_token o) xs ys ++ rest) ≡ no_word
operands_no_argument_word (operators.Arithmetic o) xs ys rest = refl
operands_no_argument_word (operators.Equality o) xs ys rest = refl
operands_no_argument_word (operators.Comparison o) xs ys rest = refl
operands_no_argument_word (operators.Logic o) xs ys rest = refl
operands_no_argument_word operators.Tag xs ys rest = refl
operands_no_argument_word operators.Attach xs ys rest = refl
operands_no_argument_word operators.FromEvent xs ys rest = refl
operands_no_argument_word operators.Gate xs ys rest = refl
operands_no_argument_word (operators.Merge merges.Left) xs ys rest = refl
operands_no_argument_word (operators.Merge merges.Right) xs ys rest = refl
operands_no_argument_word (operators.Merge merges.Exclusive) xs ys rest = refl
operands_no_argument_word operators.Get xs ys rest = refl

-- no expression begins with the word of another argument
pub no_argument_word : (v : Version) (e : Expression) (rest : List Tok) → argument_word (spell_expression v e ++ rest) ≡ no_word
no_argument_word v (variable x) rest = refl
no_argument_word v (literal unit_literal) rest = refl
no_argument_word v (literal (truth_literal true)) rest = refl
no_argument_word v (literal (truth_literal false)) rest = refl
no_argument_word v (literal (int_literal z)) rest = refl
no_argument_word v (literal (text_literal s)) rest = refl
no_argument_word v (literal (none_literal t)) rest = refl
no_argument_word v (paired e f) rest = refl
no_argument_word v (applied o e) rest = unary_no_argument_word o (spell_operand (takes_brackets o) (spell_expression v e) ++ rest)
no_argument_word v (operation e o f) rest = operands_no_argument_word o (spell_expression v e) (spell_expression v f) rest
no_argument_word v (conditional e f g) rest = refl
no_argument_word v (mapped e m p f) rest = mapping_no_argument_word m (spell_mapped_so (maps_in_brackets m) (spell_expression v e) (spell_pattern p) (spell_expression v f) ++ rest)
no_argument_word v (folded e o f p g) rest = folding_no_argument_word o (in_brackets (spell_expression v e) (symbol symbols.Comma) (spell_expression v f ++ (symbol symbols.Comma ∷ spell_mapping (spell_pattern p) (spell_expression v g))) ++ rest)
no_argument_word v (called g e) rest = refl
