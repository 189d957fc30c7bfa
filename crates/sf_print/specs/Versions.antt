-- Which version of a text a network takes.
use Rattle.std.specs.Prelude.{Bool, true, false, ◌||◌, if◌then◌else◌, List}
use Rattle.std.specs.List.{list_any}
use Rattle.sf_value.specs.Values.{Name, KeyKind, int_keys, text_keys, Kind, unit_kind, bool_kind, int_kind, text_kind, pair_kind, event_kind, table_kind}
use Rattle.sf_expr.specs.Expressions.{Literal, unit_literal, truth_literal, int_literal, text_literal, none_literal, Expression, variable, literal, paired, applied, operation, conditional, mapped, folded, called, Function, function}
use Rattle.sf_term.specs.declared.form.Start.{Start}
use Rattle.sf_term.specs.declared.form.Start.TheVariants as starts
use Rattle.sf_term.specs.Parameters.{PlacedParameter, NameKind, value, process, collection}
use Rattle.sf_term.specs.Trees.{Primitive, bare, probe, never, with_value, timed, selected, arrow, accumulated, fused, Term, primitive, reference, joined, sided, headed, transformed, switching, continuing, gathered, releasing, editing, staged, Collection, without_members, used, added, dropped, kept, chosen, Reference, started, call, Arguments, no_arguments, value_argument, process_argument, collection_argument, closed_argument, Template, Templates}
use Rattle.sf_grammar.specs.declared.ty.Version.{Version}
use Rattle.sf_grammar.specs.declared.ty.Version.TheVariants as versions

-- whether keys are texts
abbrev pub are_texts : KeyKind → Bool
are_texts int_keys = false
are_texts text_keys = true

-- whether a table in a type has Text keys
abbrev pub type_needs_two : Kind → Bool
type_needs_two unit_kind = false
type_needs_two bool_kind = false
type_needs_two int_kind = false
type_needs_two text_kind = false
type_needs_two (pair_kind t u) = type_needs_two t || type_needs_two u
type_needs_two (event_kind t) = type_needs_two t
type_needs_two (table_kind k t) = are_texts k || type_needs_two t

-- of what is below, whether a Text key or `fresh` stands in it
abbrev pub literal_needs_two : Literal → Bool
literal_needs_two unit_literal = false
literal_needs_two (truth_literal b) = false
literal_needs_two (int_literal z) = false
literal_needs_two (text_literal s) = false
literal_needs_two (none_literal t) = type_needs_two t

abbrev pub expression_needs_two : Expression → Bool
expression_needs_two (variable x) = false
expression_needs_two (literal l) = literal_needs_two l
expression_needs_two (paired e f) = expression_needs_two e || expression_needs_two f
expression_needs_two (applied o e) = expression_needs_two e
expression_needs_two (operation e o f) = expression_needs_two e || expression_needs_two f
expression_needs_two (conditional e f g) = expression_needs_two e || (expression_needs_two f || expression_needs_two g)
expression_needs_two (mapped e m p f) = expression_needs_two e || expression_needs_two f
expression_needs_two (folded e o f p g) = expression_needs_two e || (expression_needs_two f || expression_needs_two g)
expression_needs_two (called g e) = expression_needs_two e

abbrev pub function_needs_two : Function → Bool
function_needs_two (function p e) = expression_needs_two e

abbrev pub start_needs_two : Start → Bool
start_needs_two starts.Run = false
start_needs_two starts.Fresh = true

abbrev pub primitive_needs_two : Primitive → Bool
primitive_needs_two (bare k) = false
primitive_needs_two (probe k) = false
primitive_needs_two (never t) = type_needs_two t
primitive_needs_two (with_value k e) = expression_needs_two e
primitive_needs_two (timed k q e) = expression_needs_two e
primitive_needs_two (selected k n) = false
primitive_needs_two (arrow f) = function_needs_two f
primitive_needs_two (accumulated k e f) = expression_needs_two e || function_needs_two f
primitive_needs_two (fused f) = false

abbrev mutual
  pub term_needs_two : Term → Bool
  term_needs_two (primitive k) = primitive_needs_two k
  term_needs_two (reference r) = reference_needs_two r
  term_needs_two (joined j f g) = term_needs_two f || term_needs_two g
  term_needs_two (sided s f) = term_needs_two f
  term_needs_two (headed h e f) = expression_needs_two e || term_needs_two f
  term_needs_two (transformed h f) = function_needs_two h || term_needs_two f
  term_needs_two (switching w f p g) = term_needs_two f || term_needs_two g
  term_needs_two (continuing w f g k p u) = term_needs_two f || (term_needs_two g || term_needs_two u)
  term_needs_two (gathered i) = collection_needs_two i
  term_needs_two (releasing w i q k p u) = collection_needs_two i || (term_needs_two q || term_needs_two u)
  term_needs_two (editing w i k p u) = collection_needs_two i || collection_needs_two u
  term_needs_two (staged x f g) = false

  pub collection_needs_two : Collection → Bool
  collection_needs_two (without_members k t) = are_texts k || type_needs_two t
  collection_needs_two (used x) = false
  collection_needs_two (added i e t) = collection_needs_two i || (expression_needs_two e || term_needs_two t)
  collection_needs_two (dropped i e) = collection_needs_two i || expression_needs_two e
  collection_needs_two (kept i f) = collection_needs_two i || function_needs_two f
  collection_needs_two (chosen e i j) = expression_needs_two e || (collection_needs_two i || collection_needs_two j)

  pub reference_needs_two : Reference → Bool
  reference_needs_two (started w k) = start_needs_two w
  reference_needs_two (call g vs) = arguments_need_two vs

  pub arguments_need_two : Arguments → Bool
  arguments_need_two no_arguments = false
  arguments_need_two (value_argument e vs) = expression_needs_two e || arguments_need_two vs
  arguments_need_two (process_argument t vs) = term_needs_two t || arguments_need_two vs
  arguments_need_two (collection_argument i vs) = collection_needs_two i || arguments_need_two vs
  arguments_need_two (closed_argument t vs) = arguments_need_two vs

abbrev pub name_kind_needs_two : NameKind → Bool
name_kind_needs_two (value t) = type_needs_two t
name_kind_needs_two (process t u) = type_needs_two t || type_needs_two u
name_kind_needs_two (collection k t u) = are_texts k || (type_needs_two t || type_needs_two u)

abbrev pub parameter_needs_two : Name × NameKind → Bool
parameter_needs_two q = name_kind_needs_two q.1

abbrev pub parameters_need_two : List PlacedParameter → Bool
parameters_need_two qs = list_any (λ (q : PlacedParameter). name_kind_needs_two q.kind) qs

abbrev pub template_needs_two : Template → Bool
template_needs_two t = list_any parameter_needs_two t.parameters || (type_needs_two t.input || (type_needs_two t.output || term_needs_two t.body))

abbrev pub network_needs_two : Templates → Bool
network_needs_two p = list_any template_needs_two p

-- version 1 where no Text key and no `fresh` stands in a network, else version 2
abbrev pub version_of : Templates → Version
version_of p = if network_needs_two p then versions.Two else versions.One
