-- A network within the limits of a version is within those of the version of its canonical text.
use Rattle.std.proofs.Common.{◌≡◌, ℕ, zero, suc, Bool, true, false, ◌||◌, List, [], ◌∷◌, refl, ◌⊎◌, inl, inr, cond}
use Rattle.std.specs.List.{All, list_any}
use Rattle.std.proofs.lemmas.List.Elements.{All-nil, All-cons, All-head, All-tail}
use Rattle.sf_value.specs.Values.{Name, KeyKind, int_keys, text_keys, Kind, unit_kind, bool_kind, int_kind, text_kind, pair_kind, event_kind, table_kind}
use Rattle.sf_expr.specs.Expressions.{Literal, unit_literal, truth_literal, int_literal, text_literal, none_literal, Expression, variable, literal, paired, applied, operation, conditional, mapped, folded, called, Function, function}
use Rattle.sf_term.specs.declared.form.Start.{Start}
use Rattle.sf_term.specs.declared.form.Start.TheVariants as starts
use Rattle.sf_term.specs.Parameters.{NameKind, value, process, collection}
use Rattle.sf_term.specs.Trees.{Primitive, bare, probe, never, with_value, timed, selected, arrow, accumulated, fused, Term, primitive, reference, joined, sided, headed, transformed, switching, continuing, gathered, releasing, editing, staged, Collection, without_members, used, added, dropped, kept, chosen, Reference, started, call, Arguments, no_arguments, value_argument, process_argument, collection_argument, closed_argument, Template, Templates}
use Rattle.sf_grammar.specs.declared.ty.Version.{Version}
use Rattle.sf_grammar.specs.declared.ty.Version.TheVariants as versions
use Rattle.sf_grammar.specs.Spelling.{WritesKeys, WritesType, IsWrittenType, WritesExpression, WritesFunction, WritesStart, WritesTerm, WritesCollection, WritesReference, WritesArguments, WritesNameKind, HasWrittenTypes, IsWithinLimits}
use Rattle.sf_print.specs.Versions.{are_texts, type_needs_two, literal_needs_two, expression_needs_two, function_needs_two, start_needs_two, primitive_needs_two, term_needs_two, collection_needs_two, reference_needs_two, arguments_need_two, name_kind_needs_two, parameter_needs_two, template_needs_two, network_needs_two, version_of}

-- a version has what needs version 2, or it isn't needed
abbrev Serves : Version → Bool → Type 0
Serves w needs = (w ≡ versions.Two) ⊎ (needs ≡ false)

-- so it serves both parts of a whole
parts : (w : Version) (a b : Bool) → Serves w (a || b) → Serves w a × Serves w b
parts w a b (inl is) = (inl is, inl is)
parts w true b (inr n) = absurd (cc)
parts w false b (inr n) = (inr refl, inr n)

keys_move : (v w : Version) (k : KeyKind) → WritesKeys v k → Serves w (are_texts k) → WritesKeys w k
keys_move v versions.One int_keys h s = tt
keys_move v versions.Two int_keys h s = tt
keys_move v versions.Two text_keys h s = tt
keys_move v versions.One text_keys h (inl is) = absurd (cc)
keys_move v versions.One text_keys h (inr n) = absurd (cc)

type_moves : (v w : Version) (t : Kind) → WritesType v t → Serves w (type_needs_two t) → WritesType w t
type_moves v w unit_kind h s = tt
type_moves v w bool_kind h s = tt
type_moves v w int_kind h s = tt
type_moves v w text_kind h s = tt
type_moves v w (pair_kind t u) h s = let both = parts w (type_needs_two t) (type_needs_two u) s in (type_moves v w t h.0 both.0, type_moves v w u h.1 both.1)
type_moves v w (event_kind t) h s = type_moves v w t h s
type_moves v w (table_kind k t) h s = let both = parts w (are_texts k) (type_needs_two t) s in (keys_move v w k h.0 both.0, type_moves v w t h.1 both.1)

written_moves : (v w : Version) (d : ℕ) (t : Kind) → IsWrittenType v d t → Serves w (type_needs_two t) → IsWrittenType w d t
written_moves v w d t h s = record { shallow = h.shallow; few = h.few; known = type_moves v w t h.known s }

literal_moves : (v w : Version) (d : ℕ) (l : Literal) → WritesExpression v d (literal l) → Serves w (literal_needs_two l) → WritesExpression w d (literal l)
literal_moves v w zero l h s = tt
literal_moves v w (suc d) unit_literal h s = tt
literal_moves v w (suc d) (truth_literal b) h s = tt
literal_moves v w (suc d) (int_literal z) h s = tt
literal_moves v w (suc d) (text_literal x) h s = tt
literal_moves v w (suc d) (none_literal t) h s = written_moves v w d t h s

expression_moves : (v w : Version) (d : ℕ) (e : Expression) → WritesExpression v d e → Serves w (expression_needs_two e) → WritesExpression w d e
expression_moves v w zero e h s = tt
expression_moves v w (suc d) (variable x) h s = tt
expression_moves v w (suc d) (literal l) h s = literal_moves v w (suc d) l h s
expression_moves v w (suc d) (paired e f) h s =
    let both = parts w (expression_needs_two e) (expression_needs_two f) s in (expression_moves v w d e h.0 both.0, expression_moves v w d f h.1 both.1)
expression_moves v w (suc d) (applied o e) h s = expression_moves v w d e h s
expression_moves v w (suc d) (operation e o f) h s =
    let both = parts w (expression_needs_two e) (expression_needs_two f) s in (expression_moves v w d e h.0 both.0, expression_moves v w d f h.1 both.1)
expression_moves v w (suc d) (conditional e f g) h s =
    let one = parts w (expression_needs_two e) (expression_needs_two f || expression_needs_two g) s in
    let two = parts w (expression_needs_two f) (expression_needs_two g) one.1 in
    (expression_moves v w d e h.0 one.0, expression_moves v w d f h.1 two.0, expression_moves v w d g h.2 two.1)
expression_moves v w (suc d) (mapped e m p f) h s =
    let both = parts w (expression_needs_two e) (expression_needs_two f) s in (expression_moves v w d e h.0 both.0, expression_moves v w d f h.1 both.1)
expression_moves v w (suc d) (folded e o f p g) h s =
    let one = parts w (expression_needs_two e) (expression_needs_two f || expression_needs_two g) s in
    let two = parts w (expression_needs_two f) (expression_needs_two g) one.1 in
    (expression_moves v w d e h.0 one.0, expression_moves v w d f h.1 two.0, expression_moves v w d g h.2 two.1)
expression_moves v w (suc d) (called g e) h s = expression_moves v w d e h s

function_moves : (v w : Version) (d : ℕ) (f : Function) → WritesFunction v d f → Serves w (function_needs_two f) → WritesFunction w d f
function_moves v w d (function p e) h s = expression_moves v w d e h s

start_moves : (v w : Version) (b : Start) → WritesStart v b → Serves w (start_needs_two b) → WritesStart w b
start_moves v w starts.Run h s = tt
start_moves v versions.Two starts.Fresh h s = refl
start_moves v versions.One starts.Fresh h (inl is) = absurd (cc)
start_moves v versions.One starts.Fresh h (inr n) = absurd (cc)

primitive_moves : (v w : Version) (d : ℕ) (k : Primitive) → WritesTerm v (suc d) (primitive k) → Serves w (primitive_needs_two k) → WritesTerm w (suc d) (primitive k)
primitive_moves v w d (bare k) h s = tt
primitive_moves v w d (probe k) h s = tt
primitive_moves v w d (never t) h s = written_moves v w d t h s
primitive_moves v w d (with_value k e) h s = expression_moves v w d e h s
primitive_moves v w d (timed k q e) h s = expression_moves v w d e h s
primitive_moves v w d (selected k n) h s = tt
primitive_moves v w d (arrow f) h s = function_moves v w d f h s
primitive_moves v w d (accumulated k e f) h s =
    let both = parts w (expression_needs_two e) (function_needs_two f) s in (expression_moves v w d e h.0 both.0, function_moves v w d f h.1 both.1)
primitive_moves v w d (fused f) h s = tt

mutual
  term_moves : (v w : Version) (d : ℕ) (t : Term) → WritesTerm v d t → Serves w (term_needs_two t) → WritesTerm w d t
  term_moves v w zero t h s = tt
  term_moves v w (suc d) (primitive k) h s = primitive_moves v w d k h s
  term_moves v w (suc d) (reference r) h s = reference_moves v w d r h s
  term_moves v w (suc d) (joined j f g) h s =
      let both = parts w (term_needs_two f) (term_needs_two g) s in (term_moves v w d f h.0 both.0, term_moves v w d g h.1 both.1)
  term_moves v w (suc d) (sided k f) h s = term_moves v w d f h s
  term_moves v w (suc d) (headed k e f) h s =
      let both = parts w (expression_needs_two e) (term_needs_two f) s in (h.0, expression_moves v w d e h.1 both.0, term_moves v w d f h.2 both.1)
  term_moves v w (suc d) (transformed k f) h s =
      let both = parts w (function_needs_two k) (term_needs_two f) s in (function_moves v w d k h.0 both.0, term_moves v w d f h.1 both.1)
  term_moves v w (suc d) (switching k f p g) h s =
      let both = parts w (term_needs_two f) (term_needs_two g) s in (term_moves v w d f h.0 both.0, term_moves v w d g h.1 both.1)
  term_moves v w (suc d) (continuing k f g x p u) h s =
      let one = parts w (term_needs_two f) (term_needs_two g || term_needs_two u) s in
      let two = parts w (term_needs_two g) (term_needs_two u) one.1 in
      (term_moves v w d f h.0 one.0, term_moves v w d g h.1 two.0, term_moves v w d u h.2 two.1)
  term_moves v w (suc d) (gathered i) h s = collection_moves v w d i h s
  term_moves v w (suc d) (releasing b i q k p u) h s =
      let one = parts w (collection_needs_two i) (term_needs_two q || term_needs_two u) s in
      let two = parts w (term_needs_two q) (term_needs_two u) one.1 in
      (collection_moves v w d i h.0 one.0, term_moves v w d q h.1 two.0, term_moves v w d u h.2 two.1)
  term_moves v w (suc d) (editing b i k p u) h s =
      let both = parts w (collection_needs_two i) (collection_needs_two u) s in (collection_moves v w d i h.0 both.0, collection_moves v w d u h.1 both.1)
  term_moves v w (suc d) (staged x f g) h s = tt

  collection_moves : (v w : Version) (d : ℕ) (i : Collection) → WritesCollection v d i → Serves w (collection_needs_two i) → WritesCollection w d i
  collection_moves v w zero i h s = tt
  collection_moves v w (suc d) (without_members k t) h s =
      let both = parts w (are_texts k) (type_needs_two t) s in (keys_move v w k h.0 both.0, written_moves v w d t h.1 both.1)
  collection_moves v w (suc d) (used x) h s = tt
  collection_moves v w (suc d) (added i e t) h s =
      let one = parts w (collection_needs_two i) (expression_needs_two e || term_needs_two t) s in
      let two = parts w (expression_needs_two e) (term_needs_two t) one.1 in
      (collection_moves v w d i h.0 one.0, expression_moves v w d e h.1 two.0, term_moves v w d t h.2 two.1)
  collection_moves v w (suc d) (dropped i e) h s =
      let both = parts w (collection_needs_two i) (expression_needs_two e) s in (collection_moves v w d i h.0 both.0, expression_moves v w d e h.1 both.1)
  collection_moves v w (suc d) (kept i f) h s =
      let both = parts w (collection_needs_two i) (function_needs_two f) s in (collection_moves v w d i h.0 both.0, function_moves v w d f h.1 both.1)
  collection_moves v w (suc d) (chosen e i j) h s =
      let one = parts w (expression_needs_two e) (collection_needs_two i || collection_needs_two j) s in
      let two = parts w (collection_needs_two i) (collection_needs_two j) one.1 in
      (expression_moves v w d e h.0 one.0, collection_moves v w d i h.1 two.0, collection_moves v w d j h.2 two.1)

  reference_moves : (v w : Version) (d : ℕ) (r : Reference) → WritesReference v d r → Serves w (reference_needs_two r) → WritesReference w d r
  reference_moves v w d (started b k) h s = start_moves v w b h s
  reference_moves v w d (call g vs) h s = arguments_move v w d vs h s

  arguments_move : (v w : Version) (d : ℕ) (vs : Arguments) → WritesArguments v d vs → Serves w (arguments_need_two vs) → WritesArguments w d vs
  arguments_move v w d no_arguments h s = tt
  arguments_move v w d (value_argument e vs) h s =
      let both = parts w (expression_needs_two e) (arguments_need_two vs) s in (expression_moves v w d e h.0 both.0, arguments_move v w d vs h.1 both.1)
  arguments_move v w d (process_argument t vs) h s =
      let both = parts w (term_needs_two t) (arguments_need_two vs) s in (term_moves v w d t h.0 both.0, arguments_move v w d vs h.1 both.1)
  arguments_move v w d (collection_argument i vs) h s =
      let both = parts w (collection_needs_two i) (arguments_need_two vs) s in (collection_moves v w d i h.0 both.0, arguments_move v w d vs h.1 both.1)
  arguments_move v w d (closed_argument t vs) h s = arguments_move v w d vs h s

name_kind_moves : (v w : Version) (k : NameKind) → WritesNameKind v k → Serves w (name_kind_needs_two k) → WritesNameKind w k
name_kind_moves v w (value t) h s = written_moves v w 64 t h s
name_kind_moves v w (collection k t u) h s =
    let one = parts w (are_texts k) (type_needs_two t || type_needs_two u) s in
    let two = parts w (type_needs_two t) (type_needs_two u) one.1 in
    (keys_move v w k h.0 one.0, written_moves v w 64 t h.1 two.0, written_moves v w 64 u h.2 two.1)
name_kind_moves v w (process t u) h s =
    let both = parts w (type_needs_two t) (type_needs_two u) s in (written_moves v w 64 t h.0 both.0, written_moves v w 64 u h.1 both.1)

parameters_move : (v w : Version) (qs : List (Name × NameKind)) → All (λ (q : Name × NameKind). WritesNameKind v q.1) qs → Serves w (list_any parameter_needs_two qs) → All (λ (q : Name × NameKind). WritesNameKind w q.1) qs
parameters_move v w [] h s = All-nil (λ (q : Name × NameKind). WritesNameKind w q.1)
parameters_move v w (q ∷ qs) h s =
    let both = parts w (parameter_needs_two q) (list_any parameter_needs_two qs) s in
    All-cons (λ (q : Name × NameKind). WritesNameKind w q.1) q qs (name_kind_moves v w q.1 (All-head (λ (q : Name × NameKind). WritesNameKind v q.1) q qs h) both.0)
    (parameters_move v w qs (All-tail (λ (q : Name × NameKind). WritesNameKind v q.1) q qs h) both.1)

template_moves : (v w : Version) (t : Template) → HasWrittenTypes v t → Serves w (template_needs_two t) → HasWrittenTypes w t
template_moves v w t h s =
    let one = parts w (list_any parameter_needs_two t.parameters) (type_needs_two t.input || (type_needs_two t.output || term_needs_two t.body)) s in
    let two = parts w (type_needs_two t.input) (type_needs_two t.output || term_needs_two t.body) one.1 in
    let three = parts w (type_needs_two t.output) (term_needs_two t.body) two.1 in
    record {
      parameters = parameters_move v w t.parameters h.parameters one.0;
      input = written_moves v w 64 t.input h.input two.0;
      output = written_moves v w 64 t.output h.output three.0;
      body = term_moves v w 64 t.body h.body three.1;
    }

templates_move : (v w : Version) (p : Templates) → All (HasWrittenTypes v) p → Serves w (network_needs_two p) → All (HasWrittenTypes w) p
templates_move v w [] h s = All-nil (HasWrittenTypes w)
templates_move v w (t ∷ ts) h s =
    let both = parts w (template_needs_two t) (network_needs_two ts) s in
    All-cons (HasWrittenTypes w) t ts (template_moves v w t (All-head (HasWrittenTypes v) t ts h) both.0) (templates_move v w ts (All-tail (HasWrittenTypes v) t ts h) both.1)

own_serves : (p : Templates) → Serves (version_of p) (network_needs_two p)
own_serves p = by (network_needs_two p)
  where
    by : (needs : Bool) → Serves (cond needs versions.Two versions.One) needs
    by true = inl refl
    by false = inr refl

-- within the limits of a version, and so within those of its own
pub limits_move : (v : Version) (p : Templates) → IsWithinLimits v p → IsWithinLimits (version_of p) p
limits_move v p h = record { shallow = h.shallow; typed = templates_move v (version_of p) p h.typed (own_serves p); few_terms = h.few_terms; few_expressions = h.few_expressions }
