-- What is within the limits stands in texts.
use Rattle.std.proofs.Common.{ℕ, zero, suc, ◌≤◌, [], ◌∷◌, arith}
use Rattle.std.specs.List.{All}
use Rattle.std.proofs.lemmas.List.Elements.{All-cons, All-head, All-nil, All-tail}
use Rattle.sf_value.specs.Values.{Name}
use Rattle.sf_expr.specs.Expressions.{unit_literal, truth_literal, int_literal, text_literal, none_literal, Expression, variable, literal, paired, applied, operation, conditional, mapped, folded, called, Function, function, function_depth, depth}
use Rattle.sf_term.specs.Parameters.{NameKind, Bindings, value, process, collection}
use Rattle.sf_term.specs.Trees.{Term, primitive, reference, joined, sided, headed, transformed, switching, continuing, gathered, releasing, editing, staged, bare, probe, never, with_value, timed, selected, arrow, accumulated, fused, Collection, without_members, used, added, dropped, kept, chosen, started, call, Arguments, no_arguments, value_argument, process_argument, collection_argument, closed_argument, Template, Templates, term_depth, collection_depth, arguments_depth}
use Rattle.sf_grammar.specs.declared.ty.Version.{Version}
use Rattle.sf_grammar.specs.Spelling.{WritesExpression, WritesFunction, WritesTerm, WritesCollection, WritesArguments, WritesNameKind, HasWrittenTypes, IsWithinLimits}
use Rattle.sf_place.specs.Places.{ExpressionInTexts, FunctionInTexts, TermInTexts, CollectionInTexts, ArgumentsInTexts, NameKindInTexts, TemplateInTexts}

expression_stands : (v : Version) (e : Expression) (d : ℕ) → depth e ≤ d → WritesExpression v d e → ExpressionInTexts v e
expression_stands v (variable x) d deep known = tt
expression_stands v (literal unit_literal) d deep known = tt
expression_stands v (literal (truth_literal b)) d deep known = tt
expression_stands v (literal (int_literal z)) d deep known = tt
expression_stands v (literal (text_literal s)) d deep known = tt
expression_stands v (literal (none_literal t)) zero deep known = absurd (omega arith)
expression_stands v (paired e f) zero deep known = absurd (omega arith)
expression_stands v (applied o e) zero deep known = absurd (omega arith)
expression_stands v (operation e o f) zero deep known = absurd (omega arith)
expression_stands v (conditional e f g) zero deep known = absurd (omega arith)
expression_stands v (mapped e m p f) zero deep known = absurd (omega arith)
expression_stands v (folded e o f p g) zero deep known = absurd (omega arith)
expression_stands v (called g e) zero deep known = absurd (omega arith)
expression_stands v (literal (none_literal t)) (suc d) deep known = known.known
expression_stands v (paired e f) (suc d) deep known = (expression_stands v e d (omega arith) known.0, expression_stands v f d (omega arith) known.1)
expression_stands v (applied o e) (suc d) deep known = expression_stands v e d (omega arith) known
expression_stands v (operation e o f) (suc d) deep known = (expression_stands v e d (omega arith) known.0, expression_stands v f d (omega arith) known.1)
expression_stands v (conditional e f g) (suc d) deep known = (expression_stands v e d (omega arith) known.0, expression_stands v f d (omega arith) known.1, expression_stands v g d (omega arith) known.2)
expression_stands v (mapped e m p f) (suc d) deep known = (expression_stands v e d (omega arith) known.0, expression_stands v f d (omega arith) known.1)
expression_stands v (folded e o f p g) (suc d) deep known = (expression_stands v e d (omega arith) known.0, expression_stands v f d (omega arith) known.1, expression_stands v g d (omega arith) known.2)
expression_stands v (called g e) (suc d) deep known = expression_stands v e d (omega arith) known

function_stands : (v : Version) (f : Function) (d : ℕ) → function_depth f ≤ d → WritesFunction v d f → FunctionInTexts v f
function_stands v (function p e) d deep known = expression_stands v e d (omega arith) known

mutual
  term_stands : (v : Version) (t : Term) (d : ℕ) → d ≤ 64 → term_depth t ≤ d → WritesTerm v d t → TermInTexts v t
  term_stands v t zero small deep known = absurd (shallow t deep)
    where
      shallow : (t : Term) → term_depth t ≤ 0 → ⊥
      shallow (primitive p) deep = absurd (omega arith)
      shallow (reference r) deep = absurd (omega arith)
      shallow (joined j f g) deep = absurd (omega arith)
      shallow (sided s f) deep = absurd (omega arith)
      shallow (headed h e f) deep = absurd (omega arith)
      shallow (transformed h f) deep = absurd (omega arith)
      shallow (switching w f p g) deep = absurd (omega arith)
      shallow (continuing w f g k p u) deep = absurd (omega arith)
      shallow (gathered i) deep = absurd (omega arith)
      shallow (releasing w i g k p u) deep = absurd (omega arith)
      shallow (editing w i k p u) deep = absurd (omega arith)
      shallow (staged x f g) deep = absurd (omega arith)
  term_stands v (primitive (bare b)) (suc d) small deep known = tt
  term_stands v (primitive (probe k)) (suc d) small deep known = tt
  term_stands v (primitive (never t)) (suc d) small deep known = known.known
  term_stands v (primitive (with_value k e)) (suc d) small deep known = expression_stands v e d (omega arith) known
  term_stands v (primitive (timed k q e)) (suc d) small deep known = expression_stands v e d (omega arith) known
  term_stands v (primitive (selected k n)) (suc d) small deep known = tt
  term_stands v (primitive (arrow f)) (suc d) small deep known = function_stands v f d (omega arith) known
  term_stands v (primitive (accumulated k e f)) (suc d) small deep known = (expression_stands v e d (omega arith) known.0, function_stands v f d (omega arith) known.1)
  term_stands v (primitive (fused f)) (suc d) small deep known = absurd (omega arith)
  term_stands v (reference (started w k)) (suc d) small deep known = known
  term_stands v (reference (call g vs)) (suc d) small deep known = arguments_stand v vs d (omega arith) (omega arith) known
  term_stands v (joined j f g) (suc d) small deep known = (term_stands v f d (omega arith) (omega arith) known.0, term_stands v g d (omega arith) (omega arith) known.1)
  term_stands v (sided s f) (suc d) small deep known = term_stands v f d (omega arith) (omega arith) known
  term_stands v (headed h e f) (suc d) small deep known = (known.0, expression_stands v e d (omega arith) known.1, term_stands v f d (omega arith) (omega arith) known.2)
  term_stands v (transformed h f) (suc d) small deep known = (function_stands v h d (omega arith) known.0, term_stands v f d (omega arith) (omega arith) known.1)
  term_stands v (switching w f p g) (suc d) small deep known = (term_stands v f d (omega arith) (omega arith) known.0, term_stands v g d (omega arith) (omega arith) known.1)
  term_stands v (continuing w f g k p u) (suc d) small deep known =
      (term_stands v f d (omega arith) (omega arith) known.0, term_stands v g d (omega arith) (omega arith) known.1, term_stands v u d (omega arith) (omega arith) known.2)
  term_stands v (gathered i) (suc d) small deep known = collection_stands v i d (omega arith) (omega arith) known
  term_stands v (releasing w i g k p u) (suc d) small deep known =
      (collection_stands v i d (omega arith) (omega arith) known.0, term_stands v g d (omega arith) (omega arith) known.1, term_stands v u d (omega arith) (omega arith) known.2)
  term_stands v (editing w i k p u) (suc d) small deep known = (collection_stands v i d (omega arith) (omega arith) known.0, collection_stands v u d (omega arith) (omega arith) known.1)
  term_stands v (staged x f g) (suc d) small deep known = absurd (omega arith)

  collection_stands : (v : Version) (i : Collection) (d : ℕ) → d ≤ 64 → collection_depth i ≤ d → WritesCollection v d i → CollectionInTexts v i
  collection_stands v (without_members k t) zero small deep known = absurd (omega arith)
  collection_stands v (used x) zero small deep known = absurd (omega arith)
  collection_stands v (added i e t) zero small deep known = absurd (omega arith)
  collection_stands v (dropped i e) zero small deep known = absurd (omega arith)
  collection_stands v (kept i f) zero small deep known = absurd (omega arith)
  collection_stands v (chosen e i j) zero small deep known = absurd (omega arith)
  collection_stands v (without_members k t) (suc d) small deep known = (known.0, known.1.known)
  collection_stands v (used x) (suc d) small deep known = tt
  collection_stands v (added i e t) (suc d) small deep known = (collection_stands v i d (omega arith) (omega arith) known.0, expression_stands v e d (omega arith) known.1, term_stands v t d (omega arith) (omega arith) known.2)
  collection_stands v (dropped i e) (suc d) small deep known = (collection_stands v i d (omega arith) (omega arith) known.0, expression_stands v e d (omega arith) known.1)
  collection_stands v (kept i f) (suc d) small deep known = (collection_stands v i d (omega arith) (omega arith) known.0, function_stands v f d (omega arith) known.1)
  collection_stands v (chosen e i j) (suc d) small deep known =
      (expression_stands v e d (omega arith) known.0, collection_stands v i d (omega arith) (omega arith) known.1, collection_stands v j d (omega arith) (omega arith) known.2)

  arguments_stand : (v : Version) (vs : Arguments) (d : ℕ) → d ≤ 63 → arguments_depth vs ≤ d → WritesArguments v d vs → ArgumentsInTexts v vs
  arguments_stand v no_arguments d small deep known = tt
  arguments_stand v (value_argument e vs) d small deep known = (expression_stands v e d (omega arith) known.0, arguments_stand v vs d small (omega arith) known.1)
  arguments_stand v (process_argument t vs) d small deep known = (term_stands v t d (omega arith) (omega arith) known.0, arguments_stand v vs d small (omega arith) known.1)
  arguments_stand v (collection_argument i vs) d small deep known = (collection_stands v i d (omega arith) (omega arith) known.0, arguments_stand v vs d small (omega arith) known.1)
  arguments_stand v (closed_argument t vs) d small deep known = absurd (omega arith)

name_kind_stands : (v : Version) (k : NameKind) → WritesNameKind v k → NameKindInTexts v k
name_kind_stands v (value t) known = known.known
name_kind_stands v (process t u) known = (known.0.known, known.1.known)
name_kind_stands v (collection k t u) known = (known.0, known.1.known, known.2.known)

parameters_stand : (v : Version) (qs : Bindings) → All (λ (q : Name × NameKind). WritesNameKind v q.1) qs → All (λ (q : Name × NameKind). NameKindInTexts v q.1) qs
parameters_stand v [] known = All-nil (λ (q : Name × NameKind). NameKindInTexts v q.1)
parameters_stand v (q ∷ qs) known =
    All-cons (λ (q : Name × NameKind). NameKindInTexts v q.1) q qs (name_kind_stands v q.1 (All-head (λ (q : Name × NameKind). WritesNameKind v q.1) q qs known)) (parameters_stand v qs (All-tail (λ (q : Name × NameKind). WritesNameKind v q.1) q qs known))

template_stands : (v : Version) (t : Template) → HasWrittenTypes v t → term_depth t.body ≤ 64 → TemplateInTexts v t
template_stands v t typed deep = record {
  parameters = parameters_stand v t.parameters typed.parameters;
  input = typed.input.known;
  output = typed.output.known;
  body = term_stands v t.body 64 (omega arith) deep typed.body;
}

templates_stand : (v : Version) (p : Templates) → All (HasWrittenTypes v) p → All (λ (t : Template). term_depth t.body ≤ 64) p → All (TemplateInTexts v) p
templates_stand v [] typed deep = All-nil (TemplateInTexts v)
templates_stand v (t ∷ p) typed deep =
    let shallow : Template → Type 0 = λ t. term_depth t.body ≤ 64 in
    All-cons (TemplateInTexts v) t p (template_stands v t (All-head (HasWrittenTypes v) t p typed) (All-head shallow t p deep)) (templates_stand v p (All-tail (HasWrittenTypes v) t p typed) (All-tail shallow t p deep))

pub limits_stand : (v : Version) (p : Templates) → IsWithinLimits v p → All (TemplateInTexts v) p
limits_stand v p limits = templates_stand v p limits.typed limits.shallow
