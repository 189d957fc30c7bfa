-- The type that is judged is the one that an expression has, and what code answers.
use Rattle.std.proofs.Common.{◌≡◌, ℕ, zero, suc, ◌≤◌, ◌<◌, Bool, true, false, cond, IsTrue, List, [], ◌++◌, length, slice_index_or, IsErrAnd, ◌⊎◌, inl, inr, Option, Some, None, Result, Ok, Err, OnOk, ◌↔◌, refl, sym, ap, ◌∙◌, subst, arith}
use Rattle.std.specs.Prelude.{nat_le, bytes_eq, ◌&&◌}
use mathlib.Core.Path.{ap₂}
use Rattle.std.proofs.lemmas.Option.{same_Some}
use Rattle.std.proofs.lemmas.Bool.Decides.{nat_tests}
use Rattle.std.proofs.lemmas.List.{get_or_append_left}
use Rattle.sf_value.specs.Values.{Name, Kind, int_kind, unit_kind, bool_kind, pair_kind}
use Rattle.sf_value.specs.Values
use Rattle.sf_refusal.specs.declared.spot.Spot.{Spot}
use Rattle.sf_refusal.specs.declared.rule.Rule.{Rule}
use Rattle.sf_refusal.specs.declared.rule.Rule.TheVariants.{TypeTooLarge}
use Rattle.sf_refusal.specs.declared.refusal.Breach.{Breach}
use Rattle.sf_refusal.specs.declared.refusal.Refusal.{Refusal}
use Rattle.sf_refusal.specs.declared.refusal.Refusal.TheVariants.{Broken, Memory}
use Rattle.sf_refusal.specs.Refusals.{breach_of, broken, OrMemory, because, no_memory}
use Rattle.sf_refusal.proofs.Explained.{or_memory}
use Rattle.sf_arena.specs.declared.entry.Entry.{Entry}
use Rattle.sf_arena.specs.Arenas.{entries_of}
use Rattle.sf_arena.specs.Folded.{folded_tree}
use Rattle.sf_arena.proofs.Grown.{tree_made}
use Rattle.sf_operator.specs.Kinds.{unary_kind, binary_kind, conditional_kind, mapped_argument, mapped_kind, called_kind, folded_argument, folded_kind}
use Rattle.sf_operator.specs.declared.operator.Operator.{Operator}
use Rattle.sf_operator.specs.declared.operator.Unary.{Unary}
use Rattle.sf_operator.specs.declared.operator.Mapping.{Mapping}
use Rattle.sf_operator.specs.declared.operator.Folding.{Folding}
use Rattle.sf_operator.specs.Breaches.{KindRefused, AnswersKind}
use Rattle.sf_func.specs.Registries.{FunctionTypes, types_named}
use Rattle.sf_expr.specs.declared.exprs.ExprId.{ExprId}
use Rattle.sf_expr.specs.declared.exprs.FunctionId.{FunctionId}
use Rattle.sf_expr.specs.declared.exprs.ExprNode.{ExprNode}
use Rattle.sf_expr.specs.declared.exprs.ExprNode.TheVariants as nodes
use Rattle.sf_expr.specs.declared.exprs.Exprs.{Exprs}
use Rattle.sf_expr.specs.Expressions.{Pattern, Expression, names_of_pattern}
use Rattle.sf_expr.specs.Patterns.{PlacedPattern, pattern_of}
use Rattle.sf_expr.specs.Entries.{needs, has_narrow, zero_entry}
use Rattle.sf_expr.specs.Arena.{id_number, expression, node_expression, node_at, name_at, literal_at, spot_at, entry_of, argument_pattern, body_id, function_at, stored_pattern, PartsBelow}
use Rattle.sf_expr.specs.Typing.{Names, only_functions, typed_name, Fits, type_of_name, named_in, functions_of, call_kind, literal_kind, AllDifferent, AddsNames, adds_nothing, adds_name, adds_both, Binds, HasType, FunctionTakes, function_takes}
use Rattle.sf_expr.specs.Inference.{found_then, fitting, are_different, names_matched, names_bound, NamesFit, pair_type, applied_type, operation_type, conditional_type, expression_type}
use Rattle.sf_expr.specs.Judging.{◌>>=◌, matching_at, judged_fitting, naming_at, calling_at, judged_seen, judged_binding, Judge, bound_judged, form_judged, zero_judged, entry_judged, judged, function_judged, Stops, GivesFound}
use Rattle.sf_expr.specs.Refusals.{Types, TypesFunction, BindRefused, PatternRefused, Refused, Judges, AnswersPair, FunctionRefused, JudgesFunction}
use Rattle.sf_expr.proofs.Entered.{expression_node, parts_below, narrow_node, literal_valued}
use Rattle.sf_expr.proofs.Inferred.{test_fits, fitting_is, different, different_test, with_adds, adds_with, found_typed, typed_found}
use Rattle.sf_expr.proofs.Naming.{type_meant, type_named}
use Rattle.sf_expr.proofs.Apart.{Apart, apart_seen}

-- ## The equations

-- what an expression is judged by are its parts alone
local : (x : Exprs) (js more : List Judge) (entry : Entry ExprNode) → needs entry.node ≤ length js → entry_judged x (js ++ more) entry ≡ entry_judged x js entry
local x js more entry = at_node entry.spot entry.node
  where
    one : (i : ExprId) → suc i.0 ≤ length js → slice_index_or (js ++ more) i.0 zero_judged ≡ slice_index_or js i.0 zero_judged
    one i q = get_or_append_left js more zero_judged i.0 q

    at_node : (s : Spot) (n : ExprNode) → needs n ≤ length js → form_judged x (λ i. slice_index_or (js ++ more) i.0 zero_judged) s n ≡ form_judged x (λ i. slice_index_or js i.0 zero_judged) s n
    at_node s nodes.Unit h = refl
    at_node s (nodes.Truth b) h = refl
    at_node s (nodes.Int z) h = refl
    at_node s (nodes.Constant n) h = refl
    at_node s (nodes.Name n) h = refl
    at_node s (nodes.Pair i j) h = ap₂ {C = Judge} (λ (f g : Judge) (R : Names). f R >>= λ t. g R >>= λ u. judged_fitting s (Some (pair_kind t u))) (one i (omega arith)) (one j (omega arith))
    at_node s (nodes.Applied o i) h = ap {B = Judge} (λ (f : Judge) (R : Names). f R >>= λ t. judged_fitting s (unary_kind o t)) (one i (omega arith))
    at_node s (nodes.Operation i op j) h = ap₂ {C = Judge} (λ (f g : Judge) (R : Names). f R >>= λ t. g R >>= λ u. judged_fitting s (binary_kind op t u)) (one i (omega arith)) (one j (omega arith))
    at_node s (nodes.Conditional i j k) h =
        ap₂ {C = Judge} (λ (f : Judge) (g : Judge × Judge) (R : Names). f R >>= λ c. g.0 R >>= λ t. g.1 R >>= λ u. judged_fitting s (conditional_kind c t u)) (one i (omega arith)) (ap₂ (λ (f g : Judge). (f, g)) (one j (omega arith)) (one k (omega arith)))
    at_node s (nodes.Mapped n) h =
        ap₂ {C = Judge} (λ (f g : Judge) (R : Names). f R >>= λ t. judged_fitting s (mapped_argument n.mapping t) >>= λ a. (judged_binding s (stored_pattern x n.pattern) a R >>= g) >>= λ u. judged_fitting s (mapped_kind n.mapping t u)) (one n.part (omega arith)) (one n.body (omega arith))
    at_node s (nodes.Folded n) h =
        ap₂ {C = Judge} (λ (f : Judge) (g : Judge × Judge) (R : Names). f R >>= λ t. g.0 R >>= λ u. judged_fitting s (folded_argument n.folding t u) >>= λ a. (judged_binding s (stored_pattern x n.pattern) a R >>= g.1) >>= λ v. judged_fitting s (folded_kind n.folding t u v))
        (one n.first (omega arith)) (ap₂ (λ (f g : Judge). (f, g)) (one n.second (omega arith)) (one n.body (omega arith)))
    at_node s (nodes.Called g n i) h = ap {B = Judge} (λ (f : Judge) (R : Names). f R >>= λ t. calling_at n s (types_named (name_at x g) (functions_of R)) t) (one i (omega arith))

-- an expression is judged by its node
pub judged_form : (x : Exprs) (i : ExprId) → judged x i ≡ form_judged x (judged x) (spot_at x i) (node_at x i)
unfolding judged folded_tree spot_at node_at
judged_form x i = tree_made (entry_judged x) (λ e. needs e.node) zero_entry (local x) (entries_of x.arena) zero_judged (λ js. refl) x.ordered.in_order i.0

-- ## What code answers

-- what stops at the first step stops
pub stops_then : {A B : Type 0} (r : Refusal) (found : Result A Breach) (f : A → Result B Breach) → Stops r found → Stops r (found >>= f)
stops_then (Broken b) found f h = ap (λ j. j >>= f) h
stops_then Memory found f h = tt

-- and what stops after a step
pub goes_then : {A B : Type 0} (r : Refusal) (found : Result A Breach) (x : A) (f : A → Result B Breach) → found ≡ Ok x → Stops r (f x) → Stops r (found >>= f)
goes_then r found x f is h = subst (λ j. Stops r (j >>= f)) (sym is) h

-- what a `?` returns
pub answers_on : {A : Type 0} (answer : Result A Refusal) (r : Refusal) (found : Result A Breach) → IsErrAnd answer (λ e. e ≡ r) → Stops r found → GivesFound answer found
answers_on (Ok x) r found is h = absurd is
answers_on (Err g) r found is h = subst (λ r. Stops r found) (sym is) h

pub stops_broken : {A : Type 0} {r : Refusal} {rule : Rule} {at : Spot} {found : Result A Breach} → r ≡ broken rule at → found ≡ Err (breach_of rule at) → Stops r found
stops_broken {found = found} is h = subst (λ r. Stops r found) (sym is) h

pub answers_same : {A : Type 0} (r : Result A Refusal) {found other : Result A Breach} → found ≡ other → GivesFound r other → GivesFound r found
answers_same r e h = subst (GivesFound r) (sym e) h

pub fits_at : (at : Spot) (t : Kind) → Fits t → judged_fitting at (Some t) ≡ Ok t
fits_at at t h = ap (λ b. cond b (Ok t) (Err (breach_of TypeTooLarge at))) (test_fits t h)

too_large : (t : Kind) → 256 < Values.nodes t → nat_le (Values.nodes t) 256 ≡ false
too_large t h = grind (arith, nat_tests)

-- a type that operators answer
pub kind_answers : (o : Option Kind) (at : Spot) (r : Result Kind Refusal) → AnswersKind o at r → GivesFound r (judged_fitting at o)
kind_answers o at (Ok t) h = ap (judged_fitting at) h.0 ∙ fits_at at t h.1
kind_answers None at (Err (Broken b)) (because h) = ap Err (sym h)
kind_answers (Some t) at (Err (Broken b)) (because h) = ap (λ c. cond c (Ok t) (Err (breach_of TypeTooLarge at))) (too_large t h.1) ∙ ap Err (sym h.0)
kind_answers o at (Err Memory) h = tt

pub kind_stops : (o : Option Kind) {at spot : Spot} (r : Refusal) → spot ≡ at → OrMemory (KindRefused o spot) r → Stops r (judged_fitting at o)
kind_stops o r same h = subst (λ at. Stops r (judged_fitting at o)) same (kind_answers o _ (Err r) h)

-- ## What expressions have

abbrev pub accepted : {A : Type 0} → Result A Breach → Option A
accepted (Ok x) = Some x
accepted (Err b) = None

pub accepted_ok : {A : Type 0} (r : Result A Breach) (x : A) → accepted r ≡ Some x → r ≡ Ok x
accepted_ok (Ok y) x e = ap Ok (same_Some _ _ e)
accepted_ok (Err b) x e = absurd cc

fitting_found : (s : Spot) (o : Option Kind) → accepted (judged_fitting s o) ≡ found_then o fitting
fitting_found s None = refl
fitting_found s (Some t) = each (nat_le (Values.nodes t) 256)
  where
    each : (b : Bool) → accepted (cond b (Ok t) (Err (breach_of TypeTooLarge s))) ≡ cond b (Some t) None
    each true = refl
    each false = refl

naming_found : (s : Spot) (o : Option (Option Kind)) → accepted (naming_at s o) ≡ found_then (type_meant o) fitting
naming_found s None = refl
naming_found s (Some o) = fitting_found s o

calling_found : (n s : Spot) (o : Option FunctionTypes) (t : Kind) → accepted (calling_at n s o t) ≡ found_then (call_kind o t) fitting
calling_found n s None t = refl
calling_found n s (Some fs) t = fitting_found s (called_kind fs.from fs.to t)

-- the names of a pattern that is bound
binding_found : (s : Spot) (p : PlacedPattern) (t : Kind) (R : Names) → accepted (judged_binding s p t R) ≡ cond (are_different (names_of_pattern (pattern_of p))) (names_matched (pattern_of p) t R) None
unfolding judged_binding
binding_found s p t R = each (apart_seen [] p tt)
  where
    fits : (o : Option Names) → accepted (matching_at s o) ≡ o
    fits None = refl
    fits (Some S) = refl

    each : Apart [] p → accepted (judged_seen [] p >>= λ seen. matching_at s (names_matched (pattern_of p) t R)) ≡ cond (are_different (names_of_pattern (pattern_of p))) (names_matched (pattern_of p) t R) None
    each (inl h) = rw (h.0, different_test (names_of_pattern (pattern_of p)) h.1) (fits (names_matched (pattern_of p) t R))
    each (inr h) = rw (h.1, not_different (are_different (names_of_pattern (pattern_of p))) refl) refl
      where
        not_different : (b : Bool) → are_different (names_of_pattern (pattern_of p)) ≡ b → are_different (names_of_pattern (pattern_of p)) ≡ false
        not_different true e = absurd (h.2 (different (names_of_pattern (pattern_of p)) e))
        not_different false e = e

module _ (s : Spot) where
  pair_found : (r q : Result Kind Breach) → accepted (r >>= λ t. q >>= λ u. judged_fitting s (Some (pair_kind t u))) ≡ pair_type (accepted r) (accepted q)
  pair_found (Ok t) (Ok u) = fitting_found s (Some (pair_kind t u))
  pair_found (Ok t) (Err b) = refl
  pair_found (Err b) q = refl

  applied_found : (o : Unary) (r : Result Kind Breach) → accepted (r >>= λ t. judged_fitting s (unary_kind o t)) ≡ applied_type o (accepted r)
  applied_found o (Ok t) = fitting_found s (unary_kind o t)
  applied_found o (Err b) = refl

  operation_found : (op : Operator) (r q : Result Kind Breach) → accepted (r >>= λ t. q >>= λ u. judged_fitting s (binary_kind op t u)) ≡ operation_type op (accepted r) (accepted q)
  operation_found op (Ok t) (Ok u) = fitting_found s (binary_kind op t u)
  operation_found op (Ok t) (Err b) = refl
  operation_found op (Err b) q = refl

  conditional_found : (r q v : Result Kind Breach) → accepted (r >>= λ c. q >>= λ t. v >>= λ u. judged_fitting s (conditional_kind c t u)) ≡ conditional_type (accepted r) (accepted q) (accepted v)
  conditional_found (Ok c) (Ok t) (Ok u) = fitting_found s (conditional_kind c t u)
  conditional_found (Ok c) (Ok t) (Err b) = refl
  conditional_found (Ok c) (Err b) v = refl
  conditional_found (Err b) q v = refl

  call_found : (n : Spot) (o : Option FunctionTypes) (r : Result Kind Breach) → accepted (r >>= calling_at n s o) ≡ found_then (accepted r) (λ t. found_then (call_kind o t) fitting)
  call_found n o (Ok t) = calling_found n s o t
  call_found n o (Err b) = refl

  -- what stands behind a pattern
  module _ (p : PlacedPattern) (R : Names) (body : Judge) (found : Names → Option Kind) (same : (S : Names) → accepted (body S) ≡ found S) where
    body_found : (r : Result Names Breach) (made : Kind → Option Kind) → accepted ((r >>= body) >>= λ u. judged_fitting s (made u)) ≡ found_then (accepted r) (λ S. found_then (found S) (λ u. found_then (made u) fitting))
    body_found (Ok S) made = each (body S) ∙ ap (λ o. found_then o (λ u. found_then (made u) fitting)) (same S)
      where
        each : (r : Result Kind Breach) → accepted (r >>= λ u. judged_fitting s (made u)) ≡ found_then (accepted r) (λ u. found_then (made u) fitting)
        each (Ok u) = fitting_found s (made u)
        each (Err b) = refl
    body_found (Err b) made = refl

    bound_found : (o : Option Kind) (made : Kind → Option Kind) → accepted (judged_fitting s o >>= λ a. bound_judged s p a body R >>= λ u. judged_fitting s (made u))
        ≡ found_then o (λ a. found_then (names_bound (pattern_of p) a R) (λ S. found_then (found S) (λ u. found_then (made u) fitting)))
    bound_found None made = refl
    bound_found (Some a) made = each (nat_le (Values.nodes a) 256)
      where
        each : (b : Bool) → accepted (cond b (Ok a) (Err (breach_of TypeTooLarge s)) >>= λ a. bound_judged s p a body R >>= λ u. judged_fitting s (made u))
            ≡ found_then (cond (b && are_different (names_of_pattern (pattern_of p))) (names_matched (pattern_of p) a R) None) (λ S. found_then (found S) (λ u. found_then (made u) fitting))
        each true = body_found (judged_binding s p a R) made ∙ ap (λ o. found_then o (λ S. found_then (found S) (λ u. found_then (made u) fitting))) (binding_found s p a R)
        each false = refl

    mapped_found : (m : Mapping) (r : Result Kind Breach) → accepted (r >>= λ t. judged_fitting s (mapped_argument m t) >>= λ a. bound_judged s p a body R >>= λ u. judged_fitting s (mapped_kind m t u))
        ≡ found_then (accepted r) (λ t. found_then (mapped_argument m t) (λ a. found_then (names_bound (pattern_of p) a R) (λ S. found_then (found S) (λ u. found_then (mapped_kind m t u) fitting))))
    mapped_found m (Ok t) = bound_found (mapped_argument m t) (mapped_kind m t)
    mapped_found m (Err b) = refl

    folded_found : (o : Folding) (r q : Result Kind Breach) → accepted (r >>= λ t. q >>= λ u. judged_fitting s (folded_argument o t u) >>= λ a. bound_judged s p a body R >>= λ v. judged_fitting s (folded_kind o t u v))
        ≡ found_then (accepted r) (λ t. found_then (accepted q) (λ u. found_then (folded_argument o t u) (λ a. found_then (names_bound (pattern_of p) a R) (λ S. found_then (found S) (λ v. found_then (folded_kind o t u v) fitting)))))
    folded_found o (Ok t) (Ok u) = bound_found (folded_argument o t u) (folded_kind o t u)
    folded_found o (Ok t) (Err b) = refl
    folded_found o (Err b) q = refl

node_parts : (x : Exprs) (i : ExprId) → PartsBelow (node_at x i) (id_number i)
unfolding node_at entry_of
node_parts x i = parts_below x i

node_narrow : (x : Exprs) (i : ExprId) → IsTrue (has_narrow (node_at x i))
unfolding node_at entry_of
node_narrow x i = narrow_node x i

-- The type that is judged is the one that is found.
module _ (x : Exprs) (i : ExprId) (R : Names) (part : (j : ExprId) → id_number j < id_number i → (S : Names) → accepted (judged x j S) ≡ expression_type S (expression x j)) where
  form_found : (s : Spot) (n : ExprNode) → PartsBelow n (id_number i) → IsTrue (has_narrow n) → accepted (form_judged x (judged x) s n R) ≡ expression_type R (node_expression x n)
  form_found s nodes.Unit p w = sym (fitting_is unit_kind (omega arith))
  form_found s (nodes.Truth b) p w = sym (fitting_is bool_kind (omega arith))
  form_found s (nodes.Int z) p w = sym (ap (λ b. cond b (fitting int_kind) None) w ∙ fitting_is int_kind (omega arith))
  form_found s (nodes.Constant n) p w = fitting_found s (Some (literal_kind (literal_at x n))) ∙ sym (ap (λ b. cond b (fitting (literal_kind (literal_at x n))) None) (literal_valued x n))
  form_found s (nodes.Name n) p w = naming_found s (named_in (name_at x n) R) ∙ ap (λ o. found_then o fitting) (sym (type_named (name_at x n) R))
  form_found s (nodes.Pair a b) p w = pair_found s (judged x a R) (judged x b R) ∙ ap₂ pair_type (part a p.0 R) (part b p.1 R)
  form_found s (nodes.Applied o a) p w = applied_found s o (judged x a R) ∙ ap (applied_type o) (part a p R)
  form_found s (nodes.Operation a op b) p w = operation_found s op (judged x a R) (judged x b R) ∙ ap₂ (operation_type op) (part a p.0 R) (part b p.1 R)
  form_found s (nodes.Conditional a b c) p w = rw (sym (part a p.0 R), sym (part b p.1 R), sym (part c p.2 R)) (conditional_found s (judged x a R) (judged x b R) (judged x c R))
  form_found s (nodes.Mapped n) p w = rw (sym (part n.part p.0 R)) (mapped_found s (stored_pattern x n.pattern) R (judged x n.body) (λ S. expression_type S (expression x n.body)) (part n.body p.1) n.mapping (judged x n.part R))
  form_found s (nodes.Folded n) p w = rw (sym (part n.first p.0 R), sym (part n.second p.1 R)) (folded_found s (stored_pattern x n.pattern) R (judged x n.body) (λ S. expression_type S (expression x n.body)) (part n.body p.2) n.folding (judged x n.first R) (judged x n.second R))
  form_found s (nodes.Called g n a) p w = rw (sym (part a p R)) (call_found s n (types_named (name_at x g) (functions_of R)) (judged x a R))

found_within : (x : Exprs) (fuel : ℕ) (i : ExprId) (R : Names) → id_number i < fuel → accepted (judged x i R) ≡ expression_type R (expression x i)
found_within x zero i R h = absurd (omega arith)
found_within x (suc fuel) i R h =
    ap (λ (j : Judge). accepted (j R)) (judged_form x i)
    ∙ form_found x i R (λ j k S. found_within x fuel j S (omega arith)) (spot_at x i) (node_at x i) (node_parts x i) (node_narrow x i)
    ∙ ap (expression_type R) (sym (expression_node x i))

judged_found : (x : Exprs) (i : ExprId) (R : Names) → accepted (judged x i R) ≡ expression_type R (expression x i)
judged_found x i R = found_within x (suc (id_number i)) i R (omega arith)

-- an expression has a type where it is judged to have it
pub judged_typed : (x : Exprs) (R : Names) (i : ExprId) (t : Kind) → judged x i R ≡ Ok t → HasType R (expression x i) t
judged_typed x R i t e = found_typed R (expression x i) t (sym (judged_found x i R) ∙ ap accepted e)

pub typed_judged : (x : Exprs) (R : Names) (i : ExprId) (t : Kind) → HasType R (expression x i) t → judged x i R ≡ Ok t
typed_judged x R i t h = accepted_ok (judged x i R) t (judged_found x i R ∙ typed_found h)

pub judged_if_typed : (x : Exprs) (R : Names) (i : ExprId) (t : Kind) → HasType R (expression x i) t ↔ (judged x i R ≡ Ok t)
judged_if_typed x R i t = (typed_judged x R i t, judged_typed x R i t)

-- an expression has at most one type
pub one_type : {R : Names} {e : Expression} {t u : Kind} → HasType R e t → HasType R e u → t ≡ u
one_type h k = same_Some _ _ (sym (typed_found h) ∙ typed_found k)

-- what is refused has no type
pub refused_untyped : {x : Exprs} {R : Names} {i : ExprId} {r : Breach} {t : Kind} → Refused x R i r → HasType R (expression x i) t → ⊥
refused_untyped {x} {R} {i} {r} {t} h k = let is = typed_judged x R i t k in let no = h.first in absurd cc

-- one refusal at most
pub refused_once : {x : Exprs} {R : Names} {i : ExprId} {r q : Breach} → Refused x R i r → Refused x R i q → r ≡ q
refused_once h k = let a = h.first in let b = k.first in cc

-- a type, or a refusal
abbrev pub IsAnswered : Exprs → Names → ExprId → Type 0
IsAnswered x R i = ((t : Kind) × HasType R (expression x i) t) ⊎ ((r : Breach) × Refused x R i r)

pub answered : (x : Exprs) (R : Names) (i : ExprId) → IsAnswered x R i
answered x R i = each (judged x i R) refl
  where
    each : (j : Result Kind Breach) → judged x i R ≡ j → IsAnswered x R i
    each (Ok t) e = inl (t, judged_typed x R i t e)
    each (Err b) e = inr (b, record { first = e })

-- ## Patterns and functions

pub binding_binds : (at : Spot) (p : PlacedPattern) (t : Kind) (R S : Names) → judged_binding at p t R ≡ Ok S → Binds (pattern_of p) t R S
binding_binds at p t R S e = each (are_different (names_of_pattern (pattern_of p))) refl (sym (binding_found at p t R) ∙ ap accepted e)
  where
    each : (b : Bool) → are_different (names_of_pattern (pattern_of p)) ≡ b → cond b (names_matched (pattern_of p) t R) None ≡ Some S → Binds (pattern_of p) t R S
    each true d h = record { adds = with_adds (pattern_of p) t R S h; apart = different (names_of_pattern (pattern_of p)) d }
    each false d h = absurd cc

pub binds_binding : (at : Spot) (p : PlacedPattern) {t : Kind} {R S : Names} → Binds (pattern_of p) t R S → judged_binding at p t R ≡ Ok S
binds_binding at p {t} {R} {S} b = accepted_ok (judged_binding at p t R) S (binding_found at p t R ∙ ap (λ d. cond d (names_matched (pattern_of p) t R) None) (different_test (names_of_pattern (pattern_of p)) b.apart) ∙ adds_with b.adds)

pub pattern_unbound : {p : PlacedPattern} {t : Kind} {at : Spot} {r : Breach} {R S : Names} → PatternRefused p t at r → Binds (pattern_of p) t R S → ⊥
pattern_unbound {p} {at = at} {R = R} h b = let is = binds_binding at p b in let no = h.first R in absurd cc

pub pattern_once : {p : PlacedPattern} {t : Kind} {at : Spot} {r q : Breach} → PatternRefused p t at r → PatternRefused p t at q → r ≡ q
pattern_once h k = let a = h.first (only_functions []) in let b = k.first (only_functions []) in cc

-- a pattern that fits a type adds names to any others
adds_any : {p : Pattern} {t : Kind} {R S : Names} → AddsNames p t R S → (T : Names) → (U : Names) × AddsNames p t T U
adds_any adds_nothing T = (T, adds_nothing)
adds_any (adds_name {x = n} {t = t}) T = (typed_name n t T, adds_name)
adds_any (adds_both a b) T =
    let first = adds_any a T in
    let second = adds_any b first.0 in
    (second.0, adds_both first.1 second.1)

-- what is refused is refused whatever names stand around
pub refused_around : (at : Spot) (p : PlacedPattern) (t : Kind) (R : Names) (b : Breach) → judged_binding at p t R ≡ Err b → PatternRefused p t at b
unfolding judged_binding
refused_around at p t R b h = record { first = λ T. each T (judged_seen [] p) (names_matched (pattern_of p) t R) (names_matched (pattern_of p) t T) refl refl h }
  where
    each : (T : Names) (seen : Result (List Name) Breach) (o q : Option Names) → names_matched (pattern_of p) t R ≡ o → names_matched (pattern_of p) t T ≡ q → (seen >>= λ ns. matching_at at o) ≡ Err b → (seen >>= λ ns. matching_at at q) ≡ Err b
    each T (Err c) o q e f h = h
    each T (Ok ns) None None e f h = h
    each T (Ok ns) None (Some S) e f h = let other = adds_with (adds_any (with_adds (pattern_of p) t T S f) R).1 in absurd cc
    each T (Ok ns) (Some S) q e f h = absurd cc

-- the names that are added fit
named_fit : (n : Name) (t : Kind) (R : Names) → Fits t → NamesFit R → NamesFit (typed_name n t R)
named_fit n t R f fit y u = each (bytes_eq y n)
  where
    each : (b : Bool) → cond b (Some t) (type_of_name y R) ≡ Some u → Fits u
    each true e = let is : t ≡ u = cc in subst (λ (t : Kind). Fits t) is f
    each false e = fit y u e

adds_fit : {p : Pattern} {t : Kind} {R S : Names} → AddsNames p t R S → Fits t → NamesFit R → NamesFit S
adds_fit adds_nothing f fit = fit
adds_fit (adds_name {x = n} {t = t} {R = R}) f fit = named_fit n t R f fit
adds_fit (adds_both a b) f fit = adds_fit b (omega arith) (adds_fit a (omega arith) fit)

-- a pattern is bound to a type, or refused
abbrev pub IsBound : Names → PlacedPattern → Kind → Spot → Type 0
IsBound R p t at = ((S : Names) × Binds (pattern_of p) t R S × NamesFit S) ⊎ ((r : Breach) × PatternRefused p t at r)

pub bound_or : (R : Names) (p : PlacedPattern) (t : Kind) (at : Spot) → NamesFit R → Fits t → IsBound R p t at
bound_or R p t at fit fits = each (judged_binding at p t R) refl
  where
    each : (j : Result Names Breach) → judged_binding at p t R ≡ j → IsBound R p t at
    each (Ok S) e = let b = binding_binds at p t R S e in inl (S, b, adds_fit b.adds fits fit)
    each (Err r) e = inr (r, refused_around at p t R r e)

module _ (x : Exprs) (R : Names) (f : FunctionId) (at : Spot) (t u : Kind) where
  pub function_typed : Fits t → function_judged x f at t R ≡ Ok u → FunctionTakes R (function_at x f) t u
  unfolding function_judged
  function_typed fits = each (judged_binding at (argument_pattern x f) t R) refl
    where
      each : (j : Result Names Breach) → judged_binding at (argument_pattern x f) t R ≡ j → (j >>= judged x (body_id x f)) ≡ Ok u → FunctionTakes R (function_at x f) t u
      each (Ok S) e h = function_takes fits (binding_binds at (argument_pattern x f) t R S e) (judged_typed x S (body_id x f) u h)
      each (Err b) e h = absurd cc

  pub takes_judged : FunctionTakes R (function_at x f) t u → function_judged x f at t R ≡ Ok u
  unfolding function_judged
  takes_judged (function_takes {S = S} fits binds h) = ap (λ j. j >>= judged x (body_id x f)) (binds_binding at (argument_pattern x f) binds) ∙ typed_judged x S (body_id x f) u h

pub refused_takes_none : {x : Exprs} {R : Names} {f : FunctionId} {a : Kind} {at : Spot} {r : Breach} {b : Kind} → FunctionRefused x R f a at r → FunctionTakes R (function_at x f) a b → ⊥
refused_takes_none {x} {R} {f} {a} {at} {r} {b} h k = let is = takes_judged x R f at a b k in let no = h.first in absurd cc

pub function_refused_once : {x : Exprs} {R : Names} {f : FunctionId} {a : Kind} {at : Spot} {r q : Breach} → FunctionRefused x R f a at r → FunctionRefused x R f a at q → r ≡ q
function_refused_once h k = let a = h.first in let b = k.first in cc

abbrev pub IsAnsweredFunction : Exprs → Names → FunctionId → Kind → Spot → Type 0
IsAnsweredFunction x R f a at = ((b : Kind) × FunctionTakes R (function_at x f) a b) ⊎ ((r : Breach) × FunctionRefused x R f a at r)

pub function_answered : (x : Exprs) (R : Names) (f : FunctionId) (a : Kind) (at : Spot) → Fits a → IsAnsweredFunction x R f a at
function_answered x R f a at fits = each (function_judged x f at a R) refl
  where
    each : (j : Result Kind Breach) → function_judged x f at a R ≡ j → IsAnsweredFunction x R f a at
    each (Ok b) e = inl (b, function_typed x R f at a b fits e)
    each (Err r) e = inr (r, record { first = e })

-- ## What is said of answers

-- a refusal that stops is explained by what is found
pub stops_so : {A : Type 0} {P : Breach → Type 0} (r : Refusal) (found : Result A Breach) → ((b : Breach) → found ≡ Err b → P b) → Stops r found → OrMemory P r
stops_so (Broken b) found f h = because (f b h)
stops_so Memory found f h = no_memory

pub answers_judge : (x : Exprs) (R : Names) (i : ExprId) (r : Result Kind Refusal) → GivesFound r (judged x i R) → Judges x R i r
answers_judge x R i (Ok t) h = judged_typed x R i t h
answers_judge x R i (Err r) h = stops_so r (judged x i R) (λ b e. record { first = e }) h

pub judged_types : (x : Exprs) (R : Names) (i : ExprId) (r : Result Kind Refusal) → Judges x R i r → Types R (expression x i) r
judged_types x R i (Ok t) h = h
judged_types x R i (Err r) h = or_memory (λ b k t l. refused_untyped k l) h

pub answers_types : (x : Exprs) (R : Names) (i : ExprId) (r : Result Kind Refusal) → GivesFound r (judged x i R) → Types R (expression x i) r
answers_types x R i r h = judged_types x R i r (answers_judge x R i r h)

pub answers_function : (x : Exprs) (f : FunctionId) (at : Spot) (t : Kind) (R : Names) {p : PlacedPattern} {i : ExprId} (r : Result Kind Refusal) → p ≡ argument_pattern x f → i ≡ body_id x f → GivesFound r (bound_judged at p t (judged x i) R) → GivesFound r (function_judged x f at t R)
unfolding function_judged
answers_function x f at t R r e g h = answers_same r (sym (ap₂ (λ (p : PlacedPattern) (i : ExprId). bound_judged at p t (judged x i) R) e g)) h

pub answers_judge_function : (x : Exprs) (R : Names) (f : FunctionId) (a : Kind) (at : Spot) (r : Result Kind Refusal) → OnOk r (Fits a) → GivesFound r (function_judged x f at a R) → JudgesFunction x R f a at r
answers_judge_function x R f a at (Ok b) fits h = function_typed x R f at a b fits h
answers_judge_function x R f a at (Err r) fits h = stops_so r (function_judged x f at a R) (λ b e. record { first = e }) h

pub judged_types_function : (x : Exprs) (R : Names) (f : FunctionId) (a : Kind) (at : Spot) (r : Result Kind Refusal) → JudgesFunction x R f a at r → TypesFunction R (function_at x f) a r
judged_types_function x R f a at (Ok b) h = h
judged_types_function x R f a at (Err r) h = or_memory (λ b k t l. refused_takes_none k l) h

-- a type of pairs, as it is answered
pub answers_pair : (t u : Kind) (s : Spot) (r : Result Kind Refusal) → AnswersKind (Some (pair_kind t u)) s r → AnswersPair t u s r
answers_pair t u s (Ok w) h = (same_Some _ _ (sym h.0), h.1)
answers_pair t u s (Err r) h = h

pub pair_answers : (t u : Kind) (s : Spot) (r : Result Kind Refusal) → AnswersPair t u s r → GivesFound r (judged_fitting s (Some (pair_kind t u)))
pair_answers t u s (Ok w) h = kind_answers (Some (pair_kind t u)) s (Ok w) (ap Some (sym h.0), h.1)
pair_answers t u s (Err r) h = kind_answers (Some (pair_kind t u)) s (Err r) h

-- ## Patterns of code

-- a pattern that is refused, by its names or by the type
pub names_refuse : (p : PlacedPattern) (t : Kind) (at : Spot) (r : Refusal) → Stops r (judged_seen [] p) → OrMemory (PatternRefused p t at) r
unfolding judged_binding
names_refuse p t at r h = stops_so r (judged_seen [] p) (λ b e. record { first = λ R. ap (λ j. j >>= λ ns. matching_at at (names_matched (pattern_of p) t R)) e }) h

pub seen_differ : (p : PlacedPattern) {ns : List Name} → judged_seen [] p ≡ Ok ns → AllDifferent (names_of_pattern (pattern_of p))
seen_differ p e = elim (apart_seen [] p tt) [ inl h ↦ h.1 | inr h ↦ let no = h.1 in absurd cc ]

pub type_refuses : (p : PlacedPattern) (t : Kind) (at : Spot) {r : Refusal} {ns : List Name} → judged_seen [] p ≡ Ok ns → OrMemory (BindRefused (pattern_of p) t at) r → OrMemory (PatternRefused p t at) r
unfolding judged_binding
type_refuses p t at seen = or_memory (λ b k. record { first = λ R. ap (λ j. j >>= λ ns. matching_at at (names_matched (pattern_of p) t R)) seen ∙ each R (names_matched (pattern_of p) t R) refl k })
  where
    each : (R : Names) {b : Breach} (o : Option Names) → names_matched (pattern_of p) t R ≡ o → BindRefused (pattern_of p) t at b → matching_at at o ≡ Err b
    each R None e k = ap Err (sym k.0)
    each R (Some S) e k = absurd (k.1 R S (with_adds (pattern_of p) t R S e))
