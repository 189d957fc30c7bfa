-- A typed expression has an answer of its type, or a fault.
use Rattle.std.proofs.Common.{◌≡◌, Some, None, Bool, true, false, cond, refl, subst}
use Rattle.std.specs.Prelude.{Option, bytes_eq}
use Rattle.std.proofs.lemmas.Option.{same_Some}
use Rattle.sf_value.specs.Values.{Name, Kind, bool_kind, Data, HasKind, has_bool, has_pair}
use Rattle.sf_func.specs.Registries.{FunctionTypes, types_named}
use Rattle.sf_operator.specs.Operations.{truth_held, decided}
use Rattle.sf_operator.specs.Kinds.{called_kind}
use Rattle.sf_operator.proofs.SameKinds.{only_is, found_is, conditional_is}
use Rattle.sf_operator.proofs.Yielding.{unary_yields, operator_yields, decision_yields}
use Rattle.sf_operator.proofs.Forming.{and_yields, mapping_yields, folding_yields}
use Rattle.sf_expr.specs.Expressions.{Pattern, Expression, Function}
use Rattle.sf_expr.specs.Evaluation.{Evaluated, nonsense, known, Scope, scope_functions, value_of, bound_in, unless_decided, granted, eval, apply}
use Rattle.sf_expr.specs.Typing.{Names, type_of_name, functions_of, AddsNames, adds_nothing, adds_name, adds_both, HasType, variable_has, literal_has, pair_has, applied_has, operation_has, conditional_has, mapped_has, folded_has, called_has, FunctionTakes, function_takes}
use Rattle.sf_expr.specs.Soundness.{Yields, yields, fails, ScopeHas, has_no_names, has_name, has_other}

-- what is decided, and what is answered where nothing is
unless_yields : {t : Kind} (o : Option Data) {q : Evaluated Data} → ((d : Data) → o ≡ Some d → HasKind d t) → Yields t q → Yields t (unless_decided o q)
unless_yields (Some d) h k = yields (h d refl)
unless_yields None h k = k

-- one of two by a truth
chosen_yields : {t : Kind} {c : Data} {o q : Evaluated Data} → HasKind c bool_kind → Yields t o → Yields t q → Yields t (known (truth_held c) (λ b. cond b o q))
chosen_yields (has_bool {b = true}) h k = h
chosen_yields (has_bool {b = false}) h k = k

-- the value of a name has its type
pub value_has : {s : Scope} {R : Names} (x : Name) {t : Kind} → ScopeHas s R → type_of_name x R ≡ Some t → HasKind (value_of x s) t
value_has x (has_no_names k) e = absurd cc
value_has x {t} (has_name {x = y} {v = v} {t = u} {s = s} {R = R} p q) e = by_test (bytes_eq x y) e (value_has x q)
  where
    by_test : (c : Bool) → cond c (Some u) (type_of_name x R) ≡ Some t → (type_of_name x R ≡ Some t → HasKind (value_of x s) t) → HasKind (cond c v (value_of x s)) t
    by_test true e f = let same : u ≡ t = cc in subst (λ (k : Kind). HasKind v k) same p
    by_test false e f = f e
value_has x {t} (has_other {x = y} {s = s} {R = R} q) e = by_test (bytes_eq x y) e (value_has x q)
  where
    by_test : (c : Bool) → cond c None (type_of_name x R) ≡ Some t → (type_of_name x R ≡ Some t → HasKind (value_of x s) t) → HasKind (cond c nonsense (value_of x s)) t
    by_test true e f = absurd cc
    by_test false e f = f e

-- the names of a pattern have the types of the parts
pub bound_has : {p : Pattern} {t : Kind} {R S : Names} {d : Data} {s : Scope} → AddsNames p t R S → HasKind d t → ScopeHas s R → ScopeHas (bound_in p d s) S
bound_has adds_nothing h k = k
bound_has adds_name h k = has_name h k
bound_has (adds_both a b) (has_pair h i) k = bound_has b i (bound_has a h k)

-- what a function answers has the type that it makes
granted_yields : {t : Kind} (o : Option Data) → ((d : Data) → o ≡ Some d → HasKind d t) → Yields t (granted o)
granted_yields (Some d) h = yields (h d refl)
granted_yields None h = fails

call_yields : {s : Scope} {R : Names} (g : Name) {fs : FunctionTypes} {d : Data} → ScopeHas s R → types_named g (functions_of R) ≡ Some fs → HasKind d fs.from → Yields fs.to (granted (scope_functions s g d))
call_yields g {fs} {d} (has_no_names {f = f} keeps) e h = granted_yields (f g d) (λ a q. keeps g fs e d a h q)
call_yields g (has_name p k) e h = call_yields g k e h
call_yields g (has_other k) e h = call_yields g k e h

-- a typed expression yields its type
pub expression_yields : {R : Names} {s : Scope} {e : Expression} {t : Kind} → HasType R e t → ScopeHas s R → Yields t (eval e s)
expression_yields (variable_has {x = x} e f) k = yields (value_has x k e)
expression_yields (literal_has h f) k = yields h
expression_yields {s = s} (pair_has {i = i} {j = j} {t = t} {u = u} h l f) k =
    and_yields (expression_yields h k) (λ a p. and_yields (expression_yields l k) (λ b q. yields (has_pair p q)))
expression_yields {s = s} (applied_has {i = i} {o = o} {t = t} {u = u} h e f) k =
    and_yields (expression_yields h k) (λ a p. unary_yields o t u a p e)
expression_yields {s = s} (operation_has {i = i} {j = j} {op = op} {t = t} {u = u} {v = v} h l e f) k =
    and_yields (expression_yields h k) (λ a p. unless_yields (decided op a) (λ c d. decision_yields op t u v a c p e d)
    (and_yields (expression_yields l k) (λ b q. operator_yields op t u v a b p q e)))
expression_yields {s = s} (conditional_has {i = i} {j = j} {k = l} {c = c} {t = t} {u = u} {v = v} h a b e f) k =
    let same = conditional_is c t u v e in
    let Y : Expression → Kind → Type 0 = λ (i : Expression) (t : Kind). Yields t (eval i s) in
    and_yields (expression_yields h k) (λ d p. chosen_yields (subst (λ (c : Kind). HasKind d c) same.0 p)
    (subst (Y j) same.1 (expression_yields a k)) (subst (Y l) same.2 (expression_yields b k)))
expression_yields {s = s} (mapped_has {j = j} {m = m} {p = p} {t = t} {a = a} {u = u} {v = v} h e f b l g n) k =
    and_yields (expression_yields h k) (λ d q. mapping_yields m t a u v d (λ x. eval j (bound_in p x s)) q e g (λ x r. expression_yields l (bound_has b.adds r k)))
expression_yields {s = s} (folded_has {j = j} {k = c} {o = o} {p = p} {t = t} {u = u} {a = a} {v = v} {w = w} h l e f b q g n) k =
    and_yields (expression_yields h k) (λ d r. folding_yields o t u a v w d (eval j s) (λ x. eval c (bound_in p x s)) r (expression_yields l k) e g (λ x y. expression_yields q (bound_has b.adds y k)))
expression_yields {R = R} {s = s} (called_has {g = g} {t = t} {u = u} h e f) k =
    let found = found_is (types_named g (functions_of R)) (λ fs. called_kind fs.from fs.to t) e in
    let same = only_is t found.0.from (Some found.0.to) found.2 in
    let made : found.0.to ≡ u = same_Some _ _ same.1 in
    and_yields (expression_yields h k) (λ d q. subst (λ (u : Kind). Yields u (granted (scope_functions s g d))) made (call_yields g k found.1 (subst (λ (t : Kind). HasKind d t) same.0 q)))

-- a function yields the type that it takes its argument's to
pub function_yields : {R : Names} {s : Scope} {f : Function} {a b : Kind} {d : Data} → FunctionTakes R f a b → ScopeHas s R → HasKind d a → Yields b (apply f d s)
function_yields (function_takes fits binds h) k p = expression_yields h (bound_has binds.adds p k)
