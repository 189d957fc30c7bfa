-- Expressions, functions and primitives are worth the same in two scopes where the names that they mention have the same values.
use Rattle.std.proofs.Common.{◌≡◌, ◌≢◌, Bool, true, false, inl, inr, cond, [], ◌∷◌, refl, ap, ◌∙◌, sym, Option, Some, None}
use Rattle.std.specs.Prelude.{bytes_eq}
use Rattle.std.proofs.lemmas.Slice.Eq.{bytes_eq-Decides}
use mathlib.Core.Path.{ap₂, fun_ext}
use Rattle.sf_value.specs.Values.{Name, Data, pair, first_of, second_of}
use Rattle.sf_func.specs.Registries.{AnswersByName}
use Rattle.sf_operator.specs.Operations.{truth_held, unary_value, decided, operated}
use Rattle.sf_operator.specs.FunctionForms.{mapped_value, folded_value}
use Rattle.sf_expr.specs.Expressions.{Pattern, unnamed, named, both, Expression, variable, literal, paired, applied, operation, conditional, mapped, folded, called, Function, function}
use Rattle.sf_expr.specs.Evaluation.{Evaluated, answer, ◌>>=◌, Scope, scope_functions, value_of, bound_in, unless_decided, granted, eval, apply, known}
use Rattle.sf_term.specs.declared.form.Accumulation.{Accumulation}
use Rattle.sf_term.specs.declared.form.Accumulation.TheVariants.{EdgeBy, AccumBy, AccumHoldBy, Scan}
use Rattle.sf_term.specs.Trees.{Chain, lone, chained, on_side, on_both, fanned, Primitive, bare, probe, never, with_value, timed, selected, arrow, accumulated, fused}
use Rattle.sf_mean.specs.Lives.{Step, input_of, Life}
use Rattle.sf_mean.specs.Formulas.{side_of, side_replaced, value_formula, timed_formula, before, occurring, next_value, accumulation, event_where, accumulated_formula, apply_chain, formula}
use Rattle.sf_coincidence.specs.Mentions.{BindsOthers, ExpressionMentions, FunctionMentions, ChainMentions, PrimitiveMentions}

-- ## Inside a pattern

functions_bound : (p : Pattern) (d : Data) (s : Scope) → scope_functions (bound_in p d s) ≡ scope_functions s
functions_bound unnamed d s = refl
functions_bound (named y) d s = refl
functions_bound (both p q) d s = functions_bound q (second_of d) (bound_in p (first_of d) s) ∙ functions_bound p (first_of d) s

pub values_by_test : (b : Bool) (v : Data) {d e : Data} → (b ≡ false → d ≡ e) → cond b v d ≡ cond b v e
values_by_test true v h = refl
values_by_test false v h = h refl

-- names that are told apart
pub differs : (x y : Name) → bytes_eq x y ≡ false → y ≢ x
differs x y h = λ same. let equal : bytes_eq x y ≡ true = (bytes_eq-Decides x y).1 (sym same) in cc

value_bound : (x : Name) (p : Pattern) (d : Data) (s t : Scope) → (BindsOthers p x → value_of x s ≡ value_of x t) → value_of x (bound_in p d s) ≡ value_of x (bound_in p d t)
value_bound x unnamed d s t h = h tt
value_bound x (named y) d s t h = values_by_test (bytes_eq x y) d (λ k. h (differs x y k))
value_bound x (both p q) d s t h = value_bound x q (second_of d) (bound_in p (first_of d) s) (bound_in p (first_of d) t) (λ k. value_bound x p (first_of d) s t (λ l. h (l, k)))

-- ## Expressions

-- these names have the same values in both scopes, which have the same functions
pub record Agrees (M : Name → Type 0) (s t : Scope) : Type 0 where
  pub functions : scope_functions s ≡ scope_functions t
  pub values : (x : Name) → M x → value_of x s ≡ value_of x t

-- so have fewer names
pub fewer : {M N : Name → Type 0} {s t : Scope} → ((x : Name) → N x → M x) → Agrees M s t → Agrees N s t
fewer f A = record { functions = A.functions; values = λ x h. A.values x (f x h) }

agrees_inside : {M : Name → Type 0} {s t : Scope} (p : Pattern) (d : Data) → Agrees (λ x. M x × BindsOthers p x) s t → Agrees M (bound_in p d s) (bound_in p d t)
agrees_inside {s = s} {t = t} p d A = record {
  functions = functions_bound p d s ∙ A.functions ∙ sym (functions_bound p d t);
  values = λ x h. value_bound x p d s t (λ k. A.values x (h, k));
}

pub same_worth : (i : Expression) (s t : Scope) → Agrees (ExpressionMentions i) s t → eval i s ≡ eval i t
same_worth (variable x) s t A = ap answer (A.values x refl)
same_worth (literal l) s t A = refl
same_worth (paired i j) s t A =
    ap₂ (λ (a b : Evaluated Data). a >>= λ x. b >>= λ y. answer (pair x y)) (same_worth i s t (fewer (λ x h. inl h) A)) (same_worth j s t (fewer (λ x h. inr h) A))
same_worth (applied o i) s t A = ap (λ (a : Evaluated Data). a >>= unary_value o) (same_worth i s t A)
same_worth (operation i o j) s t A =
    ap₂ (λ (a b : Evaluated Data). a >>= λ x. unless_decided (decided o x) (b >>= operated o x)) (same_worth i s t (fewer (λ x h. inl h) A)) (same_worth j s t (fewer (λ x h. inr h) A))
same_worth (conditional i j k) s t A =
    ap (λ (a : Evaluated Data). a >>= λ c. known (truth_held c) (λ b. cond b (eval j s) (eval k s))) (same_worth i s t (fewer (λ x h. inl h) A))
    ∙ ap₂ (λ (y z : Evaluated Data). eval i t >>= λ c. known (truth_held c) (λ b. cond b y z)) (same_worth j s t (fewer (λ x h. inr (inl h)) A)) (same_worth k s t (fewer (λ x h. inr (inr h)) A))
same_worth (mapped i m p j) s t A =
    ap₂ (λ (a : Evaluated Data) (f : Data → Evaluated Data). a >>= λ d. mapped_value m d f)
    (same_worth i s t (fewer (λ x h. inl h) A))
    (fun_ext (λ d. same_worth j (bound_in p d s) (bound_in p d t) (agrees_inside p d (fewer (λ x h. inr h) A))))
same_worth (folded i o j p k) s t A =
    ap (λ (a : Evaluated Data). a >>= λ d. folded_value o d (eval j s) (λ x. eval k (bound_in p x s))) (same_worth i s t (fewer (λ x h. inl h) A))
    ∙ ap₂ (λ (b : Evaluated Data) (f : Data → Evaluated Data). eval i t >>= λ d. folded_value o d b f)
    (same_worth j s t (fewer (λ x h. inr (inl h)) A))
    (fun_ext (λ d. same_worth k (bound_in p d s) (bound_in p d t) (agrees_inside p d (fewer (λ x h. inr (inr h)) A))))
same_worth (called g i) s t A = ap₂ (λ (a : Evaluated Data) (φ : AnswersByName). a >>= λ x. granted (φ g x)) (same_worth i s t A) A.functions

pub same_answer : (f : Function) (d : Data) (s t : Scope) → Agrees (FunctionMentions f) s t → apply f d s ≡ apply f d t
same_answer (function p i) d s t A = same_worth i (bound_in p d s) (bound_in p d t) (agrees_inside p d A)

-- ## Primitives

same_chain : (f : Chain) (d : Data) (s t : Scope) → Agrees (ChainMentions f) s t → apply_chain f d s ≡ apply_chain f d t
same_chain (lone f) d s t A = same_answer f d s t A
same_chain (chained f g) d s t A =
    ap₂ (λ (a : Evaluated Data) (k : Data → Evaluated Data). a >>= k) (same_chain f d s t (fewer (λ x h. inl h) A)) (fun_ext (λ y. same_chain g y s t (fewer (λ x h. inr h) A)))
same_chain (on_side a f) d s t A = ap (λ (b : Evaluated Data). b >>= λ y. answer (side_replaced a d y)) (same_chain f (side_of a d) s t A)
same_chain (on_both f g) d s t A =
    ap₂ (λ (a b : Evaluated Data). a >>= λ y. b >>= λ z. answer (pair y z)) (same_chain f (first_of d) s t (fewer (λ x h. inl h) A)) (same_chain g (second_of d) s t (fewer (λ x h. inr h) A))
same_chain (fanned f g) d s t A =
    ap₂ (λ (a b : Evaluated Data). a >>= λ y. b >>= λ z. answer (pair y z)) (same_chain f d s t (fewer (λ x h. inl h) A)) (same_chain g d s t (fewer (λ x h. inr h) A))

same_next : (f : Function) (s t : Scope) → Agrees (FunctionMentions f) s t → (w : Data) (o : Option Data) → next_value f s w o ≡ next_value f t w o
same_next f s t A w None = refl
same_next f s t A w (Some x) = same_answer f (pair w x) s t A

same_accumulation : (coming : Data → Option Data) (f : Function) (s t : Scope) → Agrees (FunctionMentions f) s t → (v : Data) (L : Life) → accumulation coming f s v L ≡ accumulation coming f t v L
same_accumulation coming f s t A v [] = refl
same_accumulation coming f s t A v (r ∷ L) =
    ap₂ (λ (a : Evaluated Data) (g : Data → Evaluated Data). a >>= g) (same_accumulation coming f s t A v L) (fun_ext (λ w. same_next f s t A w (coming (input_of r))))

same_accumulated : (k : Accumulation) (f : Function) (s t : Scope) → Agrees (FunctionMentions f) s t → (v : Data) (r : Step) (L : Life) → accumulated_formula k f s v r L ≡ accumulated_formula k f t v r L
same_accumulated EdgeBy f s t A v r L = same_answer f (pair (before v L) (input_of r)) s t A
same_accumulated AccumBy f s t A v r L = ap (λ (a : Evaluated Data). a >>= λ w. answer (event_where (occurring (input_of r)) w)) (same_accumulation occurring f s t A v (r ∷ L))
same_accumulated AccumHoldBy f s t A v r L = same_accumulation occurring f s t A v (r ∷ L)
same_accumulated Scan f s t A v r L = same_accumulation Some f s t A v (r ∷ L)

pub same_formula : (p : Primitive) (s t : Scope) → Agrees (PrimitiveMentions p) s t → (r : Step) (L : Life) → formula p s r L ≡ formula p t r L
same_formula (bare k) s t A r L = refl
same_formula (probe k) s t A r L = refl
same_formula (never k) s t A r L = refl
same_formula (with_value k i) s t A r L = ap (λ (a : Evaluated Data). a >>= λ v. answer (value_formula k v r L)) (same_worth i s t A)
same_formula (timed k q i) s t A r L = ap (λ (a : Evaluated Data). a >>= λ v. answer (timed_formula k q v r L)) (same_worth i s t A)
same_formula (selected k n) s t A r L = refl
same_formula (arrow f) s t A r L = same_answer f (input_of r) s t A
same_formula (accumulated k i f) s t A r L =
    ap₂ (λ (a : Evaluated Data) (g : Data → Evaluated Data). a >>= g) (same_worth i s t (fewer (λ x h. inl h) A)) (fun_ext (λ v. same_accumulated k f s t (fewer (λ x h. inr h) A) v r L))
same_formula (fused f) s t A r L = same_chain f (input_of r) s t A
