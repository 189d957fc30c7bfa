-- The types that are found are the types that expressions have.
use Rattle.std.proofs.Common.{◌≡◌, ◌≢◌, Bool, true, false, not, ◌||◌, ◌&&◌, cond, List, [], ◌∷◌, Some, None, IsTrue, refl, ap, subst, ◌∙◌, arith}
use Rattle.std.specs.Prelude.{Option, nat_le, bytes_eq, All}
use Rattle.std.specs.Bool.{Decides}
use Rattle.std.proofs.lemmas.Slice.Eq.{bytes_eq-Decides}
use Rattle.std.proofs.lemmas.List.Elements.{All-nil, All-cons, All-head, All-tail}
use Rattle.std.proofs.lemmas.Bool.Decides.{nat_tests}
use Rattle.sf_value.specs.Values.{Name, Kind, unit_kind, bool_kind, int_kind, text_kind, pair_kind, event_kind, table_kind, nodes}
use Rattle.sf_operator.specs.Kinds.{unary_kind, binary_kind, conditional_kind, mapped_argument, mapped_kind, folded_argument, folded_kind}
use Rattle.sf_func.specs.Registries.{types_named}
use Rattle.sf_expr.specs.Expressions.{Pattern, unnamed, named, both, names_of_pattern, Literal, Expression, variable, literal, paired, applied, operation, conditional, mapped, folded, called, Function, function}
use Rattle.sf_operator.specs.declared.operator.Operator.{Operator}
use Rattle.sf_operator.specs.declared.operator.Unary.{Unary}
use Rattle.sf_operator.proofs.SameKinds.{found_is}
use Rattle.sf_expr.specs.Typing.{Names, typed_name, type_of_name, functions_of, call_kind, literal_kind, Fits, AllDifferent, AddsNames, adds_nothing, adds_name, adds_both, Binds, HasType, variable_has, literal_has, pair_has, applied_has, operation_has, conditional_has, mapped_has, folded_has, called_has, FunctionTakes, function_takes}
use Rattle.sf_expr.specs.Inference.{found_then, fitting, is_valued, literal_type, pair_type, applied_type, operation_type, conditional_type, expression_type, names_matched, names_bound, is_among, are_different, function_output}
use Rattle.sf_expr.proofs.Literals.{valued_has, has_valued}

-- ## Types that fit

pub test_fits : (t : Kind) → Fits t → nat_le (nodes t) 256 ≡ true
test_fits t h = grind (arith, nat_tests)

pub fits_test : (t : Kind) → nat_le (nodes t) 256 ≡ true → Fits t
fits_test t h = grind (arith, nat_tests)

pub fitting_is : (t : Kind) → Fits t → fitting t ≡ Some t
fitting_is t h = ap (λ b. cond b (Some t) None) (test_fits t h)

-- a type that was found to fit
pub record Found (t u : Kind) : Type 0 where
  pub is : t ≡ u
  pub fits : Fits t

pub fitting_found : (t u : Kind) → fitting t ≡ Some u → Found t u
fitting_found t u = each (nat_le (nodes t) 256) refl
  where
    each : (b : Bool) → nat_le (nodes t) 256 ≡ b → cond b (Some t) None ≡ Some u → Found t u
    each true h e = record { is = cc; fits = fits_test t h }
    each false h e = absurd cc

-- ## Patterns

pub with_adds : (p : Pattern) (t : Kind) (R S : Names) → names_matched p t R ≡ Some S → AddsNames p t R S
with_adds unnamed t R S h = let is : R ≡ S = cc in subst (λ (S : Names). AddsNames unnamed t R S) is adds_nothing
with_adds (named x) t R S h = let is : typed_name x t R ≡ S = cc in subst (λ (S : Names). AddsNames (named x) t R S) is adds_name
with_adds (both p q) unit_kind R S h = absurd cc
with_adds (both p q) bool_kind R S h = absurd cc
with_adds (both p q) int_kind R S h = absurd cc
with_adds (both p q) text_kind R S h = absurd cc
with_adds (both p q) (event_kind t) R S h = absurd cc
with_adds (both p q) (table_kind k t) R S h = absurd cc
with_adds (both p q) (pair_kind t u) R S h = each (names_matched p t R) (with_adds p t R) (λ T. with_adds q u T S) h
  where
    each : (o : Option Names) → ((T : Names) → o ≡ Some T → AddsNames p t R T) → ((T : Names) → names_matched q u T ≡ Some S → AddsNames q u T S) → found_then o (names_matched q u) ≡ Some S → AddsNames (both p q) (pair_kind t u) R S
    each (Some T) a b e = adds_both (a T refl) (b T e)
    each None a b e = absurd cc

pub adds_with : {p : Pattern} {t : Kind} {R S : Names} → AddsNames p t R S → names_matched p t R ≡ Some S
adds_with adds_nothing = refl
adds_with adds_name = refl
adds_with (adds_both {q = q} {u = u} a b) = ap (λ o. found_then o (names_matched q u)) (adds_with a) ∙ adds_with b

pub not_among : (x : Name) (ys : List Name) → is_among x ys ≡ false → All (λ y. x ≢ y) ys
not_among x [] h = All-nil (λ y. x ≢ y)
not_among x (y ∷ ys) h = each (bytes_eq x y) (bytes_eq-Decides x y) (not_among x ys) h
  where
    each : (b : Bool) → Decides b (x ≡ y) → (is_among x ys ≡ false → All (λ y. x ≢ y) ys) → b || is_among x ys ≡ false → All (λ y. x ≢ y) (y ∷ ys)
    each true d more e = absurd cc
    each false d more e = All-cons (λ y. x ≢ y) y ys (λ q. let h = d.1 q in cc) (more e)

among_not : (x : Name) (ys : List Name) → All (λ y. x ≢ y) ys → is_among x ys ≡ false
among_not x [] h = refl
among_not x (y ∷ ys) h = each (bytes_eq x y) (bytes_eq-Decides x y) (among_not x ys (All-tail (λ y. x ≢ y) y ys h))
  where
    each : (b : Bool) → Decides b (x ≡ y) → is_among x ys ≡ false → b || is_among x ys ≡ false
    each true d more = absurd (All-head (λ y. x ≢ y) y ys h (d.0 refl))
    each false d more = more

pub different : (xs : List Name) → are_different xs ≡ true → AllDifferent xs
different [] h = tt
different (x ∷ xs) h = each (is_among x xs) refl (different xs) h
  where
    each : (b : Bool) → is_among x xs ≡ b → (are_different xs ≡ true → AllDifferent xs) → not b && are_different xs ≡ true → AllDifferent (x ∷ xs)
    each true q more e = absurd cc
    each false q more e = (not_among x xs q, more e)

pub different_test : (xs : List Name) → AllDifferent xs → are_different xs ≡ true
different_test [] h = refl
different_test (x ∷ xs) h = rw (among_not x xs h.0) (different_test xs h.1)

-- names that are bound
pub record Bounded (p : Pattern) (t : Kind) (R S : Names) : Type 0 where
  pub fits : Fits t
  pub binds : Binds p t R S

pub bound_found : (p : Pattern) (t : Kind) (R S : Names) → names_bound p t R ≡ Some S → Bounded p t R S
bound_found p t R S = each (nat_le (nodes t) 256) (are_different (names_of_pattern p)) refl refl
  where
    each : (b d : Bool) → nat_le (nodes t) 256 ≡ b → are_different (names_of_pattern p) ≡ d → cond (b && d) (names_matched p t R) None ≡ Some S → Bounded p t R S
    each true true h k e = record { fits = fits_test t h; binds = record { adds = with_adds p t R S e; apart = different (names_of_pattern p) k } }
    each true false h k e = absurd cc
    each false d h k e = absurd cc

pub found_bound : {p : Pattern} {t : Kind} {R S : Names} → Fits t → Binds p t R S → names_bound p t R ≡ Some S
found_bound {p} {t} fits binds = rw (test_fits t fits, different_test (names_of_pattern p) binds.apart) (adds_with binds.adds)

-- ## Expressions

name_found : (R : Names) (x : Name) (o : Option Kind) (t : Kind) → type_of_name x R ≡ o → found_then o fitting ≡ Some t → HasType R (variable x) t
name_found R x (Some u) t h e =
    let f = fitting_found u t e in
    subst (λ (t : Kind). HasType R (variable x) t) f.is (variable_has h f.fits)
name_found R x None t h e = absurd cc

literal_found : (R : Names) (l : Literal) (t : Kind) → literal_type l ≡ Some t → HasType R (literal l) t
literal_found R l t = each (is_valued l) refl
  where
    each : (b : Bool) → is_valued l ≡ b → cond b (fitting (literal_kind l)) None ≡ Some t → HasType R (literal l) t
    each true h e =
        let f = fitting_found (literal_kind l) t e in
        subst (λ (t : Kind). HasType R (literal l) t) f.is (literal_has (valued_has l h) f.fits)
    each false h e = absurd cc

pair_found : (R : Names) (i j : Expression) (a b : Option Kind) (t : Kind) → ((u : Kind) → a ≡ Some u → HasType R i u) → ((u : Kind) → b ≡ Some u → HasType R j u) → pair_type a b ≡ Some t → HasType R (paired i j) t
pair_found R i j (Some u) (Some v) t h k e =
    let f = fitting_found (pair_kind u v) t e in
    subst (λ (t : Kind). HasType R (paired i j) t) f.is (pair_has (h u refl) (k v refl) f.fits)
pair_found R i j (Some u) None t h k e = absurd cc
pair_found R i j None b t h k e = absurd cc

applied_found : (R : Names) (i : Expression) (o : Unary) (a : Option Kind) (t : Kind) → ((u : Kind) → a ≡ Some u → HasType R i u) → applied_type o a ≡ Some t → HasType R (applied o i) t
applied_found R i o (Some u) t h e = each (unary_kind o u) refl e
  where
    each : (k : Option Kind) → unary_kind o u ≡ k → found_then k fitting ≡ Some t → HasType R (applied o i) t
    each (Some v) q e =
        let f = fitting_found v t e in
        subst (λ (t : Kind). HasType R (applied o i) t) f.is (applied_has (h u refl) q f.fits)
    each None q e = absurd cc
applied_found R i o None t h e = absurd cc

operation_found : (R : Names) (i j : Expression) (op : Operator) (a b : Option Kind) (t : Kind) → ((u : Kind) → a ≡ Some u → HasType R i u) → ((u : Kind) → b ≡ Some u → HasType R j u) → operation_type op a b ≡ Some t → HasType R (operation i op j) t
operation_found R i j op (Some u) (Some v) t h k e = each (binary_kind op u v) refl e
  where
    each : (o : Option Kind) → binary_kind op u v ≡ o → found_then o fitting ≡ Some t → HasType R (operation i op j) t
    each (Some w) q e =
        let f = fitting_found w t e in
        subst (λ (t : Kind). HasType R (operation i op j) t) f.is (operation_has (h u refl) (k v refl) q f.fits)
    each None q e = absurd cc
operation_found R i j op (Some u) None t h k e = absurd cc
operation_found R i j op None b t h k e = absurd cc

-- what was found of three parts
conditional_found : (R : Names) (i j k : Expression) (a b c : Option Kind) (t : Kind) → ((u : Kind) → a ≡ Some u → HasType R i u) → ((u : Kind) → b ≡ Some u → HasType R j u) → ((u : Kind) → c ≡ Some u → HasType R k u) → conditional_type a b c ≡ Some t → HasType R (conditional i j k) t
conditional_found R i j k (Some u) (Some v) (Some w) t f g h e = each (conditional_kind u v w) refl e
  where
    each : (o : Option Kind) → conditional_kind u v w ≡ o → found_then o fitting ≡ Some t → HasType R (conditional i j k) t
    each (Some y) q e =
        let l = fitting_found y t e in
        subst (λ (t : Kind). HasType R (conditional i j k) t) l.is (conditional_has (f u refl) (g v refl) (h w refl) q l.fits)
    each None q e = absurd cc
conditional_found R i j k (Some u) (Some v) None t f g h e = absurd cc
conditional_found R i j k (Some u) None c t f g h e = absurd cc
conditional_found R i j k None b c t f g h e = absurd cc

pub found_typed : (R : Names) (e : Expression) (t : Kind) → expression_type R e ≡ Some t → HasType R e t
found_typed R (variable x) t h = name_found R x (type_of_name x R) t refl h
found_typed R (literal l) t h = literal_found R l t h
found_typed R (paired i j) t h = pair_found R i j (expression_type R i) (expression_type R j) t (found_typed R i) (found_typed R j) h
found_typed R (applied o i) t h = applied_found R i o (expression_type R i) t (found_typed R i) h
found_typed R (operation i op j) t h = operation_found R i j op (expression_type R i) (expression_type R j) t (found_typed R i) (found_typed R j) h
found_typed R (conditional i j k) t h = conditional_found R i j k (expression_type R i) (expression_type R j) (expression_type R k) t (found_typed R i) (found_typed R j) (found_typed R k) h
found_typed R (mapped i m p j) w h =
    let part = found_is (expression_type R i) (λ t. found_then (mapped_argument m t) (λ a. found_then (names_bound p a R) (λ S. found_then (expression_type S j) (λ u. found_then (mapped_kind m t u) fitting)))) h in
    let takes = found_is (mapped_argument m part.0) (λ a. found_then (names_bound p a R) (λ S. found_then (expression_type S j) (λ u. found_then (mapped_kind m part.0 u) fitting))) part.2 in
    let names = found_is (names_bound p takes.0 R) (λ S. found_then (expression_type S j) (λ u. found_then (mapped_kind m part.0 u) fitting)) takes.2 in
    let body = found_is (expression_type names.0 j) (λ u. found_then (mapped_kind m part.0 u) fitting) names.2 in
    let made = found_is (mapped_kind m part.0 body.0) fitting body.2 in
    let small = fitting_found made.0 w made.2 in
    let bound = bound_found p takes.0 R names.0 names.1 in
    subst (λ (t : Kind). HasType R (mapped i m p j) t) {x = made.0} {y = w} small.is (mapped_has {S = names.0} {a = takes.0} {u = body.0} {v = made.0} (found_typed R i part.0 part.1) takes.1 bound.fits bound.binds (found_typed names.0 j body.0 body.1) made.1 small.fits)
found_typed R (folded i o j p k) w h =
    let first = found_is (expression_type R i) (λ t. found_then (expression_type R j) (λ u. found_then (folded_argument o t u) (λ a. found_then (names_bound p a R) (λ S. found_then (expression_type S k) (λ v. found_then (folded_kind o t u v) fitting))))) h in
    let second = found_is (expression_type R j) (λ u. found_then (folded_argument o first.0 u) (λ a. found_then (names_bound p a R) (λ S. found_then (expression_type S k) (λ v. found_then (folded_kind o first.0 u v) fitting)))) first.2 in
    let takes = found_is (folded_argument o first.0 second.0) (λ a. found_then (names_bound p a R) (λ S. found_then (expression_type S k) (λ v. found_then (folded_kind o first.0 second.0 v) fitting))) second.2 in
    let names = found_is (names_bound p takes.0 R) (λ S. found_then (expression_type S k) (λ v. found_then (folded_kind o first.0 second.0 v) fitting)) takes.2 in
    let body = found_is (expression_type names.0 k) (λ v. found_then (folded_kind o first.0 second.0 v) fitting) names.2 in
    let made = found_is (folded_kind o first.0 second.0 body.0) fitting body.2 in
    let small = fitting_found made.0 w made.2 in
    let bound = bound_found p takes.0 R names.0 names.1 in
    subst (λ (t : Kind). HasType R (folded i o j p k) t) {x = made.0} {y = w} small.is (folded_has {S = names.0} {a = takes.0} {v = body.0} {w = made.0} (found_typed R i first.0 first.1) (found_typed R j second.0 second.1) takes.1 bound.fits bound.binds (found_typed names.0 k body.0 body.1) made.1 small.fits)
found_typed R (called g i) w h =
    let part = found_is (expression_type R i) (λ t. found_then (call_kind (types_named g (functions_of R)) t) fitting) h in
    let made = found_is (call_kind (types_named g (functions_of R)) part.0) fitting part.2 in
    let small = fitting_found made.0 w made.2 in
    subst (λ (t : Kind). HasType R (called g i) t) small.is (called_has (found_typed R i part.0 part.1) made.1 small.fits)

literal_typed : (l : Literal) → IsTrue (is_valued l) → Fits (literal_kind l) → literal_type l ≡ Some (literal_kind l)
literal_typed l h f = ap (λ b. cond b (fitting (literal_kind l)) None) h ∙ fitting_is (literal_kind l) f

pub typed_found : {R : Names} {e : Expression} {t : Kind} → HasType R e t → expression_type R e ≡ Some t
typed_found (variable_has {t = t} e f) = ap (λ o. found_then o fitting) e ∙ fitting_is t f
typed_found (literal_has {l = l} h f) = literal_typed l (has_valued l h) f
typed_found (pair_has {t = t} {u = u} h k f) = rw (typed_found h, typed_found k) (fitting_is (pair_kind t u) f)
typed_found (applied_has {t = t} {u = u} h e f) = rw (typed_found h) (ap (λ o. found_then o fitting) e ∙ fitting_is u f)
typed_found (operation_has {v = v} h k e f) = rw (typed_found h, typed_found k) (ap (λ o. found_then o fitting) e ∙ fitting_is v f)
typed_found (conditional_has {v = v} h k l e f) = rw (typed_found h, typed_found k, typed_found l) (ap (λ o. found_then o fitting) e ∙ fitting_is v f)
typed_found (mapped_has {v = v} h e f b k g l) = rw (typed_found h, e, found_bound f b, typed_found k, g) (fitting_is v l)
typed_found (folded_has {w = w} h i e f b k g l) = rw (typed_found h, typed_found i, e, found_bound f b, typed_found k, g) (fitting_is w l)
typed_found (called_has {u = u} h e f) = rw (typed_found h) (ap (λ o. found_then o fitting) e ∙ fitting_is u f)

-- ## Functions

body_found : (R : Names) (p : Pattern) (i : Expression) (t u : Kind) → Fits t → AllDifferent (names_of_pattern p) → (o : Option Names) → ((S : Names) → o ≡ Some S → AddsNames p t R S) → found_then o (λ S. expression_type S i) ≡ Some u → FunctionTakes R (function p i) t u
body_found R p i t u f d (Some S) a e = function_takes f (record { adds = a S refl; apart = d }) (found_typed S i u e)
body_found R p i t u f d None a e = absurd cc

pub output_takes : (R : Names) (f : Function) (t u : Kind) → function_output R f t ≡ Some u → FunctionTakes R f t u
output_takes R (function p i) t u = each (nat_le (nodes t) 256) (are_different (names_of_pattern p)) refl refl
  where
    each : (b d : Bool) → nat_le (nodes t) 256 ≡ b → are_different (names_of_pattern p) ≡ d → cond (b && d) (found_then (names_matched p t R) (λ S. expression_type S i)) None ≡ Some u → FunctionTakes R (function p i) t u
    each true true h k e = body_found R p i t u (fits_test t h) (different (names_of_pattern p) k) (names_matched p t R) (with_adds p t R) e
    each true false h k e = absurd cc
    each false d h k e = absurd cc

pub takes_output : {R : Names} {f : Function} {t u : Kind} → FunctionTakes R f t u → function_output R f t ≡ Some u
takes_output (function_takes {S = S} {p = p} {i = i} {t = t} fits binds h) =
    rw (test_fits t fits, different_test (names_of_pattern p) binds.apart, adds_with binds.adds) (typed_found h)
