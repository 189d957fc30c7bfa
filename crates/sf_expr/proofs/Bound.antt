-- Scopes, and names to which one is put behind the others.
use Rattle.std.proofs.Common.{◌≡◌, cond, [], ◌∷◌, ◌++◌, Option, Some, None, ◌∙◌, ap, sym, subst, Result, Ok, Err, OnOk, IfErr, refl}
use Rattle.sf_value.specs.Values.{Kind, pair_kind, IsNoPair}
use Rattle.sf_refusal.specs.declared.spot.Spot.{Spot}
use Rattle.sf_refusal.specs.declared.refusal.Refusal.{Refusal}
use Rattle.sf_refusal.specs.Refusals.{OrMemory}
use Rattle.sf_refusal.proofs.Explained.{or_memory}
use Rattle.sf_expr.specs.Expressions.{Pattern, both}
use Rattle.sf_expr.specs.Refusals.{BindRefused}
use Rattle.sf_expr.specs.Patterns.{PlacedPattern, placed_both, pattern_of}
use Rattle.sf_func.specs.Registries.{TypesByName}
use Rattle.sf_expr.specs.Typing.{Names, only_functions, typed_name, untyped_name, type_of_name, functions_of, names_and_functions, AddsNames, adds_nothing, adds_name, adds_both, Binds}
use Rattle.std.specs.Prelude.{bytes_eq}
use Rattle.sf_value.specs.Values.{Name}
use Rattle.sf_expr.specs.Meanings.{Meant, of_value, of_process, of_collection, Entries, entry_before, value_names}

-- names in the place of the functions behind others
abbrev pub over : Names → Names → Names
over Q (only_functions fs) = Q
over Q (typed_name x t R) = typed_name x t (over Q R)
over Q (untyped_name x R) = untyped_name x (over Q R)

pub names_over : (es fs : Entries) → value_names (es ++ fs) ≡ over (value_names fs) (value_names es)
names_over [] fs = refl
names_over (e ∷ es) fs = each e.1 (names_over es fs)
  where
    each : (m : Meant) → value_names (es ++ fs) ≡ over (value_names fs) (value_names es) → entry_before e.0 m (value_names (es ++ fs)) ≡ over (value_names fs) (entry_before e.0 m (value_names es))
    each (of_value t) rest = ap (typed_name e.0 t) rest
    each (of_process a b) rest = ap (untyped_name e.0) rest
    each (of_collection k a b) rest = ap (untyped_name e.0) rest

adds_over : (Q : Names) {p : Pattern} {t : Kind} {R S : Names} → AddsNames p t R S → AddsNames p t (over Q R) (over Q S)
adds_over Q adds_nothing = adds_nothing
adds_over Q adds_name = adds_name
adds_over Q (adds_both a b) = adds_both (adds_over Q a) (adds_over Q b)

-- a pattern whose names are put around names is bound there
pub bound_within : (es fs gs : Entries) {p : Pattern} {t : Kind} → gs ≡ es ++ fs → Binds p t (only_functions []) (value_names es) → Binds p t (value_names fs) (value_names gs)
bound_within es fs gs {p} {t} more b = record {
  adds = subst (λ (S : Names). AddsNames p t (value_names fs) S) (sym (ap value_names more ∙ names_over es fs)) (adds_over (value_names fs) b.adds);
  apart = b.apart;
}

-- the functions are those that were given
pub functions_with : (fs : TypesByName) (R : Names) → functions_of (names_and_functions fs R) ≡ fs
functions_with fs (only_functions gs) = refl
functions_with fs (typed_name y t R) = functions_with fs R
functions_with fs (untyped_name y R) = functions_with fs R

-- and has the same type
pub type_with : (fs : TypesByName) (x : Name) (R : Names) → type_of_name x (names_and_functions fs R) ≡ type_of_name x R
type_with fs x (only_functions gs) = refl
type_with fs x (typed_name y t R) = ap (λ (o : Option Kind). cond (bytes_eq x y) (Some t) o) (type_with fs x R)
type_with fs x (untyped_name y R) = ap (λ (o : Option Kind). cond (bytes_eq x y) None o) (type_with fs x R)

pub adds_with_types : (fs : TypesByName) {p : Pattern} {t : Kind} {R S : Names} → AddsNames p t R S → AddsNames p t (names_and_functions fs R) (names_and_functions fs S)
adds_with_types fs adds_nothing = adds_nothing
adds_with_types fs adds_name = adds_name
adds_with_types fs (adds_both a b) = adds_both (adds_with_types fs a) (adds_with_types fs b)

pub binds_with : (fs : TypesByName) {p : Pattern} {t : Kind} {R S : Names} → Binds p t R S → Binds p t (names_and_functions fs R) (names_and_functions fs S)
binds_with fs b = record { adds = adds_with_types fs b.adds; apart = b.apart }

-- both parts of a pattern add their names
pub both_adds : (p p1 p2 q1 q2 : PlacedPattern) (t t1 t2 u1 u2 : Kind) {R S T : Names} → p ≡ placed_both p1 p2 → q1 ≡ p1 → q2 ≡ p2 → t ≡ pair_kind t1 t2 → u1 ≡ t1 → u2 ≡ t2 → AddsNames (pattern_of q1) u1 R S → AddsNames (pattern_of q2) u2 S T → AddsNames (pattern_of p) t R T
both_adds p p1 p2 q1 q2 t t1 t2 u1 u2 {R} {S} {T} e e1 e2 f f1 f2 h k =
    let first : AddsNames (pattern_of p1) t1 R S = subst (λ (q : PlacedPattern). AddsNames (pattern_of q) t1 R S) e1 (subst (λ (u : Kind). AddsNames (pattern_of q1) u R S) f1 h) in
    let second : AddsNames (pattern_of p2) t2 S T = subst (λ (q : PlacedPattern). AddsNames (pattern_of q) t2 S T) e2 (subst (λ (u : Kind). AddsNames (pattern_of q2) u S T) f2 k) in
    subst (λ (q : PlacedPattern). AddsNames (pattern_of q) t R T) (sym e) (subst (λ (u : Kind). AddsNames (both (pattern_of p1) (pattern_of p2)) u R T) (sym f) (adds_both first second))

-- a pattern that fits no part of a type of pairs does not fit the type
both_parts : {p q : Pattern} {t u : Kind} {R T : Names} → AddsNames (both p q) (pair_kind t u) R T → (S : Names) × AddsNames p t R S × AddsNames q u S T
both_parts (adds_both h k) = (_, h, k)

module _ (p p1 p2 q : PlacedPattern) (t t1 t2 u : Kind) (at : Spot) (r : Refusal) (is : p ≡ placed_both p1 p2) (of : t ≡ pair_kind t1 t2) where
  parts : {R T : Names} → AddsNames (pattern_of p) t R T → (S : Names) × AddsNames (pattern_of p1) t1 R S × AddsNames (pattern_of p2) t2 S T
  parts {R} {T} h = both_parts (subst (λ (v : Kind). AddsNames (both (pattern_of p1) (pattern_of p2)) v R T) of (subst (λ (w : PlacedPattern). AddsNames (pattern_of w) t R T) is h))

  pub first_unbound : q ≡ p1 → u ≡ t1 → OrMemory (BindRefused (pattern_of q) u at) r → OrMemory (BindRefused (pattern_of p) t at) r
  first_unbound e f h = or_memory (λ b k. (k.0, λ R T a. let s = parts a in k.1 R s.0 (subst (λ (v : Kind). AddsNames (pattern_of q) v R s.0) (sym f) (subst (λ (w : PlacedPattern). AddsNames (pattern_of w) t1 R s.0) (sym e) s.1)))) h

  pub second_unbound : q ≡ p2 → u ≡ t2 → OrMemory (BindRefused (pattern_of q) u at) r → OrMemory (BindRefused (pattern_of p) t at) r
  second_unbound e f h = or_memory (λ b k. (k.0, λ R T a. let s = parts a in k.1 s.0 T (subst (λ (v : Kind). AddsNames (pattern_of q) v s.0 T) (sym f) (subst (λ (w : PlacedPattern). AddsNames (pattern_of w) t2 s.0 T) (sym e) s.2)))) h

-- a pattern of two parts fits pairs alone
pub other_unbound : (p p1 p2 : PlacedPattern) (t : Kind) → p ≡ placed_both p1 p2 → IsNoPair t → (R T : Names) → AddsNames (pattern_of p) t R T → ⊥
other_unbound p p1 p2 t is other R T h = none t other (subst (λ (w : PlacedPattern). AddsNames (pattern_of w) t R T) is h)
  where
    none : (t : Kind) → IsNoPair t → AddsNames (both (pattern_of p1) (pattern_of p2)) t R T → ⊥
    none t other (adds_both {t = u} {u = v} a b) = other u v refl

-- what follows where there is an answer
pub on_ok : {A E P Q : Type 0} (r : Result A E) → (P → Q) → OnOk r P → OnOk r Q
on_ok (Ok x) f h = f h
on_ok (Err e) f h = tt

-- what follows where there is a refusal
pub on_err : {A E : Type 0} {P Q : E → Type 0} (r : Result A E) → ((e : E) → P e → Q e) → IfErr r P → IfErr r Q
on_err (Ok x) f h = tt
on_err (Err e) f h = f e h
