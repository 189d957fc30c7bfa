-- The answers for types: where no type was found, where it would be too large, and where memory was wanting.
use Rattle.std.proofs.Common.{◌≡◌, ◌<◌, ◌≤◌, Bool, true, false, cond, Some, None, refl, sym, ◌∙◌, ap, subst, arith, Result, Ok, Err, IsErrAnd, IsTrue, ◌↔◌}
use Rattle.std.specs.Prelude.{Option}
use Rattle.sf_value.specs.Values.{Kind, event_kind, pair_kind, nodes}
use Rattle.sf_value.specs.declared.ty.TyRefusal.{TyRefusal}
use Rattle.sf_value.specs.declared.ty.TyRefusal.TheVariants as reasons
use Rattle.sf_value.specs.declared.ty.TyForm.{TyForm}
use Rattle.sf_value.specs.declared.ty.TyForm.TheVariants as forms
use Rattle.sf_value.specs.KindView.{kind_of}
use Rattle.sf_refusal.specs.declared.spot.Spot.{Spot}
use Rattle.sf_refusal.specs.declared.rule.Rule.TheVariants.{Mismatch, TypeTooLarge}
use Rattle.sf_refusal.specs.declared.refusal.Refusal.{Refusal}
use Rattle.sf_refusal.specs.declared.refusal.Refusal.TheVariants.{Memory}
use Rattle.sf_refusal.specs.Refusals.{broken, OrMemory, no_memory}
use Rattle.sf_refusal.proofs.Explained.{or_memory, breaks_at}
use Rattle.sf_operator.specs.Kinds.{same_kind, only, found_then, is_ordered}
use Rattle.sf_operator.specs.Breaches.{KindRefused, AnswersKind}
use Rattle.sf_operator.proofs.SameKinds.{same_is}

-- no type was found
pub mismatch : (o : Option Kind) (s : Spot) {r : Refusal} → o ≡ None → r ≡ broken Mismatch s → OrMemory (KindRefused o s) r
mismatch o s {r} e is = subst (λ (o : Option Kind). OrMemory (KindRefused o s) r) (sym e) (breaks_at Mismatch is refl refl)

-- what a `?` returns: a refusal, or that memory was wanting
refused_for : (o : Option Kind) (s : Spot) (answer : Result Kind Refusal) (r : Refusal) → IsErrAnd answer (λ e. e ≡ r) → OrMemory (KindRefused o s) r → AnswersKind o s answer
refused_for o s (Ok t) r is h = absurd is
refused_for o s (Err e) r is h = subst (λ (e : Refusal). OrMemory (KindRefused o s) e) (sym is) h

pub mismatched : (o : Option Kind) (s : Spot) (answer : Result Kind Refusal) {r : Refusal} → IsErrAnd answer (λ e. e ≡ r) → r ≡ broken Mismatch s → o ≡ None → AnswersKind o s answer
mismatched o s answer {r} is at e = refused_for o s answer r is (mismatch o s e at)

pub lacks_memory : (o : Option Kind) (s : Spot) (answer : Result Kind Refusal) → IsErrAnd answer (λ e. e ≡ Memory) → AnswersKind o s answer
lacks_memory o s answer is = refused_for o s answer Memory is no_memory

-- a type that is not made, since it is too large or memory was wanting
pub not_made : (t : Kind) (s : Spot) (why : TyRefusal) (r : Refusal) → (why ≡ reasons.TypeTooLarge → 256 < nodes t) → (why ≡ reasons.TypeTooLarge → r ≡ broken TypeTooLarge s) → (why ≡ reasons.Memory → r ≡ Memory) → OrMemory (KindRefused (Some t) s) r
not_made t s reasons.TypeTooLarge r h large memory = breaks_at TypeTooLarge (large refl) refl (refl, h refl)
not_made t s reasons.Memory r h large memory = subst (λ (r : Refusal). OrMemory (KindRefused (Some t) s) r) (sym (memory refl)) no_memory

-- a pair that is too large stands in no event either
pub pair_refused : (o : Option Kind) (t u : Kind) (s : Spot) (answer : Result Kind Refusal) {r : Refusal} → o ≡ Some (event_kind (pair_kind t u)) → IsErrAnd answer (λ e. e ≡ r) → OrMemory (KindRefused (Some (pair_kind t u)) s) r → AnswersKind o s answer
pair_refused o t u s answer {r} e is h =
    subst (λ (o : Option Kind). AnswersKind o s answer) (sym e) (refused_for (Some (event_kind (pair_kind t u))) s answer r is (or_memory (λ b k. (k.0, omega (arith, k.1))) h))

-- a type that is too large stands in no larger type either
pub part_refused : (o : Option Kind) (t u : Kind) (s : Spot) (answer : Result Kind Refusal) {r : Refusal} → o ≡ Some u → nodes t ≤ nodes u → IsErrAnd answer (λ e. e ≡ r) → OrMemory (KindRefused (Some t) s) r → AnswersKind o s answer
part_refused o t u s answer {r} e less is h =
    subst (λ (o : Option Kind). AnswersKind o s answer) (sym e) (refused_for (Some u) s answer r is (or_memory (λ b k. (k.0, omega (arith, k.1, less))) h))

-- what is not the same
pub not_same : (t u : Kind) → (IsTrue false ↔ (t ≡ u)) → same_kind t u ≡ false
not_same t u h = each (same_kind t u) refl
  where
    each : (s : Bool) → same_kind t u ≡ s → s ≡ false
    each false e = refl
    each true e = let off : false ≡ true = h.1 (same_is t u e) in absurd cc

pub none_only : (t u v : Kind) (o : Option Kind) → v ≡ u → same_kind t v ≡ false → only t u o ≡ None
none_only t u v o is h = ap (λ s. cond s o None) (ap (λ w. same_kind t w) (sym is) ∙ h)

pub some_only : (t u v : Kind) (o : Option Kind) → v ≡ u → same_kind t v ≡ true → only t u o ≡ o
some_only t u v o is h = ap (λ s. cond s o None) (ap (λ w. same_kind t w) (sym is) ∙ h)

-- nothing was found, or what was found led to nothing
pub none_found : {A : Type 0} {o : Option A} (f : A → Option Kind) → o ≡ None → found_then o f ≡ None
none_found f h = ap (λ o. found_then o f) h

pub none_after : {A : Type 0} {o : Option A} {a : A} (f : A → Option Kind) → o ≡ Some a → f a ≡ None → found_then o f ≡ None
none_after f h k = ap (λ o. found_then o f) h ∙ k

-- values of other types have no order
pub no_order : (f : TyForm) → (f ≡ forms.Int → ⊥) → (f ≡ forms.Text → ⊥) → is_ordered (kind_of f) ≡ false
no_order forms.Unit h k = refl
no_order forms.Bool h k = refl
no_order forms.Int h k = absurd (h refl)
no_order forms.Text h k = absurd (k refl)
no_order (forms.Pair t u) h k = refl
no_order (forms.Event t) h k = refl
no_order (forms.Table c t) h k = refl
