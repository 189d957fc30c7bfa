-- Functions that keep their types.
use Rattle.std.proofs.Common.{◌≡◌, ◌≢◌, [], ◌∷◌, ◌++◌, true, false, Option, Some, None, IfSome, refl, sym, ap, ◌∙◌, subst, true≢false}
use Rattle.std.specs.Str.{bytes_eq}
use Rattle.std.specs.Map.{lookup}
use Rattle.std.proofs.lemmas.Slice.Eq.{bytes_eq-Decides}
use Rattle.sf_value.specs.Values.{Name, Kind, Data, HasKind}
use Rattle.sf_func.specs.Registries.{FunctionTypes, TypesByName, AnswersByName, types_named, KeepsTypes, KeepTheirTypes}
use Rattle.sf_func.proofs.Lookups.{found_still, last_found, is_not_named}

-- To a value of the type that a function takes it answers a value of its type, if any.
pub answer_has_type : (ts : TypesByName) (answers : AnswersByName) (name : Name) (t : FunctionTypes) (d : Data) → KeepTheirTypes ts answers → types_named name ts ≡ Some t → HasKind d t.from → IfSome (answers name d) (λ a. HasKind a t.to)
answer_has_type ts answers name t d typed found h =
    (elim (answers name d) as (λ o. answers name d ≡ o → IfSome o (λ a. HasKind a t.to)) [
      | None ↦ λ is. tt
      | Some a ↦ λ is. typed name t found d a h is
    ]) refl

abbrev from_some : {X : Type 0} → X → Option X → X
from_some d None = d
from_some d (Some x) = x

-- a new function that keeps its types, behind those that do
module _ (ts new : TypesByName) (old answers : AnswersByName) (name : Name) (t : FunctionTypes) (f : Data → Option Data) (absent : types_named name ts ≡ None) (is : new ≡ ts ++ (name, t) ∷ []) (given : (d : Data) → answers name d ≡ f d)
    (others : (n : Name) (d : Data) → n ≢ name → answers n d ≡ old n d) (keeps : KeepsTypes t.from t.to f) (typed : KeepTheirTypes ts old) where
  new_named : (u : FunctionTypes) → types_named name new ≡ Some u → t ≡ u
  new_named u found = ap (from_some t) (sym (ap (lookup (bytes_eq name)) is ∙ last_found (bytes_eq name) ts (name, t) absent ((bytes_eq-Decides name name).1 refl)) ∙ found)

  at_name : (u : FunctionTypes) → types_named name new ≡ Some u → KeepsTypes u.from u.to (answers name)
  at_name u found = subst (λ (u : FunctionTypes). KeepsTypes u.from u.to (answers name)) (new_named u found) (λ d a h e. keeps d a h (sym (given d) ∙ e))

  elsewhere : (n : Name) → n ≢ name → (u : FunctionTypes) → types_named n new ≡ Some u → KeepsTypes u.from u.to (answers n)
  elsewhere n other u found d a h e =
      typed n u (sym (ap (lookup (bytes_eq n)) is ∙ found_still (bytes_eq n) ts (name, t) (is_not_named name n other)) ∙ found) d a h (sym (others n d other) ∙ e)

  pub typed_still : KeepTheirTypes new answers
  typed_still n u found =
      (elim (bytes_eq n name) as (λ b. bytes_eq n name ≡ b → KeepsTypes u.from u.to (answers n)) [
        | true ↦ λ same. let same : n ≡ name = (bytes_eq-Decides n name).0 same in
            subst (λ n. types_named n new ≡ Some u → KeepsTypes u.from u.to (answers n)) (sym same) (at_name u) found
        | false ↦ λ other. elsewhere n (λ same. absurd (true≢false (sym ((bytes_eq-Decides n name).1 same) ∙ other))) u found
      ]) refl

-- a function keeps types that are the ones that it keeps
pub keeps_as : {from to f t : Kind} (answers : Data → Option Data) → from ≡ f → to ≡ t → KeepsTypes f t answers → KeepsTypes from to answers
keeps_as {to = to} {f = f} answers from_is to_is keeps = subst (λ (k : Kind). KeepsTypes k to answers) (sym from_is) (subst (λ (k : Kind). KeepsTypes f k answers) (sym to_is) keeps)

-- What is boxed keeps its types where each value of its type does. At a call of `add` whose function was boxed before: `boxed_keeps (λ v.
-- (own-1.entry v).1.answers) c.into_dyn_box.ensures.0 ..`, with `own-1` of the caller's `OwnLists`.
pub boxed_keeps : {V : Type 0} {H : V → Type 0} (answers : (v : V) → H v → Data → Option Data) {v w : V} → v ≡ w → (x : H v) {from to f t : Kind} → from ≡ f → to ≡ t → ((y : H w) → KeepsTypes f t (answers w y)) → KeepsTypes from to (answers v x)
boxed_keeps {H = H} answers is x {to = to} {f = f} {t = t} from_is to_is keeps =
    subst (λ (k : Kind). KeepsTypes k to (answers _ x)) (sym from_is) (subst (λ (k : Kind). KeepsTypes f k (answers _ x)) (sym to_is) (subst (λ v. (x : H v) → KeepsTypes f t (answers v x)) (sym is) keeps x))
