-- A function on texts keeps its types.
use Rattle.std.proofs.Common.{true, false, Some, None, IfSome, cond, subst}
use Rattle.sf_value.specs.Values.{Data, HasKind, text_kind}
use Rattle.sf_func.specs.Registries.{KeepsTypes}
use Rattle.sf_tests.specs.Texts.{is_empty_text, unless_empty}

kept : (d : Data) → HasKind d text_kind → IfSome (unless_empty d) (λ a. HasKind a text_kind)
kept d h = elim (is_empty_text d) as (λ b. IfSome (cond b None (Some d)) (λ a. HasKind a text_kind)) [
  | true ↦ tt
  | false ↦ h
]

pub filled_keeps : KeepsTypes text_kind text_kind unless_empty
filled_keeps d a h is = subst (λ o. IfSome o (λ a. HasKind a text_kind)) is (kept d h)
