-- Arguments that differ from parameters, and collections in which types differ.
use Rattle.std.proofs.Common.{◌≡◌, ◌⊎◌, inl, inr, List, [], ◌∷◌, length, true, Some, sym, ap, ◌∙◌, subst, arith}
use Rattle.std.proofs.lemmas.Option.{same_Some}
use mathlib.Core.Path.{subst₂}
use Rattle.sf_value.specs.Values.{Name, Kind}
use Rattle.sf_refusal.specs.declared.spot.Spot.{Spot}
use Rattle.sf_operator.specs.Kinds.{same_kind}
use Rattle.sf_operator.proofs.SameKinds.{is_same}
use Rattle.sf_term.specs.declared.node.Argument.{Argument}
use Rattle.sf_term.specs.declared.collection.CollExpr.{CollExpr}
use Rattle.sf_term.specs.declared.program.Program.{Program}
use Rattle.sf_term.specs.Parameters.{PlacedParameter, parameters_of}
use Rattle.sf_term.specs.Arena.{arguments_of}
use Rattle.sf_mean.specs.Contexts.{NameKind, Bindings, Context}
use Rattle.sf_mean.specs.Typing.{ArgumentsFit}
use Rattle.sf_differ.specs.declared.difference.Wanted.{Wanted}
use Rattle.sf_differ.specs.declared.difference.Difference.{Difference}
use Rattle.sf_differ.specs.declared.blame.Blame.{Blame}
use Rattle.sf_differ.specs.declared.blame.Blame.TheVariants.{Silent, Memory}
use Rattle.sf_differ.specs.Differences.{Suits, IsOther, Explains, tells_nothing, lacks_room}
use Rattle.sf_differ.proofs.Told.{told_as}
use Rattle.sf_check.specs.Answering.{ArgumentFits}
use Rattle.sf_check.specs.Differing.{ArgumentsDiffer, later_differs, CollectionDiffers}
use Rattle.sf_check.proofs.Calls.{fits_before}

pub other_than : {w : Wanted} {s : Spot} {t : Kind} {d : Difference} → IsOther (Some w) s t d → Suits w t → ⊥
other_than {t = t} h k = h.other (subst (λ w. Suits w t) (same_Some _ _ h.wanted) k)

-- nothing is said
pub untold : {P : Difference → Type 0} {b : Blame} → (b ≡ Silent) ⊎ (b ≡ Memory) → Explains P b
untold {P} (inl is) = subst (Explains P) (sym is) tells_nothing
untold {P} (inr is) = subst (Explains P) (sym is) lacks_room

-- types that are the same are found to be so
pub found_same : {t u : Kind} → t ≡ u → same_kind t u ≡ true
found_same {u = u} e = ap (λ t. same_kind t u) e ∙ is_same u

-- ## Arguments

-- what is said of an argument and its parameter
pub argument_as : (P : Argument → NameKind → Type 0) {v w : Argument} {k l : NameKind} → v ≡ w → k ≡ l → P w l → P v k
argument_as P is for h = subst₂ P (sym is) (sym for) h

-- Of arguments, these are left, and those before them fit.
pub record FitBefore (p : Program) (Γ : Context) (s : Spot) (vs : List Argument) (qs : Bindings) (ws : List Argument) (rs : Bindings) : Type 0 where
  pub many : length ws ≡ length rs
  pub fits : ArgumentsFit Γ (arguments_of p ws) rs → ArgumentsFit Γ (arguments_of p vs) qs
  pub differs : (d : Difference) → ArgumentsDiffer p Γ s ws rs d → ArgumentsDiffer p Γ s vs qs d

module _ {p : Program} {Γ : Context} {s : Spot} where
  pub fit_first : {vs : List Argument} {qs : Bindings} → length vs ≡ length qs → FitBefore p Γ s vs qs vs qs
  fit_first many = record { many = many; fits = λ h. h; differs = λ d h. h }

  pub fit_next : {vs ws : List Argument} {qs rs : Bindings} {v : Argument} {x : Name} {k : NameKind} → FitBefore p Γ s vs qs (v ∷ ws) ((x, k) ∷ rs) → ArgumentFits p Γ v k → FitBefore p Γ s vs qs ws rs
  fit_next {ws = ws} {v = v} {x = x} {k = k} so is = record { many = omega (arith, so.many); fits = λ h. so.fits (fits_before p v x k ws is h); differs = λ d h. so.differs d (later_differs is h) }

-- what is said of arguments that are left and their parameters
module _ (R : List Argument → Bindings → Type 0) where
  pub walk_first : {vs ws : List Argument} {ps us : List PlacedParameter} → ws ≡ vs → us ≡ ps → R vs (parameters_of ps) → R ws (parameters_of us)
  walk_first e f h = subst₂ (λ ws us. R ws (parameters_of us)) (sym e) (sym f) h

  pub walk_next : {v : Argument} {vs ws : List Argument} {u : PlacedParameter} {ps us : List PlacedParameter} → ws ≡ v ∷ vs → us ≡ u ∷ ps → R ws (parameters_of us) → R (v ∷ vs) ((u.name, u.kind) ∷ parameters_of ps)
  walk_next e f h = subst₂ (λ ws us. R ws (parameters_of us)) e f h

  pub walk_end : {ws : List Argument} {us : List PlacedParameter} → length ws ≡ length (parameters_of us) → R ws (parameters_of us) → (ws ≡ []) ⊎ (us ≡ []) → R [] []
  walk_end {ws = []} {us = []} many h e = h
  walk_end {ws = []} {us = u ∷ us} many h e = absurd (omega (arith, many))
  walk_end {ws = v ∷ ws} {us = []} many h e = absurd (omega (arith, many))
  walk_end {ws = v ∷ ws} {us = u ∷ us} many h (inl e) = absurd cc
  walk_end {ws = v ∷ ws} {us = u ∷ us} many h (inr e) = absurd cc

-- ## Collections

-- what is told of an equal collection
pub collection_tells : (p : Program) (Γ : Context) (a : Kind) {c m : CollExpr} {Q : Difference → Type 0} {e : Blame} → c ≡ m → ((d : Difference) → Q d → CollectionDiffers p Γ m a d) → Explains Q e → Explains (CollectionDiffers p Γ c a) e
collection_tells p Γ a is f h = told_as (λ d k. subst (λ c. CollectionDiffers p Γ c a d) (sym is) (f d k)) h

-- the same of other contexts and programs that are the same
pub members_differ_under : (p q : Program) (Γ Δ : Context) {c d : CollExpr} (a : Kind) {e : Blame} → p ≡ q → Γ ≡ Δ → c ≡ d → Explains (CollectionDiffers p Γ c a) e → Explains (CollectionDiffers q Δ d a) e
members_differ_under p q Γ Δ {c} {d} a {e} same alike is h =
    subst (λ d. Explains (CollectionDiffers q Δ d a) e) is (subst (λ (Γ : Context). Explains (CollectionDiffers q Γ c a) e) alike (subst (λ (p : Program). Explains (CollectionDiffers p Γ c a) e) same h))
