-- Two stages on the same side.
use Rattle.std.proofs.Common.{◌≡◌, true, false, List, [], ◌∷◌, ◌++◌, refl, sym, ap, subst, arith}
use mathlib.Core.Path.{ap₂}
use Rattle.sf_value.specs.Values.{Data}
use Rattle.sf_term.specs.declared.form.Side.{Side}
use Rattle.sf_term.specs.declared.form.Side.TheVariants.{First, Second}
use Rattle.sf_term.specs.Trees.{whole, Term, sided, staged}
use Rattle.sf_mean.specs.Lives.{step, wait_of, input_of, Life, Environment, with_inputs, relay}
use Rattle.sf_mean.specs.Formulas.{side_of, side_replaced}
use Rattle.sf_mean.specs.Meaning.{Readings, Outcome, gave, faulted, changed, combined, outcome_value, Cost, both_costs, over}
use Rattle.sf_rewrite.proofs.Parts.{Leaves, Parts, At, OneLeaf, onces}
use Rattle.sf_rewrite.proofs.Views.{Along, goes, stays, later, sides, with_input, Chained, chained, Sided, seen_side, join_stages, make_stages, view_stages, join_side, make_side, view_side, split_side}
use Rattle.sf_rewrite.proofs.Lowered.{Lowered, lowered, below_any, below}
use Rattle.sf_rewrite.proofs.Along.{Sound}

side_with : (a : Side) (x y : Data) → side_of a (side_replaced a x y) ≡ y
side_with First x y = refl
side_with Second x y = refl

with_with : (a : Side) (x y z : Data) → side_replaced a (side_replaced a x y) z ≡ side_replaced a x z
with_with First x y z = refl
with_with Second x y z = refl

-- what the part of the second side lives
pub relay_sides : (a : Side) (L : Life) (us : List Data) → with_inputs (side_of a) (relay L (sides a L us)) ≡ relay (with_inputs (side_of a) L) us
relay_sides a [] us = refl
relay_sides a (s ∷ L) [] = refl
relay_sides a (s ∷ L) (u ∷ us) = ap₂ (λ x M. step (wait_of s) x ∷ M) (side_with a (input_of s) u) (relay_sides a L us)

module _ (Q : Leaves) (one : OneLeaf Q) where
  -- the values of a side are those of its part
  pub sides_are : {a : Side} {t : Term} {e : Environment} {L : Life} {ys us : List Data} → Parts Q (sided a t) e L ys → Parts Q t e (with_inputs (side_of a) L) us → ys ≡ sides a L us
  sides_are {L = L} P A = onces Q one P (join_side Q one L A)

  merged_value : (a : Side) (x u : Data) (r : Readings) (o : Outcome) → combined later (gave (side_replaced a x u) r) (changed (side_replaced a (side_replaced a x u)) o) ≡ changed (side_replaced a x) (combined later (gave u r) o)
  merged_value a x u r (gave z q) = ap (λ w. gave w (r ++ q)) (with_with a x u z)
  merged_value a x u r (faulted f) = refl

  pub sound_sides_composed : {a : Side} {f g : Term} → Sound Q one true (staged whole (sided a f) (sided a g)) (sided a (staged whole f g))
  sound_sides_composed {a} {f} {g} e s L zs o c P B = go (view_stages Q one P B)
    where
      go : {o : Outcome} {c : Cost} → Chained Q whole (sided a f) (sided a g) e s L zs o c → Lowered true (At Q (sided a (staged whole f g)) e s L o) c
      go (chained {ys = ys} {p = p} {q = q} {d = d} A B C D) =
          let us = split_side Q one A in
          let vs = split_side Q one B in
          inner us.0 us.1 vs.0 (let N : List Data → Type 0 = λ l. Parts Q g e (with_inputs (side_of a) (relay L l)) vs.0 in subst N (sides_are A us.1) vs.1) (view_side Q one C)
          (let N : List Data → Type 0 = λ l. Along Q p (sided a g) e (with_input s (outcome_value p)) (relay L l) q d in subst N (sides_are A us.1) D)
        where
          inner : {p q : Outcome} {c d : Cost} (us : List Data) → Parts Q f e (with_inputs (side_of a) L) us → (vs : List Data) → Parts Q g e (with_inputs (side_of a) (relay L (sides a L us))) vs → Sided Q a f e s L p c
              → Along Q p (sided a g) e (with_input s (outcome_value p)) (relay L (sides a L us)) q d → Lowered true (At Q (sided a (staged whole f g)) e s L (combined later p q)) (over (both_costs c d))
          inner us A vs B (seen_side {o = gave u r} {c = c} A' C) (goes D) = last (view_side Q one D)
            where
              el : with_inputs (side_of a) (relay L (sides a L us)) ≡ relay (with_inputs (side_of a) L) us
              el = relay_sides a L us

              B' : Parts Q g e (relay (with_inputs (side_of a) L) us) vs
              B' = let N : Life → Type 0 = λ M. Parts Q g e M vs in subst N el B

              last : {q : Outcome} {d : Cost} → Sided Q a g e (with_input s (side_replaced a (input_of s) u)) (relay L (sides a L us)) q d
                  → Lowered true (At Q (sided a (staged whole f g)) e s L (combined later (gave (side_replaced a (input_of s) u) r) q)) (over (both_costs (over c) d))
              last (seen_side {o = q} {c = d} B'' D) =
                  let N : Life → Type 0 = λ M. At Q g e (with_input s (side_of a (side_replaced a (input_of s) u))) M q d in
                  let O : Data → Type 0 = λ x. At Q g e (with_input s x) (relay (with_inputs (side_of a) L) us) q d in
                  let M : Outcome → Type 0 = λ o. At Q (sided a (staged whole f g)) e s L o (over (over (both_costs c d))) in
                  lowered (subst M (sym (merged_value a (input_of s) u r q))
                  (make_side Q one (seen_side (join_stages Q one A B') (make_stages Q one (chained A B' C (goes (subst O (side_with a (input_of s) u) (subst N el D))))))))
                  (below (omega arith) (omega arith))
          inner us A vs B (seen_side {o = faulted x} {c = c} A' C) stays =
              let B' : Parts Q g e (relay (with_inputs (side_of a) L) us) vs = let N : Life → Type 0 = λ M. Parts Q g e M vs in subst N (relay_sides a L us) B in
              lowered (make_side Q one (seen_side (join_stages Q one A B') (make_stages Q one (chained A B' C stays)))) (below (omega arith) (omega arith))

  pub back_sides_composed : {a : Side} {f g : Term} → Sound Q one false (sided a (staged whole f g)) (staged whole (sided a f) (sided a g))
  back_sides_composed {a} {f} {g} e s L zs o c P F = outer (view_side Q one F)
    where
      outer : {o : Outcome} {c : Cost} → Sided Q a (staged whole f g) e s L o c → Lowered false (At Q (staged whole (sided a f) (sided a g)) e s L o) c
      outer (seen_side {c = c} A F) = inner (over c) (view_stages Q one A F)
        where
          inner : {zs : List Data} {o : Outcome} {c : Cost} (b : Cost) → Chained Q whole f g e (with_input s (side_of a (input_of s))) (with_inputs (side_of a) L) zs o c
              → Lowered false (At Q (staged whole (sided a f) (sided a g)) e s L (changed (side_replaced a (input_of s)) o)) b
          inner b (chained {ys = us} {zs = vs} {p = p} {q = q} {c = c} {d = d} A B C D) = last p q C D
            where
              el : with_inputs (side_of a) (relay L (sides a L us)) ≡ relay (with_inputs (side_of a) L) us
              el = relay_sides a L us

              B' : Parts Q g e (with_inputs (side_of a) (relay L (sides a L us))) vs
              B' = let N : Life → Type 0 = λ M. Parts Q g e M vs in subst N (sym el) B

              last : {c d : Cost} (p q : Outcome) → At Q f e (with_input s (side_of a (input_of s))) (with_inputs (side_of a) L) p c → Along Q p g e (with_input s (outcome_value p)) (relay (with_inputs (side_of a) L) us) q d
                  → Lowered false (At Q (staged whole (sided a f) (sided a g)) e s L (changed (side_replaced a (input_of s)) (combined later p q))) b
              last {c} {d} (gave u r) q C (goes D) =
                  let N : Life → Type 0 = λ M. At Q g e (with_input s u) M q d in
                  let O : Data → Type 0 = λ x. At Q g e (with_input s x) (with_inputs (side_of a) (relay L (sides a L us))) q d in
                  let M : Outcome → Type 0 = λ o. At Q (staged whole (sided a f) (sided a g)) e s L o (over (both_costs (over c) (over d))) in
                  lowered (subst M (merged_value a (input_of s) u r q)
                  (make_stages Q one (chained (join_side Q one L A) (join_side Q one (relay L (sides a L us)) B') (make_side Q one (seen_side A C))
                  (goes (make_side Q one (seen_side B' (subst O (sym (side_with a (input_of s) u)) (subst N (sym el) D)))))))) (below_any _ _)
              last (faulted x) q C stays = lowered (make_stages Q one (chained (join_side Q one L A) (join_side Q one (relay L (sides a L us)) B') (make_side Q one (seen_side A C)) stays)) (below_any _ _)
