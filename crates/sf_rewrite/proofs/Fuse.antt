-- Functions made into one.
use Rattle.std.proofs.Common.{◌≡◌, Bool, true, false, List, [], refl, sym, ap, ◌∙◌, subst, arith}
use Rattle.sf_value.specs.Values.{Data, pair, first_of, second_of}
use Rattle.sf_expr.specs.Expressions.{Function}
use Rattle.sf_expr.specs.Evaluation.{Evaluated, answer, failed, ◌>>=◌}
use Rattle.sf_term.specs.declared.form.Join.TheVariants.{InParallel, FannedOut}
use Rattle.sf_term.specs.declared.form.Side.{Side}
use Rattle.sf_term.specs.Trees.{Chain, lone, on_side, on_both, arrow, Extent, whole, rest, primitive, joined, sided, staged}
use Rattle.sf_term.specs.Trees
use Rattle.sf_mean.specs.Lives.{Step, input_of, Life, Environment, scope_around, with_inputs, relay}
use Rattle.sf_mean.specs.Formulas.{side_of, side_replaced, apply_chain}
use Rattle.sf_mean.specs.Meaning.{Outcome, gave, changed, combined, outcome_value, as_outcome, Cost, count, height, both_costs, over, over_stages, one_term}
use Rattle.sf_rewrite.specs.Laws.{arr}
use Rattle.sf_rewrite.proofs.Parts.{Leaves, At, at_leaf, at_primitive, no_truth, OneLeaf, once_at}
use Rattle.sf_rewrite.proofs.Views.{Along, goes, stays, later, pairs, with_input, Chained, chained, Paired, paired, Fanned, fanned, Sided, seen_side, view_stages, view_parallel, view_fan, view_side}
use Rattle.sf_rewrite.proofs.Lowered.{Below, Lowered, lowered, below_same, below_any, below}
use Rattle.sf_rewrite.proofs.Along.{Sound, RebuildsStages, rebuilt_stages, RebuildsParallel, rebuilt_parallel, RebuildsFan, rebuilt_fan, RebuildsSide, rebuilt_side}
use Rattle.sf_rewrite.proofs.Stages.{after_value}

changed_answer : (f : Data → Data) (v : Evaluated Data) → changed f (as_outcome v []) ≡ as_outcome (v >>= λ y. answer (f y)) []
changed_answer f (answer y) = refl
changed_answer f (failed x) = refl

paired_value : (y : Data) (v : Evaluated Data) → combined pair (gave y []) (as_outcome v []) ≡ as_outcome (v >>= λ z. answer (pair y z)) []
paired_value y (answer z) = refl
paired_value y (failed x) = refl

-- one function costs no more than a form with two parts
below_one : (x : Extent) (a b : Cost) → a ≡ one_term → Below true (over_stages x (both_costs a b)) one_term
below_one whole a b h =
    let x : count a ≡ 1 = ap count h in
    let y : height a ≡ 1 = ap height h in
    below (omega (arith, x)) (omega (arith, y))
below_one rest a b h =
    let x : count a ≡ 1 = ap count h in
    let y : height a ≡ 1 = ap height h in
    below (omega (arith, x)) (omega (arith, y))

module _ (Q : Leaves) (one : OneLeaf Q) where
  pub sound_arr_as_chain : {d : Bool} {f : Function} → Sound Q one d (primitive (arrow f)) (arr (lone f))
  sound_arr_as_chain e s L ys o c P (at_leaf h A) = absurd (no_truth h)
  sound_arr_as_chain {d = d} e s L ys o c P at_primitive = lowered at_primitive (below_same d one_term)

  pub back_arr_as_chain : {d : Bool} {f : Function} → Sound Q one d (arr (lone f)) (primitive (arrow f))
  back_arr_as_chain e s L ys o c P (at_leaf h A) = absurd (no_truth h)
  back_arr_as_chain {d = d} e s L ys o c P at_primitive = lowered at_primitive (below_same d one_term)

  -- ## One after another

  chained_along : {g : Chain} {e : Environment} (s : Step) {M : Life} {q : Outcome} {b : Cost} (v : Evaluated Data) → Along Q (as_outcome v []) (arr g) e (with_input s (outcome_value (as_outcome v []))) M q b
      → combined later (as_outcome v []) q ≡ as_outcome (v >>= λ y. apply_chain g y (scope_around Q.functions e)) []
  chained_along {g} {e} s (answer y) (goes D) = ap (combined later (gave y [])) (once_at Q one D at_primitive).0 ∙ after_value y (as_outcome (apply_chain g y (scope_around Q.functions e)) [])
  chained_along s (failed x) stays = refl

  pub sound_arr_composed : {x : Extent} {f g : Chain} → Sound Q one true (staged x (arr f) (arr g)) (arr (Trees.chained f g))
  sound_arr_composed {x} {f} {g} e s L zs o c P B = go (view_stages Q one P B)
    where
      go : {o : Outcome} {c : Cost} → Chained Q x (arr f) (arr g) e s L zs o c → Lowered true (At Q (arr (Trees.chained f g)) e s L o) c
      go (chained {ys = ys} {p = p} {q = q} {c = a} {d = b} A B C D) =
          let r = once_at Q one C at_primitive in
          let v = apply_chain f (input_of s) (scope_around Q.functions e) in
          let N : Outcome → Type 0 = λ p. Along Q p (arr g) e (with_input s (outcome_value p)) (relay L ys) q b in
          let M : Outcome → Type 0 = λ o. At Q (arr (Trees.chained f g)) e s L o one_term in
          let h : combined later p q ≡ as_outcome (v >>= λ y. apply_chain g y (scope_around Q.functions e)) [] = ap (λ p. combined later p q) r.0 ∙ chained_along s v (subst N r.0 D) in
          lowered (subst M (sym h) at_primitive) (below_one x a b r.1)

  pub back_arr_composed : {x : Extent} {f g : Chain} → Sound Q one false (arr (Trees.chained f g)) (staged x (arr f) (arr g))
  back_arr_composed {x} {f} {g} = rebuilt_stages Q one go
    where
      go : RebuildsStages Q one false x (arr (Trees.chained f g)) (arr f) (arr g)
      go e s L ys zs o c A B P F = made (apply_chain f (input_of s) (scope_around Q.functions e)) refl
        where
          made : (v : Evaluated Data) → apply_chain f (input_of s) (scope_around Q.functions e) ≡ v → Lowered false (Chained Q x (arr f) (arr g) e s L zs o) c
          made (answer y) h =
              let N : Evaluated Data → Type 0 = λ v. At Q (arr f) e s L (as_outcome v []) one_term in
              let M : Outcome → Type 0 = λ o. Chained Q x (arr f) (arr g) e s L zs o (over_stages x (both_costs one_term one_term)) in
              let k = after_value y (as_outcome (apply_chain g y (scope_around Q.functions e)) []) ∙ ap (λ v. as_outcome (v >>= λ y. apply_chain g y (scope_around Q.functions e)) []) (sym h) ∙ sym (once_at Q one F at_primitive).0 in
              lowered (subst M k (chained A B (subst N h at_primitive) (goes at_primitive))) (below_any _ _)
          made (failed z) h =
              let N : Evaluated Data → Type 0 = λ v. At Q (arr f) e s L (as_outcome v []) one_term in
              let M : Outcome → Type 0 = λ o. Chained Q x (arr f) (arr g) e s L zs o (over_stages x (both_costs one_term one_term)) in
              let k = ap (λ v. as_outcome (v >>= λ y. apply_chain g y (scope_around Q.functions e)) []) (sym h) ∙ sym (once_at Q one F at_primitive).0 in
              lowered (subst M k (chained A B (subst N h at_primitive) stays)) (below_any _ _)

  -- ## On one part of a pair

  pub sound_arr_on_side : {a : Side} {f : Chain} → Sound Q one true (sided a (arr f)) (arr (on_side a f))
  sound_arr_on_side {a} {f} e s L zs o c P B = go (view_side Q one B)
    where
      go : {o : Outcome} {c : Cost} → Sided Q a (arr f) e s L o c → Lowered true (At Q (arr (on_side a f)) e s L o) c
      go (seen_side {o = p} {c = b} A C) =
          let r = once_at Q one C at_primitive in
          let v = apply_chain f (side_of a (input_of s)) (scope_around Q.functions e) in
          let M : Outcome → Type 0 = λ o. At Q (arr (on_side a f)) e s L o one_term in
          let h = ap (changed (side_replaced a (input_of s))) r.0 ∙ changed_answer (side_replaced a (input_of s)) v in
          let x : count b ≡ 1 = ap count r.1 in
          let y : height b ≡ 1 = ap height r.1 in
          lowered (subst M (sym h) at_primitive) (below (omega (arith, x)) (omega (arith, y)))

  pub back_arr_on_side : {a : Side} {f : Chain} → Sound Q one false (arr (on_side a f)) (sided a (arr f))
  back_arr_on_side {a} {f} = rebuilt_side Q one go
    where
      go : RebuildsSide Q one false a (arr (on_side a f)) (arr f)
      go e s L us o c A F =
          let v = apply_chain f (side_of a (input_of s)) (scope_around Q.functions e) in
          let M : Outcome → Type 0 = λ o. Sided Q a (arr f) e s L o (over one_term) in
          lowered (subst M (changed_answer (side_replaced a (input_of s)) v ∙ sym (once_at Q one F at_primitive).0) (seen_side A at_primitive)) (below_any _ _)

  -- ## Side by side

  -- the second function stands after the first
  paired_along : {g : Chain} {e : Environment} {s : Step} {M : Life} {q : Outcome} {b : Cost} (v : Evaluated Data) → Along Q (as_outcome v []) (arr g) e s M q b
      → combined pair (as_outcome v []) q ≡ as_outcome (v >>= λ y. apply_chain g (input_of s) (scope_around Q.functions e) >>= λ z. answer (pair y z)) []
  paired_along {g} {e} {s} (answer y) (goes D) = ap (combined pair (gave y [])) (once_at Q one D at_primitive).0 ∙ paired_value y (apply_chain g (input_of s) (scope_around Q.functions e))
  paired_along (failed x) stays = refl

  data Both (g : Chain) (e : Environment) (s : Step) (M : Life) (v : Evaluated Data) (o : Outcome) : Type 0 where
    both_made : {q : Outcome} → Along Q (as_outcome v []) (arr g) e s M q one_term → combined pair (as_outcome v []) q ≡ o → Both g e s M v o

  both_of : (g : Chain) (e : Environment) (s : Step) (M : Life) (v : Evaluated Data) → Both g e s M v (as_outcome (v >>= λ y. apply_chain g (input_of s) (scope_around Q.functions e) >>= λ z. answer (pair y z)) [])
  both_of g e s M (answer y) = both_made (goes at_primitive) (paired_value y (apply_chain g (input_of s) (scope_around Q.functions e)))
  both_of g e s M (failed x) = both_made stays refl

  pub sound_arr_in_parallel : {f g : Chain} → Sound Q one true (joined InParallel (arr f) (arr g)) (arr (on_both f g))
  sound_arr_in_parallel {f} {g} e s L zs o c P B = go (view_parallel Q one P B)
    where
      go : {zs : List Data} {o : Outcome} {c : Cost} → Paired Q (arr f) (arr g) e s L zs o c → Lowered true (At Q (arr (on_both f g)) e s L o) c
      go (paired {p = p} {q = q} {c = a} {d = b} A B C D) =
          let r = once_at Q one C at_primitive in
          let v = apply_chain f (first_of (input_of s)) (scope_around Q.functions e) in
          let N : Outcome → Type 0 = λ p. Along Q p (arr g) e (with_input s (second_of (input_of s))) (with_inputs second_of L) q b in
          let M : Outcome → Type 0 = λ o. At Q (arr (on_both f g)) e s L o one_term in
          let h = ap (λ p. combined pair p q) r.0 ∙ paired_along v (subst N r.0 D) in
          lowered (subst M (sym h) at_primitive) (below_one whole a b r.1)

  pub back_arr_in_parallel : {f g : Chain} → Sound Q one false (arr (on_both f g)) (joined InParallel (arr f) (arr g))
  back_arr_in_parallel {f} {g} = rebuilt_parallel Q one go
    where
      go : RebuildsParallel Q one false (arr (on_both f g)) (arr f) (arr g)
      go e s L ys zs o c A B F =
          elim (both_of g e (with_input s (second_of (input_of s))) (with_inputs second_of L) (apply_chain f (first_of (input_of s)) (scope_around Q.functions e))) [
            | both_made D h ↦
                let M : Outcome → Type 0 = λ o. Paired Q (arr f) (arr g) e s L (pairs ys zs) o (over (both_costs one_term one_term)) in
                lowered (subst M (h ∙ sym (once_at Q one F at_primitive).0) (paired A B at_primitive D)) (below_any _ _)
          ]

  pub sound_arr_fanned_out : {f g : Chain} → Sound Q one true (joined FannedOut (arr f) (arr g)) (arr (Trees.fanned f g))
  sound_arr_fanned_out {f} {g} e s L zs o c P B = go (view_fan Q one P B)
    where
      go : {o : Outcome} {c : Cost} → Fanned Q (arr f) (arr g) e s L o c → Lowered true (At Q (arr (Trees.fanned f g)) e s L o) c
      go (fanned {p = p} {q = q} {c = a} {d = b} A B C D) =
          let r = once_at Q one C at_primitive in
          let v = apply_chain f (input_of s) (scope_around Q.functions e) in
          let N : Outcome → Type 0 = λ p. Along Q p (arr g) e s L q b in
          let M : Outcome → Type 0 = λ o. At Q (arr (Trees.fanned f g)) e s L o one_term in
          let h = ap (λ p. combined pair p q) r.0 ∙ paired_along v (subst N r.0 D) in
          lowered (subst M (sym h) at_primitive) (below_one whole a b r.1)

  pub back_arr_fanned_out : {f g : Chain} → Sound Q one false (arr (Trees.fanned f g)) (joined FannedOut (arr f) (arr g))
  back_arr_fanned_out {f} {g} = rebuilt_fan Q one go
    where
      go : RebuildsFan Q one false (arr (Trees.fanned f g)) (arr f) (arr g)
      go e s L ys zs o c A B F =
          elim (both_of g e s L (apply_chain f (input_of s) (scope_around Q.functions e))) [
            | both_made D h ↦
                let M : Outcome → Type 0 = λ o. Fanned Q (arr f) (arr g) e s L o (over (both_costs one_term one_term)) in
                lowered (subst M (h ∙ sym (once_at Q one F at_primitive).0) (fanned A B at_primitive D)) (below_any _ _)
          ]
