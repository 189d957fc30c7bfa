-- A quiet part whose value isn't used.
use Rattle.std.proofs.Common.{◌≡◌, true, false, IsTrue, [], sym, ap, ◌∙◌, subst}
use Rattle.sf_value.specs.Values.{Data}
use Rattle.sf_expr.specs.Expressions.{Expression}
use Rattle.sf_term.specs.declared.form.WithValue.TheVariants.{Constant}
use Rattle.sf_term.specs.Trees.{Extent, with_value, Term, staged}
use Rattle.sf_mean.specs.Lives.{scope_around, relay}
use Rattle.sf_mean.specs.Formulas.{formula}
use Rattle.sf_mean.specs.Meaning.{Outcome, gave, combined, outcome_value, as_outcome, Cost, both_costs, over_stages, one_term, text_cost}
use Rattle.sf_rewrite.specs.Quiet.{is_quiet}
use Rattle.sf_rewrite.specs.Laws.{constant}
use Rattle.sf_rewrite.proofs.Parts.{Leaves, At, at_primitive, OneLeaf, once_at}
use Rattle.sf_rewrite.proofs.Views.{Along, goes, later, with_input, Chained, chained, view_stages}
use Rattle.sf_rewrite.proofs.Quiet.{quiet_steps, quiet_gave}
use Rattle.sf_rewrite.proofs.Lowered.{Lowered, lowered, below_any}
use Rattle.sf_rewrite.proofs.Along.{Sound, RebuildsStages, rebuilt_stages}
use Rattle.sf_rewrite.proofs.Stages.{after_value, below_second}

module _ (Q : Leaves) (one : OneLeaf Q) where
  pub sound_constant_after : {x : Extent} {f : Term} {i : Expression} → IsTrue (is_quiet f) → Sound Q one true (staged x f (constant i)) (constant i)
  sound_constant_after {x} {f} {i} h e s L zs o c P F = go (view_stages Q one P F)
    where
      go : {o : Outcome} {c : Cost} → Chained Q x f (constant i) e s L zs o c → Lowered true (At Q (constant i) e s L o) c
      go (chained {ys = ys} {p = p} {q = q} {c = a} {d = b} A B C D) =
          let k = quiet_gave Q one h A C in
          let N : Outcome → Type 0 = λ p. Along Q p (constant i) e (with_input s (outcome_value p)) (relay L ys) q b in
          finish k.0 (subst N k.1 D) (ap (λ p. combined later p q) k.1 ∙ after_value k.0 q)
        where
          finish : (y : Data) → Along Q (gave y []) (constant i) e (with_input s y) (relay L ys) q b → combined later p q ≡ q → Lowered true (At Q (constant i) e s L (combined later p q)) (over_stages x (both_costs a b))
          finish y (goes E) eo =
              let r = once_at Q one E at_primitive in
              let M : Outcome → Cost → Type 0 = λ o c. At Q (constant i) e s L o c in
              let N : Cost → Type 0 = λ c. At Q (constant i) e s L (combined later p q) c in
              let O : Outcome → Type 0 = λ o. At Q (constant i) e s L o one_term in
              lowered (subst N (sym r.1) (subst O (sym (eo ∙ r.0)) at_primitive)) (below_second x a b)

  pub back_constant_after : {x : Extent} {f : Term} {i : Expression} → IsTrue (is_quiet f) → Sound Q one false (constant i) (staged x f (constant i))
  back_constant_after {x} {f} {i} h = rebuilt_stages Q one go
    where
      go : RebuildsStages Q one false x (constant i) f (constant i)
      go e s L ys zs o c A B P F =
          let k = quiet_steps Q one f h e s L ys A in
          let M : Outcome → Type 0 = λ o. Chained Q x f (constant i) e s L zs o (over_stages x (both_costs (text_cost f) one_term)) in
          lowered (subst M (after_value k.0 (as_outcome (formula (with_value Constant i) (scope_around Q.functions e) s L) []) ∙ sym (once_at Q one F at_primitive).0) (chained A B k.1 (goes at_primitive))) (below_any _ _)
