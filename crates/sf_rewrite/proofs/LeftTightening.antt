-- Loops whose input comes from a part that isn't fed back.
use Rattle.std.proofs.Common.{◌≡◌, true, false, IsTrue, List, [], ◌∷◌, refl, sym, ap, ◌∙◌, subst, arith, ◌⊎◌, inl, inr}
use mathlib.Core.Path.{ap₂, subst₂}
use Rattle.sf_value.specs.Values.{Data, pair, first_of}
use Rattle.sf_value.specs.declared.fault.ValueFault.{ValueFault}
use Rattle.sf_expr.specs.Expressions.{Expression}
use Rattle.sf_expr.specs.Evaluation.{answer, eval}
use Rattle.sf_term.specs.declared.form.Side.TheVariants.{First}
use Rattle.sf_term.specs.Trees.{whole, Term, sided, staged}
use Rattle.sf_mean.specs.Lives.{Step, step, wait_of, input_of, Life, Environment, scope_around, with_inputs, relay, fed_back, older, fed}
use Rattle.sf_mean.specs.Meaning.{Readings, Outcome, gave, faulted, changed, combined, outcome_value, Cost, both_costs, over, text_cost}
use Rattle.sf_rewrite.specs.Quiet.{is_quiet_expression, is_quiet}
use Rattle.sf_rewrite.specs.Laws.{loop_pre}
use Rattle.sf_rewrite.proofs.Parts.{Leaves, Part, part, Parts, begins, then_gave, At, at_leaf, at_loop, at_constant, Rounds, no_round, one_round, the_answer, no_fault, no_truth, OneLeaf}
use Rattle.sf_rewrite.proofs.Views.{Along, goes, stays, later, sides, with_input, Chained, chained, Sided, seen_side, make_stages, view_stages, join_side, make_side, view_side}
use Rattle.sf_rewrite.proofs.Quiet.{quiet_eval, quiet_steps}
use Rattle.sf_rewrite.proofs.Lowered.{Lowered, lowered, below_any, below}
use Rattle.sf_rewrite.proofs.Along.{Sound}
use Rattle.sf_rewrite.proofs.Stages.{same_step}
use Rattle.sf_rewrite.proofs.Sides.{sides_are}
use Rattle.sf_rewrite.proofs.Exchange.{not_quiet}
use Rattle.sf_rewrite.proofs.RightTightening.{rounds_parts, loop_parts}

-- the first parts of what is fed back are the inputs
fed_firsts : (v : Data) (L : Life) (zs : List Data) → with_inputs first_of (fed v L zs) ≡ L
fed_firsts v [] zs = refl
fed_firsts v (s ∷ L) zs = ap₂ (λ s L. s ∷ L) (same_step s) (fed_firsts v L (older zs))

relay_fed_sides : (v : Data) (L : Life) (us zs : List Data) → relay (fed v L zs) (sides First (fed v L zs) us) ≡ fed v (relay L us) zs
relay_fed_sides v [] us zs = refl
relay_fed_sides v (s ∷ L) [] zs = refl
relay_fed_sides v (s ∷ L) (u ∷ us) zs = ap (λ M. step (wait_of s) (pair u (fed_back v zs)) ∷ M) (relay_fed_sides v L us (older zs))

-- the value before is passed over
later_any : (y z : Data) (r : Readings) (o : Outcome) → combined later (gave y r) o ≡ combined later (gave z r) o
later_any y z r (gave w q) = refl
later_any y z r (faulted x) = refl

first_later : (y z : Data) (r : Readings) (o : Outcome) → changed first_of (combined later (gave y r) o) ≡ combined later (gave z r) (changed first_of o)
first_later y z r (gave w q) = refl
first_later y z r (faulted x) = refl

abbrev pub OneStill : Expression → Term → Type 0
OneStill i f = IsTrue (is_quiet_expression i) ⊎ IsTrue (is_quiet f)

module _ (Q : Leaves) (one : OneLeaf Q) where
  relay_none : {f : Term} {e : Environment} {L : Life} {us : List Data} → Parts Q f e L us → relay L us ≡ [] → L ≡ []
  relay_none begins h = refl
  relay_none (then_gave A B) h = absurd cc

  module _ (f g : Term) (e : Environment) (v : Data) where
    abbrev Both : Term
    Both = staged whole (sided First f) g

    -- one step of what comes before and of the loop
    data Before (s : Step) (L : Life) (us zs : List Data) : Outcome → Cost → Type 0 where
      goes_before : (y : Data) {u : Data} {r : Readings} {o : Outcome} {c d : Cost} → At Q f e s L (gave u r) c → Part Q g e (fed v (with_input s u ∷ relay L us) zs) o d
          → Before s L us zs (combined later (gave y r) o) (over (both_costs (over c) d))
      stays_before : {x : ValueFault} {c : Cost} → At Q f e s L (faulted x) c → Before s L us zs (faulted x) (over (both_costs (over c) (text_cost g)))

    fed_parts : {L : Life} {us : List Data} (zs : List Data) → Parts Q f e L us → Parts Q f e (with_inputs first_of (fed v L zs)) us
    fed_parts {L} {us} zs F = let N : Life → Type 0 = λ M. Parts Q f e M us in subst N (sym (fed_firsts v L zs)) F

    step_before : {s : Step} {L : Life} {us zs ws : List Data} {o : Outcome} {c : Cost} → Parts Q f e L us → Rounds Q v g e (relay L us) zs
        → Chained Q whole (sided First f) g e (step (wait_of s) (pair (input_of s) (fed_back v zs))) (fed v L (older zs)) ws o c → Before s L us zs o c
    step_before {s} {L} {us} {zs} F R (chained {ys = ys} A B C D) = seen (view_side Q one C) D
      where
        er : relay (fed v L (older zs)) ys ≡ fed v (relay L us) (older zs)
        er = ap (relay (fed v L (older zs))) (sides_are Q one A (fed_parts (older zs) F)) ∙ relay_fed_sides v L us (older zs)

        moved : {p : Outcome} {c : Cost} → At Q f e (step (wait_of s) (input_of s)) (with_inputs first_of (fed v L (older zs))) p c → At Q f e s L p c
        moved {p} {c} C = let N : Step → Life → Type 0 = λ s M. At Q f e s M p c in subst₂ N (same_step s) (fed_firsts v L (older zs)) C

        seen : {p q : Outcome} {c d : Cost} → Sided Q First f e (step (wait_of s) (pair (input_of s) (fed_back v zs))) (fed v L (older zs)) p c
            → Along Q p g e (with_input (step (wait_of s) (pair (input_of s) (fed_back v zs))) (outcome_value p)) (relay (fed v L (older zs)) ys) q d → Before s L us zs (combined later p q) (over (both_costs c d))
        seen {q = q} {d = d} (seen_side {o = gave u r} A' C) (goes D) =
            let N : Life → Type 0 = λ M. At Q g e (step (wait_of s) (pair u (fed_back v zs))) M q d in
            goes_before (pair u (fed_back v zs)) (moved C) (part (rounds_parts Q one R) (subst N er D))
        seen (seen_side {o = faulted x} A' C) stays = stays_before (moved C)

    data Split : Life → List Data → Type 0 where
      split : {L : Life} {us zs : List Data} → Parts Q f e L us → Rounds Q v g e (relay L us) zs → Split L zs

    last_before : {s : Step} {L : Life} {us zs : List Data} {o : Outcome} {c : Cost} → Parts Q f e L us → Rounds Q v g e (relay L us) zs → Before s L us zs o c → (z : Data) (r : Readings) → o ≡ gave z r → Split (s ∷ L) (z ∷ zs)
    last_before {s} {L} {us} {zs} F R (goes_before y {u = u} {o = gave w q} {d = d} C G) z r h =
        let N : Data → Type 0 = λ z. Part Q g e (fed v (with_input s u ∷ relay L us) zs) (gave z q) d in
        split (then_gave F C) (one_round R (subst N (ap outcome_value h) G))
    last_before F R (goes_before y {o = faulted x} C G) z r h = absurd cc
    last_before F R (stays_before C) z r h = absurd cc

    rounds_split : {L : Life} {zs : List Data} → Rounds Q v Both e L zs → Split L zs
    rounds_split no_round = split begins no_round
    rounds_split (one_round {z = z} {r = r} A (part P B)) =
        elim (rounds_split A) [ split F R ↦ last_before F R (step_before F R (view_stages Q one (rounds_parts Q one A) B)) z r refl ]

    step_join : {s : Step} {L : Life} {us zs : List Data} {o : Outcome} {c : Cost} → Parts Q f e L us → Rounds Q v g e (relay L us) zs → Rounds Q v Both e L zs → Before s L us zs o c → Lowered false (Part Q Both e (fed v (s ∷ L) zs) o) c
    step_join {s} {L} {us} {zs} F R S = go
      where
        F' : Parts Q f e (with_inputs first_of (fed v L (older zs))) us
        F' = fed_parts (older zs) F

        er : relay (fed v L (older zs)) (sides First (fed v L (older zs)) us) ≡ fed v (relay L us) (older zs)
        er = relay_fed_sides v L us (older zs)

        G' : Parts Q g e (relay (fed v L (older zs)) (sides First (fed v L (older zs)) us)) zs
        G' = let N : Life → Type 0 = λ M. Parts Q g e M zs in subst N (sym er) (rounds_parts Q one R)

        moved : {p : Outcome} {c : Cost} → At Q f e s L p c → At Q f e (step (wait_of s) (input_of s)) (with_inputs first_of (fed v L (older zs))) p c
        moved {p} {c} C = let N : Step → Life → Type 0 = λ s M. At Q f e s M p c in subst₂ N (sym (same_step s)) (sym (fed_firsts v L (older zs))) C

        go : {o : Outcome} {c : Cost} → Before s L us zs o c → Lowered false (Part Q Both e (fed v (s ∷ L) zs) o) c
        go (goes_before y {u = u} {r = r} {o = o} {c = c} {d = d} C (part A D)) =
            let N : Life → Type 0 = λ M. At Q g e (step (wait_of s) (pair u (fed_back v zs))) M o d in
            let M : Outcome → Type 0 = λ o. Part Q Both e (fed v (s ∷ L) zs) o (over (both_costs (over c) d)) in
            lowered (subst M (later_any (pair u (fed_back v zs)) y r o)
            (part (rounds_parts Q one S) (make_stages Q one (chained (join_side Q one (fed v L (older zs)) F') G' (make_side Q one (seen_side F' (moved C))) (goes (subst N (sym er) D)))))) (below_any _ _)
        go (stays_before C) = lowered (part (rounds_parts Q one S) (make_stages Q one (chained (join_side Q one (fed v L (older zs)) F') G' (make_side Q one (seen_side F' (moved C))) stays))) (below_any _ _)

    rounds_join : {L : Life} {us zs : List Data} → Parts Q f e L us → Rounds Q v g e (relay L us) zs → Rounds Q v Both e L zs
    rounds_join begins no_round = no_round
    rounds_join (then_gave {s = s} {r = q} F C) (one_round {z = z} {r = r} R G) =
        elim (step_join {s = s} F R (rounds_join F R) (goes_before z C G)) [ lowered B k ↦ one_round (rounds_join F R) B ]

  made_before : {i : Expression} {f g : Term} {e : Environment} {v : Data} {s : Step} {L : Life} {us zs : List Data} {o : Outcome} {c : Cost} → eval i (scope_around Q.functions e) ≡ answer v → Parts Q f e L us → Rounds Q v g e (relay L us) zs → Before f g e v s L us zs o c
      → Lowered true (At Q (staged whole f (loop_pre i g)) e s L (changed first_of o)) (over c)
  made_before {i} {f} {g} {e} {s = s} {L = L} k F R (goes_before y {u = u} {r = r} {o = o} {c = c} {d = d} C G) =
      let M : Outcome → Type 0 = λ o. At Q (staged whole f (loop_pre i g)) e s L o (over (both_costs c (over d))) in
      lowered (subst M (sym (first_later y u r o)) (make_stages Q one (chained F (loop_parts Q one k R) C (goes (at_loop k R G))))) (below (omega arith) (omega arith))
  made_before k F R (stays_before C) = lowered (make_stages Q one (chained F (loop_parts Q one k R) C stays)) (below (omega arith) (omega arith))

  pub sound_left_tightened : {i : Expression} {f g : Term} → OneStill i f → Sound Q one true (loop_pre i (staged whole (sided First f) g)) (staged whole f (loop_pre i g))
  sound_left_tightened q e s L ys o c P (at_leaf h B) = absurd (no_truth h)
  sound_left_tightened {f = f} {g = g} q e s L ys o c P (at_loop {v = v} k A (part B C)) =
      elim (rounds_split f g e v A) [ split F R ↦ made_before k F R (step_before f g e v F R (view_stages Q one (rounds_parts Q one A) C)) ]
  sound_left_tightened {i} {f} {g} q e s L ys o c P (at_constant z k) = elim q [
    | inl h ↦ absurd (no_fault (sym (quiet_eval i h (scope_around Q.functions e)).1 ∙ k))
    | inr h ↦
        let r = quiet_steps Q one f h e s [] [] begins in
        lowered (make_stages Q one (chained begins begins r.1 (goes (at_constant refl k)))) (below (omega arith) (omega arith))
  ]

  last_loop : {i : Expression} {g : Term} {e : Environment} {v : Data} {s : Step} {M : Life} {o : Outcome} {c : Cost} → eval i (scope_around Q.functions e) ≡ answer v → At Q (loop_pre i g) e s M o c → (y : Data) (r : Readings) → o ≡ gave y r → (zs : List Data) × Rounds Q v g e (s ∷ M) zs
  last_loop k (at_leaf h A) y r e = absurd (no_truth h)
  last_loop {g = g} {e = e} {v = v} {s = s} {M = M} k (at_loop {v = w} {zs = zs} {o = gave z q} {c = c} k' R G) y r h =
      let identity : w ≡ v = ap the_answer (sym k' ∙ k) in
      let N : Data → Type 0 = λ v. Rounds Q v g e M zs in
      let O : Data → Type 0 = λ v. Part Q g e (fed v (s ∷ M) zs) (gave z q) c in
      (z ∷ zs, one_round (subst N identity R) (subst O identity G))
  last_loop k (at_loop {o = faulted x} k' R G) y r h = absurd cc
  last_loop k (at_constant z k') y r h = absurd (no_fault (sym k ∙ k'))

  loop_rounds : {i : Expression} {g : Term} {e : Environment} {v : Data} {M : Life} {ys : List Data} → eval i (scope_around Q.functions e) ≡ answer v → Parts Q (loop_pre i g) e M ys → (zs : List Data) × Rounds Q v g e M zs
  loop_rounds k begins = ([], no_round)
  loop_rounds k (then_gave {y = y} {r = r} A B) = last_loop k B y r refl

  pub back_left_tightened : {i : Expression} {f g : Term} → OneStill i f → Sound Q one false (staged whole f (loop_pre i g)) (loop_pre i (staged whole (sided First f) g))
  back_left_tightened {i} {f} {g} still e s L zs o c P F = outer (view_stages Q one P F)
    where
      value : {M : Life} {us : List Data} {u : Data} {r : Readings} {q : Outcome} {c d : Cost} (b : Cost) → M ≡ relay L us → Parts Q f e L us → At Q f e s L (gave u r) c → At Q (loop_pre i g) e (with_input s u) M q d
          → Lowered false (At Q (loop_pre i (staged whole (sided First f) g)) e s L (combined later (gave u r) q)) b
      value b h A C (at_leaf l D) = absurd (no_truth l)
      value {us = us} {u = u} {r = r} b h A C (at_loop {v = v} {zs = zs} {o = q} {c = d} k R G) =
          let N : Life → Type 0 = λ M. Rounds Q v g e M zs in
          let O : Life → Type 0 = λ M. Part Q g e (fed v (with_input s u ∷ M) zs) q d in
          let R' : Rounds Q v g e (relay L us) zs = subst N h R in
          let S = rounds_join f g e v A R' in
          elim (step_join f g e v {s = s} A R' S (goes_before u C (subst O h G))) [
            | lowered {b = b} B l ↦
                let M : Outcome → Type 0 = λ o. At Q (loop_pre i (staged whole (sided First f) g)) e s L o (over b) in
                lowered (subst M (first_later u u r q) (at_loop k S B)) (below_any _ _)
          ]
      value {r = r} b h A C (at_constant {x = x} z k) =
          let N : Life → Type 0 = λ L. At Q (loop_pre i (staged whole (sided First f) g)) e s L (faulted x) (over (text_cost (staged whole (sided First f) g))) in
          lowered (subst N (sym (relay_none A (sym h))) (at_constant refl k)) (below_any _ _)

      outer : {o : Outcome} {c : Cost} → Chained Q whole f (loop_pre i g) e s L zs o c → Lowered false (At Q (loop_pre i (staged whole (sided First f) g)) e s L o) c
      outer (chained {p = gave u r} A B C (goes D)) = value _ refl A C D
      outer (chained {ys = us} {p = faulted x} {c = c} A B C stays) = elim still [
        | inl h ↦
            let k = quiet_eval i h (scope_around Q.functions e) in
            let R = loop_rounds k.1 B in
            let S = rounds_join f g e k.0 A R.1 in
            elim (step_join f g e k.0 {s = s} A R.1 S (stays_before C)) [ lowered B l ↦ lowered (at_loop k.1 S B) (below_any _ _) ]
        | inr h ↦ absurd (not_quiet Q one h A C)
      ]
