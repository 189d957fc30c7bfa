-- Pairs of stages, exchanged.
use Rattle.std.proofs.Common.{◌≡◌, Bool, true, false, IsTrue, List, [], ◌∷◌, ◌++◌, refl, sym, ap, ◌∙◌, subst, arith, append_assoc, append-nil, ◌⊎◌, inl, inr}
use Rattle.sf_value.specs.Values.{Data, pair, first_of, second_of}
use Rattle.sf_value.specs.declared.fault.ValueFault.{ValueFault}
use Rattle.sf_term.specs.declared.form.Join.TheVariants.{InParallel}
use Rattle.sf_term.specs.Trees.{whole, Term, joined, staged}
use Rattle.sf_mean.specs.Lives.{Step, step, wait_of, input_of, Life, Environment, with_inputs, relay}
use Rattle.sf_mean.specs.Meaning.{Readings, Outcome, gave, faulted, combined, outcome_value, Cost, count, height, both_costs, over, text_cost}
use Rattle.sf_rewrite.specs.Quiet.{is_quiet}
use Rattle.sf_rewrite.proofs.Parts.{Leaves, Parts, begins, then_gave, At, OneLeaf}
use Rattle.sf_rewrite.proofs.Views.{Along, goes, stays, later, pairs, with_input, Chained, chained, Paired, paired, join_stages, make_stages, split_stages, view_stages, join_parallel, make_parallel, split_parallel, view_parallel}
use Rattle.sf_rewrite.proofs.Quiet.{quiet_steps, quiet_gave}
use Rattle.sf_rewrite.proofs.Lowered.{Lowered, lowered, below_any, below}
use Rattle.sf_rewrite.proofs.Along.{Sound}

abbrev readings_in : Outcome → Readings
readings_in (gave y r) = r
readings_in (faulted x) = []

no_gave : {x : ValueFault} {y : Data} {r : Readings} → faulted x ≡ gave y r → ⊥
no_gave h = cc

order_lists : (r1 r2 r3 r4 : Readings) → (r2 ≡ []) ⊎ (r3 ≡ []) → (r1 ++ r3) ++ (r2 ++ r4) ≡ (r1 ++ r2) ++ (r3 ++ r4)
order_lists r1 r2 r3 r4 (inl h) =
    let N : Readings → Type 0 = λ r. (r1 ++ r3) ++ (r ++ r4) ≡ (r1 ++ r) ++ (r3 ++ r4) in
    subst N (sym h) (append_assoc r1 r3 r4 ∙ ap (λ l. l ++ (r3 ++ r4)) (sym (append-nil r1)))
order_lists r1 r2 r3 r4 (inr h) =
    let N : Readings → Type 0 = λ r. (r1 ++ r) ++ (r2 ++ r4) ≡ (r1 ++ r2) ++ (r ++ r4) in
    subst N (sym h) (ap (λ l. l ++ (r2 ++ r4)) (append-nil r1) ∙ sym (append_assoc r1 r2 r4))

module _ (Q : Leaves) (one : OneLeaf Q) where
  abbrev Made : Bool → Term → Environment → Step → Life → Outcome → Cost → Type 0
  Made d u e s L o c = Lowered d (At Q u e s L o) c

  relay_firsts : {f g : Term} {e : Environment} (L : Life) {xs bs : List Data} → Parts Q f e (with_inputs first_of L) xs → Parts Q g e (with_inputs second_of L) bs → with_inputs first_of (relay L (pairs xs bs)) ≡ relay (with_inputs first_of L) xs
  relay_firsts [] begins begins = refl
  relay_firsts (s ∷ L) (then_gave {y = y} A B) (then_gave A' B') = ap (λ L. step (wait_of s) y ∷ L) (relay_firsts L A A')

  relay_seconds : {f g : Term} {e : Environment} (L : Life) {xs bs : List Data} → Parts Q f e (with_inputs first_of L) xs → Parts Q g e (with_inputs second_of L) bs → with_inputs second_of (relay L (pairs xs bs)) ≡ relay (with_inputs second_of L) bs
  relay_seconds [] begins begins = refl
  relay_seconds (s ∷ L) (then_gave A B) (then_gave {y = y} A' B') = ap (λ L. step (wait_of s) y ∷ L) (relay_seconds L A A')

  abbrev pub OneQuiet : Term → Term → Type 0
  OneQuiet g h = IsTrue (is_quiet g) ⊎ IsTrue (is_quiet h)

  -- of two parts, one is quiet: it doesn't fault, and has no readings
  pub not_quiet : {t : Term} {e : Environment} {s : Step} {L : Life} {ys : List Data} {x : ValueFault} {c : Cost} → IsTrue (is_quiet t) → Parts Q t e L ys → At Q t e s L (faulted x) c → ⊥
  not_quiet h P A = let k = quiet_gave Q one h P A in no_gave k.1

  no_readings : {t : Term} {e : Environment} {s : Step} {L : Life} {ys : List Data} {y : Data} {r : Readings} {c : Cost} → IsTrue (is_quiet t) → Parts Q t e L ys → At Q t e s L (gave y r) c → r ≡ []
  no_readings h P A = let k = quiet_gave Q one h P A in ap readings_in k.1

  reordered : {g h : Term} {e : Environment} {s s' : Step} {M M' : Life} {bs us : List Data} {b u : Data} {r2 r3 : Readings} {c d : Cost} → OneQuiet g h → Parts Q g e M bs → At Q g e s M (gave b r2) c → Parts Q h e M' us → At Q h e s' M' (gave u r3) d
      → (a : Data) (r1 : Readings) (q2 : Outcome) → combined pair (gave u (r1 ++ r3)) (combined later (gave b r2) q2) ≡ combined later (gave (pair a b) (r1 ++ r2)) (combined pair (gave u r3) q2)
  reordered {u = u} {r2 = r2} {r3 = r3} (inl x) A B C D a r1 (gave w r4) = ap (gave (pair u w)) (order_lists r1 r2 r3 r4 (inl (no_readings x A B)))
  reordered {u = u} {r2 = r2} {r3 = r3} (inr x) A B C D a r1 (gave w r4) = ap (gave (pair u w)) (order_lists r1 r2 r3 r4 (inr (no_readings x C D)))
  reordered x A B C D a r1 (faulted f) = refl

  pub sound_exchanged : {f g h k : Term} → OneQuiet g h → Sound Q one true (staged whole (joined InParallel f g) (joined InParallel h k)) (joined InParallel (staged whole f h) (staged whole g k))
  sound_exchanged {f} {g} {h} {k} quiet e s L zs o c P F = outer (view_stages Q one P F)
    where
      middle : {ys zs : List Data} {p q : Outcome} {a b : Cost} → Paired Q f g e s L ys p a → Parts Q (joined InParallel h k) e (relay L ys) zs → Along Q p (joined InParallel h k) e (with_input s (outcome_value p)) (relay L ys) q b
          → Made true (joined InParallel (staged whole f h) (staged whole g k)) e s L (combined later p q) (over (both_costs a b))
      middle {zs = zs} {q = q} {b = b} (paired {ys = xs} {zs = bs} {p = p1} {q = p2} {c = c1} {d = c2} A-one B-one C-one D-one) B D = inner p1 p2 C-one D-one D
        where
          sp : (us : List Data) × (ws : List Data) × Parts Q h e (with_inputs first_of (relay L (pairs xs bs))) us × Parts Q k e (with_inputs second_of (relay L (pairs xs bs))) ws × (pairs us ws ≡ zs)
          sp = split_parallel Q one B

          el1 : with_inputs first_of (relay L (pairs xs bs)) ≡ relay (with_inputs first_of L) xs
          el1 = relay_firsts L A-one B-one

          el2 : with_inputs second_of (relay L (pairs xs bs)) ≡ relay (with_inputs second_of L) bs
          el2 = relay_seconds L A-one B-one

          H : Parts Q h e (relay (with_inputs first_of L) xs) sp.0
          H = let N : Life → Type 0 = λ M. Parts Q h e M sp.0 in subst N el1 sp.2

          K : Parts Q k e (relay (with_inputs second_of L) bs) sp.1
          K = let N : Life → Type 0 = λ M. Parts Q k e M sp.1 in subst N el2 sp.3

          FH : Parts Q (staged whole f h) e (with_inputs first_of L) sp.0
          FH = join_stages Q one A-one H

          GK : Parts Q (staged whole g k) e (with_inputs second_of L) sp.1
          GK = join_stages Q one B-one K

          last : {c1 c2 d1 d2 : Cost} {a b : Data} {r1 r2 : Readings} (q1 q2 : Outcome) → At Q f e (with_input s (first_of (input_of s))) (with_inputs first_of L) (gave a r1) c1 → At Q g e (with_input s (second_of (input_of s))) (with_inputs second_of L) (gave b r2) c2
              → At Q h e (with_input s a) (relay (with_inputs first_of L) xs) q1 d1 → Along Q q1 k e (with_input s b) (relay (with_inputs second_of L) bs) q2 d2
              → Made true (joined InParallel (staged whole f h) (staged whole g k)) e s L (combined later (gave (pair a b) (r1 ++ r2)) (combined pair q1 q2)) (over (both_costs (over (both_costs c1 c2)) (over (both_costs d1 d2))))
          last {c1} {c2} {d1} {d2} {a} {b} {r1} {r2} (gave u r3) q2 C-one E-one C-two (goes E-two) =
              let M : Outcome → Type 0 = λ o. At Q (joined InParallel (staged whole f h) (staged whole g k)) e s L o (over (both_costs (over (both_costs c1 d1)) (over (both_costs c2 d2)))) in
              lowered (subst M (reordered quiet B-one E-one H C-two a r1 q2) (make_parallel Q one (paired FH GK (make_stages Q one (chained A-one H C-one (goes C-two))) (goes (make_stages Q one (chained B-one K E-one (goes E-two)))))))
              (below (omega arith) (omega arith))
          last {c1} {c2} {d1} (faulted x) q2 C-one E-one C-two stays = elim quiet [
            | inl hg ↦
                let r = quiet_gave Q one hg B-one E-one in
                let u : count c2 ≡ count (text_cost g) = ap count r.2 in
                let v : height c2 ≡ height (text_cost g) = ap height r.2 in
                lowered (make_parallel Q one (paired FH GK (make_stages Q one (chained A-one H C-one (goes C-two))) stays)) (below (omega (arith, u)) (omega (arith, v)))
            | inr hh ↦ absurd (not_quiet hh H C-two)
          ]

          inner : {c1 c2 b : Cost} {q : Outcome} (p1 p2 : Outcome) → At Q f e (with_input s (first_of (input_of s))) (with_inputs first_of L) p1 c1 → Along Q p1 g e (with_input s (second_of (input_of s))) (with_inputs second_of L) p2 c2
              → Along Q (combined pair p1 p2) (joined InParallel h k) e (with_input s (outcome_value (combined pair p1 p2))) (relay L (pairs xs bs)) q b
              → Made true (joined InParallel (staged whole f h) (staged whole g k)) e s L (combined later (combined pair p1 p2) q) (over (both_costs (over (both_costs c1 c2)) b))
          inner {c1} {c2} (gave a r1) (gave b r2) C-one (goes E-one) (goes E) = seen (view_parallel Q one B E)
            where
              seen : {zs : List Data} {q : Outcome} {d : Cost} → Paired Q h k e (with_input s (pair a b)) (relay L (pairs xs bs)) zs q d → Made true (joined InParallel (staged whole f h) (staged whole g k)) e s L (combined later (gave (pair a b) (r1 ++ r2)) q) (over (both_costs (over (both_costs c1 c2)) d))
              seen (paired {p = q1} {q = q2} {c = d1} {d = d2} A-two B-two C-two D-two) =
                  let N : Life → Type 0 = λ M. At Q h e (with_input s a) M q1 d1 in
                  let O : Life → Type 0 = λ M. Along Q q1 k e (with_input s b) M q2 d2 in
                  last q1 q2 C-one E-one (subst N el1 C-two) (subst O el2 D-two)
          inner {c1} {c2} (gave a r1) (faulted x) C-one (goes E-one) stays = elim quiet [
            | inl hg ↦ absurd (not_quiet hg B-one E-one)
            | inr hh ↦
                let r = quiet_steps Q one h hh e (with_input s a) (relay (with_inputs first_of L) xs) sp.0 H in
                lowered (make_parallel Q one (paired FH GK (make_stages Q one (chained A-one H C-one (goes r.1))) (goes (make_stages Q one (chained B-one K E-one stays))))) (below (omega arith) (omega arith))
          ]
          inner (faulted x) p2 C-one stays stays = lowered (make_parallel Q one (paired FH GK (make_stages Q one (chained A-one H C-one stays)) stays)) (below (omega arith) (omega arith))

      outer : {o : Outcome} {c : Cost} → Chained Q whole (joined InParallel f g) (joined InParallel h k) e s L zs o c → Made true (joined InParallel (staged whole f h) (staged whole g k)) e s L o c
      outer (chained A B C D) = middle (view_parallel Q one A C) B D

  pub back_exchanged : {f g h k : Term} → OneQuiet g h → Sound Q one false (joined InParallel (staged whole f h) (staged whole g k)) (staged whole (joined InParallel f g) (joined InParallel h k))
  back_exchanged {f} {g} {h} {k} quiet e s L zs o c P F = outer (view_parallel Q one P F)
    where
      lift_first : {xs bs us : List Data} → Parts Q f e (with_inputs first_of L) xs → Parts Q g e (with_inputs second_of L) bs → Parts Q h e (relay (with_inputs first_of L) xs) us → Parts Q h e (with_inputs first_of (relay L (pairs xs bs))) us
      lift_first {us = us} A-one B-one H = let N : Life → Type 0 = λ M. Parts Q h e M us in subst N (sym (relay_firsts L A-one B-one)) H

      lift_second : {xs bs ws : List Data} → Parts Q f e (with_inputs first_of L) xs → Parts Q g e (with_inputs second_of L) bs → Parts Q k e (relay (with_inputs second_of L) bs) ws → Parts Q k e (with_inputs second_of (relay L (pairs xs bs))) ws
      lift_second {ws = ws} A-one B-one K = let N : Life → Type 0 = λ M. Parts Q k e M ws in subst N (sym (relay_seconds L A-one B-one)) K

      built : {xs bs us ws : List Data} → Parts Q f e (with_inputs first_of L) xs → Parts Q h e (relay (with_inputs first_of L) xs) us → Parts Q g e (with_inputs second_of L) bs → Parts Q k e (relay (with_inputs second_of L) bs) ws → Parts Q (joined InParallel h k) e (relay L (pairs xs bs)) (pairs us ws)
      built {xs} {bs} A-one H B-one K = join_parallel Q one (relay L (pairs xs bs)) (lift_first A-one B-one H) (lift_second A-one B-one K)

      to_first : {xs bs : List Data} {a : Data} {q : Outcome} {d : Cost} → Parts Q f e (with_inputs first_of L) xs → Parts Q g e (with_inputs second_of L) bs → At Q h e (with_input s a) (relay (with_inputs first_of L) xs) q d → At Q h e (with_input s a) (with_inputs first_of (relay L (pairs xs bs))) q d
      to_first {a = a} {q = q} {d = d} A-one B-one E = let N : Life → Type 0 = λ M. At Q h e (with_input s a) M q d in subst N (sym (relay_firsts L A-one B-one)) E

      to_second : {xs bs : List Data} {b : Data} {q : Outcome} {d : Cost} → Parts Q f e (with_inputs first_of L) xs → Parts Q g e (with_inputs second_of L) bs → At Q k e (with_input s b) (relay (with_inputs second_of L) bs) q d → At Q k e (with_input s b) (with_inputs second_of (relay L (pairs xs bs))) q d
      to_second {b = b} {q = q} {d = d} A-one B-one E = let N : Life → Type 0 = λ M. At Q k e (with_input s b) M q d in subst N (sym (relay_seconds L A-one B-one)) E

      done : {xs us ws : List Data} {a u : Data} {r1 r3 : Readings} {q : Outcome} {c1 d1 d : Cost} (c : Cost) → Parts Q f e (with_inputs first_of L) xs → Parts Q h e (relay (with_inputs first_of L) xs) us → At Q f e (with_input s (first_of (input_of s))) (with_inputs first_of L) (gave a r1) c1 → At Q h e (with_input s a) (relay (with_inputs first_of L) xs) (gave u r3) d1
          → Chained Q whole g k e (with_input s (second_of (input_of s))) (with_inputs second_of L) ws q d → Made false (staged whole (joined InParallel f g) (joined InParallel h k)) e s L (combined pair (gave u (r1 ++ r3)) q) c
      done {a = a} {r1 = r1} {c1 = c1} {d1 = d1} c A-one H C-one E-one (chained {p = gave b r2} {q = q2} {c = c2} {d = d2} B-one K C-two (goes E-two)) =
          let M : Outcome → Type 0 = λ o. At Q (staged whole (joined InParallel f g) (joined InParallel h k)) e s L o (over (both_costs (over (both_costs c1 c2)) (over (both_costs d1 d2)))) in
          lowered (subst M (sym (reordered quiet B-one C-two H E-one a r1 q2))
          (make_stages Q one (chained (join_parallel Q one L A-one B-one) (built A-one H B-one K) (make_parallel Q one (paired A-one B-one C-one (goes C-two))) (goes (make_parallel Q one (paired (lift_first A-one B-one H) (lift_second A-one B-one K) (to_first A-one B-one E-one) (goes (to_second A-one B-one E-two)))))))) (below_any _ _)
      done c A-one H C-one E-one (chained {p = faulted x} B-one K C-two stays) =
          lowered (make_stages Q one (chained (join_parallel Q one L A-one B-one) (built A-one H B-one K) (make_parallel Q one (paired A-one B-one C-one (goes C-two))) stays)) (below_any _ _)

      two : {xs us ws : List Data} {a : Data} {r1 : Readings} {c1 d1 d : Cost} (c : Cost) (q1 q : Outcome) → Parts Q f e (with_inputs first_of L) xs → Parts Q h e (relay (with_inputs first_of L) xs) us → At Q f e (with_input s (first_of (input_of s))) (with_inputs first_of L) (gave a r1) c1 → At Q h e (with_input s a) (relay (with_inputs first_of L) xs) q1 d1
          → Parts Q (staged whole g k) e (with_inputs second_of L) ws → Along Q (combined later (gave a r1) q1) (staged whole g k) e (with_input s (second_of (input_of s))) (with_inputs second_of L) q d → Made false (staged whole (joined InParallel f g) (joined InParallel h k)) e s L (combined pair (combined later (gave a r1) q1) q) c
      two c (gave u r3) q A-one H C-one E-one B (goes E) = done c A-one H C-one E-one (view_stages Q one B E)
      two c (faulted x) q A-one H C-one E-one B stays = elim quiet [
        | inl hg ↦
            let sp = split_stages Q one B in
            let r = quiet_steps Q one g hg e (with_input s (second_of (input_of s))) (with_inputs second_of L) sp.0 sp.1 in
            lowered (make_stages Q one (chained (join_parallel Q one L A-one sp.1) (built A-one H sp.1 sp.2) (make_parallel Q one (paired A-one sp.1 C-one (goes r.1))) (goes (make_parallel Q one (paired (lift_first A-one sp.1 H) (lift_second A-one sp.1 sp.2) (to_first A-one sp.1 E-one) stays))))) (below_any _ _)
        | inr hh ↦ absurd (not_quiet hh H E-one)
      ]

      mid : {us ws : List Data} {p q : Outcome} {a d : Cost} (c : Cost) → Chained Q whole f h e (with_input s (first_of (input_of s))) (with_inputs first_of L) us p a → Parts Q (staged whole g k) e (with_inputs second_of L) ws → Along Q p (staged whole g k) e (with_input s (second_of (input_of s))) (with_inputs second_of L) q d → Made false (staged whole (joined InParallel f g) (joined InParallel h k)) e s L (combined pair p q) c
      mid {q = q} c (chained {q = q1} A-one H C-one (goes E-one)) B D = two c q1 q A-one H C-one E-one B D
      mid c (chained A-one H C-one stays) B stays =
          let sp = split_stages Q one B in
          lowered (make_stages Q one (chained (join_parallel Q one L A-one sp.1) (built A-one H sp.1 sp.2) (make_parallel Q one (paired A-one sp.1 C-one stays)) stays)) (below_any _ _)

      outer : {zs : List Data} {o : Outcome} {c : Cost} → Paired Q (staged whole f h) (staged whole g k) e s L zs o c → Made false (staged whole (joined InParallel f g) (joined InParallel h k)) e s L o c
      outer (paired {c = a} {d = d} A B C D) = mid (over (both_costs a d)) (view_stages Q one A C) B D
