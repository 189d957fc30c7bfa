-- Loops: what goes on with the first output, and what the first input comes from.
use Rattle.std.proofs.Common.{◌≡◌, true, false, List, [], ◌∷◌, refl, sym, ap, ◌∙◌, subst, arith}
use mathlib.Core.Path.{ap₂}
use Rattle.sf_value.specs.Values.{Data, pair, first_of, second_of}
use Rattle.sf_value.specs.declared.fault.ValueFault.{ValueFault}
use Rattle.sf_expr.specs.Expressions.{Expression}
use Rattle.sf_expr.specs.Evaluation.{answer, eval}
use Rattle.sf_term.specs.declared.form.Side.TheVariants.{First}
use Rattle.sf_term.specs.Trees.{whole, Term, sided, staged}
use Rattle.sf_mean.specs.Lives.{Step, step, wait_of, input_of, Life, Environment, scope_around, with_inputs, relay, fed_back, older, fed}
use Rattle.sf_mean.specs.Formulas.{side_replaced}
use Rattle.sf_mean.specs.Meaning.{Readings, Outcome, gave, faulted, changed, combined, outcome_value, Cost, both_costs, over, text_cost}
use Rattle.sf_rewrite.specs.Laws.{loop_pre}
use Rattle.sf_rewrite.proofs.Parts.{Leaves, Part, part, Parts, begins, then_gave, At, at_leaf, at_side, at_loop, at_constant, Rounds, no_round, one_round, no_truth, OneLeaf, onces}
use Rattle.sf_rewrite.proofs.Views.{Along, goes, stays, later, with_input, Chained, chained, Sided, seen_side, make_stages, split_stages, view_stages, view_side}
use Rattle.sf_rewrite.proofs.Lowered.{Lowered, lowered, below_any, below}

-- values with the same second parts
pub data Echo : List Data → List Data → Type 0 where
  no_echo : Echo [] []
  one_echo : {y z : Data} {ys zs : List Data} → second_of z ≡ second_of y → Echo zs ys → Echo (z ∷ zs) (y ∷ ys)

echo_back : {zs ys : List Data} (v : Data) → Echo zs ys → fed_back v zs ≡ fed_back v ys
echo_back v no_echo = refl
echo_back v (one_echo h E) = h

echo_older : {zs ys : List Data} → Echo zs ys → Echo (older zs) (older ys)
echo_older no_echo = no_echo
echo_older (one_echo h E) = E

fed_echo : {zs ys : List Data} (v : Data) (L : Life) → Echo zs ys → fed v L zs ≡ fed v L ys
fed_echo v [] E = refl
fed_echo v (s ∷ L) E = ap₂ (λ a M. step (wait_of s) (pair (input_of s) a) ∷ M) (echo_back v E) (fed_echo v L (echo_older E))

abbrev pub firsts : List Data → List Data
firsts [] = []
firsts (y ∷ ys) = first_of y ∷ firsts ys

relay_fed : (v : Data) (L : Life) (ws ys : List Data) → with_inputs first_of (relay (fed v L ws) ys) ≡ relay L (firsts ys)
relay_fed v [] ws ys = refl
relay_fed v (s ∷ L) ws [] = refl
relay_fed v (s ∷ L) ws (y ∷ ys) = ap (λ M. step (wait_of s) (first_of y) ∷ M) (relay_fed v L (older ws) ys)

module _ (Q : Leaves) (one : OneLeaf Q) where
  pub rounds_parts : {v : Data} {t : Term} {e : Environment} {L : Life} {zs : List Data} → Rounds Q v t e L zs → Parts Q t e (fed v L (older zs)) zs
  rounds_parts no_round = begins
  rounds_parts (one_round A (part P B)) = then_gave (rounds_parts A) B

  pub loop_parts : {i : Expression} {v : Data} {t : Term} {e : Environment} {L : Life} {zs : List Data} → eval i (scope_around Q.functions e) ≡ answer v → Rounds Q v t e L zs → Parts Q (loop_pre i t) e L (firsts zs)
  loop_parts h no_round = begins
  loop_parts h (one_round A B) = then_gave (loop_parts h A) (at_loop h A B)

  module _ (g h : Term) (e : Environment) (v : Data) where
    -- what the loop's parts have lived
    data Lived : Life → List Data → Type 0 where
      lived : {L : Life} {zs ys us : List Data} → Rounds Q v g e L ys → Parts Q h e (relay L (firsts ys)) us → Echo zs ys → Lived L zs

    -- one step of the loop and of what comes after
    data Lives (s : Step) (L : Life) (ys : List Data) : Outcome → Cost → Type 0 where
      goes_after : {y : Data} {r : Readings} {o : Outcome} {c d : Cost} → Part Q g e (fed v (s ∷ L) ys) (gave y r) c → At Q h e (with_input s (first_of y)) (relay L (firsts ys)) o d
          → Lives s L ys (combined later (gave y r) (changed (side_replaced First y) o)) (over (both_costs c (over d)))
      stays_after : {x : ValueFault} {c : Cost} → Part Q g e (fed v (s ∷ L) ys) (faulted x) c → Lives s L ys (faulted x) (over (both_costs c (over (text_cost h))))

    step_after : {s : Step} {L : Life} {zs ys : List Data} {o : Outcome} {c : Cost} → Rounds Q v g e L ys → Echo zs ys
        → Chained Q whole g (sided First h) e (step (wait_of s) (pair (input_of s) (fed_back v zs))) (fed v L (older zs)) zs o c → Lives s L ys o c
    step_after {s} {L} {zs} {ys} R E (chained {ys = ws} {p = gave y r} {q = q} {c = c} {d = d} A B C (goes D)) = seen (view_side Q one D)
      where
        G : Part Q g e (fed v (s ∷ L) ys) (gave y r) c
        G = let N : Life → Type 0 = λ M. Part Q g e M (gave y r) c in subst N (fed_echo v (s ∷ L) E) (part A C)

        el : fed v L (older zs) ≡ fed v L (older ys)
        el = fed_echo v L (echo_older E)

        ew : ws ≡ ys
        ew = let N : Life → Type 0 = λ M. Parts Q g e M ws in onces Q one (subst N el A) (rounds_parts R)

        er : with_inputs first_of (relay (fed v L (older zs)) ws) ≡ relay L (firsts ys)
        er = relay_fed v L (older zs) ws ∙ ap (λ l. relay L (firsts l)) ew

        seen : {q : Outcome} {d : Cost} → Sided Q First h e (with_input (step (wait_of s) (pair (input_of s) (fed_back v zs))) y) (relay (fed v L (older zs)) ws) q d → Lives s L ys (combined later (gave y r) q) (over (both_costs c d))
        seen (seen_side {o = o} {c = b} F' F) = let N : Life → Type 0 = λ M. At Q h e (with_input s (first_of y)) M o b in goes_after G (subst N er F)
    step_after {s} {L} {zs} {ys} R E (chained {p = faulted x} {c = c} A B C stays) =
        let N : Life → Type 0 = λ M. Part Q g e M (faulted x) c in
        stays_after (subst N (fed_echo v (s ∷ L) E) (part A C))

    last_after : {s : Step} {L : Life} {zs ys us : List Data} {o : Outcome} {c : Cost} → Rounds Q v g e L ys → Parts Q h e (relay L (firsts ys)) us → Echo zs ys → Lives s L ys o c → (z : Data) (r : Readings) → o ≡ gave z r → Lived (s ∷ L) (z ∷ zs)
    last_after R H E (goes_after {y = y} {o = gave u q} G F) z r h = lived (one_round R G) (then_gave H F) (one_echo (ap second_of (ap outcome_value (sym h))) E)
    last_after R H E (goes_after {o = faulted x} G F) z r h = absurd cc
    last_after R H E (stays_after G) z r h = absurd cc

    lived_rounds : {L : Life} {zs : List Data} → Rounds Q v (staged whole g (sided First h)) e L zs → Lived L zs
    lived_rounds no_round = lived no_round begins no_echo
    lived_rounds (one_round {z = z} {r = r} A (part P B)) =
        elim (lived_rounds A) [ lived R H E ↦ last_after R H E (step_after R E (view_stages Q one (rounds_parts A) B)) z r refl ]

  made_after : {i : Expression} {g h : Term} {e : Environment} {v : Data} {s : Step} {L : Life} {ys us : List Data} {o : Outcome} {c : Cost} → eval i (scope_around Q.functions e) ≡ answer v → Rounds Q v g e L ys → Parts Q h e (relay L (firsts ys)) us → Lives g h e v s L ys o c
      → Lowered true (At Q (staged whole (loop_pre i g) h) e s L (changed first_of o)) (over c)
  made_after k R H (goes_after {y = y} {r = r} {o = gave u q} G F) = lowered (make_stages Q one (chained (loop_parts k R) H (at_loop k R G) (goes F))) (below (omega arith) (omega arith))
  made_after k R H (goes_after {y = y} {r = r} {o = faulted x} G F) = lowered (make_stages Q one (chained (loop_parts k R) H (at_loop k R G) (goes F))) (below (omega arith) (omega arith))
  made_after k R H (stays_after G) = lowered (make_stages Q one (chained (loop_parts k R) H (at_loop k R G) stays)) (below (omega arith) (omega arith))

  pub sound_right_tightened : {i : Expression} {g h : Term} (e : Environment) (s : Step) (L : Life) (ys : List Data) (o : Outcome) (c : Cost) → Parts Q (loop_pre i (staged whole g (sided First h))) e L ys
      → At Q (loop_pre i (staged whole g (sided First h))) e s L o c → Lowered true (At Q (staged whole (loop_pre i g) h) e s L o) c
  sound_right_tightened e s L ys o c P (at_leaf h B) = absurd (no_truth h)
  sound_right_tightened {g = g} {h = h} e s L ys o c P (at_loop {v = v} k A (part B C)) =
      elim (lived_rounds g h e v A) [ lived R H E ↦ made_after k R H (step_after g h e v R E (view_stages Q one (rounds_parts A) C)) ]
  sound_right_tightened e s L ys o c P (at_constant z k) = lowered (make_stages Q one (chained begins begins (at_constant refl k) stays)) (below (omega arith) (omega arith))

  module _ (g h : Term) (e : Environment) (v : Data) where
    abbrev Both : Term
    Both = staged whole g (sided First h)

    step_back : {s : Step} {L : Life} {zs ys us : List Data} {o : Outcome} {c : Cost} → Rounds Q v g e L ys → Parts Q h e (relay L (firsts ys)) us → Rounds Q v Both e L zs → Echo zs ys → Lives g h e v s L ys o c
        → Lowered false (Part Q Both e (fed v (s ∷ L) zs) o) c
    step_back {s} {L} {zs} {ys} {us} R H S E = go
      where
        sp : (ws : List Data) × Parts Q g e (fed v L (older zs)) ws × Parts Q (sided First h) e (relay (fed v L (older zs)) ws) zs
        sp = split_stages Q one (rounds_parts S)

        el : fed v L (older zs) ≡ fed v L (older ys)
        el = fed_echo v L (echo_older E)

        ew : sp.0 ≡ ys
        ew = let N : Life → Type 0 = λ M. Parts Q g e M sp.0 in onces Q one (subst N el sp.1) (rounds_parts R)

        er : with_inputs first_of (relay (fed v L (older zs)) sp.0) ≡ relay L (firsts ys)
        er = relay_fed v L (older zs) sp.0 ∙ ap (λ l. relay L (firsts l)) ew

        H-two : Parts Q h e (with_inputs first_of (relay (fed v L (older zs)) sp.0)) us
        H-two = let N : Life → Type 0 = λ M. Parts Q h e M us in subst N (sym er) H

        at_zs : {o : Outcome} {c : Cost} → Part Q g e (fed v (s ∷ L) ys) o c → Part Q g e (fed v (s ∷ L) zs) o c
        at_zs {o} {c} G = let N : Life → Type 0 = λ M. Part Q g e M o c in subst N (sym (fed_echo v (s ∷ L) E)) G

        with_h : {y : Data} {r : Readings} {o : Outcome} {c d b : Cost} → Part Q g e (fed v (s ∷ L) zs) (gave y r) c → At Q h e (with_input s (first_of y)) (relay L (firsts ys)) o d
            → Lowered false (Part Q Both e (fed v (s ∷ L) zs) (combined later (gave y r) (changed (side_replaced First y) o))) b
        with_h {y = y} {o = o} {d = d} (part A C) F =
            let N : Life → Type 0 = λ M. At Q h e (with_input s (first_of y)) M o d in
            lowered (part (rounds_parts S) (make_stages Q one (chained sp.1 sp.2 C (goes (at_side (part H-two (subst N (sym er) F))))))) (below_any _ _)

        without_h : {x : ValueFault} {c b : Cost} → Part Q g e (fed v (s ∷ L) zs) (faulted x) c → Lowered false (Part Q Both e (fed v (s ∷ L) zs) (faulted x)) b
        without_h (part A C) = lowered (part (rounds_parts S) (make_stages Q one (chained sp.1 sp.2 C stays))) (below_any _ _)

        go : {o : Outcome} {c : Cost} → Lives g h e v s L ys o c → Lowered false (Part Q Both e (fed v (s ∷ L) zs) o) c
        go (goes_after G F) = with_h (at_zs G) F
        go (stays_after G) = without_h (at_zs G)

    data Rebuilt : Life → List Data → Type 0 where
      rebuilt_rounds : {L : Life} {zs ys : List Data} → Rounds Q v Both e L zs → Echo zs ys → Rebuilt L ys

    back_rounds : {L : Life} {ys us : List Data} → Rounds Q v g e L ys → Parts Q h e (relay L (firsts ys)) us → Rebuilt L ys
    back_rounds no_round begins = rebuilt_rounds no_round no_echo
    back_rounds (one_round {s = s} R G) (then_gave {r = q} H F) =
        elim (back_rounds R H) [ rebuilt_rounds S E ↦ elim (step_back {s = s} R H S E (goes_after G F)) [ lowered B k ↦ rebuilt_rounds (one_round S B) (one_echo refl E) ] ]

  first_after : (y : Data) (r : Readings) (q : Outcome) → changed first_of (combined later (gave y r) (changed (side_replaced First y) q)) ≡ combined later (gave (first_of y) r) q
  first_after y r (gave u w) = refl
  first_after y r (faulted x) = refl

  pub back_right_tightened : {i : Expression} {g h : Term} (e : Environment) (s : Step) (L : Life) (ys : List Data) (o : Outcome) (c : Cost) → Parts Q (staged whole (loop_pre i g) h) e L ys
      → At Q (staged whole (loop_pre i g) h) e s L o c → Lowered false (At Q (loop_pre i (staged whole g (sided First h))) e s L o) c
  back_right_tightened {i} {g} {h} e s L zs o c P F = outer (view_stages Q one P F)
    where
      value : {L : Life} {v : Data} {ys us : List Data} {p q : Outcome} {c d b : Cost} → eval i (scope_around Q.functions e) ≡ answer v → Rounds Q v g e L ys → Parts Q h e (relay L (firsts ys)) us → Part Q g e (fed v (s ∷ L) ys) p c
          → Along Q (changed first_of p) h e (with_input s (outcome_value (changed first_of p))) (relay L (firsts ys)) q d → Lowered false (At Q (loop_pre i (staged whole g (sided First h))) e s L (combined later (changed first_of p) q)) b
      value {L = L} {v = v} {p = gave y r} {q = q} k R H G (goes F) =
          elim (back_rounds g h e v R H) [
            | rebuilt_rounds S E ↦ elim (step_back g h e v {s = s} R H S E (goes_after G F)) [
              | lowered {b = b} B l ↦
                  let M : Outcome → Type 0 = λ o. At Q (loop_pre i (staged whole g (sided First h))) e s L o (over b) in
                  lowered (subst M (first_after y r q) (at_loop k S B)) (below_any _ _)
            ]
          ]
      value {v = v} {p = faulted x} k R H G stays =
          elim (back_rounds g h e v R H) [ rebuilt_rounds S E ↦ elim (step_back g h e v {s = s} R H S E (stays_after G)) [ lowered B l ↦ lowered (at_loop k S B) (below_any _ _) ] ]

      moved : {L : Life} {v : Data} {ys fs us : List Data} {p q : Outcome} {c d b : Cost} → fs ≡ firsts ys → eval i (scope_around Q.functions e) ≡ answer v → Rounds Q v g e L ys → Parts Q h e (relay L fs) us → Part Q g e (fed v (s ∷ L) ys) p c
          → Along Q (changed first_of p) h e (with_input s (outcome_value (changed first_of p))) (relay L fs) q d → Lowered false (At Q (loop_pre i (staged whole g (sided First h))) e s L (combined later (changed first_of p) q)) b
      moved {L = L} {us = us} {p = p} {q = q} {d = d} x k R H G D =
          let N : List Data → Type 0 = λ l. Parts Q h e (relay L l) us in
          let O : List Data → Type 0 = λ l. Along Q (changed first_of p) h e (with_input s (outcome_value (changed first_of p))) (relay L l) q d in
          value k R (subst N x H) G (subst O x D)

      outer : {L : Life} {zs : List Data} {o : Outcome} {c : Cost} → Chained Q whole (loop_pre i g) h e s L zs o c → Lowered false (At Q (loop_pre i (staged whole g (sided First h))) e s L o) c
      outer (chained A B (at_leaf k C) D) = absurd (no_truth k)
      outer (chained A B (at_loop k R G) D) = moved (onces Q one A (loop_parts k R)) k R B G D
      outer (chained A B (at_constant z k) stays) = lowered (at_constant refl k) (below_any _ _)
