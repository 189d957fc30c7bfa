-- Identities and pipelines.
use Rattle.std.proofs.Common.{◌≡◌, Bool, true, false, List, [], ◌∷◌, refl, sym, ap, ◌∙◌, subst, arith, append_assoc, append-nil}
use mathlib.Core.Path.{ap₂, subst₂}
use Rattle.sf_value.specs.Values.{Data}
use Rattle.sf_term.specs.declared.form.Join.TheVariants.{InSequence}
use Rattle.sf_term.specs.Trees.{Extent, whole, rest, Term, joined, staged}
use Rattle.sf_mean.specs.Lives.{Step, step, wait_of, input_of, Life, Environment, relay}
use Rattle.sf_mean.specs.Meaning.{Outcome, gave, faulted, combined, outcome_value, Cost, both_costs, over_stages, one_term, text_cost}
use Rattle.sf_rewrite.specs.Laws.{identity}
use Rattle.sf_rewrite.proofs.Parts.{Leaves, Parts, begins, then_gave, At, at_leaf, at_primitive, at_join, at_stages, no_truth, OneLeaf, once_at}
use Rattle.sf_rewrite.proofs.Views.{Along, goes, stays, later, with_input, Chained, chained, join_stages, make_stages, split_stages, view_stages}
use Rattle.sf_rewrite.proofs.Lowered.{Below, Lowered, lowered, below_same, below_any, below, below_stages}
use Rattle.sf_rewrite.proofs.Along.{Sound, RebuildsStages, rebuilt_stages}

pub after_value : (x : Data) (o : Outcome) → combined later (gave x []) o ≡ o
after_value x (gave y r) = refl
after_value x (faulted f) = refl

combined_assoc : (o p q : Outcome) → combined later (combined later o p) q ≡ combined later o (combined later p q)
combined_assoc (gave x r) (gave y s) (gave z t) = ap (gave z) (append_assoc r s t)
combined_assoc (gave x r) (gave y s) (faulted f) = refl
combined_assoc (gave x r) (faulted f) q = refl
combined_assoc (faulted f) p q = refl

pub same_step : (s : Step) → step (wait_of s) (input_of s) ≡ s
same_step (step d x) = refl

-- stages cost no less than each of them
pub below_first : (x : Extent) (a b : Cost) → Below true (over_stages x (both_costs a b)) a
below_first whole a b = below (omega arith) (omega arith)
below_first rest a b = below (omega arith) (omega arith)

pub below_second : (x : Extent) (a b : Cost) → Below true (over_stages x (both_costs a b)) b
below_second whole a b = below (omega arith) (omega arith)
below_second rest a b = below (omega arith) (omega arith)

pub right_below : (a b c : Cost) → Below true (both_costs (both_costs a b) c) (both_costs a (both_costs b c))
right_below a b c = below (omega arith) (omega arith)

pub left_below : (a b c : Cost) → Below true (both_costs a (both_costs b c)) (both_costs (both_costs a b) c)
left_below a b c = below (omega arith) (omega arith)

module _ (Q : Leaves) (one : OneLeaf Q) where
  -- ## `>>>` is a pipeline

  pub sound_as_pipeline : {d : Bool} {f g : Term} → Sound Q one d (joined InSequence f g) (staged whole f g)
  sound_as_pipeline e s L ys o c P (at_leaf h B) = absurd (no_truth h)
  sound_as_pipeline {d = d} e s L ys o c P (at_join A B C) = lowered (at_stages A B C) (below_same d _)

  pub back_as_pipeline : {d : Bool} {f g : Term} → Sound Q one d (staged whole f g) (joined InSequence f g)
  back_as_pipeline e s L ys o c P (at_leaf h B) = absurd (no_truth h)
  back_as_pipeline {d = d} e s L ys o c P (at_stages A B C) = lowered (at_join A B C) (below_same d _)

  pub sound_within_pipeline : {f g : Term} → Sound Q one true (staged whole f g) (staged rest f g)
  sound_within_pipeline e s L ys o c P (at_leaf h B) = absurd (no_truth h)
  sound_within_pipeline e s L ys o c P (at_stages A B C) = lowered (at_stages A B C) (below (omega arith) (omega arith))

  pub back_within_pipeline : {f g : Term} → Sound Q one false (staged rest f g) (staged whole f g)
  back_within_pipeline e s L ys o c P (at_leaf h B) = absurd (no_truth h)
  back_within_pipeline e s L ys o c P (at_stages A B C) = lowered (at_stages A B C) (below_any _ _)

  -- ## Identities

  identity_relay : {e : Environment} {L : Life} {ys : List Data} → Parts Q identity e L ys → relay L ys ≡ L
  identity_relay begins = refl
  identity_relay (then_gave {s = s} A B) = ap₂ (λ s L. s ∷ L) (ap (step (wait_of s)) (ap outcome_value (once_at Q one B at_primitive).0) ∙ same_step s) (identity_relay A)

  pub sound_identity_before : {x : Extent} {f : Term} → Sound Q one true (staged x identity f) f
  sound_identity_before {x} {f} e s L zs o c P B = go (view_stages Q one P B)
    where
      go : {o : Outcome} {c : Cost} → Chained Q x identity f e s L zs o c → Lowered true (At Q f e s L o) c
      go (chained {ys = ys} {p = p} {q = q} {c = a} {d = b} A-one B-one C-one D-one) =
          let h : p ≡ gave (input_of s) [] = (once_at Q one C-one at_primitive).0 in
          let N : Outcome → Type 0 = λ p. Along Q p f e (with_input s (outcome_value p)) (relay L ys) q b in
          finish (subst N h D-one) (ap (λ p. combined later p q) h ∙ after_value (input_of s) q) (identity_relay A-one)
        where
          finish : Along Q (gave (input_of s) []) f e (with_input s (input_of s)) (relay L ys) q b → combined later p q ≡ q → relay L ys ≡ L → Lowered true (At Q f e s L (combined later p q)) (over_stages x (both_costs a b))
          finish (goes E) eo el =
              let N : Step → Life → Type 0 = λ s L. At Q f e s L q b in
              let M : Outcome → Type 0 = λ o. At Q f e s L o b in
              lowered (subst M (sym eo) (subst₂ N (same_step s) el E)) (below_second x a b)

  pub back_identity_before : {x : Extent} {f : Term} → Sound Q one false f (staged x identity f)
  back_identity_before {x} {f} = rebuilt_stages Q one go
    where
      go : RebuildsStages Q one false x f identity f
      go e s L ys zs o c A B P F =
          let N : Step → Life → Type 0 = λ s L. At Q f e s L o c in
          let G : At Q f e (with_input s (input_of s)) (relay L ys) o c = subst₂ N (sym (same_step s)) (sym (identity_relay A)) F in
          let M : Outcome → Type 0 = λ o. Chained Q x identity f e s L zs o (over_stages x (both_costs one_term c)) in
          lowered (subst M (after_value (input_of s) o) (chained A B at_primitive (goes G))) (below_any _ _)

  pub sound_identity_after : {x : Extent} {f : Term} → Sound Q one true (staged x f identity) f
  sound_identity_after {x} {f} e s L zs o c P B = go (view_stages Q one P B)
    where
      go : {o : Outcome} {c : Cost} → Chained Q x f identity e s L zs o c → Lowered true (At Q f e s L o) c
      go (chained {p = gave y r} {q = q} {c = a} {d = b} A-one B-one C-one (goes D)) =
          let h : q ≡ gave y [] = (once_at Q one D at_primitive).0 in
          let M : Outcome → Type 0 = λ o. At Q f e s L o a in
          lowered (subst M (sym (ap (λ q. combined later (gave y r) q) h ∙ ap (gave y) (append-nil r))) C-one) (below_first x a b)
      go (chained {c = a} A-one B-one C-one stays) = lowered C-one (below_first x a one_term)

  pub back_identity_after : {x : Extent} {f : Term} → Sound Q one false f (staged x f identity)
  back_identity_after {x} {f} = rebuilt_stages Q one go
    where
      go : RebuildsStages Q one false x f f identity
      go e s L ys zs (gave y r) c A B P F =
          let M : Outcome → Type 0 = λ o. Chained Q x f identity e s L zs o (over_stages x (both_costs c one_term)) in
          lowered (subst M (ap (gave y) (append-nil r)) (chained A B F (goes at_primitive))) (below_any _ _)
      go e s L ys zs (faulted f) c A B P F = lowered (chained A B F stays) (below_any _ _)

  -- ## Brackets

  pub relay_relay : {f : Term} {e : Environment} {L : Life} {ys : List Data} → Parts Q f e L ys → (zs : List Data) → relay (relay L ys) zs ≡ relay L zs
  relay_relay begins zs = refl
  relay_relay (then_gave A B) [] = refl
  relay_relay (then_gave {s = s} A B) (z ∷ zs) = ap (λ L. step (wait_of s) z ∷ L) (relay_relay A zs)

  pub sound_associate_right : {d : Bool} {x : Extent} {f g h : Term} → ((a b c : Cost) → Below d (both_costs (both_costs a b) c) (both_costs a (both_costs b c))) → Sound Q one d (staged x (staged rest f g) h) (staged x f (staged rest g h))
  sound_associate_right {d} {x} {f} {g} {h} bs e s L zs o c P B = outer (view_stages Q one P B)
    where
      outer : {o : Outcome} {c : Cost} → Chained Q x (staged rest f g) h e s L zs o c → Lowered d (At Q (staged x f (staged rest g h)) e s L o) c
      outer (chained {ys = ys} {q = q} {d = k} A B C D) = inner (view_stages Q one A C) D
        where
          inner : {p : Outcome} {c : Cost} → Chained Q rest f g e s L ys p c → Along Q p h e (with_input s (outcome_value p)) (relay L ys) q k
              → Lowered d (At Q (staged x f (staged rest g h)) e s L (combined later p q)) (over_stages x (both_costs c k))
          inner (chained {ys = xs} {p = p1} {q = q1} {c = a} {d = b} A-one B-one C-one D-one) E = last p1 q1 C-one D-one E
            where
              el : relay (relay L xs) ys ≡ relay L ys
              el = relay_relay A-one ys

              B-two : Parts Q h e (relay (relay L xs) ys) zs
              B-two = let N : Life → Type 0 = λ M. Parts Q h e M zs in subst N (sym el) B

              PP : Parts Q (staged rest g h) e (relay L xs) zs
              PP = join_stages Q one B-one B-two

              last : {a b k : Cost} {q : Outcome} (p1 q1 : Outcome) → At Q f e s L p1 a → Along Q p1 g e (with_input s (outcome_value p1)) (relay L xs) q1 b
                  → Along Q (combined later p1 q1) h e (with_input s (outcome_value (combined later p1 q1))) (relay L ys) q k
                  → Lowered d (At Q (staged x f (staged rest g h)) e s L (combined later (combined later p1 q1) q)) (over_stages x (both_costs (both_costs a b) k))
              last {a} {b} {k} {q} (gave y r) (gave z r1) C-one (goes D-one) (goes E) =
                  let N : Life → Type 0 = λ M. At Q h e (with_input s z) M q k in
                  let M : Outcome → Type 0 = λ o. At Q (staged x f (staged rest g h)) e s L o (over_stages x (both_costs a (both_costs b k))) in
                  lowered (subst M (sym (combined_assoc (gave y r) (gave z r1) q)) (make_stages Q one (chained A-one PP C-one (goes (make_stages Q one (chained B-one B-two D-one (goes (subst N (sym el) E)))))))) (below_stages x _ _ (bs a b k))
              last {a} {b} (gave y r) (faulted v) C-one (goes D-one) stays = lowered (make_stages Q one (chained A-one PP C-one (goes (make_stages Q one (chained B-one B-two D-one stays))))) (below_stages x _ _ (bs a b (text_cost h)))
              last {a} (faulted v) q1 C-one stays stays = lowered (make_stages Q one (chained A-one PP C-one stays)) (below_stages x _ _ (bs a (text_cost g) (text_cost h)))

  pub sound_associate_left : {d : Bool} {x : Extent} {f g h : Term} → ((a b c : Cost) → Below d (both_costs a (both_costs b c)) (both_costs (both_costs a b) c)) → Sound Q one d (staged x f (staged rest g h)) (staged x (staged rest f g) h)
  sound_associate_left {d} {x} {f} {g} {h} bs e s L zs o c P B = outer (view_stages Q one P B)
    where
      outer : {o : Outcome} {c : Cost} → Chained Q x f (staged rest g h) e s L zs o c → Lowered d (At Q (staged x (staged rest f g) h) e s L o) c
      outer (chained {ys = xs} {c = a} A B C (goes {y = y} {r = r} D)) = inner (view_stages Q one B D)
        where
          inner : {p : Outcome} {k : Cost} → Chained Q rest g h e (with_input s y) (relay L xs) zs p k → Lowered d (At Q (staged x (staged rest f g) h) e s L (combined later (gave y r) p)) (over_stages x (both_costs a k))
          inner (chained {ys = ys} {p = p2} {q = q} {c = b} {d = k} B-one B-two C-two D-two) = last p2 q C-two D-two
            where
              el : relay (relay L xs) ys ≡ relay L ys
              el = relay_relay A ys

              B-three : Parts Q h e (relay L ys) zs
              B-three = let N : Life → Type 0 = λ M. Parts Q h e M zs in subst N el B-two

              last : {b k : Cost} (p2 q : Outcome) → At Q g e (with_input s y) (relay L xs) p2 b → Along Q p2 h e (with_input s (outcome_value p2)) (relay (relay L xs) ys) q k
                  → Lowered d (At Q (staged x (staged rest f g) h) e s L (combined later (gave y r) (combined later p2 q))) (over_stages x (both_costs a (both_costs b k)))
              last {b} {k} (gave z r1) q C-two (goes E) =
                  let N : Life → Type 0 = λ M. At Q h e (with_input s z) M q k in
                  let M : Outcome → Type 0 = λ o. At Q (staged x (staged rest f g) h) e s L o (over_stages x (both_costs (both_costs a b) k)) in
                  lowered (subst M (combined_assoc (gave y r) (gave z r1) q) (make_stages Q one (chained (join_stages Q one A B-one) B-three (make_stages Q one (chained A B-one C (goes C-two))) (goes (subst N el E))))) (below_stages x _ _ (bs a b k))
              last {b} (faulted v) q C-two stays = lowered (make_stages Q one (chained (join_stages Q one A B-one) B-three (make_stages Q one (chained A B-one C (goes C-two))) stays)) (below_stages x _ _ (bs a b (text_cost h)))
      outer (chained {ys = xs} {c = a} A B C stays) =
          let k = split_stages Q one B in
          let N : Life → Type 0 = λ M. Parts Q h e M zs in
          lowered (make_stages Q one (chained (join_stages Q one A k.1) (subst N (relay_relay A k.0) k.2) (make_stages Q one (chained A k.1 C stays)) stays)) (below_stages x _ _ (bs a (text_cost g) (text_cost h)))
