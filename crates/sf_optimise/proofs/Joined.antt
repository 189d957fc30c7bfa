-- A term behind another.
use Rattle.std.proofs.Common.{◌≡◌, ◌<◌, ◌≤◌, List, [], ◌∷◌, ◌++◌, length, slice_index_or, drop, true, true≢false, IsTrue, refl, sym, ◌∙◌, ap, subst, append_assoc, arith}
use Rattle.sf_term.specs.declared.form.Bare.TheVariants.{Identity, LocalTime, Integral, Edge, NotYet, Once, Count, Pre}
use Rattle.sf_term.specs.Trees.{whole, bare, probe, never, with_value, timed, selected, arrow, accumulated, fused, Term, primitive, reference, joined, sided, headed, transformed, switching, continuing, gathered, releasing, editing, staged}
use Rattle.sf_law.specs.declared.node.PlanId.{PlanId}
use Rattle.sf_law.specs.declared.plan.Plan.{Plan}
use Rattle.sf_law.specs.Entries.{pipeline, ids_end}
use Rattle.sf_law.specs.Arena.{node_count, plan_tree, plan_trees}
use Rattle.sf_rewrite.specs.Laws.{Laws, identity, in_turn, identity_before, identity_after}
use Rattle.sf_rewrite.specs.Normal.{is_stage, IsPlan}
use Rattle.sf_optimise.specs.Lists.{is_identity_term, AreStages, one_stage, more_stages}
use Rattle.sf_optimise.specs.Making.{GrowsPlan, HoldsTree, IsNormal, MakesPlan, Meets}
use Rattle.sf_optimise.proofs.Rows.{put_before, normal_row}
use Rattle.sf_optimise.proofs.Made.{makes_held}
use Rattle.sf_optimise.proofs.Boundary.{trees_still, trees_both}

-- ## The identity

pub identity_is : (t : Term) → is_identity_term t ≡ true → t ≡ identity
identity_is (primitive (bare Identity)) h = refl
identity_is (primitive (bare LocalTime)) h = absurd (true≢false (sym h))
identity_is (primitive (bare Integral)) h = absurd (true≢false (sym h))
identity_is (primitive (bare Edge)) h = absurd (true≢false (sym h))
identity_is (primitive (bare NotYet)) h = absurd (true≢false (sym h))
identity_is (primitive (bare Once)) h = absurd (true≢false (sym h))
identity_is (primitive (bare Count)) h = absurd (true≢false (sym h))
identity_is (primitive (bare Pre)) h = absurd (true≢false (sym h))
identity_is (primitive (probe k)) h = absurd (true≢false (sym h))
identity_is (primitive (never t)) h = absurd (true≢false (sym h))
identity_is (primitive (with_value k i)) h = absurd (true≢false (sym h))
identity_is (primitive (arrow f)) h = absurd (true≢false (sym h))
identity_is (primitive (timed k q i)) h = absurd (true≢false (sym h))
identity_is (primitive (selected k n)) h = absurd (true≢false (sym h))
identity_is (primitive (accumulated k i f)) h = absurd (true≢false (sym h))
identity_is (primitive (fused f)) h = absurd (true≢false (sym h))
identity_is (reference r) h = absurd (true≢false (sym h))
identity_is (joined j f g) h = absurd (true≢false (sym h))
identity_is (sided d t) h = absurd (true≢false (sym h))
identity_is (headed k i t) h = absurd (true≢false (sym h))
identity_is (transformed f t) h = absurd (true≢false (sym h))
identity_is (switching w t p u) h = absurd (true≢false (sym h))
identity_is (continuing w t q k p u) h = absurd (true≢false (sym h))
identity_is (gathered i) h = absurd (true≢false (sym h))
identity_is (releasing w i q k p u) h = absurd (true≢false (sym h))
identity_is (editing w i k p u) h = absurd (true≢false (sym h))
identity_is (staged x f g) h = absurd (true≢false (sym h))

pub second_alone : (p : Plan) (a b : PlanId) → is_identity_term (plan_tree p a) ≡ true → IsNormal p b → MakesPlan (staged whole (plan_tree p a) (plan_tree p b)) p b
second_alone p a b h N = record { held = N.held; normal = N.normal; law = subst (λ t. Laws (staged whole t (plan_tree p b)) (plan_tree p b)) (sym (identity_is (plan_tree p a) h)) identity_before }

pub first_alone : (p : Plan) (a b : PlanId) → is_identity_term (plan_tree p b) ≡ true → IsNormal p a → MakesPlan (staged whole (plan_tree p a) (plan_tree p b)) p a
first_alone p a b h N = record { held = N.held; normal = N.normal; law = subst (λ t. Laws (staged whole (plan_tree p a) t) (plan_tree p a)) (sym (identity_is (plan_tree p b) h)) identity_after }

-- ## Stages of both

whole_normal : (us : List Term) (u : Term) (rs : List Term) → AreStages (us ++ u ∷ rs) → IsPlan (pipeline (us ++ u ∷ rs))
whole_normal [] u rs A = normal_row u rs A
whole_normal (v ∷ vs) u rs A = normal_row v (vs ++ u ∷ rs) A

put_pipeline : (ts : List Term) (u : Term) (us : List Term) → 0 < length ts → Laws (staged whole (pipeline ts) (pipeline (u ∷ us))) (pipeline (ts ++ u ∷ us))
put_pipeline [] u us h = let no : ⊥ = omega (arith, h) in absurd no
put_pipeline (t ∷ ts) u us h = put_before t ts u us

pub length_trees : (p : Plan) (ids : List PlanId) → 0 < length ids → 0 < length (plan_trees p ids)
length_trees p [] h = h
length_trees p (a ∷ ids) h = omega arith

-- a list by its first item
pub first_and_rest : {A : Type 0} (xs : List A) (x : A) → 0 < length xs → x ≡ slice_index_or xs 0 x → xs ≡ x ∷ drop 1 xs
first_and_rest [] x h is = let no : ⊥ = omega (arith, h) in absurd no
first_and_rest (y ∷ xs) x h is = ap (λ z. z ∷ xs) (sym is)

pub first_stage : (t : Term) (ts : List Term) → AreStages (t ∷ ts) → IsPlan t × IsTrue (is_stage t)
first_stage t [] (one_stage P S) = (P, S)
first_stage t (u ∷ us) (more_stages P S m A) = (P, S)

-- what was made of the stages of both
module _ (p q r : Plan) (a b : PlanId) (left behind more : List PlanId) (last head : PlanId)
    (first : pipeline (plan_trees p left) ≡ plan_tree p a) (some : 0 < length left) (first_stages : AreStages (plan_trees p left))
    (second : pipeline (plan_trees p (last ∷ behind)) ≡ plan_tree p b) (second_stages : AreStages (plan_trees p (last ∷ behind))) (second_held : ids_end (last ∷ behind) ≤ node_count p)
    (m : Meets (plan_trees p left) (plan_tree p last) (plan_trees q more) (plan_tree q head)) (g : GrowsPlan p q) where
  trees_made : plan_trees q ((more ++ head ∷ []) ++ behind) ≡ plan_trees q more ++ plan_tree q head ∷ plan_trees p behind
  trees_made =
      trees_both q (more ++ head ∷ []) behind ∙ ap (λ (l : List Term). l ++ plan_trees q behind) (trees_both q more (head ∷ [])) ∙ append_assoc (plan_trees q more) (plan_tree q head ∷ []) (plan_trees q behind)
      ∙ ap (λ (l : List Term). plan_trees q more ++ plan_tree q head ∷ l) (trees_still g behind (omega (arith, second_held)))

  pub both_made : {c : PlanId} → HoldsTree (pipeline (plan_trees q ((more ++ head ∷ []) ++ behind))) r c → MakesPlan (staged whole (plan_tree p a) (plan_tree p b)) r c
  both_made {c} h =
      let us : List Term = plan_trees q more ++ plan_tree q head ∷ plan_trees p behind in
      let law : Laws (staged whole (pipeline (plan_trees p left)) (pipeline (plan_trees p (last ∷ behind)))) (pipeline us) =
      in_turn (put_pipeline (plan_trees p left) (plan_tree p last) (plan_trees p behind) (length_trees p left some)) (m.law (plan_trees p behind)) in
      let whole_law : Laws (staged whole (plan_tree p a) (plan_tree p b)) (pipeline us) = subst (λ t. Laws (staged whole (plan_tree p a) t) (pipeline us)) second (subst (λ t. Laws (staged whole t (pipeline (plan_trees p (last ∷ behind)))) (pipeline us)) first law) in
      makes_held (whole_normal (plan_trees q more) (plan_tree q head) (plan_trees p behind) (m.stages (plan_trees p behind) first_stages second_stages)) whole_law (record { held = h.held; is = h.is ∙ ap pipeline trees_made })
