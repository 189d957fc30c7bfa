-- Stages that become one with what comes behind them.
use Rattle.std.proofs.Common.{◌≡◌, ℕ, suc, ◌-◌, ◌<◌, ◌≤◌, List, [], ◌∷◌, ◌++◌, length, take, drop, IsTrue, Some, None, refl, sym, ◌∙◌, ap, subst, append_assoc, arith}
use mathlib.Core.Path.{ap₂}
use Rattle.std.proofs.lemmas.List.{map-append}
use Rattle.std.proofs.Math.Seq.{take-length}
use Rattle.sf_term.specs.Trees.{Term}
use Rattle.sf_law.specs.declared.node.PlanId.{PlanId}
use Rattle.sf_law.specs.declared.plan.Plan.{Plan}
use Rattle.sf_law.specs.Entries.{pipeline, ids_end}
use Rattle.sf_law.specs.Arena.{plan_number, node_count, plan_tree, plan_trees, ExtendsPlan}
use Rattle.sf_rewrite.specs.Laws.{Laws, unchanged, in_turn}
use Rattle.sf_rewrite.specs.Normal.{is_arr, is_stage, IsPlan}
use Rattle.sf_optimise.specs.Lists.{AreStages}
use Rattle.sf_optimise.specs.Making.{GrowsPlan, IsNormal, Merges, merges, stays, Meets}
use Rattle.sf_optimise.proofs.Rows.{become_one, first_stages, stages_meet, another_first}

-- ## Plans that grow

pub keeps_same : (p : Plan) → ExtendsPlan p p
keeps_same p = record { expressions = refl; count = omega arith; nodes = λ a h. refl; trees = λ a h. refl }

pub grows_same : (p : Plan) → GrowsPlan p p
grows_same p = record { keeps = keeps_same p; templates = refl; main = refl }

pub grows_on : {p q r : Plan} → GrowsPlan p q → GrowsPlan q r → GrowsPlan p r
grows_on {p} {q} {r} A B = record {
  keeps = record {
    expressions = B.keeps.expressions ∙ A.keeps.expressions;
    count = omega (arith, A.keeps.count, B.keeps.count);
    nodes = λ a h. B.keeps.nodes a (omega (arith, A.keeps.count)) ∙ A.keeps.nodes a h;
    trees = λ a h. B.keeps.trees a (omega (arith, A.keeps.count)) ∙ A.keeps.trees a h;
  };
  templates = B.templates ∙ A.templates;
  main = B.main ∙ A.main;
}

pub normal_still : {p q : Plan} {a : PlanId} → GrowsPlan p q → IsNormal p a → IsNormal q a
normal_still {a = a} G N = record { held = omega (arith, N.held, G.keeps.count); normal = subst IsPlan (sym (G.keeps.trees a N.held)) N.normal }

pub tree_still : {p q : Plan} {a : PlanId} → GrowsPlan p q → plan_number a < node_count p → plan_tree q a ≡ plan_tree p a
tree_still {a = a} G h = G.keeps.trees a h

pub trees_still : {p q : Plan} → GrowsPlan p q → (ids : List PlanId) → ids_end ids ≤ node_count p → plan_trees q ids ≡ plan_trees p ids
trees_still G [] h = refl
trees_still G (a ∷ ids) h = ap₂ (λ t (ts : List Term). t ∷ ts) (G.keeps.trees a (omega (arith, h))) (trees_still G ids (omega (arith, h)))

pub no_items : {A : Type 0} (xs : List A) → length xs ≡ 0 → xs ≡ []
no_items [] h = refl
no_items (x ∷ xs) h = let no : ⊥ = omega (arith, h) in absurd no

-- ## Ids

pub end_before : (xs ys : List PlanId) → ids_end xs ≤ ids_end (xs ++ ys)
end_before [] ys = omega arith
end_before (a ∷ xs) ys = let more = end_before xs ys in omega (arith, more)

pub end_behind : (xs ys : List PlanId) → ids_end ys ≤ ids_end (xs ++ ys)
end_behind [] ys = omega arith
end_behind (a ∷ xs) ys = let more = end_behind xs ys in omega (arith, more)

pub end_of_both : (xs ys : List PlanId) (n : ℕ) → ids_end xs ≤ n → ids_end ys ≤ n → ids_end (xs ++ ys) ≤ n
end_of_both [] ys n h k = k
end_of_both (a ∷ xs) ys n h k = let more = end_of_both xs ys n (omega (arith, h)) k in omega (arith, h, more)

pub rest_slice : {A : Type 0} (xs : List A) → take (length xs - 1) (drop 1 xs) ≡ drop 1 xs
rest_slice [] = refl
rest_slice (x ∷ xs) = let n : suc (length xs) - 1 ≡ length xs = omega arith in ap (λ n. take n xs) n ∙ take-length xs

pub end_of_rest : (xs : List PlanId) (n : ℕ) → ids_end xs ≤ n → ids_end (drop 1 xs) ≤ n
end_of_rest [] n h = h
end_of_rest (a ∷ xs) n h = omega (arith, h)

pub trees_both : (p : Plan) (xs ys : List PlanId) → plan_trees p (xs ++ ys) ≡ plan_trees p xs ++ plan_trees p ys
trees_both p xs ys = map-append (λ a. plan_tree p a) xs ys

-- ## The loop

-- of stages of a plan and one behind them, these and that one were made
pub record MetSoFar (p : Plan) (ids : List PlanId) (a : PlanId) (q : Plan) (left : List PlanId) (b : PlanId) : Type 0 where
  pub grows : GrowsPlan p q
  pub held : ids_end left ≤ node_count q
  pub head : IsNormal q b
  pub stage : IsTrue (is_stage (plan_tree q b))
  pub is : is_arr (plan_tree q b) ≡ is_arr (plan_tree p a)
  pub stages : AreStages (plan_trees q left)
  pub law : (rs : List Term) → Laws (pipeline (plan_trees p ids ++ plan_tree p a ∷ rs)) (pipeline (plan_trees q left ++ plan_tree q b ∷ rs))

pub met_nothing : {p : Plan} {ids : List PlanId} {a : PlanId} → AreStages (plan_trees p ids) → ids_end ids ≤ node_count p → IsNormal p a → IsTrue (is_stage (plan_tree p a)) → MetSoFar p ids a p ids a
met_nothing {p} A h N S = record { grows = grows_same p; held = h; head = N; stage = S; is = refl; stages = A; law = λ rs. unchanged }

module _ {p q r : Plan} {ids left : List PlanId} {a b : PlanId} (more : List PlanId) (last : PlanId) (m : MetSoFar p ids a q left b) (popped : left ≡ more ++ last ∷ []) (g : GrowsPlan q r) where
  trees_left : plan_trees q left ≡ plan_trees q more ++ plan_tree q last ∷ []
  trees_left = ap (plan_trees q) popped ∙ trees_both q more (last ∷ [])

  more_held : ids_end more ≤ node_count q
  more_held = let before = end_before more (last ∷ []) in let whole = subst (λ l. ids_end l ≤ node_count q) popped m.held in omega (arith, before, whole)

  pub last_held : plan_number last < node_count q
  last_held = let behind = end_behind more (last ∷ []) in let whole = subst (λ l. ids_end l ≤ node_count q) popped m.held in omega (arith, behind, whole)

  more_trees : plan_trees r more ≡ plan_trees q more
  more_trees = trees_still g more more_held

  -- the last one became one with what is behind it
  pub met_one : {c : PlanId} → Merges (plan_tree q last) (plan_tree q b) r (Some c) → MetSoFar p ids a r more c
  met_one {c} (merges N S e law) = record {
    grows = grows_on m.grows g;
    held = omega (arith, more_held, g.keeps.count);
    head = N;
    stage = S;
    is = e ∙ m.is;
    stages = subst AreStages (sym more_trees) (first_stages (plan_trees q more) (plan_tree q last ∷ []) (subst AreStages trees_left m.stages));
    law = λ rs.
        let t : Term = plan_tree q last in
        let same : plan_trees q left ++ plan_tree q b ∷ rs ≡ plan_trees q more ++ t ∷ plan_tree q b ∷ rs = ap (λ (l : List Term). l ++ plan_tree q b ∷ rs) trees_left ∙ append_assoc (plan_trees q more) (t ∷ []) (plan_tree q b ∷ rs) in
        let one : Laws (pipeline (plan_trees q left ++ plan_tree q b ∷ rs)) (pipeline (plan_trees q more ++ plan_tree r c ∷ rs)) =
        subst (λ l. Laws (pipeline l) (pipeline (plan_trees q more ++ plan_tree r c ∷ rs))) (sym same) (become_one (plan_trees q more) t (plan_tree q b) (plan_tree r c) rs law) in
        in_turn (m.law rs) (subst (λ (l : List Term). Laws (pipeline (plan_trees q left ++ plan_tree q b ∷ rs)) (pipeline (l ++ plan_tree r c ∷ rs))) (sym more_trees) one);
  }

  -- it stays before what is behind it
  pub met_all : {back : List PlanId} → Merges (plan_tree q last) (plan_tree q b) r None → back ≡ more ++ last ∷ [] → Meets (plan_trees p ids) (plan_tree p a) (plan_trees r back) (plan_tree r b)
  met_all {back} (stays meet) put =
      let same : plan_trees r back ≡ plan_trees q left = ap (plan_trees r) (put ∙ sym popped) ∙ trees_still g left m.held in
      let head : plan_tree r b ≡ plan_tree q b = tree_still g m.head.held in
      record {
        law = λ rs. subst (λ (l : List Term). Laws (pipeline (plan_trees p ids ++ plan_tree p a ∷ rs)) (pipeline (l ++ plan_tree r b ∷ rs))) (sym same)
            (subst (λ (t : Term). Laws (pipeline (plan_trees p ids ++ plan_tree p a ∷ rs)) (pipeline (plan_trees q left ++ t ∷ rs))) (sym head) (m.law rs));
        stages = λ rs A B.
            let C : AreStages (plan_tree q b ∷ rs) = another_first (plan_tree p a) (plan_tree q b) rs m.head.normal m.stage m.is B in
            let D : AreStages ((plan_trees q more ++ plan_tree q last ∷ []) ++ plan_tree q b ∷ rs) = stages_meet (plan_trees q more) (plan_tree q last) (plan_tree q b) rs (subst AreStages trees_left m.stages) meet C in
            subst (λ (l : List Term). AreStages (l ++ plan_tree r b ∷ rs)) (sym (same ∙ trees_left)) (subst (λ (t : Term). AreStages ((plan_trees q more ++ plan_tree q last ∷ []) ++ t ∷ rs)) (sym head) D);
      }

-- all became one with what is behind them
pub met_every : {p q : Plan} {ids left : List PlanId} {a b : PlanId} → MetSoFar p ids a q left b → left ≡ [] → Meets (plan_trees p ids) (plan_tree p a) (plan_trees q left) (plan_tree q b)
met_every {p} {q} {ids} {left} {a} {b} m none = record {
  law = m.law;
  stages = λ rs A B. subst (λ (l : List PlanId). AreStages (plan_trees q l ++ plan_tree q b ∷ rs)) (sym none) (another_first (plan_tree p a) (plan_tree q b) rs m.head.normal m.stage m.is B);
}
