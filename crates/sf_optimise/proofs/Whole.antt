-- The plan of a whole network.
use Rattle.std.proofs.Common.{◌≡◌, ◌<◌, ◌≤◌, List, [], ◌∷◌, length, map, slice_index_or, All, sym, ◌∙◌, ap, subst, arith, ⊎_elim}
use Rattle.std.specs.List.{AllZip}
use Rattle.std.proofs.lemmas.Bool.{cases_lt}
use Rattle.std.proofs.lemmas.List.{get_or_past, get_or_default}
use Rattle.std.proofs.lemmas.List.Elements.{All-nil, All-cons}
use Rattle.sf_term.specs.declared.node.TermId.{TermId}
use Rattle.sf_term.specs.declared.program.Program.{Program}
use Rattle.sf_term.specs.Headers.{Header}
use Rattle.sf_term.specs.Trees.{Term, Template}
use Rattle.sf_term.specs.Entries.{identity_term}
use Rattle.sf_term.specs.Arena.{tree, term_number, term_count, term_template}
use Rattle.sf_term.proofs.Extended.{term_past}
use Rattle.sf_law.specs.declared.node.PlanId.{PlanId}
use Rattle.sf_law.specs.declared.plan.Plan.{Plan}
use Rattle.sf_law.specs.Headers.{PlanHeader, rebodied}
use Rattle.sf_law.specs.Arena.{node_count, plan_tree, plan_expressions, plan_template}
use Rattle.sf_law.specs.Copies.{CopiesTemplate}
use Rattle.sf_law.proofs.Extended.{tree_past}
use Rattle.sf_law.proofs.Copied.{same_parameters}
use Rattle.sf_rewrite.specs.Laws.{identity, unchanged}
use Rattle.sf_rewrite.specs.Plans.{Plans, plans, of_primitive, PlansTemplate, PlansAll, no_templates, one_more}
use Rattle.sf_rewrite.specs.Normal.{IsPlan, plan_primitive}
use Rattle.sf_optimise.specs.Optimised.{id_of_term, HoldsPlans}

-- the plan of a term, which may stand under an id that isn't held
abbrev IsPlanOf : Term → Term → Type 0
IsPlanOf t u = Plans t u × IsPlan u

module _ (p : Program) (q : Plan) (ids : List PlanId) (holds : HoldsPlans p q ids) (all : length ids ≡ term_count p) where
  past : (t : TermId) → length ids ≤ term_number t → tree p t ≡ identity_term
  past t h = term_past p t (omega (arith, h, all))

  pub anywhere : (t : TermId) (a : PlanId) → (term_number t < length ids → a ≡ id_of_term ids t) → (length ids ≤ term_number t → plan_tree q a ≡ identity) → IsPlanOf (tree p t) (plan_tree q a)
  anywhere t a found none = ⊎_elim within beyond (cases_lt (term_number t) (length ids))
    where
      within : term_number t < length ids → IsPlanOf (tree p t) (plan_tree q a)
      within h = let P = holds t h in subst (λ b. IsPlanOf (tree p t) (plan_tree q b)) (sym (found h)) (P.plan, P.normal)

      beyond : length ids ≤ term_number t → IsPlanOf (tree p t) (plan_tree q a)
      beyond h = subst (λ t. IsPlanOf t (plan_tree q a)) (sym (past t h)) (subst (λ u. IsPlanOf identity_term u) (sym (none h)) (plans of_primitive unchanged, plan_primitive))

  -- a body that stands under the number of a term
  abbrev body_at : TermId → PlanId
  body_at t = slice_index_or ids (term_number t) (record { 0 = node_count q })

  body_planned : (t : TermId) → IsPlanOf (tree p t) (plan_tree q (body_at t))
  body_planned t = anywhere t (body_at t)
      (λ h. get_or_default ids (term_number t) (record { 0 = node_count q }) (record { 0 = 0 }) h)
      (λ h. ap (plan_tree q) (get_or_past ids (term_number t) (record { 0 = node_count q }) h) ∙ tree_past q (record { 0 = node_count q }) (omega arith))

  module _ (r : Plan) (trees : (a : PlanId) → plan_tree r a ≡ plan_tree q a) where
    template_planned : (h : Header) (m : PlanHeader) → CopiesTemplate (plan_expressions r) h m → PlansTemplate (term_template p h) (plan_template r (rebodied ids (node_count q) m)) × IsPlan (plan_tree r (rebodied ids (node_count q) m).body)
    template_planned h m z =
        let P = body_planned h.body in
        let is : plan_tree r (rebodied ids (node_count q) m).body ≡ plan_tree q (body_at h.body) = ap (λ (b : PlanId). plan_tree r (slice_index_or ids b.0 (record { 0 = node_count q }))) z.body ∙ trees (body_at h.body) in (
          record {
            name = z.name;
            parameters = same_parameters r h.parameters m.parameters z.parameters;
            input = z.input;
            output = z.output;
            body = subst (Plans (tree p h.body)) (sym is) P.0;
          },
          subst IsPlan (sym is) P.1,
        )

    pub templates_planned : (hs : List Header) (ms : List PlanHeader) → AllZip (CopiesTemplate (plan_expressions r)) hs ms
        → PlansAll (map (term_template p) hs) (map (plan_template r) (map (rebodied ids (node_count q)) ms)) × All (λ (t : Template). IsPlan t.body) (map (plan_template r) (map (rebodied ids (node_count q)) ms))
    templates_planned [] [] z = (no_templates, All-nil (λ (t : Template). IsPlan t.body))
    templates_planned [] (m ∷ ms) z = absurd z
    templates_planned (h ∷ hs) [] z = absurd z
    templates_planned (h ∷ hs) (m ∷ ms) z =
        let T = template_planned h m z.0 in
        let more = templates_planned hs ms z.1 in
        (one_more T.0 more.0, All-cons (λ (t : Template). IsPlan t.body) (plan_template r (rebodied ids (node_count q) m)) (map (plan_template r) (map (rebodied ids (node_count q)) ms)) T.1 more.1)
