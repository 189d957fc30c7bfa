use Rattle.std.proofs.Common.{◌≡◌, ◌<◌, ◌≤◌, ◌∷◌, [], ◌++◌, length, drop, ◌∙◌, ap, sym, subst, arith}
use Rattle.sf_law.specs.Arena.{node_count, plan_tree, plan_trees}
use Rattle.sf_law.specs.Entries.{pipeline, ids_end}
use Rattle.sf_optimise.specs.Lists.{AreStages}
use Rattle.sf_optimise.proofs.Forms.{ok_then}
use Rattle.sf_optimise.proofs.Boundary.{end_of_both, end_of_rest, rest_slice}
use Rattle.sf_optimise.proofs.Joined.{second_alone, first_alone, first_and_rest, first_stage, both_made}
use Rattle.sf_optimise.proofs.sequence.one_after_another.Goals as goal

pub returns-then-is_identity-clause-ok : goal.returns-then-is_identity-clause-ok
returns-then-is_identity-clause-ok c = second_alone c.args.plan.now c.args.first c.args.second (sym c.is_identity.ensures ∙ c.if-is_identity.true) c.requires.second

pub returns-then-is_identity-2-clause-ok : goal.returns-then-is_identity-2-clause-ok
returns-then-is_identity-2-clause-ok c = first_alone c.args.plan.now c.args.first c.args.second (sym c.is_identity-2.ensures ∙ c.if-is_identity-2.true) c.requires.first

pub met-requires-clause-stage : goal.met-requires-clause-stage
met-requires-clause-stage c =
    let p = c.args.plan.now in
    let ids = c.in_ok-behind.behind.items in
    let items : ids ≡ c.index.result.now ∷ drop 1 ids = first_and_rest ids c.index.result.now (omega (arith, c.in_ok-behind.ensures.some, c.in_ok-behind.behind.ok.0, c.in_ok-behind.behind.ok.1, c.in_ok-behind.behind.small)) c.index.ensures in
    let held : ids_end (c.index.result.now ∷ drop 1 ids) ≤ node_count p = subst (λ l. ids_end l ≤ node_count p) items (c.in_ok-behind.ensures.held c.requires.second.held) in
    let lined : AreStages (plan_trees p (c.index.result.now ∷ drop 1 ids)) = subst (λ l. AreStages (plan_trees p l)) items (c.in_ok-behind.ensures.stages c.requires.second.normal) in
    record { held = omega (arith, held); normal = (first_stage (plan_tree p c.index.result.now) (plan_trees p (drop 1 ids)) lined).0 }

pub met-requires-clause-is_stage : goal.met-requires-clause-is_stage
met-requires-clause-is_stage c =
    let p = c.args.plan.now in
    let ids = c.in_ok-behind.behind.items in
    let items : ids ≡ c.index.result.now ∷ drop 1 ids = first_and_rest ids c.index.result.now (omega (arith, c.in_ok-behind.ensures.some, c.in_ok-behind.behind.ok.0, c.in_ok-behind.behind.ok.1, c.in_ok-behind.behind.small)) c.index.ensures in
    let lined : AreStages (plan_trees p (c.index.result.now ∷ drop 1 ids)) = subst (λ l. AreStages (plan_trees p l)) items (c.in_ok-behind.ensures.stages c.requires.second.normal) in
    (first_stage (plan_tree p c.index.result.now) (plan_trees p (drop 1 ids)) lined).1

pub in_a_row-requires-clause-held : goal.in_a_row-requires-clause-held
in_a_row-requires-clause-held c =
    let p = c.args.plan.now in
    let q = c.met.new.plan in
    let ids = c.in_ok-behind.behind.items in
    let more = c.met.new.stages.items in
    let head = c.in_ok-head.head in
    let items : c.extend_from_slice.new.self.items ≡ (more ++ head ∷ []) ++ drop 1 ids = (rw (c.in_ok-push.ensures.items, c.deref.ensures.value) at c.in_ok-extend_from_slice.ensures.items) ∙ ap (λ l. (more ++ head ∷ []) ++ l) (rest_slice ids) in
    let whole : ids_end ids ≤ node_count p = c.in_ok-behind.ensures.held c.requires.second.held in
    let rest : ids_end (drop 1 ids) ≤ node_count q = end_of_rest ids (node_count q) (omega (arith, whole, c.met.ensures.grows.keeps.count)) in
    let both : ids_end ((more ++ head ∷ []) ++ drop 1 ids) ≤ node_count q = end_of_both (more ++ head ∷ []) (drop 1 ids) (node_count q) (end_of_both more (head ∷ []) (node_count q) c.in_ok-head.ensures.held.1 (omega (arith, c.in_ok-head.ensures.held.0))) rest in
    rw items both

pub returns-clause-ok : goal.returns-clause-ok
returns-clause-ok c =
    let p = c.args.plan.now in
    let q = c.met.new.plan in
    let left = c.in_ok-stages.stages.items in
    let ids = c.in_ok-behind.behind.items in
    let last = c.index.result.now in
    let more = c.met.new.stages.items in
    let head = c.in_ok-head.head in
    let items : c.extend_from_slice.new.self.items ≡ (more ++ head ∷ []) ++ drop 1 ids = (rw (c.in_ok-push.ensures.items, c.deref.ensures.value) at c.in_ok-extend_from_slice.ensures.items) ∙ ap (λ l. (more ++ head ∷ []) ++ l) (rest_slice ids) in
    let parts : ids ≡ last ∷ drop 1 ids = first_and_rest ids last (omega (arith, c.in_ok-behind.ensures.some, c.in_ok-behind.behind.ok.0, c.in_ok-behind.behind.ok.1, c.in_ok-behind.behind.small)) c.index.ensures in
    let some : 0 < length left = omega (arith, c.in_ok-stages.ensures.some, c.in_ok-stages.stages.ok.0, c.in_ok-stages.stages.ok.1, c.in_ok-stages.stages.small) in
    let second : pipeline (plan_trees p (last ∷ drop 1 ids)) ≡ plan_tree p c.args.second = subst (λ l. pipeline (plan_trees p l) ≡ plan_tree p c.args.second) parts c.in_ok-behind.ensures.is in
    let lined : AreStages (plan_trees p (last ∷ drop 1 ids)) = subst (λ l. AreStages (plan_trees p l)) parts (c.in_ok-behind.ensures.stages c.requires.second.normal) in
    let held : ids_end (last ∷ drop 1 ids) ≤ node_count p = subst (λ l. ids_end l ≤ node_count p) parts (c.in_ok-behind.ensures.held c.requires.second.held) in
    ok_then c.in_a_row.result
    (λ a h. both_made p q c.in_a_row.new.plan c.args.first c.args.second left (drop 1 ids) more last head c.in_ok-stages.ensures.is some (c.in_ok-stages.ensures.stages c.requires.first.normal) second lined held c.in_ok-head.ensures.ok c.met.ensures.grows h)
    (rw items at c.in_a_row.ensures.ok)
