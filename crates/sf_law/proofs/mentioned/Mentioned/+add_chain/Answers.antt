use Rattle.std.proofs.Common.{◌≡◌, true, IsTrue, sym, subst, ◌⊎◌, inl, inr, ⊎_elim}
use Rattle.std.specs.Prelude.{is_some, OnOk}
use Rattle.sf_value.specs.Values.{Name}
use Rattle.sf_coincidence.specs.Mentions.{ChainMentions}
use Rattle.sf_law.specs.Entries.{IsCodedChain, chain_over}
use Rattle.sf_law.specs.Arena.{plan_expressions}
use Rattle.sf_law.specs.Mentioned.{is_mentioned}
use Rattle.std.proofs.lemmas.Result.{on_ok_weaker}
use Rattle.sf_expr.specs.Arena.{function_at}
use Rattle.sf_code.specs.declared.open.OpenCode.{OpenCode}
use Rattle.sf_code.specs.Compiling.{place_of_name}
use Rattle.sf_code.specs.Around.{patterns_around}
use Rattle.sf_law.proofs.Naming.{function_mentions, ok_both}
use Rattle.sf_law.proofs.mentioned.Mentioned.+add_chain.Goals as goal

pub returns-in-Lone-clause-added : goal.returns-in-Lone-clause-added
returns-in-Lone-clause-added t c = λ coded.
    let x = plan_expressions c.args.plan.now in
    let k = rw c.in-Lone.is at coded in
    let around = patterns_around x c.in-Lone.code.value.around in
    rw c.in-Lone.is
    (on_ok_weaker c.add_code.result
    (λ added y m. added y (subst (λ (o : OpenCode). is_some (place_of_name y (patterns_around x o.around)) ≡ true) (sym c.deref.ensures) (function_mentions around (function_at x c.in-Lone.field-0) y k.closed m)))
    c.add_code.ensures.added)

pub returns-in-OnSide-clause-added : goal.returns-in-OnSide-clause-added
returns-in-OnSide-clause-added t c = λ coded. rw c.in-OnSide.is ((rw c.deref-in-OnSide.ensures at c.add_chain.ensures.added) (rw c.in-OnSide.is at coded))

pub returns-in_ok-add_chain-in-Chained-clause-added : goal.returns-in_ok-add_chain-in-Chained-clause-added
returns-in_ok-add_chain-in-Chained-clause-added t c = λ coded.
    let x = plan_expressions c.args.plan.now in
    let f = c.in-Chained.first.value in
    let g = c.in-Chained.second.value in
    let m = c.add_chain-in-Chained-2.new.self in
    let finish : IsCodedChain x f × IsCodedChain x g → OnOk c.add_chain-in-Chained-2.result ((y : Name) → ChainMentions (chain_over x f) y ⊎ ChainMentions (chain_over x g) y → IsTrue (is_mentioned x m y)) =
    λ k. ok_both c.add_chain-in-Chained-2.result (λ kept added y h. ⊎_elim (λ j. kept y ((rw c.deref-in-Chained.ensures at c.in_ok-add_chain-in-Chained.ensures.added) k.0 y j)) (added y) h) c.add_chain-in-Chained-2.ensures.kept
    ((rw c.deref-in-Chained-2.ensures at c.add_chain-in-Chained-2.ensures.added) k.1) in
    elim c.in-Chained.is [ inl is ↦ rw is (finish (rw is at coded)) | inr (inl is) ↦ rw is (finish (rw is at coded)) | inr (inr is) ↦ rw is (finish (rw is at coded)) ]
