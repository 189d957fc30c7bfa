use Rattle.std.proofs.Common.{refl}
use Rattle.sf_expr.specs.Evaluation.{Scope}
use Rattle.sf_func.specs.Registries.{AnswersByName}
use Rattle.sf_expr.specs.Arena.{function_at}
use Rattle.sf_code.specs.Names.{scope_with}
use Rattle.sf_law.specs.Entries.{chain_over}
use Rattle.sf_mean.specs.Formulas.{apply_chain}
use Rattle.sf_term.specs.Trees.{on_side, on_both, fanned, chained}
use Rattle.sf_term.specs.declared.form.Side.TheVariants.{First, Second}
use Rattle.sf_prim.proofs.Linked.{links_begin, adds_one, adds_then, side_link, fork_link, doubled, both_sides, fanned_sides}
use Rattle.sf_prim.proofs.chain.+links.Goals as goal

pub add_links-returns-in_ok-push-in-Lone : goal.add_links-returns-in_ok-push-in-Lone
add_links-returns-in_ok-push-in-Lone g t c = λ coded φ.
    let y = g.N.Names.expressions c.args.names.now in
    rw c.in-Lone.is (adds_one _ _ _ _ _ c.in_ok-push-in-Lone.ensures.items (c.function_link.ensures.made _ (function_at y c.in-Lone.field-0) (c.in_ok-closure-in-Lone.ensures.made φ _ (rw c.in-Lone.is at coded))))

pub add_links-returns-in_ok-add_links-in-Chained : goal.add_links-returns-in_ok-add_links-in-Chained
add_links-returns-in_ok-add_links-in-Chained g t c = λ coded.
    let y = g.N.Names.expressions c.args.names.now in
    let ss : AnswersByName → Scope = scope_with (g.N.Names.values c.args.names.now) in
    let f = chain_over y c.in-Chained.first.value in
    let h = chain_over y c.in-Chained.second.value in
    let k = rw c.in-Chained.is at coded in
    rw c.in-Chained.is (adds_then _ ss (apply_chain f) (apply_chain h) (apply_chain (chained f h)) _ _ _ (λ s x. refl) ((rw c.deref.ensures at c.in_ok-add_links-in-Chained.ensures) k.0) ((rw c.deref-in-Chained.ensures at c.add_links-in-Chained.ensures) k.1))

pub add_links-returns-in_ok-add_on_side-in-OnBoth : goal.add_links-returns-in_ok-add_on_side-in-OnBoth
add_links-returns-in_ok-add_on_side-in-OnBoth g t c = λ coded.
    let y = g.N.Names.expressions c.args.names.now in
    let ss : AnswersByName → Scope = scope_with (g.N.Names.values c.args.names.now) in
    let f = chain_over y c.in-OnBoth.first.value in
    let h = chain_over y c.in-OnBoth.second.value in
    let k = rw c.in-OnBoth.is at coded in
    rw c.in-OnBoth.is
    (adds_then _ ss (apply_chain (on_side First f)) (apply_chain (on_side Second h)) (apply_chain (on_both f h)) _ _ _ (both_sides f h) ((rw c.deref-in-OnBoth.ensures at c.in_ok-add_on_side-in-OnBoth.ensures) k.0)
    ((rw c.deref-in-OnBoth-2.ensures at c.add_on_side-in-OnBoth-2.ensures) k.1))

pub add_links-returns-in_ok-add_on_side-in-Fanned : goal.add_links-returns-in_ok-add_on_side-in-Fanned
add_links-returns-in_ok-add_on_side-in-Fanned g t c = λ coded.
    let y = g.N.Names.expressions c.args.names.now in
    let ss : AnswersByName → Scope = scope_with (g.N.Names.values c.args.names.now) in
    let f = chain_over y c.in-Fanned.first.value in
    let h = chain_over y c.in-Fanned.second.value in
    let k = rw c.in-Fanned.is at coded in
    rw c.in-Fanned.is
    (adds_then _ ss doubled (apply_chain (on_both f h)) (apply_chain (fanned f h)) c.args.links.now.items c.push-in-Fanned.new.self.items c.add_on_side-in-Fanned-2.new.links.items (fanned_sides f h) (λ φ. adds_one (ss φ) doubled c.args.links.now.items c.push-in-Fanned.new.self.items _ c.in_ok-push-in-Fanned.ensures.items (fork_link (ss φ)))
    (adds_then _ ss (apply_chain (on_side First f)) (apply_chain (on_side Second h)) (apply_chain (on_both f h)) c.push-in-Fanned.new.self.items c.add_on_side-in-Fanned.new.links.items c.add_on_side-in-Fanned-2.new.links.items (both_sides f h) ((rw c.deref-in-Fanned.ensures at c.in_ok-add_on_side-in-Fanned.ensures) k.0)
    ((rw c.deref-in-Fanned-2.ensures at c.add_on_side-in-Fanned-2.ensures) k.1)))

pub add_on_side-returns : goal.add_on_side-returns
add_on_side-returns g t c = λ coded φ.
    let y = g.N.Names.expressions c.args.names.now in
    adds_one _ _ _ _ _ c.in_ok-push.ensures.items (side_link _ c.args.side (chain_over y c.args.part.now) c.in_ok-inner.inner (c.in_ok-inner.ensures coded φ))

pub links_of-returns : goal.links_of-returns
links_of-returns g t c = λ coded φ.
    let y = g.N.Names.expressions c.args.names.now in
    links_begin _ (chain_over y c.args.chain.now) c.new-links.result.items _ c.new-links.ensures.items (c.in_ok-add_links.ensures coded φ)
