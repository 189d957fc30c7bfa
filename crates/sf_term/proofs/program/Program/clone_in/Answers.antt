use Rattle.std.proofs.Common.{◌∙◌, arith, ap, length, subst, sym, List}
use Rattle.sf_arena.specs.declared.entry.Entry.{Entry}
use Rattle.sf_arena.specs.Arenas.{entries_of}
use Rattle.sf_term.specs.declared.node.Node.{Node}
use Rattle.sf_term.specs.Headers.{bodies_end}
use Rattle.sf_term.specs.Entries.{TermBase, AreTerms, collections_in}
use Rattle.sf_term.specs.Arena.{term_base, lists_of, headers_of}
use Rattle.sf_term.proofs.Entered.{arena_grown, still_stored, unchanged_grown, lists_copied}
use Rattle.sf_term.proofs.Extended.{unchanged}
use Rattle.sf_term.proofs.program.Program.clone_in.Goals as goal

pub invariant_of-result : goal.invariant_of-result
invariant_of-result c =
    let p = c.args.self.now in
    let x = c.in_ok-expressions.expressions in
    let b : TermBase = record { expressions = x; lists = record { arguments = c.in_ok-arguments.arguments.items; collections = collections_in c.in_ok-collections.collections.items } } in
    let templates = c.in_ok-templates.ensures ∙ c.deref.ensures.value in
    let collections = c.in_ok-collections.ensures ∙ ap collections_in c.deref-3.ensures.value in
    let lists = lists_copied (lists_of p) b.lists (c.in_ok-arguments.ensures ∙ c.deref-2.ensures.value) collections in
    let grown = unchanged_grown p.expressions x c.in_ok-expressions.ensures in
    record {
      arena = subst (λ (es : List (Entry Node)). AreTerms b es) (sym c.in_ok-terms.ensures) (arena_grown (term_base p) b (entries_of p.terms) grown lists (still_stored (term_base p) b (entries_of p.terms) grown collections p.arena) p.arena);
      bodies = omega (arith, ap bodies_end templates, ap (λ (es : List (Entry Node)). length es) c.in_ok-terms.ensures, p.bodies);
    }

pub returns : goal.returns
unfolding headers_of
returns c =
    let p = c.args.self.now in
    let lists = lists_copied (lists_of p) _ (c.in_ok-arguments.ensures ∙ c.deref-2.ensures.value) (c.in_ok-collections.ensures ∙ ap collections_in c.deref-3.ensures.value) in
    unchanged p _ c.in_ok-expressions.ensures lists c.in_ok-terms.ensures (c.in_ok-templates.ensures ∙ c.deref.ensures.value)
