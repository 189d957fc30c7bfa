use Rattle.std.proofs.Common.{◌≡◌, ◌∙◌, ℕ, [], length, ap, refl, arith}
use Rattle.sf_arena.specs.Arenas.{entries_of}
use Rattle.sf_term.specs.declared.node.ArgumentsId.{ArgumentsId}
use Rattle.sf_term.specs.Entries.{TermBase, collections_in}
use Rattle.sf_term.specs.Arena.{term_base, lists_of, headers_of, program_expressions, HoldsArguments, argument_nodes, next_arguments}
use Rattle.sf_term.proofs.Entered.{arena_grown, still_stored, unchanged_grown, MoreLists, same_items, items_put, items_pushed, lists_copied, pushed_at}
use Rattle.sf_term.proofs.Extended.{unchanged, same_expressions}
use Rattle.sf_term.proofs.program.Program.place_arguments.Goals as goal

pub invariant_of-self : goal.invariant_of-self
invariant_of-self c =
    let p = c.args.self.now in
    let b : TermBase = record { expressions = p.expressions; lists = record { arguments = c.push.new.self.items; collections = collections_in p.collections.items } } in
    let grown = unchanged_grown p.expressions p.expressions (same_expressions p.expressions) in
    let more : MoreLists (lists_of p) b.lists = record { arguments = items_put _ p.arguments.items c.push.new.self.items c.new.result _ c.push.ensures.items; collections = same_items _ _ _ refl } in
    record {
      arena = arena_grown (term_base p) b (entries_of p.terms) grown more (still_stored (term_base p) b (entries_of p.terms) grown refl p.arena) p.arena;
      bodies = p.bodies;
    }

pub returns-in_err-push-clause-same : goal.returns-in_err-push-clause-same
unfolding headers_of
returns-in_err-push-clause-same c =
    let p = c.args.self.now in
    unchanged p _ (same_expressions p.expressions) (lists_copied _ _ c.in_err-push.ensures.items refl) refl refl

pub returns-in_err-push-clause-expressions : goal.returns-in_err-push-clause-expressions
unfolding program_expressions
returns-in_err-push-clause-expressions c = refl

pub returns-clause-next : goal.returns-clause-next
unfolding next_arguments
returns-clause-next c =
    let number : c.len.result ≡ length c.args.self.now.arguments.items = omega (arith, c.len.ensures, c.args.self.now.arguments.ok.0) in
    ap (λ (n : ℕ). let a : ArgumentsId = record { 0 = n } in a) number

pub returns-clause-within : goal.returns-clause-within
unfolding HoldsArguments
returns-clause-within c =
    let number : c.len.result ≡ length c.args.self.now.arguments.items = omega (arith, c.len.ensures, c.args.self.now.arguments.ok.0) in
    (pushed_at [] c.args.self.now.arguments.items _ c.new.result _ c.in_ok-push.ensures.items number).0

pub returns-clause-is : goal.returns-clause-is
unfolding argument_nodes
returns-clause-is c =
    let number : c.len.result ≡ length c.args.self.now.arguments.items = omega (arith, c.len.ensures, c.args.self.now.arguments.ok.0) in
    (pushed_at [] c.args.self.now.arguments.items _ c.new.result _ c.in_ok-push.ensures.items number).1 ∙ c.new.ensures

pub returns-clause-same : goal.returns-clause-same
unfolding headers_of
returns-clause-same c =
    let p = c.args.self.now in
    unchanged p _ (same_expressions p.expressions) (record { arguments = items_pushed _ _ _ c.new.result c.in_ok-push.ensures.items; collections = same_items _ _ _ refl }) refl refl

pub returns-clause-expressions : goal.returns-clause-expressions
unfolding program_expressions
returns-clause-expressions c = refl
