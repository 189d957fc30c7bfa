use Rattle.std.proofs.Common.{arith, List, sym, subst}
use Rattle.sf_arena.specs.declared.entry.Entry.{Entry}
use Rattle.sf_term.specs.declared.node.Node.{Node}
use Rattle.sf_term.specs.Entries.{TermBase, AreTerms, collections_in}
use Rattle.sf_term.proofs.Entered.{arena_empty}
use Rattle.sf_term.proofs.program.Program.new.Goals as goal

pub invariant_of-result : goal.invariant_of-result
invariant_of-result c =
    let b : TermBase = record { expressions = c.new.result; lists = record { arguments = c.new-3.result.items; collections = collections_in c.new-4.result.items } } in
    record {
      arena = subst (λ (es : List (Entry Node)). AreTerms b es) (sym c.new-2.ensures) (rw (c.new-3.ensures.items, c.new-4.ensures.items) (arena_empty c.new.result));
      bodies = rw c.new-5.ensures.items (omega arith);
    }
