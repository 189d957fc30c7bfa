use Rattle.std.proofs.Common.{List, sym, subst, length}
use Rattle.sf_arena.specs.declared.entry.Entry.{Entry}
use Rattle.sf_arena.specs.Arenas.{entries_of}
use Rattle.sf_expr.specs.declared.exprs.ExprNode.{ExprNode}
use Rattle.sf_expr.specs.declared.stored.StoredFunction.{StoredFunction}
use Rattle.sf_expr.specs.Entries.{IsArena, AreFunctions, AreValued, AreShallowPatterns}
use Rattle.sf_expr.specs.Patterns.{PlacedPattern}
use Rattle.sf_expr.specs.Expressions.{Literal}
use Rattle.sf_expr.proofs.Entered.{arena_empty, functions_empty, literals_empty, patterns_empty}
use Rattle.sf_expr.proofs.exprs.Exprs.new.Goals as goal

pub invariant_of-result : goal.invariant_of-result
invariant_of-result c = record {
  ordered = subst (λ (es : List (Entry ExprNode)). IsArena (record { names = c.new-2.result.items; literals = c.new-3.result.items; patterns = c.new-4.result.items }) es) (sym c.new.ensures) (arena_empty _);
  closed = subst (λ (fs : List StoredFunction). AreFunctions (length (entries_of c.new.result)) fs) (sym c.new-5.ensures.items) (functions_empty _);
  shallow = subst (λ (ps : List PlacedPattern). AreShallowPatterns ps) (sym c.new-4.ensures.items) patterns_empty;
  valued = subst (λ (ls : List Literal). AreValued ls) (sym c.new-3.ensures.items) literals_empty;
}
