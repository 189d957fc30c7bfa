use Rattle.std.proofs.Common.{◌∙◌, ◌^◌, ◌-◌, min, ◌≤◌, ℕ, ap, refl, arith}
use Rattle.sf_arena.specs.Arenas.{entries_of}
use Rattle.sf_arena.proofs.Grown.{more_put, shallow_entries, shallow_at, added_item}
use Rattle.sf_arena.specs.Items.{Added}
use Rattle.sf_arena.specs.declared.entry.Entry.{Entry}
use Rattle.sf_term.specs.declared.node.Node.{Node}
use Rattle.sf_term.specs.Entries.{identity_entry}
use Rattle.sf_term.specs.Trees.{term_depth}
use Rattle.sf_term.specs.Arena.{term_base, headers_of, term_count}
use Rattle.sf_term.proofs.Entered.{arena_put, same_lists}
use Rattle.sf_term.proofs.Refused.{arena_took, arena_refused}
use Rattle.sf_term.proofs.Extended.{node-made, parts_needed, adds_added, unchanged, same_expressions}
use Rattle.sf_term.proofs.program.Program.add.Goals as goal

pub invariant_of-self : goal.invariant_of-self
invariant_of-self c =
    let p = c.args.self.now in
    let needed = parts_needed p c.args.node c.requires in
    let shallow : (n : ℕ) → Added (entries_of p.terms) (entries_of c.add.new.self) (record { node = c.args.node; depth = c.depth_with-depth.result; spot = c.args.spot }) n → c.depth_with-depth.result ≤ 64 =
    λ n added. omega (arith, shallow_at (entries_of c.add.new.self) identity_entry n (shallow_entries c.add.new.self) (omega arith), ap (λ (e : Entry Node). e.depth) (added_item _ _ _ _ added identity_entry)) in
    record {
      arena = arena_put (term_base p) (entries_of p.terms) (entries_of c.add.new.self) (record { node = c.args.node; depth = c.depth_with-depth.result; spot = c.args.spot }) c.add.result c.add.ensures.ok c.add.ensures.err shallow p.arena needed (c.depth_with-depth.ensures ∙ ap (λ t. min (term_depth t) (2 ^ 32 - 1)) (node-made p c.args.node));
      bodies = omega (arith, p.bodies, more_put _ _ _ c.add.result c.add.ensures.ok c.add.ensures.err);
    }

pub returns-in-Ok : goal.returns-in-Ok
unfolding headers_of term_count
returns-in-Ok c = record {
  ok = adds_added c.args.self.now _ _ _ _ _ refl refl c.in-Ok.ensures.ok refl c.depth_with-depth.ensures;
  refused = arena_took _ _ _ _ _ c.in-Ok.ensures.many c.in-Ok.ensures.deep (omega (arith, c.depth_with-depth.ensures));
  err = tt;
}

pub returns-in-Err : goal.returns-in-Err
unfolding headers_of term_count
returns-in-Err c = record {
  ok = tt;
  refused = arena_refused _ _ _ _ _ c.from.ensures c.in-Err.ensures.many c.in-Err.ensures.deep (omega (arith, c.depth_with-depth.ensures));
  err = unchanged c.args.self.now _ (same_expressions c.args.self.now.expressions) (same_lists _) c.in-Err.ensures.err refl;
}
