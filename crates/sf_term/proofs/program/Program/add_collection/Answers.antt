use Rattle.std.proofs.Common.{◌≡◌, ℕ, true, length, ap, refl, arith}
use Rattle.sf_arena.specs.Arenas.{entries_of}
use Rattle.sf_term.specs.declared.collection.CollectionId.{CollectionId}
use Rattle.sf_term.specs.declared.collection.CollExpr.{CollExpr}
use Rattle.sf_term.specs.Trees.{collection_depth}
use Rattle.sf_term.specs.declared.refusal.BuildRefusal.TheVariants.{Memory}
use Rattle.sf_term.specs.Entries.{TermBase, absent_collection, collections_in}
use Rattle.sf_term.specs.Arena.{term_base, lists_of, headers_of, HoldsCollection, collection_of, collection_node, next_collection}
use Rattle.sf_term.proofs.Entered.{arena_grown, unchanged_grown, MoreLists, same_items, items_put, items_pushed, lists_copied, pushed_at, stored_put, collections_put, collections_counted}
use Rattle.sf_term.proofs.Extended.{unchanged, same_expressions, same_self, members_end, unchanged_keeps, collection_kept}
use Rattle.sf_term.proofs.Refused.{builds_none, builds_starved, still_room}
use Rattle.sf_term.proofs.program.Program.add_collection.Goals as goal

pub invariant_of-self : goal.invariant_of-self
invariant_of-self c =
    let p = c.args.self.now in
    let b : TermBase = record { expressions = p.expressions; lists = record { arguments = p.arguments.items; collections = collections_in c.push.new.self.items } } in
    let put = collections_put p.collections.items c.push.new.self.items c.args.collection _ c.push.ensures.items in
    let needed = members_end p c.args.collection.value c.requires in
    let grown = unchanged_grown p.expressions p.expressions (same_expressions p.expressions) in
    let more : MoreLists (lists_of p) b.lists = record { arguments = same_items _ _ _ refl; collections = items_put _ _ _ c.args.collection.value _ put } in
    record {
      arena = arena_grown (term_base p) b (entries_of p.terms) grown more (stored_put (term_base p) _ (entries_of p.terms) c.args.collection.value _ put (needed.1, needed.2, needed.3) p.arena) p.arena;
      bodies = p.bodies;
    }

pub returns-in_err-room : goal.returns-in_err-room
returns-in_err-room c = builds_none _ _ _ _ _ _ c.from_residual.result _ c.from_residual.ensures.1 c.in_err-room.ensures refl (omega (arith, c.depth_of-depth.ensures, ap (λ (x : CollExpr). collection_depth (collection_of c.args.self.now x)) c.deref.ensures)) (λ t. tt, λ t. refl) (same_self c.args.self.now)

pub returns-in_err-push : goal.returns-in_err-push
unfolding headers_of
returns-in_err-push c =
    let p = c.args.self.now in
    builds_starved _ _ _ _ _ _ _ c.from_residual-in_err-push.result Memory c.from_residual-in_err-push.ensures.1 refl c.in_ok-room.ensures refl (omega (arith, c.depth_of-depth.ensures, ap (λ (x : CollExpr). collection_depth (collection_of c.args.self.now x)) c.deref.ensures)) (λ t. tt, λ t. refl)
    (unchanged p _ (same_expressions p.expressions) (lists_copied _ _ refl (ap collections_in c.in_err-push.ensures.items)) refl refl)

pub returns : goal.returns
unfolding headers_of HoldsCollection collection_node next_collection
returns c =
    let p = c.args.self.now in
    let put = collections_put p.collections.items _ c.args.collection true c.in_ok-push.ensures.items in
    let number : c.len.result ≡ length (collections_in p.collections.items) = omega (arith, c.len.ensures, c.args.self.now.collections.ok.0, collections_counted p.collections.items) in
    let there = pushed_at absent_collection (collections_in p.collections.items) _ c.args.collection.value _ put number in
    let same = unchanged p _ (same_expressions p.expressions) (record { arguments = same_items _ _ _ refl; collections = items_pushed _ _ _ c.args.collection.value put }) refl refl in
    let kept = collection_kept p _ c.args.collection.value (unchanged_keeps p _ same).trees c.requires in
    record {
      ok = record {
        within = there.0;
        next = ap (λ (n : ℕ). let i : CollectionId = record { 0 = n } in i) number;
        is = there.1;
        whole = kept.1;
        made = kept.0;
        same = same;
      };
      refused = still_room _ _ _ _ _ _ c.in_ok-room.ensures refl (omega (arith, c.depth_of-depth.ensures, ap (λ (x : CollExpr). collection_depth (collection_of c.args.self.now x)) c.deref.ensures)) (λ t. tt, λ t. refl) tt;
      err = tt;
    }
