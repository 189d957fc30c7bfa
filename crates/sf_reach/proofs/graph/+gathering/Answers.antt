use Rattle.std.proofs.Common.{◌≤◌, All, [], ◌++◌, arith, ◌∙◌, Some, None, sym, ap, subst, inl, inr}
use Rattle.std.proofs.lemmas.Result.{on_ok_weaker}
use Rattle.sf_expr.specs.Arena.{name_at}
use Rattle.std.proofs.lemmas.List.{append-nil}
use Rattle.sf_term.specs.Trees.{arguments_depth, collection_depth}
use Rattle.sf_term.specs.Arena.{term_number, arguments_of, collection_of, ArgumentBelow, CollectionBelow, TermPartsBelow, HoldsTermParts, HoldsMembers, HoldsArgument}
use Rattle.sf_term.specs.declared.node.Node.TheVariants as nodes
use Rattle.sf_reach.specs.Order.{CallsInOrder, in_primitive, in_named, in_joined, in_sided, in_headed, in_transformed, in_switching, in_continuing, in_gathered, in_releasing, in_editing, MemberCalls, in_empty, in_used, in_added, in_dropped, in_kept, in_chosen}
use Rattle.sf_reach.specs.Graphs.{AddsArgumentCalls}
use Rattle.sf_reach.proofs.Shallow.{arguments_shallow, members_shallow, released_shallow, edited_shallow, argument_shallow}
use Rattle.sf_reach.proofs.Gathered.{adds_none, adds_one, adds_two, adds_members, adds_members_and, adds_into, adds_both, name_found, adds_found, adds_absent, no_argument, adds_value, adds_process, adds_collection}
use Rattle.sf_reach.proofs.graph.+gathering.Goals as goal
use Rattle.sf_reach.proofs.graph.+gathering.Goals.{gather-in-Some+in_ok-push-in-Call, gather-in_default, gather_arguments-in-Process+in_ok-gather-in-Process, gather_arguments-in-Collection+in_ok-gather_at-in-Collection, gather_arguments-in-Value}

pub gather-returns-in-Primitive : goal.gather-returns-in-Primitive
gather-returns-in-Primitive t c =
    let p = c.args.program.now in
    elim c.in-Primitive.is [
      | inl k ↦ adds_none p c.args.term (nodes.Primitive k.0) (sym k.1 ∙ c.node.ensures.value) c.args.calls.now.items in_primitive
      | inr k ↦ adds_none p c.args.term (nodes.Named k.0 k.1 k.2) (sym k.3 ∙ c.node.ensures.value) c.args.calls.now.items in_named
    ]

pub gather-returns-after-get_index_of : goal.gather-returns-after-get_index_of
gather-returns-after-get_index_of t c =
    let p = c.args.program.now in
    let old = c.args.calls.now.items in
    let mid = c.match-get_index_of.calls.items in
    let new = c.gather_arguments.new.calls.items in
    let name = c.in-Call.name in
    let x = c.name_of-name.result.now in
    let is = sym c.in-Call.is ∙ c.node.ensures.value in
    let named = c.name_of-name.ensures ∙ ap (λ xs. name_at xs name) c.expressions.ensures in
    on_ok_weaker c.gather_arguments.result (λ h.
    let own = subst (λ vs. AddsArgumentCalls p vs mid new) c.arguments.ensures h in
    elim c.match-get_index_of.branch [
      | gather-in-Some+in_ok-push-in-Call w ↦
          adds_found p c.args.term name c.in-Call.arguments is old mid new x w.spot-spot.result w.in-Some.callee named w.spot-spot.ensures (name_found p c.args.names.now x (Some w.in-Some.callee) c.requires.names w.in-Some.ensures.index)
          (ap (λ v. v.items) w.calls-is ∙ w.in_ok-push-in-Call.ensures.items) own
      | gather-in_default w ↦
          adds_absent p c.args.term name c.in-Call.arguments is old mid new x named (name_found p c.args.names.now x None c.requires.names w.in_default.ensures.index) (ap (λ v. v.items) w.calls-is) own
    ]) c.gather_arguments.ensures

pub gather-returns-in_ok-gather-in-Joined : goal.gather-returns-in_ok-gather-in-Joined
gather-returns-in_ok-gather-in-Joined t c =
    let p = c.args.program.now in
    let old = c.args.calls.now.items in
    let f = c.in-Joined.first in
    let g = c.in-Joined.second in
    on_ok_weaker c.gather-in-Joined.result (λ h. adds_two p c.args.term _ (sym c.in-Joined.is ∙ c.node.ensures.value) old _ _ f g (λ cs ds l r. in_joined l r) c.in_ok-gather-in-Joined.ensures h) c.gather-in-Joined.ensures

pub gather-returns-in-Switching : goal.gather-returns-in-Switching
gather-returns-in-Switching t c =
    let n = c.in-Switching.form in
    on_ok_weaker c.gather-in-Switching.result (λ h. adds_one c.args.program.now c.args.term (nodes.Switching n) (sym c.in-Switching.is ∙ c.node.ensures.value) c.args.calls.now.items _ n.source (λ cs l. in_switching l) h) c.gather-in-Switching.ensures

pub gather-returns-in_ok-gather-in-Continuation : goal.gather-returns-in_ok-gather-in-Continuation
gather-returns-in_ok-gather-in-Continuation t c =
    let n = c.in-Continuation.form in
    on_ok_weaker c.gather-in-Continuation-2.result
    (λ h. adds_two c.args.program.now c.args.term (nodes.Continuation n) (sym c.in-Continuation.is ∙ c.node.ensures.value) c.args.calls.now.items _ _ n.source n.observer (λ cs ds l r. in_continuing l r) c.in_ok-gather-in-Continuation.ensures h)
    c.gather-in-Continuation-2.ensures

pub gather-returns-in-Sided : goal.gather-returns-in-Sided
gather-returns-in-Sided t c =
    let p = c.args.program.now in
    let old = c.args.calls.now.items in
    let f = c.in-Sided.part in
    on_ok_weaker c.gather-in-Sided.result (λ h. elim c.in-Sided.is [
      | inl k ↦ adds_one p c.args.term (nodes.Sided k.0 f) (sym k.1 ∙ c.node.ensures.value) old _ f (λ cs l. in_sided l) h
      | inr j ↦ elim j [
        | inl k ↦ adds_one p c.args.term (nodes.Headed k.0 k.1 f) (sym k.2 ∙ c.node.ensures.value) old _ f (λ cs l. in_headed l) h
        | inr k ↦ adds_one p c.args.term (nodes.Transformed k.0 f) (sym k.1 ∙ c.node.ensures.value) old _ f (λ cs l. in_transformed l) h
      ]
    ]) c.gather-in-Sided.ensures

pub gather_arguments-loop-argument-init : goal.gather_arguments-loop-argument-init
gather_arguments-loop-argument-init t c = no_argument c.args.program.now c.args.calls.now.items

pub gather-gather_arguments-requires : goal.gather-gather_arguments-requires
gather-gather_arguments-requires t c =
    let p = c.args.program.now in
    let is = sym c.in-Call.is ∙ c.node.ensures.value in
    let below = subst (λ n. TermPartsBelow p n (term_number c.args.term)) c.in-Call.is c.node.ensures.below in
    let held = subst (HoldsTermParts p) c.in-Call.is c.node.ensures.held in
    (omega arith, (c.requires.names, (subst (All (ArgumentBelow p (term_number c.args.term))) (sym c.arguments.ensures) below, (subst (λ vs. arguments_depth (arguments_of p vs) ≤ 64) (sym c.arguments.ensures) (arguments_shallow p c.args.term c.in-Call.name c.in-Call.arguments is), subst (All (HoldsArgument p)) (sym c.arguments.ensures) held.2))))

pub gather-gather_at-requires : goal.gather-gather_at-requires
gather-gather_at-requires t c =
    let p = c.args.program.now in
    (omega arith, (c.requires.names, (subst (λ n. TermPartsBelow p n (term_number c.args.term)) c.in-Gathered.is c.node.ensures.below, (members_shallow p c.args.term c.in-Gathered.members (sym c.in-Gathered.is ∙ c.node.ensures.value), subst (HoldsTermParts p) c.in-Gathered.is c.node.ensures.held))))

pub gather-gather_at-requires-in-Editing : goal.gather-gather_at-requires-in-Editing
gather-gather_at-requires-in-Editing t c =
    let p = c.args.program.now in
    (omega arith, (c.requires.names, ((subst (λ n. TermPartsBelow p n (term_number c.args.term)) c.in-Editing.is c.node.ensures.below).0, ((edited_shallow p c.args.term c.in-Editing.form (sym c.in-Editing.is ∙ c.node.ensures.value)).0, (subst (HoldsTermParts p) c.in-Editing.is c.node.ensures.held).0))))

pub gather-gather_at-requires-in-Releasing : goal.gather-gather_at-requires-in-Releasing
gather-gather_at-requires-in-Releasing t c =
    let p = c.args.program.now in
    (omega arith, (c.requires.names, ((subst (λ n. TermPartsBelow p n (term_number c.args.term)) c.in-Releasing.is c.node.ensures.below).0, (released_shallow p c.args.term c.in-Releasing.form (sym c.in-Releasing.is ∙ c.node.ensures.value), (subst (HoldsTermParts p) c.in-Releasing.is c.node.ensures.held).0))))

pub gather-returns-in-Gathered : goal.gather-returns-in-Gathered
gather-returns-in-Gathered t c =
    let m = c.in-Gathered.members in
    on_ok_weaker c.gather_at.result (λ h. adds_members c.args.program.now c.args.term (nodes.Gathered m) (sym c.in-Gathered.is ∙ c.node.ensures.value) c.args.calls.now.items _ m (λ cs l. in_gathered l) h) c.gather_at.ensures

pub gather-returns-in-Editing : goal.gather-returns-in-Editing
gather-returns-in-Editing t c =
    let n = c.in-Editing.form in
    on_ok_weaker c.gather_at-in-Editing.result (λ h. adds_members c.args.program.now c.args.term (nodes.Editing n) (sym c.in-Editing.is ∙ c.node.ensures.value) c.args.calls.now.items _ n.members (λ cs l. in_editing l) h) c.gather_at-in-Editing.ensures

pub gather-returns-in_ok-gather_at-in-Releasing : goal.gather-returns-in_ok-gather_at-in-Releasing
gather-returns-in_ok-gather_at-in-Releasing t c =
    let n = c.in-Releasing.form in
    on_ok_weaker c.gather-in-Releasing.result
    (λ h. adds_members_and c.args.program.now c.args.term (nodes.Releasing n) (sym c.in-Releasing.is ∙ c.node.ensures.value) c.args.calls.now.items _ _ n.members n.observer (λ cs ds l r. in_releasing l r) c.in_ok-gather_at-in-Releasing.ensures h)
    c.gather-in-Releasing.ensures

-- ## A collection

pub gather_at-gather_members-requires : goal.gather_at-gather_members-requires
gather_at-gather_members-requires t c =
    let there = c.collection.ensures in
    let shallow = subst (λ i. collection_depth (collection_of c.args.program.now i) ≤ 64) (sym there) c.requires.shallow in
    (omega (arith, shallow), (c.requires.names, (subst (CollectionBelow (term_number c.args.form)) (sym there) c.requires.below, (shallow, subst (HoldsMembers c.args.program.now) (sym there) c.requires.held.1))))

pub gather_members-gather_members-requires : goal.gather_members-gather_members-requires
gather_members-gather_members-requires t c =
    let same = ap (λ i. collection_depth (collection_of c.args.program.now i)) c.deref.ensures in
    let whole = ap (λ i. collection_depth (collection_of c.args.program.now i)) c.in-Added.is in
    (omega (arith, same, whole), (c.requires.names, (rw c.deref.ensures ((rw c.in-Added.is at c.requires.below).0), (omega (arith, same, whole, c.requires.shallow), rw c.deref.ensures ((rw c.in-Added.is at c.requires.held).0)))))

pub gather_members-gather-requires : goal.gather_members-gather-requires
gather_members-gather-requires t c =
    let below = (rw c.in-Added.is at c.requires.below).1 in
    (omega (arith, below), (c.requires.names, (rw c.in-Added.is at c.requires.held).2))

pub gather_members-gather_members-requires-in-Dropped : goal.gather_members-gather_members-requires-in-Dropped
gather_members-gather_members-requires-in-Dropped t c =
    let same = ap (λ i. collection_depth (collection_of c.args.program.now i)) c.deref-in-Dropped.ensures in
    let whole = ap (λ i. collection_depth (collection_of c.args.program.now i)) c.in-Dropped.is in
    (omega (arith, same, whole), (c.requires.names, (rw c.deref-in-Dropped.ensures ((rw c.in-Dropped.is at c.requires.below)), (omega (arith, same, whole, c.requires.shallow), rw c.deref-in-Dropped.ensures ((rw c.in-Dropped.is at c.requires.held).0)))))

pub gather_members-gather_members-requires-in-Kept : goal.gather_members-gather_members-requires-in-Kept
gather_members-gather_members-requires-in-Kept t c =
    let same = ap (λ i. collection_depth (collection_of c.args.program.now i)) c.deref-in-Kept.ensures in
    let whole = ap (λ i. collection_depth (collection_of c.args.program.now i)) c.in-Kept.is in
    (omega (arith, same, whole), (c.requires.names, (rw c.deref-in-Kept.ensures ((rw c.in-Kept.is at c.requires.below)), (omega (arith, same, whole, c.requires.shallow), rw c.deref-in-Kept.ensures ((rw c.in-Kept.is at c.requires.held).0)))))

pub gather_members-gather_members-requires-in-Chosen : goal.gather_members-gather_members-requires-in-Chosen
gather_members-gather_members-requires-in-Chosen t c =
    let same = ap (λ i. collection_depth (collection_of c.args.program.now i)) c.deref-in-Chosen.ensures in
    let whole = ap (λ i. collection_depth (collection_of c.args.program.now i)) c.in-Chosen.is in
    (omega (arith, same, whole), (c.requires.names, (rw c.deref-in-Chosen.ensures ((rw c.in-Chosen.is at c.requires.below).0), (omega (arith, same, whole, c.requires.shallow), rw c.deref-in-Chosen.ensures ((rw c.in-Chosen.is at c.requires.held).1)))))

pub gather_members-gather_members-requires-in-Chosen-2 : goal.gather_members-gather_members-requires-in-Chosen-2
gather_members-gather_members-requires-in-Chosen-2 t c =
    let same = ap (λ i. collection_depth (collection_of c.args.program.now i)) c.deref-in-Chosen-2.ensures in
    let whole = ap (λ i. collection_depth (collection_of c.args.program.now i)) c.in-Chosen.is in
    (omega (arith, same, whole), (c.requires.names, (rw c.deref-in-Chosen-2.ensures ((rw c.in-Chosen.is at c.requires.below).1), (omega (arith, same, whole, c.requires.shallow), rw c.deref-in-Chosen-2.ensures ((rw c.in-Chosen.is at c.requires.held).2)))))

pub gather_members-returns-in-Empty : goal.gather_members-returns-in-Empty
gather_members-returns-in-Empty t c = rw c.in-Empty.is ([], in_empty, sym (append-nil c.args.calls.now.items))

pub gather_members-returns-in-Used : goal.gather_members-returns-in-Used
gather_members-returns-in-Used t c = rw c.in-Used.is ([], in_used, sym (append-nil c.args.calls.now.items))

pub gather_members-returns-in_ok-gather_members-in-Added : goal.gather_members-returns-in_ok-gather_members-in-Added
gather_members-returns-in_ok-gather_members-in-Added t c =
    let p = c.args.program.now in
    let i = c.in-Added.members.value in
    on_ok_weaker c.gather.result
    (λ h. adds_both p (MemberCalls p i) (CallsInOrder p c.in-Added.term) (MemberCalls p c.args.collection.now) c.args.calls.now.items _ _ (λ cs ds l r. subst (λ w. MemberCalls p w (cs ++ ds)) (sym c.in-Added.is) (in_added l r)) (rw c.deref.ensures at c.in_ok-gather_members-in-Added.ensures) h)
    c.gather.ensures

pub gather_members-returns-in-Dropped : goal.gather_members-returns-in-Dropped
gather_members-returns-in-Dropped t c =
    let p = c.args.program.now in
    let i = c.in-Dropped.members.value in
    on_ok_weaker c.gather_members-in-Dropped.result
    (λ h. adds_into p (MemberCalls p i) (MemberCalls p i) (MemberCalls p c.args.collection.now) c.args.calls.now.items _ (λ cs l. subst (λ w. MemberCalls p w cs) (sym c.in-Dropped.is) (in_dropped l)) (rw c.deref-in-Dropped.ensures at h))
    c.gather_members-in-Dropped.ensures

pub gather_members-returns-in-Kept : goal.gather_members-returns-in-Kept
gather_members-returns-in-Kept t c =
    let p = c.args.program.now in
    let i = c.in-Kept.members.value in
    on_ok_weaker c.gather_members-in-Kept.result
    (λ h. adds_into p (MemberCalls p i) (MemberCalls p i) (MemberCalls p c.args.collection.now) c.args.calls.now.items _ (λ cs l. subst (λ w. MemberCalls p w cs) (sym c.in-Kept.is) (in_kept l)) (rw c.deref-in-Kept.ensures at h))
    c.gather_members-in-Kept.ensures

pub gather_members-returns-in_ok-gather_members-in-Chosen : goal.gather_members-returns-in_ok-gather_members-in-Chosen
gather_members-returns-in_ok-gather_members-in-Chosen t c =
    let p = c.args.program.now in
    let i = c.in-Chosen.first.value in
    let j = c.in-Chosen.second.value in
    on_ok_weaker c.gather_members-in-Chosen-2.result
    (λ h. adds_both p (MemberCalls p i) (MemberCalls p j) (MemberCalls p c.args.collection.now) c.args.calls.now.items _ _ (λ cs ds l r. subst (λ w. MemberCalls p w (cs ++ ds)) (sym c.in-Chosen.is) (in_chosen l r)) (rw c.deref-in-Chosen.ensures at c.in_ok-gather_members-in-Chosen.ensures) (rw c.deref-in-Chosen-2.ensures at h))
    c.gather_members-in-Chosen-2.ensures

-- ## Arguments

pub gather_arguments-gather_at-requires : goal.gather_arguments-gather_at-requires
gather_arguments-gather_at-requires t c =
    let p = c.args.program.now in
    let i = c.loop-argument.argument-index in
    (omega arith, (c.requires.names, (subst (ArgumentBelow p (term_number c.args.call)) c.in-Collection.is (c.requires.below i _ c.loop-argument-test.true), (argument_shallow p c.args.arguments.now i _ _ c.loop-argument-test.true c.in-Collection.is c.requires.shallow, subst (HoldsArgument p) c.in-Collection.is (c.requires.held i _ c.loop-argument-test.true)))))

pub gather_arguments-loop-argument-preserved : goal.gather_arguments-loop-argument-preserved
gather_arguments-loop-argument-preserved t c =
    let p = c.args.program.now in
    let vs = c.args.arguments.now in
    let i = c.loop-argument.argument-index in
    let old = c.args.calls.now.items in
    elim c.match-argument.branch [
      | gather_arguments-in-Process+in_ok-gather-in-Process w ↦
          subst (AddsArgumentCalls p _ old) (sym (ap (λ v. v.items) w.calls-is)) (adds_process p vs i c.loop-argument-test.true _ old _ _ w.in-Process.term w.in-Process.is c.loop-argument.invariant w.in_ok-gather-in-Process.ensures)
      | gather_arguments-in-Collection+in_ok-gather_at-in-Collection w ↦
          subst (AddsArgumentCalls p _ old) (sym (ap (λ v. v.items) w.calls-is)) (adds_collection p vs i c.loop-argument-test.true _ old _ _ w.in-Collection.members w.in-Collection.is c.loop-argument.invariant w.in_ok-gather_at-in-Collection.ensures)
      | gather_arguments-in-Value w ↦
          subst (AddsArgumentCalls p _ old) (sym (ap (λ v. v.items) w.calls-is)) (adds_value p vs i c.loop-argument-test.true _ old _ w.in-Value.field-0 w.in-Value.is c.loop-argument.invariant)
    ]
