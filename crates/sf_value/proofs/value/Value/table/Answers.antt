use Rattle.std.proofs.Common.{◌∙◌, length, ap, sym, subst}
use Rattle.sf_value.specs.Values.{table}
use Rattle.sf_value.specs.Keys.{AreDifferentKeys}
use Rattle.sf_value.specs.View.{keyed_rows}
use Rattle.sf_value.proofs.Parting.{none_parted, one_parted, as_many, all_parted, repeat_here}
use Rattle.sf_value.proofs.value.Value.table.Goals as goal

pub loop-key-init : goal.loop-key-init
loop-key-init c = none_parted c.into_iter-key-iterator.ensures.into_iter_gives.0 c.new-keys.ensures c.in_ok-values.ensures.items

pub loop-key-preserved : goal.loop-key-preserved
loop-key-preserved c =
    one_parted c.in-Some.key c.in-Some.value c.loop-key.invariant c.in-Some.ensures.steps.0 (rw c.if-not-branch.false at c.in_ok-push.ensures.keys) c.in_ok-push-2.ensures.items

pub returns-then-not-branch-clause-refused : goal.returns-then-not-branch-clause-refused
returns-then-not-branch-clause-refused c =
    let same = rw c.if-not-branch.true at c.in_ok-push.ensures.keys in
    repeat_here c.in-Some.key c.in-Some.value _ c.loop-key.invariant c.in-Some.ensures.steps.0 (c.len-then-not-branch.ensures ∙ ap length same) (subst AreDifferentKeys (c.keys-in-loop-key.view_is ∙ same) c.keys-in-loop-key.invariant.0)
    (sym c.if-not-branch.true ∙ c.in_ok-push.ensures.added)

pub under-requires : goal.under-requires
under-requires c = ap length c.in_ok-new.ensures.ok ∙ as_many c.loop-key.invariant

pub returns-clause-ok : goal.returns-clause-ok
returns-clause-ok c =
    c.in_ok-under.ensures ∙ ap (λ ks. table (keyed_rows ks c.loop-key.values.items)) c.in_ok-new.ensures.ok
    ∙ ap table (all_parted c.loop-key.invariant (sym c.loop-key.key-iterator.rest.ok.0 ∙ c.in-None.ensures.steps.0))
