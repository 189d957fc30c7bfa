use Rattle.std.proofs.Common.{◌∙◌, [], length, ap, sym, subst}
use Rattle.sf_value.specs.Values.{HasDifferentKeys}
use Rattle.sf_value.specs.Keys.{AreDifferentKeys}
use Rattle.sf_value.specs.View.{keyed_rows}
use Rattle.sf_value.proofs.Under.{under_new}
use Rattle.sf_value.proofs.value.Value.under.Goals as goal

pub invariant_of-result : goal.invariant_of-result
invariant_of-result c =
    let keys = ap (λ t. t.keys.value) c.in_ok-table.ensures.ok in
    let values = ap (λ t. t.values.items) c.in_ok-table.ensures.ok in
    let different : AreDifferentKeys c.args.keys.value = subst AreDifferentKeys c.deref.ensures c.all-different.ensures.different in
    let new = under_new [] c.args.keys.value c.args.values.items different in (
      subst (λ ks. HasDifferentKeys (keyed_rows ks c.in_ok-table.table.value.values.items)) (sym keys) (subst (λ ds. HasDifferentKeys (keyed_rows c.args.keys.value ds)) (sym values) new),
      ap length keys ∙ c.requires ∙ ap length (sym values),
    )
