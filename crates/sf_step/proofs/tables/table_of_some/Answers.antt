use Rattle.std.proofs.Common.{◌≡◌, ◌∷◌, ◌++◌, map, ap, sym, ◌∙◌, subst, inl, inr}
use Rattle.std.proofs.lemmas.List.{nil_from_length}
use Rattle.sf_value.specs.Values.{no_rows, row}
use Rattle.sf_value.specs.View.{key_of, rows_of, keyed_rows}
use Rattle.sf_value.specs.Tables.{RefusesRows}
use Rattle.sf_value.specs.declared.table.TableRefusal.TheVariants.{DuplicateKey}
use Rattle.sf_step.proofs.Rows.{rows_then, then_one, then_none, no_values, keys_of_rows, key_over, no_repeated}
use Rattle.sf_step.proofs.tables.table_of_some.Goals as goal

pub loop-key-init : goal.loop-key-init
loop-key-init c =
    let gives = c.into_iter-key-iterator.ensures.into_iter_gives in
    let keys : map key_of c.into_iter-key-iterator.result.a.rest.now ≡ c.args.keys.now = ap (map key_of) (ap (λ z. z.a.rest.now) gives ∙ ap (λ z. z.rest.now) c.zip-key-items.ensures.first ∙ c.iter.ensures.rest) ∙ c.all.ensures.keys in
    let values : c.into_iter-key-iterator.result.b.rest.items ≡ c.args.values.items = ap (λ z. z.b.rest.items) gives ∙ c.zip-key-items.ensures.second.0 in
    record {
      made = ap (λ es. rows_then es (keyed_rows (map key_of c.into_iter-key-iterator.result.a.rest.now) c.into_iter-key-iterator.result.b.rest.items)) c.in_ok-rows.ensures.items
          ∙ ap (λ ks. keyed_rows ks c.into_iter-key-iterator.result.b.rest.items) keys ∙ ap (keyed_rows c.args.keys.now) values;
      under = ap (λ es. keys_of_rows es ++ map key_of c.into_iter-key-iterator.result.a.rest.now) c.in_ok-rows.ensures.items ∙ keys;
    }

pub loop-key-preserved : goal.loop-key-preserved
loop-key-preserved c =
    let steps = c.in-Some.ensures.steps in
    let before = c.loop-key.key-iterator in
    let after = c.next.new.self in
    let left = keyed_rows (map key_of after.a.rest.now) after.b.rest.items in
    record {
      made = ap (λ es. rows_then es left) c.in_ok-push.ensures.items
          ∙ then_one c.loop-key.rows.items (c.in_ok-own.own, c.in-Some.value) left
          ∙ ap (λ k. rows_then c.loop-key.rows.items (row k c.in-Some.value left)) c.in_ok-own.ensures
          ∙ sym (ap (λ ks. rows_then c.loop-key.rows.items (keyed_rows (map key_of ks) before.b.rest.items)) steps.0 ∙ ap (λ vs. rows_then c.loop-key.rows.items (keyed_rows (map key_of (c.in-Some.key.now ∷ after.a.rest.now)) vs)) steps.1.0)
          ∙ c.loop-key.invariant.made;
      under = key_over c.loop-key.rows.items _ c.in-Some.key.now c.in_ok-own.own c.in-Some.value _ _ c.in_ok-push.ensures.items c.in_ok-own.ensures steps.0 ∙ c.loop-key.invariant.under;
    }

pub returns-in-Ok : goal.returns-in-Ok
returns-in-Ok c =
    let before = c.loop-key.key-iterator in
    let end : keyed_rows (map key_of before.a.rest.now) before.b.rest.items ≡ no_rows = elim (c.in-None.ensures.steps) [
      | inl w ↦ ap (λ ks. keyed_rows (map key_of ks) before.b.rest.items) (nil_from_length _ w.1.0)
      | inr w ↦ ap (keyed_rows (map key_of before.a.rest.now)) (nil_from_length _ (sym before.b.rest.ok.0 ∙ w.1.0)) ∙ no_values before.a.rest.now
    ] in
    let all : rows_of c.loop-key.rows.items ≡ keyed_rows c.args.keys.now c.args.values.items = sym (then_none c.loop-key.rows.items) ∙ sym (ap (rows_then c.loop-key.rows.items) end) ∙ c.loop-key.invariant.made in
    rw all at c.in-Ok.ensures.ok

pub unreachable-requires : goal.unreachable-requires
unreachable-requires c =
    let rows = c.loop-key.rows.items in
    let refused : RefusesRows rows (DuplicateKey c.in-Err-DuplicateKey.field-0-0) = subst (λ r. RefusesRows rows r) c.in-Err-DuplicateKey.field-0-is c.in-Err-DuplicateKey.ensures.refused in
    no_repeated rows _ c.args.keys.now c.in-Err-DuplicateKey.field-0-0 c.loop-key.invariant.under c.all.ensures.different refused
