use Rattle.std.proofs.Common.{ap, arith, Some}
use Rattle.sf_value.specs.Values.{pair_kind, nodes}
use Rattle.sf_value.specs.KindView.{key_kind_of}
use Rattle.sf_operator.specs.Kinds.{found_then, kind_of_keys}
use Rattle.sf_operator.proofs.Answering.{mismatched, none_found, part_refused}
use Rattle.sf_operator.proofs.function_types.row_type.Goals as goal

pub returns-in_err-keys : goal.returns-in_err-keys
returns-in_err-keys c = mismatched _ _ _ c.from_residual.ensures.1 c.in_err-keys.ensures.err.1 (none_found _ c.in_err-keys.ensures.err.0)

pub returns-in_err-row : goal.returns-in_err-row
returns-in_err-row c =
    let row = pair_kind (kind_of_keys (key_kind_of c.in_ok-keys.keys)) c.in_ok-keys.values.now in
    part_refused _ (pair_kind c.type_of_keys.result c.in_ok-keys.values.now) (pair_kind c.args.beside.now row) _ _
    (ap (λ o. found_then o (λ d. Some (pair_kind c.args.beside.now (pair_kind (kind_of_keys d.0) d.1)))) c.in_ok-keys.ensures.ok)
    (omega (arith, ap nodes c.type_of_keys.ensures)) c.from_residual-in_err-row.ensures.1 c.in_err-row.ensures
