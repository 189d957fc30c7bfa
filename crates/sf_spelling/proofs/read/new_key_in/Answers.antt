use Rattle.std.proofs.Common.{refl}
use Rattle.sf_value.specs.Keys.{key_of}
use Rattle.sf_value.specs.KindView.{key_kind_of}
use Rattle.sf_value.specs.Values.{unit_kind}
use Rattle.sf_spelling.specs.Scan.{scanned_value}
use Rattle.sf_spelling.proofs.Failing.{fails_then, fails_on}
use Rattle.sf_spelling.proofs.Loops.{key_again, key_new}
use Rattle.sf_spelling.proofs.read.new_key_in.Goals as goal

pub returns-in_err-key-clause-fails : goal.returns-in_err-key-clause-fails
returns-in_err-key-clause-fails c = fails_on _ _ _ c.from_residual.ensures.1 (fails_then _ _ _ c.in_err-key.ensures)

pub returns-in-Ok-false-clause-fails : goal.returns-in-Ok-false-clause-fails
returns-in-Ok-false-clause-fails c = (
  c.args.bytes.now,
  key_again (key_kind_of c.args.keys) (scanned_value unit_kind) c.args.bytes.now _ _ c.args.seen.now _ c.in_ok-key.ensures c.in-Ok-false.ensures.added c.in-Ok-false.field-0-test,
  refl,
)

pub returns-in-Ok-true-clause-key : goal.returns-in-Ok-true-clause-key
returns-in-Ok-true-clause-key c = (
  key_of c.in_ok-key.key,
  rw c.in-Ok-true.field-0-test at c.in-Ok-true.ensures.keys,
  key_new (key_kind_of c.args.keys) (scanned_value unit_kind) c.args.bytes.now _ _ c.args.seen.now _ c.in_ok-key.ensures c.in-Ok-true.ensures.added c.in-Ok-true.field-0-test,
)
