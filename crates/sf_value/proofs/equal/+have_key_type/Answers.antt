use Rattle.sf_value.specs.Values.{HasKeyKind}
use Rattle.sf_value.specs.View.{key_of}
use Rattle.sf_value.specs.KindView.{key_kind_of}
use Rattle.sf_value.proofs.Comparing.{all_of, all_of_none, not_first}
use Rattle.sf_value.proofs.equal.+have_key_type.Goals as goal

pub returns-in-empty : goal.returns-in-empty
returns-in-empty t c = all_of_none (λ k. HasKeyKind (key_of k) (key_kind_of c.args.ty)) _ c.in-empty.len_below

pub returns-then-has_key_type : goal.returns-then-has_key_type
returns-then-has_key_type t c =
    all_of (λ k. HasKeyKind (key_of k) (key_kind_of c.args.ty)) _ c.in-len1-up.len_at_least _ _ c.key-item.is (c.has_key_type.ensures.0 c.if-has_key_type.true) c.have_key_type.ensures

pub returns-else-has_key_type : goal.returns-else-has_key_type
returns-else-has_key_type t c = not_first (λ k. HasKeyKind (key_of k) (key_kind_of c.args.ty)) _ c.in-len1-up.len_at_least _ _ c.key-item.is c.if-has_key_type.false c.has_key_type.ensures
