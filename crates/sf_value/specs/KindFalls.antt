-- Each type inside a type is made of fewer types.
use Rattle.std.specs.Prelude.{◌≤◌, max}
use Rattle.std.proofs.Common.{arith}
use Rattle.sf_value.specs.Values.{nodes}
use Rattle.sf_value.specs.KindView.{kind_of}
use Rattle.sf_value.specs.declared.ty.TyForm.{TyForm}
use Rattle.sf_value.specs.declared.ty.TyForm.TheVariants.{Unit, Bool, Int, Text, Pair, Event, Table}
use Rattle.sf_value.specs.declared.ty.Ty.TheDeep.{deep-TyForm}

pub deep_le-nodes : (f : TyForm) → max (deep-TyForm f) 0 ≤ nodes (kind_of f)
deep_le-nodes Unit = omega arith
deep_le-nodes Bool = omega arith
deep_le-nodes Int = omega arith
deep_le-nodes Text = omega arith
deep_le-nodes (Pair t u) = omega arith
deep_le-nodes (Event t) = omega arith
deep_le-nodes (Table k t) = omega arith
