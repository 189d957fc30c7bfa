use Rattle.sf_func.proofs.Adapters.{int1_keeps, int2_keeps}
use Rattle.sf_func.proofs.Typed.{boxed_keeps}
use Rattle.sfmeter.proofs.measure.OwnLists.{own-1}
use Rattle.sfmeter.proofs.measure.Goals as goal

pub offered-requires : goal.offered-requires
offered-requires g c = boxed_keeps (λ v. (own-1.entry v).1.answers) c.into_dyn_box.ensures.0 _ c.int.ensures c.int-2.ensures (λ i. int1_keeps _)

pub offered-requires-2 : goal.offered-requires-2
offered-requires-2 g c = boxed_keeps (λ v. (own-1.entry v).1.answers) c.into_dyn_box-in_ok-new-2.ensures.0 _ c.int-3.ensures c.int-4.ensures (λ i. int1_keeps _)

pub offered-requires-3 : goal.offered-requires-3
offered-requires-3 g c = boxed_keeps (λ v. (own-1.entry v).1.answers) c.into_dyn_box-in_ok-new-3.ensures.0 _ c.in_ok-numbers.ensures c.int-5.ensures (λ i. int2_keeps _)

pub offered-requires-4 : goal.offered-requires-4
offered-requires-4 g c = boxed_keeps (λ v. (own-1.entry v).1.answers) c.into_dyn_box-in_ok-new-4.ensures.0 _ c.in_ok-numbers-2.ensures c.int-6.ensures (λ i. int2_keeps _)
