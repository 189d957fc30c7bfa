use Rattle.sf_func.proofs.Adapters.{int1_keeps}
use Rattle.sf_func.proofs.Typed.{boxed_keeps}
use Rattle.sf_tests.proofs.calling.a_network_calls_a_function_with_a_bound.OwnLists.{own-1}
use Rattle.sf_tests.proofs.calling.a_network_calls_a_function_with_a_bound.Goals as goal

pub add-requires : goal.add-requires
add-requires g c = boxed_keeps (λ v. (own-1.entry v).1.answers) c.into_dyn_box.ensures.0 _ c.int.ensures c.int-2.ensures (λ i. int1_keeps _)
