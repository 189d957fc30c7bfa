use Rattle.std.proofs.Common.{subst}
use Rattle.std.proofs.lemmas.Option.{same_Some}
use Rattle.sf_value.specs.Values.{Data, HasKind, int_kind}
use Rattle.sf_func.proofs.Typed.{boxed_keeps}
use Rattle.sf_tests.proofs.faulting.a_resumed_process_calls_a_function_without_memory.OwnLists.{own-1}
use Rattle.sf_tests.proofs.faulting.a_resumed_process_calls_a_function_without_memory.Goals as goal

pub add-requires : goal.add-requires
add-requires g c = boxed_keeps (λ v. (own-1.entry v).1.answers) c.into_dyn_box.ensures.0 _ c.int.ensures c.int-2.ensures (λ i. λ d a h is. subst (λ (d : Data). HasKind d int_kind) (same_Some _ _ is) h)
