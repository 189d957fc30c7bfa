use Rattle.std.proofs.Common.{codes, refl, ◌∙◌}
use Rattle.sf_func.specs.Numbers.{on_number, on_numbers}
use Rattle.sf_func.specs.Arithmetic.{absolute, sign_number, greater_number, less_number}
use Rattle.sf_func.proofs.Adapters.{int1_keeps, int2_keeps}
use Rattle.sf_func.proofs.Typed.{boxed_keeps}
use Rattle.sf_player.proofs.Known.{Keeps-same}
use Rattle.sfplay.proofs.Offering.{types_more, still, boxed_answers, offered_checks, offered_plays}
use Rattle.sfplay.proofs.task.perform.OwnLists.{own-1}
use Rattle.sfplay.proofs.task.perform.Goals as goal

pub offered-requires : goal.offered-requires
offered-requires g c = boxed_keeps (λ v. (own-1.entry v).1.answers) c.into_dyn_box.ensures.0 _ c.int.ensures c.int-2.ensures (λ i. int1_keeps _)

pub offered-requires-2 : goal.offered-requires-2
offered-requires-2 g c = boxed_keeps (λ v. (own-1.entry v).1.answers) c.into_dyn_box-in_ok-new-2.ensures.0 _ c.int-3.ensures c.int-4.ensures (λ i. int1_keeps _)

pub offered-requires-3 : goal.offered-requires-3
offered-requires-3 g c = boxed_keeps (λ v. (own-1.entry v).1.answers) c.into_dyn_box-in_ok-new-3.ensures.0 _ c.in_ok-from.ensures c.int-5.ensures (λ i. int2_keeps _)

pub offered-requires-4 : goal.offered-requires-4
offered-requires-4 g c = boxed_keeps (λ v. (own-1.entry v).1.answers) c.into_dyn_box-in_ok-new-4.ensures.0 _ c.in_ok-from-2.ensures c.int-6.ensures (λ i. int2_keeps _)

pub returns-in-Check-clause-done : goal.returns-in-Check-clause-done
returns-in-Check-clause-done g c =
    rw c.in-Check.is (
      Keeps-same _,
      offered_checks c.check.ensures.checked
          (types_more (codes "min") (types_more (codes "max") (types_more (codes "sign") (types_more (codes "abs") c.new-functions.ensures.types c.in_ok-functions.ensures.types c.int.ensures c.int-2.ensures) c.in_ok-functions-2.ensures.types c.int-3.ensures c.int-4.ensures) c.in_ok-functions-3.ensures.types c.in_ok-from.ensures c.int-5.ensures) c.in_ok-functions-4.ensures.types c.in_ok-from-2.ensures c.int-6.ensures),
    )

pub returns-in-Dump-clause-done : goal.returns-in-Dump-clause-done
returns-in-Dump-clause-done g c = rw c.in-Dump.is (Keeps-same _, c.dump.ensures.dumped)

pub returns-in-Play-clause-done : goal.returns-in-Play-clause-done
returns-in-Play-clause-done g c =
    rw c.in-Play.is (offered_plays c.play.ensures.told
    (types_more (codes "min") (types_more (codes "max") (types_more (codes "sign") (types_more (codes "abs") c.new-functions.ensures.types c.in_ok-functions.ensures.types c.int.ensures c.int-2.ensures) c.in_ok-functions-2.ensures.types c.int-3.ensures c.int-4.ensures) c.in_ok-functions-3.ensures.types c.in_ok-from.ensures c.int-5.ensures) c.in_ok-functions-4.ensures.types c.in_ok-from-2.ensures c.int-6.ensures)
    (record {
      abs =
          still (codes "abs") (codes "min") refl c.in_ok-functions-4.ensures.others
          (still (codes "abs") (codes "max") refl c.in_ok-functions-3.ensures.others
          (still (codes "abs") (codes "sign") refl c.in_ok-functions-2.ensures.others
          (λ d. c.in_ok-functions.ensures.answers d ∙ boxed_answers (λ v. (own-1.entry v).1.answers) c.into_dyn_box.ensures.0 _ (on_number absolute) (λ i d. refl) d)));
      sign =
          still (codes "sign") (codes "min") refl c.in_ok-functions-4.ensures.others
          (still (codes "sign") (codes "max") refl c.in_ok-functions-3.ensures.others
          (λ d. c.in_ok-functions-2.ensures.answers d ∙ boxed_answers (λ v. (own-1.entry v).1.answers) c.into_dyn_box-in_ok-new-2.ensures.0 _ (on_number sign_number) (λ i d. refl) d));
      max =
          still (codes "max") (codes "min") refl c.in_ok-functions-4.ensures.others
          (λ d. c.in_ok-functions-3.ensures.answers d ∙ boxed_answers (λ v. (own-1.entry v).1.answers) c.into_dyn_box-in_ok-new-3.ensures.0 _ (on_numbers greater_number) (λ i d. refl) d);
      min = λ d. c.in_ok-functions-4.ensures.answers d ∙ boxed_answers (λ v. (own-1.entry v).1.answers) c.into_dyn_box-in_ok-new-4.ensures.0 _ (on_numbers less_number) (λ i d. refl) d;
    }))
