-- What an actuator does after an engine has answered.
use Rattle.std.proofs.Common.{◌≡◌, Bool, Result, Ok, Err, refl, sym, subst}
use Rattle.std.specs.Result.{IsErrAnd}
use Rattle.sf_engine.specs.declared.engine.Sample.{Sample}
use Rattle.sf_engine.specs.declared.engine.EngineError.{EngineError}
use Rattle.sf_engine.specs.Acting.{Reacts, reacts, does_nothing}

module _ {A : Type 0} {acts : A → Sample → Bool → A → Type 0} {before : A} where
  pub acts_once : {r : Result Sample EngineError} {s : Sample} {answer : Bool} {after : A} → r ≡ Ok s → acts before s answer after → Reacts acts before r (Ok answer) after
  acts_once {answer = answer} {after = after} is acted = subst (λ r. Reacts acts before r (Ok answer) after) (sym is) (reacts acted)

  pub does_not_act : {r : Result Sample EngineError} (q : Result Bool EngineError) {f : EngineError} → r ≡ Err f → IsErrAnd q (λ e. e ≡ f) → Reacts acts before r q before
  does_not_act (Ok answer) is same = absurd same
  does_not_act (Err e) {f = f} is same =
      subst (λ r. Reacts acts before r (Err e) before) (sym is)
      (subst (λ e. Reacts acts before (Err f) (Err e) before) (sym same) (does_nothing refl))
