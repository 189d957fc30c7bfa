-- What stands under a name.
use Rattle.std.proofs.Common.{◌≡◌, Bool, true, false, IsTrue, [], Option, None, Result, Ok, Err, refl, sym, ap, ◌∙◌, subst}
use Rattle.std.specs.Prelude.{IfOk}
use Rattle.sf_coincidence.proofs.Same.{alike_itself}
use Rattle.sf_value.specs.Values.{Name}
use Rattle.sf_term.specs.declared.form.Bare.TheVariants.{Identity}
use Rattle.sf_term.specs.declared.form.Start.{Start}
use Rattle.sf_term.specs.declared.form.Start.TheVariants.{Run, Fresh}
use Rattle.sf_term.specs.Trees.{bare, primitive}
use Rattle.sf_mean.specs.Lives.{Process, closure, base, empty, passing}
use Rattle.sf_law.specs.declared.node.PlanId.{PlanId}
use Rattle.sf_law.specs.Arena.{plan_tree}
use Rattle.sf_law.specs.Asking.{start_asked}
use Rattle.sf_state.specs.declared.state.State.{State}
use Rattle.sf_state.specs.declared.env.Env.TheVariants.{Empty as SEmpty}
use Rattle.sf_state.specs.declared.env.Handed.{Handed}
use Rattle.sf_state.specs.Standing.{Stands, IsFound, IsProcess, is_closure, is_empty, closed_over}
use Rattle.sf_state.specs.Machine.{Machine}

-- what holds of a result holds where more is asked of it
pub when_ok : {A E : Type 0} {B C : A → Type 0} (r : Result A E) → ((a : A) → B a → C a) → IfOk r B → IfOk r C
when_ok (Ok a) f h = f a h
when_ok (Err e) f h = tt

-- what is handed on under a name that is asked for is asked for itself
pub asked_on : (handed own : Bool) (w : Start) → IsTrue (start_asked handed own w) → IsTrue handed → IsTrue own
asked_on true own Run h k = h
asked_on false own Run h k = absurd cc
asked_on handed own Fresh h k = h

-- and a term asks for no more
pub asked_alone : (handed own : Bool) (w : Start) → IsTrue (start_asked handed own w) → IsTrue (start_asked false own w)
asked_alone handed own Run h = refl
asked_alone handed own Fresh h = h

module _ (μ : Machine) where
  -- the process that was found, or what passes inputs on
  pub passing_process : (x : Name) (r : Option Handed) (a : State) (i : PlanId) (P : Process) → r ≡ None → plan_tree μ.plan i ≡ primitive (bare Identity) → Stands μ a (closure (plan_tree μ.plan i) empty) [] → IsFound μ x r P → Stands μ a P []
  passing_process x r a i P is same A h =
      let none : P ≡ passing = subst (λ r. IsFound μ x r P) is h in
      subst (λ P. Stands μ a P []) (ap (λ t. closure t empty) same ∙ sym none) A

  -- which began as itself
  pub passing_base : (x : Name) (r : Option Handed) (i : PlanId) (P : Process) → r ≡ None → plan_tree μ.plan i ≡ primitive (bare Identity) → IsFound μ x r P → IsProcess μ (closed_over i SEmpty) (base P)
  passing_base x r i P is same h =
      let none : P ≡ passing = subst (λ r. IsFound μ x r P) is h in
      subst (λ P. IsProcess μ (closed_over i SEmpty) P) (ap (λ t. closure t empty) same ∙ ap base (sym none)) (is_closure (alike_itself _) is_empty)
