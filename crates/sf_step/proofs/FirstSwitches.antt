-- Switches at their first sample: a node that isn't made waits before it, and its parts are not yet born.
use Rattle.std.proofs.Common.{ℕ, [], ◌∷◌, Some, None, Ok, refl}
use Rattle.sf_value.specs.Values.{Data}
use Rattle.sf_coincidence.proofs.Same.{alike_itself}
use Rattle.sf_expr.specs.declared.exprs.PatternId.{PatternId}
use Rattle.sf_expr.specs.Arena.{stored_pattern}
use Rattle.sf_expr.specs.Patterns.{pattern_of}
use Rattle.sf_term.specs.declared.form.Switching.{Switching}
use Rattle.sf_term.specs.declared.form.Switching.TheVariants.{Basic, Recurring}
use Rattle.sf_term.specs.Trees.{Term, switching}
use Rattle.sf_mean.specs.Lives.{Step, closure, Environment}
use Rattle.sf_mean.specs.Meaning.{at_start, not_begun}
use Rattle.sf_law.specs.declared.node.PlanId.{PlanId}
use Rattle.sf_law.specs.declared.node.PlanSwitch.{PlanSwitch}
use Rattle.sf_law.specs.declared.node.PlanContinuation.{PlanContinuation}
use Rattle.sf_law.specs.declared.node.PlanNode.TheVariants.{Switching as NSwitching, Continuation as NContinuation}
use Rattle.sf_law.specs.Arena.{plan_tree, plan_expressions, BuildsPlan, builds_switching, builds_continuing}
use Rattle.sf_state.specs.declared.state.State.{State}
use Rattle.sf_state.specs.declared.state.State.TheVariants.{Unborn}
use Rattle.sf_state.specs.declared.state.Process.{Process}
use Rattle.sf_state.specs.declared.state.Switch.{Switch}
use Rattle.sf_state.specs.declared.state.Continuation.{Continuation}
use Rattle.sf_state.specs.declared.env.Env.{Env}
use Rattle.sf_state.specs.Standing.{IsNames, IsProcess, is_closure, closed_over, StandsItself, itself, unborn, Waits, waits_so, recurs_so, WaitsContinuation, continues_so}
use Rattle.sf_state.specs.Machine.{Machine}
use Rattle.sf_meter.specs.declared.meter.Meter.{Meter}
use Rattle.sf_step.specs.Answering.{answers, TermSteps}
use Rattle.sf_step.specs.Sampling.{Waiting, WaitingSteps}
use Rattle.sf_step.proofs.Parts.{answered}

-- a switch whose first term isn't born
abbrev pub new_switch : PlanSwitch → Env → Switch
new_switch s names = record { form = s.form; running = Unborn (closed_over s.source names); pattern = s.pattern; body = s.body }

-- one that keeps its source, whose observer isn't born either
abbrev pub new_continuation : PlanContinuation → Process → State → Env → Continuation
new_continuation s source before names = record { shown = s.shown; first = s.source; source = Unborn source; before = before; observer = Unborn (closed_over s.observer names); name = s.name; pattern = s.pattern; body = s.body }

module _ (μ : Machine) where
  waits_at_first : (w : Switching) (a b : PlanId) (q : PatternId) (names : Env) (e : Environment) → IsNames μ names e
      → Waits μ (record { form = w; running = Unborn (closed_over a names); pattern = q; body = b }) (closure (switching w (plan_tree μ.plan a) (pattern_of (stored_pattern (plan_expressions μ.plan) q)) (plan_tree μ.plan b)) e) []
  waits_at_first (Basic w) a b q names e N = waits_so refl at_start not_begun (itself (unborn (is_closure (alike_itself _) N)))
  waits_at_first (Recurring w) a b q names e N = recurs_so refl not_begun (itself (unborn (is_closure (alike_itself _) N)))

  -- they wait, before their first sample
  pub switch_waits : (s : PlanSwitch) (t : Term) (names : Env) → BuildsPlan μ.plan (NSwitching s) t → (e : Environment) → IsNames μ names e → Waits μ (new_switch s names) (closure t e) []
  switch_waits s t names builds_switching e N = waits_at_first s.form s.source s.body s.pattern names e N

  pub continuation_waits : (s : PlanContinuation) (t : Term) (source : Process) (before : State) (names : Env) → BuildsPlan μ.plan (NContinuation s) t → (e : Environment) → IsNames μ names e → IsProcess μ source (closure (plan_tree μ.plan s.source) e)
      → WaitsContinuation μ (new_continuation s source before names) (closure t e) []
  continuation_waits s t source before names builds_continuing e N A = continues_so at_start not_begun not_begun (itself (unborn A)) (itself (unborn (is_closure (alike_itself _) N)))

  module _ {A : Type 0} (W : Waiting A) (names : Env) (k : A) (t : Term) (waits : (e : Environment) → IsNames μ names e → W k (closure t e) []) {s : Step} {n n' : Meter} {inside : ℕ} where
    -- its term steps as what takes over
    pub term_over : {b : State} {k' : A} {v : Data} → WaitingSteps μ W names k s (Ok ((Some b, k'), v)) n n' inside → TermSteps μ t names s (Ok (b, v)) n n' inside
    term_over h m depth T e N = let w = answered (h m depth T t e [] N (waits e N)) in answers w.given w.spent w.holds

    -- or as the switch that waits on
    pub term_on : {k' : A} {v : Data} (b : State) → ((e : Environment) → IsNames μ names e → W k' (closure t e) (s ∷ []) → StandsItself μ b (closure t e) (s ∷ []))
        → WaitingSteps μ W names k s (Ok ((None, k'), v)) n n' inside → TermSteps μ t names s (Ok (b, v)) n n' inside
    term_on b is h m depth T e N = let w = answered (h m depth T t e [] N (waits e N)) in answers w.given w.spent (itself (is e N w.holds))
