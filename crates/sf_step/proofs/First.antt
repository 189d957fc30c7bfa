-- The first sample of a primitive.
use Rattle.std.proofs.Common.{◌≡◌, ℕ, [], ◌∷◌, Option, Some, None, Result, Ok, Err, sym, subst, ap, ◌∙◌}
use Rattle.std.specs.Option.{unwrap_or}
use Rattle.std.specs.declared.alloc.Global.{Global}
use Rattle.std.specs.declared.rc.Rc.{Rc}
use Rattle.sf_func.specs.Registries.{AnswersByName}
use Rattle.sf_expr.specs.declared.exprs.Exprs.{Exprs}
use Rattle.sf_code.specs.declared.open.OpenCode.{OpenCode}
use Rattle.sf_value.specs.Values.{Data}
use Rattle.sf_value.specs.declared.fault.Fault.{Fault}
use Rattle.sf_operator.specs.declared.fault.EvalFault.{EvalFault}
use Rattle.sf_code.specs.Names.{ValuesByName, scope_with}
use Rattle.sf_term.specs.Trees.{Term}
use Rattle.sf_mean.specs.Lives.{Step, step, Life, Process, closure}
use Rattle.sf_mean.specs.Meaning.{Gives}
use Rattle.sf_law.specs.declared.node.PlanPrimitive.{PlanPrimitive}
use Rattle.sf_law.specs.declared.node.PlanPrimitive.TheVariants as primitives
use Rattle.sf_law.specs.declared.node.PlanNode.TheVariants.{Primitive as NPrimitive}
use Rattle.sf_law.specs.Entries.{primitive_over, IsCodedPrimitive}
use Rattle.sf_law.specs.Arena.{plan_expressions, arrow_code, BuildsPlan}
use Rattle.sf_prim.specs.declared.prim_state.PrimState.{PrimState}
use Rattle.sf_prim.specs.declared.prim_state.PrimState.TheVariants.{Arrow}
use Rattle.sf_prim.specs.Remembering.{Begins, begins, remembers_function}
use Rattle.sf_prim.proofs.Primitives.{bare_function}
use Rattle.sf_state.specs.declared.state.State.{State}
use Rattle.sf_state.specs.declared.state.State.TheVariants.{Primitive as SPrimitive}
use Rattle.sf_state.specs.declared.env.Env.{Env}
use Rattle.sf_state.specs.Names.{values_around}
use Rattle.sf_state.specs.Standing.{Recalls, Stands, itself, recalling}
use Rattle.sf_state.specs.Machine.{Machine, machine_network}
use Rattle.sf_meter.specs.declared.meter.Meter.{Meter}
use Rattle.sf_meter.specs.Meters.{entered_of, meter_height, left_or}
use Rattle.sf_begin.specs.Contexts.{sample_fault}
use Rattle.sf_step.specs.Answering.{Rel, StopsFor, Answers, answers, fails, PrimSteps, FirstSteps}
use Rattle.sf_begin.proofs.Begins.{first_recalls, open_prim_fails}
use Rattle.sf_step.proofs.Costs.{open_stops}

-- `arr` of a function without names around it begins as its code
pub arrow_begins : (values : ValuesByName) (φ : AnswersByName) (x : Exprs) (q : PlanPrimitive) (c : Rc OpenCode Global) → arrow_code q ≡ Some c → c.value.around ≡ None → IsCodedPrimitive x q → Begins (scope_with values φ) (primitive_over x q) (Ok (Arrow c))
arrow_begins values φ x (primitives.Arrow f d) c is none coded =
    let same : d ≡ c = ap (λ (o : Option (Rc OpenCode Global)). unwrap_or o c) is in
    begins (remembers_function (bare_function c d (ap (λ (a : Rc OpenCode Global). a.value) (sym same)) (ap (λ (a : Rc OpenCode Global). a.value.around) same ∙ none) coded))
arrow_begins values φ x (primitives.Bare k) c is none coded = absurd cc
arrow_begins values φ x (primitives.Never n) c is none coded = absurd cc
arrow_begins values φ x (primitives.WithValue k e d) c is none coded = absurd cc
arrow_begins values φ x (primitives.Timed k time e d) c is none coded = absurd cc
arrow_begins values φ x (primitives.Selected k n) c is none coded = absurd cc
arrow_begins values φ x (primitives.Fused r) c is none coded = absurd cc
arrow_begins values φ x (primitives.Accumulated k e d f b) c is none coded = absurd cc

module _ (μ : Machine) where
  -- a primitive's answer is its state's
  pub recalled : {A E : Type 0} {P : Process} {s : Step} {L : Life} {R : Rel} {m n : Meter} {depth : ℕ} (i : PrimState) (v : Data) (r : Result A E) (f : Fault)
      → Answers {A = PrimState × Data} (λ y. y.1) (λ y. Recalls μ y.0 P (s ∷ L)) R (left_or r (i, v) f) m n depth
      → Answers {A = State × Data} (λ y. y.1) (λ y. Stands μ y.0 P (s ∷ L)) R (left_or r (SPrimitive i, v) f) m n depth
  recalled i v (Ok u) f (answers G S K) = answers G S (itself (recalling K))
  recalled i v (Err e) f (fails h) = fails h

  module _ (q : PlanPrimitive) (t : Term) (names : Env) where
    pub first_steps : {A E : Type 0} {n n' : Meter} (i i' : PrimState) (s : Step) (v : Data) (r : Result A E) (f : Fault)
        → BuildsPlan μ.plan (NPrimitive q) t → (IsCodedPrimitive (plan_expressions μ.plan) q → Begins (scope_with (values_around μ.plan names) μ.answers) (primitive_over (plan_expressions μ.plan) q) (Ok i))
        → PrimSteps μ i s (left_or r (i', v) f) n n' → FirstSteps μ t names s (left_or r (SPrimitive i', v) f) n n'
    first_steps i i' s v r f B h hs inside m depth T e N = recalled i' v r f (hs m depth inside T (closure t e) [] (first_recalls μ q t names i B h e N))

    pub first_fails : {n n' : Meter} (f : EvalFault) (g : Fault) (d : ℕ) (x : Data) → g ≡ sample_fault f → entered_of n' ≡ entered_of n → meter_height n' ≡ meter_height n
        → BuildsPlan μ.plan (NPrimitive q) t → (IsCodedPrimitive (plan_expressions μ.plan) q → Begins (scope_with (values_around μ.plan names) μ.answers) (primitive_over (plan_expressions μ.plan) q) (Err f))
        → FirstSteps μ t names (step d x) (Err g) n n'
    first_fails {n' = n'} f g d x eg en hn B h inside m depth T e N =
        fails (subst (λ (g : Fault). StopsFor (Gives (machine_network μ) (closure t e) (step d x ∷ [])) g m n' depth) (sym eg) (open_stops μ T en hn d (open_prim_fails μ q t names f B h x e N)))
