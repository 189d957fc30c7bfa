-- What primitives and probes answer.
use Rattle.std.proofs.Common.{◌≡◌, ℕ, [], ◌∷◌, ◌++◌, Ok, Err, refl, sym, ap, ◌∙◌, subst}
use mathlib.Core.Path.{ap₂}
use Rattle.std.specs.Prelude.{String, string_bytes}
use Rattle.std.specs.declared.rc.Rc.{Rc}
use Rattle.std.specs.declared.alloc.Global.{Global}
use Rattle.sf_value.specs.Values.{Data}
use Rattle.sf_value.specs.declared.fault.ValueFault.{ValueFault}
use Rattle.sf_value.specs.declared.fault.Fault.{Fault}
use Rattle.sf_expr.specs.Evaluation.{Scope, scope_functions, answer, failed}
use Rattle.sf_operator.specs.declared.fault.EvalFault.{EvalFault}
use Rattle.sf_operator.specs.declared.fault.EvalFault.TheVariants.{Value as EValue, Memory as EMemory}
use Rattle.sf_term.specs.Trees.{Primitive, bare, probe, never, with_value, timed, selected, arrow, accumulated, fused, primitive}
use Rattle.sf_mean.specs.Lives.{Step, step, Life, closure, scope_around}
use Rattle.sf_mean.specs.Formulas.{formula}
use Rattle.sf_mean.specs.Meaning.{Network, gave, faulted, recorded, as_outcome, one_term, nothing_made, Gives, gives, and_gave, of_form, Form, of_primitive}
use Rattle.sf_prim.specs.declared.prim_state.PrimState.{PrimState}
use Rattle.sf_prim.specs.Remembering.{Remembers, GoesOn, goes_on_with_fault, goes_on}
use Rattle.sf_state.specs.declared.state.Live.TheVariants.{Probe as LProbe}
use Rattle.sf_state.specs.Standing.{recalls, settles, ready, lives_probe}
use Rattle.sf_state.specs.Machine.{Machine, machine_network}
use Rattle.sf_state.proofs.Scopes.{functions_around}
use Rattle.sf_meter.specs.declared.meter.Meter.{Meter}
use Rattle.sf_meter.specs.Meters.{entered_of, meter_height, readings}
use Rattle.sf_begin.specs.Contexts.{sample_fault}
use Rattle.sf_step.specs.Answering.{StopsFor, faults, answers, fails, PrimSteps, LiveSteps}
use Rattle.sf_step.proofs.Costs.{one_spent, probe_spent, ticked_within, early_memory}

module _ (μ : Machine) where
  abbrev net : Network
  net = machine_network μ

  goes_on_parts : {q : Primitive} {scope : Scope} {s : Step} {L : Life} {i : PrimState} {v : Data} → GoesOn q scope s L i (Ok v) → (formula q scope s L ≡ answer v) × Remembers i q scope (s ∷ L)
  goes_on_parts (goes_on h k) = (h, k)

  goes_on_fault : {q : Primitive} {scope : Scope} {s : Step} {L : Life} {i : PrimState} {x : ValueFault} → GoesOn q scope s L i (Err (EValue x)) → formula q scope s L ≡ failed x
  goes_on_fault (goes_on_with_fault h) = h

  -- a probe gives its input, and records it
  pub probe_steps : (r r' : Rc (String Global) Global) (d : ℕ) (x y : Data) (n n' : Meter) (inside : ℕ) → r'.value ≡ r.value → y ≡ x → entered_of n' ≡ entered_of n → meter_height n' ≡ meter_height n → readings n' ≡ readings n ++ (string_bytes r'.value, y) ∷ []
      → LiveSteps μ (LProbe r) (step d x) (Ok (LProbe r, x)) n n' inside
  probe_steps r r' d x y n n' inside named same en hn rn m depth t P L (ready {m = made} h O (lives_probe {e = e})) =
      let name = string_bytes r.value in
      let F : Form net (primitive (probe name)) e made (step d x) L (gave x ((name, x) ∷ [])) one_term = of_primitive refl in
      let record_is = rn ∙ ap₂ (λ (s : String Global) y. readings n ++ (string_bytes s, y) ∷ []) named same in
      answers (gives O (of_form h F)) (probe_spent t en hn record_is) (settles (ready h (and_gave O (of_form h F)) lives_probe))

  -- what a primitive's state stands for records nothing
  unrecorded : {i : PrimState} {scope : Scope} {L : Life} (q : Primitive) (s : Step) → Remembers i q scope L → recorded q s ≡ []
  unrecorded (bare k) s K = refl
  unrecorded (probe x) s K = elim K [ ]
  unrecorded (never t) s K = refl
  unrecorded (with_value k e) s K = refl
  unrecorded (timed k q e) s K = refl
  unrecorded (selected k n) s K = refl
  unrecorded (arrow f) s K = refl
  unrecorded (accumulated k e f) s K = refl
  unrecorded (fused f) s K = refl

  module _ (i i' : PrimState) (s : Step) (n : Meter) where
    pub prim_steps : (v : Data) → ((q : Primitive) (scope : Scope) (L : Life) → scope_functions scope ≡ μ.answers → Remembers i q scope L → GoesOn q scope s L i' (Ok v)) → PrimSteps μ i s (Ok (i', v)) n n
    prim_steps v hs m depth inside t P L (recalls {q = q} {e = e} O K) =
        let w = goes_on_parts (hs q (scope_around μ.answers e) L (functions_around μ.answers e) K) in
        let F : Form net (primitive q) e nothing_made s L (gave v []) one_term = of_primitive (ap₂ as_outcome w.0 (unrecorded q s K)) in
        answers (gives O (of_form refl F)) (one_spent t) (recalls (and_gave O (of_form refl F)) w.1)

    pub prim_fails : (n' : Meter) (g : Fault) (f : EvalFault) → g ≡ sample_fault f → entered_of n' ≡ entered_of n → meter_height n' ≡ meter_height n → ((q : Primitive) (scope : Scope) (L : Life) → scope_functions scope ≡ μ.answers → Remembers i q scope L → GoesOn q scope s L i' (Err f))
        → PrimSteps μ i s (Err g) n n'
    prim_fails n' g (EValue x) e en hn hs m depth inside t P L (recalls {q = q} {e = e'} O K) =
        let w = goes_on_fault (hs q (scope_around μ.answers e') L (functions_around μ.answers e') K) in
        let G : Gives net (closure (primitive q) e') (s ∷ L) (faulted x) one_term = gives O (of_form {m = nothing_made} refl (of_primitive (ap (λ o. as_outcome o (recorded q s)) w))) in
        fails (subst (λ (g : Fault). StopsFor (Gives net (closure (primitive q) e') (s ∷ L)) g m n' depth) (sym e) (faults G ((ticked_within μ t en hn).most _ _ G)))
    prim_fails n' g EMemory e en hn hs m depth inside t P L R = early_memory μ t en hn e
