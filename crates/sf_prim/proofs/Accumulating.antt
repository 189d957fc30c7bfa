-- What a sample of an accumulation gives and keeps, by what its function makes.
use Rattle.std.proofs.Common.{◌≡◌, Option, Result, Ok, Err, ap, sym, ◌∙◌, subst}
use Rattle.std.specs.Prelude.{IsErrAnd}
use Rattle.sf_value.specs.Values.{Data}
use Rattle.sf_expr.specs.Expressions.{Function}
use Rattle.sf_expr.specs.Evaluation.{Scope, answer, ◌>>=◌}
use Rattle.sf_operator.specs.Answers.{Evaluates}
use Rattle.sf_operator.specs.declared.fault.EvalFault.{EvalFault}
use Rattle.sf_operator.specs.declared.fault.EvalFault.TheVariants.{Value, Memory}
use Rattle.sf_term.specs.declared.form.Accumulation.{Accumulation}
use Rattle.sf_mean.specs.Formulas.{next_value}
use Rattle.sf_delay.specs.Gifts.{gift}
use Rattle.sf_prim.specs.Remembering.{coming, displayed, retained, shown_after, carried_after}

-- what it gives and keeps, where its function makes a value
pub shown_of : (k : Accumulation) (f : Function) (s : Scope) (w x u v : Data) (o : Option Data) → o ≡ coming k x → next_value f s w o ≡ answer u → v ≡ displayed k (coming k x) u → shown_after k f s w x ≡ answer v
shown_of k f s w x u v o c m d = ap (λ r. r >>= λ u. answer (displayed k (coming k x) u)) (ap (next_value f s w) (sym c) ∙ m) ∙ ap answer (sym d)

pub carried_of : (k : Accumulation) (f : Function) (s : Scope) (w x u v : Data) (o : Option Data) → o ≡ coming k x → next_value f s w o ≡ answer u → v ≡ retained k x u → carried_after k f s w x ≡ answer v
carried_of k f s w x u v o c m d = ap (λ r. r >>= λ u. answer (retained k x u)) (ap (next_value f s w) (sym c) ∙ m) ∙ ap answer (sym d)

-- the fault of its function is its own
pub shown_fault : {A : Type 0} (k : Accumulation) (f : Function) (s : Scope) (w x v : Data) (o : Option Data) (e : EvalFault) (r : Result A EvalFault)
    → IsErrAnd r (λ g. g ≡ e) → o ≡ coming k x → Evaluates (Err e) (next_value f s w o) → Evaluates (gift r v) (shown_after k f s w x)
shown_fault k f s w x v o e (Ok a) same c h = absurd same
shown_fault k f s w x v o e (Err g) same c h = subst (λ (g : EvalFault). Evaluates (Err g) (shown_after k f s w x)) (sym same) (each e h)
  where
    each : (e : EvalFault) → Evaluates (Err e) (next_value f s w o) → Evaluates (Err e) (shown_after k f s w x)
    each (Value y) h = ap (λ r. r >>= λ u. answer (displayed k (coming k x) u)) (ap (next_value f s w) (sym c) ∙ h)
    each Memory h = h
