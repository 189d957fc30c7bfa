use Rattle.std.proofs.Common.{◌≡◌, refl, ap, ◌∙◌, ⊎_elim, Err}
use Rattle.sf_value.specs.Values.{Data}
use Rattle.sf_operator.specs.Answers.{Evaluates}
use Rattle.sf_operator.specs.declared.fault.EvalFault.{EvalFault}
use Rattle.sf_operator.specs.declared.fault.EvalFault.TheVariants.{Value, Memory}
use Rattle.sf_expr.specs.Expressions.{Expression}
use Rattle.sf_expr.specs.Evaluation.{answer, ◌>>=◌, eval}
use Rattle.sf_term.specs.declared.form.Heading.{Heading}
use Rattle.sf_term.specs.Trees.{Term, headed}
use Rattle.sf_mean.specs.Lives.{Environment, scope_around}
use Rattle.sf_mean.specs.Meaning.{Network, value_made, make, not_begun}
use Rattle.sf_state.specs.Standing.{wraps_followed}
use Rattle.sf_begin.specs.Contexts.{sample_fault}
use Rattle.sf_begin.specs.Beginning.{makes, makes_fault, makes_nothing, WrapsAtFirst}
use Rattle.sf_begin.proofs.wrapping.with_fault.Goals as goal

-- a head that stands before its part
stands_before : (n : Network) (h : Heading) (i : Expression) (t : Term) (e : Environment) (x : Data) (f : EvalFault) → make n (headed h i t) e x ≡ (eval i (scope_around n.functions e) >>= λ v. answer (value_made v))
    → Evaluates (Err f) (eval i (scope_around n.functions e)) → WrapsAtFirst n (headed h i t) e x t (Err (sample_fault f))
stands_before n h i t e x (Value y) is w = makes_fault (is ∙ ap (λ o. o >>= λ v. answer (value_made v)) w)
stands_before n h i t e x Memory is w = makes_nothing

pub returns-in-LoopPre : goal.returns-in-LoopPre
returns-in-LoopPre c = λ n i t e x w. rw c.fault_of.ensures
    (stands_before n c.args.heading i t e x c.args.fault (⊎_elim (λ h. rw h refl) (⊎_elim (λ h. rw h refl) (λ h. rw h refl)) c.in-LoopPre.is) w)

pub returns-in-Value : goal.returns-in-Value
returns-in-Value c = λ n i t e x w. rw c.in-Followed.is (makes refl (wraps_followed not_begun (rw c.in-Value.is at w)))

pub returns-in-Memory : goal.returns-in-Memory
returns-in-Memory c = λ n i t e x w. makes_nothing
