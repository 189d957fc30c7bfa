-- What a call of a plan stands for.
use Rattle.std.proofs.Common.{◌≡◌, ◌∷◌, Option, Some, None, unwrap_or, refl, sym, ◌∙◌, ap, arith}
use Rattle.sf_value.specs.Values.{Name}
use Rattle.sf_func.specs.Registries.{AnswersByName}
use Rattle.sf_expr.specs.Evaluation.{answer}
use Rattle.sf_term.specs.Parameters.{NameKind, Bindings}
use Rattle.sf_term.specs.Trees.{Term, primitive, reference, started, call, Arguments, joined, sided, headed, transformed, switching, continuing, gathered, releasing, editing, staged, Template, template_named}
use Rattle.sf_term.specs.Entries.{identity_term}
use Rattle.sf_mean.specs.Lives.{Environment, empty, running, closure}
use Rattle.sf_mean.specs.Meaning.{argued, process_called}
use Rattle.sf_law.specs.declared.plan.Plan.{Plan}
use Rattle.sf_law.specs.Headers.{PlanHeader, no_header}
use Rattle.sf_law.specs.Entries.{closed_before}
use Rattle.sf_law.specs.Arena.{plan_tree, plan_template, plan_templates, IsCalled}
use Rattle.sf_law.proofs.Extended.{tree_past}

-- a term that is closed before arguments is bound as its closure, whatever it is
pub argued_closed : (φ : AnswersByName) (q : Name × NameKind) (qs : Bindings) (t : Term) (vs : Arguments) (e d : Environment) → argued φ (q ∷ qs) (closed_before t vs) e d ≡ argued φ qs vs e (running q.0 (closure t e) d)
argued_closed φ q qs (primitive p) vs e d = refl
argued_closed φ q qs (reference (started w k)) vs e d = refl
argued_closed φ q qs (reference (call g ws)) vs e d = refl
argued_closed φ q qs (joined j f g) vs e d = refl
argued_closed φ q qs (sided s t) vs e d = refl
argued_closed φ q qs (headed h i t) vs e d = refl
argued_closed φ q qs (transformed f t) vs e d = refl
argued_closed φ q qs (switching w t p u) vs e d = refl
argued_closed φ q qs (continuing w t r k p u) vs e d = refl
argued_closed φ q qs (gathered i) vs e d = refl
argued_closed φ q qs (releasing w i r k p u) vs e d = refl
argued_closed φ q qs (editing w i k p u) vs e d = refl
argued_closed φ q qs (staged x f g) vs e d = refl

-- the body of what stands for a template that isn't there passes its inputs on
pub absent_passes : (p : Plan) → plan_tree p no_header.body ≡ identity_term
absent_passes p = tree_past p no_header.body (omega (arith, p.nodes.ok.0, p.nodes.ok.1, p.nodes.small))

-- so all arguments make of it what passes its inputs on
passes_on : (φ : AnswersByName) (p : Plan) (vs : Arguments) (e : Environment) → process_called φ None vs e ≡ process_called φ (Some (plan_template p no_header)) vs e
passes_on φ p vs e = ap (λ t. answer (closure t empty)) (sym (absent_passes p))

-- what is called by a name makes of arguments what the first template of that name makes of them
pub called : (φ : AnswersByName) (p : Plan) (x : Name) (h : PlanHeader) → IsCalled p x h → (vs : Arguments) (e : Environment) → process_called φ (template_named x (plan_templates p)) vs e ≡ process_called φ (Some (plan_template p h)) vs e
called φ p x h is vs e = by (template_named x (plan_templates p)) is
  where
    by : (o : Option Template) → plan_template p h ≡ unwrap_or o (plan_template p no_header) → process_called φ o vs e ≡ process_called φ (Some (plan_template p h)) vs e
    by (Some t) same = ap (λ u. process_called φ (Some u) vs e) (sym same)
    by None same = passes_on φ p vs e ∙ ap (λ u. process_called φ (Some u) vs e) (sym same)
