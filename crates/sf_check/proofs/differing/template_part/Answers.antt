use Rattle.std.proofs.Common.{IfOk, IfErr}
use mathlib.Core.Path.{subst₂}
use Rattle.sf_value.specs.Values.{Kind}
use Rattle.sf_term.specs.declared.node.TermId.{TermId}
use Rattle.sf_term.specs.declared.program.Program.{Program}
use Rattle.sf_term.specs.Arena.{tree}
use Rattle.sf_mean.specs.Contexts.{Context}
use Rattle.sf_mean.specs.Typing.{Takes}
use Rattle.sf_differ.specs.Differences.{Explains}
use Rattle.sf_differ.proofs.Told.{room_on}
use Rattle.sf_check.specs.Contexts.{program_in, context_in}
use Rattle.sf_check.specs.Differing.{TermDiffers}
use Rattle.sf_check.proofs.differing.template_part.Goals as goal

pub returns-in_err-context-clause-err : goal.returns-in_err-context-clause-err
returns-in_err-context-clause-err c = room_on _ _ c.from_residual.ensures.1

pub returns-clause-ok : goal.returns-clause-ok
returns-clause-ok c =
    let context = c.in_ok-context.context in
    let made = c.in_ok-context.ensures in
    let h = c.args.template.now in
    subst₂ (λ (p : Program) (Γ : Context). IfOk c.part.result (λ b. Takes Γ (tree p h.body) h.input b)) made.program made.context
    (subst₂ (λ (t : TermId) (a : Kind). IfOk c.part.result (λ b. Takes (context_in context) (tree (program_in context) t) a b)) c.body.ensures c.input-input.ensures c.part.ensures.ok)

pub returns-clause-err : goal.returns-clause-err
returns-clause-err c =
    let context = c.in_ok-context.context in
    let made = c.in_ok-context.ensures in
    let h = c.args.template.now in
    subst₂ (λ (p : Program) (Γ : Context). IfErr c.part.result (λ e. Explains (TermDiffers p Γ h.body h.input) e)) made.program made.context
    (subst₂ (λ (t : TermId) (a : Kind). IfErr c.part.result (λ e. Explains (TermDiffers (program_in context) (context_in context) t a) e)) c.body.ensures c.input-input.ensures c.part.ensures.err)
