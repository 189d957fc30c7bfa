use Rattle.std.proofs.Common.{sym, subst, Some, refl}
use Rattle.sf_mean.specs.Typing.{selected_kind}
use Rattle.sf_term.specs.declared.node.Primitive.{Primitive}
use Rattle.sf_term.specs.Arena.{program_expressions}
use Rattle.sf_expr.proofs.Bound.{on_err}
use Rattle.sf_differ.specs.declared.difference.Wanted.TheVariants.{Event}
use Rattle.sf_differ.specs.Wanting.{IsMade}
use Rattle.sf_differ.proofs.Told.{told_as, differs_with}
use Rattle.sf_check.specs.Contexts.{program_in, context_in}
use Rattle.sf_check.specs.Differing.{PrimitiveDiffers, bare_differs, selected_differs}
use Rattle.sf_check.proofs.Apart.{bare_from, bare_under, event_whole}
use Rattle.sf_check.proofs.differing.explain_primitive.Goals as goal

pub returns-in-Bare : goal.returns-in-Bare
returns-in-Bare c =
    on_err c.suited.result
    (λ b h. told_as (λ d k.
    let from = bare_from c.in-Bare.kind (bare_under c.in-Bare.kind c.bare_wanted.ensures k) in
    subst (λ (q : Primitive). PrimitiveDiffers (program_expressions (program_in c.args.context.now)) (context_in c.args.context.now) c.args.spot q c.args.input.now d) (sym c.in-Bare.is) (bare_differs from.0 from.1)) h) c.suited.ensures.err

pub returns-in-Selected : goal.returns-in-Selected
returns-in-Selected c =
    on_err c.suited-in-Selected.result
    (λ b h. told_as (λ d k.
    subst (λ (q : Primitive). PrimitiveDiffers (program_expressions (program_in c.args.context.now)) (context_in c.args.context.now) c.args.spot q c.args.input.now d) (sym c.in-Selected.is)
    (selected_differs (differs_with (λ b. IsMade (selected_kind b)) (Some Event) event_whole (Some Event) refl k))) h) c.suited-in-Selected.ensures.err
