use Rattle.std.proofs.Common.{refl, sym, ◌∙◌, ap, cond, Some, None}
use Rattle.sf_value.specs.Values.{bool_kind}
use Rattle.sf_operator.specs.Kinds.{is_ordered}
use Rattle.sf_operator.proofs.Answering.{mismatch, mismatched, none_only, some_only, no_order}
use Rattle.sf_operator.proofs.kinds.comparison_type.Goals as goal

pub returns-in_err-same : goal.returns-in_err-same
returns-in_err-same c = mismatched _ _ _ c.from_residual.ensures.1 c.in_err-same.ensures.err.1 (none_only c.args.left.now c.args.right.now _ _ refl c.in_err-same.ensures.err.0)

pub returns-in_default : goal.returns-in_default
returns-in_default c =
    mismatch _ _
    (some_only c.args.left.now c.args.right.now _ _ refl c.in_ok-same.ensures.ok ∙ ap (λ b. cond b (Some bool_kind) None) (ap is_ordered (sym c.form.ensures.kind) ∙ no_order c.form.result.now c.in_default.not-Int c.in_default.not-Text))
    c.broken.ensures
