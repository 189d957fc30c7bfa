use Rattle.std.proofs.Common.{refl, sym, subst, ◌∙◌, ap, Some}
use Rattle.sf_operator.specs.Kinds.{Fits}
use Rattle.sf_operator.proofs.SameKinds.{same_is}
use Rattle.sf_operator.proofs.Answering.{mismatched, lacks_memory, none_only, some_only}
use Rattle.sf_operator.proofs.kinds.both.Goals as goal

pub returns-in_err-same : goal.returns-in_err-same
returns-in_err-same c = mismatched _ _ _ c.from_residual.ensures.1 c.in_err-same.ensures.err.1 (none_only c.args.left.now c.args.each.now _ _ refl c.in_err-same.ensures.err.0)

pub returns-in_err-same-2 : goal.returns-in_err-same-2
returns-in_err-same-2 c = mismatched _ _ _ c.from_residual-in_err-same-2.ensures.1 c.in_err-same-2.ensures.err.1 (some_only c.args.left.now c.args.each.now _ _ refl c.in_ok-same.ensures.ok ∙ none_only c.args.right.now c.args.each.now _ _ refl c.in_err-same-2.ensures.err.0)

pub returns-in_err-clone_in : goal.returns-in_err-clone_in
returns-in_err-clone_in c = lacks_memory _ _ _ c.from_residual-in_err-clone_in.ensures.1

pub returns : goal.returns
returns c = (
  some_only c.args.left.now c.args.each.now _ _ refl c.in_ok-same.ensures.ok
      ∙ some_only c.args.right.now c.args.each.now _ _ refl c.in_ok-same-2.ensures.ok
      ∙ ap Some (sym (c.in_ok-clone_in.ensures.same ∙ same_is c.args.left.now c.args.each.now c.in_ok-same.ensures.ok)),
  subst Fits (sym c.in_ok-clone_in.ensures.same) c.in_ok-clone_in.ensures.small,
)
