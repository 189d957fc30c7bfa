use Rattle.sf_check.specs.Contexts.{program_in, context_in}
use Rattle.sf_check.specs.Differing.{process_input}
use Rattle.sf_differ.proofs.Told.{room_on, unsaid_on}
use Rattle.sf_check.proofs.Apart.{form_last, exactly_as}
use Rattle.sf_check.proofs.differing.explain_process.Goals as goal

pub returns-in_err-process : goal.returns-in_err-process
returns-in_err-process c = unsaid_on _ _ _ c.from_residual.ensures.1

pub returns-in_err-clone_in : goal.returns-in_err-clone_in
returns-in_err-clone_in c = room_on _ _ c.from_residual-in_err-clone_in.ensures.1

pub returns : goal.returns
returns c =
    form_last (program_in c.args.context.now) (context_in c.args.context.now) c.args.term _ c.args.input.now c.requires.there.1 _ c.spot.ensures _ _
    (λ d k. process_input c.in_ok-process.ensures.found (exactly_as c.in_ok-clone_in.ensures.same k)) c.suited.ensures.err
