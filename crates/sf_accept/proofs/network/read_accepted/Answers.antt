use Rattle.sf_refusal.proofs.Explained.{refused_on}
use Rattle.sf_accept.proofs.Refusing.{text_refused, check_refused, reads}
use Rattle.sf_accept.proofs.network.read_accepted.Goals as goal

pub returns-in_err-program-clause-refused : goal.returns-in_err-program-clause-refused
returns-in_err-program-clause-refused g c = refused_on _ _ c.from_residual.ensures.1 (text_refused _ c.args.net.now _ c.in_err-program.ensures.fault c.in_err-program.ensures.refused)

pub returns-clause-refused : goal.returns-clause-refused
returns-clause-refused g c =
    check_refused _ c.args.net.now _ c.in-Err.refusal c.in_ok-program.ensures.read c.in_ok-program.ensures.placed c.in-Err.ensures.refused (λ accepted. c.in-Err.ensures.only accepted)

pub returns-in-Ok-clause-accepted : goal.returns-in-Ok-clause-accepted
returns-in-Ok-clause-accepted g c =
    reads c.in_ok-program.program c.in-Ok.checked c.in_ok-program.ensures.read c.in-Ok.ensures.accepted c.in-Ok.ensures.kept
