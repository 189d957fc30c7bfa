use Rattle.sf_refusal.specs.Refusals.{no_memory}
use Rattle.sf_refusal.proofs.Explained.{refused_on}
use Rattle.sf_accept.proofs.Refusing.{no_text}
use Rattle.sf_accept.proofs.network.dump_text.Goals as goal

pub returns-in_err-program-clause-refused : goal.returns-in_err-program-clause-refused
returns-in_err-program-clause-refused c = refused_on _ _ c.from_residual.ensures.1 (no_text c.args.net.now _ c.in_err-program.ensures.fault c.in_err-program.ensures.refused)

pub returns-in_err-write_network-clause-refused : goal.returns-in_err-write_network-clause-refused
returns-in_err-write_network-clause-refused c = refused_on _ _ c.from_residual-in_err-write_network.ensures.1 no_memory
