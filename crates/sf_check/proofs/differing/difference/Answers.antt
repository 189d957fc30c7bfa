use Rattle.std.proofs.Common.{subst}
use Rattle.sf_refusal.specs.declared.rule.Rule.TheVariants.{Mismatch}
use Rattle.sf_refusal.specs.Refusals.{breach_of}
use Rattle.sf_func.specs.Registries.{TypesByName}
use Rattle.sf_differ.proofs.Told.{told_so}
use Rattle.sf_check.specs.Refusing.{RefusesNetwork}
use Rattle.sf_check.specs.Differing.{NetworkDiffers}
use Rattle.sf_check.proofs.Differed.{network_apart}
use Rattle.sf_check.proofs.differing.difference.Goals as goal

pub returns-clause-differs : goal.returns-clause-differs
returns-clause-differs g c =
    subst (λ (fs : TypesByName). NetworkDiffers fs c.args.program.now c.in-Err-Differs.difference) c.in_ok-signatures.ensures (told_so c.in-Err-Differs.field-0-is c.in-Err-Differs.ensures)

pub returns-clause-refused : goal.returns-clause-refused
returns-clause-refused g c =
    subst (λ (fs : TypesByName). RefusesNetwork fs c.args.program.now (breach_of Mismatch c.in-Err-Differs.difference.spot)) c.in_ok-signatures.ensures (network_apart (told_so c.in-Err-Differs.field-0-is c.in-Err-Differs.ensures))
