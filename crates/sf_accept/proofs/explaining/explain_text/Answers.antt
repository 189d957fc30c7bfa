use Rattle.std.proofs.Common.{Option, IfSome, subst}
use Rattle.sf_refusal.specs.Refusals.{breach_of, no_memory}
use Rattle.sf_refusal.specs.declared.rule.Rule.TheVariants.{Mismatch}
use Rattle.sf_refusal.proofs.Explained.{refused_on}
use Rattle.sf_func.specs.Registries.{registered_types}
use Rattle.sf_differ.specs.declared.difference.Difference.{Difference}
use Rattle.sf_check.specs.Differing.{NetworkDiffers}
use Rattle.sf_check.specs.Refusing.{RefusesNetwork}
use Rattle.sf_accept.proofs.Refusing.{no_text}
use Rattle.sf_accept.proofs.explaining.explain_text.Goals as goal

pub returns-in_err-program-clause-refused : goal.returns-in_err-program-clause-refused
returns-in_err-program-clause-refused g c = refused_on _ _ c.from_residual.ensures.1 (no_text c.args.net.now _ c.in_err-program.ensures.fault c.in_err-program.ensures.refused)

pub returns-in_err-difference-clause-refused : goal.returns-in_err-difference-clause-refused
returns-in_err-difference-clause-refused g c = refused_on _ _ c.from_residual-in_err-difference.ensures.1 no_memory

pub returns-in_err-difference_text-in-Some-clause-refused : goal.returns-in_err-difference_text-in-Some-clause-refused
returns-in_err-difference_text-in-Some-clause-refused g c = refused_on _ _ c.from_residual-in_err-difference_text-in-Some.ensures.1 no_memory

pub returns-in-Some-clause-told : goal.returns-in-Some-clause-told
returns-in-Some-clause-told g c =
    let types = registered_types c.args.functions.now in
    let program = c.in_ok-program.program in
    record {
      program = program;
      spelled = c.in_ok-program.ensures.read;
      placed = c.in_ok-program.ensures.placed;
      difference = c.in-Some.difference;
      differs = subst (λ (o : Option Difference). IfSome o (NetworkDiffers types program)) c.in-Some.is c.in_ok-difference.ensures.differs;
      refused = subst (λ (o : Option Difference). IfSome o (λ d. RefusesNetwork types program (breach_of Mismatch d.spot))) c.in-Some.is c.in_ok-difference.ensures.refused;
      text = c.in_ok-difference_text-in-Some.ensures;
    }
