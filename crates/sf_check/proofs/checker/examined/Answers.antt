use Rattle.std.proofs.Common.{Option, MatchOption, refl, subst}
use Rattle.sf_refusal.specs.declared.spot.Spot.{Spot}
use Rattle.sf_term.specs.declared.program.Program.{Program}
use Rattle.sf_reach.specs.Endless.{IsFirstEndlessCall, ReachesItselfNowhere}
use Rattle.std.proofs.lemmas.Result.{err_from_is_err_and}
use Rattle.sf_func.specs.Signatures.{signatures_in}
use Rattle.sf_refusal.specs.declared.rule.Rule.TheVariants.{Endless, NoMain}
use Rattle.sf_refusal.proofs.Explained.{breaks_at, memory_on}
use Rattle.sf_check.specs.Refusing.{endless_refused, main_missing}
use Rattle.sf_check.proofs.Accepted.{accepted_by, names_refuse, types_refuse}
use Rattle.sf_check.proofs.checker.examined.Goals as goal

-- what is answered of endless calls
abbrev IsAnswer : Program → Option Spot → Type 0
IsAnswer p o = MatchOption o (ReachesItselfNowhere p) (IsFirstEndlessCall p)

pub returns-in_err-names-clause-refused : goal.returns-in_err-names-clause-refused
returns-in_err-names-clause-refused c =
    let p = err_from_is_err_and c.from_residual.result c.from_residual.ensures.1 in
    rw (p.1, p.2) (names_refuse (signatures_in c.args.functions.now) c.args.program.now _ c.in_err-names.ensures.refused)

pub returns-in_err-check_templates-clause-refused : goal.returns-in_err-check_templates-clause-refused
returns-in_err-check_templates-clause-refused c =
    let left = c.from_residual-in_err-check_templates in
    let p = err_from_is_err_and left.result left.ensures.1 in
    rw (p.1, p.2) (types_refuse (signatures_in c.args.functions.now) c.args.program.now _ c.in_ok-names.ensures.different c.in_err-check_templates.ensures.err)

pub returns-in_err-spot-clause-refused : goal.returns-in_err-spot-clause-refused
returns-in_err-spot-clause-refused c = memory_on _ _ c.from_residual-in_err-spot.ensures.1

pub returns-in-Some-clause-refused : goal.returns-in-Some-clause-refused
returns-in-Some-clause-refused c =
    breaks_at Endless c.broken.ensures refl (endless_refused c.in_ok-names.ensures.different c.in_ok-check_templates.ensures.ok (subst (IsAnswer c.args.program.now) c.in-Some.is c.in_ok-spot.ensures))

pub returns-in-Some-place_of_main-clause-accepted : goal.returns-in-Some-place_of_main-clause-accepted
returns-in-Some-place_of_main-clause-accepted c =
    let main = c.in-Some-place_of_main.ensures.bare in
    let nowhere = subst (IsAnswer c.args.program.now) c.in_default.is c.in_ok-spot.ensures in
    accepted_by c.args.program.now (signatures_in c.args.functions.now) main.0 c.in_ok-names.ensures.different c.in_ok-check_templates.ensures.ok nowhere main.1 main.2

pub returns-in-None-clause-refused : goal.returns-in-None-clause-refused
returns-in-None-clause-refused c =
    let nowhere = subst (IsAnswer c.args.program.now) c.in_default.is c.in_ok-spot.ensures in
    breaks_at NoMain c.broken-in-None.ensures refl (main_missing c.in_ok-names.ensures.different c.in_ok-check_templates.ensures.ok nowhere c.in-None.ensures.absent)
