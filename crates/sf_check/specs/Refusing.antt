-- Why networks are refused.
use Rattle.std.specs.Prelude.{◌≡◌, ◌≢◌, [], Some}
use Rattle.sf_refusal.specs.declared.spot.Spot.{Spot}
use Rattle.sf_refusal.specs.declared.rule.Rule.TheVariants.{DuplicateName, Endless, NoMain}
use Rattle.sf_refusal.specs.declared.refusal.Breach.{Breach}
use Rattle.sf_refusal.specs.Refusals.{first_spot, breach_of}
use Rattle.sf_func.specs.Registries.{TypesByName}
use Rattle.sf_term.specs.declared.program.Program.{Program}
use Rattle.sf_term.specs.Trees.{Template}
use Rattle.sf_term.specs.Arena.{templates_of}
use Rattle.sf_mean.specs.Networks.{main_of}
use Rattle.sf_reach.specs.Endless.{IsFirstEndlessCall, ReachesItselfNowhere}
use Rattle.sf_check.specs.Names.{NamesDiffer, IsFirstNameAgain}
use Rattle.sf_check.specs.Breaking.{AreTyped, IsFirstBreak}

-- no template `main` is without parameters
abbrev pub HasNoMain : Program → Type 0
HasNoMain p = (t : Template) → main_of (templates_of p) ≡ Some t → t.parameters ≢ []

-- With stored functions of these types: names are looked at first, then types, then whether a template reaches itself, then
-- `main`; the first rule that is broken is named at its place. That a template reaches itself is named at the first call that
-- leads back to where it stands, and that there is no `main` at the beginning of the text.
pub data RefusesNetwork (fs : TypesByName) (p : Program) : Breach → Type 0 where
  name_refused : {spot : Spot} → IsFirstNameAgain p spot → RefusesNetwork fs p (breach_of DuplicateName spot)
  type_refused : {b : Breach} → NamesDiffer p → IsFirstBreak fs p b → RefusesNetwork fs p b
  endless_refused : {spot : Spot} → NamesDiffer p → AreTyped fs p → IsFirstEndlessCall p spot → RefusesNetwork fs p (breach_of Endless spot)
  main_missing : NamesDiffer p → AreTyped fs p → ReachesItselfNowhere p → HasNoMain p → RefusesNetwork fs p (breach_of NoMain first_spot)
