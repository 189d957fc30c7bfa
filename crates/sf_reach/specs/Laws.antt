-- What holds of endless calls.
use Rattle.std.specs.Prelude.{◌≡◌, ◌⊎◌}
use Rattle.sf_refusal.specs.declared.spot.Spot.{Spot}
use Rattle.sf_term.specs.declared.program.Program.{Program}
use Rattle.sf_reach.specs.Names.{HasDifferentNames}
use Rattle.sf_reach.specs.Endless.{IsFirstEndlessCall, ReachesItselfNowhere}

-- The first endless call of a program stands at one spot.
abbrev pub FirstEndlessCallIsOne : Type 0
FirstEndlessCallIsOne = (p : Program) (r s : Spot) → IsFirstEndlessCall p r → IsFirstEndlessCall p s → r ≡ s

-- A program has a first endless call, or no template of it reaches itself.
abbrev pub EndlessOrNot : Type 0
EndlessOrNot = (p : Program) → ((s : Spot) × IsFirstEndlessCall p s) ⊎ ReachesItselfNowhere p

-- Where the names of templates are different, it is not both.
abbrev pub NotEndlessAndNot : Type 0
NotEndlessAndNot = (p : Program) (s : Spot) → HasDifferentNames p → IsFirstEndlessCall p s → ¬ ReachesItselfNowhere p
