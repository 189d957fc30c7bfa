-- Why operators make nothing of their operands.
use Rattle.std.specs.Prelude.{◌≡◌, ◌<◌, Option, Some, None, Result, Ok, Err}
use Rattle.sf_value.specs.Values.{Kind, nodes}
use Rattle.sf_refusal.specs.declared.spot.Spot.{Spot}
use Rattle.sf_refusal.specs.declared.rule.Rule.TheVariants.{Mismatch, TypeTooLarge}
use Rattle.sf_refusal.specs.declared.refusal.Breach.{Breach}
use Rattle.sf_refusal.specs.declared.refusal.Refusal.{Refusal}
use Rattle.sf_refusal.specs.Refusals.{breach_of, OrMemory}
use Rattle.sf_operator.specs.Kinds.{Fits}

-- Why there is no type, at a place: none was found, or it would be too large.
abbrev pub KindRefused : Option Kind → Spot → Breach → Type 0
KindRefused None at b = b ≡ breach_of Mismatch at
KindRefused (Some t) at b = (b ≡ breach_of TypeTooLarge at) × (256 < nodes t)

-- the answer for a type, at a place
abbrev pub AnswersKind : Option Kind → Spot → Result Kind Refusal → Type 0
AnswersKind o at (Ok t) = (o ≡ Some t) × Fits t
AnswersKind o at (Err r) = OrMemory (KindRefused o at) r
