-- What is told of types that do not fit.
use Rattle.std.specs.Prelude.{◌≡◌, ℕ, Bool, false, ◌||◌, if◌then◌else◌, List, ◌++◌, codes}
use Rattle.sf_refusal.specs.Refusals.{spot_text, breach_of}
use Rattle.sf_refusal.specs.declared.rule.Rule.TheVariants.{Mismatch}
use Rattle.sf_func.specs.Registries.{TypesByName}
use Rattle.sf_differ.specs.declared.difference.Difference.{Difference}
use Rattle.sf_differ.specs.declared.difference.Wanted.{Wanted}
use Rattle.sf_differ.specs.declared.difference.Wanted.TheVariants as wanted
use Rattle.sf_term.specs.Arena.{templates_of}
use Rattle.sf_term.specs.declared.program.Program.{Program}
use Rattle.sf_grammar.specs.declared.ty.Version.{Version}
use Rattle.sf_grammar.specs.declared.ty.Version.TheVariants as versions
use Rattle.sf_grammar.specs.Spelling.{spell_type}
use Rattle.sf_print.specs.Versions.{type_needs_two}
use Rattle.sf_print.specs.Canonical.{text_of}
use Rattle.sf_text.specs.Spelling.{IsNetworkText}
use Rattle.sf_text.specs.Placing.{IsPlacedIn}
use Rattle.sf_check.specs.Refusing.{RefusesNetwork}
use Rattle.sf_check.specs.Differing.{NetworkDiffers}

-- whether a type that is wanted has tables with Text keys
abbrev pub wanted_needs_two : Wanted → Bool
wanted_needs_two (wanted.Exactly t) = type_needs_two t
wanted_needs_two wanted.Pair = false
wanted_needs_two (wanted.PairWith t) = type_needs_two t
wanted_needs_two wanted.Event = false
wanted_needs_two wanted.EventBeside = false
wanted_needs_two wanted.Table = false
wanted_needs_two wanted.Ordered = false

-- the first version that has the types of a difference
abbrev pub version_of_difference : Difference → Version
version_of_difference d = if type_needs_two d.found || wanted_needs_two d.wanted then versions.Two else versions.One

-- which types are wanted, in words
abbrev pub wanted_text : Version → Wanted → List ℕ
wanted_text v (wanted.Exactly t) = text_of (spell_type v t)
wanted_text v wanted.Pair = codes "a pair"
wanted_text v (wanted.PairWith t) = codes "a pair whose second part is " ++ text_of (spell_type v t)
wanted_text v wanted.Event = codes "an event"
wanted_text v wanted.EventBeside = codes "a pair of a value and an event"
wanted_text v wanted.Table = codes "a table"
wanted_text v wanted.Ordered = codes "a number or a text"

-- a difference is told in a version as `LINE:COLUMN found TYPE, wanted WHICH`
abbrev pub told_in : Version → Difference → List ℕ
told_in v d = spot_text d.spot ++ (codes " found " ++ (text_of (spell_type v d.found) ++ (codes ", wanted " ++ wanted_text v d.wanted)))

-- and so it is in the first version that has its types
abbrev pub difference_text : Difference → List ℕ
difference_text d = told_in (version_of_difference d) d

-- The bytes are the text of a program that is refused because types do not fit: this is told of them.
pub record IsExplained (fs : TypesByName) (net told : List ℕ) : Type 0 where
  pub program : Program
  pub spelled : IsNetworkText net (templates_of program)
  pub placed : IsPlacedIn net program
  pub difference : Difference
  pub differs : NetworkDiffers fs program difference
  pub refused : RefusesNetwork fs program (breach_of Mismatch difference.spot)
  pub text : told ≡ difference_text difference
