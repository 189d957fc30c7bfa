-- Why the bytes of a network's text are refused, and what they are where not.
use Rattle.std.specs.Prelude.{ℕ, List}
use Rattle.sf_refusal.specs.declared.refusal.Breach.{Breach}
use Rattle.sf_func.specs.Registries.{TypesByName}
use Rattle.sf_term.specs.Trees.{Templates}
use Rattle.sf_term.specs.Arena.{templates_of}
use Rattle.sf_term.specs.declared.program.Program.{Program}
use Rattle.sf_mean.specs.Typing.{Accepted}
use Rattle.sf_text.specs.Spelling.{IsNetworkText}
use Rattle.sf_text.specs.Placing.{IsPlacedIn}
use Rattle.sf_text.specs.Stopping.{BreaksText}
use Rattle.sf_check.specs.Refusing.{RefusesNetwork}

-- The bytes are no network's text: reading them stops where they break this rule.
pub record IsNoNetwork (net : List ℕ) (b : Breach) : Type 0 where
  pub none : (p : Templates) → IsNetworkText net p → ⊥
  pub why : BreaksText net b

-- The bytes are the text of a program that is not accepted with stored functions of these types, whose forms stand where
-- they do in the bytes: this is the first rule that it breaks, with its place.
pub record IsNotAccepted (fs : TypesByName) (net : List ℕ) (b : Breach) : Type 0 where
  pub program : Program
  pub spelled : IsNetworkText net (templates_of program)
  pub placed : IsPlacedIn net program
  pub none : Accepted fs (templates_of program) → ⊥
  pub why : RefusesNetwork fs program b

-- Bytes are refused for the rule that they break as a text, or that the program breaks that they are the text of.
pub data IsRefusedFor (fs : TypesByName) (net : List ℕ) : Breach → Type 0 where
  no_network : {b : Breach} → IsNoNetwork net b → IsRefusedFor fs net b
  not_accepted : {b : Breach} → IsNotAccepted fs net b → IsRefusedFor fs net b

-- The bytes are the text of this network, which is accepted with stored functions of these types.
pub record IsAcceptedText (fs : TypesByName) (net : List ℕ) (p : Templates) : Type 0 where
  pub text : IsNetworkText net p
  pub accepted : Accepted fs p
