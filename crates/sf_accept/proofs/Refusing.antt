-- Texts that are refused or accepted.
use Rattle.std.proofs.Common.{◌≡◌, ◌≢◌, ℕ, List, sym, subst}
use Rattle.sf_refusal.specs.declared.refusal.Refusal.{Refusal}
use Rattle.sf_refusal.specs.declared.refusal.Refusal.TheVariants.{Broken, Memory}
use Rattle.sf_refusal.specs.Refusals.{OrMemory, because, no_memory}
use Rattle.sf_refusal.proofs.Explained.{explained}
use Rattle.sf_func.specs.Registries.{TypesByName}
use Rattle.sf_term.specs.declared.program.Program.{Program}
use Rattle.sf_term.specs.Trees.{Templates}
use Rattle.sf_term.specs.Arena.{templates_of}
use Rattle.sf_mean.specs.Typing.{Accepted}
use Rattle.sf_check.specs.declared.checked.Checked.{Checked}
use Rattle.sf_check.specs.Accepting.{accepted_program}
use Rattle.sf_check.specs.Refusing.{RefusesNetwork}
use Rattle.sf_text.specs.Spelling.{IsNetworkText}
use Rattle.sf_text.specs.Placing.{IsPlacedIn}
use Rattle.sf_text.specs.Stopping.{BreaksText}
use Rattle.sf_accept.specs.Refusals.{IsAcceptedText, IsNoNetwork, IsRefusedFor, no_network, not_accepted}

-- bytes that reading refuses are no network's text
pub no_text : (net : List ℕ) (r : Refusal) → OrMemory (BreaksText net) r → (r ≢ Memory → (p : Templates) → IsNetworkText net p → ⊥) → OrMemory (IsNoNetwork net) r
no_text net (Broken b) why none =
    let known : Broken b ≢ Memory = λ q. cc in
    because (record { none = none known; why = explained why })
no_text net Memory why none = no_memory

-- so they are refused
pub text_refused : (fs : TypesByName) (net : List ℕ) (r : Refusal) → OrMemory (BreaksText net) r → (r ≢ Memory → (p : Templates) → IsNetworkText net p → ⊥) → OrMemory (IsRefusedFor fs net) r
text_refused fs net (Broken b) why none = because (no_network (explained (no_text net (Broken b) why none)))
text_refused fs net Memory why none = no_memory

-- a network that is refused is not accepted
pub check_refused : (fs : TypesByName) (net : List ℕ) (p : Program) (r : Refusal) → IsNetworkText net (templates_of p) → IsPlacedIn net p → OrMemory (RefusesNetwork fs p) r → (Accepted fs (templates_of p) → r ≡ Memory) → OrMemory (IsRefusedFor fs net) r
check_refused fs net p (Broken b) spelled placed why only =
    let none : Accepted fs (templates_of p) → ⊥ = λ accepted. let e = only accepted in cc in
    because (not_accepted (record { program = p; spelled = spelled; placed = placed; none = none; why = explained why }))
check_refused fs net p Memory spelled placed why only = no_memory

-- a network that is accepted is that of the text
pub reads : {fs : TypesByName} {net : List ℕ} (p : Program) (c : Checked) → IsNetworkText net (templates_of p) → Accepted fs (templates_of p) → accepted_program c ≡ p → IsAcceptedText fs net (templates_of (accepted_program c))
reads {fs = fs} {net = net} p c spelled accepted same = record {
  text = subst (λ x. IsNetworkText net (templates_of x)) (sym same) spelled;
  accepted = subst (λ x. Accepted fs (templates_of x)) (sym same) accepted;
}
