-- What holds of refusals.
use Rattle.std.specs.Prelude.{◌≡◌, ◌⊎◌, ◌↔◌, ℕ, All, Some, Ok, slice_get}
use Rattle.sf_refusal.specs.declared.refusal.Breach.{Breach}
use Rattle.sf_value.specs.Values.{Name, Kind}
use Rattle.sf_func.specs.Registries.{TypesByName}
use Rattle.sf_expr.specs.Typing.{Fits}
use Rattle.sf_expr.specs.Inference.{NamesFit}
use Rattle.sf_term.specs.declared.node.TermId.{TermId}
use Rattle.sf_term.specs.declared.program.Program.{Program}
use Rattle.sf_term.specs.Trees.{Template}
use Rattle.sf_term.specs.Arena.{tree, templates_of}
use Rattle.sf_mean.specs.Contexts.{NameKind, Signature, signature_of, signature_named, Context, names_of_values, process_named}
use Rattle.sf_mean.specs.Typing.{ParameterFits, Takes, Accepted}
use Rattle.sf_check.specs.Judging.{term_judged}
use Rattle.sf_check.specs.Breaking.{TermBreaks}
use Rattle.sf_check.specs.Refusing.{RefusesNetwork}

-- With stored functions of any types, a network breaks one rule at most first, at one place.
abbrev pub EachNetworkRefusedOnce : Type 0
EachNetworkRefusedOnce = (fs : TypesByName) (p : Program) (b c : Breach) → RefusesNetwork fs p b → RefusesNetwork fs p c → b ≡ c

-- the types in a signature have at most 256 nodes
abbrev pub SignatureFits : Signature → Type 0
SignatureFits g = All (λ (q : Name × NameKind). ParameterFits q.1) g.parameters × Fits g.input × Fits g.output

-- so have those in headers, as in a network that was read
abbrev pub HeadersFit : Program → Type 0
HeadersFit p = (i : ℕ) (t : Template) → slice_get (templates_of p) i ≡ Some t → SignatureFits (signature_of t)

-- A network is accepted, or breaks a rule.
abbrev pub EachNetworkAnswered : Type 0
EachNetworkAnswered = (fs : TypesByName) (p : Program) → HeadersFit p → Accepted fs (templates_of p) ⊎ ((b : Breach) × RefusesNetwork fs p b)

-- A network that breaks a rule is not accepted.
abbrev pub RefusedOrAccepted : Type 0
RefusedOrAccepted = (fs : TypesByName) (p : Program) (b : Breach) → RefusesNetwork fs p b → Accepted fs (templates_of p) → ⊥

-- The types of the values and processes that names stand for have at most 256 nodes, and so do those in signatures.
abbrev pub ContextFits : Context → Type 0
ContextFits Γ = NamesFit (names_of_values Γ) × ((x : Name) (a b : Kind) → process_named x Γ.bindings ≡ Some (a, b) → Fits b) × ((x : Name) (g : Signature) → signature_named x Γ.signatures ≡ Some g → SignatureFits g)

-- What is judged of a term, on inputs of a type of at most 256 nodes, is what it takes them to.
abbrev pub EachTermJudged : Type 0
EachTermJudged = (p : Program) (Γ : Context) (t : TermId) (a b : Kind) → Fits a → Takes Γ (tree p t) a b ↔ (term_judged p t Γ a ≡ Ok b)

-- Under such a context, a term takes inputs of a type to outputs of another, or breaks a rule on them.
abbrev pub EachTermAnswered : Type 0
EachTermAnswered = (p : Program) (Γ : Context) (t : TermId) (a : Kind) → ContextFits Γ → Fits a → ((b : Kind) × Takes Γ (tree p t) a b) ⊎ ((c : Breach) × TermBreaks p Γ t a c)
