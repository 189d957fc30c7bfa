-- The templates of a program, one by one.
use Rattle.std.proofs.Common.{◌≡◌, ℕ, ◌+◌, ◌<◌, ◌≤◌, length, Some, slice_get, ap, ◌∙◌, sym, subst, arith, ◌⊎◌, inl, inr}
use Rattle.std.proofs.lemmas.Option.{slice_get_within, same_Some}
use Rattle.std.proofs.lemmas.List.{length-map}
use Rattle.sf_refusal.specs.declared.refusal.Refusal.{Refusal}
use Rattle.sf_refusal.specs.Refusals.{broken, OrMemory}
use Rattle.sf_refusal.proofs.Explained.{or_memory}
use Rattle.sf_func.specs.Registries.{TypesByName}
use Rattle.sf_term.specs.declared.program.Program.{Program}
use Rattle.sf_term.specs.Headers.{Header}
use Rattle.sf_term.specs.Trees.{Template}
use Rattle.sf_term.specs.Arena.{headers_of, term_template, templates_of}
use Rattle.sf_mean.specs.Typing.{IsTyped}
pub use Rattle.sf_reach.proofs.Named.{template_at, spot_stands, name_at, header_at}
use Rattle.sf_check.specs.Breaking.{AreTyped, TemplateBreaks, IsFirstBreak}

pub lt_or_eq : (m n : ℕ) → m < n + 1 → (m < n) ⊎ (m ≡ n)
lt_or_eq m n h = grind arith

module _ (fs : TypesByName) (p : Program) (n : ℕ) (typed : (i : ℕ) (t : Template) → i < n → slice_get (templates_of p) i ≡ Some t → IsTyped fs (templates_of p) t) where
  pub one_more_typed : (h : Header) → slice_get (headers_of p) n ≡ Some h → IsTyped fs (templates_of p) (term_template p h) → (i : ℕ) (t : Template) → i < n + 1 → slice_get (templates_of p) i ≡ Some t → IsTyped fs (templates_of p) t
  one_more_typed h here is i t below at =
      elim (lt_or_eq i n below) [
        | inl before ↦ typed i t before at
        | inr same ↦ subst (IsTyped fs (templates_of p)) (same_Some _ _ (sym (template_at p n h here) ∙ ap (slice_get (templates_of p)) (sym same) ∙ at)) is
      ]

  pub all_typed : length (headers_of p) ≤ n → AreTyped fs p
  all_typed most i t at =
      let within = slice_get_within (templates_of p) i t at in
      let count = length-map (headers_of p) (term_template p) in
      typed i t (omega arith) at

  pub template_breaks : (h : Header) → slice_get (headers_of p) n ≡ Some h → (e : Refusal) → OrMemory (TemplateBreaks fs p h) e → OrMemory (IsFirstBreak fs p) e
  template_breaks h here e broken = or_memory (λ b k. record { place = n; header = h; at = here; typed = typed; broken = k }) broken
