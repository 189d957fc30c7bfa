-- The template `main`.
use Rattle.std.proofs.Common.{◌≡◌, ◌<◌, [], length, Some, slice_get, ap, ◌∙◌, sym, subst, codes, unwrap_or}
use Rattle.sf_term.specs.Trees.{Template}
use Rattle.std.proofs.lemmas.Option.{same_Some}
use Rattle.sf_mean.specs.Contexts.{template_context}
use Rattle.sf_mean.specs.Networks.{main_of}
use Rattle.sf_mean.specs.Typing.{Takes, IsTyped, Accepted}
use Rattle.sf_term.specs.Headers.{Header}
use Rattle.sf_term.specs.Arena.{headers_of, term_template, templates_of}
use Rattle.sf_check.specs.declared.checked.Checked.{Checked}
use Rattle.sf_check.specs.Accepting.{accepted_program, types_checked, checked_main, no_main}
pub use Rattle.sf_check.proofs.Places.{place_in, named_at, none_named, named_within, named_is, header_named}
use Rattle.sf_check.proofs.Accepted.{settled_accepted}

module _ (c : Checked) where
  pub main_within : c.main < length (headers_of (accepted_program c))
  main_within = named_within (accepted_program c) (codes "main") c.main c.main_found

  main_there : (t : Template) → main_of (templates_of (accepted_program c)) ≡ Some t → checked_main c ≡ t
  unfolding checked_main
  main_there t e = ap (λ o. unwrap_or o no_main) e

  pub main_named : main_of (templates_of (accepted_program c)) ≡ Some (checked_main c)
  main_named =
      let there = named_at (codes "main") (templates_of (accepted_program c)) c.main c.main_found in
      there.named ∙ ap Some (sym (main_there there.template there.named))

  pub main_is : (h : Header) → slice_get (headers_of (accepted_program c)) c.main ≡ Some h → term_template (accepted_program c) h ≡ checked_main c
  main_is h at = sym (main_there (term_template (accepted_program c) h) (sym (named_is (accepted_program c) (codes "main") c.main c.main_found h at)))

  pub now_accepted : Accepted (types_checked c) (templates_of (accepted_program c))
  now_accepted = settled_accepted (types_checked c) (templates_of (accepted_program c)) (checked_main c) main_named c.accepted

  -- the template that is run is typed
  pub main_typed : IsTyped (types_checked c) (templates_of (accepted_program c)) (checked_main c)
  main_typed =
      let there = named_at (codes "main") (templates_of (accepted_program c)) c.main c.main_found in
      subst (IsTyped (types_checked c) (templates_of (accepted_program c))) (sym (main_there there.template there.named)) (now_accepted.typed c.main there.template there.at)

  -- and has no parameters
  pub main_bare : (checked_main c).parameters ≡ []
  main_bare =
      let main = now_accepted.has_main in
      ap (λ (t : Template). t.parameters) (same_Some _ _ (sym main_named ∙ main.1)) ∙ main.2

  pub main_takes : Takes (template_context (types_checked c) [] (templates_of (accepted_program c))) (checked_main c).body (checked_main c).input (checked_main c).output
  main_takes = subst (λ qs. Takes (template_context (types_checked c) qs (templates_of (accepted_program c))) (checked_main c).body (checked_main c).input (checked_main c).output) main_bare main_typed.body
