-- Accepted networks have a template that is run.
use Rattle.std.proofs.Common.{◌≡◌, Some, unwrap_or, sym, ap, ◌∙◌}
use Rattle.sf_func.specs.Registries.{TypesByName}
use Rattle.sf_term.specs.Arena.{templates_of}
use Rattle.sf_mean.specs.Networks.{main_of}
use Rattle.sf_mean.specs.Typing.{Accepted}
use Rattle.sf_check.specs.declared.checked.Checked.{Checked}
use Rattle.sf_check.specs.Accepting.{accepted_program, checked_main, no_main}

-- an accepted network has the template that is run
pub main_found : {fs : TypesByName} (c : Checked) → Accepted fs (templates_of (accepted_program c)) → main_of (templates_of (accepted_program c)) ≡ Some (checked_main c)
unfolding checked_main
main_found c accepted = accepted.has_main.1 ∙ ap (λ o. Some (unwrap_or o no_main)) (sym accepted.has_main.1)
