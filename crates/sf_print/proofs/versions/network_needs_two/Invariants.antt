use Rattle.std.proofs.Common.{◌≡◌, false, take}
use Rattle.std.specs.List.{list_any}
use Rattle.sf_term.specs.Headers.{Header}
use Rattle.sf_term.specs.Arena.{term_template}
use Rattle.sf_print.specs.Versions.{template_needs_two}
use Rattle.sf_print.proofs.versions.network_needs_two.Given as goal

abbrev pub invariant-loop-template : goal.invariant-loop-template
invariant-loop-template l = list_any (λ (h : Header). template_needs_two (term_template l.program h)) (take l.template-index l.template-items) ≡ false
