use Rattle.std.proofs.Common.{◌≡◌, take}
use Rattle.std.specs.List.{flat_map}
use Rattle.sf_term.specs.Headers.{Header}
use Rattle.sf_term.specs.Arena.{term_template}
use Rattle.sf_grammar.specs.Spelling.{spell_template}
use Rattle.sf_print.specs.Drafts.{append_tokens}
use Rattle.sf_print.proofs.network.write_templates.Given as goal

abbrev pub invariant-loop-template : goal.invariant-loop-template
invariant-loop-template l = l.draft ≡ append_tokens l.initial.draft (flat_map (λ (h : Header). spell_template l.version (term_template l.program h)) (take l.template-index l.template-items))
