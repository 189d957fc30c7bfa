use Rattle.std.proofs.Common.{◌≡◌, take}
use Rattle.sf_term.proofs.template.clone_all.Given as goal

abbrev pub invariant-loop-template : goal.invariant-loop-template
invariant-loop-template l = l.copies.items ≡ take l.template-index l.templates
