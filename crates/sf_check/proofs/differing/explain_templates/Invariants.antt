use Rattle.std.proofs.Common.{◌≡◌, ℕ, ◌<◌, Some, slice_get}
use Rattle.sf_func.specs.Signatures.{signatures_in}
use Rattle.sf_term.specs.Trees.{Template}
use Rattle.sf_term.specs.Arena.{templates_of}
use Rattle.sf_mean.specs.Typing.{IsTyped}
use Rattle.sf_check.proofs.differing.explain_templates.Given as goal

abbrev pub invariant-loop-template : goal.invariant-loop-template
invariant-loop-template l = (i : ℕ) (t : Template) → i < l.template-index → slice_get (templates_of l.program) i ≡ Some t → IsTyped (signatures_in l.functions) (templates_of l.program) t
