use Rattle.std.proofs.Common.{◌≡◌, take, map}
use Rattle.sf_term.specs.Parameters.{PlacedParameter, binding_of}
use Rattle.sf_grammar.specs.Spelling.{spell_parameter}
use Rattle.sf_print.specs.Drafts.{append_tokens}
use Rattle.sf_print.proofs.Listing.{separated}
use Rattle.sf_print.proofs.network.write_further.Given as goal

abbrev pub invariant-loop-parameter : goal.invariant-loop-parameter
invariant-loop-parameter l = l.draft ≡ append_tokens l.initial.draft (separated (map (λ (q : PlacedParameter). spell_parameter l.version (binding_of q)) (take l.parameter-index l.parameters)))
