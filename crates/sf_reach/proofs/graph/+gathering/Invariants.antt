use Rattle.std.proofs.Common.{◌+◌, ◌*◌, take}
use Rattle.sf_term.specs.Trees.{collection_depth}
use Rattle.sf_term.specs.Arena.{collection_of, term_number}
use Rattle.sf_reach.specs.Graphs.{AddsArgumentCalls}
use Rattle.sf_reach.proofs.graph.+gathering.Given as goal

-- a term, then the arguments of a call, then a collection, then what it is made of
abbrev pub decreases-gather : goal.decreases-gather
decreases-gather l = 100 * term_number l.term + 99

abbrev pub decreases-gather_arguments : goal.decreases-gather_arguments
decreases-gather_arguments l = 100 * term_number l.call + 98

abbrev pub decreases-gather_at : goal.decreases-gather_at
decreases-gather_at l = 100 * term_number l.form + 97

abbrev pub decreases-gather_members : goal.decreases-gather_members
decreases-gather_members l = 100 * term_number l.form + collection_depth (collection_of l.program.now l.collection.now)

abbrev pub invariant-gather_arguments-loop-argument : goal.invariant-gather_arguments-loop-argument
invariant-gather_arguments-loop-argument l = AddsArgumentCalls l.program (take l.argument-index l.arguments) l.initial.calls.items l.calls.items
