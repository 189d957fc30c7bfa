use Rattle.std.proofs.Common.{◌≡◌}
use Rattle.sf_step.specs.declared.turning.Turn.TheVariants.{Begins}
use Rattle.sf_begin.specs.Drafting.{all_changed}
use Rattle.sf_step.proofs.turning.change_all.Given as goal

abbrev pub invariant-loop-change : goal.invariant-loop-change
invariant-loop-change l = record {
  states : all_changed (λ a. a) l.change-iterator.rest.items l.states.items ≡ all_changed (λ a. a) l.fn.changes.items l.initial.states.items;
  outputs : all_changed (λ a. l.input) l.change-iterator.rest.items l.outputs.items ≡ all_changed (λ a. l.input) l.fn.changes.items l.initial.outputs.items;
  turns : all_changed (λ a. Begins) l.change-iterator.rest.items l.turns.items ≡ all_changed (λ a. Begins) l.fn.changes.items l.initial.turns.items;
}
