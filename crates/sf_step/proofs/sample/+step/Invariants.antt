use Rattle.std.proofs.Common.{◌≡◌, ◌≤◌, ◌+◌, ◌-◌, ◌*◌, if◌then◌else◌, length, take, drop}
use Rattle.std.specs.Prelude.{vec_len, vec_capacity}
use Rattle.sf_state.specs.Standing.{is_frozen}
use Rattle.sf_begin.specs.Contexts.{context_machine}
use Rattle.sf_step.proofs.Stages.{Continues}
use Rattle.sf_step.proofs.Members
use Rattle.sf_step.proofs.Turns.{NotesOn, TurnsOn}
use Rattle.sf_step.proofs.sample.+step.Given as goal

-- how many nodes may still stand inside, and which of the functions it is; a frozen state is stepped once it is awake
abbrev pub decreases-step_state : goal.decreases-step_state
decreases-step_state g l = 26 * (1600 - l.depth) + (if is_frozen l.state.now then 6 else 3)

abbrev pub decreases-step_other : goal.decreases-step_other
decreases-step_other g l = 26 * (1600 - l.depth) + (if is_frozen l.state.now then 5 else 2)

abbrev pub decreases-step_unborn : goal.decreases-step_unborn
decreases-step_unborn g l = 26 * (1600 - l.depth) + 1

abbrev pub decreases-first_step : goal.decreases-first_step
decreases-first_step g l = 26 * (1600 - l.around.now.inside)

abbrev pub decreases-first_node : goal.decreases-first_node
decreases-first_node g l = 26 * (1600 - l.around.now.inside) + 25

abbrev pub decreases-first_other : goal.decreases-first_other
decreases-first_other g l = 26 * (1600 - l.around.now.inside) + 24

abbrev pub decreases-first_of_call : goal.decreases-first_of_call
decreases-first_of_call g l = 26 * (1600 - l.around.now.inside) + 24

abbrev pub decreases-first_of_process : goal.decreases-first_of_process
decreases-first_of_process g l = 26 * (1600 - l.around.now.inside) + 24

abbrev pub decreases-first_basic : goal.decreases-first_basic
decreases-first_basic g l = 26 * (1600 - l.around.now.inside) + 24

abbrev pub decreases-first_recurring : goal.decreases-first_recurring
decreases-first_recurring g l = 26 * (1600 - l.around.now.inside) + 24

abbrev pub decreases-first_continuing : goal.decreases-first_continuing
decreases-first_continuing g l = 26 * (1600 - l.around.now.inside) + 24

abbrev pub decreases-first_sequence : goal.decreases-first_sequence
decreases-first_sequence g l = 26 * (1600 - l.around.now.inside) + 24

abbrev pub decreases-first_fan : goal.decreases-first_fan
decreases-first_fan g l = 26 * (1600 - l.around.now.inside) + 24

abbrev pub decreases-first_halves : goal.decreases-first_halves
decreases-first_halves g l = 26 * (1600 - l.around.now.inside) + 23

abbrev pub decreases-step_unborn_apart : goal.decreases-step_unborn_apart
decreases-step_unborn_apart g l = 26 * (1600 - l.depth) + 6

abbrev pub decreases-first_apart : goal.decreases-first_apart
decreases-first_apart g l = 26 * (1600 - l.around.now.inside) + 1

abbrev pub decreases-step_frozen : goal.decreases-step_frozen
decreases-step_frozen g l = 26 * (1600 - l.depth) + 4

abbrev pub decreases-step_sequence : goal.decreases-step_sequence
decreases-step_sequence g l = 26 * (1600 - l.inside) + 9

abbrev pub decreases-step_on_split : goal.decreases-step_on_split
decreases-step_on_split g l = 26 * (1600 - l.depth) + 8

abbrev pub decreases-step_split : goal.decreases-step_split
decreases-step_split g l = 26 * (1600 - l.depth) + 7

abbrev pub decreases-step_node_split : goal.decreases-step_node_split
decreases-step_node_split g l = 26 * (1600 - l.inside) + 17

abbrev pub decreases-step_live_split : goal.decreases-step_live_split
decreases-step_live_split g l = 26 * (1600 - l.inside) + 15

abbrev pub decreases-step_halves : goal.decreases-step_halves
decreases-step_halves g l = 26 * (1600 - l.inside) + 7

abbrev pub decreases-first_split : goal.decreases-first_split
decreases-first_split g l = 26 * (1600 - l.around.now.inside) + 1

abbrev pub decreases-first_on_split : goal.decreases-first_on_split
decreases-first_on_split g l = 26 * (1600 - l.around.now.inside) + 2

abbrev pub decreases-step_parallel : goal.decreases-step_parallel
decreases-step_parallel g l = 26 * (1600 - l.inside) + 8

abbrev pub decreases-step_fan : goal.decreases-step_fan
decreases-step_fan g l = 26 * (1600 - l.inside) + 8

abbrev pub decreases-step_first : goal.decreases-step_first
decreases-step_first g l = 26 * (1600 - l.inside) + 8

abbrev pub decreases-step_second : goal.decreases-step_second
decreases-step_second g l = 26 * (1600 - l.inside) + 8

abbrev pub decreases-step_loop : goal.decreases-step_loop
decreases-step_loop g l = 26 * (1600 - l.inside) + 8

abbrev pub decreases-step_initialized : goal.decreases-step_initialized
decreases-step_initialized g l = 26 * (1600 - l.inside) + 8

abbrev pub decreases-step_replaced : goal.decreases-step_replaced
decreases-step_replaced g l = 26 * (1600 - l.inside) + 8

abbrev pub decreases-step_followed : goal.decreases-step_followed
decreases-step_followed g l = 26 * (1600 - l.inside) + 8

abbrev pub decreases-step_live : goal.decreases-step_live
decreases-step_live g l = 26 * (1600 - l.inside) + 14

abbrev pub decreases-step_node : goal.decreases-step_node
decreases-step_node g l = 26 * (1600 - l.inside) + 16

abbrev pub decreases-step_node_copy : goal.decreases-step_node_copy
decreases-step_node_copy g l = 26 * (1600 - l.inside) + 15

abbrev pub decreases-step_counted : goal.decreases-step_counted
decreases-step_counted g l = 26 * (1600 - l.inside) + 22

abbrev pub decreases-step_pipeline : goal.decreases-step_pipeline
decreases-step_pipeline g l = 26 * (1600 - l.inside) + 8

abbrev pub decreases-step_stage : goal.decreases-step_stage
decreases-step_stage g l = 26 * (1600 - l.depth) + 7

abbrev pub decreases-step_watching : goal.decreases-step_watching
decreases-step_watching g l = 26 * (1600 - l.inside) + 15

abbrev pub decreases-step_watching_copy : goal.decreases-step_watching_copy
decreases-step_watching_copy g l = 26 * (1600 - l.inside) + 14

abbrev pub decreases-step_observing : goal.decreases-step_observing
decreases-step_observing g l = 26 * (1600 - l.inside) + 15

abbrev pub decreases-step_observing_copy : goal.decreases-step_observing_copy
decreases-step_observing_copy g l = 26 * (1600 - l.inside) + 14

abbrev pub decreases-step_switch : goal.decreases-step_switch
decreases-step_switch g l = 26 * (1600 - l.inside) + 13

abbrev pub decreases-step_basic : goal.decreases-step_basic
decreases-step_basic g l = 26 * (1600 - l.inside) + 12

abbrev pub decreases-step_apart : goal.decreases-step_apart
decreases-step_apart g l = 26 * (1600 - l.depth) + 7

abbrev pub decreases-step_node_apart : goal.decreases-step_node_apart
decreases-step_node_apart g l = 26 * (1600 - l.inside) + 17

abbrev pub decreases-step_live_apart : goal.decreases-step_live_apart
decreases-step_live_apart g l = 26 * (1600 - l.inside) + 16

abbrev pub decreases-step_whole : goal.decreases-step_whole
decreases-step_whole g l = 26 * (1600 - l.inside) + 15

abbrev pub decreases-step_sequence_apart : goal.decreases-step_sequence_apart
decreases-step_sequence_apart g l = 26 * (1600 - l.inside) + 8

abbrev pub decreases-step_parallel_apart : goal.decreases-step_parallel_apart
decreases-step_parallel_apart g l = 26 * (1600 - l.inside) + 9

abbrev pub decreases-step_fan_apart : goal.decreases-step_fan_apart
decreases-step_fan_apart g l = 26 * (1600 - l.inside) + 8

abbrev pub decreases-step_recurring : goal.decreases-step_recurring
decreases-step_recurring g l = 26 * (1600 - l.inside) + 12

abbrev pub decreases-step_continuing : goal.decreases-step_continuing
decreases-step_continuing g l = 26 * (1600 - l.inside) + 12

abbrev pub decreases-step_beside : goal.decreases-step_beside
decreases-step_beside g l = 26 * (1600 - l.inside) + 7

abbrev pub decreases-first_beside : goal.decreases-first_beside
decreases-first_beside g l = 26 * (1600 - l.around.now.inside) + 1

abbrev pub invariant-step_pipeline-loop-stage : goal.invariant-step_pipeline-loop-stage
invariant-step_pipeline-loop-stage g l = record {
  goes_on : Continues (context_machine g.R.Holds.answers l.context) l.initial.stage-items l.context.dt l.initial.value l.initial.meter (take l.stage-index l.stage-items) (drop l.stage-index l.stage-items) l.value l.meter l.inside;
}

abbrev pub decreases-step_gathering : goal.decreases-step_gathering
decreases-step_gathering g l = 26 * (1600 - l.inside) + 18

abbrev pub decreases-step_gathering_copy : goal.decreases-step_gathering_copy
decreases-step_gathering_copy g l = 26 * (1600 - l.inside) + 17

abbrev pub decreases-step_members_waiting : goal.decreases-step_members_waiting
decreases-step_members_waiting g l = 26 * (1600 - l.inside) + 16

abbrev pub decreases-step_releasing : goal.decreases-step_releasing
decreases-step_releasing g l = 26 * (1600 - l.inside) + 13

abbrev pub decreases-step_members : goal.decreases-step_members
decreases-step_members g l = 26 * (1600 - l.inside) + 12

abbrev pub decreases-step_gathered : goal.decreases-step_gathered
decreases-step_gathered g l = 26 * (1600 - l.inside) + 13

abbrev pub decreases-step_edited : goal.decreases-step_edited
decreases-step_edited g l = 26 * (1600 - l.inside) + 15

abbrev pub decreases-step_list : goal.decreases-step_list
decreases-step_list g l = 26 * (1600 - l.inside) + 11

abbrev pub decreases-step_list_copy : goal.decreases-step_list_copy
decreases-step_list_copy g l = 26 * (1600 - l.inside) + 10

abbrev pub decreases-step_each : goal.decreases-step_each
decreases-step_each g l = 26 * (1600 - l.inside) + 9

abbrev pub invariant-step_each-loop-state : goal.invariant-step_each-loop-state
invariant-step_each-loop-state g l = record {
  goes_on : Members.Continues (context_machine g.R.Holds.answers l.context) l.wait l.initial.state-items l.context.dt l.value l.initial.meter (take l.state-index l.state-items) l.outputs.items (drop l.state-index l.state-items) l.meter l.inside;
  as_many : vec_len l.outputs ≡ l.state-index;
  room : length l.state-items ≤ vec_capacity l.outputs;
}

abbrev pub decreases-step_member : goal.decreases-step_member
decreases-step_member g l = 26 * (1600 - l.inside) + 8

abbrev pub decreases-step_waiting : goal.decreases-step_waiting
decreases-step_waiting g l = 26 * (1600 - l.inside) + 7

abbrev pub decreases-step_editing : goal.decreases-step_editing
decreases-step_editing g l = 26 * (1600 - l.inside) + 14

abbrev pub decreases-step_exchange : goal.decreases-step_exchange
decreases-step_exchange g l = 26 * (1600 - l.exchange.inside) + 13

abbrev pub decreases-step_draft : goal.decreases-step_draft
decreases-step_draft g l = 26 * (1600 - l.edit.inside) + 13

abbrev pub decreases-step_turns_copy : goal.decreases-step_turns_copy
decreases-step_turns_copy g l = 26 * (1600 - l.edit.inside) + 12

abbrev pub decreases-step_turns : goal.decreases-step_turns
decreases-step_turns g l = 26 * (1600 - l.edit.inside) + 11

abbrev pub decreases-step_noted : goal.decreases-step_noted
decreases-step_noted g l = 26 * (1600 - l.inside) + 9

abbrev pub invariant-step_noted-loop-ran : goal.invariant-step_noted-loop-ran
invariant-step_noted-loop-ran g l = record {
  goes_on : NotesOn (context_machine g.R.Holds.answers l.context) l.wait l.context.dt l.value l.inside l.initial.meter l.initial.ran-items (take l.ran-index l.ran-items) l.outputs.items l.turns.items (drop l.ran-index l.ran-items) l.meter;
  as_many : vec_len l.outputs ≡ l.ran-index;
  room : length l.ran-items ≤ vec_capacity l.outputs;
  as_many_turns : vec_len l.turns ≡ l.ran-index;
  room_for_turns : length l.ran-items ≤ vec_capacity l.turns;
}

abbrev pub decreases-step_again : goal.decreases-step_again
decreases-step_again g l = 26 * (1600 - l.turns.inside) + 9

abbrev pub invariant-step_again-loop-at : goal.invariant-step_again-loop-at
invariant-step_again-loop-at g l = record {
  goes_on : TurnsOn (context_machine g.R.Holds.answers l.context) l.wait l.context.dt l.inside l.initial.meter l.initial.states.items l.initial.outputs.items l.each (take l.at l.states.items) (take l.at l.outputs.items) (drop l.at l.states.items) (drop l.at l.outputs.items) (drop l.at l.each) l.meter;
  states : length l.states.items ≡ length l.each;
  outputs : length l.outputs.items ≡ length l.each;
}
