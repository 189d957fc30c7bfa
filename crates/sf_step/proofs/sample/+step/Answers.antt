use Rattle.std.proofs.Common.{◌≡◌, [], ◌+◌, ◌-◌, ◌<◌, set, ◌∷◌, ◌++◌, take, drop, length, length-set, List, None, Result, Ok, Err, refl, sym, ap, ◌∙◌, subst, arith, Vec}
use Rattle.std.specs.declared.alloc.Global.{Global}
use Rattle.std.specs.Prelude.{IsOk}
use Rattle.sf_value.specs.Values.{Data, table, pair, first_of, second_of}
use Rattle.sf_value.specs.View.{keyed_rows}
use Rattle.std.specs.Vec.{with_items}
use Rattle.std.proofs.lemmas.List.{with_items_is}
use Rattle.sf_state.specs.declared.state.Live as live_nodes
use Rattle.sf_state.specs.declared.state.Live.TheVariants.{Join as LJoin}
use Rattle.sf_state.specs.declared.state.Wrap.TheVariants.{First, Second, Loop, Initialized, Replaced, Followed}
use Rattle.sf_term.specs.declared.form.Join.TheVariants.{InSequence, InParallel, FannedOut}
use Rattle.sf_value.specs.declared.value.Pair.{Pair}
use Rattle.sf_coincidence.proofs.Same.{alike_itself}
use Rattle.sf_mean.specs.Lives.{step, Life, Process, each_frozen}
use Rattle.sf_state.specs.declared.state.Frozen.{Frozen}
use Rattle.sf_state.specs.declared.state.State.{State}
use Rattle.sf_state.specs.declared.state.State.TheVariants.{Unborn, Mapped as SMapped, Live' as Alive'}
use Rattle.sf_state.specs.declared.state.Gathered.{Gathered}
use Rattle.sf_state.specs.Held.{held_as}
use Rattle.sf_state.specs.Names.{bound_value}
use Rattle.sf_state.specs.Standing.{Stands, behind_arrow, AllFollow, frozen_state, worth_given, closed_over, itself, unborn, is_closure, watching, continuing_on, Waits, WaitsContinuation, WaitsGathered}
use Rattle.sf_begin.specs.Contexts.{context_machine}
use Rattle.sf_expr.specs.Evaluation.{answer}
use Rattle.sf_mean.specs.Meaning.{switched_value}
use Rattle.sf_meter.specs.Meters.{entered_of, meter_fault, left_or}
use Rattle.sf_step.specs.declared.turning.Turn.{Turn}
use Rattle.sf_step.specs.declared.turning.Turn.TheVariants.{Stays, Begins}
use Rattle.sf_begin.specs.Drafting.{drafted, all_changed}
use Rattle.sf_step.proofs.Costs.{memory_exit, early_memory}
use Rattle.sf_step.specs.Answering.{LiveSteps, fails, whole_of}
use Rattle.sf_step.specs.Around.{machine_around, dt_around}
use Rattle.sf_begin.proofs.Begins.{parts_joined, two_joined}
use Rattle.sf_step.proofs.References.{coded_arguments, call_steps, call_fails, process_steps}
use Rattle.sf_step.specs.Sampling.{PartSteps, StateSteps, EachSteps, apart, stopped}
use Rattle.sf_step.specs.Routing.{observation_of}
use Rattle.sf_state.proofs.Copies.{list_follows}
use Rattle.sf_step.proofs.Parts.{pass_exit, pass_apart, pass_split, split_back, split_as, pass_valued, value_back, valued_as, failed, own_halves, gives_value, gives_no_value, stops_apart, apart_as, taken}
use Rattle.sf_step.proofs.Stages.{StagesStep, continues_first, continues_next, continues_fails, continues_last, pipeline_steps, pipeline_fails}
use Rattle.sf_step.proofs.Exits.{mapped_counted, mapped_is, primitives_counted, primitives_are, ticked_by, tick_fails, first_memory, join_left_fails, join_right_fails, join_steps, join_last, wrap_fails, wrap_steps, wrap_faults, wrap_last, late_memory, late_part, late_waiting, waits_alike, primitive_counted, live_counted, own_steps, primitive_is, live_is, awake_is, counted_steps, live_apart, first_counted, term_counted, begun_steps, begun_fails, late_term, joined_fails, joined_late, joined_steps}
use Rattle.sf_step.proofs.Recurring.{run_fails, run_memory, new_fails, new_runs, runs_alone}
use Rattle.sf_step.proofs.FirstSwitches.{new_switch, new_continuation, switch_waits, continuation_waits, term_over, term_on}
use Rattle.sf_step.proofs.Switches.{source_fails, switch_memory, switch_waits_on, body_fails, body_takes_over}
use Rattle.sf_step.proofs.Continuation.{runs_alike, kept_fails, observer_fails, observer_memory, keeps_on, kept_body_fails, continuation_takes_over, some_occurs, none_occurs}
use Rattle.sf_step.proofs.SwitchTurns.{frozen_steps, pass_beside, watching_turns, watching_fails, continuing_turns, continuing_fails, gathering_turns, gathering_fails}
use Rattle.sf_step.proofs.Members.{memory_now, stopped_at, each_first, each_next, each_fails, each_memory, each_last, list_alike, late_list, awake_lived, asleep_fresh, runs_among, begins_among, goes_on_among, members_step, members_fail, members_end, gathered_so, pass_with, Continues}
use Rattle.sf_step.proofs.Releasing.{run_alike, members_stop, sight_fails, sight_memory, members_go_on, released_body_fails, released_body_takes_over}
use Rattle.sf_step.specs.Edits.{IsBetween, HaveStepped, no_memory_noted, HaveTurned, no_memory_before, old_fails, no_memory_between, made_fails, new_run, held_as_made}
use Rattle.sf_step.specs.Edits
use Rattle.sf_step.proofs.Turns.{NotesOn, notes_first, notes_next, notes_fail, notes_memory, notes_last, notes_stopped, notes_long, turn_at, turns_first, turns_stay, turns_stay_not, turns_begin, turns_begin_not, turns_last, as_held, held_fails, old_step, new_step, new_stop, new_end, turned_so, not_turned_so, shows_so, held_stop, gathers_frozen, stepped_fails, changed_long, edit_stopped, edit_late, pass_edit, pass_notes, pass_turns}
use Rattle.sf_step.proofs.Editing.{members_alone, edit_answers, as_made}
use Rattle.sf_step.proofs.sample.+step.Goals as goal
use Rattle.sf_step.proofs.sample.+step.Goals.{step_again-in-Stays+in_ok-repeat-in-Stays, step_again-in-Begins+in_ok-step_waiting-in-Begins}

-- a result that is there
there_is : {A E : Type 0} {r : Result A E} {a : A} → r ≡ Ok a → IsOk r
there_is e = subst IsOk (sym e) refl

-- ## step_state

pub step_state-returns-in_err-tick-in-Primitive : goal.step_state-returns-in_err-tick-in-Primitive
step_state-returns-in_err-tick-in-Primitive g t c = λ P L A. pass_exit _ _ c.from_residual.ensures.0 (tick_fails (context_machine g.R.Holds.answers c.args.context.now) P _ c.in_err-tick-in-Primitive.ensures.ticked)

pub step_state-returns-in_err-inside-in-Mapped : goal.step_state-returns-in_err-inside-in-Mapped
step_state-returns-in_err-inside-in-Mapped g t c = λ P L A. pass_exit _ _ c.from_residual-in_err-inside-in-Mapped.ensures.0 (tick_fails (context_machine g.R.Holds.answers c.args.context.now) P _ c.in_err-inside-in-Mapped.ensures.ticked)

pub step_state-returns-in_err-inside-in-Primitives : goal.step_state-returns-in_err-inside-in-Primitives
step_state-returns-in_err-inside-in-Primitives g t c = λ P L A. pass_exit _ _ c.from_residual-in_err-inside-in-Primitives.ensures.0 (tick_fails (context_machine g.R.Holds.answers c.args.context.now) P _ c.in_err-inside-in-Primitives.ensures.ticked)

pub step_state-returns-in_err-inside-in-Live : goal.step_state-returns-in_err-inside-in-Live
step_state-returns-in_err-inside-in-Live g t c = λ P L A. pass_exit _ _ c.from_residual-in_err-inside-in-Live.ensures.0 (tick_fails (context_machine g.R.Holds.answers c.args.context.now) P _ c.in_err-inside-in-Live.ensures.ticked)

pub step_state-returns-in_default : goal.step_state-returns-in_default
step_state-returns-in_default g t c = c.step_other.ensures

pub step_state-returns-in_ok-tick-in-Primitive : goal.step_state-returns-in_ok-tick-in-Primitive
step_state-returns-in_ok-tick-in-Primitive g t c = λ P L A.
    counted_steps (context_machine g.R.Holds.answers c.args.context.now) _ _ _ (ticked_by c.in_ok-tick-in-Primitive.ensures.ticked) (primitive_is (context_machine g.R.Holds.answers c.args.context.now) c.in-Primitive.prim)
    (primitive_counted (context_machine g.R.Holds.answers c.args.context.now) c.in-Primitive.prim c.step_prim.new.prim _ c.step_prim.new.value c.step_prim.result _ c.step_prim.ensures.answers) P L (rw c.in-Primitive.is at A)

pub step_state-returns-in_ok-inside-in-Mapped : goal.step_state-returns-in_ok-inside-in-Mapped
step_state-returns-in_ok-inside-in-Mapped g t c = λ P L A.
    let μ = context_machine g.R.Holds.answers c.args.context.now in
    counted_steps μ _ _ _ (ticked_by c.in_ok-inside-in-Mapped.ensures.ticked) (mapped_is μ c.in-Mapped.arrow c.in-Mapped.prim)
    (mapped_counted μ c.in-Mapped.arrow c.in-Mapped.prim c.step_mapped.new.prim _ c.step_mapped.new.value c.step_mapped.result _ c.step_mapped.ensures) P L (rw c.in-Mapped.is at A)

pub step_state-returns-in_ok-inside-in-Primitives : goal.step_state-returns-in_ok-inside-in-Primitives
step_state-returns-in_ok-inside-in-Primitives g t c = λ P L A.
    counted_steps (context_machine g.R.Holds.answers c.args.context.now) _ _ _ (ticked_by c.in_ok-inside-in-Primitives.ensures.ticked) (primitives_are (context_machine g.R.Holds.answers c.args.context.now) c.in-Primitives.node)
    (primitives_counted (context_machine g.R.Holds.answers c.args.context.now) c.in-Primitives.node c.step_primitives.new.node _ c.step_primitives.new.value c.step_primitives.result _ c.step_primitives.ensures) P L (rw c.in-Primitives.is at A)

pub step_state-returns-in_ok-inside-in-Live : goal.step_state-returns-in_ok-inside-in-Live
step_state-returns-in_ok-inside-in-Live g t c = λ P L A.
    counted_steps (context_machine g.R.Holds.answers c.args.context.now) _ _ _ (ticked_by c.in_ok-inside-in-Live.ensures.ticked) (live_is (context_machine g.R.Holds.answers c.args.context.now) c.in-Live.field-0 c.in-Live.node.value)
    (live_counted (context_machine g.R.Holds.answers c.args.context.now) _ c.in-Live.field-0 c.in-Live.node.value c.step_node.new.node.value _ c.step_node.new.value c.step_node.result _ c.step_node.ensures) P L (rw c.in-Live.is at A)

-- ## step_beside

pub step_beside-returns-in_err-within : goal.step_beside-returns-in_err-within
step_beside-returns-in_err-within g t c = λ P L A. pass_valued _ _ c.from_residual.ensures.0 (tick_fails (context_machine g.R.Holds.answers c.args.context.now) P _ c.in_err-within.ensures.ticked)

pub step_beside-returns-in-Mapped : goal.step_beside-returns-in-Mapped
step_beside-returns-in-Mapped g t c = λ P L A.
    let μ = context_machine g.R.Holds.answers c.args.context.now in
    let r = c.step_mapped_beside.result in
    let n = c.step_mapped_beside.new.meter in
    let a = c.in-Mapped.arrow in
    let i = c.step_mapped_beside.new.prim in
    let s = step c.args.context.now.dt (pair c.args.input.now c.args.given.now) in
    subst (λ q. PartSteps μ P L s q c.args.meter.now n c.args.inside) (valued_as r (SMapped a i) (meter_fault n))
    (counted_steps μ _ _ _ (ticked_by c.in_ok-within.ensures.ticked) (mapped_is μ a c.in-Mapped.prim)
    (mapped_counted μ a c.in-Mapped.prim i s (value_back r) r (meter_fault n)
    (λ own is. subst (λ q. LiveSteps μ (behind_arrow own c.in-Mapped.prim) s q c.tick.new.self n c.in_ok-within.within) (sym (valued_as r (behind_arrow own i) (meter_fault n))) (c.step_mapped_beside.ensures own is)))
    P L (rw c.in-Mapped.is at A))

pub step_beside-returns-in-Err : goal.step_beside-returns-in-Err
step_beside-returns-in-Err g t c = first_memory (context_machine g.R.Holds.answers c.args.context.now) c.stop.ensures.entered c.stop.ensures.height c.stop.ensures.fault

pub step_beside-returns-in_err-step_state : goal.step_beside-returns-in_err-step_state
step_beside-returns-in_err-step_state g t c = λ P L A. pass_valued _ _ c.from_residual-in_err-step_state.ensures.0 (failed ((rw c.in-Ok.ensures at c.in_err-step_state.ensures) P L A))

pub step_beside-returns : goal.step_beside-returns
step_beside-returns g t c = rw c.in-Ok.ensures at c.in_ok-step_state.ensures

pub step_beside-returns-in-Some : goal.step_beside-returns-in-Some
step_beside-returns-in-Some g t c = rw c.in-Some.ensures c.count_and_map_beside.ensures

-- ## first_beside

pub first_beside-returns-in_err-inside : goal.first_beside-returns-in_err-inside
first_beside-returns-in_err-inside g t c = λ P L A. pass_valued _ _ c.from_residual.ensures.0 (tick_fails (machine_around g.R.Holds.answers c.args.around.now) P _ c.in_err-inside.ensures.ticked)

pub first_beside-returns-in-Some : goal.first_beside-returns-in-Some
first_beside-returns-in-Some g t c = c.first_arrow.ensures c.args.term c.in-Some.ensures

pub first_beside-returns-in-Some-primitive_behind : goal.first_beside-returns-in-Some-primitive_behind
first_beside-returns-in-Some-primitive_behind g t c =
    term_counted (machine_around g.R.Holds.answers c.args.around.now) c.args.term c.args.around.now.names.now (dt_around c.args.around.now) (pair c.args.input.now c.args.given.now) (ticked_by c.in_ok-inside.ensures.ticked) _
    (c.first_behind.ensures _ c.in-Some-primitive_behind.ensures)

pub first_beside-returns-in-Err : goal.first_beside-returns-in-Err
first_beside-returns-in-Err g t c = first_memory (machine_around g.R.Holds.answers c.args.around.now) c.stop.ensures.entered c.stop.ensures.height c.stop.ensures.fault

pub first_beside-returns-in_err-first_step : goal.first_beside-returns-in_err-first_step
first_beside-returns-in_err-first_step g t c = λ P L A. pass_valued _ _ c.from_residual-in_err-first_step.ensures.0 (failed ((rw c.in-Ok.ensures at c.in_err-first_step.ensures) P L A))

pub first_beside-returns : goal.first_beside-returns
first_beside-returns g t c = rw c.in-Ok.ensures at c.in_ok-first_step.ensures

-- ## step_node

pub step_node-returns-in-Some : goal.step_node-returns-in-Some
step_node-returns-in-Some g t c =
    own_steps (context_machine g.R.Holds.answers c.args.context.now) c.args.node.now.value c.in-Some.live.now _ _ (λ P x L R. rw c.in-Some.ensures.value R) c.step_live.ensures

pub step_node-returns-in-None : goal.step_node-returns-in-None
step_node-returns-in-None g t c = c.step_node_copy.ensures

-- ## step_node_copy

pub step_node_copy-returns-in-Err : goal.step_node_copy-returns-in-Err
step_node_copy-returns-in-Err g t c = λ m depth t P L R. early_memory (context_machine g.R.Holds.answers c.args.context.now) t c.stop.ensures.entered c.stop.ensures.height c.stop.ensures.fault

pub step_node_copy-returns-in_err-step_live : goal.step_node_copy-returns-in_err-step_live
step_node_copy-returns-in_err-step_live g t c = λ m depth t P L R.
    pass_exit _ _ c.from_residual.ensures.0 (failed (own_steps (context_machine g.R.Holds.answers c.args.context.now) c.args.node.now.value c.in-Ok.value _ _ (λ P x L R. c.in-Ok.ensures (context_machine g.R.Holds.answers c.args.context.now) P x L (rw c.deref.ensures R)) c.in_err-step_live.ensures m depth t P L R))

pub step_node_copy-returns-in-Err-new : goal.step_node_copy-returns-in-Err-new
step_node_copy-returns-in-Err-new g t c =
    late_memory (context_machine g.R.Holds.answers c.args.context.now) (own_steps (context_machine g.R.Holds.answers c.args.context.now) c.args.node.now.value c.in-Ok.value _ _ (λ P x L R. c.in-Ok.ensures (context_machine g.R.Holds.answers c.args.context.now) P x L (rw c.deref.ensures R)) c.in_ok-step_live.ensures) c.stop-in-Err-new.ensures.entered c.stop-in-Err-new.ensures.height c.stop-in-Err-new.ensures.fault

pub step_node_copy-returns : goal.step_node_copy-returns
step_node_copy-returns g t c =
    rw c.in-Ok-new.ensures.ok (own_steps (context_machine g.R.Holds.answers c.args.context.now) c.args.node.now.value c.in-Ok.value _ _ (λ P x L R. c.in-Ok.ensures (context_machine g.R.Holds.answers c.args.context.now) P x L (rw c.deref.ensures R)) c.in_ok-step_live.ensures)

-- ## step_counted

pub step_counted-returns-in-Primitive : goal.step_counted-returns-in-Primitive
step_counted-returns-in-Primitive g t c = λ m depth t P L A.
    primitive_counted (context_machine g.R.Holds.answers c.args.context.now) c.in-Primitive.prim c.step_prim.new.prim _ c.step_prim.new.value c.step_prim.result _ c.step_prim.ensures.answers m depth t P L (rw c.in-Primitive.is at A)

pub step_counted-returns-in-Mapped : goal.step_counted-returns-in-Mapped
step_counted-returns-in-Mapped g t c = λ m depth t P L A.
    mapped_counted (context_machine g.R.Holds.answers c.args.context.now) c.in-Mapped.arrow c.in-Mapped.prim c.step_mapped.new.prim _ c.step_mapped.new.value c.step_mapped.result _ c.step_mapped.ensures m depth t P L (rw c.in-Mapped.is at A)

pub step_counted-returns-in-Primitives : goal.step_counted-returns-in-Primitives
step_counted-returns-in-Primitives g t c = λ m depth t P L A.
    primitives_counted (context_machine g.R.Holds.answers c.args.context.now) c.in-Primitives.node c.step_primitives.new.node _ c.step_primitives.new.value c.step_primitives.result _ c.step_primitives.ensures m depth t P L (rw c.in-Primitives.is at A)

pub step_counted-returns-in-Live : goal.step_counted-returns-in-Live
step_counted-returns-in-Live g t c = λ m depth t P L A.
    live_counted (context_machine g.R.Holds.answers c.args.context.now) _ c.in-Live.field-0 c.in-Live.node.value c.step_node.new.node.value _ c.step_node.new.value c.step_node.result _ c.step_node.ensures m depth t P L (rw c.in-Live.is at A)

pub step_counted-returns-in_err-over-in-Switch : goal.step_counted-returns-in_err-over-in-Switch
step_counted-returns-in_err-over-in-Switch g t c = λ m depth t P L A.
    pass_exit _ _ c.from_residual.ensures.0 (failed (watching_fails (context_machine g.R.Holds.answers c.args.context.now) _ c.in-Switch.names c.in-Switch.node.value c.in-Switch.node.value (λ P L S. S)
    (step c.args.context.now.dt c.args.value.now) c.args.meter.now c.step_watching.new.meter c.args.inside _ c.in_err-over-in-Switch.ensures m depth t P L (rw c.in-Switch.is at A)))

pub step_counted-returns-in_ok-over-in-Switch : goal.step_counted-returns-in_ok-over-in-Switch
step_counted-returns-in_ok-over-in-Switch g t c = λ m depth t P L A.
    watching_turns (context_machine g.R.Holds.answers c.args.context.now) _ c.in-Switch.names c.in-Switch.node.value c.in-Switch.node.value (λ P L S. S) (step c.args.context.now.dt c.args.value.now) c.args.meter.now c.step_watching.new.meter c.args.inside
    _ c.in_ok-over-in-Switch.over c.step_watching.new.node.value c.step_watching.new.value _ c.take_over.ensures c.in_ok-over-in-Switch.ensures m depth t P L (rw c.in-Switch.is at A)

pub step_counted-returns-in_err-kept-in-Continuation : goal.step_counted-returns-in_err-kept-in-Continuation
step_counted-returns-in_err-kept-in-Continuation g t c = λ m depth t P L A.
    pass_exit _ _ c.from_residual-in_err-kept-in-Continuation.ensures.0 (failed (continuing_fails (context_machine g.R.Holds.answers c.args.context.now) _ c.in-Continuation.names c.in-Continuation.node.value c.in-Continuation.node.value (λ P L S. S)
    (step c.args.context.now.dt c.args.value.now) c.args.meter.now c.step_observing.new.meter c.args.inside _ c.in_err-kept-in-Continuation.ensures m depth t P L (rw c.in-Continuation.is at A)))

pub step_counted-returns-in_ok-kept-in-Continuation : goal.step_counted-returns-in_ok-kept-in-Continuation
step_counted-returns-in_ok-kept-in-Continuation g t c = λ m depth t P L A.
    continuing_turns (context_machine g.R.Holds.answers c.args.context.now) _ c.in-Continuation.names c.in-Continuation.node.value c.in-Continuation.node.value (λ P L S. S) (step c.args.context.now.dt c.args.value.now) c.args.meter.now c.step_observing.new.meter c.args.inside
    _ c.in_ok-kept-in-Continuation.kept c.step_observing.new.node.value c.step_observing.new.value _ c.take_over-in-Continuation.ensures c.in_ok-kept-in-Continuation.ensures m depth t P L (rw c.in-Continuation.is at A)

-- ## step_watching, step_observing

pub step_watching-returns-in-Some : goal.step_watching-returns-in-Some
step_watching-returns-in-Some g t c = λ m depth t T e L N W. c.step_switch.ensures m depth t T e L N (rw c.in-Some.ensures.value W)

pub step_watching-returns-in-None : goal.step_watching-returns-in-None
step_watching-returns-in-None g t c = c.step_watching_copy.ensures

pub step_watching_copy-returns-in-Err : goal.step_watching_copy-returns-in-Err
step_watching_copy-returns-in-Err g t c = λ m depth t T e L N W. early_memory (context_machine g.R.Holds.answers c.args.context.now) t c.stop.ensures.entered c.stop.ensures.height c.stop.ensures.fault

pub step_watching_copy-returns-in_err-over : goal.step_watching_copy-returns-in_err-over
step_watching_copy-returns-in_err-over g t c = λ m depth t T e L N W.
    pass_beside (context_machine g.R.Holds.answers c.args.context.now) _ _ _ c.from_residual.ensures.0 (failed (waits_alike (context_machine g.R.Holds.answers c.args.context.now) (Waits (context_machine g.R.Holds.answers c.args.context.now)) {k = c.args.node.now.value} (λ P L S. c.in-Ok.ensures (context_machine g.R.Holds.answers c.args.context.now) P L (rw c.deref.ensures S)) c.in_err-over.ensures m depth t T e L N W))

pub step_watching_copy-returns-in-Err-new : goal.step_watching_copy-returns-in-Err-new
step_watching_copy-returns-in-Err-new g t c =
    late_waiting (context_machine g.R.Holds.answers c.args.context.now) (Waits (context_machine g.R.Holds.answers c.args.context.now)) (waits_alike (context_machine g.R.Holds.answers c.args.context.now) (Waits (context_machine g.R.Holds.answers c.args.context.now)) {k = c.args.node.now.value} (λ P L S. c.in-Ok.ensures (context_machine g.R.Holds.answers c.args.context.now) P L (rw c.deref.ensures S)) c.in_ok-over.ensures) c.stop-in-Err-new.ensures.entered c.stop-in-Err-new.ensures.height c.stop-in-Err-new.ensures.fault

pub step_watching_copy-returns : goal.step_watching_copy-returns
step_watching_copy-returns g t c =
    rw c.in-Ok-new.ensures.ok (waits_alike (context_machine g.R.Holds.answers c.args.context.now) (Waits (context_machine g.R.Holds.answers c.args.context.now)) {k = c.args.node.now.value} (λ P L S. c.in-Ok.ensures (context_machine g.R.Holds.answers c.args.context.now) P L (rw c.deref.ensures S)) c.in_ok-over.ensures)

pub step_observing-returns-in-Some : goal.step_observing-returns-in-Some
step_observing-returns-in-Some g t c = λ m depth t T e L N W. c.step_continuing.ensures m depth t T e L N (rw c.in-Some.ensures.value W)

pub step_observing-returns-in-None : goal.step_observing-returns-in-None
step_observing-returns-in-None g t c = c.step_observing_copy.ensures

pub step_observing_copy-returns-in-Err : goal.step_observing_copy-returns-in-Err
step_observing_copy-returns-in-Err g t c = λ m depth t T e L N W. early_memory (context_machine g.R.Holds.answers c.args.context.now) t c.stop.ensures.entered c.stop.ensures.height c.stop.ensures.fault

pub step_observing_copy-returns-in_err-over : goal.step_observing_copy-returns-in_err-over
step_observing_copy-returns-in_err-over g t c = λ m depth t T e L N W.
    pass_beside (context_machine g.R.Holds.answers c.args.context.now) _ _ _ c.from_residual.ensures.0 (failed (waits_alike (context_machine g.R.Holds.answers c.args.context.now) (WaitsContinuation (context_machine g.R.Holds.answers c.args.context.now)) {k = c.args.node.now.value} (λ P L S. c.in-Ok.ensures (context_machine g.R.Holds.answers c.args.context.now) P L (rw c.deref.ensures S)) c.in_err-over.ensures m depth t T e L N W))

pub step_observing_copy-returns-in-Err-new : goal.step_observing_copy-returns-in-Err-new
step_observing_copy-returns-in-Err-new g t c =
    late_waiting (context_machine g.R.Holds.answers c.args.context.now) (WaitsContinuation (context_machine g.R.Holds.answers c.args.context.now)) (waits_alike (context_machine g.R.Holds.answers c.args.context.now) (WaitsContinuation (context_machine g.R.Holds.answers c.args.context.now)) {k = c.args.node.now.value} (λ P L S. c.in-Ok.ensures (context_machine g.R.Holds.answers c.args.context.now) P L (rw c.deref.ensures S)) c.in_ok-over.ensures) c.stop-in-Err-new.ensures.entered c.stop-in-Err-new.ensures.height c.stop-in-Err-new.ensures.fault

pub step_observing_copy-returns : goal.step_observing_copy-returns
step_observing_copy-returns g t c =
    rw c.in-Ok-new.ensures.ok (waits_alike (context_machine g.R.Holds.answers c.args.context.now) (WaitsContinuation (context_machine g.R.Holds.answers c.args.context.now)) {k = c.args.node.now.value} (λ P L S. c.in-Ok.ensures (context_machine g.R.Holds.answers c.args.context.now) P L (rw c.deref.ensures S)) c.in_ok-over.ensures)

-- ## step_other

pub step_other-returns-in_err-inside : goal.step_other-returns-in_err-inside
step_other-returns-in_err-inside g t c = λ P L A. pass_exit _ _ c.from_residual.ensures.0 (tick_fails (context_machine g.R.Holds.answers c.args.context.now) P _ c.in_err-inside.ensures.ticked)

pub step_other-returns-then-has_lived : goal.step_other-returns-then-has_lived
step_other-returns-then-has_lived g t c =
    counted_steps (context_machine g.R.Holds.answers c.args.context.now) c.args.state.now _ _ (ticked_by c.in_ok-inside.ensures.ticked) (awake_is (context_machine g.R.Holds.answers c.args.context.now) c.args.state.now (sym c.has_lived.ensures ∙ c.if-has_lived.true)) c.step_counted.ensures

-- ## step_unborn

pub step_unborn-returns : goal.step_unborn-returns
step_unborn-returns g t c = λ P L A. (rw c.replace-names.ensures.value at c.first_step.ensures) P L (rw c.in-Unborn.is at A)

-- ## first_step

pub first_step-returns-in_err-inside : goal.first_step-returns-in_err-inside
first_step-returns-in_err-inside g t c = λ P L A. pass_exit _ _ c.from_residual.ensures.0 (tick_fails (machine_around g.R.Holds.answers c.args.around.now) P _ c.in_err-inside.ensures.ticked)

pub first_step-returns-in-Primitive : goal.first_step-returns-in-Primitive
first_step-returns-in-Primitive g t c =
    first_counted (machine_around g.R.Holds.answers c.args.around.now) c.args.term c.args.around.now.names.now (dt_around c.args.around.now) c.args.value.now (ticked_by c.in_ok-inside.ensures.ticked) _ (c.first_primitive.ensures _ (rw c.in-Primitive.is at c.node.ensures.builds))

pub first_step-returns-in_default : goal.first_step-returns-in_default
first_step-returns-in_default g t c =
    term_counted (machine_around g.R.Holds.answers c.args.around.now) c.args.term c.args.around.now.names.now (dt_around c.args.around.now) c.args.value.now (ticked_by c.in_ok-inside.ensures.ticked) _ c.first_node.ensures

pub first_step-first_node-requires : goal.first_step-first_node-requires
first_step-first_node-requires g t c = λ κs lives. (omega (arith, c.in_ok-inside.ensures.deeper, c.in_ok-inside.ensures.low), (lives, λ q h. c.in_default.not-Primitive q (c.node.ensures.value ∙ h)))

-- ## first_node

pub first_node-returns-in-InSequence : goal.first_node-returns-in-InSequence
first_node-returns-in-InSequence g t c = c.first_sequence.ensures _ (parts_joined (machine_around g.R.Holds.answers c.args.around.now) InSequence c.in-Joined.left c.in-Joined.right _ (rw c.in-InSequence.is at (rw c.in-Joined.is at c.node-node.ensures.builds)))

pub first_node-returns-in-FannedOut : goal.first_node-returns-in-FannedOut
first_node-returns-in-FannedOut g t c = c.first_fan.ensures _ (parts_joined (machine_around g.R.Holds.answers c.args.around.now) FannedOut c.in-Joined.left c.in-Joined.right _ (rw c.in-FannedOut.is at (rw c.in-Joined.is at c.node-node.ensures.builds)))

pub first_node-returns-in-Some : goal.first_node-returns-in-Some
first_node-returns-in-Some g t c = c.first_sequence-in-Some.ensures _ (two_joined (machine_around g.R.Holds.answers c.args.around.now) _ _ c.in-Pipeline.stages _ (sym c.deref.ensures.value ∙ c.in-Some.ensures.present) (rw c.in-Pipeline.is at c.node-node.ensures.builds))

pub first_node-first_of_call-requires : goal.first_node-first_of_call-requires
first_node-first_of_call-requires g t c = λ κs lives. (
  omega arith,
  (
    lives,
    (
      rw c.deref-in-Call.ensures.value (coded_arguments (machine_around g.R.Holds.answers c.args.around.now) (rw c.in-Call.is at c.node-node.ensures.builds)),
      rw c.deref-in-Call.ensures.value (rw c.in-Call.is at c.node-node.ensures.asked),
    ),
  ),
)

pub first_node-returns-in-Call : goal.first_node-returns-in-Call
first_node-returns-in-Call g t c = c.first_of_call.ensures c.in-Call.field-0 c.in-Call.arguments _ (sym c.deref-in-Call.ensures.value) (rw c.in-Call.is at c.node-node.ensures.builds)

pub first_node-first_of_process-requires : goal.first_node-first_of_process-requires
first_node-first_of_process-requires g t c = λ κs lives. (omega arith, (lives, rw c.in-Started.is at c.node-node.ensures.asked))

pub first_node-returns-in-Started : goal.first_node-returns-in-Started
first_node-returns-in-Started g t c = c.first_of_process.ensures _ (rw c.in-Started.is at c.node-node.ensures.builds)

pub first_node-returns-in-Basic : goal.first_node-returns-in-Basic
first_node-returns-in-Basic g t c = c.first_basic.ensures _ (rw c.in-Switching.is at c.node-node.ensures.builds)

pub first_node-returns-in-Recurring : goal.first_node-returns-in-Recurring
first_node-returns-in-Recurring g t c = c.first_recurring.ensures _ (rw c.in-Switching.is at c.node-node.ensures.builds)

pub first_node-returns-in-Continuation : goal.first_node-returns-in-Continuation
first_node-returns-in-Continuation g t c = c.first_continuing.ensures _ (rw c.in-Continuation.is at c.node-node.ensures.builds)

-- ## first_other

pub first_other-returns-in-Err : goal.first_other-returns-in-Err
first_other-returns-in-Err g t c = λ u B m depth T e N. early_memory (machine_around g.R.Holds.answers c.args.around.now) T c.stop.ensures.entered c.stop.ensures.height c.stop.ensures.fault

pub first_other-returns-in-Ok-begin : goal.first_other-returns-in-Ok-begin
first_other-returns-in-Ok-begin g t c = λ u B.
    begun_steps (machine_around g.R.Holds.answers c.args.around.now) u c.args.around.now.names.now (dt_around c.args.around.now) c.args.value.now c.begin.new.state _ (λ e N. c.in-Ok-begin.ensures.begins u e B (c.in-Ok.ensures _ e N)) c.step_counted.ensures

pub first_other-returns-in-Err-begin : goal.first_other-returns-in-Err-begin
first_other-returns-in-Err-begin g t c = λ u B.
    begun_fails (machine_around g.R.Holds.answers c.args.around.now) u c.args.around.now.names.now (dt_around c.args.around.now) c.args.value.now c.stop-in-Err-begin.ensures.entered c.stop-in-Err-begin.ensures.height c.begin.new.state c.in-Err-begin.fault _ c.stop-in-Err-begin.ensures.fault
    (λ e N. c.in-Err-begin.ensures.begins u e B (c.in-Ok.ensures _ e N))

-- ## first_of_call

pub first_of_call-called-requires : goal.first_of_call-called-requires
first_of_call-called-requires g t c = record { coded = c.requires.coded; asked = c.requires.asked }

pub first_of_call-returns-in-Ok : goal.first_of_call-returns-in-Ok
first_of_call-returns-in-Ok g t c = λ k v u same B.
    let μ = machine_around g.R.Holds.answers c.args.around.now in
    call_steps μ k c.args.id v u c.args.around.now.names.now B (dt_around c.args.around.now) c.args.value.now c.in-Ok.names c.body-body.result _ (rw c.template.ensures.value at c.body-body.ensures) (λ e N. rw same (c.in-Ok.ensures e N)) c.first_step.ensures

pub first_of_call-returns-in-Err : goal.first_of_call-returns-in-Err
first_of_call-returns-in-Err g t c = λ k v u same B.
    let μ = machine_around g.R.Holds.answers c.args.around.now in
    call_fails μ k c.args.id v u c.args.around.now.names.now B (dt_around c.args.around.now) c.args.value.now c.stop.ensures.entered c.stop.ensures.height c.in-Err.fault _ c.stop.ensures.fault (λ e N. rw same (c.in-Err.ensures e N))

-- ## first_of_process

pub first_of_process-started-requires : goal.first_of_process-started-requires
first_of_process-started-requires g t c = c.requires

pub first_of_process-returns-in-Err : goal.first_of_process-returns-in-Err
first_of_process-returns-in-Err g t c = λ u B m depth T e N. early_memory (machine_around g.R.Holds.answers c.args.around.now) T c.stop.ensures.entered c.stop.ensures.height c.stop.ensures.fault

pub first_of_process-returns : goal.first_of_process-returns
first_of_process-returns g t c = λ u B.
    let μ = machine_around g.R.Holds.answers c.args.around.now in
    process_steps μ c.args.start c.args.name u c.args.around.now.names.now B (dt_around c.args.around.now) c.args.value.now c.in-Ok.value _ (c.in-Ok.ensures μ.answers) (rw c.put.ensures at c.step_state.ensures)

-- ## first_sequence

pub first_sequence-returns-in-Primitive-node : goal.first_sequence-returns-in-Primitive-node
first_sequence-returns-in-Primitive-node g t c = λ u J. c.first_two.ensures c.args.right u (rw c.in-Primitive.is at c.node.ensures.builds) (rw c.in-Primitive-node.is at c.node-in-Primitive.ensures.builds) J

pub first_sequence-returns-in_err-apart : goal.first_sequence-returns-in_err-apart
first_sequence-returns-in_err-apart g t c = λ u J m depth T e N.
    let μ = machine_around g.R.Holds.answers c.args.around.now in
    let d = dt_around c.args.around.now in
    let x = c.args.value.now in
    pass_exit _ _ c.from_residual.ensures.0 (joined_fails μ InSequence c.args.left c.args.right c.args.around.now.names.now u J d x _
    (join_left_fails μ InSequence _ _ c.args.meter.now c.first_split.new.meter c.args.around.now.inside d x x refl _ c.in_err-apart.ensures) m depth T e N)

pub first_sequence-returns-in_err-first_on_split : goal.first_sequence-returns-in_err-first_on_split
first_sequence-returns-in_err-first_on_split g t c = λ u J m depth T e N.
    let μ = machine_around g.R.Holds.answers c.args.around.now in
    let d = dt_around c.args.around.now in
    let x = c.args.value.now in
    pass_exit _ _ c.from_residual-in_err-first_on_split.ensures.0 (joined_fails μ InSequence c.args.left c.args.right c.args.around.now.names.now u J d x _
    (join_right_fails μ InSequence _ _ c.args.meter.now c.first_split.new.meter c.args.around.now.inside d x x refl
    c.first_split.new.state (whole_of c.in_ok-apart.apart c.first_split.new.value) (whole_of c.in_ok-apart.apart c.first_split.new.value) refl c.in_ok-apart.ensures c.first_on_split.new.meter _ c.in_err-first_on_split.ensures) m depth T e N)

pub first_sequence-returns-in-Err : goal.first_sequence-returns-in-Err
first_sequence-returns-in-Err g t c = λ u J.
    let μ = machine_around g.R.Holds.answers c.args.around.now in
    let d = dt_around c.args.around.now in
    let x = c.args.value.now in
    joined_late μ InSequence c.args.left c.args.right c.args.around.now.names.now u J d x
    (join_steps μ InSequence _ _ c.args.meter.now c.first_split.new.meter c.args.around.now.inside d x x refl
    c.first_split.new.state (whole_of c.in_ok-apart.apart c.first_split.new.value) (whole_of c.in_ok-apart.apart c.first_split.new.value) refl c.in_ok-apart.ensures
    c.first_on_split.new.meter c.first_on_split.new.state c.first_on_split.new.value c.first_on_split.new.value refl c.in_ok-first_on_split.ensures)
    c.stop.ensures.entered c.stop.ensures.height c.stop.ensures.fault

pub first_sequence-returns : goal.first_sequence-returns
unfolding live_nodes.out-Live denote.Hole.Carrier.out
first_sequence-returns g t c = λ u J.
    let μ = machine_around g.R.Holds.answers c.args.around.now in
    let d = dt_around c.args.around.now in
    let x = c.args.value.now in
    joined_steps μ InSequence c.args.left c.args.right c.args.around.now.names.now u J d x _ c.put_live.new.state _ (λ e N S. c.in-Ok.ensures μ u e _ N S)
    (join_steps μ InSequence _ _ c.args.meter.now c.first_split.new.meter c.args.around.now.inside d x x refl
    c.first_split.new.state (whole_of c.in_ok-apart.apart c.first_split.new.value) (whole_of c.in_ok-apart.apart c.first_split.new.value) refl c.in_ok-apart.ensures
    c.first_on_split.new.meter c.first_on_split.new.state c.first_on_split.new.value c.first_on_split.new.value refl c.in_ok-first_on_split.ensures)

-- ## first_split

pub first_split-returns-in_err-inside : goal.first_split-returns-in_err-inside
first_split-returns-in_err-inside g t c = λ P L A. pass_split _ _ _ c.from_residual.ensures.0 (tick_fails (machine_around g.R.Holds.answers c.args.around.now) P _ c.in_err-inside.ensures.ticked)

pub first_split-returns-in_err-first : goal.first_split-returns-in_err-first
first_split-returns-in_err-first g t c = λ P L A.
    let μ = machine_around g.R.Holds.answers c.args.around.now in
    pass_split _ _ _ c.from_residual-in_err-first.ensures.0 (failed (term_counted μ c.args.term c.args.around.now.names.now (dt_around c.args.around.now) c.args.value.now (ticked_by c.in_ok-inside.ensures.ticked) _
    (c.in_err-first.ensures _ (parts_joined μ FannedOut c.in-Joined.left c.in-Joined.right _ (rw c.in-FannedOut.is at (rw c.in-Joined.is at c.node.ensures.builds)))) P L A))

pub first_split-returns-in-FannedOut : goal.first_split-returns-in-FannedOut
first_split-returns-in-FannedOut g t c =
    let μ = machine_around g.R.Holds.answers c.args.around.now in
    term_counted μ c.args.term c.args.around.now.names.now (dt_around c.args.around.now) c.args.value.now (ticked_by c.in_ok-inside.ensures.ticked) _
    (c.in_ok-first.ensures _ (parts_joined μ FannedOut c.in-Joined.left c.in-Joined.right _ (rw c.in-FannedOut.is at (rw c.in-Joined.is at c.node.ensures.builds))))

pub first_split-returns-in_err-first_step : goal.first_split-returns-in_err-first_step
first_split-returns-in_err-first_step g t c = λ P L A. pass_split _ _ _ c.from_residual-in_err-first_step.ensures.0 (failed (c.in_err-first_step.ensures P L A))

pub first_split-returns : goal.first_split-returns
first_split-returns g t c = c.in_ok-first_step.ensures

-- ## first_on_split

pub first_on_split-returns-in-None : goal.first_on_split-returns-in-None
first_on_split-returns-in-None g t c = rw c.in-None.is c.first_step.ensures

pub first_on_split-returns-in_err-given-in-Some : goal.first_on_split-returns-in_err-given-in-Some
first_on_split-returns-in_err-given-in-Some g t c = rw c.in-Some.is (λ P L A. pass_exit _ _ c.from_residual.ensures.0 (failed (c.in_err-given-in-Some.ensures P L A)))

pub first_on_split-returns-in_ok-given-in-Some : goal.first_on_split-returns-in_ok-given-in-Some
first_on_split-returns-in_ok-given-in-Some g t c = rw c.in-Some.is c.in_ok-given-in-Some.ensures

-- ## first_halves

pub first_halves-returns-in-Err : goal.first_halves-returns-in-Err
first_halves-returns-in-Err g t c = λ u J m depth T e N. early_memory (machine_around g.R.Holds.answers c.args.around.now) T c.stop.ensures.entered c.stop.ensures.height c.stop.ensures.fault

pub first_halves-returns-in_err-first_step : goal.first_halves-returns-in_err-first_step
first_halves-returns-in_err-first_step g t c = λ u J m depth T e N.
    let μ = machine_around g.R.Holds.answers c.args.around.now in
    let d = dt_around c.args.around.now in
    let x = c.args.value.now in
    pass_apart _ _ _ c.from_residual.ensures.0 (joined_fails μ FannedOut c.args.left c.args.right c.args.around.now.names.now u J d x _
    (join_left_fails μ FannedOut _ _ c.args.meter.now c.first_step.new.meter c.args.around.now.inside d x c.in-Ok.value c.in-Ok.ensures _ c.in_err-first_step.ensures) m depth T e N)

pub first_halves-returns-in_err-first_step-2 : goal.first_halves-returns-in_err-first_step-2
first_halves-returns-in_err-first_step-2 g t c = λ u J m depth T e N.
    let μ = machine_around g.R.Holds.answers c.args.around.now in
    let d = dt_around c.args.around.now in
    let x = c.args.value.now in
    pass_apart _ _ _ c.from_residual-in_err-first_step-2.ensures.0 (joined_fails μ FannedOut c.args.left c.args.right c.args.around.now.names.now u J d x _
    (join_right_fails μ FannedOut _ _ c.args.meter.now c.first_step.new.meter c.args.around.now.inside d x c.in-Ok.value c.in-Ok.ensures
    c.first_step.new.state c.first_step.new.value x refl c.in_ok-first_step.ensures c.first_step-2.new.meter _ c.in_err-first_step-2.ensures) m depth T e N)

pub first_halves-returns-in-Err-put_live : goal.first_halves-returns-in-Err-put_live
first_halves-returns-in-Err-put_live g t c = λ u J.
    let μ = machine_around g.R.Holds.answers c.args.around.now in
    let d = dt_around c.args.around.now in
    let x = c.args.value.now in
    joined_late μ FannedOut c.args.left c.args.right c.args.around.now.names.now u J d x
    (join_steps μ FannedOut _ _ c.args.meter.now c.first_step.new.meter c.args.around.now.inside d x c.in-Ok.value c.in-Ok.ensures
    c.first_step.new.state c.first_step.new.value x refl c.in_ok-first_step.ensures
    c.first_step-2.new.meter c.first_step-2.new.state c.first_step-2.new.value _ refl c.in_ok-first_step-2.ensures)
    c.stop-in-Err-put_live.ensures.entered c.stop-in-Err-put_live.ensures.height c.stop-in-Err-put_live.ensures.fault

pub first_halves-returns : goal.first_halves-returns
unfolding live_nodes.out-Live denote.Hole.Carrier.out
first_halves-returns g t c = λ u J.
    let μ = machine_around g.R.Holds.answers c.args.around.now in
    let d = dt_around c.args.around.now in
    let x = c.args.value.now in
    joined_steps μ FannedOut c.args.left c.args.right c.args.around.now.names.now u J d x _ c.put_live.new.state _ (λ e N S. c.in-Ok-put_live.ensures μ u e _ N S)
    (join_steps μ FannedOut _ _ c.args.meter.now c.first_step.new.meter c.args.around.now.inside d x c.in-Ok.value c.in-Ok.ensures
    c.first_step.new.state c.first_step.new.value x refl c.in_ok-first_step.ensures
    c.first_step-2.new.meter c.first_step-2.new.state c.first_step-2.new.value _ refl c.in_ok-first_step-2.ensures)

-- ## first_fan

pub first_fan-returns-in_err-first : goal.first_fan-returns-in_err-first
first_fan-returns-in_err-first g t c = λ u J m depth T e N. pass_exit _ _ c.from_residual.ensures.0 (failed (c.in_err-first.ensures u J m depth T e N))

pub first_fan-returns-in-Err : goal.first_fan-returns-in-Err
first_fan-returns-in-Err g t c = λ u J.
    late_term (machine_around g.R.Holds.answers c.args.around.now) u c.args.around.now.names.now (dt_around c.args.around.now) c.args.value.now (c.in_ok-first.ensures u J) c.stop.ensures.entered c.stop.ensures.height c.stop.ensures.fault

pub first_fan-returns : goal.first_fan-returns
first_fan-returns g t c = λ u J. rw (rw c.replace-second.ensures.value at c.in-Ok.ensures) (c.in_ok-first.ensures u J)

-- ## step_unborn_apart

pub step_unborn_apart-returns : goal.step_unborn_apart-returns
step_unborn_apart-returns g t c = rw c.in-Unborn.is (rw c.replace-names.ensures.value at c.first_apart.ensures)

-- ## first_apart

pub first_apart-returns-in_err-inside : goal.first_apart-returns-in_err-inside
first_apart-returns-in_err-inside g t c = stops_apart c.from_residual.ensures.0 (λ P L A. fails (tick_fails (machine_around g.R.Holds.answers c.args.around.now) P _ c.in_err-inside.ensures.ticked))

pub first_apart-returns-in_err-first : goal.first_apart-returns-in_err-first
first_apart-returns-in_err-first g t c =
    let μ = machine_around g.R.Holds.answers c.args.around.now in
    stops_apart c.from_residual-in_err-first.ensures.0 (term_counted μ c.args.term c.args.around.now.names.now (dt_around c.args.around.now) c.args.value.now (ticked_by c.in_ok-inside.ensures.ticked) _
    (c.in_err-first.ensures _ (parts_joined μ FannedOut c.in-Joined.left c.in-Joined.right _ (rw c.in-FannedOut.is at (rw c.in-Joined.is at c.node.ensures.builds)))))

pub first_apart-returns-in-FannedOut : goal.first_apart-returns-in-FannedOut
first_apart-returns-in-FannedOut g t c =
    let μ = machine_around g.R.Holds.answers c.args.around.now in
    apart {y = pair c.in_ok-first.first c.first_halves.new.value} (term_counted μ c.args.term c.args.around.now.names.now (dt_around c.args.around.now) c.args.value.now (ticked_by c.in_ok-inside.ensures.ticked) _
    (c.in_ok-first.ensures _ (parts_joined μ FannedOut c.in-Joined.left c.in-Joined.right _ (rw c.in-FannedOut.is at (rw c.in-Joined.is at c.node.ensures.builds))))) refl (rw c.replace-second.ensures.value at c.payload_of.ensures)

pub first_apart-returns-in_err-first_step : goal.first_apart-returns-in_err-first_step
first_apart-returns-in_err-first_step g t c = stops_apart c.from_residual-in_err-first_step.ensures.0 c.in_err-first_step.ensures

pub first_apart-returns : goal.first_apart-returns
first_apart-returns g t c =
    let μ = machine_around g.R.Holds.answers c.args.around.now in
    taken (λ s n. StateSteps μ (Unborn (closed_over c.args.term c.args.around.now.names.now)) (step (dt_around c.args.around.now) c.args.value.now) s c.args.meter.now n c.args.around.now.inside) c.in_ok-first_step.ensures (late_part μ c.in_ok-first_step.ensures) c.taken_apart.ensures

-- ## first_basic

pub first_basic-returns-in-Err : goal.first_basic-returns-in-Err
first_basic-returns-in-Err g t c = λ u B m depth T e N. early_memory (machine_around g.R.Holds.answers c.args.around.now) T c.stop.ensures.entered c.stop.ensures.height c.stop.ensures.fault

pub first_basic-returns-in_err-old : goal.first_basic-returns-in_err-old
first_basic-returns-in_err-old g t c = λ u B m depth T e N.
    let μ = machine_around g.R.Holds.answers c.args.around.now in
    let s = c.args.form.now in
    let names = c.args.around.now.names.now in
    pass_exit _ _ c.from_residual.ensures.0 (source_fails μ names (new_switch s names) (observation_of s.form) c.requires (step (dt_around c.args.around.now) c.args.value.now) c.args.meter.now c.first_apart.new.meter c.args.around.now.inside
    _ (gives_no_value c.in_err-old.ensures) m depth T u e [] N (switch_waits μ s u names B e N))

pub first_basic-returns-in-Err-share : goal.first_basic-returns-in-Err-share
first_basic-returns-in-Err-share g t c = λ u B m depth T e N.
    let μ = machine_around g.R.Holds.answers c.args.around.now in
    let s = c.args.form.now in
    let names = c.args.around.now.names.now in
    let h = gives_value c.in_ok-old.ensures in
    memory_exit c.stop-in-Err-share.ensures.fault (switch_memory μ names (new_switch s names) (observation_of s.form) c.requires (step (dt_around c.args.around.now) c.args.value.now) c.args.meter.now c.first_apart.new.meter c.args.around.now.inside
    c.first_apart.new.state h.y h.steps _ c.stop-in-Err-share.ensures.entered c.stop-in-Err-share.ensures.height m depth T u e [] N (switch_waits μ s u names B e N))

pub first_basic-returns-in-Err-new : goal.first_basic-returns-in-Err-new
first_basic-returns-in-Err-new g t c = λ u B m depth T e N.
    let μ = machine_around g.R.Holds.answers c.args.around.now in
    let s = c.args.form.now in
    let names = c.args.around.now.names.now in
    let h = gives_value c.in_ok-old.ensures in
    memory_exit c.stop-in-Err-new.ensures.fault (switch_memory μ names (new_switch s names) (observation_of s.form) c.requires (step (dt_around c.args.around.now) c.args.value.now) c.args.meter.now c.first_apart.new.meter c.args.around.now.inside
    c.first_apart.new.state h.y h.steps _ c.stop-in-Err-new.ensures.entered c.stop-in-Err-new.ensures.height m depth T u e [] N (switch_waits μ s u names B e N))

pub first_basic-returns-in-Ok-new : goal.first_basic-returns-in-Ok-new
first_basic-returns-in-Ok-new g t c = λ u B.
    let μ = machine_around g.R.Holds.answers c.args.around.now in
    let s = c.args.form.now in
    let names = c.args.around.now.names.now in
    let h = gives_value c.in_ok-old.ensures in
    rw c.put.ensures (term_on μ (Waits μ) names (new_switch s names) u (switch_waits μ s u names B) _ (λ e N W. watching (c.in-Ok-share.ensures μ e N) W)
    (switch_waits_on μ names (new_switch s names) (observation_of s.form) c.requires (step (dt_around c.args.around.now) c.args.value.now) c.args.meter.now c.first_apart.new.meter c.args.around.now.inside
    c.first_apart.new.state h.y h.steps (none_occurs _ c.in_ok-old.occurring (second_of h.y) h.event c.in-None.is)
    c.in_ok-old.old h.first c.in-Ok-new.value.value c.in-Ok-new.ensures.ok))

pub first_basic-returns-in-Err-inside : goal.first_basic-returns-in-Err-inside
first_basic-returns-in-Err-inside g t c = λ u B m depth T e N.
    let μ = machine_around g.R.Holds.answers c.args.around.now in
    let s = c.args.form.now in
    let names = c.args.around.now.names.now in
    let h = gives_value c.in_ok-old.ensures in
    memory_exit c.stop-in-Err-inside.ensures.fault (switch_memory μ names (new_switch s names) (observation_of s.form) c.requires (step (dt_around c.args.around.now) c.args.value.now) c.args.meter.now c.first_apart.new.meter c.args.around.now.inside
    c.first_apart.new.state h.y h.steps _ c.stop-in-Err-inside.ensures.entered c.stop-in-Err-inside.ensures.height m depth T u e [] N (switch_waits μ s u names B e N))

pub first_basic-returns-in_err-first_step-in-Some : goal.first_basic-returns-in_err-first_step-in-Some
first_basic-returns-in_err-first_step-in-Some g t c = λ u B m depth T e N.
    let μ = machine_around g.R.Holds.answers c.args.around.now in
    let s = c.args.form.now in
    let names = c.args.around.now.names.now in
    let h = gives_value c.in_ok-old.ensures in
    pass_exit _ _ c.from_residual-in_err-first_step-in-Some.ensures.0 (body_fails μ names (new_switch s names) (observation_of s.form) c.requires (step (dt_around c.args.around.now) c.args.value.now) c.args.meter.now c.first_apart.new.meter c.args.around.now.inside
    c.first_apart.new.state h.y h.steps (bound_value c.in-Some.payload) (some_occurs _ c.in_ok-old.occurring c.in-Some.payload (second_of h.y) h.event c.in-Some.is)
    _ (λ e N. itself (unborn (is_closure (alike_itself _) (c.in-Ok-inside.ensures μ.answers e N)))) c.first_step.new.meter _ (rw c.in-Ok.ensures at c.in_err-first_step-in-Some.ensures) m depth T u e [] N (switch_waits μ s u names B e N))

pub first_basic-returns-in_ok-first_step-in-Some : goal.first_basic-returns-in_ok-first_step-in-Some
first_basic-returns-in_ok-first_step-in-Some g t c = λ u B.
    let μ = machine_around g.R.Holds.answers c.args.around.now in
    let s = c.args.form.now in
    let names = c.args.around.now.names.now in
    let h = gives_value c.in_ok-old.ensures in
    term_over μ (Waits μ) names (new_switch s names) u (switch_waits μ s u names B)
    (body_takes_over μ names (new_switch s names) (observation_of s.form) c.requires (step (dt_around c.args.around.now) c.args.value.now) c.args.meter.now c.first_apart.new.meter c.args.around.now.inside
    c.first_apart.new.state h.y h.steps (bound_value c.in-Some.payload) (some_occurs _ c.in_ok-old.occurring c.in-Some.payload (second_of h.y) h.event c.in-Some.is)
    _ (λ e N. itself (unborn (is_closure (alike_itself _) (c.in-Ok-inside.ensures μ.answers e N)))) c.first_step.new.meter
    c.first_step.new.state c.first_step.new.value _ (rw c.shown_by.ensures at c.show.ensures ∙ ap (λ d. switched_value (observation_of s.form) d c.first_step.new.value) h.first) (new_switch s names)
    (rw c.in-Ok.ensures at c.in_ok-first_step-in-Some.ensures))

-- ## first_recurring

pub first_recurring-returns-in-Err : goal.first_recurring-returns-in-Err
first_recurring-returns-in-Err g t c = λ u B m depth T e N. early_memory (machine_around g.R.Holds.answers c.args.around.now) T c.stop.ensures.entered c.stop.ensures.height c.stop.ensures.fault

pub first_recurring-returns-in_err-step_recurring : goal.first_recurring-returns-in_err-step_recurring
first_recurring-returns-in_err-step_recurring g t c = λ u B m depth T e N.
    let μ = machine_around g.R.Holds.answers c.args.around.now in
    pass_exit _ _ c.from_residual.ensures.0 (failed (c.in_err-step_recurring.ensures m depth T u e [] N (switch_waits μ c.args.form.now u c.in-Ok.value B e (c.in-Ok.ensures μ e N))))

pub first_recurring-returns-in-Err-share : goal.first_recurring-returns-in-Err-share
first_recurring-returns-in-Err-share g t c = λ u B m depth T e N.
    let μ = machine_around g.R.Holds.answers c.args.around.now in
    fails (failed (late_waiting μ (Waits μ) c.in_ok-step_recurring.ensures c.stop-in-Err-share.ensures.entered c.stop-in-Err-share.ensures.height c.stop-in-Err-share.ensures.fault m depth T u e [] N (switch_waits μ c.args.form.now u c.in-Ok.value B e (c.in-Ok.ensures μ e N))))

pub first_recurring-returns-in-Err-new : goal.first_recurring-returns-in-Err-new
first_recurring-returns-in-Err-new g t c = λ u B m depth T e N.
    let μ = machine_around g.R.Holds.answers c.args.around.now in
    fails (failed (late_waiting μ (Waits μ) c.in_ok-step_recurring.ensures c.stop-in-Err-new.ensures.entered c.stop-in-Err-new.ensures.height c.stop-in-Err-new.ensures.fault m depth T u e [] N (switch_waits μ c.args.form.now u c.in-Ok.value B e (c.in-Ok.ensures μ e N))))

pub first_recurring-returns : goal.first_recurring-returns
first_recurring-returns g t c = λ u B.
    let μ = machine_around g.R.Holds.answers c.args.around.now in
    rw c.put.ensures (term_on μ (Waits μ) c.args.around.now.names.now (new_switch c.args.form.now c.in-Ok.value) u (λ e N. switch_waits μ c.args.form.now u c.in-Ok.value B e (c.in-Ok.ensures μ e N)) _
    (λ e N W. watching (c.in-Ok-share.ensures μ e N) (rw c.in-Ok-new.ensures.ok W)) c.in_ok-step_recurring.ensures)

-- ## first_continuing

pub first_continuing-returns-in-Err : goal.first_continuing-returns-in-Err
first_continuing-returns-in-Err g t c = λ u B m depth T e N. early_memory (machine_around g.R.Holds.answers c.args.around.now) T c.stop.ensures.entered c.stop.ensures.height c.stop.ensures.fault

pub first_continuing-returns-in-Err-clone_in : goal.first_continuing-returns-in-Err-clone_in
first_continuing-returns-in-Err-clone_in g t c = λ u B m depth T e N. early_memory (machine_around g.R.Holds.answers c.args.around.now) T c.stop-in-Err-clone_in.ensures.entered c.stop-in-Err-clone_in.ensures.height c.stop-in-Err-clone_in.ensures.fault

pub first_continuing-returns-in_err-first_step : goal.first_continuing-returns-in_err-first_step
first_continuing-returns-in_err-first_step g t c = λ u B m depth T e N.
    let μ = machine_around g.R.Holds.answers c.args.around.now in
    let d = dt_around c.args.around.now in
    let x = c.args.value.now in
    let names = c.args.around.now.names.now in
    let k = new_continuation c.args.form.now c.in-Ok.value (Unborn c.in-Ok.value) names in
    pass_exit _ _ c.from_residual.ensures.0 (kept_fails μ names k d x c.args.meter.now c.first_step.new.meter c.args.around.now.inside
    _ c.in_err-first_step.ensures m depth T u e [] N (continuation_waits μ c.args.form.now u c.in-Ok.value (Unborn c.in-Ok.value) names B e N (c.in-Ok.ensures μ.answers e N)))

pub first_continuing-returns-in_err-seen : goal.first_continuing-returns-in_err-seen
first_continuing-returns-in_err-seen g t c = λ u B m depth T e N.
    let μ = machine_around g.R.Holds.answers c.args.around.now in
    let d = dt_around c.args.around.now in
    let x = c.args.value.now in
    let names = c.args.around.now.names.now in
    let k = new_continuation c.args.form.now c.in-Ok.value (Unborn c.in-Ok.value) names in
    pass_exit _ _ c.from_residual-in_err-seen.ensures.0 (observer_fails μ names k d x c.args.meter.now c.first_step.new.meter c.args.around.now.inside
    c.first_step.new.state c.first_step.new.value c.in_ok-first_step.ensures (pair c.in-Ok-clone_in.value c.first_step.new.value) (ap (λ (i : Data). pair i c.first_step.new.value) c.in-Ok-clone_in.ensures) c.first_beside.new.meter
    _ c.in_err-seen.ensures m depth T u e [] N (continuation_waits μ c.args.form.now u c.in-Ok.value (Unborn c.in-Ok.value) names B e N (c.in-Ok.ensures μ.answers e N)))

pub first_continuing-returns-in-Err-share : goal.first_continuing-returns-in-Err-share
first_continuing-returns-in-Err-share g t c = λ u B m depth T e N.
    let μ = machine_around g.R.Holds.answers c.args.around.now in
    let d = dt_around c.args.around.now in
    let x = c.args.value.now in
    let names = c.args.around.now.names.now in
    let k = new_continuation c.args.form.now c.in-Ok.value (Unborn c.in-Ok.value) names in
    memory_exit c.stop-in-Err-share.ensures.fault (observer_memory μ names k d x c.args.meter.now c.first_step.new.meter c.args.around.now.inside
    c.first_step.new.state c.first_step.new.value c.in_ok-first_step.ensures (pair c.in-Ok-clone_in.value c.first_step.new.value) (ap (λ (i : Data). pair i c.first_step.new.value) c.in-Ok-clone_in.ensures) c.first_beside.new.meter
    c.first_beside.new.state c.in_ok-seen.seen c.in_ok-seen.ensures _ c.stop-in-Err-share.ensures.entered c.stop-in-Err-share.ensures.height m depth T u e [] N (continuation_waits μ c.args.form.now u c.in-Ok.value (Unborn c.in-Ok.value) names B e N (c.in-Ok.ensures μ.answers e N)))

pub first_continuing-returns-in-Err-new : goal.first_continuing-returns-in-Err-new
first_continuing-returns-in-Err-new g t c = λ u B m depth T e N.
    let μ = machine_around g.R.Holds.answers c.args.around.now in
    let d = dt_around c.args.around.now in
    let x = c.args.value.now in
    let names = c.args.around.now.names.now in
    let k = new_continuation c.args.form.now c.in-Ok.value (Unborn c.in-Ok.value) names in
    memory_exit c.stop-in-Err-new.ensures.fault (observer_memory μ names k d x c.args.meter.now c.first_step.new.meter c.args.around.now.inside
    c.first_step.new.state c.first_step.new.value c.in_ok-first_step.ensures (pair c.in-Ok-clone_in.value c.first_step.new.value) (ap (λ (i : Data). pair i c.first_step.new.value) c.in-Ok-clone_in.ensures) c.first_beside.new.meter
    c.first_beside.new.state c.in_ok-seen.seen c.in_ok-seen.ensures _ c.stop-in-Err-new.ensures.entered c.stop-in-Err-new.ensures.height m depth T u e [] N (continuation_waits μ c.args.form.now u c.in-Ok.value (Unborn c.in-Ok.value) names B e N (c.in-Ok.ensures μ.answers e N)))

pub first_continuing-returns-in-Ok-new : goal.first_continuing-returns-in-Ok-new
first_continuing-returns-in-Ok-new g t c = λ u B.
    let μ = machine_around g.R.Holds.answers c.args.around.now in
    let d = dt_around c.args.around.now in
    let x = c.args.value.now in
    let names = c.args.around.now.names.now in
    let k = new_continuation c.args.form.now c.in-Ok.value (Unborn c.in-Ok.value) names in
    rw c.put.ensures (term_on μ (WaitsContinuation μ) names k u (λ e N. continuation_waits μ c.args.form.now u c.in-Ok.value (Unborn c.in-Ok.value) names B e N (c.in-Ok.ensures μ.answers e N)) _ (λ e N W. continuing_on (c.in-Ok-share.ensures μ e N) W)
    (keeps_on μ names k d x c.args.meter.now c.first_step.new.meter c.args.around.now.inside
    c.first_step.new.state c.first_step.new.value c.in_ok-first_step.ensures (pair c.in-Ok-clone_in.value c.first_step.new.value) (ap (λ (i : Data). pair i c.first_step.new.value) c.in-Ok-clone_in.ensures) c.first_beside.new.meter
    c.first_beside.new.state c.in_ok-seen.seen c.in_ok-seen.ensures (none_occurs _ c.payload_of.result c.in_ok-seen.seen c.payload_of.ensures c.in-None.is) _ c.in-Ok-new.value.value c.in-Ok-new.ensures.ok))

pub first_continuing-returns-in-Err-begin : goal.first_continuing-returns-in-Err-begin
first_continuing-returns-in-Err-begin g t c = λ u B m depth T e N.
    let μ = machine_around g.R.Holds.answers c.args.around.now in
    let d = dt_around c.args.around.now in
    let x = c.args.value.now in
    let names = c.args.around.now.names.now in
    let k = new_continuation c.args.form.now c.in-Ok.value (Unborn c.in-Ok.value) names in
    memory_exit c.stop-in-Err-begin.ensures.fault (observer_memory μ names k d x c.args.meter.now c.first_step.new.meter c.args.around.now.inside
    c.first_step.new.state c.first_step.new.value c.in_ok-first_step.ensures (pair c.in-Ok-clone_in.value c.first_step.new.value) (ap (λ (i : Data). pair i c.first_step.new.value) c.in-Ok-clone_in.ensures) c.first_beside.new.meter
    c.first_beside.new.state c.in_ok-seen.seen c.in_ok-seen.ensures _ c.stop-in-Err-begin.ensures.entered c.stop-in-Err-begin.ensures.height m depth T u e [] N (continuation_waits μ c.args.form.now u c.in-Ok.value (Unborn c.in-Ok.value) names B e N (c.in-Ok.ensures μ.answers e N)))

pub first_continuing-returns-in_err-first_step-in-Some : goal.first_continuing-returns-in_err-first_step-in-Some
first_continuing-returns-in_err-first_step-in-Some g t c = λ u B m depth T e N.
    let μ = machine_around g.R.Holds.answers c.args.around.now in
    let d = dt_around c.args.around.now in
    let x = c.args.value.now in
    let names = c.args.around.now.names.now in
    let k = new_continuation c.args.form.now c.in-Ok.value (Unborn c.in-Ok.value) names in
    pass_exit _ _ c.from_residual-in_err-first_step-in-Some.ensures.0 (kept_body_fails μ names k d x c.args.meter.now c.first_step.new.meter c.args.around.now.inside
    c.first_step.new.state c.first_step.new.value c.in_ok-first_step.ensures (pair c.in-Ok-clone_in.value c.first_step.new.value) (ap (λ (i : Data). pair i c.first_step.new.value) c.in-Ok-clone_in.ensures) c.first_beside.new.meter
    c.first_beside.new.state c.in_ok-seen.seen c.in_ok-seen.ensures (bound_value c.in-Some.payload) (some_occurs _ c.payload_of.result c.in-Some.payload c.in_ok-seen.seen c.payload_of.ensures c.in-Some.is)
    (Unborn c.in-Ok-begin.value) (c.in-Ok-begin.ensures μ.answers) c.in-Ok-clone_in.value c.in-Ok-clone_in.ensures c.first_step-in-Some.new.meter
    _ c.in_err-first_step-in-Some.ensures m depth T u e [] N (continuation_waits μ c.args.form.now u c.in-Ok.value (Unborn c.in-Ok.value) names B e N (c.in-Ok.ensures μ.answers e N)))

pub first_continuing-returns-in_ok-first_step-in-Some : goal.first_continuing-returns-in_ok-first_step-in-Some
first_continuing-returns-in_ok-first_step-in-Some g t c = λ u B.
    let μ = machine_around g.R.Holds.answers c.args.around.now in
    let d = dt_around c.args.around.now in
    let x = c.args.value.now in
    let names = c.args.around.now.names.now in
    let k = new_continuation c.args.form.now c.in-Ok.value (Unborn c.in-Ok.value) names in
    term_over μ (WaitsContinuation μ) names k u (λ e N. continuation_waits μ c.args.form.now u c.in-Ok.value (Unborn c.in-Ok.value) names B e N (c.in-Ok.ensures μ.answers e N))
    (continuation_takes_over μ names k d x c.args.meter.now c.first_step.new.meter c.args.around.now.inside
    c.first_step.new.state c.first_step.new.value c.in_ok-first_step.ensures (pair c.in-Ok-clone_in.value c.first_step.new.value) (ap (λ (i : Data). pair i c.first_step.new.value) c.in-Ok-clone_in.ensures) c.first_beside.new.meter
    c.first_beside.new.state c.in_ok-seen.seen c.in_ok-seen.ensures (bound_value c.in-Some.payload) (some_occurs _ c.payload_of.result c.in-Some.payload c.in_ok-seen.seen c.payload_of.ensures c.in-Some.is)
    (Unborn c.in-Ok-begin.value) (c.in-Ok-begin.ensures μ.answers) c.in-Ok-clone_in.value c.in-Ok-clone_in.ensures c.first_step-in-Some.new.meter
    c.first_step-in-Some.new.state c.first_step-in-Some.new.value _ c.show.ensures k c.in_ok-first_step-in-Some.ensures)

-- ## step_switch

pub step_switch-returns-in_err-step_recurring-in-Recurring : goal.step_switch-returns-in_err-step_recurring-in-Recurring
step_switch-returns-in_err-step_recurring-in-Recurring g t c = λ m depth t T e L N W.
    pass_beside (context_machine g.R.Holds.answers c.args.context.now) _ _ _ c.from_residual.ensures.0 (failed (c.in_err-step_recurring-in-Recurring.ensures m depth t T e L N W))

-- ## step_basic

pub step_basic-returns-in-Err : goal.step_basic-returns-in-Err
step_basic-returns-in-Err g t c = λ m depth t T e L N W. early_memory (context_machine g.R.Holds.answers c.args.context.now) t c.stop.ensures.entered c.stop.ensures.height c.stop.ensures.fault

pub step_basic-returns-in_err-old : goal.step_basic-returns-in_err-old
step_basic-returns-in_err-old g t c = λ m depth t T e L N W.
    pass_beside (context_machine g.R.Holds.answers c.args.context.now) _ _ _ c.from_residual.ensures.0 (source_fails (context_machine g.R.Holds.answers c.args.context.now) c.args.names.now c.args.switch.now (observation_of c.args.switch.now.form) c.requires.form (step c.args.context.now.dt c.args.value.now) c.args.meter.now c.step_apart.new.meter c.args.inside
    _ (gives_no_value c.in_err-old.ensures) m depth t T e L N W)

pub step_basic-returns-in-None : goal.step_basic-returns-in-None
step_basic-returns-in-None g t c =
    let h = gives_value c.in_ok-old.ensures in
    switch_waits_on (context_machine g.R.Holds.answers c.args.context.now) c.args.names.now c.args.switch.now (observation_of c.args.switch.now.form) c.requires.form (step c.args.context.now.dt c.args.value.now) c.args.meter.now c.step_apart.new.meter c.args.inside
    c.step_apart.new.state h.y h.steps (none_occurs _ c.in_ok-old.occurring (second_of h.y) h.event c.in-None.is)
    c.in_ok-old.old h.first _ refl

pub step_basic-returns-in-Err-begin : goal.step_basic-returns-in-Err-begin
step_basic-returns-in-Err-begin g t c = λ m depth t T e L N W.
    let h = gives_value c.in_ok-old.ensures in
    memory_exit c.stop-in-Err-begin.ensures.fault (switch_memory (context_machine g.R.Holds.answers c.args.context.now) c.args.names.now c.args.switch.now (observation_of c.args.switch.now.form) c.requires.form (step c.args.context.now.dt c.args.value.now) c.args.meter.now c.step_apart.new.meter c.args.inside
    c.step_apart.new.state h.y h.steps _ c.stop-in-Err-begin.ensures.entered c.stop-in-Err-begin.ensures.height m depth t T e L N W)

pub step_basic-returns-in_err-first_step-in-Some : goal.step_basic-returns-in_err-first_step-in-Some
step_basic-returns-in_err-first_step-in-Some g t c = λ m depth t T e L N W.
    let h = gives_value c.in_ok-old.ensures in
    pass_beside (context_machine g.R.Holds.answers c.args.context.now) _ _ _ c.from_residual-in_err-first_step-in-Some.ensures.0 (body_fails (context_machine g.R.Holds.answers c.args.context.now) c.args.names.now c.args.switch.now (observation_of c.args.switch.now.form) c.requires.form (step c.args.context.now.dt c.args.value.now) c.args.meter.now c.step_apart.new.meter c.args.inside
    c.step_apart.new.state h.y h.steps (bound_value c.in-Some.payload) (some_occurs _ c.in_ok-old.occurring c.in-Some.payload (second_of h.y) h.event c.in-Some.is)
    (Unborn c.in-Ok-begin.value) (c.in-Ok-begin.ensures (g.R.Holds.answers c.args.context.now.functions.now)) c.first_step.new.meter _ (rw c.in-Ok.ensures at c.in_err-first_step-in-Some.ensures) m depth t T e L N W)

pub step_basic-returns-in_ok-first_step-in-Some : goal.step_basic-returns-in_ok-first_step-in-Some
step_basic-returns-in_ok-first_step-in-Some g t c =
    let h = gives_value c.in_ok-old.ensures in
    body_takes_over (context_machine g.R.Holds.answers c.args.context.now) c.args.names.now c.args.switch.now (observation_of c.args.switch.now.form) c.requires.form (step c.args.context.now.dt c.args.value.now) c.args.meter.now c.step_apart.new.meter c.args.inside
    c.step_apart.new.state h.y h.steps (bound_value c.in-Some.payload) (some_occurs _ c.in_ok-old.occurring c.in-Some.payload (second_of h.y) h.event c.in-Some.is)
    (Unborn c.in-Ok-begin.value) (c.in-Ok-begin.ensures (g.R.Holds.answers c.args.context.now.functions.now)) c.first_step.new.meter
    c.first_step.new.state c.first_step.new.value _ (rw c.shown_by.ensures at c.show.ensures ∙ ap (λ d. switched_value (observation_of c.args.switch.now.form) d c.first_step.new.value) h.first) _
    (rw c.in-Ok.ensures at c.in_ok-first_step-in-Some.ensures)

-- ## step_fan_apart

pub step_fan_apart-returns-in_err-first : goal.step_fan_apart-returns-in_err-first
step_fan_apart-returns-in_err-first g t c = stops_apart c.from_residual.ensures.0 c.in_err-first.ensures

pub step_fan_apart-returns : goal.step_fan_apart-returns
step_fan_apart-returns g t c = apart {y = pair c.in_ok-first.first c.step_halves.new.value} c.in_ok-first.ensures refl (rw c.replace-second.ensures.value at c.payload_of.ensures)

-- ## step_apart

pub step_apart-returns-in_err-inside-in-Live : goal.step_apart-returns-in_err-inside-in-Live
step_apart-returns-in_err-inside-in-Live g t c = stops_apart c.from_residual.ensures.0 (λ P L A. fails (tick_fails (context_machine g.R.Holds.answers c.args.context.now) P _ c.in_err-inside-in-Live.ensures.ticked))

pub step_apart-returns-in_ok-inside-in-Live : goal.step_apart-returns-in_ok-inside-in-Live
step_apart-returns-in_ok-inside-in-Live g t c =
    rw c.in-Live.is (live_apart (context_machine g.R.Holds.answers c.args.context.now) c.in-Live.field-0 c.in-Live.node.value c.step_node_apart.new.node.value (step c.args.context.now.dt c.args.value.now) (ticked_by c.in_ok-inside-in-Live.ensures.ticked) c.step_node_apart.ensures)

pub step_apart-returns-in_err-step_state-in_default : goal.step_apart-returns-in_err-step_state-in_default
step_apart-returns-in_err-step_state-in_default g t c = stops_apart c.from_residual-in_err-step_state-in_default.ensures.0 c.in_err-step_state-in_default.ensures

pub step_apart-returns-in_ok-step_state-in_default : goal.step_apart-returns-in_ok-step_state-in_default
step_apart-returns-in_ok-step_state-in_default g t c =
    taken (λ s n. StateSteps (context_machine g.R.Holds.answers c.args.context.now) c.args.state.now (step c.args.context.now.dt c.args.value.now) s c.args.meter.now n c.args.depth) c.in_ok-step_state-in_default.ensures (late_part (context_machine g.R.Holds.answers c.args.context.now) c.in_ok-step_state-in_default.ensures) c.taken_apart.ensures

-- ## step_node_apart

pub step_node_apart-returns-in-Some : goal.step_node_apart-returns-in-Some
step_node_apart-returns-in-Some g t c =
    apart_as (λ y S. own_steps (context_machine g.R.Holds.answers c.args.context.now) c.args.node.now.value c.in-Some.live.now (step c.args.context.now.dt c.args.value.now) _ (λ P x L R. rw c.in-Some.ensures.value R) S)
    (λ S. own_steps (context_machine g.R.Holds.answers c.args.context.now) c.args.node.now.value c.in-Some.live.now (step c.args.context.now.dt c.args.value.now) _ (λ P x L R. rw c.in-Some.ensures.value R) S) c.step_live_apart.ensures

pub step_node_apart-returns-in_err-step_node_copy-in-None : goal.step_node_apart-returns-in_err-step_node_copy-in-None
step_node_apart-returns-in_err-step_node_copy-in-None g t c = stops_apart c.from_residual.ensures.0 c.in_err-step_node_copy-in-None.ensures

pub step_node_apart-returns-in_ok-step_node_copy-in-None : goal.step_node_apart-returns-in_ok-step_node_copy-in-None
step_node_apart-returns-in_ok-step_node_copy-in-None g t c =
    taken (λ s n. LiveSteps (context_machine g.R.Holds.answers c.args.context.now) c.args.node.now.value (step c.args.context.now.dt c.args.value.now) s c.args.meter.now n c.args.inside) c.in_ok-step_node_copy-in-None.ensures (late_memory (context_machine g.R.Holds.answers c.args.context.now) c.in_ok-step_node_copy-in-None.ensures) c.taken_apart.ensures

-- ## step_whole

pub step_whole-returns-in_err-step_live : goal.step_whole-returns-in_err-step_live
step_whole-returns-in_err-step_live g t c = stops_apart c.from_residual.ensures.0 c.in_err-step_live.ensures

pub step_whole-returns : goal.step_whole-returns
step_whole-returns g t c =
    taken (λ s n. LiveSteps (context_machine g.R.Holds.answers c.args.context.now) c.args.live.now (step c.args.context.now.dt c.args.value.now) s c.args.meter.now n c.args.inside) c.in_ok-step_live.ensures (late_memory (context_machine g.R.Holds.answers c.args.context.now) c.in_ok-step_live.ensures) c.taken_apart.ensures

-- ## step_live_apart

pub step_live_apart-returns-in-InSequence : goal.step_live_apart-returns-in-InSequence
step_live_apart-returns-in-InSequence g t c =
    let same = sym c.in-Join.join-is ∙ c.in-InSequence.is in
    rw c.in-InSequence.is (rw c.in-Join.is (rw same (rw c.in-Join.left-is at rw c.in-Join.right-is at c.step_sequence_apart.ensures)))

pub step_live_apart-returns-in-InParallel : goal.step_live_apart-returns-in-InParallel
step_live_apart-returns-in-InParallel g t c =
    let same = sym c.in-Join.join-is ∙ c.in-InParallel.is in
    rw c.in-InParallel.is (rw c.in-Join.is (rw same (rw c.in-Join.left-is at rw c.in-Join.right-is at c.step_parallel_apart.ensures)))

pub step_live_apart-returns-in-FannedOut : goal.step_live_apart-returns-in-FannedOut
step_live_apart-returns-in-FannedOut g t c =
    let same = sym c.in-Join.join-is ∙ c.in-FannedOut.is in
    rw c.in-FannedOut.is (rw c.in-Join.is (rw same (rw c.in-Join.left-is at rw c.in-Join.right-is at c.step_fan_apart.ensures)))

-- ## step_sequence_apart

pub step_sequence_apart-returns-in_err-step_state : goal.step_sequence_apart-returns-in_err-step_state
step_sequence_apart-returns-in_err-step_state g t c =
    stops_apart c.from_residual.ensures.0 (λ m depth t P L R. fails (join_left_fails (context_machine g.R.Holds.answers c.args.context.now) InSequence c.args.left.now c.args.right.now c.args.meter.now c.step_state.new.meter c.args.inside c.args.context.now.dt c.args.value.now c.args.value.now refl
    _ c.in_err-step_state.ensures m depth t P L R))

pub step_sequence_apart-returns : goal.step_sequence_apart-returns
step_sequence_apart-returns g t c =
    apart_as (λ y S. join_steps (context_machine g.R.Holds.answers c.args.context.now) InSequence c.args.left.now c.args.right.now c.args.meter.now c.step_state.new.meter c.args.inside c.args.context.now.dt c.args.value.now c.args.value.now refl
    c.step_state.new.state c.step_state.new.value c.step_state.new.value refl c.in_ok-step_state.ensures
    c.step_apart.new.meter c.step_apart.new.state y y refl S)
    (λ S m depth t P L R. fails (join_right_fails (context_machine g.R.Holds.answers c.args.context.now) InSequence c.args.left.now c.args.right.now c.args.meter.now c.step_state.new.meter c.args.inside c.args.context.now.dt c.args.value.now c.args.value.now refl
    c.step_state.new.state c.step_state.new.value c.step_state.new.value refl c.in_ok-step_state.ensures
    c.step_apart.new.meter _ S m depth t P L R)) c.step_apart.ensures

-- ## step_parallel_apart

pub step_parallel_apart-returns-in_err-step_parallel : goal.step_parallel_apart-returns-in_err-step_parallel
step_parallel_apart-returns-in_err-step_parallel g t c = stops_apart c.from_residual.ensures.0 c.in_err-step_parallel.ensures

pub step_parallel_apart-returns : goal.step_parallel_apart-returns
step_parallel_apart-returns g t c =
    taken (λ s n. LiveSteps (context_machine g.R.Holds.answers c.args.context.now) (LJoin InParallel c.args.left.now c.args.right.now) (step c.args.context.now.dt c.args.value.now) s c.args.meter.now n c.args.inside) c.in_ok-step_parallel.ensures (late_memory (context_machine g.R.Holds.answers c.args.context.now) c.in_ok-step_parallel.ensures) c.taken_apart.ensures

-- ## step_recurring

pub step_recurring-returns-in-Err : goal.step_recurring-returns-in-Err
step_recurring-returns-in-Err g t c = λ m depth t T e L N W. early_memory (context_machine g.R.Holds.answers c.args.context.now) t c.stop.ensures.entered c.stop.ensures.height c.stop.ensures.fault

pub step_recurring-returns-in-None : goal.step_recurring-returns-in-None
step_recurring-returns-in-None g t c =
    runs_alone (context_machine g.R.Holds.answers c.args.context.now) c.args.names.now c.args.switch.now (observation_of c.args.switch.now.form) c.requires.form c.args.context.now.dt c.args.value.now c.in-Ok.value.0 c.in-Ok.ensures.0 c.args.meter.now c.step_state.new.meter c.args.inside
    c.step_state.result c.step_state.new.state c.step_state.new.value (meter_fault c.step_state.new.meter) (none_occurs _ c.in-Ok.value.1 (second_of c.args.value.now) c.in-Ok.ensures.1 c.in-None.is)
    _ refl c.step_state.ensures

pub step_recurring-returns-in-Err-clone_in : goal.step_recurring-returns-in-Err-clone_in
step_recurring-returns-in-Err-clone_in g t c = λ m depth t T e L N W. early_memory (context_machine g.R.Holds.answers c.args.context.now) t c.stop-in-Err-clone_in.ensures.entered c.stop-in-Err-clone_in.ensures.height c.stop-in-Err-clone_in.ensures.fault

pub step_recurring-returns-in_err-step_state-in-Some : goal.step_recurring-returns-in_err-step_state-in-Some
step_recurring-returns-in_err-step_state-in-Some g t c = λ m depth t T e L N W.
    pass_exit _ _ c.from_residual.ensures.0 (run_fails (context_machine g.R.Holds.answers c.args.context.now) c.args.names.now c.args.switch.now (observation_of c.args.switch.now.form) c.requires.form c.args.context.now.dt c.args.value.now c.in-Ok.value.0 c.in-Ok.ensures.0 c.args.meter.now c.step_state-in-Some.new.meter c.args.inside
    _ c.in_err-step_state-in-Some.ensures m depth t T e L N W)

pub step_recurring-returns-in-Err-begin : goal.step_recurring-returns-in-Err-begin
step_recurring-returns-in-Err-begin g t c = λ m depth t T e L N W.
    memory_exit c.stop-in-Err-begin.ensures.fault (run_memory (context_machine g.R.Holds.answers c.args.context.now) c.args.names.now c.args.switch.now (observation_of c.args.switch.now.form) c.requires.form c.args.context.now.dt c.args.value.now c.in-Ok.value.0 c.in-Ok.ensures.0 c.args.meter.now c.step_state-in-Some.new.meter c.args.inside
    c.step_state-in-Some.new.state c.step_state-in-Some.new.value c.in_ok-step_state-in-Some.ensures _ c.stop-in-Err-begin.ensures.entered c.stop-in-Err-begin.ensures.height m depth t T e L N W)

pub step_recurring-returns-in_err-first_step-in-Some : goal.step_recurring-returns-in_err-first_step-in-Some
step_recurring-returns-in_err-first_step-in-Some g t c = λ m depth t T e L N W.
    pass_exit _ _ c.from_residual-in_err-first_step-in-Some.ensures.0 (new_fails (context_machine g.R.Holds.answers c.args.context.now) c.args.names.now c.args.switch.now (observation_of c.args.switch.now.form) c.requires.form c.args.context.now.dt c.args.value.now c.in-Ok.value.0 c.in-Ok.ensures.0 c.args.meter.now c.step_state-in-Some.new.meter c.args.inside
    c.step_state-in-Some.new.state c.step_state-in-Some.new.value c.in_ok-step_state-in-Some.ensures (bound_value c.in-Some.payload) (some_occurs _ c.in-Ok.value.1 c.in-Some.payload (second_of c.args.value.now) c.in-Ok.ensures.1 c.in-Some.is)
    (Unborn c.in-Ok-begin.value) c.in-Ok-clone_in.value c.in-Ok-clone_in.ensures (c.in-Ok-begin.ensures (g.R.Holds.answers c.args.context.now.functions.now)) c.first_step.new.meter _ c.in_err-first_step-in-Some.ensures m depth t T e L N W)

pub step_recurring-returns-in_ok-first_step-in-Some : goal.step_recurring-returns-in_ok-first_step-in-Some
step_recurring-returns-in_ok-first_step-in-Some g t c =
    new_runs (context_machine g.R.Holds.answers c.args.context.now) c.args.names.now c.args.switch.now (observation_of c.args.switch.now.form) c.requires.form c.args.context.now.dt c.args.value.now c.in-Ok.value.0 c.in-Ok.ensures.0 c.args.meter.now c.step_state-in-Some.new.meter c.args.inside
    c.step_state-in-Some.new.state c.step_state-in-Some.new.value c.in_ok-step_state-in-Some.ensures (bound_value c.in-Some.payload) (some_occurs _ c.in-Ok.value.1 c.in-Some.payload (second_of c.args.value.now) c.in-Ok.ensures.1 c.in-Some.is)
    (Unborn c.in-Ok-begin.value) c.in-Ok-clone_in.value c.in-Ok-clone_in.ensures (c.in-Ok-begin.ensures (g.R.Holds.answers c.args.context.now.functions.now)) c.first_step.new.meter
    c.first_step.new.state c.first_step.new.value _ (rw c.shown_by.ensures at c.show.ensures) _ refl c.in_ok-first_step-in-Some.ensures

-- ## step_pipeline

pub step_pipeline-loop-stage-init : goal.step_pipeline-loop-stage-init
step_pipeline-loop-stage-init g t c =
    let μ = context_machine g.R.Holds.answers c.args.context.now in
    record {
      goes_on = continues_first μ c.deref_mut-stage-items.result.now c.args.context.now.dt c.args.value.now c.args.meter.now c.args.inside;
    }

pub step_pipeline-returns-in_err-step_stage : goal.step_pipeline-returns-in_err-step_stage
step_pipeline-returns-in_err-step_stage g t c = λ m depth t P L R.
    let μ = context_machine g.R.Holds.answers c.args.context.now in
    let l = c.loop-stage in
    let f = meter_fault c.step_stage.new.meter in
    let failed = continues_fails μ _ c.args.context.now.dt c.args.value.now c.args.meter.now l.stage-items l.stage-index l.value l.meter c.args.inside c.stage-item.result (omega (arith, c.loop-stage-test.true, l.auto.stage-items)) l.invariant.goes_on
    f c.step_stage.new.meter c.in_err-step_stage.ensures in
    pass_exit _ _ c.from_residual.ensures.0 (pipeline_fails μ c.args.stages.now c.args.context.now.dt c.args.value.now c.args.meter.now c.step_stage.new.meter c.args.inside f
    (subst (λ bs. StagesStep μ bs c.args.context.now.dt c.args.value.now (Err f) c.args.meter.now c.step_stage.new.meter c.args.inside) c.deref_mut-stage-items.ensures.value failed) m depth t P L R)

pub step_pipeline-loop-stage-preserved : goal.step_pipeline-loop-stage-preserved
step_pipeline-loop-stage-preserved g t c =
    let μ = context_machine g.R.Holds.answers c.args.context.now in
    let l = c.loop-stage in
    record {
      goes_on = continues_next μ _ c.args.context.now.dt c.args.value.now c.args.meter.now l.stage-items l.stage-index l.value l.meter c.args.inside c.stage-item.result (omega (arith, c.loop-stage-test.true, l.auto.stage-items)) l.invariant.goes_on
          c.step_stage.new.stage c.step_stage.new.value c.step_stage.new.meter c.in_ok-step_stage.ensures;
    }

pub step_pipeline-returns : goal.step_pipeline-returns
step_pipeline-returns g t c =
    let μ = context_machine g.R.Holds.answers c.args.context.now in
    let l = c.loop-stage in
    let last : l.stage-index ≡ length l.stage-items = omega (arith, l.auto.stage-items, l.auto.stage-index-end, c.loop-stage-test.false) in
    let whole : (with_items c.args.stages.now l.stage-items).items ≡ l.stage-items = with_items_is c.args.stages.now l.stage-items (omega (arith, l.auto.stage-items, ap length c.deref_mut-stage-items.ensures.value)) in
    let all = continues_last μ _ c.args.context.now.dt c.args.value.now c.args.meter.now l.stage-items l.stage-index l.value l.meter c.args.inside last l.invariant.goes_on in
    pipeline_steps μ c.args.stages.now c.args.context.now.dt c.args.value.now c.args.meter.now l.meter c.args.inside (with_items c.args.stages.now l.stage-items) l.value
    (rw whole (subst (λ bs. StagesStep μ bs c.args.context.now.dt c.args.value.now (Ok (l.stage-items, l.value)) c.args.meter.now l.meter c.args.inside) c.deref_mut-stage-items.ensures.value all))

-- ## step_stage

pub step_stage-returns-in_err-tick-in-Primitive : goal.step_stage-returns-in_err-tick-in-Primitive
step_stage-returns-in_err-tick-in-Primitive g t c = λ P L A. pass_exit _ _ c.from_residual.ensures.0 (tick_fails (context_machine g.R.Holds.answers c.args.context.now) P _ c.in_err-tick-in-Primitive.ensures.ticked)

pub step_stage-returns-in_ok-tick-in-Primitive : goal.step_stage-returns-in_ok-tick-in-Primitive
step_stage-returns-in_ok-tick-in-Primitive g t c = λ P L A.
    counted_steps (context_machine g.R.Holds.answers c.args.context.now) _ _ _ (ticked_by c.in_ok-tick-in-Primitive.ensures.ticked) (primitive_is (context_machine g.R.Holds.answers c.args.context.now) c.in-Primitive.prim)
    (primitive_counted (context_machine g.R.Holds.answers c.args.context.now) c.in-Primitive.prim c.step_prim_inline.new.prim _ c.step_prim_inline.new.value c.step_prim_inline.result _ c.step_prim_inline.ensures.answers) P L (rw c.in-Primitive.is at A)

pub step_stage-returns-in_default : goal.step_stage-returns-in_default
step_stage-returns-in_default g t c = c.step_state.ensures

-- ## step_sequence

pub step_sequence-returns-in_err-apart : goal.step_sequence-returns-in_err-apart
step_sequence-returns-in_err-apart g t c = λ m depth t P L R.
    pass_exit _ _ c.from_residual.ensures.0 (join_left_fails (context_machine g.R.Holds.answers c.args.context.now) InSequence c.args.left.now c.args.right.now c.args.meter.now c.step_split.new.meter c.args.inside c.args.context.now.dt c.args.value.now c.args.value.now refl
    _ c.in_err-apart.ensures m depth t P L R)

pub step_sequence-returns : goal.step_sequence-returns
step_sequence-returns g t c =
    join_last (context_machine g.R.Holds.answers c.args.context.now) InSequence c.args.left.now c.args.right.now c.args.meter.now c.step_split.new.meter c.args.inside c.args.context.now.dt c.args.value.now c.args.value.now refl
    c.step_split.new.state (whole_of c.in_ok-apart.apart c.step_split.new.value) (whole_of c.in_ok-apart.apart c.step_split.new.value) refl c.in_ok-apart.ensures
    c.step_on_split.new.meter c.step_on_split.new.state c.step_on_split.new.value c.step_on_split.new.value c.step_on_split.result _ refl c.step_on_split.ensures

-- ## step_split

pub step_split-returns-in_err-inside : goal.step_split-returns-in_err-inside
step_split-returns-in_err-inside g t c = λ P L A. pass_split _ _ _ c.from_residual.ensures.0 (tick_fails (context_machine g.R.Holds.answers c.args.context.now) P _ c.in_err-inside.ensures.ticked)

pub step_split-returns-in-Live : goal.step_split-returns-in-Live
step_split-returns-in-Live g t c = λ P L A.
    let μ = context_machine g.R.Holds.answers c.args.context.now in
    let r = c.step_node_split.result in
    let n = c.step_node_split.new.meter in
    let y = c.step_node_split.new.value in
    let l = c.step_node_split.new.node.value in
    let s = step c.args.context.now.dt c.args.value.now in
    subst (λ q. PartSteps μ P L s q c.args.meter.now n c.args.depth) (split_as r (Alive' c.in-Live.field-0 _ l) y (meter_fault n))
    (counted_steps μ _ _ _ (ticked_by c.in_ok-inside.ensures.ticked) (live_is μ c.in-Live.field-0 c.in-Live.node.value)
    (live_counted μ _ c.in-Live.field-0 c.in-Live.node.value l s (split_back r y) r (meter_fault n)
    (subst (λ q. LiveSteps μ c.in-Live.node.value s q c.tick.new.self n c.in_ok-inside.inside) (sym (split_as r l y (meter_fault n))) c.step_node_split.ensures))
    P L (rw c.in-Live.is at A))

pub step_split-returns-in_err-step_state : goal.step_split-returns-in_err-step_state
step_split-returns-in_err-step_state g t c = λ P L A. pass_split _ _ _ c.from_residual-in_err-step_state.ensures.0 (failed (c.in_err-step_state.ensures P L A))

pub step_split-returns : goal.step_split-returns
step_split-returns g t c = c.in_ok-step_state.ensures

-- ## step_node_split

pub step_node_split-returns-in-Some : goal.step_node_split-returns-in-Some
step_node_split-returns-in-Some g t c =
    own_steps (context_machine g.R.Holds.answers c.args.context.now) c.args.node.now.value c.in-Some.live.now _ _ (λ P x L R. rw c.in-Some.ensures.value R) c.step_live_split.ensures

pub step_node_split-returns-in_err-step_node_copy-in-None : goal.step_node_split-returns-in_err-step_node_copy-in-None
step_node_split-returns-in_err-step_node_copy-in-None g t c = λ m depth t P L R. pass_split _ _ _ c.from_residual.ensures.0 (failed (c.in_err-step_node_copy-in-None.ensures m depth t P L R))

pub step_node_split-returns-in_ok-step_node_copy-in-None : goal.step_node_split-returns-in_ok-step_node_copy-in-None
step_node_split-returns-in_ok-step_node_copy-in-None g t c = c.in_ok-step_node_copy-in-None.ensures

-- ## step_live_split

pub step_live_split-returns-in_err-step_sequence-in-InSequence : goal.step_live_split-returns-in_err-step_sequence-in-InSequence
step_live_split-returns-in_err-step_sequence-in-InSequence g t c =
    let same = sym c.in-Join.join-is ∙ c.in-InSequence.is in
    rw c.in-Join.is (rw same (λ m depth t P L R. pass_split _ _ _ c.from_residual.ensures.0 (failed ((rw c.in-Join.left-is at rw c.in-Join.right-is at c.in_err-step_sequence-in-InSequence.ensures) m depth t P L R))))

pub step_live_split-returns-in_ok-step_sequence-in-InSequence : goal.step_live_split-returns-in_ok-step_sequence-in-InSequence
step_live_split-returns-in_ok-step_sequence-in-InSequence g t c =
    let same = sym c.in-Join.join-is ∙ c.in-InSequence.is in
    rw c.in-InSequence.is (rw c.in-Join.is (rw same (rw c.in-Join.left-is at rw c.in-Join.right-is at c.in_ok-step_sequence-in-InSequence.ensures)))

pub step_live_split-returns-in_err-step_parallel-in-InParallel : goal.step_live_split-returns-in_err-step_parallel-in-InParallel
step_live_split-returns-in_err-step_parallel-in-InParallel g t c =
    let same = sym c.in-Join.join-is ∙ c.in-InParallel.is in
    rw c.in-Join.is (rw same (λ m depth t P L R. pass_split _ _ _ c.from_residual-in_err-step_parallel-in-InParallel.ensures.0 (failed ((rw c.in-Join.left-is at rw c.in-Join.right-is at c.in_err-step_parallel-in-InParallel.ensures) m depth t P L R))))

pub step_live_split-returns-in_ok-step_parallel-in-InParallel : goal.step_live_split-returns-in_ok-step_parallel-in-InParallel
step_live_split-returns-in_ok-step_parallel-in-InParallel g t c =
    let same = sym c.in-Join.join-is ∙ c.in-InParallel.is in
    rw c.in-InParallel.is (rw c.in-Join.is (rw same (rw c.in-Join.left-is at rw c.in-Join.right-is at c.in_ok-step_parallel-in-InParallel.ensures)))

pub step_live_split-returns-in_err-first-in-FannedOut : goal.step_live_split-returns-in_err-first-in-FannedOut
step_live_split-returns-in_err-first-in-FannedOut g t c =
    let same = sym c.in-Join.join-is ∙ c.in-FannedOut.is in
    rw c.in-Join.is (rw same (λ m depth t P L R. pass_split _ _ _ c.from_residual-in_err-first-in-FannedOut.ensures.0 (failed ((rw c.in-Join.left-is at rw c.in-Join.right-is at c.in_err-first-in-FannedOut.ensures) m depth t P L R))))

pub step_live_split-returns-in_ok-first-in-FannedOut : goal.step_live_split-returns-in_ok-first-in-FannedOut
step_live_split-returns-in_ok-first-in-FannedOut g t c =
    let same = sym c.in-Join.join-is ∙ c.in-FannedOut.is in
    rw c.in-FannedOut.is (rw c.in-Join.is (rw same (rw c.in-Join.left-is at rw c.in-Join.right-is at c.in_ok-first-in-FannedOut.ensures)))

pub step_live_split-returns-in_err-step_live-in_default : goal.step_live_split-returns-in_err-step_live-in_default
step_live_split-returns-in_err-step_live-in_default g t c = λ m depth t P L R. pass_split _ _ _ c.from_residual-in_err-step_live-in_default.ensures.0 (failed (c.in_err-step_live-in_default.ensures m depth t P L R))

pub step_live_split-returns-in_ok-step_live-in_default : goal.step_live_split-returns-in_ok-step_live-in_default
step_live_split-returns-in_ok-step_live-in_default g t c = c.in_ok-step_live-in_default.ensures

-- ## step_on_split

pub step_on_split-returns-in-None : goal.step_on_split-returns-in-None
step_on_split-returns-in-None g t c = rw c.in-None.is c.step_state.ensures

pub step_on_split-returns-in_err-given-in-Some : goal.step_on_split-returns-in_err-given-in-Some
step_on_split-returns-in_err-given-in-Some g t c = rw c.in-Some.is (λ P L A. pass_exit _ _ c.from_residual.ensures.0 (failed (c.in_err-given-in-Some.ensures P L A)))

pub step_on_split-returns-in_ok-given-in-Some : goal.step_on_split-returns-in_ok-given-in-Some
step_on_split-returns-in_ok-given-in-Some g t c = rw c.in-Some.is c.in_ok-given-in-Some.ensures

-- ## step_parallel

pub step_parallel-returns-in-Err : goal.step_parallel-returns-in-Err
step_parallel-returns-in-Err g t c = λ m depth t P L R. early_memory (context_machine g.R.Holds.answers c.args.context.now) t c.stop.ensures.entered c.stop.ensures.height c.stop.ensures.fault

pub step_parallel-returns-in-Err-make_mut : goal.step_parallel-returns-in-Err-make_mut
step_parallel-returns-in-Err-make_mut g t c = λ m depth t P L R. early_memory (context_machine g.R.Holds.answers c.args.context.now) t c.stop-in-Err-make_mut.ensures.entered c.stop-in-Err-make_mut.ensures.height c.stop-in-Err-make_mut.ensures.fault

pub step_parallel-returns-in_err-step_state : goal.step_parallel-returns-in_err-step_state
step_parallel-returns-in_err-step_state g t c = λ m depth t P L R.
    pass_exit _ _ c.from_residual.ensures.0 (join_left_fails (context_machine g.R.Holds.answers c.args.context.now) InParallel c.args.left.now c.args.right.now c.args.meter.now c.step_state.new.meter c.args.inside c.args.context.now.dt c.args.value.now _ (ap (λ (p : Pair). p.first) (own_halves c.in-Ok-make_mut.ensures.value) ∙ c.in-Ok.ensures.first ∙ ap first_of c.replace-input.ensures.value)
    _ c.in_err-step_state.ensures m depth t P L R)

pub step_parallel-returns-in_err-step_state-2 : goal.step_parallel-returns-in_err-step_state-2
step_parallel-returns-in_err-step_state-2 g t c = λ m depth t P L R.
    pass_exit _ _ c.from_residual-in_err-step_state-2.ensures.0 (join_right_fails (context_machine g.R.Holds.answers c.args.context.now) InParallel c.args.left.now c.args.right.now c.args.meter.now c.step_state.new.meter c.args.inside c.args.context.now.dt c.args.value.now _ (ap (λ (p : Pair). p.first) (own_halves c.in-Ok-make_mut.ensures.value) ∙ c.in-Ok.ensures.first ∙ ap first_of c.replace-input.ensures.value)
    c.step_state.new.state c.step_state.new.value _ (ap (λ (p : Pair). p.second) (own_halves c.in-Ok-make_mut.ensures.value) ∙ c.in-Ok.ensures.second ∙ ap second_of c.replace-input.ensures.value) c.in_ok-step_state.ensures
    c.step_state-2.new.meter _ c.in_err-step_state-2.ensures m depth t P L R)

pub step_parallel-returns : goal.step_parallel-returns
step_parallel-returns g t c =
    join_steps (context_machine g.R.Holds.answers c.args.context.now) InParallel c.args.left.now c.args.right.now c.args.meter.now c.step_state.new.meter c.args.inside c.args.context.now.dt c.args.value.now _ (ap (λ (p : Pair). p.first) (own_halves c.in-Ok-make_mut.ensures.value) ∙ c.in-Ok.ensures.first ∙ ap first_of c.replace-input.ensures.value)
    c.step_state.new.state c.step_state.new.value _ (ap (λ (p : Pair). p.second) (own_halves c.in-Ok-make_mut.ensures.value) ∙ c.in-Ok.ensures.second ∙ ap second_of c.replace-input.ensures.value) c.in_ok-step_state.ensures
    c.step_state-2.new.meter c.step_state-2.new.state c.step_state-2.new.value c.of_pair.result (c.of_pair.ensures ∙ ap (λ (q : Pair). pair q.first q.second) (c.make_mut.follows.holds _ (there_is c.in-Ok-make_mut.is))) c.in_ok-step_state-2.ensures

-- ## step_fan

pub step_fan-returns-in_err-first : goal.step_fan-returns-in_err-first
step_fan-returns-in_err-first g t c = λ m depth t P L R. pass_exit _ _ c.from_residual.ensures.0 (failed (c.in_err-first.ensures m depth t P L R))

pub step_fan-returns-in-Err : goal.step_fan-returns-in-Err
step_fan-returns-in-Err g t c = late_memory (context_machine g.R.Holds.answers c.args.context.now) c.in_ok-first.ensures c.stop.ensures.entered c.stop.ensures.height c.stop.ensures.fault

pub step_fan-returns : goal.step_fan-returns
step_fan-returns g t c = rw (rw c.replace-second.ensures.value at c.in-Ok.ensures) c.in_ok-first.ensures

-- ## step_halves

pub step_halves-returns-in-Err : goal.step_halves-returns-in-Err
step_halves-returns-in-Err g t c = λ m depth t P L R. early_memory (context_machine g.R.Holds.answers c.args.context.now) t c.stop.ensures.entered c.stop.ensures.height c.stop.ensures.fault

pub step_halves-returns-in_err-step_state : goal.step_halves-returns-in_err-step_state
step_halves-returns-in_err-step_state g t c = λ m depth t P L R.
    pass_apart _ _ _ c.from_residual.ensures.0 (join_left_fails (context_machine g.R.Holds.answers c.args.context.now) FannedOut c.args.left.now c.args.right.now c.args.meter.now c.step_state.new.meter c.args.inside c.args.context.now.dt c.args.value.now c.in-Ok.value c.in-Ok.ensures
    _ c.in_err-step_state.ensures m depth t P L R)

pub step_halves-returns-in_err-step_state-2 : goal.step_halves-returns-in_err-step_state-2
step_halves-returns-in_err-step_state-2 g t c = λ m depth t P L R.
    pass_apart _ _ _ c.from_residual-in_err-step_state-2.ensures.0 (join_right_fails (context_machine g.R.Holds.answers c.args.context.now) FannedOut c.args.left.now c.args.right.now c.args.meter.now c.step_state.new.meter c.args.inside c.args.context.now.dt c.args.value.now c.in-Ok.value c.in-Ok.ensures
    c.step_state.new.state c.step_state.new.value c.args.value.now refl c.in_ok-step_state.ensures
    c.step_state-2.new.meter _ c.in_err-step_state-2.ensures m depth t P L R)

pub step_halves-returns : goal.step_halves-returns
step_halves-returns g t c =
    join_steps (context_machine g.R.Holds.answers c.args.context.now) FannedOut c.args.left.now c.args.right.now c.args.meter.now c.step_state.new.meter c.args.inside c.args.context.now.dt c.args.value.now c.in-Ok.value c.in-Ok.ensures
    c.step_state.new.state c.step_state.new.value c.args.value.now refl c.in_ok-step_state.ensures
    c.step_state-2.new.meter c.step_state-2.new.state c.step_state-2.new.value _ refl c.in_ok-step_state-2.ensures

-- ## step_first

pub step_first-returns-in-Err : goal.step_first-returns-in-Err
step_first-returns-in-Err g t c = λ m depth t P L R. early_memory (context_machine g.R.Holds.answers c.args.context.now) t c.stop.ensures.entered c.stop.ensures.height c.stop.ensures.fault

pub step_first-returns-in-Err-make_mut : goal.step_first-returns-in-Err-make_mut
step_first-returns-in-Err-make_mut g t c = λ m depth t P L R. early_memory (context_machine g.R.Holds.answers c.args.context.now) t c.stop-in-Err-make_mut.ensures.entered c.stop-in-Err-make_mut.ensures.height c.stop-in-Err-make_mut.ensures.fault

pub step_first-returns-in_err-step_state : goal.step_first-returns-in_err-step_state
step_first-returns-in_err-step_state g t c = λ m depth t P L R.
    pass_exit _ _ c.from_residual.ensures.0 (wrap_fails (context_machine g.R.Holds.answers c.args.context.now) First c.args.part.now c.args.meter.now c.step_state.new.meter c.args.inside c.args.context.now.dt c.args.value.now _ (ap (λ (p : Pair). p.first) (own_halves c.in-Ok-make_mut.ensures.value) ∙ c.in-Ok.ensures.first ∙ ap first_of c.replace-input.ensures.value)
    _ c.in_err-step_state.ensures m depth t P L R)

pub step_first-returns : goal.step_first-returns
step_first-returns g t c =
    wrap_steps (context_machine g.R.Holds.answers c.args.context.now) First c.args.part.now c.args.meter.now c.step_state.new.meter c.args.inside c.args.context.now.dt c.args.value.now _ (ap (λ (p : Pair). p.first) (own_halves c.in-Ok-make_mut.ensures.value) ∙ c.in-Ok.ensures.first ∙ ap first_of c.replace-input.ensures.value)
    c.step_state.new.state First c.step_state.new.value c.of_pair.result refl (ap answer (rw (ap (λ (p : Pair). p.second) (own_halves c.in-Ok-make_mut.ensures.value) ∙ c.in-Ok.ensures.second ∙ ap second_of c.replace-input.ensures.value) at (c.of_pair.ensures ∙ ap (λ (q : Pair). pair q.first q.second) (c.make_mut.follows.holds _ (there_is c.in-Ok-make_mut.is))))) c.in_ok-step_state.ensures

-- ## step_second

pub step_second-returns-in-Err : goal.step_second-returns-in-Err
step_second-returns-in-Err g t c = λ m depth t P L R. early_memory (context_machine g.R.Holds.answers c.args.context.now) t c.stop.ensures.entered c.stop.ensures.height c.stop.ensures.fault

pub step_second-returns-in-Err-make_mut : goal.step_second-returns-in-Err-make_mut
step_second-returns-in-Err-make_mut g t c = λ m depth t P L R. early_memory (context_machine g.R.Holds.answers c.args.context.now) t c.stop-in-Err-make_mut.ensures.entered c.stop-in-Err-make_mut.ensures.height c.stop-in-Err-make_mut.ensures.fault

pub step_second-returns-in_err-step_state : goal.step_second-returns-in_err-step_state
step_second-returns-in_err-step_state g t c = λ m depth t P L R.
    pass_exit _ _ c.from_residual.ensures.0 (wrap_fails (context_machine g.R.Holds.answers c.args.context.now) Second c.args.part.now c.args.meter.now c.step_state.new.meter c.args.inside c.args.context.now.dt c.args.value.now _ (ap (λ (p : Pair). p.second) (own_halves c.in-Ok-make_mut.ensures.value) ∙ c.in-Ok.ensures.second ∙ ap second_of c.replace-input.ensures.value)
    _ c.in_err-step_state.ensures m depth t P L R)

pub step_second-returns : goal.step_second-returns
step_second-returns g t c =
    wrap_steps (context_machine g.R.Holds.answers c.args.context.now) Second c.args.part.now c.args.meter.now c.step_state.new.meter c.args.inside c.args.context.now.dt c.args.value.now _ (ap (λ (p : Pair). p.second) (own_halves c.in-Ok-make_mut.ensures.value) ∙ c.in-Ok.ensures.second ∙ ap second_of c.replace-input.ensures.value)
    c.step_state.new.state Second c.step_state.new.value c.of_pair.result refl (ap answer (rw (ap (λ (p : Pair). p.first) (own_halves c.in-Ok-make_mut.ensures.value) ∙ c.in-Ok.ensures.first ∙ ap first_of c.replace-input.ensures.value) at (c.of_pair.ensures ∙ ap (λ (q : Pair). pair q.first q.second) (c.make_mut.follows.holds _ (there_is c.in-Ok-make_mut.is))))) c.in_ok-step_state.ensures

-- ## step_loop

pub step_loop-returns-in-Err : goal.step_loop-returns-in-Err
step_loop-returns-in-Err g t c = λ m depth t P L R. early_memory (context_machine g.R.Holds.answers c.args.context.now) t c.stop.ensures.entered c.stop.ensures.height c.stop.ensures.fault

pub step_loop-returns-in_err-step_state : goal.step_loop-returns-in_err-step_state
step_loop-returns-in_err-step_state g t c = λ m depth t P L R.
    pass_exit _ _ c.from_residual.ensures.0 (wrap_fails (context_machine g.R.Holds.answers c.args.context.now) (Loop c.args.feedback.now) c.args.part.now c.args.meter.now c.step_state.new.meter c.args.inside c.args.context.now.dt c.args.value.now c.in-Ok.value c.in-Ok.ensures.both
    _ c.in_err-step_state.ensures m depth t P L R)

pub step_loop-returns-in-Err-keep : goal.step_loop-returns-in-Err-keep
step_loop-returns-in-Err-keep g t c =
    late_memory (context_machine g.R.Holds.answers c.args.context.now) (wrap_steps (context_machine g.R.Holds.answers c.args.context.now) (Loop c.args.feedback.now) c.args.part.now c.args.meter.now c.step_state.new.meter c.args.inside c.args.context.now.dt c.args.value.now c.in-Ok.value c.in-Ok.ensures.both
    c.step_state.new.state _ c.step_state.new.value _ refl refl c.in_ok-step_state.ensures)
    c.stop-in-Err-keep.ensures.entered c.stop-in-Err-keep.ensures.height c.stop-in-Err-keep.ensures.fault

pub step_loop-returns : goal.step_loop-returns
step_loop-returns g t c =
    wrap_steps (context_machine g.R.Holds.answers c.args.context.now) (Loop c.args.feedback.now) c.args.part.now c.args.meter.now c.step_state.new.meter c.args.inside c.args.context.now.dt c.args.value.now c.in-Ok.value c.in-Ok.ensures.both
    c.step_state.new.state (Loop c.keep.new.self) c.step_state.new.value c.keep.new.value (ap Loop c.in-Ok-keep.ensures.next) (ap answer c.in-Ok-keep.ensures.output) c.in_ok-step_state.ensures

-- ## step_initialized

pub step_initialized-returns-in_err-step_state : goal.step_initialized-returns-in_err-step_state
step_initialized-returns-in_err-step_state g t c = λ m depth t P L R.
    pass_exit _ _ c.from_residual.ensures.0 (wrap_fails (context_machine g.R.Holds.answers c.args.context.now) (Initialized c.args.first.now) c.args.part.now c.args.meter.now c.step_state.new.meter c.args.inside c.args.context.now.dt c.args.value.now _ refl
    _ c.in_err-step_state.ensures m depth t P L R)

pub step_initialized-returns : goal.step_initialized-returns
step_initialized-returns g t c =
    wrap_steps (context_machine g.R.Holds.answers c.args.context.now) (Initialized c.args.first.now) c.args.part.now c.args.meter.now c.step_state.new.meter c.args.inside c.args.context.now.dt c.args.value.now _ refl
    c.step_state.new.state (Initialized c.put_first.new.first) c.step_state.new.value c.put_first.new.value (ap Initialized c.put_first.ensures.first) (ap answer c.put_first.ensures.value) c.in_ok-step_state.ensures

-- ## step_replaced

pub step_replaced-returns : goal.step_replaced-returns
step_replaced-returns g t c =
    wrap_last (context_machine g.R.Holds.answers c.args.context.now) (Replaced c.args.initial.now) c.args.part.now c.args.meter.now c.step_state.new.meter c.args.inside c.args.context.now.dt c.args.value.now c.put_first.new.value c.put_first.ensures.value
    c.step_state.new.state (Replaced c.put_first.new.first) c.step_state.new.value c.step_state.new.value c.step_state.result _ (ap Replaced c.put_first.ensures.first) refl c.step_state.ensures

-- ## step_followed

pub step_followed-returns-in_err-step_state : goal.step_followed-returns-in_err-step_state
step_followed-returns-in_err-step_state g t c = λ m depth t P L R.
    pass_exit _ _ c.from_residual.ensures.0 (wrap_fails (context_machine g.R.Holds.answers c.args.context.now) (Followed c.args.last.now) c.args.part.now c.args.meter.now c.step_state.new.meter c.args.inside c.args.context.now.dt c.args.value.now _ refl
    _ c.in_err-step_state.ensures m depth t P L R)

pub step_followed-returns-in-Ok : goal.step_followed-returns-in-Ok
step_followed-returns-in-Ok g t c =
    wrap_steps (context_machine g.R.Holds.answers c.args.context.now) (Followed c.args.last.now) c.args.part.now c.args.meter.now c.step_state.new.meter c.args.inside c.args.context.now.dt c.args.value.now _ refl
    c.step_state.new.state (Followed c.put_last.new.last) c.step_state.new.value c.put_last.new.value (ap Followed c.in-Ok.ensures.last) (sym (ap worth_given c.in-Ok.ensures.value)) c.in_ok-step_state.ensures

pub step_followed-returns-in-Err : goal.step_followed-returns-in-Err
step_followed-returns-in-Err g t c =
    wrap_faults (context_machine g.R.Holds.answers c.args.context.now) (Followed c.args.last.now) c.args.part.now c.args.meter.now c.step_state.new.meter c.args.inside c.args.context.now.dt c.args.value.now _ refl
    c.step_state.new.state c.step_state.new.value c.in-Err.fault (sym (ap worth_given c.in-Err.ensures.fault)) c.in_ok-step_state.ensures c.stop.ensures.entered c.stop.ensures.height c.stop.ensures.fault

-- ## A switch that keeps its source, and a frozen state

pub step_frozen-returns-in-Err : goal.step_frozen-returns-in-Err
step_frozen-returns-in-Err g t c = first_memory (context_machine g.R.Holds.answers c.args.context.now) c.stop.ensures.entered c.stop.ensures.height c.stop.ensures.fault

pub step_frozen-returns : goal.step_frozen-returns
step_frozen-returns g t c = λ P L A.
    let r = left_or c.step_state.result (c.step_state.new.state, c.step_state.new.value) (meter_fault c.step_state.new.meter) in
    frozen_steps (context_machine g.R.Holds.answers c.args.context.now) _ c.in-Frozen.frozen.value.wait c.in-Frozen.frozen.value.names c.in-Frozen.frozen.value.node c.in-Ok.value c.args.context.now.dt c.args.value.now r c.args.meter.now c.step_state.new.meter c.args.depth
    (subst (λ (f : Frozen). (P : Process) (L : Life) → Stands (context_machine g.R.Holds.answers c.args.context.now) (frozen_state f.names f.node) P L → Stands (context_machine g.R.Holds.answers c.args.context.now) c.in-Ok.value P L)
    c.deref-2.ensures (c.in-Ok.ensures.stands (context_machine g.R.Holds.answers c.args.context.now)))
    (subst (λ (f : Frozen). StateSteps (context_machine g.R.Holds.answers c.args.context.now) c.in-Ok.value (step f.wait c.args.value.now) r c.args.meter.now c.step_state.new.meter c.args.depth)
    c.deref.ensures c.step_state.ensures) P L (rw c.in-Frozen.is at A)

pub step_continuing-returns-in-Err : goal.step_continuing-returns-in-Err
step_continuing-returns-in-Err g t c = λ m depth t T e L N W. early_memory (context_machine g.R.Holds.answers c.args.context.now) t c.stop.ensures.entered c.stop.ensures.height c.stop.ensures.fault

pub step_continuing-returns-in-Err-clone_in : goal.step_continuing-returns-in-Err-clone_in
step_continuing-returns-in-Err-clone_in g t c = λ m depth t T e L N W. early_memory (context_machine g.R.Holds.answers c.args.context.now) t c.stop-in-Err-clone_in.ensures.entered c.stop-in-Err-clone_in.ensures.height c.stop-in-Err-clone_in.ensures.fault

pub step_continuing-returns-in_err-step_state : goal.step_continuing-returns-in_err-step_state
step_continuing-returns-in_err-step_state g t c = λ m depth t T e L N W.
    pass_beside (context_machine g.R.Holds.answers c.args.context.now) _ _ _ c.from_residual.ensures.0 (kept_fails (context_machine g.R.Holds.answers c.args.context.now) c.args.names.now c.args.continuing.now c.args.context.now.dt c.args.value.now c.args.meter.now c.step_state.new.meter c.args.inside
    _ (runs_alike (context_machine g.R.Holds.answers c.args.context.now) (c.in-Ok.ensures.runs_on (context_machine g.R.Holds.answers c.args.context.now)) c.in_err-step_state.ensures) m depth t T e L N W)

pub step_continuing-returns-in_err-seen : goal.step_continuing-returns-in_err-seen
step_continuing-returns-in_err-seen g t c = λ m depth t T e L N W.
    pass_beside (context_machine g.R.Holds.answers c.args.context.now) _ _ _ c.from_residual-in_err-seen.ensures.0 (observer_fails (context_machine g.R.Holds.answers c.args.context.now) c.args.names.now c.args.continuing.now c.args.context.now.dt c.args.value.now c.args.meter.now c.step_state.new.meter c.args.inside
    c.step_state.new.state c.step_state.new.value (runs_alike (context_machine g.R.Holds.answers c.args.context.now) (c.in-Ok.ensures.runs_on (context_machine g.R.Holds.answers c.args.context.now)) c.in_ok-step_state.ensures) (pair c.in-Ok-clone_in.value c.step_state.new.value) (ap (λ (i : Data). pair i c.step_state.new.value) c.in-Ok-clone_in.ensures) c.step_beside.new.meter
    _ c.in_err-seen.ensures m depth t T e L N W)

pub step_continuing-returns-in-None : goal.step_continuing-returns-in-None
step_continuing-returns-in-None g t c =
    keeps_on (context_machine g.R.Holds.answers c.args.context.now) c.args.names.now c.args.continuing.now c.args.context.now.dt c.args.value.now c.args.meter.now c.step_state.new.meter c.args.inside
    c.step_state.new.state c.step_state.new.value (runs_alike (context_machine g.R.Holds.answers c.args.context.now) (c.in-Ok.ensures.runs_on (context_machine g.R.Holds.answers c.args.context.now)) c.in_ok-step_state.ensures) (pair c.in-Ok-clone_in.value c.step_state.new.value) (ap (λ (i : Data). pair i c.step_state.new.value) c.in-Ok-clone_in.ensures) c.step_beside.new.meter
    c.step_beside.new.state c.in_ok-seen.seen c.in_ok-seen.ensures (none_occurs _ c.payload_of.result c.in_ok-seen.seen c.payload_of.ensures c.in-None.is) _ _ refl

pub step_continuing-returns-in-Err-begin : goal.step_continuing-returns-in-Err-begin
step_continuing-returns-in-Err-begin g t c = λ m depth t T e L N W.
    memory_exit c.stop-in-Err-begin.ensures.fault (observer_memory (context_machine g.R.Holds.answers c.args.context.now) c.args.names.now c.args.continuing.now c.args.context.now.dt c.args.value.now c.args.meter.now c.step_state.new.meter c.args.inside
    c.step_state.new.state c.step_state.new.value (runs_alike (context_machine g.R.Holds.answers c.args.context.now) (c.in-Ok.ensures.runs_on (context_machine g.R.Holds.answers c.args.context.now)) c.in_ok-step_state.ensures) (pair c.in-Ok-clone_in.value c.step_state.new.value) (ap (λ (i : Data). pair i c.step_state.new.value) c.in-Ok-clone_in.ensures) c.step_beside.new.meter
    c.step_beside.new.state c.in_ok-seen.seen c.in_ok-seen.ensures _ c.stop-in-Err-begin.ensures.entered c.stop-in-Err-begin.ensures.height m depth t T e L N W)

pub step_continuing-returns-in_err-first_step-in-Some : goal.step_continuing-returns-in_err-first_step-in-Some
step_continuing-returns-in_err-first_step-in-Some g t c = λ m depth t T e L N W.
    pass_beside (context_machine g.R.Holds.answers c.args.context.now) _ _ _ c.from_residual-in_err-first_step-in-Some.ensures.0 (kept_body_fails (context_machine g.R.Holds.answers c.args.context.now) c.args.names.now c.args.continuing.now c.args.context.now.dt c.args.value.now c.args.meter.now c.step_state.new.meter c.args.inside
    c.step_state.new.state c.step_state.new.value (runs_alike (context_machine g.R.Holds.answers c.args.context.now) (c.in-Ok.ensures.runs_on (context_machine g.R.Holds.answers c.args.context.now)) c.in_ok-step_state.ensures) (pair c.in-Ok-clone_in.value c.step_state.new.value) (ap (λ (i : Data). pair i c.step_state.new.value) c.in-Ok-clone_in.ensures) c.step_beside.new.meter
    c.step_beside.new.state c.in_ok-seen.seen c.in_ok-seen.ensures (bound_value c.in-Some.payload) (some_occurs _ c.payload_of.result c.in-Some.payload c.in_ok-seen.seen c.payload_of.ensures c.in-Some.is)
    (Unborn c.in-Ok-begin.value) (rw c.in-Ok.ensures.held at (c.in-Ok-begin.ensures (g.R.Holds.answers c.args.context.now.functions.now))) c.in-Ok-clone_in.value c.in-Ok-clone_in.ensures c.first_step.new.meter _ c.in_err-first_step-in-Some.ensures m depth t T e L N W)

pub step_continuing-returns-in_ok-first_step-in-Some : goal.step_continuing-returns-in_ok-first_step-in-Some
step_continuing-returns-in_ok-first_step-in-Some g t c =
    continuation_takes_over (context_machine g.R.Holds.answers c.args.context.now) c.args.names.now c.args.continuing.now c.args.context.now.dt c.args.value.now c.args.meter.now c.step_state.new.meter c.args.inside
    c.step_state.new.state c.step_state.new.value (runs_alike (context_machine g.R.Holds.answers c.args.context.now) (c.in-Ok.ensures.runs_on (context_machine g.R.Holds.answers c.args.context.now)) c.in_ok-step_state.ensures) (pair c.in-Ok-clone_in.value c.step_state.new.value) (ap (λ (i : Data). pair i c.step_state.new.value) c.in-Ok-clone_in.ensures) c.step_beside.new.meter
    c.step_beside.new.state c.in_ok-seen.seen c.in_ok-seen.ensures (bound_value c.in-Some.payload) (some_occurs _ c.payload_of.result c.in-Some.payload c.in_ok-seen.seen c.payload_of.ensures c.in-Some.is)
    (Unborn c.in-Ok-begin.value) (rw c.in-Ok.ensures.held at (c.in-Ok-begin.ensures (g.R.Holds.answers c.args.context.now.functions.now))) c.in-Ok-clone_in.value c.in-Ok-clone_in.ensures c.first_step.new.meter
    c.first_step.new.state c.first_step.new.value _ c.show.ensures _ c.in_ok-first_step-in-Some.ensures

-- ## Members that wait

pub step_counted-returns-in_err-released-in-Gathering : goal.step_counted-returns-in_err-released-in-Gathering
step_counted-returns-in_err-released-in-Gathering g t c = λ m depth t P L A.
    pass_exit _ _ c.from_residual-in_err-released-in-Gathering.ensures.0 (failed (gathering_fails (context_machine g.R.Holds.answers c.args.context.now) _ c.in-Gathering.names c.in-Gathering.node.value c.in-Gathering.node.value (λ P L S. S)
    (step c.args.context.now.dt c.args.value.now) c.args.meter.now c.step_gathering.new.meter c.args.inside _ c.in_err-released-in-Gathering.ensures m depth t P L (rw c.in-Gathering.is at A)))

pub step_counted-returns-in_ok-released-in-Gathering : goal.step_counted-returns-in_ok-released-in-Gathering
step_counted-returns-in_ok-released-in-Gathering g t c = λ m depth t P L A.
    gathering_turns (context_machine g.R.Holds.answers c.args.context.now) _ c.in-Gathering.names c.in-Gathering.node.value c.in-Gathering.node.value (λ P L S. S) (step c.args.context.now.dt c.args.value.now) c.args.meter.now c.step_gathering.new.meter c.args.inside
    _ c.in_ok-released-in-Gathering.released c.step_gathering.new.node.value c.step_gathering.new.value _ c.take_over-in-Gathering.ensures c.in_ok-released-in-Gathering.ensures m depth t P L (rw c.in-Gathering.is at A)

pub step_gathering-returns-in-Some : goal.step_gathering-returns-in-Some
step_gathering-returns-in-Some g t c = λ m depth t T e L N W. c.step_members_waiting.ensures m depth t T e L N (rw c.in-Some.ensures.value W)

pub step_gathering-returns-in-None : goal.step_gathering-returns-in-None
step_gathering-returns-in-None g t c = c.step_gathering_copy.ensures

pub step_gathering_copy-returns-in-Err : goal.step_gathering_copy-returns-in-Err
step_gathering_copy-returns-in-Err g t c = λ m depth t T e L N W. early_memory (context_machine g.R.Holds.answers c.args.context.now) t c.stop.ensures.entered c.stop.ensures.height c.stop.ensures.fault

pub step_gathering_copy-returns-in_err-over : goal.step_gathering_copy-returns-in_err-over
step_gathering_copy-returns-in_err-over g t c = λ m depth t T e L N W.
    pass_beside (context_machine g.R.Holds.answers c.args.context.now) _ _ _ c.from_residual.ensures.0 (failed (waits_alike (context_machine g.R.Holds.answers c.args.context.now) (WaitsGathered (context_machine g.R.Holds.answers c.args.context.now)) {k = c.args.node.now.value} (λ P L S. c.in-Ok.ensures (context_machine g.R.Holds.answers c.args.context.now) P L (rw c.deref.ensures S)) c.in_err-over.ensures m depth t T e L N W))

pub step_gathering_copy-returns-in-Err-new : goal.step_gathering_copy-returns-in-Err-new
step_gathering_copy-returns-in-Err-new g t c =
    late_waiting (context_machine g.R.Holds.answers c.args.context.now) (WaitsGathered (context_machine g.R.Holds.answers c.args.context.now)) (waits_alike (context_machine g.R.Holds.answers c.args.context.now) (WaitsGathered (context_machine g.R.Holds.answers c.args.context.now)) {k = c.args.node.now.value} (λ P L S. c.in-Ok.ensures (context_machine g.R.Holds.answers c.args.context.now) P L (rw c.deref.ensures S)) c.in_ok-over.ensures) c.stop-in-Err-new.ensures.entered c.stop-in-Err-new.ensures.height c.stop-in-Err-new.ensures.fault

pub step_gathering_copy-returns : goal.step_gathering_copy-returns
step_gathering_copy-returns g t c =
    rw c.in-Ok-new.ensures.ok (waits_alike (context_machine g.R.Holds.answers c.args.context.now) (WaitsGathered (context_machine g.R.Holds.answers c.args.context.now)) {k = c.args.node.now.value} (λ P L S. c.in-Ok.ensures (context_machine g.R.Holds.answers c.args.context.now) P L (rw c.deref.ensures S)) c.in_ok-over.ensures)

-- ## step_edited

pub step_edited-returns-in_err-step_editing : goal.step_edited-returns-in_err-step_editing
step_edited-returns-in_err-step_editing g t c = λ m depth t T e L N W.
    pass_beside (context_machine g.R.Holds.answers c.args.context.now) _ _ _ c.from_residual.ensures.0 (failed (c.in_err-step_editing.ensures m depth t T e L N W))

-- ## step_releasing

pub step_releasing-returns-in-Err : goal.step_releasing-returns-in-Err
step_releasing-returns-in-Err g t c = λ m depth t T e L N W. early_memory (context_machine g.R.Holds.answers c.args.context.now) t c.stop.ensures.entered c.stop.ensures.height c.stop.ensures.fault

pub step_releasing-returns-in-Err-clone_in : goal.step_releasing-returns-in-Err-clone_in
step_releasing-returns-in-Err-clone_in g t c = λ m depth t T e L N W. early_memory (context_machine g.R.Holds.answers c.args.context.now) t c.stop-in-Err-clone_in.ensures.entered c.stop-in-Err-clone_in.ensures.height c.stop-in-Err-clone_in.ensures.fault

pub step_releasing-returns-in_err-step_members : goal.step_releasing-returns-in_err-step_members
step_releasing-returns-in_err-step_members g t c = λ m depth t T e L N W.
    pass_beside (context_machine g.R.Holds.answers c.args.context.now) _ _ _ c.from_residual.ensures.0 (members_stop (context_machine g.R.Holds.answers c.args.context.now) c.args.names.now c.args.releasing.now c.args.context.now.dt c.args.value.now c.args.meter.now c.step_members.new.meter c.args.inside
    _ (run_alike (context_machine g.R.Holds.answers c.args.context.now) c.args.releasing.now.members c.hold_back_members.new.members (c.in-Ok.ensures.runs_on (context_machine g.R.Holds.answers c.args.context.now)) c.in_err-step_members.ensures) m depth t T e L N W)

pub step_releasing-returns-in_err-seen : goal.step_releasing-returns-in_err-seen
step_releasing-returns-in_err-seen g t c = λ m depth t T e L N W.
    pass_beside (context_machine g.R.Holds.answers c.args.context.now) _ _ _ c.from_residual-in_err-seen.ensures.0 (sight_fails (context_machine g.R.Holds.answers c.args.context.now) c.args.names.now c.args.releasing.now c.args.context.now.dt c.args.value.now c.args.meter.now c.step_members.new.meter c.args.inside
    c.step_members.new.members c.step_members.new.value (run_alike (context_machine g.R.Holds.answers c.args.context.now) c.args.releasing.now.members c.hold_back_members.new.members (c.in-Ok.ensures.runs_on (context_machine g.R.Holds.answers c.args.context.now)) c.in_ok-step_members.ensures) (pair c.in-Ok-clone_in.value c.step_members.new.value) (ap (λ (i : Data). pair i c.step_members.new.value) c.in-Ok-clone_in.ensures) c.step_beside.new.meter
    _ c.in_err-seen.ensures m depth t T e L N W)

pub step_releasing-returns-in-None : goal.step_releasing-returns-in-None
step_releasing-returns-in-None g t c =
    members_go_on (context_machine g.R.Holds.answers c.args.context.now) c.args.names.now c.args.releasing.now c.args.context.now.dt c.args.value.now c.args.meter.now c.step_members.new.meter c.args.inside
    c.step_members.new.members c.step_members.new.value (run_alike (context_machine g.R.Holds.answers c.args.context.now) c.args.releasing.now.members c.hold_back_members.new.members (c.in-Ok.ensures.runs_on (context_machine g.R.Holds.answers c.args.context.now)) c.in_ok-step_members.ensures) (pair c.in-Ok-clone_in.value c.step_members.new.value) (ap (λ (i : Data). pair i c.step_members.new.value) c.in-Ok-clone_in.ensures) c.step_beside.new.meter
    c.step_beside.new.state c.in_ok-seen.seen c.in_ok-seen.ensures (none_occurs _ c.payload_of.result c.in_ok-seen.seen c.payload_of.ensures c.in-None.is) _ _ refl

pub step_releasing-returns-in-Err-begin : goal.step_releasing-returns-in-Err-begin
step_releasing-returns-in-Err-begin g t c = λ m depth t T e L N W.
    memory_exit c.stop-in-Err-begin.ensures.fault (sight_memory (context_machine g.R.Holds.answers c.args.context.now) c.args.names.now c.args.releasing.now c.args.context.now.dt c.args.value.now c.args.meter.now c.step_members.new.meter c.args.inside
    c.step_members.new.members c.step_members.new.value (run_alike (context_machine g.R.Holds.answers c.args.context.now) c.args.releasing.now.members c.hold_back_members.new.members (c.in-Ok.ensures.runs_on (context_machine g.R.Holds.answers c.args.context.now)) c.in_ok-step_members.ensures) (pair c.in-Ok-clone_in.value c.step_members.new.value) (ap (λ (i : Data). pair i c.step_members.new.value) c.in-Ok-clone_in.ensures) c.step_beside.new.meter
    c.step_beside.new.state c.in_ok-seen.seen c.in_ok-seen.ensures _ c.stop-in-Err-begin.ensures.entered c.stop-in-Err-begin.ensures.height m depth t T e L N W)

pub step_releasing-returns-in_err-first_step-in-Some : goal.step_releasing-returns-in_err-first_step-in-Some
step_releasing-returns-in_err-first_step-in-Some g t c = λ m depth t T e L N W.
    pass_beside (context_machine g.R.Holds.answers c.args.context.now) _ _ _ c.from_residual-in_err-first_step-in-Some.ensures.0 (released_body_fails (context_machine g.R.Holds.answers c.args.context.now) c.args.names.now c.args.releasing.now c.args.context.now.dt c.args.value.now c.args.meter.now c.step_members.new.meter c.args.inside
    c.step_members.new.members c.step_members.new.value (run_alike (context_machine g.R.Holds.answers c.args.context.now) c.args.releasing.now.members c.hold_back_members.new.members (c.in-Ok.ensures.runs_on (context_machine g.R.Holds.answers c.args.context.now)) c.in_ok-step_members.ensures) (pair c.in-Ok-clone_in.value c.step_members.new.value) (ap (λ (i : Data). pair i c.step_members.new.value) c.in-Ok-clone_in.ensures) c.step_beside.new.meter
    c.step_beside.new.state c.in_ok-seen.seen c.in_ok-seen.ensures (bound_value c.in-Some.payload) (some_occurs _ c.payload_of.result c.in-Some.payload c.in_ok-seen.seen c.payload_of.ensures c.in-Some.is)
    (Unborn c.in-Ok-begin.value) (rw c.in-Ok.ensures.held at (c.in-Ok-begin.ensures (g.R.Holds.answers c.args.context.now.functions.now)))
    c.in-Ok-clone_in.value c.in-Ok-clone_in.ensures c.first_step.new.meter _ c.in_err-first_step-in-Some.ensures m depth t T e L N W)

pub step_releasing-returns-in_ok-first_step-in-Some : goal.step_releasing-returns-in_ok-first_step-in-Some
step_releasing-returns-in_ok-first_step-in-Some g t c =
    released_body_takes_over (context_machine g.R.Holds.answers c.args.context.now) c.args.names.now c.args.releasing.now c.args.context.now.dt c.args.value.now c.args.meter.now c.step_members.new.meter c.args.inside
    c.step_members.new.members c.step_members.new.value (run_alike (context_machine g.R.Holds.answers c.args.context.now) c.args.releasing.now.members c.hold_back_members.new.members (c.in-Ok.ensures.runs_on (context_machine g.R.Holds.answers c.args.context.now)) c.in_ok-step_members.ensures) (pair c.in-Ok-clone_in.value c.step_members.new.value) (ap (λ (i : Data). pair i c.step_members.new.value) c.in-Ok-clone_in.ensures) c.step_beside.new.meter
    c.step_beside.new.state c.in_ok-seen.seen c.in_ok-seen.ensures (bound_value c.in-Some.payload) (some_occurs _ c.payload_of.result c.in-Some.payload c.in_ok-seen.seen c.payload_of.ensures c.in-Some.is)
    (Unborn c.in-Ok-begin.value) (rw c.in-Ok.ensures.held at (c.in-Ok-begin.ensures (g.R.Holds.answers c.args.context.now.functions.now)))
    c.in-Ok-clone_in.value c.in-Ok-clone_in.ensures c.first_step.new.meter
    c.first_step.new.state c.first_step.new.value _ c.show.ensures _ c.in_ok-first_step-in-Some.ensures

-- ## step_editing

pub step_editing-returns-in-Err : goal.step_editing-returns-in-Err
step_editing-returns-in-Err g t c = λ m depth t T e L N W. early_memory (context_machine g.R.Holds.answers c.args.context.now) t c.stop.ensures.entered c.stop.ensures.height c.stop.ensures.fault

pub step_editing-returns-in-Err-inside : goal.step_editing-returns-in-Err-inside
step_editing-returns-in-Err-inside g t c = λ m depth t T e L N W. early_memory (context_machine g.R.Holds.answers c.args.context.now) t c.stop-in-Err-inside.ensures.entered c.stop-in-Err-inside.ensures.height c.stop-in-Err-inside.ensures.fault

pub step_editing-returns-in-None : goal.step_editing-returns-in-None
step_editing-returns-in-None g t c =
    members_alone (context_machine g.R.Holds.answers c.args.context.now) c.args.names.now c.args.editing.now c.args.context.now.dt c.args.value.now c.in-Ok.value.0 c.in-Ok.ensures.0 c.args.meter.now c.step_members.new.meter c.args.inside
    c.step_members.result c.step_members.new.members c.step_members.new.value (meter_fault c.step_members.new.meter) (none_occurs _ c.in-Ok.value.1 (second_of c.args.value.now) c.in-Ok.ensures.1 c.in-None.is)
    _ refl c.step_members.ensures

pub step_editing-returns-in-Ok-Some : goal.step_editing-returns-in-Ok-Some
step_editing-returns-in-Ok-Some g t c =
    let μ = context_machine g.R.Holds.answers c.args.context.now in
    let k = c.args.editing.now in
    let d = c.args.context.now.dt in
    let v = bound_value c.in-Some.payload in
    let made = rw c.deref.ensures at (rw c.in-Ok-Some.field-0-is at c.in-Ok-Some.ensures) in
    edit_answers μ c.args.names.now k d c.args.value.now c.in-Ok.value.0 c.in-Ok.ensures.0 v (some_occurs _ c.in-Ok.value.1 c.in-Some.payload (second_of c.args.value.now) c.in-Ok.ensures.1 c.in-Some.is) (Ok (drafted k.members d c.in-Ok-Some.draft)) c.args.inside
    c.step_draft.result c.step_draft.new.members c.step_draft.new.value (meter_fault c.step_draft.new.meter) (λ e qs K N G coded. made (each_frozen qs K d) v e (c.in-Ok-inside.ensures μ.answers e qs K N G) coded (gathers_frozen μ k.members d qs K G)) _ refl c.step_draft.ensures

pub step_editing-returns-in-Err-Memory : goal.step_editing-returns-in-Err-Memory
step_editing-returns-in-Err-Memory g t c = λ m depth t T e L N W. early_memory (context_machine g.R.Holds.answers c.args.context.now) t c.stop-in-Err-Memory.ensures.entered c.stop-in-Err-Memory.ensures.height c.stop-in-Err-Memory.ensures.fault

pub step_editing-returns-after-draft_of : goal.step_editing-returns-after-draft_of
step_editing-returns-after-draft_of g t c =
    let μ = context_machine g.R.Holds.answers c.args.context.now in
    let k = c.args.editing.now in
    let d = c.args.context.now.dt in
    let v = bound_value c.in-Some.payload in
    edit_answers μ c.args.names.now k d c.args.value.now c.in-Ok.value.0 c.in-Ok.ensures.0 v (some_occurs _ c.in-Ok.value.1 c.in-Some.payload (second_of c.args.value.now) c.in-Ok.ensures.1 c.in-Some.is) (held_as_made c.collect-made.result) c.args.inside
    c.step_exchange.result c.step_exchange.new.members c.step_exchange.new.value (meter_fault c.step_exchange.new.meter) (λ e qs K N G coded. as_made μ c.collect-made.result ((rw c.deref-in-Some.ensures at c.collect-made.ensures) _ (c.in-Ok-inside.ensures μ.answers e qs K N G) coded)) _ refl c.step_exchange.ensures

-- ## step_exchange

pub step_exchange-returns-in-Err : goal.step_exchange-returns-in-Err
step_exchange-returns-in-Err g t c = edit_stopped c.stop.ensures.fault (no_memory_before c.stop.ensures.entered c.stop.ensures.height)

pub step_exchange-returns-in_err-step_members : goal.step_exchange-returns-in_err-step_members
step_exchange-returns-in_err-step_members g t c =
    let μ = context_machine g.R.Holds.answers c.args.context.now in
    pass_edit _ _ c.from_residual.ensures.0 (old_fails (held_fails μ c.args.members.now c.in_err-step_members.ensures))

pub step_exchange-returns-in-Err-made : goal.step_exchange-returns-in-Err-made
step_exchange-returns-in-Err-made g t c =
    let μ = context_machine g.R.Holds.answers c.args.context.now in
    edit_stopped c.stop-in-Err-made.ensures.fault (made_fails (as_held μ c.args.members.now c.step_members.new.members c.in_ok-step_members.ensures) (ap held_as_made c.in-Err-made.is) c.stop-in-Err-made.ensures.entered c.stop-in-Err-made.ensures.height)

pub step_exchange-returns-in_err-step_members-in-Ok-made : goal.step_exchange-returns-in_err-step_members-in-Ok-made
step_exchange-returns-in_err-step_members-in-Ok-made g t c =
    let μ = context_machine g.R.Holds.answers c.args.context.now in
    pass_edit _ _ c.from_residual-in_err-step_members-in-Ok-made.ensures.0 (Edits.new_fails (as_held μ c.args.members.now c.step_members.new.members c.in_ok-step_members.ensures) (ap held_as_made c.in-Ok-made.is) (λ low ms L G. held_fails μ c.in-Ok-made.fresh (rw c.in-Ok.ensures at c.in_err-step_members-in-Ok-made.ensures)))

pub step_exchange-returns-in_ok-step_members-in-Ok-made : goal.step_exchange-returns-in_ok-step_members-in-Ok-made
step_exchange-returns-in_ok-step_members-in-Ok-made g t c =
    let μ = context_machine g.R.Holds.answers c.args.context.now in
    new_run (as_held μ c.args.members.now c.step_members.new.members c.in_ok-step_members.ensures) (ap held_as_made c.in-Ok-made.is) (λ low ms L G. as_held μ c.in-Ok-made.fresh c.step_members-in-Ok-made.new.members (rw c.in-Ok.ensures at c.in_ok-step_members-in-Ok-made.ensures)) c.show.ensures

-- ## step_noted

pub step_noted-returns-in-Err : goal.step_noted-returns-in-Err
step_noted-returns-in-Err g t c =
    let μ = context_machine g.R.Holds.answers c.args.context.now in
    notes_stopped μ c.args.wait c.args.context.now.dt c.args.value.now c.args.inside refl c.stop.ensures.fault (no_memory_noted c.stop.ensures.entered c.stop.ensures.height)

pub step_noted-returns-in-Err-with_capacity : goal.step_noted-returns-in-Err-with_capacity
step_noted-returns-in-Err-with_capacity g t c =
    let μ = context_machine g.R.Holds.answers c.args.context.now in
    notes_stopped μ c.args.wait c.args.context.now.dt c.args.value.now c.args.inside refl c.stop-in-Err-with_capacity.ensures.fault (no_memory_noted c.stop-in-Err-with_capacity.ensures.entered c.stop-in-Err-with_capacity.ensures.height)

pub step_noted-loop-ran-init : goal.step_noted-loop-ran-init
step_noted-loop-ran-init g t c =
    let μ = context_machine g.R.Holds.answers c.args.context.now in
    let d = c.args.context.now.dt in
    let x = c.args.value.now in
    let m = c.args.meter.now in
    let bs = c.deref_mut-ran-items.result.now in
    record {
      goes_on = subst (λ (gs : List Turn). NotesOn μ c.args.wait d x c.args.inside m bs [] c.in-Ok.value.items gs bs m) (sym c.in-Ok-with_capacity.ensures.items) (subst (λ (ys : List Data). NotesOn μ c.args.wait d x c.args.inside m bs [] ys [] bs m) (sym c.in-Ok.ensures.items) (notes_first μ c.args.wait d x c.args.inside m bs));
      as_many = c.in-Ok.ensures.len;
      room = omega (arith, c.in-Ok.ensures.capacity, c.room_for-room.ensures, c.len.ensures, ap length c.deref_mut-ran-items.ensures.value);
      as_many_turns = c.in-Ok-with_capacity.ensures.len;
      room_for_turns = omega (arith, c.in-Ok-with_capacity.ensures.capacity, c.room_for-room.ensures, c.len.ensures, ap length c.deref_mut-ran-items.ensures.value);
    }

pub step_noted-returns-in-Err-clone_in : goal.step_noted-returns-in-Err-clone_in
step_noted-returns-in-Err-clone_in g t c =
    let μ = context_machine g.R.Holds.answers c.args.context.now in
    let l = c.loop-ran in
    let all = c.deref_mut-ran-items.result.now in
    notes_stopped μ c.args.wait c.args.context.now.dt c.args.value.now c.args.inside c.deref_mut-ran-items.ensures.value c.stop-in-Err-clone_in.ensures.fault
    (notes_memory μ c.args.wait c.args.context.now.dt c.args.value.now c.args.inside c.args.meter.now all (take l.ran-index l.ran-items) l.outputs.items l.turns.items (drop l.ran-index l.ran-items) l.meter c.stop-in-Err-clone_in.new.self l.invariant.goes_on c.stop-in-Err-clone_in.ensures.entered c.stop-in-Err-clone_in.ensures.height)

pub step_noted-returns-in_err-step_member : goal.step_noted-returns-in_err-step_member
step_noted-returns-in_err-step_member g t c =
    let μ = context_machine g.R.Holds.answers c.args.context.now in
    let d = c.args.context.now.dt in
    let x = c.args.value.now in
    let m = c.args.meter.now in
    let l = c.loop-ran in
    let all = c.deref_mut-ran-items.result.now in
    let n = c.step_member.new.meter in
    let failed = notes_fail μ c.args.wait d x c.args.inside m all l.ran-items l.ran-index l.outputs.items l.turns.items l.meter c.ran-item.result (omega (arith, c.loop-ran-test.true, l.auto.ran-items)) l.invariant.goes_on (meter_fault n) n (rw c.in-Ok-clone_in.ensures at c.in_err-step_member.ensures) in
    pass_notes _ _ c.from_residual.ensures.0 (subst (λ (bs : List State). HaveStepped μ c.args.wait (step d x) c.args.inside m bs (Err (meter_fault n)) n) c.deref_mut-ran-items.ensures.value failed)

pub step_noted-loop-ran-preserved : goal.step_noted-loop-ran-preserved
step_noted-loop-ran-preserved g t c =
    let μ = context_machine g.R.Holds.answers c.args.context.now in
    let d = c.args.context.now.dt in
    let x = c.args.value.now in
    let m = c.args.meter.now in
    let l = c.loop-ran in
    let all = c.deref_mut-ran-items.result.now in
    let n = c.step_member.new.meter in
    let b = c.step_member.new.state in
    let y = c.step_member.new.value in
    let spent = c.since.result in
    let bs = set l.ran-items l.ran-index b in
    let short : l.ran-index < length l.ran-items = omega (arith, c.loop-ran-test.true, l.auto.ran-items) in
    let between : IsBetween l.meter n spent = record {
      entered = c.since.ensures.entered ∙ ap (λ k. entered_of n - k) c.mark-mark.ensures.entered;
      first = c.since.ensures.first ∙ c.mark-mark.ensures.recorded;
      behind = c.since.ensures.behind;
    } in
    let next = notes_next μ c.args.wait d x c.args.inside m all l.ran-items l.ran-index l.outputs.items l.turns.items l.meter c.ran-item.result short l.invariant.goes_on b y n spent (rw c.in-Ok-clone_in.ensures at c.in_ok-step_member.ensures) between in
    record {
      goes_on = subst (λ (gs : List Turn). NotesOn μ c.args.wait d x c.args.inside m all (take (l.ran-index + 1) bs) c.push_reserved.new.self.items gs (drop (l.ran-index + 1) bs) n) (sym c.push_reserved-in-loop-ran.ensures.items)
          (subst (λ (ys : List Data). NotesOn μ c.args.wait d x c.args.inside m all (take (l.ran-index + 1) bs) ys (l.turns.items ++ Stays spent ∷ []) (drop (l.ran-index + 1) bs) n) (sym c.push_reserved.ensures.items) next);
      as_many = c.push_reserved.ensures.len ∙ ap (λ k. k + 1) l.invariant.as_many;
      room = omega (arith, length-set l.ran-items l.ran-index b, l.invariant.room, c.push_reserved.ensures.capacity);
      as_many_turns = c.push_reserved-in-loop-ran.ensures.len ∙ ap (λ k. k + 1) l.invariant.as_many_turns;
      room_for_turns = omega (arith, length-set l.ran-items l.ran-index b, l.invariant.room_for_turns, c.push_reserved-in-loop-ran.ensures.capacity);
    }

pub step_noted-push_reserved-requires : goal.step_noted-push_reserved-requires
step_noted-push_reserved-requires g t c =
    let l = c.loop-ran in
    omega (arith, l.invariant.as_many, l.invariant.room, c.loop-ran-test.true, l.auto.ran-items)

pub step_noted-push_reserved-requires-in-loop-ran : goal.step_noted-push_reserved-requires-in-loop-ran
step_noted-push_reserved-requires-in-loop-ran g t c =
    let l = c.loop-ran in
    omega (arith, l.invariant.as_many_turns, l.invariant.room_for_turns, c.loop-ran-test.true, l.auto.ran-items)

pub step_noted-returns : goal.step_noted-returns
step_noted-returns g t c =
    let μ = context_machine g.R.Holds.answers c.args.context.now in
    let d = c.args.context.now.dt in
    let x = c.args.value.now in
    let m = c.args.meter.now in
    let l = c.loop-ran in
    let last : l.ran-index ≡ length l.ran-items = omega (arith, l.auto.ran-items, l.auto.ran-index-end, c.loop-ran-test.false) in
    let w = with_items c.args.states.now l.ran-items in
    let whole : w.items ≡ l.ran-items = with_items_is c.args.states.now l.ran-items (omega (arith, l.auto.ran-items, ap length c.deref_mut-ran-items.ensures.value)) in
    let all = notes_last μ c.args.wait d x c.args.inside m c.deref_mut-ran-items.result.now l.ran-items l.ran-index l.outputs.items l.turns.items l.meter last l.invariant.goes_on in
    rw whole (subst (λ (bs : List State). HaveStepped μ c.args.wait (step d x) c.args.inside m bs (Ok (l.ran-items, (l.outputs.items, l.turns.items))) l.meter) c.deref_mut-ran-items.ensures.value all)

-- ## step_again

pub step_again-loop-at-init : goal.step_again-loop-at-init
step_again-loop-at-init g t c =
    let μ = context_machine g.R.Holds.answers c.args.context.now in
    record {
      goes_on = turns_first μ c.args.turns.wait c.args.context.now.dt c.args.turns.inside c.args.meter.now c.args.states.now.items c.args.outputs.now.items c.args.turns.each.now;
      states = c.requires.states;
      outputs = c.requires.outputs;
    }

pub step_again-returns-in_err-repeat-in-Stays : goal.step_again-returns-in_err-repeat-in-Stays
step_again-returns-in_err-repeat-in-Stays g t c =
    let μ = context_machine g.R.Holds.answers c.args.context.now in
    let l = c.loop-at in
    let n = c.repeat.new.self in
    let turn = turn_at c.args.turns.each.now l.at _ c.in-Stays.is c.loop-at-test.true in
    pass_turns _ _ c.from_residual.ensures.0 (turns_stay_not μ c.args.turns.wait c.args.context.now.dt c.args.turns.inside c.args.meter.now c.args.states.now.items c.args.outputs.now.items c.args.turns.each.now l.states.items l.outputs.items c.args.turns.each.now l.at l.meter l.invariant.goes_on
    c.in-Stays.spent n turn (omega (arith, c.loop-at-test.true, l.invariant.states)) (omega (arith, c.loop-at-test.true, l.invariant.outputs)) (meter_fault n) c.in_err-repeat-in-Stays.ensures)

pub step_again-returns-in_err-step_waiting-in-Begins : goal.step_again-returns-in_err-step_waiting-in-Begins
step_again-returns-in_err-step_waiting-in-Begins g t c =
    let μ = context_machine g.R.Holds.answers c.args.context.now in
    let l = c.loop-at in
    let n = c.step_waiting.new.meter in
    let turn = turn_at c.args.turns.each.now l.at _ c.in-Begins.is c.loop-at-test.true in
    pass_turns _ _ c.from_residual-in_err-step_waiting-in-Begins.ensures.0 (turns_begin_not μ c.args.turns.wait c.args.context.now.dt c.args.turns.inside c.args.meter.now c.args.states.now.items c.args.outputs.now.items c.args.turns.each.now l.states.items l.outputs.items c.args.turns.each.now l.at l.meter l.invariant.goes_on
    c.index_mut.result.now c.index_mut-output.result.now n turn (omega (arith, c.loop-at-test.true, l.invariant.states)) (omega (arith, c.loop-at-test.true, l.invariant.outputs)) c.index_mut.ensures.value c.index_mut-output.ensures.value (meter_fault n) c.in_err-step_waiting-in-Begins.ensures)

pub step_again-loop-at-preserved : goal.step_again-loop-at-preserved
step_again-loop-at-preserved g t c =
    let μ = context_machine g.R.Holds.answers c.args.context.now in
    let l = c.loop-at in
    let short : l.at < length c.args.turns.each.now = c.loop-at-test.true in
    let states : l.at < length l.states.items = omega (arith, short, l.invariant.states) in
    let outputs : l.at < length l.outputs.items = omega (arith, short, l.invariant.outputs) in
    elim c.match-each-at.branch [
      | step_again-in-Stays+in_ok-repeat-in-Stays w ↦ rw (w.states-is, w.outputs-is, w.meter-is) (record {
        goes_on = turns_stay μ c.args.turns.wait c.args.context.now.dt c.args.turns.inside c.args.meter.now c.args.states.now.items c.args.outputs.now.items c.args.turns.each.now l.states.items l.outputs.items c.args.turns.each.now l.at l.meter l.invariant.goes_on w.in-Stays.spent w.repeat.new.self (turn_at c.args.turns.each.now l.at _ w.in-Stays.is short) states outputs w.in_ok-repeat-in-Stays.ensures;
        states = l.invariant.states;
        outputs = l.invariant.outputs;
      })
      | step_again-in-Begins+in_ok-step_waiting-in-Begins w ↦ rw (w.states-is, w.outputs-is, w.meter-is) (record {
        goes_on = turns_begin μ c.args.turns.wait c.args.context.now.dt c.args.turns.inside c.args.meter.now c.args.states.now.items c.args.outputs.now.items c.args.turns.each.now l.states.items l.outputs.items c.args.turns.each.now l.at l.meter l.invariant.goes_on w.index_mut.result.now w.index_mut-output.result.now w.step_waiting.new.meter (turn_at c.args.turns.each.now l.at _ w.in-Begins.is short) states outputs w.index_mut.ensures.value w.index_mut-output.ensures.value
            w.step_waiting.new.state w.step_waiting.new.value w.in_ok-step_waiting-in-Begins.ensures;
        states = length-set l.states.items l.at w.step_waiting.new.state ∙ l.invariant.states;
        outputs = length-set l.outputs.items l.at w.step_waiting.new.value ∙ l.invariant.outputs;
      })
    ]

pub step_again-returns : goal.step_again-returns
step_again-returns g t c =
    let μ = context_machine g.R.Holds.answers c.args.context.now in
    let l = c.loop-at in
    let last : l.at ≡ length c.args.turns.each.now = omega (arith, l.auto.at-end, c.loop-at-test.false) in
    turns_last μ c.args.turns.wait c.args.context.now.dt c.args.turns.inside c.args.meter.now c.args.states.now.items c.args.outputs.now.items c.args.turns.each.now l.states.items l.outputs.items c.args.turns.each.now l.at l.meter l.invariant.goes_on
    (last ∙ sym l.invariant.states) (last ∙ sym l.invariant.outputs) last

-- ## step_draft

pub step_draft-returns-in-Some : goal.step_draft-returns-in-Some
step_draft-returns-in-Some g t c =
    let μ = context_machine g.R.Holds.answers c.args.context.now in
    let v = c.args.members.now.states.value in
    c.step_turns.ensures v.items (subst (λ (w : Vec State Global). AllFollow μ v.items w.items) (sym c.in-Some.ensures.value) (list_follows μ v v refl))

pub step_draft-returns-in-None : goal.step_draft-returns-in-None
step_draft-returns-in-None g t c = c.step_turns_copy.ensures

-- ## step_turns_copy

pub step_turns_copy-returns-in-Err : goal.step_turns_copy-returns-in-Err
step_turns_copy-returns-in-Err g t c = edit_stopped c.stop.ensures.fault (no_memory_before c.stop.ensures.entered c.stop.ensures.height)

pub step_turns_copy-returns-in-Err-own_states : goal.step_turns_copy-returns-in-Err-own_states
step_turns_copy-returns-in-Err-own_states g t c = edit_stopped c.stop-in-Err-own_states.ensures.fault (no_memory_before c.stop-in-Err-own_states.ensures.entered c.stop-in-Err-own_states.ensures.height)

pub step_turns_copy-returns-in_err-step_turns : goal.step_turns_copy-returns-in_err-step_turns
step_turns_copy-returns-in_err-step_turns g t c =
    let μ = context_machine g.R.Holds.answers c.args.context.now in
    let own = subst (λ (v : Vec State Global). AllFollow μ v.items c.in-Ok-own_states.value.items) c.in-Ok.ensures.cases (c.in-Ok-own_states.ensures μ) in
    pass_edit _ _ c.from_residual.ensures.0 (c.in_err-step_turns.ensures _ own)

pub step_turns_copy-returns-in-Err-new : goal.step_turns_copy-returns-in-Err-new
step_turns_copy-returns-in-Err-new g t c =
    let μ = context_machine g.R.Holds.answers c.args.context.now in
    let own = subst (λ (v : Vec State Global). AllFollow μ v.items c.in-Ok-own_states.value.items) c.in-Ok.ensures.cases (c.in-Ok-own_states.ensures μ) in
    edit_late c.stop-in-Err-new.ensures.fault c.stop-in-Err-new.ensures.entered c.stop-in-Err-new.ensures.height (c.in_ok-step_turns.ensures _ own)

pub step_turns_copy-returns : goal.step_turns_copy-returns
step_turns_copy-returns g t c =
    let μ = context_machine g.R.Holds.answers c.args.context.now in
    let own = subst (λ (v : Vec State Global). AllFollow μ v.items c.in-Ok-own_states.value.items) c.in-Ok.ensures.cases (c.in-Ok-own_states.ensures μ) in
    rw c.in-Ok-new.ensures.ok (c.in_ok-step_turns.ensures _ own)

-- ## step_turns

pub step_turns-returns-in_err-noted : goal.step_turns-returns-in_err-noted
step_turns-returns-in_err-noted g t c = λ rs own.
    let μ = context_machine g.R.Holds.answers c.args.context.now in
    let run = held_as c.args.keys.now rs c.args.edit.wait in
    let d = c.args.context.now.dt in
    let i = c.args.value.now in
    let m = c.args.meter.now in
    let n = c.step_noted.new.meter in
    pass_edit _ _ c.from_residual.ensures.0 (old_fails (held_stop μ run d i m n c.args.edit.inside _ (list_alike μ own (stepped_fails μ run.wait d i c.args.edit.inside c.in_err-noted.ensures))))

pub step_turns-returns-in-Err : goal.step_turns-returns-in-Err
step_turns-returns-in-Err g t c = λ rs own.
    let μ = context_machine g.R.Holds.answers c.args.context.now in
    let run = held_as c.args.keys.now rs c.args.edit.wait in
    let d = c.args.context.now.dt in
    let i = c.args.value.now in
    let m = c.args.meter.now in
    let n = c.step_noted.new.meter in
    let bs = c.args.states.now.items in
    let ds = c.step_noted.new.states.items in
    let ys = c.in_ok-noted.noted.outputs.items in
    let gs = c.in_ok-noted.noted.turns.items in
    let old = old_step μ run bs own c.args.edit.draft d i c.args.edit.inside m n ds ys gs c.in_ok-noted.ensures in
    edit_stopped c.stop.ensures.fault (no_memory_between old c.stop.ensures.entered c.stop.ensures.height)

pub step_turns-returns-in-Err-new : goal.step_turns-returns-in-Err-new
step_turns-returns-in-Err-new g t c = λ rs own.
    let μ = context_machine g.R.Holds.answers c.args.context.now in
    let run = held_as c.args.keys.now rs c.args.edit.wait in
    let d = c.args.context.now.dt in
    let i = c.args.value.now in
    let m = c.args.meter.now in
    let n = c.step_noted.new.meter in
    let bs = c.args.states.now.items in
    let ds = c.step_noted.new.states.items in
    let ys = c.in_ok-noted.noted.outputs.items in
    let gs = c.in_ok-noted.noted.turns.items in
    let old = old_step μ run bs own c.args.edit.draft d i c.args.edit.inside m n ds ys gs c.in_ok-noted.ensures in
    edit_stopped c.stop-in-Err-new.ensures.fault (no_memory_between old c.stop-in-Err-new.ensures.entered c.stop-in-Err-new.ensures.height)

pub step_turns-returns-in-Err-change_all : goal.step_turns-returns-in-Err-change_all
step_turns-returns-in-Err-change_all g t c = λ rs own.
    let μ = context_machine g.R.Holds.answers c.args.context.now in
    let run = held_as c.args.keys.now rs c.args.edit.wait in
    let d = c.args.context.now.dt in
    let i = c.args.value.now in
    let m = c.args.meter.now in
    let n = c.step_noted.new.meter in
    let bs = c.args.states.now.items in
    let ds = c.step_noted.new.states.items in
    let ys = c.in_ok-noted.noted.outputs.items in
    let gs = c.in_ok-noted.noted.turns.items in
    let old = old_step μ run bs own c.args.edit.draft d i c.args.edit.inside m n ds ys gs c.in_ok-noted.ensures in
    edit_stopped c.stop-in-Err-change_all.ensures.fault (no_memory_between old c.stop-in-Err-change_all.ensures.entered c.stop-in-Err-change_all.ensures.height)

pub step_turns-step_again-requires : goal.step_turns-step_again-requires
step_turns-step_again-requires g t c =
    let μ = context_machine g.R.Holds.answers c.args.context.now in
    let d = c.args.context.now.dt in
    let i = c.args.value.now in
    let m = c.args.meter.now in
    let n = c.step_noted.new.meter in
    let bs = c.args.states.now.items in
    let ds = c.step_noted.new.states.items in
    let ys = c.in_ok-noted.noted.outputs.items in
    let gs = c.in_ok-noted.noted.turns.items in
    let os = c.in-Ok.value.1.items in
    let long = notes_long μ c.args.edit.wait d i c.args.edit.inside c.in_ok-noted.ensures in
    let cs = c.args.edit.draft.changes.items in
    let states : length c.change_all.new.states.items ≡ length c.deref.result.now = ap length c.in-Ok-change_all.ensures.states ∙ changed_long (λ a. a) (λ a. Begins) cs ds gs long.0 ∙ sym (ap length (c.deref.ensures.value ∙ c.in-Ok-change_all.ensures.turns)) in
    let outputs : length c.change_all.new.outputs.items ≡ length c.deref.result.now = ap length c.in-Ok-change_all.ensures.outputs ∙ changed_long (λ a. i) (λ a. Begins) cs os gs (c.in-Ok.ensures.long ∙ long.1) ∙ sym (ap length (c.deref.ensures.value ∙ c.in-Ok-change_all.ensures.turns)) in
    grind (arith, states, outputs, c.decreases)

pub step_turns-returns-in_err-step_again : goal.step_turns-returns-in_err-step_again
step_turns-returns-in_err-step_again g t c = λ rs own.
    let μ = context_machine g.R.Holds.answers c.args.context.now in
    let run = held_as c.args.keys.now rs c.args.edit.wait in
    let d = c.args.context.now.dt in
    let i = c.args.value.now in
    let m = c.args.meter.now in
    let n = c.step_noted.new.meter in
    let bs = c.args.states.now.items in
    let ds = c.step_noted.new.states.items in
    let ys = c.in_ok-noted.noted.outputs.items in
    let gs = c.in_ok-noted.noted.turns.items in
    let old = old_step μ run bs own c.args.edit.draft d i c.args.edit.inside m n ds ys gs c.in_ok-noted.ensures in
    let os = c.in-Ok.value.1.items in
    let turned = not_turned_so μ run bs c.args.edit.draft d i c.args.edit.inside m n ds ys os gs c.in_ok-noted.ensures c.in-Ok.ensures.long c.step_again.new.meter c.unwrap_or.ensures c.in-Ok-change_all.ensures.states c.in-Ok-change_all.ensures.outputs (c.deref.ensures.value ∙ c.in-Ok-change_all.ensures.turns) _ c.in_err-step_again.ensures in
    pass_edit _ _ c.from_residual-in_err-step_again.ensures.0 (Edits.new_fails old refl (new_stop μ run bs own c.args.edit.draft d i c.args.edit.inside m n ds ys gs c.in_ok-noted.ensures _ c.step_again.new.meter turned))

pub step_turns-returns : goal.step_turns-returns
step_turns-returns g t c = λ rs own.
    let μ = context_machine g.R.Holds.answers c.args.context.now in
    let run = held_as c.args.keys.now rs c.args.edit.wait in
    let d = c.args.context.now.dt in
    let i = c.args.value.now in
    let m = c.args.meter.now in
    let n = c.step_noted.new.meter in
    let bs = c.args.states.now.items in
    let ds = c.step_noted.new.states.items in
    let ys = c.in_ok-noted.noted.outputs.items in
    let gs = c.in_ok-noted.noted.turns.items in
    let old = old_step μ run bs own c.args.edit.draft d i c.args.edit.inside m n ds ys gs c.in_ok-noted.ensures in
    let os = c.in-Ok.value.1.items in
    let es = c.step_again.new.states.items in
    let zs = c.step_again.new.outputs.items in
    let turned = turned_so μ run bs c.args.edit.draft d i c.args.edit.inside m n ds ys os gs c.in_ok-noted.ensures c.in-Ok.ensures.long c.step_again.new.meter c.unwrap_or.ensures c.in-Ok-change_all.ensures.states c.in-Ok-change_all.ensures.outputs (c.deref.ensures.value ∙ c.in-Ok-change_all.ensures.turns) es zs c.in_ok-step_again.ensures in
    let cs = c.args.edit.draft.changes.items in
    let ks = c.in-Ok-new.value.value in
    let before = c.in-Ok.value.0 in
    new_run old refl (new_step μ run bs own c.args.edit.draft d i c.args.edit.inside m n ds ys gs c.in_ok-noted.ensures es turned.vs ks c.step_again.new.meter c.in-Ok-new.ensures.ok turned.turned)
    (shows_so c.args.edit.shown (table (keyed_rows run.keys ys)) c.in-Ok-table_after.value before (λ zs. table (keyed_rows ks zs)) zs turned.vs c.in-Ok.ensures.shows (λ none. turned.same (ap (all_changed (λ a. i) cs) (c.in-Ok.ensures.same none))) c.in-Ok-table_after.ensures)

pub step_turns-returns-in-Err-table_after : goal.step_turns-returns-in-Err-table_after
step_turns-returns-in-Err-table_after g t c = λ rs own.
    let μ = context_machine g.R.Holds.answers c.args.context.now in
    let run = held_as c.args.keys.now rs c.args.edit.wait in
    let d = c.args.context.now.dt in
    let i = c.args.value.now in
    let m = c.args.meter.now in
    let n = c.step_noted.new.meter in
    let bs = c.args.states.now.items in
    let ds = c.step_noted.new.states.items in
    let ys = c.in_ok-noted.noted.outputs.items in
    let gs = c.in_ok-noted.noted.turns.items in
    let old = old_step μ run bs own c.args.edit.draft d i c.args.edit.inside m n ds ys gs c.in_ok-noted.ensures in
    let os = c.in-Ok.value.1.items in
    let es = c.step_again.new.states.items in
    let zs = c.step_again.new.outputs.items in
    let turned = turned_so μ run bs c.args.edit.draft d i c.args.edit.inside m n ds ys os gs c.in_ok-noted.ensures c.in-Ok.ensures.long c.step_again.new.meter c.unwrap_or.ensures c.in-Ok-change_all.ensures.states c.in-Ok-change_all.ensures.outputs (c.deref.ensures.value ∙ c.in-Ok-change_all.ensures.turns) es zs c.in_ok-step_again.ensures in
    edit_stopped c.stop-in-Err-table_after.ensures.fault (Edits.new_fails old refl (new_end μ run bs own c.args.edit.draft d i c.args.edit.inside m n ds ys gs c.in_ok-noted.ensures es turned.vs c.step_again.new.meter c.stop-in-Err-table_after.new.self c.stop-in-Err-table_after.ensures.entered c.stop-in-Err-table_after.ensures.height turned.turned))

-- ## step_members

pub step_members-returns-in_err-outputs : goal.step_members-returns-in_err-outputs
step_members-returns-in_err-outputs g t c = λ low ms L G.
    let μ = context_machine g.R.Holds.answers c.args.context.now in
    let n = c.step_list.new.meter in
    pass_exit _ _ c.from_residual.ensures.0 (members_fail μ c.args.members.now c.args.context.now.dt c.args.value.now c.args.meter.now n c.args.inside (meter_fault n) c.in_err-outputs.ensures low ms L G)

pub step_members-returns : goal.step_members-returns
step_members-returns g t c =
    let μ = context_machine g.R.Holds.answers c.args.context.now in
    let ys = c.in_ok-outputs.outputs.items in
    let h : Gathered = record { keys = c.args.members.now.keys; states = c.step_list.new.list; wait = None } in
    members_step μ c.args.members.now h c.args.context.now.dt c.args.value.now c.args.meter.now c.step_list.new.meter c.args.inside ys c.in-Ok.value
    c.in-Ok.ensures refl refl c.in_ok-outputs.ensures

pub step_members-returns-in-Err : goal.step_members-returns-in-Err
step_members-returns-in-Err g t c =
    let μ = context_machine g.R.Holds.answers c.args.context.now in
    members_end μ c.args.members.now c.args.context.now.dt c.args.value.now c.args.meter.now c.step_list.new.meter c.stop.new.self c.args.inside _ c.in_ok-outputs.outputs.items
    c.stop.ensures.fault c.stop.ensures.entered c.stop.ensures.height c.in_ok-outputs.ensures

-- ## step_list

pub step_list-returns-in-Some : goal.step_list-returns-in-Some
step_list-returns-in-Some g t c =
    let μ = context_machine g.R.Holds.answers c.args.context.now in
    let v = c.args.list.now.value in
    let own = subst (λ (v : Vec State Global). AllFollow μ c.args.list.now.value.items v.items) (sym c.in-Some.ensures.value) (list_follows μ v v refl) in
    list_alike μ own c.step_each.ensures

pub step_list-returns-in-None : goal.step_list-returns-in-None
step_list-returns-in-None g t c = c.step_list_copy.ensures

pub step_list_copy-returns-in-Err : goal.step_list_copy-returns-in-Err
step_list_copy-returns-in-Err g t c =
    let μ = context_machine g.R.Holds.answers c.args.context.now in
    let bs = c.args.list.now.value.items in
    stopped_at μ c.args.wait refl c.stop.ensures.fault (memory_now μ c.args.wait bs c.args.context.now.dt c.args.value.now c.args.meter.now c.stop.new.self c.args.inside c.stop.ensures.entered c.stop.ensures.height)

pub step_list_copy-returns-in-Err-own_states : goal.step_list_copy-returns-in-Err-own_states
step_list_copy-returns-in-Err-own_states g t c =
    let μ = context_machine g.R.Holds.answers c.args.context.now in
    let bs = c.args.list.now.value.items in
    stopped_at μ c.args.wait refl c.stop-in-Err-own_states.ensures.fault (memory_now μ c.args.wait bs c.args.context.now.dt c.args.value.now c.args.meter.now c.stop-in-Err-own_states.new.self c.args.inside c.stop-in-Err-own_states.ensures.entered c.stop-in-Err-own_states.ensures.height)

pub step_list_copy-returns-in_err-values : goal.step_list_copy-returns-in_err-values
step_list_copy-returns-in_err-values g t c =
    let μ = context_machine g.R.Holds.answers c.args.context.now in
    pass_with _ _ c.from_residual.ensures.0 (list_alike μ (subst (λ (v : Vec State Global). AllFollow μ v.items c.in-Ok-own_states.value.items) c.in-Ok.ensures.cases (c.in-Ok-own_states.ensures μ)) c.in_err-values.ensures)

pub step_list_copy-returns-in-Err-new : goal.step_list_copy-returns-in-Err-new
step_list_copy-returns-in-Err-new g t c =
    let μ = context_machine g.R.Holds.answers c.args.context.now in
    late_list μ (list_alike μ (subst (λ (v : Vec State Global). AllFollow μ v.items c.in-Ok-own_states.value.items) c.in-Ok.ensures.cases (c.in-Ok-own_states.ensures μ)) c.in_ok-values.ensures) c.stop-in-Err-new.ensures.entered c.stop-in-Err-new.ensures.height c.stop-in-Err-new.ensures.fault

pub step_list_copy-returns : goal.step_list_copy-returns
step_list_copy-returns g t c =
    let μ = context_machine g.R.Holds.answers c.args.context.now in
    rw c.in-Ok-new.ensures.ok (list_alike μ (subst (λ (v : Vec State Global). AllFollow μ v.items c.in-Ok-own_states.value.items) c.in-Ok.ensures.cases (c.in-Ok-own_states.ensures μ)) c.in_ok-values.ensures)

-- ## step_each

pub step_each-returns-in-Err : goal.step_each-returns-in-Err
step_each-returns-in-Err g t c =
    let μ = context_machine g.R.Holds.answers c.args.context.now in
    stopped_at μ c.args.wait refl c.stop.ensures.fault (memory_now μ c.args.wait c.args.states.now.items c.args.context.now.dt c.args.value.now c.args.meter.now c.stop.new.self c.args.inside c.stop.ensures.entered c.stop.ensures.height)

pub step_each-loop-state-init : goal.step_each-loop-state-init
step_each-loop-state-init g t c =
    let μ = context_machine g.R.Holds.answers c.args.context.now in
    let d = c.args.context.now.dt in
    let x = c.args.value.now in
    let m = c.args.meter.now in
    let bs = c.deref_mut-state-items.result.now in
    record {
      goes_on = subst (λ ys. Continues μ c.args.wait bs d x m [] ys bs m c.args.inside) (sym c.in-Ok.ensures.items) (each_first μ c.args.wait bs d x m c.args.inside);
      as_many = c.in-Ok.ensures.len;
      room = omega (arith, c.in-Ok.ensures.capacity, c.len.ensures, ap length c.deref_mut-state-items.ensures.value);
    }

pub step_each-returns-in-Err-clone_in : goal.step_each-returns-in-Err-clone_in
step_each-returns-in-Err-clone_in g t c =
    let μ = context_machine g.R.Holds.answers c.args.context.now in
    let l = c.loop-state in
    let n = c.stop-in-Err-clone_in.new.self in
    stopped_at μ c.args.wait c.deref_mut-state-items.ensures.value c.stop-in-Err-clone_in.ensures.fault
    (each_memory μ c.args.wait c.deref_mut-state-items.result.now c.args.context.now.dt c.args.value.now c.args.meter.now (take l.state-index l.state-items) l.outputs.items (drop l.state-index l.state-items) l.meter n c.args.inside l.invariant.goes_on c.stop-in-Err-clone_in.ensures.entered c.stop-in-Err-clone_in.ensures.height)

pub step_each-returns-in_err-step_member : goal.step_each-returns-in_err-step_member
step_each-returns-in_err-step_member g t c =
    let μ = context_machine g.R.Holds.answers c.args.context.now in
    let d = c.args.context.now.dt in
    let x = c.args.value.now in
    let m = c.args.meter.now in
    let l = c.loop-state in
    let f = meter_fault c.step_member.new.meter in
    let n = c.step_member.new.meter in
    let failed = each_fails μ c.args.wait _ d x m l.state-items l.state-index l.outputs.items l.meter c.args.inside c.state-item.result (omega (arith, c.loop-state-test.true, l.auto.state-items)) l.invariant.goes_on
    f n (rw c.in-Ok-clone_in.ensures at c.in_err-step_member.ensures) in
    pass_with _ _ c.from_residual.ensures.0 (subst (λ bs. EachSteps μ c.args.wait bs (step d x) (Err f) m n c.args.inside) c.deref_mut-state-items.ensures.value failed)

pub step_each-push_reserved-requires : goal.step_each-push_reserved-requires
step_each-push_reserved-requires g t c =
    let l = c.loop-state in
    omega (arith, l.invariant.as_many, l.invariant.room, c.loop-state-test.true, l.auto.state-items)

pub step_each-loop-state-preserved : goal.step_each-loop-state-preserved
step_each-loop-state-preserved g t c =
    let μ = context_machine g.R.Holds.answers c.args.context.now in
    let d = c.args.context.now.dt in
    let x = c.args.value.now in
    let m = c.args.meter.now in
    let l = c.loop-state in
    let n = c.step_member.new.meter in
    let bs = set l.state-items l.state-index c.step_member.new.state in
    record {
      goes_on = subst (λ ys. Continues μ c.args.wait c.deref_mut-state-items.result.now d x m (take (l.state-index + 1) bs) ys (drop (l.state-index + 1) bs) n c.args.inside) (sym c.push_reserved.ensures.items)
          (each_next μ c.args.wait c.deref_mut-state-items.result.now d x m l.state-items l.state-index l.outputs.items l.meter c.args.inside c.state-item.result (omega (arith, c.loop-state-test.true, l.auto.state-items)) l.invariant.goes_on
          c.step_member.new.state c.step_member.new.value n (rw c.in-Ok-clone_in.ensures at c.in_ok-step_member.ensures));
      as_many = c.push_reserved.ensures.len ∙ ap (λ k. k + 1) l.invariant.as_many;
      room = omega (arith, length-set l.state-items l.state-index c.step_member.new.state, l.invariant.room, c.push_reserved.ensures.capacity);
    }

pub step_each-returns : goal.step_each-returns
step_each-returns g t c =
    let μ = context_machine g.R.Holds.answers c.args.context.now in
    let d = c.args.context.now.dt in
    let x = c.args.value.now in
    let m = c.args.meter.now in
    let l = c.loop-state in
    let last : l.state-index ≡ length l.state-items = omega (arith, l.auto.state-items, l.auto.state-index-end, c.loop-state-test.false) in
    let w = with_items c.args.states.now l.state-items in
    let whole : w.items ≡ l.state-items = with_items_is c.args.states.now l.state-items (omega (arith, l.auto.state-items, ap length c.deref_mut-state-items.ensures.value)) in
    let all = each_last μ c.args.wait _ d x m l.state-items l.state-index l.outputs.items l.meter c.args.inside last l.invariant.goes_on in
    rw whole (subst (λ bs. EachSteps μ c.args.wait bs (step d x) (Ok (l.state-items, l.outputs.items)) m l.meter c.args.inside) c.deref_mut-state-items.ensures.value all)

-- ## step_member, step_waiting

pub step_member-returns-in-None : goal.step_member-returns-in-None
step_member-returns-in-None g t c =
    let μ = context_machine g.R.Holds.answers c.args.context.now in
    rw c.in-None.is (runs_among μ c.args.state.now (step c.args.context.now.dt c.args.value.now) _ c.args.meter.now c.step_state.new.meter c.args.inside c.step_state.ensures)

pub step_member-returns-in-Some : goal.step_member-returns-in-Some
step_member-returns-in-Some g t c = rw c.in-Some.is c.step_waiting.ensures

pub step_waiting-returns-then-has_lived : goal.step_waiting-returns-then-has_lived
step_waiting-returns-then-has_lived g t c =
    let μ = context_machine g.R.Holds.answers c.args.context.now in
    goes_on_among μ c.args.state.now c.args.wait c.args.context.now.dt c.args.value.now _ c.args.meter.now c.step_state.new.meter c.args.inside (awake_lived μ c.args.state.now (sym c.has_lived.ensures ∙ c.if-has_lived.true)) c.step_state.ensures

pub step_waiting-returns-else-has_lived : goal.step_waiting-returns-else-has_lived
step_waiting-returns-else-has_lived g t c =
    let μ = context_machine g.R.Holds.answers c.args.context.now in
    begins_among μ c.args.state.now c.args.wait c.args.context.now.dt c.args.value.now _ c.args.meter.now c.step_state-else-has_lived.new.meter c.args.inside (asleep_fresh μ c.args.state.now (sym c.has_lived.ensures ∙ c.if-has_lived.false)) c.step_state-else-has_lived.ensures

-- ## step_gathered

pub step_gathered-returns : goal.step_gathered-returns
step_gathered-returns g t c =
    let μ = context_machine g.R.Holds.answers c.args.context.now in
    gathered_so μ c.args.members.now c.args.context.now.dt c.args.value.now c.args.meter.now c.step_members.new.meter c.args.inside c.step_members.result c.step_members.new.members c.step_members.new.value (meter_fault c.step_members.new.meter) c.step_members.ensures
