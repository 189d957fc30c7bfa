use Rattle.std.proofs.Common.{[], ◌∷◌, refl}
use Rattle.sf_value.specs.Values.{pair}
use Rattle.sf_term.specs.declared.form.Join.TheVariants.{InSequence}
use Rattle.sf_state.specs.Standing.{behind_arrow, mapped, itself}
use Rattle.sf_law.specs.Arena.{full_id}
use Rattle.sf_step.specs.Around.{machine_around, dt_around}
use Rattle.sf_step.proofs.Parts.{pass_valued}
use Rattle.sf_step.proofs.Exits.{join_left_fails, join_right_fails, join_steps, joined_fails, joined_steps}
use Rattle.sf_step.proofs.leaves.first_behind.Goals as goal

pub returns-in_err-value : goal.returns-in_err-value
returns-in_err-value g c = λ u I m depth T e N.
    let μ = machine_around g.R.Holds.answers c.args.around.now in
    let d = dt_around c.args.around.now in
    let x = pair c.args.both.input.now c.args.both.given.now in
    let l = full_id c.args.behind.arrow in
    pass_valued _ _ c.from_residual.ensures.0 (joined_fails μ InSequence l I.after c.args.around.now.names.now u I.joined d x _
    (join_left_fails μ InSequence _ _ c.args.meter.now c.first_map_beside.new.meter c.args.around.now.inside d x x refl _ (c.in_err-value.ensures I.before l I.coded I.first)) m depth T e N)

pub returns-in_err-first_of_both : goal.returns-in_err-first_of_both
returns-in_err-first_of_both g c = λ u I m depth T e N.
    let μ = machine_around g.R.Holds.answers c.args.around.now in
    let d = dt_around c.args.around.now in
    let x = pair c.args.both.input.now c.args.both.given.now in
    let l = full_id c.args.behind.arrow in
    pass_valued _ _ c.from_residual-in_err-first_of_both.ensures.0 (joined_fails μ InSequence l I.after c.args.around.now.names.now u I.joined d x _
    (join_right_fails μ InSequence _ _ c.args.meter.now c.first_map_beside.new.meter c.args.around.now.inside d x x refl
    _ c.in_ok-value.value c.in_ok-value.value refl (c.in_ok-value.ensures I.before l I.coded I.first) c.first_of_both.new.meter _ (c.in_err-first_of_both.ensures I.after I.second)) m depth T e N)

pub returns : goal.returns
returns g c = λ u I.
    let μ = machine_around g.R.Holds.answers c.args.around.now in
    let d = dt_around c.args.around.now in
    let x = pair c.args.both.input.now c.args.both.given.now in
    let l = full_id c.args.behind.arrow in
    joined_steps μ InSequence l I.after c.args.around.now.names.now u I.joined d x (behind_arrow c.args.behind.code.now c.first_of_both.new.prim) c.put.new.self _
    (λ e N S. rw c.put.ensures (itself (mapped I.stands S)))
    (join_steps μ InSequence _ _ c.args.meter.now c.first_map_beside.new.meter c.args.around.now.inside d x x refl
    _ c.in_ok-value.value c.in_ok-value.value refl (c.in_ok-value.ensures I.before l I.coded I.first)
    c.first_of_both.new.meter _ c.first_of_both.new.value c.first_of_both.new.value refl (c.in_ok-first_of_both.ensures I.after I.second))
