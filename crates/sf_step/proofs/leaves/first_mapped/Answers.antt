use Rattle.std.proofs.Common.{[], ◌∷◌, refl}
use Rattle.sf_term.specs.declared.form.Join.TheVariants.{InSequence}
use Rattle.sf_state.specs.Standing.{behind_arrow, mapped, itself}
use Rattle.sf_law.specs.Arena.{full_id}
use Rattle.sf_step.specs.Around.{machine_around, dt_around}
use Rattle.sf_step.proofs.Parts.{pass_exit}
use Rattle.sf_step.proofs.Exits.{join_left_fails, join_right_fails, join_steps, joined_fails, joined_steps}
use Rattle.sf_step.proofs.leaves.first_mapped.Goals as goal

pub returns-in_err-first_map : goal.returns-in_err-first_map
returns-in_err-first_map g c = λ q r u is B C J m depth T e N.
    let μ = machine_around g.R.Holds.answers c.args.around.now in
    let d = dt_around c.args.around.now in
    let x = c.args.value.now in
    let l = full_id c.args.arrow in
    pass_exit _ _ c.from_residual.ensures.0 (joined_fails μ InSequence l r c.args.around.now.names.now u J d x _
    (join_left_fails μ InSequence _ _ c.args.meter.now c.first_map.new.meter c.args.around.now.inside d x x refl _ (c.in_err-first_map.ensures q l is B)) m depth T e N)

pub returns-in_err-first_of_both : goal.returns-in_err-first_of_both
returns-in_err-first_of_both g c = λ q r u is B C J m depth T e N.
    let μ = machine_around g.R.Holds.answers c.args.around.now in
    let d = dt_around c.args.around.now in
    let x = c.args.value.now in
    let l = full_id c.args.arrow in
    pass_exit _ _ c.from_residual-in_err-first_of_both.ensures.0 (joined_fails μ InSequence l r c.args.around.now.names.now u J d x _
    (join_right_fails μ InSequence _ _ c.args.meter.now c.first_map.new.meter c.args.around.now.inside d x x refl
    _ c.first_map.new.value c.first_map.new.value refl (c.in_ok-first_map.ensures q l is B) c.first_of_both.new.meter _ (c.in_err-first_of_both.ensures r C)) m depth T e N)

pub returns : goal.returns
returns g c = λ q r u is B C J.
    let μ = machine_around g.R.Holds.answers c.args.around.now in
    let d = dt_around c.args.around.now in
    let x = c.args.value.now in
    let l = full_id c.args.arrow in
    joined_steps μ InSequence l r c.args.around.now.names.now u J d x (behind_arrow c.args.code.now c.first_of_both.new.prim) c.put.new.self _
    (λ e N S. rw c.put.ensures (itself (mapped c.requires.stands S)))
    (join_steps μ InSequence _ _ c.args.meter.now c.first_map.new.meter c.args.around.now.inside d x x refl
    _ c.first_map.new.value c.first_map.new.value refl (c.in_ok-first_map.ensures q l is B)
    c.first_of_both.new.meter _ c.first_of_both.new.value c.first_of_both.new.value refl (c.in_ok-first_of_both.ensures r C))
