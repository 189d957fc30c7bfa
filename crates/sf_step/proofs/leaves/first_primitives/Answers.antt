use Rattle.std.proofs.Common.{[], ◌∷◌, refl, sym, subst}
use Rattle.sf_term.specs.declared.form.Join.TheVariants.{InSequence}
use Rattle.sf_mean.specs.Lives.{step, closure}
use Rattle.sf_state.specs.declared.state.Primitives.{Primitives}
use Rattle.sf_state.specs.Standing.{in_sequence, in_turn, itself, Settles}
use Rattle.sf_step.specs.Around.{machine_around, dt_around}
use Rattle.sf_step.proofs.Parts.{pass_exit}
use Rattle.sf_step.proofs.Exits.{join_left_fails, join_right_fails, join_steps, joined_fails, joined_late, joined_steps}
use Rattle.sf_step.proofs.leaves.first_primitives.Goals as goal

pub returns-in_err-first_of_both : goal.returns-in_err-first_of_both
returns-in_err-first_of_both g c = λ l r u B C J m depth T e N.
    let μ = machine_around g.R.Holds.answers c.args.around.now in
    let d = dt_around c.args.around.now in
    let x = c.args.value.now in
    pass_exit _ _ c.from_residual.ensures.0 (joined_fails μ InSequence l r c.args.around.now.names.now u J d x _
    (join_left_fails μ InSequence _ _ c.args.meter.now c.first_of_both.new.meter c.args.around.now.inside d x x refl _ (c.in_err-first_of_both.ensures l B)) m depth T e N)

pub returns-in_err-first_of_both-2 : goal.returns-in_err-first_of_both-2
returns-in_err-first_of_both-2 g c = λ l r u B C J m depth T e N.
    let μ = machine_around g.R.Holds.answers c.args.around.now in
    let d = dt_around c.args.around.now in
    let x = c.args.value.now in
    pass_exit _ _ c.from_residual-in_err-first_of_both-2.ensures.0 (joined_fails μ InSequence l r c.args.around.now.names.now u J d x _
    (join_right_fails μ InSequence _ _ c.args.meter.now c.first_of_both.new.meter c.args.around.now.inside d x x refl
    _ c.first_of_both.new.value c.first_of_both.new.value refl (c.in_ok-first_of_both.ensures l B) c.first_of_both-2.new.meter _ (c.in_err-first_of_both-2.ensures r C)) m depth T e N)

pub returns-in-Err : goal.returns-in-Err
returns-in-Err g c = λ l r u B C J.
    let μ = machine_around g.R.Holds.answers c.args.around.now in
    let d = dt_around c.args.around.now in
    let x = c.args.value.now in
    joined_late μ InSequence l r c.args.around.now.names.now u J d x
    (join_steps μ InSequence _ _ c.args.meter.now c.first_of_both.new.meter c.args.around.now.inside d x x refl
    _ c.first_of_both.new.value c.first_of_both.new.value refl (c.in_ok-first_of_both.ensures l B)
    c.first_of_both-2.new.meter _ c.first_of_both-2.new.value c.first_of_both-2.new.value refl (c.in_ok-first_of_both-2.ensures r C))
    c.stop.ensures.entered c.stop.ensures.height c.stop.ensures.fault

pub returns : goal.returns
returns g c = λ l r u B C J.
    let μ = machine_around g.R.Holds.answers c.args.around.now in
    let d = dt_around c.args.around.now in
    let x = c.args.value.now in
    joined_steps μ InSequence l r c.args.around.now.names.now u J d x _ c.put.new.self _
    (λ e N S. rw c.put.ensures (itself (in_turn (subst (λ (both : Primitives). Settles μ (in_sequence both) (closure u e) (step d x ∷ [])) (sym c.in-Ok.ensures.ok) S))))
    (join_steps μ InSequence _ _ c.args.meter.now c.first_of_both.new.meter c.args.around.now.inside d x x refl
    _ c.first_of_both.new.value c.first_of_both.new.value refl (c.in_ok-first_of_both.ensures l B)
    c.first_of_both-2.new.meter _ c.first_of_both-2.new.value c.first_of_both-2.new.value refl (c.in_ok-first_of_both-2.ensures r C))
