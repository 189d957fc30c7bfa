use Rattle.std.proofs.Common.{is_some, sym, ap, ◌∙◌}
use Rattle.sf_value.specs.Values.{Data}
use Rattle.sf_prim.specs.Remembering.{coming, retained}
use Rattle.sf_prim.proofs.Accumulating.{shown_of, carried_of, shown_fault}
use Rattle.sf_prim.proofs.accumulator.accumulate.Goals as goal

pub returns-in_err-made-clause-shows : goal.returns-in_err-made-clause-shows
returns-in_err-made-clause-shows g c = λ s same f code.
    shown_fault c.args.accumulator.now.form f s c.args.accumulator.now.value c.args.value.now _ c.in_ok-came.came _ _ c.from_residual-in_err-made.ensures.1 c.in_ok-came.ensures (c.in_err-made.ensures s same f code)

pub returns-clause-shows : goal.returns-clause-shows
returns-clause-shows g c = λ s same f code.
    let x = c.args.value.now in
    let k = c.args.accumulator.now.form in
    shown_of k f s c.args.accumulator.now.value x c.in_ok-made.made _ c.in_ok-came.came c.in_ok-came.ensures (c.in_ok-made.ensures s same f code)
    (c.replace-input.ensures.after ∙ c.in_ok-shown.ensures (coming k x) (ap is_some (sym c.in_ok-came.ensures) ∙ sym c.is_some-comes.ensures))

pub returns-clause-carries : goal.returns-clause-carries
returns-clause-carries g c = λ s same f code.
    let k = c.args.accumulator.now.form in
    carried_of k f s c.args.accumulator.now.value c.args.value.now c.in_ok-made.made _ c.in_ok-came.came c.in_ok-came.ensures (c.in_ok-made.ensures s same f code)
    (c.retain.ensures ∙ ap (λ (y : Data). retained k y c.in_ok-made.made) c.replace-input.ensures.value)
