use Rattle.sf_code.specs.Names.{scope_with}
use Rattle.sf_code.proofs.Named.{functions_with}
use Rattle.sf_state.specs.Names.{values_around}
use Rattle.sf_begin.proofs.context.made_in.Goals as goal

pub returns : goal.returns
returns g c = λ f is.
    let vs = values_around c.args.context.now.plan.now c.args.names.now in
    let φ = g.R.Holds.answers c.args.context.now.functions.now in
    c.apply.ensures (scope_with vs φ) (functions_with vs φ) f (record { worth = λ d. rw (c.in_ok-around.ensures φ) (is.worth (scope_with vs φ) d) })
