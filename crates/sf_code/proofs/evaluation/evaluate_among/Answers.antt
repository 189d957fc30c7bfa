use Rattle.sf_code.specs.Names.{scope_with}
use Rattle.sf_code.proofs.Named.{functions_with}
use Rattle.sf_code.proofs.evaluation.evaluate_among.Goals as goal

pub returns : goal.returns
returns g c = λ e is.
    let vs = g.N.Names.values c.args.names.now in
    let φ = g.F.Holds.answers c.args.functions.now in
    c.evaluate.ensures (scope_with vs φ) (functions_with vs φ) e (record { worth = rw (c.in_ok-around.ensures φ) (is.worth (scope_with vs φ)) })
