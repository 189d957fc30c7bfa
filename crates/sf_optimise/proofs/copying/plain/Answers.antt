use Rattle.std.proofs.Common.{◌∙◌, ap}
use Rattle.sf_term.specs.Arena.{tree}
use Rattle.sf_mean.specs.Networks.{network_of}
use Rattle.sf_optimise.proofs.copying.plain.Goals as goal

pub returns : goal.returns
returns c =
    let program = c.program-program.ensures.program in
    let same = c.in_ok-plan.ensures in
    record {
      network = λ f. same.network f ∙ ap (network_of f) program;
      main = same.main ∙ ap (λ p. tree p c.main.result) program ∙ c.main.ensures.term;
    }
