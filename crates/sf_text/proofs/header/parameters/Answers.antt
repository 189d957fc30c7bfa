use Rattle.std.proofs.Common.{List, sym, subst}
use Rattle.sf_term.specs.Parameters.{PlacedParameter}
use Rattle.sf_text.specs.Parsing.Consuming.{spots_ahead, Consumes}
use Rattle.sf_grammar.specs.Placing.{ParametersPlaced}
use Rattle.sf_text.proofs.Placed.{no_parameters_placed_behind, each_placed}
use Rattle.sf_text.proofs.header.parameters.Goals as goal

pub returns-in-Some-clause-placed : goal.returns-in-Some-clause-placed
returns-in-Some-clause-placed c =
    subst (λ (qs : List PlacedParameter). Consumes (ParametersPlaced c.args.version qs) (spots_ahead c.args.cursor.now) (spots_ahead c.in-Some.behind)) (sym c.new.ensures.items) (no_parameters_placed_behind c.args.version c.in-Some.ensures.1)

pub returns-in-None-clause-placed : goal.returns-in-None-clause-placed
returns-in-None-clause-placed c = each_placed c.args.version (spots_ahead c.args.cursor.now) (spots_ahead c.some_parameters.new.cursor) c.some_parameters.result c.some_parameters.ensures.some c.some_parameters.ensures.placed
