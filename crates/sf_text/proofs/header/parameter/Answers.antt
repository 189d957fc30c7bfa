use Rattle.std.proofs.Common.{string_bytes, sym, subst, ◌∙◌}
use Rattle.sf_text.specs.Parsing.Answers.{toks}
use Rattle.sf_text.specs.Parsing.Consuming.{places, Consumes}
use Rattle.sf_term.specs.Parameters.{PlacedParameter}
use Rattle.sf_term.specs.ParameterView.{kind_of_form}
use Rattle.sf_grammar.specs.Placing.{ParameterPlaced}
use Rattle.sf_text.proofs.Found.{parameter_found}
use Rattle.sf_text.proofs.Placed.{parameter_read}
use Rattle.sf_text.proofs.header.parameter.Goals as goal

pub returns-clause-placed : goal.returns-clause-placed
returns-clause-placed c =
    subst (λ (q : PlacedParameter). Consumes (ParameterPlaced c.args.version q) (places c.args.cursor.now.tokens.now) (places c.name_kind.new.cursor.tokens.now)) (sym c.new.ensures)
    (parameter_read c.args.version c.args.cursor.now.tokens.now c.name_kind.new.cursor.tokens.now (record { name = string_bytes c.in_ok-name.name; spot = c.in_ok-known.known.spot; kind = kind_of_form c.in_ok-form.form })
    (parameter_found c.args.version (toks c.args.cursor.now.tokens.now) c.in_ok-known.ensures.reads c.in_ok-symbol.ensures.reads c.in_ok-form.ensures.reads (c.in_ok-name.ensures.ok ∙ c.as_str.ensures.text))
    c.in_ok-known.ensures.placed c.in_ok-symbol.ensures.behind c.in_ok-form.ensures.behind)
