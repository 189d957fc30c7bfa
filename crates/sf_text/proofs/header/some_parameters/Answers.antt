use Rattle.std.proofs.Common.{true, List, sym, subst}
use Rattle.sf_term.specs.Parameters.{PlacedParameter, binding_of}
use Rattle.sf_text.specs.Parsing.Answers.{ahead}
use Rattle.sf_text.specs.Parsing.Consuming.{spots_ahead}
use Rattle.sf_text.specs.Answers.{parameter_bindings}
use Rattle.sf_text.proofs.Lists.{ReadParameters, no_parameters_read, parameters_go_on, next_parameter, parameter_stops, parameter_separator_stops, stopped_as}
use Rattle.sf_text.proofs.header.some_parameters.Goals as goal

pub loop-more-init : goal.loop-more-init
loop-more-init c =
    subst (λ (ps : List PlacedParameter). ReadParameters c.args.version c.args.cursor.now.tokens.now ps true (ahead c.args.cursor.now) (spots_ahead c.args.cursor.now)) (sym c.new-parameters.ensures.items)
    (no_parameters_read c.args.version c.args.cursor.now.tokens.now)

pub returns-in_err-parameter-clause-reads : goal.returns-in_err-parameter-clause-reads
returns-in_err-parameter-clause-reads c =
    stopped_as parameter_bindings c.from_residual.result c.parameter.new.cursor c.in_err-parameter.field-0.0 _ c.from_residual.ensures.1
    (parameter_stops c.args.version c.args.cursor.now.tokens.now (ahead c.loop-more.cursor) (spots_ahead c.loop-more.cursor) c.loop-more.parameters.items c.in_err-parameter.field-0.0
    (parameters_go_on c.loop-more-test.true c.loop-more.invariant) c.in_err-parameter.ensures.reads)

pub returns-in_err-more-clause-reads : goal.returns-in_err-more-clause-reads
returns-in_err-more-clause-reads c =
    stopped_as parameter_bindings c.from_residual-in_err-more.result c.separator.new.cursor c.in_err-more.field-0.0 _ c.from_residual-in_err-more.ensures.1
    (parameter_separator_stops c.args.version c.args.cursor.now.tokens.now (ahead c.loop-more.cursor) (ahead c.parameter.new.cursor) (spots_ahead c.loop-more.cursor) c.loop-more.parameters.items (binding_of c.in_ok-parameter.parameter)
    c.in_err-more.field-0.0 (parameters_go_on c.loop-more-test.true c.loop-more.invariant) c.in_ok-parameter.ensures.reads c.in_err-more.ensures.reads)

pub loop-more-preserved : goal.loop-more-preserved
loop-more-preserved c =
    subst (λ (ps : List PlacedParameter). ReadParameters c.args.version c.args.cursor.now.tokens.now ps c.in_ok-more.more (ahead c.separator.new.cursor) (spots_ahead c.separator.new.cursor)) (sym c.in_ok-push.ensures.items)
    (next_parameter c.args.version c.args.cursor.now.tokens.now c.loop-more.cursor.tokens.now c.parameter.new.cursor.tokens.now c.separator.new.cursor.tokens.now c.loop-more.parameters.items c.in_ok-parameter.parameter c.in_ok-more.more
    (parameters_go_on c.loop-more-test.true c.loop-more.invariant) c.in_ok-parameter.ensures.reads c.in_ok-parameter.ensures.named c.in_ok-parameter.ensures.placed c.in_ok-more.ensures.reads c.in_ok-more.ensures.behind)
