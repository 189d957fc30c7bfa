use Rattle.std.proofs.Common.{◌≡◌, length, sym, ap, ◌∙◌, arith}
use Rattle.std.proofs.lemmas.Result.{on_ok_weaker}
use Rattle.sf_term.specs.Parameters.{PlacedParameter, binding_of}
use Rattle.sf_grammar.specs.Spelling.{spell_parameter, spell_further}
use Rattle.sf_print.specs.Drafts.{append_tokens}
use Rattle.sf_print.proofs.Listing.{part_more, parts_end, parameters_map}
use Rattle.sf_print.proofs.network.write_further.Goals as goal

pub loop-parameter-preserved : goal.loop-parameter-preserved
loop-parameter-preserved c =
    let v = c.args.version in
    part_more (λ (q : PlacedParameter). spell_parameter v (binding_of q)) c.args.parameters.now c.loop-parameter.parameter-index c.parameter-item.result c.args.draft.now c.loop-parameter.draft c.symbol.new.self c.write_parameter.new.draft
    c.loop-parameter-test.true c.loop-parameter.invariant c.in_ok-symbol.ensures
    (c.in_ok-write_parameter.ensures ∙ ap (λ (q : PlacedParameter). append_tokens c.symbol.new.self (spell_parameter v (binding_of q))) c.parameter-item.is)

pub returns : goal.returns
returns c =
    let v = c.args.version in
    let qs = c.args.parameters.now in
    let all : length qs ≡ c.loop-parameter.parameter-index = omega arith in
    on_ok_weaker c.symbol-2.result (λ e.
    parts_end (λ (q : PlacedParameter). spell_parameter v (binding_of q)) qs c.loop-parameter.parameter-index c.args.draft.now c.loop-parameter.draft c.symbol-2.new.self all c.loop-parameter.invariant e
    ∙ ap (λ xs. append_tokens c.args.draft.now (spell_further xs)) (sym (parameters_map v qs))) c.symbol-2.ensures
