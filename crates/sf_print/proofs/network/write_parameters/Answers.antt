use Rattle.std.proofs.Common.{length, ◌-◌, take, drop, sym, ap, ◌∙◌, arith}
use Rattle.std.proofs.lemmas.Result.{on_ok_weaker}
use Rattle.sf_term.specs.Parameters.{PlacedParameter, binding_of}
use Rattle.sf_grammar.specs.Spelling.{spell_parameter, spell_listed, spell_further}
use Rattle.sf_print.specs.Drafts.{append_tokens}
use Rattle.sf_print.proofs.Listing.{listed_end, parameters_map}
use Rattle.sf_print.proofs.network.write_parameters.Goals as goal

pub returns-in_ok-write_parameter-in-len1-up : goal.returns-in_ok-write_parameter-in-len1-up
returns-in_ok-write_parameter-in-len1-up c =
    let v = c.args.version in
    let qs = c.args.parameters.now in
    let f = λ (q : PlacedParameter). spell_parameter v (binding_of q) in
    let rest = take (length qs - 1) (drop 1 qs) in
    on_ok_weaker c.write_further.result (λ e.
    listed_end f qs c.first-item.result c.args.draft.now c.write_parameter.new.draft c.write_further.new.draft (omega arith)
    (c.in_ok-write_parameter-in-len1-up.ensures ∙ ap (λ q. append_tokens c.args.draft.now (f q)) c.first-item.is)
    (e ∙ ap (λ xs. append_tokens c.write_parameter.new.draft (spell_further xs)) (parameters_map v rest))
    ∙ ap (λ xs. append_tokens c.args.draft.now (spell_listed xs)) (sym (parameters_map v qs))) c.write_further.ensures
