use Rattle.std.proofs.Common.{◌≡◌, List, length, ◌-◌, take, drop, sym, ap, subst, ◌∙◌, arith}
use Rattle.std.specs.List.{All}
use Rattle.std.proofs.lemmas.Result.{on_ok_weaker}
use Rattle.sf_expr.specs.Arena.{name_at}
use Rattle.sf_term.specs.Arena.{program_expressions, arguments_of, HoldsArgument}
use Rattle.sf_lex.specs.declared.symbol.Symbol.TheVariants as symbols
use Rattle.sf_lex.specs.Tokens.{name, symbol}
use Rattle.sf_grammar.specs.Spelling.{spell_further, spell_listed, spell_arguments}
use Rattle.sf_print.specs.Drafts.{Front, append_token, append_tokens}
use Rattle.sf_term.specs.declared.node.Argument.{Argument}
use Rattle.sf_term.specs.declared.node.Node.TheVariants as nodes
use Rattle.sf_print.specs.Arguments.{spell_argument, ArgumentWithin}
use Rattle.sf_print.proofs.Within.{parts_within}
use Rattle.sf_print.proofs.Listing.{part_more, parts_end, listed_end, arguments_map}
use Rattle.sf_print.proofs.terms.+term.Goals as goal

pub write_call-returns-in_ok-write_argument-in-len1-up : goal.write_call-returns-in_ok-write_argument-in-len1-up
write_call-returns-in_ok-write_argument-in-len1-up t c =
    let v = c.args.version in
    let p = c.args.program.now in
    let vs = c.args.arguments.now in
    let named : c.name_of.result.now ≡ name_at (program_expressions p) c.args.name = c.name_of.ensures ∙ ap (λ x. name_at x c.args.name) c.expressions.ensures in
    let begun : c.symbol.new.self ≡ append_token (append_token c.args.draft.now (name (name_at (program_expressions p) c.args.name))) (symbol symbols.Open) =
    c.in_ok-symbol.ensures ∙ ap (λ (d : Front). append_token d (symbol symbols.Open)) (c.in_ok-name.ensures ∙ ap (λ n. append_token c.args.draft.now (name n)) named) in
    let rest = take (length vs - 1) (drop 1 vs) in
    on_ok_weaker c.write_further.result (λ e.
    listed_end (spell_argument v p) vs _ c.symbol.new.self c.write_argument.new.draft c.write_further.new.draft (omega arith) c.in_ok-write_argument-in-len1-up.ensures
    (e ∙ ap (λ xs. append_tokens c.write_argument.new.draft (spell_further xs)) (arguments_map v p rest))
    ∙ ap (λ xs. append_tokens c.symbol.new.self (spell_listed xs)) (sym (arguments_map v p vs))
    ∙ ap (λ (d : Front). append_tokens d (spell_listed (spell_arguments v (arguments_of p vs)))) begun) c.write_further.ensures

pub write_further-loop-argument-preserved : goal.write_further-loop-argument-preserved
write_further-loop-argument-preserved t c =
    part_more (spell_argument c.args.version c.args.program.now) c.args.arguments.now c.loop-argument.argument-index _ c.args.draft.now c.loop-argument.draft c.symbol.new.self c.write_argument.new.draft
    c.loop-argument-test.true c.loop-argument.invariant c.in_ok-symbol.ensures c.in_ok-write_argument.ensures

pub write_further-returns : goal.write_further-returns
write_further-returns t c =
    let v = c.args.version in
    let p = c.args.program.now in
    let vs = c.args.arguments.now in
    let all : length vs ≡ c.loop-argument.argument-index = omega arith in
    on_ok_weaker c.symbol-2.result (λ e.
    parts_end (spell_argument v p) vs c.loop-argument.argument-index c.args.draft.now c.loop-argument.draft c.symbol-2.new.self all c.loop-argument.invariant e
    ∙ ap (λ xs. append_tokens c.args.draft.now (spell_further xs)) (sym (arguments_map v p vs))) c.symbol-2.ensures

pub write_term-write_call-requires : goal.write_term-write_call-requires
write_term-write_call-requires t c =
    let p = c.args.program.now in
    (omega arith, (subst (λ (vs : List Argument). All (ArgumentWithin p c.args.id) vs) (sym c.arguments-arguments.ensures) (parts_within p c.args.id (nodes.Call c.in-Call.name c.in-Call.arguments) c.in-Call.ensures.below c.in-Call.ensures.builds), (c.in-Call.ensures.held.0, subst (λ (vs : List Argument). All (HoldsArgument p) vs) (sym c.arguments-arguments.ensures) c.in-Call.ensures.held.2)))

pub write_term-write_gathered-requires : goal.write_term-write_gathered-requires
write_term-write_gathered-requires t c = (omega arith, (parts_within c.args.program.now c.args.id (nodes.Gathered c.in-Gathered.members) c.in-Gathered.ensures.below c.in-Gathered.ensures.builds, c.in-Gathered.ensures.held))

pub write_term-write_releasing-requires : goal.write_term-write_releasing-requires
write_term-write_releasing-requires t c = (omega arith, (parts_within c.args.program.now c.args.id (nodes.Releasing c.in-Releasing.form) c.in-Releasing.ensures.below c.in-Releasing.ensures.builds, c.in-Releasing.ensures.held))

pub write_term-write_editing-requires : goal.write_term-write_editing-requires
write_term-write_editing-requires t c = (omega arith, (parts_within c.args.program.now c.args.id (nodes.Editing c.in-Editing.form) c.in-Editing.ensures.below c.in-Editing.ensures.builds, c.in-Editing.ensures.held))
