use Rattle.std.proofs.Common.{true, List, length, Err, sym, subst, ◌∙◌}
use Rattle.sf_lex.specs.Words.{IsName}
use Rattle.sf_lex.specs.Tokens.{name_bytes}
use Rattle.sf_term.specs.declared.node.Argument.{Argument}
use Rattle.sf_grammar.specs.Reading.{parse_collection}
use Rattle.sf_text.specs.declared.parts.stop.Stop.{Stop}
use Rattle.sf_text.specs.Parsing.Answers.{StopsReading, counts_of, ahead}
use Rattle.sf_text.specs.Parsing.Consuming.{spots_ahead, Consumes}
use Rattle.sf_grammar.specs.Placing.{ArgumentsPlaced}
use Rattle.sf_term.proofs.Extended.{keeps_trans, collection_at_kept}
use Rattle.sf_text.proofs.Found.{term_built, headed_ready, transformed_ready, joined_ready, sided_ready, switching_ready, continuing_ready, call_ready, body_found, collection_shared, added_found, dropped_found, kept_found, chosen_found, members_found, members_shallow, gathered_ready, releasing_ready, edit_found, editing_ready, value_found, process_found, collection_found}
use Rattle.sf_text.proofs.Placed.{headed_read, transformed_read, joined_read, sided_read, switching_read, continuing_read, call_read, value_read, process_read, collection_read, shared_placed, added_read, dropped_read, kept_read, chosen_read, members_read, gathered_read, releasing_read, editing_read, no_arguments_placed_behind, each_argument_placed}
use Rattle.sf_text.proofs.Lists.{ReadArguments, arguments_go_on, no_arguments_read, next_argument, argument_stops, argument_separator_stops, all_arguments, arguments_stopped_as}
use Rattle.sf_text.proofs.Parsing.Found.{if_built, if_built_on, refused_for_memory}
use Rattle.sf_text.proofs.Parsing.Placed.{parted_read}
use Rattle.sf_text.proofs.term.+term.Goals as goal

pub headed-returns-clause-reads : goal.headed-returns-clause-reads
headed-returns-clause-reads t c = λ whole counted.
    term_built _ _ _ c.args.start.ahead c.add.result c.built.result
    (headed_ready c.args.version c.args.heading c.args.left (ahead c.args.reader.now.cursor) c.requires.shallow c.head_node-node.ensures.node c.in_ok-symbol.ensures.reads c.in_ok-value.ensures.reads c.in_ok-symbol-2.ensures.reads c.in_ok-part.ensures.reads c.in_ok-symbol-3.ensures.reads)
    (keeps_trans _ _ _ c.in_ok-value.ensures.reads.kept c.in_ok-part.ensures.reads.kept) counted c.built.ensures c.add.ensures tt

pub headed-returns-clause-placed : goal.headed-returns-clause-placed
headed-returns-clause-placed t c = if_built _ _ c.args.start.ahead c.add.result c.built.result c.built.ensures c.add.ensures.ok (λ id added.
    headed_read c.args.heading c.in_ok-part.ensures.reads.kept.trees c.head_node-node.ensures.node added c.in_ok-symbol.ensures.behind c.in_ok-value.ensures.placed c.in_ok-symbol-2.ensures.behind c.in_ok-part.ensures.placed c.in_ok-symbol-3.ensures.behind)

pub transformed-returns-clause-reads : goal.transformed-returns-clause-reads
transformed-returns-clause-reads t c = λ whole counted.
    term_built _ _ _ c.args.start.ahead c.add.result c.built.result
    (transformed_ready c.args.version c.args.left (ahead c.args.reader.now.cursor) c.requires.shallow c.in_ok-symbol.ensures.reads c.in_ok-function.ensures.reads c.in_ok-symbol-2.ensures.reads c.in_ok-part.ensures.reads c.in_ok-symbol-3.ensures.reads)
    (keeps_trans _ _ _ c.in_ok-function.ensures.reads.kept c.in_ok-part.ensures.reads.kept) counted c.built.ensures c.add.ensures tt

pub transformed-returns-clause-placed : goal.transformed-returns-clause-placed
transformed-returns-clause-placed t c = if_built _ _ c.args.start.ahead c.add.result c.built.result c.built.ensures c.add.ensures.ok (λ id added.
    transformed_read c.in_ok-part.ensures.reads.kept.trees added c.in_ok-symbol.ensures.behind c.in_ok-function.ensures.placed c.in_ok-symbol-2.ensures.behind c.in_ok-part.ensures.placed c.in_ok-symbol-3.ensures.behind)

pub joined-returns-clause-reads : goal.joined-returns-clause-reads
joined-returns-clause-reads t c = λ whole counted.
    term_built _ _ _ c.args.start.ahead c.add.result c.built.result
    (joined_ready c.args.version c.args.left (ahead c.args.reader.now.cursor) c.requires.shallow c.in_ok-one.ensures.reads c.in_ok-join.ensures.reads c.in_ok-two.ensures.reads c.in_ok-symbol.ensures.reads)
    (keeps_trans _ _ _ c.in_ok-one.ensures.reads.kept c.in_ok-two.ensures.reads.kept) counted c.built.ensures c.add.ensures tt

pub joined-returns-clause-placed : goal.joined-returns-clause-placed
joined-returns-clause-placed t c = if_built _ _ c.args.start.ahead c.add.result c.built.result c.built.ensures c.add.ensures.ok (λ id added.
    joined_read c.in_ok-two.ensures.reads.kept.trees added c.in_ok-one.ensures.placed c.in_ok-join.ensures.behind c.in_ok-two.ensures.placed c.in_ok-symbol.ensures.behind)

pub sided-returns-clause-reads : goal.sided-returns-clause-reads
sided-returns-clause-reads t c = λ whole counted.
    term_built _ _ _ c.args.start.ahead c.add.result c.built.result
    (sided_ready c.args.version c.args.left (ahead c.args.reader.now.cursor) c.requires.shallow c.in_ok-part.ensures.reads)
    c.in_ok-part.ensures.reads.kept counted c.built.ensures c.add.ensures tt

pub sided-returns-clause-placed : goal.sided-returns-clause-placed
sided-returns-clause-placed t c = if_built _ _ c.args.start.ahead c.add.result c.built.result c.built.ensures c.add.ensures.ok (λ id added.
    sided_read added c.in_ok-part.ensures.placed)

pub switching-returns-clause-reads : goal.switching-returns-clause-reads
switching-returns-clause-reads t c = λ whole counted.
    term_built _ _ _ c.args.start.ahead c.switching-added.result c.built.result
    (switching_ready c.args.version c.args.left (ahead c.args.reader.now.cursor) c.requires.shallow c.in_ok-symbol.ensures.reads c.in_ok-source.ensures.reads c.in_ok-symbol-2.ensures.reads c.in_ok-pattern.ensures.reads c.in_ok-symbol-3.ensures.reads)
    (keeps_trans _ _ _ c.in_ok-source.ensures.reads.kept c.in_ok-pattern.ensures.reads.kept) counted c.built.ensures c.switching-added.ensures.builds c.in_ok-pattern.ensures.reads.names

pub switching-returns-clause-placed : goal.switching-returns-clause-placed
switching-returns-clause-placed t c = if_built_on _ _ _ c.args.start.ahead c.switching-added.result c.built.result c.built.ensures c.switching-added.ensures.builds.ok c.switching-added.ensures.placed (λ id added there.
    switching_read c.in_ok-pattern.ensures.reads.kept.trees added there c.in_ok-symbol.ensures.behind c.in_ok-source.ensures.placed c.in_ok-symbol-2.ensures.behind c.in_ok-pattern.ensures.placed c.in_ok-symbol-3.ensures.behind)

pub continuing-returns-clause-reads : goal.continuing-returns-clause-reads
continuing-returns-clause-reads t c = λ whole counted.
    term_built _ _ _ c.args.start.ahead c.continuing-added.result c.built.result
    (continuing_ready c.args.version c.args.left (ahead c.args.reader.now.cursor) c.requires.shallow c.in_ok-symbol.ensures.reads c.in_ok-source.ensures.reads c.in_ok-symbol-2.ensures.reads c.in_ok-observer.ensures.reads c.in_ok-symbol-3.ensures.reads c.in_ok-process.ensures.reads c.in_ok-symbol-4.ensures.reads c.in_ok-pattern.ensures.reads c.in_ok-symbol-5.ensures.reads (c.in_ok-known.ensures.ok ∙ c.as_str.ensures.text))
    (keeps_trans _ _ _ c.in_ok-source.ensures.reads.kept (keeps_trans _ _ _ c.in_ok-observer.ensures.reads.kept c.in_ok-pattern.ensures.reads.kept)) counted c.built.ensures c.continuing-added.ensures.builds (subst IsName (sym c.in_ok-known.ensures.ok) c.as_str.ensures.named, c.in_ok-pattern.ensures.reads.names)

pub continuing-returns-clause-placed : goal.continuing-returns-clause-placed
continuing-returns-clause-placed t c = if_built_on _ _ _ c.args.start.ahead c.continuing-added.result c.built.result c.built.ensures c.continuing-added.ensures.builds.ok c.continuing-added.ensures.placed (λ id added there.
    continuing_read c.in_ok-observer.ensures.reads.kept.trees c.in_ok-pattern.ensures.reads.kept.trees added there c.in_ok-symbol.ensures.behind c.in_ok-source.ensures.placed c.in_ok-symbol-2.ensures.behind c.in_ok-observer.ensures.placed c.in_ok-symbol-3.ensures.behind
    c.in_ok-process.ensures.placed c.in_ok-symbol-4.ensures.behind c.in_ok-pattern.ensures.placed c.in_ok-symbol-5.ensures.behind)

pub call-returns-clause-reads : goal.call-returns-clause-reads
call-returns-clause-reads t c = λ counted.
    term_built _ _ _ c.args.start.ahead c.call.result c.built.result
    (call_ready c.args.version c.args.left (name_bytes c.args.name) (ahead c.args.reader.now.cursor) c.requires.shallow c.in_ok-symbol.ensures.reads c.in_ok-arguments.ensures.reads (c.in_ok-known.ensures.ok ∙ c.as_str.ensures.text))
    c.in_ok-arguments.ensures.reads.kept counted c.built.ensures c.call.ensures.builds (subst IsName (sym c.in_ok-known.ensures.ok) c.as_str.ensures.named)

pub call-returns-clause-placed : goal.call-returns-clause-placed
call-returns-clause-placed t c = if_built_on _ _ _ c.args.start.ahead c.call.result c.built.result c.built.ensures c.call.ensures.builds.ok c.call.ensures.placed (λ id added there.
    call_read added there c.in_ok-symbol.ensures.behind c.in_ok-arguments.ensures.placed)

pub body-returns-clause-reads : goal.body-returns-clause-reads
body-returns-clause-reads t c =
    body_found c.args.version c.args.left (ahead c.args.reader.now.cursor) c.in_ok-pattern.ensures.reads c.in_ok-symbol.ensures.reads c.in_ok-pattern.ensures.names c.in_ok-id.ensures.reads

pub body-returns-clause-placed : goal.body-returns-clause-placed
body-returns-clause-placed t c = parted_read c.in_ok-pattern.ensures.placed c.in_ok-symbol.ensures.behind c.in_ok-id.ensures.placed

pub argument-returns-in_ok-value-in-Value-clause-reads : goal.argument-returns-in_ok-value-in-Value-clause-reads
argument-returns-in_ok-value-in-Value-clause-reads t c = value_found c.args.version c.args.left (ahead c.args.reader.now.cursor) c.in-Value.ensures c.in_ok-value-in-Value.ensures.reads

pub argument-returns-in_ok-value-in-Value-clause-placed : goal.argument-returns-in_ok-value-in-Value-clause-placed
argument-returns-in_ok-value-in-Value-clause-placed t c = value_read c.in_ok-value-in-Value.ensures.placed

pub argument-returns-in_ok-process-in-Process-clause-reads : goal.argument-returns-in_ok-process-in-Process-clause-reads
argument-returns-in_ok-process-in-Process-clause-reads t c = process_found c.args.version c.args.left (ahead c.args.reader.now.cursor) c.in-Process.ensures.0 c.in-Process.ensures.1 c.in_ok-process-in-Process.ensures.reads

pub argument-returns-in_ok-process-in-Process-clause-placed : goal.argument-returns-in_ok-process-in-Process-clause-placed
argument-returns-in_ok-process-in-Process-clause-placed t c = process_read c.in-Process.ensures.2 c.in_ok-process-in-Process.ensures.placed

pub argument-returns-in_ok-collection-in-Members-clause-reads : goal.argument-returns-in_ok-collection-in-Members-clause-reads
argument-returns-in_ok-collection-in-Members-clause-reads t c = collection_found c.args.version c.args.left (ahead c.args.reader.now.cursor) c.in-Members.ensures.0 c.in-Members.ensures.1 c.in_ok-collection-in-Members.ensures.reads

pub argument-returns-in_ok-collection-in-Members-clause-placed : goal.argument-returns-in_ok-collection-in-Members-clause-placed
argument-returns-in_ok-collection-in-Members-clause-placed t c = collection_read c.in-Members.ensures.2 c.in_ok-collection-in-Members.ensures.placed

pub arguments-returns-in-Some-clause-placed : goal.arguments-returns-in-Some-clause-placed
arguments-returns-in-Some-clause-placed t c =
    subst (λ (bs : List Argument). Consumes (ArgumentsPlaced c.args.version c.args.reader.now.program bs) (spots_ahead c.args.reader.now.cursor) (spots_ahead c.in-Some.behind)) (sym c.new.ensures.items)
    (no_arguments_placed_behind c.args.version c.args.reader.now.program c.in-Some.ensures.1)

pub arguments-returns-in-None-clause-placed : goal.arguments-returns-in-None-clause-placed
arguments-returns-in-None-clause-placed t c =
    each_argument_placed c.args.version c.some_arguments.new.reader.program (spots_ahead c.args.reader.now.cursor) (spots_ahead c.some_arguments.new.reader.cursor) c.some_arguments.result c.some_arguments.ensures.some c.some_arguments.ensures.placed

pub some_arguments-loop-more-init : goal.some_arguments-loop-more-init
some_arguments-loop-more-init t c =
    subst (λ (bs : List Argument). ReadArguments c.args.version c.args.left c.args.reader.now.program c.args.reader.now.program c.args.reader.now.cursor.tokens.now bs true (ahead c.args.reader.now.cursor) (spots_ahead c.args.reader.now.cursor)) (sym c.new-arguments.ensures.items)
    (no_arguments_read c.args.version c.args.left c.args.reader.now.program c.args.reader.now.cursor.tokens.now)

pub some_arguments-returns-in_err-argument-clause-reads : goal.some_arguments-returns-in_err-argument-clause-reads
some_arguments-returns-in_err-argument-clause-reads t c =
    arguments_stopped_as c.args.reader.now c.argument.new.reader c.from_residual.result c.in_err-argument.field-0.0 _ c.from_residual.ensures.1
    (argument_stops c.args.version c.args.left c.args.reader.now.program c.loop-more.reader.program c.args.reader.now.cursor.tokens.now (ahead c.loop-more.reader.cursor) (spots_ahead c.loop-more.reader.cursor) c.loop-more.arguments.items c.in_err-argument.field-0.0
    (arguments_go_on c.loop-more-test.true c.loop-more.invariant) c.in_err-argument.ensures.reads)

pub some_arguments-returns-in_err-more-clause-reads : goal.some_arguments-returns-in_err-more-clause-reads
some_arguments-returns-in_err-more-clause-reads t c =
    arguments_stopped_as c.args.reader.now (record c.argument.new.reader { cursor = c.separator.new.cursor }) c.from_residual-in_err-more.result c.in_err-more.field-0.0 _ c.from_residual-in_err-more.ensures.1
    (argument_separator_stops c.args.version c.args.left c.args.reader.now.program c.loop-more.reader.program c.args.reader.now.cursor.tokens.now (ahead c.loop-more.reader.cursor) (ahead c.argument.new.reader.cursor) (spots_ahead c.loop-more.reader.cursor) c.loop-more.arguments.items c.in_ok-argument.ensures.reads.value c.in_err-more.field-0.0
    (arguments_go_on c.loop-more-test.true c.loop-more.invariant) c.in_ok-argument.ensures.reads.is c.in_err-more.ensures.reads)

pub some_arguments-loop-more-preserved : goal.some_arguments-loop-more-preserved
some_arguments-loop-more-preserved t c =
    subst (λ (bs : List Argument). ReadArguments c.args.version c.args.left c.args.reader.now.program c.argument.new.reader.program c.args.reader.now.cursor.tokens.now bs c.in_ok-more.more (ahead c.separator.new.cursor) (spots_ahead c.separator.new.cursor)) (sym c.in_ok-push.ensures.items)
    (next_argument c.args.version c.args.left c.args.reader.now.program c.args.reader.now.cursor.tokens.now c.loop-more.reader c.argument.new.reader c.separator.new.cursor c.loop-more.arguments.items c.in_ok-argument.argument c.in_ok-more.more
    (arguments_go_on c.loop-more-test.true c.loop-more.invariant) c.in_ok-argument.ensures.reads c.in_ok-argument.ensures.placed c.in_ok-more.ensures.reads c.in_ok-more.ensures.behind)

pub some_arguments-returns-clause-reads : goal.some_arguments-returns-clause-reads
some_arguments-returns-clause-reads t c =
    (all_arguments c.args.version c.args.left c.args.reader.now.program c.loop-more.reader.program c.args.reader.now.cursor.tokens.now c.loop-more.arguments.items c.loop-more.more c.loop-more.reader.cursor.tokens.now c.loop-more-test.false c.loop-more.invariant).found

pub added-returns-clause-reads : goal.added-returns-clause-reads
added-returns-clause-reads t c = collection_shared c.shared.result c.shared.ensures.ok c.shared.ensures.err
    (added_found c.args.version c.args.left (ahead c.args.reader.now.cursor) c.in_ok-symbol.ensures.reads c.in_ok-rest.ensures.reads c.in_ok-symbol-2.ensures.reads c.in_ok-key.ensures.reads c.in_ok-symbol-3.ensures.reads c.in_ok-member.ensures.reads c.in_ok-symbol-4.ensures.reads)

pub added-returns-clause-placed : goal.added-returns-clause-placed
added-returns-clause-placed t c = shared_placed c.shared.result c.shared.ensures.ok
    (added_read c.in_ok-key.ensures.reads.kept.trees c.in_ok-member.ensures.reads.kept.trees c.in_ok-symbol.ensures.behind c.in_ok-rest.ensures.placed c.in_ok-symbol-2.ensures.behind c.in_ok-key.ensures.placed c.in_ok-symbol-3.ensures.behind
    c.in_ok-member.ensures.placed c.in_ok-symbol-4.ensures.behind)

pub dropped-returns-clause-reads : goal.dropped-returns-clause-reads
dropped-returns-clause-reads t c = collection_shared c.shared.result c.shared.ensures.ok c.shared.ensures.err
    (dropped_found c.args.version c.args.left (ahead c.args.reader.now.cursor) c.in_ok-symbol.ensures.reads c.in_ok-rest.ensures.reads c.in_ok-symbol-2.ensures.reads c.in_ok-key.ensures.reads c.in_ok-symbol-3.ensures.reads)

pub dropped-returns-clause-placed : goal.dropped-returns-clause-placed
dropped-returns-clause-placed t c = shared_placed c.shared.result c.shared.ensures.ok
    (dropped_read c.in_ok-key.ensures.reads.kept.trees c.in_ok-symbol.ensures.behind c.in_ok-rest.ensures.placed c.in_ok-symbol-2.ensures.behind c.in_ok-key.ensures.placed c.in_ok-symbol-3.ensures.behind)

pub kept-returns-clause-reads : goal.kept-returns-clause-reads
kept-returns-clause-reads t c = collection_shared c.shared.result c.shared.ensures.ok c.shared.ensures.err
    (kept_found c.args.version c.args.left (ahead c.args.reader.now.cursor) c.in_ok-symbol.ensures.reads c.in_ok-rest.ensures.reads c.in_ok-symbol-2.ensures.reads c.in_ok-function.ensures.reads c.in_ok-symbol-3.ensures.reads)

pub kept-returns-clause-placed : goal.kept-returns-clause-placed
kept-returns-clause-placed t c = shared_placed c.shared.result c.shared.ensures.ok
    (kept_read c.in_ok-function.ensures.reads.kept.trees c.in_ok-symbol.ensures.behind c.in_ok-rest.ensures.placed c.in_ok-symbol-2.ensures.behind c.in_ok-function.ensures.placed c.in_ok-symbol-3.ensures.behind)

pub chosen-returns-clause-reads : goal.chosen-returns-clause-reads
chosen-returns-clause-reads t c = collection_shared c.shared.result c.shared.ensures.ok c.shared.ensures.err
    (chosen_found c.args.version c.args.left (ahead c.args.reader.now.cursor) c.in_ok-condition.ensures.reads c.in_ok-keyword.ensures.reads c.in_ok-one.ensures.reads c.in_ok-keyword-2.ensures.reads c.in_ok-two.ensures.reads)

pub chosen-returns-clause-placed : goal.chosen-returns-clause-placed
chosen-returns-clause-placed t c = shared_placed c.shared.result c.shared.ensures.ok
    (chosen_read c.in_ok-one.ensures.reads.kept.trees c.in_ok-two.ensures.reads.kept.trees c.in_ok-condition.ensures.placed c.in_ok-keyword.ensures.behind c.in_ok-one.ensures.placed c.in_ok-keyword-2.ensures.behind c.in_ok-two.ensures.placed)

pub members-returns-in-Ok-clause-reads : goal.members-returns-in-Ok-clause-reads
members-returns-in-Ok-clause-reads t c = members_found c.in_ok-read.ensures.reads c.in-Ok.ensures.ok

pub members-returns-in-Ok-clause-placed : goal.members-returns-in-Ok-clause-placed
members-returns-in-Ok-clause-placed t c = members_read c.in-Ok.ensures.ok c.in_ok-read.ensures.placed

pub members-returns-in-Err-clause-reads : goal.members-returns-in-Err-clause-reads
members-returns-in-Err-clause-reads t c =
    subst (λ (s : Stop). StopsReading s (parse_collection c.args.left c.args.version (counts_of c.args.reader.now.program) (ahead c.args.reader.now.cursor))) (sym c.refused.ensures)
    (refused_for_memory _ (parse_collection c.args.left c.args.version (counts_of c.args.reader.now.program) (ahead c.args.reader.now.cursor)) c.in-Err.refusal (length c.args.reader.now.cursor.tokens.now) c.in-Err.ensures.refused.due
    (members_shallow c.args.version c.args.left (ahead c.args.reader.now.cursor) c.requires.shallow c.in_ok-read.ensures.reads) tt)

pub gathered-returns-clause-reads : goal.gathered-returns-clause-reads
gathered-returns-clause-reads t c = λ whole counted.
    term_built _ _ _ c.args.start.ahead c.add.result c.built.result
    (gathered_ready c.args.version c.args.left (ahead c.args.reader.now.cursor) c.requires.shallow c.in_ok-collection.ensures.reads)
    c.in_ok-collection.ensures.reads.kept counted c.built.ensures c.add.ensures tt

pub gathered-returns-clause-placed : goal.gathered-returns-clause-placed
gathered-returns-clause-placed t c = if_built _ _ c.args.start.ahead c.add.result c.built.result c.built.ensures c.add.ensures.ok (λ id added.
    gathered_read added c.in_ok-collection.ensures.placed)

pub releasing-releasing-added-requires-clause-members_held : goal.releasing-releasing-added-requires-clause-members_held
releasing-releasing-added-requires-clause-members_held t c =
    (collection_at_kept _ _ c.in_ok-source.source (keeps_trans _ _ _ c.in_ok-observer.ensures.reads.kept c.in_ok-pattern.ensures.reads.kept).trees c.in_ok-source.ensures.reads.held).1

pub releasing-returns-clause-reads : goal.releasing-returns-clause-reads
releasing-returns-clause-reads t c = λ whole counted.
    term_built _ _ _ c.args.start.ahead c.releasing-added.result c.built.result
    (releasing_ready c.args.version c.args.left (ahead c.args.reader.now.cursor) c.requires.shallow c.in_ok-symbol.ensures.reads c.in_ok-source.ensures.reads c.in_ok-symbol-2.ensures.reads c.in_ok-observer.ensures.reads c.in_ok-symbol-3.ensures.reads c.in_ok-label.ensures.reads c.in_ok-symbol-4.ensures.reads c.in_ok-pattern.ensures.reads c.in_ok-symbol-5.ensures.reads (c.in_ok-known.ensures.ok ∙ c.as_str.ensures.text))
    (keeps_trans _ _ _ c.in_ok-source.ensures.reads.kept (keeps_trans _ _ _ c.in_ok-observer.ensures.reads.kept c.in_ok-pattern.ensures.reads.kept)) counted c.built.ensures c.releasing-added.ensures.builds (subst IsName (sym c.in_ok-known.ensures.ok) c.as_str.ensures.named, c.in_ok-pattern.ensures.reads.names)

pub releasing-returns-clause-placed : goal.releasing-returns-clause-placed
releasing-returns-clause-placed t c = if_built_on _ _ _ c.args.start.ahead c.releasing-added.result c.built.result c.built.ensures c.releasing-added.ensures.builds.ok c.releasing-added.ensures.placed (λ id added there.
    releasing_read c.in_ok-observer.ensures.reads.kept.trees c.in_ok-pattern.ensures.reads.kept.trees added there c.in_ok-symbol.ensures.behind c.in_ok-source.ensures.placed c.in_ok-symbol-2.ensures.behind c.in_ok-observer.ensures.placed c.in_ok-symbol-3.ensures.behind
    c.in_ok-label.ensures.placed c.in_ok-symbol-4.ensures.behind c.in_ok-pattern.ensures.placed c.in_ok-symbol-5.ensures.behind)

pub edit-returns-clause-reads : goal.edit-returns-clause-reads
edit-returns-clause-reads t c =
    edit_found c.args.version c.args.left (ahead c.args.reader.now.cursor) c.in_ok-pattern.ensures.reads c.in_ok-symbol.ensures.reads c.in_ok-pattern.ensures.names c.in_ok-id.ensures.reads

pub edit-returns-clause-placed : goal.edit-returns-clause-placed
edit-returns-clause-placed t c = parted_read c.in_ok-pattern.ensures.placed c.in_ok-symbol.ensures.behind c.in_ok-id.ensures.placed

pub editing-editing-added-requires-clause-members_held : goal.editing-editing-added-requires-clause-members_held
editing-editing-added-requires-clause-members_held t c =
    (collection_at_kept _ _ c.in_ok-source.source c.in_ok-pattern.ensures.reads.kept.trees c.in_ok-source.ensures.reads.held).1

pub editing-returns-clause-reads : goal.editing-returns-clause-reads
editing-returns-clause-reads t c = λ whole counted.
    term_built _ _ _ c.args.start.ahead c.editing-added.result c.built.result
    (editing_ready c.args.version c.args.left (ahead c.args.reader.now.cursor) c.requires.shallow c.in_ok-symbol.ensures.reads c.in_ok-source.ensures.reads c.in_ok-symbol-2.ensures.reads c.in_ok-label.ensures.reads c.in_ok-symbol-3.ensures.reads c.in_ok-pattern.ensures.reads c.in_ok-symbol-4.ensures.reads (c.in_ok-known.ensures.ok ∙ c.as_str.ensures.text))
    (keeps_trans _ _ _ c.in_ok-source.ensures.reads.kept c.in_ok-pattern.ensures.reads.kept) counted c.built.ensures c.editing-added.ensures.builds (subst IsName (sym c.in_ok-known.ensures.ok) c.as_str.ensures.named, c.in_ok-pattern.ensures.reads.names)

pub editing-returns-clause-placed : goal.editing-returns-clause-placed
editing-returns-clause-placed t c = if_built_on _ _ _ c.args.start.ahead c.editing-added.result c.built.result c.built.ensures c.editing-added.ensures.builds.ok c.editing-added.ensures.placed (λ id added there.
    editing_read c.in_ok-pattern.ensures.reads.kept.trees added there c.in_ok-symbol.ensures.behind c.in_ok-source.ensures.placed c.in_ok-symbol-2.ensures.behind c.in_ok-label.ensures.placed c.in_ok-symbol-3.ensures.behind
    c.in_ok-pattern.ensures.placed c.in_ok-symbol-4.ensures.behind)
