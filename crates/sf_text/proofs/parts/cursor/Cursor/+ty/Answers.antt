use Rattle.std.proofs.Common.{rules, ◌≡◌, ◌+◌, ◌≤◌, Err, ap, arith}
use Rattle.sf_value.specs.Values.{nodes, pair_kind}
use Rattle.sf_text.specs.Parsing.Answers.{ahead, outer_kind}
use Rattle.sf_grammar.specs.Reading.{parse_inner_type, parse_outer_type, parse_pair_type}
use Rattle.sf_text.proofs.Parsing.Found.{few_within, type_refused}
use Rattle.sf_text.proofs.Parsing.Placed.{first_alone, some_more, some_of_one, from_some}
use Rattle.sf_text.proofs.parts.cursor.Cursor.+ty.Goals as goal

pub pair_type-inner_type-requires-2 : goal.pair_type-inner_type-requires-2
pair_type-inner_type-requires-2 t c =
    let few : c.args.met + 1 + nodes c.in_ok-first.first ≤ 256 = few_within c.args.version c.args.left c.args.start (c.args.met + 1) (ahead c.args.self.now) c.in_ok-first.ensures.reads in
    (search rules, omega (arith, c.nodes.ensures.count))

pub pair_type-returns-in-Err-clause-reads : goal.pair_type-returns-in-Err-clause-reads
pair_type-returns-in-Err-clause-reads t c = λ whole counted.
    let met : c.nodes.result ≡ nodes c.in_ok-first.first = c.nodes.ensures.count in
    let few : c.args.met + 1 + c.nodes.result + nodes c.in_ok-second.second ≤ 256 = few_within c.args.version c.args.left c.args.start (c.args.met + 1 + c.nodes.result) (ahead c.symbol.new.self) c.in_ok-second.ensures.reads in
    type_refused (parse_pair_type (parse_inner_type c.args.left c.args.version whole) c.args.met (ahead c.args.self.now)) c.in-Err.refusal c.args.start
    (nodes (pair_kind c.in_ok-first.first c.in_ok-second.second)) c.type_refused.result c.type_refused.ensures (omega arith) (λ same. c.in-Err.ensures.large.0 (ap Err same))

pub pair_type-returns-in-Ok-clause-behind : goal.pair_type-returns-in-Ok-clause-behind
pair_type-returns-in-Ok-clause-behind t c =
    some_more c.in_ok-first.ensures.behind (some_more (some_of_one c.in_ok-symbol.ensures.behind) (some_more c.in_ok-second.ensures.behind (some_of_one c.in_ok-symbol-2.ensures.behind)))

pub headed_type-returns-in_ok-keys-in-Table-clause-behind : goal.headed_type-returns-in_ok-keys-in-Table-clause-behind
headed_type-returns-in_ok-keys-in-Table-clause-behind t c = from_some c.outer_type-in-Table.result _ c.in_ok-keys-in-Table.ensures.behind c.outer_type-in-Table.ensures.behind

pub type_form-returns-clause-behind : goal.type_form-returns-clause-behind
type_form-returns-clause-behind t c = from_some c.headed_type.result _ (first_alone c.in_ok-first.ensures.placed tt) c.headed_type.ensures.behind

pub outer_type-returns-in-Err-clause-reads : goal.outer_type-returns-in-Err-clause-reads
outer_type-returns-in-Err-clause-reads t c = λ whole counted.
    let few : c.args.met + 1 + nodes c.in_ok-part.part ≤ 256 = few_within c.args.version c.args.left c.args.start (c.args.met + 1) (ahead c.args.self.now) c.in_ok-part.ensures.reads in
    type_refused (parse_outer_type (parse_inner_type c.args.left c.args.version whole) (outer_kind c.args.outer) c.args.met (ahead c.args.self.now)) c.in-Err.refusal c.args.start
    (nodes c.in_ok-part.part + 1) c.type_refused.result c.type_refused.ensures (omega arith) (λ same. c.in-Err.ensures.large.0 (ap Err same))
