use Rattle.std.proofs.Common.{◌≡◌, ◌+◌, arith, rules, ap, ◌++◌, ◌∷◌, []}
use Rattle.std.proofs.lemmas.List.{take_rest}
use Rattle.sf_lex.specs.Cutting.{gap, token, at_fault}
use Rattle.sf_lex.specs.Scanning.{next_piece, lexeme_of}
use Rattle.sf_lex.proofs.Places.{place_on, place_small, place_start}
use Rattle.sf_lex.proofs.Readable.{readable}
use Rattle.sf_lex.proofs.Runs.{step_from, tokens_start, tokens_gap, tokens_token, tokens_end, refused, first_content}
use Rattle.sf_refusal.specs.declared.refusal.Refusal.TheVariants.{Memory}
use Rattle.sf_refusal.specs.Refusals.{because, no_memory}
use Rattle.sf_refusal.proofs.Explained.{refused_on}
use Rattle.sf_lex.proofs.lexer.cut.Goals as goal

pub loop-at-init : goal.loop-at-init
loop-at-init c = record {
  tokens = tokens_start c.args.bytes.now c.new-found.result.items c.new-found.ensures.items;
  valid = omega arith;
  place = place_start c.args.bytes.now;
  line = omega arith;
  column = omega arith;
}

pub loop-at-smaller-in-Gap : goal.loop-at-smaller-in-Gap
loop-at-smaller-in-Gap c =
    let s = step_from c.args.bytes.now _ c.loop-at.at c.args.valid c.in-Gap.n gap _ _ (take_rest c.args.bytes.now c.loop-at.at) c.scan.ensures c.within.ensures (ap next_piece c.in-Gap.is) c.loop-at.invariant.valid in
    omega (arith, s.some)

pub loop-at-preserved-in-Gap : goal.loop-at-preserved-in-Gap
loop-at-preserved-in-Gap c =
    let bytes = c.args.bytes.now in
    let at = c.loop-at.at in
    let s = step_from bytes _ at c.args.valid c.in-Gap.n gap _ _ (take_rest bytes at) c.scan.ensures c.within.ensures (ap next_piece c.in-Gap.is) c.loop-at.invariant.valid in
    let place = place_on bytes _ at c.in-Gap.n c.loop-at.place c.after-place.result (take_rest bytes at) c.loop-at.invariant.place c.after-place.ensures in
    let small = place_small bytes (at + c.in-Gap.n) c.after-place.result place in
    record {
      tokens = tokens_gap bytes at c.args.valid c.in-Gap.n c.loop-at.found.items s c.loop-at.invariant.tokens;
      valid = s.near;
      place = place;
      line = small.0;
      column = small.1;
    }

pub token-requires : goal.token-requires
token-requires c =
    let bytes = c.args.bytes.now in
    let at = c.loop-at.at in
    let s = step_from bytes _ at c.args.valid c.in-Token.n (token (lexeme_of c.in-Token.lexeme)) _ _ (take_rest bytes at) c.scan.ensures c.within.ensures (ap next_piece c.in-Token.is) c.loop-at.invariant.valid in
    readable bytes at c.args.valid c.in-Token.n (lexeme_of c.in-Token.lexeme) s.longest s.near c.requires.valid

pub loop-at-smaller : goal.loop-at-smaller
loop-at-smaller c =
    let s = step_from c.args.bytes.now _ c.loop-at.at c.args.valid c.in-Token.n (token (lexeme_of c.in-Token.lexeme)) _ _ (take_rest c.args.bytes.now c.loop-at.at) c.scan.ensures c.within.ensures (ap next_piece c.in-Token.is) c.loop-at.invariant.valid in
    omega (arith, s.some)

pub loop-at-preserved : goal.loop-at-preserved
loop-at-preserved c =
    let bytes = c.args.bytes.now in
    let at = c.loop-at.at in
    let s = step_from bytes _ at c.args.valid c.in-Token.n (token (lexeme_of c.in-Token.lexeme)) _ _ (take_rest bytes at) c.scan.ensures c.within.ensures (ap next_piece c.in-Token.is) c.loop-at.invariant.valid in
    let place = place_on bytes _ at c.in-Token.n c.loop-at.place c.after-place-in-Token.result (take_rest bytes at) c.loop-at.invariant.place c.after-place-in-Token.ensures in
    let small = place_small bytes (at + c.in-Token.n) c.after-place-in-Token.result place in
    let items : c.push.new.self.items ≡ c.loop-at.found.items ++ record { token = c.in_ok-token-in-Token.token; spot = c.loop-at.place } ∷ [] = search rules in
    record {
      tokens = tokens_token bytes at c.args.valid c.in-Token.n c.loop-at.found.items c.push.new.self.items (lexeme_of c.in-Token.lexeme) c.in_ok-token-in-Token.token c.loop-at.place s c.loop-at.invariant.tokens c.in_ok-token-in-Token.ensures c.loop-at.invariant.place items;
      valid = s.near;
      place = place;
      line = small.0;
      column = small.1;
    }

pub returns-in-Fault-clause-refused : goal.returns-in-Fault-clause-refused
returns-in-Fault-clause-refused c =
    let bytes = c.args.bytes.now in
    let at = c.loop-at.at in
    let place = place_on bytes _ at c.in-Fault.k c.loop-at.place c.after.result (take_rest bytes at) c.loop-at.invariant.place c.after.ensures in
    let first = refused bytes _ at c.args.valid c.in-Fault.k c.in-Fault.rule c.after.result _ _ c.loop-at.found.items c.requires.short c.requires.valid c.loop-at.invariant.tokens c.loop-at-test.true c.loop-at.invariant.valid (take_rest bytes at) c.scan.ensures c.within.ensures (ap next_piece c.in-Fault.is) place in
    rw c.broken.ensures (because (at_fault first))

pub returns-in-Fault-clause-content : goal.returns-in-Fault-clause-content
returns-in-Fault-clause-content c =
    let bytes = c.args.bytes.now in
    let at = c.loop-at.at in
    let place = place_on bytes _ at c.in-Fault.k c.loop-at.place c.after.result (take_rest bytes at) c.loop-at.invariant.place c.after.ensures in
    let first = refused bytes _ at c.args.valid c.in-Fault.k c.in-Fault.rule c.after.result _ _ c.loop-at.found.items c.requires.short c.requires.valid c.loop-at.invariant.tokens c.loop-at-test.true c.loop-at.invariant.valid (take_rest bytes at) c.scan.ensures c.within.ensures (ap next_piece c.in-Fault.is) place in
    rw c.broken.ensures (first_content bytes c.in-Fault.rule c.after.result first)

pub returns-clause-found : goal.returns-clause-found
returns-clause-found c = tokens_end c.args.bytes.now c.loop-at.at c.args.valid c.loop-at.found.items c.requires.short c.requires.valid c.loop-at.invariant.tokens c.loop-at-test.false c.loop-at.invariant.valid

pub returns-in_err-token-in-Token-clause-refused : goal.returns-in_err-token-in-Token-clause-refused
returns-in_err-token-in-Token-clause-refused c = refused_on c.from_residual.result Memory c.from_residual.ensures.1 no_memory

pub returns-in_err-push-in-Token-clause-refused : goal.returns-in_err-push-in-Token-clause-refused
returns-in_err-push-in-Token-clause-refused c = refused_on c.from_residual-in_err-push-in-Token.result Memory c.from_residual-in_err-push-in-Token.ensures.1 no_memory
