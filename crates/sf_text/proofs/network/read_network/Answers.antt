use Rattle.std.proofs.Common.{◌≡◌, sym, ap, subst, ◌∙◌}
use Rattle.sf_text.specs.Parsing.Answers.{toks}
use Rattle.sf_text.specs.Progress.{IsSpelled, StopsNetwork, stop_refusal}
use Rattle.sf_grammar.specs.Stopping.{BreaksText}
use Rattle.sf_lex.specs.declared.token.PlacedToken.{PlacedToken}
use Rattle.std.proofs.Common.{List}
use Rattle.sf_grammar.proofs.Texts.{none_refused, refused_none}
use Rattle.sf_text.proofs.Whole.{bytes_refused, text_stops}
use Rattle.sf_grammar.specs.Placing.{NetworkPlaced, IsPlacedIn}
use Rattle.sf_text.specs.Parsing.Consuming.{places}
use Rattle.sf_refusal.specs.Refusals.{OrMemory}
use Rattle.sf_refusal.proofs.Explained.{refused_on}
use Rattle.sf_text.proofs.Placed.{placed_in}
use Rattle.sf_text.proofs.network.read_network.Goals as goal

pub returns-clause-refused : goal.returns-clause-refused
returns-clause-refused c =
    let is : c.refusal_at.result ≡ stop_refusal c.args.bytes.now c.in_ok-tokens.tokens.items c.in-Err.stop =
    c.refusal_at.ensures ∙ ap (λ (ts : List PlacedToken). stop_refusal c.args.bytes.now ts c.in-Err.stop) c.deref-in-Err.ensures.value in
    let stops : StopsNetwork c.in-Err.stop (toks c.in_ok-tokens.tokens.items) =
    subst (λ (ts : List PlacedToken). StopsNetwork c.in-Err.stop (toks ts)) c.deref.ensures.value c.in-Err.ensures.reads in
    λ other p reads. refused_none c.args.bytes.now c.refusal_at.result
    (subst (OrMemory (BreaksText c.args.bytes.now)) (sym is) (text_stops c.args.bytes.now c.in_ok-tokens.tokens.items c.in-Err.stop c.in_ok-tokens.ensures.found stops)) other p reads

pub returns-in-Ok-clause-placed : goal.returns-in-Ok-clause-placed
returns-in-Ok-clause-placed c =
    subst (λ (ts : List PlacedToken). IsSpelled c.in-Ok._version (toks ts) c.in-Ok.program → NetworkPlaced c.in-Ok._version c.in-Ok.program (places ts) → IsPlacedIn c.args.bytes.now c.in-Ok.program) (sym c.deref.ensures.value)
    (placed_in c.args.bytes.now c.in_ok-tokens.tokens.items c.in-Ok._version c.in-Ok.program c.in_ok-tokens.ensures.found) c.in-Ok.ensures.reads c.in-Ok.ensures.placed

pub returns-in_err-tokens-clause-fault : goal.returns-in_err-tokens-clause-fault
returns-in_err-tokens-clause-fault c =
    refused_on c.from_residual.result c.in_err-tokens.field-0.0 c.from_residual.ensures.1 (bytes_refused c.args.bytes.now c.in_err-tokens.field-0.0 c.in_err-tokens.ensures.refused)

pub returns-in_err-tokens-clause-refused : goal.returns-in_err-tokens-clause-refused
returns-in_err-tokens-clause-refused c =
    none_refused c.args.bytes.now c.from_residual.result
    (refused_on c.from_residual.result c.in_err-tokens.field-0.0 c.from_residual.ensures.1 (bytes_refused c.args.bytes.now c.in_err-tokens.field-0.0 c.in_err-tokens.ensures.refused))
