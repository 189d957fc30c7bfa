use Rattle.std.proofs.Common.{[], sym, subst}
use Rattle.sf_func.specs.Registries.{TypesByName}
use Rattle.sf_accept.specs.Refusals.{IsAcceptedText, IsRefusedFor}
use Rattle.sf_refusal.specs.Refusals.{OrMemory, refusal_text}
use Rattle.gezmulda_c.specs.Giving.{IsAnswered, accepted, refused}
use Rattle.gezmulda_c.proofs.Saying.{said_due}
use Rattle.gezmulda_c.proofs.refusal.gezmulda_check.Goals as goal

pub returns-in-Ok : goal.returns-in-Ok
returns-in-Ok c =
    let found = c.in-Ok.ensures.accepted in
    ([], accepted (subst (λ (ts : TypesByName). IsAcceptedText ts c.args.net.now found.0) c.new-functions.ensures.types found.1), c.give.ensures)

pub returns : goal.returns
returns c =
    let why = subst (λ (ts : TypesByName). OrMemory (IsRefusedFor ts c.args.net.now) c.in-Err.refusal) c.new-functions.ensures.types c.in-Err.ensures.refused in
    let said = c.refuse.ensures.given in
    (refusal_text said.0, subst (λ k. IsAnswered c.args.net.now k (refusal_text said.0)) (sym c.refuse.ensures.status) (refused (said_due why said.1)), said.2)
