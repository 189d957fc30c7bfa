use Rattle.std.proofs.Common.{[]}
use Rattle.sf_state.specs.declared.env.Collected.{Collected}
use Rattle.sf_state.proofs.Copies.{same_held}
use Rattle.sf_state.proofs.Fewer.{members_made}
use Rattle.sf_state.proofs.env.Collected.over.Goals as goal

pub returns : goal.returns
returns c = λ μ m l e ms h G k.
    let b : Collected = record { name = c.args.self.now.name; members = c.in_ok-members.members; around = c.in-Some.around } in
    members_made μ b c.in_ok-collected.collected c.in_ok-collected.ensures.ok h (same_held μ _ _ c.in_ok-members.ensures ms [] G) (rw c.in-Some.is at k)
