use Rattle.std.proofs.Common.{◌≡◌, refl, ◌∙◌, arith}
use Rattle.sf_session.proofs.Fed.{forgotten_plays, all_written, finishes, finishes_stopped, finishes_ended}
use Rattle.sf_session.proofs.session.Session.finish.Goals as goal
use Rattle.sf_session.proofs.session.Session.finish.Goals.{in-Some, in-None}

pub returns-in_default : goal.returns-in_default
returns-in_default c = record {
  finishes = λ probes n m fed given F. finishes_ended c.args.self.now c.in_default.not-Running F;
  live = c.requires;
  ended = λ e. refl;
}

pub finish-requires : goal.finish-requires
finish-requires c = forgotten_plays c.args.self.now.handed c.forget_taken.ensures.forgotten (c.requires c.in-Running.is)

pub returns-clause-finishes : goal.returns-clause-finishes
returns-clause-finishes c =
    let told : c.args.self.now.told ≡ 0 = omega (arith, rw c.in-Running.is at c.args.self.now.of_end) in
    let none = c.forget_taken.ensures.told ∙ told in
    λ probes n m fed given F.
    let P = all_written c.forget_taken.new.self c.forget_taken.ensures.forgotten (F.plays c.in-Running.is) in
    elim c.match-finish.branch [
      | in-Some w ↦ finishes_stopped w.in-Some.stop _ w.self-is c.forget_taken.ensures.handed none (w.in-Some.ensures probes n m fed given P)
      | in-None w ↦ finishes _ w.self-is c.forget_taken.ensures.handed none (w.in-None.ensures probes n m fed given P)
    ]
