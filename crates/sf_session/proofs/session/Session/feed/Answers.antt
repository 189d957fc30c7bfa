use Rattle.std.proofs.Common.{◌≡◌, refl, ◌∙◌, arith}
use Rattle.sf_session.proofs.Fed.{forgotten_plays, all_written, feeds_fed, feeds_stopped, feeds_ended}
use Rattle.sf_session.proofs.session.Session.feed.Goals as goal

pub returns-in_default : goal.returns-in_default
returns-in_default c = record {
  feeds = λ probes n m fed given F. feeds_ended c.args.self.now c.args.piece.now c.in_default.not-Running F;
  live = c.requires;
  ended = λ e. refl;
}

pub feed-requires : goal.feed-requires
feed-requires c = forgotten_plays c.args.self.now.handed c.forget_taken.ensures.forgotten (c.requires c.in-Running.is)

pub returns-in-Some-clause-feeds : goal.returns-in-Some-clause-feeds
returns-in-Some-clause-feeds c =
    let told : c.args.self.now.told ≡ 0 = omega (arith, rw c.in-Running.is at c.args.self.now.of_end) in
    λ probes n m fed given F.
    feeds_stopped fed c.args.piece.now c.in-Some.stop c.forget_taken.new.self.player _ refl c.forget_taken.ensures.handed (c.forget_taken.ensures.told ∙ told)
    (c.in-Some.ensures probes n m fed given (all_written c.forget_taken.new.self c.forget_taken.ensures.forgotten (F.plays c.in-Running.is)))

pub returns-in_default-feed-clause-feeds : goal.returns-in_default-feed-clause-feeds
returns-in_default-feed-clause-feeds c = λ probes n m fed given F.
    feeds_fed fed c.args.piece.now c.forget_taken.new.self.player _ (c.forget_taken.ensures.phase ∙ c.in-Running.is) c.forget_taken.ensures.handed
    (c.in_default-feed.ensures probes n m fed given (all_written c.forget_taken.new.self c.forget_taken.ensures.forgotten (F.plays c.in-Running.is)))

pub returns-in_default-feed-clause-live : goal.returns-in_default-feed-clause-live
returns-in_default-feed-clause-live c =
    let P = forgotten_plays c.args.self.now.handed c.forget_taken.ensures.forgotten (c.requires c.in-Running.is) in
    λ runs. record { probes = P.probes; n = P.n; m = P.m; read = _; written = P.written; played = (c.in_default-feed.ensures P.probes P.n P.m P.read P.written P.played).played }
