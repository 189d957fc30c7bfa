use Rattle.gezmulda_c.proofs.engine.gezmulda_feed.Goals as goal

pub returns-clause-feeds : goal.returns-clause-feeds
returns-clause-feeds c = λ probes n m fed given held. rw c.put.ensures (c.feed.ensures.feeds probes n m fed given (rw c.deref_mut.ensures.value (rw c.take-run.ensures.session at held)))

pub returns-clause-live : goal.returns-clause-live
returns-clause-live c = rw c.put.ensures c.feed.ensures.live
