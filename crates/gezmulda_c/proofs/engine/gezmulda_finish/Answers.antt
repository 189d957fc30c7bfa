use Rattle.gezmulda_c.proofs.engine.gezmulda_finish.Goals as goal

pub returns-clause-finishes : goal.returns-clause-finishes
returns-clause-finishes c = λ probes n m fed given held. rw c.put.ensures (c.finish.ensures.finishes probes n m fed given (rw c.deref_mut.ensures.value (rw c.take-run.ensures.session at held)))

pub returns-clause-live : goal.returns-clause-live
returns-clause-live c = rw c.put.ensures c.finish.ensures.live
