use Rattle.gezmulda_c.proofs.engine.gezmulda_take.Goals as goal

pub returns-clause-live : goal.returns-clause-live
returns-clause-live c = λ held. rw c.put.ensures (c.take-taken.ensures.live (rw c.deref_mut.ensures.value (rw c.take-run.ensures.session at held)))
