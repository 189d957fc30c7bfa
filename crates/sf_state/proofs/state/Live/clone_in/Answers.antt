use Rattle.std.proofs.Common.{subst}
use Rattle.sf_state.specs.Standing.{AllFollow}
use Rattle.sf_state.proofs.Copies.{probe_follows, join_follows, wrap_follows, pipeline_follows, gathered_follows, same_held}
use Rattle.sf_state.proofs.state.Live.clone_in.Goals as goal

pub returns-in_ok-second-in-Join : goal.returns-in_ok-second-in-Join
returns-in_ok-second-in-Join c = λ μ P x L R.
    join_follows μ c.in-Join.join c.in-Join.left c.in_ok-first-in-Join.first c.in-Join.right c.in_ok-second-in-Join.second
    (c.in_ok-first-in-Join.ensures μ) (c.in_ok-second-in-Join.ensures μ) P x L (rw c.in-Join.is at R)

pub returns-in_ok-inner-in-Wrap : goal.returns-in_ok-inner-in-Wrap
returns-in_ok-inner-in-Wrap c = λ μ P x L R.
    wrap_follows μ c.in-Wrap.wrap c.in_ok-kept-in-Wrap.kept c.in-Wrap.part c.in_ok-inner-in-Wrap.inner
    c.in_ok-kept-in-Wrap.ensures (c.in_ok-inner-in-Wrap.ensures μ) P x L (rw c.in-Wrap.is at R)

pub returns-in_ok-shared-in-Pipeline : goal.returns-in_ok-shared-in-Pipeline
returns-in_ok-shared-in-Pipeline c = λ μ P x L R.
    pipeline_follows μ c.in-Pipeline.stages c.in_ok-shared-in-Pipeline.shared (subst (λ bs. AllFollow μ bs c.in_ok-shared-in-Pipeline.shared.items) c.deref.ensures.value (c.in_ok-shared-in-Pipeline.ensures μ)) P x L (rw c.in-Pipeline.is at R)

pub returns-in_ok-same-in-Probe : goal.returns-in_ok-same-in-Probe
returns-in_ok-same-in-Probe c = λ μ P x L R.
    probe_follows μ c.in-Probe.name c.in_ok-same-in-Probe.same c.in_ok-same-in-Probe.ensures.cases P x L (rw c.in-Probe.is at R)

pub returns-in_ok-all-in-Gathered : goal.returns-in_ok-all-in-Gathered
returns-in_ok-all-in-Gathered c = λ μ P x L R.
    gathered_follows μ c.in-Gathered.members c.in_ok-all-in-Gathered.all (same_held μ _ _ c.in_ok-all-in-Gathered.ensures) P x L (rw c.in-Gathered.is at R)
