use Rattle.sf_state.proofs.Scopes.{names_follow, running_follows, collected_follows, called_follows}
use Rattle.sf_state.proofs.env.Env.share.Goals as goal

pub returns-in_ok-shared-in-Bound : goal.returns-in_ok-shared-in-Bound
returns-in_ok-shared-in-Bound c = λ μ e N. names_follow μ c.in-Bound.binding.value c.in_ok-shared-in-Bound.shared.value c.in_ok-shared-in-Bound.ensures.cases e (rw c.in-Bound.is at N)

pub returns-in_ok-same-in-Running : goal.returns-in_ok-same-in-Running
returns-in_ok-same-in-Running c = λ μ e N. running_follows μ c.in-Running.running.value c.in_ok-same-in-Running.same.value c.in_ok-same-in-Running.ensures.cases e (rw c.in-Running.is at N)

pub returns-in_ok-both-in-Called : goal.returns-in_ok-both-in-Called
returns-in_ok-both-in-Called c = λ μ e N. called_follows μ c.in-Called.call c.in_ok-both-in-Called.both c.in_ok-both-in-Called.ensures.cases e (rw c.in-Called.is at N)

pub returns-in_ok-again-in-Collected : goal.returns-in_ok-again-in-Collected
returns-in_ok-again-in-Collected c = λ μ e N. collected_follows μ c.in-Collected.collected c.in_ok-again-in-Collected.again c.in_ok-again-in-Collected.ensures.cases e (rw c.in-Collected.is at N)
