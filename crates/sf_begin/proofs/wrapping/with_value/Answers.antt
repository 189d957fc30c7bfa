use Rattle.std.proofs.Common.{refl, ap}
use Rattle.sf_expr.specs.Evaluation.{answer, ◌>>=◌}
use Rattle.sf_mean.specs.Meaning.{value_made, no_loop, not_begun}
use Rattle.sf_state.specs.Standing.{wraps_loop, wraps_initialized, wraps_replaced, wraps_followed}
use Rattle.sf_begin.specs.Beginning.{makes}
use Rattle.sf_begin.proofs.wrapping.with_value.Goals as goal

pub returns-in-LoopPre : goal.returns-in-LoopPre
returns-in-LoopPre c = λ n i t e x h. rw (c.in-LoopPre.is, c.new.ensures) (makes (ap (λ o. o >>= λ v. answer (value_made v)) h) (wraps_loop no_loop))

pub returns-in-Initialized : goal.returns-in-Initialized
returns-in-Initialized c = λ n i t e x h. rw c.in-Initialized.is (makes (ap (λ o. o >>= λ v. answer (value_made v)) h) wraps_initialized)

pub returns-in-Replaced : goal.returns-in-Replaced
returns-in-Replaced c = λ n i t e x h. rw c.in-Replaced.is (makes (ap (λ o. o >>= λ v. answer (value_made v)) h) wraps_replaced)

pub returns-in-Followed : goal.returns-in-Followed
returns-in-Followed c = λ n i t e x h. rw c.in-Followed.is (makes refl (wraps_followed not_begun h))
