use Rattle.std.proofs.lemmas.Result.{on_ok_weaker}
use Rattle.sf_state.proofs.Copies.{in_turn_follows, alive_follows, join_follows, wrap_follows}
use Rattle.sf_state.proofs.state.+renew.Goals as goal

pub State::renew-returns-in-Some-get_mut : goal.State::renew-returns-in-Some-get_mut
State::renew-returns-in-Some-get_mut t c =
    on_ok_weaker c.renew-in-Some-get_mut.result (λ h μ P L A. in_turn_follows μ c.in-Primitives.node _ (λ P x L R. h μ P x L (rw c.deref-in-Some-get_mut.ensures R)) P L (rw c.in-Primitives.is at A)) c.renew-in-Some-get_mut.ensures

pub State::renew-returns-in-Some : goal.State::renew-returns-in-Some
State::renew-returns-in-Some t c =
    on_ok_weaker c.renew.result (λ h μ P L A.
    alive_follows μ c.in-Live.names c.in_ok-shared-in-Live.shared c.in-Live.node.value c.renew.new.self (c.in_ok-shared-in-Live.ensures μ) (h μ) P L (rw c.in-Live.is at A)) (rw c.deref.ensures at c.renew.ensures)

pub Live::renew-returns-in-Join-self : goal.Live::renew-returns-in-Join-self
Live::renew-returns-in-Join-self t c =
    on_ok_weaker c.renew-in-Join-self.result (λ h μ P x L R.
    join_follows μ c.in-Join.join c.in-Join.left c.renew.new.self c.in-Join.right c.renew-in-Join-self.new.self (c.in_ok-renew-in-Join.ensures μ) (h μ) P x L (rw c.in-Join.is at R)) c.renew-in-Join-self.ensures

pub Live::renew-returns-in-Wrap-self : goal.Live::renew-returns-in-Wrap-self
Live::renew-returns-in-Wrap-self t c =
    on_ok_weaker c.renew-in-Wrap-self.result (λ h μ P x L R.
    wrap_follows μ c.in-Wrap.wrap c.in_ok-copy-in-Wrap.copy c.in-Wrap.part c.renew-in-Wrap-self.new.self c.in_ok-copy-in-Wrap.ensures (h μ) P x L (rw c.in-Wrap.is at R)) c.renew-in-Wrap-self.ensures
