use Rattle.std.proofs.Common.{IsTrue}
use Rattle.sf_mean.specs.Typing.{takes_input}
use Rattle.sf_expr.proofs.Bound.{on_err}
use Rattle.sf_differ.proofs.Told.{told_as, told_on, room_on, differs_with}
use Rattle.sf_check.specs.Differing.{timed_differs_within, timed_differs}
use Rattle.sf_check.proofs.Apart.{timed_any}
use Rattle.sf_check.proofs.differing.explain_timed.Goals as goal

pub returns-in_err-given : goal.returns-in_err-given
returns-in_err-given c = told_on _ _ c.from_residual.ensures.1 (told_as (λ d k. timed_differs_within k) c.in_err-given.ensures.err)

pub returns-in_err-wanted : goal.returns-in_err-wanted
returns-in_err-wanted c = room_on _ _ c.from_residual-in_err-wanted.ensures.1

pub returns : goal.returns
returns c =
    let given = c.in_ok-given.given in
    on_err c.suited.result
    (λ b h. told_as (λ d k. timed_differs c.in_ok-given.ensures.ok (differs_with (λ b. IsTrue (takes_input c.args.kind given b)) _ (timed_any c.args.kind given) _ c.in_ok-wanted.ensures k)) h) c.suited.ensures.err
