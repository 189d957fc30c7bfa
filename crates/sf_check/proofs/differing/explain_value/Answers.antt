use Rattle.sf_value.specs.Values.{Kind}
use Rattle.sf_mean.specs.Typing.{value_kind}
use Rattle.sf_expr.proofs.Bound.{on_err}
use Rattle.sf_differ.specs.Wanting.{IsMade}
use Rattle.sf_differ.proofs.Told.{told_as, told_on, unsaid_on, differs_with, suited_can}
use Rattle.sf_check.specs.Differing.{value_differs_within, value_differs, input_differs}
use Rattle.sf_check.proofs.Apart.{value_any, input_any}
use Rattle.sf_check.proofs.differing.explain_value.Goals as goal

pub returns-in_err-given : goal.returns-in_err-given
returns-in_err-given c = told_on _ _ c.from_residual.ensures.1 (told_as (λ d k. value_differs_within k) c.in_err-given.ensures.err)

pub returns-in_err-suited : goal.returns-in_err-suited
returns-in_err-suited c =
    told_on _ _ c.from_residual-in_err-suited.ensures.1
    (told_as (λ d k. value_differs c.in_ok-given.ensures.ok (differs_with (λ v. (b : Kind) × IsMade (value_kind c.args.kind v b)) _ (value_any c.args.kind) _ c.value_wanted.ensures k)) c.in_err-suited.ensures.err)

pub returns-in_err-wanted : goal.returns-in_err-wanted
returns-in_err-wanted c = unsaid_on _ _ _ c.from_residual-in_err-wanted.ensures.1

pub returns : goal.returns
returns c =
    let given = c.in_ok-given.given in
    let can = suited_can (λ v. (b : Kind) × IsMade (value_kind c.args.kind v b)) _ _ given (value_any c.args.kind) c.value_wanted.ensures c.in_ok-suited.ensures.ok in
    on_err c.suited-2.result
    (λ b h. told_as (λ d k. input_differs c.in_ok-given.ensures.ok (differs_with (λ b. IsMade (value_kind c.args.kind given b)) _ (input_any c.args.kind given can.0 can.1) _ c.in_ok-wanted.ensures k)) h) c.suited-2.ensures.err
