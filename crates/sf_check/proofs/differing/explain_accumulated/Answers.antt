use Rattle.sf_value.specs.Values.{Kind}
use Rattle.sf_mean.specs.Typing.{accumulated_argument, accumulated_kind}
use Rattle.sf_expr.proofs.Bound.{on_err}
use Rattle.sf_differ.specs.Wanting.{IsMade}
use Rattle.sf_differ.proofs.Told.{told_as, told_on, room_on, unsaid_on, differs_with, suited_can}
use Rattle.sf_check.specs.Differing.{start_differs_within, accumulated_differs, accumulator_differs, start_differs, made_differs}
use Rattle.sf_check.proofs.Apart.{accumulated_any, start_any, made_any}
use Rattle.sf_check.proofs.differing.explain_accumulated.Goals as goal

pub returns-in_err-given : goal.returns-in_err-given
returns-in_err-given c = told_on _ _ c.from_residual.ensures.1 (told_as (λ d k. start_differs_within k) c.in_err-given.ensures.err)

pub returns-in_err-suited : goal.returns-in_err-suited
returns-in_err-suited c =
    told_on _ _ c.from_residual-in_err-suited.ensures.1
    (told_as (λ d k. accumulated_differs c.in_ok-given.ensures.ok (differs_with (λ b. IsMade (accumulated_argument c.args.kind c.in_ok-given.given b)) _ (accumulated_any c.args.kind c.in_ok-given.given) _ c.accumulated_wanted.ensures k)) c.in_err-suited.ensures.err)

pub returns-in_err-argument : goal.returns-in_err-argument
returns-in_err-argument c = unsaid_on _ _ _ c.from_residual-in_err-argument.ensures.1

pub returns-in_err-made : goal.returns-in_err-made
returns-in_err-made c =
    let argument = c.in_ok-argument.ensures in
    told_on _ _ c.from_residual-in_err-made.ensures.1 (told_as (λ d k. accumulator_differs c.in_ok-given.ensures.ok argument.0 argument.1 k) c.in_err-made.ensures.err)

pub returns-in_err-wanted : goal.returns-in_err-wanted
returns-in_err-wanted c = room_on _ _ c.from_residual-in_err-wanted.ensures.1

pub returns-in_err-suited-2 : goal.returns-in_err-suited-2
returns-in_err-suited-2 c =
    let argument = c.in_ok-argument.ensures in
    told_on _ _ c.from_residual-in_err-suited-2.ensures.1
    (told_as (λ d k. start_differs c.in_ok-given.ensures.ok argument.0 c.in_ok-made.ensures.ok
    (differs_with (λ w. (b : Kind) × IsMade (accumulated_kind c.args.kind w c.args.input.now b)) _ (start_any c.args.kind c.args.input.now) _ c.in_ok-wanted.ensures k)) c.in_err-suited-2.ensures.err)

pub returns-in_err-wanted-2 : goal.returns-in_err-wanted-2
returns-in_err-wanted-2 c = room_on _ _ c.from_residual-in_err-wanted-2.ensures.1

pub returns : goal.returns
returns c =
    let argument = c.in_ok-argument.ensures in
    let given = c.in_ok-given.given in
    let can = suited_can (λ w. (b : Kind) × IsMade (accumulated_kind c.args.kind w c.args.input.now b)) _ _ given (start_any c.args.kind c.args.input.now) c.in_ok-wanted.ensures c.in_ok-suited-2.ensures.ok in
    on_err c.suited-3.result
    (λ b h. told_as (λ d k. made_differs c.in_ok-given.ensures.ok argument.0 c.in_ok-made.ensures.ok
    (differs_with (λ b. IsMade (accumulated_kind c.args.kind given c.args.input.now b)) _ (made_any c.args.kind given c.args.input.now can.0 can.1) _ c.in_ok-wanted-2.ensures k)) h) c.suited-3.ensures.err
