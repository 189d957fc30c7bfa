use Rattle.std.proofs.Common.{refl}
use Rattle.sf_value.specs.declared.fault.Fault.TheVariants.{Memory}
use Rattle.sf_begin.specs.Beginning.{makes_nothing}
use Rattle.sf_begin.proofs.Arguments.{made_failure, value_given, value_fails, started_given, closed_given, collected_given, collected_fails}
use Rattle.sf_begin.proofs.calling.given_by.Goals as goal
use Rattle.sf_begin.specs.Contexts.{context_machine}

pub returns-in-Ok : goal.returns-in-Ok
returns-in-Ok g c =
    let q = c.args.parameter.now in
    let μ = context_machine g.R.Holds.answers c.args.context.now in
    rw c.in-Value.is (value_given μ q c.args.names.now c.in-Value.field-0 c.in-Value.code c.in-Ok.value c.in-Ok.value (c.in-Ok.ensures _ (rw c.in-Value.is at c.requires.coded)) refl)

pub returns-in-Err : goal.returns-in-Err
returns-in-Err g c =
    let q = c.args.parameter.now in
    let μ = context_machine g.R.Holds.answers c.args.context.now in
    rw (c.in-Value.is, c.fault_of.ensures) (value_fails μ q c.args.names.now c.in-Value.field-0 c.in-Value.code c.in-Err.fault (c.in-Err.ensures _ (rw c.in-Value.is at c.requires.coded)))

pub handed_on-requires : goal.handed_on-requires
handed_on-requires g c = rw c.in-Started.is at c.requires.asked

pub returns-in_err-handed-in-Started : goal.returns-in_err-handed-in-Started
returns-in_err-handed-in-Started g c = λ e d N. made_failure _ _ _ Memory c.from_residual.ensures.1 makes_nothing

pub returns-in_err-handed-in-Closed : goal.returns-in_err-handed-in-Closed
returns-in_err-handed-in-Closed g c = λ e d N. made_failure _ _ _ Memory c.from_residual-in_err-handed-in-Closed.ensures.1 makes_nothing

pub returns-in_ok-handed-in-Started : goal.returns-in_ok-handed-in-Started
returns-in_ok-handed-in-Started g c =
    let q = c.args.parameter.now in
    let μ = context_machine g.R.Holds.answers c.args.context.now in
    rw c.in-Started.is (started_given μ q c.args.names.now c.in-Started.start c.in-Started.name c.in_ok-handed-in-Started.handed (c.in_ok-handed-in-Started.ensures μ.answers))

pub returns-in_ok-handed-in-Closed : goal.returns-in_ok-handed-in-Closed
returns-in_ok-handed-in-Closed g c =
    let q = c.args.parameter.now in
    let μ = context_machine g.R.Holds.answers c.args.context.now in
    rw c.in-Closed.is (closed_given μ q c.args.names.now c.in-Closed.term c.in_ok-handed-in-Closed.handed (c.in_ok-handed-in-Closed.ensures μ.answers))

pub returns-in_ok-all-in-Collected : goal.returns-in_ok-all-in-Collected
returns-in_ok-all-in-Collected g c =
    let q = c.args.parameter.now in
    let μ = context_machine g.R.Holds.answers c.args.context.now in
    rw c.in-Collected.is (collected_given μ q c.args.names.now c.in-Collected.members c.in_ok-all-in-Collected.all
    (λ e N. (rw c.deref.ensures at c.in_ok-all-in-Collected.ensures) e N (rw c.in-Collected.is at c.requires.coded)))

pub returns-in_err-all-in-Collected : goal.returns-in_err-all-in-Collected
returns-in_err-all-in-Collected g c = λ e d N.
    let q = c.args.parameter.now in
    let μ = context_machine g.R.Holds.answers c.args.context.now in
    let x = c.in_err-all-in-Collected.field-0.0 in
    made_failure _ _ _ x c.from_residual-in_err-all-in-Collected.ensures.1
    (rw c.in-Collected.is (collected_fails μ q c.args.names.now c.in-Collected.members x
    (λ e N. (rw c.deref.ensures at c.in_err-all-in-Collected.ensures) e N (rw c.in-Collected.is at c.requires.coded)) e d N))
