use Rattle.std.proofs.Common.{◌≡◌, ap, ◌∙◌, inl, inr}
use Rattle.std.proofs.lemmas.List.Elements.{All-head, All-tail}
use Rattle.sf_value.specs.declared.fault.Fault.TheVariants.{Memory}
use Rattle.sf_law.specs.Entries.{IsCodedArgument}
use Rattle.sf_law.specs.Arena.{plan_asks}
use Rattle.sf_begin.specs.Contexts.{context_machine}
use Rattle.sf_begin.specs.Beginning.{makes_nothing}
use Rattle.sf_begin.proofs.Arguments.{first_asked, none_given, next_given, next_not_given, all_given, made_failure}
use Rattle.sf_begin.proofs.calling.side_by_side.Goals as goal

pub loop-parameter-init : goal.loop-parameter-init
loop-parameter-init g c =
    let second : c.zip-parameter-items.result.b.rest.now ≡ c.args.arguments.now = c.zip-parameter-items.ensures.second.0 in
    let parameters : c.into_iter-parameter-iterator.result.a.rest.now ≡ c.args.parameters.now =
    ap (λ z. z.a.rest.now) c.into_iter-parameter-iterator.ensures.into_iter_gives ∙ ap (λ z. z.rest.now) c.zip-parameter-items.ensures.first ∙ c.iter.ensures.rest in
    let arguments : c.into_iter-parameter-iterator.result.b.rest.now ≡ c.args.arguments.now = ap (λ z. z.b.rest.now) c.into_iter-parameter-iterator.ensures.into_iter_gives ∙ second in
    record {
      coded = rw arguments c.requires.coded;
      asked = rw (parameters, arguments) c.requires.asked;
      gives = λ e N. none_given (context_machine g.R.Holds.answers c.args.context.now) c.args.parameters.now c.args.arguments.now e _ _ _ parameters arguments c.requires.long c.in_ok-given.ensures.items;
    }

pub given_by-requires : goal.given_by-requires
given_by-requires g c =
    let p = c.args.context.now.plan.now in
    let x = p.expressions in
    let steps = c.in-Some.ensures.steps in
    record {
      coded = All-head (IsCodedArgument x) c.in-Some.argument.now c.next.new.self.b.rest.now (rw steps.1 at c.loop-parameter.invariant.coded);
      asked = (first_asked x (plan_asks p) c.in-Some.parameter.now _ _ c.in-Some.argument.now _ _ steps.0 steps.1 c.loop-parameter.invariant.asked).0;
    }

pub loop-parameter-preserved : goal.loop-parameter-preserved
loop-parameter-preserved g c =
    let μ = context_machine g.R.Holds.answers c.args.context.now in
    let steps = c.in-Some.ensures.steps in
    record {
      coded = All-tail (IsCodedArgument μ.plan.expressions) c.in-Some.argument.now c.next.new.self.b.rest.now (rw steps.1 at c.loop-parameter.invariant.coded);
      asked = (first_asked μ.plan.expressions (plan_asks μ.plan) c.in-Some.parameter.now _ _ c.in-Some.argument.now _ _ steps.0 steps.1 c.loop-parameter.invariant.asked).1;
      gives = λ e N. next_given μ c.args.parameters.now c.args.arguments.now e _ _ _ _ c.loop-parameter.given.items
          c.in-Some.parameter.now c.in-Some.argument.now steps.0 steps.1 (c.loop-parameter.invariant.gives e N) c.args.names.now c.in_ok-given_by.field-0 _ N c.in_ok-given_by.ensures c.in_ok-push.ensures.items;
    }

pub returns-in_err-given : goal.returns-in_err-given
returns-in_err-given g c = λ e N. made_failure _ _ _ Memory c.from_residual.ensures.1 makes_nothing

pub returns-in_err-given_by : goal.returns-in_err-given_by
returns-in_err-given_by g c = λ e N.
    let μ = context_machine g.R.Holds.answers c.args.context.now in
    let steps = c.in-Some.ensures.steps in
    made_failure _ _ _ c.in_err-given_by.field-0.0 c.from_residual-in_err-given_by.ensures.1
    (next_not_given μ c.args.parameters.now c.args.arguments.now e _ _ _ _ c.loop-parameter.given.items c.in-Some.parameter.now c.in-Some.argument.now steps.0 steps.1 (c.loop-parameter.invariant.gives e N) c.args.names.now c.in_err-given_by.field-0.0 N c.in_err-given_by.ensures)

pub returns-in_err-push : goal.returns-in_err-push
returns-in_err-push g c = λ e N. made_failure _ _ _ Memory c.from_residual-in_err-push.ensures.1 makes_nothing

pub returns-in_err-of_call : goal.returns-in_err-of_call
returns-in_err-of_call g c = λ e N. made_failure _ _ _ Memory c.from_residual-in_err-of_call.ensures.1 makes_nothing

pub returns : goal.returns
returns g c = λ e N.
    let μ = context_machine g.R.Holds.answers c.args.context.now in
    all_given μ c.args.parameters.now c.args.arguments.now e _ _ c.loop-parameter.given.items c.in_ok-of_call.field-0 (c.loop-parameter.invariant.gives e N)
    (elim (c.in-None.ensures.steps) [ inl w ↦ inl w.1.0 | inr w ↦ inr w.1.0 ])
    (λ b G. c.in_ok-of_call.ensures μ b (rw c.requires.same at G))
