use Rattle.std.proofs.Common.{◌≡◌, ap, ◌∙◌, inl, inr}
use Rattle.std.proofs.lemmas.List.Elements.{All-head, All-tail}
use Rattle.sf_value.specs.declared.fault.Fault.TheVariants.{Memory}
use Rattle.sf_law.specs.Entries.{BindsName, IsCodedArgument}
use Rattle.sf_law.specs.Arena.{plan_asks}
use Rattle.sf_state.specs.Standing.{is_empty}
use Rattle.sf_begin.specs.Contexts.{context_machine}
use Rattle.sf_begin.specs.Beginning.{makes_nothing}
use Rattle.sf_begin.proofs.Arguments.{first_asked, none_bound, next_bound, next_fails, all_bound, made_failure}
use Rattle.sf_begin.proofs.calling.one_inside_another.Goals as goal

pub loop-parameter-init : goal.loop-parameter-init
loop-parameter-init g c =
    let second : c.zip-parameter-items.result.b.rest.now ≡ c.args.arguments.now = c.zip-parameter-items.ensures.second.0 in
    let parameters : c.into_iter-parameter-iterator.result.a.rest.now ≡ c.args.parameters.now =
    ap (λ z. z.a.rest.now) c.into_iter-parameter-iterator.ensures.into_iter_gives ∙ ap (λ z. z.rest.now) c.zip-parameter-items.ensures.first ∙ c.iter.ensures.rest in
    let arguments : c.into_iter-parameter-iterator.result.b.rest.now ≡ c.args.arguments.now = ap (λ z. z.b.rest.now) c.into_iter-parameter-iterator.ensures.into_iter_gives ∙ second in
    record {
      named = rw parameters c.requires.bound;
      coded = rw arguments c.requires.coded;
      asked = rw (parameters, arguments) c.requires.asked;
      binds = λ e N. none_bound (context_machine g.R.Holds.answers c.args.context.now) c.args.parameters.now c.args.arguments.now e _ _ _ parameters arguments is_empty;
    }

pub given_by-requires : goal.given_by-requires
given_by-requires g c =
    let p = c.args.context.now.plan.now in
    let x = p.expressions in
    let steps = c.in-Some.ensures.steps in
    record {
      coded = All-head (IsCodedArgument x) c.in-Some.argument.now c.next.new.self.b.rest.now (rw steps.1 at c.loop-parameter.invariant.coded);
      asked = (first_asked x (plan_asks p) c.in-Some.parameter.now _ _ c.in-Some.argument.now _ _ steps.0 steps.1 c.loop-parameter.invariant.asked).0;
    }

pub bind-requires : goal.bind-requires
bind-requires g c =
    let x = c.args.context.now.plan.now.expressions in
    All-head (BindsName x) c.in-Some.parameter.now c.next.new.self.a.rest.now (rw c.in-Some.ensures.steps.0 at c.loop-parameter.invariant.named)

pub loop-parameter-preserved : goal.loop-parameter-preserved
loop-parameter-preserved g c =
    let μ = context_machine g.R.Holds.answers c.args.context.now in
    let steps = c.in-Some.ensures.steps in
    record {
      named = All-tail (BindsName μ.plan.expressions) c.in-Some.parameter.now c.next.new.self.a.rest.now (rw steps.0 at c.loop-parameter.invariant.named);
      coded = All-tail (IsCodedArgument μ.plan.expressions) c.in-Some.argument.now c.next.new.self.b.rest.now (rw steps.1 at c.loop-parameter.invariant.coded);
      asked = (first_asked μ.plan.expressions (plan_asks μ.plan) c.in-Some.parameter.now _ _ c.in-Some.argument.now _ _ steps.0 steps.1 c.loop-parameter.invariant.asked).1;
      binds = λ e N. next_bound μ c.args.parameters.now c.args.arguments.now e _ _ _ _ c.loop-parameter.bound
          c.in-Some.parameter.now c.in-Some.argument.now steps.0 steps.1 (c.loop-parameter.invariant.binds e N) c.args.names.now c.in_ok-given.given c.in_ok-bound.bound N c.in_ok-given.ensures (c.in_ok-bound.ensures μ.answers);
    }

pub returns-in_err-given : goal.returns-in_err-given
returns-in_err-given g c = λ e N.
    let μ = context_machine g.R.Holds.answers c.args.context.now in
    let steps = c.in-Some.ensures.steps in
    made_failure _ _ _ c.in_err-given.field-0.0 c.from_residual.ensures.1
    (next_fails μ c.args.parameters.now c.args.arguments.now e _ _ _ _ c.loop-parameter.bound c.in-Some.parameter.now c.in-Some.argument.now steps.0 steps.1 (c.loop-parameter.invariant.binds e N) c.args.names.now c.in_err-given.field-0.0 N c.in_err-given.ensures)

pub returns-in_err-bound : goal.returns-in_err-bound
returns-in_err-bound g c = λ e N. made_failure _ _ _ Memory c.from_residual-in_err-bound.ensures.1 makes_nothing

pub returns : goal.returns
returns g c = λ e N.
    let μ = context_machine g.R.Holds.answers c.args.context.now in
    all_bound μ c.args.parameters.now c.args.arguments.now e _ _ c.loop-parameter.bound (c.loop-parameter.invariant.binds e N)
    (elim (c.in-None.ensures.steps) [ inl w ↦ inl w.1.0 | inr w ↦ inr w.1.0 ])
