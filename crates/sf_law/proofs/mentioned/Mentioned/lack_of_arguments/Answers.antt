use Rattle.std.proofs.Common.{◌≡◌, IsTrue, sym, ap, ◌∙◌, inl, inr}
use Rattle.sf_expr.specs.Arena.{name_at}
use Rattle.sf_law.specs.Arena.{plan_expressions}
use Rattle.sf_law.specs.Mentioned.{is_mentioned}
use Rattle.sf_law.specs.Asking.{argument_asked, arguments_asked}
use Rattle.sf_law.proofs.Enough.{arguments_same, next_asked, parts_asked, none_asked, lack_within, no_lack}
use Rattle.sf_law.proofs.mentioned.Mentioned.lack_of_arguments.Goals as goal

pub loop-parameter-init : goal.loop-parameter-init
loop-parameter-init c =
    let second : c.zip-parameter-items.result.b.rest.now ≡ c.args.arguments.now = c.zip-parameter-items.ensures.second.0 in
    let parameters : c.into_iter-parameter-iterator.result.a.rest.now ≡ c.args.parameters.now =
    ap (λ z. z.a.rest.now) c.into_iter-parameter-iterator.ensures.into_iter_gives ∙ ap (λ z. z.rest.now) c.zip-parameter-items.ensures.first ∙ c.iter.ensures.rest in
    let arguments : c.into_iter-parameter-iterator.result.b.rest.now ≡ c.args.arguments.now = ap (λ z. z.b.rest.now) c.into_iter-parameter-iterator.ensures.into_iter_gives ∙ second in
    record {
      enough = λ h. arguments_same (plan_expressions c.args.plan.now) (is_mentioned (plan_expressions c.args.plan.now) c.args.self.now) _ _ _ _ parameters arguments h;
      left = λ asks h. arguments_same (plan_expressions c.args.plan.now) asks _ _ _ _ (sym parameters) (sym arguments) h;
    }

pub loop-parameter-preserved : goal.loop-parameter-preserved
loop-parameter-preserved c =
    let x = plan_expressions c.args.plan.now in
    let m = c.args.self.now in
    let q = c.in-Some.parameter.now in
    let v = c.in-Some.argument.now in
    let steps = c.in-Some.ensures.steps in
    let here = no_lack x m (λ asks. IsTrue (argument_asked x asks (name_at x q.name) v)) c.lack_of_argument-lack.result (sym c.is_some.ensures ∙ c.if-is_some.false) c.lack_of_argument-lack.ensures in
    record {
      enough = λ h. c.loop-parameter.invariant.enough (next_asked x (is_mentioned x m) q _ _ v _ _ steps.0 steps.1 here h);
      left = λ asks h. (parts_asked x asks q _ _ v _ _ steps.0 steps.1 (c.loop-parameter.invariant.left asks h)).1;
    }

pub returns-then-is_some : goal.returns-then-is_some
returns-then-is_some c =
    let x = plan_expressions c.args.plan.now in
    let q = c.in-Some.parameter.now in
    let v = c.in-Some.argument.now in
    let steps = c.in-Some.ensures.steps in
    lack_within x c.args.self.now (λ asks. IsTrue (argument_asked x asks (name_at x q.name) v)) (λ asks. IsTrue (arguments_asked x asks c.args.parameters.now c.args.arguments.now)) c.lack_of_argument-lack.result
    (sym c.is_some.ensures ∙ c.if-is_some.true) (λ asks h. (parts_asked x asks q _ _ v _ _ steps.0 steps.1 (c.loop-parameter.invariant.left asks h)).0) c.lack_of_argument-lack.ensures

pub returns : goal.returns
returns c = c.loop-parameter.invariant.enough (none_asked (plan_expressions c.args.plan.now) (is_mentioned (plan_expressions c.args.plan.now) c.args.self.now) _ _ (elim (c.in-None.ensures.steps) [ inl w ↦ inl w.1.0 | inr w ↦ inr w.1.0 ]))
