use Rattle.std.proofs.Common.{◌≡◌, ap, sym, ◌∙◌}
use Rattle.std.proofs.lemmas.Result.{IfOk-weaker}
use Rattle.std.specs.Prelude.{unwrap_or, option_map}
use Rattle.sf_value.specs.Values.{Name, Data}
use Rattle.sf_func.specs.Registries.{AnswersByName}
use Rattle.sf_operator.specs.Outcomes.{nonsense}
use Rattle.sf_expr.specs.Expressions.{Pattern, named}
use Rattle.sf_expr.specs.Arena.{name_at}
use Rattle.sf_code.specs.Around.{pattern_around}
use Rattle.sf_code.specs.Names.{ValuesByName, value_among, scope_with}
use Rattle.sf_code.specs.Worth.{pattern_values}
use Rattle.sf_code.proofs.Named.{value_with}
use Rattle.sf_code.proofs.open.+gathered.Goals as goal

-- the value of a name is that of its pattern in the scope of the names
is_gathered : (vs : ValuesByName) (x : Name) (p : Pattern) (d : Data) → p ≡ named x → value_among vs x ≡ d → (f : AnswersByName) → d ≡ pattern_values (scope_with vs f) p
is_gathered vs x p d is found f = sym found ∙ value_with vs f x ∙ ap (pattern_values (scope_with vs f)) (sym is)

pub returns-in-Some : goal.returns-in-Some
returns-in-Some g t c =
    let j = g.N.Names.expressions c.args.names.now in
    let x = name_at j c.in-Name.name in
    let vs = g.N.Names.values c.args.names.now in
    let is : pattern_around j c.args.around.now ≡ named x = ap (pattern_around j) c.in-Name.is in
    let found : value_among vs x ≡ c.in-Some.value.now = ap (λ o. unwrap_or o nonsense) (sym c.value.ensures) ∙ ap (λ o. unwrap_or (option_map (λ v. v.now) o) nonsense) c.in-Some.is in
    IfOk-weaker c.clone_in.result _ _ (λ d same. λ f. same ∙ is_gathered vs x (pattern_around j c.args.around.now) c.in-Some.value.now is found f) c.clone_in.ensures

pub returns-in-None : goal.returns-in-None
returns-in-None g t c =
    let j = g.N.Names.expressions c.args.names.now in
    let x = name_at j c.in-Name.name in
    let vs = g.N.Names.values c.args.names.now in
    let is : pattern_around j c.args.around.now ≡ named x = ap (pattern_around j) c.in-Name.is in
    let found : value_among vs x ≡ nonsense = ap (λ o. unwrap_or o nonsense) (sym c.value.ensures) ∙ ap (λ o. unwrap_or (option_map (λ v. v.now) o) nonsense) c.in-None.is in
    λ f. c.int.ensures ∙ is_gathered vs x (pattern_around j c.args.around.now) nonsense is found f
