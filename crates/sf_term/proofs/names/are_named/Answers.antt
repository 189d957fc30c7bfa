use Rattle.std.proofs.Common.{◌∙◌, ℕ, List, refl, subst}
use Rattle.std.proofs.lemmas.List.{take_all}
use Rattle.std.proofs.lemmas.List.Elements.{All-more}
use Rattle.sf_lex.specs.Words.{IsName}
use Rattle.sf_term.specs.Parameters.{PlacedParameter}
use Rattle.sf_term.specs.Names.{AreNamed}
use Rattle.sf_term.proofs.names.are_named.Goals as goal

pub loop-parameter-preserved : goal.loop-parameter-preserved
loop-parameter-preserved c =
    let P : PlacedParameter → Type 0 = λ q. IsName q.name in
    let named = subst (λ (x : List ℕ). IsName x) (c.as_bytes.ensures.value ∙ c.name.ensures) (c.is_name.ensures.0 c.if-not-is_name.false) in
    All-more P c.args.parameters.now c.loop-parameter.parameter-index c.parameter-item.result c.loop-parameter-test.true c.loop-parameter.invariant (subst P c.parameter-item.is named)

pub returns : goal.returns
returns c = (λ h. subst AreNamed (take_all c.loop-parameter.parameter-index c.args.parameters.now c.loop-parameter-test.false) c.loop-parameter.invariant, λ h. refl)
