use Rattle.std.proofs.Common.{sym, ap, ◌∙◌}
use Rattle.std.proofs.lemmas.Result.{IfOk-weaker}
use Rattle.sf_value.specs.Keys.{key_of, key_index}
use Rattle.sf_begin.proofs.Places.{member_missing}
use Rattle.sf_begin.proofs.placing.without_member.Goals as goal

pub returns-in-Some : goal.returns-in-Some
returns-in-Some c = IfOk-weaker c.without_place.result _ _ (λ left h μ ms G.
    let k = key_of c.args.key.now in
    h μ k ms (ap (key_index k) (sym c.deref.ensures) ∙ sym c.place.ensures ∙ c.in-Some.is) G) c.without_place.ensures

pub returns-in-None : goal.returns-in-None
returns-in-None c = λ μ ms G.
    let k = key_of c.args.key.now in
    member_missing μ c.args.members k (ap (key_index k) (sym c.deref.ensures) ∙ sym c.place.ensures ∙ c.in-None.is) ms G
