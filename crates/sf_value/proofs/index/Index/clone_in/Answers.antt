use Rattle.std.proofs.Common.{◌∙◌, ap, sym, subst}
use Rattle.sf_value.specs.Indexes.{keys_by_place, IsIndex}
use Rattle.sf_value.proofs.Indexes.{same_placed}
use Rattle.sf_value.proofs.index.Index.clone_in.Goals as goal

pub invariant_of-result : goal.invariant_of-result
invariant_of-result c =
    subst IsIndex (sym (same_placed c.self.inside.numbers.entries c.in_ok-numbers.numbers.entries c.self.inside.texts.entries c.in_ok-texts.texts.entries c.in_ok-numbers.ensures.cases c.in_ok-texts.ensures.cases)) c.self.invariant

pub returns : goal.returns
returns c =
    ap keys_by_place (same_placed c.self.inside.numbers.entries c.in_ok-numbers.numbers.entries c.self.inside.texts.entries c.in_ok-texts.texts.entries c.in_ok-numbers.ensures.cases c.in_ok-texts.ensures.cases) ∙ c.self.view_is
