use Rattle.std.proofs.Common.{◌∙◌, ◌+◌, ap, sym, length}
use Rattle.sf_value.proofs.Indexes.{length_keys, length_placed}
use Rattle.sf_value.proofs.index.Index.len.Goals as goal

pub returns-clause-len : goal.returns-clause-len
returns-clause-len c =
    ap (λ n. n + c.len-2.result) c.len.ensures.len ∙ ap (λ n. length c.self.inside.numbers.entries + n) c.len-2.ensures.len
    ∙ sym (length_placed c.self.inside.numbers.entries c.self.inside.texts.entries) ∙ sym (length_keys _) ∙ ap length c.self.view_is
