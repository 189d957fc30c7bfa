use Rattle.std.proofs.Common.{◌∙◌, length, ap, sym}
use Rattle.std.proofs.lemmas.List.{length-map}
use Rattle.sf_value.specs.Keys.{key_of}
use Rattle.sf_value.proofs.keys.Keys.len.Goals as goal

pub returns : goal.returns
returns c = c.len.ensures ∙ c.self.inside.list.ok.0 ∙ sym (length-map c.self.inside.list.items key_of) ∙ ap length c.self.view_is
