use Rattle.std.proofs.Common.{◌∙◌, ap, sym}
use Rattle.sf_value.specs.View.{key_of}
use Rattle.sf_value.specs.Keys.{key_index}
use Rattle.sf_value.specs.Indexes.{found_place, placed}
use Rattle.sf_value.proofs.Indexes.{number_place, text_place}
use Rattle.sf_value.proofs.index.Index.place.Goals as goal

pub returns-in-Int : goal.returns-in-Int
returns-in-Int c =
    c.copied.ensures ∙ c.get.ensures.value ∙ sym (number_place c.in-Int.n c.self.inside.numbers.entries c.self.inside.texts.entries)
    ∙ ap (λ k. found_place (key_of k) (placed c.self.inside.numbers.entries c.self.inside.texts.entries)) (sym c.in-Int.is) ∙ c.self.invariant.places (key_of c.args.key.now) ∙ ap (key_index (key_of c.args.key.now)) c.self.view_is

pub returns-in-Text : goal.returns-in-Text
returns-in-Text c =
    c.copied-in-Text.ensures ∙ c.get-in-Text.ensures.value ∙ sym (text_place c.in-Text.s c.self.inside.numbers.entries c.self.inside.texts.entries)
    ∙ ap (λ k. found_place (key_of k) (placed c.self.inside.numbers.entries c.self.inside.texts.entries)) (sym c.in-Text.is) ∙ c.self.invariant.places (key_of c.args.key.now) ∙ ap (key_index (key_of c.args.key.now)) c.self.view_is
