use Rattle.std.proofs.Common.{◌∙◌, ap, sym, subst}
use Rattle.std.specs.List.{remove}
use Rattle.sf_value.specs.Indexes.{placed, keys_by_place, IsIndex}
use Rattle.sf_value.proofs.Removing.{both_without, keys_without, index_without}
use Rattle.sf_value.proofs.index.Index.remove.Goals as goal

pub invariant_of-self : goal.invariant_of-self
invariant_of-self c =
    let ns = c.self.inside.numbers.entries in
    let ts = c.self.inside.texts.entries in
    subst IsIndex (sym (both_without c.args.place ns c.take_out.new.places.entries ts c.take_out-2.new.places.entries c.take_out.ensures c.take_out-2.ensures)) (index_without c.args.place (placed ns ts) c.self.invariant)

pub returns : goal.returns
returns c =
    let ns = c.self.inside.numbers.entries in
    let ts = c.self.inside.texts.entries in
    ap keys_by_place (both_without c.args.place ns c.take_out.new.places.entries ts c.take_out-2.new.places.entries c.take_out.ensures c.take_out-2.ensures)
    ∙ keys_without c.args.place (placed ns ts) c.self.invariant ∙ ap (λ ks. remove ks c.args.place) c.self.view_is
