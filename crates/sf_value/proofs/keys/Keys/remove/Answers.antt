use Rattle.std.proofs.Common.{◌∙◌, ◌≤◌, length, ap, sym, arith}
use Rattle.std.proofs.lemmas.List.{length-map}
use Rattle.std.specs.List.{remove}
use Rattle.sf_value.specs.Keys.{key_of}
use Rattle.sf_value.proofs.Listing.{keys_removed, removed_listed, none_removed}
use Rattle.sf_value.proofs.keys.Keys.remove.Goals as goal

pub returns-then-place-len : goal.returns-then-place-len
returns-then-place-len c =
    let past : length c.args.self.now ≤ c.args.place = omega (arith, c.if-place-len.true, c.len.ensures, c.self.inside.list.ok.0, length-map c.self.inside.list.items key_of, ap length c.self.view_is) in
    sym (none_removed c.args.self.now c.args.place past)

pub invariant_of-self : goal.invariant_of-self
invariant_of-self c = removed_listed c.self.inside.list.items _ c.self.inside.index _ c.args.place c.remove.ensures.items c.remove_from.ensures c.self.invariant

pub returns : goal.returns
returns c = keys_removed _ _ c.args.place c.remove.ensures.items ∙ ap (λ ks. remove ks c.args.place) c.self.view_is
