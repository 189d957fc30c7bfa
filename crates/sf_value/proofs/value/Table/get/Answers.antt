use Rattle.std.proofs.Common.{◌≡◌, ◌<◌, ◌∙◌, ap, sym, Some, rules, subst}
use Rattle.std.specs.Option.{option_map}
use Rattle.sf_value.specs.View.{key_of}
use Rattle.sf_value.specs.Keys.{key_index}
use Rattle.sf_value.proofs.Indexes.{some_place}
use Rattle.sf_value.proofs.Under.{none_under, value_at_place}
use Rattle.sf_value.proofs.value.Table.get.Goals as goal

pub returns-in_err-place : goal.returns-in_err-place
returns-in_err-place c =
    let none = ap (key_index (key_of c.args.key.now)) (sym c.deref.ensures) ∙ sym c.in_err-place.ensures in
    ap (option_map (λ v. v.now)) c.from_residual.ensures ∙ sym (none_under (key_of c.args.key.now) c.args.self.now.keys.value c.args.self.now.values.items none)

pub index-requires : goal.index-requires
index-requires c =
    let some : key_index (key_of c.args.key.now) c.args.self.now.keys.value ≡ Some c.in_ok-place.place = ap (key_index (key_of c.args.key.now)) (sym c.deref.ensures) ∙ sym c.in_ok-place.ensures in
    let below = subst (λ n. c.in_ok-place.place < n) c.requires (some_place (key_of c.args.key.now) c.args.self.now.keys.value c.in_ok-place.place some) in
    search rules

pub returns : goal.returns
returns c =
    let some : key_index (key_of c.args.key.now) c.args.self.now.keys.value ≡ Some c.in_ok-place.place = ap (key_index (key_of c.args.key.now)) (sym c.deref.ensures) ∙ sym c.in_ok-place.ensures in
    ap Some c.index.ensures ∙ sym (value_at_place (key_of c.args.key.now) c.args.self.now.keys.value c.args.self.now.values.items c.in_ok-place.place _ some c.requires)
