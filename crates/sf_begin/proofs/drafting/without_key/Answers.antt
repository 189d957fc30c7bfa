use Rattle.std.proofs.Common.{◌≡◌, Some, sym, ◌∙◌}
use Rattle.sf_value.specs.Keys.{key_of, key_index}
use Rattle.sf_begin.specs.declared.drafting.Draft.{Draft}
use Rattle.sf_begin.proofs.Drafts.{place_dropped, place_missing}
use Rattle.sf_begin.proofs.drafting.without_key.Goals as goal

pub returns-in-Some : goal.returns-in-Some
returns-in-Some c = λ μ bs w ms G.
    let k = key_of c.args.key.now in
    let at : key_index k c.args.made.keys ≡ Some c.in-Some.at = sym c.place.ensures ∙ c.in-Some.is in
    let y : Draft = record { keys = c.remove.new.self; changes = c.push.new.self } in
    place_dropped μ bs w c.args.made y k c.in-Some.at at c.remove.ensures c.in_ok-push.ensures.items ms G

pub returns : goal.returns
returns c = λ μ bs w ms G.
    let k = key_of c.args.key.now in
    place_missing μ bs w c.args.made k (sym c.place.ensures ∙ c.in_default.is) ms G
