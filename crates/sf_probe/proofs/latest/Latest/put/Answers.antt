use Rattle.std.proofs.Common.{◌≡◌, ◌++◌, List, [], ◌∷◌, Some, None, sym, ap, subst, is_some, rules}
use Rattle.std.specs.Prelude.{OnOk, OnErr}
use Rattle.std.proofs.lemmas.Map.Text.{hash_map_updates_text}
use Rattle.std.specs.HashMap.{get_by_text}
use Rattle.sf_value.specs.Values.{Name, Data}
use Rattle.sf_probe.specs.Latest.{HasNoted}
use Rattle.sf_probe.proofs.Noting.{one_more, named_there}
use Rattle.sf_probe.proofs.latest.Latest.put.Goals as goal

pub returns-in-Some-clause-ok : goal.returns-in-Some-clause-ok
returns-in-Some-clause-ok c = λ noted h.
    let put = c.in_ok-copy.copy in
    let new = c.get_mut.follows.lender put in
    let written = c.get_mut.follows.holds put in
    let there = ap is_some (sym c.in-Some.ensures.value) in
    subst (λ (v : Data). HasNoted (record { alloc = c.args.self.now.alloc; values = new }) (noted ++ (c.args.name.now, v) ∷ [])) c.in_ok-copy.ensures
    (one_more c.args.self.now (record { alloc = c.args.self.now.alloc; values = new }) c.args.name.now put
    (hash_map_updates_text c.args.name.now c.args.self.now.values new (Some put) (written.3 (search rules)))
    (named_there c.args.self.now c.args.name.now new.entries there written.1) noted h)

pub put_new-requires : goal.put_new-requires
put_new-requires c = subst (λ m. get_by_text m c.args.name.now ≡ None) (sym c.get_mut.follows.holds-at-none) (sym c.in_default.ensures.value)

pub returns-clause-ok : goal.returns-clause-ok
returns-clause-ok c =
    let lent = subst (λ m. OnOk c.put_new.result ((noted : List (Name × Data)) → HasNoted (record { alloc = c.args.self.now.alloc; values = m }) noted → HasNoted c.put_new.new.self (noted ++ (c.args.name.now, c.in_ok-copy.copy) ∷ []))) c.get_mut.follows.holds-at-none c.put_new.ensures.ok in
    subst (λ (v : Data). OnOk c.put_new.result ((noted : List (Name × Data)) → HasNoted c.args.self.now noted → HasNoted c.put_new.new.self (noted ++ (c.args.name.now, v) ∷ []))) c.in_ok-copy.ensures lent

pub returns-clause-err : goal.returns-clause-err
returns-clause-err c = subst (λ m. OnErr c.put_new.result ((noted : List (Name × Data)) → HasNoted (record { alloc = c.args.self.now.alloc; values = m }) noted → HasNoted c.put_new.new.self noted)) c.get_mut.follows.holds-at-none c.put_new.ensures.err
