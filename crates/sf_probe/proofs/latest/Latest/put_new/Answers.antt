use Rattle.std.proofs.Common.{◌≡◌, Some, None, cond, sym, ◌∙◌, subst, string_bytes}
use Rattle.std.specs.String.{string_eq}
use Rattle.std.proofs.lemmas.Map.Text.{hash_map_updates_text}
use Rattle.std.specs.Str.{bytes_eq}
use Rattle.std.specs.HashMap.{get_by_text}
use Rattle.indexmap.proofs.CallerLemmas.{insert_entry-new}
use Rattle.sf_value.specs.Values.{Name}
use Rattle.sf_probe.specs.Latest.{latest_value}
use Rattle.sf_probe.proofs.Noting.{one_more, named_new}
use Rattle.sf_probe.proofs.latest.Latest.put_new.Goals as goal

pub returns-clause-ok : goal.returns-clause-ok
returns-clause-ok c = λ noted h.
    let old = c.args.self.now in
    let new = record old { values = c.insert.new.self } in
    let key = c.in_ok-key.key in
    let value = c.args.value in
    let none_named = subst (λ (n : Name). get_by_text old.values n ≡ None) (sym c.in_ok-key.ensures.ok) c.requires in
    one_more old new c.args.name.now value
    (subst (λ (n : Name). (q : Name) → latest_value q new ≡ cond (bytes_eq n q) (Some value) (latest_value q old)) c.in_ok-key.ensures.ok (hash_map_updates_text (string_bytes key) old.values new.values (Some value) c.in_ok-insert.ensures.updates))
    (named_new old c.args.name.now new.values.entries key value c.in_ok-key.ensures.ok c.requires (c.in_ok-insert.ensures.entries ∙ insert_entry-new string_eq old.values key value none_named)) noted h
