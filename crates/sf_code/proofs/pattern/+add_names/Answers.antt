use Rattle.std.proofs.Common.{◌≡◌, ◌∙◌, ◌||◌, ap, sym, is_some, string_bytes}
use Rattle.std.proofs.lemmas.Map.Text.{btree_map_updates_text}
use Rattle.std.specs.BTreeMap.{get_by_text}
use Rattle.sf_value.specs.Values.{Name}
use Rattle.sf_expr.specs.Expressions.{named}
use Rattle.sf_expr.specs.PatternView.{pattern_placed}
use Rattle.sf_expr.specs.Patterns.{PlacedPattern, placed_name, pattern_of}
use Rattle.sf_code.specs.Compiling.{path_of_name}
use Rattle.sf_code.proofs.Indexed.{name_added}
use Rattle.sf_code.proofs.pattern.+add_names.Goals as goal

pub returns-in_ok-insert-in-Name : goal.returns-in_ok-insert-in-Name
returns-in_ok-insert-in-Name t c = λ x.
    let put : string_bytes c.in_ok-from_str-in-Name.field-0 ≡ string_bytes c.in-Name.own = c.in_ok-from_str-in-Name.ensures.ok ∙ c.as_str.ensures.value in
    let whole : c.args.pattern.now ≡ placed_name (string_bytes c.in-Name.own) c.in-Name.field-1 = sym c.form.ensures ∙ ap pattern_placed c.in-Name.is in
    let others = get_by_text c.args.names.now x in
    name_added others (get_by_text c.insert.new.self x) tt x (string_bytes c.in_ok-from_str-in-Name.field-0) (btree_map_updates_text _ c.args.names.now c.insert.new.self _ c.in_ok-insert-in-Name.ensures.updates x)
    ∙ ap (λ (own : Name). is_some (path_of_name x (named own)) || is_some others) put
    ∙ ap (λ (p : PlacedPattern). is_some (path_of_name x (pattern_of p)) || is_some others) (sym whole)
