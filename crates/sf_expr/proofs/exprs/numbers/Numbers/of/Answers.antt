use Rattle.std.proofs.Common.{ℕ, List, [], subst}
use Rattle.std.specs.Prelude.{slice_index_or}
use Rattle.std.specs.List.{AllZip}
use Rattle.sf_value.specs.Values.{Name}
use Rattle.sf_expr.specs.declared.exprs.numbers.NumberedPattern.{NumberedPattern}
use Rattle.sf_expr.specs.declared.exprs.numbers.NumberedPattern.TheVariants.{Unnamed}
use Rattle.sf_expr.specs.Patterns.{PlacedPattern, placed_unnamed, pattern_of}
use Rattle.sf_expr.specs.Arena.{name_at, stored_pattern}
use Rattle.sf_expr.specs.Numbered.{number_at, numbered_pattern, IsNumber, IsNumbered}
use Rattle.sf_expr.proofs.Numbered.{told, pattern_told, pairs_still, pair_at}
use Rattle.sf_expr.proofs.exprs.numbers.Numbers.of.Goals as goal

pub returns : goal.returns
unfolding name_at stored_pattern number_at numbered_pattern
returns c =
    let x = c.args.exprs.now in
    let ks = c.numbered_each.new.texts.keys in
    let js = c.numbers_of.new.texts.keys in
    let numbers = c.in_ok-names.names.items in
    let each = c.in_ok-patterns.patterns.items in
    let empty = c.in_ok-patterns.ensures.kept [] _ (c.in_ok-names.ensures.kept [] _ c.in_ok-empty.ensures.given) in
    let names = pairs_still (IsNumber js) (IsNumber ks) c.in_ok-patterns.ensures.kept c.deref.result.now numbers c.in_ok-names.ensures.given in
    let all = subst (λ (ns : List Name). AllZip (IsNumber ks) ns numbers) c.deref.ensures.value names in
    let number : (i : ℕ) → IsNumber ks (slice_index_or x.names.items i []) (slice_index_or numbers i c.in_ok-empty.empty) = λ i. pair_at (IsNumber ks) x.names.items numbers i [] c.in_ok-empty.empty all empty in
    let shapes = subst (λ (ps : List PlacedPattern). AllZip (λ (p : PlacedPattern) (s : NumberedPattern). IsNumbered ks (pattern_of p) s) ps each) c.deref-2.ensures.value c.in_ok-patterns.ensures.given in
    let spelled : (i : ℕ) → IsNumbered ks (pattern_of (slice_index_or x.patterns.items i placed_unnamed)) (slice_index_or each i Unnamed) =
    λ i. pair_at (λ (p : PlacedPattern) (s : NumberedPattern). IsNumbered ks (pattern_of p) s) x.patterns.items each i placed_unnamed Unnamed shapes tt in
    record {
      names = λ j k. told ks _ _ _ _ (number j.0) (number k.0);
      patterns = λ k q. pattern_told ks _ _ (number k.0) _ _ (spelled q.0);
    }
