use Rattle.std.proofs.Common.{◌≡◌, ℕ, ◌-◌, List, ◌++◌, map, take, drop, Result, Ok, Err, sym, ap, ◌∙◌}
use Rattle.std.specs.Prelude.{OnOk}
use Rattle.std.specs.List.{slice_range}
use Rattle.std.proofs.lemmas.List.{take-map, drop-map}
use Rattle.sf_probe.specs.Readings.{reading_of, probe_readings}
use Rattle.sf_meter.proofs.meter.record_again.Goals as goal

on_ok : {A E P Q : Type 0} (r : Result A E) → (P → Q) → OnOk r P → OnOk r Q
on_ok (Ok a) f h = f h
on_ok (Err e) f h = tt

map_part : {A B : Type 0} (f : A → B) (xs : List A) (i j : ℕ) → map f (slice_range xs i j) ≡ slice_range (map f xs) i j
map_part f xs i j = sym (take-map f (j - i) (drop i xs)) ∙ ap (take (j - i)) (sym (drop-map f i xs))

pub returns : goal.returns
returns c = on_ok c.copy_readings-2.result (λ same up far.
    let i = c.args.spent.now.first in
    let j = c.args.spent.now.behind in
    let items = c.as_slice-items.result.now in
    same ∙ ap (λ rs. probe_readings c.args.readings.now ++ rs)
    (c.as_slice.ensures ∙ c.in_ok-copy_readings.ensures ∙ ap (λ rs. rs ++ map reading_of (slice_range items i j)) c.new-more.ensures ∙ map_part reading_of items i j ∙ ap (λ rs. slice_range rs i j) c.as_slice-items.ensures)) c.copy_readings-2.ensures
