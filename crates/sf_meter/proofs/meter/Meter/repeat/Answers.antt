use Rattle.std.proofs.Common.{◌≡◌, ℕ, ◌-◌, ◌≤◌, List, ◌++◌, take, drop, refl, sym, ap, ◌∙◌, arith}
use Rattle.std.specs.List.{slice_range}
use Rattle.std.proofs.lemmas.List.{append-nil}
use Rattle.sf_meter.specs.Meters.{repeated, too_often, not_repeated, readings}
use Rattle.sf_meter.proofs.meter.Meter.repeat.Goals as goal

-- nothing was recorded
nothing_more : {A : Type 0} (rs : List A) (i j : ℕ) → j ≤ i → rs ≡ rs ++ slice_range rs i j
nothing_more rs i j none = let zero : j - i ≡ 0 = omega (arith, none) in sym (ap (λ k. rs ++ take k (drop i rs)) zero ∙ append-nil rs)

pub returns-then-spent-self : goal.returns-then-spent-self
returns-then-spent-self c = rw c.stop.ensures.fault (too_often (omega (arith, c.if-spent-self.true)) c.stop.ensures.entered c.stop.ensures.height)

pub returns-in_default : goal.returns-in_default
returns-in_default c = rw c.stop-in_default.ensures.fault (not_repeated c.stop-in_default.ensures.entered c.stop-in_default.ensures.height)

pub returns-then-spent : goal.returns-then-spent
unfolding readings
returns-then-spent c = repeated refl refl c.in-Ok.ensures

pub returns : goal.returns
unfolding readings
returns c = repeated refl refl (λ up far. nothing_more (readings c.args.self.now) c.args.spent.now.first c.args.spent.now.behind c.if-spent.false)
