use Rattle.std.proofs.Common.{◌≡◌, ℕ, suc, List, ◌++◌, ◌≤◌, length, sym, ap₂, ◌∙◌, arith}
use Rattle.std.specs.List.{remove}
use Rattle.std.proofs.Math.Seq.{take_all}
use Rattle.std.proofs.Math.ListN.{drop_of_length-le}
use Rattle.std.proofs.lemmas.List.{append-nil}
use Rattle.sf_begin.proofs.placing.take_out.Goals as goal

remove_past : {A : Type 0} (xs : List A) (i : ℕ) → length xs ≤ i → remove xs i ≡ xs
remove_past xs i far = ap₂ (λ ys zs. ys ++ zs) (take_all i xs far) (drop_of_length-le xs {i = suc i} (omega (arith, far))) ∙ append-nil xs

pub returns-else-at-len : goal.returns-else-at-len
returns-else-at-len g c = sym (remove_past c.args.items.now.items c.args.at (omega (arith, c.if-at-len.false, c.len.ensures)))
