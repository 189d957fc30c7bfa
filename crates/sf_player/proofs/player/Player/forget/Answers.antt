use Rattle.std.proofs.Common.{◌≡◌, ◌+◌, ◌-◌, length, take, drop, refl, ap, ◌∙◌, arith, rules, length-drop, take_all}
use lib.Seq.{paste}
use Rattle.std.proofs.lemmas.List.Edits.{take-paste}
use Rattle.sf_player.proofs.player.Player.forget.Goals as goal

pub returns : goal.returns
returns g c =
    let all = c.args.self.now.out.items in
    let count = c.args.count in
    let left = c.len-len.result - count in
    let long : length all ≡ c.len-len.result = search rules in
    let same : left ≡ 0 + left = omega arith in
    let rest : length (drop count all) ≡ left = omega (arith, length-drop count all) in
    record {
      left =
          c.truncate.ensures.items ∙ ap (take left) c.copy_within.ensures.items ∙ ap (λ k. take k (paste all 0 (drop count all) left)) same
          ∙ take-paste all 0 (drop count all) left (omega arith) (omega arith) ∙ take_all left (drop count all) (omega arith);
      cutter = refl;
      engine = refl;
      taken = refl;
      probes = refl;
    }
