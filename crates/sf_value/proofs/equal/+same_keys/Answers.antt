use Rattle.sf_value.specs.View.{key_of}
use Rattle.sf_value.proofs.Comparing.{empty_apart}
use Rattle.sf_value.proofs.equal.+same_keys.Goals as goal
use Rattle.std.proofs.Common.{◌<◌, ◌≤◌, length, arith}

pub returns-in-len1-up-b : goal.returns-in-len1-up-b
returns-in-len1-up-b t c =
    let none : length c.args.a.now < 1 = omega arith in
    let some : 1 ≤ length c.args.b.now = omega arith in
    (λ h. cc, λ e. absurd (empty_apart key_of _ _ none some e))
