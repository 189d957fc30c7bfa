use Rattle.std.proofs.Common.{◌≡◌, sym, ◌∙◌}
use Rattle.sf_value.specs.View.{key_of}
use Rattle.sf_value.proofs.Sought.{key_found, key_passed, other_key}
use Rattle.sf_value.proofs.keys.place_among.Goals as goal

pub returns-then-same_key : goal.returns-then-same_key
returns-then-same_key c =
    let same : key_of c.args.key.now ≡ key_of c.index-keys-at.result = sym (c.same_key.ensures.0 c.if-same_key.true) in
    sym (c.loop-at.invariant ∙ key_found (key_of c.args.key.now) c.args.keys.now c.loop-at.at c.index-keys-at.result c.loop-at-test.true c.index-keys-at.is same)

pub loop-at-preserved : goal.loop-at-preserved
loop-at-preserved c =
    let other = other_key (key_of c.args.key.now) (key_of c.index-keys-at.result) (λ e. let t = c.same_key.ensures.1 (sym e) in let f = sym c.if-same_key.false ∙ t in cc) in
    c.loop-at.invariant ∙ key_passed (key_of c.args.key.now) c.args.keys.now c.loop-at.at c.index-keys-at.result c.loop-at-test.true c.index-keys-at.is other
