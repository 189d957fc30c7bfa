use Rattle.std.proofs.Common.{refl, arith}
use Rattle.sf_expr.proofs.Entered.{adds_pattern_put, unchanged, arena_put_pattern, patterns_put, on_any_err}
use Rattle.sf_expr.proofs.exprs.Exprs.pattern_in.Goals as goal

pub invariant_of-self : goal.invariant_of-self
invariant_of-self c =
    let x = c.args.self.now in
    record {
      ordered = arena_put_pattern _ _ x.patterns.items c.push.new.self.items _ _ _ c.push.ensures.items x.ordered;
      shallow = patterns_put x.patterns.items c.push.new.self.items _ _ c.push.ensures.items x.shallow (omega (arith, c.depth.ensures));
      valued = x.valued;
      closed = x.closed;
    }

pub returns-in_err-push-clause-err : goal.returns-in_err-push-clause-err
returns-in_err-push-clause-err c = on_any_err _ (unchanged c.args.self.now _ refl refl refl c.in_err-push.ensures.items refl)

pub returns-clause-ok : goal.returns-clause-ok
returns-clause-ok c =
    adds_pattern_put c.args.self.now _ _ _ (record { next = omega (arith, c.args.self.now.patterns.ok.0); grown = c.in_ok-push.ensures.items }) refl refl refl refl
