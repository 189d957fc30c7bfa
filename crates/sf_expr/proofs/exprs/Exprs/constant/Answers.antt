use Rattle.std.proofs.Common.{refl, arith}
use Rattle.sf_expr.proofs.Entered.{adds_constant_put, unchanged, arena_put_constant, literals_put, on_any_err}
use Rattle.sf_expr.proofs.exprs.Exprs.constant.Goals as goal

pub invariant_of-self : goal.invariant_of-self
invariant_of-self c =
    let x = c.args.self.now in
    record {
      ordered = arena_put_constant _ x.constants.items c.push.new.self.items _ _ _ _ c.push.ensures.items x.ordered;
      valued = literals_put x.constants.items c.push.new.self.items _ _ c.push.ensures.items x.valued c.form-valued.ensures.valued;
      closed = x.closed;
      shallow = x.shallow;
    }

pub returns-in_err-push-clause-err : goal.returns-in_err-push-clause-err
returns-in_err-push-clause-err c = on_any_err _ (unchanged c.args.self.now _ refl refl c.in_err-push.ensures.items refl refl)

pub returns-clause-ok : goal.returns-clause-ok
returns-clause-ok c =
    adds_constant_put c.args.self.now _ _ _ (record { next = omega (arith, c.args.self.now.constants.ok.0); grown = c.in_ok-push.ensures.items }) refl refl refl refl
