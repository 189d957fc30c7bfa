use Rattle.std.proofs.Common.{refl, arith}
use Rattle.sf_expr.specs.Arena.{Holds}
use Rattle.sf_expr.proofs.Entered.{adds_function_put, unchanged, functions_put, on_any_err}
use Rattle.sf_expr.proofs.exprs.Exprs.function.Goals as goal

pub invariant_of-self : goal.invariant_of-self
unfolding Holds
invariant_of-self c =
    let x = c.args.self.now in
    record {
      ordered = x.ordered;
      closed = functions_put _ x.functions.items c.push.new.self.items (record { pattern = c.args.pattern; body = c.args.body }) _ c.push.ensures.items x.closed c.requires (omega (arith, c.depth.ensures));
      valued = x.valued;
      shallow = x.shallow;
    }

pub returns-in_err-push-clause-err : goal.returns-in_err-push-clause-err
returns-in_err-push-clause-err c = on_any_err _ (unchanged c.args.self.now _ refl refl refl refl c.in_err-push.ensures.items)

pub returns-clause-ok : goal.returns-clause-ok
returns-clause-ok c = adds_function_put c.args.self.now _ (record { pattern = c.args.pattern; body = c.args.body }) _ (record { next = omega (arith, c.args.self.now.functions.ok.0); grown = c.in_ok-push.ensures.items }) refl refl refl refl
