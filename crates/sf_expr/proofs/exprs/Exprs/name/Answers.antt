use Rattle.std.proofs.Common.{refl, arith, ap, ◌∙◌, [], ◌∷◌, ◌++◌}
use Rattle.sf_value.specs.Values.{Name}
use Rattle.sf_expr.proofs.Entered.{adds_name_put, unchanged, arena_put_name, on_any_err}
use Rattle.sf_expr.proofs.exprs.Exprs.name.Goals as goal

pub invariant_of-self : goal.invariant_of-self
invariant_of-self c =
    let x = c.args.self.now in
    record {
      ordered = arena_put_name x.names.items c.push.new.self.items _ _ _ _ _ c.push.ensures.items x.ordered;
      closed = x.closed;
      valued = x.valued;
      shallow = x.shallow;
    }

pub returns-in_err-push-clause-err : goal.returns-in_err-push-clause-err
returns-in_err-push-clause-err c = on_any_err _ (unchanged c.args.self.now _ refl c.in_err-push.ensures.items refl refl refl)

pub returns-clause-ok : goal.returns-clause-ok
returns-clause-ok c =
    adds_name_put c.args.self.now _ _ _ (record { next = omega (arith, c.args.self.now.names.ok.0); grown = c.in_ok-push.ensures.items ∙ ap (λ (y : Name). c.args.self.now.names.items ++ y ∷ []) c.new.ensures }) refl refl refl refl
