use Rattle.std.proofs.Common.{refl, arith}
use Rattle.sf_arena.proofs.Grown.{more_put}
use Rattle.sf_expr.specs.Arena.{arena_count}
use Rattle.sf_expr.proofs.Entered.{adds_added, unchanged, arena_put, functions_grown, many_still, deep_still}
use Rattle.sf_expr.proofs.exprs.Exprs.add.Goals as goal

pub invariant_of-self : goal.invariant_of-self
invariant_of-self c =
    let x = c.args.self.now in
    record {
      ordered = arena_put x _ c.args.node c.depth_with-depth.result c.args.spot c.add.result c.add.ensures.ok c.add.ensures.err c.requires c.depth_with-depth.ensures.value c.depth_with-depth.ensures.narrow;
      closed = functions_grown _ _ x.functions.items (more_put _ _ _ c.add.result c.add.ensures.ok c.add.ensures.err) x.closed;
      valued = x.valued;
      shallow = x.shallow;
    }

pub returns-in-Ok-clause-ok : goal.returns-in-Ok-clause-ok
returns-in-Ok-clause-ok c = adds_added c.args.self.now _ _ _ _ _ c.in-Ok.ensures.ok refl refl refl refl

pub returns-in-Ok-clause-many : goal.returns-in-Ok-clause-many
unfolding arena_count
returns-in-Ok-clause-many c = (λ e. cc, λ h. let q = c.in-Ok.ensures.many.1 h in cc)

pub returns-in-Ok-clause-deep : goal.returns-in-Ok-clause-deep
unfolding arena_count
returns-in-Ok-clause-deep c = (λ e. cc, λ h. let q = c.in-Ok.ensures.deep.1 (h.0, omega (arith, h.1, c.depth_with-depth.ensures.value)) in cc)

pub returns-in-Err-clause-many : goal.returns-in-Err-clause-many
unfolding arena_count
returns-in-Err-clause-many c = many_still _ _ c.in-Err.ensures.many

pub returns-in-Err-clause-deep : goal.returns-in-Err-clause-deep
unfolding arena_count
returns-in-Err-clause-deep c =
    let deep = deep_still _ _ c.in-Err.ensures.deep in
    (λ e. let h = deep.0 e in (h.0, omega (arith, h.1, c.depth_with-depth.ensures.value)), λ h. deep.1 (h.0, omega (arith, h.1, c.depth_with-depth.ensures.value)))

pub returns-in-Err-clause-err : goal.returns-in-Err-clause-err
returns-in-Err-clause-err c = unchanged c.args.self.now _ c.in-Err.ensures.err refl refl refl refl
