use Rattle.std.proofs.Common.{◌∙◌, ◌-◌, length, take, arith, sym, ap}
use Rattle.sf_expr.specs.Meanings.{found_in}
use Rattle.sf_expr.specs.Scopes.{entries_around, entries_along}
use Rattle.std.proofs.lemmas.List.{length-take}
use Rattle.sf_expr.proofs.Scoped.{along_last}
use Rattle.sf_expr.proofs.scope.TypeScope.stands_for.Goals as goal

pub loop-rest-init : goal.loop-rest-init
unfolding entries_around
loop-rest-init c = record {
  within = omega arith;
  same = ap (λ fs. found_in c.args.name.now (entries_along fs)) (sym c.as_slice-rest.ensures);
}

pub offset_bounds-rest-rest : goal.offset_bounds-rest-rest
offset_bounds-rest-rest c = omega (arith, c.as_slice-rest.type_inv)

pub returns-in-Some-clause-found : goal.returns-in-Some-clause-found
returns-in-Some-clause-found c =
    let before = take (length c.loop-rest.rest.now - 1) c.loop-rest.rest.now in
    c.loop-rest.invariant.same ∙ ap (found_in c.args.name.now) (along_last c.loop-rest.rest.now c.last-item.result (omega (arith, c.in-len1-up.len_at_least)) c.last-item.is) ∙ c.in-Some.ensures.found (entries_along before)

pub loop-rest-preserved : goal.loop-rest-preserved
loop-rest-preserved c =
    let before = take (length c.loop-rest.rest.now - 1) c.loop-rest.rest.now in
    record {
      within = omega (arith, c.loop-rest.invariant.within, length-take (length c.loop-rest.rest.now - 1) c.loop-rest.rest.now);
      same = c.loop-rest.invariant.same ∙ ap (found_in c.args.name.now) (along_last c.loop-rest.rest.now c.last-item.result (omega (arith, c.in-len1-up.len_at_least)) c.last-item.is) ∙ c.in-None.ensures.absent (entries_along before);
    }
