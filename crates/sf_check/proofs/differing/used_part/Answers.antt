use Rattle.std.proofs.Common.{ap}
use Rattle.sf_value.specs.KindView.{key_kind_of}
use Rattle.sf_differ.proofs.Told.{told_as, told_on, room_on, unsaid_on}
use Rattle.sf_check.specs.Contexts.{program_in, context_in}
use Rattle.sf_check.specs.Differing.{used_inputs}
use Rattle.sf_check.proofs.Members.{used_collects}
use Rattle.sf_check.proofs.Unlike.{found_same}
use Rattle.sf_check.proofs.differing.used_part.Goals as goal

pub returns-in_err-types-clause-err : goal.returns-in_err-types-clause-err
returns-in_err-types-clause-err c = unsaid_on _ _ _ c.from_residual.ensures.1

pub returns-in_err-suits_type-clause-err : goal.returns-in_err-suits_type-clause-err
returns-in_err-suits_type-clause-err c = told_on _ _ c.from_residual-in_err-suits_type.ensures.1 (told_as (λ d k. used_inputs c.in_ok-types.ensures.found k) c.in_err-suits_type.ensures.err)

pub returns-in_err-new-clause-err : goal.returns-in_err-new-clause-err
returns-in_err-new-clause-err c = room_on _ _ c.from_residual-in_err-new.ensures.1

pub returns-clause-ok : goal.returns-clause-ok
returns-clause-ok c =
    let types = c.in_ok-new.ensures in
    used_collects (program_in c.args.context.now) (context_in c.args.context.now) c.args.input.now c.args.name c.args.place c.args.spot _ _ _ c.in_ok-types.ensures.found _ _ (found_same c.in_ok-suits_type.ensures.ok) (ap key_kind_of types.keys) types.output
