use Rattle.std.proofs.Common.{Some, None, subst}
use Rattle.std.specs.Option.{option_map}
use Rattle.sf_state.proofs.Parts.{IsPart, second_part, first_part}
use Rattle.sf_state.proofs.env.+part_of_number.Goals as goal

pub returns-in-Some : goal.returns-in-Some
returns-in-Some t c = λ x.
    let m = c.args.number in
    let there = subst (λ d. IsPart m x c.deref.result.now d (Some c.in-Some.found.now)) c.halves_of.ensures.second (c.in-Some.ensures x) in
    rw c.in-Both.is (second_part m x (record { ptr = c.in-Both.first.ptr; alloc = c.in-Both.first.alloc; value = tt }) (record { ptr = c.in-Both.second.ptr; alloc = c.in-Both.second.alloc; value = tt }) _ _ c.args.value.now c.in-Some.found.now (rw c.deref.ensures at there))

pub returns-in-None : goal.returns-in-None
returns-in-None t c = λ x.
    let m = c.args.number in
    let absent = subst (λ d. IsPart m x c.deref.result.now d None) c.halves_of.ensures.second (c.in-None.ensures x) in
    let left = subst (λ d. IsPart m x c.deref-in-None.result.now d (option_map (λ v. v.now) c.part_of_number-in-None.result)) c.halves_of.ensures.first (c.part_of_number-in-None.ensures x) in
    rw c.in-Both.is (first_part m x (record { ptr = c.in-Both.first.ptr; alloc = c.in-Both.first.alloc; value = tt }) (record { ptr = c.in-Both.second.ptr; alloc = c.in-Both.second.alloc; value = tt }) _ _ c.args.value.now _ (rw c.deref.ensures at absent) (rw c.deref-in-None.ensures at left))
