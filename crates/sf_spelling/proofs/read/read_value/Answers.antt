use Rattle.std.proofs.Common.{◌≤◌, ◌-◌, length, sym, subst, Err, arith}
use Rattle.sf_spelling.specs.Reading.{wide, again, Reads, bad_value, out_of_range, duplicate_key}
use Rattle.sf_spelling.proofs.ReadAnswers.{left_of_value, left_of_bad, left_of_fault, whole_reads, more_reads, bad_reads, fault_reads}
use Rattle.sf_spelling.proofs.read.read_value.Goals as goal

pub overflow_sub-result : goal.overflow_sub-result
overflow_sub-result c = left_of_value c.args.ty.now c.args.bytes.now c.in-Ok.value c.in-Ok.rest.now c.in-Ok.ensures

pub overflow_sub-result-in-Err-Bad : goal.overflow_sub-result-in-Err-Bad
overflow_sub-result-in-Err-Bad c =
    let h = rw c.in-Err-Bad.field-0-is at c.in-Err-Bad.ensures in
    let e = left_of_bad c.args.ty.now c.args.bytes.now h.0 h.1 in omega (arith, h.2)

pub overflow_sub-result-in-Err-Wide : goal.overflow_sub-result-in-Err-Wide
overflow_sub-result-in-Err-Wide c =
    let h = rw c.in-Err-Wide.field-0-is at c.in-Err-Wide.ensures in
    let e = left_of_fault c.args.ty.now c.args.bytes.now wide h.0 h.1 in omega (arith, h.2)

pub overflow_sub-result-in-Err-Again : goal.overflow_sub-result-in-Err-Again
overflow_sub-result-in-Err-Again c =
    let h = rw c.in-Err-Again.field-0-is at c.in-Err-Again.ensures in
    let e = left_of_fault c.args.ty.now c.args.bytes.now again h.0 h.1 in omega (arith, h.2)

pub returns-then-rest-eq0-clause-found : goal.returns-then-rest-eq0-clause-found
returns-then-rest-eq0-clause-found c = (whole_reads c.args.ty.now c.args.bytes.now c.in-Ok.value c.in-Ok.rest.now c.if-rest-eq0.true c.in-Ok.ensures).0

pub returns-then-rest-eq0-clause-only : goal.returns-then-rest-eq0-clause-only
returns-then-rest-eq0-clause-only c = (whole_reads c.args.ty.now c.args.bytes.now c.in-Ok.value c.in-Ok.rest.now c.if-rest-eq0.true c.in-Ok.ensures).1

pub returns-else-rest-eq0-clause-refused : goal.returns-else-rest-eq0-clause-refused
returns-else-rest-eq0-clause-refused c =
    let some : 1 ≤ length c.in-Ok.rest.now = omega arith in
    (more_reads c.args.ty.now c.args.bytes.now c.in-Ok.value c.in-Ok.rest.now some c.in-Ok.ensures).0

pub returns-else-rest-eq0-clause-only : goal.returns-else-rest-eq0-clause-only
returns-else-rest-eq0-clause-only c =
    let some : 1 ≤ length c.in-Ok.rest.now = omega arith in
    (more_reads c.args.ty.now c.args.bytes.now c.in-Ok.value c.in-Ok.rest.now some c.in-Ok.ensures).1

pub returns-in-Err-Bad-clause-refused : goal.returns-in-Err-Bad-clause-refused
returns-in-Err-Bad-clause-refused c =
    let h = rw c.in-Err-Bad.field-0-is at c.in-Err-Bad.ensures in
    subst (λ n. Reads c.args.ty.now c.args.bytes.now (Err (bad_value (length c.args.bytes.now - n)))) (sym h.2) (bad_reads c.args.ty.now c.args.bytes.now h.0 h.1).0

pub returns-in-Err-Bad-clause-only : goal.returns-in-Err-Bad-clause-only
returns-in-Err-Bad-clause-only c = let h = rw c.in-Err-Bad.field-0-is at c.in-Err-Bad.ensures in (bad_reads c.args.ty.now c.args.bytes.now h.0 h.1).1

pub returns-in-Err-Wide-clause-refused : goal.returns-in-Err-Wide-clause-refused
returns-in-Err-Wide-clause-refused c =
    let h = rw c.in-Err-Wide.field-0-is at c.in-Err-Wide.ensures in
    subst (λ n. Reads c.args.ty.now c.args.bytes.now (Err (out_of_range (length c.args.bytes.now - n)))) (sym h.2) (fault_reads c.args.ty.now c.args.bytes.now wide h.0 h.1).0

pub returns-in-Err-Again-clause-refused : goal.returns-in-Err-Again-clause-refused
returns-in-Err-Again-clause-refused c =
    let h = rw c.in-Err-Again.field-0-is at c.in-Err-Again.ensures in
    subst (λ n. Reads c.args.ty.now c.args.bytes.now (Err (duplicate_key (length c.args.bytes.now - n)))) (sym h.2) (fault_reads c.args.ty.now c.args.bytes.now again h.0 h.1).0

pub returns-in-Err-Wide-clause-only : goal.returns-in-Err-Wide-clause-only
returns-in-Err-Wide-clause-only c = let h = rw c.in-Err-Wide.field-0-is at c.in-Err-Wide.ensures in (fault_reads c.args.ty.now c.args.bytes.now wide h.0 h.1).1

pub returns-in-Err-Again-clause-only : goal.returns-in-Err-Again-clause-only
returns-in-Err-Again-clause-only c = let h = rw c.in-Err-Again.field-0-is at c.in-Err-Again.ensures in (fault_reads c.args.ty.now c.args.bytes.now again h.0 h.1).1
