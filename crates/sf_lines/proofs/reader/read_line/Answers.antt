use Rattle.std.proofs.Common.{refl}
use Rattle.sf_lines.specs.Asking.{formless, silent, keeps, returns}
use Rattle.sf_lines.proofs.Parsed.{says_late_value, says_late_again, says_command, says_failure, step_memory, takes_value, says_again, says_early}
use Rattle.sf_lines.proofs.reader.read_line.Goals as goal

pub returns-in-None-clause-refused : goal.returns-in-None-clause-refused
returns-in-None-clause-refused c = λ _. formless c.in-None.ensures

pub returns-in-Some-Blank-clause-ok : goal.returns-in-Some-Blank-clause-ok
returns-in-Some-Blank-clause-ok c = silent (rw c.in-Some-Blank.field-0-is at c.in-Some-Blank.ensures)

pub returns-in-Some-clause-refused : goal.returns-in-Some-clause-refused
returns-in-Some-clause-refused c =
    let parts = rw c.in-Some-Sampled.field-0-is at c.in-Some-Sampled.ensures in
    λ _. says_late_value _ _ _ c.in-Some-Sampled.step parts.0 _ _ parts.1 parts.2 c.in-Some.ensures

pub returns-in-Some-clause-memory : goal.returns-in-Some-clause-memory
returns-in-Some-clause-memory c = λ lack. absurd (step_memory _ c.in-Some-Sampled.step c.in-Some.refusal c.in-Some.ensures lack)

pub returns-in-None-refusal_of_step-clause-ok : goal.returns-in-None-refusal_of_step-clause-ok
returns-in-None-refusal_of_step-clause-ok c =
    let parts = rw c.in-Some-Sampled.field-0-is at c.in-Some-Sampled.ensures in
    says_command _ _ _ c.in-Some-Sampled.step parts.0 _ parts.1 parts.2 c.in-None-refusal_of_step.ensures c.sample_at.result c.sample_at.ensures.ok

pub returns-in-None-refusal_of_step-clause-refused :
    goal.returns-in-None-refusal_of_step-clause-refused
returns-in-None-refusal_of_step-clause-refused c =
    let parts = rw c.in-Some-Sampled.field-0-is at c.in-Some-Sampled.ensures in
    says_failure _ _ _ c.in-Some-Sampled.step parts.0 _ parts.1 parts.2 c.in-None-refusal_of_step.ensures c.sample_at.result c.sample_at.ensures.err

pub returns-in-None-refusal_of_step-clause-memory : goal.returns-in-None-refusal_of_step-clause-memory
returns-in-None-refusal_of_step-clause-memory c =
    let parts = rw c.in-Some-Sampled.field-0-is at c.in-Some-Sampled.ensures in
    takes_value _ (c.args.ty.now) _ c.in-Some-Sampled.step parts.0 _ parts.1 parts.2 c.in-None-refusal_of_step.ensures c.sample_at.result

pub returns-in-Some-refusal_of_step-clause-memory : goal.returns-in-Some-refusal_of_step-clause-memory
returns-in-Some-refusal_of_step-clause-memory c = λ lack. absurd (step_memory _ c.in-Some-Repeated.step c.in-Some-refusal_of_step.refusal c.in-Some-refusal_of_step.ensures lack)

pub returns-in-Some-refusal_of_step-clause-refused :
    goal.returns-in-Some-refusal_of_step-clause-refused
returns-in-Some-refusal_of_step-clause-refused c =
    let parts = rw c.in-Some-Repeated.field-0-is at c.in-Some-Repeated.ensures in
    λ _. says_late_again _ _ _ c.in-Some-Repeated.step parts.0 _ parts.1 parts.2 c.in-Some-refusal_of_step.ensures

pub returns-in-None-refusal_of_step-2-clause-ok : goal.returns-in-None-refusal_of_step-2-clause-ok
returns-in-None-refusal_of_step-2-clause-ok c =
    let parts = rw c.in-Some-Repeated.field-0-is at c.in-Some-Repeated.ensures in
    says_again _ _ _ c.in-Some-Repeated.step parts.0 parts.1 parts.2 c.in-None-refusal_of_step-2.ensures

pub returns-then-started-clause-ok : goal.returns-then-started-clause-ok
returns-then-started-clause-ok c = keeps (rw c.in-Some-Save.field-0-is at c.in-Some-Save.ensures) c.if-started.true

pub returns-else-started-clause-refused : goal.returns-else-started-clause-refused
returns-else-started-clause-refused c = λ _. says_early _ _ _ _ (rw c.in-Some-Save.field-0-is at c.in-Some-Save.ensures) c.if-started.false refl

pub returns-then-started-2-clause-ok : goal.returns-then-started-2-clause-ok
returns-then-started-2-clause-ok c = returns (rw c.in-Some-Back.field-0-is at c.in-Some-Back.ensures) c.if-started-2.true

pub returns-else-started-2-clause-refused : goal.returns-else-started-2-clause-refused
returns-else-started-2-clause-refused c = λ _. says_early _ _ _ _ (rw c.in-Some-Back.field-0-is at c.in-Some-Back.ensures) c.if-started-2.false refl
