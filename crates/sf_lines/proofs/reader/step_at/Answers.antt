use Rattle.std.proofs.Common.{refl}
use Rattle.sf_lines.proofs.Parsed.{first_is, no_step_empty, no_step_other}
use Rattle.sf_lines.proofs.reader.step_at.Goals as goal

pub returns-in-empty : goal.returns-in-empty
returns-in-empty c = no_step_empty c.args.bytes.now _ c.in-Some.rest.now c.in-Some.ensures c.in-empty.len_below

pub returns-else-c-eq32 : goal.returns-else-c-eq32
returns-else-c-eq32 c =
    no_step_other c.args.bytes.now _ c.in-Some.rest.now _ _ c.in-Some.ensures (first_is c.in-Some.rest.now _ c.in-len1-up.len_at_least refl) c.if-c-eq32.false
