use Rattle.sf_player.proofs.Running.{told_no_memory, told_no_memory_front}
use Rattle.sf_player.proofs.session.refuse_lines.Goals as goal

pub returns-then-put-clause-told : goal.returns-then-put-clause-told
returns-then-put-clause-told g c = λ probes n m input. told_no_memory probes n m input _ _ (rw (c.as_bytes.ensures, c.write_refusal.ensures) at c.if-put.ensures.written)

pub returns-else-put-clause-told : goal.returns-else-put-clause-told
returns-else-put-clause-told g c = λ probes n m input. told_no_memory_front probes n m input _ _ (rw (c.as_bytes.ensures, c.write_refusal.ensures) at c.if-put.ensures.front)
