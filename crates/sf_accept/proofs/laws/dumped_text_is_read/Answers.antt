use Rattle.sf_accept.proofs.Again.{dump_read, dump_again}
use Rattle.sf_accept.proofs.laws.dumped_text_is_read.Goals as goal

pub returns-clause-read : goal.returns-clause-read
returns-clause-read c = dump_read

pub returns-clause-again : goal.returns-clause-again
returns-clause-again c = dump_again
