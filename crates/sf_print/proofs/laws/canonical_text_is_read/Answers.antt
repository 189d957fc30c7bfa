use Rattle.sf_print.proofs.Texts.{built_read}
use Rattle.sf_print.proofs.Again.{read_again}
use Rattle.sf_print.proofs.laws.canonical_text_is_read.Goals as goal

pub returns-clause-read : goal.returns-clause-read
returns-clause-read c = read_again

pub returns-clause-built : goal.returns-clause-built
returns-clause-built c = built_read
