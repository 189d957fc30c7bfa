use Rattle.sf_lines.proofs.Parsed.{read_failed}
use Rattle.sf_lines.proofs.reader.sample_at.Goals as goal

pub returns-in-Err-clause-err : goal.returns-in-Err-clause-err
returns-in-Err-clause-err c = read_failed _ _ c.in-Err.refusal _ c.in-Err.ensures.refused c.from.ensures
