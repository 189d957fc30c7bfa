use Rattle.std.proofs.Common.{arith, refl}
use Rattle.sf_refusal.specs.Refusals.{because}
use Rattle.sf_lex.specs.Cutting.{too_long}
use Rattle.sf_lex.proofs.lexer.tokens.Goals as goal

pub returns-then-bytes-gt-BYTE_LIMIT-clause-refused : goal.returns-then-bytes-gt-BYTE_LIMIT-clause-refused
returns-then-bytes-gt-BYTE_LIMIT-clause-refused c = rw c.broken.ensures (because (too_long (omega (arith, c.if-bytes-gt-BYTE_LIMIT.true)) refl))
