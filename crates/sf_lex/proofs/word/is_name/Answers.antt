use Rattle.std.proofs.Common.{sym}
use Rattle.sf_lex.proofs.Words.{name_is}
use Rattle.sf_lex.proofs.word.is_name.Goals as goal

pub returns-then-is_word : goal.returns-then-is_word
returns-then-is_word c = name_is c.args.word.now c.is_none.result c.keyword_of.result (sym c.if-is_word.ensures) c.keyword_of.ensures c.is_none.ensures
