use Rattle.sf_lex.proofs.Groups.{found_in}
use Rattle.sf_lex.proofs.word.keyword_of.Goals as goal

pub returns-in-len1-up : goal.returns-in-len1-up
returns-in-len1-up c = found_in c.args.word.now c.place_of-from.result.0 c.place_of-from.result.1 _ c.in-len1-up.len_at_least c.place_of-from.ensures.all c.keyword_among.ensures
