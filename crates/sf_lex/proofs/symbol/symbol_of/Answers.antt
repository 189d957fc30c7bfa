use Rattle.sf_lex.proofs.SymbolGroups.{found_in}
use Rattle.sf_lex.proofs.symbol.symbol_of.Goals as goal

pub returns-in-len1-up : goal.returns-in-len1-up
returns-in-len1-up c = found_in c.args.bytes.now c.place_of-from.result.0 c.place_of-from.result.1 _ c.in-len1-up.len_at_least c.place_of-from.ensures.all c.symbol_among.ensures
