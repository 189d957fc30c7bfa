use Rattle.std.proofs.Common.{sym, arith}
use Rattle.std.proofs.lemmas.List.{set_past}
use Rattle.sf_begin.proofs.placing.put.Goals as goal

pub returns-else-at-len : goal.returns-else-at-len
returns-else-at-len g c = sym (set_past c.args.items.now.items c.args.at c.args.item (omega (arith, c.if-at-len.false, c.len.ensures)))
