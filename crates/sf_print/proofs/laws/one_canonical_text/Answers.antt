use Rattle.std.proofs.Common.{sym, ◌∙◌}
use Rattle.sf_grammar.proofs.Texts.{one_text}
use Rattle.sf_print.proofs.laws.one_canonical_text.Goals as goal

pub returns-clause-one : goal.returns-clause-one
returns-clause-one c a b p d e = d.canonical ∙ sym e.canonical

pub returns-clause-apart : goal.returns-clause-apart
returns-clause-apart c bytes p q d e = one_text bytes p q d.text e.text
