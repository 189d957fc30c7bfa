-- What was read has a canonical text, which is read as it.
use Rattle.std.proofs.Common.{ℕ, List}
use Rattle.sf_term.specs.Trees.{Templates}
use Rattle.sf_grammar.specs.Spelling.{IsNetworkText}
use Rattle.sf_print.specs.Versions.{version_of}
use Rattle.sf_print.specs.Canonical.{canonical_text}
use Rattle.sf_print.specs.Laws.{IsShort, IsCanonicalText}
use Rattle.sf_print.proofs.Texts.{text_stands, built_read}
use Rattle.sf_print.proofs.LeftOut.{version_stands}
use Rattle.sf_print.proofs.Limits.{limits_move}

pub read_again : (bytes : List ℕ) (p : Templates) → IsNetworkText bytes p → IsShort p → IsCanonicalText (canonical_text p) p
read_again bytes p t short = built_read p (version_stands t.version (version_of p) p (text_stands bytes p t)) (limits_move t.version p t.limited) short
