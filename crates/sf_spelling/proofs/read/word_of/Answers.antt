use Rattle.std.proofs.Common.{◌≡◌, Some, ap, ◌∙◌}
use Rattle.std.proofs.lemmas.Bool.Decides.{Decides-eqb}
use Rattle.std.proofs.lemmas.Slice.Eq.{strip_prefix_is}
use Rattle.sf_spelling.specs.Scan.{word_at}
use Rattle.sf_spelling.proofs.Failing.{word_front}
use Rattle.sf_spelling.proofs.read.word_of.Goals as goal

pub returns-in-Some : goal.returns-in-Some
returns-in-Some c =
    let some : c.strip_prefix.result ≡ Some c.in-Some.rest = c.in-Some.is in
    let cut = rw some at (strip_prefix_is Decides-eqb c.args.bytes.now c.args.word.now c.strip_prefix.result c.strip_prefix.ensures.cases) in
    ap (word_at c.args.word.now) cut ∙ word_front c.args.word.now c.in-Some.rest.now
