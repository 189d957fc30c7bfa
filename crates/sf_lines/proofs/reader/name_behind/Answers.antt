use Rattle.std.proofs.Common.{◌≡◌, None, Some}
use Rattle.std.proofs.lemmas.Bool.Decides.{Decides-eqb}
use Rattle.std.proofs.lemmas.Slice.Eq.{strip_prefix_is}
use Rattle.sf_lines.proofs.SaveNames.{name_found}
use Rattle.sf_lines.proofs.reader.name_behind.Goals as goal

pub returns-in_err-strip_prefix : goal.returns-in_err-strip_prefix
returns-in_err-strip_prefix c =
    let none : c.strip_prefix.result ≡ None = c.in_err-strip_prefix.was in
    let other = rw none at (strip_prefix_is Decides-eqb c.args.bytes.now c.args.front.now c.strip_prefix.result c.strip_prefix.ensures.cases) in
    rw c.from_residual.ensures (λ name e w. other name e)

pub returns : goal.returns
returns c =
    let some : c.strip_prefix.result ≡ Some c.in_ok-strip_prefix.field-0 = c.in_ok-strip_prefix.was in
    let cut = rw some at (strip_prefix_is Decides-eqb c.args.bytes.now c.args.front.now c.strip_prefix.result c.strip_prefix.ensures.cases) in
    name_found c.args.front.now c.args.bytes.now _ c.word_of.result cut c.word_of.ensures
