use Rattle.std.proofs.Common.{◌++◌, sym, ap, ◌∙◌, codes}
use Rattle.std.proofs.lemmas.List.{append_assoc}
use Rattle.sf_grammar.specs.Spelling.{spell_type}
use Rattle.sf_print.specs.Canonical.{text_of}
use Rattle.sf_accept.specs.Explaining.{wanted_text}
use Rattle.sf_accept.proofs.explaining.write_wanted.Goals as goal

pub returns-in_ok-write_type-in-PairWith : goal.returns-in_ok-write_type-in-PairWith
returns-in_ok-write_type-in-PairWith c =
    let version = c.args.version in
    let before = c.args.text.now.items in
    let named = text_of (spell_type version c.in-PairWith.second) in
    c.in_ok-write_type-in-PairWith.ensures
    ∙ ap (λ xs. xs ++ named) c.in_ok-extend_from_slice-in-PairWith.ensures.items
    ∙ append_assoc before (codes "a pair whose second part is ") named
    ∙ ap (λ w. before ++ wanted_text version w) (sym c.in-PairWith.is)
