use Rattle.std.proofs.Common.{◌≡◌, get_or}
use Rattle.sf_lex.specs.declared.piece.Start.TheVariants as starts
use Rattle.sf_lex.specs.Scanning.{start_of, next_piece}
use Rattle.sf_lex.proofs.Scans.{scan_word, scan_digits}
use Rattle.sf_lex.proofs.piece.scan.Goals as goal

pub returns-in-Letter : goal.returns-in-Letter
returns-in-Letter c =
    let is : start_of (get_or c.args.bytes.now 0 0) ≡ starts.Letter = cc in
    scan_word c.args.bytes.now c.word_len.result (next_piece c.word.result) c.in-len1-up.len_at_least is c.word_len.ensures.len c.word.ensures

pub returns-in-Digit : goal.returns-in-Digit
returns-in-Digit c =
    let is : start_of (get_or c.args.bytes.now 0 0) ≡ starts.Digit = cc in
    scan_digits c.args.bytes.now (next_piece c.digits.result) c.in-len1-up.len_at_least is c.digits.ensures
