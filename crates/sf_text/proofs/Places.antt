-- Places in a text.
use Rattle.std.proofs.Common.{◌≡◌, ℕ, ◌+◌, List, length, arith}
use Rattle.std.specs.List.{count_by, suffix_len}
use Rattle.std.proofs.lemmas.List.{take_all}
use Rattle.sf_lex.specs.Tokens.{is_line_feed, is_in_line, line_number, column_at, offset_place}

pub end_at : (bytes : List ℕ) → offset_place bytes (length bytes) ≡ record { line = count_by is_line_feed bytes + 1; column = suffix_len is_in_line bytes + 1 }
unfolding line_number column_at
end_at bytes = simp (take_all (length bytes) bytes (omega arith))
