-- What the scan of a first byte gives for all bytes.
use Rattle.std.proofs.Common.{◌≡◌, ℕ, suc, ◌+◌, ◌-◌, ◌<◌, List, [], ◌∷◌, length, take, drop, get_or, true, Some, None, refl, sym, ◌∙◌, ap, subst, arith}
use Rattle.std.specs.List.{prefix_len}
use Rattle.std.proofs.lemmas.List.{take_rest}
use Rattle.sf_lex.specs.declared.piece.Start.TheVariants as starts
use Rattle.sf_lex.specs.Words.{is_digit, is_word_byte}
use Rattle.sf_lex.specs.Cutting.{token}
use Rattle.sf_lex.specs.Scanning.{NextPiece, piece, next, in_range, start_of, word_next, word_token, keyword_of, digits_next}
use Rattle.sf_lex.proofs.Pieces.{next_at, StartIs, start_is}

word_narrow : (n : ℕ) (bytes : List ℕ) → in_range (word_next n bytes) ≡ word_next n bytes
word_narrow n bytes =
    elim (keyword_of (take n bytes)) as (λ o. in_range (piece (token (word_token (take n bytes) o)) n) ≡ piece (token (word_token (take n bytes) o)) n)
    [ Some k ↦ refl | None ↦ refl ]

pub scan_word : (bytes : List ℕ) (n : ℕ) (r : NextPiece) → 0 < length bytes → start_of (get_or bytes 0 0) ≡ starts.Letter → n ≡ prefix_len is_word_byte (take (length bytes - 1) (drop 1 bytes))
    → r ≡ word_next (1 + n) bytes → r ≡ in_range (next bytes)
scan_word [] n r l s e i = absurd (omega arith)
scan_word (b ∷ rest) n r l s e i =
    let behind = take_rest (b ∷ rest) 1 in
    let long : 1 + n ≡ suc (prefix_len is_word_byte rest) = (let f = ap (prefix_len is_word_byte) behind in omega arith) in
    i ∙ ap (λ m. word_next m (b ∷ rest)) long ∙ sym (word_narrow (suc (prefix_len is_word_byte rest)) (b ∷ rest)) ∙ ap in_range (sym (next_at b rest starts.Letter s))

pub scan_digits : (bytes : List ℕ) (r : NextPiece) → 0 < length bytes → start_of (get_or bytes 0 0) ≡ starts.Digit → r ≡ in_range (digits_next (prefix_len is_digit bytes) bytes) → r ≡ in_range (next bytes)
scan_digits [] r l s i = absurd (omega arith)
scan_digits (b ∷ rest) r l s i =
    let first : is_digit b ≡ true = subst (λ x. StartIs x b) s (start_is b) in
    let long : prefix_len is_digit (b ∷ rest) ≡ suc (prefix_len is_digit rest) = rw first (omega arith) in
    i ∙ ap (λ m. in_range (digits_next m (b ∷ rest))) long ∙ ap in_range (sym (next_at b rest starts.Digit s))
