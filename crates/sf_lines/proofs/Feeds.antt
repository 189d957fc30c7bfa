-- Where the first line feed is.
use Rattle.std.proofs.Common.{◌≡◌, ◌≢◌, ℕ, ◌<◌, List, [], ◌∷◌, ◌++◌, length, take, get_or, Option, Some, None, MatchOption, sym, ◌∙◌, ap, arith, ◌==◌}
use Rattle.std.proofs.lemmas.Bool.{eqb-true}
use Rattle.std.proofs.lemmas.List.{length-take, get_or-take, take_more}
use Rattle.std.proofs.lemmas.List.Elements.{All-from_get_or}
use Rattle.memchr.specs.Find.{IsFirstByte, is_byte}
use Rattle.sf_lines.specs.Lines.{NoFeed, FirstFeed}

pub feed_found : (bytes : List ℕ) (r : Option ℕ) → IsFirstByte (is_byte 10) bytes r → MatchOption r (NoFeed bytes) (FirstFeed bytes)
feed_found bytes None h = All-from_get_or (λ b. b ≢ 10) bytes 0 (λ i within same. h i (omega arith) within (ap (λ b. b == 10) same))
feed_found bytes (Some at) h =
    let found = h.0 in
    let within : at < length bytes = found.high in
    let size : length (take at bytes) ≡ at = simp length-take (omega arith) in
    record {
      within = within;
      before = All-from_get_or (λ b. b ≢ 10) (take at bytes) 0 (λ i low same.
          let near : i < at = omega arith in
          found.before i (omega arith) near (ap (λ b. b == 10) (sym (get_or-take at bytes i 0 near) ∙ same)));
      through = take_more bytes at 0 within ∙ ap (λ b. take at bytes ++ b ∷ []) (eqb-true (get_or bytes at 0) 10 h.1);
    }
