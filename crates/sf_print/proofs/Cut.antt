-- The text of tokens is cut into them.
use Rattle.std.proofs.Common.{◌≡◌, ℕ, ◌+◌, List, [], ◌∷◌, ◌++◌, length, drop, map, Bool, true, false, cond, refl, sym, ap, subst, arith}
use Rattle.std.specs.List.{All}
use Rattle.std.specs.Str.{IsUtf8}
use Rattle.std.proofs.lemmas.List.{drop_at}
use Rattle.std.proofs.lemmas.List.Elements.{All-head, All-tail}
use Rattle.std.proofs.lemmas.Str.{IsUtf8-nil, IsUtf8-append}
use Rattle.sf_lex.specs.Tokens.{Tok, keyword, name, number, text, symbol, Located}
use Rattle.sf_lex.specs.Cutting.{Piece, token, fits, IsCutInto, here, more, IsLongest}
use Rattle.sf_lex.proofs.Before.{longest_before, blank_before}
use Rattle.sf_lex.proofs.Readable.{single_utf8}
use Rattle.sf_print.specs.Canonical.{token_bytes, ends_line, are_joined, gap_before, text_of}
use Rattle.sf_print.specs.Laws.{CanStand}
use Rattle.sf_print.proofs.Breaks.{text_ends}
use Rattle.sf_print.proofs.Spelt.{bytes_spell, bytes_utf8}

-- bytes are cut into tokens up to their end
pub record CutsInto (at : ℕ) (bytes : List ℕ) (tokens : List Tok) : Type 0 where
  pub end : ℕ
  pub found : List Located
  pub cut : IsCutInto at bytes found end []
  pub tokens_are : map (λ (l : Located). l.token) found ≡ tokens

-- behind a piece
behind : (at : ℕ) (w rest : List ℕ) (p : Piece) → IsLongest (w ++ rest) p (length w) → fits p ≡ true → (found : List Located) (end : ℕ) → IsCutInto (at + length w) rest found end [] → IsCutInto (at + length w) (drop (length w) (w ++ rest)) found end []
behind at w rest p l f found end c = subst (λ (x : List ℕ). IsCutInto (at + length w) x found end []) (sym (drop_at w rest (length w) refl)) c

-- a blank in front, or none
blank_cut : (at : ℕ) (ends joined : Bool) (rest : List ℕ) (tokens : List Tok) → ((from : ℕ) → CutsInto from rest tokens) → CutsInto at (cond ends (10 ∷ []) (cond joined [] (32 ∷ [])) ++ rest) tokens
blank_cut at true joined rest tokens cuts =
    let c = cuts (at + 1) in
    record { end = c.end; found = c.found; cut = more (blank_before 10 rest refl) refl c.cut; tokens_are = c.tokens_are }
blank_cut at false true rest tokens cuts = cuts at
blank_cut at false false rest tokens cuts =
    let c = cuts (at + 1) in
    record { end = c.end; found = c.found; cut = more (blank_before 32 rest refl) refl c.cut; tokens_are = c.tokens_are }

gap_cut : (at : ℕ) (t : Tok) (ts : List Tok) → ((from : ℕ) → CutsInto from (text_of ts) ts) → CutsInto at (gap_before t ts ++ text_of ts) ts
gap_cut at t [] cuts = blank_cut at (ends_line t) true [] [] cuts
gap_cut at t (u ∷ us) cuts = blank_cut at (ends_line t) (are_joined t u) (text_of (u ∷ us)) (u ∷ us) cuts

stands_fits : (t : Tok) → CanStand t → fits (token t) ≡ true
stands_fits (keyword k) c = refl
stands_fits (name n) c = refl
stands_fits (number z) c = c
stands_fits (text s) c = refl
stands_fits (symbol s) c = refl

-- the text of tokens that can stand in texts is cut into them
pub text_cut : (ts : List Tok) → All CanStand ts → (at : ℕ) → CutsInto at (text_of ts) ts
text_cut [] a at = record { end = at; found = []; cut = here; tokens_are = refl }
text_cut (t ∷ ts) a at =
    let w = token_bytes t in
    let rest = gap_before t ts ++ text_of ts in
    let first : CanStand t = All-head CanStand t ts a in
    let l = longest_before t w rest (bytes_spell t first) (text_ends t ts) in
    let c = gap_cut (at + length w) t ts (λ from. text_cut ts (All-tail CanStand t ts a) from) in
    record {
      end = c.end;
      found = record { offset = at; token = t } ∷ c.found;
      cut = more l (stands_fits t first) (behind at w rest (token t) l (stands_fits t first) c.found c.end c.cut);
      tokens_are = ap (λ xs. t ∷ xs) c.tokens_are;
    }

gap_utf8 : (ends joined : Bool) → IsUtf8 (cond ends (10 ∷ []) (cond joined [] (32 ∷ [])))
gap_utf8 true joined = single_utf8 10 (omega arith)
gap_utf8 false true = IsUtf8-nil
gap_utf8 false false = single_utf8 32 (omega arith)

before_utf8 : (t : Tok) (ts : List Tok) → IsUtf8 (gap_before t ts)
before_utf8 t [] = gap_utf8 (ends_line t) true
before_utf8 t (u ∷ us) = gap_utf8 (ends_line t) (are_joined t u)

-- it is UTF-8
pub text_utf8 : (ts : List Tok) → All CanStand ts → IsUtf8 (text_of ts)
text_utf8 [] a = IsUtf8-nil
text_utf8 (t ∷ ts) a =
    IsUtf8-append (token_bytes t) (gap_before t ts ++ text_of ts) (bytes_utf8 t (All-head CanStand t ts a))
    (IsUtf8-append (gap_before t ts) (text_of ts) (before_utf8 t ts) (text_utf8 ts (All-tail CanStand t ts a)))
