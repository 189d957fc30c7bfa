-- One step of the cut after the other.
use Rattle.std.proofs.Common.{◌≡◌, ℕ, ◌+◌, ◌-◌, ◌≤◌, ◌<◌, List, [], ◌∷◌, ◌++◌, length, take, drop, map, true, false, cond, refl, sym, ◌∙◌, ap, subst, arith, nat_le, inl, inr}
use Rattle.std.specs.Str.{IsUtf8}
use Rattle.std.proofs.lemmas.Bool.{leb-true}
use Rattle.std.proofs.lemmas.List.{append-nil, drop_all, drop-drop, length-take, map-append}
use Rattle.sf_refusal.specs.declared.rule.Rule.{Rule}
use Rattle.sf_refusal.specs.declared.rule.Rule.TheVariants.{BadByte}
use Rattle.sf_lex.specs.declared.token.Token.{Token}
use Rattle.sf_refusal.specs.declared.spot.Spot.{Spot}
use Rattle.sf_lex.specs.declared.token.PlacedToken.{PlacedToken}
use Rattle.sf_lex.specs.Tokens.{Tok, Located, token_of, seen, shown, offset_place}
use Rattle.sf_lex.specs.Cutting.{Piece, gap, token, fits, IsLongest, located, IsCutInto, here, more, byte_limit, AreTokensOf, IsFirstFault, IsValidLen, AreTokensTo, IsWrong, large, open_text, escape, nothing, HasFaultAt, no_text, wrong, IsContentRule}
use Rattle.sf_lex.specs.Scanning.{NextPiece, piece, fail, next, in_range, within}
use Rattle.sf_lex.proofs.Pieces.{piece_some}
use Rattle.sf_lex.proofs.Faults.{scan_longest}
use Rattle.sf_lex.proofs.Cuts.{cuts_join, further, cuts_nil, stuck_nil, breaks_first}

-- a piece that the scan gave, within the valid bytes
pub record Step (bytes : List ℕ) (at valid : ℕ) (p : Piece) (n : ℕ) : Type 0 where
  pub longest : IsLongest (drop at bytes) p n
  pub fit : fits p ≡ true
  pub some : 0 < n
  pub near : at + n ≤ valid

within_piece : (room : ℕ) (x : NextPiece) (p : Piece) (n : ℕ) → within room x ≡ piece p n → (x ≡ piece p n) × (n ≤ room)
within_piece room (piece q m) p n e =
    (elim (nat_le m room) as (λ t. nat_le m room ≡ t → cond t (piece q m) (fail BadByte room) ≡ piece p n → (piece q m ≡ piece p n) × (n ≤ room)) [
      | true ↦ λ is f. (f, (let same : m ≡ n = cc in let low = leb-true m room is in omega arith))
      | false ↦ λ is f. cc
    ]) refl e
within_piece room (fail f k) p n e =
    (elim (nat_le k room) as (λ t. cond t (fail f k) (fail BadByte room) ≡ piece p n → (fail f k ≡ piece p n) × (n ≤ room))
    [ true ↦ λ g. cc | false ↦ λ g. cc ]) e

pub step_from : (bytes rest : List ℕ) (at valid n : ℕ) (p : Piece) (s t : NextPiece) → rest ≡ drop at bytes → s ≡ in_range (next rest) → t ≡ within (valid - at) s → t ≡ piece p n → at ≤ valid → Step bytes at valid p n
step_from bytes rest at valid n p s t r e f g low =
    let w = within_piece (valid - at) s p n (sym f ∙ g) in
    let l = scan_longest (drop at bytes) p n (ap (λ x. in_range (next x)) (sym r) ∙ sym e ∙ w.0) in
    let has = piece_some p (take n (drop at bytes)) l.0.is in
    record { longest = l.0; fit = l.1; some = omega (arith, length-take n (drop at bytes)); near = omega (arith, w.1) }

pub cut_on : (bytes : List ℕ) (at valid n : ℕ) (p : Piece) (found : List Located) → Step bytes at valid p n → IsCutInto 0 bytes found at (drop at bytes) → IsCutInto 0 bytes (found ++ located at p []) (at + n) (drop (at + n) bytes)
cut_on bytes at valid n p found s c =
    let last : IsCutInto at (drop at bytes) (located at p []) (at + n) (drop n (drop at bytes)) = more s.longest s.fit here in
    cuts_join 0 at (at + n) bytes (drop at bytes) (drop (at + n) bytes) found (located at p []) c
    (subst (λ (x : List ℕ). IsCutInto at (drop at bytes) (located at p []) (at + n) x) (drop-drop n at bytes) last)

pub tokens_start : (bytes : List ℕ) (items : List PlacedToken) → items ≡ [] → AreTokensTo bytes 0 items
tokens_start bytes items e = record { cut = record { found = []; cut = here }; shows = ap (map seen) e }

pub tokens_gap : (bytes : List ℕ) (at valid n : ℕ) (items : List PlacedToken) → Step bytes at valid gap n → AreTokensTo bytes at items → AreTokensTo bytes (at + n) items
tokens_gap bytes at valid n items s a = record {
  cut = record { found = a.cut.found ++ []; cut = cut_on bytes at valid n gap a.cut.found s a.cut.cut };
  shows = a.shows ∙ ap (map (shown bytes)) (sym (append-nil a.cut.found));
}

pub tokens_token : (bytes : List ℕ) (at valid n : ℕ) (old new : List PlacedToken) (t : Tok) (one : Token) (place : Spot) → Step bytes at valid (token t) n → AreTokensTo bytes at old
    → token_of one ≡ t → place ≡ offset_place bytes at → new ≡ old ++ record { token = one; spot = place } ∷ [] → AreTokensTo bytes (at + n) new
tokens_token bytes at valid n old new t one place s a e p is =
    let last : Located = record { offset = at; token = t } in
    let same : seen (record { token = one; spot = place }) ≡ shown bytes last = ap (λ x. (x, place)) e ∙ ap (λ x. (t, x)) p in
    record {
      cut = record { found = a.cut.found ++ last ∷ []; cut = cut_on bytes at valid n (token t) a.cut.found s a.cut.cut };
      shows = ap (map seen) is ∙ map-append seen old (record { token = one; spot = place } ∷ [])
          ∙ ap (λ x. x ++ seen (record { token = one; spot = place }) ∷ []) a.shows
          ∙ ap (λ x. map (shown bytes) a.cut.found ++ x ∷ []) same
          ∙ sym (map-append (shown bytes) a.cut.found (last ∷ []));
    }

pub valid_all : (bytes : List ℕ) (valid : ℕ) → IsValidLen bytes valid → length bytes ≤ valid → IsUtf8 bytes
valid_all bytes valid (inl u) l = u.0
valid_all bytes valid (inr u) l = absurd (omega (arith, u.short))

pub tokens_end : (bytes : List ℕ) (at valid : ℕ) (items : List PlacedToken) → length bytes ≤ byte_limit → IsValidLen bytes valid → AreTokensTo bytes at items → length bytes ≤ at → at ≤ valid → AreTokensOf bytes items
tokens_end bytes at valid items short v a far low =
    let nothing : drop at bytes ≡ [] = drop_all at bytes far in
    let cut : IsCutInto 0 bytes a.cut.found at [] = subst (λ (x : List ℕ). IsCutInto 0 bytes a.cut.found at x) nothing a.cut.cut in
    record {
      located = a.cut.found;
      cut = record { short = short; utf8 = valid_all bytes valid v (omega arith); end = at; cut = cut };
      only = λ other l.
          (let g = further 0 at l.end bytes [] [] a.cut.found other cut l.cut stuck_nil in
          g.is ∙ ap (λ x. a.cut.found ++ x) (cuts_nil at l.end [] g.found g.cut) ∙ append-nil a.cut.found);
      shows = a.shows;
    }

-- a fault breaks a rule of the content
wrong_content : (bytes : List ℕ) (k : ℕ) (f : Rule) → IsWrong bytes k f → IsContentRule f
wrong_content bytes k f (large l wide) = tt
wrong_content bytes k f (open_text h) = tt
wrong_content bytes k f (escape inner before behind rest c body is front none) = tt
wrong_content bytes k f (nothing n none) = tt

fault_content : (bytes : List ℕ) (offset : ℕ) (f : Rule) → HasFaultAt bytes offset f → IsContentRule f
fault_content bytes offset f (no_text u) = tt
fault_content bytes offset f (wrong {rest = rest} {k = k} c w) = wrong_content rest k f w

pub first_content : (bytes : List ℕ) (f : Rule) (place : Spot) → IsFirstFault bytes f place → IsContentRule f
first_content bytes f place b = fault_content bytes b.offset f b.breaks

pub refused : (bytes rest : List ℕ) (at valid k : ℕ) (f : Rule) (place : Spot) (s t : NextPiece) (items : List PlacedToken) → length bytes ≤ byte_limit → IsValidLen bytes valid → AreTokensTo bytes at items → at < length bytes → at ≤ valid
    → rest ≡ drop at bytes → s ≡ in_range (next rest) → t ≡ within (valid - at) s → t ≡ fail f k → place ≡ offset_place bytes (at + k) → IsFirstFault bytes f place
refused bytes rest at valid k f place s t items short v a some low r e g h p =
    let scanned : within (valid - at) (in_range (next (drop at bytes))) ≡ fail f k = ap (λ x. within (valid - at) (in_range (next x))) (sym r) ∙ ap (within (valid - at)) (sym e) ∙ sym g ∙ h in
    subst (λ (x : Spot). IsFirstFault bytes f x) (sym p) (breaks_first bytes at valid k f short a.cut some low v scanned)
