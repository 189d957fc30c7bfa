-- Where scanning fails, something is wrong, and the other way round.
use Rattle.std.proofs.Common.{◌≡◌, ◌≢◌, ℕ, suc, ◌+◌, ◌≤◌, ◌<◌, ℤ, List, [], ◌∷◌, ◌++◌, length, take, drop, true, false, ◌&&◌, ◌==◌, cond, Some, None, refl, sym, ◌∙◌, ap, subst, arith, length-append}
use Rattle.std.specs.List.{prefix_len}
use Rattle.std.proofs.lemmas.List.{take_at, length-take, take-append-drop}
use Rattle.std.proofs.lemmas.Bool.{eqb-true, eqb-false}
use Rattle.sf_refusal.specs.declared.rule.Rule.{Rule}
use Rattle.sf_refusal.specs.declared.rule.Rule.TheVariants.{BadByte, NumberTooLarge, OpenText}
use Rattle.sf_lex.specs.declared.piece.Start.{Start}
use Rattle.sf_lex.specs.declared.piece.Start.TheVariants as starts
use Rattle.sf_lex.specs.Words.{is_digit}
use Rattle.sf_lex.specs.Tokens.{keyword, name, number, text, symbol}
use Rattle.sf_decimal.specs.Decimals.{is_narrow}
use Rattle.sf_lex.specs.Cutting.{Piece, gap, token, fits, IsPiece, IsLongest, IsBody, escape_of, IsWrong, large, open_text, escape, nothing}
use Rattle.sf_lex.specs.Scanning.{piece, fail, next, next_by, start_of, text_next, closed_next, body_next, text_len, bad_escape, symbol_next, symbol_of, minus_next, begins_with_digit, in_range}
use Rattle.sf_lex.proofs.Pieces.{StartIs, start_is, next_at, next_stands, longest_from_next, next_from_longest, piece_some, reach, reaches}
use Rattle.sf_lex.proofs.Texts.{text_len_closes, text_len_body, bad_escape_wrong, FoundBy, bad_escape_by}

-- the fault is found, and no later than k
pub record Found (bytes : List ℕ) (k : ℕ) (fault : Rule) : Type 0 where
  pub at : ℕ
  pub is : in_range (next bytes) ≡ fail fault at
  pub early : at ≤ k

pub fault_of_number : (bytes : List ℕ) (n : ℕ) (z : ℤ) → next bytes ≡ piece (token (number z)) n → is_narrow z ≡ false → in_range (next bytes) ≡ fail NumberTooLarge 0
fault_of_number bytes n z e wide = ap in_range e ∙ ap (λ t. cond t (piece (token (number z)) n) (fail NumberTooLarge 0)) wide

-- behind a byte that is no quote only the byte itself is wrong
fault_at_start : (s : Start) (b : ℕ) (bytes : List ℕ) (f : Rule) (k : ℕ) → StartIs s b → b ≢ 34 → next_by s b bytes ≡ fail f k → (f ≡ BadByte) × (k ≡ 0)
fault_at_start starts.Blank b bytes f k h n e = cc
fault_at_start starts.Comment b bytes f k h n e = cc
fault_at_start starts.Letter b bytes f k h n e = cc
fault_at_start starts.Underscore b bytes f k h n e = cc
fault_at_start starts.Digit b bytes f k h n e = cc
fault_at_start starts.Quote b bytes f k h n e = absurd (n h)
fault_at_start starts.Other b bytes f k h n e =
    (elim (b == 45 && begins_with_digit bytes) as (λ t. cond t (minus_next (prefix_len is_digit bytes) bytes) (symbol_next (symbol_of (b ∷ bytes))) ≡ fail f k → (f ≡ BadByte) × (k ≡ 0)) [
      | true ↦ λ g. cc
      | false ↦ λ g. (elim (symbol_of (b ∷ bytes)) as (λ o. symbol_next o ≡ fail f k → (f ≡ BadByte) × (k ≡ 0)) [
        | Some s ↦ λ i. cc
        | None ↦ λ i. (cc, cc)
      ]) g
    ]) e

quote_next : (bytes : List ℕ) → next (34 ∷ bytes) ≡ text_next bytes
quote_next bytes = next_at 34 bytes starts.Quote refl

body_id : (inner rest : List ℕ) → IsBody inner → text_next (inner ++ 34 ∷ rest) ≡ body_next inner (bad_escape 0 false inner)
body_id inner rest b =
    ap (closed_next (inner ++ 34 ∷ rest)) (text_len_body 0 inner rest b ∙ ap Some (omega arith))
    ∙ ap (λ x. body_next x (bad_escape 0 false x)) (take_at inner (34 ∷ rest) (length inner) refl)

open_found : (body : List ℕ) → ((inner rest : List ℕ) → IsBody inner → body ≢ inner ++ 34 ∷ rest) → Found (34 ∷ body) 0 OpenText
open_found body h =
    (elim (text_len 0 false body) as (λ o. text_len 0 false body ≡ o → Found (34 ∷ body) 0 OpenText) [
      | Some m ↦ λ e. (let c = text_len_closes 0 false body m e in absurd (h c.inner c.rest c.body c.is))
      | None ↦ λ e. record { at = 0; is = ap in_range (quote_next body ∙ ap (closed_next body) e); early = omega arith }
    ]) refl

escape_found : (inner before behind rest : List ℕ) (c : ℕ) → IsBody inner → inner ≡ before ++ 92 ∷ c ∷ behind → IsBody before → escape_of c ≡ None → Found (34 ∷ (inner ++ 34 ∷ rest)) (length before + 2) BadByte
escape_found inner before behind rest c body is front none =
    let found : FoundBy 0 inner (0 + length before + 1) = subst (λ (x : List ℕ). FoundBy 0 x (0 + length before + 1)) (sym is) (bad_escape_by 0 c before behind front none) in
    record {
      at = found.at + 1;
      is = ap in_range (quote_next (inner ++ 34 ∷ rest) ∙ body_id inner rest body ∙ ap (body_next inner) found.is);
      early = omega (arith, found.early);
    }

nothing_found : (b : ℕ) (rest : List ℕ) → b ≢ 34 → ((p : Piece) (n : ℕ) → n ≤ length (b ∷ rest) → IsPiece p (take n (b ∷ rest)) → ⊥) → Found (b ∷ rest) 0 BadByte
nothing_found b rest n none =
    (elim (next (b ∷ rest)) as (λ x. next (b ∷ rest) ≡ x → Found (b ∷ rest) 0 BadByte) [
      | piece p m ↦ λ e. (let s = next_stands (b ∷ rest) p m e in absurd (none p m s.within s.is))
      | fail f k ↦ λ e.
          (let h = fault_at_start (start_of b) b rest f k (start_is b) n (sym (next_at b rest (start_of b) refl) ∙ e) in
          record { at = k; is = ap in_range e ∙ ap (λ (x : Rule). fail x k) h.0; early = omega (arith, h.1) })
    ]) refl

pub wrong_found : (bytes : List ℕ) (k : ℕ) (f : Rule) → IsWrong bytes k f → Found bytes k f
wrong_found bytes k f (large {n = n} {z = z} l wide) = record { at = 0; is = fault_of_number bytes n z (next_from_longest bytes (token (number z)) n l) wide; early = omega arith }
wrong_found bytes k f (open_text {body = body} h) = open_found body h
wrong_found bytes k f (escape inner before behind rest c body is front none) = escape_found inner before behind rest c body is front none
wrong_found bytes k f (nothing {b = b} {rest = rest} n none) = nothing_found b rest n none

wrong_at : (bytes : List ℕ) (f g : Rule) (j k : ℕ) → fail g j ≡ fail f k → IsWrong bytes j g → IsWrong bytes k f
wrong_at bytes f g j k e w =
    let same : g ≡ f = cc in let place : j ≡ k = cc in
    subst (λ (x : Rule). IsWrong bytes k x) same (subst (λ (x : ℕ). IsWrong bytes x g) place w)

text_wrong : (bytes : List ℕ) (f : Rule) (k : ℕ) → text_next bytes ≡ fail f k → IsWrong (34 ∷ bytes) k f
text_wrong bytes f k e =
    (elim (text_len 0 false bytes) as (λ o. text_len 0 false bytes ≡ o → closed_next bytes o ≡ fail f k → IsWrong (34 ∷ bytes) k f) [
      | None ↦ λ is g. wrong_at (34 ∷ bytes) f OpenText 0 k g (open_text (λ inner rest body same.
          (let found : text_len 0 false bytes ≡ Some (0 + length inner) = ap (text_len 0 false) same ∙ text_len_body 0 inner rest body in cc)))
      | Some m ↦ λ is g.
          (let c = text_len_closes 0 false bytes m is in
          let front : take m bytes ≡ c.inner = ap (take m) c.is ∙ take_at c.inner (34 ∷ c.rest) m (omega (arith, c.at)) in
          let h : body_next c.inner (bad_escape 0 false c.inner) ≡ fail f k = rw front at g in
          subst (λ (x : List ℕ). IsWrong (34 ∷ x) k f) (sym c.is) (body_wrong c.inner c.rest c.body h))
    ]) refl e
  where
    body_wrong : (inner rest : List ℕ) → IsBody inner → body_next inner (bad_escape 0 false inner) ≡ fail f k → IsWrong (34 ∷ (inner ++ 34 ∷ rest)) k f
    body_wrong inner rest body h =
        (elim (bad_escape 0 false inner) as (λ o. bad_escape 0 false inner ≡ o → body_next inner o ≡ fail f k → IsWrong (34 ∷ (inner ++ 34 ∷ rest)) k f) [
          | None ↦ λ is g. cc
          | Some j ↦ λ is g.
              (let w = bad_escape_wrong 0 inner j body is in
              let place : length w.before + 2 ≡ j + 1 = omega (arith, w.at) in
              wrong_at (34 ∷ (inner ++ 34 ∷ rest)) f BadByte (length w.before + 2) k (ap (fail BadByte) place ∙ g) (escape inner w.before w.behind rest w.char body w.is w.body w.none))
        ]) refl h

number_wrong : (bytes : List ℕ) (p : Piece) (n : ℕ) → IsLongest bytes p n → fits p ≡ false → IsWrong bytes 0 NumberTooLarge
number_wrong bytes (token (number z)) n l e = large l e
number_wrong bytes (token (keyword k)) n l e = cc
number_wrong bytes (token (name k)) n l e = cc
number_wrong bytes (token (text k)) n l e = cc
number_wrong bytes (token (symbol k)) n l e = cc
number_wrong bytes gap n l e = cc

fault_wrong : (b : ℕ) (rest : List ℕ) (f : Rule) (k : ℕ) → next (b ∷ rest) ≡ fail f k → IsWrong (b ∷ rest) k f
fault_wrong b rest f k e =
    (elim (b == 34) as (λ t. b == 34 ≡ t → IsWrong (b ∷ rest) k f) [
      | true ↦ λ is.
          (let same = eqb-true b 34 is in
          let g : text_next rest ≡ fail f k = sym (quote_next rest) ∙ ap (λ x. next (x ∷ rest)) (sym same) ∙ e in
          subst (λ (x : ℕ). IsWrong (x ∷ rest) k f) (sym same) (text_wrong rest f k g))
      | false ↦ λ is.
          (let h = fault_at_start (start_of b) b rest f k (start_is b) (eqb-false b 34 is) (sym (next_at b rest (start_of b) refl) ∙ e) in
          let g : fail BadByte 0 ≡ fail f k = cc in
          wrong_at (b ∷ rest) f BadByte 0 k g (nothing (eqb-false b 34 is) (λ p n within i.
          (let far = reaches p (take n (b ∷ rest)) (drop n (b ∷ rest)) i in
          let at : reach (next (take n (b ∷ rest) ++ drop n (b ∷ rest))) ≡ 0 = ap (λ x. reach (next x)) (take-append-drop n (b ∷ rest)) ∙ ap reach e in
          let some = piece_some p (take n (b ∷ rest)) i in
          absurd (omega arith)))))
    ]) refl

pub scan_wrong : (bytes : List ℕ) (f : Rule) (k : ℕ) → 0 < length bytes → in_range (next bytes) ≡ fail f k → IsWrong bytes k f
scan_wrong [] f k l e = absurd (omega arith)
scan_wrong (b ∷ rest) f k l e =
    (elim (next (b ∷ rest)) as (λ x. next (b ∷ rest) ≡ x → in_range x ≡ fail f k → IsWrong (b ∷ rest) k f) [
      | fail g j ↦ λ is h. fault_wrong b rest f k (is ∙ h)
      | piece p n ↦ λ is h.
          (elim (fits p) as (λ t. fits p ≡ t → cond t (piece p n) (fail NumberTooLarge 0) ≡ fail f k → IsWrong (b ∷ rest) k f) [
            | true ↦ λ narrowed i. cc
            | false ↦ λ wide i. wrong_at (b ∷ rest) f NumberTooLarge 0 k i (number_wrong (b ∷ rest) p n (longest_from_next (b ∷ rest) p n is) wide)
          ]) refl h
    ]) refl e

pub wrong_within : (bytes : List ℕ) (k : ℕ) (f : Rule) → IsWrong bytes k f → k < length bytes
wrong_within bytes k f (large {n = n} {z = z} l wide) = let some = piece_some (token (number z)) (take n bytes) l.is in omega (arith, length-take n bytes)
wrong_within bytes k f (open_text h) = omega arith
wrong_within bytes k f (escape inner before behind rest c body is front none) =
    let long = ap length is in
    let e : length (inner ++ 34 ∷ rest) ≡ length inner + suc (length rest) = length-append inner (34 ∷ rest) in
    let g : length (before ++ 92 ∷ c ∷ behind) ≡ length before + suc (suc (length behind)) = length-append before (92 ∷ c ∷ behind) in
    omega arith
wrong_within bytes k f (nothing n none) = omega arith

-- a piece that is found is the longest, and fits
pub scan_longest : (bytes : List ℕ) (p : Piece) (n : ℕ) → in_range (next bytes) ≡ piece p n → IsLongest bytes p n × (fits p ≡ true)
scan_longest bytes p n e =
    (elim (next bytes) as (λ x. next bytes ≡ x → in_range x ≡ piece p n → IsLongest bytes p n × (fits p ≡ true)) [
      | fail g j ↦ λ is h. cc
      | piece q m ↦ λ is h.
          (elim (fits q) as (λ t. fits q ≡ t → cond t (piece q m) (fail NumberTooLarge 0) ≡ piece p n → IsLongest bytes p n × (fits p ≡ true)) [
            | true ↦ λ narrowed i. (let same : q ≡ p = cc in (longest_from_next bytes p n (is ∙ i), ap fits (sym same) ∙ narrowed))
            | false ↦ λ wide i. cc
          ]) refl h
    ]) refl e

pub longest_scan : (bytes : List ℕ) (p : Piece) (n : ℕ) → IsLongest bytes p n → fits p ≡ true → in_range (next bytes) ≡ piece p n
longest_scan bytes p n l e = ap in_range (next_from_longest bytes p n l) ∙ ap (λ t. cond t (piece p n) (fail NumberTooLarge 0)) e
