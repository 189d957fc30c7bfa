-- Each bytes have tokens, or a first fault.
use Rattle.std.proofs.Common.{◌≡◌, ◌⊎◌, ℕ, zero, suc, ◌+◌, ◌-◌, ◌<◌, ◌≤◌, true, false, List, [], ◌∷◌, ◌++◌, length, take, drop, nat_le, refl, sym, subst, arith, inl, inr}
use Rattle.std.specs.Str.{IsUtf8, is_utf8}
use Rattle.std.proofs.lemmas.Bool.{leb-true, leb-false}
use Rattle.std.proofs.lemmas.List.{take_all, drop_all}
use Rattle.std.proofs.lemmas.Str.{IsUtf8-nil, IsUtf8-from_is_utf8, is_utf8-from_IsUtf8}
use Rattle.sf_refusal.specs.Refusals.{first_spot, breach_of}
use Rattle.sf_refusal.specs.declared.rule.Rule.TheVariants.{TooLong}
use Rattle.sf_refusal.specs.declared.refusal.Breach.{Breach}
use Rattle.sf_lex.specs.Tokens.{Located, offset_place}
use Rattle.sf_lex.specs.Cutting.{located, IsCutInto, here, byte_limit, Lexes, IsValidLen, IsCutTo, BreaksLexis, too_long, at_fault}
use Rattle.sf_lex.specs.Scanning.{piece, fail, next, in_range, within}
use Rattle.sf_lex.proofs.Cuts.{breaks_first}
use Rattle.sf_lex.proofs.Runs.{step_from, cut_on, valid_all}

-- the longest front of the bytes that is UTF-8, of at most m bytes
record Front (bytes : List ℕ) (m : ℕ) : Type 0 where
  at : ℕ
  low : at ≤ m
  utf8 : IsUtf8 (take at bytes)
  longest : (k : ℕ) → at < k → ¬ (IsUtf8 (take k bytes))

no_utf8 : (bytes : List ℕ) → is_utf8 bytes ≡ false → ¬ (IsUtf8 bytes)
no_utf8 bytes none u = let is = is_utf8-from_IsUtf8 bytes u in cc

no_further : (bytes : List ℕ) (m : ℕ) → is_utf8 (take (suc m) bytes) ≡ false → ((k : ℕ) → suc m < k → ¬ (IsUtf8 (take k bytes))) → (k : ℕ) → m < k → ¬ (IsUtf8 (take k bytes))
no_further bytes m none over k far =
    (elim (nat_le k (suc m)) as (λ t. nat_le k (suc m) ≡ t → ¬ (IsUtf8 (take k bytes))) [
      | true ↦ λ is. (let same : suc m ≡ k = omega (arith, leb-true k (suc m) is) in subst (λ (n : ℕ). ¬ (IsUtf8 (take n bytes))) same (no_utf8 (take (suc m) bytes) none))
      | false ↦ λ is. over k (omega (arith, leb-false k (suc m) is))
    ]) refl

front_of : (bytes : List ℕ) (m : ℕ) → ((k : ℕ) → m < k → ¬ (IsUtf8 (take k bytes))) → Front bytes m
front_of bytes zero over = record { at = 0; low = omega arith; utf8 = IsUtf8-nil; longest = over }
front_of bytes (suc m) over =
    (elim (is_utf8 (take (suc m) bytes)) as (λ t. is_utf8 (take (suc m) bytes) ≡ t → Front bytes (suc m)) [
      | true ↦ λ is. record { at = suc m; low = omega arith; utf8 = IsUtf8-from_is_utf8 (take (suc m) bytes) is; longest = over }
      | false ↦ λ is. (let f = front_of bytes m (no_further bytes m is over) in record { at = f.at; low = omega (arith, f.low); utf8 = f.utf8; longest = f.longest })
    ]) refl

valid_of : (bytes : List ℕ) → (n : ℕ) × IsValidLen bytes n
valid_of [] = (0, inl (IsUtf8-nil, refl))
valid_of (b ∷ rest) =
    (elim (is_utf8 (b ∷ rest)) as (λ t. is_utf8 (b ∷ rest) ≡ t → (n : ℕ) × IsValidLen (b ∷ rest) n) [
      | true ↦ λ is. (length (b ∷ rest), inl (IsUtf8-from_is_utf8 (b ∷ rest) is, refl))
      | false ↦ λ is.
          (let over : (k : ℕ) → length rest < k → ¬ (IsUtf8 (take k (b ∷ rest))) = λ k far.
          subst (λ (x : List ℕ). ¬ (IsUtf8 x)) (sym (take_all k (b ∷ rest) (omega arith))) (no_utf8 (b ∷ rest) is) in
          let f = front_of (b ∷ rest) (length rest) over in
          (f.at, inr (record { short = omega (arith, f.low); front = f.utf8; longest = f.longest })))
    ]) refl

abbrev pub HasAnswer : List ℕ → Type 0
HasAnswer bytes = ((found : List Located) × Lexes bytes found) ⊎ ((b : Breach) × BreaksLexis bytes b)

ended : (bytes : List ℕ) (at valid : ℕ) → length bytes ≤ byte_limit → IsValidLen bytes valid → IsCutTo bytes at → length bytes ≤ at → at ≤ valid → HasAnswer bytes
ended bytes at valid short v c far low =
    inl (
      c.found,
      record {
        short = short;
        utf8 = valid_all bytes valid v (omega arith);
        end = at;
        cut = subst (λ (x : List ℕ). IsCutInto 0 bytes c.found at x) (drop_all at bytes far) c.cut;
      },
    )

answer_from : (fuel : ℕ) (bytes : List ℕ) (at valid : ℕ) → length bytes ≤ byte_limit → IsValidLen bytes valid → IsCutTo bytes at → length bytes ≤ at + fuel → at ≤ valid → HasAnswer bytes
answer_from zero bytes at valid short v c long low = ended bytes at valid short v c (omega arith) low
answer_from (suc fuel) bytes at valid short v c long low =
    (elim (nat_le (length bytes) at) as (λ t. nat_le (length bytes) at ≡ t → HasAnswer bytes) [
      | true ↦ λ is. ended bytes at valid short v c (leb-true (length bytes) at is) low
      | false ↦ λ is.
          (elim (within (valid - at) (in_range (next (drop at bytes)))) as (λ x. within (valid - at) (in_range (next (drop at bytes))) ≡ x → HasAnswer bytes) [
            | piece p n ↦ λ e.
                (let s = step_from bytes (drop at bytes) at valid n p (in_range (next (drop at bytes))) (within (valid - at) (in_range (next (drop at bytes)))) refl refl refl e low in
                answer_from fuel bytes (at + n) valid short v (record { found = c.found ++ located at p []; cut = cut_on bytes at valid n p c.found s c.cut }) (omega (arith, s.some)) s.near)
            | fail f k ↦ λ e. inr (breach_of f (offset_place bytes (at + k)), at_fault (breaks_first bytes at valid k f short c (leb-false (length bytes) at is) low v e))
          ]) refl
    ]) refl

-- each bytes have tokens, or break a rule of tokens
pub answered : (bytes : List ℕ) → HasAnswer bytes
answered bytes =
    (elim (nat_le (length bytes) byte_limit) as (λ t. nat_le (length bytes) byte_limit ≡ t → HasAnswer bytes) [
      | true ↦ λ is.
          (let v = valid_of bytes in
          answer_from (length bytes) bytes 0 v.0 (leb-true (length bytes) byte_limit is) v.1 (record { found = []; cut = here }) (omega arith) (omega arith))
      | false ↦ λ is. inr (breach_of TooLong first_spot, too_long (leb-false (length bytes) byte_limit is) refl)
    ]) refl
