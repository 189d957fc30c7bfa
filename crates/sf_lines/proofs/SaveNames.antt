-- The names of saves, and the bytes in front of them.
use Rattle.std.proofs.Common.{◌≡◌, ◌≢◌, ◌⊎◌, ℕ, zero, suc, Bool, true, false, List, [], ◌∷◌, ◌++◌, Option, Some, None, MatchOption, Bor, refl, sym, ◌∙◌, ap, subst, arith, inl, inr, ⊎_elim}
use Rattle.std.specs.Prelude.{◌==◌}
use Rattle.std.specs.List.{list_all}
use Rattle.std.specs.Str.{IsUtf8, IsAscii}
use Rattle.std.proofs.lemmas.Bool.{and_parts, eqb-true, eqb-false, false≢true}
use Rattle.std.proofs.lemmas.Bool.Decides.{nat_tests}
use Rattle.std.proofs.lemmas.List.{append_cancel_left}
use Rattle.std.proofs.lemmas.Str.{IsUtf8-from_ascii}
use Rattle.sf_lex.specs.Words.{is_letter, is_word_byte, is_word}
use Rattle.sf_lines.specs.Asking.{IsSaveName}
use Rattle.sf_lines.specs.Parsing.{NameBehind, NoNameBehind}

bytes_small : (w : List ℕ) → list_all is_word_byte w ≡ true → IsAscii w
bytes_small [] a i = omega arith
bytes_small (b ∷ w) a zero = let h = and_parts (is_word_byte b) (list_all is_word_byte w) a in let e = h.0 in grind (arith, nat_tests)
bytes_small (b ∷ w) a (suc i) = bytes_small w (and_parts (is_word_byte b) (list_all is_word_byte w) a).1 i

word_small : (w : List ℕ) → is_word w ≡ true → IsAscii w
word_small [] a i = omega arith
word_small (b ∷ w) a zero = let h = and_parts (is_letter b) (list_all is_word_byte w) a in let e = h.0 in grind (arith, nat_tests)
word_small (b ∷ w) a (suc i) = bytes_small w (and_parts (is_letter b) (list_all is_word_byte w) a).1 i

-- a word is ASCII
pub word_utf8 : (w : List ℕ) → IsSaveName w → IsUtf8 w
word_utf8 w named = IsUtf8-from_ascii w (word_small w named)

-- bytes are a name behind others, or not
abbrev pub NameOr : List ℕ → List ℕ → Type 0
NameOr front line = ((name : List ℕ) × NameBehind front line name) ⊎ NoNameBehind front line

same_head : (f c : ℕ) (front line : List ℕ) → c ≡ f → NameOr front line → NameOr (f ∷ front) (c ∷ line)
same_head f c front line same named = ⊎_elim
    (λ (s : (name : List ℕ) × NameBehind front line name). inl (s.0, record { cut = ap (λ x. x ∷ line) same ∙ ap (λ x. f ∷ x) s.1.cut; named = s.1.named }))
    (λ (none : NoNameBehind front line). inr (λ name e w. let tails : line ≡ front ++ name = cc in none name tails w))
    named

other_head : (f c : ℕ) (front line : List ℕ) → c ≢ f → NoNameBehind (f ∷ front) (c ∷ line)
other_head f c front line other name e w = let same : c ≡ f = cc in other same

name_here : (line : List ℕ) (b : Bool) → is_word line ≡ b → NameOr [] line
name_here line true e = inl (line, record { cut = refl; named = e })
name_here line false e = inr (λ name same w. false≢true (sym e ∙ ap is_word same ∙ w))

pub name_or : (front line : List ℕ) → NameOr front line
name_or [] line = name_here line (is_word line) refl
name_or (f ∷ front) [] = inr (λ name e w. cc)
name_or (f ∷ front) (c ∷ line) =
    (elim (c == f) as (λ b. (c == f) ≡ b → NameOr (f ∷ front) (c ∷ line)) [
      | true ↦ λ e. same_head f c front line (eqb-true c f e) (name_or front line)
      | false ↦ λ e. inr (other_head f c front line (eqb-false c f e))
    ]) refl

-- what is behind the first bytes is a name, or not
pub name_found : (front bytes rest : List ℕ) (r : Option (Bor (List ℕ))) → bytes ≡ front ++ rest → MatchOption r (IsSaveName rest → ⊥) (λ word. IsSaveName rest × (word.now ≡ rest)) → MatchOption r (NoNameBehind front bytes) (λ name. NameBehind front bytes name.now)
name_found front bytes rest None e h = λ name same w. h (subst IsSaveName (append_cancel_left front name rest (sym same ∙ e)) w)
name_found front bytes rest (Some word) e h = record {
  cut = e ∙ ap (λ x. front ++ x) (sym h.1);
  named = subst IsSaveName (sym h.1) h.0;
}
