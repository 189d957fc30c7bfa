-- Each line says something.
use Rattle.std.proofs.Common.{◌≡◌, ◌≢◌, ◌⊎◌, ℕ, ◌<◌, min, Bool, true, false, List, [], ◌∷◌, ◌++◌, codes, length, Option, Some, None, Result, Ok, Err, refl, sym, ◌∙◌, ap, subst, arith, inl, inr, ⊎_elim, eq-zero-or-pos}
use Rattle.std.specs.Prelude.{◌==◌, nat_eq}
use Rattle.std.specs.Cmp.Lexicographic.{pointwise, same_text, other_text}
use Rattle.std.specs.Char.{is_ascii_digit}
use Rattle.std.specs.Str.Parse.{digits_value}
use Rattle.std.proofs.lemmas.Bool.{eqb-true, eqb-false}
use Rattle.sf_value.specs.Values.{Kind, Data}
use Rattle.sf_decimal.specs.Decimals.{natural, digits_at, after_digits}
use Rattle.sf_spelling.specs.Reading.{Refusal, Reads}
use Rattle.sf_spelling.specs.Scan.{scanned_value}
use Rattle.sf_spelling.proofs.Settled.{answer, reads}
use Rattle.sf_lines.specs.declared.refusal.LineRefusal.{LineRefusal}
use Rattle.sf_lines.specs.declared.refusal.LineRefusal.TheVariants.{BadLine, NotStarted}
use Rattle.sf_lines.specs.Asking.{LineForm, blank, sampled, repeated, saving, returning, HasForm, empty, comment, with_value, unchanged, with_save, with_back, Asked, nothing, advance, save, back, step_refusal, value_refusal, sample_asked, Says, formless, silent, untimely, unread, read, again, keeps, returns}
use Rattle.sf_lines.specs.Parsing.{step_cap, NumberThen, BeginsNoNumber, StepThen, BeginsNoStep, NameBehind, NoNameBehind}
use Rattle.sf_lines.proofs.SaveNames.{name_or}
use Rattle.sf_lines.proofs.Parsed.{none_empty, none_other, number_zero, number_some, no_step_none, no_step_empty, no_step_other, step_then, formless_none, formless_zero, blank_comment}

-- the bytes begin with a number, or with none
front : (bytes : List ℕ) → ((n : ℕ) × (rest : List ℕ) × NumberThen bytes n rest) ⊎ BeginsNoNumber bytes
front [] = inr (none_empty [] (omega arith))
front (c ∷ s) = by_digit (is_ascii_digit c) refl (c == 48) refl
  where
    by_digit : (d : Bool) → is_ascii_digit c ≡ d → (z : Bool) → (c == 48) ≡ z → ((n : ℕ) × (rest : List ℕ) × NumberThen (c ∷ s) n rest) ⊎ BeginsNoNumber (c ∷ s)
    by_digit false e z f = inr (none_other (c ∷ s) c s refl e)
    by_digit true e true f = inl (0, s, number_zero (c ∷ s) s (ap (λ x. x ∷ s) (eqb-true c 48 f)))
    by_digit true e false f =
        let n = min (digits_value 10 (digits_at (c ∷ s))) step_cap in
        inl (n, after_digits (c ∷ s), number_some (c ∷ s) c s n (after_digits (c ∷ s)) refl (eqb-false c 48 f) e refl refl)

-- and a space stands behind it, or does not
behind : (bytes : List ℕ) (n : ℕ) (rest : List ℕ) → NumberThen bytes n rest → ((m : ℕ) × (value : List ℕ) × StepThen bytes m value) ⊎ BeginsNoStep bytes
behind bytes n [] h = inr (no_step_empty bytes n [] h (omega arith))
behind bytes n (c ∷ value) h = by_space (c == 32) refl
  where
    by_space : (b : Bool) → (c == 32) ≡ b → ((m : ℕ) × (value : List ℕ) × StepThen bytes m value) ⊎ BeginsNoStep bytes
    by_space true e = inl (n, value, step_then bytes n (c ∷ value) value h (ap (λ x. x ∷ value) (eqb-true c 32 e)))
    by_space false e = inr (no_step_other bytes n (c ∷ value) c value h refl (eqb-false c 32 e))

step_at : (bytes : List ℕ) → ((n : ℕ) × (value : List ℕ) × StepThen bytes n value) ⊎ BeginsNoStep bytes
step_at bytes = ⊎_elim
    (λ (f : (n : ℕ) × (rest : List ℕ) × NumberThen bytes n rest). behind bytes f.0 f.1 f.2)
    (λ (none : BeginsNoNumber bytes). inr (no_step_none bytes none))
    (front bytes)

equals_or : (value : List ℕ) → (value ≡ codes "=") ⊎ (value ≢ codes "=")
equals_or value = at (pointwise nat_eq value (codes "=")) refl
  where
    at : (b : Bool) → b ≡ pointwise nat_eq value (codes "=") → (value ≡ codes "=") ⊎ (value ≢ codes "=")
    at true is = inl (same_text value (codes "=") is)
    at false is = inr (other_text value (codes "=") is)

-- a form, or none
abbrev FormOr : List ℕ → Type 0
FormOr line = ((f : LineForm) × HasForm line f) ⊎ ((f : LineForm) → HasForm line f → ⊥)

stepped : (line : List ℕ) (n : ℕ) (value : List ℕ) → (HasForm line blank → ⊥) → StepThen line n value → FormOr line
stepped line n value other s = ⊎_elim
    (λ (same : value ≡ codes "="). ⊎_elim
    (λ (none : s.step ≡ 0). inr (formless_zero line n value other s same (let capped = s.capped in omega arith)))
    (λ (some : 0 < s.step). inl (repeated s.step, unchanged (s.cut ∙ ap (λ x. natural s.step ++ 32 ∷ x) same) some))
    (eq-zero-or-pos s.step))
    (λ (differs : value ≢ codes "="). inl (sampled s.step value, with_value s.cut differs))
    (equals_or value)

form_or : (line : List ℕ) → FormOr line
form_or [] = inl (blank, empty)
form_or (c ∷ line) = by_comment (c == 35) refl
  where
    by_comment : (b : Bool) → (c == 35) ≡ b → FormOr (c ∷ line)
    by_comment true e = inl (blank, subst (λ x. HasForm (x ∷ line) blank) (sym (eqb-true c 35 e)) comment)
    by_comment false e =
        let other : HasForm (c ∷ line) blank → ⊥ = λ h. eqb-false c 35 e ((blank_comment (c ∷ line) c line refl).1 h) in
        ⊎_elim
        (λ (s : (name : List ℕ) × NameBehind (codes "save ") (c ∷ line) name). inl (saving s.0, with_save s.1.cut s.1.named))
        (λ (no_save : NoNameBehind (codes "save ") (c ∷ line)). ⊎_elim
        (λ (s : (name : List ℕ) × NameBehind (codes "back ") (c ∷ line) name). inl (returning s.0, with_back s.1.cut s.1.named))
        (λ (no_back : NoNameBehind (codes "back ") (c ∷ line)). ⊎_elim
        (λ (s : (n : ℕ) × (value : List ℕ) × StepThen (c ∷ line) n value). stepped (c ∷ line) s.0 s.1 other s.2)
        (λ (none : BeginsNoStep (c ∷ line)). inr (formless_none (c ∷ line) other no_save no_back none))
        (step_at (c ∷ line)))
        (name_or (codes "back ") (c ∷ line)))
        (name_or (codes "save ") (c ∷ line))

module _ (s : Bool) (k : Kind) (line : List ℕ) where
  valued : (d : ℕ) (value : List ℕ) → HasForm line (sampled d value) → step_refusal s d ≡ None → (r : Result Data Refusal) → Reads k value r → (a : Result Asked LineRefusal) × Says s k line a
  valued d value h timely (Ok x) is = (Ok (sample_asked d x), read h timely is)
  valued d value h timely (Err r) is = (Err (value_refusal r), unread r h timely is)

  at_step : (d : ℕ) (value : List ℕ) → HasForm line (sampled d value) → (o : Option LineRefusal) → step_refusal s d ≡ o → (a : Result Asked LineRefusal) × Says s k line a
  at_step d value h (Some r) e = (Err r, untimely h e)
  at_step d value h None e = valued d value h e (answer (length value) (scanned_value k value)) (reads k value)

  once_more : (d : ℕ) → HasForm line (repeated d) → (o : Option LineRefusal) → step_refusal s d ≡ o → (a : Result Asked LineRefusal) × Says s k line a
  once_more d h (Some r) e = (Err r, untimely h e)
  once_more d h None e = (Ok (advance d None), again h e)

  kept : (name : List ℕ) → HasForm line (saving name) → (b : Bool) → s ≡ b → (a : Result Asked LineRefusal) × Says s k line a
  kept name h true e = (Ok (save name), keeps h e)
  kept name h false e = (Err NotStarted, untimely h (rw e refl))

  returned : (name : List ℕ) → HasForm line (returning name) → (b : Bool) → s ≡ b → (a : Result Asked LineRefusal) × Says s k line a
  returned name h true e = (Ok (back name), returns h e)
  returned name h false e = (Err NotStarted, untimely h (rw e refl))

  answered : (form : LineForm) → HasForm line form → (a : Result Asked LineRefusal) × Says s k line a
  answered blank h = (Ok nothing, silent h)
  answered (sampled d value) h = at_step d value h (step_refusal s d) refl
  answered (repeated d) h = once_more d h (step_refusal s d) refl
  answered (saving name) h = kept name h s refl
  answered (returning name) h = returned name h s refl

  -- a line asks for something or is refused
  pub some_answer : (a : Result Asked LineRefusal) × Says s k line a
  some_answer = ⊎_elim
      (λ (f : (f : LineForm) × HasForm line f). answered f.0 f.1)
      (λ (none : (f : LineForm) → HasForm line f → ⊥). (Err BadLine, formless none))
      (form_or line)
