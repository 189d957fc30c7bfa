-- Keys of one spelling are one key.
use Rattle.std.proofs.Common.{◌≡◌, ℕ, zero, suc, ◌<◌, ℤ, pos, negsuc, Bool, true, false, cond, List, [], ◌∷◌, ◌++◌, Ok, Err, refl, sym, ap, subst, ◌∙◌, arith, append_assoc}
use Rattle.std.specs.Prelude.{◌==◌, if◌then◌else◌}
use Rattle.std.specs.List.{flat_map}
use Rattle.sf_value.specs.Values.{KeyData, number_key, text_key}
use Rattle.sf_decimal.specs.Decimals.{integer, BeginsNoDigit, signed}
use Rattle.sf_spelling.specs.Spelling.{escaped, quoted, key_spelling}
use Rattle.sf_spelling.specs.Scan.{bad, Scanned, ◌>>=◌, positive_at}
use Rattle.sf_decimal.proofs.Numbers.{natural_small}
use Rattle.sf_decimal.proofs.Digits.{numeral}
use Rattle.sf_spelling.proofs.Texts.{is_eq}
use Rattle.sf_spelling.proofs.Integers.{positive_read, not_minus, not_zero}

-- a whole number of any size
abbrev pub whole_at : List ℕ → Scanned ℤ
whole_at [] = Err (bad [])
whole_at (c ∷ s) = if c == 45 then (positive_at s >>= λ n. Ok (signed true n.0, n.1)) else (if c == 48 then Ok (pos 0, s) else (positive_at (c ∷ s) >>= λ n. Ok (pos n.0, n.1)))

plain_at : (c : ℕ) (t : List ℕ) (n : ℕ) (more : List ℕ) → 48 < c → positive_at (c ∷ t) ≡ Ok (n, more) → whole_at (c ∷ t) ≡ Ok (pos n, more)
plain_at c t n more l e = rw (not_minus c l, not_zero c l) (ap (λ o. o >>= (λ m. Ok (pos m.0, m.1))) e)

pub whole_read : (z : ℤ) (more : List ℕ) → BeginsNoDigit more → whole_at (integer z ++ more) ≡ Ok (z, more)
whole_read (pos zero) more b = rw (natural_small 0 (omega arith)) refl
whole_read (pos (suc n)) more b =
    let r = numeral (suc n) (omega arith) in
    subst (λ x. whole_at (x ++ more) ≡ Ok (pos (suc n), more)) (sym r.is)
    (plain_at r.head (r.tail ++ more) (suc n) more (omega (arith, r.low)) (subst (λ x. positive_at (x ++ more) ≡ Ok (suc n, more)) r.is (positive_read (suc n) more (omega arith) b)))
whole_read (negsuc n) more b =
    ap (λ o. o >>= (λ m. Ok (signed true m.0, m.1))) (positive_read (suc n) more (omega arith) b)

pub one_answer : (o q : Scanned ℤ) (m n : ℤ) (r s : List ℕ) → o ≡ Ok (m, r) → o ≡ q → q ≡ Ok (n, s) → (m ≡ n) × (r ≡ s)
one_answer o q m n r s a e b = let is : (m, r) ≡ (n, s) = cc in (ap (λ (p : ℤ × List ℕ). p.0) is, ap (λ (p : ℤ × List ℕ). p.1) is)

-- the text up to the closing quote and what stands behind it, where a backslash stood before or not
abbrev cut_text : Bool → List ℕ → List ℕ × List ℕ
cut_text b [] = ([], [])
cut_text true (c ∷ s) = let r = cut_text false s in (cond (c == 110) 10 c ∷ r.0, r.1)
cut_text false (c ∷ s) = cond (c == 34) ([], s) (cond (c == 92) (cut_text true s) (let r = cut_text false s in (c ∷ r.0, r.1)))

text_cut : (v r : List ℕ) → cut_text false (flat_map escaped v ++ (34 ∷ r)) ≡ (v, r)
text_cut [] r = refl
text_cut (c ∷ v) r = each (c == 34) refl (c == 92) refl (c == 10) refl (text_cut v r)
  where
    each : (p : Bool) → (c == 34) ≡ p → (q : Bool) → (c == 92) ≡ q → (o : Bool) → (c == 10) ≡ o → cut_text false (flat_map escaped v ++ (34 ∷ r)) ≡ (v, r)
        → cut_text false (flat_map escaped (c ∷ v) ++ (34 ∷ r)) ≡ (c ∷ v, r)
    each true e q f o g h = subst (λ c. cut_text false (flat_map escaped (c ∷ v) ++ (34 ∷ r)) ≡ (c ∷ v, r)) (sym (is_eq c 34 e)) (ap (λ (p : List ℕ × List ℕ). (34 ∷ p.0, p.1)) h)
    each false e true f o g h = subst (λ c. cut_text false (flat_map escaped (c ∷ v) ++ (34 ∷ r)) ≡ (c ∷ v, r)) (sym (is_eq c 92 f)) (ap (λ (p : List ℕ × List ℕ). (92 ∷ p.0, p.1)) h)
    each false e false f true g h = subst (λ c. cut_text false (flat_map escaped (c ∷ v) ++ (34 ∷ r)) ≡ (c ∷ v, r)) (sym (is_eq c 10 g)) (ap (λ (p : List ℕ × List ℕ). (10 ∷ p.0, p.1)) h)
    each false e false f false g h =
        let alone : escaped c ≡ c ∷ [] = rw (e, f, g) refl in
        let step : cut_text false (c ∷ (flat_map escaped v ++ (34 ∷ r))) ≡ (c ∷ v, r) = rw (e, f) (ap (λ (p : List ℕ × List ℕ). (c ∷ p.0, p.1)) h) in
        ap (λ u. cut_text false ((u ++ flat_map escaped v) ++ (34 ∷ r))) alone ∙ step

cut_same : (x y : List ℕ) → x ≡ y → cut_text false x ≡ cut_text false y
cut_same x y e = ap (cut_text false) e

parts_same : (p q : List ℕ × List ℕ) → p ≡ q → (p.0 ≡ q.0) × (p.1 ≡ q.1)
parts_same p q e = (ap (λ (r : List ℕ × List ℕ). r.0) e, ap (λ (r : List ℕ × List ℕ). r.1) e)

closed : (v r : List ℕ) → quoted v ++ r ≡ 34 ∷ (flat_map escaped v ++ (34 ∷ r))
closed v r = ap (λ u. 34 ∷ u) (append_assoc (flat_map escaped v) (34 ∷ []) r)

pub text_together : (v w r s : List ℕ) → quoted v ++ r ≡ quoted w ++ s → (v ≡ w) × (r ≡ s)
text_together v w r s e =
    let quotes : 34 ∷ (flat_map escaped v ++ (34 ∷ r)) ≡ 34 ∷ (flat_map escaped w ++ (34 ∷ s)) = sym (closed v r) ∙ e ∙ closed w s in
    let tails : flat_map escaped v ++ (34 ∷ r) ≡ flat_map escaped w ++ (34 ∷ s) = cc in
    parts_same (v, r) (w, s) (sym (text_cut v r) ∙ cut_same _ _ tails ∙ text_cut w s)

pub one_key : (k l : KeyData) → key_spelling k ≡ key_spelling l → k ≡ l
one_key (number_key y) (number_key z) e =
    ap number_key (one_answer (whole_at (integer y ++ [])) (whole_at (integer z ++ [])) y z [] [] (whole_read y [] tt) (ap (λ x. whole_at (x ++ [])) e) (whole_read z [] tt)).0
one_key (text_key v) (text_key w) e = ap text_key (text_together v w [] [] (ap (λ x. x ++ []) e)).0
one_key (number_key y) (text_key w) e = let is = sym (whole_read y [] tt) ∙ ap (λ x. whole_at (x ++ [])) e in absurd cc
one_key (text_key v) (number_key z) e = let is = sym (whole_read z [] tt) ∙ ap (λ x. whole_at (x ++ [])) (sym e) in absurd cc
