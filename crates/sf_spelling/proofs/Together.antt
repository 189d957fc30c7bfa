-- Values of one spelling are one value.
use Rattle.std.proofs.Common.{◌≡◌, ℕ, zero, suc, ◌<◌, ℤ, pos, negsuc, Bool, true, false, cond, List, [], ◌∷◌, ◌++◌, refl, sym, ap, subst, ◌∙◌, arith, append_assoc, append-nil}
use mathlib.Core.Path.{ap₂}
use Rattle.std.specs.Prelude.{◌==◌}
use Rattle.std.proofs.lemmas.Bool.{false≢true}
use Rattle.std.proofs.lemmas.Bool.Decides.{nat_tests}
use Rattle.sf_value.specs.Values.{KeyData, number_key, text_key, Data, unit, truth, number, text, pair, no_event, event, table, Rows, no_rows, row}
use Rattle.sf_decimal.specs.Decimals.{BeginsNoDigit}
use Rattle.sf_decimal.specs.Decimals.{integer}
use Rattle.sf_spelling.specs.Spelling.{key_spelling, spelling, rows_spelling, more_spelling}
use Rattle.sf_decimal.proofs.Numbers.{natural_small}
use Rattle.sf_decimal.proofs.Digits.{numeral}
use Rattle.sf_spelling.proofs.Unmixed.{whole_at, whole_read, one_answer, text_together}

-- what a first byte, and a second behind a bracket, say of the value
abbrev tag_behind : List ℕ → ℕ
tag_behind [] = 9
tag_behind (c ∷ s) = cond (c == 41) 0 4

abbrev tag_at : List ℕ → ℕ
tag_at [] = 9
tag_at (c ∷ s) = cond (c == 40) (tag_behind s) (cond (c == 116) 1 (cond (c == 102) 1 (cond (c == 34) 3 (cond (c == 110) 5 (cond (c == 101) 6 (cond (c == 123) 7 2))))))

abbrev tag : Data → ℕ
tag unit = 0
tag (truth b) = 1
tag (number z) = 2
tag (text s) = 3
tag (pair x y) = 4
tag no_event = 5
tag (event x) = 6
tag (table rs) = 7

digit_tag : (c : ℕ) (s : List ℕ) → c < 58 → 44 < c → tag_at (c ∷ s) ≡ 2
digit_tag c s h l = grind (arith, nat_tests)

number_tag : (z : ℤ) (r : List ℕ) → tag_at (integer z ++ r) ≡ 2
number_tag (pos zero) r = subst (λ x. tag_at (x ++ r) ≡ 2) (sym (natural_small 0 (omega arith))) refl
number_tag (pos (suc n)) r = let q = numeral (suc n) (omega arith) in subst (λ x. tag_at (x ++ r) ≡ 2) (sym q.is) (digit_tag q.head (q.tail ++ r) q.high (omega (arith, q.low)))
number_tag (negsuc n) r = refl

not_close : (x : Data) (s : List ℕ) → tag_behind (spelling x ++ s) ≡ 4
not_close unit s = refl
not_close (truth true) s = refl
not_close (truth false) s = refl
not_close (number (pos zero)) s = subst (λ x. tag_behind (x ++ s) ≡ 4) (sym (natural_small 0 (omega arith))) refl
not_close (number (pos (suc n))) s = let q = numeral (suc n) (omega arith) in subst (λ x. tag_behind (x ++ s) ≡ 4) (sym q.is) (digit_open q.head (q.tail ++ s) (omega (arith, q.low)))
  where
    digit_open : (c : ℕ) (s : List ℕ) → 44 < c → tag_behind (c ∷ s) ≡ 4
    digit_open c s h = grind (arith, nat_tests)
not_close (number (negsuc n)) s = refl
not_close (text t) s = refl
not_close (pair x y) s = refl
not_close no_event s = refl
not_close (event x) s = refl
not_close (table rs) s = refl

regroup : (x y r : List ℕ) → ((40 ∷ x) ++ (44 ∷ y) ++ 41 ∷ []) ++ r ≡ 40 ∷ (x ++ (44 ∷ (y ++ (41 ∷ r))))
regroup x y r = simp append_assoc

opened : (v w : Data) (r : List ℕ) → spelling (pair v w) ++ r ≡ 40 ∷ (spelling v ++ (44 ∷ (spelling w ++ (41 ∷ r))))
opened v w r = regroup (spelling v) (spelling w) r

tag_is : (v : Data) (r : List ℕ) → tag_at (spelling v ++ r) ≡ tag v
tag_is unit r = refl
tag_is (truth true) r = refl
tag_is (truth false) r = refl
tag_is (number z) r = number_tag z r
tag_is (text t) r = refl
tag_is (pair x y) r = ap tag_at (opened x y r) ∙ not_close x (44 ∷ (spelling y ++ (41 ∷ r)))
tag_is no_event r = refl
tag_is (event x) r = refl
tag_is (table rs) r = refl

key_together : (k l : KeyData) (r s : List ℕ) → BeginsNoDigit r → BeginsNoDigit s → key_spelling k ++ r ≡ key_spelling l ++ s → (k ≡ l) × (r ≡ s)
key_together (number_key y) (number_key z) r s b d e =
    let is = one_answer (whole_at (integer y ++ r)) (whole_at (integer z ++ s)) y z r s (whole_read y r b) (ap whole_at e) (whole_read z s d) in
    (ap number_key is.0, is.1)
key_together (text_key v) (text_key w) r s b d e = let is = text_together v w r s e in (ap text_key is.0, is.1)
key_together (number_key y) (text_key w) r s b d e = let is = sym (whole_read y r b) ∙ ap whole_at e in absurd cc
key_together (text_key v) (number_key z) r s b d e = let is = sym (whole_read z s d) ∙ ap whole_at (sym e) in absurd cc

row_regroup : (k x m r : List ℕ) → ((k ++ (58 ∷ x)) ++ m) ++ r ≡ k ++ (58 ∷ (x ++ (m ++ r)))
row_regroup k x m r = simp append_assoc

more_mark : (rs : Rows) (r : List ℕ) → BeginsNoDigit (more_spelling rs ++ (125 ∷ r))
more_mark no_rows r = refl
more_mark (row k x rs) r = refl

table_regroup : (m r : List ℕ) → ((123 ∷ m) ++ 125 ∷ []) ++ r ≡ 123 ∷ (m ++ (125 ∷ r))
table_regroup m r = ap (λ u. 123 ∷ u) (append_assoc m (125 ∷ []) r)

abbrev is_brace : List ℕ → Bool
is_brace [] = false
is_brace (c ∷ s) = c == 125

abbrev is_t : List ℕ → Bool
is_t [] = false
is_t (c ∷ s) = c == 116

abbrev tail : List ℕ → List ℕ
tail [] = []
tail (c ∷ s) = s

no_brace : (c : ℕ) → c < 58 → (c == 125) ≡ false
no_brace c h = grind (arith, nat_tests)

key_open : (k : KeyData) (r : List ℕ) → is_brace (key_spelling k ++ r) ≡ false
key_open (number_key (pos zero)) r = subst (λ x. is_brace (x ++ r) ≡ false) (sym (natural_small 0 (omega arith))) refl
key_open (number_key (pos (suc n))) r = let q = numeral (suc n) (omega arith) in subst (λ x. is_brace (x ++ r) ≡ false) (sym q.is) (no_brace q.head q.high)
key_open (number_key (negsuc n)) r = refl
key_open (text_key t) r = refl

key_no_brace : (k : KeyData) (r s : List ℕ) → key_spelling k ++ r ≡ 125 ∷ s → ⊥
key_no_brace k r s e = false≢true (sym (key_open k r) ∙ ap is_brace e)

mutual
  -- what is spelled alike before other bytes is one value before the same bytes
  together : (v w : Data) (r s : List ℕ) → BeginsNoDigit r → BeginsNoDigit s → spelling v ++ r ≡ spelling w ++ s → (v ≡ w) × (r ≡ s)
  together unit unit r s b d e = (refl, ap (λ x. tail (tail x)) e)
  together (truth true) (truth true) r s b d e = (refl, ap (λ x. tail (tail (tail (tail x)))) e)
  together (truth false) (truth false) r s b d e = (refl, ap (λ x. tail (tail (tail (tail (tail x))))) e)
  together (truth true) (truth false) r s b d e = absurd (false≢true (sym (ap is_t e)))
  together (truth false) (truth true) r s b d e = absurd (false≢true (ap is_t e))
  together (number y) (number z) r s b d e =
      let is = one_answer (whole_at (integer y ++ r)) (whole_at (integer z ++ s)) y z r s (whole_read y r b) (ap whole_at e) (whole_read z s d) in
      (ap number is.0, is.1)
  together (text v) (text w) r s b d e = let is = text_together v w r s e in (ap text is.0, is.1)
  together (pair v w) (pair x y) r s b d e =
      let f = sym (opened v w r) ∙ e ∙ opened x y s in
      let g : spelling v ++ (44 ∷ (spelling w ++ (41 ∷ r))) ≡ spelling x ++ (44 ∷ (spelling y ++ (41 ∷ s))) = ap tail f in
      let first = together v x _ _ refl refl g in
      let rest : spelling w ++ (41 ∷ r) ≡ spelling y ++ (41 ∷ s) = ap tail first.1 in
      let second = together w y _ _ refl refl rest in
      (ap₂ pair first.0 second.0, ap tail second.1)
  together no_event no_event r s b d e = (refl, ap (λ x. tail (tail (tail (tail x)))) e)
  together (event x) (event y) r s b d e = let is = together x y r s b d (ap (λ x. tail (tail (tail (tail (tail (tail x)))))) e) in (ap event is.0, is.1)
  together (table rs) (table qs) r s b d e =
      let f = sym (table_regroup (rows_spelling rs) r) ∙ e ∙ table_regroup (rows_spelling qs) s in
      let g : rows_spelling rs ++ (125 ∷ r) ≡ rows_spelling qs ++ (125 ∷ s) = ap tail f in
      let is = rows_together rs qs r s g in
      (ap table is.0, is.1)
  together v w r s b d e = let t : tag v ≡ tag w = sym (tag_is v r) ∙ ap tag_at e ∙ tag_is w s in absurd (omega (arith, t))

  rows_together : (rs qs : Rows) (r s : List ℕ) → rows_spelling rs ++ (125 ∷ r) ≡ rows_spelling qs ++ (125 ∷ s) → (rs ≡ qs) × (r ≡ s)
  rows_together no_rows no_rows r s e = (refl, ap tail e)
  rows_together no_rows (row l y qs) r s e = absurd (key_no_brace l _ _ (sym (row_regroup (key_spelling l) (spelling y) (more_spelling qs) (125 ∷ s)) ∙ sym e))
  rows_together (row k x rs) no_rows r s e = absurd (key_no_brace k _ _ (sym (row_regroup (key_spelling k) (spelling x) (more_spelling rs) (125 ∷ r)) ∙ e))
  rows_together (row k x rs) (row l y qs) r s e =
      let f = sym (row_regroup (key_spelling k) (spelling x) (more_spelling rs) (125 ∷ r)) ∙ e ∙ row_regroup (key_spelling l) (spelling y) (more_spelling qs) (125 ∷ s) in
      let key = key_together k l _ _ refl refl f in
      let g : spelling x ++ (more_spelling rs ++ (125 ∷ r)) ≡ spelling y ++ (more_spelling qs ++ (125 ∷ s)) = ap tail key.1 in
      let value = together x y _ _ (more_mark rs r) (more_mark qs s) g in
      let rest = more_together rs qs r s value.1 in
      (ap (λ a. row a x rs) key.0 ∙ ap (λ a. row l a rs) value.0 ∙ ap (λ a. row l y a) rest.0, rest.1)

  more_together : (rs qs : Rows) (r s : List ℕ) → more_spelling rs ++ (125 ∷ r) ≡ more_spelling qs ++ (125 ∷ s) → (rs ≡ qs) × (r ≡ s)
  more_together no_rows no_rows r s e = (refl, ap tail e)
  more_together no_rows (row l y qs) r s e = absurd (false≢true (sym (ap is_brace e)))
  more_together (row k x rs) no_rows r s e = absurd (false≢true (ap is_brace e))
  more_together (row k x rs) (row l y qs) r s e =
      let e' : rows_spelling (row k x rs) ++ (125 ∷ r) ≡ rows_spelling (row l y qs) ++ (125 ∷ s) = ap tail e in
      let f = sym (row_regroup (key_spelling k) (spelling x) (more_spelling rs) (125 ∷ r)) ∙ e' ∙ row_regroup (key_spelling l) (spelling y) (more_spelling qs) (125 ∷ s) in
      let key = key_together k l _ _ refl refl f in
      let g : spelling x ++ (more_spelling rs ++ (125 ∷ r)) ≡ spelling y ++ (more_spelling qs ++ (125 ∷ s)) = ap tail key.1 in
      let value = together x y _ _ (more_mark rs r) (more_mark qs s) g in
      let rest = more_together rs qs r s value.1 in
      (ap (λ a. row a x rs) key.0 ∙ ap (λ a. row l a rs) value.0 ∙ ap (λ a. row l y a) rest.0, rest.1)

pub same_value : (v w : Data) → spelling v ≡ spelling w → v ≡ w
same_value v w e = (together v w [] [] tt tt (append-nil (spelling v) ∙ e ∙ sym (append-nil (spelling w)))).0
