-- Numbers of texts.
use Rattle.std.proofs.Common.{◌≡◌, ℕ, zero, suc, ◌+◌, ◌<◌, Bool, true, false, cond, nat_eq, bytes_eq, List, [], ◌∷◌, ◌++◌, length, get_or, take, slice_index_or, refl, sym, ap, subst, ◌∙◌, true≢false, arith, length-append}
use Rattle.std.specs.Borrow.{Bor}
use Rattle.std.specs.Prelude.{if◌then◌else◌}
use Rattle.std.specs.List.{AllZip, position_or_len}
use Rattle.std.proofs.Math.Dec.{eqb}
use Rattle.std.proofs.lemmas.Bool.{eqb-true, eq-eqb}
use Rattle.std.proofs.lemmas.List.{take_more}
use Rattle.std.proofs.lemmas.List.Folds.{position_or_len_push}
use Rattle.std.proofs.lemmas.List.Sums.{passes_at_first}
use Rattle.std.proofs.lemmas.Slice.Eq.{bytes_eq-Decides}
use Rattle.sf_value.specs.Values.{Name}
use Rattle.sf_expr.specs.declared.exprs.numbers.NumberedPattern.{NumberedPattern}
use Rattle.sf_expr.specs.declared.exprs.numbers.NumberedPattern.TheVariants.{Unnamed, Name as Numbered, Both'}
use Rattle.sf_expr.specs.Expressions.{Pattern, unnamed, named, both}
use Rattle.sf_expr.specs.Numbered.{TellsName, IsNumber, ExtendsNumbers, IsNumbered}

abbrev test : Name → Bor (List ℕ) → Bool
test x k = bytes_eq x k.now

-- a text behind others leaves their numbers
push_keeps : (ks : List (Bor (List ℕ))) (k : Bor (List ℕ)) → ExtendsNumbers ks (ks ++ k ∷ [])
push_keeps ks k x i h = (position_or_len_push (test x) ks k ∙ by (eqb (position_or_len (test x) ks) (length ks)) refl, let l = length-append ks (k ∷ []) in omega (arith, h.1, l))
  where
    by : (b : Bool) → eqb (position_or_len (test x) ks) (length ks) ≡ b → cond b (length ks + cond (test x k) 0 1) (position_or_len (test x) ks) ≡ i
    by true e = absurd (let same = eqb-true _ _ e in let is = h.0 in omega (arith, same, is, h.1))
    by false e = h.0

pub put_keeps : (ks new : List (Bor (List ℕ))) (k : Bor (List ℕ)) (b : Bool) → new ≡ (if b then ks else ks ++ k ∷ []) → ExtendsNumbers ks new
put_keeps ks new k true e = subst (λ js. ExtendsNumbers ks js) (sym e) (λ x i h. h)
put_keeps ks new k false e = subst (λ js. ExtendsNumbers ks js) (sym e) (push_keeps ks k)

-- the place that a text has once it is put among others is its number
pub put_number : (ks new : List (Bor (List ℕ))) (k : Bor (List ℕ)) (b : Bool) (i : ℕ) → new ≡ (if b then ks else ks ++ k ∷ []) → i ≡ position_or_len (test k.now) ks → i < length new → IsNumber new k.now i
put_number ks new k true i e at l = (ap (position_or_len (test k.now)) e ∙ sym at, l)
put_number ks new k false i e at l = (ap (position_or_len (test k.now)) e ∙ position_or_len_push (test k.now) ks k ∙ by (eqb (position_or_len (test k.now) ks) (length ks)) refl ∙ sym at, l)
  where
    by : (b : Bool) → eqb (position_or_len (test k.now) ks) (length ks) ≡ b → cond b (length ks + cond (test k.now k) 0 1) (position_or_len (test k.now) ks) ≡ position_or_len (test k.now) ks
    by true same = ap (λ c. length ks + cond c 0 1) ((bytes_eq-Decides k.now k.now).1 refl) ∙ (let l : length ks + 0 ≡ length ks = omega arith in l) ∙ sym (eqb-true _ _ same)
    by false same = refl

-- numbers are the same where texts are
module _ (ks : List (Bor (List ℕ))) (x y : Name) (i j : ℕ) (h : IsNumber ks x i) (k : IsNumber ks y j) where
  stands : (z : Name) (m : ℕ) (d : Bor (List ℕ)) → IsNumber ks z m → z ≡ (get_or ks m d).now
  stands z m d n = (bytes_eq-Decides z _).0 (subst (λ l. test z (get_or ks l d) ≡ true) n.0 (passes_at_first (test z) ks d (subst (λ l. l < length ks) (sym n.0) n.1)))

  same_text : (d : Bor (List ℕ)) → i ≡ j → x ≡ y
  same_text d e = stands x i d h ∙ ap (λ m. (get_or ks m d).now) e ∙ sym (stands y j d k)

  -- (there is a text)
  by_text : (ls : List (Bor (List ℕ))) → ls ≡ ks → i ≡ j → x ≡ y
  by_text [] e same = absurd (let none : 0 ≡ length ks = ap length e in let l = h.1 in omega (arith, none, l))
  by_text (d ∷ ds) e same = same_text d same

  pub told : nat_eq i j ≡ bytes_eq x y
  told = by (bytes_eq x y) refl (nat_eq i j) refl
    where
      by : (b : Bool) → bytes_eq x y ≡ b → (c : Bool) → nat_eq i j ≡ c → c ≡ b
      by true e true f = refl
      by true e false f = absurd (true≢false (sym (eq-eqb i j (sym h.0 ∙ ap (λ (z : Name). position_or_len (test z) ks) ((bytes_eq-Decides x y).0 e) ∙ k.0)) ∙ f))
      by false e true f = absurd (true≢false (sym ((bytes_eq-Decides x y).1 (by_text ks refl (eqb-true i j f))) ∙ e))
      by false e false f = refl

-- so they tell where patterns bind them
pub pattern_told : (ks : List (Bor (List ℕ))) (x : Name) (i : ℕ) → IsNumber ks x i → (p : Pattern) (s : NumberedPattern) → IsNumbered ks p s → TellsName i x s p
pattern_told ks x i h unnamed Unnamed k = tt
pattern_told ks x i h unnamed (Numbered m) k = absurd k
pattern_told ks x i h unnamed (Both' a s b t) k = absurd k
pattern_told ks x i h (named y) Unnamed k = absurd k
pattern_told ks x i h (named y) (Numbered m) k = told ks x y i m h k
pattern_told ks x i h (named y) (Both' a s b t) k = absurd k
pattern_told ks x i h (both p q) Unnamed k = absurd k
pattern_told ks x i h (both p q) (Numbered m) k = absurd k
pattern_told ks x i h (both p q) (Both' a s b t) k = (pattern_told ks x i h p s k.0, pattern_told ks x i h q t k.1)

-- patterns keep their numbers
pub spelled_still : (ks js : List (Bor (List ℕ))) → ExtendsNumbers ks js → (p : Pattern) (s : NumberedPattern) → IsNumbered ks p s → IsNumbered js p s
spelled_still ks js h unnamed Unnamed k = tt
spelled_still ks js h unnamed (Numbered m) k = absurd k
spelled_still ks js h unnamed (Both' a s b t) k = absurd k
spelled_still ks js h (named y) Unnamed k = absurd k
spelled_still ks js h (named y) (Numbered m) k = h y m k
spelled_still ks js h (named y) (Both' a s b t) k = absurd k
spelled_still ks js h (both p q) Unnamed k = absurd k
spelled_still ks js h (both p q) (Numbered m) k = absurd k
spelled_still ks js h (both p q) (Both' a s b t) k = (spelled_still ks js h p s k.0, spelled_still ks js h q t k.1)

-- related pairs
module _ {A B : Type 0} where
  pub pairs_still : (R S : A → B → Type 0) → ((x : A) (y : B) → R x y → S x y) → (xs : List A) (ys : List B) → AllZip R xs ys → AllZip S xs ys
  pairs_still R S f [] [] h = tt
  pairs_still R S f [] (y ∷ ys) h = absurd h
  pairs_still R S f (x ∷ xs) [] h = absurd h
  pairs_still R S f (x ∷ xs) (y ∷ ys) h = (f x y h.0, pairs_still R S f xs ys h.1)

  pair_last : (R : A → B → Type 0) (xs : List A) (ys : List B) (x : A) (y : B) → AllZip R xs ys → R x y → AllZip R (xs ++ x ∷ []) (ys ++ y ∷ [])
  pair_last R [] [] x y h r = (r, tt)
  pair_last R [] (b ∷ ys) x y h r = absurd h
  pair_last R (a ∷ xs) [] x y h r = absurd h
  pair_last R (a ∷ xs) (b ∷ ys) x y h r = (h.0, pair_last R xs ys x y h.1 r)

  pub pair_more : (R : A → B → Type 0) (xs : List A) (ys : List B) (i : ℕ) (x : A) (y : B) → i < length xs → x ≡ get_or xs i x → AllZip R (take i xs) ys → R x y → AllZip R (take (i + 1) xs) (ys ++ y ∷ [])
  pair_more R xs ys i x y l at h r = subst (λ zs. AllZip R zs (ys ++ y ∷ [])) (sym (take_more xs i x l)) (pair_last R (take i xs) ys (get_or xs i x) y h (subst (λ z. R z y) at r))

  pub pair_at : (R : A → B → Type 0) (xs : List A) (ys : List B) (i : ℕ) (d : A) (e : B) → AllZip R xs ys → R d e → R (slice_index_or xs i d) (slice_index_or ys i e)
  pair_at R [] [] i d e h r = r
  pair_at R [] (y ∷ ys) i d e h r = absurd h
  pair_at R (x ∷ xs) [] i d e h r = absurd h
  pair_at R (x ∷ xs) (y ∷ ys) zero d e h r = h.0
  pair_at R (x ∷ xs) (y ∷ ys) (suc i) d e h r = pair_at R xs ys i d e h.1 r
