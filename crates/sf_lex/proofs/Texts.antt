-- Texts: where they are closed, and what stands behind their backslashes.
use Rattle.std.proofs.Common.{◌≡◌, ◌≢◌, ℕ, suc, ◌+◌, ◌≤◌, List, [], ◌∷◌, ◌++◌, length, Bool, true, false, ◌==◌, cond, Some, None, is_some, refl, sym, ◌∙◌, ap, subst, arith, add-zero}
use Rattle.std.proofs.lemmas.Bool.{eqb-true, eqb-false, ne_eqb}
use Rattle.std.proofs.lemmas.Bool.Decides.{nat_tests}
use Rattle.sf_lex.specs.Cutting.{is_plain, escape_of, IsBody, body_end, body_plain, body_escaped, Quotes, quotes_end, quotes_plain, quotes_escaped}
use Rattle.sf_lex.specs.Scanning.{text_len, bad_escape, unescaped, unescaped_byte}

-- a plain byte is none of the three
plain_parts : (b : ℕ) → is_plain b ≡ true → (b == 10 ≡ false) × ((b == 34 ≡ false) × (b == 92 ≡ false))
plain_parts b p = (grind (arith, nat_tests), (grind (arith, nat_tests), grind (arith, nat_tests)))

plain_from : (b : ℕ) → b == 10 ≡ false → b == 34 ≡ false → b == 92 ≡ false → is_plain b ≡ true
plain_from b e f g = rw (e, f, g)

-- the quote behind a body closes the text
pub text_len_body : (i : ℕ) (inner rest : List ℕ) → IsBody inner → text_len i false (inner ++ 34 ∷ rest) ≡ Some (i + length inner)
unfolding text_len
text_len_body i inner rest body_end = ap Some (sym (add-zero i))
text_len_body i inner rest (body_plain {b = b} {rest = more} p m) =
    let e = plain_parts b p in let again = text_len_body (i + 1) more rest m in rw (e.0, e.1.0, e.1.1, again) (ap Some (omega arith))
text_len_body i inner rest (body_escaped {c = c} {rest = more} n m) =
    let again = text_len_body (i + 1 + 1) more rest m in rw (ne_eqb c 10 n, again) (ap Some (omega arith))

-- a body, or what goes on behind its backslash
abbrev GoesOn : Bool → List ℕ → Type 0
GoesOn true inner = IsBody (92 ∷ inner)
GoesOn false inner = IsBody inner

-- the bytes go on to the quote at m, counted from i
pub record Closes (i : ℕ) (escaped : Bool) (bytes : List ℕ) (m : ℕ) : Type 0 where
  pub inner : List ℕ
  pub rest : List ℕ
  pub is : bytes ≡ inner ++ 34 ∷ rest
  pub at : m ≡ i + length inner
  pub body : GoesOn escaped inner

closes_plain : (i b m : ℕ) (bytes : List ℕ) → is_plain b ≡ true → Closes (i + 1) false bytes m → Closes i false (b ∷ bytes) m
closes_plain i b m bytes p c = record { inner = b ∷ c.inner; rest = c.rest; is = ap (λ x. b ∷ x) c.is; at = c.at ∙ omega arith; body = body_plain p c.body }

closes_backslash : (i b m : ℕ) (bytes : List ℕ) → b ≡ 92 → Closes (i + 1) true bytes m → Closes i false (b ∷ bytes) m
closes_backslash i b m bytes e c = record { inner = b ∷ c.inner; rest = c.rest; is = ap (λ x. b ∷ x) c.is; at = c.at ∙ omega arith; body = subst (λ (x : ℕ). IsBody (x ∷ c.inner)) (sym e) c.body }

closes_escaped : (i b m : ℕ) (bytes : List ℕ) → b ≢ 10 → Closes (i + 1) false bytes m → Closes i true (b ∷ bytes) m
closes_escaped i b m bytes n c = record { inner = b ∷ c.inner; rest = c.rest; is = ap (λ x. b ∷ x) c.is; at = c.at ∙ omega arith; body = body_escaped n c.body }

pub text_len_closes : (i : ℕ) (escaped : Bool) (bytes : List ℕ) (m : ℕ) → text_len i escaped bytes ≡ Some m → Closes i escaped bytes m
unfolding text_len
text_len_closes i escaped [] m e = cc
text_len_closes i true (b ∷ bytes) m e =
    (elim (b == 10) as (λ t. b == 10 ≡ t → cond t None (text_len (i + 1) false bytes) ≡ Some m → Closes i true (b ∷ bytes) m) [
      | true ↦ λ is f. cc
      | false ↦ λ is f. closes_escaped i b m bytes (eqb-false b 10 is) (text_len_closes (i + 1) false bytes m f)
    ]) refl e
text_len_closes i false (b ∷ bytes) m e =
    (elim (b == 10) as (λ t. b == 10 ≡ t → cond t None (cond (b == 34) (Some i) (text_len (i + 1) (b == 92) bytes)) ≡ Some m → Closes i false (b ∷ bytes) m) [
      | true ↦ λ is f. cc
      | false ↦ λ line f.
          (elim (b == 34) as (λ t. b == 34 ≡ t → cond t (Some i) (text_len (i + 1) (b == 92) bytes) ≡ Some m → Closes i false (b ∷ bytes) m) [
            | true ↦ λ is g. record { inner = []; rest = bytes; is = ap (λ x. x ∷ bytes) (eqb-true b 34 is); at = (let h : i ≡ m = cc in omega arith); body = body_end }
            | false ↦ λ quote g.
                (elim (b == 92) as (λ t. b == 92 ≡ t → text_len (i + 1) t bytes ≡ Some m → Closes i false (b ∷ bytes) m) [
                  | true ↦ λ is h. closes_backslash i b m bytes (eqb-true b 92 is) (text_len_closes (i + 1) true bytes m h)
                  | false ↦ λ is h. closes_plain i b m bytes (plain_from b line quote is) (text_len_closes (i + 1) false bytes m h)
                ]) refl g
          ]) refl f
    ]) refl e

escape_is : (c : ℕ) → is_some (escape_of c) ≡ true → escape_of c ≡ Some (unescaped_byte c)
escape_is c h = grind (arith, nat_tests)

no_escape : (c : ℕ) → is_some (escape_of c) ≡ false → escape_of c ≡ None
no_escape c h = grind (arith, nat_tests)

-- a body with no wrong character behind a backslash
pub quotes_from : (i : ℕ) (inner : List ℕ) → IsBody inner → bad_escape i false inner ≡ None → Quotes (unescaped false inner) inner
unfolding bad_escape unescaped
quotes_from i inner body_end e = quotes_end
quotes_from i inner (body_plain {b = b} {rest = rest} p m) e =
    let q = plain_parts b p in rw q.1.1 (quotes_plain p (quotes_from (i + 1) rest m (rw q.1.1 at e)))
quotes_from i inner (body_escaped {c = c} {rest = rest} n m) e =
    (elim (is_some (escape_of c)) as (λ t. is_some (escape_of c) ≡ t → cond t (bad_escape (i + 1 + 1) false rest) (Some (i + 1)) ≡ None → Quotes (unescaped_byte c ∷ unescaped false rest) (92 ∷ c ∷ rest)) [
      | true ↦ λ is f. quotes_escaped (escape_is c is) (quotes_from (i + 1 + 1) rest m f)
      | false ↦ λ is f. cc
    ]) refl e

pub quotes_body : (chars inner : List ℕ) → Quotes chars inner → IsBody inner
quotes_body chars inner quotes_end = body_end
quotes_body chars inner (quotes_plain {chars = more} {rest = rest} p q) = body_plain p (quotes_body more rest q)
quotes_body chars inner (quotes_escaped {b = b} {c = c} {chars = more} {rest = rest} e q) =
    body_escaped (λ h. let none : escape_of c ≡ None = ap escape_of h in cc) (quotes_body more rest q)

pub quotes_good : (i : ℕ) (chars inner : List ℕ) → Quotes chars inner → bad_escape i false inner ≡ None
unfolding bad_escape
quotes_good i chars inner quotes_end = refl
quotes_good i chars inner (quotes_plain {b = b} {chars = more} {rest = rest} p q) = rw (plain_parts b p).1.1 (quotes_good (i + 1) more rest q)
quotes_good i chars inner (quotes_escaped {c = c} {chars = more} {rest = rest} e q) = rw (ap is_some e) (quotes_good (i + 1 + 1) more rest q)

pub quotes_unescaped : (chars inner : List ℕ) → Quotes chars inner → unescaped false inner ≡ chars
unfolding unescaped
quotes_unescaped chars inner quotes_end = refl
quotes_unescaped chars inner (quotes_plain {b = b} {chars = more} {rest = rest} p q) = rw (plain_parts b p).1.1 (ap (λ x. b ∷ x) (quotes_unescaped more rest q))
quotes_unescaped chars inner (quotes_escaped {b = b} {c = c} {chars = more} {rest = rest} e q) =
    let is : unescaped_byte c ≡ b = (let f = escape_is c (ap is_some e) in cc) in
    ap (λ x. x ∷ unescaped false rest) is ∙ ap (λ x. b ∷ x) (quotes_unescaped more rest q)

-- the wrong character at m, counted from i
pub record Wrong (i : ℕ) (inner : List ℕ) (m : ℕ) : Type 0 where
  pub before : List ℕ
  pub behind : List ℕ
  pub char : ℕ
  pub is : inner ≡ before ++ 92 ∷ char ∷ behind
  pub body : IsBody before
  pub none : escape_of char ≡ None
  pub at : m ≡ i + length before + 1

wrong_plain : (i b m : ℕ) (inner : List ℕ) → is_plain b ≡ true → Wrong (i + 1) inner m → Wrong i (b ∷ inner) m
wrong_plain i b m inner p w = record { before = b ∷ w.before; behind = w.behind; char = w.char; is = ap (λ x. b ∷ x) w.is; body = body_plain p w.body; none = w.none; at = w.at ∙ omega arith }

wrong_escaped : (i c m : ℕ) (inner : List ℕ) → c ≢ 10 → Wrong (i + 1 + 1) inner m → Wrong i (92 ∷ c ∷ inner) m
wrong_escaped i c m inner n w = record { before = 92 ∷ c ∷ w.before; behind = w.behind; char = w.char; is = ap (λ x. 92 ∷ c ∷ x) w.is; body = body_escaped n w.body; none = w.none; at = w.at ∙ omega arith }

pub bad_escape_wrong : (i : ℕ) (inner : List ℕ) (m : ℕ) → IsBody inner → bad_escape i false inner ≡ Some m → Wrong i inner m
unfolding bad_escape
bad_escape_wrong i inner m body_end e = cc
bad_escape_wrong i inner m (body_plain {b = b} {rest = rest} p r) e =
    wrong_plain i b m rest p (bad_escape_wrong (i + 1) rest m r (rw (plain_parts b p).1.1 at e))
bad_escape_wrong i inner m (body_escaped {c = c} {rest = rest} n r) e =
    (elim (is_some (escape_of c)) as (λ t. is_some (escape_of c) ≡ t → cond t (bad_escape (i + 1 + 1) false rest) (Some (i + 1)) ≡ Some m → Wrong i (92 ∷ c ∷ rest) m) [
      | true ↦ λ is f. wrong_escaped i c m rest n (bad_escape_wrong (i + 1 + 1) rest m r f)
      | false ↦ λ is f. record { before = []; behind = rest; char = c; is = refl; body = body_end; none = no_escape c is; at = (let h : i + 1 ≡ m = cc in omega arith) }
    ]) refl e

-- a wrong character is found, or one before it
pub record FoundBy (i : ℕ) (inner : List ℕ) (last : ℕ) : Type 0 where
  pub at : ℕ
  pub is : bad_escape i false inner ≡ Some at
  pub early : at ≤ last

pub bad_escape_by : (i c : ℕ) (before behind : List ℕ) → IsBody before → escape_of c ≡ None → FoundBy i (before ++ 92 ∷ c ∷ behind) (i + length before + 1)
unfolding bad_escape
bad_escape_by i c before behind body_end e = record { at = i + 1; is = rw (ap is_some e); early = omega arith }
bad_escape_by i c before behind (body_plain {b = b} {rest = rest} p r) e =
    let f = bad_escape_by (i + 1) c rest behind r e in record { at = f.at; is = ap (λ t. bad_escape (i + 1) t (rest ++ 92 ∷ c ∷ behind)) (plain_parts b p).1.1 ∙ f.is; early = omega (arith, f.early) }
bad_escape_by i c before behind (body_escaped {c = d} {rest = rest} n r) e =
    let f = bad_escape_by (i + 1 + 1) c rest behind r e in
    let g : (at : ℕ) × (cond (is_some (escape_of d)) (bad_escape (i + 1 + 1) false (rest ++ 92 ∷ c ∷ behind)) (Some (i + 1)) ≡ Some at) × (at ≤ i + suc (suc (length rest)) + 1) =
    (elim (is_some (escape_of d)) as (λ t. (at : ℕ) × (cond t (bad_escape (i + 1 + 1) false (rest ++ 92 ∷ c ∷ behind)) (Some (i + 1)) ≡ Some at) × (at ≤ i + suc (suc (length rest)) + 1))
    [ true ↦ (f.at, f.is, omega (arith, f.early)) | false ↦ (i + 1, refl, omega arith) ]) in
    record { at = g.0; is = g.1; early = g.2 }
