-- How far bytes are cut, and that they are cut in one way.
use Rattle.std.proofs.Common.{◌≡◌, ℕ, ◌+◌, ◌-◌, ◌≤◌, ◌<◌, List, [], ◌∷◌, ◌++◌, length, take, drop, get_or, ℤ, true, false, cond, refl, sym, ◌∙◌, ap, subst, arith, ◌⊎◌, inl, inr, nat_le}
use Rattle.std.specs.Str.{IsUtf8, IsValidUpTo}
use Rattle.std.proofs.lemmas.Bool.{leb-true, leb-false, and_parts}
use Rattle.std.proofs.lemmas.Bool.Decides.{nat_tests}
use Rattle.std.specs.List.{list_all}
use Rattle.std.proofs.lemmas.List.{take_all, take_more, get_or-drop, get_or-take, drop-drop, length-drop, length-take}
use Rattle.std.proofs.lemmas.Str.{utf8_valid_len-IsValidUpTo, IsUtf8-append}
use Rattle.sf_lex.proofs.Readable.{single_utf8}
use Rattle.sf_lex.specs.Words.{is_digit}
use Rattle.sf_refusal.specs.declared.rule.Rule.{Rule}
use Rattle.sf_refusal.specs.declared.rule.Rule.TheVariants.{BadByte}
use Rattle.sf_lex.specs.Tokens.{number, Located, offset_place}
use Rattle.sf_lex.specs.Cutting.{Piece, gap, token, fits, IsLongest, located, IsCutInto, here, more, byte_limit, Lexes, IsWrong, large, open_text, escape, nothing, SpellsNumber, unsigned, negative, IsDigits, HasFaultAt, no_text, wrong, IsFirstFault, IsValidLen, IsCutTo}
use Rattle.sf_lex.specs.Scanning.{NextPiece, piece, fail, next, in_range, within}
use Rattle.sf_lex.proofs.Pieces.{next_from_longest, piece_some}
use Rattle.sf_lex.proofs.Faults.{wrong_found, scan_wrong, wrong_within, scan_longest, longest_scan}

-- no piece goes on at these bytes
abbrev pub Stuck : List ℕ → Type 0
Stuck bytes = (p : Piece) (n : ℕ) → IsLongest bytes p n → fits p ≡ true → ⊥

pub stuck_nil : Stuck []
stuck_nil p n l f = let some = piece_some p (take n []) l.is in omega (arith, length-take {A = ℕ} n [])

stuck_fail : (bytes : List ℕ) (f : Rule) (k : ℕ) → in_range (next bytes) ≡ fail f k → Stuck bytes
stuck_fail bytes f k e p n l t = let s = longest_scan bytes p n l t in cc

stuck_wrong : (bytes : List ℕ) (k : ℕ) (f : Rule) → IsWrong bytes k f → Stuck bytes
stuck_wrong bytes k f w = let found = wrong_found bytes k f w in stuck_fail bytes f found.at found.is

located_append : (at : ℕ) (p : Piece) (f g : List Located) → located at p (f ++ g) ≡ located at p f ++ g
located_append at gap f g = refl
located_append at (token t) f g = refl

pub cuts_join : (a b c : ℕ) (x y z : List ℕ) (f g : List Located) → IsCutInto a x f b y → IsCutInto b y g c z → IsCutInto a x (f ++ g) c z
cuts_join a b c x y z f g here d = d
cuts_join a b c x y z f g (more {n = n} {p = p} {found = h} l t k) d =
    subst (λ (v : List Located). IsCutInto a x v c z) (located_append a p h g) (more l t (cuts_join (a + n) b c (drop n x) y z h g k d))

-- from where the first cut ends the second goes on
pub record GoesOn (f all : List Located) (b c : ℕ) (y z : List ℕ) : Type 0 where
  pub found : List Located
  pub cut : IsCutInto b y found c z
  pub is : all ≡ f ++ found

pub further : (a b c : ℕ) (x y z : List ℕ) (f g : List Located) → IsCutInto a x f b y → IsCutInto a x g c z → Stuck z → GoesOn f g b c y z
further a b c x y z f g here d s = record { found = g; cut = d; is = refl }
further a b c x y z f g (more {n = n} {p = p} l t k) here s = absurd (s p n l t)
further a b c x y z f g (more {n = n} {p = p} {found = f'} l t k) (more {n = m} {p = q} {found = g'} l' t' k') s =
    let e = next_from_longest x p n l in
    let e' = next_from_longest x q m l' in
    let same : q ≡ p = cc in
    let long : m ≡ n = cc in
    let k'' : IsCutInto (a + n) (drop n x) g' c z = subst (λ (v : ℕ). IsCutInto (a + v) (drop v x) g' c z) long k' in
    let i = further (a + n) b c (drop n x) y z f' g' k k'' s in
    record { found = i.found; cut = i.cut; is = ap (λ v. located a v g') same ∙ ap (located a p) i.is ∙ located_append a p f' i.found }

cuts_up : (a b : ℕ) (x y : List ℕ) (f : List Located) → IsCutInto a x f b y → a ≤ b
cuts_up a b x y f here = omega arith
cuts_up a b x y f (more {n = n} {found = g} l t k) = omega (arith, cuts_up (a + n) b (drop n x) y g k)

pub cuts_nil : (a b : ℕ) (y : List ℕ) (f : List Located) → IsCutInto a [] f b y → f ≡ []
cuts_nil a b y f here = refl
cuts_nil a b y f (more {n = n} {p = p} l t k) = absurd (stuck_nil p n l t)

-- how far the scan looked before it knew
abbrev extent : NextPiece → ℕ
extent (piece p n) = n
extent (fail f k) = k

-- no fault comes before that
ahead : (a b k : ℕ) (x y : List ℕ) (found : List Located) (f : Rule) → IsCutInto a x found b y → IsWrong y k f → a + extent (in_range (next x)) ≤ b + k
ahead a b k x y found f here w = let g = wrong_found x k f w in let e = ap extent g.is in omega (arith, g.early)
ahead a b k x y found f (more {n = n} {p = p} {found = rest} l t c) w =
    let e = ap extent (longest_scan x p n l t) in omega (arith, cuts_up (a + n) b (drop n x) y rest c)

not_utf8 : (bytes : List ℕ) (n : ℕ) → IsValidUpTo bytes n → IsUtf8 bytes → ⊥
not_utf8 bytes n v u = v.longest (length bytes) v.short (subst (λ (x : List ℕ). IsUtf8 x) (sym (take_all (length bytes) bytes (omega arith))) u)

valid_same : (bytes : List ℕ) (n m : ℕ) → IsValidLen bytes n → IsValidUpTo bytes m → n ≡ m
valid_same bytes n m (inl u) v = absurd (not_utf8 bytes m v u.0)
valid_same bytes n m (inr u) v = sym (utf8_valid_len-IsValidUpTo bytes n u) ∙ utf8_valid_len-IsValidUpTo bytes m v

valid_short : (bytes : List ℕ) (n : ℕ) → IsValidLen bytes n → n < length bytes → IsValidUpTo bytes n
valid_short bytes n (inl u) l = absurd (omega (arith, u.1))
valid_short bytes n (inr u) l = u

-- a fault is no earlier than the scan looked, and no earlier than the bytes stay UTF-8
least_break : (bytes : List ℕ) (at valid m other : ℕ) (f : Rule) → IsCutTo bytes at → IsValidLen bytes valid → m ≤ at + extent (in_range (next (drop at bytes))) → m ≤ valid → HasFaultAt bytes other f → m ≤ other
least_break bytes at valid m other f c v near low (no_text u) = omega (arith, valid_same bytes valid other v u)
least_break bytes at valid m other f c v near low (wrong {rest = rest} {at = b} {k = k} {found = found} d w) =
    let g = further 0 at b bytes (drop at bytes) rest c.found found c.cut d (stuck_wrong rest k f w) in
    omega (arith, ahead at b k (drop at bytes) rest g.found f g.cut w)

-- a scan that fails ends the cut
no_lexes : (bytes : List ℕ) (at k : ℕ) (f : Rule) (found : List Located) → IsCutTo bytes at → at < length bytes → in_range (next (drop at bytes)) ≡ fail f k → Lexes bytes found → ⊥
no_lexes bytes at k f found c l e x =
    let g = further 0 at x.end bytes (drop at bytes) [] c.found found c.cut x.cut stuck_nil in
    ended at x.end (drop at bytes) g.found g.cut (stuck_fail (drop at bytes) f k e) (omega (arith, length-drop at bytes))
  where
    ended : (a b : ℕ) (y : List ℕ) (g : List Located) → IsCutInto a y g b [] → Stuck y → 0 < length y → ⊥
    ended a b y g here s some = omega arith
    ended a b y g (more {n = n} {p = p} l t k) s some = s p n l t

-- the first byte that is no part of UTF-8 is not ASCII
high_byte : (bytes : List ℕ) (n : ℕ) → IsValidUpTo bytes n → get_or bytes n 0 < 128 → ⊥
high_byte bytes n v low =
    v.longest (n + 1) (omega arith) (subst (λ (x : List ℕ). IsUtf8 x) (sym (take_more bytes n 0 v.short))
    (IsUtf8-append (take n bytes) (get_or bytes n 0 ∷ []) v.front (single_utf8 (get_or bytes n 0) low)))

-- a number begins with an ASCII byte
digit_low : (b : ℕ) → is_digit b ≡ true → b < 128
digit_low b e = grind (arith, nat_tests)

spelling_low : (z : ℤ) (w : List ℕ) → SpellsNumber z w → get_or w 0 0 < 128
spelling_low z w (unsigned {digits = digits} d) = first digits d
  where
    first : (ds : List ℕ) → IsDigits ds → get_or ds 0 0 < 128
    first [] d = omega arith
    first (x ∷ ds) d = digit_low x (and_parts (is_digit x) (list_all is_digit ds) d.all).0
spelling_low z w (negative d) = omega arith

first_low : (bytes : List ℕ) (n : ℕ) (z : ℤ) → IsLongest bytes (token (number z)) n → get_or bytes 0 0 < 128
first_low bytes n z l =
    let some = piece_some (token (number z)) (take n bytes) l.is in
    let has : 0 < n = omega (arith, length-take n bytes) in
    rw (← get_or-take n bytes 0 0 has) (spelling_low z (take n bytes) l.is)

-- a fault other than a wrong byte is at an ASCII byte
low_byte : (bytes : List ℕ) (k : ℕ) (f : Rule) → IsWrong bytes k f → (f ≡ BadByte) ⊎ (get_or bytes k 0 < 128)
low_byte bytes k f (large {n = n} {z = z} l wide) = inr (first_low bytes n z l)
low_byte bytes k f (open_text h) = inr (omega arith)
low_byte bytes k f (escape inner before behind rest c body is front none) = inl refl
low_byte bytes k f (nothing n none) = inl refl

cuts_rest : (a b : ℕ) (x y : List ℕ) (f : List Located) → IsCutInto a x f b y → y ≡ drop (b - a) x
cuts_rest a b x y f here = let none : a - a ≡ 0 = omega arith in ap (λ n. drop n x) (sym none)
cuts_rest a b x y f (more {n = n} {found = g} l t k) =
    let low = cuts_up (a + n) b (drop n x) y g k in
    let all : n + (b - (a + n)) ≡ b - a = omega arith in
    cuts_rest (a + n) b (drop n x) y g k ∙ drop-drop (b - (a + n)) n x ∙ ap (λ m. drop m x) all

stuck_same : (a b : ℕ) (x y : List ℕ) (f : List Located) → IsCutInto a x f b y → Stuck x → x ≡ y
stuck_same a b x y f here s = refl
stuck_same a b x y f (more {n = n} {p = p} l t k) s = absurd (s p n l t)

-- what is no part of UTF-8 is a wrong byte in any case
text_fault : (bytes rest : List ℕ) (at k offset : ℕ) (found : List Located) (f : Rule) → IsValidUpTo bytes offset → IsCutInto 0 bytes found at rest → IsWrong rest k f → offset ≡ at + k → f ≡ BadByte
text_fault bytes rest at k offset found f u c w e =
    elim (low_byte rest k f w) [
      | inl is ↦ is
      | inr low ↦
          (let behind : rest ≡ drop at bytes = cuts_rest 0 at bytes rest found c ∙ ap (λ n. drop n bytes) (omega arith) in
          let byte : get_or bytes offset 0 ≡ get_or rest k 0 = ap (λ n. get_or bytes n 0) e ∙ sym (get_or-drop at bytes k 0) ∙ ap (λ x. get_or x k 0) (sym behind) in
          absurd (high_byte bytes offset u (omega arith)))
    ]

-- faults at one offset are one
same_break : (bytes : List ℕ) (m n : ℕ) (f g : Rule) → m ≡ n → HasFaultAt bytes m f → HasFaultAt bytes n g → g ≡ f
same_break bytes m n f g e (no_text u) (no_text v) = refl
same_break bytes m n f g e (no_text u) (wrong {rest = rest} {at = at} {k = k} {found = found} c w) = text_fault bytes rest at k m found g u c w e
same_break bytes m n f g e (wrong {rest = rest} {at = at} {k = k} {found = found} c w) (no_text u) = sym (text_fault bytes rest at k n found f u c w (sym e))
same_break bytes m n f g e (wrong {rest = x} {at = a} {k = j} {found = h} c v) (wrong {rest = y} {at = b} {k = k} {found = i} d w) =
    let on = further 0 a b bytes x y h i c d (stuck_wrong y k g w) in
    let same = stuck_same a b x y on.found on.cut (stuck_wrong x j f v) in
    let p = wrong_found x j f v in
    let q = wrong_found y k g w in
    let r : fail f p.at ≡ fail g q.at = sym p.is ∙ ap (λ z. in_range (next z)) same ∙ q.is in
    cc

pub breaks_wrong : (bytes : List ℕ) (at valid k : ℕ) (f : Rule) → length bytes ≤ byte_limit → IsCutTo bytes at → at < length bytes → IsValidLen bytes valid
    → in_range (next (drop at bytes)) ≡ fail f k → at + k ≤ valid → IsFirstFault bytes f (offset_place bytes (at + k))
breaks_wrong bytes at valid k f short c l v e near = record {
  short = short;
  offset = at + k;
  breaks = wrong c.cut (scan_wrong (drop at bytes) f k (omega (arith, length-drop at bytes)) e);
  least = λ other g b. (let x = ap extent e in least_break bytes at valid (at + k) other g c v (omega arith) near b);
  only = λ another b. same_break bytes (at + k) (at + k) f another refl (wrong c.cut (scan_wrong (drop at bytes) f k (omega (arith, length-drop at bytes)) e)) b;
  at = refl;
  none = λ found x. no_lexes bytes at k f found c l e x;
}

pub breaks_text : (bytes : List ℕ) (at valid : ℕ) → length bytes ≤ byte_limit → IsCutTo bytes at → IsValidLen bytes valid
    → valid < length bytes → valid ≤ at + extent (in_range (next (drop at bytes))) → IsFirstFault bytes BadByte (offset_place bytes valid)
breaks_text bytes at valid short c v l near =
    let u = valid_short bytes valid v l in
    record {
      short = short;
      offset = valid;
      breaks = no_text u;
      least = λ other g b. least_break bytes at valid valid other g c v near (omega arith) b;
      only = λ another b. same_break bytes valid valid BadByte another refl (no_text u) b;
      at = refl;
      none = λ found x. not_utf8 bytes valid u x.utf8;
    }

-- the scan stays within the bytes
extent_within : (bytes : List ℕ) → 0 < length bytes → extent (in_range (next bytes)) ≤ length bytes
extent_within bytes some =
    (elim (in_range (next bytes)) as (λ x. in_range (next bytes) ≡ x → extent x ≤ length bytes) [
      | piece p n ↦ λ e. (scan_longest bytes p n e).0.within
      | fail f k ↦ λ e. (let w = wrong_within bytes k f (scan_wrong bytes f k some e) in omega arith)
    ]) refl

-- a fault within the bytes that are UTF-8, or the end of these
pub breaks_first : (bytes : List ℕ) (at valid k : ℕ) (f : Rule) → length bytes ≤ byte_limit → IsCutTo bytes at → at < length bytes → at ≤ valid → IsValidLen bytes valid
    → within (valid - at) (in_range (next (drop at bytes))) ≡ fail f k → IsFirstFault bytes f (offset_place bytes (at + k))
breaks_first bytes at valid k f short c l low v e =
    (elim (in_range (next (drop at bytes))) as (λ x. in_range (next (drop at bytes)) ≡ x → within (valid - at) x ≡ fail f k → IsFirstFault bytes f (offset_place bytes (at + k))) [
      | piece p n ↦ λ is h.
          (elim (nat_le n (valid - at)) as (λ t. nat_le n (valid - at) ≡ t → cond t (piece p n) (fail BadByte (valid - at)) ≡ fail f k → IsFirstFault bytes f (offset_place bytes (at + k))) [
            | true ↦ λ near i. cc
            | false ↦ λ far i. beyond (ap extent is) (leb-false n (valid - at) far) i
          ]) refl h
      | fail g j ↦ λ is h.
          (elim (nat_le j (valid - at)) as (λ t. nat_le j (valid - at) ≡ t → cond t (fail g j) (fail BadByte (valid - at)) ≡ fail f k → IsFirstFault bytes f (offset_place bytes (at + k))) [
            | true ↦ λ near i.
                (let place : j ≡ k = cc in let m = leb-true j (valid - at) near in
                breaks_wrong bytes at valid k f short c l v (is ∙ i) (omega arith))
            | false ↦ λ far i. beyond (ap extent is) (leb-false j (valid - at) far) i
          ]) refl h
    ]) refl e
  where
    beyond : {n : ℕ} → extent (in_range (next (drop at bytes))) ≡ n → valid - at < n → fail BadByte (valid - at) ≡ fail f k → IsFirstFault bytes f (offset_place bytes (at + k))
    beyond {n} is far i =
        let inside = extent_within (drop at bytes) (omega (arith, length-drop at bytes)) in
        let b = breaks_text bytes at valid short c v (omega (arith, length-drop at bytes)) (omega arith) in
        let same : BadByte ≡ f = cc in
        let place : valid - at ≡ k = cc in
        let offset : valid ≡ at + k = omega arith in
        subst (λ (x : Rule). IsFirstFault bytes x (offset_place bytes (at + k))) same (subst (λ (x : ℕ). IsFirstFault bytes BadByte (offset_place bytes x)) offset b)
