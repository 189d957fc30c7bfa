-- Reading whole numbers.
use Rattle.std.proofs.Common.{◌≡◌, ℕ, zero, suc, ◌≤◌, ◌<◌, ℤ, pos, negsuc, Bool, true, false, cond, List, [], ◌∷◌, ◌++◌, length, Ok, Err, refl, sym, ap, subst, ◌∙◌, arith, append-nil, length-append}
use Rattle.std.specs.Prelude.{⊤, ◌==◌, nat_lt, ◌&&◌}
use Rattle.std.proofs.lemmas.Bool.Decides.{nat_tests}
use Rattle.std.specs.Char.{is_ascii_digit}
use Rattle.std.specs.Str.Parse.{digits_value}
use Rattle.sf_decimal.specs.Decimals.{natural, integer, BeginsNoDigit, digits_at, after_digits, signed}
use Rattle.sf_spelling.specs.Scan.{bad, fault, Scanned, ◌>>=◌, positive_at, scanned_integer, narrow}
use Rattle.sf_spelling.specs.Reading.{Cause, wide, EndsBefore}
use Rattle.sf_spelling.specs.Spelling.{key_spelling}
use Rattle.sf_value.specs.Values.{KeyData, number_key, is_narrow}
use Rattle.sf_decimal.proofs.Numbers.{natural_small, minus_text}
use Rattle.sf_decimal.proofs.Digits.{AllDigits, numeral, numeral_at, numeral_read, run_longest}
use Rattle.sf_spelling.proofs.Readers.{Language, IsReader, Sound, Completes, Within, NoneBefore, never_grows}
use Rattle.std.proofs.lemmas.Bool.{false≢true, and_parts}

-- a digit other than 0
abbrev starts : ℕ → Bool
starts c = nat_lt 48 c && is_ascii_digit c

starts_low : (c : ℕ) → starts c ≡ true → 48 < c
starts_low c h = grind (arith, nat_tests)

starts_digit : (c : ℕ) → starts c ≡ true → is_ascii_digit c ≡ true
starts_digit c h = (and_parts (nat_lt 48 c) (is_ascii_digit c) h).1

starts_from : (c : ℕ) → 49 ≤ c → c < 58 → starts c ≡ true
starts_from c l h = grind (arith, nat_tests)

pub not_minus : (c : ℕ) → 48 < c → (c == 45) ≡ false
not_minus c h = grind (arith, nat_tests)

pub not_zero : (c : ℕ) → 48 < c → (c == 48) ≡ false
not_zero c h = grind (arith, nat_tests)

abbrev pub PositiveSound : List ℕ → Scanned ℕ → Type 0
PositiveSound s (Ok p) = (0 < p.0) × (s ≡ natural p.0 ++ p.1) × BeginsNoDigit p.1
PositiveSound s (Err (bad r)) = r ≡ s
PositiveSound s (Err (fault c r)) = ⊥

positive_sound_at : (c : ℕ) (s : List ℕ) (b : Bool) → starts c ≡ b → PositiveSound (c ∷ s) (cond b (Ok (digits_value 10 (digits_at (c ∷ s)), after_digits (c ∷ s))) (Err (bad (c ∷ s))))
positive_sound_at c s true e = numeral_at c s (starts_low c e) (starts_digit c e)
positive_sound_at c s false e = refl

pub positive_sound : (s : List ℕ) → PositiveSound s (positive_at s)
positive_sound [] = refl
positive_sound (c ∷ s) = positive_sound_at c s (starts c) refl

positive_digits : (c : ℕ) (s : List ℕ) → 49 ≤ c → c < 58 → positive_at (c ∷ s) ≡ Ok (digits_value 10 (digits_at (c ∷ s)), after_digits (c ∷ s))
positive_digits c s l h = ap (λ b. cond b (Ok (digits_value 10 (digits_at (c ∷ s)), after_digits (c ∷ s))) (Err (bad (c ∷ s)))) (starts_from c l h)

pub positive_read : (n : ℕ) (more : List ℕ) → 0 < n → BeginsNoDigit more → positive_at (natural n ++ more) ≡ Ok (n, more)
positive_read n more h b =
    let r = numeral n h in
    let is = numeral_read n more h b in
    ap (λ x. positive_at (x ++ more)) r.is ∙ positive_digits r.head (r.tail ++ more) r.low r.high
    ∙ ap (λ x. Ok (digits_value 10 (digits_at (x ++ more)), after_digits (x ++ more))) (sym r.is)
    ∙ ap (λ x. Ok (x, after_digits (natural n ++ more))) is.0 ∙ ap (λ x. Ok (n, x)) is.1

AllDigits_front : (f m : List ℕ) → AllDigits (f ++ m) → AllDigits f
AllDigits_front [] m a = tt
AllDigits_front (c ∷ f) m a = (a.0, AllDigits_front f m a.1)

positive_within : (s : List ℕ) (o : Scanned ℕ) → PositiveSound s o → Within s o
positive_within s (Ok p) h = let e = ap length h.1 in omega (arith, e, length-append (natural p.0) p.1)
positive_within s (Err (bad r)) h = let e = ap length h in omega arith
positive_within s (Err (fault c r)) h = tt

positive_longest : (n : ℕ) (f more back : List ℕ) → 0 < n → natural n ≡ f ++ more → Within back (positive_at (f ++ back))
positive_longest n [] more back h e = positive_within back (positive_at back) (positive_sound back)
positive_longest n (d ∷ f) more back h e =
    let r = numeral n h in
    let g : r.head ∷ r.tail ≡ d ∷ (f ++ more) = sym r.is ∙ e in
    let hd : r.head ≡ d = cc in
    let tl : r.tail ≡ f ++ more = cc in
    let a : AllDigits f = AllDigits_front f more (subst AllDigits tl r.digits.1) in
    let low : 49 ≤ d = omega (arith, r.low, hd) in
    let high : d < 58 = omega (arith, r.high, hd) in
    let first = starts_digit d (starts_from d low high) in
    subst (λ o. Within back o) (sym (positive_digits d (f ++ back) low high)) (run_longest (d ∷ f) back (first, a))

plain_at : (c : ℕ) (t : List ℕ) (n : ℕ) (more : List ℕ) → 48 < c → positive_at (c ∷ t) ≡ Ok (n, more) → scanned_integer (c ∷ t) ≡ narrow (c ∷ t) (pos n) more
plain_at c t n more l e = rw (not_minus c l, not_zero c l) (ap (λ o. o >>= (λ m. narrow (c ∷ t) (pos m.0) m.1)) e)

-- a number is read where it stands alone
pub integer_read : (z : ℤ) (more : List ℕ) → BeginsNoDigit more → scanned_integer (integer z ++ more) ≡ narrow (integer z ++ more) z more
integer_read (pos zero) more b = rw (natural_small 0 (omega arith)) refl
integer_read (pos (suc n)) more b =
    let r = numeral (suc n) (omega arith) in
    subst (λ x. scanned_integer (x ++ more) ≡ narrow (x ++ more) (pos (suc n)) more) (sym r.is)
    (plain_at r.head (r.tail ++ more) (suc n) more (omega (arith, r.low)) (subst (λ x. positive_at (x ++ more) ≡ Ok (suc n, more)) r.is (positive_read (suc n) more (omega arith) b)))
integer_read (negsuc n) more b =
    ap (λ o. o >>= (λ m. narrow (45 ∷ (natural (suc n) ++ more)) (signed true m.0) m.1)) (positive_read (suc n) more (omega arith) b)

pub shown_alone : (v : ℤ) (before : List ℕ) (k : KeyData) → before ≡ [] → k ≡ number_key v → integer v ≡ before ++ (key_spelling k ++ [])
shown_alone v before k b e = ap key_spelling (sym e) ∙ sym (append-nil (key_spelling k)) ∙ ap (λ x. x ++ (key_spelling k ++ [])) (sym b)

-- whole numbers, of which those outside signed 64 bits have a fault
abbrev pub integers : Language ℤ
integers = record {
  Fit = λ _. ⊤;
  text = integer;
  Fault = λ n before c k. (before ≡ []) × (c ≡ wide) × (k ≡ number_key n) × (is_narrow n ≡ false);
  some = pos 0;
  some_fit = tt;
  shown = λ v before c k f. ([], shown_alone v before k f.0 f.2);
}

narrow_sound : (s : List ℕ) (z : ℤ) (rest : List ℕ) → s ≡ integer z ++ rest → BeginsNoDigit rest → (b : Bool) → is_narrow z ≡ b → Sound integers s (cond b (Ok (z, rest)) (Err (fault wide s)))
narrow_sound s z rest e d true n = record { fit = tt; cut = e; clean = λ before c w f. false≢true (sym f.3 ∙ n) }
narrow_sound s z rest e d false n = record { value = z; fit = tt; before = []; key = number_key z; more = rest; at = (refl, refl, refl, n); cut = refl; is = e; ends = d }

sound_minus : (s : List ℕ) (o : Scanned ℕ) → PositiveSound s o → Sound integers (45 ∷ s) (o >>= (λ n. narrow (45 ∷ s) (signed true n.0) n.1))
sound_minus s (Ok p) h =
    narrow_sound (45 ∷ s) (signed true p.0) p.1 (ap (λ x. 45 ∷ x) h.1 ∙ ap (λ x. x ++ p.1) (sym (minus_text p.0 h.0))) h.2 (is_narrow (signed true p.0)) refl
sound_minus s (Err (bad r)) h = record { value = negsuc 0; fit = tt; front = 45 ∷ []; more = natural 1; cut = ap (λ x. 45 ∷ x) (sym h); good = refl }
sound_minus s (Err (fault c r)) h = absurd h

sound_plus : (s : List ℕ) (o : Scanned ℕ) → PositiveSound s o → Sound integers s (o >>= (λ n. narrow s (pos n.0) n.1))
sound_plus s (Ok p) h = narrow_sound s (pos p.0) p.1 h.1 h.2 (is_narrow (pos p.0)) refl
sound_plus s (Err (bad r)) h = record { value = pos 0; fit = tt; front = []; more = natural 0; cut = sym h; good = refl }
sound_plus s (Err (fault c r)) h = absurd h

same_byte : (x c : ℕ) → (x == c) ≡ true → x ≡ c
same_byte x c h = grind (arith, nat_tests)

sound_zero : (c : ℕ) (s : List ℕ) (b : Bool) → (c == 48) ≡ b → Sound integers (c ∷ s) (cond b (Ok (pos 0, s)) (positive_at (c ∷ s) >>= (λ n. narrow (c ∷ s) (pos n.0) n.1)))
sound_zero c s true e = record {
  fit = tt;
  cut = ap (λ x. x ∷ s) (same_byte c 48 e) ∙ ap (λ x. x ++ s) (sym (natural_small 0 (omega arith)));
  clean = λ before k w f. false≢true (sym f.3);
}
sound_zero c s false e = sound_plus (c ∷ s) (positive_at (c ∷ s)) (positive_sound (c ∷ s))

sound_sign : (c : ℕ) (s : List ℕ) (b : Bool) → (c == 45) ≡ b → Sound integers (c ∷ s) (cond b (positive_at s >>= (λ n. narrow (c ∷ s) (signed true n.0) n.1)) (cond (c == 48) (Ok (pos 0, s)) (positive_at (c ∷ s) >>= (λ n. narrow (c ∷ s) (pos n.0) n.1))))
sound_sign c s true e = subst (λ x. Sound integers (x ∷ s) (positive_at s >>= (λ n. narrow (x ∷ s) (signed true n.0) n.1))) (sym (same_byte c 45 e)) (sound_minus s (positive_at s) (positive_sound s))
sound_sign c s false e = sound_zero c s (c == 48) refl

integer_sound : (s : List ℕ) → Sound integers s (scanned_integer s)
integer_sound [] = record { value = pos 0; fit = tt; front = []; more = natural 0; cut = refl; good = refl }
integer_sound (c ∷ s) = sound_sign c s (c == 45) refl

narrow_completes : (s : List ℕ) (z : ℤ) (more : List ℕ) → length more ≤ length s → (b : Bool) → is_narrow z ≡ b → Completes integers z more (cond b (Ok (z, more)) (Err (fault wide s)))
narrow_completes s z more h true n = (refl, refl)
narrow_completes s z more h false n = (h, ([], number_key z, (refl, refl, refl, n)))

integer_complete : (s more : List ℕ) (v : ℤ) → ⊤ → BeginsNoDigit more → s ≡ integer v ++ more → Completes integers v more (scanned_integer s)
integer_complete s more v _ b e =
    let full = integer v ++ more in
    subst (λ x. Completes integers v more (scanned_integer x)) (sym e) (subst (λ o. Completes integers v more o) (sym (integer_read v more b)) (narrow_completes full v more (omega (arith, length-append (integer v) more)) (is_narrow v) refl))

narrow_within : (back s : List ℕ) (g : ℕ → ℤ) (o : Scanned ℕ) → Within back o → Within back (o >>= (λ n. narrow s (g n.0) n.1))
narrow_within back s g (Ok p) h = each (is_narrow (g p.0))
  where
    each : (b : Bool) → Within back (cond b (Ok (g p.0, p.1)) (Err (fault wide s)))
    each true = h
    each false = tt
narrow_within back s g (Err (bad r)) h = h
narrow_within back s g (Err (fault c r)) h = tt

longest_at : (z : ℤ) (f more back : List ℕ) → integer z ≡ f ++ more → Within back (scanned_integer (f ++ back))
longest_at z [] more back e = never_grows integers back (scanned_integer back) (integer_sound back)
longest_at (pos zero) (d ∷ []) more back e =
    let g : 48 ∷ [] ≡ d ∷ more = sym (natural_small 0 (omega arith)) ∙ e in
    let is : 48 ≡ d = cc in
    subst (λ x. Within back (scanned_integer (x ∷ back))) is (omega arith)
longest_at (pos zero) (d ∷ x ∷ f) more back e =
    let g : 48 ∷ [] ≡ d ∷ x ∷ (f ++ more) = sym (natural_small 0 (omega arith)) ∙ e in absurd (cc)
longest_at (pos (suc n)) (d ∷ f) more back e =
    let r = numeral (suc n) (omega arith) in
    let g : r.head ∷ r.tail ≡ d ∷ (f ++ more) = sym r.is ∙ e in
    let hd : r.head ≡ d = cc in
    let low : 48 < d = omega (arith, r.low, hd) in
    rw (not_minus d low, not_zero d low) (narrow_within back (d ∷ (f ++ back)) pos (positive_at (d ∷ (f ++ back))) (positive_longest (suc n) (d ∷ f) more back (omega arith) e))
longest_at (negsuc n) (d ∷ f) more back e =
    let hd : 45 ≡ d = cc in
    let tl : natural (suc n) ≡ f ++ more = cc in
    subst (λ x. Within back (scanned_integer (x ∷ (f ++ back)))) hd (narrow_within back (45 ∷ (f ++ back)) (signed true) (positive_at (f ++ back)) (positive_longest (suc n) f more back (omega arith) tl))

integer_first : (s before more : List ℕ) (v : ℤ) (c : Cause) (k : KeyData) → (before ≡ []) × (c ≡ wide) × (k ≡ number_key v) × (is_narrow v ≡ false) → s ≡ before ++ (key_spelling k ++ more) → EndsBefore k more → NoneBefore {A = ℤ} (length (key_spelling k ++ more)) (scanned_integer s)
integer_first s before more v c k f e b =
    let full = integer v ++ more in
    let same : key_spelling k ++ more ≡ full = ap (λ x. key_spelling x ++ more) f.2 in
    let g : s ≡ full = e ∙ ap (λ x. x ++ (key_spelling k ++ more)) f.0 ∙ same in
    let ends : BeginsNoDigit more = subst (λ x. EndsBefore x more) f.2 b in
    let stops : scanned_integer s ≡ Err (fault wide full) = ap scanned_integer g ∙ integer_read v more ends ∙ ap (λ k. cond k (Ok (v, more)) (Err (fault wide full))) f.3 in
    subst (λ o. NoneBefore {A = ℤ} (length (key_spelling k ++ more)) o) (sym stops) (omega (arith, ap length same))

pub integers_reader : IsReader integers scanned_integer
integers_reader s = record {
  sound = integer_sound s;
  complete = integer_complete s;
  longest = λ f more back v _ e g. subst (λ x. Within back (scanned_integer x)) (sym g) (longest_at v f more back e);
  first = λ before more v c k _ f e b. integer_first s before more v c k f e b;
}
