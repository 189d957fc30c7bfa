-- What leads to the closing quote is the spelling of a text.
use Rattle.std.proofs.Common.{◌≡◌, ⊎_elim, ℕ, zero, suc, ◌+◌, ◌-◌, ◌*◌, ◌/◌, ◌≤◌, ◌<◌, Bool, true, false, cond, List, [], ◌∷◌, ◌++◌, length, refl, sym, ap, subst, ◌∙◌, arith, append_assoc}
use Rattle.std.specs.Prelude.{◌==◌, ◌&&◌, nat_lt}
use Rattle.std.specs.List.{flat_map}
use Rattle.std.specs.Str.{IsUtf8}
use Rattle.std.proofs.lemmas.Str.{IsUtf8-nil, IsUtf8-append, IsUtf8-encode}
use Rattle.std.proofs.lemmas.Bool.{cases_lt}
use Rattle.std.proofs.lemmas.Bool.Decides.{nat_tests}
use lib.Utf8.{scalar, next, encode, low_scalar}
use lib.Dec.{T, leb, ltb, le→leb, lt→ltb}
use Rattle.sf_spelling.proofs.Encoding.{one, two, three, four}
use Rattle.sf_spelling.specs.Spelling.{escaped}
use Rattle.sf_spelling.specs.Scan.{between, behind, within, Move, stops, ends, skips, puts, more_of, lead, begun}
use Rattle.sf_spelling.proofs.Machine.{Leads, leads_by, out, out_by}
use Rattle.sf_spelling.proofs.Texts.{is_lt, is_ge, is_eq, escaped_high}

-- a byte and what follows it, where they lead to the end from between two characters
pub data Begins (b : ℕ) (y : List ℕ) : Type 0 where
  b_end : b ≡ 34 → y ≡ [] → begun b ≡ ends → Begins b y
  b_escape : b ≡ 92 → Leads behind y → begun b ≡ skips behind → Begins b y
  b_plain : (b == 34) ≡ false → (b == 92) ≡ false → (b == 10) ≡ false → b < 128 → Leads between y → begun b ≡ puts b between → Begins b y
  b_two : 194 ≤ b → b < 224 → Leads (within 128 191 0) y → begun b ≡ puts b (within 128 191 0) → Begins b y
  b_three : (low high : ℕ) → 224 ≤ b → b < 240 → 128 ≤ low → high ≤ 191 → (b ≡ 224 → 160 ≤ low) → (b ≡ 237 → high ≤ 159) → Leads (within low high 1) y → begun b ≡ puts b (within low high 1) → Begins b y
  b_four : (low high : ℕ) → 240 ≤ b → b < 245 → 128 ≤ low → high ≤ 191 → (b ≡ 240 → 144 ≤ low) → (b ≡ 244 → high ≤ 143) → Leads (within low high 2) y → begun b ≡ puts b (within low high 2) → Begins b y

abbrev lead7 : ℕ → Move
lead7 b = cond (b == 244) (puts b (within 128 143 2)) stops

abbrev lead6 : ℕ → Move
lead6 b = cond (nat_lt b 244) (puts b (within 128 191 2)) (lead7 b)

abbrev lead5 : ℕ → Move
lead5 b = cond (b == 240) (puts b (within 144 191 2)) (lead6 b)

abbrev lead4 : ℕ → Move
lead4 b = cond (nat_lt b 240) (puts b (within 128 191 1)) (lead5 b)

abbrev lead3 : ℕ → Move
lead3 b = cond (b == 237) (puts b (within 128 159 1)) (lead4 b)

abbrev lead2 : ℕ → Move
lead2 b = cond (b == 224) (puts b (within 160 191 1)) (lead3 b)

abbrev lead1 : ℕ → Move
lead1 b = cond (nat_lt b 224) (puts b (within 128 191 0)) (lead2 b)

differs : (a b : ℕ) → (a == b) ≡ false → a ≡ b → ⊥
differs a b h e = let t : (a == b) ≡ true = rw e (same b) in cc
  where
    same : (b : ℕ) → (b == b) ≡ true
    same b = grind (arith, nat_tests)

module _ (b : ℕ) (y : List ℕ) where
  from7 : (a : Bool) → (b == 244) ≡ a → begun b ≡ cond a (puts b (within 128 143 2)) stops → leads_by (cond a (puts b (within 128 143 2)) stops) y → Begins b y
  from7 true e g l = let is = is_eq b 244 e in b_four 128 143 (omega arith) (omega arith) (omega arith) (omega arith) (λ k. omega arith) (λ k. omega arith) l g
  from7 false e g l = absurd l

  from6 : 240 < b → (a : Bool) → nat_lt b 244 ≡ a → begun b ≡ cond a (puts b (within 128 191 2)) (lead7 b) → leads_by (cond a (puts b (within 128 191 2)) (lead7 b)) y → Begins b y
  from6 h true e g l = let u = is_lt b 244 e in b_four 128 191 (omega arith) (omega arith) (omega arith) (omega arith) (λ k. omega arith) (λ k. omega arith) l g
  from6 h false e g l = from7 (b == 244) refl g l

  from5 : 240 ≤ b → (a : Bool) → (b == 240) ≡ a → begun b ≡ cond a (puts b (within 144 191 2)) (lead6 b) → leads_by (cond a (puts b (within 144 191 2)) (lead6 b)) y → Begins b y
  from5 h true e g l = let is = is_eq b 240 e in b_four 144 191 (omega arith) (omega arith) (omega arith) (omega arith) (λ k. omega arith) (λ k. omega arith) l g
  from5 h false e g l = let n = differs b 240 e in from6 (omega arith) (nat_lt b 244) refl g l

  from4 : 224 < b → (b == 237) ≡ false → (a : Bool) → nat_lt b 240 ≡ a → begun b ≡ cond a (puts b (within 128 191 1)) (lead5 b) → leads_by (cond a (puts b (within 128 191 1)) (lead5 b)) y → Begins b y
  from4 h f true e g l = let u = is_lt b 240 e in b_three 128 191 (omega arith) (omega arith) (omega arith) (omega arith) (λ k. omega arith) (λ k. absurd (differs b 237 f k)) l g
  from4 h f false e g l = from5 (is_ge b 240 e) (b == 240) refl g l

  from3 : 224 < b → (a : Bool) → (b == 237) ≡ a → begun b ≡ cond a (puts b (within 128 159 1)) (lead4 b) → leads_by (cond a (puts b (within 128 159 1)) (lead4 b)) y → Begins b y
  from3 h true e g l = let is = is_eq b 237 e in b_three 128 159 (omega arith) (omega arith) (omega arith) (omega arith) (λ k. omega arith) (λ k. omega arith) l g
  from3 h false e g l = from4 h e (nat_lt b 240) refl g l

  from2 : 224 ≤ b → (a : Bool) → (b == 224) ≡ a → begun b ≡ cond a (puts b (within 160 191 1)) (lead3 b) → leads_by (cond a (puts b (within 160 191 1)) (lead3 b)) y → Begins b y
  from2 h true e g l = let is = is_eq b 224 e in b_three 160 191 (omega arith) (omega arith) (omega arith) (omega arith) (λ k. omega arith) (λ k. omega arith) l g
  from2 h false e g l = let n = differs b 224 e in from3 (omega arith) (b == 237) refl g l

  from1 : 194 ≤ b → (a : Bool) → nat_lt b 224 ≡ a → begun b ≡ cond a (puts b (within 128 191 0)) (lead2 b) → leads_by (cond a (puts b (within 128 191 0)) (lead2 b)) y → Begins b y
  from1 h true e g l = b_two h (is_lt b 224 e) l g
  from1 h false e g l = from2 (is_ge b 224 e) (b == 224) refl g l

  from0 : (a : Bool) → nat_lt b 194 ≡ a → begun b ≡ cond a stops (lead1 b) → leads_by (cond a stops (lead1 b)) y → Begins b y
  from0 true e g l = absurd l
  from0 false e g l = from1 (is_ge b 194 e) (nat_lt b 224) refl g l

  from_low : (b == 34) ≡ false → (b == 92) ≡ false → (b == 10) ≡ false → (a : Bool) → nat_lt b 128 ≡ a → begun b ≡ cond a (puts b between) (lead b) → leads_by (cond a (puts b between) (lead b)) y → Begins b y
  from_low p q r true e g l = b_plain p q r (is_lt b 128 e) l g
  from_low p q r false e g l = from0 (nat_lt b 194) refl g l

  from_feed : (b == 34) ≡ false → (b == 92) ≡ false → (a : Bool) → (b == 10) ≡ a → begun b ≡ cond a stops (cond (nat_lt b 128) (puts b between) (lead b)) → leads_by (cond a stops (cond (nat_lt b 128) (puts b between) (lead b))) y → Begins b y
  from_feed p q true e g l = absurd l
  from_feed p q false e g l = from_low p q e (nat_lt b 128) refl g l

  from_slash : (b == 34) ≡ false → (a : Bool) → (b == 92) ≡ a → begun b ≡ cond a (skips behind) (cond (b == 10) stops (cond (nat_lt b 128) (puts b between) (lead b)))
      → leads_by (cond a (skips behind) (cond (b == 10) stops (cond (nat_lt b 128) (puts b between) (lead b)))) y → Begins b y
  from_slash p true e g l = b_escape (is_eq b 92 e) l g
  from_slash p false e g l = from_feed p e (b == 10) refl g l

  from_quote : (a : Bool) → (b == 34) ≡ a → begun b ≡ cond a ends (cond (b == 92) (skips behind) (cond (b == 10) stops (cond (nat_lt b 128) (puts b between) (lead b))))
      → leads_by (cond a ends (cond (b == 92) (skips behind) (cond (b == 10) stops (cond (nat_lt b 128) (puts b between) (lead b))))) y → Begins b y
  from_quote true e g l = b_end (is_eq b 34 e) l g
  from_quote false e g l = from_slash e (b == 92) refl g l

  begins : Leads between (b ∷ y) → Begins b y
  begins l = from_quote (b == 34) refl refl l

-- a byte within a character
pub record Inside (low high n : ℕ) (x : List ℕ) : Type 0 where
  pub byte : ℕ
  pub rest : List ℕ
  pub is : x ≡ byte ∷ rest
  pub least : low ≤ byte
  pub greatest : byte ≤ high
  pub leads : Leads (more_of n) rest
  pub same : out (within low high n) x ≡ byte ∷ out (more_of n) rest

inside_by : (low high n b : ℕ) (x : List ℕ) (a c : Bool) → nat_lt b low ≡ a → nat_lt high b ≡ c → leads_by (cond a stops (cond c stops (puts b (more_of n)))) x → Inside low high n (b ∷ x)
inside_by low high n b x true c e f l = absurd l
inside_by low high n b x false true e f l = absurd l
inside_by low high n b x false false e f l = record { byte = b; rest = x; is = refl; least = is_ge b low e; greatest = is_ge high b f; leads = l; same = rw (e, f) refl }

inside_leads : (low high n : ℕ) (x : List ℕ) → Leads (within low high n) x → Inside low high n x
inside_leads low high n [] l = absurd l
inside_leads low high n (b ∷ x) l = inside_by low high n b x (nat_lt b low) (nat_lt high b) refl refl l

-- the bytes are the spelling of the text
pub record SpelledBy (x v : List ℕ) : Type 0 where
  pub is : x ≡ flat_map escaped v ++ 34 ∷ []
  pub utf8 : IsUtf8 v

single : (b : ℕ) → b < 128 → IsUtf8 (b ∷ [])
single b h = subst (λ x. IsUtf8 x) (one b h) (IsUtf8-encode b (low_scalar b (omega arith)))

spelled_low : (b : ℕ) (e y v : List ℕ) → b < 128 → escaped b ≡ e → SpelledBy y v → SpelledBy (e ++ y) (b ∷ v)
spelled_low b e y v h g s = record {
  is = ap (λ u. e ++ u) s.is ∙ sym (append_assoc e (flat_map escaped v) (34 ∷ [])) ∙ ap (λ u. (u ++ flat_map escaped v) ++ 34 ∷ []) (sym g);
  utf8 = IsUtf8-append (b ∷ []) v (single b h) s.utf8;
}

spelled_high : (b : ℕ) (y v : List ℕ) → 128 ≤ b → y ≡ flat_map escaped v ++ 34 ∷ [] → b ∷ y ≡ flat_map escaped (b ∷ v) ++ 34 ∷ []
spelled_high b y v h e = rw (escaped_high b h) (ap (λ u. b ∷ u) e)

two_is : (b c : ℕ) → 194 ≤ b → b < 224 → 128 ≤ c → c ≤ 191 → encode ((b - 192) * 64 + (c - 128)) ≡ b ∷ c ∷ []
two_is b c l h m k =
    let d = (b - 192) * 64 + (c - 128) in
    let p : 192 + d / 64 ≡ b = omega arith in
    let q : next d ≡ c = omega arith in
    two d (omega arith) (omega arith) ∙ rw (p, q) refl

three_is : (b c d : ℕ) → 224 ≤ b → b < 240 → 128 ≤ c → c ≤ 191 → 128 ≤ d → d ≤ 191 → (b ≡ 224 → 160 ≤ c) → encode ((b - 224) * 4096 + (c - 128) * 64 + (d - 128)) ≡ b ∷ c ∷ d ∷ []
three_is b c d l h m k n o f =
    let e = (b - 224) * 4096 + (c - 128) * 64 + (d - 128) in
    let p : 224 + e / 4096 ≡ b = omega arith in
    let q : next (e / 64) ≡ c = omega arith in
    let r : next e ≡ d = omega arith in
    let least : 2048 ≤ e = ⊎_elim (λ (s : b < 225). let g = f (omega arith) in omega arith) (λ (s : 225 ≤ b). omega arith) (cases_lt b 225) in
    three e least (omega arith) ∙ rw (p, q, r) refl

four_is : (b c d e : ℕ) → 240 ≤ b → b < 245 → 128 ≤ c → c ≤ 191 → 128 ≤ d → d ≤ 191 → 128 ≤ e → e ≤ 191 → (b ≡ 240 → 144 ≤ c) → encode ((b - 240) * 262144 + (c - 128) * 4096 + (d - 128) * 64 + (e - 128)) ≡ b ∷ c ∷ d ∷ e ∷ []
four_is b c d e l h m k n o s t f =
    let x = (b - 240) * 262144 + (c - 128) * 4096 + (d - 128) * 64 + (e - 128) in
    let p : 240 + x / 262144 ≡ b = omega arith in
    let q : next (x / 4096) ≡ c = omega arith in
    let r : next (x / 64) ≡ d = omega arith in
    let u : next x ≡ e = omega arith in
    let least : 65536 ≤ x = ⊎_elim (λ (v : b < 241). let g = f (omega arith) in omega arith) (λ (v : 241 ≤ b). omega arith) (cases_lt b 241) in
    four x least ∙ rw (p, q, r, u) refl

cond_true : (x y z : Bool) → T y → T z → cond x true (y && z) ≡ true
cond_true true y z p q = refl
cond_true false true true p q = refl
cond_true false true false p q = absurd q
cond_true false false z p q = absurd p

high_scalar : (c : ℕ) → 57344 ≤ c → c < 1114112 → scalar c ≡ true
high_scalar c l h = cond_true (ltb c 55296) (leb 57344 c) (ltb c 1114112) (le→leb 57344 c l) (lt→ltb c 1114112 h)

char_more : (c : ℕ) (p v : List ℕ) → scalar c ≡ true → encode c ≡ p → IsUtf8 v → IsUtf8 (p ++ v)
char_more c p v s e u = subst (λ x. IsUtf8 (x ++ v)) e (IsUtf8-append (encode c) v (IsUtf8-encode c s) u)

three_scalar : (b c d : ℕ) → 224 ≤ b → b < 240 → 128 ≤ c → c ≤ 191 → 128 ≤ d → d ≤ 191 → (b ≡ 237 → c ≤ 159) → scalar ((b - 224) * 4096 + (c - 128) * 64 + (d - 128)) ≡ true
three_scalar b c d l h m k n o f = ⊎_elim
    (λ (s : b < 238). low_scalar ((b - 224) * 4096 + (c - 128) * 64 + (d - 128)) (⊎_elim (λ (u : b < 237). omega arith) (λ (u : 237 ≤ b). let g = f (omega arith) in omega arith) (cases_lt b 237)))
    (λ (s : 238 ≤ b). high_scalar ((b - 224) * 4096 + (c - 128) * 64 + (d - 128)) (omega arith) (omega arith)) (cases_lt b 238)

four_scalar : (b c d e : ℕ) → 240 ≤ b → b < 245 → 128 ≤ c → c ≤ 191 → 128 ≤ d → d ≤ 191 → 128 ≤ e → e ≤ 191 → (b ≡ 240 → 144 ≤ c) → (b ≡ 244 → c ≤ 143) → scalar ((b - 240) * 262144 + (c - 128) * 4096 + (d - 128) * 64 + (e - 128)) ≡ true
four_scalar b c d e l h m k n o s t f g = high_scalar ((b - 240) * 262144 + (c - 128) * 4096 + (d - 128) * 64 + (e - 128))
    (⊎_elim (λ (v : b < 241). let u = f (omega arith) in omega arith) (λ (v : 241 ≤ b). omega arith) (cases_lt b 241))
    (⊎_elim (λ (v : b < 244). omega arith) (λ (v : 244 ≤ b). let u = g (omega arith) in omega arith) (cases_lt b 244))

spell_end : (b : ℕ) (y : List ℕ) → Begins b y → ((z : List ℕ) → length z < suc (length y) → Leads between z → SpelledBy z (out between z)) → SpelledBy (b ∷ y) (out_by (begun b) y)
spell_end b y (b_end e f g) ih = subst (λ m. SpelledBy (b ∷ y) (out_by m y)) (sym g) (record { is = rw (e, f) refl; utf8 = IsUtf8-nil })
spell_end b y (b_escape e l g) ih = subst (λ m. SpelledBy (b ∷ y) (out_by m y)) (sym g) (subst (λ x. SpelledBy (x ∷ y) (out behind y)) (sym e) (escape y l ih))
  where
    by_escape : (c : ℕ) (z : List ℕ) (p q r : Bool) → (c == 34) ≡ p → (c == 92) ≡ q → (c == 110) ≡ r → leads_by (cond p (puts 34 between) (cond q (puts 92 between) (cond r (puts 10 between) stops))) z
        → (Leads between z → SpelledBy z (out between z)) → SpelledBy (92 ∷ c ∷ z) (out_by (cond p (puts 34 between) (cond q (puts 92 between) (cond r (puts 10 between) stops))) z)
    by_escape c z true q r e f h l s = subst (λ x. SpelledBy (92 ∷ x ∷ z) (34 ∷ out between z)) (sym (is_eq c 34 e)) (spelled_low 34 (92 ∷ 34 ∷ []) z (out between z) (omega arith) refl (s l))
    by_escape c z false true r e f h l s = subst (λ x. SpelledBy (92 ∷ x ∷ z) (92 ∷ out between z)) (sym (is_eq c 92 f)) (spelled_low 92 (92 ∷ 92 ∷ []) z (out between z) (omega arith) refl (s l))
    by_escape c z false false true e f h l s = subst (λ x. SpelledBy (92 ∷ x ∷ z) (10 ∷ out between z)) (sym (is_eq c 110 h)) (spelled_low 10 (92 ∷ 110 ∷ []) z (out between z) (omega arith) refl (s l))
    by_escape c z false false false e f h l s = absurd l

    escape : (y : List ℕ) → Leads behind y → ((z : List ℕ) → length z < suc (length y) → Leads between z → SpelledBy z (out between z)) → SpelledBy (92 ∷ y) (out behind y)
    escape [] l ih = absurd l
    escape (c ∷ z) l ih = by_escape c z (c == 34) (c == 92) (c == 110) refl refl refl l (ih z (omega arith))
spell_end b y (b_plain p q r h l g) ih = subst (λ m. SpelledBy (b ∷ y) (out_by m y)) (sym g) (spelled_low b (b ∷ []) y (out between y) h (rw (p, q, r) refl) (ih y (omega arith) l))
spell_end b y (b_two h k l g) ih =
    let i = inside_leads 128 191 0 y l in
    let s = ih i.rest (omega (arith, ap length i.is)) i.leads in
    let v = out between i.rest in
    subst (λ m. SpelledBy (b ∷ y) (out_by m y)) (sym g) (subst (λ w. SpelledBy (b ∷ y) (b ∷ w)) (sym i.same) (record {
      is = spelled_high b y (i.byte ∷ v) (omega arith) (i.is ∙ spelled_high i.byte i.rest v i.least s.is);
      utf8 = char_more ((b - 192) * 64 + (i.byte - 128)) (b ∷ i.byte ∷ []) v (let j = i.greatest in let a : (b - 192) * 64 + (i.byte - 128) < 55296 = omega arith in low_scalar ((b - 192) * 64 + (i.byte - 128)) a) (two_is b i.byte h k i.least i.greatest) s.utf8;
    }))
spell_end b y (b_three low high h k p q f t l g) ih =
    let i = inside_leads low high 1 y l in
    let j = inside_leads 128 191 0 i.rest i.leads in
    let s = ih j.rest (omega (arith, ap length i.is, ap length j.is)) j.leads in
    let v = out between j.rest in
    let m : 128 ≤ i.byte = omega (arith, i.least) in
    let n : i.byte ≤ 191 = omega (arith, i.greatest) in
    let f' : b ≡ 224 → 160 ≤ i.byte = λ e. omega (arith, f e, i.least) in
    let t' : b ≡ 237 → i.byte ≤ 159 = λ e. omega (arith, t e, i.greatest) in
    subst (λ m. SpelledBy (b ∷ y) (out_by m y)) (sym g) (subst (λ w. SpelledBy (b ∷ y) (b ∷ w)) (sym (i.same ∙ ap (λ u. i.byte ∷ u) j.same)) (record {
      is = spelled_high b y (i.byte ∷ j.byte ∷ v) (omega arith) (i.is ∙ spelled_high i.byte i.rest (j.byte ∷ v) m (j.is ∙ spelled_high j.byte j.rest v j.least s.is));
      utf8 = char_more ((b - 224) * 4096 + (i.byte - 128) * 64 + (j.byte - 128)) (b ∷ i.byte ∷ j.byte ∷ []) v (three_scalar b i.byte j.byte h k m n j.least j.greatest t') (three_is b i.byte j.byte h k m n j.least j.greatest f') s.utf8;
    }))
spell_end b y (b_four low high h k p q f t l g) ih =
    let i = inside_leads low high 2 y l in
    let j = inside_leads 128 191 1 i.rest i.leads in
    let o = inside_leads 128 191 0 j.rest j.leads in
    let s = ih o.rest (omega (arith, ap length i.is, ap length j.is, ap length o.is)) o.leads in
    let v = out between o.rest in
    let m : 128 ≤ i.byte = omega (arith, i.least) in
    let n : i.byte ≤ 191 = omega (arith, i.greatest) in
    let f' : b ≡ 240 → 144 ≤ i.byte = λ e. omega (arith, f e, i.least) in
    let t' : b ≡ 244 → i.byte ≤ 143 = λ e. omega (arith, t e, i.greatest) in
    subst (λ m. SpelledBy (b ∷ y) (out_by m y)) (sym g) (subst (λ w. SpelledBy (b ∷ y) (b ∷ w)) (sym (i.same ∙ ap (λ u. i.byte ∷ u) (j.same ∙ ap (λ u. j.byte ∷ u) o.same))) (record {
      is = spelled_high b y (i.byte ∷ j.byte ∷ o.byte ∷ v) (omega arith) (i.is ∙ spelled_high i.byte i.rest (j.byte ∷ o.byte ∷ v) m (j.is ∙ spelled_high j.byte j.rest (o.byte ∷ v) j.least (o.is ∙ spelled_high o.byte o.rest v o.least s.is)));
      utf8 = char_more ((b - 240) * 262144 + (i.byte - 128) * 4096 + (j.byte - 128) * 64 + (o.byte - 128)) (b ∷ i.byte ∷ j.byte ∷ o.byte ∷ []) v
          (four_scalar b i.byte j.byte o.byte h k m n j.least j.greatest o.least o.greatest f' t') (four_is b i.byte j.byte o.byte h k m n j.least j.greatest o.least o.greatest f') s.utf8;
    }))

spells_within : (n : ℕ) (x : List ℕ) → length x ≤ n → Leads between x → SpelledBy x (out between x)
spells_within n [] h l = absurd l
spells_within zero (b ∷ y) h l = absurd (omega arith)
spells_within (suc n) (b ∷ y) h l = spell_end b y (begins b y l) (λ z k m. spells_within n z (omega arith) m)

-- what leads to the end is the spelling of a text in UTF-8
pub leads_spelled : (x : List ℕ) → Leads between x → SpelledBy x (out between x)
leads_spelled x l = spells_within (length x) x (omega arith) l
