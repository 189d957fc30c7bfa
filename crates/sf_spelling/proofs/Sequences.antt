-- Readers one after another.
use Rattle.std.proofs.Common.{◌≡◌, ◌⊎◌, inl, inr, ⊎_elim, ℕ, ◌≤◌, ◌<◌, zero, suc, pos, negsuc, Bool, true, false, cond, List, [], ◌∷◌, ◌++◌, length, Result, Ok, Err, refl, sym, ap, subst, ◌∙◌, arith}
use Rattle.std.specs.Prelude.{⊤, ◌==◌}
use Rattle.std.proofs.lemmas.Bool.Decides.{nat_tests}
use Rattle.std.specs.Char.{is_ascii_digit}
use Rattle.sf_decimal.specs.Decimals.{BeginsNoDigit}
use Rattle.sf_spelling.specs.Scan.{Stop, bad, fault, Scanned, ◌>>=◌, byte_at, word_at}
use Rattle.sf_value.specs.Values.{KeyData, number_key, text_key}
use Rattle.sf_decimal.proofs.Numbers.{natural_small}
use Rattle.sf_decimal.proofs.Digits.{numeral}
use Rattle.sf_spelling.specs.Spelling.{key_spelling}
use Rattle.sf_spelling.specs.Reading.{Cause}
use Rattle.sf_spelling.proofs.Readers.{Language, ReadsAt, IsReader, StopsAt, Sound, Completes, Within, never_grows, within_more}

-- a front of two lists one after another: it ends within the first, or goes on into the second
pub front_split : (xs ys f m : List ℕ) → xs ++ ys ≡ f ++ m → ((k : List ℕ) × (xs ≡ f ++ k)) ⊎ ((d : ℕ) × (k : List ℕ) × (f ≡ xs ++ (d ∷ k)) × (ys ≡ d ∷ (k ++ m)))
front_split xs ys [] m e = inl (xs, refl)
front_split [] ys (d ∷ f) m e = inr (d, f, refl, e)
front_split (x ∷ xs) ys (d ∷ f) m e =
    let inner : xs ++ ys ≡ f ++ m = cc in
    ⊎_elim (λ (r : (k : List ℕ) × (xs ≡ f ++ k)). inl (r.0, cc))
    (λ (r : (b : ℕ) × (k : List ℕ) × (f ≡ xs ++ (b ∷ k)) × (ys ≡ b ∷ (k ++ m))). inr (r.0, r.1, cc, r.3)) (front_split xs ys f m inner)

pub no_digit_append : (x y : List ℕ) → BeginsNoDigit x → BeginsNoDigit y → BeginsNoDigit (x ++ y)
no_digit_append [] y a b = b
no_digit_append (c ∷ x) y a b = a

-- the first byte of a text that goes on
pub no_digit_front : (d : ℕ) (k m x : List ℕ) → x ≡ d ∷ (k ++ m) → BeginsNoDigit x → is_ascii_digit d ≡ false
no_digit_front d k m x e b = subst BeginsNoDigit e b

-- a key has a text
pub key_some : (k : KeyData) → 0 < length (key_spelling k)
key_some (number_key (pos zero)) = omega (arith, ap length (natural_small 0 (omega arith)))
key_some (number_key (pos (suc n))) = let r = numeral (suc n) (omega arith) in omega (arith, ap length r.is)
key_some (number_key (negsuc n)) = omega arith
key_some (text_key s) = omega arith

pub same_byte : (x c : ℕ) → (x == c) ≡ true → x ≡ c
same_byte x c h = grind (arith, nat_tests)

pub it_is : (c : ℕ) → (c == c) ≡ true
it_is c = grind (arith, nat_tests)

-- the empty text
abbrev pub nothing : Language (Unit {0})
nothing = record { Fit = λ _. ⊤; text = λ _. []; Fault = λ _ _ _ _. ⊥; some = tt; some_fit = tt; shown = λ v before c i f. absurd f }

abbrev pub nothing_at : List ℕ → Scanned (Unit {0})
nothing_at s = Ok (tt, s)

nothing_longest : (s f more back : List ℕ) → [] ≡ f ++ more → s ≡ f ++ back → length s ≤ length back
nothing_longest s [] more back e g = omega (arith, ap length g)
nothing_longest s (c ∷ f) more back e g = absurd (cc)

pub nothing_reader : IsReader nothing nothing_at
nothing_reader s = record {
  sound = record { fit = tt; cut = refl; clean = λ _ _ _ h. h };
  complete = λ more v _ _ e. (refl, e);
  longest = λ f more back v _ e g. nothing_longest s f more back e g;
  first = λ before more v c i _ h _ _. h;
}

-- a byte before a text
abbrev pub after : {A : Type 0} → ℕ → Language A → Language A
after c m = record {
  Fit = m.Fit;
  text = λ v. c ∷ m.text v;
  Fault = λ v before k i. (x : List ℕ) × (before ≡ c ∷ x) × m.Fault v x k i;
  some = m.some;
  some_fit = m.some_fit;
  shown = λ v before k i f. let s = m.shown v f.0 k i f.2 in (s.0, ap (λ u. c ∷ u) s.1 ∙ ap (λ u. u ++ (key_spelling i ++ s.0)) (sym f.1));
}

module _ {A : Type 0} (c : ℕ) (m : Language A) (n : List ℕ → Scanned A) where
  abbrev pub after_at : List ℕ → Scanned A
  after_at s = byte_at c s >>= n

  sound_in : (t : List ℕ) (o : Scanned A) → Sound m t o → Sound (after c m) (c ∷ t) o
  sound_in t (Ok q) h = record { fit = h.fit; cut = ap (λ u. c ∷ u) h.cut; clean = λ before k i f. h.clean f.0 k i f.2 }
  sound_in t (Err (bad rest)) h = record { value = h.value; fit = h.fit; front = c ∷ h.front; more = h.more; cut = ap (λ u. c ∷ u) h.cut; good = ap (λ u. c ∷ u) h.good }
  sound_in t (Err (fault k rest)) h = record { value = h.value; fit = h.fit; before = c ∷ h.before; key = h.key; more = h.more; at = (h.before, refl, h.at); cut = ap (λ u. c ∷ u) h.cut; is = h.is; ends = h.ends }

  complete_in : (v : A) (more : List ℕ) (o : Scanned A) → Completes m v more o → Completes (after c m) v more o
  complete_in v more (Ok q) h = h
  complete_in v more (Err (bad rest)) h = h
  complete_in v more (Err (fault k rest)) h = (h.0, (c ∷ h.1.0, h.1.1, (h.1.0, refl, h.1.2)))

  longest_in : (t f more back : List ℕ) (v : A) → ReadsAt m t (n t) → m.Fit v → c ∷ m.text v ≡ f ++ more → c ∷ t ≡ f ++ back → Within back (n t)
  longest_in t [] more back v r h e g = within_more t back (n t) (omega (arith, ap length g)) (never_grows m t (n t) r.sound)
  longest_in t (d ∷ f) more back v r h e g = r.longest f more back v h (cc) (cc)

  -- what starts with the byte
  after_here : (t : List ℕ) → ReadsAt m t (n t) → ReadsAt (after c m) (c ∷ t) (n t)
  after_here t r = record {
    sound = sound_in t (n t) r.sound;
    complete = λ more v h b e. complete_in v more (n t) (r.complete more v h b (cc));
    longest = λ f more back v h e g. longest_in t f more back v r h e g;
    first = λ before more v k i h f e b. r.first f.0 more v k i h f.2 (let e' : c ∷ t ≡ c ∷ (f.0 ++ (key_spelling i ++ more)) = e ∙ ap (λ u. u ++ (key_spelling i ++ more)) f.1 in cc) b;
  }

  stops_here : (s : List ℕ) → StopsAt (after c m) s s
  stops_here s = record { value = m.some; fit = m.some_fit; front = []; more = c ∷ m.text m.some; cut = refl; good = refl }

  longest_empty : (f more back : List ℕ) (v : A) → c ∷ m.text v ≡ f ++ more → [] ≡ f ++ back → 0 ≤ length back
  longest_empty f more back v e g = omega arith

  longest_other : (x : ℕ) (t f more back : List ℕ) (v : A) → (x ≡ c → ⊥) → c ∷ m.text v ≡ f ++ more → x ∷ t ≡ f ++ back → length (x ∷ t) ≤ length back
  longest_other x t [] more back v h e g = omega (arith, ap length g)
  longest_other x t (d ∷ f) more back v h e g = absurd (h (cc))

  after_other : (x : ℕ) (t : List ℕ) → (x ≡ c → ⊥) → ReadsAt (after c m) (x ∷ t) (Err (bad (x ∷ t)))
  after_other x t apart = record {
    sound = stops_here (x ∷ t);
    complete = λ more v h b e. apart (cc);
    longest = λ f more back v h e g. longest_other x t f more back v apart e g;
    first = λ before more v k i h f e b. apart (let e' : x ∷ t ≡ c ∷ (f.0 ++ (key_spelling i ++ more)) = e ∙ ap (λ u. u ++ (key_spelling i ++ more)) f.1 in cc);
  }

  other : (x : ℕ) → (x == c) ≡ false → x ≡ c → ⊥
  other x e g = grind (arith, nat_tests)

  after_byte : (x : ℕ) (t : List ℕ) (b : Bool) → (x == c) ≡ b → ReadsAt m t (n t) → ReadsAt (after c m) (x ∷ t) (cond b (Ok t) (Err (bad (x ∷ t))) >>= n)
  after_byte x t true e r = subst (λ y. ReadsAt (after c m) (y ∷ t) (n t)) (sym (same_byte x c e)) (after_here t r)
  after_byte x t false e r = after_other x t (other x e)

  pub after_reader : (s : List ℕ) → ((t : List ℕ) → length t < length s → ReadsAt m t (n t)) → ReadsAt (after c m) s (after_at s)
  after_reader [] r = record {
    sound = stops_here [];
    complete = λ more v h b e. absurd (cc);
    longest = λ f more back v h e g. longest_empty f more back v e g;
    first = λ before more v k i h f e b. absurd (let e' : [] ≡ c ∷ (f.0 ++ (key_spelling i ++ more)) = e ∙ ap (λ u. u ++ (key_spelling i ++ more)) f.1 in cc);
  }
  after_reader (x ∷ t) r = after_byte x t (x == c) refl (r t (omega arith))

-- a fixed text before another
abbrev pub word : {A : Type 0} → List ℕ → Language A → Language A
word [] m = m
word (c ∷ cs) m = after c (word cs m)

abbrev pub after_word : {A : Type 0} → List ℕ → (List ℕ → Scanned A) → List ℕ → Scanned A
after_word [] n s = n s
after_word (c ∷ cs) n s = byte_at c s >>= after_word cs n

pub same_bind : {A B : Type 0} (o : Result A Stop) (f g : A → Result B Stop) → ((x : A) → f x ≡ g x) → (o >>= f) ≡ (o >>= g)
same_bind (Ok x) f g e = e x
same_bind (Err x) f g e = refl

pub bind_twice : {A B C : Type 0} (o : Result A Stop) (f : A → Result B Stop) (g : B → Result C Stop) → ((o >>= f) >>= g) ≡ (o >>= (λ x. f x >>= g))
bind_twice (Ok x) f g = refl
bind_twice (Err x) f g = refl

pub after_word_is : {A : Type 0} (cs : List ℕ) (n : List ℕ → Scanned A) (s : List ℕ) → after_word cs n s ≡ (word_at cs s >>= n)
after_word_is [] n s = refl
after_word_is (c ∷ cs) n s = same_bind (byte_at c s) (after_word cs n) (λ t. word_at cs t >>= n) (after_word_is cs n) ∙ sym (bind_twice (byte_at c s) (word_at cs) n)

pub word_reader : {A : Type 0} (cs : List ℕ) (m : Language A) (n : List ℕ → Scanned A) (s : List ℕ) → ((t : List ℕ) → length t ≤ length s → ReadsAt m t (n t)) → ReadsAt (word cs m) s (after_word cs n s)
word_reader [] m n s r = r s (omega arith)
word_reader (c ∷ cs) m n s r = after_reader c (word cs m) (after_word cs n) s (λ t h. word_reader cs m n t (λ u k. r u (omega arith)))

pub word_text : {A : Type 0} (cs : List ℕ) (m : Language A) (v : A) → (word cs m).text v ≡ cs ++ m.text v
word_text [] m v = refl
word_text (c ∷ cs) m v = ap (λ u. c ∷ u) (word_text cs m v)

pub word_down : {A : Type 0} (cs : List ℕ) (m : Language A) (v : A) (before : List ℕ) (k : Cause) (i : KeyData) → (word cs m).Fault v before k i → (x : List ℕ) × (before ≡ cs ++ x) × m.Fault v x k i
word_down [] m v before k i f = (before, refl, f)
word_down (c ∷ cs) m v before k i f = let g = word_down cs m v f.0 k i f.2 in (g.0, f.1 ∙ ap (λ u. c ∷ u) g.1, g.2)

pub word_back : {A : Type 0} (cs : List ℕ) (m : Language A) (v : A) (x : List ℕ) (k : Cause) (i : KeyData) → m.Fault v x k i → (word cs m).Fault v (cs ++ x) k i
word_back [] m v x k i f = f
word_back (c ∷ cs) m v x k i f = (cs ++ x, refl, word_back cs m v x k i f)

pub word_fit : {A : Type 0} (cs : List ℕ) (m : Language A) (v : A) → m.Fit v → (word cs m).Fit v
word_fit [] m v h = h
word_fit (c ∷ cs) m v h = word_fit cs m v h
