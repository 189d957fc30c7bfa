-- A value, and then another.
use Rattle.std.proofs.Common.{◌≡◌, ◌⊎◌, inl, inr, ⊎_elim, ℕ, ◌≤◌, ◌<◌, List, [], ◌∷◌, ◌++◌, length, Ok, Err, refl, sym, ap, subst, ◌∙◌, arith, append_assoc, length-append}
use Rattle.sf_decimal.specs.Decimals.{BeginsNoDigit}
use Rattle.sf_spelling.specs.Scan.{bad, fault, Scanned, ◌>>=◌}
use Rattle.sf_value.specs.Values.{KeyData}
use Rattle.sf_spelling.specs.Spelling.{key_spelling}
use Rattle.sf_spelling.specs.Reading.{Cause, EndsBefore}
use Rattle.sf_spelling.proofs.Readers.{Language, ReadsAt, Whole, Sound, Completes, Within, NoneBefore, never_grows, within_more, mapped, mapped_within, mapped_none}
use Rattle.sf_spelling.proofs.Sequences.{key_some, front_split, no_digit_append, no_digit_front}

pub shown_first : (x b i k r : List ℕ) → x ≡ b ++ (i ++ k) → x ++ r ≡ b ++ (i ++ (k ++ r))
shown_first x b i k r e = ap (λ u. u ++ r) e ∙ append_assoc b (i ++ k) r ∙ ap (λ u. b ++ u) (append_assoc i k r)

pub shown_second : (x b y i k : List ℕ) (f : List ℕ) → y ≡ f ++ (i ++ k) → b ≡ x ++ f → x ++ y ≡ b ++ (i ++ k)
shown_second x b y i k f e g = ap (λ u. x ++ u) e ∙ sym (append_assoc x f (i ++ k)) ∙ ap (λ u. u ++ (i ++ k)) (sym g)

-- one value and another, of a language that the first may choose
abbrev pub then : {A B : Type 0} → Language A → (A → Language B) → Language (A × B)
then l m = record {
  Fit = λ p. l.Fit p.0 × (m p.0).Fit p.1;
  text = λ p. l.text p.0 ++ (m p.0).text p.1;
  Fault = λ p before k i. l.Fault p.0 before k i ⊎ ((x : List ℕ) × (before ≡ l.text p.0 ++ x) × (m p.0).Fault p.1 x k i);
  some = (l.some, (m l.some).some);
  some_fit = (l.some_fit, (m l.some).some_fit);
  shown = λ p before k i f. ⊎_elim
      (λ (g : l.Fault p.0 before k i). let s = l.shown p.0 before k i g in
      (s.0 ++ (m p.0).text p.1, shown_first (l.text p.0) before (key_spelling i) s.0 ((m p.0).text p.1) s.1))
      (λ (g : (x : List ℕ) × (before ≡ l.text p.0 ++ x) × (m p.0).Fault p.1 x k i). let s = (m p.0).shown p.1 g.0 k i g.2 in
      (s.0, shown_second (l.text p.0) before ((m p.0).text p.1) (key_spelling i) s.0 g.0 s.1 g.1))
      f;
}

module _ {A B : Type 0} where
  abbrev pub with_first : A → Scanned B → Scanned (A × B)
  with_first a o = mapped (λ b. (a, b)) o

  abbrev pub then_at : (A → List ℕ → Scanned B) → Scanned A → Scanned (A × B)
  then_at n o = o >>= (λ p. with_first p.0 (n p.0 p.1))

-- the front of the second text begins no digit
second_begins : (x y k item after more : List ℕ) → 0 < length item → y ≡ x ++ (item ++ after) → BeginsNoDigit y → BeginsNoDigit (x ++ (item ++ more))
second_begins [] y k [] after more h e b = absurd (omega arith)
second_begins [] y k (c ∷ item) after more h e b = subst BeginsNoDigit e b
second_begins (c ∷ x) y k item after more h e b = subst BeginsNoDigit e b

module _ {A B : Type 0} (l : Language A) (m : A → Language B) (n : A → List ℕ → Scanned B) (mark : (a : A) (b : B) → (m a).Fit b → BeginsNoDigit ((m a).text b)) where
  sound_with : (s t : List ℕ) (a : A) → Whole l s a t → (o : Scanned B) → Sound (m a) t o → Sound (then l m) s (with_first a o)
  sound_with s t a w (Ok q) h = record {
    fit = (w.fit, h.fit);
    cut = w.cut ∙ ap (λ u. l.text a ++ u) h.cut ∙ sym (append_assoc (l.text a) ((m a).text q.0) q.1);
    clean = λ before k i. λ f. ⊎_elim (λ (g : l.Fault a before k i). w.clean before k i g) (λ (g : (x : List ℕ) × (before ≡ l.text a ++ x) × (m a).Fault q.0 x k i). h.clean g.0 k i g.2) f;
  }
  sound_with s t a w (Err (bad rest)) h = record {
    value = (a, h.value);
    fit = (w.fit, h.fit);
    front = l.text a ++ h.front;
    more = h.more;
    cut = w.cut ∙ ap (λ u. l.text a ++ u) h.cut ∙ sym (append_assoc (l.text a) h.front rest);
    good = ap (λ u. l.text a ++ u) h.good ∙ sym (append_assoc (l.text a) h.front h.more);
  }
  sound_with s t a w (Err (fault k rest)) h = record {
    value = (a, h.value);
    fit = (w.fit, h.fit);
    before = l.text a ++ h.before;
    key = h.key;
    more = h.more;
    at = inr (h.before, refl, h.at);
    cut = w.cut ∙ ap (λ u. l.text a ++ u) h.cut ∙ sym (append_assoc (l.text a) h.before rest);
    is = h.is;
    ends = h.ends;
  }

  whole_shorter : (s t : List ℕ) (a : A) → Whole l s a t → length t ≤ length s
  whole_shorter s t a w = let e = ap length w.cut in omega (arith, e, length-append (l.text a) t)

  sound_then : (s : List ℕ) (o : Scanned A) → ((a : A) (t : List ℕ) → length t ≤ length s → ReadsAt (m a) t (n a t)) → Sound l s o → Sound (then l m) s (then_at n o)
  sound_then s (Ok p) r h = sound_with s p.1 p.0 h (n p.0 p.1) (r p.0 p.1 (whole_shorter s p.1 p.0 h)).sound
  sound_then s (Err (bad rest)) r h = record {
    value = (h.value, (m h.value).some);
    fit = (h.fit, (m h.value).some_fit);
    front = h.front;
    more = h.more ++ (m h.value).text (m h.value).some;
    cut = h.cut;
    good = ap (λ x. x ++ (m h.value).text (m h.value).some) h.good ∙ append_assoc h.front h.more ((m h.value).text (m h.value).some);
  }
  sound_then s (Err (fault k rest)) r h = record {
    value = (h.value, (m h.value).some);
    fit = (h.fit, (m h.value).some_fit);
    before = h.before;
    key = h.key;
    more = h.more;
    at = inl h.at;
    cut = h.cut;
    is = h.is;
    ends = h.ends;
  }

  complete_with : (v : A × B) (more : List ℕ) (o : Scanned B) → Completes (m v.0) v.1 more o → Completes (then l m) v more (with_first v.0 o)
  complete_with v more (Ok q) h = (let p : q.0 ≡ v.1 = h.0 in ap (λ y. (v.0, y)) p, h.1)
  complete_with v more (Err (bad rest)) h = h
  complete_with v more (Err (fault k rest)) h = (h.0, (l.text v.0 ++ h.1.0, h.1.1, inr (h.1.0, refl, h.1.2)))

  then_is : (a : A) (t : List ℕ) (p : A × List ℕ) → p.0 ≡ a → p.1 ≡ t → then_at n (Ok p) ≡ with_first a (n a t)
  then_is a t p e g = ap (λ u. with_first p.0 (n p.0 u)) g ∙ ap (λ x. with_first x (n x t)) e

  complete_then : (v : A × B) (t more : List ℕ) → Completes (m v.0) v.1 more (n v.0 t) → (length more ≤ length t) → (o : Scanned A) → Completes l v.0 t o → Completes (then l m) v more (then_at n o)
  complete_then v t more h k (Ok p) g = subst (λ o. Completes (then l m) v more o) (sym (then_is v.0 t p g.0 g.1)) (complete_with v more (n v.0 t) h)
  complete_then v t more h k (Err (bad rest)) g = g
  complete_then v t more h k (Err (fault j rest)) g = (omega (arith, g.0), (g.1.0, g.1.1, inl g.1.2))

  -- the front ends within the first value
  within_first : (s back : List ℕ) (o : Scanned A) → ((a : A) (t : List ℕ) → length t ≤ length s → ReadsAt (m a) t (n a t)) → Sound l s o → Within back o → Within back (then_at n o)
  within_first s back (Ok p) r w h = mapped_within (λ b. (p.0, b)) back (n p.0 p.1) (within_more p.1 back (n p.0 p.1) h (never_grows (m p.0) p.1 (n p.0 p.1) (r p.0 p.1 (whole_shorter s p.1 p.0 w)).sound))
  within_first s back (Err (bad rest)) r w h = h
  within_first s back (Err (fault k rest)) r w h = tt

  -- the front goes on
  within_second : (v : A × B) (t back : List ℕ) → Within back (n v.0 t) → (o : Scanned A) → Completes l v.0 t o → Within back (then_at n o)
  within_second v t back h (Ok p) g = subst (λ o. Within back o) (sym (then_is v.0 t p g.0 g.1)) (mapped_within (λ b. (v.0, b)) back (n v.0 t) h)
  within_second v t back h (Err (bad rest)) g = absurd g
  within_second v t back h (Err (fault k rest)) g = tt

  none_first : (left : ℕ) (o : Scanned A) → NoneBefore {A = A} left o → NoneBefore {A = A × B} left (then_at n o)
  none_first left (Ok p) h = absurd h
  none_first left (Err (bad rest)) h = h
  none_first left (Err (fault k rest)) h = h

  none_second : (v : A × B) (t : List ℕ) (left : ℕ) → left ≤ length t → NoneBefore {A = B} left (n v.0 t) → (o : Scanned A) → Completes l v.0 t o → NoneBefore {A = A × B} left (then_at n o)
  none_second v t left k h (Ok p) g = subst (λ o. NoneBefore {A = A × B} left o) (sym (then_is v.0 t p g.0 g.1)) (mapped_none (λ b. (v.0, b)) left (n v.0 t) h)
  none_second v t left k h (Err (bad rest)) g = absurd g
  none_second v t left k h (Err (fault j rest)) g = omega (arith, g.0)

  shorter_rest : (s x t : List ℕ) → s ≡ x ++ t → length t ≤ length s
  shorter_rest s x t e = omega (arith, ap length e, length-append x t)

  module _ (s : List ℕ) (o : Scanned A) (lr : ReadsAt l s o) (mr : (a : A) (t : List ℕ) → length t ≤ length s → ReadsAt (m a) t (n a t)) where
    then_complete : (more : List ℕ) (v : A × B) → (l.Fit v.0 × (m v.0).Fit v.1) → BeginsNoDigit more → s ≡ (l.text v.0 ++ (m v.0).text v.1) ++ more → Completes (then l m) v more (then_at n o)
    then_complete more v fit ends e =
        let t = (m v.0).text v.1 ++ more in
        let e' = e ∙ append_assoc (l.text v.0) ((m v.0).text v.1) more in
        let ends' = no_digit_append ((m v.0).text v.1) more (mark v.0 v.1 fit.1) ends in
        complete_then v t more ((mr v.0 t (shorter_rest s (l.text v.0) t e')).complete more v.1 fit.1 ends refl) (omega (arith, length-append ((m v.0).text v.1) more)) o (lr.complete t v.0 fit.0 ends' e')

    then_longest : (f more back : List ℕ) (v : A × B) → (l.Fit v.0 × (m v.0).Fit v.1) → (l.text v.0 ++ (m v.0).text v.1) ≡ f ++ more → s ≡ f ++ back → Within back (then_at n o)
    then_longest f more back v fit e g = ⊎_elim
        (λ (k : (k : List ℕ) × (l.text v.0 ≡ f ++ k)). within_first s back o mr lr.sound (lr.longest f k.0 back v.0 fit.0 k.1 g))
        (λ (k : (d : ℕ) × (k : List ℕ) × (f ≡ l.text v.0 ++ (d ∷ k)) × ((m v.0).text v.1 ≡ d ∷ (k ++ more))).
        let t = (k.0 ∷ k.1) ++ back in
        let e' : s ≡ l.text v.0 ++ t = g ∙ ap (λ u. u ++ back) k.2 ∙ append_assoc (l.text v.0) (k.0 ∷ k.1) back in
        within_second v t back ((mr v.0 t (shorter_rest s (l.text v.0) t e')).longest (k.0 ∷ k.1) more back v.1 fit.1 k.3 refl) o
        (lr.complete t v.0 fit.0 (no_digit_front k.0 k.1 more ((m v.0).text v.1) k.3 (mark v.0 v.1 fit.1)) e'))
        (front_split (l.text v.0) ((m v.0).text v.1) f more e)

    then_first : (before more : List ℕ) (v : A × B) (k : Cause) (i : KeyData) → (l.Fit v.0 × (m v.0).Fit v.1) → (l.Fault v.0 before k i ⊎ ((x : List ℕ) × (before ≡ l.text v.0 ++ x) × (m v.0).Fault v.1 x k i))
        → s ≡ before ++ (key_spelling i ++ more) → EndsBefore i more → NoneBefore {A = A × B} (length (key_spelling i ++ more)) (then_at n o)
    then_first before more v k i fit at e ends = ⊎_elim
        (λ (f : l.Fault v.0 before k i). none_first (length (key_spelling i ++ more)) o (lr.first before more v.0 k i fit.0 f e ends))
        (λ (f : (x : List ℕ) × (before ≡ l.text v.0 ++ x) × (m v.0).Fault v.1 x k i).
        let t = f.0 ++ (key_spelling i ++ more) in
        let e' : s ≡ l.text v.0 ++ t = e ∙ ap (λ u. u ++ (key_spelling i ++ more)) f.1 ∙ append_assoc (l.text v.0) f.0 (key_spelling i ++ more) in
        let shown = (m v.0).shown v.1 f.0 k i f.2 in
        none_second v t (length (key_spelling i ++ more)) (omega (arith, length-append f.0 (key_spelling i ++ more))) ((mr v.0 t (shorter_rest s (l.text v.0) t e')).first f.0 more v.1 k i fit.1 f.2 refl ends) o
        (lr.complete t v.0 fit.0 (second_begins f.0 ((m v.0).text v.1) [] (key_spelling i) shown.0 more (key_some i) shown.1 (mark v.0 v.1 fit.1)) e'))
        at

    pub then_reader : ReadsAt (then l m) s (then_at n o)
    then_reader = record { sound = sound_then s o mr lr.sound; complete = then_complete; longest = then_longest; first = then_first }
