-- A choice by the first byte.
use Rattle.std.proofs.Common.{◌≡◌, ◌⊎◌, inl, inr, ⊎_elim, ℕ, ◌<◌, Bool, true, false, cond, List, [], ◌∷◌, ◌++◌, length, Ok, Err, refl, sym, ap, subst, ◌∙◌, arith, append-nil}
use Rattle.std.proofs.lemmas.Bool.{false≢true}
use Rattle.std.specs.Prelude.{◌==◌}
use Rattle.sf_decimal.specs.Decimals.{BeginsNoDigit}
use Rattle.sf_spelling.specs.Scan.{bad, fault, Scanned}
use Rattle.sf_value.specs.Values.{KeyData}
use Rattle.sf_spelling.specs.Spelling.{key_spelling}
use Rattle.sf_spelling.specs.Reading.{Cause, EndsBefore}
use Rattle.sf_spelling.proofs.Readers.{Language, ReadsAt, Sound, Completes, Within, NoneBefore, never_grows, within_more, mapped, mapped_within, mapped_none}
use Rattle.sf_spelling.proofs.Sequences.{key_some, it_is, after}

-- it begins with another byte
abbrev pub BeginsOther : ℕ → List ℕ → Type 0
BeginsOther c [] = ⊥
BeginsOther c (d ∷ ds) = (d == c) ≡ false

-- the texts of one language, or those of another
abbrev pub either : {A B : Type 0} → Language A → Language B → Language (A ⊎ B)
either {A = A} {B = B} l m = record {
  Fit = λ v. ⊎_elim l.Fit m.Fit v;
  text = λ v. ⊎_elim l.text m.text v;
  Fault = λ v before k i. ⊎_elim (λ a. l.Fault a before k i) (λ b. m.Fault b before k i) v;
  some = inl l.some;
  some_fit = l.some_fit;
  shown = each;
}
  where
    each : (v : A ⊎ B) (before : List ℕ) (k : Cause) (i : KeyData) → ⊎_elim (λ a. l.Fault a before k i) (λ b. m.Fault b before k i) v → (after : List ℕ) × (⊎_elim l.text m.text v ≡ before ++ (key_spelling i ++ after))
    each (inl a) before k i f = l.shown a before k i f
    each (inr b) before k i f = m.shown b before k i f

module _ {A B : Type 0} (c : ℕ) (l : Language A) (m : Language B) (r : List ℕ → Scanned A) (n : List ℕ → Scanned B) (apart : (b : B) → m.Fit b → BeginsOther c (m.text b)) where
  -- the first reader where its byte stands, else the second
  abbrev pub either_at : List ℕ → Scanned (A ⊎ B)
  either_at [] = mapped inr (n [])
  either_at (x ∷ t) = cond (x == c) (mapped inl (r (x ∷ t))) (mapped inr (n (x ∷ t)))

  abbrev both : Language (A ⊎ B)
  both = either (after c l) m

  abbrev lefts : Scanned A → Scanned (A ⊎ B)
  lefts o = mapped inl o

  abbrev rights : Scanned B → Scanned (A ⊎ B)
  rights o = mapped inr o

  sound_left : (s : List ℕ) (o : Scanned A) → Sound (after c l) s o → Sound both s (lefts o)
  sound_left s (Ok q) h = record { fit = h.fit; cut = h.cut; clean = h.clean }
  sound_left s (Err (bad rest)) h = record { value = inl h.value; fit = h.fit; front = h.front; more = h.more; cut = h.cut; good = h.good }
  sound_left s (Err (fault k rest)) h = record { value = inl h.value; fit = h.fit; before = h.before; key = h.key; more = h.more; at = h.at; cut = h.cut; is = h.is; ends = h.ends }

  sound_right : (s : List ℕ) (o : Scanned B) → Sound m s o → Sound both s (rights o)
  sound_right s (Ok q) h = record { fit = h.fit; cut = h.cut; clean = h.clean }
  sound_right s (Err (bad rest)) h = record { value = inr h.value; fit = h.fit; front = h.front; more = h.more; cut = h.cut; good = h.good }
  sound_right s (Err (fault k rest)) h = record { value = inr h.value; fit = h.fit; before = h.before; key = h.key; more = h.more; at = h.at; cut = h.cut; is = h.is; ends = h.ends }

  complete_left : (a : A) (more : List ℕ) (o : Scanned A) → Completes (after c l) a more o → Completes both (inl a) more (lefts o)
  complete_left a more (Ok q) h = (ap inl h.0, h.1)
  complete_left a more (Err (bad rest)) h = h
  complete_left a more (Err (fault k rest)) h = h

  complete_right : (b : B) (more : List ℕ) (o : Scanned B) → Completes m b more o → Completes both (inr b) more (rights o)
  complete_right b more (Ok q) h = (ap inr h.0, h.1)
  complete_right b more (Err (bad rest)) h = h
  complete_right b more (Err (fault k rest)) h = h

  -- a text of the second begins with another byte
  not_second : (b : B) (t u w : List ℕ) → m.Fit b → m.text b ≡ c ∷ u → ⊥
  not_second b t u w h e = let f : BeginsOther c (c ∷ u) = subst (BeginsOther c) e (apart b h) in false≢true (sym f ∙ it_is c)

  begins_so : (b : B) (x : ℕ) (t f more back : List ℕ) → m.Fit b → m.text b ++ more ≡ x ∷ t → (x == c) ≡ true → ⊥
  begins_so b x t f more back h e g = each (m.text b) (apart b h) e
    where
      each : (u : List ℕ) → BeginsOther c u → u ++ more ≡ x ∷ t → ⊥
      each [] k e = k
      each (d ∷ u) k e = let same : d ≡ x = cc in false≢true (sym k ∙ ap (λ y. y == c) same ∙ g)

  left_here : (x : ℕ) (t : List ℕ) → (x == c) ≡ true → ReadsAt (after c l) (x ∷ t) (r (x ∷ t)) → ReadsAt both (x ∷ t) (lefts (r (x ∷ t)))
  left_here x t e h = record {
    sound = sound_left (x ∷ t) (r (x ∷ t)) h.sound;
    complete = complete;
    longest = longest;
    first = first;
  }
    where
      complete : (more : List ℕ) (v : A ⊎ B) → both.Fit v → BeginsNoDigit more → x ∷ t ≡ both.text v ++ more → Completes both v more (lefts (r (x ∷ t)))
      complete more (inl a) f b g = complete_left a more (r (x ∷ t)) (h.complete more a f b g)
      complete more (inr w) f b g = absurd (begins_so w x t [] more [] f (sym g) e)

      longest : (f more back : List ℕ) (v : A ⊎ B) → both.Fit v → both.text v ≡ f ++ more → x ∷ t ≡ f ++ back → Within back (lefts (r (x ∷ t)))
      longest f more back (inl a) k i g = mapped_within inl back (r (x ∷ t)) (h.longest f more back a k i g)
      longest [] more back (inr w) k i g = mapped_within inl back (r (x ∷ t)) (within_more (x ∷ t) back (r (x ∷ t)) (omega (arith, ap length g)) (never_grows (after c l) (x ∷ t) (r (x ∷ t)) h.sound))
      longest (d ∷ f) more back (inr w) k i g = absurd (begins_so w d (f ++ more) [] [] [] k (append-nil (m.text w) ∙ i) (let same : d ≡ x = cc in ap (λ y. y == c) same ∙ e))

      first : (before more : List ℕ) (v : A ⊎ B) (k : Cause) (i : KeyData) → both.Fit v → both.Fault v before k i → x ∷ t ≡ before ++ (key_spelling i ++ more) → EndsBefore i more → NoneBefore {A = A ⊎ B} (length (key_spelling i ++ more)) (lefts (r (x ∷ t)))
      first before more (inl a) k i f j g b = mapped_none inl (length (key_spelling i ++ more)) (r (x ∷ t)) (h.first before more a k i f j g b)
      first before more (inr w) k i f j g b = let s = m.shown w before k i j in absurd (item_begins w before (key_spelling i) s.0 more x t f s.1 (key_some i) g e)
        where
          item_begins : (w : B) (before item tail more : List ℕ) (x : ℕ) (t : List ℕ) → m.Fit w → m.text w ≡ before ++ (item ++ tail) → 0 < length item → x ∷ t ≡ before ++ (item ++ more) → (x == c) ≡ true → ⊥
          item_begins w [] [] tail more x t f e h g k = omega arith
          item_begins w [] (d ∷ item) tail more x t f e h g k = begins_so w d (item ++ tail) [] [] [] f (append-nil (m.text w) ∙ e) (let same : d ≡ x = cc in ap (λ y. y == c) same ∙ k)
          item_begins w (d ∷ before) item tail more x t f e h g k = begins_so w d (before ++ (item ++ tail)) [] [] [] f (append-nil (m.text w) ∙ e) (let same : d ≡ x = cc in ap (λ y. y == c) same ∙ k)

  right_here : (s : List ℕ) → ((x : ℕ) (t : List ℕ) → s ≡ x ∷ t → (x == c) ≡ true → ⊥) → ReadsAt m s (n s) → ReadsAt both s (rights (n s))
  right_here s no_c h = record {
    sound = sound_right s (n s) h.sound;
    complete = complete;
    longest = longest;
    first = first;
  }
    where
      complete : (more : List ℕ) (v : A ⊎ B) → both.Fit v → BeginsNoDigit more → s ≡ both.text v ++ more → Completes both v more (rights (n s))
      complete more (inl a) f b g = absurd (no_c c (l.text a ++ more) g (it_is c))
      complete more (inr w) f b g = complete_right w more (n s) (h.complete more w f b g)

      longest : (f more back : List ℕ) (v : A ⊎ B) → both.Fit v → both.text v ≡ f ++ more → s ≡ f ++ back → Within back (rights (n s))
      longest f more back (inr w) k i g = mapped_within inr back (n s) (h.longest f more back w k i g)
      longest [] more back (inl a) k i g = mapped_within inr back (n s) (within_more s back (n s) (omega (arith, ap length g)) (never_grows m s (n s) h.sound))
      longest (d ∷ f) more back (inl a) k i g = absurd (no_c d (f ++ back) g (let same : c ≡ d = cc in ap (λ y. y == c) (sym same) ∙ it_is c))

      first : (before more : List ℕ) (v : A ⊎ B) (k : Cause) (i : KeyData) → both.Fit v → both.Fault v before k i → s ≡ before ++ (key_spelling i ++ more) → EndsBefore i more → NoneBefore {A = A ⊎ B} (length (key_spelling i ++ more)) (rights (n s))
      first before more (inl a) k i f j g b = absurd (no_c c (j.0 ++ (key_spelling i ++ more)) (g ∙ ap (λ u. u ++ (key_spelling i ++ more)) j.1) (it_is c))
      first before more (inr w) k i f j g b = mapped_none inr (length (key_spelling i ++ more)) (n s) (h.first before more w k i f j g b)

  nil_apart : (x : ℕ) (t : List ℕ) → [] ≡ x ∷ t → (x == c) ≡ true → ⊥
  nil_apart x t e g = cc

  cons_apart : (x : ℕ) (t : List ℕ) → (x == c) ≡ false → (y : ℕ) (u : List ℕ) → x ∷ t ≡ y ∷ u → (y == c) ≡ true → ⊥
  cons_apart x t e y u g h = let same : x ≡ y = cc in false≢true (sym e ∙ ap (λ z. z == c) same ∙ h)

  by_byte : (x : ℕ) (t : List ℕ) (b : Bool) → (x == c) ≡ b → ReadsAt (after c l) (x ∷ t) (r (x ∷ t)) → ReadsAt m (x ∷ t) (n (x ∷ t)) → ReadsAt both (x ∷ t) (cond b (lefts (r (x ∷ t))) (rights (n (x ∷ t))))
  by_byte x t true e h k = left_here x t e h
  by_byte x t false e h k = right_here (x ∷ t) (cons_apart x t e) k

  pub either_reader : (s : List ℕ) → ReadsAt (after c l) s (r s) → ReadsAt m s (n s) → ReadsAt both s (either_at s)
  either_reader [] h k = right_here [] nil_apart k
  either_reader (x ∷ t) h k = by_byte x t (x == c) refl h k
