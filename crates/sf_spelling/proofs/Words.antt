-- Reading the values that words spell, and events.
use Rattle.std.proofs.Common.{◌≡◌, ◌⊎◌, inl, inr, Bool, true, false, cond, List, [], ◌∷◌, Result, Ok, Err, refl, sym, ap, subst, ◌∙◌, ℕ}
use Rattle.std.specs.Prelude.{◌==◌, codes, ⊤}
use Rattle.sf_value.specs.Values.{Kind, unit_kind, bool_kind, event_kind, KeyData, Data, unit, truth, no_event, event}
use Rattle.sf_spelling.specs.Scan.{Stop, Scanned, ◌>>=◌, word_at, scanned_value}
use Rattle.sf_spelling.specs.Spelling.{spelling}
use Rattle.sf_spelling.specs.Reading.{HasShape, unit_shape, bool_shape, no_event_shape, event_shape, Cause, HasFault}
use Rattle.sf_spelling.proofs.Readers.{Language, IsReader, mapped, map_reader, same_reader}
use Rattle.sf_spelling.proofs.Sequences.{nothing, nothing_at, nothing_reader, after, word, after_word, after_word_is, word_reader, word_down, word_back}
use Rattle.sf_spelling.proofs.Choices.{either, either_at, either_reader}
use Rattle.sf_spelling.proofs.Languages.{kinds}

pub mapped_twice : {A B C : Type 0} (f : B → C) (g : A → B) (o : Scanned A) → mapped f (mapped g o) ≡ mapped (λ x. f (g x)) o
mapped_twice f g (Ok p) = refl
mapped_twice f g (Err e) = refl

pub mapped_bind : {A B C : Type 0} (f : B → C) (o : Result A Stop) (g : A → Scanned B) → mapped f (o >>= g) ≡ (o >>= (λ x. mapped f (g x)))
mapped_bind f (Ok x) g = refl
mapped_bind f (Err e) g = refl

pub mapped_is : {A B : Type 0} (f : A → B) (o : Scanned A) → mapped f o ≡ (o >>= (λ x. Ok (f x.0, x.1)))
mapped_is f (Ok p) = refl
mapped_is f (Err e) = refl

-- a word alone
word_end : {B : Type 0} (f : Unit {0} → B) (cs s : List ℕ) → mapped f (after_word cs nothing_at s) ≡ (word_at cs s >>= (λ e. Ok (f tt, e)))
word_end f cs s = ap (mapped f) (after_word_is cs nothing_at s) ∙ mapped_bind f (word_at cs s) nothing_at

unit_up : (b : Data) → HasShape b unit_kind → (a : Unit {0}) × (b ≡ unit) × ⊤
unit_up b unit_shape = (tt, refl, tt)

pub unit_reader : IsReader (kinds unit_kind) (scanned_value unit_kind)
unfolding scanned_value
unit_reader s = same_reader (kinds unit_kind) s _ _ (word_end (λ _. unit) (codes "()") s)
    (map_reader (word (codes "()") nothing) (kinds unit_kind) (λ _. unit) (λ _ _. unit_shape) (λ _ _. refl)
    (λ a before c i f. absurd (word_down (codes "()") nothing tt before c i f).2) (λ a before c i f. absurd f) unit_up
    s (after_word (codes "()") nothing_at s) (word_reader (codes "()") nothing nothing_at s (λ t _. nothing_reader t)))

abbrev truths : Language (Unit {0} ⊎ Unit {0})
truths = either (after 116 (word (codes "rue") nothing)) (word (codes "false") nothing)

abbrev to_truth : Unit {0} ⊎ Unit {0} → Data
to_truth (inl _) = truth true
to_truth (inr _) = truth false

truth_up : (b : Data) → HasShape b bool_kind → (a : Unit {0} ⊎ Unit {0}) × (b ≡ to_truth a) × truths.Fit a
truth_up v (bool_shape {b = true}) = (inl tt, refl, tt)
truth_up v (bool_shape {b = false}) = (inr tt, refl, tt)

truth_fit : (a : Unit {0} ⊎ Unit {0}) → truths.Fit a → HasShape (to_truth a) bool_kind
truth_fit (inl _) h = bool_shape
truth_fit (inr _) h = bool_shape

truth_text : (a : Unit {0} ⊎ Unit {0}) → truths.Fit a → spelling (to_truth a) ≡ truths.text a
truth_text (inl _) h = refl
truth_text (inr _) h = refl

truth_down : (a : Unit {0} ⊎ Unit {0}) (before : List ℕ) (c : Cause) (i : KeyData) → truths.Fault a before c i → HasFault (to_truth a) before c i
truth_down (inl _) before c i f = absurd (word_down (codes "true") nothing tt before c i f).2
truth_down (inr _) before c i f = absurd (word_down (codes "false") nothing tt before c i f).2

truth_back : (a : Unit {0} ⊎ Unit {0}) (before : List ℕ) (c : Cause) (i : KeyData) → HasFault (to_truth a) before c i → truths.Fault a before c i
truth_back (inl _) before c i f = absurd f
truth_back (inr _) before c i f = absurd f

abbrev truth_parts : List ℕ → Scanned (Unit {0} ⊎ Unit {0})
truth_parts s = either_at 116 (word (codes "rue") nothing) (word (codes "false") nothing) (after_word (codes "true") nothing_at) (after_word (codes "false") nothing_at) (λ _ _. refl) s

truth_same : (s : List ℕ) → mapped to_truth (truth_parts s) ≡ scanned_value bool_kind s
unfolding scanned_value
truth_same [] = refl
truth_same (c ∷ s) = each (c == 116)
  where
    each : (b : Bool) → mapped to_truth (cond b (mapped inl (after_word (codes "true") nothing_at (c ∷ s))) (mapped inr (after_word (codes "false") nothing_at (c ∷ s))))
        ≡ cond b (word_at (codes "true") (c ∷ s) >>= (λ e. Ok (truth true, e))) (word_at (codes "false") (c ∷ s) >>= (λ e. Ok (truth false, e)))
    each true = mapped_twice to_truth inl (after_word (codes "true") nothing_at (c ∷ s)) ∙ word_end (λ _. truth true) (codes "true") (c ∷ s)
    each false = mapped_twice to_truth inr (after_word (codes "false") nothing_at (c ∷ s)) ∙ word_end (λ _. truth false) (codes "false") (c ∷ s)

pub truth_reader : IsReader (kinds bool_kind) (scanned_value bool_kind)
truth_reader s = same_reader (kinds bool_kind) s _ _ (truth_same s)
    (map_reader truths (kinds bool_kind) to_truth truth_fit truth_text truth_down truth_back truth_up s (truth_parts s)
    (either_reader 116 (word (codes "rue") nothing) (word (codes "false") nothing) (after_word (codes "true") nothing_at) (after_word (codes "false") nothing_at) (λ _ _. refl) s
    (word_reader (codes "true") nothing nothing_at s (λ t _. nothing_reader t)) (word_reader (codes "false") nothing nothing_at s (λ t _. nothing_reader t))))

module _ (t : Kind) where
  abbrev events : Language (Unit {0} ⊎ Data)
  events = either (after 110 (word (codes "one") nothing)) (word (codes "event ") (kinds t))

  abbrev to_event : Unit {0} ⊎ Data → Data
  to_event (inl _) = no_event
  to_event (inr x) = event x

  event_up : (b : Data) → HasShape b (event_kind t) → (a : Unit {0} ⊎ Data) × (b ≡ to_event a) × events.Fit a
  event_up v no_event_shape = (inl tt, refl, tt)
  event_up v (event_shape {x = x} h) = (inr x, refl, h)

  event_fit : (a : Unit {0} ⊎ Data) → events.Fit a → HasShape (to_event a) (event_kind t)
  event_fit (inl _) h = no_event_shape
  event_fit (inr x) h = event_shape h

  event_text : (a : Unit {0} ⊎ Data) → events.Fit a → spelling (to_event a) ≡ events.text a
  event_text (inl _) h = refl
  event_text (inr x) h = refl

  event_down : (a : Unit {0} ⊎ Data) (before : List ℕ) (c : Cause) (i : KeyData) → events.Fault a before c i → HasFault (to_event a) before c i
  event_down (inl _) before c i f = absurd (word_down (codes "none") nothing tt before c i f).2
  event_down (inr x) before c i f = word_down (codes "event ") (kinds t) x before c i f

  event_back : (a : Unit {0} ⊎ Data) (before : List ℕ) (c : Cause) (i : KeyData) → HasFault (to_event a) before c i → events.Fault a before c i
  event_back (inl _) before c i f = absurd f
  event_back (inr x) before c i f = subst (λ b. events.Fault (inr x) b c i) (sym f.1) (word_back (codes "event ") (kinds t) x f.0 c i f.2)

  abbrev event_parts : List ℕ → Scanned (Unit {0} ⊎ Data)
  event_parts s = either_at 110 (word (codes "one") nothing) (word (codes "event ") (kinds t)) (after_word (codes "none") nothing_at) (after_word (codes "event ") (scanned_value t)) (λ _ _. refl) s

  event_same : (s : List ℕ) → mapped to_event (event_parts s) ≡ scanned_value (event_kind t) s
  unfolding scanned_value
  event_same [] = refl
  event_same (c ∷ s) = each (c == 110)
    where
      each : (b : Bool) → mapped to_event (cond b (mapped inl (after_word (codes "none") nothing_at (c ∷ s))) (mapped inr (after_word (codes "event ") (scanned_value t) (c ∷ s))))
          ≡ cond b (word_at (codes "none") (c ∷ s) >>= (λ e. Ok (no_event, e))) (word_at (codes "event ") (c ∷ s) >>= (λ e. scanned_value t e >>= (λ x. Ok (event x.0, x.1))))
      each true = mapped_twice to_event inl (after_word (codes "none") nothing_at (c ∷ s)) ∙ word_end (λ _. no_event) (codes "none") (c ∷ s)
      each false = mapped_twice to_event inr (after_word (codes "event ") (scanned_value t) (c ∷ s)) ∙ ap (mapped event) (after_word_is (codes "event ") (scanned_value t) (c ∷ s))
          ∙ mapped_bind event (word_at (codes "event ") (c ∷ s)) (scanned_value t) ∙ ap (λ g. word_at (codes "event ") (c ∷ s) >>= g) (λ i e. mapped_is event (scanned_value t e) i)

  pub event_reader : IsReader (kinds t) (scanned_value t) → IsReader (kinds (event_kind t)) (scanned_value (event_kind t))
  event_reader r s = same_reader (kinds (event_kind t)) s _ _ (event_same s)
      (map_reader events (kinds (event_kind t)) to_event event_fit event_text event_down event_back event_up s (event_parts s)
      (either_reader 110 (word (codes "one") nothing) (word (codes "event ") (kinds t)) (after_word (codes "none") nothing_at) (after_word (codes "event ") (scanned_value t)) (λ _ _. refl) s
      (word_reader (codes "none") nothing nothing_at s (λ u _. nothing_reader u)) (word_reader (codes "event ") (kinds t) (scanned_value t) s (λ u _. r u))))
