-- Reading a pair.
use Rattle.std.proofs.Common.{◌≡◌, inl, inr, ⊎_elim, List, [], ◌∷◌, ◌++◌, Ok, Err, refl, ap, ◌∙◌, append_assoc, ℕ}
use Rattle.sf_value.specs.Values.{Kind, pair_kind, KeyData, Data, pair}
use Rattle.sf_spelling.specs.Scan.{Scanned, ◌>>=◌, byte_at, scanned_value}
use Rattle.sf_spelling.specs.Spelling.{spelling}
use Rattle.sf_spelling.specs.Reading.{HasShape, pair_shape, Cause, HasFault}
use Rattle.sf_spelling.proofs.Readers.{Language, IsReader, mapped, map_reader, same_reader}
use Rattle.sf_spelling.proofs.Sequences.{nothing, nothing_at, nothing_reader, after, after_reader}
use Rattle.sf_spelling.proofs.Parts.{then, then_at, then_reader}
use Rattle.sf_spelling.proofs.Words.{mapped_twice, mapped_bind}
use Rattle.sf_spelling.proofs.Languages.{kinds}

abbrev Parts : Type 0
Parts = Data × (Data × Unit {0})

abbrev to_pair : Parts → Data
to_pair p = pair p.0 p.1.0

abbrev ends : Language (Unit {0})
ends = after 41 nothing

abbrev seconds : Kind → Language (Data × Unit {0})
seconds u = after 44 (then (kinds u) (λ _. ends))

abbrev pairs : Kind → Kind → Language Parts
pairs t u = after 40 (then (kinds t) (λ _. seconds u))

pair_up : (t u : Kind) (b : Data) → HasShape b (pair_kind t u) → (a : Parts) × (b ≡ to_pair a) × (pairs t u).Fit a
pair_up t u v (pair_shape {x = a} {y = b} h k) = ((a, (b, tt)), refl, (h, (k, tt)))

pair_down : (t u : Kind) (a : Parts) (before : List ℕ) (c : Cause) (i : KeyData) → (pairs t u).Fault a before c i → HasFault (to_pair a) before c i
pair_down t u a before c i f = ⊎_elim
    (λ (h : HasFault a.0 f.0 c i). inl (f.0, f.1, h))
    (λ (h : (y : List ℕ) × (f.0 ≡ spelling a.0 ++ y) × (seconds u).Fault a.1 y c i).
    ⊎_elim (λ (k : HasFault a.1.0 h.2.0 c i). inr (h.2.0, f.1 ∙ ap (λ x. 40 ∷ x) (h.1 ∙ ap (λ y. spelling a.0 ++ y) h.2.1), k))
    (λ (k : (w : List ℕ) × (h.2.0 ≡ spelling a.1.0 ++ w) × ends.Fault a.1.1 w c i). absurd k.2.2) h.2.2)
    f.2

pair_back : (t u : Kind) (a : Parts) (before : List ℕ) (c : Cause) (i : KeyData) → HasFault (to_pair a) before c i → (pairs t u).Fault a before c i
pair_back t u a before c i f = ⊎_elim
    (λ (g : (x : List ℕ) × (before ≡ 40 ∷ x) × HasFault a.0 x c i). (g.0, g.1, inl g.2))
    (λ (g : (x : List ℕ) × (before ≡ (40 ∷ spelling a.0) ++ (44 ∷ x)) × HasFault a.1.0 x c i). (spelling a.0 ++ (44 ∷ g.0), g.1, inr (44 ∷ g.0, refl, (g.0, refl, inl g.2))))
    f

pair_text : (a b : Data) → spelling (pair a b) ≡ 40 ∷ (spelling a ++ (44 ∷ (spelling b ++ (41 ∷ []))))
pair_text a b = ap (λ x. 40 ∷ x) (append_assoc (spelling a) (44 ∷ spelling b) (41 ∷ []))

module _ (t u : Kind) where
  abbrev end_at : List ℕ → Scanned (Unit {0})
  end_at s = byte_at 41 s >>= nothing_at

  abbrev second_at : List ℕ → Scanned (Data × Unit {0})
  second_at s = byte_at 44 s >>= (λ e. then_at (λ _. end_at) (scanned_value u e))

  abbrev parts_at : List ℕ → Scanned Parts
  parts_at s = byte_at 40 s >>= (λ e. then_at (λ _. second_at) (scanned_value t e))

  same_end : (x y : Data) (s : List ℕ) → mapped (λ (e : Unit {0}). pair x y) (end_at s) ≡ (byte_at 41 s >>= (λ e. Ok (pair x y, e)))
  same_end x y s = mapped_bind (λ (e : Unit {0}). pair x y) (byte_at 41 s) nothing_at

  same_second : (x : Data) (o : Scanned Data) → mapped (λ (p : Data × Unit {0}). pair x p.0) (then_at (λ _. end_at) o) ≡ (o >>= (λ y. byte_at 41 y.1 >>= (λ e. Ok (pair x y.0, e))))
  same_second x (Ok y) = mapped_twice (λ (p : Data × Unit {0}). pair x p.0) (λ b. (y.0, b)) (end_at y.1) ∙ same_end x y.0 y.1
  same_second x (Err e) = refl

  same_comma : (x : Data) (s : List ℕ) → mapped (λ (p : Data × Unit {0}). pair x p.0) (second_at s) ≡ (byte_at 44 s >>= (λ a. scanned_value u a >>= (λ y. byte_at 41 y.1 >>= (λ e. Ok (pair x y.0, e)))))
  same_comma x s = mapped_bind (λ (p : Data × Unit {0}). pair x p.0) (byte_at 44 s) (λ e. then_at (λ _. end_at) (scanned_value u e))
      ∙ ap (λ g. byte_at 44 s >>= g) (λ i a. same_second x (scanned_value u a) i)

  same_first : (o : Scanned Data) → mapped to_pair (then_at (λ _. second_at) o) ≡ (o >>= (λ x. byte_at 44 x.1 >>= (λ a. scanned_value u a >>= (λ y. byte_at 41 y.1 >>= (λ e. Ok (pair x.0 y.0, e))))))
  same_first (Ok x) = mapped_twice to_pair (λ b. (x.0, b)) (second_at x.1) ∙ same_comma x.0 x.1
  same_first (Err e) = refl

  pair_same : (s : List ℕ) → mapped to_pair (parts_at s) ≡ scanned_value (pair_kind t u) s
  unfolding scanned_value
  pair_same s = mapped_bind to_pair (byte_at 40 s) (λ e. then_at (λ _. second_at) (scanned_value t e))
      ∙ ap (λ g. byte_at 40 s >>= g) (λ i e. same_first (scanned_value t e) i)

  pub pair_reader : IsReader (kinds t) (scanned_value t) → IsReader (kinds u) (scanned_value u) → IsReader (kinds (pair_kind t u)) (scanned_value (pair_kind t u))
  pair_reader h k s =
      let last : IsReader ends end_at = λ s. after_reader 41 nothing nothing_at s (λ t _. nothing_reader t) in
      let second : IsReader (seconds u) second_at = λ s. after_reader 44 (then (kinds u) (λ _. ends)) (λ e. then_at (λ _. end_at) (scanned_value u e)) s
      (λ e _. then_reader (kinds u) (λ _. ends) (λ _. end_at) (λ _ _ _. refl) e (scanned_value u e) (k e) (λ _ a _. last a)) in
      same_reader (kinds (pair_kind t u)) s _ _ (pair_same s)
      (map_reader (pairs t u) (kinds (pair_kind t u)) to_pair (λ a h. pair_shape h.0 h.1.0) (λ a _. pair_text a.0 a.1.0) (pair_down t u) (pair_back t u) (pair_up t u) s (parts_at s)
      (after_reader 40 (then (kinds t) (λ _. seconds u)) (λ e. then_at (λ _. second_at) (scanned_value t e)) s
      (λ e _. then_reader (kinds t) (λ _. seconds u) (λ _. second_at) (λ _ _ _. refl) e (scanned_value t e) (h e) (λ _ a _. second a))))
