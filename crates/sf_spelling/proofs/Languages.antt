-- The values of a type's shape and their spellings.
use Rattle.std.proofs.Common.{◌≡◌, ◌⊎◌, ⊎_elim, ℕ, pos, true, List, [], ◌∷◌, ◌++◌, refl, sym, ap, ◌∙◌, append_assoc}
use Rattle.std.specs.Prelude.{codes}
use Rattle.std.proofs.lemmas.Str.{IsUtf8-nil}
use Rattle.sf_value.specs.Values.{Kind, unit_kind, bool_kind, int_kind, text_kind, pair_kind, event_kind, table_kind, KeyData, Data, unit, truth, number, text, pair, no_event, event, table, Rows, no_rows, row}
use Rattle.sf_spelling.specs.Spelling.{spelling, more_spelling, rows_spelling, key_spelling}
use Rattle.sf_spelling.specs.Reading.{HasShape, unit_shape, bool_shape, int_shape, text_shape, pair_shape, no_event_shape, table_shape, no_rows_shape, Cause, HasFault, HasRowFault, IsWrongAfter}
use Rattle.sf_spelling.proofs.Readers.{Language}
use Rattle.sf_spelling.proofs.Integers.{integers}

abbrev example : Kind → Data
example unit_kind = unit
example bool_kind = truth true
example int_kind = number (pos 0)
example text_kind = text []
example (pair_kind t u) = pair (example t) (example u)
example (event_kind t) = no_event
example (table_kind k t) = table no_rows

pub example_fits : (t : Kind) → HasShape (example t) t
example_fits unit_kind = unit_shape
example_fits bool_kind = bool_shape
example_fits int_kind = int_shape
example_fits text_kind = text_shape IsUtf8-nil
example_fits (pair_kind t u) = pair_shape (example_fits t) (example_fits u)
example_fits (event_kind t) = no_event_shape
example_fits (table_kind k t) = table_shape no_rows_shape

regroup_first : (x y z b e : List ℕ) → ((x ++ (y ++ z)) ++ b) ++ e ≡ x ++ (y ++ (z ++ (b ++ e)))
regroup_first x y z b e = simp append_assoc

regroup_second : (a x y z e : List ℕ) → (a ++ (44 ∷ (x ++ (y ++ z)))) ++ e ≡ (a ++ (44 ∷ x)) ++ (y ++ (z ++ e))
regroup_second a x y z e = simp append_assoc

-- the text of a row
abbrev pub row_text : KeyData → Data → List ℕ
row_text l x = key_spelling l ++ (58 ∷ spelling x)

row_first : (l : KeyData) (x : Data) (more before : List ℕ) (k : KeyData) → before ≡ [] → k ≡ l → (after : List ℕ) × (row_text l x ++ more ≡ before ++ (key_spelling k ++ after))
row_first l x more before k b e = ((58 ∷ spelling x) ++ more, rw (b, e) (append_assoc (key_spelling l) (58 ∷ spelling x) more))

regroup_row : (l i k a m : List ℕ) → (l ++ (58 ∷ (i ++ (k ++ a)))) ++ m ≡ (l ++ (58 ∷ i)) ++ (k ++ (a ++ m))
regroup_row l i k a m = simp append_assoc

regroup_more : (r i k a : List ℕ) → r ++ (44 ∷ (i ++ (k ++ a))) ≡ (r ++ (44 ∷ i)) ++ (k ++ a)
regroup_more r i k a = simp append_assoc

-- behind another row, rows stand after a comma
pub more_is : (seen : List KeyData) (rs : Rows) (before : List ℕ) (c : Cause) (k : KeyData) → HasRowFault seen rs before c k → more_spelling rs ≡ 44 ∷ rows_spelling rs
more_is seen no_rows before c k f = absurd f
more_is seen (row l x rs) before c k f = refl

row_shown : (l : KeyData) (x : Data) (seen : List KeyData) (rs : Rows) (before : List ℕ) (c : Cause) (k : KeyData) → HasRowFault seen (row l x rs) before c k
    → ((i : List ℕ) → HasFault x i c k → (after : List ℕ) × (spelling x ≡ i ++ (key_spelling k ++ after)))
    → ((i : List ℕ) → HasRowFault (l ∷ seen) rs i c k → (after : List ℕ) × (rows_spelling rs ≡ i ++ (key_spelling k ++ after)))
    → (after : List ℕ) × (rows_spelling (row l x rs) ≡ before ++ (key_spelling k ++ after))
row_shown l x seen rs before c k f value rows = ⊎_elim
    (λ (g : (before ≡ []) × (k ≡ l) × IsWrongAfter seen l c). row_first l x (more_spelling rs) before k g.0 g.1)
    (λ (h : ((inner : List ℕ) × (before ≡ key_spelling l ++ (58 ∷ inner)) × HasFault x inner c k) ⊎ ((inner : List ℕ) × (before ≡ (key_spelling l ++ (58 ∷ spelling x)) ++ (44 ∷ inner)) × HasRowFault (l ∷ seen) rs inner c k)).
    ⊎_elim
    (λ (g : (inner : List ℕ) × (before ≡ key_spelling l ++ (58 ∷ inner)) × HasFault x inner c k).
    let s = value g.0 g.2 in
    (s.0 ++ more_spelling rs, rw (s.1, g.1) (regroup_row (key_spelling l) g.0 (key_spelling k) s.0 (more_spelling rs))))
    (λ (g : (inner : List ℕ) × (before ≡ (key_spelling l ++ (58 ∷ spelling x)) ++ (44 ∷ inner)) × HasRowFault (l ∷ seen) rs inner c k).
    let s = rows g.0 g.2 in
    (s.0, ap (λ u. row_text l x ++ u) (more_is (l ∷ seen) rs g.0 c k g.2 ∙ ap (λ u. 44 ∷ u) s.1) ∙ regroup_more (row_text l x) g.0 (key_spelling k) s.0 ∙ ap (λ u. u ++ (key_spelling k ++ s.0)) (sym g.1)))
    h)
    f

mutual
  pub fault_shown : (v : Data) (before : List ℕ) (c : Cause) (k : KeyData) → HasFault v before c k → (after : List ℕ) × (spelling v ≡ before ++ (key_spelling k ++ after))
  fault_shown (number n) before c k f = integers.shown n before c k f
  fault_shown (pair x y) before c k f = ⊎_elim
      (λ (g : (inner : List ℕ) × (before ≡ 40 ∷ inner) × HasFault x inner c k).
      let s = fault_shown x g.0 c k g.2 in
      (s.0 ++ ((44 ∷ spelling y) ++ 41 ∷ []), rw (s.1, g.1) (ap (λ u. 40 ∷ u) (regroup_first g.0 (key_spelling k) s.0 (44 ∷ spelling y) (41 ∷ [])))))
      (λ (g : (inner : List ℕ) × (before ≡ (40 ∷ spelling x) ++ (44 ∷ inner)) × HasFault y inner c k).
      let s = fault_shown y g.0 c k g.2 in
      (s.0 ++ 41 ∷ [], rw (s.1, g.1) (ap (λ u. 40 ∷ u) (regroup_second (spelling x) g.0 (key_spelling k) s.0 (41 ∷ [])))))
      f
  fault_shown (event x) before c k f =
      let s = fault_shown x f.0 c k f.2 in
      (s.0, ap (λ u. codes "event " ++ u) s.1 ∙ ap (λ u. u ++ (key_spelling k ++ s.0)) (sym f.1))
  fault_shown (table rs) before c k f =
      let s = rows_shown [] rs f.0 c k f.2 in
      (s.0 ++ 125 ∷ [], ap (λ u. (123 ∷ u) ++ 125 ∷ []) s.1 ∙ ap (λ u. 123 ∷ u) (append_assoc f.0 (key_spelling k ++ s.0) (125 ∷ []) ∙ ap (λ u. f.0 ++ u) (append_assoc (key_spelling k) s.0 (125 ∷ []))) ∙ ap (λ u. u ++ (key_spelling k ++ (s.0 ++ 125 ∷ []))) (sym f.1))
  fault_shown unit before c k f = absurd f
  fault_shown (truth b) before c k f = absurd f
  fault_shown (text s) before c k f = absurd f
  fault_shown no_event before c k f = absurd f

  pub rows_shown : (seen : List KeyData) (rs : Rows) (before : List ℕ) (c : Cause) (k : KeyData) → HasRowFault seen rs before c k → (after : List ℕ) × (rows_spelling rs ≡ before ++ (key_spelling k ++ after))
  rows_shown seen no_rows before c k f = absurd f
  rows_shown seen (row l x rs) before c k f = row_shown l x seen rs before c k f (λ i g. fault_shown x i c k g) (λ i g. rows_shown (l ∷ seen) rs i c k g)

-- the values of a type's shape
abbrev pub kinds : Kind → Language Data
kinds t = record { Fit = λ d. HasShape d t; text = spelling; Fault = HasFault; some = example t; some_fit = example_fits t; shown = fault_shown }
