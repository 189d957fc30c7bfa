-- How a value is stored as a list of marks, each before what it is made of, by which a proof tells two values apart.
use Rattle.std.specs.Prelude.{◌≡◌, ℕ, ℤ, Bool, List, [], ◌∷◌, refl}
use Rattle.std.proofs.Common.{ap, ◌∙◌}
use Rattle.sf_value.specs.Values.{KeyData, number_key, text_key, Data, unit, truth, number, text, pair, no_event, event, table, Rows, no_rows, row}

pub data Mark : Type 0 where
  is_unit : Mark
  is_truth : Bool → Mark
  is_number : ℤ → Mark
  is_text : List ℕ → Mark
  is_pair : Mark
  is_no_event : Mark
  is_event : Mark
  is_end : Mark
  is_number_row : ℤ → Mark
  is_text_row : List ℕ → Mark

abbrev pub row_mark : KeyData → Mark
row_mark (number_key z) = is_number_row z
row_mark (text_key s) = is_text_row s

abbrev mutual
  pub marks : Data → List Mark → List Mark
  marks unit more = is_unit ∷ more
  marks (truth b) more = is_truth b ∷ more
  marks (number z) more = is_number z ∷ more
  marks (text s) more = is_text s ∷ more
  marks (pair x y) more = is_pair ∷ marks x (marks y more)
  marks no_event more = is_no_event ∷ more
  marks (event x) more = is_event ∷ marks x more
  marks (table rs) more = rows_marks rs more

  pub rows_marks : Rows → List Mark → List Mark
  rows_marks no_rows more = is_end ∷ more
  rows_marks (row k x rs) more = row_mark k ∷ marks x (rows_marks rs more)

-- the values of the marks after this one, and this one's
abbrev pub put : Mark → List Data → List Data
put is_unit ds = unit ∷ ds
put (is_truth b) ds = truth b ∷ ds
put (is_number z) ds = number z ∷ ds
put (is_text s) ds = text s ∷ ds
put is_pair (x ∷ y ∷ ds) = pair x y ∷ ds
put is_no_event ds = no_event ∷ ds
put is_event (x ∷ ds) = event x ∷ ds
put is_end ds = table no_rows ∷ ds
put (is_number_row z) (x ∷ table rs ∷ ds) = table (row (number_key z) x rs) ∷ ds
put (is_text_row s) (x ∷ table rs ∷ ds) = table (row (text_key s) x rs) ∷ ds
put m ds = ds

abbrev pub values : List Mark → List Data
values [] = []
values (m ∷ ms) = put m (values ms)

abbrev foremost : List Data → Data
foremost [] = unit
foremost (d ∷ ds) = d

abbrev pub marks_of : Data → List Mark
marks_of d = marks d []

abbrev pub decoded_data : List Mark → Data
decoded_data ms = foremost (values ms)

put-row_mark : (k : KeyData) (x : Data) (rs : Rows) (ds : List Data) → put (row_mark k) (x ∷ table rs ∷ ds) ≡ table (row k x rs) ∷ ds
put-row_mark (number_key z) x rs ds = refl
put-row_mark (text_key s) x rs ds = refl

mutual
  values-marks : (d : Data) (more : List Mark) → values (marks d more) ≡ d ∷ values more
  values-marks unit more = refl
  values-marks (truth b) more = refl
  values-marks (number z) more = refl
  values-marks (text s) more = refl
  values-marks (pair x y) more = ap (put is_pair) (values-marks x (marks y more) ∙ ap (λ ds. x ∷ ds) (values-marks y more))
  values-marks no_event more = refl
  values-marks (event x) more = ap (put is_event) (values-marks x more)
  values-marks (table rs) more = values-rows_marks rs more

  values-rows_marks : (rs : Rows) (more : List Mark) → values (rows_marks rs more) ≡ table rs ∷ values more
  values-rows_marks no_rows more = refl
  values-rows_marks (row k x rs) more = ap (put (row_mark k)) (values-marks x (rows_marks rs more) ∙ ap (λ ds. x ∷ ds) (values-rows_marks rs more)) ∙ put-row_mark k x rs (values more)

pub decoded_data-marks_of : (d : Data) → decoded_data (marks_of d) ≡ d
decoded_data-marks_of d = ap foremost (values-marks d [])
