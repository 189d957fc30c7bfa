-- How a type is stored as a list of marks, each before what it is made of.
use Rattle.std.specs.Prelude.{◌≡◌, List, [], ◌∷◌, refl}
use Rattle.std.proofs.Common.{ap, ◌∙◌}
use Rattle.sf_value.specs.Values.{KeyKind, int_keys, text_keys, Kind, unit_kind, bool_kind, int_kind, text_kind, pair_kind, event_kind, table_kind}

pub data KindMark : Type 0 where
  is_unit : KindMark
  is_bool : KindMark
  is_int : KindMark
  is_text : KindMark
  is_pair : KindMark
  is_event : KindMark
  is_int_table : KindMark
  is_text_table : KindMark

abbrev pub table_mark : KeyKind → KindMark
table_mark int_keys = is_int_table
table_mark text_keys = is_text_table

abbrev pub marked_kind : Kind → List KindMark → List KindMark
marked_kind unit_kind more = is_unit ∷ more
marked_kind bool_kind more = is_bool ∷ more
marked_kind int_kind more = is_int ∷ more
marked_kind text_kind more = is_text ∷ more
marked_kind (pair_kind t u) more = is_pair ∷ marked_kind t (marked_kind u more)
marked_kind (event_kind t) more = is_event ∷ marked_kind t more
marked_kind (table_kind k t) more = table_mark k ∷ marked_kind t more

-- the types of the marks after this one, and this one's
abbrev pub put_kind : KindMark → List Kind → List Kind
put_kind is_unit ts = unit_kind ∷ ts
put_kind is_bool ts = bool_kind ∷ ts
put_kind is_int ts = int_kind ∷ ts
put_kind is_text ts = text_kind ∷ ts
put_kind is_pair (t ∷ u ∷ ts) = pair_kind t u ∷ ts
put_kind is_event (t ∷ ts) = event_kind t ∷ ts
put_kind is_int_table (t ∷ ts) = table_kind int_keys t ∷ ts
put_kind is_text_table (t ∷ ts) = table_kind text_keys t ∷ ts
put_kind m ts = ts

abbrev pub kinds : List KindMark → List Kind
kinds [] = []
kinds (m ∷ ms) = put_kind m (kinds ms)

abbrev first_kind : List Kind → Kind
first_kind [] = unit_kind
first_kind (t ∷ ts) = t

abbrev pub kind_marks_of : Kind → List KindMark
kind_marks_of t = marked_kind t []

abbrev pub decoded_kind : List KindMark → Kind
decoded_kind ms = first_kind (kinds ms)

put_kind-table_mark : (k : KeyKind) (t : Kind) (ts : List Kind) → put_kind (table_mark k) (t ∷ ts) ≡ table_kind k t ∷ ts
put_kind-table_mark int_keys t ts = refl
put_kind-table_mark text_keys t ts = refl

kinds-marked_kind : (t : Kind) (more : List KindMark) → kinds (marked_kind t more) ≡ t ∷ kinds more
kinds-marked_kind unit_kind more = refl
kinds-marked_kind bool_kind more = refl
kinds-marked_kind int_kind more = refl
kinds-marked_kind text_kind more = refl
kinds-marked_kind (pair_kind t u) more = ap (put_kind is_pair) (kinds-marked_kind t (marked_kind u more) ∙ ap (λ ts. t ∷ ts) (kinds-marked_kind u more))
kinds-marked_kind (event_kind t) more = ap (put_kind is_event) (kinds-marked_kind t more)
kinds-marked_kind (table_kind k t) more = ap (put_kind (table_mark k)) (kinds-marked_kind t more) ∙ put_kind-table_mark k t (kinds more)

pub decoded_kind-kind_marks_of : (t : Kind) → decoded_kind (kind_marks_of t) ≡ t
decoded_kind-kind_marks_of t = ap first_kind (kinds-marked_kind t [])
