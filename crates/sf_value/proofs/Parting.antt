-- Rows that are taken apart, the keys from the values.
use Rattle.std.proofs.Common.{◌≡◌, ℕ, Bool, true, false, List, [], ◌∷◌, ◌++◌, length, map, refl, sym, ap, ◌∙◌, subst, append_assoc}
use Rattle.std.proofs.lemmas.List.{append-nil, map-append, length-map}
use Rattle.std.specs.Prelude.{not}
use Rattle.std.specs.List.{list_any}
use Rattle.sf_value.specs.Values.{KeyData, Data, row, IsOneOf}
use Rattle.sf_value.specs.Keys.{key_of, equal_keys, AreDifferentKeys}
use Rattle.sf_value.specs.View.{rows_of, keyed_rows}
use Rattle.sf_value.specs.Tables.{IsFirstRepeatedKey}
use Rattle.sf_value.specs.declared.value.Key.{Key}
use Rattle.sf_value.proofs.Under.{rows_new}
use Rattle.sf_value.proofs.Indexes.{any_one}

abbrev Entry : Type 0
Entry = Key × Data

abbrev keys_of : List Entry → List KeyData
keys_of es = map (λ (e : Entry). key_of e.0) es

abbrev values_of : List Entry → List Data
values_of es = map (λ (e : Entry). e.1) es

rows_parted : (es : List Entry) → keyed_rows (keys_of es) (values_of es) ≡ rows_of es
rows_parted [] = refl
rows_parted (e ∷ es) = ap (row (key_of e.0) e.1) (rows_parted es)

is_there : (b : Bool) → false ≡ not b → b ≡ true
is_there true e = refl
is_there false e = absurd cc

-- a list is taken apart, the keys from the values, up to what is left of it
pub record Parted (es left : List Entry) (ks : List KeyData) (ds : List Data) : Type 0 where
  pub taken : List Entry
  pub cut : es ≡ taken ++ left
  pub keys : ks ≡ keys_of taken
  pub values : ds ≡ values_of taken

pub none_parted : {es left : List Entry} {ks : List KeyData} {ds : List Data} → left ≡ es → ks ≡ [] → ds ≡ [] → Parted es left ks ds
none_parted is none empty = record { taken = []; cut = sym is; keys = none; values = empty }

pub one_parted : {es left more : List Entry} {ks all : List KeyData} {ds new : List Data} (k : Key) (d : Data) → Parted es left ks ds → left ≡ (k, d) ∷ more → all ≡ ks ++ key_of k ∷ [] → new ≡ ds ++ d ∷ [] → Parted es more all new
one_parted {more = more} k d p is keys values = record {
  taken = p.taken ++ (k, d) ∷ [];
  cut = p.cut ∙ ap (λ xs. p.taken ++ xs) is ∙ sym (append_assoc p.taken ((k, d) ∷ []) more);
  keys = keys ∙ ap (λ ks. ks ++ key_of k ∷ []) p.keys ∙ sym (map-append (λ (e : Entry). key_of e.0) p.taken ((k, d) ∷ []));
  values = values ∙ ap (λ ds. ds ++ d ∷ []) p.values ∙ sym (map-append (λ (e : Entry). e.1) p.taken ((k, d) ∷ []));
}

pub as_many : {es left : List Entry} {ks : List KeyData} {ds : List Data} → Parted es left ks ds → length ks ≡ length ds
as_many p = ap length p.keys ∙ length-map p.taken (λ (e : Entry). key_of e.0) ∙ sym (length-map p.taken (λ (e : Entry). e.1)) ∙ ap length (sym p.values)

pub all_parted : {es left : List Entry} {ks : List KeyData} {ds : List Data} → Parted es left ks ds → length left ≡ 0 → keyed_rows ks ds ≡ rows_of es
all_parted {es = es} {left = left} {ks = ks} {ds = ds} p none =
    ap (λ ks. keyed_rows ks ds) p.keys ∙ ap (keyed_rows (keys_of p.taken)) p.values ∙ rows_parted p.taken ∙ ap rows_of (sym (p.cut ∙ ap (λ xs. p.taken ++ xs) (empty left none) ∙ append-nil p.taken))
  where
    empty : (xs : List Entry) → length xs ≡ 0 → xs ≡ []
    empty [] h = refl
    empty (x ∷ xs) h = absurd cc

-- a key that stands before
pub repeat_here : {es left more : List Entry} {ks : List KeyData} {ds : List Data} (k : Key) (d : Data) (i : ℕ) → Parted es left ks ds → left ≡ (k, d) ∷ more → i ≡ length ks → AreDifferentKeys ks
    → false ≡ not (list_any (equal_keys (key_of k)) ks) → IsFirstRepeatedKey es i
repeat_here {more = more} {ks = ks} k d i p is len different there = record {
  front = p.taken;
  key = k;
  value = d;
  more = more;
  cut = p.cut ∙ ap (λ xs. p.taken ++ xs) is;
  len = sym (len ∙ ap length p.keys ∙ length-map p.taken (λ (e : Entry). key_of e.0));
  again = subst (IsOneOf (key_of k)) p.keys (any_one (key_of k) ks (is_there _ there));
  before = rows_new [] p.taken (subst AreDifferentKeys p.keys different);
}
