-- A key of a table and the value under it.
use Rattle.std.proofs.Common.{◌≡◌, ℕ, suc, Bool, true, false, List, [], ◌∷◌, length, map, get_or, Option, None, Some, refl, ap, subst, cond}
use Rattle.std.specs.Bool.{Decides}
use Rattle.std.specs.Option.{option_map}
use Rattle.std.proofs.lemmas.Bool.Decides.{Decides-int_eq}
use Rattle.std.proofs.lemmas.Slice.Eq.{bytes_eq-Decides}
use Rattle.sf_value.specs.Values.{KeyData, number_key, text_key, Data, HasNewKeys}
use Rattle.sf_value.specs.Keys.{key_of, equal_keys, key_index, AreNew}
use Rattle.sf_value.specs.View.{rows_of, keyed_rows}
use Rattle.sf_value.specs.Lookups.{row_value}
use Rattle.sf_value.specs.declared.value.Key.{Key}

pub equal_keys-Decides : (k l : KeyData) → Decides (equal_keys k l) (k ≡ l)
equal_keys-Decides (number_key a) (number_key b) = let d = Decides-int_eq a b in (λ e. ap number_key (d.0 e), λ e. d.1 (let g : number_key a ≡ number_key b = e in cc))
equal_keys-Decides (text_key s) (text_key t) = let d = bytes_eq-Decides s t in (λ e. ap text_key (d.0 e), λ e. d.1 (let g : text_key s ≡ text_key t = e in cc))
equal_keys-Decides (number_key a) (text_key t) = (λ e. absurd cc, λ e. absurd (let g : number_key a ≡ text_key t = e in cc))
equal_keys-Decides (text_key s) (number_key b) = (λ e. absurd cc, λ e. absurd (let g : text_key s ≡ number_key b = e in cc))

-- a key without a place has no value under it
pub none_under : (k : KeyData) (ks : List KeyData) (ds : List Data) → key_index k ks ≡ None → row_value k (keyed_rows ks ds) ≡ None
none_under k [] ds h = refl
none_under k (l ∷ ks) [] h = refl
none_under k (l ∷ ks) (d ∷ ds) h = each (equal_keys k l) (key_index k ks) refl h (none_under k ks ds)
  where
    each : (b : Bool) (o : Option ℕ) → key_index k ks ≡ o → cond b (Some 0) (option_map suc o) ≡ None → (key_index k ks ≡ None → row_value k (keyed_rows ks ds) ≡ None)
        → cond b (Some d) (row_value k (keyed_rows ks ds)) ≡ None
    each true o is h later = absurd cc
    each false None is h later = later is
    each false (Some i) is h later = absurd cc

-- the value under a key stands at its place
pub value_at_place : (k : KeyData) (ks : List KeyData) (ds : List Data) (i : ℕ) (d : Data) → key_index k ks ≡ Some i → length ks ≡ length ds → row_value k (keyed_rows ks ds) ≡ Some (get_or ds i d)
value_at_place k [] ds i d h len = absurd cc
value_at_place k (l ∷ ks) [] i d h len = absurd cc
value_at_place k (l ∷ ks) (x ∷ ds) i d h len = each (equal_keys k l) (key_index k ks) refl h (value_at_place k ks ds)
  where
    each : (b : Bool) (o : Option ℕ) → key_index k ks ≡ o → cond b (Some 0) (option_map suc o) ≡ Some i → ((j : ℕ) (d : Data) → key_index k ks ≡ Some j → length ks ≡ length ds → row_value k (keyed_rows ks ds) ≡ Some (get_or ds j d))
        → cond b (Some x) (row_value k (keyed_rows ks ds)) ≡ Some (get_or (x ∷ ds) i d)
    each true o is h later = let first : 0 ≡ i = cc in subst (λ j. Some x ≡ Some (get_or (x ∷ ds) j d)) first refl
    each false None is h later = absurd cc
    each false (Some j) is h later =
        let next : suc j ≡ i = cc in
        let rest : length ks ≡ length ds = cc in
        subst (λ m. row_value k (keyed_rows ks ds) ≡ Some (get_or (x ∷ ds) m d)) next (later j d is rest)

-- rows have different keys where a list of these has
pub rows_new : (seen : List KeyData) (es : List (Key × Data)) → AreNew seen (map (λ (e : Key × Data). key_of e.0) es) → HasNewKeys seen (rows_of es)
rows_new seen [] h = tt
rows_new seen (e ∷ es) h = (h.0, rows_new (key_of e.0 ∷ seen) es h.1)

pub under_new : (seen ks : List KeyData) (ds : List Data) → AreNew seen ks → HasNewKeys seen (keyed_rows ks ds)
under_new seen [] ds h = tt
under_new seen (k ∷ ks) [] h = tt
under_new seen (k ∷ ks) (d ∷ ds) h = (h.0, under_new (k ∷ seen) ks ds h.1)
