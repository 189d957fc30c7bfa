-- What the loop that makes a table holds.
use Rattle.std.proofs.Common.{◌≡◌, ℕ, List, [], ◌∷◌, ◌++◌, map, refl, sym, ap, ◌∙◌, subst, append_assoc}
use Rattle.std.proofs.lemmas.List.{map-append}
use Rattle.sf_value.specs.Values.{KeyData, Data, Rows, no_rows, row}
use Rattle.sf_value.specs.Keys.{AreNew, AreDifferentKeys}
use Rattle.sf_value.specs.Tables.{IsFirstRepeatedKey}
use Rattle.sf_value.specs.View.{key_of, rows_of, keyed_rows}
use Rattle.sf_value.specs.declared.value.Key.{Key}
use Rattle.sf_begin.proofs.Sought.{none_before}

-- rows of a list, and then others
abbrev pub rows_then : List (Key × Data) → Rows → Rows
rows_then [] rs = rs
rows_then (e ∷ es) rs = row (key_of e.0) e.1 (rows_then es rs)

-- a row more at the end is a row less of the others
pub then_one : (es : List (Key × Data)) (e : Key × Data) (rs : Rows) → rows_then (es ++ (e ∷ [])) rs ≡ rows_then es (row (key_of e.0) e.1 rs)
then_one [] e rs = refl
then_one (f ∷ es) e rs = ap (λ z. row (key_of f.0) f.1 z) (then_one es e rs)

-- where no row is left, the rows of the list are all
pub then_none : (es : List (Key × Data)) → rows_then es no_rows ≡ rows_of es
then_none [] = refl
then_none (f ∷ es) = ap (λ z. row (key_of f.0) f.1 z) (then_none es)

-- no value is left for a key
pub no_values : (ks : List Key) → keyed_rows (map key_of ks) [] ≡ no_rows
no_values [] = refl
no_values (k ∷ ks) = refl

-- ## The keys of rows are different

abbrev pub keys_of_rows : List (Key × Data) → List KeyData
keys_of_rows es = map (λ (e : Key × Data). key_of e.0) es

-- a row more is a key less of those that are left
pub key_over : (es fs : List (Key × Data)) (k l : Key) (y : Data) (ks ls : List Key) → fs ≡ es ++ (l, y) ∷ [] → key_of l ≡ key_of k → ls ≡ k ∷ ks → keys_of_rows fs ++ map key_of ks ≡ keys_of_rows es ++ map key_of ls
key_over es fs k l y ks ls more same left =
    ap (λ es. keys_of_rows es ++ map key_of ks) more ∙ ap (λ xs. xs ++ map key_of ks) (map-append (λ (e : Key × Data). key_of e.0) es ((l, y) ∷ []))
    ∙ append_assoc (keys_of_rows es) (key_of l ∷ []) (map key_of ks) ∙ ap (λ x. keys_of_rows es ++ x ∷ map key_of ks) same ∙ sym (ap (λ ls. keys_of_rows es ++ map key_of ls) left)

front_new : (seen xs ys : List KeyData) → AreNew seen (xs ++ ys) → AreNew seen xs
front_new seen [] ys h = tt
front_new seen (x ∷ xs) ys h = (h.0, front_new (x ∷ seen) xs ys h.1)

-- the keys of the first rows of a table stand once
pub no_repeated : (es : List (Key × Data)) (left all : List KeyData) (i : ℕ) → keys_of_rows es ++ left ≡ all → AreDifferentKeys all → IsFirstRepeatedKey es i → ⊥
no_repeated es left all i e different h =
    let own : AreDifferentKeys (keys_of_rows es) = front_new [] (keys_of_rows es) left (subst AreDifferentKeys (sym e) different) in
    let cut : keys_of_rows es ≡ keys_of_rows h.front ++ key_of h.key ∷ keys_of_rows h.more = ap keys_of_rows h.cut ∙ map-append (λ (e : Key × Data). key_of e.0) h.front ((h.key, h.value) ∷ h.more) in
    none_before (keys_of_rows h.front) (key_of h.key) (keys_of_rows h.more) (subst AreDifferentKeys cut own) h.again
