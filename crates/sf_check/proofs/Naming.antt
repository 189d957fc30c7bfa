-- Names that differ, one after the other.
use Rattle.std.proofs.Common.{◌≡◌, ℕ, suc, ◌+◌, ◌<◌, ◌≤◌, length, List, [], ◌∷◌, ◌++◌, Bool, true, false, cond, ◌||◌, Some, slice_get, take, ap, ◌∙◌, sym, refl, arith, map, true≢false, inl, inr, not, String, string_bytes}
use Rattle.std.specs.List.{list_any}
use Rattle.std.specs.Option.{option_map}
use Rattle.std.specs.Str.{bytes_eq}
use Rattle.std.specs.String.{string_eq}
use Rattle.indexmap.specs.IndexSet.{IndexSet, contains, insert_key}
use Rattle.std.proofs.lemmas.Slice.Eq.{bytes_eq-Decides}
use Rattle.std.proofs.lemmas.Option.{slice_get-map, slice_get_within, slice_get_read, get_or_from_slice_get, same_Some}
use Rattle.std.proofs.lemmas.List.{get_or-take, length-take, length-map, take_more, take_all, map-append}
use Rattle.std.proofs.lemmas.List.Folds.{list_any_at}
use Rattle.sf_value.specs.Values.{Name}
use Rattle.sf_refusal.specs.declared.spot.Spot.{Spot}
use Rattle.sf_term.specs.declared.program.Program.{Program}
use Rattle.sf_term.specs.Trees.{Template}
use Rattle.sf_term.specs.Parameters.{NameKind, PlacedParameter, binding_of, parameters_of}
use Rattle.sf_term.specs.Arena.{headers_of, term_template, templates_of}
use Rattle.sf_check.proofs.Templates.{lt_or_eq}
use Rattle.sf_check.specs.Names.{names_of_set, program_names, parameter_names, parameter_spots, Repeats, AreDifferent, IsFirstRepeat}

-- an item of a list is one of its front
in_front : {X : Type 0} (xs : List X) (n i : ℕ) (x : X) → i < n → slice_get xs i ≡ Some x → slice_get (take n xs) i ≡ Some x
in_front xs n i x h e =
    let within = slice_get_within xs i x e in
    let short = length-take n xs in
    slice_get_read (take n xs) (length (take n xs)) i x refl (omega arith) (sym (get_or-take n xs i x h ∙ get_or_from_slice_get xs i x x e))

of_front : {X : Type 0} (xs : List X) (n i : ℕ) (x : X) → slice_get (take n xs) i ≡ Some x → (i < n) × (slice_get xs i ≡ Some x)
of_front xs n i x e =
    let within = slice_get_within (take n xs) i x e in
    let short = length-take n xs in
    let before : i < n = omega arith in
    (before, slice_get_read xs (length xs) i x refl (omega arith) (sym (get_or_from_slice_get (take n xs) i x x e) ∙ get_or-take n xs i x before))

front_more : {X : Type 0} (xs : List X) (n : ℕ) (x : X) → slice_get xs n ≡ Some x → take (n + 1) xs ≡ take n xs ++ x ∷ []
front_more xs n x e = take_more xs n x (slice_get_within xs n x e) ∙ ap (λ y. take n xs ++ y ∷ []) (get_or_from_slice_get xs n x x e)

-- a name that is among names stands somewhere
place_of : (x : Name) (ns : List Name) → list_any (bytes_eq x) ns ≡ true → (i : ℕ) × (slice_get ns i ≡ Some x)
place_of x [] h = absurd (true≢false (sym h))
place_of x (n ∷ ns) h = by (bytes_eq x n) refl (place_of x ns)
  where
    by : (b : Bool) → bytes_eq x n ≡ b → (list_any (bytes_eq x) ns ≡ true → (i : ℕ) × (slice_get ns i ≡ Some x)) → (i : ℕ) × (slice_get (n ∷ ns) i ≡ Some x)
    by true e rest = (0, ap Some (sym ((bytes_eq-Decides x n).0 e)))
    by false e rest =
        let later = rest (ap (λ b. b || list_any (bytes_eq x) ns) (sym e) ∙ h) in
        (suc later.0, later.1)

-- a name is equal to itself
bytes_eq-refl : (x : Name) → bytes_eq x x ≡ true
bytes_eq-refl x = (bytes_eq-Decides x x).1 refl

among : (x : Name) (ns : List Name) (i : ℕ) → slice_get ns i ≡ Some x → list_any (bytes_eq x) ns ≡ true
among x ns i e =
    let same : bytes_eq x x ≡ true = bytes_eq-refl x in
    list_any_at (bytes_eq x) ns i x (slice_get_within ns i x e) (ap (bytes_eq x) (get_or_from_slice_get ns i x x e) ∙ same)

pub not_below : (n m : ℕ) → (m < n → ⊥) → n ≤ m
not_below n m none = grind arith

-- The first of names, which differ.
pub record Named (all ns : List Name) (n : ℕ) : Type 0 where
  pub front : ns ≡ take n all
  pub different : (place : ℕ) → place < n → Repeats all place → ⊥

pub none_named_yet : (all ns : List Name) → ns ≡ [] → Named all ns 0
none_named_yet all ns e = record { front = e; different = λ place h. absurd (omega arith) }

module _ (all ns : List Name) (n : ℕ) (x : Name) (named : Named all ns n) (at : slice_get all n ≡ Some x) where
  pub one_more : list_any (bytes_eq x) ns ≡ false → Named all (ns ++ x ∷ []) (n + 1)
  one_more new = record {
    front = ap (λ ms. ms ++ x ∷ []) named.front ∙ sym (front_more all n x at);
    different = λ place h again.
        elim (lt_or_eq place n h) [
          | inl before ↦ named.different place before again
          | inr here ↦ true≢false (sym (found place here again) ∙ new)
        ];
  }
    where
      found : (place : ℕ) → place ≡ n → Repeats all place → list_any (bytes_eq x) ns ≡ true
      found place here again =
          let same : again.name ≡ x = same_Some _ _ (sym again.here ∙ ap (slice_get all) here ∙ at) in
          let there : slice_get all again.earlier ≡ Some x = again.there ∙ ap Some same in
          let before = again.before in
          among x ns again.earlier (ap (λ l. slice_get l again.earlier) named.front ∙ in_front all n again.earlier x (omega arith) there)

  pub new_name : list_any (bytes_eq x) ns ≡ false → ¬ Repeats all n
  new_name new again = (one_more new).different n (omega arith) again

  pub repeats_name : list_any (bytes_eq x) ns ≡ true → Repeats all n
  repeats_name old =
      let found = place_of x ns old in
      let earlier = of_front all n found.0 x (ap (λ l. slice_get l found.0) (sym named.front) ∙ found.1) in
      record { earlier = found.0; before = earlier.0; name = x; there = earlier.1; here = at }

  pub repeated : (spots : List Spot) (spot : Spot) → list_any (bytes_eq x) ns ≡ true → slice_get spots n ≡ Some spot → IsFirstRepeat all spots spot
  repeated spots spot old stands = record {
    place = n;
    repeats = repeats_name old;
    first = λ other again. not_below n other (λ below. named.different other below again);
    stands = stands;
  }

-- all names differ, once all were looked at
pub all_named : (all ns : List Name) (n : ℕ) → Named all ns n → length all ≤ n → (ns ≡ all) × AreDifferent all
all_named all ns n named most = (
  named.front ∙ take_all n all (omega arith),
  λ place again.
      let within = slice_get_within all place again.name again.here in
      named.different place (omega arith) again,
)

-- ## Parameters

module _ (qs : List PlacedParameter) (i : ℕ) (q : PlacedParameter) (at : slice_get qs i ≡ Some q) where
  pub parameter_name_at : slice_get (parameter_names (parameters_of qs)) i ≡ Some q.name
  parameter_name_at = slice_get-map (λ (b : Name × NameKind). b.0) (parameters_of qs) i ∙ ap (option_map (λ (b : Name × NameKind). b.0)) (slice_get-map binding_of qs i ∙ ap (option_map binding_of) at)

  pub parameter_spot_at : slice_get (parameter_spots qs) i ≡ Some q.spot
  parameter_spot_at = slice_get-map (λ (q : PlacedParameter). q.spot) qs i ∙ ap (option_map (λ (q : PlacedParameter). q.spot)) at

pub parameters_counted : (qs : List PlacedParameter) → length (parameter_names (parameters_of qs)) ≡ length qs
parameters_counted qs = length-map (parameters_of qs) (λ (b : Name × NameKind). b.0) ∙ length-map qs binding_of

pub templates_counted : (p : Program) → length (program_names p) ≡ length (headers_of p)
templates_counted p = length-map (templates_of p) (λ (t : Template). t.name) ∙ length-map (headers_of p) (term_template p)

-- ## The names in a set

string_any : {Y : Type 0} (k : String Y) (ks : List (String Y)) → list_any (string_eq k) ks ≡ list_any (bytes_eq (string_bytes k)) (map string_bytes ks)
string_any k [] = refl
string_any k (x ∷ xs) = ap (λ b. bytes_eq (string_bytes k) (string_bytes x) || b) (string_any k xs)

module _ {Y S : Type 0} (set : IndexSet (String Y) S) (k : String Y) (added : Bool) (is : added ≡ not (contains string_eq set k)) where
  pub present : added ≡ false → list_any (bytes_eq (string_bytes k)) (names_of_set set) ≡ true
  present e = sym (string_any k set.keys) ∙ not_false _ (sym is ∙ e)
    where
      not_false : (b : Bool) → not b ≡ false → b ≡ true
      not_false true h = refl
      not_false false h = sym h

  pub absent : added ≡ true → list_any (bytes_eq (string_bytes k)) (names_of_set set) ≡ false
  absent e = sym (string_any k set.keys) ∙ not_true _ (sym is ∙ e)
    where
      not_true : (b : Bool) → not b ≡ true → b ≡ false
      not_true true h = sym h
      not_true false h = refl

  pub named_after : {T : Type 0} (after : IndexSet (String Y) T) → added ≡ true → after.keys ≡ insert_key string_eq set.keys k → names_of_set after ≡ names_of_set set ++ string_bytes k ∷ []
  named_after after e made = ap (map string_bytes) (made ∙ ap (λ b. cond b set.keys (set.keys ++ k ∷ [])) (string_any k set.keys ∙ absent e)) ∙ map-append string_bytes set.keys (k ∷ [])
