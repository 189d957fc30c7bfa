-- Templates by their names.
use Rattle.std.proofs.Common.{◌≡◌, ℕ, zero, suc, ◌+◌, ◌<◌, length, List, [], ◌∷◌, Bool, true, false, cond, nat_lt, Option, Some, None, slice_get, get_or, position, map, not, ap, ◌∙◌, sym, refl, subst, arith, String, string_bytes, inl, inr}
use Rattle.std.specs.Option.{option_map}
use Rattle.std.specs.List.{position_or_len, position_from}
use Rattle.std.specs.Str.{bytes_eq}
use Rattle.indexmap.specs.IndexSet.{IndexSet, index_of_by}
use Rattle.std.proofs.lemmas.Iterator.Adapters.{position_from-zero}
use Rattle.std.proofs.lemmas.List.{length-map}
use Rattle.std.proofs.lemmas.List.Quantifiers.{position-Some}
use Rattle.std.proofs.lemmas.Option.{slice_get-map, slice_get_within, slice_get_read, get_or_from_slice_get, same_Some, none-some}
use Rattle.std.specs.Bool.{Decides}
use Rattle.std.proofs.lemmas.Bool.{cases_lt}
use Rattle.std.proofs.lemmas.Slice.Eq.{bytes_eq-Decides}
use Rattle.sf_value.specs.Values.{Name}
use Rattle.sf_term.specs.declared.program.Program.{Program}
use Rattle.sf_term.specs.Headers.{Header}
use Rattle.sf_term.specs.Trees.{Template, Templates, template_named}
use Rattle.sf_term.specs.Arena.{headers_of, term_template, templates_of, template_spots}
use Rattle.sf_reach.specs.Names.{names, names_of_set, program_names, HasDifferentNames}

-- ## By their places

module _ (p : Program) (i : ℕ) (h : Header) (at : slice_get (headers_of p) i ≡ Some h) where
  pub template_at : slice_get (templates_of p) i ≡ Some (term_template p h)
  template_at = slice_get-map (term_template p) (headers_of p) i ∙ ap (option_map (term_template p)) at

  pub spot_stands : slice_get (template_spots p) i ≡ Some h.spot
  spot_stands = slice_get-map (λ (h : Header). h.spot) (headers_of p) i ∙ ap (option_map (λ (h : Header). h.spot)) at

  pub name_at : slice_get (program_names p) i ≡ Some h.name
  name_at = slice_get-map (λ (t : Template). t.name) (templates_of p) i ∙ ap (option_map (λ (t : Template). t.name)) template_at

-- an item of a loop over the templates
pub header_at : (p : Program) (hs : List Header) (i : ℕ) (h : Header) → hs ≡ headers_of p → i < length hs → h ≡ get_or hs i h → slice_get (headers_of p) i ≡ Some h
header_at p hs i h e within is = ap (λ l. slice_get l i) (sym e) ∙ slice_get_read hs (length hs) i h refl within is

-- the template at a place of a program has a header
pub header_of : (p : Program) (i : ℕ) (t : Template) → slice_get (templates_of p) i ≡ Some t → (h : Header) × (slice_get (headers_of p) i ≡ Some h) × (term_template p h ≡ t)
header_of p i t at = by (slice_get (headers_of p) i) refl (sym (slice_get-map (term_template p) (headers_of p) i) ∙ at)
  where
    by : (o : Option Header) → slice_get (headers_of p) i ≡ o → option_map (term_template p) o ≡ Some t → (h : Header) × (slice_get (headers_of p) i ≡ Some h) × (term_template p h ≡ t)
    by None e k = absurd (none-some t k)
    by (Some h) e k = (h, e, same_Some _ _ k)

-- ## By their names

-- where a test passes on the images of a list's items
position_or_len-map : {X Y : Type 0} (f : X → Y) (p : Y → Bool) (xs : List X) → position_or_len p (map f xs) ≡ position_or_len (λ x. p (f x)) xs
position_or_len-map f p [] = refl
position_or_len-map f p (x ∷ xs) = ap (λ n. cond (not (p (f x))) (1 + n) 0) (position_or_len-map f p xs)

pub position-map : {X Y : Type 0} (f : X → Y) (p : Y → Bool) (xs : List X) → position p (map f xs) ≡ position (λ x. p (f x)) xs
position-map f p xs = (λ i. cond (nat_lt (position_or_len-map f p xs i) (length-map xs f i)) (Some (position_or_len-map f p xs i)) None)

-- the place of a name in a set
pub place_in : {Y S : Type 0} (set : IndexSet (String Y) S) (x : Name) (ns : List Name) → names_of_set set ≡ ns → index_of_by (λ k. bytes_eq x (string_bytes k)) set ≡ position (bytes_eq x) ns
place_in set x ns e = sym (position-map string_bytes (bytes_eq x) set.keys) ∙ ap (position (bytes_eq x)) e

-- What the place of a name says.
pub record IsNamedAt (x : Name) (ts : Templates) (i : ℕ) : Type 0 where
  pub template : Template
  pub at : slice_get ts i ≡ Some template
  pub named : template_named x ts ≡ Some template

module _ (x : Name) where
  abbrev Places : Templates → ℕ → Option ℕ → Type 0
  Places ts k None = template_named x ts ≡ None
  Places ts k (Some i) = (j : ℕ) × (i ≡ k + j) × IsNamedAt x ts j

  after : (t : Template) (ts : Templates) (k : ℕ) (o : Option ℕ) → bytes_eq x t.name ≡ false → Places ts (k + 1) o → Places (t ∷ ts) k o
  after t ts k None e h = ap (λ b. cond b (Some t) (template_named x ts)) e ∙ h
  after t ts k (Some i) e h = (suc h.0, omega (arith, h.1), record { template = h.2.template; at = h.2.at; named = ap (λ b. cond b (Some t) (template_named x ts)) e ∙ h.2.named })

  places : (ts : Templates) (k : ℕ) → Places ts k (position_from (bytes_eq x) k (names ts))
  places [] k = refl
  places (t ∷ ts) k = by (bytes_eq x t.name) refl (places ts (k + 1))
    where
      by : (b : Bool) → bytes_eq x t.name ≡ b → Places ts (k + 1) (position_from (bytes_eq x) (k + 1) (names ts)) → Places (t ∷ ts) k (position_from (bytes_eq x) k (names (t ∷ ts)))
      by true e rest = subst (λ b. Places (t ∷ ts) k (cond b (Some k) (position_from (bytes_eq x) (k + 1) (names ts)))) (sym e) (0, omega arith, record { template = t; at = refl; named = ap (λ b. cond b (Some t) (template_named x ts)) e })
      by false e rest = subst (λ b. Places (t ∷ ts) k (cond b (Some k) (position_from (bytes_eq x) (k + 1) (names ts)))) (sym e) (after t ts k _ e rest)

  placed : (ts : Templates) → Places ts 0 (position (bytes_eq x) (names ts))
  placed ts = subst (Places ts 0) (sym (position_from-zero (bytes_eq x) (names ts))) (places ts 0)

  pub named_at : (ts : Templates) (i : ℕ) → position (bytes_eq x) (names ts) ≡ Some i → IsNamedAt x ts i
  named_at ts i e =
      let h = subst (Places ts 0) e (placed ts) in
      subst (IsNamedAt x ts) (omega (arith, h.1)) h.2

  pub none_named : (ts : Templates) → position (bytes_eq x) (names ts) ≡ None → template_named x ts ≡ None
  none_named ts e = subst (Places ts 0) e (placed ts)

  -- the template of a name has a place
  pub place_of_named : (ts : Templates) (t : Template) → template_named x ts ≡ Some t → (i : ℕ) × (position (bytes_eq x) (names ts) ≡ Some i) × (slice_get ts i ≡ Some t)
  place_of_named ts t e = by (position (bytes_eq x) (names ts)) refl
    where
      by : (o : Option ℕ) → position (bytes_eq x) (names ts) ≡ o → (i : ℕ) × (position (bytes_eq x) (names ts) ≡ Some i) × (slice_get ts i ≡ Some t)
      by None q = absurd (none-some t (sym (none_named ts q) ∙ e))
      by (Some i) q =
          let h = named_at ts i q in
          (i, q, h.at ∙ ap Some (same_Some _ _ (sym h.named ∙ e)))

-- the first template of a name has the name
pub named_so : (x : Name) (ts : Templates) (t : Template) → template_named x ts ≡ Some t → t.name ≡ x
named_so x [] t e = absurd (none-some t e)
named_so x (u ∷ ts) t e = by (bytes_eq x u.name) (bytes_eq-Decides x u.name) (named_so x ts t) e
  where
    by : (b : Bool) → Decides b (x ≡ u.name) → (template_named x ts ≡ Some t → t.name ≡ x) → cond b (Some u) (template_named x ts) ≡ Some t → t.name ≡ x
    by true d rest q = ap (λ (t : Template). t.name) (sym (same_Some _ _ q)) ∙ sym (d.0 refl)
    by false d rest q = rest q

-- there is a first template of the name of any
pub some_named : (ts : Templates) (i : ℕ) (t : Template) → slice_get ts i ≡ Some t → (u : Template) × (template_named t.name ts ≡ Some u)
some_named [] i t e = absurd (none-some t e)
some_named (u ∷ ts) zero t e = (t, by (bytes_eq t.name u.name) ((bytes_eq-Decides t.name u.name).1 (ap (λ (t : Template). t.name) (sym same))))
  where
    same : u ≡ t
    same = same_Some _ _ e

    by : (b : Bool) → b ≡ true → cond b (Some u) (template_named t.name ts) ≡ Some t
    by true k = ap Some same
    by false k = absurd cc
some_named (u ∷ ts) (suc i) t e = by (bytes_eq t.name u.name) (some_named ts i t e)
  where
    by : (b : Bool) → (v : Template) × (template_named t.name ts ≡ Some v) → (v : Template) × (cond b (Some u) (template_named t.name ts) ≡ Some v)
    by true rest = (u, refl)
    by false rest = rest

-- the template at the place of a name
module _ (p : Program) (x : Name) (i : ℕ) (place : position (bytes_eq x) (program_names p) ≡ Some i) where
  pub named_within : i < length (headers_of p)
  named_within =
      let there = named_at x (templates_of p) i place in
      let within = slice_get_within (templates_of p) i there.template there.at in
      let count = length-map (headers_of p) (term_template p) in
      omega arith

  pub named_is : (h : Header) → slice_get (headers_of p) i ≡ Some h → Some (term_template p h) ≡ template_named x (templates_of p)
  named_is h at =
      let there = named_at x (templates_of p) i place in
      sym (template_at p i h at) ∙ there.at ∙ sym there.named

  pub name_is : (h : Header) → slice_get (headers_of p) i ≡ Some h → h.name ≡ x
  name_is h at = named_so x (templates_of p) (term_template p h) (sym (named_is h at))

-- where names are different, the place of a template is that of its name
pub place_of_header : (p : Program) → HasDifferentNames p → (i : ℕ) (h : Header) → slice_get (headers_of p) i ≡ Some h → position (bytes_eq h.name) (program_names p) ≡ Some i
place_of_header p different i h at =
    let here = name_at p i h at in
    let some = some_named (templates_of p) i (term_template p h) (template_at p i h at) in
    let found = place_of_named h.name (templates_of p) some.0 some.1 in
    let there = named_at h.name (templates_of p) found.0 found.1 in
    let header = header_of p found.0 there.template there.at in
    let named : slice_get (program_names p) found.0 ≡ Some h.name = name_at p found.0 header.0 header.1 ∙ ap Some (name_is p h.name found.0 found.1 header.0 header.1) in
    let facts = position-Some (bytes_eq h.name) (program_names p) found.0 h.name found.1 in
    elim (cases_lt found.0 i) [
      | inl before ↦ absurd (different i (record { earlier = found.0; before = before; name = h.name; there = named; here = here }))
      | inr from ↦ elim (cases_lt i found.0) [
        | inl behind ↦ absurd (differ _ (facts.2 i behind) (ap (bytes_eq h.name) (get_or_from_slice_get (program_names p) i h.name h.name here) ∙ (bytes_eq-Decides h.name h.name).1 refl))
        | inr to ↦ found.1 ∙ ap Some (omega arith)
      ]
    ]
  where
    differ : (b : Bool) → b ≡ false → b ≡ true → ⊥
    differ b e k = cc
