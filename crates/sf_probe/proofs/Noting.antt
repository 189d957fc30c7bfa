-- What is kept once one more reading is noted.
use Rattle.std.proofs.Common.{◌≡◌, ℕ, ◌≤◌, List, [], ◌∷◌, ◌++◌, ◌||◌, map, length, take, true, false, cond, if◌then◌else◌, Some, None, is_some, refl, sym, ap, ◌∙◌, subst, String, string_bytes}
use Rattle.std.specs.List.{list_any}
use Rattle.std.specs.Map.{lookup, keys_of}
use Rattle.std.specs.Str.{bytes_eq}
use Rattle.std.specs.declared.alloc.Global.{Global}
use Rattle.std.proofs.lemmas.Cmp.{nat_list_eq_equiv}
use Rattle.std.proofs.lemmas.List.{reverse-append, map-append, length-map, take-map}
use Rattle.std.proofs.lemmas.List.Sums.{fold-append}
use Rattle.indexmap.specs.IndexSet.{insert_key}
use Rattle.sf_value.specs.Values.{Name, Data}
use Rattle.sf_probe.specs.declared.latest.Latest.{Latest}
use Rattle.sf_probe.specs.Latest.{HasNoted, HasNotedFront, latest_value, latest_names, last_reading}

-- a name is among those that have a value exactly where it has one
among : {X : Type 0} (name : Name) (es : List (String Global × X)) → list_any (bytes_eq name) (map (λ e. string_bytes e.0) es) ≡ is_some (lookup (λ k. bytes_eq name (string_bytes k)) es)
among name [] = refl
among name (e ∷ es) =
    elim (bytes_eq name (string_bytes e.0)) as (λ b. (b || list_any (bytes_eq name) (map (λ e. string_bytes e.0) es)) ≡ is_some (cond b (Some e.1) (lookup (λ k. bytes_eq name (string_bytes k)) es))) [
      | true ↦ refl
      | false ↦ among name es
    ]

names_of_keys : {X : Type 0} (es : List (String Global × X)) → map (λ e. string_bytes e.0) es ≡ map string_bytes (keys_of es)
names_of_keys [] = refl
names_of_keys (e ∷ es) = ap (λ ns. string_bytes e.0 ∷ ns) (names_of_keys es)

module _ (old : Latest) (name : Name) where
  -- a name that is there keeps its place
  pub named_there : {X : Type 0} (new : List (String Global × X)) → is_some (latest_value name old) ≡ true → keys_of new ≡ keys_of old.values.entries → map (λ e. string_bytes e.0) new ≡ insert_key bytes_eq (latest_names old) name
  named_there new there same =
      names_of_keys new ∙ ap (map string_bytes) same ∙ sym (names_of_keys old.values.entries) ∙ sym (ap (λ b. if b then latest_names old else (latest_names old ++ name ∷ [])) (among name old.values.entries ∙ there))

  -- a new name is the last
  pub named_new : (new : List (String Global × Data)) (k : String Global) (v : Data) → string_bytes k ≡ name → latest_value name old ≡ None → new ≡ old.values.entries ++ (k, v) ∷ [] → map (λ e. string_bytes e.0) new ≡ insert_key bytes_eq (latest_names old) name
  named_new new k v same absent is =
      ap (map (λ e. string_bytes e.0)) is ∙ map-append (λ e. string_bytes e.0) old.values.entries ((k, v) ∷ []) ∙ ap (λ n. latest_names old ++ n ∷ []) same
      ∙ sym (ap (λ b. if b then latest_names old else (latest_names old ++ name ∷ [])) (among name old.values.entries ∙ ap is_some absent))

-- one more reading
module _ (old new : Latest) (name : Name) (v : Data) (found : (q : Name) → latest_value q new ≡ cond (bytes_eq name q) (Some v) (latest_value q old)) (named : latest_names new ≡ insert_key bytes_eq (latest_names old) name) where
  one_last : (noted : List (Name × Data)) → HasNoted old noted → (q : Name) → latest_value q new ≡ last_reading q (noted ++ (name, v) ∷ [])
  one_last noted h q =
      found q ∙ ap (λ b. cond b (Some v) (latest_value q old)) (nat_list_eq_equiv.symm name q) ∙ ap (cond (bytes_eq q name) (Some v)) (h.last q)
      ∙ sym (ap (lookup (bytes_eq q)) (reverse-append noted ((name, v) ∷ [])))

  pub one_more : (noted : List (Name × Data)) → HasNoted old noted → HasNoted new (noted ++ (name, v) ∷ [])
  one_more noted h = record {
    last = one_last noted h;
    order = named ∙ ap (λ ns. insert_key bytes_eq ns name) h.order ∙ sym (fold-append (λ (seen : List Name) (r : Name × Data). insert_key bytes_eq seen r.0) [] noted ((name, v) ∷ []));
  }

-- the first of the readings are noted
pub front_noted : (old new : Latest) {R : Type 0} (seen : R → Name × Data) (rs : List R) (n : ℕ) → n ≤ length rs → ((noted : List (Name × Data)) → HasNoted old noted → HasNoted new (noted ++ map seen (take n rs)))
    → HasNotedFront old new (map seen rs)
front_noted old new seen rs n few holds = record {
  count = n;
  few = simp length-map few;
  holds = λ noted h. subst (λ xs. HasNoted new (noted ++ xs)) (sym (take-map seen n rs)) (holds noted h);
}
