-- What a look-up in a registry finds.
use Rattle.std.proofs.Common.{◌≡◌, ◌≢◌, ℕ, List, [], ◌∷◌, ◌++◌, map, Bool, true, false, cond, Option, Some, None, is_some, refl, sym, ap, ◌∙◌, subst, true≢false, Bor, String, HashMap, string_bytes}
use Rattle.std.specs.Option.{option_map, option_copied, option_and_then}
use Rattle.std.specs.Str.{bytes_eq}
use Rattle.std.specs.Map.{lookup}
use Rattle.std.specs.declared.alloc.Global.{Global}
use Rattle.std.specs.HashMap.{get_by_text}
use Rattle.std.specs.String.{string_eq}
use Rattle.std.proofs.lemmas.Slice.Eq.{bytes_eq-Decides}
use Rattle.indexmap.specs.IndexMap.{insert_entry}
use Rattle.indexmap.proofs.CallerLemmas.{insert_entry-new}
use Rattle.std.proofs.lemmas.List.{map-append}

-- what a reference to a value found shows
pub option_map_copied : {X Y : Type 0} (f : X → Y) (r : Option (Bor X)) → option_map (λ e. f e.now) r ≡ option_map f (option_copied r)
option_map_copied f None = refl
option_map_copied f (Some e) = refl

none_found : {X : Type 0} (o : Option X) → is_some o ≡ false → o ≡ None
none_found None e = refl
none_found (Some x) e = absurd (true≢false e)

some_found : {X Y : Type 0} (f : X → Y) (o : Option X) → is_some o ≡ true → option_map f o ≢ None
some_found f None e = absurd (true≢false (sym e))
some_found f (Some x) e = λ h. absurd (true≢false (ap is_some h))

module _ {K X Y : Type 0} (bytes : K → List ℕ) (seen : X → Y) (name : List ℕ) where
  -- a look-up by bytes among entries whose keys and values are seen otherwise
  pub lookup_seen : (es : List (K × X)) → lookup (bytes_eq name) (map (λ e. (bytes e.0, seen e.1)) es) ≡ option_map seen (lookup (λ k. bytes_eq name (bytes k)) es)
  lookup_seen [] = refl
  lookup_seen (e ∷ es) =
      elim (bytes_eq name (bytes e.0)) as (λ b. cond b (Some (seen e.1)) (lookup (bytes_eq name) (map (λ f. (bytes f.0, seen f.1)) es)) ≡ option_map seen (cond b (Some e.1) (lookup (λ k. bytes_eq name (bytes k)) es))) [
        | true ↦ refl
        | false ↦ lookup_seen es
      ]

  -- a name that there is, or is not
  pub is_there : (es : List (K × X)) (b : Bool) → b ≡ is_some (lookup (λ k. bytes_eq name (bytes k)) es) → b ≡ true → lookup (bytes_eq name) (map (λ e. (bytes e.0, seen e.1)) es) ≢ None
  is_there es b is there = λ h. some_found seen (lookup (λ k. bytes_eq name (bytes k)) es) (sym is ∙ there) (sym (lookup_seen es) ∙ h)

  pub is_new : (es : List (K × X)) (b : Bool) → b ≡ is_some (lookup (λ k. bytes_eq name (bytes k)) es) → b ≡ false → lookup (bytes_eq name) (map (λ e. (bytes e.0, seen e.1)) es) ≡ None
  is_new es b is absent = lookup_seen es ∙ ap (option_map seen) (none_found (lookup (λ k. bytes_eq name (bytes k)) es) (sym is ∙ absent))

  -- what is not found as it is seen is not there
  pub none_seen : (es : List (K × X)) → lookup (bytes_eq name) (map (λ e. (bytes e.0, seen e.1)) es) ≡ None → lookup (λ k. bytes_eq name (bytes k)) es ≡ None
  none_seen es h = unseen (lookup (λ k. bytes_eq name (bytes k)) es) (sym (lookup_seen es) ∙ h) where
    unseen : (o : Option X) → option_map seen o ≡ None → o ≡ None
    unseen None e = refl
    unseen (Some x) e = absurd (true≢false (ap is_some e))

module _ {K X : Type 0} (test : K → Bool) where
  -- a last entry of another key changes nothing of what is found
  pub found_still : (es : List (K × X)) (last : K × X) → test last.0 ≡ false → lookup test (es ++ last ∷ []) ≡ lookup test es
  found_still [] last other = ap (λ b. cond b (Some last.1) None) other
  found_still (e ∷ es) last other = ap (cond (test e.0) (Some e.1)) (found_still es last other)

  -- the last entry is found where none before it is
  pub last_found : (es : List (K × X)) (last : K × X) → lookup test es ≡ None → test last.0 ≡ true → lookup test (es ++ last ∷ []) ≡ Some last.1
  last_found [] last is there = ap (λ b. cond b (Some last.1) None) there
  last_found (e ∷ es) last is there =
      (elim (test e.0) as (λ b. cond b (Some e.1) (lookup test es) ≡ None → cond b (Some e.1) (lookup test (es ++ last ∷ [])) ≡ Some last.1) [
        | true ↦ λ h. absurd (true≢false (ap is_some h))
        | false ↦ λ h. last_found es last h there
      ]) is

-- the entry of a key is what is found by its name
pub found_there : {X Z : Type 0} (f : X → Option Z) (es : List (String Global × X)) (k : String Global) (name : List ℕ) (e : X) → string_bytes k ≡ name → lookup (λ j. bytes_eq (string_bytes k) (string_bytes j)) es ≡ Some e
    → f e ≡ option_and_then f (lookup (λ j. bytes_eq name (string_bytes j)) es)
found_there f es k name e same is = sym (ap (option_and_then f) (subst (λ n. lookup (λ j. bytes_eq n (string_bytes j)) es ≡ Some e) same is))

-- ## A new entry

-- it stands last
pub last_of : {X Z : Type 0} (m : HashMap (String Global) X Z) (new : List (String Global × X)) (k : String Global) (e : X) (name : List ℕ) → string_bytes k ≡ name → get_by_text m name ≡ None
    → new ≡ insert_entry string_eq m.entries k e → new ≡ m.entries ++ (k, e) ∷ []
last_of m new k e name same absent is = is ∙ insert_entry-new string_eq m k e (subst (λ n. get_by_text m n ≡ None) (sym same) absent)

pub is_named : (k : String Global) (name : List ℕ) → string_bytes k ≡ name → bytes_eq name (string_bytes k) ≡ true
is_named k name same = (bytes_eq-Decides name (string_bytes k)).1 (sym same)

pub is_not_named : (name n : List ℕ) → n ≢ name → bytes_eq n name ≡ false
is_not_named name n other =
    (elim (bytes_eq n name) as (λ b. bytes_eq n name ≡ b → b ≡ false) [
      | true ↦ λ is. absurd (other ((bytes_eq-Decides n name).0 is))
      | false ↦ λ is. refl
    ]) refl

pub is_named_otherwise : (k : String Global) (name n : List ℕ) → string_bytes k ≡ name → n ≢ name → bytes_eq n (string_bytes k) ≡ false
is_named_otherwise k name n same other = ap (bytes_eq n) same ∙ is_not_named name n other

pub added_seen : {K X Y : Type 0} (bytes : K → List ℕ) (seen : X → Y) (es new : List (K × X)) (k : K) (e : X) (name : List ℕ) → bytes k ≡ name → new ≡ es ++ (k, e) ∷ []
    → map {B = List ℕ × Y} (λ e. (bytes e.0, seen e.1)) new ≡ map {B = List ℕ × Y} (λ e. (bytes e.0, seen e.1)) es ++ (name, seen e) ∷ []
added_seen {Y = Y} bytes seen es new k e name same last =
    ap (map {B = List ℕ × Y} (λ e. (bytes e.0, seen e.1))) last ∙ map-append _ es ((k, e) ∷ []) ∙ ap (λ b. map {B = List ℕ × Y} (λ e. (bytes e.0, seen e.1)) es ++ (b, seen e) ∷ []) same
