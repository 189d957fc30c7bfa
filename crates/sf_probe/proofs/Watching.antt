-- Whether a name is among those that are watched.
use Rattle.std.proofs.Common.{◌≡◌, List, [], ◌∷◌, ◌||◌, map, Bool, IsTrue, Contains, refl, sym, ap, ◌∙◌, String, string_bytes, ◌↔◌}
use Rattle.std.specs.List.{list_any}
use Rattle.std.specs.Str.{bytes_eq}
use Rattle.std.specs.declared.alloc.Global.{Global}
use Rattle.std.proofs.lemmas.Cmp.{nat_list_eq_equiv}
use Rattle.std.proofs.lemmas.Slice.Eq.{bytes_eq-Decides}
use Rattle.std.proofs.lemmas.Map.Views.{Contains-from_any, list_any-from_Contains}
use Rattle.sf_value.specs.Values.{Name}

-- a test of each of the names
pub of_names : (test : Name → Bool) (ns : List (String Global)) → list_any (λ n. test (string_bytes n)) ns ≡ list_any test (map string_bytes ns)
of_names test [] = refl
of_names test (n ∷ ns) = ap (λ b. test (string_bytes n) || b) (of_names test ns)

pub is_watched : (name : Name) (ns : List (String Global)) (b : Bool) → b ≡ list_any (λ n. bytes_eq name (string_bytes n)) ns → (IsTrue b ↔ Contains (map string_bytes ns) name)
is_watched name ns b is =
    let found : b ≡ list_any (bytes_eq name) (map string_bytes ns) = is ∙ of_names (bytes_eq name) ns in (
      λ t. Contains-from_any (λ x y same. (bytes_eq-Decides x y).0 same) name (map string_bytes ns) (sym found ∙ t),
      λ there. found ∙ list_any-from_Contains nat_list_eq_equiv name (map string_bytes ns) there,
    )
