-- Names of the language in patterns.
use Rattle.std.proofs.Common.{◌≡◌, zero, suc, ◌↔◌, List, [], ◌∷◌, ◌++◌, All, subst, arith, Bool, false, IsTrue}
use Rattle.sf_lex.specs.Words.{IsName}
use Rattle.sf_expr.specs.Expressions.{Pattern, both, names_of_pattern}
use Rattle.sf_term.specs.Names.{HasNames}
use Rattle.std.proofs.lemmas.List.{length-append, get_or_append_left}
use Rattle.std.proofs.lemmas.List.Elements.{All-append}

module _ {X : Type 0} (P : X → Type 0) where
  pub all_left : (xs ys : List X) → All P (xs ++ ys) → All P xs
  all_left xs ys h k d q = subst P (get_or_append_left xs ys d k q) (h k d (omega (arith, length-append xs ys)))

  pub all_right : (xs ys : List X) → All P (xs ++ ys) → All P ys
  all_right [] ys h = h
  all_right (x ∷ xs) ys h = all_right xs ys (λ k d q. h (suc k) d (omega arith))

  pub all_one : (x : X) → P x → All P (x ∷ [])
  all_one x h zero d q = h
  all_one x h (suc k) d q = absurd (omega arith)

  pub all_none : All P []
  all_none k d q = absurd (omega arith)

  pub one_all : (x : X) → All P (x ∷ []) → P x
  one_all x h = h 0 x (omega arith)

-- the names of two patterns are names of the language where those of each are
pub both_named : (p q : Pattern) (b : Bool) → HasNames p → (IsTrue b ↔ HasNames q) → IsTrue b ↔ HasNames (both p q)
both_named p q b h e = (λ t. All-append IsName (names_of_pattern p) (names_of_pattern q) h (e.0 t), λ n. e.1 (all_right IsName (names_of_pattern p) (names_of_pattern q) n))

pub first_unnamed : (p q : Pattern) (b : Bool) → (IsTrue b ↔ HasNames p) → b ≡ false → IsTrue b ↔ HasNames (both p q)
first_unnamed p q b e f = (λ t. absurd cc, λ n. e.1 (all_left IsName (names_of_pattern p) (names_of_pattern q) n))
