-- The part of a value that the number of a name stands for.
use Rattle.std.proofs.Common.{◌≡◌, ℕ, Bool, true, false, cond, Option, Some, None, nat_eq, refl, sym, ap, ◌∙◌}
use Rattle.sf_value.specs.Values.{Name, Data, first_of, second_of}
use Rattle.sf_expr.specs.declared.exprs.numbers.NumberedPattern.{NumberedPattern}
use Rattle.sf_expr.specs.declared.exprs.numbers.NumberedPattern.TheVariants.{Unnamed, Name as Numbered, Both'}
use Rattle.sf_expr.specs.Expressions.{Pattern, unnamed, named, both}
use Rattle.sf_expr.specs.Numbered.{TellsName}
use Rattle.sf_code.specs.Names.{ValuesByName, value_named}
use Rattle.sf_state.specs.Names.{found_or, values_inside}

module _ (m : ℕ) (x : Name) where
  -- what was found is the part of a value under a name of a pattern
  abbrev pub IsPart : NumberedPattern → Data → Option Data → Type 0
  IsPart s d o = (p : Pattern) → TellsName m x s p → (vs : ValuesByName) → value_named (values_inside p d vs) x ≡ found_or o (value_named vs x)

  pub no_part : (d : Data) → IsPart Unnamed d None
  no_part d unnamed h vs = refl
  no_part d (named y) h vs = absurd h
  no_part d (both p q) h vs = absurd h

  -- one name is the one, or isn't
  pub one_part : (k : ℕ) (d : Data) (b : Bool) → nat_eq m k ≡ b → IsPart (Numbered k) d (cond b (Some d) None)
  one_part k d b is unnamed h = absurd h
  one_part k d b is (both p q) h = absurd h
  one_part k d b is (named y) h = λ vs. ap (λ c. cond c (Some d) (value_named vs x)) (sym h ∙ is) ∙ by vs b
    where
      by : (vs : ValuesByName) (b : Bool) → cond b (Some d) (value_named vs x) ≡ found_or (cond b (Some d) None) (value_named vs x)
      by vs true = refl
      by vs false = refl

  -- the second half is looked at first
  pub second_part : (a b : _) (s t : NumberedPattern) (d e : Data) → IsPart t (second_of d) (Some e) → IsPart (Both' a s b t) d (Some e)
  second_part a b s t d e h unnamed k = absurd k
  second_part a b s t d e h (named y) k = absurd k
  second_part a b s t d e h (both p q) k = λ vs. h q k.1 (values_inside p (first_of d) vs)

  pub first_part : (a b : _) (s t : NumberedPattern) (d : Data) (o : Option Data) → IsPart t (second_of d) None → IsPart s (first_of d) o → IsPart (Both' a s b t) d o
  first_part a b s t d o h k unnamed l = absurd l
  first_part a b s t d o h k (named y) l = absurd l
  first_part a b s t d o h k (both p q) l = λ vs. h q l.1 (values_inside p (first_of d) vs) ∙ k p l.0 vs
