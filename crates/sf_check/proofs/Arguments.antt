-- Arguments of calls that are left with their parameters.
use Rattle.std.proofs.Common.{◌≡◌, List, ◌∷◌, length, arith}
use Rattle.sf_value.specs.Values.{Name}
use Rattle.sf_term.specs.declared.node.Argument.{Argument}
use Rattle.sf_term.specs.declared.program.Program.{Program}
use Rattle.sf_mean.specs.Contexts.{NameKind, Bindings, Context}
use Rattle.sf_check.specs.Breaking.{ArgumentKeeps, ArgumentsLeft, all_left, after_one}

module _ {p : Program} {Γ : Context} where
  -- there are as many arguments as parameters
  pub left_length : {vs ws : List Argument} {qs rs : Bindings} → ArgumentsLeft p Γ vs qs ws rs → length vs ≡ length qs
  left_length (all_left e) = e
  left_length (after_one keeps left) = omega (arith, left_length left)

  pub rest_length : {vs ws : List Argument} {qs rs : Bindings} → ArgumentsLeft p Γ vs qs ws rs → length ws ≡ length rs
  rest_length (all_left e) = e
  rest_length (after_one keeps left) = rest_length left

  -- one more keeps its rules
  pub one_less : {vs ws : List Argument} {qs rs : Bindings} {v : Argument} {x : Name} {k : NameKind} → ArgumentsLeft p Γ vs qs (v ∷ ws) ((x, k) ∷ rs) → ArgumentKeeps p Γ v k → ArgumentsLeft p Γ vs qs ws rs
  one_less (all_left e) keeps = after_one keeps (all_left (omega (arith, e)))
  one_less (after_one before left) keeps = after_one before (one_less left keeps)
