-- What functions that are made into one make of a value, one after another.
use Rattle.std.specs.Prelude.{◌≡◌, ℤ, List, [], ◌∷◌, map, Option, Some, None, option_to_list}
use Rattle.sf_value.specs.Values.{Data, number, pair}
use Rattle.sf_func.specs.Registries.{AnswersByName}
use Rattle.sf_expr.specs.Evaluation.{Evaluated, Scope, scope_functions, answer, ◌>>=◌}
use Rattle.sf_code.specs.declared.open.Closure.{Closure}
use Rattle.sf_code.specs.CodeView.{code_of}
use Rattle.sf_code.specs.Running.{run}
use Rattle.sf_term.specs.declared.form.Side.{Side}
use Rattle.sf_term.specs.Trees.{Chain}
use Rattle.sf_mean.specs.Formulas.{side_of, side_replaced, apply_chain}
use Rattle.sf_prim.specs.declared.chain.Link.{Link, fold-Link}
use Rattle.sf_prim.specs.declared.chain.Link.TheOpen.{Link-F}

-- what is made of a value, where functions answer so
abbrev pub Worker : Type 0
Worker = AnswersByName → Data → Evaluated Data

-- one after another, up to the first fault
abbrev pub in_turn : List Worker → Worker
in_turn [] φ x = answer x
in_turn (w ∷ ws) φ x = w φ x >>= λ y. in_turn ws φ y

-- the pair of a value with what is made of its part on a side in that part's place
abbrev pub on_part : Side → Worker → Worker
on_part d w φ x = w φ (side_of d x) >>= λ y. answer (side_replaced d x y)

-- what a function makes of a value
abbrev pub closure_worth : Closure → Worker
closure_worth c φ x = run (code_of c.function.value.code) (x ∷ option_to_list c.around) φ

-- a link, with what the links in it make in their place
abbrev pub link_step : Link-F Worker → Worker
link_step (Link-F.Function c) φ x = run (code_of c.value.code) (x ∷ []) φ
link_step (Link-F.Closed c) φ x = closure_worth c φ x
link_step (Link-F.Number k) φ x = closure_worth k.closure φ x
link_step (Link-F.OnSide d v) φ x = on_part d (in_turn v.items) φ x
link_step Link-F.Fork φ x = answer (pair x x)

-- what a link makes of a value
abbrev pub link_worth : Link → Worker
link_worth = fold-Link Worker link_step

-- what links make of a value
abbrev pub links_worth : List Link → Worker
links_worth ls = in_turn (map link_worth ls)

-- what functions make of a value in a scope
abbrev pub Work : Type 0
Work = Data → Scope → Evaluated Data

-- A link makes this of each value in a scope.
pub record IsLinkOf (s : Scope) (w : Work) (l : Link) : Type 0 where
  pub worth : (x : Data) → link_worth l (scope_functions s) x ≡ w x s

-- Links make of each value in a scope what functions made into one answer.
pub record AreLinksOf (s : Scope) (f : Chain) (ls : List Link) : Type 0 where
  pub worth : (x : Data) → links_worth ls (scope_functions s) x ≡ apply_chain f x s

-- Links make of each value in a scope what others do, and then this.
pub record AddsLinks (s : Scope) (w : Work) (ls more : List Link) : Type 0 where
  pub worth : (x : Data) → links_worth more (scope_functions s) x ≡ links_worth ls (scope_functions s) x >>= λ y. w y s

-- a number, and where there is none a value
abbrev pub held : Option ℤ → Data → Data
held (Some z) x = number z
held None x = x
