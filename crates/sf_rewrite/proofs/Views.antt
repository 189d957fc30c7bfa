-- Forms by their parts, over a whole life.
use Rattle.std.proofs.Common.{◌≡◌, List, [], ◌∷◌, refl, ap, subst}
use Rattle.sf_value.specs.Values.{Data, pair, first_of, second_of}
use Rattle.sf_value.specs.declared.fault.ValueFault.{ValueFault}
use Rattle.sf_term.specs.declared.form.Join.TheVariants.{InParallel, FannedOut}
use Rattle.sf_term.specs.declared.form.Side.{Side}
use Rattle.sf_term.specs.Trees.{Extent, Term, joined, sided, staged}
use Rattle.sf_mean.specs.Lives.{Step, step, wait_of, input_of, Life, Environment, with_inputs, relay}
use Rattle.sf_mean.specs.Formulas.{side_of, side_replaced}
use Rattle.sf_mean.specs.Meaning.{Readings, Outcome, gave, faulted, changed, combined, outcome_value, Cost, both_costs, over, over_stages, text_cost}
use Rattle.sf_rewrite.proofs.Parts.{Leaves, part, Parts, begins, then_gave, At, at_leaf, at_join, at_stages, at_side, Then, then_part, then_stops, no_truth, OneLeaf, onces}

-- one step of the part that stands next
pub data Along (Q : Leaves) : Outcome → Term → Environment → Step → Life → Outcome → Cost → Type 0 where
  goes : {t : Term} {e : Environment} {s : Step} {L : Life} {y : Data} {r : Readings} {o : Outcome} {c : Cost}
      → At Q t e s L o c → Along Q (gave y r) t e s L o c
  stays : {t : Term} {e : Environment} {s : Step} {L : Life} {x : ValueFault} → Along Q (faulted x) t e s L (faulted x) (text_cost t)

abbrev pub later : Data → Data → Data
later y z = z

abbrev pub pairs : List Data → List Data → List Data
pairs [] ws = []
pairs (y ∷ ys) [] = []
pairs (y ∷ ys) (w ∷ ws) = pair y w ∷ pairs ys ws

-- the inputs with these values on a side
abbrev pub sides : Side → Life → List Data → List Data
sides a [] us = []
sides a (s ∷ L) [] = []
sides a (s ∷ L) (u ∷ us) = side_replaced a (input_of s) u ∷ sides a L us

-- the step with another input
abbrev pub with_input : Step → Data → Step
with_input s y = step (wait_of s) y

-- a stage and the others
pub data Chained (Q : Leaves) (x : Extent) (f g : Term) (e : Environment) (s : Step) (L : Life) : List Data → Outcome → Cost → Type 0 where
  chained : {ys zs : List Data} {p q : Outcome} {c d : Cost}
      → Parts Q f e L ys → Parts Q g e (relay L ys) zs → At Q f e s L p c → Along Q p g e (with_input s (outcome_value p)) (relay L ys) q d
      → Chained Q x f g e s L zs (combined later p q) (over_stages x (both_costs c d))

-- `***`
pub data Paired (Q : Leaves) (f g : Term) (e : Environment) (s : Step) (L : Life) : List Data → Outcome → Cost → Type 0 where
  paired : {ys zs : List Data} {p q : Outcome} {c d : Cost}
      → Parts Q f e (with_inputs first_of L) ys → Parts Q g e (with_inputs second_of L) zs
      → At Q f e (with_input s (first_of (input_of s))) (with_inputs first_of L) p c
      → Along Q p g e (with_input s (second_of (input_of s))) (with_inputs second_of L) q d
      → Paired Q f g e s L (pairs ys zs) (combined pair p q) (over (both_costs c d))

-- `&&&`
pub data Fanned (Q : Leaves) (f g : Term) (e : Environment) (s : Step) (L : Life) : Outcome → Cost → Type 0 where
  fanned : {ys zs : List Data} {p q : Outcome} {c d : Cost}
      → Parts Q f e L ys → Parts Q g e L zs → At Q f e s L p c → Along Q p g e s L q d
      → Fanned Q f g e s L (combined pair p q) (over (both_costs c d))

-- `first` and `second`
pub data Sided (Q : Leaves) (a : Side) (t : Term) (e : Environment) (s : Step) (L : Life) : Outcome → Cost → Type 0 where
  seen_side : {us : List Data} {o : Outcome} {c : Cost} → Parts Q t e (with_inputs (side_of a) L) us → At Q t e (with_input s (side_of a (input_of s))) (with_inputs (side_of a) L) o c
      → Sided Q a t e s L (changed (side_replaced a (input_of s)) o) (over c)

module _ (Q : Leaves) (one : OneLeaf Q) where
  then_along : {p : Outcome} {g : Term} {e : Environment} {s : Step} {L : Life} {q : Outcome} {c : Cost} → Then Q p g e (s ∷ L) q c → Along Q p g e s L q c
  then_along (then_part (part A B)) = goes B
  then_along then_stops = stays

  pub along_then : {p : Outcome} {g : Term} {e : Environment} {s : Step} {L : Life} {zs : List Data} {q : Outcome} {c : Cost} → Parts Q g e L zs → Along Q p g e s L q c → Then Q p g e (s ∷ L) q c
  along_then P (goes B) = then_part (part P B)
  along_then P stays = then_stops

  -- ## Stages

  pub join_stages : {x : Extent} {f g : Term} {e : Environment} {L : Life} {ys zs : List Data} → Parts Q f e L ys → Parts Q g e (relay L ys) zs → Parts Q (staged x f g) e L zs
  join_stages begins begins = begins
  join_stages (then_gave A B) (then_gave A' B') = then_gave (join_stages A A') (at_stages A (part A B) (then_part (part A' B')))

  pub make_stages : {x : Extent} {f g : Term} {e : Environment} {s : Step} {L : Life} {zs : List Data} {o : Outcome} {c : Cost} → Chained Q x f g e s L zs o c → At Q (staged x f g) e s L o c
  make_stages (chained A B C D) = at_stages A (part A C) (along_then B D)

  abbrev pub SplitStages : Term → Term → Environment → Life → List Data → Type 0
  SplitStages f g e L zs = (ys : List Data) × Parts Q f e L ys × Parts Q g e (relay L ys) zs

  pub last_stages : {x : Extent} {f g : Term} {e : Environment} {s : Step} {L : Life} {zs : List Data} {o : Outcome} {c : Cost} → Chained Q x f g e s L zs o c → (z : Data) (r : Readings) → o ≡ gave z r → SplitStages f g e (s ∷ L) (z ∷ zs)
  last_stages {g = g} {e = e} {s = s} {L = L} {zs = zs} (chained {ys = ys} {p = gave y r'} {q = gave z' r''} A B C (goes D)) z r h =
      let N : Data → Type 0 = λ z. Parts Q g e (with_input s y ∷ relay L ys) (z ∷ zs) in
      (y ∷ ys, then_gave A C, subst N (ap outcome_value h) (then_gave B D))
  last_stages (chained {p = gave y r'} {q = faulted x} A B C D) z r h = absurd cc
  last_stages (chained {p = faulted x} A B C D) z r h = absurd cc

  with_stages : {x : Extent} {f g : Term} {e : Environment} {s : Step} {L : Life} {zs : List Data} {o : Outcome} {c : Cost} → SplitStages f g e L zs → At Q (staged x f g) e s L o c → Chained Q x f g e s L zs o c
  with_stages k (at_leaf h B) = absurd (no_truth h)
  with_stages {f = f} {g = g} {e = e} {s = s} {L = L} k (at_stages {o = p} {o' = q} {c' = d} A (part A' C) D) =
      let N : List Data → Type 0 = λ l. Along Q p g e (with_input s (outcome_value p)) (relay L l) q d in
      chained k.1 k.2 C (subst N (onces Q one A k.1) (then_along D))

  pub split_stages : {x : Extent} {f g : Term} {e : Environment} {L : Life} {zs : List Data} → Parts Q (staged x f g) e L zs → SplitStages f g e L zs
  split_stages begins = ([], begins, begins)
  split_stages (then_gave {y = y} {r = r} A B) = last_stages (with_stages (split_stages A) B) y r refl

  pub view_stages : {x : Extent} {f g : Term} {e : Environment} {s : Step} {L : Life} {zs : List Data} {o : Outcome} {c : Cost} → Parts Q (staged x f g) e L zs → At Q (staged x f g) e s L o c → Chained Q x f g e s L zs o c
  view_stages P B = with_stages (split_stages P) B

  -- ## `***`

  pub join_parallel : {f g : Term} {e : Environment} (L : Life) {ys zs : List Data} → Parts Q f e (with_inputs first_of L) ys → Parts Q g e (with_inputs second_of L) zs → Parts Q (joined InParallel f g) e L (pairs ys zs)
  join_parallel [] begins begins = begins
  join_parallel (s ∷ L) (then_gave A B) (then_gave A' B') = then_gave (join_parallel L A A') (at_join A (part A B) (then_part (part A' B')))

  pub make_parallel : {f g : Term} {e : Environment} {s : Step} {L : Life} {zs : List Data} {o : Outcome} {c : Cost} → Paired Q f g e s L zs o c → At Q (joined InParallel f g) e s L o c
  make_parallel (paired A B C D) = at_join A (part A C) (along_then B D)

  abbrev pub SplitParallel : Term → Term → Environment → Life → List Data → Type 0
  SplitParallel f g e L zs = (ys : List Data) × (ws : List Data) × Parts Q f e (with_inputs first_of L) ys × Parts Q g e (with_inputs second_of L) ws × (pairs ys ws ≡ zs)

  pub last_parallel : {f g : Term} {e : Environment} {s : Step} {L : Life} {zs : List Data} {o : Outcome} {c : Cost} → Paired Q f g e s L zs o c → (z : Data) (r : Readings) → o ≡ gave z r → SplitParallel f g e (s ∷ L) (z ∷ zs)
  last_parallel (paired {ys = ys} {zs = ws} {p = gave y r'} {q = gave z' r''} A B C (goes D)) z r h =
      (y ∷ ys, z' ∷ ws, then_gave A C, then_gave B D, ap (λ z. z ∷ pairs ys ws) (ap outcome_value h))
  last_parallel (paired {p = gave y r'} {q = faulted x} A B C D) z r h = absurd cc
  last_parallel (paired {p = faulted x} A B C D) z r h = absurd cc

  with_parallel : {f g : Term} {e : Environment} {s : Step} {L : Life} {zs : List Data} {o : Outcome} {c : Cost} → SplitParallel f g e L zs → At Q (joined InParallel f g) e s L o c → Paired Q f g e s L zs o c
  with_parallel k (at_leaf h B) = absurd (no_truth h)
  with_parallel {f} {g} {e} {s} {L} k (at_join {o = p} {o' = q} {c = c} {c' = d} A (part A' C) D) =
      let N : List Data → Type 0 = λ l. Paired Q f g e s L l (combined pair p q) (over (both_costs c d)) in
      subst N k.4 (paired k.2 k.3 C (then_along D))

  pub split_parallel : {f g : Term} {e : Environment} {L : Life} {zs : List Data} → Parts Q (joined InParallel f g) e L zs → SplitParallel f g e L zs
  split_parallel begins = ([], [], begins, begins, refl)
  split_parallel (then_gave {y = y} {r = r} A B) = last_parallel (with_parallel (split_parallel A) B) y r refl

  pub view_parallel : {f g : Term} {e : Environment} {s : Step} {L : Life} {zs : List Data} {o : Outcome} {c : Cost} → Parts Q (joined InParallel f g) e L zs → At Q (joined InParallel f g) e s L o c → Paired Q f g e s L zs o c
  view_parallel P B = with_parallel (split_parallel P) B

  -- ## `&&&`

  pub make_fan : {f g : Term} {e : Environment} {s : Step} {L : Life} {o : Outcome} {c : Cost} → Fanned Q f g e s L o c → At Q (joined FannedOut f g) e s L o c
  make_fan (fanned A B C D) = at_join A (part A C) (along_then B D)

  abbrev pub SplitFan : Term → Term → Environment → Life → Type 0
  SplitFan f g e L = (ys : List Data) × (zs : List Data) × Parts Q f e L ys × Parts Q g e L zs

  pub last_fan : {f g : Term} {e : Environment} {s : Step} {L : Life} {o : Outcome} {c : Cost} → Fanned Q f g e s L o c → (z : Data) (r : Readings) → o ≡ gave z r → SplitFan f g e (s ∷ L)
  last_fan (fanned {ys = ys} {zs = zs} {p = gave y r'} {q = gave w r''} A B C (goes D)) z r h = (y ∷ ys, w ∷ zs, then_gave A C, then_gave B D)
  last_fan (fanned {p = gave y r'} {q = faulted x} A B C D) z r h = absurd cc
  last_fan (fanned {p = faulted x} A B C D) z r h = absurd cc

  with_fan : {f g : Term} {e : Environment} {s : Step} {L : Life} {o : Outcome} {c : Cost} → SplitFan f g e L → At Q (joined FannedOut f g) e s L o c → Fanned Q f g e s L o c
  with_fan k (at_leaf h B) = absurd (no_truth h)
  with_fan k (at_join A (part A' C) D) = fanned k.2 k.3 C (then_along D)

  pub split_fan : {f g : Term} {e : Environment} {L : Life} {zs : List Data} → Parts Q (joined FannedOut f g) e L zs → SplitFan f g e L
  split_fan begins = ([], [], begins, begins)
  split_fan (then_gave {y = y} {r = r} A B) = last_fan (with_fan (split_fan A) B) y r refl

  pub view_fan : {f g : Term} {e : Environment} {s : Step} {L : Life} {zs : List Data} {o : Outcome} {c : Cost} → Parts Q (joined FannedOut f g) e L zs → At Q (joined FannedOut f g) e s L o c → Fanned Q f g e s L o c
  view_fan P B = with_fan (split_fan P) B

  -- ## `first` and `second`

  pub join_side : {a : Side} {t : Term} {e : Environment} (L : Life) {us : List Data} → Parts Q t e (with_inputs (side_of a) L) us → Parts Q (sided a t) e L (sides a L us)
  join_side [] begins = begins
  join_side (s ∷ L) (then_gave A B) = then_gave (join_side L A) (at_side (part A B))

  pub make_side : {a : Side} {t : Term} {e : Environment} {s : Step} {L : Life} {o : Outcome} {c : Cost} → Sided Q a t e s L o c → At Q (sided a t) e s L o c
  make_side (seen_side A B) = at_side (part A B)

  pub view_side : {a : Side} {t : Term} {e : Environment} {s : Step} {L : Life} {o : Outcome} {c : Cost} → At Q (sided a t) e s L o c → Sided Q a t e s L o c
  view_side (at_leaf h A) = absurd (no_truth h)
  view_side (at_side (part P A)) = seen_side P A

  abbrev pub SplitSide : Side → Term → Environment → Life → Type 0
  SplitSide a t e L = (us : List Data) × Parts Q t e (with_inputs (side_of a) L) us

  pub last_side : {a : Side} {t : Term} {e : Environment} {s : Step} {L : Life} {o : Outcome} {c : Cost} → Sided Q a t e s L o c → (z : Data) (r : Readings) → o ≡ gave z r → SplitSide a t e (s ∷ L)
  last_side (seen_side {us = us} {o = gave y r'} A B) z r h = (y ∷ us, then_gave A B)
  last_side (seen_side {o = faulted x} A B) z r h = absurd cc

  pub split_side : {a : Side} {t : Term} {e : Environment} {L : Life} {zs : List Data} → Parts Q (sided a t) e L zs → SplitSide a t e L
  split_side begins = ([], begins)
  split_side (then_gave {y = y} {r = r} A B) = last_side (view_side B) y r refl
