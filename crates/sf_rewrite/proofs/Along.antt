-- A step of one term made into a step of another: over whole lives, in parts, and one after another.
use Rattle.std.proofs.Common.{Bool, List, [], refl, Option}
use Rattle.sf_value.specs.Values.{Data}
use Rattle.sf_expr.specs.Expressions.{Pattern, Expression, Function}
use Rattle.sf_term.specs.declared.form.Join.{Join}
use Rattle.sf_term.specs.declared.form.Join.TheVariants.{InParallel, FannedOut}
use Rattle.sf_term.specs.declared.form.Side.{Side}
use Rattle.sf_term.specs.declared.form.Heading.{Heading}
use Rattle.sf_term.specs.declared.form.Observation.{Observation}
use Rattle.sf_term.specs.declared.form.Switching.{Switching}
use Rattle.sf_term.specs.Trees.{Extent, Term, joined, sided, headed, transformed, switching, staged}
use Rattle.sf_mean.specs.Lives.{Step, Life, Environment, with_inputs, relay}
use Rattle.sf_mean.specs.Formulas.{side_of}
use Rattle.sf_mean.specs.Meaning.{Outcome, Cost, text_cost}
use Rattle.sf_value.specs.Values.{first_of, second_of}
use Rattle.sf_rewrite.proofs.Parts.{Leaves, Stand, Part, part, Parts, begins, then_gave, At, at_leaf, at_join, at_stages, at_side, at_loop, at_initialized, at_replaced, at_followed, at_constant, at_transformed, at_function, at_switch, at_recurring, Then, then_part, then_stops, Rounds, no_round, one_round, Watches, watch_begins, then_watched, fired_before, Turns, turn_waits, turn_body, Switches, switch_stops, switch_goes, Runs, runs_first, runs_body, Bodies, no_body, body_begins, no_truth, OneLeaf}
use Rattle.sf_rewrite.proofs.Views.{Chained, Paired, Fanned, Sided, SplitStages, SplitFan, SplitSide, pairs, last_stages, make_stages, last_parallel, make_parallel, last_fan, make_fan, last_side, make_side}
use Rattle.sf_rewrite.proofs.Lowered.{Below, Lowered, lowered, below_same, below_trans, below_over, below_both, below_stages}

module _ (Q : Leaves) (one : OneLeaf Q) where
  -- each step of one term is a step of another
  abbrev pub Sound : Bool → Term → Term → Type 0
  Sound d t u = (e : Environment) (s : Step) (L : Life) (ys : List Data) (o : Outcome) (c : Cost) → Parts Q t e L ys → At Q t e s L o c → Lowered d (At Q u e s L o) c

  pub parts_along : {d : Bool} {t u : Term} → Sound d t u → {e : Environment} {L : Life} {ys : List Data} → Parts Q t e L ys → Parts Q u e L ys
  parts_along S begins = begins
  parts_along S (then_gave A B) = elim (S _ _ _ _ _ _ A B) [ lowered B' h ↦ then_gave (parts_along S A) B' ]

  part_along : {d : Bool} {t u : Term} → Sound d t u → {e : Environment} {L : Life} {o : Outcome} {c : Cost} → Part Q t e L o c → Lowered d (Part Q u e L o) c
  part_along S (part A B) = elim (S _ _ _ _ _ _ A B) [ lowered B' h ↦ lowered (part (parts_along S A) B') h ]

  then_along : {d : Bool} {t u : Term} → Sound d t u → Below d (text_cost t) (text_cost u) → {e : Environment} {L : Life} {p o : Outcome} {c : Cost} → Then Q p t e L o c → Lowered d (Then Q p u e L o) c
  then_along S b (then_part A) = elim (part_along S A) [ lowered A' h ↦ lowered (then_part A') h ]
  then_along S b then_stops = lowered then_stops b

  rounds_along : {d : Bool} {t u : Term} → Sound d t u → {v : Data} {e : Environment} {L : Life} {ys : List Data} → Rounds Q v t e L ys → Rounds Q v u e L ys
  rounds_along S no_round = no_round
  rounds_along S (one_round A B) = elim (part_along S B) [ lowered B' h ↦ one_round (rounds_along S A) B' ]

  watches_along : {d : Bool} {t u : Term} → Sound d t u → {e : Environment} {L : Life} {st : Stand} → Watches Q t e L st → Watches Q u e L st
  watches_along S watch_begins = watch_begins
  watches_along S (then_watched A B h) = elim (part_along S B) [ lowered B' k ↦ then_watched (watches_along S A) B' h ]
  watches_along S (fired_before A) = fired_before (watches_along S A)

  bodies_along : {d : Bool} {u u' : Term} → Sound d u u' → {w : Observation} {p : Pattern} {e : Environment} {s : Step} {o : Outcome} {q : Option Data} {o' : Outcome} {c : Cost} → Bodies Q w p u e s o q o' c → Lowered d (Bodies Q w p u' e s o q o') c
  bodies_along {d = d} T no_body = lowered no_body (below_same d _)
  bodies_along T (body_begins A) = elim (part_along T A) [ lowered A' h ↦ lowered (body_begins A') h ]

  switches_along : {d : Bool} {u u' : Term} → Sound d u u' → {w : Observation} {p : Pattern} {e : Environment} {s : Step} {o o' : Outcome} {c : Cost} → Switches Q w p u e s o o' c → Lowered d (Switches Q w p u' e s o o') c
  switches_along {d = d} T switch_stops = lowered switch_stops (below_same d _)
  switches_along T (switch_goes A) = elim (bodies_along T A) [ lowered A' h ↦ lowered (switch_goes A') h ]

  turns_along : {d : Bool} {t t' u u' : Term} → Sound d t t' → Sound d u u' → {w : Observation} {p : Pattern} {e : Environment} {s : Step} {L : Life} {st : Stand} {o : Outcome} {c : Cost} → Turns Q w t p u e s L st o c → Lowered d (Turns Q w t' p u' e s L st o) c
  turns_along S T (turn_waits A B) = elim (part_along S A) [ lowered A' h ↦ elim (switches_along T B) [ lowered B' k ↦ lowered (turn_waits A' B') (below_over _ _ (below_both _ _ _ _ h k)) ] ]
  turns_along S T (turn_body A) = elim (part_along T A) [ lowered A' h ↦ lowered (turn_body A') h ]

  runs_along : {d : Bool} {t t' u u' : Term} → Sound d t t' → Sound d u u' → {p : Pattern} {e : Environment} {q : Option Data} {L : Life} {o : Outcome} {c : Cost} → Runs Q t p u e q L o c → Lowered d (Runs Q t' p u' e q L o) c
  runs_along S T (runs_first A) = elim (part_along S A) [ lowered A' h ↦ lowered (runs_first A') h ]
  runs_along S T (runs_body A) = elim (part_along T A) [ lowered A' h ↦ lowered (runs_body A') h ]

  -- ## In parts

  pub sound_join : {d : Bool} {j : Join} {f f' g g' : Term} → Sound d f f' → Sound d g g' → Below d (text_cost g) (text_cost g') → Sound d (joined j f g) (joined j f' g')
  sound_join S T b e s L ys o c P (at_leaf h B) = absurd (no_truth h)
  sound_join S T b e s L ys o c P (at_join A B C) =
      elim (part_along S B) [
        | lowered B' h ↦ elim (then_along T b C) [
          | lowered C' k ↦
              lowered (at_join (parts_along S A) B' C') (below_over _ _ (below_both _ _ _ _ h k))
        ]
      ]

  pub sound_stages : {d : Bool} {x : Extent} {f f' g g' : Term} → Sound d f f' → Sound d g g' → Below d (text_cost g) (text_cost g') → Sound d (staged x f g) (staged x f' g')
  sound_stages S T b e s L ys o c P (at_leaf h B) = absurd (no_truth h)
  sound_stages {x = x} S T b e s L ys o c P (at_stages A B C) =
      elim (part_along S B) [
        | lowered B' h ↦ elim (then_along T b C) [
          | lowered C' k ↦
              lowered (at_stages (parts_along S A) B' C') (below_stages x _ _ (below_both _ _ _ _ h k))
        ]
      ]

  pub sound_side : {d : Bool} {a : Side} {t t' : Term} → Sound d t t' → Sound d (sided a t) (sided a t')
  sound_side S e s L ys o c P (at_leaf h B) = absurd (no_truth h)
  sound_side S e s L ys o c P (at_side A) = elim (part_along S A) [ lowered A' h ↦ lowered (at_side A') (below_over _ _ h) ]

  pub sound_heading : {d : Bool} {h : Heading} {i : Expression} {t t' : Term} → Sound d t t' → Below d (text_cost t) (text_cost t') → Sound d (headed h i t) (headed h i t')
  sound_heading S b e s L ys o c P (at_leaf h B) = absurd (no_truth h)
  sound_heading S b e s L ys o c P (at_loop h A B) = elim (part_along S B) [ lowered B' k ↦ lowered (at_loop h (rounds_along S A) B') (below_over _ _ k) ]
  sound_heading S b e s L ys o c P (at_initialized h A) = elim (part_along S A) [ lowered A' k ↦ lowered (at_initialized h A') (below_over _ _ k) ]
  sound_heading S b e s L ys o c P (at_replaced h A) = elim (part_along S A) [ lowered A' k ↦ lowered (at_replaced h A') (below_over _ _ k) ]
  sound_heading S b e s L ys o c P (at_followed A B) = elim (part_along S B) [ lowered B' k ↦ lowered (at_followed (parts_along S A) B') (below_over _ _ k) ]
  sound_heading S b e s L ys o c P (at_constant z h) = lowered (at_constant z h) (below_over _ _ b)

  pub sound_transformed : {d : Bool} {f : Function} {t t' : Term} → Sound d t t' → Below d (text_cost t) (text_cost t') → Sound d (transformed f t) (transformed f t')
  sound_transformed S b e s L ys o c P (at_leaf h B) = absurd (no_truth h)
  sound_transformed S b e s L ys o c P (at_transformed h A) = elim (part_along S A) [ lowered A' k ↦ lowered (at_transformed h A') (below_over _ _ k) ]
  sound_transformed S b e s L ys o c P (at_function h) = lowered (at_function h) (below_over _ _ b)

  pub sound_switch : {d : Bool} {w : Switching} {t t' u u' : Term} {p : Pattern} → Sound d t t' → Sound d u u' → Sound d (switching w t p u) (switching w t' p u')
  sound_switch S T e s L ys o c P (at_leaf h B) = absurd (no_truth h)
  sound_switch S T e s L ys o c P (at_switch A B) = elim (turns_along S T B) [ lowered B' h ↦ lowered (at_switch (watches_along S A) B') h ]
  sound_switch S T e s L ys o c P (at_recurring A B) =
      elim (runs_along S T A) [ lowered A' h ↦ elim (bodies_along T B) [ lowered B' k ↦ lowered (at_recurring A' B') (below_over _ _ (below_both _ _ _ _ h k)) ] ]

  pub sound_turn : {d : Bool} {t u v : Term} → Sound d t u → Sound d u v → Sound d t v
  sound_turn S T e s L ys o c P A =
      elim (S e s L ys o c P A) [ lowered B h ↦ elim (T e s L ys o _ (parts_along S P) B) [ lowered C k ↦ lowered C (below_trans h k) ] ]

  pub sound_unchanged : {d : Bool} {t : Term} → Sound d t t
  sound_unchanged {d = d} e s L ys o c P A = lowered A (below_same d c)

  -- ## A term's steps made into those of a form, whose parts are found over the whole life

  abbrev pub RebuildsStages : Bool → Extent → Term → Term → Term → Type 0
  RebuildsStages d x u f g = (e : Environment) (s : Step) (L : Life) (ys zs : List Data) (o : Outcome) (c : Cost)
      → Parts Q f e L ys → Parts Q g e (relay L ys) zs → Parts Q u e L zs → At Q u e s L o c → Lowered d (Chained Q x f g e s L zs o) c

  resplit_stages : {d : Bool} {x : Extent} {u f g : Term} → RebuildsStages d x u f g → {e : Environment} {L : Life} {zs : List Data} → Parts Q u e L zs → SplitStages Q one f g e L zs
  resplit_stages R begins = ([], begins, begins)
  resplit_stages R (then_gave {y = z} {r = r} P B) =
      let k = resplit_stages R P in
      elim (R _ _ _ _ _ _ _ k.1 k.2 P B) [ lowered C h ↦ last_stages Q one C z r refl ]

  pub rebuilt_stages : {d : Bool} {x : Extent} {u f g : Term} → RebuildsStages d x u f g → Sound d u (staged x f g)
  rebuilt_stages R e s L zs o c P B =
      let k = resplit_stages R P in
      elim (R _ _ _ _ _ _ _ k.1 k.2 P B) [ lowered C h ↦ lowered (make_stages Q one C) h ]

  abbrev pub RebuildsParallel : Bool → Term → Term → Term → Type 0
  RebuildsParallel d u f g = (e : Environment) (s : Step) (L : Life) (ys zs : List Data) (o : Outcome) (c : Cost)
      → Parts Q f e (with_inputs first_of L) ys → Parts Q g e (with_inputs second_of L) zs → At Q u e s L o c → Lowered d (Paired Q f g e s L (pairs ys zs) o) c

  abbrev SplitBoth : Term → Term → Environment → Life → Type 0
  SplitBoth f g e L = (ys : List Data) × (zs : List Data) × Parts Q f e (with_inputs first_of L) ys × Parts Q g e (with_inputs second_of L) zs

  resplit_parallel : {d : Bool} {u f g : Term} → RebuildsParallel d u f g → {e : Environment} {L : Life} {ws : List Data} → Parts Q u e L ws → SplitBoth f g e L
  resplit_parallel R begins = ([], [], begins, begins)
  resplit_parallel R (then_gave {y = z} {r = r} P B) =
      let k = resplit_parallel R P in
      elim (R _ _ _ _ _ _ _ k.2 k.3 B) [ lowered C h ↦ let l = last_parallel Q one C z r refl in (l.0, l.1, l.2, l.3) ]

  pub rebuilt_parallel : {d : Bool} {u f g : Term} → RebuildsParallel d u f g → Sound d u (joined InParallel f g)
  rebuilt_parallel R e s L zs o c P B =
      let k = resplit_parallel R P in
      elim (R _ _ _ _ _ _ _ k.2 k.3 B) [ lowered C h ↦ lowered (make_parallel Q one C) h ]

  abbrev pub RebuildsFan : Bool → Term → Term → Term → Type 0
  RebuildsFan d u f g = (e : Environment) (s : Step) (L : Life) (ys zs : List Data) (o : Outcome) (c : Cost)
      → Parts Q f e L ys → Parts Q g e L zs → At Q u e s L o c → Lowered d (Fanned Q f g e s L o) c

  resplit_fan : {d : Bool} {u f g : Term} → RebuildsFan d u f g → {e : Environment} {L : Life} {ws : List Data} → Parts Q u e L ws → SplitFan Q one f g e L
  resplit_fan R begins = ([], [], begins, begins)
  resplit_fan R (then_gave {y = z} {r = r} P B) =
      let k = resplit_fan R P in
      elim (R _ _ _ _ _ _ _ k.2 k.3 B) [ lowered C h ↦ last_fan Q one C z r refl ]

  pub rebuilt_fan : {d : Bool} {u f g : Term} → RebuildsFan d u f g → Sound d u (joined FannedOut f g)
  rebuilt_fan R e s L zs o c P B =
      let k = resplit_fan R P in
      elim (R _ _ _ _ _ _ _ k.2 k.3 B) [ lowered C h ↦ lowered (make_fan Q one C) h ]

  abbrev pub RebuildsSide : Bool → Side → Term → Term → Type 0
  RebuildsSide d a u t = (e : Environment) (s : Step) (L : Life) (us : List Data) (o : Outcome) (c : Cost)
      → Parts Q t e (with_inputs (side_of a) L) us → At Q u e s L o c → Lowered d (Sided Q a t e s L o) c

  resplit_side : {d : Bool} {a : Side} {u t : Term} → RebuildsSide d a u t → {e : Environment} {L : Life} {ws : List Data} → Parts Q u e L ws → SplitSide Q one a t e L
  resplit_side R begins = ([], begins)
  resplit_side R (then_gave {y = z} {r = r} P B) =
      let k = resplit_side R P in
      elim (R _ _ _ _ _ _ k.1 B) [ lowered C h ↦ last_side Q one C z r refl ]

  pub rebuilt_side : {d : Bool} {a : Side} {u t : Term} → RebuildsSide d a u t → Sound d u (sided a t)
  rebuilt_side R e s L zs o c P B =
      let k = resplit_side R P in
      elim (R _ _ _ _ _ _ k.1 B) [ lowered C h ↦ lowered (make_side Q one C) h ]
