-- Each form is its parts, one after another.
use Rattle.std.proofs.Common.{◌≡◌, ℕ, List, [], ◌∷◌, refl, sym, ap, ◌∙◌, subst}
use Rattle.sf_value.specs.Values.{Data}
use Rattle.sf_expr.specs.Evaluation.{Evaluated, answer, eval, failed}
use Rattle.sf_term.specs.declared.form.Join.{Join}
use Rattle.sf_term.specs.declared.form.Join.TheVariants.{InSequence, InParallel, FannedOut}
use Rattle.sf_term.specs.declared.form.Heading.TheVariants.{Followed as WithFollowed}
use Rattle.sf_term.specs.Trees.{Term, whole, joined, headed, staged}
use Rattle.sf_mean.specs.Lives.{Step, step, Life, Process, closure, Environment, first_input, scope_around, relay, fed}
use Rattle.sf_mean.specs.Meaning.{Network, Readings, Outcome, gave, faulted, answered_by, newest_or, combined, outcome_value, Cost, both_costs, over, text_cost, Made, make, left_life, right_life, join_value, Gives, gives, Outputs, and_gave, Sample, of_constants, of_form, Form, of_join, of_stages, of_side, of_loop, of_initialized, of_replaced, of_followed, of_transformed, Next, goes_on, stops, and_looped}
use Rattle.sf_mean.proofs.Once.{once, onces, once_loops}
use Rattle.sf_state.specs.declared.state.Wrap.{Wrap}
use Rattle.sf_state.specs.declared.state.Wrap.TheVariants.{Followed}
use Rattle.sf_state.specs.Standing.{AreJoined, as_join, as_pipeline, Wraps, wraps_first, wraps_second, wraps_loop, wraps_initialized, wraps_replaced, wraps_transformed, wraps_followed}
use Rattle.sf_step.specs.Routing.{left_input, right_input, part_input, wrap_value, kept_after}
use Rattle.sf_step.specs.Answering.{Rel}
use Rattle.sf_step.proofs.Parts.{Single, single, Over, counted, Then, then_on, then_stop, Changed, with_change, Alike}

-- ## Joins

-- the left part's step, before its life
pub left_and : (j : Join) (d : ℕ) (x : Data) (L : Life) → step d (left_input j x) ∷ left_life j L ≡ left_life j (step d x ∷ L)
left_and InSequence d x L = refl
left_and InParallel d x L = refl
left_and FannedOut d x L = refl

-- the right part's step, before its life
pub right_and : (j : Join) (d : ℕ) (x y : Data) (L : Life) (ys : List Data) → step d (right_input j x y) ∷ right_life j L ys ≡ right_life j (step d x ∷ L) (y ∷ ys)
right_and InSequence d x y L ys = refl
right_and InParallel d x y L ys = refl
right_and FannedOut d x y L ys = refl

abbrev made_in : Made → Evaluated Made → Made
made_in m (answer n) = n
made_in m (failed x) = m

module _ (n : Network) where
  pub single_gives : (P : Process) (L : Life) → Single (Gives n P L)
  single_gives P L = single (λ a b j k G H. once n G H)

  -- a process that gave a value gives it among its outputs
  pub gave_outputs : {P : Process} {s : Step} {L : Life} {ys : List Data} {y : Data} {r : Readings} {c : Cost} → Outputs n P L ys → Gives n P (s ∷ L) (gave y r) c → Outputs n P (s ∷ L) (y ∷ ys)
  gave_outputs O (gives O' S) = and_gave O S

  -- ## A form, made with its constants

  sample_form : {t : Term} {e : Environment} {m : Made} (s : Step) (L : Life) {o : Outcome} {k : Cost} → make n t e (first_input s L) ≡ answer m → Sample n (closure t e) s L o k → Form n t e m s L o k
  sample_form s L h (of_constants h') = absurd cc
  sample_form {t} {e} {m} s L {o} {k} h (of_form h' F) = subst (λ (m : Made). Form n t e m s L o k) (ap (made_in m) (sym h' ∙ h)) F

  pub gives_form : {t : Term} {e : Environment} {m : Made} (s : Step) (L : Life) {o : Outcome} {k : Cost} → make n t e (first_input s L) ≡ answer m → Gives n (closure t e) (s ∷ L) o k → Form n t e m s L o k
  gives_form s L h (gives O S) = sample_form s L h S

  pub form_alike : {t : Term} {e : Environment} {m : Made} (s : Step) (L : Life) {ys : List Data} → make n t e (first_input s L) ≡ answer m → Outputs n (closure t e) L ys → Alike (Form n t e m s L) (Gives n (closure t e) (s ∷ L))
  form_alike s L h O = record { to = λ o k F. gives O (of_form h F); back = λ o k G. gives_form s L h G }

  -- a join is its parts
  abbrev pub JoinRel : Join → Term → Term → Environment → Step → Life → List Data → Rel
  JoinRel j f g e s L ys = Over (Then (Gives n (closure f e) (left_life j (s ∷ L))) (join_value j) (text_cost g) (λ y. Gives n (closure g e) (right_life j (s ∷ L) (y ∷ ys))))

  module _ (j : Join) (f g : Term) (e : Environment) (m : Made) (s : Step) (L : Life) (ys : List Data) (O : Outputs n (closure f e) (left_life j L) ys) where
    next_then : (q : Outcome) {o : Outcome} {k l : Cost} → Gives n (closure f e) (left_life j (s ∷ L)) q k → Next n q g e (right_life j (s ∷ L) (outcome_value q ∷ ys)) o l
        → Then (Gives n (closure f e) (left_life j (s ∷ L))) (join_value j) (text_cost g) (λ y. Gives n (closure g e) (right_life j (s ∷ L) (y ∷ ys))) (combined (join_value j) q o) (both_costs k l)
    next_then (gave y r) G (goes_on H) = then_on G H
    next_then (faulted x) G stops = then_stop G

    join_back : (o : Outcome) (k : Cost) → Form n (joined j f g) e m s L o k → JoinRel j f g e s L ys o k
    join_back o k (of_join {ys = zs} {o = q} {o' = q'} {c' = l} O' G N) =
        counted (next_then q G (subst (λ (ys : List Data). Next n q g e (right_life j (s ∷ L) (outcome_value q ∷ ys)) q' l) (onces n O' O) N))

  stages_back : (f g : Term) (e : Environment) (m : Made) (s : Step) (L : Life) (ys : List Data) → Outputs n (closure f e) L ys
      → (o : Outcome) (k : Cost) → Form n (staged whole f g) e m s L o k → JoinRel InSequence f g e s L ys o k
  stages_back f g e m s L ys O o k (of_stages {ys = zs} {o = q} {o' = q'} {c' = l} O' G N) =
      counted (next_then InSequence f g e m s L ys O q G (subst (λ (ys : List Data). Next n q g e (relay (s ∷ L) (outcome_value q ∷ ys)) q' l) (onces n O' O) N))

  join_to : {j : Join} {f g t : Term} (e : Environment) (m : Made) (s : Step) (L : Life) (ys : List Data) → AreJoined j f g t → Outputs n (closure f e) (left_life j L) ys
      → (o : Outcome) (k : Cost) → JoinRel j f g e s L ys o k → Form n t e m s L o k
  join_to e m s L ys as_join O o k (counted (then_on G H)) = of_join O G (goes_on H)
  join_to e m s L ys as_join O o k (counted (then_stop G)) = of_join O G stops
  join_to e m s L ys as_pipeline O o k (counted (then_on G H)) = of_stages O G (goes_on H)
  join_to e m s L ys as_pipeline O o k (counted (then_stop G)) = of_stages O G stops

  joined_back : {j : Join} {f g t : Term} (e : Environment) (m : Made) (s : Step) (L : Life) (ys : List Data) → AreJoined j f g t → Outputs n (closure f e) (left_life j L) ys
      → (o : Outcome) (k : Cost) → Form n t e m s L o k → JoinRel j f g e s L ys o k
  joined_back e m s L ys (as_join {j = j} {f = f} {g = g}) O o k F = join_back j f g e m s L ys O o k F
  joined_back e m s L ys (as_pipeline {f = f} {g = g}) O o k F = stages_back f g e m s L ys O o k F

  -- two terms that go by a join are its parts
  pub join_alike : {j : Join} {f g t : Term} (e : Environment) (m : Made) (s : Step) (L : Life) (ys : List Data) → AreJoined j f g t → Outputs n (closure f e) (left_life j L) ys
      → Alike (JoinRel j f g e s L ys) (Form n t e m s L)
  join_alike e m s L ys J O = record { to = join_to e m s L ys J O; back = joined_back e m s L ys J O }

  -- ## Forms with one part

  -- a form with one part is its part, with what is made of its value
  abbrev pub WrapRel : Wrap → Term → Environment → ℕ → Data → Life → Rel
  WrapRel w u e d x K = Over (Changed (wrap_value w x) (Gives n (closure u e) (step d (part_input w x) ∷ K)))

  wrap_to : {w : Wrap} {t u : Term} {e : Environment} {m : Made} {L K : Life} (d : ℕ) (x : Data) → Wraps n w t e m L u K
      → (o : Outcome) (k : Cost) → WrapRel w u e d x K o k → Form n t e m (step d x) L o k
  wrap_to d x wraps_first o k (counted (with_change {o = gave y r} G)) = of_side G
  wrap_to d x wraps_first o k (counted (with_change {o = faulted f} G)) = of_side G
  wrap_to d x wraps_second o k (counted (with_change {o = gave y r} G)) = of_side G
  wrap_to d x wraps_second o k (counted (with_change {o = faulted f} G)) = of_side G
  wrap_to d x (wraps_loop O) o k (counted (with_change {o = gave y r} G)) = of_loop O G
  wrap_to d x (wraps_loop O) o k (counted (with_change {o = faulted f} G)) = of_loop O G
  wrap_to {L = []} d x wraps_initialized o k (counted (with_change {o = gave y r} G)) = of_initialized G
  wrap_to {L = []} d x wraps_initialized o k (counted (with_change {o = faulted f} G)) = of_initialized G
  wrap_to {L = s ∷ L} d x wraps_initialized o k (counted (with_change {o = gave y r} G)) = of_initialized G
  wrap_to {L = s ∷ L} d x wraps_initialized o k (counted (with_change {o = faulted f} G)) = of_initialized G
  wrap_to {L = []} d x wraps_replaced o k (counted (with_change {o = gave y r} G)) = of_replaced G
  wrap_to {L = []} d x wraps_replaced o k (counted (with_change {o = faulted f} G)) = of_replaced G
  wrap_to {L = s ∷ L} d x wraps_replaced o k (counted (with_change {o = gave y r} G)) = of_replaced G
  wrap_to {L = s ∷ L} d x wraps_replaced o k (counted (with_change {o = faulted f} G)) = of_replaced G
  wrap_to {L = []} d x wraps_transformed o k (counted (with_change {o = gave y r} G)) = of_transformed G
  wrap_to {L = []} d x wraps_transformed o k (counted (with_change {o = faulted f} G)) = of_transformed G
  wrap_to {L = s ∷ L} d x wraps_transformed o k (counted (with_change {o = gave y r} G)) = of_transformed G
  wrap_to {L = s ∷ L} d x wraps_transformed o k (counted (with_change {o = faulted f} G)) = of_transformed G
  wrap_to d x (wraps_followed {i = i} {t = t} {e = e} {m = m} {L = L} O is) o k (counted (with_change {o = q} {k = c} G)) =
      subst (λ (a : Evaluated Data). Form n (headed WithFollowed i t) e m (step d x) L (answered_by a q) (over c)) is (of_followed O G)

  wrap_back : {w : Wrap} {t u : Term} {e : Environment} {m : Made} {L K : Life} (d : ℕ) (x : Data) → Wraps n w t e m L u K
      → (o : Outcome) (k : Cost) → Form n t e m (step d x) L o k → WrapRel w u e d x K o k
  wrap_back d x wraps_first o k (of_side {o = gave y r} G) = counted (with_change {o = gave y r} G)
  wrap_back d x wraps_first o k (of_side {o = faulted f} G) = counted (with_change {o = faulted f} G)
  wrap_back d x wraps_second o k (of_side {o = gave y r} G) = counted (with_change {o = gave y r} G)
  wrap_back d x wraps_second o k (of_side {o = faulted f} G) = counted (with_change {o = faulted f} G)
  wrap_back d x (wraps_loop {t = t} {e = e} {v = v} {L = L} O) o k (of_loop {o = gave y r} {c = c} O' G) =
      counted (with_change {o = gave y r} (subst (λ (zs : List Data). Gives n (closure t e) (fed v (step d x ∷ L) zs) (gave y r) c) (once_loops n O' O) G))
  wrap_back d x (wraps_loop {t = t} {e = e} {v = v} {L = L} O) o k (of_loop {o = faulted f} {c = c} O' G) =
      counted (with_change {o = faulted f} (subst (λ (zs : List Data). Gives n (closure t e) (fed v (step d x ∷ L) zs) (faulted f) c) (once_loops n O' O) G))
  wrap_back {L = []} d x wraps_initialized o k (of_initialized {o = gave y r} G) = counted (with_change {o = gave y r} G)
  wrap_back {L = []} d x wraps_initialized o k (of_initialized {o = faulted f} G) = counted (with_change {o = faulted f} G)
  wrap_back {L = s ∷ L} d x wraps_initialized o k (of_initialized {o = gave y r} G) = counted (with_change {o = gave y r} G)
  wrap_back {L = s ∷ L} d x wraps_initialized o k (of_initialized {o = faulted f} G) = counted (with_change {o = faulted f} G)
  wrap_back {L = []} d x wraps_replaced (gave y r) k (of_replaced G) = counted (with_change {o = gave y r} G)
  wrap_back {L = []} d x wraps_replaced (faulted f) k (of_replaced G) = counted (with_change {o = faulted f} G)
  wrap_back {L = s ∷ L} d x wraps_replaced (gave y r) k (of_replaced G) = counted (with_change {o = gave y r} G)
  wrap_back {L = s ∷ L} d x wraps_replaced (faulted f) k (of_replaced G) = counted (with_change {o = faulted f} G)
  wrap_back {L = []} d x wraps_transformed (gave y r) k (of_transformed G) = counted (with_change {o = gave y r} G)
  wrap_back {L = []} d x wraps_transformed (faulted f) k (of_transformed G) = counted (with_change {o = faulted f} G)
  wrap_back {L = s ∷ L} d x wraps_transformed (gave y r) k (of_transformed G) = counted (with_change {o = gave y r} G)
  wrap_back {L = s ∷ L} d x wraps_transformed (faulted f) k (of_transformed G) = counted (with_change {o = faulted f} G)
  wrap_back d x (wraps_followed {i = i} {t = t} {e = e} {L = L} {last = last} O is) o k (of_followed {o = q} {c = c} O' G) =
      subst (λ (a : Evaluated Data). WrapRel (Followed last) t e d x L (answered_by a q) (over c)) (sym is ∙ ap (newest_or (eval i (scope_around n.functions e))) (sym (onces n O' O))) (counted (with_change {o = q} G))

  pub wrap_alike : {w : Wrap} {t u : Term} {e : Environment} {m : Made} {L K : Life} (d : ℕ) (x : Data) → Wraps n w t e m L u K
      → Alike (WrapRel w u e d x K) (Form n t e m (step d x) L)
  wrap_alike d x W = record { to = wrap_to d x W; back = wrap_back d x W }

  -- what is kept after a value
  pub wraps_on : {w : Wrap} {t u : Term} {e : Environment} {m : Made} {L K : Life} (d : ℕ) (x : Data) {y : Data} {r : Readings} {c : Cost} → Wraps n w t e m L u K
      → Gives n (closure u e) (step d (part_input w x) ∷ K) (gave y r) c → Wraps n (kept_after w y) t e m (step d x ∷ L) u (step d (part_input w x) ∷ K)
  wraps_on d x wraps_first G = wraps_first
  wraps_on d x wraps_second G = wraps_second
  wraps_on d x (wraps_loop O) G = wraps_loop (and_looped O G)
  wraps_on d x wraps_initialized G = wraps_initialized
  wraps_on {L = []} d x wraps_replaced G = wraps_replaced
  wraps_on {L = s ∷ L} d x wraps_replaced G = wraps_replaced
  wraps_on {L = []} d x wraps_transformed G = wraps_transformed
  wraps_on {L = s ∷ L} d x wraps_transformed G = wraps_transformed
  wraps_on d x (wraps_followed O is) G = wraps_followed (gave_outputs O G) refl
