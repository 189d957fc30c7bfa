-- What the meter counts for a part, and that it is no more than what any outcome costs.
use Rattle.std.proofs.Common.{◌≡◌, ℕ, ◌≤◌, [], ◌∷◌, ◌++◌, Err, sym, ap, ◌∙◌, subst, arith}
use Rattle.std.proofs.lemmas.List.{append-nil}
use Rattle.sf_value.specs.Values.{Data}
use Rattle.sf_value.specs.declared.fault.Fault.{Fault}
use Rattle.sf_value.specs.declared.fault.Fault.TheVariants.{Memory}
use Rattle.sf_term.specs.declared.form.Observation.{Observation}
use Rattle.sf_term.specs.Trees.{Extent, whole, rest, Term, primitive, reference, joined, sided, headed, transformed, switching, continuing, staged, gathered, releasing, editing}
use Rattle.sf_mean.specs.Lives.{Step, step, Life, Process, closure, Environment}
use Rattle.sf_mean.specs.Meaning.{Network, Readings, Outcome, Cost, count, height, no_cost, both_costs, over, over_first, over_stages, text_cost, entered_cost, Made, Gives, gives, Sample, of_constants, of_form, of_resumed, Form, of_primitive, of_join, of_side, of_loop, of_initialized, of_replaced, of_followed, of_transformed, of_reference, of_switch, of_continuing, of_recurring, of_stages, Watched, Takeover, Standing, SwitchTurn, while_waiting, as_body, of_gathered, of_releasing, of_editing}
use Rattle.sf_state.specs.declared.state.State.{State}
use Rattle.sf_state.specs.Machine.{Machine, machine_network}
use Rattle.sf_meter.specs.declared.meter.Meter.{Meter}
use Rattle.sf_meter.specs.Meters.{entered_of, meter_height, readings, Ticks}
use Rattle.sf_step.specs.Answering.{Rel, Spent, AtMost, Within, StopsFor, faults, memory, Answers, fails}
use Rattle.sf_begin.specs.Beginning.{Opens, opens_with_fault, opens_without_memory, BeginsAs, begins_not}

-- a term that steps no other
pub one_spent : {m n : Meter} {depth inside : ℕ} → Ticks m n depth inside → Spent m n depth (over no_cost) []
one_spent {m = m} t = record { entered = let a = t.entered in omega arith; high = let a = t.high in let c = t.below in omega arith; recorded = t.recorded ∙ sym (append-nil (readings m)) }

-- one that records something
pub probe_spent : {m n n' : Meter} {depth inside : ℕ} {r : Readings} → Ticks m n depth inside → entered_of n' ≡ entered_of n → meter_height n' ≡ meter_height n → readings n' ≡ readings n ++ r → Spent m n' depth (over no_cost) r
probe_spent {r = r} t en hn rn = record { entered = let a = t.entered in omega arith; high = let a = t.high in let c = t.below in omega arith; recorded = rn ∙ ap (λ l. l ++ r) t.recorded }

-- where memory runs out
pub memory_exit : {B : Type 0} {view : B → Data} {after : B → Type 0} {R : Rel} {m n : Meter} {depth : ℕ} {f : Fault} → f ≡ Memory → Within R m n depth → Answers view after R (Err f) m n depth
memory_exit {B = B} {view = view} {after = after} {R = R} {m = m} {n = n} {depth = depth} e w = subst (λ (f : Fault). Answers view after R (Err f) m n depth) (sym e) (fails (memory w))

module _ (n : Network) where
  -- ## Each outcome costs a term

  stages_count : (x : Extent) (a b : Cost) → (1 ≤ count a) × (1 ≤ height a) → (1 ≤ count (over_stages x (both_costs a b))) × (1 ≤ height (over_stages x (both_costs a b)))
  stages_count whole a b h = (omega arith, omega arith)
  stages_count rest a b h = (omega (arith, h.0), omega (arith, h.1))

  first_counts : (L : Life) (c : Cost) → (1 ≤ count c) × (1 ≤ height c) → (1 ≤ count (over_first L c)) × (1 ≤ height (over_first L c))
  first_counts [] c h = (omega arith, omega arith)
  first_counts (s ∷ L) c h = h

  text_counts : (t : Term) → (1 ≤ count (text_cost t)) × (1 ≤ height (text_cost t))
  text_counts (primitive p) = (omega arith, omega arith)
  text_counts (reference r) = (omega arith, omega arith)
  text_counts (joined j f g) = (omega arith, omega arith)
  text_counts (sided d t) = (omega arith, omega arith)
  text_counts (headed h i t) = (omega arith, omega arith)
  text_counts (transformed f t) = (omega arith, omega arith)
  text_counts (switching w t q u) = (omega arith, omega arith)
  text_counts (continuing w t r k q u) = (omega arith, omega arith)
  text_counts (gathered i) = (omega arith, omega arith)
  text_counts (releasing w i r k q u) = (omega arith, omega arith)
  text_counts (editing w i k q u) = (omega arith, omega arith)
  text_counts (staged x f g) = stages_count x (text_cost f) (text_cost g) (text_counts f)

  entered_counts : (t : Term) → (1 ≤ count (entered_cost t)) × (1 ≤ height (entered_cost t))
  entered_counts (primitive p) = text_counts (primitive p)
  entered_counts (reference r) = (omega arith, omega arith)
  entered_counts (joined j f g) = text_counts (joined j f g)
  entered_counts (sided d t) = text_counts (sided d t)
  entered_counts (headed h i t) = text_counts (headed h i t)
  entered_counts (transformed f t) = text_counts (transformed f t)
  entered_counts (switching w t q u) = text_counts (switching w t q u)
  entered_counts (continuing w t r k q u) = text_counts (continuing w t r k q u)
  entered_counts (gathered i) = (omega arith, omega arith)
  entered_counts (releasing w i r k q u) = (omega arith, omega arith)
  entered_counts (editing w i k q u) = (omega arith, omega arith)
  entered_counts (staged x f g) = text_counts (staged x f g)

  mutual
    form_counts : {t : Term} {e : Environment} {m : Made} {s : Step} {L : Life} {o : Outcome} {k : Cost} → Form n t e m s L o k → (1 ≤ count k) × (1 ≤ height k)
    form_counts (of_primitive h) = (omega arith, omega arith)
    form_counts (of_reference {L = L} {c = c} G) = first_counts L c (counts G)
    form_counts (of_join O G N) = (omega arith, omega arith)
    form_counts (of_side G) = (omega arith, omega arith)
    form_counts (of_loop O G) = (omega arith, omega arith)
    form_counts (of_initialized G) = (omega arith, omega arith)
    form_counts (of_replaced G) = (omega arith, omega arith)
    form_counts (of_followed O G) = (omega arith, omega arith)
    form_counts (of_transformed G) = (omega arith, omega arith)
    form_counts (of_switch S T) = turn_counts T
    form_counts (of_continuing S T) = turn_counts T
    form_counts (of_recurring G F) = (omega arith, omega arith)
    form_counts (of_gathered E) = (omega arith, omega arith)
    form_counts (of_releasing S T) = turn_counts T
    form_counts (of_editing R E D) = (omega arith, omega arith)
    form_counts (of_stages {x = x} {c = c} {c' = c'} O G N) = stages_count x c c' (counts G)

    turn_counts : {w : Observation} {W : Watched} {B : Takeover} {s : Step} {L : Life} {st : Standing} {o : Outcome} {k : Cost} → SwitchTurn n w W B s L st o k → (1 ≤ count k) × (1 ≤ height k)
    turn_counts (while_waiting G C) = (omega arith, omega arith)
    turn_counts (as_body G) = counts G

    sample_counts : {P : Process} {s : Step} {L : Life} {o : Outcome} {k : Cost} → Sample n P s L o k → (1 ≤ count k) × (1 ≤ height k)
    sample_counts (of_constants {t = t} h) = entered_counts t
    sample_counts (of_form h F) = form_counts F
    sample_counts (of_resumed G) = counts G

    pub counts : {P : Process} {L : Life} {o : Outcome} {k : Cost} → Gives n P L o k → (1 ≤ count k) × (1 ≤ height k)
    counts (gives O S) = sample_counts S

module _ (μ : Machine) where
  abbrev net : Network
  net = machine_network μ

  -- a counted node counts at most what it costs
  pub ticked_within : {m n n' : Meter} {depth inside : ℕ} {P : Process} {L : Life} → Ticks m n depth inside → entered_of n' ≡ entered_of n → meter_height n' ≡ meter_height n → Within (Gives net P L) m n' depth
  ticked_within {m} {n} {n'} {depth} {inside} {P} {L} t en hn = record { most = go }
    where
      go : (o : Outcome) (k : Cost) → Gives net P L o k → AtMost m n' depth k
      go o k G = let c = counts net G in record { entered = let a = t.entered in omega (arith, c.0); high = let a = t.high in let b = t.below in omega (arith, c.1) }

  -- memory runs out before a part is stepped
  pub early_memory : {B : Type 0} {view : B → Data} {after : B → Type 0} {m n n' : Meter} {depth inside : ℕ} {P : Process} {L : Life} {f : Fault} → Ticks m n depth inside → entered_of n' ≡ entered_of n → meter_height n' ≡ meter_height n → f ≡ Memory
      → Answers view after (Gives net P L) (Err f) m n' depth
  early_memory t en hn e = memory_exit e (ticked_within t en hn)

  -- ## Parts that do not begin

  module _ {m n n' : Meter} {depth inside : ℕ} (t : Ticks m n depth inside) (en : entered_of n' ≡ entered_of n) (hn : meter_height n' ≡ meter_height n) where
    pub open_stops : {u : Term} {e : Environment} {x : Data} {f : Fault} (d : ℕ) → Opens μ u e x (Err f) → StopsFor (Gives net (closure u e) (step d x ∷ [])) f m n' depth
    open_stops d (opens_with_fault h) = faults (h d) ((ticked_within t en hn).most _ _ (h d))
    open_stops d opens_without_memory = memory (ticked_within t en hn)

    -- what has not begun has no value, for the same fault
    pub begin_stops : {u : Term} {e : Environment} {x : Data} {a : State} {f : Fault} (d : ℕ) → BeginsAs μ u e x a (Err f) → StopsFor (Gives net (closure u e) (step d x ∷ [])) f m n' depth
    begin_stops d (begins_not O) = open_stops d O
