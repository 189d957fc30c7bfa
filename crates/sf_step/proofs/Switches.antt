-- Switches: while they wait, and at their event.
use Rattle.std.proofs.Common.{◌≡◌, ℕ, [], ◌∷◌, ◌++◌, Option, Some, None, Ok, Err, refl, sym, ap, ◌∙◌, subst, append-nil, arith}
use Rattle.sf_value.specs.Values.{Data, first_of, second_of}
use Rattle.sf_value.specs.declared.fault.Fault.{Fault}
use Rattle.sf_expr.specs.Expressions.{Pattern}
use Rattle.sf_expr.specs.Patterns.{pattern_of}
use Rattle.sf_expr.specs.Arena.{stored_pattern}
use Rattle.sf_term.specs.declared.form.Observation.{Observation}
use Rattle.sf_term.specs.declared.form.Observation.TheVariants.{Immediate, Delayed}
use Rattle.sf_term.specs.declared.form.Switching.{Switching}
use Rattle.sf_term.specs.declared.form.Switching.TheVariants.{Basic, Recurring}
use Rattle.sf_term.specs.Trees.{Term, switching}
use Rattle.sf_mean.specs.Lives.{Step, Life, Process, closure, Environment}
use Rattle.sf_mean.specs.Formulas.{occurring}
use Rattle.sf_mean.specs.Meaning.{Network, Readings, Outcome, gave, faulted, combined, Cost, no_cost, both_costs, over, Made, nothing_made, Watched, itself, Takeover, whenever, Standing, waits, fired, stands_after, switched_value, body_of, Gives, gives, and_gave, of_form, Form, of_switch, Sees, beside_values, Since, watched, SwitchTurn, while_waiting, as_body, after_fault, after_value, Fires, no_event_yet, event_now}
use Rattle.sf_mean.proofs.Once.{once_since}
use Rattle.sf_law.specs.Arena.{plan_tree, plan_expressions}
use Rattle.sf_state.specs.declared.state.State.{State}
use Rattle.sf_state.specs.declared.state.Switch.{Switch}
use Rattle.sf_state.specs.declared.env.Env.{Env}
use Rattle.sf_state.specs.Standing.{IsNames, Stands, fired_to, took_over, Waits, waits_so, recurs_so}
use Rattle.sf_state.specs.Machine.{Machine, machine_network}
use Rattle.sf_meter.specs.declared.meter.Meter.{Meter}
use Rattle.sf_meter.specs.Meters.{entered_of, meter_height, Ticks}
use Rattle.sf_step.specs.Answering.{Rel, Spent, Within, StopsFor, answers}
use Rattle.sf_step.specs.Sampling.{StateSteps, SwitchSteps}
use Rattle.sf_step.proofs.Parts.{Over, counted, Then, then_on, then_stop, Alike, over_spent, both_spent, alike_within, over_within, then_within, fails_alike, over_fails, then_fails, rest_fails, spent_within, answered, failed}
use Rattle.sf_step.proofs.Forms.{single_gives, form_alike}

pub not_fired : {Q : Process} {M : Life} → fired Q M ≡ waits → ⊥
not_fired h = cc

some_same : {x v : Data} → Some x ≡ Some v → x ≡ v
some_same e = cc

-- the form of a node is one
pub not_recurring : {f : Switching} {w v : Observation} → f ≡ Basic w → f ≡ Recurring v → ⊥
not_recurring h k = let e = sym h ∙ k in cc

pub same_shown : {f : Switching} {w v : Observation} → f ≡ Basic w → f ≡ Basic v → v ≡ w
same_shown h k = let e = sym k ∙ h in cc

pub same_recurring : {f : Switching} {w v : Observation} → f ≡ Recurring w → f ≡ Recurring v → v ≡ w
same_recurring h k = let e = sym k ∙ h in cc

-- a part that costs nothing beside another
pub no_more_spent : {m n : Meter} {depth : ℕ} {k : Cost} {r : Readings} → Spent m n depth k r → Spent m n depth (both_costs k no_cost) r
no_more_spent s = record { entered = let a = s.entered in omega arith; high = let a = s.high in omega arith; recorded = s.recorded }

module _ (μ : Machine) where
  abbrev net : Network
  net = machine_network μ

  -- ## While it waits

  -- what comes beside a value: it stays, or the body begins
  pub data Beside (B : Data → Process) (s : Step) (x : Data) : Option Data → Outcome → Cost → Type 0 where
    stays : Beside B s x None (gave x []) no_cost
    gives_way : {v : Data} {o : Outcome} {c : Cost} → Gives net (B v) (s ∷ []) o c → Beside B s x (Some v) o c

  stays_as : (w : Observation) (x : Data) (r : Readings) → combined (switched_value w) (gave x r) (gave x []) ≡ gave x r
  stays_as Immediate x r = ap (gave x) (append-nil r)
  stays_as Delayed x r = ap (gave x) (append-nil r)

  pub fires_to : {w : Observation} {B : Data → Process} {s : Step} {x : Data} {q : Option Data} {o : Outcome} {c : Cost} (r : Readings) → Beside B s x q o c → Fires net w B s (gave x r) q (combined (switched_value w) (gave x r) o) c
  fires_to {w} {B} {s} {x} {q} {o} {c} r stays = subst (λ o. Fires net w B s (gave x r) None o no_cost) (sym (stays_as w x r)) no_event_yet
  fires_to r (gives_way G) = event_now G

  pub data FromFires (w : Observation) (B : Data → Process) (s : Step) (x : Data) (r : Readings) (q : Option Data) (o : Outcome) (c : Cost) : Type 0 where
    from_fires : {o' : Outcome} → Beside B s x q o' c → combined (switched_value w) (gave x r) o' ≡ o → FromFires w B s x r q o c

  pub fires_back : {w : Observation} {B : Data → Process} {s : Step} {q : Option Data} {a o : Outcome} {c : Cost} (x : Data) (r : Readings) → a ≡ gave x r → Fires net w B s a q o c → FromFires w B s x r q o c
  fires_back {w = w} x r e no_event_yet = from_fires stays (stays_as w x r ∙ sym e)
  fires_back {w = w} x r e (event_now {o' = o'} G) = from_fires (gives_way G) (ap (λ a. combined (switched_value w) a o') (sym e))

  way_back : {B : Data → Process} {s : Step} {x v : Data} {q : Option Data} {o : Outcome} {c : Cost} → q ≡ Some v → Beside B s x q o c → Gives net (B v) (s ∷ []) o c
  way_back e stays = absurd cc
  way_back {B = B} {s = s} {o = o} {c = c} e (gives_way {v = y} G) =
      let same : y ≡ _ = some_same e in
      subst (λ v. Gives net (B v) (s ∷ []) o c) same G

  pub way_alike : (B : Data → Process) (s : Step) (x v : Data) (q : Option Data) → q ≡ Some v → Alike (Gives net (B v) (s ∷ [])) (Beside B s x q)
  way_alike B s x v q e = record {
    to = λ o c G. subst (λ q. Beside B s x q o c) (sym e) (gives_way G);
    back = λ o c H. way_back e H;
  }

  abbrev pub after_event : Observation → Data → Data → Data
  after_event w y z = switched_value w (first_of y) z

  -- what is seen, a value beside an event, and then what the event brings
  abbrev pub SeenRel : Observation → Rel → (Data → Process) → Step → Rel
  SeenRel w R B s = Over (Then R (after_event w) no_cost (λ y. Beside B s (first_of y) (occurring (second_of y))))

  event_as : (w : Observation) (y : Data) (r : Readings) (o : Outcome) → combined (switched_value w) (gave (first_of y) r) o ≡ combined (after_event w) (gave y r) o
  event_as w y r (gave z q) = refl
  event_as w y r (faulted x) = refl

  seen_from : {R : Rel} {w : Observation} {B : Data → Process} {s : Step} (y : Data) {r : Readings} {o : Outcome} (k : Cost) {c : Cost} → R (gave y r) k → FromFires w B s (first_of y) r (occurring (second_of y)) o c
      → SeenRel w R B s o (over (both_costs k c))
  seen_from {R = R} {w = w} {B = B} {s = s} y {r = r} k {c = c} G (from_fires {o' = o'} H e) =
      subst (λ o. SeenRel w R B s o (over (both_costs k c))) (sym (event_as w y r o') ∙ e) (counted (then_on G H))

  -- a turn of a switch that waits
  pub turn_back : {w : Observation} {W : Watched} {B : Takeover} {s : Step} {L : Life} {st : Standing} {o : Outcome} {k : Cost} → st ≡ waits → SwitchTurn net w W B s L st o k → SeenRel w (Sees net W s L) (B s L) s o k
  turn_back e (while_waiting G after_fault) = counted (then_stop G)
  turn_back e (while_waiting {o = gave y r} G (after_value F)) = seen_from y _ G (fires_back (first_of y) r refl F)
  turn_back e (as_body G) = absurd (not_fired e)

  pub turn_to : {w : Observation} {W : Watched} {B : Takeover} {s : Step} {L : Life} {o : Outcome} {k : Cost} → SeenRel w (Sees net W s L) (B s L) s o k → SwitchTurn net w W B s L waits o k
  turn_to {w = w} {B = B} {s = s} {L = L} (counted (then_on {y = y} {r = r} {o = z} {l = c} G H)) =
      while_waiting G (after_value (subst (λ o. Fires net w (B s L) s (gave (first_of y) r) (occurring (second_of y)) o c) (event_as w y r z) (fires_to r H)))
  turn_to (counted (then_stop G)) = while_waiting G after_fault

  -- what is seen, by another relation with the same outcomes
  seen_map : {R S : Rel} (w : Observation) {B : Data → Process} {s : Step} {o : Outcome} {k : Cost} → ((o : Outcome) (k : Cost) → R o k → S o k) → SeenRel w R B s o k → SeenRel w S B s o k
  seen_map w f (counted (then_on G H)) = counted (then_on (f _ _ G) H)
  seen_map w f (counted (then_stop G)) = counted (then_stop (f _ _ G))

  -- a switch that waits is what it sees
  pub seen_alike : {R S : Rel} (w : Observation) {B : Data → Process} {s : Step} → Alike R S → Alike (SeenRel w R B s) (SeenRel w S B s)
  seen_alike w a = record { to = λ o k G. seen_map w a.to G; back = λ o k G. seen_map w a.back G }

  sees_itself : {P : Process} {s : Step} {L : Life} {o : Outcome} {k : Cost} → Sees net (itself P) s L o k → Gives net P (s ∷ L) o k
  sees_itself (beside_values G) = G

  module _ {w : Observation} {t u : Term} {q : Pattern} {e : Environment} {m : Made} {s : Step} {L : Life} (S : Since net (itself (closure t e)) (whenever (body_of q u e)) L waits) where
    switch_to : (o : Outcome) (k : Cost) → SeenRel w (Gives net (closure t e) (s ∷ L)) (body_of q u e) s o k → Form net (switching (Basic w) t q u) e m s L o k
    switch_to o k G = of_switch S (turn_to (seen_map w (λ o k G. beside_values G) G))

    switch_back : (o : Outcome) (k : Cost) → Form net (switching (Basic w) t q u) e m s L o k → SeenRel w (Gives net (closure t e) (s ∷ L)) (body_of q u e) s o k
    switch_back o k (of_switch S' T) = seen_map w (λ o k G. sees_itself G) (turn_back (once_since net S' S) T)

    switch_alike : Alike (SeenRel w (Gives net (closure t e) (s ∷ L)) (body_of q u e) s) (Form net (switching (Basic w) t q u) e m s L)
    switch_alike = record { to = switch_to; back = switch_back }

  -- ## A step of a basic switch that waits

  module _ (names : Env) (k : Switch) (w : Observation) (form : k.form ≡ Basic w) (s : Step) (n n1 : Meter) (inside : ℕ) where
    -- its first term fails
    pub source_fails : (f : Fault) → StateSteps μ k.running s (Err f) n n1 inside
        → (m : Meter) (depth : ℕ) → Ticks m n depth inside → (t : Term) (e : Environment) (L : Life) → IsNames μ names e → Waits μ k (closure t e) L → StopsFor (Gives net (closure t e) (s ∷ L)) f m n1 depth
    source_fails f hs m depth t T e L N (waits_so own S O A) = fails_alike (form_alike net s L refl O) (fails_alike (switch_alike S) (over_fails t (then_fails (failed (hs _ _ A)))))
    source_fails f hs m depth t T e L N (recurs_so own O A) = absurd (not_recurring form own)

    module _ (a : State) (y : Data) (hs : StateSteps μ k.running s (Ok (a, y)) n n1 inside) where
      -- memory runs out after its first term was stepped
      pub switch_memory : (n2 : Meter) → entered_of n2 ≡ entered_of n1 → meter_height n2 ≡ meter_height n1
          → (m : Meter) (depth : ℕ) → Ticks m n depth inside → (t : Term) (e : Environment) (L : Life) → IsNames μ names e → Waits μ k (closure t e) L → Within (Gives net (closure t e) (s ∷ L)) m n2 depth
      switch_memory n2 en hn m depth t T e L N (waits_so own S O A) =
          let one = answered (hs _ _ A) in
          alike_within (form_alike net s L refl O) (alike_within (switch_alike S) (over_within t (then_within (spent_within (single_gives net _ _) one.given one.spent en hn))))
      switch_memory n2 en hn m depth t T e L N (recurs_so own O A) = absurd (not_recurring form own)

      -- there is no event
      pub switch_waits_on : occurring (second_of y) ≡ None → (v : Data) → v ≡ first_of y → (k' : Switch) → k' ≡ record { form = k.form; running = a; pattern = k.pattern; body = k.body }
          → SwitchSteps μ names k s (Ok ((None, k'), v)) n n1 inside
      switch_waits_on none v ev k' ek m depth t T e L N (recurs_so own O A) = absurd (not_recurring form own)
      switch_waits_on none v ev k' ek m depth t T e L N (waits_so {w = x} {t = first} own S O A) =
          let one = answered (hs _ _ A) in
          let q = pattern_of (stored_pattern (plan_expressions μ.plan) k.pattern) in
          let u = plan_tree μ.plan k.body in
          let c = over (both_costs one.k no_cost) in
          let F : Form net (switching (Basic x) first q u) e nothing_made s L (gave (first_of y) one.r) c =
          of_switch S (while_waiting (beside_values one.given) (after_value (subst (λ o. Fires net x (body_of q u e) s (gave (first_of y) one.r) o (gave (first_of y) one.r) no_cost) (sym none) no_event_yet))) in
          let G = of_form refl (subst (λ v. Form net (switching (Basic x) first q u) e nothing_made s L (gave v one.r) c) (sym ev) F) in
          answers (gives O G) (over_spent t (no_more_spent one.spent))
          (subst (λ (k' : Switch). Waits μ k' (closure (switching (Basic x) first q u) e) (s ∷ L)) (sym ek) (waits_so own (watched S (beside_values one.given) (ap (stands_after (whenever (body_of q u e)) s L) none)) (and_gave O G) one.holds))

      module _ (v : Data) (some : occurring (second_of y) ≡ Some v) (b0 : State)
          (ha : (e : Environment) → IsNames μ names e → Stands μ b0 (body_of (pattern_of (stored_pattern (plan_expressions μ.plan) k.pattern)) (plan_tree μ.plan k.body) e v) []) (n2 : Meter) where
        -- the body fails
        pub body_fails : (f : Fault) → StateSteps μ b0 s (Err f) n1 n2 inside
            → (m : Meter) (depth : ℕ) → Ticks m n depth inside → (t : Term) (e : Environment) (L : Life) → IsNames μ names e → Waits μ k (closure t e) L → StopsFor (Gives net (closure t e) (s ∷ L)) f m n2 depth
        body_fails f hb m depth t T e L N (recurs_so own O A) = absurd (not_recurring form own)
        body_fails f hb m depth t T e L N (waits_so own S O A) =
            let one = answered (hs _ _ A) in
            let B = body_of (pattern_of (stored_pattern (plan_expressions μ.plan) k.pattern)) (plan_tree μ.plan k.body) e in
            let H = fails_alike (way_alike B s (first_of y) v (occurring (second_of y)) some) (failed (hb _ [] (ha e N))) in
            fails_alike (form_alike net s L refl O) (fails_alike (switch_alike S) (over_fails t (rest_fails (λ z. Beside B s (first_of z) (occurring (second_of z))) (single_gives net _ _) one.given one.spent H)))

        -- the body takes over
        pub body_takes_over : (b : State) (z x : Data) → x ≡ switched_value w (first_of y) z → (k' : Switch) → StateSteps μ b0 s (Ok (b, z)) n1 n2 inside
            → SwitchSteps μ names k s (Ok ((Some b, k'), x)) n n2 inside
        body_takes_over b z x ex k' hb m depth t T e L N (recurs_so own O A) = absurd (not_recurring form own)
        body_takes_over b z x ex k' hb m depth t T e L N (waits_so {w = h} {t = first} own S O A) =
            let one = answered (hs _ _ A) in
            let two = answered (hb _ [] (ha e N)) in
            let q = pattern_of (stored_pattern (plan_expressions μ.plan) k.pattern) in
            let u = plan_tree μ.plan k.body in
            let c = over (both_costs one.k two.k) in
            let r = one.r ++ two.r in
            let F : Form net (switching (Basic h) first q u) e nothing_made s L (gave (switched_value h (first_of y) z) r) c =
            of_switch S (while_waiting (beside_values one.given) (after_value (subst (λ o. Fires net h (body_of q u e) s (gave (first_of y) one.r) o (gave (switched_value h (first_of y) z) r) two.k) (sym some) (event_now two.given)))) in
            let shown = ap (λ h. switched_value h (first_of y) z) (same_shown form own) ∙ sym ex in
            let G = of_form refl (subst (λ v. Form net (switching (Basic h) first q u) e nothing_made s L (gave v r) c) shown F) in
            answers (gives O G) (over_spent t (both_spent one.spent two.spent)) (took_over (fired_to (watched S (beside_values one.given) (ap (stands_after (whenever (body_of q u e)) s L) some)) (and_gave O G)) two.holds)
