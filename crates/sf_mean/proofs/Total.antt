-- Where each life before gives a value, there is an outcome.
use Rattle.std.proofs.Common.{ℕ, ◌≡◌, Bool, true, false, ◌&&◌, IsTrue, cond, List, [], ◌∷◌, Option, Some, None, refl, sym, ap, ◌∙◌, subst}
use Rattle.std.specs.Prelude.{bytes_eq, option_map}
use Rattle.sf_value.specs.Values.{Name, KeyData, Data, pair, first_of, second_of}
use Rattle.sf_value.specs.Lookups.{equal_keys}
use Rattle.sf_operator.specs.FunctionForms.{value_of_key}
use Rattle.sf_value.specs.declared.fault.ValueFault.{ValueFault}
use Rattle.sf_expr.specs.Expressions.{Pattern, unnamed, named, both, Expression, Function}
use Rattle.sf_expr.specs.Evaluation.{Evaluated, answer, failed, ◌>>=◌, eval, apply}
use Rattle.sf_term.specs.declared.form.Join.{Join}
use Rattle.sf_term.specs.declared.form.Join.TheVariants.{InSequence, InParallel, FannedOut}
use Rattle.sf_term.specs.declared.form.Side.{Side}
use Rattle.sf_term.specs.declared.form.Heading.TheVariants.{LoopPre, Initialized, Replaced, Followed}
use Rattle.sf_term.specs.declared.form.Observation.{Observation}
use Rattle.sf_term.specs.declared.form.Start.{Start}
use Rattle.sf_term.specs.declared.form.Start.TheVariants.{Run, Fresh}
use Rattle.sf_term.specs.declared.form.Switching.TheVariants.{Basic, Recurring}
use Rattle.sf_term.specs.Trees.{Extent, Term, primitive, reference, started, call, joined, sided, headed, transformed, switching, continuing, gathered, releasing, editing, staged, Collection, without_members, used, added, dropped, kept, chosen}
use Rattle.sf_mean.specs.Lives.{Step, step, wait_of, input_of, Life, Process, closure, resumed, Environment, empty, running, collected, Members, no_members, member, members_of, process_of, base, process_started, passing, scope_around, bind, after, frozen, each_frozen, with_inputs, observed_life, fed, fed_back, older, first_input}
use Rattle.sf_mean.specs.Lives
use Rattle.sf_mean.specs.Formulas.{occurring, at_first, side_of, first_replaced, is_high}
use Rattle.sf_mean.specs.Collections.{as_key, add, drop, keep, collect}
use Rattle.sf_mean.proofs.TypedMembers.{bound_answer, same_answer}
use Rattle.sf_mean.proofs.Refrozen.{frozen_base}
use Rattle.sf_mean.specs.Meaning.{Network, Outcome, gave, faulted, Cost, Made, value_made, process_made, members_made, make, left_life, right_life, Watched, itself, observed, Takeover, Standing, waits, fired, stands_after, body_of, whenever, continuing_body, body_with_members, Edit, edit_of, since_edit, edited, which_run, event_beside, or_earlier, last_event, kept_before, since_event, what_runs, unless_faulted, without_event, Gives, gives, Outputs, not_begun, and_gave, Sample, of_constants, of_form, of_resumed, Form, of_primitive, of_reference, of_join, of_side, of_loop, of_initialized, of_replaced, of_followed, of_transformed, of_switch, of_continuing, of_recurring, of_gathered, of_releasing, of_editing, of_stages, goes_on, stops, Loops, no_loop, and_looped, Sees, beside_values, by_observer, Since, at_start, watched, had_fired, SwitchTurn, while_waiting, as_body, after_fault, after_value, Fires, no_event_yet, event_now, Each, no_more, one_more, others_go_on, others_stop, Edited, no_edit, edit_failed, edit_now, observed_members, by_members_observer, Tables, no_tables, and_table}
use Rattle.sf_mean.specs.Soundness.{is_without_calls, HasNoCalls, closed_without_calls, frozen_without_calls, HaveNoCalls, none_calls, value_without_calls, process_without_calls, HasLived, closed, was_frozen, HaveLived, none_lived, value_beside, process_lived, collects_without_calls, EachHasNoCalls, none_without_calls, one_without_calls, members_without_calls, EachHasLived, none_has_lived, one_has_lived, collection_lived}
use Rattle.sf_mean.proofs.TypedProcesses.{made_in}
use Rattle.sf_mean.proofs.Once.{not_both}

data Known {A : Type 0} (q : Evaluated A) : Type 0 where
  answered : (a : A) → q ≡ answer a → Known q
  refused : (x : ValueFault) → q ≡ failed x → Known q

known : {A : Type 0} (q : Evaluated A) → Known q
known (answer a) = answered a refl
known (failed x) = refused x refl

no_truth : false ≡ true → ⊥
no_truth h = cc

both_without : (a b : Bool) → a && b ≡ true → (a ≡ true) × (b ≡ true)
both_without true b h = (refl, h)
both_without false b h = absurd (no_truth h)

abbrev IsGave : Outcome → Type 0
IsGave (gave y r) = Unit {0}
IsGave (faulted x) = ⊥

-- the process of what was made
abbrev process_in : Process → Made → Process
process_in P (process_made Q) = Q
process_in P m = P

-- the process that took over
abbrev process_fired : Process → Standing → Process
process_fired P (fired Q M) = Q
process_fired P waits = P

-- the newest step of the left part
abbrev newest_left : Join → Step → Step
newest_left InSequence s = s
newest_left InParallel s = step (wait_of s) (first_of (input_of s))
newest_left FannedOut s = s

-- the newest step of the right part, where the left one gives y
abbrev newest_right : Join → Step → Data → Step
newest_right InSequence s y = step (wait_of s) y
newest_right InParallel s y = step (wait_of s) (second_of (input_of s))
newest_right FannedOut s y = s

module _ (n : Network) where
  pub data Has (P : Process) (s : Step) (L : Life) : Type 0 where
    has : {o : Outcome} {c : Cost} → Sample n P s L o c → Has P s L

  data Lived (P : Process) (L : Life) : Type 0 where
    lived : {ys : List Data} → Outputs n P L ys → Lived P L

  whole : {P : Process} {L : Life} {o : Outcome} {c : Cost} → Gives n P L o c → IsGave o → Lived P L
  whole (gives {o = gave y r} A B) h = lived (and_gave A B)
  whole (gives {o = faulted x} A B) h = absurd h

  left_gives : (j : Join) (s : Step) (L : Life) {P : Process} {ys : List Data} {o : Outcome} {c : Cost} → Outputs n P (left_life j L) ys → Sample n P (newest_left j s) (left_life j L) o c → Gives n P (left_life j (s ∷ L)) o c
  left_gives InSequence s L A B = gives A B
  left_gives InParallel s L A B = gives A B
  left_gives FannedOut s L A B = gives A B

  right_gives : (j : Join) (s : Step) (y : Data) (L : Life) (ys : List Data) {P : Process} {zs : List Data} {o : Outcome} {c : Cost} → Outputs n P (right_life j L ys) zs → Sample n P (newest_right j s y) (right_life j L ys) o c → Gives n P (right_life j (s ∷ L) (y ∷ ys)) o c
  right_gives InSequence s y L ys A B = gives A B
  right_gives InParallel s y L ys A B = gives A B
  right_gives FannedOut s y L ys A B = gives A B

  left_outputs : (j : Join) (s : Step) (L : Life) {P : Process} {ys : List Data} {y : Data} {r : _} {c : Cost} → Outputs n P (left_life j L) ys → Gives n P (left_life j (s ∷ L)) (gave y r) c → Outputs n P (left_life j (s ∷ L)) (y ∷ ys)
  left_outputs InSequence s L A (gives A' B) = and_gave A B
  left_outputs InParallel s L A (gives A' B) = and_gave A B
  left_outputs FannedOut s L A (gives A' B) = and_gave A B

  data Joined (j : Join) (f g : Term) (e : Environment) (L : Life) : Type 0 where
    joined_so : {ys : List Data} → Outputs n (closure f e) (left_life j L) ys → Lived (closure g e) (right_life j L ys) → Joined j f g e L

  from_join : {j : Join} {f g : Term} {e : Environment} {m : Made} {s : Step} {L : Life} {q : Outcome} {c : Cost} → Form n (joined j f g) e m s L q c → IsGave q → Joined j f g e (s ∷ L)
  from_join (of_join {j = j} {s = s} {L = L} {o = gave y r} {o' = gave z k} A B (goes_on D)) h = joined_so (left_outputs j s L A B) (whole D tt)
  from_join (of_join {o = gave y r} {o' = faulted x} A B C) h = absurd h
  from_join (of_join {o = faulted x} A B C) h = absurd h

  join_at : {j : Join} {f g : Term} {e : Environment} {s : Step} {L : Life} {q : Outcome} {c : Cost} → Sample n (closure (joined j f g) e) s L q c → IsGave q → Joined j f g e (s ∷ L)
  join_at (of_constants h) i = absurd i
  join_at (of_form h F) i = from_join F i

  no_join : (j : Join) {f g : Term} {e : Environment} → Joined j f g e []
  no_join InSequence = joined_so not_begun (lived not_begun)
  no_join InParallel = joined_so not_begun (lived not_begun)
  no_join FannedOut = joined_so {ys = []} not_begun (lived not_begun)

  join_lived : {j : Join} {f g : Term} {e : Environment} {L : Life} {ws : List Data} → Outputs n (closure (joined j f g) e) L ws → Joined j f g e L
  join_lived {j = j} not_begun = no_join j
  join_lived (and_gave A B) = join_at B tt

  from_side : {d : Side} {t : Term} {e : Environment} {m : Made} {s : Step} {L : Life} {q : Outcome} {c : Cost} → Form n (sided d t) e m s L q c → IsGave q → Lived (closure t e) (with_inputs (side_of d) (s ∷ L))
  from_side (of_side {o = gave y r} B) h = whole B tt
  from_side (of_side {o = faulted x} B) h = absurd h

  side_at : {d : Side} {t : Term} {e : Environment} {s : Step} {L : Life} {q : Outcome} {c : Cost} → Sample n (closure (sided d t) e) s L q c → IsGave q → Lived (closure t e) (with_inputs (side_of d) (s ∷ L))
  side_at (of_constants h) i = absurd i
  side_at (of_form h F) i = from_side F i

  side_lived : {d : Side} {t : Term} {e : Environment} {L : Life} {ws : List Data} → Outputs n (closure (sided d t) e) L ws → Lived (closure t e) (with_inputs (side_of d) L)
  side_lived not_begun = lived not_begun
  side_lived (and_gave A B) = side_at B tt

  -- a pipeline's values are those of its stages in sequence
  as_joined_form : {x : Extent} {f g : Term} {e : Environment} {m : Made} {s : Step} {L : Life} {q : Outcome} {c : Cost} → Form n (staged x f g) e m s L q c → (d : Cost) × Form n (joined InSequence f g) e m s L q d
  as_joined_form (of_stages A B C) = (_, of_join A B C)

  as_joined_sample : {x : Extent} {f g : Term} {e : Environment} {s : Step} {L : Life} {q : Outcome} {c : Cost} → Sample n (closure (staged x f g) e) s L q c → (d : Cost) × Sample n (closure (joined InSequence f g) e) s L q d
  as_joined_sample (of_constants h) = (_, of_constants h)
  as_joined_sample (of_form h F) = (_, of_form h (as_joined_form F).1)

  as_joined : {x : Extent} {f g : Term} {e : Environment} {L : Life} {ws : List Data} → Outputs n (closure (staged x f g) e) L ws → Outputs n (closure (joined InSequence f g) e) L ws
  as_joined not_begun = not_begun
  as_joined (and_gave A B) = and_gave (as_joined A) (as_joined_sample B).1

  as_staged_form : (x : Extent) {f g : Term} {e : Environment} {m : Made} {s : Step} {L : Life} {q : Outcome} {c : Cost} → Form n (joined InSequence f g) e m s L q c → (d : Cost) × Form n (staged x f g) e m s L q d
  as_staged_form x (of_join A B C) = (_, of_stages A B C)

  as_staged : {x : Extent} {f g : Term} {e : Environment} {s : Step} {L : Life} → Has (closure (joined InSequence f g) e) s L → Has (closure (staged x f g) e) s L
  as_staged (has (of_constants h)) = has (of_constants h)
  as_staged {x = x} (has (of_form h F)) = has (of_form h (as_staged_form x F).1)

  data Looped (v : Data) (P : Process) (L : Life) : Type 0 where
    looped : {zs : List Data} → Loops n v P L zs → Lived P (fed v L (older zs)) → Looped v P L

  from_loop : {i : Expression} {t : Term} {e : Environment} {v : Data} {m : Made} {s : Step} {L : Life} {q : Outcome} {c : Cost} → m ≡ value_made v → Form n (headed LoopPre i t) e m s L q c → IsGave q → Looped v (closure t e) (s ∷ L)
  from_loop {t = t} {e = e} {v = v} k (of_loop {v = w} {s = s} {L = L} {o = gave z r} A B) h =
      let N : Data → Type 0 = λ x. Looped x (closure t e) (s ∷ L) in
      subst N (ap (λ m. made_in v (answer m)) k) (looped (and_looped A B) (whole B tt))
  from_loop k (of_loop {o = faulted x} A B) h = absurd h

  abbrev opened : Evaluated Data → Evaluated Made
  opened q = q >>= λ v. answer (value_made v)

  abbrev made_of : Evaluated Made → Made → Made
  made_of (answer m) d = m
  made_of (failed x) d = d

  loop_at : {i : Expression} {t : Term} {e : Environment} {v : Data} {s : Step} {L : Life} {q : Outcome} {c : Cost} → eval i (scope_around n.functions e) ≡ answer v → Sample n (closure (headed LoopPre i t) e) s L q c → IsGave q → Looped v (closure t e) (s ∷ L)
  loop_at k (of_constants h) z = absurd z
  loop_at {v = v} k (of_form {m = m} h F) z = from_loop (ap (λ q. made_of q m) (sym h ∙ ap opened k)) F z

  loop_lived : {i : Expression} {t : Term} {e : Environment} {v : Data} {L : Life} {ws : List Data} → eval i (scope_around n.functions e) ≡ answer v → Outputs n (closure (headed LoopPre i t) e) L ws → Looped v (closure t e) L
  loop_lived k not_begun = looped no_loop (lived not_begun)
  loop_lived k (and_gave A B) = loop_at k B tt

  no_fault : {t : Term} {e : Environment} {x : ValueFault} {s : Step} {L : Life} {q : Outcome} {c : Cost} → make n t e (first_input s L) ≡ failed x → Sample n (closure t e) s L q c → IsGave q → ⊥
  no_fault k (of_constants h) z = z
  no_fault k (of_form h F) z = absurd (let e = sym k ∙ h in cc)

  with_right : {j : Join} {f g : Term} {e : Environment} {s : Step} {L : Life} {ys : List Data} {y : Data} {r : _} {c : Cost} {zs : List Data}
      → Outputs n (closure f e) (left_life j L) ys → Gives n (closure f e) (left_life j (s ∷ L)) (gave y r) c → Outputs n (closure g e) (right_life j L ys) zs
      → Has (closure g e) (newest_right j s y) (right_life j L ys) → Has (closure (joined j f g) e) s L
  with_right {j = j} {s = s} {L = L} {ys = ys} {y = y} A G B (has S) = has (of_form refl (of_join A G (goes_on (right_gives j s y L ys B S))))

  with_left : {j : Join} {f g : Term} {e : Environment} {s : Step} {L : Life} {ys : List Data}
      → Outputs n (closure f e) (left_life j L) ys → Lived (closure g e) (right_life j L ys) → Has (closure f e) (newest_left j s) (left_life j L)
      → ((y : Data) (zs : List Data) → Outputs n (closure g e) (right_life j L ys) zs → Has (closure g e) (newest_right j s y) (right_life j L ys)) → Has (closure (joined j f g) e) s L
  with_left {j = j} {s = s} {L = L} A (lived {ys = zs} B) (has {o = gave y r} S) right = with_right A (left_gives j s L A S) B (right y zs B)
  with_left {j = j} {s = s} {L = L} A (lived B) (has {o = faulted x} S) right = has (of_form refl (of_join A (left_gives j s L A S) stops))

  with_part : {d : Side} {t : Term} {e : Environment} {s : Step} {L : Life} {ys : List Data}
      → Outputs n (closure t e) (with_inputs (side_of d) L) ys → Has (closure t e) (step (wait_of s) (side_of d (input_of s))) (with_inputs (side_of d) L) → Has (closure (sided d t) e) s L
  with_part A (has S) = has (of_form refl (of_side (gives A S)))

  with_loop : {i : Expression} {t : Term} {e : Environment} {v : Data} {s : Step} {L : Life} {zs us : List Data}
      → eval i (scope_around n.functions e) ≡ answer v → Loops n v (closure t e) L zs → Outputs n (closure t e) (fed v L (older zs)) us
      → Has (closure t e) (step (wait_of s) (pair (input_of s) (fed_back v zs))) (fed v L (older zs)) → Has (closure (headed LoopPre i t) e) s L
  with_loop k A B (has S) = has (of_form (ap opened k) (of_loop A (gives B S)))

  constants_fail : {t : Term} {e : Environment} {x : ValueFault} (s : Step) {L : Life} {ws : List Data} → make n t e (first_input s L) ≡ failed x → Outputs n (closure t e) L ws → Has (closure t e) s L
  constants_fail s k not_begun = has (of_constants k)
  constants_fail s k (and_gave A B) = absurd (no_fault k B tt)

  from_initialized : {i : Expression} {t : Term} {e : Environment} {m : Made} {s : Step} {L : Life} {q : Outcome} {c : Cost} → Form n (headed Initialized i t) e m s L q c → IsGave q → Lived (closure t e) (s ∷ L)
  from_initialized (of_initialized {o = gave y r} B) h = whole B tt
  from_initialized (of_initialized {o = faulted x} B) h = absurd h

  initialized_at : {i : Expression} {t : Term} {e : Environment} {s : Step} {L : Life} {q : Outcome} {c : Cost} → Sample n (closure (headed Initialized i t) e) s L q c → IsGave q → Lived (closure t e) (s ∷ L)
  initialized_at (of_constants h) i = absurd i
  initialized_at (of_form h F) i = from_initialized F i

  initialized_lived : {i : Expression} {t : Term} {e : Environment} {L : Life} {ws : List Data} → Outputs n (closure (headed Initialized i t) e) L ws → Lived (closure t e) L
  initialized_lived not_begun = lived not_begun
  initialized_lived (and_gave A B) = initialized_at B tt

  with_initial : {i : Expression} {t : Term} {e : Environment} {v : Data} {s : Step} {L : Life} {us : List Data}
      → eval i (scope_around n.functions e) ≡ answer v → Outputs n (closure t e) L us → Has (closure t e) s L → Has (closure (headed Initialized i t) e) s L
  with_initial k A (has S) = has (of_form (ap opened k) (of_initialized (gives A S)))

  from_replaced : {i : Expression} {t : Term} {e : Environment} {v : Data} {m : Made} {s : Step} {L : Life} {q : Outcome} {c : Cost} → m ≡ value_made v → Form n (headed Replaced i t) e m s L q c → IsGave q → Lived (closure t e) (first_replaced v (s ∷ L))
  from_replaced {t = t} {e = e} {v = v} k (of_replaced {v = w} {s = s} {L = L} {o = gave y r} B) h =
      let N : Data → Type 0 = λ x. Lived (closure t e) (first_replaced x (s ∷ L)) in
      subst N (ap (λ m. made_in v (answer m)) k) (whole B tt)
  from_replaced k (of_replaced {o = faulted x} B) h = absurd h

  replaced_at : {i : Expression} {t : Term} {e : Environment} {v : Data} {s : Step} {L : Life} {q : Outcome} {c : Cost} → eval i (scope_around n.functions e) ≡ answer v → Sample n (closure (headed Replaced i t) e) s L q c → IsGave q → Lived (closure t e) (first_replaced v (s ∷ L))
  replaced_at k (of_constants h) z = absurd z
  replaced_at {v = v} k (of_form {m = m} h F) z = from_replaced (ap (λ q. made_of q m) (sym h ∙ ap opened k)) F z

  replaced_lived : {i : Expression} {t : Term} {e : Environment} {v : Data} {L : Life} {ws : List Data} → eval i (scope_around n.functions e) ≡ answer v → Outputs n (closure (headed Replaced i t) e) L ws → Lived (closure t e) (first_replaced v L)
  replaced_lived k not_begun = lived not_begun
  replaced_lived k (and_gave A B) = replaced_at k B tt

  with_replaced : {i : Expression} {t : Term} {e : Environment} {v : Data} {s : Step} {L : Life} {us : List Data}
      → eval i (scope_around n.functions e) ≡ answer v → Outputs n (closure t e) (first_replaced v L) us → Has (closure t e) (step (wait_of s) (at_first L v (input_of s))) (first_replaced v L) → Has (closure (headed Replaced i t) e) s L
  with_replaced k A (has S) = has (of_form (ap opened k) (of_replaced (gives A S)))

  from_followed : {i : Expression} {t : Term} {e : Environment} {m : Made} {s : Step} {L : Life} {q : Outcome} {c : Cost} → Form n (headed Followed i t) e m s L q c → IsGave q → Lived (closure t e) (s ∷ L)
  from_followed (of_followed {o = gave y r} A B) h = whole B tt
  from_followed (of_followed {o = faulted x} A B) h = absurd h

  followed_at : {i : Expression} {t : Term} {e : Environment} {s : Step} {L : Life} {q : Outcome} {c : Cost} → Sample n (closure (headed Followed i t) e) s L q c → IsGave q → Lived (closure t e) (s ∷ L)
  followed_at (of_constants h) i = absurd i
  followed_at (of_form h F) i = from_followed F i

  followed_lived : {i : Expression} {t : Term} {e : Environment} {L : Life} {ws : List Data} → Outputs n (closure (headed Followed i t) e) L ws → Lived (closure t e) L
  followed_lived not_begun = lived not_begun
  followed_lived (and_gave A B) = followed_at B tt

  with_followed : {i : Expression} {t : Term} {e : Environment} {s : Step} {L : Life} {us : List Data} → Outputs n (closure t e) L us → Has (closure t e) s L → Has (closure (headed Followed i t) e) s L
  with_followed A (has S) = has (of_form refl (of_followed A (gives A S)))

  from_transformed : {f : Function} {t : Term} {e : Environment} {v : Data} {m : Made} {s : Step} {L : Life} {q : Outcome} {c : Cost} → m ≡ value_made v → Form n (transformed f t) e m s L q c → IsGave q → Lived (closure t e) (first_replaced v (s ∷ L))
  from_transformed {t = t} {e = e} {v = v} k (of_transformed {v = w} {s = s} {L = L} {o = gave y r} B) h =
      let N : Data → Type 0 = λ x. Lived (closure t e) (first_replaced x (s ∷ L)) in
      subst N (ap (λ m. made_in v (answer m)) k) (whole B tt)
  from_transformed k (of_transformed {o = faulted x} B) h = absurd h

  transformed_at : {f : Function} {t : Term} {e : Environment} {v : Data} {s : Step} {L : Life} {q : Outcome} {c : Cost} → apply f (first_input s L) (scope_around n.functions e) ≡ answer v → Sample n (closure (transformed f t) e) s L q c → IsGave q → Lived (closure t e) (first_replaced v (s ∷ L))
  transformed_at k (of_constants h) z = absurd z
  transformed_at {v = v} k (of_form {m = m} h F) z = from_transformed (ap (λ q. made_of q m) (sym h ∙ ap opened k)) F z

  transformed_lived : {f : Function} {t : Term} {e : Environment} {v : Data} (s : Step) {L : Life} {ws : List Data} → apply f (first_input s L) (scope_around n.functions e) ≡ answer v → Outputs n (closure (transformed f t) e) L ws → Lived (closure t e) (first_replaced v L)
  transformed_lived s k not_begun = lived not_begun
  transformed_lived s k (and_gave A B) = transformed_at k B tt

  with_transformed : {f : Function} {t : Term} {e : Environment} {v : Data} {s : Step} {L : Life} {us : List Data} → apply f (first_input s L) (scope_around n.functions e) ≡ answer v → Outputs n (closure t e) (first_replaced v L) us
      → Has (closure t e) (step (wait_of s) (at_first L v (input_of s))) (first_replaced v L) → Has (closure (transformed f t) e) s L
  with_transformed k A (has S) = has (of_form (ap opened k) (of_transformed (gives A S)))

  -- ## Switches

  -- each member gave values
  data EachLived : Members → Life → Type 0 where
    none_lives : {L : Life} → EachLived no_members L
    one_lives : {k : KeyData} {P : Process} {ms : Members} {L : Life} → Lived P L → EachLived ms L → EachLived (member k P ms) L

  nobody_lived : (ms : Members) → EachLived ms []
  nobody_lived no_members = none_lives
  nobody_lived (member k P ms) = one_lives (lived not_begun) (nobody_lived ms)

  each_lived : {ms : Members} {s : Step} {L : Life} {o : Outcome} {c : Cost} → Each n ms s L o c → IsGave o → EachLived ms (s ∷ L)
  each_lived no_more h = none_lives
  each_lived (one_more {o = gave y r} {o' = gave z q} A (others_go_on B)) h = one_lives (whole A tt) (each_lived B tt)
  each_lived (one_more {o = gave y r} {o' = faulted x} A B) h = absurd h
  each_lived (one_more {o = faulted x} A B) h = absurd h

  tables_lived : {ms : Members} {L : Life} {ys : List Data} → Tables n ms L ys → EachLived ms L
  tables_lived {ms = ms} no_tables = nobody_lived ms
  tables_lived (and_table A B) = each_lived B tt

  -- what a switch watches gave values
  data Watching : Watched → Life → Type 0 where
    itself_lived : {P : Process} {L : Life} {ys : List Data} → Outputs n P L ys → Watching (itself P) L
    both_lived : {P : Process} {q : Term} {e : Environment} {L : Life} {ys zs : List Data} → Outputs n P L ys → Outputs n (closure q e) (observed_life L ys) zs → Watching (observed P q e) L
    all_lived : {ms : Members} {q : Term} {e : Environment} {L : Life} {ys zs : List Data} → Tables n ms L ys → Outputs n (closure q e) (observed_life L ys) zs → Watching (observed_members ms q e) L

  -- what is watched gave values
  abbrev SourceLived : Watched → Life → Type 0
  SourceLived (itself P) L = Lived P L
  SourceLived (observed P q e) L = Lived P L
  SourceLived (observed_members ms q e) L = EachLived ms L

  sees_watching : {W : Watched} {s : Step} {L : Life} {o : Outcome} {c : Cost} → Sees n W s L o c → IsGave o → Watching W (s ∷ L)
  sees_watching (beside_values A) h = elim (whole A h) [ lived B ↦ itself_lived B ]
  sees_watching (by_observer {o = gave y r} {o' = gave z k} A (gives A' B) (goes_on D)) h = elim (whole D tt) [ lived C ↦ both_lived (and_gave A B) C ]
  sees_watching (by_observer {o = gave y r} {o' = faulted x} A B D) h = absurd h
  sees_watching (by_observer {o = faulted x} A B D) h = absurd h
  sees_watching (by_members_observer {o = gave y r} {o' = gave z k} A B (goes_on D)) h = elim (whole D tt) [ lived C ↦ all_lived (and_table A B) C ]
  sees_watching (by_members_observer {o = gave y r} {o' = faulted x} A B D) h = absurd h
  sees_watching (by_members_observer {o = faulted x} A B D) h = absurd h

  sees_source : {W : Watched} {s : Step} {L : Life} {o : Outcome} {c : Cost} → Sees n W s L o c → SourceLived W L
  sees_source (beside_values (gives A B)) = lived A
  sees_source (by_observer A B D) = lived A
  sees_source (by_members_observer A B D) = tables_lived A

  nothing_watched : (W : Watched) → Watching W []
  nothing_watched (itself P) = itself_lived not_begun
  nothing_watched (observed P q e) = both_lived {ys = []} not_begun not_begun
  nothing_watched (observed_members ms q e) = all_lived {ys = []} no_tables not_begun

  -- where a switch that gave a value so far stands: what it watches has lived, or what took over has
  data Stood (W : Watched) (B : Takeover) (L : Life) : Type 0 where
    still_waits : Since n W B L waits → Watching W L → Stood W B L
    had_event : {Q : Process} {M : Life} → Since n W B L (fired Q M) → Lived Q M → Stood W B L

  fires_stood : {w : Observation} {W : Watched} {B : Takeover} {s : Step} {L : Life} {y : Data} {r : _} {q : Option Data} {o : Outcome} {c d : Cost}
      → Since n W B L waits → Sees n W s L (gave y r) c → occurring (second_of y) ≡ q → Fires n w (B s L) s (gave (first_of y) r) q o d → IsGave o → Stood W B (s ∷ L)
  fires_stood {B = B} {s = s} {L = L} S A e no_event_yet h = still_waits (watched S A (ap (stands_after B s L) e)) (sees_watching A tt)
  fires_stood {B = B} {s = s} {L = L} S A e (event_now {o' = gave z k} G) h = had_event (watched S A (ap (stands_after B s L) e)) (whole G tt)
  fires_stood S A e (event_now {o' = faulted x} G) h = absurd h

  turn_stood : {w : Observation} {W : Watched} {B : Takeover} {s : Step} {L : Life} {st : Standing} {o : Outcome} {c : Cost} → Since n W B L st → SwitchTurn n w W B s L st o c → IsGave o → Stood W B (s ∷ L)
  turn_stood S (while_waiting A after_fault) h = absurd h
  turn_stood S (while_waiting A (after_value F)) h = fires_stood S A refl F h
  turn_stood S (as_body A) h = had_event (had_fired S) (whole A h)

  from_switch : {w : Observation} {t u : Term} {p : Pattern} {e : Environment} {m : Made} {s : Step} {L : Life} {o : Outcome} {c : Cost} → Form n (switching (Basic w) t p u) e m s L o c → IsGave o → Stood (itself (closure t e)) (whenever (body_of p u e)) (s ∷ L)
  from_switch (of_switch S T) h = turn_stood S T h

  switch_at : {w : Observation} {t u : Term} {p : Pattern} {e : Environment} {s : Step} {L : Life} {o : Outcome} {c : Cost} → Sample n (closure (switching (Basic w) t p u) e) s L o c → IsGave o → Stood (itself (closure t e)) (whenever (body_of p u e)) (s ∷ L)
  switch_at (of_constants h) i = absurd i
  switch_at (of_form h F) i = from_switch F i

  switch_stood : {w : Observation} {t u : Term} {p : Pattern} {e : Environment} {L : Life} {ws : List Data} → Outputs n (closure (switching (Basic w) t p u) e) L ws → Stood (itself (closure t e)) (whenever (body_of p u e)) L
  switch_stood not_begun = still_waits at_start (itself_lived not_begun)
  switch_stood (and_gave A B) = switch_at B tt

  from_continuing : {w : Observation} {t q u : Term} {k : Name} {p : Pattern} {e : Environment} {m : Made} {s : Step} {L : Life} {o : Outcome} {c : Cost} → Form n (continuing w t q k p u) e m s L o c → IsGave o → Stood (observed (closure t e) q e) (continuing_body k (closure t e) p u e) (s ∷ L)
  from_continuing (of_continuing S T) h = turn_stood S T h

  continuing_at : {w : Observation} {t q u : Term} {k : Name} {p : Pattern} {e : Environment} {s : Step} {L : Life} {o : Outcome} {c : Cost} → Sample n (closure (continuing w t q k p u) e) s L o c → IsGave o → Stood (observed (closure t e) q e) (continuing_body k (closure t e) p u e) (s ∷ L)
  continuing_at (of_constants h) i = absurd i
  continuing_at (of_form h F) i = from_continuing F i

  continuing_stood : {w : Observation} {t q u : Term} {k : Name} {p : Pattern} {e : Environment} {L : Life} {ws : List Data} → Outputs n (closure (continuing w t q k p u) e) L ws → Stood (observed (closure t e) q e) (continuing_body k (closure t e) p u e) L
  continuing_stood {t = t} {q = q} {e = e} not_begun = still_waits at_start (nothing_watched (observed (closure t e) q e))
  continuing_stood (and_gave A B) = continuing_at B tt

  payload_fires : (w : Observation) {B : Data → Process} {s : Step} (o : Outcome) (q : Option Data) → ((v : Data) → Has (B v) s []) → (a : Outcome) × ((c : Cost) × Fires n w B s o q a c)
  payload_fires w o None body = (_, (_, no_event_yet))
  payload_fires w o (Some v) body = elim (body v) [ has S ↦ (_, (_, event_now (gives not_begun S))) ]

  -- a switch that waits has a turn where it sees something, and what may take over has a first sample
  data Turns (w : Observation) (W : Watched) (B : Takeover) (s : Step) (L : Life) (st : Standing) : Type 0 where
    turns : {o : Outcome} {c : Cost} → SwitchTurn n w W B s L st o c → Turns w W B s L st

  waiting_turns : (w : Observation) {W : Watched} {B : Takeover} {s : Step} {L : Life} (o : Outcome) {c : Cost} → Sees n W s L o c → ((v : Data) → Has (B s L v) s []) → Turns w W B s L waits
  waiting_turns w (faulted x) A body = turns (while_waiting A after_fault)
  waiting_turns w (gave y r) A body =
      let F = payload_fires w (gave (first_of y) r) (occurring (second_of y)) body in
      turns (while_waiting A (after_value F.1.1))

  -- ## Processes

  -- what runs in a recurring switch that gave a value so far has lived since the last event
  ran_on : {w : Observation} (P : Process) {B : Data → Process} (s : Step) (M : Life) (r q : Option Data) {o o' : Outcome} {c d : Cost}
      → Gives n (what_runs P B r) (with_inputs first_of (s ∷ M)) o c → Fires n w B (without_event s) o (unless_faulted o q) o' d → IsGave o' → Lived (what_runs P B (or_earlier q r)) (with_inputs first_of (s ∷ kept_before q M))
  ran_on P s M r None {o = gave y k} G no_event_yet h = whole G tt
  ran_on P s M r (Some v) {o = gave y k} G (event_now {o' = gave z j} H) h = whole H tt
  ran_on P s M r (Some v) {o = gave y k} G (event_now {o' = faulted x} H) h = absurd h
  ran_on P s M r q {o = faulted x} G no_event_yet h = absurd h

  -- what runs in a recurring switch, and the life that it has led
  abbrev Runs : Term → Pattern → Term → Environment → Life → Type 0
  Runs t p u e L = Lived (what_runs (closure t e) (body_of p u e) (last_event L)) (with_inputs first_of (since_event L))

  from_recurring : {w : Observation} {t u : Term} {p : Pattern} {e : Environment} {m : Made} {s : Step} {L : Life} {o : Outcome} {c : Cost} → Form n (switching (Recurring w) t p u) e m s L o c → IsGave o → Runs t p u e (s ∷ L)
  from_recurring (of_recurring {t = t} {e = e} {s = s} {L = L} A B) h = ran_on (closure t e) s (since_event L) (last_event L) (event_beside s) A B h

  recurring_at : {w : Observation} {t u : Term} {p : Pattern} {e : Environment} {s : Step} {L : Life} {o : Outcome} {c : Cost} → Sample n (closure (switching (Recurring w) t p u) e) s L o c → IsGave o → Runs t p u e (s ∷ L)
  recurring_at (of_constants h) i = absurd i
  recurring_at (of_form h F) i = from_recurring F i

  recurring_runs : {w : Observation} {t u : Term} {p : Pattern} {e : Environment} {L : Life} {ws : List Data} → Outputs n (closure (switching (Recurring w) t p u) e) L ws → Runs t p u e L
  recurring_runs not_begun = lived not_begun
  recurring_runs (and_gave A B) = recurring_at B tt

  run_has : {P : Process} (B : Data → Process) {s : Step} {M : Life} {ys : List Data} (q : Option Data) → (Outputs n P M ys → Has P s M) → ((v : Data) → Outputs n (B v) M ys → Has (B v) s M)
      → Outputs n (what_runs P B q) M ys → Has (what_runs P B q) s M
  run_has B None f g A = f A
  run_has B (Some v) f g A = g v A

  with_running : {w : Observation} {t u : Term} {p : Pattern} {e : Environment} {s : Step} {L : Life} {ys : List Data}
      → Outputs n (what_runs (closure t e) (body_of p u e) (last_event L)) (with_inputs first_of (since_event L)) ys
      → Has (what_runs (closure t e) (body_of p u e) (last_event L)) (without_event s) (with_inputs first_of (since_event L))
      → ((v : Data) → Has (body_of p u e v) (without_event s) []) → Has (closure (switching (Recurring w) t p u) e) s L
  with_running {w = w} {s = s} A (has {o = o} S) body =
      let F = payload_fires w o (unless_faulted o (event_beside s)) body in
      has (of_form refl (of_recurring (gives A S) F.1.1))

  -- a process has an outcome wherever the lives before give values
  abbrev pub Goes : Process → Type 0
  Goes P = (s : Step) (L : Life) (ws : List Data) → Outputs n P L ws → Has P s L

  -- and so has the process that it began as
  abbrev pub GoesAnew : Process → Type 0
  GoesAnew P = Goes P × Goes (base P)

  -- each member does
  pub data EachGoes : Members → Type 0 where
    none_goes : EachGoes no_members
    one_goes : {k : KeyData} {P : Process} {ms : Members} → Goes P → EachGoes ms → EachGoes (member k P ms)

  -- and each process of an environment
  pub data AllGo : Environment → Type 0 where
    go_nothing : AllGo empty
    go_value : {x : Name} {d : Data} {e : Environment} → AllGo e → AllGo (Lives.known x d e)
    go_process : {x : Name} {P : Process} {e : Environment} → GoesAnew P → AllGo e → AllGo (running x P e)
    go_members : {x : Name} {ms : Members} {e : Environment} → EachGoes ms → AllGo e → AllGo (collected x ms e)

  bound_go : (p : Pattern) (v : Data) {e : Environment} → AllGo e → AllGo (bind p v e)
  bound_go unnamed v E = E
  bound_go (named x) v E = go_value E
  bound_go (both p q) v E = bound_go q (second_of v) (bound_go p (first_of v) E)

  passing_goes : Goes passing
  passing_goes s L ws O = has (of_form refl (of_primitive refl))

  process_goes : (k : Name) {e : Environment} → AllGo e → GoesAnew (process_of k e)
  process_goes k go_nothing = (passing_goes, passing_goes)
  process_goes k (go_value {x = x} {e = e} E) = by_test (bytes_eq k x) (process_goes k E)
    where
      by_test : (b : Bool) → GoesAnew (process_of k e) → GoesAnew (cond b passing (process_of k e))
      by_test true G = (passing_goes, passing_goes)
      by_test false G = G
  process_goes k (go_process {x = x} {P = P} {e = e} H E) = by_test (bytes_eq k x) (process_goes k E)
    where
      by_test : (b : Bool) → GoesAnew (process_of k e) → GoesAnew (cond b P (process_of k e))
      by_test true G = H
      by_test false G = G
  process_goes k (go_members {x = x} {e = e} M E) = by_test (bytes_eq k x) (process_goes k E)
    where
      by_test : (b : Bool) → GoesAnew (process_of k e) → GoesAnew (cond b passing (process_of k e))
      by_test true G = (passing_goes, passing_goes)
      by_test false G = G

  started_goes : (w : Start) (k : Name) {e : Environment} → AllGo e → Goes (process_started w k e)
  started_goes Run k E = (process_goes k E).0
  started_goes Fresh k E = (process_goes k E).1

  resumed_lived : {P : Process} {h : Life} {d : ℕ} {L : Life} {ys ws : List Data} → Outputs n P h ys → Outputs n (resumed P h d) L ws → Lived P (after h d L)
  resumed_lived H not_begun = lived H
  resumed_lived H (and_gave A (of_resumed G)) = whole G tt

  resumed_goes : {P : Process} {h : Life} (d : ℕ) {ys : List Data} → Goes P → Outputs n P h ys → Goes (resumed P h d)
  resumed_goes {P = P} {h = h} d G H s [] ws O = elim (G (step d (input_of s)) h _ H) [ has S ↦ has (of_resumed (gives H S)) ]
  resumed_goes {P = P} {h = h} d G H s (r ∷ L) ws O = elim (resumed_lived H O) [ lived A ↦ elim (G s (after h d (r ∷ L)) _ A) [ has S ↦ has (of_resumed (gives A S)) ] ]

  frozen_goes : {P : Process} (h : Life) (d : ℕ) {ys : List Data} → Goes P → Outputs n P h ys → Goes (frozen P h d)
  frozen_goes [] d G H = G
  frozen_goes (s ∷ h) d G H = resumed_goes d G H

  from_run : {w : Start} {k : Name} {e : Environment} {P : Process} {m : Made} {s : Step} {L : Life} {q : Outcome} {c : Cost} → m ≡ process_made P → Form n (reference (started w k)) e m s L q c → IsGave q → Lived P (s ∷ L)
  from_run {s = s} {L = L} k (of_reference {P = Q} A) h =
      let N : Process → Type 0 = λ P. Lived P (s ∷ L) in
      subst N (ap (λ m. process_in Q m) k) (whole A h)

  run_at : {w : Start} {k : Name} {e : Environment} {s : Step} {L : Life} {q : Outcome} {c : Cost} → Sample n (closure (reference (started w k)) e) s L q c → IsGave q → Lived (process_started w k e) (s ∷ L)
  run_at (of_constants h) z = absurd z
  run_at (of_form {m = m} h F) z = from_run (ap (λ q. made_of q m) (sym h)) F z

  run_lived : {w : Start} {k : Name} {e : Environment} {L : Life} {ws : List Data} → Outputs n (closure (reference (started w k)) e) L ws → Lived (process_started w k e) L
  run_lived not_begun = lived not_begun
  run_lived (and_gave A B) = run_at B tt

  with_run : {w : Start} {k : Name} {e : Environment} {s : Step} {L : Life} {ys : List Data} → Outputs n (process_started w k e) L ys → Has (process_started w k e) s L → Has (closure (reference (started w k)) e) s L
  with_run A (has S) = has (of_form refl (of_reference (gives A S)))

  -- what took over had an outcome wherever it may, if that is so of what takes over where the source has lived
  since_goes : {W : Watched} {B : Takeover} {L : Life} {st : Standing} {Q : Process} {M : Life} → Since n W B L st → st ≡ fired Q M
      → ((s : Step) (K : Life) (v : Data) → SourceLived W K → Goes (B s K v)) → Goes Q
  since_goes at_start h body = absurd (not_both h)
  since_goes {B = B} {Q = Q} {M = M} (watched {s = s} {L = K} {y = y} S A h) g body = by_payload (occurring (second_of y)) (h ∙ g)
    where
      by_payload : (o : Option Data) → stands_after B s K o ≡ fired Q M → Goes Q
      by_payload None e = absurd (not_both e)
      by_payload (Some v) e = subst Goes (ap (process_fired passing) e) (body s K v (sees_source A))
  since_goes (had_fired {Q = R} S) h body = subst Goes (ap (process_fired R) h) (since_goes S refl body)

  sees_itself : {P : Process} {s : Step} {L : Life} {ys : List Data} → Outputs n P L ys → Has P s L → (o : Outcome) × ((c : Cost) × Sees n (itself P) s L o c)
  sees_itself A (has S) = (_, (_, beside_values (gives A S)))

  sees_both : {P : Process} {q : Term} {e : Environment} {s : Step} {L : Life} {ys zs : List Data} → Outputs n P L ys → Outputs n (closure q e) (observed_life L ys) zs → Has P s L
      → ((y : Data) → Has (closure q e) (step (wait_of s) (pair (input_of s) y)) (observed_life L ys)) → (o : Outcome) × ((c : Cost) × Sees n (observed P q e) s L o c)
  sees_both A Z (has {o = faulted x} S) observer = (_, (_, by_observer A (gives A S) stops))
  sees_both A Z (has {o = gave y r} S) observer = elim (observer y) [ has T ↦ (_, (_, by_observer A (gives A S) (goes_on (gives Z T)))) ]

  switch_has : {w : Observation} {t u : Term} {p : Pattern} {e : Environment} {s : Step} {L : Life} {st : Standing} → Since n (itself (closure t e)) (whenever (body_of p u e)) L st
      → Turns w (itself (closure t e)) (whenever (body_of p u e)) s L st → Has (closure (switching (Basic w) t p u) e) s L
  switch_has S (turns T) = has (of_form refl (of_switch S T))

  continuing_has : {w : Observation} {t q u : Term} {k : Name} {p : Pattern} {e : Environment} {s : Step} {L : Life} {st : Standing} → Since n (observed (closure t e) q e) (continuing_body k (closure t e) p u e) L st
      → Turns w (observed (closure t e) q e) (continuing_body k (closure t e) p u e) s L st → Has (closure (continuing w t q k p u) e) s L
  continuing_has S (turns T) = has (of_form refl (of_continuing S T))

  body_turns : {w : Observation} {W : Watched} {B : Takeover} {s : Step} {L M : Life} {Q : Process} {ys : List Data} → Outputs n Q M ys → Has Q s M → Turns w W B s L (fired Q M)
  body_turns A (has S) = turns (as_body (gives A S))

  -- what keeps its source takes over where that has lived
  continuing_goes : {t : Term} (u : Term) (p : Pattern) {e : Environment} (k : Name) → Goes (closure t e) → ((f : Environment) → AllGo f → Goes (closure u f)) → AllGo e
      → (s : Step) (K : Life) (v : Data) → Lived (closure t e) K → Goes (continuing_body k (closure t e) p u e s K v)
  continuing_goes {t = t} u p {e = e} k G U E s K v (lived A) = U _ (bound_go p v (go_process (frozen_goes K (wait_of s) G A, subst Goes (sym (frozen_base (closure t e) K (wait_of s))) G) E))

  -- ## Members

  data HasEach (ms : Members) (s : Step) (L : Life) : Type 0 where
    has_each : {o : Outcome} {c : Cost} → Each n ms s L o c → HasEach ms s L

  with_one : {k : KeyData} {P : Process} {ms : Members} {s : Step} {L : Life} {ys : List Data} → Outputs n P L ys → Has P s L → HasEach ms s L → HasEach (member k P ms) s L
  with_one A (has {o = gave y r} S) (has_each B) = has_each (one_more (gives A S) (others_go_on B))
  with_one A (has {o = faulted x} S) B = has_each (one_more (gives A S) others_stop)

  each_steps : {ms : Members} (s : Step) {L : Life} → EachGoes ms → EachLived ms L → HasEach ms s L
  each_steps s none_goes none_lives = has_each no_more
  each_steps s (one_goes G M) (one_lives (lived A) B) = with_one A (G s _ _ A) (each_steps s M B)

  sees_all : {ms : Members} {q : Term} {e : Environment} {s : Step} {L : Life} {ys zs : List Data} → Tables n ms L ys → Outputs n (closure q e) (observed_life L ys) zs → HasEach ms s L
      → ((y : Data) → Has (closure q e) (step (wait_of s) (pair (input_of s) y)) (observed_life L ys)) → (o : Outcome) × ((c : Cost) × Sees n (observed_members ms q e) s L o c)
  sees_all A Z (has_each {o = faulted x} S) observer = (_, (_, by_members_observer A S stops))
  sees_all A Z (has_each {o = gave y r} S) observer = elim (observer y) [ has T ↦ (_, (_, by_members_observer A S (goes_on (gives Z T)))) ]

  add_goes : (k : KeyData) {P : Process} {ms : Members} → Goes P → EachGoes ms → EachGoes (add k P ms)
  add_goes k G none_goes = one_goes G none_goes
  add_goes k {P} G (one_goes {k = l} {P = Q} {ms = ms} H M) = by_test (equal_keys k l) (add_goes k G M)
    where
      by_test : (b : Bool) → EachGoes (add k P ms) → EachGoes (cond b (member k P ms) (member l Q (add k P ms)))
      by_test true R = one_goes G M
      by_test false R = one_goes H R

  drop_goes : (k : KeyData) {ms : Members} → EachGoes ms → EachGoes (drop k ms)
  drop_goes k none_goes = none_goes
  drop_goes k (one_goes {k = l} {P = Q} {ms = ms} H M) = by_test (equal_keys k l) (drop_goes k M)
    where
      by_test : (b : Bool) → EachGoes (drop k ms) → EachGoes (cond b ms (member l Q (drop k ms)))
      by_test true R = M
      by_test false R = one_goes H R

  keep_goes : (f : Data → Evaluated Data) {ms qs : Members} → keep f ms ≡ answer qs → EachGoes ms → EachGoes qs
  keep_goes f e none_goes = subst EachGoes (same_answer e) none_goes
  keep_goes f e (one_goes {k = k} {P = P} {ms = ms} H M) =
      let asked = bound_answer (f (value_of_key k)) (λ b. keep f ms >>= λ rest. answer (cond (is_high b) (member k P rest) rest)) e in
      let rest = bound_answer (keep f ms) (λ rest. answer (cond (is_high asked.0) (member k P rest) rest)) asked.2 in
      subst EachGoes (same_answer rest.2) (by_test (is_high asked.0) (keep_goes f rest.1 M))
    where
      by_test : {rest : Members} (b : Bool) → EachGoes rest → EachGoes (cond b (member k P rest) rest)
      by_test true R = one_goes H R
      by_test false R = R

  each_frozen_goes : {ms : Members} {L : Life} (d : ℕ) → EachGoes ms → EachLived ms L → EachGoes (each_frozen ms L d)
  each_frozen_goes d none_goes none_lives = none_goes
  each_frozen_goes d (one_goes G M) (one_lives {L = L} (lived A) B) = one_goes (frozen_goes L d G A) (each_frozen_goes d M B)

  members_go : (x : Name) {e : Environment} → AllGo e → EachGoes (members_of x e)
  members_go x go_nothing = none_goes
  members_go x (go_value {x = y} {e = e} E) = by_test (bytes_eq x y) (members_go x E)
    where
      by_test : (b : Bool) → EachGoes (members_of x e) → EachGoes (cond b no_members (members_of x e))
      by_test true M = none_goes
      by_test false M = M
  members_go x (go_process {x = y} {e = e} H E) = by_test (bytes_eq x y) (members_go x E)
    where
      by_test : (b : Bool) → EachGoes (members_of x e) → EachGoes (cond b no_members (members_of x e))
      by_test true M = none_goes
      by_test false M = M
  members_go x (go_members {x = y} {ms = ms} {e = e} N E) = by_test (bytes_eq x y) (members_go x E)
    where
      by_test : (b : Bool) → EachGoes (members_of x e) → EachGoes (cond b ms (members_of x e))
      by_test true M = N
      by_test false M = M

  -- what a form of members was made with
  abbrev members_of_made : Members → Made → Members
  members_of_made ms (members_made qs) = qs
  members_of_made ms m = ms

  abbrev assembled : Evaluated Members → Evaluated Made
  assembled q = q >>= λ ms. answer (members_made ms)

  no_gathering : {x : ValueFault} {t : Term} {e : Environment} {s : Step} {L : Life} {o : Outcome} {c : Cost} → ((y : Data) → make n t e y ≡ failed x) → Sample n (closure t e) s L o c → IsGave o → ⊥
  no_gathering k (of_constants h) z = z
  no_gathering {s = s} {L = L} k (of_form h F) z = absurd (let e = sym (k (first_input s L)) ∙ h in cc)

  gathering_fails : {x : ValueFault} {t : Term} {e : Environment} (s : Step) {L : Life} {ws : List Data} → ((y : Data) → make n t e y ≡ failed x) → Outputs n (closure t e) L ws → Has (closure t e) s L
  gathering_fails s k not_begun = has (of_constants (k (input_of s)))
  gathering_fails s k (and_gave A B) = absurd (no_gathering k B tt)

  from_gathered : {i : Collection} {e : Environment} {ms : Members} {m : Made} {s : Step} {L : Life} {o : Outcome} {c : Cost} → m ≡ members_made ms → Form n (gathered i) e m s L o c → IsGave o → EachLived ms (s ∷ L)
  from_gathered {s = s} {L = L} k (of_gathered {ms = qs} {o = gave y r} A) h = subst (λ ms. EachLived ms (s ∷ L)) (ap (members_of_made qs) k) (each_lived A tt)
  from_gathered k (of_gathered {o = faulted x} A) h = absurd h

  gathered_at : {i : Collection} {e : Environment} {ms : Members} {s : Step} {L : Life} {o : Outcome} {c : Cost} → collect n.functions i e ≡ answer ms → Sample n (closure (gathered i) e) s L o c → IsGave o → EachLived ms (s ∷ L)
  gathered_at k (of_constants h) z = absurd z
  gathered_at k (of_form {m = m} h F) z = from_gathered (ap (λ q. made_of q m) (sym h ∙ ap assembled k)) F z

  gathered_lived : {i : Collection} {e : Environment} {ms : Members} {L : Life} {ws : List Data} → collect n.functions i e ≡ answer ms → Outputs n (closure (gathered i) e) L ws → EachLived ms L
  gathered_lived {ms = ms} k not_begun = nobody_lived ms
  gathered_lived k (and_gave A B) = gathered_at k B tt

  with_gathered : {i : Collection} {e : Environment} {ms : Members} {s : Step} {L : Life} → collect n.functions i e ≡ answer ms → HasEach ms s L → Has (closure (gathered i) e) s L
  with_gathered k (has_each S) = has (of_form (ap assembled k) (of_gathered S))

  -- members that are kept
  from_releasing : {w : Observation} {i : Collection} {q u : Term} {k : Name} {p : Pattern} {e : Environment} {ms : Members} {m : Made} {s : Step} {L : Life} {o : Outcome} {c : Cost} → m ≡ members_made ms → Form n (releasing w i q k p u) e m s L o c → IsGave o
      → Stood (observed_members ms q e) (body_with_members k ms p u e) (s ∷ L)
  from_releasing {q = q} {u = u} {k = k} {p = p} {e = e} {s = s} {L = L} j (of_releasing {ms = qs} S T) h =
      subst (λ ms. Stood (observed_members ms q e) (body_with_members k ms p u e) (s ∷ L)) (ap (members_of_made qs) j) (turn_stood S T h)

  releasing_at : {w : Observation} {i : Collection} {q u : Term} {k : Name} {p : Pattern} {e : Environment} {ms : Members} {s : Step} {L : Life} {o : Outcome} {c : Cost} → collect n.functions i e ≡ answer ms → Sample n (closure (releasing w i q k p u) e) s L o c → IsGave o
      → Stood (observed_members ms q e) (body_with_members k ms p u e) (s ∷ L)
  releasing_at j (of_constants h) z = absurd z
  releasing_at j (of_form {m = m} h F) z = from_releasing (ap (λ q. made_of q m) (sym h ∙ ap assembled j)) F z

  releasing_stood : {w : Observation} {i : Collection} {q u : Term} {k : Name} {p : Pattern} {e : Environment} {ms : Members} {L : Life} {ws : List Data} → collect n.functions i e ≡ answer ms → Outputs n (closure (releasing w i q k p u) e) L ws
      → Stood (observed_members ms q e) (body_with_members k ms p u e) L
  releasing_stood {q = q} {e = e} {ms = ms} j not_begun = still_waits at_start (nothing_watched (observed_members ms q e))
  releasing_stood j (and_gave A B) = releasing_at j B tt

  releasing_has : {w : Observation} {i : Collection} {q u : Term} {k : Name} {p : Pattern} {e : Environment} {ms : Members} {s : Step} {L : Life} {st : Standing} → collect n.functions i e ≡ answer ms → Since n (observed_members ms q e) (body_with_members k ms p u e) L st
      → Turns w (observed_members ms q e) (body_with_members k ms p u e) s L st → Has (closure (releasing w i q k p u) e) s L
  releasing_has j S (turns T) = has (of_form (ap assembled j) (of_releasing S T))

  releasing_goes : {ms : Members} (u : Term) (p : Pattern) {e : Environment} (k : Name) → EachGoes ms → ((f : Environment) → AllGo f → Goes (closure u f)) → AllGo e
      → (s : Step) (K : Life) (v : Data) → EachLived ms K → Goes (body_with_members k ms p u e s K v)
  releasing_goes u p k M U E s K v A = U _ (bound_go p v (go_members (each_frozen_goes (wait_of s) M A) E))

  -- ## Edits

  -- the members that an edit made have lived
  data HasEdited (q : Evaluated Members) (L : Life) : Type 0 where
    has_edited : {ms : Members} → q ≡ answer ms → EachLived ms L → HasEdited q L

  by_edit : {w : Observation} (q : Evaluated Members) {s : Step} {y : Data} {r : _} {o : Outcome} {c : Cost} → Edited n w (Some q) s (gave y r) o c → IsGave o → HasEdited q (s ∷ [])
  by_edit (answer ms) (edit_now {o' = gave z k} A) h = has_edited refl (each_lived A tt)
  by_edit (answer ms) (edit_now {o' = faulted x} A) h = absurd h
  by_edit (failed x) edit_failed h = absurd h

  ran_edited : {w : Observation} (E : Data → Evaluated Members) (qs : Members) (s : Step) (M : Life) (q : Option Data) {o o' : Outcome} {c d : Cost}
      → Each n qs (without_event s) (with_inputs first_of M) o c → Edited n w (option_map E (unless_faulted o q)) (without_event s) o o' d → IsGave o' → HasEdited (edited E qs q) (with_inputs first_of (s ∷ kept_before q M))
  ran_edited E qs s M None {o = gave y k} G no_edit h = has_edited refl (each_lived G tt)
  ran_edited E qs s M (Some v) {o = gave y k} G D h = by_edit (E v) D h
  ran_edited E qs s M q {o = faulted x} G no_edit h = absurd h

  -- the members that run after a life: each goes, and they have lived since the last edit
  data EditsRun (E : Edit) (ms : Members) (L : Life) : Type 0 where
    edits_run : {qs : Members} → which_run E ms L ≡ answer qs → EachGoes qs → EachLived qs (since_edit L) → EditsRun E ms L

  -- an edit of members that go, and have lived, makes such
  abbrev EditGoes : Edit → Type 0
  EditGoes E = (M : Life) (s : Step) (qs rs : Members) (v : Data) → EachGoes qs → EachLived qs M → E M s qs v ≡ answer rs → EachGoes rs

  edited_go : (E : Edit) → EditGoes E → (M : Life) (s : Step) (qs rs : Members) (q : Option Data) → EachGoes qs → EachLived qs M → edited (E M s qs) qs q ≡ answer rs → EachGoes rs
  edited_go E F M s qs rs None G A e = subst EachGoes (same_answer e) G
  edited_go E F M s qs rs (Some v) G A e = F M s qs rs v G A e

  from_editing : {w : Observation} {i u : Collection} {k : Name} {p : Pattern} {e : Environment} {ms : Members} {m : Made} {s : Step} {L : Life} {o : Outcome} {c : Cost} → EditGoes (edit_of n.functions k p u e) → EditsRun (edit_of n.functions k p u e) ms L
      → m ≡ members_made ms → Form n (editing w i k p u) e m s L o c → IsGave o → EditsRun (edit_of n.functions k p u e) ms (s ∷ L)
  from_editing {u = u} {k = k} {p = p} {e = e} {ms = ms} {s = s} {L = L} F (edits_run {qs = qs} R G A) j (of_editing {ms = ns} {qs = rs} H B D) h =
      let E = edit_of n.functions k p u e in
      let same : rs ≡ qs = same_answer (sym H ∙ ap (λ ms. which_run E ms L) (ap (members_of_made ns) j) ∙ R) in
      elim (ran_edited (E (since_edit L) s rs) rs s (since_event L) (event_beside s) B D h) [
        | has_edited {ms = fs} q C ↦
            let is : edited (E (since_edit L) s qs) qs (event_beside s) ≡ answer fs = subst (λ qs. edited (E (since_edit L) s qs) qs (event_beside s) ≡ answer fs) same q in
            edits_run (ap (λ o. o >>= λ qs. edited (E (since_edit L) s qs) qs (event_beside s)) R ∙ is) (edited_go E F (since_edit L) s qs fs (event_beside s) G A is) C
      ]

  editing_at : {w : Observation} {i u : Collection} {k : Name} {p : Pattern} {e : Environment} {ms : Members} {s : Step} {L : Life} {o : Outcome} {c : Cost} → EditGoes (edit_of n.functions k p u e) → EditsRun (edit_of n.functions k p u e) ms L
      → collect n.functions i e ≡ answer ms → Sample n (closure (editing w i k p u) e) s L o c → IsGave o → EditsRun (edit_of n.functions k p u e) ms (s ∷ L)
  editing_at F R j (of_constants h) z = absurd z
  editing_at F R j (of_form {m = m} h D) z = from_editing F R (ap (λ q. made_of q m) (sym h ∙ ap assembled j)) D z

  editing_runs : {w : Observation} {i u : Collection} {k : Name} {p : Pattern} {e : Environment} {ms : Members} {L : Life} {ws : List Data} → EditGoes (edit_of n.functions k p u e) → EachGoes ms
      → collect n.functions i e ≡ answer ms → Outputs n (closure (editing w i k p u) e) L ws → EditsRun (edit_of n.functions k p u e) ms L
  editing_runs {ms = ms} F G j not_begun = edits_run refl G (nobody_lived ms)
  editing_runs F G j (and_gave A B) = editing_at F (editing_runs F G j A) j B tt

  data HasEdit (w : Observation) (q : Option (Evaluated Members)) (s : Step) (o : Outcome) : Type 0 where
    has_edit : {o' : Outcome} {c : Cost} → Edited n w q s o o' c → HasEdit w q s o

  edit_fires : {w : Observation} (s : Step) (o : Outcome) (q : Evaluated Members) → ((rs : Members) → q ≡ answer rs → EachGoes rs) → HasEdit w (Some q) s o
  edit_fires s o (failed x) F = has_edit edit_failed
  edit_fires s o (answer rs) F = elim (each_steps s (F rs refl) (nobody_lived rs)) [ has_each S ↦ has_edit (edit_now S) ]

  edits_fire : {w : Observation} (E : Data → Evaluated Members) (s : Step) (o : Outcome) (q : Option Data) → ((v : Data) (rs : Members) → E v ≡ answer rs → EachGoes rs) → HasEdit w (option_map E q) s o
  edits_fire E s o None F = has_edit no_edit
  edits_fire E s o (Some v) F = edit_fires s o (E v) (F v)

  with_editing : {w : Observation} {i u : Collection} {k : Name} {p : Pattern} {e : Environment} {ms qs : Members} {s : Step} {L : Life} → collect n.functions i e ≡ answer ms → which_run (edit_of n.functions k p u e) ms L ≡ answer qs
      → HasEach qs (without_event s) (since_edit L) → ((v : Data) (rs : Members) → edit_of n.functions k p u e (since_edit L) s qs v ≡ answer rs → EachGoes rs) → Has (closure (editing w i k p u) e) s L
  with_editing {u = u} {k = k} {p = p} {e = e} {qs = qs} {s = s} {L = L} j R (has_each {o = o} S) F =
      elim (edits_fire (edit_of n.functions k p u e (since_edit L) s qs) (without_event s) o (unless_faulted o (event_beside s)) F) [ has_edit D ↦ has (of_form (ap assembled j) (of_editing R S D)) ]

  one_of : {a b : Evaluated Members} {ms : Members} (t : Bool) → (a ≡ answer ms → EachGoes ms) → (b ≡ answer ms → EachGoes ms) → cond t a b ≡ answer ms → EachGoes ms
  one_of true F G q = F q
  one_of false F G q = G q

  mutual
    pub total : (t : Term) (e : Environment) → IsTrue (is_without_calls t) → AllGo e → Goes (closure t e)
    total (primitive p) e h E s L ws O = has (of_form refl (of_primitive refl))
    total (reference (started w k)) e h E s L ws O = elim (run_lived O) [ lived A ↦ with_run A (started_goes w k E s L _ A) ]
    total (reference (call g vs)) e h E s L ws O = absurd (no_truth h)
    total (joined j f g) e h E s L ws O =
        let c = both_without (is_without_calls f) (is_without_calls g) h in
        elim (join_lived O) [ joined_so A B ↦ with_left A B (total f e c.0 E (newest_left j s) (left_life j L) _ A) (λ y zs B'. total g e c.1 E (newest_right j s y) _ _ B') ]
    total (sided d t) e h E s L ws O =
        elim (side_lived O) [ lived A ↦ with_part A (total t e h E _ _ _ A) ]
    total (headed LoopPre i t) e h E s L ws O =
        elim (known (eval i (scope_around n.functions e))) [
          | refused x k ↦ constants_fail s (ap opened k) O
          | answered v k ↦ elim (loop_lived k O) [ looped A R ↦ elim R [ lived B ↦ with_loop k A B (total t e h E _ _ _ B) ] ]
        ]
    total (headed Initialized i t) e h E s L ws O =
        elim (known (eval i (scope_around n.functions e))) [
          | refused x k ↦ constants_fail s (ap opened k) O
          | answered v k ↦ elim (initialized_lived O) [ lived A ↦ with_initial k A (total t e h E s L _ A) ]
        ]
    total (headed Replaced i t) e h E s L ws O =
        elim (known (eval i (scope_around n.functions e))) [
          | refused x k ↦ constants_fail s (ap opened k) O
          | answered v k ↦ elim (replaced_lived k O) [ lived A ↦ with_replaced k A (total t e h E _ _ _ A) ]
        ]
    total (headed Followed i t) e h E s L ws O =
        elim (followed_lived O) [ lived A ↦ with_followed A (total t e h E s L _ A) ]
    total (transformed f t) e h E s L ws O =
        elim (known (apply f (first_input s L) (scope_around n.functions e))) [
          | refused x k ↦ constants_fail s (ap opened k) O
          | answered v k ↦ elim (transformed_lived s k O) [ lived A ↦ with_transformed k A (total t e h E _ _ _ A) ]
        ]
    total (switching (Basic w) t p u) e h E s L ws O =
        let c = both_without (is_without_calls t) (is_without_calls u) h in
        let body : (s : Step) (K : Life) (v : Data) → Lived (closure t e) K → Goes (body_of p u e v) = λ s K v A. total u _ c.1 (bound_go p v E) in
        elim (switch_stood O) [
          | still_waits S R ↦ elim R [
            | itself_lived A ↦
                let seen = sees_itself A (total t e c.0 E s L _ A) in
                switch_has S (waiting_turns w seen.0 seen.1.1 (λ v. body s L v (lived A) s [] _ not_begun))
          ]
          | had_event S R ↦ elim R [ lived A ↦ switch_has S (body_turns A (since_goes S refl body s _ _ A)) ]
        ]
    total (switching (Recurring w) t p u) e h E s L ws O =
        let c = both_without (is_without_calls t) (is_without_calls u) h in
        elim (recurring_runs O) [
          | lived A ↦
              with_running A (run_has (body_of p u e) (last_event L) (λ A. total t e c.0 E _ _ _ A) (λ v A. total u (bind p v e) c.1 (bound_go p v E) _ _ _ A) A) (λ v. total u (bind p v e) c.1 (bound_go p v E) _ [] _ not_begun)
        ]
    total (continuing w t q k p u) e h E s L ws O =
        let c = both_without (is_without_calls t) (is_without_calls q && is_without_calls u) h in
        let d = both_without (is_without_calls q) (is_without_calls u) c.1 in
        let body = continuing_goes u p k (total t e c.0 E) (λ f F. total u f d.1 F) E in
        elim (continuing_stood O) [
          | still_waits S R ↦ elim R [
            | both_lived A Z ↦
                let seen = sees_both A Z (total t e c.0 E s L _ A) (λ y. total q e d.0 E _ _ _ Z) in
                continuing_has S (waiting_turns w seen.0 seen.1.1 (λ v. body s L v (lived A) s [] _ not_begun))
          ]
          | had_event S R ↦ elim R [ lived A ↦ continuing_has S (body_turns A (since_goes S refl body s _ _ A)) ]
        ]
    total (gathered i) e h E s L ws O =
        elim (known (collect n.functions i e)) [
          | refused x k ↦ gathering_fails s (λ y. ap assembled k) O
          | answered ms k ↦ with_gathered k (each_steps s (collects_go i e h E ms k) (gathered_lived k O))
        ]
    total (releasing w i q k p u) e h E s L ws O =
        let c = both_without (collects_without_calls i) (is_without_calls q && is_without_calls u) h in
        let d = both_without (is_without_calls q) (is_without_calls u) c.1 in
        elim (known (collect n.functions i e)) [
          | refused x j ↦ gathering_fails s (λ y. ap assembled j) O
          | answered ms j ↦
              let M = collects_go i e c.0 E ms j in
              let body = releasing_goes u p k M (λ f F. total u f d.1 F) E in
              elim (releasing_stood j O) [
                | still_waits S R ↦ elim R [
                  | all_lived A Z ↦
                      let seen = sees_all A Z (each_steps s M (tables_lived A)) (λ y. total q e d.0 E _ _ _ Z) in
                      releasing_has j S (waiting_turns w seen.0 seen.1.1 (λ v. body s L v (tables_lived A) s [] _ not_begun))
                ]
                | had_event S R ↦ elim R [ lived A ↦ releasing_has j S (body_turns A (since_goes S refl body s _ _ A)) ]
              ]
        ]
    total (editing w i k p u) e h E s L ws O =
        let c = both_without (collects_without_calls i) (collects_without_calls u) h in
        let edit : EditGoes (edit_of n.functions k p u e) =
        λ M r qs rs v G A q. collects_go u _ c.1 (bound_go p v (go_members (each_frozen_goes (wait_of r) G A) E)) rs q in
        elim (known (collect n.functions i e)) [
          | refused x j ↦ gathering_fails s (λ y. ap assembled j) O
          | answered ms j ↦ elim (editing_runs edit (collects_go i e c.0 E ms j) j O) [
            | edits_run {qs = qs} R G A ↦
                with_editing j R (each_steps (without_event s) G A) (λ v rs q. edit (since_edit L) s qs rs v G A q)
          ]
        ]
    total (staged x f g) e h E s L ws O =
        let c = both_without (is_without_calls f) (is_without_calls g) h in
        elim (join_lived (as_joined O)) [ joined_so A B ↦ as_staged (with_left A B (total f e c.0 E s L _ A) (λ y zs B'. total g e c.1 E (step (wait_of s) y) _ _ B')) ]

    -- each member that a collection has goes
    collects_go : (i : Collection) (e : Environment) → IsTrue (collects_without_calls i) → AllGo e → (ms : Members) → collect n.functions i e ≡ answer ms → EachGoes ms
    collects_go (without_members k t) e h E ms q = subst EachGoes (same_answer q) none_goes
    collects_go (used x) e h E ms q = subst EachGoes (same_answer q) (members_go x E)
    collects_go (added i j t) e h E ms q =
        let c = both_without (collects_without_calls i) (is_without_calls t) h in
        let members = bound_answer (collect n.functions i e) (λ ms. eval j (scope_around n.functions e) >>= λ v. answer (add (as_key v) (closure t e) ms)) q in
        let key = bound_answer (eval j (scope_around n.functions e)) (λ v. answer (add (as_key v) (closure t e) members.0)) members.2 in
        subst EachGoes (same_answer key.2) (add_goes (as_key key.0) (total t e c.1 E) (collects_go i e c.0 E members.0 members.1))
    collects_go (dropped i j) e h E ms q =
        let members = bound_answer (collect n.functions i e) (λ ms. eval j (scope_around n.functions e) >>= λ v. answer (drop (as_key v) ms)) q in
        let key = bound_answer (eval j (scope_around n.functions e)) (λ v. answer (drop (as_key v) members.0)) members.2 in
        subst EachGoes (same_answer key.2) (drop_goes (as_key key.0) (collects_go i e h E members.0 members.1))
    collects_go (kept i f) e h E ms q =
        let members = bound_answer (collect n.functions i e) (λ ms. keep (λ x. apply f x (scope_around n.functions e)) ms) q in
        keep_goes (λ x. apply f x (scope_around n.functions e)) members.2 (collects_go i e h E members.0 members.1)
    collects_go (chosen j a b) e h E ms q =
        let c = both_without (collects_without_calls a) (collects_without_calls b) h in
        let test = bound_answer (eval j (scope_around n.functions e)) (λ v. cond (is_high v) (collect n.functions a e) (collect n.functions b e)) q in
        one_of (is_high test.0) (collects_go a e c.0 E ms) (collects_go b e c.1 E ms) test.2

  found : {P : Process} {s : Step} {L : Life} {ws : List Data} → Outputs n P L ws → Has P s L → (o : Outcome) × ((c : Cost) × Gives n P (s ∷ L) o c)
  found O (has S) = (_, (_, gives O S))

  mutual
    -- each process that calls no template, and whose frozen parts have lived, goes
    pub process_total : {P : Process} → HasNoCalls P → HasLived n P → Goes P
    process_total (closed_without_calls {t = t} {e = e} h N) (closed E) = total t e h (all_go N E)
    process_total (frozen_without_calls N) (was_frozen {d = d} P H) = resumed_goes d (process_total N P) H

    each_total : {ms : Members} → EachHasNoCalls ms → EachHasLived n ms → EachGoes ms
    each_total none_without_calls none_has_lived = none_goes
    each_total (one_without_calls N M) (one_has_lived P R) = one_goes (process_total N P) (each_total M R)

    base_total : {P : Process} → HasNoCalls P → HasLived n P → Goes (base P)
    base_total (closed_without_calls {t = t} {e = e} h N) (closed E) = total t e h (all_go N E)
    base_total (frozen_without_calls N) (was_frozen P H) = base_total N P

    all_go : {e : Environment} → HaveNoCalls e → HaveLived n e → AllGo e
    all_go none_calls none_lived = go_nothing
    all_go (value_without_calls N) (value_beside E) = go_value (all_go N E)
    all_go (members_without_calls M N) (collection_lived R E) = go_members (each_total M R) (all_go N E)
    all_go (process_without_calls M N) (process_lived P E) = go_process (process_total M P, base_total M P) (all_go N E)

  pub some_outcome : {P : Process} → HasNoCalls P → HasLived n P → (s : Step) (L : Life) {ws : List Data} → Outputs n P L ws → (o : Outcome) × ((c : Cost) × Gives n P (s ∷ L) o c)
  some_outcome N H s L O = found O (process_total N H s L _ O)
