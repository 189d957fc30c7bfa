-- A typed process gives values of its output type.
use Rattle.std.proofs.Common.{ℕ, suc, ◌≡◌, ◌∙◌, Bool, true, false, cond, List, [], ◌∷◌, map, Option, Some, None, refl, sym, ap, subst}
use Rattle.std.specs.Prelude.{⊤, bytes_eq, slice_get, option_map}
use Rattle.std.proofs.lemmas.Option.{same_Some}
use Rattle.sf_value.specs.Values.{Name, KeyKind, Kind, pair_kind, event_kind, table_kind, Data, pair, HasKind, has_pair, first_of, second_of, has_no_event, has_no_rows}
use mathlib.Core.Path.{subst₂}
use Rattle.sf_operator.specs.Kinds.{found_then, payload_of}
use Rattle.sf_operator.proofs.SameKinds.{only_is, found_is}
use Rattle.sf_operator.proofs.Yielding.{as_kind, yields_as}
use Rattle.sf_func.specs.Registries.{TypesByName, AnswersByName, KeepTheirTypes}
use Rattle.sf_expr.specs.Expressions.{Pattern, Expression, Function}
use Rattle.sf_expr.specs.Evaluation.{Evaluated, answer, failed, ◌>>=◌, Scope, eval, apply}
use Rattle.sf_expr.specs.Typing.{Names, AddsNames, adds_nothing, adds_name, adds_both, HasType, FunctionTakes}
use Rattle.sf_expr.specs.Soundness.{Yields, yields, fails, ScopeHas, has_no_names, has_name, has_other}
use Rattle.sf_term.specs.declared.form.Accumulation.{Accumulation}
use Rattle.sf_term.specs.declared.form.Accumulation.TheVariants.{EdgeBy, AccumBy, AccumHoldBy, Scan}
use Rattle.sf_term.specs.declared.form.Side.TheVariants.{First, Second}
use Rattle.sf_term.specs.declared.form.Observation.{Observation}
use Rattle.sf_term.specs.declared.form.Start.{Start}
use Rattle.sf_term.specs.declared.form.Start.TheVariants.{Run, Fresh}
use Rattle.sf_term.specs.declared.form.Observation.TheVariants.{Immediate, Delayed}
use Rattle.sf_term.specs.Trees.{Chain, Primitive, Term, primitive, reference, started, call, Arguments, joined, sided, headed, transformed, switching, continuing, gathered, releasing, editing, staged, Collection, Template, Templates, template_named}
use Rattle.sf_mean.specs.Lives.{Step, wait_of, input_of, Life, Environment, scope_around, bind, Process, process_of, base, process_started, passing, closure, empty, known, collected, Members, first_input}
use Rattle.sf_mean.specs.Collections.{as_key, add, drop, keep, collect}
use Rattle.sf_mean.specs.Formulas.{timed_formula, occurring, next_value, accumulation, event_where, accumulated_formula, value_formula, side_replaced, apply_chain, formula, is_high}
use Rattle.sf_mean.specs.Meaning.{Network, Outcome, gave, faulted, recorded, Cost, Made, value_made, process_made, members_made, argument_process, argued, process_called, referred, make, Watched, itself, observed, Takeover, Standing, waits, fired, stands_after, switched_value, body_of, event_beside, or_earlier, last_event, kept_before, since_event, what_runs, unless_faulted, edit_of, since_edit, edited, which_run, Gives, gives, Outputs, not_begun, and_gave, Sample, of_constants, of_form, of_resumed, Form, of_primitive, of_reference, of_join, of_side, of_loop, of_initialized, of_replaced, of_followed, of_transformed, of_switch, of_continuing, of_recurring, of_gathered, of_releasing, of_editing, of_stages, Next, goes_on, stops, Loops, no_loop, and_looped, Sees, beside_values, by_observer, Since, at_start, watched, had_fired, SwitchTurn, while_waiting, as_body, Switched, after_fault, after_value, Fires, no_event_yet, event_now, Each, no_more, one_more, Others, others_go_on, others_stop, Edited, no_edit, edit_failed, edit_now, observed_members, by_members_observer, Tables, no_tables, and_table}
use Rattle.sf_mean.specs.Contexts.{Signature, signature_of, signature_named, parameters_inside, value, process, collection, Bindings, bindings_inside, bound_values, types_of_process, process_named, outer_context, Context, names_of_values}
use Rattle.sf_mean.specs.Typing.{accumulated_argument, accumulated_kind, ChainTakes, lone_takes, chained_takes, on_first_takes, on_second_takes, on_both_takes, fanned_takes, PrimitiveTakes, bare_takes, probe_takes, never_takes, value_takes, timed_takes, selected_takes, accumulated_takes, arrow_takes, fused_takes, Takes, takes, FormTakes, primitive_takes, started_takes, call_takes, Collects, collects_none, collects_used, collects_added, collects_dropped, collects_kept, collects_chosen, ArgumentsFit, no_argument_fits, value_fits, process_fits, collection_fits, closed_fits, sequence_takes, parallel_takes, fan_takes, first_takes, second_takes, loop_takes, initialized_takes, replaced_takes, followed_takes, transformed_takes, switch_takes, continuing_takes, recurring_takes, gathered_takes, releasing_takes, editing_takes, stages_take}
use Rattle.sf_mean.specs.Soundness.{NetworkIsTyped, Have, have_nothing, have_more, LifeHas, no_steps, more_steps, EnvironmentHas, has_nothing, has_value, has_process, has_members, ProcessTakes, closure_takes, resumed_takes, MembersTake, member_takes, OutcomeHas}
use Rattle.sf_mean.proofs.TypedMembers.{bound_answer, frozen_takes, key_is, Gathers, gathers_none, gathers_added, gathers_dropped, gathers_kept, gathers_frozen, used_gathers, RowsOf, rows_of, no_rows_of, rows_typed, with_row_of}
use Rattle.sf_mean.proofs.TypedPrimitives.{before_has, first_has, bare_typed, value_typed, timed_typed, selected_typed, event_comes, Comes, comes_none, comes_some, occurring_comes, event_has}
use Rattle.sf_mean.proofs.TypedLives.{first_is, second_is, with_inputs_has, with_first_has, after_has, fed_has, first_input_has, outcome_is, changed_has, combined_has, newest_is, answered_has, LifeIf, life_if, beside_if, relay_if}

-- expressions and functions have values of their types, or faults
abbrev pub EvalsTyped : Type 0
EvalsTyped = (R : Names) (i : Expression) (t : Kind) (s : Scope) → HasType R i t → ScopeHas s R → Yields t (eval i s)

abbrev pub AppliesTyped : Type 0
AppliesTyped = (R : Names) (f : Function) (a b : Kind) (x : Data) (s : Scope) → FunctionTakes R f a b → HasKind x a → ScopeHas s R → Yields b (apply f x s)

-- what is known of an answer that is changed
changed_yields : {t u : Kind} {q : Evaluated Data} (f : Data → Data) → ((v : Data) → HasKind v t → HasKind (f v) u) → Yields t q → Yields u (q >>= λ v. answer (f v))
changed_yields f m (yields h) = yields (m _ h)
changed_yields f m fails = fails

-- what is known of an answer that is followed by another
next_yields : {t u : Kind} {q : Evaluated Data} (f : Data → Evaluated Data) → Yields t q → ((v : Data) → HasKind v t → Yields u (f v)) → Yields u (q >>= f)
next_yields f (yields h) m = m _ h
next_yields f fails m = fails

-- the value of an answer
abbrev pub made_in : Data → Evaluated Made → Data
made_in d (answer (value_made v)) = v
made_in d (answer m) = d
made_in d (failed x) = d

made_has : {t : Kind} {q : Evaluated Data} {v : Data} → Yields t q → (q >>= λ v. answer (value_made v)) ≡ answer (value_made v) → HasKind v t
made_has {t = t} {v = v} (yields {d = d} h) e = subst (λ w. HasKind w t) (ap (made_in d) e) h
made_has fails e = absurd cc

-- the values of an environment have the types of their names, and functions keep theirs
pub environment_scope : {n : Network} (φ : AnswersByName) (fs : TypesByName) {e : Environment} {bs : Bindings} → KeepTheirTypes fs φ → EnvironmentHas n e bs → ScopeHas (scope_around φ e) (bound_values fs bs)
environment_scope φ fs K has_nothing = has_no_names K
environment_scope φ fs K (has_value h E) = has_name h (environment_scope φ fs K E)
environment_scope φ fs K (has_process P E) = has_other (environment_scope φ fs K E)
environment_scope φ fs K (has_members N M E) = has_other (environment_scope φ fs K E)

-- the environment inside a pattern has its names
bind_has : {n : Network} {p : Pattern} {c : Kind} {R S : Names} {v : Data} {e : Environment} {bs : Bindings} → AddsNames p c R S → HasKind v c → EnvironmentHas n e bs → EnvironmentHas n (bind p v e) (bindings_inside p c bs)
bind_has adds_nothing h E = E
bind_has adds_name h E = has_value h E
bind_has (adds_both A B) (has_pair h k) E = bind_has B k (bind_has A h E)

-- the process of a name has its types
process_has : {n : Network} (k : Name) {e : Environment} {bs : Bindings} {a b : Kind} → EnvironmentHas n e bs → process_named k bs ≡ Some (a, b) → ProcessTakes n (process_of k e) a b
process_has k has_nothing h = absurd cc
process_has {n} k {a} {b} (has_value {x = x} {t = t} {e = e} {bs = bs} v E) h = by_test (bytes_eq k x) h (process_has k E)
  where
    by_test : (s : Bool) → cond s (types_of_process (value t)) (process_named k bs) ≡ Some (a, b) → (process_named k bs ≡ Some (a, b) → ProcessTakes n (process_of k e) a b) → ProcessTakes n (cond s passing (process_of k e)) a b
    by_test true h f = absurd cc
    by_test false h f = f h
process_has {n} k {a} {b} (has_process {x = x} {P = P} {a = c} {b = d} {e = e} {bs = bs} T E) h = by_test (bytes_eq k x) h (process_has k E)
  where
    by_test : (s : Bool) → cond s (types_of_process (process c d)) (process_named k bs) ≡ Some (a, b) → (process_named k bs ≡ Some (a, b) → ProcessTakes n (process_of k e) a b) → ProcessTakes n (cond s P (process_of k e)) a b
    by_test true h f = let same : (c, d) ≡ (a, b) = same_Some _ _ h in subst₂ (ProcessTakes n P) (ap (λ (k : Kind × Kind). k.0) same) (ap (λ (k : Kind × Kind). k.1) same) T
    by_test false h f = f h
process_has {n} k {a} {b} (has_members {x = x} {k = j} {a = c} {b = d} {e = e} {bs = bs} N M E) h = by_test (bytes_eq k x) h (process_has k E)
  where
    by_test : (s : Bool) → cond s (types_of_process (collection j c d)) (process_named k bs) ≡ Some (a, b) → (process_named k bs ≡ Some (a, b) → ProcessTakes n (process_of k e) a b) → ProcessTakes n (cond s passing (process_of k e)) a b
    by_test true h f = absurd cc
    by_test false h f = f h

abbrev process_in : Process → Made → Process
process_in P (process_made Q) = Q
process_in P m = P

abbrev made_process : Process → Evaluated Made → Process
made_process P (answer m) = process_in P m
made_process P (failed x) = P

-- ## References

answers_one : {A : Type 0} {a b : A} → answer a ≡ answer b → a ≡ b
answers_one h = cc

-- what was made of what is referred to
referred_as : {q : Evaluated Process} {P : Process} → (q >>= λ P. answer (process_made P)) ≡ answer (process_made P) → q ≡ answer P
referred_as {q} {P} = each q
  where
    each : (q : Evaluated Process) → (q >>= λ P. answer (process_made P)) ≡ answer (process_made P) → q ≡ answer P
    each (answer Q) h = ap answer (ap (made_process P) h)
    each (failed x) h = absurd cc

-- what was made of members
abbrev members_in : Members → Made → Members
members_in ms (members_made qs) = qs
members_in ms m = ms

pub collected_as : (q : Evaluated Members) {ms : Members} → (q >>= λ ms. answer (members_made ms)) ≡ answer (members_made ms) → q ≡ answer ms
collected_as (answer qs) h = ap answer (ap (members_in qs) (answers_one h))
collected_as (failed x) h = absurd cc

-- what was made of an answer
closed_of : {A : Type 0} {P : Process} (q : Evaluated A) (f : A → Process) → (q >>= λ d. answer (f d)) ≡ answer P → (d : A) × (q ≡ answer d) × (f d ≡ P)
closed_of (answer d) f h = (d, refl, answers_one h)
closed_of (failed x) f h = absurd cc

-- the template with the header of a name
record TemplateOf (g : Name) (ts : Templates) (s : Signature) : Type 0 where
  template : Template
  place : ℕ
  named : template_named g ts ≡ Some template
  there : slice_get ts place ≡ Some template
  header : signature_of template ≡ s

template_found : (g : Name) (ts : Templates) (s : Signature) → signature_named g (map signature_of ts) ≡ Some s → TemplateOf g ts s
template_found g [] s h = absurd cc
template_found g (t ∷ ts) s h = by_test (bytes_eq g t.name) refl h (template_found g ts s)
  where
    by_test : (b : Bool) → bytes_eq g t.name ≡ b → cond b (Some (signature_of t)) (signature_named g (map signature_of ts)) ≡ Some s → (signature_named g (map signature_of ts) ≡ Some s → TemplateOf g ts s) → TemplateOf g (t ∷ ts) s
    by_test true e h later = record { template = t; place = 0; named = ap (λ b. cond b (Some t) (template_named g ts)) e; there = refl; header = same_Some _ _ h }
    by_test false e h later =
        let found = later h in
        record { template = found.template; place = suc found.place; named = ap (λ b. cond b (Some t) (template_named g ts)) e ∙ found.named; there = found.there; header = found.header }

-- a process began with its types
base_has : {n : Network} {P : Process} {a b : Kind} → ProcessTakes n P a b → ProcessTakes n (base P) a b
base_has (closure_takes K E T) = closure_takes K E T
base_has (resumed_takes T l) = base_has T

started_has : {n : Network} (w : Start) (k : Name) {e : Environment} {bs : Bindings} {a b : Kind} → EnvironmentHas n e bs → process_named k bs ≡ Some (a, b) → ProcessTakes n (process_started w k e) a b
started_has Run k E h = process_has k E h
started_has Fresh k E h = base_has (process_has k E h)

-- a term as an argument has its types
argument_has : {n : Network} {fs : TypesByName} {e : Environment} {bs : Bindings} {a b : Kind} → NetworkIsTyped fs n → EnvironmentHas n e bs → (t : Term) → Takes (outer_context fs bs n.templates) t a b → ProcessTakes n (argument_process t e) a b
argument_has K E (primitive p) T = closure_takes K E T
argument_has K E (reference (started w k)) (takes p q (started_takes h)) = started_has w k E h
argument_has K E (reference (call g vs)) T = closure_takes K E T
argument_has K E (joined j f g) T = closure_takes K E T
argument_has K E (sided d t) T = closure_takes K E T
argument_has K E (headed h i t) T = closure_takes K E T
argument_has K E (transformed f t) T = closure_takes K E T
argument_has K E (switching w t p u) T = closure_takes K E T
argument_has K E (continuing w t q k p u) T = closure_takes K E T
argument_has K E (gathered i) T = closure_takes K E T
argument_has K E (releasing w i q k p u) T = closure_takes K E T
argument_has K E (editing w i k p u) T = closure_takes K E T
argument_has K E (staged x f g) T = closure_takes K E T

-- what a switch watches has types: of its inputs, its values and its events' payloads
data WatchedTakes (n : Network) : Watched → Kind → Kind → Kind → Type 0 where
  itself_takes : {P : Process} {a b c : Kind} → ProcessTakes n P a (pair_kind b (event_kind c)) → WatchedTakes n (itself P) a b c
  observed_takes : {P : Process} {q : Term} {e : Environment} {fs : TypesByName} {bs : Bindings} {a b c : Kind} → ProcessTakes n P a b
      → NetworkIsTyped fs n → EnvironmentHas n e bs → Takes (outer_context fs bs n.templates) q (pair_kind a b) (event_kind c) → WatchedTakes n (observed P q e) a b c
  observed_members_take : {ms : Members} {q : Term} {e : Environment} {fs : TypesByName} {bs : Bindings} {k : KeyKind} {a b c : Kind} → Gathers n k a b ms
      → NetworkIsTyped fs n → EnvironmentHas n e bs → Takes (outer_context fs bs n.templates) q (pair_kind a (table_kind k b)) (event_kind c) → WatchedTakes n (observed_members ms q e) a (table_kind k b) c

-- what takes over has types, where it does so after a life of its inputs' type at a payload of its event's
abbrev TakeoverHas : Network → Takeover → Kind → Kind → Kind → Type 0
TakeoverHas n B a b c = (s : Step) (K : Life) (v : Data) → LifeHas K a → HasKind v c → ProcessTakes n (B s K v) a b

-- what a switch that fired stands for: a process of these types, and a life of its inputs' type
abbrev StandingHas : Network → Standing → Kind → Kind → Type 0
StandingHas n waits a b = ⊤
StandingHas n (fired Q M) a b = ProcessTakes n Q a b × LifeHas M a

stands_typed : {n : Network} {B : Takeover} {s : Step} {L : Life} {o : Option Data} {a b c : Kind} → TakeoverHas n B a b c → Comes o c → LifeHas (s ∷ L) a → StandingHas n (stands_after B s L o) a b
stands_typed T comes_none l = tt
stands_typed {L = L} T (comes_some h) (more_steps {s = s} i l) = (T s L _ l h, more_steps {s = s} i no_steps)

switched_has_kind : (w : Observation) {v u : Data} {b : Kind} → HasKind v b → HasKind u b → HasKind (switched_value w v u) b
switched_has_kind Immediate h k = k
switched_has_kind Delayed h k = h

-- the last event has a payload of the type of events beside the inputs
or_earlier_comes : {p q : Option Data} {c : Kind} → Comes p c → Comes q c → Comes (or_earlier p q) c
or_earlier_comes comes_none k = k
or_earlier_comes (comes_some h) k = comes_some h

last_comes : {L : Life} {a c : Kind} → LifeHas L (pair_kind a (event_kind c)) → Comes (last_event L) c
last_comes no_steps = comes_none
last_comes (more_steps i l) = or_earlier_comes (event_comes (second_is i)) (last_comes l)

-- what is kept of a life has inputs of its type
kept_has : (q : Option Data) {L : Life} {a : Kind} → LifeHas L a → LifeHas (kept_before q L) a
kept_has None l = l
kept_has (Some v) l = no_steps

since_event_has : {L : Life} {a : Kind} → LifeHas L a → LifeHas (since_event L) a
since_event_has no_steps = no_steps
since_event_has (more_steps {s = s} i l) = more_steps {s = s} i (kept_has (event_beside s) (since_event_has l))

-- the event that is looked at
looked_at : (o : Outcome) {q : Option Data} {c : Kind} → Comes q c → Comes (unless_faulted o q) c
looked_at (gave y r) k = k
looked_at (faulted x) k = comes_none

module _ (n : Network) (eval_is : EvalsTyped) (apply_is : AppliesTyped) where
  -- an accumulation has values of its type, or the fault of its function
  next_is : {R : Names} {f : Function} {v p u : Kind} {w : Data} {o : Option Data} (scope : Scope) → ScopeHas scope R → FunctionTakes R f (pair_kind v p) u → u ≡ v → HasKind w v → Comes o p → Yields v (next_value f scope w o)
  next_is scope in_scope F same h comes_none = yields h
  next_is {f = f} {w = w} scope in_scope F same h (comes_some {x = x} k) = subst (λ t. Yields t (apply f (pair w x) scope)) same (apply_is _ _ _ _ _ _ F (has_pair h k) in_scope)

  accumulation_is : (coming : Data → Option Data) {R : Names} {f : Function} {v a p u : Kind} {w : Data} {L : Life} (scope : Scope) → ScopeHas scope R → ((x : Data) → HasKind x a → Comes (coming x) p)
      → FunctionTakes R f (pair_kind v p) u → u ≡ v → HasKind w v → LifeHas L a → Yields v (accumulation coming f scope w L)
  accumulation_is coming scope in_scope comes F same h no_steps = yields h
  accumulation_is coming {f = f} scope in_scope comes F same h (more_steps {s = s} i l) =
      next_yields (λ w. next_value f scope w (coming (input_of s))) (accumulation_is coming scope in_scope comes F same h l) (λ w g. next_is scope in_scope F same g (comes _ i))

  -- an accumulation of payloads
  of_payloads : {R : Names} {f : Function} {v a c u : Kind} {w : Data} {L : Life} (scope : Scope) → ScopeHas scope R → found_then (payload_of a) (λ p. Some (pair_kind v p)) ≡ Some c
      → FunctionTakes R f c u → u ≡ v → HasKind w v → LifeHas L a → Yields v (accumulation occurring f scope w L)
  of_payloads {R = R} {f = f} {v = v} {a = a} {u = u} scope in_scope q F same h l =
      let found = found_is (payload_of a) (λ p. Some (pair_kind v p)) q in
      accumulation_is occurring scope in_scope (λ x i. occurring_comes found.1 i) (subst (λ c. FunctionTakes R f c u) (sym (same_Some _ _ found.2)) F) same h l

  accumulated_is : (k : Accumulation) {R : Names} {f : Function} {v a c u b : Kind} {w : Data} (s : Step) {L : Life} (scope : Scope) → ScopeHas scope R → accumulated_argument k v a ≡ Some c
      → FunctionTakes R f c u → accumulated_kind k v a u ≡ Some b → HasKind w v → HasKind (input_of s) a → LifeHas L a → Yields b (accumulated_formula k f scope w s L)
  accumulated_is EdgeBy {R = R} {f = f} {v = v} {a = a} {u = u} {w = w} s {L = L} scope in_scope q F e g h l =
      let same = only_is a v (found_then (payload_of u) (λ p. Some u)) e in
      let made = found_is (payload_of u) (λ p. Some u) same.1 in
      yields_as made.2
      (apply_is _ _ _ _ _ _ (subst (λ c. FunctionTakes R f c u) (sym (same_Some _ _ q)) F) (has_pair (before_has (as_kind (sym same.0) g) l) h) in_scope)
  accumulated_is AccumBy {v = v} {u = u} s scope in_scope q F e g h l =
      let same = only_is u v (Some (event_kind v)) e in
      yields_as same.1
      (changed_yields (event_where (occurring (input_of s))) (λ w i. event_has (occurring (input_of s)) i) (of_payloads scope in_scope q F same.0 g (more_steps {s = s} h l)))
  accumulated_is AccumHoldBy {v = v} {u = u} s scope in_scope q F e g h l =
      let same = only_is u v (Some v) e in
      yields_as same.1 (of_payloads scope in_scope q F same.0 g (more_steps {s = s} h l))
  accumulated_is Scan {R = R} {f = f} {v = v} {u = u} s scope in_scope q F e g h l =
      let same = only_is u v (Some v) e in
      yields_as same.1
      (accumulation_is Some scope in_scope (λ x i. comes_some i) (subst (λ c. FunctionTakes R f c u) (sym (same_Some _ _ q)) F) same.0 g (more_steps {s = s} h l))

  module _ {Γ : Context} (scope : Scope) (in_scope : ScopeHas scope (names_of_values Γ)) where
    chain_is : {f : Chain} {a b : Kind} (x : Data) → ChainTakes Γ f a b → HasKind x a → Yields b (apply_chain f x scope)
    chain_is x (lone_takes F) h = apply_is _ _ _ _ _ _ F h in_scope
    chain_is x (chained_takes {g = g} F G) h = next_yields (λ y. apply_chain g y scope) (chain_is x F h) (λ y k. chain_is y G k)
    chain_is x (on_first_takes F) h = changed_yields (side_replaced First x) (λ y k. has_pair k (second_is h)) (chain_is _ F (first_is h))
    chain_is x (on_second_takes F) h = changed_yields (side_replaced Second x) (λ y k. has_pair (first_is h) k) (chain_is _ F (second_is h))
    chain_is x (on_both_takes {g = g} F G) h =
        next_yields (λ y. apply_chain g (second_of x) scope >>= λ z. answer (pair y z)) (chain_is _ F (first_is h)) (λ y k. changed_yields (pair y) (λ z l. has_pair k l) (chain_is _ G (second_is h)))
    chain_is x (fanned_takes {g = g} F G) h =
        next_yields (λ y. apply_chain g x scope >>= λ z. answer (pair y z)) (chain_is x F h) (λ y k. changed_yields (pair y) (λ z l. has_pair k l) (chain_is x G h))

    formula_is : {p : Primitive} {a b : Kind} (s : Step) {L : Life} → PrimitiveTakes Γ p a b → HasKind (input_of s) a → LifeHas L a → Yields b (formula p scope s L)
    formula_is s {L = L} (bare_takes {k = k} B f) h l = bare_typed k s L B h l
    formula_is s (probe_takes f) h l = yields h
    formula_is s (never_takes f) h l = yields has_no_event
    formula_is s {L = L} (value_takes {k = k} I B f) h l = changed_yields (λ v. value_formula k v s L) (λ v i. value_typed k s L B i h l) (eval_is _ _ _ _ I in_scope)
    formula_is s (arrow_takes F) h l = apply_is _ _ _ _ _ _ F h in_scope
    formula_is s {L = L} (timed_takes {k = k} {q = q} I m w B f) h l = changed_yields (λ v. timed_formula k q v s L) (λ v i. timed_typed k q s L m B i h l) (eval_is _ _ _ _ I in_scope)
    formula_is s {L = L} (selected_takes {k = k} {n = n} e B f) h l = yields (selected_typed k n s L e h)
    formula_is s {L = L} (accumulated_takes {k = k} {f = f} I q F e B) h l =
        next_yields (λ v. accumulated_formula k f scope v s L) (eval_is _ _ _ _ I in_scope) (λ v i. accumulated_is k s scope in_scope q F e i h l)
    formula_is s (fused_takes F B) h l = chain_is (input_of s) F h

  -- ## Calls

  -- what is known after an argument that is evaluated
  argued_next : {A : Type 0} {t : Kind} {q : Evaluated Data} (f : Data → Evaluated A) {d : A} → Yields t q → (q >>= f) ≡ answer d → (v : Data) × HasKind v t × (f v ≡ answer d)
  argued_next f (yields {d = v} h) e = (v, h, e)
  argued_next f fails e = absurd cc

  -- ## Collections

  collect_has : {fs : TypesByName} {e : Environment} {bs : Bindings} {i : Collection} {k : KeyKind} {a b : Kind} {ms : Members} → NetworkIsTyped fs n → EnvironmentHas n e bs → Collects (outer_context fs bs n.templates) i k a b
      → collect n.functions i e ≡ answer ms → Gathers n k a b ms
  collect_has {k = k} {a} {b} K E collects_none h = subst (Gathers n k a b) (answers_one h) gathers_none
  collect_has {k = k} {a} {b} K E (collects_used {x = x} N) h = subst (Gathers n k a b) (answers_one h) (used_gathers x E N)
  collect_has {fs = fs} {e = e} {k = k} {a} {b} K E (collects_added {i = i} {j = j} {t = t} C I T) h =
      let members = bound_answer (collect n.functions i e) (λ ms. eval j (scope_around n.functions e) >>= λ v. answer (add (as_key v) (closure t e) ms)) h in
      let key = argued_next (λ v. answer (add (as_key v) (closure t e) members.0)) (eval_is _ _ _ _ I (environment_scope n.functions fs K.functions E)) members.2 in
      subst (Gathers n k a b) (answers_one key.2) (gathers_added (key_is k key.1) (closure_takes K E T) (collect_has K E C members.1))
  collect_has {fs = fs} {e = e} {k = k} {a} {b} K E (collects_dropped {i = i} {j = j} C I) h =
      let members = bound_answer (collect n.functions i e) (λ ms. eval j (scope_around n.functions e) >>= λ v. answer (drop (as_key v) ms)) h in
      let key = argued_next (λ v. answer (drop (as_key v) members.0)) (eval_is _ _ _ _ I (environment_scope n.functions fs K.functions E)) members.2 in
      subst (Gathers n k a b) (answers_one key.2) (gathers_dropped (as_key key.0) (collect_has K E C members.1))
  collect_has {e = e} K E (collects_kept {i = i} {f = f} C F) h =
      let members = bound_answer (collect n.functions i e) (λ ms. keep (λ x. apply f x (scope_around n.functions e)) ms) h in
      gathers_kept (λ x. apply f x (scope_around n.functions e)) members.2 (collect_has K E C members.1)
  collect_has {fs = fs} {e = e} {k = k} {a} {b} {ms} K E (collects_chosen {j = j} {i = i} {h = h} I C D) q =
      let test = argued_next (λ v. cond (is_high v) (collect n.functions i e) (collect n.functions h e)) (eval_is _ _ _ _ I (environment_scope n.functions fs K.functions E)) q in
      by_test (is_high test.0) (λ q. collect_has K E C q) (λ q. collect_has K E D q) test.2
    where
      by_test : (t : Bool) → (collect n.functions i e ≡ answer ms → Gathers n k a b ms) → (collect n.functions h e ≡ answer ms → Gathers n k a b ms) → cond t (collect n.functions i e) (collect n.functions h e) ≡ answer ms → Gathers n k a b ms
      by_test true F G q = F q
      by_test false F G q = G q

  -- the environment of arguments has the parameters inside the names that were there
  argued_has : {fs : TypesByName} {e d c : Environment} {bs cs : Bindings} {vs : Arguments} {qs : Bindings} → NetworkIsTyped fs n → EnvironmentHas n e bs → ArgumentsFit (outer_context fs bs n.templates) vs qs
      → EnvironmentHas n d cs → argued n.functions qs vs e d ≡ answer c → EnvironmentHas n c (parameters_inside qs cs)
  argued_has {cs = cs} K E no_argument_fits D h = subst (λ c. EnvironmentHas n c cs) (answers_one h) D
  argued_has {fs = fs} {e = e} {d = d} K E (value_fits {vs = vs} {x = x} {qs = qs} I F) D h =
      let v = argued_next (λ v. argued n.functions qs vs e (known x v d)) (eval_is _ _ _ _ I (environment_scope n.functions fs K.functions E)) h in
      argued_has K E F (has_value v.1 D) v.2
  argued_has K E (process_fits {t = t} T F) D h = argued_has K E F (has_process (argument_has K E t T) D) h
  argued_has {e = e} {d = d} K E (collection_fits {i = i} {vs = vs} {x = x} {qs = qs} C F) D h =
      let members = bound_answer (collect n.functions i e) (λ ms. argued n.functions qs vs e (collected x ms d)) h in
      let typed = collect_has K E C members.1 in
      argued_has K E F (has_members typed.0 typed.1 D) members.2
  argued_has K E (closed_fits T F) D h = argued_has K E F (has_process (closure_takes K E T) D) h

  -- what stands in the place of a call has the types of its template
  call_has : {fs : TypesByName} {e : Environment} {bs : Bindings} (g : Name) (vs : Arguments) {s : Signature} {P : Process} → NetworkIsTyped fs n → EnvironmentHas n e bs → signature_named g (map signature_of n.templates) ≡ Some s
      → ArgumentsFit (outer_context fs bs n.templates) vs s.parameters → referred n (call g vs) e ≡ answer P → ProcessTakes n P s.input s.output
  call_has {fs = fs} {e = e} {bs = bs} g vs {s = s} {P = P} K E h F q =
      let found = template_found g n.templates s h in
      let t = found.template in
      let made = closed_of (argued n.functions t.parameters vs e empty) (λ d. closure t.body d) (sym (ap (λ o. process_called n.functions o vs e) found.named) ∙ q) in
      let fit = subst (λ (u : Signature). ArgumentsFit (outer_context fs bs n.templates) vs u.parameters) (sym found.header) F in
      let typed = K.templates found.place t found.there in
      let whole : ProcessTakes n (closure t.body made.0) t.input t.output = closure_takes K (argued_has K E fit has_nothing made.1) typed.body in
      subst (λ (u : Signature). ProcessTakes n P u.input u.output) found.header (subst (λ P. ProcessTakes n P t.input t.output) made.2 whole)

  -- what runs in a recurring switch takes the first parts of its inputs
  running_takes : {q : Option Data} {P : Process} (B : Data → Process) {a b c : Kind} → Comes q c → ProcessTakes n P a b → ((v : Data) → HasKind v c → ProcessTakes n (B v) a b) → ProcessTakes n (what_runs P B q) a b
  running_takes B comes_none p body = p
  running_takes B (comes_some h) p body = body _ h

  -- an edit of members with these types has them
  module _ {fs : TypesByName} {bs : Bindings} {e : Environment} {x : Name} {p : Pattern} {u : Collection} {k : KeyKind} {a b c : Kind} {S : Names} (K : NetworkIsTyped fs n) (E : EnvironmentHas n e bs)
      (B : AddsNames p c (bound_values fs ((x, collection k a b) ∷ bs)) S) (U : Collects (outer_context fs (bindings_inside p c ((x, collection k a b) ∷ bs)) n.templates) u k a b) where
    edit_has : {M : Life} (s : Step) {ms qs : Members} (v : Data) → LifeHas M a → Gathers n k a b ms → HasKind v c → edit_of n.functions x p u e M s ms v ≡ answer qs → Gathers n k a b qs
    edit_has s v l g h q = let typed = gathers_frozen (wait_of s) g l in collect_has K (bind_has B h (has_members typed.0 typed.1 E)) U q

    edited_has : {M : Life} (s : Step) {ms qs : Members} {o : Option Data} → LifeHas M a → Gathers n k a b ms → Comes o c → edited (edit_of n.functions x p u e M s ms) ms o ≡ answer qs → Gathers n k a b qs
    edited_has s l g comes_none q = subst (Gathers n k a b) (answers_one q) g
    edited_has s l g (comes_some {x = v} h) q = edit_has s v l g h q

    which_run_has : {L : Life} {ms qs : Members} → LifeHas L (pair_kind a (event_kind c)) → Gathers n k a b ms → which_run (edit_of n.functions x p u e) ms L ≡ answer qs → Gathers n k a b qs
    which_run_has no_steps g q = subst (Gathers n k a b) (answers_one q) g
    which_run_has {ms = ms} (more_steps {s = s} {L = L} i l) g q =
        let before = bound_answer (which_run (edit_of n.functions x p u e) ms L) (λ qs. edited (edit_of n.functions x p u e (since_edit L) s qs) qs (event_beside s)) q in
        edited_has s (with_inputs_has first_of (λ v. first_is) (since_event_has l)) (which_run_has l g before.1) (event_comes (second_is i)) before.2

    -- what an edit makes, where there is one
    made_by_edit : {M : Life} (s : Step) {ms qs : Members} {o : Option Data} → LifeHas M a → Gathers n k a b ms → Comes o c → option_map (edit_of n.functions x p u e M s ms) o ≡ Some (answer qs) → Gathers n k a b qs
    made_by_edit s l g comes_none q = absurd cc
    made_by_edit s l g (comes_some {x = v} h) q = edit_has s v l g h (same_Some _ _ q)

  mutual
    pub gives_has : {P : Process} {L : Life} {o : Outcome} {c : Cost} {a b : Kind} → Gives n P L o c → ProcessTakes n P a b → LifeHas L a → OutcomeHas o b
    gives_has (gives A B) p l = sample_has B p l

    pub outputs_have : {P : Process} {L : Life} {ys : List Data} {a b : Kind} → Outputs n P L ys → ProcessTakes n P a b → LifeHas L a → Have ys b
    outputs_have not_begun p l = have_nothing
    outputs_have (and_gave {s = s} A B) p (more_steps h l) = have_more (sample_has B p (more_steps {s = s} h l)) (outputs_have A p l)

    sample_has : {P : Process} {s : Step} {L : Life} {o : Outcome} {c : Cost} {a b : Kind} → Sample n P s L o c → ProcessTakes n P a b → LifeHas (s ∷ L) a → OutcomeHas o b
    sample_has (of_constants h) p l = tt
    sample_has (of_form h F) (closure_takes K E (takes x y T)) l = form_has F h K E T l
    sample_has (of_resumed {d = d} A) (resumed_takes p h) l = gives_has A p (after_has d h l)

    form_has : {t : Term} {e : Environment} {fs : TypesByName} {bs : Bindings} {m : Made} {s : Step} {L : Life} {o : Outcome} {c : Cost} {a b : Kind} → Form n t e m s L o c → make n t e (first_input s L) ≡ answer m → NetworkIsTyped fs n → EnvironmentHas n e bs → FormTakes (outer_context fs bs n.templates) t a b → LifeHas (s ∷ L) a → OutcomeHas o b
    form_has {fs = fs} (of_primitive {p = p} {s = s} h) q K E (primitive_takes T) (more_steps i l) = outcome_is (recorded p s) (formula_is _ (environment_scope n.functions fs K.functions E) s T i l) h
    form_has {a = a} {b = b} (of_reference {P = P} A) q K E (started_takes {w = w} {k = k} h) l = gives_has A (subst (λ P. ProcessTakes n P a b) (ap (made_process P) q) (started_has w k E h)) l
    form_has (of_reference A) q K E (call_takes {g = g} {vs = vs} h F) l = gives_has A (call_has g vs K E h F (referred_as q)) l
    form_has (of_join {o = o} {o' = o'} A B C) q K E (sequence_takes {b = b} {c = d} F H) (more_steps {s = s} i l) =
        let h : OutcomeHas o b = gives_has B (closure_takes K E F) (more_steps {s = s} i l) in
        let j : OutcomeHas o' d = next_has C K E H (relay_if o h (more_steps {s = s} i l) (outputs_have A (closure_takes K E F) l)) in
        combined_has o o' (λ v w x y. y) h j
    form_has (of_join {o = o} {o' = o'} A B C) q K E (parallel_takes {b = b} {d = d} F H) l =
        let h : OutcomeHas o b = gives_has B (closure_takes K E F) (with_inputs_has first_of (λ v. first_is) l) in
        let j : OutcomeHas o' d = next_has C K E H (life_if o (with_inputs_has second_of (λ v. second_is) l)) in
        combined_has o o' (λ v w x y. has_pair x y) h j
    form_has (of_join {o = o} {o' = o'} A B C) q K E (fan_takes {b = b} {c = d} F H) l =
        let h : OutcomeHas o b = gives_has B (closure_takes K E F) l in
        let j : OutcomeHas o' d = next_has C K E H (life_if o l) in
        combined_has o o' (λ v w x y. has_pair x y) h j
    form_has (of_side {s = s} {o = o} A) q K E (first_takes {b = b} T) (more_steps i l) =
        let h : OutcomeHas o b = gives_has A (closure_takes K E T) (with_inputs_has first_of (λ v. first_is) (more_steps {s = s} i l)) in
        changed_has o (λ v j. has_pair j (second_is i)) h
    form_has (of_side {s = s} {o = o} A) q K E (second_takes {b = b} T) (more_steps i l) =
        let h : OutcomeHas o b = gives_has A (closure_takes K E T) (with_inputs_has second_of (λ v. second_is) (more_steps {s = s} i l)) in
        changed_has o (λ v j. has_pair (first_is i) j) h
    form_has {fs = fs} (of_loop {o = o} A B) q K E (loop_takes {b = b} {c = d} I T) (more_steps {s = s} i l) =
        let v = made_has (eval_is _ _ _ _ I (environment_scope n.functions fs K.functions E)) q in
        let h : OutcomeHas o (pair_kind b d) = gives_has B (closure_takes K E T) (fed_has b v (more_steps {s = s} i l) (loops_have A (closure_takes K E T) v l)) in
        changed_has o (λ v. first_is) h
    form_has {fs = fs} (of_initialized {v = v} {s = s} {L = L} {o = o} A) q K E (initialized_takes {b = b} I T) l =
        let i : HasKind v b = made_has (eval_is _ _ _ _ I (environment_scope n.functions fs K.functions E)) q in
        let h : OutcomeHas o b = gives_has A (closure_takes K E T) l in
        changed_has o (λ y k. first_has L i k) h
    form_has {fs = fs} {a = a} (of_replaced {v = v} A) q K E (replaced_takes I T) l =
        let i : HasKind v a = made_has (eval_is _ _ _ _ I (environment_scope n.functions fs K.functions E)) q in
        gives_has A (closure_takes K E T) (with_first_has i l)
    form_has {fs = fs} (of_followed {o = o} A B) q K E (followed_takes I T) (more_steps i l) =
        answered_has o (newest_is (eval_is _ _ _ _ I (environment_scope n.functions fs K.functions E)) (outputs_have A (closure_takes K E T) l))
    form_has {fs = fs} {a = a} (of_transformed {v = v} A) q K E (transformed_takes F T) (more_steps {s = s} i l) =
        let h : HasKind v a = made_has (apply_is _ _ _ _ _ _ F (first_input_has s i l) (environment_scope n.functions fs K.functions E)) q in
        gives_has A (closure_takes K E T) (with_first_has h (more_steps {s = s} i l))
    form_has (of_switch S T) q K E (switch_takes A B U) (more_steps {s = s} i l) =
        let body : TakeoverHas n _ _ _ _ = λ s M v m h. closure_takes K (bind_has B.adds h E) U in
        turn_has T (itself_takes (closure_takes K E A)) body (more_steps {s = s} i l) (since_has S (itself_takes (closure_takes K E A)) body l)
    form_has (of_continuing S T) q K E (continuing_takes A H B U) (more_steps {s = s} i l) =
        let source = closure_takes K E A in
        let body : TakeoverHas n _ _ _ _ = λ s M v m h. closure_takes K (bind_has B.adds h (has_process (frozen_takes (wait_of s) source m) E)) U in
        turn_has T (observed_takes source K E H) body (more_steps {s = s} i l) (since_has S (observed_takes source K E H) body l)
    form_has (of_recurring {u = u} {p = p} {e = e} {o = o} A B) q K E (recurring_takes {b = b} T N U) (more_steps {s = s} i l) =
        let h : OutcomeHas o b =
        gives_has A (running_takes (body_of p u e) (last_comes l) (closure_takes K E T) (λ v h. closure_takes K (bind_has N.adds h E) U)) (with_inputs_has first_of (λ v. first_is) (more_steps {s = s} i (since_event_has l))) in
        fires_has B (λ v h. closure_takes K (bind_has N.adds h E) U) h (looked_at o (event_comes (second_is i))) (first_is i)
    form_has (of_gathered {i = i} {e = e} A) q K E (gathered_takes C) l =
        let typed = collect_has K E C (collected_as (collect n.functions i e) q) in
        rows_typed typed.0 (each_has A typed.1 l)
    form_has (of_releasing {i = i} {e = e} S T) q K E (releasing_takes C H B U) (more_steps {s = s} j l) =
        let typed = collect_has K E C (collected_as (collect n.functions i e) q) in
        let body : TakeoverHas n _ _ _ _ = λ s M v m h. let known = gathers_frozen (wait_of s) typed m in closure_takes K (bind_has B.adds h (has_members known.0 known.1 E)) U in
        turn_has T (observed_members_take typed K E H) body (more_steps {s = s} j l) (since_has S (observed_members_take typed K E H) body l)
    form_has (of_editing {i = i} {e = e} {o = o} R A D) q K E (editing_takes {k = k} {b = b} C B U) (more_steps {s = s} j l) =
        let typed = which_run_has K E B.adds U l (collect_has K E C (collected_as (collect n.functions i e) q)) R in
        let lived = with_inputs_has first_of (λ v. first_is) (since_event_has l) in
        let h : OutcomeHas o (table_kind k b) = rows_typed typed.0 (each_has A typed.1 (with_inputs_has first_of (λ v. first_is) (more_steps {s = s} j (since_event_has l)))) in
        edited_outcome D h (λ ms. made_by_edit K E B.adds U s lived typed (looked_at o (event_comes (second_is j)))) (first_is j)
    form_has (of_stages {o = o} {o' = o'} A B C) q K E (stages_take {b = b} {c = d} F H) (more_steps {s = s} i l) =
        let h : OutcomeHas o b = gives_has B (closure_takes K E F) (more_steps {s = s} i l) in
        let j : OutcomeHas o' d = next_has C K E H (relay_if o h (more_steps {s = s} i l) (outputs_have A (closure_takes K E F) l)) in
        combined_has o o' (λ v w x y. y) h j

    next_has : {q : Outcome} {t : Term} {e : Environment} {fs : TypesByName} {bs : Bindings} {L : Life} {o : Outcome} {c : Cost} {a b : Kind} → Next n q t e L o c → NetworkIsTyped fs n → EnvironmentHas n e bs → Takes (outer_context fs bs n.templates) t a b → LifeIf q L a → OutcomeHas o b
    next_has (goes_on A) K E T l = gives_has A (closure_takes K E T) l
    next_has stops K E T l = tt

    pub loops_have : {v : Data} {P : Process} {L : Life} {zs : List Data} {a b c : Kind} → Loops n v P L zs → ProcessTakes n P (pair_kind a c) (pair_kind b c) → HasKind v c → LifeHas L a → Have zs (pair_kind b c)
    loops_have no_loop p h l = have_nothing
    loops_have {b = b} (and_looped {s = s} A B) p h (more_steps i l) = let z = loops_have A p h l in have_more (gives_has B p (fed_has b h (more_steps {s = s} i l) z)) z

    sees_has : {W : Watched} {s : Step} {L : Life} {o : Outcome} {k : Cost} {a b c : Kind} → Sees n W s L o k → WatchedTakes n W a b c → LifeHas (s ∷ L) a → OutcomeHas o (pair_kind b (event_kind c))
    sees_has (beside_values A) (itself_takes p) l = gives_has A p l
    sees_has (by_observer {o = o} {o' = o'} A B C) (observed_takes {b = b} {c = c} p K E H) (more_steps {s = s} i l) =
        let h : OutcomeHas o b = gives_has B p (more_steps {s = s} i l) in
        let j : OutcomeHas o' (event_kind c) = next_has C K E H (beside_if o h (more_steps {s = s} i l) (outputs_have A p l)) in
        combined_has o o' (λ v w x y. has_pair x y) h j
    sees_has (by_members_observer {o = o} {o' = o'} A B C) (observed_members_take {k = k} {b = b} {c = c} g K E H) (more_steps {s = s} i l) =
        let h : OutcomeHas o (table_kind k b) = rows_typed g.0 (each_has B g.1 (more_steps {s = s} i l)) in
        let j : OutcomeHas o' (event_kind c) = next_has C K E H (beside_if o h (more_steps {s = s} i l) (tables_have A g l)) in
        combined_has o o' (λ v w x y. has_pair x y) h j

    since_has : {W : Watched} {B : Takeover} {L : Life} {st : Standing} {a b c : Kind} → Since n W B L st → WatchedTakes n W a b c → TakeoverHas n B a b c → LifeHas L a → StandingHas n st a b
    since_has at_start p body l = tt
    since_has {a = a} {b = b} (watched A G h) p body l = subst (λ st. StandingHas n st a b) h (stands_typed body (event_comes (second_is (sees_has G p l))) l)
    since_has (had_fired A) p body (more_steps {s = s} i l) = let h = since_has A p body l in (h.0, more_steps {s = s} i h.1)

    turn_has : {w : Observation} {W : Watched} {B : Takeover} {s : Step} {L : Life} {st : Standing} {o : Outcome} {k : Cost} {a b c : Kind} → SwitchTurn n w W B s L st o k → WatchedTakes n W a b c
        → TakeoverHas n B a b c → LifeHas (s ∷ L) a → StandingHas n st a b → OutcomeHas o b
    turn_has (while_waiting {s = s} {L = L} A C) p body (more_steps i l) h = switched_has C (λ v. body s L v l) (sees_has A p (more_steps {s = s} i l)) i
    turn_has (as_body A) p body (more_steps {s = s} i l) h = gives_has A h.0 (more_steps {s = s} i h.1)

    switched_has : {w : Observation} {B : Data → Process} {s : Step} {o q : Outcome} {k : Cost} {a b c : Kind} → Switched n w B s o q k → ((v : Data) → HasKind v c → ProcessTakes n (B v) a b) → OutcomeHas o (pair_kind b (event_kind c)) → HasKind (input_of s) a → OutcomeHas q b
    switched_has after_fault body h i = tt
    switched_has (after_value F) body h i = fires_has F body (first_is h) (event_comes (second_is h)) i

    fires_has : {w : Observation} {B : Data → Process} {s : Step} {o : Outcome} {e : Option Data} {q : Outcome} {k : Cost} {a b c : Kind} → Fires n w B s o e q k → ((v : Data) → HasKind v c → ProcessTakes n (B v) a b) → OutcomeHas o b → Comes e c → HasKind (input_of s) a → OutcomeHas q b
    fires_has no_event_yet body h k i = h
    fires_has (event_now {w = w} {s = s} {o = o} {o' = o'} A) body h (comes_some k) i = combined_has o o' (λ v u x y. switched_has_kind w x y) h (gives_has A (body _ k) (more_steps {s = s} i no_steps))

    tables_have : {ms : Members} {L : Life} {ys : List Data} {k : KeyKind} {a b : Kind} → Tables n ms L ys → Gathers n k a b ms → LifeHas L a → Have ys (table_kind k b)
    tables_have no_tables g l = have_nothing
    tables_have (and_table {s = s} A B) g (more_steps h l) = have_more (rows_typed g.0 (each_has B g.1 (more_steps {s = s} h l))) (tables_have A g l)

    each_has : {ms : Members} {s : Step} {L : Life} {o : Outcome} {c : Cost} {k : KeyKind} {a b : Kind} → Each n ms s L o c → MembersTake n ms k a b → LifeHas (s ∷ L) a → RowsOf ms k b o
    each_has no_more M l = rows_of has_no_rows (λ seen h. tt)
    each_has (one_more {o = o} {o' = o'} A B) (member_takes i p m) l = with_row_of i o o' (gives_has A p l) (others_have B m l)

    others_have : {q : Outcome} {ms : Members} {s : Step} {L : Life} {o : Outcome} {c : Cost} {k : KeyKind} {a b : Kind} → Others n q ms s L o c → MembersTake n ms k a b → LifeHas (s ∷ L) a → RowsOf ms k b o
    others_have (others_go_on A) M l = each_has A M l
    others_have others_stop M l = no_rows_of

    edited_outcome : {w : Observation} {q : Option (Evaluated Members)} {s : Step} {o o' : Outcome} {c : Cost} {k : KeyKind} {a b : Kind} → Edited n w q s o o' c → OutcomeHas o (table_kind k b)
        → ((ms : Members) → q ≡ Some (answer ms) → Gathers n k a b ms) → HasKind (input_of s) a → OutcomeHas o' (table_kind k b)
    edited_outcome no_edit h g i = h
    edited_outcome edit_failed h g i = tt
    edited_outcome (edit_now {w = w} {s = s} {o = o} {o' = o'} {ms = ms} A) h g i =
        let typed = g ms refl in
        combined_has o o' (λ v u x y. switched_has_kind w x y) h (rows_typed typed.0 (each_has A typed.1 (more_steps {s = s} i no_steps)))
