-- Plans keep outcomes.
use Rattle.std.proofs.Common.{ℕ, ◌≡◌, Bool, true, false, cond, IsTrue, List, [], ◌∷◌, refl, sym, ap, ◌∙◌, subst, Option, Some, None}
use Rattle.std.specs.Prelude.{bytes_eq, option_map}
use mathlib.Core.Path.{subst₂}
use Rattle.sf_value.specs.Values.{Name, Data, first_of, second_of, KeyKind, Kind, KeyData, table, no_rows}
use Rattle.sf_value.specs.declared.fault.ValueFault.{ValueFault}
use Rattle.sf_func.specs.Registries.{AnswersByName}
use Rattle.sf_expr.specs.Expressions.{Pattern, unnamed, named, both, Expression, Function}
use Rattle.sf_expr.specs.Evaluation.{Evaluated, answer, failed, ◌>>=◌, Scope, no_names, value_name, other_name, eval, apply}
use Rattle.sf_term.specs.declared.form.Join.{Join}
use Rattle.sf_term.specs.declared.form.Side.{Side}
use Rattle.sf_term.specs.declared.form.Heading.{Heading}
use Rattle.sf_term.specs.declared.form.Heading.TheVariants.{LoopPre, Initialized, Replaced, Followed}
use Rattle.sf_term.specs.declared.form.Observation.{Observation}
use Rattle.sf_term.specs.declared.form.Start.{Start}
use Rattle.sf_term.specs.declared.form.Start.TheVariants.{Run, Fresh}
use Rattle.sf_term.specs.declared.form.Switching.{Switching}
use Rattle.sf_term.specs.Trees.{Primitive, Term, primitive, Reference, reference, started, call, Arguments, no_arguments, value_argument, process_argument, closed_argument, template_named, joined, sided, headed, transformed, switching, continuing, staged, Template, Templates, collection_argument, gathered, releasing, editing, Collection, without_members, used, added, dropped, kept, chosen}
use Rattle.sf_mean.specs.Lives.{Step, wait_of, input_of, Life, Process, closure, resumed, Environment, empty, known, running, passing, process_of, base, process_started, scope_around, bind, after, frozen, first_input, collected, Members, no_members, member, members_of, each_frozen}
use Rattle.sf_mean.specs.Formulas.{occurring, formula, is_high}
use Rattle.sf_mean.specs.Meaning.{Network, Readings, Outcome, gave, faulted, as_outcome, answered_by, newest_or, recorded, Cost, no_cost, over, over_first, one_term, text_cost, last_event, Made, process_made, argument_process, argued, process_called, referred, make, entered_cost, arguments_cost, Watched, itself, observed, Takeover, Standing, waits, fired, stands_after, whenever, body_of, continuing_body, Gives, gives, Outputs, not_begun, and_gave, Sample, of_constants, of_form, of_resumed, Form, of_primitive, of_reference, of_join, of_side, of_loop, of_initialized, of_replaced, of_followed, of_transformed, of_switch, of_continuing, of_recurring, of_stages, what_runs, Next, goes_on, stops, Loops, no_loop, and_looped, Sees, beside_values, by_observer, Since, at_start, watched, had_fired, SwitchTurn, while_waiting, as_body, Switched, after_fault, after_value, Fires, no_event_yet, event_now, combined, both_costs, members_made, collection_cost, body_with_members, event_beside, unless_faulted, without_event, Edit, edit_of, since_edit, edited, which_run, of_gathered, of_releasing, of_editing, Each, no_more, one_more, Others, others_go_on, others_stop, Edited, no_edit, edit_failed, edit_now, observed_members, by_members_observer, Tables, no_tables, and_table}
use Rattle.sf_value.specs.Keys.{equal_keys}
use Rattle.sf_operator.specs.FunctionForms.{value_of_key}
use Rattle.sf_mean.specs.Collections.{as_key, add, drop, keep, collect, leading_row}
use Rattle.sf_mean.proofs.TypedProcesses.{collected_as}
use Rattle.sf_term.specs.Parameters.{Bindings}
use Rattle.sf_rewrite.specs.Laws.{Laws, unchanged}
use Rattle.sf_rewrite.specs.Plans.{is_started}
use Rattle.sf_rewrite.proofs.Parts.{Leaves, Stand, waiting, began, later_stand, stand_after, Part, part, Parts, begins, then_gave, At, at_leaf, at_primitive, at_join, at_stages, at_side, at_loop, at_initialized, at_replaced, at_followed, at_constant, at_transformed, at_function, at_switch, at_recurring, Then, then_part, then_stops, Rounds, no_round, one_round, Watches, watch_begins, then_watched, fired_before, Turns, turn_waits, turn_body, Switches, switch_stops, switch_goes, Runs, runs_first, runs_body, Bodies, no_body, body_begins, is_leaf, no_truth, OneLeaf}
use Rattle.sf_rewrite.proofs.Lowered.{Below, Lowered, lowered, below_same, below_any, below_trans, below_over, below_both, below_first}
use Rattle.sf_rewrite.proofs.Along.{Sound, parts_along}
use Rattle.sf_rewrite.proofs.Sound.{texts, onward, back}
use Rattle.sf_rewrite.proofs.Opening.{made_answer, made_fault, standing_of, stands_alike, Leaf, closed}

-- a law, from left to right or back
pub data Law : Bool → Term → Term → Type 0 where
  to_plan : {t u : Term} → Laws t u → Law true t u
  from_plan : {t u : Term} → Laws u t → Law false t u

mutual
  -- two terms of the same meaning; the second costs no more, where d is true
  pub data Alike (d : Bool) : Term → Term → Type 0 where
    alike : {t u v w : Term} → Law d t u → Formed d u v → Law d v w → Alike d t w

  pub data Formed (d : Bool) : Term → Term → Type 0 where
    same_primitive : {p : Primitive} → Formed d (primitive p) (primitive p)
    same_started : {w : Start} {k : Name} → Formed d (reference (started w k)) (reference (started w k))
    same_call : {g : Name} {vs us : Arguments} → AlikeArguments d vs us → Formed d (reference (call g vs)) (reference (call g us))
    same_join : {j : Join} {f f' g g' : Term} → Alike d f f' → Alike d g g' → Formed d (joined j f g) (joined j f' g')
    same_side : {a : Side} {t t' : Term} → Alike d t t' → Formed d (sided a t) (sided a t')
    same_heading : {h : Heading} {i : Expression} {t t' : Term} → Alike d t t' → Formed d (headed h i t) (headed h i t')
    same_transformed : {f : Function} {t t' : Term} → Alike d t t' → Formed d (transformed f t) (transformed f t')
    same_switch : {w : Switching} {t t' u u' : Term} {p : Pattern} → Alike d t t' → Alike d u u' → Formed d (switching w t p u) (switching w t' p u')
    same_continuing : {w : Observation} {t t' q q' u u' : Term} {k : Name} {p : Pattern} → Alike d t t' → Alike d q q' → Alike d u u' → Formed d (continuing w t q k p u) (continuing w t' q' k p u')
    same_gathered : {i i' : Collection} → AlikeCollection d i i' → Formed d (gathered i) (gathered i')
    same_releasing : {w : Observation} {i i' : Collection} {q q' u u' : Term} {k : Name} {p : Pattern} → AlikeCollection d i i' → Alike d q q' → Alike d u u' → Formed d (releasing w i q k p u) (releasing w i' q' k p u')
    same_editing : {w : Observation} {i i' u u' : Collection} {k : Name} {p : Pattern} → AlikeCollection d i i' → AlikeCollection d u u' → Formed d (editing w i k p u) (editing w i' k p u')

  -- collections of processes of the same meaning
  pub data AlikeCollection (d : Bool) : Collection → Collection → Type 0 where
    alike_without : {k : KeyKind} {t : Kind} → AlikeCollection d (without_members k t) (without_members k t)
    alike_used : {x : Name} → AlikeCollection d (used x) (used x)
    alike_added : {i i' : Collection} {j : Expression} {t t' : Term} → AlikeCollection d i i' → Alike d t t' → AlikeCollection d (added i j t) (added i' j t')
    alike_dropped : {i i' : Collection} {j : Expression} → AlikeCollection d i i' → AlikeCollection d (dropped i j) (dropped i' j)
    alike_kept : {i i' : Collection} {f : Function} → AlikeCollection d i i' → AlikeCollection d (kept i f) (kept i' f)
    alike_chosen : {j : Expression} {a a' b b' : Collection} → AlikeCollection d a a' → AlikeCollection d b b' → AlikeCollection d (chosen j a b) (chosen j a' b')

  -- arguments that are processes of the same meaning
  pub data AlikeArguments (d : Bool) : Arguments → Arguments → Type 0 where
    alike_none : AlikeArguments d no_arguments no_arguments
    alike_value : {i : Expression} {vs us : Arguments} → AlikeArguments d vs us → AlikeArguments d (value_argument i vs) (value_argument i us)
    alike_named : {w : Start} {k : Name} {vs us : Arguments} → AlikeArguments d vs us → AlikeArguments d (process_argument (reference (started w k)) vs) (process_argument (reference (started w k)) us)
    alike_collection : {i i' : Collection} {vs us : Arguments} → AlikeCollection d i i' → AlikeArguments d vs us → AlikeArguments d (collection_argument i vs) (collection_argument i' us)
    alike_closed : {t u : Term} {vs us : Arguments} → is_started t ≡ false → Alike d t u → AlikeArguments d vs us → AlikeArguments d (process_argument t vs) (closed_argument u us)
    alike_opened : {t u : Term} {vs us : Arguments} → is_started u ≡ false → Alike d t u → AlikeArguments d vs us → AlikeArguments d (closed_argument t vs) (process_argument u us)
    alike_terms : {t u : Term} {vs us : Arguments} → is_started t ≡ false → is_started u ≡ false → Alike d t u → AlikeArguments d vs us → AlikeArguments d (process_argument t vs) (process_argument u us)

mutual
  pub data AlikeProcess (d : Bool) : Process → Process → Type 0 where
    alike_closure : {t t' : Term} {e e' : Environment} → Alike d t t' → AlikeNames d e e' → AlikeProcess d (closure t e) (closure t' e')
    alike_resumed : {P P' : Process} {h : Life} {w : ℕ} → AlikeProcess d P P' → AlikeProcess d (resumed P h w) (resumed P' h w)

  pub data AlikeMembers (d : Bool) : Members → Members → Type 0 where
    alike_no_member : AlikeMembers d no_members no_members
    alike_member : {k : KeyData} {P P' : Process} {ms ms' : Members} → AlikeProcess d P P' → AlikeMembers d ms ms' → AlikeMembers d (member k P ms) (member k P' ms')

  pub data AlikeNames (d : Bool) : Environment → Environment → Type 0 where
    alike_empty : AlikeNames d empty empty
    alike_known : {x : Name} {v : Data} {e e' : Environment} → AlikeNames d e e' → AlikeNames d (known x v e) (known x v e')
    alike_running : {x : Name} {P P' : Process} {e e' : Environment} → AlikeProcess d P P' → AlikeNames d e e' → AlikeNames d (running x P e) (running x P' e')
    alike_collected : {x : Name} {ms ms' : Members} {e e' : Environment} → AlikeMembers d ms ms' → AlikeNames d e e' → AlikeNames d (collected x ms e) (collected x ms' e')

-- a template with a term of the same meaning
pub record AlikeTemplate (d : Bool) (s t : Template) : Type 0 where
  pub name : t.name ≡ s.name
  pub parameters : t.parameters ≡ s.parameters
  pub body : Alike d s.body t.body

pub data AlikeAll (d : Bool) : Templates → Templates → Type 0 where
  none_alike : AlikeAll d [] []
  more_alike : {s t : Template} {ss ts : Templates} → AlikeTemplate d s t → AlikeAll d ss ts → AlikeAll d (s ∷ ss) (t ∷ ts)

scopes : {d : Bool} {φ ψ : AnswersByName} {e e' : Environment} → ψ ≡ φ → AlikeNames d e e' → scope_around φ e ≡ scope_around ψ e'
scopes same alike_empty = ap no_names (sym same)
scopes same (alike_known {x = x} {v = v} E) = ap (value_name x v) (scopes same E)
scopes same (alike_running {x = x} R E) = ap (other_name x) (scopes same E)
scopes same (alike_collected {x = x} M E) = ap (other_name x) (scopes same E)

alike_bind : {d : Bool} (p : Pattern) (v : Data) {e e' : Environment} → AlikeNames d e e' → AlikeNames d (bind p v e) (bind p v e')
alike_bind unnamed v E = E
alike_bind (named x) v E = alike_known E
alike_bind (both p q) v E = alike_bind q (second_of v) (alike_bind p (first_of v) E)

-- the process of a name
alike_passing : (d : Bool) → AlikeProcess d passing passing
alike_passing true = alike_closure (alike (to_plan unchanged) same_primitive (to_plan unchanged)) alike_empty
alike_passing false = alike_closure (alike (from_plan unchanged) same_primitive (from_plan unchanged)) alike_empty

process_by_test : {d : Bool} {P P' Q Q' : Process} (b : Bool) → AlikeProcess d P P' → AlikeProcess d Q Q' → AlikeProcess d (cond b P Q) (cond b P' Q')
process_by_test true A B = A
process_by_test false A B = B

alike_process : {d : Bool} (k : Name) {e e' : Environment} → AlikeNames d e e' → AlikeProcess d (process_of k e) (process_of k e')
alike_process {d} k alike_empty = alike_passing d
alike_process {d} k (alike_known {x = x} E) = process_by_test (bytes_eq k x) (alike_passing d) (alike_process k E)
alike_process k (alike_running {x = x} H E) = process_by_test (bytes_eq k x) H (alike_process k E)
alike_process {d} k (alike_collected {x = x} M E) = process_by_test (bytes_eq k x) (alike_passing d) (alike_process k E)

-- where they began
alike_base : {d : Bool} {P P' : Process} → AlikeProcess d P P' → AlikeProcess d (base P) (base P')
alike_base (alike_closure T E) = alike_closure T E
alike_base (alike_resumed R) = alike_base R

alike_started : {d : Bool} (w : Start) (k : Name) {e e' : Environment} → AlikeNames d e e' → AlikeProcess d (process_started w k e) (process_started w k e')
alike_started Run k E = alike_process k E
alike_started Fresh k E = alike_base (alike_process k E)

alike_frozen : {d : Bool} {P P' : Process} (h : Life) (w : ℕ) → AlikeProcess d P P' → AlikeProcess d (frozen P h w) (frozen P' h w)
alike_frozen [] w R = R
alike_frozen (s ∷ h) w R = alike_resumed R

-- ## Members

alike_each_frozen : {d : Bool} {ms ms' : Members} (h : Life) (w : ℕ) → AlikeMembers d ms ms' → AlikeMembers d (each_frozen ms h w) (each_frozen ms' h w)
alike_each_frozen h w alike_no_member = alike_no_member
alike_each_frozen h w (alike_member R M) = alike_member (alike_frozen h w R) (alike_each_frozen h w M)

members_by_test : {d : Bool} {ms ms' qs qs' : Members} (b : Bool) → AlikeMembers d ms ms' → AlikeMembers d qs qs' → AlikeMembers d (cond b ms qs) (cond b ms' qs')
members_by_test true M N = M
members_by_test false M N = N

alike_members : {d : Bool} (x : Name) {e e' : Environment} → AlikeNames d e e' → AlikeMembers d (members_of x e) (members_of x e')
alike_members x alike_empty = alike_no_member
alike_members x (alike_known {x = y} E) = members_by_test (bytes_eq x y) alike_no_member (alike_members x E)
alike_members x (alike_running {x = y} H E) = members_by_test (bytes_eq x y) alike_no_member (alike_members x E)
alike_members x (alike_collected {x = y} M E) = members_by_test (bytes_eq x y) M (alike_members x E)

alike_add : {d : Bool} (k : KeyData) {P P' : Process} {ms ms' : Members} → AlikeProcess d P P' → AlikeMembers d ms ms' → AlikeMembers d (add k P ms) (add k P' ms')
alike_add k R alike_no_member = alike_member R alike_no_member
alike_add k R (alike_member {k = l} S M) = members_by_test (equal_keys k l) (alike_member R M) (alike_member S (alike_add k R M))

alike_drop : {d : Bool} (k : KeyData) {ms ms' : Members} → AlikeMembers d ms ms' → AlikeMembers d (drop k ms) (drop k ms')
alike_drop k alike_no_member = alike_no_member
alike_drop k (alike_member {k = l} S M) = members_by_test (equal_keys k l) M (alike_member S (alike_drop k M))

-- two answers with members alike, or the same fault
data AlikeGathered (d : Bool) : Evaluated Members → Evaluated Members → Type 0 where
  gathered_alike : {ms ms' : Members} → AlikeMembers d ms ms' → AlikeGathered d (answer ms) (answer ms')
  gathered_failed : {x : ValueFault} → AlikeGathered d (failed x) (failed x)

after_gathered : {d : Bool} {a b : Evaluated Members} (f g : Members → Evaluated Members) → AlikeGathered d a b → ((ms ms' : Members) → AlikeMembers d ms ms' → AlikeGathered d (f ms) (g ms')) → AlikeGathered d (a >>= f) (b >>= g)
after_gathered f g (gathered_alike M) h = h _ _ M
after_gathered f g gathered_failed h = gathered_failed

value_gathered : {d : Bool} (v : Evaluated Data) (f g : Data → Evaluated Members) → ((x : Data) → AlikeGathered d (f x) (g x)) → AlikeGathered d (v >>= f) (v >>= g)
value_gathered (answer x) f g h = h x
value_gathered (failed x) f g h = gathered_failed

alike_keep : {d : Bool} (f : Data → Evaluated Data) {ms ms' : Members} → AlikeMembers d ms ms' → AlikeGathered d (keep f ms) (keep f ms')
alike_keep f alike_no_member = gathered_alike alike_no_member
alike_keep {d} f (alike_member {k = k} {P = P} {P' = P'} {ms = ms} {ms' = ms'} R M) =
    let rest : Process → Data → Members → Evaluated Members = λ P b ms. answer (cond (is_high b) (member k P ms) ms) in
    let N = alike_keep f M in
    value_gathered (f (value_of_key k)) (λ b. keep f ms >>= rest P b) (λ b. keep f ms' >>= rest P' b)
    (λ b. after_gathered (rest P b) (rest P' b) N (λ qs qs' Q. gathered_alike (members_by_test (is_high b) (alike_member R Q) Q)))

gathered_by_test : {d : Bool} {p p' q q' : Evaluated Members} (b : Bool) → AlikeGathered d p p' → AlikeGathered d q q' → AlikeGathered d (cond b p q) (cond b p' q')
gathered_by_test true M N = M
gathered_by_test false M N = N

module _ {d : Bool} {φ ψ : AnswersByName} (same : ψ ≡ φ) where
  alike_collect : {e e' : Environment} {i i' : Collection} → AlikeNames d e e' → AlikeCollection d i i' → AlikeGathered d (collect φ i e) (collect ψ i' e')
  alike_collect E alike_without = gathered_alike alike_no_member
  alike_collect E (alike_used {x = x}) = gathered_alike (alike_members x E)
  alike_collect {e} {e'} E (alike_added {i = i} {i' = i'} {j = j} {t = t} {t' = t'} I T) =
      let add_to : Term → Environment → Members → Data → Evaluated Members = λ t e ms v. answer (add (as_key v) (closure t e) ms) in
      let N : Scope → Type 0 = λ sc. AlikeGathered d (collect φ i e >>= λ ms. eval j (scope_around φ e) >>= add_to t e ms) (collect ψ i' e' >>= λ ms. eval j sc >>= add_to t' e' ms) in
      let scope = scope_around φ e in
      subst N (scopes same E)
      (after_gathered (λ ms. eval j scope >>= add_to t e ms) (λ ms. eval j scope >>= add_to t' e' ms) (alike_collect E I)
      (λ ms ms' M. value_gathered (eval j scope) (add_to t e ms) (add_to t' e' ms') (λ v. gathered_alike (alike_add (as_key v) (alike_closure T E) M))))
  alike_collect {e} {e'} E (alike_dropped {i = i} {i' = i'} {j = j} I) =
      let drop_of : Members → Data → Evaluated Members = λ ms v. answer (drop (as_key v) ms) in
      let N : Scope → Type 0 = λ sc. AlikeGathered d (collect φ i e >>= λ ms. eval j (scope_around φ e) >>= drop_of ms) (collect ψ i' e' >>= λ ms. eval j sc >>= drop_of ms) in
      let scope = scope_around φ e in
      subst N (scopes same E)
      (after_gathered (λ ms. eval j scope >>= drop_of ms) (λ ms. eval j scope >>= drop_of ms) (alike_collect E I)
      (λ ms ms' M. value_gathered (eval j scope) (drop_of ms) (drop_of ms') (λ v. gathered_alike (alike_drop (as_key v) M))))
  alike_collect {e} {e'} E (alike_kept {i = i} {i' = i'} {f = f} I) =
      let N : Scope → Type 0 = λ sc. AlikeGathered d (collect φ i e >>= λ ms. keep (λ x. apply f x (scope_around φ e)) ms) (collect ψ i' e' >>= λ ms. keep (λ x. apply f x sc) ms) in
      let asked : Members → Evaluated Members = λ ms. keep (λ x. apply f x (scope_around φ e)) ms in
      subst N (scopes same E) (after_gathered asked asked (alike_collect E I) (λ ms ms' M. alike_keep (λ x. apply f x (scope_around φ e)) M))
  alike_collect {e} {e'} E (alike_chosen {j = j} {a = a} {a' = a'} {b = b} {b' = b'} A B) =
      let one : Data → Evaluated Members = λ v. cond (is_high v) (collect φ a e) (collect φ b e) in
      let other : Data → Evaluated Members = λ v. cond (is_high v) (collect ψ a' e') (collect ψ b' e') in
      let N : Scope → Type 0 = λ sc. AlikeGathered d (eval j (scope_around φ e) >>= one) (eval j sc >>= other) in
      let K = alike_collect E A in
      let L = alike_collect E B in
      subst N (scopes same E) (value_gathered (eval j (scope_around φ e)) one other (λ v. gathered_by_test (is_high v) K L))

-- what a form of members is made with
abbrev gathered_as : Evaluated Members → Evaluated Made
gathered_as q = q >>= λ ms. answer (members_made ms)

gathered_fault : (q : Evaluated Members) {x : ValueFault} → gathered_as q ≡ failed x → q ≡ failed x
gathered_fault (answer ms) h = absurd cc
gathered_fault (failed y) h = cc

abbrev members_or : Members → Evaluated Members → Members
members_or ms (answer qs) = qs
members_or ms (failed x) = ms

-- what an answer is like that is like another one
gathered_like : {d : Bool} {ms : Members} {q q' : Evaluated Members} → q ≡ answer ms → AlikeGathered d q q' → (ms' : Members) × AlikeMembers d ms ms' × (q' ≡ answer ms')
gathered_like {d} {ms} h (gathered_alike {ms = qs} {ms' = qs'} M) = (qs', subst (λ ms. AlikeMembers d ms qs') (ap (members_or ms) h) M, refl)
gathered_like h gathered_failed = absurd cc

gathered_fault_like : {d : Bool} {x : ValueFault} {q q' : Evaluated Members} → q ≡ failed x → AlikeGathered d q q' → q' ≡ failed x
gathered_fault_like h (gathered_alike M) = absurd cc
gathered_fault_like h gathered_failed = cc

-- ## What is referred to

-- two answers with environments of processes alike, or the same fault
data AlikeArgued (d : Bool) : Evaluated Environment → Evaluated Environment → Type 0 where
  argued_alike : {e e' : Environment} → AlikeNames d e e' → AlikeArgued d (answer e) (answer e')
  argued_failed : {x : ValueFault} → AlikeArgued d (failed x) (failed x)

-- two answers with processes alike, or the same fault
data AlikeReferred (d : Bool) : Evaluated Process → Evaluated Process → Type 0 where
  referred_alike : {P P' : Process} → AlikeProcess d P P' → AlikeReferred d (answer P) (answer P')
  referred_failed : {x : ValueFault} → AlikeReferred d (failed x) (failed x)

-- a term that is no named process is closed
closed_by : (t : Term) (e : Environment) → is_started t ≡ false → argument_process t e ≡ closure t e
closed_by (primitive p) e h = refl
closed_by (reference (started w k)) e h = absurd cc
closed_by (reference (call g vs)) e h = refl
closed_by (joined j f g) e h = refl
closed_by (sided a t) e h = refl
closed_by (headed k i t) e h = refl
closed_by (transformed f t) e h = refl
closed_by (switching w t p u) e h = refl
closed_by (continuing w t q k p u) e h = refl
closed_by (gathered i) e h = refl
closed_by (releasing w i q k p u) e h = refl
closed_by (editing w i k p u) e h = refl
closed_by (staged x f g) e h = refl

after_each : {d : Bool} (v : Evaluated Data) (f g : Data → Evaluated Environment) → ((x : Data) → AlikeArgued d (f x) (g x)) → AlikeArgued d (v >>= f) (v >>= g)
after_each (answer x) f g h = h x
after_each (failed x) f g h = argued_failed

after_members : {d : Bool} {a b : Evaluated Members} (f g : Members → Evaluated Environment) → AlikeGathered d a b → ((ms ms' : Members) → AlikeMembers d ms ms' → AlikeArgued d (f ms) (g ms')) → AlikeArgued d (a >>= f) (b >>= g)
after_members f g (gathered_alike M) h = h _ _ M
after_members f g gathered_failed h = argued_failed

alike_made : {d : Bool} {t u : Term} {v w : Evaluated Environment} → Alike d t u → AlikeArgued d v w → AlikeReferred d (v >>= λ c. answer (closure t c)) (w >>= λ c. answer (closure u c))
alike_made T (argued_alike C) = referred_alike (alike_closure T C)
alike_made T argued_failed = referred_failed

module _ {d : Bool} {φ ψ : AnswersByName} (same : ψ ≡ φ) {e e' : Environment} (E : AlikeNames d e e') where
  alike_argued : (qs : Bindings) {vs us : Arguments} → AlikeArguments d vs us → {c c' : Environment} → AlikeNames d c c' → AlikeArgued d (argued φ qs vs e c) (argued ψ qs us e' c')
  alike_argued [] A C = argued_alike C
  alike_argued (q ∷ qs) alike_none C = argued_alike C
  alike_argued (q ∷ qs) (alike_value {i = i} {vs = vs} {us = us} A) {c} {c'} C =
      let N : Scope → Type 0 = λ sc. AlikeArgued d (eval i (scope_around φ e) >>= λ v. argued φ qs vs e (known q.0 v c)) (eval i sc >>= λ v. argued ψ qs us e' (known q.0 v c')) in
      subst N (scopes same E) (after_each (eval i (scope_around φ e)) (λ v. argued φ qs vs e (known q.0 v c)) (λ v. argued ψ qs us e' (known q.0 v c')) (λ v. alike_argued qs A (alike_known C)))
  alike_argued (q ∷ qs) (alike_named {w = w} {k = k} A) C = alike_argued qs A (alike_running (alike_started w k E) C)
  alike_argued (q ∷ qs) (alike_collection {vs = vs} {us = us} I A) {c} {c'} C =
      after_members (λ ms. argued φ qs vs e (collected q.0 ms c)) (λ ms. argued ψ qs us e' (collected q.0 ms c')) (alike_collect same E I) (λ ms ms' M. alike_argued qs A (alike_collected M C))
  alike_argued (q ∷ qs) (alike_closed {t = t} {u = u} h T A) C = alike_argued qs A (alike_running (subst (λ P. AlikeProcess d P (closure u e')) (sym (closed_by t e h)) (alike_closure T E)) C)
  alike_argued (q ∷ qs) (alike_opened {t = t} {u = u} h T A) C = alike_argued qs A (alike_running (subst (λ P. AlikeProcess d (closure t e) P) (sym (closed_by u e' h)) (alike_closure T E)) C)
  alike_argued (q ∷ qs) (alike_terms {t = t} {u = u} h k T A) C =
      let right : AlikeProcess d (closure t e) (argument_process u e') = subst (λ P. AlikeProcess d (closure t e) P) (sym (closed_by u e' k)) (alike_closure T E) in
      alike_argued qs A (alike_running (subst (λ P. AlikeProcess d P (argument_process u e')) (sym (closed_by t e h)) right) C)

  alike_called : (g : Name) {ss ts : Templates} {vs us : Arguments} → AlikeAll d ss ts → AlikeArguments d vs us → AlikeReferred d (process_called φ (template_named g ss) vs e) (process_called ψ (template_named g ts) us e')
  alike_called g none_alike A = referred_alike (alike_passing d)
  alike_called g {vs = vs} {us = us} (more_alike {s = s} {t = t} {ss = ss} {ts = ts} T R) A =
      let N : Name → Type 0 = λ n. AlikeReferred d (process_called φ (cond (bytes_eq g s.name) (Some s) (template_named g ss)) vs e) (process_called ψ (cond (bytes_eq g n) (Some t) (template_named g ts)) us e') in
      subst N (sym T.name) (by_test (bytes_eq g s.name) (alike_called g R A))
    where
      by_test : (b : Bool) → AlikeReferred d (process_called φ (template_named g ss) vs e) (process_called ψ (template_named g ts) us e')
          → AlikeReferred d (process_called φ (cond b (Some s) (template_named g ss)) vs e) (process_called ψ (cond b (Some t) (template_named g ts)) us e')
      by_test true H =
          let N : Bindings → Type 0 = λ qs. AlikeReferred d (argued φ s.parameters vs e empty >>= λ c. answer (closure s.body c)) (argued ψ qs us e' empty >>= λ c. answer (closure t.body c)) in
          subst N (sym T.parameters) (alike_made T.body (alike_argued s.parameters A alike_empty))
      by_test false H = H

abbrev answer_or : Process → Evaluated Process → Process
answer_or P (answer Q) = Q
answer_or P (failed x) = P

-- what an answer is like that is like another one
referred_like : {d : Bool} {P : Process} {q q' : Evaluated Process} → q ≡ answer P → AlikeReferred d q q' → (P' : Process) × AlikeProcess d P P' × (q' ≡ answer P')
referred_like {d} {P} h (referred_alike {P = Q} {P' = Q'} R) = (Q', subst (λ P. AlikeProcess d P Q') (ap (answer_or P) h) R, refl)
referred_like h referred_failed = absurd cc

fault_like : {d : Bool} {x : ValueFault} {q q' : Evaluated Process} → q ≡ failed x → AlikeReferred d q q' → q' ≡ failed x
fault_like h (referred_alike R) = absurd cc
fault_like h referred_failed = cc

-- what was made of what is referred to
abbrev made_as : Evaluated Process → Evaluated Made
made_as q = q >>= λ P. answer (process_made P)

abbrev process_or : Process → Made → Process
process_or P (process_made Q) = Q
process_or P m = P

abbrev made_or : Process → Evaluated Made → Process
made_or P (answer m) = process_or P m
made_or P (failed x) = P

referred_answer : (q : Evaluated Process) {P : Process} → made_as q ≡ answer (process_made P) → q ≡ answer P
referred_answer (answer Q) {P} h = ap answer (ap (made_or P) h)
referred_answer (failed x) h = absurd cc

referred_fault : (q : Evaluated Process) {x : ValueFault} → made_as q ≡ failed x → q ≡ failed x
referred_fault (answer Q) h = absurd cc
referred_fault (failed y) h = cc

-- ## Where switches stand

abbrev process_fired : Process → Standing → Process
process_fired P waits = P
process_fired P (fired P' M) = P'

abbrev life_since : Standing → Life
life_since waits = []
life_since (fired P M) = M

still_waits : (B : Data → Process) (st : Stand) → standing_of B st ≡ waits → st ≡ waiting
still_waits B waiting h = refl
still_waits B (began v M) h = absurd cc

one_later : (B : Data → Process) {P : Process} {M : Life} (s : Step) (st : Stand) → standing_of B st ≡ fired P M → standing_of B (later_stand s st) ≡ fired P (s ∷ M)
one_later B s waiting h = absurd cc
one_later B {P} {M} s (began v K) h = let process : B v ≡ P = ap (process_fired (B v)) h in let life : K ≡ M = ap life_since h in cc

data AlikeStanding (d : Bool) : Standing → Standing → Type 0 where
  alike_waits : AlikeStanding d waits waits
  alike_fired : {P P' : Process} {M : Life} → AlikeProcess d P P' → AlikeStanding d (fired P M) (fired P' M)

-- what is watched with its observer, beside what is like both
data AlikeWatched (d : Bool) : Watched → Watched → Type 0 where
  alike_observed : {P P' : Process} {q q' : Term} {e e' : Environment} → AlikeProcess d P P' → Alike d q q' → AlikeNames d e e' → AlikeWatched d (observed P q e) (observed P' q' e')
  alike_observed_members : {ms ms' : Members} {q q' : Term} {e e' : Environment} → AlikeMembers d ms ms' → Alike d q q' → AlikeNames d e e' → AlikeWatched d (observed_members ms q e) (observed_members ms' q' e')

abbrev AlikeTakeover : Bool → Takeover → Takeover → Type 0
AlikeTakeover d B B' = (s : Step) (L : Life) (v : Data) → AlikeProcess d (B s L v) (B' s L v)

alike_after : {d : Bool} (B B' : Takeover) → AlikeTakeover d B B' → (s : Step) (L : Life) (o : Option Data) → AlikeStanding d (stands_after B s L o) (stands_after B' s L o)
alike_after B B' T s L None = alike_waits
alike_after B B' T s L (Some v) = alike_fired (T s L v)

-- what takes over with its source kept
continuing_alike : {d : Bool} {t t' u u' : Term} {e e' : Environment} (k : Name) (p : Pattern) → Alike d t t' → Alike d u u' → AlikeNames d e e' → AlikeTakeover d (continuing_body k (closure t e) p u e) (continuing_body k (closure t' e') p u' e')
continuing_alike k p T U E s L v = alike_closure U (alike_bind p v (alike_running (alike_frozen L (wait_of s) (alike_closure T E)) E))

-- what takes over with members kept
releasing_alike : {d : Bool} {ms ms' : Members} {u u' : Term} {e e' : Environment} (k : Name) (p : Pattern) → AlikeMembers d ms ms' → Alike d u u' → AlikeNames d e e' → AlikeTakeover d (body_with_members k ms p u e) (body_with_members k ms' p u' e')
releasing_alike k p M U E s L v = alike_closure U (alike_bind p v (alike_collected (alike_each_frozen L (wait_of s) M) E))

-- ## Edits

abbrev AlikeEdit : Bool → Edit → Edit → Type 0
AlikeEdit d E E' = (L : Life) (s : Step) (ms ms' : Members) (v : Data) → AlikeMembers d ms ms' → AlikeGathered d (E L s ms v) (E' L s ms' v)

edit_alike : {d : Bool} {φ ψ : AnswersByName} {e e' : Environment} {u u' : Collection} (same : ψ ≡ φ) (k : Name) (p : Pattern) → AlikeNames d e e' → AlikeCollection d u u' → AlikeEdit d (edit_of φ k p u e) (edit_of ψ k p u' e')
edit_alike same k p E U L s ms ms' v M = alike_collect same (alike_bind p v (alike_collected (alike_each_frozen L (wait_of s) M) E)) U

module _ {d : Bool} (E E' : Edit) (A : AlikeEdit d E E') where
  edited_alike : (L : Life) (s : Step) (qs qs' : Members) (q : Option Data) → AlikeMembers d qs qs' → AlikeGathered d (edited (E L s qs) qs q) (edited (E' L s qs') qs' q)
  edited_alike L s qs qs' None M = gathered_alike M
  edited_alike L s qs qs' (Some v) M = A L s qs qs' v M

  which_alike : {ms ms' : Members} (L : Life) → AlikeMembers d ms ms' → AlikeGathered d (which_run E ms L) (which_run E' ms' L)
  which_alike [] M = gathered_alike M
  which_alike (s ∷ L) M =
      after_gathered (λ qs. edited (E (since_edit L) s qs) qs (event_beside s)) (λ qs. edited (E' (since_edit L) s qs) qs (event_beside s)) (which_alike L M) (λ qs qs' Q. edited_alike (since_edit L) s qs qs' (event_beside s) Q)

-- two edits alike, or none
data AlikeEdited (d : Bool) : Option (Evaluated Members) → Option (Evaluated Members) → Type 0 where
  neither_edits : AlikeEdited d None None
  both_edit : {a b : Evaluated Members} → AlikeGathered d a b → AlikeEdited d (Some a) (Some b)

edits_alike : {d : Bool} (f g : Data → Evaluated Members) (q : Option Data) → ((v : Data) → AlikeGathered d (f v) (g v)) → AlikeEdited d (option_map f q) (option_map g q)
edits_alike f g None h = neither_edits
edits_alike f g (Some v) h = both_edit (h v)

-- the texts' costs
law_texts : {d : Bool} {t u : Term} → Law d t u → Below d (text_cost t) (text_cost u)
law_texts (to_plan A) = texts A
law_texts (from_plan A) = below_any _ _

law_sound : (R : Leaves) (one : OneLeaf R) {d : Bool} {t u : Term} → Law d t u → Sound R one d t u
law_sound R one (to_plan A) = onward R one A
law_sound R one (from_plan A) = back R one A

mutual
  pub alike_texts : {d : Bool} {t u : Term} → Alike d t u → Below d (text_cost t) (text_cost u)
  alike_texts (alike A B C) = below_trans (law_texts A) (below_trans (formed_texts B) (law_texts C))

  formed_texts : {d : Bool} {t u : Term} → Formed d t u → Below d (text_cost t) (text_cost u)
  formed_texts {d} same_primitive = below_same d _
  formed_texts {d} same_started = below_same d _
  formed_texts (same_call A) = below_over _ _ (arguments_texts A)
  formed_texts (same_join A B) = below_over _ _ (below_both _ _ _ _ (alike_texts A) (alike_texts B))
  formed_texts (same_side A) = below_over _ _ (alike_texts A)
  formed_texts (same_heading A) = below_over _ _ (alike_texts A)
  formed_texts (same_transformed A) = below_over _ _ (alike_texts A)
  formed_texts (same_switch A B) = below_over _ _ (alike_texts A)
  formed_texts (same_continuing A C B) = below_over _ _ (below_both _ _ _ _ (alike_texts A) (alike_texts C))
  formed_texts (same_gathered I) = below_over _ _ (collection_texts I)
  formed_texts (same_releasing I C B) = below_over _ _ (below_both _ _ _ _ (collection_texts I) (alike_texts C))
  formed_texts (same_editing I J) = below_over _ _ (collection_texts I)

  collection_texts : {d : Bool} {i i' : Collection} → AlikeCollection d i i' → Below d (collection_cost i) (collection_cost i')
  collection_texts {d} alike_without = below_same d no_cost
  collection_texts {d} alike_used = below_same d no_cost
  collection_texts (alike_added I T) = below_both _ _ _ _ (collection_texts I) (alike_texts T)
  collection_texts (alike_dropped I) = collection_texts I
  collection_texts (alike_kept I) = collection_texts I
  collection_texts (alike_chosen A B) = below_both _ _ _ _ (collection_texts A) (collection_texts B)

  arguments_texts : {d : Bool} {vs us : Arguments} → AlikeArguments d vs us → Below d (arguments_cost vs) (arguments_cost us)
  arguments_texts {d} alike_none = below_same d no_cost
  arguments_texts (alike_value A) = arguments_texts A
  arguments_texts {d} (alike_named A) = below_both _ _ _ _ (below_same d one_term) (arguments_texts A)
  arguments_texts (alike_collection I A) = below_both _ _ _ _ (collection_texts I) (arguments_texts A)
  arguments_texts (alike_closed h T A) = below_both _ _ _ _ (alike_texts T) (arguments_texts A)
  arguments_texts (alike_opened h T A) = below_both _ _ _ _ (alike_texts T) (arguments_texts A)
  arguments_texts (alike_terms h k T A) = below_both _ _ _ _ (alike_texts T) (arguments_texts A)

module _ (d : Bool) (n n' : Network) (all : AlikeAll d n.templates n'.templates) (same : n'.functions ≡ n.functions) (one : OneLeaf (Leaf n)) (one' : OneLeaf (Leaf n')) where
  -- what a form that no law looks into gives: a step of the network, and for each form like it a step there
  abbrev BothStep : Term → Environment → Step → Life → Outcome → Cost → Type 0
  BothStep t e s L o c = (Leaf n).leaf t e s L o c × ((u : Term) (e' : Environment) → Formed d t u → AlikeNames d e e' → Lowered d ((Leaf n').leaf u e' s L o) c)

  abbrev Q : Leaves
  Q = record { functions = n.functions; leaf = BothStep }

  one_Q : OneLeaf Q
  one_Q t e s L a b c k A B = one t e s L a b c k A.0 B.0

  -- each step of one term is a step of another, there
  abbrev Goes : Term → Term → Type 0
  Goes t u = (e e' : Environment) → AlikeNames d e e' → (s : Step) (L : Life) (ys : List Data) (o : Outcome) (c : Cost) → Parts Q t e L ys → At Q t e s L o c → Lowered d (At (Leaf n') u e' s L o) c

  module _ {t u : Term} (S : Goes t u) (e e' : Environment) (E : AlikeNames d e e') where
    goes_all : {L : Life} {ys : List Data} → Parts Q t e L ys → Parts (Leaf n') u e' L ys
    goes_all begins = begins
    goes_all (then_gave A B) = elim (S e e' E _ _ _ _ _ A B) [ lowered B' h ↦ then_gave (goes_all A) B' ]

    goes_part : {L : Life} {o : Outcome} {c : Cost} → Part Q t e L o c → Lowered d (Part (Leaf n') u e' L o) c
    goes_part (part A B) = elim (S e e' E _ _ _ _ _ A B) [ lowered B' h ↦ lowered (part (goes_all A) B') h ]

    goes_then : Below d (text_cost t) (text_cost u) → {L : Life} {p o : Outcome} {c : Cost} → Then Q p t e L o c → Lowered d (Then (Leaf n') p u e' L o) c
    goes_then b (then_part A) = elim (goes_part A) [ lowered A' h ↦ lowered (then_part A') h ]
    goes_then b then_stops = lowered then_stops b

    goes_rounds : {v : Data} {L : Life} {ys : List Data} → Rounds Q v t e L ys → Rounds (Leaf n') v u e' L ys
    goes_rounds no_round = no_round
    goes_rounds (one_round A B) = elim (goes_part B) [ lowered B' h ↦ one_round (goes_rounds A) B' ]

    goes_watches : {L : Life} {st : Stand} → Watches Q t e L st → Watches (Leaf n') u e' L st
    goes_watches watch_begins = watch_begins
    goes_watches (then_watched A B h) = elim (goes_part B) [ lowered B' k ↦ then_watched (goes_watches A) B' h ]
    goes_watches (fired_before A) = fired_before (goes_watches A)

  module _ {u u' : Term} (T : Goes u u') (p : Pattern) (e e' : Environment) (E : AlikeNames d e e') where
    goes_body : (v : Data) {L : Life} {o : Outcome} {c : Cost} → Part Q u (bind p v e) L o c → Lowered d (Part (Leaf n') u' (bind p v e') L o) c
    goes_body v A = goes_part T (bind p v e) (bind p v e') (alike_bind p v E) A

    goes_bodies : {w : Observation} {s : Step} {o : Outcome} {q : Option Data} {o' : Outcome} {c : Cost} → Bodies Q w p u e s o q o' c → Lowered d (Bodies (Leaf n') w p u' e' s o q o') c
    goes_bodies no_body = lowered no_body (below_same d _)
    goes_bodies (body_begins {v = v} A) = elim (goes_body v A) [ lowered A' h ↦ lowered (body_begins A') h ]

    goes_switches : {w : Observation} {s : Step} {o o' : Outcome} {c : Cost} → Switches Q w p u e s o o' c → Lowered d (Switches (Leaf n') w p u' e' s o o') c
    goes_switches switch_stops = lowered switch_stops (below_same d _)
    goes_switches (switch_goes A) = elim (goes_bodies A) [ lowered A' h ↦ lowered (switch_goes A') h ]

    goes_turns : {t t' : Term} → Goes t t' → {w : Observation} {s : Step} {L : Life} {st : Stand} {o : Outcome} {c : Cost} → Turns Q w t p u e s L st o c → Lowered d (Turns (Leaf n') w t' p u' e' s L st o) c
    goes_turns S (turn_waits A B) = elim (goes_part S e e' E A) [ lowered A' h ↦ elim (goes_switches B) [ lowered B' k ↦ lowered (turn_waits A' B') (below_over _ _ (below_both _ _ _ _ h k)) ] ]
    goes_turns S (turn_body {v = v} A) = elim (goes_body v A) [ lowered A' h ↦ lowered (turn_body A') h ]

    goes_runs : {t t' : Term} → Goes t t' → {q : Option Data} {L : Life} {o : Outcome} {c : Cost} → Runs Q t p u e q L o c → Lowered d (Runs (Leaf n') t' p u' e' q L o) c
    goes_runs S (runs_first A) = elim (goes_part S e e' E A) [ lowered A' h ↦ lowered (runs_first A') h ]
    goes_runs S (runs_body {v = v} A) = elim (goes_body v A) [ lowered A' h ↦ lowered (runs_body A') h ]

  -- a form that no law looks into
  go_leaf : {t u : Term} → IsTrue (is_leaf t) → IsTrue (is_leaf u) → Formed d t u → {e e' : Environment} → AlikeNames d e e' → {s : Step} {L : Life} {o : Outcome} {c : Cost} → BothStep t e s L o c → Lowered d (At (Leaf n') u e' s L o) c
  go_leaf h k F {e' = e'} E A = elim (A.1 _ e' F E) [ lowered B l ↦ lowered (at_leaf k B) l ]

  go_primitive : {p : Primitive} → Goes (primitive p) (primitive p)
  go_primitive e e' E s L ys o c P (at_leaf h A) = go_leaf h h same_primitive E A
  go_primitive {p} e e' E s L ys o c P at_primitive =
      let N : Scope → Type 0 = λ sc. At (Leaf n') (primitive p) e' s L (as_outcome (formula p sc s L) (recorded p s)) one_term in
      lowered (subst N (sym (scopes same E)) at_primitive) (below_same d one_term)

  go_join : {j : Join} {f f' g g' : Term} → Goes f f' → Goes g g' → Below d (text_cost g) (text_cost g') → Goes (joined j f g) (joined j f' g')
  go_join S T b e e' E s L ys o c P (at_leaf h B) = absurd (no_truth h)
  go_join S T b e e' E s L ys o c P (at_join A B C) =
      elim (goes_part S e e' E B) [
        | lowered B' h ↦ elim (goes_then T e e' E b C) [
          | lowered C' k ↦
              lowered (at_join (goes_all S e e' E A) B' C') (below_over _ _ (below_both _ _ _ _ h k))
        ]
      ]

  go_side : {a : Side} {t t' : Term} → Goes t t' → Goes (sided a t) (sided a t')
  go_side S e e' E s L ys o c P (at_leaf h B) = absurd (no_truth h)
  go_side S e e' E s L ys o c P (at_side A) = elim (goes_part S e e' E A) [ lowered A' h ↦ lowered (at_side A') (below_over _ _ h) ]

  go_heading : {h : Heading} {i : Expression} {t t' : Term} → Goes t t' → Below d (text_cost t) (text_cost t') → Goes (headed h i t) (headed h i t')
  go_heading S b e e' E s L ys o c P (at_leaf h B) = absurd (no_truth h)
  go_heading {i = i} S b e e' E s L ys o c P (at_loop h A B) = elim (goes_part S e e' E B) [ lowered B' k ↦ lowered (at_loop (ap (eval i) (sym (scopes same E)) ∙ h) (goes_rounds S e e' E A) B') (below_over _ _ k) ]
  go_heading {i = i} S b e e' E s L ys o c P (at_initialized h A) = elim (goes_part S e e' E A) [ lowered A' k ↦ lowered (at_initialized (ap (eval i) (sym (scopes same E)) ∙ h) A') (below_over _ _ k) ]
  go_heading {i = i} S b e e' E s L ys o c P (at_replaced h A) = elim (goes_part S e e' E A) [ lowered A' k ↦ lowered (at_replaced (ap (eval i) (sym (scopes same E)) ∙ h) A') (below_over _ _ k) ]
  go_heading {i = i} {t' = t'} S b e e' E s L ys o c P (at_followed {ys = zs} {o = p} A B) =
      elim (goes_part S e e' E B) [
        | lowered {b = a} B' k ↦
            let N : Scope → Type 0 = λ sc. At (Leaf n') (headed Followed i t') e' s L (answered_by (newest_or (eval i sc) zs) p) (over a) in
            lowered (subst N (sym (scopes same E)) (at_followed (goes_all S e e' E A) B')) (below_over _ _ k)
      ]
  go_heading {i = i} S b e e' E s L ys o c P (at_constant z h) = lowered (at_constant z (ap (eval i) (sym (scopes same E)) ∙ h)) (below_over _ _ b)

  go_transformed : {f : Function} {t t' : Term} → Goes t t' → Below d (text_cost t) (text_cost t') → Goes (transformed f t) (transformed f t')
  go_transformed S b e e' E s L ys o c P (at_leaf h B) = absurd (no_truth h)
  go_transformed {f = f} S b e e' E s L ys o c P (at_transformed h A) =
      elim (goes_part S e e' E A) [ lowered A' k ↦ lowered (at_transformed (ap (apply f (first_input s L)) (sym (scopes same E)) ∙ h) A') (below_over _ _ k) ]
  go_transformed {f = f} S b e e' E s L ys o c P (at_function h) = lowered (at_function (ap (apply f (input_of s)) (sym (scopes same E)) ∙ h)) (below_over _ _ b)

  go_switch : {w : Switching} {t t' u u' : Term} {p : Pattern} → Goes t t' → Goes u u' → Goes (switching w t p u) (switching w t' p u')
  go_switch S T e e' E s L ys o c P (at_leaf h B) = absurd (no_truth h)
  go_switch {p = p} S T e e' E s L ys o c P (at_switch A B) = elim (goes_turns T p e e' E S B) [ lowered B' h ↦ lowered (at_switch (goes_watches S e e' E A) B') h ]
  go_switch {p = p} S T e e' E s L ys o c P (at_recurring A B) =
      elim (goes_runs T p e e' E S A) [ lowered A' h ↦ elim (goes_bodies T p e e' E B) [ lowered B' k ↦ lowered (at_recurring A' B') (below_over _ _ (below_both _ _ _ _ h k)) ] ]

  go_reference : {r r' : Reference} → Formed d (reference r) (reference r') → Goes (reference r) (reference r')
  go_reference F e e' E s L ys o c P (at_leaf h A) = go_leaf h refl F E A

  go_continuing : {w : Observation} {t t' q q' u u' : Term} {k : Name} {p : Pattern} → Alike d t t' → Alike d q q' → Alike d u u' → Goes (continuing w t q k p u) (continuing w t' q' k p u')
  go_continuing T H U e e' E s L ys o c P (at_leaf h A) = go_leaf h h (same_continuing T H U) E A

  go_gathered : {i i' : Collection} → AlikeCollection d i i' → Goes (gathered i) (gathered i')
  go_gathered I e e' E s L ys o c P (at_leaf h A) = go_leaf h h (same_gathered I) E A

  go_releasing : {w : Observation} {i i' : Collection} {q q' u u' : Term} {k : Name} {p : Pattern} → AlikeCollection d i i' → Alike d q q' → Alike d u u' → Goes (releasing w i q k p u) (releasing w i' q' k p u')
  go_releasing I H U e e' E s L ys o c P (at_leaf h A) = go_leaf h h (same_releasing I H U) E A

  go_editing : {w : Observation} {i i' u u' : Collection} {k : Name} {p : Pattern} → AlikeCollection d i i' → AlikeCollection d u u' → Goes (editing w i k p u) (editing w i' k p u')
  go_editing I U e e' E s L ys o c P (at_leaf h A) = go_leaf h h (same_editing I U) E A

  go_turn : {t u v w : Term} → Law d t u → Goes u v → Law d v w → Goes t w
  go_turn A S C e e' E s L ys o c P F =
      let P' = parts_along Q one_Q (law_sound Q one_Q A) P in
      elim (law_sound Q one_Q A _ _ _ _ _ _ P F) [
        | lowered F-one h ↦
            elim (S e e' E _ _ _ _ _ P' F-one) [
              | lowered F-two k ↦
                  elim (law_sound (Leaf n') one' C _ _ _ _ _ _ (goes_all S e e' E P') F-two) [ lowered F-three l ↦ lowered F-three (below_trans h (below_trans k l)) ]
            ]
      ]

  mutual
    go : {t u : Term} → Alike d t u → Goes t u
    go (alike A B C) = go_turn A (go_form B) C

    go_form : {t u : Term} → Formed d t u → Goes t u
    go_form same_primitive = go_primitive
    go_form same_started = go_reference same_started
    go_form (same_call A) = go_reference (same_call A)
    go_form (same_join A B) = go_join (go A) (go B) (alike_texts B)
    go_form (same_side A) = go_side (go A)
    go_form (same_heading A) = go_heading (go A) (alike_texts A)
    go_form (same_transformed A) = go_transformed (go A) (alike_texts A)
    go_form (same_switch A B) = go_switch (go A) (go B)
    go_form (same_continuing A C B) = go_continuing A C B
    go_form (same_gathered I) = go_gathered I
    go_form (same_releasing I C B) = go_releasing I C B
    go_form (same_editing I U) = go_editing I U

  -- what the steps of the network are made into
  mutual
    data Ready : Process → Step → Life → Outcome → Cost → Type 0 where
      ready_closure : {t : Term} {e : Environment} {s : Step} {L : Life} {o : Outcome} {c : Cost} → At Q t e s L o c → Ready (closure t e) s L o c
      ready_resumed : {P : Process} {h : Life} {w : ℕ} {s : Step} {L : Life} {o : Outcome} {c : Cost} → ReadyNow P (after h w (s ∷ L)) o c → Ready (resumed P h w) s L o c

    data ReadyEach : Members → Step → Life → Outcome → Cost → Type 0 where
      ready_none : {s : Step} {L : Life} → ReadyEach no_members s L (gave (table no_rows) []) no_cost
      ready_one : {k : KeyData} {P : Process} {ms : Members} {s : Step} {L : Life} {o o' : Outcome} {c c' : Cost} → ReadyNow P (s ∷ L) o c → ReadyOthers o ms s L o' c' → ReadyEach (member k P ms) s L (combined (leading_row k) o o') (both_costs c c')

    data ReadyOthers : Outcome → Members → Step → Life → Outcome → Cost → Type 0 where
      ready_others : {ms : Members} {s : Step} {L : Life} {y : Data} {r : Readings} {o : Outcome} {c : Cost} → ReadyEach ms s L o c → ReadyOthers (gave y r) ms s L o c
      ready_stopped : {ms : Members} {s : Step} {L : Life} {x : ValueFault} → ReadyOthers (faulted x) ms s L (faulted x) no_cost

    data ReadyTables : Members → Life → List Data → Type 0 where
      ready_no_tables : {ms : Members} → ReadyTables ms [] []
      ready_table : {ms : Members} {s : Step} {L : Life} {y : Data} {r : Readings} {ys : List Data} {c : Cost} → ReadyTables ms L ys → ReadyEach ms s L (gave y r) c → ReadyTables ms (s ∷ L) (y ∷ ys)

    data ReadyAll : Process → Life → List Data → Type 0 where
      all_begins : {P : Process} → ReadyAll P [] []
      all_gave : {P : Process} {s : Step} {L : Life} {y : Data} {r : Readings} {ys : List Data} {c : Cost} → ReadyAll P L ys → Ready P s L (gave y r) c → ReadyAll P (s ∷ L) (y ∷ ys)

    data ReadyNow : Process → Life → Outcome → Cost → Type 0 where
      ready_now : {P : Process} {s : Step} {L : Life} {ys : List Data} {o : Outcome} {c : Cost} → ReadyAll P L ys → Ready P s L o c → ReadyNow P (s ∷ L) o c

  opened : {t : Term} {e : Environment} {s : Step} {L : Life} {o : Outcome} {c : Cost} → Ready (closure t e) s L o c → At Q t e s L o c
  opened (ready_closure A) = A

  opened_all : {t : Term} {e : Environment} {L : Life} {ys : List Data} → ReadyAll (closure t e) L ys → Parts Q t e L ys
  opened_all all_begins = begins
  opened_all (all_gave A B) = then_gave (opened_all A) (opened B)

  opened_part : {t : Term} {e : Environment} {L : Life} {o : Outcome} {c : Cost} → ReadyNow (closure t e) L o c → Part Q t e L o c
  opened_part (ready_now A B) = part (opened_all A) (opened B)

  -- what the body of a switch is made into
  opened_body : {u : Term} (p : Pattern) (e : Environment) {B : Data → Process} → B ≡ body_of p u e → (v : Data) {L : Life} {o : Outcome} {c : Cost} → ReadyNow (B v) L o c → Part Q u (bind p v e) L o c
  opened_body p e h v {L} {o} {c} A = let N : (Data → Process) → Type 0 = λ B. ReadyNow (B v) L o c in opened_part (subst N h A)

  -- each step of a process is a step of one like it, there
  abbrev Meets : Process → Process → Type 0
  Meets P P' = (s : Step) (L : Life) (ys : List Data) (o : Outcome) (c : Cost) → ReadyAll P L ys → Ready P s L o c → Lowered d (Sample n' P' s L o) c

  module _ {P P' : Process} (M : Meets P P') where
    meet_outputs : {L : Life} {ys : List Data} → ReadyAll P L ys → Outputs n' P' L ys
    meet_outputs all_begins = not_begun
    meet_outputs (all_gave A B) = elim (M _ _ _ _ _ A B) [ lowered B' h ↦ and_gave (meet_outputs A) B' ]

    meet_gives : {L : Life} {o : Outcome} {c : Cost} → ReadyNow P L o c → Lowered d (Gives n' P' L o) c
    meet_gives (ready_now A B) = elim (M _ _ _ _ _ A B) [ lowered B' h ↦ lowered (gives (meet_outputs A) B') h ]

  meets_others : {ms ms' : Members} {p : Outcome} {s : Step} {L : Life} {o : Outcome} {c : Cost} → ((o : Outcome) (c : Cost) → ReadyEach ms s L o c → Lowered d (Each n' ms' s L o) c) → ReadyOthers p ms s L o c → Lowered d (Others n' p ms' s L o) c
  meets_others M (ready_others B) = elim (M _ _ B) [ lowered B' h ↦ lowered (others_go_on B') h ]
  meets_others M ready_stopped = lowered others_stop (below_same d _)

  meets : {P P' : Process} → AlikeProcess d P P' → Meets P P'
  meets (alike_closure {e = e} {e' = e'} T E) s L ys o c A (ready_closure B) = elim (go T e e' E s L ys o c (opened_all A) B) [ lowered B' h ↦ lowered (closed n' B') h ]
  meets (alike_resumed R) s L ys o c A (ready_resumed B) = elim (meet_gives (meets R) B) [ lowered B' h ↦ lowered (of_resumed B') h ]

  meets_each : {ms ms' : Members} → AlikeMembers d ms ms' → {s : Step} {L : Life} {o : Outcome} {c : Cost} → ReadyEach ms s L o c → Lowered d (Each n' ms' s L o) c
  meets_each alike_no_member ready_none = lowered no_more (below_same d _)
  meets_each (alike_member R M) (ready_one A B) = elim (meet_gives (meets R) A) [ lowered A' h ↦ elim (meets_others (λ o c C. meets_each M C) B) [ lowered B' k ↦ lowered (one_more A' B') (below_both _ _ _ _ h k) ] ]

  meet : {P P' : Process} → AlikeProcess d P P' → {L : Life} {o : Outcome} {c : Cost} → ReadyNow P L o c → Lowered d (Gives n' P' L o) c
  meet R A = meet_gives (meets R) A

  meet_all : {P P' : Process} → AlikeProcess d P P' → {L : Life} {ys : List Data} → ReadyAll P L ys → Outputs n' P' L ys
  meet_all R A = meet_outputs (meets R) A

  meet_tables : {ms ms' : Members} → AlikeMembers d ms ms' → {L : Life} {ys : List Data} → ReadyTables ms L ys → Tables n' ms' L ys
  meet_tables M ready_no_tables = no_tables
  meet_tables M (ready_table A B) = elim (meets_each M B) [ lowered B' h ↦ and_table (meet_tables M A) B' ]

  -- what is referred to is like what a reference like it refers to there
  refers : {r : Reference} {u : Term} {e e' : Environment} → Formed d (reference r) u → AlikeNames d e e' → (r' : Reference) × (u ≡ reference r') × AlikeReferred d (referred n r e) (referred n' r' e')
  refers (same_started {w = w} {k = k}) E = (started w k, refl, referred_alike (alike_started w k E))
  refers (same_call {g = g} {us = us} A) E = (call g us, refl, alike_called same E g all A)

  -- a reference whose arguments fail
  reference_fails : {r : Reference} {e : Environment} {s : Step} {x : ValueFault} → make n (reference r) e (input_of s) ≡ failed x → At Q (reference r) e s [] (faulted x) one_term
  reference_fails {r} {e} {s} {x} h = at_leaf refl (of_constants h, λ u e' F E. fails (refers F E))
    where
      fails : {u : Term} {e' : Environment} → (r' : Reference) × (u ≡ reference r') × AlikeReferred d (referred n r e) (referred n' r' e') → Lowered d ((Leaf n').leaf u e' s [] (faulted x)) one_term
      fails {u} {e'} like =
          let N : Term → Type 0 = λ u. Lowered d ((Leaf n').leaf u e' s [] (faulted x)) one_term in
          subst N (sym like.1) (lowered (of_constants (ap made_as (fault_like (referred_fault (referred n r e) h) like.2))) (below_same d one_term))

  -- a form whose collection fails
  gathered_fails : {i : Collection} {v : Term} {e e' : Environment} {s : Step} {x : ValueFault} → make n (gathered i) e (input_of s) ≡ failed x → Formed d (gathered i) v → AlikeNames d e e' → Lowered d ((Leaf n').leaf v e' s [] (faulted x)) one_term
  gathered_fails {i} {e = e} h (same_gathered I) E = lowered (of_constants (ap gathered_as (gathered_fault_like (gathered_fault (collect n.functions i e) h) (alike_collect same E I)))) (below_same d one_term)

  releasing_fails : {w : Observation} {i : Collection} {q u : Term} {k : Name} {p : Pattern} {v : Term} {e e' : Environment} {s : Step} {x : ValueFault} → make n (releasing w i q k p u) e (input_of s) ≡ failed x → Formed d (releasing w i q k p u) v → AlikeNames d e e'
      → Lowered d ((Leaf n').leaf v e' s [] (faulted x)) (entered_cost (releasing w i q k p u))
  releasing_fails {i = i} {e = e} h (same_releasing I C B) E = lowered (of_constants (ap gathered_as (gathered_fault_like (gathered_fault (collect n.functions i e) h) (alike_collect same E I)))) (below_over _ _ (alike_texts C))

  editing_fails : {w : Observation} {i u : Collection} {k : Name} {p : Pattern} {v : Term} {e e' : Environment} {s : Step} {x : ValueFault} → make n (editing w i k p u) e (input_of s) ≡ failed x → Formed d (editing w i k p u) v → AlikeNames d e e'
      → Lowered d ((Leaf n').leaf v e' s [] (faulted x)) one_term
  editing_fails {i = i} {e = e} h (same_editing I U) E = lowered (of_constants (ap gathered_as (gathered_fault_like (gathered_fault (collect n.functions i e) h) (alike_collect same E I)))) (below_same d one_term)

  -- a form whose constants fail
  failing : (t : Term) {e : Environment} {s : Step} {x : ValueFault} → make n t e (input_of s) ≡ failed x → At Q t e s [] (faulted x) (entered_cost t)
  failing (primitive p) h = absurd cc
  failing (reference r) h = reference_fails h
  failing (joined j f g) h = absurd cc
  failing (sided a t) h = absurd cc
  failing (headed LoopPre i t) {e} h = at_constant refl (made_fault (eval i (scope_around n.functions e)) h)
  failing (headed Initialized i t) {e} h = at_constant refl (made_fault (eval i (scope_around n.functions e)) h)
  failing (headed Replaced i t) {e} h = at_constant refl (made_fault (eval i (scope_around n.functions e)) h)
  failing (headed Followed i t) h = absurd cc
  failing (transformed f t) {e} {s} h = at_function (made_fault (apply f (input_of s) (scope_around n.functions e)) h)
  failing (switching w t p u) h = absurd cc
  failing (continuing w t q k p u) h = absurd cc
  failing (gathered i) h = at_leaf refl (of_constants h, λ u e' F E. gathered_fails h F E)
  failing (releasing w i q k p u) h = at_leaf refl (of_constants h, λ u e' F E. releasing_fails h F E)
  failing (editing w i k p u) h = at_leaf refl (of_constants h, λ u e' F E. editing_fails h F E)
  failing (staged x f g) h = absurd cc

  -- what is referred to stands for one like it there
  reference_ready : {r : Reference} {e : Environment} {P : Process} {s : Step} {L : Life} {o : Outcome} {c : Cost} → make n (reference r) e (first_input s L) ≡ answer (process_made P) → Gives n P (s ∷ L) o c → ReadyNow P (s ∷ L) o c
      → At Q (reference r) e s L o (over_first L c)
  reference_ready {r} {e} {P} {s} {L} {o} {c} h A B = at_leaf refl (of_form h (of_reference A), λ u e' F E. meets_there (refers F E))
    where
      meets_there : {u : Term} {e' : Environment} → (r' : Reference) × (u ≡ reference r') × AlikeReferred d (referred n r e) (referred n' r' e') → Lowered d ((Leaf n').leaf u e' s L o) (over_first L c)
      meets_there {u} {e'} like =
          let N : Term → Type 0 = λ u. Lowered d ((Leaf n').leaf u e' s L o) (over_first L c) in
          let there = referred_like (referred_answer (referred n r e) h) like.2 in
          subst N (sym like.1) (elim (meet there.1 B) [ lowered B' k ↦ lowered (of_form (ap made_as there.2) (of_reference B')) (below_first L _ _ k) ])

  -- a switch that stood so, where what takes over is like another
  stood : {W : Watched} {B : Takeover} {L : Life} {st : Standing} → AlikeStanding d waits st → Since n' W B L st → Since n' W B L waits
  stood alike_waits S = S

  stood_later : {W : Watched} {B : Takeover} (s : Step) {L M : Life} {P : Process} {st : Standing} → AlikeStanding d (fired P M) st → Since n' W B L st → (st' : Standing) × AlikeStanding d (fired P (s ∷ M)) st' × Since n' W B (s ∷ L) st'
  stood_later s (alike_fired R) S = (_, alike_fired R, had_fired S)

  watches_later : (C : Data → Process) (s : Step) {t : Term} {e : Environment} {L M : Life} {P : Process} (st : Stand) → Watches Q t e L st → standing_of C st ≡ fired P M → Watches Q t e (s ∷ L) (later_stand s st)
  watches_later C s waiting W h = absurd cc
  watches_later C s (began v M) W h = fired_before W

  -- a switch that keeps its source steps where what it watches, and what took over, do so in one like it
  continuing_meets : {w : Observation} {t q u : Term} {k : Name} {p : Pattern} {e : Environment} {s : Step} {L : Life} {st : Standing} {o : Outcome} {c : Cost} {v : Term} {e' : Environment}
      → Formed d (continuing w t q k p u) v → AlikeNames d e e'
      → ((W' : Watched) (B' : Takeover) → AlikeWatched d (observed (closure t e) q e) W' → AlikeTakeover d (continuing_body k (closure t e) p u e) B' → (st' : Standing) × AlikeStanding d st st' × Since n' W' B' L st')
      → ((W' : Watched) (B' : Takeover) (st' : Standing) → AlikeWatched d (observed (closure t e) q e) W' → AlikeTakeover d (continuing_body k (closure t e) p u e) B' → AlikeStanding d st st' → Lowered d (SwitchTurn n' w W' B' s L st' o) c)
      → Lowered d ((Leaf n').leaf v e' s L o) c
  continuing_meets {k = k} {p = p} (same_continuing A C B) E since turn =
      let W = alike_observed (alike_closure A E) C E in
      let body = continuing_alike k p A B E in
      let st = since _ _ W body in
      elim (turn _ _ _ W body st.1) [ lowered T h ↦ lowered (of_form refl (of_continuing st.2 T)) h ]

  -- the members of a collection step where those of one like it do
  gathered_meets : {i : Collection} {e : Environment} {ms : Members} {s : Step} {L : Life} {o : Outcome} {c : Cost} {v : Term} {e' : Environment} → make n (gathered i) e (first_input s L) ≡ answer (members_made ms) → ReadyEach ms s L o c
      → Formed d (gathered i) v → AlikeNames d e e' → Lowered d ((Leaf n').leaf v e' s L o) (over c)
  gathered_meets {i} {e} k A (same_gathered I) E =
      let there = gathered_like (collected_as (collect n.functions i e) k) (alike_collect same E I) in
      elim (meets_each there.1 A) [ lowered A' h ↦ lowered (of_form (ap gathered_as there.2) (of_gathered A')) (below_over _ _ h) ]

  -- members that are kept
  releasing_meets : {w : Observation} {i : Collection} {q u : Term} {k : Name} {p : Pattern} {e : Environment} {ms : Members} {s : Step} {L : Life} {st : Standing} {o : Outcome} {c : Cost} {v : Term} {e' : Environment}
      → make n (releasing w i q k p u) e (first_input s L) ≡ answer (members_made ms)
      → Formed d (releasing w i q k p u) v → AlikeNames d e e'
      → ((W' : Watched) (B' : Takeover) → AlikeWatched d (observed_members ms q e) W' → AlikeTakeover d (body_with_members k ms p u e) B' → (st' : Standing) × AlikeStanding d st st' × Since n' W' B' L st')
      → ((W' : Watched) (B' : Takeover) (st' : Standing) → AlikeWatched d (observed_members ms q e) W' → AlikeTakeover d (body_with_members k ms p u e) B' → AlikeStanding d st st' → Lowered d (SwitchTurn n' w W' B' s L st' o) c)
      → Lowered d ((Leaf n').leaf v e' s L o) c
  releasing_meets {i = i} {k = k} {p = p} {e = e} j (same_releasing I C B) E since turn =
      let there = gathered_like (collected_as (collect n.functions i e) j) (alike_collect same E I) in
      let W = alike_observed_members there.1 C E in
      let body = releasing_alike k p there.1 B E in
      let st = since _ _ W body in
      elim (turn _ _ _ W body st.1) [ lowered T h ↦ lowered (of_form (ap gathered_as there.2) (of_releasing st.2 T)) h ]

  -- members that are edited
  editing_meets : {w : Observation} {i u : Collection} {k : Name} {p : Pattern} {e : Environment} {ms qs : Members} {s : Step} {L : Life} {o o' : Outcome} {c c' : Cost} {v : Term} {e' : Environment}
      → make n (editing w i k p u) e (first_input s L) ≡ answer (members_made ms) → which_run (edit_of n.functions k p u e) ms L ≡ answer qs → ReadyEach qs (without_event s) (since_edit L) o c
      → Formed d (editing w i k p u) v → AlikeNames d e e'
      → ((r : Option (Evaluated Members)) → AlikeEdited d (option_map (edit_of n.functions k p u e (since_edit L) s qs) (unless_faulted o (event_beside s))) r → Lowered d (Edited n' w r (without_event s) o o') c')
      → Lowered d ((Leaf n').leaf v e' s L o') (over (both_costs c c'))
  editing_meets {i = i} {u = u} {k = k} {p = p} {e = e} {qs = qs} {s = s} {L = L} {o = o} {e' = e'} j H A (same_editing {u' = u'} I U) E edits =
      let there = gathered_like (collected_as (collect n.functions i e) j) (alike_collect same E I) in
      let edit = edit_of n.functions k p u e in
      let edit' = edit_of n'.functions k p u' e' in
      let alike_edits = edit_alike same k p E U in
      let run = gathered_like H (which_alike edit edit' alike_edits L there.1) in
      let made = edits_alike (edit (since_edit L) s qs) (edit' (since_edit L) s run.0) (unless_faulted o (event_beside s)) (λ v. alike_edits (since_edit L) s qs run.0 v run.1) in
      elim (meets_each run.1 A) [ lowered A' h ↦ elim (edits _ made) [ lowered B' l ↦ lowered (of_form (ap gathered_as there.2) (of_editing run.2 A' B')) (below_over _ _ (below_both _ _ _ _ h l)) ] ]

  runs_ready : {t u : Term} {p : Pattern} {e : Environment} (q : Option Data) {L : Life} {o : Outcome} {c : Cost} → ReadyNow (what_runs (closure t e) (body_of p u e) q) L o c → Runs Q t p u e q L o c
  runs_ready None A = runs_first (opened_part A)
  runs_ready (Some v) A = runs_body (opened_part A)

  mutual
    ready : {P : Process} {s : Step} {L : Life} {o : Outcome} {c : Cost} → Sample n P s L o c → Ready P s L o c
    ready (of_constants {t = t} h) = ready_closure (failing t h)
    ready (of_form h F) = ready_closure (ready_form F h)
    ready (of_resumed A) = ready_resumed (ready_gives A)

    ready_each : {ms : Members} {s : Step} {L : Life} {o : Outcome} {c : Cost} → Each n ms s L o c → ReadyEach ms s L o c
    ready_each no_more = ready_none
    ready_each (one_more A B) = ready_one (ready_gives A) (ready_rest B)

    ready_tables : {ms : Members} {L : Life} {ys : List Data} → Tables n ms L ys → ReadyTables ms L ys
    ready_tables no_tables = ready_no_tables
    ready_tables (and_table A B) = ready_table (ready_tables A) (ready_each B)

    ready_rest : {p : Outcome} {ms : Members} {s : Step} {L : Life} {o : Outcome} {c : Cost} → Others n p ms s L o c → ReadyOthers p ms s L o c
    ready_rest (others_go_on A) = ready_others (ready_each A)
    ready_rest others_stop = ready_stopped

    ready_form : {t : Term} {e : Environment} {m : Made} {s : Step} {L : Life} {o : Outcome} {c : Cost} → Form n t e m s L o c → make n t e (first_input s L) ≡ answer m → At Q t e s L o c
    ready_form (of_primitive {p = p} {e = e} {s = s} {L = L} h) k = let N : Outcome → Type 0 = λ o. At Q (primitive p) e s L o one_term in subst N h at_primitive
    ready_form (of_reference A) k = reference_ready k A (ready_gives A)
    ready_form (of_join A B C) k = at_join (opened_all (ready_all A)) (opened_part (ready_gives B)) (ready_next C)
    ready_form (of_side A) k = at_side (opened_part (ready_gives A))
    ready_form (of_loop {i = i} {e = e} A B) k = at_loop (made_answer (eval i (scope_around n.functions e)) k) (ready_loops A) (opened_part (ready_gives B))
    ready_form (of_initialized {i = i} {e = e} A) k = at_initialized (made_answer (eval i (scope_around n.functions e)) k) (opened_part (ready_gives A))
    ready_form (of_replaced {i = i} {e = e} A) k = at_replaced (made_answer (eval i (scope_around n.functions e)) k) (opened_part (ready_gives A))
    ready_form (of_followed A B) k = at_followed (opened_all (ready_all A)) (opened_part (ready_gives B))
    ready_form (of_transformed {f = f} {e = e} {s = s} {L = L} A) k = at_transformed (made_answer (apply f (first_input s L) (scope_around n.functions e)) k) (opened_part (ready_gives A))
    ready_form (of_switch {u = u} {p = p} {e = e} A B) k =
        let st = ready_watches (body_of p u e) A refl in
        at_switch st.1 (ready_turns st.0 B refl st.2)
    ready_form (of_continuing A B) k =
        at_leaf refl (of_form refl (of_continuing A B), λ u' e' F E. continuing_meets F E (λ W T R B. keeps_since A R B) (λ W T x R D st. keeps_turn B R D st))
    ready_form (of_recurring {L = L} A B) k = at_recurring (runs_ready (last_event L) (ready_gives A)) (ready_bodies B refl)
    ready_form (of_gathered A) k = at_leaf refl (of_form k (of_gathered A), λ u' e' F E. gathered_meets k (ready_each A) F E)
    ready_form (of_releasing A B) k =
        at_leaf refl (of_form k (of_releasing A B), λ u' e' F E. releasing_meets k F E (λ W T R B. keeps_since A R B) (λ W T x R D st. keeps_turn B R D st))
    ready_form (of_editing H A B) k = at_leaf refl (of_form k (of_editing H A B), λ u' e' F E. editing_meets k H (ready_each A) F E (λ r R. keeps_edited B R))
    ready_form (of_stages A B C) k = at_stages (opened_all (ready_all A)) (opened_part (ready_gives B)) (ready_next C)

    ready_gives : {P : Process} {L : Life} {o : Outcome} {c : Cost} → Gives n P L o c → ReadyNow P L o c
    ready_gives (gives A B) = ready_now (ready_all A) (ready B)

    ready_all : {P : Process} {L : Life} {ys : List Data} → Outputs n P L ys → ReadyAll P L ys
    ready_all not_begun = all_begins
    ready_all (and_gave A B) = all_gave (ready_all A) (ready B)

    ready_next : {p : Outcome} {t : Term} {e : Environment} {L : Life} {o : Outcome} {c : Cost} → Next n p t e L o c → Then Q p t e L o c
    ready_next (goes_on A) = then_part (opened_part (ready_gives A))
    ready_next stops = then_stops

    ready_loops : {v : Data} {t : Term} {e : Environment} {L : Life} {ys : List Data} → Loops n v (closure t e) L ys → Rounds Q v t e L ys
    ready_loops no_loop = no_round
    ready_loops (and_looped A B) = one_round (ready_loops A) (opened_part (ready_gives B))

    ready_watches : (C : Data → Process) {t : Term} {e : Environment} {B : Takeover} {L : Life} {st : Standing} → Since n (itself (closure t e)) B L st → B ≡ whenever C → (st' : Stand) × Watches Q t e L st' × (standing_of C st' ≡ st)
    ready_watches C at_start h = (waiting, watch_begins, refl)
    ready_watches C {t} {e} (watched {s = s} {L = L} {y = y} A (beside_values G) k) h =
        let r = ready_watches C A h in
        let o = occurring (second_of y) in
        (stand_after s o, then_watched (subst (Watches Q t e L) (still_waits C r.0 r.2) r.1) (opened_part (ready_gives G)) refl, sym (stands_alike C s L o) ∙ ap (λ (B : Takeover). stands_after B s L o) (sym h) ∙ k)
    ready_watches C (had_fired {s = s} A) h = let r = ready_watches C A h in (later_stand s r.0, watches_later C s r.0 r.1 r.2, one_later C s r.0 r.2)

    ready_turns : {w : Observation} {t u : Term} {p : Pattern} {e : Environment} {B : Takeover} {s : Step} {L : Life} {st : Standing} {o : Outcome} {c : Cost} (st' : Stand) → SwitchTurn n w (itself (closure t e)) B s L st o c
        → B ≡ whenever (body_of p u e) → standing_of (body_of p u e) st' ≡ st → Turns Q w t p u e s L st' o c
    ready_turns {s = s} {L = L} waiting (while_waiting (beside_values A) C) h k = turn_waits (opened_part (ready_gives A)) (ready_switches C (ap (λ (B : Takeover). B s L) h))
    ready_turns (began v M) (while_waiting A C) h k = absurd cc
    ready_turns waiting (as_body A) h k = absurd cc
    ready_turns {u = u} {p = p} {e = e} {s = s} {o = o} {c = c} (began v M) (as_body A) h k =
        let N : Process → Life → Type 0 = λ P K. ReadyNow P (s ∷ K) o c in
        turn_body (opened_part (subst₂ N (sym (ap (process_fired passing) k)) (sym (ap life_since k)) (ready_gives A)))

    -- ## A switch that keeps its source, beside one like it

    keeps_sees : {W W' : Watched} {s : Step} {L : Life} {o : Outcome} {c : Cost} → Sees n W s L o c → AlikeWatched d W W' → Lowered d (Sees n' W' s L o) c
    keeps_sees (beside_values A) R = elim R [ ]
    keeps_sees (by_observer A B C) (alike_observed R H E) =
        elim (meet R (ready_gives B)) [ lowered B' h ↦ elim (keeps_next C H E) [ lowered C' k ↦ lowered (by_observer (meet_all R (ready_all A)) B' C') (below_both _ _ _ _ h k) ] ]
    keeps_sees (by_members_observer A B C) (alike_observed_members M H E) =
        elim (meets_each M (ready_each B)) [ lowered B' h ↦ elim (keeps_next C H E) [ lowered C' k ↦ lowered (by_members_observer (meet_tables M (ready_tables A)) B' C') (below_both _ _ _ _ h k) ] ]

    keeps_next : {t u : Term} {e e' : Environment} {p : Outcome} {L : Life} {o : Outcome} {c : Cost} → Next n p t e L o c → Alike d t u → AlikeNames d e e' → Lowered d (Next n' p u e' L o) c
    keeps_next (goes_on A) T E = elim (meet (alike_closure T E) (ready_gives A)) [ lowered A' h ↦ lowered (goes_on A') h ]
    keeps_next stops T E = lowered stops (alike_texts T)

    keeps_since : {W W' : Watched} {B B' : Takeover} {L : Life} {st : Standing} → Since n W B L st → AlikeWatched d W W' → AlikeTakeover d B B' → (st' : Standing) × AlikeStanding d st st' × Since n' W' B' L st'
    keeps_since at_start R T = (waits, alike_waits, at_start)
    keeps_since {B = B} {B' = B'} (watched {s = s} {L = L} {y = y} A G k) R T =
        let r = keeps_since A R T in
        let o = occurring (second_of y) in
        elim (keeps_sees G R) [ lowered G' h ↦ (stands_after B' s L o, subst (λ st. AlikeStanding d st (stands_after B' s L o)) k (alike_after B B' T s L o), watched (stood r.1 r.2) G' refl) ]
    keeps_since (had_fired {s = s} A) R T = let r = keeps_since A R T in stood_later s r.1 r.2

    keeps_turn : {w : Observation} {W W' : Watched} {B B' : Takeover} {s : Step} {L : Life} {st st' : Standing} {o : Outcome} {c : Cost} → SwitchTurn n w W B s L st o c → AlikeWatched d W W' → AlikeTakeover d B B' → AlikeStanding d st st'
        → Lowered d (SwitchTurn n' w W' B' s L st' o) c
    keeps_turn {s = s} {L = L} (while_waiting A C) R T alike_waits =
        elim (keeps_sees A R) [ lowered A' h ↦ elim (keeps_switched C (λ v. T s L v)) [ lowered C' k ↦ lowered (while_waiting A' C') (below_over _ _ (below_both _ _ _ _ h k)) ] ]
    keeps_turn (as_body A) R T (alike_fired R') = elim (meet R' (ready_gives A)) [ lowered A' h ↦ lowered (as_body A') h ]

    keeps_switched : {w : Observation} {B B' : Data → Process} {s : Step} {o o' : Outcome} {c : Cost} → Switched n w B s o o' c → ((v : Data) → AlikeProcess d (B v) (B' v)) → Lowered d (Switched n' w B' s o o') c
    keeps_switched after_fault T = lowered after_fault (below_same d _)
    keeps_switched (after_value A) T = elim (keeps_fires A T) [ lowered A' h ↦ lowered (after_value A') h ]

    keeps_fires : {w : Observation} {B B' : Data → Process} {s : Step} {o : Outcome} {q : Option Data} {o' : Outcome} {c : Cost} → Fires n w B s o q o' c → ((v : Data) → AlikeProcess d (B v) (B' v)) → Lowered d (Fires n' w B' s o q o') c
    keeps_fires no_event_yet T = lowered no_event_yet (below_same d _)
    keeps_fires (event_now {v = v} A) T = elim (meet (T v) (ready_gives A)) [ lowered A' h ↦ lowered (event_now A') h ]

    keeps_edited : {w : Observation} {q r : Option (Evaluated Members)} {s : Step} {o o' : Outcome} {c : Cost} → Edited n w q s o o' c → AlikeEdited d q r → Lowered d (Edited n' w r s o o') c
    keeps_edited no_edit neither_edits = lowered no_edit (below_same d _)
    keeps_edited edit_failed (both_edit gathered_failed) = lowered edit_failed (below_same d _)
    keeps_edited (edit_now A) (both_edit (gathered_alike M)) = elim (meets_each M (ready_each A)) [ lowered A' h ↦ lowered (edit_now A') h ]

    ready_switches : {w : Observation} {u : Term} {p : Pattern} {e : Environment} {B : Data → Process} {s : Step} {o o' : Outcome} {c : Cost} → Switched n w B s o o' c → B ≡ body_of p u e → Switches Q w p u e s o o' c
    ready_switches after_fault h = switch_stops
    ready_switches (after_value A) h = switch_goes (ready_bodies A h)

    ready_bodies : {w : Observation} {u : Term} {p : Pattern} {e : Environment} {B : Data → Process} {s : Step} {o : Outcome} {q : Option Data} {o' : Outcome} {c : Cost} → Fires n w B s o q o' c → B ≡ body_of p u e → Bodies Q w p u e s o q o' c
    ready_bodies no_event_yet h = no_body
    ready_bodies {p = p} {e = e} (event_now {v = v} A) h = body_begins (opened_body p e h v (ready_gives A))

  pub keeps : {P P' : Process} {L : Life} {o : Outcome} {c : Cost} → AlikeProcess d P P' → Gives n P L o c → Lowered d (Gives n' P' L o) c
  keeps R A = meet R (ready_gives A)
