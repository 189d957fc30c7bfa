-- Samples of primitives.
use Rattle.std.proofs.Common.{Box, ◌≡◌, ℕ, zero, suc, ◌+◌, ◌-◌, arith, inl, inr, [], ◌∷◌, Bool, true, cond, ℤ, pos, negsuc, Option, Some, None, Result, Ok, Err, refl, sym, ap, ◌∙◌, subst}
use Rattle.std.proofs.lemmas.Bool.{cases_lt, le-leb, lt-leb}
use Rattle.std.specs.Prelude.{nat_eq, nat_le, ◌&&◌, IsErrAnd, OnOk, IfErr}
use Rattle.std.proofs.Math.Dec.{eqb-suc-zero, leb-suc-zero}
use Rattle.std.specs.declared.alloc.Global.{Global}
use Rattle.std.specs.declared.rc.Rc.{Rc}
use Rattle.sf_value.specs.Values.{Data, pair, no_event, event}
use Rattle.sf_func.specs.Registries.{AnswersByName}
use Rattle.sf_expr.specs.Expressions.{Expression, Function}
use Rattle.sf_expr.specs.Evaluation.{Evaluated, Scope, scope_functions, answer, failed, ◌>>=◌, eval, apply}
use Rattle.sf_code.specs.declared.open.OpenCode.{OpenCode}
use Rattle.sf_code.specs.declared.open.Closure.{Closure}
use Rattle.sf_expr.specs.declared.exprs.Exprs.{Exprs}
use Rattle.sf_code.specs.CodeView.{code_of}
use Rattle.sf_code.specs.Running.{run}
use Rattle.sf_code.specs.Worth.{AnswersAsFunction, IsClosureOf, IsCodeOfFunction, frame_around}
use Rattle.sf_operator.specs.Outcomes.{tested}
use Rattle.sf_operator.specs.Operations.{payload_or}
use Rattle.sf_operator.specs.Answers.{Evaluates, EvaluatesAs}
use Rattle.sf_operator.specs.declared.fault.EvalFault.{EvalFault}
use Rattle.sf_operator.specs.declared.fault.EvalFault.TheVariants.{Value, Memory}
use Rattle.sf_term.specs.declared.form.WithValue.{WithValue}
use Rattle.sf_term.specs.declared.form.WithValue.TheVariants.{Constant as VConstant, Initially as VInitially, InitialPre, InitializedPre, Now as VNow, InitialEdge, EdgeTag, Hold as VHold, DelayedHold as VDelayedHold}
use Rattle.sf_term.specs.declared.form.Timing.{Timing}
use Rattle.sf_term.specs.declared.form.Timing.TheVariants.{After, Repeatedly, Delay}
use Rattle.sf_term.specs.declared.form.Selection.{Selection}
use Rattle.sf_term.specs.declared.form.Selection.TheVariants.{TakeEvents, DropEvents}
use Rattle.sf_term.specs.declared.form.Accumulation.{Accumulation}
use Rattle.sf_term.specs.declared.form.Accumulation.TheVariants.{EdgeBy, AccumBy, AccumHoldBy, Scan}
use Rattle.sf_term.specs.Trees.{Primitive, with_value, timed, selected, accumulated}
use Rattle.sf_mean.specs.Lives.{Step, step, input_of, Life, time}
use Rattle.sf_mean.specs.Formulas.{span, next_value, event_where, accumulated_formula, at_first, area, is_high, is_low, event_if, occurring, count_up, occurrences, counted, last_payload, value_formula, timed_formula, has_occurred, selected_formula, formula}
use Rattle.sf_delay.specs.Lately.{has_steps}
use Rattle.sf_delay.specs.Waits.{Sums, RunsDown, TicksOn}
use Rattle.sf_delay.specs.Delays.{Delays}
use Rattle.sf_delay.specs.declared.sum.Sum.{Sum}
use Rattle.sf_delay.specs.declared.timer.Timer.{Timer}
use Rattle.sf_delay.specs.declared.ticker.Ticker.{Ticker}
use Rattle.sf_delay.specs.declared.line.Line.{Line}
use Rattle.sf_prim.specs.declared.accumulator.Accumulator.{Accumulator}
use Rattle.sf_prim.specs.declared.prim_state.PrimState.{PrimState}
use Rattle.sf_prim.specs.declared.prim_state.PrimState.TheVariants.{Identity, Never, Constant, Previous, Arrow, Closed, Accumulated, Clock, Area, Timed, Ticked, Delayed, Selected, Edge, Tagged, NotYet, Count, Now, Initially, Hold, DelayedHold}
use Rattle.sf_delay.specs.Gifts.{gift}
use Rattle.sf_prim.specs.Links.{closure_worth}
use Rattle.std.proofs.lemmas.Result.{on_ok_weaker}
use Rattle.sf_prim.specs.Remembering.{carried, carried_after, shown_after, time_after, last_time, count_after, counted_after, left_after, passed_on, Remembers, remembers_nothing, remembers_no_event, remembers_value, remembers_previous, remembers_initialized, remembers_pre, remembers_function, remembers_closure, remembers_accumulation, remembers_time, remembers_area, remembers_timer, remembers_ticker, remembers_line, remembers_left, remembers_low, remembers_first_low, remembers_tag, remembers_begun, remembers_first_left, remembers_count, remembers_first, remembers_passed, remembers_initial, remembers_later, remembers_last, remembers_last_before, Begins, begins_with_fault, begins_without_memory, GoesOn, goes_on, goes_on_with_fault, goes_on_without_memory}

-- a primitive with a value gives what its formula makes of it
value_gives : (k : WithValue) (e : Expression) (scope : Scope) (v : Data) (s : Step) (L : Life)
    → eval e scope ≡ answer v → formula (with_value k e) scope s L ≡ answer (value_formula k v s L)
value_gives k e scope v s L h = ap (λ r. r >>= λ v. answer (value_formula k v s L)) h

-- ## Before the first sample

-- a constant's fault is that of the first sample
constant_fails : (sc : Scope) (q : Primitive) (e : Expression) (next : Step → Data → Evaluated Data) → ((s : Step) → formula q sc s [] ≡ (eval e sc >>= next s))
    → (f : EvalFault) → Evaluates (Err f) (eval e sc) → Begins sc q (Err f)
constant_fails sc q e next is (Value x) h = begins_with_fault (λ s. is s ∙ ap (λ r. r >>= next s) h)
constant_fails sc q e next is Memory h = begins_without_memory

exit_so : (sc : Scope) (q : Primitive) (f : EvalFault) (r : Result PrimState EvalFault) → IsErrAnd r (λ e. e ≡ f) → Begins sc q (Err f) → Begins sc q r
exit_so sc q f (Ok i) h b = absurd h
exit_so sc q f (Err g) h b = subst (λ (g : EvalFault). Begins sc q (Err g)) (sym h) b

pub begins_exit : (sc : Scope) (k : WithValue) (e : Expression) (f : EvalFault) (r : Result PrimState EvalFault)
    → IsErrAnd r (λ e. e ≡ f) → Evaluates (Err f) (eval e sc) → Begins sc (with_value k e) r
begins_exit sc k e f r h g = exit_so sc (with_value k e) f r h (constant_fails sc (with_value k e) e (λ s v. answer (value_formula k v s [])) (λ s. refl) f g)

pub timed_exit : (sc : Scope) (k : Timing) (q : ℤ) (e : Expression) (f : EvalFault) (r : Result PrimState EvalFault)
    → IsErrAnd r (λ e. e ≡ f) → Evaluates (Err f) (eval e sc) → Begins sc (timed k q e) r
timed_exit sc k q e f r h g = exit_so sc (timed k q e) f r h (constant_fails sc (timed k q e) e (λ s v. answer (timed_formula k q v s [])) (λ s. refl) f g)

-- what is left in place of a state is not looked at after a fault
pub left_exit : {A : Type 0} (i : PrimState) (f : EvalFault) (r : Result A EvalFault) → IsErrAnd r (λ e. e ≡ f) → IsErrAnd (gift r i) (λ e. e ≡ f)
left_exit i f (Ok a) h = absurd h
left_exit i f (Err g) h = h

-- memory runs out
pub memory_exit : (sc : Scope) (q : Primitive) (r : Result PrimState EvalFault) → IsErrAnd r (λ e. e ≡ Memory) → Begins sc q r
memory_exit sc q r h = exit_so sc q Memory r h begins_without_memory

-- ## A sample

pub identity_goes_on : (q : Primitive) (scope : Scope) (d : _) (x : Data) (L : Life)
    → Remembers Identity q scope L → GoesOn q scope (step d x) L Identity (Ok x)
identity_goes_on q scope d x L remembers_nothing = goes_on refl remembers_nothing
identity_goes_on q scope d x L (remembers_later {e = e} {v = v} h) = goes_on (value_gives VInitially e scope v (step d x) L h) (remembers_later h)

pub initially_goes_on : (q : Primitive) (scope : Scope) (d : _) (x : Data) (L : Life) (v : Data) → Remembers (Initially v) q scope L → GoesOn q scope (step d x) L Identity (Ok v)
initially_goes_on q scope d x L v (remembers_initial {e = e} h) = goes_on (value_gives VInitially e scope v (step d x) L h) (remembers_later h)

pub never_goes_on : (q : Primitive) (scope : Scope) (s : Step) (L : Life) (v : Data) → v ≡ no_event → Remembers Never q scope L → GoesOn q scope s L Never (Ok v)
never_goes_on q scope s L v is remembers_no_event = goes_on (ap answer (sym is)) remembers_no_event
never_goes_on q scope s L v is (remembers_passed {e = e} {v = given} h) = goes_on (value_gives VNow e scope given s L h ∙ ap answer (sym is)) (remembers_passed h)

pub constant_goes_on : {A : Type 0} (q : Primitive) (scope : Scope) (s : Step) (L : Life) (v w : Data) (r : Result A EvalFault) → OnOk r (w ≡ v) → IfErr r (λ e. e ≡ Memory)
    → Remembers (Constant v) q scope L → GoesOn q scope s L (Constant v) (gift r w)
constant_goes_on q scope s L v w (Ok a) ok err (remembers_value {e = e} h) = goes_on (value_gives VConstant e scope v s L h ∙ ap answer (sym ok)) (remembers_value h)
constant_goes_on q scope s L v w (Err f) ok err K = subst (λ (f : EvalFault). GoesOn q scope s L (Constant v) (Err f)) (sym err) goes_on_without_memory

pub previous_goes_on : (q : Primitive) (scope : Scope) (d : _) (x : Data) (L : Life) (w : Data)
    → Remembers (Previous w) q scope L → GoesOn q scope (step d x) L (Previous x) (Ok w)
previous_goes_on q scope d x L w (remembers_previous {e = e} {v = v} h g) =
    goes_on (value_gives InitialPre e scope v (step d x) L h ∙ ap answer (sym g)) (remembers_previous h refl)
previous_goes_on q scope d x L w (remembers_initialized {e = e} {v = v} h g) =
    goes_on (value_gives InitializedPre e scope v (step d x) L h ∙ ap answer (sym g)) (remembers_initialized h refl)
previous_goes_on q scope d x L w (remembers_pre g) = goes_on (ap answer (sym g)) (remembers_pre refl)

pub arrow_goes_on : (φ : AnswersByName) (c : Rc OpenCode Global) (d : _) (x : Data) (r : Result Data EvalFault) → ((s : Scope) → scope_functions s ≡ φ → (f : Function) → AnswersAsFunction s f [] c.value.code → Evaluates r (apply f x s))
    → (q : Primitive) (scope : Scope) (L : Life) → scope_functions scope ≡ φ → Remembers (Arrow c) q scope L → GoesOn q scope (step d x) L (Arrow c) r
arrow_goes_on φ c d x (Ok v) h q scope L same (remembers_function {f = f} K) = goes_on (h scope same f K) (remembers_function K)
arrow_goes_on φ c d x (Err (Value y)) h q scope L same (remembers_function {f = f} K) = goes_on_with_fault (h scope same f K)
arrow_goes_on φ c d x (Err Memory) h q scope L same K = goes_on_without_memory

pub closed_goes_on : {A : Type 0} (φ : AnswersByName) (c : Rc Closure Global) (d : _) (x w : Data) (r : Result A EvalFault) → EvaluatesAs (λ (a : A). w) r (closure_worth c.value φ x)
    → (q : Primitive) (scope : Scope) (L : Life) → scope_functions scope ≡ φ → Remembers (Closed c) q scope L → GoesOn q scope (step d x) L (Closed c) (gift r w)
closed_goes_on φ c d x w (Ok a) h q scope L same (remembers_closure {f = f} K) = goes_on (sym (K.worth x) ∙ ap (λ φ. closure_worth c.value φ x) same ∙ h) (remembers_closure K)
closed_goes_on φ c d x w (Err (Value y)) h q scope L same (remembers_closure {f = f} K) = goes_on_with_fault (sym (K.worth x) ∙ ap (λ φ. closure_worth c.value φ x) same ∙ h)
closed_goes_on φ c d x w (Err Memory) h q scope L same K = goes_on_without_memory

-- where a sample answers what the formula is worth, and then keeps the longer life
goes_with : {A : Type 0} {q : Primitive} {scope : Scope} {s : Step} {L : Life} {i : PrimState} (r : Result A EvalFault) (w : Data) {worth : Evaluated Data}
    → formula q scope s L ≡ worth → Evaluates (gift r w) worth → OnOk r (Remembers i q scope (s ∷ L)) → GoesOn q scope s L i (gift r w)
goes_with (Ok a) w is told kept = goes_on (is ∙ told) kept
goes_with (Err (Value x)) w is told kept = goes_on_with_fault (is ∙ told)
goes_with (Err Memory) w is told kept = goes_on_without_memory

always : {A : Type 0} {P : Type 0} (r : Result A EvalFault) → P → OnOk r P
always (Ok a) h = h
always (Err e) h = tt

time_is : (d : ℕ) (x : Data) (L : Life) → time_after (last_time L) d ≡ pos (time (step d x ∷ L))
time_is d x [] = refl
time_is d x (s ∷ L) = refl

pub clock_goes_on : {A : Type 0} (q : Primitive) (scope : Scope) (d : ℕ) (x : Data) (L : Life) (t u : Option ℤ) (w : Data) (r : Result A EvalFault)
    → Evaluates (gift r w) (tested (time_after t d)) → OnOk r (u ≡ Some (time_after t d)) → Remembers (Clock t) q scope L → GoesOn q scope (step d x) L (Clock u) (gift r w)
clock_goes_on q scope d x L t u w r told kept (remembers_time is) =
    let now : time_after t d ≡ pos (time (step d x ∷ L)) = ap (λ t. time_after t d) is ∙ time_is d x L in
    goes_with r w (ap tested (sym now)) told (on_ok_weaker r (λ h. remembers_time (h ∙ ap Some now)) kept)

pub area_goes_on : {A : Type 0} (q : Primitive) (scope : Scope) (d : ℕ) (x : Data) (L : Life) (b c : Sum) (w : Data) (r : Result A EvalFault)
    → ((L : Life) → Sums b L → Evaluates (gift r w) (tested (area (step d x ∷ L)))) → ((L : Life) → Sums b L → OnOk r (Sums c (step d x ∷ L))) → Remembers (Area b) q scope L → GoesOn q scope (step d x) L (Area c) (gift r w)
area_goes_on q scope d x L b c w r told kept (remembers_area is) = goes_with r w refl (told L is) (on_ok_weaker r remembers_area (kept L is))

-- of an equal time it keeps the same
pub begins_at : (sc : Scope) (r : Result PrimState EvalFault) (k : Timing) (e : Expression) {y z : ℤ} → y ≡ z → Begins sc (timed k y e) r → Begins sc (timed k z e) r
begins_at sc r k e is h = subst (λ (z : ℤ). Begins sc (timed k z e) r) is h

-- copies of what has a time keep the same
pub timer_follows : (t u : Box Timer Global) → ((q : ℤ) (v : Data) (L : Life) → RunsDown t.value q v L → RunsDown u.value q v L) → (q : Primitive) (scope : Scope) (L : Life) → Remembers (Timed t) q scope L → Remembers (Timed u) q scope L
timer_follows t u same q scope L (remembers_timer h is) = remembers_timer h (same _ _ L is)

pub ticker_follows : (t u : Box Ticker Global) → ((q : ℤ) (v : Data) (L : Life) → TicksOn t.value q v L → TicksOn u.value q v L) → (q : Primitive) (scope : Scope) (L : Life) → Remembers (Ticked t) q scope L → Remembers (Ticked u) q scope L
ticker_follows t u same q scope L (remembers_ticker h is) = remembers_ticker h (same _ _ L is)

pub line_follows : (l m : Box Line Global) → ((q : ℤ) (v : Data) (L : Life) → Delays l.value q v L → Delays m.value q v L) → (q : Primitive) (scope : Scope) (L : Life) → Remembers (Delayed l) q scope L → Remembers (Delayed m) q scope L
line_follows l m same q scope L (remembers_line h is) = remembers_line h (same _ _ L is)

timed_goes_on : {A : Type 0} (k : Timing) (m : ℤ) (e : Expression) (v : Data) (scope : Scope) (s : Step) (L : Life) (i : PrimState) (w : Data) (r : Result A EvalFault)
    → eval e scope ≡ answer v → Evaluates (gift r w) (answer (timed_formula k m v s L)) → OnOk r (Remembers i (timed k m e) scope (s ∷ L)) → GoesOn (timed k m e) scope s L i (gift r w)
timed_goes_on k m e v scope s L i w r h told kept = goes_with r w (ap (λ r. r >>= λ v. answer (timed_formula k m v s L)) h) told kept

pub timer_goes_on : {A : Type 0} (q : Primitive) (scope : Scope) (s : Step) (L : Life) (t u : Box Timer Global) (w : Data) (r : Result A EvalFault)
    → ((m : ℤ) (v : Data) (L : Life) → RunsDown t.value m v L → Evaluates (gift r w) (answer (timed_formula After m v s L))) → ((m : ℤ) (v : Data) (L : Life) → RunsDown t.value m v L → OnOk r (RunsDown u.value m v (s ∷ L)))
    → Remembers (Timed t) q scope L → GoesOn q scope s L (Timed u) (gift r w)
timer_goes_on q scope s L t u w r told kept (remembers_timer {q = m} {e = e} {v = v} h is) = timed_goes_on After m e v scope s L (Timed u) w r h (told m v L is) (on_ok_weaker r (remembers_timer h) (kept m v L is))

pub ticker_goes_on : {A : Type 0} (q : Primitive) (scope : Scope) (s : Step) (L : Life) (t u : Box Ticker Global) (w : Data) (r : Result A EvalFault)
    → ((m : ℤ) (v : Data) (L : Life) → TicksOn t.value m v L → Evaluates (gift r w) (answer (timed_formula Repeatedly m v s L))) → ((m : ℤ) (v : Data) (L : Life) → TicksOn t.value m v L → OnOk r (TicksOn u.value m v (s ∷ L)))
    → Remembers (Ticked t) q scope L → GoesOn q scope s L (Ticked u) (gift r w)
ticker_goes_on q scope s L t u w r told kept (remembers_ticker {q = m} {e = e} {v = v} h is) = timed_goes_on Repeatedly m e v scope s L (Ticked u) w r h (told m v L is) (on_ok_weaker r (remembers_ticker h) (kept m v L is))

pub line_goes_on : {A : Type 0} (q : Primitive) (scope : Scope) (s : Step) (L : Life) (l k : Box Line Global) (w : Data) (r : Result A EvalFault)
    → ((m : ℤ) (v : Data) (L : Life) → Delays l.value m v L → Evaluates (gift r w) (answer (timed_formula Delay m v s L))) → ((m : ℤ) (v : Data) (L : Life) → Delays l.value m v L → OnOk r (Delays k.value m v (s ∷ L)))
    → Remembers (Delayed l) q scope L → GoesOn q scope s L (Delayed k) (gift r w)
line_goes_on q scope s L l k w r told kept (remembers_line {q = m} {e = e} {v = v} h is) = timed_goes_on Delay m e v scope s L (Delayed k) w r h (told m v L is) (on_ok_weaker r (remembers_line h) (kept m v L is))

-- whether no event of a number is left
zero_le : (n : ℕ) → nat_eq n 0 ≡ nat_le n 0
zero_le zero = refl
zero_le (suc n) = eqb-suc-zero n ∙ sym (leb-suc-zero n)

none_left : (n o : ℕ) → nat_eq (n - o) 0 ≡ nat_le n o
none_left n o = zero_le (n - o) ∙ elim (cases_lt o n) [
  | inl h ↦ lt-leb (n - o) 0 (omega arith) ∙ sym (lt-leb n o h)
  | inr h ↦ le-leb (n - o) 0 (omega arith) ∙ sym (le-leb n o h)
]

over_is : (n : ℤ) (L : Life) → nat_eq (span n - occurrences L) 0 ≡ has_occurred n L
over_is (pos n) L = none_left n (occurrences L)
over_is (negsuc n) L = zero_le (0 - occurrences L) ∙ le-leb (0 - occurrences L) 0 (omega arith)

passed_on_is : (k : Selection) (n : ℤ) (d : ℕ) (x : Data) (L : Life) → passed_on k (span n - occurrences L) x ≡ selected_formula k n (step d x) L
passed_on_is TakeEvents n d x L = ap (λ b. cond b no_event x) (over_is n L)
passed_on_is DropEvents n d x L = ap (λ b. cond b x no_event) (over_is n L)

one_fewer : (n m : ℕ) → (n - m) - 1 ≡ n - suc m
one_fewer n m = omega arith

left_is : (o : Option Data) (n m : ℕ) → left_after o (n - m) ≡ n - count_up o m
left_is None n m = refl
left_is (Some x) n m = one_fewer n m

all_left : (n : ℕ) → n ≡ n - 0
all_left n = omega arith

pub selected_keeps : (sc : Scope) (k : Selection) (n z : ℤ) (left : ℕ) → left ≡ span z → z ≡ n → Remembers (Selected k left) (selected k n) sc []
selected_keeps sc k n z left is same = remembers_left (is ∙ ap span same ∙ all_left (span n))

selected_next : (d : ℕ) (x : Data) (L : Life) (k : Selection) (n : ℤ) (left after : ℕ) (w : Data) → w ≡ passed_on k left x → after ≡ left_after (occurring x) left → left ≡ span n - occurrences L
    → (selected_formula k n (step d x) L ≡ w) × (after ≡ span n - occurrences (step d x ∷ L))
selected_next d x L k n left after w told kept is =
    (sym (told ∙ ap (λ l. passed_on k l x) is ∙ passed_on_is k n d x L), kept ∙ ap (left_after (occurring x)) is ∙ left_is (occurring x) (span n) (occurrences L))

pub selected_goes_on : (q : Primitive) (scope : Scope) (d : ℕ) (x : Data) (L : Life) (k : Selection) (left after : ℕ) (w : Data)
    → w ≡ passed_on k left x → after ≡ left_after (occurring x) left → Remembers (Selected k left) q scope L → GoesOn q scope (step d x) L (Selected k after) (Ok w)
selected_goes_on q scope d x L k left after w told kept (remembers_left {n = n} is) = let next = selected_next d x L k n left after w told kept is in goes_on (ap answer next.0) (remembers_left next.1)
selected_goes_on q scope d x L k left after w told kept (remembers_first_left is) = let next = selected_next d x L k (pos 1) left after w told kept is in goes_on (ap answer next.0) (remembers_first_left next.1)

pub edge_goes_on : {A : Type 0} (q : Primitive) (scope : Scope) (d : ℕ) (x : Data) (L : Life) (b c : Bool) (w : Data) (r : Result A EvalFault)
    → Evaluates (gift r w) (answer (event_if (is_high x && b))) → OnOk r (c ≡ is_low x) → Remembers (Edge b) q scope L → GoesOn q scope (step d x) L (Edge c) (gift r w)
edge_goes_on q scope d x L b c w r told kept (remembers_low is) =
    goes_with r w (ap (λ b. answer (event_if (is_high x && b))) (sym is)) told (on_ok_weaker r remembers_low kept)
edge_goes_on q scope d x L b c w r told kept (remembers_first_low {e = e} {v = v} h is) =
    goes_with r w (value_gives InitialEdge e scope v (step d x) L h ∙ ap (λ b. answer (event_if (is_high x && b))) (sym is)) told (on_ok_weaker r (remembers_first_low h) kept)

pub tagged_goes_on : {A : Type 0} (q : Primitive) (scope : Scope) (d : ℕ) (x : Data) (L : Life) (b c : Bool) (v w : Data) (r : Result A EvalFault)
    → Evaluates (gift r w) (answer (cond (is_high x && b) (event v) no_event)) → OnOk r (c ≡ is_low x) → Remembers (Tagged b v) q scope L → GoesOn q scope (step d x) L (Tagged c v) (gift r w)
tagged_goes_on q scope d x L b c v w r told kept (remembers_tag {e = e} h is) =
    goes_with r w (value_gives EdgeTag e scope v (step d x) L h ∙ ap (λ b. answer (cond (is_high x && b) (event v) no_event)) (sym is)) told (on_ok_weaker r (remembers_tag h) kept)

passed_is : (x : Data) (L : Life) → cond (has_steps L) x no_event ≡ at_first L no_event x
passed_is x [] = refl
passed_is x (s ∷ L) = refl

pub not_yet_goes_on : (q : Primitive) (scope : Scope) (d : ℕ) (x : Data) (L : Life) (b c : Bool) (w : Data)
    → w ≡ cond b x no_event → c ≡ true → Remembers (NotYet b) q scope L → GoesOn q scope (step d x) L (NotYet c) (Ok w)
not_yet_goes_on q scope d x L b c w told kept (remembers_begun is) =
    goes_on (ap answer (sym (passed_is x L)) ∙ ap (λ b. answer (cond b x no_event)) (sym is) ∙ ap answer (sym told)) (remembers_begun kept)

one_plus : (n : ℕ) → 1 + n ≡ suc n
one_plus n = omega arith

counted_is : (o : Option Data) (n : ℕ) → counted_after o (pos n) ≡ counted o (count_up o n)
counted_is None n = refl
counted_is (Some x) n = ap (λ m. tested (pos m) >>= λ v. answer (event v)) (one_plus n)

count_is : (o : Option Data) (n : ℕ) → count_after o (pos n) ≡ pos (count_up o n)
count_is None n = refl
count_is (Some x) n = ap pos (one_plus n)

pub count_goes_on : {A : Type 0} (q : Primitive) (scope : Scope) (d : ℕ) (x : Data) (L : Life) (z y : ℤ) (w : Data) (r : Result A EvalFault)
    → Evaluates (gift r w) (counted_after (occurring x) z) → OnOk r (y ≡ count_after (occurring x) z) → Remembers (Count z) q scope L → GoesOn q scope (step d x) L (Count y) (gift r w)
count_goes_on q scope d x L z y w r told kept (remembers_count is) =
    goes_with r w (sym (ap (counted_after (occurring x)) is ∙ counted_is (occurring x) (occurrences L))) told (on_ok_weaker r (λ h. remembers_count (h ∙ ap (count_after (occurring x)) is ∙ count_is (occurring x) (occurrences L))) kept)

pub now_goes_on : {A : Type 0} (q : Primitive) (scope : Scope) (s : Step) (L : Life) (v w : Data) (r : Result A EvalFault)
    → Evaluates (gift r w) (answer (event v)) → Remembers (Now v) q scope L → GoesOn q scope s L Never (gift r w)
now_goes_on q scope s L v w r told (remembers_first {e = e} h) = goes_with r w (value_gives VNow e scope v s [] h) told (always r (remembers_passed h))

pub hold_goes_on : {A : Type 0} (q : Primitive) (scope : Scope) (d : ℕ) (x : Data) (L : Life) (v u w : Data) (r : Result A EvalFault)
    → Evaluates (gift r w) (answer (payload_or (occurring x) v)) → OnOk r (u ≡ payload_or (occurring x) v) → Remembers (Hold v) q scope L → GoesOn q scope (step d x) L (Hold u) (gift r w)
hold_goes_on q scope d x L v u w r told kept (remembers_last {e = e} {v = given} h is) =
    let now : payload_or (occurring x) v ≡ last_payload given (step d x ∷ L) = ap (payload_or (occurring x)) is in
    goes_with r w (value_gives VHold e scope given (step d x) L h ∙ ap answer (sym now)) told (on_ok_weaker r (λ k. remembers_last h (k ∙ now)) kept)

pub hold_before_goes_on : {A : Type 0} (q : Primitive) (scope : Scope) (d : ℕ) (x : Data) (L : Life) (v u w : Data) (r : Result A EvalFault)
    → Evaluates (gift r w) (answer v) → OnOk r (u ≡ payload_or (occurring x) v) → Remembers (DelayedHold v) q scope L → GoesOn q scope (step d x) L (DelayedHold u) (gift r w)
hold_before_goes_on q scope d x L v u w r told kept (remembers_last_before {e = e} {v = given} h is) =
    goes_with r w (value_gives VDelayedHold e scope given (step d x) L h ∙ ap answer (sym is)) told (on_ok_weaker r (λ k. remembers_last_before h (k ∙ ap (payload_or (occurring x)) is)) kept)

-- an answer that is answered again
as_it_is : (worth : Evaluated Data) → (worth >>= λ u. answer u) ≡ worth
as_it_is (answer u) = refl
as_it_is (failed x) = refl

-- what is answered whatever was answered before
whatever_was : (worth : Evaluated Data) (x u : Data) → (worth >>= λ w. answer x) ≡ answer u → answer x ≡ answer u
whatever_was (answer w) x u h = h
whatever_was (failed y) x u h = absurd cc

-- an accumulation on a longer life gives this
accumulation_gives : (k : Accumulation) (f : Function) (v w : Data) (sc : Scope) (d : ℕ) (x : Data) (L : Life)
    → carried k f sc v L ≡ answer w → accumulated_formula k f sc v (step d x) L ≡ shown_after k f sc w x
accumulation_gives EdgeBy f v w sc d x L h = ap (λ r. r >>= λ w. apply f (pair w x) sc) h ∙ sym (as_it_is (apply f (pair w x) sc))
accumulation_gives AccumBy f v w sc d x L h = ap (λ r. (r >>= λ w. next_value f sc w (occurring x)) >>= λ u. answer (event_where (occurring x) u)) h
accumulation_gives AccumHoldBy f v w sc d x L h = ap (λ r. r >>= λ w. next_value f sc w (occurring x)) h ∙ sym (as_it_is (next_value f sc w (occurring x)))
accumulation_gives Scan f v w sc d x L h = ap (λ r. r >>= λ w. apply f (pair w x) sc) h ∙ sym (as_it_is (apply f (pair w x) sc))

-- and keeps this
accumulation_carries : (k : Accumulation) (f : Function) (v w u : Data) (sc : Scope) (d : ℕ) (x : Data) (L : Life)
    → carried k f sc v L ≡ answer w → carried_after k f sc w x ≡ answer u → carried k f sc v (step d x ∷ L) ≡ answer u
accumulation_carries EdgeBy f v w u sc d x L h g = whatever_was (apply f (pair w x) sc) x u g
accumulation_carries AccumBy f v w u sc d x L h g = ap (λ r. r >>= λ w. next_value f sc w (occurring x)) h ∙ sym (as_it_is (next_value f sc w (occurring x))) ∙ g
accumulation_carries AccumHoldBy f v w u sc d x L h g = ap (λ r. r >>= λ w. next_value f sc w (occurring x)) h ∙ sym (as_it_is (next_value f sc w (occurring x))) ∙ g
accumulation_carries Scan f v w u sc d x L h g = ap (λ r. r >>= λ w. apply f (pair w x) sc) h ∙ sym (as_it_is (apply f (pair w x) sc)) ∙ g

pub accumulated_goes_on : {A : Type 0} (φ : AnswersByName) (d : ℕ) (x : Data) (a b : Box Accumulator Global) (w : Data) (r : Result A EvalFault)
    → ((s : Scope) → scope_functions s ≡ φ → (f : Function) → IsClosureOf s f a.value.closure → Evaluates (gift r w) (shown_after a.value.form f s a.value.value x))
    → ((s : Scope) → scope_functions s ≡ φ → (f : Function) → IsClosureOf s f a.value.closure → OnOk r (carried_after a.value.form f s a.value.value x ≡ answer b.value.value))
    → OnOk r ((b.value.form ≡ a.value.form) × (b.value.closure ≡ a.value.closure))
    → (q : Primitive) (scope : Scope) (L : Life) → scope_functions scope ≡ φ → Remembers (Accumulated a) q scope L → GoesOn q scope (step d x) L (Accumulated b) (gift r w)
accumulated_goes_on φ d x a b w r shows carries same q scope L is (remembers_accumulation {e = e} {f = f} {v = v} h code k) =
    goes_with r w (ap (λ o. o >>= λ v. accumulated_formula a.value.form f scope v (step d x) L) h ∙ accumulation_gives a.value.form f v a.value.value scope d x L k) (shows scope is f code) (keeps r (carries scope is f code) same)
  where
    goes_so : b.value.form ≡ a.value.form → b.value.closure ≡ a.value.closure → carried_after a.value.form f scope a.value.value x ≡ answer b.value.value → Remembers (Accumulated b) (accumulated a.value.form e f) scope (step d x ∷ L)
    goes_so form code_same n =
        let after : carried a.value.form f scope v (step d x ∷ L) ≡ answer b.value.value = accumulation_carries a.value.form f v a.value.value b.value.value scope d x L k n in
        subst (λ m. Remembers (Accumulated b) (accumulated m e f) scope (step d x ∷ L)) form
        (remembers_accumulation h (rw code_same code) (ap (λ m. carried m f scope v (step d x ∷ L)) form ∙ after))

    keeps : {A : Type 0} (r : Result A EvalFault) → OnOk r (carried_after a.value.form f scope a.value.value x ≡ answer b.value.value) → OnOk r ((b.value.form ≡ a.value.form) × (b.value.closure ≡ a.value.closure)) → OnOk r (Remembers (Accumulated b) (accumulated a.value.form e f) scope (step d x ∷ L))
    keeps (Ok y) n m = goes_so m.0 m.1 n
    keeps (Err y) n m = m

-- a copy of an accumulation keeps the same
pub accumulated_follows : (a b : Box Accumulator Global) → b.value.form ≡ a.value.form → ((s : Scope) (f : Function) → IsClosureOf s f a.value.closure → IsClosureOf s f b.value.closure) → b.value.value ≡ a.value.value → (q : Primitive) (scope : Scope) (L : Life) → Remembers (Accumulated a) q scope L → Remembers (Accumulated b) q scope L
accumulated_follows a b form code value q scope L (remembers_accumulation {e = e} {f = f} {v = v} h c k) =
    subst (λ m. Remembers (Accumulated b) (accumulated m e f) scope L) form (remembers_accumulation h (code scope f c) (ap (λ m. carried m f scope v L) form ∙ k ∙ ap answer (sym value)))

-- before its first sample it keeps its value
carried_at_first : (k : Accumulation) (f : Function) (sc : Scope) (v : Data) → carried k f sc v [] ≡ answer v
carried_at_first EdgeBy f sc v = refl
carried_at_first AccumBy f sc v = refl
carried_at_first AccumHoldBy f sc v = refl
carried_at_first Scan f sc v = refl

pub accumulated_keeps : (sc : Scope) (e : Expression) (f : Function) (a : Box Accumulator Global) → IsClosureOf sc f a.value.closure → eval e sc ≡ answer a.value.value → Remembers (Accumulated a) (accumulated a.value.form e f) sc []
accumulated_keeps sc e f a code h = remembers_accumulation h code (carried_at_first a.value.form f sc a.value.value)

-- of these parts
pub accumulated_made : (sc : Scope) (e : Expression) (f : Function) (b : Box Accumulator Global) (a : Accumulator) → b.value ≡ a → IsClosureOf sc f a.closure → eval e sc ≡ answer a.value → Remembers (Accumulated b) (accumulated a.form e f) sc []
accumulated_made sc e f b a is code h =
    subst (λ m. Remembers (Accumulated b) (accumulated m e f) sc []) (ap (λ a. a.form) is) (accumulated_keeps sc e f b (rw is code) (h ∙ ap (λ a. answer a.value) (sym is)))

pub accumulated_fails : (sc : Scope) (k : Accumulation) (e : Expression) (g : Function) (f : EvalFault) (r : Result PrimState EvalFault)
    → IsErrAnd r (λ e. e ≡ f) → Evaluates (Err f) (eval e sc) → Begins sc (accumulated k e g) r
accumulated_fails sc k e g f r h w =
    exit_so sc (accumulated k e g) f r h (constant_fails sc (accumulated k e g) e (λ s v. accumulated_formula k g sc v s []) (λ s. refl) f w)

-- code without names around it answers as its function in any scope
pub bare_function : {s : Scope} {x : Exprs} {f : Function} (own code : Rc OpenCode Global) → own.value ≡ code.value → code.value.around ≡ None → IsCodeOfFunction x f code.value → AnswersAsFunction s f [] own.value.code
bare_function {s} {x} {f} own code same none is =
    rw same (record { worth = λ d. subst (λ o. run (code_of code.value.code) (d ∷ frame_around x o s) (scope_functions s) ≡ apply f d s) none (is.worth s d) })

-- the same code shared keeps the same
pub arrow_follows : (c d : Rc OpenCode Global) → d.value ≡ c.value → (q : Primitive) (scope : Scope) (L : Life) → Remembers (Arrow c) q scope L → Remembers (Arrow d) q scope L
arrow_follows c d e q scope L (remembers_function K) = remembers_function (rw e K)

pub closed_follows : (c d : Rc Closure Global) → d.value ≡ c.value → (q : Primitive) (scope : Scope) (L : Life) → Remembers (Closed c) q scope L → Remembers (Closed d) q scope L
closed_follows c d e q scope L (remembers_closure K) = remembers_closure (rw e K)
