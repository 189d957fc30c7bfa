-- What the states of primitives keep of their lives.
use Rattle.std.specs.Prelude.{◌≡◌, ℕ, ◌-◌, nat_eq, [], ◌∷◌, Bool, true, cond, ℤ, pos, ◌+ℤ◌, Option, Some, None, Result, Ok, Err}
use Rattle.std.specs.declared.alloc.Global.{Global}
use Rattle.std.specs.Prelude.{Box}
use Rattle.std.specs.declared.rc.Rc.{Rc}
use Rattle.sf_value.specs.Values.{Kind, Data, truth, number, no_event, event}
use Rattle.sf_value.specs.declared.fault.ValueFault.{ValueFault}
use Rattle.sf_expr.specs.Expressions.{Expression, Function}
use Rattle.sf_operator.specs.Outcomes.{tested}
use Rattle.sf_expr.specs.Evaluation.{Evaluated, Scope, answer, failed, ◌>>=◌, eval}
use Rattle.sf_code.specs.declared.open.OpenCode.{OpenCode}
use Rattle.sf_code.specs.declared.open.Closure.{Closure}
use Rattle.sf_code.specs.Worth.{AnswersAsFunction, IsClosureOf}
use Rattle.sf_operator.specs.declared.fault.EvalFault.{EvalFault}
use Rattle.sf_operator.specs.declared.fault.EvalFault.TheVariants.{Value, Memory}
use Rattle.sf_term.specs.declared.form.Bare.TheVariants.{Identity as BIdentity, LocalTime, Integral, Edge as BEdge, NotYet as BNotYet, Once as BOnce, Count as BCount, Pre}
use Rattle.sf_term.specs.declared.form.WithValue.TheVariants.{Constant as VConstant, Initially as VInitially, InitialPre, InitializedPre, Now as VNow, InitialEdge, EdgeTag, Hold as VHold, DelayedHold as VDelayedHold}
use Rattle.sf_term.specs.declared.form.Timing.TheVariants.{After, Repeatedly, Delay}
use Rattle.sf_term.specs.declared.form.Accumulation.{Accumulation}
use Rattle.sf_term.specs.declared.form.Accumulation.TheVariants.{EdgeBy, AccumBy, AccumHoldBy, Scan}
use Rattle.sf_term.specs.declared.form.Selection.{Selection}
use Rattle.sf_term.specs.declared.form.Selection.TheVariants.{TakeEvents, DropEvents}
use Rattle.sf_term.specs.Trees.{Chain, Primitive, bare, never, with_value, timed, selected, arrow, accumulated, fused}
use Rattle.sf_mean.specs.Lives.{Step, Life, time}
use Rattle.sf_mean.specs.Formulas.{span, occurring, next_value, accumulation, event_where, before, is_low, occurrences, last_payload, formula}
use Rattle.sf_delay.specs.Lately.{has_steps}
use Rattle.sf_delay.specs.Waits.{Sums, RunsDown, TicksOn}
use Rattle.sf_delay.specs.Delays.{Delays}
use Rattle.sf_delay.specs.declared.sum.Sum.{Sum}
use Rattle.sf_delay.specs.declared.timer.Timer.{Timer}
use Rattle.sf_delay.specs.declared.ticker.Ticker.{Ticker}
use Rattle.sf_delay.specs.declared.line.Line.{Line}
use Rattle.sf_prim.specs.declared.accumulator.Accumulator.{Accumulator}
use Rattle.std.specs.Prelude.{Vec}
use Rattle.sf_prim.specs.declared.chain.Link.{Link}
use Rattle.sf_prim.specs.Links.{AreLinksOf}
use Rattle.sf_prim.specs.declared.prim_state.PrimState.{PrimState}
use Rattle.sf_prim.specs.declared.prim_state.PrimState.TheVariants.{Identity, Never, Constant, Previous, Arrow, Closed, Fused, Accumulated, Clock, Area, Timed, Ticked, Delayed, Selected, Edge, Tagged, NotYet, Count, Now, Initially, Hold, DelayedHold}

-- the time at a sample, by that at the one before, if there was one
abbrev pub time_after : Option ℤ → ℕ → ℤ
time_after None d = pos 0
time_after (Some t) d = t +ℤ pos d

-- the time at the newest step, if there is one
abbrev pub last_time : Life → Option ℤ
last_time [] = None
last_time (s ∷ L) = Some (pos (time (s ∷ L)))

-- how many events there were, by how many there were before
abbrev pub count_after : Option Data → ℤ → ℤ
count_after None z = z
count_after (Some x) z = pos 1 +ℤ z

-- how many events of a number are left, by how many were before
abbrev pub left_after : Option Data → ℕ → ℕ
left_after None n = n
left_after (Some x) n = n - 1

-- the input or no event, by how many events of a number were left before it
abbrev pub passed_on : Selection → ℕ → Data → Data
passed_on TakeEvents n x = cond (nat_eq n 0) no_event x
passed_on DropEvents n x = cond (nat_eq n 0) x no_event

-- at an event, one of that
abbrev pub counted_after : Option Data → ℤ → Evaluated Data
counted_after None z = answer no_event
counted_after (Some x) z = tested (pos 1 +ℤ z) >>= λ v. answer (event v)

-- what an accumulation keeps of a life for its function: the newest input, or the value so far
abbrev pub carried : Accumulation → Function → Scope → Data → Life → Evaluated Data
carried EdgeBy f scope v L = answer (before v L)
carried AccumBy f scope v L = accumulation occurring f scope v L
carried AccumHoldBy f scope v L = accumulation occurring f scope v L
carried Scan f scope v L = accumulation Some f scope v L

-- what its function takes beside that of a further input: the payload of an event that occurs, or the input
abbrev pub coming : Accumulation → Data → Option Data
coming EdgeBy x = Some x
coming AccumBy x = occurring x
coming AccumHoldBy x = occurring x
coming Scan x = Some x

-- what it gives of what its function made: at an event an event of it, or that itself
abbrev pub displayed : Accumulation → Option Data → Data → Data
displayed EdgeBy o u = u
displayed AccumBy o u = event_where o u
displayed AccumHoldBy o u = u
displayed Scan o u = u

-- what it keeps then: the input, or what its function made
abbrev pub retained : Accumulation → Data → Data → Data
retained EdgeBy x u = x
retained AccumBy x u = u
retained AccumHoldBy x u = u
retained Scan x u = u

-- both on a further input, by what it has kept
abbrev pub shown_after : Accumulation → Function → Scope → Data → Data → Evaluated Data
shown_after k f scope w x = next_value f scope w (coming k x) >>= λ u. answer (displayed k (coming k x) u)

abbrev pub carried_after : Accumulation → Function → Scope → Data → Data → Evaluated Data
carried_after k f scope w x = next_value f scope w (coming k x) >>= λ u. answer (retained k x u)

-- A state keeps what its primitive needs of a life.
pub data Remembers : PrimState → Primitive → Scope → Life → Type 0 where
  remembers_nothing : {scope : Scope} {L : Life} → Remembers Identity (bare BIdentity) scope L
  remembers_no_event : {t : Kind} {scope : Scope} {L : Life} → Remembers Never (never t) scope L
  remembers_value : {e : Expression} {scope : Scope} {v : Data} {L : Life}
      → eval e scope ≡ answer v → Remembers (Constant v) (with_value VConstant e) scope L
  remembers_previous : {e : Expression} {scope : Scope} {v w : Data} {L : Life}
      → eval e scope ≡ answer v → w ≡ before v L → Remembers (Previous w) (with_value InitialPre e) scope L
  remembers_initialized : {e : Expression} {scope : Scope} {v w : Data} {L : Life}
      → eval e scope ≡ answer v → w ≡ before v L → Remembers (Previous w) (with_value InitializedPre e) scope L
  remembers_pre : {scope : Scope} {w : Data} {L : Life} → w ≡ before (number (pos 0)) L → Remembers (Previous w) (bare Pre) scope L
  remembers_function : {c : Rc OpenCode Global} {f : Function} {scope : Scope} {L : Life}
      → AnswersAsFunction scope f [] c.value.code → Remembers (Arrow c) (arrow f) scope L
  remembers_closure : {c : Rc Closure Global} {f : Function} {scope : Scope} {L : Life}
      → IsClosureOf scope f c.value → Remembers (Closed c) (arrow f) scope L
  remembers_chain : {c : Rc (Vec Link Global) Global} {f : Chain} {scope : Scope} {L : Life}
      → AreLinksOf scope f c.value.items → Remembers (Fused c) (fused f) scope L
  remembers_accumulation : {a : Box Accumulator Global} {e : Expression} {f : Function} {v : Data} {scope : Scope} {L : Life}
      → eval e scope ≡ answer v → IsClosureOf scope f a.value.closure → carried a.value.form f scope v L ≡ answer a.value.value
      → Remembers (Accumulated a) (accumulated a.value.form e f) scope L
  remembers_time : {t : Option ℤ} {scope : Scope} {L : Life} → t ≡ last_time L → Remembers (Clock t) (bare LocalTime) scope L
  remembers_area : {r : Sum} {scope : Scope} {L : Life}
      → Sums r L → Remembers (Area r) (bare Integral) scope L
  remembers_timer : {t : Box Timer Global} {q : ℤ} {e : Expression} {scope : Scope} {v : Data} {L : Life}
      → eval e scope ≡ answer v → RunsDown t.value q v L → Remembers (Timed t) (timed After q e) scope L
  remembers_ticker : {t : Box Ticker Global} {q : ℤ} {e : Expression} {scope : Scope} {v : Data} {L : Life}
      → eval e scope ≡ answer v → TicksOn t.value q v L → Remembers (Ticked t) (timed Repeatedly q e) scope L
  remembers_line : {l : Box Line Global} {q : ℤ} {e : Expression} {scope : Scope} {v : Data} {L : Life}
      → eval e scope ≡ answer v → Delays l.value q v L → Remembers (Delayed l) (timed Delay q e) scope L
  remembers_left : {k : Selection} {left : ℕ} {n : ℤ} {scope : Scope} {L : Life} → left ≡ span n - occurrences L → Remembers (Selected k left) (selected k n) scope L
  remembers_low : {b : Bool} {scope : Scope} {L : Life} → b ≡ is_low (before (truth true) L) → Remembers (Edge b) (bare BEdge) scope L
  remembers_first_low : {b : Bool} {e : Expression} {scope : Scope} {v : Data} {L : Life}
      → eval e scope ≡ answer v → b ≡ is_low (before v L) → Remembers (Edge b) (with_value InitialEdge e) scope L
  remembers_tag : {b : Bool} {e : Expression} {scope : Scope} {v : Data} {L : Life}
      → eval e scope ≡ answer v → b ≡ is_low (before (truth true) L) → Remembers (Tagged b v) (with_value EdgeTag e) scope L
  remembers_begun : {b : Bool} {scope : Scope} {L : Life} → b ≡ has_steps L → Remembers (NotYet b) (bare BNotYet) scope L
  remembers_first_left : {left : ℕ} {scope : Scope} {L : Life} → left ≡ 1 - occurrences L → Remembers (Selected TakeEvents left) (bare BOnce) scope L
  remembers_count : {z : ℤ} {scope : Scope} {L : Life} → z ≡ pos (occurrences L) → Remembers (Count z) (bare BCount) scope L
  remembers_first : {e : Expression} {scope : Scope} {v : Data} → eval e scope ≡ answer v → Remembers (Now v) (with_value VNow e) scope []
  remembers_passed : {e : Expression} {scope : Scope} {v : Data} {s : Step} {L : Life} → eval e scope ≡ answer v → Remembers Never (with_value VNow e) scope (s ∷ L)
  remembers_initial : {e : Expression} {scope : Scope} {v : Data} → eval e scope ≡ answer v → Remembers (Initially v) (with_value VInitially e) scope []
  remembers_later : {e : Expression} {scope : Scope} {v : Data} {s : Step} {L : Life} → eval e scope ≡ answer v → Remembers Identity (with_value VInitially e) scope (s ∷ L)
  remembers_last : {e : Expression} {scope : Scope} {v w : Data} {L : Life}
      → eval e scope ≡ answer v → w ≡ last_payload v L → Remembers (Hold w) (with_value VHold e) scope L
  remembers_last_before : {e : Expression} {scope : Scope} {v w : Data} {L : Life}
      → eval e scope ≡ answer v → w ≡ last_payload v L → Remembers (DelayedHold w) (with_value VDelayedHold e) scope L

-- A primitive before its first sample in a scope, or the fault of its constants, which is that of the first sample.
pub data Begins (scope : Scope) (q : Primitive) : Result PrimState EvalFault → Type 0 where
  begins : {i : PrimState} → Remembers i q scope [] → Begins scope q (Ok i)
  begins_with_fault : {x : ValueFault} → ((s : Step) → formula q scope s [] ≡ failed x) → Begins scope q (Err (Value x))
  begins_without_memory : Begins scope q (Err Memory)

-- A primitive's next sample gives its formula, and its state keeps the longer life.
pub data GoesOn (q : Primitive) (scope : Scope) (s : Step) (L : Life) : PrimState → Result Data EvalFault → Type 0 where
  goes_on : {i : PrimState} {v : Data}
      → formula q scope s L ≡ answer v → Remembers i q scope (s ∷ L) → GoesOn q scope s L i (Ok v)
  goes_on_with_fault : {i : PrimState} {x : ValueFault} → formula q scope s L ≡ failed x → GoesOn q scope s L i (Err (Value x))
  goes_on_without_memory : {i : PrimState} → GoesOn q scope s L i (Err Memory)
