-- What primitives give, by formulas over their whole life.
use Rattle.std.specs.Prelude.{ℕ, suc, nat_le, [], ◌∷◌, Bool, true, false, not, ◌&&◌, cond, ℤ, pos, ◌+ℤ◌, negsuc, ◌*ℤ◌, int_le, ◌-◌, ◌/◌, nat_lt, Option, Some, None, unwrap_or}
use Rattle.sf_value.specs.Values.{Data, unit, truth, number, pair, no_event, event, first_of, second_of}
use Rattle.sf_operator.specs.Outcomes.{tested}
use Rattle.sf_operator.specs.Operations.{truth_held, number_held, payload_held, payload_or}
use Rattle.sf_expr.specs.Expressions.{Function}
use Rattle.sf_expr.specs.Evaluation.{Evaluated, answer, ◌>>=◌, Scope, eval, apply}
use Rattle.sf_term.specs.declared.form.Bare.{Bare}
use Rattle.sf_term.specs.declared.form.Bare.TheVariants.{Identity, LocalTime, Integral, Edge, NotYet, Once, Count, Pre}
use Rattle.sf_term.specs.declared.form.WithValue.{WithValue}
use Rattle.sf_term.specs.declared.form.WithValue.TheVariants.{Constant, Initially, InitialPre, InitializedPre, Now, InitialEdge, EdgeTag, Hold, DelayedHold}
use Rattle.sf_term.specs.declared.form.Timing.{Timing}
use Rattle.sf_term.specs.declared.form.Timing.TheVariants.{After, Repeatedly, Delay}
use Rattle.sf_term.specs.declared.form.Selection.{Selection}
use Rattle.sf_term.specs.declared.form.Selection.TheVariants.{TakeEvents, DropEvents}
use Rattle.sf_term.specs.declared.form.Accumulation.{Accumulation}
use Rattle.sf_term.specs.declared.form.Accumulation.TheVariants.{EdgeBy, AccumBy, AccumHoldBy, Scan}
use Rattle.sf_term.specs.declared.form.Side.{Side}
use Rattle.sf_term.specs.declared.form.Side.TheVariants.{First, Second}
use Rattle.sf_term.specs.Trees.{Chain, lone, chained, on_side, on_both, fanned, Primitive, bare, probe, never, with_value, timed, selected, arrow, accumulated, fused}
use Rattle.sf_mean.specs.Lives.{Step, step, wait_of, input_of, Life, time}

-- In all of these, s is the newest step and L the steps before it.

-- the input before, or v at the first step
abbrev pub before : Data → Life → Data
before v [] = v
before v (s ∷ L) = input_of s

-- one thing at the first step, another at the later ones
abbrev pub at_first : {A : Type 0} → Life → A → A → A
at_first [] a b = a
at_first (s ∷ L) a b = b

-- a life with this input at the first step in the place of its own
abbrev pub first_replaced : Data → Life → Life
first_replaced v [] = []
first_replaced v (s ∷ L) = step (wait_of s) (at_first L v (input_of s)) ∷ first_replaced v L

-- the number that an input is
abbrev pub level : Data → ℤ
level d = unwrap_or (number_held d) (pos 0)

-- the sum of the inputs before, each by the time to the next step; before the first step nothing is summed
abbrev pub area : Life → ℤ
area [] = pos 0
area (s ∷ L) = area L +ℤ (pos (wait_of s) *ℤ level (before (number (pos 0)) L))

-- whether a value is the truth true, and whether it is false
abbrev pub is_high : Data → Bool
is_high d = unwrap_or (truth_held d) false

abbrev pub is_low : Data → Bool
is_low d = not (unwrap_or (truth_held d) true)

-- an event of the unit where this holds, else none
abbrev pub event_if : Bool → Data
event_if b = cond b (event unit) no_event

-- whether an input is true and the one before was false
abbrev pub rises : Data → Data → Bool
rises x y = is_high x && is_low y

-- an event where it does
abbrev pub risen : Data → Data → Data
risen x y = event_if (rises x y)

-- the payload of a value, if it is an event that occurs
abbrev pub occurring : Data → Option Data
occurring d = unwrap_or (payload_held d) None

-- one more where there is a payload
abbrev pub count_up : Option Data → ℕ → ℕ
count_up None n = n
count_up (Some x) n = suc n

-- how many events occurred in a life
abbrev pub occurrences : Life → ℕ
occurrences [] = 0
occurrences (s ∷ L) = count_up (occurring (input_of s)) (occurrences L)

-- an event of a number, where there is a payload
abbrev pub counted : Option Data → ℕ → Evaluated Data
counted None n = answer no_event
counted (Some x) n = tested (pos n) >>= λ v. answer (event v)

-- the last payload in a life, or v where there was none
abbrev pub last_payload : Data → Life → Data
last_payload v [] = v
last_payload v (s ∷ L) = payload_or (occurring (input_of s)) (last_payload v L)

-- whether so many events occurred in a life
abbrev pub has_occurred : ℤ → Life → Bool
has_occurred n L = int_le n (pos (occurrences L))

-- primitives with a number of events
abbrev pub selected_formula : Selection → ℤ → Step → Life → Data
selected_formula TakeEvents n s L = cond (has_occurred n L) no_event (input_of s)
selected_formula DropEvents n s L = cond (has_occurred n L) (input_of s) no_event

-- primitives without constants; `pre` alone has no value at the first step, and makes no sense there
abbrev pub bare_formula : Bare → Step → Life → Evaluated Data
bare_formula Identity s L = answer (input_of s)
bare_formula LocalTime s L = tested (pos (time (s ∷ L)))
bare_formula Integral s L = tested (area (s ∷ L))
bare_formula Edge s L = answer (risen (input_of s) (before (truth true) L))
bare_formula NotYet s L = answer (at_first L no_event (input_of s))
bare_formula Once s L = answer (selected_formula TakeEvents (pos 1) s L)
bare_formula Count s L = counted (occurring (input_of s)) (occurrences (s ∷ L))
bare_formula Pre s L = answer (before (number (pos 0)) L)

-- primitives with the value v
abbrev pub value_formula : WithValue → Data → Step → Life → Data
value_formula Constant v s L = v
value_formula Initially v s L = at_first L v (input_of s)
value_formula InitialPre v s L = before v L
value_formula InitializedPre v s L = before v L
value_formula Now v s L = at_first L (event v) no_event
value_formula InitialEdge v s L = risen (input_of s) (before v L)
value_formula EdgeTag v s L = cond (rises (input_of s) (before (truth true) L)) (event v) no_event
value_formula Hold v s L = last_payload v (s ∷ L)
value_formula DelayedHold v s L = last_payload v L

-- whether a life has come to a step at which so much time has passed since the first
abbrev pub has_passed : ℤ → Life → Bool
has_passed q [] = false
has_passed q (s ∷ L) = int_le q (pos (time (s ∷ L)))

-- how many a number says, of milliseconds or of events; none where it is below 0
abbrev pub span : ℤ → ℕ
span (pos n) = n
span (negsuc n) = 0

-- an event of v at each later step where a multiple of q milliseconds lies above the time at the step before, and not above
-- the time at the newest: one at most, whatever many multiples lie there
abbrev pub repeated_formula : ℤ → Data → Step → Life → Data
repeated_formula q v s L = cond (nat_lt (time L / span q) (time (s ∷ L) / span q)) (event v) no_event

-- the newest input of a life that is at least q milliseconds old at a time, or v where none is
abbrev pub aged : ℕ → Data → ℕ → Life → Data
aged q v now [] = v
aged q v now (s ∷ L) = cond (nat_le q (now - time (s ∷ L))) (input_of s) (aged q v now L)

-- the newest input that is at least q milliseconds old at the newest step
abbrev pub delayed_formula : ℤ → Data → Step → Life → Data
delayed_formula q v s L = aged (span q) v (time (s ∷ L)) (s ∷ L)

-- primitives with a time and the value v
abbrev pub timed_formula : Timing → ℤ → Data → Step → Life → Data
timed_formula After q v s L = cond (has_passed q (s ∷ L) && not (has_passed q L)) (event v) no_event
timed_formula Repeatedly q v s L = repeated_formula q v s L
timed_formula Delay q v s L = delayed_formula q v s L

-- the next value that a function makes, of the one so far and of what comes; the same where nothing comes
abbrev pub next_value : Function → Scope → Data → Option Data → Evaluated Data
next_value f scope w None = answer w
next_value f scope w (Some x) = apply f (pair w x) scope

-- the value after a life, from v before it, by what comes of each input, if anything does
abbrev pub accumulation : (Data → Option Data) → Function → Scope → Data → Life → Evaluated Data
accumulation coming f scope v [] = answer v
accumulation coming f scope v (s ∷ L) = accumulation coming f scope v L >>= λ w. next_value f scope w (coming (input_of s))

-- an event of a value where there is a payload
abbrev pub event_where : Option Data → Data → Data
event_where None w = no_event
event_where (Some x) w = event w

-- primitives with the value v and a function: of the input before and this one, or of the value so far and of each payload
-- or of each input
abbrev pub accumulated_formula : Accumulation → Function → Scope → Data → Step → Life → Evaluated Data
accumulated_formula EdgeBy f scope v s L = apply f (pair (before v L) (input_of s)) scope
accumulated_formula AccumBy f scope v s L = accumulation occurring f scope v (s ∷ L) >>= λ w. answer (event_where (occurring (input_of s)) w)
accumulated_formula AccumHoldBy f scope v s L = accumulation occurring f scope v (s ∷ L)
accumulated_formula Scan f scope v s L = accumulation Some f scope v (s ∷ L)

-- the side of the input that the part is given
abbrev pub side_of : Side → Data → Data
side_of First x = first_of x
side_of Second x = second_of x

-- the input with the part's value on its side
abbrev pub side_replaced : Side → Data → Data → Data
side_replaced First x y = pair y (second_of x)
side_replaced Second x y = pair (first_of x) y

-- what functions made into one answer to a value: the first before the second
abbrev pub apply_chain : Chain → Data → Scope → Evaluated Data
apply_chain (lone f) x scope = apply f x scope
apply_chain (chained f g) x scope = apply_chain f x scope >>= λ y. apply_chain g y scope
apply_chain (on_side d f) x scope = apply_chain f (side_of d x) scope >>= λ y. answer (side_replaced d x y)
apply_chain (on_both f g) x scope = apply_chain f (first_of x) scope >>= λ y. apply_chain g (second_of x) scope >>= λ z. answer (pair y z)
apply_chain (fanned f g) x scope = apply_chain f x scope >>= λ y. apply_chain g x scope >>= λ z. answer (pair y z)

-- What a primitive gives at the newest step. A constant is evaluated first; its fault is the fault of the first step.
abbrev pub formula : Primitive → Scope → Step → Life → Evaluated Data
formula (bare k) scope s L = bare_formula k s L
formula (probe k) scope s L = answer (input_of s)
formula (never t) scope s L = answer no_event
formula (with_value k e) scope s L = eval e scope >>= λ v. answer (value_formula k v s L)
formula (arrow f) scope s L = apply f (input_of s) scope
formula (timed k q e) scope s L = eval e scope >>= λ v. answer (timed_formula k q v s L)
formula (selected k n) scope s L = answer (selected_formula k n s L)
formula (accumulated k e f) scope s L = eval e scope >>= λ v. accumulated_formula k f scope v s L
formula (fused f) scope s L = apply_chain f (input_of s) scope
