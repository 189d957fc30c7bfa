-- What processes give on lives, and at what cost.
use Rattle.std.specs.Prelude.{◌≡◌, ℕ, suc, ◌+◌, max, List, [], ◌∷◌, ◌++◌, pos, Option, Some, None, option_map}
use Rattle.sf_value.specs.Values.{Name, KeyData, Data, number, pair, table, no_rows, first_of, second_of}
use Rattle.sf_value.specs.declared.fault.ValueFault.{ValueFault}
use Rattle.sf_func.specs.Registries.{AnswersByName}
use Rattle.sf_expr.specs.Expressions.{Pattern, Expression, Function}
use Rattle.sf_expr.specs.Evaluation.{Evaluated, answer, failed, ◌>>=◌, eval, apply}
use Rattle.sf_term.specs.declared.form.Join.{Join}
use Rattle.sf_term.specs.declared.form.Join.TheVariants.{InSequence, InParallel, FannedOut}
use Rattle.sf_term.specs.declared.form.Side.{Side}
use Rattle.sf_term.specs.declared.form.Heading.{Heading}
use Rattle.sf_term.specs.declared.form.Heading.TheVariants.{LoopPre, Initialized, Replaced, Followed}
use Rattle.sf_term.specs.declared.form.Observation.{Observation}
use Rattle.sf_term.specs.declared.form.Observation.TheVariants.{Immediate, Delayed}
use Rattle.sf_term.specs.declared.form.Switching.TheVariants.{Basic, Recurring}
use Rattle.sf_term.specs.Trees.{Primitive, bare, probe, never, with_value, timed, selected, arrow, accumulated, fused, Extent, whole, rest, Term, primitive, Reference, reference, started, call, Arguments, no_arguments, value_argument, process_argument, collection_argument, closed_argument, joined, sided, headed, transformed, switching, continuing, gathered, releasing, editing, staged, Collection, without_members, used, added, dropped, kept, chosen, Template, Templates, template_named}
use Rattle.sf_term.specs.Parameters.{Bindings}
use Rattle.sf_mean.specs.Lives.{Step, step, wait_of, input_of, Life, Process, closure, resumed, passing, Environment, empty, known, running, collected, Members, no_members, member, process_started, scope_around, bind, after, frozen, each_frozen, with_inputs, relay, observed_life, fed, first_input}
use Rattle.sf_mean.specs.Collections.{leading_row, collect}
use Rattle.sf_mean.specs.Formulas.{at_first, first_replaced, occurring, side_of, side_replaced, formula}

-- A network: its templates, and what its stored functions answer.
pub record Network : Type 0 where
  pub templates : Templates
  pub functions : AnswersByName

-- ## Outcomes and costs

-- What the probes recorded, in order: names with values.
abbrev pub Readings : Type 0
Readings = List (Name × Data)

-- The outcome of a step is a value with its readings, or a fault.
pub data Outcome : Type 0 where
  gave : Data → Readings → Outcome
  faulted : ValueFault → Outcome

-- an outcome with another value
abbrev pub changed : (Data → Data) → Outcome → Outcome
changed f (gave y r) = gave (f y) r
changed f (faulted x) = faulted x

-- the outcome of two parts, the first before the second: the first fault, or a value made of both with the readings of both
abbrev pub combined : (Data → Data → Data) → Outcome → Outcome → Outcome
combined f (gave y r) (gave z q) = gave (f y z) (r ++ q)
combined f (gave y r) (faulted x) = faulted x
combined f (faulted x) o = faulted x

-- the value of an outcome (a fault has none that is looked at)
abbrev pub outcome_value : Outcome → Data
outcome_value (gave y r) = y
outcome_value (faulted x) = number (pos 0)

-- an answer, as an outcome with these readings
abbrev pub as_outcome : Evaluated Data → Readings → Outcome
as_outcome (answer v) r = gave v r
as_outcome (failed x) r = faulted x

-- an outcome with what was answered in the place of its value: after a fault that fault, else one that was answered
abbrev pub answered_by : Evaluated Data → Outcome → Outcome
answered_by a (gave y r) = as_outcome a r
answered_by a (faulted x) = faulted x

-- the newest of the values before, or at the first step what was answered
abbrev pub newest_or : Evaluated Data → List Data → Evaluated Data
newest_or a [] = a
newest_or a (y ∷ ys) = answer y

-- what a primitive records at a step: a probe the input, under its name
abbrev pub recorded : Primitive → Step → Readings
recorded (bare k) s = []
recorded (probe x) s = (x, input_of s) ∷ []
recorded (never t) s = []
recorded (with_value k e) s = []
recorded (timed k q e) s = []
recorded (selected k n) s = []
recorded (arrow f) s = []
recorded (accumulated k e f) s = []
recorded (fused f) s = []

-- How many terms a sample steps, and how many stand one inside another.
pub data Cost : Type 0 where
  cost : (count height : ℕ) → Cost

abbrev pub count : Cost → ℕ
count (cost n h) = n

abbrev pub height : Cost → ℕ
height (cost n h) = h

-- no term
abbrev pub no_cost : Cost
no_cost = cost 0 0

-- the cost of two parts
abbrev pub both_costs : Cost → Cost → Cost
both_costs a b = cost (count a + count b) (max (height a) (height b))

-- a term that counts, over what it steps
abbrev pub over : Cost → Cost
over c = cost (suc (count c)) (suc (height c))

-- a term that steps no other
abbrev pub one_term : Cost
one_term = over no_cost

-- a term that counts at the first step of its life alone
abbrev pub over_first : Life → Cost → Cost
over_first [] c = over c
over_first (s ∷ L) c = c

-- a pipeline counts one, and the rest of one nothing
abbrev pub over_stages : Extent → Cost → Cost
over_stages whole c = over c
over_stages rest c = c

abbrev mutual
  -- the terms in the text of a term, outside of the bodies of switches and of edits; arguments and members count
  pub text_cost : Term → Cost
  text_cost (primitive p) = one_term
  text_cost (reference r) = over (reference_cost r)
  text_cost (joined j f g) = over (both_costs (text_cost f) (text_cost g))
  text_cost (sided d t) = over (text_cost t)
  text_cost (headed h e t) = over (text_cost t)
  text_cost (transformed f t) = over (text_cost t)
  text_cost (switching w t p u) = over (text_cost t)
  text_cost (continuing w t q k p u) = over (both_costs (text_cost t) (text_cost q))
  text_cost (gathered i) = over (collection_cost i)
  text_cost (releasing w i q k p u) = over (both_costs (collection_cost i) (text_cost q))
  text_cost (editing w i k p u) = over (collection_cost i)
  text_cost (staged x f g) = over_stages x (both_costs (text_cost f) (text_cost g))

  -- the terms in a collection
  pub collection_cost : Collection → Cost
  collection_cost (without_members k t) = no_cost
  collection_cost (used x) = no_cost
  collection_cost (added i j t) = both_costs (collection_cost i) (text_cost t)
  collection_cost (dropped i j) = collection_cost i
  collection_cost (kept i f) = collection_cost i
  collection_cost (chosen j a b) = both_costs (collection_cost a) (collection_cost b)

  -- the terms within a reference
  pub reference_cost : Reference → Cost
  reference_cost (started w k) = no_cost
  reference_cost (call g vs) = arguments_cost vs

  -- the terms in arguments
  pub arguments_cost : Arguments → Cost
  arguments_cost no_arguments = no_cost
  arguments_cost (value_argument i vs) = arguments_cost vs
  arguments_cost (process_argument t vs) = both_costs (text_cost t) (arguments_cost vs)
  arguments_cost (collection_argument i vs) = both_costs (collection_cost i) (arguments_cost vs)
  arguments_cost (closed_argument t vs) = both_costs (text_cost t) (arguments_cost vs)

-- the terms in the text of a term that was entered: those in its own arguments and members don't count
abbrev pub entered_cost : Term → Cost
entered_cost (primitive p) = text_cost (primitive p)
entered_cost (reference r) = one_term
entered_cost (joined j f g) = text_cost (joined j f g)
entered_cost (sided d t) = text_cost (sided d t)
entered_cost (headed h i t) = text_cost (headed h i t)
entered_cost (transformed f t) = text_cost (transformed f t)
entered_cost (switching w t p u) = text_cost (switching w t p u)
entered_cost (continuing w t q k p u) = text_cost (continuing w t q k p u)
entered_cost (gathered i) = one_term
entered_cost (releasing w i q k p u) = over (text_cost q)
entered_cost (editing w i k p u) = one_term
entered_cost (staged x f g) = text_cost (staged x f g)

-- What a form is made with: nothing, the value of its constant, the process that stands in its place, or the members of its
-- collection.
pub data Made : Type 0 where
  nothing_made : Made
  value_made : Data → Made
  process_made : Process → Made
  members_made : Members → Made

-- the process that a reference is as an argument: that of its name, or the call in its environment
abbrev pub process_referred : Reference → Environment → Process
process_referred (started w k) e = process_started w k e
process_referred (call g vs) e = closure (reference (call g vs)) e

-- the process that a term is as an argument
abbrev pub argument_process : Term → Environment → Process
argument_process (primitive p) e = closure (primitive p) e
argument_process (reference r) e = process_referred r e
argument_process (joined j f g) e = closure (joined j f g) e
argument_process (sided d t) e = closure (sided d t) e
argument_process (headed h i t) e = closure (headed h i t) e
argument_process (transformed f t) e = closure (transformed f t) e
argument_process (switching w t p u) e = closure (switching w t p u) e
argument_process (continuing w t q k p u) e = closure (continuing w t q k p u) e
argument_process (gathered i) e = closure (gathered i) e
argument_process (releasing w i q k p u) e = closure (releasing w i q k p u) e
argument_process (editing w i k p u) e = closure (editing w i k p u) e
argument_process (staged x f g) e = closure (staged x f g) e

-- The names d with parameters inside them, each bound to its argument, the last one innermost. Arguments are evaluated from
-- first to last, in the environment e of the call; the first fault is the answer.
abbrev pub argued : AnswersByName → (parameters : Bindings) → Arguments → (e d : Environment) → Evaluated Environment
argued φ [] vs e d = answer d
argued φ (q ∷ qs) no_arguments e d = answer d
argued φ (q ∷ qs) (value_argument i vs) e d = eval i (scope_around φ e) >>= λ v. argued φ qs vs e (known q.0 v d)
argued φ (q ∷ qs) (process_argument t vs) e d = argued φ qs vs e (running q.0 (argument_process t e) d)
argued φ (q ∷ qs) (collection_argument i vs) e d = collect φ i e >>= λ ms. argued φ qs vs e (collected q.0 ms d)
argued φ (q ∷ qs) (closed_argument t vs) e d = argued φ qs vs e (running q.0 (closure t e) d)

-- the process that stands in the place of a call: the template's term in the environment of the arguments; what isn't there
-- passes its inputs on
abbrev pub process_called : AnswersByName → Option Template → Arguments → Environment → Evaluated Process
process_called φ None vs e = answer passing
process_called φ (Some t) vs e = argued φ t.parameters vs e empty >>= λ d. answer (closure t.body d)

-- the process that stands in the place of a reference
abbrev pub referred : Network → Reference → Environment → Evaluated Process
referred n (started w k) e = answer (process_started w k e)
referred n (call g vs) e = process_called n.functions (template_named g n.templates) vs e

-- what a form with a value at its head is made with, where that is its worth: `fby` with nothing, since its constant comes
-- after its part
abbrev pub head_made : Heading → Evaluated Data → Evaluated Made
head_made LoopPre a = a >>= λ v. answer (value_made v)
head_made Initialized a = a >>= λ v. answer (value_made v)
head_made Replaced a = a >>= λ v. answer (value_made v)
head_made Followed a = answer nothing_made

-- What stands before a form's parts, evaluated at its first step. A primitive's constants are in its formula.
abbrev pub make : Network → Term → Environment → Data → Evaluated Made
make n (primitive p) e x = answer nothing_made
make n (reference r) e x = referred n r e >>= λ P. answer (process_made P)
make n (joined j f g) e x = answer nothing_made
make n (sided d t) e x = answer nothing_made
make n (headed h i t) e x = head_made h (eval i (scope_around n.functions e))
make n (transformed f t) e x = apply f x (scope_around n.functions e) >>= λ v. answer (value_made v)
make n (switching w t p u) e x = answer nothing_made
make n (continuing w t q k p u) e x = answer nothing_made
make n (gathered i) e x = collect n.functions i e >>= λ ms. answer (members_made ms)
make n (releasing w i q k p u) e x = collect n.functions i e >>= λ ms. answer (members_made ms)
make n (editing w i k p u) e x = collect n.functions i e >>= λ ms. answer (members_made ms)
make n (staged x f g) e y = answer nothing_made

-- what the left part of a join lives
abbrev pub left_life : Join → Life → Life
left_life InSequence L = L
left_life InParallel L = with_inputs first_of L
left_life FannedOut L = L

-- what the right part lives, where the left one gave the values ys
abbrev pub right_life : Join → Life → List Data → Life
right_life InSequence L ys = relay L ys
right_life InParallel L ys = with_inputs second_of L
right_life FannedOut L ys = L

-- the value of a join, from those of its parts
abbrev pub join_value : Join → Data → Data → Data
join_value InSequence y z = z
join_value InParallel y z = pair y z
join_value FannedOut y z = pair y z

-- What a switch watches: a process, whose values stand beside events; or a process beside a term that is given its inputs and
-- values and gives the events; or members, with their tables in the place of values.
pub data Watched : Type 0 where
  itself : Process → Watched
  observed : Process → (observer : Term) → Environment → Watched
  observed_members : Members → (observer : Term) → Environment → Watched

-- what takes over at an event, by the event's step, the life before it and the payload
abbrev pub Takeover : Type 0
Takeover = Step → Life → Data → Process

-- the body of a switch
abbrev pub body_of : Pattern → Term → Environment → Data → Process
body_of p u e v = closure u (bind p v e)

-- takes over alike, whenever the event comes
abbrev pub whenever : (Data → Process) → Takeover
whenever B s L = B

-- the body of a switch that keeps its source, frozen before the step of the event, under a name; the pattern hides it
abbrev pub continuing_body : Name → Process → Pattern → Term → Environment → Takeover
continuing_body k P p u e s L v = closure u (bind p v (running k (frozen P L (wait_of s)) e))

-- the same where what was kept are members, each frozen
abbrev pub body_with_members : Name → Members → Pattern → Term → Environment → Takeover
body_with_members k ms p u e s L v = closure u (bind p v (collected k (each_frozen ms L (wait_of s)) e))

-- Where a switch stands after a life: it waits for an event, or it had one, and what took over has lived M since.
pub data Standing : Type 0 where
  waits : Standing
  fired : Process → (M : Life) → Standing

-- where a switch that waited for the life L stands after a step at which there was this payload, if there was one
abbrev pub stands_after : Takeover → Step → Life → Option Data → Standing
stands_after B s L None = waits
stands_after B s L (Some v) = fired (B s L v) (s ∷ [])

-- the value at the step of an event: that of the body, or still that of what ran before
abbrev pub switched_value : Observation → Data → Data → Data
switched_value Immediate y z = z
switched_value Delayed y z = y

-- the payload of the event beside an input, if there is one
abbrev pub event_beside : Step → Option Data
event_beside s = occurring (second_of (input_of s))

-- one payload, or where there is none another
abbrev pub or_earlier : Option Data → Option Data → Option Data
or_earlier None q = q
or_earlier (Some v) q = Some v

-- the payload of the last event beside the inputs of a life, if there was one
abbrev pub last_event : Life → Option Data
last_event [] = None
last_event (s ∷ L) = or_earlier (event_beside s) (last_event L)

-- the steps before that are kept, where there is this payload: none of them, if there is one
abbrev pub kept_before : Option Data → Life → Life
kept_before None L = L
kept_before (Some v) L = []

-- the steps of a life from its last event on, or all where there was none
abbrev pub since_event : Life → Life
since_event [] = []
since_event (s ∷ L) = s ∷ kept_before (event_beside s) (since_event L)

-- what runs in a recurring switch where the last event had this payload: P before the first, and then what B makes of it
abbrev pub what_runs : Process → (Data → Process) → Option Data → Process
what_runs P B None = P
what_runs P B (Some v) = B v

-- the event that is looked at after an outcome: none after a fault
abbrev pub unless_faulted : Outcome → Option Data → Option Data
unless_faulted (gave y r) q = q
unless_faulted (faulted x) q = None

-- a step without the event beside its input
abbrev pub without_event : Step → Step
without_event s = step (wait_of s) (first_of (input_of s))

-- what an edit makes of members that have lived, at a step with a payload
abbrev pub Edit : Type 0
Edit = Life → Step → Members → Data → Evaluated Members

-- the edit of a collection in which a name stands for the members, each frozen before the step; the pattern hides it
abbrev pub edit_of : AnswersByName → Name → Pattern → Collection → Environment → Edit
edit_of φ k p i e L s ms v = collect φ i (bind p v (collected k (each_frozen ms L (wait_of s)) e))

-- what the members of an editing form live: the first parts of the inputs, since the last event
abbrev pub since_edit : Life → Life
since_edit L = with_inputs first_of (since_event L)

-- the members after a step: the same where there was no payload
abbrev pub edited : (Data → Evaluated Members) → Members → Option Data → Evaluated Members
edited f ms None = answer ms
edited f ms (Some v) = f v

-- the members that run after a life: those at its start, edited at each event
abbrev pub which_run : Edit → Members → Life → Evaluated Members
which_run E ms [] = answer ms
which_run E ms (s ∷ L) = which_run E ms L >>= λ qs. edited (E (since_edit L) s qs) qs (event_beside s)

-- ## The meaning

mutual
  -- The outcome at the newest step of a life and the cost of that step. Each proper prefix of the life gives a value.
  pub data Gives (n : Network) : Process → Life → Outcome → Cost → Type 0 where
    gives : {P : Process} {s : Step} {L : Life} {ys : List Data} {o : Outcome} {c : Cost}
        → Outputs n P L ys → Sample n P s L o c → Gives n P (s ∷ L) o c

  -- The values at the steps of a life, the newest first.
  pub data Outputs (n : Network) : Process → Life → List Data → Type 0 where
    not_begun : {P : Process} → Outputs n P [] []
    and_gave : {P : Process} {s : Step} {L : Life} {y : Data} {r : Readings} {ys : List Data} {c : Cost}
        → Outputs n P L ys → Sample n P s L (gave y r) c → Outputs n P (s ∷ L) (y ∷ ys)

  -- One step. Constants and arguments stand before the parts; their fault is the outcome of the first step, at which all terms
  -- in the text count, but for those in the form's own arguments.
  pub data Sample (n : Network) : Process → Step → Life → Outcome → Cost → Type 0 where
    of_constants : {t : Term} {e : Environment} {s : Step} {x : ValueFault}
        → make n t e (input_of s) ≡ failed x
        → Sample n (closure t e) s [] (faulted x) (entered_cost t)
    of_form : {t : Term} {e : Environment} {s : Step} {L : Life} {m : Made} {o : Outcome} {c : Cost}
        → make n t e (first_input s L) ≡ answer m
        → Form n t e m s L o c
        → Sample n (closure t e) s L o c
    -- a frozen process goes on
    of_resumed : {P : Process} {h : Life} {d : ℕ} {s : Step} {L : Life} {o : Outcome} {c : Cost}
        → Gives n P (after h d (s ∷ L)) o c
        → Sample n (resumed P h d) s L o c

  -- One step of each form, with what it was made with.
  pub data Form (n : Network) : Term → Environment → Made → Step → Life → Outcome → Cost → Type 0 where
    -- a primitive gives its formula, beside what it records
    of_primitive : {p : Primitive} {e : Environment} {m : Made} {s : Step} {L : Life} {o : Outcome}
        → as_outcome (formula p (scope_around n.functions e) s L) (recorded p s) ≡ o
        → Form n (primitive p) e m s L o one_term
    -- what is referred to stands in the place of a reference; its first step counts besides
    of_reference : {r : Reference} {e : Environment} {P : Process} {s : Step} {L : Life} {o : Outcome} {c : Cost}
        → Gives n P (s ∷ L) o c
        → Form n (reference r) e (process_made P) s L o (over_first L c)
    -- left before right, each on its own life
    of_join : {j : Join} {f g : Term} {e : Environment} {m : Made} {s : Step} {L : Life} {ys : List Data} {o o' : Outcome} {c c' : Cost}
        → Outputs n (closure f e) (left_life j L) ys
        → Gives n (closure f e) (left_life j (s ∷ L)) o c
        → Next n o g e (right_life j (s ∷ L) (outcome_value o ∷ ys)) o' c'
        → Form n (joined j f g) e m s L (combined (join_value j) o o') (over (both_costs c c'))
    -- one side goes through the part, the other is passed
    of_side : {d : Side} {t : Term} {e : Environment} {m : Made} {s : Step} {L : Life} {o : Outcome} {c : Cost}
        → Gives n (closure t e) (with_inputs (side_of d) (s ∷ L)) o c
        → Form n (sided d t) e m s L (changed (side_replaced d (input_of s)) o) (over c)
    -- `loopPre`: the second part of the output is the second part of the input one step later
    of_loop : {i : Expression} {t : Term} {e : Environment} {v : Data} {s : Step} {L : Life} {zs : List Data} {o : Outcome} {c : Cost}
        → Loops n v (closure t e) L zs
        → Gives n (closure t e) (fed v (s ∷ L) zs) o c
        → Form n (headed LoopPre i t) e (value_made v) s L (changed first_of o) (over c)
    -- `-->`: the constant at the first step, then the part's values; the part is stepped at the first step too
    of_initialized : {i : Expression} {t : Term} {e : Environment} {v : Data} {s : Step} {L : Life} {o : Outcome} {c : Cost}
        → Gives n (closure t e) (s ∷ L) o c
        → Form n (headed Initialized i t) e (value_made v) s L (changed (at_first L v) o) (over c)
    -- `>--`: the part's values, where the constant stands in the place of its first input
    of_replaced : {i : Expression} {t : Term} {e : Environment} {v : Data} {s : Step} {L : Life} {o : Outcome} {c : Cost}
        → Gives n (closure t e) (first_replaced v (s ∷ L)) o c
        → Form n (headed Replaced i t) e (value_made v) s L o (over c)
    -- `fby`: the part's value of the step before; at the first step the constant, which comes after the part
    of_followed : {i : Expression} {t : Term} {e : Environment} {m : Made} {s : Step} {L : Life} {ys : List Data} {o : Outcome} {c : Cost}
        → Outputs n (closure t e) L ys
        → Gives n (closure t e) (s ∷ L) o c
        → Form n (headed Followed i t) e m s L (answered_by (newest_or (eval i (scope_around n.functions e)) ys) o) (over c)
    -- `>=-`: the part's values, where what the function made of its first input stands in the place of that input
    of_transformed : {f : Function} {t : Term} {e : Environment} {v : Data} {s : Step} {L : Life} {o : Outcome} {c : Cost}
        → Gives n (closure t e) (first_replaced v (s ∷ L)) o c
        → Form n (transformed f t) e (value_made v) s L o (over c)
    -- a switch gives what its standing says
    of_switch : {w : Observation} {t u : Term} {p : Pattern} {e : Environment} {m : Made} {s : Step} {L : Life} {st : Standing} {o : Outcome} {c : Cost}
        → Since n (itself (closure t e)) (whenever (body_of p u e)) L st
        → SwitchTurn n w (itself (closure t e)) (whenever (body_of p u e)) s L st o c
        → Form n (switching (Basic w) t p u) e m s L o c
    -- a recurring switch: what runs lives the first parts of the inputs since the last event, through an event too; there the
    -- body begins, on that step alone
    of_recurring : {w : Observation} {t u : Term} {p : Pattern} {e : Environment} {m : Made} {s : Step} {L : Life} {o o' : Outcome} {c c' : Cost}
        → Gives n (what_runs (closure t e) (body_of p u e) (last_event L)) (with_inputs first_of (s ∷ since_event L)) o c
        → Fires n w (body_of p u e) (without_event s) o (unless_faulted o (event_beside s)) o' c'
        → Form n (switching (Recurring w) t p u) e m s L o' (over (both_costs c c'))
    -- a switch that keeps its source, under an observer
    of_continuing : {w : Observation} {t q u : Term} {k : Name} {p : Pattern} {e : Environment} {m : Made} {s : Step} {L : Life} {st : Standing} {o : Outcome} {c : Cost}
        → Since n (observed (closure t e) q e) (continuing_body k (closure t e) p u e) L st
        → SwitchTurn n w (observed (closure t e) q e) (continuing_body k (closure t e) p u e) s L st o c
        → Form n (continuing w t q k p u) e m s L o c
    -- the members of a collection
    of_gathered : {i : Collection} {e : Environment} {ms : Members} {s : Step} {L : Life} {o : Outcome} {c : Cost}
        → Each n ms s L o c
        → Form n (gathered i) e (members_made ms) s L o (over c)
    -- members that are kept, under an observer
    of_releasing : {w : Observation} {i : Collection} {q u : Term} {k : Name} {p : Pattern} {e : Environment} {ms : Members} {s : Step} {L : Life} {st : Standing} {o : Outcome} {c : Cost}
        → Since n (observed_members ms q e) (body_with_members k ms p u e) L st
        → SwitchTurn n w (observed_members ms q e) (body_with_members k ms p u e) s L st o c
        → Form n (releasing w i q k p u) e (members_made ms) s L o c
    -- members that are edited at each event: those that ran are stepped, through an event too; there the edit stands after them,
    -- and its members begin on that step alone
    of_editing : {w : Observation} {i u : Collection} {k : Name} {p : Pattern} {e : Environment} {ms qs : Members} {s : Step} {L : Life} {o o' : Outcome} {c c' : Cost}
        → which_run (edit_of n.functions k p u e) ms L ≡ answer qs
        → Each n qs (without_event s) (since_edit L) o c
        → Edited n w (option_map (edit_of n.functions k p u e (since_edit L) s qs) (unless_faulted o (event_beside s))) (without_event s) o o' c'
        → Form n (editing w i k p u) e (members_made ms) s L o' (over (both_costs c c'))
    -- a stage before the others: they live on its values
    of_stages : {x : Extent} {f g : Term} {e : Environment} {m : Made} {s : Step} {L : Life} {ys : List Data} {o o' : Outcome} {c c' : Cost}
        → Outputs n (closure f e) L ys
        → Gives n (closure f e) (s ∷ L) o c
        → Next n o g e (relay (s ∷ L) (outcome_value o ∷ ys)) o' c'
        → Form n (staged x f g) e m s L (combined (join_value InSequence) o o') (over_stages x (both_costs c c'))

  -- The part that stands next. After a fault it isn't stepped, and the terms in its text count.
  pub data Next (n : Network) : Outcome → Term → Environment → Life → Outcome → Cost → Type 0 where
    goes_on : {t : Term} {e : Environment} {L : Life} {y : Data} {r : Readings} {o : Outcome} {c : Cost}
        → Gives n (closure t e) L o c
        → Next n (gave y r) t e L o c
    stops : {t : Term} {e : Environment} {L : Life} {x : ValueFault}
        → Next n (faulted x) t e L (faulted x) (text_cost t)

  -- The values of a part that is fed with the second parts of its own values, and at first with v.
  pub data Loops (n : Network) : Data → Process → Life → List Data → Type 0 where
    no_loop : {v : Data} {P : Process} → Loops n v P [] []
    and_looped : {v : Data} {P : Process} {s : Step} {L : Life} {z : Data} {r : Readings} {zs : List Data} {c : Cost}
        → Loops n v P L zs
        → Gives n P (fed v (s ∷ L) zs) (gave z r) c
        → Loops n v P (s ∷ L) (z ∷ zs)

  -- What a switch sees at a step: a value beside an event, if there is one. An observer is given the inputs beside the values.
  pub data Sees (n : Network) : Watched → Step → Life → Outcome → Cost → Type 0 where
    beside_values : {P : Process} {s : Step} {L : Life} {o : Outcome} {c : Cost}
        → Gives n P (s ∷ L) o c
        → Sees n (itself P) s L o c
    by_observer : {P : Process} {q : Term} {e : Environment} {s : Step} {L : Life} {ys : List Data} {o o' : Outcome} {c c' : Cost}
        → Outputs n P L ys
        → Gives n P (s ∷ L) o c
        → Next n o q e (observed_life (s ∷ L) (outcome_value o ∷ ys)) o' c'
        → Sees n (observed P q e) s L (combined pair o o') (both_costs c c')
    by_members_observer : {ms : Members} {q : Term} {e : Environment} {s : Step} {L : Life} {ys : List Data} {o o' : Outcome} {c c' : Cost}
        → Tables n ms L ys
        → Each n ms s L o c
        → Next n o q e (observed_life (s ∷ L) (outcome_value o ∷ ys)) o' c'
        → Sees n (observed_members ms q e) s L (combined pair o o') (both_costs c c')

  -- Where a switch stands after a life of what it watches, where B takes over.
  pub data Since (n : Network) : Watched → Takeover → Life → Standing → Type 0 where
    at_start : {W : Watched} {B : Takeover} → Since n W B [] waits
    watched : {W : Watched} {B : Takeover} {s : Step} {L : Life} {y : Data} {r : Readings} {c : Cost} {st : Standing}
        → Since n W B L waits
        → Sees n W s L (gave y r) c
        → stands_after B s L (occurring (second_of y)) ≡ st
        → Since n W B (s ∷ L) st
    had_fired : {W : Watched} {B : Takeover} {s : Step} {L M : Life} {Q : Process}
        → Since n W B L (fired Q M)
        → Since n W B (s ∷ L) (fired Q (s ∷ M))

  -- A switch's next step. Once it has fired it counts nothing, and what took over stands in its place.
  pub data SwitchTurn (n : Network) : Observation → Watched → Takeover → Step → Life → Standing → Outcome → Cost → Type 0 where
    while_waiting : {w : Observation} {W : Watched} {B : Takeover} {s : Step} {L : Life} {o o' : Outcome} {c c' : Cost}
        → Sees n W s L o c
        → Switched n w (B s L) s o o' c'
        → SwitchTurn n w W B s L waits o' (over (both_costs c c'))
    as_body : {w : Observation} {W : Watched} {B : Takeover} {s : Step} {L M : Life} {Q : Process} {o : Outcome} {c : Cost}
        → Gives n Q (s ∷ M) o c
        → SwitchTurn n w W B s L (fired Q M) o c

  -- What comes after what a switch sees: nothing after a fault, else what comes of the payload beside the value.
  pub data Switched (n : Network) : Observation → (Data → Process) → Step → Outcome → Outcome → Cost → Type 0 where
    after_fault : {w : Observation} {B : Data → Process} {s : Step} {x : ValueFault} → Switched n w B s (faulted x) (faulted x) no_cost
    after_value : {w : Observation} {B : Data → Process} {s : Step} {y : Data} {r : Readings} {o : Outcome} {c : Cost}
        → Fires n w B s (gave (first_of y) r) (occurring (second_of y)) o c
        → Switched n w B s (gave y r) o c

  -- Without a payload the source's outcome stays; with one the body lives from this step on.
  pub data Fires (n : Network) : Observation → (Data → Process) → Step → Outcome → Option Data → Outcome → Cost → Type 0 where
    no_event_yet : {w : Observation} {B : Data → Process} {s : Step} {o : Outcome} → Fires n w B s o None o no_cost
    event_now : {w : Observation} {B : Data → Process} {s : Step} {o o' : Outcome} {v : Data} {c : Cost}
        → Gives n (B v) (s ∷ []) o' c
        → Fires n w B s o (Some v) (combined (switched_value w) o o') c

  -- The tables of members at the steps of a life, the newest first.
  pub data Tables (n : Network) : Members → Life → List Data → Type 0 where
    no_tables : {ms : Members} → Tables n ms [] []
    and_table : {ms : Members} {s : Step} {L : Life} {y : Data} {r : Readings} {ys : List Data} {c : Cost}
        → Tables n ms L ys → Each n ms s L (gave y r) c → Tables n ms (s ∷ L) (y ∷ ys)

  -- One step of members, in order: a table of their values, or the first fault.
  pub data Each (n : Network) : Members → Step → Life → Outcome → Cost → Type 0 where
    no_more : {s : Step} {L : Life} → Each n no_members s L (gave (table no_rows) []) no_cost
    one_more : {k : KeyData} {P : Process} {ms : Members} {s : Step} {L : Life} {o o' : Outcome} {c c' : Cost}
        → Gives n P (s ∷ L) o c
        → Others n o ms s L o' c'
        → Each n (member k P ms) s L (combined (leading_row k) o o') (both_costs c c')

  -- The members after one. After a fault they aren't stepped.
  pub data Others (n : Network) : Outcome → Members → Step → Life → Outcome → Cost → Type 0 where
    others_go_on : {ms : Members} {s : Step} {L : Life} {y : Data} {r : Readings} {o : Outcome} {c : Cost}
        → Each n ms s L o c
        → Others n (gave y r) ms s L o c
    others_stop : {ms : Members} {s : Step} {L : Life} {x : ValueFault} → Others n (faulted x) ms s L (faulted x) no_cost

  -- Without an edit the outcome stays; its fault is the outcome; and the members that it makes live from this step on.
  pub data Edited (n : Network) : Observation → Option (Evaluated Members) → Step → Outcome → Outcome → Cost → Type 0 where
    no_edit : {w : Observation} {s : Step} {o : Outcome} → Edited n w None s o o no_cost
    edit_failed : {w : Observation} {s : Step} {o : Outcome} {x : ValueFault} → Edited n w (Some (failed x)) s o (faulted x) no_cost
    edit_now : {w : Observation} {s : Step} {o o' : Outcome} {ms : Members} {c : Cost}
        → Each n ms s [] o' c
        → Edited n w (Some (answer ms)) s o (combined (switched_value w) o o') c
