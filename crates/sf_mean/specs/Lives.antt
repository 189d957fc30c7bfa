-- Lives and processes.
use Rattle.std.specs.Prelude.{ℕ, ◌+◌, ◌≤◌, List, [], ◌∷◌, ⊤, cond, bytes_eq}
use Rattle.sf_value.specs.Values.{Name, KeyData, Data, pair, first_of, second_of}
use Rattle.sf_func.specs.Registries.{AnswersByName}
use Rattle.sf_term.specs.declared.form.Bare.TheVariants.{Identity}
use Rattle.sf_term.specs.declared.form.Start.{Start}
use Rattle.sf_term.specs.declared.form.Start.TheVariants.{Run, Fresh}
use Rattle.sf_term.specs.Trees.{bare, Term, primitive}
use Rattle.sf_expr.specs.Expressions.{Pattern, unnamed, named, both}
use Rattle.sf_expr.specs.Evaluation.{Scope, no_names, value_name, other_name}

-- A step: the time since the step before, and the input. The time of the first step isn't looked at.
pub data Step : Type 0 where
  step : ℕ → Data → Step

-- the time since the step before
abbrev pub wait_of : Step → ℕ
wait_of (step d x) = d

-- the input
abbrev pub input_of : Step → Data
input_of (step d x) = x

-- A life is a list of steps, the newest first.
abbrev pub Life : Type 0
Life = List Step

-- the time that has passed since the first step
abbrev pub time : Life → ℕ
time [] = 0
time (s ∷ []) = 0
time (s ∷ r ∷ L) = time (r ∷ L) + wait_of s

-- each step but the first stands 1 to 3,600,000 milliseconds after the one before
abbrev pub HasWaits : Life → Type 0
HasWaits [] = ⊤
HasWaits (s ∷ []) = ⊤
HasWaits (s ∷ r ∷ L) = (1 ≤ wait_of s) × (wait_of s ≤ 3600000) × HasWaits (r ∷ L)

-- the bounds of lives
pub record IsLife (L : Life) : Type 0 where
  pub waits : HasWaits L
  pub lasts : time L ≤ 4000000000000000

mutual
  -- A process: a term with the names around it; or a frozen one, which has lived h and goes on d milliseconds after it.
  pub data Process : Type 0 where
    closure : Term → Environment → Process
    resumed : Process → (h : Life) → (d : ℕ) → Process

  -- What names stand for, the innermost first: values, processes, and the members of collections.
  pub data Environment : Type 0 where
    empty : Environment
    known : Name → Data → Environment → Environment
    running : Name → Process → Environment → Environment
    collected : Name → Members → Environment → Environment

  -- The members of a collection: processes under keys, in order.
  pub data Members : Type 0 where
    no_members : Members
    member : KeyData → Process → Members → Members

-- the scope of expressions, where functions answer this
abbrev pub scope_around : AnswersByName → Environment → Scope
scope_around f empty = no_names f
scope_around f (known x d e) = value_name x d (scope_around f e)
scope_around f (running x P e) = other_name x (scope_around f e)
scope_around f (collected x ms e) = other_name x (scope_around f e)

-- what gives its inputs
abbrev pub passing : Process
passing = closure (primitive (bare Identity)) empty

-- the process of a name; what no process stands for passes its inputs on
abbrev pub process_of : Name → Environment → Process
process_of x empty = passing
process_of x (known y d e) = cond (bytes_eq x y) passing (process_of x e)
process_of x (running y P e) = cond (bytes_eq x y) P (process_of x e)
process_of x (collected y ms e) = cond (bytes_eq x y) passing (process_of x e)

-- the members of a name; what no collection stands for has none
abbrev pub members_of : Name → Environment → Members
members_of x empty = no_members
members_of x (known y d e) = cond (bytes_eq x y) no_members (members_of x e)
members_of x (running y P e) = cond (bytes_eq x y) no_members (members_of x e)
members_of x (collected y ms e) = cond (bytes_eq x y) ms (members_of x e)

-- where a process began: a frozen one where what was frozen did
abbrev pub base : Process → Process
base (closure t e) = closure t e
base (resumed P h d) = base P

-- the process of a name where it stood, or where it began
abbrev pub process_started : Start → Name → Environment → Process
process_started Run x e = process_of x e
process_started Fresh x e = base (process_of x e)

-- the environment inside a pattern that a value was bound to
abbrev pub bind : Pattern → Data → Environment → Environment
bind unnamed d e = e
bind (named x) d e = known x d e
bind (both p q) d e = bind q (second_of d) (bind p (first_of d) e)

-- a life that goes on after h, its first step in the time d
abbrev pub after : Life → ℕ → Life → Life
after h d [] = h
after h d (s ∷ []) = step d (input_of s) ∷ h
after h d (s ∷ r ∷ L) = s ∷ after h d (r ∷ L)

-- what a process is once it has lived: frozen, to go on in the time d; itself, where it hasn't lived
abbrev pub frozen : Process → Life → ℕ → Process
frozen P [] d = P
frozen P (s ∷ L) d = resumed P (s ∷ L) d

-- members that have lived together, each frozen
abbrev pub each_frozen : Members → Life → ℕ → Members
each_frozen no_members L d = no_members
each_frozen (member k P ms) L d = member k (frozen P L d) (each_frozen ms L d)

-- the same times, with another input made of each
abbrev pub with_inputs : (Data → Data) → Life → Life
with_inputs f [] = []
with_inputs f (s ∷ L) = step (wait_of s) (f (input_of s)) ∷ with_inputs f L

-- the same times, with these inputs
abbrev pub relay : Life → List Data → Life
relay [] ys = []
relay (s ∷ L) [] = []
relay (s ∷ L) (y ∷ ys) = step (wait_of s) y ∷ relay L ys

-- the same times, each input beside one of these values
abbrev pub observed_life : Life → List Data → Life
observed_life [] ys = []
observed_life (s ∷ L) [] = []
observed_life (s ∷ L) (y ∷ ys) = step (wait_of s) (pair (input_of s) y) ∷ observed_life L ys

-- the input of the first step, where s stands after L
abbrev pub first_input : Step → Life → Data
first_input s [] = input_of s
first_input s (r ∷ L) = first_input r L

-- what a part is fed with next, where it gave the values zs: the second part of the newest, or v before the first
abbrev pub fed_back : Data → List Data → Data
fed_back v [] = v
fed_back v (z ∷ zs) = second_of z

-- the values without the newest
abbrev pub older : List Data → List Data
older [] = []
older (z ∷ zs) = zs

-- each input beside the second part of the value before, or beside v at the first step
abbrev pub fed : Data → Life → List Data → Life
fed v [] zs = []
fed v (s ∷ L) zs = step (wait_of s) (pair (input_of s) (fed_back v zs)) ∷ fed v L (older zs)
