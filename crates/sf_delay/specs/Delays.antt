-- What delay lines keep of their lives.
use Rattle.std.specs.Prelude.{◌≡◌, ℕ, ◌+◌, ◌-◌, ◌<◌, nat_le, List, [], ◌∷◌, ◌++◌, ⊤, cond, ℤ, Option, Some, None}
use Rattle.std.specs.List.{sum_by}
use Rattle.sf_value.specs.Values.{Data}
use Rattle.sf_mean.specs.Lives.{Life, time}
use Rattle.sf_mean.specs.Formulas.{aged, span}
use Rattle.sf_delay.specs.Lately.{has_steps, waited}
use Rattle.sf_delay.specs.declared.line.Line.{Line}
use Rattle.sf_delay.specs.declared.queue.Pending.{Pending}
use Rattle.sf_delay.specs.Queues.{kept_shared}

-- the inputs after the value that a line holds, the oldest first
abbrev pub waiting : Line → List Pending
waiting l = kept_shared l.shared ++ l.young.items

-- The value whose turn it is so long after that of v, where the turns of these samples come after v's.
abbrev pub value_after : Data → List Pending → ℕ → Data
value_after v [] t = v
value_after v (r ∷ rs) t = cond (nat_le r.after t) (value_after r.value rs (t - r.after)) v

-- how long after the turn before them the last of these samples has its turn
abbrev pub whole_wait : List Pending → ℕ
whole_wait rs = sum_by (λ r. r.after) rs

-- the turn of the first of these samples is still to come, so long after the one before
abbrev pub IsToCome : ℕ → List Pending → Type 0
IsToCome t [] = ⊤
IsToCome t (r ∷ rs) = t < r.after

-- how long it is until the first of these samples has its turn, if there is one
abbrev pub next_wait : ℕ → List Pending → Option ℕ
next_wait t [] = None
next_wait t (r ∷ rs) = Some (r.after - t)

-- A sample has its turn in a line, which keeps these of its own: it is held, and what has passed beyond it.
pub record TakesTurn (old : Line) (r : Pending) (own : List Pending) (new : Line) : Type 0 where
  pub delay : new.delay ≡ old.delay
  pub begun : new.begun ≡ old.begun
  pub held : new.held ≡ r.value
  pub shared : new.shared ≡ old.shared
  pub young : new.young.items ≡ own
  pub passed : new.passed ≡ old.passed - r.after

-- Where so much time passes at a line, it gives later what it would have given; its last sample has its turn as late.
pub record PassesOn (old : Line) (time : ℕ) (new : Line) (left : ℕ) : Type 0 where
  pub delay : new.delay ≡ old.delay
  pub begun : new.begun ≡ old.begun
  pub gives : (w : ℕ) → value_after new.held (waiting new) (new.passed + left + w) ≡ value_after old.held (waiting old) (old.passed + time + w)
  pub newest : (q : ℕ) → whole_wait (waiting old) ≡ old.passed + time + q → whole_wait (waiting new) ≡ new.passed + left + q

-- A line keeps what `delay` needs of a life, with a time and the value before any input has its turn: it gives, at any time
-- after the newest step, the newest input that is old enough then. No sample that it keeps is old enough yet.
pub record Delays (l : Line) (q : ℤ) (v : Data) (L : Life) : Type 0 where
  pub delay : l.delay ≡ span q
  pub begun : l.begun ≡ has_steps L
  pub gives : (w : ℕ) → value_after l.held (waiting l) (l.passed + w) ≡ aged (span q) v (time L + w) L
  pub to_come : IsToCome l.passed (waiting l)
  pub newest : whole_wait (waiting l) ≡ l.passed + waited l.begun l.delay
