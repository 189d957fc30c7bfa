-- Parts that are stepped one after another.
use Rattle.std.proofs.Common.{◌≡◌, ℕ, ◌+◌, ◌≤◌, ◌++◌, Result, Ok, Err, refl, sym, ap, ◌∙◌, subst, append_assoc, arith, ◌⊎◌, inl, inr, Option}
use Rattle.std.specs.Prelude.{IsErr}
use Rattle.std.specs.Option.{option_map}
use Rattle.std.specs.declared.rc.Rc.{Rc}
use Rattle.std.specs.declared.alloc.Global.{Global}
use Rattle.sf_value.specs.Values.{Data, unit, first_of, second_of}
use Rattle.sf_value.specs.declared.value.Value.{Value}
use Rattle.sf_value.specs.declared.value.Pair.{Pair}
use Rattle.sf_value.specs.declared.fault.ValueFault.{ValueFault}
use Rattle.sf_value.specs.declared.fault.Fault.{Fault}
use Rattle.sf_value.specs.declared.fault.Fault.TheVariants.{Memory}
use Rattle.sf_expr.specs.Evaluation.{Evaluated}
use Rattle.sf_mean.specs.Formulas.{occurring}
use Rattle.sf_mean.specs.Meaning.{Readings, Outcome, gave, faulted, answered_by, combined, outcome_value, Cost, count, height, both_costs, over}
use Rattle.sf_meter.specs.declared.meter.Meter.{Meter}
use Rattle.sf_meter.specs.declared.meter.Stop.{Stop}
use Rattle.sf_meter.specs.Meters.{entered_of, meter_height, meter_fault, readings, Ticks, left_or}
use Rattle.sf_state.specs.declared.env.Payload.{Payload}
use Rattle.sf_state.specs.Names.{bound_value}
use Rattle.sf_state.specs.declared.state.State.{State}
use Rattle.sf_step.specs.Answering.{Rel, Spent, AtMost, Within, StopsFor, faults, large, memory, Answers, answers, fails, left_apart, left_split, left_valued, whole_of}
use Rattle.sf_step.specs.Sampling.{GivesApart, apart, stopped, TakenApart, halved, not_granted}

-- one outcome at most
pub data Single (R : Rel) : Type 0 where
  single : ((a b : Outcome) (j k : Cost) → R a j → R b k → (a ≡ b) × (j ≡ k)) → Single R

-- a term that counts
pub data Over (R : Rel) : Outcome → Cost → Type 0 where
  counted : {o : Outcome} {k : Cost} → R o k → Over R o (over k)

-- one part and then another; after a fault the other isn't stepped, and its text costs this
pub data Then (R : Rel) (f : Data → Data → Data) (stop : Cost) (S : Data → Rel) : Outcome → Cost → Type 0 where
  then_on : {y : Data} {r : Readings} {o : Outcome} {k l : Cost} → R (gave y r) k → S y o l → Then R f stop S (combined f (gave y r) o) (both_costs k l)
  then_stop : {x : ValueFault} {k : Cost} → R (faulted x) k → Then R f stop S (faulted x) (both_costs k stop)

-- a part, with what is made of its value: another one, or a fault
pub data Changed (f : Data → Evaluated Data) (R : Rel) : Outcome → Cost → Type 0 where
  with_change : {o : Outcome} {k : Cost} → R o k → Changed f R (answered_by (f (outcome_value o)) o) k

-- the two relations have the same outcomes
pub record Alike (R S : Rel) : Type 0 where
  pub to : (o : Outcome) (k : Cost) → R o k → S o k
  pub back : (o : Outcome) (k : Cost) → S o k → R o k

-- ## Costs

-- what a term costs, from what its parts cost
pub over_spent : {m n n' : Meter} {depth inside : ℕ} {k : Cost} {r : Readings} → Ticks m n depth inside → Spent n n' inside k r → Spent m n' depth (over k) r
over_spent {r = r} t s = record { entered = let a = t.entered in let b = s.entered in omega arith; high = let a = t.high in let b = s.high in let c = t.below in omega arith; recorded = s.recorded ∙ ap (λ l. l ++ r) t.recorded }

-- two parts
pub both_spent : {m n n' : Meter} {depth : ℕ} {k l : Cost} {r q : Readings} → Spent m n depth k r → Spent n n' depth l q → Spent m n' depth (both_costs k l) (r ++ q)
both_spent {m = m} {r = r} {q = q} s s' = record {
  entered = let a = s.entered in let b = s'.entered in omega arith;
  high = let a = s.high in let b = s'.high in omega arith;
  recorded = s'.recorded ∙ ap (λ l. l ++ q) s.recorded ∙ append_assoc (readings m) r q;
}

-- ## What is counted without a value

pub over_most : {m n n' : Meter} {depth inside : ℕ} {k : Cost} → Ticks m n depth inside → AtMost n n' inside k → AtMost m n' depth (over k)
over_most t s = record { entered = let a = t.entered in let b = s.entered in omega arith; high = let a = t.high in let b = s.high in let c = t.below in omega arith }

-- the first of two parts
first_most : {m n : Meter} {depth : ℕ} {k : Cost} (l : Cost) → AtMost m n depth k → AtMost m n depth (both_costs k l)
first_most l s = record { entered = let a = s.entered in omega arith; high = let a = s.high in omega arith }

-- both parts, of which the first gave a value
both_most : {m n n' : Meter} {depth : ℕ} {k l : Cost} {r : Readings} → Spent m n depth k r → AtMost n n' depth l → AtMost m n' depth (both_costs k l)
both_most s s' = record { entered = let a = s.entered in let b = s'.entered in omega arith; high = let a = s.high in let b = s'.high in omega arith }

pub alike_within : {R S : Rel} {m n : Meter} {depth : ℕ} → Alike R S → Within R m n depth → Within S m n depth
alike_within a w = record { most = λ o k G. w.most o k (a.back o k G) }

pub over_within : {R : Rel} {m n n' : Meter} {depth inside : ℕ} → Ticks m n depth inside → Within R n n' inside → Within (Over R) m n' depth
over_within {R = R} {m = m} {n' = n'} {depth = depth} t w = record { most = go }
  where
    go : (o : Outcome) (k : Cost) → Over R o k → AtMost m n' depth k
    go o k (counted G) = over_most t (w.most _ _ G)

change_within : {R : Rel} {g : Data → Evaluated Data} {m n : Meter} {depth : ℕ} → Within R m n depth → Within (Changed g R) m n depth
change_within {R = R} {g = g} {m = m} {n = n} {depth = depth} w = record { most = go }
  where
    go : (o : Outcome) (k : Cost) → Changed g R o k → AtMost m n depth k
    go o k (with_change G) = w.most _ _ G

pub then_within : {R : Rel} {g : Data → Data → Data} {stop : Cost} {S : Data → Rel} {m n : Meter} {depth : ℕ} → Within R m n depth → Within (Then R g stop S) m n depth
then_within {R = R} {g = g} {stop = stop} {S = S} {m = m} {n = n} {depth = depth} w = record { most = go }
  where
    go : (o : Outcome) (k : Cost) → Then R g stop S o k → AtMost m n depth k
    go o k (then_on {l = l} G H) = first_most l (w.most _ _ G)
    go o k (then_stop G) = first_most stop (w.most _ _ G)

-- ## Failures

pub fails_alike : {R S : Rel} {f : Fault} {m n : Meter} {depth : ℕ} → Alike R S → StopsFor R f m n depth → StopsFor S f m n depth
fails_alike a (faults G s) = faults (a.to _ _ G) s
fails_alike a (large h w) = large (λ o k G. h o k (a.back o k G)) (alike_within a w)
fails_alike a (memory w) = memory (alike_within a w)

-- a term that counts, whose parts fail
pub over_fails : {R : Rel} {f : Fault} {m n n' : Meter} {depth inside : ℕ} → Ticks m n depth inside → StopsFor R f n n' inside → StopsFor (Over R) f m n' depth
over_fails t (faults G s) = faults (counted G) (over_most t s)
over_fails {R} {f} {m} {n} {n'} {depth} {inside} t (large h w) = large go (over_within t w)
  where
    go : (o : Outcome) (k : Cost) → Over R o k → entered_of m + count k ≤ 1000000 → depth + height k ≤ 1600 → ⊥
    go o k (counted G) a b = h _ _ G (let c = t.entered in omega arith) (let c = t.below in omega arith)
over_fails t (memory w) = memory (over_within t w)

-- a part fails, and there is no value to change
pub change_fails : {R : Rel} {g : Data → Evaluated Data} {f : Fault} {m n : Meter} {depth : ℕ} → StopsFor R f m n depth → StopsFor (Changed g R) f m n depth
change_fails (faults G s) = faults (with_change G) s
change_fails {R} {g} {f} {m} {n} {depth} (large h w) = large go (change_within w)
  where
    go : (o : Outcome) (k : Cost) → Changed g R o k → entered_of m + count k ≤ 1000000 → depth + height k ≤ 1600 → ⊥
    go o k (with_change G) a b = h _ _ G a b
change_fails (memory w) = memory (change_within w)

-- the first part fails
pub then_fails : {R : Rel} {g : Data → Data → Data} {stop : Cost} {S : Data → Rel} {f : Fault} {m n : Meter} {depth : ℕ} → StopsFor R f m n depth → StopsFor (Then R g stop S) f m n depth
then_fails {stop = stop} (faults G s) = faults (then_stop G) (first_most stop s)
then_fails {R} {g} {stop} {S} {f} {m} {n} {depth} (large h w) = large go (then_within w)
  where
    go : (o : Outcome) (k : Cost) → Then R g stop S o k → entered_of m + count k ≤ 1000000 → depth + height k ≤ 1600 → ⊥
    go o k (then_on G H) a b = h _ _ G (omega arith) (omega arith)
    go o k (then_stop G) a b = h _ _ G (omega arith) (omega arith)
then_fails (memory w) = memory (then_within w)

pub same_once : {R : Rel} {a b : Outcome} {j k : Cost} → Single R → R a j → R b k → (a ≡ b) × (j ≡ k)
same_once (single f) G H = f _ _ _ _ G H

-- the first part gives a value, and the other one fails
module _ {R : Rel} {g : Data → Data → Data} {stop : Cost} (S : Data → Rel) {y : Data} {r : Readings} {k1 : Cost} (u : Single R) (G-one : R (gave y r) k1) where
  rest_within : {m n n' : Meter} {depth : ℕ} → Spent m n depth k1 r → Within (S y) n n' depth → Within (Then R g stop S) m n' depth
  rest_within {m} {n} {n'} {depth} s w = record { most = go }
    where
      go : (o : Outcome) (k : Cost) → Then R g stop S o k → AtMost m n' depth k
      go o k (then_on {y = z} {o = o'} {k = k'} {l = l} G H) =
          let e = same_once u G G-one in
          subst (λ (k : Cost). AtMost m n' depth (both_costs k l)) (sym e.1) (both_most s (w.most o' l (subst (λ v. S v o' l) (ap outcome_value e.0) H)))
      go o k (then_stop G) = let e = (same_once u G G-one).0 in cc

  pub rest_fails : {f : Fault} {m n n' : Meter} {depth : ℕ} → Spent m n depth k1 r → StopsFor (S y) f n n' depth → StopsFor (Then R g stop S) f m n' depth
  rest_fails s (faults G b) = faults (then_on G-one G) (both_most s b)
  rest_fails {f} {m} {n} {n'} {depth} s (large h w) = large go (rest_within s w)
    where
      go : (o : Outcome) (k : Cost) → Then R g stop S o k → entered_of m + count k ≤ 1000000 → depth + height k ≤ 1600 → ⊥
      go o k (then_on {y = z} {o = o'} {l = l} G H) a b =
          let e = same_once u G G-one in
          let c = ap count e.1 in let d = ap height e.1 in let i = s.entered in
          h o' l (subst (λ v. S v o' l) (ap outcome_value e.0) H) (omega arith) (omega arith)
      go o k (then_stop G) a b = let e = (same_once u G G-one).0 in cc
  rest_fails s (memory w) = memory (rest_within s w)

-- a value's cost is the one that there is, also where no more is counted after it
pub spent_within : {R : Rel} {o : Outcome} {k : Cost} {r : Readings} {m n n' : Meter} {depth : ℕ} → Single R → R o k → Spent m n depth k r → entered_of n' ≡ entered_of n → meter_height n' ≡ meter_height n → Within R m n' depth
spent_within {m = m} {n' = n'} {depth = depth} u G s en hn =
    let c = s.entered in let d = s.high in
    record { most = λ p l H. subst (λ (k : Cost). AtMost m n' depth k) (sym (same_once u H G).1) (record { entered = omega arith; high = omega arith }) }

-- ## Exits

-- a value, at its cost
pub record Answered {A : Type 0} (view : A → Data) (after : A → Type 0) (R : Rel) (a : A) (m n : Meter) (depth : ℕ) : Type 0 where
  pub k : Cost
  pub r : Readings
  pub given : R (gave (view a) r) k
  pub spent : Spent m n depth k r
  pub holds : after a

pub answered : {A : Type 0} {view : A → Data} {after : A → Type 0} {R : Rel} {a : A} {m n : Meter} {depth : ℕ} → Answers view after R (Ok a) m n depth → Answered view after R a m n depth
answered (answers G s h) = record { k = _; r = _; given = G; spent = s; holds = h }

-- an error is a failure
pub failed : {A : Type 0} {view : A → Data} {after : A → Type 0} {R : Rel} {f : Fault} {m n : Meter} {depth : ℕ} → Answers view after R (Err f) m n depth → StopsFor R f m n depth
failed (fails h) = h

-- a `?` that passes a failure on
pub pass_exit : {A B E : Type 0} {view : B → Data} {after : B → Type 0} {R : Rel} {m n : Meter} {depth : ℕ} {f : Fault} (r : Result A E) (b : B) → IsErr r → StopsFor R f m n depth → Answers view after R (left_or r b f) m n depth
pass_exit (Ok a) b e h = absurd cc
pass_exit (Err q) b e h = fails h

-- the same where two values are not yet a pair
pub pass_apart : {A E : Type 0} {view : A × Data → Data} {after : A × Data → Type 0} {R : Rel} {m n : Meter} {depth : ℕ} {f : Fault} (r : Result Data E) (a : A) (y : Data) → IsErr r → StopsFor R f m n depth → Answers view after R (left_apart r a y f) m n depth
pass_apart (Ok x) a y e h = absurd cc
pass_apart (Err q) a y e h = fails h

-- the same where a value may stand apart
pub pass_split : {A E : Type 0} {view : A × Data → Data} {after : A × Data → Type 0} {R : Rel} {m n : Meter} {depth : ℕ} {f : Fault} (r : Result (Option Data) E) (a : A) (y : Data) → IsErr r → StopsFor R f m n depth → Answers view after R (left_split r a y f) m n depth
pass_split (Ok o) a y e h = absurd cc
pass_split (Err q) a y e h = fails h

-- a value that may stand apart, as one that is left in place
abbrev pub split_back : {E : Type 0} → Result (Option Data) E → Data → Data
split_back (Ok o) y = whole_of o y
split_back (Err e) y = unit

pub split_as : {A E : Type 0} (r : Result (Option Data) E) (a : A) (y : Data) (f : Fault) → left_or r (a, split_back r y) f ≡ left_split r a y f
split_as (Ok o) a y f = refl
split_as (Err e) a y f = refl

-- the same where a value is handed back
pub pass_valued : {A E : Type 0} {view : A × Data → Data} {after : A × Data → Type 0} {R : Rel} {m n : Meter} {depth : ℕ} {f : Fault} (r : Result Data E) (a : A) → IsErr r → StopsFor R f m n depth → Answers view after R (left_valued r a f) m n depth
pass_valued (Ok y) a e h = absurd cc
pass_valued (Err q) a e h = fails h

-- a value that is handed back, as one that is left in place
abbrev pub value_back : {E : Type 0} → Result Data E → Data
value_back (Ok y) = y
value_back (Err e) = unit

pub valued_as : {A E : Type 0} (r : Result Data E) (a : A) (f : Fault) → left_or r (a, value_back r) f ≡ left_valued r a f
valued_as (Ok y) a f = refl
valued_as (Err e) a f = refl

-- ## What is taken apart

-- what a step gave that was taken apart
pub record Apart {A : Type 0} (Steps : Result (A × Data) Fault → Type 0) (a : A) (x : Data) (o : Option Payload) : Type 0 where
  pub y : Data
  pub steps : Steps (Ok (a, y))
  pub first : x ≡ first_of y
  pub event : option_map bound_value o ≡ occurring (second_of y)

pub gives_value : {A : Type 0} {Steps : Result (A × Data) Fault → Type 0} {a : A} {f : Fault} {x : Data} {o : Option Payload} → GivesApart Steps a f (Ok (x, o)) → Apart Steps a x o
gives_value (apart {y = y} S e h) = record { y = y; steps = S; first = e; event = h }

pub gives_no_value : {A : Type 0} {Steps : Result (A × Data) Fault → Type 0} {a : A} {f : Fault} {e : Stop} → GivesApart Steps a f (Err e) → Steps (Err f)
gives_no_value (stopped S) = S

-- a `?` that passes a failure on
pub stops_apart : {A : Type 0} {Steps : Result (A × Data) Fault → Type 0} {a : A} {f : Fault} {r : Result (Value × Option Payload) Stop} → IsErr r → Steps (Err f) → GivesApart Steps a f r
stops_apart {r = Ok x} e S = absurd cc
stops_apart {r = Err q} e S = stopped S

-- steps of one thing are steps of another
pub apart_as : {A B : Type 0} {S : Result (A × Data) Fault → Type 0} {T : Result (B × Data) Fault → Type 0} {a : A} {b : B} {f : Fault} {r : Result (Value × Option Payload) Stop}
    → ((y : Data) → S (Ok (a, y)) → T (Ok (b, y))) → (S (Err f) → T (Err f)) → GivesApart S a f r → GivesApart T b f r
apart_as h k (apart {y = y} s e o) = apart (h y s) e o
apart_as h k (stopped s) = stopped (k s)

-- what was given whole is taken apart
pub taken : {A : Type 0} (Steps : Result (A × Data) Fault → Meter → Type 0) {a : A} {y : Data} {n n' : Meter} {r : Result (Value × Option Payload) Stop}
    → Steps (Ok (a, y)) n → (entered_of n' ≡ entered_of n → meter_height n' ≡ meter_height n → meter_fault n' ≡ Memory → Steps (Err (meter_fault n')) n') → TakenApart y n n' r → GivesApart (λ s. Steps s n') a (meter_fault n') r
taken Steps {a = a} {y = y} h k (halved same e o) = apart (subst (λ m. Steps (Ok (a, y)) m) (sym same) h) e o
taken Steps h k (not_granted en hn q) = stopped (k en hn q)

-- what is written to is the halves of the pair: its node, or a copy
pub own_halves : {a b : Pair} → (a ≡ b) ⊎ (a ≡ b) → a ≡ b
own_halves (inl e) = e
own_halves (inr e) = e
