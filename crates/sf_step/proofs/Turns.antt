-- Members at an edit: those that ran are stepped once, and take their turns among those of the edit.
use Rattle.std.proofs.Common.{◌≡◌, ℕ, zero, suc, ◌+◌, ◌-◌, ◌≤◌, ◌<◌, List, [], ◌∷◌, ◌++◌, length, take, drop, get_or, set, Option, Some, None, Result, Ok, Err, refl, sym, ap, ◌∙◌, subst, arith, append_assoc, drop-cons}
use Rattle.std.specs.List.{remove, slice_range}
use Rattle.std.specs.Option.{unwrap_or}
use Rattle.std.specs.Prelude.{IsErr}
use Rattle.std.proofs.Math.Seq.{take-length, drop-length, take_all, drop-append_seam}
use Rattle.std.proofs.lemmas.List.{length-take, length-drop, length-append, drop-set-lt, take_more_set, append-nil, length-set, take-append-le, drop-append-le}
use Rattle.sf_value.specs.Values.{KeyData, Data, table}
use Rattle.sf_value.specs.View.{keyed_rows}
use Rattle.sf_value.specs.declared.fault.Fault.{Fault}
use Rattle.sf_value.specs.declared.fault.Fault.TheVariants.{Memory}
use Rattle.sf_term.specs.declared.form.Observation.{Observation}
use Rattle.sf_mean.specs.Lives.{Step, step, Life, Process, frozen, each_frozen, Members}
use Rattle.sf_mean.specs.Meaning.{Network, Readings, Outcome, gave, Cost, count, height, Gives, Each, switched_value}
use Rattle.sf_mean.proofs.Once.{once_each}
use Rattle.sf_state.specs.declared.state.State.{State}
use Rattle.sf_state.specs.declared.state.Gathered.{Gathered}
use Rattle.sf_state.specs.Held.{Holding, gathered_holding}
use Rattle.sf_state.specs.Standing.{Stands, Gathers, gathers, EachStands, none_stands, one_stands, StandsAmong, as_it_stands, as_it_stood, AllFollow}
use Rattle.sf_state.specs.Machine.{Machine, machine_network}
use Rattle.sf_state.proofs.Copies.{each_follows, held_freeze}
use Rattle.sf_begin.specs.declared.drafting.Change.{Change}
use Rattle.sf_begin.specs.declared.drafting.Change.TheVariants.{Put, Add, Take}
use Rattle.sf_begin.specs.declared.drafting.Draft.{Draft}
use Rattle.sf_step.specs.declared.turning.Turn.{Turn}
use Rattle.sf_step.specs.declared.turning.Turn.TheVariants.{Stays, Begins}
use Rattle.sf_step.specs.declared.turning.Noted.{Noted}
use Rattle.sf_meter.specs.declared.meter.Meter.{Meter}
use Rattle.sf_meter.specs.declared.meter.Spent as spent_amounts
use Rattle.sf_meter.specs.Meters.{entered_of, meter_height, readings, CountsAgain, repeated, too_often, not_repeated, left_or}
use Rattle.sf_begin.specs.Drafting.{change_one, all_changed, laid_over, frozen_over}
use Rattle.sf_step.specs.Answering.{Spent, large, memory, answers, fails}
use Rattle.sf_begin.proofs.Drafts.{follow_changes}
use Rattle.sf_step.specs.Edits.{IsBetween, InTurn, left_noted, HaveStepped, all_stepped, one_stepped, later_stopped, one_stopped, no_memory_noted, HaveTurned, all_turned, stays_on, stays_before, stays_not, begins_on, begins_before, begins_not, HeldSteps, HeldStepsAfter, EditSteps, new_fails, new_run}
use Rattle.sf_step.specs.Sampling.{PartSteps, MemberSteps, MembersSteps, EachSteps}
use Rattle.sf_step.proofs.SwitchTurns.{gone_on}
use Rattle.sf_step.proofs.Parts.{single, same_once, spent_within, answered, failed}
use Rattle.sf_step.proofs.Forms.{single_gives}
use Rattle.sf_step.proofs.Members.{nobody_steps, memory_now, one_fails, one_steps, left_from, list_alike}

-- ## What a meter gained

-- readings come behind, and the height doesn't fall
record Grown (m n : Meter) : Type 0 where
  more : Readings
  recorded : readings n ≡ readings m ++ more
  high : meter_height m ≤ meter_height n

grown_none : (m : Meter) → Grown m m
grown_none m = record { more = []; recorded = sym (append-nil (readings m)); high = omega arith }

grown_by : {m n : Meter} {depth : ℕ} {k : Cost} {r : Readings} → Spent m n depth k r → Grown m n
grown_by {r = r} s = record { more = r; recorded = s.recorded; high = let h = s.high in omega (arith, h) }

grown_on : {m n l : Meter} → Grown m n → Grown n l → Grown m l
grown_on {m} g h = record {
  more = g.more ++ h.more;
  recorded = h.recorded ∙ ap (λ rs. rs ++ h.more) g.recorded ∙ append_assoc (readings m) g.more h.more;
  high = let a = g.high in let b = h.high in omega arith;
}

-- what was recorded last
last_part : {A : Type 0} (rs r : List A) → slice_range (rs ++ r) (length rs) (length (rs ++ r)) ≡ r
last_part rs r =
    let long = length-append rs r in
    ap (take (length (rs ++ r) - length rs)) (drop-append_seam rs r) ∙ take_all (length (rs ++ r) - length rs) r (omega (arith, long))

-- a part stays where it is
part_stays : {A : Type 0} (rs more : List A) (i j : ℕ) → i ≤ j → j ≤ length rs → slice_range (rs ++ more) i j ≡ slice_range rs i j
part_stays rs more i j up far =
    let long = length-drop i rs in
    ap (take (j - i)) (drop-append-le i rs more (omega (arith, up, far))) ∙ take-append-le (j - i) (drop i rs) more (omega (arith, long, up, far))

-- the next of a list
record NextIn {A : Type 0} (xs : List A) (i : ℕ) : Type 0 where
  one : A
  is : drop i xs ≡ one ∷ drop (i + 1) xs
  more : take (i + 1) xs ≡ take i xs ++ one ∷ []

next_in : {A : Type 0} (xs : List A) (i : ℕ) → i < length xs → NextIn xs i
next_in [] i short = absurd (omega (arith, short))
next_in (x ∷ xs) zero short = record { one = x; is = refl; more = refl }
next_in (x ∷ xs) (suc i) short =
    let n = next_in xs i (omega (arith, short)) in
    let up : suc (i + 1) ≡ suc i + 1 = omega arith in
    record { one = n.one; is = n.is ∙ ap (λ k. n.one ∷ drop k (x ∷ xs)) up; more = ap (λ k. take k (x ∷ xs)) (sym up) ∙ ap (λ ys. x ∷ ys) n.more }

pub this_at : {A : Type 0} (xs : List A) (i : ℕ) (x : A) → x ≡ get_or xs i x → i < length xs → drop i xs ≡ x ∷ drop (i + 1) xs
this_at xs i x is short = let more : suc i ≡ i + 1 = omega arith in drop-cons xs i x short ∙ ap (λ k. get_or xs i x ∷ drop k xs) more ∙ ap (λ y. y ∷ drop (i + 1) xs) (sym is)

-- the turn that is taken
pub turn_at : {A : Type 0} (xs : List A) (i : ℕ) {x : A} (y : A) → get_or xs i y ≡ x → i < length xs → drop i xs ≡ x ∷ drop (i + 1) xs
turn_at xs i y is short = let more : suc i ≡ i + 1 = omega arith in drop-cons xs i y short ∙ ap (λ k. get_or xs i y ∷ drop k xs) more ∙ ap (λ z. z ∷ drop (i + 1) xs) is

-- what is counted again
record CountedAgain (m : Meter) (g : spent_amounts.Spent) (n : Meter) : Type 0 where
  entered : entered_of n ≡ entered_of m + g.entered
  high : meter_height n ≡ meter_height m
  recorded : g.first ≤ g.behind → g.behind ≤ length (readings m) → readings n ≡ readings m ++ slice_range (readings m) g.first g.behind

counted_again : {m n : Meter} {g h : spent_amounts.Spent} → CountsAgain m g n (Ok h) → CountedAgain m g n
counted_again (repeated e h rs) = record { entered = e; high = h; recorded = rs }

-- ## Those that ran

abbrev behind_all : List State → List Data → List Turn → Result InTurn Fault → Result InTurn Fault
behind_all done ys gs (Ok z) = Ok (done ++ z.0, (ys ++ z.1.0, gs ++ z.1.1))
behind_all done ys gs (Err f) = Err f

module _ (μ : Machine) (w : Option ℕ) (d : ℕ) (x : Data) (inside : ℕ) where
  abbrev Notes : Meter → List State → Result InTurn Fault → Meter → Type 0
  Notes m cs r l = HaveStepped μ w (step d x) inside m cs r l

  -- what is noted of those that are left is noted of all, behind those that are done
  abbrev pub NotesOn : Meter → List State → List State → List Data → List Turn → List State → Meter → Type 0
  NotesOn m all done ys gs left n = (r : Result InTurn Fault) (l : Meter) → Notes n left r l → Notes m all (behind_all done ys gs r) l

  pub notes_first : (m : Meter) (all : List State) → NotesOn m all [] [] [] all m
  notes_first m all (Ok z) l h = h
  notes_first m all (Err f) l h = h

  same_notes : {m l : Meter} {all bs cs : List State} {ys zs : List Data} {gs hs : List Turn} → bs ≡ cs → ys ≡ zs → gs ≡ hs → Notes m all (Ok (bs, (ys, gs))) l → Notes m all (Ok (cs, (zs, hs))) l
  same_notes {m} {l} {all} {bs} {cs} {ys} {zs} {gs} {hs} e f g h =
      subst (λ (cs : List State). Notes m all (Ok (cs, (zs, hs))) l) e (subst (λ (zs : List Data). Notes m all (Ok (bs, (zs, hs))) l) f (subst (λ (hs : List Turn). Notes m all (Ok (bs, (ys, hs))) l) g h))

  module _ (m : Meter) (all now : List State) (i : ℕ) (ys : List Data) (gs : List Turn) (n : Meter) (any : State) (short : i < length now) (c : NotesOn m all (take i now) ys gs (drop i now) n) where
    abbrev a : State
    a = get_or now i any

    left_is : drop i now ≡ a ∷ drop (i + 1) now
    left_is = left_from μ w now i any short

    as_left : {r : Result InTurn Fault} {l : Meter} → Notes n (a ∷ drop (i + 1) now) r l → Notes n (drop i now) r l
    as_left {r} {l} h = subst (λ (bs : List State). Notes n bs r l) (sym left_is) h

    pub notes_next : (b : State) (y : Data) (n' : Meter) (g : spent_amounts.Spent) → MemberSteps μ w a (step d x) (Ok (b, y)) n n' inside → IsBetween n n' g
        → NotesOn m all (take (i + 1) (set now i b)) (ys ++ y ∷ []) (gs ++ Stays g ∷ []) (drop (i + 1) (set now i b)) n'
    notes_next b y n' g hs bt (Ok z) l h =
        let rest = subst (λ (bs : List State). Notes n' bs (Ok z) l) (drop-set-lt (i + 1) now i b (omega arith)) h in
        let two = c (Ok (b ∷ z.0, (y ∷ z.1.0, Stays g ∷ z.1.1))) l (as_left (one_stepped hs bt rest)) in
        same_notes (sym (append_assoc (take i now) (b ∷ []) z.0) ∙ ap (λ (bs : List State). bs ++ z.0) (sym (take_more_set now i b short))) (sym (append_assoc ys (y ∷ []) z.1.0)) (sym (append_assoc gs (Stays g ∷ []) z.1.1)) two
    notes_next b y n' g hs bt (Err f) l h =
        let rest = subst (λ (bs : List State). Notes n' bs (Err f) l) (drop-set-lt (i + 1) now i b (omega arith)) h in
        c (Err f) l (as_left (later_stopped hs rest))

    pub notes_fail : (f : Fault) (n' : Meter) → MemberSteps μ w a (step d x) (Err f) n n' inside → Notes m all (Err f) n'
    notes_fail f n' hs = c (Err f) n' (as_left (one_stopped hs))

  -- memory runs out between them
  pub notes_memory : (m : Meter) (all done : List State) (ys : List Data) (gs : List Turn) (left : List State) (n n2 : Meter) → NotesOn m all done ys gs left n → entered_of n2 ≡ entered_of n → meter_height n2 ≡ meter_height n → Notes m all (Err Memory) n2
  notes_memory m all done ys gs left n n2 c en hn = c (Err Memory) n2 (no_memory_noted en hn)

  -- all are done
  pub notes_last : (m : Meter) (all now : List State) (i : ℕ) (ys : List Data) (gs : List Turn) (n : Meter) → i ≡ length now → NotesOn m all (take i now) ys gs (drop i now) n → Notes m all (Ok (now, (ys, gs))) n
  notes_last m all now i ys gs n e c =
      let none : drop i now ≡ [] = ap (λ k. drop k now) e ∙ drop-length now in
      let done : take i now ≡ now = ap (λ k. take k now) e ∙ take-length now in
      same_notes (append-nil (take i now) ∙ done) (append-nil ys) (append-nil gs) (c (Ok ([], ([], []))) n (subst (λ (bs : List State). Notes n bs (Ok ([], ([], []))) n) (sym none) all_stepped))

  pub notes_stopped : {m n : Meter} {bs cs : List State} {f : Fault} → bs ≡ cs → f ≡ Memory → Notes m bs (Err Memory) n → Notes m cs (Err f) n
  notes_stopped {m} {n} {bs} {cs} same e h = subst (λ (f : Fault). Notes m cs (Err f) n) (sym e) (subst (λ (bs : List State). Notes m bs (Err Memory) n) same h)

  -- they step as members do
  pub stepped_each : {m l : Meter} {cs ds : List State} {ys : List Data} {gs : List Turn} → Notes m cs (Ok (ds, (ys, gs))) l → EachSteps μ w cs (step d x) (Ok (ds, ys)) m l inside
  stepped_each {m} all_stepped = nobody_steps μ w d x m inside
  stepped_each {l = l} (one_stepped {m = m} {n = n} {a = a} {b = b} {y = y} {cs = cs} {ds = ds} {ys = ys} hs bt h) = one_steps μ w a d x m n inside b y hs l cs (Ok (ds, ys)) (stepped_each h)

  pub stepped_fails : {m l : Meter} {cs : List State} {f : Fault} → Notes m cs (Err f) l → EachSteps μ w cs (step d x) (Err f) m l inside
  stepped_fails {l = l} {f = f} (later_stopped {m = m} {n = n} {a = a} {b = b} {y = y} {cs = cs} hs h) = one_steps μ w a d x m n inside b y hs l cs (Err f) (stepped_fails h)
  stepped_fails (one_stopped {m = m} {n = n} {a = a} {cs = cs} {f = f} hs) = one_fails μ w a d x m n inside cs f hs
  stepped_fails (no_memory_noted {m = m} {n = n} {cs = cs} en hn) = memory_now μ w cs d x m n inside en hn

  -- as many as they are
  pub notes_long : {m l : Meter} {cs ds : List State} {ys : List Data} {gs : List Turn} → Notes m cs (Ok (ds, (ys, gs))) l → (length ds ≡ length gs) × (length ys ≡ length gs)
  notes_long all_stepped = (refl, refl)
  notes_long (one_stepped hs bt h) = let l = notes_long h in (ap suc l.0, ap suc l.1)

  -- ## What one gave

  abbrev net : Network
  net = machine_network μ

  -- what a member that has stepped gave and spent, as it stands in a meter
  record HasGiven (P : Process) (L : Life) (l : Meter) (g : spent_amounts.Spent) (b : State) (y : Data) : Type 0 where
    k : Cost
    r : Readings
    gives : Gives net P (step d x ∷ L) (gave y r) k
    entered : g.entered ≡ count k
    low : inside + height k ≤ meter_height l
    up : g.first ≤ g.behind
    far : g.behind ≤ length (readings l)
    part : slice_range (readings l) g.first g.behind ≡ r
    stands : Stands μ b P (step d x ∷ L)

  abbrev HasStepped : Meter → State → spent_amounts.Spent → State → Data → Type 0
  HasStepped l a g b y = (P : Process) (L : Life) → StandsAmong μ w a P L → HasGiven P L l g b y

  has_stepped : {m n : Meter} {a b : State} {y : Data} {g : spent_amounts.Spent} → MemberSteps μ w a (step d x) (Ok (b, y)) m n inside → IsBetween m n g → HasStepped n a g b y
  has_stepped {m} {n} {g = g} hs bt P L A =
      let one = answered (hs P L A) in
      let told : readings n ≡ readings m ++ one.r = one.spent.recorded in
      let e = one.spent.entered in
      let h = one.spent.high in
      let i : g.entered ≡ entered_of n - entered_of m = bt.entered in
      let long = length-append (readings m) one.r in
      let far : length (readings n) ≡ length (readings m ++ one.r) = ap length told in
      let first : g.first ≡ length (readings m) = bt.first in
      let behind : g.behind ≡ length (readings n) = bt.behind in
      record {
        k = one.k;
        r = one.r;
        gives = one.given;
        entered = omega (arith, e, i);
        low = omega (arith, h);
        up = omega (arith, first, behind, far, long);
        far = omega (arith, behind);
        part = ap (λ i. slice_range (readings n) i g.behind) first ∙ ap (λ j. slice_range (readings n) (length (readings m)) j) (behind ∙ far) ∙ ap (λ rs. slice_range rs (length (readings m)) (length (readings m ++ one.r))) told ∙ last_part (readings m) one.r;
        stands = one.holds;
      }

  has_grown : {n l : Meter} {a b : State} {y : Data} {g : spent_amounts.Spent} → Grown n l → HasStepped n a g b y → HasStepped l a g b y
  has_grown {n} {l} {g = g} grows H P L A =
      let o = H P L A in
      let i = o.low in
      let j = grows.high in
      let far = o.far in
      let long = length-append (readings n) grows.more in
      let more : length (readings l) ≡ length (readings n ++ grows.more) = ap length grows.recorded in
      record {
        k = o.k;
        r = o.r;
        gives = o.gives;
        entered = o.entered;
        low = omega (arith, i, j);
        up = o.up;
        far = omega (arith, far, long, more);
        part = ap (λ rs. slice_range rs g.first g.behind) grows.recorded ∙ part_stays (readings n) grows.more g.first g.behind o.up o.far ∙ o.part;
        stands = o.stands;
      }

  -- ## Turns

  -- members of an edit, over states that have stepped, or that begin on the input
  data TakeTurns (l : Meter) : List State → List State → List Data → List Turn → Type 0 where
    no_turns : TakeTurns l [] [] [] []
    one_stays : {a b : State} {y : Data} {g : spent_amounts.Spent} {cs ds : List State} {ys : List Data} {gs : List Turn} → HasStepped l a g b y → TakeTurns l cs ds ys gs → TakeTurns l (a ∷ cs) (b ∷ ds) (y ∷ ys) (Stays g ∷ gs)
    one_begins : {a : State} {cs ds : List State} {ys : List Data} {gs : List Turn} → TakeTurns l cs ds ys gs → TakeTurns l (a ∷ cs) (a ∷ ds) (x ∷ ys) (Begins ∷ gs)

  -- all that ran
  noted_turns : {m l : Meter} {cs ds : List State} {ys : List Data} {gs : List Turn} {ms : Members} {L : Life} → Notes m cs (Ok (ds, (ys, gs))) l → EachStands μ w cs ms L → Grown m l × TakeTurns l cs ds ys gs
  noted_turns {m} all_stepped none_stands = (grown_none m, no_turns)
  noted_turns (one_stepped hs bt h) (one_stands A S) =
      let rest = noted_turns h S in
      let one = answered (hs _ _ A) in
      (grown_on (grown_by one.spent) rest.0, one_stays (has_grown rest.0 (has_stepped hs bt)) rest.1)

  module _ {l : Meter} where
    turns_put : {cs ds : List State} {ys : List Data} {gs : List Turn} → TakeTurns l cs ds ys gs → (i : ℕ) (a : State) → TakeTurns l (set cs i a) (set ds i a) (set ys i x) (set gs i Begins)
    turns_put no_turns i a = no_turns
    turns_put (one_stays H T) zero a = one_begins T
    turns_put (one_stays H T) (suc i) a = one_stays H (turns_put T i a)
    turns_put (one_begins T) zero a = one_begins T
    turns_put (one_begins T) (suc i) a = one_begins (turns_put T i a)

    turns_add : {cs ds : List State} {ys : List Data} {gs : List Turn} → TakeTurns l cs ds ys gs → (a : State) → TakeTurns l (cs ++ a ∷ []) (ds ++ a ∷ []) (ys ++ x ∷ []) (gs ++ Begins ∷ [])
    turns_add no_turns a = one_begins no_turns
    turns_add (one_stays H T) a = one_stays H (turns_add T a)
    turns_add (one_begins T) a = one_begins (turns_add T a)

    turns_take : {cs ds : List State} {ys : List Data} {gs : List Turn} → TakeTurns l cs ds ys gs → (i : ℕ) → TakeTurns l (remove cs i) (remove ds i) (remove ys i) (remove gs i)
    turns_take no_turns zero = no_turns
    turns_take no_turns (suc i) = no_turns
    turns_take (one_stays H T) zero = T
    turns_take (one_stays H T) (suc i) = one_stays H (turns_take T i)
    turns_take (one_begins T) zero = T
    turns_take (one_begins T) (suc i) = one_begins (turns_take T i)

    turns_one : (c : Change) {cs ds : List State} {ys : List Data} {gs : List Turn} → TakeTurns l cs ds ys gs → TakeTurns l (change_one (λ a. a) c cs) (change_one (λ a. a) c ds) (change_one (λ a. x) c ys) (change_one (λ a. Begins) c gs)
    turns_one (Put i a) T = turns_put T i a
    turns_one (Add a) T = turns_add T a
    turns_one (Take i) T = turns_take T i

    changed_turns : (es : List Change) {cs ds : List State} {ys : List Data} {gs : List Turn} → TakeTurns l cs ds ys gs → TakeTurns l (all_changed (λ a. a) es cs) (all_changed (λ a. a) es ds) (all_changed (λ a. x) es ys) (all_changed (λ a. Begins) es gs)
    changed_turns [] T = T
    changed_turns (c ∷ es) T = changed_turns es (turns_one c T)

  -- ## Again

  repeats_step : {m n : Meter} {a b : State} {y : Data} {g : spent_amounts.Spent} → HasStepped m a g b y → CountsAgain m g n (Ok g) → MemberSteps μ w a (step d x) (Ok (b, y)) m n inside
  repeats_step {m} {n} H R P L A =
      let o = H P L A in
      let i = o.entered in
      let j = o.low in
      let t = counted_again R in
      let e = t.entered in
      let h = t.high in
      answers o.gives (record { entered = omega (arith, e, i); high = omega (arith, h, j); recorded = t.recorded o.up o.far ∙ ap (λ r. readings m ++ r) o.part }) o.stands

  not_so_many : {m : Meter} {b : State} {y : Data} {g : spent_amounts.Spent} (P : Process) (L : Life) → HasGiven P L m g b y → 1000000 < entered_of m + g.entered → (o : Outcome) (k : Cost) → Gives net P (step d x ∷ L) o k → entered_of m + count k ≤ 1000000 → inside + height k ≤ 1600 → ⊥
  not_so_many P L z big o k G few low =
      let same = ap count (same_once (single_gives net P (step d x ∷ L)) G z.gives).1 in
      let i = z.entered in
      absurd (omega (arith, few, big, same, i))

  repeats_stop : {m n : Meter} {a b : State} {y : Data} {g : spent_amounts.Spent} {f : Fault} → HasStepped m a g b y → CountsAgain m g n (Err f) → MemberSteps μ w a (step d x) (Err f) m n inside
  repeats_stop {m} {n} H (too_often big e h) P L A =
      fails (large (not_so_many {m = m} P L (H P L A) big) (record { most = λ o k G. record { entered = omega (arith, e); high = omega (arith, h) } }))
  repeats_stop {m} {n} H (not_repeated e h) P L A = fails (memory (record { most = λ o k G. record { entered = omega (arith, e); high = omega (arith, h) } }))

  -- one that stays steps as it did, where it waits from here on for the time of this step
  stays_among : (w : Option ℕ) (a : State) (r : Result (State × Data) Fault) (m n : Meter) → MemberSteps μ w a (step d x) r m n inside → MemberSteps μ (Some (unwrap_or w d)) a (step d x) r m n inside
  stays_among None a r m n h P L (as_it_stood {Q = Q} {M = M} A e) = by M A e
    where
      by : (M : Life) → Stands μ a Q M → P ≡ frozen Q M d → PartSteps μ P [] (step d x) r m n inside
      by [] A e = subst (λ P. PartSteps μ P [] (step d x) r m n inside) (sym e) (h Q [] (as_it_stands A))
      by (s ∷ M) A e = subst (λ P. PartSteps μ P [] (step d x) r m n inside) (sym e) (gone_on μ (h Q (s ∷ M) (as_it_stands A)))
  stays_among (Some c) a r m n h P L A = h P L A

  abbrev later : ℕ
  later = unwrap_or w d

  stays_step : {m0 m n : Meter} {a b : State} {y : Data} {g : spent_amounts.Spent} → Grown m0 m → HasStepped m0 a g b y → CountsAgain m g n (Ok g) → MemberSteps μ (Some later) a (step d x) (Ok (b, y)) m n inside
  stays_step {m = m} {n = n} {a = a} {b = b} {y = y} grows H R = stays_among w a (Ok (b, y)) m n (repeats_step (has_grown grows H) R)

  stays_stop : {m0 m n : Meter} {a b : State} {y : Data} {g : spent_amounts.Spent} {f : Fault} → Grown m0 m → HasStepped m0 a g b y → CountsAgain m g n (Err f) → MemberSteps μ (Some later) a (step d x) (Err f) m n inside
  stays_stop {m = m} {n = n} {a = a} {f = f} grows H R = stays_among w a (Err f) m n (repeats_stop (has_grown grows H) R)

  -- members of an edit step as they take their turns
  turned_each : {m0 m l : Meter} {cs ds es : List State} {ys zs : List Data} {gs : List Turn} → Grown m0 m → TakeTurns m0 cs ds ys gs → HaveTurned μ later d inside m ds ys gs (Ok (es, zs)) l → EachSteps μ (Some later) cs (step d x) (Ok (es, zs)) m l inside
  turned_each {m = m} grows no_turns all_turned low ms L S = nobody_steps μ (Some later) d x m inside low ms L S
  turned_each {m = m} {l = l} grows (one_stays {a = a} {b = b} {y = y} {cs = cs} H T) (stays_on {n = n} {ds = es} {zs = zs} R h) low ms L (one_stands A S) =
      let hs = stays_step grows H R in
      let one = answered (hs _ _ A) in
      one_steps μ (Some later) a d x m n inside b y hs l cs (Ok (es, zs)) (turned_each {m = n} (grown_on grows (grown_by one.spent)) T h) low ms L (one_stands A S)
  turned_each {m = m} {l = l} grows (one_begins {a = a} {cs = cs} T) (begins_on {n = n} {b = b} {z = z} {ds = es} {zs = zs} hs h) low ms L (one_stands A S) =
      let one = answered (hs _ _ A) in
      one_steps μ (Some later) a d x m n inside b z hs l cs (Ok (es, zs)) (turned_each {m = n} (grown_on grows (grown_by one.spent)) T h) low ms L (one_stands A S)

  turned_fails : {m0 m l : Meter} {cs ds : List State} {ys : List Data} {gs : List Turn} {f : Fault} → Grown m0 m → TakeTurns m0 cs ds ys gs → HaveTurned μ later d inside m ds ys gs (Err f) l → EachSteps μ (Some later) cs (step d x) (Err f) m l inside
  turned_fails grows no_turns t low ms L S = elim t [ ]
  turned_fails {m = m} {l = l} {f = f} grows (one_stays {a = a} {b = b} {y = y} {cs = cs} H T) (stays_before {n = n} R h) low ms L (one_stands A S) =
      let hs = stays_step grows H R in
      let one = answered (hs _ _ A) in
      one_steps μ (Some later) a d x m n inside b y hs l cs (Err f) (turned_fails {m = n} (grown_on grows (grown_by one.spent)) T h) low ms L (one_stands A S)
  turned_fails {m = m} {l = l} {f = f} grows (one_stays {a = a} {cs = cs} H T) (stays_not R) low ms L S = one_fails μ (Some later) a d x m l inside cs f (stays_stop grows H R) low ms L S
  turned_fails {m = m} {l = l} {f = f} grows (one_begins {a = a} {cs = cs} T) (begins_before {n = n} {b = b} {z = z} hs h) low ms L (one_stands A S) =
      let one = answered (hs _ _ A) in
      one_steps μ (Some later) a d x m n inside b z hs l cs (Err f) (turned_fails {m = n} (grown_on grows (grown_by one.spent)) T h) low ms L (one_stands A S)
  turned_fails {m = m} {l = l} {f = f} grows (one_begins {a = a} {cs = cs} T) (begins_not hs) low ms L S = one_fails μ (Some later) a d x m l inside cs f hs low ms L S

-- ## The turns, one after another

module _ (μ : Machine) (w d inside : ℕ) where
  abbrev Turns : Meter → List State → List Data → List Turn → Result (List State × List Data) Fault → Meter → Type 0
  Turns m cs ys gs r l = HaveTurned μ w d inside m cs ys gs r l

  abbrev behind_both : List State → List Data → Result (List State × List Data) Fault → Result (List State × List Data) Fault
  behind_both done ys (Ok z) = Ok (done ++ z.0, ys ++ z.1)
  behind_both done ys (Err f) = Err f

  -- what those that are left answer is the answer of all, behind those that are done
  abbrev pub TurnsOn : Meter → List State → List Data → List Turn → List State → List Data → List State → List Data → List Turn → Meter → Type 0
  TurnsOn m all given turns done zs left ys gs n = (r : Result (List State × List Data) Fault) (l : Meter) → Turns n left ys gs r l → Turns m all given turns (behind_both done zs r) l

  pub turns_first : (m : Meter) (all : List State) (given : List Data) (turns : List Turn) → TurnsOn m all given turns [] [] all given turns m
  turns_first m all given turns (Ok z) l h = h
  turns_first m all given turns (Err f) l h = h

  same_turns : {m l : Meter} {all : List State} {given : List Data} {turns : List Turn} {bs cs : List State} {ys zs : List Data} → bs ≡ cs → ys ≡ zs → Turns m all given turns (Ok (bs, ys)) l → Turns m all given turns (Ok (cs, zs)) l
  same_turns {m} {l} {all} {given} {turns} {bs} {cs} {ys} {zs} e f h =
      subst (λ (cs : List State). Turns m all given turns (Ok (cs, zs)) l) e (subst (λ (zs : List Data). Turns m all given turns (Ok (bs, zs)) l) f h)

  module _ (m : Meter) (all : List State) (given : List Data) (turns : List Turn) (S : List State) (O : List Data) (G : List Turn) (i : ℕ) (n : Meter) (c : TurnsOn m all given turns (take i S) (take i O) (drop i S) (drop i O) (drop i G) n) where
    at_left : {cs : List State} {ys : List Data} {gs : List Turn} {r : Result (List State × List Data) Fault} {l : Meter} → drop i S ≡ cs → drop i O ≡ ys → drop i G ≡ gs → Turns n cs ys gs r l → Turns n (drop i S) (drop i O) (drop i G) r l
    at_left {cs} {ys} {gs} {r} {l} e f g h =
        subst (λ (cs : List State). Turns n cs (drop i O) (drop i G) r l) (sym e) (subst (λ (ys : List Data). Turns n cs ys (drop i G) r l) (sym f) (subst (λ (gs : List Turn). Turns n cs ys gs r l) (sym g) h))

    -- one that stays
    module _ (g : spent_amounts.Spent) (n' : Meter) (turn : drop i G ≡ Stays g ∷ drop (i + 1) G) (s : i < length S) (o : i < length O) where
      pub turns_stay : CountsAgain n g n' (Ok g) → TurnsOn m all given turns (take (i + 1) S) (take (i + 1) O) (drop (i + 1) S) (drop (i + 1) O) (drop (i + 1) G) n'
      turns_stay R (Ok z) l h =
          let b = next_in S i s in
          let y = next_in O i o in
          let two = c (Ok (b.one ∷ z.0, y.one ∷ z.1)) l (at_left b.is y.is turn (stays_on R h)) in
          same_turns (sym (append_assoc (take i S) (b.one ∷ []) z.0) ∙ ap (λ (bs : List State). bs ++ z.0) (sym b.more)) (sym (append_assoc (take i O) (y.one ∷ []) z.1) ∙ ap (λ (ys : List Data). ys ++ z.1) (sym y.more)) two
      turns_stay R (Err f) l h = c (Err f) l (at_left (next_in S i s).is (next_in O i o).is turn (stays_before R h))

      pub turns_stay_not : (f : Fault) → CountsAgain n g n' (Err f) → Turns m all given turns (Err f) n'
      turns_stay_not f R = c (Err f) n' (at_left (next_in S i s).is (next_in O i o).is turn (stays_not R))

    -- one that begins
    module _ (a : State) (y : Data) (n' : Meter) (turn : drop i G ≡ Begins ∷ drop (i + 1) G) (s : i < length S) (o : i < length O) (is_a : a ≡ get_or S i a) (is_y : y ≡ get_or O i y) where
      pub turns_begin : (b : State) (z : Data) → MemberSteps μ (Some w) a (step d y) (Ok (b, z)) n n' inside → TurnsOn m all given turns (take (i + 1) (set S i b)) (take (i + 1) (set O i z)) (drop (i + 1) (set S i b)) (drop (i + 1) (set O i z)) (drop (i + 1) G) n'
      turns_begin b z hs (Ok q) l h =
          let rest = subst (λ (bs : List State). Turns n' bs (drop (i + 1) (set O i z)) (drop (i + 1) G) (Ok q) l) (drop-set-lt (i + 1) S i b (omega arith)) h in
          let left = subst (λ (ys : List Data). Turns n' (drop (i + 1) S) ys (drop (i + 1) G) (Ok q) l) (drop-set-lt (i + 1) O i z (omega arith)) rest in
          let two = c (Ok (b ∷ q.0, z ∷ q.1)) l (at_left (this_at S i a is_a s) (this_at O i y is_y o) turn (begins_on hs left)) in
          same_turns (sym (append_assoc (take i S) (b ∷ []) q.0) ∙ ap (λ (bs : List State). bs ++ q.0) (sym (take_more_set S i b s))) (sym (append_assoc (take i O) (z ∷ []) q.1) ∙ ap (λ (ys : List Data). ys ++ q.1) (sym (take_more_set O i z o))) two
      turns_begin b z hs (Err f) l h =
          let rest = subst (λ (bs : List State). Turns n' bs (drop (i + 1) (set O i z)) (drop (i + 1) G) (Err f) l) (drop-set-lt (i + 1) S i b (omega arith)) h in
          let left = subst (λ (ys : List Data). Turns n' (drop (i + 1) S) ys (drop (i + 1) G) (Err f) l) (drop-set-lt (i + 1) O i z (omega arith)) rest in
          c (Err f) l (at_left (this_at S i a is_a s) (this_at O i y is_y o) turn (begins_before hs left))

      pub turns_begin_not : (f : Fault) → MemberSteps μ (Some w) a (step d y) (Err f) n n' inside → Turns m all given turns (Err f) n'
      turns_begin_not f hs = c (Err f) n' (at_left (this_at S i a is_a s) (this_at O i y is_y o) turn (begins_not hs))

    -- all have had theirs
    pub turns_last : i ≡ length S → i ≡ length O → i ≡ length G → Turns m all given turns (Ok (S, O)) n
    turns_last s o g =
        let two = c (Ok ([], [])) n (at_left (ap (λ k. drop k S) s ∙ drop-length S) (ap (λ k. drop k O) o ∙ drop-length O) (ap (λ k. drop k G) g ∙ drop-length G) all_turned) in
        same_turns (append-nil (take i S) ∙ ap (λ k. take k S) s ∙ take-length S) (append-nil (take i O) ∙ ap (λ k. take k O) o ∙ take-length O) two

-- ## Members that are held

module _ (μ : Machine) where
  pub as_held : (g a : Gathered) {s : Step} {y : Data} {m n : Meter} {inside : ℕ} → MembersSteps μ g s (Ok (a, y)) m n inside → HeldSteps μ (gathered_holding g) s (Ok (gathered_holding a, y)) m n inside
  as_held g a h low ms L G = let one = answered (h low ms L G) in answers one.given one.spent one.holds

  pub held_fails : (g : Gathered) {s : Step} {f : Fault} {m n : Meter} {inside : ℕ} → MembersSteps μ g s (Err f) m n inside → HeldSteps μ (gathered_holding g) s (Err f) m n inside
  held_fails g h low ms L G = fails (failed (h low ms L G))

  -- members step as their states do
  pub held_step : (h : Holding) (d : ℕ) (x : Data) (m n : Meter) (inside : ℕ) (cs : List State) (ys : List Data) → EachSteps μ h.wait h.states (step d x) (Ok (cs, ys)) m n inside
      → HeldSteps μ h (step d x) (Ok (record { keys = h.keys; states = cs; wait = None }, table (keyed_rows h.keys ys))) m n inside
  held_step h d x m n inside cs ys hs low ms L (gathers K S) =
      let one = answered (hs low ms L S) in
      answers (subst (λ ks. Each (machine_network μ) ms (step d x) L (gave (table (keyed_rows ks ys)) one.r) one.k) (sym K) one.given) one.spent (gathers K one.holds)

  pub held_stop : (h : Holding) (d : ℕ) (x : Data) (m n : Meter) (inside : ℕ) (f : Fault) → EachSteps μ h.wait h.states (step d x) (Err f) m n inside → HeldSteps μ h (step d x) (Err f) m n inside
  held_stop h d x m n inside f hs low ms L (gathers K S) = fails (failed (hs low ms L S))

  -- memory runs out after them
  pub held_end : (h a : Holding) (s : Step) (y : Data) (m n n2 : Meter) (inside : ℕ) → entered_of n2 ≡ entered_of n → meter_height n2 ≡ meter_height n → HeldSteps μ h s (Ok (a, y)) m n inside → HeldSteps μ h s (Err Memory) m n2 inside
  held_end h a s y m n n2 inside en hn hs low ms L G =
      let one = answered (hs low ms L G) in
      fails (memory (spent_within (single (λ a b j k G H. once_each (machine_network μ) G H)) one.given one.spent en hn))

  -- members that run, frozen
  pub gathers_frozen : (g : Gathered) (d : ℕ) (ms : Members) (L : Life) → Gathers μ (gathered_holding g) ms L → Gathers μ (frozen_over g d) (each_frozen ms L d) []
  gathers_frozen g d ms L G = held_freeze μ d g (record { keys = g.keys; states = g.states; wait = Some (unwrap_or g.wait d) }) refl refl refl ms L G

  -- ## A draft

  module _ (g : Holding) (bs : List State) (fs : AllFollow μ g.states bs) (x : Draft) (d : ℕ) (i : Data) (inside : ℕ) (m n : Meter) (ds : List State) (ys : List Data) (gs : List Turn) (h : HaveStepped μ g.wait (step d i) inside m bs (Ok (ds, (ys, gs))) n) where
    -- the members that ran
    pub old_step : HeldSteps μ g (step d i) (Ok (record { keys = g.keys; states = ds; wait = None }, table (keyed_rows g.keys ys))) m n inside
    old_step = held_step g d i m n inside ds ys (list_alike μ fs (stepped_each μ g.wait d i inside h))

    abbrev pub NewTurns : Result (List State × List Data) Fault → Meter → Type 0
    NewTurns r l = HaveTurned μ (unwrap_or g.wait d) d inside n (all_changed (λ a. a) x.changes.items ds) (all_changed (λ a. i) x.changes.items ys) (all_changed (λ a. Begins) x.changes.items gs) r l

    -- those of the edit
    pub new_step : (es : List State) (zs : List Data) (ks : List KeyData) (l : Meter) → ks ≡ x.keys → NewTurns (Ok (es, zs)) l
        → HeldStepsAfter μ g m (laid_over g.states (Some (unwrap_or g.wait d)) x) (step d i) (Ok (record { keys = ks; states = es; wait = None }, table (keyed_rows ks zs))) n l inside
    new_step es zs ks l same t low ms L (gathers K S) =
        let T = noted_turns μ g.wait d i inside h (each_follows μ fs S) in
        let steps = turned_each μ g.wait d i inside (grown_none n) (changed_turns μ g.wait d i inside x.changes.items T.1) t in
        subst (λ (ks : List KeyData). HeldSteps μ (laid_over g.states (Some (unwrap_or g.wait d)) x) (step d i) (Ok (record { keys = ks; states = es; wait = None }, table (keyed_rows ks zs))) n l inside) (sym same)
        (held_step (laid_over g.states (Some (unwrap_or g.wait d)) x) d i n l inside es zs (list_alike μ (follow_changes μ x.changes.items fs) steps))

    pub new_stop : (f : Fault) (l : Meter) → NewTurns (Err f) l → HeldStepsAfter μ g m (laid_over g.states (Some (unwrap_or g.wait d)) x) (step d i) (Err f) n l inside
    new_stop f l t low ms L (gathers K S) =
        let T = noted_turns μ g.wait d i inside h (each_follows μ fs S) in
        let steps = turned_fails μ g.wait d i inside (grown_none n) (changed_turns μ g.wait d i inside x.changes.items T.1) t in
        held_stop (laid_over g.states (Some (unwrap_or g.wait d)) x) d i n l inside f (list_alike μ (follow_changes μ x.changes.items fs) steps)

    pub new_end : (es : List State) (zs : List Data) (l l2 : Meter) → entered_of l2 ≡ entered_of l → meter_height l2 ≡ meter_height l → NewTurns (Ok (es, zs)) l → HeldStepsAfter μ g m (laid_over g.states (Some (unwrap_or g.wait d)) x) (step d i) (Err Memory) n l2 inside
    new_end es zs l l2 en hn t low ms L G = held_end (laid_over g.states (Some (unwrap_or g.wait d)) x) _ (step d i) _ n l l2 inside en hn (new_step es zs x.keys l refl t low ms L G)

-- ## Values that don't show again

-- the values of those that begin are the same
pub data Agree : List Turn → List Data → List Data → Type 0 where
  none_agree : Agree [] [] []
  one_apart : {g : spent_amounts.Spent} {y z : Data} {gs : List Turn} {ys zs : List Data} → Agree gs ys zs → Agree (Stays g ∷ gs) (y ∷ ys) (z ∷ zs)
  one_same : {x : Data} {gs : List Turn} {ys zs : List Data} → Agree gs ys zs → Agree (Begins ∷ gs) (x ∷ ys) (x ∷ zs)

-- of those that ran none begins
pub first_agree : {μ : Machine} {w : Option ℕ} {s : Step} {inside : ℕ} {m l : Meter} {cs ds : List State} {ys : List Data} {gs : List Turn} (zs : List Data) → HaveStepped μ w s inside m cs (Ok (ds, (ys, gs))) l → length zs ≡ length ys → Agree gs zs ys
first_agree [] all_stepped e = none_agree
first_agree (z ∷ zs) all_stepped e = absurd (omega (arith, e))
first_agree [] (one_stepped hs bt h) e = absurd (omega (arith, e))
first_agree (z ∷ zs) (one_stepped hs bt h) e = one_apart (first_agree zs h (omega (arith, e)))

module _ (x : Data) where
  agree_put : {gs : List Turn} {ys zs : List Data} → Agree gs ys zs → (i : ℕ) → Agree (set gs i Begins) (set ys i x) (set zs i x)
  agree_put none_agree i = none_agree
  agree_put (one_apart A) zero = one_same A
  agree_put (one_apart A) (suc i) = one_apart (agree_put A i)
  agree_put (one_same A) zero = one_same A
  agree_put (one_same A) (suc i) = one_same (agree_put A i)

  agree_add : {gs : List Turn} {ys zs : List Data} → Agree gs ys zs → Agree (gs ++ Begins ∷ []) (ys ++ x ∷ []) (zs ++ x ∷ [])
  agree_add none_agree = one_same none_agree
  agree_add (one_apart A) = one_apart (agree_add A)
  agree_add (one_same A) = one_same (agree_add A)

  agree_take : {gs : List Turn} {ys zs : List Data} → Agree gs ys zs → (i : ℕ) → Agree (remove gs i) (remove ys i) (remove zs i)
  agree_take none_agree zero = none_agree
  agree_take none_agree (suc i) = none_agree
  agree_take (one_apart A) zero = A
  agree_take (one_apart A) (suc i) = one_apart (agree_take A i)
  agree_take (one_same A) zero = A
  agree_take (one_same A) (suc i) = one_same (agree_take A i)

  agree_one : (c : Change) {gs : List Turn} {ys zs : List Data} → Agree gs ys zs → Agree (change_one (λ a. Begins) c gs) (change_one (λ a. x) c ys) (change_one (λ a. x) c zs)
  agree_one (Put i a) A = agree_put A i
  agree_one (Add a) A = agree_add A
  agree_one (Take i) A = agree_take A i

  pub agree_all : (cs : List Change) {gs : List Turn} {ys zs : List Data} → Agree gs ys zs → Agree (all_changed (λ a. Begins) cs gs) (all_changed (λ a. x) cs ys) (all_changed (λ a. x) cs zs)
  agree_all [] A = A
  agree_all (c ∷ cs) A = agree_all cs (agree_one c A)

same_head : {A : Type 0} {a b : A} {xs ys : List A} → a ∷ xs ≡ b ∷ ys → a ≡ b
same_head e = cc

same_tail : {A : Type 0} {a b : A} {xs ys : List A} → a ∷ xs ≡ b ∷ ys → xs ≡ ys
same_tail e = cc

module _ (μ : Machine) (w d inside : ℕ) where
  -- turns over other values
  pub record Refilled (m : Meter) (cs : List State) (ys zs : List Data) (gs : List Turn) (es : List State) (us : List Data) (l : Meter) : Type 0 where
    pub vs : List Data
    pub turned : HaveTurned μ w d inside m cs zs gs (Ok (es, vs)) l
    pub same : ys ≡ zs → us ≡ vs

  pub refilled : {m l : Meter} {cs es : List State} {ys zs us : List Data} {gs : List Turn} → Agree gs ys zs → HaveTurned μ w d inside m cs ys gs (Ok (es, us)) l → Refilled m cs ys zs gs es us l
  refilled none_agree all_turned = record { vs = []; turned = all_turned; same = λ e. refl }
  refilled (one_apart {z = z} A) (stays_on {zs = us} R h) =
      let r = refilled A h in
      record { vs = z ∷ r.vs; turned = stays_on R r.turned; same = λ e. ap (λ (y : Data). y ∷ us) (same_head e) ∙ ap (λ (ys : List Data). z ∷ ys) (r.same (same_tail e)) }
  refilled (one_same A) (begins_on {z = z} hs h) =
      let r = refilled A h in
      record { vs = z ∷ r.vs; turned = begins_on hs r.turned; same = λ e. ap (λ (ys : List Data). z ∷ ys) (r.same (same_tail e)) }

  pub refilled_fails : {m l : Meter} {cs : List State} {ys zs : List Data} {gs : List Turn} {f : Fault} → Agree gs ys zs → HaveTurned μ w d inside m cs ys gs (Err f) l → HaveTurned μ w d inside m cs zs gs (Err f) l
  refilled_fails none_agree t = elim t [ ]
  refilled_fails (one_apart A) (stays_before R h) = stays_before R (refilled_fails A h)
  refilled_fails (one_apart A) (stays_not R) = stays_not R
  refilled_fails (one_same A) (begins_before hs h) = begins_before hs (refilled_fails A h)
  refilled_fails (one_same A) (begins_not hs) = begins_not hs

-- the value that shows
pub shows_so : (w : Observation) (y v : Data) (o : Option Data) (worth : List Data → Data) (us vs : List Data) → ((z : Data) → unwrap_or o z ≡ switched_value w y z) → (o ≡ None → us ≡ vs) → v ≡ unwrap_or o (worth us) → v ≡ switched_value w y (worth vs)
shows_so w y v (Some r) worth us vs h same e = e ∙ h (worth vs)
shows_so w y v None worth us vs h same e = e ∙ ap worth (same refl) ∙ h (worth vs)

module _ (μ : Machine) where
  -- ## Their turns, as they were made

  module _ (g : Holding) (bs : List State) (x : Draft) (d : ℕ) (i : Data) (inside : ℕ) (m n : Meter) (ds : List State) (ys os : List Data) (gs : List Turn) (h : HaveStepped μ g.wait (step d i) inside m bs (Ok (ds, (ys, gs))) n) (long : length os ≡ length ys) where
    agreeing : Agree (all_changed (λ a. Begins) x.changes.items gs) (all_changed (λ a. i) x.changes.items os) (all_changed (λ a. i) x.changes.items ys)
    agreeing = agree_all i x.changes.items (first_agree os h long)

    module _ {v : ℕ} {cs : List State} {us : List Data} {hs : List Turn} (l : Meter) (ev : v ≡ unwrap_or g.wait d) (ec : cs ≡ all_changed (λ a. a) x.changes.items ds) (eu : us ≡ all_changed (λ a. i) x.changes.items os) (eh : hs ≡ all_changed (λ a. Begins) x.changes.items gs) where
      as_made_of : (r : Result (List State × List Data) Fault) → HaveTurned μ v d inside n cs us hs r l → HaveTurned μ (unwrap_or g.wait d) d inside n (all_changed (λ a. a) x.changes.items ds) (all_changed (λ a. i) x.changes.items os) (all_changed (λ a. Begins) x.changes.items gs) r l
      as_made_of r t =
          let later = unwrap_or g.wait d in
          let ds' = all_changed (λ a. a) x.changes.items ds in
          let ys' = all_changed (λ a. i) x.changes.items os in
          subst (λ (gs : List Turn). HaveTurned μ later d inside n ds' ys' gs r l) eh
          (subst (λ (ys : List Data). HaveTurned μ later d inside n ds' ys hs r l) eu
          (subst (λ (ds : List State). HaveTurned μ later d inside n ds us hs r l) ec
          (subst (λ v. HaveTurned μ v d inside n cs us hs r l) ev t)))

      pub turned_so : (es : List State) (zs : List Data) → HaveTurned μ v d inside n cs us hs (Ok (es, zs)) l
          → Refilled μ (unwrap_or g.wait d) d inside n (all_changed (λ a. a) x.changes.items ds) (all_changed (λ a. i) x.changes.items os) (all_changed (λ a. i) x.changes.items ys) (all_changed (λ a. Begins) x.changes.items gs) es zs l
      turned_so es zs t = refilled μ (unwrap_or g.wait d) d inside agreeing (as_made_of (Ok (es, zs)) t)

      pub not_turned_so : (f : Fault) → HaveTurned μ v d inside n cs us hs (Err f) l → HaveTurned μ (unwrap_or g.wait d) d inside n (all_changed (λ a. a) x.changes.items ds) (all_changed (λ a. i) x.changes.items ys) (all_changed (λ a. Begins) x.changes.items gs) (Err f) l
      not_turned_so f t = refilled_fails μ (unwrap_or g.wait d) d inside agreeing (as_made_of (Err f) t)

-- as many as they are, whatever they are
pub changed_long : {A B : Type 0} (worth : State → A) (other : State → B) (cs : List Change) (xs : List A) (ys : List B) → length xs ≡ length ys → length (all_changed worth cs xs) ≡ length (all_changed other cs ys)
changed_long worth other [] xs ys e = e
changed_long worth other (c ∷ cs) xs ys e = changed_long worth other cs (change_one worth c xs) (change_one other c ys) (one_long c)
  where
    one_long : (c : Change) → length (change_one worth c xs) ≡ length (change_one other c ys)
    one_long (Put i a) = length-set xs i (worth a) ∙ e ∙ sym (length-set ys i (other a))
    one_long (Add a) = let k = length-append xs (worth a ∷ []) in let l = length-append ys (other a ∷ []) in omega (arith, k, l, e)
    one_long (Take i) =
        let k = length-append (take i xs) (drop (suc i) xs) in
        let l = length-append (take i ys) (drop (suc i) ys) in
        omega (arith, k, l, length-take i xs, length-take i ys, length-drop (suc i) xs, length-drop (suc i) ys, e)

-- ## Exits

pub edit_stopped : {μ : Machine} {g : Holding} {made : Result Holding Fault} {w : Observation} {s : Step} {m n : Meter} {inside : ℕ} {e f : Fault} → f ≡ e → EditSteps μ g made w s (Err e) m n inside → EditSteps μ g made w s (Err f) m n inside
edit_stopped {μ} {g} {made} {w} {s} {m} {n} {inside} same h = subst (λ (f : Fault). EditSteps μ g made w s (Err f) m n inside) (sym same) h

-- memory runs out after all of them
pub edit_late : {μ : Machine} {g h : Holding} {made : Result Holding Fault} {w : Observation} {s : Step} {y : Data} {m n n2 : Meter} {inside : ℕ} {f : Fault} → f ≡ Memory → entered_of n2 ≡ entered_of n → meter_height n2 ≡ meter_height n
    → EditSteps μ g made w s (Ok (h, y)) m n inside → EditSteps μ g made w s (Err f) m n2 inside
edit_late {μ} {g} {h} {made} {w} {s} {y} {m} {n} {n2} {inside} e en hn (new_run {h = k} {l = l} {z = z} {n = n1} old same hb shows) =
    edit_stopped e (new_fails old same (λ low ms L G. held_end μ k l s z n1 n n2 inside en hn (hb low ms L G)))

pub pass_edit : {μ : Machine} {g : Holding} {made : Result Holding Fault} {w : Observation} {s : Step} {A E : Type 0} {m n : Meter} {inside : ℕ} {f : Fault} (r : Result A E) (y : Holding × Data) → IsErr r
    → EditSteps μ g made w s (Err f) m n inside → EditSteps μ g made w s (left_or r y f) m n inside
pass_edit (Ok a) y e h = absurd cc
pass_edit (Err q) y e h = h

pub pass_notes : {μ : Machine} {w : Option ℕ} {s : Step} {inside : ℕ} {E : Type 0} {m n : Meter} {cs : List State} {f : Fault} (r : Result Noted E) (ds : List State) → IsErr r → HaveStepped μ w s inside m cs (Err f) n → HaveStepped μ w s inside m cs (left_noted r ds f) n
pass_notes (Ok a) ds e h = absurd cc
pass_notes (Err q) ds e h = h

pub pass_turns : {μ : Machine} {w d inside : ℕ} {A E : Type 0} {m n : Meter} {cs : List State} {ys : List Data} {gs : List Turn} {f : Fault} (r : Result A E) (z : List State × List Data) → IsErr r → HaveTurned μ w d inside m cs ys gs (Err f) n → HaveTurned μ w d inside m cs ys gs (left_or r z f) n
pass_turns (Ok a) z e h = absurd cc
pass_turns (Err q) z e h = h
