-- Scripts, line by line from their first line on: there is one at most.
use Rattle.std.proofs.Common.{◌≡◌, ℕ, ◌+◌, List, [], ◌∷◌, ◌++◌, Some, None, Result, Ok, Err, refl, sym, ap, ◌∙◌, subst, append_assoc}
use Rattle.std.proofs.lemmas.List.{append-nil}
use Rattle.sf_value.specs.Values.{Name, Data}
use Rattle.sf_value.specs.declared.fault.ValueFault.{ValueFault}
use Rattle.sf_value.specs.declared.fault.Fault.TheVariants.{Value, Large}
use Rattle.sf_term.specs.Trees.{Template}
use Rattle.sf_mean.specs.Lives.{Life, time, closure, empty}
use Rattle.sf_mean.specs.Meaning.{Network, Readings, Outcome, gave, faulted, Cost, Gives}
use Rattle.sf_mean.proofs.Once.{once}
use Rattle.sf_engine.specs.Histories.{saved_under, save_kept, MaySave}
use Rattle.sf_lines.specs.Limits.{limit_refusal}
use Rattle.sf_lines.specs.Asking.{Asked, nothing, start, advance, save, back, Says}
use Rattle.sf_lines.specs.Written.{fault_line, refusal_line}
use Rattle.sf_lines.specs.declared.refusal.LineRefusal.{LineRefusal}
use Rattle.sf_lines.specs.declared.refusal.LineRefusal.TheVariants.{NoSave, TooManySaves}
use Rattle.sf_lines.proofs.Forms.{one_answer}
use Rattle.sf_player.specs.Scripts.{Moment, has_begun, life_after, IsSample, sample_lines, Ending, input_ended, sample_faulted, line_refused, Turn, goes_on, ends, Replies, past_limits, refused, quiet, keeps, keeps_no_more, returns, returns_nowhere, gives_value, gives_fault, gives_none, LeadsTo, no_line, one_more, Script, to_the_end, up_to, Agree, both_go_on, both_end}

-- what a sample gives
data SampleGives (n : Network) (m : Template) (now : Moment) (L : Life) : List ℕ → Turn → Type 0 where
  a_value : {y : Data} {r : Readings} {c : Cost} → Gives n (closure m.body empty) L (gave y r) c → SampleGives n m now L (sample_lines now.probes (time L) y r) (goes_on (record now { taken = now.taken + 1; lived = L }))
  a_fault : {x : ValueFault} {c : Cost} → Gives n (closure m.body empty) L (faulted x) c → SampleGives n m now L (fault_line (time L) (Value x)) (ends sample_faulted)
  nothing_at_all : ((o : Outcome) (c : Cost) → Gives n (closure m.body empty) L o c → ⊥) → SampleGives n m now L (fault_line (time L) Large) (ends sample_faulted)

-- what a line gives that keeps a life, and one that returns to one
data SavingGives (now : Moment) (name : Name) : List ℕ → Turn → Type 0 where
  a_place : MaySave name now.saved → SavingGives now name [] (goes_on (record now { taken = now.taken + 1; saved = save_kept name now.lived now.saved }))
  no_place : ¬ MaySave name now.saved → SavingGives now name (refusal_line (now.taken + 1) TooManySaves) (ends line_refused)

data ReturningGives (now : Moment) (name : Name) : List ℕ → Turn → Type 0 where
  a_life : {K : Life} → saved_under name now.saved ≡ Some K → ReturningGives now name [] (goes_on (record now { taken = now.taken + 1; lived = K }))
  no_life : saved_under name now.saved ≡ None → ReturningGives now name (refusal_line (now.taken + 1) NoSave) (ends line_refused)

-- what a line gives, where it is within the limits
abbrev GivesFor : Network → Template → Moment → Result Asked LineRefusal → List ℕ → Turn → Type 0
GivesFor n m now (Err r) x t = (x ≡ refusal_line (now.taken + 1) r) × (t ≡ ends line_refused)
GivesFor n m now (Ok nothing) x t = (x ≡ []) × (t ≡ goes_on (record now { taken = now.taken + 1 }))
GivesFor n m now (Ok (start v)) x t = SampleGives n m now (life_after (start v) now.lived) x t
GivesFor n m now (Ok (advance d v)) x t = SampleGives n m now (life_after (advance d v) now.lived) x t
GivesFor n m now (Ok (save name)) x t = SavingGives now name x t
GivesFor n m now (Ok (back name)) x t = ReturningGives now name x t

-- a line is past the limits, or says something
data Replied (n : Network) (m : Template) (now : Moment) (line x : List ℕ) (t : Turn) : Type 0 where
  by_limits : {r : LineRefusal} → limit_refusal now.taken line ≡ Some r → x ≡ refusal_line (now.taken + 1) r → t ≡ ends line_refused → Replied n m now line x t
  by_saying : (a : Result Asked LineRefusal) → limit_refusal now.taken line ≡ None → Says (has_begun now.lived) m.input line a → GivesFor n m now a x t → Replied n m now line x t

sampled : {n : Network} {m : Template} (now : Moment) {x : List ℕ} {t : Turn} (a : Asked) (L : Life) → IsSample a → life_after a now.lived ≡ L → SampleGives n m now L x t → GivesFor n m now (Ok a) x t
sampled now nothing L is q S = absurd is
sampled {n = n} {m = m} now {x = x} {t = t} (start v) L is q S = subst (λ l. SampleGives n m now l x t) (sym q) S
sampled {n = n} {m = m} now {x = x} {t = t} (advance d v) L is q S = subst (λ l. SampleGives n m now l x t) (sym q) S
sampled now (save name) L is q S = absurd is
sampled now (back name) L is q S = absurd is

replied : {n : Network} {m : Template} {now : Moment} {line x : List ℕ} {t : Turn} → Replies n m now line x t → Replied n m now line x t
replied (past_limits e) = by_limits e refl refl
replied (refused {r = r} e s) = by_saying (Err r) e s (refl, refl)
replied (quiet a) = by_saying (Ok nothing) a.within a.says (refl, refl)
replied (keeps {name = name} a may) = by_saying (Ok (save name)) a.within a.says (a_place may)
replied (keeps_no_more {name = name} a full) = by_saying (Ok (save name)) a.within a.says (no_place full)
replied (returns {name = name} a found) = by_saying (Ok (back name)) a.within a.says (a_life found)
replied (returns_nowhere {name = name} a absent) = by_saying (Ok (back name)) a.within a.says (no_life absent)
replied (gives_value {a = a} {L = L} asks is q G) = by_saying (Ok a) asks.within asks.says (sampled _ a L is q (a_value G))
replied (gives_fault {a = a} {L = L} asks is q G) = by_saying (Ok a) asks.within asks.says (sampled _ a L is q (a_fault G))
replied (gives_none {a = a} {L = L} asks is q none) = by_saying (Ok a) asks.within asks.says (sampled _ a L is q (nothing_at_all none))

-- one text and one turn
abbrev Same : List ℕ → List ℕ → Turn → Turn → Type 0
Same x y t u = (x ≡ y) × (t ≡ u)

sample_once : {n : Network} {m : Template} {now : Moment} {L : Life} {x y : List ℕ} {t u : Turn} → SampleGives n m now L x t → SampleGives n m now L y u → Same x y t u
sample_once {n = n} {now = now} {L = L} (a_value {y = y} {r = r} G) (a_value {y = z} {r = q} H) =
    let o : gave y r ≡ gave z q = (once n G H).0 in
    let same : y ≡ z = cc in
    let reads : r ≡ q = cc in
    (ap (λ v. sample_lines now.probes (time L) v r) same ∙ ap (sample_lines now.probes (time L) z) reads, refl)
sample_once {n = n} (a_value {y = y} {r = r} G) (a_fault {x = x} H) = absurd (let o : gave y r ≡ faulted x = (once n G H).0 in cc)
sample_once (a_value G) (nothing_at_all none) = absurd (none _ _ G)
sample_once {n = n} (a_fault {x = x} G) (a_value {y = y} {r = r} H) = absurd (let o : faulted x ≡ gave y r = (once n G H).0 in cc)
sample_once {n = n} {L = L} (a_fault {x = x} G) (a_fault {x = z} H) =
    let o : faulted x ≡ faulted z = (once n G H).0 in
    let same : x ≡ z = cc in
    (ap (λ v. fault_line (time L) (Value v)) same, refl)
sample_once (a_fault G) (nothing_at_all none) = absurd (none _ _ G)
sample_once (nothing_at_all none) (a_value G) = absurd (none _ _ G)
sample_once (nothing_at_all none) (a_fault G) = absurd (none _ _ G)
sample_once (nothing_at_all none) (nothing_at_all more) = (refl, refl)

saving_once : {now : Moment} {name : Name} {x y : List ℕ} {t u : Turn} → SavingGives now name x t → SavingGives now name y u → Same x y t u
saving_once (a_place may) (a_place also) = (refl, refl)
saving_once (a_place may) (no_place full) = absurd (full may)
saving_once (no_place full) (a_place may) = absurd (full may)
saving_once (no_place full) (no_place also) = (refl, refl)

returning_once : {now : Moment} {name : Name} {x y : List ℕ} {t u : Turn} → ReturningGives now name x t → ReturningGives now name y u → Same x y t u
returning_once {now = now} (a_life {K = K} found) (a_life {K = J} also) =
    let o : Some K ≡ Some J = sym found ∙ also in
    let same : K ≡ J = cc in
    (refl, ap (λ L. goes_on (record now { taken = now.taken + 1; lived = L })) same)
returning_once (a_life {K = K} found) (no_life absent) = absurd (let o : Some K ≡ None = sym found ∙ absent in cc)
returning_once (no_life absent) (a_life {K = K} found) = absurd (let o : Some K ≡ None = sym found ∙ absent in cc)
returning_once (no_life absent) (no_life also) = (refl, refl)

gives_once : (n : Network) (m : Template) (now : Moment) {x y : List ℕ} {t u : Turn} (a : Result Asked LineRefusal) → GivesFor n m now a x t → GivesFor n m now a y u → Same x y t u
gives_once n m now (Err r) G H = (G.0 ∙ sym H.0, G.1 ∙ sym H.1)
gives_once n m now (Ok nothing) G H = (G.0 ∙ sym H.0, G.1 ∙ sym H.1)
gives_once n m now (Ok (start v)) G H = sample_once G H
gives_once n m now (Ok (advance d v)) G H = sample_once G H
gives_once n m now (Ok (save name)) G H = saving_once G H
gives_once n m now (Ok (back name)) G H = returning_once G H

replied_once : {n : Network} {m : Template} {now : Moment} {line x y : List ℕ} {t u : Turn} → Replied n m now line x t → Replied n m now line y u → Same x y t u
replied_once {now = now} (by_limits {r = r} e p q) (by_limits {r = s} f v w) =
    let o : Some r ≡ Some s = sym e ∙ f in
    let same : r ≡ s = cc in
    (p ∙ ap (refusal_line (now.taken + 1)) same ∙ sym v, q ∙ sym w)
replied_once (by_limits {r = r} e p q) (by_saying b f s H) = absurd (let o : Some r ≡ None = sym e ∙ f in cc)
replied_once (by_saying a e s G) (by_limits {r = r} f v w) = absurd (let o : None ≡ Some r = sym e ∙ f in cc)
replied_once {n = n} {m = m} {now = now} {line = line} {x = x} {t = t} (by_saying a e s G) (by_saying b f v H) =
    gives_once n m now b (subst (λ r. GivesFor n m now r x t) (one_answer (has_begun now.lived) m.input line a b s v) G) H

reply_once : {n : Network} {m : Template} {now : Moment} {line x y : List ℕ} {t u : Turn} → Replies n m now line x t → Replies n m now line y u → Same x y t u
reply_once r s = replied_once (replied r) (replied s)

-- a script from its first line on
data Spoken (n : Network) (m : Template) : Moment → List (List ℕ) → List ℕ → Ending → Type 0 where
  at_the_end : {now : Moment} → Spoken n m now [] [] input_ended
  ending : {now : Moment} {line text : List ℕ} {e : Ending} (others : List (List ℕ)) → Replies n m now line text (ends e) → Spoken n m now (line ∷ others) text e
  going : {now between : Moment} {line text said : List ℕ} {others : List (List ℕ)} {e : Ending} → Replies n m now line text (goes_on between) → Spoken n m between others said e → Spoken n m now (line ∷ others) (text ++ said) e

spoken_after : {n : Network} {m : Template} {now between : Moment} {front : List (List ℕ)} {said text : List ℕ} {others : List (List ℕ)} {e : Ending} → LeadsTo n m now front said between → Spoken n m between others text e → Spoken n m now (front ++ others) (said ++ text) e
spoken_after no_line S = S
spoken_after {n = n} {m = m} {now = now} {text = text} {others = others} {e = e} (one_more {lines = lines} {line = line} {said = said} {text = more} R r) S =
    subst (λ (ls : List (List ℕ)). Spoken n m now ls ((said ++ more) ++ text) e) (sym (append_assoc lines (line ∷ []) others))
    (subst (λ (x : List ℕ). Spoken n m now (lines ++ line ∷ others) x e) (sym (append_assoc said more text)) (spoken_after R (going r S)))

spoken : {n : Network} {m : Template} {now : Moment} {lines : List (List ℕ)} {x : List ℕ} {e : Ending} → Script n m now lines x e → Spoken n m now lines x e
spoken {n = n} {m = m} {now = now} {lines = lines} {x = x} (to_the_end R) =
    subst (λ (ls : List (List ℕ)). Spoken n m now ls x input_ended) (append-nil lines)
    (subst (λ (y : List ℕ). Spoken n m now (lines ++ []) y input_ended) (append-nil x) (spoken_after R at_the_end))
spoken {n = n} {m = m} {now = now} {x = x} {e = e} (up_to others R r q) = subst (λ (ls : List (List ℕ)). Spoken n m now ls x e) (sym q) (spoken_after R (ending others r))

-- a line, and then what the others give
LeadsTo-cons : {n : Network} {m : Template} {now between later : Moment} {line text said : List ℕ} {front : List (List ℕ)} → Replies n m now line text (goes_on between) → LeadsTo n m between front said later → LeadsTo n m now (line ∷ front) (text ++ said) later
LeadsTo-cons {n = n} {m = m} {now = now} {later = later} {line = line} {text = text} r no_line =
    subst (λ (x : List ℕ). LeadsTo n m now (line ∷ []) x later) (sym (append-nil text)) (one_more no_line r)
LeadsTo-cons {n = n} {m = m} {now = now} {later = later} {line = line} {text = text} r (one_more {lines = lines} {line = last} {said = said} {text = more} R s) =
    subst (λ (x : List ℕ). LeadsTo n m now (line ∷ (lines ++ last ∷ [])) x later) (append_assoc text said more) (one_more (LeadsTo-cons r R) s)

script_then : {n : Network} {m : Template} {now between : Moment} {line text said : List ℕ} {others : List (List ℕ)} {e : Ending} → Replies n m now line text (goes_on between) → Script n m between others said e → Script n m now (line ∷ others) (text ++ said) e
script_then r (to_the_end R) = to_the_end (LeadsTo-cons r R)
script_then {n = n} {m = m} {now = now} {line = line} {text = text} {others = others} {e = e} r (up_to {said = said} {text = last} rest R s q) =
    subst (λ (x : List ℕ). Script n m now (line ∷ others) x e) (append_assoc text said last) (up_to rest (LeadsTo-cons r R) s (ap (λ ls. line ∷ ls) q))

script : {n : Network} {m : Template} {now : Moment} {lines : List (List ℕ)} {x : List ℕ} {e : Ending} → Spoken n m now lines x e → Script n m now lines x e
script at_the_end = to_the_end no_line
script (ending others r) = up_to others no_line r refl
script (going r S) = script_then r (script S)

spoken_once : {n : Network} {m : Template} {now : Moment} {lines : List (List ℕ)} {x y : List ℕ} {d e : Ending} → Spoken n m now lines x d → Spoken n m now lines y e → (x ≡ y) × (d ≡ e)
spoken_once at_the_end at_the_end = (refl, refl)
spoken_once {d = d} {e = e} (ending others r) (ending more s) =
    let same = reply_once r s in
    let turns : ends d ≡ ends e = same.1 in
    (same.0, cc)
spoken_once {d = d} (ending others r) (going {between = later} s T) = absurd (let turns : ends d ≡ goes_on later = (reply_once r s).1 in cc)
spoken_once {e = e} (going {between = later} r S) (ending others s) = absurd (let turns : goes_on later ≡ ends e = (reply_once r s).1 in cc)
spoken_once {n = n} {m = m} {d = d} (going {between = b} {text = text} {said = said} {others = others} r S) (going {between = c} {text = more} {said = also} s T) =
    let same = reply_once r s in
    let turns : goes_on b ≡ goes_on c = same.1 in
    let moments : b ≡ c = cc in
    let rest = spoken_once (subst (λ k. Spoken n m k others said d) moments S) T in
    (ap (λ x. x ++ said) same.0 ∙ ap (λ x. more ++ x) rest.0, rest.1)

pub script_once : {n : Network} {m : Template} {now : Moment} {lines : List (List ℕ)} {x y : List ℕ} {d e : Ending} → Script n m now lines x d → Script n m now lines y e → (x ≡ y) × (d ≡ e)
script_once S T = spoken_once (spoken S) (spoken T)

agree_then : {n : Network} {m : Template} {now between : Moment} {line text x y : List ℕ} {front others more : List (List ℕ)} {d e : Ending} → Replies n m now line text (goes_on between) → Agree n m between front others more x d y e → Agree n m now (line ∷ front) others more (text ++ x) d (text ++ y) e
agree_then {n = n} {m = m} {now = now} {line = line} {text = text} {front = front} {others = others} {more = more} r (both_go_on {said = said} {x = x} {y = y} {d = d} {e = e} R S T) =
    subst (λ (z : List ℕ). Agree n m now (line ∷ front) others more z d (text ++ (said ++ y)) e) (append_assoc text said x)
    (subst (λ (z : List ℕ). Agree n m now (line ∷ front) others more ((text ++ said) ++ x) d z e) (append_assoc text said y) (both_go_on (LeadsTo-cons r R) S T))
agree_then {n = n} {m = m} {now = now} {line = line} {text = text} {front = front} {others = others} {more = more} r (both_end {said = said} {text = last} {e = e} behind R s q) =
    subst (λ (z : List ℕ). Agree n m now (line ∷ front) others more z e z e) (append_assoc text said last) (both_end behind (LeadsTo-cons r R) s (ap (λ ls. line ∷ ls) q))

agree : {n : Network} {m : Template} {now : Moment} {x y : List ℕ} {d e : Ending} (front others more : List (List ℕ)) → Spoken n m now (front ++ others) x d → Spoken n m now (front ++ more) y e → Agree n m now front others more x d y e
agree [] others more S T = both_go_on no_line (script S) (script T)
agree {n = n} {m = m} {now = now} {x = x} {y = y} {d = d} {e = e} (line ∷ front) others more (ending _ r) (ending _ s) =
    let same = reply_once r s in
    let turns : ends d ≡ ends e = same.1 in
    let endings : d ≡ e = cc in
    subst (λ (z : List ℕ). Agree n m now (line ∷ front) others more x d z e) same.0 (subst (λ z. Agree n m now (line ∷ front) others more x d x z) endings (both_end front no_line r refl))
agree {d = d} (line ∷ front) others more (ending _ r) (going {between = later} s T) = absurd (let turns : ends d ≡ goes_on later = (reply_once r s).1 in cc)
agree {e = e} (line ∷ front) others more (going {between = later} r S) (ending _ s) = absurd (let turns : goes_on later ≡ ends e = (reply_once r s).1 in cc)
agree {n = n} {m = m} {now = now} {y = y} {d = d} {e = e} (line ∷ front) others more (going {between = b} {text = text} {said = said} r S) (going {between = c} {text = last} {said = also} s T) =
    let same = reply_once r s in
    let turns : goes_on b ≡ goes_on c = same.1 in
    let moments : b ≡ c = cc in
    subst (λ (z : List ℕ). Agree n m now (line ∷ front) others more (z ++ said) d (last ++ also) e) (sym same.0)
    (agree_then s (agree front others more (subst (λ k. Spoken n m k (front ++ others) said d) moments S) T))

pub scripts_agree : {n : Network} {m : Template} {now : Moment} {x y : List ℕ} {d e : Ending} (front others more : List (List ℕ)) → Script n m now (front ++ others) x d → Script n m now (front ++ more) y e → Agree n m now front others more x d y e
scripts_agree front others more S T = agree front others more (spoken S) (spoken T)
