-- What a line asks an engine for can be given.
use Rattle.std.proofs.Common.{◌≡◌, ◌≢◌, ℕ, zero, suc, ◌*◌, ◌<◌, ◌≤◌, Bool, true, false, IsTrue, ◌↔◌, List, [], ◌∷◌, Option, Some, None, Result, Ok, IfSome, refl, subst, arith}
use Rattle.std.proofs.lemmas.Bool.Decides.{nat_tests}
use Rattle.sf_value.specs.Values.{Name, Kind, Data, HasKind}
use Rattle.sf_term.specs.Trees.{Template}
use Rattle.sf_mean.specs.Lives.{Life}
use Rattle.sf_mean.specs.Meaning.{Network}
use Rattle.sf_engine.specs.Histories.{CanWait}
use Rattle.sf_lines.specs.Limits.{limit_refusal}
use Rattle.sf_lines.specs.Asking.{HasForm, repeated, unchanged, Asked, start, advance, save, back, step_refusal, Says, formless, silent, untimely, unread, read, again, keeps, returns}
use Rattle.sf_lines.specs.declared.refusal.LineRefusal.{LineRefusal}
use Rattle.sf_player.specs.Scripts.{Moment, has_begun, Asks}

pub has_begun-is : (b : Bool) (L : Life) → (IsTrue b ↔ (L ≢ [])) → b ≡ has_begun L
has_begun-is true [] h = absurd (h.0 refl refl)
has_begun-is true (s ∷ L) h = refl
has_begun-is false [] h = refl
has_begun-is false (s ∷ L) h = absurd (let t : false ≡ true = h.1 (λ q. cc) in cc)

-- a line that is not refused
pub asks : {n : Network} {m : Template} {now : Moment} {a : Asked} (line : List ℕ) (b : Bool) (k : Kind) → limit_refusal now.taken line ≡ None → b ≡ has_begun now.lived → k ≡ m.input → Says b k line (Ok a) → Asks n m now line a
asks {m = m} {now = now} {a = a} line b k within begun typed says = record {
  within = within;
  says = subst (λ x. Says x m.input line (Ok a)) begun (subst (λ x. Says b x line (Ok a)) typed says);
}

-- a step that is asked for
pub record IsStep (s : Bool) (k : Kind) (d : ℕ) (x : Option Data) : Type 0 where
  pub started : s ≡ true
  pub some : 1 ≤ d
  pub short : d ≤ 3600000
  pub typed : IfSome x (λ v. HasKind v k)

step_started : (s : Bool) (d : ℕ) → 0 < d → step_refusal s d ≡ None → s ≡ true
step_started true d some h = refl
step_started false d some h = grind (arith, nat_tests)

step_short : (s : Bool) (d : ℕ) → 0 < d → step_refusal s d ≡ None → d ≤ 3600000
step_short true d some h = grind (arith, nat_tests)
step_short false d some h = grind (arith, nat_tests)

some_wait : {line : List ℕ} {d : ℕ} → HasForm line (repeated d) → 0 < d
some_wait (unchanged e some) = some

step_of : {s : Bool} {k : Kind} {d t : ℕ} {x y : Option Data} → advance t y ≡ advance d x → 0 < t → step_refusal s t ≡ None → IfSome y (λ v. HasKind v k) → IsStep s k d x
step_of {s = s} {k = k} {d = d} {t = t} {x = x} {y = y} e some timely typed =
    let times : t ≡ d = cc in
    let inputs : y ≡ x = cc in
    let short : t ≤ 3600000 = step_short s t some timely in
    record { started = step_started s t some timely; some = omega arith; short = omega arith; typed = subst (λ o. IfSome o (λ v. HasKind v k)) inputs typed }

pub advance_asked : {s : Bool} {k : Kind} {line : List ℕ} {r : Result Asked LineRefusal} {d : ℕ} {x : Option Data} → Says s k line r → r ≡ Ok (advance d x) → IsStep s k d x
advance_asked (formless none) e = absurd cc
advance_asked (silent g) e = absurd cc
advance_asked (untimely g late) e = absurd cc
advance_asked (unread r g timely reads) e = absurd cc
advance_asked (read {d = zero} g timely reads) e = absurd cc
advance_asked {d = d} {x = x} (read {d = suc t} {x = v} g timely reads) e =
    let same : advance (suc t) (Some v) ≡ advance d x = cc in
    step_of same (omega arith) timely reads.0
advance_asked {d = d} {x = x} (again {d = t} g timely) e =
    let same : advance t None ≡ advance d x = cc in
    step_of same (some_wait g) timely tt
advance_asked (keeps g started) e = absurd cc
advance_asked (returns g started) e = absurd cc

-- a start that is asked for
pub start_asked : {s : Bool} {k : Kind} {line : List ℕ} {r : Result Asked LineRefusal} {x : Data} → Says s k line r → r ≡ Ok (start x) → (s ≡ false) × HasKind x k
start_asked (formless none) e = absurd cc
start_asked (silent g) e = absurd cc
start_asked (untimely g late) e = absurd cc
start_asked (unread r g timely reads) e = absurd cc
start_asked {s = true} (read {d = zero} g timely reads) e = absurd cc
start_asked {s = false} {k = k} {x = x} (read {d = zero} {x = v} g timely reads) e =
    let same : v ≡ x = cc in (refl, subst (λ y. HasKind y k) same reads.0)
start_asked (read {d = suc t} g timely reads) e = absurd cc
start_asked (again g timely) e = absurd cc
start_asked (keeps g started) e = absurd cc
start_asked (returns g started) e = absurd cc

-- nothing is kept or returned to before the start
pub save_asked : {s : Bool} {k : Kind} {line : List ℕ} {r : Result Asked LineRefusal} {name : Name} → Says s k line r → r ≡ Ok (save name) → s ≡ true
save_asked (formless none) e = absurd cc
save_asked (silent g) e = absurd cc
save_asked (untimely g late) e = absurd cc
save_asked (unread r g timely reads) e = absurd cc
save_asked (read {d = zero} g timely reads) e = absurd cc
save_asked (read {d = suc t} g timely reads) e = absurd cc
save_asked (again g timely) e = absurd cc
save_asked (keeps g started) e = started
save_asked (returns g started) e = started

pub back_asked : {s : Bool} {k : Kind} {line : List ℕ} {r : Result Asked LineRefusal} {name : Name} → Says s k line r → r ≡ Ok (back name) → s ≡ true
back_asked (formless none) e = absurd cc
back_asked (silent g) e = absurd cc
back_asked (untimely g late) e = absurd cc
back_asked (unread r g timely reads) e = absurd cc
back_asked (read {d = zero} g timely reads) e = absurd cc
back_asked (read {d = suc t} g timely reads) e = absurd cc
back_asked (again g timely) e = absurd cc
back_asked (keeps g started) e = started
back_asked (returns g started) e = started

-- a life that has begun
pub begun : (b : Bool) (L : Life) → b ≡ has_begun L → b ≡ true → L ≢ []
begun b [] h started = λ q. cc
begun b (s ∷ L) h started = λ q. cc

pub not_begun : (b : Bool) (L : Life) → b ≡ has_begun L → b ≡ false → L ≡ []
not_begun b [] h started = refl
not_begun b (s ∷ L) h started = absurd cc

-- a step within the longest input
pub can_wait : (t d taken : ℕ) → 1 ≤ d → d ≤ 3600000 → t ≤ 3600000 * taken → taken < 1000000 → CanWait t d
can_wait t d taken some short slow few = record { some = some; short = short; lasts = omega arith }
