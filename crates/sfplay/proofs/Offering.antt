-- Functions that are added one after another.
use Rattle.std.proofs.Common.{◌≡◌, ◌≢◌, ℕ, List, [], ◌∷◌, ◌++◌, Bool, false, Option, sym, ap, ◌∙◌, subst, true≢false}
use Rattle.std.specs.Str.{bytes_eq}
use Rattle.std.proofs.lemmas.Slice.Eq.{bytes_eq-Decides}
use Rattle.sf_value.specs.Values.{Name, Kind, Data}
use Rattle.sf_func.specs.Registries.{TypesByName, AnswersByName, types_shown}
use Rattle.sf_player.specs.Telling.{Plays}
use Rattle.sf_player.specs.declared.end.PlayEnd.{PlayEnd}
use Rattle.sfplay.specs.Functions.{types_offered, AreOffered}
use Rattle.sfplay.specs.Tasks.{Checks}

-- the types after one more function
pub types_more : {old new ts : TypesByName} {from to f t : Kind} (name : Name) → old ≡ ts → new ≡ old ++ (name, types_shown from to) ∷ [] → from ≡ f → to ≡ t → new ≡ ts ++ (name, types_shown f t) ∷ []
types_more {ts = ts} {from = from} {to = to} {f = f} name before added from_is to_is =
    added
    ∙ ap (λ (us : TypesByName). us ++ (name, types_shown from to) ∷ []) before
    ∙ ap (λ (k : Kind). ts ++ (name, types_shown k to) ∷ []) from_is
    ∙ ap (λ (k : Kind). ts ++ (name, types_shown f k) ∷ []) to_is

differ : (n name : Name) → bytes_eq n name ≡ false → n ≢ name
differ n name other same = absurd (true≢false (sym ((bytes_eq-Decides n name).1 same) ∙ other))

-- what a function that was there before answers
pub still : {old new : AnswersByName} {f : Data → Option Data} (n name : Name) → bytes_eq n name ≡ false → ((m : Name) (d : Data) → m ≢ name → new m d ≡ old m d) → ((d : Data) → old n d ≡ f d) → (d : Data) → new n d ≡ f d
still n name other kept was d = kept n d (differ n name other) ∙ was d

-- what is boxed answers what each value of its type does
pub boxed_answers : {V : Type 0} {H : V → Type 0} (answers : (v : V) → H v → Data → Option Data) {v w : V} → v ≡ w → (x : H v) (f : Data → Option Data) → ((y : H w) (d : Data) → answers w y d ≡ f d) → (d : Data) → answers v x d ≡ f d
boxed_answers {H = H} answers is x f same = subst (λ v. (x : H v) (d : Data) → answers v x d ≡ f d) (sym is) same x

-- what was played with functions that are these
pub offered_plays : {probes : Bool} {types : TypesByName} {answers : AnswersByName} {net : List ℕ} {before after held holds : Option (List ℕ)} {e : PlayEnd} → Plays probes types answers net before after held holds e → types ≡ types_offered → AreOffered answers
    → (f : AnswersByName) × AreOffered f × Plays probes types_offered f net before after held holds e
offered_plays {probes = probes} {answers = answers} {net = net} {before = before} {after = after} {held = held} {holds = holds} {e = e} told is offered =
    (answers, offered, subst (λ (ts : TypesByName). Plays probes ts answers net before after held holds e) is told)

-- what was checked with functions of these types
pub offered_checks : {types : TypesByName} {net : List ℕ} {held holds : Option (List ℕ)} {e : PlayEnd} → Checks types net held holds e → types ≡ types_offered → Checks types_offered net held holds e
offered_checks {net = net} {held = held} {holds = holds} {e = e} checked is = subst (λ (ts : TypesByName). Checks ts net held holds e) is checked
