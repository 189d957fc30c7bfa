-- A line has one form at most, and says one thing at most.
use Rattle.std.proofs.Common.{◌≡◌, ◌≢◌, ℕ, ◌<◌, ◌≤◌, Bool, true, false, List, ◌∷◌, ◌++◌, get_or, codes, Option, Some, None, Result, Ok, Err, refl, sym, ◌∙◌, ap, subst, arith, ◌⊎◌, inl, inr, ⊎_elim}
use Rattle.std.proofs.lemmas.List.{append_cancel_left}
use Rattle.sf_value.specs.Values.{Kind, Data}
use Rattle.sf_decimal.specs.Decimals.{natural}
use Rattle.sf_spelling.specs.Reading.{Refusal, Reads}
use Rattle.sf_decimal.proofs.Digits.{Behind, natural-cut, natural-head}
use Rattle.sf_spelling.proofs.Unique.{one_reading}
use Rattle.sf_lines.specs.declared.refusal.LineRefusal.{LineRefusal}
use Rattle.sf_lines.specs.declared.refusal.LineRefusal.TheVariants.{BadLine, NotStarted}
use Rattle.sf_lines.specs.Asking.{LineForm, blank, sampled, repeated, saving, returning, HasForm, empty, comment, with_value, unchanged, with_save, with_back, Asked, nothing, advance, save, back, step_refusal, time_refusal, value_refusal, sample_asked, Says, formless, silent, untimely, unread, read, again, keeps, returns}

-- the first byte of a line with a number, of a blank line, and of one with a name
pub number_first : (d : ℕ) (rest line : List ℕ) → line ≡ natural d ++ rest → (48 ≤ get_or line 0 0) × (get_or line 0 0 ≤ 57)
number_first d rest line e =
    let n = natural-head d in
    let f : line ≡ n.head ∷ (n.tail ++ rest) = e ∙ ap (λ x. x ++ rest) n.is in
    let first : get_or line 0 0 ≡ n.head = ap (λ (x : List ℕ). get_or x 0 0) f in
    (omega (arith, n.low), omega (arith, n.high))

blank_first : (line : List ℕ) → HasForm line blank → get_or line 0 0 < 48
blank_first _ empty = omega arith
blank_first _ comment = omega arith

pub save_first : (name line : List ℕ) → line ≡ codes "save " ++ name → get_or line 0 0 ≡ 115
save_first name line e = ap (λ (x : List ℕ). get_or x 0 0) e

pub back_first : (name line : List ℕ) → line ≡ codes "back " ++ name → get_or line 0 0 ≡ 98
back_first name line e = ap (λ (x : List ℕ). get_or x 0 0) e

pub no_digit : (d : ℕ) (rest : List ℕ) → Behind d (32 ∷ rest)
no_digit d rest some = refl

-- the bytes of a form
abbrev IsReadAs : LineForm → List ℕ → Type 0
IsReadAs blank line = HasForm line blank
IsReadAs (sampled d value) line = (line ≡ natural d ++ 32 ∷ value) × (value ≢ codes "=")
IsReadAs (repeated d) line = line ≡ natural d ++ codes " ="
IsReadAs (saving name) line = line ≡ codes "save " ++ name
IsReadAs (returning name) line = line ≡ codes "back " ++ name

read_as : (line : List ℕ) (f : LineForm) → HasForm line f → IsReadAs f line
read_as _ _ empty = empty
read_as _ _ comment = comment
read_as _ _ (with_value e other) = (e, other)
read_as _ _ (unchanged e some) = e
read_as _ _ (with_save e named) = e
read_as _ _ (with_back e named) = e

one_number : (line : List ℕ) (d k : ℕ) (v w : List ℕ) → line ≡ natural d ++ 32 ∷ v → line ≡ natural k ++ 32 ∷ w → (d ≡ k) × (v ≡ w)
one_number line d k v w e f =
    let same = natural-cut d k (32 ∷ v) (32 ∷ w) (no_digit d v) (no_digit k w) (sym e ∙ f) in
    let rests = same.1 in
    (same.0, cc)

first_differs : (line : List ℕ) (a b : ℕ) → get_or line 0 0 ≡ a → get_or line 0 0 ≡ b → a ≢ b → ⊥
first_differs line a b e f other = other (sym e ∙ f)

number_or_blank : (line : List ℕ) (d : ℕ) (rest : List ℕ) → line ≡ natural d ++ rest → HasForm line blank → ⊥
number_or_blank line d rest e h = let n = number_first d rest line e in let b = blank_first line h in omega (arith, n.0)

pub number_or_name : (line : List ℕ) (d c : ℕ) (rest : List ℕ) → line ≡ natural d ++ rest → get_or line 0 0 ≡ c → 57 < c → ⊥
number_or_name line d c rest e first high = let n = number_first d rest line e in omega (arith, n.1)

blank_or_name : (line : List ℕ) (c : ℕ) → HasForm line blank → get_or line 0 0 ≡ c → 57 < c → ⊥
blank_or_name line c h first high = let b = blank_first line h in omega arith

one_read_as : (line : List ℕ) (f g : LineForm) → IsReadAs f line → IsReadAs g line → f ≡ g
one_read_as line blank blank p q = refl
one_read_as line blank (sampled k w) p q = absurd (number_or_blank line k (32 ∷ w) q.0 p)
one_read_as line blank (repeated k) p q = absurd (number_or_blank line k (codes " =") q p)
one_read_as line blank (saving b) p q = absurd (blank_or_name line 115 p (save_first b line q) (omega arith))
one_read_as line blank (returning b) p q = absurd (blank_or_name line 98 p (back_first b line q) (omega arith))
one_read_as line (sampled d v) blank p q = absurd (number_or_blank line d (32 ∷ v) p.0 q)
one_read_as line (sampled d v) (sampled k w) p q = let same = one_number line d k v w p.0 q.0 in let steps = same.0 in let values = same.1 in cc
one_read_as line (sampled d v) (repeated k) p q = absurd (p.1 (one_number line d k v (codes "=") p.0 q).1)
one_read_as line (sampled d v) (saving b) p q = absurd (number_or_name line d 115 (32 ∷ v) p.0 (save_first b line q) (omega arith))
one_read_as line (sampled d v) (returning b) p q = absurd (number_or_name line d 98 (32 ∷ v) p.0 (back_first b line q) (omega arith))
one_read_as line (repeated d) blank p q = absurd (number_or_blank line d (codes " =") p q)
one_read_as line (repeated d) (sampled k w) p q = absurd (q.1 (one_number line k d w (codes "=") q.0 p).1)
one_read_as line (repeated d) (repeated k) p q = ap repeated (one_number line d k (codes "=") (codes "=") p q).0
one_read_as line (repeated d) (saving b) p q = absurd (number_or_name line d 115 (codes " =") p (save_first b line q) (omega arith))
one_read_as line (repeated d) (returning b) p q = absurd (number_or_name line d 98 (codes " =") p (back_first b line q) (omega arith))
one_read_as line (saving a) blank p q = absurd (blank_or_name line 115 q (save_first a line p) (omega arith))
one_read_as line (saving a) (sampled k w) p q = absurd (number_or_name line k 115 (32 ∷ w) q.0 (save_first a line p) (omega arith))
one_read_as line (saving a) (repeated k) p q = absurd (number_or_name line k 115 (codes " =") q (save_first a line p) (omega arith))
one_read_as line (saving a) (saving b) p q = ap saving (append_cancel_left (codes "save ") a b (sym p ∙ q))
one_read_as line (saving a) (returning b) p q = absurd (first_differs line 115 98 (save_first a line p) (back_first b line q) (omega arith))
one_read_as line (returning a) blank p q = absurd (blank_or_name line 98 q (back_first a line p) (omega arith))
one_read_as line (returning a) (sampled k w) p q = absurd (number_or_name line k 98 (32 ∷ w) q.0 (back_first a line p) (omega arith))
one_read_as line (returning a) (repeated k) p q = absurd (number_or_name line k 98 (codes " =") q (back_first a line p) (omega arith))
one_read_as line (returning a) (saving b) p q = absurd (first_differs line 98 115 (back_first a line p) (save_first b line q) (omega arith))
one_read_as line (returning a) (returning b) p q = ap returning (append_cancel_left (codes "back ") a b (sym p ∙ q))

pub one_form : (line : List ℕ) (f g : LineForm) → HasForm line f → HasForm line g → f ≡ g
one_form line f g h k = one_read_as line f g (read_as line f h) (read_as line g k)

-- what the bytes of a value give at a time step
abbrev answer_at : ℕ → Result Data Refusal → Result Asked LineRefusal
answer_at d (Ok x) = Ok (sample_asked d x)
answer_at d (Err r) = Err (value_refusal r)

-- the refusal, if there is one, and else this
abbrev RefusedOr : Option LineRefusal → (Result Asked LineRefusal → Type 0) → Result Asked LineRefusal → Type 0
RefusedOr (Some r) P answer = answer ≡ Err r
RefusedOr None P answer = P answer

abbrev GivesValue : Kind → ℕ → List ℕ → Result Asked LineRefusal → Type 0
GivesValue k d value answer = (r : Result Data Refusal) × Reads k value r × (answer ≡ answer_at d r)

-- what is asked for, or that there was no start
abbrev behind_start : Bool → Asked → Result Asked LineRefusal
behind_start true a = Ok a
behind_start false a = Err NotStarted

-- what a form gives
abbrev Gives : Bool → Kind → LineForm → Result Asked LineRefusal → Type 0
Gives s k blank answer = answer ≡ Ok nothing
Gives s k (sampled d value) answer = RefusedOr (step_refusal s d) (GivesValue k d value) answer
Gives s k (repeated d) answer = RefusedOr (step_refusal s d) (λ a. a ≡ Ok (advance d None)) answer
Gives s k (saving name) answer = answer ≡ behind_start s (save name)
Gives s k (returning name) answer = answer ≡ behind_start s (back name)

refused_or : (o : Option LineRefusal) (P : Result Asked LineRefusal → Type 0) (answer : Result Asked LineRefusal) → o ≡ None → P answer → RefusedOr o P answer
refused_or None P answer e p = p
refused_or (Some r) P answer e p = cc

refused_as : (o : Option LineRefusal) (P : Result Asked LineRefusal → Type 0) (r : LineRefusal) → o ≡ Some r → RefusedOr o P (Err r)
refused_as None P r e = cc
refused_as (Some q) P r e = cc

gives_refused : (s : Bool) (k : Kind) (form : LineForm) (r : LineRefusal) → time_refusal s form ≡ Some r → Gives s k form (Err r)
gives_refused s k blank r h = cc
gives_refused s k (sampled t value) r h = refused_as (step_refusal s t) (GivesValue k t value) r h
gives_refused s k (repeated t) r h = refused_as (step_refusal s t) (λ a. a ≡ Ok (advance t None)) r h
gives_refused true k (saving name) r h = cc
gives_refused false k (saving name) r h = cc
gives_refused true k (returning name) r h = cc
gives_refused false k (returning name) r h = cc

gives : (s : Bool) (k : Kind) (line : List ℕ) (answer : Result Asked LineRefusal) (f : LineForm) → Says s k line answer → HasForm line f → Gives s k f answer
gives s k line _ f (formless none) h = absurd (none f h)
gives s k line _ f (silent g) h = subst (λ x. Gives s k x (Ok nothing)) (one_form line blank f g h) refl
gives s k line _ f (untimely {form = form} {r = r} g late) h = subst (λ x. Gives s k x (Err r)) (one_form line form f g h) (gives_refused s k form r late)
gives s k line _ f (unread {value = value} {d = d} r g timely reads) h =
    subst (λ x. Gives s k x (Err (value_refusal r))) (one_form line (sampled d value) f g h) (refused_or (step_refusal s d) (GivesValue k d value) (Err (value_refusal r)) timely (Err r, reads, refl))
gives s k line _ f (read {value = value} {d = d} {x = y} g timely reads) h =
    subst (λ x. Gives s k x (Ok (sample_asked d y))) (one_form line (sampled d value) f g h) (refused_or (step_refusal s d) (GivesValue k d value) (Ok (sample_asked d y)) timely (Ok y, reads, refl))
gives s k line _ f (again {d = d} g timely) h =
    subst (λ x. Gives s k x (Ok (advance d None))) (one_form line (repeated d) f g h) (refused_or (step_refusal s d) (λ a. a ≡ Ok (advance d None)) (Ok (advance d None)) timely refl)
gives s k line _ f (keeps {name = name} g started) h = subst (λ x. Gives s k x (Ok (save name))) (one_form line (saving name) f g h) (ap (λ b. behind_start b (save name)) (sym started))
gives s k line _ f (returns {name = name} g started) h = subst (λ x. Gives s k x (Ok (back name))) (one_form line (returning name) f g h) (ap (λ b. behind_start b (back name)) (sym started))

one_value : (k : Kind) (d : ℕ) (value : List ℕ) (a b : Result Asked LineRefusal) → GivesValue k d value a → GivesValue k d value b → a ≡ b
one_value k d value a b p q = p.2 ∙ ap (answer_at d) (one_reading k value p.0 q.0 p.1 q.1) ∙ sym q.2

one_or : (o : Option LineRefusal) (P : Result Asked LineRefusal → Type 0) (a b : Result Asked LineRefusal) → (P a → P b → a ≡ b) → RefusedOr o P a → RefusedOr o P b → a ≡ b
one_or None P a b one p q = one p q
one_or (Some r) P a b one p q = p ∙ sym q

one_given : (s : Bool) (k : Kind) (f : LineForm) (a b : Result Asked LineRefusal) → Gives s k f a → Gives s k f b → a ≡ b
one_given s k blank a b p q = p ∙ sym q
one_given s k (sampled d value) a b p q = one_or (step_refusal s d) (GivesValue k d value) a b (one_value k d value a b) p q
one_given s k (repeated d) a b p q = one_or (step_refusal s d) (λ x. x ≡ Ok (advance d None)) a b (λ x y. x ∙ sym y) p q
one_given s k (saving name) a b p q = p ∙ sym q
one_given s k (returning name) a b p q = p ∙ sym q

-- the line has a form, or none
abbrev Formed : List ℕ → Result Asked LineRefusal → Type 0
Formed line answer = ((f : LineForm) × HasForm line f) ⊎ (((f : LineForm) → HasForm line f → ⊥) × (answer ≡ Err BadLine))

formed : (s : Bool) (k : Kind) (line : List ℕ) (answer : Result Asked LineRefusal) → Says s k line answer → Formed line answer
formed s k line _ (formless none) = inr (none, refl)
formed s k line _ (silent g) = inl (blank, g)
formed s k line _ (untimely {form = form} g late) = inl (form, g)
formed s k line _ (unread {value = value} {d = d} r g timely reads) = inl (sampled d value, g)
formed s k line _ (read {value = value} {d = d} g timely reads) = inl (sampled d value, g)
formed s k line _ (again {d = d} g timely) = inl (repeated d, g)
formed s k line _ (keeps {name = name} g started) = inl (saving name, g)
formed s k line _ (returns {name = name} g started) = inl (returning name, g)

-- a line says one thing at most
pub one_answer : (s : Bool) (k : Kind) (line : List ℕ) (a b : Result Asked LineRefusal) → Says s k line a → Says s k line b → a ≡ b
one_answer s k line a b p q = ⊎_elim
    (λ (f : (f : LineForm) × HasForm line f). one_given s k f.0 a b (gives s k line a f.0 p f.1) (gives s k line b f.0 q f.1))
    (λ (none : ((f : LineForm) → HasForm line f → ⊥) × (a ≡ Err BadLine)). ⊎_elim
    (λ (f : (f : LineForm) × HasForm line f). absurd (none.0 f.0 f.1))
    (λ (other : ((f : LineForm) → HasForm line f → ⊥) × (b ≡ Err BadLine)). none.1 ∙ sym other.1)
    (formed s k line b q))
    (formed s k line a p)
