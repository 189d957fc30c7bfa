-- What the parts of a line make of it.
use Rattle.std.proofs.Common.{◌≡◌, ◌≢◌, ◌↔◌, ℕ, suc, ◌-◌, ◌<◌, ◌≤◌, min, Bool, true, false, List, [], ◌∷◌, ◌++◌, length, take, drop, get_or, codes, Some, None, Result, Ok, Err, refl, sym, ◌∙◌, ap, subst, arith}
use Rattle.std.specs.Prelude.{IsTrue, IfOk, IfErr}
use Rattle.std.specs.Char.{is_ascii_digit}
use Rattle.std.specs.Str.Parse.{digits_value}
use Rattle.std.proofs.lemmas.Bool.{false≢true}
use Rattle.std.proofs.lemmas.Bool.Decides.{nat_tests}
use Rattle.sf_value.specs.Values.{Kind, Data}
use Rattle.sf_decimal.specs.Decimals.{natural, BeginsNoDigit, digits_at, after_digits}
use Rattle.sf_spelling.specs.Reading.{Refusal, bad_value, out_of_range, duplicate_key, Reads}
use Rattle.sf_spelling.specs.Refuses.{Refuses}
use Rattle.sf_spelling.specs.declared.read.ReadRefusal.{ReadRefusal}
use Rattle.sf_spelling.specs.declared.read.ReadRefusal.TheVariants as read
use Rattle.sf_decimal.proofs.Numbers.{natural_small}
use Rattle.sf_decimal.proofs.Digits.{digit_low, digit_from, numeral_at, natural-cut, natural-head}
use Rattle.sf_decimal.proofs.Runs.{take_whole}
use Rattle.sf_lines.specs.declared.refusal.LineRefusal.{LineRefusal}
use Rattle.sf_lines.specs.declared.refusal.LineRefusal.TheVariants.{Memory, NotStarted}
use Rattle.sf_lines.specs.Refusals.{refusal_from}
use Rattle.sf_lines.specs.Asking.{LineForm, blank, sampled, repeated, HasForm, empty, comment, with_value, unchanged, with_save, with_back, advance, step_refusal, time_refusal, value_refusal, sample_asked, Says, untimely, unread, read, again, HasTimelyValue}
use Rattle.sf_lines.specs.declared.reader.Command.{Command}
use Rattle.sf_lines.specs.Commands.{command_asked}
use Rattle.sf_lines.specs.Parsing.{step_cap, NumberThen, BeginsNoNumber, StepThen, BeginsNoStep, NoNameBehind}
use Rattle.sf_lines.proofs.Forms.{no_digit, save_first, back_first, number_or_name}

-- a value that is not read is refused, unless memory runs out
pub read_failed : (k : Kind) (bytes : List ℕ) (e : ReadRefusal) (r : LineRefusal) → Refuses k bytes e → r ≡ refusal_from e → r ≢ Memory → (why : Refusal) × Reads k bytes (Err why) × (r ≡ value_refusal why)
read_failed k bytes (read.BadValue n) r h e some = (bad_value n, h, e)
read_failed k bytes (read.OutOfRange n) r h e some = (out_of_range n, h, e)
read_failed k bytes (read.DuplicateKey n) r h e some = (duplicate_key n, h, e)
read_failed k bytes read.Memory r h e some = absurd (some e)

-- the first of some bytes, and the others
pub first_is : (bytes : List ℕ) (c : ℕ) → 1 ≤ length bytes → get_or bytes 0 0 ≡ c → bytes ≡ c ∷ take (length bytes - 1) (drop 1 bytes)
first_is [] c h e = absurd (omega arith)
first_is (b ∷ bytes) c h e =
    let len : suc (length bytes) - 1 ≡ length bytes = omega arith in
    let all : take (suc (length bytes) - 1) bytes ≡ bytes = rw len (take_whole bytes) in
    rw all (ap (λ x. x ∷ bytes) e)

pub none_empty : (bytes : List ℕ) → length bytes < 1 → BeginsNoNumber bytes
none_empty bytes h d rest e =
    let n = natural-head d in
    let f : bytes ≡ n.head ∷ (n.tail ++ rest) = e ∙ ap (λ x. x ++ rest) n.is in
    let g = ap length f in
    omega arith

pub none_other : (bytes : List ℕ) (c : ℕ) (more : List ℕ) → bytes ≡ c ∷ more → is_ascii_digit c ≡ false → BeginsNoNumber bytes
none_other bytes c more b no_digit_there d rest e =
    let n = natural-head d in
    let f : c ∷ more ≡ n.head ∷ (n.tail ++ rest) = sym b ∙ e ∙ ap (λ x. x ++ rest) n.is in
    let same : c ≡ n.head = cc in
    false≢true (sym no_digit_there ∙ ap is_ascii_digit same ∙ digit_from n.head n.low n.high)

pub number_zero : (bytes rest : List ℕ) → bytes ≡ 48 ∷ rest → NumberThen bytes 0 rest
number_zero bytes rest e = record {
  number = 0;
  capped = refl;
  cut = e ∙ ap (λ x. x ++ rest) (sym (natural_small 0 (omega arith)));
  ends = λ some. absurd (omega arith);
}

pub number_some : (bytes : List ℕ) (c : ℕ) (rest : List ℕ) (n : ℕ) (more : List ℕ) → bytes ≡ c ∷ rest → c ≢ 48 → is_ascii_digit c ≡ true → n ≡ min (digits_value 10 (digits_at bytes)) step_cap → more ≡ after_digits bytes → NumberThen bytes n more
number_some bytes c rest n more b other digit e f =
    let low = digit_low c digit in
    let is = numeral_at c rest (omega arith) digit in
    let number = digits_value 10 (digits_at (c ∷ rest)) in
    let same : more ≡ after_digits (c ∷ rest) = f ∙ ap after_digits b in
    record {
      number = number;
      capped = e ∙ ap (λ x. min (digits_value 10 (digits_at x)) step_cap) b;
      cut = b ∙ is.1 ∙ ap (λ x. natural number ++ x) (sym same);
      ends = λ some. subst BeginsNoDigit (sym same) is.2;
    }

-- another byte than a space behind the number
pub no_step : (bytes : List ℕ) (n : ℕ) (rest : List ℕ) → NumberThen bytes n rest → ((value : List ℕ) → rest ≡ 32 ∷ value → ⊥) → BeginsNoStep bytes
no_step bytes n rest h other d value e = other value (natural-cut h.number d rest (32 ∷ value) h.ends (no_digit d value) (sym h.cut ∙ e)).1

pub no_step_empty : (bytes : List ℕ) (n : ℕ) (rest : List ℕ) → NumberThen bytes n rest → length rest < 1 → BeginsNoStep bytes
no_step_empty bytes n rest h none = no_step bytes n rest h (λ value e. let f = ap length e in omega arith)

pub no_step_other : (bytes : List ℕ) (n : ℕ) (rest : List ℕ) (c : ℕ) (more : List ℕ) → NumberThen bytes n rest → rest ≡ c ∷ more → c ≢ 32 → BeginsNoStep bytes
no_step_other bytes n rest c more h b other = no_step bytes n rest h (λ value e. let same : c ≡ 32 = cc in other same)

pub no_step_none : (bytes : List ℕ) → BeginsNoNumber bytes → BeginsNoStep bytes
no_step_none bytes none d rest e = none d (32 ∷ rest) e

pub step_then : (bytes : List ℕ) (n : ℕ) (rest value : List ℕ) → NumberThen bytes n rest → rest ≡ 32 ∷ value → StepThen bytes n value
step_then bytes n rest value h e = record {
  step = h.number;
  capped = h.capped;
  cut = h.cut ∙ ap (λ x. natural h.number ++ x) e;
}

-- a line without a step and without a name has no form but the blank one
pub formless_none : (bytes : List ℕ) → (HasForm bytes blank → ⊥) → NoNameBehind (codes "save ") bytes → NoNameBehind (codes "back ") bytes → BeginsNoStep bytes → (form : LineForm) → HasForm bytes form → ⊥
formless_none bytes some no_save no_back none form h = at bytes form h some no_save no_back none
  where
    at : (bytes : List ℕ) (form : LineForm) → HasForm bytes form → (HasForm bytes blank → ⊥) → NoNameBehind (codes "save ") bytes → NoNameBehind (codes "back ") bytes → BeginsNoStep bytes → ⊥
    at _ _ empty some no_save no_back none = some empty
    at _ _ comment some no_save no_back none = some comment
    at _ _ (with_value {value = value} {d = d} e n) some no_save no_back none = none d value e
    at _ _ (unchanged {d = d} e n) some no_save no_back none = none d (codes "=") e
    at _ _ (with_save {name = name} e w) some no_save no_back none = no_save name e w
    at _ _ (with_back {name = name} e w) some no_save no_back none = no_back name e w

-- a step of 0 with the input unchanged
pub formless_zero : (bytes : List ℕ) (n : ℕ) (value : List ℕ) → (HasForm bytes blank → ⊥) → StepThen bytes n value → value ≡ codes "=" → n ≡ 0 → (form : LineForm) → HasForm bytes form → ⊥
formless_zero bytes n value some s is zero_step form h = at bytes form h some s
  where
    at : (bytes : List ℕ) (form : LineForm) → HasForm bytes form → (HasForm bytes blank → ⊥) → StepThen bytes n value → ⊥
    at _ _ empty some s = some empty
    at _ _ comment some s = some comment
    at _ _ (with_value {value = other} {d = d} e other_value) some s =
        let same = natural-cut s.step d (32 ∷ value) (32 ∷ other) (no_digit s.step value) (no_digit d other) (sym s.cut ∙ e) in
        let rests = same.1 in
        let values : other ≡ codes "=" = cc in
        other_value values
    at _ _ (unchanged {d = d} e positive) some s =
        let same = natural-cut s.step d (32 ∷ value) (codes " =") (no_digit s.step value) (no_digit d (codes "=")) (sym s.cut ∙ e) in
        let steps = same.0 in
        let capped = s.capped in
        omega arith
    at bytes _ (with_save {name = name} e w) some s = number_or_name bytes s.step 115 (32 ∷ value) s.cut (save_first name bytes e) (omega arith)
    at bytes _ (with_back {name = name} e w) some s = number_or_name bytes s.step 98 (32 ∷ value) s.cut (back_first name bytes e) (omega arith)

-- a time step up to the cap has the refusal of the step itself
pub step_refusal-capped : (s : Bool) (n d : ℕ) → n ≡ min d step_cap → step_refusal s n ≡ step_refusal s d
step_refusal-capped false n d e = let P : n ≡ 0 → d ≡ 0 = λ z. omega arith in grind (arith, nat_tests)
step_refusal-capped true n d e = grind (arith, nat_tests)

-- and is that step, where it isn't refused
pub timely_step : (s : Bool) (n d : ℕ) → n ≡ min d step_cap → step_refusal s n ≡ None → n ≡ d
timely_step false n d e h = grind (arith, nat_tests)
timely_step true n d e h = grind (arith, nat_tests)

-- a line of no bytes is blank
pub blank_empty : (bytes : List ℕ) → length bytes < 1 → HasForm bytes blank
blank_empty [] h = empty
blank_empty (b ∷ bytes) h = absurd (omega arith)

-- and so is a comment, and no other line
pub blank_comment : (bytes : List ℕ) (c : ℕ) (more : List ℕ) → bytes ≡ c ∷ more → (c ≡ 35 → HasForm bytes blank) × (HasForm bytes blank → c ≡ 35)
blank_comment bytes c more e = (
  λ is. subst (λ x. HasForm x blank) (ap (λ x. x ∷ more) (sym is) ∙ sym e) comment,
  λ h. at bytes h e,
)
  where
    at : (bytes : List ℕ) → HasForm bytes blank → bytes ≡ c ∷ more → c ≡ 35
    at _ empty e = cc
    at _ comment e = cc

-- what the test of a line for a blank one told
pub not_blank : (b : Bool) (P : Type 0) → b ≡ false → (IsTrue b ↔ P) → P → ⊥
not_blank b P e h p = false≢true (sym e ∙ h.1 p)

-- what the test of a value for `=` told
pub step_positive : (n d : ℕ) → n ≡ min d step_cap → 0 < n → 0 < d
step_positive n d e h = omega arith

-- a refused time step refuses the line
module _ (s : Bool) (k : Kind) (bytes : List ℕ) (n d : ℕ) (r : LineRefusal) where
  pub says_late_value : (value : List ℕ) → n ≡ min d step_cap → HasForm bytes (sampled d value) → Some r ≡ step_refusal s n → Says s k bytes (Err r)
  says_late_value value e h refused = untimely h (sym (step_refusal-capped s n d e) ∙ sym refused)

  pub says_late_again : n ≡ min d step_cap → HasForm bytes (repeated d) → Some r ≡ step_refusal s n → Says s k bytes (Err r)
  says_late_again e h refused = untimely h (sym (step_refusal-capped s n d e) ∙ sym refused)

-- no time step is refused for want of memory
pub step_memory : (s : Bool) (n : ℕ) (r : LineRefusal) → Some r ≡ step_refusal s n → r ≢ Memory
step_memory s n r refused lack = no_memory s n (refused_so s n r refused lack)
  where
    refused_so : (s : Bool) (n : ℕ) (r : LineRefusal) → Some r ≡ step_refusal s n → r ≡ Memory → step_refusal s n ≡ Some Memory
    refused_so s n r refused lack = sym refused ∙ ap (λ x. Some x) lack

    no_memory : (s : Bool) (n : ℕ) → step_refusal s n ≡ Some Memory → ⊥
    no_memory false n e = grind (arith, nat_tests)
    no_memory true n e = grind (arith, nat_tests)

-- a command of a value at a time step
abbrev pub IsCommandAt : Kind → ℕ → List ℕ → Command → Type 0
IsCommandAt k n value c = (x : Data) × Reads k value (Ok x) × (command_asked c ≡ sample_asked n x)

abbrev pub IsRefusalOf : Kind → List ℕ → LineRefusal → Type 0
IsRefusalOf k value e = e ≢ Memory → (r : Refusal) × Reads k value (Err r) × (e ≡ value_refusal r)

module _ (s : Bool) (k : Kind) (bytes : List ℕ) (n d : ℕ) (value : List ℕ) where
  pub says_command : n ≡ min d step_cap → HasForm bytes (sampled d value) → None ≡ step_refusal s n → (result : Result Command LineRefusal) → IfOk result (IsCommandAt k n value) → IfOk result (λ c. Says s k bytes (Ok (command_asked c)))
  says_command e h timely (Ok c) is =
      let same : n ≡ d = timely_step s n d e (sym timely) in
      let asked : sample_asked d is.0 ≡ command_asked c = ap (λ t. sample_asked t is.0) (sym same) ∙ sym is.2 in
      subst (λ a. Says s k bytes (Ok a)) asked (read h (sym (step_refusal-capped s n d e) ∙ sym timely) is.1)
  says_command e h timely (Err r) is = is

  pub says_failure : n ≡ min d step_cap → HasForm bytes (sampled d value) → None ≡ step_refusal s n → (result : Result Command LineRefusal) → IfErr result (IsRefusalOf k value) → IfErr result (λ r. r ≢ Memory → Says s k bytes (Err r))
  says_failure e h timely (Ok c) is = is
  says_failure e h timely (Err r) is = λ some.
      let why = is some in
      subst (λ a. Says s k bytes (Err a)) (sym why.2) (unread why.0 h (sym (step_refusal-capped s n d e) ∙ sym timely) why.1)

  -- where memory runs out for the value
  pub takes_value : n ≡ min d step_cap → HasForm bytes (sampled d value) → None ≡ step_refusal s n → (result : Result Command LineRefusal) → IfErr result (λ r. r ≡ Memory → HasTimelyValue s bytes)
  takes_value e h timely (Ok c) = tt
  takes_value e h timely (Err r) = λ lack. record { step = d; value = value; form = h; timely = sym (step_refusal-capped s n d e) ∙ sym timely }

-- a step with the input unchanged
pub says_again : (s : Bool) (k : Kind) (bytes : List ℕ) (n d : ℕ) → n ≡ min d step_cap → HasForm bytes (repeated d) → None ≡ step_refusal s n → Says s k bytes (Ok (advance n None))
says_again s k bytes n d e h timely =
    let same : n ≡ d = timely_step s n d e (sym timely) in
    subst (λ t. Says s k bytes (Ok (advance t None))) (sym same) (again h (sym (step_refusal-capped s n d e) ∙ sym timely))

-- before the start nothing is kept or returned to
pub says_early : (s : Bool) (k : Kind) (bytes : List ℕ) (form : LineForm) → HasForm bytes form → s ≡ false → time_refusal false form ≡ Some NotStarted → Says s k bytes (Err NotStarted)
says_early s k bytes form h e early = untimely h (ap (λ b. time_refusal b form) e ∙ early)
