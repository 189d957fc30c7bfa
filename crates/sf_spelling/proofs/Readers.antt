-- What a reader of a language promises.
use Rattle.std.proofs.Common.{◌≡◌, ℕ, ◌≤◌, List, ◌++◌, length, Ok, Err, sym, ap, subst, ◌∙◌, arith, length-append}
use Rattle.std.specs.Prelude.{⊤}
use Rattle.sf_decimal.specs.Decimals.{BeginsNoDigit}
use Rattle.sf_spelling.specs.Scan.{bad, fault, Scanned}
use Rattle.sf_value.specs.Values.{KeyData}
use Rattle.sf_spelling.specs.Reading.{Cause, EndsBefore}
use Rattle.sf_spelling.specs.Spelling.{key_spelling}

-- values with texts, in which items may have faults
pub record Language (A : Type 0) : Type 1 where
  pub Fit : A → Type 0
  pub text : A → List ℕ
  pub Fault : A → List ℕ → Cause → KeyData → Type 0
  pub some : A
  pub some_fit : Fit some
  -- an item with a fault stands in the text
  pub shown : (v : A) (before : List ℕ) (c : Cause) (i : KeyData) → Fault v before c i → (after : List ℕ) × (text v ≡ before ++ (key_spelling i ++ after))

module _ {A : Type 0} (l : Language A) where
  -- what is left where no text goes on
  pub record StopsAt (s rest : List ℕ) : Type 0 where
    pub value : A
    pub fit : l.Fit value
    pub front : List ℕ
    pub more : List ℕ
    pub cut : s ≡ front ++ rest
    pub good : l.text value ≡ front ++ more

  pub record FaultFrom (s : List ℕ) (c : Cause) (rest : List ℕ) : Type 0 where
    pub value : A
    pub fit : l.Fit value
    pub before : List ℕ
    pub key : KeyData
    pub more : List ℕ
    pub at : l.Fault value before c key
    pub cut : s ≡ before ++ rest
    pub is : rest ≡ key_spelling key ++ more
    pub ends : EndsBefore key more

  pub record Whole (s : List ℕ) (v : A) (rest : List ℕ) : Type 0 where
    pub fit : l.Fit v
    pub cut : s ≡ l.text v ++ rest
    pub clean : (before : List ℕ) (c : Cause) (i : KeyData) → l.Fault v before c i → ⊥

  abbrev pub Sound : List ℕ → Scanned A → Type 0
  Sound s (Ok p) = Whole s p.0 p.1
  Sound s (Err (bad rest)) = StopsAt s rest
  Sound s (Err (fault c rest)) = FaultFrom s c rest

abbrev pub Completes : {A : Type 0} (l : Language A) → A → List ℕ → Scanned A → Type 0
Completes l v more (Ok p) = (p.0 ≡ v) × (p.1 ≡ more)
Completes l v more (Err (bad rest)) = ⊥
Completes l v more (Err (fault c rest)) = (length more ≤ length rest) × ((before : List ℕ) × (i : KeyData) × l.Fault v before c i)

abbrev pub Within : {A : Type 0} → List ℕ → Scanned A → Type 0
Within back (Ok p) = length p.1 ≤ length back
Within back (Err (bad rest)) = length rest ≤ length back
Within back (Err (fault c rest)) = ⊤

abbrev pub NoneBefore : {A : Type 0} → ℕ → Scanned A → Type 0
NoneBefore left (Ok p) = ⊥
NoneBefore left (Err (bad rest)) = ⊥
NoneBefore left (Err (fault c rest)) = left ≤ length rest

-- what a reader of the language promises of what it gives of these bytes
pub record ReadsAt {A : Type 0} (l : Language A) (s : List ℕ) (o : Scanned A) : Type 0 where
  pub sound : Sound l s o
  -- a text before other bytes is read whole, or stops at a fault in it
  pub complete : (more : List ℕ) (v : A) → l.Fit v → BeginsNoDigit more → s ≡ l.text v ++ more → Completes l v more o
  -- no front of a text goes past where it stops
  pub longest : (f more back : List ℕ) (v : A) → l.Fit v → l.text v ≡ f ++ more → s ≡ f ++ back → Within back o
  -- no fault stands before where it stops
  pub first : (before more : List ℕ) (v : A) (c : Cause) (i : KeyData) → l.Fit v → l.Fault v before c i → s ≡ before ++ (key_spelling i ++ more) → EndsBefore i more
      → NoneBefore {A = A} (length (key_spelling i ++ more)) o

abbrev pub IsReader : {A : Type 0} → Language A → (List ℕ → Scanned A) → Type 0
IsReader l scan = (s : List ℕ) → ReadsAt l s (scan s)

-- what is left is no more than was there
pub never_grows : {A : Type 0} (l : Language A) (s : List ℕ) (o : Scanned A) → Sound l s o → Within s o
never_grows l s (Ok q) h = let e = ap length h.cut in omega (arith, e, length-append (l.text q.0) q.1)
never_grows l s (Err (bad rest)) h = let e = ap length h.cut in omega (arith, e, length-append h.front rest)
never_grows l s (Err (fault k rest)) h = tt

-- what is within fewer bytes is within more
pub within_more : {A : Type 0} (t back : List ℕ) (o : Scanned A) → length t ≤ length back → Within t o → Within back o
within_more t back (Ok q) k h = omega arith
within_more t back (Err (bad rest)) k h = omega arith
within_more t back (Err (fault j rest)) k h = tt

-- a reader that gives the same
pub same_reader : {A : Type 0} (l : Language A) (s : List ℕ) (o q : Scanned A) → o ≡ q → ReadsAt l s o → ReadsAt l s q
same_reader l s o q same h = subst (λ x. ReadsAt l s x) same h

-- what is read, as other values
abbrev pub mapped : {A B : Type 0} → (A → B) → Scanned A → Scanned B
mapped to (Ok p) = Ok (to p.0, p.1)
mapped to (Err e) = Err e

pub mapped_within : {A B : Type 0} (to : A → B) (b : List ℕ) (o : Scanned A) → Within b o → Within b (mapped to o)
mapped_within to b (Ok p) h = h
mapped_within to b (Err (bad rest)) h = h
mapped_within to b (Err (fault c rest)) h = tt

pub mapped_none : {A B : Type 0} (to : A → B) (left : ℕ) (o : Scanned A) → NoneBefore {A = A} left o → NoneBefore {A = B} left (mapped to o)
mapped_none to left (Ok p) h = h
mapped_none to left (Err (bad rest)) h = h
mapped_none to left (Err (fault c rest)) h = h

-- the same texts, of other values
module _ {A B : Type 0} (l : Language A) (m : Language B) (to : A → B)
    (fit : (a : A) → l.Fit a → m.Fit (to a)) (text : (a : A) → l.Fit a → m.text (to a) ≡ l.text a)
    (down : (a : A) (before : List ℕ) (c : Cause) (i : KeyData) → l.Fault a before c i → m.Fault (to a) before c i)
    (back : (a : A) (before : List ℕ) (c : Cause) (i : KeyData) → m.Fault (to a) before c i → l.Fault a before c i)
    (up : (b : B) → m.Fit b → (a : A) × (b ≡ to a) × l.Fit a) where
  map_sound : (s : List ℕ) (o : Scanned A) → Sound l s o → Sound m s (mapped to o)
  map_sound s (Ok p) h = record { fit = fit p.0 h.fit; cut = h.cut ∙ ap (λ x. x ++ p.1) (sym (text p.0 h.fit)); clean = λ before c i f. h.clean before c i (back p.0 before c i f) }
  map_sound s (Err (bad rest)) h = record { value = to h.value; fit = fit h.value h.fit; front = h.front; more = h.more; cut = h.cut; good = text h.value h.fit ∙ h.good }
  map_sound s (Err (fault c rest)) h = record { value = to h.value; fit = fit h.value h.fit; before = h.before; key = h.key; more = h.more; at = down h.value h.before c h.key h.at; cut = h.cut; is = h.is; ends = h.ends }

  map_completes : (a : A) (more : List ℕ) (o : Scanned A) → Completes l a more o → Completes m (to a) more (mapped to o)
  map_completes a more (Ok p) h = (ap to h.0, h.1)
  map_completes a more (Err (bad rest)) h = h
  map_completes a more (Err (fault c rest)) h = (h.0, (h.1.0, h.1.1, down a h.1.0 c h.1.1 h.1.2))

  pub map_reader : (s : List ℕ) (o : Scanned A) → ReadsAt l s o → ReadsAt m s (mapped to o)
  map_reader s o r = record {
    sound = map_sound s o r.sound;
    complete = λ more v f ends e. let u = up v f in
        subst (λ x. Completes m x more (mapped to o)) (sym u.1) (map_completes u.0 more o (r.complete more u.0 u.2 ends (e ∙ ap (λ x. m.text x ++ more) u.1 ∙ ap (λ x. x ++ more) (text u.0 u.2))));
    longest = λ f more b v h e g. let u = up v h in
        mapped_within to b o (r.longest f more b u.0 u.2 (sym (text u.0 u.2) ∙ ap m.text (sym u.1) ∙ e) g);
    first = λ before more v c i h f e ends. let u = up v h in
        mapped_none to (length (key_spelling i ++ more)) o (r.first before more u.0 c i u.2 (back u.0 before c i (subst (λ x. m.Fault x before c i) u.1 f)) e ends);
  }
