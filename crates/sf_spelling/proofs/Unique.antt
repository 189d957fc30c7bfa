-- Bytes are read in one way.
use Rattle.std.proofs.Common.{◌≡◌, ◌⊎◌, inl, inr, ⊎_elim, ℕ, ◌-◌, ◌≤◌, ◌<◌, List, [], ◌∷◌, ◌++◌, length, Result, Ok, Err, refl, sym, ap, subst, ◌∙◌, arith, append_assoc, length-append}
use Rattle.std.specs.Prelude.{codes}
use Rattle.sf_value.specs.Values.{Kind, KeyData, number_key, text_key, Data, unit, truth, number, text, pair, no_event, event, table, Rows, no_rows, row, IsOneOf, HasKind}
use Rattle.sf_spelling.specs.Scan.{bad, fault, Scanned, scanned_value}
use Rattle.sf_spelling.specs.Spelling.{spelling, key_spelling}
use Rattle.sf_spelling.specs.Reading.{Cause, wide, again, IsWide, HasFault, HasRowFault, EndsBefore, IsLongestGood, IsFaultAt, Refusal, bad_value, out_of_range, duplicate_key, refused_place, IsRefused, Reads}
use Rattle.sf_spelling.proofs.Readers.{NoneBefore}
use Rattle.sf_spelling.proofs.Sequences.{key_some}
use Rattle.sf_spelling.proofs.Unmixed.{whole_at, whole_read, one_answer}
use Rattle.sf_spelling.proofs.Languages.{kinds}
use Rattle.sf_spelling.proofs.Settled.{answer, shaped, none_sooner, only}

not_answered : (left len : ℕ) (v : Data) (o : Scanned Data) → NoneBefore {A = Data} left o → answer len o ≡ Ok v → ⊥
not_answered left len v (Ok p) h e = h
not_answered left len v (Err (bad rest)) h e = h
not_answered left len v (Err (fault wide rest)) h e = cc
not_answered left len v (Err (fault again rest)) h e = cc

abbrev InRow : KeyData → Data → Rows → List KeyData → List ℕ → Cause → KeyData → Type 0
InRow l x rs seen before c k = ((inner : List ℕ) × (before ≡ key_spelling l ++ (58 ∷ inner)) × HasFault x inner c k) ⊎ ((inner : List ℕ) × (before ≡ (key_spelling l ++ (58 ∷ spelling x)) ++ (44 ∷ inner)) × HasRowFault (l ∷ seen) rs inner c k)

mutual
  -- a number at which the fault is that it is wide is wide
  wide_at : (v : Data) (before : List ℕ) (k : KeyData) → HasFault v before wide k → IsWide k
  wide_at (number n) before k f = subst IsWide (sym f.2) f.3
  wide_at (pair x y) before k f = ⊎_elim
      (λ (g : (inner : List ℕ) × (before ≡ 40 ∷ inner) × HasFault x inner wide k). wide_at x g.0 k g.2)
      (λ (g : (inner : List ℕ) × (before ≡ (40 ∷ spelling x) ++ (44 ∷ inner)) × HasFault y inner wide k). wide_at y g.0 k g.2) f
  wide_at (event x) before k f = wide_at x f.0 k f.2
  wide_at (table rs) before k f = wide_at_rows [] rs f.0 k f.2
  wide_at unit before k f = absurd f
  wide_at (truth b) before k f = absurd f
  wide_at (text s) before k f = absurd f
  wide_at no_event before k f = absurd f

  wide_at_rows : (seen : List KeyData) (rs : Rows) (before : List ℕ) (k : KeyData) → HasRowFault seen rs before wide k → IsWide k
  wide_at_rows seen no_rows before k f = absurd f
  wide_at_rows seen (row l x rs) before k f = ⊎_elim
      (λ (g : (before ≡ []) × (k ≡ l) × IsWide l). subst IsWide (sym g.1) g.2)
      (λ (w : InRow l x rs seen before wide k). ⊎_elim
      (λ (g : (inner : List ℕ) × (before ≡ key_spelling l ++ (58 ∷ inner)) × HasFault x inner wide k). wide_at x g.0 k g.2)
      (λ (g : (inner : List ℕ) × (before ≡ (key_spelling l ++ (58 ∷ spelling x)) ++ (44 ∷ inner)) × HasRowFault (l ∷ seen) rs inner wide k). wide_at_rows (l ∷ seen) rs g.0 k g.2) w) f

-- the same key stands earlier, before a colon, where its fault is that it is wide
pub record Earlier (v : Data) (before : List ℕ) (k : KeyData) : Type 0 where
  pub front : List ℕ
  pub more : List ℕ
  pub at : HasFault v front wide k
  pub is : before ≡ front ++ (key_spelling k ++ (58 ∷ more))

pub record EarlierRow (seen : List KeyData) (rs : Rows) (before : List ℕ) (k : KeyData) : Type 0 where
  pub front : List ℕ
  pub more : List ℕ
  pub at : HasRowFault seen rs front wide k
  pub is : before ≡ front ++ (key_spelling k ++ (58 ∷ more))

regroup : (p f k m : List ℕ) → p ++ (f ++ (k ++ (58 ∷ m))) ≡ (p ++ f) ++ (k ++ (58 ∷ m))
regroup p f k m = sym (append_assoc p f (k ++ (58 ∷ m)))

first_row : (k x i : List ℕ) → (k ++ (58 ∷ x)) ++ (44 ∷ i) ≡ k ++ (58 ∷ (x ++ (44 ∷ i)))
first_row k x i = append_assoc k (58 ∷ x) (44 ∷ i)

mutual
  earlier : (v : Data) (before : List ℕ) (k : KeyData) → IsWide k → HasFault v before again k → Earlier v before k
  earlier (number n) before k w f = absurd cc
  earlier (pair x y) before k w f = ⊎_elim
      (λ (g : (inner : List ℕ) × (before ≡ 40 ∷ inner) × HasFault x inner again k). let e = earlier x g.0 k w g.2 in
      record { front = 40 ∷ e.front; more = e.more; at = inl (e.front, refl, e.at); is = g.1 ∙ ap (λ u. 40 ∷ u) e.is })
      (λ (g : (inner : List ℕ) × (before ≡ (40 ∷ spelling x) ++ (44 ∷ inner)) × HasFault y inner again k). let e = earlier y g.0 k w g.2 in
      record { front = (40 ∷ spelling x) ++ (44 ∷ e.front); more = e.more; at = inr (e.front, refl, e.at); is = g.1 ∙ ap (λ u. (40 ∷ spelling x) ++ (44 ∷ u)) e.is ∙ regroup (40 ∷ spelling x) (44 ∷ e.front) (key_spelling k) e.more })
      f
  earlier (event x) before k w f = let e = earlier x f.0 k w f.2 in
      record { front = codes "event " ++ e.front; more = e.more; at = (e.front, refl, e.at); is = f.1 ∙ ap (λ u. codes "event " ++ u) e.is }
  earlier (table rs) before k w f = ⊎_elim
      (λ (o : IsOneOf k []). absurd o)
      (λ (e : EarlierRow [] rs f.0 k). record { front = 123 ∷ e.front; more = e.more; at = (e.front, refl, e.at); is = f.1 ∙ ap (λ u. 123 ∷ u) e.is })
      (earlier_rows [] rs f.0 k w f.2)
  earlier unit before k w f = absurd f
  earlier (truth b) before k w f = absurd f
  earlier (text s) before k w f = absurd f
  earlier no_event before k w f = absurd f

  earlier_rows : (seen : List KeyData) (rs : Rows) (before : List ℕ) (k : KeyData) → IsWide k → HasRowFault seen rs before again k → IsOneOf k seen ⊎ EarlierRow seen rs before k
  earlier_rows seen no_rows before k w f = absurd f
  earlier_rows seen (row l x rs) before k w f = ⊎_elim
      (λ (g : (before ≡ []) × (k ≡ l) × IsOneOf l seen). inl (subst (λ y. IsOneOf y seen) (sym g.1) g.2))
      (λ (i : InRow l x rs seen before again k). ⊎_elim
      (λ (g : (inner : List ℕ) × (before ≡ key_spelling l ++ (58 ∷ inner)) × HasFault x inner again k). let e = earlier x g.0 k w g.2 in
      inr (record { front = key_spelling l ++ (58 ∷ e.front); more = e.more; at = inr (inl (e.front, refl, e.at)); is = g.1 ∙ ap (λ u. key_spelling l ++ (58 ∷ u)) e.is ∙ regroup (key_spelling l) (58 ∷ e.front) (key_spelling k) e.more }))
      (λ (g : (inner : List ℕ) × (before ≡ (key_spelling l ++ (58 ∷ spelling x)) ++ (44 ∷ inner)) × HasRowFault (l ∷ seen) rs inner again k). ⊎_elim
      (λ (o : (k ≡ l) ⊎ IsOneOf k seen). ⊎_elim
      (λ (same : k ≡ l). inr (record {
        front = [];
        more = spelling x ++ (44 ∷ g.0);
        at = inl (refl, same, subst IsWide same w);
        is = g.1 ∙ first_row (key_spelling l) (spelling x) g.0 ∙ ap (λ y. key_spelling y ++ (58 ∷ (spelling x ++ (44 ∷ g.0)))) (sym same);
      }))
      (λ (o : IsOneOf k seen). inl o) o)
      (λ (e : EarlierRow (l ∷ seen) rs g.0 k). inr (record {
        front = (key_spelling l ++ (58 ∷ spelling x)) ++ (44 ∷ e.front);
        more = e.more;
        at = inr (inr (e.front, refl, e.at));
        is = g.1 ∙ ap (λ u. (key_spelling l ++ (58 ∷ spelling x)) ++ (44 ∷ u)) e.is ∙ regroup (key_spelling l ++ (58 ∷ spelling x)) (44 ∷ e.front) (key_spelling k) e.more;
      }))
      (earlier_rows (l ∷ seen) rs g.0 k w g.2))
      i)
      f

-- what follows fronts of one length
after_front : (f g x y : List ℕ) → length f ≡ length g → f ++ x ≡ g ++ y → x ≡ y
after_front [] [] x y l e = e
after_front [] (d ∷ g) x y l e = absurd (omega arith)
after_front (c ∷ f) [] x y l e = absurd (omega arith)
after_front (c ∷ f) (d ∷ g) x y l e = after_front f g x y (omega arith) (cc)

-- keys of one place are one key, where one of them is wide
one_wide : (k l : KeyData) (r s : List ℕ) → IsWide k → EndsBefore k r → EndsBefore l s → key_spelling k ++ r ≡ key_spelling l ++ s → k ≡ l
one_wide (number_key y) (number_key z) r s w b d e = ap number_key (one_answer (whole_at (key_spelling (number_key y) ++ r)) (whole_at (key_spelling (number_key z) ++ s)) y z r s (whole_read y r b) (ap whole_at e) (whole_read z s d)).0
one_wide (number_key y) (text_key v) r s w b d e = let is = sym (whole_read y r b) ∙ ap whole_at e in absurd cc
one_wide (text_key v) l r s w b d e = absurd w

module _ (t : Kind) (bytes : List ℕ) where
  one_value : (v w : Data) → HasKind v t → bytes ≡ spelling v → HasKind w t → bytes ≡ spelling w → v ≡ w
  one_value v w h e g f = let is : Ok v ≡ Ok w = sym (only t bytes v h e) ∙ only t bytes w g f in cc

  -- the spelling of a value is not refused
  not_refused : (v : Data) → HasKind v t → bytes ≡ spelling v → (r : Refusal) → IsRefused t bytes r → ⊥
  not_refused v h e (bad_value n) g = g.1 v (shaped t v h) (sym e)
  not_refused v h e (out_of_range n) g = not_answered (length bytes - n) (length bytes) v (scanned_value t bytes) (none_sooner t bytes wide n g) (only t bytes v h e)
  not_refused v h e (duplicate_key n) g = not_answered (length bytes - n) (length bytes) v (scanned_value t bytes) (none_sooner t bytes again n g) (only t bytes v h e)

  -- a number or key with a fault is within the longest good front
  fault_within : (c : Cause) (n k : ℕ) → IsLongestGood t bytes n → IsFaultAt t bytes c k → k < n
  fault_within c n k g h =
      let shown = (kinds t).shown h.value h.before c h.key h.fault in
      let front = h.before ++ key_spelling h.key in
      let good : spelling h.value ≡ front ++ shown.0 = shown.1 ∙ sym (append_assoc h.before (key_spelling h.key) shown.0) in
      let within = g.longest front h.more (h.whole ∙ sym (append_assoc h.before (key_spelling h.key) h.more)) (h.value, h.shape, shown.0, good) in
      omega (arith, within, h.len, length-append h.before (key_spelling h.key), key_some h.key)

  -- where a wide number is a key that stood before, it is wide at an earlier place
  wide_sooner : (n : ℕ) → IsFaultAt t bytes wide n → IsFaultAt t bytes again n → (m : ℕ) × (m < n) × IsFaultAt t bytes wide m
  wide_sooner n f g =
      let w = wide_at f.value f.before f.key f.fault in
      let tails : key_spelling f.key ++ f.more ≡ key_spelling g.key ++ g.more = after_front f.before g.before _ _ (f.len ∙ sym g.len) (sym f.whole ∙ g.whole) in
      let same : f.key ≡ g.key = one_wide f.key g.key f.more g.more w f.ends g.ends tails in
      let e = earlier g.value g.before g.key (subst IsWide same w) g.fault in
      let rest = 58 ∷ (e.more ++ (key_spelling g.key ++ g.more)) in
      let whole : bytes ≡ e.front ++ (key_spelling g.key ++ rest) =
      g.whole ∙ ap (λ u. u ++ (key_spelling g.key ++ g.more)) e.is ∙ append_assoc e.front (key_spelling g.key ++ (58 ∷ e.more)) (key_spelling g.key ++ g.more)
      ∙ ap (λ u. e.front ++ u) (append_assoc (key_spelling g.key) (58 ∷ e.more) (key_spelling g.key ++ g.more)) in
      let shorter : length e.front < n = omega (arith, ap length e.is, length-append e.front (key_spelling g.key ++ (58 ∷ e.more)), length-append (key_spelling g.key) (58 ∷ e.more), g.len) in
      (length e.front, shorter, record { value = g.value; shape = g.shape; before = e.front; key = g.key; more = rest; fault = e.at; whole = whole; ends = ends_colon g.key (e.more ++ (key_spelling g.key ++ g.more)); len = refl })
    where
      ends_colon : (k : KeyData) (m : List ℕ) → EndsBefore k (58 ∷ m)
      ends_colon (number_key z) m = refl
      ends_colon (text_key s) m = tt

  abbrev IsLeast : Refusal → Type 0
  IsLeast r = (other : Refusal) → IsRefused t bytes other → refused_place r ≤ refused_place other

  not_both : (n m : ℕ) → IsFaultAt t bytes wide n → IsFaultAt t bytes again m → IsLeast (out_of_range n) → n ≡ m → ⊥
  not_both n m f g least e =
      let s = wide_sooner n f (subst (λ x. IsFaultAt t bytes again x) (sym e) g) in
      let l = least (out_of_range s.0) s.2 in omega (arith, l, s.1)

  one_refusal : (r s : Refusal) → IsRefused t bytes r → IsRefused t bytes s → IsLeast r → IsLeast s → refused_place r ≡ refused_place s → r ≡ s
  one_refusal (bad_value n) (bad_value m) g h l k e = ap bad_value e
  one_refusal (bad_value n) (out_of_range m) g h l k e = absurd (let q = fault_within wide n m g.0 h in omega arith)
  one_refusal (bad_value n) (duplicate_key m) g h l k e = absurd (let q = fault_within again n m g.0 h in omega arith)
  one_refusal (out_of_range n) (bad_value m) g h l k e = absurd (let q = fault_within wide m n h.0 g in omega arith)
  one_refusal (out_of_range n) (out_of_range m) g h l k e = ap out_of_range e
  one_refusal (out_of_range n) (duplicate_key m) g h l k e = absurd (not_both n m g h l e)
  one_refusal (duplicate_key n) (bad_value m) g h l k e = absurd (let q = fault_within again m n h.0 g in omega arith)
  one_refusal (duplicate_key n) (out_of_range m) g h l k e = absurd (not_both m n h g k (sym e))
  one_refusal (duplicate_key n) (duplicate_key m) g h l k e = ap duplicate_key e

  pub one_reading : (r s : Result Data Refusal) → Reads t bytes r → Reads t bytes s → r ≡ s
  one_reading (Ok v) (Ok w) g h = ap Ok (one_value v w g.0 g.1 h.0 h.1)
  one_reading (Ok v) (Err s) g h = absurd (not_refused v g.0 g.1 s h.0)
  one_reading (Err r) (Ok w) g h = absurd (not_refused w h.0 h.1 r g.0)
  one_reading (Err r) (Err s) g h = ap Err (one_refusal r s g.0 h.0 g.1 h.1 (let a = g.1 s h.0 in let b = h.1 r g.0 in omega arith))
