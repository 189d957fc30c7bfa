-- What reading all the bytes answers is the value that they spell, or the refusal with the least place.
use Rattle.std.proofs.Common.{◌≡◌, ◌⊎◌, inl, inr, ⊎_elim, ℕ, ◌-◌, ◌≤◌, Bool, true, false, List, [], ◌∷◌, ◌++◌, length, Result, Ok, Err, refl, sym, ap, subst, ◌∙◌, arith, append-nil, length-append, ℤ}
use Rattle.std.proofs.lemmas.Bool.{false≢true}
use Rattle.std.specs.Prelude.{codes}
use Rattle.sf_value.specs.Values.{KeyKind, Kind, KeyData, number_key, Data, Rows, is_narrow, IsOneOf, HasNewKeys, HasKeyKind, has_int_key, has_text_key, HasKind, has_unit, has_bool, has_int, has_text, has_pair, has_no_event, has_event, has_table, HasRowKinds, has_no_rows, has_row}
use Rattle.sf_spelling.specs.Scan.{Stop, bad, fault, Scanned, scanned_value}
use Rattle.sf_spelling.specs.Spelling.{spelling, key_spelling}
use Rattle.sf_spelling.specs.Reading.{HasKeyShape, int_key_shape, text_key_shape, HasShape, unit_shape, bool_shape, int_shape, text_shape, pair_shape, no_event_shape, event_shape, table_shape, HasRowShapes, no_rows_shape, row_shape, Cause, wide, again, IsWide, IsWrongAfter, HasFault, HasRowFault, IsGood, IsLongestGood, IsFaultAt, Refusal, bad_value, out_of_range, duplicate_key, refused_place, IsRefused, Reads}
use Rattle.sf_spelling.proofs.Readers.{Sound, Whole, StopsAt, FaultFrom, Completes, Within, NoneBefore}
use Rattle.sf_spelling.proofs.Languages.{kinds}
use Rattle.sf_spelling.proofs.EachKind.{reader}

-- the place where so many bytes of len are left
abbrev pub refusal : ℕ → Stop → Refusal
refusal len (bad rest) = bad_value (len - length rest)
refusal len (fault wide rest) = out_of_range (len - length rest)
refusal len (fault again rest) = duplicate_key (len - length rest)

-- what reading all the bytes answers
abbrev pub answer : ℕ → Scanned Data → Result Data Refusal
answer len (Ok (v, [])) = Ok v
answer len (Ok (v, x ∷ rest)) = Err (bad_value (len - length (x ∷ rest)))
answer len (Err stop) = Err (refusal len stop)

-- a number that is not outside signed 64 bits is within them
narrow_by : (z : ℤ) → (is_narrow z ≡ false → ⊥) → is_narrow z ≡ true
narrow_by z h = each (is_narrow z) refl
  where
    each : (b : Bool) → is_narrow z ≡ b → is_narrow z ≡ true
    each true e = e
    each false e = absurd (h e)

typed_key : (k : KeyKind) (l : KeyData) → HasKeyShape l k → (IsWide l → ⊥) → HasKeyKind l k
typed_key k l (int_key_shape {z = z}) h = has_int_key (narrow_by z h)
typed_key k l (text_key_shape u) h = has_text_key u

mutual
  -- a value of a type's shape with no fault has the type
  pub typed : (t : Kind) (v : Data) → HasShape v t → ((before : List ℕ) (c : Cause) (k : KeyData) → HasFault v before c k → ⊥) → HasKind v t
  typed t v unit_shape clean = has_unit
  typed t v bool_shape clean = has_bool
  typed t v (int_shape {z = z}) clean = has_int (narrow_by z (λ e. clean [] wide (number_key z) (refl, refl, refl, e)))
  typed t v (text_shape u) clean = has_text u
  typed t v (pair_shape {x = x} {y = y} {t = l} {u = r} h k) clean = has_pair
      (typed l x h (λ before c z f. clean (40 ∷ before) c z (inl (before, refl, f))))
      (typed r y k (λ before c z f. clean ((40 ∷ spelling x) ++ (44 ∷ before)) c z (inr (before, refl, f))))
  typed t v no_event_shape clean = has_no_event
  typed t v (event_shape {x = x} {t = u} h) clean = has_event (typed u x h (λ before c k f. clean (codes "event " ++ before) c k (before, refl, f)))
  typed t v (table_shape {rs = rs} {k = k} {t = u} h) clean =
      let r = typed_rows k u rs [] h (λ before c l f. clean (123 ∷ before) c l (before, refl, f)) in has_table r.0 r.1

  typed_rows : (k : KeyKind) (t : Kind) (rs : Rows) (seen : List KeyData) → HasRowShapes rs k t → ((before : List ℕ) (c : Cause) (l : KeyData) → HasRowFault seen rs before c l → ⊥) → HasRowKinds rs k t × HasNewKeys seen rs
  typed_rows k t rs seen no_rows_shape clean = (has_no_rows, tt)
  typed_rows k t rs seen (row_shape {l = l} {x = x} {rs = more} h g i) clean =
      let r = typed_rows k t more (l ∷ seen) i (λ before c j f. clean ((key_spelling l ++ (58 ∷ spelling x)) ++ (44 ∷ before)) c j (inr (inr (before, refl, f)))) in (
        has_row (typed_key k l h (λ w. clean [] wide l (inl (refl, refl, w)))) (typed t x g (λ before c j f. clean (key_spelling l ++ (58 ∷ before)) c j (inr (inl (before, refl, f))))) r.0,
        (λ o. clean [] again l (inl (refl, refl, o)), r.1),
      )

pub shaped_key : (k : KeyKind) (l : KeyData) → HasKeyKind l k → HasKeyShape l k
shaped_key k l (has_int_key h) = int_key_shape
shaped_key k l (has_text_key u) = text_key_shape u

mutual
  pub shaped : (t : Kind) (v : Data) → HasKind v t → HasShape v t
  shaped t v has_unit = unit_shape
  shaped t v has_bool = bool_shape
  shaped t v (has_int h) = int_shape
  shaped t v (has_text u) = text_shape u
  shaped t v (has_pair h k) = pair_shape (shaped _ _ h) (shaped _ _ k)
  shaped t v has_no_event = no_event_shape
  shaped t v (has_event h) = event_shape (shaped _ _ h)
  shaped t v (has_table h d) = table_shape (shaped_rows _ _ _ h)

  shaped_rows : (k : KeyKind) (t : Kind) (rs : Rows) → HasRowKinds rs k t → HasRowShapes rs k t
  shaped_rows k t rs has_no_rows = no_rows_shape
  shaped_rows k t rs (has_row h g i) = row_shape (shaped_key _ _ h) (shaped _ _ g) (shaped_rows _ _ _ i)

not_wide : (k : KeyKind) (l : KeyData) → HasKeyKind l k → IsWide l → ⊥
not_wide k l (has_int_key h) w = false≢true (sym w ∙ h)
not_wide k l (has_text_key u) w = w

not_wrong : (k : KeyKind) (l : KeyData) (seen : List KeyData) (c : Cause) → HasKeyKind l k → (IsOneOf l seen → ⊥) → IsWrongAfter seen l c → ⊥
not_wrong k l seen wide h n w = not_wide k l h w
not_wrong k l seen again h n w = n w

mutual
  pub faultless : (t : Kind) (v : Data) → HasKind v t → (before : List ℕ) (c : Cause) (k : KeyData) → HasFault v before c k → ⊥
  faultless t v has_unit before c k f = f
  faultless t v has_bool before c k f = f
  faultless t v (has_int h) before c k f = false≢true (sym f.3 ∙ h)
  faultless t v (has_text u) before c k f = f
  faultless t v (has_pair {x = x} {y = y} h g) before c k f = ⊎_elim
      (λ (q : (inner : List ℕ) × (before ≡ 40 ∷ inner) × HasFault x inner c k). faultless _ x h q.0 c k q.2)
      (λ (q : (inner : List ℕ) × (before ≡ (40 ∷ spelling x) ++ (44 ∷ inner)) × HasFault y inner c k). faultless _ y g q.0 c k q.2)
      f
  faultless t v has_no_event before c k f = f
  faultless t v (has_event {x = x} h) before c k f = faultless _ x h f.0 c k f.2
  faultless t v (has_table {rs = rs} h d) before c k f = faultless_rows _ _ rs [] h d f.0 c k f.2

  faultless_rows : (k : KeyKind) (t : Kind) (rs : Rows) (seen : List KeyData) → HasRowKinds rs k t → HasNewKeys seen rs → (before : List ℕ) (c : Cause) (l : KeyData) → HasRowFault seen rs before c l → ⊥
  faultless_rows k t rs seen has_no_rows d before c j f = f
  faultless_rows k t rs seen (has_row {l = l} {x = x} {rs = more} h g i) d before c j f = ⊎_elim
      (λ (q : (before ≡ []) × (j ≡ l) × IsWrongAfter seen l c). not_wrong k l seen c h d.0 q.2)
      (λ (w : ((inner : List ℕ) × (before ≡ key_spelling l ++ (58 ∷ inner)) × HasFault x inner c j) ⊎ ((inner : List ℕ) × (before ≡ (key_spelling l ++ (58 ∷ spelling x)) ++ (44 ∷ inner)) × HasRowFault (l ∷ seen) more inner c j)).
      ⊎_elim
      (λ (q : (inner : List ℕ) × (before ≡ key_spelling l ++ (58 ∷ inner)) × HasFault x inner c j). faultless _ x g q.0 c j q.2)
      (λ (q : (inner : List ℕ) × (before ≡ (key_spelling l ++ (58 ∷ spelling x)) ++ (44 ∷ inner)) × HasRowFault (l ∷ seen) more inner c j). faultless_rows k t more (l ∷ seen) i d.1 q.0 c j q.2)
      w)
      f

module _ (t : Kind) (bytes : List ℕ) where
  abbrev outcome : Scanned Data
  outcome = scanned_value t bytes

  -- a number with a fault comes no sooner than where reading stops
  pub none_sooner : (c : Cause) (k : ℕ) → IsFaultAt t bytes c k → NoneBefore {A = Data} (length bytes - k) outcome
  none_sooner c k f =
      let h = (reader t bytes).first f.before f.more f.value c f.key f.shape f.fault f.whole f.ends in
      let e = ap length f.whole in
      let same : length (key_spelling f.key ++ f.more) ≡ length bytes - k = omega (arith, e, f.len, length-append f.before (key_spelling f.key ++ f.more)) in
      subst (λ n. NoneBefore {A = Data} n outcome) same h

  -- the front that was read is as long as any
  longest : (n : ℕ) (front rest : List ℕ) → bytes ≡ front ++ rest → length front ≡ n → IsGood t front → ((f m : List ℕ) → bytes ≡ f ++ m → IsGood t f → length rest ≤ length m) → IsLongestGood t bytes n
  longest n front rest e l g h = record {
    front = front;
    more = rest;
    cut = e;
    len = l;
    good = g;
    longest = λ f m e' g'. let a = ap length e in let b = ap length e' in let k = h f m e' g' in omega (arith, length-append front rest, length-append f m);
  }

  -- a longer good front than one that is good
  no_later : (front rest : List ℕ) (k : ℕ) → bytes ≡ front ++ rest → IsGood t front → IsLongestGood t bytes k → length bytes - length rest ≤ k
  no_later front rest k e g h = let a = ap length e in let b = h.longest front rest e g in omega (arith, length-append front rest)

  abbrev Ends : Scanned Data → Type 0
  Ends o = (f m : List ℕ) → bytes ≡ f ++ m → IsGood t f → Within m o

  abbrev Meets : Scanned Data → Type 0
  Meets o = (v : Data) → HasShape v t → bytes ≡ spelling v → Completes (kinds t) v [] o

  stops_least : (rest : List ℕ) (front : List ℕ) → bytes ≡ front ++ rest → IsGood t front → ((c : Cause) (k : ℕ) → IsFaultAt t bytes c k → ⊥)
      → (other : Refusal) → IsRefused t bytes other → length bytes - length rest ≤ refused_place other
  stops_least rest front e g nowhere (bad_value k) h = no_later front rest k e g h.0
  stops_least rest front e g nowhere (out_of_range k) h = absurd (nowhere wide k h)
  stops_least rest front e g nowhere (duplicate_key k) h = absurd (nowhere again k h)

  bad_stops : (rest : List ℕ) → StopsAt (kinds t) bytes rest → Ends (Err (bad rest)) → Meets (Err (bad rest)) → ((c : Cause) (k : ℕ) → IsFaultAt t bytes c k → ⊥)
      → Reads t bytes (Err (bad_value (length bytes - length rest)))
  bad_stops rest h ends meets nowhere =
      let e = ap length h.cut in
      let len : length h.front ≡ length bytes - length rest = omega (arith, e, length-append h.front rest) in
      let good : IsGood t h.front = (h.value, h.fit, h.more, h.good) in (
        (longest (length bytes - length rest) h.front rest h.cut len good ends, λ v fit is. meets v fit (sym is)),
        stops_least rest h.front h.cut good nowhere,
      )

  more_stops : (v : Data) (x : ℕ) (rest : List ℕ) → Whole (kinds t) bytes v (x ∷ rest) → Ends (Ok (v, x ∷ rest)) → Meets (Ok (v, x ∷ rest)) → ((c : Cause) (k : ℕ) → IsFaultAt t bytes c k → ⊥)
      → Reads t bytes (Err (bad_value (length bytes - length (x ∷ rest))))
  more_stops v x rest h ends meets nowhere =
      let e = ap length h.cut in
      let len : length (spelling v) ≡ length bytes - length (x ∷ rest) = omega (arith, e, length-append (spelling v) (x ∷ rest)) in
      let good : IsGood t (spelling v) = (v, h.fit, [], sym (append-nil (spelling v))) in (
        (longest (length bytes - length (x ∷ rest)) (spelling v) (x ∷ rest) h.cut len good ends, λ w fit is. let m = (meets w fit (sym is)).1 in cc),
        stops_least (x ∷ rest) (spelling v) h.cut good nowhere,
      )

  fault_at : (c : Cause) (rest : List ℕ) → FaultFrom (kinds t) bytes c rest → IsFaultAt t bytes c (length bytes - length rest)
  fault_at c rest h = let e = ap length h.cut in record {
    value = h.value;
    shape = h.fit;
    before = h.before;
    key = h.key;
    more = h.more;
    fault = h.at;
    whole = h.cut ∙ ap (λ x. h.before ++ x) h.is;
    ends = h.ends;
    len = omega (arith, length-append h.before rest);
  }

  fault_least : (c : Cause) (rest : List ℕ) → FaultFrom (kinds t) bytes c rest → ((d : Cause) (k : ℕ) → IsFaultAt t bytes d k → length bytes - k ≤ length rest)
      → (other : Refusal) → IsRefused t bytes other → length bytes - length rest ≤ refused_place other
  fault_least c rest h nowhere (bad_value k) g =
      let f = (kinds t).shown h.value h.before c h.key h.at in
      no_later h.before rest k h.cut (h.value, h.fit, key_spelling h.key ++ f.0, f.1) g.0
  fault_least c rest h nowhere (out_of_range k) g = let n = nowhere wide k g in omega arith
  fault_least c rest h nowhere (duplicate_key k) g = let n = nowhere again k g in omega arith

  settled : (o : Scanned Data) → Sound (kinds t) bytes o → Ends o → Meets o → ((c : Cause) (k : ℕ) → IsFaultAt t bytes c k → NoneBefore {A = Data} (length bytes - k) o) → Reads t bytes (answer (length bytes) o)
  settled (Ok (v, [])) h ends meets nowhere = (typed t v h.fit h.clean, h.cut ∙ append-nil (spelling v))
  settled (Ok (v, x ∷ rest)) h ends meets nowhere = more_stops v x rest h ends meets nowhere
  settled (Err (bad rest)) h ends meets nowhere = bad_stops rest h ends meets nowhere
  settled (Err (fault wide rest)) h ends meets nowhere = (fault_at wide rest h, fault_least wide rest h nowhere)
  settled (Err (fault again rest)) h ends meets nowhere = (fault_at again rest h, fault_least again rest h nowhere)

  -- the answer is the value or the refusal with the least place
  pub reads : Reads t bytes (answer (length bytes) outcome)
  reads = settled outcome ((reader t bytes).sound)
      (λ f m e g. (reader t bytes).longest f g.2 m g.0 g.1 g.3 e)
      (λ v h e. (reader t bytes).complete [] v h tt (e ∙ sym (append-nil (spelling v))))
      none_sooner

  only_value : (v : Data) → ((before : List ℕ) (c : Cause) (k : KeyData) → HasFault v before c k → ⊥) → (o : Scanned Data) → Completes (kinds t) v [] o → answer (length bytes) o ≡ Ok v
  only_value v clean (Ok (w, [])) h = ap Ok h.0
  only_value v clean (Ok (w, x ∷ rest)) h = absurd (let e : x ∷ rest ≡ [] = h.1 in cc)
  only_value v clean (Err (bad rest)) h = absurd h
  only_value v clean (Err (fault c rest)) h = absurd (clean h.1.0 c h.1.1 h.1.2)

  -- what is spelled so is answered
  pub only : (v : Data) → HasKind v t → bytes ≡ spelling v → answer (length bytes) outcome ≡ Ok v
  only v h e = only_value v (faultless t v h) outcome ((reader t bytes).complete [] v (shaped t v h) tt (e ∙ sym (append-nil (spelling v))))
