-- Reading a table.
use Rattle.std.proofs.Common.{◌≡◌, ◌⊎◌, inl, inr, ⊎_elim, ◌≤◌, ◌<◌, zero, suc, Bool, true, false, cond, List, [], ◌∷◌, ◌++◌, length, map, Ok, Err, refl, sym, ap, subst, ◌∙◌, arith, append_assoc, length-append, ℕ, pos, negsuc}
use Rattle.std.specs.Prelude.{◌==◌}
use Rattle.std.proofs.lemmas.Bool.{false≢true}
use Rattle.std.proofs.lemmas.Bool.Decides.{nat_tests}
use Rattle.sf_decimal.specs.Decimals.{BeginsNoDigit}
use Rattle.sf_value.specs.Values.{KeyKind, int_keys, text_keys, Kind, table_kind, KeyData, number_key, text_key, Data, table, Rows, no_rows, row}
use Rattle.sf_spelling.specs.Scan.{bad, fault, Scanned, ◌>>=◌, byte_at, scanned_key, new_key_at, scanned_row, put_row, scanned_more, scanned_rows, scanned_value}
use Rattle.sf_spelling.specs.Spelling.{key_spelling, spelling, more_spelling}
use Rattle.sf_spelling.specs.Reading.{HasKeyShape, HasShape, table_shape, HasRowShapes, no_rows_shape, row_shape, Cause, wide, again, HasFault, HasRowFault, IsWrongAfter, EndsBefore}
use Rattle.sf_decimal.proofs.Numbers.{natural_small}
use Rattle.sf_decimal.proofs.Digits.{numeral}
use Rattle.sf_spelling.proofs.Readers.{Language, ReadsAt, IsReader, Sound, Completes, Within, NoneBefore, never_grows, mapped, map_reader, same_reader}
use Rattle.sf_spelling.proofs.Sequences.{nothing, nothing_at, nothing_reader, after, after_reader}
use Rattle.sf_spelling.proofs.Parts.{then, then_at, with_first, then_reader}
use Rattle.sf_spelling.proofs.Choices.{either, either_at, either_reader, BeginsOther}
use Rattle.sf_spelling.proofs.Words.{mapped_bind, mapped_twice, mapped_is}
use Rattle.sf_spelling.proofs.Keys.{keys, KeyReads, key_reads, is_seen, seen_yes, seen_no}
use Rattle.sf_spelling.proofs.Languages.{kinds, row_text, rows_shown, more_is}

-- keys that are none of those seen
module _ (t : KeyKind) (seen : List KeyData) (s : List ℕ) where
  abbrev checked : Scanned KeyData → Scanned KeyData
  checked o = o >>= (λ l. cond (is_seen l.0 seen) (Err (fault again s)) (Ok l))

  wrong_more : (l : KeyData) (c : Cause) → IsWrongAfter [] l c → IsWrongAfter seen l c
  wrong_more l wide h = h
  wrong_more l again h = absurd h

  checked_sound : (o : Scanned KeyData) → ((p : KeyData × List ℕ) → o ≡ Ok p → EndsBefore p.0 p.1) → Sound (keys t []) s o → Sound (keys t seen) s (checked o)
  checked_sound (Ok l) ends h = each (is_seen l.0 seen) refl
    where
      clean : is_seen l.0 seen ≡ false → (before : List ℕ) (c : Cause) (k : KeyData) → (before ≡ []) × (k ≡ l.0) × IsWrongAfter seen l.0 c → ⊥
      clean e before wide k f = h.clean before wide k (f.0, f.1, f.2)
      clean e before again k f = false≢true (sym e ∙ seen_no l.0 seen f.2)

      each : (b : Bool) → is_seen l.0 seen ≡ b → Sound (keys t seen) s (cond b (Err (fault again s)) (Ok l))
      each true e = record { value = l.0; fit = h.fit; before = []; key = l.0; more = l.1; at = (refl, refl, seen_yes l.0 seen e); cut = refl; is = h.cut; ends = ends l refl }
      each false e = record { fit = h.fit; cut = h.cut; clean = clean e }
  checked_sound (Err (bad rest)) ends h = record { value = h.value; fit = h.fit; front = h.front; more = h.more; cut = h.cut; good = h.good }
  checked_sound (Err (fault c rest)) ends h = record { value = h.value; fit = h.fit; before = h.before; key = h.key; more = h.more; at = (h.at.0, h.at.1, wrong_more h.value c h.at.2); cut = h.cut; is = h.is; ends = h.ends }

  checked_completes : (v : KeyData) (more : List ℕ) → length more ≤ length s → (o : Scanned KeyData) → Completes (keys t []) v more o → Completes (keys t seen) v more (checked o)
  checked_completes v more len (Ok l) h = each (is_seen l.0 seen) refl
    where
      each : (b : Bool) → is_seen l.0 seen ≡ b → Completes (keys t seen) v more (cond b (Err (fault again s)) (Ok l))
      each true e = (len, ([], v, (refl, refl, seen_yes v seen (ap (λ x. is_seen x seen) (sym h.0) ∙ e))))
      each false e = h
  checked_completes v more len (Err (bad rest)) h = h
  checked_completes v more len (Err (fault c rest)) h = (h.0, (h.1.0, h.1.1, (h.1.2.0, h.1.2.1, wrong_more v c h.1.2.2)))

  checked_within : (back : List ℕ) (o : Scanned KeyData) → Within back o → Within back (checked o)
  checked_within back (Ok l) h = each (is_seen l.0 seen)
    where
      each : (b : Bool) → Within back (cond b (Err (fault again s)) (Ok l))
      each true = tt
      each false = h
  checked_within back (Err (bad rest)) h = h
  checked_within back (Err (fault c rest)) h = tt

  checked_none : (left : ℕ) (o : Scanned KeyData) → NoneBefore {A = KeyData} left o → NoneBefore {A = KeyData} left (checked o)
  checked_none left (Ok l) h = absurd h
  checked_none left (Err (bad rest)) h = h
  checked_none left (Err (fault c rest)) h = h

  -- a key seen before is a fault where it begins, or a number outside signed 64 bits there
  again_first : (v : KeyData) (more : List ℕ) → s ≡ key_spelling v ++ more → EndsBefore v more → HasKeyShape v t → is_seen v seen ≡ true → (o : Scanned KeyData) → KeyReads t s o
      → Completes (keys t []) v more o → NoneBefore {A = KeyData} (length (key_spelling v ++ more)) (checked o)
  again_first v more e b f y (Ok l) r h = rw (ap (λ x. is_seen x seen) h.0 ∙ y) (omega (arith, ap length e))
  again_first v more e b f y (Err (bad rest)) r h = absurd h
  again_first v more e b f y (Err (fault c rest)) r h =
      let at = h.1.2 in
      let same : key_spelling h.1.1 ≡ key_spelling v = ap key_spelling at.1 in
      let n : length (key_spelling h.1.1 ++ more) ≤ length rest = r.reads.first h.1.0 more v c h.1.1 f at (e ∙ ap (λ u. u ++ more) (sym same) ∙ ap (λ u. u ++ (key_spelling h.1.1 ++ more)) (sym at.0)) (subst (λ x. EndsBefore x more) (sym at.1) b) in
      omega (arith, n, ap (λ u. length (u ++ more)) same)

  checked_first : (o : Scanned KeyData) → KeyReads t s o → (before more : List ℕ) (v : KeyData) (c : Cause) (k : KeyData) → HasKeyShape v t → (before ≡ []) × (k ≡ v) × IsWrongAfter seen v c
      → s ≡ before ++ (key_spelling k ++ more) → EndsBefore k more → NoneBefore {A = KeyData} (length (key_spelling k ++ more)) (checked o)
  checked_first o r before more v wide k f at e b = checked_none (length (key_spelling k ++ more)) o (r.reads.first before more v wide k f (at.0, at.1, at.2) e b)
  checked_first o r before more v again k f at e b =
      let g : s ≡ key_spelling v ++ more = e ∙ ap (λ u. u ++ (key_spelling k ++ more)) at.0 ∙ ap (λ x. key_spelling x ++ more) at.1 in
      let ends : EndsBefore v more = subst (λ x. EndsBefore x more) at.1 b in
      subst (λ x. NoneBefore {A = KeyData} (length (key_spelling x ++ more)) (checked o)) (sym at.1) (again_first v more g ends f (seen_no v seen at.2) o r (r.whole v more f ends g))

  new_key_reads : ReadsAt (keys t seen) s (new_key_at t (map key_spelling seen) s)
  new_key_reads =
      let r = key_reads t s in
      let o = scanned_key t s in
      record {
        sound = checked_sound o r.ends r.reads.sound;
        complete = λ more v f b e. checked_completes v more (omega (arith, ap length e, length-append (key_spelling v) more)) o (r.reads.complete more v f b e);
        longest = λ f more back v h e g. checked_within back o (r.reads.longest f more back v h e g);
        first = λ before more v c k f at e b. checked_first o r before more v c k f at e b;
      }

module _ (t : KeyKind) (u : Kind) where
  -- a row after the keys seen
  abbrev row_language : List KeyData → Language (KeyData × Data)
  row_language seen = then (keys t seen) (λ _. after 58 (kinds u))

  -- what follows a row
  abbrev tails : List KeyData → Language Rows
  tails seen = record {
    Fit = λ rs. HasRowShapes rs t u;
    text = λ rs. more_spelling rs ++ 125 ∷ [];
    Fault = λ rs before c k. (x : List ℕ) × (before ≡ 44 ∷ x) × HasRowFault seen rs x c k;
    some = no_rows;
    some_fit = no_rows_shape;
    shown = λ rs before c k f. let s = rows_shown seen rs f.0 c k f.2 in (
      s.0 ++ 125 ∷ [],
      ap (λ u. u ++ 125 ∷ []) (more_is seen rs f.0 c k f.2 ∙ ap (λ u. 44 ∷ u) s.1)
          ∙ ap (λ u. 44 ∷ u) (append_assoc f.0 (key_spelling k ++ s.0) (125 ∷ []) ∙ ap (λ u. f.0 ++ u) (append_assoc (key_spelling k) s.0 (125 ∷ []))) ∙ ap (λ u. u ++ (key_spelling k ++ (s.0 ++ 125 ∷ []))) (sym f.1),
    );
  }

  -- a row and what follows it
  abbrev row_more : List KeyData → Language ((KeyData × Data) × Rows)
  row_more seen = then (row_language seen) (λ r. tails (r.0 ∷ seen))

  abbrev nested : List KeyData → Language (Unit {0} ⊎ ((KeyData × Data) × Rows))
  nested seen = either (after 125 nothing) (after 44 (row_more seen))

  abbrev to_rows : Unit {0} ⊎ ((KeyData × Data) × Rows) → Rows
  to_rows (inl _) = no_rows
  to_rows (inr r) = row r.0.0 r.0.1 r.1

  rows_fit : (seen : List KeyData) (a : Unit {0} ⊎ ((KeyData × Data) × Rows)) → (nested seen).Fit a → HasRowShapes (to_rows a) t u
  rows_fit seen (inl _) h = no_rows_shape
  rows_fit seen (inr r) h = row_shape h.0.0 h.0.1 h.1

  rows_up : (seen : List KeyData) (b : Rows) → HasRowShapes b t u → (a : Unit {0} ⊎ ((KeyData × Data) × Rows)) × (b ≡ to_rows a) × (nested seen).Fit a
  rows_up seen b no_rows_shape = (inl tt, refl, tt)
  rows_up seen b (row_shape {l = l} {x = x} {rs = rs} h k g) = (inr ((l, x), rs), refl, ((h, k), g))

  tails_text : (seen : List KeyData) (a : Unit {0} ⊎ ((KeyData × Data) × Rows)) → (nested seen).Fit a → more_spelling (to_rows a) ++ 125 ∷ [] ≡ (nested seen).text a
  tails_text seen (inl _) h = refl
  tails_text seen (inr r) h = append_assoc (44 ∷ row_text r.0.0 r.0.1) (more_spelling r.1) (125 ∷ [])

  -- a fault in a row and what follows it is one in rows
  more_down : (seen : List KeyData) (r : (KeyData × Data) × Rows) (before : List ℕ) (c : Cause) (k : KeyData) → (row_more seen).Fault r before c k → HasRowFault seen (row r.0.0 r.0.1 r.1) before c k
  more_down seen r before c k f = ⊎_elim
      (λ (g : (row_language seen).Fault r.0 before c k). ⊎_elim
      (λ (h : (before ≡ []) × (k ≡ r.0.0) × IsWrongAfter seen r.0.0 c). inl h)
      (λ (h : (y : List ℕ) × (before ≡ key_spelling r.0.0 ++ y) × ((x : List ℕ) × (y ≡ 58 ∷ x) × HasFault r.0.1 x c k)). inr (inl (h.2.0, h.1 ∙ ap (λ u. key_spelling r.0.0 ++ u) h.2.1, h.2.2)))
      g)
      (λ (g : (y : List ℕ) × (before ≡ row_text r.0.0 r.0.1 ++ y) × ((x : List ℕ) × (y ≡ 44 ∷ x) × HasRowFault (r.0.0 ∷ seen) r.1 x c k)). inr (inr (g.2.0, g.1 ∙ ap (λ u. row_text r.0.0 r.0.1 ++ u) g.2.1, g.2.2)))
      f

  more_back : (seen : List KeyData) (r : (KeyData × Data) × Rows) (before : List ℕ) (c : Cause) (k : KeyData) → HasRowFault seen (row r.0.0 r.0.1 r.1) before c k → (row_more seen).Fault r before c k
  more_back seen r before c k f = ⊎_elim
      (λ (h : (before ≡ []) × (k ≡ r.0.0) × IsWrongAfter seen r.0.0 c). inl (inl h))
      (λ (w : ((inner : List ℕ) × (before ≡ key_spelling r.0.0 ++ (58 ∷ inner)) × HasFault r.0.1 inner c k) ⊎ ((inner : List ℕ) × (before ≡ (key_spelling r.0.0 ++ (58 ∷ spelling r.0.1)) ++ (44 ∷ inner)) × HasRowFault (r.0.0 ∷ seen) r.1 inner c k)).
      ⊎_elim
      (λ (h : (inner : List ℕ) × (before ≡ key_spelling r.0.0 ++ (58 ∷ inner)) × HasFault r.0.1 inner c k). inl (inr (58 ∷ h.0, h.1, (h.0, refl, h.2))))
      (λ (h : (inner : List ℕ) × (before ≡ (key_spelling r.0.0 ++ (58 ∷ spelling r.0.1)) ++ (44 ∷ inner)) × HasRowFault (r.0.0 ∷ seen) r.1 inner c k). inr (44 ∷ h.0, h.1, (h.0, refl, h.2)))
      w)
      f

  tails_down : (seen : List KeyData) (a : Unit {0} ⊎ ((KeyData × Data) × Rows)) (before : List ℕ) (c : Cause) (k : KeyData) → (nested seen).Fault a before c k → (tails seen).Fault (to_rows a) before c k
  tails_down seen (inl _) before c k f = absurd f.2
  tails_down seen (inr r) before c k f = (f.0, f.1, more_down seen r f.0 c k f.2)

  tails_back : (seen : List KeyData) (a : Unit {0} ⊎ ((KeyData × Data) × Rows)) (before : List ℕ) (c : Cause) (k : KeyData) → (tails seen).Fault (to_rows a) before c k → (nested seen).Fault a before c k
  tails_back seen (inl _) before c k f = absurd f.2
  tails_back seen (inr r) before c k f = (f.0, f.1, more_back seen r f.0 c k f.2)

  tails_mark : (rs : Rows) → BeginsNoDigit (more_spelling rs ++ 125 ∷ [])
  tails_mark no_rows = refl
  tails_mark (row k x rs) = refl

  module _ (inner : List ℕ → Scanned Data) (r : IsReader (kinds u) inner) where
    abbrev colon_at : List ℕ → Scanned Data
    colon_at s = byte_at 58 s >>= inner

    abbrev pair_at : List KeyData → List ℕ → Scanned (KeyData × Data)
    pair_at seen s = then_at (λ _. colon_at) (new_key_at t (map key_spelling seen) s)

    pair_reads : (seen : List KeyData) (s : List ℕ) → ReadsAt (row_language seen) s (pair_at seen s)
    pair_reads seen s = then_reader (keys t seen) (λ _. after 58 (kinds u)) (λ _. colon_at) (λ _ _ _. refl) s (new_key_at t (map key_spelling seen) s) (new_key_reads t seen s)
        (λ _ a _. after_reader 58 (kinds u) inner a (λ b _. r b))

    pair_is : (seen : List KeyData) (s : List ℕ) → pair_at seen s ≡ scanned_row t inner (map key_spelling seen) s
    pair_is seen s = ap (λ g. new_key_at t (map key_spelling seen) s >>= g) (λ i l. with_is l i)
      where
        with_is : (l : KeyData × List ℕ) → with_first l.0 (colon_at l.1) ≡ (byte_at 58 l.1 >>= (λ e. inner e >>= (λ x. Ok ((l.0, x.0), x.1))))
        with_is l = mapped_bind (λ (b : Data). (l.0, b)) (byte_at 58 l.1) inner ∙ ap (λ g. byte_at 58 l.1 >>= g) (λ i e. mapped_is (λ (b : Data). (l.0, b)) (inner e) i)

    -- what is left behind a row is no more than was there
    pub row_left : (seen : List KeyData) (s : List ℕ) (q : KeyData × Data) (rest : List ℕ) → scanned_row t inner (map key_spelling seen) s ≡ Ok (q, rest) → length rest ≤ length s
    row_left seen s q rest e = subst (λ o. Within s o) (pair_is seen s ∙ e) (never_grows (row_language seen) s (pair_at seen s) (pair_reads seen s).sound)

    -- what stands behind a row, at most n rows of it
    abbrev rest_at : ℕ → List KeyData → List ℕ → Scanned Rows
    rest_at n seen s = scanned_more n t inner (map key_spelling seen) s

    abbrev both_at : ℕ → List KeyData → List ℕ → Scanned ((KeyData × Data) × Rows)
    both_at n seen s = then_at (λ q. rest_at n (q.0 ∷ seen)) (pair_at seen s)

    put_is : (q : KeyData × Data) (o : Scanned Rows) → mapped (λ (rs : Rows). row q.0 q.1 rs) o ≡ put_row q o
    put_is q (Ok rs) = refl
    put_is q (Err e) = refl

    abbrev row_then : ℕ → List KeyData → List ℕ → Scanned Rows
    row_then n seen s = scanned_row t inner (map key_spelling seen) s >>= (λ q. put_row q.0 (rest_at n (q.0.0 ∷ seen) q.1))

    both_by : (n : ℕ) (seen : List KeyData) (o : Scanned (KeyData × Data)) → mapped (λ (p : (KeyData × Data) × Rows). row p.0.0 p.0.1 p.1) (then_at (λ q. rest_at n (q.0 ∷ seen)) o) ≡ (o >>= (λ q. put_row q.0 (rest_at n (q.0.0 ∷ seen) q.1)))
    both_by n seen (Ok q) = mapped_twice (λ (p : (KeyData × Data) × Rows). row p.0.0 p.0.1 p.1) (λ (rs : Rows). (q.0, rs)) (rest_at n (q.0.0 ∷ seen) q.1) ∙ put_is q.0 (rest_at n (q.0.0 ∷ seen) q.1)
    both_by n seen (Err e) = refl

    both_is : (n : ℕ) (seen : List KeyData) (s : List ℕ) → mapped (λ (p : (KeyData × Data) × Rows). row p.0.0 p.0.1 p.1) (both_at n seen s) ≡ row_then n seen s
    both_is n seen s = both_by n seen (pair_at seen s) ∙ ap (λ o. o >>= (λ q. put_row q.0 (rest_at n (q.0.0 ∷ seen) q.1))) (pair_is seen s)

    abbrev end_at : List ℕ → Scanned (Unit {0})
    end_at s = byte_at 125 s >>= nothing_at

    abbrev lefts : Scanned (Unit {0}) → Scanned (Unit {0} ⊎ ((KeyData × Data) × Rows))
    lefts o = mapped inl o

    abbrev rights : Scanned ((KeyData × Data) × Rows) → Scanned (Unit {0} ⊎ ((KeyData × Data) × Rows))
    rights o = mapped inr o

    abbrev nested_at : ℕ → List KeyData → List ℕ → Scanned (Unit {0} ⊎ ((KeyData × Data) × Rows))
    nested_at n seen s = either_at 125 nothing (after 44 (row_more seen)) end_at (λ b. byte_at 44 b >>= both_at n seen) (λ _ _. refl) s

    nested_reads : (n : ℕ) (seen : List KeyData) (s : List ℕ) → ((l : KeyData) (a : List ℕ) → length a < length s → ReadsAt (tails (l ∷ seen)) a (rest_at n (l ∷ seen) a)) → ReadsAt (tails seen) s (mapped to_rows (nested_at n seen s))
    nested_reads n seen s more = map_reader (nested seen) (tails seen) to_rows (rows_fit seen) (tails_text seen) (tails_down seen) (tails_back seen) (rows_up seen) s (nested_at n seen s)
        (either_reader 125 nothing (after 44 (row_more seen)) end_at (λ b. byte_at 44 b >>= both_at n seen) (λ _ _. refl) s
        (after_reader 125 nothing nothing_at s (λ a _. nothing_reader a))
        (after_reader 44 (row_more seen) (both_at n seen) s
        (λ e k. then_reader (row_language seen) (λ q. tails (q.0 ∷ seen)) (λ q. rest_at n (q.0 ∷ seen)) (λ _ rs _. tails_mark rs) e (pair_at seen e) (pair_reads seen e) (λ q a m. more q.0 a (omega arith)))))

    row_is : (n : ℕ) (seen : List KeyData) (s : List ℕ) → mapped to_rows (rights (byte_at 44 s >>= both_at n seen)) ≡ (byte_at 44 s >>= row_then n seen)
    row_is n seen s = mapped_twice to_rows inr (byte_at 44 s >>= both_at n seen) ∙ mapped_bind (λ (p : (KeyData × Data) × Rows). row p.0.0 p.0.1 p.1) (byte_at 44 s) (both_at n seen) ∙ ap (λ g. byte_at 44 s >>= g) (λ i e. both_is n seen e i)

    rest_is : (n : ℕ) (seen : List KeyData) (c : ℕ) (s : List ℕ) → mapped to_rows (nested_at n seen (c ∷ s)) ≡ rest_at (suc n) seen (c ∷ s)
    rest_is n seen c s = each (c == 125)
      where
        each : (b : Bool) → mapped to_rows (cond b (lefts (cond b (Ok s) (Err (bad (c ∷ s))) >>= nothing_at)) (rights (byte_at 44 (c ∷ s) >>= both_at n seen))) ≡ cond b (Ok (no_rows, s)) (byte_at 44 (c ∷ s) >>= row_then n seen)
        each true = refl
        each false = row_is n seen (c ∷ s)

    rest_reads : (n : ℕ) (seen : List KeyData) (s : List ℕ) → length s ≤ n → ReadsAt (tails seen) s (rest_at n seen s)
    rest_reads zero seen [] h = nested_reads zero seen [] (λ l a k. absurd (omega arith))
    rest_reads zero seen (c ∷ s) h = absurd (omega arith)
    rest_reads (suc n) seen [] h = nested_reads zero seen [] (λ l a k. absurd (omega arith))
    rest_reads (suc n) seen (c ∷ s) h = same_reader (tails seen) (c ∷ s) _ _ (rest_is n seen c s) (nested_reads n seen (c ∷ s) (λ l a k. rest_reads n (l ∷ seen) a (omega arith)))

    -- a table
    abbrev inner_rows : Language (Unit {0} ⊎ ((KeyData × Data) × Rows))
    inner_rows = either (after 125 nothing) (row_more [])

    abbrev to_table : Unit {0} ⊎ ((KeyData × Data) × Rows) → Data
    to_table a = table (to_rows a)

    table_fit : (a : Unit {0} ⊎ ((KeyData × Data) × Rows)) → inner_rows.Fit a → HasShape (to_table a) (table_kind t u)
    table_fit (inl _) h = table_shape no_rows_shape
    table_fit (inr q) h = table_shape (row_shape h.0.0 h.0.1 h.1)

    table_up_rows : (b : Rows) → HasRowShapes b t u → (a : Unit {0} ⊎ ((KeyData × Data) × Rows)) × (table b ≡ to_table a) × inner_rows.Fit a
    table_up_rows b no_rows_shape = (inl tt, refl, tt)
    table_up_rows b (row_shape {l = l} {x = x} {rs = rs} h k g) = (inr ((l, x), rs), refl, ((h, k), g))

    table_up : (b : Data) → HasShape b (table_kind t u) → (a : Unit {0} ⊎ ((KeyData × Data) × Rows)) × (b ≡ to_table a) × inner_rows.Fit a
    table_up b (table_shape {rs = rs} h) = table_up_rows rs h

    table_text : (a : Unit {0} ⊎ ((KeyData × Data) × Rows)) → inner_rows.Fit a → spelling (to_table a) ≡ 123 ∷ inner_rows.text a
    table_text (inl _) h = refl
    table_text (inr q) h = ap (λ x. 123 ∷ x) (append_assoc (row_text q.0.0 q.0.1) (more_spelling q.1) (125 ∷ []))

    table_down : (a : Unit {0} ⊎ ((KeyData × Data) × Rows)) (before : List ℕ) (c : Cause) (k : KeyData) → (after 123 inner_rows).Fault a before c k → HasFault (to_table a) before c k
    table_down (inl _) before c k f = absurd f.2.2
    table_down (inr q) before c k f = (f.0, f.1, more_down [] q f.0 c k f.2)

    table_back : (a : Unit {0} ⊎ ((KeyData × Data) × Rows)) (before : List ℕ) (c : Cause) (k : KeyData) → HasFault (to_table a) before c k → (after 123 inner_rows).Fault a before c k
    table_back (inl _) before c k f = absurd f.2
    table_back (inr q) before c k f = (f.0, f.1, more_back [] q f.0 c k f.2)

    begins_append : (c : ℕ) (x y : List ℕ) → BeginsOther c x → BeginsOther c (x ++ y)
    begins_append c [] y h = absurd h
    begins_append c (d ∷ x) y h = h

    no_brace : (c : ℕ) → c < 58 → (c == 125) ≡ false
    no_brace c h = grind (arith, nat_tests)

    key_begins : (l : KeyData) → BeginsOther 125 (key_spelling l)
    key_begins (number_key (pos zero)) = subst (BeginsOther 125) (sym (natural_small 0 (omega arith))) refl
    key_begins (number_key (pos (suc n))) = let q = numeral (suc n) (omega arith) in subst (BeginsOther 125) (sym q.is) (no_brace q.head q.high)
    key_begins (number_key (negsuc n)) = refl
    key_begins (text_key s) = refl

    row_begins : (q : (KeyData × Data) × Rows) → BeginsOther 125 ((row_more []).text q)
    row_begins q = begins_append 125 (row_text q.0.0 q.0.1) (more_spelling q.1 ++ 125 ∷ []) (begins_append 125 (key_spelling q.0.0) (58 ∷ spelling q.0.1) (key_begins q.0.0))

    abbrev inner_at : List ℕ → Scanned (Unit {0} ⊎ ((KeyData × Data) × Rows))
    inner_at s = either_at 125 nothing (row_more []) end_at (λ b. both_at (length b) [] b) (λ q _. row_begins q) s

    inner_is : (s : List ℕ) → mapped to_rows (inner_at s) ≡ scanned_rows t inner s
    inner_is [] = mapped_twice to_rows inr (both_at 0 [] []) ∙ both_is 0 [] [] ∙ nothing_there t
      where
        nothing_there : (t : KeyKind) → (scanned_row t inner [] [] >>= (λ q. put_row q.0 (scanned_more 0 t inner (key_spelling q.0.0 ∷ []) q.1))) ≡ Err (bad [])
        nothing_there int_keys = refl
        nothing_there text_keys = refl
    inner_is (c ∷ s) = each (c == 125)
      where
        each : (b : Bool) → mapped to_rows (cond b (lefts (cond b (Ok s) (Err (bad (c ∷ s))) >>= nothing_at)) (rights (both_at (length (c ∷ s)) [] (c ∷ s)))) ≡ cond b (Ok (no_rows, s)) (row_then (length (c ∷ s)) [] (c ∷ s))
        each true = refl
        each false = mapped_twice to_rows inr (both_at (length (c ∷ s)) [] (c ∷ s)) ∙ both_is (length (c ∷ s)) [] (c ∷ s)

    inner_reads : (s : List ℕ) → ReadsAt inner_rows s (inner_at s)
    inner_reads s = either_reader 125 nothing (row_more []) end_at (λ b. both_at (length b) [] b) (λ q _. row_begins q) s (after_reader 125 nothing nothing_at s (λ a _. nothing_reader a))
        (then_reader (row_language []) (λ q. tails (q.0 ∷ [])) (λ q. rest_at (length s) (q.0 ∷ [])) (λ _ rs _. tails_mark rs) s (pair_at [] s) (pair_reads [] s) (λ q a m. rest_reads (length s) (q.0 ∷ []) a m))

    table_is : (s : List ℕ) → mapped to_table (byte_at 123 s >>= inner_at) ≡ (byte_at 123 s >>= (λ e. scanned_rows t inner e >>= (λ rs. Ok (table rs.0, rs.1))))
    table_is s = mapped_bind to_table (byte_at 123 s) inner_at ∙ ap (λ g. byte_at 123 s >>= g) (λ i e. each e i)
      where
        each : (e : List ℕ) → mapped to_table (inner_at e) ≡ (scanned_rows t inner e >>= (λ rs. Ok (table rs.0, rs.1)))
        each e = sym (mapped_twice table to_rows (inner_at e)) ∙ ap (mapped table) (inner_is e) ∙ mapped_is table (scanned_rows t inner e)

    pub table_reads : (s : List ℕ) → ReadsAt (kinds (table_kind t u)) s (byte_at 123 s >>= (λ e. scanned_rows t inner e >>= (λ rs. Ok (table rs.0, rs.1))))
    table_reads s = same_reader (kinds (table_kind t u)) s _ _ (table_is s)
        (map_reader (after 123 inner_rows) (kinds (table_kind t u)) to_table table_fit table_text table_down table_back table_up s (byte_at 123 s >>= inner_at) (after_reader 123 inner_rows inner_at s (λ e _. inner_reads e)))

pub table_reader : (t : KeyKind) (u : Kind) → IsReader (kinds u) (scanned_value u) → IsReader (kinds (table_kind t u)) (scanned_value (table_kind t u))
unfolding scanned_value
table_reader t u r s = table_reads t u (scanned_value u) r s
