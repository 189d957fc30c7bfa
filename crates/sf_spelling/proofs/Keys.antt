-- Reading texts and keys.
use Rattle.std.proofs.Common.{◌≡◌, ◌⊎◌, inl, inr, ⊎_elim, ℤ, pos, Bool, true, false, cond, List, [], ◌∷◌, ◌++◌, length, map, Ok, Err, refl, sym, ap, subst, ◌∙◌, append-nil, ℕ}
use Rattle.std.specs.Prelude.{⊤, ◌||◌}
use Rattle.std.specs.List.{flat_map, list_any}
use Rattle.std.specs.Str.{IsUtf8, bytes_eq}
use Rattle.std.proofs.lemmas.Bool.{false≢true}
use Rattle.std.proofs.lemmas.Str.{IsUtf8-nil}
use Rattle.std.proofs.lemmas.Slice.Eq.{bytes_eq-Decides}
use Rattle.sf_decimal.specs.Decimals.{BeginsNoDigit}
use Rattle.sf_value.specs.Values.{KeyKind, int_keys, text_keys, text_kind, KeyData, number_key, text_key, Data, text, IsOneOf}
use Rattle.sf_spelling.specs.Scan.{bad, Scanned, ◌>>=◌, byte_at, between, scanned_text, begins_digit, scanned_integer, scanned_key, scanned_value}
use Rattle.sf_spelling.specs.Spelling.{escaped, quoted, key_spelling}
use Rattle.sf_spelling.specs.Reading.{HasKeyShape, int_key_shape, text_key_shape, HasShape, text_shape, Cause, wide, again, IsWrongAfter, EndsBefore}
use Rattle.sf_spelling.proofs.Readers.{Language, ReadsAt, IsReader, Sound, Completes, Within, NoneBefore, mapped, map_reader, same_reader}
use Rattle.sf_spelling.proofs.Sequences.{after, after_reader}
use Rattle.sf_spelling.proofs.Machine.{out, ways, raw_at, raw_whole, raw_reader, body_same}
use Rattle.sf_spelling.proofs.Texts.{spelled_leads}
use Rattle.sf_spelling.proofs.Spelled.{leads_spelled}
use Rattle.sf_spelling.proofs.Integers.{integers, integers_reader}
use Rattle.sf_spelling.proofs.Words.{mapped_bind, mapped_is}
use Rattle.sf_spelling.proofs.Languages.{kinds}
use Rattle.sf_spelling.proofs.Unmixed.{one_key}

-- texts between quotes
abbrev pub texts : Language (List ℕ)
texts = record { Fit = IsUtf8; text = quoted; Fault = λ _ _ _ _. ⊥; some = []; some_fit = IsUtf8-nil; shown = λ v before c i f. absurd f }

abbrev raws : Language (List ℕ)
raws = after 34 (ways between tt)

text_up : (b : List ℕ) → IsUtf8 b → (a : List ℕ) × (b ≡ out between a) × raws.Fit a
text_up b u = let k = spelled_leads b u in (flat_map escaped b ++ 34 ∷ [], sym (append-nil b) ∙ sym k.same, k.leads)

text_same : (s : List ℕ) → mapped (out between) (byte_at 34 s >>= raw_at between) ≡ scanned_text s
text_same s = mapped_bind (out between) (byte_at 34 s) (raw_at between) ∙ ap (λ g. byte_at 34 s >>= g) (λ i e. sym (body_same between e) i)

pub texts_reader : IsReader texts scanned_text
texts_reader s = same_reader texts s _ _ (text_same s)
    (map_reader raws texts (out between) (λ a l. (leads_spelled a l).utf8) (λ a l. ap (λ u. 34 ∷ u) (sym (leads_spelled a l).is)) (λ _ _ _ _ f. absurd f.2) (λ _ _ _ _ f. absurd f) text_up s
    (byte_at 34 s >>= raw_at between) (after_reader 34 (ways between tt) (raw_at between) s (λ t _. raw_reader between tt t)))

-- a text is read whole, whatever follows it
pub text_whole : (v more : List ℕ) → IsUtf8 v → scanned_text (quoted v ++ more) ≡ Ok (v, more)
text_whole v more u =
    let k = spelled_leads v u in
    let x = flat_map escaped v ++ 34 ∷ [] in
    body_same between (x ++ more) ∙ ap (mapped (out between)) (raw_whole between x more k.leads) ∙ ap (λ w. Ok (w, more)) (k.same ∙ append-nil v)

text_value_up : (b : Data) → HasShape b text_kind → (a : List ℕ) × (b ≡ text a) × IsUtf8 a
text_value_up b (text_shape {s = s} u) = (s, refl, u)

text_value_same : (s : List ℕ) → mapped text (scanned_text s) ≡ scanned_value text_kind s
unfolding scanned_value
text_value_same s = mapped_is text (scanned_text s)

pub text_reader : IsReader (kinds text_kind) (scanned_value text_kind)
text_reader s = same_reader (kinds text_kind) s _ _ (text_value_same s)
    (map_reader texts (kinds text_kind) text (λ _ u. text_shape u) (λ _ _. refl) (λ _ _ _ _ f. absurd f) (λ _ _ _ _ f. absurd f) text_value_up s (scanned_text s) (texts_reader s))

-- keys of a type, after those seen
abbrev key_example : KeyKind → KeyData
key_example int_keys = number_key (pos 0)
key_example text_keys = text_key []

pub key_example_fits : (k : KeyKind) → HasKeyShape (key_example k) k
key_example_fits int_keys = int_key_shape
key_example_fits text_keys = text_key_shape IsUtf8-nil

pub key_shown : (v : KeyData) (before : List ℕ) (k : KeyData) → before ≡ [] → k ≡ v → key_spelling v ≡ before ++ (key_spelling k ++ [])
key_shown v before k b e = ap key_spelling (sym e) ∙ sym (append-nil (key_spelling k)) ∙ ap (λ x. x ++ (key_spelling k ++ [])) (sym b)

abbrev pub keys : KeyKind → List KeyData → Language KeyData
keys t seen = record {
  Fit = λ l. HasKeyShape l t;
  text = key_spelling;
  Fault = λ l before c k. (before ≡ []) × (k ≡ l) × IsWrongAfter seen l c;
  some = key_example t;
  some_fit = key_example_fits t;
  shown = λ v before c k f. ([], key_shown v before k f.0 f.1);
}

-- what is read of a key ends it, and is read again whatever may follow it
pub record KeyReads (t : KeyKind) (s : List ℕ) (o : Scanned KeyData) : Type 0 where
  pub reads : ReadsAt (keys t []) s o
  pub ends : (p : KeyData × List ℕ) → o ≡ Ok p → EndsBefore p.0 p.1
  pub whole : (v : KeyData) (more : List ℕ) → HasKeyShape v t → EndsBefore v more → s ≡ key_spelling v ++ more → Completes (keys t []) v more o

-- a number whose digits end where it ends
abbrev ended_at : Scanned ℤ → Scanned ℤ
ended_at (Ok n) = cond (begins_digit n.1) (Err (bad n.1)) (Ok n)
ended_at (Err e) = Err e

module _ (s : List ℕ) where
  ended_sound : (o : Scanned ℤ) → Sound integers s o → Sound integers s (ended_at o)
  ended_sound (Ok n) h = each (begins_digit n.1)
    where
      each : (b : Bool) → Sound integers s (cond b (Err (bad n.1)) (Ok n))
      each true = record { value = n.0; fit = tt; front = integers.text n.0; more = []; cut = h.cut; good = sym (append-nil (integers.text n.0)) }
      each false = h
  ended_sound (Err e) h = h

  ended_completes : (v : ℤ) (more : List ℕ) → BeginsNoDigit more → (o : Scanned ℤ) → Completes integers v more o → Completes integers v more (ended_at o)
  ended_completes v more b (Ok n) h = rw (no_digit more n.1 h.1 b) h
    where
      no_digit : (more rest : List ℕ) → rest ≡ more → BeginsNoDigit more → begins_digit rest ≡ false
      no_digit [] rest e b = ap begins_digit e
      no_digit (c ∷ more) rest e b = ap begins_digit e ∙ b
  ended_completes v more b (Err e) h = h

  ended_within : (back : List ℕ) (o : Scanned ℤ) → Within back o → Within back (ended_at o)
  ended_within back (Ok n) h = each (begins_digit n.1)
    where
      each : (b : Bool) → Within back (cond b (Err (bad n.1)) (Ok n))
      each true = h
      each false = h
  ended_within back (Err e) h = h

  ended_none : (left : ℕ) (o : Scanned ℤ) → NoneBefore {A = ℤ} left o → NoneBefore {A = ℤ} left (ended_at o)
  ended_none left (Ok n) h = absurd h
  ended_none left (Err e) h = h

  ended_reads : (o : Scanned ℤ) → ReadsAt integers s o → ReadsAt integers s (ended_at o)
  ended_reads o r = record {
    sound = ended_sound o r.sound;
    complete = λ more v f b e. ended_completes v more b o (r.complete more v f b e);
    longest = λ f more back v h e g. ended_within back o (r.longest f more back v h e g);
    first = λ before more v c k h f e b. ended_none (length (key_spelling k ++ more)) o (r.first before more v c k h f e b);
  }

ends_in : (o : Scanned ℤ) (p : KeyData × List ℕ) → mapped number_key (ended_at o) ≡ Ok p → EndsBefore p.0 p.1
ends_in (Ok n) p e = each (begins_digit n.1) refl e
  where
    digitless : (r : List ℕ) → begins_digit r ≡ false → BeginsNoDigit r
    digitless [] g = tt
    digitless (c ∷ r) g = g

    each : (b : Bool) → begins_digit n.1 ≡ b → mapped number_key (cond b (Err (bad n.1)) (Ok n)) ≡ Ok p → EndsBefore p.0 p.1
    each true g e = cc
    each false g e = let is : (number_key n.0, n.1) ≡ p = cc in subst (λ (q : KeyData × List ℕ). EndsBefore q.0 q.1) is (digitless n.1 g)
ends_in (Err x) p e = cc

int_key_up : (b : KeyData) → HasKeyShape b int_keys → (a : ℤ) × (b ≡ number_key a) × ⊤
int_key_up b (int_key_shape {z = z}) = (z, refl, tt)

int_key_down : (a : ℤ) (before : List ℕ) (c : Cause) (k : KeyData) → integers.Fault a before c k → (keys int_keys []).Fault (number_key a) before c k
int_key_down a before c k f = (f.0, f.2, subst (λ c. IsWrongAfter [] (number_key a) c) (sym f.1) f.3)

int_key_back : (a : ℤ) (before : List ℕ) (c : Cause) (k : KeyData) → (keys int_keys []).Fault (number_key a) before c k → integers.Fault a before c k
int_key_back a before wide k f = (f.0, refl, f.1, f.2)
int_key_back a before again k f = absurd f.2

int_key_at : (s : List ℕ) → mapped number_key (ended_at (scanned_integer s)) ≡ scanned_key int_keys s
int_key_at s = each (scanned_integer s)
  where
    each : (o : Scanned ℤ) → mapped number_key (ended_at o) ≡ (o >>= (λ n. cond (begins_digit n.1) (Err (bad n.1)) (Ok (number_key n.0, n.1))))
    each (Ok n) = by (begins_digit n.1)
      where
        by : (b : Bool) → mapped number_key (cond b (Err (bad n.1)) (Ok n)) ≡ cond b (Err (bad n.1)) (Ok (number_key n.0, n.1))
        by true = refl
        by false = refl
    each (Err e) = refl

int_key_reads : (s : List ℕ) → ReadsAt (keys int_keys []) s (mapped number_key (ended_at (scanned_integer s)))
int_key_reads s = map_reader integers (keys int_keys []) number_key (λ _ _. int_key_shape) (λ _ _. refl) int_key_down int_key_back int_key_up s (ended_at (scanned_integer s)) (ended_reads s (scanned_integer s) (integers_reader s))

int_key_whole : (s : List ℕ) (v : KeyData) (more : List ℕ) → HasKeyShape v int_keys → EndsBefore v more → s ≡ key_spelling v ++ more → Completes (keys int_keys []) v more (mapped number_key (ended_at (scanned_integer s)))
int_key_whole s v more (int_key_shape {z = z}) b e = (int_key_reads s).complete more (number_key z) int_key_shape b e

text_key_up : (b : KeyData) → HasKeyShape b text_keys → (a : List ℕ) × (b ≡ text_key a) × IsUtf8 a
text_key_up b (text_key_shape {s = s} u) = (s, refl, u)

text_key_back : (a before : List ℕ) (c : Cause) (k : KeyData) → (keys text_keys []).Fault (text_key a) before c k → ⊥
text_key_back a before wide k f = f.2
text_key_back a before again k f = f.2

text_key_reads : (s : List ℕ) → ReadsAt (keys text_keys []) s (mapped text_key (scanned_text s))
text_key_reads s = map_reader texts (keys text_keys []) text_key (λ _ u. text_key_shape u) (λ _ _. refl) (λ _ _ _ _ f. absurd f) text_key_back text_key_up s (scanned_text s) (texts_reader s)

text_key_whole : (s : List ℕ) (v : KeyData) (more : List ℕ) → HasKeyShape v text_keys → EndsBefore v more → s ≡ key_spelling v ++ more → Completes (keys text_keys []) v more (mapped text_key (scanned_text s))
text_key_whole s v more (text_key_shape {s = w} u) b e = subst (λ o. Completes (keys text_keys []) (text_key w) more (mapped text_key o)) (sym (ap scanned_text e ∙ text_whole w more u)) (refl, refl)

text_ends : (o : Scanned (List ℕ)) (p : KeyData × List ℕ) → mapped text_key o ≡ Ok p → EndsBefore p.0 p.1
text_ends (Ok n) p e = let is : (text_key n.0, n.1) ≡ p = cc in subst (λ (q : KeyData × List ℕ). EndsBefore q.0 q.1) is tt
text_ends (Err x) p e = cc

pub key_reads : (t : KeyKind) (s : List ℕ) → KeyReads t s (scanned_key t s)
key_reads int_keys s = subst (KeyReads int_keys s) (int_key_at s) (record { reads = int_key_reads s; ends = ends_in (scanned_integer s); whole = int_key_whole s })
key_reads text_keys s = subst (KeyReads text_keys s) (mapped_is text_key (scanned_text s)) (record { reads = text_key_reads s; ends = text_ends (scanned_text s); whole = text_key_whole s })

-- whether the key's spelling is one of those of the keys seen
abbrev pub is_seen : KeyData → List KeyData → Bool
is_seen k seen = list_any (bytes_eq (key_spelling k)) (map key_spelling seen)

or_true : (a b : Bool) → b ≡ true → (a || b) ≡ true
or_true true b e = refl
or_true false b e = e

pub seen_yes : (k : KeyData) (seen : List KeyData) → is_seen k seen ≡ true → IsOneOf k seen
seen_yes k [] e = absurd (false≢true e)
seen_yes k (l ∷ ls) e = each (seen_yes k ls) (bytes_eq (key_spelling k) (key_spelling l)) refl e
  where
    each : (is_seen k ls ≡ true → IsOneOf k ls) → (b : Bool) → bytes_eq (key_spelling k) (key_spelling l) ≡ b → (b || is_seen k ls) ≡ true → (k ≡ l) ⊎ IsOneOf k ls
    each ih true g e = inl (one_key k l ((bytes_eq-Decides (key_spelling k) (key_spelling l)).0 g))
    each ih false g e = inr (ih e)

pub seen_no : (k : KeyData) (seen : List KeyData) → IsOneOf k seen → is_seen k seen ≡ true
seen_no k [] h = absurd h
seen_no k (l ∷ ls) h = ⊎_elim
    (λ (e : k ≡ l). rw ((bytes_eq-Decides (key_spelling k) (key_spelling l)).1 (ap key_spelling e)) refl)
    (λ (e : IsOneOf k ls). or_true (bytes_eq (key_spelling k) (key_spelling l)) (is_seen k ls) (seen_no k ls e))
    h
