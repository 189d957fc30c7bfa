-- The raw bytes of a text up to its closing quote.
use Rattle.std.proofs.Common.{◌≡◌, ℕ, zero, suc, ◌≤◌, Bool, true, false, cond, List, [], ◌∷◌, ◌++◌, length, Ok, Err, refl, sym, ap, subst, ◌∙◌, arith}
use Rattle.std.specs.Prelude.{⊤, ◌==◌, nat_lt}
use Rattle.std.proofs.lemmas.Bool.Decides.{nat_tests}
use Rattle.sf_spelling.specs.Scan.{bad, fault, Scanned, Point, between, behind, within, Move, stops, ends, skips, puts, more_of, lead, moved, by_move, put_byte, chars_at}
use Rattle.sf_spelling.proofs.Readers.{Language, IsReader, Sound, Completes, Within, never_grows, mapped}

-- the bytes lead from the point to the end of the text
abbrev pub Leads : Point → List ℕ → Type 0
Leads p [] = ⊥
Leads p (b ∷ x) = by_move (moved p b) ⊥ (x ≡ []) (λ q. Leads q x) (λ c q. Leads q x)

abbrev pub leads_by : Move → List ℕ → Type 0
leads_by m x = by_move m ⊥ (x ≡ []) (λ q. Leads q x) (λ c q. Leads q x)

-- the bytes of the text on that way
abbrev pub out : Point → List ℕ → List ℕ
out p [] = []
out p (b ∷ x) = by_move (moved p b) [] [] (λ q. out q x) (λ c q. c ∷ out q x)

abbrev pub out_by : Move → List ℕ → List ℕ
out_by m x = by_move m [] [] (λ q. out q x) (λ c q. c ∷ out q x)

-- a way leads on from here
abbrev pub IsOpen : Point → Type 0
IsOpen between = ⊤
IsOpen behind = ⊤
IsOpen (within low high n) = low ≤ high

-- a way on
abbrev rest_of : ℕ → List ℕ
rest_of zero = 34 ∷ []
rest_of (suc n) = 128 ∷ rest_of n

abbrev pub way : Point → List ℕ
way between = 34 ∷ []
way behind = 110 ∷ 34 ∷ []
way (within low high n) = low ∷ rest_of n

not_below : (a b : ℕ) → a ≤ b → nat_lt b a ≡ false
not_below a b h = grind (arith, nat_tests)

rest_leads : (n : ℕ) → Leads (more_of n) (rest_of n)
rest_leads zero = refl
rest_leads (suc n) = rest_leads n

pub way_leads : (p : Point) → IsOpen p → Leads p (way p)
way_leads between h = refl
way_leads behind h = refl
way_leads (within low high n) h = rw (not_below low low (omega arith), not_below low high h) (rest_leads n)

-- where a byte leads on, a way leads on from there
abbrev StaysOpen : Move → Type 0
StaysOpen m = by_move m ⊤ ⊤ IsOpen (λ c q. IsOpen q)

cond_open : (b : Bool) (m n : Move) → StaysOpen m → StaysOpen n → StaysOpen (cond b m n)
cond_open true m n h k = h
cond_open false m n h k = k

more_open : (n : ℕ) → IsOpen (more_of n)
more_open zero = tt
more_open (suc n) = omega arith

lead_open : (b : ℕ) → StaysOpen (lead b)
lead_open b = cond_open (nat_lt b 194) _ _ tt (cond_open (nat_lt b 224) _ _ (omega arith) (cond_open (b == 224) _ _ (omega arith) (cond_open (b == 237) _ _ (omega arith)
    (cond_open (nat_lt b 240) _ _ (omega arith) (cond_open (b == 240) _ _ (omega arith) (cond_open (nat_lt b 244) _ _ (omega arith) (cond_open (b == 244) _ _ (omega arith) tt)))))))

move_open : (p : Point) (b : ℕ) → StaysOpen (moved p b)
move_open between b = cond_open (b == 34) _ _ tt (cond_open (b == 92) _ _ tt (cond_open (b == 10) _ _ tt (cond_open (nat_lt b 128) _ _ tt (lead_open b))))
move_open behind b = cond_open (b == 34) _ _ tt (cond_open (b == 92) _ _ tt (cond_open (b == 110) _ _ tt tt))
move_open (within low high n) b = cond_open (nat_lt b low) _ _ tt (cond_open (nat_lt high b) _ _ tt (more_open n))

-- the raw bytes up to the end of the text
abbrev pub raw_at : Point → List ℕ → Scanned (List ℕ)
raw_at p [] = Err (bad [])
raw_at p (b ∷ s) = by_move (moved p b) (Err (bad (b ∷ s))) (Ok (b ∷ [], s)) (λ q. put_byte b (raw_at q s)) (λ c q. put_byte b (raw_at q s))

abbrev pub raws : Point → (p : List ℕ) → Type 0
raws p x = Leads p x

-- the ways from a point
abbrev pub ways : (p : Point) → IsOpen p → Language (List ℕ)
ways p h = record { Fit = Leads p; text = λ x. x; Fault = λ _ _ _ _. ⊥; some = way p; some_fit = way_leads p h; shown = λ v before c i f. absurd f }

put_sound : (p q : Point) (h : IsOpen p) (k : IsOpen q) (b : ℕ) (s : List ℕ) (o : Scanned (List ℕ)) → ((x : List ℕ) → Leads q x → Leads p (b ∷ x)) → Sound (ways q k) s o → Sound (ways p h) (b ∷ s) (put_byte b o)
put_sound p q h k b s (Ok r) to g = record { fit = to r.0 g.fit; cut = ap (λ u. b ∷ u) g.cut; clean = λ before c i f. f }
put_sound p q h k b s (Err (bad rest)) to g = record { value = b ∷ g.value; fit = to g.value g.fit; front = b ∷ g.front; more = g.more; cut = ap (λ u. b ∷ u) g.cut; good = ap (λ u. b ∷ u) g.good }
put_sound p q h k b s (Err (fault c rest)) to g = absurd g.at

raw_sound : (p : Point) (h : IsOpen p) (s : List ℕ) → Sound (ways p h) s (raw_at p s)
raw_sound p h [] = record { value = way p; fit = way_leads p h; front = []; more = way p; cut = refl; good = refl }
raw_sound p h (b ∷ s) = each (λ q k. raw_sound q k s) (moved p b) refl (move_open p b)
  where
    each : ((q : Point) (k : IsOpen q) → Sound (ways q k) s (raw_at q s)) → (m : Move) → moved p b ≡ m → StaysOpen m → Sound (ways p h) (b ∷ s) (by_move m (Err (bad (b ∷ s))) (Ok (b ∷ [], s)) (λ q. put_byte b (raw_at q s)) (λ c q. put_byte b (raw_at q s)))
    each ih stops e k = record { value = way p; fit = way_leads p h; front = []; more = way p; cut = refl; good = refl }
    each ih ends e k = record { fit = subst (λ m. leads_by m []) (sym e) refl; cut = refl; clean = λ before c i f. f }
    each ih (skips q) e k = put_sound p q h k b s (raw_at q s) (λ x l. subst (λ m. leads_by m x) (sym e) l) (ih q k)
    each ih (puts c q) e k = put_sound p q h k b s (raw_at q s) (λ x l. subst (λ m. leads_by m x) (sym e) l) (ih q k)

-- a way is read whole, whatever follows it
pub raw_whole : (p : Point) (x more : List ℕ) → Leads p x → raw_at p (x ++ more) ≡ Ok (x, more)
raw_whole p [] more l = absurd l
raw_whole p (b ∷ x) more l = each (λ q k. raw_whole q x more k) (moved p b) l
  where
    each : ((q : Point) → Leads q x → raw_at q (x ++ more) ≡ Ok (x, more)) → (m : Move) → by_move m ⊥ (x ≡ []) (λ q. Leads q x) (λ c q. Leads q x) → by_move m (Err (bad (b ∷ (x ++ more)))) (Ok (b ∷ [], x ++ more)) (λ q. put_byte b (raw_at q (x ++ more))) (λ c q. put_byte b (raw_at q (x ++ more))) ≡ Ok (b ∷ x, more)
    each ih stops l = absurd l
    each ih ends l = rw l refl
    each ih (skips q) l = ap (put_byte b) (ih q l)
    each ih (puts c q) l = ap (put_byte b) (ih q l)

put_within : (b : ℕ) (back : List ℕ) (o : Scanned (List ℕ)) → Within back o → Within back (put_byte b o)
put_within b back (Ok r) h = h
put_within b back (Err (bad rest)) h = h
put_within b back (Err (fault c rest)) h = tt

raw_longest : (p : Point) → IsOpen p → (f more back : List ℕ) → Leads p (f ++ more) → Within back (raw_at p (f ++ back))
raw_longest p h [] more back l = never_grows (ways p h) back (raw_at p back) (raw_sound p h back)
raw_longest p h (b ∷ f) more back l = each (λ q k r. raw_longest q k f more back r) (moved p b) (move_open p b) l
  where
    ended : (f more : List ℕ) → f ++ more ≡ [] → length (f ++ back) ≤ length back
    ended [] more e = omega arith
    ended (x ∷ f) more e = cc

    each : ((q : Point) → IsOpen q → Leads q (f ++ more) → Within back (raw_at q (f ++ back))) → (m : Move) → StaysOpen m → by_move m ⊥ (f ++ more ≡ []) (λ q. Leads q (f ++ more)) (λ c q. Leads q (f ++ more))
        → Within back (by_move m (Err (bad (b ∷ (f ++ back)))) (Ok (b ∷ [], f ++ back)) (λ q. put_byte b (raw_at q (f ++ back))) (λ c q. put_byte b (raw_at q (f ++ back))))
    each ih stops k l = absurd l
    each ih ends k l = ended f more l
    each ih (skips q) k l = put_within b back (raw_at q (f ++ back)) (ih q k l)
    each ih (puts c q) k l = put_within b back (raw_at q (f ++ back)) (ih q k l)

pub raw_reader : (p : Point) (h : IsOpen p) → IsReader (ways p h) (raw_at p)
raw_reader p h s = record {
  sound = raw_sound p h s;
  complete = λ more v l _ e. subst (λ o. Completes (ways p h) v more o) (sym (ap (raw_at p) e ∙ raw_whole p v more l)) (refl, refl);
  longest = λ f more back v l e g. subst (λ x. Within back (raw_at p x)) (sym g) (raw_longest p h f more back (subst (Leads p) e l));
  first = λ before more v c i _ f _ _. absurd f;
}

-- what is read is the way's bytes of the text
pub body_same : (p : Point) (s : List ℕ) → chars_at p s ≡ mapped (out p) (raw_at p s)
unfolding chars_at
body_same p [] = refl
body_same p (b ∷ s) = each (λ q. body_same q s) (moved p b) refl
  where
    put : (c : ℕ) (q : Point) (o : Scanned (List ℕ)) → moved p b ≡ puts c q → put_byte c (mapped (out q) o) ≡ mapped (out p) (put_byte b o)
    put c q (Ok r) e = ap (λ x. Ok (x, r.1)) (sym (ap (λ m. out_by m r.0) e))
    put c q (Err x) e = refl

    skip : (q : Point) (o : Scanned (List ℕ)) → moved p b ≡ skips q → mapped (out q) o ≡ mapped (out p) (put_byte b o)
    skip q (Ok r) e = ap (λ x. Ok (x, r.1)) (sym (ap (λ m. out_by m r.0) e))
    skip q (Err x) e = refl

    each : ((q : Point) → chars_at q s ≡ mapped (out q) (raw_at q s)) → (m : Move) → moved p b ≡ m → by_move m (Err (bad (b ∷ s))) (Ok ([], s)) (λ q. chars_at q s) (λ c q. put_byte c (chars_at q s))
        ≡ mapped (out p) (by_move m (Err (bad (b ∷ s))) (Ok (b ∷ [], s)) (λ q. put_byte b (raw_at q s)) (λ c q. put_byte b (raw_at q s)))
    each ih stops e = refl
    each ih ends e = ap (λ x. Ok (x, s)) (sym (ap (λ m. out_by m []) e))
    each ih (skips q) e = ih q ∙ skip q (raw_at q s) e
    each ih (puts c q) e = ap (put_byte c) (ih q) ∙ put c q (raw_at q s) e
