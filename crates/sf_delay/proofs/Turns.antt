-- Turns of samples in a line.
use Rattle.std.proofs.Common.{◌≡◌, ℕ, ◌+◌, ◌-◌, ◌<◌, ◌≤◌, arith, inl, inr, List, [], ◌∷◌, ◌++◌, length, Bool, true, false, cond, ℤ, Some, None, refl, sym, ap, ◌∙◌, subst, zero-add, append_assoc}
use mathlib.Core.Path.{ap₂}
use Rattle.std.proofs.lemmas.Bool.{cases_lt, le-leb, lt-leb}
use Rattle.std.proofs.lemmas.List.Sums.{sum_by-cons, sum_by_push}
use Rattle.std.proofs.lemmas.Option.{same_Some, none-some}
use Rattle.std.specs.Prelude.{nat_le}
use Rattle.sf_value.specs.Values.{Data}
use Rattle.sf_mean.specs.Lives.{step, Life, time}
use Rattle.sf_mean.specs.Formulas.{aged, span, delayed_formula}
use Rattle.sf_delay.specs.Lately.{waited}
use Rattle.sf_delay.specs.Queues.{kept_shared, TakesDue}
use Rattle.sf_delay.specs.Delays.{waiting, value_after, whole_wait, IsToCome, next_wait, TakesTurn, PassesOn, Delays}
use Rattle.sf_delay.proofs.Lasting.{time_grows}
use Rattle.sf_delay.specs.declared.line.Line.{Line}
use Rattle.sf_delay.specs.declared.queue.Pending.{Pending}
use Rattle.sf_delay.specs.declared.queue.Turn.TheVariants.{Now, Later, NoneLeft}

-- the turn that is still to come isn't yet there
pub held_gives : (v : Data) (rs : List Pending) (t : ℕ) → IsToCome t rs → value_after v rs t ≡ v
held_gives v [] t h = refl
held_gives v (r ∷ rs) t h = ap (λ b. cond b (value_after r.value rs (t - r.after)) v) (lt-leb r.after t h)

le_back : (n r t : ℕ) → r ≤ t → nat_le n (t - r) ≡ nat_le (r + n) t
le_back n r t h = elim (cases_lt t (r + n)) [
  | inl k ↦ lt-leb n (t - r) (omega arith) ∙ sym (lt-leb (r + n) t k)
  | inr k ↦ le-leb n (t - r) (omega arith) ∙ sym (le-leb (r + n) t k)
]

-- a sample behind others has its turn once all they wait for, and it, is over
pub pushed : (v : Data) (rs : List Pending) (x : Pending) (t : ℕ) → value_after v (rs ++ x ∷ []) t ≡ cond (nat_le (whole_wait rs + x.after) t) x.value (value_after v rs t)
pushed v [] x t = ap (λ n. cond (nat_le n t) x.value v) (sym (zero-add x.after))
pushed v (r ∷ rs) x t = elim (cases_lt t r.after) [
  | inl h ↦ ap (λ b. cond b (value_after r.value (rs ++ x ∷ []) (t - r.after)) v) (lt-leb r.after t h)
      ∙ sym (ap₂ (λ a b. cond a x.value (cond b (value_after r.value rs (t - r.after)) v)) (lt-leb (whole_wait (r ∷ rs) + x.after) t (omega (arith, sum_by-cons (λ (r : Pending). r.after) r rs))) (lt-leb r.after t h))
  | inr h ↦ ap (λ b. cond b (value_after r.value (rs ++ x ∷ []) (t - r.after)) v) (le-leb r.after t h)
      ∙ pushed r.value rs x (t - r.after)
      ∙ ap (λ b. cond b x.value (value_after r.value rs (t - r.after))) (le_back (whole_wait rs + x.after) r.after t h ∙ ap (λ n. nat_le n t) (whole_more r rs x))
      ∙ sym (ap (λ b. cond (nat_le (whole_wait (r ∷ rs) + x.after) t) x.value (cond b (value_after r.value rs (t - r.after)) v)) (le-leb r.after t h))
]
  where
    whole_more : (r : Pending) (rs : List Pending) (x : Pending) → r.after + (whole_wait rs + x.after) ≡ whole_wait (r ∷ rs) + x.after
    whole_more r rs x = omega (arith, sum_by-cons (λ (r : Pending). r.after) r rs)

-- a line without shared samples has its own
own_wait : (l : Line) → l.shared ≡ None → waiting l ≡ l.young.items
own_wait l e = ap (λ s. kept_shared s ++ l.young.items) e

-- a turn that is due is taken
turn_passes : (old l m : Line) (time left wait : ℕ) (r : Pending) (rs : List Pending)
    → waiting l ≡ r ∷ rs → waiting m ≡ rs → r.after - l.passed ≡ wait → wait ≤ left
    → m.delay ≡ l.delay → m.begun ≡ l.begun → m.held ≡ r.value → m.passed ≡ l.passed - r.after → PassesOn old time l left → PassesOn old time m (left - wait)
turn_passes old l m time left wait r rs items rest is due delay begun held passed k = record {
  delay = delay ∙ k.delay;
  begun = begun ∙ k.begun;
  gives = gives;
  newest = newest;
}
  where
    gives : (w : ℕ) → value_after m.held (waiting m) (m.passed + (left - wait) + w) ≡ value_after old.held (waiting old) (old.passed + time + w)
    gives w =
        let same : m.passed + (left - wait) + w ≡ (l.passed + left + w) - r.after = omega (arith, passed, is, due) in
        ap₂ (λ v n. value_after v (waiting m) n) held same
        ∙ ap (λ xs. value_after r.value xs ((l.passed + left + w) - r.after)) rest
        ∙ sym (ap (λ b. cond b (value_after r.value rs ((l.passed + left + w) - r.after)) l.held) (le-leb r.after (l.passed + left + w) (omega (arith, is, due))))
        ∙ sym (ap (λ xs. value_after l.held xs (l.passed + left + w)) items)
        ∙ k.gives w

    newest : (q : ℕ) → whole_wait (waiting old) ≡ old.passed + time + q → whole_wait (waiting m) ≡ m.passed + (left - wait) + q
    newest q h = omega (arith, ap whole_wait rest, sym (ap whole_wait items) ∙ k.newest q h, sum_by-cons (λ (r : Pending). r.after) r rs, passed, is, due)

-- ## Turns of a line's own samples

pub shorter : (l m : Line) (wait : ℕ) (xs : List Pending) → l.young.items ≡ xs
    → Some wait ≡ next_wait l.passed xs → ((r : Pending) (rs : List Pending) → l.young.items ≡ r ∷ rs → TakesTurn l r rs m) → length m.young.items < length l.young.items
shorter l m wait [] items e t = absurd (none-some wait (sym e))
shorter l m wait (r ∷ rs) items e t = omega (arith, ap length (t r rs items).young, ap length items)

pub turned : (old l m : Line) (time left wait : ℕ) (xs : List Pending) → l.young.items ≡ xs
    → Some wait ≡ next_wait l.passed xs → wait ≤ left → ((r : Pending) (rs : List Pending) → l.young.items ≡ r ∷ rs → TakesTurn l r rs m) → l.shared ≡ None → PassesOn old time l left
    → PassesOn old time m (left - wait)
turned old l m time left wait [] items e due t alone k = absurd (none-some wait (sym e))
turned old l m time left wait (r ∷ rs) items e due t alone k =
    let taken = t r rs items in
    turn_passes old l m time left wait r rs (own_wait l alone ∙ items) (own_wait m (taken.shared ∙ alone) ∙ taken.young) (sym (same_Some _ _ e)) due taken.delay taken.begun taken.held taken.passed k

-- where time passes at a line without a turn
goes_by : (old l : Line) (time left : ℕ) → PassesOn old time l left → PassesOn old time (record l { passed = l.passed + left }) 0
goes_by old l time left k = record {
  delay = k.delay;
  begun = k.begun;
  gives = λ w. ap (value_after l.held (waiting l)) (same l.passed left w) ∙ k.gives w;
  newest = λ q h. omega (arith, k.newest q h);
}
  where
    same : (a b w : ℕ) → a + b + 0 + w ≡ a + b + w
    same a b w = omega arith

-- no turn comes within what is left
pub stays : (old l : Line) (time left wait : ℕ) (xs : List Pending) → l.young.items ≡ xs
    → Some wait ≡ next_wait l.passed xs → left < wait → l.shared ≡ None → PassesOn old time l left
    → PassesOn old time (record l { passed = l.passed + left }) 0 × IsToCome (l.passed + left) (waiting l)
stays old l time left wait [] items e short alone k = absurd (none-some wait (sym e))
stays old l time left wait (r ∷ rs) items e short alone k = (
  goes_by old l time left k,
  subst (IsToCome (l.passed + left)) (sym (own_wait l alone ∙ items)) (omega (arith, same_Some _ _ e, short)),
)

-- no sample is left
pub ends : (old l : Line) (time left : ℕ) (xs : List Pending) → l.young.items ≡ xs
    → None ≡ next_wait l.passed xs → l.shared ≡ None → PassesOn old time l left → PassesOn old time l 0 × IsToCome l.passed (waiting l)
ends old l time left (r ∷ rs) items e alone k = absurd (none-some _ e)
ends old l time left [] items e alone k =
    let none : waiting l ≡ [] = own_wait l alone ∙ items in (
      record {
        delay = k.delay;
        begun = k.begun;
        gives = λ w. ap (λ xs. value_after l.held xs (l.passed + 0 + w)) none ∙ sym (ap (λ xs. value_after l.held xs (l.passed + left + w)) none) ∙ k.gives w;
        newest = λ q h. omega (arith, sym (k.newest q h) ∙ ap whole_wait none, ap whole_wait none);
      },
      subst (IsToCome l.passed) (sym none) tt,
    )

-- ## Turns of shared samples

-- n is the line once a sample was asked for
pub shared_turned : (old l n m : Line) (time left wait : ℕ) (r : Pending) → n ≡ record l { shared = n.shared }
    → TakesDue (kept_shared l.shared) l.passed left (Now r) (kept_shared n.shared) → wait ≡ r.after - n.passed → TakesTurn n r n.young.items m → PassesOn old time l left
    → PassesOn old time m (left - wait)
shared_turned old l n m time left wait r e due is t k =
    let young : n.young.items ≡ l.young.items = ap (λ (x : Line). x.young.items) e in
    let passed : n.passed ≡ l.passed = ap (λ (x : Line). x.passed) e in
    let rest : waiting m ≡ kept_shared n.shared ++ l.young.items = ap₂ (λ s xs. kept_shared s ++ xs) t.shared (t.young ∙ young) in
    let all : waiting l ≡ r ∷ (kept_shared n.shared ++ l.young.items) = ap (λ xs. xs ++ l.young.items) due.0 in
    let same : r.after - l.passed ≡ wait = ap (λ p. r.after - p) (sym passed) ∙ sym is in
    turn_passes old l m time left wait r (kept_shared n.shared ++ l.young.items) all rest same (omega (arith, due.1, same))
    (t.delay ∙ ap (λ (x : Line). x.delay) e) (t.begun ∙ ap (λ (x : Line). x.begun) e) t.held (t.passed ∙ ap (λ p. p - r.after) passed) k

-- a line that keeps the same samples goes on so
same_passes : (old l m : Line) (time left : ℕ) → m.delay ≡ l.delay → m.begun ≡ l.begun → m.held ≡ l.held → m.passed ≡ l.passed → waiting m ≡ waiting l → PassesOn old time l left
    → PassesOn old time m left
same_passes old l m time left delay begun held passed rest k = record {
  delay = delay ∙ k.delay;
  begun = begun ∙ k.begun;
  gives = λ w. ap₂ (λ v n. value_after v (waiting m) (n + left + w)) held passed ∙ ap (λ xs. value_after l.held xs (l.passed + left + w)) rest ∙ k.gives w;
  newest = λ q h. omega (arith, ap whole_wait rest, passed, k.newest q h);
}

pub shared_stays : (old l n : Line) (time left : ℕ) → n ≡ record l { shared = n.shared }
    → TakesDue (kept_shared l.shared) l.passed left Later (kept_shared n.shared) → PassesOn old time l left
    → PassesOn old time (record n { passed = n.passed + left }) 0
shared_stays old l n time left e due k =
    let rest : waiting n ≡ waiting l = ap₂ (λ xs ys. xs ++ ys) due.0 (ap (λ (x : Line). x.young.items) e) in
    goes_by old n time left (same_passes old l n time left (ap (λ (x : Line). x.delay) e) (ap (λ (x : Line). x.begun) e) (ap (λ (x : Line). x.held) e) (ap (λ (x : Line). x.passed) e) rest k)

-- where no shared sample is left, a line's own ones follow
pub shared_ends : (old l n m : Line) (time left : ℕ) → n ≡ record l { shared = n.shared }
    → TakesDue (kept_shared l.shared) l.passed left NoneLeft (kept_shared n.shared) → PassesOn (record n { shared = None }) left m 0 → PassesOn old time l left → PassesOn old time m 0
shared_ends old l n m time left e due p k =
    let rest : n.young.items ≡ waiting l = ap (λ (x : Line). x.young.items) e ∙ sym (ap (λ xs. xs ++ l.young.items) due.1) in
    let o : PassesOn old time (record n { shared = None }) left = same_passes old l (record n { shared = None }) time left (ap (λ (x : Line). x.delay) e) (ap (λ (x : Line). x.begun) e) (ap (λ (x : Line). x.held) e) (ap (λ (x : Line). x.passed) e) rest k in
    record {
      delay = p.delay ∙ o.delay;
      begun = p.begun ∙ o.begun;
      gives = λ w. p.gives w ∙ o.gives w;
      newest = λ q h. p.newest q (o.newest q h);
    }

-- ## A sample

shares : (b : Bool) (p d q : ℕ) → p + cond b q 0 + cond b d q ≡ p + cond b d 0 + q
shares true p d q = omega arith
shares false p d q = omega arith

le_same : (a n w : ℕ) → nat_le (a + n) (a + w) ≡ nat_le n w
le_same a n w = elim (cases_lt w n) [
  | inl h ↦ lt-leb (a + n) (a + w) (omega arith) ∙ sym (lt-leb n w h)
  | inr h ↦ le-leb (a + n) (a + w) (omega arith) ∙ sym (le-leb n w h)
]

module _ (q : ℤ) (v : Data) (d : ℕ) (x : Data) (L : Life) (l p m : Line) (r : Pending) (own : p.young.items ≡ l.young.items ++ r ∷ []) (shared : p.shared ≡ l.shared) (held : p.held ≡ l.held) (passed : p.passed ≡ l.passed) (delay : p.delay ≡ l.delay) (begun : p.begun ≡ true)
    (value : r.value ≡ x) (after : r.after ≡ cond l.begun d l.delay) (k : PassesOn p (waited l.begun d) m 0) (come : IsToCome m.passed (waiting m)) (D : Delays l q v L) where
  items : waiting p ≡ waiting l ++ r ∷ []
  items = ap₂ (λ s xs. kept_shared s ++ xs) shared own ∙ sym (append_assoc (kept_shared l.shared) l.young.items (r ∷ []))

  whole_is : whole_wait (waiting p) ≡ p.passed + waited l.begun d + l.delay
  whole_is =
      let all : whole_wait (waiting p) ≡ whole_wait (waiting l) + r.after = ap whole_wait items ∙ sum_by_push (λ (r : Pending). r.after) (waiting l) r in
      omega (arith, all, D.newest, after, passed, shares l.begun l.passed d l.delay)

  behind : whole_wait (waiting l) + r.after ≡ l.passed + waited l.begun d + l.delay
  behind = omega (arith, D.newest, after, shares l.begun l.passed d l.delay)

  time_is : time L + waited l.begun d ≡ time (step d x ∷ L)
  time_is = ap (λ b. time L + waited b d) D.begun ∙ time_grows d x L

  gives : (w : ℕ) → value_after m.held (waiting m) (m.passed + w) ≡ aged (span q) v (time (step d x ∷ L) + w) (step d x ∷ L)
  gives w =
      let t = l.passed + waited l.begun d + w in
      let later : m.passed + w ≡ m.passed + 0 + w = omega arith in
      let here : p.passed + waited l.begun d + w ≡ t = ap (λ n. n + waited l.begun d + w) passed in
      let young : nat_le (whole_wait (waiting l) + r.after) t ≡ nat_le (span q) w =
      ap (λ n. nat_le n t) behind ∙ le_same (l.passed + waited l.begun d) l.delay w ∙ ap (λ n. nat_le n w) D.delay in
      let split : t ≡ l.passed + (waited l.begun d + w) = omega arith in
      let moved : time L + (waited l.begun d + w) ≡ time (step d x ∷ L) + w = omega (arith, time_is) in
      let before : value_after l.held (waiting l) t ≡ aged (span q) v (time (step d x ∷ L) + w) L =
      ap (value_after l.held (waiting l)) split ∙ D.gives (waited l.begun d + w) ∙ ap (λ n. aged (span q) v n L) moved in
      let age : w ≡ (time (step d x ∷ L) + w) - time (step d x ∷ L) = omega arith in
      ap (value_after m.held (waiting m)) later ∙ k.gives w
      ∙ ap₂ (λ v n. value_after v (waiting p) n) held here
      ∙ ap (λ xs. value_after l.held xs t) items
      ∙ pushed l.held (waiting l) r t
      ∙ ap₂ (λ b y. cond b y (value_after l.held (waiting l) t)) young value
      ∙ ap₂ (λ n y. cond (nat_le (span q) n) x y) age before

  pub delays_on : Delays m q v (step d x ∷ L)
  delays_on = record {
    delay = k.delay ∙ delay ∙ D.delay;
    begun = k.begun ∙ begun;
    gives = gives;
    to_come = come;
    newest = k.newest l.delay whole_is ∙ most m.passed ∙ ap₂ (λ b n. m.passed + waited b n) (sym (k.begun ∙ begun)) (sym (k.delay ∙ delay));
  }
    where
      most : (a : ℕ) → a + 0 + l.delay ≡ a + l.delay
      most a = omega arith

  pub held_is : delayed_formula q v (step d x) L ≡ m.held
  held_is =
      let now : time (step d x ∷ L) + 0 ≡ time (step d x ∷ L) = omega arith in
      let here : m.passed + 0 ≡ m.passed = omega arith in
      sym (ap (λ n. aged (span q) v n (step d x ∷ L)) now) ∙ sym (gives 0) ∙ ap (value_after m.held (waiting m)) here ∙ held_gives m.held (waiting m) m.passed come
