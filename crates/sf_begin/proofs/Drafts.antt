-- Members of an edit, by the changes of a list.
use Rattle.std.proofs.Common.{◌≡◌, ℕ, zero, suc, ◌+◌, ◌≤◌, ◌<◌, Bool, true, false, cond, List, [], ◌∷◌, ◌++◌, length, get_or, Option, Some, None, Result, Ok, Err, set, refl, sym, ap, ◌∙◌, subst, arith}
use Rattle.std.proofs.lemmas.List.{length-append}
use Rattle.std.specs.Prelude.{IfOk, IfSome, bytes_eq}
use Rattle.std.specs.List.{remove}
use Rattle.std.proofs.lemmas.Slice.Eq.{bytes_eq-Decides}
use Rattle.sf_value.specs.Values.{Name, KeyData, Data, first_of, second_of}
use Rattle.sf_value.specs.Keys.{key_index}
use Rattle.sf_operator.specs.FunctionForms.{value_of_key}
use Rattle.sf_expr.specs.Expressions.{Expression, Pattern, unnamed, named, both}
use Rattle.sf_expr.specs.Evaluation.{Evaluated, answer, ◌>>=◌, eval}
use Rattle.sf_mean.specs.Lives.{Process, closure, Environment, Members, no_members, member, members_of, bind, scope_around}
use Rattle.sf_mean.specs.Formulas.{is_high}
use Rattle.sf_mean.specs.Collections.{as_key, add, keep, drop}
use Rattle.sf_term.specs.Trees.{Term}
use Rattle.sf_coincidence.specs.Mentions.{BindsOthers}
use Rattle.sf_state.specs.declared.state.State.{State}
use Rattle.sf_state.specs.declared.state.Gathered.{Gathered}
use Rattle.sf_state.specs.declared.env.Env.{Env}
use Rattle.sf_state.specs.Held.{Holding}
use Rattle.sf_state.specs.Standing.{IsNames, Stands, Gathers, gathers, EachStands, one_stands, AllFollow, none_follow, more_follow, keys_in}
use Rattle.sf_state.specs.Machine.{Machine}
use Rattle.sf_begin.specs.declared.drafting.Change.{Change}
use Rattle.sf_begin.specs.declared.drafting.Change.TheVariants.{Put, Add, Take}
use Rattle.sf_begin.specs.declared.drafting.Draft.{Draft}
use Rattle.sf_begin.specs.Beginning.{Makes, makes}
use Rattle.sf_begin.specs.Drafting.{change_one, all_changed, laid_over, drafted, frozen_over, Lays}
use Rattle.sf_begin.proofs.Places.{among_new, put_at, put_last, take_at_key, none_to_drop}
use Rattle.sf_begin.proofs.Collected.{goes_on, worth_in, scope_in, same_answer, answers_alike, followed, ended_by, followed_by_one, keys_ended, asked_one}

-- members are found as before where a pattern binds other names
pub found_outside : (p : Pattern) (x : Name) (v : Data) (e : Environment) → BindsOthers p x → members_of x (bind p v e) ≡ members_of x e
found_outside unnamed x v e others = refl
found_outside (named y) x v e others = ap (λ b. cond b no_members (members_of x e)) (apart (bytes_eq x y) refl)
  where
    apart : (b : Bool) → bytes_eq x y ≡ b → bytes_eq x y ≡ false
    apart true same = absurd (others (sym ((bytes_eq-Decides x y).0 same)))
    apart false other = other
found_outside (both p q) x v e others = found_outside q x (second_of v) (bind p (first_of v) e) others.1 ∙ found_outside p x (first_of v) e others.0

-- one more change comes last
pub changed_more : {A : Type 0} (worth : State → A) (cs : List Change) (c : Change) (xs : List A) → all_changed worth (cs ++ c ∷ []) xs ≡ change_one worth c (all_changed worth cs xs)
changed_more worth [] c xs = refl
changed_more worth (b ∷ cs) c xs = changed_more worth cs c (change_one worth b xs)

-- ## Lists of which each follows another

module _ (μ : Machine) where
  follow_put : {cs ds : List State} → AllFollow μ cs ds → (i : ℕ) (a : State) → AllFollow μ (set cs i a) (set ds i a)
  follow_put none_follow i a = none_follow
  follow_put (more_follow f fs) zero a = more_follow (λ P L A. A) fs
  follow_put (more_follow f fs) (suc i) a = more_follow f (follow_put fs i a)

  follow_add : {cs ds : List State} → AllFollow μ cs ds → (a : State) → AllFollow μ (cs ++ a ∷ []) (ds ++ a ∷ [])
  follow_add none_follow a = more_follow (λ P L A. A) none_follow
  follow_add (more_follow f fs) a = more_follow f (follow_add fs a)

  follow_take : {cs ds : List State} → AllFollow μ cs ds → (i : ℕ) → AllFollow μ (remove cs i) (remove ds i)
  follow_take none_follow zero = none_follow
  follow_take none_follow (suc i) = none_follow
  follow_take (more_follow f fs) zero = fs
  follow_take (more_follow f fs) (suc i) = more_follow f (follow_take fs i)

  follow_one : (c : Change) {cs ds : List State} → AllFollow μ cs ds → AllFollow μ (change_one (λ a. a) c cs) (change_one (λ a. a) c ds)
  follow_one (Put i a) fs = follow_put fs i a
  follow_one (Add a) fs = follow_add fs a
  follow_one (Take i) fs = follow_take fs i

  pub follow_changes : (xs : List Change) {cs ds : List State} → AllFollow μ cs ds → AllFollow μ (all_changed (λ a. a) xs cs) (all_changed (λ a. a) xs ds)
  follow_changes [] fs = fs
  follow_changes (c ∷ xs) fs = follow_changes xs (follow_one c fs)

-- ## Drafts

module _ (μ : Machine) (bs : List State) (w : Option ℕ) where
  abbrev held : Draft → Members → Type 0
  held x ms = Gathers μ (laid_over bs w x) ms []

  stand_as : {ms : Members} {cs ds : List State} → ds ≡ cs → EachStands μ w cs ms [] → EachStands μ w ds ms []
  stand_as {ms} e S = subst (λ (cs : List State). EachStands μ w cs ms []) (sym e) S

  module _ (x y : Draft) (k : KeyData) where
    -- one takes the place of another
    pub place_put : (i : ℕ) (a : State) → key_index k x.keys ≡ Some i → y.keys ≡ x.keys → y.changes.items ≡ x.changes.items ++ Put i a ∷ []
        → (ms : Members) (P : Process) → held x ms → Stands μ a P [] → held y (add k P ms)
    place_put i a e keys put ms P (gathers K S) A =
        let R = put_at μ w k P a (among_new w A) S i (ap (key_index k) (sym K) ∙ e) in
        gathers (keys ∙ K ∙ sym R.keys) (stand_as (ap (λ (cs : List Change). all_changed (λ a. a) cs bs) put ∙ changed_more (λ a. a) x.changes.items (Put i a) bs) R.stand)

    -- one more at the end
    pub place_pushed : (a : State) → key_index k x.keys ≡ None → y.keys ≡ x.keys ++ k ∷ [] → y.changes.items ≡ x.changes.items ++ Add a ∷ []
        → (ms : Members) (P : Process) → held x ms → Stands μ a P [] → held y (add k P ms)
    place_pushed a e keys pushed ms P (gathers K S) A =
        let R = put_last μ w k P a (among_new w A) S (ap (key_index k) (sym K) ∙ e) in
        gathers (keys ∙ ap (λ ls. ls ++ k ∷ []) K ∙ sym R.keys) (stand_as (ap (λ (cs : List Change). all_changed (λ a. a) cs bs) pushed ∙ changed_more (λ a. a) x.changes.items (Add a) bs) R.stand)

    -- one less
    pub place_dropped : (i : ℕ) → key_index k x.keys ≡ Some i → y.keys ≡ remove x.keys i → y.changes.items ≡ x.changes.items ++ Take i ∷ []
        → (ms : Members) → held x ms → held y (drop k ms)
    place_dropped i e keys taken ms (gathers K S) =
        let R = take_at_key μ w k S i (ap (key_index k) (sym K) ∙ e) in
        gathers (keys ∙ ap (λ ls. remove ls i) K ∙ sym R.keys) (stand_as (ap (λ (cs : List Change). all_changed (λ a. a) cs bs) taken ∙ changed_more (λ a. a) x.changes.items (Take i) bs) R.stand)

  -- none is under the key
  pub place_missing : (x : Draft) (k : KeyData) → key_index k x.keys ≡ None → (ms : Members) → held x ms → held x (drop k ms)
  place_missing x k e ms (gathers K S) = subst (λ ms. held x ms) (sym (none_to_drop k ms (ap (key_index k) (sym K) ∙ e))) (gathers K S)

  -- ## What goes on after an evaluation

  abbrev stands : Holding → Members → Type 0
  stands h ms = Gathers μ h ms []

  pub after_laid : (W : Evaluated Members) (f : Members → Evaluated Members) (h h' : Holding) → Lays μ W h → ((ms : Members) → Gathers μ h ms [] → Lays μ (f ms) h') → Lays μ (W >>= f) h'
  after_laid W f h h' (makes {b = ms} e G) g = goes_on stands W f ms (Ok h') e (g ms G)

  module _ (names : Env) (e : Environment) (N : IsNames μ names e) (j : Expression) (v : Data) (k : KeyData) (x : Draft) (ms : Members) (h : eval j (scope_in μ names e N) ≡ answer v) (same : k ≡ as_key v) where
    -- one more member under the key that a value is
    pub laid_added : (t : Term) → held x (add k (closure t e) ms) → Lays μ (eval j (scope_around μ.answers e) >>= λ v. answer (add (as_key v) (closure t e) ms)) (laid_over bs w x)
    laid_added t G = goes_on stands (eval j (scope_around μ.answers e)) (λ v. answer (add (as_key v) (closure t e) ms)) v (Ok (laid_over bs w x)) (worth_in μ names e N (eval j) v h) (makes refl (subst (λ k. held x (add k (closure t e) ms)) same G))

    -- one less
    pub laid_dropped : held x (drop k ms) → Lays μ (eval j (scope_around μ.answers e) >>= λ v. answer (drop (as_key v) ms)) (laid_over bs w x)
    laid_dropped G = goes_on stands (eval j (scope_around μ.answers e)) (λ v. answer (drop (as_key v) ms)) v (Ok (laid_over bs w x)) (worth_in μ names e N (eval j) v h) (makes refl (subst (λ k. held x (drop k ms)) same G))

-- ## The members whose keys a function keeps

-- those before one, and those after it
keys_removed : (done : Members) (l : KeyData) (P : Process) (rest : Members) → remove (keys_in (followed done (member l P rest))) (length (keys_in done)) ≡ keys_in (followed done rest)
keys_removed no_members l P rest = refl
keys_removed (member k Q done) l P rest = ap (λ ks. k ∷ ks) (keys_removed done l P rest)

key_between : (done : Members) (l : KeyData) (P : Process) (rest : Members) (k : KeyData) → get_or (keys_in (followed done (member l P rest))) (length (keys_in done)) k ≡ l
key_between no_members l P rest k = refl
key_between (member m Q done) l P rest k = key_between done l P rest k

as_many_keys : (done next : Members) → length (keys_in (followed done next)) ≡ length (keys_in done) + length (keys_in next)
as_many_keys no_members next = omega arith
as_many_keys (member k Q done) next = let more = as_many_keys done next in omega (arith, more)

module _ (μ : Machine) (bs : List State) (w : Option ℕ) (ask : Data → Evaluated Data) (ms : Members) where
  each_removed : (done : Members) (l : KeyData) (P : Process) (rest : Members) {cs : List State} → EachStands μ w cs (followed done (member l P rest)) [] → EachStands μ w (remove cs (length (keys_in done))) (followed done rest) []
  each_removed no_members l P rest (one_stands A S) = S
  each_removed (member k Q done) l P rest (one_stands A S) = one_stands A (each_removed done l P rest S)

  abbrev Goes : Members → Members → Type 0
  Goes done next = keep ask ms ≡ (keep ask next >>= λ ns. answer (followed done ns))

  -- what is told of a key
  abbrev pub KeyTold : KeyData → Bool → Type 0
  KeyTold k b = Makes (λ b v. b ≡ is_high v) (ask (value_of_key k)) (Ok b)

  -- The keys before a place have been asked for, and are kept; the others come next.
  pub record LeftOver (left : Draft) (at : ℕ) : Type 0 where
    pub done : Members
    pub next : Members
    pub is_at : length (keys_in done) ≡ at
    pub stand : Gathers μ (laid_over bs w left) (followed done next) []
    pub goes : Goes done next

  -- no key has been asked for
  pub all_next : (left : Draft) → Gathers μ (laid_over bs w left) ms [] → LeftOver left 0
  all_next left G = record { done = no_members; next = ms; is_at = refl; stand = G; goes = same_answer (keep ask ms) }

  one_stays : (left : Draft) (at : ℕ) (done : Members) (l : KeyData) (P : Process) (rest : Members) → length (keys_in done) ≡ at → Gathers μ (laid_over bs w left) (followed done (member l P rest)) [] → Goes done (member l P rest) → KeyTold l true → LeftOver left (at + 1)
  one_stays left at done l P rest is_at G goes (makes {b = v} h told) =
      let long = length-append (keys_in done) (l ∷ []) in
      let more : length (keys_in (ended_by done l P)) ≡ length (keys_in done ++ l ∷ []) = ap length (keys_ended done l P) in
      record {
        done = ended_by done l P;
        next = rest;
        is_at = omega (arith, is_at, long, more);
        stand = subst (λ ns. Gathers μ (laid_over bs w left) ns []) (followed_by_one done l P rest) G;
        goes = goes ∙ asked_one μ w ask ms l P rest done v h
            ∙ answers_alike (keep ask rest) (λ ns. followed done (cond (is_high v) (member l P ns) ns)) (followed (ended_by done l P)) (λ ns. ap (λ b. followed done (cond b (member l P ns) ns)) (sym told) ∙ followed_by_one done l P ns);
      }

  one_goes : (left less : Draft) (at : ℕ) (done : Members) (l : KeyData) (P : Process) (rest : Members) → length (keys_in done) ≡ at → less.keys ≡ remove left.keys at → less.changes.items ≡ left.changes.items ++ Take at ∷ []
      → Gathers μ (laid_over bs w left) (followed done (member l P rest)) [] → Goes done (member l P rest) → KeyTold l false → LeftOver less at
  one_goes left less at done l P rest is_at keys taken (gathers K S) goes (makes {b = v} h told) =
      let cs = all_changed (λ a. a) left.changes.items bs in
      let S' = subst (λ i. EachStands μ w (remove cs i) (followed done rest) []) is_at (each_removed done l P rest S) in
      record {
        done = done;
        next = rest;
        is_at = is_at;
        stand = gathers (keys ∙ ap (λ ks. remove ks at) K ∙ ap (remove (keys_in (followed done (member l P rest)))) (sym is_at) ∙ keys_removed done l P rest)
            (stand_as μ bs w (ap (λ (cs : List Change). all_changed (λ a. a) cs bs) taken ∙ changed_more (λ a. a) left.changes.items (Take at) bs) S');
        goes = goes ∙ asked_one μ w ask ms l P rest done v h
            ∙ answers_alike (keep ask rest) (λ ns. followed done (cond (is_high v) (member l P ns) ns)) (followed done) (λ ns. ap (λ b. followed done (cond b (member l P ns) ns)) (sym told));
      }

  -- the key at the place is kept, or its member is taken out
  module _ (left : Draft) (at : ℕ) (k : KeyData) (O : LeftOver left at) (short : at < length left.keys) (is : k ≡ get_or left.keys at k) where
    key_is : (l : KeyData) (P : Process) (rest : Members) → left.keys ≡ keys_in (followed O.done (member l P rest)) → k ≡ l
    key_is l P rest K = is ∙ ap (λ ks. get_or ks at k) K ∙ ap (λ i. get_or (keys_in (followed O.done (member l P rest))) i k) (sym O.is_at) ∙ key_between O.done l P rest k

    too_short : left.keys ≡ keys_in (followed O.done no_members) → ⊥
    too_short K =
        let long = as_many_keys O.done no_members in
        let same : length left.keys ≡ length (keys_in (followed O.done no_members)) = ap length K in
        let at_done = O.is_at in
        absurd (omega (arith, short, long, same, at_done))

    pub kept_on : KeyTold k true → LeftOver left (at + 1)
    kept_on told = by O.next O.stand O.goes
      where
        by : (next : Members) → Gathers μ (laid_over bs w left) (followed O.done next) [] → Goes O.done next → LeftOver left (at + 1)
        by no_members (gathers K S) goes = absurd (too_short K)
        by (member l P rest) (gathers K S) goes = one_stays left at O.done l P rest O.is_at (gathers K S) goes (subst (λ k. KeyTold k true) (key_is l P rest K) told)

    pub taken_out : (less : Draft) → less.keys ≡ remove left.keys at → less.changes.items ≡ left.changes.items ++ Take at ∷ [] → KeyTold k false → LeftOver less at
    taken_out less keys taken told = by O.next O.stand O.goes
      where
        by : (next : Members) → Gathers μ (laid_over bs w left) (followed O.done next) [] → Goes O.done next → LeftOver less at
        by no_members (gathers K S) goes = absurd (too_short K)
        by (member l P rest) (gathers K S) goes = one_goes left less at O.done l P rest O.is_at keys taken (gathers K S) goes (subst (λ k. KeyTold k false) (key_is l P rest K) told)

  -- all have been asked for
  pub all_left : (left : Draft) (at : ℕ) → LeftOver left at → length left.keys ≤ at → Lays μ (keep ask ms) (laid_over bs w left)
  all_left left at O far = by O.next O.stand O.goes
    where
      by : (next : Members) → Gathers μ (laid_over bs w left) (followed O.done next) [] → Goes O.done next → Lays μ (keep ask ms) (laid_over bs w left)
      by no_members G goes = makes goes G
      by (member l P rest) (gathers K S) goes =
          let long = as_many_keys O.done (member l P rest) in
          let same : length left.keys ≡ length (keys_in (followed O.done (member l P rest))) = ap length K in
          let at_done = O.is_at in
          absurd (omega (arith, far, long, same, at_done))

-- one of two, by a condition
module _ (μ : Machine) (W : Evaluated Data) (first second : Evaluated Members) (b : Bool) (h : Holding) where
  laid_as : (c : Bool) → Makes (λ b v. b ≡ is_high v) W (Ok b) → b ≡ c → Lays μ (cond c first second) h → Lays μ (W >>= λ v. cond (is_high v) first second) h
  laid_as c (makes {b = v} e told) is m = goes_on (λ (h : Holding) ms. Gathers μ h ms []) W (λ v. cond (is_high v) first second) v (Ok h) e (subst (λ t. Lays μ (cond t first second) h) (sym is ∙ told) m)

  pub laid_first : Makes (λ b v. b ≡ is_high v) W (Ok b) → b ≡ true → Lays μ first h → Lays μ (W >>= λ v. cond (is_high v) first second) h
  laid_first = laid_as true

  pub laid_second : Makes (λ b v. b ≡ is_high v) W (Ok b) → b ≡ false → Lays μ second h → Lays μ (W >>= λ v. cond (is_high v) first second) h
  laid_second = laid_as false

-- all members that run
pub all_laid : (μ : Machine) (g : Gathered) (d : ℕ) (x : Draft) {ms : Members} → x.keys ≡ g.keys.value → x.changes.items ≡ [] → Gathers μ (frozen_over g d) ms [] → Gathers μ (drafted g d x) ms []
all_laid μ g d x {ms} keys none (gathers K S) =
    gathers (keys ∙ K) (subst (λ (cs : List Change). EachStands μ (frozen_over g d).wait (all_changed (λ a. a) cs g.states.value.items) ms []) (sym none) S)

-- what holds of a draft that was made
pub when_drafted : {E : Type 0} {A B : Draft → Type 0} (r : Result (Option Draft) E) → ((x : Draft) → A x → B x) → IfOk r (λ o. IfSome o A) → IfOk r (λ o. IfSome o B)
when_drafted (Ok (Some x)) f h = f x h
when_drafted (Ok None) f h = tt
when_drafted (Err e) f h = tt
