-- Members among others, under their keys.
use Rattle.std.proofs.Common.{◌≡◌, ℕ, suc, ◌<◌, Bool, true, false, cond, List, [], ◌∷◌, ◌++◌, Option, Some, None, option_map, length, set, refl, sym, ap, ◌∙◌, subst, arith}
use Rattle.std.specs.List.{remove}
use Rattle.sf_value.specs.Values.{KeyData}
use Rattle.sf_value.specs.Keys.{equal_keys, key_index}
use Rattle.sf_value.proofs.Under.{equal_keys-Decides}
use Rattle.sf_mean.specs.Lives.{Life, Process, Members, no_members, member}
use Rattle.sf_mean.specs.Collections.{add, drop}
use Rattle.sf_state.specs.declared.state.State.{State}
use Rattle.sf_state.specs.declared.state.Gathered.{Gathered}
use Rattle.sf_state.proofs.Copies.{each_follows}
use Rattle.sf_state.specs.Standing.{Stands, gathers, EachStands, none_stands, one_stands, StandsAmong, as_it_stands, as_it_stood, AllFollow, keys_in}
use Rattle.sf_state.specs.Machine.{Machine}
use Rattle.sf_begin.specs.Collecting.{HasMembers}

-- ## One more member

record Later (o : Option ℕ) (i : ℕ) : Type 0 where
  j : ℕ
  is : o ≡ Some j
  at : i ≡ suc j

later : (o : Option ℕ) {i : ℕ} → option_map suc o ≡ Some i → Later o i
later None e = absurd cc
later (Some j) {i} e = let f : suc j ≡ i = cc in record { j = j; is = refl; at = sym f }

none_later : (o : Option ℕ) → option_map suc o ≡ None → o ≡ None
none_later None e = refl
none_later (Some j) e = absurd cc

some_at : {i j : ℕ} → Some i ≡ Some j → i ≡ j
some_at e = cc

-- one that hasn't lived stands among those that wait as among others
pub among_new : {μ : Machine} {a : State} {P : Process} (w : Option ℕ) → Stands μ a P [] → StandsAmong μ w a P []
among_new None A = as_it_stands A
among_new (Some d) A = as_it_stood A refl

module _ (μ : Machine) (w : Option ℕ) (k : KeyData) (P : Process) (a : State) (new : StandsAmong μ w a P []) where
  pub record Placed (cs : List State) (ms : Members) (ls : List KeyData) : Type 0 where
    pub stand : EachStands μ w cs ms []
    pub keys : keys_in ms ≡ ls

  put_here : (b : Bool) {l : KeyData} {Q : Process} {b0 : State} {bs : List State} {ms : Members} {i : ℕ} → equal_keys k l ≡ b → StandsAmong μ w b0 Q [] → EachStands μ w bs ms []
      → ((j : ℕ) → key_index k (keys_in ms) ≡ Some j → Placed (set bs j a) (add k P ms) (keys_in ms))
      → cond b (Some 0) (option_map suc (key_index k (keys_in ms))) ≡ Some i → Placed (set (b0 ∷ bs) i a) (cond b (member k P ms) (member l Q (add k P ms))) (l ∷ keys_in ms)
  put_here true {l} {Q} {b0} {bs} {ms} {i} h A S more e =
      let same : k ≡ l = (equal_keys-Decides k l).0 h in
      subst (λ i. Placed (set (b0 ∷ bs) i a) (member k P ms) (l ∷ keys_in ms)) (some_at e) (record { stand = one_stands new S; keys = ap (λ k. k ∷ keys_in ms) same })
  put_here false {l} {Q} {b0} {bs} {ms} {i} h A S more e =
      let g = later (key_index k (keys_in ms)) e in
      let rest = more g.j g.is in
      subst (λ i. Placed (set (b0 ∷ bs) i a) (member l Q (add k P ms)) (l ∷ keys_in ms)) (sym g.at) (record { stand = one_stands A rest.stand; keys = ap (λ ls. l ∷ ls) rest.keys })

  -- in the place of the one under its key
  pub put_at : {bs : List State} {ms : Members} → EachStands μ w bs ms [] → (i : ℕ) → key_index k (keys_in ms) ≡ Some i → Placed (set bs i a) (add k P ms) (keys_in ms)
  put_at none_stands i e = absurd cc
  put_at (one_stands {k = l} A S) i e = put_here (equal_keys k l) refl A S (put_at S) e

  put_later : (b : Bool) {l : KeyData} {Q : Process} {b0 : State} {bs : List State} {ms : Members} → equal_keys k l ≡ b → StandsAmong μ w b0 Q [] → EachStands μ w bs ms []
      → (key_index k (keys_in ms) ≡ None → Placed (bs ++ a ∷ []) (add k P ms) (keys_in ms ++ k ∷ []))
      → cond b (Some 0) (option_map suc (key_index k (keys_in ms))) ≡ None → Placed (b0 ∷ bs ++ a ∷ []) (cond b (member k P ms) (member l Q (add k P ms))) (l ∷ keys_in ms ++ k ∷ [])
  put_later true h A S more e = absurd cc
  put_later false {l} {ms = ms} h A S more e = let rest = more (none_later (key_index k (keys_in ms)) e) in record { stand = one_stands A rest.stand; keys = ap (λ ls. l ∷ ls) rest.keys }

  -- at the end
  pub put_last : {bs : List State} {ms : Members} → EachStands μ w bs ms [] → key_index k (keys_in ms) ≡ None → Placed (bs ++ a ∷ []) (add k P ms) (keys_in ms ++ k ∷ [])
  put_last none_stands e = record { stand = one_stands new none_stands; keys = refl }
  put_last (one_stands {k = l} A S) e = put_later (equal_keys k l) refl A S (put_last S) e

module _ (μ : Machine) (w : Option ℕ) (k : KeyData) where
  short_here : (b : Bool) (bs : List State) (ms : Members) {i : ℕ} → ((j : ℕ) → key_index k (keys_in ms) ≡ Some j → j < length bs) → cond b (Some 0) (option_map suc (key_index k (keys_in ms))) ≡ Some i → i < suc (length bs)
  short_here true bs ms more e = let f = some_at e in omega (arith, f)
  short_here false bs ms more e = let g = later (key_index k (keys_in ms)) e in omega (arith, g.at, more g.j g.is)

  -- a place is one of theirs
  pub place_short : {bs : List State} {ms : Members} {L : Life} → EachStands μ w bs ms L → (i : ℕ) → key_index k (keys_in ms) ≡ Some i → i < length bs
  place_short none_stands i e = absurd cc
  place_short (one_stands {k = l} A S) i e = short_here (equal_keys k l) _ _ (place_short S) e

module _ (μ : Machine) (g : Gathered) (k : KeyData) (own : List State) (fs : AllFollow μ g.states.value.items own) where
  module _ (a : State) (h : Gathered) (wait : h.wait ≡ g.wait) where
    waits_as_well : {bs : List State} {ms : Members} → EachStands μ g.wait bs ms [] → h.states.value.items ≡ bs → EachStands μ h.wait h.states.value.items ms []
    waits_as_well {bs} {ms} S same =
        subst (λ v. EachStands μ v h.states.value.items ms []) (sym wait) (subst (λ (bs : List State). EachStands μ g.wait bs ms []) (sym same) S)

    -- the members have one in its place
    pub member_put : (i : ℕ) → key_index k g.keys.value ≡ Some i → h.keys.value ≡ g.keys.value → (i < length own → h.states.value.items ≡ set own i a) → (ms : Members) (P : Process) → HasMembers μ g ms → Stands μ a P [] → HasMembers μ h (add k P ms)
    member_put i e keys put ms P (gathers K S) A =
        let all = each_follows μ fs S in
        let at = ap (key_index k) (sym K) ∙ e in
        let R = put_at μ g.wait k P a (among_new g.wait A) all i at in
        gathers (keys ∙ K ∙ sym R.keys) (waits_as_well R.stand (put (place_short μ g.wait k all i at)))

    -- the members have one more at the end
    pub member_pushed : key_index k g.keys.value ≡ None → h.keys.value ≡ g.keys.value ++ k ∷ [] → h.states.value.items ≡ own ++ a ∷ [] → (ms : Members) (P : Process) → HasMembers μ g ms → Stands μ a P [] → HasMembers μ h (add k P ms)
    member_pushed e keys pushed ms P (gathers K S) A =
        let R = put_last μ g.wait k P a (among_new g.wait A) (each_follows μ fs S) (ap (key_index k) (sym K) ∙ e) in
        gathers (keys ∙ ap (λ ls. ls ++ k ∷ []) K ∙ sym R.keys) (waits_as_well R.stand pushed)

-- ## One member less

module _ (μ : Machine) (w : Option ℕ) (k : KeyData) where
  pub record Left (cs : List State) (ms : Members) (ls : List KeyData) : Type 0 where
    pub stand : EachStands μ w cs ms []
    pub keys : keys_in ms ≡ ls

  take_here : (b : Bool) (l : KeyData) {Q : Process} {b0 : State} {bs : List State} {ms : Members} {i : ℕ} → StandsAmong μ w b0 Q [] → EachStands μ w bs ms []
      → ((j : ℕ) → key_index k (keys_in ms) ≡ Some j → Left (remove bs j) (drop k ms) (remove (keys_in ms) j))
      → cond b (Some 0) (option_map suc (key_index k (keys_in ms))) ≡ Some i → Left (remove (b0 ∷ bs) i) (cond b ms (member l Q (drop k ms))) (remove (l ∷ keys_in ms) i)
  take_here true l {Q} {b0} {bs} {ms} {i} A S more e = subst (λ i. Left (remove (b0 ∷ bs) i) ms (remove (l ∷ keys_in ms) i)) (some_at e) (record { stand = S; keys = refl })
  take_here false l {Q} {b0} {bs} {ms} {i} A S more e =
      let g = later (key_index k (keys_in ms)) e in
      let rest = more g.j g.is in
      subst (λ i. Left (remove (b0 ∷ bs) i) (member l Q (drop k ms)) (remove (l ∷ keys_in ms) i)) (sym g.at) (record { stand = one_stands A rest.stand; keys = ap (λ ls. l ∷ ls) rest.keys })

  -- without the one under its key
  pub take_at_key : {bs : List State} {ms : Members} → EachStands μ w bs ms [] → (i : ℕ) → key_index k (keys_in ms) ≡ Some i → Left (remove bs i) (drop k ms) (remove (keys_in ms) i)
  take_at_key none_stands i e = absurd cc
  take_at_key (one_stands {k = l} A S) i e = take_here (equal_keys k l) l A S (take_at_key S) e

none_here : (b : Bool) (k l : KeyData) (Q : Process) (ms : Members) → (key_index k (keys_in ms) ≡ None → drop k ms ≡ ms) → cond b (Some 0) (option_map suc (key_index k (keys_in ms))) ≡ None → cond b ms (member l Q (drop k ms)) ≡ member l Q ms
none_here true k l Q ms more e = absurd cc
none_here false k l Q ms more e = ap (member l Q) (more (none_later (key_index k (keys_in ms)) e))

-- there is none under a key
pub none_to_drop : (k : KeyData) (ms : Members) → key_index k (keys_in ms) ≡ None → drop k ms ≡ ms
none_to_drop k no_members e = refl
none_to_drop k (member l Q ms) e = none_here (equal_keys k l) k l Q ms (none_to_drop k ms) e

module _ (μ : Machine) (g : Gathered) (k : KeyData) where
  -- the members without one
  pub member_dropped : (own : List State) → AllFollow μ g.states.value.items own → (h : Gathered) → h.wait ≡ g.wait → (i : ℕ) → h.keys.value ≡ remove g.keys.value i → (i < length own → h.states.value.items ≡ remove own i)
      → (ms : Members) → key_index k g.keys.value ≡ Some i → HasMembers μ g ms → HasMembers μ h (drop k ms)
  member_dropped own fs h wait i keys taken ms e (gathers K S) =
      let all = each_follows μ fs S in
      let at = ap (key_index k) (sym K) ∙ e in
      let R = take_at_key μ g.wait k all i at in
      gathers (keys ∙ ap (λ ls. remove ls i) K ∙ sym R.keys)
      (subst (λ v. EachStands μ v h.states.value.items (drop k ms) []) (sym wait) (subst (λ (bs : List State). EachStands μ g.wait bs (drop k ms) []) (sym (taken (place_short μ g.wait k all i at))) R.stand))

  -- no member is under the key
  pub member_missing : key_index k g.keys.value ≡ None → (ms : Members) → HasMembers μ g ms → HasMembers μ g (drop k ms)
  member_missing e ms (gathers K S) = subst (λ ms. HasMembers μ g ms) (sym (none_to_drop k ms (ap (key_index k) (sym K) ∙ e))) (gathers K S)
